-- The works of every call, in order; none where it is refused before 10.
use Rattle.std.specs.Prelude.{cond, List, [], ◌+◌, leb}
use Rattle.port_tables.specs.Limits.{node_ports}
use Rattle.portgraph.specs.Lookups.{meta_at}
use Rattle.multiportgraph.specs.Reading.{is_hidden, seen}
use Rattle.theorems.specs.Book as book
use Rattle.theorems.specs.Book.{Call, add_call, remove_call, set_call, link_clean_call, link_sub_call, cut_call, cut_sub_call, tidy_call}
use Rattle.multiportgraph.specs.Space.{Work, add_works, remove_works, told_works, link_works, link_clean_works, cut_seen_works, tidy_seen_works}
use Rattle.multiportgraph.specs.declared.multiportgraph.MultiPortGraph.{MultiPortGraph}

unfoldable pub works_of : MultiPortGraph → Call → List Work
works_of m (add_call i o) = cond (leb (i + o) node_ports) (add_works i o) []
works_of m (remove_call n) = cond (is_hidden m n) [] (remove_works m n)
works_of m (set_call n i o room) = cond (leb (i + o) node_ports) (cond (is_hidden m n) [] (told_works m n i o room (meta_at m.graph n))) []
works_of m (book.link_call a b) = link_works m a b
works_of m (link_clean_call a b) = link_clean_works m a b
works_of m (link_sub_call p o q r) = []
works_of m (cut_call p) = cut_seen_works m p (seen m p)
works_of m (cut_sub_call p o) = []
works_of m (tidy_call p) = tidy_seen_works m p (seen m p)
