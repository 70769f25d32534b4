-- Each call by the table of its refusals is the call by cases of what it names.
use Rattle.std.specs.Prelude.{◌≡◌, Bool, ℕ, ◌+◌, ◌*◌, Option, Some, None, Ok, Err, Result}
use Rattle.std.proofs.Math.Path.{refl}
use Rattle.std.proofs.Common.{ap, ◌∙◌}
use Rattle.std.proofs.Math.Bool.{true, false, cond}
use Rattle.std.proofs.Math.Dec.{leb}
use Rattle.port_tables.specs.Limits.{node_ports, Limits}
use Rattle.port_tables.specs.Entries.{same_side, meta_of_entry}
use Rattle.portgraph.specs.Lookups.{meta_at, entry_at}
use Rattle.portgraph.specs.Calls.{find_slot_under, find_block_under, add_node_under, link_ports}
use Rattle.portgraph.specs.Resize.{plan_of_under, set_num_ports_under}
use Rattle.port_tables.specs.ResizeLinks.{round_up, same_counts, fits_inside}
use Rattle.port_tables.specs.declared.node_entry.NodeEntry.{NodeEntry}
use Rattle.port_tables.specs.declared.node_entry.NodeEntry.TheVariants as node_variants
use Rattle.portgraph.specs.declared.portgraph.PortGraph.{PortGraph}
use Rattle.multiportgraph.specs.Reading.{side_of, is_hidden, seen, end_at, as_read}
use Rattle.multi_tables.specs.Forms.{Port, dead, hidden, visible, End, inner, lacking, good_offset}
use Rattle.multiportgraph.specs.Graph.{with_graph}
use Rattle.multiportgraph.specs.HiddenNodes.{Prepared, ready, full, prepare_under}
use Rattle.multiportgraph.specs.Refusals.{inner_port, end_of, joining, on_one_side, one_linked, refused_below}
use Rattle.multiportgraph.specs.Calls.{joined, added_as, add_block_under, remove_block, set_counts_under, cut_sub, subport_link, link_pair_if, link_clean_if, link_sub_if, tidy_port}
use Rattle.multiportgraph.specs.Cases.{remove_meta, set_refused, set_meta_under, link_refused, link_prepared, link_second, link_first, link_seen_under, link_inner, link_second_end, link_first_end, link_sub_seen, cut_refused, cut_sub_seen, link_of_seen, link_live_under, link_clean_by, taken_sub_seen, tidy_seen}
use Rattle.multi_tables.specs.NamedEnds.{pair_seen, taken_seen, taken_second, taken_first}
use Rattle.multiportgraph.specs.declared.multiportgraph.MultiPortGraph.{MultiPortGraph}
use Rattle.multi_tables.specs.declared.answers.SubportIndex.{SubportIndex}
use Rattle.multiportgraph.specs.declared.multiportgraph.NodeAdded.{NodeAdded}
use Rattle.multi_tables.specs.declared.answers.Refusal.TheVariants.{BadOffset, TooManyPorts, InputWired}
use Rattle.port_tables.specs.declared.node_entry.NodeMeta.{NodeMeta}
use Rattle.portgraph.specs.declared.portgraph.LinkError.TheVariants as link_error
use Rattle.port_tables.specs.declared.index.PortIndex.{PortIndex}
use Rattle.portgraph.specs.declared.portgraph.LinkError.{LinkError}

module _ (m : MultiPortGraph) (p : ℕ) where
  pub tidy_cases : tidy_port m p ≡ tidy_seen m p (seen m p)
  unfolding tidy_port
  tidy_cases = go (seen m p) refl
    where
      go : (u : Port) → seen m p ≡ u → tidy_port m p ≡ tidy_seen m p u
      go dead e = rw e refl
      go hidden e = rw e refl
      go (visible n d) e = rw e refl

  module _ (o : ℕ) where
    pub cut_sub_cases : cut_sub m p o ≡ cond (good_offset o) (cut_sub_seen m p o (seen m p)) (cut_refused m BadOffset)
    unfolding cut_sub
    cut_sub_cases = good (good_offset o) refl
      where
        good : (g : Bool) → good_offset o ≡ g → cut_sub m p o ≡ cond g (cut_sub_seen m p o (seen m p)) (cut_refused m BadOffset)
        good false h = rw h refl
        good true h = go (seen m p) refl
          where
            go : (u : Port) → seen m p ≡ u → cut_sub m p o ≡ cut_sub_seen m p o u
            go dead e = rw (h, e) refl
            go hidden e = rw (h, e) refl
            go (visible n d) e = at (end_at m p d o) refl
              where
                at : (v : End) → end_at m p d o ≡ v → cut_sub m p o ≡ cut_sub_seen m p o (visible n d)
                at lacking f = rw (h, e, f) refl
                at (inner x) f = rw (h, e, f) refl

    pub subport_link_cases : subport_link m p o ≡ cond (good_offset o) (link_of_seen m p o (seen m p)) (Err BadOffset)
    unfolding subport_link
    subport_link_cases = good (good_offset o) refl
      where
        good : (g : Bool) → good_offset o ≡ g → subport_link m p o ≡ cond g (link_of_seen m p o (seen m p)) (Err BadOffset)
        good false h = rw h refl
        good true h = go (seen m p) refl
          where
            go : (u : Port) → seen m p ≡ u → subport_link m p o ≡ link_of_seen m p o u
            go dead e = rw (h, e) refl
            go hidden e = rw (h, e) refl
            go (visible n d) e = at (end_at m p d o) refl
              where
                at : (v : End) → end_at m p d o ≡ v → subport_link m p o ≡ link_of_seen m p o (visible n d)
                at lacking f = rw (h, e, f) refl
                at (inner x) f = rw (h, e, f) refl

module _ (L : Limits) (m : MultiPortGraph) where
  -- a refused add changes nothing, so the graph is the lower call's whatever it answers
  pub add_cases : (i o : ℕ) →
      add_block_under L m i o ≡ record { graph = with_graph m (add_node_under L m.graph i o).graph; answer = added_as (add_node_under L m.graph i o).answer }
  unfolding add_block_under add_node_under
  add_cases i o = few (leb (i + o) node_ports) refl
    where
      Done : NodeAdded
      Done = record { graph = with_graph m (add_node_under L m.graph i o).graph; answer = added_as (add_node_under L m.graph i o).answer }

      few : (b : Bool) → leb (i + o) node_ports ≡ b → add_block_under L m i o ≡ Done
      few false h = rw h refl
      few true h = slot (find_slot_under L m.graph.node_free m.graph.node_len) refl
        where
          slot : (u : Option ℕ) → find_slot_under L m.graph.node_free m.graph.node_len ≡ u → add_block_under L m i o ≡ Done
          slot None e = rw (h, e) refl
          slot (Some n) e = block (find_block_under L m.graph.port_free m.graph.port_len (i + o)) refl
            where
              block : (v : Option ℕ) → find_block_under L m.graph.port_free m.graph.port_len (i + o) ≡ v → add_block_under L m i o ≡ Done
              block None f = rw (h, e, f) refl
              block (Some first) f = rw (h, e, f) refl

  pub set_cases : (n i o room : ℕ) →
      set_counts_under L m n i o room ≡ cond (leb (i + o) node_ports) (set_meta_under L m n i o room (meta_at m.graph n)) (set_refused m TooManyPorts)
  unfolding set_counts_under set_num_ports_under plan_of_under
  set_cases n i o room = few (leb (i + o) node_ports) refl
    where
      few : (b : Bool) → leb (i + o) node_ports ≡ b →
          set_counts_under L m n i o room ≡ cond b (set_meta_under L m n i o room (meta_at m.graph n)) (set_refused m TooManyPorts)
      few false h = rw h refl
      few true h = there (entry_at m.graph n) refl
        where
          there : (v : NodeEntry) → entry_at m.graph n ≡ v → set_counts_under L m n i o room ≡ set_meta_under L m n i o room (meta_of_entry v)
          there (node_variants.Free x) e = rw (h, e) refl
          there (node_variants.Node k) e = shown (is_hidden m n) refl
            where
              Same : Type 0
              Same = set_counts_under L m n i o room ≡ set_meta_under L m n i o room (Some k)

              shown : (b : Bool) → is_hidden m n ≡ b → Same
              shown true f = rw (h, e, f) refl
              shown false f = long (leb (3 * (k.incoming + k.outgoing)) room) refl
                where
                  long : (b : Bool) → leb (3 * (k.incoming + k.outgoing)) room ≡ b → Same
                  long false l = rw (h, e, f, l) refl
                  long true l = equal (same_counts k i o) refl
                    where
                      equal : (b : Bool) → same_counts k i o ≡ b → Same
                      equal true s = rw (h, e, f, l, s) refl
                      equal false s = within (fits_inside k i o) refl
                        where
                          within : (b : Bool) → fits_inside k i o ≡ b → Same
                          within true u = rw (h, e, f, l, s, u) refl
                          within false u = block (find_block_under L m.graph.port_free m.graph.port_len (round_up (i + o))) refl
                            where
                              block : (v : Option ℕ) → find_block_under L m.graph.port_free m.graph.port_len (round_up (i + o)) ≡ v → Same
                              block None w = rw (h, e, f, l, s, u, w) refl
                              block (Some first) w = rw (h, e, f, l, s, u, w) refl

  pub link_cases : (a b : ℕ) → link_pair_if false L m a b ≡ link_seen_under L m a b (seen m a) (seen m b)
  unfolding link_pair_if
  link_cases a b = go (seen m a) refl (seen m b) refl
    where
      go : (u : Port) → seen m a ≡ u → (v : Port) → seen m b ≡ v → link_pair_if false L m a b ≡ link_seen_under L m a b u v
      go dead e v f = rw e refl
      go hidden e v f = rw e refl
      go (visible n d) e hidden f = rw (e, f) refl
      go (visible n d) e dead f = first (prepare_under L m a d) refl
        where
          first : (P : Prepared) → prepare_under L m a d ≡ P → link_pair_if false L m a b ≡ link_first m b P
          first full h = rw (e, f, h) refl
          first (ready m₁ x o) h = rw (e, f, h) refl
      go (visible n d) e (visible k s) f = first (prepare_under L m a d) refl
        where
          first : (P : Prepared) → prepare_under L m a d ≡ P → link_pair_if false L m a b ≡ link_live_under L m a d b s P
          first full h = rw (e, f, h) refl
          first (ready m₁ x o) h = second (prepare_under L m₁ b s) refl
            where
              second : (Q : Prepared) → prepare_under L m₁ b s ≡ Q → link_pair_if false L m a b ≡ link_second m a d x o b s Q
              second full i = rw (e, f, h, i) refl
              second (ready m₂ y r) i = sides (same_side d s) refl
                where
                  sides : (c : Bool) → same_side d s ≡ c → link_pair_if false L m a b ≡ link_prepared m₂ a d x o b s y r
                  sides true j = rw (e, f, h, i, j) refl
                  sides false j = rw (e, f, h, i, j) refl

  -- where an input named has a wire, under release 2
  pub link_taken : (a b : ℕ) → link_pair_if true L m a b ≡ link_refused m (taken_seen a b (seen m a) (seen m b))
  unfolding link_pair_if
  link_taken a b = go (seen m a) refl (seen m b) refl
    where
      go : (u : Port) → seen m a ≡ u → (v : Port) → seen m b ≡ v → link_pair_if true L m a b ≡ link_refused m (taken_seen a b u v)
      go dead e v f = rw e refl
      go hidden e v f = rw e refl
      go (visible n d) e hidden f = rw (e, f) refl
      go (visible n d) e dead f = rw (e, f) refl
      go (visible n d) e (visible k s) f = rw (e, f) refl

  -- leaving no stub
  module _ (a b : ℕ) where
    pub link_clean_taken : link_clean_if true L m a b ≡ link_refused m (taken_seen a b (seen m a) (seen m b))
    unfolding link_clean_if
    link_clean_taken = go (seen m a) refl (seen m b) refl
      where
        go : (u : Port) → seen m a ≡ u → (v : Port) → seen m b ≡ v → link_clean_if true L m a b ≡ link_refused m (taken_seen a b u v)
        go dead e v f = rw e refl
        go hidden e v f = rw e refl
        go (visible n d) e hidden f = rw (e, f) refl
        go (visible n d) e dead f = rw (e, f) refl
        go (visible n d) e (visible k s) f = rw (e, f) refl

    pub link_clean_cases : link_clean_if false L m a b ≡ link_clean_by L m a b (pair_seen a b (seen m a) (seen m b))
    unfolding link_clean_if link_pair_if
    link_clean_cases = go (seen m a) refl (seen m b) refl
      where
        go : (u : Port) → seen m a ≡ u → (v : Port) → seen m b ≡ v → link_clean_if false L m a b ≡ link_clean_by L m a b (pair_seen a b u v)
        go dead e v f = rw e refl
        go hidden e v f = rw e refl
        go (visible n d) e hidden f = rw (e, f) refl
        go (visible n d) e dead f = rw (e, f) refl
        go (visible n d) e (visible k s) f = sides (same_side d s) refl
          where
            sides : (c : Bool) → same_side d s ≡ c → link_clean_if false L m a b ≡ link_clean_by L m a b (pair_seen a b (visible n d) (visible k s))
            sides true j = rw (e, f, j) refl
            sides false j = rw (e, f, j, e, f, j) refl

pub remove_cases : (m : MultiPortGraph) (n : ℕ) → remove_block m n ≡ remove_meta m n (meta_at m.graph n)
unfolding remove_block
remove_cases m n = go (meta_at m.graph n) refl
  where
    go : (v : Option NodeMeta) → meta_at m.graph n ≡ v → remove_block m n ≡ remove_meta m n v
    go None e = rw e refl
    go (Some k) e = rw e refl

-- what the single-link graph refuses is refused; else it is done
join_cases : (m : MultiPortGraph) (a : Result (PortIndex × PortIndex) LinkError) (g : PortGraph) (s t : SubportIndex) →
    cond (on_one_side a) (link_refused m (refused_below a)) (cond (one_linked a) (link_refused m (refused_below a)) (joined m a g s t)) ≡ link_inner m s t a g
join_cases m (Ok (x, y)) g s t = refl
join_cases m (Err (link_error.UnknownPort x)) g s t = refl
join_cases m (Err (link_error.UnknownSecondPort y)) g s t = refl
join_cases m (Err (link_error.IncompatibleDirections x y d)) g s t = refl
join_cases m (Err (link_error.AlreadyLinked x)) g s t = refl

pub link_sub_cases : (m : MultiPortGraph) (p o q r : ℕ) →
    link_sub_if false m p o q r ≡ cond (good_offset o) (cond (good_offset r) (link_sub_seen m p o q r (seen m p) (seen m q)) (link_refused m BadOffset)) (link_refused m BadOffset)
unfolding link_sub_if
link_sub_cases m p o q r = first (good_offset o) refl
  where
    first : (g : Bool) → good_offset o ≡ g →
        link_sub_if false m p o q r ≡ cond g (cond (good_offset r) (link_sub_seen m p o q r (seen m p) (seen m q)) (link_refused m BadOffset)) (link_refused m BadOffset)
    first false h = rw h refl
    first true h = second (good_offset r) refl
      where
        second : (g : Bool) → good_offset r ≡ g → link_sub_if false m p o q r ≡ cond g (link_sub_seen m p o q r (seen m p) (seen m q)) (link_refused m BadOffset)
        second false k = rw (h, k) refl
        second true k = go (seen m p) refl (seen m q) refl
          where
            go : (u : Port) → seen m p ≡ u → (v : Port) → seen m q ≡ v → link_sub_if false m p o q r ≡ link_sub_seen m p o q r u v
            go dead e v f = rw (h, k, e) refl
            go hidden e v f = rw (h, k, e) refl
            go (visible n d) e hidden f = rw (h, k, e, f) refl
            go (visible n d) e dead f = there (end_at m p d o) refl
              where
                there : (x : End) → end_at m p d o ≡ x → link_sub_if false m p o q r ≡ link_first_end m p o q r dead x
                there lacking i = rw (h, k, e, f, i) refl
                there (inner x) i = rw (h, k, e, f, i) refl
            go (visible n d) e (visible s c) f = there (end_at m p d o) refl
              where
                there : (x : End) → end_at m p d o ≡ x → link_sub_if false m p o q r ≡ link_first_end m p o q r (visible s c) x
                there lacking i = rw (h, k, e, f, i) refl
                there (inner x) i = also (end_at m q c r) refl
                  where
                    also : (y : End) → end_at m q c r ≡ y → link_sub_if false m p o q r ≡ link_second_end m p o q r x y
                    also lacking j = rw (h, k, e, f, i, j) refl
                    also (inner y) j =
                        let xs : end_of m p o ≡ x = ap (λ (u : Port). inner_port (end_at m p (side_of u) o)) e ∙ ap inner_port i in
                        let ys : end_of m q r ≡ y = ap (λ (u : Port). inner_port (end_at m q (side_of u) r)) f ∙ ap inner_port j in
                        rw (h, k, e, f, i, j)
                        (join_cases m (joining m p o q r) (link_ports m.graph x y).graph (as_read m p o) (as_read m q r)
                        ∙ (λ z. link_inner m (as_read m p o) (as_read m q r) (link_ports m.graph (xs z) (ys z)).answer (link_ports m.graph x y).graph))

pub link_sub_taken : (m : MultiPortGraph) (p o q r : ℕ) →
    link_sub_if true m p o q r
    ≡ link_refused m (cond (good_offset o) (cond (good_offset r) (taken_sub_seen m p o q r (seen m p) (seen m q)) BadOffset) BadOffset)
unfolding link_sub_if
link_sub_taken m p o q r = first (good_offset o) refl
  where
    first : (g : Bool) → good_offset o ≡ g →
        link_sub_if true m p o q r ≡ link_refused m (cond g (cond (good_offset r) (taken_sub_seen m p o q r (seen m p) (seen m q)) BadOffset) BadOffset)
    first false h = rw h refl
    first true h = second (good_offset r) refl
      where
        second : (g : Bool) → good_offset r ≡ g → link_sub_if true m p o q r ≡ link_refused m (cond g (taken_sub_seen m p o q r (seen m p) (seen m q)) BadOffset)
        second false k = rw (h, k) refl
        second true k = go (seen m p) refl (seen m q) refl
          where
            go : (u : Port) → seen m p ≡ u → (v : Port) → seen m q ≡ v → link_sub_if true m p o q r ≡ link_refused m (taken_sub_seen m p o q r u v)
            go dead e v f = rw (h, k, e) refl
            go hidden e v f = rw (h, k, e) refl
            go (visible n d) e hidden f = rw (h, k, e, f) refl
            go (visible n d) e dead f = there (end_at m p d o) refl
              where
                there : (x : End) → end_at m p d o ≡ x → link_sub_if true m p o q r ≡ link_refused m (taken_first p InputWired x)
                there lacking i = rw (h, k, e, f, i) refl
                there (inner x) i = rw (h, k, e, f, i) refl
            go (visible n d) e (visible s c) f = there (end_at m p d o) refl
              where
                there : (x : End) → end_at m p d o ≡ x → link_sub_if true m p o q r ≡ link_refused m (taken_first p (taken_second q (end_at m q c r)) x)
                there lacking i = rw (h, k, e, f, i) refl
                there (inner x) i = also (end_at m q c r) refl
                  where
                    also : (y : End) → end_at m q c r ≡ y → link_sub_if true m p o q r ≡ link_refused m (taken_second q y)
                    also lacking j = rw (h, k, e, f, i, j) refl
                    also (inner y) j = rw (h, k, e, f, i, j) refl
