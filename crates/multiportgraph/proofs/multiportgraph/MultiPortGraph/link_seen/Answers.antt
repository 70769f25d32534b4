-- `multiportgraph::multiportgraph::MultiPortGraph::link_seen` meets its contract, by how the second port is seen.
use mathlib.Core.Path.{sym}
use Rattle.std.specs.Prelude.{◌≡◌}
use Rattle.multi_tables.specs.Forms.{seen_as}
use Rattle.multiportgraph.specs.Reading.{seen}
use Rattle.multiportgraph.specs.NamedLaws.{seen_as_lem}
use Rattle.multiportgraph.specs.LinkMade.{link_parts, call_second_hidden, call_both, call_self}
use Rattle.multiportgraph.specs.InputSteps.{parts_untaken}
use Rattle.multiportgraph.proofs.multiportgraph.MultiPortGraph.link_seen.Goals as goal
use Rattle.multiportgraph.proofs.multiportgraph.MultiPortGraph.link_seen.Goals.{After-seen_in}

-- the second port as the graph tells it
told : (c : After-seen_in) → c.seen_in.result ≡ seen_as (seen c.args.self.now c.args.b.0)
told c = seen_as_lem c.requires.wf c.args.b.0 (let e = c.wire_tables.ensures in rw (e.2, e.3) at c.seen_in.ensures)

pub returns-then-a-b : goal.returns-then-a-b
returns-then-a-b c = parts_untaken (call_self c.requires c.args.b.0 (told (goal.at.returns-then-a-b c).After-seen_in) c.in-Visible.is c.if-a-b.true) c.link_self.ensures

pub returns-in-Hidden : goal.returns-in-Hidden
returns-in-Hidden c = link_parts (sym (call_second_hidden c.requires c.args.b.0 (told (goal.at.returns-in-Hidden c).After-seen_in) c.in-Hidden.is))

pub returns-else-a-b : goal.returns-else-a-b
returns-else-a-b c = parts_untaken (call_both c.requires c.args.b.0 (told (goal.at.returns-else-a-b c).After-seen_in) c.in-Visible.is) c.link_both.ensures
