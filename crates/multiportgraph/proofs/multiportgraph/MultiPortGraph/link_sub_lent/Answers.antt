-- `multiportgraph::MultiPortGraph::link_sub_lent` meets its contract: a refusal, and two ends that are linked.
use mathlib.Core.Path.{refl}
use Rattle.port_tables.specs.TableSteps.{passed_on}
use Rattle.portgraph.specs.Numbered.{and_numbers}
use Rattle.multiportgraph.specs.Answers.{link_numbers}
use Rattle.multiportgraph.specs.InputSteps.{sub_refused, parts_untaken}
use Rattle.multiportgraph.proofs.multiportgraph.MultiPortGraph.link_sub_lent.Goals as goal

pub returns-in_err-x : goal.returns-in_err-x
returns-in_err-x c = let e = c.wire_tables.ensures in and_numbers link_numbers (parts_untaken (sub_refused c.requires _ _ _ _ (rw (e.0, e.1, e.2, e.3) at c.link_named_under.ensures) c.in_err-x.was) (refl, passed_on c.from_residual.ensures.1))
