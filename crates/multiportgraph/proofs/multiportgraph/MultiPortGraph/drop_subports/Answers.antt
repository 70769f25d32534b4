-- `multiportgraph::multiportgraph::MultiPortGraph::drop_subports` meets its contract: the hidden node is resized, and the copy port's mark moves.
use mathlib.Core.Path.{refl, ap}
use Prim.Native.Nat.{ℕ}
use Rattle.multiportgraph.specs.TidySteps.{drop_step}
use Rattle.multiportgraph.proofs.multiportgraph.MultiPortGraph.drop_subports.Goals as goal

pub returns : goal.returns
returns c =
    drop_step c.requires c.wide.ensures (rw c.link_table.ensures at c.far_in-copy.ensures) (rw c.owner_table.ensures at c.owner_in-node.ensures) (ap (λ (x : ℕ × ℕ). x.0) c.hidden_counts-incoming.ensures) (ap (λ (x : ℕ × ℕ). x.1) c.hidden_counts-incoming.ensures) refl c.set_num_ports_quiet_lent.ensures.0 c.wide-2.ensures (rw c.link_table-2.ensures at c.far_in-moved.ensures) refl refl refl c.put_marks.ensures c.saturating_sub.ensures c.saturating_sub-self.ensures
