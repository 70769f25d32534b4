-- What the leaves over one table compute, and what the lookups of the lower graph amount to, as the code's steps need it.
use Rattle.std.specs.Prelude.{◌≡◌, Bool, ℕ, length}
use Rattle.std.proofs.Math.Path.{sym, ap}
use Rattle.std.proofs.Common.{◌∙◌}
use Rattle.port_tables.specs.Limits.{port_slots, node_slots}
use Rattle.multiportgraph.specs.Reading.{is_hidden, is_split}
use Rattle.multi_tables.specs.Forms.{flag_at}
use Rattle.multiportgraph.specs.declared.multiportgraph.MultiPortGraph.{MultiPortGraph}
use Rattle.multi_tables.specs.FormSteps.{flag_is}

-- The words of Reading, from what the code looks up.
module _ (m : MultiPortGraph) where
  pub split_told : (p w : ℕ) (r q : Bool) → length m.multiport ≡ port_slots → w ≡ p → r ≡ flag_at m.multiport port_slots w → r ≡ q → is_split m p ≡ q
  unfolding is_split
  split_told p w r q long e f g =
      sym (flag_is m.multiport port_slots p long) ∙ ap (flag_at m.multiport port_slots) (sym e) ∙ sym f ∙ g

  pub hidden_told : (n w : ℕ) (r q : Bool) → length m.copy_node ≡ node_slots → w ≡ n → r ≡ flag_at m.copy_node node_slots w → r ≡ q → is_hidden m n ≡ q
  unfolding is_hidden
  hidden_told n w r q long e f g =
      sym (flag_is m.copy_node node_slots n long) ∙ ap (flag_at m.copy_node node_slots) (sym e) ∙ sym f ∙ g
