-- The code's forms of what the definitions say: an enum or a struct for each.
use Rattle.std.specs.Prelude.{Bool, cond, List, ℕ, zero, suc, ◌+◌, eqb, Option, Some, None, Result, Ok, Err}
use Rattle.port_tables.specs.Tables.{at}
use Rattle.portgraph.specs.Lookups.{meta_at}
use Rattle.multiportgraph.specs.Reading.{is_hidden}
use Rattle.multiportgraph.specs.HiddenNodes as hiding
use Rattle.multiportgraph.specs.declared.multiportgraph.MultiPortGraph.{MultiPortGraph}
use Rattle.multi_tables.specs.declared.answers.Refusal.TheVariants.{UnknownNode, HiddenNode, NoRoom}
use Rattle.port_tables.specs.declared.node_entry.NodeMeta.{NodeMeta}
use Rattle.multi_tables.specs.declared.answers.Refusal.{Refusal}

-- how many of n slots from first on are left without those that hold no link above the highest that holds one
unfoldable pub linked_from : List ℕ → ℕ → ℕ → ℕ
linked_from t first zero = 0
linked_from t first (suc n) = cond (eqb (at t (first + n)) 0) (linked_from t first n) (suc n)

-- the graph after an end is prepared, with the inner port and its offset; without room that is told, and the graph is the one handed in
abbrev pub Prepared : Type 0
Prepared = MultiPortGraph × Result (ℕ × ℕ) Refusal

abbrev pub prepared_as : MultiPortGraph → hiding.Prepared → Prepared
prepared_as m (hiding.ready k q o) = (k, Ok (q, o))
prepared_as m hiding.full = (m, Err NoRoom)

abbrev pub block_in : Bool → Option NodeMeta → Result NodeMeta Refusal
block_in h None = Err UnknownNode
block_in h (Some k) = cond h (Err HiddenNode) (Ok k)

-- a block's meta data, or why the node is refused
unfoldable pub block_found : MultiPortGraph → ℕ → Result NodeMeta Refusal
block_found m n = block_in (is_hidden m n) (meta_at m.graph n)
