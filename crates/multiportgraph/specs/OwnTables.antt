-- The tables of a graph by value, as functions over tables take them.
use Rattle.std.specs.Prelude.{◌≡◌, Bool, List, ℕ}
use Rattle.multiportgraph.specs.declared.multiportgraph.MultiPortGraph.{MultiPortGraph}

-- what is read off them is read off the graph
pub read_off : (m : MultiPortGraph) {A : Type 0} (f : List Bool → List ℕ → List ℕ → List Bool → A) {marks : List Bool} {links owners : List ℕ} {flags : List Bool}
    → (marks ≡ m.multiport) × (links ≡ m.graph.port_link) × (owners ≡ m.graph.port_meta) × (flags ≡ m.copy_node)
    → f marks links owners flags ≡ f m.multiport m.graph.port_link m.graph.port_meta m.copy_node
read_off m f t = λ i. f (t.0 i) (t.1 i) (t.2 i) (t.3 i)
