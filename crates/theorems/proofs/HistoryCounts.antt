-- The counts of the graph against the book: after every list of calls the visible nodes, ports and links are as many as the
-- blocks, their ports and the wires that the history made and has not undone.
use Rattle.std.proofs.lemmas.List.{length-map}
use Rattle.std.specs.Prelude.{◌≡◌, true, ℕ, ◌+◌, length}
use Rattle.std.proofs.Common.{sym, ap, ◌∙◌, subst, arith}
use mathlib.Core.List.{List, map}
use Rattle.port_tables.specs.Lists.{range, Member}
use Rattle.portgraph.specs.Model.{Model}
use Rattle.port_tables.specs.declared.direction.Direction.TheVariants.{Incoming, Outgoing}
use Rattle.port_tables.specs.declared.node_entry.NodeMeta.{NodeMeta}
use Rattle.port_tables.specs.declared.release.Release.{Release}
use Rattle.multiportgraph.specs.Calls.{visible_nodes, visible_ports, visible_links}
use Rattle.multiportgraph.specs.Wires.{Walked, wire_places, walked, wires_walked, all_wires, ports_of_side}
use Rattle.theorems.specs.Book.{Call, Block, Book}
use Rattle.theorems.specs.History.{State, run}
use Rattle.port_tables.specs.Listing.{Apart, member_map, map_member, rising_map, once_apart}
use Rattle.multiportgraph.specs.WalkRule.{walk_is_listing, walked_is_wires, walked_once}
use Rattle.multiportgraph.specs.WellFormed.{BlockIs}
use Rattle.multiportgraph.specs.Ends.{ports_of_side_lem}
use Rattle.theorems.proofs.PortListing.{ListsBlocks, blocks_as_many, blocks_list, both_sides, by_blocks_lists, lists_as_long, ascending_lists, visible_ports_ascending}
use Rattle.multiportgraph.specs.CountLaws.{visible_nodes_lem, visible_links_lem}
use Rattle.theorems.proofs.WireRule.{OtherNode, Rel}
use Rattle.theorems.proofs.CallLaws.{rel_run}
use Rattle.multiportgraph.specs.declared.multiportgraph.MultiPortGraph.{MultiPortGraph}
use Rattle.theorems.specs.Claims.{ports_of_block, ports_in_book}
use Rattle.theorems.specs.BookLaws.{same_length}
use Rattle.multiportgraph.specs.ScanLaws.{flat_map_same, flat_map_map}

-- Wires.

length_walked : (m : MultiPortGraph) → walked m ≡ record { items = all_wires m; ended = true } → length (wires_walked m) ≡ length (all_wires m)
unfolding wires_walked
length_walked m e = length-map (walked m).items (wire_places m) ∙ ap (λ (r : Walked). length r.items) e

pub counted : (s : State) (M : Model) → Rel s.graph M s.book → visible_links s.graph ≡ length s.book.wires
counted s M r =
    let f = r.fine in
    visible_links_lem f
    ∙ (sym (length_walked s.graph (walk_is_listing f))
    ∙ same_length (wires_walked s.graph) s.book.wires (once_apart (wires_walked s.graph) (walked_once f)) (once_apart s.book.wires r.wires.once)
    (λ w i. r.wires.walks w ((walked_is_wires f w).0 i)) (λ w i. (walked_is_wires f w).1 (r.wires.booked w i)))

-- Blocks and ports.

abbrev node_of : Block → ℕ
node_of b = b.node

module _ {m : MultiPortGraph} {M : Model} {B : Book} (r : Rel m M B) where
  -- the book has the graph's blocks, each once
  book_lists : ListsBlocks m M (map node_of B.blocks)
  book_lists =
      record {
        once = rising_map OtherNode Apart node_of B.blocks r.blocks.once (λ a c i j l. l);
        only = λ n i.
            let e = member_map node_of n B.blocks i in
            let s = r.blocks.right e.0 e.1 in
            subst (λ (k : ℕ). (a : NodeMeta) × BlockIs m M k a) (sym e.2) (s.0, s.1);
        all = λ n k b. let s = r.blocks.all n k b in subst (λ (k : ℕ). Member k (map node_of B.blocks)) s.2 (map_member node_of s.0 B.blocks s.1);
      }

  nodes_counted : visible_nodes m ≡ length B.blocks
  nodes_counted = visible_nodes_lem r.fine ∙ (blocks_as_many (blocks_list r.fine) book_lists ∙ length-map B.blocks node_of)

  -- the ports of a block of the book are those that the graph lists
  book_ports : (b : Block) → Member b B.blocks → ports_of_block b ≡ both_sides m b.node
  book_ports b i =
      let s = r.blocks.right b i in
      let k = s.0 in
      let x = ports_of_side_lem r.fine b.node Incoming k s.1.1 in
      let y = ports_of_side_lem r.fine b.node Outgoing k s.1.1 in
      let p : k.first_port.0 + 0 ≡ k.first_port.0 = omega arith in
      let u : b.ins ≡ ports_of_side m Incoming b.node = s.2 ∙ sym (x ∙ ap (λ (a : ℕ). range a k.incoming) p) in
      let v : b.outs ≡ ports_of_side m Outgoing b.node = s.3 ∙ sym y in
      rw (u, v)

  ports_counted : visible_ports m ≡ length (ports_in_book B)
  ports_counted =
      visible_ports_ascending r.fine
      ∙ (lists_as_long (ascending_lists r.fine) (by_blocks_lists r.fine book_lists)
      ∙ ap length (sym (flat_map_same ports_of_block (λ b. both_sides m (node_of b)) B.blocks book_ports ∙ sym (flat_map_map (both_sides m) node_of B.blocks))))

-- Every history.

-- the visible links of every history are the wires of its book
pub visible_links_of_history : (release : Release) (calls : List Call) → visible_links (run release calls).graph ≡ length (run release calls).book.wires
visible_links_of_history release calls = counted (run release calls) (rel_run release calls).0 (rel_run release calls).1

-- the visible nodes are its blocks
pub visible_nodes_of_history : (release : Release) (calls : List Call) → visible_nodes (run release calls).graph ≡ length (run release calls).book.blocks
visible_nodes_of_history release calls = nodes_counted (rel_run release calls).1

-- the visible ports are those of its blocks
pub visible_ports_of_history : (release : Release) (calls : List Call) → visible_ports (run release calls).graph ≡ length (ports_in_book (run release calls).book)
visible_ports_of_history release calls = ports_counted (rel_run release calls).1
