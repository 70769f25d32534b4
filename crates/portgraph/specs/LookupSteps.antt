-- What the code reads of a graph, said of the definitions: the entries that it reads are those of the lookups,
-- and each way out of a lookup, of a link or of an unlink gives what the definition gives.
use Rattle.std.specs.Prelude.{◌≡◌, Bool, false, cond, List, map, ℕ, ◌+◌, ◌-◌, ◌≤◌, length, get_or, replicate, Option, Some, None, Result, Ok, Err}
use Rattle.std.proofs.Common.{sym, ◌∙◌, arith, eq-eqb, ne_eqb}
use Rattle.std.proofs.Math.Path.{ap}
use Rattle.std.proofs.lemmas.List.{length-map}
use Rattle.std.proofs.Math.ListN.{get_or-eq_default}
use Rattle.port_tables.specs.Limits.{node_slots, port_slots, free_lists}
use Rattle.port_tables.specs.Entries.{fresh_slot, port_entry, ports_on, same_side, port#, meta_of_entry}
use Rattle.port_tables.specs.Tables.{at, cut, link_both, link_count}
use Rattle.port_tables.specs.TableSteps.{at_outside}
use Rattle.portgraph.specs.Model.{Wf}
use Rattle.portgraph.specs.Lookups.{meta_at, port_at, start_of, port_link}
use Rattle.portgraph.specs.Calls.{new_graph, with_links, link_refused, link_free, link_entries, link_sides, link_ports, unlink_entry, unlink_port}
use Rattle.port_tables.specs.ResizeLinks.{BlockFits}
use Rattle.portgraph.specs.WfFacts.{block_fits}
use Rattle.port_tables.specs.declared.direction.Direction.{Direction}
use Rattle.port_tables.specs.declared.direction.Direction.TheVariants.{Incoming, Outgoing}
use Rattle.port_tables.specs.declared.node_entry.NodeSlot.{NodeSlot}
use Rattle.port_tables.specs.declared.node_entry.NodeMeta.{NodeMeta}
use Rattle.port_tables.specs.declared.node_entry.NodeEntry.{NodeEntry}
use Rattle.port_tables.specs.declared.node_entry.NodeEntry.TheVariants as node_variants
use Rattle.port_tables.specs.declared.port_entry.PortMeta.{PortMeta}
use Rattle.port_tables.specs.declared.port_entry.PortEntry.{PortEntry}
use Rattle.port_tables.specs.declared.port_entry.PortEntry.TheVariants as port_variants
use Rattle.portgraph.specs.declared.portgraph.PortGraph.{PortGraph}
use Rattle.portgraph.specs.declared.portgraph.PortsLinked.{PortsLinked}
use Rattle.portgraph.specs.declared.portgraph.PortUnlinked.{PortUnlinked}
use Rattle.port_tables.specs.declared.index.PortIndex.{PortIndex}
use Rattle.portgraph.specs.declared.portgraph.NoSuchPort.{NoSuchPort}
use Rattle.portgraph.specs.declared.portgraph.LinkError.TheVariants as link_error

-- the empty graph with a given slot in its node table
abbrev pub graph_of : NodeSlot → PortGraph
graph_of s =
    record {
      node_meta = replicate node_slots s;
      port_link = replicate port_slots 0;
      port_meta = replicate port_slots 0;
      port_free = replicate free_lists 0;
      node_free = 0;
      node_len = 0;
      port_len = 0;
      node_count = 0;
      port_count = 0;
      link_count = 0;
    }

pub graph_of_fresh : (s : NodeSlot) → s ≡ fresh_slot → graph_of s ≡ new_graph
unfolding new_graph
graph_of_fresh s e = ap graph_of e

-- Entries.

-- a list is as long as what is made of each of its elements
pub length_of_map : (X Y : Type 0) (f : X → Y) (l : List X) (n : ℕ) → length (map f l) ≡ n → length l ≡ n
length_of_map X Y f l n h = sym (length-map l f) ∙ h

pub node_outside : (l : List NodeSlot) (n w : ℕ) → length l ≡ node_slots → w ≡ n → node_slots ≤ w → None ≡ meta_of_entry (get_or l n fresh_slot).entry
node_outside l n w long e h =
    ap (λ (s : NodeSlot). meta_of_entry s.entry) (sym (get_or-eq_default l fresh_slot {n = n} (omega arith)))

pub entry_of_meta : (e : NodeEntry) (m : NodeMeta) → Some m ≡ meta_of_entry e → e ≡ node_variants.Node m
entry_of_meta (node_variants.Free f) m h = let z : ◌≡◌ {A = ℕ} 0 1 = cc in absurd (omega arith)
entry_of_meta (node_variants.Node k) m h = cc

-- the block of a node that is found lies within the tables
pub found_block_fits : (g : PortGraph) → Wf g → (n : ℕ) (m : NodeMeta) → Some m ≡ meta_at g n → BlockFits m
found_block_fits g w n m h = block_fits g w n m (entry_of_meta (get_or g.node_meta n fresh_slot).entry m h)

-- so do the ports of each side
pub side_fits : (m : NodeMeta) (d : Direction) → BlockFits m → m.first_port.0 + start_of m d + ports_on m d ≤ port_slots
side_fits m Incoming f = let a = f.ends in let b = f.ports in omega arith
side_fits m Outgoing f = let a = f.ends in let b = f.ports in omega arith

pub port_outside : (t : List ℕ) (p w : ℕ) → w ≡ p → port_slots ≤ w → port_variants.Free ≡ port_entry (at t p)
unfolding port_entry
port_outside t p w e h = ap port_entry (at_outside t p (omega arith))

-- Links.

module _ (g : PortGraph) (a b : ℕ) (m k : PortMeta) (first : port_variants.Port m ≡ port_at g a) (second : port_variants.Port k ≡ port_at g b) where
  both_live : link_sides g a b m.direction k.direction ≡ link_ports g a b
  unfolding link_ports
  both_live = ap (λ (x : PortEntry). link_entries g a b x (port_variants.Port k)) first ∙ ap (link_entries g a b (port_at g a)) second

  -- both ports are live: their sides decide
  pub link_by_sides : (t : Bool) → same_side m.direction k.direction ≡ t
      → cond t (link_refused g (Err (link_error.IncompatibleDirections (port# a) (port# b) m.direction))) (link_free g a b) ≡ link_ports g a b
  link_by_sides t h =
      ap (λ (x : Bool). cond x (link_refused g (Err (link_error.IncompatibleDirections (port# a) (port# b) m.direction))) (link_free g a b)) (sym h) ∙ both_live

  pub link_first_taken : same_side m.direction k.direction ≡ false → (at g.port_link a ≡ 0 → ⊥)
      → link_refused g (Err (link_error.AlreadyLinked (port# a))) ≡ link_ports g a b
  link_first_taken h n =
      let e : link_refused g (Err (link_error.AlreadyLinked (port# a))) ≡ link_free g a b = rw (ne_eqb (at g.port_link a) 0 n) in
      e ∙ link_by_sides false h

  pub link_second_taken : same_side m.direction k.direction ≡ false → at g.port_link a ≡ 0 → (at g.port_link b ≡ 0 → ⊥)
      → link_refused g (Err (link_error.AlreadyLinked (port# b))) ≡ link_ports g a b
  link_second_taken h z n =
      let e : link_refused g (Err (link_error.AlreadyLinked (port# b))) ≡ link_free g a b =
      rw (eq-eqb (at g.port_link a) 0 z, ne_eqb (at g.port_link b) 0 n) in
      e ∙ link_by_sides false h

  pub link_made : (t : List ℕ) → same_side m.direction k.direction ≡ false → at g.port_link a ≡ 0 → at g.port_link b ≡ 0
      → t ≡ link_both g.port_link a b
      → ◌≡◌ {A = PortsLinked} (record { graph = with_links g t (g.link_count + 1); answer = Ok (port# a, port# b) }) (link_ports g a b)
  link_made t h y z et =
      let e : ◌≡◌ {A = PortsLinked} (record { graph = with_links g t (g.link_count + 1); answer = Ok (port# a, port# b) }) (link_free g a b) =
      rw (eq-eqb (at g.port_link a) 0 y, eq-eqb (at g.port_link b) 0 z, et) in
      e ∙ link_by_sides false h

abbrev unlinked : PortGraph → List ℕ → ℕ → Result (Option PortIndex) NoSuchPort → PortUnlinked
unlinked g t n l = record { graph = with_links g t n; answer = l }

abbrev answered : PortGraph → Result (Option PortIndex) NoSuchPort → PortUnlinked
answered g l = record { graph = g; answer = l }

-- the link of a live port is cut, and the answer is what it was linked with
pub unlink_live : (g : PortGraph) (p w far n : ℕ) (t : List ℕ) (l : Result (Option PortIndex) NoSuchPort) (o : PortMeta) → port_variants.Port o ≡ port_at g p → w ≡ p
    → far ≡ at g.port_link w → t ≡ cut g.port_link w → n ≡ g.link_count - link_count far → l ≡ port_link g p
    → ◌≡◌ {A = PortUnlinked} (record { graph = with_links g t n; answer = l }) (unlink_port g p)
unfolding unlink_port
unlink_live g p w far n t l o ho hw hf ht hn hl =
    ap (λ (x : List ℕ). unlinked g x n l) (ht ∙ ap (cut g.port_link) hw)
    ∙ ap (λ (x : ℕ). unlinked g (cut g.port_link p) x l) (hn ∙ ap (λ (x : ℕ). g.link_count - link_count x) (hf ∙ ap (at g.port_link) hw))
    ∙ ap (λ (e : PortEntry). answered (unlink_entry g p e) l) ho
    ∙ ap (answered (unlink_entry g p (port_at g p))) hl
