-- The view of a graph of the calls is sound.
use Rattle.std.proofs.lemmas.List.{length-map}
use Rattle.std.specs.Prelude.{◌≡◌, refl, List, map, ℕ, ◌<◌, length}
use Rattle.std.proofs.Common.{sym, ◌∙◌}
use Rattle.std.proofs.Math.Path.{ap, subst}
use native.Mathlib.Omega.{arith}
use Rattle.port_tables.specs.Lists.{Member}
use Rattle.portgraph.specs.Lookups.{num_ports}
use Rattle.portgraph.specs.Model as model
use Rattle.portgraph.specs.Model.{Model}
use Rattle.port_tables.specs.declared.direction.Direction.{Direction}
use Rattle.port_tables.specs.declared.direction.Direction.TheVariants.{Incoming, Outgoing}
use Rattle.port_tables.specs.Places.{Place, Wire}
use Rattle.multiportgraph.specs.Wires.{blocks, wires_walked}
use Rattle.multiportgraph.specs.WellFormed.{Fine, outer, IsEnd, WireIn}
use Rattle.multiportgraph.specs.Ends.{count_of_lem, outer_seen, ends_join_ends}
use Rattle.port_tables.specs.Listing.{member_map}
use Rattle.multiportgraph.specs.WalkRule.{walked_is_wires}
use Rattle.multiportgraph.specs.declared.multiportgraph.MultiPortGraph.{MultiPortGraph}
use Rattle.port_tables.specs.declared.release.Release.{Release}
use Rattle.theorems.specs.Book.{Call}
use Rattle.theorems.specs.History.{run}
use Rattle.theorems.proofs.CallLaws.{rel_run}
use Rattle.files.specs.View.{BlockPorts, RankWire, rank_among, sorted, block_ports, rank_wire, view_of}
use Rattle.files.specs.Loading.{block_at}
use Rattle.files.specs.Claims.{Sound}
use Rattle.files.specs.OrderLaws.{sorted_rises, sorted_member}
use Rattle.files.specs.RankLaws.{at_read, map_at, rank_below, rank_at}
use Rattle.files.specs.ViewLaws.{walked_fits}

module _ {m : MultiPortGraph} {M : Model} (f : Fine m M) where
  -- the position of an end is that of a port on its side
  end_port : (z : model.InnerPlace) → IsEnd m M z → (outer m M z).pos < num_ports m.graph (outer m M z).node z.side
  end_port z e =
      let o = outer_seen f z e in
      let c = count_of_lem f o.main.node o.main.side in
      let v = o.is_seen.0 in
      let q : o.main.pos < num_ports m.graph o.main.node o.main.side = omega arith in
      let p = subst (λ (d : Direction). o.main.pos < num_ports m.graph o.main.node d) (sym o.side) q in
      subst (λ (x : Place). x.pos < num_ports m.graph x.node z.side) (sym o.is) p

  wire_ports : (w : Wire) → WireIn m M w → (w.out.pos < num_ports m.graph w.out.node Outgoing) × (w.into.pos < num_ports m.graph w.into.node Incoming)
  wire_ports w h =
      let y = ends_join_ends f h.x h.y h.end h.joined in
      let a = subst (λ (d : Direction). (outer m M h.x).pos < num_ports m.graph (outer m M h.x).node d) h.outgoing (end_port h.x h.end) in
      let b = subst (λ (d : Direction). (outer m M h.y).pos < num_ports m.graph (outer m M h.y).node d) (other h.y.side refl) (end_port h.y y) in
      subst (λ (v : Wire). (v.out.pos < num_ports m.graph v.out.node Outgoing) × (v.into.pos < num_ports m.graph v.into.node Incoming)) (sym h.is) (a, b)
    where
      other : (d : Direction) → h.y.side ≡ d → h.y.side ≡ Incoming
      other Incoming e = e
      other Outgoing e = absurd (f.good.join_sides h.x h.y h.joined (h.outgoing ∙ sym e))

  -- the ports of the block of a rank
  rank_ports : (n : ℕ) → Member n (blocks m) → block_at (map (block_ports m) (blocks m)) (rank_among (blocks m) n) ≡ block_ports m n
  rank_ports n i = at_read (map (block_ports m) (blocks m)) (rank_among (blocks m) n) (block_ports m n) _ (map_at (block_ports m) (blocks m) (rank_among (blocks m) n) n (rank_at (blocks m) n i))

  -- what a wire of the view keeps to
  abbrev Kept : RankWire → Type 0
  Kept w =
      (w.source < length (map (block_ports m) (blocks m)))
      × (w.output < (block_at (map (block_ports m) (blocks m)) w.source).outgoing)
      × (w.target < length (map (block_ports m) (blocks m)))
      × (w.input < (block_at (map (block_ports m) (blocks m)) w.target).incoming)

  wire_kept : (w : Wire) → Member w (wires_walked m) → Kept (rank_wire (rank_among (blocks m)) w)
  unfolding block_ports
  wire_kept w i =
      let e = walked_fits f w i in
      let p = wire_ports w ((walked_is_wires f w).0 i) in
      let l = length-map (blocks m) (block_ports m) in
      let a = rank_below (blocks m) w.out.node e.0.block in
      let b = rank_below (blocks m) w.into.node e.1.block in
      let c = ap (λ (x : BlockPorts). x.outgoing) (rank_ports w.out.node e.0.block) in
      let d = ap (λ (x : BlockPorts). x.incoming) (rank_ports w.into.node e.1.block) in
      let q = p.0 in
      let r = p.1 in
      (omega arith, omega arith, omega arith, omega arith)

  pub graph_sound : Sound (view_of m)
  unfolding view_of
  graph_sound =
      record {
        rise = sorted_rises (map (rank_wire (rank_among (blocks m))) (wires_walked m));
        source = λ w i. (each w i).0;
        output = λ w i. (each w i).1;
        target = λ w i. (each w i).2;
        input = λ w i. (each w i).3;
      }
    where
      each : (w : RankWire) → Member w (sorted (map (rank_wire (rank_among (blocks m))) (wires_walked m))) → Kept w
      each w i =
          let g = member_map (rank_wire (rank_among (blocks m))) w (wires_walked m) (sorted_member w (map (rank_wire (rank_among (blocks m))) (wires_walked m)) i) in
          subst Kept (sym g.2) (wire_kept g.0 g.1)

-- over every list of calls
pub view_sound : (release : Release) (calls : List Call) → Sound (view_of (run release calls).graph)
view_sound release calls = graph_sound (rel_run release calls).1.fine
