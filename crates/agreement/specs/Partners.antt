-- Every call has a partner: a call of the engine that names no hidden node and none of its ports means a call of the sketch, and every call of the sketch
-- is meant by one of the engine. So the histories that are spoken of leave out no other call of either.
use Rattle.std.specs.Prelude.{◌≡◌, Bool, ℕ, ◌<◌}
use Rattle.std.proofs.Math.Path.{refl, subst}
use Rattle.std.proofs.Common.{sym, ◌∙◌, arith, ltb-true}
use Rattle.std.proofs.Math.Bool.{true, false}
use Rattle.port_tables.specs.Limits.{node_slots, port_slots}
use Rattle.port_tables.specs.Lists.{Member}
use Rattle.port_tables.specs.Entries.{ports_on}
use Rattle.portgraph.specs.Model.{Model, Slots, gone, live, slot_of, count_of}
use Rattle.portgraph.specs.GoodSlots.{slot_in_range, node_below}
use Rattle.port_tables.specs.declared.direction.Direction.TheVariants.{Incoming}
use Rattle.multiportgraph.specs.Ends.{block_seen, seen_dead}
use Rattle.multiportgraph.specs.HiddenStays.{true_not_false}
use Rattle.multiportgraph.specs.WellFormed.{inner#, Seen}
use Rattle.multiportgraph.specs.Reading.{is_hidden, seen}
use Rattle.multi_tables.specs.Forms.{Port, dead, hidden, visible}
use Rattle.multiportgraph.specs.declared.multiportgraph.MultiPortGraph.{MultiPortGraph}
use Rattle.theorems.specs.Book as book
use Rattle.theorems.specs.Book.{Call, spot_of}
use Rattle.theorems.proofs.WireRule.{spot_of_lem, spot_at}
use Rattle.sketches.specs.Plan.{has_block, ports_on_side, is_there}
use Rattle.sketches.specs.declared.sketch.SketchPort.{SketchPort}
use Rattle.agreement.specs.Meaning.{PlanCall, add_plan, remove_plan, set_plan, link_plan, link_clean_plan, link_sub_plan, cut_plan, cut_sub_plan, tidy_plan, Both, PortMeans, same_port, no_port, BlockMeans, same_block, no_block, Means, means_add, means_remove, means_set, means_link, means_link_clean, means_link_sub, means_cut, means_cut_sub, means_tidy}
use Rattle.agreement.specs.Agreement.{NamesNoHidden, NotHidden, NoneHidden}
use Rattle.agreement.specs.Alike.{Alike}
use Rattle.agreement.specs.Names.{naming}
use Rattle.agreement.specs.Standing.{block_here, block_had, block_name, seen_name}
use Rattle.agreement.specs.AddSquare.{there_of_block, block_given}
use Rattle.std.proofs.lemmas.Bool.{false_from_ne_true}
use Rattle.theorems.specs.PortCases.{gone_unless, gone_not_contained}

module _ {b : Both} {M : Model} (a : Alike b M) where
  abbrev m : MultiPortGraph
  m = b.kit.graph

  -- a name that no block has
  fresh : has_block b.plan.blocks b.plan.adds ≡ false
  fresh =
      false_from_ne_true _ (λ t.
      let p = block_had b.plan.blocks b.plan.adds t in
      let g = block_given a p.0 p.1 in
      let e = p.2 in
      omega arith)

  fresh_port : SketchPort
  fresh_port = record { block = b.plan.adds; side = Incoming; position = 0 }

  fresh_not_there : is_there b.plan fresh_port ≡ false
  unfolding fresh_port
  fresh_not_there = false_from_ne_true _ (λ t. true_not_false (there_of_block b.plan (record { block = b.plan.adds; side = Incoming; position = 0 }) t) fresh)

  -- From the engine.

  port_partner : (p : ℕ) → NotHidden m p → (x : SketchPort) × PortMeans b p x
  port_partner p h = go (seen m p) refl
    where
      go : (v : Port) → seen m p ≡ v → (x : SketchPort) × PortMeans b p x
      go dead e = (fresh_port, no_port e fresh_not_there)
      go hidden e = absurd (h e)
      go (visible n d) e =
          let c = block_seen a.rel.fine p n d e in
          let k = seen_name a c.place c.is_seen in (
            record { block = k.0; side = c.place.side; position = c.place.pos },
            same_port c.place.node (spot_at a.rel c.place c.is_seen p c.slot) k.1,
          )

  block_partner : (n : ℕ) → NoneHidden m n → (k : ℕ) × BlockMeans b n k
  block_partner n h = go (M.node n) refl
    where
      go : (v : Slots) → M.node n ≡ v → (k : ℕ) × BlockMeans b n k
      go gone e = (b.plan.adds, no_block (gone_not_contained a.rel.fine n e) fresh)
      go (live c) e =
          let shown : is_hidden m n ≡ false = false_from_ne_true (is_hidden m n) h in
          let k = block_name a n c (shown, e) in
          (k.0, same_block k.1)

  pub sketch_partner : (c : Call) → NamesNoHidden m c → (k : PlanCall) × Means b c k
  sketch_partner (book.add_call i o) h = (add_plan i o, means_add i o)
  sketch_partner (book.remove_call n) h = let k = block_partner n h in (remove_plan k.0, means_remove n k.0 k.1)
  sketch_partner (book.set_call n i o room) h = let k = block_partner n h in (set_plan k.0 i o, means_set n k.0 i o room k.1)
  sketch_partner (book.link_call p q) h = let x = port_partner p h.0 in let y = port_partner q h.1 in (link_plan x.0 y.0, means_link p q x.0 y.0 x.1 y.1)
  sketch_partner (book.link_clean_call p q) h = let x = port_partner p h.0 in let y = port_partner q h.1 in (link_clean_plan x.0 y.0, means_link_clean p q x.0 y.0 x.1 y.1)
  sketch_partner (book.link_sub_call p o q r) h = let x = port_partner p h.0 in let y = port_partner q h.1 in (link_sub_plan x.0 o y.0 r, means_link_sub p o q r x.0 y.0 x.1 y.1)
  sketch_partner (book.cut_call p) h = let x = port_partner p h in (cut_plan x.0, means_cut p x.0 x.1)
  sketch_partner (book.cut_sub_call p o) h = let x = port_partner p h in (cut_sub_plan x.0 o, means_cut_sub p o x.0 x.1)
  sketch_partner (book.tidy_call p) h = let x = port_partner p h in (tidy_plan x.0, means_tidy p x.0 x.1)

  -- From the sketch.

  -- a number past the tables is no port and no node
  dead_past : seen m port_slots ≡ dead
  dead_past = seen_dead a.rel.fine port_slots (λ y v e. let r = slot_in_range a.rel.fine.good y v in omega arith)

  gone_past : M.node node_slots ≡ gone
  gone_past = gone_unless (M.node node_slots) (λ c e. let u = node_below a.rel.fine.good node_slots c e in omega arith)

  port_meant_by : (x : SketchPort) → (p : ℕ) × PortMeans b p x
  unfolding is_there
  port_meant_by x = go (is_there b.plan x) refl
    where
      go : (t : Bool) → is_there b.plan x ≡ t → (p : ℕ) × PortMeans b p x
      go false e = (port_slots, no_port dead_past e)
      go true e =
          let c = block_had b.plan.blocks x.block (there_of_block b.plan x e) in
          let n = a.plan_named c.0 c.1 in
          let i : Member (naming n.0.node x.block) b.names = subst (λ (v : ℕ). Member (naming n.0.node v) b.names) (n.2 ∙ c.2) n.1 in
          let h = block_here a n.0.node x.block i in
          let l : x.position < ports_on h.meta x.side = subst (λ (v : ℕ). x.position < v) (h.counts x.side) (ltb-true x.position (ports_on_side b.plan.blocks x.block x.side) e) in
          let s : Seen m M (inner# n.0.node x.side x.position) = (subst (λ (v : Slots). x.position < count_of v x.side) (sym h.block.1) l, h.block.0) in
          (slot_of M.node (inner# n.0.node x.side x.position), same_port n.0.node (spot_of_lem a.rel (inner# n.0.node x.side x.position) s) i)

  block_meant_by : (k : ℕ) → (n : ℕ) × BlockMeans b n k
  block_meant_by k = go (has_block b.plan.blocks k) refl
    where
      go : (t : Bool) → has_block b.plan.blocks k ≡ t → (n : ℕ) × BlockMeans b n k
      go false e = (node_slots, no_block (gone_not_contained a.rel.fine node_slots gone_past) e)
      go true e =
          let c = block_had b.plan.blocks k e in
          let n = a.plan_named c.0 c.1 in
          (n.0.node, same_block (subst (λ (v : ℕ). Member (naming n.0.node v) b.names) (n.2 ∙ c.2) n.1))

  -- with a move list of whatever length
  pub kit_partner : (k : PlanCall) (room : ℕ) → (c : Call) × Means b c k
  kit_partner (add_plan i o) room = (book.add_call i o, means_add i o)
  kit_partner (remove_plan k) room = let n = block_meant_by k in (book.remove_call n.0, means_remove n.0 k n.1)
  kit_partner (set_plan k i o) room = let n = block_meant_by k in (book.set_call n.0 i o room, means_set n.0 k i o room n.1)
  kit_partner (link_plan x y) room = let p = port_meant_by x in let q = port_meant_by y in (book.link_call p.0 q.0, means_link p.0 q.0 x y p.1 q.1)
  kit_partner (link_clean_plan x y) room = let p = port_meant_by x in let q = port_meant_by y in (book.link_clean_call p.0 q.0, means_link_clean p.0 q.0 x y p.1 q.1)
  kit_partner (link_sub_plan x o y r) room = let p = port_meant_by x in let q = port_meant_by y in (book.link_sub_call p.0 o q.0 r, means_link_sub p.0 o q.0 r x y p.1 q.1)
  kit_partner (cut_plan x) room = let p = port_meant_by x in (book.cut_call p.0, means_cut p.0 x p.1)
  kit_partner (cut_sub_plan x o) room = let p = port_meant_by x in (book.cut_sub_call p.0 o, means_cut_sub p.0 o x p.1)
  kit_partner (tidy_plan x) room = let p = port_meant_by x in (book.tidy_call p.0, means_tidy p.0 x p.1)
