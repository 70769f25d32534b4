-- Adding, removing and resizing over the tables.
use Rattle.std.proofs.lemmas.List.{length-map}
use Rattle.std.specs.Prelude.{◌≡◌, refl, Bool, true, false, cond, List, ◌∷◌, map, ℕ, suc, ◌+◌, ◌≤◌, ◌<◌, length, Result, Ok, Err}
use Rattle.std.proofs.Common.{sym, ap, ◌∙◌, subst, add-one, arith, le-leb, lt-ltb, le-ltb}
use Rattle.std.specs.List.{filter}
use Rattle.port_tables.specs.Limits.{port_slots, node_ports}
use Rattle.sketches.specs.Plan.{Plan, has_block, is_there, ports_in_all}
use Rattle.sketches.specs.PlanCalls.{Sketched, leaves, add_block, remove_block, recount, set_counts}
use Rattle.sketches.specs.PlanNumbers.{add_numbers, done_numbers}
use Rattle.sketches.specs.PlanWf.{PlanWf}
use Rattle.sketches.specs.CallsWf.{add_wf, block_gone, remove_wf, block_resized, resize_wf}
use Rattle.sketches.specs.Rows.{Table, rows_in, blocks_in, splits_in, wires_in, block_of, split_of, wire_of, missed}
use Rattle.sketches.specs.RowReads.{blocks_left_lem, splits_left, wires_left}
use Rattle.sketches.specs.Offsets.{length_rows}
use Rattle.sketches.specs.SketchTables.{Totals, plan_in, totals_counts, SketchWf, Leaves}
use Rattle.sketches.specs.declared.rows.Row.{Row}
use Rattle.sketches.specs.declared.tests.EndTest.TheVariants as ask
use Rattle.sketches.specs.declared.tests.Test.TheVariants as test
use Rattle.sketches.specs.declared.sketch.Reason.TheVariants.{UnknownBlock, UnknownPort, NoRoom}
use Rattle.sketches.specs.declared.sketch.Reason.{Reason}
use Rattle.sketches.specs.declared.sketch.SketchPort.{SketchPort}
use Rattle.sketches.specs.CallParts.{no_room, judge_block, judge_port}
use Rattle.sketches.specs.Held.{Held, held_in, plan_of, seen_as, back}

-- the rows of the tables are as many as the plan's lists are long, so that they are within the tables
pub length_blocks : (t : List Row) (n : ℕ) → length (blocks_in t n) ≡ n
length_blocks t n = length-map (rows_in t n) block_of ∙ length_rows t n

-- a call by its definition, where that is known
pub leaves_as : {A : Type 0} {numbers : A → List ℕ} {called : Sketched A} {b s w : List Row} {h : Totals} {a : A} (K : Plan) (x : A) → called ≡ leaves K x → plan_in b s w h ≡ K → a ≡ x → SketchWf b s w h →
    Leaves numbers called b s w h a
leaves_as {A} {numbers} {called} K x e p q wf =
    record {
      plan = p ∙ ap (λ (c : Sketched A). c.plan) (sym e);
      answered = q ∙ ap (λ (c : Sketched A). c.answer) (sym e);
      numbered = ap numbers (q ∙ ap (λ (c : Sketched A). c.answer) (sym e));
      wf = wf;
    }

-- the plan of new tables keeps what holds of plans
pub tables_wf : {b s w : List Row} {h : Totals} {K : Plan} → Table b → Table s → Table w → plan_in b s w h ≡ K → PlanWf K → SketchWf b s w h
tables_wf x y z e wf = record { block_table = x; split_table = y; wire_table = z; plan = subst PlanWf (sym e) wf }

-- A block, or a port, that was judged to be there, in the fields of a sketch.

fine_so : (r : Reason) (b : Bool) → cond {A = Result (Unit {0}) Reason} b (Ok tt) (Err r) ≡ Ok tt → b ≡ true
fine_so r true e = refl
fine_so r false e = cc

module _ {i k : Held} (v : i ≡ k) {j : Result (Unit {0}) Reason} where
  pub block_known : (n : ℕ) → j ≡ judge_block (plan_of k) n → j ≡ Ok tt → has_block (plan_of i).blocks n ≡ true
  block_known n e f = fine_so UnknownBlock (has_block (plan_of i).blocks n) (sym (back (λ (l : Plan). judge_block l n) v e) ∙ f)

  pub port_known : (x : SketchPort) → j ≡ judge_port (plan_of k) x → j ≡ Ok tt → is_there (plan_of i) x ≡ true
  port_known x e f = fine_so UnknownPort (is_there (plan_of i) x) (sym (back (λ (l : Plan). judge_port l x) v e) ∙ f)

-- Adding.

abbrev new_block : Plan → ℕ → ℕ → Plan
new_block K i o =
    record {
      release = K.release;
      adds = suc K.adds;
      blocks = record { name = K.adds; incoming = i; outgoing = o } ∷ K.blocks;
      splits = K.splits;
      wires = K.wires;
    }

add_accepted : (K : Plan) (i o : ℕ) → i + o ≤ node_ports → no_room K.adds (length K.blocks) K.blocks (i + o) ≡ false → add_block K i o ≡ leaves (new_block K i o) (Ok K.adds)
unfolding add_block
add_accepted K i o h k = rw (le-leb (i + o) node_ports h, k)

module _ {b s w : List Row} {h : Totals} {k : Held} (v : held_in b s w h ≡ k) (wf : SketchWf b s w h) (i o : ℕ) where
  room_is : {n : ℕ} → n ≡ i + o → no_room h.adds (length (blocks_in b h.blocks)) (blocks_in b h.blocks) (i + o) ≡ no_room h.adds h.blocks (blocks_in b h.blocks) n
  room_is e = rw (length_blocks b h.blocks, ← e)

  module _ {x y : ℕ} (m : ℕ) (b' : List Row) {t : Bool} (f : x ≡ i) (g : y ≡ o) (small : x + y ≤ node_ports) (r : t ≡ no_room k.totals.adds k.totals.blocks (plan_of k).blocks (x + y)) (room : t ≡ false)
      (p : rows_in b' m ≡ record { 0 = h.adds; 1 = i; 2 = o; 3 = 0; 4 = 0; 5 = 0 } ∷ rows_in b h.blocks) (table : Table b') where
    at_once : add_block (plan_in b s w h) i o ≡ leaves (new_block (plan_in b s w h) i o) (Ok h.adds)
    at_once =
        let e : x + y ≡ i + o = omega arith in
        let q : t ≡ no_room h.adds h.blocks (blocks_in b h.blocks) (x + y) = subst (λ (l : Held). t ≡ no_room l.totals.adds l.totals.blocks (plan_of l).blocks (x + y)) (sym v) r in
        add_accepted (plan_in b s w h) i o (omega arith) (room_is e ∙ sym q ∙ room)

    grown : plan_in b' s w (record { release = h.release; adds = h.adds + 1; blocks = m; splits = h.splits; wires = h.wires }) ≡ new_block (plan_in b s w h) i o
    grown =
        let x : blocks_in b' m ≡ record { name = h.adds; incoming = i; outgoing = o } ∷ blocks_in b h.blocks = ap (map block_of) p in
        rw (x, add-one h.adds)

    pub added : Leaves add_numbers (add_block (plan_of k) i o) b' s w (record { release = h.release; adds = h.adds + 1; blocks = m; splits = h.splits; wires = h.wires }) (Ok h.adds)
    added =
        seen_as (λ (l : Plan). add_block l i o) v
        (leaves_as (new_block (plan_in b s w h) i o) (Ok h.adds) at_once grown refl
        (tables_wf table wf.split_table wf.wire_table grown
        (subst (λ (c : Sketched (Result ℕ Reason)). PlanWf c.plan) at_once (add_wf (plan_in b s w h) i o wf.plan))))

-- Removing.

remove_unknown : (K : Plan) (n : ℕ) → has_block K.blocks n ≡ false → remove_block K n ≡ leaves K (Err UnknownBlock)
unfolding remove_block
remove_unknown K n h = rw h

remove_accepted : (K : Plan) (n : ℕ) → has_block K.blocks n ≡ true → remove_block K n ≡ leaves (block_gone K n) (Ok tt)
unfolding remove_block
remove_accepted K n h = rw h

-- Resizing.

resize_unknown : (K : Plan) (n i o : ℕ) → i + o ≤ node_ports → has_block K.blocks n ≡ false → set_counts K n i o ≡ leaves K (Err UnknownBlock)
unfolding set_counts
resize_unknown K n i o h k = rw (le-leb (i + o) node_ports h, k)

resize_no_room : (K : Plan) (n i o : ℕ) → i + o ≤ node_ports → has_block K.blocks n ≡ true → port_slots < ports_in_all (map (recount n i o) K.blocks) → set_counts K n i o ≡ leaves K (Err NoRoom)
unfolding set_counts
resize_no_room K n i o h k l = rw (le-leb (i + o) node_ports h, k, lt-ltb port_slots (ports_in_all (map (recount n i o) K.blocks)) l)

resize_accepted : (K : Plan) (n i o : ℕ) → i + o ≤ node_ports → has_block K.blocks n ≡ true → ports_in_all (map (recount n i o) K.blocks) ≤ port_slots → set_counts K n i o ≡ leaves (block_resized K n i o) (Ok tt)
unfolding set_counts
resize_accepted K n i o h k l = rw (le-leb (i + o) node_ports h, k, le-ltb port_slots (ports_in_all (map (recount n i o) K.blocks)) l)

module _ (b s w : List Row) (h : Totals) (wf : SketchWf b s w h) (n : ℕ) where
  pub removed_unknown : has_block (blocks_in b h.blocks) n ≡ false → Leaves done_numbers (remove_block (plan_in b s w h) n) b s w h (Err UnknownBlock)
  removed_unknown e = leaves_as (plan_in b s w h) (Err UnknownBlock) (remove_unknown (plan_in b s w h) n e) refl refl wf

  module _ (i o : ℕ) where
    pub resized_unknown : {a c : ℕ} → a ≡ i → c ≡ o → a + c ≤ node_ports → has_block (blocks_in b h.blocks) n ≡ false → Leaves done_numbers (set_counts (plan_in b s w h) n i o) b s w h (Err UnknownBlock)
    resized_unknown p q e k = leaves_as (plan_in b s w h) (Err UnknownBlock) (resize_unknown (plan_in b s w h) n i o (omega arith) k) refl refl wf

    pub resized_no_room : {a c m : ℕ} → a ≡ i → c ≡ o → a + c ≤ node_ports → has_block (blocks_in b h.blocks) n ≡ true → m ≡ ports_in_all (map (recount n i o) (blocks_in b h.blocks)) → port_slots < m →
        Leaves done_numbers (set_counts (plan_in b s w h) n i o) b s w h (Err NoRoom)
    resized_no_room p q e k x l = leaves_as (plan_in b s w h) (Err NoRoom) (resize_no_room (plan_in b s w h) n i o (omega arith) k (omega arith)) refl refl wf

-- The calls that are accepted, on the fields of a sketch.

module _ {b s w : List Row} {h : Totals} {k : Held} (v : held_in b s w h ≡ k) (wf : SketchWf b s w h) (n : ℕ) {j : Result (Unit {0}) Reason} (e : j ≡ judge_block (plan_of k) n) (f : j ≡ Ok tt) (b' s' w' : List Row) (nb ns nw : ℕ) {h' : Totals}
    (c : h' ≡ totals_counts h nb ns nw) (tb : Table b') (ts : Table s') (tw : Table w') where
  module _ (p : rows_in b' nb ≡ filter (missed (test.Block n)) (rows_in b h.blocks)) (q : rows_in s' ns ≡ filter (missed (test.Split (ask.OfBlock n))) (rows_in s h.splits))
      (r : rows_in w' nw ≡ filter (missed (test.Wire (ask.OfBlock n))) (rows_in w h.wires)) where
    without_block : plan_in b' s' w' h' ≡ block_gone (plan_in b s w h) n
    without_block =
        let x : blocks_in b' nb ≡ (block_gone (plan_in b s w h) n).blocks = ap (map block_of) p ∙ blocks_left_lem n (rows_in b h.blocks) in
        let y : splits_in s' ns ≡ (block_gone (plan_in b s w h) n).splits = ap (map split_of) q ∙ splits_left (ask.OfBlock n) (rows_in s h.splits) in
        let z : wires_in w' nw ≡ (block_gone (plan_in b s w h) n).wires = ap (map wire_of) r ∙ wires_left (ask.OfBlock n) (rows_in w h.wires) in
        ap (plan_in b' s' w') c ∙ (λ k. record { release = h.release; adds = h.adds; blocks = x k; splits = y k; wires = z k })

    pub removed : Leaves done_numbers (remove_block (plan_of k) n) b' s' w' h' (Ok tt)
    removed =
        let at_once = remove_accepted (plan_in b s w h) n (block_known v n e f) in
        seen_as (λ (l : Plan). remove_block l n) v
        (leaves_as (block_gone (plan_in b s w h) n) (Ok tt) at_once without_block refl
        (tables_wf tb ts tw without_block (subst (λ (c : Sketched (Result (Unit {0}) Reason)). PlanWf c.plan) at_once (remove_wf (plan_in b s w h) n wf.plan))))

  module _ (i o : ℕ) {x y m : ℕ} (f₁ : x ≡ i) (f₂ : y ≡ o) (small : x + y ≤ node_ports) (g : m ≡ ports_in_all (map (recount n i o) (blocks_in b h.blocks))) (room : m ≤ port_slots)
      (p : blocks_in b' nb ≡ map (recount n i o) (blocks_in b h.blocks)) (q : rows_in s' ns ≡ filter (missed (test.Split (ask.OfDropped n i o))) (rows_in s h.splits))
      (r : rows_in w' nw ≡ filter (missed (test.Wire (ask.OfDropped n i o))) (rows_in w h.wires)) where
    with_counts : plan_in b' s' w' h' ≡ block_resized (plan_in b s w h) n i o
    with_counts =
        let y : splits_in s' ns ≡ (block_resized (plan_in b s w h) n i o).splits = ap (map split_of) q ∙ splits_left (ask.OfDropped n i o) (rows_in s h.splits) in
        let z : wires_in w' nw ≡ (block_resized (plan_in b s w h) n i o).wires = ap (map wire_of) r ∙ wires_left (ask.OfDropped n i o) (rows_in w h.wires) in
        ap (plan_in b' s' w') c ∙ (λ k. record { release = h.release; adds = h.adds; blocks = p k; splits = y k; wires = z k })

    pub resized : Leaves done_numbers (set_counts (plan_of k) n i o) b' s' w' h' (Ok tt)
    resized =
        let at_once = resize_accepted (plan_in b s w h) n i o (omega arith) (block_known v n e f) (omega arith) in
        seen_as (λ (l : Plan). set_counts l n i o) v
        (leaves_as (block_resized (plan_in b s w h) n i o) (Ok tt) at_once with_counts refl
        (tables_wf tb ts tw with_counts (subst (λ (c : Sketched (Result (Unit {0}) Reason)). PlanWf c.plan) at_once (resize_wf (plan_in b s w h) n i o wf.plan))))
