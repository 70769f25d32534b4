-- The square of a tidy: the sketch keeps the subports up to the highest wired one, as the engine does up to the last linked one.
use Rattle.std.proofs.lemmas.Bool.{or_cases}
use Rattle.std.specs.Prelude.{◌≡◌, refl, Bool, true, false, not, List, [], ◌∷◌, ℕ, zero, suc, ◌≤◌, ◌<◌, max, eqb, ltb, Result, Ok, Err}
use Rattle.std.proofs.Common.{sym, ◌∙◌, subst, inl, inr, arith, eqb-true, ltb-true, ltb-false}
use Rattle.std.proofs.Math.Path.{ap}
use Rattle.std.proofs.Math.Bool.{cond}
use Rattle.std.proofs.Math.Logic.{⊎_elim}
use Rattle.port_tables.specs.Lists.{Member, Rising}
use Rattle.port_tables.specs.Entries.{reversed}
use Rattle.portgraph.specs.Model as model
use Rattle.portgraph.specs.Model.{Model, to, slot_of, count_of}
use Rattle.port_tables.specs.declared.direction.Direction.{Direction}
use Rattle.multiportgraph.specs.Calls.{tidy_port}
use Rattle.multiportgraph.specs.Ends.{Hangs, one_copy, outer_of_block, outer_of_subport, lift_place, ends_join_ends, end_side}
use Rattle.multiportgraph.specs.HiddenStays.{true_not_false}
use Rattle.multiportgraph.specs.WellFormed.{inner#, Fine, Seen, lift, outer, IsEnd}
use Rattle.multiportgraph.specs.LinkCutLaws.{at_spot_is, end_is_here, end_is_same}
use Rattle.port_tables.specs.Places.{Place, Wire, Spot, spot, at_spot, at_end, touches, any_touches}
use Rattle.multiportgraph.specs.Reading.{is_hidden, is_split, copy_side}
use Rattle.multiportgraph.specs.Tidy as kit
use Rattle.multiportgraph.specs.TidyLaws.{tidied_done, LastLinked, empty_above}
use Rattle.multiportgraph.specs.declared.multiportgraph.MultiPortGraph.{MultiPortGraph}
use Rattle.multiportgraph.specs.declared.multiportgraph.PortTidied.{PortTidied}
use Rattle.portgraph.specs.GoodSlots.{same_place_lem}
use Rattle.theorems.specs.Book as book
use Rattle.theorems.specs.Book.{Book}
use Rattle.theorems.specs.Conditions.{cut_dead}
use Rattle.theorems.specs.PortCases.{seen_block_port}
use Rattle.theorems.proofs.ReleaseRuns.{step_keeps}
use Rattle.theorems.proofs.TidyCall.{tidy_refuses, tidy_is}
use Rattle.theorems.proofs.WireRule.{Rel, rel_same}
use Rattle.sketches.specs.Plan.{is_there, spot_named, subports_of, set_subports, above_end, above_wired}
use Rattle.sketches.specs.PlanCalls as sketch
use Rattle.sketches.specs.PlanCalls.{Sketched, leaves}
use Rattle.sketches.specs.PlanNumbers.{reason_number}
use Rattle.sketches.specs.declared.sketch.SketchPort.{SketchPort}
use Rattle.sketches.specs.declared.sketch.Reason.TheVariants as reason
use Rattle.agreement.specs.Meaning.{Naming, Both, PortMeans, means_tidy}
use Rattle.agreement.specs.Agreement.{TidyAlike}
use Rattle.agreement.specs.Alike.{Alike, Apart, subports_at}
use Rattle.agreement.specs.Square.{Square, squared, as_both}
use Rattle.agreement.specs.Names.{naming, AllNamed, renamed, same_spot}
use Rattle.agreement.specs.Standing.{PortHere, PortGone, here#, port_meant, wires_named, is_split_lem}
use Rattle.agreement.specs.PlanLaws.{set_release, set_adds, set_blocks, set_wires}
use Rattle.agreement.specs.KeptSplits.{any_model}
use Rattle.agreement.specs.Carry.{alike_after, subports_set, set_there}
use Rattle.agreement.specs.Asked.{wire_there}
use Rattle.agreement.specs.TidySplits.{tidied_subports}
use Rattle.sketches.specs.declared.sketch.Reason.{Reason}
use Rattle.portgraph.specs.Joins.{nowhere_not_to}

-- One more than the highest wired offset at a spot.

above_most : (s : Spot) (r : ℕ) (ws : List Wire) →
    ((w : Wire) → Member w ws → (at_spot s w.out ≡ true → w.out.offset < r) × (at_spot s w.into ≡ true → w.into.offset < r)) → above_wired s ws ≤ r
unfolding above_wired
above_most s r [] h = omega arith
above_most s r (w ∷ ws) h =
    let k = h w (inl refl) in
    let l = above_most s r ws (λ v i. h v (inr i)) in
    more w.out (above_end s w.into (above_wired s ws)) k.0 (more w.into (above_wired s ws) k.1 l)
  where
    more : (x : Place) (n : ℕ) → (at_spot s x ≡ true → x.offset < r) → n ≤ r → above_end s x n ≤ r
    more x n h l = go (at_spot s x) refl
      where
        go : (t : Bool) → at_spot s x ≡ t → cond t (max (suc x.offset) n) n ≤ r
        go true e = let k = h e in omega arith
        go false e = l

above_least : (s : Spot) (o : ℕ) (ws : List Wire) → any_touches (at_end s o) ws ≡ true → suc o ≤ above_wired s ws
unfolding above_wired any_touches at_end
above_least s o [] t = absurd (true_not_false t refl)
above_least s o (w ∷ ws) t = ⊎_elim here (λ e. later (above_least s o ws e)) (or_cases (touches (at_end s o) w) (any_touches (at_end s o) ws) t)
  where
    keeps : (x : Place) (n : ℕ) → n ≤ above_end s x n
    keeps x n = go (at_spot s x)
      where
        go : (t : Bool) → n ≤ cond t (max (suc x.offset) n) n
        go true = omega arith
        go false = omega arith

    reaches : (x : Place) (n : ℕ) → at_end s o x ≡ true → suc o ≤ above_end s x n
    reaches x n = go (at_spot s x)
      where
        go : (t : Bool) → cond t (eqb x.offset o) false ≡ true → suc o ≤ cond t (max (suc x.offset) n) n
        go true e = let q = eqb-true x.offset o e in omega arith
        go false e = absurd (true_not_false e refl)

    out : ℕ
    out = above_end s w.into (above_wired s ws)

    here : touches (at_end s o) w ≡ true → suc o ≤ above_end s w.out out
    here e =
        ⊎_elim (λ a. reaches w.out out a) (λ a. let k = reaches w.into (above_wired s ws) a in let l = keeps w.out out in omega arith)
        (or_cases (at_end s o w.out) (at_end s o w.into) e)

    later : suc o ≤ above_wired s ws → suc o ≤ above_end s w.out out
    later k = let l = keeps w.into (above_wired s ws) in let q = keeps w.out out in omega arith

-- the same under the names
above_renamed : (l : List Naming) (r : Rising Apart l) (n k : ℕ) → Member (naming n k) l → (d : Direction) (i : ℕ) (ws : List Wire) → AllNamed l ws →
    above_wired (spot k d i) (renamed l ws) ≡ above_wired (spot n d i) ws
unfolding above_wired
above_renamed l r n k a d i [] h = refl
above_renamed l r n k a d i (w ∷ ws) h =
    let p = h w (inl refl) in
    let q = same_spot l r n k a d i w.out p.0 in
    let t = same_spot l r n k a d i w.into p.1 in
    let z = above_renamed l r n k a d i ws (λ v j. h v (inr j)) in
    λ j.
    cond (sym q j) (max (suc w.out.offset) (cond (sym t j) (max (suc w.into.offset) (z j)) (z j))) (cond (sym t j) (max (suc w.into.offset) (z j)) (z j))

-- The last linked subport is the highest wired one.

module _ {m : MultiPortGraph} {M : Model} {B : Book} (r : Rel m M B) (x : model.InnerPlace) (h : Hangs m M x) (last : ℕ)
    (l : LastLinked M h.copy x.side (count_of (M.node h.copy) x.side) last) where
  -- an end at the port is one of its subports
  its_subport : (v : model.InnerPlace) → Seen m M x → IsEnd m M v → (o : ℕ) → outer m M v ≡ lift x o → v ≡ inner# h.copy x.side o
  its_subport v s e o q = go (is_hidden m v.node) refl
    where
      f : Fine m M
      f = r.fine

      go : (t : Bool) → is_hidden m v.node ≡ t → v ≡ inner# h.copy x.side o
      go true t =
          let c = f.copy v.node t in
          let z : lift c.main v.pos ≡ lift x o = sym (outer_of_subport f v c.main t c.joined) ∙ q in
          let n : v.node ≡ h.copy = one_copy f v.node h.copy x (c.joined ∙ ap to (lift_place z)) h.from in
          same_place_lem v (inner# h.copy x.side o) n (end_side f v e t ∙ (ap (λ (c : ℕ). reversed (copy_side m c)) n ∙ sym h.side)) (ap (λ (p : Place). p.offset) z)
      go false t =
          let z : v ≡ x = lift_place (sym (outer_of_block f v t) ∙ q) in
          absurd
          (true_not_false (f.main_marked h.copy x h.is_copy h.from)
          (ap (λ (p : model.InnerPlace). is_split m (slot_of M.node p)) (sym z) ∙ e.unsplit t))

  module _ (s : Seen m M x) where
    -- a linked end there is below the last
    below : (v y : model.InnerPlace) → IsEnd m M v → M.join v ≡ to y → at_spot (spot x.node x.side x.pos) (outer m M v) ≡ true → (outer m M v).offset < last
    below v y e j t = go (ltb (outer m M v).offset last) refl
      where
        o : ℕ
        o = (outer m M v).offset

        is : outer m M v ≡ lift x o
        is = let q = at_spot_is x.node x.side x.pos (outer m M v) t in λ i. record { node = q.0 i; side = q.1 i; pos = q.2 i; offset = o }

        go : (b : Bool) → ltb o last ≡ b → o < last
        go true q = ltb-true o last q
        go false q =
            absurd
            (nowhere_not_to (empty_above r.fine h.copy x.side last l o (ltb-false o last q))
            (ap M.join (sym (its_subport v s e o is)) ∙ j))

    above_is : above_wired (spot x.node x.side x.pos) B.wires ≡ last
    above_is =
        let most = above_most (spot x.node x.side x.pos) last B.wires
        (λ w i.
        let k = r.wires.booked w i in
        let ey = ends_join_ends r.fine k.x k.y k.end k.joined in (
          (λ t. subst (λ (p : Wire). p.out.offset < last) (sym k.is) (below k.x k.y k.end k.joined (ap (λ (p : Wire). at_spot (spot x.node x.side x.pos) p.out) (sym k.is) ∙ t))),
          (λ t. subst (λ (p : Wire). p.into.offset < last) (sym k.is) (below k.y k.x ey (r.fine.good.join_back k.x k.y k.joined) (ap (λ (p : Wire). at_spot (spot x.node x.side x.pos) p.into) (sym k.is) ∙ t))),
        )) in
        let least = reached last refl in
        omega arith
      where
        reached : (n : ℕ) → last ≡ n → n ≤ above_wired (spot x.node x.side x.pos) B.wires
        reached zero q = omega arith
        reached (suc i) q =
            let y = l.linked i q in
            let small : i < count_of (M.node h.copy) x.side = let z = l.most in omega arith in
            let ends = h.ends i small in
            above_least (spot x.node x.side x.pos) i B.wires
            (wire_there r (inner# h.copy x.side i) ends (at_end (spot x.node x.side x.pos) i)
            (ap (at_end (spot x.node x.side x.pos) i) (h.outers i) ∙ end_is_here (lift x i))
            (λ v ev t. its_subport v s ev i (end_is_same (lift x i) (outer m M v) t)) y.0 y.1)

-- The square.

module _ {b : Both} {M : Model} (a : Alike b M) (p : ℕ) (x : SketchPort) where
  abbrev m : MultiPortGraph
  m = b.kit.graph

  abbrev Left : PortTidied → Sketched (Result (Unit {0}) Reason) → Type 0
  Left w v =
      TidyAlike w.answer v.answer × ((M' : Model) × Alike (record { kit = record { graph = w.graph; book = b.kit.book }; names = b.names; plan = v.plan }) M')

  abbrev counted : ℕ
  counted = sketch.tidied (above_wired (spot_named x) b.plan.wires)

  module _ (h : PortHere b M p x) where
    -- what the engine does with the port, by its mark
    tidied_is : (t : Bool) → is_split m p ≡ t → tidy_port m p ≡ record { graph = cond t (kit.tidied m p x.side) m; answer = Ok tt }
    tidied_is t e =
        tidy_is a.rel.fine p _ (seen_block_port a.rel.fine p (here# h) (h.is_seen, h.slot)) ∙ ap (λ (c : Bool). record { graph = cond c (kit.tidied m p x.side) m; answer = Ok tt }) e

    above_plan : (last : ℕ) (k : Hangs m M (here# h)) → LastLinked M k.copy x.side (count_of (M.node k.copy) x.side) last → above_wired (spot_named x) b.plan.wires ≡ last
    above_plan last k l =
        ap (above_wired (spot_named x)) a.wires
        ∙ (above_renamed b.names a.apart h.node x.block h.named x.side x.position b.kit.book.wires (wires_named a)
        ∙ above_is a.rel (here# h) k last l h.is_seen)

    tidied_left : is_split m p ≡ true → Left (record { graph = kit.tidied m p x.side; answer = Ok tt }) (leaves (set_subports b.plan x counted) (Ok tt))
    tidied_left t =
        let f = a.rel.fine in
        let e : is_split m (slot_of M.node (here# h)) ≡ true = ap (is_split m) h.slot ∙ t in
        let d = tidied_done f (here# h) h.is_seen e in
        let s = tidied_subports f (here# h) h.is_seen e in
        let g = kit.tidied m (slot_of M.node (here# h)) x.side in
        let kept : g.release ≡ m.release =
        ap (λ (q : ℕ). (kit.tidied m q x.side).release) h.slot ∙ (ap (λ (v : PortTidied). v.graph.release) (sym (tidied_is true t)) ∙ step_keeps m (book.tidy_call p)) in
        let now : subports_at g d.model (here# h) ≡ counted =
        any_model g s.fine.holds d.fine.holds (here# h) ∙ (s.here ∙ ap sketch.tidied (sym (above_plan s.last s.hangs s.linked))) in (
          tt,
          (
            d.model,
            subst (λ (q : ℕ). Alike (record { kit = record { graph = kit.tidied m q x.side; book = b.kit.book }; names = b.names; plan = set_subports b.plan x counted }) d.model) h.slot
                (alike_after a (record { graph = g; book = b.kit.book }) (set_subports b.plan x counted) (rel_same a.rel d.fine d.blocks d.wires) d.blocks
                (set_release b.plan x counted) kept (set_adds b.plan x counted) (set_blocks b.plan x counted)
                (subports_set a h b.plan refl counted g d.model now (λ y v away. any_model g s.fine.holds d.fine.holds y ∙ s.others y v away))
                (set_there a h b.plan refl counted) (set_wires b.plan x counted ∙ a.wires)),
          ),
        )

  plan_is : is_there b.plan x ≡ true → (t : Bool) → eqb (subports_of b.plan x) 0 ≡ t → sketch.tidy_port b.plan x ≡ leaves (cond t b.plan (set_subports b.plan x counted)) (Ok tt)
  unfolding sketch.tidy_port
  plan_is there t e =
      ap (λ (u : Bool). cond (not u) (leaves b.plan (Err reason.UnknownPort)) (leaves (cond (eqb (subports_of b.plan x) 0) b.plan (set_subports b.plan x counted)) (Ok tt))) there
      ∙ ap (λ (u : Bool). leaves (cond u b.plan (set_subports b.plan x counted)) (Ok tt)) e

  tidy_left : PortMeans b p x → Left (tidy_port m p) (sketch.tidy_port b.plan x)
  unfolding sketch.tidy_port reason_number
  tidy_left means = ⊎_elim here away (port_meant a p x means)
    where
      away : PortGone b M p x → Left (tidy_port m p) (sketch.tidy_port b.plan x)
      away g = rw (tidy_refuses a.rel.fine p _ (cut_dead g.0), g.1) ((_, refl), (M, a))

      here : PortHere b M p x → Left (tidy_port m p) (sketch.tidy_port b.plan x)
      here h = go (is_split m p) refl
        where
          go : (t : Bool) → is_split m p ≡ t → Left (tidy_port m p) (sketch.tidy_port b.plan x)
          go true e = as_both Left _ (tidied_is h true e) (plan_is h.there false (is_split_lem a h ∙ ap not e)) (tidied_left h e)
          go false e = as_both Left _ (tidied_is h false e) (plan_is h.there true (is_split_lem a h ∙ ap not e)) (tt, (M, a))

pub tidy_square : {b : Both} {M : Model} (p : ℕ) (x : SketchPort) (means : PortMeans b p x) → Square b M (means_tidy p x means)
tidy_square {b} {M} p x means a room = squared (tidy_left a p x means)
