-- A history of release 2 has no two wires into one input, so its file has none, and a load for release 2 never refuses it with 18.
use Rattle.std.specs.Prelude.{◌≡◌, refl, Bool, true, false, List, [], ◌∷◌, ◌++◌, ◌⊎◌, ℕ, ◌+◌, ◌<◌, get_or, Ok, Err}
use Rattle.std.proofs.Common.{sym, ap, ◌∙◌, subst, inl, inr, ⊎_elim, arith}
use Rattle.port_tables.specs.Lists.{Member, Once}
use Rattle.portgraph.specs.Model.{Model}
use Rattle.port_tables.specs.Listing.{member_left, member_right}
use Rattle.port_tables.specs.Places.{Wire, flag}
use Rattle.multiportgraph.specs.Wires.{blocks}
use Rattle.multiportgraph.specs.declared.multiportgraph.MultiPortGraph.{MultiPortGraph}
use Rattle.port_tables.specs.declared.release.Release.{Release}
use Rattle.port_tables.specs.declared.release.Release.TheVariants.{Two}
use Rattle.multi_tables.specs.declared.answers.Refusal.TheVariants.{NoRoom, InputWired}
use Rattle.theorems.specs.Book.{Call, Book}
use Rattle.theorems.specs.History.{run}
use Rattle.theorems.specs.Claims.{count}
use Rattle.theorems.proofs.WireRule.{Rel}
use Rattle.theorems.proofs.CallLaws.{rel_run}
use Rattle.theorems.proofs.ReleaseTheorems.{release_two_wires_an_input_once}
use Rattle.files.specs.View.{RankWire, rank_among, rank_wire, view_of}
use Rattle.files.specs.Saving.{file_of}
use Rattle.files.specs.Loading.{load_answer}
use Rattle.files.specs.Claims.{rank_in, same_wire, how_many}
use Rattle.files.specs.OrderLaws.{same_wire_equal, same_wire_self}
use Rattle.files.specs.RankLaws.{at_read, rank_at, rank_booked}
use Rattle.files.specs.ViewLaws.{wire_fits, wires_viewed}
use Rattle.files.specs.LoadClaims.{SameInput, SharesInput}
use Rattle.files.specs.InputLaws.{counted, member_counted}
use Rattle.files.specs.LoadAnswers.{saved_answers}
use Rattle.files.specs.declared.load.LoadError.TheVariants.{Refused}

-- a book has no two wires into one input
abbrev pub OneEach : Book → Type 0
OneEach B = (w v : Wire) → Member w B.wires → Member v B.wires → w.into.node ≡ v.into.node → w.into.pos ≡ v.into.pos → w ≡ v

-- two of a list that has each once
two_counted : (f : Wire → Bool) (l : List Wire) → Once l → 1 < count f l → (w : Wire) × (v : Wire) × Member w l × Member v l × (f w ≡ true) × (f v ≡ true) × (w ≡ v → ⊥)
two_counted f [] o h = absurd (omega arith)
two_counted f (w ∷ l) o h = go (f w) refl (two_counted f l o.1) h
  where
    Two-of : List Wire → Type 0
    Two-of k = (x : Wire) × (v : Wire) × Member x k × Member v k × (f x ≡ true) × (f v ≡ true) × (x ≡ v → ⊥)

    go : (b : Bool) → f w ≡ b → (1 < count f l → Two-of l) → 1 < flag b + count f l → Two-of (w ∷ l)
    go true e rest k =
        let c = counted f l (omega arith) in
        (w, c.0, inl refl, inr c.1, e, c.2, λ q. o.0 (subst (λ (x : Wire). Member x l) (sym q) c.1))
    go false e rest k =
        let c = rest (omega arith) in
        (c.0, c.1, inr c.2, inr c.3, c.4, c.5, c.6)

-- a wire that stands among the first and once more after them
counted_twice : (w : RankWire) (first later : List RankWire) → Member w first → 1 < how_many same_wire w (first ++ (w ∷ later))
counted_twice w [] later i = absurd i
counted_twice w (u ∷ first) later (inl e) =
    let a = ap (λ (x : RankWire). same_wire x w) (sym e) ∙ same_wire_self w in
    let b = member_counted w (first ++ (w ∷ later)) (member_right w first (w ∷ later) (inl refl)) in
    rw a (omega arith)
counted_twice w (u ∷ first) later (inr i) = let h = counted_twice w first later i in omega arith

module _ {m : MultiPortGraph} {M : Model} {B : Book} (r : Rel m M B) (one : OneEach B) where
  -- a rank tells the block
  rank_tells : (n k : ℕ) → Member n (blocks m) → Member k (blocks m) → rank_in B n ≡ rank_in B k → n ≡ k
  rank_tells n k i j e =
      let p : rank_among (blocks m) n ≡ rank_among (blocks m) k = rank_booked r n i ∙ (e ∙ sym (rank_booked r k j)) in
      sym (at_read (blocks m) (rank_among (blocks m) n) n 0 (rank_at (blocks m) n i))
      ∙ (ap (λ (a : ℕ). get_or (blocks m) a 0) p ∙ at_read (blocks m) (rank_among (blocks m) k) k 0 (rank_at (blocks m) k j))

  abbrev ranked : Wire → RankWire
  ranked = rank_wire (rank_in B)

  -- two wires of the book whose ranked ones end at one input are one
  ranked_one : (x y : Wire) → Member x B.wires → Member y B.wires → SameInput (ranked x) (ranked y) → x ≡ y
  ranked_one x y i j (p, q) =
      let a = (wire_fits r.fine x (r.wires.booked x i)).1.block in
      let b = (wire_fits r.fine y (r.wires.booked y j)).1.block in
      one x y i j (rank_tells x.into.node y.into.node a b p) q

  -- a wire of the view stands in the book
  viewed : (u : RankWire) → Member u (view_of m).wires → (x : Wire) × Member x B.wires × (ranked x ≡ u)
  viewed u i =
      let h = member_counted u (view_of m).wires i in
      let e = wires_viewed r u in
      let c = counted (λ (w : Wire). same_wire (ranked w) u) B.wires (omega arith) in
      (c.0, c.1, same_wire_equal (ranked c.0) u c.2)

  pub view_shares_none : SharesInput (view_of m).wires → ⊥
  view_shares_none s =
      let u = s.earlier in
      let w = s.wire in
      let x = viewed u (subst (Member u) (sym s.is) (member_left u s.first (w ∷ s.later) s.before)) in
      let y = viewed w (subst (Member w) (sym s.is) (member_right w s.first (w ∷ s.later) (inl refl))) in
      let same : SameInput (ranked x.0) (ranked y.0) = (
        ap (λ (v : RankWire). v.target) x.2 ∙ (s.same.0 ∙ ap (λ (v : RankWire). v.target) (sym y.2)),
        ap (λ (v : RankWire). v.input) x.2 ∙ (s.same.1 ∙ ap (λ (v : RankWire). v.input) (sym y.2)),
      ) in
      let e : u ≡ w = sym x.2 ∙ (ap ranked (ranked_one x.0 y.0 x.1 y.1 same) ∙ y.2) in
      let h = counted_twice w s.first s.later (subst (λ (v : RankWire). Member v s.first) e s.before) in
      let k = ap (how_many same_wire w) s.is in
      let n = wires_viewed r w in
      let c = two_counted (λ (v : Wire). same_wire (ranked v) w) B.wires r.wires.once (omega arith) in
      let p = same_wire_equal (ranked c.0) w c.4 in
      let q = same_wire_equal (ranked c.1) w c.5 in
      c.6 (ranked_one c.0 c.1 c.2 c.3
      (ap (λ (v : RankWire). v.target) (p ∙ sym q), ap (λ (v : RankWire). v.input) (p ∙ sym q)))

-- so a kit may refuse its own file with 10, and with nothing else
pub saved_or_no_room : (release : Release) (calls : List Call) →
    (load_answer release (file_of (run release calls).graph) ≡ Ok tt) ⊎ (load_answer release (file_of (run release calls).graph) ≡ Err (Refused NoRoom))
saved_or_no_room release calls =
    ⊎_elim (λ k. k)
    (λ (k : (load_answer release (file_of (run release calls).graph) ≡ Err (Refused InputWired)) × (release ≡ Two) × SharesInput (view_of (run release calls).graph).wires).
    absurd
    (view_shares_none (rel_run Two calls).1 (release_two_wires_an_input_once calls)
    (subst (λ (r : Release). SharesInput (view_of (run r calls).graph).wires) k.1 k.2)))
    (saved_answers release release calls)
