-- Which links of a build give 18: for release 2, those before which a wire already ends at the same input. Between an output and an input
-- nothing else refuses a link but space.
use Rattle.std.specs.Prelude.{◌≡◌, refl, Bool, true, false, List, [], ◌∷◌, ◌⊎◌, ℕ, ◌+◌, ◌<◌, Err}
use Rattle.std.proofs.Common.{sym, ap, ◌∙◌, inl, inr, arith}
use Rattle.port_tables.specs.Lists.{Member}
use Rattle.portgraph.specs.Model as model
use Rattle.portgraph.specs.Model.{Model}
use Rattle.portgraph.specs.GoodSlots.{zero_is_not_one, slots_apart}
use Rattle.port_tables.specs.declared.direction.Direction.TheVariants.{Incoming, Outgoing}
use Rattle.multiportgraph.specs.Calls.{link_pair}
use Rattle.multiportgraph.specs.WellFormed.{inner#}
use Rattle.multiportgraph.specs.Ends.{into_side}
use Rattle.port_tables.specs.Places.{Place, Wire, flag}
use Rattle.multiportgraph.specs.declared.multiportgraph.MultiPortGraph.{MultiPortGraph}
use Rattle.port_tables.specs.declared.release.Release.TheVariants.{Two}
use Rattle.multiportgraph.specs.declared.multiportgraph.PortsLinked.{PortsLinked}
use Rattle.multi_tables.specs.declared.answers.Refusal.{Refusal}
use Rattle.multi_tables.specs.declared.answers.Refusal.TheVariants.{NoRoom, InputWired}
use Rattle.theorems.specs.Book.{Book}
use Rattle.theorems.specs.Claims.{count}
use Rattle.theorems.specs.Conditions.{OfBlock, WiredInput, Taken, LinkRefused, link_first_dead, link_first_hidden, link_second_hidden, link_wired, link_first_full, link_second_full, link_second_dead, link_one_side}
use Rattle.theorems.proofs.LinkCall.{block_not_hidden, link_refuses, link_refused_lem}
use Rattle.theorems.proofs.WireRule.{Rel}
use Rattle.files.specs.View.{RankWire, rank_wire}
use Rattle.files.specs.Claims.{same_wire, how_many}
use Rattle.files.specs.OrderLaws.{counted_in, same_wire_equal, same_wire_self}

-- Counts.

-- what is counted is there,
pub counted : (f : Wire → Bool) (l : List Wire) → 0 < count f l → (w : Wire) × Member w l × (f w ≡ true)
counted f [] h = absurd (omega arith)
counted f (w ∷ l) h = go (f w) refl (counted f l) h
  where
    go : (b : Bool) → f w ≡ b → (0 < count f l → (v : Wire) × Member v l × (f v ≡ true)) → 0 < flag b + count f l → (v : Wire) × Member v (w ∷ l) × (f v ≡ true)
    go true e rest k = (w, inl refl, e)
    go false e rest k = let r = rest (omega arith) in (r.0, inr r.1, r.2)

-- and what is there is counted
counts : (f : Wire → Bool) (w : Wire) (l : List Wire) → Member w l → f w ≡ true → 0 < count f l
counts f w [] i t = absurd i
counts f w (v ∷ l) (inl e) t = rw (ap f (sym e) ∙ t) (omega arith)
counts f w (v ∷ l) (inr i) t = let h = counts f w l i t in omega arith

pub member_counted : (w : RankWire) (l : List RankWire) → Member w l → 0 < how_many same_wire w l
member_counted w [] i = absurd i
member_counted w (v ∷ l) (inl e) = rw (ap (λ (x : RankWire). same_wire x w) (sym e) ∙ same_wire_self w) (omega arith)
member_counted w (v ∷ l) (inr i) = let h = member_counted w l i in omega arith

-- a wire of a build: each block's number is its rank
abbrev pub plain : Wire → RankWire
plain = rank_wire (λ n. n)

-- A link from an output to an input, where the book has the wires of a list, each as often as it stands there.
module _ {m : MultiPortGraph} {M : Model} {B : Book} (r : Rel m M B) (a b : ℕ) (n i k j : ℕ) (s : OfBlock m M a (inner# n Outgoing i)) (t : OfBlock m M b (inner# k Incoming j))
  where
    same_port : (p : ℕ) (x y : model.InnerPlace) → OfBlock m M p x → OfBlock m M p y → x ≡ y
    same_port p x y u v = slots_apart r.fine.good x y u.0.0 v.0.0 (u.1 ∙ sym v.1)

    outgoing_not_incoming : Outgoing ≡ Incoming → ⊥
    outgoing_not_incoming e = zero_is_not_one (cc)

    -- it is refused with 18 or for space
    refusals : (h : MultiPortGraph) (c : Refusal) → LinkRefused m M a b h c → (Taken m M a b × (c ≡ InputWired)) ⊎ (c ≡ NoRoom)
    refusals h c (link_first_dead d) = absurd (d _ s.0.0 s.1)
    refusals h c (link_first_hidden z) = absurd (block_not_hidden r.fine a _ s z)
    refusals h c (link_second_hidden x u z) = absurd (block_not_hidden r.fine b _ t z)
    refusals h c (link_wired x u z w) = inl (w, refl)
    refusals h c (link_first_full x u z w e) = inr refl
    refusals h c (link_second_full x y m₁ p o u z w e g) = inr refl
    refusals h c (link_second_dead x m₁ p o u d w e) = absurd (d _ t.0.0 t.1)
    refusals h c (link_one_side x y m₁ m₂ p o v q u z w e g l) =
        absurd
        (outgoing_not_incoming
        (ap (λ (p : model.InnerPlace). p.side) (same_port a (inner# n Outgoing i) x s u) ∙ (l ∙ ap (λ (p : model.InnerPlace). p.side) (same_port b y (inner# k Incoming j) z t))))

    pub link_refusals : (c : Refusal) → (link_pair m a b).answer ≡ Err c → (Taken m M a b × (c ≡ InputWired)) ⊎ (c ≡ NoRoom)
    link_refusals c e = refusals (link_pair m a b).graph c (link_refused_lem r.fine a b c e)

    pub taken_refused : Taken m M a b → (link_pair m a b).answer ≡ Err InputWired
    taken_refused w = ap (λ (v : PortsLinked). v.answer) (link_refuses r.fine a b m InputWired (link_wired (inner# n Outgoing i) s (block_not_hidden r.fine b _ t) w))

    module _ (ws : List RankWire) (entered : (z : RankWire) → count (λ (w : Wire). same_wire (plain w) z) B.wires ≡ how_many same_wire z ws) where
      -- the input has a wire exactly if one of the list ends there
      wired_by : WiredInput m M b → (u : RankWire) × Member u ws × (u.target ≡ k) × (u.input ≡ j)
      wired_by (x, p, side, w, o, here, into) =
          let q = same_port b x (inner# k Incoming j) p t in
          let c = counts (λ (v : Wire). same_wire (plain v) (plain w)) w B.wires (r.wires.walks w here) (same_wire_self (plain w)) in
          let e = entered (plain w) in (
            plain w,
            counted_in same_wire same_wire_equal same_wire_self (plain w) ws (omega arith),
            (ap (λ (z : Place). z.node) into ∙ ap (λ (z : model.InnerPlace). z.node) q),
            (ap (λ (z : Place). z.pos) into ∙ ap (λ (z : model.InnerPlace). z.pos) q),
          )

      by_wire : (u : RankWire) → Member u ws → u.target ≡ k → u.input ≡ j → WiredInput m M b
      by_wire u z p q =
          let c = member_counted u ws z in
          let e = entered u in
          let f = counted (λ (v : Wire). same_wire (plain v) u) B.wires (omega arith) in
          let w = f.0 in
          let here = r.wires.booked w f.1 in
          let l = same_wire_equal (plain w) u f.2 in
          let x = ap (λ (v : RankWire). v.target) l ∙ p in
          let y = ap (λ (v : RankWire). v.input) l ∙ q in
          let side = into_side r.fine w here in
          (inner# k Incoming j, t, refl, w, w.into.offset, here, (λ h. record { node = x h; side = side h; pos = y h; offset = w.into.offset }))

      -- so 18 is given, for release 2, exactly then
      pub taken_by : Taken m M a b → (m.release ≡ Two) × ((u : RankWire) × Member u ws × (u.target ≡ k) × (u.input ≡ j))
      taken_by (two, inl h) =
          absurd (outgoing_not_incoming (ap (λ (z : model.InnerPlace). z.side) (same_port a (inner# n Outgoing i) h.0 s h.1) ∙ h.2))
      taken_by (two, inr h) = (two, wired_by h)

      pub by_taken : m.release ≡ Two → (u : RankWire) → Member u ws → u.target ≡ k → u.input ≡ j → Taken m M a b
      by_taken two u z p q = (two, inr (by_wire u z p q))
