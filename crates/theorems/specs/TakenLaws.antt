-- The test of 18 and its condition: an input has a wire exactly if its fan-out is not 0, and one that a link names is taken, under release 2,
-- exactly if it has a wire.
use Rattle.std.specs.Prelude.{◌≡◌, Bool, ◌⊎◌, ℕ, suc, eqb, length}
use Rattle.std.proofs.Math.Path.{refl, ap}
use Rattle.std.proofs.Common.{sym, ◌∙◌, arith, ne_eqb}
use Rattle.std.proofs.Math.Bool.{true, false, cond, not}
use mathlib.Core.List.{List, [], ◌∷◌}
use Rattle.std.proofs.Math.Logic.{inl, inr, ⊎_elim}
use Rattle.port_tables.specs.Lists.{Member}
use Rattle.portgraph.specs.Model as model
use Rattle.portgraph.specs.Model.{Model, slot_of}
use Rattle.portgraph.specs.GoodSlots.{zero_is_not_one}
use Rattle.port_tables.specs.declared.direction.Direction.{Direction}
use Rattle.port_tables.specs.declared.direction.Direction.TheVariants.{Incoming, Outgoing}
use Rattle.multiportgraph.specs.Reading.{seen}
use Rattle.multi_tables.specs.Forms.{visible, taken_under}
use Rattle.multiportgraph.specs.Refusals.{wired_side, wired_seen, wired_input, input_taken}
use Rattle.multiportgraph.specs.Walks.{port_links, fan_out}
use Rattle.port_tables.specs.Places.{Wire, spot, at_spot, end_on}
use Rattle.multiportgraph.specs.Wires.{place_of}
use Rattle.multiportgraph.specs.WellFormed.{Fine, Seen, lift, WireIn}
use Rattle.multiportgraph.specs.LinkCutLaws.{at_spot_here}
use Rattle.multiportgraph.specs.declared.multiportgraph.MultiPortGraph.{MultiPortGraph}
use Rattle.port_tables.specs.declared.release.Release.{Release}
use Rattle.port_tables.specs.declared.release.Release.TheVariants.{One, Two}
use Rattle.multi_tables.specs.declared.answers.SubportLink.{SubportLink}
use Rattle.theorems.specs.ListingClaims.{wire_from}
use Rattle.theorems.specs.Conditions.{OfBlock, PortIs, Taken, WiredInput, block_port, hidden_port, no_port}
use Rattle.theorems.specs.PortCases.{port_is, seen_block_port, seen_hidden_port, seen_none}
use Rattle.theorems.specs.ListedLinks.{LinkIs, own_end, from_place, link_wire, port_link_lem, port_has_link}

some_item : (a : SubportLink) (l : List SubportLink) → Member a l → not (eqb (length l) 0) ≡ true
some_item a [] i = absurd i
some_item a (b ∷ l) i = ap not (ne_eqb (suc (length l)) 0 (λ e. omega arith))

module _ {m : MultiPortGraph} {M : Model} (f : Fine m M) where
  -- a port's fan-out is not 0 exactly if a wire ends there
  wire_counted : (x : model.InnerPlace) → Seen m M x → (w : Wire) (o : ℕ) → WireIn m M w → end_on x.side w ≡ lift x o →
      not (eqb (fan_out m (slot_of M.node x)) 0) ≡ true
  unfolding fan_out
  wire_counted x s w o h e =
      let t : at_spot (spot x.node x.side x.pos) (end_on x.side w) ≡ true =
      ap (at_spot (spot x.node x.side x.pos)) e ∙ at_spot_here x.node x.side x.pos (lift x o) refl refl refl in
      let a = port_has_link f x s w h t in
      some_item a.0 (port_links m (slot_of M.node x)) a.1

  counted_wire : (x : model.InnerPlace) → Seen m M x → not (eqb (fan_out m (slot_of M.node x)) 0) ≡ true →
      (w : Wire) × (o : ℕ) × WireIn m M w × (end_on x.side w ≡ lift x o)
  unfolding fan_out
  counted_wire x s = go (port_links m (slot_of M.node x)) (port_link_lem f x s)
    where
      go : (l : List SubportLink) → ((w : SubportLink) → Member w l → LinkIs m M x w) → not (eqb (length l) 0) ≡ true →
          (w : Wire) × (o : ℕ) × WireIn m M w × (end_on x.side w ≡ lift x o)
      go [] h t = absurd (zero_is_not_one (cc))
      go (a ∷ l) h t =
          let p = h a (inl refl) in
          (wire_from m x.side a, a.from.subport_offset, link_wire f x a p, own_end x.side (place_of m a.from) (place_of m a.to) ∙ from_place f x a p)

  pub wired_input_lem : (p : ℕ) → WiredInput m M p → wired_input m p ≡ true
  unfolding wired_input
  wired_input_lem p k =
      let x = k.0 in
      let b = k.1 in
      let v : seen m p ≡ visible x.node Incoming = seen_block_port f p x b ∙ ap (visible x.node) k.2 in
      let e : end_on x.side k.3 ≡ lift x k.4 = ap (λ (d : Direction). end_on d k.3) k.2 ∙ k.6 in
      ap (wired_seen m p) v ∙ (ap (λ (q : ℕ). not (eqb (fan_out m q) 0)) (sym b.1) ∙ wire_counted x b.0 k.3 k.4 k.5 e)

  pub input_wired : (p : ℕ) → wired_input m p ≡ true → WiredInput m M p
  unfolding wired_input
  input_wired p t = go (port_is f p)
    where
      side : (x : model.InnerPlace) → OfBlock m M p x → (d : Direction) → x.side ≡ d → wired_side m p d ≡ true → WiredInput m M p
      side x b Outgoing e h = absurd (zero_is_not_one (cc))
      side x b Incoming e h =
          let k = counted_wire x b.0 (ap (λ (q : ℕ). not (eqb (fan_out m q) 0)) b.1 ∙ h) in
          (x, b, e, k.0, k.1, k.2, ap (λ (d : Direction). end_on d k.0) (sym e) ∙ k.3)

      go : PortIs m M p → WiredInput m M p
      go (no_port d) = let z = ap (wired_seen m p) (seen_none f p d) in absurd (zero_is_not_one (cc))
      go (hidden_port h) = let z = ap (wired_seen m p) (seen_hidden_port f p h) in absurd (zero_is_not_one (cc))
      go (block_port x b) = side x b x.side refl (sym (ap (wired_seen m p) (seen_block_port f p x b)) ∙ t)

  -- 18's test says its condition
  module _ (a b : ℕ) where
    pub taken_so : Taken m M a b → input_taken m a b ≡ true
    unfolding input_taken
    taken_so k = ap (λ (v : Release). taken_under v (wired_input m a) (wired_input m b)) k.0 ∙ ⊎_elim first second k.1
      where
        first : WiredInput m M a → cond (wired_input m a) true (wired_input m b) ≡ true
        first h = rw (wired_input_lem a h) refl

        second : WiredInput m M b → cond (wired_input m a) true (wired_input m b) ≡ true
        second h = go (wired_input m a)
          where
            go : (c : Bool) → cond c true (wired_input m b) ≡ true
            go true = refl
            go false = wired_input_lem b h

    pub so_taken : input_taken m a b ≡ true → Taken m M a b
    unfolding input_taken
    so_taken = go m.release refl
      where
        either : (c : Bool) → wired_input m a ≡ c → cond c true (wired_input m b) ≡ true → WiredInput m M a ⊎ WiredInput m M b
        either true e t = inl (input_wired a e)
        either false e t = inr (input_wired b t)

        go : (v : Release) → m.release ≡ v → taken_under v (wired_input m a) (wired_input m b) ≡ true → Taken m M a b
        go One e t = absurd (zero_is_not_one (cc))
        go Two e t = (e, either (wired_input m a) refl t)

    -- one or the other
    pub free_so : (Taken m M a b → ⊥) → input_taken m a b ≡ false
    free_so n = go (input_taken m a b) refl
      where
        go : (c : Bool) → input_taken m a b ≡ c → c ≡ false
        go true e = absurd (n (so_taken e))
        go false e = refl

    pub so_free : input_taken m a b ≡ false → Taken m M a b → ⊥
    so_free e k = let t = taken_so k in zero_is_not_one (cc)
