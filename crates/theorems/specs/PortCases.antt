-- What a port number is, and whether a port has an offset: the cases of the tests that calls make.
use Rattle.std.specs.Prelude.{◌≡◌, refl, Bool, true, false, cond, ℕ, ◌≤◌, ◌<◌}
use Rattle.std.proofs.Common.{sym, ◌∙◌, ap, subst, ⊎_elim, arith}
use Rattle.portgraph.specs.Model as model
use Rattle.portgraph.specs.Model.{Model, to, Valid, slot_of, count_of, Dead, Far, nowhere, Slots, gone, live}
use Rattle.portgraph.specs.GoodSlots.{zero_is_not_one, slots_apart}
use Rattle.portgraph.specs.PlaceLaws.{slot_cases, dead_port, meta_of_node, gone_has_no_meta}
use Rattle.multiportgraph.specs.Reading.{is_hidden, is_split, seen, subports, end_at}
use Rattle.multi_tables.specs.Forms.{dead, hidden, visible, End, inner, lacking}
use Rattle.multiportgraph.specs.WellFormed.{Fine, lift, outer}
use Rattle.multiportgraph.specs.Ends as ends
use Rattle.multiportgraph.specs.Ends.{EndOf}
use Rattle.multiportgraph.specs.declared.multiportgraph.MultiPortGraph.{MultiPortGraph}
use Rattle.port_tables.specs.Places.{Place}
use Rattle.theorems.specs.Conditions.{Lacks, OfBlock, OfHidden, PortIs, block_port, hidden_port, no_port}
use Rattle.portgraph.specs.Lookups.{contains_node, is_some}
use Rattle.port_tables.specs.declared.node_entry.NodeMeta.{NodeMeta}

-- What is not the one is the other.

pub gone_unless : (v : Slots) → ((k : NodeMeta) → v ≡ live k → ⊥) → v ≡ gone
gone_unless gone h = refl
gone_unless (live k) h = absurd (h k refl)

pub free_unless : (v : Far) → ((y : model.InnerPlace) → v ≡ to y → ⊥) → v ≡ nowhere
free_unless nowhere h = refl
free_unless (to y) h = absurd (h y refl)

-- Ports and ends.

module _ {m : MultiPortGraph} {M : Model} (f : Fine m M) where
  pub live_contained : (n : ℕ) (k : NodeMeta) → M.node n ≡ live k → contains_node m.graph n ≡ true
  live_contained n k e = ap is_some (meta_of_node f.good f.holds n k e)

  pub gone_not_contained : (n : ℕ) → M.node n ≡ gone → contains_node m.graph n ≡ false
  gone_not_contained n e = ap is_some (gone_has_no_meta f.good f.holds n e)

  pub port_is : (p : ℕ) → PortIs m M p
  port_is p = ⊎_elim found (λ e. no_port (dead_port f.good f.holds p e)) (slot_cases f.good f.holds p)
    where
      found : (x : model.InnerPlace) × Valid M.node x × (slot_of M.node x ≡ p) → PortIs m M p
      found r = go (is_hidden m r.0.node) refl
        where
          go : (b : Bool) → is_hidden m r.0.node ≡ b → PortIs m M p
          go true h = hidden_port (r.0, (r.1, r.2), h)
          go false h = block_port r.0 ((r.1, h), r.2)

  pub seen_none : (p : ℕ) → Dead M p → seen m p ≡ dead
  seen_none p d = ends.seen_dead f p d

  pub seen_hidden_port : (p : ℕ) → OfHidden m M p → seen m p ≡ hidden
  seen_hidden_port p h = ap (seen m) (sym h.1.1) ∙ ends.seen_hidden f h.0 h.1.0 h.2

  pub seen_block_port : (p : ℕ) (x : model.InnerPlace) → OfBlock m M p x → seen m p ≡ visible x.node x.side
  seen_block_port p x b = ap (seen m) (sym b.1) ∙ ends.seen_block f x b.0

  pub lacks_is : (p : ℕ) (x : model.InnerPlace) (o : ℕ) → OfBlock m M p x → Lacks m M x o → end_at m p x.side o ≡ lacking
  lacks_is p x o b l =
      let t = f.main_marked l.0 x l.1 l.2 in
      let k = ends.split_has_copy f x b.0 t in
      let n : k.copy ≡ l.0 = ends.one_copy f k.copy l.0 x k.from l.2 in
      let c : subports m (slot_of M.node x) x.side ≤ o = rw (k.count, n) l.3 in
      ap (λ (s : ℕ). end_at m s x.side o) (sym b.1) ∙ ends.lacks_end f (slot_of M.node x) x.side o t c

  pub is_lacking : (p : ℕ) (x : model.InnerPlace) (o : ℕ) → OfBlock m M p x → end_at m p x.side o ≡ lacking → Lacks m M x o
  is_lacking p x o b e =
      let r = ends.end_lacks f (slot_of M.node x) x.side o (ap (λ (s : ℕ). end_at m s x.side o) b.1 ∙ e) in
      let k = ends.split_has_copy f x b.0 r.0 in
      (k.copy, k.is_copy, k.from, subst (λ (c : ℕ). c ≤ o) k.count r.1)

  pub end_is_lem : (p : ℕ) (x : model.InnerPlace) (o u : ℕ) → OfBlock m M p x → end_at m p x.side o ≡ inner u → EndOf m M x o u
  end_is_lem p x o u b e = ends.end_read f x o u b.0 (ap (λ (s : ℕ). end_at m s x.side o) b.1 ∙ e)

  pub not_lacking : (p : ℕ) (x : model.InnerPlace) (o u : ℕ) → OfBlock m M p x → end_at m p x.side o ≡ inner u → Lacks m M x o → ⊥
  not_lacking p x o u b e l = let z = lacks_is p x o b l in zero_is_not_one (cc)

  -- an end that is not lacking has an inner port
  pub not_lacking_there : (p : ℕ) (x : model.InnerPlace) (o : ℕ) → OfBlock m M p x → (Lacks m M x o → ⊥) → (u : ℕ) × (end_at m p x.side o ≡ inner u)
  not_lacking_there p x o b n = go (end_at m p x.side o) refl
    where
      go : (v : End) → end_at m p x.side o ≡ v → (u : ℕ) × (end_at m p x.side o ≡ inner u)
      go lacking e = absurd (n (is_lacking p x o b e))
      go (inner u) e = (u, e)

  -- one port stands at one place
  pub only_there : (p o : ℕ) (x : model.InnerPlace) → OfBlock m M p x → (Lacks m M x o → ⊥) → (y : model.InnerPlace) → OfBlock m M p y → Lacks m M y o → ⊥
  only_there p o x s n y t l = n (subst (λ (w : model.InnerPlace). Lacks m M w o) (slots_apart f.good y x t.0.0 s.0.0 (t.1 ∙ sym s.1)) l)

  -- an end that is there is not lacking
  end_not_lacking : (x : model.InnerPlace) (o u : ℕ) → EndOf m M x o u → Lacks m M x o → ⊥
  end_not_lacking x o u e l = go (is_hidden m e.end.node) refl
    where
      is : outer m M e.end ≡ lift x o
      is = e.is ∙ ap (λ (b : Bool). lift x (cond b o 0)) (f.main_marked l.0 x l.1 l.2)

      go : (b : Bool) → is_hidden m e.end.node ≡ b → ⊥
      go true h =
          let c = f.copy e.end.node h in
          let q : lift c.main e.end.pos ≡ lift x o = sym (ends.outer_of_subport f e.end c.main h c.joined) ∙ is in
          let n : e.end.node ≡ l.0 = ends.one_copy f e.end.node l.0 x (c.joined ∙ ap to (ends.lift_place q)) l.2 in
          let r : e.end.pos ≡ o = ap (λ (w : Place). w.offset) q in
          let v : e.end.pos < count_of (M.node l.0) x.side = rw (n, e.side) at e.is_end.valid in
          let w = l.3 in
          omega arith
      go false h =
          let q : e.end ≡ x = ends.lift_place (sym (ends.outer_of_block f e.end h) ∙ is) in
          let t = f.main_marked l.0 x l.1 l.2 in
          let s = ap (λ (y : model.InnerPlace). is_split m (slot_of M.node y)) q in
          let u = e.is_end.unsplit h in
          zero_is_not_one (cc)

  pub is_end : (p : ℕ) (x : model.InnerPlace) (o u : ℕ) → OfBlock m M p x → EndOf m M x o u → end_at m p x.side o ≡ inner u
  is_end p x o u b e = go (end_at m p x.side o) refl
    where
      go : (v : End) → end_at m p x.side o ≡ v → end_at m p x.side o ≡ inner u
      go lacking q = absurd (end_not_lacking x o u e (is_lacking p x o b q))
      go (inner w) q =
          let d = end_is_lem p x o w b q in
          let same : d.end ≡ e.end = ends.outer_apart f d.end e.end d.is_end e.is_end (d.is ∙ sym e.is) in
          q ∙ ap inner (sym d.slot ∙ (ap (slot_of M.node) same ∙ e.slot))
