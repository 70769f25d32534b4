-- What a pair of calls names, on an engine and a sketch that are alike: a port of a block and the port with its place, or nothing in either; so for a
-- block. Both are split, read an offset and lack one alike.
use Rattle.std.specs.Prelude.{◌≡◌, refl, Bool, true, false, cond, not, List, [], ◌∷◌, ◌⊎◌, ℕ, ◌≤◌, ◌<◌, eqb, leb}
use Rattle.std.proofs.Common.{sym, ◌∙◌, ap, subst, inl, inr, arith, eq-eqb, ne_eqb, eqb-true, lt-ltb, leb-true, leb-false}
use Rattle.port_tables.specs.Lists.{Member, Rising}
use Rattle.port_tables.specs.Entries.{ports_on, new_count}
use Rattle.portgraph.specs.Model as model
use Rattle.portgraph.specs.Model.{Model, Slots, gone, live, slot_of, count_of, Dead}
use Rattle.portgraph.specs.GoodSlots.{zero_is_not_one}
use Rattle.port_tables.specs.declared.direction.Direction.{Direction}
use Rattle.port_tables.specs.declared.direction.Direction.TheVariants.{Incoming, Outgoing}
use Rattle.port_tables.specs.declared.node_entry.NodeMeta.{NodeMeta}
use Rattle.multiportgraph.specs.WellFormed.{inner#, BlockIs, Seen, WireIn}
use Rattle.multiportgraph.specs.Ends.{split_has_copy, split_has_subports, one_copy, outer_seen, ends_join_ends, dead_seen}
use Rattle.multiportgraph.specs.HiddenStays.{true_not_false}
use Rattle.port_tables.specs.Places.{Place, Wire}
use Rattle.multiportgraph.specs.Reading.{is_split, subports}
use Rattle.theorems.specs.Book.{read_by}
use Rattle.theorems.specs.Conditions.{Lacks}
use Rattle.theorems.proofs.WireRule.{seen_live}
use Rattle.theorems.proofs.ListingWires.{spot_back}
use Rattle.sketches.specs.Plan.{PlanBlock, has_block, ports_on_side, is_there, subports_of, offset_read, lacks_offset}
use Rattle.sketches.specs.declared.sketch.SketchPort.{SketchPort}
use Rattle.agreement.specs.Meaning.{Both, PortMeans, same_port, no_port, BlockMeans, same_block, no_block}
use Rattle.agreement.specs.Alike.{Alike, OtherName, subports_at}
use Rattle.agreement.specs.Names.{naming, HasName, AllNamed}
use Rattle.theorems.specs.PortCases.{gone_unless, live_contained}

-- Blocks of a plan.

pub on_side : (l : List PlanBlock) → Rising OtherName l → (p : PlanBlock) → Member p l → (d : Direction) → ports_on_side l p.name d ≡ new_count p.incoming p.outgoing d
unfolding ports_on_side
on_side [] r p never d = absurd never
on_side (q ∷ l) r p (inl e) d = rw (← e, eq-eqb p.name p.name refl) refl
on_side (q ∷ l) r p (inr i) d = rw (ne_eqb q.name p.name (r.0 p i)) (on_side l r.1 p i d)

pub has_block_lem : (l : List PlanBlock) (p : PlanBlock) → Member p l → has_block l p.name ≡ true
unfolding has_block
has_block_lem [] p never = absurd never
has_block_lem (q ∷ l) p (inl e) = rw (← e, eq-eqb p.name p.name refl) refl
has_block_lem (q ∷ l) p (inr i) = go (eqb q.name p.name) (has_block_lem l p i)
  where
    go : (t : Bool) → has_block l p.name ≡ true → cond t true (has_block l p.name) ≡ true
    go true e = refl
    go false e = e

pub block_had : (l : List PlanBlock) (n : ℕ) → has_block l n ≡ true → (p : PlanBlock) × Member p l × (p.name ≡ n)
unfolding has_block
block_had [] n e = absurd (zero_is_not_one (cc))
block_had (q ∷ l) n e = go (eqb q.name n) refl (block_had l n) e
  where
    go : (t : Bool) → eqb q.name n ≡ t → (has_block l n ≡ true → (p : PlanBlock) × Member p l × (p.name ≡ n)) → cond t true (has_block l n) ≡ true →
        (p : PlanBlock) × Member p (q ∷ l) × (p.name ≡ n)
    go true s rest h = (q, inl refl, eqb-true q.name n s)
    go false s rest h = let r = rest h in (r.0, inr r.1, r.2)

pub counts_are : (k : NodeMeta) (d : Direction) → new_count k.incoming k.outgoing d ≡ ports_on k d
counts_are k Incoming = refl
counts_are k Outgoing = refl

-- a node and its name: a block of both with the same counts
pub record BlockHere (b : Both) (M : Model) (n k : ℕ) : Type 0 where
  pub named : Member (naming n k) b.names
  pub meta : NodeMeta
  pub block : BlockIs b.kit.graph M n meta
  pub listed : Member (record { name = k; incoming = meta.incoming; outgoing = meta.outgoing }) b.plan.blocks
  pub there : has_block b.plan.blocks k ≡ true
  pub counts : (d : Direction) → ports_on_side b.plan.blocks k d ≡ ports_on meta d

-- a port and its place under the names
pub record PortHere (b : Both) (M : Model) (p : ℕ) (x : SketchPort) : Type 0 where
  pub node : ℕ
  pub is_seen : Seen b.kit.graph M (inner# node x.side x.position)
  pub slot : slot_of M.node (inner# node x.side x.position) ≡ p
  pub named : Member (naming node x.block) b.names
  pub there : is_there b.plan x ≡ true

abbrev pub here# : {b : Both} {M : Model} {p : ℕ} {x : SketchPort} → PortHere b M p x → model.InnerPlace
here# {b} {M} {p} {x} h = inner# h.node x.side x.position

-- nothing of either
abbrev pub PortGone : Both → Model → ℕ → SketchPort → Type 0
PortGone b M p x = Dead M p × (is_there b.plan x ≡ false)

abbrev pub BlockGone : Both → Model → ℕ → ℕ → Type 0
BlockGone b M n k = (M.node n ≡ gone) × (has_block b.plan.blocks k ≡ false)

module _ {b : Both} {M : Model} (a : Alike b M) where
  -- Names.

  pub block_name : (n : ℕ) (k : NodeMeta) → BlockIs b.kit.graph M n k → HasName b.names n
  block_name n k h =
      let x = a.kit_named n k h in
      (x.0.name, subst (λ (v : ℕ). Member (naming v x.0.name) b.names) x.2 x.1)

  pub seen_name : (x : model.InnerPlace) → Seen b.kit.graph M x → HasName b.names x.node
  seen_name x s = let k = seen_live a.rel.fine x s in block_name x.node k.0 k.1

  pub wire_named : (w : Wire) → WireIn b.kit.graph M w → HasName b.names w.out.node × HasName b.names w.into.node
  wire_named w h =
      let f = a.rel.fine in
      let p = outer_seen f h.x h.end in
      let q = outer_seen f h.y (ends_join_ends f h.x h.y h.end h.joined) in
      let e : w.out.node ≡ p.main.node = ap (λ (v : Wire). v.out.node) h.is ∙ ap (λ (v : Place). v.node) p.is in
      let g : w.into.node ≡ q.main.node = ap (λ (v : Wire). v.into.node) h.is ∙ ap (λ (v : Place). v.node) q.is in
      (subst (HasName b.names) (sym e) (seen_name p.main p.is_seen), subst (HasName b.names) (sym g) (seen_name q.main q.is_seen))

  pub wires_named : AllNamed b.names b.kit.book.wires
  wires_named w i = wire_named w (a.rel.wires.booked w i)

  -- Blocks.

  pub block_here : (n k : ℕ) → Member (naming n k) b.names → BlockHere b M n k
  block_here n k i =
      let x = a.named (naming n k) i in
      record {
        named = i;
        meta = x.0;
        block = x.1;
        listed = x.2;
        there = has_block_lem b.plan.blocks _ x.2;
        counts = λ d. on_side b.plan.blocks a.plan_once _ x.2 d ∙ counts_are x.0 d;
      }

  pub block_meant : (n k : ℕ) → BlockMeans b n k → BlockHere b M n k ⊎ BlockGone b M n k
  block_meant n k (same_block i) = inl (block_here n k i)
  block_meant n k (no_block e h) = inr (gone_unless (M.node n) (λ c q. true_not_false (live_contained a.rel.fine n c q) e), h)

  -- Ports.

  pub port_there : (n : ℕ) (x : SketchPort) → Member (naming n x.block) b.names → Seen b.kit.graph M (inner# n x.side x.position) → is_there b.plan x ≡ true
  unfolding is_there
  port_there n x i s =
      let k = block_here n x.block i in
      let v : x.position < ports_on k.meta x.side = (rw k.block.1 at s).0 in
      rw (k.counts x.side) (lt-ltb x.position (ports_on k.meta x.side) v)

  pub port_meant : (p : ℕ) (x : SketchPort) → PortMeans b p x → PortHere b M p x ⊎ PortGone b M p x
  port_meant p x (same_port n e i) =
      let s = spot_back a.rel p n x.side x.position e in
      inl (record { node = n; is_seen = s.0; slot = s.1; named = i; there = port_there n x i s.0 })
  port_meant p x (no_port e h) = inr (dead_seen a.rel.fine p e, h)

  -- Subports.

  module _ {p : ℕ} {x : SketchPort} (h : PortHere b M p x) where
    pub subports_here : subports_of b.plan x ≡ subports_at b.kit.graph M (here# h)
    subports_here = a.subports (here# h) h.is_seen (naming h.node x.block) h.named refl

    split_here : is_split b.kit.graph p ≡ true → 2 ≤ subports_of b.plan x
    split_here t =
        let e : is_split b.kit.graph (slot_of M.node (here# h)) ≡ true = ap (is_split b.kit.graph) h.slot ∙ t in
        let c = split_has_subports a.rel.fine (here# h) h.is_seen e in
        let q : subports_of b.plan x ≡ subports b.kit.graph (slot_of M.node (here# h)) x.side = subports_here ∙ rw e refl in
        omega arith

    pub whole_here : is_split b.kit.graph p ≡ false → subports_of b.plan x ≡ 0
    whole_here t =
        let e : is_split b.kit.graph (slot_of M.node (here# h)) ≡ false = ap (is_split b.kit.graph) h.slot ∙ t in
        subports_here ∙ rw e refl

    -- the sketch's number of subports is 0 exactly where the port is not split
    pub is_split_lem : eqb (subports_of b.plan x) 0 ≡ not (is_split b.kit.graph p)
    is_split_lem = go (is_split b.kit.graph p) refl
      where
        go : (t : Bool) → is_split b.kit.graph p ≡ t → eqb (subports_of b.plan x) 0 ≡ not t
        go true e = let c = split_here e in ne_eqb (subports_of b.plan x) 0 (λ q. omega arith)
        go false e = eq-eqb (subports_of b.plan x) 0 (whole_here e)

    pub offset_read_lem : (o : ℕ) → offset_read b.plan x o ≡ read_by (is_split b.kit.graph p) o
    offset_read_lem o = rw is_split_lem (go (is_split b.kit.graph p))
      where
        go : (t : Bool) → cond (not t) 0 o ≡ read_by t o
        go true = refl
        go false = refl

    -- it lacks an offset in the sketch exactly where it does in the engine
    pub lacks_so : (o : ℕ) → lacks_offset b.plan x o ≡ true → Lacks b.kit.graph M (here# h) o
    lacks_so o = rw is_split_lem (go (is_split b.kit.graph p) refl)
      where
        go : (t : Bool) → is_split b.kit.graph p ≡ t → cond (not t) false (leb (subports_of b.plan x) o) ≡ true → Lacks b.kit.graph M (here# h) o
        go true e l =
            let t : is_split b.kit.graph (slot_of M.node (here# h)) ≡ true = ap (is_split b.kit.graph) h.slot ∙ e in
            let k = split_has_copy a.rel.fine (here# h) h.is_seen t in
            let q : subports_of b.plan x ≡ count_of (M.node k.copy) x.side = subports_here ∙ (rw t refl ∙ k.count) in
            let n = leb-true (subports_of b.plan x) o l in
            (k.copy, k.is_copy, k.from, omega arith)
        go false e l = absurd (zero_is_not_one (cc))

    pub lacks_not : (o : ℕ) → lacks_offset b.plan x o ≡ false → Lacks b.kit.graph M (here# h) o → ⊥
    lacks_not o = rw is_split_lem (go (is_split b.kit.graph p) refl)
      where
        go : (t : Bool) → is_split b.kit.graph p ≡ t → cond (not t) false (leb (subports_of b.plan x) o) ≡ false → Lacks b.kit.graph M (here# h) o → ⊥
        go true e l c =
            let t : is_split b.kit.graph (slot_of M.node (here# h)) ≡ true = ap (is_split b.kit.graph) h.slot ∙ e in
            let k = split_has_copy a.rel.fine (here# h) h.is_seen t in
            let s : k.copy ≡ c.0 = one_copy a.rel.fine k.copy c.0 (here# h) k.from c.2 in
            let q : subports_of b.plan x ≡ count_of (M.node c.0) x.side = subports_here ∙ (rw t refl ∙ (k.count ∙ ap (λ (v : ℕ). count_of (M.node v) x.side) s)) in
            let n = leb-false (subports_of b.plan x) o l in
            let d = c.3 in
            omega arith
        go false e l c =
            let t = a.rel.fine.main_marked c.0 (here# h) c.1 c.2 in
            true_not_false t (ap (is_split b.kit.graph) h.slot ∙ e)
