-- The square of a resize: the block has the counts named in both, wires and split ports at dropped positions go, a port that stays is as split as it was, and
-- a new one is not split.
use Rattle.std.proofs.lemmas.Bool.{cases_eq, false_from_ne_true, not-true}
use Rattle.std.specs.Prelude.{◌≡◌, Bool, cond, List, [], ◌∷◌, map, ◌⊎◌, ℕ, ◌+◌, ◌≤◌, ◌<◌, leb, take, drop, Result, Ok, Err}
use Rattle.std.proofs.Math.Path.{refl, sym, ap, subst}
use Rattle.std.proofs.Common.{◌∙◌, inl, inr, ⊎_elim}
use Rattle.std.proofs.Math.Bool.{true, false, not}
use native.Mathlib.Omega.{arith}
use Rattle.std.proofs.Math.Dec.{eqb, ltb}
use borrow.Author.Tests.{eqb-true, eqb-false, eq-eqb, ne_eqb, leb-true, leb-false, ltb-true, lt-ltb, lt-leb}
use Rattle.port_tables.specs.Limits.{port_slots, node_ports, present}
use Rattle.port_tables.specs.Lists.{Member}
use Rattle.std.specs.List.{filter}
use Rattle.port_tables.specs.Entries.{ports_on, new_count}
use Rattle.portgraph.specs.Lookups.{meta_at}
use Rattle.portgraph.specs.Model as model
use Rattle.portgraph.specs.Model.{Model, to, Slots, live, Valid, slot_of, count_of}
use Rattle.portgraph.specs.GoodSlots.{zero_is_not_one}
use Rattle.portgraph.specs.PlaceLaws.{meta_of_node}
use Rattle.portgraph.specs.Resize.{set_num_ports}
use Rattle.port_tables.specs.declared.direction.Direction.{Direction}
use Rattle.port_tables.specs.declared.node_entry.NodeMeta.{NodeMeta}
use Rattle.portgraph.specs.declared.portgraph.PortGraph.{PortGraph}
use Rattle.multiportgraph.specs.Calls.{set_counts, set_as}
use Rattle.multiportgraph.specs.Cases.{resized, set_meta, set_refused}
use Rattle.multiportgraph.specs.CaseLaws.{set_cases}
use Rattle.multiportgraph.specs.Ends.{ports_walked_lem}
use Rattle.multiportgraph.specs.HiddenStays.{true_not_false}
use Rattle.multiportgraph.specs.HiddenNodes.{recounted, copies_dropped, remove_all}
use Rattle.multiportgraph.specs.WellFormed.{Fine, BlockIs, Seen}
use Rattle.port_tables.specs.Listing.{member_filter, member_map, map_member, rising_map}
use Rattle.multiportgraph.specs.LinkCutLaws.{at_spot_is}
use Rattle.port_tables.specs.Places.{Place, spot, of_dropped, without}
use Rattle.multiportgraph.specs.Reading.{is_hidden}
use Rattle.multiportgraph.specs.RecountLaws.{SomeRecount, set_recounts, count_new, recount_of}
use Rattle.multiportgraph.specs.SetLaws.{SetDone, set_counts_law, all_go, resize_loosens, resize_tracks}
use Rattle.multiportgraph.specs.Wires.{ports_walked}
use Rattle.multiportgraph.specs.declared.multiportgraph.MultiPortGraph.{MultiPortGraph}
use Rattle.multiportgraph.specs.declared.multiportgraph.PortsSet.{PortsSet}
use Rattle.multi_tables.specs.declared.answers.Refusal.{Refusal}
use Rattle.multi_tables.specs.declared.answers.Refusal.TheVariants.{TooManyPorts, MovesTooShort, NoRoom}
use Rattle.theorems.specs.Book as book
use Rattle.theorems.specs.Book.{not_block, book_set}
use Rattle.theorems.specs.Conditions.{SetRefused, set_many, set_gone, set_hidden, set_short, set_full}
use Rattle.theorems.proofs.ReleaseRuns.{step_keeps}
use Rattle.theorems.proofs.SetCall.{set_refuses, set_refused_lem}
use Rattle.theorems.proofs.WireRule.{RightBlocks, blocks_set, wires_dropped, seen_live}
use Rattle.sketches.specs.Plan.{Plan, PlanBlock, has_block, ports_on_side, ports_in_all, port_at, is_there, subports_among}
use Rattle.sketches.specs.PlanCalls as sketch
use Rattle.sketches.specs.PlanCalls.{Sketched, leaves, recount}
use Rattle.sketches.specs.PlanNumbers.{reason_number}
use Rattle.sketches.specs.declared.sketch.Reason.TheVariants as reason
use Rattle.agreement.specs.Meaning.{Naming, Both, BlockMeans, set_plan, means_set}
use Rattle.agreement.specs.Agreement.{SetAlike, HasRoom}
use Rattle.agreement.specs.Alike.{Alike, OtherName, subports_at}
use Rattle.agreement.specs.Square.{Square, pair, squared, as_both}
use Rattle.agreement.specs.Names.{naming, node_of_lem, one_name, same_dropped, without_renamed}
use Rattle.agreement.specs.Standing.{BlockHere, BlockGone, block_meant, wires_named}
use Rattle.agreement.specs.PlanLaws.{among_kept, among_none}
use Rattle.agreement.specs.KeptSplits.{any_model, same_subports, unlinked_whole, nodes_by_table}
use Rattle.agreement.specs.AddSquare.{there_of_block}
use Rattle.sketches.specs.declared.sketch.Reason.{Reason}
use Rattle.portgraph.specs.declared.resize.SetError.TheVariants as set_error
use Rattle.portgraph.specs.declared.resize.SetError.{SetError}

-- In the engine: links after an accepted resize were there before.

module _ {m : MultiPortGraph} {M : Model} (f : Fine m M) (n i o room : ℕ) (k : NodeMeta) (b : BlockIs m M n k) where
  abbrev JoinsWere : PortsSet → Type 0
  JoinsWere s = (e : ℕ) → s.answer ≡ Ok e → (N : Model) × Fine s.graph N × ((x y : model.InnerPlace) → N.join x ≡ to y → M.join x ≡ to y)

  joins_were : JoinsWere (set_counts m n i o room)
  joins_were =
      subst JoinsWere (sym (set_cases present m n i o room))
      (few (leb (i + o) node_ports))
    where
      none : (x : Refusal) → JoinsWere (set_refused m x)
      none x e q = absurd (zero_is_not_one (cc))

      done : (g : PortGraph) → SomeRecount g M n i o → (N : Model) × Fine (remove_all (recounted m n g) (copies_dropped m k i o)) N × ((x y : model.InnerPlace) → N.join x ≡ to y → M.join x ≡ to y)
      done g s =
          let r = recount_of s k b.1 in
          let z = all_go (copies_dropped m k i o) (resize_loosens f n k b.0 b.1 i o r) (resize_tracks f n k b.0 b.1 i o r) in
          (z.model', z.fine, z.tracks.was)

      lower : (t : Result ℕ SetError) → (set_num_ports m.graph n i o room).answer ≡ t →
          JoinsWere (record { graph = resized m n k i o (set_num_ports m.graph n i o room).graph t; answer = set_as t })
      lower (Ok e) q x p = done (set_num_ports m.graph n i o room).graph (set_recounts f.good f.holds n i o room e q)
      lower (Err set_error.TooManyPorts) q x p = absurd (zero_is_not_one (cc))
      lower (Err set_error.UnknownNode) q x p = absurd (zero_is_not_one (cc))
      lower (Err set_error.MovesTooShort) q x p = absurd (zero_is_not_one (cc))
      lower (Err set_error.NoRoom) q x p = absurd (zero_is_not_one (cc))

      few : (t : Bool) → JoinsWere (cond t (set_meta m n i o room (meta_at m.graph n)) (set_refused m TooManyPorts))
      few true = rw (meta_of_node f.good f.holds n k b.1, b.0) (lower (set_num_ports m.graph n i o room).answer refl)
      few false = none TooManyPorts

-- In the sketch: a block's counts.

recount_name : (k i o : ℕ) (p : PlanBlock) → (recount k i o p).name ≡ p.name
recount_name k i o p = go (eqb p.name k) refl
  where
    go : (t : Bool) → eqb p.name k ≡ t → (cond {A = PlanBlock} t (record { name = k; incoming = i; outgoing = o }) p).name ≡ p.name
    go true e = sym (eqb-true p.name k e)
    go false e = refl

-- on a side of a block, the new count or the old one
side_set : (l : List PlanBlock) (k i o c : ℕ) (d : Direction) → has_block l c ≡ true →
    ports_on_side (map (recount k i o) l) c d ≡ cond (eqb c k) (new_count i o d) (ports_on_side l c d)
unfolding ports_on_side has_block
side_set [] k i o c d e = absurd (zero_is_not_one (cc))
side_set (p ∷ l) k i o c d e = go (eqb p.name k) (eqb p.name c) refl refl e (side_set l k i o c d)
  where
    go : (s t : Bool) → eqb p.name k ≡ s → eqb p.name c ≡ t → cond t true (has_block l c) ≡ true →
        (has_block l c ≡ true → ports_on_side (map (recount k i o) l) c d ≡ cond (eqb c k) (new_count i o d) (ports_on_side l c d)) →
        ports_on_side (cond s (record { name = k; incoming = i; outgoing = o }) p ∷ map (recount k i o) l) c d
        ≡ cond (eqb c k) (new_count i o d) (cond t (new_count p.incoming p.outgoing d) (ports_on_side l c d))
    go true true x y h rest =
        let q : c ≡ k = sym (eqb-true p.name c y) ∙ eqb-true p.name k x in
        rw (eq-eqb k c (sym q), eq-eqb c k q) refl
    go true false x y h rest =
        let q : k ≡ c → ⊥ = λ z. eqb-false p.name c y (eqb-true p.name k x ∙ z) in
        rw (ne_eqb k c q) (rest h)
    go false true x y h rest =
        let q : c ≡ k → ⊥ = λ z. eqb-false p.name k x (eqb-true p.name c y ∙ z) in
        rw (y, ne_eqb c k q) refl
    go false false x y h rest = rw y (rest h)

not_dropped : (k i o : ℕ) (s : Place) → not (of_dropped k i o s) ≡ true → s.node ≡ k → s.pos < new_count i o s.side
not_dropped k i o s t e =
    leb-false (new_count i o s.side) s.pos
    (subst (λ (c : Bool). cond c (leb (new_count i o s.side) s.pos) false ≡ false) (eq-eqb s.node k e) (not-true (of_dropped k i o s) t))

module _ {b : Both} {M : Model} (a : Alike b M) (n k i o : ℕ) where
  abbrev m : MultiPortGraph
  m = b.kit.graph

  abbrev pub plan_set : Plan
  plan_set =
      record {
        release = b.plan.release;
        adds = b.plan.adds;
        blocks = map (recount k i o) b.plan.blocks;
        splits = filter (λ (s : Place). not (of_dropped k i o s)) b.plan.splits;
        wires = without (of_dropped k i o) b.plan.wires;
      }

  abbrev Left : PortsSet → Sketched (Result (Unit {0}) Reason) → Type 0
  Left w v =
      SetAlike w.answer v.answer
      × ((M' : Model) × Alike (record { kit = record { graph = w.graph; book = book_set b.kit.book n i o w.answer (ports_walked w.graph n) }; names = b.names; plan = v.plan }) M')

  module _ (h : BlockHere b M n k) (g : MultiPortGraph) (release : g.release ≡ m.release) (d : SetDone m M g n i o) (N : Model) (fine : Fine g N)
      (were : (x y : model.InnerPlace) → N.join x ≡ to y → M.join x ≡ to y) where
    -- names
    its_name : (x : Naming) → Member x b.names → x.node ≡ n → x.name ≡ k
    its_name x j e = one_name b.names a.apart n x.name k (subst (λ (v : ℕ). Member (naming v x.name) b.names) e j) h.named

    other_name : (x : Naming) → Member x b.names → (x.node ≡ n → ⊥) → x.name ≡ k → ⊥
    other_name x j other e = other (node_of_lem b.names a.apart x (naming n k) j h.named e)

    -- Subports.

    module _ (y : model.InnerPlace) (s : Seen g d.model' y) (x : Naming) (j : Member x b.names) (e : x.node ≡ y.node) where
      abbrev Counted : Type 0
      Counted = subports_among plan_set.splits (spot x.name y.side y.pos) ≡ subports_at g d.model' y

      -- a port that was there
      old_port : (s' : Seen m M y) → (y.node ≡ n → y.pos < new_count i o y.side) →
          subports_among b.plan.splits (spot x.name y.side y.pos) ≡ subports_at g d.model' y
      old_port s' l = a.subports y s' x j e ∙ sym (same_subports m M g d.model' y (d.splits y s' l))

      -- a port of the block that was not
      new_port : y.node ≡ n → (Valid M.node y → ⊥) → subports_among b.plan.splits (spot x.name y.side y.pos) ≡ subports_at g d.model' y
      unfolding is_there
      new_port q invalid =
          among_none b.plan.splits (spot x.name y.side y.pos)
          (λ t i. false_from_ne_true _ (λ z.
          let u = at_spot_is x.name y.side y.pos t z in
          let c : ports_on_side b.plan.blocks t.node t.side ≡ ports_on h.meta y.side =
          ap (λ (v : ℕ). ports_on_side b.plan.blocks v t.side) (u.0 ∙ its_name x j (e ∙ q)) ∙ (h.counts t.side ∙ ap (ports_on h.meta) u.1) in
          let w = ltb-true t.pos (ports_on_side b.plan.blocks t.node t.side) (a.splits_there t i) in
          let p = u.2 in
          let r : y.pos < ports_on h.meta y.side = omega arith in
          invalid (subst (λ (v : Slots). y.pos < count_of v y.side) (sym (ap M.node q ∙ h.block.1)) r)))
          ∙ sym (any_model g fine.holds d.fine.holds y ∙ whole)
        where
          s' : Seen g N y
          s' = (subst (λ (v : Slots). y.pos < count_of v y.side) (nodes_by_table fine.holds d.fine.holds refl y.node) s.0, s.1)

          whole : subports_at g N y ≡ 0
          whole = unlinked_whole fine y s' (λ z j. invalid (a.rel.fine.good.join_valid y z (were y z j)))

      at_block : y.node ≡ n → Counted
      at_block q =
          let l : y.pos < new_count i o y.side =
          subst (λ (v : ℕ). y.pos < v) (ap (λ (v : Slots). count_of v y.side) (ap d.model'.node q ∙ d.is.1) ∙ count_new d.new i o y.side d.ins d.outs) s.0 in
          among_kept (λ (s : Place). not (of_dropped k i o s)) b.plan.splits (spot x.name y.side y.pos)
          (λ z t.
          let u = at_spot_is x.name y.side y.pos z t in
          let v : z.pos < new_count i o z.side = rw (u.1, u.2) l in
          let w : of_dropped k i o z ≡ false = rw (eq-eqb z.node k (u.0 ∙ its_name x j (e ∙ q))) (lt-leb (new_count i o z.side) z.pos v) in
          ap not w)
          ∙ go (ltb y.pos (count_of (M.node y.node) y.side)) refl l
        where
          go : (t : Bool) → ltb y.pos (count_of (M.node y.node) y.side) ≡ t → y.pos < new_count i o y.side →
              subports_among b.plan.splits (spot x.name y.side y.pos) ≡ subports_at g d.model' y
          go true t l = old_port (ltb-true y.pos (count_of (M.node y.node) y.side) t, ap (is_hidden m) q ∙ h.block.0) (λ z. l)
          go false t l = new_port q (λ v. true_not_false (lt-ltb y.pos (count_of (M.node y.node) y.side) v) t)

      elsewhere : (y.node ≡ n → ⊥) → Counted
      elsewhere other =
          let c = seen_live d.fine y s in
          let w = d.others_back y.node c.0 other c.1 in
          let s' : Seen m M y = (subst (λ (v : Slots). y.pos < count_of v y.side) (c.1.1 ∙ sym w.1) s.0, w.0) in
          among_kept (λ (s : Place). not (of_dropped k i o s)) b.plan.splits (spot x.name y.side y.pos)
          (λ z t.
          let u = at_spot_is x.name y.side y.pos z t in
          let w : of_dropped k i o z ≡ false = rw (ne_eqb z.node k (λ q. other_name x j (λ r. other (sym e ∙ r)) (sym u.0 ∙ q))) refl in
          ap not w)
          ∙ old_port s' (λ z. absurd (other z))

      subports : Counted
      subports = ⊎_elim at_block elsewhere (cases_eq y.node n)

    -- Blocks.

    named : (x : Naming) → Member x b.names →
        (c : NodeMeta) × BlockIs g d.model' x.node c × Member (record { name = x.name; incoming = c.incoming; outgoing = c.outgoing }) plan_set.blocks
    named x j = ⊎_elim its other (cases_eq x.node n)
      where
        r : (c : NodeMeta) × BlockIs m M x.node c × Member (record { name = x.name; incoming = c.incoming; outgoing = c.outgoing }) b.plan.blocks
        r = a.named x j

        was : PlanBlock
        was = record { name = x.name; incoming = r.0.incoming; outgoing = r.0.outgoing }

        its : x.node ≡ n → (c : NodeMeta) × BlockIs g d.model' x.node c × Member (record { name = x.name; incoming = c.incoming; outgoing = c.outgoing }) plan_set.blocks
        its e =
            let q = its_name x j e in
            let p : recount k i o was ≡ record { name = x.name; incoming = d.new.incoming; outgoing = d.new.outgoing } =
            rw (eq-eqb x.name k q) (λ t. record { name = sym q t; incoming = sym d.ins t; outgoing = sym d.outs t }) in
            (d.new, subst (λ (v : ℕ). BlockIs g d.model' v d.new) (sym e) d.is, subst (λ (v : PlanBlock). Member v plan_set.blocks) p (map_member (recount k i o) was b.plan.blocks r.2))

        other : (x.node ≡ n → ⊥) → (c : NodeMeta) × BlockIs g d.model' x.node c × Member (record { name = x.name; incoming = c.incoming; outgoing = c.outgoing }) plan_set.blocks
        other e =
            let p : recount k i o was ≡ was = rw (ne_eqb x.name k (other_name x j e)) refl in
            (r.0, d.others x.node r.0 e r.1, subst (λ (v : PlanBlock). Member v plan_set.blocks) p (map_member (recount k i o) was b.plan.blocks r.2))

    splits_there_lem : (s : Place) → Member s plan_set.splits → is_there plan_set (port_at s) ≡ true
    unfolding is_there
    splits_there_lem s j =
        let r = member_filter (λ (s : Place). not (of_dropped k i o s)) s b.plan.splits j in
        let t = a.splits_there s r.0 in
        ap (ltb s.pos) (side_set b.plan.blocks k i o s.node s.side (there_of_block b.plan (port_at s) t)) ∙ go (eqb s.node k) refl r.1 t
      where
        go : (c : Bool) → eqb s.node k ≡ c → not (of_dropped k i o s) ≡ true → ltb s.pos (ports_on_side b.plan.blocks s.node s.side) ≡ true →
            ltb s.pos (cond c (new_count i o s.side) (ports_on_side b.plan.blocks s.node s.side)) ≡ true
        go true e l t = lt-ltb s.pos (new_count i o s.side) (not_dropped k i o s l (eqb-true s.node k e))
        go false e l t = t

    set_alike : (e : ℕ) → Alike (record { kit = record { graph = g; book = book_set b.kit.book n i o (Ok e) (ports_walked g n) }; names = b.names; plan = plan_set }) d.model'
    set_alike e =
        record {
          rel =
              record {
                fine = d.fine;
                blocks =
                    subst (λ (c : ℕ). RightBlocks g d.model' (record { node = n; ins = take c (ports_walked g n); outs = drop c (ports_walked g n) } ∷ filter (not_block n) b.kit.book.blocks)) d.ins
                    (blocks_set a.rel.blocks d.fine n d.others d.others_back d.new d.is (ports_walked g n) (ports_walked_lem d.fine n d.new d.is));
                wires = wires_dropped a.rel.wires d.wires;
              };
          release = a.release ∙ sym release;
          apart = a.apart;
          given = a.given;
          named = named;
          kit_named = λ c l w. ⊎_elim (λ q. (naming n k, h.named, sym q)) (λ other. a.kit_named c l (d.others_back c l other w)) (cases_eq c n);
          plan_named = λ p j.
              let q = member_map (recount k i o) p b.plan.blocks j in
              let x = a.plan_named q.0 q.1 in
              (x.0, x.1, x.2 ∙ (sym (recount_name k i o q.0) ∙ ap (λ (v : PlanBlock). v.name) (sym q.2)));
          plan_once =
              rising_map OtherName OtherName (recount k i o) b.plan.blocks a.plan_once
              (λ p q c l other t. other (sym (recount_name k i o p) ∙ (t ∙ recount_name k i o q)));
          subports = subports;
          splits_there = splits_there_lem;
          wires =
              ap (without (of_dropped k i o)) a.wires
              ∙ sym (without_renamed b.names (of_dropped n i o) (of_dropped k i o) (same_dropped b.names a.apart n k h.named i o) b.kit.book.wires (wires_named a));
        }

  -- The square.

  plan_is : (x y z : Bool) → leb (i + o) node_ports ≡ x → has_block b.plan.blocks k ≡ y → ltb port_slots (ports_in_all (map (recount k i o) b.plan.blocks)) ≡ z →
      sketch.set_counts b.plan k i o
      ≡ cond (not x) (leaves b.plan (Err reason.TooManyPorts)) (cond (not y) (leaves b.plan (Err reason.UnknownBlock)) (cond z (leaves b.plan (Err reason.NoRoom)) (leaves plan_set (Ok tt))))
  unfolding sketch.set_counts
  plan_is x y z p q r = rw (p, q, r) refl

  -- an accepted or spaceless refusal of a block that is there
  refused_not : (room : ℕ) → i + o ≤ node_ports → BlockHere b M n k → (r : Refusal) → ((set_counts m n i o room).answer ≡ Err MovesTooShort → ⊥) → ((set_counts m n i o room).answer ≡ Err NoRoom → ⊥) →
      (set_counts m n i o room).answer ≡ Err r → SetRefused m M n i o room r → ⊥
  refused_not room small h r moves space e (set_many l) = omega arith
  refused_not room small h r moves space e (set_gone l q) = let z = h.block.1 in zero_is_not_one (cc)
  refused_not room small h r moves space e (set_hidden l q) = true_not_false q h.block.0
  refused_not room small h r moves space e (set_short l c d q) = moves e
  refused_not room small h r moves space e (set_full l c d q z) = space e

  -- where the engine resizes, the plan with the new counts is alike, whatever the sketch says
  pub set_if : (room : ℕ) → i + o ≤ node_ports → BlockHere b M n k → ((set_counts m n i o room).answer ≡ Err MovesTooShort → ⊥) → ((set_counts m n i o room).answer ≡ Err NoRoom → ⊥) →
      (c : Both) × (c.plan ≡ plan_set) × ((N : Model) × Alike c N)
  set_if room small h moves space = go (set_counts m n i o room).answer refl
    where
      go : (v : Result ℕ Refusal) → (set_counts m n i o room).answer ≡ v → (c : Both) × (c.plan ≡ plan_set) × ((N : Model) × Alike c N)
      go (Err r) e = absurd (refused_not room small h r moves space e (set_refused_lem a.rel.fine n i o room r e))
      go (Ok c) e =
          let f = a.rel.fine in
          let w = joins_were f n i o room h.meta h.block c e in
          let d = set_counts_law f n i o room c e in
          (_, refl, (d.model', set_alike h (set_counts m n i o room).graph (step_keeps m (book.set_call n i o room)) d w.0 w.1 w.2 c))

  set_left : (room : ℕ) (means : BlockMeans b n k) → HasRoom b (pair (book.set_call n i o room) (set_plan k i o)) → Left (set_counts m n i o room) (sketch.set_counts b.plan k i o)
  unfolding reason_number
  set_left room means space = go (leb (i + o) node_ports) (ltb port_slots (ports_in_all (map (recount k i o) b.plan.blocks))) (set_counts m n i o room).answer refl refl refl (block_meant a n k means)
    where
      answered : (v : Result ℕ Refusal) → (set_counts m n i o room).answer ≡ v → set_counts m n i o room ≡ record { graph = (set_counts m n i o room).graph; answer = v }
      answered v e = λ t. record { graph = (set_counts m n i o room).graph; answer = e t }

      go : (x z : Bool) (v : Result ℕ Refusal) → leb (i + o) node_ports ≡ x → ltb port_slots (ports_in_all (map (recount k i o) b.plan.blocks)) ≡ z → (set_counts m n i o room).answer ≡ v →
          BlockHere b M n k ⊎ BlockGone b M n k → Left (set_counts m n i o room) (sketch.set_counts b.plan k i o)
      go false z v p q e c = as_both Left _ (set_refuses a.rel.fine n i o room _ (set_many (leb-false _ _ p))) (plan_is false _ z p refl q) ((_, refl), (M, a))
      go true z v p q e (inr c) =
          as_both Left _ (set_refuses a.rel.fine n i o room _ (set_gone (leb-true _ _ p) c.0)) (plan_is true false z p c.1 q) ((_, refl), (M, a))
      go true z (Err r) p q e (inl h) = absurd (refused_not room (leb-true (i + o) node_ports p) h r space.moves space.kit e (set_refused_lem a.rel.fine n i o room r e))
      go true true (Ok c) p q e (inl h) = absurd (space.sketched (ap (λ (v : Sketched (Result (Unit {0}) Reason)). v.answer) (plan_is true true true p h.there q)))
      go true false (Ok c) p q e (inl h) =
          let f = a.rel.fine in
          let w = joins_were f n i o room h.meta h.block c e in
          let d = set_counts_law f n i o room c e in
          as_both Left _ (answered (Ok c) e) (plan_is true true false p h.there q)
          (tt, (d.model', set_alike h (set_counts m n i o room).graph (step_keeps m (book.set_call n i o room)) d w.0 w.1 w.2 c))

pub set_square : {b : Both} {M : Model} (n k i o room : ℕ) (means : BlockMeans b n k) → Square b M (means_set n k i o room means)
set_square {b} {M} n k i o room means a space = squared (set_left a n k i o room means space)
