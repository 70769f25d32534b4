-- The square of an add: the new block has the name that is due, none of its ports is split, and every other port is as split as it was.
use Rattle.std.specs.Prelude.{◌≡◌, Bool, true, false, not, ◌||◌, List, [], ◌∷◌, ℕ, suc, ◌+◌, ◌≤◌, ◌<◌, eqb, leb, ltb, length, Result, Ok, Err}
use Rattle.std.proofs.Math.Path.{refl, sym, ap, subst}
use Rattle.std.proofs.Common.{◌∙◌, arith, leb-true, le-leb, ltb-true, ne_eqb}
use Rattle.std.proofs.Math.Bool.{cond}
use Rattle.std.proofs.Math.Logic.{inl, inr, ⊎_elim}
use Rattle.port_tables.specs.Limits.{node_slots, port_slots, node_ports}
use Rattle.port_tables.specs.Lists.{Member}
use Rattle.port_tables.specs.Entries.{node#, port#, meta_of, new_count}
use Rattle.portgraph.specs.Meaning.{add_model, next_slot, next_block, growth}
use Rattle.portgraph.specs.Model as model
use Rattle.portgraph.specs.Model.{Model, Slots, live, slot_of, count_of, Valid}
use Rattle.portgraph.specs.Calls.{place_node}
use Rattle.portgraph.specs.GoodLaws.{next_slot_gone}
use Rattle.portgraph.specs.SlotHolds.{slot_room, block_room}
use Rattle.port_tables.specs.declared.direction.Direction.{Direction}
use Rattle.port_tables.specs.declared.node_entry.NodeMeta.{NodeMeta}
use Rattle.multiportgraph.specs.WellFormed.{Fine, BlockIs, Seen}
use Rattle.multiportgraph.specs.HiddenStays.{frame_fine, hidden_below, split_below, true_not_false, same_slot}
use Rattle.multiportgraph.specs.LinkCutLaws.{AddDone, AddSays, add_block_law, at_spot_is, live_stays, add_frame}
use Rattle.multiportgraph.specs.Calls.{add_block}
use Rattle.multiportgraph.specs.Graph.{with_graph}
use Rattle.port_tables.specs.Places.{Place, spot}
use Rattle.multiportgraph.specs.Reading.{is_hidden, is_split}
use Rattle.multiportgraph.specs.SetLaws.{SameSplit}
use Rattle.multiportgraph.specs.declared.multiportgraph.MultiPortGraph.{MultiPortGraph}
use Rattle.multiportgraph.specs.declared.multiportgraph.NodeAdded.{NodeAdded}
use Rattle.multi_tables.specs.declared.answers.Refusal.TheVariants.{NoRoom}
use Rattle.theorems.specs.Book as book
use Rattle.theorems.specs.Book.{book_add}
use Rattle.theorems.proofs.WireRule.{blocks_added, wires_same, seen_live}
use Rattle.sketches.specs.Plan.{Plan, PlanBlock, has_block, ports_on_side, ports_in_all, port_at, is_there, subports_among}
use Rattle.sketches.specs.PlanCalls as sketch
use Rattle.sketches.specs.PlanCalls.{Sketched, leaves, most_adds}
use Rattle.sketches.specs.PlanNumbers.{reason_number}
use Rattle.sketches.specs.declared.sketch.SketchPort.{SketchPort}
use Rattle.sketches.specs.declared.sketch.Reason.TheVariants as reason
use Rattle.agreement.specs.Meaning.{Naming, Both, named_add, add_plan, means_add}
use Rattle.agreement.specs.Agreement.{AddAlike, HasRoom}
use Rattle.agreement.specs.Alike.{Alike, subports_at, name_of}
use Rattle.agreement.specs.Square.{Square, pair, squared, as_both}
use Rattle.agreement.specs.Names.{naming, renamed, renamed_same}
use Rattle.agreement.specs.Standing.{block_had, wires_named}
use Rattle.agreement.specs.PlanLaws.{among_none}
use Rattle.agreement.specs.KeptSplits.{split_kept, same_subports, any_model, unlinked_whole, nodes_by_table}
use Rattle.sketches.specs.declared.sketch.Reason.{Reason}
use Rattle.std.proofs.lemmas.Bool.{false_from_ne_true}
use Rattle.theorems.proofs.AddCall.{add_is}

-- The graph after an add that has room.

module _ {m : MultiPortGraph} {M : Model} (f : Fine m M) (i o : ℕ) (small : i + o ≤ node_ports) (node_room : M.node_len + growth 1 M.free_nodes ≤ node_slots)
    (port_room : M.port_len + growth (i + o) (M.free_blocks (i + o)) ≤ port_slots) where
  abbrev grown : MultiPortGraph
  grown = with_graph m (place_node m.graph (next_slot M) (next_block M (i + o)) i o)

  grown_fine : Fine grown (add_model M i o)
  grown_fine = frame_fine f (add_frame f i o small node_room port_room)

  -- no port of the new block is split
  new_whole : (y : model.InnerPlace) → Seen grown (add_model M i o) y → y.node ≡ next_slot M → subports_at grown (add_model M i o) y ≡ 0
  new_whole y s e =
      unlinked_whole grown_fine y s (λ z j.
      let v : Valid M.node y = f.good.join_valid y z j in
      let w : y.pos < 0 = subst (λ (c : Slots). y.pos < count_of c y.side) (ap M.node e ∙ next_slot_gone f.good) v in
      omega arith)

  -- others are as split as they were
  old_splits : (y : model.InnerPlace) → Seen m M y → SameSplit m M grown (add_model M i o) y
  old_splits y s =
      let k = seen_live f y s in
      let n : slot_of (add_model M i o).node y ≡ slot_of M.node y = same_slot M (add_model M i o) y (live_stays f.good i o y.node k.0 k.1.1) in
      split_kept f grown_fine y s
      (λ h. (hidden_below m _ h.copy ∙ h.is_copy, live_stays f.good i o h.copy (f.copy h.copy h.is_copy).meta (f.copy h.copy h.is_copy).here, h.back))
      (λ e. split_below m _ _ ∙ (ap (is_split m) n ∙ e))

-- The plan.

no_ports : (l : List PlanBlock) (n : ℕ) (d : Direction) → has_block l n ≡ false → ports_on_side l n d ≡ 0
unfolding has_block ports_on_side
no_ports [] n d e = refl
no_ports (b ∷ l) n d e = go (eqb b.name n) (no_ports l n d) e
  where
    go : (t : Bool) → (has_block l n ≡ false → ports_on_side l n d ≡ 0) → cond t true (has_block l n) ≡ false → cond t (new_count b.incoming b.outgoing d) (ports_on_side l n d) ≡ 0
    go true rest h = absurd (true_not_false refl h)
    go false rest h = rest h

-- a port that is there is a block's
pub there_of_block : (K : Plan) (x : SketchPort) → is_there K x ≡ true → has_block K.blocks x.block ≡ true
unfolding is_there
there_of_block K x e = go (has_block K.blocks x.block) refl
  where
    go : (t : Bool) → has_block K.blocks x.block ≡ t → t ≡ true
    go true h = refl
    go false h =
        let z = no_ports K.blocks x.block x.side h in
        let l = ltb-true x.position (ports_on_side K.blocks x.block x.side) e in
        absurd (omega arith)

module _ {b : Both} {M : Model} (a : Alike b M) where
  -- names of blocks, and of split ports, were given
  pub block_given : (p : PlanBlock) → Member p b.plan.blocks → p.name < b.plan.adds
  block_given p i = let x = a.plan_named p i in subst (λ (n : ℕ). n < b.plan.adds) x.2 (a.given x.0 x.1)

  pub split_given : (s : Place) → Member s b.plan.splits → s.node < b.plan.adds
  split_given s i =
      let p = block_had b.plan.blocks s.node (there_of_block b.plan (port_at s) (a.splits_there s i)) in
      subst (λ (n : ℕ). n < b.plan.adds) p.2 (block_given p.0 p.1)

  -- The square.

  module _ (i o : ℕ) where
    abbrev m : MultiPortGraph
    m = b.kit.graph

    abbrev Left : NodeAdded → Sketched (Result ℕ Reason) → Type 0
    Left w v =
        AddAlike (named_add b.names b.plan.adds w.answer) w.answer v.answer
        × ((M' : Model) × Alike (record { kit = record { graph = w.graph; book = book_add b.kit.book i o w.answer }; names = named_add b.names b.plan.adds w.answer; plan = v.plan }) M')

    abbrev pub plan_grown : Plan
    plan_grown =
        record {
          release = b.plan.release;
          adds = suc b.plan.adds;
          blocks = record { name = b.plan.adds; incoming = i; outgoing = o } ∷ b.plan.blocks;
          splits = b.plan.splits;
          wires = b.plan.wires;
        }

    -- a wire's nodes keep their names
    wires_still : (n : ℕ) → ((l : NodeMeta) → BlockIs m M n l → ⊥) → b.plan.wires ≡ renamed (naming n b.plan.adds ∷ b.names) b.kit.book.wires
    unfolding name_of
    wires_still n new =
        a.wires
        ∙ sym (renamed_same b.names (naming n b.plan.adds ∷ b.names) b.kit.book.wires (λ w j. let k = wires_named a w j in (old w.out.node k.0, old w.into.node k.1)))
      where
        old : (c : ℕ) → (k : ℕ) × Member (naming c k) b.names → cond (eqb n c) b.plan.adds (name_of b.names c) ≡ name_of b.names c
        old c k =
            let r = a.named (naming c k.0) k.1 in
            rw (ne_eqb n c (λ e. new r.0 (subst (λ (v : ℕ). BlockIs m M v r.0) (sym e) r.1))) refl

    module _ (small : i + o ≤ node_ports) (node_room : M.node_len + growth 1 M.free_nodes ≤ node_slots) (port_room : M.port_len + growth (i + o) (M.free_blocks (i + o)) ≤ port_slots)
        (d : AddDone m M (grown a.rel.fine i o small node_room port_room) (next_slot M) (next_block M (i + o)) i o) where
      abbrev graph : MultiPortGraph
      graph = grown a.rel.fine i o small node_room port_room

      fine : Fine graph (add_model M i o)
      fine = grown_fine a.rel.fine i o small node_room port_room

      abbrev names : List Naming
      names = naming (next_slot M) b.plan.adds ∷ b.names

      same_places : (y : model.InnerPlace) → d.model.node y.node ≡ (add_model M i o).node y.node
      same_places y = nodes_by_table fine.holds d.fine.holds refl y.node

      subports : (y : model.InnerPlace) → Seen graph d.model y → (n : Naming) → Member n names → n.node ≡ y.node →
          subports_among b.plan.splits (spot n.name y.side y.pos) ≡ subports_at graph d.model y
      subports y s n (inl e) q =
          let p : n.name ≡ b.plan.adds = ap (λ (v : Naming). v.name) e in
          let c : y.node ≡ next_slot M = sym q ∙ ap (λ (v : Naming). v.node) e in
          let s' : Seen graph (add_model M i o) y = (subst (λ (v : Slots). y.pos < count_of v y.side) (same_places y) s.0, s.1) in
          among_none b.plan.splits (spot n.name y.side y.pos)
          (λ t j. false_from_ne_true _ (λ h.
          let g = split_given t j in
          let u = (at_spot_is n.name y.side y.pos t h).0 in
          omega arith))
          ∙ sym (any_model graph fine.holds d.fine.holds y ∙ new_whole a.rel.fine i o small node_room port_room y s' c)
      subports y s n (inr j) q =
          let r = a.named n j in
          let k = d.kept n.node r.0 r.1 in
          let v : y.pos < count_of (live r.0) y.side = subst (λ (c : Slots). y.pos < count_of c y.side) (ap d.model.node (sym q) ∙ k.1) s.0 in
          let s' : Seen m M y =
          (subst (λ (c : Slots). y.pos < count_of c y.side) (sym (ap M.node (sym q) ∙ r.1.1)) v, ap (is_hidden m) (sym q) ∙ r.1.0) in
          a.subports y s' n j q
          ∙ sym (any_model graph fine.holds d.fine.holds y ∙ same_subports m M graph (add_model M i o) y (old_splits a.rel.fine i o small node_room port_room y s'))

      grown_alike : Alike
          (record {
            kit = record { graph = graph; book = book_add b.kit.book i o (Ok (node# (next_slot M), port# (next_block M (i + o)))) };
            names = names;
            plan = plan_grown;
          })
          d.model
      unfolding is_there ports_on_side
      grown_alike =
          record {
            rel =
                record {
                  fine = d.fine;
                  blocks = blocks_added a.rel.blocks d.fine (next_slot M) (next_block M (i + o)) i o (i + o) d.block d.kept d.only d.new;
                  wires = wires_same a.rel.wires d.wires;
                };
            release = a.release;
            apart = (
              (λ x j. (
                (λ e. let r = a.named x j in d.new r.0 (subst (λ (v : ℕ). BlockIs m M v r.0) (sym e) r.1)),
                (λ e. let g = a.given x j in omega arith),
              )),
              a.apart,
            );
            given = λ x j. ⊎_elim (λ e. let p = ap (λ (v : Naming). v.name) e in omega arith) (λ h. let g = a.given x h in omega arith) j;
            named = λ x j.
                ⊎_elim
                (λ e.
                subst (λ (v : Naming). (k : NodeMeta) × BlockIs graph d.model v.node k × Member (record { name = v.name; incoming = k.incoming; outgoing = k.outgoing }) plan_grown.blocks) (sym e)
                (meta_of (next_block M (i + o)) i o (i + o), d.block, inl refl))
                (λ h. let r = a.named x h in (r.0, d.kept x.node r.0 r.1, inr r.2)) j;
            kit_named = λ n k h.
                ⊎_elim (λ e. (naming (next_slot M) b.plan.adds, inl refl, sym e)) (λ h. let x = a.kit_named n k h in (x.0, inr x.1, x.2)) (d.only n k h);
            plan_named = λ p j.
                ⊎_elim (λ e. (naming (next_slot M) b.plan.adds, inl refl, ap (λ (v : PlanBlock). v.name) (sym e))) (λ h. let x = a.plan_named p h in (x.0, inr x.1, x.2)) j;
            plan_once = ((λ p j e. let g = block_given p j in omega arith), a.plan_once);
            subports = subports;
            splits_there = λ s j. rw (ne_eqb b.plan.adds s.node (λ e. let g = split_given s j in omega arith)) (a.splits_there s j);
            wires = wires_still (next_slot M) d.new;
          }

    abbrev full : Bool
    full = leb most_adds b.plan.adds || (leb node_slots (length b.plan.blocks) || ltb port_slots (ports_in_all b.plan.blocks + (i + o)))

    plan_is : (x y : Bool) → leb (i + o) node_ports ≡ x → full ≡ y →
        sketch.add_block b.plan i o
        ≡ cond (not x) (leaves b.plan (Err reason.TooManyPorts)) (cond y (leaves b.plan (Err reason.NoRoom)) (leaves plan_grown (Ok b.plan.adds)))
    unfolding sketch.add_block
    plan_is x y p q = rw (p, q) refl

    add_left : HasRoom b (pair (book.add_call i o) (add_plan i o)) → Left (add_block m i o) (sketch.add_block b.plan i o)
    unfolding reason_number
    add_left room = go (leb (i + o) node_ports) (slot_room M) (block_room M (i + o)) full refl refl refl refl
      where
        go : (x y z t : Bool) → leb (i + o) node_ports ≡ x → slot_room M ≡ y → block_room M (i + o) ≡ z → full ≡ t → Left (add_block m i o) (sketch.add_block b.plan i o)
        go false y z t p q r s = as_both Left _ (add_is a.rel.fine i o false y z p q r) (plan_is false t p s) ((_, refl), (M, a))
        go true false z t p q r s = absurd (room.kit (ap (λ (v : NodeAdded). v.answer) (add_is a.rel.fine i o true false z p q r)))
        go true true false t p q r s = absurd (room.kit (ap (λ (v : NodeAdded). v.answer) (add_is a.rel.fine i o true true false p q r)))
        go true true true true p q r s = absurd (room.sketched (ap (λ (v : Sketched (Result ℕ Reason)). v.answer) (plan_is true true p s)))
        go true true true false p q r s =
            let e = add_is a.rel.fine i o true true true p q r in
            let small = leb-true (i + o) node_ports p in
            let node_room = leb-true _ node_slots q in
            let port_room = leb-true _ port_slots r in
            let d : AddDone m M (grown a.rel.fine i o small node_room port_room) (next_slot M) (next_block M (i + o)) i o =
            subst (λ (v : NodeAdded). AddSays m M i o v.graph v.answer) e (add_block_law a.rel.fine i o) in
            as_both Left _ e (plan_is true false p s) (inl refl, (d.model, grown_alike small node_room port_room d))

    -- where the engine has room, the plan with the new block is alike, whatever the sketch says
    pub grown_if : i + o ≤ node_ports → ((add_block m i o).answer ≡ Err NoRoom → ⊥) → (c : Both) × (c.plan ≡ plan_grown) × ((N : Model) × Alike c N)
    grown_if small room = go (slot_room M) (block_room M (i + o)) refl refl
      where
        few : leb (i + o) node_ports ≡ true
        few = le-leb (i + o) node_ports small

        go : (y z : Bool) → slot_room M ≡ y → block_room M (i + o) ≡ z → (c : Both) × (c.plan ≡ plan_grown) × ((N : Model) × Alike c N)
        go false z q r = absurd (room (ap (λ (v : NodeAdded). v.answer) (add_is a.rel.fine i o true false z few q r)))
        go true false q r = absurd (room (ap (λ (v : NodeAdded). v.answer) (add_is a.rel.fine i o true true false few q r)))
        go true true q r =
            let node_room = leb-true (M.node_len + growth 1 M.free_nodes) node_slots q in
            let port_room = leb-true (M.port_len + growth (i + o) (M.free_blocks (i + o))) port_slots r in
            let d : AddDone m M (grown a.rel.fine i o small node_room port_room) (next_slot M) (next_block M (i + o)) i o =
            subst (λ (v : NodeAdded). AddSays m M i o v.graph v.answer) (add_is a.rel.fine i o true true true few q r) (add_block_law a.rel.fine i o) in
            (_, refl, (d.model, grown_alike small node_room port_room d))

pub add_square : {b : Both} {M : Model} (i o : ℕ) → Square b M (means_add i o)
add_square {b} {M} i o a room = squared (add_left a i o room)
