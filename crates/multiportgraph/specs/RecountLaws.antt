-- A node with other counts: what the lower resize makes of the model, that the marks move with the ports, and that a hidden node
-- which grows keeps its port, its subports and every wire.
use Rattle.std.proofs.lemmas.Bool.{cases_eq}
use Rattle.std.specs.Prelude.{◌≡◌, Bool, cond, ℕ, ◌+◌, ◌-◌, ◌*◌, ◌≤◌, ◌<◌, eqb, leb, ltb, length, Result, Ok, Err}
use Rattle.std.proofs.Math.Path.{refl, sym, ap, subst}
use Rattle.std.proofs.Common.{◌∙◌, inl, inr, ⊎_elim, ltb-true, ltb-false, leb-true, leb-false, eqb-true, eq-eqb}
use Rattle.std.proofs.Math.Bool.{true, false}
use mathlib.Core.List.{List}
use native.Mathlib.Omega.{arith}
use Rattle.std.proofs.Math.ListN.{get_or}
use Rattle.port_tables.specs.Limits.{node_slots, port_slots, node_ports}
use Rattle.port_tables.specs.Entries.{reversed, ports_on, new_count, meta_of}
use Rattle.portgraph.specs.Lookups.{num_ports}
use Rattle.portgraph.specs.Model as model
use Rattle.portgraph.specs.Model.{Model, Far, nowhere, to, Slots, gone, live, Good, Holds, Valid, slot_of, count_of, first_of, side_start, ports_of, total}
use Rattle.port_tables.specs.Tables.{Within}
use Rattle.portgraph.specs.Meaning.{upd, drop_join, beyond, growth, next_block, resize_model, move_model}
use Rattle.portgraph.specs.Resize.{refuse, same, inside, anew, set_by, set_num_ports, resize_inside, resize_anew}
use Rattle.port_tables.specs.ResizeLinks.{round_up, same_counts, fits_inside}
use Rattle.portgraph.specs.ResizeSteps.{round_up_reaches, round_up_positive, round_up_fits, fits_below}
use Rattle.portgraph.specs.ResizeLaws.{plan_slots, plan_where, set_law, Kept, kept_link}
use Rattle.portgraph.specs.SlotHolds.{block_room}
use Rattle.portgraph.specs.InsideHolds.{inside_holds}
use Rattle.portgraph.specs.AnewHolds.{anew_holds}
use Rattle.portgraph.specs.GoodLaws.{good_resize, good_move}
use Rattle.portgraph.specs.GoodSlots.{zero_is_not_one, block_of_one, upd_same, upd_other, joined_is_valid, slots_apart, same_place_lem, ports_end, node_below}
use Rattle.portgraph.specs.Sums.{drop_nowhere, total_one}
use Rattle.portgraph.specs.PlaceLaws.{meta_of_node, port_index_is}
use Rattle.port_tables.specs.declared.direction.Direction.{Direction}
use Rattle.port_tables.specs.declared.direction.Direction.TheVariants.{Incoming, Outgoing}
use Rattle.port_tables.specs.declared.node_entry.NodeMeta.{NodeMeta}
use Rattle.portgraph.specs.declared.portgraph.PortGraph.{PortGraph}
use Rattle.portgraph.specs.declared.resize.PortsSet.{PortsSet}
use Rattle.multiportgraph.specs.Reading.{is_hidden, is_split, copy_side, port_number, port_of}
use Rattle.multi_tables.specs.MarkLaws.{length_lay_marks, lay_kept_in, lay_kept_out, lay_new, lay_old, lay_else}
use Rattle.multi_tables.specs.MarkMoves.{within_cases}
use Rattle.multiportgraph.specs.WellFormed.{inner#, copy_place, Fine, Marked, copy_port, main_port_lem, lift, outer, IsEnd, WireIn, Seen, SameBlocks, SameWires, subports_of_slot, HasEnd}
use Rattle.multiportgraph.specs.Needs.{need_of}
use Rattle.multiportgraph.specs.NeedStays.{alike_same, need_alike}
use Rattle.multiportgraph.specs.Ends.{Hangs, other_side, side_cases, count_of_lem, copy_valid, end_side, ends_join_ends, outer_apart}
use Rattle.multiportgraph.specs.HiddenStays.{copy_side_is, same_copy, true_not_false, wire_again, same_slot}
use Rattle.multiportgraph.specs.SplitLaws.{KeptEnd, PreparedEnd}
use Rattle.multiportgraph.specs.declared.multiportgraph.MultiPortGraph.{MultiPortGraph}
use Rattle.port_tables.specs.Places.{Wire, flag}
use Rattle.multiportgraph.specs.Graph.{with_subports}
use Rattle.multiportgraph.specs.HiddenNodes.{recounted, ready, more_incoming, more_outgoing, enough, more, grown_by, grow, grow_under}
use Rattle.multi_tables.specs.Forms.{lay_marks}
use Rattle.portgraph.specs.declared.resize.SetError.{SetError}
use Rattle.portgraph.specs.declared.resize.SetError.TheVariants as set_error
use Rattle.multiportgraph.specs.Ends.{twice_reversed}

-- What the lower resize does to the model: node n has other counts and maybe another block, links of dropped places go.

pub record Recount (g' : PortGraph) (M M' : Model) (n : ℕ) (a b : NodeMeta) (incoming outgoing : ℕ) : Type 0 where
  pub here : M.node n ≡ live a
  pub there : M'.node n ≡ live b
  pub ins : b.incoming ≡ incoming
  pub outs : b.outgoing ≡ outgoing
  pub others : (k : ℕ) → (k ≡ n → ⊥) → M'.node k ≡ M.node k
  pub join : (x : model.InnerPlace) → M'.join x ≡ drop_join (beyond n incoming outgoing) M.join x
  pub good : Good M'
  pub holds : Holds g' M'

pub record SomeRecount (g' : PortGraph) (M : Model) (n incoming outgoing : ℕ) : Type 0 where
  pub model' : Model
  pub old : NodeMeta
  pub new : NodeMeta
  pub is : Recount g' M model' n old new incoming outgoing

-- the node's block before was the one that it is known to have
pub recount_of : {g' : PortGraph} {M : Model} {n i o : ℕ} (s : SomeRecount g' M n i o) (k : NodeMeta) → M.node n ≡ live k → Recount g' M s.model' n k s.new i o
recount_of {g'} {M} {n} {i} {o} s k here = go s.old s.is.here s.is
  where
    go : (a : NodeMeta) → M.node n ≡ live a → Recount g' M s.model' n a s.new i o → Recount g' M s.model' n k s.new i o
    go a there r = let same : a ≡ k = cc in subst (λ (c : NodeMeta). Recount g' M s.model' n c s.new i o) same r

pub same_counts_are : (m : NodeMeta) (i o : ℕ) → same_counts m i o ≡ true → (m.incoming ≡ i) × (m.outgoing ≡ o)
unfolding same_counts
same_counts_are m i o = go (eqb i m.incoming) (eqb o m.outgoing) refl refl
  where
    go : (a b : Bool) → eqb i m.incoming ≡ a → eqb o m.outgoing ≡ b → cond a b false ≡ true → (m.incoming ≡ i) × (m.outgoing ≡ o)
    go true true p q e = (sym (eqb-true _ _ p), sym (eqb-true _ _ q))
    go true false p q e = absurd (zero_is_not_one (cc))
    go false b p q e = absurd (zero_is_not_one (cc))

pub stays_below : (n i o : ℕ) (x : model.InnerPlace) → beyond n i o x ≡ false → x.node ≡ n → x.pos < new_count i o x.side
stays_below n i o x e h = leb-false (new_count i o x.side) x.pos (sym (rw (eq-eqb x.node n h)) ∙ e)

pub count_new : (m : NodeMeta) (i o : ℕ) (d : Direction) → m.incoming ≡ i → m.outgoing ≡ o → ports_on m d ≡ new_count i o d
count_new m i o Incoming p q = p
count_new m i o Outgoing p q = q

module _ {g : PortGraph} {M : Model} (good : Good M) (holds : Holds g M) (n i o room : ℕ) where
  Out : PortsSet → Type 0
  Out r = (e : ℕ) → r.answer ≡ Ok e → SomeRecount r.graph M n i o

  pub set_recounts : (e : ℕ) → (set_num_ports g n i o room).answer ≡ Ok e → SomeRecount (set_num_ports g n i o room).graph M n i o
  unfolding Out
  set_recounts = subst Out (sym (set_law good holds n i o room)) (few (leb (i + o) node_ports) refl)
    where
      unchanged : (a : NodeMeta) → M.node n ≡ live a → same_counts a i o ≡ true → SomeRecount g M n i o
      unchanged a here q =
          let c = same_counts_are a i o q in
          record {
            model' = M;
            old = a;
            new = a;
            is = record {
              here = here;
              there = here;
              ins = c.0;
              outs = c.1;
              others = λ k h. refl;
              join = λ x. stay c x (M.join x) refl;
              good = good;
              holds = holds;
            };
          }
        where
          below : (a.incoming ≡ i) × (a.outgoing ≡ o) → (x : model.InnerPlace) → Valid M.node x → Kept n i o x
          below c x v h =
              let e : M.node x.node ≡ live a = ap M.node h ∙ here in
              let k : count_of (M.node x.node) x.side ≡ new_count i o x.side = ap (λ (s : Slots). count_of s x.side) e ∙ count_new a i o x.side c.0 c.1 in
              omega arith

          stay : (a.incoming ≡ i) × (a.outgoing ≡ o) → (x : model.InnerPlace) (w : Far) → M.join x ≡ w → M.join x ≡ drop_join (beyond n i o) M.join x
          stay c x nowhere j = j ∙ sym (drop_nowhere (beyond n i o) M.join x j)
          stay c x (to y) j =
              j ∙ sym (kept_link M.join n i o x y j (below c x (good.join_valid x y j)) (below c y (joined_is_valid good x y j)))

      changed : (a : NodeMeta) → M.node n ≡ live a → (first capacity : ℕ) (g' : PortGraph) (M' : Model) → M'.node ≡ upd M.node n (live (meta_of first i o capacity)) → M'.join ≡ drop_join (beyond n i o) M.join
          → Good M' → Holds g' M' → SomeRecount g' M n i o
      changed a here first capacity g' M' nodes joins good' holds' =
          record {
            model' = M';
            old = a;
            new = meta_of first i o capacity;
            is = record {
              here = here;
              there = ap (λ (f : ℕ → Slots). f n) nodes ∙ upd_same M.node n _;
              ins = refl;
              outs = refl;
              others = λ k h. ap (λ (f : ℕ → Slots). f k) nodes ∙ upd_other M.node n _ k h;
              join = λ x. ap (λ (f : model.InnerPlace → Far). f x) joins;
              good = good';
              holds = holds';
            };
          }

      within : (a : NodeMeta) → M.node n ≡ live a → fits_inside a i o ≡ true → SomeRecount (resize_inside g n a i o) M n i o
      within a here q =
          let fit = fits_below a i o q in
          changed a here a.first_port.0 a.capacity _ (resize_model M n a i o) refl refl (good_resize good n a here i o fit) (inside_holds good holds n a here i o fit)

      away : i + o ≤ node_ports → (a : NodeMeta) → M.node n ≡ live a → block_room M (round_up (i + o)) ≡ true
          → SomeRecount (resize_anew g n a i o (next_block M (round_up (i + o))) (round_up (i + o))) M n i o
      away h a here q =
          let fit = round_up_reaches (i + o) in
          let some = round_up_positive (i + o) in
          let small = round_up_fits (i + o) h in
          let free = leb-true (M.port_len + growth (round_up (i + o)) (M.free_blocks (round_up (i + o)))) port_slots q in
          changed a here (next_block M (round_up (i + o))) (round_up (i + o)) _ (move_model M n a i o (round_up (i + o))) refl refl
          (good_move good n a here i o (round_up (i + o)) fit some small free) (anew_holds good holds n a here i o (round_up (i + o)) fit some small free)

      counts : i + o ≤ node_ports → (a : NodeMeta) → M.node n ≡ live a → (p q r : Bool) → same_counts a i o ≡ p → fits_inside a i o ≡ q → block_room M (round_up (i + o)) ≡ r
          → Out (set_by g n i o (cond p same (cond q (inside a) (cond r (anew a (next_block M (round_up (i + o)))) (refuse (Err set_error.NoRoom))))))
      counts h a here true q r s t u e k = unchanged a here s
      counts h a here false true r s t u e k = within a here t
      counts h a here false false true s t u e k = away h a here u
      counts h a here false false false s t u e k = absurd (zero_is_not_one (cc))

      told : i + o ≤ node_ports → (a : NodeMeta) → M.node n ≡ live a → (b : Bool) → leb (3 * (a.incoming + a.outgoing)) room ≡ b
          → Out (set_by g n i o (cond b
          (cond (same_counts a i o) same (cond (fits_inside a i o) (inside a) (cond (block_room M (round_up (i + o))) (anew a (next_block M (round_up (i + o)))) (refuse (Err set_error.NoRoom)))))
          (refuse (Err set_error.MovesTooShort))))
      told h a here true q = counts h a here (same_counts a i o) (fits_inside a i o) (block_room M (round_up (i + o))) refl refl refl
      told h a here false q = λ e k. absurd (zero_is_not_one (cc))

      slots : i + o ≤ node_ports → (s : Slots) → M.node n ≡ s → Out (set_by g n i o (plan_slots M i o room s))
      slots h gone here = λ e k. absurd (zero_is_not_one (cc))
      slots h (live a) here = told h a here (leb (3 * (a.incoming + a.outgoing)) room) refl

      few : (b : Bool) → leb (i + o) node_ports ≡ b → Out (set_by g n i o (plan_where M i o room b (M.node n)))
      few true q = slots (leb-true (i + o) node_ports q) (M.node n) refl
      few false q = λ e k. absurd (zero_is_not_one (cc))

-- Slots of a node's places.

abbrev pub slot_on_side : Slots → Direction → ℕ → ℕ
slot_on_side s d i = first_of s + (side_start s d + i)

-- a place's slot lies among its node's ports
pub slot_among : (k : NodeMeta) (d : Direction) (i : ℕ) → i < ports_on k d → Within k.first_port.0 (k.incoming + k.outgoing) (slot_on_side (live k) d i)
slot_among k Incoming i h = ((omega arith), (omega arith))
slot_among k Outgoing i h = ((omega arith), (omega arith))

pub record PlaceAt (k : NodeMeta) (s : ℕ) : Type 0 where
  pub side : Direction
  pub pos : ℕ
  pub below : pos < ports_on k side
  pub slot : slot_on_side (live k) side pos ≡ s

pub place_among : (k : NodeMeta) (s : ℕ) → Within k.first_port.0 (k.incoming + k.outgoing) s → PlaceAt k s
place_among k s h = go (ltb s (k.first_port.0 + k.incoming)) refl
  where
    go : (b : Bool) → ltb s (k.first_port.0 + k.incoming) ≡ b → PlaceAt k s
    go true e =
        let l = ltb-true s (k.first_port.0 + k.incoming) e in
        let p = h.0 in
        record { side = Incoming; pos = s - k.first_port.0; below = omega arith; slot = omega arith }
    go false e =
        let l = ltb-false s (k.first_port.0 + k.incoming) e in
        let p = h.1 in
        record { side = Outgoing; pos = s - (k.first_port.0 + k.incoming); below = omega arith; slot = omega arith }

-- a place of a node whose meta data are known
module _ (N : Model) {n : ℕ} {k : NodeMeta} (here : N.node n ≡ live k) (x : model.InnerPlace) (at_node : x.node ≡ n) where
  pub slot_at : slot_of N.node x ≡ slot_on_side (live k) x.side x.pos
  slot_at = ap (λ (s : Slots). slot_on_side s x.side x.pos) (ap N.node at_node ∙ here)

  pub count_at : count_of (N.node x.node) x.side ≡ ports_on k x.side
  count_at = ap (λ (s : Slots). count_of s x.side) (ap N.node at_node ∙ here)

-- a place whose slot is marked, before and after
pub record WasMarked (m : MultiPortGraph) (M M' : Model) (s : ℕ) : Type 0 where
  pub place : model.InnerPlace
  pub was : Valid M.node place
  pub is : Valid M'.node place
  pub slot : slot_of M'.node place ≡ s
  pub marked : is_split m (slot_of M.node place) ≡ true

-- a marked slot is the slot of a place
pub marked_place : {m : MultiPortGraph} {M : Model} → Fine m M → (s : ℕ) → is_split m s ≡ true → (x : model.InnerPlace) × Valid M.node x × (slot_of M.node x ≡ s)
marked_place {m} {M} f s e = go (f.only_marked s e)
  where
    go : Marked m M s → (x : model.InnerPlace) × Valid M.node x × (slot_of M.node x ≡ s)
    go (copy_port c h q) = (copy_place m c, f.good.join_valid _ _ (f.copy c h).joined, q)
    go (main_port_lem c x h j q) = (x, joined_is_valid f.good _ x j, q)

module _ {m : MultiPortGraph} {M : Model} (f : Fine m M) {g' : PortGraph} {M' : Model} {n i o : ℕ} {a b : NodeMeta} (r : Recount g' M M' n a b i o) where
  pub marks_moved : (recounted m n g').multiport ≡ lay_marks m.multiport a b
  unfolding recounted
  marks_moved = rw (meta_of_node f.good f.holds n a r.here, meta_of_node r.good r.holds n b r.there)

  pub marks_long_lem : length (recounted m n g').multiport ≡ port_slots
  marks_long_lem = ap length marks_moved ∙ length_lay_marks m.multiport a b ∙ f.marks_long

  mark_is : (s : ℕ) → is_split (recounted m n g') s ≡ get_or (lay_marks m.multiport a b) s false
  unfolding is_split
  mark_is s = ap (λ (l : List Bool). get_or l s false) marks_moved

  -- a kept port of the node itself
  kept_here : (d : Direction) (j : ℕ) → j < ports_on a d → j < ports_on b d → is_split (recounted m n g') (slot_on_side (live b) d j) ≡ is_split m (slot_on_side (live a) d j)
  unfolding is_split
  kept_here Incoming j h k =
      let p : b.first_port.0 + (0 + j) ≡ b.first_port.0 + j = omega arith in
      let q : a.first_port.0 + (0 + j) ≡ a.first_port.0 + j = omega arith in
      mark_is _ ∙ (rw (p, q) (lay_kept_in m.multiport a b j (omega (arith, ports_end r.good n b r.there, f.marks_long)) (omega arith)))
  kept_here Outgoing j h k =
      let p : b.first_port.0 + (b.incoming + j) ≡ b.first_port.0 + b.incoming + j = omega arith in
      let q : a.first_port.0 + (a.incoming + j) ≡ a.first_port.0 + a.incoming + j = omega arith in
      mark_is _ ∙ (rw (p, q) (lay_kept_out m.multiport a b j (omega (arith, ports_end r.good n b r.there, f.marks_long)) (omega arith)))

  -- a new port of the node itself
  new_here : (d : Direction) (j : ℕ) → ports_on a d ≤ j → j < ports_on b d → is_split (recounted m n g') (slot_on_side (live b) d j) ≡ false
  new_here Incoming j h k = mark_is _ ∙ lay_new m.multiport a b _ (omega (arith, ports_end r.good n b r.there, f.marks_long)) (omega arith) (omega arith) (λ p q. omega arith) (λ p q. omega arith)
  new_here Outgoing j h k = mark_is _ ∙ lay_new m.multiport a b _ (omega (arith, ports_end r.good n b r.there, f.marks_long)) (omega arith) (omega arith) (λ p q. omega arith) (λ p q. omega arith)

  -- a slot of neither block's ports
  mark_else : (s : ℕ) → (a.first_port.0 ≤ s → s < a.first_port.0 + (a.incoming + a.outgoing) → ⊥)
      → (b.first_port.0 ≤ s → s < b.first_port.0 + (b.incoming + b.outgoing) → ⊥) → is_split (recounted m n g') s ≡ is_split m s
  unfolding is_split
  mark_else s h k = mark_is s ∙ lay_else m.multiport a b s k h

  mark_old : (s : ℕ) → Within a.first_port.0 (a.incoming + a.outgoing) s
      → (b.first_port.0 ≤ s → s < b.first_port.0 + (b.incoming + b.outgoing) → ⊥) → is_split (recounted m n g') s ≡ false
  mark_old s h k = mark_is s ∙ lay_old m.multiport a b s k (omega (arith, ports_end f.good n a r.here, f.marks_long)) h.0 h.1

  -- places of other nodes have their slots
  pub other_slot : (x : model.InnerPlace) → (x.node ≡ n → ⊥) → slot_of M'.node x ≡ slot_of M.node x
  other_slot x h = same_slot M M' x (r.others x.node h)

  pub other_count : (k : ℕ) (d : Direction) → (k ≡ n → ⊥) → count_of (M'.node k) d ≡ count_of (M.node k) d
  other_count k d h = ap (λ (s : Slots). count_of s d) (r.others k h)

  -- a port's slot lies in its node's block, so not among the ports of another node
  apart : {N : Model} → Good N → (k : NodeMeta) → N.node n ≡ live k → (x : model.InnerPlace) → Valid N.node x → (x.node ≡ n → ⊥)
      → k.first_port.0 ≤ slot_of N.node x → slot_of N.node x < k.first_port.0 + (k.incoming + k.outgoing) → ⊥
  apart {N} good k e x v h p q = go (N.node x.node) refl
    where
      go : (s : Slots) → N.node x.node ≡ s → ⊥
      go gone d = let z : count_of (N.node x.node) x.side ≡ 0 = ap (λ (s : Slots). count_of s x.side) d in omega arith
      go (live l) d =
          let c = count_at N d x refl in
          let t = slot_at N d x refl in
          let w = slot_among l x.side x.pos (omega arith) in
          let w0 = w.0 in
          let w1 = w.1 in
          let fit = good.ports_in_block n k e in
          let lit = good.ports_in_block x.node l d in
          h (block_of_one good x.node n l k (slot_of N.node x) d e ((omega arith), (omega arith)) ((omega arith), (omega arith)))

  -- a port that is there before and after keeps its mark, wherever it moves
  pub recount_marks : (x : model.InnerPlace) → Valid M.node x → Valid M'.node x → is_split (recounted m n g') (slot_of M'.node x) ≡ is_split m (slot_of M.node x)
  recount_marks x v u = ⊎_elim itself other (cases_eq x.node n)
    where
      itself : x.node ≡ n → is_split (recounted m n g') (slot_of M'.node x) ≡ is_split m (slot_of M.node x)
      itself h =
          let p = count_at M r.here x h in
          let q = count_at M' r.there x h in
          ap (is_split (recounted m n g')) (slot_at M' r.there x h) ∙ kept_here x.side x.pos (omega arith) (omega arith) ∙ sym (ap (is_split m) (slot_at M r.here x h))

      other : (x.node ≡ n → ⊥) → is_split (recounted m n g') (slot_of M'.node x) ≡ is_split m (slot_of M.node x)
      other h =
          mark_else (slot_of M'.node x)
          (subst (λ (s : ℕ). a.first_port.0 ≤ s → s < a.first_port.0 + (a.incoming + a.outgoing) → ⊥) (sym (other_slot x h)) (apart f.good a r.here x v h))
          (apart r.good b r.there x u h)
          ∙ ap (is_split m) (other_slot x h)

  -- and nothing else is marked
  pub marked_was : (s : ℕ) → is_split (recounted m n g') s ≡ true → WasMarked m M M' s
  marked_was s e = ⊎_elim among outside (within_cases b.first_port.0 (b.incoming + b.outgoing) s)
    where
      clash : is_split (recounted m n g') s ≡ false → ⊥
      clash d = zero_is_not_one (cc)

      among : Within b.first_port.0 (b.incoming + b.outgoing) s → WasMarked m M M' s
      among w = go (place_among b s w)
        where
          go : PlaceAt b s → WasMarked m M M' s
          go t = kept (ltb t.pos (ports_on a t.side)) refl
            where
              kept : (c : Bool) → ltb t.pos (ports_on a t.side) ≡ c → WasMarked m M M' s
              kept true q =
                  let x = inner# n t.side t.pos in
                  let l = ltb-true t.pos (ports_on a t.side) q in
                  let u = t.below in
                  let p = count_at M r.here x refl in
                  let k = count_at M' r.there x refl in
                  record {
                    place = x;
                    was = omega arith;
                    is = omega arith;
                    slot = slot_at M' r.there x refl ∙ t.slot;
                    marked = ap (is_split m) (slot_at M r.here x refl) ∙ sym (kept_here t.side t.pos l u) ∙ ap (is_split (recounted m n g')) t.slot ∙ e;
                  }
              kept false q =
                  absurd (clash (sym (ap (is_split (recounted m n g')) t.slot) ∙ new_here t.side t.pos (ltb-false t.pos (ports_on a t.side) q) t.below))

      outside : (b.first_port.0 ≤ s → s < b.first_port.0 + (b.incoming + b.outgoing) → ⊥) → WasMarked m M M' s
      outside k = ⊎_elim (λ w. absurd (clash (mark_old s w k))) stayed (within_cases a.first_port.0 (a.incoming + a.outgoing) s)
        where
          stayed : (a.first_port.0 ≤ s → s < a.first_port.0 + (a.incoming + a.outgoing) → ⊥) → WasMarked m M M' s
          stayed h =
              let d : is_split m s ≡ true = sym (mark_else s h k) ∙ e in
              let t = marked_place f s d in
              let x = t.0 in
              let other : (x.node ≡ n → ⊥) = λ q.
              let p = count_at M r.here x q in
              let v = t.1 in
              let z = slot_at M r.here x q in
              let y = t.2 in
              let w = slot_among a x.side x.pos (omega arith) in
              let w0 = w.0 in
              let w1 = w.1 in
              h (omega arith) (omega arith) in
              let c = other_count x.node x.side other in
              let v = t.1 in
              record { place = x; was = t.1; is = omega arith; slot = other_slot x other ∙ t.2; marked = ap (is_split m) t.2 ∙ d }

-- Hidden nodes, links and marks are the same at every place that is there before and after, and every linked place is: so are ends
-- and wires.
pub record SameEnds (m : MultiPortGraph) (M : Model) (m' : MultiPortGraph) (M' : Model) : Type 0 where
  pub hid : (k : ℕ) → is_hidden m' k ≡ is_hidden m k
  pub sides : (k : ℕ) → is_hidden m k ≡ true → copy_side m' k ≡ copy_side m k
  pub joins : (y : model.InnerPlace) → M'.join y ≡ M.join y
  pub linked : (y z : model.InnerPlace) → M.join y ≡ to z → Valid M'.node y
  pub marks : (y : model.InnerPlace) → Valid M.node y → Valid M'.node y → is_split m' (slot_of M'.node y) ≡ is_split m (slot_of M.node y)

module _ {m : MultiPortGraph} {M : Model} {m' : MultiPortGraph} {M' : Model} (f : Fine m M) (t : SameEnds m M m' M') where
  pub end_kept : (y : model.InnerPlace) → Valid M'.node y → IsEnd m M y → IsEnd m' M' y
  end_kept y v e =
      record {
        valid = v;
        unsplit = λ h. t.marks y e.valid v ∙ e.unsplit (sym (t.hid y.node) ∙ h);
        subport = λ h s. let p = sym (t.hid y.node) ∙ h in e.subport p (s ∙ t.sides y.node p);
      }

  pub end_was : (y : model.InnerPlace) → Valid M.node y → IsEnd m' M' y → IsEnd m M y
  end_was y v e =
      record {
        valid = v;
        unsplit = λ h. sym (t.marks y v e.valid) ∙ e.unsplit (t.hid y.node ∙ h);
        subport = λ h s. e.subport (t.hid y.node ∙ h) (s ∙ sym (t.sides y.node h));
      }

  pub outer_same : (y : model.InnerPlace) → outer m' M' y ≡ outer m M y
  unfolding outer
  outer_same y = go (is_hidden m y.node) refl
    where
      go : (b : Bool) → is_hidden m y.node ≡ b → outer m' M' y ≡ outer m M y
      go true h =
          let q = t.hid y.node ∙ h in
          let p : M'.join (copy_place m' y.node) ≡ M.join (copy_place m y.node) = ap M'.join (same_copy (t.sides y.node h)) ∙ t.joins _ in
          rw (q, h, p)
      go false h = let q = t.hid y.node ∙ h in rw (q, h)

  pub same_wires : SameWires m M m' M'
  same_wires =
      record {
        kept = λ w i q. wire_again i (t.joins i.x ∙ i.joined) (end_kept i.x (t.linked i.x i.y i.joined) i.end) (outer_same i.x) (outer_same i.y);
        came = λ w e. absurd e;
        only = λ w i.
            let j = sym (t.joins i.x) ∙ i.joined in
            inl (wire_again i j (end_was i.x (f.good.join_valid i.x i.y j) i.end) (sym (outer_same i.x)) (sym (outer_same i.y)), refl);
      }

-- A hidden node with other counts: two subports or more are left, and no link goes with the others.

-- its meta data is that of the new lower graph, and there are so many subports in all
abbrev pub counted : MultiPortGraph → ℕ → PortGraph → ℕ → MultiPortGraph
counted m c g subs = with_subports (recounted m c g) subs

pub reversed_twice : (d e : Direction) → d ≡ reversed e → reversed d ≡ e
reversed_twice d e p = ap reversed p ∙ twice_reversed e

pub both_sides : (k : NodeMeta) (d : Direction) → k.incoming + k.outgoing ≡ ports_on k d + ports_on k (reversed d)
both_sides k Incoming = refl
both_sides k Outgoing = omega arith

-- a hidden node's counts
pub record Shape (m : MultiPortGraph) (M' : Model) (k : ℕ) : Type 0 where
  pub meta : NodeMeta
  pub here : M'.node k ≡ live meta
  pub single : ports_on meta (copy_side m k) ≡ 1
  pub several : 2 ≤ ports_on meta (reversed (copy_side m k))

module _ {m : MultiPortGraph} {M : Model} (f : Fine m M) (x : model.InnerPlace) (h : Hangs m M x) {g' : PortGraph} {M' : Model} {i o : ℕ} {a b : NodeMeta}
    (r : Recount g' M M' h.copy a b i o) (left : 2 ≤ ports_on b x.side) (same : ports_on b (reversed x.side) ≡ ports_on a (reversed x.side))
    (empty : (j : ℕ) → ports_on b x.side ≤ j → M.join (inner# h.copy x.side j) ≡ nowhere)
    (subs : ℕ) (sum : subs + ports_on a x.side ≡ m.subport_count + ports_on b x.side) where
  -- a linked port of the node stays
  linked_below : (y z : model.InnerPlace) → M.join y ≡ to z → y.node ≡ h.copy → y.pos < ports_on b y.side
  linked_below y z j e = ⊎_elim sub copy (side_cases y.side x.side)
    where
      sub : y.side ≡ x.side → y.pos < ports_on b y.side
      sub s = go (ltb y.pos (ports_on b x.side)) refl
        where
          go : (t : Bool) → ltb y.pos (ports_on b x.side) ≡ t → y.pos < ports_on b y.side
          go true q = subst (λ (d : Direction). y.pos < ports_on b d) (sym s) (ltb-true y.pos (ports_on b x.side) q)
          go false q =
              let n = empty y.pos (ltb-false y.pos (ports_on b x.side) q) in
              let k : M.join y ≡ nowhere = ap M.join (same_place_lem y (inner# h.copy x.side y.pos) e s refl) ∙ n in
              absurd (zero_is_not_one (cc))

      copy : y.side ≡ reversed x.side → y.pos < ports_on b y.side
      copy s =
          let v = f.good.join_valid y z j in
          let p = count_at M r.here y e in
          let q : ports_on b y.side ≡ ports_on a y.side = ap (ports_on b) s ∙ (same ∙ ap (ports_on a) (sym s)) in
          omega arith

  pub linked_valid : (y z : model.InnerPlace) → M.join y ≡ to z → Valid M'.node y
  linked_valid y z j =
      ⊎_elim
      (λ e. let p = count_at M' r.there y e in let l = linked_below y z j e in omega arith)
      (λ e. let p = other_count f r y.node y.side e in let v = f.good.join_valid y z j in omega arith)
      (cases_eq y.node h.copy)

  linked_stays : (y z : model.InnerPlace) → M.join y ≡ to z → Kept h.copy i o y
  linked_stays y z j e =
      let l = linked_below y z j e in
      let q = count_new b i o y.side r.ins r.outs in
      omega arith

  pub recount_joins : (y : model.InnerPlace) → M'.join y ≡ M.join y
  recount_joins y = r.join y ∙ go (M.join y) refl
    where
      go : (w : Far) → M.join y ≡ w → drop_join (beyond h.copy i o) M.join y ≡ M.join y
      go nowhere j = drop_nowhere (beyond h.copy i o) M.join y j ∙ sym j
      go (to z) j =
          kept_link M.join h.copy i o y z j (linked_stays y z j) (linked_stays z y (f.good.join_back y z j)) ∙ sym j

  pub recount_hidden : (k : ℕ) → is_hidden (counted m h.copy g' subs) k ≡ is_hidden m k
  unfolding is_hidden recounted
  recount_hidden k = refl

  recount_split : (y : model.InnerPlace) → Valid M.node y → Valid M'.node y → is_split (counted m h.copy g' subs) (slot_of M'.node y) ≡ is_split m (slot_of M.node y)
  unfolding is_split recounted
  recount_split y v u = recount_marks f r y v u

  recount_holds : Holds (counted m h.copy g' subs).graph M'
  unfolding recounted
  recount_holds = r.holds

  shape_here : Shape m M' h.copy
  shape_here =
      let k = f.copy h.copy h.is_copy in
      let e = k.here in
      let d = r.here in
      let s : k.meta ≡ a = cc in
      let p : reversed x.side ≡ copy_side m h.copy = reversed_twice x.side (copy_side m h.copy) h.side in
      record {
        meta = b;
        here = r.there;
        single = sym (ap (ports_on b) p) ∙ same ∙ ap (ports_on a) p ∙ sym (ap (λ (l : NodeMeta). ports_on l (copy_side m h.copy)) s) ∙ k.single;
        several = subst (λ (d : Direction). 2 ≤ ports_on b d) h.side left;
      }

  shape : (k : ℕ) → is_hidden m k ≡ true → Shape m M' k
  shape k e = ⊎_elim
      (λ q. subst (Shape m M') (sym q) shape_here)
      (λ q. let c = f.copy k e in record { meta = c.meta; here = r.others k q ∙ c.here; single = c.single; several = c.several })
      (cases_eq k h.copy)

  recount_sides : (k : ℕ) → is_hidden m k ≡ true → copy_side (counted m h.copy g' subs) k ≡ copy_side m k
  recount_sides k e =
      let t = shape k e in
      copy_side_is (counted m h.copy g' subs) k t.meta (copy_side m k) (meta_of_node r.good recount_holds k t.meta t.here) t.single t.several

  pub recount_ends : SameEnds m M (counted m h.copy g' subs) M'
  recount_ends = record { hid = recount_hidden; sides = recount_sides; joins = recount_joins; linked = linked_valid; marks = recount_split }

  recount_flags : length (counted m h.copy g' subs).copy_node ≡ node_slots
  unfolding recounted
  recount_flags = f.flags_long

  recount_copies : (counted m h.copy g' subs).copy_node_count ≡ total node_slots (λ n. flag (is_hidden (counted m h.copy g' subs) n))
  unfolding recounted is_hidden
  recount_copies = f.copies

  subs_are : (k : ℕ) (s : Slots) → is_hidden m k ≡ true → M.node k ≡ s → subports_of_slot m M k ≡ ports_of s - 1
  subs_are k s e d = rw (e, d)

  new_subs_are : (k : ℕ) (s : Slots) → is_hidden m k ≡ true → M'.node k ≡ s → subports_of_slot (counted m h.copy g' subs) M' k ≡ ports_of s - 1
  new_subs_are k s e d = rw (recount_hidden k, e, d)

  other_subs : (k : ℕ) → (k ≡ h.copy → ⊥) → subports_of_slot m M k ≡ subports_of_slot (counted m h.copy g' subs) M' k
  other_subs k ne = sym (rw (recount_hidden k, r.others k ne))

  recount_subs : subs ≡ total node_slots (subports_of_slot (counted m h.copy g' subs) M')
  recount_subs =
      let used = node_below f.good h.copy a r.here in
      let one = total_one node_slots h.copy (subports_of_slot m M) (subports_of_slot (counted m h.copy g' subs) M') (omega arith) (λ k l ne. other_subs k ne) in
      let p = subs_are h.copy (live a) h.is_copy r.here in
      let q = new_subs_are h.copy (live b) h.is_copy r.there in
      let u = both_sides a x.side in
      let v = both_sides b x.side in
      let w : 2 ≤ ports_on a x.side = subst (λ (s : Slots). 2 ≤ count_of s x.side) r.here h.several in
      let s = f.subs in
      omega arith

  recount_only : (s : ℕ) → is_split (counted m h.copy g' subs) s ≡ true → Marked (counted m h.copy g' subs) M' s
  unfolding is_split recounted
  recount_only s e = go (marked_was f r s e)
    where
      go : WasMarked m M M' s → Marked (counted m h.copy g' subs) M' s
      go w = by (f.only_marked _ w.marked)
        where
          by : Marked m M (slot_of M.node w.place) → Marked (counted m h.copy g' subs) M' s
          by (copy_port c q t) =
              let z : copy_place m c ≡ w.place = slots_apart f.good (copy_place m c) w.place (copy_valid f c q) w.was t in
              copy_port c (recount_hidden c ∙ q) (ap (slot_of M'.node) (same_copy (recount_ends.sides c q) ∙ z) ∙ w.slot)
          by (main_port_lem c y q j t) =
              let z : y ≡ w.place = slots_apart f.good y w.place (joined_is_valid f.good (copy_place m c) y j) w.was t in
              main_port_lem c y (recount_hidden c ∙ q) (ap M'.join (same_copy (recount_ends.sides c q)) ∙ recount_joins _ ∙ j) (ap (slot_of M'.node) z ∙ w.slot)

  pub recount_fine : Fine (counted m h.copy g' subs) M'
  recount_fine =
      record {
        good = r.good;
        holds = recount_holds;
        marks_long = marks_long_lem f r;
        flags_long = recount_flags;
        copy = λ c q.
            let e = sym (recount_hidden c) ∙ q in
            let k = f.copy c e in
            let t = shape c e in
            record {
              meta = t.meta;
              here = t.here;
              single = rw (recount_sides c e) t.single;
              several = rw (recount_sides c e) t.several;
              main = k.main;
              joined = ap M'.join (same_copy (recount_ends.sides c e)) ∙ recount_joins _ ∙ k.joined;
              main_seen = recount_hidden k.main.node ∙ k.main_seen;
            };
        copy_marked = λ c q.
            let e = sym (recount_hidden c) ∙ q in
            let k = f.copy c e in
            ap (λ (y : model.InnerPlace). is_split (counted m h.copy g' subs) (slot_of M'.node y)) (same_copy (recount_ends.sides c e))
            ∙ recount_split (copy_place m c) (copy_valid f c e) (linked_valid (copy_place m c) k.main k.joined) ∙ f.copy_marked c e;
        main_marked = λ c y q j.
            let e = sym (recount_hidden c) ∙ q in
            let d : M.join (copy_place m c) ≡ to y = sym (ap M'.join (same_copy (recount_ends.sides c e)) ∙ recount_joins _) ∙ j in
            recount_split y (joined_is_valid f.good (copy_place m c) y d) (linked_valid y (copy_place m c) (f.good.join_back (copy_place m c) y d)) ∙ f.main_marked c y e d;
        only_marked = recount_only;
        copies = recount_copies;
        subs = recount_subs;
      }

  pub no_block_here : (n : ℕ) → is_hidden m n ≡ false → n ≡ h.copy → ⊥
  no_block_here n e q = true_not_false (ap (is_hidden m) q ∙ h.is_copy) e

  pub recount_blocks : SameBlocks m M (counted m h.copy g' subs) M'
  recount_blocks = (
    (λ n k e. (recount_hidden n ∙ e.0, r.others n (no_block_here n e.0) ∙ e.1)),
    (λ n k e. let d = sym (recount_hidden n) ∙ e.0 in (d, sym (r.others n (no_block_here n d)) ∙ e.1)),
  )

-- A hidden node grows by one subport.

abbrev pub grown : MultiPortGraph → ℕ → PortGraph → MultiPortGraph
grown m c g = more (recounted m c g)

module _ {m : MultiPortGraph} {M : Model} (f : Fine m M) (x : model.InnerPlace) (h : Hangs m M x) {g' : PortGraph} {M' : Model} {i o : ℕ} {a b : NodeMeta}
    (r : Recount g' M M' h.copy a b i o) (longer : ports_on b x.side ≡ ports_on a x.side + 1)
    (same : ports_on b (reversed x.side) ≡ ports_on a (reversed x.side)) where
  side_grows : (d : Direction) → ports_on a d ≤ ports_on b d
  side_grows d = go x.side d longer same
    where
      go : (e d : Direction) → ports_on b e ≡ ports_on a e + 1 → ports_on b (reversed e) ≡ ports_on a (reversed e) → ports_on a d ≤ ports_on b d
      go Incoming Incoming p q = omega arith
      go Incoming Outgoing p q = omega arith
      go Outgoing Incoming p q = omega arith
      go Outgoing Outgoing p q = omega arith

  pub valid_kept : (y : model.InnerPlace) → Valid M.node y → Valid M'.node y
  valid_kept y v = ⊎_elim
      (λ e. let p = count_at M r.here y e in let q = count_at M' r.there y e in let l = side_grows y.side in omega arith)
      (λ e. let p = other_count f r y.node y.side e in omega arith)
      (cases_eq y.node h.copy)

  two_left : 2 ≤ ports_on b x.side
  two_left = let w : 2 ≤ ports_on a x.side = subst (λ (s : Slots). 2 ≤ count_of s x.side) r.here h.several in omega arith

  -- beyond the last port there is no link
  none_beyond : (j : ℕ) → ports_on b x.side ≤ j → M.join (inner# h.copy x.side j) ≡ nowhere
  none_beyond j l = go (M.join (inner# h.copy x.side j)) refl
    where
      go : (w : Far) → M.join (inner# h.copy x.side j) ≡ w → M.join (inner# h.copy x.side j) ≡ nowhere
      go nowhere e = e
      go (to y) e =
          let v = f.good.join_valid (inner# h.copy x.side j) y e in
          let p = count_at M r.here (inner# h.copy x.side j) refl in
          absurd (omega arith)

  one_more : (subs : ℕ) → subs ≡ m.subport_count → subs + 1 + ports_on a x.side ≡ m.subport_count + ports_on b x.side
  one_more subs e = omega arith

  subs_before : (recounted m h.copy g').subport_count ≡ m.subport_count
  unfolding recounted
  subs_before = refl

  subs_after : (recounted m h.copy g').subport_count + 1 + ports_on a x.side ≡ m.subport_count + ports_on b x.side
  subs_after = one_more (recounted m h.copy g').subport_count subs_before

  pub joins_same : (y : model.InnerPlace) → M'.join y ≡ M.join y
  joins_same = recount_joins f x h r two_left same none_beyond _ subs_after

  pub hidden_same : (k : ℕ) → is_hidden (grown m h.copy g') k ≡ is_hidden m k
  hidden_same = recount_hidden f x h r two_left same none_beyond _ subs_after

  split_same : (y : model.InnerPlace) → Valid M.node y → is_split (grown m h.copy g') (slot_of M'.node y) ≡ is_split m (slot_of M.node y)
  split_same y v = recount_split f x h r two_left same none_beyond _ subs_after y v (valid_kept y v)

  sides_same : (k : ℕ) → is_hidden m k ≡ true → copy_side (grown m h.copy g') k ≡ copy_side m k
  sides_same = recount_sides f x h r two_left same none_beyond _ subs_after

  pub ends_same : SameEnds m M (grown m h.copy g') M'
  ends_same = recount_ends f x h r two_left same none_beyond _ subs_after

  pub grown_fine : Fine (grown m h.copy g') M'
  grown_fine = recount_fine f x h r two_left same none_beyond _ subs_after

  grown_blocks : SameBlocks m M (grown m h.copy g') M'
  grown_blocks = recount_blocks f x h r two_left same none_beyond _ subs_after

  -- the new subport
  abbrev pub fresh : model.InnerPlace
  fresh = inner# h.copy x.side (ports_on a x.side)

  pub fresh_valid : Valid M'.node fresh
  fresh_valid = let p = count_at M' r.there fresh refl in omega arith

  fresh_end : IsEnd (grown m h.copy g') M' fresh
  fresh_end =
      record {
        valid = fresh_valid;
        unsplit = λ e. absurd (true_not_false (hidden_same h.copy ∙ h.is_copy) e);
        subport = λ e s. side_clash x.side (copy_side m h.copy) h.side (s ∙ sides_same h.copy h.is_copy);
      }
    where
      side_clash : (d e : Direction) → d ≡ reversed e → d ≡ e → ⊥
      side_clash d Incoming p q = zero_is_not_one (cc)
      side_clash d Outgoing p q = zero_is_not_one (cc)

  fresh_was_free : (y : model.InnerPlace) → M.join fresh ≡ to y → ⊥
  fresh_was_free y j = let v = f.good.join_valid fresh y j in let p = count_at M r.here fresh refl in omega arith

  fresh_free : M'.join fresh ≡ nowhere
  fresh_free = joins_same fresh ∙ go (M.join fresh) refl
    where
      go : (w : Far) → M.join fresh ≡ w → M.join fresh ≡ nowhere
      go nowhere j = j
      go (to y) j = absurd (fresh_was_free y j)

  pub fresh_slot : slot_of M'.node fresh ≡ port_of g' h.copy x.side (ports_on a x.side)
  unfolding port_of
  fresh_slot = sym (ap port_number (port_index_is r.good r.holds fresh fresh_valid))

  fresh_outer : outer (grown m h.copy g') M' fresh ≡ lift x (ports_on a x.side)
  fresh_outer = outer_same f ends_same fresh ∙ h.outers (ports_on a x.side)

  -- a linked subport has a wire
  linked_wire : (j : ℕ) (y : model.InnerPlace) → M.join (inner# h.copy x.side j) ≡ to y → (w : Wire) × WireIn m M w × HasEnd w (lift x j)
  linked_wire j y e = go x.side refl
    where
      go : (d : Direction) → x.side ≡ d → (w : Wire) × WireIn m M w × HasEnd w (lift x j)
      go Outgoing s =
          let z = inner# h.copy x.side j in (
            record { out = outer m M z; into = outer m M y },
            record { x = z; y = y; joined = e; outgoing = s; end = h.ends j (f.good.join_valid z y e); is = refl },
            inl (h.outers j),
          )
      go Incoming s =
          let z = inner# h.copy x.side j in
          let k = f.good.join_back z y e in
          let t : y.side ≡ Outgoing = other_side x.side y.side (f.good.join_sides z y e) ∙ ap reversed s in (
            record { out = outer m M y; into = outer m M z },
            record { x = y; y = z; joined = k; outgoing = t; end = ends_join_ends f z y (h.ends j (f.good.join_valid z y e)) e; is = refl },
            inr (h.outers j),
          )

  no_wire : (w : Wire) → WireIn m M w → HasEnd w (lift x (ports_on a x.side)) → ⊥
  no_wire w e = ⊎_elim
      (λ q. at_fresh e.x e.y e.joined e.end (sym (ap (λ (v : Wire). v.out) e.is) ∙ q))
      (λ q. at_fresh e.y e.x (f.good.join_back e.x e.y e.joined) (ends_join_ends f e.x e.y e.end e.joined) (sym (ap (λ (v : Wire). v.into) e.is) ∙ q))
    where
      at_fresh : (y z : model.InnerPlace) → M.join y ≡ to z → IsEnd m M y → outer m M y ≡ lift x (ports_on a x.side) → ⊥
      at_fresh y z j d q =
          let s : y ≡ fresh = outer_apart grown_fine y fresh (end_kept f ends_same y (valid_kept y d.valid) d) fresh_end (outer_same f ends_same y ∙ q ∙ sym fresh_outer) in
          fresh_was_free z (ap M.join (sym s) ∙ j)

  grown_keeps : (v : model.InnerPlace) → IsEnd m M v → M.join v ≡ nowhere → (v.side ≡ x.side → ⊥) → KeptEnd m M (grown m h.copy g') M' v
  grown_keeps v e j s =
      record {
        end = end_kept f ends_same v (valid_kept v e.valid) e;
        free = joins_same v ∙ j;
        slot = other_slot f r v elsewhere;
        is = outer_same f ends_same v;
      }
    where
      elsewhere : v.node ≡ h.copy → ⊥
      elsewhere q =
          let t = end_side f v e (ap (is_hidden m) q ∙ h.is_copy) in
          s (t ∙ ap (λ (c : ℕ). reversed (copy_side m c)) q ∙ sym h.side)

  others_need : (v : model.InnerPlace) → Seen m M v → (v ≡ x → ⊥) → need_of (grown m h.copy g') (slot_of M.node v) v.side ≡ need_of m (slot_of M.node v) v.side
  others_need v sv apart =
      let here = no_block_here f x h r two_left same none_beyond _ subs_after v.node sv.1 in
      need_alike f grown_fine v sv (r.others v.node here) (ap (is_split (grown m h.copy g')) (sym (other_slot f r v here)) ∙ split_same v sv.0) (alike_same (M'.join v) (M.join v) (joins_same v))
      (λ k.
      record {
        hid = hidden_same k.copy ∙ k.is_copy;
        from = ap M'.join (same_copy (ends_same.sides k.copy k.is_copy)) ∙ (joins_same _ ∙ k.from);
        node = r.others k.copy (λ q. apart (let a = ap (λ (c : ℕ). M.join (copy_place m c)) q in let b = k.from in let d = h.from in cc));
        links = λ i l. alike_same _ _ (joins_same (inner# k.copy v.side i));
      })

  -- the new subport is prepared, where all others are linked
  grown_prepared : ((j : ℕ) → j < ports_on a x.side → (y : model.InnerPlace) × (M.join (inner# h.copy x.side j) ≡ to y))
      → PreparedEnd m M x (grown m h.copy g') M' (port_of g' h.copy x.side (ports_on a x.side)) (ports_on a x.side)
  grown_prepared linked =
      record {
        fine = grown_fine;
        wires = same_wires f ends_same;
        blocks = grown_blocks;
        z = fresh;
        end = fresh_end;
        slot = fresh_slot;
        side = refl;
        free = fresh_free;
        is = fresh_outer;
        lower = λ j l. let y = linked j l in linked_wire j y.0 y.1;
        none = no_wire;
        keeps = grown_keeps;
        others = others_need;
      }

-- The call.

pub more_longer : (a b : NodeMeta) (g : PortGraph) (c : ℕ) (d : Direction) → ((e : Direction) → num_ports g c e ≡ ports_on a e) → b.incoming ≡ more_incoming g c d → b.outgoing ≡ more_outgoing g c d
    → (ports_on b d ≡ ports_on a d + 1) × (ports_on b (reversed d) ≡ ports_on a (reversed d))
more_longer a b g c Incoming n p q = (p ∙ ap (λ (k : ℕ). k + 1) (n Incoming), q ∙ n Outgoing)
more_longer a b g c Outgoing n p q = (q ∙ ap (λ (k : ℕ). k + 1) (n Outgoing), p ∙ n Incoming)

-- the lower resize that a hidden node grows by
abbrev pub growth# : MultiPortGraph → ℕ → Direction → PortsSet
growth# m c d = set_num_ports m.graph c (more_incoming m.graph c d) (more_outgoing m.graph c d) enough

module _ {m : MultiPortGraph} {M : Model} (f : Fine m M) (x : model.InnerPlace) (h : Hangs m M x)
    (linked : (j : ℕ) → j < count_of (M.node h.copy) x.side → (y : model.InnerPlace) × (M.join (inner# h.copy x.side j) ≡ to y)) where
  -- a hidden node all of whose subports are linked gets one more
  pub grow_law : (m' : MultiPortGraph) (q o : ℕ) → grow m h.copy x.side ≡ ready m' q o → (M' : Model) × PreparedEnd m M x m' M' q o
  unfolding grow_under
  grow_law m' q o = go (growth# m h.copy x.side).answer refl
    where
      done : SomeRecount (growth# m h.copy x.side).graph M h.copy (more_incoming m.graph h.copy x.side) (more_outgoing m.graph h.copy x.side)
          → ready (grown m h.copy (growth# m h.copy x.side).graph) (port_of (growth# m h.copy x.side).graph h.copy x.side (num_ports m.graph h.copy x.side))
          (num_ports m.graph h.copy x.side) ≡ ready m' q o
          → (M' : Model) × PreparedEnd m M x m' M' q o
      done s e =
          let r = s.is in
          let a = s.old in
          let g' : PortGraph = (growth# m h.copy x.side).graph in
          let counts : ((d : Direction) → num_ports m.graph h.copy d ≡ ports_on a d) = λ d. count_of_lem f h.copy d ∙ ap (λ (v : Slots). count_of v d) r.here in
          let l = more_longer a s.new m.graph h.copy x.side counts r.ins r.outs in
          let p = grown_prepared f x h r l.0 l.1 (λ k below. linked k (subst (λ (v : Slots). k < count_of v x.side) (sym r.here) below)) in
          let n : ports_on a x.side ≡ num_ports m.graph h.copy x.side = sym (counts x.side) in
          let e1 : grown m h.copy g' ≡ m' = cc in
          let e2 : port_of g' h.copy x.side (num_ports m.graph h.copy x.side) ≡ q = cc in
          let e3 : num_ports m.graph h.copy x.side ≡ o = cc in (
            s.model',
            subst (λ (u : MultiPortGraph). PreparedEnd m M x u s.model' q o) e1
                (subst (λ (u : ℕ). PreparedEnd m M x (grown m h.copy g') s.model' u o) (ap (port_of g' h.copy x.side) n ∙ e2)
                (subst (λ (u : ℕ). PreparedEnd m M x (grown m h.copy g') s.model' (port_of g' h.copy x.side (ports_on a x.side)) u) (n ∙ e3) p)),
          )

      go : (t : Result ℕ SetError) → (growth# m h.copy x.side).answer ≡ t → grown_by m h.copy x.side (growth# m h.copy x.side).graph t ≡ ready m' q o
          → (M' : Model) × PreparedEnd m M x m' M' q o
      go (Ok e) k w = done (set_recounts f.good f.holds h.copy _ _ enough e k) w
      go (Err set_error.TooManyPorts) k w = absurd (zero_is_not_one (cc))
      go (Err set_error.UnknownNode) k w = absurd (zero_is_not_one (cc))
      go (Err set_error.MovesTooShort) k w = absurd (zero_is_not_one (cc))
      go (Err set_error.NoRoom) k w = absurd (zero_is_not_one (cc))
