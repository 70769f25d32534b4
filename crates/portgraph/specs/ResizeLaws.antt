-- Changing a node's counts, said of the call: what it answers and leaves in each case, that a well-formed graph stays one,
-- what the move list holds afterwards, and that a kept port keeps its link.
use Rattle.std.specs.Prelude.{◌≡◌, Bool, List, [], ◌∷◌, eqb, leb, ltb, get_or, set, take, Option, Some, None, Result, Ok, Err}
use Rattle.std.proofs.Math.Path.{refl, ap, subst}
use Rattle.std.proofs.Common.{sym, ◌∙◌, inl, arith, get_or-set_other, ltb-true, ltb-false, leb-true, leb-false, eqb-true, lt-ltb, le-leb, eq-eqb}
use Rattle.std.proofs.Math.Bool.{true, false, cond}
use Prim.Native.Nat.{ℕ, zero, suc, ◌+◌, ◌*◌, ◌≤◌, ◌<◌}
use Rattle.std.proofs.Math.ListN.{length, length-append}
use Rattle.std.proofs.lemmas.List.Edits.{sets, sets-eq}
use Rattle.std.proofs.Math.Seq.{length-sets, take_at}
use Rattle.std.proofs.lemmas.Bool.{lt-leb}
use Rattle.port_tables.specs.Limits.{node_ports, port_slots, no_double_block}
use Rattle.port_tables.specs.Lists.{Member}
use Rattle.port_tables.specs.Tables.{at, move_up_events, move_down_events, shift_events, Within}
use Rattle.portgraph.specs.Lookups.{entry_at}
use Rattle.portgraph.specs.Calls.{find_block}
use Rattle.portgraph.specs.Model.{Model, Far, to, Slots, gone, live, Good, Holds, Wf, Valid, slot_of, slots_of_entry, InnerPlace}
use Rattle.portgraph.specs.Meaning.{drop_join, beyond, growth, next_block, resize_model, move_model}
use Rattle.port_tables.specs.Entries.{new_count}
use Rattle.portgraph.specs.Joins.{drop_kept}
use Rattle.port_tables.specs.Listing.{zero_is_not_one}
use Rattle.portgraph.specs.Resize.{Plan, refuse, same, inside, anew, plan_block, plan_counts, plan_entry, plan_of, dropped, resize_inside, inside_told, resize_anew, anew_told, set_by, told_by, set_num_ports, moves_after, set_num_ports_under, plan_of_under, moves_after_under}
use Rattle.port_tables.specs.ResizeLinks.{round_up, same_counts, fits_inside, first_slot, kept_incoming, kept_outgoing, drop_told}
use Rattle.portgraph.specs.ResizeSteps.{round_up_reaches, round_up_positive, round_up_fits, round_up_beyond, length_move_up_events, length_drop_told, fits_below}
use Rattle.portgraph.specs.GoodSlots.{block_of_one, slot_in_block}
use Rattle.portgraph.specs.GoodLaws.{good_resize, good_move}
use Rattle.portgraph.specs.WfFacts.{node_of_entry}
use Rattle.portgraph.specs.PlaceLaws.{link_to}
use Rattle.portgraph.specs.BlockHolds.{block_found_lem}
use Rattle.portgraph.specs.SlotHolds.{block_room}
use Rattle.portgraph.specs.InsideHolds.{inside_holds}
use Rattle.portgraph.specs.AnewHolds.{anew_holds}
use Rattle.port_tables.specs.declared.node_entry.NodeMeta.{NodeMeta}
use Rattle.port_tables.specs.declared.node_entry.NodeEntry.{NodeEntry}
use Rattle.port_tables.specs.declared.node_entry.NodeEntry.TheVariants as node_variants
use Rattle.portgraph.specs.declared.portgraph.PortGraph.{PortGraph}
use Rattle.portgraph.specs.declared.resize.SetError.{SetError}
use Rattle.portgraph.specs.declared.resize.SetError.TheVariants as set_error

-- The tests.

same_counts_lem : (m : NodeMeta) (i o : ℕ) → i ≡ m.incoming → o ≡ m.outgoing → same_counts m i o ≡ true
unfolding same_counts
same_counts_lem m i o e f = rw (eq-eqb i m.incoming e, eq-eqb o m.outgoing f)

other_counts : (m : NodeMeta) (i o : ℕ) → (i ≡ m.incoming → o ≡ m.outgoing → ⊥) → same_counts m i o ≡ false
unfolding same_counts
other_counts m i o h = go (eqb i m.incoming) (eqb o m.outgoing) refl refl
  where
    go : (a b : Bool) → eqb i m.incoming ≡ a → eqb o m.outgoing ≡ b → cond a b false ≡ false
    go true true p q = absurd (h (eqb-true _ _ p) (eqb-true _ _ q))
    go true false p q = refl
    go false b p q = refl

fits_so : (m : NodeMeta) (i o : ℕ) → 0 < i + o → i + o < m.capacity → fits_inside m i o ≡ true
unfolding fits_inside
fits_so m i o h k = rw (lt-ltb 0 (i + o) h, lt-ltb (i + o) m.capacity k)

fits_not : (m : NodeMeta) (i o : ℕ) → (0 < i + o → i + o < m.capacity → ⊥) → fits_inside m i o ≡ false
unfolding fits_inside
fits_not m i o h = go (ltb 0 (i + o)) (ltb (i + o) m.capacity) refl refl
  where
    go : (a b : Bool) → ltb 0 (i + o) ≡ a → ltb (i + o) m.capacity ≡ b → cond a b false ≡ false
    go true true p q = absurd (h (ltb-true _ _ p) (ltb-true _ _ q))
    go true false p q = refl
    go false b p q = refl

-- The plan, said of the model.

-- of a live node whose ports fit the move list
abbrev pub plan_live : Model → ℕ → ℕ → NodeMeta → Bool → Bool → Bool → Plan
plan_live M incoming outgoing m equal fits room =
    cond equal same (cond fits (inside m) (cond room (anew m (next_block M (round_up (incoming + outgoing)))) (refuse (Err set_error.NoRoom))))

abbrev pub plan_slots : Model → ℕ → ℕ → ℕ → Slots → Plan
plan_slots M incoming outgoing room gone = refuse (Err set_error.UnknownNode)
plan_slots M incoming outgoing room (live m) =
    cond (leb (3 * (m.incoming + m.outgoing)) room)
    (plan_live M incoming outgoing m (same_counts m incoming outgoing) (fits_inside m incoming outgoing) (block_room M (round_up (incoming + outgoing))))
    (refuse (Err set_error.MovesTooShort))

abbrev pub plan_where : Model → ℕ → ℕ → ℕ → Bool → Slots → Plan
plan_where M incoming outgoing room few s = cond few (plan_slots M incoming outgoing room s) (refuse (Err set_error.TooManyPorts))

module _ {g : PortGraph} {M : Model} (good : Good M) (holds : Holds g M) (n incoming outgoing room : ℕ) where
  pub plan_law : plan_of g n incoming outgoing room ≡ plan_where M incoming outgoing room (leb (incoming + outgoing) node_ports) (M.node n)
  unfolding plan_of_under
  plan_law = rw (← holds.nodes n) (ap (λ (p : Plan). cond (leb (incoming + outgoing) node_ports) p (refuse (Err set_error.TooManyPorts))) (go (entry_at g n)))
    where
      block : (m : NodeMeta) (f : Option ℕ) (c : Bool) → f ≡ cond c (Some (next_block M (round_up (incoming + outgoing)))) None
          → plan_block m f ≡ cond c (anew m (next_block M (round_up (incoming + outgoing)))) (refuse (Err set_error.NoRoom))
      block m f true e = rw e
      block m f false e = rw e

      go : (e : NodeEntry) → plan_entry g incoming outgoing room e ≡ plan_slots M incoming outgoing room (slots_of_entry e)
      go (node_variants.Free f) = refl
      go (node_variants.Node m) =
          ap (λ (p : Plan). cond (leb (3 * (m.incoming + m.outgoing)) room) (cond (same_counts m incoming outgoing) same (cond (fits_inside m incoming outgoing) (inside m) p)) (refuse (Err set_error.MovesTooShort)))
          (block m (find_block g.port_free g.port_len (round_up (incoming + outgoing))) (block_room M (round_up (incoming + outgoing))) (block_found_lem good holds (round_up (incoming + outgoing))))

  -- the call does what the plan says
  pub set_law : set_num_ports g n incoming outgoing room ≡ set_by g n incoming outgoing (plan_where M incoming outgoing room (leb (incoming + outgoing) node_ports) (M.node n))
  unfolding set_num_ports_under
  set_law = ap (set_by g n incoming outgoing) plan_law

  -- Case by case.

  pub set_too_many : node_ports < incoming + outgoing → set_num_ports g n incoming outgoing room ≡ record { graph = g; answer = Err set_error.TooManyPorts }
  set_too_many h = set_law ∙ ap (λ (b : Bool). set_by g n incoming outgoing (plan_where M incoming outgoing room b (M.node n))) (lt-leb (incoming + outgoing) node_ports h)

  module _ (few : incoming + outgoing ≤ node_ports) where
    set_few : (s : Slots) → M.node n ≡ s → set_num_ports g n incoming outgoing room ≡ set_by g n incoming outgoing (plan_slots M incoming outgoing room s)
    set_few s e =
        set_law
        ∙ (ap (λ (b : Bool). set_by g n incoming outgoing (plan_where M incoming outgoing room b (M.node n))) (le-leb (incoming + outgoing) node_ports few)
        ∙ ap (λ (v : Slots). set_by g n incoming outgoing (plan_slots M incoming outgoing room v)) e)

    pub set_unknown : M.node n ≡ gone → set_num_ports g n incoming outgoing room ≡ record { graph = g; answer = Err set_error.UnknownNode }
    set_unknown e = set_few gone e

    module _ (m : NodeMeta) (here : M.node n ≡ live m) where
      pub set_moves_too_short : room < 3 * (m.incoming + m.outgoing) → set_num_ports g n incoming outgoing room ≡ record { graph = g; answer = Err set_error.MovesTooShort }
      set_moves_too_short h = set_few (live m) here ∙ rw (lt-leb (3 * (m.incoming + m.outgoing)) room h)

      module _ (told : 3 * (m.incoming + m.outgoing) ≤ room) where
        set_told : (a b c : Bool) → same_counts m incoming outgoing ≡ a → fits_inside m incoming outgoing ≡ b → block_room M (round_up (incoming + outgoing)) ≡ c
            → set_num_ports g n incoming outgoing room ≡ set_by g n incoming outgoing (plan_live M incoming outgoing m a b c)
        set_told a b c p q r = set_few (live m) here ∙ rw (le-leb (3 * (m.incoming + m.outgoing)) room told, p, q, r)

        -- equal counts change nothing
        pub set_same : incoming ≡ m.incoming → outgoing ≡ m.outgoing → set_num_ports g n incoming outgoing room ≡ record { graph = g; answer = Ok 0 }
        set_same e f = set_told true _ _ (same_counts_lem m incoming outgoing e f) refl refl

        module _ (other : incoming ≡ m.incoming → outgoing ≡ m.outgoing → ⊥) where
          -- a total from 1 to capacity - 1
          pub set_inside : 0 < incoming + outgoing → incoming + outgoing < m.capacity
              → set_num_ports g n incoming outgoing room ≡ record { graph = resize_inside g n m incoming outgoing; answer = Ok (dropped m incoming outgoing + kept_outgoing m outgoing) }
          set_inside h k = set_told false true _ (other_counts m incoming outgoing other) (fits_so m incoming outgoing h k) refl

          module _ (away : 0 < incoming + outgoing → incoming + outgoing < m.capacity → ⊥) where
            pub set_no_room : port_slots < M.port_len + growth (round_up (incoming + outgoing)) (M.free_blocks (round_up (incoming + outgoing)))
                → set_num_ports g n incoming outgoing room ≡ record { graph = g; answer = Err set_error.NoRoom }
            set_no_room h = set_told false false false (other_counts m incoming outgoing other) (fits_not m incoming outgoing away) (lt-leb _ port_slots h)

            pub set_anew : M.port_len + growth (round_up (incoming + outgoing)) (M.free_blocks (round_up (incoming + outgoing))) ≤ port_slots
                → set_num_ports g n incoming outgoing room
                ≡ record {
                  graph = resize_anew g n m incoming outgoing (next_block M (round_up (incoming + outgoing))) (round_up (incoming + outgoing));
                  answer = Ok (dropped m incoming outgoing + (kept_incoming m incoming + kept_outgoing m outgoing));
                }
            set_anew h = set_told false false true (other_counts m incoming outgoing other) (fits_not m incoming outgoing away) (le-leb _ port_slots h)

-- What a plan can be.

-- what holds of every refusal, of an unchanged graph, and of both ways to change it, holds of the plan
plan_elim {ℓ} : (P : Plan → Type ℓ) (g : PortGraph) (n incoming outgoing room : ℕ)
    → P (refuse (Err set_error.TooManyPorts)) → P (refuse (Err set_error.UnknownNode)) → P (refuse (Err set_error.MovesTooShort)) → P (refuse (Err set_error.NoRoom)) → P same
    → ((m : NodeMeta) → entry_at g n ≡ node_variants.Node m → 3 * (m.incoming + m.outgoing) ≤ room → fits_inside m incoming outgoing ≡ true → P (inside m))
    → ((m : NodeMeta) (first : ℕ) → incoming + outgoing ≤ node_ports → entry_at g n ≡ node_variants.Node m → 3 * (m.incoming + m.outgoing) ≤ room
    → find_block g.port_free g.port_len (round_up (incoming + outgoing)) ≡ Some first → P (anew m first))
    → P (plan_of g n incoming outgoing room)
unfolding plan_of_under
plan_elim P g n incoming outgoing room many unknown short full none within away = few (leb (incoming + outgoing) node_ports) refl
  where
    block : incoming + outgoing ≤ node_ports → (m : NodeMeta) → entry_at g n ≡ node_variants.Node m → 3 * (m.incoming + m.outgoing) ≤ room → (f : Option ℕ)
        → find_block g.port_free g.port_len (round_up (incoming + outgoing)) ≡ f → P (plan_block m f)
    block h m e k (Some first) q = away m first h e k q
    block h m e k None q = full

    counts : incoming + outgoing ≤ node_ports → (m : NodeMeta) → entry_at g n ≡ node_variants.Node m → 3 * (m.incoming + m.outgoing) ≤ room
        → (a b : Bool) → fits_inside m incoming outgoing ≡ b
        → P (cond a same (cond b (inside m) (plan_block m (find_block g.port_free g.port_len (round_up (incoming + outgoing))))))
    counts h m e k true b q = none
    counts h m e k false true q = within m e k q
    counts h m e k false false q = block h m e k (find_block g.port_free g.port_len (round_up (incoming + outgoing))) refl

    told : incoming + outgoing ≤ node_ports → (m : NodeMeta) → entry_at g n ≡ node_variants.Node m → (b : Bool) → leb (3 * (m.incoming + m.outgoing)) room ≡ b
        → P (cond b (plan_counts g m incoming outgoing) (refuse (Err set_error.MovesTooShort)))
    told h m e true q = counts h m e (leb-true _ _ q) (same_counts m incoming outgoing) (fits_inside m incoming outgoing) refl
    told h m e false q = short

    entry : incoming + outgoing ≤ node_ports → (e : NodeEntry) → entry_at g n ≡ e → P (plan_entry g incoming outgoing room e)
    entry h (node_variants.Free f) e = unknown
    entry h (node_variants.Node m) e = told h m e (leb (3 * (m.incoming + m.outgoing)) room) refl

    few : (b : Bool) → leb (incoming + outgoing) node_ports ≡ b → P (cond b (plan_entry g incoming outgoing room (entry_at g n)) (refuse (Err set_error.TooManyPorts)))
    few true q = entry (leb-true _ _ q) (entry_at g n) refl
    few false q = many

-- A well-formed graph stays one.

module _ (g : PortGraph) (n incoming outgoing : ℕ) (w : Wf g) where
  wf_inside : (m : NodeMeta) → entry_at g n ≡ node_variants.Node m → fits_inside m incoming outgoing ≡ true → Wf (resize_inside g n m incoming outgoing)
  wf_inside m e f =
      let here : w.model.node n ≡ live m = node_of_entry g w n m e in
      let fit = fits_below m incoming outgoing f in
      record {
        model = resize_model w.model n m incoming outgoing;
        good = good_resize w.good n m here incoming outgoing fit;
        holds = inside_holds w.good w.holds n m here incoming outgoing fit;
      }

  wf_anew : (m : NodeMeta) (first : ℕ) → incoming + outgoing ≤ node_ports → entry_at g n ≡ node_variants.Node m
      → find_block g.port_free g.port_len (round_up (incoming + outgoing)) ≡ Some first → Wf (resize_anew g n m incoming outgoing first (round_up (incoming + outgoing)))
  wf_anew m first few e f = go (block_room w.model size) refl (sym (block_found_lem w.good w.holds size) ∙ f)
    where
      size : ℕ
      size = round_up (incoming + outgoing)

      go : (b : Bool) → block_room w.model size ≡ b → cond b (Some (next_block w.model size)) None ≡ Some first → Wf (resize_anew g n m incoming outgoing first size)
      go true q k =
          let here : w.model.node n ≡ live m = node_of_entry g w n m e in
          let at_next : next_block w.model size ≡ first = cc in
          let fit = round_up_reaches (incoming + outgoing) in
          let some = round_up_positive (incoming + outgoing) in
          let small = round_up_fits (incoming + outgoing) few in
          let room = leb-true (w.model.port_len + growth size (w.model.free_blocks size)) port_slots q in
          subst (λ (b : ℕ). Wf (resize_anew g n m incoming outgoing b size)) at_next
          (record {
            model = move_model w.model n m incoming outgoing size;
            good = good_move w.good n m here incoming outgoing size fit some small room;
            holds = anew_holds w.good w.holds n m here incoming outgoing size fit some small room;
          })
      go false q k = absurd (zero_is_not_one (cc))

pub wf_set : (g : PortGraph) (n incoming outgoing room : ℕ) → Wf g → Wf (set_num_ports g n incoming outgoing room).graph
unfolding set_num_ports_under
wf_set g n incoming outgoing room w =
    plan_elim (λ p. Wf (set_by g n incoming outgoing p).graph) g n incoming outgoing room w w w w w
    (λ m e k f. wf_inside g n incoming outgoing w m e f)
    (λ m first few e k f. wf_anew g n incoming outgoing w m first few e f)

-- Events.

length_move_down_events : (old new n : ℕ) → length (move_down_events old new n) ≡ 3 * n
unfolding move_down_events
length_move_down_events old new zero = refl
length_move_down_events old new (suc n) = let h = length_move_down_events old new n in omega arith

length_shift_events : (b : Bool) (old new n : ℕ) → length (shift_events b old new n) ≡ 3 * n
unfolding shift_events
length_shift_events true old new n = length_move_up_events old new n
length_shift_events false old new n = length_move_down_events old new n

-- the number of events that an answer says
abbrev pub events_of : Result ℕ SetError → ℕ
events_of (Ok events) = events
events_of (Err set_error.TooManyPorts) = 0
events_of (Err set_error.UnknownNode) = 0
events_of (Err set_error.MovesTooShort) = 0
events_of (Err set_error.NoRoom) = 0

module _ (g : PortGraph) (n incoming outgoing room : ℕ) where
  -- three numbers for each event
  pub told_length : length (told_by g incoming outgoing (plan_of g n incoming outgoing room)) ≡ 3 * events_of (set_num_ports g n incoming outgoing room).answer
  unfolding set_num_ports_under inside_told anew_told
  told_length =
      plan_elim (λ p. length (told_by g incoming outgoing p) ≡ 3 * events_of (set_by g n incoming outgoing p).answer) g n incoming outgoing room refl refl refl refl refl
      (λ m e k f.
      let a = length_drop_told g.port_link m incoming outgoing in
      let b = length_shift_events (ltb incoming m.incoming) (first_slot m + m.incoming) (first_slot m + incoming) (kept_outgoing m outgoing) in
      length-append (drop_told g.port_link m incoming outgoing) _ ∙ omega arith)
      (λ m first few e k f.
      let a = length_drop_told g.port_link m incoming outgoing in
      let b = length_move_up_events (first_slot m) first (kept_incoming m incoming) in
      let c = length_move_up_events (first_slot m + m.incoming) (first + incoming) (kept_outgoing m outgoing) in
      let d = length-append (move_up_events (first_slot m) first (kept_incoming m incoming)) (move_up_events (first_slot m + m.incoming) (first + incoming) (kept_outgoing m outgoing)) in
      length-append (drop_told g.port_link m incoming outgoing) _ ∙ omega arith)

  -- a claim that nothing below cites: at most one event for each port that the node had
  pub events_few : (m : NodeMeta) → entry_at g n ≡ node_variants.Node m → events_of (set_num_ports g n incoming outgoing room).answer ≤ m.incoming + m.outgoing
  unfolding set_num_ports_under
  events_few m e =
      plan_elim (λ p. events_of (set_by g n incoming outgoing p).answer ≤ m.incoming + m.outgoing) g n incoming outgoing room
      (omega arith) (omega arith) (omega arith) (omega arith) (omega arith)
      (λ l d k f. let same : l ≡ m = cc in subst (λ (r : NodeMeta). dropped l incoming outgoing + kept_outgoing l outgoing ≤ r.incoming + r.outgoing) same (omega arith))
      (λ l first few d k f. let same : l ≡ m = cc in subst (λ (r : NodeMeta). dropped l incoming outgoing + (kept_incoming l incoming + kept_outgoing l outgoing) ≤ r.incoming + r.outgoing) same (omega arith))

  -- the events fit the move list
  pub events_fit : 3 * events_of (set_num_ports g n incoming outgoing room).answer ≤ room
  unfolding set_num_ports_under
  events_fit =
      plan_elim (λ p. 3 * events_of (set_by g n incoming outgoing p).answer ≤ room) g n incoming outgoing room
      (omega arith) (omega arith) (omega arith) (omega arith) (omega arith)
      (λ l d k f. omega arith) (λ l first few d k f. omega arith)

-- The move list.

get_d_sets_past : (vs l : List ℕ) (i k : ℕ) → i + length vs ≤ k → get_or (sets l i vs) k 0 ≡ get_or l k 0
get_d_sets_past [] l i k h = refl
get_d_sets_past (v ∷ vs) l i k h = get_d_sets_past vs (set l i v) (suc i) k (omega arith) ∙ get_or-set_other l i k v 0 (λ e. omega arith)

module _ (g : PortGraph) (n incoming outgoing : ℕ) (moves : List ℕ) where
  pub moves_length : length (moves_after g n incoming outgoing moves) ≡ length moves
  unfolding moves_after_under
  moves_length = length-sets moves 0 (told_by g incoming outgoing (plan_of g n incoming outgoing (length moves)))

  -- past the last event the numbers stay
  pub moves_kept : (i : ℕ) → 3 * events_of (set_num_ports g n incoming outgoing (length moves)).answer ≤ i → get_or (moves_after g n incoming outgoing moves) i 0 ≡ get_or moves i 0
  unfolding moves_after_under
  moves_kept i h =
      let long = told_length g n incoming outgoing (length moves) in
      get_d_sets_past (told_by g incoming outgoing (plan_of g n incoming outgoing (length moves))) moves 0 i (omega arith)

  -- the list starts with the events
  pub told_first : take (3 * events_of (set_num_ports g n incoming outgoing (length moves)).answer) (moves_after g n incoming outgoing moves) ≡ told_by g incoming outgoing (plan_of g n incoming outgoing (length moves))
  unfolding moves_after_under
  told_first =
      let long = told_length g n incoming outgoing (length moves) in
      let fit = events_fit g n incoming outgoing (length moves) in
      ap (take (3 * events_of (set_num_ports g n incoming outgoing (length moves)).answer)) (sets-eq (told_by g incoming outgoing (plan_of g n incoming outgoing (length moves))) moves 0 (omega arith))
      ∙ take_at (told_by g incoming outgoing (plan_of g n incoming outgoing (length moves))) _ _ long

-- A kept port keeps its link.

-- a place is of another node, or below the new count of its side
abbrev pub Kept : ℕ → ℕ → ℕ → InnerPlace → Type 0
Kept n incoming outgoing x = x.node ≡ n → x.pos < new_count incoming outgoing x.side

-- such a place is not dropped
pub kept_stays : (n incoming outgoing : ℕ) (x : InnerPlace) → Kept n incoming outgoing x → beyond n incoming outgoing x ≡ false
kept_stays n incoming outgoing x h = go (eqb x.node n) refl
  where
    go : (b : Bool) → eqb x.node n ≡ b → cond b (leb (new_count incoming outgoing x.side) x.pos) false ≡ false
    go true e = lt-leb (new_count incoming outgoing x.side) x.pos (h (eqb-true _ _ e))
    go false e = refl

pub kept_link : (join : InnerPlace → Far) (n incoming outgoing : ℕ) (x y : InnerPlace) → join x ≡ to y → Kept n incoming outgoing x → Kept n incoming outgoing y → drop_join (beyond n incoming outgoing) join x ≡ to y
kept_link join n incoming outgoing x y e h k = drop_kept (beyond n incoming outgoing) join x y e (kept_stays n incoming outgoing x h) (kept_stays n incoming outgoing y k)

module _ {g : PortGraph} {M : Model} (good : Good M) (holds : Holds g M) (n : ℕ) (m : NodeMeta) (here : M.node n ≡ live m) (incoming outgoing : ℕ)
    (x y : InnerPlace) (linked : M.join x ≡ to y) (keptX : Kept n incoming outgoing x) (keptY : Kept n incoming outgoing y) where
  pub kept_link_inside : incoming + outgoing ≤ m.capacity
      → at (resize_inside g n m incoming outgoing).port_link (slot_of (resize_model M n m incoming outgoing).node x) ≡ suc (slot_of (resize_model M n m incoming outgoing).node y)
  kept_link_inside fit =
      let still = kept_link M.join n incoming outgoing x y linked keptX keptY in
      let good' = good_resize good n m here incoming outgoing fit in
      link_to good' (inside_holds good holds n m here incoming outgoing fit) x y (good'.join_valid x y still) still

  pub kept_link_anew : (size : ℕ) → incoming + outgoing ≤ size → 0 < size → size ≤ node_ports → M.port_len + growth size (M.free_blocks size) ≤ port_slots
      → at (resize_anew g n m incoming outgoing (next_block M size) size).port_link (slot_of (move_model M n m incoming outgoing size).node x) ≡ suc (slot_of (move_model M n m incoming outgoing size).node y)
  kept_link_anew size fit some small room =
      let still = kept_link M.join n incoming outgoing x y linked keptX keptY in
      let good' = good_move good n m here incoming outgoing size fit some small room in
      link_to good' (anew_holds good holds n m here incoming outgoing size fit some small room) x y (good'.join_valid x y still) still

-- A node that has the most ports, beside another node's port: no block is free for one port more, nor does one fit.
pub none_beyond : {M : Model} → Good M → (n : ℕ) (m : NodeMeta) → M.node n ≡ live m → (x : InnerPlace) → Valid M.node x → (x.node ≡ n → ⊥)
    → (total : ℕ) → node_ports < total → total ≤ suc (m.incoming + m.outgoing) → port_slots < M.port_len + growth (round_up total) (M.free_blocks (round_up total))
none_beyond {M} good n m here x valid apart total many few = go (M.free_blocks (round_up total)) refl
  where
    large : 2 * node_ports ≤ round_up total
    large = round_up_beyond total many

    used : node_ports < M.port_len
    used =
        let r = slot_in_block good x valid in
        beside r.0 r.1 r.2 (leb m.first_port.0 s) (ltb s (m.first_port.0 + m.capacity)) refl refl
      where
        s : ℕ
        s = slot_of M.node x

        beside : (k : NodeMeta) → M.node x.node ≡ live k → Within k.first_port.0 k.capacity s
            → (a b : Bool) → leb m.first_port.0 s ≡ a → ltb s (m.first_port.0 + m.capacity) ≡ b → node_ports < M.port_len
        beside k e w true true p q =
            absurd (apart (block_of_one good x.node n k m s e here w (leb-true m.first_port.0 s p, ltb-true s (m.first_port.0 + m.capacity) q)))
        beside k e w true false p q =
            let far = ltb-false s (m.first_port.0 + m.capacity) q in
            let ends = good.block_ends x.node k e in
            let ports = good.ports_in_block n m here in
            let inside = w.1 in
            omega arith
        beside k e w false b p q =
            let near = leb-false m.first_port.0 s p in
            let ends = good.block_ends n m here in
            let ports = good.ports_in_block n m here in
            omega arith

    go : (l : List ℕ) → M.free_blocks (round_up total) ≡ l → port_slots < M.port_len + growth (round_up total) l
    go [] e = let a = large in let b = used in let c = no_double_block in omega arith
    go (b ∷ l) e = absurd (let a = large in let q = (good.idle_ends (round_up total) b (subst (Member b) (sym e) (inl refl))).1 in omega arith)
