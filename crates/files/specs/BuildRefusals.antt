-- When the build of a view is refused: the first block or wire that is not to be had, and why.
use Rattle.std.specs.Prelude.{◌≡◌, refl, ◌⊎◌, ◌↔◌, ℕ, suc, ◌+◌, ◌≤◌, ◌<◌, length, Result, Ok, Err, is_ok}
use Rattle.std.proofs.Common.{sym, ◌∙◌, arith, length-append}
use Rattle.std.proofs.Math.Path.{ap, subst}
use mathlib.Core.List.{List, [], ◌∷◌, ◌++◌, map, map-append}
use Rattle.std.proofs.Math.Logic.{inl, inr, ⊎_elim}
use Rattle.port_tables.specs.Limits.{node_slots, port_slots, node_ports}
use Rattle.port_tables.specs.Lists.{Member}
use Rattle.portgraph.specs.Model.{Model}
use Rattle.portgraph.specs.Meaning.{growth}
use Rattle.portgraph.specs.GoodLaws.{empty_model}
use Rattle.port_tables.specs.declared.direction.Direction.TheVariants.{Incoming, Outgoing}
use Rattle.multiportgraph.specs.Calls.{add_block, link_pair}
use Rattle.multiportgraph.specs.Graph.{empty_graph}
use Rattle.multiportgraph.specs.WellFormed.{inner#}
use Rattle.port_tables.specs.Listing.{member_left, member_right}
use Rattle.port_tables.specs.Places.{Wire}
use Rattle.multiportgraph.specs.LinkCutLaws.{fine_empty}
use Rattle.multiportgraph.specs.SpaceLaws.{link_space}
use Rattle.port_tables.specs.declared.release.Release.{Release}
use Rattle.port_tables.specs.declared.release.Release.TheVariants.{Two}
use Rattle.multiportgraph.specs.declared.multiportgraph.NodeAdded.{NodeAdded}
use Rattle.multi_tables.specs.declared.answers.Refusal.{Refusal}
use Rattle.multi_tables.specs.declared.answers.Refusal.TheVariants.{TooManyPorts, NoRoom, InputWired}
use Rattle.theorems.specs.Book.{Call, AnswerOf, empty_book}
use Rattle.theorems.specs.History.{State, next, run_from, run_from_under, run, run_under, step}
use Rattle.theorems.specs.Runs.{run_append}
use Rattle.theorems.specs.Conditions.{RefusedBy, OfBlock, NoSlot, NoBlock, Taken, AddRefused, add_many, add_full}
use Rattle.theorems.proofs.AddCall.{add_refuses, add_refused}
use Rattle.theorems.specs.Claims.{count}
use Rattle.theorems.proofs.WireRule.{Rel}
use Rattle.theorems.proofs.CallLaws.{rel_run}
use Rattle.theorems.proofs.ReleaseRuns.{release_kept}
use Rattle.files.specs.View.{BlockPorts, RankWire, View}
use Rattle.files.specs.Loading.{first_port, out_port, in_port, add_of, link_of, build_of, after_call, first_refusal, first_refusal_under}
use Rattle.files.specs.Claims.{same_wire, how_many, Sound}
use Rattle.files.specs.LoadClaims.{with_first, SameInput, SharesInput, BuildRefused, build_many, build_no_block, build_wired, build_no_wire}
use Rattle.files.specs.NextSlots.{NoFree, none_free_at_first, AddsLaid, adds_laid, next_slots}
use Rattle.files.specs.BuildLaws.{goes_or_stops, refused_not_loaded, loaded_or_refused, refusal_after, first_refused, accepted_apart, Runs, HasAll, source_port, target_port, links_entered, sound_runs}
use Rattle.files.specs.InputLaws.{plain, link_refusals, taken_refused, taken_by, by_taken}
use Rattle.files.specs.declared.load.LoadError.{LoadError}
use Rattle.files.specs.declared.load.LoadError.TheVariants.{Refused}
use Rattle.port_tables.specs.declared.index.NodeIndex.{NodeIndex}
use Rattle.port_tables.specs.declared.index.PortIndex.{PortIndex}
use Rattle.multi_tables.specs.declared.answers.SubportIndex.{SubportIndex}

-- The first refusal of a list.

same_refusal : {r t : Refusal} → ◌≡◌ {A = Result (Unit {0}) LoadError} (Err (Refused r)) (Err (Refused t)) → r ≡ t
same_refusal e = cc

refused_apart : (s : State) (a b : List Call) (r : Refusal) → first_refusal s.graph (a ++ b) ≡ Err (Refused r) →
    (first_refusal s.graph a ≡ Err (Refused r)) ⊎ ((first_refusal s.graph a ≡ Ok tt) × (first_refusal (run_from s a).graph b ≡ Err (Refused r)))
refused_apart s a b r e =
    ⊎_elim
    (λ k. inr (k, sym (refusal_after s a b k) ∙ e))
    (λ k. inl (sym (first_refused s.graph a b (ap is_ok k.1)) ∙ e))
    (loaded_or_refused a s.graph)

-- the item of a list at which its calls stop
record Stop {A : Type 0} (f : A → Call) (s : State) (xs : List A) (r : Refusal) : Type 0 where
  pub first : List A
  pub item : A
  pub later : List A
  pub is : xs ≡ first ++ (item ∷ later)
  pub accepted : first_refusal s.graph (map f first) ≡ Ok tt
  pub refused : RefusedBy (f item) (step (run_from s (map f first)).graph (f item)).answer r

module _ {A : Type 0} (f : A → Call) where
  first_stop : (xs : List A) (s : State) (r : Refusal) → first_refusal s.graph (map f xs) ≡ Err (Refused r) → Stop f s xs r
  unfolding first_refusal_under run_from_under
  first_stop [] s r e = absurd (refused_not_loaded r (sym e))
  first_stop (x ∷ xs) s r e =
      ⊎_elim
      (λ goes.
      let t = first_stop xs (next s (f x)) r (sym (goes _) ∙ e) in
      record {
        first = x ∷ t.first;
        item = t.item;
        later = t.later;
        is = ap (λ (l : List A). x ∷ l) t.is;
        accepted = goes _ ∙ t.accepted;
        refused = t.refused;
      })
      (λ stops.
      record {
        first = [];
        item = x;
        later = xs;
        is = refl;
        accepted = refl;
        refused = subst (RefusedBy (f x) (step s.graph (f x)).answer) (same_refusal (sym (stops.2 _) ∙ e)) stops.1;
      })
      (goes_or_stops (f x) (step s.graph (f x)).answer)

  stop_refuses : ((x : A) (v : AnswerOf (f x)) (r : Refusal) → RefusedBy (f x) v r → (rest : Result (Unit {0}) LoadError) → after_call (f x) v rest ≡ Err (Refused r)) →
      (xs : List A) (s : State) (r : Refusal) → Stop f s xs r → first_refusal s.graph (map f xs) ≡ Err (Refused r)
  unfolding first_refusal_under
  stop_refuses stops xs s r t =
      ap (λ (l : List A). first_refusal s.graph (map f l)) t.is
      ∙ (ap (first_refusal s.graph) (map-append f t.first (t.item ∷ t.later))
      ∙ (refusal_after s (map f t.first) (map f (t.item ∷ t.later)) t.accepted ∙ stops t.item _ r t.refused _))

add_stops : (b : BlockPorts) (v : Result (NodeIndex × PortIndex) Refusal) (r : Refusal) → v ≡ Err r → (rest : Result (Unit {0}) LoadError) → after_call (add_of b) v rest ≡ Err (Refused r)
add_stops b v r e rest = ap (λ (a : Result (NodeIndex × PortIndex) Refusal). after_call (add_of b) a rest) e

link_stops : (bs : List BlockPorts) (w : RankWire) (v : Result (SubportIndex × SubportIndex) Refusal) (r : Refusal) → v ≡ Err r → (rest : Result (Unit {0}) LoadError) → after_call (link_of bs w) v rest ≡ Err (Refused r)
link_stops bs w v r e rest = ap (λ (a : Result (SubportIndex × SubportIndex) Refusal). after_call (link_of bs w) a rest) e

abbrev start : Release → State
start release = record { graph = empty_graph release; book = empty_book }

-- Blocks.

-- the slots that are left after adds
module _ {M : Model} {n p : ℕ} (h : NoFree M n p) (size : ℕ) where
  slot_ends : NoSlot M → node_slots < suc n
  slot_ends k = let a = ap (growth 1) h.nodes in let b = h.node_len in omega arith

  ends_slot : node_slots < suc n → NoSlot M
  ends_slot k = let a = ap (growth 1) h.nodes in let b = h.node_len in omega arith

  block_ends : NoBlock M size → port_slots < p + size
  block_ends k = let a = ap (growth size) (h.blocks size) in let b = h.port_len in omega arith

  ends_block : port_slots < p + size → NoBlock M size
  ends_block k = let a = ap (growth size) (h.blocks size) in let b = h.port_len in omega arith

module _ (release : Release) (first : List BlockPorts) (b : BlockPorts) (e : first_refusal (empty_graph release) (map add_of first) ≡ Ok tt) where
  before : AddsLaid (start release) 0 0 first
  before = adds_laid first (start release) empty_model 0 0 (fine_empty release) none_free_at_first e

  after : NoFree before.model (length first) (first_port first (length first))
  after =
      let h = before.none in
      record {
        nodes = h.nodes;
        blocks = h.blocks;
        node_len = let k = h.node_len in omega arith;
        port_len = let k = h.port_len in omega arith;
      }

  -- why an add is refused
  abbrev AddEnds : Type 0
  AddEnds = (node_slots < suc (length first)) ⊎ (port_slots < first_port first (length first) + (b.incoming + b.outgoing))

  pub add_ends : (r : Refusal) → (add_block (run_from (start release) (map add_of first)).graph b.incoming b.outgoing).answer ≡ Err r →
      ((r ≡ TooManyPorts) × (node_ports < b.incoming + b.outgoing)) ⊎ ((r ≡ NoRoom) × (b.incoming + b.outgoing ≤ node_ports) × AddEnds)
  add_ends r k = go r (add_refused before.fine b.incoming b.outgoing r k)
    where
      go : (r : Refusal) → AddRefused before.model b.incoming b.outgoing r →
          ((r ≡ TooManyPorts) × (node_ports < b.incoming + b.outgoing)) ⊎ ((r ≡ NoRoom) × (b.incoming + b.outgoing ≤ node_ports) × AddEnds)
      go r (add_many h) = inl (refl, h)
      go r (add_full h (inl k)) = inr (refl, h, inl (slot_ends after 0 k))
      go r (add_full h (inr k)) = inr (refl, h, inr (block_ends after (b.incoming + b.outgoing) k))

  many_refused : node_ports < b.incoming + b.outgoing → (add_block (run_from (start release) (map add_of first)).graph b.incoming b.outgoing).answer ≡ Err TooManyPorts
  many_refused h = ap (λ (v : NodeAdded). v.answer) (add_refuses before.fine b.incoming b.outgoing TooManyPorts (add_many h))

  ends_refused : b.incoming + b.outgoing ≤ node_ports → AddEnds → (add_block (run_from (start release) (map add_of first)).graph b.incoming b.outgoing).answer ≡ Err NoRoom
  ends_refused h k =
      ap (λ (v : NodeAdded). v.answer)
      (add_refuses before.fine b.incoming b.outgoing NoRoom
      (add_full h (⊎_elim (λ z. inl (ends_slot after 0 z)) (λ z. inr (ends_block after (b.incoming + b.outgoing) z)) k)))

-- Wires.

-- the build with the first wires only
module _ (release : Release) (v : View) (first : List RankWire) where
  part_is : run release (build_of (with_first v first)) ≡ run_from (run release (map add_of v.blocks)) (map (link_of v.blocks) first)
  unfolding build_of
  part_is = run_append release (map add_of v.blocks) (map (link_of v.blocks) first)

  part_apart : first_refusal (empty_graph release) (build_of (with_first v first)) ≡ Ok tt →
      (first_refusal (empty_graph release) (map add_of v.blocks) ≡ Ok tt) × (first_refusal (run release (map add_of v.blocks)).graph (map (link_of v.blocks) first) ≡ Ok tt)
  unfolding build_of run_under
  part_apart e = accepted_apart (start release) (map add_of v.blocks) (map (link_of v.blocks) first) e

  part_accepted : first_refusal (empty_graph release) (map add_of v.blocks) ≡ Ok tt →
      first_refusal (run release (map add_of v.blocks)).graph (map (link_of v.blocks) first) ≡ Ok tt → first_refusal (empty_graph release) (build_of (with_first v first)) ≡ Ok tt
  unfolding build_of run_under
  part_accepted a b = refusal_after (start release) (map add_of v.blocks) (map (link_of v.blocks) first) a ∙ b

-- its book has all blocks, and these wires
record PartBuilt (release : Release) (v : View) (first : List RankWire) : Type 0 where
  pub has : HasAll v.blocks (run release (build_of (with_first v first))).book
  pub entered : (z : RankWire) → count (λ (x : Wire). same_wire (plain x) z) (run release (build_of (with_first v first))).book.wires ≡ how_many same_wire z first

part_built : (release : Release) (v : View) (first : List RankWire) → ((w : RankWire) → Member w first → Runs v.blocks w) →
    first_refusal (empty_graph release) (build_of (with_first v first)) ≡ Ok tt → PartBuilt release v first
part_built release v first runs e =
    let a = part_apart release v first e in
    let s = next_slots release v.blocks a.0 in
    let r = rel_run release (map add_of v.blocks) in
    let l = links_entered v.blocks (λ k. k) (λ k i. refl) first runs (run release (map add_of v.blocks)) r.0 r.1 s.has a.1 in
    record {
      has = λ n b h. subst (Member _) (sym (ap (λ (s : State). s.book.blocks) (part_is release v first) ∙ l.blocks)) (s.has n b h);
      entered = λ z.
          let c = ap (λ (s : State). count (λ (x : Wire). same_wire (plain x) z) s.book.wires) (part_is release v first) in
          let d = l.wires z in
          let n = ap (count (λ (x : Wire). same_wire (plain x) z)) s.unwired in
          omega arith;
    }

-- a wire after the first ones, which are all accepted
module _ (release : Release) (v : View) (sound : Sound v) (first : List RankWire) (w : RankWire) (later : List RankWire) (is : v.wires ≡ first ++ (w ∷ later))
    (e : first_refusal (empty_graph release) (build_of (with_first v first)) ≡ Ok tt) where
  abbrev state : State
  state = run release (build_of (with_first v first))

  runs : (x : RankWire) → Member x (first ++ (w ∷ later)) → Runs v.blocks x
  runs x i = sound_runs v sound x (subst (Member x) (sym is) i)

  here : Runs v.blocks w
  here = runs w (member_right w first (w ∷ later) (inl refl))

  rel : Rel state.graph (rel_run release (build_of (with_first v first))).0 state.book
  rel = (rel_run release (build_of (with_first v first))).1

  part : PartBuilt release v first
  part = part_built release v first (λ x i. runs x (member_left x first (w ∷ later) i)) e

  from : OfBlock state.graph (rel_run release (build_of (with_first v first))).0 (out_port v.blocks w) (inner# w.source Outgoing w.output)
  from = source_port rel v.blocks part.has w here

  into : OfBlock state.graph (rel_run release (build_of (with_first v first))).0 (in_port v.blocks w) (inner# w.target Incoming w.input)
  into = target_port rel v.blocks part.has w here

  abbrev TakenHere : Type 0
  TakenHere = Taken state.graph (rel_run release (build_of (with_first v first))).0 (out_port v.blocks w) (in_port v.blocks w)

  -- it is refused with 18 or for space,
  wire_refusals : (r : Refusal) → (link_pair state.graph (out_port v.blocks w) (in_port v.blocks w)).answer ≡ Err r → (TakenHere × (r ≡ InputWired)) ⊎ (r ≡ NoRoom)
  wire_refusals = link_refusals rel (out_port v.blocks w) (in_port v.blocks w) w.source w.output w.target w.input from into

  -- with 18 exactly where one of the first ends at its input, for release 2
  taken_wire : TakenHere → (release ≡ Two) × (u : RankWire) × Member u first × SameInput u w
  taken_wire h =
      let k = taken_by rel (out_port v.blocks w) (in_port v.blocks w) w.source w.output w.target w.input from into first part.entered h in
      (sym (release_kept release (build_of (with_first v first))) ∙ k.0, k.1.0, k.1.1, (k.1.2, k.1.3))

  shared_refused : release ≡ Two → (u : RankWire) → Member u first → SameInput u w →
      (link_pair state.graph (out_port v.blocks w) (in_port v.blocks w)).answer ≡ Err InputWired
  shared_refused two u i (p, q) =
      taken_refused rel (out_port v.blocks w) (in_port v.blocks w) w.source w.output w.target w.input from into
      (by_taken rel (out_port v.blocks w) (in_port v.blocks w) w.source w.output w.target w.input from into first part.entered
      (release_kept release (build_of (with_first v first)) ∙ two) u i p q)

-- The build.

module _ (release : Release) (v : View) where
  -- what is refused is a block or a wire
  build_stops : (r : Refusal) → first_refusal (empty_graph release) (build_of v) ≡ Err (Refused r) →
      Stop add_of (start release) v.blocks r
      ⊎ ((first_refusal (empty_graph release) (map add_of v.blocks) ≡ Ok tt) × Stop (link_of v.blocks) (run release (map add_of v.blocks)) v.wires r)
  unfolding build_of run_under
  build_stops r e =
      ⊎_elim (λ k. inl (first_stop add_of v.blocks (start release) r k)) (λ k. inr (k.0, first_stop (link_of v.blocks) v.wires (run release (map add_of v.blocks)) r k.1))
      (refused_apart (start release) (map add_of v.blocks) (map (link_of v.blocks) v.wires) r e)

  stops_build : (r : Refusal) →
      Stop add_of (start release) v.blocks r
      ⊎ ((first_refusal (empty_graph release) (map add_of v.blocks) ≡ Ok tt) × Stop (link_of v.blocks) (run release (map add_of v.blocks)) v.wires r) →
      first_refusal (empty_graph release) (build_of v) ≡ Err (Refused r)
  unfolding build_of run_under
  stops_build r (inl t) =
      let e = stop_refuses add_of add_stops v.blocks (start release) r t in
      first_refused (empty_graph release) (map add_of v.blocks) (map (link_of v.blocks) v.wires) (ap is_ok e) ∙ e
  stops_build r (inr t) =
      refusal_after (start release) (map add_of v.blocks) (map (link_of v.blocks) v.wires) t.0
      ∙ stop_refuses (link_of v.blocks) (link_stops v.blocks) v.wires (run release (map add_of v.blocks)) r t.1

  wire_refused : Sound v → (r : Refusal) → first_refusal (empty_graph release) (map add_of v.blocks) ≡ Ok tt →
      Stop (link_of v.blocks) (run release (map add_of v.blocks)) v.wires r → BuildRefused release v r
  wire_refused sound r a t =
      ⊎_elim
      (λ k.
      let u = taken_wire release v sound t.first t.item t.later t.is e k.0 in
      subst (BuildRefused release v) (sym k.1) (build_wired t.first t.item t.later t.is e u.0 u.1 u.2 u.3))
      (λ k.
      let over = (link_space (rel_run release (build_of (with_first v t.first))).1.fine (out_port v.blocks t.item) (in_port v.blocks t.item)).no_room_iff.0 (said ∙ ap Err k) in
      subst (BuildRefused release v) (sym k) (build_no_wire t.first t.item t.later t.is e over))
      (wire_refusals release v sound t.first t.item t.later t.is e r said)
    where
      e : first_refusal (empty_graph release) (build_of (with_first v t.first)) ≡ Ok tt
      e = part_accepted release v t.first a t.accepted

      said : (link_pair (run release (build_of (with_first v t.first))).graph (out_port v.blocks t.item) (in_port v.blocks t.item)).answer ≡ Err r
      said =
          subst (λ (s : State). (link_pair s.graph (out_port v.blocks t.item) (in_port v.blocks t.item)).answer ≡ Err r)
          (sym (part_is release v t.first)) t.refused

  block_refused : (r : Refusal) → Stop add_of (start release) v.blocks r → BuildRefused release v r
  block_refused r t =
      ⊎_elim
      (λ k. subst (BuildRefused release v) (sym k.0) (build_many t.first t.item t.later t.is t.accepted k.1))
      (λ k. subst (BuildRefused release v) (sym k.0) (build_no_block t.first t.item t.later t.is t.accepted k.1 k.2))
      (add_ends release t.first t.item t.accepted r t.refused)

  -- a wire that is refused after the first ones stops the build
  wire_stops : (first : List RankWire) (w : RankWire) (later : List RankWire) → v.wires ≡ first ++ (w ∷ later) →
      first_refusal (empty_graph release) (build_of (with_first v first)) ≡ Ok tt → (r : Refusal) →
      (link_pair (run release (build_of (with_first v first))).graph (out_port v.blocks w) (in_port v.blocks w)).answer ≡ Err r →
      first_refusal (empty_graph release) (build_of v) ≡ Err (Refused r)
  wire_stops first w later is e r said =
      let a = part_apart release v first e in
      stops_build r
      (inr (
        a.0,
        record {
          first = first;
          item = w;
          later = later;
          is = is;
          accepted = a.1;
          refused = subst (λ (s : State). (link_pair s.graph (out_port v.blocks w) (in_port v.blocks w)).answer ≡ Err r) (part_is release v first) said;
        },
      ))

  -- a build is refused under these conditions,
  refused_if : Sound v → (r : Refusal) → BuildRefused release v r → first_refusal (empty_graph release) (build_of v) ≡ Err (Refused r)
  refused_if sound r (build_many first b later is e h) =
      stops_build TooManyPorts (inl (record { first = first; item = b; later = later; is = is; accepted = e; refused = many_refused release first b e h }))
  refused_if sound r (build_no_block first b later is e h k) =
      stops_build NoRoom (inl (record { first = first; item = b; later = later; is = is; accepted = e; refused = ends_refused release first b e h k }))
  refused_if sound r (build_wired first w later is e two u i same) = wire_stops first w later is e InputWired (shared_refused release v sound first w later is e two u i same)
  refused_if sound r (build_no_wire first w later is e over) =
      wire_stops first w later is e NoRoom ((link_space (rel_run release (build_of (with_first v first))).1.fine (out_port v.blocks w) (in_port v.blocks w)).no_room_iff.1 over)

  -- and under no others: the first block or wire that is not to be had tells the refusal
  pub build_refusals : Sound v → (r : Refusal) → (first_refusal (empty_graph release) (build_of v) ≡ Err (Refused r)) ↔ BuildRefused release v r
  build_refusals sound r = (
    (λ e. ⊎_elim (block_refused r) (λ k. wire_refused sound r k.0 k.1) (build_stops r e)),
    refused_if sound r,
  )

-- where a wire shares its input with one before it the build for release 2 is not accepted
pub shared_stops : (v : View) → Sound v → SharesInput v.wires → first_refusal (empty_graph Two) (build_of v) ≡ Ok tt → ⊥
unfolding build_of run_under
shared_stops v sound s e =
    let ws = s.first ++ (s.wire ∷ s.later) in
    let a = accepted_apart (start Two) (map add_of v.blocks) (map (link_of v.blocks) v.wires) e in
    let l = subst (λ (k : List RankWire). first_refusal (run Two (map add_of v.blocks)).graph (map (link_of v.blocks) k) ≡ Ok tt) s.is a.1 in
    let b =
    accepted_apart (run Two (map add_of v.blocks)) (map (link_of v.blocks) s.first) (map (link_of v.blocks) (s.wire ∷ s.later))
    (ap (first_refusal (run Two (map add_of v.blocks)).graph) (sym (map-append (link_of v.blocks) s.first (s.wire ∷ s.later))) ∙ l) in
    let p = part_accepted Two v s.first a.0 b.0 in
    let r = (build_refusals Two v sound InputWired).1 (build_wired s.first s.wire s.later s.is p refl s.earlier s.before s.same) in
    refused_not_loaded InputWired (sym r ∙ e)

-- refused with 3, with 10 or, for release 2, with 18
pub which_refusal : {release : Release} {v : View} {r : Refusal} → BuildRefused release v r → ((r ≡ TooManyPorts) ⊎ (r ≡ NoRoom)) ⊎ ((r ≡ InputWired) × (release ≡ Two) × SharesInput v.wires)
which_refusal (build_many first b later is e h) = inl (inl refl)
which_refusal (build_no_block first b later is e h k) = inl (inr refl)
which_refusal (build_wired first w later is e two u i same) =
    inr (refl, two, record { first = first; wire = w; later = later; is = is; earlier = u; before = i; same = same })
which_refusal (build_no_wire first w later is e over) = inl (inr refl)

-- Blocks that fit are all added.

ports_with : (a : List BlockPorts) (c : BlockPorts) (b : List BlockPorts) → first_port a (length a) + (c.incoming + c.outgoing) ≤ first_port (a ++ (c ∷ b)) (length (a ++ (c ∷ b)))
unfolding first_port
ports_with [] c b = omega arith
ports_with (d ∷ a) c b = let h = ports_with a c b in omega arith

-- few enough ports each, and room for all
pub record BlocksFit (bs : List BlockPorts) : Type 0 where
  pub few : (b : BlockPorts) → Member b bs → b.incoming + b.outgoing ≤ node_ports
  pub nodes : length bs ≤ node_slots
  pub ports : first_port bs (length bs) ≤ port_slots

pub fitting_added : (release : Release) (bs : List BlockPorts) → BlocksFit bs → first_refusal (empty_graph release) (map add_of bs) ≡ Ok tt
fitting_added release bs h = ⊎_elim (λ e. e) (λ k. absurd (never k.0 (first_stop add_of bs (start release) k.0 k.1))) (loaded_or_refused (map add_of bs) (empty_graph release))
  where
    never : (r : Refusal) → Stop add_of (start release) bs r → ⊥
    never r t =
        ⊎_elim
        (λ k. let m = h.few t.item (subst (Member t.item) (sym t.is) (member_right t.item t.first (t.item ∷ t.later) (inl refl))) in let l = k.1 in omega arith)
        (λ k.
        let n = h.nodes in
        let p = h.ports in
        let a = ap length t.is in
        let b = length-append t.first (t.item ∷ t.later) in
        let c = ports_with t.first t.item t.later in
        let d = ap (λ (l : List BlockPorts). first_port l (length l)) t.is in
        ⊎_elim (λ z. omega arith) (λ z. omega arith) k.2)
        (add_ends release t.first t.item t.accepted r t.refused)
