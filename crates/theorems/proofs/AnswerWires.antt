-- What the calls on wires answer is what the book has: a link answers the ends of the wire that it enters, and a cut or a question
-- answers the other end of the wire at the end named.
-- Statements: link_answers_the_wire, answers_are_wires, linked_ends_are_found; their words stand first.
use Rattle.std.specs.Prelude.{◌≡◌, Bool, true, false, cond, List, ◌∷◌, ℕ, Option, Some, None, Result, Ok, Err}
use Rattle.std.proofs.Math.Path.{refl, sym, ap}
use Rattle.std.proofs.Common.{◌∙◌, subst, inl, arith, lt-ltb}
use Rattle.port_tables.specs.Lists.{Member}
use Rattle.portgraph.specs.Lookups.{port_link}
use Rattle.port_tables.specs.Entries.{port#}
use Rattle.portgraph.specs.Calls.{unlink_port}
use Rattle.portgraph.specs.Model as model
use Rattle.portgraph.specs.Model.{Model, Far, nowhere, to, Slots, slot_of, count_of, first_of, side_start}
use Rattle.portgraph.specs.GoodSlots.{zero_is_not_one}
use Rattle.portgraph.specs.PlaceLaws.{port_link_to, port_link_none}
use Rattle.port_tables.specs.declared.direction.Direction.{Direction}
use Rattle.port_tables.specs.declared.direction.Direction.TheVariants.{Incoming, Outgoing}
use Rattle.port_tables.specs.declared.release.Release.{Release}
use Rattle.multiportgraph.specs.Reading.{is_split, side_of, end_at, as_read, subport_of, standing, standing_of, far_subport}
use Rattle.multi_tables.specs.Forms.{Port, subport#}
use Rattle.multi_tables.specs.EndAnswers.{unplaced}
use Rattle.multiportgraph.specs.Refusals.{end_of, inner_port}
use Rattle.multiportgraph.specs.Calls.{subport_link, cut_plain, cut_port}
use Rattle.multiportgraph.specs.CaseLaws.{subport_link_cases}
use Rattle.multiportgraph.proofs.CutLaws.{cut_cases}
use Rattle.port_tables.specs.Places.{Place, Wire, wire_of_sides, next_offset}
use Rattle.multiportgraph.specs.Wires.{place_of}
use Rattle.multiportgraph.specs.WellFormed.{Fine, Seen, lift, outer, IsEnd, WireIn, HasEnd}
use Rattle.multiportgraph.specs.Ends.{BlockPort, EndOf, end_of_unsplit, block_seen, seen_block, outer_seen, outer_apart, outer_side, ends_join_ends, end_read, place_of_sub, subport_of_lem, subport_is, seen_still, wire_at}
use Rattle.multiportgraph.specs.SplitLaws.{end_of_wire}
use Rattle.multiportgraph.specs.declared.multiportgraph.MultiPortGraph.{MultiPortGraph}
use Rattle.multi_tables.specs.declared.answers.SubportIndex.{SubportIndex}
use Rattle.multiportgraph.specs.declared.multiportgraph.PortUnlinked.{PortUnlinked}
use Rattle.theorems.specs.Book.{Call, Book, spot_of, add_wire}
use Rattle.theorems.specs.History.{State, next, run}
use Rattle.theorems.specs.Claims.{Link, by_ports, by_ports_clean, by_subports, linking, LinkedBy}
use Rattle.theorems.specs.LinkLaw.{LinkDone, link_done_law, end_of_sides, far_of_sides}
use Rattle.theorems.proofs.LinkCleanCall.{clean_done_law}
use Rattle.theorems.proofs.WireRule.{Rel, OneMore, ports_link, subports_link, spot_at, lowest}
use Rattle.theorems.proofs.CallLaws.{rel_step, rel_run, one_more_wire}
use Rattle.theorems.specs.ListedLinks.{end_named_lem}
use Rattle.theorems.specs.AnswerClaims.{wire_between, AnswersItsWire, PortOfBlock, EndThere, SubportThere, asked, cut_answer, EndsFound, AsksTheBook, cut_far, CutsTheBook, AnswersAreWires, first_named, second_named}
use Rattle.port_tables.specs.declared.index.PortIndex.{PortIndex}
use Rattle.portgraph.specs.declared.portgraph.NoSuchPort.{NoSuchPort}
use Rattle.multi_tables.specs.declared.answers.Refusal.{Refusal}
use Rattle.multiportgraph.specs.LowerSteps.{link_cut}
use Rattle.theorems.proofs.LinkSubCall.{link_sub_done}
use Rattle.theorems.specs.PortCases.{free_unless}

-- Places after a link.

pub place_at : {m : MultiPortGraph} {M : Model} → Fine m M → (x : model.InnerPlace) → Seen m M x → (p o : ℕ) → slot_of M.node x ≡ p → place_of m (subport# p o) ≡ lift x o
place_at {m} f x s p o at = ap (λ (q : ℕ). place_of m (subport# q o)) (sym at) ∙ place_of_sub f x o s

module _ {m : MultiPortGraph} {M : Model} {B : Book} (r : Rel m M B) {m' : MultiPortGraph} {a o b e : ℕ} {s t : SubportIndex} (l : OneMore m M m' a o b e s t) where
  first_place_lem : place_of m' s ≡ lift l.x o
  first_place_lem =
      ap (place_of m') l.first_read
      ∙ place_at l.fine l.x (seen_still r.fine l.fine l.blocks l.x l.first_seen).0 a o ((seen_still r.fine l.fine l.blocks l.x l.first_seen).1 ∙ l.first_at)

  second_place_lem : place_of m' t ≡ lift l.y e
  second_place_lem =
      ap (place_of m') l.second_read
      ∙ place_at l.fine l.y (seen_still r.fine l.fine l.blocks l.y l.second_seen).0 b e ((seen_still r.fine l.fine l.blocks l.y l.second_seen).1 ∙ l.second_at)

  first_place_before : place_of m s ≡ place_of m' s
  first_place_before = ap (place_of m) l.first_read ∙ (place_at r.fine l.x l.first_seen a o l.first_at ∙ sym first_place_lem)

  second_place_before : place_of m t ≡ place_of m' t
  second_place_before = ap (place_of m) l.second_read ∙ (place_at r.fine l.y l.second_seen b e l.second_at ∙ sym second_place_lem)

  wire_entered : (i j : ℕ) → i ≡ o → j ≡ e → add_wire B.wires (spot_of B.blocks a) i (spot_of B.blocks b) j ≡ wire_between m' s t ∷ B.wires
  wire_entered i j p q =
      rw (spot_at r l.x l.first_seen a l.first_at, spot_at r l.y l.second_seen b l.second_at, p, q) (λ k. wire_of_sides (sym first_place_lem k).side (sym first_place_lem k) (sym second_place_lem k) ∷ B.wires)

-- a wire of two ports enters the book at the lowest unwired offsets
ports_entered : {m : MultiPortGraph} {M : Model} {B : Book} (r : Rel m M B) {m' : MultiPortGraph} {a b : ℕ} {s t : SubportIndex} → LinkDone m M m' a b s t →
    add_wire B.wires (spot_of B.blocks a) (next_offset B.wires (spot_of B.blocks a)) (spot_of B.blocks b) (next_offset B.wires (spot_of B.blocks b)) ≡ wire_between m' s t ∷ B.wires
ports_entered r {a = a} {b = b} d =
    wire_entered r (ports_link d) _ _ (lowest r d.x a d.o d.first_seen d.first_at d.first_lower d.first_none)
    (lowest r d.y b d.r d.second_seen d.second_at d.second_lower d.second_none)

-- Links.

answers_so : (s : State) {M : Model} → Rel s.graph M s.book → (c : Link) {o e : ℕ} {x y : SubportIndex} → OneMore s.graph M (next s (linking c)).graph (first_named c) o (second_named c) e x y →
    (next s (linking c)).book.wires ≡ wire_between (next s (linking c)).graph x y ∷ s.book.wires → AnswersItsWire s c x y
answers_so s r c l entered =
    record {
      first = ap (λ (u : SubportIndex). u.port.0) l.first_read;
      second = ap (λ (u : SubportIndex). u.port.0) l.second_read;
      wire = entered;
      first_place = first_place_before r l;
      second_place = second_place_before r l;
    }

answers_its_wire : (s : State) (M : Model) → Rel s.graph M s.book → (l : Link) (x y : SubportIndex) → LinkedBy s l x y → AnswersItsWire s l x y
answers_its_wire s M r (by_ports a b) x y h = let d = link_done_law r.fine a b x y h in answers_so s r (by_ports a b) (ports_link d) (rw h (ports_entered r d))
answers_its_wire s M r (by_ports_clean a b) x y h = let d = clean_done_law r.fine a b x y h in answers_so s r (by_ports_clean a b) (ports_link d) (rw h (ports_entered r d))
answers_its_wire s M r (by_subports p o q t) x y h =
    let l = subports_link (link_sub_done r.fine p o q t x y h) in
    answers_so s r (by_subports p o q t) l (rw h (wire_entered r l _ _ refl refl))

-- The wire that an accepted link enters in the book has the two subports answered as its ends, the first named first.
pub link_answers_the_wire : (release : Release) (calls : List Call) (l : Link) (x y : SubportIndex) → LinkedBy (run release calls) l x y → AnswersItsWire (run release calls) l x y
link_answers_the_wire release calls = let r = rel_run release calls in answers_its_wire (run release calls) r.0 r.1

-- Questions.

-- the end that a port at an offset means
module _ {m : MultiPortGraph} {M : Model} (f : Fine m M) {p o : ℕ} (h : EndThere m p o) where
  pub port_named : BlockPort m M p h.node h.side
  port_named = block_seen f p h.node h.side h.shown

  pub end_meant : EndOf m M port_named.place o h.in_port
  end_meant =
      let b = port_named in
      end_read f b.place o h.in_port b.is_seen
      (ap (λ (c : ℕ). end_at m c b.place.side o) b.slot ∙ (ap (λ (c : Direction). end_at m p c o) b.side ∙ h.there))

  place_meant : place_of m (as_read m p o) ≡ outer m M end_meant.end
  unfolding as_read
  place_meant =
      let b = port_named in
      ap (λ (c : ℕ). place_of m (subport# c (cond (is_split m c) o 0))) (sym b.slot)
      ∙ (place_of_sub f b.place (cond (is_split m (slot_of M.node b.place)) o 0) b.is_seen ∙ sym end_meant.is)

  side_meant : (place_of m (as_read m p o)).side ≡ end_meant.end.side
  side_meant = ap (λ (w : Place). w.side) place_meant ∙ outer_side f end_meant.end end_meant.is_end

  read_meant : as_read m p o ≡ subport_of m (slot_of M.node end_meant.end)
  unfolding as_read
  read_meant =
      let b = port_named in
      ap (λ (c : ℕ). subport# c (cond (is_split m c) o 0)) (sym b.slot)
      ∙ sym (subport_is f end_meant.end b.place (cond (is_split m (slot_of M.node b.place)) o 0) end_meant.is_end end_meant.is)

  -- what it is linked with
  link_meant : (y : model.InnerPlace) → M.join end_meant.end ≡ to y → port_link m.graph h.in_port ≡ Ok (Some (port# (slot_of M.node y)))
  link_meant y j = ap (port_link m.graph) (sym end_meant.slot) ∙ port_link_to f.good f.holds end_meant.end y end_meant.is_end.valid j

  free_meant : M.join end_meant.end ≡ nowhere → port_link m.graph h.in_port ≡ Ok None
  free_meant j = ap (port_link m.graph) (sym end_meant.slot) ∙ port_link_none f.good f.holds end_meant.end end_meant.is_end.valid j

  asked_is : (v : Result (Option PortIndex) NoSuchPort) → port_link m.graph h.in_port ≡ v → subport_link m p o ≡ far_subport m v
  asked_is v k = subport_link_cases m p o ∙ rw (lt-ltb o 65535 (omega arith), h.shown, h.there) (ap (far_subport m) k)

  pub asked_linked : (y : model.InnerPlace) → M.join end_meant.end ≡ to y → subport_link m p o ≡ Ok (Some (subport_of m (slot_of M.node y), standing_of m (slot_of M.node y)))
  asked_linked y j = asked_is _ (link_meant y j)

  pub asked_far : (y : model.InnerPlace) → M.join end_meant.end ≡ to y → asked m p o ≡ Ok (Some (subport_of m (slot_of M.node y)))
  asked_far y j = ap unplaced (asked_linked y j)

  asked_free : M.join end_meant.end ≡ nowhere → subport_link m p o ≡ Ok None
  asked_free j = asked_is _ (free_meant j)

  asked_none : M.join end_meant.end ≡ nowhere → asked m p o ≡ Ok None
  asked_none j = ap unplaced (asked_free j)

  -- the link behind an answer
  pub found_link : (t : SubportIndex) → asked m p o ≡ Ok (Some t) →
      (y : model.InnerPlace) × (M.join end_meant.end ≡ to y) × (t ≡ subport_of m (slot_of M.node y))
  found_link t a = go (M.join end_meant.end) refl
    where
      go : (v : Far) → M.join end_meant.end ≡ v → (y : model.InnerPlace) × (M.join end_meant.end ≡ to y) × (t ≡ subport_of m (slot_of M.node y))
      go nowhere j = let k = asked_none j in absurd (zero_is_not_one (cc))
      go (to y) j = let k = asked_far y j in (y, j, cc)

  nothing_link : asked m p o ≡ Ok None → M.join end_meant.end ≡ nowhere
  nothing_link a = free_unless (M.join end_meant.end) (λ y j. let k = asked_far y j in zero_is_not_one (cc))

  far_end : (y : model.InnerPlace) → M.join end_meant.end ≡ to y → IsEnd m M y
  far_end y j = ends_join_ends f end_meant.end y end_meant.is_end j

-- links between ends, and wires
module _ {m : MultiPortGraph} {M : Model} (f : Fine m M) (z : model.InnerPlace) (e : IsEnd m M z) where
  link_of_end_lem : (w : Wire) → WireIn m M w → HasEnd w (outer m M z) → (y : model.InnerPlace) × (M.join z ≡ to y)
  link_of_end_lem w h a =
      let k = end_of_wire f w (outer m M z) h a in
      (k.far, ap M.join (sym (outer_apart f k.near z k.end e k.is)) ∙ k.joined)

  link_of_wire : (d : Direction) (P : Place) → WireIn m M (wire_of_sides d (outer m M z) P) → (y : model.InnerPlace) × (M.join z ≡ to y) × (P ≡ outer m M y)
  link_of_wire Incoming P h =
      let q : h.y ≡ z = outer_apart f h.y z (ends_join_ends f h.x h.y h.end h.joined) e (sym (ap (λ (v : Wire). v.into) h.is)) in
      (h.x, ap M.join (sym q) ∙ f.good.join_back h.x h.y h.joined, ap (λ (v : Wire). v.out) h.is)
  link_of_wire Outgoing P h =
      let q : h.x ≡ z = outer_apart f h.x z h.end e (sym (ap (λ (v : Wire). v.out) h.is)) in
      (h.y, ap M.join (sym q) ∙ h.joined, ap (λ (v : Wire). v.into) h.is)

-- an end as answered is there,
subport_there : {m : MultiPortGraph} {M : Model} → Fine m M → (y : model.InnerPlace) → IsEnd m M y → SubportThere m (subport_of m (slot_of M.node y))
unfolding as_read
subport_there {m} {M} f y e =
    let r = outer_seen f y e in
    let k = end_named_lem f r.main y r.offset e r.is in
    let small = k.0 in
    subst (SubportThere m) (sym r.read) (
      record {
        node = r.main.node;
        side = r.main.side;
        in_port = k.1.0;
        shown = seen_block f r.main r.is_seen;
        small = omega arith;
        there = k.1.1;
      },
      ap (subport# (slot_of M.node r.main)) k.2,
    )

-- and means that end
there_meant : {m : MultiPortGraph} {M : Model} (f : Fine m M) (y : model.InnerPlace) → IsEnd m M y → (t : SubportIndex) → t ≡ subport_of m (slot_of M.node y) →
    (h : SubportThere m t) → (end_meant f h.0).end ≡ y
there_meant {m} f y e t is h =
    let z = end_meant f h.0 in
    outer_apart f z.end y z.is_end e (sym (place_meant f h.0) ∙ (ap (place_of m) (h.1 ∙ is) ∙ subport_of_lem f y e))

-- an end that is there, and the book
module _ {m : MultiPortGraph} {M : Model} {B : Book} (r : Rel m M B) {p o : ℕ} (h : EndThere m p o) where
  abbrev meant : model.InnerPlace
  meant = (end_meant r.fine h).end

  meant_is : IsEnd m M meant
  meant_is = (end_meant r.fine h).is_end

  -- the wire from an end to the far end of its link
  wire_asked : (y : model.InnerPlace) → M.join meant ≡ to y → (t : SubportIndex) → t ≡ subport_of m (slot_of M.node y) →
      wire_of_sides meant.side (outer m M meant) (outer m M y) ≡ wire_between m (as_read m p o) t
  wire_asked y j t is =
      let a = sym (side_meant r.fine h) in
      let b = sym (place_meant r.fine h) in
      let c : outer m M y ≡ place_of m t = sym (ap (place_of m) is ∙ subport_of_lem r.fine y (far_end r.fine h y j)) in
      λ i. wire_of_sides (a i) (b i) (c i)

  pub found_booked : (t : SubportIndex) → asked m p o ≡ Ok (Some t) → Member (wire_between m (as_read m p o) t) B.wires
  found_booked t a =
      let k = found_link r.fine h t a in
      r.wires.walks (wire_between m (as_read m p o) t)
      (subst (WireIn m M) (wire_asked k.0 k.1 t k.2) (wire_at r.fine meant k.0 meant_is k.1))

  found_there_lem : (t : SubportIndex) → asked m p o ≡ Ok (Some t) → SubportThere m t
  found_there_lem t a =
      let k = found_link r.fine h t a in
      subst (SubportThere m) (sym k.2) (subport_there r.fine k.0 (far_end r.fine h k.0 k.1))

  found_shown : (t : SubportIndex) → asked m p o ≡ Ok (Some t) → PortOfBlock m t.port.0
  found_shown t a = let g = (found_there_lem t a).0 in (g.node, g.side, g.shown)

  booked_found : (t : SubportIndex) → PortOfBlock m t.port.0 → Member (wire_between m (as_read m p o) t) B.wires → asked m p o ≡ Ok (Some t)
  booked_found t b i =
      let x = block_seen r.fine t.port.0 b.0 b.1 b.2 in
      let d = (place_of m (as_read m p o)).side in
      let w : WireIn m M (wire_of_sides d (outer m M meant) (place_of m t)) =
      subst (λ (v : Place). WireIn m M (wire_of_sides d v (place_of m t))) (place_meant r.fine h) (r.wires.booked (wire_between m (as_read m p o) t) i) in
      let k = link_of_wire r.fine meant meant_is d (place_of m t) w in
      let at = place_at r.fine x.place x.is_seen t.port.0 t.subport_offset x.slot in
      asked_far r.fine h k.0 k.1
      ∙ ap (λ (s : SubportIndex). Ok (Some s)) (subport_is r.fine k.0 x.place t.subport_offset (far_end r.fine h k.0 k.1) (sym k.2 ∙ at)
      ∙ ap (λ (c : ℕ). subport# c t.subport_offset) x.slot)

  nothing_booked : asked m p o ≡ Ok None → (w : Wire) → Member w B.wires → HasEnd w (place_of m (as_read m p o)) → ⊥
  nothing_booked a w i b =
      let j = nothing_link r.fine h a in
      let k = link_of_end_lem r.fine meant meant_is w (r.wires.booked w i) (subst (HasEnd w) (place_meant r.fine h) b) in
      let g = k.1 in
      zero_is_not_one (cc)

  booked_nothing : ((w : Wire) → Member w B.wires → HasEnd w (place_of m (as_read m p o)) → ⊥) → asked m p o ≡ Ok None
  booked_nothing none = go (M.join meant) refl
    where
      go : (v : Far) → M.join meant ≡ v → asked m p o ≡ Ok None
      go nowhere j = asked_none r.fine h j
      go (to y) j =
          let w = wire_of_sides meant.side (outer m M meant) (outer m M y) in
          absurd
          (none w (r.wires.walks w (wire_at r.fine meant y meant_is j))
          (subst (HasEnd w) (sym (place_meant r.fine h)) (end_of_sides meant.side (outer m M meant) (outer m M y))))

  found_back_lem : (t : SubportIndex) → asked m p o ≡ Ok (Some t) → asked m t.port.0 t.subport_offset ≡ Ok (Some (as_read m p o))
  found_back_lem t a =
      let k = found_link r.fine h t a in
      let g = found_there_lem t a in
      let z = there_meant r.fine k.0 (far_end r.fine h k.0 k.1) t k.2 g in
      asked_far r.fine g.0 meant (ap M.join z ∙ r.fine.good.join_back meant k.0 k.1)
      ∙ ap (λ (s : SubportIndex). Ok (Some s)) (sym (read_meant r.fine h))

asks_the_book : (s : State) (M : Model) → Rel s.graph M s.book → (p o : ℕ) → EndThere s.graph p o → AsksTheBook s p o
asks_the_book s M r p o h =
    record {
      found = λ t. ((λ a. (found_shown r h t a, found_booked r h t a)), (λ k. booked_found r h t k.0 k.1));
      nothing = (nothing_booked r h, booked_nothing r h);
      found_there = found_there_lem r h;
      found_back = found_back_lem r h;
    }

-- Cuts.

-- a split port answers itself, an unsplit one its inner link
module _ (m : MultiPortGraph) (p : ℕ) (b : PortOfBlock m p) where
  pub cut_split : is_split m p ≡ true → (cut_port m p).answer ≡ Ok (Some (subport# p 0, standing m (subport# p 0)))
  cut_split t = ap (λ (v : PortUnlinked). v.answer) (cut_cases m p) ∙ rw (b.2, t) refl

  cut_plain_lem : is_split m p ≡ false → (v : Result (Option PortIndex) NoSuchPort) → port_link m.graph p ≡ v → (cut_port m p).answer ≡ cut_plain m v
  unfolding unlink_port
  cut_plain_lem t v h = ap (λ (v : PortUnlinked). v.answer) (cut_cases m p) ∙ rw (b.2, t) (ap (cut_plain m) h)

-- the inner port of an end as answered
inner_of : {m : MultiPortGraph} {M : Model} → Fine m M → (y : model.InnerPlace) → IsEnd m M y → (t : SubportIndex) → t ≡ subport_of m (slot_of M.node y) →
    end_of m t.port.0 t.subport_offset ≡ slot_of M.node y
inner_of {m} {M} f y e t is =
    let h : SubportThere m t = subst (SubportThere m) (sym is) (subport_there f y e) in
    ap (λ (v : Port). inner_port (end_at m t.port.0 (side_of v) t.subport_offset)) h.0.shown
    ∙ (ap inner_port h.0.there ∙ (sym (end_meant f h.0).slot ∙ ap (slot_of M.node) (there_meant f y e t is h)))

-- an unsplit port of a block
module _ {m : MultiPortGraph} {M : Model} {B : Book} (r : Rel m M B) (p : ℕ) (b : PortOfBlock m p) (t : is_split m p ≡ false) where
  abbrev pub here : EndThere m p 0
  here = record { node = b.0; side = b.1; in_port = p; shown = b.2; small = omega arith; there = end_of_unsplit r.fine p b.1 0 t }

  abbrev pub itself : model.InnerPlace
  itself = (end_meant r.fine here).end

  pub read_plain : as_read m p 0 ≡ subport# p 0
  unfolding as_read
  read_plain = rw t refl

  pub cut_linked : (y : model.InnerPlace) → M.join itself ≡ to y →
      (cut_port m p).answer ≡ Ok (Some (subport# (slot_of M.node y) 0, standing_of m (slot_of M.node y)))
  cut_linked y j = cut_plain_lem m p b t _ (link_meant r.fine here y j)

  pub cut_free : M.join itself ≡ nowhere → (cut_port m p).answer ≡ Ok None
  cut_free j = cut_plain_lem m p b t _ (free_meant r.fine here j)

  cut_far_lem : (y : model.InnerPlace) → M.join itself ≡ to y → cut_answer m p ≡ Ok (Some (subport# (slot_of M.node y) 0))
  cut_far_lem y j = ap unplaced (cut_linked y j)

  cut_none : M.join itself ≡ nowhere → cut_answer m p ≡ Ok None
  cut_none j = ap unplaced (cut_free j)

  plain_answer : cut_answer m p ≡ cut_far m (asked m p 0)
  plain_answer = go (M.join itself) refl
    where
      go : (v : Far) → M.join itself ≡ v → cut_answer m p ≡ cut_far m (asked m p 0)
      go nowhere j = cut_none j ∙ sym (ap (cut_far m) (asked_none r.fine here j))
      go (to y) j =
          cut_far_lem y j
          ∙ sym
          (ap (cut_far m) (asked_far r.fine here y j)
          ∙ ap (λ (q : ℕ). Ok (Some (subport# q 0))) (inner_of r.fine y (far_end r.fine here y j) _ refl))

  plain_read_lem : (q : ℕ) → cut_answer m p ≡ Ok (Some (subport# q 0)) → asked m p 0 ≡ Ok (Some (subport_of m q))
  plain_read_lem q h = go (M.join itself) refl
    where
      go : (v : Far) → M.join itself ≡ v → asked m p 0 ≡ Ok (Some (subport_of m q))
      go nowhere j = let k = cut_none j in absurd (zero_is_not_one (cc))
      go (to y) j =
          let k = cut_far_lem y j in
          let a : subport# (slot_of M.node y) 0 ≡ subport# q 0 = cc in
          asked_far r.fine here y j ∙ ap (λ (u : SubportIndex). Ok (Some (subport_of m u.port.0))) a

  plain_booked : (u : SubportIndex) → cut_answer m p ≡ Ok (Some u) →
      (s : SubportIndex) × PortOfBlock m s.port.0 × Member (wire_between m (subport# p 0) s) B.wires
      × (u ≡ subport# (end_of m s.port.0 s.subport_offset) 0)
  plain_booked u h = go (asked m p 0) refl (sym plain_answer ∙ h)
    where
      go : (v : Result (Option SubportIndex) Refusal) → asked m p 0 ≡ v → cut_far m v ≡ Ok (Some u) →
          (s : SubportIndex) × PortOfBlock m s.port.0 × Member (wire_between m (subport# p 0) s) B.wires
          × (u ≡ subport# (end_of m s.port.0 s.subport_offset) 0)
      go (Ok (Some s)) k c =
          (s, found_shown r here s k, subst (λ (a : SubportIndex). Member (wire_between m a s) B.wires) read_plain (found_booked r here s k), cc)
      go (Ok None) k c = absurd (zero_is_not_one (cc))
      go (Err x) k c = absurd (zero_is_not_one (cc))

  booked_plain : (u s : SubportIndex) → PortOfBlock m s.port.0 → Member (wire_between m (subport# p 0) s) B.wires →
      u ≡ subport# (end_of m s.port.0 s.subport_offset) 0 → cut_answer m p ≡ Ok (Some u)
  booked_plain u s a i is =
      let k = booked_found r here s a (subst (λ (c : SubportIndex). Member (wire_between m c s) B.wires) (sym read_plain) i) in
      plain_answer ∙ (ap (cut_far m) k ∙ ap (λ (s : SubportIndex). Ok (Some s)) (sym is))

  -- wires at an unsplit port have offset 0 there
  plain_offset : (w : Wire) → Member w B.wires → (o : ℕ) → HasEnd w (place_of m (subport# p o)) → 0 ≡ o
  plain_offset w i o a =
      let x = port_named r.fine here in
      let at = place_at r.fine x.place x.is_seen p o x.slot in
      let k = end_of_wire r.fine w (lift x.place o) (r.wires.booked w i) (subst (HasEnd w) at a) in
      let c = (end_named_lem r.fine x.place k.near o k.end k.is).2 in
      ap (λ (v : Bool). cond v o 0) (sym (ap (is_split m) x.slot ∙ t)) ∙ c

  plain_nothing_lem : cut_answer m p ≡ Ok None → (w : Wire) → Member w B.wires → (o : ℕ) → HasEnd w (place_of m (subport# p o)) → ⊥
  plain_nothing_lem h w i o a = go (asked m p 0) refl (sym plain_answer ∙ h)
    where
      go : (v : Result (Option SubportIndex) Refusal) → asked m p 0 ≡ v → cut_far m v ≡ Ok None → ⊥
      go (Ok (Some s)) k c = zero_is_not_one (cc)
      go (Ok None) k c =
          nothing_booked r here k w i
          (subst (λ (u : SubportIndex). HasEnd w (place_of m u)) (sym read_plain)
          (subst (λ (v : ℕ). HasEnd w (place_of m (subport# p v))) (sym (plain_offset w i o a)) a))
      go (Err x) k c = zero_is_not_one (cc)

  nothing_plain : ((w : Wire) → Member w B.wires → (o : ℕ) → HasEnd w (place_of m (subport# p o)) → ⊥) → cut_answer m p ≡ Ok None
  nothing_plain none =
      plain_answer
      ∙ ap (cut_far m) (booked_nothing r here (λ w i a. none w i 0 (subst (λ (u : SubportIndex). HasEnd w (place_of m u)) read_plain a)))

cuts_the_book : (s : State) (M : Model) → Rel s.graph M s.book → (p : ℕ) → PortOfBlock s.graph p → CutsTheBook s p
cuts_the_book s M r p b =
    record {
      plain = plain_answer r p b;
      plain_found = λ t u. (plain_booked r p b t u, (λ k. booked_plain r p b t u k.0 k.1 k.2 k.3));
      plain_read = plain_read_lem r p b;
      plain_nothing = λ t. (plain_nothing_lem r p b t, nothing_plain r p b t);
      split = λ t. ap unplaced (cut_split s.graph p b t);
    }

-- What a question and a cut answer of a wire is what the book has.
pub answers_are_wires : (release : Release) (calls : List Call) → AnswersAreWires (run release calls)
answers_are_wires release calls =
    let r = rel_run release calls in
    record {
      asks = asks_the_book (run release calls) r.0 r.1;
      cuts_sub = λ p o. sym (link_cut (run release calls).graph p o);
      cuts = cuts_the_book (run release calls) r.0 r.1;
    }

-- After a link.

-- an end of a wire is a subport that is there
wired_there : {m : MultiPortGraph} {M : Model} → Fine m M → (w : Wire) → WireIn m M w → (x : model.InnerPlace) (p o : ℕ) → slot_of M.node x ≡ p →
    HasEnd w (lift x o) → SubportThere m (subport# p o)
wired_there {m} {M} f w h x p o at a =
    let k = end_of_wire f w (lift x o) h a in
    subst (SubportThere m) (subport_is f k.near x o k.end k.is ∙ ap (λ (q : ℕ). subport# q o) at) (subport_there f k.near k.end)

more_there : {m : MultiPortGraph} {M : Model} {m' : MultiPortGraph} {a o b e : ℕ} {s t : SubportIndex} → Fine m M → OneMore m M m' a o b e s t →
    SubportThere m' s × SubportThere m' t
more_there {m} {M} {m'} {a} {o} {b} {e} f l =
    let w = l.wires.came _ (inl refl) in (
      subst (SubportThere m') (sym l.first_read)
          (wired_there l.fine _ w l.x a o ((seen_still f l.fine l.blocks l.x l.first_seen).1 ∙ l.first_at) (end_of_sides l.x.side _ _)),
      subst (SubportThere m') (sym l.second_read)
          (wired_there l.fine _ w l.y b e ((seen_still f l.fine l.blocks l.y l.second_seen).1 ∙ l.second_at) (far_of_sides l.x.side _ _)),
    )

ends_there : (s : State) (M : Model) → Fine s.graph M → (l : Link) (x y : SubportIndex) → LinkedBy s l x y →
    SubportThere (next s (linking l)).graph x × SubportThere (next s (linking l)).graph y
ends_there s M f l x y h = more_there f (one_more_wire s f l x y h).4

-- each end of an accepted link is then found at the other
linked_found : (s : State) (M : Model) → Rel s.graph M s.book → (l : Link) (x y : SubportIndex) → LinkedBy s l x y → EndsFound (next s (linking l)).graph x y
linked_found s M r l x y h =
    let m' = (next s (linking l)).graph in
    let u = ends_there s M r.fine l x y h in
    let n = u.1.0 in
    let k = rel_step r (linking l) in
    let i : Member (wire_between m' x y) (next s (linking l)).book.wires =
    subst (Member (wire_between m' x y)) (sym (answers_its_wire s M r l x y h).wire) (inl refl) in
    let j = subst (λ (v : SubportIndex). Member (wire_between m' v y) (next s (linking l)).book.wires) (sym u.0.1) i in
    let g = booked_found k.1 u.0.0 y (n.node, n.side, n.shown) j in
    record {
      first_there = u.0;
      second_there = u.1;
      of_first = g;
      of_second = found_back_lem k.1 u.0.0 y g ∙ ap (λ (s : SubportIndex). Ok (Some s)) u.0.1;
    }

-- After an accepted link both subports answered are there, and asking at either one finds the other.
pub linked_ends_are_found : (release : Release) (calls : List Call) (l : Link) (x y : SubportIndex) → LinkedBy (run release calls) l x y → EndsFound (next (run release calls) (linking l)).graph x y
linked_ends_are_found release calls = let r = rel_run release calls in linked_found (run release calls) r.0 r.1
