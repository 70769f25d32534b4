-- Proofs of the wire rule, of cuts that restore and of links in either order.
use Rattle.std.specs.Prelude.{◌≡◌, cond, List, [], ◌∷◌, ℕ, ◌+◌, ◌<◌, Option, Some, None, Result, Ok, Err}
use Rattle.std.proofs.Math.Path.{refl}
use Rattle.std.proofs.Common.{sym, ap, ◌∙◌, subst, inl, ⊎_elim, lt-ltb}
use native.Mathlib.Omega.{arith}
use Rattle.portgraph.specs.Model as model
use Rattle.portgraph.specs.Model.{Model, Slots, slot_of, first_of, side_start, count_of}
use Rattle.portgraph.specs.GoodSlots.{slots_apart, zero_is_not_one}
use Rattle.port_tables.specs.declared.direction.Direction.{Direction}
use Rattle.port_tables.specs.declared.direction.Direction.TheVariants.{Incoming, Outgoing}
use Rattle.portgraph.specs.Calls.{unlink_port}
use Rattle.port_tables.specs.declared.release.Release.{Release}
use Rattle.multiportgraph.specs.Reading.{is_split, end_at, far_subport}
use Rattle.multi_tables.specs.Forms.{inner, subport#}
use Rattle.multiportgraph.specs.Calls.{cut_sub}
use Rattle.multiportgraph.specs.Wires.{wires_walked}
use Rattle.theorems.specs.Book.{Call, Block, Book, spot_of, add_wire}
use Rattle.theorems.specs.History.{State, entered, next, run}
use Rattle.multiportgraph.specs.WellFormed.{Fine, Seen, lift, WireIn, SameBlocks, Wiring, none, HasEnd}
use Rattle.theorems.specs.BookLaws.{same_count}
use Rattle.multiportgraph.specs.HiddenStays.{true_not_false}
use Rattle.multiportgraph.specs.Ends.{seen_block, seen_still}
use Rattle.multiportgraph.specs.WalkRule.{walk_ends_lem, walked_is_wires, walked_once, same_wires_same_list}
use Rattle.multiportgraph.specs.LinkCutLaws.{end_named, CutDone, CutSays, cut_sub_law}
use Rattle.theorems.specs.LinkLaw.{end_of_sides, far_of_sides}
use Rattle.theorems.proofs.WireRule.{Rel, OneMore, has_end_touches, touches_has_end}
use Rattle.theorems.proofs.CallLaws.{rel_step, rel_run, one_more_wire}
use Rattle.multiportgraph.specs.declared.multiportgraph.MultiPortGraph.{MultiPortGraph}
use Rattle.multi_tables.specs.declared.answers.SubportIndex.{SubportIndex}
use Rattle.multi_tables.specs.declared.answers.Refusal.{Refusal}
use Rattle.port_tables.specs.Places.{Wire, Spot, nowhere, spot, at_spot, touches, wire_of_sides}
use Rattle.theorems.specs.Claims.{Link, by_ports, by_ports_clean, by_subports, linking, LinkedBy, accepted_link, joins, between, Restored, WireRule}
use Rattle.theorems.specs.ListedLinks.{end_named_lem}
use Rattle.port_tables.specs.declared.index.PortIndex.{PortIndex}
use Rattle.portgraph.specs.declared.portgraph.NoSuchPort.{NoSuchPort}
use Rattle.multi_tables.specs.declared.answers.PortPlace.{PortPlace}
use Rattle.std.proofs.lemmas.Bool.{false_from_ne_true}
use Rattle.multiportgraph.specs.SplitLaws.{end_of_wire}

-- Graph and book that go together obey the wire rule.
rule_of : (s : State) (M : Model) → Rel s.graph M s.book → WireRule s
rule_of s M r =
    record {
      ends = walk_ends_lem r.fine;
      once = walked_once r.fine;
      booked = λ w i. r.wires.walks w ((walked_is_wires r.fine w).0 i);
      walks = λ w i. (walked_is_wires r.fine w).1 (r.wires.booked w i);
      book_once = r.wires.once;
    }

-- the offset does not matter
any_offset : (s : Spot) (n : ℕ) (d : Direction) (i o r : ℕ) →
    at_spot s (record { node = n; side = d; pos = i; offset = o }) ≡ at_spot s (record { node = n; side = d; pos = i; offset = r })
unfolding at_spot
any_offset nowhere n d i o r = refl
any_offset (spot k e j) n d i o r = refl

module _ (s t : Spot) where
  one_more : (l : List Wire) (u v : Spot) (o r : ℕ) → between s t (add_wire l u o v r) ≡ between s t (add_wire [] u 0 v 0) + between s t l
  unfolding joins
  one_more l nowhere v o r = omega arith
  one_more l (spot n d i) nowhere o r = omega arith
  one_more l (spot n d i) (spot k e j) o r = go d refl
    where
      go : (a : Direction) → d ≡ a →
          between s t (wire_of_sides a (record { node = n; side = d; pos = i; offset = o }) (record { node = k; side = e; pos = j; offset = r }) ∷ l)
          ≡ between s t (wire_of_sides a (record { node = n; side = d; pos = i; offset = 0 }) (record { node = k; side = e; pos = j; offset = 0 }) ∷ []) + between s t l
      go Incoming q = rw (any_offset s n d i o 0, any_offset t n d i o 0, any_offset s k e j r 0, any_offset t k e j r 0) (omega arith)
      go Outgoing q = rw (any_offset s n d i o 0, any_offset t n d i o 0, any_offset s k e j r 0, any_offset t k e j r 0) (omega arith)

  -- the share of a link: by the ports that it names
  abbrev share : List Block → Link → ℕ
  share l (by_ports a b) = between s t (add_wire [] (spot_of l a) 0 (spot_of l b) 0)
  share l (by_ports_clean a b) = between s t (add_wire [] (spot_of l a) 0 (spot_of l b) 0)
  share l (by_subports p o q r) = between s t (add_wire [] (spot_of l p) 0 (spot_of l q) 0)

  -- what an accepted link does to the book
  book_after : (m : MultiPortGraph) (B : Book) (c : Link) → accepted_link (record { graph = m; book = B }) c →
      ((entered m (linking c) B).blocks ≡ B.blocks) × (between s t (entered m (linking c) B).wires ≡ share B.blocks c + between s t B.wires)
  book_after m B (by_ports a b) h = rw h.2 (refl, one_more B.wires (spot_of B.blocks a) (spot_of B.blocks b) _ _)
  book_after m B (by_ports_clean a b) h = rw h.2 (refl, one_more B.wires (spot_of B.blocks a) (spot_of B.blocks b) _ _)
  book_after m B (by_subports p o q r) h = rw h.2 (refl, one_more B.wires (spot_of B.blocks p) (spot_of B.blocks q) _ _)

  -- both orders of two links leave the same number in the book
  book_both : (x : State) (c d : Link) → accepted_link x c → accepted_link (next x (linking c)) d →
      between s t (next (next x (linking c)) (linking d)).book.wires ≡ share x.book.blocks d + (share x.book.blocks c + between s t x.book.wires)
  book_both x c d a b =
      let first = book_after x.graph x.book c a in
      let second = book_after (next x (linking c)).graph (next x (linking c)).book d b in
      second.1 ∙ ap (λ (l : List Block). share l d + between s t (next x (linking c)).book.wires) first.0 ∙ ap (λ (n : ℕ). share x.book.blocks d + n) first.1

  -- the walk has as many as the book
  walked_as_booked : (x : State) → WireRule x → between s t (wires_walked x.graph) ≡ between s t x.book.wires
  walked_as_booked x r = same_count (joins s t) (wires_walked x.graph) x.book.wires r.once r.book_once r.booked r.walks

-- Cutting an end.

never_refused : (m : MultiPortGraph) (v : Result (Option PortIndex) NoSuchPort) (e : Refusal) → far_subport m v ≡ Err e → ⊥
never_refused m (Ok (Some q)) e h = zero_is_not_one (cc)
never_refused m (Ok None) e h = zero_is_not_one (cc)
never_refused m (Err p) e h = zero_is_not_one (cc)

-- an end that is there is cut
cut_happens : {m : MultiPortGraph} {M : Model} → Fine m M → (x : model.InnerPlace) → Seen m M x → (o q : ℕ) → o < 65535 → end_at m (slot_of M.node x) x.side o ≡ inner q →
    CutDone m M (cut_sub m (slot_of M.node x) o).graph (slot_of M.node x) (end_named (cond (is_split m (slot_of M.node x)) o 0))
unfolding cut_sub
cut_happens {m} {M} f x s o q small there = go (cut_sub m (slot_of M.node x) o).answer refl (cut_sub_law f (slot_of M.node x) o)
  where
    answered : (cut_sub m (slot_of M.node x) o).answer ≡ far_subport m (unlink_port m.graph q).answer
    answered = rw (lt-ltb o 65535 small, seen_block f x s, there) refl

    go : (a : Result (Option (SubportIndex × PortPlace)) Refusal) → (cut_sub m (slot_of M.node x) o).answer ≡ a →
        CutSays m M (slot_of M.node x) (end_named (cond (is_split m (slot_of M.node x)) o 0)) (cut_sub m (slot_of M.node x) o).graph a →
        CutDone m M (cut_sub m (slot_of M.node x) o).graph (slot_of M.node x) (end_named (cond (is_split m (slot_of M.node x)) o 0))
    go (Ok (Some (t, x))) e d = d
    go (Ok None) e d = d
    go (Err r) e d = absurd (never_refused m (unlink_port m.graph q).answer r (sym answered ∙ e))

-- one wire came at an end that had none: cutting that end brings back the earlier list
module _ {m : MultiPortGraph} {M : Model} {m' : MultiPortGraph} {M' : Model} {w : Wire} (f : Fine m M) (f' : Fine m' M') (same : SameBlocks m M m' M')
    (wires : Wiring m M m' M' none (w ∷ [])) (x : model.InnerPlace) (s : Seen m M x) (o : ℕ) (has : HasEnd w (lift x o))
    (free : (v : Wire) → WireIn m M v → HasEnd v (lift x o) → ⊥) where
  still : Seen m' M' x × (slot_of M'.node x ≡ slot_of M.node x)
  still = seen_still f f' same x s

  wire_there : WireIn m' M' w
  wire_there = wires.came w (inl refl)

  brings_back : wires_walked (cut_sub m' (slot_of M.node x) o).graph ≡ wires_walked m
  brings_back =
      let z = end_of_wire f' w (lift x o) wire_there has in
      let n = end_named_lem f' x z.near o z.end z.is in
      let d = cut_happens f' x still.0 o n.1.0 n.0 n.1.1 in
      let q : d.x ≡ x = slots_apart f'.good d.x x d.is_seen.0 still.0.0 d.at in
      let test : end_named (cond (is_split m' (slot_of M'.node x)) o 0) d.x ≡ end_named o x =
      ap (λ (v : model.InnerPlace). end_named (cond (is_split m' (slot_of M'.node x)) o 0) v) q ∙ ap (λ (v : ℕ). end_named v x) n.2 in
      let c : Wiring m' M' (cut_sub m' (slot_of M'.node x) o).graph d.model (end_named o x) [] =
      subst (λ t. Wiring m' M' (cut_sub m' (slot_of M'.node x) o).graph d.model t []) test d.wires in
      ap (λ (p : ℕ). wires_walked (cut_sub m' p o).graph) (sym still.1)
      ∙ same_wires_same_list d.fine f (there d.model c) (back d.model c)
    where
      there : (M'' : Model) → Wiring m' M' (cut_sub m' (slot_of M'.node x) o).graph M'' (end_named o x) [] → (v : Wire) →
          WireIn (cut_sub m' (slot_of M'.node x) o).graph M'' v → WireIn m M v
      there M'' c v h =
          ⊎_elim
          (λ a. ⊎_elim (λ b. b.0)
          (⊎_elim (λ e. absurd (true_not_false (has_end_touches x o w has) (ap (touches (end_named o x)) (sym e) ∙ a.1))) (λ b. absurd b))
          (wires.only v a.0))
          (λ a. absurd a) (c.only v h)

      back : (M'' : Model) → Wiring m' M' (cut_sub m' (slot_of M'.node x) o).graph M'' (end_named o x) [] → (v : Wire) →
          WireIn m M v → WireIn (cut_sub m' (slot_of M'.node x) o).graph M'' v
      back M'' c v h = c.kept v (wires.kept v h refl) (false_from_ne_true _ (λ t. free v h (touches_has_end x o v t)))

ends_restore : {m : MultiPortGraph} {M : Model} {m' : MultiPortGraph} {a o b r : ℕ} {s t : SubportIndex} → Fine m M → OneMore m M m' a o b r s t →
    Restored m m' s × Restored m m' t
ends_restore {m} {M} {m'} {a} {o} {b} {r} f l = (
  subst (Restored m m') (sym l.first_read)
      (subst (λ (p : ℕ). Restored m m' (subport# p o)) l.first_at
      (brings_back f l.fine l.blocks l.wires l.x l.first_seen o (end_of_sides l.x.side _ _) l.first_free)),
  subst (Restored m m') (sym l.second_read)
      (subst (λ (p : ℕ). Restored m m' (subport# p r)) l.second_at
      (brings_back f l.fine l.blocks l.wires l.y l.second_seen r (far_of_sides l.x.side _ _) l.second_free)),
)

-- The theorems.

pub wire_rule : (release : Release) (calls : List Call) → WireRule (run release calls)
wire_rule release calls = let r = rel_run release calls in rule_of (run release calls) r.0 r.1

restores : (s : State) {M : Model} → Fine s.graph M → (c : Link) (x y : SubportIndex) → LinkedBy s c x y →
    Restored s.graph (next s (linking c)).graph x × Restored s.graph (next s (linking c)).graph y
restores s f c x y h = ends_restore f (one_more_wire s f c x y h).4

-- a link is accepted and answers two ends: cutting either one brings back the earlier list of walked wires
pub cut_restores : (release : Release) (calls : List Call) (c : Link) (x y : SubportIndex) → LinkedBy (run release calls) c x y →
    Restored (run release calls).graph (next (run release calls) (linking c)).graph x × Restored (run release calls).graph (next (run release calls) (linking c)).graph y
cut_restores release calls c x y h = restores (run release calls) (rel_run release calls).1.fine c x y h

-- two links, accepted in both orders, leave as many walked wires between any two ports in either order
pub links_in_either_order : (release : Release) (calls : List Call) (c d : Link) → accepted_link (run release calls) c → accepted_link (next (run release calls) (linking c)) d → accepted_link (run release calls) d →
    accepted_link (next (run release calls) (linking d)) c → (s t : Spot) →
    between s t (wires_walked (next (next (run release calls) (linking c)) (linking d)).graph) ≡ between s t (wires_walked (next (next (run release calls) (linking d)) (linking c)).graph)
links_in_either_order release calls c d a b e h s t =
    let r = rel_run release calls in
    let rc = rel_step r.1 (linking c) in
    let rcd = rel_step rc.1 (linking d) in
    let rd = rel_step r.1 (linking d) in
    let rdc = rel_step rd.1 (linking c) in
    let one = walked_as_booked s t (next (next (run release calls) (linking c)) (linking d)) (rule_of _ rcd.0 rcd.1) ∙ book_both s t (run release calls) c d a b in
    let two = walked_as_booked s t (next (next (run release calls) (linking d)) (linking c)) (rule_of _ rdc.0 rdc.1) ∙ book_both s t (run release calls) d c e h in
    one ∙ (omega arith) ∙ sym two
