-- A free block of the size asked for is found: the used length does not grow. And what the works of a history free and no later one takes
-- is free at its end.
use Rattle.std.specs.Prelude.{◌≡◌, refl, Bool, true, false, cond, ℕ, suc, ◌+◌, ◌≤◌, ◌<◌, eqb, leb, ltb, length, get_or, Option, Some, None, Result, Ok, Err}
use Rattle.std.proofs.Common.{sym, ◌∙◌, ap, subst, ⊎_elim, arith, eqb-true, ltb-true, le-ltb}
use mathlib.Core.List.{List, [], ◌∷◌, ◌++◌, flat_map}
use Rattle.std.proofs.lemmas.Bool.{eqb-false}
use Rattle.port_tables.specs.Limits.{node_slots, port_slots, node_ports}
use Rattle.port_tables.specs.Lists.{Member}
use Rattle.portgraph.specs.Lookups.{meta_at}
use Rattle.portgraph.specs.Model.{Model, Holds, number_of_first}
use Rattle.portgraph.specs.Meaning.{rest, growth}
use Rattle.port_tables.specs.Entries.{same_side}
use Rattle.portgraph.specs.GoodSlots.{zero_is_not_one}
use Rattle.port_tables.specs.declared.direction.Direction.{Direction}
use Rattle.port_tables.specs.declared.node_entry.NodeMeta.{NodeMeta}
use Rattle.port_tables.specs.ResizeLinks.{same_counts, fits_inside}
use Rattle.multiportgraph.specs.Reading.{is_hidden, is_split, has_link, copy_node, subports, seen}
use Rattle.multi_tables.specs.Forms.{Port, dead, hidden, visible}
use Rattle.multiportgraph.specs.HiddenNodes.{copies_in, copies_dropped, Prepared, ready, full, prepare}
use Rattle.multiportgraph.specs.Refusals.{input_taken}
use Rattle.multiportgraph.specs.Tidy.{subports_left}
use Rattle.multiportgraph.specs.Answers.{add_numbers, remove_numbers, set_numbers, link_numbers, cut_numbers, tidy_numbers}
use Rattle.multi_tables.specs.EndAnswers.{refusal_numbers}
use Rattle.multiportgraph.specs.WellFormed.{Fine}
use Rattle.multiportgraph.specs.Space.{Room, room_of, Work, take_node, take_block, give_node, give_block, block_taken, after_work, after_works, nodes_short, ports_short, overflows, add_works, gone_works, copies_gone, move_works, recount_works, set_meta_works, set_works, split_works, grow_works, reuse_works, prepare_works, second_works, link_seen_works, link_works, link_clean_seen_works, link_clean_works, remove_meta_works, remove_works, cut_works, told_works, cut_seen_works, tidy_works, tidy_seen_works}
use Rattle.multiportgraph.specs.SpaceLaws.{nodes_short_at_end, ports_short_at_end, after_append, room_of_graph}
use Rattle.multiportgraph.specs.declared.multiportgraph.MultiPortGraph.{MultiPortGraph}
use Rattle.multi_tables.specs.declared.answers.Refusal.{Refusal}
use Rattle.multi_tables.specs.declared.answers.Refusal.TheVariants.{BadOffset, TooManyPorts, UnknownNode, HiddenNode, MovesTooShort, UnknownPort, HiddenPort, UnknownOffset, NoRoom, UnknownSecondPort, IncompatibleDirections, AlreadyLinked, InputWired}
use Rattle.theorems.specs.Book as book
use Rattle.theorems.specs.Book.{Call, AnswerOf, Book}
use Rattle.theorems.specs.History.{step, numbers_of, run_from, run_from_under, entered}
use Rattle.theorems.specs.Works.{works_of}
use Rattle.theorems.specs.Conditions.{RefusedBy}
use Rattle.theorems.proofs.CallLaws.{call_law, call_space, call_room_after}
use Rattle.slots.specs.SlotClaims.{blocks_asked, asks_node, AsksOnly, answers_ten, LacksNode, NeverForPorts, works_done, works_along, Untaken, FreedSince, freed_by, freed_later}
use Rattle.slots.specs.KeptLaws.{given_stays, given_is, taken_or_left}
use Rattle.multi_tables.specs.declared.answers.SubportIndex.{SubportIndex}
use Rattle.multi_tables.specs.declared.answers.PortPlace.{PortPlace}

-- The used length of the port table.

none_asked : (l : List Work) (r : Room) → blocks_asked l ≡ [] → (after_works r l).port_len ≡ r.port_len
unfolding after_works after_work
none_asked [] r e = refl
none_asked (take_node ∷ l) r e = none_asked l _ e
none_asked (give_node n ∷ l) r e = none_asked l _ e
none_asked (give_block first size ∷ l) r e = none_asked l _ e
none_asked (take_block size ∷ l) r e = go (eqb size 0) e (λ d. none_asked l r d)
  where
    go : (b : Bool) → cond b (blocks_asked l) (size ∷ blocks_asked l) ≡ [] → (blocks_asked l ≡ [] → (after_works r l).port_len ≡ r.port_len) →
        (after_works (cond b r (block_taken r size)) l).port_len ≡ r.port_len
    go true d h = h d
    go false d h = absurd (zero_is_not_one (cc))

no_growth : (size : ℕ) (l : List ℕ) (f : ℕ) → Member f l → growth size l ≡ 0
no_growth size [] f never = absurd never
no_growth size (b ∷ l) f i = refl

-- where one block only is asked for, and one of its size is free, it does not grow
one_asked : (l : List Work) (r : Room) (f k : ℕ) → Member f (r.free_blocks k) → blocks_asked l ≡ k ∷ [] → (after_works r l).port_len ≡ r.port_len
unfolding after_works after_work
one_asked [] r f k i e = absurd (zero_is_not_one (cc))
one_asked (take_node ∷ l) r f k i e = one_asked l _ f k i e
one_asked (give_node n ∷ l) r f k i e = one_asked l _ f k i e
one_asked (give_block first size ∷ l) r f k i e = one_asked l _ f k (given_stays r.free_blocks first size k f i) e
one_asked (take_block size ∷ l) r f k i e = go (eqb size 0) e (λ d. one_asked l r f k i d) (none_asked l (block_taken r size))
  where
    go : (b : Bool) → cond b (blocks_asked l) (size ∷ blocks_asked l) ≡ k ∷ [] → (blocks_asked l ≡ k ∷ [] → (after_works r l).port_len ≡ r.port_len) →
        (blocks_asked l ≡ [] → (after_works (block_taken r size) l).port_len ≡ (block_taken r size).port_len) →
        (after_works (cond b r (block_taken r size)) l).port_len ≡ r.port_len
    go true d h n = h d
    go false d h n =
        let s : size ≡ k = cc in
        let t : blocks_asked l ≡ [] = cc in
        let z : growth size (r.free_blocks size) ≡ 0 = no_growth size (r.free_blocks size) f (subst (λ (j : ℕ). Member f (r.free_blocks j)) (sym s) i) in
        n t ∙ (omega arith)

-- Node slots.

abbrev nodes_asked : List Work → ℕ
nodes_asked [] = 0
nodes_asked (take_node ∷ l) = suc (nodes_asked l)
nodes_asked (take_block size ∷ l) = nodes_asked l
nodes_asked (give_node n ∷ l) = nodes_asked l
nodes_asked (give_block first size ∷ l) = nodes_asked l

by_size : (P : Room → Type 0) (r : Room) (size : ℕ) → P r → P (block_taken r size) → P (cond (eqb size 0) r (block_taken r size))
by_size P r size p q = go (eqb size 0)
  where
    go : (b : Bool) → P (cond b r (block_taken r size))
    go true = p
    go false = q

no_node_asked : (l : List Work) (r : Room) → nodes_asked l ≡ 0 → (after_works r l).node_len ≡ r.node_len
unfolding after_works after_work
no_node_asked [] r e = refl
no_node_asked (take_node ∷ l) r e = absurd (omega arith)
no_node_asked (take_block size ∷ l) r e = by_size (λ s. (after_works s l).node_len ≡ r.node_len) r size (no_node_asked l r e) (no_node_asked l (block_taken r size) e)
no_node_asked (give_node n ∷ l) r e = no_node_asked l _ e
no_node_asked (give_block first size ∷ l) r e = no_node_asked l _ e

-- one node at most is asked for, and the node table would grow past its limit
abbrev NodeShort : Room → List Work → Type 0
NodeShort r l = (asks_node l ≡ true) × (r.free_nodes ≡ []) × (r.node_len ≡ node_slots)

one_node_asked : (l : List Work) (r : Room) → nodes_asked l ≤ 1 → r.node_len ≤ node_slots → node_slots < (after_works r l).node_len → NodeShort r l
unfolding after_works after_work
one_node_asked [] r few fit past = absurd (omega arith)
one_node_asked (take_node ∷ l) r few fit past = go r.free_nodes refl (no_node_asked l _ (omega arith))
  where
    go : (free : List ℕ) → r.free_nodes ≡ free →
        (after_works (record { free_nodes = rest r.free_nodes; free_blocks = r.free_blocks; node_len = r.node_len + growth 1 r.free_nodes; port_len = r.port_len }) l).node_len ≡ r.node_len + growth 1 r.free_nodes →
        NodeShort r (take_node ∷ l)
    go [] e n = let g : growth 1 r.free_nodes ≡ 1 = ap (growth 1) e in (refl, e, omega arith)
    go (x ∷ free) e n = let g : growth 1 r.free_nodes ≡ 0 = ap (growth 1) e in absurd (omega arith)
one_node_asked (take_block size ∷ l) r few fit past =
    by_size (λ s. node_slots < (after_works s l).node_len → NodeShort r l) r size (one_node_asked l r few fit) (one_node_asked l (block_taken r size) few fit) past
one_node_asked (give_node n ∷ l) r few fit past = let h = one_node_asked l _ few fit past in let z = h.1 in absurd (zero_is_not_one (cc))
one_node_asked (give_block first size ∷ l) r few fit past = one_node_asked l _ few fit past

-- A call asks for no more node slots than blocks, if it asks for a block at all.

abbrev Paired : List Work → Type 0
Paired l = nodes_asked l ≤ length (blocks_asked l)

nodes_append : (a b : List Work) → nodes_asked (a ++ b) ≡ nodes_asked a + nodes_asked b
nodes_append [] b = omega arith
nodes_append (take_node ∷ a) b = let h = nodes_append a b in omega arith
nodes_append (take_block size ∷ a) b = nodes_append a b
nodes_append (give_node n ∷ a) b = nodes_append a b
nodes_append (give_block first size ∷ a) b = nodes_append a b

blocks_append : (a b : List Work) → length (blocks_asked (a ++ b)) ≡ length (blocks_asked a) + length (blocks_asked b)
blocks_append [] b = omega arith
blocks_append (take_node ∷ a) b = blocks_append a b
blocks_append (take_block size ∷ a) b = go (eqb size 0) (blocks_append a b)
  where
    go : (z : Bool) → length (blocks_asked (a ++ b)) ≡ length (blocks_asked a) + length (blocks_asked b) →
        length (cond z (blocks_asked (a ++ b)) (size ∷ blocks_asked (a ++ b))) ≡ length (cond z (blocks_asked a) (size ∷ blocks_asked a)) + length (blocks_asked b)
    go true h = h
    go false h = omega arith
blocks_append (give_node n ∷ a) b = blocks_append a b
blocks_append (give_block first size ∷ a) b = blocks_append a b

paired_append : (a b : List Work) → Paired a → Paired b → Paired (a ++ b)
paired_append a b p q = let m = nodes_append a b in let n = blocks_append a b in omega arith

paired_if : (c : Bool) (a b : List Work) → Paired a → Paired b → Paired (cond c a b)
paired_if true a b p q = p
paired_if false a b p q = q

paired_none : Paired []
paired_none = omega arith

paired_gone : (n : ℕ) (v : Option NodeMeta) → Paired (gone_works n v)
paired_gone n None = paired_none
paired_gone n (Some k) = omega arith

paired_copies : (m : MultiPortGraph) (l : List ℕ) → Paired (copies_gone m l)
unfolding flat_map
paired_copies m [] = paired_none
paired_copies m (c ∷ l) = paired_append (gone_works c (meta_at m.graph c)) (copies_gone m l) (paired_gone c (meta_at m.graph c)) (paired_copies m l)

paired_move : (k : NodeMeta) (total : ℕ) → Paired (move_works k total)
paired_move k total = omega arith

paired_grow : (v : Option NodeMeta) → Paired (grow_works v)
paired_grow None = paired_none
paired_grow (Some k) = paired_if (ltb (k.incoming + k.outgoing + 1) k.capacity) [] (move_works k (k.incoming + k.outgoing + 1)) paired_none (paired_move k (k.incoming + k.outgoing + 1))

paired_prepare : (m : MultiPortGraph) (p : ℕ) (d : Direction) → Paired (prepare_works m p d)
unfolding prepare_works reuse_works
paired_prepare m p d =
    paired_if (is_split m p) _ _ (paired_if (ltb _ (subports m p d)) [] (grow_works (meta_at m.graph (copy_node m p))) paired_none (paired_grow (meta_at m.graph (copy_node m p))))
    (paired_if (has_link m.graph p) split_works [] (omega arith) paired_none)

paired_seen : (m : MultiPortGraph) (a b : ℕ) (u v : Port) → Paired (link_seen_works m a b u v)
paired_seen m a b dead v = paired_none
paired_seen m a b hidden v = paired_none
paired_seen m a b (visible n d) hidden = paired_none
paired_seen m a b (visible n d) dead = paired_prepare m a d
paired_seen m a b (visible n d) (visible k e) = paired_append (prepare_works m a d) (second_works b e (prepare m a d)) (paired_prepare m a d) (second (prepare m a d))
  where
    second : (w : Prepared) → Paired (second_works b e w)
    second full = paired_none
    second (ready m₁ x o) = paired_prepare m₁ b e

paired_clean : (m : MultiPortGraph) (a b : ℕ) (u v : Port) → Paired (link_clean_seen_works m a b u v)
paired_clean m a b dead v = paired_none
paired_clean m a b hidden v = paired_none
paired_clean m a b (visible n d) hidden = paired_none
paired_clean m a b (visible n d) dead = paired_none
paired_clean m a b (visible n d) (visible k e) = paired_if (same_side d e) [] (link_seen_works m a b (seen m a) (seen m b)) paired_none (paired_seen m a b (seen m a) (seen m b))

paired_set : (m : MultiPortGraph) (n i o room : ℕ) (v : Option NodeMeta) → Paired (told_works m n i o room v)
unfolding set_works recount_works
paired_set m n i o room None = paired_none
paired_set m n i o room (Some k) = paired_if (leb _ room) (set_works m n i o) [] (whole (meta_at m.graph n)) paired_none
  where
    whole : (v : Option NodeMeta) → Paired (set_meta_works m i o v)
    whole None = paired_none
    whole (Some k) =
        paired_append (recount_works k i o) (copies_gone m (copies_dropped m k i o))
        (paired_if (same_counts k i o) [] _ paired_none (paired_if (fits_inside k i o) [] (move_works k (i + o)) paired_none (paired_move k (i + o))))
        (paired_copies m (copies_dropped m k i o))

paired_remove : (m : MultiPortGraph) (n : ℕ) (v : Option NodeMeta) → Paired (remove_meta_works m n v)
paired_remove m n None = paired_none
paired_remove m n (Some k) =
    paired_append (copies_gone m (copies_in m k.first_port.0 (k.incoming + k.outgoing))) (gone_works n (Some k))
    (paired_copies m (copies_in m k.first_port.0 (k.incoming + k.outgoing))) (paired_gone n (Some k))

paired_cut : (m : MultiPortGraph) (p : ℕ) (v : Port) → Paired (cut_seen_works m p v)
unfolding cut_works
paired_cut m p dead = paired_none
paired_cut m p hidden = paired_none
paired_cut m p (visible n d) = paired_if (is_split m p) _ [] (paired_gone (copy_node m p) (meta_at m.graph (copy_node m p))) paired_none

paired_tidy : (m : MultiPortGraph) (p : ℕ) (v : Port) → Paired (tidy_seen_works m p v)
unfolding tidy_works
paired_tidy m p dead = paired_none
paired_tidy m p hidden = paired_none
paired_tidy m p (visible n d) =
    paired_if (is_split m p) _ []
    (paired_if (ltb 1 (subports_left m p d)) [] (gone_works (copy_node m p) (meta_at m.graph (copy_node m p))) paired_none (paired_gone (copy_node m p) (meta_at m.graph (copy_node m p)))) paired_none

-- by calls
asks_paired : (m : MultiPortGraph) (c : Call) → (blocks_asked (works_of m c) ≡ [] → ⊥) → Paired (works_of m c)
unfolding works_of remove_works link_works link_clean_works
asks_paired m (book.add_call i o) h = go (leb (i + o) node_ports) h
  where
    some : (z : Bool) → (cond z [] ((i + o) ∷ []) ≡ [] → ⊥) → 1 ≤ length (cond z [] ((i + o) ∷ []))
    some true h = absurd (h refl)
    some false h = omega arith

    go : (b : Bool) → (blocks_asked (cond b (add_works i o) []) ≡ [] → ⊥) → Paired (cond b (add_works i o) [])
    go true h = some (eqb (i + o) 0) h
    go false h = paired_none
asks_paired m (book.remove_call n) h = paired_if (is_hidden m n) [] _ paired_none (paired_remove m n (meta_at m.graph n))
asks_paired m (book.set_call n i o room) h = paired_if (leb (i + o) node_ports) _ [] (paired_if (is_hidden m n) [] _ paired_none (paired_set m n i o room (meta_at m.graph n))) paired_none
asks_paired m (book.link_call a b) h = paired_if (input_taken m a b) [] _ paired_none (paired_seen m a b (seen m a) (seen m b))
asks_paired m (book.link_clean_call a b) h = paired_if (input_taken m a b) [] _ paired_none (paired_clean m a b (seen m a) (seen m b))
asks_paired m (book.link_sub_call p o q r) h = paired_none
asks_paired m (book.cut_call p) h = paired_cut m p (seen m p)
asks_paired m (book.cut_sub_call p o) h = paired_none
asks_paired m (book.tidy_call p) h = paired_tidy m p (seen m p)

-- 10 is the refusal for lack of space.

ten_is_no_room : (r : Refusal) → get_or (refusal_numbers r) 0 0 ≡ 10 → r ≡ NoRoom
ten_is_no_room BadOffset e = absurd (omega arith)
ten_is_no_room TooManyPorts e = absurd (omega arith)
ten_is_no_room UnknownNode e = absurd (omega arith)
ten_is_no_room HiddenNode e = absurd (omega arith)
ten_is_no_room MovesTooShort e = absurd (omega arith)
ten_is_no_room (UnknownPort p) e = absurd (omega arith)
ten_is_no_room (HiddenPort p) e = absurd (omega arith)
ten_is_no_room (UnknownOffset p) e = absurd (omega arith)
ten_is_no_room NoRoom e = refl
ten_is_no_room (UnknownSecondPort p) e = absurd (omega arith)
ten_is_no_room (IncompatibleDirections p q d) e = absurd (omega arith)
ten_is_no_room (AlreadyLinked p) e = absurd (omega arith)
ten_is_no_room InputWired e = absurd (omega arith)

ten_cut : (v : Result (Option (SubportIndex × PortPlace)) Refusal) → get_or (cut_numbers v) 0 0 ≡ 10 → v ≡ Err NoRoom
ten_cut (Ok (Some (s, x))) e = absurd (omega arith)
ten_cut (Ok None) e = absurd (omega arith)
ten_cut (Err r) e = ap Err (ten_is_no_room r e)

ten_link : (v : Result (SubportIndex × SubportIndex) Refusal) → get_or (link_numbers v) 0 0 ≡ 10 → v ≡ Err NoRoom
ten_link (Ok (x, y)) e = absurd (omega arith)
ten_link (Err r) e = ap Err (ten_is_no_room r e)

ten_refused : (c : Call) (v : AnswerOf c) → get_or (numbers_of c v) 0 0 ≡ 10 → RefusedBy c v NoRoom
ten_refused (book.add_call i o) (Ok (n, p)) e = absurd (omega arith)
ten_refused (book.add_call i o) (Err r) e = ap Err (ten_is_no_room r e)
ten_refused (book.remove_call n) (Ok tt) e = absurd (omega arith)
ten_refused (book.remove_call n) (Err r) e = ap Err (ten_is_no_room r e)
ten_refused (book.set_call n i o room) (Ok k) e = absurd (omega arith)
ten_refused (book.set_call n i o room) (Err r) e = ap Err (ten_is_no_room r e)
ten_refused (book.link_call a b) v e = ten_link v e
ten_refused (book.link_clean_call a b) v e = ten_link v e
ten_refused (book.link_sub_call p o q r) v e = ten_link v e
ten_refused (book.cut_call p) v e = ten_cut v e
ten_refused (book.cut_sub_call p o) v e = ten_cut v e
ten_refused (book.tidy_call p) (Ok tt) e = absurd (omega arith)
ten_refused (book.tidy_call p) (Err r) e = ap Err (ten_is_no_room r e)

refused_ten : (c : Call) (v : AnswerOf c) → RefusedBy c v NoRoom → get_or (numbers_of c v) 0 0 ≡ 10
refused_ten (book.add_call i o) v e = ap (λ x. get_or (add_numbers x) 0 0) e
refused_ten (book.remove_call n) v e = ap (λ x. get_or (remove_numbers x) 0 0) e
refused_ten (book.set_call n i o room) v e = ap (λ x. get_or (set_numbers x) 0 0) e
refused_ten (book.link_call a b) v e = ap (λ x. get_or (link_numbers x) 0 0) e
refused_ten (book.link_clean_call a b) v e = ap (λ x. get_or (link_numbers x) 0 0) e
refused_ten (book.link_sub_call p o q r) v e = ap (λ x. get_or (link_numbers x) 0 0) e
refused_ten (book.cut_call p) v e = ap (λ x. get_or (cut_numbers x) 0 0) e
refused_ten (book.cut_sub_call p o) v e = ap (λ x. get_or (cut_numbers x) 0 0) e
refused_ten (book.tidy_call p) v e = ap (λ x. get_or (tidy_numbers x) 0 0) e

-- A block that is free is found.

first_number : (l : List ℕ) → l ≡ [] → number_of_first l ≡ 0
first_number l e = ap number_of_first e

module _ {m : MultiPortGraph} {M : Model} (f : Fine m M) (c : Call) (first size : ℕ) (free : Member first (M.free_blocks size)) (only : AsksOnly m c size) where
  -- the port table does not grow
  ports_suffice : ports_short (room_of M) (works_of m c) ≡ false
  ports_suffice =
      let e = one_asked (works_of m c) (room_of M) first size free only in
      let fit = f.good.ports_fit in
      ports_short_at_end (room_of M) (works_of m c) ∙ le-ltb port_slots (after_works (room_of M) (works_of m c)).port_len (omega arith)

  lacks_node : answers_ten c (step m c).answer ≡ true → LacksNode m c
  lacks_node t =
      let refused = ten_refused c (step m c).answer (eqb-true _ 10 t) in
      let short = nodes_are_short (nodes_short (room_of M) (works_of m c)) refl ((call_space f c).no_room_iff.0 refused) in
      let long = f.holds.node_len in
      record { asks = short.0; none = f.holds.node_head ∙ first_number M.free_nodes short.1; full = long ∙ short.2 }
    where
      paired : nodes_asked (works_of m c) ≤ 1
      paired =
          let p = asks_paired m c (λ e. zero_is_not_one (let o = only in cc)) in
          let q = ap length only in
          omega arith

      nodes_are_short : (b : Bool) → nodes_short (room_of M) (works_of m c) ≡ b → overflows (room_of M) (works_of m c) ≡ true → NodeShort (room_of M) (works_of m c)
      nodes_are_short true e o =
          one_node_asked (works_of m c) (room_of M) paired f.good.nodes_fit (ltb-true node_slots _ (sym (nodes_short_at_end (room_of M) (works_of m c)) ∙ e))
      nodes_are_short false e o = let p = ports_suffice in absurd (zero_is_not_one (let z : overflows (room_of M) (works_of m c) ≡ false = rw (e, p) in cc))

  pub never_for_ports : NeverForPorts m c
  never_for_ports =
      record {
        suffice = λ N g. ap (λ (r : Room). ports_short r (works_of m c)) (room_of_graph g.holds f.holds) ∙ ports_suffice;
        ten = lacks_node;
      }

-- What the works of a history leave.

step_room : {m : MultiPortGraph} {M N : Model} → Fine m M → (c : Call) → Fine (step m c).graph N → room_of N ≡ after_works (room_of M) (works_done m c)
unfolding after_works
step_room {m} {M} {N} f c g = go (answers_ten c (step m c).answer) refl
  where
    go : (b : Bool) → answers_ten c (step m c).answer ≡ b → room_of N ≡ after_works (room_of M) (cond b [] (works_of m c))
    go true e =
        let same = (call_space f c).unchanged (ten_refused c (step m c).answer (eqb-true _ 10 e)) in
        room_of_graph (subst (λ (v : MultiPortGraph). Holds v.graph N) same g.holds) f.holds
    go false e = call_room_after f c g (within (overflows (room_of M) (works_of m c)) refl)
      where
        within : (o : Bool) → overflows (room_of M) (works_of m c) ≡ o → o ≡ false
        within false q = refl
        within true q = absurd (eqb-false _ 10 e (refused_ten c (step m c).answer ((call_space f c).no_room_iff.1 q)))

pub along : {m : MultiPortGraph} {M : Model} → Fine m M → (B : Book) (l : List Call) →
    (N : Model) × Fine (run_from (record { graph = m; book = B }) l).graph N × (room_of N ≡ after_works (room_of M) (works_along m l))
unfolding run_from_under after_works
along {m} {M} f B [] = (M, f, refl)
along {m} {M} f B (c ∷ l) =
    let k = (call_law f c).leads in
    let r = along {m = (step m c).graph} {M = k.model} k.fine (entered m c B) l in (
      r.0,
      r.1,
      r.2 ∙ (ap (λ (x : Room). after_works x (works_along (step m c).graph l)) (step_room f c k.fine) ∙ sym (after_append (works_done m c) (works_along (step m c).graph l) (room_of M))),
    )

-- a free block that no work takes stays free
untaken_stays : (l : List Work) (r : Room) (first size : ℕ) → Member first (r.free_blocks size) → Untaken first size r l → Member first ((after_works r l).free_blocks size)
unfolding after_works after_work
untaken_stays [] r first size i u = i
untaken_stays (take_node ∷ l) r first size i u = untaken_stays l _ first size i u.1
untaken_stays (give_node n ∷ l) r first size i u = untaken_stays l _ first size i u.1
untaken_stays (give_block f k ∷ l) r first size i u = untaken_stays l _ first size (given_stays r.free_blocks f k size first i) u.1
untaken_stays (take_block k ∷ l) r first size i u =
    untaken_stays l (cond (eqb k 0) r (block_taken r k)) first size
    (by_size (λ s. Member first (s.free_blocks size)) r k i
    (⊎_elim (λ h. h) (λ h. absurd (u.0 (sym h.1, sym h.0))) (taken_or_left r.free_blocks r.port_len k size first i)))
    u.1

pub freed_is_free : {first size : ℕ} {r : Room} {l : List Work} → FreedSince first size r l → Member first ((after_works r l).free_blocks size)
unfolding after_works after_work
freed_is_free {first} {size} (freed_by r l some u) = untaken_stays l _ first size (given_is r.free_blocks first size some) u
freed_is_free {first} {size} (freed_later r w l h) = freed_is_free h
