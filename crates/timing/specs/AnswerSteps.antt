-- What the functions that answer of a graph cite: the listing of its wires, the answer off the settled tables, a path, and orders.
use Rattle.std.proofs.Math.Path.{◌≡◌, refl, sym, ap}
use Rattle.std.proofs.Common.{◌∙◌, length-set, drop_of_length-le, drop-cons, drop-set-lt, get_or-set_same, eq-eqb, ne_eqb}
use Rattle.std.specs.Prelude.{Bool, true, false, ltb, length, take, drop, Result, Ok, Err, OnOk}
use mathlib.Core.List.{List, ◌∷◌, map}
use Prim.Native.Nat.{ℕ, zero, suc, ◌+◌, ◌-◌, ◌*◌, ◌/◌, ◌≤◌, ◌<◌}
use native.Mathlib.Omega.{arith}
use Rattle.std.proofs.Math.ListN.{get_or, set, replicate}
use Rattle.std.proofs.lemmas.Bool.{false_from_ne_true}
use Rattle.std.specs.Prelude.{Option, MatchBool, ◌&&◌}
use Rattle.std.specs.List.{list_all}
use Rattle.std.specs.Iterator.Runs.{Run, AllItemsGive, AnyItemGives, CallKeepsClosure, IsChunksExactRun}
use denote.Param.Members.{Mut, Called}
use Rattle.std.proofs.Common.{Bor, get_or-take, get_or-drop, drop-drop}
use Rattle.files.specs.CheckSteps.{chunks, chunks_tested}
use Rattle.port_tables.specs.Limits.{node_slots, port_slots}
use Rattle.port_tables.specs.Lists.{Member, Rising, range}
use Rattle.portgraph.specs.Model.{Model}
use Rattle.multiportgraph.specs.Calls.{visible_nodes}
use Rattle.multiportgraph.specs.CountLaws.{visible_nodes_lem}
use Rattle.multiportgraph.specs.WellFormed.{Fine, MultiWf}
use Rattle.multiportgraph.specs.HiddenStays.{true_not_false}
use Rattle.port_tables.specs.Listing.{Apart, numbers_apart}
use Rattle.multiportgraph.specs.Listed.{wires_listed, blocks_listed, list_after}
use Rattle.multiportgraph.specs.Lookups.{counted, capacity_of}
use Rattle.multiportgraph.specs.Walks.{Start, started, refused, start_at_node}
use Rattle.multiportgraph.specs.Wires.{blocks}
use Rattle.multiportgraph.specs.declared.multiportgraph.MultiPortGraph.{MultiPortGraph}
use Rattle.multi_tables.specs.declared.answers.Refusal.{Refusal}
use Rattle.theorems.proofs.PortListing.{blocks_list}
use Rattle.theorems.proofs.StartLaws.{start_at_node_starts}
use Rattle.files.specs.Forms.{node_listed, nodes_of, blocks_in}
use Rattle.files.specs.SaveSteps.{nodes_are, listed_wires, blocks_first}
use Rattle.timing.specs.Longest.{Feed, feeds_in, feeders, longest_among, longest_timed, longest_from, longest_of}
use Rattle.timing.specs.Settling.{feed_at, feeds_listed, Tables, zeros, settled, sum_at, path_back}
use Rattle.timing.specs.RunOrder.{run_order}
use Rattle.timing.specs.RunOrderLaws.{right_length, right_named, right_forward, found_right, run_order_right, right_run_order}
use Rattle.timing.specs.TimingClaims.{RightOrder}
use Rattle.timing.specs.Naming.{marked, named, all_forward}
use Rattle.timing.specs.SettleSteps.{listed_next, listed_end}
use Rattle.timing.specs.StartLaws.{FeedsFit, zeros_long, zeros_read, answer_settled}
use Rattle.timing.specs.FeedLaws.{feeds_fit, feeds_listed_lem, feeders_between, block_below}
use Rattle.timing.specs.declared.answers.LongestError.TheVariants.{Refused, BadTimes}
use Rattle.multiportgraph.specs.WalkRule.{blocks_rise}

-- Off the settled tables.

answer_of_tables : (feeds : List Feed) (times : List ℕ) (n : ℕ) → FeedsFit feeds → n < node_slots → {t : Tables} → t ≡ settled feeds times → sum_at t times n ≡ longest_among feeds times n
unfolding sum_at
answer_of_tables feeds times n fit below e = ap (λ (t : Tables). sum_at t times n) e ∙ answer_settled feeds fit.below fit.rises times n below

-- 19.

module _ (feeds : List Feed) (times : List ℕ) (n : ℕ) where
  timed_wrong : (length times ≡ node_slots → ⊥) → Err BadTimes ≡ longest_timed feeds times n
  unfolding longest_timed
  timed_wrong h = rw (ne_eqb (length times) node_slots h)

  timed_right : length times ≡ node_slots → longest_among feeds times n ≡ longest_timed feeds times n
  unfolding longest_timed
  timed_right h = rw (eq-eqb (length times) node_slots h)

-- The listing of a graph's wires.

module _ {m : MultiPortGraph} {M : Model} (f : Fine m M) where
  -- the answer over the listing is that over the graph
  among_listed : (times : List ℕ) (n : ℕ) {ends : List ℕ} → ends ≡ wires_listed m → longest_among (feeds_listed ends) times n ≡ longest_among (feeds_in m) times n
  among_listed times n e = ap (λ (l : List Feed). longest_among l times n) (ap feeds_listed e ∙ feeds_listed_lem f)

  settled_listed : (times : List ℕ) {ends : List ℕ} → ends ≡ wires_listed m → settled (feeds_listed ends) times ≡ settled (feeds_in m) times
  settled_listed times e = ap (λ (l : List Feed). settled l times) (ap feeds_listed e ∙ feeds_listed_lem f)

  -- 4 and 5

  pub started_below : (n : ℕ) → start_at_node m n ≡ started → n < node_slots
  started_below n e = let b = (start_at_node_starts f n).0 e in block_below f n ((blocks_list f).all n b.0 b.1)

-- What the code answers: a refused question,
module _ {m : MultiPortGraph} (wf : MultiWf m) (n : ℕ) (times : List ℕ) {v : Result ℕ Refusal} (capacity : v ≡ capacity_of m n) where
  pub refused_answer : {r : Refusal} → v ≡ Err r → Err (Refused r) ≡ longest_of m n times
  unfolding capacity_of longest_of
  refused_answer {r} e = go _ (start_at_node m n) (sym e ∙ capacity)
    where
      go : (x : ℕ) (s : Start) → Err r ≡ counted s x → Err (Refused r) ≡ longest_from s (longest_timed (feeds_in m) times n)
      go x started e = let z : ◌≡◌ {A = ℕ} 0 1 = cc in absurd (omega arith)
      go x (refused q) e = let z : r ≡ q = cc in ap (λ (x : Refusal). Err (Refused x)) z

  -- or what is found
  module _ {k : ℕ} (found : v ≡ Ok k) where
    found_start : start_at_node m n ≡ started
    unfolding capacity_of
    found_start = go _ (start_at_node m n) (sym found ∙ capacity)
      where
        go : (x : ℕ) (s : Start) → Ok k ≡ counted s x → s ≡ started
        go x started e = refl
        go x (refused r) e = let z : ◌≡◌ {A = ℕ} 0 1 = cc in absurd (omega arith)

    found_answer : longest_timed (feeds_in m) times n ≡ longest_of m n times
    unfolding longest_of
    found_answer = ap (λ (s : Start). longest_from s (longest_timed (feeds_in m) times n)) (sym found_start)

    pub times_wrong : (length times ≡ node_slots → ⊥) → Err BadTimes ≡ longest_of m n times
    times_wrong h = timed_wrong (feeds_in m) times n h ∙ found_answer

    pub sum_answer : length times ≡ node_slots → {ends : List ℕ} → ends ≡ wires_listed m → {t : Tables} → t ≡ settled (feeds_listed ends) times → sum_at t times n ≡ longest_of m n times
    sum_answer long {ends} l t =
        answer_of_tables (feeds_listed ends) times n (feeds_fit wf.fine ends l) (started_below wf.fine n found_start) t
        ∙ (among_listed wf.fine times n l ∙ (timed_right (feeds_in m) times n long ∙ found_answer))

module _ {m : MultiPortGraph} (wf : MultiWf m) where
  pub wires_listed_few : length (wires_listed m) ≤ 4 * port_slots
  wires_listed_few = (listed_wires wf.fine _ refl).1

  pub settled_walked : (times : List ℕ) {T E : Type 0} (a : Result T E) {ends : List ℕ} → ends ≡ wires_listed m → {t : Tables} → t ≡ settled (feeds_listed ends) times → OnOk a (t ≡ settled (feeds_in m) times)
  settled_walked times (Ok x) l t = t ∙ settled_listed wf.fine times l
  settled_walked times (Err x) l t = tt

-- A path.

-- a block is laid before the path, which has gone back as far as a place
module _ (origin back : List ℕ) (n : ℕ) {back' whole : List ℕ} {k j : ℕ} (told : path_back origin (k - 1) n (drop k back) ≡ whole) (some : 1 ≤ k) (here : j ≡ k - 1) (long : j < length back) (laid : back' ≡ set back j n) where
  path_laid : drop j back' ≡ n ∷ drop k back
  path_laid =
      let s : suc j ≡ k = omega arith in
      ap (drop j) laid
      ∙ (let l = length-set back j n in drop-cons (set back j n) j 0 (omega arith)
      ∙ (λ i. get_or-set_same back j n 0 long i ∷ (drop-set-lt (suc j) back j n (omega arith) ∙ ap (λ (x : ℕ). drop x back) s) i))

  path_here : path_back origin j n (drop k back) ≡ whole
  path_here = ap (λ (i : ℕ). path_back origin i n (drop k back)) here ∙ told

  -- it is the first one if no sum comes to it,
  pub path_stops : {x : ℕ} → x ≡ get_or origin n 0 → x ≡ 0 → drop j back' ≡ whole
  unfolding path_back
  path_stops {x} q z = path_laid ∙ (go j (drop k back) ∙ path_here)
    where
      go : (j : ℕ) (path : List ℕ) → n ∷ path ≡ path_back origin j n path
      go zero path = refl
      go (suc j) path = rw (eq-eqb (get_or origin n 0) 0 (sym q ∙ z))

  pub path_ends : j ≡ 0 → drop j back' ≡ whole
  unfolding path_back
  path_ends z = path_laid ∙ (ap (λ (i : ℕ). path_back origin i n (drop k back)) (sym z) ∙ path_here)

  -- else the block that it comes from is next
  pub path_goes : {x : ℕ} → 0 < j → x ≡ get_or origin n 0 → (x ≡ 0 → ⊥) → path_back origin (j - 1) (x - 1) (drop j back') ≡ whole
  unfolding path_back
  path_goes {x} h q d = ap (path_back origin (j - 1) (x - 1)) path_laid ∙ (go j h (drop k back) ∙ path_here)
    where
      go : (j : ℕ) → 0 < j → (path : List ℕ) → path_back origin (j - 1) (x - 1) (n ∷ path) ≡ path_back origin j n path
      go zero h path = absurd (omega arith)
      go (suc j) h path =
          let z : suc j - 1 ≡ j = omega arith in
          sym (rw (ne_eqb (get_or origin n 0) 0 (λ e. d (q ∙ e)), ← q, z) refl)

-- Orders.

module _ (listed : List ℕ) (i : ℕ) (places : List ℕ) where
  pub mark_turn : {p : ℕ} {places' : List ℕ} → i < length listed / 4 → p ≡ get_or listed (4 * i + 0) 0 → places' ≡ set places p 1 → marked (drop (i + 1) (nodes_of listed)) places' ≡ marked (drop i (nodes_of listed)) places
  unfolding nodes_of marked
  mark_turn {p} {places'} h q e =
      let s : i + 1 ≡ suc i = omega arith in
      let z : 4 * i + 0 ≡ 4 * i = omega arith in
      (λ j. marked (drop (s j) (map (node_listed listed) (range 0 (blocks_in listed)))) ((e ∙ ap (λ (x : ℕ). set places x 1) (q ∙ ap (λ (k : ℕ). get_or listed k 0) z)) j))
      ∙ sym (ap (λ (l : List ℕ). marked l places) (listed_next (node_listed listed) (blocks_in listed) i h))

  pub mark_end : length listed / 4 ≤ i → places ≡ marked (drop i (nodes_of listed)) places
  unfolding nodes_of marked
  mark_end h = sym (ap (λ (l : List ℕ). marked l places) (listed_end (node_listed listed) (blocks_in listed) i h))

module _ (order : List ℕ) (i : ℕ) (places : List ℕ) where
  module _ (inside : i < length order) {p x : ℕ} (is_node : p ≡ get_or order i 0) (isPlace : x ≡ get_or places p 0) where
    pub name_stop : (x ≡ 1 → ⊥) → record { places = places; right = false } ≡ named places i (drop i order)
    unfolding named
    name_stop h =
        sym (ap (named places i) (drop-cons order i 0 inside) ∙ rw (ne_eqb (get_or places (get_or order i 0) 0) 1 (λ e. h (isPlace ∙ (ap (λ (n : ℕ). get_or places n 0) is_node ∙ e)))) refl)

    pub name_turn : {places' : List ℕ} → x ≡ 1 → places' ≡ set places p (i + 2) → named places' (i + 1) (drop (i + 1) order) ≡ named places i (drop i order)
    unfolding named
    name_turn h e =
        let s : i + 1 ≡ suc i = omega arith in
        (λ j. named ((e ∙ ap (λ (n : ℕ). set places n (i + 2)) is_node) j) (s j) (drop (s j) order))
        ∙ sym (ap (named places i) (drop-cons order i 0 inside) ∙ rw (eq-eqb (get_or places (get_or order i 0) 0) 1 (sym (isPlace ∙ ap (λ (n : ℕ). get_or places n 0) is_node) ∙ h)) refl)

  pub name_end : length order ≤ i → record { places = places; right = true } ≡ named places i (drop i order)
  unfolding named
  name_end h = sym (ap (named places i) (drop_of_length-le order {i = i} h))

abbrev forward : List ℕ → List ℕ → Bool
forward places wire = ltb (get_or places (get_or wire 2 0) 0) (get_or places (get_or wire 6 0) 0)

wires_forward : (places ends : List ℕ) (i m : ℕ) → list_all (forward places) (chunks 8 m (drop (8 * i) ends)) ≡ all_forward places (map (feed_at ends) (range i m))
unfolding chunks all_forward range
wires_forward places ends i zero = refl
wires_forward places ends i (suc m) =
    let g : (j : ℕ) → j < 8 → get_or (take 8 (drop (8 * i) ends)) j 0 ≡ get_or ends (8 * i + j) 0 = λ j h. get_or-take 8 (drop (8 * i) ends) j 0 h ∙ get_or-drop (8 * i) ends j 0 in
    let d : drop 8 (drop (8 * i) ends) ≡ drop (8 * suc i) ends = drop-drop 8 (8 * i) ends ∙ ap (λ (n : ℕ). drop n ends) (omega arith) in
    let a = g 2 (omega arith) in
    let b = g 6 (omega arith) in
    let later = ap (λ (l : List ℕ). list_all (forward places) (chunks 8 m l)) d ∙ wires_forward places ends (suc i) m in
    λ j. ltb (get_or places (a j) 0) (get_or places (b j) 0) && later j

module _ {S F : Type 0} {steps : S → Option (Bor (List ℕ)) → S → Type 0} {g : Mut F (Bor (List ℕ) × Unit {0}) Bool} {f : F} (ends : Bor (List ℕ)) (places : List ℕ) (p : Run steps) (r : IsChunksExactRun p 8 ends.now) (b : Bool)
    (h : MatchBool b ((p.whole ≡ true) × AllItemsGive p g f true) (AnyItemGives p g f false)) (said : (x : Bor (List ℕ)) (b : Bool) → Called g f (x, tt) b f → b ≡ forward places x.now) (keeps : CallKeepsClosure g f) where
  pub forward_tested : b ≡ all_forward places (feeds_listed ends.now)
  unfolding feeds_listed
  forward_tested = chunks_tested 8 ends (λ k h. omega arith) (forward places) said keeps p r b h ∙ wires_forward places ends.now 0 (length ends.now / 8)

-- What is found is the answer.

module _ {m : MultiPortGraph} (wf : MultiWf m) (order : List ℕ) {n : ℕ} (counted : n ≡ visible_nodes m) where
  abbrev Right : Type 0
  Right = RightOrder (λ n. Member n (blocks m)) (λ a b. Member a (feeders (feeds_in m) b)) order

  is_not : (Right → ⊥) → false ≡ run_order m order
  is_not h = sym (false_from_ne_true (run_order m order) (λ e. h (run_order_right m order e)))

  once : Rising Apart (blocks m)
  once = numbers_apart (blocks m) (blocks_rise m)

  in_table : (n : ℕ) → Member n (blocks m) → n < length zeros
  in_table n i = let h = block_below wf.fine n i in let e = zeros_long in omega arith

  pub count_wrong : (length order ≡ n → ⊥) → false ≡ run_order m order
  count_wrong h = is_not (λ r. h (right_length (blocks m) once zeros zeros_read in_table (feeds_in m) (feeders_between wf.fine) order r ∙ (sym (visible_nodes_lem wf.fine) ∙ sym counted)))

  module _ {list places : List ℕ} (is_list : list ≡ list_after (blocks_listed m) (replicate (4 * node_slots) 0)) (are_places : places ≡ marked (nodes_of (take (4 * n) list)) zeros) where
    places_are : places ≡ marked (blocks m) zeros
    places_are = are_places ∙ ap (λ (l : List ℕ). marked l zeros) (ap nodes_of (blocks_first wf counted is_list) ∙ nodes_are m)

    pub not_named : (named places 0 order).right ≡ false → (named places 0 order).right ≡ run_order m order
    not_named h =
        h
        ∙ is_not (λ r. true_not_false (right_named (blocks m) once zeros zeros_read in_table (feeds_in m) (feeders_between wf.fine) order r) (ap (λ (l : List ℕ). (named l 0 order).right) (sym places_are) ∙ h))

    pub named_answer : {r : Bool} {ends places' : List ℕ} → length order ≡ n → r ≡ (named places 0 order).right → r ≡ true → places' ≡ (named places 0 order).places → ends ≡ wires_listed m →
        all_forward places' (feeds_listed ends) ≡ run_order m order
    named_answer {ends = ends} {places' = places'} l e h p w = go (all_forward places' (feeds_listed ends)) found
      where
        right : (named (marked (blocks m) zeros) 0 order).right ≡ true
        right = ap (λ (l : List ℕ). (named l 0 order).right) (sym places_are) ∙ (sym e ∙ h)

        found : all_forward (named (marked (blocks m) zeros) 0 order).places (feeds_in m) ≡ all_forward places' (feeds_listed ends)
        found = sym (λ j. all_forward ((p ∙ ap (λ (l : List ℕ). (named l 0 order).places) places_are) j) ((ap feeds_listed w ∙ feeds_listed_lem wf.fine) j))

        go : (b : Bool) → all_forward (named (marked (blocks m) zeros) 0 order).places (feeds_in m) ≡ b → b ≡ run_order m order
        go true e =
            sym (right_run_order m order (found_right (blocks m) once zeros zeros_read in_table (feeds_in m) (feeders_between wf.fine) order (l ∙ (counted ∙ visible_nodes_lem wf.fine)) right e))
        go false e = is_not (λ r. true_not_false (right_forward (blocks m) once zeros zeros_read in_table (feeds_in m) (feeders_between wf.fine) order r) e)
