-- Proofs of the theorems about times over every list of calls: walks along the book's wires are walks along the graph's, and its blocks are the
-- graph's. The statements stand in TimingTheorems.
use Rattle.std.specs.Prelude.{◌≡◌, true, false, ◌↔◌, ℕ, ◌+◌, ◌-◌, ◌≤◌, length, set, Ok, Err}
use Rattle.std.proofs.Common.{sym, ap, ◌∙◌, subst, arith}
use Rattle.std.proofs.lemmas.Bool.{false_from_ne_true}
use mathlib.Core.List.{List, [], ◌∷◌}
use Rattle.port_tables.specs.Limits.{node_slots}
use Rattle.port_tables.specs.Lists.{Member, range}
use Rattle.portgraph.specs.Model.{Model}
use Rattle.multiportgraph.specs.WellFormed.{Fine}
use Rattle.port_tables.specs.Listing.{member_filter}
use Rattle.multiportgraph.specs.Wires.{is_block, blocks}
use Rattle.multi_tables.specs.declared.answers.Refusal.{Refusal}
use Rattle.port_tables.specs.declared.release.Release.{Release}
use Rattle.theorems.specs.Book.{Call}
use Rattle.theorems.proofs.CallLaws.{rel_run}
use Rattle.theorems.specs.History.{run}
use Rattle.theorems.specs.ListingClaims.{InBook}
use Rattle.theorems.proofs.StartLaws.{start_at_node_refused}
use Rattle.theorems.proofs.PortListing.{blocks_list}
use Rattle.theorems.proofs.Theorems.{wire_rule, blocks_are_booked}
use Rattle.timing.specs.Longest.{time_in, feeds_in, feeders, comes, longest_of}
use Rattle.timing.specs.RunOrder.{run_order}
use Rattle.timing.specs.Path.{path_of}
use Rattle.timing.specs.Settling.{settled, path_among}
use Rattle.timing.specs.TimingClaims.{Feeds, Leads, WalkTo, CycleReaches, sum_along, RightOrder}
use Rattle.timing.specs.WalkLaws as walks
use Rattle.timing.specs.FeedLaws as graphs
use Rattle.timing.specs.RunOrderLaws as orders
use Rattle.timing.specs.TimingLaws as laws
use Rattle.timing.specs.declared.answers.LongestError.TheVariants.{Refused, BadTimes, Cycle}
use Rattle.theorems.specs.Conditions.{NodeRefused}

-- Walks along the book's wires are walks along the graph's.
module _ (release : Release) (calls : List Call) where
  walk_booked : (a n : ℕ) (l : List ℕ) → Leads (λ p q. Member p (feeders (feeds_in (run release calls).graph) q)) a n l → Leads (Feeds (run release calls).book.wires) a n l
  walk_booked = walks.leads_by _ _ (laws.fed_feeds (run release calls).graph (run release calls).book.wires (wire_rule release calls).booked (wire_rule release calls).walks)

  booked_walk : (a n : ℕ) (l : List ℕ) → Leads (Feeds (run release calls).book.wires) a n l → Leads (λ p q. Member p (feeders (feeds_in (run release calls).graph) q)) a n l
  booked_walk = walks.leads_by _ _ (laws.feeds_fed (run release calls).graph (run release calls).book.wires (wire_rule release calls).booked (wire_rule release calls).walks)

  -- so are the blocks
  block_booked : (n : ℕ) → Member n (blocks (run release calls).graph) → InBook (run release calls).book n
  unfolding blocks
  block_booked n i = (blocks_are_booked release calls n).0 (member_filter (is_block (run release calls).graph) n (range 0 node_slots) i).1

  booked_block : (n : ℕ) → InBook (run release calls).book n → Member n (blocks (run release calls).graph)
  booked_block n b =
      let r = (rel_run release calls).1 in
      let k = r.blocks.right b.0 b.1 in
      subst (λ (x : ℕ). Member x (blocks (run release calls).graph)) b.2 ((blocks_list r.fine).all b.0.node k.0 k.1)

  cycle_booked : (n : ℕ) → CycleReaches (λ p q. Member p (feeders (feeds_in (run release calls).graph) q)) n → CycleReaches (Feeds (run release calls).book.wires) n
  cycle_booked n (a, b, l, on, x, y) = (a, b, l, on, walk_booked a a (b ∷ l) x, walk_booked a n on y)

  booked_cycle : (n : ℕ) → CycleReaches (Feeds (run release calls).book.wires) n → CycleReaches (λ p q. Member p (feeders (feeds_in (run release calls).graph) q)) n
  booked_cycle n (a, b, l, on, x, y) = (a, b, l, on, booked_walk a a (b ∷ l) x, booked_walk a n on y)

  order_booked : (order : List ℕ) → RightOrder (λ n. Member n (blocks (run release calls).graph)) (λ p q. Member p (feeders (feeds_in (run release calls).graph) q)) order →
      RightOrder (InBook (run release calls).book) (Feeds (run release calls).book.wires) order
  order_booked order r =
      record {
        only = λ n i. block_booked n (r.only n i);
        all = λ n b. r.all n (booked_block n b);
        once = r.once;
        forward = λ a b k. r.forward a b (laws.feeds_fed (run release calls).graph (run release calls).book.wires (wire_rule release calls).booked (wire_rule release calls).walks a b k);
      }

  booked_order : (order : List ℕ) → RightOrder (InBook (run release calls).book) (Feeds (run release calls).book.wires) order →
      RightOrder (λ n. Member n (blocks (run release calls).graph)) (λ p q. Member p (feeders (feeds_in (run release calls).graph) q)) order
  booked_order order r =
      record {
        only = λ n i. booked_block n (r.only n i);
        all = λ n i. r.all n (block_booked n i);
        once = r.once;
        forward = λ a b k. r.forward a b (laws.fed_feeds (run release calls).graph (run release calls).book.wires (wire_rule release calls).booked (wire_rule release calls).walks a b k);
      }

-- The largest sum.

-- It is the sum of some walk along the book's wires that ends at the block, and no such walk has a larger one.
pub longest_is_largest : (release : Release) (calls : List Call) (n : ℕ) (times : List ℕ) (s : ℕ) → longest_of (run release calls).graph n times ≡ Ok s →
    ((l : List ℕ) × WalkTo (run release calls).book.wires n l × (sum_along (time_in times) l ≡ s))
    × ((l : List ℕ) → WalkTo (run release calls).book.wires n l → sum_along (time_in times) l ≤ s)
longest_is_largest release calls n times s e =
    let m = (run release calls).graph in
    let c = laws.summed m n times s e in
    let w = walks.sum_some (feeds_in m) (time_in times) node_slots n in
    ((w.0 ∷ w.1, walk_booked release calls w.0 n w.1 w.2, w.3 ∙ sym c.sum), λ l k. most l k c)
  where
    most : (l : List ℕ) → WalkTo (run release calls).book.wires n l → laws.Summed (run release calls).graph n times s → sum_along (time_in times) l ≤ s
    most [] never c = absurd never
    most (a ∷ l) k c =
        let m = (run release calls).graph in
        let f = (rel_run release calls).1.fine in
        let h = laws.largest f n times c.short a l (booked_walk release calls a n l k) in
        let q = c.sum in
        omega arith

-- One block's time raised or lowered by some amount: there is still a sum, and it has moved by no more than that amount.
pub longest_moves_by_at_most : (release : Release) (calls : List Call) (n : ℕ) (times : List ℕ) (b time by s : ℕ) → time ≤ time_in times b + by → time_in times b ≤ time + by →
    longest_of (run release calls).graph n times ≡ Ok s → (r : ℕ) × (longest_of (run release calls).graph n (set times b time) ≡ Ok r) × (r ≤ s + by) × (s ≤ r + by)
longest_moves_by_at_most release calls n times b time by s h k e = laws.moved (rel_run release calls).1.fine n times b time by s h k e

-- A path that has it: a walk along the book's wires that ends at the block, with this sum, of at most as many blocks as there are slots.
pub path_is_longest : (release : Release) (calls : List Call) (n : ℕ) (times : List ℕ) (s : ℕ) → longest_of (run release calls).graph n times ≡ Ok s →
    WalkTo (run release calls).book.wires n (path_of (run release calls).graph n times) × (sum_along (time_in times) (path_of (run release calls).graph n times) ≡ s)
    × (length (path_of (run release calls).graph n times) ≤ node_slots)
path_is_longest release calls n times s e =
    let m = (run release calls).graph in
    let p = laws.path_has (rel_run release calls).1.fine n times s e in (
      subst (WalkTo (run release calls).book.wires n) (sym p.2) (walk_booked release calls p.0 n p.1 p.3),
      ap (sum_along (time_in times)) p.2 ∙ p.4,
      unfold path_of path_among in (let h = laws.path_length (settled (feeds_in m) times).origin (node_slots - 1) n [] in omega arith),
    )

-- The refusals.

-- 4 and 5 as for a removal: not live, hidden; they come first.
pub longest_refused_exactly : (release : Release) (calls : List Call) (n : ℕ) (times : List ℕ) (r : Refusal) (M : Model) → Fine (run release calls).graph M →
    (longest_of (run release calls).graph n times ≡ Err (Refused r)) ↔ NodeRefused (run release calls).graph M n r
longest_refused_exactly release calls n times r M f =
    let a = laws.refuses (run release calls).graph n times r in
    let b = start_at_node_refused f n r in
    ((λ e. b.0 (a.0 e)), (λ h. a.1 (b.1 h)))

-- 19, of a block: exactly if the list does not have one time for each slot, whatever cycles there are.
pub bad_times_exactly : (release : Release) (calls : List Call) (n : ℕ) (times : List ℕ) → InBook (run release calls).book n →
    (longest_of (run release calls).graph n times ≡ Err BadTimes) ↔ (length times ≡ node_slots → ⊥)
bad_times_exactly release calls n times b =
    laws.bad_times (run release calls).graph n times (laws.started_block (rel_run release calls).1.fine n (booked_block release calls n b))

-- 20, of a block and such a list: exactly if a walk of at least one wire from some block to itself can be continued to the block named.
pub cycle_exactly : (release : Release) (calls : List Call) (n : ℕ) (times : List ℕ) → InBook (run release calls).book n → length times ≡ node_slots →
    (longest_of (run release calls).graph n times ≡ Err Cycle) ↔ CycleReaches (Feeds (run release calls).book.wires) n
cycle_exactly release calls n times b l =
    let m = (run release calls).graph in
    let f = (rel_run release calls).1.fine in
    let i = booked_block release calls n b in
    let c = laws.cycles m n times (laws.started_block f n i) l in (
      (λ e. cycle_booked release calls n (walks.comes_cycle_reaches (feeds_in m) node_slots (graphs.feeders_below f) n (graphs.block_below f n i) (c.0 e))),
      (λ h. c.1 (walks.cycle_reaches_comes (feeds_in m) n (booked_cycle release calls n h) node_slots)),
    )

-- Run orders.

-- Yes exactly if the order names each block of the book once and nothing else, and every wire of the book goes from an earlier to a later one.
pub run_order_exactly : (release : Release) (calls : List Call) (order : List ℕ) →
    (run_order (run release calls).graph order ≡ true) ↔ RightOrder (InBook (run release calls).book) (Feeds (run release calls).book.wires) order
run_order_exactly release calls order =
    let m = (run release calls).graph in (
      (λ e. order_booked release calls order (orders.run_order_right m order e)),
      (λ r. orders.right_run_order m order (booked_order release calls order r)),
    )

-- Some order gets yes exactly if no block gives 20, with any list of times that has one for each slot.
pub some_order_exactly : (release : Release) (calls : List Call) (times : List ℕ) → length times ≡ node_slots →
    ((order : List ℕ) × (run_order (run release calls).graph order ≡ true)) ↔ ((n : ℕ) → InBook (run release calls).book n → longest_of (run release calls).graph n times ≡ Err Cycle → ⊥)
some_order_exactly release calls times l =
    let m = (run release calls).graph in
    let f = (rel_run release calls).1.fine in (
      (λ o n b e. orders.right_order_no_cycle _ _ o.0 ((run_order_exactly release calls o.0).0 o.1) n ((cycle_exactly release calls n times b l).0 e)),
      (λ h. laws.order_found f (λ n i. no_cycle n i (λ c. h n (block_booked release calls n i) ((laws.cycles m n times (laws.started_block f n i) l).1 c)))),
    )
  where
    no_cycle : (n : ℕ) → Member n (blocks (run release calls).graph) → (comes (feeds_in (run release calls).graph) node_slots n ≡ true → ⊥) → comes (feeds_in (run release calls).graph) node_slots n ≡ false
    no_cycle n i h = false_from_ne_true _ h
