-- What is proved of the two releases: statements with a sentence each, over every list of calls. The words stand in ReleaseClaims, the proofs
-- in the files that each line names. When 18 is given stands in Conditions, and that it is given exactly then in Theorems
-- (`refused_under_condition`, `refused_under_no_other`).
use Rattle.std.specs.Prelude.{◌≡◌, false, List, ℕ}
use Rattle.port_tables.specs.Lists.{Member}
use Rattle.port_tables.specs.declared.direction.Direction.TheVariants.{Incoming}
use Rattle.multiportgraph.specs.Reading.{is_split, seen}
use Rattle.multi_tables.specs.Forms.{visible}
use Rattle.port_tables.specs.Places.{Wire}
use Rattle.multiportgraph.specs.declared.multiportgraph.MultiPortGraph.{MultiPortGraph}
use Rattle.port_tables.specs.declared.release.Release.{Release}
use Rattle.port_tables.specs.declared.release.Release.TheVariants.{One, Two}
use Rattle.theorems.specs.Book.{Call}
use Rattle.theorems.specs.History.{step, run}
use Rattle.theorems.specs.ReleaseClaims.{for_release, step_unchecked, stepped_for, number_of, answers, without18, calls_passed}
use Rattle.theorems.proofs.ReleaseRuns as runs
use Rattle.theorems.proofs.ReleaseHistory as history

-- A graph keeps the release that it is made for.
pub release_is_kept : (release : Release) (calls : List Call) → (run release calls).graph.release ≡ release
release_is_kept = runs.release_kept

-- Without the check of 18 the release plays no part: on a graph made for another release, each call gives the same answer and the same graph,
-- made for that release.
pub release_plays_no_other_part : (release : Release) (m : MultiPortGraph) (c : Call) → step_unchecked (for_release release m) c ≡ stepped_for release (step_unchecked m c)
release_plays_no_other_part = runs.unchecked_for

-- Under release 1 all is as before: every call is the one without that check, and none gives 18.
pub release_one_is_as_before : (calls : List Call) (c : Call) →
    (step (run One calls).graph c ≡ step_unchecked (run One calls).graph c) × (number_of c (step (run One calls).graph c).answer ≡ 18 → ⊥)
release_one_is_as_before = runs.one_is_as_before

-- Under release 2 no input is split: no live incoming port of a block has the mark.
pub release_two_never_splits_an_input : (calls : List Call) (p n : ℕ) → seen (run Two calls).graph p ≡ visible n Incoming → is_split (run Two calls).graph p ≡ false
release_two_never_splits_an_input = history.two_never_splits_an_input

-- An input takes one wire only: two wires of the book that end at the same block and position are one.
pub release_two_wires_an_input_once : (calls : List Call) (w v : Wire) → Member w (run Two calls).book.wires → Member v (run Two calls).book.wires →
    w.into.node ≡ v.into.node → w.into.pos ≡ v.into.pos → w ≡ v
release_two_wires_an_input_once = history.two_wires_an_input_once

-- Release 2 is release 1 without the calls that gave 18: run under release 1, the others give the answers that they gave, and leave the same
-- graph, but for its release, and the same book.
pub release_two_is_one_without_18 : (calls : List Call) →
    (answers One (calls_passed calls) ≡ without18 (answers Two calls))
    × ((run One (calls_passed calls)).graph ≡ for_release One (run Two calls).graph)
    × ((run One (calls_passed calls)).book ≡ (run Two calls).book)
release_two_is_one_without_18 = runs.two_is_one_without_18

-- So where 18 was not given the releases agree, call by call.
pub release_two_is_one_where_18_is_not_given : (calls : List Call) → without18 (answers Two calls) ≡ answers Two calls →
    (answers One calls ≡ answers Two calls) × ((run One calls).graph ≡ for_release One (run Two calls).graph) × ((run One calls).book ≡ (run Two calls).book)
release_two_is_one_where_18_is_not_given = runs.two_is_one
