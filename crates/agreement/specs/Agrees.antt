-- Every history that is asked for: both agree, from the squares of all pairs of calls.
use Rattle.std.specs.Prelude.{◌≡◌, refl, Bool, cond, List, [], ◌∷◌, ◌<◌, ◌≤◌, length, Result, Ok, Err}
use Rattle.std.proofs.Math.Path.{sym, subst}
use Rattle.std.proofs.Common.{◌∙◌, arith}
use Rattle.std.proofs.Math.Bool.{true, false}
use Rattle.std.proofs.Math.Dec.{ltb}
use borrow.Author.Tests.{lt-ltb, le-ltb, ltb-true, ltb-false}
use Rattle.portgraph.specs.GoodLaws.{empty_model}
use Rattle.portgraph.specs.Model.{Model}
use Rattle.multiportgraph.specs.Graph.{empty_graph}
use Rattle.multiportgraph.specs.LinkCutLaws.{empty_has_no_block}
use Rattle.port_tables.specs.declared.release.Release.{Release}
use Rattle.theorems.specs.Book.{Call}
use Rattle.theorems.specs.History.{run_from, run_from_under, run_under}
use Rattle.theorems.proofs.WireRule.{rel_start}
use Rattle.sheets.specs.Sheets.{too_many, answered}
use Rattle.sheets.specs.SheetHistory.{links_of}
use Rattle.sheets.specs.Theorems.{sheet_is_links, too_long_counts_nothing}
use Rattle.sheets.specs.declared.sheet.SheetEntry.{SheetEntry}
use Rattle.sketches.specs.Plan.{Plan}
use Rattle.sketches.specs.PlanCalls.{Sketched, leaves, sheet_entries, sheet_plan, sheet_answered, sheet}
use Rattle.agreement.specs.Meaning.{PlanCall, Both, start, next_both, Means, means_add, means_remove, means_set, means_link, means_link_clean, means_link_sub, means_cut, means_cut_sub, means_tidy}
use Rattle.agreement.specs.Histories.{PlanEntry, PairItem, calls, sheets, next_item, after, entry_pair, MeantEntries, MeantSheet, MeantItem, Meant, EntriesAlike, SheetsAlike, AnsweredAlike, Agreed}
use Rattle.agreement.specs.Alike.{Alike}
use Rattle.agreement.specs.Square.{Square}
use Rattle.agreement.specs.AddSquare.{add_square}
use Rattle.agreement.specs.RemoveSquare.{remove_square}
use Rattle.agreement.specs.SetSquare.{set_square}
use Rattle.agreement.specs.LinkSquare.{link_square}
use Rattle.agreement.specs.LinkCleanSquare.{link_clean_square}
use Rattle.agreement.specs.LinkSubSquare.{link_sub_square}
use Rattle.agreement.specs.CutSquares.{cut_square, cut_sub_square}
use Rattle.agreement.specs.TidySquare.{tidy_square}
use Rattle.agreement.specs.LooksWalks.{looks_alike}
use Rattle.sketches.specs.declared.sketch.TooManyEntries.{TooManyEntries}

-- all squares
pub square : {b : Both} {M : Model} {c : Call} {k : PlanCall} (means : Means b c k) → Square b M means
square (means_add i o) = add_square i o
square (means_remove n k m) = remove_square n k m
square (means_set n k i o room m) = set_square n k i o room m
square (means_link p q x y m l) = link_square p q x y m l
square (means_link_clean p q x y m l) = link_clean_square p q x y m l
square (means_link_sub p o q r x y m l) = link_sub_square p o q r x y m l
square (means_cut p x m) = cut_square p x m
square (means_cut_sub p o x m) = cut_sub_square p o x m
square (means_tidy p x m) = tidy_square p x m

-- at the start
pub start_alike : (release : Release) → Alike (start release) empty_model
unfolding run_under run_from_under empty_graph
start_alike release =
    record {
      rel = rel_start release;
      release = refl;
      apart = tt;
      given = λ x i. absurd i;
      named = λ x i. absurd i;
      kit_named = λ n k h. absurd (empty_has_no_block release n k h);
      plan_named = λ p i. absurd i;
      plan_once = tt;
      subports = λ x s n i e. absurd i;
      splits_there = λ s i. absurd i;
      wires = refl;
    }

-- Sheets.

-- a sheet of the sketch, by whether it is too long
abbrev tested : Plan → List PlanEntry → Bool → Sketched (Result (Unit {0}) TooManyEntries)
tested K ps t = cond t (leaves K (Err (record {}))) (leaves (sheet_plan K ps) (Ok tt))

-- both after the links of a sheet, made one at a time
linked : Both → List SheetEntry → List PlanEntry → Both
linked b [] ps = b
linked b (e ∷ es) [] = b
linked b (e ∷ es) (p ∷ ps) = linked (next_both b (entry_pair e p)) es ps

linked_is : (b : Both) (es : List SheetEntry) (ps : List PlanEntry) → MeantEntries b es ps →
    linked b es ps ≡ record { kit = run_from b.kit (links_of es); names = b.names; plan = sheet_plan b.plan ps }
unfolding linked run_from_under sheet_plan
linked_is b [] [] m = refl
linked_is b [] (p ∷ ps) m = absurd m
linked_is b (e ∷ es) [] m = absurd m
linked_is b (e ∷ es) (p ∷ ps) m = linked_is (next_both b (entry_pair e p)) es ps m.3

-- the entries are answered alike, and leave both alike
entries_agree : (b : Both) (M : Model) → Alike b M → (es : List SheetEntry) (ps : List PlanEntry) → MeantEntries b es ps →
    EntriesAlike b es ps (answered b.kit.graph es) (sheet_answered b.plan ps) × ((N : Model) × Alike (linked b es ps) N)
unfolding linked answered sheet_answered
entries_agree b M a [] [] m = (tt, (M, a))
entries_agree b M a [] (p ∷ ps) m = absurd m
entries_agree b M a (e ∷ es) [] m = absurd m
entries_agree b M a (e ∷ es) (p ∷ ps) m =
    let s = link_square {b = b} {M = M} e.port_a.0 e.port_b.0 p.from p.to m.0 m.1 a m.2 in
    let r = entries_agree (next_both b (entry_pair e p)) s.model s.alike es ps m.3 in
    ((s.answers, r.0), r.1)

module _ (b : Both) (M : Model) (a : Alike b M) (es : List SheetEntry) (ps : List PlanEntry) (m : MeantSheet b es ps) where
  -- a sheet of at most 64 entries
  short : length es ≤ 64 → SheetsAlike b es ps × ((N : Model) × Alike (next_item b (sheets es ps)) N)
  unfolding sheet
  short small =
      let r = entries_agree b M a es ps (m.1 small) in
      let t : too_many es ≡ false = le-ltb 64 (length es) small in
      let u : ltb sheet_entries (length ps) ≡ false = let q = m.0 in le-ltb 64 (length ps) (omega arith) in
      let is : linked b es ps ≡ next_item b (sheets es ps) =
      linked_is b es ps (m.1 small)
      ∙ (λ i. record { kit = sym (sheet_is_links b.kit es small) i; names = b.names; plan = (tested b.plan ps (sym u i)).plan }) in (
        record {
          number = rw (t, u) refl;
          entries = λ q. rw t r.0;
          refused = λ q. absurd (omega arith);
        },
        (r.1.0, subst (λ (c : Both). Alike c r.1.0) is r.1.1),
      )

  -- one of more
  long : 64 < length es → SheetsAlike b es ps × ((N : Model) × Alike (next_item b (sheets es ps)) N)
  unfolding sheet
  long large =
      let t : too_many es ≡ true = lt-ltb 64 (length es) large in
      let u : ltb sheet_entries (length ps) ≡ true = let q = m.0 in lt-ltb 64 (length ps) (omega arith) in
      let is : next_item b (sheets es ps) ≡ b =
      λ i. record { kit = too_long_counts_nothing b.kit es large i; names = b.names; plan = (tested b.plan ps (u i)).plan } in (
        record {
          number = rw (t, u) refl;
          entries = λ q. absurd (omega arith);
          refused = λ q. is;
        },
        (M, subst (λ (c : Both). Alike c M) (sym is) a),
      )

  sheet_agrees : SheetsAlike b es ps × ((N : Model) × Alike (next_item b (sheets es ps)) N)
  sheet_agrees = go (ltb 64 (length es)) refl
    where
      go : (t : Bool) → ltb 64 (length es) ≡ t → SheetsAlike b es ps × ((N : Model) × Alike (next_item b (sheets es ps)) N)
      go true e = long (ltb-true 64 (length es) e)
      go false e = short (ltb-false 64 (length es) e)

-- Items.

item_agrees : (b : Both) (M : Model) → Alike b M → (i : PairItem) (m : MeantItem b i) → AnsweredAlike b i m × ((N : Model) × Alike (next_item b i) N)
item_agrees b M a (calls p) m = let s = square m.0 a m.1 in (s.answers, (s.model, s.alike))
item_agrees b M a (sheets es ps) m = sheet_agrees b M a es ps m

agrees_from : (b : Both) (M : Model) → Alike b M → (items : List PairItem) (m : Meant b items) → Agreed b items m
agrees_from b M a [] m = looks_alike a
agrees_from b M a (i ∷ items) m = let r = item_agrees b M a i m.0 in (looks_alike a, r.0, agrees_from (next_item b i) r.1.0 r.1.1 items m.1)

-- both are alike after it
alike_from : (b : Both) (M : Model) → Alike b M → (items : List PairItem) → Meant b items → (N : Model) × Alike (after b items) N
alike_from b M a [] m = (M, a)
alike_from b M a (i ∷ items) m = let r = item_agrees b M a i m.0 in alike_from (next_item b i) r.1.0 r.1.1 items m.1

pub alike_history : (release : Release) (items : List PairItem) → Meant (start release) items → (N : Model) × Alike (after (start release) items) N
alike_history release items m = alike_from (start release) empty_model (start_alike release) items m

pub sketch_agrees : (release : Release) (items : List PairItem) (m : Meant (start release) items) → Agreed (start release) items m
sketch_agrees release items m = agrees_from (start release) empty_model (start_alike release) items m
