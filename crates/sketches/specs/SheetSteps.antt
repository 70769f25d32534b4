-- A sheet over the tables: the entries that are left, on the tables as they are, amount to the whole.
use Rattle.std.specs.Prelude.{◌≡◌, refl, List, [], ◌++◌, ℕ, ◌≤◌, ◌<◌, length, min, take, drop, Result, Ok, Err}
use Rattle.std.proofs.Common.{sym, subst, ap, ◌∙◌, append-nil, arith, take_all, lt-ltb, le-ltb}
use Rattle.std.proofs.Math.ListN.{drop_of_length-le}
use Rattle.std.proofs.Math.Seq.{take-append_seam, drop-append_seam}
use Rattle.sketches.specs.Plan.{Plan}
use Rattle.sketches.specs.PlanCalls.{Sketched, leaves, sheet_entries, sheet_plan, sheet_answered, sheet}
use Rattle.sketches.specs.PlanNumbers.{sheet_numbers}
use Rattle.sketches.specs.Held.{Held, plan_of}
use Rattle.sketches.specs.declared.sketch.TooManyEntries.{TooManyEntries}
use Rattle.sketches.specs.declared.sketch.SheetEntry.{SheetEntry}
use Rattle.sketches.specs.CallParts.{SheetLeaves, sheet_places, FirstLeaves}

sheet_long : (K : Plan) (l : List SheetEntry) → sheet_entries < length l → sheet K l ≡ leaves K (Err (record {}))
unfolding sheet
sheet_long K l h = rw (lt-ltb sheet_entries (length l) h)

sheet_done : (K : Plan) (l : List SheetEntry) → length l ≤ sheet_entries → sheet K l ≡ leaves (sheet_plan K l) (Ok tt)
unfolding sheet
sheet_done K l h = rw (le-ltb sheet_entries (length l) h)

pub too_long : (k : Held) (es : List SheetEntry) → sheet_entries < length es → SheetLeaves (plan_of k) es k es (Err (record {}))
too_long k es l =
    let e = sym (sheet_long (plan_of k) es l) in
    record {
      plan = ap (λ (c : Sketched (Result (Unit {0}) TooManyEntries)). c.plan) e;
      answered = ap (λ (c : Sketched (Result (Unit {0}) TooManyEntries)). c.answer) e;
      numbered = ap (λ (c : Sketched (Result (Unit {0}) TooManyEntries)). sheet_numbers c.answer) e;
      answers = λ q. absurd (omega arith);
      untouched = λ q. refl;
    }

-- The loop: the entries before a place have their answers, and the others are as they were.

pub record Sheeting (K : Plan) (es : List SheetEntry) (k : Held) (done : List SheetEntry) (i : ℕ) : Type 0 where
  pub long : length done ≡ length es
  pub plan : sheet_plan (plan_of k) (drop i es) ≡ sheet_plan K es
  pub answers : take i done ++ sheet_answered (plan_of k) (drop i es) ≡ sheet_answered K es
  pub rest : drop i done ≡ drop i es

pub sheeting_ends : {K : Plan} {es : List SheetEntry} {k : Held} {done : List SheetEntry} {i : ℕ} → length es ≤ sheet_entries → Sheeting K es k done i → length done ≤ i → SheetLeaves K es k done (Ok tt)
unfolding sheet_plan sheet_answered
sheeting_ends {K} {es} {k} {done} {i} l c h =
    let long = c.long in
    let e = sym (sheet_done K es l) in
    let n : drop i es ≡ [] = drop_of_length-le es (omega arith) in
    let t : take i done ≡ done = take_all i done h in
    let whole : plan_of k ≡ sheet_plan K es = sym (ap (sheet_plan (plan_of k)) n) ∙ c.plan in
    let all : done ≡ sheet_answered K es = sym (append-nil done) ∙ ap (λ (z : List SheetEntry). z ++ []) (sym t) ∙ sym (ap (λ (z : List SheetEntry). take i done ++ sheet_answered (plan_of k) z) n) ∙ c.answers in
    record {
      plan = whole ∙ ap (λ (c : Sketched (Result (Unit {0}) TooManyEntries)). c.plan) e;
      answered = ap (λ (c : Sketched (Result (Unit {0}) TooManyEntries)). c.answer) e;
      numbered = ap (λ (c : Sketched (Result (Unit {0}) TooManyEntries)). sheet_numbers c.answer) e;
      answers = λ z. all;
      untouched = λ z. absurd (omega arith);
    }

-- The sheet is the first of a caller's places.
pub first_leaves : {K : Plan} {k : Held} {places part : List SheetEntry} {answer : Result (Unit {0}) TooManyEntries} (n count : ℕ) → n ≡ min count sheet_places → length part ≡ n →
    SheetLeaves K (take n places) k part answer → FirstLeaves K places count k (part ++ drop n places) answer
first_leaves {K} {k} {places} {part} {answer} n count e l s =
    let front : take n (part ++ drop n places) ≡ part = ap (λ (m : ℕ). take m (part ++ drop n places)) (sym l) ∙ take-append_seam part (drop n places) in
    let rest : drop n (part ++ drop n places) ≡ drop n places = ap (λ (m : ℕ). drop m (part ++ drop n places)) (sym l) ∙ drop-append_seam part (drop n places) in
    record {
      sheet =
          subst
          (λ (m : ℕ). SheetLeaves K (take m places) k (take m (part ++ drop n places)) answer)
          e
          (subst (λ (p : List SheetEntry). SheetLeaves K (take n places) k p answer) (sym front) s);
      others = subst (λ (m : ℕ). drop m (part ++ drop n places) ≡ drop m places) e rest;
    }
