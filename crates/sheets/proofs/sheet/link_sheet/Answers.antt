-- `sheet::link_sheet` meets its contract: one entry more is done, and what all leave.
use Rattle.std.proofs.Common.{List, ℕ, ◌≡◌, ◌+◌, ◌-◌, ◌<◌, suc, length, arith, ap, sym, subst, ◌∙◌}
use Rattle.std.proofs.Math.ListN.{set, length-set}
use Rattle.std.proofs.lemmas.List.{get_or_default}
use Rattle.std.proofs.lemmas.Bool.{le-ltb}
use Rattle.multiportgraph.specs.WellFormed.{MultiWf}
use Rattle.multiportgraph.specs.declared.multiportgraph.MultiPortGraph.{MultiPortGraph}
use Rattle.multiportgraph.specs.declared.multiportgraph.PortsLinked.{PortsLinked}
use Rattle.sheets.specs.declared.sheet.SheetEntry.{SheetEntry}
use Rattle.sheets.specs.Sheets.{EntryLinked, no_entry, entry_at, entry_linked, link_of, with_answer}
use Rattle.sheets.specs.SheetSteps.{Sheet, finish, finish_one, finish_none, entry_kept, done_whole}
use Rattle.sheets.proofs.sheet.link_sheet.Goals as goal

-- what holds after the turn of an entry
Turned : Sheet → List SheetEntry → ℕ → EntryLinked → Type 0
Turned all es i r =
    MultiWf r.graph × (finish (length (set es i r.entry) - (i + 1)) (i + 1) r.graph (set es i r.entry) ≡ all)

turned : (all : Sheet) (m : MultiPortGraph) (es : List SheetEntry) (i : ℕ) → MultiWf m → i < length es → finish (length es - i) i m es ≡ all →
    Turned all es i (entry_linked m (entry_at es i))
unfolding Turned
turned all m es i w h f =
    let l = length-set es i (entry_linked m (entry_at es i)).entry in
    let k : suc (length es - (i + 1)) ≡ length es - i = omega arith in (
      entry_kept m (entry_at es i) w,
      ap (λ (n : ℕ). finish (n - (i + 1)) (i + 1) (entry_linked m (entry_at es i)).graph (set es i (entry_linked m (entry_at es i)).entry)) l
          ∙ (finish_one (length es - (i + 1)) i m es ∙ (ap (λ (n : ℕ). finish n i m es) k ∙ f)),
    )

-- an entry that has its answer
abbrev done : PortsLinked → SheetEntry → EntryLinked
done r e = record { graph = r.graph; entry = with_answer e r.answer }

done_as : (m : MultiPortGraph) {r : PortsLinked} {x y : SheetEntry} → r ≡ link_of m x → x ≡ y → done r x ≡ entry_linked m y
done_as m {x = x} e q = ap (λ (r : PortsLinked). done r x) e ∙ ap (entry_linked m) q

pub loop-entry-preserved : goal.loop-entry-preserved
unfolding Turned
loop-entry-preserved c =
    let q = get_or_default c.loop-entry.sheet c.loop-entry.entry-index _ no_entry (omega arith) in
    subst (Turned _ c.loop-entry.sheet c.loop-entry.entry-index) (sym (done_as c.loop-entry.after c.link_ports-linked.ensures.0 q))
    (turned _ c.loop-entry.after c.loop-entry.sheet c.loop-entry.entry-index c.loop-entry.invariant.0 (omega arith) c.loop-entry.invariant.1)

pub returns : goal.returns
returns c =
    let n : length c.loop-entry.sheet - c.loop-entry.entry-index ≡ 0 = omega arith in
    done_whole c.args.graph c.args.sheet.now (le-ltb 64 (length c.args.sheet.now) c.if-sheet-gt-SHEET_ENTRIES.false) c.loop-entry.after c.loop-entry.sheet
    (finish_none c.loop-entry.entry-index c.loop-entry.after c.loop-entry.sheet ∙ (ap (λ (k : ℕ). finish k c.loop-entry.entry-index c.loop-entry.after c.loop-entry.sheet) (sym n) ∙ c.loop-entry.invariant.1))
