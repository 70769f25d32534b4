-- Steps that the proof of `link_sheet` cites: the loop over the lent entries, by number, does what the sheet says.
use Rattle.std.specs.Prelude.{◌≡◌, refl, Bool, false, cond, List, [], ◌∷◌, ◌++◌, ℕ, zero, suc, ◌+◌, length, set, Ok, Err}
use Rattle.std.proofs.Common.{sym, ap, ◌∙◌, length-append}
use Rattle.std.proofs.Math.Seq.{get_or-append_seam, set-append_seam, append_snoc}
use Rattle.multiportgraph.specs.WellFormed.{MultiWf}
use Rattle.multiportgraph.specs.declared.multiportgraph.MultiPortGraph.{MultiPortGraph}
use Rattle.theorems.specs.Book.{link_call}
use Rattle.theorems.proofs.CallLaws.{step_kept}
use Rattle.sheets.specs.declared.sheet.SheetEntry.{SheetEntry}
use Rattle.sheets.specs.declared.sheet.SheetLinked.{SheetLinked}
use Rattle.sheets.specs.Sheets.{no_entry, entry_at, entry_linked, graph_after, answered, too_many, link_sheet, sheet_after, sheet_numbers, too_long}

-- Graph and entries, where k entries are left to do and i are done.

abbrev pub Sheet : Type 0
Sheet = MultiPortGraph × List SheetEntry

-- what the turn of an entry leaves
abbrev pub graph_next : MultiPortGraph → List SheetEntry → ℕ → MultiPortGraph
graph_next m es i = (entry_linked m (entry_at es i)).graph

abbrev pub entries_next : MultiPortGraph → List SheetEntry → ℕ → List SheetEntry
entries_next m es i = set es i (entry_linked m (entry_at es i)).entry

unfoldable pub finish : ℕ → ℕ → MultiPortGraph → List SheetEntry → Sheet
finish zero i m es = (m, es)
finish (suc k) i m es = finish k (i + 1) (graph_next m es i) (entries_next m es i)

-- The turns, one after the other, are the entries in order.

finish_from : (es ds : List SheetEntry) (m : MultiPortGraph) → finish (length es) (length ds) m (ds ++ es) ≡ (graph_after m es, ds ++ answered m es)
unfolding finish graph_after answered
finish_from [] ds m = refl
finish_from (e ∷ es) ds m =
    let y = (entry_linked m e).entry in
    let m₁ = (entry_linked m e).graph in
    ap {B = Sheet} (λ (x : SheetEntry). finish (length es) (length ds + 1) (entry_linked m x).graph (set (ds ++ (e ∷ es)) (length ds) (entry_linked m x).entry)) (get_or-append_seam ds e es no_entry)
    ∙ ap {B = Sheet} (λ (r : List SheetEntry). finish (length es) (length ds + 1) m₁ r) (set-append_seam ds e es y ∙ sym (append_snoc ds y es))
    ∙ ap {B = Sheet} (λ (n : ℕ). finish (length es) n m₁ ((ds ++ (y ∷ [])) ++ es)) (sym (length-append ds (y ∷ [])))
    ∙ finish_from es (ds ++ (y ∷ [])) m₁
    ∙ ap {B = Sheet} (λ r. (graph_after m₁ es, r)) (append_snoc ds y (answered m₁ es))

pub finish_is : (m : MultiPortGraph) (es : List SheetEntry) → finish (length es) 0 m es ≡ (graph_after m es, answered m es)
finish_is m es = finish_from es [] m

pub finish_one : (k i : ℕ) (m : MultiPortGraph) (es : List SheetEntry) → finish k (i + 1) (graph_next m es i) (entries_next m es i) ≡ finish (suc k) i m es
unfolding finish
finish_one k i m es = refl

pub finish_none : (i : ℕ) (m : MultiPortGraph) (es : List SheetEntry) → (m, es) ≡ finish zero i m es
unfolding finish
finish_none i m es = refl

-- a link keeps what every call presumes
pub entry_kept : (m : MultiPortGraph) (e : SheetEntry) → MultiWf m → MultiWf (entry_linked m e).graph
entry_kept m e wf = step_kept m (link_call e.port_a.0 e.port_b.0) wf

-- What the function leaves, by its test.

-- what its contract says, of a result and the entries at its end
abbrev pub Done? : MultiPortGraph → List SheetEntry → SheetLinked → List SheetEntry → Type 0
Done? m es r ys = (r ≡ link_sheet m es) × (ys ≡ sheet_after m es) × (sheet_numbers r.answer ≡ sheet_numbers (link_sheet m es).answer)

pub done_whole : (m : MultiPortGraph) (es : List SheetEntry) → too_many es ≡ false → (m₁ : MultiPortGraph) (ys : List SheetEntry) → (m₁, ys) ≡ finish (length es) 0 m es →
    Done? m es (record { graph = m₁; answer = Ok tt }) ys
done_whole m es h m₁ ys f =
    let g = f ∙ finish_is m es in
    let e : record { graph = m₁; answer = Ok tt } ≡ link_sheet m es =
    ap {B = SheetLinked} (λ (s : Sheet). record { graph = s.0; answer = Ok tt }) g
    ∙ sym (ap {B = SheetLinked} (λ (b : Bool). cond b (record { graph = m; answer = Err too_long }) (record { graph = graph_after m es; answer = Ok tt })) h) in
    (e, ap {B = List SheetEntry} (λ (s : Sheet). s.1) g ∙ sym (ap {B = List SheetEntry} (λ (b : Bool). cond b es (answered m es)) h), ap {B = List ℕ} (λ (r : SheetLinked). sheet_numbers r.answer) e)
