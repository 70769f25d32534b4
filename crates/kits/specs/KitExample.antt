-- A file that this kit loads and a former one refuses: the blocks of case J, two with the most ports and one with a port more.
use Rattle.std.specs.Prelude.{◌≡◌, List, [], ◌∷◌, map, ◌+◌, ◌≤◌, ◌<◌, Result, Ok, Err}
use Rattle.std.proofs.Common.{sym, ap, subst, inl, inr, arith}
use Rattle.port_tables.specs.Limits.{present}
use Rattle.port_tables.specs.Lists.{Member}
use Rattle.portgraph.specs.GoodLaws.{empty_model}
use Rattle.multiportgraph.specs.Graph.{empty_graph}
use Rattle.multiportgraph.specs.LinkCutLaws.{fine_empty}
use Rattle.port_tables.specs.declared.release.Release.{Release}
use Rattle.multi_tables.specs.declared.answers.Refusal.TheVariants.{NoRoom}
use Rattle.theorems.specs.Book.{empty_book}
use Rattle.theorems.specs.History.{State, run_under}
use Rattle.files.specs.View.{BlockPorts, View}
use Rattle.files.specs.Layout.{Record, block_record, bytes_of, unbytes, FieldsFit, ViewFits}
use Rattle.files.specs.Loading.{first_port, add_of, build_of, first_refusal, graph_if, load_answer, load_answer_under, load_graph, load_graph_under}
use Rattle.files.specs.MergeLaws.{unwired_sound}
use Rattle.files.specs.LayoutLaws.{view_read_back}
use Rattle.files.specs.LaidAgain.{written_laid}
use Rattle.files.specs.NextSlots.{adds_laid, none_free_at_first}
use Rattle.files.specs.BuildRefusals.{BlocksFit, fitting_added}
use Rattle.files.specs.declared.load.LoadError.{LoadError}
use Rattle.files.specs.declared.load.LoadError.TheVariants.{Refused}
use Rattle.kits.specs.Kits.{former, Lower, Past, past_ports}
use Rattle.kits.specs.KitLaws.{refuses_larger}

abbrev wide : BlockPorts
wide = record { incoming = 512; outgoing = 512 }

abbrev narrow : BlockPorts
narrow = record { incoming = 0; outgoing = 1 }

abbrev blocks_j : List BlockPorts
blocks_j = wide ∷ wide ∷ narrow ∷ []

abbrev pub case_j : View
case_j = record { blocks = blocks_j; wires = [] }

abbrev start : Release → State
start release = record { graph = empty_graph release; book = empty_book }

fields_fit : ViewFits case_j
fields_fit = (fits, λ r i. absurd i)
  where
    of : (r : Record) → r.a < 65536 → r.b < 65536 → r.c < 65536 → r.d < 65536 → FieldsFit r
    of r a b c d = record { a = a; b = b; c = c; d = d }

    fits : (r : Record) → Member r (map block_record blocks_j) → FieldsFit r
    fits r (inl e) = subst FieldsFit (sym e) (of _ (omega arith) (omega arith) (omega arith) (omega arith))
    fits r (inr (inl e)) = subst FieldsFit (sym e) (of _ (omega arith) (omega arith) (omega arith) (omega arith))
    fits r (inr (inr (inr never))) = absurd never
    fits r (inr (inr (inl e))) = subst FieldsFit (sym e) (of _ (omega arith) (omega arith) (omega arith) (omega arith))

blocks_fit : BlocksFit blocks_j
unfolding first_port
blocks_fit = record { few = few; nodes = omega arith; ports = omega arith }
  where
    few : (b : BlockPorts) → Member b blocks_j → b.incoming + b.outgoing ≤ 1024
    few b (inl e) = let x = ap (λ (c : BlockPorts). c.incoming + c.outgoing) e in omega arith
    few b (inr (inl e)) = let x = ap (λ (c : BlockPorts). c.incoming + c.outgoing) e in omega arith
    few b (inr (inr (inr never))) = absurd never
    few b (inr (inr (inl e))) = let x = ap (λ (c : BlockPorts). c.incoming + c.outgoing) e in omega arith

added : (release : Release) → first_refusal (empty_graph release) (map add_of blocks_j) ≡ Ok tt
added release = fitting_added release blocks_j blocks_fit

loads : (release : Release) → load_answer release (bytes_of case_j) ≡ Ok tt
unfolding load_answer_under build_of
loads release =
    let w = written_laid case_j fields_fit (unwired_sound blocks_j) in
    rw (w.0, w.1, view_read_back case_j fields_fit) (added release)

past : (release : Release) → Past former (load_graph release (bytes_of case_j)).graph
unfolding load_graph_under build_of run_under first_port
past release =
    let a = adds_laid blocks_j (start release) empty_model 0 0 (fine_empty release) none_free_at_first (added release) in
    let l = a.fine.holds.port_len in
    let n = a.none.port_len in
    rw (loads release, view_read_back case_j fields_fit) (past_ports (omega arith))

-- It loads here; a former kit says 10, and has nothing.
pub case_j_file : (low : Lower former present) (release : Release) →
    (load_answer release (bytes_of case_j) ≡ Ok tt) × (load_answer_under former release (bytes_of case_j) ≡ Err (Refused NoRoom)) × (load_graph_under former release (bytes_of case_j) ≡ empty_graph release)
unfolding load_graph_under
case_j_file low release =
    let r = (refuses_larger low release (bytes_of case_j) (loads release)).1 (past release) in
    (loads release, r, ap (λ (v : Result (Unit {0}) LoadError). graph_if release v (run_under former release (build_of (unbytes (bytes_of case_j)))).graph) r)
