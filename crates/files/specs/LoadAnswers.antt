-- The answers of a load, case by case.
use Rattle.std.specs.Prelude.{◌≡◌, Bool, true, false, cond, List, ◌∷◌, ◌↔◌, ◌⊎◌, ℕ, ◌+◌, ◌*◌, ◌≤◌, ◌<◌, length, Result, Ok, Err}
use Rattle.std.proofs.Math.Path.{refl, ap}
use Rattle.std.proofs.Common.{sym, subst, inl, inr, ⊎_elim}
use native.Mathlib.Omega.{arith}
use Rattle.port_tables.specs.Limits.{node_slots, port_slots, node_ports}
use Rattle.port_tables.specs.Lists.{Member}
use Rattle.portgraph.specs.Model.{Model, Slots, live, gone, count_of}
use Rattle.port_tables.specs.declared.direction.Direction.TheVariants.{Incoming, Outgoing}
use Rattle.multiportgraph.specs.WellFormed.{Fine}
use Rattle.multiportgraph.specs.Ends.{count_of_lem}
use Rattle.port_tables.specs.Listing.{member_map, member_right}
use Rattle.multiportgraph.specs.Wires.{blocks}
use Rattle.multiportgraph.specs.declared.multiportgraph.MultiPortGraph.{MultiPortGraph}
use Rattle.port_tables.specs.declared.release.Release.{Release}
use Rattle.port_tables.specs.declared.release.Release.TheVariants.{Two}
use Rattle.multi_tables.specs.declared.answers.Refusal.{Refusal}
use Rattle.multi_tables.specs.declared.answers.Refusal.TheVariants.{NoRoom, InputWired}
use Rattle.multiportgraph.specs.Graph.{empty_graph}
use Rattle.theorems.specs.Book.{Call}
use Rattle.theorems.specs.History.{run}
use Rattle.theorems.proofs.CallLaws.{rel_run}
use Rattle.files.specs.View.{BlockPorts, View, block_ports, view_of}
use Rattle.files.specs.Layout.{bytes_of, unbytes}
use Rattle.files.specs.LayoutLaws.{view_read_back}
use Rattle.files.specs.ViewLaws.{view_fits, view_walked, view_within, wires_few}
use Rattle.files.specs.ViewSound.{view_sound}
use Rattle.files.specs.LaidAgain.{written_laid}
use Rattle.files.specs.BuildLaws.{loaded_or_refused, built_view}
use Rattle.files.specs.Saving.{file_of}
use Rattle.files.specs.Loading.{is_whole, is_laid, build_of, first_refusal, load_answer, load_answer_under, graph_if}
use Rattle.files.specs.SoundLaws.{laid_sound}
use Rattle.files.specs.LoadClaims.{SharesInput, BuildRefused, build_many, build_no_block, build_wired, build_no_wire}
use Rattle.files.specs.BuildRefusals.{build_refusals}
use Rattle.files.specs.declared.load.LoadError.{LoadError}
use Rattle.files.specs.declared.load.LoadError.TheVariants.{BadSums, BadLayout, Refused}

-- Which answer it is, as a number: no answer is another.
abbrev tag : Result (Unit {0}) LoadError → ℕ
tag (Ok _) = 0
tag (Err BadSums) = 1
tag (Err BadLayout) = 2
tag (Err (Refused r)) = 3

-- the answer by its two tests
abbrev chosen : Bool → Bool → Result (Unit {0}) LoadError → Result (Unit {0}) LoadError
chosen w l x = cond w (cond l x (Err BadLayout)) (Err BadSums)

-- a build is accepted or refused
abbrev Told : Result (Unit {0}) LoadError → Type 0
Told x = (x ≡ Ok tt) ⊎ ((r : Refusal) × (x ≡ Err (Refused r)))

told_tag : (x : Result (Unit {0}) LoadError) → Told x → (tag x ≡ 0) ⊎ (tag x ≡ 3)
told_tag x = ⊎_elim (λ e. inl (ap tag e)) (λ k. inr (ap tag k.1))

chosen_loaded : (w l : Bool) (x : Result (Unit {0}) LoadError) → chosen w l x ≡ Ok tt → (w ≡ true) × (l ≡ true) × (x ≡ Ok tt)
chosen_loaded true true x e = (refl, refl, e)
chosen_loaded true false x e = let h = ap tag e in absurd (omega arith)
chosen_loaded false l x e = let h = ap tag e in absurd (omega arith)

chosen_refused : (w l : Bool) (x : Result (Unit {0}) LoadError) (r : Refusal) → chosen w l x ≡ Err (Refused r) → (w ≡ true) × (l ≡ true) × (x ≡ Err (Refused r))
chosen_refused true true x r e = (refl, refl, e)
chosen_refused true false x r e = let h = ap tag e in absurd (omega arith)
chosen_refused false l x r e = let h = ap tag e in absurd (omega arith)

chosen_sums : (w l : Bool) (x : Result (Unit {0}) LoadError) → Told x → chosen w l x ≡ Err BadSums → w ≡ false
chosen_sums true true x t e = let h : tag x ≡ 1 = ap tag e in absurd (⊎_elim (λ (k : tag x ≡ 0). omega arith) (λ (k : tag x ≡ 3). omega arith) (told_tag x t))
chosen_sums true false x t e = let h = ap tag e in absurd (omega arith)
chosen_sums false l x t e = refl

chosen_layout : (w l : Bool) (x : Result (Unit {0}) LoadError) → Told x → chosen w l x ≡ Err BadLayout → (w ≡ true) × (l ≡ false)
chosen_layout true true x t e = let h : tag x ≡ 2 = ap tag e in absurd (⊎_elim (λ (k : tag x ≡ 0). omega arith) (λ (k : tag x ≡ 3). omega arith) (told_tag x t))
chosen_layout true false x t e = (refl, refl)
chosen_layout false l x t e = let h = ap tag e in absurd (omega arith)

-- a refused load gives the empty graph
pub empty_unless : (release : Release) (x : Result (Unit {0}) LoadError) (m : MultiPortGraph) → (x ≡ Ok tt → ⊥) → graph_if release x m ≡ empty_graph release
empty_unless release (Ok _) m not = absurd (not refl)
empty_unless release (Err _) m not = refl

module _ (release : Release) (bytes : List ℕ) where
  built : Result (Unit {0}) LoadError
  built = first_refusal (empty_graph release) (build_of (unbytes bytes))

  pub loaded_parts : load_answer release bytes ≡ Ok tt → (is_whole bytes ≡ true) × (is_laid bytes ≡ true) × (first_refusal (empty_graph release) (build_of (unbytes bytes)) ≡ Ok tt)
  unfolding load_answer_under
  loaded_parts e = chosen_loaded (is_whole bytes) (is_laid bytes) _ e

  pub parts_loaded : is_whole bytes ≡ true → is_laid bytes ≡ true → first_refusal (empty_graph release) (build_of (unbytes bytes)) ≡ Ok tt → load_answer release bytes ≡ Ok tt
  unfolding load_answer_under
  parts_loaded w l e = rw (w, l) e

  pub sixteen : (load_answer release bytes ≡ Err BadSums) ↔ (is_whole bytes ≡ false)
  unfolding load_answer_under
  sixteen = (chosen_sums (is_whole bytes) (is_laid bytes) _ (loaded_or_refused (build_of (unbytes bytes)) (empty_graph release)), λ e. rw e refl)

  pub seventeen : (load_answer release bytes ≡ Err BadLayout) ↔ ((is_whole bytes ≡ true) × (is_laid bytes ≡ false))
  unfolding load_answer_under
  seventeen = (chosen_layout (is_whole bytes) (is_laid bytes) _ (loaded_or_refused (build_of (unbytes bytes)) (empty_graph release)), λ (w, l). rw (w, l) refl)

  pub build_answers : (r : Refusal) → (load_answer release bytes ≡ Err (Refused r)) ↔ ((is_whole bytes ≡ true) × (is_laid bytes ≡ true) × BuildRefused release (unbytes bytes) r)
  unfolding load_answer_under
  build_answers r = (
    (λ e.
        let p = chosen_refused (is_whole bytes) (is_laid bytes) _ r e in
        (p.0, p.1, (build_refusals release (unbytes bytes) (laid_sound bytes p.1) r).0 p.2)),
    (λ (w, l, b). rw (w, l) ((build_refusals release (unbytes bytes) (laid_sound bytes l) r).1 b)),
  )

-- A saved file.

-- a build is refused for space or with 18, or one of its blocks has too many ports
refused_how : {release : Release} {v : View} {r : Refusal} → BuildRefused release v r →
    ((r ≡ NoRoom) ⊎ ((r ≡ InputWired) × (release ≡ Two) × SharesInput v.wires)) ⊎ ((b : BlockPorts) × Member b v.blocks × (node_ports < b.incoming + b.outgoing))
refused_how (build_many first b later is e h) = inr (b, subst (Member b) (sym is) (member_right b first (b ∷ later) (inl refl)), h)
refused_how (build_no_block first b later is e h k) = inl (inl refl)
refused_how (build_wired first w later is e two u i same) =
    inl (inr (refl, two, record { first = first; wire = w; later = later; is = is; earlier = u; before = i; same = same }))
refused_how (build_no_wire first w later is e over) = inl (inl refl)

-- no block of a graph has
module _ {m : MultiPortGraph} {M : Model} (f : Fine m M) where
  both_small : (n : ℕ) (v : Slots) → M.node n ≡ v → count_of v Incoming + count_of v Outgoing ≤ node_ports
  both_small n gone e = omega arith
  both_small n (live k) e = let a = f.good.ports_in_block n k e in let b = f.good.block_small n k e in omega arith

  pub view_small : (b : BlockPorts) → Member b (view_of m).blocks → b.incoming + b.outgoing ≤ node_ports
  unfolding view_of block_ports
  view_small b h =
      let k = member_map (block_ports m) b (blocks m) h in
      let small = both_small k.0 (M.node k.0) refl in
      let i = count_of_lem f k.0 Incoming in
      let o = count_of_lem f k.0 Outgoing in
      let p = ap (λ (x : BlockPorts). x.incoming) k.2 in
      let q = ap (λ (x : BlockPorts). x.outgoing) k.2 in
      omega arith

-- A file that loads.

module _ (release : Release) (bytes : List ℕ) (e : load_answer release bytes ≡ Ok tt) where
  loaded_view : view_of (run release (build_of (unbytes bytes))).graph ≡ unbytes bytes
  loaded_view = let p = loaded_parts release bytes e in built_view release (unbytes bytes) (laid_sound bytes p.1) p.2

  -- it has no more blocks than node slots, and no more wires than pairs of port slots
  pub loaded_few : (length (unbytes bytes).blocks ≤ node_slots) × (2 * length (unbytes bytes).wires ≤ port_slots)
  loaded_few =
      let m = (run release (build_of (unbytes bytes))).graph in
      let f = (rel_run release (build_of (unbytes bytes))).1.fine in
      let a = (view_within f).blocks_few in
      let b = wires_few f in
      let c = ap (λ (u : View). length u.blocks) loaded_view in
      let d = ap (λ (u : View). length u.wires) loaded_view in
      let n = view_walked m in
      (omega arith, omega arith)

  -- no block of it has too many ports
  pub loaded_small : (b : BlockPorts) → Member b (unbytes bytes).blocks → b.incoming + b.outgoing ≤ node_ports
  loaded_small b i = view_small (rel_run release (build_of (unbytes bytes))).1.fine b (subst (λ (u : View). Member b u.blocks) (sym loaded_view) i)

-- Saved by a history of one release, loaded for another or the same.

pub saved_answers : (release other : Release) (calls : List Call) →
    ((load_answer other (file_of (run release calls).graph) ≡ Ok tt) ⊎ (load_answer other (file_of (run release calls).graph) ≡ Err (Refused NoRoom)))
    ⊎ ((load_answer other (file_of (run release calls).graph) ≡ Err (Refused InputWired)) × (other ≡ Two) × SharesInput (view_of (run release calls).graph).wires)
unfolding file_of
saved_answers release other calls =
    let m = (run release calls).graph in
    let f = (rel_run release calls).1.fine in
    let b = bytes_of (view_of m) in
    let w = written_laid (view_of m) (view_fits f) (view_sound release calls) in
    let said : unbytes b ≡ view_of m = view_read_back (view_of m) (view_fits f) in
    ⊎_elim
    (λ e. inl (inl (parts_loaded other b w.0 w.1 e)))
    (λ (k : (r : Refusal) × (first_refusal (empty_graph other) (build_of (unbytes b)) ≡ Err (Refused r))).
    let refused = (build_refusals other (unbytes b) (laid_sound b w.1) k.0).0 k.1 in
    let told : (r : Refusal) → k.0 ≡ r → load_answer other b ≡ Err (Refused r) = λ r e. (build_answers other b r).1 (w.0, w.1, subst (BuildRefused other (unbytes b)) e refused) in
    ⊎_elim
    (λ (s : (k.0 ≡ NoRoom) ⊎ ((k.0 ≡ InputWired) × (other ≡ Two) × SharesInput (unbytes b).wires)).
    ⊎_elim (λ (e : k.0 ≡ NoRoom). inl (inr (told NoRoom e)))
    (λ (t : (k.0 ≡ InputWired) × (other ≡ Two) × SharesInput (unbytes b).wires). inr (told InputWired t.0, t.1, subst (λ (v : View). SharesInput v.wires) said t.2)) s)
    (λ (many : (x : BlockPorts) × Member x (unbytes b).blocks × (node_ports < x.incoming + x.outgoing)).
    let few = view_small f many.0 (subst (λ (v : View). Member many.0 v.blocks) said many.1) in
    let over = many.2 in
    absurd (omega arith))
    (refused_how refused))
    (loaded_or_refused (build_of (unbytes b)) (empty_graph other))
