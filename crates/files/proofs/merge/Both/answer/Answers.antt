-- `files::merge::Both::answer` meets its contract: the result is laid, and built.
use native.Mathlib.Omega.{arith}
use mathlib.Core.Path.{◌≡◌, sym, ap, ◌∙◌, subst}
use Prim.Native.Nat.{ℕ, ◌+◌, ◌≤◌}
use lib.ListN.{length, take, replicate, length-replicate}
use Rattle.port_tables.specs.declared.release.Release.TheVariants.{One}
use Rattle.files.specs.Loading.{load_answer}
use Rattle.files.specs.LoadForms.{Laid}
use Rattle.files.specs.Merging.{merged_file}
use Rattle.files.specs.MergeSteps.{both_laid, result_laid, result_fits_longest}
use Rattle.multiportgraph.specs.BlockSteps.{list_taken}
use Rattle.files.specs.declared.merge.Both.{Both}
use Rattle.files.proofs.merge.Both.answer.Goals as goal
use Rattle.files.proofs.merge.Both.answer.Goals.{After-size-size}

short : (s : Both) → length (merged_file s.first.bytes.now s.second.bytes.now) ≤ 41984
short s = result_fits_longest (both_laid s.first s.second) s.few

-- what is built are the bytes of the result
taken : (c : After-size-size) → take c.size-size.result c.put.new.buffer ≡ merged_file c.args.self.first.bytes.now c.args.self.second.bytes.now
taken c = let h = short c.args.self in let n = length-replicate {A = ℕ} 41984 0 in (list_taken (replicate {A = ℕ} 41984 0) (omega arith) c.put.ensures c.size-size.ensures).1

pub put-requires : goal.put-requires
put-requires c = short c.args.self

pub slice_bounds-result-end : goal.slice_bounds-result-end
slice_bounds-result-end c = let h = short c.args.self in omega (arith, c.size-size.ensures)

pub slice_bounds-new-end : goal.slice_bounds-new-end
slice_bounds-new-end c = sym (ap length (taken (goal.at.slice_bounds-new-end c).After-size-size) ∙ sym c.size-size.ensures)

pub new-file-requires : goal.new-file-requires
new-file-requires c =
    let s = c.args.self in
    let l = result_laid (both_laid s.first s.second) s.few s.first.small s.second.small in
    subst (λ b. Laid b c.shape.result.blocks c.shape.result.wires) (sym (taken (goal.at.new-file-requires c).After-size-size))
    (subst (λ (n : ℕ). Laid (merged_file s.first.bytes.now s.second.bytes.now) n c.shape.result.wires) (sym c.shape.ensures.0)
    (subst (λ (n : ℕ). Laid (merged_file s.first.bytes.now s.second.bytes.now) (s.first.shape.blocks + s.second.shape.blocks) n) (sym c.shape.ensures.1) l))

pub returns : goal.returns
returns c = c.build_answer.ensures ∙ ap (load_answer One) (c.new-file.ensures ∙ taken (goal.at.returns c).After-size-size)
