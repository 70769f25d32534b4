-- `lines::text::number_of` meets its contract. Invariant: reading on amounts to reading all. Assumes nothing.
use mathlib.Core.Path.{◌≡◌}
use Prim.Native.Nat.{◌-◌}
use Rattle.lines.specs.Text.{bytes_from, bytes_of, number_said}
use Rattle.lines.specs.TextSteps.{said_after}
use Rattle.lines.proofs.text.number_of.Given as goal

abbrev pub invariant-loop-at : goal.invariant-loop-at
invariant-loop-at l = said_after l.value (bytes_from l.text l.at (l.fn.word.to - l.at)) ≡ number_said (bytes_of l.text l.fn.word)
