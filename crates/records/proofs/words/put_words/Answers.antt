-- `records::words::put_words` meets its contract. Invariant: the words that are left amount to all.
use native.Mathlib.Omega.{arith}
use Rattle.records.specs.WordSteps.{word_turn}
use Rattle.records.proofs.words.put_words.Goals as goal

pub loop-i-preserved : goal.loop-i-preserved
loop-i-preserved c = word_turn c.args.words.now c.loop-i.i c.loop-i.invariant c.loop-i-test.true (omega arith) c.put_word.ensures
