-- `records::words::put_words` meets its contract. Invariant: the words that are left amount to all.
use Prim.Native.Nat.{◌+◌, ◌*◌}
use lib.ListN.{drop}
use Rattle.multiportgraph.specs.ListScans.{Writing}
use Rattle.records.specs.Words.{bytes_of}
use Rattle.records.proofs.words.put_words.Given as goal

abbrev pub invariant-loop-i : goal.invariant-loop-i
invariant-loop-i l = Writing l.initial.bytes l.at (bytes_of l.words) l.bytes (l.at + 4 * l.i) (bytes_of (drop l.i l.words))
