-- What release 2 refuses, read off lent tables: a link that names an input which already has a wire, after 2, 7, 8 and 9.
use Rattle.std.specs.Prelude.{Bool, false, cond, not, List, ℕ, eqb, Result, Ok, Err}
use Rattle.port_tables.specs.declared.direction.Direction.{Direction}
use Rattle.port_tables.specs.declared.direction.Direction.TheVariants.{Incoming, Outgoing}
use Rattle.multi_tables.specs.Forms.{Port, dead, hidden, visible, End, inner, lacking, good_offset, taken_under}
use Rattle.multi_tables.specs.TableReads.{seen_in, end_in}
use Rattle.multi_tables.specs.FanOutScans.{wires_at_in}
use Rattle.multi_tables.specs.NamedEnds.{subport_pair, taken_ends, taken_seen, pair_named, link_named}
use Rattle.port_tables.specs.declared.release.Release.{Release}
use Rattle.multi_tables.specs.declared.answers.Refusal.{Refusal}
use Rattle.multi_tables.specs.declared.answers.Refusal.TheVariants.{BadOffset, UnknownOffset}
use Rattle.multi_tables.specs.declared.named.SeenPair.{SeenPair}
use Rattle.multi_tables.specs.declared.named.SeenPair.TheVariants as both
use Rattle.port_tables.specs.Entries.{port#}

module _ (marks : List Bool) (links owners : List ℕ) (flags : List Bool) where
  -- a live input of a block has a wire
  abbrev pub wired_at : ℕ → Direction → Bool
  wired_at p Incoming = not (eqb (wires_at_in marks links owners p Incoming) 0)
  wired_at p Outgoing = false

  abbrev pub wired_port : ℕ → Port → Bool
  wired_port p dead = false
  wired_port p hidden = false
  wired_port p (visible n d) = wired_at p d

  unfoldable pub wired_in : ℕ → Bool
  wired_in p = wired_port p (seen_in owners flags p)

  -- one that a link names, under release 2
  unfoldable pub taken_in : Release → ℕ → ℕ → Bool
  taken_in release a b = taken_under release (wired_in a) (wired_in b)

  -- whether each end of a link of subports that is looked at is there: 2, 7, 8, 9
  abbrev pub there_or : ℕ → Result (Unit {0}) Refusal → End → Result (Unit {0}) Refusal
  there_or p rest lacking = Err (UnknownOffset (port# p))
  there_or p rest (inner x) = rest

  abbrev pub there_seen : ℕ → ℕ → ℕ → ℕ → Result SeenPair Refusal → Result (Unit {0}) Refusal
  there_seen p o q r (Err x) = Err x
  there_seen p o q r (Ok (both.First d)) = there_or p (Ok tt) (end_in marks links owners p d o)
  there_seen p o q r (Ok (both.Both d e)) = there_or p (there_or q (Ok tt) (end_in marks links owners q e r)) (end_in marks links owners p d o)

  unfoldable pub ends_there : ℕ → ℕ → ℕ → ℕ → Result (Unit {0}) Refusal
  ends_there p o q r = there_seen p o q r (subport_pair owners flags p o q r)

  -- what a link of subports is then refused with
  unfoldable pub taken_sub_in : ℕ → ℕ → ℕ → ℕ → Refusal
  taken_sub_in p o q r =
      cond (good_offset o)
      (cond (good_offset r)
      (taken_ends p (λ d. end_in marks links owners p d o) q (λ e. end_in marks links owners q e r) (seen_in owners flags p) (seen_in owners flags q))
      BadOffset)
      BadOffset

-- and a link of ports
unfoldable pub taken_ports_in : List ℕ → List Bool → ℕ → ℕ → Refusal
taken_ports_in owners flags a b = taken_seen a b (seen_in owners flags a) (seen_in owners flags b)

-- that refusal, where an input that a link of ports names has a wire
unfoldable pub inputs_free : List Bool → List ℕ → List ℕ → List Bool → Release → ℕ → ℕ → Result (Unit {0}) Refusal
inputs_free marks links owners flags release a b =
    cond (taken_in marks links owners flags release a b) (Err (taken_ports_in owners flags a b)) (Ok tt)

-- what a call names, where that refusal comes first
module _ (marks : List Bool) (links owners : List ℕ) (flags : List Bool) (release : Release) where
  unfoldable pub pair_named_under : ℕ → ℕ → Result (Unit {0}) Refusal
  pair_named_under a b =
      cond (taken_in marks links owners flags release a b) (Err (taken_ports_in owners flags a b)) (pair_named owners flags a b)

  unfoldable pub link_named_under : ℕ → ℕ → ℕ → ℕ → Result (ℕ × ℕ) Refusal
  link_named_under p o q r =
      cond (taken_in marks links owners flags release p q) (Err (taken_sub_in marks links owners flags p o q r)) (link_named marks links owners flags p o q r)
