-- What a call names, read off the tables: the inner ports of its ends or the refusal, and what an end needs before it can take a link.
use Rattle.std.specs.Prelude.{cond, Bool, List, ℕ, ◌+◌, eqb, ltb, leb, Option, Some, None, Result, Ok, Err}
use Rattle.port_tables.specs.Entries.{node#, port#, same_side}
use Rattle.multi_tables.specs.Forms.{Port, dead, hidden, visible, End, inner, lacking, good_offset, subport#, flag_at, lowest_unlinked}
use Rattle.multi_tables.specs.declared.answers.Refusal.{Refusal}
use Rattle.multi_tables.specs.declared.answers.Refusal.TheVariants.{UnknownPort, HiddenPort, InputWired, UnknownSecondPort, IncompatibleDirections, UnknownOffset, BadOffset, AlreadyLinked}
use Rattle.port_tables.specs.declared.direction.Direction.{Direction}
use Rattle.port_tables.specs.declared.index.NodeIndex.{NodeIndex}
use Rattle.multi_tables.specs.declared.named.SeenPair.{SeenPair}
use Rattle.multi_tables.specs.TableReads.{seen_in, end_in}
use Rattle.port_tables.specs.Tables.{at}
use Rattle.port_tables.specs.Limits.{port_slots}
use Rattle.multi_tables.specs.declared.answers.SubportIndex.{SubportIndex}
use Rattle.multi_tables.specs.declared.named.SeenPair.TheVariants as both

-- Linking ports. Where an input named has a wire, under release 2, nothing is done: 7, 8, else 18. What follows these is the rest, without
-- that check.

abbrev pub taken_seen : ℕ → ℕ → Port → Port → Refusal
taken_seen a b dead second = UnknownPort (port# a)
taken_seen a b hidden second = HiddenPort (port# a)
taken_seen a b (visible n d) hidden = HiddenPort (port# b)
taken_seen a b (visible n d) dead = InputWired
taken_seen a b (visible n d) (visible k e) = InputWired

-- and leaving no stub: 7, 8, 11, 12, else the link of ports, of which only 10 is left
abbrev pub pair_seen : ℕ → ℕ → Port → Port → Result (Unit {0}) Refusal
pair_seen a b dead second = Err (UnknownPort (port# a))
pair_seen a b hidden second = Err (HiddenPort (port# a))
pair_seen a b (visible n d) hidden = Err (HiddenPort (port# b))
pair_seen a b (visible n d) dead = Err (UnknownSecondPort (port# b))
pair_seen a b (visible n d) (visible k e) = cond (same_side d e) (Err (IncompatibleDirections (port# a) (port# b) d)) (Ok tt)

-- Linking subports; where an input named has a wire, under release 2, 2, 7, 8, 9, else 18.

abbrev pub taken_second : ℕ → End → Refusal
taken_second q lacking = UnknownOffset (port# q)
taken_second q (inner y) = InputWired

abbrev pub taken_first : ℕ → Refusal → End → Refusal
taken_first p second lacking = UnknownOffset (port# p)
taken_first p second (inner x) = second

-- by the end that each port has on its side
abbrev pub taken_ends : ℕ → (Direction → End) → ℕ → (Direction → End) → Port → Port → Refusal
taken_ends p first q second dead other = UnknownPort (port# p)
taken_ends p first q second hidden other = HiddenPort (port# p)
taken_ends p first q second (visible n d) hidden = HiddenPort (port# q)
taken_ends p first q second (visible n d) dead = taken_first p InputWired (first d)
taken_ends p first q second (visible n d) (visible k e) = taken_first p (taken_second q (second e)) (first d)

-- the block that has a port, and the side: 7, 8, else these
abbrev pub block_or : ℕ → Port → Result (NodeIndex × Direction) Refusal
block_or p dead = Err (UnknownPort (port# p))
block_or p hidden = Err (HiddenPort (port# p))
block_or p (visible n d) = Ok (node# n, d)

unfoldable pub block_port : List ℕ → List Bool → ℕ → Result (NodeIndex × Direction) Refusal
block_port owners flags p = block_or p (seen_in owners flags p)

-- how the two ports of a link are seen: 7, 8, else their sides; and those of two subports, 2 before that
abbrev pub pair_of : ℕ → ℕ → Port → Port → Result SeenPair Refusal
pair_of a b dead second = Err (UnknownPort (port# a))
pair_of a b hidden second = Err (HiddenPort (port# a))
pair_of a b (visible n d) hidden = Err (HiddenPort (port# b))
pair_of a b (visible n d) dead = Ok (both.First d)
pair_of a b (visible n d) (visible k e) = Ok (both.Both d e)

unfoldable pub seen_pair : List ℕ → List Bool → ℕ → ℕ → Result SeenPair Refusal
seen_pair owners flags a b = pair_of a b (seen_in owners flags a) (seen_in owners flags b)

unfoldable pub subport_pair : List ℕ → List Bool → ℕ → ℕ → ℕ → ℕ → Result SeenPair Refusal
subport_pair owners flags p o q r =
    cond (good_offset o) (cond (good_offset r) (seen_pair owners flags p q) (Err BadOffset)) (Err BadOffset)

-- two ends that are there: 12, 13, else they can be linked
unfoldable pub free_ends : List ℕ → ℕ → Direction → ℕ → Direction → Result (ℕ × ℕ) Refusal
free_ends links x d y e =
    cond (same_side d e) (Err (IncompatibleDirections (port# x) (port# y) d))
    (cond (eqb (at links x) 0)
    (cond (eqb (at links y) 0) (Ok (x, y)) (Err (AlreadyLinked (port# y))))
    (Err (AlreadyLinked (port# x))))

module _ (marks : List Bool) (links owners : List ℕ) (flags : List Bool) where
  -- A subport that a call names: 2, 7, 8, 9, else its inner port.

  abbrev pub end_or : ℕ → End → Result ℕ Refusal
  end_or p lacking = Err (UnknownOffset (port# p))
  end_or p (inner x) = Ok x

  abbrev pub end_seen : ℕ → ℕ → Port → Result ℕ Refusal
  end_seen p o dead = Err (UnknownPort (port# p))
  end_seen p o hidden = Err (HiddenPort (port# p))
  end_seen p o (visible n d) = end_or p (end_in marks links owners p d o)

  unfoldable pub end_named : ℕ → ℕ → Result ℕ Refusal
  end_named p o = cond (good_offset o) (end_seen p o (seen_in owners flags p)) (Err BadOffset)

  -- Two subports that a call links: 2, 7, 8, 9, 11, 12, 13, else their inner ports.

  abbrev pub second_or : ℕ → Direction → ℕ → Direction → End → Result (ℕ × ℕ) Refusal
  second_or x d q e lacking = Err (UnknownOffset (port# q))
  second_or x d q e (inner y) = free_ends links x d y e

  abbrev pub second_seen : ℕ → ℕ → ℕ → Direction → Port → Result (ℕ × ℕ) Refusal
  second_seen q r x d dead = Err (UnknownSecondPort (port# q))
  second_seen q r x d hidden = Err (HiddenPort (port# q))
  second_seen q r x d (visible k e) = second_or x d q e (end_in marks links owners q e r)

  -- the first end is there
  unfoldable pub second_end : ℕ → ℕ → ℕ → Direction → Result (ℕ × ℕ) Refusal
  second_end q r x d = second_seen q r x d (seen_in owners flags q)

  abbrev pub first_or : ℕ → ℕ → ℕ → Direction → End → Result (ℕ × ℕ) Refusal
  first_or p q r d lacking = Err (UnknownOffset (port# p))
  first_or p q r d (inner x) = second_end q r x d

  unfoldable pub first_end : ℕ → ℕ → ℕ → ℕ → Direction → Result (ℕ × ℕ) Refusal
  first_end p o q r d = first_or p q r d (end_in marks links owners p d o)

  abbrev pub both_seen : ℕ → ℕ → ℕ → ℕ → Port → Port → Result (ℕ × ℕ) Refusal
  both_seen p o q r dead second = Err (UnknownPort (port# p))
  both_seen p o q r hidden second = Err (HiddenPort (port# p))
  both_seen p o q r (visible n d) hidden = Err (HiddenPort (port# q))
  both_seen p o q r (visible n d) dead = first_end p o q r d
  both_seen p o q r (visible n d) (visible k e) = first_end p o q r d

  unfoldable pub link_named : ℕ → ℕ → ℕ → ℕ → Result (ℕ × ℕ) Refusal
  link_named p o q r =
      cond (good_offset o)
      (cond (good_offset r) (both_seen p o q r (seen_in owners flags p) (seen_in owners flags q)) (Err BadOffset))
      (Err BadOffset)

-- an end as read: on an unsplit port every offset means the port itself
unfoldable pub read_in : List Bool → ℕ → ℕ → SubportIndex
read_in marks p o = subport# p (cond (flag_at marks port_slots p) o 0)

-- the inner port and the offset of the lowest unlinked one of so many slots from the first on; none where all have a link, or they lie outside the table
unfoldable pub free_end : List ℕ → ℕ → ℕ → Option (ℕ × ℕ)
free_end links first count =
    cond (leb (first + count) port_slots)
    (cond (ltb (lowest_unlinked links first 0 count) count) (Some (first + lowest_unlinked links first 0 count, lowest_unlinked links first 0 count)) None)
    None

-- Linking two ports and leaving no stub: the refusal, or that they are of blocks on opposite sides.
unfoldable pub pair_named : List ℕ → List Bool → ℕ → ℕ → Result (Unit {0}) Refusal
pair_named owners flags a b = pair_seen a b (seen_in owners flags a) (seen_in owners flags b)
