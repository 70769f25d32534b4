-- Each call: its refusals in their order, else what is done. 10 is tested last, so that it is given only where the call would otherwise be
-- accepted. A link of ports that is refused with 11 or 12 keeps what was made ready, as the kit does.
use Rattle.std.specs.Prelude.{Bool, true, false, cond, not, ◌||◌, List, [], ◌∷◌, map, ℕ, suc, ◌+◌, eqb, leb, ltb, length, Option, Some, None, Result, Ok, Err}
use Rattle.std.specs.List.{filter}
use Rattle.port_tables.specs.Limits.{node_slots, port_slots, node_ports}
use Rattle.port_tables.specs.Entries.{same_side}
use Rattle.port_tables.specs.Places.{Place, at_spot, at_end, of_node, of_dropped, wire_of_sides, without, any_touches}
use Rattle.sketches.specs.Plan.{PlanBlock, Plan, with_wires, has_block, ports_in_all, spot_named, is_there, subports_of, set_subports, offset_read, lacks_offset, end#, port_at, end_at_place, place_named, input_taken, Far, nothing, far, far_from, above_wired, offset_ready, ready}
use Rattle.sketches.specs.declared.sketch.SketchPort.{SketchPort}
use Rattle.sketches.specs.declared.sketch.Reason.TheVariants.{BadOffset, TooManyPorts, UnknownBlock, UnknownPort, UnknownOffset, NoRoom, UnknownSecondPort, SameSide, AlreadyLinked, InputWired}
use Rattle.sketches.specs.declared.sketch.SheetEntry.{SheetEntry}
use Rattle.sketches.specs.declared.sketch.Reason.{Reason}
use Rattle.sketches.specs.declared.sketch.SketchEnd.{SketchEnd}
use Rattle.sketches.specs.declared.sketch.TooManyEntries.{TooManyEntries}

-- The most adds that are accepted, and wires that are held; blocks, ports of blocks and ports of one block have the kit's limits.
abbrev pub most_adds : ℕ
most_adds = 4294967295

abbrev pub most_wires : ℕ
most_wires = port_slots

-- the plan that a call leaves, and its answer
pub record Sketched (A : Type 0) : Type 0 where
  pub plan : Plan
  pub answer : A

abbrev pub leaves : {A : Type 0} → Plan → A → Sketched A
leaves K a = record { plan = K; answer = a }

-- Blocks.

-- 3, 10
unfoldable pub add_block : Plan → ℕ → ℕ → Sketched (Result ℕ Reason)
add_block K i o =
    cond (not (leb (i + o) node_ports)) (leaves K (Err TooManyPorts))
    (cond (leb most_adds K.adds || (leb node_slots (length K.blocks) || ltb port_slots (ports_in_all K.blocks + (i + o)))) (leaves K (Err NoRoom))
    (leaves
    (record {
      release = K.release;
      adds = suc K.adds;
      blocks = record { name = K.adds; incoming = i; outgoing = o } ∷ K.blocks;
      splits = K.splits;
      wires = K.wires;
    })
    (Ok K.adds)))

-- 4: the block and each wire at it go
unfoldable pub remove_block : Plan → ℕ → Sketched (Result (Unit {0}) Reason)
remove_block K n =
    cond (not (has_block K.blocks n)) (leaves K (Err UnknownBlock))
    (leaves
    (record {
      release = K.release;
      adds = K.adds;
      blocks = filter (λ (b : PlanBlock). not (eqb b.name n)) K.blocks;
      splits = filter (λ (s : Place). not (of_node n s)) K.splits;
      wires = without (of_node n) K.wires;
    })
    (Ok tt))

-- the counts of a block
abbrev pub recount : ℕ → ℕ → ℕ → PlanBlock → PlanBlock
recount n i o b = cond (eqb b.name n) (record { name = n; incoming = i; outgoing = o }) b

-- 3, 4, 10: each wire at a dropped position goes
unfoldable pub set_counts : Plan → ℕ → ℕ → ℕ → Sketched (Result (Unit {0}) Reason)
set_counts K n i o =
    cond (not (leb (i + o) node_ports)) (leaves K (Err TooManyPorts))
    (cond (not (has_block K.blocks n)) (leaves K (Err UnknownBlock))
    (cond (ltb port_slots (ports_in_all (map (recount n i o) K.blocks))) (leaves K (Err NoRoom))
    (leaves
    (record {
      release = K.release;
      adds = K.adds;
      blocks = map (recount n i o) K.blocks;
      splits = filter (λ (s : Place). not (of_dropped n i o s)) K.splits;
      wires = without (of_dropped n i o) K.wires;
    })
    (Ok tt))))

-- Links.

abbrev pub is_full : Plan → Bool
is_full K = leb most_wires (length K.wires)

-- one more wire between two ends
abbrev pub with_wire : Plan → SketchPort → ℕ → SketchPort → ℕ → Plan
with_wire K x o y r = with_wires K (wire_of_sides x.side (place_named x o) (place_named y r) ∷ K.wires)

-- both ports are made ready, and a wire between them
abbrev pub both_linked : Plan → SketchPort → SketchPort → Sketched (Result (SketchEnd × SketchEnd) Reason)
both_linked K x y =
    leaves (with_wire (ready (ready K x) y) x (offset_ready K x) y (offset_ready K y))
    (Ok (end# x (offset_ready K x), end# y (offset_ready K y)))

-- 7, 18, 11, 12, 10; 11 keeps the first port ready, 12 both
unfoldable pub link_ports : Plan → SketchPort → SketchPort → Sketched (Result (SketchEnd × SketchEnd) Reason)
link_ports K x y =
    cond (not (is_there K x)) (leaves K (Err UnknownPort))
    (cond (input_taken K x y) (leaves K (Err InputWired))
    (cond (not (is_there K y)) (leaves (ready K x) (Err UnknownSecondPort))
    (cond (same_side x.side y.side) (leaves (ready (ready K x) y) (Err SameSide))
    (cond (is_full K) (leaves K (Err NoRoom))
    (both_linked K x y)))))

-- 7, 18, 11, 12, 10; nothing is left
unfoldable pub link_clean : Plan → SketchPort → SketchPort → Sketched (Result (SketchEnd × SketchEnd) Reason)
link_clean K x y =
    cond (not (is_there K x)) (leaves K (Err UnknownPort))
    (cond (input_taken K x y) (leaves K (Err InputWired))
    (cond (not (is_there K y)) (leaves K (Err UnknownSecondPort))
    (cond (same_side x.side y.side) (leaves K (Err SameSide))
    (cond (is_full K) (leaves K (Err NoRoom))
    (both_linked K x y)))))

-- an end, as read, has a wire
abbrev pub is_wired : Plan → SketchPort → ℕ → Bool
is_wired K x o = any_touches (at_end (spot_named x) (offset_read K x o)) K.wires

-- an offset of 65,535 is none
abbrev pub bad_offset : ℕ → Bool
bad_offset o = not (ltb o 65535)

-- 2, 7, 9, 18, 11, 12, 13, 10
unfoldable pub link_subports : Plan → SketchPort → ℕ → SketchPort → ℕ → Sketched (Result (SketchEnd × SketchEnd) Reason)
link_subports K x o y r =
    cond (bad_offset o || bad_offset r) (leaves K (Err BadOffset))
    (cond (not (is_there K x)) (leaves K (Err UnknownPort))
    (cond (lacks_offset K x o || cond (is_there K y) (lacks_offset K y r) false) (leaves K (Err UnknownOffset))
    (cond (input_taken K x y) (leaves K (Err InputWired))
    (cond (not (is_there K y)) (leaves K (Err UnknownSecondPort))
    (cond (same_side x.side y.side) (leaves K (Err SameSide))
    (cond (is_wired K x o || is_wired K y r) (leaves K (Err AlreadyLinked))
    (cond (is_full K) (leaves K (Err NoRoom))
    (leaves (with_wire K x (offset_read K x o) y (offset_read K y r))
    (Ok (end# x (offset_read K x o), end# y (offset_read K y r)))))))))))

-- Cuts.

abbrev pub port_found : Far → Result (Option SketchPort) Reason
port_found nothing = Ok None
port_found (far x) = Ok (Some (port_at x))

abbrev pub end_found : Far → Result (Option SketchEnd) Reason
end_found nothing = Ok None
end_found (far x) = Ok (Some (end_at_place x))

-- 7: each wire at the port goes; it is no longer split, and answers itself if it was
unfoldable pub cut_port : Plan → SketchPort → Sketched (Result (Option SketchPort) Reason)
cut_port K x =
    cond (not (is_there K x)) (leaves K (Err UnknownPort))
    (leaves (set_subports (with_wires K (without (at_spot (spot_named x)) K.wires)) x 0)
    (cond (eqb (subports_of K x) 0) (port_found (far_from (at_spot (spot_named x)) K.wires)) (Ok (Some x))))

-- 2, 7, 9: what an end is linked with
unfoldable pub subport_link : Plan → SketchPort → ℕ → Result (Option SketchEnd) Reason
subport_link K x o =
    cond (bad_offset o) (Err BadOffset)
    (cond (not (is_there K x)) (Err UnknownPort)
    (cond (lacks_offset K x o) (Err UnknownOffset)
    (end_found (far_from (at_end (spot_named x) (offset_read K x o)) K.wires))))

abbrev pub is_refused : Result (Option SketchEnd) Reason → Bool
is_refused (Ok (Some x)) = false
is_refused (Ok None) = false
is_refused (Err r) = true

-- and the wire there goes
unfoldable pub cut_subport : Plan → SketchPort → ℕ → Sketched (Result (Option SketchEnd) Reason)
cut_subport K x o =
    leaves (cond (is_refused (subport_link K x o)) K (with_wires K (without (at_end (spot_named x) (offset_read K x o)) K.wires))) (subport_link K x o)

-- Tidying.

-- the subports left: up to the highest wired one, or none where that is offset 0 or none is wired
abbrev pub tidied : ℕ → ℕ
tidied above = cond (leb above 1) 0 above

-- 7; an unsplit port is unchanged
unfoldable pub tidy_port : Plan → SketchPort → Sketched (Result (Unit {0}) Reason)
tidy_port K x =
    cond (not (is_there K x)) (leaves K (Err UnknownPort))
    (leaves (cond (eqb (subports_of K x) 0) K (set_subports K x (tidied (above_wired (spot_named x) K.wires)))) (Ok tt))

-- Sheets: a list of entries, each two ports and space for the answer of their link.

-- the most entries of a sheet
abbrev pub sheet_entries : ℕ
sheet_entries = 64

-- the links are made in order, a refused one included
unfoldable pub sheet_plan : Plan → List SheetEntry → Plan
sheet_plan K [] = K
sheet_plan K (e ∷ l) = sheet_plan (link_ports K e.from e.to).plan l

-- each entry keeps its ports and receives its answer
unfoldable pub sheet_answered : Plan → List SheetEntry → List SheetEntry
sheet_answered K [] = []
sheet_answered K (e ∷ l) =
    record { from = e.from; to = e.to; answer = (link_ports K e.from e.to).answer } ∷ sheet_answered (link_ports K e.from e.to).plan l

-- 14: nothing is then done
unfoldable pub sheet : Plan → List SheetEntry → Sketched (Result (Unit {0}) TooManyEntries)
sheet K l = cond (ltb sheet_entries (length l)) (leaves K (Err (record {}))) (leaves (sheet_plan K l) (Ok tt))
