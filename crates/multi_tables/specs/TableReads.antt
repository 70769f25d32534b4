-- What can be read off the tables alone: owners, links, marks and hidden flags, each of which can be lent.
-- The ports of a hidden node lie in a row: the subports are the slots of one owner beside the copy port.
use Rattle.std.specs.Prelude.{List, Bool, cond, ℕ, ◌-◌, zero, suc, ◌+◌, min, ◌*◌, ◌/◌, eqb, ltb, Option, Some, None, Result, Ok}
use Rattle.port_tables.specs.Tables.{at, link_both, cut}
unfoldable pub use Rattle.port_tables.specs.Tables.{far_in, owner_in}
use Rattle.port_tables.specs.Entries.{port_entry, node#}
use Rattle.multi_tables.specs.Forms.{Port, dead, hidden, visible, flag_at, End, inner, lacking, subport#}
use Rattle.port_tables.specs.Limits.{node_slots, port_slots}
use Rattle.port_tables.specs.declared.port_entry.PortEntry.{PortEntry}
use Rattle.port_tables.specs.declared.direction.Direction.{Direction}
use Rattle.port_tables.specs.declared.direction.Direction.TheVariants.{Incoming, Outgoing}
use Rattle.multi_tables.specs.declared.answers.SubportIndex.{SubportIndex}
use Rattle.multi_tables.specs.declared.answers.PortPlace.{PortPlace}
use Rattle.port_tables.specs.declared.port_entry.PortEntry.TheVariants as port_variants
use Rattle.multi_tables.specs.declared.answers.Refusal.{Refusal}

-- a port number: not live, of a hidden node, or of a block
abbrev pub seen_owner : List Bool → PortEntry → Port
seen_owner flags port_variants.Free = dead
seen_owner flags (port_variants.Port k) = cond (flag_at flags node_slots k.node.0) hidden (visible k.node.0 k.direction)

unfoldable pub seen_in : List ℕ → List Bool → ℕ → Port
seen_in owners flags p = seen_owner flags (port_entry (at owners p))

-- how often in a row a test holds from i on, n times at the most
unfoldable pub in_row : (ℕ → Bool) → ℕ → ℕ → ℕ
in_row t i zero = 0
in_row t i (suc n) = cond (t i) (suc (in_row t (suc i) n)) 0

-- the k-th slot from i on, and the k-th below i, has this owner
unfoldable pub owns_up : List ℕ → ℕ → ℕ → ℕ → Bool
owns_up owners x i k = eqb (at owners (i + k)) x

unfoldable pub owns_down : List ℕ → ℕ → ℕ → ℕ → Bool
owns_down owners x i k = eqb (at owners (i - suc k)) x

-- how many slots in a row, from i on or below i, have this owner
unfoldable pub run_up : List ℕ → ℕ → ℕ → ℕ
run_up owners x i = in_row (owns_up owners x i) 0 port_slots

unfoldable pub run_down : List ℕ → ℕ → ℕ → ℕ
run_down owners x i = in_row (owns_down owners x i) 0 (min i port_slots)

-- The slots of an owner that lie in a row below i, by leaps of 32 slots and a run of what is left.

unfoldable pub leaps_down : List ℕ → ℕ → ℕ → ℕ → Bool
leaps_down owners x i k = eqb (at owners (i - 32 * suc k)) x

unfoldable pub leap_down : List ℕ → ℕ → ℕ → ℕ
leap_down owners x i = in_row (leaps_down owners x i) 0 (min i port_slots / 32)

unfoldable pub row_below : List ℕ → ℕ → ℕ → ℕ
row_below owners x i = 32 * leap_down owners x i + run_down owners x (i - 32 * leap_down owners x i)

-- The subports beside a copy port q, on side d of its node: how many, and the slot of the first.

unfoldable pub count_beside : List ℕ → ℕ → Direction → ℕ
count_beside owners q Incoming = run_down owners (at owners (q - 1)) q
count_beside owners q Outgoing = run_up owners (at owners (q + 1)) (q + 1)

unfoldable pub first_beside : List ℕ → ℕ → Direction → ℕ
first_beside owners q Incoming = q - count_beside owners q Incoming
first_beside owners q Outgoing = q + 1

unfoldable pub end_beside : List ℕ → ℕ → Direction → ℕ → End
end_beside owners q Incoming o = cond (ltb o (count_beside owners q Incoming)) (inner (first_beside owners q Incoming + o)) lacking
end_beside owners q Outgoing o =
    cond (ltb (q + 1 + o) port_slots) (cond (eqb (at owners (q + 1 + o)) (at owners (q + 1))) (inner (q + 1 + o)) lacking) lacking

-- The split port p of side d.

unfoldable pub subports_in : List ℕ → List ℕ → ℕ → Direction → ℕ
subports_in links owners p d = count_beside owners (far_in links p) d

unfoldable pub first_in : List ℕ → List ℕ → ℕ → Direction → ℕ
first_in links owners p d = first_beside owners (far_in links p) d

-- an end that a call names
unfoldable pub end_in : List Bool → List ℕ → List ℕ → ℕ → Direction → ℕ → End
end_in marks links owners p d o = cond (flag_at marks port_slots p) (end_beside owners (far_in links p) d o) (inner p)

-- The subport that an inner port is: as many slots of its owner lie below it as its offset says, and the copy port stands
-- before the first or after the last.

unfoldable pub copy_beside : List ℕ → ℕ → Direction → ℕ
copy_beside owners q Incoming = q + run_up owners (at owners q) q
copy_beside owners q Outgoing = q - run_down owners (at owners q) q - 1

abbrev pub subport_owned : List ℕ → List ℕ → List Bool → ℕ → PortEntry → SubportIndex
subport_owned links owners flags q port_variants.Free = subport# q 0
subport_owned links owners flags q (port_variants.Port k) =
    cond (flag_at flags node_slots k.node.0)
    (subport# (far_in links (copy_beside owners q k.direction)) (run_down owners (at owners q) q))
    (subport# q 0)

unfoldable pub subport_in : List ℕ → List ℕ → List Bool → ℕ → SubportIndex
subport_in links owners flags q = subport_owned links owners flags q (port_entry (at owners q))

-- Where a port of a block stands: its owner tells node and side, and as many slots of that owner lie below it as its position says.

abbrev pub no_place : PortPlace
no_place = record { node = node# 0; side = Incoming; position = 0 }

abbrev pub place_owned : List ℕ → ℕ → PortEntry → PortPlace
place_owned owners p port_variants.Free = no_place
place_owned owners p (port_variants.Port k) = record { node = k.node; side = k.direction; position = row_below owners (at owners p) p }

unfoldable pub place_in : List ℕ → ℕ → PortPlace
place_in owners p = place_owned owners p (port_entry (at owners p))

-- where the visible end of an inner port stands
abbrev pub far_place_in : List ℕ → List ℕ → List Bool → ℕ → PortPlace
far_place_in links owners flags q = place_in owners (subport_in links owners flags q).port.0

-- what an end is linked with; the same without the place
unfoldable pub wire_in : List ℕ → List ℕ → List Bool → ℕ → Result (Option (SubportIndex × PortPlace)) Refusal
wire_in links owners flags q =
    cond (eqb (at links q) 0) (Ok None)
    (Ok (Some (subport_in links owners flags (far_in links q), far_place_in links owners flags (far_in links q))))

unfoldable pub wire_end_in : List ℕ → List ℕ → List Bool → ℕ → Result (Option SubportIndex) Refusal
wire_end_in links owners flags q = cond (eqb (at links q) 0) (Ok None) (Ok (Some (subport_in links owners flags (far_in links q))))

-- what cutting an unsplit port answers
unfoldable pub plain_in : List ℕ → List ℕ → List Bool → ℕ → Result (Option (SubportIndex × PortPlace)) Refusal
plain_in links owners flags p =
    cond (eqb (at links p) 0) (Ok None)
    (Ok (Some (subport# (far_in links p) 0, far_place_in links owners flags (far_in links p))))

-- What a split does to the links: the port hangs on the copy port, and its old link is at the first subport.
unfoldable pub hang_on : List ℕ → ℕ → ℕ → ℕ → List ℕ
hang_on links p copy first = link_both (link_both (cut links p) p copy) first (far_in links p)

-- where the copy port and the first subport stand in a new hidden node's block
abbrev pub copy_at : Direction → ℕ
copy_at Incoming = 2
copy_at Outgoing = 0

abbrev pub subports_at : Direction → ℕ
subports_at Incoming = 0
subports_at Outgoing = 1

-- the slot of the subport that follows n others, by the slot q of the copy port
abbrev pub last_beside : Direction → ℕ → ℕ → ℕ
last_beside Incoming q n = q - 1
last_beside Outgoing q n = q + 1 + n

-- the counts of a hidden node with n subports on a side, with one more
abbrev pub grown_incoming : Direction → ℕ → ℕ
grown_incoming Incoming n = n + 1
grown_incoming Outgoing n = 1

abbrev pub grown_outgoing : Direction → ℕ → ℕ
grown_outgoing Incoming n = 1
grown_outgoing Outgoing n = n + 1
