-- How many wires a port has, as the lent tables tell it: one look at each of its ends, which lie in a row.
use Rattle.std.specs.Prelude.{cond, Bool, List, ℕ, zero, suc, ◌+◌, ◌-◌, eqb}
use Rattle.port_tables.specs.Tables.{at}
use Rattle.port_tables.specs.declared.direction.Direction.{Direction}
use Rattle.port_tables.specs.declared.direction.Direction.TheVariants.{Incoming, Outgoing}
use Rattle.multi_tables.specs.TableReads.{count_beside, far_in}
use Rattle.port_tables.specs.Limits.{port_slots}
use Rattle.multi_tables.specs.Forms.{flag_at, sum_of}
use Rattle.port_tables.specs.Lists.{range}

-- 1 for a slot that is linked, else 0
unfoldable pub linked_at : List ℕ → ℕ → ℕ
linked_at links s = cond (eqb (at links s) 0) 0 1

-- how many of the first k slots from s on, and of the first k below s, are linked
unfoldable pub linked_up : List ℕ → ℕ → ℕ → ℕ
linked_up links s zero = 0
linked_up links s (suc k) = linked_up links s k + linked_at links (s + k)

unfoldable pub linked_down : List ℕ → ℕ → ℕ → ℕ
linked_down links s zero = 0
linked_down links s (suc k) = linked_down links s k + linked_at links (s - suc k)

-- how many of the subports beside a copy port q are linked
unfoldable pub linked_beside : List ℕ → List ℕ → ℕ → Direction → ℕ
linked_beside links owners q Incoming = linked_down links q (count_beside owners q Incoming)
linked_beside links owners q Outgoing = linked_up links (q + 1) (count_beside owners q Outgoing)

-- how many wires a port has
unfoldable pub wires_at_in : List Bool → List ℕ → List ℕ → ℕ → Direction → ℕ
wires_at_in marks links owners p d = cond (flag_at marks port_slots p) (linked_beside links owners (far_in links p) d) (linked_at links p)

-- how many so many outgoing ports from p on have
unfoldable pub fan_out_in : List Bool → List ℕ → List ℕ → ℕ → ℕ → ℕ
fan_out_in marks links owners p count = sum_of (λ q. wires_at_in marks links owners q Outgoing) (range p count)
