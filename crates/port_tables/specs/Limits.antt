-- The limits, named once: every law is over these names. What the laws use of their values stands below them.
use Rattle.std.specs.Prelude.{◌≡◌, refl, ℕ, ◌+◌, ◌^◌, ◌*◌, ◌≤◌, ◌<◌}
use Rattle.std.proofs.Common.{arith}

-- slots of the node table
abbrev pub node_slots : ℕ
node_slots = 1024

-- slots of each port table
abbrev pub port_slots : ℕ
port_slots = 3072

-- the most ports of a node, and the largest block
abbrev pub node_ports : ℕ
node_ports = 1024

-- free lists of blocks, one for each size from 0
abbrev pub free_lists : ℕ
free_lists = node_ports + 1

-- what a move list says where there is no link
abbrev pub no_port : ℕ
no_port = 4294967295

-- The limits of a kit: a call is refused with 10 where a table's used length would pass them.
pub record Limits : Type 0 where
  pub nodes : ℕ
  pub ports : ℕ

-- those of this kit
abbrev pub present : Limits
present = record { nodes = node_slots; ports = port_slots }

-- What a raise of the limits proves again. That the other numbers in the tables fit their widths is asked where they are stored.

-- the most ports are a power of two, so that a total rounded up is a block that a node may have
pub most_ports_are_a_power : (k : ℕ) × (2 ^ k ≡ node_ports)
most_ports_are_a_power = (10, refl)

-- beside a node with the most ports and one port more there is no room for a block of twice as many
pub no_double_block : port_slots ≤ 3 * node_ports
no_double_block = omega arith

-- a free entry's neighbours, each one higher than the number of a node slot, fit 16 bits
pub neighbours_fit : node_slots < 2 ^ 16
neighbours_fit = omega arith
