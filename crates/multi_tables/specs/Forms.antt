-- How a port number and an end are read, marks and flags in their tables, and how marks move with their ports.
use Rattle.std.specs.Prelude.{Bool, false, cond, true, List, [], ◌∷◌, ℕ, ◌+◌, ◌-◌, min, zero, suc, ltb, eqb, get_or, set, Option, Some, None, Result, Ok, Err}
use Rattle.port_tables.specs.Tables.{fill, at}
use Rattle.port_tables.specs.declared.node_entry.NodeMeta.{NodeMeta}
use Rattle.port_tables.specs.Entries.{node#, port#}
pub use Rattle.port_tables.specs.Entries.{node_number}
use Rattle.multi_tables.specs.declared.seen.SeenPort.{SeenPort}
use Rattle.port_tables.specs.declared.direction.Direction.{Direction}
use Rattle.multi_tables.specs.declared.answers.SubportIndex.{SubportIndex}
use Rattle.port_tables.specs.declared.release.Release.{Release}
use Rattle.multi_tables.specs.declared.answers.SubportLink.{SubportLink}
use Rattle.multi_tables.specs.declared.seen.SeenPort.TheVariants as seen_port
use Rattle.port_tables.specs.declared.release.Release.TheVariants as release
use Rattle.multi_tables.specs.declared.answers.Refusal.{Refusal}
use Rattle.multi_tables.specs.declared.answers.PortPlace.{PortPlace}

-- what a table of flags of this size has at a number; false outside
unfoldable pub flag_at : List Bool → ℕ → ℕ → Bool
flag_at t size i = cond (ltb i size) (get_or t i false) false

-- the table of flags with one set; outside nothing changes
unfoldable pub put_flag : List Bool → ℕ → ℕ → Bool → List Bool
put_flag t size i b = cond (ltb i size) (set t i b) t

-- the ports of each side that were not there before are unmarked
unfoldable pub unmark_new : List Bool → NodeMeta → NodeMeta → List Bool
unmark_new marks a b =
    fill
    (fill marks (b.first_port.0 + min a.incoming b.incoming) (b.incoming - min a.incoming b.incoming) false)
    (b.first_port.0 + b.incoming + min a.outgoing b.outgoing) (b.outgoing - min a.outgoing b.outgoing) false

-- so many ports from the old first one on come before the end of the new ones
abbrev pub before_end : NodeMeta → NodeMeta → ℕ
before_end a b = b.first_port.0 + (b.incoming + b.outgoing) - a.first_port.0

-- the old ports that come before the first new one, or after the last, are unmarked
unfoldable pub unmark_old : List Bool → NodeMeta → NodeMeta → List Bool
unmark_old marks a b =
    fill
    (fill marks a.first_port.0 (min (a.incoming + a.outgoing) (b.first_port.0 - a.first_port.0)) false)
    (a.first_port.0 + before_end a b) (a.incoming + a.outgoing - before_end a b) false

-- the lowest offset from o on whose slot, counted from first, holds no link, among n; the one after the last where all do
unfoldable pub lowest_unlinked : List ℕ → ℕ → ℕ → ℕ → ℕ
lowest_unlinked t first o zero = o
lowest_unlinked t first o (suc n) = cond (eqb (at t (first + o)) 0) o (lowest_unlinked t first (suc o) n)

-- Marks of a node whose ports move: each kept port keeps its mark.

-- n marks of the one list, from i on, are laid into the other, from j on
unfoldable pub lay_range : List Bool → List Bool → ℕ → ℕ → ℕ → List Bool
lay_range marks old i j zero = marks
lay_range marks old i j (suc n) = lay_range (set marks j (get_or old i false)) old (suc i) (suc j) n

-- Marks of a node whose ports move, laid in place: a is its meta data before, b after.

-- each kept port has its mark at its new number
unfoldable pub lay_kept : List Bool → List Bool → NodeMeta → NodeMeta → List Bool
lay_kept marks old a b =
    lay_range
    (lay_range marks old a.first_port.0 b.first_port.0 (min a.incoming b.incoming))
    old (a.first_port.0 + a.incoming) (b.first_port.0 + b.incoming) (min a.outgoing b.outgoing)

-- the old and the new ports are unmarked, then each kept port has its mark at its new number
unfoldable pub lay_marks : List Bool → NodeMeta → NodeMeta → List Bool
lay_marks marks a b =
    lay_range
    (lay_range
    (fill (fill marks a.first_port.0 (a.incoming + a.outgoing) false) b.first_port.0 (b.incoming + b.outgoing) false)
    marks a.first_port.0 b.first_port.0 (min a.incoming b.incoming))
    marks (a.first_port.0 + a.incoming) (b.first_port.0 + b.incoming) (min a.outgoing b.outgoing)

-- a port number: not live, of a hidden node, or of a block, with its node and side
pub data Port : Type 0 where
  dead : Port
  hidden : Port
  visible : ℕ → Direction → Port

abbrev pub seen_as : Port → SeenPort
seen_as dead = seen_port.Dead
seen_as hidden = seen_port.Hidden
seen_as (visible n d) = seen_port.Visible (node# n) d

-- an end that a call names: the inner port, or none where a split port has no such offset
pub data End : Type 0 where
  inner : ℕ → End
  lacking : End

abbrev pub end_as : End → Option ℕ
end_as (inner q) = Some q
end_as lacking = None

abbrev pub subport# : ℕ → ℕ → SubportIndex
subport# p o = record { port = port# p; subport_offset = o }

-- an offset of 65,535 is none
abbrev pub good_offset : ℕ → Bool
good_offset o = ltb o 65535

-- the graph is made for release 2, and a port named by either end of a link is such an input
abbrev pub taken_under : Release → Bool → Bool → Bool
taken_under release.One first second = false
taken_under release.Two first second = cond first true second

unfoldable pub sum_of : (ℕ → ℕ) → List ℕ → ℕ
sum_of f [] = 0
sum_of f (x ∷ l) = f x + sum_of f l

abbrev pub wire_to : SubportIndex → Result (Option (SubportIndex × PortPlace)) Refusal → List SubportLink
wire_to s (Ok (Some (t, x))) = record { from = s; to = t; place = x } ∷ []
wire_to s (Ok None) = []
wire_to s (Err r) = []
