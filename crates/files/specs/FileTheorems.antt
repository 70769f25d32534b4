-- What is proved of files, in plain order: statements with a sentence each, over every list of calls from the empty graph of either release. The words
-- stand in Claims, over Saving and the wire book.
use Rattle.std.specs.Prelude.{◌≡◌, refl, List, ◌↔◌, ℕ, ◌≤◌, ◌<◌, length, Ok}
use Rattle.std.proofs.Common.{sym, ap, ◌∙◌, subst, arith, le-leb}
use Rattle.port_tables.specs.Limits.{node_slots, node_ports}
use Rattle.port_tables.specs.Lists.{Rising}
use Rattle.multiportgraph.specs.Calls.{visible_nodes, visible_links}
use Rattle.port_tables.specs.declared.release.Release.{Release}
use Rattle.theorems.specs.Book.{Call}
use Rattle.theorems.specs.History.{run}
use Rattle.theorems.proofs.CallLaws.{rel_run}
use Rattle.files.specs.View.{RankWire, View, view_of}
use Rattle.files.specs.Layout.{units_for, bytes_of, file_length, unbytes}
use Rattle.files.specs.Saving.{file_of, save_answer}
use Rattle.files.specs.Claims.{HasBlock, same_wire, wires_between, SameWiring, WithinLimits, At, how_many, AtMost, longest_file}
use Rattle.files.specs.LayoutLaws as layout
use Rattle.files.specs.ViewLaws as views
use Rattle.files.specs.WiringLaws as wiring

-- Two histories give equal bytes exactly if they have the same blocks by rank and, between any two ports, as many wires, whatever their releases.
pub same_file_same_wiring : (one other : Release) (first second : List Call) →
    (file_of (run one first).graph ≡ file_of (run other second).graph) ↔ SameWiring (run one first).book (run other second).book
unfolding file_of
same_file_same_wiring one other first second =
    let r = (rel_run one first).1 in
    let s = (rel_run other second).1 in (
      (λ e. wiring.view_gives_wiring r s (layout.same_bytes_same_view _ _ (views.view_fits r.fine) (views.view_fits s.fine) e)),
      (λ h. ap bytes_of (wiring.wiring_gives_view r s h)),
    )

-- What a file says is the view of its graph:
pub file_read_back : (release : Release) (calls : List Call) → unbytes (file_of (run release calls).graph) ≡ view_of (run release calls).graph
unfolding file_of
file_read_back release calls = layout.view_read_back (view_of (run release calls).graph) (views.view_fits (rel_run release calls).1.fine)

-- the blocks of the book, each at its rank,
pub file_has_the_blocks : (release : Release) (calls : List Call) (r i o : ℕ) →
    HasBlock (run release calls).book r i o ↔ At (unbytes (file_of (run release calls).graph)).blocks r (record { incoming = i; outgoing = o })
file_has_the_blocks release calls r i o =
    subst (λ (v : View). HasBlock (run release calls).book r i o ↔ At v.blocks r (record { incoming = i; outgoing = o }))
    (sym (file_read_back release calls)) (views.blocks_viewed (rel_run release calls).1 r i o)

-- the wires of the book, each as often as the book has it between its ports,
pub file_has_the_wires : (release : Release) (calls : List Call) (w : RankWire) → how_many same_wire w (unbytes (file_of (run release calls).graph)).wires ≡ wires_between (run release calls).book w
file_has_the_wires release calls w = ap (λ (v : View). how_many same_wire w v.wires) (file_read_back release calls) ∙ views.wires_viewed (rel_run release calls).1 w

-- and these sorted.
pub file_is_sorted : (release : Release) (calls : List Call) → Rising AtMost (unbytes (file_of (run release calls).graph)).wires
file_is_sorted release calls = subst (λ (v : View). Rising AtMost v.wires) (sym (file_read_back release calls)) (wiring.wires_rise (run release calls).graph)

-- No number of a file passes the limits,
pub file_within_limits : (release : Release) (calls : List Call) → WithinLimits (view_of (run release calls).graph)
file_within_limits release calls = views.view_within (rel_run release calls).1.fine

-- which fit the fields, so that nothing is tested when a file is written.
pub limits_fit_fields : (node_slots ≤ 65536) × (node_ports < 65536)
limits_fit_fields = omega arith

-- The length follows from the counts alone,
pub file_length_of_counts : (release : Release) (calls : List Call) → length (file_of (run release calls).graph) ≡ file_length (visible_nodes (run release calls).graph) (visible_links (run release calls).graph)
file_length_of_counts release calls = views.file_length_is (rel_run release calls).1.fine

-- and no file is longer than that of as many blocks as there are node slots and as many wires as there are pairs of port slots:
pub file_is_short : (release : Release) (calls : List Call) → length (file_of (run release calls).graph) ≤ longest_file
file_is_short release calls = views.file_length_most (rel_run release calls).1.fine

-- a buffer of so many bytes is never too short,
pub never_too_short : (release : Release) (calls : List Call) (buffer : List ℕ) → longest_file ≤ length buffer → save_answer (run release calls).graph buffer ≡ Ok (length (file_of (run release calls).graph))
unfolding save_answer
never_too_short release calls buffer h =
    let k = file_is_short release calls in
    rw (le-leb (length (file_of (run release calls).graph)) (length buffer) (omega arith))

-- and it has 42 units.
pub longest_file_lem : longest_file ≡ 21504
unfolding longest_file file_length units_for
longest_file_lem = refl
