-- `files::save::write_by` meets its contract: the listings, then the units of the parts of them that are lent.
use native.Mathlib.Omega.{arith}
use mathlib.Core.Path.{◌≡◌, refl}
use Prim.Native.Nat.{ℕ, ◌*◌}
use lib.ListN.{take, length-replicate}
use borrow.Author.Rules.{rules}
use Rattle.multiportgraph.specs.Listed.{blocks_listed, wires_listed}
use Rattle.files.specs.SaveSteps.{slots_few, blocks_within, wires_within, blocks_room, wires_room}
use Rattle.files.proofs.save.write_by.Given.{Over}
use Rattle.files.proofs.save.write_by.Goals as goal
use Rattle.files.proofs.save.write_by.Goals.{After-link_count-wire_end}

-- the parts of the lists that have the listings
blocks_lent : (g : Over) (c : After-link_count-wire_end g) → take (4 * c.node_count-block_end.result) c.list_blocks.new.list ≡ blocks_listed c.args.graph.now
blocks_lent g c = blocks_within c.requires.0 c.node_count-block_end.ensures c.requires.1 c.list_blocks.ensures.1

wires_lent : (g : Over) (c : After-link_count-wire_end g) → take (8 * c.link_count-wire_end.result) c.list_wires.new.list ≡ wires_listed c.args.graph.now
wires_lent g c = wires_within c.requires.0 c.link_count-wire_end.ensures c.requires.2 c.list_wires.ensures.1

pub put_blocks-next-requires : goal.put_blocks-next-requires
put_blocks-next-requires g c =
    let x = (goal.at.put_blocks-next-requires g c).After-link_count-wire_end in
    let l = length-replicate {A = ℕ} g.row.NUMBERS 0 in
    blocks_room c.requires.0.fine c.args.buffer.now _ refl c.requires.5 _ _ (blocks_lent g x) (wires_lent g x) (omega (arith, c.requires.3))

pub put_wires-requires : goal.put_wires-requires
put_wires-requires g c =
    let x = (goal.at.put_wires-requires g c).After-link_count-wire_end in
    let f = c.requires.0.fine in
    wires_room f c.args.buffer.now _ refl c.requires.5 _ _ (blocks_lent g x) (wires_lent g x) c.put_blocks-next.new.buffer _ c.put_blocks-next.ensures.0 (slots_few f) (omega (arith, c.requires.4)) (search rules)
