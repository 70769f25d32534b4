-- One small history and its listing, number by number: first slot, size, and 0 for a free block or one higher than the node.
use Rattle.std.specs.Prelude.{◌≡◌, refl}
use mathlib.Core.List.{List, [], ◌∷◌, ◌++◌, map, flat_map}
use Rattle.port_tables.specs.Lists.{range}
use Rattle.port_tables.specs.Tables.{at, put, head_at}
use Rattle.port_tables.specs.declared.release.Release.TheVariants.{One}
use Rattle.theorems.specs.Book.{Call, add_call, remove_call, link_call}
use Rattle.theorems.specs.History.{run, run_under, run_from_under}
use Rattle.slots.specs.Blocks.{slot_numbers, slot_list, sizes_laid, holders_laid, held_blocks, free_blocks, free_of, chained, laid, walk_blocks}

-- three blocks, the first wire of an output and a second one, which splits it; then the second block goes
abbrev pub calls : List Call
calls = add_call 0 1 ∷ add_call 1 1 ∷ add_call 1 0 ∷ link_call 0 1 ∷ link_call 0 3 ∷ remove_call 1 ∷ []

-- slot 0 is held by node 0; slots 1 and 2 are free; slot 3 is held by node 2, slots 4 to 6 by the hidden node 3
pub listed : slot_numbers (run One calls).graph.graph ≡ 0 ∷ 1 ∷ 1 ∷ 1 ∷ 2 ∷ 0 ∷ 3 ∷ 1 ∷ 3 ∷ 4 ∷ 3 ∷ 4 ∷ []
unfolding slot_numbers slot_list sizes_laid holders_laid held_blocks free_blocks free_of chained laid walk_blocks run_under run_from_under Rattle.port_tables.specs.Tables.at Rattle.port_tables.specs.Tables.put Rattle.port_tables.specs.Tables.fill Rattle.port_tables.specs.Tables.fill_range Rattle.port_tables.specs.Tables.head_at Rattle.port_tables.specs.Tables.put_head Rattle.port_tables.specs.Tables.own_block Rattle.port_tables.specs.Tables.link_both Rattle.port_tables.specs.Tables.cut_far Rattle.port_tables.specs.Tables.cut Rattle.port_tables.specs.Tables.cut_range Rattle.port_tables.specs.Tables.link_count Rattle.port_tables.specs.Tables.cut_count Rattle.port_tables.specs.Tables.relink Rattle.port_tables.specs.Tables.move_port Rattle.port_tables.specs.Tables.move_up Rattle.port_tables.specs.Tables.move_down Rattle.port_tables.specs.Tables.shift Rattle.port_tables.specs.Tables.transfer Rattle.port_tables.specs.Tables.chain_block Rattle.port_tables.specs.Entries.port_entry Rattle.port_tables.specs.Entries.set_prev Rattle.portgraph.specs.Calls.new_graph Rattle.portgraph.specs.Calls.find_slot_under Rattle.portgraph.specs.Calls.find_block_under Rattle.portgraph.specs.Calls.rest_of Rattle.portgraph.specs.Calls.grown Rattle.portgraph.specs.Calls.slot_after Rattle.portgraph.specs.Calls.place_node Rattle.portgraph.specs.Calls.add_node_under Rattle.portgraph.specs.Calls.free_node Rattle.portgraph.specs.Calls.remove_node Rattle.portgraph.specs.Calls.link_ports Rattle.portgraph.specs.Calls.unlink_port Rattle.port_tables.specs.ResizeLinks.doubled Rattle.port_tables.specs.ResizeLinks.round_up Rattle.port_tables.specs.ResizeLinks.same_counts Rattle.port_tables.specs.ResizeLinks.fits_inside Rattle.portgraph.specs.Resize.plan_of_under Rattle.port_tables.specs.ResizeLinks.drop_incoming Rattle.port_tables.specs.ResizeLinks.drop_links Rattle.port_tables.specs.ResizeLinks.drop_count Rattle.port_tables.specs.ResizeLinks.inside_links Rattle.portgraph.specs.Resize.resize_inside Rattle.port_tables.specs.ResizeLinks.anew_links Rattle.portgraph.specs.Resize.resize_anew Rattle.portgraph.specs.Resize.set_num_ports_under Rattle.portgraph.specs.Resize.moves_after_under Rattle.multiportgraph.specs.Reading.far_port Rattle.multiportgraph.specs.Reading.has_link Rattle.multiportgraph.specs.Reading.owner_of Rattle.multiportgraph.specs.Reading.port_of Rattle.multiportgraph.specs.Reading.position_of Rattle.multiportgraph.specs.Reading.is_hidden Rattle.multiportgraph.specs.Reading.is_split Rattle.multiportgraph.specs.Reading.seen Rattle.multiportgraph.specs.Reading.copy_node Rattle.multiportgraph.specs.Reading.subports Rattle.multiportgraph.specs.Reading.subport_at Rattle.multiportgraph.specs.Reading.end_at Rattle.multiportgraph.specs.Reading.as_read Rattle.multiportgraph.specs.Reading.copy_side Rattle.multiportgraph.specs.Reading.main_port Rattle.multiportgraph.specs.Reading.subport_of Rattle.multiportgraph.specs.Graph.empty_graph Rattle.multiportgraph.specs.Calls.add_block_under Rattle.multiportgraph.specs.HiddenNodes.remove_copy Rattle.multiportgraph.specs.HiddenNodes.unsplit Rattle.multiportgraph.specs.HiddenNodes.unsplit_range Rattle.multiportgraph.specs.Calls.drop_block Rattle.multiportgraph.specs.Calls.remove_block Rattle.multi_tables.specs.Forms.lay_range Rattle.multi_tables.specs.Forms.lay_marks Rattle.multiportgraph.specs.HiddenNodes.recounted Rattle.multiportgraph.specs.HiddenNodes.copies_in Rattle.multiportgraph.specs.HiddenNodes.copies_dropped Rattle.multiportgraph.specs.HiddenNodes.remove_lone Rattle.multiportgraph.specs.HiddenNodes.remove_all Rattle.multiportgraph.specs.Calls.set_counts_under Rattle.multiportgraph.specs.HiddenNodes.split_graph Rattle.multiportgraph.specs.HiddenNodes.split_port Rattle.multiportgraph.specs.HiddenNodes.split_under Rattle.multiportgraph.specs.HiddenNodes.lowest_free Rattle.multiportgraph.specs.HiddenNodes.grow_under Rattle.multiportgraph.specs.HiddenNodes.reuse_under Rattle.multiportgraph.specs.HiddenNodes.prepare_under Rattle.multiportgraph.specs.Calls.link_pair_if Rattle.multiportgraph.specs.Calls.link_clean_if Rattle.multiportgraph.specs.Calls.link_sub_if Rattle.multiportgraph.specs.Refusals.wired_input Rattle.multiportgraph.specs.Refusals.input_taken Rattle.multiportgraph.specs.Calls.cut_port Rattle.multiportgraph.specs.Calls.cut_sub Rattle.port_tables.specs.Lists.range mathlib.Core.List.flat_map Rattle.multiportgraph.specs.Reading.place_of
listed = refl
