-- `files::save::save` meets its contract: a buffer that is too short, and one that the file is laid in, by lists that are long enough.
use mathlib.Core.Path.{◌≡◌, ◌∙◌}
use Rattle.multiportgraph.specs.Calls.{visible_nodes, visible_links}
use Rattle.files.specs.Layout.{file_length}
use Rattle.files.specs.SaveSteps.{save_short}
use Rattle.files.proofs.save.save.Goals as goal
use Rattle.files.proofs.save.save.Goals.{After-file_length-size}

-- the file's length, by the graph's counts
size_is : (c : After-file_length-size) → c.file_length-size.result ≡ file_length (visible_nodes c.args.graph.now) (visible_links c.args.graph.now)
unfolding visible_nodes visible_links
size_is c = c.file_length-size.ensures ∙ (λ i. file_length (c.node_count-blocks.ensures i) (c.link_count-wires.ensures i))

pub returns-then-buffer-size : goal.returns-then-buffer-size
returns-then-buffer-size c = save_short c.requires.fine c.args.buffer.now _ (size_is (goal.at.returns-then-buffer-size c).After-file_length-size) c.if-buffer-size.true
