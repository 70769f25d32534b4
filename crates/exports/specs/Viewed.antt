-- What a page is drawn from, as bytes: how many blocks and wires, the blocks with their counts and first port, and all wires by port and place; and what the entry
-- that writes them returns and leaves in the lent buffer. It is of release 1, as record runs are.
use Rattle.std.specs.Prelude.{cond, List, ◌∷◌, ◌++◌, ℕ, leb, length}
use Rattle.multiportgraph.specs.declared.multiportgraph.MultiPortGraph.{MultiPortGraph}
use Rattle.multiportgraph.specs.Listed.{blocks_listed, wires_listed, list_after}
use Rattle.multiportgraph.specs.Wires.{blocks, all_wires}
use Rattle.records.specs.Words.{bytes_of}
use Rattle.exports.specs.Exports.{refused_with, graph_left, list_whole}

-- the words of a graph's view: its numbers of blocks and wires; each block by ascending number: node, incoming, outgoing, first port; each wire in the order of the
-- list of all wires: port, offset, node and position of its outgoing end, then of its incoming end
unfoldable pub view_words : MultiPortGraph → List ℕ
view_words m = length (blocks m) ∷ length (all_wires m) ∷ blocks_listed m ++ wires_listed m

-- its bytes, four for each word
unfoldable pub view_bytes : MultiPortGraph → List ℕ
view_bytes m = bytes_of (view_words m)

-- the view's length, or 15 if the buffer is shorter than the view
unfoldable pub view_told : MultiPortGraph → List ℕ → ℕ
view_told m view = cond (leb (length (view_bytes m)) (length view)) (length (view_bytes m)) (refused_with 15)

-- what the entry returns; 1 before 15
unfoldable pub view_return : List ℕ → List ℕ → ℕ
view_return requests view = cond (list_whole requests) (view_told (graph_left requests) view) (refused_with 1)

-- the buffer afterwards: the view, and past it what it held; as it was if it is too short or the list refused
unfoldable pub view_written : List ℕ → List ℕ → List ℕ
view_written requests view = cond (list_whole requests) (list_after (view_bytes (graph_left requests)) view) view
