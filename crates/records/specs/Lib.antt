-- The record run: request bytes in, answer bytes out.
--
-- What must be believed: that these definitions, over those of the multiport graph, say what document 01 says.
--   Words         bytes, words and requests
--   Run           what a request asks, its answer, the run from the empty graph of release 1, the calls of a list, and refusal 1
--   Forms         the enum in which the code holds what Run says, and when counts fit a word
--
-- What is proved, and need not be believed: everything else. The laws hold of every list of requests, with no other premise:
--   WordLaws      words_read_back: the words are read back from their bytes
--   RunLaws       run_is_history, run_obeys_wire_rule, answer_of_history: the graphs of a run are those of the history of its
--                 calls, with refused and reading requests left out, so that the wire rule speaks of them
--   RoomLaws      six_never_given: the run's own move list is long enough
--   RunRelease    eighteen_never_given: a run is of release 1
-- Steps that the functions' proofs cite:
--   WordSteps     the bytes that the leaves lay
--   AnswerSteps   what the tests on a request say, and numbers that fit a word
--   AskSteps      one request on a graph
--   RunSteps      the turns of a run, with what stays true in them (Running), and refusal 1
pub mod Words
pub mod Run
pub mod Forms
-- laws
pub mod WordLaws
pub mod RunLaws
pub mod RoomLaws
pub mod RunRelease
-- steps
pub mod WordSteps
pub mod AnswerSteps
pub mod AskSteps
pub mod RunSteps
