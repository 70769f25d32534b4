-- What the consoles' lines are made of: words and numbers in a text.
--
-- Read in this order.
--   Text        the words that the contracts use: blanks, parts, words, lines and numbers of a text
--   Orders      what a line asks for
--   Named       what a number of a line names
--   TextLaws    what they mean: words are the same exactly if their bytes are; a part within a text is the text between its ends
-- Proofs and steps, which need not be believed:
--   TextSteps, OrderSteps   what the proofs of functions cite
pub mod Text
pub mod Orders
pub mod Named
-- laws
pub mod TextLaws
-- steps
pub mod TextSteps
pub mod OrderSteps
