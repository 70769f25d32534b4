-- What stands below both graphs and the sketch: the limits, words about lists, what the numbers in the tables mean, and single steps on them.
--
-- What must be believed: that these definitions say what document 01 says. In this order:
--   Limits, Lists     the limits of the kit; words about lists
--   Entries, Tables   the numbers in the tables, and single steps on them
--   ResizeLinks       what a resize does to the link table
--   NodeTable         what is read of the node table, and one slot stored
--   Places            places and the wires between them, which the crates above speak of
-- What is proved, and need not be believed: Listing, laws of lists, and steps that the functions' proofs cite.
pub mod Limits
pub mod Lists
pub mod Entries
pub mod Tables
pub mod ResizeLinks
pub mod NodeTable
pub mod Places
-- laws of lists
pub mod Listing
pub mod Searches
-- steps that the functions' proofs cite
pub mod SameSides
pub mod TableSteps
pub mod ResizeLinkSteps
