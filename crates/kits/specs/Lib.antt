-- Kits with other limits (document 02, Req 08).
--
-- Read in this order. Statements first:
--   KitTheorems   every theorem with a sentence and its statement
--   KitExample    case J's blocks: a file that loads here, and that a former kit refuses
-- The words that they use, to be believed together with the definitions under limits of portgraph, multiportgraph, theorems and files:
--   Kits          the former limits; used lengths within and past limits; slots beyond them; the answers of a list of calls
-- What is proved, and need not be believed:
--   UnderLaws     the calls of the single-link graph under two limits
--   StepLaws      every call under two limits
--   KitLaws       histories, builds and loads
pub mod KitTheorems
pub mod KitExample
pub mod Kits
-- laws
pub mod UnderLaws
pub mod StepLaws
pub mod KitLaws
