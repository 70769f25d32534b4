-- A wiring as a file on the stick: saved and loaded (document 02, Req 05 and 06), loaded for either release (Req 09), and two files as one
-- (Req 12).
--
-- What must be believed, in this order: that these definitions, over those of the multiport graph, say what 02 says.
--   View          the view of a graph: blocks by rank, wires between ports by rank, sorted
--   Layout        the bytes of a view, and the view that any bytes say
--   Saving        the file of a graph; what saving answers and leaves in the lent buffer; refusal 15
--   Loading       what a file is held to (16, 17), the calls that build its wiring, what a load for a release answers and gives
--   BuildList     the build of a file as numbers, for those who ask it elsewhere
--   Claims        the words of the theorems: the same wiring, over the wire book; sizes; sound views
--   LoadClaims    when a build is refused
--   Merging       two files as one: the result, what merging answers and leaves in the lent buffer
--   MergeClaims   which answer of a merge is given when
-- Then what is proved of them:
--   FileTheorems  of saving: every theorem with a sentence and its statement
--   LoadTheorems  of loading, in the same way
--   MergeTheorems of merging, in the same way
--   LayoutExample one small file, byte by byte
--
-- What is proved, and need not be believed: everything else.
--   OrderLaws     `sorted` sorts and keeps counts, and a sorted list is known by its counts
--   LayoutLaws    lengths; a view is read back from its bytes
--   RankLaws      ranks among the graph's blocks and in the book
--   ViewLaws      the numbers, counts, blocks and wires of a graph's view
--   WiringLaws    one view exactly if the same wiring
--   LaidLaws      what a laid file is, and where its records stand
--   WrittenLaws   a laid file is what is written of the view that it says
--   SoundLaws     the tests of a view say that it is sound; what bytes say fits fields
--   LaidAgain     what is written of a sound view is laid
--   ViewSound     the view of a graph of the calls is sound
--   NextSlots     with no free slots an add gives the next node and the next ports
--   BuildLaws     a sound view whose adds and links are all accepted is the view of the graph built
--   PartlyBuilt   what a refused build leaves is not the view to be built
--   InputLaws     which links of a build give 18
--   BuildRefusals when a build is refused, with 3, 10 or 18
--   LoadAnswers   the answers of a load, case by case
--   ReleaseFiles  a file loaded for either release
--   OneWire       a history of release 2 saves no two wires into one input
--   MergeLaws     the view of two files: sorting in is appending, and the grouping makes no difference
--   MergeAnswers  the answers of a merge, case by case
pub mod View
pub mod Layout
pub mod Saving
pub mod Loading
pub mod BuildList
pub mod Claims
pub mod LoadClaims
pub mod FileTheorems
pub mod LoadTheorems
pub mod LayoutExample
pub mod Merging
pub mod MergeClaims
pub mod MergeTheorems
-- laws
pub mod OrderLaws
pub mod LayoutLaws
pub mod RankLaws
pub mod ViewLaws
pub mod WiringLaws
pub mod LaidLaws
pub mod WrittenLaws
pub mod SoundLaws
pub mod LaidAgain
pub mod ViewSound
pub mod NextSlots
pub mod BuildLaws
pub mod PartlyBuilt
pub mod InputLaws
pub mod BuildRefusals
pub mod LoadAnswers
pub mod ReleaseFiles
pub mod OneWire
pub mod MergeLaws
pub mod MergeAnswers
-- the code's own forms
pub mod Forms
pub mod LoadForms
pub mod MergeForms
-- steps that the functions' proofs cite
pub mod TurnSteps
pub mod ByteSteps
pub mod SortSteps
pub mod UnitSteps
pub mod SaveSteps
pub mod CheckSteps
pub mod WireSteps
pub mod BuildSteps
pub mod ListingSteps
pub mod MergeSteps
