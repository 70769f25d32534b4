-- Laws that rest on the definition of one call.
--   CutLaws   the cut of a port
pub mod CutLaws
