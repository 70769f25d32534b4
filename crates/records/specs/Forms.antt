-- The code's forms of what the definitions say: the enum of what is asked, and when an event count or the counts of a graph fit a word.
use Rattle.std.specs.Prelude.{ℕ, ◌<◌, Option, Some, None, Result, Ok, Err}
use Rattle.theorems.specs.Book.{add_call, remove_call, set_call, link_call, link_sub_call, cut_call, cut_sub_call}
use Rattle.records.specs.Run.{Asked, call, link_of, counts, refused}
use Rattle.records.specs.declared.requests.Ask.{Ask}
use Rattle.records.specs.declared.requests.Ask.TheVariants as ask
use Rattle.multiportgraph.specs.HiddenNodes.{enough}
use Rattle.multi_tables.specs.declared.answers.Refusal.{Refusal}

abbrev pub meant : Ask → Asked
meant (ask.Add i o) = call (add_call i o)
meant (ask.Remove n) = call (remove_call n.0)
meant (ask.Resize n i o) = call (set_call n.0 i o enough)
meant (ask.Link a b) = call (link_call a.0 b.0)
meant (ask.Unlink p) = call (cut_call p.0)
meant (ask.LinkSubports s t) = call (link_sub_call s.port.0 s.subport_offset t.port.0 t.subport_offset)
meant (ask.UnlinkSubport s) = call (cut_sub_call s.port.0 s.subport_offset)
meant (ask.SubportLink s) = link_of s.port.0 s.subport_offset
meant ask.Counts = counts

-- nothing is refusal 2
abbrev pub meant_by : Option Ask → Asked
meant_by (Some x) = meant x
meant_by None = refused

-- the visible counts of a graph fit a word
abbrev pub CountsFit : ℕ → ℕ → ℕ → Type 0
CountsFit blocks ports wires = (blocks < 4294967296) × (ports < 4294967296) × (wires < 4294967296)

abbrev pub EventsFit : Result ℕ Refusal → Type 0
EventsFit (Ok e) = e < 4294967296
EventsFit (Err r) = Unit {0}
