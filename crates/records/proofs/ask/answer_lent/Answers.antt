-- `records::ask::answer_lent` meets its contract: each arm is the call that is asked. Assumes nothing.
use mathlib.Core.Path.{refl, ap}
use native.Mathlib.Omega.{arith}
use Rattle.multiportgraph.specs.Calls.{visible_nodes, visible_ports, visible_links}
use Rattle.records.specs.Forms.{meant}
use Rattle.records.specs.AnswerSteps.{counts_fit}
use Rattle.records.specs.AskSteps.{answered, counts_answered, set_answered, set_fits, cut_answered, cut_sub_answered}
use Rattle.records.proofs.ask.answer_lent.Goals as goal

pub set_words-requires : goal.set_words-requires
set_words-requires c = set_fits _ _ _ _ _ c.set_quiet_lent.ensures.1 (omega arith)

pub returns-in-Add : goal.returns-in-Add
returns-in-Add c =
    answered c.requires (ap meant c.in-Add.is) (rw c.add_lent.ensures.1 at c.add_words.ensures)
    c.add_lent.ensures.0

pub returns-in-Remove : goal.returns-in-Remove
returns-in-Remove c =
    answered c.requires (ap meant c.in-Remove.is) (rw c.remove_lent.ensures.1 at c.remove_words.ensures)
    c.remove_lent.ensures.0

pub returns-in-Resize : goal.returns-in-Resize
returns-in-Resize c =
    set_answered c.requires (ap meant c.in-Resize.is) refl c.set_quiet_lent.ensures.1 c.set_words.ensures c.set_quiet_lent.ensures.0

pub returns-in-Link : goal.returns-in-Link
returns-in-Link c =
    answered c.requires (ap meant c.in-Link.is) (rw c.link_lent.ensures.1 at c.link_words.ensures)
    c.link_lent.ensures.0

pub returns-in-Unlink : goal.returns-in-Unlink
returns-in-Unlink c =
    cut_answered c.requires (ap meant c.in-Unlink.is) c.cut_words.ensures c.cut_port_lent.ensures.1 c.cut_port_lent.ensures.0

pub returns-in-LinkSubports : goal.returns-in-LinkSubports
returns-in-LinkSubports c =
    answered c.requires (ap meant c.in-LinkSubports.is) (rw c.link_sub_lent.ensures.1 at c.link_words-in-LinkSubports.ensures)
    c.link_sub_lent.ensures.0

pub returns-in-UnlinkSubport : goal.returns-in-UnlinkSubport
returns-in-UnlinkSubport c =
    cut_sub_answered c.requires (ap meant c.in-UnlinkSubport.is) c.cut_words-in-UnlinkSubport.ensures c.cut_sub_lent.ensures.1 c.cut_sub_lent.ensures.0

pub counted-requires : goal.counted-requires
unfolding visible_nodes visible_ports visible_links
counted-requires c = counts_fit _ c.requires c.node_count.ensures c.port_count.ensures c.link_count.ensures

pub returns-in-Counts : goal.returns-in-Counts
unfolding visible_nodes visible_ports visible_links
returns-in-Counts c =
    counts_answered c.requires (ap meant c.in-Counts.is) c.node_count.ensures c.port_count.ensures c.link_count.ensures c.counted.ensures
