-- `multiportgraph::prepare::hang` meets its contract: a link is cut, and two are drawn.
use Rattle.std.specs.Prelude.{◌≡◌, ℕ, ◌+◌, ◌-◌}
use mathlib.Core.Path.{ap}
use native.Mathlib.Omega.{arith}
use Rattle.port_tables.specs.Tables.{at, cut, link_both, link_count}
use Rattle.portgraph.specs.Calls.{with_links}
use Rattle.portgraph.specs.declared.portgraph.PortGraph.{PortGraph}
use Rattle.multi_tables.specs.TableReads.{far_in, hang_on}
use Rattle.multiportgraph.proofs.prepare.hang.Goals as goal

two : (n : ℕ) → n + 1 + 1 ≡ n + 2
two n = omega arith

hung : (g : PortGraph) (p copy first : ℕ) {held far : ℕ} {l₁ l₂ l₃ : PortGraph} →
    held ≡ at g.port_link p →
    far ≡ held - 1 →
    l₁ ≡ with_links g (cut g.port_link p) (g.link_count - link_count (at g.port_link p)) →
    l₂ ≡ with_links l₁ (link_both l₁.port_link p copy) (l₁.link_count + 1) →
    l₃ ≡ with_links l₂ (link_both l₂.port_link first far) (l₂.link_count + 1) →
    l₃ ≡ with_links g (hang_on g.port_link p copy first) (g.link_count - link_count (at g.port_link p) + 2)
unfolding hang_on far_in
hung g p copy first e₁ e₂ e₃ e₄ e₅ = rw (e₅, e₄, e₃, e₂, e₁) (ap (with_links g _) (two _))

pub returns : goal.returns
returns c = hung c.args.graph.now c.args.port c.args.copy c.args.first c.cut_link-held.ensures.0 c.saturating_sub.ensures c.cut_link-held.ensures.1 c.draw_link.ensures c.draw_link-2.ensures
