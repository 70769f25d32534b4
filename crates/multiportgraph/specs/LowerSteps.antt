-- What the lower graph's own calls do with the inner ports that a call names: where a call names them, they are live, and a link finds
-- them free and on opposite sides.
use Rattle.std.specs.Prelude.{◌≡◌, Bool, ℕ, Option, Result, Ok, Err}
use Rattle.std.proofs.Math.Path.{refl, ap}
use Rattle.std.proofs.Common.{sym, ◌∙◌}
use Rattle.std.proofs.Math.Bool.{true, false, cond}
use Rattle.portgraph.specs.Lookups.{port_at}
use Rattle.portgraph.specs.Calls.{unlink_port}
use Rattle.portgraph.specs.GoodSlots.{zero_is_not_one}
use Rattle.port_tables.specs.declared.direction.Direction.{Direction}
use Rattle.port_tables.specs.declared.port_entry.PortMeta.{PortMeta}
use Rattle.port_tables.specs.declared.port_entry.PortEntry.TheVariants as port_variants
use Rattle.portgraph.specs.declared.portgraph.PortUnlinked as lower_unlinked
use Rattle.multiportgraph.specs.Reading.{seen, is_split, end_at, link_of_end}
use Rattle.multi_tables.specs.Forms.{Port, dead, hidden, visible, End, inner, lacking, good_offset}
use Rattle.multiportgraph.specs.Calls.{cut_sub, cut_plain, cut_port, subport_link}
use Rattle.multiportgraph.specs.Graph.{with_graph}
use Rattle.multiportgraph.specs.WellFormed.{MultiWf}
use Rattle.multiportgraph.specs.Presumed.{OnBlock}
use Rattle.multiportgraph.specs.CallSteps.{cut_port_plain}
use Rattle.multi_tables.specs.TableReads.{seen_in, wire_in, plain_in}
use Rattle.multiportgraph.specs.TableReadLaws.{seen_read, end_read_off, end_is_port, plain_read_lem}
use Rattle.multi_tables.specs.NamedEnds.{end_or, end_seen, end_named}
use Rattle.multiportgraph.specs.NamedLaws.{cut_live, cut_done}
use Rattle.multiportgraph.specs.declared.multiportgraph.MultiPortGraph.{MultiPortGraph}
use Rattle.multi_tables.specs.declared.answers.SubportIndex.{SubportIndex}
use Rattle.multi_tables.specs.declared.answers.Refusal.TheVariants.{BadOffset}
use Rattle.multiportgraph.specs.declared.multiportgraph.PortUnlinked.{PortUnlinked}
use Rattle.multi_tables.specs.declared.answers.Refusal.{Refusal}
use Rattle.multi_tables.specs.declared.answers.PortPlace.{PortPlace}
use Rattle.multiportgraph.specs.CaseLaws.{cut_sub_cases, subport_link_cases}
use Rattle.multiportgraph.specs.Cases.{cut_end, cut_sub_seen, link_of_seen, cut_refused}

-- an inner port that is live
abbrev Live : MultiPortGraph → ℕ → Type 0
Live m x = (k : PortMeta) × (port_at m.graph x ≡ port_variants.Port k)

-- what is cut is what the subport was linked with
pub link_cut : (m : MultiPortGraph) (p o : ℕ) → subport_link m p o ≡ (cut_sub m p o).answer
unfolding unlink_port
link_cut m p o =
    subport_link_cases m p o ∙ (sym (offset (good_offset o)) ∙ ap (λ (v : PortUnlinked). v.answer) (sym (cut_sub_cases m p o)))
  where
    ends : (v : End) → (cut_end m p v).answer ≡ link_of_end m p v
    ends (inner x) = refl
    ends lacking = refl

    ports : (v : Port) → (cut_sub_seen m p o v).answer ≡ link_of_seen m p o v
    ports dead = refl
    ports hidden = refl
    ports (visible n d) = ends (end_at m p d o)

    offset : (b : Bool) → (cond b (cut_sub_seen m p o (seen m p)) (cut_refused m BadOffset)).answer ≡ cond b (link_of_seen m p o (seen m p)) (Err BadOffset)
    offset true = ports (seen m p)
    offset false = refl

module _ {m : MultiPortGraph} (w : MultiWf m) where
  -- An end that is cut.

  module _ (p o x : ℕ) where
    live_end : (n : ℕ) (d : Direction) → seen m p ≡ visible n d → (v : End) → end_at m p d o ≡ v →
        end_or m.multiport m.graph.port_link m.graph.port_meta m.copy_node p v ≡ Ok x → Live m x
    live_end n d s lacking t e = absurd (zero_is_not_one (cc))
    live_end n d s (inner y) t e =
        let q : y ≡ x = cc in
        let k = end_is_port w.fine p n d s o x (t ∙ ap inner q) in
        (k.0, k.1)

    live_seen : (s : Port) → seen m p ≡ s → end_seen m.multiport m.graph.port_link m.graph.port_meta m.copy_node p o s ≡ Ok x → Live m x
    live_seen dead t e = absurd (zero_is_not_one (cc))
    live_seen hidden t e = absurd (zero_is_not_one (cc))
    live_seen (visible n d) t e =
        live_end n d t (end_at m p d o) refl
        (ap (end_or m.multiport m.graph.port_link m.graph.port_meta m.copy_node p) (sym (end_read_off w.fine p n d t o)) ∙ e)

    live_named : end_named m.multiport m.graph.port_link m.graph.port_meta m.copy_node p o ≡ Ok x → Live m x
    unfolding end_named
    live_named e = go (good_offset o) e
      where
        go : (b : Bool) → cond b (end_seen m.multiport m.graph.port_link m.graph.port_meta m.copy_node p o (seen_in m.graph.port_meta m.copy_node p)) (Err BadOffset) ≡ Ok x → Live m x
        go true e = live_seen (seen_in m.graph.port_meta m.copy_node p) (sym (seen_read m w.fine.flags_long p)) e
        go false e = absurd (zero_is_not_one (cc))

  pub end_cut_below : (p o : ℕ) {x : ℕ} {e : Result ℕ Refusal} {r : lower_unlinked.PortUnlinked} {a : Result (Option (SubportIndex × PortPlace)) Refusal} →
      e ≡ end_named m.multiport m.graph.port_link m.graph.port_meta m.copy_node p o → e ≡ Ok x → r ≡ unlink_port m.graph x →
      a ≡ wire_in m.graph.port_link m.graph.port_meta m.copy_node x → ◌≡◌ {A = PortUnlinked} (record { graph = with_graph m r.graph; answer = a }) (cut_sub m p o)
  end_cut_below p o {x} {e} {r} {a} is told u k =
      cut_done w p o is told
      (let l = live_named p o x (sym is ∙ told) in λ i. record { graph = with_graph m ((ap (λ (z : lower_unlinked.PortUnlinked). z.graph) u ∙ cut_live w.fine x l.0 l.1) i); answer = k i })

  pub port_cut_below : {p : ℕ} {d : Direction} (b : OnBlock m p d) → is_split m p ≡ false → {r : lower_unlinked.PortUnlinked} {a : Result (Option (SubportIndex × PortPlace)) Refusal} → r ≡ unlink_port m.graph p →
      a ≡ plain_in m.graph.port_link m.graph.port_meta m.copy_node p → ◌≡◌ {A = PortUnlinked} (record { graph = with_graph m r.graph; answer = a }) (cut_port m p)
  unfolding unlink_port
  port_cut_below {p} {d} b s {r} u k =
      ap (λ (x : Result (Option (SubportIndex × PortPlace)) Refusal). record { graph = with_graph m r.graph; answer = x })
      (k ∙ (plain_read_lem b.wf.fine p b.node d b.is s ∙ ap (λ (z : lower_unlinked.PortUnlinked). cut_plain m z.answer) (sym u)))
      ∙ cut_port_plain m p b.node d r r.answer b.is s u refl
