-- Steps of a split and of one more subport, made in the tables.
use Rattle.std.proofs.Math.Path.{◌≡◌, refl, sym, ap, transport, subst}
use Rattle.std.proofs.Common.{◌∙◌, arith}
use Rattle.std.specs.Prelude.{Bool, List, ℕ, ◌+◌, ◌-◌, ◌<◌, Option, Result, Ok, Err}
use Rattle.std.proofs.Math.Bool.{true, false}
use Rattle.std.proofs.Math.ListN.{set}
use Rattle.port_tables.specs.Limits.{node_slots, port_slots}
use Rattle.port_tables.specs.Entries.{reversed, ports_on}
use Rattle.port_tables.specs.Tables.{at, link_count}
use Rattle.portgraph.specs.Lookups.{meta_at, num_ports, count_in}
use Rattle.portgraph.specs.Calls.{add_node, with_links}
use Rattle.portgraph.specs.SlotHolds.{wf_add}
use Rattle.portgraph.specs.Resize.{set_num_ports}
use Rattle.portgraph.specs.Model.{Wf, Far, nowhere, to}
use Rattle.portgraph.specs.PlaceLaws.{link_none}
use Rattle.port_tables.specs.declared.direction.Direction.{Direction}
use Rattle.port_tables.specs.declared.direction.Direction.TheVariants.{Incoming, Outgoing}
use Rattle.port_tables.specs.declared.index.NodeIndex.{NodeIndex}
use Rattle.port_tables.specs.declared.index.PortIndex.{PortIndex}
use Rattle.port_tables.specs.declared.node_entry.NodeMeta.{NodeMeta}
use Rattle.portgraph.specs.declared.portgraph.PortGraph.{PortGraph}
use Rattle.portgraph.specs.declared.alloc.AddError.{AddError}
use Rattle.portgraph.specs.declared.resize.PortsSet.{PortsSet}
use Rattle.multiportgraph.specs.Graph.{multi, with_graph}
use Rattle.multiportgraph.specs.Reading.{port_of, copy_node}
use Rattle.multiportgraph.specs.Ends.{block_seen}
use Rattle.multiportgraph.specs.CodeForms.{Prepared, prepared_as}
use Rattle.multi_tables.specs.Forms.{put_flag}
use Rattle.multi_tables.specs.FormSteps.{put_flag_is}
use Rattle.multiportgraph.specs.CopySteps.{two_puts}
use Rattle.multiportgraph.specs.SplitLaws.{SplitTables, split_tables}
use Rattle.multiportgraph.specs.RecountLaws.{growth#}
use Rattle.multi_tables.specs.TableReads.{far_in, hang_on, copy_at, subports_at, last_beside, grown_incoming, grown_outgoing}
use Rattle.multiportgraph.specs.GrowLaws.{GrowTables, by_copy, grow_tables, grown_counts}
use Rattle.multiportgraph.specs.declared.multiportgraph.MultiPortGraph.{MultiPortGraph}
use Rattle.multiportgraph.specs.HiddenNodes.{copy_incoming, copy_outgoing, split_graph, split_port, split_by, split, recounted, more, enough, grown_by, grow, split_under, grow_under}
use Rattle.multiportgraph.specs.Tidy.{left_incoming, left_outgoing}
use Rattle.multiportgraph.specs.CallSteps.{lower_wf}
use Rattle.multiportgraph.specs.PrepareSteps.{set_kept, added_is}
use Rattle.multiportgraph.specs.Presumed.{LinkedPort, GrowPort}
use Rattle.portgraph.specs.declared.resize.SetError.{SetError}
use Rattle.multi_tables.specs.declared.answers.Refusal.TheVariants.{NoRoom}
use Rattle.portgraph.specs.declared.resize.SetError.TheVariants as set_error

-- A split.
module _ {m : MultiPortGraph} {p : ℕ} {d : Direction} (b : LinkedPort m p d) {i o : ℕ} {h : PortGraph} {r : Result (NodeIndex × PortIndex) AddError} (e₁ : i ≡ copy_incoming d) (e₂ : o ≡ copy_outgoing d)
    (e₃ : h ≡ (add_node m.graph i o).graph) (e₄ : r ≡ (add_node m.graph i o).answer) where
  pub added_wf : Wf h
  added_wf = subst Wf (sym e₃) (wf_add m.graph i o (lower_wf m b.block.wf))

  module _ {n : NodeIndex} {f : PortIndex} (a : r ≡ Ok (n, f)) where
    pub split_told : SplitTables p d h n.0 f.0
    split_told =
        let w = b.block.wf.fine in
        let x = block_seen w p b.block.node d b.block.is in
        let place = x.place in
        go (b.block.wf.model.join place) refl
      where
        go : (y : Far) → b.block.wf.model.join (block_seen b.block.wf.fine p b.block.node d b.block.is).place ≡ y → SplitTables p d h n.0 f.0
        go nowhere j =
            let w = b.block.wf.fine in
            let x = block_seen w p b.block.node d b.block.is in
            absurd (b.linked (ap (at m.graph.port_link) (sym x.slot) ∙ link_none w.good w.holds x.place x.is_seen.0 j))
        go (to y) j =
            let w = b.block.wf.fine in
            let x = block_seen w p b.block.node d b.block.is in
            transport (λ k. SplitTables (x.slot k) (x.side k) h n.0 f.0)
            (split_tables w x.place y x.is_seen j (record { graph = h; answer = r }) (added_is m e₁ e₂ e₃ e₄ ∙ (λ k. add_node m.graph (copy_incoming (sym x.side k)) (copy_outgoing (sym x.side k)))) n f a)

    pub split_done : {ca copy sa old w : ℕ} {l : PortGraph} {marks flags : List Bool} →
        ca ≡ copy_at d →
        copy ≡ f.0 + ca →
        sa ≡ subports_at d →
        old ≡ f.0 + sa →
        l ≡ with_links h (hang_on h.port_link p copy old) (h.link_count - link_count (at h.port_link p) + 2) →
        marks ≡ put_flag (put_flag m.multiport port_slots copy true) port_slots p true →
        w ≡ n.0 →
        flags ≡ put_flag m.copy_node node_slots w true →
        ◌≡◌ {A = Prepared} (multi l marks flags (m.copy_node_count + 1) (m.subport_count + 2) m.release, Ok (old + 1, 1)) (prepared_as m (split m p d))
    unfolding split_under split_port
    split_done {copy = copy} {old = old} {l = l} {marks = marks} {flags = flags} c₁ c₂ c₃ c₄ k₁ k₂ k₃ k₄ =
        let w = b.block.wf.fine in
        let copy_is : copy ≡ port_of h n.0 (reversed d) 0 = rw (c₂, c₁) (sym split_told.copy) in
        let new_is : old + 1 ≡ port_of h n.0 d 1 = rw (c₄, c₃) (sym split_told.new) in
        let graph_is : l ≡ split_graph h p d n.0 = k₁ ∙ rw (c₂, c₁, c₄, c₃) (sym split_told.graph) in
        let marks_is : marks ≡ set (set m.multiport (port_of h n.0 (reversed d) 0) true) p true = rw (k₂, copy_is) (two_puts m.multiport port_slots _ p true true w.marks_long) in
        let flags_is : flags ≡ set m.copy_node n.0 true = rw (k₄, k₃) (put_flag_is m.copy_node node_slots n.0 true w.flags_long) in
        (λ j. (multi (graph_is j) (marks_is j) (flags_is j) (m.copy_node_count + 1) (m.subport_count + 2) m.release, Ok (new_is j, 1)))
        ∙ ((λ j. prepared_as m (split_by m p d h (sym a j))) ∙ (λ j. prepared_as m (split_by m p d (added_is m e₁ e₂ e₃ e₄ j).graph (added_is m e₁ e₂ e₃ e₄ j).answer)))

-- One more subport.

-- the counts with one more subport
pub counts_grown : (d : Direction) (n : ℕ) {r : ℕ × ℕ} → r ≡ (left_incoming d (n + 1), left_outgoing d (n + 1)) → (r.0 ≡ grown_incoming d n) × (r.1 ≡ grown_outgoing d n)
counts_grown Incoming n e = (ap (λ (x : ℕ × ℕ). x.0) e, ap (λ (x : ℕ × ℕ). x.1) e)
counts_grown Outgoing n e = (ap (λ (x : ℕ × ℕ). x.0) e, ap (λ (x : ℕ × ℕ). x.1) e)

module _ {m : MultiPortGraph} {p : ℕ} {d : Direction} {c : ℕ} {k : NodeMeta} (b : GrowPort m p d c k) {count : ℕ} (e : count ≡ ports_on k d) {s : ℕ × ℕ} (f : s ≡ (left_incoming d (count + 1), left_outgoing d (count + 1)))
    {h : PortGraph} {r : Result ℕ SetError} (e₃ : h ≡ (set_num_ports m.graph c s.0 s.1 enough).graph) (e₄ : r ≡ (set_num_ports m.graph c s.0 s.1 enough).answer) where
  count_is : count ≡ num_ports m.graph (copy_node m p) d
  count_is = e ∙ sym (ap (λ (v : ℕ). count_in (meta_at m.graph v) d) b.copy ∙ ap (λ (v : Option NodeMeta). count_in v d) b.meta)

  set_is : ◌≡◌ {A = PortsSet} (record { graph = h; answer = r }) (growth# m (copy_node m p) d)
  set_is =
      let g = grown_counts b.port count count_is in
      let q = counts_grown d count f in
      (λ j. record { graph = e₃ j; answer = e₄ j }) ∙ (λ j. set_num_ports m.graph (sym b.copy j) ((q.0 ∙ g.0) j) ((q.1 ∙ g.1) j) enough)

  pub grow_full : ((x : ℕ) → r ≡ Ok x → ⊥) → ◌≡◌ {A = Prepared} (with_graph m h, Err NoRoom) (prepared_as m (grow m c d))
  unfolding grow_under
  grow_full none =
      ap (λ (v : PortGraph). (with_graph m v, Err NoRoom)) (e₃ ∙ set_kept m.graph c s.0 s.1 enough e₄ none)
      ∙ (go r none ∙ ((λ j. prepared_as m (grown_by m (copy_node m p) d (set_is j).graph (set_is j).answer)) ∙ ap (λ (v : ℕ). prepared_as m (grow m v d)) b.copy))
    where
      go : (x : Result ℕ SetError) → ((v : ℕ) → x ≡ Ok v → ⊥) → ◌≡◌ {A = Prepared} (m, Err NoRoom) (prepared_as m (grown_by m (copy_node m p) d h x))
      go (Ok v) n = absurd (n v refl)
      go (Err set_error.TooManyPorts) n = refl
      go (Err set_error.UnknownNode) n = refl
      go (Err set_error.MovesTooShort) n = refl
      go (Err set_error.NoRoom) n = refl

  module _ {v : ℕ} (a : r ≡ Ok v) where
    pub grow_told : GrowTables m p d (copy_node m p) count h
    grow_told =
        transport (λ j. GrowTables m p d (copy_node m p) (sym count_is j) (sym set_is j).graph)
        (grow_tables b.port v (ap (λ (u : PortsSet). u.answer) (sym set_is) ∙ a))

    module _ {far w₂ : ℕ} (k₁ : w₂ ≡ p) (k₂ : far ≡ far_in h.port_link w₂) where
      far_is : far ≡ far_in h.port_link p
      far_is = k₂ ∙ ap (far_in h.port_link) k₁

      -- where the copy port is now
      pub copy_low : far < port_slots
      copy_low = let l = grow_told.low in let q = far_is in omega arith

      pub grow_done : {copy q w₁ : ℕ} {t : List Bool} →
          w₁ ≡ p →
          copy ≡ far_in m.graph.port_link w₁ →
          t ≡ put_flag (put_flag m.multiport port_slots copy false) port_slots far true →
          q ≡ last_beside d far count →
          ◌≡◌ {A = Prepared} (multi h t m.copy_node m.copy_node_count (m.subport_count + 1) m.release, Ok (q, count)) (prepared_as m (grow m c d))
      unfolding grow_under recounted
      grow_done {copy} {q} {w₁} {t} k₃ k₄ k₅ k₆ =
          let g = grow_told in
          let copy_is : copy ≡ far_in m.graph.port_link p = k₄ ∙ ap (far_in m.graph.port_link) k₃ in
          let marks_is : t ≡ (recounted m (copy_node m p) h).multiport = rw (k₅, far_is, copy_is) (two_puts m.multiport port_slots _ _ false true b.port.block.wf.fine.marks_long ∙ sym g.marks) in
          let port_is = by_copy g far_is k₆ in
          (λ j. (multi h (marks_is j) m.copy_node m.copy_node_count (m.subport_count + 1) m.release, Ok (port_is j, count)))
          ∙ ((λ j. (more (recounted m (copy_node m p) h), Ok (port_of h (copy_node m p) d (count_is j), count_is j)))
          ∙ ((λ j. prepared_as m (grown_by m (copy_node m p) d h (sym a j)))
          ∙ ((λ j. prepared_as m (grown_by m (copy_node m p) d (set_is j).graph (set_is j).answer)) ∙ ap (λ (x : ℕ). prepared_as m (grow m x d)) b.copy)))
