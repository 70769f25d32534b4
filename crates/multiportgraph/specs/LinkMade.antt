-- What the code of links gives amounts to the definitions: the ends that are prepared, two that are linked, and how the ports are seen.
use Rattle.std.specs.Prelude.{◌≡◌, refl, Bool, true, false, ℕ, ◌+◌, ◌≤◌, Result, Ok, Err}
use Rattle.std.proofs.Common.{sym, ap, ◌∙◌, arith}
use Rattle.port_tables.specs.Limits.{node_ports, present}
use Rattle.port_tables.specs.Entries.{ports_on, same_side, port#}
use Rattle.portgraph.specs.LookupSteps.{found_block_fits}
use Rattle.port_tables.specs.declared.direction.Direction.{Direction}
use Rattle.port_tables.specs.declared.direction.Direction.TheVariants.{Incoming, Outgoing}
use Rattle.port_tables.specs.declared.index.NodeIndex.{NodeIndex}
use Rattle.port_tables.specs.declared.node_entry.NodeMeta.{NodeMeta}
use Rattle.multiportgraph.specs.Reading.{seen}
use Rattle.multi_tables.specs.Forms.{subport#, visible, seen_as}
use Rattle.multiportgraph.specs.HiddenNodes as hiding
use Rattle.multiportgraph.specs.CodeForms.{Prepared, prepared_as}
use Rattle.multiportgraph.specs.WellFormed.{MultiWf}
use Rattle.multiportgraph.specs.CallSteps.{lower_wf}
use Rattle.multiportgraph.specs.LinkSteps.{is_ready, others_stay, still_wf, first_ready_lem, seen_told, seen_back}
use Rattle.multiportgraph.specs.Named.{joined_at}
use Rattle.multiportgraph.specs.NamedLaws.{both_joined}
use Rattle.multiportgraph.specs.InputSteps.{parts_untaken}
use Rattle.multiportgraph.specs.Needs.{need_of, takes_of, room_for}
use Rattle.multiportgraph.specs.NeedLaws.{again_ready, need_stays, second_still, second_finds_room, room_lacks}
use Rattle.multiportgraph.specs.declared.multiportgraph.MultiPortGraph.{MultiPortGraph}
use Rattle.multi_tables.specs.declared.answers.Refusal.TheVariants.{NoRoom, HiddenPort, UnknownSecondPort}
use Rattle.multiportgraph.specs.declared.multiportgraph.PortsLinked.{PortsLinked}
use Rattle.multi_tables.specs.declared.seen.SeenPort.{SeenPort}
use Rattle.multi_tables.specs.declared.seen.SeenPort.TheVariants as seen_port
use Rattle.multiportgraph.specs.declared.needs.Need.{Need}
use Rattle.multiportgraph.specs.declared.needs.Takes.{Takes}
use Rattle.multiportgraph.specs.HiddenNodes.{prepare}
use Rattle.multi_tables.specs.NamedEnds.{block_port}
use Rattle.multiportgraph.specs.StartSteps.{seen_refused}
use Rattle.multiportgraph.specs.Cases.{link_refused, link_second, link_first, link_live, link_seen}
use Rattle.multiportgraph.specs.CaseLaws.{link_cases}
use Rattle.multiportgraph.specs.Presumed.{OnBlock, BothOnBlock, GrowPort, FirstReady}
use Rattle.multiportgraph.specs.Calls.{link_pair_if}
use Rattle.multi_tables.specs.declared.answers.Refusal.{Refusal}
use Rattle.multi_tables.specs.declared.answers.SubportIndex.{SubportIndex}

-- graph and answer of a call, each by itself
pub link_parts : {g : MultiPortGraph} {a : Result (SubportIndex × SubportIndex) Refusal} {r : PortsLinked} → ◌≡◌ {A = PortsLinked} (record { graph = g; answer = a }) r → (g ≡ r.graph) × (a ≡ r.answer)
link_parts e = (ap (λ (r : PortsLinked). r.graph) e, ap (λ (r : PortsLinked). r.answer) e)

-- a hidden node has few ports
pub grow_few : {m : MultiPortGraph} {p : ℕ} {d : Direction} {c : ℕ} {k : NodeMeta} → GrowPort m p d c k → ports_on k d ≤ node_ports
grow_few {m} {p} {d} {c} {k} b =
    let f = found_block_fits m.graph (lower_wf m b.port.block.wf) c k (sym b.meta) in
    let q = f.ports in
    let s = f.small in
    go d (omega arith)
  where
    go : (d : Direction) → k.incoming + k.outgoing ≤ node_ports → ports_on k d ≤ node_ports
    go Incoming l = omega arith
    go Outgoing l = omega arith

-- Linking.

module _ (m : MultiPortGraph) (a : ℕ) (d : Direction) {g : MultiPortGraph} (r : Result (ℕ × ℕ) Refusal) (e : ◌≡◌ {A = Prepared} (g, r) (prepared_as m (prepare m a d))) where
  -- the second port is not live
  pub first_parts : (b : ℕ) → {n : ℕ × ℕ} → r ≡ Ok n → (g ≡ (link_first m b (prepare m a d)).graph) × (Err (UnknownSecondPort (port# b)) ≡ (link_first m b (prepare m a d)).answer)
  first_parts b {n} t = link_parts (first_ready_lem m a d b (g, r) e t refl)

  -- a port with itself: its end is found again
  module _ (b : OnBlock m a d) {n : ℕ × ℕ} (t : r ≡ Ok n) where
    self_is : prepare m a d ≡ hiding.ready g n.0 n.1
    self_is = is_ready m (prepare m a d) (g, r) e t

    pub self_stays : OnBlock g a d
    self_stays = others_stay b (g, r) e t a d b

    pub self_first : FirstReady g a d n.0 n.1 a d
    self_first = record { both = record { first = self_stays; second = self_stays }; is = again_ready b g n.0 n.1 self_is }

    pub self_done : {k : MultiPortGraph} {y : Result (SubportIndex × SubportIndex) Refusal} → (k ≡ (link_live g a d a d (prepare g a d)).graph) × (y ≡ (link_live g a d a d (prepare g a d)).answer) →
        (k ≡ (link_live m a d a d (prepare m a d)).graph) × (y ≡ (link_live m a d a d (prepare m a d)).answer)
    self_done =
        let again = self_first.is in
        parts_untaken
        (ap (link_live g a d a d) again
        ∙ (ap (link_second g a d n.0 n.1 a d) again
        ∙ (sym (ap (link_second m a d n.0 n.1 a d) again) ∙ sym (ap (link_live m a d a d) self_is))))

-- the first end is ready
module _ {m : MultiPortGraph} {a : ℕ} {d : Direction} {x o b : ℕ} {e : Direction} (w : FirstReady m a d x o b e) {k : MultiPortGraph} (s : Result (ℕ × ℕ) Refusal) (j : ◌≡◌ {A = Prepared} (k, s) (prepared_as m (prepare m b e))) where
  module _ {n : ℕ × ℕ} (t : s ≡ Ok n) where
    -- the graph after the second end is one of the calls
    pub second_after : MultiWf k
    second_after = still_wf w.both.second (k, s) j t

    pub second_linked : same_side d e ≡ false → {g : MultiPortGraph} → g ≡ joined_at k x n.0 →
        (g ≡ (link_live m a d b e (prepare m a d)).graph) × (Ok (subport# a o, subport# b n.1) ≡ (link_live m a d b e (prepare m a d)).answer)
    second_linked c h =
        let z = link_parts (both_joined w.both {r = (m, Ok (x, o))} {s = (k, s)} (ap (prepared_as m) (sym w.is)) refl j t c refl) in
        (h ∙ z.0, z.1)

-- two ports: the first end is prepared, and there is room for both
module _ (m : MultiPortGraph) {a : ℕ} {d : Direction} {b : ℕ} {e : Direction}
    (w : BothOnBlock m a d b e) (apart : a ≡ b → ⊥) {u v : Need} {t₁ t₂ : Takes} {c : Bool}
    (eu : u ≡ need_of m a d) (ev : v ≡ need_of m b e)
    (h₁ : t₁ ≡ takes_of u) (h₂ : t₂ ≡ takes_of v) (ec : c ≡ room_for m.graph t₁ t₂) where
  room : (z : Bool) → c ≡ z → room_for m.graph (takes_of (need_of m a d)) (takes_of (need_of m b e)) ≡ z
  room z q = sym (ec ∙ (λ i. room_for m.graph ((h₁ ∙ ap takes_of eu) i) ((h₂ ∙ ap takes_of ev) i))) ∙ q

  pub both_lack : c ≡ false → (m ≡ (link_live m a d b e (prepare m a d)).graph) × (Err NoRoom ≡ (link_live m a d b e (prepare m a d)).answer)
  both_lack q = link_parts (sym (room_lacks m w apart (room false q)))

  module _ (q : c ≡ true) {g : MultiPortGraph} (r : Result (ℕ × ℕ) Refusal) (h : ◌≡◌ {A = Prepared} (g, r) (prepared_as m (prepare m a d))) where
    module _ {n : ℕ × ℕ} (t : r ≡ Ok n) where
      is : prepare m a d ≡ hiding.ready g n.0 n.1
      is = is_ready m (prepare m a d) (g, r) h t

      pub both_ready : FirstReady g a d n.0 n.1 b e × (v ≡ need_of g b e)
      both_ready = (
        record {
          both = record { first = others_stay w.first (g, r) h t a d w.first; second = second_still m w apart g n.0 n.1 is };
          is = again_ready w.first g n.0 n.1 is;
        },
        ev ∙ sym (need_stays w.first g n.0 n.1 is w.second apart),
      )

      both_same : (p : hiding.Prepared) → prepare g b e ≡ p → link_live g a d b e (prepare g a d) ≡ link_live m a d b e (prepare m a d)
      both_same hiding.full k = absurd (second_finds_room m w apart g n.0 n.1 is (room true q) k)
      both_same (hiding.ready m₂ y z) k =
          ap (link_live g a d b e) both_ready.0.is
          ∙ (ap (link_second g a d n.0 n.1 b e) k
          ∙ (sym (ap (link_second m a d n.0 n.1 b e) k) ∙ sym (ap (link_live m a d b e) is)))

      pub both_done : {k : MultiPortGraph} {y : Result (SubportIndex × SubportIndex) Refusal} → (k ≡ (link_live g a d b e (prepare g a d)).graph) × (y ≡ (link_live g a d b e (prepare g a d)).answer) →
          (k ≡ (link_live m a d b e (prepare m a d)).graph) × (y ≡ (link_live m a d b e (prepare m a d)).answer)
      both_done = parts_untaken (both_same (prepare g b e) refl)

-- How the ports are seen. What the first port is refused with, the link is.
pub call_refused : {m : MultiPortGraph} (w : MultiWf m) (a b : ℕ) {r : Refusal} → block_port m.graph.port_meta m.copy_node a ≡ Err r → link_refused m r ≡ link_pair_if false present m a b
call_refused {m} w a b e = seen_refused m a w.fine.flags_long (link_refused m) (λ s. link_seen m a b s (seen m b)) _ refl refl e ∙ sym (link_cases present m a b)

module _ {m : MultiPortGraph} {a : ℕ} {d : Direction} (w : OnBlock m a d) (b : ℕ) {s : SeenPort} (eb : s ≡ seen_as (seen m b)) where
  call_is : {u : SeenPort} → s ≡ u → link_pair_if false present m a b ≡ link_seen m a b (visible w.node d) (seen_back u)
  call_is t = link_cases present m a b ∙ (λ i. link_seen m a b (w.is i) (seen_told (seen m b) eb t i))

  pub call_first : s ≡ seen_port.Dead → link_pair_if false present m a b ≡ link_first m b (prepare m a d)
  call_first t = call_is t

  pub call_second_hidden : s ≡ seen_port.Hidden → link_pair_if false present m a b ≡ record { graph = m; answer = Err (HiddenPort (port# b)) }
  call_second_hidden t = call_is t

  module _ {n : NodeIndex} {e : Direction} (t : s ≡ seen_port.Visible n e) where
    second_on : OnBlock m b e
    second_on = record { wf = w.wf; node = n.0; is = seen_told (seen m b) eb t }

    pub both_on : BothOnBlock m a d b e
    both_on = record { first = w; second = second_on }

    pub call_both : link_live m a d b e (prepare m a d) ≡ link_pair_if false present m a b
    call_both = sym (call_is t)

    -- a port with itself has one side
    pub call_self : a ≡ b → link_live m a d a d (prepare m a d) ≡ link_pair_if false present m a b
    call_self r =
        let q = seen_told (seen m b) eb t in
        let k : visible w.node d ≡ visible n.0 e = sym w.is ∙ (ap (seen m) r ∙ q) in
        let side : d ≡ e = cc in
        (λ i. link_live m a d (r i) (side i) (prepare m a d)) ∙ call_both
