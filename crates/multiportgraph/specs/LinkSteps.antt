-- What the code's steps of a link amount to: the ends that are prepared, and each refusal.
use Rattle.std.specs.Prelude.{◌≡◌, refl, Bool, false, cond, ℕ, ◌+◌, ◌<◌, Result, Ok, Err}
use Rattle.std.proofs.Common.{sym, ◌∙◌, ap, subst}
use Rattle.port_tables.specs.Entries.{port#, same_side}
use Rattle.portgraph.specs.Calls.{link_ports}
use Rattle.portgraph.specs.GoodSlots.{slot_in_block, zero_is_not_one}
use Rattle.portgraph.specs.Model.{first_of, side_start, count_of}
use Rattle.port_tables.specs.declared.direction.Direction.{Direction}
use Rattle.portgraph.specs.declared.portgraph.PortsLinked as lower
use Rattle.multiportgraph.specs.Reading.{seen}
use Rattle.multi_tables.specs.Forms.{Port, dead, hidden, visible, subport#, seen_as}
use Rattle.multiportgraph.specs.HiddenNodes as hiding
use Rattle.multiportgraph.specs.CodeForms.{Prepared, prepared_as}
use Rattle.multiportgraph.specs.WellFormed.{MultiWf}
use Rattle.multiportgraph.specs.Ends.{block_seen, seen_block}
use Rattle.multiportgraph.specs.PrepareLaws.{prepare_law}
use Rattle.multiportgraph.specs.declared.multiportgraph.MultiPortGraph.{MultiPortGraph}
use Rattle.multi_tables.specs.declared.answers.Refusal.TheVariants.{NoRoom, UnknownSecondPort, IncompatibleDirections}
use Rattle.multi_tables.specs.declared.answers.Refusal.{Refusal}
use Rattle.multiportgraph.specs.declared.multiportgraph.PortsLinked.{PortsLinked}
use Rattle.multi_tables.specs.declared.seen.SeenPort.{SeenPort}
use Rattle.multi_tables.specs.declared.seen.SeenPort.TheVariants as seen_port
use Rattle.multiportgraph.specs.Graph.{with_graph}
use Rattle.multiportgraph.specs.HiddenNodes.{prepare}
use Rattle.multiportgraph.specs.Cases.{link_refused, link_prepared, link_second, link_first, link_live}
use Rattle.multiportgraph.specs.Presumed.{OnBlock}

-- what a prepared end is
pub is_ready : (m : MultiPortGraph) (p : hiding.Prepared) (r : Prepared) {n : ℕ × ℕ} → r ≡ prepared_as m p → r.1 ≡ Ok n → p ≡ hiding.ready r.0 n.0 n.1
is_ready m (hiding.ready k q o) r {n} e t =
    let u : ◌≡◌ {A = Result (ℕ × ℕ) Refusal} (Ok n) (Ok (q, o)) = sym t ∙ ap (λ (s : Prepared). s.1) e in
    let g : ◌≡◌ {A = ℕ × ℕ} n (q, o) = cc in
    λ i. hiding.ready (ap (λ (s : Prepared). s.0) (sym e) i) (sym g i).0 (sym g i).1
is_ready m hiding.full r {n} e t = absurd (zero_is_not_one (let u : ◌≡◌ {A = Result (ℕ × ℕ) Refusal} (Ok n) (Err NoRoom) = sym t ∙ ap (λ (s : Prepared). s.1) e in cc))

-- what stays of other ports of blocks where an end is prepared
module _ {m : MultiPortGraph} {p : ℕ} {d : Direction} (b : OnBlock m p d) (r : Prepared) {n : ℕ × ℕ} (e : r ≡ prepared_as m (prepare m p d)) (t : r.1 ≡ Ok n) where
  pub others_stay : (q : ℕ) (s : Direction) → OnBlock m q s → OnBlock r.0 q s
  others_stay q s c =
      let f = b.wf.fine in
      let x = block_seen f p b.node d b.is in
      let l = prepare_law f x.place x.is_seen r.0 n.0 n.1
      (ap (λ (u : ℕ). prepare m u x.place.side) x.slot ∙ (ap (prepare m p) x.side ∙ is_ready m (prepare m p d) r e t)) in
      let y = block_seen f q c.node s c.is in
      let k = slot_in_block f.good y.place y.is_seen.0 in
      let kept = l.1.blocks.0 y.place.node k.0 (y.is_seen.1, k.1) in
      let same : l.0.node y.place.node ≡ b.wf.model.node y.place.node = kept.1 ∙ sym k.1 in
      let place = y.place in
      let at : seen r.0 q ≡ visible place.node place.side =
      ap (seen r.0) (sym (ap (λ w. first_of w + (side_start w place.side + place.pos)) same ∙ y.slot))
      ∙ seen_block l.1.fine place (subst (λ w. place.pos < count_of w place.side) (sym same) y.is_seen.0, kept.0) in
      record {
        wf = record { model = l.0; fine = l.1.fine };
        node = place.node;
        is = at ∙ ap (visible place.node) y.side;
      }

  pub still_wf : MultiWf r.0
  still_wf = (others_stay p d b).wf

-- The second port is not live.

pub first_ready_lem : (m : MultiPortGraph) (a : ℕ) (d : Direction) (b : ℕ) (r : Prepared) {n : ℕ × ℕ} {u : PortsLinked} → r ≡ prepared_as m (prepare m a d) → r.1 ≡ Ok n →
    u ≡ link_refused r.0 (UnknownSecondPort (port# b)) → u ≡ link_first m b (prepare m a d)
first_ready_lem m a d b r e t h = h ∙ sym (ap (link_first m b) (is_ready m (prepare m a d) r e t))

-- Both ports are live.

module _ (m : MultiPortGraph) (a : ℕ) (d : Direction) (b : ℕ) (e : Direction) (r : Prepared) (h : r ≡ prepared_as m (prepare m a d)) where
  module _ {n : ℕ × ℕ} (t : r.1 ≡ Ok n) (s : Prepared) (k : s ≡ prepared_as r.0 (prepare r.0 b e)) where
    both_ready_lem : {o : ℕ × ℕ} → s.1 ≡ Ok o → link_live m a d b e (prepare m a d) ≡ link_prepared s.0 a d n.0 n.1 b e o.0 o.1
    both_ready_lem {o} v =
        ap (link_live m a d b e) (is_ready m (prepare m a d) r h t)
        ∙ ap (link_second m a d n.0 n.1 b e) (is_ready r.0 (prepare r.0 b e) s k v)

    pub both_linked_lem : {o : ℕ × ℕ} (l : lower.PortsLinked) → s.1 ≡ Ok o → same_side d e ≡ false → l ≡ link_ports s.0.graph n.0 o.0 →
        ◌≡◌ {A = PortsLinked} (record { graph = with_graph s.0 l.graph; answer = Ok (subport# a n.1, subport# b o.1) })
        (link_live m a d b e (prepare m a d))
    both_linked_lem {o} l v c g =
        ap (λ (x : lower.PortsLinked). record { graph = with_graph s.0 x.graph; answer = Ok (subport# a n.1, subport# b o.1) }) g
        ∙ sym (both_ready_lem v
        ∙ ap (λ (x : Bool). cond x (link_refused s.0 (IncompatibleDirections (port# n.0) (port# o.0) d))
        (record { graph = with_graph s.0 (link_ports s.0.graph n.0 o.0).graph; answer = Ok (subport# a n.1, subport# b o.1) })) c)

-- How the two ports are seen.

abbrev pub seen_back : SeenPort → Port
seen_back seen_port.Dead = dead
seen_back seen_port.Hidden = hidden
seen_back (seen_port.Visible n d) = visible n.0 d

back_is : (v : Port) → v ≡ seen_back (seen_as v)
back_is dead = refl
back_is hidden = refl
back_is (visible n d) = refl

pub seen_told : (v : Port) {s w : SeenPort} → s ≡ seen_as v → s ≡ w → v ≡ seen_back w
seen_told v e t = back_is v ∙ ap seen_back (sym e ∙ t)
