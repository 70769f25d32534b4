-- Laws of the cut of a port as `cut_port` says it: by cases of what is seen there, what the steps of the code amount to, which wires
-- go, and its room. They stand here, not in specs/, so that an edit of `cut_port` that breaks one is refused by it.
use Rattle.std.proofs.Common.{◌∙◌, ap, sym, subst}
use Rattle.std.proofs.Math.Bool.{true, false, cond}
use Rattle.std.proofs.Math.Path.{refl}
use Rattle.std.specs.Prelude.{◌≡◌, Bool, ℕ, List, Option, Some, None, Result, Ok, Err}
use Rattle.port_tables.specs.declared.direction.Direction.{Direction}
use Rattle.portgraph.specs.Calls.{unlink_port}
use Rattle.portgraph.specs.GoodSlots.{zero_is_not_one}
use Rattle.portgraph.specs.Model.{Model}
use Rattle.multi_tables.specs.Forms.{Port, dead, hidden, visible, subport#}
use Rattle.multi_tables.specs.declared.answers.Refusal.TheVariants.{NoRoom}
use Rattle.multiportgraph.specs.Calls.{cut_port, cut_plain}
use Rattle.multiportgraph.specs.Cases.{cut_seen}
use Rattle.multiportgraph.specs.CopyLaws.{port_at, whole_cut, split_cut}
use Rattle.multiportgraph.specs.Ends.{BlockPort, block_seen}
use Rattle.multiportgraph.specs.Graph.{with_graph}
use Rattle.multiportgraph.specs.HiddenNodes.{unsplit}
use Rattle.multiportgraph.specs.LinkCutLaws.{CutDone, CutSays, CutSaid}
use Rattle.multiportgraph.specs.Lookups.{direction_seen, direction_of}
use Rattle.multiportgraph.specs.Presumed.{OnBlock}
use Rattle.multiportgraph.specs.Reading.{is_split, seen, standing}
use Rattle.multiportgraph.specs.Space.{Work, cut_works, cut_seen_works, Spaced}
use Rattle.multiportgraph.specs.SpaceLaws.{spaced_done, own_room, no_work, cuts_nothing, cut_fits, unsplit_room, unlink_keeps_room}
use Rattle.multiportgraph.specs.WellFormed.{MultiWf, Fine}
use Rattle.multiportgraph.specs.declared.multiportgraph.MultiPortGraph.{MultiPortGraph}
use Rattle.multiportgraph.specs.declared.multiportgraph.PortUnlinked.{PortUnlinked}
use Rattle.port_tables.specs.declared.index.PortIndex.{PortIndex}
use Rattle.portgraph.specs.declared.portgraph.NoSuchPort.{NoSuchPort}

module _ (m : MultiPortGraph) (p : ℕ) where
  pub cut_cases : cut_port m p ≡ cut_seen m p (seen m p)
  unfolding cut_port
  cut_cases = go (seen m p) refl
    where
      go : (u : Port) → seen m p ≡ u → cut_port m p ≡ cut_seen m p u
      go dead e = rw e refl
      go hidden e = rw e refl
      go (visible n d) e = rw e refl

module _ (m : MultiPortGraph) (p : ℕ) where
  pub cut_port_seen : (s : Port) → seen m p ≡ s → cut_seen m p s ≡ cut_port m p
  cut_port_seen s e = ap (cut_seen m p) (sym e) ∙ sym (cut_cases m p)

module _ {m : MultiPortGraph} {M : Model} (f : Fine m M) where
  -- every wire at the port goes, and nothing else changes; refused, the graph stays
  pub cut_port_law : (p : ℕ) → CutSays m M p port_at (cut_port m p).graph (cut_port m p).answer
  cut_port_law p = subst (CutSaid m M p port_at) (sym (cut_cases m p)) (ports (seen m p) refl)
    where
      told : (m' : MultiPortGraph) → CutDone m M m' p port_at → (v : Result (Option PortIndex) NoSuchPort) → CutSays m M p port_at m' (cut_plain m v)
      told m' d (Ok (Some q)) = d
      told m' d (Ok None) = d
      told m' d (Err q) = d

      marks : (n : ℕ) (d : Direction) → BlockPort m M p n d → (b : Bool) → is_split m p ≡ b
          → CutSaid m M p port_at
          (cond b (record { graph = unsplit m p; answer = Ok (Some (subport# p 0, standing m (subport# p 0))) })
          (record { graph = with_graph m (unlink_port m.graph p).graph; answer = cut_plain m (unlink_port m.graph p).answer }))
      marks n d b true e =
          subst (λ (c : ℕ). CutDone m M (unsplit m c) c port_at) b.slot (split_cut f b.place b.is_seen (ap (is_split m) b.slot ∙ e))
      marks n d b false e =
          told (with_graph m (unlink_port m.graph p).graph)
          (subst (λ (c : ℕ). CutDone m M (with_graph m (unlink_port m.graph c).graph) c port_at) b.slot (whole_cut f b.place b.is_seen (ap (is_split m) b.slot ∙ e)))
          (unlink_port m.graph p).answer

      ports : (v : Port) → seen m p ≡ v → CutSaid m M p port_at (cut_seen m p v)
      ports dead e = refl
      ports hidden e = refl
      ports (visible n d) e = marks n d (block_seen f p n d e) (is_split m p) refl

  pub cut_space : (p : ℕ) → Spaced m M (cut_seen_works m p (seen m p)) ((cut_port m p).answer ≡ Err NoRoom) (cut_port m p).graph
  cut_space p = subst (λ (v : PortUnlinked). Spaced m M (cut_seen_works m p (seen m p)) (v.answer ≡ Err NoRoom) v.graph) (sym (cut_cases m p)) (go (seen m p))
    where
      plain : (v : Result (Option PortIndex) NoSuchPort) → cut_plain m v ≡ Err NoRoom → ⊥
      plain (Ok (Some q)) e = zero_is_not_one (cc)
      plain (Ok None) e = zero_is_not_one (cc)
      plain (Err q) e = zero_is_not_one (cc)

      Says : PortUnlinked → Type 0
      Says v = Spaced m M (cut_works m p) (v.answer ≡ Err NoRoom) v.graph

      port : (b : Bool) → is_split m p ≡ b
          → Says (cond b (record { graph = unsplit m p; answer = Ok (Some (subport# p 0, standing m (subport# p 0))) })
          (record { graph = with_graph m (unlink_port m.graph p).graph; answer = cut_plain m (unlink_port m.graph p).answer }))
      port true e = spaced_done (λ q. zero_is_not_one (cc)) (cut_fits f p) (unsplit_room m (record { model = M; good = f.good; holds = f.holds; is = refl }) p)
      port false e =
          subst (λ (l : List Work). Spaced m M l (cut_plain m (unlink_port m.graph p).answer ≡ Err NoRoom) (with_graph m (unlink_port m.graph p).graph)) (sym (cuts_nothing m p e))
          (no_work f (plain (unlink_port m.graph p).answer) (unlink_keeps_room (own_room f) p))

      go : (s : Port) → Spaced m M (cut_seen_works m p s) ((cut_seen m p s).answer ≡ Err NoRoom) (cut_seen m p s).graph
      go dead = no_work f (λ e. zero_is_not_one (cc)) (own_room f)
      go hidden = no_work f (λ e. zero_is_not_one (cc)) (own_room f)
      go (visible n d) = port (is_split m p) refl

module _ {m : MultiPortGraph} (w : MultiWf m) where
  -- a port that has a side is a block's
  pub block_of_side : (p : ℕ) {d : Direction} → direction_of m p ≡ Ok d → OnBlock m p d
  unfolding direction_of
  block_of_side p {d} e = go (seen m p) refl e
    where
      go : (s : Port) → seen m p ≡ s → direction_seen p s ≡ Ok d → OnBlock m p d
      go dead t e = absurd (zero_is_not_one (cc))
      go hidden t e = absurd (zero_is_not_one (cc))
      go (visible n c) t e = let q : c ≡ d = cc in record { wf = w; node = n; is = t ∙ ap (visible n) q }
