-- Linking two ports: its bundle, and what 11 and 12 leave.
use Rattle.std.specs.Prelude.{◌≡◌, refl, Bool, true, false, ℕ, Ok, Err}
use Rattle.std.proofs.Common.{sym, ◌∙◌, subst}
use Rattle.std.proofs.Math.Path.{ap}
use Rattle.port_tables.specs.Limits.{present}
use Rattle.port_tables.specs.Entries.{port#, same_side}
use Rattle.portgraph.specs.Model as model
use Rattle.portgraph.specs.Model.{Model, Dead}
use Rattle.portgraph.specs.Calls.{link_ports}
use Rattle.portgraph.specs.GoodSlots.{zero_is_not_one}
use Rattle.portgraph.specs.GoodLaws.{same_side_is}
use Rattle.port_tables.specs.declared.direction.Direction.{Direction}
use Rattle.port_tables.specs.declared.index.PortIndex.{PortIndex}
use Rattle.multiportgraph.specs.Reading.{seen}
use Rattle.multi_tables.specs.Forms.{Port, dead, hidden, visible, subport#}
use Rattle.theorems.specs.Book as book
use Rattle.multiportgraph.specs.WellFormed.{Fine}
use Rattle.multiportgraph.specs.declared.multiportgraph.MultiPortGraph.{MultiPortGraph}
use Rattle.multi_tables.specs.declared.answers.Refusal.{Refusal}
use Rattle.multi_tables.specs.declared.answers.Refusal.TheVariants.{NoRoom, UnknownSecondPort, IncompatibleDirections, InputWired}
use Rattle.multiportgraph.specs.declared.multiportgraph.PortsLinked.{PortsLinked}
use Rattle.multiportgraph.specs.Graph.{with_graph}
use Rattle.multiportgraph.specs.Refusals.{input_taken}
use Rattle.multiportgraph.specs.Cases.{link_refused, link_prepared, link_second, link_first, link_seen, link_live}
use Rattle.multi_tables.specs.NamedEnds.{taken_seen}
use Rattle.multiportgraph.specs.HiddenNodes.{Prepared, ready, full, prepare}
use Rattle.multiportgraph.specs.CaseLaws.{link_cases, link_taken}
use Rattle.theorems.specs.LinkLaw.{link_says}
use Rattle.theorems.proofs.WireRule.{after_link}
use Rattle.multiportgraph.specs.SpaceLaws.{link_space}
use Rattle.theorems.specs.Works.{works_of}
use Rattle.theorems.specs.Conditions.{LinkRefused, LinkSays, OfBlock, OfHidden, PortIs, Taken, block_port, comes_late, hidden_port, link_first_dead, link_first_full, link_first_hidden, link_one_side, link_second_dead, link_second_full, link_second_hidden, link_wired, no_port}
use Rattle.theorems.specs.PortCases.{port_is, seen_block_port, seen_hidden_port, seen_none}
use Rattle.theorems.specs.TakenLaws.{free_so, so_free, so_taken, taken_so}
use Rattle.theorems.proofs.CallLaw.{CallLaw}
use Rattle.multiportgraph.specs.Calls.{link_pair, link_pair_if}
use Rattle.portgraph.specs.Joins.{same_side_refl, same_side_false}

-- Linking ports.

module _ {m : MultiPortGraph} {M : Model} (f : Fine m M) where
  -- a port is of one kind only
  pub dead_not_hidden : (p : ℕ) → Dead M p → OfHidden m M p → ⊥
  dead_not_hidden p d h = d h.0 h.1.0 h.1.1

  pub block_not_hidden : (p : ℕ) (x : model.InnerPlace) → OfBlock m M p x → OfHidden m M p → ⊥
  block_not_hidden p x b h = let u = seen_block_port f p x b in let v = seen_hidden_port f p h in zero_is_not_one (cc)

pub sides_same : (d e : Direction) → d ≡ e → same_side d e ≡ true
sides_same d e q = ap (same_side d) (sym q) ∙ same_side_refl d

module _ {m : MultiPortGraph} {M : Model} (f : Fine m M) (a b : ℕ) where
  -- 7 and 8 come before 18
  link_before : (v w : Port) → seen m a ≡ v → seen m b ≡ w → (r : Refusal) → taken_seen a b v w ≡ r → link_seen m a b v w ≡ link_refused m r → link_pair m a b ≡ link_refused m r
  link_before v w e g r t s = go (input_taken m a b)
    where
      go : (taken : Bool) → link_pair_if taken present m a b ≡ link_refused m r
      go true = link_taken present m a b ∙ rw (e, g) (ap (link_refused m) t)
      go false = link_cases present m a b ∙ rw (e, g) s

  -- 18
  pub wired_seen : (x : model.InnerPlace) → OfBlock m M a x → (OfHidden m M b → ⊥) → taken_seen a b (seen m a) (seen m b) ≡ InputWired
  wired_seen x s n = ap (λ (v : Port). taken_seen a b v (seen m b)) (seen_block_port f a x s) ∙ go (port_is f b)
    where
      go : PortIs m M b → taken_seen a b (visible x.node x.side) (seen m b) ≡ InputWired
      go (no_port d) = ap (taken_seen a b (visible x.node x.side)) (seen_none f b d)
      go (hidden_port k) = absurd (n k)
      go (block_port y t) = ap (taken_seen a b (visible x.node x.side)) (seen_block_port f b y t)

  -- and where it is not given the rest is done
  link_is : (Taken m M a b → ⊥) → (v w : Port) → seen m a ≡ v → seen m b ≡ w → link_pair m a b ≡ link_seen m a b v w
  link_is free v w e g = ap (λ (taken : Bool). link_pair_if taken present m a b) (free_so f a b free) ∙ (link_cases present m a b ∙ rw (e, g))

  link_blocks : (Taken m M a b → ⊥) → (x y : model.InnerPlace) → OfBlock m M a x → OfBlock m M b y →
      link_pair m a b ≡ link_live m a x.side b y.side (prepare m a x.side)
  link_blocks free x y s t = link_is free (visible x.node x.side) (visible y.node y.side) (seen_block_port f a x s) (seen_block_port f b y t)

  link_to_none : (Taken m M a b → ⊥) → (x : model.InnerPlace) → OfBlock m M a x → Dead M b → link_pair m a b ≡ link_first m b (prepare m a x.side)
  link_to_none free x s d = link_is free (visible x.node x.side) dead (seen_block_port f a x s) (seen_none f b d)

  -- both ends are prepared
  link_both : (Taken m M a b → ⊥) → (x y : model.InnerPlace) (m₁ m₂ : MultiPortGraph) (u o v r : ℕ) → OfBlock m M a x → OfBlock m M b y →
      prepare m a x.side ≡ ready m₁ u o → prepare m₁ b y.side ≡ ready m₂ v r → link_pair m a b ≡ link_prepared m₂ a x.side u o b y.side v r
  link_both free x y m₁ m₂ u o v r s t e g =
      link_blocks free x y s t ∙ (ap (link_live m a x.side b y.side) e ∙ ap (link_second m a x.side u o b y.side) g)

  -- ports of blocks on opposite sides, no input that has a wire, with room for both: linked
  pub links_otherwise : (Taken m M a b → ⊥) → (x y : model.InnerPlace) (m₁ m₂ : MultiPortGraph) (u o v r : ℕ) → OfBlock m M a x → OfBlock m M b y →
      prepare m a x.side ≡ ready m₁ u o → prepare m₁ b y.side ≡ ready m₂ v r → (x.side ≡ y.side → ⊥) →
      link_pair m a b ≡ record { graph = with_graph m₂ (link_ports m₂.graph u v).graph; answer = Ok (subport# a o, subport# b r) }
  links_otherwise free x y m₁ m₂ u o v r s t e g n = link_both free x y m₁ m₂ u o v r s t e g ∙ go (same_side x.side y.side) refl
    where
      go : (c : Bool) → same_side x.side y.side ≡ c →
          link_prepared m₂ a x.side u o b y.side v r
          ≡ record { graph = with_graph m₂ (link_ports m₂.graph u v).graph; answer = Ok (subport# a o, subport# b r) }
      go true c = absurd (n (same_side_is x.side y.side c))
      go false c = rw c

  pub link_refuses : (h : MultiPortGraph) (r : Refusal) → LinkRefused m M a b h r → link_pair m a b ≡ link_refused h r
  link_refuses h r (link_first_dead d) = link_before dead (seen m b) (seen_none f a d) refl _ refl refl
  link_refuses h r (link_first_hidden k) = link_before hidden (seen m b) (seen_hidden_port f a k) refl _ refl refl
  link_refuses h r (link_second_hidden x s k) =
      link_before (visible x.node x.side) hidden (seen_block_port f a x s) (seen_hidden_port f b k) _ refl refl
  link_refuses h r (link_wired x s n k) =
      ap (λ (taken : Bool). link_pair_if taken present m a b) (taken_so f a b k) ∙ (link_taken present m a b ∙ ap (link_refused m) (wired_seen x s n))
  link_refuses h r (link_first_full x s n free e) = go (port_is f b)
    where
      go : PortIs m M b → link_pair m a b ≡ link_refused m NoRoom
      go (no_port d) = link_to_none free x s d ∙ ap (link_first m b) e
      go (hidden_port k) = absurd (n k)
      go (block_port y t) = link_blocks free x y s t ∙ ap (link_live m a x.side b y.side) e
  link_refuses h r (link_second_full x y m₁ u o s t free e g) =
      link_blocks free x y s t ∙ (ap (link_live m a x.side b y.side) e ∙ ap (link_second m a x.side u o b y.side) g)
  link_refuses h r (link_second_dead x m₁ u o s d free e) = link_to_none free x s d ∙ ap (link_first m b) e
  link_refuses h r (link_one_side x y m₁ m₂ u o v r' s t free e g q) = link_both free x y m₁ m₂ u o v r' s t e g ∙ rw (sides_same x.side y.side q)

  abbrev LinkSaid : PortsLinked → Type 0
  LinkSaid v = LinkSays (LinkRefused m M a b v.graph) v.answer

  link_said : LinkSaid (link_pair m a b)
  link_said = first (port_is f a) (port_is f b)
    where
      so : (h : MultiPortGraph) (r : Refusal) → LinkRefused m M a b h r → LinkSaid (link_pair m a b)
      so h r c = subst LinkSaid (sym (link_refuses h r c)) c

      sides : (Taken m M a b → ⊥) → (x y : model.InnerPlace) (m₁ m₂ : MultiPortGraph) (u o v r : ℕ) → OfBlock m M a x → OfBlock m M b y →
          prepare m a x.side ≡ ready m₁ u o → prepare m₁ b y.side ≡ ready m₂ v r → (c : Bool) → same_side x.side y.side ≡ c → LinkSaid (link_pair m a b)
      sides free x y m₁ m₂ u o v r s t e g true c = so m₂ _ (link_one_side x y m₁ m₂ u o v r s t free e g (same_side_is x.side y.side c))
      sides free x y m₁ m₂ u o v r s t e g false c =
          subst LinkSaid (sym (links_otherwise free x y m₁ m₂ u o v r s t e g (same_side_false x.side y.side c))) tt

      second : (Taken m M a b → ⊥) → (x y : model.InnerPlace) (m₁ : MultiPortGraph) (u o : ℕ) → OfBlock m M a x → OfBlock m M b y → prepare m a x.side ≡ ready m₁ u o →
          (w : Prepared) → prepare m₁ b y.side ≡ w → LinkSaid (link_pair m a b)
      second free x y m₁ u o s t e full g = so m NoRoom (link_second_full x y m₁ u o s t free e g)
      second free x y m₁ u o s t e (ready m₂ v r) g = sides free x y m₁ m₂ u o v r s t e g (same_side x.side y.side) refl

      both : (Taken m M a b → ⊥) → (x y : model.InnerPlace) → OfBlock m M a x → OfBlock m M b y → (w : Prepared) → prepare m a x.side ≡ w → LinkSaid (link_pair m a b)
      both free x y s t full e = so m NoRoom (link_first_full x s (block_not_hidden f b y t) free e)
      both free x y s t (ready m₁ u o) e = second free x y m₁ u o s t e (prepare m₁ b y.side) refl

      alone : (Taken m M a b → ⊥) → (x : model.InnerPlace) → OfBlock m M a x → Dead M b → (w : Prepared) → prepare m a x.side ≡ w → LinkSaid (link_pair m a b)
      alone free x s d full e = so m NoRoom (link_first_full x s (dead_not_hidden f b d) free e)
      alone free x s d (ready m₁ u o) e = so m₁ _ (link_second_dead x m₁ u o s d free e)

      -- 18, or the rest
      wired : (x : model.InnerPlace) → OfBlock m M a x → (OfHidden m M b → ⊥) → ((Taken m M a b → ⊥) → LinkSaid (link_pair m a b)) →
          (taken : Bool) → input_taken m a b ≡ taken → LinkSaid (link_pair m a b)
      wired x s n rest true e = so m _ (link_wired x s n (so_taken f a b e))
      wired x s n rest false e = rest (so_free f a b e)

      first : PortIs m M a → PortIs m M b → LinkSaid (link_pair m a b)
      first (no_port d) q = so m _ (link_first_dead d)
      first (hidden_port k) q = so m _ (link_first_hidden k)
      first (block_port x s) (hidden_port k) = so m _ (link_second_hidden x s k)
      first (block_port x s) (no_port d) =
          wired x s (dead_not_hidden f b d) (λ free. alone free x s d (prepare m a x.side) refl) (input_taken m a b) refl
      first (block_port x s) (block_port y t) =
          wired x s (block_not_hidden f b y t) (λ free. both free x y s t (prepare m a x.side) refl) (input_taken m a b) refl

  pub link_refused_lem : (r : Refusal) → (link_pair m a b).answer ≡ Err r → LinkRefused m M a b (link_pair m a b).graph r
  link_refused_lem r e = subst (LinkSays (LinkRefused m M a b (link_pair m a b).graph)) e link_said

module _ {m : MultiPortGraph} {M : Model} (f : Fine m M) where
  -- a refused link leaves the graph, but for the preparations that stay
  pub link_leaves : (a b : ℕ) (h : MultiPortGraph) (r : Refusal) → LinkRefused m M a b h r → comes_late r ≡ false → h ≡ m
  link_leaves a b h r (link_first_dead d) n = refl
  link_leaves a b h r (link_first_hidden k) n = refl
  link_leaves a b h r (link_second_hidden x s k) n = refl
  link_leaves a b h r (link_wired x s k j) n = refl
  link_leaves a b h r (link_first_full x s k free e) n = refl
  link_leaves a b h r (link_second_full x y m₁ u o s t free e g) n = refl
  link_leaves a b h r (link_second_dead x m₁ u o s d free e) n = absurd (zero_is_not_one (cc))
  link_leaves a b h r (link_one_side x y m₁ m₂ u o v w s t free e g q) n = absurd (zero_is_not_one (cc))

  -- 11 of linking ports: the graph is what the preparation of the first end left
  pub unknown_second_leaves : (a b : ℕ) (q : PortIndex) → (link_pair m a b).answer ≡ Err (UnknownSecondPort q) →
      (x : model.InnerPlace) × (u : ℕ) × (o : ℕ) × OfBlock m M a x × (prepare m a x.side ≡ ready (link_pair m a b).graph u o)
  unknown_second_leaves a b q e = go (link_pair m a b).graph (UnknownSecondPort q) (link_refused_lem f a b (UnknownSecondPort q) e) refl
    where
      go : (h : MultiPortGraph) (r : Refusal) → LinkRefused m M a b h r → r ≡ UnknownSecondPort q →
          (x : model.InnerPlace) × (u : ℕ) × (o : ℕ) × OfBlock m M a x × (prepare m a x.side ≡ ready h u o)
      go h r (link_first_dead d) n = absurd (zero_is_not_one (cc))
      go h r (link_first_hidden k) n = absurd (zero_is_not_one (cc))
      go h r (link_second_hidden x s k) n = absurd (zero_is_not_one (cc))
      go h r (link_wired x s k j) n = absurd (zero_is_not_one (cc))
      go h r (link_first_full x s k free e) n = absurd (zero_is_not_one (cc))
      go h r (link_second_full x y m₁ u o s t free e g) n = absurd (zero_is_not_one (cc))
      go h r (link_second_dead x m₁ u o s d free e) n = (x, u, o, s, e)
      go h r (link_one_side x y m₁ m₂ u o v w s t free e g q) n = absurd (zero_is_not_one (cc))

  -- 12 of linking ports: the graph is what the preparations of both ends left, and their inner ports are carried
  pub one_side_leaves : (a b : ℕ) (i j : PortIndex) (d : Direction) → (link_pair m a b).answer ≡ Err (IncompatibleDirections i j d) →
      (x : model.InnerPlace) × (y : model.InnerPlace) × (m₁ : MultiPortGraph) × (o : ℕ) × (r : ℕ) × OfBlock m M a x × OfBlock m M b y × (x.side ≡ d) × (y.side ≡ d)
      × (prepare m a d ≡ ready m₁ i.0 o) × (prepare m₁ b d ≡ ready (link_pair m a b).graph j.0 r)
  one_side_leaves a b i j d e = go (link_pair m a b).graph (IncompatibleDirections i j d) (link_refused_lem f a b (IncompatibleDirections i j d) e) refl
    where
      go : (h : MultiPortGraph) (r : Refusal) → LinkRefused m M a b h r → r ≡ IncompatibleDirections i j d →
          (x : model.InnerPlace) × (y : model.InnerPlace) × (m₁ : MultiPortGraph) × (o : ℕ) × (r : ℕ) × OfBlock m M a x × OfBlock m M b y × (x.side ≡ d) × (y.side ≡ d)
          × (prepare m a d ≡ ready m₁ i.0 o) × (prepare m₁ b d ≡ ready h j.0 r)
      go h r (link_first_dead k) n = absurd (zero_is_not_one (cc))
      go h r (link_first_hidden k) n = absurd (zero_is_not_one (cc))
      go h r (link_second_hidden x s k) n = absurd (zero_is_not_one (cc))
      go h r (link_wired x s k j) n = absurd (zero_is_not_one (cc))
      go h r (link_first_full x s k free e) n = absurd (zero_is_not_one (cc))
      go h r (link_second_full x y m₁ u o s t free e g) n = absurd (zero_is_not_one (cc))
      go h r (link_second_dead x m₁ u o s k free e) n = absurd (zero_is_not_one (cc))
      go h r (link_one_side x y m₁ m₂ u o v w s t free e g q) n =
          let z : x.side ≡ d = cc in
          let a' : port# u ≡ i = cc in
          let b' : port# v ≡ j = cc in
          let k : u ≡ i.0 = ap (λ (c : PortIndex). c.0) a' in
          let l : v ≡ j.0 = ap (λ (c : PortIndex). c.0) b' in
          let y' : y.side ≡ d = sym q ∙ z in
          (x, y, m₁, o, w, s, t, z, y', (cc), (cc))

module _ {m : MultiPortGraph} {M : Model} (f : Fine m M) where
  pub link_call : (a b : ℕ) → CallLaw m M (book.link_call a b)
  unfolding works_of
  link_call a b =
      record {
        leads = after_link f _ a b (link_pair m a b).answer (link_says f a b);
        refuses = λ r k.
            let e = link_refuses f a b k.0 r k.1 in
            (ap (λ (v : PortsLinked). v.answer) e, λ n. ap (λ (v : PortsLinked). v.graph) e ∙ link_leaves f a b k.0 r k.1 n);
        only = λ r e. ((link_pair m a b).graph, link_refused_lem f a b r e);
        space = link_space f a b;
      }
