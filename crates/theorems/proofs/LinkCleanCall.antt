-- Linking two ports and leaving no stub: its bundle; and where either link of ports is accepted, both are one.
use Rattle.std.specs.Prelude.{◌≡◌, refl, Bool, true, false, ◌↔◌, ℕ, Result, Ok, Err}
use Rattle.std.proofs.Common.{sym, ◌∙◌, ap, subst}
use Rattle.port_tables.specs.Limits.{present}
use Rattle.port_tables.specs.Entries.{port#, same_side}
use Rattle.portgraph.specs.Model as model
use Rattle.portgraph.specs.Model.{Model}
use Rattle.portgraph.specs.Joins.{same_side_distinct, same_side_false}
use Rattle.portgraph.specs.GoodSlots.{zero_is_not_one}
use Rattle.portgraph.specs.GoodLaws.{same_side_is}
use Rattle.port_tables.specs.declared.direction.Direction.{Direction}
use Rattle.multiportgraph.specs.Reading.{seen}
use Rattle.multi_tables.specs.Forms.{Port, dead, hidden, visible}
use Rattle.multiportgraph.specs.WellFormed.{Fine}
use Rattle.multiportgraph.specs.HiddenNodes.{Prepared, ready, full, prepare}
use Rattle.multiportgraph.specs.Refusals.{input_taken}
use Rattle.multiportgraph.specs.Calls.{link_pair, link_pair_if, link_clean, link_clean_if}
use Rattle.multiportgraph.specs.Cases.{link_refused, link_prepared, link_second, link_first, link_live, link_seen, link_clean_by}
use Rattle.multi_tables.specs.NamedEnds.{pair_seen, taken_seen}
use Rattle.multiportgraph.specs.CaseLaws.{link_cases, link_taken, link_clean_cases, link_clean_taken}
use Rattle.multiportgraph.specs.SpaceLaws.{link_clean_space}
use Rattle.multiportgraph.specs.declared.multiportgraph.MultiPortGraph.{MultiPortGraph}
use Rattle.multi_tables.specs.declared.answers.SubportIndex.{SubportIndex}
use Rattle.multi_tables.specs.declared.answers.Refusal.{Refusal}
use Rattle.multi_tables.specs.declared.answers.Refusal.TheVariants.{NoRoom, IncompatibleDirections}
use Rattle.multiportgraph.specs.declared.multiportgraph.PortsLinked.{PortsLinked}
use Rattle.theorems.specs.Book as book
use Rattle.theorems.specs.Book.{book_link}
use Rattle.theorems.specs.History.{State, next}
use Rattle.theorems.specs.Works.{works_of}
use Rattle.theorems.specs.Claims.{by_ports, by_ports_clean, linking, LinkedBy}
use Rattle.theorems.specs.Conditions.{CleanRefused, LinkRefused, LinkSays, OfBlock, OfHidden, PortIs, Taken, block_port, clean_first_dead, clean_first_hidden, clean_full, clean_one_side, clean_second_dead, clean_second_hidden, clean_wired, hidden_port, link_first_dead, link_first_full, link_first_hidden, link_one_side, link_second_dead, link_second_full, link_second_hidden, link_wired, no_port}
use Rattle.theorems.specs.PortCases.{port_is, seen_block_port, seen_hidden_port, seen_none}
use Rattle.theorems.specs.TakenLaws.{free_so, so_free, so_taken, taken_so}
use Rattle.theorems.specs.LinkLaw as law
use Rattle.theorems.specs.LinkLaw.{link_says_if, nothing_left}
use Rattle.theorems.proofs.WireRule.{after_link}
use Rattle.theorems.proofs.CallLaw.{CallLaw, whole}
use Rattle.theorems.proofs.LinkCall.{block_not_hidden, dead_not_hidden, link_refuses, links_otherwise, sides_same, wired_seen}

-- On any graph: a link of ports that is accepted is the link that leaves no stub, and the other way round.
module _ (m : MultiPortGraph) (a b : ℕ) (x y : SubportIndex) where
  abbrev Linked : PortsLinked → Type 0
  Linked v = v.answer ≡ Ok (x, y)

  pub clean_is_link : Linked (link_clean m a b) → link_clean m a b ≡ link_pair m a b
  clean_is_link = by (input_taken m a b)
    where
      go : (v : Result (Unit {0}) Refusal) → Linked (link_clean_by present m a b v) → link_clean_by present m a b v ≡ link_pair_if false present m a b
      go (Err r) e = absurd (zero_is_not_one (cc))
      go (Ok tt) e = refl

      -- 18 refuses both
      by : (taken : Bool) → Linked (link_clean_if taken present m a b) → link_clean_if taken present m a b ≡ link_pair_if taken present m a b
      by true h = link_clean_taken present m a b ∙ sym (link_taken present m a b)
      by false h = link_clean_cases present m a b ∙ go (pair_seen a b (seen m a) (seen m b)) (subst Linked (link_clean_cases present m a b) h)

  -- 11 and 12 refuse the link of ports too, or 10 before them
  second_dead : (P : Prepared) → Linked (link_first m b P) → ⊥
  second_dead full e = zero_is_not_one (cc)
  second_dead (ready m₁ u o) e = zero_is_not_one (cc)

  one_side : (d s : Direction) → same_side d s ≡ true → (P : Prepared) → Linked (link_live m a d b s P) → ⊥
  one_side d s j full e = zero_is_not_one (cc)
  one_side d s j (ready m₁ u o) e = go (prepare m₁ b s) e
    where
      go : (Q : Prepared) → Linked (link_second m a d u o b s Q) → ⊥
      go full k = zero_is_not_one (cc)
      go (ready m₂ v r) k =
          let z : link_prepared m₂ a d u o b s v r ≡ link_refused m₂ (IncompatibleDirections (port# u) (port# v) d) = rw j in
          let n : Err (IncompatibleDirections (port# u) (port# v) d) ≡ Ok (x, y) = ap (λ (w : PortsLinked). w.answer) (sym z) ∙ k in
          zero_is_not_one (cc)

  pub link_is_clean : Linked (link_pair m a b) → link_clean m a b ≡ link_pair m a b
  link_is_clean = by (input_taken m a b)
    where
      go : (u v : Port) → Linked (link_seen m a b u v) → link_clean_by present m a b (pair_seen a b u v) ≡ link_pair_if false present m a b
      go dead v e = absurd (zero_is_not_one (cc))
      go hidden v e = absurd (zero_is_not_one (cc))
      go (visible n d) hidden e = absurd (zero_is_not_one (cc))
      go (visible n d) dead e = absurd (second_dead (prepare m a d) e)
      go (visible n d) (visible k s) e = sides (same_side d s) refl
        where
          sides : (c : Bool) → same_side d s ≡ c → link_clean_by present m a b (pair_seen a b (visible n d) (visible k s)) ≡ link_pair_if false present m a b
          sides true j = absurd (one_side d s j (prepare m a d) e)
          sides false j = rw j refl

      by : (taken : Bool) → Linked (link_pair_if taken present m a b) → link_clean_if taken present m a b ≡ link_pair_if taken present m a b
      by true h = link_clean_taken present m a b ∙ sym (link_taken present m a b)
      by false h = link_clean_cases present m a b ∙ go (seen m a) (seen m b) (subst Linked (link_cases present m a b) h)

-- graph and book after a link of ports
abbrev after : State → ℕ → ℕ → PortsLinked → State
after s a b v = record { graph = v.graph; book = book_link s.book a b v.answer }

pub clean_next : (s : State) (a b : ℕ) → link_clean s.graph a b ≡ link_pair s.graph a b → next s (book.link_clean_call a b) ≡ next s (book.link_call a b)
clean_next s a b e = ap (after s a b) e

pub clean_link_is_link : (s : State) (a b : ℕ) (x y : SubportIndex) →
    (LinkedBy s (by_ports_clean a b) x y ↔ LinkedBy s (by_ports a b) x y)
    × (LinkedBy s (by_ports_clean a b) x y → next s (linking (by_ports_clean a b)) ≡ next s (linking (by_ports a b)))
clean_link_is_link s a b x y = (
  (
    (λ h. ap (λ (v : PortsLinked). v.answer) (sym (clean_is_link s.graph a b x y h)) ∙ h),
    (λ h. ap (λ (v : PortsLinked). v.answer) (link_is_clean s.graph a b x y h) ∙ h),
  ),
  λ h. clean_next s a b (clean_is_link s.graph a b x y h),
)

module _ {m : MultiPortGraph} {M : Model} (f : Fine m M) (a b : ℕ) where
  -- one wire more, as the link of ports makes it, or nothing changed
  pub clean_says : law.LinkSays m M a b (link_clean m a b).graph (link_clean m a b).answer
  clean_says = by (input_taken m a b)
    where
      Says : PortsLinked → Type 0
      Says v = law.LinkSays m M a b v.graph v.answer

      go : (v : Result (Unit {0}) Refusal) → Says (link_clean_by present m a b v)
      go (Err r) = nothing_left f
      go (Ok tt) = link_says_if f false a b

      by : (taken : Bool) → Says (link_clean_if taken present m a b)
      by true = subst Says (sym (link_clean_taken present m a b)) (nothing_left f)
      by false = subst Says (sym (link_clean_cases present m a b)) (go (pair_seen a b (seen m a) (seen m b)))

  pub clean_done_law : (s t : SubportIndex) → (link_clean m a b).answer ≡ Ok (s, t) → law.LinkDone m M (link_clean m a b).graph a b s t
  clean_done_law s t e = subst (law.LinkSays m M a b (link_clean m a b).graph) e clean_says

  -- 7 and 8 come before 18
  clean_before : (u v : Port) → seen m a ≡ u → seen m b ≡ v → (r : Refusal) → taken_seen a b u v ≡ r → pair_seen a b u v ≡ Err r → link_clean m a b ≡ link_refused m r
  clean_before u v e g r t s = go (input_taken m a b)
    where
      go : (taken : Bool) → link_clean_if taken present m a b ≡ link_refused m r
      go true = link_clean_taken present m a b ∙ rw (e, g) (ap (link_refused m) t)
      go false = link_clean_cases present m a b ∙ rw (e, g) (ap (link_clean_by present m a b) s)

  -- and where it is not given the rest is done
  clean_free : (Taken m M a b → ⊥) → link_clean m a b ≡ link_clean_if false present m a b
  clean_free free = ap (λ (taken : Bool). link_clean_if taken present m a b) (free_so f a b free)

  clean_by : (Taken m M a b → ⊥) → (u v : Port) → seen m a ≡ u → seen m b ≡ v → link_clean m a b ≡ link_clean_by present m a b (pair_seen a b u v)
  clean_by free u v e g = clean_free free ∙ (link_clean_cases present m a b ∙ rw (e, g))

  clean_blocks : (Taken m M a b → ⊥) → (x y : model.InnerPlace) → OfBlock m M a x → OfBlock m M b y →
      link_clean m a b ≡ link_clean_by present m a b (pair_seen a b (visible x.node x.side) (visible y.node y.side))
  clean_blocks free x y s t = clean_by free (visible x.node x.side) (visible y.node y.side) (seen_block_port f a x s) (seen_block_port f b y t)

  -- ports of blocks on opposite sides: the link of ports
  clean_opposite : (Taken m M a b → ⊥) → (x y : model.InnerPlace) → OfBlock m M a x → OfBlock m M b y → same_side x.side y.side ≡ false → link_clean m a b ≡ link_pair m a b
  clean_opposite free x y s t c =
      (clean_blocks free x y s t ∙ rw c refl) ∙ sym (ap (λ (taken : Bool). link_pair_if taken present m a b) (free_so f a b free))

  -- 10 is given where 18 is not
  full_free : LinkRefused m M a b m NoRoom → Taken m M a b → ⊥
  full_free k = go m NoRoom k refl
    where
      go : (left : MultiPortGraph) (r : Refusal) → LinkRefused m M a b left r → r ≡ NoRoom → Taken m M a b → ⊥
      go left r (link_first_dead d) e = absurd (zero_is_not_one (cc))
      go left r (link_first_hidden k) e = absurd (zero_is_not_one (cc))
      go left r (link_second_hidden x s k) e = absurd (zero_is_not_one (cc))
      go left r (link_wired x s n k) e = absurd (zero_is_not_one (cc))
      go left r (link_first_full x s n free g) e = free
      go left r (link_second_full x y m₁ u o s t free g h) e = free
      go left r (link_second_dead x m₁ u o s d free g) e = absurd (zero_is_not_one (cc))
      go left r (link_one_side x y m₁ m₂ u o v w s t free g h q) e = absurd (zero_is_not_one (cc))

  pub clean_refuses : (r : Refusal) → CleanRefused m M a b r → link_clean m a b ≡ link_refused m r
  clean_refuses r (clean_first_dead d) = clean_before dead (seen m b) (seen_none f a d) refl _ refl refl
  clean_refuses r (clean_first_hidden k) = clean_before hidden (seen m b) (seen_hidden_port f a k) refl _ refl refl
  clean_refuses r (clean_second_hidden x s k) =
      clean_before (visible x.node x.side) hidden (seen_block_port f a x s) (seen_hidden_port f b k) _ refl refl
  clean_refuses r (clean_wired x s n k) =
      ap (λ (taken : Bool). link_clean_if taken present m a b) (taken_so f a b k) ∙ (link_clean_taken present m a b ∙ ap (link_refused m) (wired_seen f a b x s n))
  clean_refuses r (clean_second_dead x s d free) = clean_by free (visible x.node x.side) dead (seen_block_port f a x s) (seen_none f b d)
  clean_refuses r (clean_one_side x y s t free q) = clean_blocks free x y s t ∙ rw (sides_same x.side y.side q) refl
  clean_refuses r (clean_full x y s t n k) = clean_opposite (full_free k) x y s t (same_side_distinct x.side y.side n) ∙ link_refuses f a b m NoRoom k

  abbrev Said : PortsLinked → Type 0
  Said v = LinkSays (CleanRefused m M a b) v.answer

  clean_said : Said (link_clean m a b)
  clean_said = first (port_is f a) (port_is f b)
    where
      so : (r : Refusal) → CleanRefused m M a b r → Said (link_clean m a b)
      so r c = subst Said (sym (clean_refuses r c)) c

      second : (Taken m M a b → ⊥) → (x y : model.InnerPlace) (m₁ : MultiPortGraph) (u o : ℕ) → OfBlock m M a x → OfBlock m M b y → same_side x.side y.side ≡ false →
          prepare m a x.side ≡ ready m₁ u o → (w : Prepared) → prepare m₁ b y.side ≡ w → Said (link_clean m a b)
      second free x y m₁ u o s t c e full g = so _ (clean_full x y s t (same_side_false x.side y.side c) (link_second_full x y m₁ u o s t free e g))
      second free x y m₁ u o s t c e (ready m₂ v r) g =
          subst Said (sym (clean_opposite free x y s t c ∙ links_otherwise f a b free x y m₁ m₂ u o v r s t e g (same_side_false x.side y.side c))) tt

      prepared : (Taken m M a b → ⊥) → (x y : model.InnerPlace) → OfBlock m M a x → OfBlock m M b y → same_side x.side y.side ≡ false →
          (w : Prepared) → prepare m a x.side ≡ w → Said (link_clean m a b)
      prepared free x y s t c full e = so _ (clean_full x y s t (same_side_false x.side y.side c) (link_first_full x s (block_not_hidden f b y t) free e))
      prepared free x y s t c (ready m₁ u o) e = second free x y m₁ u o s t c e (prepare m₁ b y.side) refl

      sides : (Taken m M a b → ⊥) → (x y : model.InnerPlace) → OfBlock m M a x → OfBlock m M b y → (c : Bool) → same_side x.side y.side ≡ c → Said (link_clean m a b)
      sides free x y s t true c = so _ (clean_one_side x y s t free (same_side_is x.side y.side c))
      sides free x y s t false c = prepared free x y s t c (prepare m a x.side) refl

      -- 18, or the rest
      wired : (x : model.InnerPlace) → OfBlock m M a x → (OfHidden m M b → ⊥) → ((Taken m M a b → ⊥) → Said (link_clean m a b)) →
          (taken : Bool) → input_taken m a b ≡ taken → Said (link_clean m a b)
      wired x s n rest true e = so _ (clean_wired x s n (so_taken f a b e))
      wired x s n rest false e = rest (so_free f a b e)

      first : PortIs m M a → PortIs m M b → Said (link_clean m a b)
      first (no_port d) q = so _ (clean_first_dead d)
      first (hidden_port k) q = so _ (clean_first_hidden k)
      first (block_port x s) (hidden_port k) = so _ (clean_second_hidden x s k)
      first (block_port x s) (no_port d) = wired x s (dead_not_hidden f b d) (λ free. so _ (clean_second_dead x s d free)) (input_taken m a b) refl
      first (block_port x s) (block_port y t) =
          wired x s (block_not_hidden f b y t) (λ free. sides free x y s t (same_side x.side y.side) refl) (input_taken m a b) refl

  pub clean_refused : (r : Refusal) → (link_clean m a b).answer ≡ Err r → CleanRefused m M a b r
  clean_refused r e = subst (LinkSays (CleanRefused m M a b)) e clean_said

  pub link_clean_call : CallLaw m M (book.link_clean_call a b)
  unfolding works_of
  link_clean_call =
      record {
        leads = after_link f _ a b (link_clean m a b).answer clean_says;
        refuses = λ r k. whole (λ (v : PortsLinked). v.answer) (λ v. v.graph) (clean_refuses r k);
        only = clean_refused;
        space = link_clean_space f a b;
      }

-- refused, it leaves graph and book
pub clean_refused_leaves : (s : State) {M : Model} → Fine s.graph M → (a b : ℕ) (r : Refusal) → (link_clean s.graph a b).answer ≡ Err r →
    next s (book.link_clean_call a b) ≡ s
clean_refused_leaves s f a b r e = ap (after s a b) (clean_refuses f a b r (clean_refused f a b r e))
