-- Linking two subports: its bundle.
use Rattle.std.specs.Prelude.{◌≡◌, refl, Bool, true, false, cond, ℕ, ◌≤◌, ◌<◌, ltb, Ok, Err, Result}
use Rattle.std.proofs.Common.{sym, ◌∙◌, ap, subst, arith, ltb-true, ltb-false, lt-ltb}
use Rattle.port_tables.specs.Entries.{port#, same_side}
use Rattle.portgraph.specs.Model as model
use Rattle.portgraph.specs.Model.{Model, Far, nowhere, to, Dead}
use Rattle.portgraph.specs.Calls as lower
use Rattle.portgraph.specs.Calls.{link_ports}
use Rattle.portgraph.specs.GoodSlots.{zero_is_not_one}
use Rattle.portgraph.specs.GoodLaws.{same_side_is}
use Rattle.portgraph.specs.LinkHolds as lower_laws
use Rattle.portgraph.specs.declared.portgraph.PortsLinked as lower_ports_linked
use Rattle.multiportgraph.specs.Reading.{seen, end_at, as_read}
use Rattle.multi_tables.specs.Forms.{Port, dead, hidden, visible, End, inner, lacking}
use Rattle.multiportgraph.specs.Refusals.{input_taken}
use Rattle.multiportgraph.specs.Calls.{link_sub, link_sub_if}
use Rattle.theorems.specs.Book as book
use Rattle.multiportgraph.specs.WellFormed.{Fine}
use Rattle.multiportgraph.specs.Ends.{EndOf}
use Rattle.multiportgraph.specs.declared.multiportgraph.MultiPortGraph.{MultiPortGraph}
use Rattle.multi_tables.specs.declared.answers.Refusal.{Refusal}
use Rattle.multi_tables.specs.declared.answers.Refusal.TheVariants.{BadOffset, UnknownOffset, InputWired}
use Rattle.multiportgraph.specs.declared.multiportgraph.PortsLinked.{PortsLinked}
use Rattle.multiportgraph.specs.Graph.{with_graph}
use Rattle.multiportgraph.specs.Cases.{link_refused, link_inner, link_second_end, link_first_end, link_sub_seen, taken_sub_seen}
use Rattle.multi_tables.specs.NamedEnds.{taken_first, taken_second}
use Rattle.multiportgraph.specs.CaseLaws.{link_sub_cases, link_sub_taken}
use Rattle.multiportgraph.specs.LinkCutLaws.{link_sub_law, LinkSubDone, LinkSubSays}
use Rattle.theorems.proofs.WireRule.{after_link_sub}
use Rattle.multiportgraph.specs.SpaceLaws.{link_sub_space}
use Rattle.theorems.specs.Works.{works_of}
use Rattle.theorems.specs.Conditions.{Lacks, LinkSays, LinkSubRefused, OfBlock, OfHidden, Offsets, PortIs, Taken, block_port, hidden_port, no_port, sub_first_dead, sub_first_hidden, sub_first_lacks, sub_first_linked, sub_offsets, sub_one_side, sub_second_dead, sub_second_hidden, sub_second_lacks, sub_second_linked, sub_wired}
use Rattle.theorems.specs.PortCases.{end_is_lem, is_end, is_lacking, lacks_is, not_lacking, port_is, seen_block_port, seen_hidden_port, seen_none, not_lacking_there, only_there}
use Rattle.theorems.specs.TakenLaws.{free_so, so_free, so_taken, taken_so}
use Rattle.theorems.proofs.CallLaw.{CallLaw, whole}
use Rattle.theorems.proofs.LinkCall.{block_not_hidden, dead_not_hidden}
use Rattle.portgraph.specs.declared.portgraph.LinkError.TheVariants as link_error
use Rattle.port_tables.specs.declared.index.PortIndex.{PortIndex}
use Rattle.portgraph.specs.declared.portgraph.LinkError.{LinkError}
use Rattle.portgraph.specs.Joins.{same_side_false}
use Rattle.multi_tables.specs.declared.answers.SubportIndex.{SubportIndex}

-- Linking subports.

module _ {m : MultiPortGraph} {M : Model} (f : Fine m M) (p o q r : ℕ) where
  -- where 18 is given, and where it is not
  sub_taken_is : Offsets o r → (v w : Port) → seen m p ≡ v → seen m q ≡ w → link_sub_if true m p o q r ≡ link_refused m (taken_sub_seen m p o q r v w)
  sub_taken_is h v w e g = let k = h.0 in let l = h.1 in link_sub_taken m p o q r ∙ rw (lt-ltb o 65535 (omega arith), lt-ltb r 65535 (omega arith), e, g)

  sub_free_is : Offsets o r → (v w : Port) → seen m p ≡ v → seen m q ≡ w → link_sub_if false m p o q r ≡ link_sub_seen m p o q r v w
  sub_free_is h v w e g = let k = h.0 in let l = h.1 in link_sub_cases m p o q r ∙ rw (lt-ltb o 65535 (omega arith), lt-ltb r 65535 (omega arith), e, g)

  -- 2, 7, 8 and 9 come before it
  sub_before : Offsets o r → (v w : Port) → seen m p ≡ v → seen m q ≡ w → (z : Refusal) → taken_sub_seen m p o q r v w ≡ z → link_sub_seen m p o q r v w ≡ link_refused m z →
      link_sub m p o q r ≡ link_refused m z
  sub_before h v w e g z t s = go (input_taken m p q)
    where
      go : (taken : Bool) → link_sub_if taken m p o q r ≡ link_refused m z
      go true = sub_taken_is h v w e g ∙ ap (link_refused m) t
      go false = sub_free_is h v w e g ∙ s

  sub_free : (Taken m M p q → ⊥) → link_sub m p o q r ≡ link_sub_if false m p o q r
  sub_free free = ap (λ (taken : Bool). link_sub_if taken m p o q r) (free_so f p q free)

  sub_to_none : Offsets o r → (Taken m M p q → ⊥) → (x : model.InnerPlace) → OfBlock m M p x → Dead M q →
      link_sub m p o q r ≡ link_first_end m p o q r dead (end_at m p x.side o)
  sub_to_none h free x s d = sub_free free ∙ sub_free_is h (visible x.node x.side) dead (seen_block_port f p x s) (seen_none f q d)

  sub_blocks : Offsets o r → (Taken m M p q → ⊥) → (x y : model.InnerPlace) → OfBlock m M p x → OfBlock m M q y →
      link_sub m p o q r ≡ link_first_end m p o q r (visible y.node y.side) (end_at m p x.side o)
  sub_blocks h free x y s t =
      sub_free free ∙ sub_free_is h (visible x.node x.side) (visible y.node y.side) (seen_block_port f p x s) (seen_block_port f q y t)

  module _ (h : Offsets o r) (x y : model.InnerPlace) (u v : ℕ) (s : OfBlock m M p x) (t : OfBlock m M q y) (e : EndOf m M x o u) (g : EndOf m M y r v) (free : Taken m M p q → ⊥) where
    sub_ends : (w : lower_ports_linked.PortsLinked) → link_ports m.graph u v ≡ w → link_sub m p o q r ≡ link_inner m (as_read m p o) (as_read m q r) w.answer w.graph
    sub_ends w k =
        sub_blocks h free x y s t
        ∙ (ap (link_first_end m p o q r (visible y.node y.side)) (is_end f p x o u s e)
        ∙ (ap (link_second_end m p o q r u) (is_end f q y r v t g)
        ∙ ap (λ (w : lower_ports_linked.PortsLinked). link_inner m (as_read m p o) (as_read m q r) w.answer w.graph) k))

    one_side : x.side ≡ y.side → link_ports m.graph u v ≡ lower.link_refused m.graph (Err (link_error.IncompatibleDirections (port# u) (port# v) x.side))
    one_side k =
        rw (← e.slot, ← g.slot, ← e.side)
        (lower_laws.link_same_side f.good f.holds e.end g.end e.is_end.valid g.is_end.valid (e.side ∙ (k ∙ sym g.side)))

    module _ (n : x.side ≡ y.side → ⊥) where
      opposite : e.end.side ≡ g.end.side → ⊥
      opposite k = n (sym e.side ∙ (k ∙ g.side))

      first_linked : (M.join e.end ≡ nowhere → ⊥) → link_ports m.graph u v ≡ lower.link_refused m.graph (Err (link_error.AlreadyLinked (port# u)))
      first_linked k =
          rw (← e.slot, ← g.slot) (lower_laws.link_first_taken f.good f.holds e.end g.end e.is_end.valid g.is_end.valid opposite k)

      second_linked : M.join e.end ≡ nowhere → (M.join g.end ≡ nowhere → ⊥) →
          link_ports m.graph u v ≡ lower.link_refused m.graph (Err (link_error.AlreadyLinked (port# v)))
      second_linked j k =
          rw (← e.slot, ← g.slot) (lower_laws.link_second_taken f.good f.holds e.end g.end e.is_end.valid g.is_end.valid opposite j k)

      both_free : M.join e.end ≡ nowhere → M.join g.end ≡ nowhere → (link_ports m.graph u v).answer ≡ Ok (port# u, port# v)
      both_free j k =
          rw (← e.slot, ← g.slot)
          (ap (λ (w : lower_ports_linked.PortsLinked). w.answer) (lower_laws.link_done f.good f.holds e.end g.end e.is_end.valid g.is_end.valid opposite j k))

      -- two unlinked ends of opposite sides, neither an input that has a wire: linked, and both ends are answered as read
      pub links_sub_otherwise : M.join e.end ≡ nowhere → M.join g.end ≡ nowhere →
          link_sub m p o q r ≡ record { graph = with_graph m (link_ports m.graph u v).graph; answer = Ok (as_read m p o, as_read m q r) }
      links_sub_otherwise j k =
          sub_ends (link_ports m.graph u v) refl
          ∙ ap (λ (a : Result (PortIndex × PortIndex) LinkError). link_inner m (as_read m p o) (as_read m q r) a (link_ports m.graph u v).graph) (both_free j k)

  pub link_sub_refuses : (z : Refusal) → LinkSubRefused m M p o q r z → link_sub m p o q r ≡ link_refused m z
  link_sub_refuses z (sub_offsets n) = by (input_taken m p q)
    where
      go : {A : Type 0} (u v : A) (a b : Bool) → ltb o 65535 ≡ a → ltb r 65535 ≡ b → cond a (cond b u v) v ≡ v
      go u v true true c d =
          let k : o < 65535 = ltb-true _ _ c in
          let l : r < 65535 = ltb-true _ _ d in
          absurd (n (omega arith, omega arith))
      go u v true false c d = refl
      go u v false b c d = refl

      by : (taken : Bool) → link_sub_if taken m p o q r ≡ link_refused m BadOffset
      by true = link_sub_taken m p o q r ∙ ap (link_refused m) (go (taken_sub_seen m p o q r (seen m p) (seen m q)) BadOffset (ltb o 65535) (ltb r 65535) refl refl)
      by false = link_sub_cases m p o q r ∙ go (link_sub_seen m p o q r (seen m p) (seen m q)) (link_refused m BadOffset) (ltb o 65535) (ltb r 65535) refl refl
  link_sub_refuses z (sub_first_dead h d) = sub_before h dead (seen m q) (seen_none f p d) refl _ refl refl
  link_sub_refuses z (sub_first_hidden h k) = sub_before h hidden (seen m q) (seen_hidden_port f p k) refl _ refl refl
  link_sub_refuses z (sub_second_hidden h x s k) =
      sub_before h (visible x.node x.side) hidden (seen_block_port f p x s) (seen_hidden_port f q k) _ refl refl
  link_sub_refuses z (sub_first_lacks h x s n l) = go (port_is f q)
    where
      go : PortIs m M q → link_sub m p o q r ≡ link_refused m (UnknownOffset (port# p))
      go (no_port d) =
          sub_before h (visible x.node x.side) dead (seen_block_port f p x s) (seen_none f q d) _
          (ap (taken_first p InputWired) (lacks_is f p x o s l)) (ap (link_first_end m p o q r dead) (lacks_is f p x o s l))
      go (hidden_port k) = absurd (n k)
      go (block_port y t) =
          sub_before h (visible x.node x.side) (visible y.node y.side) (seen_block_port f p x s) (seen_block_port f q y t) _
          (ap (taken_first p (taken_second q (end_at m q y.side r))) (lacks_is f p x o s l)) (ap (link_first_end m p o q r (visible y.node y.side)) (lacks_is f p x o s l))
  link_sub_refuses z (sub_second_lacks h x y s t n l) =
      let w = not_lacking_there f p x o s n in
      sub_before h (visible x.node x.side) (visible y.node y.side) (seen_block_port f p x s) (seen_block_port f q y t) _
      (ap (taken_first p (taken_second q (end_at m q y.side r))) w.1 ∙ ap (taken_second q) (lacks_is f q y r t l))
      (ap (link_first_end m p o q r (visible y.node y.side)) w.1 ∙ ap (link_second_end m p o q r w.0) (lacks_is f q y r t l))
  link_sub_refuses z (sub_wired h x s n l k j) = ap (λ (taken : Bool). link_sub_if taken m p o q r) (taken_so f p q j) ∙ go (port_is f q)
    where
      second : (y : model.InnerPlace) → OfBlock m M q y → (v : End) → end_at m q y.side r ≡ v → taken_second q v ≡ InputWired
      second y t lacking e = absurd (k y t (is_lacking f q y r t e))
      second y t (inner v) e = refl

      go : PortIs m M q → link_sub_if true m p o q r ≡ link_refused m InputWired
      go (no_port d) =
          sub_taken_is h (visible x.node x.side) dead (seen_block_port f p x s) (seen_none f q d)
          ∙ ap (λ (v : End). link_refused m (taken_first p InputWired v)) (not_lacking_there f p x o s l).1
      go (hidden_port i) = absurd (n i)
      go (block_port y t) =
          sub_taken_is h (visible x.node x.side) (visible y.node y.side) (seen_block_port f p x s) (seen_block_port f q y t)
          ∙ (ap (λ (v : End). link_refused m (taken_first p (taken_second q (end_at m q y.side r)) v)) (not_lacking_there f p x o s l).1 ∙ ap (link_refused m) (second y t (end_at m q y.side r) refl))
  link_sub_refuses z (sub_second_dead h x s d n free) = let w = not_lacking_there f p x o s n in sub_to_none h free x s d ∙ ap (link_first_end m p o q r dead) w.1
  link_sub_refuses z (sub_one_side h x y u v s t e g free k) = sub_ends h x y u v s t e g free _ (one_side h x y u v s t e g free k)
  link_sub_refuses z (sub_first_linked h x y u v s t e g free n k) = sub_ends h x y u v s t e g free _ (first_linked h x y u v s t e g free n k)
  link_sub_refuses z (sub_second_linked h x y u v s t e g free n j k) = sub_ends h x y u v s t e g free _ (second_linked h x y u v s t e g free n j k)

  abbrev SubSaid : PortsLinked → Type 0
  SubSaid v = LinkSays (LinkSubRefused m M p o q r) v.answer

  link_sub_says : SubSaid (link_sub m p o q r)
  link_sub_says = offsets (ltb o 65535) (ltb r 65535) refl refl
    where
      so : (z : Refusal) → LinkSubRefused m M p o q r z → SubSaid (link_sub m p o q r)
      so z c = subst SubSaid (sym (link_sub_refuses z c)) c

      linked : Offsets o r → (x y : model.InnerPlace) (u v : ℕ) → OfBlock m M p x → OfBlock m M q y → (e : EndOf m M x o u) (g : EndOf m M y r v) → (Taken m M p q → ⊥) → (x.side ≡ y.side → ⊥) →
          (a b : Far) → M.join e.end ≡ a → M.join g.end ≡ b → SubSaid (link_sub m p o q r)
      linked h x y u v s t e g free n (to a) b j k = so _ (sub_first_linked h x y u v s t e g free n (λ i. zero_is_not_one (cc)))
      linked h x y u v s t e g free n nowhere (to b) j k = so _ (sub_second_linked h x y u v s t e g free n j (λ i. zero_is_not_one (cc)))
      linked h x y u v s t e g free n nowhere nowhere j k = subst SubSaid (sym (links_sub_otherwise h x y u v s t e g free n j k)) tt

      sides : Offsets o r → (x y : model.InnerPlace) (u v : ℕ) → OfBlock m M p x → OfBlock m M q y → EndOf m M x o u → EndOf m M y r v → (Taken m M p q → ⊥) →
          (c : Bool) → same_side x.side y.side ≡ c → SubSaid (link_sub m p o q r)
      sides h x y u v s t e g free true c = so _ (sub_one_side h x y u v s t e g free (same_side_is x.side y.side c))
      sides h x y u v s t e g free false c = linked h x y u v s t e g free (same_side_false x.side y.side c) (M.join e.end) (M.join g.end) refl refl

      -- 18, or the rest
      wired : Offsets o r → (x : model.InnerPlace) → OfBlock m M p x → (OfHidden m M q → ⊥) → (Lacks m M x o → ⊥) → ((y : model.InnerPlace) → OfBlock m M q y → Lacks m M y r → ⊥) →
          ((Taken m M p q → ⊥) → SubSaid (link_sub m p o q r)) → (taken : Bool) → input_taken m p q ≡ taken → SubSaid (link_sub m p o q r)
      wired h x s n l k rest true e = so _ (sub_wired h x s n l k (so_taken f p q e))
      wired h x s n l k rest false e = rest (so_free f p q e)

      second : Offsets o r → (x y : model.InnerPlace) (u : ℕ) → OfBlock m M p x → OfBlock m M q y → end_at m p x.side o ≡ inner u →
          (w : End) → end_at m q y.side r ≡ w → SubSaid (link_sub m p o q r)
      second h x y u s t e lacking g = so _ (sub_second_lacks h x y s t (not_lacking f p x o u s e) (is_lacking f q y r t g))
      second h x y u s t e (inner v) g =
          wired h x s (block_not_hidden f q y t) (not_lacking f p x o u s e) (only_there f q r y t (not_lacking f q y r v t g))
          (λ free. sides h x y u v s t (end_is_lem f p x o u s e) (end_is_lem f q y r v t g) free (same_side x.side y.side) refl) (input_taken m p q) refl

      both : Offsets o r → (x y : model.InnerPlace) → OfBlock m M p x → OfBlock m M q y → (w : End) → end_at m p x.side o ≡ w → SubSaid (link_sub m p o q r)
      both h x y s t lacking e = so _ (sub_first_lacks h x s (block_not_hidden f q y t) (is_lacking f p x o s e))
      both h x y s t (inner u) e = second h x y u s t e (end_at m q y.side r) refl

      alone : Offsets o r → (x : model.InnerPlace) → OfBlock m M p x → Dead M q → (w : End) → end_at m p x.side o ≡ w → SubSaid (link_sub m p o q r)
      alone h x s d lacking e = so _ (sub_first_lacks h x s (dead_not_hidden f q d) (is_lacking f p x o s e))
      alone h x s d (inner u) e =
          wired h x s (dead_not_hidden f q d) (not_lacking f p x o u s e) (λ y t l. d y t.0.0 t.1)
          (λ free. so _ (sub_second_dead h x s d (not_lacking f p x o u s e) free)) (input_taken m p q) refl

      first : Offsets o r → PortIs m M p → PortIs m M q → SubSaid (link_sub m p o q r)
      first h (no_port d) w = so _ (sub_first_dead h d)
      first h (hidden_port k) w = so _ (sub_first_hidden h k)
      first h (block_port x s) (hidden_port k) = so _ (sub_second_hidden h x s k)
      first h (block_port x s) (no_port d) = alone h x s d (end_at m p x.side o) refl
      first h (block_port x s) (block_port y t) = both h x y s t (end_at m p x.side o) refl

      offsets : (a b : Bool) → ltb o 65535 ≡ a → ltb r 65535 ≡ b → SubSaid (link_sub m p o q r)
      offsets false b c d = let k : 65535 ≤ o = ltb-false _ _ c in so _ (sub_offsets (λ h. let l = h.0 in omega arith))
      offsets true false c d = let k : 65535 ≤ r = ltb-false _ _ d in so _ (sub_offsets (λ h. let l = h.1 in omega arith))
      offsets true true c d =
          let k : o < 65535 = ltb-true _ _ c in
          let l : r < 65535 = ltb-true _ _ d in
          first (omega arith, omega arith) (port_is f p) (port_is f q)

  pub link_sub_refused : (z : Refusal) → (link_sub m p o q r).answer ≡ Err z → LinkSubRefused m M p o q r z
  link_sub_refused z e = subst (LinkSays (LinkSubRefused m M p o q r)) e link_sub_says

module _ {m : MultiPortGraph} {M : Model} (f : Fine m M) where
  pub link_sub_done : (p o q t : ℕ) (x y : SubportIndex) → (link_sub m p o q t).answer ≡ Ok (x, y) → LinkSubDone m M (link_sub m p o q t).graph p o q t x y
  link_sub_done p o q t x y h = subst (LinkSubSays m M p o q t (link_sub m p o q t).graph) h (link_sub_law f p o q t)

  pub link_sub_call : (p o q t : ℕ) → CallLaw m M (book.link_sub_call p o q t)
  unfolding works_of
  link_sub_call p o q t =
      record {
        leads = after_link_sub f _ p o q t (link_sub m p o q t).answer (link_sub_law f p o q t);
        refuses = λ r k. whole (λ (v : PortsLinked). v.answer) (λ v. v.graph) (link_sub_refuses f p o q t r k);
        only = link_sub_refused f p o q t;
        space = link_sub_space f p o q t;
      }
