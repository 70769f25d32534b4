-- Changing a block's counts: its bundle, and that a refused one tells nothing.
use Rattle.std.specs.Prelude.{◌≡◌, Bool, true, false, List, ℕ, ◌+◌, ◌*◌, ◌≤◌, ◌<◌, eqb, leb, ltb, length, Option, Some, None, Result, Ok, Err}
use Rattle.std.proofs.Math.Path.{refl}
use Rattle.std.proofs.Common.{sym, ◌∙◌, ap, subst, arith, ltb-true, ltb-false, leb-true, leb-false, eqb-true, le-leb}
use Rattle.std.proofs.Math.Seq.{ext_get_or}
use Rattle.std.proofs.lemmas.Bool.{eqb-false, lt-leb}
use Rattle.port_tables.specs.Limits.{node_ports, present}
use Rattle.portgraph.specs.Lookups.{meta_at}
use Rattle.portgraph.specs.Model.{Model, Slots, gone, live}
use Rattle.portgraph.specs.Resize.{set_num_ports, moves_after}
use Rattle.port_tables.specs.ResizeLinks.{round_up}
use Rattle.portgraph.specs.GoodSlots.{zero_is_not_one}
use Rattle.portgraph.specs.PlaceLaws.{meta_of_node, gone_has_no_meta}
use Rattle.portgraph.specs.SlotHolds.{block_room}
use Rattle.portgraph.specs.ResizeLaws as resize_laws
use Rattle.portgraph.specs.ResizeLaws.{events_of}
use Rattle.port_tables.specs.declared.node_entry.NodeMeta.{NodeMeta}
use Rattle.portgraph.specs.declared.resize.PortsSet as lower_ports_set
use Rattle.multiportgraph.specs.Reading.{is_hidden}
use Rattle.multiportgraph.specs.Calls.{set_as, set_counts, told_meta, moves_told, moves_told_under, set_counts_under}
use Rattle.theorems.specs.Book as book
use Rattle.multiportgraph.specs.WellFormed.{Fine, BlockIs}
use Rattle.multiportgraph.specs.declared.multiportgraph.MultiPortGraph.{MultiPortGraph}
use Rattle.multi_tables.specs.declared.answers.Refusal.{Refusal}
use Rattle.multi_tables.specs.declared.answers.Refusal.TheVariants.{TooManyPorts, UnknownNode, HiddenNode, MovesTooShort, NoRoom}
use Rattle.multiportgraph.specs.declared.multiportgraph.PortsSet.{PortsSet}
use Rattle.multiportgraph.specs.Cases.{set_refused, resized, set_meta}
use Rattle.multiportgraph.specs.CaseLaws.{set_cases}
use Rattle.multiportgraph.specs.SetLaws.{set_counts_law, set_refused_law}
use Rattle.theorems.proofs.WireRule.{after_set}
use Rattle.multiportgraph.specs.SpaceLaws.{set_call_space}
use Rattle.theorems.specs.Works.{works_of}
use Rattle.theorems.specs.Conditions.{SetRefused, set_full, set_gone, set_hidden, set_many, set_short}
use Rattle.theorems.proofs.CallLaw.{CallLaw, whole}

-- Changing a block's counts.

module _ {m : MultiPortGraph} {M : Model} (f : Fine m M) (n incoming outgoing room : ℕ) where
  set_is : incoming + outgoing ≤ node_ports → (v : Option NodeMeta) → meta_at m.graph n ≡ v → set_counts m n incoming outgoing room ≡ set_meta m n incoming outgoing room v
  set_is h v e = set_cases present m n incoming outgoing room ∙ rw (le-leb (incoming + outgoing) node_ports h) (ap (set_meta m n incoming outgoing room) e)

  set_block : incoming + outgoing ≤ node_ports → (k : NodeMeta) → BlockIs m M n k → (v : lower_ports_set.PortsSet) → set_num_ports m.graph n incoming outgoing room ≡ v →
      set_counts m n incoming outgoing room ≡ record { graph = resized m n k incoming outgoing v.graph v.answer; answer = set_as v.answer }
  set_block h k b v e =
      set_is h (Some k) (meta_of_node f.good f.holds n k b.1)
      ∙ rw b.0 (ap (λ (v : lower_ports_set.PortsSet). record { graph = resized m n k incoming outgoing v.graph v.answer; answer = set_as v.answer }) e)

  pub set_refuses : (r : Refusal) → SetRefused m M n incoming outgoing room r → set_counts m n incoming outgoing room ≡ set_refused m r
  unfolding set_counts_under
  set_refuses r (set_many h) = rw (lt-leb (incoming + outgoing) node_ports h)
  set_refuses r (set_gone h e) = set_is h None (gone_has_no_meta f.good f.holds n e)
  set_refuses r (set_hidden h t) = let k = f.copy n t in set_is h (Some k.meta) (meta_of_node f.good f.holds n k.meta k.here) ∙ rw t
  set_refuses r (set_short h k b l) = set_block h k b _ (resize_laws.set_moves_too_short f.good f.holds n incoming outgoing room h k b.1 l)
  set_refuses r (set_full h k b l x) = set_block h k b _ (resize_laws.set_no_room f.good f.holds n incoming outgoing room h k b.1 l x.other x.away x.full)

  abbrev SetSays : Result ℕ Refusal → Type 0
  SetSays (Ok e) = Unit {0}
  SetSays (Err r) = SetRefused m M n incoming outgoing room r

  so_refused : (r : Refusal) → SetRefused m M n incoming outgoing room r → SetSays (set_counts m n incoming outgoing room).answer
  so_refused r c = subst (λ (v : PortsSet). SetSays v.answer) (sym (set_refuses r c)) c

  module _ (h : incoming + outgoing ≤ node_ports) (k : NodeMeta) (b : BlockIs m M n k) where
    so_set : (v : lower_ports_set.PortsSet) → set_num_ports m.graph n incoming outgoing room ≡ v → SetSays (set_as v.answer) → SetSays (set_counts m n incoming outgoing room).answer
    so_set v e = subst (λ (v : PortsSet). SetSays v.answer) (sym (set_block h k b v e))

    anew_says : 3 * (k.incoming + k.outgoing) ≤ room → (incoming ≡ k.incoming → outgoing ≡ k.outgoing → ⊥) → (0 < incoming + outgoing → incoming + outgoing < k.capacity → ⊥) →
        (c : Bool) → block_room M (round_up (incoming + outgoing)) ≡ c → SetSays (set_counts m n incoming outgoing room).answer
    anew_says l o a true c = so_set _ (resize_laws.set_anew f.good f.holds n incoming outgoing room h k b.1 l o a (leb-true _ _ c)) tt
    anew_says l o a false c = so_refused NoRoom (set_full h k b l (record { other = o; away = a; full = leb-false _ _ c }))

    other_says : 3 * (k.incoming + k.outgoing) ≤ room → (incoming ≡ k.incoming → outgoing ≡ k.outgoing → ⊥) → (x y : Bool) → ltb 0 (incoming + outgoing) ≡ x → ltb (incoming + outgoing) k.capacity ≡ y →
        SetSays (set_counts m n incoming outgoing room).answer
    other_says l o true true p q =
        so_set _ (resize_laws.set_inside f.good f.holds n incoming outgoing room h k b.1 l o (ltb-true _ _ p) (ltb-true _ _ q)) tt
    other_says l o true false p q =
        let z : k.capacity ≤ incoming + outgoing = ltb-false _ _ q in anew_says l o (λ u v. omega arith) (block_room M (round_up (incoming + outgoing))) refl
    other_says l o false y p q =
        let z : incoming + outgoing ≤ 0 = ltb-false _ _ p in anew_says l o (λ u v. omega arith) (block_room M (round_up (incoming + outgoing))) refl

    told_says : 3 * (k.incoming + k.outgoing) ≤ room → (x y : Bool) → eqb incoming k.incoming ≡ x → eqb outgoing k.outgoing ≡ y → SetSays (set_counts m n incoming outgoing room).answer
    told_says l true true p q = so_set _ (resize_laws.set_same f.good f.holds n incoming outgoing room h k b.1 l (eqb-true _ _ p) (eqb-true _ _ q)) tt
    told_says l true false p q = other_says l (λ u v. eqb-false _ _ q v) (ltb 0 (incoming + outgoing)) (ltb (incoming + outgoing) k.capacity) refl refl
    told_says l false y p q = other_says l (λ u v. eqb-false _ _ p u) (ltb 0 (incoming + outgoing)) (ltb (incoming + outgoing) k.capacity) refl refl

    block_says : (x : Bool) → leb (3 * (k.incoming + k.outgoing)) room ≡ x → SetSays (set_counts m n incoming outgoing room).answer
    block_says true p = told_says (leb-true _ _ p) (eqb incoming k.incoming) (eqb outgoing k.outgoing) refl refl
    block_says false p = so_refused MovesTooShort (set_short h k b (leb-false _ _ p))

  set_says : SetSays (set_counts m n incoming outgoing room).answer
  set_says = go (leb (incoming + outgoing) node_ports) (M.node n) (is_hidden m n) refl refl refl
    where
      go : (a : Bool) (s : Slots) (t : Bool) → leb (incoming + outgoing) node_ports ≡ a → M.node n ≡ s → is_hidden m n ≡ t → SetSays (set_counts m n incoming outgoing room).answer
      go false s t p e q = so_refused TooManyPorts (set_many (leb-false _ _ p))
      go true gone t p e q = so_refused UnknownNode (set_gone (leb-true _ _ p) e)
      go true (live k) true p e q = so_refused HiddenNode (set_hidden (leb-true _ _ p) q)
      go true (live k) false p e q = block_says (leb-true _ _ p) k (q, e) (leb (3 * (k.incoming + k.outgoing)) room) refl

  pub set_refused_lem : (r : Refusal) → (set_counts m n incoming outgoing room).answer ≡ Err r → SetRefused m M n incoming outgoing room r
  set_refused_lem r e = subst SetSays e set_says

module _ {m : MultiPortGraph} {M : Model} (f : Fine m M) where
  -- a refused resize leaves the move list as it was
  pub refused_tells_nothing : (n i o : ℕ) (moves : List ℕ) (r : Refusal) → (set_counts m n i o (length moves)).answer ≡ Err r → moves_told m n i o moves ≡ moves
  unfolding moves_told_under
  refused_tells_nothing n i o moves r e = go r (is_hidden m n) refl (set_refused_lem f n i o (length moves) r e)
    where
      silent : events_of (set_num_ports m.graph n i o (length moves)).answer ≡ 0 → moves_after m.graph n i o moves ≡ moves
      silent z =
          ext_get_or 0 (moves_after m.graph n i o moves) moves (resize_laws.moves_length m.graph n i o moves)
          (λ k h. resize_laws.moves_kept m.graph n i o moves k (omega arith))

      lower_silent : (v : lower_ports_set.PortsSet) → set_num_ports m.graph n i o (length moves) ≡ v → events_of v.answer ≡ 0 → moves_after m.graph n i o moves ≡ moves
      lower_silent v q z = silent (ap (λ (v : lower_ports_set.PortsSet). events_of v.answer) q ∙ z)

      go : (r : Refusal) (b : Bool) → is_hidden m n ≡ b → SetRefused m M n i o (length moves) r → told_meta m n i o moves (is_hidden m n) ≡ moves
      go r true h c = rw h
      go r false h (set_many k) = rw h (lower_silent _ (resize_laws.set_too_many f.good f.holds n i o (length moves) k) refl)
      go r false h (set_gone k g) = rw h (lower_silent _ (resize_laws.set_unknown f.good f.holds n i o (length moves) k g) refl)
      go r false h (set_hidden k t) = absurd (zero_is_not_one (cc))
      go r false h (set_short k j b l) = rw h (lower_silent _ (resize_laws.set_moves_too_short f.good f.holds n i o (length moves) k j b.1 l) refl)
      go r false h (set_full k j b l x) =
          rw h (lower_silent _ (resize_laws.set_no_room f.good f.holds n i o (length moves) k j b.1 l x.other x.away x.full) refl)

module _ {m : MultiPortGraph} {M : Model} (f : Fine m M) where
  pub set_call : (n i o room : ℕ) → CallLaw m M (book.set_call n i o room)
  unfolding works_of
  set_call n i o room =
      record {
        leads = after_set f _ n i o (set_counts m n i o room).answer (set_counts_law f n i o room) (set_refused_law f n i o room);
        refuses = λ r k. whole (λ (v : PortsSet). v.answer) (λ v. v.graph) (set_refuses f n i o room r k);
        only = set_refused_lem f n i o room;
        space = set_call_space f n i o room;
      }
