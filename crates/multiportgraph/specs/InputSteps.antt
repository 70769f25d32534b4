-- What the code's steps amount to where a link names an input that has a wire, and where it names none.
use Rattle.std.specs.Prelude.{◌≡◌, Bool, List, ℕ, eqb, Result, Ok, Err}
use Rattle.std.proofs.Math.Path.{refl, ap}
use Rattle.std.proofs.Common.{sym, ◌∙◌}
use Rattle.std.proofs.Math.Bool.{true, false, cond, not}
use Rattle.port_tables.specs.Limits.{present}
use Rattle.portgraph.specs.GoodSlots.{zero_is_not_one}
use Rattle.port_tables.specs.declared.direction.Direction.TheVariants.{Incoming, Outgoing}
use Rattle.multiportgraph.specs.Reading.{seen, end_at}
use Rattle.multi_tables.specs.Forms.{Port, dead, hidden, visible, good_offset, taken_under}
use Rattle.multi_tables.specs.TableReads.{end_in}
use Rattle.multiportgraph.specs.WellFormed.{MultiWf}
use Rattle.multiportgraph.specs.FanOutSteps.{wires_told}
use Rattle.multiportgraph.specs.TableReadLaws.{seen_read, end_read_off}
use Rattle.multiportgraph.specs.Refusals.{wired_seen, wired_input, input_taken}
use Rattle.multiportgraph.specs.Calls.{link_pair_if, link_clean_if, link_sub_if, link_pair, link_clean, link_sub}
use Rattle.multiportgraph.specs.Cases.{link_refused, link_clean_by}
use Rattle.multi_tables.specs.NamedEnds.{taken_seen, taken_ends, taken_first, taken_second, pair_named, link_named, read_in}
use Rattle.multiportgraph.specs.Named.{joined_at, link_by}
use Rattle.multiportgraph.specs.NamedLaws.{sub_of_named, link_done, clean_done}
use Rattle.multiportgraph.specs.CaseLaws.{link_taken, link_clean_taken, link_sub_taken}
use Rattle.multi_tables.specs.TakenInputs.{wired_port, wired_in, taken_in, taken_sub_in, taken_ports_in, pair_named_under, link_named_under, inputs_free}
use Rattle.multiportgraph.specs.declared.multiportgraph.MultiPortGraph.{MultiPortGraph}
use Rattle.multi_tables.specs.declared.answers.SubportIndex.{SubportIndex}
use Rattle.multiportgraph.specs.declared.multiportgraph.PortsLinked.{PortsLinked}
use Rattle.multi_tables.specs.declared.answers.Refusal.{Refusal}
use Rattle.multi_tables.specs.declared.answers.Refusal.TheVariants.{BadOffset, InputWired}
use Rattle.multi_tables.specs.TakenSteps.{unrefused, inputs_taken, inputs_untaken}

-- The calls.

module _ {m : MultiPortGraph} (w : MultiWf m) where
  wired_read : (p : ℕ) → wired_in m.multiport m.graph.port_link m.graph.port_meta m.copy_node p ≡ wired_input m p
  unfolding wired_in wired_input
  wired_read p = ap (wired_port m.multiport m.graph.port_link m.graph.port_meta m.copy_node p) (seen_read m w.fine.flags_long p) ∙ go (seen m p) refl
    where
      go : (s : Port) → seen m p ≡ s → wired_port m.multiport m.graph.port_link m.graph.port_meta m.copy_node p s ≡ wired_seen m p s
      go dead e = refl
      go hidden e = refl
      go (visible n Incoming) e = ap (λ (k : ℕ). not (eqb k 0)) (wires_told m w p n Incoming e)
      go (visible n Outgoing) e = refl

  module _ (a b : ℕ) {c : Bool} (is : c ≡ taken_in m.multiport m.graph.port_link m.graph.port_meta m.copy_node m.release a b) where
    taken_is : c ≡ input_taken m a b
    unfolding taken_in input_taken
    taken_is = is ∙ (λ i. taken_under m.release (wired_read a i) (wired_read b i))

    -- an input that is named has a wire
    module _ (t : c ≡ true) where
      pub ports_taken : (x : Refusal) → x ≡ taken_ports_in m.graph.port_meta m.copy_node a b → link_refused m x ≡ link_pair m a b
      unfolding taken_ports_in
      ports_taken x e =
          ap (link_refused m) (e ∙ (λ i. taken_seen a b (seen_read m w.fine.flags_long a i) (seen_read m w.fine.flags_long b i)))
          ∙ (sym (link_taken present m a b) ∙ ap (λ (u : Bool). link_pair_if u present m a b) (sym t ∙ taken_is))

      pub clean_taken : (x : Refusal) → x ≡ taken_ports_in m.graph.port_meta m.copy_node a b → link_refused m x ≡ link_clean m a b
      unfolding taken_ports_in
      clean_taken x e =
          ap (link_refused m) (e ∙ (λ i. taken_seen a b (seen_read m w.fine.flags_long a i) (seen_read m w.fine.flags_long b i)))
          ∙ (sym (link_clean_taken present m a b) ∙ ap (λ (u : Bool). link_clean_if u present m a b) (sym t ∙ taken_is))

      module _ (o r : ℕ) where
        ends_read : (u v : Port) → seen m a ≡ u → seen m b ≡ v →
            taken_ends a (λ d. end_in m.multiport m.graph.port_link m.graph.port_meta a d o) b (λ e. end_in m.multiport m.graph.port_link m.graph.port_meta b e r) u v
            ≡ taken_ends a (λ d. end_at m a d o) b (λ e. end_at m b e r) u v
        ends_read dead v e f = refl
        ends_read hidden v e f = refl
        ends_read (visible n d) hidden e f = refl
        ends_read (visible n d) dead e f = ap (taken_first a InputWired) (end_read_off w.fine a n d e o)
        ends_read (visible n d) (visible k s) e f =
            λ i. taken_first a (taken_second b (end_read_off w.fine b k s f r i)) (end_read_off w.fine a n d e o i)

        pub sub_taken : (x : Refusal) → x ≡ taken_sub_in m.multiport m.graph.port_link m.graph.port_meta m.copy_node a o b r → link_refused m x ≡ link_sub m a o b r
        unfolding taken_sub_in
        sub_taken x e =
            ap (link_refused m) (e ∙ ap (λ (v : Refusal). cond (good_offset o) (cond (good_offset r) v BadOffset) BadOffset)
            ((λ i. taken_ends a (λ d. end_in m.multiport m.graph.port_link m.graph.port_meta a d o) b (λ e. end_in m.multiport m.graph.port_link m.graph.port_meta b e r) (seen_read m w.fine.flags_long a i) (seen_read m w.fine.flags_long b i))
            ∙ ends_read (seen m a) (seen m b) refl refl))
            ∙ (sym (link_sub_taken m a o b r) ∙ ap (λ (u : Bool). link_sub_if u m a o b r) (sym t ∙ taken_is))

    -- none has
    module _ (t : c ≡ false) where
      pub ports_untaken : {l : PortsLinked} → l ≡ link_pair_if false present m a b → l ≡ link_pair m a b
      ports_untaken e = e ∙ ap (λ (u : Bool). link_pair_if u present m a b) (sym t ∙ taken_is)

      pub ports_free : {l : PortsLinked} → l ≡ link_pair m a b → l ≡ link_pair_if false present m a b
      ports_free e = e ∙ ap (λ (u : Bool). link_pair_if u present m a b) (sym taken_is ∙ t)

      pub clean_untaken : {l : PortsLinked} → l ≡ link_clean_if false present m a b → l ≡ link_clean m a b
      clean_untaken e = e ∙ ap (λ (u : Bool). link_clean_if u present m a b) (sym t ∙ taken_is)

      pub sub_untaken : (o r : ℕ) {l : PortsLinked} → l ≡ link_sub_if false m a o b r → l ≡ link_sub m a o b r
      sub_untaken o r e = e ∙ ap (λ (u : Bool). link_sub_if u m a o b r) (sym t ∙ taken_is)

module _ {m : MultiPortGraph} (w : MultiWf m) where
  module _ (a b : ℕ) {e : Result (Unit {0}) Refusal} (is : e ≡ pair_named_under m.multiport m.graph.port_link m.graph.port_meta m.copy_node m.release a b) where
    pub clean_refused : {x : Refusal} → e ≡ Err x → link_refused m x ≡ link_clean m a b
    unfolding pair_named_under
    clean_refused told = ap (link_clean_by present m a b) (sym told ∙ is) ∙ go (taken_in m.multiport m.graph.port_link m.graph.port_meta m.copy_node m.release a b) refl
      where
        go : (t : Bool) → taken_in m.multiport m.graph.port_link m.graph.port_meta m.copy_node m.release a b ≡ t →
            link_clean_by present m a b (cond t (Err (taken_ports_in m.graph.port_meta m.copy_node a b)) (pair_named m.graph.port_meta m.copy_node a b)) ≡ link_clean m a b
        go true h = clean_taken w a b refl h _ refl
        go false h = clean_untaken w a b refl h (clean_done w a b refl refl refl)

    pub clean_linked : e ≡ Ok tt → {l : PortsLinked} → l ≡ link_pair m a b → l ≡ link_clean m a b
    unfolding pair_named_under
    clean_linked told h =
        let z = unrefused (taken_in m.multiport m.graph.port_link m.graph.port_meta m.copy_node m.release a b) (sym is ∙ told) (λ k. zero_is_not_one (cc)) in
        clean_untaken w a b refl z.0 (clean_done w a b refl z.1 (ports_free w a b refl z.0 h))

  module _ (p o q r : ℕ) {e : Result (ℕ × ℕ) Refusal} (is : e ≡ link_named_under m.multiport m.graph.port_link m.graph.port_meta m.copy_node m.release p o q r) where
    pub sub_refused : {x : Refusal} → e ≡ Err x → link_refused m x ≡ link_sub m p o q r
    unfolding link_named_under
    sub_refused told = ap (link_by m (read_in m.multiport p o) (read_in m.multiport q r)) (sym told ∙ is) ∙ go (taken_in m.multiport m.graph.port_link m.graph.port_meta m.copy_node m.release p q) refl
      where
        go : (t : Bool) → taken_in m.multiport m.graph.port_link m.graph.port_meta m.copy_node m.release p q ≡ t →
            link_by m (read_in m.multiport p o) (read_in m.multiport q r) (cond t (Err (taken_sub_in m.multiport m.graph.port_link m.graph.port_meta m.copy_node p o q r)) (link_named m.multiport m.graph.port_link m.graph.port_meta m.copy_node p o q r)) ≡ link_sub m p o q r
        go true h = sub_taken w p q refl h o r _ refl
        go false h = sub_untaken w p q refl h o r (sym (sub_of_named w.fine p o q r))

    pub sub_joined : {x y : ℕ} → e ≡ Ok (x, y) → {s t : SubportIndex} → s ≡ read_in m.multiport p o → t ≡ read_in m.multiport q r →
        ◌≡◌ {A = PortsLinked} (record { graph = joined_at m x y; answer = Ok (s, t) }) (link_sub m p o q r)
    unfolding link_named_under
    sub_joined told f g =
        let z = unrefused (taken_in m.multiport m.graph.port_link m.graph.port_meta m.copy_node m.release p q) (sym is ∙ told) (λ k. zero_is_not_one (cc)) in
        sub_untaken w p q refl z.0 o r (link_done w p o q r refl z.1 f g refl)

-- The check of a link of ports, over tables that are the graph's: what it refuses the link is refused with, and else no input that is named has a wire.
module _ {m : MultiPortGraph} (w : MultiWf m) (a b : ℕ) {marks : List Bool} {links owners : List ℕ} {flags : List Bool} {u : Result (Unit {0}) Refusal}
    (e : (marks ≡ m.multiport) × (links ≡ m.graph.port_link) × (owners ≡ m.graph.port_meta) × (flags ≡ m.copy_node)) (is : u ≡ inputs_free marks links owners flags m.release a b) where
  checked : u ≡ inputs_free m.multiport m.graph.port_link m.graph.port_meta m.copy_node m.release a b
  checked = rw (e.0, e.1, e.2, e.3) at is

  pub input_refused : {x : Refusal} → u ≡ Err x → link_refused m x ≡ link_pair m a b
  input_refused t = let h = inputs_taken _ _ _ _ _ _ _ checked _ t in ports_taken w a b refl h.0 _ h.1

  pub inputs_passed : {x : Unit {0}} → u ≡ Ok x → {l : PortsLinked} → l ≡ link_pair_if false present m a b → l ≡ link_pair m a b
  inputs_passed t = ports_untaken w a b refl (inputs_untaken _ _ _ _ _ _ _ checked _ t)

-- A call in place tells its graph and its answer one by one: those of one link are those of another.
pub parts_untaken : {k l : PortsLinked} → k ≡ l → {g : MultiPortGraph} {y : Result (SubportIndex × SubportIndex) Refusal} → (g ≡ k.graph) × (y ≡ k.answer) → (g ≡ l.graph) × (y ≡ l.answer)
parts_untaken e h = (h.0 ∙ ap (λ (l : PortsLinked). l.graph) e, h.1 ∙ ap (λ (l : PortsLinked). l.answer) e)
