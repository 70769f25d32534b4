-- What the loops over a block's ports and over listed hidden nodes do, turn by turn, and what the calls that remove or resize a block amount to.
use Rattle.std.proofs.Math.Path.{◌≡◌, refl, subst}
use Rattle.std.proofs.Common.{sym, ap, ◌∙◌, length-append, drop-cons, le-leb}
use Rattle.std.specs.Prelude.{Bool, cond, ltb, List, [], ◌∷◌, ◌++◌, get_or, set, length, take, drop, Option, Some, None, Result, Ok, Err}
use Rattle.std.proofs.Math.Bool.{true, false}
use Prim.Native.Nat.{ℕ, zero, suc, ◌+◌, ◌-◌, ◌≤◌, ◌<◌, min}
use native.Mathlib.Omega.{arith}
use Rattle.std.proofs.lemmas.List.Edits.{sets, sets-eq}
use Rattle.std.proofs.Math.Seq.{length-sets, take-append_seam}
use Rattle.std.proofs.lemmas.Bool.{lt-leb}
use borrow.Author.Tests.{ltb-true, ltb-false}
use Rattle.port_tables.specs.Limits.{node_ports, present}
use Rattle.portgraph.specs.Model.{Wf}
use Rattle.portgraph.specs.Lookups.{entry_at, meta_at}
use Rattle.port_tables.specs.Entries.{meta_of_entry}
use Rattle.portgraph.specs.LookupSteps.{found_block_fits}
use Rattle.portgraph.specs.Resize.{Plan, plan_of, refuse, same, inside, anew, set_num_ports, set_num_ports_under, moves_after, moves_after_under}
use Rattle.portgraph.specs.Resize as below
use Rattle.port_tables.specs.ResizeLinks.{BlockFits}
use Rattle.portgraph.specs.ResizeSteps.{plan_too_many, plan_unknown}
use Rattle.port_tables.specs.ResizeLinkSteps.{sets_append}
use Rattle.portgraph.specs.ResizeLaws.{wf_set}
use Rattle.portgraph.specs.SlotHolds.{wf_remove}
use Rattle.port_tables.specs.declared.node_entry.NodeMeta.{NodeMeta}
use Rattle.port_tables.specs.declared.node_entry.NodeEntry.{NodeEntry}
use Rattle.port_tables.specs.declared.node_entry.NodeEntry.TheVariants as node_variants
use Rattle.portgraph.specs.declared.resize.PortsSet as lower_set
use Rattle.portgraph.specs.declared.portgraph.PortGraph.{PortGraph}
use Rattle.multiportgraph.specs.Reading.{is_hidden, is_split, copy_node}
use Rattle.multiportgraph.specs.Calls.{drop_block, remove_block, set_as, set_counts, told_meta, moves_told, moves_told_under, set_counts_under}
use Rattle.multiportgraph.specs.WellFormed.{MultiWf}
use Rattle.multiportgraph.specs.CallSteps.{lower_wf}
use Rattle.multiportgraph.specs.Presumed.{Resizes}
use Rattle.multiportgraph.specs.CodeForms.{block_in, block_found}
use Rattle.multi_tables.specs.declared.answers.Refusal.{Refusal}
use Rattle.multi_tables.specs.declared.answers.Refusal.TheVariants.{TooManyPorts, UnknownNode, HiddenNode}
use Rattle.multiportgraph.specs.declared.multiportgraph.NodeRemoved.{NodeRemoved}
use Rattle.multiportgraph.specs.declared.multiportgraph.PortsSet.{PortsSet}
use Rattle.multiportgraph.specs.declared.multiportgraph.MultiPortGraph.{MultiPortGraph}
use Rattle.multiportgraph.specs.Graph.{with_graph, with_marks}
use Rattle.multiportgraph.specs.HiddenNodes.{remove_copy, unsplit, unsplit_range, marks_moved, recounted, copies_in, copies_dropped, remove_lone, remove_all}
use Rattle.multiportgraph.specs.Cases.{remove_refused, remove_meta, set_refused, resized, set_meta}
use Rattle.multiportgraph.specs.CaseLaws.{remove_cases, set_cases}
use Rattle.portgraph.specs.declared.resize.SetError.TheVariants as set_error
use Rattle.portgraph.specs.declared.resize.SetError.{SetError}

-- The lower graph stays one that came from its calls.

pub wf_remove_copy : (m : MultiPortGraph) (p c : ℕ) → Wf m.graph → Wf (remove_copy m p c).graph
unfolding remove_copy
wf_remove_copy m p c w = wf_remove m.graph c w

wf_cond : (b : Bool) (a m : MultiPortGraph) → Wf a.graph → Wf m.graph → Wf (cond b a m).graph
wf_cond true a m v w = v
wf_cond false a m v w = w

pub wf_unsplit : (m : MultiPortGraph) (p : ℕ) → Wf m.graph → Wf (unsplit m p).graph
unfolding unsplit
wf_unsplit m p w = wf_cond (is_split m p) _ m (wf_remove_copy m p (copy_node m p) w) w

pub wf_unsplit_range : (m : MultiPortGraph) (p n : ℕ) → Wf m.graph → Wf (unsplit_range m p n).graph
unfolding unsplit_range
wf_unsplit_range m p zero w = w
wf_unsplit_range m p (suc n) w = wf_unsplit_range (unsplit m p) (suc p) n (wf_unsplit m p w)

pub wf_remove_lone : (m : MultiPortGraph) (c : ℕ) → Wf m.graph → Wf (remove_lone m c).graph
unfolding remove_lone
wf_remove_lone m c w = wf_remove_copy m _ c w

pub wf_unsplit_is : (m m' : MultiPortGraph) (p : ℕ) → m' ≡ unsplit m p → Wf m.graph → Wf m'.graph
wf_unsplit_is m m' p e w = rw e (wf_unsplit m p w)

pub wf_lone_is : (m m' : MultiPortGraph) (c : ℕ) → m' ≡ remove_lone m c → Wf m.graph → Wf m'.graph
wf_lone_is m m' c e w = rw e (wf_remove_lone m c w)

-- Ports of a range lose their hidden nodes.

pub unsplit_turn : (m m' : MultiPortGraph) (p w k n : ℕ) → k < n → w ≡ p → m' ≡ unsplit m (w + k)
    → unsplit_range m' (p + (k + 1)) (n - (k + 1)) ≡ unsplit_range m (p + k) (n - k)
unfolding unsplit_range
unsplit_turn m m' p w k n h f e =
    let one : n - k ≡ suc (n - (k + 1)) = omega arith in
    let a : p + (k + 1) ≡ suc (p + k) = omega arith in
    rw (e, f, one, a)

-- Listed hidden nodes go.

pub remove_turn : (m m' : MultiPortGraph) (l : List ℕ) (k : ℕ) → k < length l → m' ≡ remove_lone m (get_or l k 0) → remove_all m' (drop (k + 1) l) ≡ remove_all m (drop k l)
unfolding remove_all
remove_turn m m' l k h e = let a : k + 1 ≡ suc k = omega arith in rw (e, a, drop-cons l k 0 h)

-- Hidden nodes of a range are listed.

pub copies_few : (m : MultiPortGraph) (p n : ℕ) → length (copies_in m p n) ≤ n
unfolding copies_in
copies_few m p zero = omega arith
copies_few m p (suc n) = go (is_split m p) (copies_few m (suc p) n)
  where
    go : (b : Bool) → length (copies_in m (suc p) n) ≤ n → length (cond b (copy_node m p ∷ copies_in m (suc p) n) (copies_in m (suc p) n)) ≤ suc n
    go true h = omega arith
    go false h = omega arith

-- What a listing of the hidden nodes of n ports from p on keeps, k of them gone through: where those of the rest are written from the present place on, all are.
pub record CopiesLeft (m : MultiPortGraph) (p n k : ℕ) (list₀ list : List ℕ) (place : ℕ) : Type 0 where
  pub few : place ≤ k
  pub counted : place + length (copies_in m (p + k) (n - k)) ≡ length (copies_in m p n)
  pub same : sets list place (copies_in m (p + k) (n - k)) ≡ sets list₀ 0 (copies_in m p n)

pub copies_start : {m : MultiPortGraph} {p n : ℕ} {l : List ℕ} → CopiesLeft m p n 0 l l 0
copies_start {m} {p} {n} =
    let a : p + 0 ≡ p = omega arith in
    let b : n - 0 ≡ n = omega arith in
    record { few = omega arith; counted = rw (a, b) (omega arith); same = rw (a, b) }

module _ {m : MultiPortGraph} {p n k : ℕ} {l₀ l : List ℕ} {a : ℕ} (left : CopiesLeft m p n k l₀ l a) where
  module _ (h : k < n) where
    abbrev rest : List ℕ
    rest = copies_in m (p + (k + 1)) (n - (k + 1))

    copies_step : (b : Bool) → is_split m (p + k) ≡ b → copies_in m (p + k) (n - k) ≡ cond b (copy_node m (p + k) ∷ rest) rest
    unfolding copies_in
    copies_step b s =
        let one : n - k ≡ suc (n - (k + 1)) = omega arith in
        let next : p + (k + 1) ≡ suc (p + k) = omega arith in
        rw (one, next, s)

    pub copies_turn_split : {l' : List ℕ} {a' c : ℕ} → is_split m (p + k) ≡ true → c ≡ copy_node m (p + k) → l' ≡ set l a c → a' ≡ a + 1 → CopiesLeft m p n (k + 1) l₀ l' a'
    copies_turn_split s e f g =
        let step = copies_step true s in
        let small = left.few in
        let size = ap length step in
        let count = left.counted in
        let next : a + 1 ≡ suc a = omega arith in
        record { few = omega arith; counted = omega arith; same = rw (f, g, e, next) (ap (sets l a) (sym step) ∙ left.same) }

    pub copies_turn_plain : {l' : List ℕ} {a' : ℕ} → is_split m (p + k) ≡ false → l' ≡ l → a' ≡ a → CopiesLeft m p n (k + 1) l₀ l' a'
    copies_turn_plain s f g =
        let step = copies_step false s in
        let small = left.few in
        let size = ap length step in
        let count = left.counted in
        record { few = omega arith; counted = omega arith; same = rw (f, g) (ap (sets l a) (sym step) ∙ left.same) }

  pub copies_listed : n ≤ k → (a ≡ length (copies_in m p n)) × (l ≡ sets l₀ 0 (copies_in m p n))
  unfolding copies_in
  copies_listed h =
      let z : n - k ≡ 0 = omega arith in
      let none : copies_in m (p + k) (n - k) ≡ [] = rw z in
      let size = ap length none in
      let count = left.counted in
      (omega arith, sym (ap (sets l a) none) ∙ left.same)

-- both sides of a block
pub dropped_listed : (m : MultiPortGraph) (k : NodeMeta) (i o first a b x y c r : ℕ) (l l₁ l₂ : List ℕ)
    → first ≡ k.first_port.0 → a ≡ k.incoming → b ≡ k.outgoing → x ≡ min k.incoming i → y ≡ min k.outgoing o
    → c ≡ 0 + length (copies_in m (first + x) (a - x)) → l₁ ≡ sets l 0 (copies_in m (first + x) (a - x))
    → r ≡ c + length (copies_in m (first + a + y) (b - y)) → l₂ ≡ sets l₁ c (copies_in m (first + a + y) (b - y))
    → (r ≡ length (copies_dropped m k i o)) × (l₂ ≡ sets l 0 (copies_dropped m k i o))
unfolding copies_dropped
dropped_listed m k i o first a b x y c r l l₁ l₂ e₁ e₂ e₃ e₄ e₅ f₁ g₁ f₂ g₂ =
    let xs = copies_in m (first + x) (a - x) in
    let ys = copies_in m (first + a + y) (b - y) in
    let one : xs ≡ copies_in m (k.first_port.0 + min k.incoming i) (k.incoming - min k.incoming i) = rw (e₄, e₁, e₂) in
    let two : ys ≡ copies_in m (k.first_port.0 + k.incoming + min k.outgoing o) (k.outgoing - min k.outgoing o) = rw (e₅, e₁, e₂, e₃) in
    let all : xs ++ ys ≡ copies_dropped m k i o = ap (λ z. z ++ ys) one ∙ ap (λ z. copies_in m (k.first_port.0 + min k.incoming i) (k.incoming - min k.incoming i) ++ z) two in
    let n : r ≡ length (xs ++ ys) = let j = length-append xs ys in omega arith in
    let s : l₂ ≡ sets l 0 (xs ++ ys) = g₂ ∙ rw (g₁, f₁) (sets_append l 0 xs ys) in
    (n ∙ ap length all, s ∙ ap (sets l 0) all)

-- no more hidden nodes than ports are dropped
pub copies_dropped_most : (m : MultiPortGraph) (k : NodeMeta) (i o : ℕ) → length (copies_dropped m k i o) ≤ (k.incoming - i) + (k.outgoing - o)
unfolding copies_dropped
copies_dropped_most m k i o =
    let xs = copies_in m (k.first_port.0 + min k.incoming i) (k.incoming - min k.incoming i) in
    let ys = copies_in m (k.first_port.0 + k.incoming + min k.outgoing o) (k.outgoing - min k.outgoing o) in
    let a = copies_few m (k.first_port.0 + min k.incoming i) (k.incoming - min k.incoming i) in
    let b = copies_few m (k.first_port.0 + k.incoming + min k.outgoing o) (k.outgoing - min k.outgoing o) in
    let j = length-append xs ys in
    omega arith

pub copies_dropped_few : (m : MultiPortGraph) (k : NodeMeta) (i o : ℕ) → BlockFits k → length (copies_dropped m k i o) ≤ node_ports
copies_dropped_few m k i o f =
    let a = copies_dropped_most m k i o in
    let p = f.ports in
    let s = f.small in
    omega arith

-- Removing a block.

pub wf_bare : (m m' : MultiPortGraph) (p n : ℕ) → m' ≡ unsplit_range m p n → Wf m.graph → Wf m'.graph
wf_bare m m' p n e w = rw e (wf_unsplit_range m p n w)

module _ (m : MultiPortGraph) (n : ℕ) where
  -- a node that is no block is refused, by what is found of it
  pub remove_refused_lem : {a : Refusal} {r : Result NodeMeta Refusal} → r ≡ block_found m n → r ≡ Err a → (m ≡ (remove_block m n).graph) × (Err a ≡ (remove_block m n).answer)
  unfolding block_found
  remove_refused_lem {a} f g = let s = there (meta_at m.graph n) refl (is_hidden m n) refl (sym g ∙ f) in (ap (λ (x : NodeRemoved). x.graph) s, ap (λ (x : NodeRemoved). x.answer) s)
    where
      As : Refusal → Type 0
      As y = remove_refused m y ≡ remove_block m n

      there : (x : Option NodeMeta) → x ≡ meta_at m.graph n → (h : Bool) → is_hidden m n ≡ h → Err a ≡ block_in h x → As a
      there None e h g q = let z : UnknownNode ≡ a = cc in subst As z (ap (remove_meta m n) e ∙ sym (remove_cases m n))
      there (Some k) e true g q =
          let z : HiddenNode ≡ a = cc in
          subst As z (ap (λ x. cond x (remove_refused m HiddenNode) (record { graph = drop_block m n k; answer = Ok tt })) (sym g) ∙ ap (remove_meta m n) e ∙ sym (remove_cases m n))
      there (Some k) e false g q = let z : ◌≡◌ {A = ℕ} 0 1 = cc in absurd (omega arith)

  pub found_is : (k : NodeMeta) → Ok k ≡ block_found m n → (Some k ≡ meta_at m.graph n) × (is_hidden m n ≡ false)
  unfolding block_found
  found_is k e = go (meta_at m.graph n) refl (is_hidden m n) refl e
    where
      go : (x : Option NodeMeta) → x ≡ meta_at m.graph n → (h : Bool) → is_hidden m n ≡ h → Ok k ≡ block_in h x → (Some k ≡ meta_at m.graph n) × (is_hidden m n ≡ false)
      go None f h g q = let z : ◌≡◌ {A = ℕ} 0 1 = cc in absurd (omega arith)
      go (Some j) f true g q = let z : ◌≡◌ {A = ℕ} 0 1 = cc in absurd (omega arith)
      go (Some j) f false g q = let z : k ≡ j = cc in (ap Some z ∙ f, g)

-- Changing a block's counts.

-- what was listed at a list's front stands there
pub list_taken : (l : List ℕ) {l' vs : List ℕ} {c : ℕ} → length vs ≤ length l → l' ≡ sets l 0 vs → c ≡ length vs → (c ≤ length l') × (take c l' ≡ vs)
list_taken l {vs = vs} h e f =
    let z : 0 + length vs ≤ length l = omega arith in
    let long = ap length e ∙ length-sets l 0 vs in
    (omega arith, rw (e, f, sets-eq vs l 0 z) (take-append_seam vs (drop (0 + length vs) l)))

pub wf_set_is : (m : MultiPortGraph) (low : PortGraph) (n i o room : ℕ) → MultiWf m → low ≡ (set_num_ports m.graph n i o room).graph → Wf low
wf_set_is m low n i o room w e = rw e (wf_set m.graph n i o room (lower_wf m w))

pub block_in_lem : (m : MultiPortGraph) (n : ℕ) (k : NodeMeta) → MultiWf m → Some k ≡ meta_at m.graph n → BlockFits k
block_in_lem m n k w e = found_block_fits m.graph (lower_wf m w) n k e

pub found_fits : {m : MultiPortGraph} (n : ℕ) {k : NodeMeta} {r : Result NodeMeta Refusal} → MultiWf m → r ≡ block_found m n → r ≡ Ok k → BlockFits k
found_fits {m} n {k} w f g = block_in_lem m n k w (found_is m n k (sym g ∙ f)).0

-- a block that was found, with counts that were tested
pub resizes_found : {m : MultiPortGraph} {n i o : ℕ} {k : NodeMeta} {t : Bool} {r : Result NodeMeta Refusal} → MultiWf m → t ≡ ltb node_ports (i + o) → t ≡ false → r ≡ block_found m n → r ≡ Ok k → Resizes m n k i o
resizes_found {m} {n} {k = k} w e h f g = let found = found_is m n k (sym g ∙ f) in record { wf = w; few = ltb-false _ _ (sym e ∙ h); meta = found.0; seen = found.1 }

-- what the call gives, whatever room the move list has
module _ (m : MultiPortGraph) (n i o room : ℕ) where
  pub set_many : node_ports < i + o → set_refused m TooManyPorts ≡ set_counts m n i o room
  unfolding set_counts_under
  set_many h = rw (lt-leb (i + o) node_ports h)

  module _ (few : i + o ≤ node_ports) where
    set_by : (x : Option NodeMeta) → x ≡ meta_at m.graph n → set_meta m n i o room x ≡ set_counts m n i o room
    set_by x e =
        ap (set_meta m n i o room) e
        ∙ ap (λ (t : Bool). cond t (set_meta m n i o room (meta_at m.graph n)) (set_refused m TooManyPorts)) (sym (le-leb (i + o) node_ports few))
        ∙ sym (set_cases present m n i o room)

    pub set_gone : None ≡ meta_at m.graph n → set_refused m UnknownNode ≡ set_counts m n i o room
    set_gone e = set_by None e

    module _ (k : NodeMeta) (e : Some k ≡ meta_at m.graph n) where
      pub set_copy : is_hidden m n ≡ true → set_refused m HiddenNode ≡ set_counts m n i o room
      set_copy h =
          let p : set_refused m HiddenNode ≡ set_meta m n i o room (Some k) = rw h in
          p ∙ set_by (Some k) e

      pub set_block : {low : PortGraph} {r : Result ℕ SetError} (g : MultiPortGraph) → is_hidden m n ≡ false → low ≡ (set_num_ports m.graph n i o room).graph → r ≡ (set_num_ports m.graph n i o room).answer
          → g ≡ resized m n k i o low r → record { graph = g; answer = set_as r } ≡ set_counts m n i o room
      set_block {r = r} g h f₁ f₂ u =
          let below : lower_set.PortsSet = set_num_ports m.graph n i o room in
          let v : record { graph = resized m n k i o below.graph below.answer; answer = set_as below.answer } ≡ set_meta m n i o room (Some k) = rw h in
          let y : ◌≡◌ {A = PortsSet} (record { graph = g; answer = set_as r }) (record { graph = resized m n k i o below.graph below.answer; answer = set_as below.answer }) = rw (u, f₁, f₂) in
          y ∙ v ∙ set_by (Some k) e

-- the single-link graph refuses, and stays as it was
pub kept_below : (g : PortGraph) (n i o room : ℕ) {low : PortGraph} {v : Result ℕ SetError} {r : Refusal} → low ≡ (set_num_ports g n i o room).graph → v ≡ (set_num_ports g n i o room).answer → set_as v ≡ Err r → low ≡ g
unfolding set_num_ports_under
kept_below g n i o room {r = r} e f z = e ∙ go (plan_of g n i o room) (ap set_as (sym f) ∙ z)
  where
    go : (p : Plan) → set_as (below.set_by g n i o p).answer ≡ Err r → (below.set_by g n i o p).graph ≡ g
    go (refuse x) h = refl
    go same h = refl
    go (inside k) h = let z : ◌≡◌ {A = ℕ} 0 1 = cc in absurd (omega arith)
    go (anew k f) h = let z : ◌≡◌ {A = ℕ} 0 1 = cc in absurd (omega arith)

-- the marks that move with a node's ports are those of the graph in which it has its new counts
pub recounted_is : (m : MultiPortGraph) (n : ℕ) (g : PortGraph) (k : NodeMeta) {loose : MultiPortGraph} → Some k ≡ meta_at m.graph n
    → loose ≡ with_marks (with_graph m g) (marks_moved m.multiport (Some k) (meta_at g n)) → loose ≡ recounted m n g
unfolding recounted
recounted_is m n g k e h = h ∙ ap (λ (x : Option NodeMeta). with_marks (with_graph m g) (marks_moved m.multiport x (meta_at g n))) e

-- a block that is there, whatever room the move list has: the lower graph refuses, or has its new counts
module _ {m : MultiPortGraph} {n i o : ℕ} {k : NodeMeta} (h : Resizes m n k i o) (room : ℕ) {low : PortGraph} {r : Result ℕ SetError} {c : Result ℕ Refusal}
    (f₁ : low ≡ (set_num_ports m.graph n i o room).graph) (f₂ : r ≡ (set_num_ports m.graph n i o room).answer) (told : c ≡ set_as r) where
  by_answer : (v : Result ℕ SetError) (g : MultiPortGraph) → r ≡ v → g ≡ resized m n k i o low v → ◌≡◌ {A = PortsSet} (record { graph = g; answer = c }) (set_counts m n i o room)
  by_answer v g q u =
      ap (λ (y : Result ℕ Refusal). record { graph = g; answer = y }) (told ∙ ap set_as q)
      ∙ set_block m n i o room h.few k h.meta g h.seen f₁ (sym q ∙ f₂) u

  left_as : {a : Refusal} → c ≡ Err a → ◌≡◌ {A = PortsSet} (record { graph = m; answer = c }) (set_counts m n i o room)
  left_as {a} z = go r refl (sym told ∙ z)
    where
      go : (v : Result ℕ SetError) → r ≡ v → set_as v ≡ Err a → ◌≡◌ {A = PortsSet} (record { graph = m; answer = c }) (set_counts m n i o room)
      go (Ok t) q y = let z : ◌≡◌ {A = ℕ} 0 1 = cc in absurd (omega arith)
      go (Err set_error.TooManyPorts) q y = by_answer _ m q refl
      go (Err set_error.UnknownNode) q y = by_answer _ m q refl
      go (Err set_error.MovesTooShort) q y = by_answer _ m q refl
      go (Err set_error.NoRoom) q y = by_answer _ m q refl

  done_as : {t : ℕ} {g : MultiPortGraph} → c ≡ Ok t → g ≡ remove_all (recounted m n low) (copies_dropped m k i o) → ◌≡◌ {A = PortsSet} (record { graph = g; answer = c }) (set_counts m n i o room)
  done_as {t} {g} z u = go r refl (sym told ∙ z)
    where
      go : (v : Result ℕ SetError) → r ≡ v → set_as v ≡ Ok t → ◌≡◌ {A = PortsSet} (record { graph = g; answer = c }) (set_counts m n i o room)
      go (Ok y) q x = by_answer _ g q u
      go (Err set_error.TooManyPorts) q x = let z : ◌≡◌ {A = ℕ} 0 1 = cc in absurd (omega arith)
      go (Err set_error.UnknownNode) q x = let z : ◌≡◌ {A = ℕ} 0 1 = cc in absurd (omega arith)
      go (Err set_error.MovesTooShort) q x = let z : ◌≡◌ {A = ℕ} 0 1 = cc in absurd (omega arith)
      go (Err set_error.NoRoom) q x = let z : ◌≡◌ {A = ℕ} 0 1 = cc in absurd (omega arith)

  -- refused below, the graph is the one handed in
  pub block_left : {a : Refusal} → c ≡ Err a → (with_graph m low ≡ (set_counts m n i o room).graph) × (Err a ≡ (set_counts m n i o room).answer)
  block_left z =
      (ap (with_graph m) (kept_below m.graph n i o room f₁ f₂ (sym told ∙ z)) ∙ ap (λ (x : PortsSet). x.graph) (left_as z), sym z ∙ ap (λ (x : PortsSet). x.answer) (left_as z))

  pub block_done : {t : ℕ} {g : MultiPortGraph} → c ≡ Ok t → g ≡ remove_all (recounted m n low) (copies_dropped m k i o) → (g ≡ (set_counts m n i o room).graph) × (Ok t ≡ (set_counts m n i o room).answer)
  block_done z u = (ap (λ (x : PortsSet). x.graph) (done_as z u), sym z ∙ ap (λ (x : PortsSet). x.answer) (done_as z u))

-- a node that is no block is refused alike, whatever room the move list has
pub block_refused : (m : MultiPortGraph) (n i o room : ℕ) {a : Refusal} {t : Bool} {r : Result NodeMeta Refusal} → t ≡ ltb node_ports (i + o) → t ≡ false → r ≡ block_found m n → r ≡ Err a
    → (m ≡ (set_counts m n i o room).graph) × (Err a ≡ (set_counts m n i o room).answer)
unfolding block_found
block_refused m n i o room {a} e h f g = let s = there (meta_at m.graph n) refl (is_hidden m n) refl (sym g ∙ f) in (ap (λ (x : PortsSet). x.graph) s, ap (λ (x : PortsSet). x.answer) s)
  where
    few : i + o ≤ node_ports
    few = ltb-false _ _ (sym e ∙ h)

    As : Refusal → Type 0
    As y = set_refused m y ≡ set_counts m n i o room

    there : (x : Option NodeMeta) → x ≡ meta_at m.graph n → (h : Bool) → is_hidden m n ≡ h → Err a ≡ block_in h x → As a
    there None f h g q = let z : UnknownNode ≡ a = cc in subst As z (set_gone m n i o room few f)
    there (Some k) f true g q = let z : HiddenNode ≡ a = cc in subst As z (set_copy m n i o room few k f g)
    there (Some k) f false g q = let z : ◌≡◌ {A = ℕ} 0 1 = cc in absurd (omega arith)

-- the call that takes a move list
module _ (m : MultiPortGraph) (n i o : ℕ) (b : List ℕ) where
  abbrev SetAs : MultiPortGraph → Result ℕ Refusal → List ℕ → Type 0
  SetAs g a b' = (g ≡ (set_counts m n i o (length b)).graph) × (a ≡ (set_counts m n i o (length b)).answer) × (b' ≡ moves_told m n i o b)

  refused_told : (a : Result ℕ SetError) (h : Bool) → plan_of m.graph n i o (length b) ≡ refuse a → b ≡ told_meta m n i o b h
  unfolding moves_after_under
  refused_told a true e = refl
  refused_told a false e = rw e

  pub set_too_many : {t : Bool} → t ≡ ltb node_ports (i + o) → t ≡ true → SetAs m (Err TooManyPorts) b
  unfolding moves_told_under
  set_too_many e h =
      let many = ltb-true _ _ (sym e ∙ h) in
      let s = set_many m n i o (length b) many in
      (ap (λ (x : PortsSet). x.graph) s, ap (λ (x : PortsSet). x.answer) s, refused_told _ (is_hidden m n) (plan_too_many m.graph n i o (length b) many))

  plan_none : i + o ≤ node_ports → (x : NodeEntry) → entry_at m.graph n ≡ x → None ≡ meta_of_entry x → plan_of m.graph n i o (length b) ≡ refuse (Err set_error.UnknownNode)
  plan_none few (node_variants.Free f) e h = plan_unknown m.graph n i o (length b) few f e
  plan_none few (node_variants.Node k) e h = let z : ◌≡◌ {A = ℕ} 0 1 = cc in absurd (omega arith)

  told_none : {a : Refusal} → i + o ≤ node_ports → Err a ≡ block_found m n → b ≡ moves_told m n i o b
  unfolding block_found moves_told_under
  told_none {a} few e = there (meta_at m.graph n) refl (is_hidden m n) refl e
    where
      there : (x : Option NodeMeta) → x ≡ meta_at m.graph n → (h : Bool) → is_hidden m n ≡ h → Err a ≡ block_in h x → b ≡ told_meta m n i o b (is_hidden m n)
      there None f h g q = refused_told _ (is_hidden m n) (plan_none few (entry_at m.graph n) refl f)
      there (Some k) f true g q = rw g
      there (Some k) f false g q = let z : ◌≡◌ {A = ℕ} 0 1 = cc in absurd (omega arith)

  -- by what is found of the node
  pub set_refused_lem : {a : Refusal} {t : Bool} {r : Result NodeMeta Refusal} → t ≡ ltb node_ports (i + o) → t ≡ false → r ≡ block_found m n → r ≡ Err a → SetAs m (Err a) b
  set_refused_lem e h f g = let x = block_refused m n i o (length b) e h f g in (x.0, x.1, told_none (ltb-false _ _ (sym e ∙ h)) (sym g ∙ f))

-- a block that is there: the lower graph refuses, or has its new counts
module _ {m : MultiPortGraph} {n i o : ℕ} {k : NodeMeta} (h : Resizes m n k i o) (b : List ℕ) {b' : List ℕ} {low : PortGraph} {r : Result ℕ SetError} {c : Result ℕ Refusal}
    (f₁ : low ≡ (set_num_ports m.graph n i o (length b)).graph) (f₂ : r ≡ (set_num_ports m.graph n i o (length b)).answer) (j : b' ≡ moves_after m.graph n i o b) (told : c ≡ set_as r) where
  moves_are : b' ≡ moves_told m n i o b
  unfolding moves_told_under
  moves_are = rw h.seen j

  pub set_left : {a : Refusal} → c ≡ Err a → SetAs m n i o b (with_graph m low) (Err a) b'
  set_left z = let x = block_left h (length b) f₁ f₂ told z in (x.0, x.1, moves_are)

  pub set_done : {t : ℕ} {g : MultiPortGraph} → c ≡ Ok t → g ≡ remove_all (recounted m n low) (copies_dropped m k i o) → SetAs m n i o b g (Ok t) b'
  set_done z u = let x = block_done h (length b) f₁ f₂ told z u in (x.0, x.1, moves_are)
