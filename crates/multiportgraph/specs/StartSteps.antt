-- What the steps of the starts of walks amount to, over plain values.
use Rattle.multi_tables.specs.declared.scans.Held.{Held}
use Rattle.std.specs.Prelude.{◌≡◌, Bool, false, ℕ, length, List, Option, Some, None, Result, Ok, Err}
use Rattle.std.proofs.Math.Path.{refl, ap}
use Rattle.std.proofs.Common.{sym, ◌∙◌, true≢false}
use Rattle.std.proofs.Math.Bool.{true, cond}
use Rattle.std.proofs.lemmas.Bool.{false≢true}
use Rattle.std.specs.Result.{is_ok, result_ok, IsErrAnd}
use Rattle.port_tables.specs.TableSteps.{passed_on, with_numbers}
use Rattle.port_tables.specs.Limits.{node_slots}
use Rattle.portgraph.specs.Lookups.{contains_node}
use Rattle.multiportgraph.specs.Reading.{is_hidden, seen}
use Rattle.multi_tables.specs.Forms.{Port, dead, hidden, visible, flag_at}
use Rattle.multi_tables.specs.FormSteps.{flag_is}
use Rattle.multi_tables.specs.NamedEnds.{block_or, block_port}
use Rattle.multi_tables.specs.NamedEndSteps as tables
use Rattle.multi_tables.specs.NamedEndSteps.{ok_told, err_told, block_seen, block_found, read_ok}
use Rattle.multi_tables.specs.TableReads.{seen_in}
use Rattle.multiportgraph.specs.TableReadLaws.{seen_read}
use Rattle.port_tables.specs.Entries.{port#}
use Rattle.port_tables.specs.declared.direction.Direction.{Direction}
use Rattle.port_tables.specs.declared.index.NodeIndex.{NodeIndex}
use Rattle.multi_tables.specs.declared.answers.Refusal.{Refusal}
use Rattle.multiportgraph.specs.Lookups.{contains_port_of, node_seen, node_of, direction_seen, direction_of, offset_seen, offset_of, fan_out_seen, port_fan_out}
use Rattle.port_tables.specs.declared.index.PortIndex.{PortIndex}
use Rattle.multiportgraph.specs.Walks.{port_links_from, is_seen, Start, started, refused, start_at_node, start_between, start_seen, start_at_port}
use Rattle.multiportgraph.specs.declared.multiportgraph.MultiPortGraph.{MultiPortGraph}
use Rattle.multi_tables.specs.declared.answers.Refusal.TheVariants.{UnknownNode, HiddenNode, UnknownPort, HiddenPort}

-- what is returned where a refusal is passed on, and its numbers
pub passed_told : {T E : Type 0} (numbers : Result T E → List ℕ) {e : E} {x : Result T E} (r : Result T E) → IsErrAnd r (λ y. y ≡ e) → Err e ≡ x → (r ≡ x) × (numbers r ≡ numbers x)
passed_told numbers r h k = with_numbers numbers (passed_on h ∙ k)

seen_is_ok : (p : ℕ) (s : Port) → is_ok (block_or p s) ≡ is_seen s
seen_is_ok p dead = refl
seen_is_ok p hidden = refl
seen_is_ok p (visible n d) = refl

-- a port that is not refused is seen
pub port_is_ok : (owners : List ℕ) (flags : List Bool) (p : ℕ) → is_ok (block_port owners flags p) ≡ is_seen (seen_in owners flags p)
port_is_ok owners flags p = ap is_ok (sym (block_seen owners flags p (seen_in owners flags p) refl)) ∙ seen_is_ok p (seen_in owners flags p)

pub seen_told : (owners : List ℕ) (flags : List Bool) (p : ℕ) {b : Result (NodeIndex × Direction) Refusal} {t : Bool} → b ≡ block_port owners flags p → t ≡ is_ok b → t ≡ is_seen (seen_in owners flags p)
seen_told owners flags p e k = k ∙ (ap is_ok e ∙ port_is_ok owners flags p)

module _ (m : MultiPortGraph) where
  -- a port that is refused is refused alike by all that refuse 7 and 8; one that is not is of a block
  module _ (p : ℕ) (long : length m.copy_node ≡ node_slots) where
    pub seen_refused : {A : Type 0} (v : Refusal → A) (f : Port → A) (r : Refusal) → f dead ≡ v (UnknownPort (port# p)) → f hidden ≡ v (HiddenPort (port# p))
        → block_port m.graph.port_meta m.copy_node p ≡ Err r → v r ≡ f (seen m p)
    seen_refused v f r g h e = tables.refused_as p v f (seen m p) r g h (block_seen m.graph.port_meta m.copy_node p _ (seen_read m long p) ∙ e)

    block_told : {A : Type 0} (f : Port → Result A Refusal) (r : Refusal) → f dead ≡ Err (UnknownPort (port# p)) → f hidden ≡ Err (HiddenPort (port# p))
        → block_port m.graph.port_meta m.copy_node p ≡ Err r → Err r ≡ f (seen m p)
    block_told = seen_refused Err

    pub node_refused : (r : Refusal) → block_port m.graph.port_meta m.copy_node p ≡ Err r → Err r ≡ node_of m p
    unfolding node_of
    node_refused r e = block_told (node_seen p) r refl refl e

    pub direction_refused : (r : Refusal) → block_port m.graph.port_meta m.copy_node p ≡ Err r → Err r ≡ direction_of m p
    unfolding direction_of
    direction_refused r e = block_told (direction_seen p) r refl refl e

    pub offset_refused : (r : Refusal) → block_port m.graph.port_meta m.copy_node p ≡ Err r → Err r ≡ offset_of m p
    unfolding offset_of
    offset_refused r e = block_told (offset_seen m p) r refl refl e

    pub fan_out_refused : (r : Refusal) → block_port m.graph.port_meta m.copy_node p ≡ Err r → Err r ≡ port_fan_out m p
    unfolding port_fan_out
    fan_out_refused r e = block_told (fan_out_seen m p) r refl refl e

    pub block_is : (n : NodeIndex) (d : Direction) → block_port m.graph.port_meta m.copy_node p ≡ Ok (n, d) → seen m p ≡ visible n.0 d
    block_is n d e = sym (seen_read m long p) ∙ block_found m.graph.port_meta m.copy_node p n d e

    pub block_is_seen : is_ok (block_port m.graph.port_meta m.copy_node p) ≡ is_seen (seen m p)
    block_is_seen = port_is_ok m.graph.port_meta m.copy_node p ∙ ap is_seen (seen_read m long p)

    pub contains_told : {b : Result (NodeIndex × Direction) Refusal} {t : Bool} → b ≡ block_port m.graph.port_meta m.copy_node p → t ≡ is_ok b → t ≡ contains_port_of m p
    unfolding contains_port_of
    contains_told e k = k ∙ (ap is_ok e ∙ block_is_seen)

    pub block_unseen : {A : Type 0} (f : Port → A) (z : A) (r : Refusal) → f dead ≡ z → f hidden ≡ z → block_port m.graph.port_meta m.copy_node p ≡ Err r → f (seen m p) ≡ z
    block_unseen f z r g h e = ap f (sym (seen_read m long p)) ∙ tables.block_unseen m.graph.port_meta m.copy_node p f z r g h e

    -- where a step is left since the port is refused, it gives what a dead and a hidden port give alike
    pub block_unread : {A : Type 0} (f : Port → A) {z : A} {b : Result (NodeIndex × Direction) Refusal} {o : Option (NodeIndex × Direction)} → f dead ≡ z → f hidden ≡ z
        → b ≡ block_port m.graph.port_meta m.copy_node p → o ≡ result_ok b → o ≡ None → f (seen m p) ≡ z
    block_unread f {z} g h e k n = let r = err_told _ k n in block_unseen f z r.0 g h (sym e ∙ r.1)

    -- and where it goes on, the port is of a block
    pub block_read : {n : NodeIndex} {d : Direction} {b : Result (NodeIndex × Direction) Refusal} {o : Option (NodeIndex × Direction)} → b ≡ block_port m.graph.port_meta m.copy_node p → o ≡ result_ok b → o ≡ Some (n, d)
        → seen m p ≡ visible n.0 d
    block_read {n} {d} e k s = block_is n d (read_ok e k s)

  pub start_port : (p : ℕ) (s : Port) → seen m p ≡ s → start_seen p s ≡ start_at_port m p
  unfolding start_at_port
  start_port p s e = ap (start_seen p) (sym e)

  -- from one node to another, by whether they are there and hidden
  abbrev pub between_by : Bool → Bool → Bool → Bool → Start
  between_by a b h g = cond a (cond b (cond h (refused HiddenNode) (cond g (refused HiddenNode) started)) (refused UnknownNode)) (refused UnknownNode)

  between_by_lem : (a b h g : Bool) → between_by a b h g ≡ cond a (cond b (cond h (refused HiddenNode) (cond b (cond g (refused HiddenNode) started) (refused UnknownNode))) (refused UnknownNode)) (refused UnknownNode)
  between_by_lem a true h g = refl
  between_by_lem a false h g = refl

  pub start_between_lem : (n k : ℕ) (a b h g : Bool) → contains_node m.graph n ≡ a → contains_node m.graph k ≡ b → is_hidden m n ≡ h → is_hidden m k ≡ g
      → between_by a b h g ≡ start_between m n k
  unfolding start_between start_at_node
  start_between_lem n k a b h g ea eb eh eg = rw (ea, eb, eh, eg) (between_by_lem a b h g)

  -- from one live node to another, by whether one of them is flagged
  module _ (n k : ℕ) {t : Bool} (ea : contains_node m.graph n ≡ true) (eb : contains_node m.graph k ≡ true) (long : length m.copy_node ≡ node_slots)
      (e : t ≡ cond (flag_at m.copy_node node_slots n) true (flag_at m.copy_node node_slots k)) where
    told : t ≡ cond (is_hidden m n) true (is_hidden m k)
    unfolding is_hidden
    told = e ∙ (λ i. cond (flag_is m.copy_node node_slots n long i) true (flag_is m.copy_node node_slots k long i))

    pub start_hidden : t ≡ true → refused HiddenNode ≡ start_between m n k
    start_hidden f = go (is_hidden m n) (is_hidden m k) refl refl (sym told ∙ f)
      where
        go : (h g : Bool) → is_hidden m n ≡ h → is_hidden m k ≡ g → cond h true g ≡ true → refused HiddenNode ≡ start_between m n k
        go true g eh eg z = start_between_lem n k true true true g ea eb eh eg
        go false true eh eg z = start_between_lem n k true true false true ea eb eh eg
        go false false eh eg z = absurd (false≢true z)

    pub start_visible : t ≡ false → started ≡ start_between m n k
    start_visible f = go (is_hidden m n) (is_hidden m k) refl refl (sym told ∙ f)
      where
        go : (h g : Bool) → is_hidden m n ≡ h → is_hidden m k ≡ g → cond h true g ≡ false → started ≡ start_between m n k
        go true g eh eg z = absurd (true≢false z)
        go false true eh eg z = absurd (true≢false z)
        go false false eh eg z = start_between_lem n k true true false false ea eb eh eg

-- what a cursor holds at the start
pub held_first : {h : Held} → (h.port ≡ 0) × (h.offset ≡ 0) → h ≡ record { port = 0; offset = 0 }
held_first e = λ i. record { port = e.0 i; offset = e.1 i }

-- The start of a walk over the links of a port.

module _ (m : MultiPortGraph) (port : PortIndex) (long : length m.copy_node ≡ node_slots) where
  pub port_links_refused : {r : Refusal} → block_port m.graph.port_meta m.copy_node port.0 ≡ Err r → Err r ≡ port_links_from port (start_at_port m port.0)
  port_links_refused {r} e = block_told m port.0 long (λ s. port_links_from port (start_seen port.0 s)) r refl refl e ∙ ap (port_links_from port) (start_port m port.0 _ refl)

  pub port_links_made : {b : Result (NodeIndex × Direction) Refusal} {x : NodeIndex × Direction} → b ≡ block_port m.graph.port_meta m.copy_node port.0 → b ≡ Ok x → Ok (record { port = port; front = 0; back = 0 }) ≡ port_links_from port (start_at_port m port.0)
  port_links_made {x = x} e h = ap (port_links_from port) (start_port m port.0 _ (block_is m port.0 long x.0 x.1 (sym e ∙ h)))
