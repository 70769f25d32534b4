-- When each refusal is given, in words about the model that the tables stand for; what stands in the table of refusals as a test
-- stands here as a fact. RefusedBy, Condition and leaves_prepared say it of every call.
use Rattle.std.specs.Prelude.{◌≡◌, Bool, true, false, ◌⊎◌, ℕ, ◌+◌, ◌*◌, ◌≤◌, ◌<◌, Option, Some, None, Result, Ok, Err}
use Rattle.port_tables.specs.Limits.{node_slots, port_slots, node_ports}
use Rattle.port_tables.specs.Entries.{port#}
use Rattle.portgraph.specs.Model as model
use Rattle.portgraph.specs.Model.{Model, nowhere, to, gone, slot_of, count_of, IsPort, Dead}
use Rattle.portgraph.specs.Meaning.{growth}
use Rattle.port_tables.specs.ResizeLinks.{round_up}
use Rattle.port_tables.specs.declared.direction.Direction.TheVariants.{Incoming}
use Rattle.port_tables.specs.declared.index.NodeIndex.{NodeIndex}
use Rattle.port_tables.specs.declared.index.PortIndex.{PortIndex}
use Rattle.port_tables.specs.declared.node_entry.NodeMeta.{NodeMeta}
use Rattle.multiportgraph.specs.Reading.{is_hidden}
use Rattle.theorems.specs.Book as book
use Rattle.theorems.specs.Book.{Call, AnswerOf}
use Rattle.multiportgraph.specs.WellFormed.{copy_place, BlockIs, Seen, lift, WireIn}
use Rattle.multiportgraph.specs.Ends.{EndOf}
use Rattle.port_tables.specs.Places.{Wire}
use Rattle.multiportgraph.specs.declared.multiportgraph.MultiPortGraph.{MultiPortGraph}
use Rattle.multi_tables.specs.declared.answers.SubportIndex.{SubportIndex}
use Rattle.multi_tables.specs.declared.answers.PortPlace.{PortPlace}
use Rattle.port_tables.specs.declared.release.Release.TheVariants.{Two}
use Rattle.multi_tables.specs.declared.answers.Refusal.{Refusal}
use Rattle.multi_tables.specs.declared.answers.Refusal.TheVariants.{BadOffset, TooManyPorts, UnknownNode, HiddenNode, MovesTooShort, UnknownPort, HiddenPort, UnknownOffset, NoRoom, UnknownSecondPort, IncompatibleDirections, AlreadyLinked, InputWired}
use Rattle.multiportgraph.specs.HiddenNodes.{ready, full, prepare}

-- Words.

-- the node table would grow past its limit where a node is added
abbrev pub NoSlot : Model → Type 0
NoSlot M = node_slots < M.node_len + growth 1 M.free_nodes

-- the port table would grow past its limit where a block of this size is taken
abbrev pub NoBlock : Model → ℕ → Type 0
NoBlock M size = port_slots < M.port_len + growth size (M.free_blocks size)

-- a port of a hidden node; a port of a block, at its place
abbrev pub OfHidden : MultiPortGraph → Model → ℕ → Type 0
OfHidden m M p = (x : model.InnerPlace) × IsPort M p x × (is_hidden m x.node ≡ true)

abbrev pub OfBlock : MultiPortGraph → Model → ℕ → model.InnerPlace → Type 0
OfBlock m M p x = Seen m M x × (slot_of M.node x ≡ p)

-- a port is split and has no such offset: the hidden node that hangs on it has at most so many subports
abbrev pub Lacks : MultiPortGraph → Model → model.InnerPlace → ℕ → Type 0
Lacks m M x o = (c : ℕ) × (is_hidden m c ≡ true) × (M.join (copy_place m c) ≡ to x) × (count_of (M.node c) x.side ≤ o)

-- a live input of a block already has a wire
abbrev pub WiredInput : MultiPortGraph → Model → ℕ → Type 0
WiredInput m M p = (x : model.InnerPlace) × OfBlock m M p x × (x.side ≡ Incoming) × (w : Wire) × (o : ℕ) × WireIn m M w × (w.into ≡ lift x o)

-- the graph is made for release 2, and a port named by either end of a link is such an input
abbrev pub Taken : MultiPortGraph → Model → ℕ → ℕ → Type 0
Taken m M a b = (m.release ≡ Two) × (WiredInput m M a ⊎ WiredInput m M b)

-- a number is no port, a port of a hidden node, or a port of a block
pub data PortIs (m : MultiPortGraph) (M : Model) (p : ℕ) : Type 0 where
  no_port : Dead M p → PortIs m M p
  hidden_port : OfHidden m M p → PortIs m M p
  block_port : (x : model.InnerPlace) → OfBlock m M p x → PortIs m M p

-- What each refusal means.

pub data AddRefused (M : Model) (incoming outgoing : ℕ) : Refusal → Type 0 where
  add_many : node_ports < incoming + outgoing → AddRefused M incoming outgoing TooManyPorts
  add_full : incoming + outgoing ≤ node_ports → NoSlot M ⊎ NoBlock M (incoming + outgoing) → AddRefused M incoming outgoing NoRoom

pub data RemoveRefused (m : MultiPortGraph) (M : Model) (n : ℕ) : Refusal → Type 0 where
  remove_unknown : M.node n ≡ gone → RemoveRefused m M n UnknownNode
  remove_hidden : is_hidden m n ≡ true → RemoveRefused m M n HiddenNode

-- a resize finds no room: the counts are others, do not fit within the block, and no new block is to be had
pub record NoNewBlock (M : Model) (k : NodeMeta) (incoming outgoing : ℕ) : Type 0 where
  pub other : incoming ≡ k.incoming → outgoing ≡ k.outgoing → ⊥
  pub away : 0 < incoming + outgoing → incoming + outgoing < k.capacity → ⊥
  pub full : NoBlock M (round_up (incoming + outgoing))

pub data SetRefused (m : MultiPortGraph) (M : Model) (n incoming outgoing room : ℕ) : Refusal → Type 0 where
  set_many : node_ports < incoming + outgoing → SetRefused m M n incoming outgoing room TooManyPorts
  set_gone : incoming + outgoing ≤ node_ports → M.node n ≡ gone → SetRefused m M n incoming outgoing room UnknownNode
  set_hidden : incoming + outgoing ≤ node_ports → is_hidden m n ≡ true → SetRefused m M n incoming outgoing room HiddenNode
  set_short : incoming + outgoing ≤ node_ports → (k : NodeMeta) → BlockIs m M n k → room < 3 * (k.incoming + k.outgoing) →
      SetRefused m M n incoming outgoing room MovesTooShort
  set_full : incoming + outgoing ≤ node_ports → (k : NodeMeta) → BlockIs m M n k → 3 * (k.incoming + k.outgoing) ≤ room →
      NoNewBlock M k incoming outgoing → SetRefused m M n incoming outgoing room NoRoom

-- of cutting a port, and of tidying it
pub data CutRefused (m : MultiPortGraph) (M : Model) (p : ℕ) : Refusal → Type 0 where
  cut_dead : Dead M p → CutRefused m M p (UnknownPort (port# p))
  cut_hidden : OfHidden m M p → CutRefused m M p (HiddenPort (port# p))

-- of cutting a subport, and of asking for its link
pub data SubRefused (m : MultiPortGraph) (M : Model) (p o : ℕ) : Refusal → Type 0 where
  sub_offset : 65534 < o → SubRefused m M p o BadOffset
  sub_dead : o ≤ 65534 → Dead M p → SubRefused m M p o (UnknownPort (port# p))
  sub_hidden : o ≤ 65534 → OfHidden m M p → SubRefused m M p o (HiddenPort (port# p))
  sub_lacks : o ≤ 65534 → (x : model.InnerPlace) → OfBlock m M p x → Lacks m M x o → SubRefused m M p o (UnknownOffset (port# p))

-- of linking two ports, with the graph that is left: 18 comes before 10, and 11 and 12 come after one or both ends are prepared
pub data LinkRefused (m : MultiPortGraph) (M : Model) (a b : ℕ) : MultiPortGraph → Refusal → Type 0 where
  link_first_dead : Dead M a → LinkRefused m M a b m (UnknownPort (port# a))
  link_first_hidden : OfHidden m M a → LinkRefused m M a b m (HiddenPort (port# a))
  link_second_hidden : (x : model.InnerPlace) → OfBlock m M a x → OfHidden m M b → LinkRefused m M a b m (HiddenPort (port# b))
  link_wired : (x : model.InnerPlace) → OfBlock m M a x → (OfHidden m M b → ⊥) → Taken m M a b → LinkRefused m M a b m InputWired
  link_first_full : (x : model.InnerPlace) → OfBlock m M a x → (OfHidden m M b → ⊥) → (Taken m M a b → ⊥) → prepare m a x.side ≡ full → LinkRefused m M a b m NoRoom
  link_second_full : (x y : model.InnerPlace) (m₁ : MultiPortGraph) (u o : ℕ) → OfBlock m M a x → OfBlock m M b y → (Taken m M a b → ⊥) →
      prepare m a x.side ≡ ready m₁ u o → prepare m₁ b y.side ≡ full → LinkRefused m M a b m NoRoom
  link_second_dead : (x : model.InnerPlace) (m₁ : MultiPortGraph) (u o : ℕ) → OfBlock m M a x → Dead M b → (Taken m M a b → ⊥) →
      prepare m a x.side ≡ ready m₁ u o → LinkRefused m M a b m₁ (UnknownSecondPort (port# b))
  link_one_side : (x y : model.InnerPlace) (m₁ m₂ : MultiPortGraph) (u o v r : ℕ) → OfBlock m M a x → OfBlock m M b y → (Taken m M a b → ⊥) →
      prepare m a x.side ≡ ready m₁ u o → prepare m₁ b y.side ≡ ready m₂ v r → x.side ≡ y.side →
      LinkRefused m M a b m₂ (IncompatibleDirections (port# u) (port# v) x.side)

-- of linking two ports and leaving no stub: after 18, 11 and 12 are settled on the graph handed in, 12 carries the ports as named, and 10 is
-- given where the link of ports gives it
pub data CleanRefused (m : MultiPortGraph) (M : Model) (a b : ℕ) : Refusal → Type 0 where
  clean_first_dead : Dead M a → CleanRefused m M a b (UnknownPort (port# a))
  clean_first_hidden : OfHidden m M a → CleanRefused m M a b (HiddenPort (port# a))
  clean_second_hidden : (x : model.InnerPlace) → OfBlock m M a x → OfHidden m M b → CleanRefused m M a b (HiddenPort (port# b))
  clean_wired : (x : model.InnerPlace) → OfBlock m M a x → (OfHidden m M b → ⊥) → Taken m M a b → CleanRefused m M a b InputWired
  clean_second_dead : (x : model.InnerPlace) → OfBlock m M a x → Dead M b → (Taken m M a b → ⊥) → CleanRefused m M a b (UnknownSecondPort (port# b))
  clean_one_side : (x y : model.InnerPlace) → OfBlock m M a x → OfBlock m M b y → (Taken m M a b → ⊥) → x.side ≡ y.side →
      CleanRefused m M a b (IncompatibleDirections (port# a) (port# b) x.side)
  clean_full : (x y : model.InnerPlace) → OfBlock m M a x → OfBlock m M b y → (x.side ≡ y.side → ⊥) → LinkRefused m M a b m NoRoom → CleanRefused m M a b NoRoom

-- two offsets that a call may name
abbrev pub Offsets : ℕ → ℕ → Type 0
Offsets o r = (o ≤ 65534) × (r ≤ 65534)

-- of linking two subports: 18 comes after 9; u and v are the inner ports of the two ends
pub data LinkSubRefused (m : MultiPortGraph) (M : Model) (p o q r : ℕ) : Refusal → Type 0 where
  sub_offsets : (Offsets o r → ⊥) → LinkSubRefused m M p o q r BadOffset
  sub_first_dead : Offsets o r → Dead M p → LinkSubRefused m M p o q r (UnknownPort (port# p))
  sub_first_hidden : Offsets o r → OfHidden m M p → LinkSubRefused m M p o q r (HiddenPort (port# p))
  sub_second_hidden : Offsets o r → (x : model.InnerPlace) → OfBlock m M p x → OfHidden m M q → LinkSubRefused m M p o q r (HiddenPort (port# q))
  sub_first_lacks : Offsets o r → (x : model.InnerPlace) → OfBlock m M p x → (OfHidden m M q → ⊥) → Lacks m M x o → LinkSubRefused m M p o q r (UnknownOffset (port# p))
  sub_second_lacks : Offsets o r → (x y : model.InnerPlace) → OfBlock m M p x → OfBlock m M q y → (Lacks m M x o → ⊥) → Lacks m M y r →
      LinkSubRefused m M p o q r (UnknownOffset (port# q))
  sub_wired : Offsets o r → (x : model.InnerPlace) → OfBlock m M p x → (OfHidden m M q → ⊥) → (Lacks m M x o → ⊥) →
      ((y : model.InnerPlace) → OfBlock m M q y → Lacks m M y r → ⊥) → Taken m M p q → LinkSubRefused m M p o q r InputWired
  sub_second_dead : Offsets o r → (x : model.InnerPlace) → OfBlock m M p x → Dead M q → (Lacks m M x o → ⊥) → (Taken m M p q → ⊥) → LinkSubRefused m M p o q r (UnknownSecondPort (port# q))
  sub_one_side : Offsets o r → (x y : model.InnerPlace) (u v : ℕ) → OfBlock m M p x → OfBlock m M q y → EndOf m M x o u → EndOf m M y r v →
      (Taken m M p q → ⊥) → x.side ≡ y.side → LinkSubRefused m M p o q r (IncompatibleDirections (port# u) (port# v) x.side)
  sub_first_linked : Offsets o r → (x y : model.InnerPlace) (u v : ℕ) → OfBlock m M p x → OfBlock m M q y → (e : EndOf m M x o u) (g : EndOf m M y r v) →
      (Taken m M p q → ⊥) → (x.side ≡ y.side → ⊥) → (M.join e.end ≡ nowhere → ⊥) → LinkSubRefused m M p o q r (AlreadyLinked (port# u))
  sub_second_linked : Offsets o r → (x y : model.InnerPlace) (u v : ℕ) → OfBlock m M p x → OfBlock m M q y → (e : EndOf m M x o u) (g : EndOf m M y r v) →
      (Taken m M p q → ⊥) → (x.side ≡ y.side → ⊥) → M.join e.end ≡ nowhere → (M.join g.end ≡ nowhere → ⊥) → LinkSubRefused m M p o q r (AlreadyLinked (port# v))

-- an answer of a link that refuses has the condition listed
abbrev pub LinkSays : (Refusal → Type 0) → Result (SubportIndex × SubportIndex) Refusal → Type 0
LinkSays T (Ok (s, t)) = Unit {0}
LinkSays T (Err r) = T r

-- an answer of a cut or of a lookup that refuses has the condition listed
abbrev pub CutSays : (Refusal → Type 0) → Result (Option (SubportIndex × PortPlace)) Refusal → Type 0
CutSays T (Ok (Some (s, x))) = Unit {0}
CutSays T (Ok None) = Unit {0}
CutSays T (Err r) = T r

-- an answer of a tidy that refuses has the condition listed
abbrev pub TidySays : (Refusal → Type 0) → Result (Unit {0}) Refusal → Type 0
TidySays T (Ok tt) = Unit {0}
TidySays T (Err r) = T r

-- Every call.

-- an answer is this refusal
abbrev pub RefusedBy : (c : Call) → AnswerOf c → Refusal → Type 0
RefusedBy (book.add_call i o) v r = v ≡ Err r
RefusedBy (book.remove_call n) v r = v ≡ Err r
RefusedBy (book.set_call n i o room) v r = v ≡ Err r
RefusedBy (book.link_call a b) v r = v ≡ Err r
RefusedBy (book.link_clean_call a b) v r = v ≡ Err r
RefusedBy (book.link_sub_call p o q s) v r = v ≡ Err r
RefusedBy (book.cut_call p) v r = v ≡ Err r
RefusedBy (book.cut_sub_call p o) v r = v ≡ Err r
RefusedBy (book.tidy_call p) v r = v ≡ Err r

-- an answer says that the call is done
abbrev pub Accepted : (c : Call) → AnswerOf c → Type 0
Accepted (book.add_call i o) v = (n : NodeIndex) × (p : PortIndex) × (v ≡ Ok (n, p))
Accepted (book.remove_call n) v = v ≡ Ok tt
Accepted (book.set_call n i o room) v = (e : ℕ) × (v ≡ Ok e)
Accepted (book.link_call a b) v = (s : SubportIndex) × (t : SubportIndex) × (v ≡ Ok (s, t))
Accepted (book.link_clean_call a b) v = (s : SubportIndex) × (t : SubportIndex) × (v ≡ Ok (s, t))
Accepted (book.link_sub_call p o q r) v = (s : SubportIndex) × (t : SubportIndex) × (v ≡ Ok (s, t))
Accepted (book.cut_call p) v = ((s : SubportIndex) × (x : PortPlace) × (v ≡ Ok (Some (s, x)))) ⊎ (v ≡ Ok None)
Accepted (book.cut_sub_call p o) v = ((s : SubportIndex) × (x : PortPlace) × (v ≡ Ok (Some (s, x)))) ⊎ (v ≡ Ok None)
Accepted (book.tidy_call p) v = v ≡ Ok tt

-- the condition of a refusal of a call
abbrev pub Condition : MultiPortGraph → Model → Call → Refusal → Type 0
Condition m M (book.add_call i o) r = AddRefused M i o r
Condition m M (book.remove_call n) r = RemoveRefused m M n r
Condition m M (book.set_call n i o room) r = SetRefused m M n i o room r
Condition m M (book.link_call a b) r = (h : MultiPortGraph) × LinkRefused m M a b h r
Condition m M (book.link_clean_call a b) r = CleanRefused m M a b r
Condition m M (book.link_sub_call p o q s) r = LinkSubRefused m M p o q s r
Condition m M (book.cut_call p) r = CutRefused m M p r
Condition m M (book.cut_sub_call p o) r = SubRefused m M p o r
Condition m M (book.tidy_call p) r = CutRefused m M p r

-- the refusals that come after an end is prepared, where ports are linked
abbrev pub comes_late : Refusal → Bool
comes_late BadOffset = false
comes_late TooManyPorts = false
comes_late UnknownNode = false
comes_late HiddenNode = false
comes_late MovesTooShort = false
comes_late (UnknownPort p) = false
comes_late (HiddenPort p) = false
comes_late (UnknownOffset p) = false
comes_late NoRoom = false
comes_late (UnknownSecondPort p) = true
comes_late (IncompatibleDirections p q d) = true
comes_late (AlreadyLinked p) = false
comes_late InputWired = false

abbrev pub leaves_prepared : Call → Refusal → Bool
leaves_prepared (book.add_call i o) r = false
leaves_prepared (book.remove_call n) r = false
leaves_prepared (book.set_call n i o room) r = false
leaves_prepared (book.link_call a b) r = comes_late r
leaves_prepared (book.link_clean_call a b) r = false
leaves_prepared (book.link_sub_call p o q s) r = false
leaves_prepared (book.cut_call p) r = false
leaves_prepared (book.cut_sub_call p o) r = false
leaves_prepared (book.tidy_call p) r = false

-- at a node the conditions are those of removing a block: 4 if it is not live, 5 if it is hidden
abbrev pub NodeRefused : MultiPortGraph → Model → ℕ → Refusal → Type 0
NodeRefused m M n r = RemoveRefused m M n r

-- at a port those of cutting it: 7 if it is not live, 8 if it is a hidden node's
abbrev pub PortRefused : MultiPortGraph → Model → ℕ → Refusal → Type 0
PortRefused m M p r = CutRefused m M p r

-- from one node to another
pub data BetweenRefused (m : MultiPortGraph) (M : Model) (n k : ℕ) : Refusal → Type 0 where
  between_unknown : (M.node n ≡ gone) ⊎ (M.node k ≡ gone) → BetweenRefused m M n k UnknownNode
  between_hidden : (M.node n ≡ gone → ⊥) → (M.node k ≡ gone → ⊥) → (is_hidden m n ≡ true) ⊎ (is_hidden m k ≡ true) → BetweenRefused m M n k HiddenNode

-- a number is no node, a hidden node, or a block
pub data NodeIs (m : MultiPortGraph) (M : Model) (n : ℕ) : Type 0 where
  no_node : M.node n ≡ gone → NodeIs m M n
  hidden_node : is_hidden m n ≡ true → NodeIs m M n
  block_node : (k : NodeMeta) → BlockIs m M n k → NodeIs m M n
