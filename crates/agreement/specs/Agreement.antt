-- What it is for an answer of the engine and one of the sketch, and for the two as they stand, to be alike. Left out of the comparison is what document 02
-- lists: listing order, steps of a cursor older than the last change, numbers that a refusal carries, and the offset that the cut of a whole port
-- answers; the sketch has no move list and no event count.
use Rattle.std.specs.Prelude.{◌≡◌, Bool, true, false, cond, List, [], ◌∷◌, map, ℕ, Option, Some, None, Result, Ok, Err}
use Rattle.port_tables.specs.Lists.{Member, Once}
use Rattle.portgraph.specs.Lookups.{num_ports}
use Rattle.port_tables.specs.declared.direction.Direction.{Direction}
use Rattle.port_tables.specs.declared.direction.Direction.TheVariants.{Outgoing}
use Rattle.port_tables.specs.declared.sides.Sides.{Sides}
use Rattle.multi_tables.specs.EndAnswers.{refusal_numbers}
use Rattle.multiportgraph.specs.Calls.{subport_link, visible_nodes, visible_ports, visible_links}
use Rattle.multiportgraph.specs.Lookups.{port_fan_out, node_fan_out}
use Rattle.port_tables.specs.Places.{Place, Wire, spot, far_from}
use Rattle.multiportgraph.specs.Reading.{is_hidden, seen}
use Rattle.multi_tables.specs.Forms.{hidden}
use Rattle.multiportgraph.specs.Walks.{Start, started, refused, start_at_node, start_between, start_at_port, port_links, node_links, neighbours, connections, subports_of}
use Rattle.multiportgraph.specs.Wires.{wires_walked, blocks}
use Rattle.multiportgraph.specs.declared.multiportgraph.MultiPortGraph.{MultiPortGraph}
use Rattle.multi_tables.specs.declared.answers.Refusal.{Refusal}
use Rattle.multi_tables.specs.declared.answers.Refusal.TheVariants.{NoRoom, MovesTooShort}
use Rattle.multi_tables.specs.declared.answers.PortPlace.{PortPlace}
use Rattle.multi_tables.specs.declared.answers.SubportIndex.{SubportIndex}
use Rattle.theorems.specs.Book as book
use Rattle.theorems.specs.Book.{Call, AnswerOf, spot_of}
use Rattle.theorems.specs.History.{step}
use Rattle.theorems.specs.Conditions.{RefusedBy}
use Rattle.theorems.specs.ListingClaims.{wire_from, OverSides}
use Rattle.sketches.specs.Plan.{has_block, ports_on_side, is_there}
use Rattle.sketches.specs.PlanNumbers.{reason_number}
use Rattle.sketches.specs.PlanCalls as sketch
use Rattle.sketches.specs.PlanLists as listed
use Rattle.sketches.specs.declared.sketch.SketchPort.{SketchPort}
use Rattle.sketches.specs.declared.sketch.SketchEnd.{SketchEnd}
use Rattle.sketches.specs.declared.sketch.Reason.{Reason}
use Rattle.sketches.specs.declared.sketch.Reason.TheVariants as reason
use Rattle.agreement.specs.Meaning.{PlanCall, add_plan, remove_plan, set_plan, link_plan, link_clean_plan, link_sub_plan, cut_plan, cut_sub_plan, tidy_plan, PlanAnswerOf, plan_step, Naming, Both, Pair, PortMeans, BlockMeans, Means, means_add, means_remove, means_set, means_link, means_link_clean, means_link_sub, means_cut, means_cut_sub, means_tidy}
use Rattle.port_tables.specs.declared.index.NodeIndex.{NodeIndex}
use Rattle.port_tables.specs.declared.index.PortIndex.{PortIndex}

-- Answers.

-- refused by the same number
abbrev pub SameNumber : Refusal → Reason → Type 0
SameNumber r q = (rest : List ℕ) × (refusal_numbers r ≡ reason_number q ∷ rest)

-- where an end stands: the block's name, side and position
pub record StandsAt (names : List Naming) (x : PortPlace) (y : SketchPort) : Type 0 where
  pub named : Member (record { node = x.node.0; name = y.block }) names
  pub side : x.side ≡ y.side
  pub position : x.position ≡ y.position

-- a live port of a block, and the port at the same side and position of the block with its name
abbrev pub SamePort : Both → ℕ → SketchPort → Type 0
SamePort b p x = (n : ℕ) × (spot_of b.kit.book.blocks p ≡ spot n x.side x.position) × Member (record { node = n; name = x.block }) b.names

-- an end as a link answers it and a walk lists it: the same port, with the same offset
abbrev pub EndMeans : Both → SubportIndex → SketchEnd → Type 0
EndMeans b s x = SamePort b s.port.0 x.port × (s.subport_offset ≡ x.offset)

abbrev pub LinkAlike : Both → Result (SubportIndex × SubportIndex) Refusal → Result (SketchEnd × SketchEnd) Reason → Type 0
LinkAlike b (Ok (s, t)) (Ok (x, y)) = EndMeans b s x × EndMeans b t y
LinkAlike b (Ok (s, t)) (Err q) = ⊥
LinkAlike b (Err r) (Ok (x, y)) = ⊥
LinkAlike b (Err r) (Err q) = SameNumber r q

-- of a whole port: the place without the offset
abbrev pub CutAlike : List Naming → Result (Option (SubportIndex × PortPlace)) Refusal → Result (Option SketchPort) Reason → Type 0
CutAlike l (Ok (Some (s, x))) (Ok (Some y)) = StandsAt l x y
CutAlike l (Ok (Some (s, x))) (Ok None) = ⊥
CutAlike l (Ok (Some (s, x))) (Err q) = ⊥
CutAlike l (Ok None) (Ok (Some y)) = ⊥
CutAlike l (Ok None) (Ok None) = Unit {0}
CutAlike l (Ok None) (Err q) = ⊥
CutAlike l (Err r) (Ok (Some y)) = ⊥
CutAlike l (Err r) (Ok None) = ⊥
CutAlike l (Err r) (Err q) = SameNumber r q

-- at an end: the place with the offset
abbrev pub EndAlike : List Naming → Result (Option (SubportIndex × PortPlace)) Refusal → Result (Option SketchEnd) Reason → Type 0
EndAlike l (Ok (Some (s, x))) (Ok (Some y)) = StandsAt l x y.port × (s.subport_offset ≡ y.offset)
EndAlike l (Ok (Some (s, x))) (Ok None) = ⊥
EndAlike l (Ok (Some (s, x))) (Err q) = ⊥
EndAlike l (Ok None) (Ok (Some y)) = ⊥
EndAlike l (Ok None) (Ok None) = Unit {0}
EndAlike l (Ok None) (Err q) = ⊥
EndAlike l (Err r) (Ok (Some y)) = ⊥
EndAlike l (Err r) (Ok None) = ⊥
EndAlike l (Err r) (Err q) = SameNumber r q

abbrev pub CountAlike : Result ℕ Refusal → Result ℕ Reason → Type 0
CountAlike (Ok n) (Ok k) = n ≡ k
CountAlike (Ok n) (Err q) = ⊥
CountAlike (Err r) (Ok k) = ⊥
CountAlike (Err r) (Err q) = SameNumber r q

-- Wires.

abbrev pub PlaceMeans : List Naming → Place → Place → Type 0
PlaceMeans l x y = Member (record { node = x.node; name = y.node }) l × (x.side ≡ y.side) × (x.pos ≡ y.pos) × (x.offset ≡ y.offset)

abbrev pub WireMeans : List Naming → Wire → Wire → Type 0
WireMeans l w v = PlaceMeans l w.out v.out × PlaceMeans l w.into v.into

-- two lists have the same wires under the names, each once
pub record WiresAlike (l : List Naming) (kit sketched : List Wire) : Type 0 where
  pub kit_once : Once kit
  pub sketch_once : Once sketched
  pub there : (w : Wire) → Member w kit → (v : Wire) × WireMeans l w v × Member v sketched
  pub back : (v : Wire) → Member v sketched → (w : Wire) × WireMeans l w v × Member w kit

-- What each pair of calls answers.

abbrev pub AddAlike : List Naming → Result (NodeIndex × PortIndex) Refusal → Result ℕ Reason → Type 0
AddAlike l (Ok (n, p)) (Ok k) = Member (record { node = n.0; name = k }) l
AddAlike l (Ok (n, p)) (Err q) = ⊥
AddAlike l (Err r) (Ok k) = ⊥
AddAlike l (Err r) (Err q) = SameNumber r q

abbrev pub RemoveAlike : Result (Unit {0}) Refusal → Result (Unit {0}) Reason → Type 0
RemoveAlike (Ok tt) (Ok u) = Unit {0}
RemoveAlike (Ok tt) (Err q) = ⊥
RemoveAlike (Err r) (Ok u) = ⊥
RemoveAlike (Err r) (Err q) = SameNumber r q

abbrev pub SetAlike : Result ℕ Refusal → Result (Unit {0}) Reason → Type 0
SetAlike (Ok e) (Ok u) = Unit {0}
SetAlike (Ok e) (Err q) = ⊥
SetAlike (Err r) (Ok u) = ⊥
SetAlike (Err r) (Err q) = SameNumber r q

abbrev pub TidyAlike : Result (Unit {0}) Refusal → Result (Unit {0}) Reason → Type 0
TidyAlike (Ok tt) (Ok u) = Unit {0}
TidyAlike (Ok tt) (Err q) = ⊥
TidyAlike (Err r) (Ok u) = ⊥
TidyAlike (Err r) (Err q) = SameNumber r q

-- the names that an add's answer is read with are those after the call
abbrev pub AnswersAlike : (b after : Both) {c : Call} {k : PlanCall} → Means b c k → AnswerOf c → PlanAnswerOf k → Type 0
AnswersAlike b after (means_add i o) v u = AddAlike after.names v u
AnswersAlike b after (means_remove n k m) v u = RemoveAlike v u
AnswersAlike b after (means_set n k i o room m) v u = SetAlike v u
AnswersAlike b after (means_link p q x y m l) v u = LinkAlike b v u
AnswersAlike b after (means_link_clean p q x y m l) v u = LinkAlike b v u
AnswersAlike b after (means_link_sub p o q r x y m l) v u = LinkAlike b v u
AnswersAlike b after (means_cut p x m) v u = CutAlike b.names v u
AnswersAlike b after (means_cut_sub p o x m) v u = EndAlike b.names v u
AnswersAlike b after (means_tidy p x m) v u = TidyAlike v u

-- an answer of the sketch is this refusal
abbrev pub PlanRefusedBy : (k : PlanCall) → PlanAnswerOf k → Reason → Type 0
PlanRefusedBy (add_plan i o) v r = v ≡ Err r
PlanRefusedBy (remove_plan n) v r = v ≡ Err r
PlanRefusedBy (set_plan n i o) v r = v ≡ Err r
PlanRefusedBy (link_plan x y) v r = v ≡ Err r
PlanRefusedBy (link_clean_plan x y) v r = v ≡ Err r
PlanRefusedBy (link_sub_plan x o y s) v r = v ≡ Err r
PlanRefusedBy (cut_plan x) v r = v ≡ Err r
PlanRefusedBy (cut_sub_plan x o) v r = v ≡ Err r
PlanRefusedBy (tidy_plan x) v r = v ≡ Err r

-- a call names no hidden node and none of its ports
abbrev pub NotHidden : MultiPortGraph → ℕ → Type 0
NotHidden m p = seen m p ≡ hidden → ⊥

abbrev pub NoneHidden : MultiPortGraph → ℕ → Type 0
NoneHidden m n = is_hidden m n ≡ true → ⊥

abbrev pub NamesNoHidden : MultiPortGraph → Call → Type 0
NamesNoHidden m (book.add_call i o) = Unit {0}
NamesNoHidden m (book.remove_call n) = NoneHidden m n
NamesNoHidden m (book.set_call n i o room) = NoneHidden m n
NamesNoHidden m (book.link_call p q) = NotHidden m p × NotHidden m q
NamesNoHidden m (book.link_clean_call p q) = NotHidden m p × NotHidden m q
NamesNoHidden m (book.link_sub_call p o q r) = NotHidden m p × NotHidden m q
NamesNoHidden m (book.cut_call p) = NotHidden m p
NamesNoHidden m (book.cut_sub_call p o) = NotHidden m p
NamesNoHidden m (book.tidy_call p) = NotHidden m p

-- the move list is long enough and neither refuses for space
pub record HasRoom (b : Both) (p : Pair) : Type 0 where
  pub moves : RefusedBy p.call (step b.kit.graph p.call).answer MovesTooShort → ⊥
  pub kit : RefusedBy p.call (step b.kit.graph p.call).answer NoRoom → ⊥
  pub sketched : PlanRefusedBy p.sketched (plan_step b.plan p.sketched).answer reason.NoRoom → ⊥

-- The two as they stand.

abbrev pub SameBlock : Both → ℕ → ℕ → Type 0
SameBlock b n k = Member (record { node = n; name = k }) b.names

-- a walk starts in both, or in neither and is refused by the same number
abbrev pub StartAlike : Start → Bool → Reason → Type 0
StartAlike started true q = Unit {0}
StartAlike started false q = ⊥
StartAlike (refused r) true q = ⊥
StartAlike (refused r) false q = SameNumber r q

-- two lists have the same blocks under the names, each once
pub record BlocksAlike (l : List Naming) (kit sketched : List ℕ) : Type 0 where
  pub kit_once : Once kit
  pub sketch_once : Once sketched
  pub there : (n : ℕ) → Member n kit → (k : ℕ) × Member (record { node = n; name = k }) l × Member k sketched
  pub back : (k : ℕ) → Member k sketched → (n : ℕ) × Member (record { node = n; name = k }) l × Member n kit

-- two lists of blocks, one for each of the same wires: the block of its far end from a side
abbrev pub FarAlike : List Naming → Direction → List ℕ → List ℕ → Type 0
FarAlike l d kit sketched =
    (ws : List Wire) × (vs : List Wire) × WiresAlike l ws vs × (kit ≡ map (λ w. (far_from d w).node) ws) × (sketched ≡ map (λ w. (far_from d w).node) vs)

-- one list goes along with another, item by item
abbrev pub Alongside : {A B : Type 0} → (A → B → Type 0) → List A → List B → Type 0
Alongside R [] [] = Unit {0}
Alongside R [] (y ∷ k) = ⊥
Alongside R (x ∷ l) [] = ⊥
Alongside R (x ∷ l) (y ∷ k) = R x y × Alongside R l k

-- What every call that reads answers, and what every walk from its start lists; a listed link is read as places.
pub record LooksAlike (b : Both) : Type 0 where
  pub release : b.plan.release ≡ b.kit.graph.release
  -- counts
  pub nodes : visible_nodes b.kit.graph ≡ listed.block_count b.plan
  pub ports : visible_ports b.kit.graph ≡ listed.port_count b.plan
  pub links : visible_links b.kit.graph ≡ listed.wire_count b.plan
  pub side_ports : (n k : ℕ) → SameBlock b n k → (d : Direction) → num_ports b.kit.graph.graph n d ≡ ports_on_side b.plan.blocks k d
  -- fan-outs
  pub fan_out : (p : ℕ) (x : SketchPort) → PortMeans b p x → CountAlike (port_fan_out b.kit.graph p) (listed.port_fan_out b.plan x)
  pub block_fan_out : (n k : ℕ) → BlockMeans b n k → CountAlike (node_fan_out b.kit.graph n) (listed.block_fan_out b.plan k)
  -- what an end is linked with
  pub asked : (p o : ℕ) (x : SketchPort) → PortMeans b p x → EndAlike b.names (subport_link b.kit.graph p o) (sketch.subport_link b.plan x o)
  -- starts of walks: 7, 4, and 4 for either block
  pub starts_at_port : (p : ℕ) (x : SketchPort) → PortMeans b p x → StartAlike (start_at_port b.kit.graph p) (is_there b.plan x) reason.UnknownPort
  pub starts_at_block : (n k : ℕ) → BlockMeans b n k → StartAlike (start_at_node b.kit.graph n) (has_block b.plan.blocks k) reason.UnknownBlock
  pub starts_between : (n k c j : ℕ) → BlockMeans b n k → BlockMeans b c j →
      StartAlike (start_between b.kit.graph n c) (cond (has_block b.plan.blocks k) (has_block b.plan.blocks j) false) reason.UnknownBlock
  -- walks
  pub blocks : BlocksAlike b.names (blocks b.kit.graph) (listed.block_names b.plan)
  pub wires : WiresAlike b.names (wires_walked b.kit.graph) b.plan.wires
  pub links_of_port : (p : ℕ) (x : SketchPort) → SamePort b p x →
      WiresAlike b.names (map (wire_from b.kit.graph x.side) (port_links b.kit.graph p)) (listed.links_of_port b.plan x)
  pub links_of_block : (n k : ℕ) → SameBlock b n k → (sides : Sides) →
      OverSides (λ d l. WiresAlike b.names (map (wire_from b.kit.graph d) l) (listed.links_of_side b.plan k d)) sides (node_links b.kit.graph n sides 0 0)
  pub neighbours : (n k : ℕ) → SameBlock b n k → (sides : Sides) (flag : Bool) →
      OverSides (λ d l. FarAlike b.names d l (listed.neighbours_of_side b.plan k d flag)) sides (neighbours b.kit.graph n sides flag)
  pub connections : (n k c j : ℕ) → SameBlock b n k → SameBlock b c j →
      WiresAlike b.names (map (wire_from b.kit.graph Outgoing) (connections b.kit.graph n c)) (listed.connections b.plan k j)
  pub subports : (n k : ℕ) → SameBlock b n k → (sides : Sides) →
      OverSides (λ d l. Alongside (EndMeans b) l (listed.subports_of_side b.plan k d)) sides (subports_of b.kit.graph n sides)
