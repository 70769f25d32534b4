-- No block is ever split or joined: a block of a graph is a block afterwards, whoever has it. First what each change of the single-link
-- graph does to the blocks of its model; then every call of it; then every call of the multiport graph, which is made of these.
use Rattle.std.specs.Prelude.{◌≡◌, refl, Bool, true, false, cond, List, [], ◌∷◌, ◌⊎◌, ℕ, ◌+◌, ◌*◌, ◌≤◌, ◌<◌, eqb, leb, Option, Some, None, Result, Ok, Err}
use Rattle.std.proofs.Common.{sym, ◌∙◌, ap, subst, inl, inr, ⊎_elim, arith, eqb-true, ne_eqb, leb-true}
use Rattle.std.proofs.lemmas.Bool.{eqb-false}
use Rattle.port_tables.specs.Limits.{node_slots, port_slots, node_ports}
use Rattle.port_tables.specs.Lists.{Member}
use Rattle.portgraph.specs.Model.{Model, Slots, gone, live, Good, Holds, Wf}
use Rattle.portgraph.specs.Meaning.{upd, first_or, rest, growth, next_slot, next_block, give_block, add_model, remove_model, link_model, unlink_model, resize_model, move_model}
use Rattle.port_tables.specs.Entries.{meta_of}
use Rattle.portgraph.specs.GoodSlots.{gone_not_live, upd_elim, upd_same, upd_other, give_elim}
use Rattle.portgraph.specs.GoodLaws.{next_slot_gone, good_add, good_remove, good_resize, good_move}
use Rattle.portgraph.specs.Calls.{add_node, remove_node, link_ports, unlink_port}
use Rattle.portgraph.specs.Resize.{set_num_ports, set_by, refuse}
use Rattle.port_tables.specs.ResizeLinks.{round_up, same_counts, fits_inside}
use Rattle.portgraph.specs.ResizeSteps.{round_up_reaches, round_up_positive, round_up_fits, fits_below}
use Rattle.portgraph.specs.ResizeLaws.{plan_live, plan_where, set_law, wf_set}
use Rattle.portgraph.specs.InsideHolds.{inside_holds}
use Rattle.portgraph.specs.AnewHolds.{anew_holds}
use Rattle.portgraph.specs.LinkHolds.{LinkSays, UnlinkSays, link_law, unlink_law, wf_link, wf_unlink}
use Rattle.portgraph.specs.SlotHolds.{slot_room, block_room, add_where, add_law, place_holds, remove_slots, remove_law, free_holds, wf_add, wf_remove}
use Rattle.port_tables.specs.declared.node_entry.NodeMeta.{NodeMeta}
use Rattle.portgraph.specs.declared.portgraph.PortGraph.{PortGraph}
use Rattle.portgraph.specs.declared.alloc.NodeAdded.{NodeAdded}
use Rattle.portgraph.specs.declared.alloc.NodeRemoved.{NodeRemoved}
use Rattle.portgraph.specs.declared.resize.PortsSet.{PortsSet}
use Rattle.slots.specs.Blocks.{Holder, by_node, free, SlotBlock, slot_block, blocks_of}
use Rattle.slots.specs.BlockLaws.{Has, has_some, in_blocks, blocks_lent}
use Rattle.port_tables.specs.declared.index.PortIndex.{PortIndex}
use Rattle.portgraph.specs.declared.portgraph.NoSuchPort.{NoSuchPort}
use Rattle.portgraph.specs.declared.portgraph.LinkError.TheVariants as link_error
use Rattle.portgraph.specs.declared.resize.SetError.TheVariants as set_error
use Rattle.portgraph.specs.declared.portgraph.LinkError.{LinkError}

-- The model.

abbrev Keeps : Model → Model → Type 0
Keeps M N = (f k : ℕ) (h : Holder) → Has M f k h → (h' : Holder) × Has N f k h'

-- where a block of a size is taken, a free one stays free, or it is the one
pub taken_or_left : (blocks : ℕ → List ℕ) (len size k b : ℕ) → Member b (blocks k) →
    Member b (upd blocks size (rest (blocks size)) k) ⊎ ((b ≡ first_or len (blocks size)) × (k ≡ size))
taken_or_left blocks len size k b i =
    upd_elim (λ l. Member b l ⊎ ((b ≡ first_or len (blocks size)) × (k ≡ size))) blocks size (rest (blocks size)) k
    (λ e. first (blocks size) e (subst (λ (j : ℕ). Member b (blocks j)) e i)) (λ e. inl i)
  where
    first : (l : List ℕ) → k ≡ size → Member b l → Member b (rest l) ⊎ ((b ≡ first_or len l) × (k ≡ size))
    first [] e never = absurd never
    first (c ∷ l) e (inl q) = inr (q, e)
    first (c ∷ l) e (inr j) = inl j

-- where one is given back, a free one stays free, and it is free
pub given_stays : (blocks : ℕ → List ℕ) (first size k b : ℕ) → Member b (blocks k) → Member b (give_block blocks first size k)
given_stays blocks first size k b i = give_elim (Member b) blocks first size k (λ z e. inr (subst (λ (j : ℕ). Member b (blocks j)) e i)) i

pub given_is : (blocks : ℕ → List ℕ) (first size : ℕ) → 0 < size → Member first (give_block blocks first size size)
given_is blocks first size z = rw (ne_eqb size 0 (omega arith), upd_same) (inl refl)

-- the next block of a size that is not 0
next_is : (M : Model) (size : ℕ) → 0 < size → next_block M size ≡ first_or M.port_len (M.free_blocks size)
next_is M size z = rw (ne_eqb size 0 (omega arith))

-- a node with another value than n keeps its block
other_holds : (M N : Model) (n : ℕ) (v : Slots) → N.node ≡ upd M.node n v → (i f k : ℕ) → (i ≡ n → ⊥) → Has M f k (by_node i) → Has N f k (by_node i)
other_holds M N n v e i f k apart b = (b.0, ap (λ (node : ℕ → Slots). node i) e ∙ (upd_other M.node n v i apart ∙ b.1), b.2, b.3, b.4)

-- where the block of a node is given back, it is free
freed_is : (M : Model) (n : ℕ) (m : NodeMeta) → M.node n ≡ live m → (i f k : ℕ) → i ≡ n → Has M f k (by_node i) → (blocks : ℕ → List ℕ) → Member f (give_block blocks m.first_port.0 m.capacity k)
freed_is M n m here i f k e b blocks =
    let p = b.1 in
    let q : M.node i ≡ live m = ap M.node e ∙ here in
    let same : m ≡ b.0 = cc in
    let x : m.first_port.0 ≡ f = ap (λ (c : NodeMeta). c.first_port.0) same ∙ b.2 in
    let y : m.capacity ≡ k = ap (λ (c : NodeMeta). c.capacity) same ∙ b.3 in
    let z = b.4 in
    subst (λ (j : ℕ). Member j (give_block blocks m.first_port.0 m.capacity k)) x
    (subst (λ (j : ℕ). Member m.first_port.0 (give_block blocks m.first_port.0 m.capacity j)) y
    (given_is blocks m.first_port.0 m.capacity (omega arith)))

keeps_add : {M : Model} → Good M → (i o : ℕ) → Keeps M (add_model M i o)
keeps_add {M} good i o f k (by_node n) b =
    (by_node n, other_holds M (add_model M i o) (next_slot M) _ refl n f k (λ e. gone_not_live (ap M.node e ∙ next_slot_gone good) b.1) b)
keeps_add {M} good i o f k free b =
    ⊎_elim (λ h. (free, h))
    (λ h.
    let z = has_some good f k free b in
    let p = h.1 in (
      by_node (next_slot M),
      (meta_of (next_block M (i + o)) i o (i + o), upd_same M.node (next_slot M) _, next_is M (i + o) (omega arith) ∙ sym h.0, sym h.1, z),
    ))
    (taken_or_left M.free_blocks M.port_len (i + o) k f b)

keeps_remove : {M : Model} → Good M → (n : ℕ) (m : NodeMeta) → M.node n ≡ live m → Keeps M (remove_model M n m)
keeps_remove {M} good n m here f k free b = (free, given_stays M.free_blocks m.first_port.0 m.capacity k f b)
keeps_remove {M} good n m here f k (by_node i) b = go (eqb i n) refl
  where
    go : (t : Bool) → eqb i n ≡ t → (h : Holder) × Has (remove_model M n m) f k h
    go false e = (by_node i, other_holds M (remove_model M n m) n gone refl i f k (eqb-false i n e) b)
    go true e = (free, freed_is M n m here i f k (eqb-true i n e) b M.free_blocks)

abbrev recount : NodeMeta → ℕ → ℕ → NodeMeta
recount m incoming outgoing = meta_of m.first_port.0 incoming outgoing m.capacity

keeps_resize : (M : Model) (n : ℕ) (m : NodeMeta) → M.node n ≡ live m → (incoming outgoing : ℕ) → Keeps M (resize_model M n m incoming outgoing)
keeps_resize M n m here incoming outgoing f k free b = (free, b)
keeps_resize M n m here incoming outgoing f k (by_node i) b = go (eqb i n) refl
  where
    go : (t : Bool) → eqb i n ≡ t → (h : Holder) × Has (resize_model M n m incoming outgoing) f k h
    go false e = (by_node i, other_holds M (resize_model M n m incoming outgoing) n (live (recount m incoming outgoing)) refl i f k (eqb-false i n e) b)
    go true e =
        let p = b.1 in
        let q : M.node i ≡ live m = ap M.node (eqb-true i n e) ∙ here in
        let same : m ≡ b.0 = cc in (
          by_node i,
          (
            recount m incoming outgoing,
            ap (upd M.node n (live (recount m incoming outgoing))) (eqb-true i n e) ∙ upd_same M.node n (live (recount m incoming outgoing)),
            ap (λ (c : NodeMeta). c.first_port.0) same ∙ b.2,
            ap (λ (c : NodeMeta). c.capacity) same ∙ b.3,
            b.4,
          ),
        )

abbrev taken_from : (ℕ → List ℕ) → ℕ → ℕ → List ℕ
taken_from blocks size = upd blocks size (rest (blocks size))

keeps_move : {M : Model} → Good M → (n : ℕ) (m : NodeMeta) → M.node n ≡ live m → (incoming outgoing size : ℕ) → 0 < size → Keeps M (move_model M n m incoming outgoing size)
keeps_move {M} good n m here incoming outgoing size some f k free b =
    ⊎_elim (λ h. (free, given_stays _ m.first_port.0 m.capacity k f h))
    (λ h. (
      by_node n,
      (meta_of (next_block M size) incoming outgoing size, upd_same M.node n _, next_is M size some ∙ sym h.0, sym h.1, has_some good f k free b),
    ))
    (taken_or_left M.free_blocks M.port_len size k f b)
keeps_move {M} good n m here incoming outgoing size some f k (by_node i) b = go (eqb i n) refl
  where
    go : (t : Bool) → eqb i n ≡ t → (h : Holder) × Has (move_model M n m incoming outgoing size) f k h
    go false e = (by_node i, other_holds M (move_model M n m incoming outgoing size) n _ refl i f k (eqb-false i n e) b)
    go true e = (free, freed_is M n m here i f k (eqb-true i n e) b (taken_from M.free_blocks size))

-- Calls of the single-link graph.

-- every block of the one is a block of the other, whoever has it
abbrev pub KeepsBlocks : PortGraph → PortGraph → Type 0
KeepsBlocks g g' = (b : SlotBlock) → Member b (blocks_of g) → (h : Holder) × Member (slot_block b.first b.size h) (blocks_of g')

-- a graph of the calls leads to one that has every block of it
abbrev pub LeadsOn : PortGraph → PortGraph → Type 0
LeadsOn g g' = Wf g → Wf g' × KeepsBlocks g g'

pub leads_same : (g : PortGraph) → LeadsOn g g
leads_same g w = (w, (λ b i. (b.holder, i)))

pub leads_then : {a b c : PortGraph} → LeadsOn a b → LeadsOn b c → LeadsOn a c
leads_then p q w =
    let r = p w in
    let s = q r.0 in
    (s.0, (λ x i. let k = r.1 x i in s.1 (slot_block x.first x.size k.0) k.1))

by_models : {g g' : PortGraph} {M N : Model} → Good M → Holds g M → Good N → Holds g' N → Keeps M N → KeepsBlocks g g'
by_models good holds good' holds' keeps b i =
    let r = keeps b.first b.size b.holder (in_blocks good holds b i) in
    (r.0, blocks_lent good' holds' b.first b.size r.0 r.1)

same_keeps : (g : PortGraph) → KeepsBlocks g g
same_keeps g b i = (b.holder, i)

pub leads_add : (g : PortGraph) (i o : ℕ) → LeadsOn g (add_node g i o).graph
leads_add g i o w = (
  wf_add g i o w,
  subst (λ (v : NodeAdded). KeepsBlocks g v.graph) (sym (add_law w.good w.holds i o))
      (go (leb (i + o) node_ports) refl (slot_room w.model) refl (block_room w.model (i + o)) refl),
)
  where
    go : (a : Bool) → leb (i + o) node_ports ≡ a → (s : Bool) → slot_room w.model ≡ s → (b : Bool) → block_room w.model (i + o) ≡ b → KeepsBlocks g (add_where g w.model i o a s b).graph
    go true e true p true q =
        let few = leb-true (i + o) node_ports e in
        let slot = leb-true (w.model.node_len + growth 1 w.model.free_nodes) node_slots p in
        let block = leb-true (w.model.port_len + growth (i + o) (w.model.free_blocks (i + o))) port_slots q in
        by_models w.good w.holds (good_add w.good i o few slot block) (place_holds w.good w.holds i o few slot block) (keeps_add w.good i o)
    go true e true p false q = same_keeps g
    go true e false p b q = same_keeps g
    go false e s p b q = same_keeps g

pub leads_remove : (g : PortGraph) (n : ℕ) → LeadsOn g (remove_node g n).graph
leads_remove g n w =
    (wf_remove g n w, subst (λ (v : NodeRemoved). KeepsBlocks g v.graph) (sym (remove_law w.holds n)) (go (w.model.node n) refl))
  where
    go : (s : Slots) → w.model.node n ≡ s → KeepsBlocks g (remove_slots g n s).graph
    go gone e = same_keeps g
    go (live m) e = by_models w.good w.holds (good_remove w.good n m e) (free_holds w.good w.holds n m e) (keeps_remove w.good n m e)

pub leads_link : (g : PortGraph) (a b : ℕ) → LeadsOn g (link_ports g a b).graph
leads_link g a b w = (wf_link g a b w, go (link_ports g a b).graph (link_ports g a b).answer (link_law w.good w.holds a b))
  where
    go : (g' : PortGraph) (t : Result (PortIndex × PortIndex) LinkError) → LinkSays g w.model a b g' t → KeepsBlocks g g'
    go g' (Ok (p, q)) s = by_models w.good w.holds s.0.good s.0.holds (λ f k h x. (h, same f k h x))
      where
        same : (f k : ℕ) (h : Holder) → Has w.model f k h → Has (link_model w.model s.0.ends.first s.0.ends.second) f k h
        same f k (by_node n) x = x
        same f k free x = x
    go g' (Err (link_error.UnknownPort p)) s = subst (KeepsBlocks g) (sym s.0) (same_keeps g)
    go g' (Err (link_error.UnknownSecondPort q)) s = subst (KeepsBlocks g) (sym s.0) (same_keeps g)
    go g' (Err (link_error.IncompatibleDirections p q d)) s = subst (KeepsBlocks g) (sym s.0) (same_keeps g)
    go g' (Err (link_error.AlreadyLinked p)) s = subst (KeepsBlocks g) (sym s.0) (same_keeps g)

pub leads_unlink : (g : PortGraph) (p : ℕ) → LeadsOn g (unlink_port g p).graph
leads_unlink g p w = (wf_unlink g p w, go (unlink_port g p).graph (unlink_port g p).answer (unlink_law w.good w.holds p))
  where
    go : (g' : PortGraph) (t : Result (Option PortIndex) NoSuchPort) → UnlinkSays g w.model p g' t → KeepsBlocks g g'
    go g' (Ok (Some q)) s = by_models w.good w.holds s.good s.holds (λ f k h x. (h, same f k h x))
      where
        same : (f k : ℕ) (h : Holder) → Has w.model f k h → Has (unlink_model w.model s.near) f k h
        same f k (by_node n) x = x
        same f k free x = x
    go g' (Ok None) s = subst (KeepsBlocks g) (sym s.0) (same_keeps g)
    go g' (Err q) s = subst (KeepsBlocks g) (sym s.0) (same_keeps g)

pub leads_set : (g : PortGraph) (n i o room : ℕ) → LeadsOn g (set_num_ports g n i o room).graph
leads_set g n i o room w = (
  wf_set g n i o room w,
  subst (λ (v : PortsSet). KeepsBlocks g v.graph) (sym (set_law w.good w.holds n i o room)) (where_few (leb (i + o) node_ports) refl (w.model.node n) refl),
)
  where
    by_counts : (m : NodeMeta) → w.model.node n ≡ live m → i + o ≤ node_ports → (a b c : Bool) → fits_inside m i o ≡ b → block_room w.model (round_up (i + o)) ≡ c →
        KeepsBlocks g (set_by g n i o (plan_live w.model i o m a b c)).graph
    by_counts m e few true b c q r = same_keeps g
    by_counts m e few false true c q r =
        let fit = fits_below m i o q in
        by_models w.good w.holds (good_resize w.good n m e i o fit) (inside_holds w.good w.holds n m e i o fit) (keeps_resize w.model n m e i o)
    by_counts m e few false false true q r =
        let size = round_up (i + o) in
        let fit = round_up_reaches (i + o) in
        let some = round_up_positive (i + o) in
        let small = round_up_fits (i + o) few in
        let space = leb-true (w.model.port_len + growth (round_up (i + o)) (w.model.free_blocks (round_up (i + o)))) port_slots r in
        by_models w.good w.holds (good_move w.good n m e i o (round_up (i + o)) fit some small space)
        (anew_holds w.good w.holds n m e i o (round_up (i + o)) fit some small space) (keeps_move w.good n m e i o (round_up (i + o)) some)
    by_counts m e few false false false q r = same_keeps g

    by_room : (m : NodeMeta) → w.model.node n ≡ live m → i + o ≤ node_ports → (b : Bool) → KeepsBlocks g (set_by g n i o (cond b (plan_live w.model i o m (same_counts m i o) (fits_inside m i o) (block_room w.model (round_up (i + o)))) (refuse (Err set_error.MovesTooShort)))).graph
    by_room m e few true = by_counts m e few (same_counts m i o) (fits_inside m i o) (block_room w.model (round_up (i + o))) refl refl
    by_room m e few false = same_keeps g

    where_few : (a : Bool) → leb (i + o) node_ports ≡ a → (s : Slots) → w.model.node n ≡ s → KeepsBlocks g (set_by g n i o (plan_where w.model i o room a s)).graph
    where_few false q s e = same_keeps g
    where_few true q gone e = same_keeps g
    where_few true q (live m) e = by_room m e (leb-true (i + o) node_ports q) (leb (3 * (m.incoming + m.outgoing)) room)
