-- Every call of the multiport graph keeps the blocks: it is made of calls of the single-link graph, each of which does. A new call is its
-- row in step_leads.
use Rattle.std.specs.Prelude.{◌≡◌, Bool, true, false, cond, List, [], ◌∷◌, ℕ, zero, suc, ◌+◌, ltb, Ok, Err, Result}
use Rattle.std.proofs.Math.Path.{refl, transport}
use Rattle.std.proofs.Common.{sym, ap, ◌∙◌, subst, ltb-true}
use Rattle.port_tables.specs.Limits.{present}
use Rattle.portgraph.specs.Lookups.{num_ports}
use Rattle.portgraph.specs.Model as model
use Rattle.portgraph.specs.Model.{Model, slot_of}
use Rattle.portgraph.specs.Calls.{add_node, link_ports}
use Rattle.portgraph.specs.Resize.{set_num_ports}
use Rattle.port_tables.specs.declared.direction.Direction.{Direction}
use Rattle.portgraph.specs.declared.portgraph.PortGraph.{PortGraph}
use Rattle.multiportgraph.specs.Reading.{is_split, has_link, copy_node, subports, subport_at, port_of, far_port}
use Rattle.multiportgraph.specs.Graph.{with_graph}
use Rattle.multiportgraph.specs.Tidy.{subports_left, drop_subports, link_directly, tidied}
use Rattle.multiportgraph.specs.TidyLaws.{left_within, within_is}
use Rattle.multiportgraph.specs.Cases.{link_refused}
use Rattle.multiportgraph.specs.CaseLaws.{add_cases, link_taken, link_clean_taken, link_sub_taken}
use Rattle.theorems.specs.CallCases.{remove_each, set_each, link_each, clean_each, link_sub_each, cut_each, cut_sub_each, tidy_each}
use Rattle.multi_tables.specs.declared.answers.Refusal.{Refusal}
use Rattle.multiportgraph.specs.WellFormed.{Fine, Seen}
use Rattle.multiportgraph.specs.Ends.{BlockPort, Hangs, block_seen, split_has_copy}
use Rattle.multiportgraph.specs.HiddenNodes.{remove_copy, unsplit, unsplit_range, remove_lone, remove_all, recounted, copies_dropped, Prepared, ready, full, copy_incoming, copy_outgoing, split_graph, split_port, split_by, split_under, lowest_free, more_incoming, more_outgoing, enough, grown_by, grow_under, reuse_under, prepare_under, prepare}
use Rattle.multiportgraph.specs.Refusals.{input_taken}
use Rattle.multiportgraph.specs.Calls.{drop_block, link_pair_if, link_clean_if, link_sub_if, tidy_port}
use Rattle.multiportgraph.specs.declared.multiportgraph.MultiPortGraph.{MultiPortGraph}
use Rattle.multiportgraph.specs.declared.multiportgraph.NodeAdded.{NodeAdded}
use Rattle.multiportgraph.specs.declared.multiportgraph.PortsLinked.{PortsLinked}
use Rattle.theorems.specs.Book as book
use Rattle.theorems.specs.Book.{Call}
use Rattle.theorems.specs.History.{step}
use Rattle.slots.specs.KeptLaws.{LeadsOn, leads_same, leads_then, leads_add, leads_remove, leads_link, leads_unlink, leads_set}
use Rattle.port_tables.specs.declared.node_entry.NodeMeta.{NodeMeta}
use Rattle.portgraph.specs.declared.alloc.AddError.TheVariants as add_error
use Rattle.portgraph.specs.declared.resize.SetError.TheVariants as set_error
use Rattle.port_tables.specs.declared.index.NodeIndex.{NodeIndex}
use Rattle.port_tables.specs.declared.index.PortIndex.{PortIndex}
use Rattle.portgraph.specs.declared.alloc.AddError.{AddError}
use Rattle.portgraph.specs.declared.resize.SetError.{SetError}

abbrev pub Leads : MultiPortGraph → MultiPortGraph → Type 0
Leads m m' = LeadsOn m.graph m'.graph

stays : (m : MultiPortGraph) → Leads m m
stays m = leads_same m.graph

-- Hidden nodes.

copy_leads : (m : MultiPortGraph) (p c : ℕ) → Leads m (remove_copy m p c)
unfolding remove_copy
copy_leads m p c = leads_remove m.graph c

pub unsplit_leads : (m : MultiPortGraph) (p : ℕ) → Leads m (unsplit m p)
unfolding unsplit
unsplit_leads m p = go (is_split m p)
  where
    go : (b : Bool) → Leads m (cond b (remove_copy m p (copy_node m p)) m)
    go true = copy_leads m p (copy_node m p)
    go false = stays m

range_leads : (n : ℕ) (m : MultiPortGraph) (p : ℕ) → Leads m (unsplit_range m p n)
unfolding unsplit_range
range_leads zero m p = stays m
range_leads (suc n) m p = leads_then (unsplit_leads m p) (range_leads n (unsplit m p) (suc p))

all_lead : (l : List ℕ) (m : MultiPortGraph) → Leads m (remove_all m l)
unfolding remove_all remove_lone
all_lead [] m = stays m
all_lead (c ∷ l) m = leads_then (copy_leads m _ c) (all_lead l (remove_lone m c))

-- Preparing an end.

abbrev PreparedOn : MultiPortGraph → Prepared → Type 0
PreparedOn m full = Unit {0}
PreparedOn m (ready m' q o) = Leads m m'

split_leads : (m : MultiPortGraph) (p : ℕ) (d : Direction) → PreparedOn m (split_under present m p d)
unfolding split_under split_port split_graph
split_leads m p d = go (add_node m.graph (copy_incoming d) (copy_outgoing d)).graph (add_node m.graph (copy_incoming d) (copy_outgoing d)).answer (leads_add m.graph (copy_incoming d) (copy_outgoing d))
  where
    go : (g : PortGraph) (a : Result (NodeIndex × PortIndex) AddError) → LeadsOn m.graph g → PreparedOn m (split_by m p d g a)
    go g (Ok (c, first)) h = leads_then h (leads_then (leads_unlink g p) (leads_then (leads_link _ p _) (leads_link _ _ _)))
    go g (Err add_error.TooManyPorts) h = tt
    go g (Err add_error.NoRoom) h = tt

grow_leads : (m : MultiPortGraph) (c : ℕ) (d : Direction) → PreparedOn m (grow_under present m c d)
unfolding grow_under recounted
grow_leads m c d =
    go (set_num_ports m.graph c (more_incoming m.graph c d) (more_outgoing m.graph c d) enough).graph (set_num_ports m.graph c (more_incoming m.graph c d) (more_outgoing m.graph c d) enough).answer
    (leads_set m.graph c (more_incoming m.graph c d) (more_outgoing m.graph c d) enough)
  where
    go : (g : PortGraph) (a : Result ℕ SetError) → LeadsOn m.graph g → PreparedOn m (grown_by m c d g a)
    go g (Ok e) h = h
    go g (Err set_error.TooManyPorts) h = tt
    go g (Err set_error.UnknownNode) h = tt
    go g (Err set_error.MovesTooShort) h = tt
    go g (Err set_error.NoRoom) h = tt

reuse_leads : (m : MultiPortGraph) (c : ℕ) (d : Direction) (o : ℕ) → PreparedOn m (reuse_under present m c d o)
unfolding reuse_under
reuse_leads m c d o = go (ltb o (num_ports m.graph c d))
  where
    go : (b : Bool) → PreparedOn m (cond b (ready m (port_of m.graph c d o) o) (grow_under present m c d))
    go true = stays m
    go false = grow_leads m c d

prepare_leads : (m : MultiPortGraph) (p : ℕ) (d : Direction) → PreparedOn m (prepare m p d)
unfolding prepare_under
prepare_leads m p d = go (is_split m p) (has_link m.graph p)
  where
    go : (a b : Bool) →
        PreparedOn m
        (cond a (reuse_under present m (copy_node m p) d (lowest_free m.graph (copy_node m p) d 0 (subports m p d)))
        (cond b (split_under present m p d) (ready m p 0)))
    go true b = reuse_leads m (copy_node m p) d (lowest_free m.graph (copy_node m p) d 0 (subports m p d))
    go false true = split_leads m p d
    go false false = stays m

-- the graph after an end that is prepared
ready_leads : (m : MultiPortGraph) (p : ℕ) (d : Direction) {m' : MultiPortGraph} {x o : ℕ} → prepare m p d ≡ ready m' x o → Leads m m'
ready_leads m p d e = subst (PreparedOn m) e (prepare_leads m p d)

-- Calls.

module _ (m : MultiPortGraph) where
  drop_leads : (n : ℕ) (k : NodeMeta) → Leads m (drop_block m n k)
  unfolding drop_block
  drop_leads n k = leads_then (range_leads (k.incoming + k.outgoing) m k.first_port.0) (leads_remove _ n)

  resize_leads : (n i o room : ℕ) (k : NodeMeta) → Leads m (remove_all (recounted m n (set_num_ports m.graph n i o room).graph) (copies_dropped m k i o))
  unfolding recounted
  resize_leads n i o room k = leads_then (leads_set m.graph n i o room) (all_lead (copies_dropped m k i o) (recounted m n (set_num_ports m.graph n i o room).graph))

  -- without 18,
  link_leads : (a b : ℕ) → Leads m (link_pair_if false present m a b).graph
  link_leads a b =
      link_each m (λ v. Leads m v.graph) a b (λ z w. stays m) (λ n d s m₁ x o g z w. ready_leads m a d g)
      (λ n d s k e t m₁ x o g m₂ y r h. let both = leads_then (ready_leads m a d g) (ready_leads m₁ b e h) in ((λ z w. both), leads_then both (leads_link _ _ _)))

  -- and with it
  taken_leads : (link : Bool → PortsLinked) {z : Refusal} → link true ≡ link_refused m z → Leads m (link false).graph → (taken : Bool) → Leads m (link taken).graph
  taken_leads link e h true = subst (λ (v : PortsLinked). Leads m v.graph) (sym e) (stays m)
  taken_leads link e h false = h

  pub direct_leads : (p : ℕ) (d : Direction) → Leads m (link_directly m p d)
  unfolding link_directly
  direct_leads p d = go (has_link m.graph (subport_at m p d 0))
    where
      go : (b : Bool) → Leads m (cond b (with_graph (unsplit m p) (link_ports (unsplit m p).graph p (far_port m.graph (subport_at m p d 0))).graph) (unsplit m p))
      go true = leads_then (unsplit_leads m p) (leads_link _ _ _)
      go false = unsplit_leads m p

module _ {m : MultiPortGraph} {M : Model} (f : Fine m M) where
  -- a tidied port: its hidden node is resized within its block, or goes
  tidied_leads : (x : model.InnerPlace) → Seen m M x → is_split m (slot_of M.node x) ≡ true → Leads m (tidied m (slot_of M.node x) x.side)
  unfolding tidied drop_subports recounted
  tidied_leads x seen-x split-x = go (ltb 1 (subports_left m (slot_of M.node x) x.side)) refl
    where
      h : Hangs m M x
      h = split_has_copy f x seen-x split-x

      go : (b : Bool) → ltb 1 (subports_left m (slot_of M.node x) x.side) ≡ b →
          Leads m
          (cond b (drop_subports m (copy_node m (slot_of M.node x)) x.side (subports_left m (slot_of M.node x) x.side)) (link_directly m (slot_of M.node x) x.side))
      go true e =
          subst (λ (c : ℕ). Leads m (drop_subports m c x.side (subports_left m (slot_of M.node x) x.side))) (sym h.copy_is)
          (subst (LeadsOn m.graph) (sym (within_is (left_within f x seen-x h (ltb-true 1 (subports_left m (slot_of M.node x) x.side) e)))) (leads_set m.graph h.copy _ _ enough))
      go false e = direct_leads m (slot_of M.node x) x.side

  tidy_leads : (p : ℕ) → Leads m (tidy_port m p).graph
  tidy_leads p = tidy_each m (λ v. Leads m v.graph) p (λ z w. stays m) (λ n d e. marks n d (block_seen f p n d e))
    where
      marks : (n : ℕ) (d : Direction) → BlockPort m M p n d → (b : Bool) → is_split m p ≡ b → Leads m (cond b (tidied m p d) m)
      marks n d b true e = transport (λ i. Leads m (tidied m (b.slot i) (b.side i))) (tidied_leads b.place b.is_seen (ap (is_split m) b.slot ∙ e))
      marks n d b false e = stays m

  pub step_leads : (c : Call) → Leads m (step m c).graph
  step_leads (book.add_call i o) = subst (λ (v : NodeAdded). Leads m v.graph) (sym (add_cases present m i o)) (leads_add m.graph i o)
  step_leads (book.remove_call n) = remove_each m (λ v. Leads m v.graph) n (λ z w. stays m) (λ k h. drop_leads m n k)
  step_leads (book.set_call n i o room) = set_each m (λ v. Leads m v.graph) n i o room (λ z w. stays m) (λ k e h q. resize_leads m n i o room k)
  step_leads (book.link_call a b) = taken_leads m (λ t. link_pair_if t present m a b) (link_taken present m a b) (link_leads m a b) (input_taken m a b)
  step_leads (book.link_clean_call a b) =
      taken_leads m (λ t. link_clean_if t present m a b) (link_clean_taken present m a b) (clean_each m (λ v. Leads m v.graph) a b (λ z w. stays m) (link_leads m a b)) (input_taken m a b)
  step_leads (book.link_sub_call p o q r) =
      taken_leads m (λ t. link_sub_if t m p o q r) (link_sub_taken m p o q r) (link_sub_each m (λ v. Leads m v.graph) p o q r (λ z w. stays m) (λ x y. leads_link m.graph x y)) (input_taken m p q)
  step_leads (book.cut_call p) = cut_each m (λ v. Leads m v.graph) p (λ z w. stays m) (unsplit_leads m p) (leads_unlink m.graph p)
  step_leads (book.cut_sub_call p o) = cut_sub_each m (λ v. Leads m v.graph) p o (λ z w. stays m) (λ x. leads_unlink m.graph x)
  step_leads (book.tidy_call p) = tidy_leads p
