-- The calls under two limits: under the lower ones a call does the same, or it is refused with 10 and changes nothing; under the higher ones it
-- is then not refused with 10, and a used length is past the lower limits. No call passes its own limits.
use Rattle.std.specs.Prelude.{◌≡◌, Bool, cond, List, [], ◌∷◌, ◌⊎◌, ℕ, zero, suc, ◌+◌, leb, ltb, Option, Some, None, Result, Ok, Err}
use Rattle.std.proofs.Math.Path.{refl}
use Rattle.std.proofs.Common.{sym, ap, ◌∙◌, subst, inr}
use Rattle.std.proofs.Math.Bool.{true, false}
use Rattle.std.proofs.Math.Logic.{inl}
use Rattle.port_tables.specs.Limits.{node_ports, Limits}
use Rattle.port_tables.specs.Entries.{reversed, port#, same_side}
use Rattle.portgraph.specs.Lookups.{meta_at, num_ports}
use Rattle.portgraph.specs.Calls.{add_node_under, link_ports, unlink_port}
use Rattle.portgraph.specs.Resize.{resize_inside, set_num_ports_under}
use Rattle.port_tables.specs.ResizeLinks.{same_counts}
use Rattle.portgraph.specs.GoodSlots.{zero_is_not_one}
use Rattle.port_tables.specs.declared.direction.Direction.{Direction}
use Rattle.port_tables.specs.declared.node_entry.NodeMeta.{NodeMeta}
use Rattle.portgraph.specs.declared.portgraph.PortGraph.{PortGraph}
use Rattle.portgraph.specs.declared.alloc.NodeAdded as lower_added
use Rattle.portgraph.specs.declared.resize.PortsSet as lower_set_done
use Rattle.multiportgraph.specs.Reading.{has_link, is_hidden, is_split, seen, side_of, copy_node, subports, subport_at, port_of, far_port, as_read, standing}
use Rattle.multi_tables.specs.Forms.{Port, dead, hidden, visible, subport#}
use Rattle.multiportgraph.specs.Graph.{with_graph}
use Rattle.multiportgraph.specs.HiddenNodes.{remove_copy, unsplit, unsplit_range, recounted, copies_dropped, remove_lone, remove_all, Prepared, ready, full, copy_incoming, copy_outgoing, split_graph, split_port, split_by, split_under, more_incoming, more_outgoing, enough, grown_by, grow_under, lowest_free, reuse_under, prepare_under}
use Rattle.multiportgraph.specs.Refusals.{Line, checked, input_taken, joining, end_of, prepared_graph, prepared_port, first_end, second_end, add_refusals, remove_refusals, set_refusals, link_refusals, link_clean_refusals, link_sub_refusals, cut_refusals, subport_refusals}
use Rattle.multiportgraph.specs.Calls.{added_as, add_block_under, set_as, set_counts_under, drop_block, drop_meta, remove_block, resized_meta, both_linked, link_pair_if, link_pair_under, link_clean_if, joined, link_sub_if, cut_plain, cut_port, cut_sub, tidy_port}
use Rattle.multiportgraph.specs.Tidy.{subports_left, left_incoming, left_outgoing, within_block, resized_within, drop_subports, link_directly, tidied}
use Rattle.multiportgraph.specs.Cases.{set_refused, resized, set_meta_under, link_refused, link_prepared, link_second, link_live_under, link_first, link_seen_under, link_clean_by}
use Rattle.multi_tables.specs.NamedEnds.{pair_seen}
use Rattle.multiportgraph.specs.CaseLaws.{add_cases, set_cases, link_cases, link_taken, link_clean_cases, link_clean_taken}
use Rattle.multiportgraph.specs.declared.multiportgraph.MultiPortGraph.{MultiPortGraph}
use Rattle.multi_tables.specs.declared.answers.SubportIndex.{SubportIndex}
use Rattle.multi_tables.specs.declared.answers.Refusal.TheVariants.{NoRoom, TooManyPorts, HiddenNode, IncompatibleDirections}
use Rattle.multiportgraph.specs.declared.multiportgraph.NodeAdded.{NodeAdded}
use Rattle.multiportgraph.specs.declared.multiportgraph.NodeRemoved.{NodeRemoved}
use Rattle.multiportgraph.specs.declared.multiportgraph.PortsSet.{PortsSet}
use Rattle.multiportgraph.specs.declared.multiportgraph.PortsLinked.{PortsLinked}
use Rattle.multiportgraph.specs.declared.multiportgraph.PortUnlinked.{PortUnlinked}
use Rattle.multiportgraph.specs.declared.multiportgraph.PortTidied.{PortTidied}
use Rattle.theorems.specs.Book as book
use Rattle.theorems.specs.Book.{Call, AnswerOf}
use Rattle.theorems.specs.History.{Stepped, step_under}
use Rattle.kits.specs.Kits.{Lower, Within, Past}
use Rattle.kits.specs.UnderLaws.{Same, Longer, same_still, longer_still, same_longer, same_length, past_longer, same_within, link_same, unlink_same, remove_same, add_longer, set_longer, AddExact, add_exact, SetExact, set_exact, add_fits, set_fits}
use Rattle.multi_tables.specs.declared.answers.Refusal.{Refusal}
use Rattle.portgraph.specs.declared.alloc.AddError.TheVariants as add_error
use Rattle.portgraph.specs.declared.portgraph.LinkError.TheVariants as link_error
use Rattle.portgraph.specs.declared.resize.SetError.TheVariants as set_error
use Rattle.port_tables.specs.declared.index.NodeIndex.{NodeIndex}
use Rattle.port_tables.specs.declared.index.PortIndex.{PortIndex}
use Rattle.portgraph.specs.declared.alloc.AddError.{AddError}
use Rattle.portgraph.specs.declared.portgraph.LinkError.{LinkError}
use Rattle.portgraph.specs.declared.resize.SetError.{SetError}

-- the refusal with 10, and the graph as it was
abbrev pub ten_of : (c : Call) → AnswerOf c
ten_of (book.add_call i o) = Err NoRoom
ten_of (book.remove_call n) = Err NoRoom
ten_of (book.set_call n i o room) = Err NoRoom
ten_of (book.link_call a b) = Err NoRoom
ten_of (book.link_clean_call a b) = Err NoRoom
ten_of (book.link_sub_call p o q r) = Err NoRoom
ten_of (book.cut_call p) = Err NoRoom
ten_of (book.cut_sub_call p o) = Err NoRoom
ten_of (book.tidy_call p) = Err NoRoom

abbrev pub no_room : MultiPortGraph → (c : Call) → Stepped c
no_room m c = record { graph = m; answer = ten_of c }

-- Hidden nodes that go change no used length.

remove_copy_same : (m : MultiPortGraph) (p c : ℕ) → Same m.graph (remove_copy m p c).graph
unfolding remove_copy
remove_copy_same m p c = remove_same m.graph c

unsplit_same : (m : MultiPortGraph) (p : ℕ) → Same m.graph (unsplit m p).graph
unfolding unsplit
unsplit_same m p = go (is_split m p)
  where
    go : (b : Bool) → Same m.graph (cond b (remove_copy m p (copy_node m p)) m).graph
    go true = remove_copy_same m p (copy_node m p)
    go false = record { nodes = refl; ports = refl }

unsplit_range_same : (n : ℕ) (m : MultiPortGraph) (p : ℕ) → Same m.graph (unsplit_range m p n).graph
unfolding unsplit_range
unsplit_range_same zero m p = record { nodes = refl; ports = refl }
unsplit_range_same (suc n) m p = same_still (unsplit_same m p) (unsplit_range_same n (unsplit m p) (suc p))

remove_all_same : (l : List ℕ) (m : MultiPortGraph) → Same m.graph (remove_all m l).graph
unfolding remove_all remove_lone
remove_all_same [] m = record { nodes = refl; ports = refl }
remove_all_same (c ∷ l) m = same_still (remove_copy_same m _ c) (remove_all_same l (remove_lone m c))

split_graph_same : (g : PortGraph) (p : ℕ) (d : Direction) (c : ℕ) → Same g (split_graph g p d c)
unfolding split_graph
split_graph_same g p d c =
    same_still (unlink_same g p)
    (same_still (link_same (unlink_port g p).graph p (port_of g c (reversed d) 0))
    (link_same (link_ports (unlink_port g p).graph p (port_of g c (reversed d) 0)).graph (port_of g c d 0) (far_port g p)))

-- Nor do the subports that a tidy drops.

within_same : (g : PortGraph) (n i o : ℕ) → Same g (resized_within g n i o)
unfolding resized_within resize_inside
within_same g n i o = go (meta_at g n)
  where
    counts : (k : NodeMeta) (b : Bool) → Same g (cond b g (resize_inside g n k i o))
    counts k true = record { nodes = refl; ports = refl }
    counts k false = record { nodes = refl; ports = refl }

    go : (v : Option NodeMeta) → Same g (within_block g n i o v)
    go None = record { nodes = refl; ports = refl }
    go (Some k) = counts k (same_counts k i o)

direct_same : (m : MultiPortGraph) (p : ℕ) (d : Direction) → Same m.graph (link_directly m p d).graph
unfolding link_directly
direct_same m p d = go (has_link m.graph (subport_at m p d 0))
  where
    far : ℕ
    far = far_port m.graph (subport_at m p d 0)

    go : (b : Bool) → Same m.graph (cond b (with_graph (unsplit m p) (link_ports (unsplit m p).graph p far).graph) (unsplit m p)).graph
    go true = same_still (unsplit_same m p) (link_same (unsplit m p).graph p far)
    go false = unsplit_same m p

tidied_same : (m : MultiPortGraph) (p : ℕ) (d : Direction) → Same m.graph (tidied m p d).graph
unfolding tidied drop_subports recounted
tidied_same m p d = go (ltb 1 (subports_left m p d))
  where
    go : (b : Bool) → Same m.graph (cond b (drop_subports m (copy_node m p) d (subports_left m p d)) (link_directly m p d)).graph
    go true = within_same m.graph (copy_node m p) (left_incoming d (subports_left m p d)) (left_outgoing d (subports_left m p d))
    go false = direct_same m p d

-- Preparing an end.

-- the end is prepared in a graph for which this holds
abbrev PreparedLent : (PortGraph → Type 0) → Prepared → Type 0
PreparedLent P (ready m x o) = P m.graph
PreparedLent P full = Unit {0}

prepared_map : {P Q : PortGraph → Type 0} → ((g : PortGraph) → P g → Q g) → (v : Prepared) → PreparedLent P v → PreparedLent Q v
prepared_map h (ready m x o) p = h m.graph p
prepared_map h full p = tt

-- what used lengths alone decide
abbrev ByLengths : (PortGraph → Type 0) → Type 0
ByLengths P = (g h : PortGraph) → Same g h → P g → P h

split_by_in : (m : MultiPortGraph) (p : ℕ) (d : Direction) (P : PortGraph → Type 0) → ByLengths P → (g : PortGraph) → P g → (a : Result (NodeIndex × PortIndex) AddError) →
    PreparedLent P (split_by m p d g a)
unfolding split_port
split_by_in m p d P by g h (Ok (c, first)) = by g (split_graph g p d c.0) (split_graph_same g p d c.0) h
split_by_in m p d P by g h (Err add_error.TooManyPorts) = tt
split_by_in m p d P by g h (Err add_error.NoRoom) = tt

grown_by_in : (m : MultiPortGraph) (c : ℕ) (d : Direction) (P : PortGraph → Type 0) (g : PortGraph) → P g → (a : Result ℕ SetError) →
    PreparedLent P (grown_by m c d g a)
unfolding recounted
grown_by_in m c d P g h (Ok e) = h
grown_by_in m c d P g h (Err set_error.TooManyPorts) = tt
grown_by_in m c d P g h (Err set_error.UnknownNode) = tt
grown_by_in m c d P g h (Err set_error.MovesTooShort) = tt
grown_by_in m c d P g h (Err set_error.NoRoom) = tt

-- A call by the table of its refusals: what holds of every graph that a line leaves, and of the call done.
abbrev EachLeaves : (PortGraph → Type 0) → List Line → Type 0
EachLeaves P [] = Unit {0}
EachLeaves P (l ∷ lines) = P l.leaves.graph × EachLeaves P lines

checked_in : {A : Type 0} (P : PortGraph → Type 0) (graph : A → MultiPortGraph) (refused : Line → A) → ((l : Line) → graph (refused l) ≡ l.leaves) →
    (lines : List Line) (done : A) → EachLeaves P lines → P (graph done).graph → P (graph (checked lines refused done)).graph
checked_in P graph refused e [] done h p = p
checked_in P graph refused e (l ∷ lines) done h p = go (checked_in P graph refused e lines done h.1 p) l.applies
  where
    go : P (graph (checked lines refused done)).graph → (b : Bool) → P (graph (cond b (refused l) (checked lines refused done))).graph
    go rest true = subst (λ m. P m.graph) (sym (e l)) h.0
    go rest false = rest

-- What used lengths alone decide, and what a node more and other counts of a node keep, every call keeps.
module _ (K : Limits) (P : PortGraph → Type 0) (by : ByLengths P) (more : (g : PortGraph) (i o : ℕ) → P g → P (add_node_under K g i o).graph)
    (other : (g : PortGraph) (n i o room : ℕ) → P g → P (set_num_ports_under K g n i o room).graph) where
  pub prepare_keeps : (m : MultiPortGraph) (p : ℕ) (d : Direction) → P m.graph → PreparedLent P (prepare_under K m p d)
  unfolding prepare_under reuse_under split_under grow_under
  prepare_keeps m p d here =
      go (is_split m p) (has_link m.graph p)
      (ltb (lowest_free m.graph (copy_node m p) d 0 (subports m p d)) (num_ports m.graph (copy_node m p) d))
      (ready m (port_of m.graph (copy_node m p) d (lowest_free m.graph (copy_node m p) d 0 (subports m p d))) (lowest_free m.graph (copy_node m p) d 0 (subports m p d))) (ready m p 0)
      (grow_under K m (copy_node m p) d) (split_under K m p d) here here
      (grown_by_in m (copy_node m p) d P (set_num_ports_under K m.graph (copy_node m p) (more_incoming m.graph (copy_node m p) d) (more_outgoing m.graph (copy_node m p) d) enough).graph
      (other m.graph (copy_node m p) (more_incoming m.graph (copy_node m p) d) (more_outgoing m.graph (copy_node m p) d) enough here)
      (set_num_ports_under K m.graph (copy_node m p) (more_incoming m.graph (copy_node m p) d) (more_outgoing m.graph (copy_node m p) d) enough).answer)
      (split_by_in m p d P by (add_node_under K m.graph (copy_incoming d) (copy_outgoing d)).graph (more m.graph (copy_incoming d) (copy_outgoing d) here)
      (add_node_under K m.graph (copy_incoming d) (copy_outgoing d)).answer)
    where
      go : (a b c : Bool) (x y v s : Prepared) → PreparedLent P x → PreparedLent P y → PreparedLent P v → PreparedLent P s → PreparedLent P (cond a (cond c x v) (cond b s y))
      go true b true x y v s h i j k = h
      go true b false x y v s h i j k = j
      go false true c x y v s h i j k = k
      go false false c x y v s h i j k = i

  prepared_keeps : (m : MultiPortGraph) (v : Prepared) → P m.graph → PreparedLent P v → P (prepared_graph m v).graph
  prepared_keeps m full here h = here
  prepared_keeps m (ready m₁ x o) here h = h

  module _ (m : MultiPortGraph) (here : P m.graph) where
    first_keeps : (a : ℕ) → P (prepared_graph m (first_end K m a)).graph
    first_keeps a = prepared_keeps m (first_end K m a) here (prepare_keeps m a (side_of (seen m a)) here)

    second_keeps : (a b : ℕ) → P (prepared_graph m (second_end K m a b)).graph
    second_keeps a b =
        prepared_keeps m (second_end K m a b) here (prepare_keeps (prepared_graph m (first_end K m a)) b (side_of (seen m b)) (first_keeps a))

    both_keeps : (a b : ℕ) → P (both_linked K m a b).graph.graph
    both_keeps a b =
        by (prepared_graph m (second_end K m a b)).graph (both_linked K m a b).graph.graph
        (link_same (prepared_graph m (second_end K m a b)).graph (prepared_port (first_end K m a)) (prepared_port (second_end K m a b))) (second_keeps a b)

    drop_keeps : (n : ℕ) (v : Option NodeMeta) → P (drop_meta m n v).graph
    unfolding drop_block
    drop_keeps n None = here
    drop_keeps n (Some k) =
        by m.graph (drop_block m n k).graph
        (same_still (unsplit_range_same (k.incoming + k.outgoing) m k.first_port.0)
        (remove_same (unsplit_range m k.first_port.0 (k.incoming + k.outgoing)).graph n)) here

    resized_keeps : (n i o : ℕ) (g : PortGraph) (v : Option NodeMeta) → P g → P (resized_meta m n i o g v).graph
    unfolding recounted
    resized_keeps n i o g None h = here
    resized_keeps n i o g (Some k) h =
        by g (resized_meta m n i o g (Some k)).graph (remove_all_same (copies_dropped m k i o) (recounted m n g)) h

    joined_keeps : (a : Result (PortIndex × PortIndex) LinkError) (g : PortGraph) (s t : SubportIndex) → P g → P (joined m a g s t).graph.graph
    joined_keeps (Ok (x, y)) g s t h = h
    joined_keeps (Err (link_error.UnknownPort x)) g s t h = here
    joined_keeps (Err (link_error.UnknownSecondPort y)) g s t h = here
    joined_keeps (Err (link_error.IncompatibleDirections x y d)) g s t h = here
    joined_keeps (Err (link_error.AlreadyLinked x)) g s t h = here

    cut_keeps : (p : ℕ) (b : Bool) →
        P (cond {A = PortUnlinked} b (record { graph = unsplit m p; answer = Ok (Some (subport# p 0, standing m (subport# p 0))) })
        (record { graph = with_graph m (unlink_port m.graph p).graph; answer = cut_plain m (unlink_port m.graph p).answer })).graph.graph
    cut_keeps p true = by m.graph (unsplit m p).graph (unsplit_same m p) here
    cut_keeps p false = by m.graph (unlink_port m.graph p).graph (unlink_same m.graph p) here

    tidy_keeps : (p : ℕ) (d : Direction) (b : Bool) → P (cond b (tidied m p d) m).graph
    tidy_keeps p d true = by m.graph (tidied m p d).graph (tidied_same m p d) here
    tidy_keeps p d false = here

    pub step_keeps : (c : Call) → P (step_under K m c).graph.graph
    unfolding add_block_under remove_block set_counts_under link_pair_if link_clean_if link_sub_if cut_port cut_sub tidy_port
    step_keeps (book.add_call i o) = checked_in P (λ (v : NodeAdded). v.graph) (λ l. record { graph = l.leaves; answer = Err l.refusal }) (λ l. refl) (add_refusals K m i o) _ (here, (here, tt)) (more m.graph i o here)
    step_keeps (book.remove_call n) = checked_in P (λ (v : NodeRemoved). v.graph) (λ l. record { graph = l.leaves; answer = Err l.refusal }) (λ l. refl) (remove_refusals m n) _ (here, (here, tt)) (drop_keeps n (meta_at m.graph n))
    step_keeps (book.set_call n i o room) =
        checked_in P (λ (v : PortsSet). v.graph) (λ l. record { graph = l.leaves; answer = Err l.refusal }) (λ l. refl) (set_refusals K m n i o room) _ (here, (here, (here, (here, (here, tt)))))
        (resized_keeps n i o (set_num_ports_under K m.graph n i o room).graph (meta_at m.graph n) (other m.graph n i o room here))
    step_keeps (book.link_call a b) =
        checked_in P (λ (v : PortsLinked). v.graph) (λ l. record { graph = l.leaves; answer = Err l.refusal }) (λ l. refl) (link_refusals (input_taken m a b) K m a b) _ (here, (here, (here, (here, (here, (first_keeps a, (second_keeps a b, tt))))))) (both_keeps a b)
    step_keeps (book.link_clean_call a b) =
        checked_in P (λ (v : PortsLinked). v.graph) (λ l. record { graph = l.leaves; answer = Err l.refusal }) (λ l. refl) (link_clean_refusals (input_taken m a b) K m a b) _ (here, (here, (here, (here, (here, (here, (here, tt))))))) (both_keeps a b)
    step_keeps (book.link_sub_call p o q r) =
        checked_in P (λ (v : PortsLinked). v.graph) (λ l. record { graph = l.leaves; answer = Err l.refusal }) (λ l. refl) (link_sub_refusals (input_taken m p q) m p o q r) _ (here, (here, (here, (here, (here, (here, (here, (here, (here, (here, (here, tt)))))))))))
        (joined_keeps (joining m p o q r) (link_ports m.graph (end_of m p o) (end_of m q r)).graph (as_read m p o) (as_read m q r)
        (by m.graph _ (link_same m.graph (end_of m p o) (end_of m q r)) here))
    step_keeps (book.cut_call p) = checked_in P (λ (v : PortUnlinked). v.graph) (λ l. record { graph = l.leaves; answer = Err l.refusal }) (λ l. refl) (cut_refusals m p) _ (here, (here, tt)) (cut_keeps p (is_split m p))
    step_keeps (book.cut_sub_call p o) =
        checked_in P (λ (v : PortUnlinked). v.graph) (λ l. record { graph = l.leaves; answer = Err l.refusal }) (λ l. refl) (subport_refusals m p o) _ (here, (here, (here, (here, tt)))) (by m.graph _ (unlink_same m.graph (end_of m p o)) here)
    step_keeps (book.tidy_call p) =
        checked_in P (λ (v : PortTidied). v.graph) (λ l. record { graph = l.leaves; answer = Err l.refusal }) (λ l. refl) (cut_refusals m p) _ (here, (here, tt)) (tidy_keeps p (side_of (seen m p)) (is_split m p))

-- no call shortens a table
longer_by_lengths : (g : PortGraph) → ByLengths (Longer g)
longer_by_lengths g h k s l = longer_still l (same_longer s)

prepare_longer : (K : Limits) (m : MultiPortGraph) (p : ℕ) (d : Direction) → PreparedLent (Longer m.graph) (prepare_under K m p d)
prepare_longer K m p d =
    prepare_keeps K (Longer m.graph) (longer_by_lengths m.graph) (λ g i o l. longer_still l (add_longer K g i o)) (λ g n i o room l. longer_still l (set_longer K g n i o room))
    m p d (same_length m.graph)

pub step_longer : (K : Limits) (m : MultiPortGraph) (c : Call) → Longer m.graph (step_under K m c).graph.graph
step_longer K m =
    step_keeps K (Longer m.graph) (longer_by_lengths m.graph) (λ g i o l. longer_still l (add_longer K g i o)) (λ g n i o room l. longer_still l (set_longer K g n i o room))
    m (same_length m.graph)

-- and none passes its limits
pub step_fits : (K : Limits) (m : MultiPortGraph) → Within K m.graph → (c : Call) → Within K (step_under K m c).graph.graph
step_fits K m w = step_keeps K (Within K) (λ g h s v. same_within s v) (add_fits K) (set_fits K) m w

-- both ends are prepared: no length changes any more
link_prepared_same : (n : MultiPortGraph) (a : ℕ) (d : Direction) (x o b : ℕ) (e : Direction) (y r : ℕ) → Same n.graph (link_prepared n a d x o b e y r).graph.graph
link_prepared_same n a d x o b e y r = pass (same_side d e)
  where
    pass : (s : Bool) →
        Same n.graph (cond s (link_refused n (IncompatibleDirections (port# x) (port# y) d))
        (record { graph = with_graph n (link_ports n.graph x y).graph; answer = Ok (subport# a o, subport# b r) })).graph.graph
    pass true = record { nodes = refl; ports = refl }
    pass false = link_same n.graph x y

-- Two limits.

module _ {L K : Limits} (low : Lower L K) where
  -- an end: alike, or it finds no room and is past the lower limits under the higher ones
  abbrev EndExact : Prepared → Prepared → Type 0
  EndExact v w = (v ≡ w) ⊎ ((v ≡ full) × PreparedLent (Past L) w)

  split_exact : (m : MultiPortGraph) (p : ℕ) (d : Direction) → EndExact (split_under L m p d) (split_under K m p d)
  unfolding split_under
  split_exact m p d = go (add_node_under L m.graph (copy_incoming d) (copy_outgoing d)) (add_node_under K m.graph (copy_incoming d) (copy_outgoing d)) (add_exact low m.graph (copy_incoming d) (copy_outgoing d))
    where
      done : lower_added.NodeAdded → Prepared
      done v = split_by m p d v.graph v.answer

      go : (v w : lower_added.NodeAdded) → AddExact low m.graph v w → EndExact (done v) (done w)
      go v w (inl e) = inl (ap done e)
      go v w (inr e) = inr (ap done e.0, split_by_in m p d (Past L) (λ g h s q. past_longer (same_longer s) q) w.graph e.2 w.answer)

  grow_exact : (m : MultiPortGraph) (c : ℕ) (d : Direction) → EndExact (grow_under L m c d) (grow_under K m c d)
  unfolding grow_under
  grow_exact m c d =
      go (set_num_ports_under L m.graph c (more_incoming m.graph c d) (more_outgoing m.graph c d) enough) (set_num_ports_under K m.graph c (more_incoming m.graph c d) (more_outgoing m.graph c d) enough)
      (set_exact low m.graph c (more_incoming m.graph c d) (more_outgoing m.graph c d) enough)
    where
      done : lower_set_done.PortsSet → Prepared
      done v = grown_by m c d v.graph v.answer

      go : (v w : lower_set_done.PortsSet) → SetExact low m.graph v w → EndExact (done v) (done w)
      go v w (inl e) = inl (ap done e)
      go v w (inr e) = inr (ap done e.0, grown_by_in m c d (Past L) w.graph e.2 w.answer)

  prepare_exact : (m : MultiPortGraph) (p : ℕ) (d : Direction) → EndExact (prepare_under L m p d) (prepare_under K m p d)
  unfolding prepare_under reuse_under
  prepare_exact m p d =
      go (is_split m p) (has_link m.graph p)
      (ltb (lowest_free m.graph (copy_node m p) d 0 (subports m p d)) (num_ports m.graph (copy_node m p) d))
      (ready m (port_of m.graph (copy_node m p) d (lowest_free m.graph (copy_node m p) d 0 (subports m p d))) (lowest_free m.graph (copy_node m p) d 0 (subports m p d))) (ready m p 0)
      (grow_under L m (copy_node m p) d) (grow_under K m (copy_node m p) d) (split_under L m p d) (split_under K m p d)
      (grow_exact m (copy_node m p) d) (split_exact m p d)
    where
      go : (a b c : Bool) (x y v w s t : Prepared) → EndExact v w → EndExact s t → EndExact (cond a (cond c x v) (cond b s y)) (cond a (cond c x w) (cond b t y))
      go true b true x y v w s t e f = inl refl
      go true b false x y v w s t e f = e
      go false true c x y v w s t e f = f
      go false false c x y v w s t e f = inl refl

  -- a call: alike, or refused with 10 where under the higher limits it is not, and leads past the lower ones
  abbrev pub StepExact : {c : Call} → MultiPortGraph → Stepped c → Stepped c → Type 0
  StepExact {c} m v w = (v ≡ w) ⊎ ((v ≡ no_room m c) × (w.answer ≡ ten_of c → ⊥) × Past L w.graph.graph)

  -- what is said of the calls by cases holds of the calls
  by_cases : {R : Type 0} {c : Call} (m : MultiPortGraph) (of : R → Stepped c) {v w x y : R} → v ≡ x → w ≡ y → StepExact m (of x) (of y) → StepExact m (of v) (of w)
  by_cases m of {v} {w} {x} {y} p q e = subst (λ u. StepExact m (of v) (of u)) (sym q) (subst (λ u. StepExact m (of u) (of y)) (sym p) e)

  module _ (m : MultiPortGraph) where
    add_alike : (i o : ℕ) → StepExact m (step_under L m (book.add_call i o)) (step_under K m (book.add_call i o))
    add_alike i o =
        by_cases m of (add_cases L m i o) (add_cases K m i o) (go (add_node_under L m.graph i o) (add_node_under K m.graph i o) (add_exact low m.graph i o))
      where
        of : NodeAdded → Stepped (book.add_call i o)
        of v = record { graph = v.graph; answer = v.answer }

        done : lower_added.NodeAdded → NodeAdded
        done v = record { graph = with_graph m v.graph; answer = added_as v.answer }

        go : (v w : lower_added.NodeAdded) → AddExact low m.graph v w → StepExact m (of (done v)) (of (done w))
        go v w (inl e) = inl (ap (λ u. of (done u)) e)
        go v w (inr e) = inr (ap (λ u. of (done u)) e.0, (λ q. let a = e.1.2 in zero_is_not_one (cc)), e.2)

    set_alike : (n i o room : ℕ) → StepExact m (step_under L m (book.set_call n i o room)) (step_under K m (book.set_call n i o room))
    unfolding recounted
    set_alike n i o room = by_cases m of (set_cases L m n i o room) (set_cases K m n i o room) (few (leb (i + o) node_ports) (meta_at m.graph n))
      where
        of : PortsSet → Stepped (book.set_call n i o room)
        of v = record { graph = v.graph; answer = v.answer }

        done : NodeMeta → lower_set_done.PortsSet → PortsSet
        done k v = record { graph = resized m n k i o v.graph v.answer; answer = set_as v.answer }

        -- the hidden nodes that go after an accepted resize change no length
        past_done : (k : NodeMeta) (g : PortGraph) (a : Result ℕ SetError) (e : ℕ) → a ≡ Ok e → Past L g →
            (set_as a ≡ Err NoRoom → ⊥) × Past L (resized m n k i o g a).graph
        past_done k g (Ok e) x q p = ((λ u. zero_is_not_one (cc)), past_longer (same_longer (remove_all_same _ _)) p)
        past_done k g (Err set_error.TooManyPorts) x q p = absurd (zero_is_not_one (cc))
        past_done k g (Err set_error.UnknownNode) x q p = absurd (zero_is_not_one (cc))
        past_done k g (Err set_error.MovesTooShort) x q p = absurd (zero_is_not_one (cc))
        past_done k g (Err set_error.NoRoom) x q p = absurd (zero_is_not_one (cc))

        go : (h : Bool) (k : NodeMeta) (v w : lower_set_done.PortsSet) → SetExact low m.graph v w →
            StepExact m (of (cond h (set_refused m HiddenNode) (done k v))) (of (cond h (set_refused m HiddenNode) (done k w)))
        go true k v w e = inl refl
        go false k v w (inl e) = inl (ap (λ u. of (done k u)) e)
        go false k v w (inr e) = let p = past_done k w.graph w.answer e.1.0 e.1.1 e.2 in inr (ap (λ u. of (done k u)) e.0, p.0, p.1)

        few : (f : Bool) (k : Option NodeMeta) →
            StepExact m (of (cond f (set_meta_under L m n i o room k) (set_refused m TooManyPorts))) (of (cond f (set_meta_under K m n i o room k) (set_refused m TooManyPorts)))
        few false k = inl refl
        few true None = inl refl
        few true (Some k) =
            go (is_hidden m n) k (set_num_ports_under L m.graph n i o room) (set_num_ports_under K m.graph n i o room) (set_exact low m.graph n i o room)

    -- a link of ports, and what it answers past the limits
    abbrev LinkExact : PortsLinked → PortsLinked → Type 0
    LinkExact v w = (v ≡ w) ⊎ ((v ≡ link_refused m NoRoom) × (w.answer ≡ Err NoRoom → ⊥) × Past L w.graph.graph)

    -- 18 asks for no room
    pair_exact : (taken : Bool) (a b : ℕ) → LinkExact (link_pair_if taken L m a b) (link_pair_if taken K m a b)
    pair_exact true a b = inl (link_taken L m a b ∙ sym (link_taken K m a b))
    pair_exact false a b =
        subst (λ u. LinkExact (link_pair_if false L m a b) u) (sym (link_cases K m a b))
        (subst (λ u. LinkExact u (link_seen_under K m a b (seen m a) (seen m b))) (sym (link_cases L m a b)) (go (seen m a) (seen m b)))
      where
        not_ten : (n : MultiPortGraph) (d : Direction) (x o : ℕ) (e : Direction) (y r : ℕ) → (link_prepared n a d x o b e y r).answer ≡ Err NoRoom → ⊥
        not_ten n d x o e y r = pass (same_side d e)
          where
            pass : (s : Bool) →
                (cond s (link_refused n (IncompatibleDirections (port# x) (port# y) d))
                (record { graph = with_graph n (link_ports n.graph x y).graph; answer = Ok (subport# a o, subport# b r) })).answer ≡ Err NoRoom → ⊥
            pass true q = zero_is_not_one (cc)
            pass false q = zero_is_not_one (cc)

        -- the second end, where it is prepared past the limits; v is refused
        past_second : (d e : Direction) (x o : ℕ) (v : PortsLinked) → v ≡ link_refused m NoRoom → (w : Prepared) → PreparedLent (Past L) w → LinkExact v (link_second m a d x o b e w)
        past_second d e x o v q full p = inl q
        past_second d e x o v q (ready n y r) p = inr (q, not_ten n d x o e y r, past_longer (same_longer (link_prepared_same n a d x o b e y r)) p)

        second : (d e : Direction) (x o : ℕ) (v w : Prepared) → EndExact v w → LinkExact (link_second m a d x o b e v) (link_second m a d x o b e w)
        second d e x o v w (inl q) = inl (ap (link_second m a d x o b e) q)
        second d e x o v w (inr q) = past_second d e x o (link_second m a d x o b e v) (ap (link_second m a d x o b e) q.0) w q.1

        both : (d e : Direction) (v : Prepared) → LinkExact (link_live_under L m a d b e v) (link_live_under K m a d b e v)
        both d e full = inl refl
        both d e (ready n x o) = second d e x o (prepare_under L n b e) (prepare_under K n b e) (prepare_exact n b e)

        past_first : (d e : Direction) (v : PortsLinked) → v ≡ link_refused m NoRoom → (w : Prepared) → PreparedLent (Past L) w → LinkExact v (link_live_under K m a d b e w)
        past_first d e v q full p = inl q
        past_first d e v q (ready n x o) p =
            past_second d e x o v q (prepare_under K n b e) (prepared_map (λ g l. past_longer l p) (prepare_under K n b e) (prepare_longer K n b e))

        first : (d e : Direction) (v w : Prepared) → EndExact v w → LinkExact (link_live_under L m a d b e v) (link_live_under K m a d b e w)
        first d e v w (inl q) = subst (λ (u : Prepared). LinkExact (link_live_under L m a d b e v) (link_live_under K m a d b e u)) q (both d e v)
        first d e v w (inr q) = past_first d e (link_live_under L m a d b e v) (ap (link_live_under L m a d b e) q.0) w q.1

        past_alone : (v : PortsLinked) → v ≡ link_refused m NoRoom → (w : Prepared) → PreparedLent (Past L) w → LinkExact v (link_first m b w)
        past_alone v q full p = inl q
        past_alone v q (ready n x o) p = inr (q, (λ u. zero_is_not_one (cc)), p)

        alone : (v w : Prepared) → EndExact v w → LinkExact (link_first m b v) (link_first m b w)
        alone v w (inl q) = inl (ap (link_first m b) q)
        alone v w (inr q) = past_alone (link_first m b v) (ap (link_first m b) q.0) w q.1

        go : (s t : Port) → LinkExact (link_seen_under L m a b s t) (link_seen_under K m a b s t)
        go dead t = inl refl
        go hidden t = inl refl
        go (visible n d) hidden = inl refl
        go (visible n d) dead = alone (prepare_under L m a d) (prepare_under K m a d) (prepare_exact m a d)
        go (visible n d) (visible k e) = first d e (prepare_under L m a d) (prepare_under K m a d) (prepare_exact m a d)

    link_alike : (a b : ℕ) → StepExact m (step_under L m (book.link_call a b)) (step_under K m (book.link_call a b))
    link_alike a b = go (link_pair_under L m a b) (link_pair_under K m a b) (pair_exact (input_taken m a b) a b)
      where
        of : PortsLinked → Stepped (book.link_call a b)
        of v = record { graph = v.graph; answer = v.answer }

        go : (v w : PortsLinked) → LinkExact v w → StepExact m (of v) (of w)
        go v w (inl e) = inl (ap of e)
        go v w (inr e) = inr (ap of e.0, e.1, e.2)

    link_clean_alike : (a b : ℕ) → StepExact m (step_under L m (book.link_clean_call a b)) (step_under K m (book.link_clean_call a b))
    link_clean_alike a b = alike (input_taken m a b)
      where
        of : PortsLinked → Stepped (book.link_clean_call a b)
        of v = record { graph = v.graph; answer = v.answer }

        go : (v w : PortsLinked) → LinkExact v w → StepExact m (of v) (of w)
        go v w (inl e) = inl (ap of e)
        go v w (inr e) = inr (ap of e.0, e.1, e.2)

        by : (q : Result (Unit {0}) Refusal) → StepExact m (of (link_clean_by L m a b q)) (of (link_clean_by K m a b q))
        by (Err r) = inl refl
        by (Ok tt) = go (link_pair_if false L m a b) (link_pair_if false K m a b) (pair_exact false a b)

        alike : (taken : Bool) → StepExact m (of (link_clean_if taken L m a b)) (of (link_clean_if taken K m a b))
        alike true = inl (ap of (link_clean_taken L m a b ∙ sym (link_clean_taken K m a b)))
        alike false = by_cases m of (link_clean_cases L m a b) (link_clean_cases K m a b) (by (pair_seen a b (seen m a) (seen m b)))

  -- every call
  pub step_alike : (m : MultiPortGraph) (c : Call) → StepExact m (step_under L m c) (step_under K m c)
  step_alike m (book.add_call i o) = add_alike m i o
  step_alike m (book.remove_call n) = inl refl
  step_alike m (book.set_call n i o room) = set_alike m n i o room
  step_alike m (book.link_call a b) = link_alike m a b
  step_alike m (book.link_clean_call a b) = link_clean_alike m a b
  step_alike m (book.link_sub_call p o q r) = inl refl
  step_alike m (book.cut_call p) = inl refl
  step_alike m (book.cut_sub_call p o) = inl refl
  step_alike m (book.tidy_call p) = inl refl
