-- Hidden nodes that hang on outputs. Every call but a link leaves the hidden nodes as they are, or fewer of them, and none has other
-- counts than before.
use Rattle.theorems.specs.Pairs.{ok_pair}
use Rattle.std.specs.Prelude.{◌≡◌, refl, Bool, true, cond, List, [], ◌∷◌, eqb, leb, Ok}
use Rattle.std.proofs.Math.Path.{sym, subst}
use Rattle.std.proofs.Common.{◌∙◌, ap, leb-true}
use Rattle.std.proofs.Math.Bool.{false}
use Prim.Native.Nat.{ℕ, zero, suc, ◌+◌}
use Rattle.std.proofs.Math.ListN.{get_or}
use Rattle.port_tables.specs.Limits.{present, node_slots, port_slots, node_ports}
use Rattle.port_tables.specs.Entries.{fresh_slot, same_side, meta_of, node#, meta_of_entry}
use Rattle.port_tables.specs.Tables.{at}
use Rattle.portgraph.specs.Meaning.{next_slot, next_block, growth}
use Rattle.portgraph.specs.Lookups.{num_ports, count_in, port_at}
use Rattle.portgraph.specs.Calls.{add_node, remove_node, place_node, link_ports, link_entries, link_sides, link_free, unlink_port, unlink_entry}
use Rattle.portgraph.specs.Resize.{set_num_ports}
use Rattle.portgraph.specs.Model.{Model, Slots, gone, live, Good, Holds, Wf, count_of}
use Rattle.portgraph.specs.GoodSlots.{zero_is_not_one, gone_not_live, upd_same, upd_other}
use Rattle.portgraph.specs.GoodLaws.{good_add, good_remove, next_slot_gone}
use Rattle.portgraph.specs.SlotHolds.{add_law, add_where, place_holds, slot_room, block_room, remove_law, remove_slots, free_holds, wf_remove}
use Rattle.port_tables.specs.declared.direction.Direction.{Direction}
use Rattle.port_tables.specs.declared.direction.Direction.TheVariants.{Incoming}
use Rattle.port_tables.specs.declared.index.NodeIndex.{NodeIndex}
use Rattle.port_tables.specs.declared.index.PortIndex.{PortIndex}
use Rattle.port_tables.specs.declared.node_entry.NodeMeta.{NodeMeta}
use Rattle.port_tables.specs.declared.node_entry.NodeSlot.{NodeSlot}
use Rattle.port_tables.specs.declared.port_entry.PortEntry.{PortEntry}
use Rattle.port_tables.specs.declared.port_entry.PortEntry.TheVariants as port_variants
use Rattle.portgraph.specs.declared.portgraph.PortGraph.{PortGraph}
use Rattle.portgraph.specs.declared.alloc.NodeAdded as lower_added
use Rattle.portgraph.specs.declared.alloc.NodeRemoved as lower_removed
use Rattle.multiportgraph.specs.Reading.{is_hidden, is_split, has_link, far_port, port_of, copy_node, copy_side, subport_at}
use Rattle.multiportgraph.specs.Graph.{with_graph}
use Rattle.multiportgraph.specs.WellFormed.{Fine}
use Rattle.multiportgraph.specs.HiddenStays.{true_not_false}
use Rattle.multiportgraph.specs.RecountLaws.{SomeRecount, set_recounts}
use Rattle.multiportgraph.specs.HiddenNodes.{copies_dropped, recounted, remove_all, remove_copy, remove_lone, unsplit, unsplit_range}
use Rattle.multiportgraph.specs.Tidy.{link_directly}
use Rattle.multiportgraph.specs.Calls.{add_block, remove_block, set_counts, drop_block, link_sub_if, cut_port, cut_sub}
use Rattle.theorems.specs.CallCases.{remove_each, set_each, cut_each, cut_sub_each, link_sub_each}
use Rattle.multiportgraph.specs.CaseLaws.{add_cases}
use Rattle.multiportgraph.specs.declared.multiportgraph.MultiPortGraph.{MultiPortGraph}
use Rattle.multiportgraph.specs.declared.multiportgraph.NodeAdded.{NodeAdded}
use Rattle.multiportgraph.specs.CopyLaws.{hidden_not_copy, still_hidden}
use Rattle.multiportgraph.specs.Ends.{count_in_lem}

-- every hidden node hangs on an output: its one incoming port is its copy port
abbrev pub OnOutputs : MultiPortGraph → Type 0
OnOutputs m = (c : ℕ) → is_hidden m c ≡ true → num_ports m.graph c Incoming ≡ 1

-- Counts of nodes in the single-link graph.

-- two graphs whose models have the same at a node
pub counts_same : {g g' : PortGraph} {M M' : Model} → Good M → Holds g M → Good M' → Holds g' M' → (n : ℕ) (d : Direction) → M'.node n ≡ M.node n → num_ports g' n d ≡ num_ports g n d
counts_same good holds good' holds' n d e = count_in_lem good' holds' n d ∙ (ap (λ (s : Slots). count_of s d) e ∙ sym (count_in_lem good holds n d))

module _ {g : PortGraph} {M : Model} (good : Good M) (holds : Holds g M) where
  -- where a node goes the others keep theirs
  remove_count : (c n : ℕ) (d : Direction) → (n ≡ c → ⊥) → num_ports (remove_node g c).graph n d ≡ num_ports g n d
  remove_count c n d other = ap (λ (v : lower_removed.NodeRemoved). num_ports v.graph n d) (remove_law holds c) ∙ go (M.node c) refl
    where
      go : (v : Slots) → M.node c ≡ v → num_ports (remove_slots g c v).graph n d ≡ num_ports g n d
      go gone e = refl
      go (live a) e = counts_same good holds (good_remove good c a e) (free_holds good holds c a e) n d (upd_other M.node c gone n other)

  -- where one comes the live ones keep theirs, and it has those it came with
  abbrev Added : ℕ → ℕ → lower_added.NodeAdded → Type 0
  Added i o v =
      ((n : ℕ) (a : NodeMeta) (d : Direction) → M.node n ≡ live a → num_ports v.graph n d ≡ num_ports g n d)
      × ((c : NodeIndex) (p : PortIndex) → v.answer ≡ Ok (c, p) → num_ports v.graph c.0 Incoming ≡ i)

  pub add_counts : (i o : ℕ) → Added i o (add_node g i o)
  add_counts i o =
      subst (Added i o) (sym (add_law good holds i o)) (go (leb (i + o) node_ports) refl (slot_room M) refl (block_room M (i + o)) refl)
    where
      go : (x : Bool) → leb (i + o) node_ports ≡ x → (y : Bool) → slot_room M ≡ y → (z : Bool) → block_room M (i + o) ≡ z → Added i o (add_where g M i o x y z)
      go true p true q true r =
          let few = leb-true (i + o) node_ports p in
          let slot = leb-true (M.node_len + growth 1 M.free_nodes) node_slots q in
          let block = leb-true (M.port_len + growth (i + o) (M.free_blocks (i + o))) port_slots r in
          let good' = good_add good i o few slot block in
          let holds' = place_holds good holds i o few slot block in
          let new : NodeMeta = meta_of (next_block M (i + o)) i o (i + o) in (
            (λ n a d e. counts_same good holds good' holds' n d (upd_other M.node (next_slot M) (live new) n (λ s. gone_not_live (ap M.node s ∙ next_slot_gone good) e))),
            (λ c s e.
                let same : node# (next_slot M) ≡ c = (ok_pair e).0 in
                let is : next_slot M ≡ c.0 = ap (λ (k : NodeIndex). k.0) same in
                ap (λ (k : ℕ). num_ports (place_node g (next_slot M) (next_block M (i + o)) i o) k Incoming) (sym is)
                ∙ (count_in_lem good' holds' (next_slot M) Incoming ∙ ap (λ (v : Slots). count_of v Incoming) (upd_same M.node (next_slot M) (live new)))),
          )
      go true p true q false r = ((λ n a d e. refl), (λ c s e. absurd (zero_is_not_one (cc))))
      go true p false q z r = ((λ n a d e. refl), (λ c s e. absurd (zero_is_not_one (cc))))
      go false p y q z r = ((λ n a d e. refl), (λ c s e. absurd (zero_is_not_one (cc))))

-- links change no node
pub link_nodes : (g : PortGraph) (a b : ℕ) → (link_ports g a b).graph.node_meta ≡ g.node_meta
unfolding link_ports
link_nodes g a b = go (port_at g a) (port_at g b)
  where
    free : (x y : Bool) → eqb (at g.port_link a) 0 ≡ x → eqb (at g.port_link b) 0 ≡ y → (link_free g a b).graph.node_meta ≡ g.node_meta
    free true true p q = rw (p, q) refl
    free true false p q = rw (p, q) refl
    free false y p q = rw p refl

    sides : (d e : Direction) (x : Bool) → same_side d e ≡ x → (link_sides g a b d e).graph.node_meta ≡ g.node_meta
    sides d e true p = rw p refl
    sides d e false p = rw p (free (eqb (at g.port_link a) 0) (eqb (at g.port_link b) 0) refl refl)

    go : (u v : PortEntry) → (link_entries g a b u v).graph.node_meta ≡ g.node_meta
    go port_variants.Free v = refl
    go (port_variants.Port m) port_variants.Free = refl
    go (port_variants.Port m) (port_variants.Port k) = sides m.direction k.direction (same_side m.direction k.direction) refl

pub unlink_nodes : (g : PortGraph) (p : ℕ) → (unlink_port g p).graph.node_meta ≡ g.node_meta
unfolding unlink_port
unlink_nodes g p = go (port_at g p)
  where
    go : (u : PortEntry) → (unlink_entry g p u).node_meta ≡ g.node_meta
    go port_variants.Free = refl
    go (port_variants.Port m) = refl

-- the counts are read off the node table
pub table_count : (g g' : PortGraph) → g'.node_meta ≡ g.node_meta → (n : ℕ) (d : Direction) → num_ports g' n d ≡ num_ports g n d
table_count g g' e n d = ap (λ (t : List NodeSlot). count_in (meta_of_entry (get_or t n fresh_slot).entry) d) e

-- Works that leave hidden nodes as they are.

pub links_on : (m : MultiPortGraph) (g : PortGraph) → g.node_meta ≡ m.graph.node_meta → OnOutputs m → OnOutputs (with_graph m g)
unfolding is_hidden
links_on m g e on c h = table_count m.graph g e c Incoming ∙ on c h

-- Works that leave fewer.

record Hung (m : MultiPortGraph) : Type 0 where
  wf : Wf m.graph
  on : OnOutputs m

module _ (m : MultiPortGraph) (p c : ℕ) where
  copy_hung : Hung m → Hung (remove_copy m p c)
  unfolding remove_copy is_hidden
  copy_hung h =
      record {
        wf = wf_remove m.graph c h.wf;
        on = λ k e. remove_count h.wf.good h.wf.holds c k Incoming (hidden_not_copy m p c k e) ∙ h.on k (still_hidden m p c k e);
      }

unsplit_hung : (m : MultiPortGraph) (p : ℕ) → Hung m → Hung (unsplit m p)
unfolding unsplit
unsplit_hung m p h = go (is_split m p)
  where
    go : (b : Bool) → Hung (cond b (remove_copy m p (copy_node m p)) m)
    go true = copy_hung m p (copy_node m p) h
    go false = h

unsplit_fewer : (m : MultiPortGraph) (p k : ℕ) → is_hidden (unsplit m p) k ≡ true → is_hidden m k ≡ true
unfolding unsplit
unsplit_fewer m p k = go (is_split m p)
  where
    go : (b : Bool) → is_hidden (cond b (remove_copy m p (copy_node m p)) m) k ≡ true → is_hidden m k ≡ true
    go true h = still_hidden m p (copy_node m p) k h
    go false h = h

range_hung : (m : MultiPortGraph) (p n : ℕ) → Hung m → Hung (unsplit_range m p n)
unfolding unsplit_range
range_hung m p zero h = h
range_hung m p (suc n) h = range_hung (unsplit m p) (suc p) n (unsplit_hung m p h)

range_fewer : (m : MultiPortGraph) (p n k : ℕ) → is_hidden (unsplit_range m p n) k ≡ true → is_hidden m k ≡ true
unfolding unsplit_range
range_fewer m p zero k h = h
range_fewer m p (suc n) k h = unsplit_fewer m p k (range_fewer (unsplit m p) (suc p) n k h)

all_hung : (m : MultiPortGraph) (l : List ℕ) → Hung m → Hung (remove_all m l)
unfolding remove_all remove_lone
all_hung m [] h = h
all_hung m (c ∷ l) h = all_hung (remove_lone m c) l (copy_hung m (port_of m.graph c (copy_side m c) 0) c h)

module _ {m : MultiPortGraph} {M : Model} (f : Fine m M) (on : OnOutputs m) where
  hung : Hung m
  hung = record { wf = record { model = M; good = f.good; holds = f.holds }; on = on }

  -- The calls that make no hidden node.

  pub add_on : (i o : ℕ) → OnOutputs (add_block m i o).graph
  unfolding is_hidden
  add_on i o =
      subst (λ (v : NodeAdded). OnOutputs v.graph) (sym (add_cases present m i o))
      (λ c h. let k = f.copy c h in (add_counts f.good f.holds i o).0 c k.meta Incoming k.here ∙ on c h)

  pub remove_on : (n : ℕ) → OnOutputs (remove_block m n).graph
  unfolding drop_block is_hidden
  remove_on n = remove_each m (λ v. OnOutputs v.graph) n (λ z w. on) dropped
    where
      dropped : (k : NodeMeta) → is_hidden m n ≡ false → OnOutputs (drop_block m n k)
      dropped k shown c h =
          let first = k.first_port.0 in
          let r = range_hung m first (k.incoming + k.outgoing) hung in
          let other : (c ≡ n → ⊥) = λ e. true_not_false (range_fewer m first (k.incoming + k.outgoing) c h) (ap (is_hidden m) e ∙ shown) in
          remove_count r.wf.good r.wf.holds n c Incoming other ∙ r.on c h

  -- a node that is not hidden, with other counts
  recount_hung : (n i o : ℕ) (g : PortGraph) → is_hidden m n ≡ false → SomeRecount g M n i o → Hung (recounted m n g)
  unfolding recounted is_hidden
  recount_hung n i o g shown s =
      let r = s.is in
      record {
        wf = record { model = s.model'; good = r.good; holds = r.holds };
        on = λ c h. counts_same f.good f.holds r.good r.holds c Incoming (r.others c (λ e. true_not_false h (ap (is_hidden m) e ∙ shown))) ∙ on c h;
      }

  pub set_on : (n i o room : ℕ) → OnOutputs (set_counts m n i o room).graph
  set_on n i o room =
      let g' = (set_num_ports m.graph n i o room).graph in
      set_each m (λ v. OnOutputs v.graph) n i o room (λ z w. on)
      (λ k e shown q. (all_hung (recounted m n g') (copies_dropped m k i o) (recount_hung n i o g' shown (set_recounts f.good f.holds n i o room e q))).on)

  pub cut_on : (p : ℕ) → OnOutputs (cut_port m p).graph
  cut_on p = cut_each m (λ v. OnOutputs v.graph) p (λ z w. on) (unsplit_hung m p hung).on (links_on m (unlink_port m.graph p).graph (unlink_nodes m.graph p) on)

  pub cut_sub_on : (p o : ℕ) → OnOutputs (cut_sub m p o).graph
  cut_sub_on p o = cut_sub_each m (λ v. OnOutputs v.graph) p o (λ z w. on) (λ x. links_on m (unlink_port m.graph x).graph (unlink_nodes m.graph x) on)

  -- a tidy that takes a hidden node away
  pub direct_on : (p : ℕ) (d : Direction) → OnOutputs (link_directly m p d)
  unfolding link_directly
  direct_on p d = go (has_link m.graph (subport_at m p d 0))
    where
      far : ℕ
      far = far_port m.graph (subport_at m p d 0)

      bare : OnOutputs (unsplit m p)
      bare = (unsplit_hung m p hung).on

      go : (b : Bool) → OnOutputs (cond b (with_graph (unsplit m p) (link_ports (unsplit m p).graph p far).graph) (unsplit m p))
      go true = links_on (unsplit m p) (link_ports (unsplit m p).graph p far).graph (link_nodes (unsplit m p).graph p far) bare
      go false = bare

  -- linking subports prepares nothing
  pub sub_on : (p o q r : ℕ) → OnOutputs (link_sub_if false m p o q r).graph
  sub_on p o q r = link_sub_each m (λ v. OnOutputs v.graph) p o q r (λ z w. on) (λ x y. links_on m (link_ports m.graph x y).graph (link_nodes m.graph x y) on)
