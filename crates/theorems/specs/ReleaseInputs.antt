-- Under release 2 no input is split: every hidden node hangs on an output. A hidden node comes where a linked port is prepared, and a
-- link that names a linked input is refused before.
use Rattle.std.proofs.lemmas.Bool.{cases_eq}
use Rattle.std.specs.Prelude.{◌≡◌, Bool, eqb, ltb, length, Option, Some, None, Result, Ok, Err}
use Rattle.std.proofs.Math.Path.{refl, ap}
use Rattle.std.proofs.Common.{sym, ◌∙◌, subst, arith, get_or-set_other, ltb-true}
use Rattle.std.proofs.Math.Bool.{true, false, cond, not}
use mathlib.Core.List.{[], ◌++◌, flat_map}
use Rattle.std.proofs.Math.Logic.{⊎_elim}
use Prim.Native.Nat.{ℕ, ◌-◌, ◌≤◌}
use Rattle.port_tables.specs.Limits.{present}
use Rattle.port_tables.specs.Entries.{reversed}
use Rattle.portgraph.specs.Lookups.{num_ports, port_link}
use Rattle.portgraph.specs.Calls.{add_node, link_ports}
use Rattle.portgraph.specs.Model as model
use Rattle.portgraph.specs.Model.{Model, Far, nowhere, to, Slots, slot_of, count_of}
use Rattle.portgraph.specs.GoodSlots.{zero_is_not_one, slot_in_block}
use Rattle.port_tables.specs.declared.direction.Direction.{Direction}
use Rattle.port_tables.specs.declared.direction.Direction.TheVariants.{Incoming, Outgoing}
use Rattle.port_tables.specs.declared.index.NodeIndex.{NodeIndex}
use Rattle.port_tables.specs.declared.index.PortIndex.{PortIndex}
use Rattle.port_tables.specs.declared.node_entry.NodeMeta.{NodeMeta}
use Rattle.portgraph.specs.declared.portgraph.PortGraph.{PortGraph}
use Rattle.multiportgraph.specs.Reading.{is_hidden, is_split, has_link, is_linked, port_of, copy_node, copy_side, subports, seen, end_at, far_subport}
use Rattle.multi_tables.specs.Forms.{visible, subport#, wire_to, taken_under}
use Rattle.multiportgraph.specs.Graph.{with_subports}
use Rattle.multiportgraph.specs.WellFormed.{Fine, Seen, IsEnd, outer, WireIn}
use Rattle.multiportgraph.specs.Ends.{Hangs, block_seen, count_in_lem, count_of_lem, end_side, ends_join_ends, into_side, linked_is, outer_of_block, outer_side, split_has_copy, subport_count, unlinked_is, unsplit_is_end, wires_by_into}
use Rattle.multiportgraph.specs.HiddenStays.{true_not_false}
use Rattle.multiportgraph.specs.SplitLaws.{PreparedEnd}
use Rattle.multiportgraph.specs.PrepareLaws.{prepare_law}
use Rattle.multiportgraph.specs.RecountLaws.{SomeRecount, set_recounts, growth#}
use Rattle.multiportgraph.specs.HiddenNodes.{enough, grow, grown_by, grow_under, lowest_free, more, more_incoming, more_outgoing, prepare, prepare_under, ready, recounted, reuse, reuse_under, split, split_by, split_graph, split_port, split_under}
use Rattle.multiportgraph.specs.Tidy.{subports_left, left_incoming, left_outgoing, resized_within, drop_subports, link_directly, tidied}
use Rattle.multiportgraph.specs.TidyLaws.{DropWithin, within_is, within_set, left_within}
use Rattle.multiportgraph.specs.Wires.{subports_of_port, wire_of}
use Rattle.multiportgraph.specs.Walks.{fan_out, port_links}
use Rattle.port_tables.specs.Places.{Place, Wire, flag}
use Rattle.multiportgraph.specs.Refusals.{input_taken, wired_input}
use Rattle.multiportgraph.specs.Calls.{link_clean_if, link_pair_if, link_sub_if, tidy_port}
use Rattle.multiportgraph.specs.CaseLaws.{link_clean_taken, link_sub_taken, link_taken}
use Rattle.multiportgraph.specs.declared.multiportgraph.MultiPortGraph.{MultiPortGraph}
use Rattle.port_tables.specs.declared.release.Release.{Release}
use Rattle.port_tables.specs.declared.release.Release.TheVariants.{Two}
use Rattle.multiportgraph.specs.declared.multiportgraph.PortsLinked.{PortsLinked}
use Rattle.theorems.specs.Book as book
use Rattle.theorems.specs.Book.{Call}
use Rattle.theorems.specs.History.{step}
use Rattle.theorems.specs.CallCases.{link_each, clean_each, tidy_each}
use Rattle.theorems.specs.ReleaseHidden.{OnOutputs, add_counts, add_on, counts_same, cut_on, cut_sub_on, direct_on, link_nodes, links_on, remove_on, set_on, sub_on, table_count, unlink_nodes}
use Rattle.portgraph.specs.declared.portgraph.NoSuchPort.{NoSuchPort}
use Rattle.portgraph.specs.declared.alloc.AddError.TheVariants as add_error
use Rattle.portgraph.specs.declared.resize.SetError.TheVariants as set_error
use Rattle.portgraph.specs.declared.alloc.AddError.{AddError}
use Rattle.portgraph.specs.declared.resize.SetError.{SetError}
use Rattle.theorems.specs.PortCases.{free_unless}

-- a port that is not split has a wire exactly if it is linked
fan_of_unsplit : (m : MultiPortGraph) (p n : ℕ) (d : Direction) → seen m p ≡ visible n d → is_split m p ≡ false → fan_out m p ≡ flag (has_link m.graph p)
unfolding fan_out port_links subports_of_port wire_of end_at has_link flat_map
fan_of_unsplit m p n d e t = rw (e, t, t) (go (port_link m.graph p))
  where
    go : (v : Result (Option PortIndex) NoSuchPort) → length (wire_to (subport# p 0) (far_subport m v) ++ []) ≡ flag (is_linked v)
    go (Ok (Some q)) = refl
    go (Ok None) = refl
    go (Err q) = refl

module _ {m : MultiPortGraph} {M : Model} (f : Fine m M) (on : OnOutputs m) where
  -- an input of a block is not split
  pub input_whole : (p n : ℕ) → seen m p ≡ visible n Incoming → is_split m p ≡ false
  input_whole p n e = go (is_split m p) refl
    where
      go : (t : Bool) → is_split m p ≡ t → is_split m p ≡ false
      go false t = t
      go true t =
          let b = block_seen f p n Incoming e in
          let h = split_has_copy f b.place b.is_seen (ap (is_split m) b.slot ∙ t) in
          let s : 2 ≤ count_of (M.node h.copy) Incoming = subst (λ (d : Direction). 2 ≤ count_of (M.node h.copy) d) b.side h.several in
          let k = on h.copy h.is_copy in
          let c = count_of_lem f h.copy Incoming in
          absurd (omega arith)

  -- one that has no wire has no link,
  unwired : (p n : ℕ) → seen m p ≡ visible n Incoming → wired_input m p ≡ false → has_link m.graph p ≡ false
  unfolding wired_input
  unwired p n e w = go (has_link m.graph p) refl (sym (rw e (ap (λ (k : ℕ). not (eqb k 0)) (fan_of_unsplit m p n Incoming e (input_whole p n e)))) ∙ w)
    where
      go : (b : Bool) → has_link m.graph p ≡ b → not (eqb (flag (has_link m.graph p)) 0) ≡ false → has_link m.graph p ≡ false
      go false h k = h
      go true h k = absurd (true_not_false (ap (λ (b : Bool). not (eqb (flag b) 0)) h) k)

  -- and is ready as it is
  input_ready : (p n : ℕ) → seen m p ≡ visible n Incoming → wired_input m p ≡ false → prepare m p Incoming ≡ ready m p 0
  unfolding prepare_under
  input_ready p n e w = rw (input_whole p n e, unwired p n e w) refl

  -- Preparing an end of an output.

  -- the hidden node gets one more port, not an incoming one
  grow_on : (c : ℕ) (m' : MultiPortGraph) (x o : ℕ) → grow m c Outgoing ≡ ready m' x o → OnOutputs m'
  unfolding grow_under recounted is_hidden
  grow_on c m' x o = go (growth# m c Outgoing).answer refl
    where
      g' : PortGraph
      g' = (growth# m c Outgoing).graph

      grown : SomeRecount g' M c (more_incoming m.graph c Outgoing) (more_outgoing m.graph c Outgoing) → OnOutputs (more (recounted m c g'))
      grown s k h =
          let r = s.is in
          ⊎_elim
          (λ e.
          count_in_lem r.good r.holds k Incoming ∙ (ap (λ (v : Slots). count_of v Incoming) (ap s.model'.node e ∙ r.there) ∙ (r.ins ∙ (ap (λ (i : ℕ). num_ports m.graph i Incoming) (sym e) ∙ on k h))))
          (λ e. counts_same f.good f.holds r.good r.holds k Incoming (r.others k e) ∙ on k h)
          (cases_eq k c)

      go : (t : Result ℕ SetError) → (growth# m c Outgoing).answer ≡ t → grown_by m c Outgoing g' t ≡ ready m' x o → OnOutputs m'
      go (Ok e) q w =
          let is : more (recounted m c g') ≡ m' = cc in
          subst OnOutputs is (grown (set_recounts f.good f.holds c _ _ enough e q))
      go (Err set_error.TooManyPorts) q w = absurd (zero_is_not_one (cc))
      go (Err set_error.UnknownNode) q w = absurd (zero_is_not_one (cc))
      go (Err set_error.MovesTooShort) q w = absurd (zero_is_not_one (cc))
      go (Err set_error.NoRoom) q w = absurd (zero_is_not_one (cc))

  -- a hidden node comes, with one incoming port
  split_on : (p : ℕ) (m' : MultiPortGraph) (x o : ℕ) → split m p Outgoing ≡ ready m' x o → OnOutputs m'
  unfolding split_under split_port split_graph is_hidden
  split_on p m' x o = go (add_node m.graph 1 2).answer refl
    where
      g' : PortGraph
      g' = (add_node m.graph 1 2).graph

      nodes : (c : ℕ) → (split_graph g' p Outgoing c).node_meta ≡ g'.node_meta
      nodes c = link_nodes _ _ _ ∙ (link_nodes _ _ _ ∙ unlink_nodes g' p)

      divided : (c : NodeIndex) (first : PortIndex) → (add_node m.graph 1 2).answer ≡ Ok (c, first) → OnOutputs (split_port m p Outgoing g' c.0)
      divided c first q k h =
          let a = add_counts f.good f.holds 1 2 in
          table_count g' (split_graph g' p Outgoing c.0) (nodes c.0) k Incoming
          ∙ ⊎_elim (λ e. ap (λ (i : ℕ). num_ports g' i Incoming) e ∙ a.1 c first q)
          (λ e.
          let was = sym (get_or-set_other m.copy_node c.0 k true false e) ∙ h in
          let r = f.copy k was in
          a.0 k r.meta Incoming r.here ∙ on k was)
          (cases_eq k c.0)

      go : (t : Result (NodeIndex × PortIndex) AddError) → (add_node m.graph 1 2).answer ≡ t → split_by m p Outgoing g' t ≡ ready m' x o → OnOutputs m'
      go (Ok (c, first)) q w =
          let is : split_port m p Outgoing g' c.0 ≡ m' = cc in
          subst OnOutputs is (divided c first q)
      go (Err add_error.TooManyPorts) q w = absurd (zero_is_not_one (cc))
      go (Err add_error.NoRoom) q w = absurd (zero_is_not_one (cc))

  output_on : (p : ℕ) (m' : MultiPortGraph) (x o : ℕ) → prepare m p Outgoing ≡ ready m' x o → OnOutputs m'
  unfolding prepare_under reuse_under
  output_on p m' x o = go (is_split m p) (has_link m.graph p)
    where
      c : ℕ
      c = copy_node m p

      low : ℕ
      low = lowest_free m.graph c Outgoing 0 (subports m p Outgoing)

      found : (q r : ℕ) → ready m q r ≡ ready m' x o → OnOutputs m'
      found q r e = let is : m ≡ m' = cc in subst OnOutputs is on

      again : (r : ℕ) (b : Bool) → cond b (ready m (port_of m.graph c Outgoing r) r) (grow m c Outgoing) ≡ ready m' x o → OnOutputs m'
      again r true e = found _ _ e
      again r false e = grow_on c m' x o e

      go : (s l : Bool) → cond s (reuse m c Outgoing low) (cond l (split m p Outgoing) (ready m p 0)) ≡ ready m' x o → OnOutputs m'
      go true l e = again low (ltb low (num_ports m.graph c Outgoing)) e
      go false true e = split_on p m' x o e
      go false false e = found p 0 e

  -- Linking ports of which no input has a wire.

  -- what an end leaves
  end_on : (p n : ℕ) (d : Direction) → seen m p ≡ visible n d → wired_input m p ≡ false → (m' : MultiPortGraph) (x o : ℕ) → prepare m p d ≡ ready m' x o → OnOutputs m'
  end_on p n Outgoing e w m' x o g = output_on p m' x o g
  end_on p n Incoming e w m' x o g =
      let r : ready m p 0 ≡ ready m' x o = sym (input_ready p n e w) ∙ g in
      let is : m ≡ m' = cc in
      subst OnOutputs is on

  -- an end as it is prepared, in the model
  end_prepared : (p n : ℕ) (d : Direction) → seen m p ≡ visible n d → (m' : MultiPortGraph) (x o : ℕ) → prepare m p d ≡ ready m' x o →
      (z : model.InnerPlace) × (M' : Model) × PreparedEnd m M z m' M' x o × (z.side ≡ d)
  end_prepared p n d e m' x o g =
      let b = block_seen f p n d e in
      let r = prepare_law f b.place b.is_seen m' x o ((λ i. prepare m (b.slot i) (b.side i)) ∙ g) in
      (b.place, r.0, r.1, b.side)

  -- an input without a wire is as ready after an output was prepared
  input_still : (p n : ℕ) → seen m p ≡ visible n Incoming → wired_input m p ≡ false → (m' : MultiPortGraph) (M' : Model) (z : model.InnerPlace) (x o : ℕ) →
      PreparedEnd m M z m' M' x o → z.side ≡ Outgoing → prepare m' p Incoming ≡ ready m' p 0
  unfolding prepare_under
  input_still p n e w m' M' z x o r s =
      let b = block_seen f p n Incoming e in
      let plain : is_split m (slot_of M.node b.place) ≡ false = ap (is_split m) b.slot ∙ input_whole p n e in
      let kept = r.keeps b.place (unsplit_is_end f b.place b.is_seen plain) (free_unless (M.join b.place) (λ y j. true_not_false (ap (has_link m.graph) (sym b.slot) ∙ linked_is f b.place y j) (unwired p n e w))) (λ q. sides_apart (sym b.side ∙ (q ∙ s))) in
      let k = slot_in_block f.good b.place b.is_seen.0 in
      let shown = (r.blocks.0 b.place.node k.0 (b.is_seen.1, k.1)).0 in
      let slot : slot_of M'.node b.place ≡ p = kept.slot ∙ b.slot in
      let whole : is_split m' p ≡ false = ap (is_split m') (sym slot) ∙ kept.end.unsplit shown in
      let loose : has_link m'.graph p ≡ false = ap (has_link m'.graph) (sym slot) ∙ unlinked_is r.fine b.place kept.end.valid kept.free in
      rw (whole, loose) refl
    where
      sides_apart : Incoming ≡ Outgoing → ⊥
      sides_apart q = zero_is_not_one (cc)

module _ {m : MultiPortGraph} {M : Model} (f : Fine m M) (on : OnOutputs m) where
  -- both ends
  second_on : (a n : ℕ) (d : Direction) (b k : ℕ) (e : Direction) → seen m a ≡ visible n d → wired_input m a ≡ false → seen m b ≡ visible k e → wired_input m b ≡ false →
      (m₁ : MultiPortGraph) (x o : ℕ) → prepare m a d ≡ ready m₁ x o → (m₂ : MultiPortGraph) (y r : ℕ) → prepare m₁ b e ≡ ready m₂ y r → OnOutputs m₂
  second_on a n d b k Outgoing s w t v m₁ x o g m₂ y r h =
      let z = end_prepared f on a n d s m₁ x o g in
      output_on z.2.fine (end_on f on a n d s w m₁ x o g) b m₂ y r h
  second_on a n Outgoing b k Incoming s w t v m₁ x o g m₂ y r h =
      let z = end_prepared f on a n Outgoing s m₁ x o g in
      let q : ready m₁ b 0 ≡ ready m₂ y r = sym (input_still f on b k t v m₁ z.1 z.0 x o z.2 z.3) ∙ h in
      let is : m₁ ≡ m₂ = cc in
      subst OnOutputs is (end_on f on a n Outgoing s w m₁ x o g)
  second_on a n Incoming b k Incoming s w t v m₁ x o g m₂ y r h =
      let p : ready m a 0 ≡ ready m₁ x o = sym (input_ready f on a n s w) ∙ g in
      let same : m ≡ m₁ = cc in
      end_on f on b k Incoming t v m₂ y r (ap (λ (u : MultiPortGraph). prepare u b Incoming) same ∙ h)

  link_on : (a b : ℕ) → wired_input m a ≡ false → wired_input m b ≡ false → OnOutputs (link_pair_if false present m a b).graph
  link_on a b wa wb =
      link_each m (λ v. OnOutputs v.graph) a b (λ z w. on) (λ n d s m₁ x o g z w. end_on f on a n d s wa m₁ x o g)
      (λ n d s k e t m₁ x o g m₂ y r h.
      let both = second_on a n d b k e s wa t wb m₁ x o g m₂ y r h in ((λ z w. both), links_on m₂ (link_ports m₂.graph x y).graph (link_nodes m₂.graph x y) both))

  clean_on : (a b : ℕ) → wired_input m a ≡ false → wired_input m b ≡ false → OnOutputs (link_clean_if false present m a b).graph
  clean_on a b wa wb = clean_each m (λ v. OnOutputs v.graph) a b (λ z w. on) (link_on a b wa wb)

  -- Tidying a port.

  -- how many incoming ports a hidden node of an output is left with
  one_in : (d : Direction) (n : ℕ) → d ≡ Outgoing → left_incoming d n ≡ 1
  one_in Outgoing n e = refl
  one_in Incoming n e = absurd (zero_is_not_one (cc))

  -- the hidden node of an output is left with some of its subports
  drop_on : (c : ℕ) (k : NodeMeta) (d : Direction) (n : ℕ) → d ≡ Outgoing → DropWithin m.graph c k (left_incoming d n) (left_outgoing d n) → OnOutputs (drop_subports m c d n)
  unfolding drop_subports recounted is_hidden
  drop_on c k d n out w =
      let e = within_set w in
      left (resized_within m.graph c (left_incoming d n) (left_outgoing d n))
      (subst (λ (g : PortGraph). SomeRecount g M c (left_incoming d n) (left_outgoing d n)) (sym (within_is w)) (set_recounts f.good f.holds c (left_incoming d n) (left_outgoing d n) enough e.0 e.1))
    where
      left : (g : PortGraph) → SomeRecount g M c (left_incoming d n) (left_outgoing d n) → OnOutputs (with_subports (recounted m c g) (m.subport_count - (num_ports m.graph c d - n)))
      left g s i h =
          let r = s.is in
          ⊎_elim (λ e. count_in_lem r.good r.holds i Incoming ∙ (ap (λ (v : Slots). count_of v Incoming) (ap s.model'.node e ∙ r.there) ∙ (r.ins ∙ one_in d n out)))
          (λ e. counts_same f.good f.holds r.good r.holds i Incoming (r.others i e) ∙ on i h)
          (cases_eq i c)

  tidied_on : (x : model.InnerPlace) → Seen m M x → x.side ≡ Outgoing → is_split m (slot_of M.node x) ≡ true → OnOutputs (tidied m (slot_of M.node x) x.side)
  unfolding tidied
  tidied_on x sx out s = go (ltb 1 left) refl
    where
      left : ℕ
      left = subports_left m (slot_of M.node x) x.side

      h : Hangs m M x
      h = split_has_copy f x sx s

      go : (b : Bool) → ltb 1 left ≡ b → OnOutputs (cond b (drop_subports m (copy_node m (slot_of M.node x)) x.side left) (link_directly m (slot_of M.node x) x.side))
      go true e =
          subst (λ (c : ℕ). OnOutputs (drop_subports m c x.side left)) (sym h.copy_is)
          (drop_on h.copy (f.copy h.copy h.is_copy).meta x.side left out (left_within f x sx h (ltb-true 1 left e)))
      go false e = direct_on f on (slot_of M.node x) x.side

  tidy_on : (p : ℕ) → OnOutputs (tidy_port m p).graph
  tidy_on p = tidy_each m (λ v. OnOutputs v.graph) p (λ z w. on) here
    where
      here : (n : ℕ) (d : Direction) → seen m p ≡ visible n d → (b : Bool) → is_split m p ≡ b → OnOutputs (cond b (tidied m p d) m)
      here n d e false s = on
      here n Incoming e true s = absurd (true_not_false s (input_whole f on p n e))
      here n Outgoing e true s =
          let b = block_seen f p n Outgoing e in
          subst (λ (d : Direction). OnOutputs (tidied m p d)) b.side
          (subst (λ (q : ℕ). OnOutputs (tidied m q b.place.side)) b.slot (tidied_on b.place b.is_seen b.side (ap (is_split m) b.slot ∙ s)))

  -- Every call under release 2.

  module _ (two : m.release ≡ Two) where
    neither : (a b : ℕ) → input_taken m a b ≡ false → (wired_input m a ≡ false) × (wired_input m b ≡ false)
    unfolding input_taken
    neither a b h = go (wired_input m a) (wired_input m b) refl refl (sym (ap (λ (v : Release). taken_under v (wired_input m a) (wired_input m b)) two) ∙ h)
      where
        go : (x y : Bool) → wired_input m a ≡ x → wired_input m b ≡ y → cond (wired_input m a) true (wired_input m b) ≡ false → (wired_input m a ≡ false) × (wired_input m b ≡ false)
        go true y p q e = absurd (true_not_false (rw p refl) e)
        go false true p q e = absurd (true_not_false (rw (p, q) refl) e)
        go false false p q e = (p, q)

    pub step_on : (c : Call) → OnOutputs (step m c).graph
    step_on (book.add_call i o) = add_on f on i o
    step_on (book.remove_call n) = remove_on f on n
    step_on (book.set_call n i o room) = set_on f on n i o room
    step_on (book.link_call a b) = go (input_taken m a b) refl
      where
        go : (t : Bool) → input_taken m a b ≡ t → OnOutputs (link_pair_if t present m a b).graph
        go true e = subst (λ (v : PortsLinked). OnOutputs v.graph) (sym (link_taken present m a b)) on
        go false e = let w = neither a b e in link_on a b w.0 w.1
    step_on (book.link_clean_call a b) = go (input_taken m a b) refl
      where
        go : (t : Bool) → input_taken m a b ≡ t → OnOutputs (link_clean_if t present m a b).graph
        go true e = subst (λ (v : PortsLinked). OnOutputs v.graph) (sym (link_clean_taken present m a b)) on
        go false e = let w = neither a b e in clean_on a b w.0 w.1
    step_on (book.link_sub_call p o q r) = go (input_taken m p q) refl
      where
        go : (t : Bool) → input_taken m p q ≡ t → OnOutputs (link_sub_if t m p o q r).graph
        go true e = subst (λ (v : PortsLinked). OnOutputs v.graph) (sym (link_sub_taken m p o q r)) on
        go false e = sub_on f on p o q r
    step_on (book.cut_call p) = cut_on f on p
    step_on (book.cut_sub_call p o) = cut_sub_on f on p o
    step_on (book.tidy_call p) = tidy_on p

-- Two wires that end at one input are one: its offset is 0.

module _ {m : MultiPortGraph} {M : Model} (f : Fine m M) (on : OnOutputs m) where
  whole_end : (w : Wire) → WireIn m M w → w.into.offset ≡ 0
  whole_end w h = go (is_hidden m h.y.node) refl
    where
      into : w.into ≡ outer m M h.y
      into = ap (λ (v : Wire). v.into) h.is

      end : IsEnd m M h.y
      end = ends_join_ends f h.x h.y h.end h.joined

      side : h.y.side ≡ Incoming
      side = sym (outer_side f h.y end) ∙ (ap (λ (p : Place). p.side) (sym into) ∙ into_side f w h)

      go : (b : Bool) → is_hidden m h.y.node ≡ b → w.into.offset ≡ 0
      go false e = ap (λ (p : Place). p.offset) (into ∙ outer_of_block f h.y e)
      go true e =
          let s : reversed (copy_side m h.y.node) ≡ Incoming = sym (end_side f h.y end e) ∙ side in
          let k : 2 ≤ count_of (M.node h.y.node) Incoming = subst (λ (d : Direction). 2 ≤ count_of (M.node h.y.node) d) s (subport_count f h.y.node e) in
          let c = count_of_lem f h.y.node Incoming in
          let i = on h.y.node e in
          absurd (omega arith)

  pub one_wire : (w v : Wire) → WireIn m M w → WireIn m M v → w.into.node ≡ v.into.node → w.into.pos ≡ v.into.pos → w ≡ v
  one_wire w v h k n p =
      let s = into_side f w h ∙ sym (into_side f v k) in
      let o = whole_end w h ∙ sym (whole_end v k) in
      wires_by_into f w v h k (λ i. record { node = n i; side = s i; pos = p i; offset = o i })
