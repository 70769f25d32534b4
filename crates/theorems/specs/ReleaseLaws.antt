-- No call looks at the release but for the check of 18: on a graph made for another release each does the same.
use Rattle.std.specs.Prelude.{◌≡◌, leb, ltb, Option, Some, None, Result, Ok, Err}
use Rattle.std.proofs.Math.Path.{refl, ap}
use Rattle.std.proofs.Common.{sym, ◌∙◌}
use Rattle.std.proofs.Math.Bool.{Bool, true, false, cond}
use mathlib.Core.List.{List, [], ◌∷◌, ◌++◌}
use Prim.Native.Nat.{ℕ, zero, suc, ◌+◌, ◌-◌, min}
use Rattle.port_tables.specs.Limits.{Limits, node_ports}
use Rattle.port_tables.specs.Entries.{same_side}
use Rattle.portgraph.specs.Lookups.{meta_at, port_at, num_ports}
use Rattle.portgraph.specs.Calls.{add_node_under, link_ports, remove_node, unlink_port}
use Rattle.portgraph.specs.Resize.{set_num_ports_under}
use Rattle.port_tables.specs.declared.direction.Direction.{Direction}
use Rattle.port_tables.specs.declared.node_entry.NodeMeta.{NodeMeta}
use Rattle.port_tables.specs.declared.port_entry.PortEntry.{PortEntry}
use Rattle.port_tables.specs.declared.port_entry.PortEntry.TheVariants as port_variants
use Rattle.portgraph.specs.declared.portgraph.PortGraph.{PortGraph}
use Rattle.multiportgraph.specs.Reading.{is_hidden, is_split, has_link, port_of, seen, seen_entry, side_of, end_at, subports, subport_at, copy_node, copy_side, main_port, as_read, subport_of, far_port, place_of, standing, standing_of, far_subport, owner_of, position_of, port_place}
use Rattle.multi_tables.specs.Forms.{Port, dead, hidden, visible, End, inner, lacking, subport#, good_offset}
use Rattle.multiportgraph.specs.HiddenNodes.{copies_dropped, copies_in, full, grown_by, grow_under, lowest_free, Prepared, prepare_under, ready, recounted, remove_all, remove_copy, remove_lone, reuse_under, split_by, split_port, split_under, unsplit, unsplit_range}
use Rattle.multiportgraph.specs.Graph.{with_graph}
use Rattle.multiportgraph.specs.Calls.{add_block_under, remove_block, set_as, set_counts_under, cut_port, cut_sub, cut_plain, drop_block, link_pair_if, link_clean_if, link_sub_if, tidy_port}
use Rattle.multiportgraph.specs.Cases.{cut_end, cut_refused, cut_seen, remove_refused, cut_sub_seen, link_clean_by, link_first, link_first_end, link_inner, link_live_under, link_prepared, link_refused, link_second, link_second_end, link_seen_under, link_sub_seen, remove_meta, resized, set_meta_under, set_refused, tidy_seen}
use Rattle.multi_tables.specs.NamedEnds.{pair_seen}
use Rattle.multiportgraph.specs.CaseLaws.{add_cases, remove_cases, set_cases, link_cases, link_clean_cases, link_sub_cases, cut_sub_cases, tidy_cases}
use Rattle.multiportgraph.proofs.CutLaws.{cut_cases}
use Rattle.multiportgraph.specs.Tidy.{subports_left, drop_subports, link_directly, tidied}
use Rattle.multiportgraph.specs.declared.multiportgraph.MultiPortGraph.{MultiPortGraph}
use Rattle.port_tables.specs.declared.release.Release.{Release}
use Rattle.multi_tables.specs.declared.answers.SubportIndex.{SubportIndex}
use Rattle.multiportgraph.specs.declared.multiportgraph.NodeAdded.{NodeAdded}
use Rattle.multiportgraph.specs.declared.multiportgraph.NodeRemoved.{NodeRemoved}
use Rattle.multiportgraph.specs.declared.multiportgraph.PortsSet.{PortsSet}
use Rattle.multiportgraph.specs.declared.multiportgraph.PortsLinked.{PortsLinked}
use Rattle.multiportgraph.specs.declared.multiportgraph.PortUnlinked.{PortUnlinked}
use Rattle.multiportgraph.specs.declared.multiportgraph.PortTidied.{PortTidied}
use Rattle.multi_tables.specs.declared.answers.Refusal.TheVariants.{BadOffset, TooManyPorts, HiddenNode}
use Rattle.theorems.specs.ReleaseClaims.{for_release}
use Rattle.port_tables.specs.declared.index.PortIndex.{PortIndex}
use Rattle.portgraph.specs.declared.portgraph.NoSuchPort.{NoSuchPort}
use Rattle.multi_tables.specs.declared.answers.Refusal.{Refusal}
use Rattle.multi_tables.specs.declared.answers.PortPlace.{PortPlace}
use Rattle.portgraph.specs.declared.alloc.AddError.TheVariants as add_error
use Rattle.portgraph.specs.declared.portgraph.LinkError.TheVariants as link_error
use Rattle.portgraph.specs.declared.resize.SetError.TheVariants as set_error
use Rattle.port_tables.specs.declared.index.NodeIndex.{NodeIndex}
use Rattle.portgraph.specs.declared.alloc.AddError.{AddError}
use Rattle.portgraph.specs.declared.portgraph.LinkError.{LinkError}
use Rattle.portgraph.specs.declared.resize.SetError.{SetError}

module _ (r : Release) where
  -- What is read.

  module _ (m : MultiPortGraph) where
    pub seen_for : (p : ℕ) → seen (for_release r m) p ≡ seen m p
    unfolding seen is_hidden
    seen_for p = go (port_at m.graph p)
      where
        go : (e : PortEntry) → seen_entry (for_release r m) e ≡ seen_entry m e
        go port_variants.Free = refl
        go (port_variants.Port k) = refl

    pub end_for : (p : ℕ) (d : Direction) (o : ℕ) → end_at (for_release r m) p d o ≡ end_at m p d o
    unfolding end_at is_split subports copy_node subport_at
    end_for p d o = refl

    subport_for : (q : ℕ) → subport_of (for_release r m) q ≡ subport_of m q
    unfolding subport_of is_hidden main_port copy_side is_split
    subport_for q = refl

    place_for : (s : SubportIndex) → place_of (for_release r m) s ≡ place_of m s
    unfolding place_of
    place_for s =
        λ i. record {
          node = owner_of m.graph s.port.0;
          side = side_of (seen_for s.port.0 i);
          pos = position_of m.graph s.port.0;
          offset = s.subport_offset;
        }

    standing_for : (q : ℕ) → standing_of (for_release r m) q ≡ standing_of m q
    standing_for q = ap (standing (for_release r m)) (subport_for q) ∙ ap port_place (place_for (subport_of m q))

  -- Hidden nodes that go.

  copy_for : (m : MultiPortGraph) (p c : ℕ) → remove_copy (for_release r m) p c ≡ for_release r (remove_copy m p c)
  unfolding remove_copy copy_side is_split
  copy_for m p c = refl

  unsplit_for : (m : MultiPortGraph) (p : ℕ) → unsplit (for_release r m) p ≡ for_release r (unsplit m p)
  unfolding unsplit is_split copy_node
  unsplit_for m p = go (is_split m p)
    where
      go : (b : Bool) → cond b (remove_copy (for_release r m) p (copy_node m p)) (for_release r m) ≡ for_release r (cond b (remove_copy m p (copy_node m p)) m)
      go true = copy_for m p (copy_node m p)
      go false = refl

  range_for : (m : MultiPortGraph) (p n : ℕ) → unsplit_range (for_release r m) p n ≡ for_release r (unsplit_range m p n)
  unfolding unsplit_range
  range_for m p zero = refl
  range_for m p (suc n) = ap (λ (k : MultiPortGraph). unsplit_range k (suc p) n) (unsplit_for m p) ∙ range_for (unsplit m p) (suc p) n

  lone_for : (m : MultiPortGraph) (c : ℕ) → remove_lone (for_release r m) c ≡ for_release r (remove_lone m c)
  unfolding remove_lone remove_copy copy_side is_split
  lone_for m c = refl

  all_for : (m : MultiPortGraph) (l : List ℕ) → remove_all (for_release r m) l ≡ for_release r (remove_all m l)
  unfolding remove_all
  all_for m [] = refl
  all_for m (c ∷ l) = ap (λ (k : MultiPortGraph). remove_all k l) (lone_for m c) ∙ all_for (remove_lone m c) l

  recounted_for : (m : MultiPortGraph) (n : ℕ) (g : PortGraph) → recounted (for_release r m) n g ≡ for_release r (recounted m n g)
  unfolding recounted
  recounted_for m n g = refl

  copies_for : (m : MultiPortGraph) (p n : ℕ) → copies_in (for_release r m) p n ≡ copies_in m p n
  unfolding copies_in is_split copy_node
  copies_for m p zero = refl
  copies_for m p (suc n) = ap (λ (l : List ℕ). cond (is_split m p) (copy_node m p ∷ l) l) (copies_for m (suc p) n)

  dropped_for : (m : MultiPortGraph) (k : NodeMeta) (i o : ℕ) → copies_dropped (for_release r m) k i o ≡ copies_dropped m k i o
  unfolding copies_dropped
  dropped_for m k i o =
      ap (λ (l : List ℕ). l ++ copies_in (for_release r m) (k.first_port.0 + k.incoming + min k.outgoing o) (k.outgoing - min k.outgoing o))
      (copies_for m (k.first_port.0 + min k.incoming i) (k.incoming - min k.incoming i))
      ∙ ap (λ (l : List ℕ). copies_in m (k.first_port.0 + min k.incoming i) (k.incoming - min k.incoming i) ++ l)
      (copies_for m (k.first_port.0 + k.incoming + min k.outgoing o) (k.outgoing - min k.outgoing o))

  -- Ends that are prepared.

  abbrev prepared_for : Prepared → Prepared
  prepared_for (ready m x o) = ready (for_release r m) x o
  prepared_for full = full

  split_for : (L : Limits) (m : MultiPortGraph) (p : ℕ) (d : Direction) → split_under L (for_release r m) p d ≡ prepared_for (split_under L m p d)
  unfolding split_under split_port
  split_for L m p d = go _ (add_node_under L m.graph _ _).answer
    where
      go : (g : PortGraph) (a : Result (NodeIndex × PortIndex) AddError) → split_by (for_release r m) p d g a ≡ prepared_for (split_by m p d g a)
      go g (Ok (c, first)) = refl
      go g (Err add_error.TooManyPorts) = refl
      go g (Err add_error.NoRoom) = refl

  grow_for : (L : Limits) (m : MultiPortGraph) (c : ℕ) (d : Direction) → grow_under L (for_release r m) c d ≡ prepared_for (grow_under L m c d)
  unfolding grow_under recounted
  grow_for L m c d = go _ (set_num_ports_under L m.graph c _ _ _).answer
    where
      go : (g : PortGraph) (a : Result ℕ SetError) → grown_by (for_release r m) c d g a ≡ prepared_for (grown_by m c d g a)
      go g (Ok e) = refl
      go g (Err set_error.TooManyPorts) = refl
      go g (Err set_error.UnknownNode) = refl
      go g (Err set_error.MovesTooShort) = refl
      go g (Err set_error.NoRoom) = refl

  either_for : (b : Bool) (x y : Prepared) {x' y' : Prepared} → x' ≡ prepared_for x → y' ≡ prepared_for y → cond b x' y' ≡ prepared_for (cond b x y)
  either_for true x y p q = p
  either_for false x y p q = q

  reuse_for : (L : Limits) (m : MultiPortGraph) (c : ℕ) (d : Direction) (o : ℕ) → reuse_under L (for_release r m) c d o ≡ prepared_for (reuse_under L m c d o)
  unfolding reuse_under
  reuse_for L m c d o = either_for (ltb o (num_ports m.graph c d)) (ready m (port_of m.graph c d o) o) (grow_under L m c d) refl (grow_for L m c d)

  pub prepare_for : (L : Limits) (m : MultiPortGraph) (p : ℕ) (d : Direction) → prepare_under L (for_release r m) p d ≡ prepared_for (prepare_under L m p d)
  unfolding prepare_under is_split copy_node subports
  prepare_for L m p d =
      let o = lowest_free m.graph (copy_node m p) d 0 (subports m p d) in
      either_for (is_split m p) (reuse_under L m (copy_node m p) d o) (cond (has_link m.graph p) (split_under L m p d) (ready m p 0))
      (reuse_for L m (copy_node m p) d o)
      (either_for (has_link m.graph p) (split_under L m p d) (ready m p 0) (split_for L m p d) refl)

  -- The calls.

  abbrev added_for : NodeAdded → NodeAdded
  added_for v = record { graph = for_release r v.graph; answer = v.answer }

  abbrev removed_for : NodeRemoved → NodeRemoved
  removed_for v = record { graph = for_release r v.graph; answer = v.answer }

  abbrev set_for : PortsSet → PortsSet
  set_for v = record { graph = for_release r v.graph; answer = v.answer }

  abbrev linked_for : PortsLinked → PortsLinked
  linked_for v = record { graph = for_release r v.graph; answer = v.answer }

  abbrev cut_for : PortUnlinked → PortUnlinked
  cut_for v = record { graph = for_release r v.graph; answer = v.answer }

  abbrev tidied_for : PortTidied → PortTidied
  tidied_for v = record { graph = for_release r v.graph; answer = v.answer }

  pub add_for : (L : Limits) (m : MultiPortGraph) (i o : ℕ) → add_block_under L (for_release r m) i o ≡ added_for (add_block_under L m i o)
  add_for L m i o = add_cases L (for_release r m) i o ∙ ap added_for (sym (add_cases L m i o))

  pub remove_for : (m : MultiPortGraph) (n : ℕ) → remove_block (for_release r m) n ≡ removed_for (remove_block m n)
  unfolding drop_block is_hidden
  remove_for m n = remove_cases (for_release r m) n ∙ (go (meta_at m.graph n) ∙ ap removed_for (sym (remove_cases m n)))
    where
      dropped : (k : NodeMeta) → drop_block (for_release r m) n k ≡ for_release r (drop_block m n k)
      dropped k = ap (λ (u : MultiPortGraph). with_graph u (remove_node u.graph n).graph) (range_for m _ _)

      go : (v : Option NodeMeta) → remove_meta (for_release r m) n v ≡ removed_for (remove_meta m n v)
      go None = refl
      go (Some k) = shown (is_hidden m n)
        where
          shown : (b : Bool) → cond b (remove_refused (for_release r m) HiddenNode) (record { graph = drop_block (for_release r m) n k; answer = Ok tt })
              ≡ removed_for (cond b (remove_refused m HiddenNode) (record { graph = drop_block m n k; answer = Ok tt }))
          shown true = refl
          shown false = ap (λ (u : MultiPortGraph). record { graph = u; answer = Ok tt }) (dropped k)

  pub set_for_lem : (L : Limits) (m : MultiPortGraph) (n i o room : ℕ) → set_counts_under L (for_release r m) n i o room ≡ set_for (set_counts_under L m n i o room)
  unfolding is_hidden
  set_for_lem L m n i o room =
      set_cases L (for_release r m) n i o room ∙ (few (leb (i + o) node_ports) ∙ ap set_for (sym (set_cases L m n i o room)))
    where
      g' : PortGraph
      g' = (set_num_ports_under L m.graph n i o room).graph

      done : (k : NodeMeta) (a : Result ℕ SetError) → resized (for_release r m) n k i o g' a ≡ for_release r (resized m n k i o g' a)
      done k (Ok e) = (λ z. remove_all (recounted_for m n g' z) (dropped_for m k i o z)) ∙ all_for (recounted m n g') (copies_dropped m k i o)
      done k (Err set_error.TooManyPorts) = refl
      done k (Err set_error.UnknownNode) = refl
      done k (Err set_error.MovesTooShort) = refl
      done k (Err set_error.NoRoom) = refl

      node : (v : Option NodeMeta) → set_meta_under L (for_release r m) n i o room v ≡ set_for (set_meta_under L m n i o room v)
      node None = refl
      node (Some k) = shown (is_hidden m n)
        where
          a' : Result ℕ SetError
          a' = (set_num_ports_under L m.graph n i o room).answer

          shown : (b : Bool) → cond b (set_refused (for_release r m) HiddenNode) (record { graph = resized (for_release r m) n k i o g' a'; answer = set_as a' })
              ≡ set_for (cond b (set_refused m HiddenNode) (record { graph = resized m n k i o g' a'; answer = set_as a' }))
          shown true = refl
          shown false = ap (λ (u : MultiPortGraph). record { graph = u; answer = set_as a' }) (done k a')

      few : (b : Bool) → cond b (set_meta_under L (for_release r m) n i o room (meta_at m.graph n)) (set_refused (for_release r m) TooManyPorts)
          ≡ set_for (cond b (set_meta_under L m n i o room (meta_at m.graph n)) (set_refused m TooManyPorts))
      few true = node (meta_at m.graph n)
      few false = refl

  pub link_for : (L : Limits) (m : MultiPortGraph) (a b : ℕ) → link_pair_if false L (for_release r m) a b ≡ linked_for (link_pair_if false L m a b)
  link_for L m a b =
      link_cases L (for_release r m) a b
      ∙ ((λ z. link_seen_under L (for_release r m) a b (seen_for m a z) (seen_for m b z)) ∙ (go (seen m a) (seen m b) ∙ ap linked_for (sym (link_cases L m a b))))
    where
      first : (P : Prepared) → link_first (for_release r m) b (prepared_for P) ≡ linked_for (link_first m b P)
      first full = refl
      first (ready m₁ x o) = refl

      second : (d : Direction) (x o : ℕ) (e : Direction) (Q : Prepared) → link_second (for_release r m) a d x o b e (prepared_for Q) ≡ linked_for (link_second m a d x o b e Q)
      second d x o e full = refl
      second d x o e (ready m₂ y s) = sides (same_side d e) refl
        where
          sides : (c : Bool) → same_side d e ≡ c → link_prepared (for_release r m₂) a d x o b e y s ≡ linked_for (link_prepared m₂ a d x o b e y s)
          sides true j = rw j refl
          sides false j = rw j refl

      live : (d e : Direction) (P : Prepared) → link_live_under L (for_release r m) a d b e (prepared_for P) ≡ linked_for (link_live_under L m a d b e P)
      live d e full = refl
      live d e (ready m₁ x o) = ap (link_second (for_release r m) a d x o b e) (prepare_for L m₁ b e) ∙ second d x o e (prepare_under L m₁ b e)

      go : (u v : Port) → link_seen_under L (for_release r m) a b u v ≡ linked_for (link_seen_under L m a b u v)
      go dead v = refl
      go hidden v = refl
      go (visible n d) hidden = refl
      go (visible n d) dead = ap (link_first (for_release r m) b) (prepare_for L m a d) ∙ first (prepare_under L m a d)
      go (visible n d) (visible k e) = ap (link_live_under L (for_release r m) a d b e) (prepare_for L m a d) ∙ live d e (prepare_under L m a d)

  pub clean_for : (L : Limits) (m : MultiPortGraph) (a b : ℕ) → link_clean_if false L (for_release r m) a b ≡ linked_for (link_clean_if false L m a b)
  clean_for L m a b =
      link_clean_cases L (for_release r m) a b
      ∙ ((λ z. link_clean_by L (for_release r m) a b (pair_seen a b (seen_for m a z) (seen_for m b z)))
      ∙ (go (pair_seen a b (seen m a) (seen m b)) ∙ ap linked_for (sym (link_clean_cases L m a b))))
    where
      go : (v : Result (Unit {0}) Refusal) → link_clean_by L (for_release r m) a b v ≡ linked_for (link_clean_by L m a b v)
      go (Err x) = refl
      go (Ok tt) = link_for L m a b

  pub sub_for : (m : MultiPortGraph) (p o q s : ℕ) → link_sub_if false (for_release r m) p o q s ≡ linked_for (link_sub_if false m p o q s)
  unfolding as_read is_split end_at subports subport_at copy_node
  sub_for m p o q s =
      link_sub_cases (for_release r m) p o q s
      ∙ ((λ z. good (good_offset o) (good_offset s) (link_sub_seen (for_release r m) p o q s (seen_for m p z) (seen_for m q z)) (for_release r m))
      ∙ (offsets (good_offset o) (good_offset s) ∙ ap linked_for (sym (link_sub_cases m p o q s))))
    where
      good : Bool → Bool → PortsLinked → MultiPortGraph → PortsLinked
      good x y v k = cond x (cond y v (link_refused k BadOffset)) (link_refused k BadOffset)

      inside : (a : Result (PortIndex × PortIndex) LinkError) (g : PortGraph) (x y : SubportIndex) → link_inner (for_release r m) x y a g ≡ linked_for (link_inner m x y a g)
      inside (Ok (x, y)) g t u = refl
      inside (Err (link_error.UnknownPort x)) g t u = refl
      inside (Err (link_error.UnknownSecondPort y)) g t u = refl
      inside (Err (link_error.IncompatibleDirections x y d)) g t u = refl
      inside (Err (link_error.AlreadyLinked x)) g t u = refl

      second : (x : ℕ) (v : End) → link_second_end (for_release r m) p o q s x v ≡ linked_for (link_second_end m p o q s x v)
      second x lacking = refl
      second x (inner y) = inside (link_ports m.graph x y).answer (link_ports m.graph x y).graph (as_read m p o) (as_read m q s)

      first : (w : Port) (v : End) → link_first_end (for_release r m) p o q s w v ≡ linked_for (link_first_end m p o q s w v)
      first w lacking = refl
      first dead (inner x) = refl
      first hidden (inner x) = refl
      first (visible k e) (inner x) = second x (end_at m q e s)

      go : (u v : Port) → link_sub_seen (for_release r m) p o q s u v ≡ linked_for (link_sub_seen m p o q s u v)
      go dead v = refl
      go hidden v = refl
      go (visible n d) hidden = refl
      go (visible n d) dead = first dead (end_at m p d o)
      go (visible n d) (visible k e) = first (visible k e) (end_at m p d o)

      offsets : (x y : Bool) → good x y (link_sub_seen (for_release r m) p o q s (seen m p) (seen m q)) (for_release r m)
          ≡ linked_for (good x y (link_sub_seen m p o q s (seen m p) (seen m q)) m)
      offsets true true = go (seen m p) (seen m q)
      offsets true false = refl
      offsets false y = refl

  cut_answer_for : (m : MultiPortGraph) (v : Result (Option PortIndex) NoSuchPort) → cut_plain (for_release r m) v ≡ cut_plain m v
  cut_answer_for m (Ok (Some q)) = ap (λ (x : PortPlace). Ok (Some (subport# q.0 0, x))) (standing_for m q.0)
  cut_answer_for m (Ok None) = refl
  cut_answer_for m (Err p) = refl

  far_for : (m : MultiPortGraph) (v : Result (Option PortIndex) NoSuchPort) → far_subport (for_release r m) v ≡ far_subport m v
  far_for m (Ok (Some q)) = λ z. Ok (Some (subport_for m q.0 z, standing_for m q.0 z))
  far_for m (Ok None) = refl
  far_for m (Err p) = refl

  pub cut_for_lem : (m : MultiPortGraph) (p : ℕ) → cut_port (for_release r m) p ≡ cut_for (cut_port m p)
  unfolding is_split
  cut_for_lem m p =
      cut_cases (for_release r m) p ∙ (ap (cut_seen (for_release r m) p) (seen_for m p) ∙ (go (seen m p) ∙ ap cut_for (sym (cut_cases m p))))
    where
      here : (b : Bool) → is_split m p ≡ b → (n : ℕ) (d : Direction) → cut_seen (for_release r m) p (visible n d) ≡ cut_for (cut_seen m p (visible n d))
      here true e n d = rw e (λ z. record { graph = unsplit_for m p z; answer = Ok (Some (subport# p 0, port_place (place_for m (subport# p 0) z))) })
      here false e n d = rw e (ap (λ (v : Result (Option (SubportIndex × PortPlace)) Refusal). record { graph = for_release r (with_graph m (unlink_port m.graph p).graph); answer = v }) (cut_answer_for m (unlink_port m.graph p).answer))

      go : (u : Port) → cut_seen (for_release r m) p u ≡ cut_for (cut_seen m p u)
      go dead = refl
      go hidden = refl
      go (visible n d) = here (is_split m p) refl n d

  pub cut_sub_for : (m : MultiPortGraph) (p o : ℕ) → cut_sub (for_release r m) p o ≡ cut_for (cut_sub m p o)
  cut_sub_for m p o =
      cut_sub_cases (for_release r m) p o
      ∙ (ap (λ (u : Port). cond (good_offset o) (cut_sub_seen (for_release r m) p o u) (cut_refused (for_release r m) BadOffset)) (seen_for m p)
      ∙ (good (good_offset o) ∙ ap cut_for (sym (cut_sub_cases m p o))))
    where
      at : (v : End) → cut_end (for_release r m) p v ≡ cut_for (cut_end m p v)
      at lacking = refl
      at (inner x) = ap (λ (v : Result (Option (SubportIndex × PortPlace)) Refusal). record { graph = for_release r (with_graph m (unlink_port m.graph x).graph); answer = v }) (far_for m (unlink_port m.graph x).answer)

      go : (u : Port) → cut_sub_seen (for_release r m) p o u ≡ cut_for (cut_sub_seen m p o u)
      go dead = refl
      go hidden = refl
      go (visible n d) = ap (cut_end (for_release r m) p) (end_for m p d o) ∙ at (end_at m p d o)

      good : (b : Bool) → cond b (cut_sub_seen (for_release r m) p o (seen m p)) (cut_refused (for_release r m) BadOffset)
          ≡ cut_for (cond b (cut_sub_seen m p o (seen m p)) (cut_refused m BadOffset))
      good true = go (seen m p)
      good false = refl

  -- Tidying.

  drop_for : (m : MultiPortGraph) (c : ℕ) (d : Direction) (n : ℕ) → drop_subports (for_release r m) c d n ≡ for_release r (drop_subports m c d n)
  unfolding drop_subports recounted
  drop_for m c d n = refl

  direct_for : (m : MultiPortGraph) (p : ℕ) (d : Direction) → link_directly (for_release r m) p d ≡ for_release r (link_directly m p d)
  unfolding link_directly subport_at copy_node
  direct_for m p d = go (has_link m.graph (subport_at m p d 0))
    where
      far : ℕ
      far = far_port m.graph (subport_at m p d 0)

      go : (b : Bool) → cond b (with_graph (unsplit (for_release r m) p) (link_ports (unsplit (for_release r m) p).graph p far).graph) (unsplit (for_release r m) p)
          ≡ for_release r (cond b (with_graph (unsplit m p) (link_ports (unsplit m p).graph p far).graph) (unsplit m p))
      go true = ap (λ (u : MultiPortGraph). with_graph u (link_ports u.graph p far).graph) (unsplit_for m p)
      go false = unsplit_for m p

  tidied_for_lem : (m : MultiPortGraph) (p : ℕ) (d : Direction) → tidied (for_release r m) p d ≡ for_release r (tidied m p d)
  unfolding tidied subports_left copy_node subports
  tidied_for_lem m p d = go (ltb 1 (subports_left m p d))
    where
      go : (b : Bool) → cond b (drop_subports (for_release r m) (copy_node m p) d (subports_left m p d)) (link_directly (for_release r m) p d)
          ≡ for_release r (cond b (drop_subports m (copy_node m p) d (subports_left m p d)) (link_directly m p d))
      go true = drop_for m (copy_node m p) d (subports_left m p d)
      go false = direct_for m p d

  pub tidy_for : (m : MultiPortGraph) (p : ℕ) → tidy_port (for_release r m) p ≡ tidied_for (tidy_port m p)
  unfolding is_split
  tidy_for m p =
      tidy_cases (for_release r m) p ∙ (ap (tidy_seen (for_release r m) p) (seen_for m p) ∙ (go (seen m p) ∙ ap tidied_for (sym (tidy_cases m p))))
    where
      here : (d : Direction) (b : Bool) → cond b (tidied (for_release r m) p d) (for_release r m) ≡ for_release r (cond b (tidied m p d) m)
      here d true = tidied_for_lem m p d
      here d false = refl

      go : (u : Port) → tidy_seen (for_release r m) p u ≡ tidied_for (tidy_seen m p u)
      go dead = refl
      go hidden = refl
      go (visible n d) = ap (λ (u : MultiPortGraph). record { graph = u; answer = Ok tt }) (here d (is_split m p))
