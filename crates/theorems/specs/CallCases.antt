-- What holds of every outcome of a call without the check of 18: it holds of each of its refusals, none of which is 18, and of what the call does
-- where it goes on.
use Rattle.std.specs.Prelude.{◌≡◌, refl, Bool, true, false, cond, ℕ, ◌+◌, eqb, leb, Option, Some, None, Ok, Err, Result}
use Rattle.std.proofs.Common.{sym, subst}
use Rattle.port_tables.specs.Limits.{present, node_ports}
use Rattle.portgraph.specs.Lookups.{meta_at}
use Rattle.portgraph.specs.Calls.{link_ports, unlink_port}
use Rattle.portgraph.specs.Resize.{set_num_ports}
use Rattle.port_tables.specs.declared.direction.Direction.{Direction}
use Rattle.port_tables.specs.declared.index.PortIndex.{PortIndex}
use Rattle.port_tables.specs.declared.node_entry.NodeMeta.{NodeMeta}
use Rattle.portgraph.specs.declared.portgraph.PortGraph.{PortGraph}
use Rattle.portgraph.specs.declared.portgraph.LinkError.{LinkError}
use Rattle.portgraph.specs.declared.portgraph.LinkError.TheVariants as link_error
use Rattle.portgraph.specs.declared.resize.SetError.{SetError}
use Rattle.portgraph.specs.declared.resize.SetError.TheVariants as set_error
use Rattle.multi_tables.specs.Forms.{Port, dead, hidden, visible, End, inner, lacking, good_offset, subport#}
use Rattle.multi_tables.specs.EndAnswers.{refusal_numbers}
use Rattle.multi_tables.specs.declared.answers.Refusal.{Refusal}
use Rattle.multi_tables.specs.declared.answers.Refusal.TheVariants.{BadOffset, TooManyPorts}
use Rattle.multiportgraph.specs.Graph.{with_graph}
use Rattle.multiportgraph.specs.Reading.{is_hidden, is_split, seen, end_at, as_read, far_subport, standing}
use Rattle.multiportgraph.specs.HiddenNodes.{Prepared, ready, full, prepare, copies_dropped, recounted, remove_all, unsplit}
use Rattle.multiportgraph.specs.Tidy.{tidied}
use Rattle.multi_tables.specs.NamedEnds.{pair_seen}
use Rattle.port_tables.specs.Entries.{same_side}
use Rattle.multiportgraph.specs.declared.multiportgraph.PortTidied.{PortTidied}
use Rattle.multiportgraph.specs.Calls.{cut_plain, cut_port, cut_sub, drop_block, link_clean_if, link_pair_if, link_sub_if, remove_block, set_as, set_counts, tidy_port}
use Rattle.multiportgraph.specs.Cases.{cut_end, cut_refused, cut_seen, cut_sub_seen, link_clean_by, link_first, link_first_end, link_inner, link_live, link_prepared, link_refused, link_second, link_second_end, link_seen, link_sub_seen, remove_meta, remove_refused, resized, set_meta, set_refused, tidy_refused, tidy_seen}
use Rattle.multiportgraph.specs.CaseLaws.{remove_cases, set_cases, link_cases, link_clean_cases, link_sub_cases, cut_sub_cases, tidy_cases}
use Rattle.multiportgraph.proofs.CutLaws.{cut_cases}
use Rattle.multiportgraph.specs.declared.multiportgraph.MultiPortGraph.{MultiPortGraph}
use Rattle.multiportgraph.specs.declared.multiportgraph.NodeRemoved.{NodeRemoved}
use Rattle.multiportgraph.specs.declared.multiportgraph.PortsSet.{PortsSet}
use Rattle.multiportgraph.specs.declared.multiportgraph.PortsLinked.{PortsLinked}
use Rattle.multiportgraph.specs.declared.multiportgraph.PortUnlinked.{PortUnlinked}
use Rattle.theorems.specs.ReleaseClaims.{first_of}

abbrev pub Not18 : Refusal → Type 0
Not18 z = eqb (first_of (refusal_numbers z)) 18 ≡ false

module _ (m : MultiPortGraph) where
  pub remove_each : (Q : NodeRemoved → Type 0) (n : ℕ) → ((z : Refusal) → Not18 z → Q (remove_refused m z)) →
      ((k : NodeMeta) → is_hidden m n ≡ false → Q (record { graph = drop_block m n k; answer = Ok tt })) → Q (remove_block m n)
  remove_each Q n refuses does = subst Q (sym (remove_cases m n)) (go (meta_at m.graph n))
    where
      shown : (k : NodeMeta) (b : Bool) → is_hidden m n ≡ b → Q (remove_meta m n (Some k))
      shown k true e = rw e (refuses _ refl)
      shown k false e = rw e (does k e)

      go : (v : Option NodeMeta) → Q (remove_meta m n v)
      go None = refuses _ refl
      go (Some k) = shown k (is_hidden m n) refl

  pub set_each : (Q : PortsSet → Type 0) (n i o room : ℕ) → ((z : Refusal) → Not18 z → Q (set_refused m z)) →
      ((k : NodeMeta) (e : ℕ) → is_hidden m n ≡ false → (set_num_ports m.graph n i o room).answer ≡ Ok e →
      Q (record { graph = remove_all (recounted m n (set_num_ports m.graph n i o room).graph) (copies_dropped m k i o); answer = Ok e })) →
      Q (set_counts m n i o room)
  set_each Q n i o room refuses does = subst Q (sym (set_cases present m n i o room)) (few (leb (i + o) node_ports))
    where
      g' : PortGraph
      g' = (set_num_ports m.graph n i o room).graph

      lower : (k : NodeMeta) → is_hidden m n ≡ false → (a : Result ℕ SetError) → (set_num_ports m.graph n i o room).answer ≡ a →
          Q (record { graph = resized m n k i o g' a; answer = set_as a })
      lower k h (Ok e) q = does k e h q
      lower k h (Err set_error.TooManyPorts) q = refuses _ refl
      lower k h (Err set_error.UnknownNode) q = refuses _ refl
      lower k h (Err set_error.MovesTooShort) q = refuses _ refl
      lower k h (Err set_error.NoRoom) q = refuses _ refl

      shown : (k : NodeMeta) (b : Bool) → is_hidden m n ≡ b → Q (set_meta m n i o room (Some k))
      shown k true e = rw e (refuses _ refl)
      shown k false e = rw e (lower k e (set_num_ports m.graph n i o room).answer refl)

      node : (v : Option NodeMeta) → Q (set_meta m n i o room v)
      node None = refuses _ refl
      node (Some k) = shown k (is_hidden m n) refl

      few : (b : Bool) → Q (cond b (set_meta m n i o room (meta_at m.graph n)) (set_refused m TooManyPorts))
      few true = node (meta_at m.graph n)
      few false = refuses _ refl

  pub cut_each : (Q : PortUnlinked → Type 0) (p : ℕ) → ((z : Refusal) → Not18 z → Q (cut_refused m z)) →
      Q (record { graph = unsplit m p; answer = Ok (Some (subport# p 0, standing m (subport# p 0))) }) →
      Q (record { graph = with_graph m (unlink_port m.graph p).graph; answer = cut_plain m (unlink_port m.graph p).answer }) → Q (cut_port m p)
  cut_each Q p refuses split whole = subst Q (sym (cut_cases m p)) (go (seen m p))
    where
      here : (n : ℕ) (d : Direction) (b : Bool) → is_split m p ≡ b → Q (cut_seen m p (visible n d))
      here n d true e = rw e split
      here n d false e = rw e whole

      go : (u : Port) → Q (cut_seen m p u)
      go dead = refuses _ refl
      go hidden = refuses _ refl
      go (visible n d) = here n d (is_split m p) refl

  pub cut_sub_each : (Q : PortUnlinked → Type 0) (p o : ℕ) → ((z : Refusal) → Not18 z → Q (cut_refused m z)) →
      ((x : ℕ) → Q (record { graph = with_graph m (unlink_port m.graph x).graph; answer = far_subport m (unlink_port m.graph x).answer })) → Q (cut_sub m p o)
  cut_sub_each Q p o refuses does = subst Q (sym (cut_sub_cases m p o)) (good (good_offset o))
    where
      at_end : (v : End) → Q (cut_end m p v)
      at_end lacking = refuses _ refl
      at_end (inner x) = does x

      go : (u : Port) → Q (cut_sub_seen m p o u)
      go dead = refuses _ refl
      go hidden = refuses _ refl
      go (visible n d) = at_end (end_at m p d o)

      good : (b : Bool) → Q (cond b (cut_sub_seen m p o (seen m p)) (cut_refused m BadOffset))
      good true = go (seen m p)
      good false = refuses _ refl

  pub link_sub_each : (Q : PortsLinked → Type 0) (p o q r : ℕ) → ((z : Refusal) → Not18 z → Q (link_refused m z)) →
      ((x y : ℕ) → Q (record { graph = with_graph m (link_ports m.graph x y).graph; answer = Ok (as_read m p o, as_read m q r) })) → Q (link_sub_if false m p o q r)
  link_sub_each Q p o q r refuses does = subst Q (sym (link_sub_cases m p o q r)) (offsets (good_offset o) (good_offset r))
    where
      joins : (x y : ℕ) (a : Result (PortIndex × PortIndex) LinkError) → Q (link_inner m (as_read m p o) (as_read m q r) a (link_ports m.graph x y).graph)
      joins x y (Ok (s, t)) = does x y
      joins x y (Err (link_error.UnknownPort s)) = refuses _ refl
      joins x y (Err (link_error.UnknownSecondPort s)) = refuses _ refl
      joins x y (Err (link_error.IncompatibleDirections s t d)) = refuses _ refl
      joins x y (Err (link_error.AlreadyLinked s)) = refuses _ refl

      second : (x : ℕ) (v : End) → Q (link_second_end m p o q r x v)
      second x lacking = refuses _ refl
      second x (inner y) = joins x y (link_ports m.graph x y).answer

      first : (w : Port) (v : End) → Q (link_first_end m p o q r w v)
      first w lacking = refuses _ refl
      first dead (inner x) = refuses _ refl
      first hidden (inner x) = refuses _ refl
      first (visible k e) (inner x) = second x (end_at m q e r)

      go : (u v : Port) → Q (link_sub_seen m p o q r u v)
      go dead v = refuses _ refl
      go hidden v = refuses _ refl
      go (visible n d) hidden = refuses _ refl
      go (visible n d) dead = first dead (end_at m p d o)
      go (visible n d) (visible k e) = first (visible k e) (end_at m p d o)

      offsets : (g h : Bool) → Q (cond g (cond h (link_sub_seen m p o q r (seen m p) (seen m q)) (link_refused m BadOffset)) (link_refused m BadOffset))
      offsets true true = go (seen m p) (seen m q)
      offsets true false = refuses _ refl
      offsets false h = refuses _ refl

  -- the graph after a first end that is prepared may stay with a refusal
  pub link_each : (Q : PortsLinked → Type 0) (a b : ℕ) → ((z : Refusal) → Not18 z → Q (link_refused m z)) →
      ((n : ℕ) (d : Direction) → seen m a ≡ visible n d → (m₁ : MultiPortGraph) (x o : ℕ) → prepare m a d ≡ ready m₁ x o → (z : Refusal) → Not18 z → Q (link_refused m₁ z)) →
      ((n : ℕ) (d : Direction) → seen m a ≡ visible n d → (k : ℕ) (e : Direction) → seen m b ≡ visible k e → (m₁ : MultiPortGraph) (x o : ℕ) → prepare m a d ≡ ready m₁ x o →
      (m₂ : MultiPortGraph) (y r : ℕ) → prepare m₁ b e ≡ ready m₂ y r → ((z : Refusal) → Not18 z → Q (link_refused m₂ z))
      × Q (record { graph = with_graph m₂ (link_ports m₂.graph x y).graph; answer = Ok (subport# a o, subport# b r) })) → Q (link_pair_if false present m a b)
  link_each Q a b refuses one does = subst Q (sym (link_cases present m a b)) (go (seen m a) (seen m b) refl refl)
    where
      first : (n : ℕ) (d : Direction) → seen m a ≡ visible n d → (P : Prepared) → prepare m a d ≡ P → Q (link_first m b P)
      first n d s full g = refuses _ refl
      first n d s (ready m₁ x o) g = one n d s m₁ x o g _ refl

      sides : (d : Direction) (x o : ℕ) (e : Direction) (m₂ : MultiPortGraph) (y r : ℕ) → ((z : Refusal) → Not18 z → Q (link_refused m₂ z))
          × Q (record { graph = with_graph m₂ (link_ports m₂.graph x y).graph; answer = Ok (subport# a o, subport# b r) }) → (c : Bool) → same_side d e ≡ c → Q (link_prepared m₂ a d x o b e y r)
      sides d x o e m₂ y r t true j = rw j (t.0 _ refl)
      sides d x o e m₂ y r t false j = rw j t.1

      second : (n : ℕ) (d : Direction) → seen m a ≡ visible n d → (k : ℕ) (e : Direction) → seen m b ≡ visible k e → (m₁ : MultiPortGraph) (x o : ℕ) → prepare m a d ≡ ready m₁ x o →
          (P : Prepared) → prepare m₁ b e ≡ P → Q (link_second m a d x o b e P)
      second n d s k e t m₁ x o g full h = refuses _ refl
      second n d s k e t m₁ x o g (ready m₂ y r) h = sides d x o e m₂ y r (does n d s k e t m₁ x o g m₂ y r h) (same_side d e) refl

      both : (n : ℕ) (d : Direction) → seen m a ≡ visible n d → (k : ℕ) (e : Direction) → seen m b ≡ visible k e → (P : Prepared) → prepare m a d ≡ P → Q (link_live m a d b e P)
      both n d s k e t full g = refuses _ refl
      both n d s k e t (ready m₁ x o) g = second n d s k e t m₁ x o g (prepare m₁ b e) refl

      go : (u v : Port) → seen m a ≡ u → seen m b ≡ v → Q (link_seen m a b u v)
      go dead v s t = refuses _ refl
      go hidden v s t = refuses _ refl
      go (visible n d) hidden s t = refuses _ refl
      go (visible n d) dead s t = first n d s (prepare m a d) refl
      go (visible n d) (visible k e) s t = both n d s k e t (prepare m a d) refl

  pub clean_each : (Q : PortsLinked → Type 0) (a b : ℕ) → ((z : Refusal) → Not18 z → Q (link_refused m z)) → Q (link_pair_if false present m a b) → Q (link_clean_if false present m a b)
  clean_each Q a b refuses pair = subst Q (sym (link_clean_cases present m a b)) (go (seen m a) (seen m b))
    where
      sides : (n : ℕ) (d : Direction) (k : ℕ) (e : Direction) (c : Bool) → same_side d e ≡ c → Q (link_clean_by present m a b (pair_seen a b (visible n d) (visible k e)))
      sides n d k e true j = rw j (refuses _ refl)
      sides n d k e false j = rw j pair

      go : (u v : Port) → Q (link_clean_by present m a b (pair_seen a b u v))
      go dead v = refuses _ refl
      go hidden v = refuses _ refl
      go (visible n d) hidden = refuses _ refl
      go (visible n d) dead = refuses _ refl
      go (visible n d) (visible k e) = sides n d k e (same_side d e) refl

  pub tidy_each : (Q : PortTidied → Type 0) (p : ℕ) → ((z : Refusal) → Not18 z → Q (tidy_refused m z)) →
      ((n : ℕ) (d : Direction) → seen m p ≡ visible n d → (b : Bool) → is_split m p ≡ b → Q (record { graph = cond b (tidied m p d) m; answer = Ok tt })) → Q (tidy_port m p)
  tidy_each Q p refuses does = subst Q (sym (tidy_cases m p)) (go (seen m p) refl)
    where
      go : (u : Port) → seen m p ≡ u → Q (tidy_seen m p u)
      go dead e = refuses _ refl
      go hidden e = refuses _ refl
      go (visible n d) e = does n d e (is_split m p) refl
