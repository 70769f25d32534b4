-- The calls of the single-link graph under two limits: under the lower ones a call does the same, or it is refused with 10 and changes
-- nothing; under the higher ones it is then done, and a used length is past the lower limits. No call passes its own limits.
use Rattle.std.specs.Prelude.{◌≡◌, Bool, List, ◌⊎◌, ℕ, ◌+◌, ◌-◌, ◌*◌, ◌≤◌, ◌<◌, Option, Some, None, Result, Ok, Err}
use Rattle.std.proofs.Math.Path.{refl}
use Rattle.std.proofs.Common.{sym, ap, ◌∙◌}
use Rattle.std.proofs.Math.Bool.{true, false, cond}
use Rattle.std.proofs.Math.Logic.{inl, inr}
use native.Mathlib.Omega.{arith}
use Rattle.std.proofs.Math.Dec.{eqb, leb, ltb}
use borrow.Author.Tests.{ltb-true, ltb-false, leb-true, leb-false, eqb-true, lt-ltb, le-leb}
use Rattle.port_tables.specs.Limits.{node_ports, Limits}
use Rattle.port_tables.specs.Tables.{head_at, at, link_both}
use Rattle.portgraph.specs.Lookups.{entry_at, port_at}
use Rattle.port_tables.specs.Entries.{node#, port#, same_side}
use Rattle.portgraph.specs.Calls.{find_slot_under, find_block_under, add_node_under, add_found, add_refused, grown, place_node, remove_node, remove_entry, free_node, link_ports, link_entries, link_free, link_refused, with_links, unlink_port, unlink_entry}
use Rattle.portgraph.specs.Resize.{Plan, refuse, same, inside, anew, resize_inside, resize_anew, plan_block, plan_entry_under, plan_of_under, set_num_ports_under, set_by}
use Rattle.port_tables.specs.ResizeLinks.{same_counts, fits_inside, round_up}
use Rattle.portgraph.specs.GoodSlots.{zero_is_not_one}
use Rattle.port_tables.specs.declared.index.NodeIndex.{NodeIndex}
use Rattle.port_tables.specs.declared.index.PortIndex.{PortIndex}
use Rattle.port_tables.specs.declared.node_entry.NodeMeta.{NodeMeta}
use Rattle.port_tables.specs.declared.node_entry.NodeEntry.{NodeEntry}
use Rattle.port_tables.specs.declared.node_entry.NodeEntry.TheVariants as node_variants
use Rattle.port_tables.specs.declared.port_entry.PortEntry.{PortEntry}
use Rattle.port_tables.specs.declared.port_entry.PortEntry.TheVariants as port_variants
use Rattle.portgraph.specs.declared.portgraph.PortGraph.{PortGraph}
use Rattle.portgraph.specs.declared.portgraph.PortsLinked.{PortsLinked}
use Rattle.portgraph.specs.declared.alloc.NodeAdded.{NodeAdded}
use Rattle.portgraph.specs.declared.resize.PortsSet.{PortsSet}
use Rattle.kits.specs.Kits.{Lower, Within, Past, past_nodes, past_ports}
use Rattle.portgraph.specs.declared.portgraph.LinkError.{LinkError}
use Rattle.portgraph.specs.declared.alloc.AddError.TheVariants as add_error
use Rattle.portgraph.specs.declared.resize.SetError.TheVariants as set_error

-- Used lengths.

-- both are the same
pub record Same (g h : PortGraph) : Type 0 where
  pub nodes : g.node_len ≡ h.node_len
  pub ports : g.port_len ≡ h.port_len

-- neither is shorter
pub record Longer (g h : PortGraph) : Type 0 where
  pub nodes : g.node_len ≤ h.node_len
  pub ports : g.port_len ≤ h.port_len

pub same_still : {g h k : PortGraph} → Same g h → Same h k → Same g k
same_still a b = record { nodes = a.nodes ∙ b.nodes; ports = a.ports ∙ b.ports }

pub longer_still : {g h k : PortGraph} → Longer g h → Longer h k → Longer g k
longer_still a b = let a0 = a.nodes in let a1 = a.ports in let b0 = b.nodes in let b1 = b.ports in record { nodes = omega arith; ports = omega arith }

pub same_longer : {g h : PortGraph} → Same g h → Longer g h
same_longer s = let a = s.nodes in let b = s.ports in record { nodes = omega arith; ports = omega arith }

pub same_length : (g : PortGraph) → Longer g g
same_length g = record { nodes = omega arith; ports = omega arith }

pub past_longer : {L : Limits} {g h : PortGraph} → Longer g h → Past L g → Past L h
past_longer l (past_nodes p) = let a = l.nodes in past_nodes (omega arith)
past_longer l (past_ports p) = let a = l.ports in past_ports (omega arith)

pub same_within : {L : Limits} {g h : PortGraph} → Same g h → Within L g → Within L h
same_within s w = let a = s.nodes in let b = s.ports in let c = w.nodes in let d = w.ports in record { nodes = omega arith; ports = omega arith }

pub within_not_past : {L : Limits} {g : PortGraph} → Within L g → Past L g → ⊥
within_not_past w (past_nodes p) = let c = w.nodes in omega arith
within_not_past w (past_ports p) = let d = w.ports in omega arith

-- Links, and a node that goes, change no length.

pub link_same : (g : PortGraph) (a b : ℕ) → Same g (link_ports g a b).graph
unfolding link_ports
link_same g a b = go (port_at g a) (port_at g b)
  where
    free : (x y : Bool) (l : PortGraph) → Same g l → (p q : Result (PortIndex × PortIndex) LinkError) (r : Result (PortIndex × PortIndex) LinkError) →
        Same g (cond x (cond y (record { graph = l; answer = r }) (link_refused g p)) (link_refused g q)).graph
    free true true l h p q r = h
    free true false l h p q r = record { nodes = refl; ports = refl }
    free false y l h p q r = record { nodes = refl; ports = refl }

    sides : (s : Bool) (v : PortsLinked) (p : Result (PortIndex × PortIndex) LinkError) → Same g v.graph → Same g (cond s (link_refused g p) v).graph
    sides true v p h = record { nodes = refl; ports = refl }
    sides false v p h = h

    go : (s t : PortEntry) → Same g (link_entries g a b s t).graph
    go port_variants.Free t = record { nodes = refl; ports = refl }
    go (port_variants.Port m) port_variants.Free = record { nodes = refl; ports = refl }
    go (port_variants.Port m) (port_variants.Port k) =
        sides (same_side m.direction k.direction) (link_free g a b) _
        (free (eqb (at g.port_link a) 0) (eqb (at g.port_link b) 0) (with_links g (link_both g.port_link a b) (g.link_count + 1)) record { nodes = refl; ports = refl } _ _ _)

pub unlink_same : (g : PortGraph) (p : ℕ) → Same g (unlink_port g p).graph
unfolding unlink_port
unlink_same g p = go (port_at g p)
  where
    go : (s : PortEntry) → Same g (unlink_entry g p s)
    go port_variants.Free = record { nodes = refl; ports = refl }
    go (port_variants.Port m) = record { nodes = refl; ports = refl }

pub remove_same : (g : PortGraph) (n : ℕ) → Same g (remove_node g n).graph
unfolding remove_node free_node
remove_same g n = go (entry_at g n)
  where
    go : (e : NodeEntry) → Same g (remove_entry g n e).graph
    go (node_variants.Free f) = record { nodes = refl; ports = refl }
    go (node_variants.Node m) = record { nodes = refl; ports = refl }

-- Adding a node and changing its counts shorten none.

grown_longer : (head len size : ℕ) → len ≤ grown head len size
unfolding grown
grown_longer head len size = go (eqb head 0)
  where
    go : (b : Bool) → len ≤ cond b (len + size) len
    go true = omega arith
    go false = omega arith

grown_end : (head len size : ℕ) → head ≡ 0 → grown head len size ≡ len + size
unfolding grown
grown_end head len size e = rw e

pub add_longer : (K : Limits) (g : PortGraph) (i o : ℕ) → Longer g (add_node_under K g i o).graph
unfolding add_node_under place_node
add_longer K g i o = go (leb (i + o) node_ports) (find_slot_under K g.node_free g.node_len) (find_block_under K g.port_free g.port_len (i + o))
  where
    go : (f : Bool) (s b : Option ℕ) → Longer g (cond f (add_found g i o s b) (add_refused g (Err add_error.TooManyPorts))).graph
    go false s b = record { nodes = omega arith; ports = omega arith }
    go true None b = record { nodes = omega arith; ports = omega arith }
    go true (Some n) None = record { nodes = omega arith; ports = omega arith }
    go true (Some n) (Some f) = record { nodes = grown_longer g.node_free g.node_len 1; ports = grown_longer (head_at g.port_free (i + o)) g.port_len (i + o) }

pub set_longer : (K : Limits) (g : PortGraph) (n i o room : ℕ) → Longer g (set_num_ports_under K g n i o room).graph
unfolding set_num_ports_under resize_inside resize_anew
set_longer K g n i o room = go (plan_of_under K g n i o room)
  where
    go : (p : Plan) → Longer g (set_by g n i o p).graph
    go (refuse a) = record { nodes = omega arith; ports = omega arith }
    go same = record { nodes = omega arith; ports = omega arith }
    go (inside m) = record { nodes = omega arith; ports = omega arith }
    go (anew m first) = record { nodes = omega arith; ports = grown_longer (head_at g.port_free (round_up (i + o))) g.port_len (round_up (i + o)) }

-- Two limits.

module _ {L K : Limits} (low : Lower L K) where
  slot_exact : (free len : ℕ) → (find_slot_under L free len ≡ find_slot_under K free len) ⊎ ((find_slot_under L free len ≡ None) × (free ≡ 0) × (L.nodes ≤ len))
  unfolding find_slot_under
  slot_exact free len = go (eqb free 0) refl (ltb len L.nodes) refl
    where
      go : (z : Bool) → eqb free 0 ≡ z → (b : Bool) → ltb len L.nodes ≡ b →
          (cond z (cond b (Some len) None) (Some (free - 1)) ≡ cond z (cond (ltb len K.nodes) (Some len) None) (Some (free - 1)))
          ⊎ ((cond z (cond b (Some len) None) (Some (free - 1)) ≡ None) × (free ≡ 0) × (L.nodes ≤ len))
      go true y true e =
          let h = ltb-true len L.nodes e in
          let k = low.nodes in
          inl (sym (ap (λ (b : Bool). cond b (Some len) None) (lt-ltb len K.nodes (omega arith))))
      go true y false e = inr (refl, eqb-true free 0 y, ltb-false len L.nodes e)
      go false y b e = inl refl

  block_exact : (heads : List ℕ) (len size : ℕ)
      → (find_block_under L heads len size ≡ find_block_under K heads len size) ⊎ ((find_block_under L heads len size ≡ None) × (head_at heads size ≡ 0) × (L.ports < len + size))
  unfolding find_block_under
  block_exact heads len size = go (eqb size 0) (eqb (head_at heads size) 0) refl (leb (len + size) L.ports) refl
    where
      go : (y z : Bool) → eqb (head_at heads size) 0 ≡ z → (b : Bool) → leb (len + size) L.ports ≡ b →
          (cond y (Some 0) (cond z (cond b (Some len) None) (Some (head_at heads size - 1))) ≡ cond y (Some 0) (cond z (cond (leb (len + size) K.ports) (Some len) None) (Some (head_at heads size - 1))))
          ⊎ ((cond y (Some 0) (cond z (cond b (Some len) None) (Some (head_at heads size - 1))) ≡ None) × (head_at heads size ≡ 0) × (L.ports < len + size))
      go true z x b e = inl refl
      go false true x true e =
          let h = leb-true (len + size) L.ports e in
          let k = low.ports in
          inl (sym (ap (λ (b : Bool). cond b (Some len) None) (le-leb (len + size) K.ports (omega arith))))
      go false true x false e = inr (refl, eqb-true (head_at heads size) 0 x, leb-false (len + size) L.ports e)
      go false false x b e = inl refl

  -- adding a node: alike, or refused where the higher limits have it added
  abbrev pub AddExact : PortGraph → NodeAdded → NodeAdded → Type 0
  AddExact g v w = (v ≡ w) ⊎ ((v ≡ add_refused g (Err add_error.NoRoom)) × ((n : NodeIndex) × (p : PortIndex) × (w.answer ≡ Ok (n, p))) × Past L w.graph)

  pub add_exact : (g : PortGraph) (i o : ℕ) → AddExact g (add_node_under L g i o) (add_node_under K g i o)
  unfolding add_node_under place_node
  add_exact g i o =
      go (leb (i + o) node_ports) (find_slot_under L g.node_free g.node_len) (find_slot_under K g.node_free g.node_len)
      (find_block_under L g.port_free g.port_len (i + o)) (find_block_under K g.port_free g.port_len (i + o))
      (slot_exact g.node_free g.node_len) (block_exact g.port_free g.port_len (i + o))
    where
      no_block : (s : Option ℕ) → add_found g i o s None ≡ add_refused g (Err add_error.NoRoom)
      no_block None = refl
      no_block (Some n) = refl

      refused : (s a : Option ℕ) → add_found g i o s a ≡ add_refused g (Err add_error.NoRoom) → (t b : Option ℕ) →
          ((n f : ℕ) → Past L (add_found g i o (Some n) (Some f)).graph) → AddExact g (add_found g i o s a) (add_found g i o t b)
      refused s a e None b past = inl e
      refused s a e (Some n) None past = inl e
      refused s a e (Some n) (Some f) past = inr (e, (node# n, port# f, refl), past n f)

      go : (few : Bool) (s t a b : Option ℕ) → (s ≡ t) ⊎ ((s ≡ None) × (g.node_free ≡ 0) × (L.nodes ≤ g.node_len)) →
          (a ≡ b) ⊎ ((a ≡ None) × (head_at g.port_free (i + o) ≡ 0) × (L.ports < g.port_len + (i + o))) →
          AddExact g (cond few (add_found g i o s a) (add_refused g (Err add_error.TooManyPorts))) (cond few (add_found g i o t b) (add_refused g (Err add_error.TooManyPorts)))
      go false s t a b p q = inl refl
      go true s t a b (inl p) (inl q) = inl (λ j. add_found g i o (p j) (q j))
      go true s t a b (inl p) (inr q) =
          refused s a (ap (λ (v : Option ℕ). add_found g i o s v) q.0 ∙ no_block s) t b
          (λ n f. let e = grown_end (head_at g.port_free (i + o)) g.port_len (i + o) q.1 in let h = q.2 in past_ports (omega arith))
      go true s t a b (inr p) q =
          refused s a (ap (λ (v : Option ℕ). add_found g i o v a) p.0) t b
          (λ n f. let e = grown_end g.node_free g.node_len 1 p.1 in let h = p.2 in past_nodes (omega arith))

  -- changing its counts
  abbrev pub SetExact : PortGraph → PortsSet → PortsSet → Type 0
  SetExact g v w = (v ≡ w) ⊎ ((v ≡ record { graph = g; answer = Err set_error.NoRoom }) × ((e : ℕ) × (w.answer ≡ Ok e)) × Past L w.graph)

  pub set_exact : (g : PortGraph) (n i o room : ℕ) → SetExact g (set_num_ports_under L g n i o room) (set_num_ports_under K g n i o room)
  unfolding set_num_ports_under plan_of_under resize_anew
  set_exact g n i o room = few (leb (i + o) node_ports) (entry_at g n)
    where
      Says : Plan → Plan → Type 0
      Says p q = SetExact g (set_by g n i o p) (set_by g n i o q)

      block : (m : NodeMeta) (s t : Option ℕ) → (s ≡ t) ⊎ ((s ≡ None) × (head_at g.port_free (round_up (i + o)) ≡ 0) × (L.ports < g.port_len + round_up (i + o))) →
          Says (plan_block m s) (plan_block m t)
      block m s t (inl p) = inl (ap (λ (v : Option ℕ). set_by g n i o (plan_block m v)) p)
      block m s None (inr p) = inl (ap (λ (v : Option ℕ). set_by g n i o (plan_block m v)) p.0)
      block m s (Some f) (inr p) =
          inr (
            ap (λ (v : Option ℕ). set_by g n i o (plan_block m v)) p.0,
            (_, refl),
            let e = grown_end (head_at g.port_free (round_up (i + o))) g.port_len (round_up (i + o)) p.1 in let h = p.2 in past_ports (omega arith),
          )

      counts : (m : NodeMeta) (r a b : Bool) (s t : Plan) → Says s t →
          Says (cond r (cond a same (cond b (inside m) s)) (refuse (Err set_error.MovesTooShort))) (cond r (cond a same (cond b (inside m) t)) (refuse (Err set_error.MovesTooShort)))
      counts m false a b s t p = inl refl
      counts m true true b s t p = inl refl
      counts m true false true s t p = inl refl
      counts m true false false s t p = p

      few : (f : Bool) (e : NodeEntry) →
          Says (cond f (plan_entry_under L g i o room e) (refuse (Err set_error.TooManyPorts))) (cond f (plan_entry_under K g i o room e) (refuse (Err set_error.TooManyPorts)))
      few false e = inl refl
      few true (node_variants.Free f) = inl refl
      few true (node_variants.Node m) =
          counts m (leb (3 * (m.incoming + m.outgoing)) room) (same_counts m i o) (fits_inside m i o)
          (plan_block m (find_block_under L g.port_free g.port_len (round_up (i + o)))) (plan_block m (find_block_under K g.port_free g.port_len (round_up (i + o))))
          (block m (find_block_under L g.port_free g.port_len (round_up (i + o))) (find_block_under K g.port_free g.port_len (round_up (i + o)))
          (block_exact g.port_free g.port_len (round_up (i + o))))

-- Nothing passes the limits under which it is done.

module _ (L : Limits) where
  slot_fits : (free len n : ℕ) → len ≤ L.nodes → find_slot_under L free len ≡ Some n → grown free len 1 ≤ L.nodes
  unfolding find_slot_under grown
  slot_fits free len n fits = go (eqb free 0) (ltb len L.nodes) refl
    where
      go : (z b : Bool) → ltb len L.nodes ≡ b → cond z (cond b (Some len) None) (Some (free - 1)) ≡ Some n → cond z (len + 1) len ≤ L.nodes
      go true true e q = let h = ltb-true len L.nodes e in omega arith
      go true false e q = absurd (zero_is_not_one (cc))
      go false b e q = fits

  block_fits : (heads : List ℕ) (len size f : ℕ) → len ≤ L.ports → find_block_under L heads len size ≡ Some f → grown (head_at heads size) len size ≤ L.ports
  unfolding find_block_under grown
  block_fits heads len size f fits = go (eqb size 0) refl (eqb (head_at heads size) 0) (leb (len + size) L.ports) refl
    where
      go : (y : Bool) → eqb size 0 ≡ y → (z b : Bool) → leb (len + size) L.ports ≡ b → cond y (Some 0) (cond z (cond b (Some len) None) (Some (head_at heads size - 1))) ≡ Some f
          → cond z (len + size) len ≤ L.ports
      go true x true b e q = let s = eqb-true size 0 x in omega arith
      go true x false b e q = fits
      go false x true true e q = leb-true (len + size) L.ports e
      go false x true false e q = absurd (zero_is_not_one (cc))
      go false x false b e q = fits

  pub add_fits : (g : PortGraph) (i o : ℕ) → Within L g → Within L (add_node_under L g i o).graph
  unfolding add_node_under place_node
  add_fits g i o w =
      go (leb (i + o) node_ports) (find_slot_under L g.node_free g.node_len) refl (find_block_under L g.port_free g.port_len (i + o)) refl
    where
      go : (f : Bool) (s : Option ℕ) → find_slot_under L g.node_free g.node_len ≡ s → (b : Option ℕ) → find_block_under L g.port_free g.port_len (i + o) ≡ b
          → Within L (cond f (add_found g i o s b) (add_refused g (Err add_error.TooManyPorts))).graph
      go false s p b q = w
      go true None p b q = w
      go true (Some n) p None q = w
      go true (Some n) p (Some f) q =
          record { nodes = slot_fits g.node_free g.node_len n w.nodes p; ports = block_fits g.port_free g.port_len (i + o) f w.ports q }

  pub set_fits : (g : PortGraph) (n i o room : ℕ) → Within L g → Within L (set_num_ports_under L g n i o room).graph
  unfolding set_num_ports_under plan_of_under resize_inside resize_anew
  set_fits g n i o room w = few (leb (i + o) node_ports) (entry_at g n)
    where
      inner : Within L g → (m : NodeMeta) → Within L (set_by g n i o (inside m)).graph
      inner w m = record { nodes = w.nodes; ports = w.ports }

      counts : (m : NodeMeta) (r a b : Bool) (s : Option ℕ) → find_block_under L g.port_free g.port_len (round_up (i + o)) ≡ s
          → Within L (set_by g n i o (cond r (cond a same (cond b (inside m) (plan_block m s))) (refuse (Err set_error.MovesTooShort)))).graph
      counts m false a b s e = w
      counts m true true b s e = w
      counts m true false true s e = inner w m
      counts m true false false None e = w
      counts m true false false (Some f) e = record { nodes = w.nodes; ports = block_fits g.port_free g.port_len (round_up (i + o)) f w.ports e }

      few : (f : Bool) (e : NodeEntry) → Within L (set_by g n i o (cond f (plan_entry_under L g i o room e) (refuse (Err set_error.TooManyPorts)))).graph
      few false e = w
      few true (node_variants.Free f) = w
      few true (node_variants.Node m) =
          counts m (leb (3 * (m.incoming + m.outgoing)) room) (same_counts m i o) (fits_inside m i o) (find_block_under L g.port_free g.port_len (round_up (i + o))) refl
