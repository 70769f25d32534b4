-- What a good model says of slots: a slot lies in one block, and two ports never share one.
-- Then a good model in four parts (nodes, counts, blocks, links), and how a block is taken and given back.
use Rattle.std.specs.Prelude.{◌≡◌, refl, Bool, true, false, cond, List, [], ◌∷◌, ◌⊎◌, ℕ, ◌+◌, ◌≤◌, ◌<◌, eqb, leb, ltb}
use Rattle.std.proofs.Common.{sym, ◌∙◌, ap, subst, inl, inr, ⊎_elim, arith, ltb-true, ltb-false, leb-true, leb-false, eqb-true}
use Rattle.std.proofs.lemmas.Bool.{eqb-false}
use Rattle.port_tables.specs.Limits.{node_slots, port_slots, node_ports}
use Rattle.port_tables.specs.Lists.{Member, Once}
use Rattle.portgraph.specs.Model.{Model, to, Slots, gone, live, Who, held, idle, unused, Valid, Good, count_of, first_of, side_start, slot_of, InnerPlace}
use Rattle.port_tables.specs.Tables.{Within}
use Rattle.portgraph.specs.Meaning.{upd, hand_over, give_block, first_or, rest, growth}
use Rattle.portgraph.specs.Joins.{place_by_parts}
pub use Rattle.portgraph.specs.Joins.{upd_elim, upd_same, upd_other, place_by_parts as same_place_lem}
pub use Rattle.port_tables.specs.Listing.{zero_is_not_one}
use Rattle.port_tables.specs.declared.direction.Direction.{Direction}
use Rattle.port_tables.specs.declared.direction.Direction.TheVariants.{Incoming, Outgoing}
use Rattle.port_tables.specs.declared.node_entry.NodeMeta.{NodeMeta}

pub same_held : {w : Who} {n i : ℕ} → w ≡ held n → w ≡ held i → n ≡ i
same_held p q = cc

pub held_not_idle : {w : Who} {n b k : ℕ} → w ≡ held n → w ≡ idle b k → ⊥
held_not_idle p q = zero_is_not_one (cc)

pub gone_not_live : {s : Slots} {m : NodeMeta} → s ≡ gone → s ≡ live m → ⊥
gone_not_live p q = zero_is_not_one (cc)

-- Blocks.

pub block_of_one : {M : Model} → Good M → (n i : ℕ) (m l : NodeMeta) (s : ℕ) → M.node n ≡ live m → M.node i ≡ live l →
    Within m.first_port.0 m.capacity s → Within l.first_port.0 l.capacity s → n ≡ i
block_of_one good n i m l s e d u v = same_held (good.held_by n m s e u) (good.held_by i l s d v)

pub free_block_apart : {M : Model} → Good M → (n : ℕ) (m : NodeMeta) (k b s : ℕ) → M.node n ≡ live m → Member b (M.free_blocks k) →
    Within m.first_port.0 m.capacity s → Within b k s → ⊥
free_block_apart good n m k b s e i u v = held_not_idle (good.held_by n m s e u) (good.idle_by k b s i v)

pub free_block_of_one : {M : Model} → Good M → (k b j c s : ℕ) → Member b (M.free_blocks k) → Member c (M.free_blocks j) →
    Within b k s → Within c j s → (b ≡ c) × (k ≡ j)
free_block_of_one good k b j c s i h u v =
    let p = good.idle_by k b s i u in
    let q = good.idle_by j c s h v in
    ((cc), (cc))

-- Places.

-- the position of a port within its block
abbrev port_place : Slots → Direction → ℕ → ℕ
port_place s d p = side_start s d + p

valid_is_live : (s : Slots) (d : Direction) (p : ℕ) → p < count_of s d →
    (m : NodeMeta) × (s ≡ live m) × (first_of s ≡ m.first_port.0) × (port_place s d p < m.incoming + m.outgoing)
valid_is_live gone d p h = absurd (omega arith)
valid_is_live (live m) Incoming p h = (m, refl, refl, omega arith)
valid_is_live (live m) Outgoing p h = (m, refl, refl, omega arith)

-- two ports of a node at one position within its block are the same port
one_position : (s : Slots) (d e : Direction) (p q : ℕ) → p < count_of s d → q < count_of s e → port_place s d p ≡ port_place s e q → (d ≡ e) × (p ≡ q)
one_position gone d e p q h k o = absurd (omega arith)
one_position (live m) Incoming Incoming p q h k o = (refl, omega arith)
one_position (live m) Incoming Outgoing p q h k o = absurd (omega arith)
one_position (live m) Outgoing Incoming p q h k o = absurd (omega arith)
one_position (live m) Outgoing Outgoing p q h k o = (refl, omega arith)

-- a node, its block and its ports lie within the tables
pub node_below : {M : Model} → Good M → (n : ℕ) (k : NodeMeta) → M.node n ≡ live k → n < node_slots
node_below good n k e = let a = good.node_used n k e in let b = good.nodes_fit in omega arith

pub block_within : {M : Model} → Good M → (n : ℕ) (k : NodeMeta) → M.node n ≡ live k → k.first_port.0 + k.capacity ≤ port_slots
block_within good n k e = let a = good.block_ends n k e in let b = good.ports_fit in omega arith

pub ports_end : {M : Model} → Good M → (n : ℕ) (k : NodeMeta) → M.node n ≡ live k → k.first_port.0 + (k.incoming + k.outgoing) ≤ port_slots
ports_end good n k e = let a = good.ports_in_block n k e in let b = block_within good n k e in omega arith

-- a valid place lies in the block of its live node
pub slot_in_block : {M : Model} → Good M → (x : InnerPlace) → Valid M.node x →
    (m : NodeMeta) × (M.node x.node ≡ live m) × Within m.first_port.0 m.capacity (slot_of M.node x)
slot_in_block {M} good x h =
    let r = valid_is_live (M.node x.node) x.side x.pos h in
    let f : first_of (M.node x.node) ≡ r.0.first_port.0 = r.2 in
    let l : port_place (M.node x.node) x.side x.pos < r.0.incoming + r.0.outgoing = r.3 in
    let c : r.0.incoming + r.0.outgoing ≤ r.0.capacity = good.ports_in_block x.node r.0 r.1 in
    (r.0, r.1, (omega arith, omega arith))

pub slot_held : {M : Model} → Good M → (x : InnerPlace) → Valid M.node x → M.who (slot_of M.node x) ≡ held x.node
slot_held {M} good x h =
    let r = slot_in_block good x h in
    good.held_by x.node r.0 (slot_of M.node x) r.1 r.2

pub slot_in_range : {M : Model} → Good M → (x : InnerPlace) → Valid M.node x → slot_of M.node x < port_slots
slot_in_range {M} good x h =
    let r = slot_in_block good x h in
    let w : slot_of M.node x < r.0.first_port.0 + r.0.capacity = r.2.1 in
    let e = block_within good x.node r.0 r.1 in
    omega arith

pub slots_apart : {M : Model} → Good M → (x y : InnerPlace) → Valid M.node x → Valid M.node y → slot_of M.node x ≡ slot_of M.node y → x ≡ y
slots_apart {M} good x y h k e =
    let w : M.who (slot_of M.node y) ≡ held x.node = subst (λ (s : ℕ). M.who s ≡ held x.node) e (slot_held good x h) in
    let n : y.node ≡ x.node = same_held (slot_held good y k) w in
    let z : InnerPlace = record { node = x.node; side = y.side; pos = y.pos } in
    let k' : Valid M.node z = subst (λ (i : ℕ). Valid M.node (record { node = i; side = y.side; pos = y.pos })) n k in
    let e' : slot_of M.node x ≡ slot_of M.node z = e ∙ ap (λ (i : ℕ). slot_of M.node (record { node = i; side = y.side; pos = y.pos })) n in
    let o : (x.side ≡ y.side) × (x.pos ≡ y.pos) = one_position (M.node x.node) x.side y.side x.pos y.pos h k' (omega arith) in
    place_by_parts x y (sym n) o.0 o.1

pub joined_is_valid : {M : Model} → Good M → (x y : InnerPlace) → M.join x ≡ to y → Valid M.node y
joined_is_valid good x y e = good.join_valid y x (good.join_back x y e)

-- The two cases of each update, as one rule.

pub hand_elim {ℓ} : (P : Who → Type ℓ) (who : ℕ → Who) (first size : ℕ) (w : Who) (s : ℕ) → (Within first size s → P w) → ((Within first size s → ⊥) → P (who s)) → P (hand_over who first size w s)
unfolding hand_over
hand_elim P who first size w s here away = go (leb first s) refl (ltb s (first + size)) refl
  where
    go : (t : Bool) → leb first s ≡ t → (u : Bool) → ltb s (first + size) ≡ u → P (cond t (cond u w (who s)) (who s))
    go true e true d = here (leb-true first s e, ltb-true s (first + size) d)
    go true e false d = away (λ h. let a = ltb-false s (first + size) d in omega arith)
    go false e u d = away (λ h. let a = leb-false first s e in omega arith)

pub handed_inside : (who : ℕ → Who) (first size : ℕ) (w : Who) (s : ℕ) → Within first size s → hand_over who first size w s ≡ w
handed_inside who first size w s h = hand_elim (λ v. v ≡ w) who first size w s (λ k. refl) (λ away. absurd (away h))

pub handed_outside : (who : ℕ → Who) (first size : ℕ) (w : Who) (s : ℕ) → (Within first size s → ⊥) → hand_over who first size w s ≡ who s
handed_outside who first size w s h = hand_elim (λ v. v ≡ who s) who first size w s (λ k. absurd (h k)) (λ away. refl)

-- the free blocks where one is given back: a size of 0 is none
pub give_elim {ℓ} : (P : List ℕ → Type ℓ) (blocks : ℕ → List ℕ) (first size j : ℕ) → (0 < size → j ≡ size → P (first ∷ blocks size)) → P (blocks j) → P (give_block blocks first size j)
give_elim P blocks first size j new old = go (eqb size 0) refl
  where
    go : (t : Bool) → eqb size 0 ≡ t → P (cond t blocks (upd blocks size (first ∷ blocks size)) j)
    go true e = old
    go false e =
        let h = eqb-false size 0 e in
        upd_elim P blocks size (first ∷ blocks size) j (new (omega arith)) (λ k. old)

-- The slots and their blocks, apart from the nodes: own n f k says that n has a block of k slots from f on.
pub record Parted (own : ℕ → ℕ → ℕ → Type 0) (blocks : ℕ → List ℕ) (len : ℕ) (who : ℕ → Who) : Type 0 where
  pub fits : len ≤ port_slots
  pub ends : (n f k : ℕ) → own n f k → f + k ≤ len
  pub held_by : (n f k s : ℕ) → own n f k → Within f k s → who s ≡ held n
  pub held_in : (s n : ℕ) → who s ≡ held n → (f : ℕ) × (k : ℕ) × own n f k × Within f k s
  pub idle_by : (k b s : ℕ) → Member b (blocks k) → Within b k s → who s ≡ idle b k
  pub idle_in : (s b k : ℕ) → who s ≡ idle b k → Member b (blocks k) × Within b k s
  pub idle_ends : (k b : ℕ) → Member b (blocks k) → (0 < k) × (k ≤ node_ports) × (b + k ≤ len)
  pub idle_once : (k : ℕ) → Once (blocks k)
  pub used_has : (s : ℕ) → s < len → who s ≡ unused → ⊥
  pub unused_beyond : (s : ℕ) → len ≤ s → who s ≡ unused

-- only who has which block counts
pub parted_same : {own own' : ℕ → ℕ → ℕ → Type 0} {blocks : ℕ → List ℕ} {len : ℕ} {who : ℕ → Who} →
    ((n f k : ℕ) → own n f k → own' n f k) → ((n f k : ℕ) → own' n f k → own n f k) → Parted own blocks len who → Parted own' blocks len who
parted_same there back p =
    record {
      fits = p.fits;
      ends = λ n f k o. p.ends n f k (back n f k o);
      held_by = λ n f k s o. p.held_by n f k s (back n f k o);
      held_in = λ s n e. let r = p.held_in s n e in (r.0, r.1, there n r.0 r.1 r.2, r.3);
      idle_by = p.idle_by;
      idle_in = p.idle_in;
      idle_ends = p.idle_ends;
      idle_once = p.idle_once;
      used_has = p.used_has;
      unused_beyond = p.unused_beyond;
    }

-- n gives a block back; a size of 0 changes nothing
module _ {own own' : ℕ → ℕ → ℕ → Type 0} {blocks : ℕ → List ℕ} {len : ℕ} {who : ℕ → Who} (n first size : ℕ) (small : size ≤ node_ports) (has : own n first size)
    (keep : (i f k : ℕ) → own' i f k → own i f k)
    (apart : (i f k s : ℕ) → own' i f k → Within f k s → Within first size s → ⊥)
    (stay : (i f k : ℕ) → own i f k → (own' i f k) ⊎ ((f ≡ first) × (k ≡ size)))
    (p : Parted own blocks len who) where
  given_listed : (j b : ℕ) → Member b (blocks j) → Member b (give_block blocks first size j)
  given_listed j b h = give_elim (Member b) blocks first size j (λ z e. inr (subst (λ (i : ℕ). Member b (blocks i)) e h)) h

  given_new : 0 < size → Member first (give_block blocks first size size)
  given_new z = go (eqb size 0) refl
    where
      go : (t : Bool) → eqb size 0 ≡ t → Member first (cond t blocks (upd blocks size (first ∷ blocks size)) size)
      go true e = let h = eqb-true size 0 e in absurd (omega arith)
      go false e = rw upd_same (inl refl)

  given_cases : (j b : ℕ) → Member b (give_block blocks first size j) → ((0 < size) × (j ≡ size) × (b ≡ first)) ⊎ Member b (blocks j)
  given_cases j b =
      give_elim (λ l. Member b l → ((0 < size) × (j ≡ size) × (b ≡ first)) ⊎ Member b (blocks j)) blocks first size j
      (λ z e. ⊎_elim (λ h. inl (z, e, h)) (λ h. inr (subst (λ (i : ℕ). Member b (blocks i)) (sym e) h))) (λ h. inr h)

  give_held_in : (s i : ℕ) → hand_over who first size (idle first size) s ≡ held i → (f : ℕ) × (k : ℕ) × own' i f k × Within f k s
  give_held_in s i =
      hand_elim (λ v. v ≡ held i → (f : ℕ) × (k : ℕ) × own' i f k × Within f k s) who first size (idle first size) s
      (λ h e. absurd (held_not_idle e refl))
      (λ away e.
      let r = p.held_in s i e in
      ⊎_elim (λ o. (r.0, r.1, o, r.3)) (λ q. absurd (away (let a = q.0 in let b = q.1 in let c = r.3 in omega arith))) (stay i r.0 r.1 r.2))

  give_idle_by : (k b s : ℕ) → Member b (give_block blocks first size k) → Within b k s → hand_over who first size (idle first size) s ≡ idle b k
  give_idle_by k b s h w =
      hand_elim (λ v. v ≡ idle b k) who first size (idle first size) s
      (λ i. ⊎_elim (λ q. let a = q.1 in let c = q.2 in cc) (λ o. absurd (held_not_idle (p.held_by n first size s has i) (p.idle_by k b s o w))) (given_cases k b h))
      (λ away. ⊎_elim (λ q. absurd (away (let a = q.1 in let c = q.2 in omega arith))) (λ o. p.idle_by k b s o w) (given_cases k b h))

  give_idle_in : (s b k : ℕ) → hand_over who first size (idle first size) s ≡ idle b k → Member b (give_block blocks first size k) × Within b k s
  give_idle_in s b k =
      hand_elim (λ v. v ≡ idle b k → Member b (give_block blocks first size k) × Within b k s) who first size (idle first size) s
      (λ h e.
      let a : first ≡ b = cc in
      let c : size ≡ k = cc in
      (subst (λ (i : ℕ). Member i (give_block blocks first size k)) a (subst (λ (i : ℕ). Member first (give_block blocks first size i)) c (given_new (omega arith))), omega arith))
      (λ away e. let r = p.idle_in s b k e in (given_listed k b r.0, r.1))

  give_idle_once : (k : ℕ) → Once (give_block blocks first size k)
  give_idle_once k =
      give_elim Once blocks first size k
      (λ z e. ((λ h. held_not_idle (p.held_by n first size first has (omega arith)) (p.idle_by size first first h (omega arith))), p.idle_once size))
      (p.idle_once k)

  pub given : Parted own' (give_block blocks first size) len (hand_over who first size (idle first size))
  given =
      record {
        fits = p.fits;
        ends = λ i f k o. p.ends i f k (keep i f k o);
        held_by = λ i f k s o w. handed_outside who first size (idle first size) s (apart i f k s o w) ∙ p.held_by i f k s (keep i f k o) w;
        held_in = give_held_in;
        idle_by = give_idle_by;
        idle_in = give_idle_in;
        idle_ends = λ k b h. ⊎_elim (λ q. let a = q.0 in let c = q.1 in let d = q.2 in let e = p.ends n first size has in omega arith) (p.idle_ends k b) (given_cases k b h);
        idle_once = give_idle_once;
        used_has = λ s h. hand_elim (λ v. v ≡ unused → ⊥) who first size (idle first size) s (λ w e. zero_is_not_one (cc)) (λ away e. p.used_has s h e);
        unused_beyond = λ s h. handed_outside who first size (idle first size) s (λ w. let e = p.ends n first size has in omega arith) ∙ p.unused_beyond s h;
      }

-- What the taken block is: free before, or at the end; blocks' and len' are what is left.
pub record Takes (blocks : ℕ → List ℕ) (len : ℕ) (who : ℕ → Who) (first size : ℕ) (blocks' : ℕ → List ℕ) (len' : ℕ) : Type 0 where
  pub ends : first + size ≤ len'
  pub grows : len ≤ len'
  pub grown : (s : ℕ) → len ≤ s → s < len' → Within first size s
  pub unheld : (s n : ℕ) → Within first size s → who s ≡ held n → ⊥
  pub less : (k b : ℕ) → Member b (blocks' k) → Member b (blocks k)
  pub left : (k b : ℕ) → Member b (blocks k) → (Member b (blocks' k)) ⊎ ((b ≡ first) × (k ≡ size))
  pub clear : (k b s : ℕ) → Member b (blocks' k) → Within b k s → Within first size s → ⊥
  pub once : (k : ℕ) → Once (blocks' k)

-- n gets the block beside its others
module _ {own own' : ℕ → ℕ → ℕ → Type 0} {blocks blocks' : ℕ → List ℕ} {len len' : ℕ} {who : ℕ → Who} (n first size : ℕ) (fit : len' ≤ port_slots)
    (fwd : (i f k : ℕ) → own' i f k → (own i f k) ⊎ ((i ≡ n) × (f ≡ first) × (k ≡ size)))
    (bwd : (i f k : ℕ) → own i f k → own' i f k) (new : own' n first size)
    (p : Parted own blocks len who) (t : Takes blocks len who first size blocks' len') where
  take_held_by : (i f k s : ℕ) → own' i f k → Within f k s → hand_over who first size (held n) s ≡ held i
  take_held_by i f k s o w =
      hand_elim (λ v. v ≡ held i) who first size (held n) s
      (λ h. ⊎_elim (λ q. absurd (t.unheld s i h (p.held_by i f k s q w))) (λ q. let a = q.0 in cc) (fwd i f k o))
      (λ away. ⊎_elim (λ q. p.held_by i f k s q w) (λ q. absurd (away (let a = q.1 in let b = q.2 in omega arith))) (fwd i f k o))

  take_held_in : (s i : ℕ) → hand_over who first size (held n) s ≡ held i → (f : ℕ) × (k : ℕ) × own' i f k × Within f k s
  take_held_in s i =
      hand_elim (λ v. v ≡ held i → (f : ℕ) × (k : ℕ) × own' i f k × Within f k s) who first size (held n) s
      (λ h e. (first, size, subst (λ (j : ℕ). own' j first size) (same_held {w = held n} refl e) new, h))
      (λ away e. let r = p.held_in s i e in (r.0, r.1, bwd i r.0 r.1 r.2, r.3))

  take_idle_in : (s b k : ℕ) → hand_over who first size (held n) s ≡ idle b k → Member b (blocks' k) × Within b k s
  take_idle_in s b k =
      hand_elim (λ v. v ≡ idle b k → Member b (blocks' k) × Within b k s) who first size (held n) s
      (λ h e. absurd (held_not_idle refl e))
      (λ away e.
      let r = p.idle_in s b k e in
      ⊎_elim (λ o. (o, r.1)) (λ q. absurd (away (let a = q.0 in let c = q.1 in let d = r.1 in omega arith))) (t.left k b r.0))

  take_ends : (i f k : ℕ) → own' i f k → f + k ≤ len'
  take_ends i f k o =
      let a = t.ends in
      let b = t.grows in
      ⊎_elim (λ q. let c = p.ends i f k q in omega arith) (λ q. let c = q.1 in let d = q.2 in omega arith) (fwd i f k o)

  take_used_has : (s : ℕ) → s < len' → hand_over who first size (held n) s ≡ unused → ⊥
  take_used_has s h =
      hand_elim (λ v. v ≡ unused → ⊥) who first size (held n) s
      (λ w e. zero_is_not_one (cc))
      (λ away e. go away e (leb len s) refl)
    where
      go : (Within first size s → ⊥) → who s ≡ unused → (b : Bool) → leb len s ≡ b → ⊥
      go away e true d = away (t.grown s (leb-true len s d) h)
      go away e false d = p.used_has s (leb-false len s d) e

  pub taken : Parted own' blocks' len' (hand_over who first size (held n))
  taken =
      record {
        fits = fit;
        ends = take_ends;
        held_by = take_held_by;
        held_in = take_held_in;
        idle_by = λ k b s h w. handed_outside who first size (held n) s (t.clear k b s h w) ∙ p.idle_by k b s (t.less k b h) w;
        idle_in = take_idle_in;
        idle_ends = λ k b h. let r = p.idle_ends k b (t.less k b h) in let a = t.grows in (r.0, r.1, let c = r.2 in omega arith);
        idle_once = t.once;
        used_has = take_used_has;
        unused_beyond = λ s h. handed_outside who first size (held n) s (λ w. let a = t.ends in omega arith) ∙ p.unused_beyond s (let a = t.grows in omega arith);
      }

pub rest_in : (l : List ℕ) (b : ℕ) → Member b (rest l) → Member b l
rest_in [] b h = h
rest_in (c ∷ l) b h = inr h

rest_once : (l : List ℕ) → Once l → Once (rest l)
rest_once [] u = u
rest_once (c ∷ l) u = u.1

-- The block that is taken next: of a size of 0 none, else the free one of this size freed last, else the end.
module _ {own : ℕ → ℕ → ℕ → Type 0} {blocks : ℕ → List ℕ} {len : ℕ} {who : ℕ → Who} (size : ℕ) (p : Parted own blocks len who) where
  rest_less : (l : List ℕ) → blocks size ≡ l → (k b : ℕ) → Member b (upd blocks size (rest l) k) → Member b (blocks k)
  rest_less l e k b =
      upd_elim (λ l'. Member b l' → Member b (blocks k)) blocks size (rest l) k
      (λ q h. subst (Member b) (sym e ∙ ap blocks (sym q)) (rest_in l b h)) (λ q h. h)

  rest_unique : (l : List ℕ) → blocks size ≡ l → (k : ℕ) → Once (upd blocks size (rest l) k)
  rest_unique l e k = upd_elim Once blocks size (rest l) k (λ q. rest_once l (subst Once e (p.idle_once size))) (λ q. p.idle_once k)

  rest_left : (l : List ℕ) → blocks size ≡ l → (k b : ℕ) → Member b (blocks k) → (Member b (upd blocks size (rest l) k)) ⊎ ((b ≡ first_or len l) × (k ≡ size))
  rest_left l e k b h =
      upd_elim (λ l'. (Member b l') ⊎ ((b ≡ first_or len l) × (k ≡ size))) blocks size (rest l) k
      (λ q. first_or_rest l q (subst (Member b) (ap blocks q ∙ e) h)) (λ q. inl h)
    where
      first_or_rest : (l : List ℕ) → k ≡ size → Member b l → (Member b (rest l)) ⊎ ((b ≡ first_or len l) × (k ≡ size))
      first_or_rest [] q h = inl h
      first_or_rest (c ∷ l) q (inl h) = inr (h, q)
      first_or_rest (c ∷ l) q (inr h) = inl h

  -- the first of the free blocks of this size stays in no list
  first_clear : (c : ℕ) (l : List ℕ) → blocks size ≡ c ∷ l → (k b s : ℕ) → Member b (upd blocks size l k) → Within b k s → Within c size s → ⊥
  first_clear c l e k b s h w v =
      let u = p.idle_by k b s (rest_less (c ∷ l) e k b h) w in
      let i = p.idle_by size c s (subst (Member c) (sym e) (inl refl)) v in
      let d : b ≡ c = cc in
      let q : k ≡ size = cc in
      let h' : Member c (upd blocks size l size) = subst (λ (j : ℕ). Member j (upd blocks size l size)) d (subst (λ (j : ℕ). Member b (upd blocks size l j)) q h) in
      (subst Once e (p.idle_once size)).0 (rw upd_same at h')

  pub block_taken_lem : Takes blocks len who (cond (eqb size 0) 0 (first_or len (blocks size))) size (upd blocks size (rest (blocks size))) (len + growth size (blocks size))
  block_taken_lem = go (eqb size 0) refl (blocks size) refl
    where
      go : (t : Bool) → eqb size 0 ≡ t → (l : List ℕ) → blocks size ≡ l → Takes blocks len who (cond t 0 (first_or len l)) size (upd blocks size (rest l)) (len + growth size l)
      go true z (c ∷ l) e =
          let n = eqb-true size 0 z in
          let i = (p.idle_ends size c (subst (Member c) (sym e) (inl refl))).0 in
          absurd (omega arith)
      go true z [] e =
          let n = eqb-true size 0 z in
          record {
            ends = omega arith;
            grows = omega arith;
            grown = omega arith;
            unheld = λ s i w. absurd (omega arith);
            less = rest_less [] e;
            left = λ k b h. upd_elim (λ l. (Member b l) ⊎ ((b ≡ 0) × (k ≡ size))) blocks size [] k (λ q. absurd (subst (Member b) (ap blocks q ∙ e) h)) (λ q. inl h);
            clear = λ k b s h w v. omega arith;
            once = rest_unique [] e;
          }
      go false z [] e =
          record {
            ends = omega arith;
            grows = omega arith;
            grown = omega arith;
            unheld = λ s i w q. let u = p.unused_beyond s w.0 in zero_is_not_one (cc);
            less = rest_less [] e;
            left = rest_left [] e;
            clear = λ k b s h w v. let i = (p.idle_ends k b (rest_less [] e k b h)).2 in omega arith;
            once = rest_unique [] e;
          }
      go false z (c ∷ l) e =
          let i : Member c (blocks size) = subst (Member c) (sym e) (inl refl) in
          let r = (p.idle_ends size c i).2 in
          record {
            ends = omega arith;
            grows = omega arith;
            grown = omega arith;
            unheld = λ s j w q. held_not_idle q (p.idle_by size c s i w);
            less = rest_less (c ∷ l) e;
            left = rest_left (c ∷ l) e;
            clear = first_clear c l e;
            once = rest_unique (c ∷ l) e;
          }
