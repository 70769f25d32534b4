-- Laws of ranks: positions in a list without repeats, and that the rank of a block among the graph's blocks is its rank in the book.
use Rattle.std.specs.Prelude.{◌≡◌, refl, Bool, true, false, cond, List, [], ◌∷◌, map, ◌⊎◌, ℕ, zero, suc, ◌<◌, eqb, length, get_or}
use Rattle.std.proofs.Math.Path.{sym}
use Rattle.std.proofs.Common.{ap, ◌∙◌, subst, inl, inr, arith, eqb-true, eq-eqb, ne_eqb, lt-ltb, le-ltb}
use Rattle.std.proofs.Math.Dec.{ltb}
use Rattle.std.proofs.lemmas.Bool.{eqb-false}
use Rattle.std.proofs.lemmas.List.{length-map}
use Rattle.port_tables.specs.Lists.{Member, Rising}
use Rattle.std.specs.List.{filter}
use Rattle.portgraph.specs.Model.{Model}
use Rattle.port_tables.specs.declared.node_entry.NodeMeta.{NodeMeta}
use Rattle.multiportgraph.specs.Wires.{blocks}
use Rattle.multiportgraph.specs.WellFormed.{BlockIs}
use Rattle.port_tables.specs.Listing.{Apart, member_filter, filter_member, filter_map, filter_none, member_map, map_member, rising_filter, rising_map}
use Rattle.multiportgraph.specs.declared.multiportgraph.MultiPortGraph.{MultiPortGraph}
use Rattle.theorems.specs.Book.{Block, Book}
use Rattle.theorems.proofs.WireRule.{OtherNode, Rel}
use Rattle.theorems.proofs.PortListing.{same_length, blocks_list}
use Rattle.files.specs.View.{rank_among}
use Rattle.files.specs.Claims.{rank_in, At}
use Rattle.multiportgraph.specs.WalkRule.{blocks_rise}

-- Positions.

module _ {A : Type 0} where
  pub at_member : (l : List A) (r : ℕ) (x : A) → At l r x → Member x l
  at_member [] r x never = absurd never
  at_member (y ∷ l) zero x e = inl e
  at_member (y ∷ l) (suc r) x h = inr (at_member l r x h)

  pub member_at : (x : A) (l : List A) → Member x l → (r : ℕ) × At l r x
  member_at x [] never = absurd never
  member_at x (y ∷ l) (inl e) = (0, e)
  member_at x (y ∷ l) (inr i) = let h = member_at x l i in (suc h.0, h.1)

  pub at_below : (l : List A) (r : ℕ) (x : A) → At l r x → r < length l
  at_below [] r x never = absurd never
  at_below (y ∷ l) zero x h = omega arith
  at_below (y ∷ l) (suc r) x h = let k = at_below l r x h in omega arith

  -- a position of a list has an item,
  pub at_some : (l : List A) (i : ℕ) → i < length l → (x : A) × At l i x
  at_some [] i h = absurd (omega arith)
  at_some (x ∷ l) zero h = (x, refl)
  at_some (x ∷ l) (suc i) h = at_some l i (omega arith)

  -- and what stands there is read there
  pub at_read : (l : List A) (r : ℕ) (x d : A) → At l r x → get_or l r d ≡ x
  at_read [] r x d never = absurd never
  at_read (y ∷ l) zero x d e = sym e
  at_read (y ∷ l) (suc r) x d h = at_read l r x d h

  pub at_get : (l : List A) (r : ℕ) (d : A) → r < length l → At l r (get_or l r d)
  at_get l r d h = let k = at_some l r h in subst (At l r) (sym (at_read l r k.0 d k.1)) k.1

  -- what holds of all that is read holds of each item
  pub items_hold : (P : A → Type 0) (l : List A) (d : A) → ((i : ℕ) → i < length l → P (get_or l i d)) → (x : A) → Member x l → P x
  items_hold P l d h x i = let k = member_at x l i in subst P (at_read l k.0 x d k.1) (h k.0 (at_below l k.0 x k.1))

  -- two lists with the same items at the same positions are equal
  pub same_positions : (a b : List A) → ((r : ℕ) (x : A) → At a r x → At b r x) → ((r : ℕ) (x : A) → At b r x → At a r x) → a ≡ b
  same_positions [] [] f g = refl
  same_positions [] (y ∷ b) f g = absurd (g 0 y refl)
  same_positions (x ∷ a) [] f g = absurd (f 0 x refl)
  same_positions (x ∷ a) (y ∷ b) f g =
      let p : x ≡ y = f 0 x refl in
      let q : a ≡ b = same_positions a b (λ r. f (suc r)) (λ r. g (suc r)) in
      cc

module _ {A B : Type 0} (f : A → B) where
  pub at_map : (l : List A) (r : ℕ) (y : B) → At (map f l) r y → (x : A) × At l r x × (y ≡ f x)
  at_map [] r y never = absurd never
  at_map (x ∷ l) zero y e = (x, refl, e)
  at_map (x ∷ l) (suc r) y h = at_map l r y h

  pub map_at : (l : List A) (r : ℕ) (x : A) → At l r x → At (map f l) r (f x)
  map_at [] r x never = absurd never
  map_at (z ∷ l) zero x e = ap f e
  map_at (z ∷ l) (suc r) x h = map_at l r x h

-- Ranks in a list.

pub rank_below : (l : List ℕ) (n : ℕ) → Member n l → rank_among l n < length l
unfolding rank_among
rank_below [] n never = absurd never
rank_below (k ∷ l) n h = go (eqb k n) refl h (rank_below l n)
  where
    go : (b : Bool) → eqb k n ≡ b → (n ≡ k) ⊎ Member n l → (Member n l → rank_among l n < length l) → cond b 0 (suc (rank_among l n)) < suc (length l)
    go true e i rest = omega arith
    go false e (inl p) rest = absurd (eqb-false k n e (sym p))
    go false e (inr i) rest = let r = rest i in omega arith

-- a number stands at its rank,
pub rank_at : (l : List ℕ) (n : ℕ) → Member n l → At l (rank_among l n) n
unfolding rank_among
rank_at [] n never = absurd never
rank_at (k ∷ l) n h = go (eqb k n) refl h (rank_at l n)
  where
    go : (b : Bool) → eqb k n ≡ b → (n ≡ k) ⊎ Member n l → (Member n l → At l (rank_among l n) n) → At (k ∷ l) (cond b 0 (suc (rank_among l n))) n
    go true e i rest = sym (eqb-true k n e)
    go false e (inl p) rest = absurd (eqb-false k n e (sym p))
    go false e (inr i) rest = rest i

-- and at no other position
pub at_rank : (l : List ℕ) → Rising Apart l → (r n : ℕ) → At l r n → rank_among l n ≡ r
unfolding rank_among
at_rank [] a r n never = absurd never
at_rank (k ∷ l) a zero n e = rw (eq-eqb k n (sym e))
at_rank (k ∷ l) a (suc r) n h = rw (ne_eqb k n (a.0 n (at_member l r n h))) (ap suc (at_rank l a.1 r n h))

-- in an ascending list a rank is the number of smaller numbers
pub rank_counts : (l : List ℕ) → Rising ◌<◌ l → (n : ℕ) → Member n l → rank_among l n ≡ length (filter (λ k. ltb k n) l)
unfolding rank_among
rank_counts [] r n never = absurd never
rank_counts (k ∷ l) r n (inl p) =
    rw (eq-eqb k n (sym p), le-ltb k n (omega arith))
    (sym (ap length (filter_none (λ j. ltb j n) l (λ j i. let h = r.0 j i in le-ltb j n (omega arith)))))
rank_counts (k ∷ l) r n (inr i) =
    let h = r.0 n i in
    rw (ne_eqb k n (λ e. omega arith), lt-ltb k n h) (ap suc (rank_counts l r.1 n i))

-- The graph's blocks and the book's.

abbrev pub node_of : Block → ℕ
node_of b = b.node

module _ {m : MultiPortGraph} {M : Model} {B : Book} (r : Rel m M B) where
  pub booked_block : (n : ℕ) (k : NodeMeta) → BlockIs m M n k → Member n (blocks m)
  booked_block n k b = (blocks_list r.fine).all n k b

  block_booked : (n : ℕ) → Member n (blocks m) → Member n (map node_of B.blocks)
  block_booked n i =
      let k = (blocks_list r.fine).only n i in
      let s = r.blocks.all n k.0 k.1 in
      subst (λ (j : ℕ). Member j (map node_of B.blocks)) s.2 (map_member node_of s.0 B.blocks s.1)

  book_blocks : (n : ℕ) → Member n (map node_of B.blocks) → Member n (blocks m)
  book_blocks n i =
      let e = member_map node_of n B.blocks i in
      let s = r.blocks.right e.0 e.1 in
      subst (λ (j : ℕ). Member j (blocks m)) (sym e.2) (booked_block e.0.node s.0 s.1)

  -- as many smaller blocks in the book as in the graph
  pub rank_booked : (n : ℕ) → Member n (blocks m) → rank_among (blocks m) n ≡ rank_in B n
  unfolding rank_in
  rank_booked n i =
      rank_counts (blocks m) (blocks_rise m) n i
      ∙ (same_length (filter (λ k. ltb k n) (blocks m)) (filter (λ k. ltb k n) (map node_of B.blocks))
      (rising_filter Apart (λ k. ltb k n) (blocks m) (blocks_list r.fine).once)
      (rising_filter Apart (λ k. ltb k n) (map node_of B.blocks) (rising_map OtherNode Apart node_of B.blocks r.blocks.once (λ a c x y l. l)))
      (λ k j. let h = member_filter (λ k. ltb k n) k (blocks m) j in filter_member (λ k. ltb k n) k (map node_of B.blocks) (block_booked k h.0) h.1)
      (λ k j. let h = member_filter (λ k. ltb k n) k (map node_of B.blocks) j in filter_member (λ k. ltb k n) k (blocks m) (book_blocks k h.0) h.1)
      ∙ (ap length (filter_map node_of (λ k. ltb k n) B.blocks) ∙ length-map (filter (λ (b : Block). ltb b.node n) B.blocks) node_of))
