-- From the listings of a graph to its file: ranks off the table, the records of blocks and wires, and the buffer with both kinds of
-- units in it.
use Rattle.std.specs.Prelude.{◌≡◌, Bool, ◌⊎◌, set, take, replicate, Ok, Err}
use Rattle.std.proofs.Math.Path.{refl, sym, ap, subst}
use Rattle.std.proofs.Common.{◌∙◌, subst₂, inl, inr, mul-suc, length-append, length-set, take_at, get_or-append-add}
use Rattle.std.proofs.Math.Bool.{true, false, cond}
use mathlib.Core.List.{List, [], ◌∷◌, ◌++◌, map, flat_map, append-nil, append_assoc}
use Prim.Native.Nat.{ℕ, zero, suc, ◌+◌, ◌*◌, ◌≤◌, ◌<◌}
use native.Mathlib.Omega.{arith}
use Rattle.std.proofs.Math.Dec.{eqb}
use Rattle.std.proofs.Math.ListN.{length, get_or, drop, get_or-append}
use Rattle.std.proofs.Math.Seq.{sets, get_or-set_same, get_or-set_other}
use Rattle.std.proofs.lemmas.List.Edits.{sets-eq}
use Rattle.std.proofs.lemmas.List.{length-map, set_at, length-replicate, map-id}
use borrow.Author.Tests.{eqb-true, eqb-false, le-leb, lt-leb}
use Rattle.std.proofs.lemmas.Simd.{map-map}
use Rattle.port_tables.specs.Limits.{node_slots, port_slots, node_ports}
use Rattle.port_tables.specs.Lists.{range, Member, Rising}
use Rattle.portgraph.specs.Model.{Model}
use Rattle.port_tables.specs.ResizeLinkSteps.{sets_append}
use Rattle.port_tables.specs.declared.direction.Direction.TheVariants.{Incoming, Outgoing}
use Rattle.port_tables.specs.Places.{Wire}
use Rattle.multiportgraph.specs.Calls.{visible_nodes, visible_links}
use Rattle.multiportgraph.specs.WellFormed.{Fine, MultiWf}
use Rattle.multiportgraph.specs.Wires.{blocks, all_wires, wires_walked, wire_places, place_of}
use Rattle.multiportgraph.specs.Listed.{end_numbers, wire_numbers, wires_listed, block_numbers, blocks_listed, list_after}
use Rattle.multiportgraph.specs.ListReads.{wires_length, blocks_length, block_length, wire_length, few_blocks}
use Rattle.port_tables.specs.Listing.{Apart, member_map, map_member, map_same_on, member_range, length_range, numbers_apart}
use Rattle.multiportgraph.specs.CountLaws.{visible_nodes_lem, visible_links_lem}
use Rattle.multiportgraph.specs.declared.multiportgraph.MultiPortGraph.{MultiPortGraph}
use Rattle.multi_tables.specs.declared.answers.SubportLink.{SubportLink}
use Rattle.files.specs.View.{BlockPorts, RankWire, rank_among, sorted, block_ports, rank_wire, view_of}
use Rattle.files.specs.Layout.{Record, block_record, wire_record, units_for, units_of, bytes_of, file_length, FieldsFit}
use Rattle.files.specs.LayoutLaws.{units_length}
use Rattle.files.specs.Saving.{file_of, save_answer, save_buffer}
use Rattle.files.specs.Claims.{At}
use Rattle.files.specs.OrderLaws.{sorted_member}
use Rattle.files.specs.RankLaws.{at_member, at_some, rank_below}
use Rattle.files.specs.ViewLaws.{EndFits, walked_fits, ports_small, node_in_use, wires_few, links_walked, file_length_is}
use Rattle.files.specs.Forms.{number_of, record_of, turns, sorted_numbers, blocks_in, node_listed, block_listed, nodes_of, blocks_of, BlocksFit, rank_turn, block_turn, wires_in, wire_listed, wires_of, rank_read, WiresFit, wire_turn, Listings, wire_number}
use Rattle.files.specs.SortSteps.{number_back, sorted_as_numbers}
use Rattle.multiportgraph.specs.WalkRule.{walked_places, blocks_rise, blocks_are_few}

-- Ranks.

module _ (listed : List ℕ) where
  -- the nodes of so many blocks from one on
  abbrev nodes_from : ℕ → ℕ → List ℕ
  nodes_from i n = map (node_listed listed) (range i n)

  -- an entry that no block to come writes stays
  rank_stays : (n i x : ℕ) (table : List ℕ) → (Member x (nodes_from i n) → ⊥) → get_or (turns (rank_turn listed) i n table) x 0 ≡ get_or table x 0
  unfolding turns range
  rank_stays zero i x table h = refl
  rank_stays (suc n) i x table h =
      rank_stays n (suc i) x (set table (node_listed listed i) i) (λ k. h (inr k)) ∙ get_or-set_other table (node_listed listed i) x i 0 (λ e. h (inl e))

  rank_written : (n i x : ℕ) (table : List ℕ) → Rising Apart (nodes_from i n) → ((k : ℕ) → Member k (nodes_from i n) → k < length table) → Member x (nodes_from i n) →
      get_or (turns (rank_turn listed) i n table) x 0 ≡ i + rank_among (nodes_from i n) x
  unfolding turns range rank_among
  rank_written zero i x table r h k = absurd k
  rank_written (suc n) i x table r h k =
      go (eqb (node_listed listed i) x) refl k
      (rank_written n (suc i) x (set table (node_listed listed i) i) r.1 (λ k m. subst (λ (l : ℕ). k < l) (sym (length-set table (node_listed listed i) i)) (h k (inr m))))
    where
      go : (b : Bool) → eqb (node_listed listed i) x ≡ b → (x ≡ node_listed listed i) ⊎ Member x (nodes_from (suc i) n) →
          (Member x (nodes_from (suc i) n) → get_or (turns (rank_turn listed) (suc i) n (set table (node_listed listed i) i)) x 0 ≡ suc i + rank_among (nodes_from (suc i) n) x) →
          get_or (turns (rank_turn listed) (suc i) n (set table (node_listed listed i) i)) x 0 ≡ i + cond b 0 (suc (rank_among (nodes_from (suc i) n) x))
      go true e j rest =
          let p = eqb-true (node_listed listed i) x e in
          let a = rank_stays n (suc i) x (set table (node_listed listed i) i) (λ m. r.0 x m p) in
          let b = ap (λ (y : ℕ). get_or (set table (node_listed listed i) i) y 0) (sym p) ∙ get_or-set_same table (node_listed listed i) i 0 (h (node_listed listed i) (inl refl)) in
          let z : i ≡ i + 0 = omega arith in
          a ∙ (b ∙ z)
      go false e (inl p) rest = absurd (eqb-false (node_listed listed i) x e (sym p))
      go false e (inr j) rest = let a = rest j in omega arith

  -- the table of ranks, at each block
  pub ranks_read : (table : List ℕ) → Rising Apart (nodes_of listed) → ((k : ℕ) → Member k (nodes_of listed) → k < length table) → (x : ℕ) → Member x (nodes_of listed) →
      get_or (turns (rank_turn listed) 0 (blocks_in listed) table) x 0 ≡ rank_among (nodes_of listed) x
  unfolding nodes_of
  ranks_read table r h x k =
      let a = rank_written (blocks_in listed) 0 x table r h k in
      omega arith

-- Records.

-- a number for each turn, stored one after the other
numbers_stored : (f : ℕ → ℕ) (n i : ℕ) (sofar rest : List ℕ) → length sofar ≡ i → n ≤ length rest →
    turns (λ j l. set l j (f j)) i n (sofar ++ rest) ≡ (sofar ++ map f (range i n)) ++ drop n rest
unfolding turns range
numbers_stored f zero i sofar rest e h = ap (λ l. l ++ rest) (sym (append-nil sofar))
numbers_stored f (suc n) i sofar [] e h = absurd (omega arith)
numbers_stored f (suc n) i sofar (z ∷ rest) e h =
    let x = f i in
    let a : set (sofar ++ (z ∷ rest)) i x ≡ (sofar ++ (x ∷ [])) ++ rest = set_at sofar z rest x i e ∙ sym (append_assoc sofar (x ∷ []) rest) in
    let l = length-append sofar (x ∷ []) in
    ap (turns (λ j l. set l j (f j)) (suc i) n) a
    ∙ (numbers_stored f n (suc i) (sofar ++ (x ∷ [])) rest (omega arith) (omega arith)
    ∙ ap (λ k. k ++ drop n rest) (append_assoc sofar (x ∷ []) (map f (range (suc i) n))))

-- the first so many of them
numbers_taken : (f : ℕ → ℕ) (n : ℕ) (numbers : List ℕ) → n ≤ length numbers → take n (turns (λ j l. set l j (f j)) 0 n numbers) ≡ map f (range 0 n)
numbers_taken f n numbers h =
    ap (take n) (numbers_stored f n 0 [] numbers refl h) ∙ take_at (map f (range 0 n)) (drop n numbers) n (length-map (range 0 n) f ∙ length_range 0 n)

pub records_back : {A : Type 0} (f : A → Record) (l : List A) → ((x : A) → Member x l → FieldsFit (f x)) → map record_of (map (λ x. number_of (f x)) l) ≡ map f l
records_back f l h = map-map record_of (λ x. number_of (f x)) l ∙ map_same_on (λ x. record_of (number_of (f x))) f l (λ x i. number_back (f x) (h x i))

-- the records that are written of the blocks of a listing
pub block_records : (listed numbers : List ℕ) → blocks_in listed ≤ length numbers → BlocksFit listed →
    map record_of (take (blocks_in listed) (turns (block_turn listed) 0 (blocks_in listed) numbers)) ≡ map block_record (blocks_of listed)
unfolding blocks_of
block_records listed numbers h f =
    let n = blocks_in listed in
    ap (map record_of) (numbers_taken (λ j. number_of (block_record (block_listed listed j))) n numbers h)
    ∙ (records_back (λ j. block_record (block_listed listed j)) (range 0 n) (λ j i. let r = member_range j 0 n i in f j (omega arith))
    ∙ sym (map-map block_record (block_listed listed) (range 0 n)))

-- Records of wires.

module _ {listed ends : List ℕ} (table : List ℕ) (p : Listings listed ends (length table)) where
  abbrev ranks : List ℕ
  ranks = turns (rank_turn listed) 0 (blocks_in listed) table

  nodes_many : length (nodes_of listed) ≡ blocks_in listed
  unfolding nodes_of
  nodes_many = length-map (range 0 (blocks_in listed)) (node_listed listed) ∙ length_range 0 (blocks_in listed)

  rank_is : (n : ℕ) → Member n (nodes_of listed) → get_or ranks n 0 ≡ rank_among (nodes_of listed) n
  rank_is n i = ranks_read listed table p.apart p.in_table n i

  rank_small : (n : ℕ) → Member n (nodes_of listed) → get_or ranks n 0 < 65536
  rank_small n i =
      let a = rank_is n i in
      let b = rank_below (nodes_of listed) n i in
      let c = nodes_many in
      let d = p.few in
      omega arith

  pub wires_fit : WiresFit ends ranks
  wires_fit i h =
      record {
        a = rank_small (get_or ends (8 * i + 2) 0) (p.source i h);
        b = let k = p.output i h in omega arith;
        c = rank_small (get_or ends (8 * i + 6) 0) (p.target i h);
        d = let k = p.input i h in omega arith;
      }

  wires_ranked : wires_of (rank_read ranks) ends ≡ wires_of (rank_among (nodes_of listed)) ends
  unfolding wires_of
  wires_ranked =
      map_same_on (wire_listed (rank_read ranks) ends) (wire_listed (rank_among (nodes_of listed)) ends) (range 0 (wires_in ends))
      (λ i m.
      let r = member_range i 0 (wires_in ends) m in
      let a = rank_is (get_or ends (8 * i + 2) 0) (p.source i (omega arith)) in
      let b = rank_is (get_or ends (8 * i + 6) 0) (p.target i (omega arith)) in
      λ j. record { source = a j; output = get_or ends (8 * i + 3) 0; target = b j; input = get_or ends (8 * i + 7) 0 })

  wires_small : (w : RankWire) → Member w (wires_of (rank_read ranks) ends) → FieldsFit (wire_record w)
  unfolding wires_of
  wires_small w i =
      let g = member_map (wire_listed (rank_read ranks) ends) w (range 0 (wires_in ends)) i in
      let r = member_range g.0 0 (wires_in ends) g.1 in
      subst (λ (v : RankWire). FieldsFit (wire_record v)) (sym g.2) (wires_fit g.0 (omega arith))

  -- the records that are written of the wires of a listing: those of the sorted numbers
  pub wire_records : (numbers : List ℕ) → wires_in ends ≤ length numbers →
      map record_of (sorted_numbers (take (wires_in ends) (turns (wire_turn ends ranks) 0 (wires_in ends) numbers))) ≡ map wire_record (sorted (wires_of (rank_among (nodes_of listed)) ends))
  unfolding wires_of
  wire_records numbers h =
      let n = wires_in ends in
      let ws = wires_of (rank_read ranks) ends in
      ap (λ (l : List ℕ). map record_of (sorted_numbers l))
      (numbers_taken (λ j. number_of (wire_record (wire_listed (rank_read ranks) ends j))) n numbers h ∙ sym (map-map wire_number (wire_listed (rank_read ranks) ends) (range 0 n)))
      ∙ (ap (map record_of) (sorted_as_numbers ws wires_small)
      ∙ (records_back wire_record (sorted ws) (λ w i. wires_small w (sorted_member w ws i))
      ∙ ap (λ (k : List RankWire). map wire_record (sorted k)) wires_ranked))

-- The listings of a graph.

-- numbers listed item after item, k each: the j-th number of the item at a position
listed_number : {A : Type 0} (k : ℕ) (f : A → List ℕ) → ((x : A) → length (f x) ≡ k) → (j : ℕ) → j < k → (l : List A) (i : ℕ) (x : A) → At l i x →
    get_or (flat_map f l) (k * i + j) 0 ≡ get_or (f x) j 0
unfolding flat_map
listed_number {A = A} k f h j s [] i x never = absurd never
listed_number k f h j s (y ∷ l) zero x e =
    let z : k * 0 + j ≡ j = omega arith in
    let n = h y in
    rw z (get_or-append (f y) (flat_map f l) 0 j (omega arith) ∙ ap (λ (v : _). get_or (f v) j 0) (sym e))
listed_number k f h j s (y ∷ l) (suc i) x e =
    let n = h y in
    let m = mul-suc k i in
    let z : k * suc i + j ≡ length (f y) + (k * i + j) = omega arith in
    rw z (get_or-append-add (f y) (flat_map f l) (k * i + j) 0 ∙ listed_number k f h j s l i x e)

-- what is read at each position of a list
pub listed_map : {A B : Type 0} (g : ℕ → B) (f : A → B) (l : List A) (s : ℕ) → ((i : ℕ) (x : A) → At l i x → g (s + i) ≡ f x) → map g (range s (length l)) ≡ map f l
unfolding range
listed_map g f [] s h = refl
listed_map g f (x ∷ l) s h =
    let z : s + 0 ≡ s = omega arith in
    let a = ap g (sym z) ∙ h 0 x refl in
    let b = listed_map g f l (suc s) (λ i y k. ap g (omega arith) ∙ h (suc i) y k) in
    λ j. a j ∷ b j

module _ (m : MultiPortGraph) where
  pub blocks_lent : blocks_in (blocks_listed m) ≡ length (blocks m)
  blocks_lent = let e = blocks_length m in omega arith

  pub wires_lent : wires_in (wires_listed m) ≡ length (all_wires m)
  wires_lent = let e = wires_length m in omega arith

  block_read : (j : ℕ) → j < 4 → (i n : ℕ) → At (blocks m) i n → get_or (blocks_listed m) (4 * i + j) 0 ≡ get_or (block_numbers m n) j 0
  unfolding blocks_listed
  block_read j s i n h = listed_number 4 (block_numbers m) (block_length m) j s (blocks m) i n h

  wire_read : (j : ℕ) → j < 8 → (i : ℕ) (w : SubportLink) → At (all_wires m) i w → get_or (wires_listed m) (8 * i + j) 0 ≡ get_or (wire_numbers m w) j 0
  unfolding wires_listed
  wire_read j s i w h = listed_number 8 (wire_numbers m) (wire_length m) j s (all_wires m) i w h

  node_read : (i n : ℕ) → At (blocks m) i n → node_listed (blocks_listed m) i ≡ n
  unfolding block_numbers
  node_read i n h = let z : 4 * i ≡ 4 * i + 0 = omega arith in rw z (block_read 0 (omega arith) i n h)

  ports_read : (i n : ℕ) → At (blocks m) i n → block_listed (blocks_listed m) i ≡ block_ports m n
  unfolding block_numbers block_ports
  ports_read i n h =
      let a = block_read 1 (omega arith) i n h in
      let b = block_read 2 (omega arith) i n h in
      λ j. record { incoming = a j; outgoing = b j }

  rank_wire_read : (rank : ℕ → ℕ) (i : ℕ) (w : SubportLink) → At (all_wires m) i w → wire_listed rank (wires_listed m) i ≡ rank_wire rank (wire_places m w)
  unfolding wire_numbers end_numbers
  rank_wire_read rank i w h =
      let a = wire_read 2 (omega arith) i w h in
      let b = wire_read 3 (omega arith) i w h in
      let c = wire_read 6 (omega arith) i w h in
      let d = wire_read 7 (omega arith) i w h in
      λ j. record { source = rank (a j); output = b j; target = rank (c j); input = d j }

  pub nodes_are : nodes_of (blocks_listed m) ≡ blocks m
  unfolding nodes_of
  nodes_are =
      ap (λ (n : ℕ). map (node_listed (blocks_listed m)) (range 0 n)) blocks_lent
      ∙ (listed_map (node_listed (blocks_listed m)) (λ (n : ℕ). n) (blocks m) 0 (λ i n h. let z : 0 + i ≡ i = omega arith in rw z (node_read i n h)) ∙ map-id (blocks m))

  pub blocks_are : blocks_of (blocks_listed m) ≡ map (block_ports m) (blocks m)
  unfolding blocks_of
  blocks_are =
      ap (λ (n : ℕ). map (block_listed (blocks_listed m)) (range 0 n)) blocks_lent
      ∙ listed_map (block_listed (blocks_listed m)) (block_ports m) (blocks m) 0 (λ i n h. let z : 0 + i ≡ i = omega arith in rw z (ports_read i n h))

  wires_are : (rank : ℕ → ℕ) → wires_of rank (wires_listed m) ≡ map (λ (w : SubportLink). rank_wire rank (wire_places m w)) (all_wires m)
  unfolding wires_of
  wires_are rank =
      ap (λ (n : ℕ). map (wire_listed rank (wires_listed m)) (range 0 n)) wires_lent
      ∙ listed_map (wire_listed rank (wires_listed m)) (λ (w : SubportLink). rank_wire rank (wire_places m w)) (all_wires m) 0 (λ i w h. let z : 0 + i ≡ i = omega arith in rw z (rank_wire_read rank i w h))

  module _ {M : Model} (f : Fine m M) where
    pub blocks_fit : BlocksFit (blocks_listed m)
    unfolding block_ports
    blocks_fit i h =
        let e = blocks_lent in
        let x = at_some (blocks m) i (omega arith) in
        let a = ports_small f x.0 Incoming in
        let b = ports_small f x.0 Outgoing in
        subst (λ (y : BlockPorts). FieldsFit (block_record y)) (sym (ports_read i x.0 x.1)) (record { a = omega arith; b = omega arith; c = omega arith; d = omega arith })

    -- the wire at a position of the listing
    wire_there : (i : ℕ) → i < wires_in (wires_listed m) → (w : SubportLink) × At (all_wires m) i w × (EndFits m (place_of m w.from) × EndFits m (place_of m w.to))
    wire_there i h =
        let e = wires_lent in
        let x = at_some (all_wires m) i (omega arith) in
        let k = subst (λ (l : List Wire). Member (wire_places m x.0) l) (sym (walked_places f)) (map_member (wire_places m) x.0 (all_wires m) (at_member (all_wires m) i x.0 x.1)) in
        (x.0, x.1, walked_fits f (wire_places m x.0) k)

    pub listings : {slots : ℕ} → m.graph.node_len ≤ slots → Listings (blocks_listed m) (wires_listed m) slots
    unfolding wire_numbers end_numbers
    listings long =
        record {
          few = let e = blocks_lent in let h = blocks_are_few m in omega arith;
          apart = subst (Rising Apart) (sym nodes_are) (numbers_apart (blocks m) (blocks_rise m));
          in_table = λ n i. let u = node_in_use f n (subst (λ (l : List ℕ). Member n l) nodes_are i) in omega arith;
          source = λ i h.
              let x = wire_there i h in
              subst (λ (l : List ℕ). Member (get_or (wires_listed m) (8 * i + 2) 0) l) (sym nodes_are)
              (subst (λ (n : ℕ). Member n (blocks m)) (sym (wire_read 2 (omega arith) i x.0 x.1)) x.2.0.block);
          output = λ i h. let x = wire_there i h in subst (λ (n : ℕ). n < node_ports) (sym (wire_read 3 (omega arith) i x.0 x.1)) x.2.0.pos;
          target = λ i h.
              let x = wire_there i h in
              subst (λ (l : List ℕ). Member (get_or (wires_listed m) (8 * i + 6) 0) l) (sym nodes_are)
              (subst (λ (n : ℕ). Member n (blocks m)) (sym (wire_read 6 (omega arith) i x.0 x.1)) x.2.1.block);
          input = λ i h. let x = wire_there i h in subst (λ (n : ℕ). n < node_ports) (sym (wire_read 7 (omega arith) i x.0 x.1)) x.2.1.pos;
        }

    -- the units of both kinds are the file
    pub file_is : units_of 1 (map block_record (blocks_of (blocks_listed m))) ++ units_of 2 (map wire_record (sorted (wires_of (rank_among (nodes_of (blocks_listed m))) (wires_listed m)))) ≡ file_of m
    unfolding file_of bytes_of view_of
    file_is =
        let rank = rank_among (blocks m) in
        let w : wires_of (rank_among (nodes_of (blocks_listed m))) (wires_listed m) ≡ map (rank_wire rank) (wires_walked m) =
        ap (λ (l : List ℕ). wires_of (rank_among l) (wires_listed m)) nodes_are
        ∙ (wires_are rank ∙ (sym (map-map (rank_wire rank) (wire_places m) (all_wires m)) ∙ ap (map (rank_wire rank)) (sym (walked_places f)))) in
        λ j. units_of 1 (map block_record (blocks_are j)) ++ units_of 2 (map wire_record (sorted (w j)))

-- What saving answers and leaves.

-- a listing at the start of a list
pub listing_taken : (numbers list : List ℕ) (n : ℕ) → n ≡ length numbers → length numbers ≤ length list → take n (list_after numbers list) ≡ numbers
unfolding list_after
listing_taken numbers list n e h = rw (le-leb (length numbers) (length list) h, e) (take_at numbers (drop (length numbers) list) (length numbers) refl)

-- so many blocks and wires there are, and so many numbers are listed: there is room for them
module _ {m : MultiPortGraph} {M : Model} (f : Fine m M) where
  pub slots_few : m.graph.node_len ≤ node_slots
  slots_few = let a = f.holds.node_len in let b = f.good.nodes_fit in omega arith

  pub listed_blocks : (n : ℕ) → n ≡ visible_nodes m → (4 * n ≡ length (blocks_listed m)) × (length (blocks_listed m) ≤ 4 * node_slots)
  listed_blocks n e = let a = visible_nodes_lem f in let b = blocks_length m in let c = blocks_are_few m in (omega arith, omega arith)

  pub listed_wires : (n : ℕ) → n ≡ visible_links m → (8 * n ≡ length (wires_listed m)) × (length (wires_listed m) ≤ 4 * port_slots)
  listed_wires n e =
      let a = visible_links_lem f in
      let b = wires_length m in
      let c = wires_few f in
      let d = links_walked f in
      (omega arith, omega arith)

module _ {m : MultiPortGraph} (wf : MultiWf m) where
  pub visible_links_few : 2 * visible_links m ≤ port_slots
  visible_links_few = let h = listed_wires wf.fine _ refl in omega (arith, h.0, h.1)

  -- the parts of the lists that have the listings
  pub blocks_taken : {n : ℕ} {list : List ℕ} (list₀ : List ℕ) → n ≡ visible_nodes m → 4 * visible_nodes m ≤ length list₀ → list ≡ list_after (blocks_listed m) list₀ → take (4 * n) list ≡ blocks_listed m
  blocks_taken {n} list₀ e h p = let k = listed_blocks wf.fine n e in ap (take (4 * n)) p ∙ listing_taken (blocks_listed m) list₀ (4 * n) k.0 (omega arith)

  pub wires_taken : {n : ℕ} {list : List ℕ} (list₀ : List ℕ) → n ≡ visible_links m → 8 * visible_links m ≤ length list₀ → list ≡ list_after (wires_listed m) list₀ → take (8 * n) list ≡ wires_listed m
  wires_taken {n} list₀ e h p = let k = listed_wires wf.fine n e in ap (take (8 * n)) p ∙ listing_taken (wires_listed m) list₀ (8 * n) k.0 (omega arith)

  -- and of lists that have room for every one
  module _ {n : ℕ} (counted : n ≡ visible_nodes m) where
    pub blocks_within : {room : ℕ} {list : List ℕ} → 4 * visible_nodes m ≤ room → list ≡ list_after (blocks_listed m) (replicate room 0) → take (4 * n) list ≡ blocks_listed m
    blocks_within {room} h e = let l = length-replicate {A = ℕ} room 0 in blocks_taken (replicate room 0) counted (omega arith) e

    pub blocks_first : {list : List ℕ} → list ≡ list_after (blocks_listed m) (replicate (4 * node_slots) 0) → take (4 * n) list ≡ blocks_listed m
    blocks_first e = blocks_within {room = 4 * node_slots} (omega (arith, few_blocks m wf)) e

    pub blocks_long : length (blocks_listed m) ≡ 4 * n
    blocks_long = sym (listed_blocks wf.fine n counted).0

  module _ {n : ℕ} (counted : n ≡ visible_links m) where
    pub wires_within : {room : ℕ} {list : List ℕ} → 8 * visible_links m ≤ room → list ≡ list_after (wires_listed m) (replicate room 0) → take (8 * n) list ≡ wires_listed m
    wires_within {room} h e = let l = length-replicate {A = ℕ} room 0 in wires_taken (replicate room 0) counted (omega arith) e

    pub wires_first : {list : List ℕ} → list ≡ list_after (wires_listed m) (replicate (4 * port_slots) 0) → take (8 * n) list ≡ wires_listed m
    wires_first e = wires_within {room = 4 * port_slots} (omega (arith, visible_links_few)) e

    pub wires_long : length (wires_listed m) ≡ 8 * n
    wires_long = sym (listed_wires wf.fine n counted).0

module _ {m : MultiPortGraph} {M : Model} (f : Fine m M) (buffer : List ℕ) (size : ℕ) (sized : size ≡ file_length (visible_nodes m) (visible_links m)) where
  pub save_short : length buffer < size → (Err (record {}) ≡ save_answer m buffer) × (buffer ≡ save_buffer m buffer)
  unfolding save_answer save_buffer list_after
  save_short h =
      let e = file_length_is f in
      let t = lt-leb (length (file_of m)) (length buffer) (omega arith) in
      (rw t, rw t)

  pub save_answered : size ≤ length buffer → Ok size ≡ save_answer m buffer
  unfolding save_answer
  save_answered h =
      let e = file_length_is f in
      let t = le-leb (length (file_of m)) (length buffer) (omega arith) in
      rw t (ap Ok (sized ∙ sym e))

  save_full : (buffer₁ buffer₂ a b : List ℕ) (at : ℕ) → size ≤ length buffer → at ≡ length a → buffer₁ ≡ sets buffer 0 a → buffer₂ ≡ sets buffer₁ at b → a ++ b ≡ file_of m →
      buffer₂ ≡ save_buffer m buffer
  unfolding save_buffer list_after
  save_full buffer₁ buffer₂ a b at h n e₁ e₂ whole =
      let e = file_length_is f in
      let t = le-leb (length (file_of m)) (length buffer) (omega arith) in
      let z : 0 + length a ≡ length a = omega arith in
      let y : 0 + length (file_of m) ≡ length (file_of m) = omega arith in
      let s : buffer₂ ≡ sets buffer 0 (file_of m) =
      e₂ ∙ ((λ j. sets (e₁ j) ((n ∙ sym z) j) b) ∙ (sets_append buffer 0 a b ∙ ap (sets buffer 0) whole)) in
      rw t (s ∙ (sets-eq (file_of m) buffer 0 (omega arith) ∙ ap (λ (k : ℕ). file_of m ++ drop k buffer) y))

  -- what the functions for blocks and wires presume, of the parts of the listings that they are lent
  module _ (enough : size ≤ length buffer) (listed ends : List ℕ) (isBlocks : listed ≡ blocks_listed m) (isWires : ends ≡ wires_listed m) where
    blocks_counted : blocks_in listed ≡ visible_nodes m
    blocks_counted = ap blocks_in isBlocks ∙ (blocks_lent m ∙ sym (visible_nodes_lem f))

    wires_counted : wires_in ends ≡ visible_links m
    wires_counted = ap wires_in isWires ∙ (wires_lent m ∙ sym (visible_links_lem f))

    length_split : size ≡ 512 * units_for (blocks_in listed) + 512 * units_for (wires_in ends)
    unfolding file_length
    length_split = let a = ap units_for blocks_counted in let b = ap units_for wires_counted in omega arith

    pub blocks_room : {room : ℕ} → visible_nodes m ≤ room → (blocks_in listed ≤ room) × BlocksFit listed × (512 * units_for (blocks_in listed) ≤ length buffer)
    blocks_room h =
        let e = length_split in (
          let n = blocks_counted in omega arith,
          subst BlocksFit (sym isBlocks) (blocks_fit m f),
          omega arith,
        )

    module _ (buffer₁ : List ℕ) (at : ℕ) (is_at : at ≡ 512 * units_for (blocks_in listed)) where
      pub wires_room : {slots room : ℕ} → m.graph.node_len ≤ slots → visible_links m ≤ room → length buffer₁ ≡ length buffer →
          Listings listed ends slots × (wires_in ends ≤ room) × (at + 512 * units_for (wires_in ends) ≤ length buffer₁)
      wires_room {slots} long h n =
          let e = length_split in (
            subst₂ (λ (a b : List ℕ). Listings a b slots) (sym isBlocks) (sym isWires) (listings m f long),
            let k = wires_counted in omega arith,
            omega arith,
          )

      -- and both kinds of units laid are the file
      pub saved : (buffer₂ : List ℕ) → buffer₁ ≡ sets buffer 0 (units_of 1 (map block_record (blocks_of listed))) →
          buffer₂ ≡ sets buffer₁ at (units_of 2 (map wire_record (sorted (wires_of (rank_among (nodes_of listed)) ends)))) → buffer₂ ≡ save_buffer m buffer
      unfolding units_of blocks_of
      saved buffer₂ e₁ e₂ =
          let records = map block_record (blocks_of listed) in
          let n = length-map (blocks_of listed) block_record ∙ (length-map (range 0 (blocks_in listed)) (block_listed listed) ∙ length_range 0 (blocks_in listed)) in
          let long : at ≡ length (units_of 1 records) = is_at ∙ (ap (λ (k : ℕ). 512 * units_for k) (sym n) ∙ sym (units_length 1 (units_for (length records)) records)) in
          save_full buffer₁ buffer₂ (units_of 1 records) (units_of 2 (map wire_record (sorted (wires_of (rank_among (nodes_of listed)) ends)))) at enough long e₁ e₂ (whole ∙ file_is m f)
        where
          whole : units_of 1 (map block_record (blocks_of listed)) ++ units_of 2 (map wire_record (sorted (wires_of (rank_among (nodes_of listed)) ends)))
              ≡ units_of 1 (map block_record (blocks_of (blocks_listed m))) ++ units_of 2 (map wire_record (sorted (wires_of (rank_among (nodes_of (blocks_listed m))) (wires_listed m))))
          whole = λ j. units_of 1 (map block_record (blocks_of (isBlocks j))) ++ units_of 2 (map wire_record (sorted (wires_of (rank_among (nodes_of (isBlocks j))) (isWires j))))
