-- Adding where no slot is free: an add takes the next node number and the next ports. So a list of adds from the empty graph lays its
-- blocks one after the other, each with the number of its rank.
use Rattle.std.specs.Prelude.{◌≡◌, refl, Bool, true, false, cond, List, [], ◌∷◌, map, ◌⊎◌, ℕ, zero, suc, ◌+◌, ◌≤◌, ◌<◌, leb, ltb, length, Ok, Result, Err}
use Rattle.std.proofs.Common.{sym, ap, ◌∙◌, subst, inl, inr, ⊎_elim, arith, ne_eqb, leb-true, ltb-true, ltb-false, le-ltb}
use Rattle.port_tables.specs.Limits.{node_slots, port_slots, node_ports, present}
use Rattle.port_tables.specs.Lists.{range, Member}
use Rattle.std.specs.List.{filter}
use Rattle.portgraph.specs.Model.{Model, Chain, number_of_first}
use Rattle.port_tables.specs.Tables.{head_at}
use Rattle.portgraph.specs.Meaning.{rest, growth, first_or, next_slot, next_block, add_model}
use Rattle.portgraph.specs.SlotHolds.{slot_room, block_room, add_where, add_law}
use Rattle.portgraph.specs.GoodSlots.{zero_is_not_one, upd_elim}
use Rattle.portgraph.specs.GoodLaws.{empty_model}
use Rattle.port_tables.specs.declared.index.NodeIndex.{NodeIndex}
use Rattle.port_tables.specs.declared.index.PortIndex.{PortIndex}
use Rattle.portgraph.specs.declared.alloc.NodeAdded as lower_added
use Rattle.multiportgraph.specs.Calls.{added_as, add_block}
use Rattle.multiportgraph.specs.CaseLaws.{add_cases}
use Rattle.multiportgraph.specs.Graph.{empty_graph}
use Rattle.multiportgraph.specs.WellFormed.{Fine, MultiWf}
use Rattle.multiportgraph.specs.LinkCutLaws.{fine_empty}
use Rattle.multiportgraph.specs.Space.{Room, room_of, overflows, add_works, Spaced}
use Rattle.multiportgraph.specs.SpaceLaws.{room_is, room_added, add_space}
use Rattle.multiportgraph.specs.declared.multiportgraph.MultiPortGraph.{MultiPortGraph}
use Rattle.port_tables.specs.declared.release.Release.{Release}
use Rattle.multiportgraph.specs.declared.multiportgraph.NodeAdded.{NodeAdded}
use Rattle.multi_tables.specs.declared.answers.Refusal.TheVariants.{NoRoom}
use Rattle.theorems.specs.Book.{Block, Book, empty_book, book_add}
use Rattle.theorems.specs.History.{State, next, run_from, run_from_under, run, run_under, step}
use Rattle.theorems.proofs.CallLaws.{call_law}
use Rattle.files.specs.View.{BlockPorts}
use Rattle.files.specs.Loading.{block_at, first_port, add_of, after_call, first_refusal, first_refusal_under}
use Rattle.files.specs.Claims.{rank_in, At}
use Rattle.multi_tables.specs.declared.answers.Refusal.{Refusal}

-- One add.

module _ {m : MultiPortGraph} {M : Model} (f : Fine m M) (i o : ℕ) where
  abbrev Next : Result (NodeIndex × PortIndex) Refusal → Type 0
  Next (Ok (n, p)) = (i + o ≤ node_ports) × (n.0 ≡ next_slot M) × (p.0 ≡ next_block M (i + o))
  Next (Err r) = Unit {0}

  next_taken : Next (add_block m i o).answer
  next_taken =
      subst (λ (v : NodeAdded). Next v.answer) (sym (add_cases present m i o))
      (subst (λ (v : lower_added.NodeAdded). Next (added_as v.answer)) (sym (add_law f.good f.holds i o))
      (go (leb (i + o) node_ports) refl (slot_room M) (block_room M (i + o))))
    where
      go : (a : Bool) → leb (i + o) node_ports ≡ a → (b c : Bool) → Next (added_as (add_where m.graph M i o a b c).answer)
      go true e true true = (leb-true _ _ e, refl, refl)
      go true e true false = tt
      go true e false c = tt
      go false e b c = tt

  -- what an accepted add answers
  pub add_takes : (n : NodeIndex) (p : PortIndex) → (add_block m i o).answer ≡ Ok (n, p) → (i + o ≤ node_ports) × (n.0 ≡ next_slot M) × (p.0 ≡ next_block M (i + o))
  add_takes n p e = subst Next e next_taken

  -- With no node slot free, and no block of this size, an accepted add gives the next node and the next ports.
  pub add_takes_next : (n : NodeIndex) (p : PortIndex) → M.free_nodes ≡ [] → M.free_blocks (i + o) ≡ [] → (add_block m i o).answer ≡ Ok (n, p) →
      (n.0 ≡ M.node_len) × (0 < i + o → p.0 ≡ M.port_len)
  add_takes_next n p free none e =
      let t = add_takes n p e in (
        t.1 ∙ ap (first_or M.node_len) free,
        (λ h. t.2 ∙ (rw (ne_eqb (i + o) 0 (λ z. omega arith)) (ap (first_or M.port_len) none))),
      )

  -- the room after an accepted add is that of the model with the node
  room_after_add : (n : NodeIndex) (p : PortIndex) (N : Model) → Fine (add_block m i o).graph N → (add_block m i o).answer ≡ Ok (n, p) → room_of N ≡ room_of (add_model M i o)
  room_after_add n p N g e = go (overflows (room_of M) (add_works i o)) refl
    where
      s : Spaced m M (add_works i o) ((add_block m i o).answer ≡ Err NoRoom) (add_block m i o).graph
      s = add_space f i o (add_takes n p e).0

      go : (b : Bool) → overflows (room_of M) (add_works i o) ≡ b → room_of N ≡ room_of (add_model M i o)
      go true k = let z = s.no_room_iff.1 k in absurd (zero_is_not_one (cc))
      go false k = room_is (s.room_after k) g.holds ∙ sym (room_added f.good i o)

-- the same, read off the tables
numbered_none : (l : List ℕ) → number_of_first l ≡ 0 → l ≡ []
numbered_none [] e = refl
numbered_none (n ∷ l) e = absurd (omega arith)

chained_none : (t : List ℕ) (h : ℕ) (l : List ℕ) → Chain t h l → h ≡ 0 → l ≡ []
chained_none t h [] c e = refl
chained_none t h (b ∷ l) c e = let k = c.0 in absurd (omega arith)

-- In a graph of the calls whose tables list no free node slot, and no free block of this size, an accepted add gives the next node and the next ports.
pub add_gives_next : (m : MultiPortGraph) → MultiWf m → (i o : ℕ) (n : NodeIndex) (p : PortIndex) → m.graph.node_free ≡ 0 → head_at m.graph.port_free (i + o) ≡ 0 →
    (add_block m i o).answer ≡ Ok (n, p) → (n.0 ≡ m.graph.node_len) × (0 < i + o → p.0 ≡ m.graph.port_len)
add_gives_next m w i o n p free none e =
    let f = w.fine in
    let h = f.holds in
    let a = numbered_none w.model.free_nodes (sym h.node_head ∙ free) in
    let b = chained_none m.graph.port_link _ (w.model.free_blocks (i + o)) (h.block_chain (i + o)) none in
    let t = add_takes_next f i o n p a b e in
    (t.0 ∙ sym h.node_len, λ z. t.1 z ∙ sym h.port_len)

-- No node slot and no block is free; so many node slots and port slots are used.
pub record NoFree (M : Model) (n p : ℕ) : Type 0 where
  pub nodes : M.free_nodes ≡ []
  pub blocks : (k : ℕ) → M.free_blocks k ≡ []
  pub node_len : M.node_len ≡ n
  pub port_len : M.port_len ≡ p

pub none_free_at_first : NoFree empty_model 0 0
none_free_at_first = record { nodes = refl; blocks = λ k. refl; node_len = refl; port_len = refl }

-- an add frees none
pub none_free_after : {m : MultiPortGraph} {M : Model} → Fine m M → {n p : ℕ} → NoFree M n p → (i o : ℕ) (k : NodeIndex) (q : PortIndex) (N : Model) →
    Fine (add_block m i o).graph N → (add_block m i o).answer ≡ Ok (k, q) → NoFree N (suc n) (p + (i + o))
none_free_after {m} {M} f {n} {p} h i o k q N g e =
    let r = room_after_add f i o k q N g e in
    record {
      nodes = ap (λ (v : Room). v.free_nodes) r ∙ ap rest h.nodes;
      blocks = λ j.
          ap (λ (v : Room). v.free_blocks j) r
          ∙ upd_elim (λ (l : List ℕ). l ≡ []) M.free_blocks (i + o) (rest (M.free_blocks (i + o))) j (λ z. ap rest (h.blocks (i + o))) (λ z. h.blocks j);
      node_len =
          let a = ap (λ (v : Room). v.node_len) r in
          let b = ap (growth 1) h.nodes in
          let c = h.node_len in
          omega arith;
      port_len =
          let a = ap (λ (v : Room). v.port_len) r in
          let b = ap (growth (i + o)) (h.blocks (i + o)) in
          let c = h.port_len in
          omega arith;
    }

-- Blocks laid one after the other.

-- a block with its number and its first port
abbrev pub block_from : ℕ → ℕ → BlockPorts → Block
block_from n p b = record { node = n; ins = range p b.incoming; outs = range (p + b.incoming) b.outgoing }

-- blocks entered in a book from a node and a port on
unfoldable pub laid : ℕ → ℕ → List BlockPorts → List Block → List Block
laid n p [] l = l
laid n p (b ∷ bs) l = laid (suc n) (p + (b.incoming + b.outgoing)) bs (block_from n p b ∷ l)

-- a range that has no number begins anywhere
range_from : (a b k : ℕ) → (0 < k → a ≡ b) → range a k ≡ range b k
unfolding range
range_from a b zero h = refl
range_from a b (suc k) h = ap (λ (c : ℕ). range c (suc k)) (h (omega arith))

-- what the book has after adds
abbrev with_laid : ℕ → ℕ → List BlockPorts → Book → Book
with_laid n p bs B = record { blocks = laid n p bs B.blocks; wires = B.wires }

-- What adds that are all accepted lead to.
pub record AddsLaid (s : State) (n p : ℕ) (bs : List BlockPorts) : Type 0 where
  pub model : Model
  pub fine : Fine (run_from s (map add_of bs)).graph model
  pub none : NoFree model (n + length bs) (p + first_port bs (length bs))
  pub book : (run_from s (map add_of bs)).book ≡ with_laid n p bs s.book

pub adds_laid : (bs : List BlockPorts) (s : State) (M : Model) (n p : ℕ) → Fine s.graph M → NoFree M n p → first_refusal s.graph (map add_of bs) ≡ Ok tt → AddsLaid s n p bs
unfolding run_from_under laid first_port first_refusal_under
adds_laid [] s M n p f h e =
    record {
      model = M;
      fine = f;
      none = subst (λ (v : ℕ × ℕ). NoFree M v.0 v.1) {x = (n, p)} {y = (n + 0, p + 0)} (let a : n ≡ n + 0 = omega arith in let b : p ≡ p + 0 = omega arith in λ j. (a j, b j)) h;
      book = refl;
    }
adds_laid (b ∷ bs) s M n p f h e = go (adds_laid bs (next s (add_of b))) (step s.graph (add_of b)).answer refl e
  where
    go : ((N : Model) (n p : ℕ) → Fine (next s (add_of b)).graph N → NoFree N n p → first_refusal (next s (add_of b)).graph (map add_of bs) ≡ Ok tt → AddsLaid (next s (add_of b)) n p bs) →
        (a : Result (NodeIndex × PortIndex) Refusal) → (step s.graph (add_of b)).answer ≡ a → after_call (add_of b) a (first_refusal (step s.graph (add_of b)).graph (map add_of bs)) ≡ Ok tt → AddsLaid s n p (b ∷ bs)
    go others (Err r) q k = absurd (zero_is_not_one (cc))
    go others (Ok (x, y)) q k =
        let l = (call_law f (add_of b)).leads in
        let t = add_takes_next f b.incoming b.outgoing x y h.nodes (h.blocks (b.incoming + b.outgoing)) q in
        let u = none_free_after f h b.incoming b.outgoing x y l.model l.fine q in
        let rec = others l.model (suc n) (p + (b.incoming + b.outgoing)) l.fine u k in
        let a : x.0 ≡ n = t.0 ∙ h.node_len in
        let d : 0 < b.incoming + b.outgoing → y.0 ≡ p = λ z. t.1 z ∙ h.port_len in
        let i : range y.0 b.incoming ≡ range p b.incoming = range_from y.0 p b.incoming (λ z. d (omega arith)) in
        let o : range (y.0 + b.incoming) b.outgoing ≡ range (p + b.incoming) b.outgoing =
        range_from (y.0 + b.incoming) (p + b.incoming) b.outgoing (λ z. let v = d (omega arith) in omega arith) in
        let g : (next s (add_of b)).book ≡ record { blocks = block_from n p b ∷ s.book.blocks; wires = s.book.wires } =
        ap (book_add s.book b.incoming b.outgoing) q ∙ (λ j. record { blocks = record { node = a j; ins = i j; outs = o j } ∷ s.book.blocks; wires = s.book.wires }) in
        record {
          model = rec.model;
          fine = rec.fine;
          none =
              let v : suc n + length bs ≡ n + suc (length bs) = omega arith in
              let w : p + (b.incoming + b.outgoing) + first_port bs (length bs) ≡ p + (b.incoming + b.outgoing + first_port bs (length bs)) = omega arith in
              subst (λ (z : ℕ × ℕ). NoFree rec.model z.0 z.1) (λ j. (v j, w j)) rec.none;
          book = rec.book ∙ ap (with_laid (suc n) (p + (b.incoming + b.outgoing)) bs) g;
        }

-- the items of a list of blocks that is laid
laid_keeps : (n p : ℕ) (bs : List BlockPorts) (l : List Block) (x : Block) → Member x l → Member x (laid n p bs l)
unfolding laid
laid_keeps n p [] l x i = i
laid_keeps n p (b ∷ bs) l x i = laid_keeps (suc n) (p + (b.incoming + b.outgoing)) bs (block_from n p b ∷ l) x (inr i)

pub laid_has : (n p : ℕ) (bs : List BlockPorts) (l : List Block) (r : ℕ) (b : BlockPorts) → At bs r b → Member (block_from (n + r) (p + first_port bs r) b) (laid n p bs l)
unfolding laid first_port
laid_has n p [] l r b never = absurd never
laid_has n p (c ∷ bs) l zero b e =
    let x : n + 0 ≡ n = omega arith in
    let y : p + 0 ≡ p = omega arith in
    laid_keeps (suc n) (p + (c.incoming + c.outgoing)) bs (block_from n p c ∷ l) (block_from (n + 0) (p + 0) b) (inl (λ j. block_from (x j) (y j) (e j)))
laid_has n p (c ∷ bs) l (suc r) b h =
    let x : suc n + r ≡ n + suc r = omega arith in
    let y : p + (c.incoming + c.outgoing) + first_port bs r ≡ p + (c.incoming + c.outgoing + first_port bs r) = omega arith in
    subst (λ (v : Block). Member v (laid (suc n) (p + (c.incoming + c.outgoing)) bs (block_from n p c ∷ l))) (λ j. block_from (x j) (y j) b)
    (laid_has (suc n) (p + (c.incoming + c.outgoing)) bs (block_from n p c ∷ l) r b h)

-- a block laid for one of a list
abbrev pub LaidFor : ℕ → ℕ → List BlockPorts → Block → Type 0
LaidFor n p bs x = (r : ℕ) × (b : BlockPorts) × At bs r b × (x ≡ block_from (n + r) (p + first_port bs r) b)

pub laid_only : (n p : ℕ) (bs : List BlockPorts) (l : List Block) (x : Block) → Member x (laid n p bs l) → Member x l ⊎ LaidFor n p bs x
unfolding laid first_port
laid_only n p [] l x i = inl i
laid_only n p (c ∷ bs) l x i = ⊎_elim first later (laid_only (suc n) (p + (c.incoming + c.outgoing)) bs (block_from n p c ∷ l) x i)
  where
    first : (x ≡ block_from n p c) ⊎ Member x l → Member x l ⊎ LaidFor n p (c ∷ bs) x
    first (inr j) = inl j
    first (inl e) =
        let a : n ≡ n + 0 = omega arith in
        let b : p ≡ p + 0 = omega arith in
        inr (0, c, refl, e ∙ (λ j. block_from (a j) (b j) c))

    later : LaidFor (suc n) (p + (c.incoming + c.outgoing)) bs x → Member x l ⊎ LaidFor n p (c ∷ bs) x
    later h =
        let a : suc n + h.0 ≡ n + suc h.0 = omega arith in
        let b : p + (c.incoming + c.outgoing) + first_port bs h.0 ≡ p + (c.incoming + c.outgoing + first_port bs h.0) = omega arith in
        inr (suc h.0, h.1, h.2, h.3 ∙ (λ j. block_from (a j) (b j) h.1))

pub laid_length : (n p : ℕ) (bs : List BlockPorts) (l : List Block) → length (laid n p bs l) ≡ length bs + length l
unfolding laid
laid_length n p [] l = omega arith
laid_length n p (b ∷ bs) l = let e = laid_length (suc n) (p + (b.incoming + b.outgoing)) bs (block_from n p b ∷ l) in omega arith

-- so many of them have a smaller number
abbrev below : ℕ → Block → Bool
below k b = ltb b.node k

none_below : (k n p : ℕ) (bs : List BlockPorts) (l : List Block) → k ≤ n → length (filter (below k) (laid n p bs l)) ≡ length (filter (below k) l)
unfolding laid
none_below k n p [] l h = refl
none_below k n p (b ∷ bs) l h =
    none_below k (suc n) (p + (b.incoming + b.outgoing)) bs (block_from n p b ∷ l) (omega arith)
    ∙ ap (λ (t : Bool). length (cond t (block_from n p b ∷ filter (below k) l) (filter (below k) l))) (le-ltb n k h)

pub laid_rank : (k n p : ℕ) (bs : List BlockPorts) (l : List Block) → n ≤ k → k ≤ n + length bs → length (filter (below k) (laid n p bs l)) + n ≡ k + length (filter (below k) l)
unfolding laid
laid_rank k n p [] l h g = omega arith
laid_rank k n p (b ∷ bs) l h g = go (ltb n k) refl (laid_rank k (suc n) (p + (b.incoming + b.outgoing)) bs (block_from n p b ∷ l))
  where
    go : (t : Bool) → ltb n k ≡ t →
        (suc n ≤ k → k ≤ suc n + length bs →
        length (filter (below k) (laid (suc n) (p + (b.incoming + b.outgoing)) bs (block_from n p b ∷ l))) + suc n ≡ k + length (filter (below k) (block_from n p b ∷ l))) →
        length (filter (below k) (laid (suc n) (p + (b.incoming + b.outgoing)) bs (block_from n p b ∷ l))) + n ≡ k + length (filter (below k) l)
    go true e rest =
        let a = ltb-true n k e in
        let r = rest (omega arith) (omega arith) in
        let z : length (filter (below k) (block_from n p b ∷ l)) ≡ suc (length (filter (below k) l)) =
        ap (λ (t : Bool). length (cond t (block_from n p b ∷ filter (below k) l) (filter (below k) l))) e in
        omega arith
    go false e rest =
        let a = ltb-false n k e in
        let r = none_below k n p (b ∷ bs) l a in
        omega arith

laid_ranks : (k : ℕ) (bs : List BlockPorts) → k ≤ length bs → length (filter (λ (b : Block). ltb b.node k) (laid 0 0 bs [])) ≡ k
laid_ranks k bs h = let e = laid_rank k 0 0 bs [] (omega arith) (omega arith) in omega arith

-- From the empty graph.

-- Where all adds of a list are accepted, the book has a block for each, of the number of its rank and with the ports that follow those before;
pub record NextSlots (bs : List BlockPorts) (B : Book) : Type 0 where
  pub has : (r : ℕ) (b : BlockPorts) → At bs r b → Member (block_from r (first_port bs r) b) B.blocks
  pub only : (x : Block) → Member x B.blocks → (r : ℕ) × (b : BlockPorts) × At bs r b × (x ≡ block_from r (first_port bs r) b)
  pub many : length B.blocks ≡ length bs
  pub ranks : (n : ℕ) → n ≤ length bs → rank_in B n ≡ n
  pub unwired : B.wires ≡ []
  -- and all fit the tables
  pub nodes_fit : length bs ≤ node_slots
  pub ports_fit : first_port bs (length bs) ≤ port_slots

pub next_slots : (release : Release) (bs : List BlockPorts) → first_refusal (empty_graph release) (map add_of bs) ≡ Ok tt → NextSlots bs (run release (map add_of bs)).book
unfolding run_under rank_in
next_slots release bs e =
    let start : (r : ℕ) (b : BlockPorts) → block_from (0 + r) (0 + first_port bs r) b ≡ block_from r (first_port bs r) b =
    λ r b. let x : 0 + r ≡ r = omega arith in let y : 0 + first_port bs r ≡ first_port bs r = omega arith in λ j. block_from (x j) (y j) b in
    let a = adds_laid bs (record { graph = empty_graph release; book = empty_book }) empty_model 0 0 (fine_empty release) none_free_at_first e in
    subst (NextSlots bs) (sym a.book)
    (record {
      has = λ r b h. subst (λ (x : Block). Member x (laid 0 0 bs [])) (start r b) (laid_has 0 0 bs [] r b h);
      only = λ x i. ⊎_elim (λ z. absurd z) (λ h. (h.0, h.1, h.2, h.3 ∙ start h.0 h.1)) (laid_only 0 0 bs [] x i);
      many = let l = laid_length 0 0 bs [] in omega arith;
      ranks = λ n h. laid_ranks n bs h;
      unwired = refl;
      nodes_fit = let f = a.fine.good.nodes_fit in let k = a.none.node_len in omega arith;
      ports_fit = let f = a.fine.good.ports_fit in let k = a.none.port_len in omega arith;
    })

-- Prefix sums.

pub first_port_first : (bs : List BlockPorts) → first_port bs 0 ≡ 0
unfolding first_port
first_port_first [] = refl
first_port_first (b ∷ bs) = refl

-- the first port of the next block
pub first_port_next : (bs : List BlockPorts) (r : ℕ) → r < length bs → first_port bs (suc r) ≡ first_port bs r + ((block_at bs r).incoming + (block_at bs r).outgoing)
unfolding first_port
first_port_next [] r h = absurd (omega arith)
first_port_next (b ∷ bs) zero h = let z = first_port_first bs in omega arith
first_port_next (b ∷ bs) (suc r) h = let e = first_port_next bs r (omega arith) in omega arith
