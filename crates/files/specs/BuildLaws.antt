-- Laws of building: a view whose adds and links are all accepted is the view of the graph that they build.
use Rattle.std.specs.Prelude.{◌≡◌, refl, Bool, false, is_ok, List, [], ◌∷◌, ◌++◌, map, ◌⊎◌, ℕ, zero, suc, ◌+◌, ◌<◌, ltb, length, Result, Ok, Err}
use Rattle.std.proofs.Common.{sym, ap, ◌∙◌, subst, inl, inr, ⊎_elim, arith}
use Rattle.port_tables.specs.Lists.{range, Member}
use Rattle.std.specs.List.{filter}
use Rattle.portgraph.specs.Model.{Model, Slots, count_of, first_of, side_start}
use Rattle.portgraph.specs.GoodSlots.{zero_is_not_one}
use Rattle.port_tables.specs.declared.direction.Direction.TheVariants.{Incoming, Outgoing}
use Rattle.port_tables.specs.Listing.{length_range}
use Rattle.multiportgraph.specs.Graph.{empty_graph}
use Rattle.multiportgraph.specs.HiddenStays.{true_not_false}
use Rattle.multiportgraph.specs.WellFormed.{inner#}
use Rattle.port_tables.specs.Places.{Wire, spot, flag, next_offset}
use Rattle.multiportgraph.specs.declared.multiportgraph.MultiPortGraph.{MultiPortGraph}
use Rattle.port_tables.specs.declared.release.Release.{Release}
use Rattle.multi_tables.specs.declared.answers.SubportIndex.{SubportIndex}
use Rattle.multi_tables.specs.declared.answers.Refusal.{Refusal}
use Rattle.theorems.specs.Book as book
use Rattle.theorems.specs.Book.{Call, AnswerOf, Block, Book, empty_book, spot_of, add_wire, book_link}
use Rattle.theorems.specs.History.{State, next, run_from, run_from_under, run, run_under, step}
use Rattle.theorems.specs.Runs.{run_append}
use Rattle.theorems.specs.Claims.{count}
use Rattle.theorems.specs.Conditions.{OfBlock, RefusedBy}
use Rattle.theorems.proofs.WireRule.{Rel, spot_of_lem}
use Rattle.theorems.proofs.CallLaws.{rel_step, rel_run}
use Rattle.files.specs.View.{BlockPorts, RankWire, View, rank_wire, view_of}
use Rattle.files.specs.Loading.{block_at, first_port, out_port, in_port, add_of, link_of, build_of, after_call, first_refusal, first_refusal_under}
use Rattle.files.specs.Claims.{rank_in, same_wire, how_many, wires_between, HasBlock, At, Sound}
use Rattle.files.specs.OrderLaws.{wires_by_counts}
use Rattle.files.specs.RankLaws.{at_below, at_get, same_positions}
use Rattle.files.specs.ViewLaws.{blocks_viewed, wires_viewed}
use Rattle.files.specs.WiringLaws.{wires_rise}
use Rattle.files.specs.NextSlots.{block_from, NextSlots, next_slots}
use Rattle.files.specs.declared.load.LoadError.{LoadError}
use Rattle.files.specs.declared.load.LoadError.TheVariants.{Refused}

-- The first refusal of a list of calls.

-- an answer lets the list go on, or it is a refusal and stops it
pub goes_or_stops : (c : Call) (v : AnswerOf c) →
    ((rest : Result (Unit {0}) LoadError) → after_call c v rest ≡ rest) ⊎ ((r : Refusal) × RefusedBy c v r × ((rest : Result (Unit {0}) LoadError) → after_call c v rest ≡ Err (Refused r)))
goes_or_stops (book.add_call i o) (Ok (n, p)) = inl (λ rest. refl)
goes_or_stops (book.add_call i o) (Err r) = inr (r, refl, λ rest. refl)
goes_or_stops (book.link_call a b) (Ok (s, t)) = inl (λ rest. refl)
goes_or_stops (book.link_call a b) (Err r) = inr (r, refl, λ rest. refl)
goes_or_stops (book.remove_call n) v = inl (λ rest. refl)
goes_or_stops (book.set_call n i o room) v = inl (λ rest. refl)
goes_or_stops (book.link_clean_call a b) v = inl (λ rest. refl)
goes_or_stops (book.link_sub_call p o q r) v = inl (λ rest. refl)
goes_or_stops (book.cut_call p) v = inl (λ rest. refl)
goes_or_stops (book.cut_sub_call p o) v = inl (λ rest. refl)
goes_or_stops (book.tidy_call p) v = inl (λ rest. refl)

pub refused_not_loaded : (r : Refusal) → ◌≡◌ {A = Result (Unit {0}) LoadError} (Err (Refused r)) (Ok tt) → ⊥
refused_not_loaded r e = zero_is_not_one (cc)

-- a list of calls is accepted or refused
pub loaded_or_refused : (calls : List Call) (m : MultiPortGraph) → (first_refusal m calls ≡ Ok tt) ⊎ ((r : Refusal) × (first_refusal m calls ≡ Err (Refused r)))
unfolding first_refusal_under
loaded_or_refused [] m = inl refl
loaded_or_refused (c ∷ l) m =
    ⊎_elim
    (λ goes. ⊎_elim (λ e. inl (goes _ ∙ e)) (λ k. inr (k.0, goes _ ∙ k.1)) (loaded_or_refused l (step m c).graph))
    (λ stops. inr (stops.0, stops.2 _))
    (goes_or_stops c (step m c).answer)

-- of two lists one after the other the second tells where all of the first are accepted,
pub refusal_after : (s : State) (a b : List Call) → first_refusal s.graph a ≡ Ok tt → first_refusal s.graph (a ++ b) ≡ first_refusal (run_from s a).graph b
unfolding first_refusal_under run_from_under
refusal_after s [] b e = refl
refusal_after s (c ∷ a) b e =
    ⊎_elim
    (λ goes. goes _ ∙ refusal_after (next s c) a b (sym (goes _) ∙ e))
    (λ stops. absurd (refused_not_loaded stops.0 (sym (stops.2 _) ∙ e)))
    (goes_or_stops c (step s.graph c).answer)

-- and else the first does
pub first_refused : (m : MultiPortGraph) (a b : List Call) → is_ok (first_refusal m a) ≡ false → first_refusal m (a ++ b) ≡ first_refusal m a
unfolding first_refusal_under
first_refused m [] b h = absurd (true_not_false refl h)
first_refused m (c ∷ a) b h =
    ⊎_elim
    (λ goes. goes _ ∙ (first_refused (step m c).graph a b (ap is_ok (sym (goes _)) ∙ h) ∙ sym (goes _)))
    (λ stops. stops.2 _ ∙ sym (stops.2 _))
    (goes_or_stops c (step m c).answer)

-- all of two lists are accepted: all of the first, and then all of the second
pub accepted_apart : (s : State) (a b : List Call) → first_refusal s.graph (a ++ b) ≡ Ok tt → (first_refusal s.graph a ≡ Ok tt) × (first_refusal (run_from s a).graph b ≡ Ok tt)
accepted_apart s a b e =
    ⊎_elim
    (λ k. (k, sym (refusal_after s a b k) ∙ e))
    (λ k. absurd (refused_not_loaded k.0 (sym (first_refused s.graph a b (ap is_ok k.1) ∙ k.1) ∙ e)))
    (loaded_or_refused a s.graph)

-- Blocks by rank.

-- equal ranges are as long, and begin at the same number if they have one
pub range_known : (a k b l : ℕ) → range a k ≡ range b l → (k ≡ l) × (0 < k → a ≡ b)
unfolding range
range_known a zero b zero e = (refl, λ h. absurd (omega arith))
range_known a zero b (suc l) e = absurd (zero_is_not_one (cc))
range_known a (suc k) b zero e = absurd (zero_is_not_one (cc))
range_known a (suc k) b (suc l) e = (sym (length_range a (suc k)) ∙ (ap length e ∙ length_range b (suc l)), λ h. cc)

-- the ports of a block that the book has
module _ {m : MultiPortGraph} {M : Model} {B : Book} (r : Rel m M B) (n p : ℕ) (b : BlockPorts) (i : Member (block_from n p b) B.blocks) where
  pub out_port_lem : (j : ℕ) → j < b.outgoing → OfBlock m M (p + b.incoming + j) (inner# n Outgoing j)
  out_port_lem j h =
      let s = r.blocks.right (block_from n p b) i in
      let k = s.0 in
      let a = range_known p b.incoming k.first_port.0 k.incoming s.2 in
      let c = range_known (p + b.incoming) b.outgoing (k.first_port.0 + k.incoming) k.outgoing s.3 in
      let d = c.1 (omega arith) in
      let v : j < k.outgoing = let e = c.0 in omega arith in
      let z : k.first_port.0 + (k.incoming + j) ≡ p + b.incoming + j = omega arith in (
        (subst (λ (t : Slots). j < count_of t Outgoing) (sym s.1.1) v, s.1.0),
        (ap (λ (t : Slots). first_of t + (side_start t Outgoing + j)) s.1.1 ∙ z),
      )

  pub in_port_lem : (j : ℕ) → j < b.incoming → OfBlock m M (p + j) (inner# n Incoming j)
  in_port_lem j h =
      let s = r.blocks.right (block_from n p b) i in
      let k = s.0 in
      let a = range_known p b.incoming k.first_port.0 k.incoming s.2 in
      let d = a.1 (omega arith) in
      let v : j < k.incoming = let e = a.0 in omega arith in
      let z : k.first_port.0 + (0 + j) ≡ p + j = omega arith in (
        (subst (λ (t : Slots). j < count_of t Incoming) (sym s.1.1) v, s.1.0),
        (ap (λ (t : Slots). first_of t + (side_start t Incoming + j)) s.1.1 ∙ z),
      )

-- Wires.

-- a wire runs between ports of the blocks
abbrev pub Runs : List BlockPorts → RankWire → Type 0
Runs bs w =
    (w.source < length bs) × (w.output < (block_at bs w.source).outgoing) × (w.target < length bs) × (w.input < (block_at bs w.target).incoming)

-- the book has every block of a list, with the number of its rank and the ports that follow those before
abbrev pub HasAll : List BlockPorts → Book → Type 0
HasAll bs B = (r : ℕ) (b : BlockPorts) → At bs r b → Member (block_from r (first_port bs r) b) B.blocks

module _ {m : MultiPortGraph} {M : Model} {B : Book} (r : Rel m M B) (bs : List BlockPorts) (has : HasAll bs B) (w : RankWire) (runs : Runs bs w) where
  pub source_port : OfBlock m M (out_port bs w) (inner# w.source Outgoing w.output)
  source_port =
      let i = has w.source (block_at bs w.source) (at_get bs w.source _ runs.0) in
      out_port_lem r w.source (first_port bs w.source) (block_at bs w.source) i w.output runs.1

  pub target_port : OfBlock m M (in_port bs w) (inner# w.target Incoming w.input)
  target_port =
      let i = has w.target (block_at bs w.target) (at_get bs w.target _ runs.2) in
      in_port_lem r w.target (first_port bs w.target) (block_at bs w.target) i w.input runs.3

  source_spot : spot_of B.blocks (out_port bs w) ≡ spot w.source Outgoing w.output
  source_spot = let p = source_port in ap (spot_of B.blocks) (sym p.1) ∙ spot_of_lem r (inner# w.source Outgoing w.output) p.0

  target_spot : spot_of B.blocks (in_port bs w) ≡ spot w.target Incoming w.input
  target_spot = let p = target_port in ap (spot_of B.blocks) (sym p.1) ∙ spot_of_lem r (inner# w.target Incoming w.input) p.0

-- by rank
abbrev alike : (ℕ → ℕ) → RankWire → Wire → Bool
alike rank x w = same_wire (rank_wire rank w) x

module _ (s : State) {M : Model} (r : Rel s.graph M s.book) (bs : List BlockPorts) (has : HasAll bs s.book) (w : RankWire) (runs : Runs bs w)
    (x y : SubportIndex) (q : (step s.graph (link_of bs w)).answer ≡ Ok (x, y)) where
  linked_blocks : (next s (link_of bs w)).book.blocks ≡ s.book.blocks
  linked_blocks = ap (λ (a : Result (SubportIndex × SubportIndex) Refusal). (book_link s.book (out_port bs w) (in_port bs w) a).blocks) q

  linked_count : (rank : ℕ → ℕ) → rank w.source ≡ w.source → rank w.target ≡ w.target → (z : RankWire) →
      count (alike rank z) (next s (link_of bs w)).book.wires ≡ flag (same_wire w z) + count (alike rank z) s.book.wires
  linked_count rank a b z =
      let e = ap (λ (v : Result (SubportIndex × SubportIndex) Refusal). (book_link s.book (out_port bs w) (in_port bs w) v).wires) q in
      let f = source_spot r bs has w runs in
      let g = target_spot r bs has w runs in
      let o = next_offset s.book.wires (spot_of s.book.blocks (out_port bs w)) in
      let u = next_offset s.book.wires (spot_of s.book.blocks (in_port bs w)) in
      ap (count (alike rank z)) e
      ∙ ((λ j. count (alike rank z) (add_wire s.book.wires (f j) o (g j) u))
      ∙ (λ j. flag (same_wire (record { source = a j; output = w.output; target = b j; input = w.input }) z) + count (alike rank z) s.book.wires))

-- Accepted links enter the wires of a list, each as often as it stands there.
pub record LinksEntered (s : State) (bs : List BlockPorts) (ws : List RankWire) (rank : ℕ → ℕ) : Type 0 where
  pub blocks : (run_from s (map (link_of bs) ws)).book.blocks ≡ s.book.blocks
  pub wires : (z : RankWire) → count (alike rank z) (run_from s (map (link_of bs) ws)).book.wires ≡ how_many same_wire z ws + count (alike rank z) s.book.wires

pub links_entered : (bs : List BlockPorts) (rank : ℕ → ℕ) → ((n : ℕ) → n < length bs → rank n ≡ n) → (ws : List RankWire) → ((w : RankWire) → Member w ws → Runs bs w) →
    (s : State) (M : Model) → Rel s.graph M s.book → HasAll bs s.book → first_refusal s.graph (map (link_of bs) ws) ≡ Ok tt → LinksEntered s bs ws rank
unfolding first_refusal_under run_from_under
links_entered bs rank same [] runs s M r has e = record { blocks = refl; wires = λ z. omega arith }
links_entered bs rank same (w ∷ ws) runs s M r has e =
    go (links_entered bs rank same ws (λ v i. runs v (inr i)) (next s (link_of bs w))) (step s.graph (link_of bs w)).answer refl e
  where
    go : ((N : Model) → Rel (next s (link_of bs w)).graph N (next s (link_of bs w)).book → HasAll bs (next s (link_of bs w)).book →
        first_refusal (next s (link_of bs w)).graph (map (link_of bs) ws) ≡ Ok tt → LinksEntered (next s (link_of bs w)) bs ws rank) →
        (a : Result (SubportIndex × SubportIndex) Refusal) → (step s.graph (link_of bs w)).answer ≡ a →
        after_call (link_of bs w) a (first_refusal (step s.graph (link_of bs w)).graph (map (link_of bs) ws)) ≡ Ok tt → LinksEntered s bs (w ∷ ws) rank
    go others (Err c) q k = absurd (refused_not_loaded c k)
    go others (Ok (x, y)) q k =
        let here = runs w (inl refl) in
        let b = linked_blocks s r bs has w here x y q in
        let l = rel_step r (link_of bs w) in
        let t = others l.0 l.1 (λ n c i. subst (Member (block_from n (first_port bs n) c)) (sym b) (has n c i)) k in
        record {
          blocks = t.blocks ∙ b;
          wires = λ z.
              let u = t.wires z in
              let v = linked_count s r bs has w here x y q rank (same w.source here.0) (same w.target here.2) z in
              omega arith;
        }

-- A view whose adds and links are all accepted.

rank_by_blocks : (B C : Book) (n : ℕ) → B.blocks ≡ C.blocks → rank_in B n ≡ rank_in C n
unfolding rank_in
rank_by_blocks B C n e = ap (λ (l : List Block). length (filter (λ (b : Block). ltb b.node n) l)) e

pub sound_runs : (v : View) → Sound v → (w : RankWire) → Member w v.wires → Runs v.blocks w
sound_runs v s w i = (s.source w i, s.output w i, s.target w i, s.input w i)

module _ (release : Release) (v : View) (sound : Sound v) (e : first_refusal (empty_graph release) (build_of v) ≡ Ok tt) where
  adds_accepted : first_refusal (empty_graph release) (map add_of v.blocks) ≡ Ok tt
  unfolding build_of
  adds_accepted = (accepted_apart (record { graph = empty_graph release; book = empty_book }) (map add_of v.blocks) (map (link_of v.blocks) v.wires) e).0

  links_accepted : first_refusal (run release (map add_of v.blocks)).graph (map (link_of v.blocks) v.wires) ≡ Ok tt
  unfolding build_of run_under
  links_accepted = (accepted_apart (record { graph = empty_graph release; book = empty_book }) (map add_of v.blocks) (map (link_of v.blocks) v.wires) e).1

  added : NextSlots v.blocks (run release (map add_of v.blocks)).book
  added = next_slots release v.blocks adds_accepted

  -- the state after the adds, and after all
  abbrev laid_state : State
  laid_state = run release (map add_of v.blocks)

  abbrev built : State
  built = run_from laid_state (map (link_of v.blocks) v.wires)

  built_is : run release (build_of v) ≡ built
  unfolding build_of
  built_is = run_append release (map add_of v.blocks) (map (link_of v.blocks) v.wires)

  linked : (rank : ℕ → ℕ) → ((n : ℕ) → n < length v.blocks → rank n ≡ n) → LinksEntered laid_state v.blocks v.wires rank
  linked rank same =
      let r = rel_run release (map add_of v.blocks) in
      links_entered v.blocks rank same v.wires (sound_runs v sound) laid_state r.0 r.1 added.has links_accepted

  built_blocks : built.book.blocks ≡ laid_state.book.blocks
  built_blocks = (linked (λ n. n) (λ n h. refl)).blocks

  built_rank : (n : ℕ) → n < length v.blocks → rank_in built.book n ≡ n
  built_rank n h = rank_by_blocks built.book laid_state.book n built_blocks ∙ added.ranks n (omega arith)

  built_wires : (z : RankWire) → wires_between built.book z ≡ how_many same_wire z v.wires
  built_wires z =
      let t = (linked (rank_in built.book) built_rank).wires z in
      let n = ap (count (alike (rank_in built.book) z)) added.unwired in
      omega arith

  built_rel : (M : Model) × Rel built.graph M built.book
  built_rel = subst (λ (s : State). (M : Model) × Rel s.graph M s.book) built_is (rel_run release (build_of v))

  has_block_lem : (n : ℕ) (b : BlockPorts) → At v.blocks n b → HasBlock built.book n b.incoming b.outgoing
  has_block_lem n b h = (
    block_from n (first_port v.blocks n) b,
    subst (Member (block_from n (first_port v.blocks n) b)) (sym built_blocks) (added.has n b h),
    built_rank n (at_below v.blocks n b h),
    length_range (first_port v.blocks n) b.incoming,
    length_range (first_port v.blocks n + b.incoming) b.outgoing,
  )

  only_block : (n : ℕ) (b : BlockPorts) → HasBlock built.book n b.incoming b.outgoing → At v.blocks n b
  only_block n b h =
      let x = h.0 in
      let g = added.only x (subst (Member x) built_blocks h.1) in
      let c = g.1 in
      let k = at_below v.blocks g.0 c g.2 in
      let d : g.0 ≡ n = sym (built_rank g.0 k) ∙ (ap (λ (t : Block). rank_in built.book t.node) (sym g.3) ∙ h.2) in
      let i : c.incoming ≡ b.incoming = sym (length_range (first_port v.blocks g.0) c.incoming) ∙ (ap (λ (t : Block). length t.ins) (sym g.3) ∙ h.3) in
      let o : c.outgoing ≡ b.outgoing = sym (length_range (first_port v.blocks g.0 + c.incoming) c.outgoing) ∙ (ap (λ (t : Block). length t.outs) (sym g.3) ∙ h.4) in
      subst (λ (j : ℕ). At v.blocks j b) d (subst (At v.blocks g.0) {x = c} {y = b} (λ j. record { incoming = i j; outgoing = o j }) g.2)

  pub built_view : view_of (run release (build_of v)).graph ≡ v
  built_view =
      let r = built_rel.1 in
      let a : (view_of built.graph).blocks ≡ v.blocks =
      same_positions (view_of built.graph).blocks v.blocks
      (λ n b h. only_block n b ((blocks_viewed r n b.incoming b.outgoing).1 h))
      (λ n b h. (blocks_viewed r n b.incoming b.outgoing).0 (has_block_lem n b h)) in
      let b : (view_of built.graph).wires ≡ v.wires =
      wires_by_counts (view_of built.graph).wires v.wires (wires_rise built.graph) sound.rise (λ z. wires_viewed r z ∙ built_wires z) in
      ap (λ (s : State). view_of s.graph) built_is ∙ (λ j. record { blocks = a j; wires = b j })
