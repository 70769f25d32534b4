-- Steps of the passes that list wires and blocks, over plain values.
use Rattle.std.specs.Prelude.{◌≡◌, refl, Bool, true, false, ℕ, ◌+◌, ◌-◌, ◌≤◌, ◌<◌, Option, Some, None, Ok, Err}
use Rattle.std.proofs.Common.{sym, ◌∙◌, length-append, append_assoc, append-nil, length-drop, drop_of_length-le}
use Rattle.std.proofs.Math.Path.{ap}
use mathlib.Core.List.{List, [], ◌++◌, flat_map}
use native.Mathlib.Omega.{arith}
use borrow.Rule.Slice.PartMut.{put_mid}
use Rattle.std.proofs.lemmas.List.{take_rest}
use Rattle.std.proofs.Math.ListN.{length, take, drop}
use Rattle.std.proofs.lemmas.List.Edits.{sets, sets-eq}
use Rattle.std.proofs.Math.Seq.{length-sets, drop-drop}
use borrow.Author.Tests.{le-leb, lt-leb}
use Rattle.port_tables.specs.Lists.{range}
use Rattle.port_tables.specs.ResizeLinkSteps.{sets_append}
use Rattle.port_tables.specs.declared.node_entry.NodeMeta.{NodeMeta}
use Rattle.multiportgraph.specs.Listed.{list_after, list_answer}
use Rattle.multiportgraph.specs.ListScans.{of_block, shown_meta, subport_wire, split_wires, place_wires, side_wires, Passing}
use Rattle.port_tables.specs.declared.node_entry.NodeSlot.{NodeSlot}
use Rattle.port_tables.specs.Listing.{flat_map_on, flat_map_end}

-- Lists.

-- values that take the place of as many are laid
pub laid : (l part v : List ℕ) (i k : ℕ) → i + length v ≤ length l → part ≡ v → k ≡ length v → take i l ++ (part ++ drop k (drop i l)) ≡ sets l i v
laid l part v i k h e n =
    (λ j. take i l ++ (e j ++ drop (n j) (drop i l)))
    ∙ (ap (λ (r : List ℕ). take i l ++ (v ++ r)) (drop-drop (length v) i l) ∙ (sym (append_assoc (take i l) v (drop (i + length v) l)) ∙ sym (sets-eq v l i h)))

-- numbers at the front of a list
pub front_laid : (l part v : List ℕ) → length v ≤ length l → part ≡ v → part ++ drop (length v) l ≡ sets l 0 v
front_laid l part v h e =
    let z : 0 + length v ≡ length v = omega arith in
    ap (λ (r : List ℕ). r ++ drop (length v) l) e ∙ sym (sets-eq v l 0 (omega arith) ∙ ap (λ (k : ℕ). v ++ drop k l) z)

-- what is written at the front of the rest of a list is written there
pub part_laid : (l part ys : List ℕ) (p : ℕ) → p + length part ≤ length l → ys ≡ sets (take (length l - p) (drop p l)) 0 part → put_mid p (length l - p) l ys ≡ sets l p part
part_laid l part ys p h e =
    let d = length-drop p l in
    let none : drop (length l - p) (drop p l) ≡ [] = drop_of_length-le (drop p l) {i = length l - p} (omega arith) in
    let is : ys ≡ part ++ drop (0 + length part) (drop p l) = e ∙ (ap (λ r. sets r 0 part) (take_rest l p) ∙ sets-eq part (drop p l) 0 (omega arith)) in
    (λ j. take p l ++ (is j ++ none j))
    ∙ (ap (λ r. take p l ++ r) (append-nil (part ++ drop (0 + length part) (drop p l))) ∙ laid l part part p (0 + length part) h refl (omega arith))

-- A pass that writes what f gives for each number below n.

pub begun : {f : ℕ → List ℕ} {l whole : List ℕ} {n : ℕ} → flat_map f (range 0 n) ≡ whole → Passing l whole l 0 f 0 n
begun {f} {l} {n = n} e =
    let z : n - 0 ≡ n = omega arith in
    let all = ap (λ (k : ℕ). flat_map f (range 0 k)) z ∙ e in
    let c = ap length all in
    record { writing = record { counted = omega arith; same = ap (sets l 0) all; long = refl } }

module _ {f : ℕ → List ℕ} {l₀ whole l : List ℕ} {p o n : ℕ} (w : Passing l₀ whole l p f o n) where
  module _ (h : o < n) (room : length whole ≤ length l₀) where
    abbrev rest : List ℕ
    rest = flat_map f (range (o + 1) (n - (o + 1)))

    pub item_fits : p + length (f o) ≤ length l
    item_fits =
        let s = ap length (flat_map_on f o n h) ∙ length-append (f o) rest in
        let c = w.writing.counted in
        let g = w.writing.long in
        omega arith

    -- there is room for it in the rest of the list
    pub item_room : {x : List ℕ} → x ≡ f o → length x ≤ length (take (length l - p) (drop p l))
    item_room e = let a = item_fits in let d = length-drop p l in rw (e, take_rest l p) (omega arith)

    -- it is written at the front of the rest of the list
    module _ {ys : List ℕ} {k : ℕ} (size : k ≡ length (f o)) (is : ys ≡ sets (take (length l - p) (drop p l)) 0 (f o)) where
      laid_there : put_mid p (length l - p) l ys ≡ sets l p (f o)
      laid_there = part_laid l (f o) ys p item_fits is

      pub item_laid : Passing l₀ whole (put_mid p (length l - p) l ys) (p + k) f (o + 1) n × (p + k ≤ length (put_mid p (length l - p) l ys))
      item_laid =
          let fits = item_fits in
          let long = ap length laid_there ∙ length-sets l p (f o) in
          let s = ap length (flat_map_on f o n h) ∙ length-append (f o) rest in
          let c = w.writing.counted in
          let g = w.writing.long in (
            record {
              writing = record {
                counted = omega arith;
                same = (λ i. sets (laid_there i) (p + size i) rest) ∙ sets_append l p (f o) rest ∙ sym (ap (sets l p) (flat_map_on f o n h)) ∙ w.writing.same;
                long = omega arith;
              };
            },
            omega arith,
          )

  pub items_written : n ≤ o → (p ≡ length whole) × (l ≡ sets l₀ 0 whole)
  items_written h =
      let c = ap length (flat_map_end f o n h) in
      let d = w.writing.counted in
      (omega arith, sym (ap (sets l p) (flat_map_end f o n h)) ∙ w.writing.same)

-- Answers.

module _ (numbers list : List ℕ) {needed : ℕ} (e : needed ≡ length numbers) where
  -- a list too short stays as it is
  module _ (h : length list < needed) where
    pub short_told : (count : ℕ) → Err (record { 0 = needed }) ≡ list_answer count numbers list
    unfolding list_answer
    short_told count = let t = lt-leb (length numbers) (length list) (omega arith) in rw (t, e)

    pub short_kept : list ≡ list_after numbers list
    unfolding list_after
    short_kept = let t = lt-leb (length numbers) (length list) (omega arith) in rw t

  -- one that is long enough is written from its start on
  module _ (h : needed ≤ length list) where
    pub full_told : (count : ℕ) → Ok count ≡ list_answer count numbers list
    unfolding list_answer
    full_told count = let t = le-leb (length numbers) (length list) (omega arith) in rw t

    pub full_written : {list' : List ℕ} → list' ≡ sets list 0 numbers → list' ≡ list_after numbers list
    unfolding list_after
    full_written {list'} is =
        let t = le-leb (length numbers) (length list) (omega arith) in
        let z : 0 + length numbers ≡ length numbers = omega arith in
        rw t (is ∙ (sets-eq numbers list 0 (omega arith) ∙ ap (λ (k : ℕ). numbers ++ drop k list) z))

-- Wires.

pub split_is : (nodes : List NodeSlot) (links owners : List ℕ) (flags : List Bool) (p n i : ℕ) (k : NodeMeta) (a b count : ℕ) → a ≡ k.first_port.0 → b ≡ k.incoming → count ≡ k.outgoing
    → flat_map (subport_wire nodes links owners flags p n i (a + b)) (range 0 count) ≡ split_wires nodes links owners flags p n i k
unfolding split_wires
split_is nodes links owners flags p n i k a b count e f g = λ j. flat_map (subport_wire nodes links owners flags p n i (e j + f j)) (range 0 (g j))

pub side_is : (nodes : List NodeSlot) (links owners : List ℕ) (marks flags : List Bool) (n : ℕ) (k : NodeMeta) (a b count : ℕ) → a ≡ k.first_port.0 → b ≡ k.incoming → count ≡ k.outgoing
    → flat_map (place_wires nodes links owners marks flags n (a + b)) (range 0 count) ≡ side_wires nodes links owners marks flags n k
unfolding side_wires
side_is nodes links owners marks flags n k a b count e f g = λ j. flat_map (place_wires nodes links owners marks flags n (e j + f j)) (range 0 (g j))

-- Blocks.

module _ (f : NodeMeta → List ℕ) (h : Bool) (o : Option NodeMeta) where
  pub block_none : None ≡ shown_meta h o → of_block f h o ≡ []
  block_none e = go h o e
    where
      go : (b : Bool) (k : Option NodeMeta) → None ≡ shown_meta b k → of_block f b k ≡ []
      go true None e = refl
      go true (Some k) e = refl
      go false None e = refl
      go false (Some k) e = absurd cc

  pub block_some : (k : NodeMeta) → Some k ≡ shown_meta h o → of_block f h o ≡ f k
  block_some k e = go h o e
    where
      go : (b : Bool) (j : Option NodeMeta) → Some k ≡ shown_meta b j → of_block f b j ≡ f k
      go true j e = absurd cc
      go false None e = absurd cc
      go false (Some j) e = let same : k ≡ j = cc in ap f (sym same)
