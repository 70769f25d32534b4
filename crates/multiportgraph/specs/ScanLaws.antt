-- How a walk finds its next item by scanning: the ports of a block's sides are consecutive slots, its listings are gathered over
-- them, and what stands beyond a port and offset is the rest of that port's items, then the items of the later ports.
use Rattle.std.specs.Prelude.{◌≡◌, Bool, ℕ, zero, suc, ◌+◌, ◌-◌, ◌≤◌, ◌<◌, max, min, eqb, leb, ltb, Option, Some, None, Result, Ok, Err}
use Rattle.std.proofs.Math.Path.{refl, sym, ap}
use Rattle.std.specs.Option.{option_map_or}
use Rattle.std.proofs.Common.{◌∙◌, inl, inr, arith, lt-ltb, le-ltb, le-leb, eq-eqb, ne_eqb, ltb-true, ltb-false, leb-true, leb-false}
use Rattle.std.proofs.Math.Bool.{true, false, cond}
use mathlib.Core.List.{List, [], ◌∷◌, ◌++◌, append_assoc, append-nil, flat_map, map}
use Rattle.std.proofs.lemmas.Bool.{lt-leb, eqb-false}
use Rattle.port_tables.specs.Limits.{port_slots}
use Rattle.port_tables.specs.Lists.{range, on_first, on_last, Member}
use Rattle.std.specs.List.{filter}
use Rattle.port_tables.specs.Entries.{ports_on, port#, ports_from, ports_to}
use Rattle.portgraph.specs.Lookups.{meta_at, contains_node, count_in, start_of, port_in, is_some}
use Rattle.portgraph.specs.Model.{live, Slots, slot_of, first_of, side_start, count_of}
use Rattle.portgraph.specs.PlaceLaws.{node_of_meta}
use Rattle.portgraph.specs.GoodSlots.{zero_is_not_one, ports_end}
use Rattle.port_tables.specs.declared.direction.Direction.{Direction}
use Rattle.port_tables.specs.declared.direction.Direction.TheVariants.{Incoming, Outgoing}
use Rattle.port_tables.specs.declared.sides.Sides.{Sides}
use Rattle.port_tables.specs.declared.sides.Sides.TheVariants.{One, Both}
use Rattle.port_tables.specs.declared.node_entry.NodeMeta.{NodeMeta}
use Rattle.multiportgraph.specs.Reading.{port_number, port_of, is_hidden, is_split, seen, subports, end_at, link_of_end}
use Rattle.multi_tables.specs.Forms.{Port, dead, hidden, visible, subport#, wire_to}
use Rattle.multiportgraph.specs.Wires.{is_block, ports_of_side, subports_of_port, subports_of_side, wire_of, side_links, is_beyond}
use Rattle.multiportgraph.specs.Walks.{between, by_sides, ports_of_node, subports_of, port_links_seen, port_links, link_beyond}
use Rattle.multiportgraph.specs.WellFormed.{inner#, MultiWf}
use Rattle.multiportgraph.specs.Ends.{map_range, seen_block}
use Rattle.port_tables.specs.Listing.{member_map, member_flat_map, member_range, filter_all, filter_none, filter_same, filter_flat_map, flat_map_beyond, range_rises, range_member}
use Rattle.multiportgraph.specs.declared.multiportgraph.MultiPortGraph.{MultiPortGraph}
use Rattle.multi_tables.specs.declared.answers.SubportIndex.{SubportIndex}
use Rattle.multi_tables.specs.declared.answers.SubportLink.{SubportLink}
use Rattle.multi_tables.specs.Scans.{end_before, first_found}
use Rattle.multi_tables.specs.declared.answers.Refusal.{Refusal}
use Rattle.multi_tables.specs.declared.answers.PortPlace.{PortPlace}
use Rattle.std.proofs.lemmas.List.Elements.{filter-append}

-- the subports of a block's port, of whichever side; none of any other number
abbrev pub subports_seen : MultiPortGraph → ℕ → Port → List SubportIndex
subports_seen m p dead = []
subports_seen m p hidden = []
subports_seen m p (visible n d) = subports_of_port m d p

unfoldable pub subports_at : MultiPortGraph → ℕ → List SubportIndex
subports_at m p = subports_seen m p (seen m p)

-- the links, and the subports, of so many slots from p on
unfoldable pub links_from_to : MultiPortGraph → ℕ → ℕ → List SubportLink
links_from_to m p count = flat_map (port_links m) (range p count)

unfoldable pub subports_from_to : MultiPortGraph → ℕ → ℕ → List SubportIndex
subports_from_to m p count = flat_map (subports_at m) (range p count)

-- with an offset beyond o
abbrev pub link_past : ℕ → SubportLink → Bool
link_past o w = ltb o w.from.subport_offset

abbrev pub subport_past : ℕ → SubportIndex → Bool
subport_past o s = ltb o s.subport_offset

-- Lists.

pub range_append : (i a b c : ℕ) → c ≡ a + b → range i c ≡ range i a ++ range (i + a) b
unfolding range
range_append i zero b c e =
    let p : c ≡ b = omega arith in
    let q : i + 0 ≡ i = omega arith in
    rw (p, q)
range_append i (suc a) b zero e = absurd (omega arith)
range_append i (suc a) b (suc c) e =
    let r = range_append (suc i) a b c (omega arith) in
    let q : suc i + a ≡ i + suc a = omega arith in
    ap (λ (l : List ℕ). i ∷ l) (r ∙ ap (λ (n : ℕ). range (suc i) a ++ range n b) q)

module _ {A B : Type 0} where
  pub flat_map_same : (f g : A → List B) (l : List A) → ((x : A) → Member x l → f x ≡ g x) → flat_map f l ≡ flat_map g l
  unfolding flat_map
  flat_map_same f g [] h = refl
  flat_map_same f g (x ∷ l) h =
      let a = h x (inl refl) in
      let b = flat_map_same f g l (λ y i. h y (inr i)) in
      λ i. a i ++ b i

  pub flat_map_append : (f : A → List B) (a b : List A) → flat_map f (a ++ b) ≡ flat_map f a ++ flat_map f b
  unfolding flat_map
  flat_map_append f [] b = refl
  flat_map_append f (x ∷ a) b = ap (λ (r : List B). f x ++ r) (flat_map_append f a b) ∙ sym (append_assoc (f x) (flat_map f a) (flat_map f b))

  pub flat_map_map : {C : Type 0} (f : B → List C) (h : A → B) (l : List A) → flat_map f (map h l) ≡ flat_map (λ a. f (h a)) l
  unfolding flat_map
  flat_map_map f h [] = refl
  flat_map_map {C} f h (x ∷ l) = ap (λ (r : List C). f (h x) ++ r) (flat_map_map f h l)

  pub flat_map_flat_map : {C : Type 0} (g : B → List C) (f : A → List B) (l : List A) → flat_map g (flat_map f l) ≡ flat_map (λ a. flat_map g (f a)) l
  unfolding flat_map
  flat_map_flat_map g f [] = refl
  flat_map_flat_map {C} g f (x ∷ l) = go (f x) ∙ ap (λ (r : List C). flat_map g (f x) ++ r) (flat_map_flat_map g f l)
    where
      go : (a : List B) → flat_map g (a ++ flat_map f l) ≡ flat_map g a ++ flat_map g (flat_map f l)
      go [] = refl
      go (y ∷ a) = ap (λ (r : List C). g y ++ r) (go a) ∙ sym (append_assoc (g y) (flat_map g a) (flat_map g (flat_map f l)))

-- the first and the last of a list, read in another form
module _ {S T : Type 0} (g : S → T) where
  pub first_map : {A : Type 0} (e : S) (f : A → S) (l : List A) → g (on_first e f l) ≡ on_first (g e) (λ x. g (f x)) l
  unfolding on_first
  first_map e f [] = refl
  first_map e f (x ∷ l) = refl

  pub last_map : {A : Type 0} (e : S) (f : A → S) (l : List A) → g (on_last e f l) ≡ on_last (g e) (λ x. g (f x)) l
  unfolding on_last
  last_map e f [] = refl
  last_map e f (x ∷ l) = last_map (f x) f l

  -- where a step ends unless a test holds
  pub first_if : {A : Type 0} (b : Bool) (e : S) (f : A → S) (l : List A) → g (cond b (on_first e f l) e) ≡ on_first (g e) (λ x. g (f x)) (cond b l [])
  unfolding on_first
  first_if true e f l = first_map e f l
  first_if false e f l = refl

-- what a step makes of the item that was found, or of none, it makes of the first or the last of the list
module _ {A B : Type 0} (end : B) (item : A → B) {r : Option A} (l : List A) where
  pub first_told : r ≡ on_first None Some l → option_map_or item r end ≡ on_first end item l
  first_told e = ap (λ (o : Option A). option_map_or item o end) e ∙ first_map (λ (o : Option A). option_map_or item o end) None Some l

  pub last_told : r ≡ on_last None Some l → option_map_or item r end ≡ on_last end item l
  last_told e = ap (λ (o : Option A). option_map_or item o end) e ∙ last_map (λ (o : Option A). option_map_or item o end) None Some l

  pub found_told : r ≡ first_found l → option_map_or item r end ≡ on_first end item l
  unfolding first_found on_first
  found_told e = first_told (e ∙ go l)
    where
      go : (l : List A) → first_found l ≡ on_first None Some l
      go [] = refl
      go (x ∷ l) = refl

-- and where the list is read only if a test holds
pub found_if : {A B : Type 0} (end : B) (item : A → B) {r : Option A} (b : Bool) (l : List A) → r ≡ first_found (cond b l []) → option_map_or item r end ≡ cond b (on_first end item l) end
found_if {B = B} end item b l e = found_told end item (cond b l []) e ∙ sym (first_if (λ (x : B). x) b end item l)

-- the order of two tests does not matter
pub filter_swap : {A : Type 0} (t u : A → Bool) (l : List A) → filter t (filter u l) ≡ filter u (filter t l)
filter_swap t u [] = refl
filter_swap {A} t u (x ∷ l) = go (t x) refl (u x) refl (filter_swap t u l)
  where
    go : (b : Bool) → t x ≡ b → (c : Bool) → u x ≡ c → filter t (filter u l) ≡ filter u (filter t l) →
        filter t (cond c (x ∷ filter u l) (filter u l)) ≡ filter u (cond b (x ∷ filter t l) (filter t l))
    go true e true d r = rw (e, d) (ap (λ (l : List A). x ∷ l) r)
    go true e false d r = rw d r
    go false e true d r = rw e r
    go false e false d r = r

-- the part of consecutive numbers in which a test holds, from lo to before hi
pub range_window : (t : ℕ → Bool) (lo hi a c : ℕ) → a ≤ lo → hi ≤ a + c → ((x : ℕ) → lo ≤ x → x < hi → t x ≡ true) → ((x : ℕ) → x < lo → t x ≡ false) →
    ((x : ℕ) → x < a + c → hi ≤ x → t x ≡ false) → filter t (range a c) ≡ range lo (hi - lo)
unfolding range
range_window t lo hi a c l h inside before after = go (leb lo hi) refl
  where
    go : (b : Bool) → leb lo hi ≡ b → filter t (range a c) ≡ range lo (hi - lo)
    go true e =
        let k = leb-true lo hi e in
        let x : a + (lo - a) ≡ lo = omega arith in
        let y : lo + (hi - lo) ≡ hi = omega arith in
        let z : c ≡ (lo - a) + (c - (lo - a)) = omega arith in
        let v : c - (lo - a) ≡ (hi - lo) + (a + c - hi) = omega arith in
        let cut : range a c ≡ range a (lo - a) ++ (range lo (hi - lo) ++ range hi (a + c - hi)) =
        range_append a (lo - a) (c - (lo - a)) c z
        ∙ ap (λ (r : List ℕ). range a (lo - a) ++ r)
        (ap (λ (s : ℕ). range s (c - (lo - a))) x
        ∙ (range_append lo (hi - lo) (a + c - hi) (c - (lo - a)) v ∙ ap (λ (s : ℕ). range lo (hi - lo) ++ range s (a + c - hi)) y)) in
        let none : filter t (range a (lo - a)) ≡ [] = filter_none t (range a (lo - a)) (λ n i. let r = member_range n a (lo - a) i in before n (omega arith)) in
        let all : filter t (range lo (hi - lo)) ≡ range lo (hi - lo) = filter_all t (range lo (hi - lo)) (λ n i. let r = member_range n lo (hi - lo) i in inside n (omega arith) (omega arith)) in
        let rest : filter t (range hi (a + c - hi)) ≡ [] = filter_none t (range hi (a + c - hi)) (λ n i. let r = member_range n hi (a + c - hi) i in after n (omega arith) (omega arith)) in
        ap (filter t) cut
        ∙ (filter-append t (range a (lo - a)) (range lo (hi - lo) ++ range hi (a + c - hi))
        ∙ ((λ i. none i ++ filter-append t (range lo (hi - lo)) (range hi (a + c - hi)) i)
        ∙ ((λ i. all i ++ rest i) ∙ append-nil (range lo (hi - lo)))))
    go false e =
        let k = leb-false lo hi e in
        let q : hi - lo ≡ 0 = omega arith in
        filter_none t (range a c) (λ n i. let r = member_range n a c i in outside n (ltb n lo) refl (omega arith) (omega arith)) ∙ ap (range lo) (sym q)
      where
        outside : (n : ℕ) (b : Bool) → ltb n lo ≡ b → n < a + c → hi < lo → t n ≡ false
        outside n true e u v = before n (ltb-true n lo e)
        outside n false e u v = let g = ltb-false n lo e in after n u (omega arith)

pub later_slots : (p a c : ℕ) → a ≤ suc p → filter (ltb p) (range a c) ≡ range (suc p) (a + c - suc p)
later_slots p a c l =
    range_window (ltb p) (suc p) (a + c) a c l (omega arith) (λ x u v. lt-ltb p x (omega arith)) (λ x u. le-ltb p x (omega arith)) (λ x u v. absurd (omega arith))

pub offsets_past : (o c : ℕ) → filter (ltb o) (range 0 c) ≡ range (suc o) (c - suc o)
offsets_past o c =
    let q : 0 + c - suc o ≡ c - suc o = omega arith in
    later_slots o 0 c (omega arith) ∙ ap (range (suc o)) q

pub range_from : (held a c : ℕ) → filter (leb held) (range a c) ≡ range (max a held) (a + c - max a held)
range_from held a c = go (leb held a) refl
  where
    go : (b : Bool) → leb held a ≡ b → filter (leb held) (range a c) ≡ range (max a held) (a + c - max a held)
    go true e =
        let l = leb-true held a e in
        let x : a ≡ max a held = omega arith in
        let y : c ≡ a + c - max a held = omega arith in
        filter_all (leb held) (range a c) (λ v i. let b = member_range v a c i in le-leb held v (omega arith)) ∙ (λ i. range (x i) (y i))
    go false e =
        let l = leb-false held a e in
        range_window (leb held) (max a held) (a + c) a c (omega arith) (omega arith) (λ x u v. le-leb held x (omega arith)) (λ x u. lt-leb held x (omega arith)) (λ x u v. absurd (omega arith))

pub range_between : (front back c : ℕ) → filter (between front back) (range 0 c) ≡ range front (end_before back c - front)
unfolding between
range_between front back c =
    range_window (between front back) front (end_before back c) 0 c (omega arith) (end_fits (eqb back 0))
    (λ x u v. rw (le-leb front x u) (inside x (eqb back 0) refl v))
    (λ x u. rw (lt-leb front x u))
    (λ x u v. go x (leb front x) (outside x (eqb back 0) refl (omega arith) v))
  where
    end_fits : (b : Bool) → cond b c (min c (back - 1)) ≤ 0 + c
    end_fits true = omega arith
    end_fits false = omega arith

    inside : (x : ℕ) (b : Bool) → eqb back 0 ≡ b → x < cond b c (min c (back - 1)) → cond b true (ltb (suc x) back) ≡ true
    inside x true e l = refl
    inside x false e l = lt-ltb (suc x) back (omega arith)

    outside : (x : ℕ) (b : Bool) → eqb back 0 ≡ b → x < c → cond b c (min c (back - 1)) ≤ x → cond b true (ltb (suc x) back) ≡ false
    outside x true e u l = absurd (omega arith)
    outside x false e u l = le-ltb (suc x) back (omega arith)

    go : (x : ℕ) (b : Bool) → cond (eqb back 0) true (ltb (suc x) back) ≡ false → cond b (cond (eqb back 0) true (ltb (suc x) back)) false ≡ false
    go x true e = e
    go x false e = refl

module _ {A B : Type 0} where
  -- a test that has one answer on each of the gathered lists
  pub flat_map_under : (f : A → List B) (t : B → Bool) (u : A → Bool) → ((a : A) (b : B) → Member b (f a) → t b ≡ u a) → (l : List A) →
      filter t (flat_map f l) ≡ flat_map f (filter u l)
  unfolding flat_map
  flat_map_under f t u h [] = refl
  flat_map_under f t u h (x ∷ l) = filter-append t (f x) (flat_map f l) ∙ go (u x) refl (flat_map_under f t u h l)
    where
      go : (b : Bool) → u x ≡ b → filter t (flat_map f l) ≡ flat_map f (filter u l) → filter t (f x) ++ filter t (flat_map f l) ≡ flat_map f (cond b (x ∷ filter u l) (filter u l))
      go true e r =
          let a = filter_all t (f x) (λ y i. h x y i ∙ e) in
          λ i. a i ++ r i
      go false e r =
          let a = filter_none t (f x) (λ y i. h x y i ∙ e) in
          λ i. a i ++ r i

-- Beyond a port and offset, in a list gathered over consecutive slots.

-- what is held is one higher than the port; 0 for none
abbrev pub is_past : {A : Type 0} → (A → ℕ) → (A → ℕ) → ℕ → ℕ → A → Bool
is_past port offset held o x = cond (eqb held 0) true (cond (eqb (port x) (held - 1)) (ltb o (offset x)) (ltb (held - 1) (port x)))

module _ {A : Type 0} (port offset : A → ℕ) where
  pub past_later : (held o : ℕ) (x : A) → held ≤ port x → is_past port offset held o x ≡ true
  past_later held o x l = go (eqb held 0) refl
    where
      go : (b : Bool) → eqb held 0 ≡ b → cond b true (cond (eqb (port x) (held - 1)) (ltb o (offset x)) (ltb (held - 1) (port x))) ≡ true
      go true e = refl
      go false e =
          let d = eqb-false held 0 e in
          rw (ne_eqb (port x) (held - 1) (λ q. omega arith), lt-ltb (held - 1) (port x) (omega arith))

  pub past_here : (p o : ℕ) (x : A) → port x ≡ p → is_past port offset (suc p) o x ≡ ltb o (offset x)
  past_here p o x e =
      let q : suc p - 1 ≡ p = omega arith in
      rw (ne_eqb (suc p) 0 (λ z. omega arith), q, eq-eqb (port x) p e)

  pub past_earlier : (p o : ℕ) (x : A) → port x < p → is_past port offset (suc p) o x ≡ false
  past_earlier p o x l =
      let q : suc p - 1 ≡ p = omega arith in
      rw (ne_eqb (suc p) 0 (λ z. omega arith), q, ne_eqb (port x) p (λ z. omega arith), le-ltb p (port x) (omega arith))

  module _ (f : ℕ → List A) (stands : (p : ℕ) (x : A) → Member x (f p) → port x ≡ p) where
    pub past_all : (held o a c : ℕ) → held ≤ a → filter (is_past port offset held o) (flat_map f (range a c)) ≡ flat_map f (range a c)
    past_all held o a c l =
        filter_all (is_past port offset held o) (flat_map f (range a c))
        (λ x i.
        let g = member_flat_map f x (range a c) i in
        let r = member_range g.0 a c g.1 in
        let e = stands g.0 x g.2 in
        past_later held o x (omega arith))

    pub past_none : (p o a c : ℕ) → a + c ≤ p → filter (is_past port offset (suc p) o) (flat_map f (range a c)) ≡ []
    past_none p o a c l =
        filter_none (is_past port offset (suc p) o) (flat_map f (range a c))
        (λ x i.
        let g = member_flat_map f x (range a c) i in
        let r = member_range g.0 a c g.1 in
        let e = stands g.0 x g.2 in
        past_earlier p o x (omega arith))

    pub past_rest : (p o a c : ℕ) → a ≤ p → p < a + c →
        filter (is_past port offset (suc p) o) (flat_map f (range a c)) ≡ filter (λ x. ltb o (offset x)) (f p) ++ flat_map f (range (suc p) (a + c - suc p))
    past_rest p o a c l h =
        filter_flat_map (is_past port offset (suc p) o) f (range a c)
        ∙ (flat_map_beyond f p (is_past port offset (suc p) o) (λ x. ltb o (offset x)) (range a c) (range_rises a c) (range_member p a c l h)
        (λ k i b x j. let e = stands k x j in past_earlier p o x (omega arith))
        (λ k i b x j. let e = stands k x j in past_here p o x (omega arith))
        (λ k i b x j. let e = stands k x j in past_later (suc p) o x (omega arith))
        ∙ ap (λ (r : List ℕ). filter (λ x. ltb o (offset x)) (f p) ++ flat_map f r) (later_slots p a c (omega arith)))

    -- a row of slots, scanned from its first slot on or from what is held on, is what is beyond it
    module _ (items : ℕ → ℕ → List A) (all : (p : ℕ) → items p 0 ≡ f p) (past : (p o : ℕ) → items p (suc o) ≡ filter (λ x. ltb o (offset x)) (f p))
        (row : ℕ → ℕ → ℕ → List A) (done : (p o : ℕ) → row p o 0 ≡ []) (turn : (p o c : ℕ) → row p o (suc c) ≡ items p o ++ row (suc p) 0 c) where
      row_whole : (c p : ℕ) → row p 0 c ≡ flat_map f (range p c)
      unfolding flat_map range
      row_whole zero p = done p 0
      row_whole (suc c) p =
          let a = all p in
          let r = row_whole c (suc p) in
          turn p 0 c ∙ (λ i. a i ++ r i)

      row_later : (a c p o : ℕ) (b : Bool) → ltb p (a + c) ≡ b → a ≤ p → row p (suc o) (a + c - p) ≡ filter (is_past port offset (suc p) o) (flat_map f (range a c))
      row_later a c p o true e l =
          let h = ltb-true p (a + c) e in
          let more : a + c - p ≡ suc (a + c - suc p) = omega arith in
          let b = past p o in
          let r = row_whole (a + c - suc p) (suc p) in
          ap (row p (suc o)) more ∙ turn p (suc o) (a + c - suc p) ∙ (λ i. b i ++ r i) ∙ sym (past_rest p o a c l h)
      row_later a c p o false e l =
          let h = ltb-false p (a + c) e in
          let none : a + c - p ≡ 0 = omega arith in
          ap (row p (suc o)) none ∙ done p (suc o) ∙ sym (past_none p o a c h)

      pub row_past : (a b held o : ℕ) → a ≤ b → cond (leb held a) (row a 0 (b - a)) (row (held - 1) (suc o) (b - (held - 1))) ≡ filter (is_past port offset held o) (flat_map f (range a (b - a)))
      row_past a b held o l = go (leb held a) refl
        where
          go : (c : Bool) → leb held a ≡ c → cond c (row a 0 (b - a)) (row (held - 1) (suc o) (b - (held - 1))) ≡ filter (is_past port offset held o) (flat_map f (range a (b - a)))
          go true e = row_whole (b - a) a ∙ sym (past_all held o a (b - a) (leb-true held a e))
          go false e =
              let h = leb-false held a e in
              let end : b ≡ a + (b - a) = omega arith in
              let one : suc (held - 1) ≡ held = omega arith in
              ap (λ (x : ℕ). row (held - 1) (suc o) (x - (held - 1))) end
              ∙ row_later a (b - a) (held - 1) o (ltb (held - 1) (a + (b - a))) refl (omega arith)
              ∙ ap (λ (x : ℕ). filter (is_past port offset x o) (flat_map f (range a (b - a)))) one

-- The items of a port stand at it.

pub wire_stands : (m : MultiPortGraph) (d : Direction) (s : SubportIndex) (w : SubportLink) → Member w (wire_of m d s) → w.from ≡ s
unfolding wire_of
wire_stands m d s w = go (link_of_end m s.port.0 (end_at m s.port.0 d s.subport_offset))
  where
    go : (a : Result (Option (SubportIndex × PortPlace)) Refusal) → Member w (wire_to s a) → w.from ≡ s
    go (Ok (Some (t, x))) (inl e) = ap (λ (v : SubportLink). v.from) e
    go (Ok (Some (t, x))) (inr i) = absurd i
    go (Ok None) i = absurd i
    go (Err r) i = absurd i

pub subport_stands : (m : MultiPortGraph) (d : Direction) (p : ℕ) (s : SubportIndex) → Member s (subports_of_port m d p) → s.port.0 ≡ p
unfolding subports_of_port
subport_stands m d p s = go (is_split m p)
  where
    go : (b : Bool) → Member s (cond b (map (subport# p) (range 0 (subports m p d))) (subport# p 0 ∷ [])) → s.port.0 ≡ p
    go true i = ap (λ (t : SubportIndex). t.port.0) (member_map (subport# p) s (range 0 (subports m p d)) i).2
    go false (inl e) = ap (λ (t : SubportIndex). t.port.0) e
    go false (inr i) = absurd i

pub subport_at_port : (m : MultiPortGraph) (p : ℕ) (s : SubportIndex) → Member s (subports_at m p) → s.port.0 ≡ p
unfolding subports_at
subport_at_port m p s = go (seen m p)
  where
    go : (v : Port) → Member s (subports_seen m p v) → s.port.0 ≡ p
    go dead i = absurd i
    go hidden i = absurd i
    go (visible n d) i = subport_stands m d p s i

pub link_at_port : (m : MultiPortGraph) (p : ℕ) (w : SubportLink) → Member w (port_links m p) → w.from.port.0 ≡ p
unfolding port_links
link_at_port m p w = go (seen m p)
  where
    go : (v : Port) → Member w (port_links_seen m p v) → w.from.port.0 ≡ p
    go dead i = absurd i
    go hidden i = absurd i
    go (visible n d) i =
        let g = member_flat_map (wire_of m d) w (subports_of_port m d p) i in
        ap (λ (t : SubportIndex). t.port.0) (wire_stands m d g.0 w g.2) ∙ subport_stands m d p g.0 g.1

-- the list of all wires tests a port itself, the walks what they hold
pub beyond_held : (p o : ℕ) (w : SubportLink) → is_beyond p o w ≡ link_beyond (suc p) o w
beyond_held p o w =
    let q : suc p - 1 ≡ p = omega arith in
    rw (ne_eqb (suc p) 0 (λ z. omega arith), q)

pub filter_beyond_held : (p o : ℕ) (l : List SubportLink) → filter (is_beyond p o) l ≡ filter (link_beyond (suc p) o) l
filter_beyond_held p o l = filter_same (is_beyond p o) (link_beyond (suc p) o) l (λ w i. beyond_held p o w)

-- The ports of a live node are consecutive slots, on any graph.

pub port_there : (m : MultiPortGraph) (n : ℕ) (k : NodeMeta) → meta_at m.graph n ≡ Some k → (d : Direction) (i : ℕ) → i < ports_on k d →
    port_of m.graph n d i ≡ ports_from k (One d) + i
unfolding port_of
port_there m n k e d i l =
    ap (λ (v : Option NodeMeta). port_number (port_in v (record { direction = d; index = i }))) e
    ∙ rw (lt-ltb i (ports_on k d) l) (go d)
  where
    go : (d : Direction) → port_number (Some (port# (k.first_port.0 + start_of k d + i))) ≡ ports_from k (One d) + i
    go Incoming = omega arith
    go Outgoing = refl

pub side_in_row : (m : MultiPortGraph) (n : ℕ) (k : NodeMeta) → meta_at m.graph n ≡ Some k → (d : Direction) →
    ports_of_side m d n ≡ range (ports_from k (One d)) (ports_on k d)
unfolding ports_of_side
side_in_row m n k e d =
    let q : ports_from k (One d) + 0 ≡ ports_from k (One d) = omega arith in
    ap (λ (v : Option NodeMeta). map (port_of m.graph n d) (range 0 (count_in v d))) e
    ∙ (map_range (port_of m.graph n d) (ports_from k (One d)) 0 (ports_on k d) (λ j l. port_there m n k e d j (omega arith))
    ∙ ap (λ (s : ℕ). range s (ports_on k d)) q)

-- how many ports there are on these sides
abbrev pub ports_across : NodeMeta → Sides → ℕ
ports_across k sides = ports_to k sides - ports_from k sides

across_one : (k : NodeMeta) (d : Direction) → ports_on k d ≡ ports_across k (One d)
across_one k Incoming = omega arith
across_one k Outgoing = omega arith

-- a listing by sides is the one over all their slots
sides_in_row : {A : Type 0} (f : ℕ → List A) (k : NodeMeta) (g : Direction → List A) →
    ((d : Direction) → g d ≡ flat_map f (range (ports_from k (One d)) (ports_on k d))) → (sides : Sides) →
    by_sides g sides ≡ flat_map f (range (ports_from k sides) (ports_across k sides))
sides_in_row f k g h (One d) = h d ∙ ap (λ (c : ℕ). flat_map f (range (ports_from k (One d)) c)) (across_one k d)
sides_in_row f k g h Both =
    let a = h Incoming in
    let b = h Outgoing in
    (λ i. a i ++ b i)
    ∙ (sym (flat_map_append f (range k.first_port.0 k.incoming) (range (k.first_port.0 + k.incoming) k.outgoing))
    ∙ ap (flat_map f) (sym (range_append k.first_port.0 k.incoming k.outgoing (ports_across k Both) (omega arith))))

pub flat_map_single : {A : Type 0} (l : List A) → flat_map (λ x. x ∷ []) l ≡ l
unfolding flat_map
flat_map_single [] = refl
flat_map_single {A} (x ∷ l) = ap (λ (r : List A). x ∷ r) (flat_map_single l)

pub ports_in_row : (m : MultiPortGraph) (n : ℕ) (k : NodeMeta) → meta_at m.graph n ≡ Some k → (sides : Sides) →
    ports_of_node m n sides ≡ range (ports_from k sides) (ports_across k sides)
unfolding ports_of_node
ports_in_row m n k e sides =
    sides_in_row (λ p. p ∷ []) k (λ d. ports_of_side m d n) (λ d. side_in_row m n k e d ∙ sym (flat_map_single (range (ports_from k (One d)) (ports_on k d)))) sides
    ∙ flat_map_single (range (ports_from k sides) (ports_across k sides))

-- Of a block of a graph of the calls each slot of a side is seen, with its side.

-- a block has meta data, and is not hidden
pub block_not_hidden : (m : MultiPortGraph) (n : ℕ) → is_block m n ≡ true → is_hidden m n ≡ false
unfolding is_block
block_not_hidden m n = go (is_hidden m n)
  where
    go : (b : Bool) → cond b false (contains_node m.graph n) ≡ true → b ≡ false
    go true h = absurd (zero_is_not_one (cc))
    go false h = refl

pub block_has_meta : (m : MultiPortGraph) (n : ℕ) → is_block m n ≡ true → (k : NodeMeta) × (meta_at m.graph n ≡ Some k)
unfolding is_block
block_has_meta m n = go (is_hidden m n) (meta_at m.graph n) refl
  where
    go : (b : Bool) (v : Option NodeMeta) → meta_at m.graph n ≡ v → cond b false (is_some v) ≡ true → (k : NodeMeta) × (meta_at m.graph n ≡ Some k)
    go true v e h = absurd (zero_is_not_one (cc))
    go false None e h = absurd (zero_is_not_one (cc))
    go false (Some k) e h = (k, e)

module _ {m : MultiPortGraph} (w : MultiWf m) (n : ℕ) (k : NodeMeta) (open_node : is_hidden m n ≡ false) (meta : meta_at m.graph n ≡ Some k) where
  pub port_seen_there : (d : Direction) (p : ℕ) → ports_from k (One d) ≤ p → p < ports_from k (One d) + ports_on k d → seen m p ≡ visible n d
  port_seen_there d p l h =
      let s : w.model.node n ≡ live k = node_of_meta w.fine.good w.fine.holds n k meta in
      let c : count_of (w.model.node n) d ≡ ports_on k d = ap (λ (v : Slots). count_of v d) s in
      let e : slot_of w.model.node (inner# n d (p - ports_from k (One d))) ≡ p =
      ap (λ (v : Slots). first_of v + (side_start v d + (p - ports_from k (One d)))) s ∙ slot d l in
      ap (seen m) (sym e) ∙ seen_block w.fine (inner# n d (p - ports_from k (One d))) (omega arith, open_node)
    where
      slot : (d : Direction) → ports_from k (One d) ≤ p → first_of (live k) + (side_start (live k) d + (p - ports_from k (One d))) ≡ p
      slot Incoming l = omega arith
      slot Outgoing l = omega arith

  pub side_links_in_row : (d : Direction) → side_links m d n ≡ flat_map (port_links m) (range (ports_from k (One d)) (ports_on k d))
  unfolding side_links subports_of_side port_links
  side_links_in_row d =
      flat_map_flat_map (wire_of m d) (subports_of_port m d) (ports_of_side m d n)
      ∙ (ap (flat_map (λ p. flat_map (wire_of m d) (subports_of_port m d p))) (side_in_row m n k meta d)
      ∙ flat_map_same (λ p. flat_map (wire_of m d) (subports_of_port m d p)) (port_links m) (range (ports_from k (One d)) (ports_on k d))
      (λ p i. let r = member_range p (ports_from k (One d)) (ports_on k d) i in sym (ap (port_links_seen m p) (port_seen_there d p r.0 r.1))))

  pub links_in_row : (sides : Sides) → by_sides (λ d. side_links m d n) sides ≡ links_from_to m (ports_from k sides) (ports_across k sides)
  unfolding links_from_to
  links_in_row sides = sides_in_row (port_links m) k (λ d. side_links m d n) side_links_in_row sides

  side_subports_in_row : (d : Direction) → subports_of_side m n d ≡ flat_map (subports_at m) (range (ports_from k (One d)) (ports_on k d))
  unfolding subports_of_side subports_at
  side_subports_in_row d =
      ap (flat_map (subports_of_port m d)) (side_in_row m n k meta d)
      ∙ flat_map_same (subports_of_port m d) (subports_at m) (range (ports_from k (One d)) (ports_on k d))
      (λ p i. let r = member_range p (ports_from k (One d)) (ports_on k d) i in sym (ap (subports_seen m p) (port_seen_there d p r.0 r.1)))

  pub subports_in_row : (sides : Sides) → subports_of m n sides ≡ subports_from_to m (ports_from k sides) (ports_across k sides)
  unfolding subports_from_to subports_of
  subports_in_row sides = sides_in_row (subports_at m) k (subports_of_side m n) side_subports_in_row sides

  -- the slots lie in the tables
  pub row_fits : (sides : Sides) → (ports_from k sides ≤ ports_to k sides) × (ports_to k sides ≤ port_slots)
  row_fits sides =
      go sides (ports_end w.fine.good n k (node_of_meta w.fine.good w.fine.holds n k meta))
    where
      go : (sides : Sides) → k.first_port.0 + (k.incoming + k.outgoing) ≤ port_slots → (ports_from k sides ≤ ports_to k sides) × (ports_to k sides ≤ port_slots)
      go (One Incoming) l = (omega arith, omega arith)
      go (One Outgoing) l = (omega arith, omega arith)
      go Both l = (omega arith, omega arith)

  pub row_end : (sides : Sides) → min (ports_to k sides) port_slots ≡ ports_to k sides
  row_end sides = let r = row_fits sides in omega arith

  -- What is left of a block's ports beyond what is held: those from it on.
  pub block_ports_rest : (sides : Sides) (held : ℕ) →
      filter (leb held) (ports_of_node m n sides) ≡ range (max (ports_from k sides) held) (ports_to k sides - max (ports_from k sides) held)
  block_ports_rest sides held =
      let r = row_fits sides in
      let q : ports_from k sides + ports_across k sides ≡ ports_to k sides = omega arith in
      ap (filter (leb held)) (ports_in_row m n k meta sides)
      ∙ (range_from held (ports_from k sides) (ports_across k sides)
      ∙ ap (λ (c : ℕ). range (max (ports_from k sides) held) (c - max (ports_from k sides) held)) q)

-- The items of one port: of a split one by offset, else a single one at offset 0.

module _ (m : MultiPortGraph) (p n : ℕ) (d : Direction) (s : seen m p ≡ visible n d) where
  pub subports_of_split : is_split m p ≡ true → subports_at m p ≡ map (subport# p) (range 0 (subports m p d))
  unfolding subports_at subports_of_port
  subports_of_split e = rw (s, e)

  pub subports_of_plain : is_split m p ≡ false → subports_at m p ≡ subport# p 0 ∷ []
  unfolding subports_at subports_of_port
  subports_of_plain e = rw (s, e)

  pub links_of_split : is_split m p ≡ true → port_links m p ≡ flat_map (λ i. wire_of m d (subport# p i)) (range 0 (subports m p d))
  unfolding port_links subports_of_port
  links_of_split e = rw (s, e) (flat_map_map (wire_of m d) (subport# p) (range 0 (subports m p d)))

  pub links_of_plain : is_split m p ≡ false → port_links m p ≡ wire_of m d (subport# p 0)
  unfolding port_links subports_of_port flat_map
  links_of_plain e = rw (s, e) (append-nil (wire_of m d (subport# p 0)))
