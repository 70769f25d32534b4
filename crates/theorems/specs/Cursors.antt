-- Walking by a cursor, from the front, from the back or by turns, over any list that ascends: if a step gives the first (or the
-- last) of what its cursor leaves of the list, the walk gives all of that in order and then the end, from both ends no item twice.
use Rattle.std.specs.Prelude.{◌≡◌, Bool, cond}
use Rattle.std.proofs.Math.Path.{refl, sym, ap, subst}
use Rattle.std.proofs.Common.{◌∙◌}
use Rattle.std.proofs.Math.Bool.{true, false}
use mathlib.Core.List.{List, [], ◌∷◌, ◌++◌, append_assoc, append-nil, map, map-append}
use Rattle.std.proofs.Math.Logic.{inl, inr}
use Prim.Native.Nat.{ℕ, zero, suc, ◌-◌, ◌≤◌, ◌<◌}
use native.Mathlib.Omega.{arith}
use Rattle.std.proofs.Math.ListN.{length}
use Rattle.port_tables.specs.Lists.{on_first, on_last, Member, Rising}
use Rattle.std.specs.List.{filter}
use Rattle.portgraph.specs.GoodSlots.{zero_is_not_one}
use Rattle.port_tables.specs.Listing.{Apart, member_left, member_right, member_filter, filter_all, rising_filter}
use Rattle.std.proofs.lemmas.List.Elements.{filter-append}
use Rattle.multiportgraph.specs.RangeSearches.{last_append}
use Rattle.portgraph.specs.Walks.{Walked, whole, unfinished, more}
use Rattle.std.proofs.lemmas.List.{nil_from_length}

-- What a step answers: an item with the cursor moved, or the end.
pub data Stepped (B C : Type 0) : Type 0 where
  item : B → C → Stepped B C
  end : Stepped B C

-- A walk with so many steps at the most.

abbrev pub onward : {B C : Type 0} → (C → Walked B) → Stepped B C → Walked B
onward go (item x c) = more x (go c)
onward go end = whole []

unfoldable pub walk : {B C : Type 0} → (C → Stepped B C) → ℕ → C → Walked B
walk step zero c = unfinished
walk step (suc fuel) c = onward (walk step fuel) (step c)

-- A walk from either end, by a list of choices: each step's answer. After the end the cursor stays what it was.

pub data From : Type 0 where
  front : From
  back : From

pub data Answer (B : Type 0) : Type 0 where
  gave : B → Answer B
  none : Answer B

abbrev pub chosen : {S : Type 0} → S → S → From → S
chosen a b front = a
chosen a b back = b

abbrev pub answered : {B C : Type 0} → C → (C → List (Answer B)) → Stepped B C → List (Answer B)
answered c go (item x d) = gave x ∷ go d
answered c go end = none ∷ go c

unfoldable pub walk_ends : {B C : Type 0} → (C → Stepped B C) → (C → Stepped B C) → List From → C → List (Answer B)
walk_ends step step_back [] c = []
walk_ends step step_back (x ∷ choices) c = answered c (walk_ends step step_back choices) (chosen step step_back x c)

-- The same on a list: the first or the last of what is left is taken.

unfoldable pub last_in : {B : Type 0} → B → List B → B
last_in x [] = x
last_in x (y ∷ l) = last_in y l

unfoldable pub without_last : {B : Type 0} → B → List B → List B
without_last x [] = []
without_last x (y ∷ l) = x ∷ without_last y l

-- what is left after one step
abbrev pub left_by : {B : Type 0} → From → List B → List B
left_by x [] = []
left_by front (y ∷ l) = l
left_by back (y ∷ l) = without_last y l

abbrev pub taken_by : {B : Type 0} → From → List B → Answer B
taken_by x [] = none
taken_by front (y ∷ l) = gave y
taken_by back (y ∷ l) = gave (last_in y l)

unfoldable pub take_ends : {B : Type 0} → List From → List B → List (Answer B)
take_ends [] l = []
take_ends (x ∷ choices) l = taken_by x l ∷ take_ends choices (left_by x l)

unfoldable pub left_after : {B : Type 0} → List From → List B → List B
left_after [] l = l
left_after (x ∷ choices) l = left_after choices (left_by x l)

-- the items among the answers; those given from one end
abbrev pub item_in : {B : Type 0} → Answer B → List B → List B
item_in (gave x) l = x ∷ l
item_in none l = l

unfoldable pub items_in : {B : Type 0} → List (Answer B) → List B
items_in [] = []
items_in (a ∷ l) = item_in a (items_in l)

abbrev pub if_same : {S : Type 0} → From → From → S → S → S
if_same front front a b = a
if_same front back a b = b
if_same back front a b = b
if_same back back a b = a

unfoldable pub given_from : {B : Type 0} → From → List From → List (Answer B) → List B
given_from e [] l = []
given_from e (x ∷ choices) [] = []
given_from e (x ∷ choices) (a ∷ l) = if_same e x (item_in a (given_from e choices l)) (given_from e choices l)

unfoldable pub backwards : {B : Type 0} → List B → List B
backwards [] = []
backwards (x ∷ l) = backwards l ++ (x ∷ [])

-- Lists by their last item.

rising_last : {A : Type 0} (R : A → A → Type 0) (a : List A) (x : A) → Rising R (a ++ (x ∷ [])) → (y : A) → Member y a → R y x
rising_last {A = A} R [] x r y never = absurd never
rising_last R (z ∷ a) x r y (inl e) = subst (λ v. R v x) (sym e) (r.0 x (member_right x a (x ∷ []) (inl refl)))
rising_last R (z ∷ a) x r y (inr i) = rising_last R a x r.1 y i

module _ {B : Type 0} where
  pub last_splits : (x : B) (l : List B) → x ∷ l ≡ without_last x l ++ (last_in x l ∷ [])
  unfolding last_in without_last
  last_splits x [] = refl
  last_splits x (y ∷ l) = ap (λ (r : List B). x ∷ r) (last_splits y l)

  length_without : (x : B) (l : List B) → length (without_last x l) ≡ length l
  unfolding without_last
  length_without x [] = refl
  length_without x (y ∷ l) = ap suc (length_without y l)

  pub backwards_append : (a b : List B) → backwards (a ++ b) ≡ backwards b ++ backwards a
  unfolding backwards
  backwards_append [] b = sym (append-nil (backwards b))
  backwards_append (x ∷ a) b = ap (λ (r : List B). r ++ (x ∷ [])) (backwards_append a b) ∙ append_assoc (backwards b) (backwards a) (x ∷ [])

  backwards_last : (a : List B) (x : B) → backwards (a ++ (x ∷ [])) ≡ x ∷ backwards a
  unfolding backwards
  backwards_last a x = backwards_append a (x ∷ [])

-- Taking from both ends.

module _ {B : Type 0} where
  take_back : (choices : List From) (l : List B) (x : B) → take_ends (back ∷ choices) (l ++ (x ∷ [])) ≡ gave x ∷ take_ends choices l
  unfolding take_ends last_in without_last
  take_back choices [] x = refl
  take_back choices (y ∷ l) x =
      let a = is_last y l in
      let b = is_left y l in
      λ i. gave (a i) ∷ take_ends choices (b i)
    where
      is_last : (y : B) (l : List B) → last_in y (l ++ (x ∷ [])) ≡ x
      is_last y [] = refl
      is_last y (z ∷ l) = is_last z l

      is_left : (y : B) (l : List B) → without_last y (l ++ (x ∷ [])) ≡ y ∷ l
      is_left y [] = refl
      is_left y (z ∷ l) = ap (λ (r : List B). y ∷ r) (is_left z l)

  -- Front items are the beginning of the list in order, back items its end in reverse order, and between them stands what is left.
  pub ends_split : (choices : List From) (l : List B) →
      l ≡ given_from front choices (take_ends choices l) ++ (left_after choices l ++ backwards (given_from back choices (take_ends choices l)))
  unfolding given_from take_ends left_after backwards
  ends_split [] l = sym (append-nil l)
  ends_split (front ∷ choices) [] = ends_split choices []
  ends_split (front ∷ choices) (x ∷ l) = ap (λ (r : List B). x ∷ r) (ends_split choices l)
  ends_split (back ∷ choices) [] = ends_split choices []
  ends_split (back ∷ choices) (x ∷ l) =
      last_splits x l
      ∙ (ap (λ (r : List B). r ++ (last_in x l ∷ [])) (ends_split choices (without_last x l))
      ∙ (append_assoc (given_from front choices (take_ends choices (without_last x l))) _ (last_in x l ∷ [])
      ∙ ap (λ (r : List B). given_from front choices (take_ends choices (without_last x l)) ++ r)
      (append_assoc (left_after choices (without_last x l)) (backwards (given_from back choices (take_ends choices (without_last x l)))) (last_in x l ∷ []))))

  left_by_length : (x : From) (l : List B) → length (left_by x l) ≡ length l - 1
  left_by_length x [] = omega arith
  left_by_length front (y ∷ l) = omega arith
  left_by_length back (y ∷ l) = let e = length_without y l in omega arith

  -- each step takes one, as long as there is one
  pub left_length : (choices : List From) (l : List B) → length (left_after choices l) ≡ length l - length choices
  unfolding left_after
  left_length [] l = omega arith
  left_length (x ∷ choices) l =
      let a = left_length choices (left_by x l) in
      let b = left_by_length x l in
      omega arith

  pub none_left : (choices : List From) (l : List B) → length l ≤ length choices → left_after choices l ≡ []
  none_left choices l h = nil_from_length (left_after choices l) (let e = left_length choices l in omega arith)

  -- once as many steps were made as the list is long, every item was given
  pub all_given_lem : (choices : List From) (l : List B) → length l ≤ length choices →
      l ≡ given_from front choices (take_ends choices l) ++ backwards (given_from back choices (take_ends choices l))
  all_given_lem choices l h =
      ends_split choices l
      ∙ ap (λ (r : List B). given_from front choices (take_ends choices l) ++ (r ++ backwards (given_from back choices (take_ends choices l)))) (none_left choices l h)

  pub take_more : (choices others : List From) (l : List B) → take_ends (choices ++ others) l ≡ take_ends choices l ++ take_ends others (left_after choices l)
  unfolding take_ends left_after
  take_more [] others l = refl
  take_more (x ∷ choices) others l = ap (λ (r : List (Answer B)). taken_by x l ∷ r) (take_more choices others (left_by x l))

  none_from_none : (choices : List From) → take_ends {B = B} choices [] ≡ map (λ c. none) choices
  unfolding take_ends
  none_from_none [] = refl
  none_from_none (x ∷ choices) = ap (λ (r : List (Answer B)). none ∷ r) (none_from_none choices)

  -- and further steps answer the end
  pub then_ends : (choices others : List From) (l : List B) → length l ≤ length choices →
      take_ends (choices ++ others) l ≡ take_ends choices l ++ map (λ c. none) others
  then_ends choices others l h =
      take_more choices others l
      ∙ ap (λ (r : List (Answer B)). take_ends choices l ++ r) (ap (take_ends others) (none_left choices l h) ∙ none_from_none others)

  left_member : (c : From) (x : B) (l : List B) → Member x (left_by c l) → Member x l
  left_member c x [] i = i
  left_member front x (y ∷ l) i = inr i
  left_member back x (y ∷ l) i = subst (Member x) (sym (last_splits y l)) (member_left x (without_last y l) (last_in y l ∷ []) i)

  -- every item given stands in the list
  pub taken_member : (choices : List From) (x : B) (l : List B) → Member x (items_in (take_ends choices l)) → Member x l
  unfolding take_ends items_in
  taken_member [] x l i = absurd i
  taken_member (c ∷ choices) x l i = go c l (taken_member choices x (left_by c l)) i
    where
      go : (c : From) (l : List B) → (Member x (items_in (take_ends choices (left_by c l))) → Member x (left_by c l)) →
          Member x (item_in (taken_by c l) (items_in (take_ends choices (left_by c l)))) → Member x l
      go c [] rest i = rest i
      go front (y ∷ l) rest (inl e) = inl e
      go front (y ∷ l) rest (inr i) = inr (rest i)
      go back (y ∷ l) rest (inl e) = subst (Member x) (sym (last_splits y l)) (member_right x (without_last y l) (last_in y l ∷ []) (inl e))
      go back (y ∷ l) rest (inr i) = left_member back x (y ∷ l) (rest i)

  apart_first : (a b : List B) → Rising Apart (a ++ b) → Rising Apart a
  apart_first [] b r = tt
  apart_first (x ∷ a) b r = ((λ y i. r.0 y (member_left y a b i)), apart_first a b r.1)

  left_apart : (c : From) (l : List B) → Rising Apart l → Rising Apart (left_by c l)
  left_apart c [] r = tt
  left_apart front (y ∷ l) r = r.1
  left_apart back (y ∷ l) r = apart_first (without_last y l) (last_in y l ∷ []) (subst (Rising Apart) (last_splits y l) r)

  -- no item is given twice, if none stands twice in the list
  pub taken_apart : (choices : List From) (l : List B) → Rising Apart l → Rising Apart (items_in (take_ends choices l))
  unfolding take_ends items_in
  taken_apart [] l r = tt
  taken_apart (c ∷ choices) l r = go c l r (taken_apart choices (left_by c l) (left_apart c l r))
    where
      go : (c : From) (l : List B) → Rising Apart l → Rising Apart (items_in (take_ends choices (left_by c l))) →
          Rising Apart (item_in (taken_by c l) (items_in (take_ends choices (left_by c l))))
      go c [] r s = s
      go front (y ∷ l) r s = ((λ x i. r.0 x (taken_member choices x l i)), s)
      go back (y ∷ l) r s = (
        (λ x i e.
            rising_last Apart (without_last y l) (last_in y l) (subst (Rising Apart) (last_splits y l) r) x (taken_member choices x (without_last y l) i) (sym e)),
        s,
      )

-- What holds of the answers of a walk that takes from both ends of a list, whatever the choices.
pub record Turns {B : Type 0} (l : List B) (answers : List From → List (Answer B)) : Type 0 where
  -- what is left between the items given from the front, in order, and those given from the back, in reverse order
  pub left : List From → List B
  pub split : (choices : List From) → l ≡ given_from front choices (answers choices) ++ (left choices ++ backwards (given_from back choices (answers choices)))
  pub left_long : (choices : List From) → length (left choices) ≡ length l - length choices
  -- each item given is listed, and none comes twice
  pub listed : (choices : List From) (x : B) → Member x (items_in (answers choices)) → Member x l
  pub apart : (choices : List From) → Rising Apart (items_in (answers choices))
  -- once as many steps were made as the list is long, every item was given and further steps answer the end
  pub all_given : (choices : List From) → length l ≤ length choices → l ≡ given_from front choices (answers choices) ++ backwards (given_from back choices (answers choices))
  pub ended : (choices others : List From) → length l ≤ length choices → answers (choices ++ others) ≡ answers choices ++ map (λ c. none) others

pub turns : {B : Type 0} {l : List B} {answers : List From → List (Answer B)} → Rising Apart l → ((choices : List From) → answers choices ≡ take_ends choices l) → Turns l answers
turns {B} {l} {answers} r e =
    record {
      left = λ choices. left_after choices l;
      split = λ choices. rw (e choices) (ends_split choices l);
      left_long = λ choices. left_length choices l;
      listed = λ choices x i. taken_member choices x l (rw (e choices) at i);
      apart = λ choices. rw (e choices) (taken_apart choices l r);
      all_given = λ choices h. rw (e choices) (all_given_lem choices l h);
      ended = λ choices others h. rw (e choices, e (choices ++ others)) (then_ends choices others l h);
    }

pub rising_as : {A : Type 0} (R S : A → A → Type 0) (l : List A) → ((x y : A) → Member x l → Member y l → R x y → S x y) → Rising R l → Rising S l
rising_as R S [] h r = tt
rising_as R S (x ∷ l) h r = ((λ y i. h x y (inl refl) (inr i) (r.0 y i)), rising_as R S l (λ y z i j. h y z (inr i) (inr j)) r.1)

-- A list that ascends, and what a cursor at a position leaves of it.

pub record Listed (A B K C : Type 0) : Type 1 where
  pub listing : List A
  pub before : A → A → Type 0
  pub rises : Rising before listing
  -- what a step gives of an item
  pub out : A → B
  -- the cursor at a position, the items that it has left, and that what it holds is still there
  pub cursor : K → C
  pub left : K → A → Bool
  pub there : K → Type 0

abbrev pub left_of : {A B K C : Type 0} → Listed A B K C → K → List A
left_of l k = filter (l.left k) l.listing

-- how a step from the front moves
pub record Fronts {A B K C : Type 0} (l : Listed A B K C) (step : C → Stepped B C) : Type 0 where
  pub next : K → A → K
  pub is : (k : K) → l.there k → step (l.cursor k) ≡ on_first end (λ x. item (l.out x) (l.cursor (next k x))) (left_of l k)
  pub stays : (k : K) (x : A) → l.there k → Member x l.listing → l.there (next k x)
  pub itself : (k : K) (x : A) → l.left (next k x) x ≡ false
  pub later : (k : K) (x y : A) → l.left k y ≡ true → l.before x y → l.left (next k x) y ≡ true
  pub fewer : (k : K) (x y : A) → l.left k x ≡ true → l.left (next k x) y ≡ true → l.left k y ≡ true

-- and one from the back
pub record Backs {A B K C : Type 0} (l : Listed A B K C) (step : C → Stepped B C) : Type 0 where
  pub next : K → A → K
  pub is : (k : K) → l.there k → step (l.cursor k) ≡ on_last end (λ x. item (l.out x) (l.cursor (next k x))) (left_of l k)
  pub stays : (k : K) (x : A) → l.there k → Member x l.listing → l.there (next k x)
  pub itself : (k : K) (x : A) → l.left (next k x) x ≡ false
  pub earlier : (k : K) (x y : A) → l.left k y ≡ true → l.before y x → l.left (next k x) y ≡ true
  pub fewer : (k : K) (x y : A) → l.left k x ≡ true → l.left (next k x) y ≡ true → l.left k y ≡ true

-- a narrower test can be made of what a wider one has left
filter_narrow : {A : Type 0} (t u : A → Bool) (l : List A) → ((x : A) → t x ≡ true → u x ≡ true) → filter t l ≡ filter t (filter u l)
filter_narrow t u [] h = refl
filter_narrow {A} t u (x ∷ l) h = go (t x) refl (u x) refl (filter_narrow t u l h)
  where
    go : (b : Bool) → t x ≡ b → (c : Bool) → u x ≡ c → filter t l ≡ filter t (filter u l) → cond b (x ∷ filter t l) (filter t l) ≡ filter t (cond c (x ∷ filter u l) (filter u l))
    go true e true d r = rw e (ap (λ (l : List A). x ∷ l) r)
    go true e false d r = absurd (zero_is_not_one (let k = h x e in cc))
    go false e true d r = rw e r
    go false e false d r = r

module _ {A B K C : Type 0} (l : Listed A B K C) where
  -- what is left after a step
  module _ {step : C → Stepped B C} (f : Fronts l step) where
    front_left : (k : K) (x : A) (r : List A) → left_of l k ≡ x ∷ r → left_of l (f.next k x) ≡ r
    front_left k x r e =
        let had = member_filter (l.left k) x l.listing (subst (Member x) (sym e) (inl refl)) in
        let up : Rising l.before (x ∷ r) = subst (Rising l.before) e (rising_filter l.before (l.left k) l.listing l.rises) in
        filter_narrow (l.left (f.next k x)) (l.left k) l.listing (λ y h. f.fewer k x y had.1 h)
        ∙ (ap (filter (l.left (f.next k x))) e
        ∙ rw (f.itself k x)
        (filter_all (l.left (f.next k x)) r
        (λ y i. f.later k x y (member_filter (l.left k) y l.listing (subst (Member y) (sym e) (inr i))).1 (up.0 y i))))

    front_stays : (k : K) (x : A) (r : List A) → l.there k → left_of l k ≡ x ∷ r → l.there (f.next k x)
    front_stays k x r t e = f.stays k x t (member_filter (l.left k) x l.listing (subst (Member x) (sym e) (inl refl))).0

    front_gives : (k : K) (r : List A) → l.there k → left_of l k ≡ r → step (l.cursor k) ≡ on_first end (λ x. item (l.out x) (l.cursor (f.next k x))) r
    front_gives k r t e = f.is k t ∙ ap (on_first end (λ x. item (l.out x) (l.cursor (f.next k x)))) e

    -- A walk from the front gives all that its cursor leaves, in order, and then the end.
    pub walk_front : (fuel : ℕ) (k : K) → l.there k → length (left_of l k) < fuel → walk step fuel (l.cursor k) ≡ whole (map l.out (left_of l k))
    unfolding walk on_first
    walk_front fuel k t h = go fuel k (left_of l k) t refl h
      where
        go : (fuel : ℕ) (k : K) (r : List A) → l.there k → left_of l k ≡ r → length r < fuel → walk step fuel (l.cursor k) ≡ whole (map l.out r)
        go zero k r t e h = absurd (omega arith)
        go (suc fuel) k [] t e h = ap (onward (walk step fuel)) (front_gives k [] t e)
        go (suc fuel) k (x ∷ r) t e h =
            ap (onward (walk step fuel)) (front_gives k (x ∷ r) t e)
            ∙ ap (more (l.out x)) (go fuel (f.next k x) r (front_stays k x r t e) (front_left k x r e) (omega arith))

  module _ {step : C → Stepped B C} (b : Backs l step) where
    back_left : (k : K) (x : A) (r : List A) → left_of l k ≡ r ++ (x ∷ []) → left_of l (b.next k x) ≡ r
    back_left k x r e =
        let had = member_filter (l.left k) x l.listing (subst (Member x) (sym e) (member_right x r (x ∷ []) (inl refl))) in
        let up : Rising l.before (r ++ (x ∷ [])) = subst (Rising l.before) e (rising_filter l.before (l.left k) l.listing l.rises) in
        let all : filter (l.left (b.next k x)) r ≡ r =
        filter_all (l.left (b.next k x)) r
        (λ y i.
        b.earlier k x y (member_filter (l.left k) y l.listing (subst (Member y) (sym e) (member_left y r (x ∷ []) i))).1
        (rising_last l.before r x up y i)) in
        filter_narrow (l.left (b.next k x)) (l.left k) l.listing (λ y h. b.fewer k x y had.1 h)
        ∙ (ap (filter (l.left (b.next k x))) e
        ∙ (filter-append (l.left (b.next k x)) r (x ∷ [])
        ∙ rw (b.itself k x) (append-nil (filter (l.left (b.next k x)) r) ∙ all)))

    back_stays : (k : K) (x : A) (r : List A) → l.there k → left_of l k ≡ r ++ (x ∷ []) → l.there (b.next k x)
    back_stays k x r t e = b.stays k x t (member_filter (l.left k) x l.listing (subst (Member x) (sym e) (member_right x r (x ∷ []) (inl refl)))).0

    back_gives : (k : K) (r : List A) → l.there k → left_of l k ≡ r → step (l.cursor k) ≡ on_last end (λ x. item (l.out x) (l.cursor (b.next k x))) r
    back_gives k r t e = b.is k t ∙ ap (on_last end (λ x. item (l.out x) (l.cursor (b.next k x)))) e

    back_gives_last : (k : K) (x : A) (r : List A) → l.there k → left_of l k ≡ r ++ (x ∷ []) → step (l.cursor k) ≡ item (l.out x) (l.cursor (b.next k x))
    back_gives_last k x r t e = back_gives k (r ++ (x ∷ [])) t e ∙ last_append end (λ x. item (l.out x) (l.cursor (b.next k x))) r x

    -- A walk from the back gives the same in reverse order.
    pub walk_back : (fuel : ℕ) (k : K) → l.there k → length (left_of l k) < fuel → walk step fuel (l.cursor k) ≡ whole (backwards (map l.out (left_of l k)))
    unfolding walk on_last backwards
    walk_back fuel k t h = go fuel k (left_of l k) t refl h
      where
        turn : (fuel : ℕ) (k : K) (r : List A) (x : A) → l.there k → left_of l k ≡ r ++ (x ∷ []) →
            walk step fuel (l.cursor (b.next k x)) ≡ whole (backwards (map l.out r)) →
            walk step (suc fuel) (l.cursor k) ≡ whole (backwards (map l.out (r ++ (x ∷ []))))
        turn fuel k r x t e rest =
            ap (onward (walk step fuel)) (back_gives_last k x r t e)
            ∙ (ap (more (l.out x)) rest
            ∙ ap whole (sym (ap backwards (map-append l.out r (x ∷ [])) ∙ backwards_last (map l.out r) (l.out x))))

        go : (fuel : ℕ) (k : K) (r : List A) → l.there k → left_of l k ≡ r → length r < fuel → walk step fuel (l.cursor k) ≡ whole (backwards (map l.out r))
        go zero k r t e h = absurd (omega arith)
        go (suc fuel) k [] t e h = ap (onward (walk step fuel)) (back_gives k [] t e)
        go (suc fuel) k (x ∷ r) t e h =
            let s = e ∙ last_splits x r in
            let n = length_without x r in
            turn fuel k (without_last x r) (last_in x r) t s
            (go fuel (b.next k (last_in x r)) (without_last x r) (back_stays k (last_in x r) (without_last x r) t s) (back_left k (last_in x r) (without_last x r) s) (omega arith))
            ∙ ap (λ (v : List A). whole (backwards (map l.out v))) (sym (last_splits x r))

  -- A walk by turns takes the first or the last of what is left, whatever the choices.
  module _ {step step_back : C → Stepped B C} (f : Fronts l step) (b : Backs l step_back) where
    pub walk_ends_lem : (choices : List From) (k : K) → l.there k → walk_ends step step_back choices (l.cursor k) ≡ take_ends choices (map l.out (left_of l k))
    unfolding walk_ends take_ends on_first on_last
    walk_ends_lem choices k t = go choices k (left_of l k) t refl
      where
        turn : (choices : List From) (k : K) (r : List A) (x : A) → l.there k → left_of l k ≡ r ++ (x ∷ []) →
            walk_ends step step_back choices (l.cursor (b.next k x)) ≡ take_ends choices (map l.out r) →
            walk_ends step step_back (back ∷ choices) (l.cursor k) ≡ take_ends (back ∷ choices) (map l.out (r ++ (x ∷ [])))
        turn choices k r x t e rest =
            ap (answered (l.cursor k) (walk_ends step step_back choices)) (back_gives_last b k x r t e)
            ∙ (ap (λ (v : List (Answer B)). gave (l.out x) ∷ v) rest
            ∙ sym (ap (take_ends (back ∷ choices)) (map-append l.out r (x ∷ [])) ∙ take_back choices (map l.out r) (l.out x)))

        go : (choices : List From) (k : K) (r : List A) → l.there k → left_of l k ≡ r → walk_ends step step_back choices (l.cursor k) ≡ take_ends choices (map l.out r)
        go [] k r t e = refl
        go (front ∷ choices) k [] t e =
            ap (answered (l.cursor k) (walk_ends step step_back choices)) (front_gives f k [] t e)
            ∙ ap (λ (v : List (Answer B)). none ∷ v) (go choices k [] t e)
        go (front ∷ choices) k (x ∷ r) t e =
            ap (answered (l.cursor k) (walk_ends step step_back choices)) (front_gives f k (x ∷ r) t e)
            ∙ ap (λ (v : List (Answer B)). gave (l.out x) ∷ v) (go choices (f.next k x) r (front_stays f k x r t e) (front_left f k x r e))
        go (back ∷ choices) k [] t e =
            ap (answered (l.cursor k) (walk_ends step step_back choices)) (back_gives b k [] t e)
            ∙ ap (λ (v : List (Answer B)). none ∷ v) (go choices k [] t e)
        go (back ∷ choices) k (x ∷ r) t e =
            let s = e ∙ last_splits x r in
            turn choices k (without_last x r) (last_in x r) t s
            (go choices (b.next k (last_in x r)) (without_last x r) (back_stays b k (last_in x r) (without_last x r) t s) (back_left b k (last_in x r) (without_last x r) s))
            ∙ ap (λ (v : List A). take_ends (back ∷ choices) (map l.out v)) (sym (last_splits x r))

-- a cursor at which both steps answer the end gives nothing, however often it is asked
pub walk_nothing : {B C : Type 0} (step : C → Stepped B C) (fuel : ℕ) (c : C) → 0 < fuel → step c ≡ end → walk step fuel c ≡ whole []
unfolding walk
walk_nothing step zero c h e = absurd (omega arith)
walk_nothing step (suc fuel) c h e = ap (onward (walk step fuel)) e

pub ends_nothing : {B C : Type 0} (step step_back : C → Stepped B C) (choices : List From) (c : C) → step c ≡ end → step_back c ≡ end → walk_ends step step_back choices c ≡ take_ends choices []
unfolding walk_ends take_ends
ends_nothing step step_back [] c e d = refl
ends_nothing {B} step step_back (front ∷ choices) c e d =
    ap (answered c (walk_ends step step_back choices)) e ∙ ap (λ (r : List (Answer B)). none ∷ r) (ends_nothing step step_back choices c e d)
ends_nothing {B} step step_back (back ∷ choices) c e d =
    ap (answered c (walk_ends step step_back choices)) d ∙ ap (λ (r : List (Answer B)). none ∷ r) (ends_nothing step step_back choices c e d)
