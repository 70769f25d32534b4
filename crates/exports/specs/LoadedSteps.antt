-- What the proofs of the entry from files to requests cite.
use Rattle.std.specs.Prelude.{◌≡◌, ℕ, zero, suc, ◌+◌, ◌-◌, ◌*◌, ◌/◌, ◌≤◌, ◌<◌, take, replicate, Result, Ok, Err, is_ok}
use Rattle.std.proofs.Math.Path.{refl, ap}
use Rattle.std.proofs.Common.{sym, ◌∙◌, take_at, drop_at}
use mathlib.Core.List.{List, [], ◌∷◌, ◌++◌, flat_map, append_assoc}
use native.Mathlib.Omega.{arith}
use Rattle.std.proofs.Math.ListN.{length, get_or, drop, length-append, length-replicate}
use Rattle.std.proofs.Math.Seq.{sets, length-sets}
use Rattle.std.proofs.lemmas.List.Edits.{sets-eq}
use borrow.Author.Tests.{le-leb}
use Rattle.port_tables.specs.Limits.{node_slots, port_slots}
use Rattle.port_tables.specs.ResizeLinkSteps.{sets_append}
use Rattle.multiportgraph.specs.Listed.{list_after}
use Rattle.port_tables.specs.declared.release.Release.TheVariants.{One}
use Rattle.records.specs.Words.{bytes_of}
use Rattle.records.specs.WordLaws.{bytes_append, bytes_long}
use Rattle.files.specs.View.{BlockPorts, View}
use Rattle.files.specs.Layout.{unbytes}
use Rattle.files.specs.Loading.{out_port, in_port, load_answer, load_numbers}
use Rattle.std.specs.Result.{result_and, result_unwrap_or}
use Rattle.multiportgraph.specs.HiddenStays.{true_not_false}
use Rattle.files.specs.BuildList.{add_pair, link_pair, build_numbers, list_build, build_after}
use Rattle.files.specs.LoadAnswers.{loaded_few}
use Rattle.multiportgraph.specs.ListReads.{flat_map_length}
use Rattle.files.specs.declared.load.LoadError.{LoadError}
use Rattle.files.specs.declared.check.Shape.{Shape}
use Rattle.exports.specs.Exports.{refused_with, add_words, link_words, pair_request, pair_requests, build_requests, file_requests, records_return, records_written}

-- Requests of pairs.

pairs_of : {A : Type 0} (code : ℕ) (p q : A → ℕ) (l : List A) → pair_requests code (flat_map (λ x. p x ∷ q x ∷ []) l) ≡ bytes_of (flat_map (λ x. code ∷ p x ∷ q x ∷ 0 ∷ 0 ∷ []) l)
unfolding pair_requests flat_map bytes_of
pairs_of code p q [] = refl
pairs_of code p q (x ∷ l) = ap (λ k. bytes_of (code ∷ p x ∷ q x ∷ 0 ∷ 0 ∷ []) ++ k) (pairs_of code p q l)

pub build_split : (v : View) → build_requests v ≡ pair_requests 1 (flat_map add_pair v.blocks) ++ pair_requests 4 (flat_map (link_pair v.blocks) v.wires)
unfolding build_requests
build_split v =
    bytes_append (flat_map add_words v.blocks) (flat_map (link_words v.blocks) v.wires)
    ∙ (λ j. sym (pairs_of 1 (λ (b : BlockPorts). b.incoming) (λ (b : BlockPorts). b.outgoing) v.blocks) j
    ++ sym (pairs_of 4 (out_port v.blocks) (in_port v.blocks) v.wires) j)

pairs_counted : (code n : ℕ) (l : List ℕ) → length l ≡ 2 * n → length (pair_requests code l) ≡ 20 * n
unfolding pair_requests
pairs_counted code zero [] h = refl
pairs_counted code (suc n) [] h = absurd (omega arith)
pairs_counted code n (a ∷ []) h = absurd (omega arith)
pairs_counted code zero (a ∷ b ∷ l) h = absurd (omega arith)
pairs_counted code (suc n) (a ∷ b ∷ l) h =
    let c = pairs_counted code n l (omega arith) in
    let d = length-append (pair_request code a b) (pair_requests code l) in
    let e = bytes_long (code ∷ a ∷ b ∷ 0 ∷ 0 ∷ []) in
    omega arith

pub requests_many : {A : Type 0} (code : ℕ) (f : A → List ℕ) → ((x : A) → length (f x) ≡ 2) → (l : List A) → length (pair_requests code (flat_map f l)) ≡ 20 * length l
requests_many code f h l = pairs_counted code (length l) (flat_map f l) (flat_map_length f 2 h l)

-- Laid one after the other.

pair_on : (code : ℕ) (rest pair next : List ℕ) → rest ≡ pair ++ next → length pair ≡ 2 → pair_requests code rest ≡ pair_request code (get_or pair 0 0) (get_or pair 1 0) ++ pair_requests code next
unfolding pair_requests
pair_on code rest [] next e h = absurd (omega arith)
pair_on code rest (a ∷ []) next e h = absurd (omega arith)
pair_on code rest (a ∷ b ∷ []) next e h = ap (pair_requests code) e
pair_on code rest (a ∷ b ∷ x ∷ l) next e h = absurd (omega arith)

pair_none : (code : ℕ) (l : List ℕ) → length l ≤ 1 → pair_requests code l ≡ []
unfolding pair_requests
pair_none code [] h = refl
pair_none code (a ∷ []) h = refl
pair_none code (a ∷ b ∷ l) h = absurd (omega arith)

-- the requests of the numbers that are left amount to all
pub record Requesting (code : ℕ) (numbers rest requests₀ requests : List ℕ) (at place : ℕ) : Type 0 where
  pub counted : place + length (pair_requests code rest) ≡ at + length (pair_requests code numbers)
  pub same : sets requests place (pair_requests code rest) ≡ sets requests₀ at (pair_requests code numbers)
  pub long : length requests ≡ length requests₀

pub requests_end : {code : ℕ} {numbers rest requests₀ requests : List ℕ} {at place : ℕ} → Requesting code numbers rest requests₀ requests at place → length rest < 2
    → requests ≡ sets requests₀ at (pair_requests code numbers)
requests_end {code} {rest = rest} {requests = requests} {place = place} w h = ap (sets requests place) (sym (pair_none code rest (omega arith))) ∙ w.same

-- a turn of the loop over the pairs
module _ {code : ℕ} {numbers rest requests₀ requests : List ℕ} {at count : ℕ} (w : Requesting code numbers rest requests₀ requests at (at + 20 * count)) where
  pub request_turn : (pair next : List ℕ) → rest ≡ pair ++ next → length pair ≡ 2 → {i count' : ℕ} → i ≡ count → count' ≡ count + 1
      → {requests' : List ℕ} → requests' ≡ sets requests (at + 20 * i) (pair_request code (get_or pair 0 0) (get_or pair 1 0)) → Requesting code numbers next requests₀ requests' at (at + 20 * count')
  request_turn pair next e n {i} {count'} h t {requests'} laid =
      let u = pair_request code (get_or pair 0 0) (get_or pair 1 0) in
      let g : requests' ≡ sets requests (at + 20 * count) u = rw h at laid in
      let a = w.counted in
      let b = ap length (pair_on code rest pair next e n) ∙ length-append u (pair_requests code next) in
      let l : length u ≡ 20 = bytes_long (code ∷ get_or pair 0 0 ∷ get_or pair 1 0 ∷ 0 ∷ 0 ∷ []) in
      let s : at + 20 * count + length u ≡ at + 20 * count' = omega arith in
      record {
        counted = omega arith;
        same =
            (λ j. sets (g j) (sym s j) (pair_requests code next))
            ∙ (sets_append requests (at + 20 * count) u (pair_requests code next) ∙ (ap (sets requests (at + 20 * count)) (sym (pair_on code rest pair next e n)) ∙ w.same));
        long = ap length g ∙ (length-sets requests (at + 20 * count) u ∙ w.long);
      }

-- so many they are
pub requests_counted : (code : ℕ) (numbers : List ℕ) → length (pair_requests code numbers) ≡ 20 * (length numbers / 2)
unfolding pair_requests
requests_counted code [] = refl
requests_counted code (a ∷ []) = refl
requests_counted code (a ∷ b ∷ l) =
    let c = requests_counted code l in
    let d = length-append (pair_request code a b) (pair_requests code l) in
    let e = bytes_long (code ∷ a ∷ b ∷ 0 ∷ 0 ∷ []) in
    omega arith

-- the numbers of a build fit so many
abbrev pub build_most : ℕ
build_most = 2 * node_slots + port_slots

abbrev pub no_numbers : List ℕ
no_numbers = replicate build_most 0

-- what a listing says of the load
refused_as : {r : LoadError} (s : Shape) (a : Result (Unit {0}) LoadError) → Err r ≡ result_and a (Ok s) → a ≡ Err r
refused_as s (Ok _) e = absurd (true_not_false refl (ap is_ok (sym e)))
refused_as s (Err x) e = ap (λ (v : Result Shape LoadError). result_and v (Ok tt)) (sym e)

listed_as : {l s : Shape} (a : Result (Unit {0}) LoadError) → Ok l ≡ result_and a (Ok s) → (a ≡ Ok tt) × (l ≡ s)
listed_as {l} (Ok _) e = (refl, ap (λ (v : Result Shape LoadError). result_unwrap_or v l) e)
listed_as (Err x) e = absurd (true_not_false refl (ap is_ok e))

pub records_refused : (file requests : List ℕ) {r : LoadError} → Err r ≡ list_build One file → {told : ℕ} → told ≡ refused_with (get_or (load_numbers (Err r)) 0 0) →
    (told ≡ records_return file requests) × (requests ≡ records_written file requests)
unfolding records_return records_written list_build
records_refused file requests isListed f = let e = refused_as _ (load_answer One file) isListed in rw e (f, refl)

module _ (file : List ℕ) {listed : Shape} (isListed : Ok listed ≡ list_build One file) where
  abbrev adds : List ℕ
  adds = flat_map add_pair (unbytes file).blocks

  abbrev links : List ℕ
  links = flat_map (link_pair (unbytes file).blocks) (unbytes file).wires

  pub loaded : load_answer One file ≡ Ok tt
  unfolding list_build
  loaded = (listed_as (load_answer One file) isListed).0

  said : listed ≡ record { blocks = length (unbytes file).blocks; wires = length (unbytes file).wires }
  unfolding list_build
  said = (listed_as (load_answer One file) isListed).1

  blocks_many : listed.blocks ≡ length (unbytes file).blocks
  blocks_many = ap (λ (r : Shape). r.blocks) said

  wires_many : listed.wires ≡ length (unbytes file).wires
  wires_many = ap (λ (r : Shape). r.wires) said

  pub adds_few : listed.blocks ≤ node_slots
  adds_few = let h = loaded_few One file loaded in let a = blocks_many in omega (arith, h.0)

  pub links_few : 2 * listed.wires ≤ port_slots
  links_few = let h = loaded_few One file loaded in let a = wires_many in omega (arith, h.1)

  adds_long : length adds ≡ 2 * listed.blocks
  adds_long = let a = flat_map_length add_pair 2 (λ b. refl) (unbytes file).blocks in let b = blocks_many in omega arith

  links_long : length links ≡ 2 * listed.wires
  links_long = let a = flat_map_length (link_pair (unbytes file).blocks) 2 (λ w. refl) (unbytes file).wires in let b = wires_many in omega arith

  first_long : length (pair_requests 1 adds) ≡ 20 * listed.blocks
  first_long = let a = requests_many 1 add_pair (λ b. refl) (unbytes file).blocks in let b = blocks_many in omega arith

  second_long : length (pair_requests 4 links) ≡ 20 * listed.wires
  second_long = let a = requests_many 4 (link_pair (unbytes file).blocks) (λ w. refl) (unbytes file).wires in let b = wires_many in omega arith

  pub whole_long : length (file_requests file) ≡ 20 * (listed.blocks + listed.wires)
  whole_long =
      let a = ap length (build_split (unbytes file)) ∙ length-append (pair_requests 1 adds) (pair_requests 4 links) in
      let b = first_long in
      let c = second_long in
      omega arith

  module _ {numbers : List ℕ} (areNumbers : numbers ≡ build_after One file no_numbers) where
    -- the two slices
    abbrev first : List ℕ
    first = take (2 * listed.blocks) numbers

    abbrev second : List ℕ
    second = take (2 * (listed.blocks + listed.wires) - 2 * listed.blocks) (drop (2 * listed.blocks) numbers)

    numbers_are : numbers ≡ adds ++ (links ++ drop (length (adds ++ links)) no_numbers)
    unfolding build_after list_after build_numbers
    numbers_are =
        let a = adds_long in
        let b = links_long in
        let c = length-append adds links in
        let d = length-replicate {A = ℕ} build_most 0 in
        let x = adds_few in
        let y = links_few in
        areNumbers ∙ rw (loaded, le-leb (length (adds ++ links)) (length no_numbers) (omega arith)) (append_assoc adds links (drop (length (adds ++ links)) no_numbers))

    adds_are : first ≡ adds
    adds_are = ap (take (2 * listed.blocks)) numbers_are ∙ take_at adds _ (2 * listed.blocks) adds_long

    links_are : second ≡ links
    links_are =
        let n : 2 * (listed.blocks + listed.wires) - 2 * listed.blocks ≡ 2 * listed.wires = omega arith in
        rw n
        (ap (λ (l : List ℕ). take (2 * listed.wires) (drop (2 * listed.blocks) l)) numbers_are
        ∙ (ap (take (2 * listed.wires)) (drop_at adds _ (2 * listed.blocks) adds_long) ∙ take_at links _ (2 * listed.wires) links_long))

    pub first_many : 2 * listed.blocks ≡ length first
    first_many = sym (ap length adds_are ∙ adds_long)

    module _ (requests : List ℕ) (enough : 20 * (listed.blocks + listed.wires) ≤ length requests) where
      pub first_room : 0 + length (pair_requests 1 first) ≤ length requests
      first_room = let a = ap (λ (l : List ℕ). length (pair_requests 1 l)) adds_are in let b = first_long in omega arith

      module _ {requests₁ : List ℕ} {next : ℕ} (isNext : next ≡ 0 + length (pair_requests 1 first)) (laid₁ : requests₁ ≡ sets requests 0 (pair_requests 1 first)) where
        pub second_room : next + length (pair_requests 4 second) ≤ length requests₁
        second_room =
            let h = ap length laid₁ ∙ length-sets requests 0 (pair_requests 1 first) in
            let a = ap (λ (l : List ℕ). length (pair_requests 1 l)) adds_are in
            let b = ap (λ (l : List ℕ). length (pair_requests 4 l)) links_are in
            let c = first_long in
            let d = second_long in
            omega arith

        pub records_done : {requests₂ : List ℕ} → requests₂ ≡ sets requests₁ next (pair_requests 4 second) →
            (20 * (listed.blocks + listed.wires) ≡ records_return file requests) × (requests₂ ≡ records_written file requests)
        unfolding records_return records_written list_after
        records_done {requests₂} laid₂ =
            let n = whole_long in
            let t = le-leb (length (file_requests file)) (length requests) (omega arith) in
            let e = build_split (unbytes file) in
            let y : 0 + length (file_requests file) ≡ length (file_requests file) = omega arith in
            let s : requests₂ ≡ sets requests 0 (file_requests file) =
            laid₂ ∙ ((λ j. sets (laid₁ j) (isNext j) (pair_requests 4 (links_are j)))
            ∙ (sets_append requests 0 (pair_requests 1 first) (pair_requests 4 links)
            ∙ ((λ j. sets requests 0 (pair_requests 1 (adds_are j) ++ pair_requests 4 links)) ∙ ap (sets requests 0) (sym e)))) in
            (rw (loaded, t) (sym n), rw (loaded, t) (s ∙ (sets-eq (file_requests file) requests 0 (omega arith) ∙ ap (λ (k : ℕ). file_requests file ++ drop k requests) y)))
