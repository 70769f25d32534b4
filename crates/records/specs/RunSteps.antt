-- What the run's functions cite: the turn of a loop over the requests, and refusal 1.
use Rattle.std.specs.Prelude.{◌≡◌, refl, List, [], ◌∷◌, ◌++◌, ℕ, zero, suc, ◌+◌, ◌*◌, ◌/◌, ◌%◌, ◌≤◌, ◌<◌, length}
use Rattle.std.proofs.Common.{sym, ap, ◌∙◌, append-nil, length-append, arith}
use Rattle.std.proofs.Math.ListN.{get_or-append}
use Rattle.std.proofs.lemmas.List.{get_or-append-add}
use Rattle.std.proofs.lemmas.List.Edits.{sets, sets-eq}
use Rattle.std.proofs.Math.Seq.{length-sets, drop-length}
use Rattle.multiportgraph.specs.WellFormed.{MultiWf}
use Rattle.theorems.proofs.CallLaws.{empty_kept}
use Rattle.multiportgraph.specs.declared.multiportgraph.MultiPortGraph.{MultiPortGraph}
use Rattle.records.specs.Words.{word_at, bytes_of, Request, request_at, requests_from, requests_of}
use Rattle.records.specs.Run.{Asked, asked, after, numbers, five, Answered, answers_from, graph_from, answer_bytes, first_graph}
use Rattle.records.specs.WordLaws.{bytes_append, bytes_long, requests_many}
use Rattle.port_tables.specs.ResizeLinkSteps.{sets_append}
use Rattle.port_tables.specs.declared.release.Release.TheVariants.{One}

-- Requests in bytes, one after the other.

word_first : (a b : List ℕ) (i : ℕ) → i + 4 ≤ length a → word_at (a ++ b) i ≡ word_at a i
unfolding word_at
word_first a b i h =
    rw (get_or-append a b 0 i (omega arith), get_or-append a b 0 (i + 1) (omega arith), get_or-append a b 0 (i + 2) (omega arith), get_or-append a b 0 (i + 3) (omega arith)) refl

word_later : (a b : List ℕ) (n i : ℕ) → length a ≡ n → word_at (a ++ b) (n + i) ≡ word_at b i
unfolding word_at
word_later a b n i h =
    let e₁ : n + i + 1 ≡ n + (i + 1) = omega arith in
    let e₂ : n + i + 2 ≡ n + (i + 2) = omega arith in
    let e₃ : n + i + 3 ≡ n + (i + 3) = omega arith in
    rw (e₁, e₂, e₃, ← h, get_or-append-add a b i 0, get_or-append-add a b (i + 1) 0, get_or-append-add a b (i + 2) 0, get_or-append-add a b (i + 3) 0) refl

request_first : (a b : List ℕ) → 20 ≤ length a → request_at (a ++ b) 0 ≡ request_at a 0
unfolding request_at
request_first a b h =
    λ j. record {
      code = word_first a b 0 (omega arith) j;
      a = word_first a b (0 + 4) (omega arith) j;
      b = word_first a b (0 + 8) (omega arith) j;
      c = word_first a b (0 + 12) (omega arith) j;
      d = word_first a b (0 + 16) (omega arith) j;
    }

requests_later : (a b : List ℕ) (i n : ℕ) → length a ≡ 20 → requests_from (a ++ b) (20 + i) n ≡ requests_from b i n
unfolding requests_from request_at
requests_later a b i zero h = refl
requests_later a b i (suc n) h =
    let w = λ (k : ℕ). let e : 20 + i + k ≡ 20 + (i + k) = omega arith in ap (word_at (a ++ b)) e ∙ word_later a b 20 (i + k) h in
    let e : 20 + i + 20 ≡ 20 + (i + 20) = omega arith in
    λ j. record { code = word_later a b 20 i h j; a = w 4 j; b = w 8 j; c = w 12 j; d = w 16 j } ∷ (ap (λ (p : ℕ). requests_from (a ++ b) p n) e ∙ requests_later a b (i + 20) n h) j

pub requests_on : (rest request next : List ℕ) → rest ≡ request ++ next → length request ≡ 20 → requests_of rest ≡ request_at request 0 ∷ requests_of next
unfolding requests_of requests_from
requests_on rest request next e n =
    let l = ap length e ∙ length-append request next in
    let k : length rest / 20 ≡ suc (length next / 20) = omega arith in
    (λ j. requests_from (e j) 0 (k j)) ∙ (λ j. request_first request next (omega arith) j ∷ requests_later request next 0 (length next / 20) n j)

requests_none : (rest : List ℕ) → length rest < 20 → requests_of rest ≡ []
unfolding requests_of requests_from
requests_none rest h = let k : length rest / 20 ≡ 0 = omega arith in ap (requests_from rest 0) k

-- The loop: what is laid with the rest of the run is the whole.

pub record Running (requests rest answers : List ℕ) (graph : MultiPortGraph) (at : ℕ) : Type 0 where
  pub counted : at + length rest ≡ length requests
  pub whole : length rest % 20 ≡ 0
  pub long : length answers ≡ length requests
  pub same : sets answers at (bytes_of (answers_from graph (requests_of rest))) ≡ answer_bytes requests
  pub kept : MultiWf graph

answers_long : (m : MultiPortGraph) (l : List Request) → length (answers_from m l) ≡ 5 * length l
unfolding answers_from
answers_long m [] = refl
answers_long m (q ∷ l) = let h = answers_long (after m (asked q)) l in omega arith

-- the answers fill a buffer of the requests' length
whole_long : (requests : List ℕ) → length requests % 20 ≡ 0 → length (answer_bytes requests) ≡ length requests
unfolding requests_of
whole_long requests h =
    let a = bytes_long (answers_from first_graph (requests_of requests)) in
    let b = answers_long first_graph (requests_of requests) in
    let c = requests_many requests 0 (length requests / 20) in
    omega arith

-- values that fill a list are the list
sets_all : (l v : List ℕ) → length v ≡ length l → sets l 0 v ≡ v
sets_all l v h =
    let e : 0 + length v ≡ length l = omega arith in
    sets-eq v l 0 (omega arith) ∙ rw (e, drop-length l) (append-nil v)

pub run_starts : {requests rest answers : List ℕ} {m : MultiPortGraph} {n : ℕ} → m ≡ first_graph → length answers ≡ length requests → length requests % 20 ≡ 0 → rest ≡ requests → n ≡ 0
    → Running requests rest answers m (20 * n)
run_starts {requests} {rest} {answers} e long whole l z =
    rw (l, z, e)
    (record {
      counted = omega arith;
      whole = whole;
      long = long;
      same = sets_all answers (answer_bytes requests) (whole_long requests whole ∙ sym long);
      kept = empty_kept One;
    })

module _ {requests rest answers : List ℕ} {m : MultiPortGraph} {at : ℕ} (r : Running requests rest answers m at) where
  pub run_ends : length rest < 20 → answers ≡ answer_bytes requests
  unfolding answers_from bytes_of
  run_ends h = ap (λ (l : List Request). sets answers at (bytes_of (answers_from m l))) (sym (requests_none rest h)) ∙ r.same

module _ {requests rest answers : List ℕ} {m : MultiPortGraph} {count : ℕ} (r : Running requests rest answers m (20 * count)) (request next : List ℕ) (e : rest ≡ request ++ next) (n : length request ≡ 20) where
  -- one turn: the first request that is left is answered, its words are laid, and the next turn has the graph that it leaves
  pub run_turns : {answers' : List ℕ} {m' : MultiPortGraph} {here there : ℕ} {x : Asked} {words : List ℕ} → here ≡ count → there ≡ count + 1 → x ≡ asked (request_at request 0) → Answered m x words m'
      → answers' ≡ sets answers (20 * here) (bytes_of words) → Running requests next answers' m' (20 * there)
  unfolding answers_from
  run_turns {answers'} {m'} {here} {there} {x} {words} h s q d laid_here =
      let at = 20 * count in
      let a : answers' ≡ sets answers at (bytes_of words) = rw h at laid_here in
      let l = ap length e ∙ length-append request next in
      let later = answers_from (after m x) (requests_of next) in
      let whole : answers_from m (requests_of rest) ≡ words ++ later = rw (requests_on rest request next e n, d.told, q) refl in
      let size : length (bytes_of words) ≡ 20 = rw d.told (bytes_long (five (numbers m x))) in
      let place : 20 * there ≡ 20 * count + length (bytes_of words) = omega arith in
      record {
        counted = let c = r.counted in omega arith;
        whole = let w = r.whole in omega arith;
        long = rw a (length-sets answers at (bytes_of words)) ∙ r.long;
        same =
            rw (place, d.graph, a)
            (sets_append answers at (bytes_of words) (bytes_of later)
            ∙ ap (sets answers at) (sym (bytes_append words later))
            ∙ ap (λ v. sets answers at (bytes_of v)) (sym whole))
            ∙ r.same;
        kept = d.kept;
      }

-- The same loop on any graph, where no answer is laid: the graph that the rest leaves is that of the whole list.
pub record Going (requests rest : List ℕ) (start graph : MultiPortGraph) : Type 0 where
  pub same : graph_from graph (requests_of rest) ≡ graph_from start (requests_of requests)
  pub kept : MultiWf graph

module _ {requests rest : List ℕ} {start m : MultiPortGraph} (r : Going requests rest start m) where
  pub going_turns : (request next : List ℕ) → rest ≡ request ++ next → length request ≡ 20 → {m' : MultiPortGraph} {x : Asked} {words : List ℕ} → x ≡ asked (request_at request 0)
      → Answered m x words m' → Going requests next start m'
  unfolding graph_from
  going_turns request next e n q d =
      record {
        same = rw d.graph (sym (rw (requests_on rest request next e n, q) refl)) ∙ r.same;
        kept = d.kept;
      }

  pub going_ends : length rest < 20 → m ≡ graph_from start (requests_of requests)
  unfolding graph_from
  going_ends h = ap (graph_from m) (sym (requests_none rest h)) ∙ r.same
