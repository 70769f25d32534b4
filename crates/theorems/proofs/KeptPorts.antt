-- A port that an accepted resize keeps is split afterwards exactly if it was, with as many subports.
use Rattle.std.proofs.lemmas.Bool.{cases_eq}
use Rattle.std.specs.Prelude.{◌≡◌, refl, Bool, true, false, cond, List, ℕ, ◌<◌, Ok}
use Rattle.std.proofs.Common.{sym, ◌∙◌, ap, subst, ⊎_elim, arith}
use Rattle.portgraph.specs.Lookups.{num_ports}
use Rattle.port_tables.specs.Entries.{new_count, ports_on}
use Rattle.portgraph.specs.Model as model
use Rattle.portgraph.specs.Model.{Model, Slots, Valid, slot_of, count_of}
use Rattle.port_tables.specs.declared.direction.Direction.{Direction}
use Rattle.port_tables.specs.declared.release.Release.{Release}
use Rattle.multiportgraph.specs.Reading.{is_split}
use Rattle.multiportgraph.specs.WellFormed.{inner#, Fine, Seen}
use Rattle.multiportgraph.specs.Ends.{port_of_lem, count_of_lem}
use Rattle.multiportgraph.specs.RecountLaws.{count_new}
use Rattle.multiportgraph.specs.SetLaws.{SetDone, set_counts_law}
use Rattle.multiportgraph.specs.declared.multiportgraph.MultiPortGraph.{MultiPortGraph}
use Rattle.theorems.specs.Book as book
use Rattle.theorems.specs.Book.{Call}
use Rattle.theorems.specs.History.{run, step}
use Rattle.theorems.proofs.WireRule.{seen_live}
use Rattle.theorems.proofs.CallLaws.{rel_run}
use Rattle.theorems.specs.ListingClaims.{InBook}
use Rattle.theorems.specs.MoveClaims.{SplitAsBefore}
use Rattle.theorems.proofs.ListingWires.{block_booked}

module _ {m : MultiPortGraph} {M : Model} (f : Fine m M) {m' : MultiPortGraph} {n i o : ℕ} (s : SetDone m M m' n i o) where
  -- a port that is not dropped is still there
  still_there : (x : model.InnerPlace) → Seen m M x → (x.node ≡ n → x.pos < new_count i o x.side) → Valid s.model'.node x
  still_there x v h =
      ⊎_elim
      (λ e.
      let p : count_of (s.model'.node x.node) x.side ≡ ports_on s.new x.side = ap (λ (t : Slots). count_of t x.side) (ap s.model'.node e ∙ s.is.1) in
      let q = count_new s.new i o x.side s.ins s.outs in
      let l = h e in
      omega arith)
      (λ e.
      let k = seen_live f x v in
      subst (λ (t : Slots). x.pos < count_of t x.side) (k.1.1 ∙ sym (s.others x.node k.0 e k.1).1) v.0)
      (cases_eq x.node n)

  stays_split : (x : model.InnerPlace) → Seen m M x → (x.node ≡ n → x.pos < new_count i o x.side) → SplitAsBefore m m' x.node x.side x.pos
  stays_split x v h =
      let a = port_of_lem f x.node x.side x.pos v.0 in
      let b = port_of_lem s.fine x.node x.side x.pos (still_there x v h) in
      let t = s.splits x v h in
      rw (a, b) (t.0, same_fan (is_split m (slot_of M.node x)) (is_split m' (slot_of s.model'.node x)) t.0 t.1)
    where
      same_fan : {y z : ℕ} (b c : Bool) → c ≡ b → (b ≡ true → z ≡ y) → cond c z 1 ≡ cond b y 1
      same_fan true c e q = rw e (q refl)
      same_fan false c e q = rw e refl

-- After a history, a resize of block n to i incoming and o outgoing ports is accepted: every port of block n whose position lies below
-- the old and the new count of its side, and every port of another block, is split afterwards exactly if it was, with as many subports.
pub kept_ports_stay_split : (release : Release) (calls : List Call) (n i o room e : ℕ) → (step (run release calls).graph (book.set_call n i o room)).answer ≡ Ok e →
    (k : ℕ) → InBook (run release calls).book k → (d : Direction) (j : ℕ) → j < num_ports (run release calls).graph.graph k d → (k ≡ n → j < new_count i o d) →
    SplitAsBefore (run release calls).graph (step (run release calls).graph (book.set_call n i o room)).graph k d j
kept_ports_stay_split release calls n i o room e a k b d j l h =
    let r = (rel_run release calls).1 in
    let c = block_booked r k b in
    let q = count_of_lem r.fine k d in
    stays_split r.fine (set_counts_law r.fine n i o room e a) (inner# k d j) (omega arith, c.1.0) h
