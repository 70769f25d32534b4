-- Every walk of 01 gives its listing whole, in order, and then the end; from any cursor it gives what the cursor leaves of the
-- listing. Walks with two ends do so from the back too, and by turns in any order no item comes twice.
use Rattle.portgraph.specs.Joins.{either_way}
use Rattle.std.specs.Prelude.{◌≡◌, refl, Bool, true, false, cond, eqb, leb, ltb, Option, Some, None, Result, Ok, Err}
use Rattle.std.proofs.Common.{sym, ◌∙◌, arith, lt-ltb, le-ltb, le-leb, ne_eqb, ltb-true, leb-true, eqb-true}
use Rattle.std.proofs.Math.Path.{ap}
use mathlib.Core.List.{List, [], ◌∷◌, map, map-id}
use Prim.Native.Nat.{ℕ, suc, ◌≤◌, ◌<◌}
use Rattle.std.proofs.Math.ListN.{length}
use Rattle.std.proofs.lemmas.Bool.{lt-leb, eqb-false}
use Rattle.port_tables.specs.Limits.{port_slots, node_slots}
use Rattle.port_tables.specs.Lists.{range, on_first, on_last, Member, Rising}
use Rattle.std.specs.List.{filter}
use Rattle.port_tables.specs.Entries.{node#, port#}
use Rattle.portgraph.specs.GoodSlots.{zero_is_not_one}
use Rattle.portgraph.specs.WalkLaws.{one_less}
use Rattle.port_tables.specs.declared.index.PortIndex.{PortIndex}
use Rattle.port_tables.specs.declared.direction.Direction.{Direction}
use Rattle.multiportgraph.specs.Reading.{is_split, seen, subports}
use Rattle.multi_tables.specs.Forms.{Port, dead, hidden, visible, subport#}
use Rattle.multiportgraph.specs.Wires.{is_block, blocks, subports_of_port, wire_of}
use Rattle.multiportgraph.specs.Walks.{Start, started, refused, is_seen, held_seen, between, node_held, blocks_left, step_nodes, step_nodes_back, all_ports, ports_left, step_all_ports, step_all_ports_back, port_links_seen, port_links, links_left, step_front, step_back, start_at_port, port_links_from, start_port_links}
use Rattle.port_tables.specs.Listing.{Apart, member_filter, filter_all, rising_filter, rising_flat_map, rising_map, range_rises, rising_apart}
use Rattle.multiportgraph.specs.ScanLaws.{first_map, last_map, wire_stands}
use Rattle.theorems.specs.Cursors.{Turns, turns, Stepped, item, end, walk, From, walk_ends, take_ends, backwards, Listed, Fronts, Backs, walk_front, walk_back, walk_ends_lem, walk_nothing, ends_nothing}
use Rattle.multiportgraph.specs.declared.multiportgraph.MultiPortGraph.{MultiPortGraph}
use Rattle.multi_tables.specs.declared.answers.SubportIndex.{SubportIndex}
use Rattle.multi_tables.specs.declared.answers.SubportLink.{SubportLink}
use Rattle.multiportgraph.specs.declared.iter.Nodes.{Nodes}
use Rattle.multiportgraph.specs.declared.iter.Ports.{Ports}
use Rattle.multiportgraph.specs.declared.iter.PortLinks.{PortLinks}
use Rattle.port_tables.specs.declared.index.NodeIndex.{NodeIndex}
use Rattle.multi_tables.specs.declared.answers.Refusal.{Refusal}
use Rattle.multiportgraph.specs.WalkRule.{blocks_rise, wire_rises}
use Rattle.portgraph.specs.Walks.{whole}

-- The steps, in one form.

abbrev nodes_given : Option (NodeIndex × Nodes) → Stepped ℕ Nodes
nodes_given (Some (n, c)) = item n.0 c
nodes_given None = end

abbrev ports_given : Option (PortIndex × Ports) → Stepped ℕ Ports
ports_given (Some (p, c)) = item p.0 c
ports_given None = end

abbrev port_links_given : Option (SubportLink × PortLinks) → Stepped SubportLink PortLinks
port_links_given (Some (w, c)) = item w c
port_links_given None = end

abbrev pub by_nodes : MultiPortGraph → Nodes → Stepped ℕ Nodes
by_nodes m c = nodes_given (step_nodes m c)

abbrev pub by_nodes_back : MultiPortGraph → Nodes → Stepped ℕ Nodes
by_nodes_back m c = nodes_given (step_nodes_back m c)

abbrev pub by_all_ports : MultiPortGraph → Ports → Stepped ℕ Ports
by_all_ports m c = ports_given (step_all_ports m c)

abbrev pub by_all_ports_back : MultiPortGraph → Ports → Stepped ℕ Ports
by_all_ports_back m c = ports_given (step_all_ports_back m c)

abbrev pub by_front : MultiPortGraph → PortLinks → Stepped SubportLink PortLinks
by_front m c = port_links_given (step_front m c)

abbrev pub by_back : MultiPortGraph → PortLinks → Stepped SubportLink PortLinks
by_back m c = port_links_given (step_back m c)

-- Between what was given from the front and from the back.

between_true : (f b x : ℕ) → between f b x ≡ true → (f ≤ x) × ((b ≡ 0 → ⊥) → suc x < b)
unfolding between
between_true f b x = go (leb f x) refl (eqb b 0) refl
  where
    go : (t : Bool) → leb f x ≡ t → (u : Bool) → eqb b 0 ≡ u → cond t (cond u true (ltb (suc x) b)) false ≡ true → (f ≤ x) × ((b ≡ 0 → ⊥) → suc x < b)
    go true e true d h = (leb-true f x e, λ z. absurd (z (eqb-true b 0 d)))
    go true e false d h = (leb-true f x e, λ z. ltb-true (suc x) b h)
    go false e u d h = absurd (zero_is_not_one (cc))

true_between : (f b x : ℕ) → f ≤ x → ((b ≡ 0 → ⊥) → suc x < b) → between f b x ≡ true
unfolding between
true_between f b x l h = rw (le-leb f x l) (go (eqb b 0) refl)
  where
    go : (u : Bool) → eqb b 0 ≡ u → cond u true (ltb (suc x) b) ≡ true
    go true d = refl
    go false d = lt-ltb (suc x) b (h (eqb-false b 0 d))

below_front : (f b x : ℕ) → x < f → between f b x ≡ false
unfolding between
below_front f b x l = rw (lt-leb f x l)

above_back : (f b x : ℕ) → b ≤ suc x → 0 < b → between f b x ≡ false
unfolding between
above_back f b x l h = rw (ne_eqb b 0 (λ e. omega arith), le-ltb (suc x) b l) (either_way (leb f x) false)

-- A walk with two ends over a list that ascends by a number, while what either end holds is still there.

abbrev left_between : {A : Type 0} → (A → ℕ) → List A → (ℕ → Bool) → ℕ → ℕ → List A
left_between key l held f b = cond (held f) (cond (held b) (filter (λ x. between f b (key x)) l) []) []

record TwoEnded {A C : Type 0} (key : A → ℕ) (l : List A) (held : ℕ → Bool) (cursor : ℕ → ℕ → C) (step step_back : C → Stepped A C) : Type 0 where
  pub rises : Rising (λ x y. key x < key y) l
  pub stays : (x : A) → Member x l → held (suc (key x)) ≡ true
  pub is : (f b : ℕ) → step (cursor f b) ≡ on_first end (λ x. item x (cursor (suc (key x)) b)) (left_between key l held f b)
  pub is_back : (f b : ℕ) → step_back (cursor f b) ≡ on_last end (λ x. item x (cursor f (suc (key x)))) (left_between key l held f b)

module _ {A C : Type 0} {key : A → ℕ} {l : List A} {held : ℕ → Bool} {cursor : ℕ → ℕ → C} {step step_back : C → Stepped A C} (w : TwoEnded key l held cursor step step_back) where
  abbrev by_number : Listed A A (ℕ × ℕ) C
  by_number =
      record {
        listing = l;
        before = λ x y. key x < key y;
        rises = w.rises;
        out = λ x. x;
        cursor = λ k. cursor k.0 k.1;
        left = λ k x. between k.0 k.1 (key x);
        there = λ k. (held k.0 ≡ true) × (held k.1 ≡ true);
      }

  left_there : (f b : ℕ) → held f ≡ true → held b ≡ true → left_between key l held f b ≡ filter (λ x. between f b (key x)) l
  left_there f b t u = rw (t, u)

  fronts : Fronts by_number step
  fronts =
      record {
        next = λ k x. (suc (key x), k.1);
        is = λ k t. w.is k.0 k.1 ∙ ap (on_first end (λ x. item x (cursor (suc (key x)) k.1))) (left_there k.0 k.1 t.0 t.1);
        stays = λ k x t i. (w.stays x i, t.1);
        itself = λ k x. below_front (suc (key x)) k.1 (key x) (omega arith);
        later = λ k x y h q. true_between (suc (key x)) k.1 (key y) (omega arith) (between_true k.0 k.1 (key y) h).1;
        fewer = λ k x y h q.
            let a = between_true k.0 k.1 (key x) h in
            let c = between_true (suc (key x)) k.1 (key y) q in
            true_between k.0 k.1 (key y) (omega arith) c.1;
      }

  backs : Backs by_number step_back
  backs =
      record {
        next = λ k x. (k.0, suc (key x));
        is = λ k t. w.is_back k.0 k.1 ∙ ap (on_last end (λ x. item x (cursor k.0 (suc (key x))))) (left_there k.0 k.1 t.0 t.1);
        stays = λ k x t i. (t.0, w.stays x i);
        itself = λ k x. above_back k.0 (suc (key x)) (key x) (omega arith) (omega arith);
        earlier = λ k x y h q. true_between k.0 (suc (key x)) (key y) (between_true k.0 k.1 (key y) h).0 (λ z. omega arith);
        fewer = λ k x y h q.
            let a = between_true k.0 k.1 (key x) h in
            let c = between_true k.0 (suc (key x)) (key y) q in
            let s = c.1 (λ z. omega arith) in
            true_between k.0 k.1 (key y) c.0 (λ z. let u = a.1 z in omega arith);
      }

  -- by cases: both ends are still there, or nothing is left
  by_held : (f b : ℕ) (P : List A → Type 0) → (held f ≡ true → held b ≡ true → P (filter (λ x. between f b (key x)) l)) → (left_between key l held f b ≡ [] → P []) → P (left_between key l held f b)
  by_held f b P h e = go (held f) refl (held b) refl
    where
      go : (t : Bool) → held f ≡ t → (u : Bool) → held b ≡ u → P (cond t (cond u (filter (λ x. between f b (key x)) l) []) [])
      go true p true q = h p q
      go true p false q = e (rw (p, q))
      go false p u q = e (rw p)

  step_ends : (f b : ℕ) → left_between key l held f b ≡ [] → step (cursor f b) ≡ end
  unfolding on_first
  step_ends f b e = w.is f b ∙ ap (on_first end (λ x. item x (cursor (suc (key x)) b))) e

  step_back_ends : (f b : ℕ) → left_between key l held f b ≡ [] → step_back (cursor f b) ≡ end
  unfolding on_last
  step_back_ends f b e = w.is_back f b ∙ ap (on_last end (λ x. item x (cursor f (suc (key x))))) e

  two_front : (fuel f b : ℕ) → length (left_between key l held f b) < fuel → walk step fuel (cursor f b) ≡ whole (left_between key l held f b)
  two_front fuel f b =
      by_held f b (λ v. length v < fuel → walk step fuel (cursor f b) ≡ whole v)
      (λ p q h. walk_front by_number fronts fuel (f, b) (p, q) h ∙ ap whole (map-id (filter (λ x. between f b (key x)) l)))
      (λ e h. walk_nothing step fuel (cursor f b) h (step_ends f b e))

  two_back : (fuel f b : ℕ) → length (left_between key l held f b) < fuel → walk step_back fuel (cursor f b) ≡ whole (backwards (left_between key l held f b))
  unfolding backwards
  two_back fuel f b =
      by_held f b (λ v. length v < fuel → walk step_back fuel (cursor f b) ≡ whole (backwards v))
      (λ p q h. walk_back by_number backs fuel (f, b) (p, q) h ∙ ap (λ (v : List A). whole (backwards v)) (map-id (filter (λ x. between f b (key x)) l)))
      (λ e h. walk_nothing step_back fuel (cursor f b) h (step_back_ends f b e))

  two_ends : (choices : List From) (f b : ℕ) → walk_ends step step_back choices (cursor f b) ≡ take_ends choices (left_between key l held f b)
  two_ends choices f b =
      by_held f b (λ v. walk_ends step step_back choices (cursor f b) ≡ take_ends choices v)
      (λ p q. walk_ends_lem by_number fronts backs choices (f, b) (p, q) ∙ ap (take_ends choices) (map-id (filter (λ x. between f b (key x)) l)))
      (λ e. ends_nothing step step_back choices (cursor f b) (step_ends f b e) (step_back_ends f b e))

-- nothing given yet leaves everything
between_all : {A : Type 0} (key : A → ℕ) (l : List A) → filter (λ x. between 0 0 (key x)) l ≡ l
between_all key l = filter_all (λ x. between 0 0 (key x)) l (λ x i. true_between 0 0 (key x) (omega arith) (λ z. absurd (z refl)))

-- The blocks of any graph.

abbrev pub nodes_at : ℕ → ℕ → Nodes
nodes_at f b = record { front = f; back = b }

abbrev pub start_nodes : Nodes
start_nodes = nodes_at 0 0

module _ (m : MultiPortGraph) where
  node_stays : (n : ℕ) → Member n (blocks m) → node_held m (suc n) ≡ true
  unfolding node_held blocks
  node_stays n i = rw (ne_eqb (suc n) 0 (λ e. omega arith), one_less n) (member_filter (is_block m) n (range 0 node_slots) i).1

  nodes_walk : TwoEnded (λ n. n) (blocks m) (node_held m) nodes_at (by_nodes m) (by_nodes_back m)
  unfolding step_nodes step_nodes_back blocks_left
  nodes_walk =
      record {
        rises = blocks_rise m;
        stays = node_stays;
        is = λ f b. first_map nodes_given None (λ n. Some (node# n, nodes_at (suc n) b)) (blocks_left m (nodes_at f b));
        is_back = λ f b. last_map nodes_given None (λ n. Some (node# n, nodes_at f (suc n))) (blocks_left m (nodes_at f b));
      }

  -- from any cursor: what it leaves, in order, and then the end
  pub nodes_forward : (c : Nodes) (fuel : ℕ) → length (blocks_left m c) < fuel → walk (by_nodes m) fuel c ≡ whole (blocks_left m c)
  unfolding blocks_left
  nodes_forward c fuel h = two_front nodes_walk fuel c.front c.back h

  pub nodes_backward : (c : Nodes) (fuel : ℕ) → length (blocks_left m c) < fuel → walk (by_nodes_back m) fuel c ≡ whole (backwards (blocks_left m c))
  unfolding blocks_left
  nodes_backward c fuel h = two_back nodes_walk fuel c.front c.back h

  -- from both ends, whatever the choices: the first or the last of what is left
  pub nodes_by_turns : (choices : List From) (c : Nodes) → walk_ends (by_nodes m) (by_nodes_back m) choices c ≡ take_ends choices (blocks_left m c)
  unfolding blocks_left
  nodes_by_turns choices c = two_ends nodes_walk choices c.front c.back

  -- the start leaves all of them
  pub nodes_at_start : blocks_left m start_nodes ≡ blocks m
  unfolding blocks_left node_held
  nodes_at_start = between_all (λ n. n) (blocks m)

-- All ports of the blocks of any graph.

abbrev pub ports_at : ℕ → ℕ → Ports
ports_at f b = record { front = f; back = b }

abbrev pub start_ports : Ports
start_ports = ports_at 0 0

pub seen_stays : (m : MultiPortGraph) (p : ℕ) → is_seen (seen m p) ≡ true → held_seen m (suc p) ≡ true
seen_stays m p h = rw (ne_eqb (suc p) 0 (λ e. omega arith), one_less p) h

module _ (m : MultiPortGraph) where
  pub ports_rise : Rising ◌<◌ (all_ports m)
  unfolding all_ports
  ports_rise = rising_filter ◌<◌ (λ p. is_seen (seen m p)) (range 0 port_slots) (range_rises 0 port_slots)

  port_stays : (p : ℕ) → Member p (all_ports m) → held_seen m (suc p) ≡ true
  unfolding all_ports
  port_stays p i = seen_stays m p (member_filter (λ p. is_seen (seen m p)) p (range 0 port_slots) i).1

  ports_walk : TwoEnded (λ p. p) (all_ports m) (held_seen m) ports_at (by_all_ports m) (by_all_ports_back m)
  unfolding step_all_ports step_all_ports_back ports_left
  ports_walk =
      record {
        rises = ports_rise;
        stays = port_stays;
        is = λ f b. first_map ports_given None (λ p. Some (port# p, ports_at (suc p) b)) (ports_left m (ports_at f b));
        is_back = λ f b. last_map ports_given None (λ p. Some (port# p, ports_at f (suc p))) (ports_left m (ports_at f b));
      }

  pub ports_forward : (c : Ports) (fuel : ℕ) → length (ports_left m c) < fuel → walk (by_all_ports m) fuel c ≡ whole (ports_left m c)
  unfolding ports_left
  ports_forward c fuel h = two_front ports_walk fuel c.front c.back h

  pub ports_backward : (c : Ports) (fuel : ℕ) → length (ports_left m c) < fuel → walk (by_all_ports_back m) fuel c ≡ whole (backwards (ports_left m c))
  unfolding ports_left
  ports_backward c fuel h = two_back ports_walk fuel c.front c.back h

  pub ports_by_turns : (choices : List From) (c : Ports) → walk_ends (by_all_ports m) (by_all_ports_back m) choices c ≡ take_ends choices (ports_left m c)
  unfolding ports_left
  ports_by_turns choices c = two_ends ports_walk choices c.front c.back

  pub ports_at_start : ports_left m start_ports ≡ all_ports m
  unfolding ports_left
  ports_at_start = between_all (λ p. p) (all_ports m)

-- The links of a port of any graph.

abbrev pub subport_offset : SubportIndex → ℕ
subport_offset s = s.subport_offset

abbrev pub link_offset : SubportLink → ℕ
link_offset w = w.from.subport_offset

pub subports_of_port_rise : (m : MultiPortGraph) (d : Direction) (p : ℕ) → Rising (λ s t. subport_offset s < subport_offset t) (subports_of_port m d p)
unfolding subports_of_port
subports_of_port_rise m d p = go (is_split m p)
  where
    go : (b : Bool) → Rising (λ s t. subport_offset s < subport_offset t) (cond b (map (subport# p) (range 0 (subports m p d))) (subport# p 0 ∷ []))
    go true =
        rising_map ◌<◌ (λ s t. subport_offset s < subport_offset t) (subport# p) (range 0 (subports m p d)) (range_rises 0 (subports m p d)) (λ a c i j l. l)
    go false = ((λ y i. absurd i), tt)

pub port_links_rise : (m : MultiPortGraph) (p : ℕ) → Rising (λ v w. link_offset v < link_offset w) (port_links m p)
unfolding port_links
port_links_rise m p = go (seen m p)
  where
    go : (v : Port) → Rising (λ v w. link_offset v < link_offset w) (port_links_seen m p v)
    go dead = tt
    go hidden = tt
    go (visible n d) =
        rising_flat_map (λ s t. subport_offset s < subport_offset t) (λ v w. link_offset v < link_offset w) (wire_of m d) (subports_of_port m d p)
        (subports_of_port_rise m d p) (λ s i. wire_rises (λ v w. link_offset v < link_offset w) m d s)
        (λ s t v w i j l h k. rw (wire_stands m d s v h, wire_stands m d t w k) l)

-- a start that is not refused gives its first cursor
pub start_gives : {C : Type 0} (from : Start → Result C Refusal) (first : C) → from started ≡ Ok first → ((r : Refusal) → from (refused r) ≡ Err r) → (s : Start) (c : C) → from s ≡ Ok c →
    (s ≡ started) × (first ≡ c)
start_gives from first ok stops started c e = (refl, (let q = sym ok ∙ e in cc))
start_gives from first ok stops (refused r) c e = absurd (zero_is_not_one (let z = sym (stops r) ∙ e in cc))

abbrev pub port_links_at : PortIndex → ℕ → ℕ → PortLinks
port_links_at p f b = record { port = p; front = f; back = b }

module _ (m : MultiPortGraph) where
  port_links_walk : (p : PortIndex) → TwoEnded link_offset (port_links m p.0) (λ held. true) (port_links_at p) (by_front m) (by_back m)
  unfolding step_front step_back links_left
  port_links_walk p =
      record {
        rises = port_links_rise m p.0;
        stays = λ w i. refl;
        is = λ f b. first_map port_links_given None (λ w. Some (w, port_links_at p (suc (link_offset w)) b)) (links_left m (port_links_at p f b));
        is_back = λ f b. last_map port_links_given None (λ w. Some (w, port_links_at p f (suc (link_offset w)))) (links_left m (port_links_at p f b));
      }

  pub port_links_forward : (c : PortLinks) (fuel : ℕ) → length (links_left m c) < fuel → walk (by_front m) fuel c ≡ whole (links_left m c)
  unfolding links_left
  port_links_forward c fuel h = two_front (port_links_walk c.port) fuel c.front c.back h

  pub port_links_backward : (c : PortLinks) (fuel : ℕ) → length (links_left m c) < fuel → walk (by_back m) fuel c ≡ whole (backwards (links_left m c))
  unfolding links_left
  port_links_backward c fuel h = two_back (port_links_walk c.port) fuel c.front c.back h

  pub port_links_by_turns : (choices : List From) (c : PortLinks) → walk_ends (by_front m) (by_back m) choices c ≡ take_ends choices (links_left m c)
  unfolding links_left
  port_links_by_turns choices c = two_ends (port_links_walk c.port) choices c.front c.back

  pub port_links_at_start : (p : PortIndex) (c : PortLinks) → start_port_links m p ≡ Ok c → links_left m c ≡ port_links m p.0
  unfolding links_left start_at_port
  port_links_at_start p c e =
      ap (links_left m) (sym (start_gives (port_links_from p) (port_links_at p 0 0) refl (λ r. refl) (start_at_port m p.0) c e).1) ∙ between_all link_offset (port_links m p.0)

-- So from its start each of these walks gives its listing whole and in order, from the back in reverse order, and then the end;
-- by turns each item comes once, the first ones from the front and the last ones from the back.

rises_apart : {A : Type 0} (key : A → ℕ) (l : List A) → Rising (λ x y. key x < key y) l → Rising Apart l
rises_apart key l r = rising_apart (λ x y. key x < key y) l (λ x h. omega arith) r

module _ (m : MultiPortGraph) where
  pub nodes_whole : (fuel : ℕ) → length (blocks m) < fuel → walk (by_nodes m) fuel start_nodes ≡ whole (blocks m)
  nodes_whole fuel h = let q = nodes_at_start m in rw q at (nodes_forward m start_nodes fuel (rw q h))

  pub nodes_whole_back : (fuel : ℕ) → length (blocks m) < fuel → walk (by_nodes_back m) fuel start_nodes ≡ whole (backwards (blocks m))
  nodes_whole_back fuel h = let q = nodes_at_start m in rw q at (nodes_backward m start_nodes fuel (rw q h))

  pub nodes_turns : Turns (blocks m) (λ choices. walk_ends (by_nodes m) (by_nodes_back m) choices start_nodes)
  nodes_turns = turns (rises_apart (λ n. n) (blocks m) (blocks_rise m)) (λ choices. nodes_by_turns m choices start_nodes ∙ ap (take_ends choices) (nodes_at_start m))

  pub ports_whole : (fuel : ℕ) → length (all_ports m) < fuel → walk (by_all_ports m) fuel start_ports ≡ whole (all_ports m)
  ports_whole fuel h = let q = ports_at_start m in rw q at (ports_forward m start_ports fuel (rw q h))

  pub ports_whole_back : (fuel : ℕ) → length (all_ports m) < fuel → walk (by_all_ports_back m) fuel start_ports ≡ whole (backwards (all_ports m))
  ports_whole_back fuel h = let q = ports_at_start m in rw q at (ports_backward m start_ports fuel (rw q h))

  pub ports_turns : Turns (all_ports m) (λ choices. walk_ends (by_all_ports m) (by_all_ports_back m) choices start_ports)
  ports_turns = turns (rises_apart (λ p. p) (all_ports m) (ports_rise m)) (λ choices. ports_by_turns m choices start_ports ∙ ap (take_ends choices) (ports_at_start m))

  module _ (p : PortIndex) (c : PortLinks) (e : start_port_links m p ≡ Ok c) where
    pub port_links_whole : (fuel : ℕ) → length (port_links m p.0) < fuel → walk (by_front m) fuel c ≡ whole (port_links m p.0)
    port_links_whole fuel h = let q = port_links_at_start m p c e in rw q at (port_links_forward m c fuel (rw q h))

    pub port_links_whole_back : (fuel : ℕ) → length (port_links m p.0) < fuel → walk (by_back m) fuel c ≡ whole (backwards (port_links m p.0))
    port_links_whole_back fuel h = let q = port_links_at_start m p c e in rw q at (port_links_backward m c fuel (rw q h))

    pub port_links_turns : Turns (port_links m p.0) (λ choices. walk_ends (by_front m) (by_back m) choices c)
    port_links_turns =
        turns (rises_apart link_offset (port_links m p.0) (port_links_rise m p.0))
        (λ choices. port_links_by_turns m choices c ∙ ap (take_ends choices) (port_links_at_start m p c e))
