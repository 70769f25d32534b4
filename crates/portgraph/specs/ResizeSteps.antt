-- What the code of a change of counts takes from the definitions: the rounded total, the choices of the plan,
-- and the events, which go one run after the other into the move list.
use Rattle.std.specs.Prelude.{◌≡◌, Bool, cond, List, ◌++◌, ℕ, zero, suc, ◌+◌, ◌-◌, ◌*◌, ◌^◌, ◌≤◌, ◌<◌, ltb, length, Some, Err}
use Rattle.std.proofs.Math.Path.{refl}
use Rattle.std.proofs.Common.{append_assoc, pow-suc, arith}
use Rattle.std.proofs.Math.Bool.{true, false}
use Rattle.std.proofs.lemmas.Bool.{false≢true}
use Rattle.std.proofs.Math.Dec.{leb}
use Rattle.std.proofs.Math.ListN.{length-append}
use Rattle.std.proofs.lemmas.List.Edits.{sets}
use borrow.Author.Tests.{le-leb, lt-leb, leb-true, leb-false, ltb-true}
use Rattle.port_tables.specs.Limits.{node_ports, port_slots, most_ports_are_a_power}
use Rattle.port_tables.specs.Tables.{drop_events, move_up_events}
use Rattle.portgraph.specs.Lookups.{entry_at}
use Rattle.portgraph.specs.Model.{Wf}
use Rattle.portgraph.specs.SlotSteps.{new_block_fits}
use Rattle.portgraph.specs.Calls.{find_block}
use Rattle.portgraph.specs.Resize.{refuse, plan_of, dropped, plan_of_under}
use Rattle.std.proofs.Math.Pow.{pow_mono}
use Rattle.port_tables.specs.ResizeLinks.{doubled, round_up, fits_inside, drop_incoming, drop_told, kept_incoming, kept_outgoing, first_slot}
use Rattle.port_tables.specs.declared.node_entry.NodeMeta.{NodeMeta}
use Rattle.port_tables.specs.declared.node_entry.FreeNodeEntry.{FreeNodeEntry}
use Rattle.port_tables.specs.declared.node_entry.NodeEntry.TheVariants as node_variants
use Rattle.portgraph.specs.declared.portgraph.PortGraph.{PortGraph}
use Rattle.port_tables.specs.ResizeLinkSteps.{length_drop_events, sets_append}
use Rattle.portgraph.specs.declared.resize.SetError.TheVariants as set_error

doubled_power : (t a n : ℕ) → (k : ℕ) × (a ≤ k) × (k ≤ a + t) × (doubled t (2 ^ a) n ≡ 2 ^ k)
unfolding doubled
doubled_power zero a n = (a, omega arith, omega arith, refl)
doubled_power (suc t) a n = go (leb n (2 ^ a)) (doubled_power t (suc a) n)
  where
    go : (b : Bool) → (k : ℕ) × (suc a ≤ k) × (k ≤ suc a + t) × (doubled t (2 ^ suc a) n ≡ 2 ^ k) → (k : ℕ) × (a ≤ k) × (k ≤ a + suc t) × (cond b (2 ^ a) (doubled t (2 ^ a * 2) n) ≡ 2 ^ k)
    go true r = (a, omega arith, omega arith, refl)
    go false r = (r.0, omega arith, omega arith, rw (← pow-suc 2 a) r.3)

-- every doubling adds one at least
doubled_reaches : (t p n : ℕ) → 0 < p → n ≤ p + t → n ≤ doubled t p n
unfolding doubled
doubled_reaches zero p n some h = omega arith
doubled_reaches (suc t) p n some h = go (leb n p) refl (doubled_reaches t (p * 2) n (omega arith) (omega arith))
  where
    go : (b : Bool) → leb n p ≡ b → n ≤ doubled t (p * 2) n → n ≤ cond b p (doubled t (p * 2) n)
    go true e r = leb-true n p e
    go false e r = r

past_power : (a n j : ℕ) → 2 ^ a < n → n ≤ 2 ^ j → suc a ≤ j
past_power a n j m h = go (leb (suc a) j) refl
  where
    go : (b : Bool) → leb (suc a) j ≡ b → suc a ≤ j
    go true e = leb-true (suc a) j e
    go false e = let i = pow_mono {i = j} {j = a} (omega (arith, leb-false (suc a) j e)) in absurd (omega arith)

doubled_least : (t a n j : ℕ) → a ≤ j → n ≤ 2 ^ j → doubled t (2 ^ a) n ≤ 2 ^ j
unfolding doubled
doubled_least zero a n j l h = pow_mono l
doubled_least (suc t) a n j l h = go (leb n (2 ^ a)) refl (λ i. doubled_least t (suc a) n j i h)
  where
    go : (b : Bool) → leb n (2 ^ a) ≡ b → (suc a ≤ j → doubled t (2 ^ suc a) n ≤ 2 ^ j) → cond b (2 ^ a) (doubled t (2 ^ a * 2) n) ≤ 2 ^ j
    go true e r = pow_mono l
    go false e r = rw (← pow-suc 2 a) (r (past_power a n j (leb-false n (2 ^ a) e) h))

pub round_up_is_a_power_of_two : (n : ℕ) → (k : ℕ) × (round_up n ≡ 2 ^ k)
unfolding round_up
round_up_is_a_power_of_two n = let r = doubled_power n 0 n in (r.0, r.3)

pub round_up_reaches : (n : ℕ) → n ≤ round_up n
unfolding round_up
round_up_reaches n = doubled_reaches n 1 n (omega arith) (omega arith)

-- no smaller power of two reaches it
pub round_up_is_least : (n j : ℕ) → n ≤ 2 ^ j → round_up n ≤ 2 ^ j
unfolding round_up
round_up_is_least n j h = doubled_least n 0 n j (omega arith) h

pub round_up_positive : (n : ℕ) → 0 < round_up n
round_up_positive n =
    let r = round_up_is_a_power_of_two n in
    let i = pow_mono {i = 0} {j = r.0} (omega arith) in
    let e = r.1 in
    omega arith

pub round_up_fits : (n : ℕ) → n ≤ node_ports → round_up n ≤ node_ports
round_up_fits n h =
    let most = most_ports_are_a_power.1 in
    let r = round_up_is_least n most_ports_are_a_power.0 (omega arith) in
    omega arith

-- a total that is more than a node may have needs a block of twice the most ports
pub round_up_beyond : (n : ℕ) → node_ports < n → 2 * node_ports ≤ round_up n
round_up_beyond n h =
    let most = most_ports_are_a_power.1 in
    let r = round_up_is_a_power_of_two n in
    let e = r.1 in
    let s = round_up_reaches n in
    let i = pow_mono (past_power most_ports_are_a_power.0 n r.0 (omega arith) (omega arith)) in
    let d = pow-suc 2 most_ports_are_a_power.0 in
    omega arith

pub length_move_up_events : (old new n : ℕ) → length (move_up_events old new n) ≡ 3 * n
unfolding move_up_events
length_move_up_events old new zero = refl
length_move_up_events old new (suc n) = let h = length_move_up_events (suc old) (suc new) n in omega arith

pub length_drop_told : (t : List ℕ) (m : NodeMeta) (incoming outgoing : ℕ) → length (drop_told t m incoming outgoing) ≡ 3 * dropped m incoming outgoing
unfolding drop_told
length_drop_told t m incoming outgoing =
    let a = length_drop_events t (first_slot m + kept_incoming m incoming) (m.incoming - kept_incoming m incoming) in
    let b = length_drop_events (drop_incoming t m incoming) (first_slot m + m.incoming + kept_outgoing m outgoing) (m.outgoing - kept_outgoing m outgoing) in
    let e = length-append (drop_events t (first_slot m + kept_incoming m incoming) (m.incoming - kept_incoming m incoming)) (drop_events (drop_incoming t m incoming) (first_slot m + m.incoming + kept_outgoing m outgoing) (m.outgoing - kept_outgoing m outgoing)) in
    omega arith

-- events that follow others in the move list
pub told_on : (b : List ℕ) (k : ℕ) (xs ys : List ℕ) → k ≡ length xs → sets (sets b 0 xs) k ys ≡ sets b 0 (xs ++ ys)
told_on b k xs ys e = let h : k ≡ 0 + length xs = omega arith in rw h (sets_append b 0 xs ys)

pub told_on_both : (b : List ℕ) (k j : ℕ) (xs ys zs : List ℕ) → k ≡ length xs → j ≡ length xs + length ys → sets (sets (sets b 0 xs) k ys) j zs ≡ sets b 0 (xs ++ (ys ++ zs))
told_on_both b k j xs ys zs e h =
    let l = length-append xs ys in
    rw (told_on b k xs ys e, ← append_assoc) (told_on b j (xs ++ ys) zs (omega arith))

-- a block that is found for a total has room for it, and lies within the tables
pub room_found : (g : PortGraph) → Wf g → (n first : ℕ) → n ≤ node_ports → find_block g.port_free g.port_len (round_up n) ≡ Some first → (n ≤ round_up n) × (round_up n ≤ node_ports) × (first + round_up n ≤ port_slots)
room_found g w n first h e = let few = round_up_fits n h in (round_up_reaches n, few, new_block_fits g w (round_up n) first few e)

pub fits_below : (m : NodeMeta) (i o : ℕ) → fits_inside m i o ≡ true → i + o ≤ m.capacity
unfolding fits_inside
fits_below m i o h = go (ltb 0 (i + o)) h
  where
    go : (b : Bool) → cond b (ltb (i + o) m.capacity) false ≡ true → i + o ≤ m.capacity
    go true e = omega (arith, ltb-true (i + o) m.capacity e)
    go false e = absurd (false≢true e)

-- The call: what is planned in each case, and what is answered then.

module _ (g : PortGraph) (n i o room : ℕ) where
  pub plan_too_many : node_ports < i + o → plan_of g n i o room ≡ refuse (Err set_error.TooManyPorts)
  unfolding plan_of_under
  plan_too_many h = rw (lt-leb (i + o) node_ports h)

  module _ (few : i + o ≤ node_ports) where
    pub plan_unknown : (x : FreeNodeEntry) → entry_at g n ≡ node_variants.Free x → plan_of g n i o room ≡ refuse (Err set_error.UnknownNode)
    unfolding plan_of_under
    plan_unknown x e = rw (le-leb (i + o) node_ports few, e)
