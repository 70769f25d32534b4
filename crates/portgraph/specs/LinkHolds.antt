-- The empty graph, and graphs after ports are linked and unlinked: their tables stand for the models that the calls mean.
-- What each answer of linking and unlinking says of the places of the ports, and that well-formed graphs stay so.
use Rattle.std.specs.Prelude.{◌≡◌, refl, Bool, true, false, cond, List, ◌⊎◌, ℕ, suc, ◌+◌, ◌-◌, ◌<◌, leb, ltb, length, get_or, replicate, Option, Some, None, Result, Ok, Err}
use Rattle.std.proofs.Common.{sym, ◌∙◌, subst, inl, inr, arith, add-one, eq-eqb, ne_eqb}
use Rattle.std.proofs.Math.Path.{ap}
use Rattle.std.proofs.Math.Nat.{sub-zero}
use Rattle.std.proofs.lemmas.List.{length-replicate}
use Rattle.port_tables.specs.Limits.{node_slots, port_slots, node_ports, free_lists}
use Rattle.port_tables.specs.Lists.{Member}
use Rattle.port_tables.specs.Entries.{fresh_slot, same_side, port#}
use Rattle.port_tables.specs.Tables.{at, head_at, link_both, cut, link_count, Within}
use Rattle.portgraph.specs.Model.{Model, Far, nowhere, to, gone, Valid, Good, Holds, Wf, slot_of, slots_of_entry, total, links_out, InnerPlace, Vacant, IsPort, Dead}
use Rattle.portgraph.specs.Meaning.{same_place, drop_join, link_join, link_model, unlink_model}
use Rattle.portgraph.specs.Joins.{same_side_true, same_side_false, same_side_distinct, same_side_refl}
use Rattle.port_tables.specs.Listing.{zero_is_not_one, get_or-replicate_default}
use Rattle.portgraph.specs.Lookups.{port_at}
use Rattle.portgraph.specs.Calls.{new_graph, with_links, link_refused, link_sides, link_entries, link_ports, unlink_entry, unlink_port}
use Rattle.port_tables.specs.TableSteps.{link_count_none}
use Rattle.portgraph.specs.Chains.{chain_frame}
use Rattle.portgraph.specs.Sums.{all_links, one_link_less, link_counts_one, total_more}
use Rattle.portgraph.specs.LinkLaws.{Rep, far_number_is_far_is, cut_at, cut_elsewhere, cut_counts, cut_none, link_at, link_elsewhere}
use Rattle.portgraph.specs.GoodSlots.{gone_not_live, node_below, slot_in_block, joined_is_valid}
use Rattle.portgraph.specs.GoodLaws.{empty_model, good_empty, good_link, good_unlink}
use Rattle.portgraph.specs.PlaceLaws.{meta_of_place, port_of_place, slot_cases, dead_port, vacant_is_dead, idle_vacant, spare_vacant, rep_of, link_none, none_linked, port_link_dead, port_link_none, port_link_to}
use Rattle.port_tables.specs.declared.direction.Direction.{Direction}
use Rattle.port_tables.specs.declared.index.PortIndex.{PortIndex}
use Rattle.port_tables.specs.declared.node_entry.NodeSlot.{NodeSlot}
use Rattle.port_tables.specs.declared.port_entry.PortEntry.{PortEntry}
use Rattle.port_tables.specs.declared.port_entry.PortEntry.TheVariants as port_variants
use Rattle.portgraph.specs.declared.portgraph.PortGraph.{PortGraph}
use Rattle.portgraph.specs.declared.portgraph.PortsLinked.{PortsLinked}
use Rattle.portgraph.specs.declared.portgraph.PortUnlinked.{PortUnlinked}
use Rattle.portgraph.specs.declared.portgraph.LinkError.{LinkError}
use Rattle.portgraph.specs.declared.portgraph.NoSuchPort.{NoSuchPort}
use Rattle.portgraph.specs.declared.portgraph.LinkError.TheVariants as link_error

-- The empty graph.

at_zeros : (t : List ℕ) (s : ℕ) → get_or t s 0 ≡ 0 → at t s ≡ 0
unfolding at
at_zeros t s e = go (ltb s port_slots)
  where
    go : (b : Bool) → cond b (get_or t s 0) 0 ≡ 0
    go true = e
    go false = refl

head_of_zeros : (t : List ℕ) (k : ℕ) → get_or t k 0 ≡ 0 → head_at t k ≡ 0
unfolding head_at
head_of_zeros t k e = go (leb k node_ports)
  where
    go : (b : Bool) → cond b (get_or t k 0) 0 ≡ 0
    go true = e
    go false = refl

pub total_none : (n : ℕ) (f : ℕ → ℕ) → ((i : ℕ) → f i ≡ 0) → total n f ≡ 0
unfolding total
total_none n f none = total_more n 0 f (omega arith) (λ i a b. none i)

no_links : (n : ℕ) → links_out (λ (i : ℕ). gone) (λ (x : InnerPlace). nowhere) n ≡ 0
unfolding total
no_links n = refl

empty_holds : (nodes : List NodeSlot) (links owners heads : List ℕ) → length nodes ≡ node_slots → length links ≡ port_slots → length owners ≡ port_slots → length heads ≡ free_lists →
    ((n : ℕ) → get_or nodes n fresh_slot ≡ fresh_slot) → ((s : ℕ) → at owners s ≡ 0) → ((k : ℕ) → head_at heads k ≡ 0) →
    Holds
    (record {
      node_meta = nodes;
      port_link = links;
      port_meta = owners;
      port_free = heads;
      node_free = 0;
      node_len = 0;
      port_len = 0;
      node_count = 0;
      port_count = 0;
      link_count = 0;
    })
    empty_model
empty_holds nodes links owners heads a b c d fresh unowned unlisted =
    record {
      nodes_long = a;
      links_long = b;
      owners_long = c;
      heads_long = d;
      node_len = refl;
      port_len = refl;
      nodes = λ n. ap (λ (s : NodeSlot). slots_of_entry s.entry) (fresh n);
      node_head = refl;
      node_chain = tt;
      block_chain = unlisted;
      owners = unowned;
      links = λ x h. absurd (omega arith);
      spare = λ n m s e. absurd (gone_not_live refl e);
      node_count = sym (total_none node_slots _ (λ n. refl));
      port_count = sym (total_none node_slots _ (λ n. refl));
      link_count = sym (total_none node_slots _ no_links);
    }

pub new_holds : Holds new_graph empty_model
unfolding new_graph
new_holds =
    empty_holds (replicate node_slots fresh_slot) (replicate {A = ℕ} port_slots 0) (replicate {A = ℕ} port_slots 0) (replicate {A = ℕ} free_lists 0)
    (length-replicate node_slots fresh_slot) (length-replicate {A = ℕ} port_slots 0) (length-replicate {A = ℕ} port_slots 0) (length-replicate {A = ℕ} free_lists 0)
    (λ n. get_or-replicate_default node_slots n fresh_slot)
    (λ s. at_zeros (replicate {A = ℕ} port_slots 0) s (get_or-replicate_default port_slots s 0))
    (λ k. head_of_zeros (replicate {A = ℕ} free_lists 0) k (get_or-replicate_default free_lists k 0))

pub wf_new : Wf new_graph
wf_new = record { model = empty_model; good = good_empty; holds = new_holds }

-- Other links between the same nodes.

abbrev with_join : Model → (InnerPlace → Far) → Model
with_join M join =
    record {
      node = M.node;
      join = join;
      free_nodes = M.free_nodes;
      free_blocks = M.free_blocks;
      node_len = M.node_len;
      port_len = M.port_len;
      who = M.who;
    }

module _ {g : PortGraph} {M : Model} (good : Good M) (holds : Holds g M) where
  links_hold : (t : List ℕ) (count : ℕ) (join : InnerPlace → Far) → Rep (Valid M.node) (slot_of M.node) join t →
      ((s : ℕ) → Vacant (Valid M.node) (slot_of M.node) s → at t s ≡ at g.port_link s) →
      count ≡ all_links M.node join → Holds (with_links g t count) (with_join M join)
  links_hold t count join rep kept counted =
      record {
        nodes_long = holds.nodes_long;
        links_long = rep.long;
        owners_long = holds.owners_long;
        heads_long = holds.heads_long;
        node_len = holds.node_len;
        port_len = holds.port_len;
        nodes = holds.nodes;
        node_head = holds.node_head;
        node_chain = holds.node_chain;
        block_chain = λ k.
            chain_frame g.port_link t (head_at g.port_free k) (M.free_blocks k)
            (λ b i. sym (kept b (idle_vacant good holds k b b i (first_within k b i))))
            (holds.block_chain k);
        owners = holds.owners;
        links = λ x h. rep.links x h ∙ sym (far_number_is_far_is M.node (join x));
        spare = λ n m s e low high. kept s (spare_vacant good holds n m s e low high) ∙ holds.spare n m s e low high;
        node_count = holds.node_count;
        port_count = holds.port_count;
        link_count = counted;
      }
    where
      first_within : (k b : ℕ) → Member b (M.free_blocks k) → Within b k b
      first_within k b i = let p : 0 < k = (good.idle_ends k b i).0 in (omega arith, omega arith)

  pub node_in_range : (z : InnerPlace) → Valid M.node z → z.node < node_slots
  node_in_range z v = let r = slot_in_block good z v in node_below good z.node r.0 r.1

  pub link_holds : (x y : InnerPlace) → Valid M.node x → Valid M.node y → M.join x ≡ nowhere → M.join y ≡ nowhere → (x.side ≡ y.side → ⊥) →
      Holds (with_links g (link_both g.port_link (slot_of M.node x) (slot_of M.node y)) (g.link_count + 1)) (link_model M x y)
  link_holds x y vx vy fx fy opposite =
      links_hold _ _ (link_join x y M.join) (link_at (rep_of good holds) x y vx vy fx fy opposite) (link_elsewhere (rep_of good holds) x y vx vy)
      (add-one g.link_count ∙ (ap suc holds.link_count ∙ sym (link_counts_one M.node M.join node_in_range x y vx vy opposite fx fy)))

  cut_count : (x : InnerPlace) → Valid M.node x →
      g.link_count - link_count (at g.port_link (slot_of M.node x)) ≡ all_links M.node (drop_join (same_place x) M.join)
  cut_count x v =
      omega (arith, cut_counts (rep_of good holds) x v, one_link_less M.node M.join node_in_range (rep_of good holds).joined x, holds.link_count)

  pub unlink_holds : (x : InnerPlace) → Valid M.node x →
      Holds (with_links g (cut g.port_link (slot_of M.node x)) (g.link_count - link_count (at g.port_link (slot_of M.node x)))) (unlink_model M x)
  unlink_holds x v =
      links_hold _ _ (drop_join (same_place x) M.join) (cut_at (rep_of good holds) x v) (cut_elsewhere (rep_of good holds) x v) (cut_count x v)

-- The calls.

-- two live ports
pub record Ends (M : Model) (a b : ℕ) : Type 0 where
  pub first : InnerPlace
  pub second : InnerPlace
  pub first_at : IsPort M a first
  pub second_at : IsPort M b second

-- two free ports of opposite sides, and the tables of a graph where they are linked
pub record LinkMade (M : Model) (a b : ℕ) (h : PortGraph) : Type 0 where
  pub ends : Ends M a b
  pub opposite : ends.first.side ≡ ends.second.side → ⊥
  pub first_free : M.join ends.first ≡ nowhere
  pub second_free : M.join ends.second ≡ nowhere
  pub good : Good (link_model M ends.first ends.second)
  pub holds : Holds h (link_model M ends.first ends.second)

-- what each answer to linking a and b says of their places, and of the graph h after the call
abbrev pub LinkSays : PortGraph → Model → ℕ → ℕ → PortGraph → Result (PortIndex × PortIndex) LinkError → Type 0
LinkSays g M a b h (Ok (p, q)) = LinkMade M a b h × (p ≡ port# a) × (q ≡ port# b)
LinkSays g M a b h (Err (link_error.UnknownPort p)) = (h ≡ g) × (p ≡ port# a) × Dead M a
LinkSays g M a b h (Err (link_error.UnknownSecondPort q)) = (h ≡ g) × (q ≡ port# b) × ((x : InnerPlace) × IsPort M a x) × Dead M b
LinkSays g M a b h (Err (link_error.IncompatibleDirections p q d)) =
    (h ≡ g) × (p ≡ port# a) × (q ≡ port# b) × ((e : Ends M a b) × (e.first.side ≡ d) × (e.second.side ≡ d))
LinkSays g M a b h (Err (link_error.AlreadyLinked p)) =
    (h ≡ g)
    × ((e : Ends M a b) × (e.first.side ≡ e.second.side → ⊥)
    × (((p ≡ port# a) × (M.join e.first ≡ nowhere → ⊥)) ⊎ ((p ≡ port# b) × (M.join e.first ≡ nowhere) × (M.join e.second ≡ nowhere → ⊥))))

-- what each answer to unlinking p says
pub record LinkCut (M : Model) (p q : ℕ) (h : PortGraph) : Type 0 where
  pub near : InnerPlace
  pub far : InnerPlace
  pub near_at : IsPort M p near
  pub far_at : IsPort M q far
  pub joined : M.join near ≡ to far
  pub good : Good (unlink_model M near)
  pub holds : Holds h (unlink_model M near)

abbrev pub UnlinkSays : PortGraph → Model → ℕ → PortGraph → Result (Option PortIndex) NoSuchPort → Type 0
UnlinkSays g M p h (Ok (Some q)) = LinkCut M p q.0 h
UnlinkSays g M p h (Ok None) = (h ≡ g) × ((x : InnerPlace) × IsPort M p x × (M.join x ≡ nowhere))
UnlinkSays g M p h (Err q) = (h ≡ g) × (q.0 ≡ port# p) × Dead M p

module _ (g : PortGraph) (a b : ℕ) (d e : Direction) where
  sides_same : same_side d e ≡ true → link_sides g a b d e ≡ link_refused g (Err (link_error.IncompatibleDirections (port# a) (port# b) d))
  sides_same t = rw t

  first_taken : same_side d e ≡ false → (at g.port_link a ≡ 0 → ⊥) → link_sides g a b d e ≡ link_refused g (Err (link_error.AlreadyLinked (port# a)))
  first_taken t n = rw (t, ne_eqb (at g.port_link a) 0 n)

  second_taken : same_side d e ≡ false → at g.port_link a ≡ 0 → (at g.port_link b ≡ 0 → ⊥) → link_sides g a b d e ≡ link_refused g (Err (link_error.AlreadyLinked (port# b)))
  second_taken t z n = rw (t, eq-eqb (at g.port_link a) 0 z, ne_eqb (at g.port_link b) 0 n)

  both_free : same_side d e ≡ false → at g.port_link a ≡ 0 → at g.port_link b ≡ 0 →
      link_sides g a b d e ≡ record { graph = with_links g (link_both g.port_link a b) (g.link_count + 1); answer = Ok (port# a, port# b) }
  both_free t z y = rw (t, eq-eqb (at g.port_link a) 0 z, eq-eqb (at g.port_link b) 0 y)

-- whether a link was made
abbrev pub is_made : Result (PortIndex × PortIndex) LinkError → Bool
is_made (Ok (p, q)) = true
is_made (Err (link_error.UnknownPort p)) = false
is_made (Err (link_error.UnknownSecondPort q)) = false
is_made (Err (link_error.IncompatibleDirections p q d)) = false
is_made (Err (link_error.AlreadyLinked p)) = false

is_nowhere : (f : Far) → (f ≡ nowhere) ⊎ (f ≡ nowhere → ⊥)
is_nowhere nowhere = inl refl
is_nowhere (to y) = inr (λ e. zero_is_not_one (cc))

module _ {g : PortGraph} {M : Model} (good : Good M) (holds : Holds g M) where
  -- Each case's answer.

  pub link_first_dead : (a b : ℕ) → Dead M a → link_ports g a b ≡ link_refused g (Err (link_error.UnknownPort (port# a)))
  unfolding link_ports
  link_first_dead a b none = ap (λ (v : PortEntry). link_entries g a b v (port_at g b)) (vacant_is_dead good holds a none)

  pub link_second_dead : (x : InnerPlace) (b : ℕ) → Valid M.node x → Dead M b →
      link_ports g (slot_of M.node x) b ≡ link_refused g (Err (link_error.UnknownSecondPort (port# b)))
  unfolding link_ports
  link_second_dead x b v none =
      ap (λ (w : PortEntry). link_entries g (slot_of M.node x) b w (port_at g b)) (port_of_place good holds x v)
      ∙ ap (link_entries g (slot_of M.node x) b (port_variants.Port (meta_of_place x))) (vacant_is_dead good holds b none)

  module _ (x y : InnerPlace) (vx : Valid M.node x) (vy : Valid M.node y) where
    link_live : link_ports g (slot_of M.node x) (slot_of M.node y) ≡ link_sides g (slot_of M.node x) (slot_of M.node y) x.side y.side
    unfolding link_ports
    link_live =
        ap (λ (w : PortEntry). link_entries g (slot_of M.node x) (slot_of M.node y) w (port_at g (slot_of M.node y))) (port_of_place good holds x vx)
        ∙ ap (link_entries g (slot_of M.node x) (slot_of M.node y) (port_variants.Port (meta_of_place x))) (port_of_place good holds y vy)

    pub link_same_side : x.side ≡ y.side →
        link_ports g (slot_of M.node x) (slot_of M.node y) ≡ link_refused g (Err (link_error.IncompatibleDirections (port# (slot_of M.node x)) (port# (slot_of M.node y)) x.side))
    link_same_side s = link_live ∙ sides_same g _ _ x.side y.side (ap (same_side x.side) (sym s) ∙ same_side_refl x.side)

    pub link_first_taken : (x.side ≡ y.side → ⊥) → (M.join x ≡ nowhere → ⊥) →
        link_ports g (slot_of M.node x) (slot_of M.node y) ≡ link_refused g (Err (link_error.AlreadyLinked (port# (slot_of M.node x))))
    link_first_taken opposite n = link_live ∙ first_taken g _ _ x.side y.side (same_side_distinct _ _ opposite) (λ z. n (none_linked good holds x vx z))

    pub link_second_taken : (x.side ≡ y.side → ⊥) → M.join x ≡ nowhere → (M.join y ≡ nowhere → ⊥) →
        link_ports g (slot_of M.node x) (slot_of M.node y) ≡ link_refused g (Err (link_error.AlreadyLinked (port# (slot_of M.node y))))
    link_second_taken opposite f n =
        link_live ∙ second_taken g _ _ x.side y.side (same_side_distinct _ _ opposite) (link_none good holds x vx f) (λ z. n (none_linked good holds y vy z))

    pub link_done : (x.side ≡ y.side → ⊥) → M.join x ≡ nowhere → M.join y ≡ nowhere →
        link_ports g (slot_of M.node x) (slot_of M.node y)
        ≡ record {
          graph = with_links g (link_both g.port_link (slot_of M.node x) (slot_of M.node y)) (g.link_count + 1);
          answer = Ok (port# (slot_of M.node x), port# (slot_of M.node y));
        }
    link_done opposite f h =
        link_live ∙ both_free g _ _ x.side y.side (same_side_distinct _ _ opposite) (link_none good holds x vx f) (link_none good holds y vy h)

  -- Each answer's case.

  abbrev LinkSaid : ℕ → ℕ → PortsLinked → Type 0
  LinkSaid a b r = LinkSays g M a b r.graph r.answer

  pub link_law : (a b : ℕ) → LinkSays g M a b (link_ports g a b).graph (link_ports g a b).answer
  link_law a b = first (slot_cases good holds a)
    where
      sides : (x y : InnerPlace) → Valid M.node x → Valid M.node y → (t : Bool) → same_side x.side y.side ≡ t →
          (M.join x ≡ nowhere) ⊎ (M.join x ≡ nowhere → ⊥) → (M.join y ≡ nowhere) ⊎ (M.join y ≡ nowhere → ⊥) →
          LinkSaid (slot_of M.node x) (slot_of M.node y) (link_ports g (slot_of M.node x) (slot_of M.node y))
      sides x y vx vy true t i j =
          let s : x.side ≡ y.side = same_side_true _ _ t in
          subst (LinkSaid (slot_of M.node x) (slot_of M.node y)) (sym (link_same_side x y vx vy s))
          (refl, refl, refl, (record { first = x; second = y; first_at = (vx, refl); second_at = (vy, refl) }, refl, sym s))
      sides x y vx vy false t (inr n) j =
          let s : x.side ≡ y.side → ⊥ = same_side_false _ _ t in
          subst (LinkSaid (slot_of M.node x) (slot_of M.node y)) (sym (link_first_taken x y vx vy s n))
          (refl, (record { first = x; second = y; first_at = (vx, refl); second_at = (vy, refl) }, s, inl (refl, n)))
      sides x y vx vy false t (inl f) (inr n) =
          let s : x.side ≡ y.side → ⊥ = same_side_false _ _ t in
          subst (LinkSaid (slot_of M.node x) (slot_of M.node y)) (sym (link_second_taken x y vx vy s f n))
          (refl, (record { first = x; second = y; first_at = (vx, refl); second_at = (vy, refl) }, s, inr (refl, f, n)))
      sides x y vx vy false t (inl f) (inl h) =
          let s : x.side ≡ y.side → ⊥ = same_side_false _ _ t in
          subst (LinkSaid (slot_of M.node x) (slot_of M.node y)) (sym (link_done x y vx vy s f h)) (
            record {
              ends = record { first = x; second = y; first_at = (vx, refl); second_at = (vy, refl) };
              opposite = s;
              first_free = f;
              second_free = h;
              good = good_link good x y vx vy f h s;
              holds = link_holds good holds x y vx vy f h s;
            },
            refl,
            refl,
          )

      second : (x : InnerPlace) → Valid M.node x → ((y : InnerPlace) × Valid M.node y × (slot_of M.node y ≡ b)) ⊎ (port_at g b ≡ port_variants.Free) →
          LinkSaid (slot_of M.node x) b (link_ports g (slot_of M.node x) b)
      second x vx (inr f) =
          let none : Dead M b = dead_port good holds b f in
          subst (LinkSaid (slot_of M.node x) b) (sym (link_second_dead x b vx none)) (refl, refl, (x, (vx, refl)), none)
      second x vx (inl r) =
          subst (λ (c : ℕ). LinkSaid (slot_of M.node x) c (link_ports g (slot_of M.node x) c)) r.2
          (sides x r.0 vx r.1 (same_side x.side r.0.side) refl (is_nowhere (M.join x)) (is_nowhere (M.join r.0)))

      first : ((x : InnerPlace) × Valid M.node x × (slot_of M.node x ≡ a)) ⊎ (port_at g a ≡ port_variants.Free) → LinkSaid a b (link_ports g a b)
      first (inr f) =
          let none : Dead M a = dead_port good holds a f in
          subst (LinkSaid a b) (sym (link_first_dead a b none)) (refl, refl, none)
      first (inl r) = subst (λ (c : ℕ). LinkSaid c b (link_ports g c b)) r.2 (second r.0 r.1 (slot_cases good holds b))

  -- an accepted link is made between free ports of opposite sides
  pub link_accepted : (a b : ℕ) (p q : PortIndex) → (link_ports g a b).answer ≡ Ok (p, q) → LinkMade M a b (link_ports g a b).graph
  link_accepted a b p q e = (subst (LinkSays g M a b (link_ports g a b).graph) e (link_law a b)).0

  -- with every other answer the graph stays as it is
  pub link_refused_lem : (a b : ℕ) → is_made (link_ports g a b).answer ≡ false → (link_ports g a b).graph ≡ g
  link_refused_lem a b = go (link_ports g a b).answer (link_law a b)
    where
      go : (r : Result (PortIndex × PortIndex) LinkError) → LinkSays g M a b (link_ports g a b).graph r → is_made r ≡ false → (link_ports g a b).graph ≡ g
      go (Ok (p, q)) s e = absurd (zero_is_not_one (cc))
      go (Err (link_error.UnknownPort p)) s e = s.0
      go (Err (link_error.UnknownSecondPort q)) s e = s.0
      go (Err (link_error.IncompatibleDirections p q d)) s e = s.0
      go (Err (link_error.AlreadyLinked p)) s e = s.0

  -- Unlinking.

  pub unlink_dead : (p : ℕ) → Dead M p → unlink_port g p ≡ record { graph = g; answer = Err (record { 0 = port# p }) }
  unfolding unlink_port
  unlink_dead p none = λ i. record { graph = unlink_entry g p (vacant_is_dead good holds p none i); answer = port_link_dead good holds p none i }

  pub unlink_linked : (x y : InnerPlace) → Valid M.node x → M.join x ≡ to y →
      unlink_port g (slot_of M.node x)
      ≡ record {
        graph = with_links g (cut g.port_link (slot_of M.node x)) (g.link_count - link_count (at g.port_link (slot_of M.node x)));
        answer = Ok (Some (port# (slot_of M.node y)));
      }
  unfolding unlink_port
  unlink_linked x y v e =
      λ i. record { graph = unlink_entry g (slot_of M.node x) (port_of_place good holds x v i); answer = port_link_to good holds x y v e i }

  pub unlink_free : (x : InnerPlace) → Valid M.node x → M.join x ≡ nowhere → unlink_port g (slot_of M.node x) ≡ record { graph = g; answer = Ok None }
  unfolding unlink_port
  unlink_free x v e =
      let z : at g.port_link (slot_of M.node x) ≡ 0 = link_none good holds x v e in
      let t : cut g.port_link (slot_of M.node x) ≡ g.port_link = cut_none g.port_link (slot_of M.node x) z in
      let c : g.link_count - link_count (at g.port_link (slot_of M.node x)) ≡ g.link_count =
      ap (λ (n : ℕ). g.link_count - n) (sym (link_count_none (at g.port_link (slot_of M.node x)) z)) ∙ sub-zero g.link_count in
      (λ i. record { graph = unlink_entry g (slot_of M.node x) (port_of_place good holds x v i); answer = port_link_none good holds x v e i })
      ∙ (λ i. record { graph = with_links g (t i) (c i); answer = Ok None })

  abbrev UnlinkSaid : ℕ → PortUnlinked → Type 0
  UnlinkSaid p r = UnlinkSays g M p r.graph r.answer

  pub unlink_law : (p : ℕ) → UnlinkSays g M p (unlink_port g p).graph (unlink_port g p).answer
  unlink_law p = go (slot_cases good holds p)
    where
      far : (x : InnerPlace) → Valid M.node x → (f : Far) → M.join x ≡ f → UnlinkSaid (slot_of M.node x) (unlink_port g (slot_of M.node x))
      far x v nowhere e = subst (UnlinkSaid (slot_of M.node x)) (sym (unlink_free x v e)) (refl, (x, (v, refl), e))
      far x v (to y) e =
          subst (UnlinkSaid (slot_of M.node x)) (sym (unlink_linked x y v e))
          (record {
            near = x;
            far = y;
            near_at = (v, refl);
            far_at = (joined_is_valid good x y e, refl);
            joined = e;
            good = good_unlink good x;
            holds = unlink_holds good holds x v;
          })

      go : ((x : InnerPlace) × Valid M.node x × (slot_of M.node x ≡ p)) ⊎ (port_at g p ≡ port_variants.Free) → UnlinkSaid p (unlink_port g p)
      go (inr f) =
          let none : Dead M p = dead_port good holds p f in
          subst (UnlinkSaid p) (sym (unlink_dead p none)) (refl, refl, none)
      go (inl r) = subst (λ (c : ℕ). UnlinkSaid c (unlink_port g c)) r.2 (far r.0 r.1 (M.join r.0) refl)

-- Well-formed graphs stay well-formed.

wf_linked : (g h : PortGraph) (w : Wf g) (a b : ℕ) (r : Result (PortIndex × PortIndex) LinkError) → LinkSays g w.model a b h r → Wf h
wf_linked g h w a b (Ok (p, q)) s =
    record { model = link_model w.model s.0.ends.first s.0.ends.second; good = s.0.good; holds = s.0.holds }
wf_linked g h w a b (Err (link_error.UnknownPort p)) s = subst Wf (sym s.0) w
wf_linked g h w a b (Err (link_error.UnknownSecondPort q)) s = subst Wf (sym s.0) w
wf_linked g h w a b (Err (link_error.IncompatibleDirections p q d)) s = subst Wf (sym s.0) w
wf_linked g h w a b (Err (link_error.AlreadyLinked p)) s = subst Wf (sym s.0) w

pub wf_link : (g : PortGraph) (a b : ℕ) → Wf g → Wf (link_ports g a b).graph
wf_link g a b w = wf_linked g (link_ports g a b).graph w a b (link_ports g a b).answer (link_law w.good w.holds a b)

wf_unlinked : (g h : PortGraph) (w : Wf g) (p : ℕ) (r : Result (Option PortIndex) NoSuchPort) → UnlinkSays g w.model p h r → Wf h
wf_unlinked g h w p (Ok (Some q)) s = record { model = unlink_model w.model s.near; good = s.good; holds = s.holds }
wf_unlinked g h w p (Ok None) s = subst Wf (sym s.0) w
wf_unlinked g h w p (Err q) s = subst Wf (sym s.0) w

pub wf_unlink : (g : PortGraph) (p : ℕ) → Wf g → Wf (unlink_port g p).graph
wf_unlink g p w = wf_unlinked g (unlink_port g p).graph w p (unlink_port g p).answer (unlink_law w.good w.holds p)
