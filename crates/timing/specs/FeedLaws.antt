-- Laws of a graph's feeds: they are what a listing of its wires says, they stand by ascending source, and they run between blocks.
use Rattle.std.specs.Prelude.{◌≡◌, ℕ, suc, ◌+◌, ◌*◌, ◌/◌, ◌<◌}
use Rattle.std.proofs.Math.Path.{refl, ap, subst}
use Rattle.std.proofs.Common.{sym, ◌∙◌, get_or-append-add}
use mathlib.Core.List.{List, [], ◌∷◌, ◌++◌, map, flat_map, append_assoc}
use Rattle.std.proofs.Math.Logic.{⊎_elim}
use native.Mathlib.Omega.{arith}
use Rattle.std.proofs.Math.ListN.{length, get_or, length-append}
use Rattle.std.proofs.lemmas.Simd.{map-map}
use Rattle.port_tables.specs.Limits.{node_slots}
use Rattle.port_tables.specs.Lists.{Member, Rising, range}
use Rattle.portgraph.specs.Model.{Model}
use Rattle.multiportgraph.specs.WellFormed.{Fine}
use Rattle.multiportgraph.specs.Listed.{end_numbers, wire_numbers, wires_listed}
use Rattle.multiportgraph.specs.ListReads.{wires_length, wire_length}
use Rattle.port_tables.specs.Listing.{member_map, rising_map, member_filter, member_range}
use Rattle.multiportgraph.specs.WalkRule.{Earlier, walked_places, walked_rises}
use Rattle.multiportgraph.specs.Wires.{is_block, blocks, all_wires, wires_walked, wire_places}
use Rattle.multiportgraph.specs.declared.multiportgraph.MultiPortGraph.{MultiPortGraph}
use Rattle.multi_tables.specs.declared.answers.SubportLink.{SubportLink}
use Rattle.files.specs.ViewLaws.{walked_fits}
use Rattle.timing.specs.Longest.{Feed, feed_of, feeds_in, feeders}
use Rattle.timing.specs.Settling.{feed_at, feeds_listed}
use Rattle.timing.specs.SettleLaws.{feed#, feeders_member}
use Rattle.timing.specs.StartLaws.{Sourced, FeedsFit}

module _ (m : MultiPortGraph) where
  abbrev feed_of_link : SubportLink → Feed
  feed_of_link w = feed_of (wire_places m w)

  feed_read : (w : SubportLink) (rest : List ℕ) → (get_or (wire_numbers m w ++ rest) 2 0 ≡ (feed_of_link w).source) × (get_or (wire_numbers m w ++ rest) 6 0 ≡ (feed_of_link w).target)
  unfolding wire_numbers end_numbers
  feed_read w rest = (refl, refl)

  feeds_from : (l : List SubportLink) (before : List ℕ) (i : ℕ) → length before ≡ 8 * i → map (feed_at (before ++ flat_map (wire_numbers m) l)) (range i (length l)) ≡ map feed_of_link l
  unfolding range flat_map
  feeds_from [] before i e = refl
  feeds_from (w ∷ l) before i e =
      let rest = flat_map (wire_numbers m) l in
      let a = append_assoc before (wire_numbers m w) rest in
      let n = length-append before (wire_numbers m w) in
      let k = wire_length m w in
      let r = feeds_from l (before ++ wire_numbers m w) (suc i) (omega arith) in
      let x : 8 * i + 2 ≡ length before + 2 = omega arith in
      let y : 8 * i + 6 ≡ length before + 6 = omega arith in
      let s : get_or (before ++ (wire_numbers m w ++ rest)) (8 * i + 2) 0 ≡ (feed_of_link w).source =
      ap (λ (j : ℕ). get_or (before ++ (wire_numbers m w ++ rest)) j 0) x ∙ (get_or-append-add before (wire_numbers m w ++ rest) 2 0 ∙ (feed_read w rest).0) in
      let t : get_or (before ++ (wire_numbers m w ++ rest)) (8 * i + 6) 0 ≡ (feed_of_link w).target =
      ap (λ (j : ℕ). get_or (before ++ (wire_numbers m w ++ rest)) j 0) y ∙ (get_or-append-add before (wire_numbers m w ++ rest) 6 0 ∙ (feed_read w rest).1) in
      let q : map (feed_at (before ++ (wire_numbers m w ++ rest))) (range (suc i) (length l)) ≡ map feed_of_link l =
      ap (λ (z : List ℕ). map (feed_at z) (range (suc i) (length l))) (sym a) ∙ r in
      λ j. record { source = s j; target = t j } ∷ q j

module _ {m : MultiPortGraph} {M : Model} (f : Fine m M) where
  -- what is read off the listing
  pub feeds_listed_lem : feeds_listed (wires_listed m) ≡ feeds_in m
  unfolding feeds_listed feeds_in wires_listed
  feeds_listed_lem =
      let n : length (flat_map (wire_numbers m) (all_wires m)) / 8 ≡ length (all_wires m) = let e = listed_long in omega arith in
      ap (λ (k : ℕ). map (feed_at (flat_map (wire_numbers m) (all_wires m))) (range 0 k)) n
      ∙ (feeds_from m (all_wires m) [] 0 refl ∙ (sym (map-map feed_of (wire_places m) (all_wires m)) ∙ ap (map feed_of) (sym (walked_places f))))
    where
      listed_long : length (flat_map (wire_numbers m) (all_wires m)) ≡ 8 * length (all_wires m)
      listed_long = unfold wires_listed in wires_length m

  pub feeds_rise : Rising Sourced (feeds_in m)
  unfolding feeds_in
  feeds_rise = rising_map Earlier Sourced feed_of (wires_walked m) (walked_rises f) (λ v w i j l. ⊎_elim (λ h. omega arith) (λ h. let e = h.0 in omega arith) l)

  pub block_below : (n : ℕ) → Member n (blocks m) → n < node_slots
  unfolding blocks
  block_below n i = let r = member_range n 0 node_slots (member_filter (is_block m) n (range 0 node_slots) i).0 in omega arith

  -- they run between blocks
  pub feeders_between : (p n : ℕ) → Member p (feeders (feeds_in m) n) → Member p (blocks m) × Member n (blocks m)
  unfolding feeds_in
  feeders_between p n i =
      let g = member_map feed_of (feed# p n) (wires_walked m) (feeders_member p n (map feed_of (wires_walked m)) i) in
      let e = walked_fits f g.0 g.1 in (
        subst (λ (k : ℕ). Member k (blocks m)) (sym (ap (λ (x : Feed). x.source) g.2)) e.0.block,
        subst (λ (k : ℕ). Member k (blocks m)) (sym (ap (λ (x : Feed). x.target) g.2)) e.1.block,
      )

  pub feeders_below : (p n : ℕ) → Member p (feeders (feeds_in m) n) → (p < node_slots) × (n < node_slots)
  feeders_below p n i = let e = feeders_between p n i in (block_below p e.0, block_below n e.1)

  pub feeds_fit : (ends : List ℕ) → ends ≡ wires_listed m → FeedsFit (feeds_listed ends)
  feeds_fit ends e = subst FeedsFit (sym (ap feeds_listed e ∙ feeds_listed_lem)) (record { rises = feeds_rise; below = feeders_below })
