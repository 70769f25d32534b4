-- Fan-out against the book: how many of its wires end at a port, and how many leave a block.
use Rattle.std.proofs.lemmas.List.{length-map}
use Rattle.std.specs.Prelude.{◌≡◌, Bool, true, List, map, ℕ, eqb, length, Ok}
use Rattle.std.proofs.Common.{sym, ap, ◌∙◌, eq-eqb, eqb-true}
use Rattle.port_tables.specs.Lists.{Once}
use Rattle.port_tables.specs.declared.release.Release.{Release}
use Rattle.multiportgraph.specs.WellFormed.{inner#}
use Rattle.port_tables.specs.declared.direction.Direction.{Direction}
use Rattle.port_tables.specs.declared.direction.Direction.TheVariants.{Outgoing}
use Rattle.port_tables.specs.Places.{Wire, spot, at_spot, touches}
use Rattle.multiportgraph.specs.Lookups.{port_fan_out, node_fan_out}
use Rattle.multiportgraph.specs.Wires.{side_links}
use Rattle.multiportgraph.specs.Walks.{port_links}
use Rattle.port_tables.specs.Listing.{filter_member, member_filter, once_apart}
use Rattle.theorems.specs.Book.{Call, spot_of, Book}
use Rattle.theorems.specs.History.{run, State}
use Rattle.theorems.specs.Claims.{count, FanOutIsWires}
use Rattle.theorems.specs.ListingClaims.{wire_from, Exactly, InBook}
use Rattle.theorems.proofs.CallLaws.{rel_run}
use Rattle.theorems.proofs.StartLaws.{port_fan_out_found, node_fan_out_found}
use Rattle.theorems.proofs.ListingWires.{block_booked, spot_back, side_listing, port_listing}
use Rattle.theorems.specs.BookLaws.{same_length, count_is, left_once}
use Rattle.std.specs.List.{filter}
use Rattle.portgraph.specs.Model.{Model}
use Rattle.theorems.proofs.WireRule.{Rel}
use Rattle.multiportgraph.specs.declared.multiportgraph.MultiPortGraph.{MultiPortGraph}

-- a list has exactly the wires that pass a test
exactly_as_many : (f : Wire → Bool) (booked l : List Wire) → Once booked → Exactly booked (λ w. f w ≡ true) l → length l ≡ count f booked
exactly_as_many f booked l o e =
    same_length l (filter f booked) (once_apart l e.once) (once_apart (filter f booked) (left_once f booked o)) (λ w i. let r = e.only w i in filter_member f w booked r.0 r.1)
    (λ w i. let r = member_filter f w booked i in e.all w r.0 r.1)
    ∙ count_is f booked

module _ {m : MultiPortGraph} {M : Model} {B : Book} (r : Rel m M B) where
  -- the wires of a port
  port_fans : (p n : ℕ) (d : Direction) (i : ℕ) → spot_of B.blocks p ≡ spot n d i → port_fan_out m p ≡ Ok (count (touches (at_spot (spot n d i))) B.wires)
  port_fans p n d i e =
      port_fan_out_found r.fine p (inner# n d i) (spot_back r p n d i e)
      ∙ ap Ok (sym (length-map (port_links m p) (wire_from m d)) ∙ exactly_as_many (touches (at_spot (spot n d i))) B.wires _ r.wires.once (port_listing r p n d i e))

  -- the wires that leave a block
  block_fans : (n : ℕ) → InBook B n → node_fan_out m n ≡ Ok (count (λ w. eqb w.out.node n) B.wires)
  block_fans n b =
      let k = block_booked r n b in
      let l = side_listing r Outgoing n b in
      let x = exactly_as_many (λ w. eqb w.out.node n) B.wires (map (wire_from m Outgoing) (side_links m Outgoing n)) r.wires.once
      (record {
        once = l.once;
        only = λ w i. let y = l.only w i in (y.0, eq-eqb w.out.node n y.1);
        all = λ w i t. l.all w i (eqb-true w.out.node n t);
      }) in
      node_fan_out_found r.fine n k.0 k.1 ∙ ap Ok (sym (length-map (side_links m Outgoing n) (wire_from m Outgoing)) ∙ x)

pub fans_booked : (s : State) {M : Model} → Rel s.graph M s.book → FanOutIsWires s
fans_booked s r = record { of_port = port_fans r; of_block = λ n b i e. block_fans r n (b, i, e) }

pub fan_out_is_wires : (release : Release) (calls : List Call) → FanOutIsWires (run release calls)
fan_out_is_wires release calls = fans_booked (run release calls) (rel_run release calls).1
