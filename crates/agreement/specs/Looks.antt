-- From the relation: what both look like. First the wires that lists have under the names, then counts and fan-outs, then the walks.
use Rattle.std.proofs.lemmas.List.{length-map}
use Rattle.std.specs.Prelude.{◌≡◌, refl, Bool, true, List, ℕ, length}
use Rattle.std.proofs.Common.{sym, ◌∙◌, ap, subst}
use Rattle.port_tables.specs.Lists.{Member, Once}
use Rattle.std.specs.List.{filter}
use Rattle.port_tables.specs.Listing.{member_map, map_member, member_filter, filter_member}
use Rattle.port_tables.specs.Places.{Place, Wire}
use Rattle.theorems.specs.BookLaws.{left_once, count_is}
use Rattle.theorems.specs.Claims.{count}
use Rattle.theorems.specs.ListingClaims.{Exactly}
use Rattle.portgraph.specs.Model.{Model}
use Rattle.agreement.specs.Meaning.{Both}
use Rattle.agreement.specs.Agreement.{PlaceMeans, WireMeans, WiresAlike}
use Rattle.agreement.specs.Alike.{Alike, place_renamed, wire_renamed}
use Rattle.agreement.specs.Names.{naming, HasName, WireNamed, name_of_lem, renamed_once, filter_renamed}
use Rattle.agreement.specs.Standing.{wires_named}

-- Wires.

module _ {b : Both} {M : Model} (a : Alike b M) where
  place_means : (x : Place) → HasName b.names x.node → PlaceMeans b.names x (place_renamed b.names x)
  place_means x h =
      (subst (λ (k : ℕ). Member (naming x.node k) b.names) (sym (name_of_lem b.names a.apart x.node h.0 h.1)) h.1, refl, refl, refl)

  wire_means : (w : Wire) → Member w b.kit.book.wires → WireMeans b.names w (wire_renamed b.names w)
  wire_means w i = let h = wires_named a w i in (place_means w.out h.0, place_means w.into h.1)

  pub plan_once : Once b.plan.wires
  plan_once = subst Once (sym a.wires) (renamed_once b.names a.apart b.kit.book.wires (wires_named a) a.rel.wires.once)

  plan_wire : (w : Wire) → Member w b.kit.book.wires → Member (wire_renamed b.names w) b.plan.wires
  plan_wire w i = subst (Member (wire_renamed b.names w)) (sym a.wires) (map_member (wire_renamed b.names) w b.kit.book.wires i)

  wire_of_plan : (v : Wire) → Member v b.plan.wires → (w : Wire) × Member w b.kit.book.wires × (v ≡ wire_renamed b.names w)
  wire_of_plan v i = member_map (wire_renamed b.names) v b.kit.book.wires (subst (Member v) a.wires i)

  -- lists that have exactly the wires for which the same holds under the names
  pub exactly_alike : {P Q : Wire → Type 0} {ws vs : List Wire} → Exactly b.kit.book.wires P ws → Exactly b.plan.wires Q vs →
      ((w : Wire) → Member w b.kit.book.wires → (P w → Q (wire_renamed b.names w)) × (Q (wire_renamed b.names w) → P w)) → WiresAlike b.names ws vs
  exactly_alike {P} {Q} {ws} {vs} kit plan same =
      record {
        kit_once = kit.once;
        sketch_once = plan.once;
        there = λ w i.
            let k = kit.only w i in
            (wire_renamed b.names w, wire_means w k.0, plan.all _ (plan_wire w k.0) ((same w k.0).0 k.1));
        back = λ v i.
            let k = plan.only v i in
            let w = wire_of_plan v k.0 in
            (w.0, subst (WireMeans b.names w.0) (sym w.2) (wire_means w.0 w.1), kit.all w.0 w.1 ((same w.0 w.1).1 (subst Q w.2 k.1)));
      }

  -- those of the plan that pass a test
  pub passing : (g : Wire → Bool) → Exactly b.plan.wires (λ w. g w ≡ true) (filter g b.plan.wires)
  passing g =
      record {
        once = left_once g b.plan.wires plan_once;
        only = λ w i. member_filter g w b.plan.wires i;
        all = λ w i t. filter_member g w b.plan.wires i t;
      }

  -- as many pass a test as pass the same one under the names
  pub as_many : (f g : Wire → Bool) → ((w : Wire) → WireNamed b.names w → f w ≡ g (wire_renamed b.names w)) → length (filter g b.plan.wires) ≡ count f b.kit.book.wires
  as_many f g same =
      ap (λ (l : List Wire). length (filter g l)) a.wires
      ∙ (ap length (sym (filter_renamed b.names f g same b.kit.book.wires (wires_named a)))
      ∙ (length-map (filter f b.kit.book.wires) (wire_renamed b.names) ∙ count_is f b.kit.book.wires))

-- and those of them that pass another
pub passing_too : {l : List Wire} {P : Wire → Type 0} {ws : List Wire} → Exactly l P ws → (g : Wire → Bool) → Exactly l (λ w. P w × (g w ≡ true)) (filter g ws)
passing_too {l} {P} {ws} e g =
    record {
      once = left_once g ws e.once;
      only = λ w i. let k = member_filter g w ws i in let o = e.only w k.0 in (o.0, (o.1, k.1));
      all = λ w i p. filter_member g w ws (e.all w i p.0) p.1;
    }
