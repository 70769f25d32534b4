-- Every history of the engine that is asked for is covered: its calls have partners one after the other, and the sketch has room for them.
use Rattle.std.specs.Prelude.{◌≡◌, refl, List, [], ◌∷◌, map, ◌+◌, ◌≤◌, length}
use Rattle.std.proofs.Common.{ap, arith}
use Rattle.portgraph.specs.GoodLaws.{empty_model}
use Rattle.portgraph.specs.Model.{Model}
use Rattle.port_tables.specs.declared.release.Release.{Release}
use Rattle.theorems.specs.Book.{Call}
use Rattle.theorems.specs.History.{run}
use Rattle.agreement.specs.Meaning.{Both, Pair, start, next_both}
use Rattle.agreement.specs.Agreement.{HasRoom}
use Rattle.agreement.specs.Histories.{calls, Meant, KitAllows}
use Rattle.agreement.specs.Alike.{Alike}
use Rattle.agreement.specs.Square.{pair}
use Rattle.agreement.specs.NameCounts.{one_add}
use Rattle.agreement.specs.Agrees.{square, start_alike}
use Rattle.agreement.specs.Space.{room_for_both}
use Rattle.agreement.specs.Partners.{sketch_partner}

abbrev call_of : Pair → Call
call_of p = p.call

-- pairs with these calls that mean the same and have room
covers : (b : Both) (M : Model) → Alike b M → (l : List Call) → KitAllows b.kit l → b.plan.adds + length l ≤ 4294967295 → (ps : List Pair) × (map call_of ps ≡ l) × Meant b (map calls ps)
covers b M a [] h few = ([], refl, tt)
covers b M a (c ∷ l) h few =
    let k = sketch_partner a c h.0 in
    let room : HasRoom b (pair c k.0) = record { moves = h.1; kit = h.2; sketched = room_for_both a k.1 h.1 h.2 (omega arith) } in
    let s = square k.1 a room in
    let more = one_add b.plan k.0 in
    let r = covers (next_both b (pair c k.0)) s.model s.alike l h.3 (omega arith) in
    (pair c k.0 ∷ r.0, ap (λ (z : List Call). c ∷ z) r.1, ((k.1, room), r.2))

pub kit_history_covered : (release : Release) (l : List Call) → KitAllows (run release []) l → length l ≤ 4294967295 →
    (ps : List Pair) × (map (λ (p : Pair). p.call) ps ≡ l) × Meant (start release) (map calls ps)
kit_history_covered release l h few = covers (start release) empty_model (start_alike release) l h (omega arith)
