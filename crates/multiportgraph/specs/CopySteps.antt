-- Hidden nodes that go and marks that move: what the calls of the code give amounts to the definitions.
use Rattle.std.specs.Prelude.{◌≡◌, Bool, true, false, cond, List, ℕ, ◌-◌, length, set}
use Rattle.std.proofs.Common.{sym, ap, ◌∙◌, length-set}
use Rattle.port_tables.specs.Limits.{node_slots, port_slots}
use Rattle.port_tables.specs.Entries.{reversed}
use Rattle.portgraph.specs.Lookups.{num_ports}
use Rattle.portgraph.specs.Calls.{remove_node}
use Rattle.port_tables.specs.declared.direction.Direction.{Direction}
use Rattle.portgraph.specs.declared.alloc.NodeRemoved.{NodeRemoved}
use Rattle.multiportgraph.specs.Graph.{multi}
use Rattle.multiportgraph.specs.Reading.{port_of, is_split, copy_node, copy_side}
use Rattle.multi_tables.specs.Forms.{put_flag}
use Rattle.multi_tables.specs.FormSteps.{put_flag_is}
use Rattle.multiportgraph.specs.declared.multiportgraph.MultiPortGraph.{MultiPortGraph}
use Rattle.multiportgraph.specs.HiddenNodes.{remove_copy, unsplit}

-- two marks stored
pub two_puts : (t : List Bool) (size i j : ℕ) (a b : Bool) → length t ≡ size → put_flag (put_flag t size i a) size j b ≡ set (set t i a) j b
two_puts t size i j a b h =
    ap (λ (l : List Bool). put_flag l size j b) (put_flag_is t size i a h) ∙ put_flag_is (set t i a) size j b (length-set t i a ∙ h)

-- Removing a hidden node.
pub copy_removed :
    (m : MultiPortGraph) (p n : ℕ) {side back : Direction} {copy count w₁ w₂ w₃ copies subs : ℕ} {r : NodeRemoved} {t₁ t₂ t₃ : List Bool} →
    length m.multiport ≡ port_slots →
    length m.copy_node ≡ node_slots →
    side ≡ copy_side m n →
    copy ≡ port_of m.graph n side 0 →
    back ≡ reversed side →
    count ≡ num_ports m.graph n back →
    r ≡ remove_node m.graph n →
    w₁ ≡ copy →
    t₁ ≡ put_flag m.multiport port_slots w₁ false →
    w₂ ≡ p →
    t₂ ≡ put_flag t₁ port_slots w₂ false →
    w₃ ≡ n →
    t₃ ≡ put_flag m.copy_node node_slots w₃ false →
    copies ≡ m.copy_node_count - 1 →
    subs ≡ m.subport_count - count →
    ◌≡◌ {A = MultiPortGraph} (multi r.graph t₂ t₃ copies subs m.release) (remove_copy m p n)
unfolding remove_copy
copy_removed m p n {side} {back} {copy} {count} {w₁} {w₂} {w₃} {copies} {subs} {r} {t₁} {t₂} {t₃} long flags e₁ e₂ e₃ e₄ e₅ e₆ e₇ e₈ e₉ f₁ f₂ f₃ f₄ =
    let marks_is : t₂ ≡ set (set m.multiport (port_of m.graph n (copy_side m n) 0) false) p false = rw (e₉, e₇, e₈, e₆, e₂, e₁) (two_puts m.multiport port_slots _ p false false long) in
    let flags_is : t₃ ≡ set m.copy_node n false = rw (f₂, f₁) (put_flag_is m.copy_node node_slots n false flags) in
    let subs_is : subs ≡ m.subport_count - num_ports m.graph n (reversed (copy_side m n)) = rw (f₄, e₄, e₃, e₁) in
    rw (e₅, marks_is, flags_is, f₃, subs_is)

pub unsplit_split : (m : MultiPortGraph) (p n : ℕ) {r : MultiPortGraph} → is_split m p ≡ true → n ≡ copy_node m p → r ≡ remove_copy m p n → r ≡ unsplit m p
unfolding unsplit
unsplit_split m p n s e f = f ∙ (ap (remove_copy m p) e ∙ ap (λ (b : Bool). cond b (remove_copy m p (copy_node m p)) m) (sym s))

pub unsplit_plain : (m : MultiPortGraph) (p : ℕ) → is_split m p ≡ false → m ≡ unsplit m p
unfolding unsplit
unsplit_plain m p s = ap (λ (b : Bool). cond b (remove_copy m p (copy_node m p)) m) (sym s)
