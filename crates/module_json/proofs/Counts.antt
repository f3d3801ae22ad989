-- How many members and items a value read as JSON has.
use Rattle.std.specs.Prelude.{◌≡◌, List, [], ◌∷◌, length, String, refl}
use Rattle.std.specs.declared.alloc.Global.{Global}
use Rattle.std.proofs.Common.{arith}
use Rattle.serde_json.specs.View.{items_view, members_view}
use Rattle.serde_json.specs.declared.value.Value.{Value}
use Rattle.module_json.specs.Checks.{members_count, items_count}

pub members_counted : (ms : List (String Global × Value)) → members_count (members_view ms) ≡ length ms
members_counted [] = refl
members_counted (m ∷ ms) = omega (arith, members_counted ms)

pub items_counted : (vs : List Value) → items_count (items_view vs) ≡ length vs
items_counted [] = refl
items_counted (v ∷ vs) = omega (arith, items_counted vs)
