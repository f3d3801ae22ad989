use Rattle.std.specs.Prelude.{◌≡◌, ℕ, suc, List, ◌++◌, map, length, Option, Some, None, option_map}
use Rattle.module_json.specs.Actions.{pieces, with_names}
use Rattle.module_json.specs.Inside.Cut.{later_pieces}
use Rattle.module_json.proofs.action.names_of_sum.Given as goal

abbrev length_left : Option (List ℕ) → ℕ
length_left None = 0
length_left (Some text) = suc (length text)

abbrev pub invariant-loop-left : goal.invariant-loop-left
invariant-loop-left l = with_names (pieces 43 l.fn.text) ≡ option_map (λ names. map (λ w. w.now) l.names.items ++ names) (with_names (later_pieces 43 (option_map (λ t. t.now) l.left)))

abbrev pub decreases-loop-left : goal.decreases-loop-left
decreases-loop-left l = length_left (option_map (λ t. t.now) l.left)
