-- What is true of the fields of a pass.
use Rattle.std.specs.Prelude.{◌≡◌, ◌≢◌, ℕ, true, false, List, [], ◌∷◌, length, Option, Some, None, All}
use mathlib.Core.List.{IsPrefix}
use Rattle.atomic_table.specs.Table.{Me}
use Rattle.turn_lock.specs.declared.view.View.{View}
use Rattle.turn_lock.specs.History.{entries_by}

-- what its seat knows and has in hand agrees with its number and its count
pub record IsPass {T N E : Type 0} (name : N) (number count : ℕ) (me : Me (Option T) (View N E)) : Type 0 where
  pub named : me.0.name ≡ Some name
  pub numbered : me.0.number ≡ number
  pub counted : length me.0.seen ≡ count
  pub own : entries_by number me.0.seen ≡ me.0.own
  pub joined : All (λ (j : ℕ × List E). entries_by j.0 me.0.seen ≡ j.1) me.0.joined
  pub apart : All (λ (j : ℕ × List E). j.0 ≢ number) me.0.joined
  pub in_order : IsPrefix me.0.seen me.0.latest
  pub idle : me.0.holds ≡ false → me.1 ≡ []
  pub holding : me.0.holds ≡ true → (me.1 ≡ (0, None) ∷ []) × (me.0.stored ≡ [])
