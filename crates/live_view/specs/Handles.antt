-- A writer and its reader, as contracts see them.
use Rattle.std.specs.Prelude.{◌≡◌, ℤ}
use Rattle.bidegree.specs.declared.range.Range.{Range}
use mathlib.Core.List.{IsPrefix}
use Rattle.live_view.specs.Published.{KnownViews}

-- a writer or a reader: its range, the least degree, and the views that it knows, of which it shows the last
pub record LiveState : Type 0 where
  pub range : Range
  pub bottom : ℤ
  pub known : KnownViews

-- it, knowing these views
abbrev pub with_known : LiveState → KnownViews → LiveState
with_known state known = record state { known = known }

-- all that was known is known still, and is of the one writer
pub record Continues (old new : KnownViews) : Type 0 where
  pub book : new.book ≡ old.book
  pub published : IsPrefix old.published new.published
