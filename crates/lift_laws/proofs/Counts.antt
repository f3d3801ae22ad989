-- The classes of a square, and their places, in a table and in a part of it.
use Rattle.std.proofs.Common.{◌≡◌, ℕ, ◌+◌, ◌≤◌, pos, ◌+ℤ◌, Bool, List, length, take, ap, ◌∙◌, arith}
use Rattle.std.proofs.lemmas.List.{take-take, get_or-take}
use Rattle.free_module.specs.FreeModule.{free_width}
use Rattle.resolution_laws.specs.Resolution.{Module, Content, no_content, square_in, degrees_from, images_of, row_of}
use Rattle.lift_laws.specs.Lifts.{Resolution}
use Rattle.lift_laws.specs.Products.{first_of, count_of, old_width, on_square}

module _ (m : Module) (rows part : List (List Content)) (k t : ℕ) (same : row_of part k ≡ take (t + 1) (row_of rows k)) where
  abbrev whole : Resolution
  whole = record { base = m; table = rows }

  abbrev less : Resolution
  less = record { base = m; table = part }

  before-less : (n : ℕ) → n ≤ t → take n (row_of part k) ≡ take n (row_of rows k)
  before-less n h = ap (take n) same ∙ take-take n (t + 1) (row_of rows k) (omega arith)

  pub first_of-less : (n : ℕ) → n ≤ t → first_of less k n ≡ first_of whole k n
  first_of-less n h = ap (λ (z : List Content). length (images_of z)) (before-less n h)

  pub count_of-less : (n : ℕ) → n ≤ t → count_of less k n ≡ count_of whole k n
  count_of-less n h = ap (λ (z : List Content). length (square_in z n).images) same ∙ ap (λ (c : Content). length c.images) (get_or-take (t + 1) (row_of rows k) n no_content (omega arith))

  pub old_width-less : (n : ℕ) → n ≤ t → old_width less k n ≡ old_width whole k n
  old_width-less n h = ap (λ (z : List Content). free_width (degrees_from m.bottom z) (m.bottom +ℤ pos n)) (before-less n h)

  pub on_square-less : (n : ℕ) (f : ℕ → Bool) → n ≤ t → on_square less k n f ≡ on_square whole k n f
  on_square-less n f h = rw (first_of-less n h, count_of-less n h)
