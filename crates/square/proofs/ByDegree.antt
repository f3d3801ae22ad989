-- The squares of a table by their degrees above the bottom.
use Rattle.std.proofs.Common.{◌≡◌, ℕ, ◌<◌, ◌≤◌, ℤ, pos, ◌+ℤ◌, List, [], Some, None, length, refl, sym, ◌∙◌, ap, subst, arith, inl, inr}
use Rattle.std.specs.Prelude.{option_and_then, IsSome}
use Rattle.std.specs.List.{slice_get}
use Rattle.std.proofs.lemmas.Bool.{cases_lt}
use Rattle.std.proofs.lemmas.List.{get_or_past}
use Rattle.std.proofs.lemmas.Option.{slice_get_within}
use Rattle.bidegree.proofs.Degrees.{above_of-is}
use Rattle.resolution_laws.specs.Resolution.{Content, no_content, row_of}
use Rattle.square.specs.Squares.{Placed, bottom_of}
use Rattle.square.specs.Tables.{Staircase, row_in, plain_rows, content_at, square_at, IsTable}
use Rattle.square.proofs.Places.{length-row_of, slice_get-there, content_at-is}

pub square_at-above : (table : Staircase) (s k : ℕ) (t : ℤ) → t ≡ bottom_of table.resolved +ℤ pos k → square_at table s t ≡ slice_get (row_in table.rows s) k
square_at-above table s k t e = ap (option_and_then (λ j. slice_get (row_in table.rows s) j)) (above_of-is (bottom_of table.resolved) t k e)

-- where there is no square, the row is no longer
pub row_end : (table : Staircase) (s k : ℕ) (t : ℤ) → t ≡ bottom_of table.resolved +ℤ pos k → square_at table s t ≡ None → length (row_in table.rows s) ≤ k
row_end table s k t e none =
    elim (cases_lt k (length (row_in table.rows s))) [
      | inl l ↦
          let there = slice_get-there (row_in table.rows s) k l in
          let some : None ≡ Some there.0 = sym none ∙ (square_at-above table s k t e ∙ there.1) in
          absurd (cc)
      | inr l ↦ l
    ]

-- and where there is one, it is longer
pub row_longer : (table : Staircase) (s k : ℕ) (t : ℤ) (q : Placed) → t ≡ bottom_of table.resolved +ℤ pos k → Some q ≡ square_at table s t → k < length (row_in table.rows s)
row_longer table s k t q e found = slice_get_within (row_in table.rows s) k q (sym (found ∙ square_at-above table s k t e))

pub square_is_there : (table : Staircase) (s k : ℕ) (t : ℤ) → t ≡ bottom_of table.resolved +ℤ pos k → k < length (row_in table.rows s) → IsSome (square_at table s t)
square_is_there table s k t e l =
    let there = slice_get-there (row_in table.rows s) k l in
    subst IsSome (sym (square_at-above table s k t e ∙ there.1)) refl

pub square_not_missing : (table : Staircase) (s k : ℕ) (t : ℤ) → t ≡ bottom_of table.resolved +ℤ pos k → k < length (row_in table.rows s) → None ≡ square_at table s t → ⊥
square_not_missing table s k t e l none = let end = row_end table s k t e (sym none) in absurd (omega arith)

-- what it holds
pub square_holds : (table : Staircase) (s k : ℕ) (t : ℤ) (q : Placed) → t ≡ bottom_of table.resolved +ℤ pos k → Some q ≡ square_at table s t → q.content ≡ content_at table.rows s k
square_holds table s k t q e found = sym (content_at-is table.rows s k q (sym (found ∙ square_at-above table s k t e)))

-- and its own place
pub square_place : (table : Staircase) → IsTable table → (s k : ℕ) (t : ℤ) (q : Placed) → t ≡ bottom_of table.resolved +ℤ pos k → Some q ≡ square_at table s t → q.above ≡ k
square_place table h s k t q e found = (h.placed s k q (sym (found ∙ square_at-above table s k t e))).above_is

-- ---- places in a row

-- where a row ends nothing is held
pub nothing_held : (rows : List (List Placed)) (s k : ℕ) → length (row_in rows s) ≤ k → content_at rows s k ≡ no_content
nothing_held rows s k l = let len = length-row_of rows s in get_or_past (row_of (plain_rows rows) s) k no_content (omega arith)

pub images_missing : (rows : List (List Placed)) (s k : ℕ) → None ≡ slice_get (row_in rows s) k → (content_at rows s k).images ≡ []
images_missing rows s k none =
    elim (cases_lt k (length (row_in rows s))) [
      | inl l ↦ let there = slice_get-there (row_in rows s) k l in let some : None ≡ Some there.0 = none ∙ there.1 in absurd (cc)
      | inr l ↦ ap (λ (c : Content). c.images) (nothing_held rows s k l)
    ]

pub images_held : (rows : List (List Placed)) (s k : ℕ) (q : Placed) → Some q ≡ slice_get (row_in rows s) k → q.content.images ≡ (content_at rows s k).images
images_held rows s k q there = ap (λ (c : Content). c.images) (sym (content_at-is rows s k q (sym there)))
