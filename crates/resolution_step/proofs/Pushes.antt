-- Squares of a table that grows, and the place of a new one.
use Rattle.std.proofs.Common.{◌≡◌, ℕ, ◌<◌, ℤ, List, length, Some, sym, ◌∙◌, ap, subst, arith}
use Rattle.std.specs.Prelude.{slice_get}
use Rattle.std.proofs.lemmas.Int.{ints}
use Rattle.resolution_laws.specs.Start.{Entry, IsOf}
use Rattle.square.specs.Squares.{Placed, module_over, over}
use Rattle.square.specs.Tables.{Staircase, row_in, with_square, IsNext, IsNextAt}
use Rattle.square.proofs.Growing.{read_new, read_other, place_cases}
use Rattle.square.proofs.Places.{next_length}
use Rattle.resolution_step.specs.Alone.{AreOfStart}
use Rattle.resolution_step.specs.Inside.Adding.{IsNewAt}

-- its squares are those of its start's table
pub AreOfStart-same : (before after : Staircase) → after.resolved ≡ before.resolved → after.start ≡ before.start → after.rows ≡ before.rows → AreOfStart before → AreOfStart after
AreOfStart-same before after e f g are s k q there =
    let r = ap module_over (ap (λ x. x.plain) e) in
    let here : slice_get (row_in before.rows s) k ≡ Some q = ap (λ (x : List (List Placed)). slice_get (row_in x s) k) (sym g) ∙ there in
    let P = λ (x : List Entry). IsOf (over before.resolved) x s k q.content in
    subst (λ m. IsOf m after.start s k q.content) (sym r) (subst P (sym f) (are s k q here))

pub AreOfStart-push : (before after : Staircase) (q : Placed) → after.resolved ≡ before.resolved → after.start ≡ before.start → after.rows ≡ with_square before.rows q.s q → q.s < length before.rows → IsNext before.rows q.s q.above → IsOf (over before.resolved) before.start q.s q.above q.content → AreOfStart before → AreOfStart after
AreOfStart-push before after q e f g l next new are s k p there =
    let r = ap module_over (ap (λ x. x.plain) e) in
    let m = over before.resolved in
    let len = next_length before.rows q.s q.above next in
    let read : slice_get (row_in (with_square before.rows q.s q) s) k ≡ Some p = ap (λ (x : List (List Placed)). slice_get (row_in x s) k) (sym g) ∙ there in
    let P = λ (x : List Entry). IsOf m x s k p.content in
    let here : IsOf m before.start s k p.content =
    place_cases q.s q.above s k
    (λ a b.
    let found : slice_get (row_in (with_square before.rows q.s q) s) k ≡ Some q =
    ap (λ (x : ℕ). slice_get (row_in (with_square before.rows q.s q) x) k) a ∙ (ap (slice_get (row_in (with_square before.rows q.s q) q.s)) b ∙ read_new before.rows q.s q.above q l len) in
    let same : q ≡ p = cc in
    let A : ℕ → Type 0 = λ x. IsOf m before.start x k p.content in
    let B : ℕ → Type 0 = λ x. IsOf m before.start q.s x p.content in
    let C : Placed → Type 0 = λ x. IsOf m before.start q.s q.above x.content in
    subst A (sym a) (subst B (sym b) (subst C same new)))
    (λ off. are s k p (sym (read_other before.rows q.s q.above s k q l len off) ∙ read)) in
    subst (λ m. IsOf m after.start s k p.content) (sym r) (subst P (sym f) here)

-- the place of a new square
pub IsNext-new : (table : Staircase) (s : ℕ) (t u : ℤ) (q : Placed) → u ≡ t → IsNextAt table s t → IsNewAt table s u q → IsNext table.rows q.s q.above
IsNext-new table s t u q e place new =
    let same : place.above ≡ q.above = omega (arith, ints, place.degree, new.degree) in
    subst (λ (x : ℕ). IsNext table.rows x q.above) (sym new.s_is) (subst (IsNext table.rows s) same place.next)
