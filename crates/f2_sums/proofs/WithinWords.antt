-- The words outside of which rows are zero.
use Rattle.std.proofs.Common.{◌≡◌, inl, inr, ℕ, ◌+◌, ◌*◌, ◌<◌, ◌≤◌, Bool, false, List, min, ap, sym, ◌∙◌, subst, arith}
use Rattle.std.proofs.lemmas.Bool.{cases_eq}
use Rattle.f2_vec.specs.Vectors.{bit, IsZeroFrom, IsWithinWords}
use Rattle.f2_vec.specs.Spans.{row}
use Rattle.f2_sums.proofs.Sums.{wider}

-- the words of the rows so far, and of one row more
abbrev pub AreWithin : ℕ → ℕ → ℕ → List (List Bool) → Type 0
AreWithin n from to rows = (i : ℕ) → i < n → IsWithinWords from to (row rows i)

pub AreWithin-more : (n from to a b first end : ℕ) (rows : List (List Bool)) (r : List Bool) → AreWithin n from to rows → r ≡ row rows n → ((k : ℕ) → k < 64 * first → bit r k ≡ false) → IsZeroFrom r (64 * end) → a ≡ min from first → to ≤ b → end ≤ b → AreWithin (n + 1) a b rows
AreWithin-more n from to a b first end rows r h e p z starts old own = λ i l. elim (cases_eq i n) [
  | inl same ↦ subst (IsWithinWords a b) (e ∙ ap (row rows) (sym same)) (wider first end a b r (omega (arith, starts)) own (record { before = p; behind = z }))
  | inr other ↦ wider from to a b (row rows i) (omega (arith, starts)) old (h i (omega arith))
]
