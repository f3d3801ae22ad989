-- Views within views, and views with one square more.
use Rattle.std.proofs.Common.{◌≡◌, ℕ, zero, suc, ◌<◌, List, [], ◌∷◌, ◌++◌, length, refl, ap, arith}
use Rattle.turn_lock.proofs.Histories.{prefix_self, prefix_trans}
use Rattle.live_view.specs.Views.{row_of, IsWithin}
use Rattle.live_view.specs.Inside.Rows.{with_count}

pub within_self : (view : List (List ℕ)) → IsWithin view view
within_self [] = tt
within_self (row ∷ view) = (prefix_self row, within_self view)

pub within_trans : (u v w : List (List ℕ)) → IsWithin u v → IsWithin v w → IsWithin u w
within_trans [] [] [] a b = tt
within_trans [] [] (z ∷ w) a b = absurd b
within_trans [] (y ∷ v) w a b = absurd a
within_trans (x ∷ u) [] w a b = absurd a
within_trans (x ∷ u) (y ∷ v) [] a b = absurd b
within_trans (x ∷ u) (y ∷ v) (z ∷ w) a b = (prefix_trans x y z a.0 b.0, within_trans u v w a.1 b.1)

pub within_length : (u v : List (List ℕ)) → IsWithin u v → length v ≡ length u
within_length [] [] a = refl
within_length [] (y ∷ v) a = absurd a
within_length (x ∷ u) [] a = absurd a
within_length (x ∷ u) (y ∷ v) a = let rest = within_length u v a.1 in omega arith

-- ---- one square more

pub count_same : (view : List (List ℕ)) (s n : ℕ) → s < length view → row_of (with_count view s n) s ≡ row_of view s ++ n ∷ []
count_same [] s n l = absurd (omega arith)
count_same (row ∷ view) zero n l = refl
count_same (row ∷ view) (suc s) n l = count_same view s n (omega arith)

pub count_other : (view : List (List ℕ)) (s r n : ℕ) → (r ≡ s → ⊥) → row_of (with_count view s n) r ≡ row_of view r
count_other [] s r n apart = refl
count_other (row ∷ view) zero zero n apart = absurd (apart refl)
count_other (row ∷ view) zero (suc r) n apart = refl
count_other (row ∷ view) (suc s) zero n apart = refl
count_other (row ∷ view) (suc s) (suc r) n apart = count_other view s r n (λ e. apart (ap (λ (k : ℕ). suc k) e))

pub within_count : (view : List (List ℕ)) (s n : ℕ) → IsWithin view (with_count view s n)
within_count [] s n = tt
within_count (row ∷ view) zero n = ((n ∷ [], refl), within_self view)
within_count (row ∷ view) (suc s) n = (prefix_self row, within_count view s n)
