-- A set of vectors that is a vector and a span has one such vector that is zero at the pivots, and the span has one reduced basis.
use Rattle.std.proofs.Common.{◌≡◌, ℕ, Bool, false, List, length, ap, sym, subst, ◌∙◌}
use Rattle.std.specs.Prelude.{◌↔◌}
use Rattle.std.proofs.lemmas.Bool.{true≢false}
use Rattle.f2_vec.specs.Vectors.{sum_of, bit, plus, zeros, IsZero}
use Rattle.f2_vec.specs.Spans.{HaveWidth, IsInSpan, HaveSameSpan}
use Rattle.f2_vec.proofs.Sums.{bit-sum_of, length-sum_of, sum_of-assoc, sum_of-swap, sum_of-self, sum_of-zeros_left, sum_of-zeros_right, zeros_from_bits, sum_of-cancel_right}
use Rattle.f2_vec.proofs.Spans.{length-IsInSpan, sum-IsInSpan}
use Rattle.f2_matrix.specs.Echelon.{IsReduced, IsRowBasis, RowBasisIsUnique}
use Rattle.f2_matrix.proofs.Unique.{zero_without_first, span_first-IsPivot}
use Rattle.massey.specs.Brackets.{IsZeroAtPivots}

-- a vector of the span of reduced rows that is zero at their pivots is zero
clear_is_zero : (n : ℕ) (rows : List (List Bool)) (v : List Bool) → HaveWidth n rows → IsReduced rows → IsInSpan n rows v → IsZeroAtPivots rows v → IsZero v
clear_is_zero n rows v wide reduced span clear = zero_without_first v (λ p first.
    let pivot = span_first-IsPivot n rows v p wide reduced span first in
    true≢false (sym first.one ∙ clear pivot.0 p pivot.2))

-- u and w, and v and w, together
sum_through : (n : ℕ) (u v w : List Bool) → length v ≡ n → length w ≡ n → sum_of (sum_of u w) (sum_of v w) ≡ sum_of u v
sum_through n u v w e f =
    let inner : sum_of w (sum_of v w) ≡ v = sum_of-swap w v w ∙ (ap (sum_of v) (sum_of-self n w f) ∙ sum_of-zeros_right n v e) in
    sum_of-assoc u w (sum_of v w) ∙ ap (sum_of u) inner

module _ (n : ℕ) (M : List Bool → Type 0) where
  -- the vectors of M are the value and the span of the rows, a reduced basis at whose pivots the value is zero
  pub record IsCoset (value : List Bool) (rows : List (List Bool)) : Type 0 where
    pub fits : length value ≡ n
    pub member : M value
    pub spanning : List (List Bool)
    pub basis : IsRowBasis n spanning rows
    pub clear : IsZeroAtPivots rows value
    pub all : (v : List Bool) → length v ≡ n → M v ↔ IsInSpan n rows (sum_of v value)

  within : (v w : List Bool) (es fs : List (List Bool)) → IsCoset v es → IsCoset w fs → (x : List Bool) → IsInSpan n es x → IsInSpan n fs x
  within v w es fs p k x span =
      let len_v = p.fits in
      let len_w = k.fits in
      let len = length-IsInSpan n es x p.basis.widths span in
      let u = sum_of x v in
      let len_u : length u ≡ n = length-sum_of x v (len ∙ sym len_v) ∙ len in
      let back : sum_of u v ≡ x = sum_of-cancel_right n x v len len_v in
      let member = (p.all u len_u).1 (subst (IsInSpan n es) (sym back) span) in
      let one = (k.all u len_u).0 member in
      let two = (k.all v len_v).0 p.member in
      subst (IsInSpan n fs) (sum_through n u v w len_v len_w ∙ back) (sum-IsInSpan n fs (sum_of u w) (sum_of v w) k.basis.widths one two)

  module _ (unique : RowBasisIsUnique) (v w : List Bool) (es fs : List (List Bool)) (p : IsCoset v es) (k : IsCoset w fs) where
    pub rows_same : es ≡ fs
    rows_same =
        let same : HaveSameSpan n es fs = λ x. (within v w es fs p k x, within w v fs es k p x) in
        unique n p.spanning es fs p.basis (record {
          widths = k.basis.widths;
          same_span = λ x. (λ s. (same x).0 ((p.basis.same_span x).0 s), λ s. (p.basis.same_span x).1 ((same x).1 s));
          reduced = k.basis.reduced;
          nonzero = k.basis.nonzero;
        })

    pub value_same : v ≡ w
    value_same =
        let alike : length v ≡ length w = p.fits ∙ sym k.fits in
        let span = (k.all v p.fits).0 p.member in
        let clear : IsZeroAtPivots fs (sum_of v w) = λ i z first.
        bit-sum_of v w z alike ∙ (ap (λ (x : Bool). plus x (bit w z)) (subst (λ (rows : List (List Bool)). IsZeroAtPivots rows v) rows_same p.clear i z first) ∙ ap (plus false) (k.clear i z first)) in
        let none = clear_is_zero n fs (sum_of v w) k.basis.widths k.basis.reduced span clear in
        let zero : sum_of v w ≡ zeros n = zeros_from_bits n (sum_of v w) (length-sum_of v w alike ∙ p.fits) none in
        sym (sum_of-cancel_right n v w p.fits k.fits) ∙ (ap (λ (x : List Bool). sum_of x w) zero ∙ sum_of-zeros_left n w k.fits)
