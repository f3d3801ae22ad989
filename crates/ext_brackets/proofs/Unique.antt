-- There is at most one answer to what is asked of a bracket.
use Rattle.std.proofs.Common.{◌≡◌, inl, inr, ℕ, ◌+◌, Bool, false, List, length, ap, sym, subst, ◌∙◌, arith}
use Rattle.std.specs.Prelude.{◌↔◌, Option, Some, None, MatchOption, Result, Ok, Err, IsOkAnd}
use Rattle.std.proofs.lemmas.Bool.{true≢false}
use Rattle.bidegree.specs.declared.range.Range.{Range}
use Rattle.bidegree.specs.declared.class.Class.{Class}
use Rattle.f2_vec.specs.Vectors.{sum_of, bit, plus, zeros, IsZero}
use Rattle.f2_vec.specs.Spans.{HaveWidth, IsInSpan, HaveSameSpan}
use Rattle.f2_vec.proofs.Sums.{bit-sum_of, length-sum_of, sum_of-assoc, sum_of-swap, sum_of-self, sum_of-zeros_left, sum_of-zeros_right, zeros_from_bits, sum_of-cancel_right}
use Rattle.f2_vec.proofs.Spans.{length-IsInSpan, sum-IsInSpan}
use Rattle.f2_matrix.specs.Echelon.{IsReduced, IsRowBasis, RowBasisIsUnique}
use Rattle.f2_matrix.proofs.Unique.{zero_or_first, zero_without_first, span_first-IsPivot}
use Rattle.lift_laws.specs.Lifts.{Resolution}
use Rattle.lift_laws.specs.Products.{Class as ClassAbove, count_of}
use Rattle.bracket_laws.specs.Brackets.{top_of, IsBracketMember}
use Rattle.chain_map.proofs.Classes.{class_is_once}
use Rattle.massey.specs.Brackets.{IsZeroAtPivots, IsBracketOf}
use Rattle.ext_products.specs.declared.refusal.Pair.{Pair}
use Rattle.ext_products.specs.declared.refusal.Pair.TheVariants.{Ab, Bc}
use Rattle.ext_products.specs.declared.refusal.Refusal.{Refusal}
use Rattle.ext_products.specs.Products.{HasOneAnswer}
use Rattle.ext_brackets.specs.Brackets.{refusal_of, not_zero, IsBracketText, IsToldOf, IsTold, IsBracketAnswer}
use Rattle.ext_brackets.proofs.Members.{length-member}

-- ---- vectors

-- a vector of the span of reduced rows that is zero at their pivots is zero
clear_is_zero : (n : ℕ) (rows : List (List Bool)) (v : List Bool) → HaveWidth n rows → IsReduced rows → IsInSpan n rows v → IsZeroAtPivots rows v → IsZero v
clear_is_zero n rows v wide reduced span clear = zero_without_first v (λ p first.
    let pivot = span_first-IsPivot n rows v p wide reduced span first in
    true≢false (sym first.one ∙ clear pivot.0 p pivot.2))

-- u and w, and v and w, together
sum_through : (n : ℕ) (u v w : List Bool) → length v ≡ n → length w ≡ n → sum_of (sum_of u w) (sum_of v w) ≡ sum_of u v
sum_through n u v w e f =
    let inner : sum_of w (sum_of v w) ≡ v = sum_of-swap w v w ∙ (ap (sum_of v) (sum_of-self n w f) ∙ sum_of-zeros_right n v e) in
    sum_of-assoc u w (sum_of v w) ∙ ap (sum_of u) inner

-- ---- brackets

module _ (unique : RowBasisIsUnique) (r q : Resolution) (a b c : ClassAbove) where
  -- how many classes there are in the square of the bracket
  abbrev size : ℕ → ℕ
  size n = count_of r (n + a.s) (a.above + b.above + c.above)

  -- what a bracket says, with the two rows that are named by others
  record IsCoset (n l : ℕ) (value : List Bool) (rows : List (List Bool)) : Type 0 where
    pub member : IsBracketMember r q a b c n l (top_of r a b c) value
    pub spanning : List (List Bool)
    pub basis : IsRowBasis (count_of r (n + a.s) (a.above + b.above + c.above)) spanning rows
    pub clear : IsZeroAtPivots rows value
    pub all : (v : List Bool) → length v ≡ count_of r (n + a.s) (a.above + b.above + c.above) → IsBracketMember r q a b c n l (top_of r a b c) v ↔ IsInSpan (count_of r (n + a.s) (a.above + b.above + c.above)) rows (sum_of v value)

  coset_of : (value : List Bool) (rows : List (List Bool)) (k : IsBracketOf r q a b c value rows) → IsCoset k.n k.l value rows
  coset_of value rows k = record { member = k.member; spanning = k.spanning; basis = k.basis; clear = k.clear; all = k.all }

  module _ (n l : ℕ) (v w : List Bool) (es fs : List (List Bool)) (p : IsCoset n l v es) (k : IsCoset n l w fs) where
    within : (x : List Bool) → IsInSpan (size n) es x → IsInSpan (size n) fs x
    within x span =
        let len_v = length-member r q a b c n l (top_of r a b c) v p.member in
        let len_w = length-member r q a b c n l (top_of r a b c) w k.member in
        let len = length-IsInSpan (size n) es x p.basis.widths span in
        let u = sum_of x v in
        let len_u : length u ≡ size n = length-sum_of x v (len ∙ sym len_v) ∙ len in
        let back : sum_of u v ≡ x = sum_of-cancel_right (size n) x v len len_v in
        let member = (p.all u len_u).1 (subst (IsInSpan (size n) es) (sym back) span) in
        let one = (k.all u len_u).0 member in
        let two = (k.all v len_v).0 p.member in
        subst (IsInSpan (size n) fs) (sum_through (size n) u v w len_v len_w ∙ back) (sum-IsInSpan (size n) fs (sum_of u w) (sum_of v w) k.basis.widths one two)

  module _ (n l : ℕ) (v w : List Bool) (es fs : List (List Bool)) (p : IsCoset n l v es) (k : IsCoset n l w fs) where
    rows_same : es ≡ fs
    rows_same =
        let same : HaveSameSpan (size n) es fs = λ x. (within n l v w es fs p k x, within n l w v fs es k p x) in
        unique (size n) p.spanning es fs p.basis (record {
          widths = k.basis.widths;
          same_span = λ x. (λ s. (same x).0 ((p.basis.same_span x).0 s), λ s. (p.basis.same_span x).1 ((same x).1 s));
          reduced = k.basis.reduced;
          nonzero = k.basis.nonzero;
        })

    value_same : v ≡ w
    value_same =
        let len_v = length-member r q a b c n l (top_of r a b c) v p.member in
        let len_w = length-member r q a b c n l (top_of r a b c) w k.member in
        let alike : length v ≡ length w = len_v ∙ sym len_w in
        let span = (k.all v len_v).0 p.member in
        let clear : IsZeroAtPivots fs (sum_of v w) = λ i z first.
        bit-sum_of v w z alike ∙ (ap (λ (x : Bool). plus x (bit w z)) (subst (λ (rows : List (List Bool)). IsZeroAtPivots rows v) rows_same p.clear i z first) ∙ ap (plus false) (k.clear i z first)) in
        let none = clear_is_zero (size n) fs (sum_of v w) k.basis.widths k.basis.reduced span clear in
        let zero : sum_of v w ≡ zeros (size n) = zeros_from_bits (size n) (sum_of v w) (length-sum_of v w alike ∙ len_v) none in
        sym (sum_of-cancel_right (size n) v w len_v len_w) ∙ (ap (λ (x : List Bool). sum_of x w) zero ∙ sum_of-zeros_left (size n) w len_w)

  module _ (v w : List Bool) (es fs : List (List Bool)) (p : IsBracketOf r q a b c v es) (k : IsBracketOf r q a b c w fs) where
    other : IsCoset p.n p.l w fs
    other =
        let n : k.n ≡ p.n = omega arith in
        let l : k.l ≡ p.l = omega arith in
        subst (λ (i : ℕ). IsCoset i p.l w fs) n (subst (λ (i : ℕ). IsCoset k.n i w fs) l (coset_of w fs k))

    bracket_values : v ≡ w
    bracket_values = value_same p.n p.l v w es fs (coset_of v es p) other

    bracket_rows : es ≡ fs
    bracket_rows = rows_same p.n p.l v w es fs (coset_of v es p) other

-- ---- what is told

-- a product, where it is not zero, and else what is told then, decides
product-unique : (pair : Pair) (a x : Class) (r q : Resolution) (y z : ClassAbove) (s t : Result (List ℕ) Refusal) (P Q : Type 0) → (P → Q → s ≡ t) → IsToldOf pair a x r q y z s P → IsToldOf pair a x r q y z t Q → s ≡ t
product-unique pair a x r q y z s t P Q alike p k =
    let same : p.value ≡ k.value = p.product.each k.value k.product.some in
    elim (zero_or_first p.value) [
      | inl zero ↦ alike (p.zero zero) (k.zero (subst IsZero same zero))
      | inr first ↦
          let some : IsZero p.value → ⊥ = λ zero. true≢false (sym first.1.one ∙ zero first.0) in
          let told : List Bool → Result (List ℕ) Refusal = λ v. Err (not_zero pair a x v) in
          p.nonzero some ∙ (ap told same ∙ sym (k.nonzero (λ zero. some (subst IsZero (sym same) zero))))
    ]

module _ (unique : RowBasisIsUnique) (r q : Resolution) (a b c : Class) where
  text-unique : (x y z : ClassAbove) (s t : List ℕ) → IsBracketText a b c r q x y z s → IsBracketText a b c r q x y z t → s ≡ t
  text-unique x y z s t p k =
      let value = bracket_values unique r q x y z p.value k.value p.rows k.rows p.bracket k.bracket in
      let rows = bracket_rows unique r q x y z p.value k.value p.rows k.rows p.bracket k.bracket in
      cc

  made-unique : (x y z : ClassAbove) (s t : Result (List ℕ) Refusal) → IsOkAnd s (IsBracketText a b c r q x y z) → IsOkAnd t (IsBracketText a b c r q x y z) → s ≡ t
  made-unique x y z (Ok s) (Ok t) p k = ap (λ (u : List ℕ). Ok u) (text-unique x y z s t p k)
  made-unique x y z (Ok s) (Err e) p k = absurd k
  made-unique x y z (Err e) t p k = absurd p

  -- what is told of classes that are there, and where ab is zero, by the classes that they are
  abbrev IsLowerAt : ClassAbove → ClassAbove → ClassAbove → Result (List ℕ) Refusal → Type 0
  IsLowerAt x y z s = IsToldOf Bc b c r q y z s (IsOkAnd s (IsBracketText a b c r q x y z))

  abbrev IsToldAt : ClassAbove → ClassAbove → ClassAbove → Result (List ℕ) Refusal → Type 0
  IsToldAt x y z s = IsToldOf Ab a b q q x y s (IsLowerAt x y z s)

  told-unique : (s t : Result (List ℕ) Refusal) → IsTold a b c r q s → IsTold a b c r q t → s ≡ t
  told-unique s t p k =
      let x : k.x ≡ p.x = class_is_once q a k.x p.x k.a_at p.a_at in
      let y : k.y ≡ p.y = class_is_once q b k.y p.y k.b_at p.b_at in
      let z : k.z ≡ p.z = class_is_once r c k.z p.z k.c_at p.c_at in
      let told : IsToldAt p.x p.y p.z t = subst (λ (o : ClassAbove). IsToldAt p.x p.y o t) z (subst (λ (o : ClassAbove). IsToldAt p.x o k.z t) y (subst (λ (o : ClassAbove). IsToldAt o k.y k.z t) x k.told)) in
      let text : Result (List ℕ) Refusal → Type 0 = λ s. IsOkAnd s (IsBracketText a b c r q p.x p.y p.z) in
      product-unique Ab a b q q p.x p.y s t (IsLowerAt p.x p.y p.z s) (IsLowerAt p.x p.y p.z t) (product-unique Bc b c r q p.y p.z s t (text s) (text t) (made-unique p.x p.y p.z s t)) p.told told

  answer-unique : (refusal : Option Refusal) (s t : Result (List ℕ) Refusal) → MatchOption refusal (IsTold a b c r q s) (λ e. s ≡ Err e) → MatchOption refusal (IsTold a b c r q t) (λ e. t ≡ Err e) → s ≡ t
  answer-unique None s t p k = told-unique s t p k
  answer-unique (Some e) s t p k = p ∙ sym k

pub answers-unique : RowBasisIsUnique → (range : Range) (a b c : Class) → HasOneAnswer (IsBracketAnswer range a b c)
answers-unique unique range a b c r q s t p k = answer-unique unique r q a b c (refusal_of range a b c r q) s t p k
