-- Monomials that are found once each, put in order.
use Rattle.std.specs.Prelude.{nat_eq}
use Rattle.std.specs.Cmp.Lexicographic.{pointwise, slice_cmp}
use Rattle.std.specs.List.{AllPairs, sum}
use Rattle.std.specs.List.Sorted.{IsPermutation, IsSorted}
use Rattle.std.specs.Ordering.{is_lt, nat_cmp, ordering_reverse}
use Rattle.std.proofs.Common.{◌≡◌, ℕ, ◌-◌, ◌<◌, ◌≤◌, Bool, true, false, cond, Ordering, Less, Equal, Greater, List, [], length, reverse, get_or, refl, sym, ◌∙◌, ap, arith}
use Rattle.std.proofs.lemmas.Bool.{false≢true}
use Rattle.std.proofs.lemmas.Cmp.{nat_list_cmp_total}
use Rattle.std.proofs.lemmas.List.{get_or-reverse, get_or_default, length-reverse}
use Rattle.std.proofs.lemmas.List.Sorted.{All-permutation, IsPermutation-reverse, IsPermutation-trans, ranks_by, sorted_far, sum_by-IsPermutation}
use Rattle.adem_laws.specs.Admissible.{IsAdmissible, IsAdmissibleForm}
use Rattle.adem_laws.proofs.Forms.{equal_is_same, sum_of_values-permutation}
use Rattle.sq_calc.proofs.Counts.{count, found_twice}
use Rattle.sq_calc.specs.Inside.Unordered.{IsUnorderedForm}

-- what is not below another list, and is not the same, is above it
above : (x y : List ℕ) (o : Ordering) → slice_cmp nat_cmp y x ≡ o → is_lt o ≡ false → (y ≡ x → ⊥) → is_lt (slice_cmp nat_cmp x y) ≡ true
above x y Less e below differ = absurd (false≢true (sym below))
above x y Equal e below differ = absurd (differ (equal_is_same y x e))
above x y Greater e below differ = ap is_lt (nat_list_cmp_total.antisymm x y ∙ ap ordering_reverse e)

module _ (ks : List (List ℕ)) (up : IsSorted (slice_cmp nat_cmp) ks) (once : (m : List ℕ) → count m ks ≤ 1) where
  rising : (i j : ℕ) → i < j → j < length ks → is_lt (slice_cmp nat_cmp (get_or ks i []) (get_or ks j [])) ≡ true
  rising i j l k =
      above (get_or ks i []) (get_or ks j []) (slice_cmp nat_cmp (get_or ks j []) (get_or ks i [])) refl
      (sorted_far (λ x y. is_lt (slice_cmp nat_cmp x y)) (ranks_by nat_list_cmp_total (λ x. x)) ks up i j [] (omega arith) k)
      (λ same. omega (arith, found_twice (get_or ks i []) ks i j l k refl same, once (get_or ks i [])))

  falling : AllPairs (λ m k. is_lt (slice_cmp nat_cmp k m) ≡ true) (reverse ks)
  falling i j d l k =
      let n : ℕ = length ks in
      let whole : length (reverse ks) ≡ n = length-reverse ks in
      let first : get_or (reverse ks) i d ≡ get_or ks (n - 1 - i) [] = get_or-reverse ks i d (omega arith) ∙ get_or_default ks (n - 1 - i) d [] (omega arith) in
      let second : get_or (reverse ks) j d ≡ get_or ks (n - 1 - j) [] = get_or-reverse ks j d (omega arith) ∙ get_or_default ks (n - 1 - j) d [] (omega arith) in
      ap (λ x. is_lt (slice_cmp nat_cmp x (get_or (reverse ks) i d))) second
      ∙ ap (λ x. is_lt (slice_cmp nat_cmp (get_or ks (n - 1 - j) []) x)) first
      ∙ rising (n - 1 - j) (n - 1 - i) (omega arith) (omega arith)

pub put_in_order : (n : ℕ) (v : List Bool) (ms ks : List (List ℕ)) → IsUnorderedForm n v ms → IsPermutation ms ks → IsSorted (slice_cmp nat_cmp) ks → IsAdmissibleForm n v (reverse ks)
put_in_order n v ms ks form moves up =
    let whole : IsPermutation ms (reverse ks) = IsPermutation-trans ms ks (reverse ks) moves (IsPermutation-reverse ks) in
    record {
      admissible = All-permutation (λ m. IsAdmissible m × (sum m ≡ n)) ms (reverse ks) whole form.admissible;
      in_order = falling ks up (λ m. omega (arith, sum_by-IsPermutation (λ y. cond (pointwise nat_eq m y) 1 0) ms ks moves, form.once m));
      sum_is = sum_of_values-permutation n ms (reverse ks) form.admissible whole ∙ form.sum_is;
    }
