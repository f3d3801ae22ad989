-- The entries of a file, one after another, against their derived values.
use Rattle.std.proofs.Common.{◌≡◌, ℕ, suc, ◌+◌, pos, ◌+ℤ◌, Bool, true, false, cond, List, [], ◌∷◌, length, drop, IsTrue, ◌||◌, slice_get, Some, refl, ap, sym, subst, ◌∙◌}
use Rattle.std.specs.Bool.{beq}
use Rattle.std.specs.Int.{is_power_of_two}
use Rattle.std.specs.Cmp.{booleans_Decides}
use Rattle.std.specs.Cmp.Lexicographic.{pointwise, pointwise_decides}
use Rattle.std.proofs.Math.Numerals.{add-one}
use Rattle.std.proofs.Math.Seq.{drop-cons}
use Rattle.std.proofs.lemmas.Option.{get_or_from_slice_get, slice_get_within}
use Rattle.f2_vec.specs.Vectors.{sum_of, IsZero}
use Rattle.module_spec.specs.Spec.{Entry, degree_at}
use Rattle.finite_module.specs.Module.{Module, width, value}
use Rattle.finite_module.specs.DerivedAction.{sum_vector}
use Rattle.module_check.specs.Acceptance.{is_as_derived, listed_from}
use Rattle.finite_module.specs.Operators.{HaveWidths}
use Rattle.module_check.specs.declared.fault.CheckFault.TheVariants.{Listed}
use Rattle.finite_module.proofs.Widths.{degree_of-single}
use Rattle.finite_module.proofs.Derived.{length-sum_vector}
use Rattle.module_check.proofs.Sides.{same_vectors, same_bits, IsZero-sum_of_same}

-- the entries from k on
listed_at : (m : Module) (es : List Entry) (k : ℕ) (e : Entry) → slice_get es k ≡ Some e → listed_from m k (drop k es) ≡ cond (is_as_derived m e) (listed_from m (k + 1) (drop (k + 1) es)) (Some (Listed k))
listed_at m es k e at =
    let split : drop k es ≡ e ∷ drop (suc k) es = drop-cons es k e (slice_get_within es k e at) ∙ ap (λ x. x ∷ drop (suc k) es) (get_or_from_slice_get es k e e at) in
    ap (listed_from m k) split ∙ ap (λ j. cond (is_as_derived m e) (listed_from m j (drop j es)) (Some (Listed k))) (sym (add-one k))

pub listed_more : (m : Module) (es : List Entry) (k : ℕ) (e : Entry) → slice_get es k ≡ Some e → is_as_derived m e ≡ true → listed_from m k (drop k es) ≡ listed_from m (k + 1) (drop (k + 1) es)
listed_more m es k e at h = listed_at m es k e at ∙ ap (λ b. cond b (listed_from m (k + 1) (drop (k + 1) es)) (Some (Listed k))) h

pub listed_found : (m : Module) (es : List Entry) (k : ℕ) (e : Entry) → slice_get es k ≡ Some e → is_as_derived m e ≡ false → listed_from m k (drop k es) ≡ Some (Listed k)
listed_found m es k e at h = listed_at m es k e at ∙ ap (λ b. cond b (listed_from m (k + 1) (drop (k + 1) es)) (Some (Listed k))) h

-- what the test of a sum against a value tells, where their sum is compared with zero
module _ (m : Module) (n i : ℕ) (numbers : List ℕ) (vector sum : List Bool) (widths : HaveWidths m.generators m.operators) (made : vector ≡ sum_vector m.generators numbers (degree_at m.generators i +ℤ pos n)) (added : sum ≡ sum_of vector (value m.generators m.operators (n ∷ []) i)) where
  one_width : length vector ≡ length (value m.generators m.operators (n ∷ []) i)
  one_width =
      ap length made ∙ length-sum_vector m.generators numbers (degree_at m.generators i +ℤ pos n)
      ∙ ap (λ k. width m.generators (degree_at m.generators i +ℤ pos k)) (sym (degree_of-single n)) ∙ sym (widths (n ∷ []) i)

  compared : (b : Bool) → (IsTrue b → IsZero sum) → (IsZero sum → IsTrue b) → b ≡ pointwise beq (value m.generators m.operators (n ∷ []) i) (sum_vector m.generators numbers (degree_at m.generators i +ℤ pos n))
  compared true h g =
      let same : vector ≡ value m.generators m.operators (n ∷ []) i = same_bits vector (value m.generators m.operators (n ∷ []) i) one_width (subst IsZero added (h refl)) in
      sym ((pointwise_decides booleans_Decides (value m.generators m.operators (n ∷ []) i) (sum_vector m.generators numbers (degree_at m.generators i +ℤ pos n))).1 (sym same ∙ made))
  compared false h g = by_test (pointwise beq (value m.generators m.operators (n ∷ []) i) (sum_vector m.generators numbers (degree_at m.generators i +ℤ pos n))) refl
    where
      by_test : (t : Bool) → pointwise beq (value m.generators m.operators (n ∷ []) i) (sum_vector m.generators numbers (degree_at m.generators i +ℤ pos n)) ≡ t → false ≡ t
      by_test true e =
          g (subst IsZero (sym added) (IsZero-sum_of_same vector (value m.generators m.operators (n ∷ []) i) (made ∙ sym (same_vectors (value m.generators m.operators (n ∷ []) i) (sum_vector m.generators numbers (degree_at m.generators i +ℤ pos n)) e))))
      by_test false e = refl

  pub as_derived : (b : Bool) → is_power_of_two n ≡ false → (IsTrue b → IsZero sum) → (IsZero sum → IsTrue b) → b ≡ is_as_derived m (record { n = n; generator = i; sum = numbers })
  as_derived b e h g = compared b h g ∙ ap (λ t. t || pointwise beq (value m.generators m.operators (n ∷ []) i) (sum_vector m.generators numbers (degree_at m.generators i +ℤ pos n))) (sym e)
