-- The square (0, 0) of the sphere: one generator goes to the module's, and the kernel is zero.
use Rattle.std.proofs.Common.{◌≡◌, ◌↔◌, ℕ, zero, suc, ◌+◌, ◌<◌, pos, ◌+ℤ◌, Bool, true, false, List, [], ◌∷◌, ◌++◌, length, take, replicate, Option, Some, None, refl, sym, ◌∙◌, ap, subst, arith}
use Rattle.std.specs.Prelude.{slice_get}
use Rattle.bidegree.specs.declared.range.TheConstants.{MAX_S}
use Rattle.f2_vec.specs.Vectors.{bit, zeros}
use Rattle.f2_vec.specs.Spans.{row, HaveWidth, combination, unit_vectors, IsInSpan, IsInKernel}
use Rattle.f2_vec.proofs.Split.{HaveWidth-unit_vectors}
use Rattle.f2_matrix.specs.Echelon.{IsKernelBasis}
use Rattle.f2_matrix.specs.Reduction.{Rows, Reduction, IsReductionOf}
use Rattle.finite_module.specs.Checked.{Checked, sphere_file}
use Rattle.finite_module.specs.DerivedAction.{derived_module}
use Rattle.finite_module.specs.Module.{Module as SteenrodModule, bottom, width}
use Rattle.finite_module.specs.Graded.{module_graded}
use Rattle.finite_module.specs.ModuleLaws.{module_HasUnit}
use Rattle.resolution_laws.specs.Resolution.{Content, IsChosen, IsStep}
use Rattle.resolution_laws.proofs.NewGenerators.{map_rows-new, IsStepOver_from_choice}
use Rattle.square.specs.Squares.{Placed, square_matrix, source_width, IsQuasi, module_over, over, bottom_of}
use Rattle.square.specs.Tables.{Staircase, AllRead, IsNext, IsReadable}
use Rattle.square.proofs.Places.{row_in-none}

abbrev one : List (List Bool)
one = (true ∷ []) ∷ []

abbrev sphere : SteenrodModule
sphere = derived_module sphere_file

-- a vector of length 1 that gives zero is zero
nothing : (c : List Bool) → IsInKernel 1 one c → zeros 1 ≡ c
nothing [] h = absurd (let e = h.one_each in omega arith)
nothing (false ∷ []) h = refl
nothing (true ∷ []) h = let e = h.vanishes in cc
nothing (b ∷ d ∷ c) h = absurd (let e = h.one_each in omega arith)

no_kernel : IsKernelBasis 1 one []
no_kernel = record {
  widths = λ i l. absurd (omega arith);
  spans_kernel = λ c. (λ h. record { coefficients = []; one_each = refl; sum = nothing c h }, λ s. subst (IsInKernel 1 one) (zero_sum c s) (record { one_each = refl; vanishes = refl }));
  reduced = record {
    zero_rows_last = λ i j l z k. refl;
    pivots_rise = λ i j p q l f g. let e = f.one in cc;
    pivots_alone = λ i j p d f. refl;
  };
  nonzero = λ i l. absurd (omega arith);
}
  where
    zero_sum : (c : List Bool) → IsInSpan 1 [] c → false ∷ [] ≡ c
    zero_sum c s = none s.coefficients s.one_each s.sum
      where
        none : (k : List Bool) → length k ≡ 0 → combination 1 k [] ≡ c → false ∷ [] ≡ c
        none [] e f = f
        none (b ∷ k) e f = f

chosen_one : IsChosen 1 [] one one
chosen_one = record { kept = true ∷ []; one_each = refl; dropped = dropped; chosen_are = refl }
  where
    outside : IsInSpan 1 [] (true ∷ []) → true ≡ false
    outside s = none s.coefficients s.sum
      where
        none : (k : List Bool) → combination 1 k [] ≡ true ∷ [] → true ≡ false
        none [] f = cc
        none (b ∷ k) f = cc

    dropped : (i : ℕ) → i < 1 → (bit (true ∷ []) i ≡ false) ↔ IsInSpan 1 ([] ++ take i one) (row one i)
    dropped zero l = (λ e. cc, outside)
    dropped (suc i) l = absurd (omega arith)

-- the dimension of the sphere in its bottom degree, and the matrix of the map that takes a generator there to its own
bottom_width : (m : Checked) → m.plain ≡ sphere → width m.plain.generators (bottom_of m +ℤ pos 0) ≡ 1
bottom_width m e = ap (λ (p : SteenrodModule). width p.generators (bottom p.generators +ℤ pos 0)) e

one_wide : (i : ℕ) → i < 1 → length (row one i) ≡ 1
one_wide zero l = refl
one_wide (suc i) l = absurd (omega arith)

pub first_step : (m : Checked) (below : Option (List Content)) (squares : List Content) (images kernel : List (List Bool)) → m.plain ≡ sphere → below ≡ None → squares ≡ [] → images ≡ one → kernel ≡ [] → IsStep (over m) below squares (record { images = images; kernel = kernel })
first_step m below squares images kernel e1 e2 e3 e4 e5 =
    let c : Content = record { images = images; kernel = kernel } in
    let t = bottom_of m +ℤ pos 0 in
    let n = width m.plain.generators t in
    let wide : n ≡ 1 = bottom_width m e1 in
    let matrix : Rows = record { cols = 1; rows = [] } in
    let chosen1 : IsChosen 1 [] (unit_vectors n) one = subst (λ k. IsChosen 1 [] (unit_vectors k) one) (sym wide) chosen_one in
    let chosen : IsChosen 1 [] (unit_vectors n) images = subst (λ (x : List (List Bool)). IsChosen 1 [] (unit_vectors n) x) (sym e4) chosen1 in
    let kernel1 : IsKernelBasis 1 images [] = subst (λ (x : List (List Bool)). IsKernelBasis 1 x []) (sym e4) no_kernel in
    let kernels : IsKernelBasis 1 images kernel = subst (λ (x : List (List Bool)). IsKernelBasis 1 images x) (sym e5) kernel1 in
    let step : IsStep (over m) None [] c = IsStepOver_from_choice (module_graded m.plain) [] [] (unit_vectors n) t matrix c (module_HasUnit m.plain m.is_module) refl (HaveWidth-unit_vectors n) (sym wide) refl chosen kernels in
    let P : Option (List Content) → Type 0 = λ x. IsStep (over m) x [] c in
    let Q : List Content → Type 0 = λ x. IsStep (over m) below x c in
    subst Q (sym e3) (subst P (sym e2) step)

pub first_quasi : (m : Checked) (below : Option (List Content)) (squares : List Content) (images kernel : List (List Bool)) (r : Reduction) (cols : ℕ) (rows : List (List Bool)) → m.plain ≡ sphere → below ≡ None → squares ≡ [] → images ≡ one → cols ≡ 1 → rows ≡ one → IsReductionOf cols rows r → IsQuasi (over m) below squares (record { images = images; kernel = kernel }) r
first_quasi m below squares images kernel r cols rows e1 e2 e3 e4 e5 e6 is =
    let c : Content = record { images = images; kernel = kernel } in
    let t = bottom_of m +ℤ pos 0 in
    let wide : width m.plain.generators t ≡ 1 = bottom_width m e1 in
    let widths1 : HaveWidth 1 images = subst (HaveWidth 1) (sym e4) (λ i l. one_wide i l) in
    let widths : HaveWidth (width m.plain.generators t) images = subst (λ n. HaveWidth n images) (sym wide) widths1 in
    let matrix : square_matrix (over m) None [] c ≡ images = map_rows-new (module_graded m.plain) [] [] images t (module_HasUnit m.plain m.is_module) refl widths in
    let is1 : IsReductionOf (width m.plain.generators t) rows r = subst (λ n. IsReductionOf n rows r) (e5 ∙ sym wide) is in
    let is2 : IsQuasi (over m) None [] c r = subst (λ (x : List (List Bool)). IsReductionOf (width m.plain.generators t) x r) (e6 ∙ sym e4 ∙ sym matrix) is1 in
    let P : Option (List Content) → Type 0 = λ x. IsQuasi (over m) x [] c r in
    let Q : List Content → Type 0 = λ x. IsQuasi (over m) below x c r in
    subst Q (sym e3) (subst P (sym e2) is2)

-- ---- the same square, read behind no other

none-some : (q : Placed) → None ≡ Some q → ⊥
none-some q e = cc

pub none_read : (n : ℕ) → AllRead (replicate n [])
none_read n s k q e = absurd (none-some q (ap (λ (row : List Placed). slice_get row k) (sym (row_in-none n s)) ∙ e))

first_is_next : (n : ℕ) → IsNext (replicate n []) 0 0
first_is_next n = record {
  absent = let e = ap (length {A = Placed}) (row_in-none n 0) in omega arith;
  before = λ j e. absurd (omega arith);
  below = λ i e. absurd (omega arith);
}

first_bottom : (m : Checked) → m.plain ≡ sphere → bottom_of m +ℤ pos 0 ≡ pos 0
first_bottom m e = ap (λ (p : SteenrodModule). bottom p.generators +ℤ pos 0) e

first_source : (m : Checked) → m.plain ≡ sphere → source_width (over m) [] (record { images = one; kernel = [] }) ≡ 1
first_source m e = ap (λ (p : SteenrodModule). source_width (module_over p) [] (record { images = one; kernel = [] })) e

readable_over : (m : Checked) → m.plain ≡ sphere → IsReadable (record { resolved = m; start = []; rows = replicate (MAX_S + 1) []; spare = 0 }) 0 (pos 0) (record { images = one; kernel = [] })
readable_over m e =
    let wide : width m.plain.generators (bottom_of m +ℤ pos 0) ≡ 1 = bottom_width m e in
    let source = first_source m e in
    record {
      all_read = none_read (MAX_S + 1);
      place = record {
        above = 0;
        degree = sym (first_bottom m e);
        row = omega arith;
        within = omega arith;
        next = first_is_next (MAX_S + 1);
      };
      shape = record {
        image_widths = λ i l. one_wide i l ∙ sym wide;
        images_few = omega arith;
        kernel_widths = λ i l. absurd (omega arith);
        reduced = no_kernel.reduced;
        nonzero = λ i l. absurd (omega arith);
      };
      target_fits = omega arith;
      source_fits = omega arith;
    }

pub first_readable : (m : Checked) (table : Staircase) (images kernel : List (List Bool)) → m.plain ≡ sphere → table ≡ record { resolved = m; start = []; rows = replicate (MAX_S + 1) []; spare = 0 } → images ≡ one → kernel ≡ [] → IsReadable table 0 (pos 0) (record { images = images; kernel = kernel })
first_readable m table images kernel e1 e2 e3 e4 =
    let P : Staircase → Type 0 = λ x. IsReadable x 0 (pos 0) (record { images = one; kernel = [] }) in
    let Q : List (List Bool) → Type 0 = λ x. IsReadable table 0 (pos 0) (record { images = x; kernel = [] }) in
    let R : List (List Bool) → Type 0 = λ x. IsReadable table 0 (pos 0) (record { images = images; kernel = x }) in
    subst R (sym e4) (subst Q (sym e3) (subst P (sym e2) (readable_over m e1)))
