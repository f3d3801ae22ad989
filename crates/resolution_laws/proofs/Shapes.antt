-- A content of a start's table has the shape of a square there, also where the step gives it.
use Rattle.std.proofs.Common.{◌≡◌, ℕ, zero, suc, ◌<◌, ◌≤◌, pos, ◌+ℤ◌, Bool, true, false, List, [], ◌∷◌, ◌++◌, length, replicate, Option, Some, None, MatchOption, refl, sym, ◌∙◌, ap, subst, arith, add-one}
use Rattle.std.specs.List.{items_where_true}
use Rattle.std.proofs.lemmas.List.{length-map}
use Rattle.std.proofs.lemmas.List.FromFn.{map-range_with_len_more}
use Rattle.f2_vec.specs.Spans.{row, HaveWidth}
use Rattle.f2_vec.proofs.Split.{length-unit_vectors, HaveWidth-unit_vectors}
use Rattle.f2_vec.proofs.Sums.{one_within}
use Rattle.f2_matrix.specs.Echelon.{IsReduced, HasNoZeroRow, KernelBasisIsUnique}
use Rattle.f2_matrix.proofs.Unique.{first_one}
use Rattle.f2_matrix.proofs.Pivots.{late_pivot}
use Rattle.free_module.specs.FreeModule.{free_basis, free_width}
use Rattle.resolution_laws.specs.Resolution.{Module, Content, degrees_from, target_over, candidates_over, IsStep}
use Rattle.resolution_laws.specs.Start.{Entry, entry_at, HasShape, squares_below, row_below, IsOf, is_of}
use Rattle.resolution_laws.proofs.NewGenerators.{HaveWidth-IsChosen}
use Rattle.resolution_laws.proofs.Rows.{degrees_from-push}
use Rattle.resolution_laws.proofs.StartLaws.{IsOver, content_is_unique, length-squares_below, square_in-squares_below, squares_below-same}

-- ---- reduced rows of length n are at most n

few_rows : (n : ℕ) (rows : List (List Bool)) → HaveWidth n rows → IsReduced rows → HasNoZeroRow rows → (count : ℕ) → length rows ≡ count → count ≤ n
few_rows n rows w h nonzero zero e = omega arith
few_rows n rows w h nonzero (suc i) e =
    let l : i < length rows = omega arith in
    let p = first_one (row rows i) (nonzero i l) in
    let late = late_pivot rows h nonzero i p.0 l p.1 in
    let within = one_within (row rows i) p.0 p.1.one in
    let len = w i l in
    omega arith

few_kept : (kept : List Bool) (rows : List (List Bool)) → length (items_where_true kept rows) ≤ length rows
few_kept [] rows = omega arith
few_kept (b ∷ kept) [] = omega arith
few_kept (true ∷ kept) (r ∷ rows) = omega (arith, few_kept kept rows)
few_kept (false ∷ kept) (r ∷ rows) = omega (arith, few_kept kept rows)

-- ---- the step

-- one square more
pub squares_below-more : (at : ℕ → ℕ → Content) (s k : ℕ) → squares_below at s (suc k) ≡ squares_below at s k ++ at s k ∷ []
squares_below-more at s k = subst (λ n. squares_below at s n ≡ squares_below at s k ++ at s k ∷ []) (add-one k) (map-range_with_len_more (at s) 0 k k (omega arith))

-- the candidates are vectors of what d_s goes to, and not more than its dimension
pub record AreCandidates (n : ℕ) (candidates : List (List Bool)) : Type 0 where
  pub widths : HaveWidth n candidates
  pub few : length candidates ≤ n

pub step_shape : (m : Module) (below : Option (List Content)) (squares : List Content) (c : Content) → AreCandidates ((target_over m below).width (m.bottom +ℤ pos (length squares))) (candidates_over m below (length squares)) → IsStep m below squares c → HasShape m below squares c
step_shape m below squares c p step =
    let t = m.bottom +ℤ pos (length squares) in
    let candidates = candidates_over m below (length squares) in
    let some = few_kept step.chosen.kept candidates in
    let count = ap length step.chosen.chosen_are in
    let most = p.few in
    record {
      image_widths = HaveWidth-IsChosen ((target_over m below).width t) _ candidates c.images p.widths step.chosen;
      images_few = omega arith;
      kernel_widths = subst (λ n. HaveWidth n c.kernel) (length-map (free_basis (degrees_from m.bottom squares ++ replicate (length c.images) t) t) _) step.kernel.widths;
      reduced = step.kernel.reduced;
      nonzero = step.kernel.nonzero;
    }

-- the kernel of a square of the row below
pub kernel_candidates : KernelBasisIsUnique → (m : Module) (start : List Entry) (i k : ℕ) (at : ℕ → ℕ → Content) → ((j : ℕ) → j ≤ k → IsOf m start i j (at i j)) → (o : IsOver m start i k (at i k)) → HasShape m (row_below o.at i k) (squares_below o.at i k) (at i k)
    → AreCandidates (free_width (degrees_from m.bottom (squares_below at i (suc k))) (m.bottom +ℤ pos k)) (at i k).kernel
kernel_candidates kernels m start i k at given o shape =
    let c = at i k in
    let b = m.bottom in
    let squares = squares_below o.at i k in
    let len = length-squares_below o.at i k in
    let same : squares ≡ squares_below at i k = squares_below-same o.at at i k (λ j l. content_is_unique kernels m start i j (o.at i j) (at i j) (o.before j l) (given j (omega arith))) in
    let all : degrees_from b squares ++ replicate (length c.images) (b +ℤ pos (length squares)) ≡ degrees_from b (squares_below at i (suc k)) =
    sym (degrees_from-push b squares c) ∙ ap (λ (x : List Content). degrees_from b (x ++ c ∷ [])) same ∙ ap (degrees_from b) (sym (squares_below-more at i k)) in
    let width : free_width (degrees_from b squares ++ replicate (length c.images) (b +ℤ pos (length squares))) (b +ℤ pos (length squares)) ≡ free_width (degrees_from b (squares_below at i (suc k))) (b +ℤ pos k) =
    ap (λ ds. free_width ds (b +ℤ pos (length squares))) all ∙ ap (λ n. free_width (degrees_from b (squares_below at i (suc k))) (b +ℤ pos n)) len in
    let widths = subst (λ n. HaveWidth n c.kernel) width shape.kernel_widths in
    record { widths = widths; few = few_rows _ c.kernel widths shape.reduced shape.nonzero (length c.kernel) refl }

shape_here : KernelBasisIsUnique → (m : Module) (start : List Entry) (s k : ℕ) (at : ℕ → ℕ → Content) (found : Option Content) (c : Content) → AreCandidates ((target_over m (row_below at s k)).width (m.bottom +ℤ pos (length (squares_below at s k)))) (candidates_over m (row_below at s k) (length (squares_below at s k)))
    → MatchOption found (IsStep m (row_below at s k) (squares_below at s k) c) (λ read. (c ≡ read) × HasShape m (row_below at s k) (squares_below at s k) c) → HasShape m (row_below at s k) (squares_below at s k) c
shape_here kernels m start s k at None c p here = step_shape m (row_below at s k) (squares_below at s k) c p here
shape_here kernels m start s k at (Some read) c p here = here.1

-- a content with what it is over, and its shape there
pub record IsShaped (m : Module) (start : List Entry) (s k : ℕ) (c : Content) : Type 0 where
  pub over : IsOver m start s k c
  pub shape : HasShape m (row_below over.at s k) (squares_below over.at s k) c

pub content_shape : KernelBasisIsUnique → (m : Module) (start : List Entry) (s k : ℕ) (c : Content) → IsOf m start s k c → IsShaped m start s k c
content_shape kernels m start zero k c (is_of _ _ at _ before below here) =
    let n = m.graded.width (m.bottom +ℤ pos (length (squares_below at zero k))) in
    let units = length-unit_vectors n in
    record {
      over = record { at = at; before = before; below = below; here = here };
      shape = shape_here kernels m start zero k at (entry_at start zero k) c (record { widths = HaveWidth-unit_vectors n; few = omega arith }) here;
    }
content_shape kernels m start (suc i) k c (is_of _ _ at _ before below here) =
    let inner = content_shape kernels m start i k (at i k) (below i k refl (omega arith)) in
    let candidates = kernel_candidates kernels m start i k at (λ j l. below i j refl l) inner.over inner.shape in
    let len : k ≡ length (squares_below at (suc i) k) = sym (length-squares_below at (suc i) k) in
    let there : (at i k).kernel ≡ candidates_over m (row_below at (suc i) k) k = ap (λ (x : Content). x.kernel) (sym (square_in-squares_below at i (suc k) k (omega arith))) in
    let P : List (List Bool) → Type 0 = λ x. AreCandidates (free_width (degrees_from m.bottom (squares_below at i (suc k))) (m.bottom +ℤ pos k)) x in
    let Q : ℕ → Type 0 = λ n. AreCandidates ((target_over m (row_below at (suc i) k)).width (m.bottom +ℤ pos n)) (candidates_over m (row_below at (suc i) k) n) in
    record {
      over = record { at = at; before = before; below = below; here = here };
      shape = shape_here kernels m start (suc i) k at (entry_at start (suc i) k) c (subst Q len (subst P there candidates)) here;
    }
