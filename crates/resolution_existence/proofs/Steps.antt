-- The step exists over squares of a start's table.
use Rattle.std.proofs.Common.{◌≡◌, ℕ, zero, suc, ◌<◌, ◌≤◌, pos, ◌+ℤ◌, Bool, List, [], ◌∷◌, ◌++◌, length, take, replicate, Option, refl, sym, ◌∙◌, ap, subst, arith, add-one}
use Rattle.std.proofs.lemmas.Int.{ints}
use Rattle.f2_vec.specs.Spans.{HaveWidth}
use Rattle.f2_vec.proofs.Split.{HaveWidth-unit_vectors}
use Rattle.f2_matrix.proofs.Unique.{kernel_basis_unique}
use Rattle.free_module.specs.FreeModule.{free_width}
use Rattle.free_module.specs.Graded.{KeepsWidths}
use Rattle.resolution_laws.specs.Resolution.{Module, Content, square_in, degrees_from, target_over, candidates_over, IsStep}
use Rattle.resolution_laws.specs.Start.{Entry, squares_below, row_below, IsOf, AreBefore}
use Rattle.resolution_laws.proofs.Generators.{AreImages-row}
use Rattle.resolution_laws.proofs.Rows.{free_basis-take}
use Rattle.resolution_laws.proofs.Shapes.{content_shape, kernel_candidates}
use Rattle.resolution_laws.proofs.StartLaws.{length-squares_below, square_in-squares_below, squares_below-take}
use Rattle.resolution_laws.proofs.StartTables.{start_table_shape}
use Rattle.resolution_existence.specs.Existence.{IsSteppable}
use Rattle.resolution_existence.proofs.Choose.{has_step}

-- in a degree through that of square j, the target of d_s is the same over the row below through j and through k
same_width : (m : Module) (s j k : ℕ) (at : ℕ → ℕ → Content) → j ≤ k → (target_over m (row_below at s j)).width (m.bottom +ℤ pos j) ≡ (target_over m (row_below at s k)).width (m.bottom +ℤ pos j)
same_width m zero j k at l = refl
same_width m (suc i) j k at l =
    let b = m.bottom in
    let all = squares_below at i (suc k) in
    let len = length-squares_below at i (suc k) in
    let first : squares_below at i (suc j) ≡ take (suc j) all = squares_below-take at i (suc j) all (omega arith) (λ h p. sym (square_in-squares_below at i (suc k) h (omega arith))) in
    ap (λ (z : List Content). free_width (degrees_from b z) (b +ℤ pos j)) first ∙ ap length (sym (free_basis-take b all (suc j) (b +ℤ pos j) (omega (arith, ints))))

image_widths : (m : Module) (first : List Entry) (s k : ℕ) (at : ℕ → ℕ → Content) → AreBefore m first s k at → (j : ℕ) → j < k → HaveWidth ((target_over m (row_below at s k)).width (m.bottom +ℤ pos j)) (at s j).images
image_widths m first s k at p j l =
    let over : AreBefore m first s j at = record { before = λ h b. p.before h (omega arith); below = λ i h e b. p.below i h e (omega arith) } in
    let shape = start_table_shape kernel_basis_unique m first s j at (at s j) over (p.before j l) in
    let Q : ℕ → Type 0 = λ n. HaveWidth ((target_over m (row_below at s j)).width (m.bottom +ℤ pos n)) (at s j).images in
    let R : ℕ → Type 0 = λ n. HaveWidth n (at s j).images in
    subst R (same_width m s j k at (omega arith)) (subst Q (length-squares_below at s j) shape.image_widths)

-- the kernel rows of a square are of the dimension of its free module in its degree
kernel_widths : (m : Module) (first : List Entry) (i k : ℕ) (at : ℕ → ℕ → Content) → ((j : ℕ) → j ≤ k → IsOf m first i j (at i j)) → HaveWidth (free_width (degrees_from m.bottom (squares_below at i (suc k))) (m.bottom +ℤ pos k)) (at i k).kernel
kernel_widths m first i k at given =
    let shaped = content_shape kernel_basis_unique m first i k (at i k) (given k (omega arith)) in
    (kernel_candidates kernel_basis_unique m first i k at given shaped.over shaped.shape).widths

candidate_widths : (m : Module) (first : List Entry) (s k : ℕ) (at : ℕ → ℕ → Content) → AreBefore m first s k at → HaveWidth ((target_over m (row_below at s k)).width (m.bottom +ℤ pos k)) (candidates_over m (row_below at s k) k)
candidate_widths m first zero k at p = HaveWidth-unit_vectors (m.graded.width (m.bottom +ℤ pos k))
candidate_widths m first (suc i) k at p =
    let there : (at i k).kernel ≡ (square_in (squares_below at i (suc k)) k).kernel = ap (λ (x : Content). x.kernel) (sym (square_in-squares_below at i (suc k) k (omega arith))) in
    let P : List (List Bool) → Type 0 = λ z. HaveWidth (free_width (degrees_from m.bottom (squares_below at i (suc k))) (m.bottom +ℤ pos k)) z in
    subst P there (kernel_widths m first i k at (λ j l. p.below i j refl l))

pub are_steppable : (m : Module) (first : List Entry) (s k : ℕ) (at : ℕ → ℕ → Content) → KeepsWidths m.graded → AreBefore m first s k at → IsSteppable m (row_below at s k) (squares_below at s k)
are_steppable m first s k at keeps p =
    let squares = squares_below at s k in
    let target = target_over m (row_below at s k) in
    let len : length squares ≡ k = length-squares_below at s k in
    let P : ℕ → Type 0 = λ n. HaveWidth (target.width (m.bottom +ℤ pos n)) (candidates_over m (row_below at s k) n) in
    record {
      keeps = keeps;
      images = AreImages-row target m.bottom squares (λ j l.
          let b : j < k = omega arith in
          subst (λ (c : Content). HaveWidth (target.width (m.bottom +ℤ pos j)) c.images) (sym (square_in-squares_below at s k j b)) (image_widths m first s k at p j b));
      candidates = subst P (sym len) (candidate_widths m first s k at p);
    }

pub step_over : (m : Module) (first : List Entry) (s k : ℕ) (at : ℕ → ℕ → Content) → KeepsWidths m.graded → AreBefore m first s k at → (content : Content) × IsStep m (row_below at s k) (squares_below at s k) content
step_over m first s k at keeps p = has_step m (row_below at s k) (squares_below at s k) (are_steppable m first s k at keeps p)
