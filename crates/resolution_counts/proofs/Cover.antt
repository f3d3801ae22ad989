-- What d_i covers in a minimal table: all of the module, or the kernel of d_(i-1); the image of each generator is covered.
use Rattle.std.proofs.Common.{◌≡◌, ◌↔◌, ℕ, zero, suc, ◌<◌, ◌≤◌, Bool, ℤ, pos, ◌+ℤ◌, List, [], ◌∷◌, ◌++◌, length, refl, sym, ◌∙◌, ap, subst, arith, inl, inr}
use Rattle.std.proofs.lemmas.Bool.{cases_lt}
use Rattle.std.proofs.lemmas.List.{get_or-map, get_or_append_left, get_or_push, length_push}
use Rattle.f2_vec.specs.Spans.{row, HaveWidth, IsInSpan, IsInKernel}
use Rattle.f2_vec.proofs.Spans.{length-IsInSpan, row-IsInSpan}
use Rattle.milnor_laws.proofs.FreeModules.{free_modules_are_modules}
use Rattle.free_module.specs.FreeModule.{degree_at, free_basis, free_width}
use Rattle.free_module.specs.Graded.{IsSteenrodModule}
use Rattle.free_module.specs.LinearMap.{AreImages, image_of}
use Rattle.free_module.proofs.MapRows.{HaveWidth-map_rows}
use Rattle.resolution_laws.specs.Resolution.{Module, Content, images_of, row_of}
use Rattle.resolution_laws.specs.Exactness.{degrees_in, target_of, differential, boundary, IsTable, IsExactAt}
use Rattle.resolution_laws.proofs.Complex.{length-differential}
use Rattle.resolution_laws.proofs.Generators.{AreImages-row, generator_at}
use Rattle.resolution_laws.proofs.Squares.{target_is_module}
use Rattle.resolution_counts.specs.Counts.{IsMinimalTable}
use Rattle.resolution_counts.proofs.Bare.{place_of_generator}

-- what d_i has to cover in degree d
abbrev pub Covered : Module → List (List Content) → ℕ → ℤ → List Bool → Type 0
Covered m table zero d v = length v ≡ m.graded.width d
Covered m table (suc i) d v = IsInKernel ((target_of m table i).width d) (differential m table i d) v

pub images_fit : (m : Module) (s t : ℕ) (table : List (List Content)) → IsTable m s t table → (i : ℕ) → i ≤ s → AreImages (target_of m table i) (degrees_in m table i) (images_of (row_of table i))
images_fit m s t table p i h = let n = p.squares i h in AreImages-row (target_of m table i) m.bottom (row_of table i) (λ k l. p.widths i k h (omega arith))

pub differential_widths : (m : Module) (s t : ℕ) (table : List (List Content)) → IsSteenrodModule m.graded → IsTable m s t table → (i : ℕ) → i ≤ s → (d : ℤ) → HaveWidth ((target_of m table i).width d) (differential m table i d)
differential_widths m s t table steenrod p i h d = HaveWidth-map_rows (target_of m table i) (degrees_in m table i) (images_of (row_of table i)) d (target_is_module free_modules_are_modules m table i steenrod).widths (images_fit m s t table p i h)

-- exactness, in one form for all rows
pub covers : (m : Module) (table : List (List Content)) (i : ℕ) (d : ℤ) → HaveWidth ((target_of m table i).width d) (differential m table i d) → IsExactAt m table i d → (v : List Bool) → Covered m table i d v ↔ IsInSpan ((target_of m table i).width d) (differential m table i d) v
covers m table zero d wide x v = (λ e. x v e, λ s. length-IsInSpan (m.graded.width d) (differential m table zero d) v wide s)
covers m table (suc i) d wide x v = x v

-- a covered vector is of its length
pub covered_length : (m : Module) (table : List (List Content)) (i : ℕ) (d : ℤ) (v : List Bool) → Covered m table i d v → length v ≡ (target_of m table i).width d
covered_length m table zero d v c = c
covered_length m table (suc i) d v c = c.one_each ∙ length-differential m table i d

-- a boundary is covered
pub boundary_covered : (m : Module) (table : List (List Content)) (i : ℕ) (d : ℤ) (v : List Bool) → HaveWidth ((target_of m table i).width d) (differential m table i d) → IsExactAt m table i d → length v ≡ free_width (degrees_in m table i) d → Covered m table i d (boundary m table i d v)
boundary_covered m table i d v wide x e = (covers m table i d wide x (boundary m table i d v)).1 (record { coefficients = v; one_each = e ∙ sym (length-differential m table i d); sum = refl })

-- each degree of a generator is one of the range
pub record IsInDegree (m : Module) (t : ℕ) (d : ℤ) : Type 0 where
  pub k : ℕ
  pub within : k ≤ t
  pub is : d ≡ m.bottom +ℤ pos k

pub generator_degree : (m : Module) (s t : ℕ) (table : List (List Content)) → IsTable m s t table → (i : ℕ) → i ≤ s → (g : ℕ) → g < length (degrees_in m table i) → IsInDegree m t (degree_at (degrees_in m table i) g)
generator_degree m s t table p i h g l =
    let at = generator_at m.bottom (row_of table i) g l in
    let n = p.squares i h in
    let b = at.square in
    record { k = at.k; within = omega arith; is = at.degree }

-- the image of a generator is covered
pub image_covered : (m : Module) (s t : ℕ) (table : List (List Content)) → IsSteenrodModule m.graded → IsMinimalTable m s t table → (i : ℕ) → i ≤ s → (g : ℕ) → g < length (degrees_in m table i) → Covered m table i (degree_at (degrees_in m table i) g) (row (images_of (row_of table i)) g)
image_covered m s t table steenrod p i h g l =
    let target = target_of m table i in
    let ds = degrees_in m table i in
    let vs = images_of (row_of table i) in
    let d = degree_at ds g in
    let v = row vs g in
    let at = place_of_generator ds g l in
    let degree = generator_degree m s t table p.is_table i h g l in
    let wide = differential_widths m s t table steenrod p.is_table i h d in
    let exact : IsExactAt m table i d = subst (λ (z : ℤ). IsExactAt m table i z) (sym degree.is) (p.exact i degree.k h degree.within) in
    let rows = differential m table i d in
    let fit = images_fit m s t table p.is_table i h in
    let same : row rows at.0 ≡ v = get_or-map (image_of target ds vs) (free_basis ds d) at.0 (0, []) [] at.1.within ∙ (ap (image_of target ds vs) at.1.is ∙ (target_is_module free_modules_are_modules m table i steenrod).unit d v (fit.widths g l)) in
    let b : at.0 < length rows = let w = at.1.within in omega (arith, length-differential m table i d) in
    (covers m table i d wide exact v).1 (subst (IsInSpan (target.width d) rows) same (row-IsInSpan (target.width d) rows at.0 wide b))

-- one vector for each number below n
pub record AreChosen (P : ℕ → List Bool → Type 0) (n : ℕ) : Type 0 where
  pub list : List (List Bool)
  pub len : length list ≡ n
  pub each : (g : ℕ) → g < n → P g (row list g)

pub chosen_each : (P : ℕ → List Bool → Type 0) (n : ℕ) → ((g : ℕ) → g < n → (y : List Bool) × P g y) → AreChosen P n
chosen_each P zero h = record { list = []; len = refl; each = λ g l. absurd (omega arith) }
chosen_each P (suc n) h =
    let rest = chosen_each P n (λ g l. h g (omega arith)) in
    let last = h n (omega arith) in
    let len = rest.len in
    record {
      list = rest.list ++ last.0 ∷ [];
      len = length_push rest.list last.0 ∙ omega arith;
      each = λ g l. elim (cases_lt g n) [
        | inl b ↦ subst (P g) (sym (get_or_append_left rest.list (last.0 ∷ []) [] g (omega arith))) (rest.each g b)
        | inr b ↦
            let same : n ≡ g = omega arith in
            subst (λ (x : ℕ). P x (row (rest.list ++ last.0 ∷ []) x)) same (subst (P n) (sym (get_or_push rest.list last.0 [] n len)) last.1)
      ];
    }
