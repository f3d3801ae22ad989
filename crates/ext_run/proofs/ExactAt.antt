-- Where the squares of a table are canonical, d_s is exact at each of them.
use Rattle.std.proofs.Common.{◌≡◌, ℕ, zero, suc, ◌<◌, ◌≤◌, ℤ, pos, ◌+ℤ◌, Bool, Option, List, length, take, refl, sym, ap, subst, ◌∙◌, arith}
use Rattle.std.proofs.lemmas.List.{get_or-take, length-take-le}
use Rattle.bidegree.specs.declared.range.Range.{Range}
use Rattle.f2_matrix.specs.Echelon.{IsKernelBasis}
use Rattle.f2_matrix.specs.Reduction.{Reduction, IsReductionOf}
use Rattle.f2_matrix.proofs.Unique.{kernel_basis_unique}
use Rattle.f2_matrix.proofs.Eliminate.{has_reduction}
use Rattle.f2_matrix.proofs.Parts.{kernel_is_kernel_basis}
use Rattle.finite_module.specs.Graded.{ModulesAreSteenrodModules}
use Rattle.finite_module.specs.ModuleLaws.{width-below}
use Rattle.milnor_laws.proofs.FreeModules.{free_modules_are_modules}
use Rattle.milnor_laws.proofs.LinearMaps.{maps_commute}
use Rattle.resolution_laws.specs.Resolution.{Module, Content, no_content, square_in, row_of, below_of, target_over, candidates_over, IsCanonicalTable}
use Rattle.resolution_laws.specs.Exactness.{target_of, differential, IsExactAt, CanonicalTableIsMinimalResolution}
use Rattle.resolution_laws.specs.Start.{IsCanonicalStart}
use Rattle.resolution_laws.proofs.Squares.{IsResolved, square_at}
use Rattle.resolution_laws.proofs.Complex.{HaveWidth-differential}
use Rattle.certificate_laws.specs.Certificates.{CoversAt, HasKernelAt}
use Rattle.certificate_laws.proofs.Decide.{decide_exactness}
use Rattle.certificate_laws.proofs.Square.{target_agrees, matrix_through}
use Rattle.resolution_step.proofs.Canonical.{IsCanonicalTable-cut}
use Rattle.square.specs.Squares.{IsQuasi, over, bottom_of, target_width, square_matrix}
use Rattle.square.specs.Tables.{Staircase, row_in, plain_rows, content_at, IsTable, IsThrough}
use Rattle.square.proofs.Growing.{HasGrown-same}
use Rattle.square.proofs.Pushing.{never_rises}
use Rattle.cert_check.specs.Certified.{part_of}
use Rattle.cert_check.proofs.Part.{below-part, before-part, content-part, within-part}
use Rattle.save_file.specs.Exactness.{covered_at, IsInexactAt}

module _ (minimal : CanonicalTableIsMinimalResolution) (modules : ModulesAreSteenrodModules) (table : Staircase) (known : IsTable table) (reads : IsCanonicalStart (over table.resolved) table.start) (s k : ℕ) (l : k < length (row_in table.rows s)) where
  abbrev m : Module
  m = over table.resolved

  abbrev range : Range
  range = record { s = s; t = k }

  abbrev part : List (List Content)
  part = part_of table range

  abbrev u : ℤ
  u = m.bottom +ℤ pos k

  through : IsThrough range table.rows
  through i h = let falls = never_rises table known i s h in omega arith

  canonical : IsCanonicalTable m s k part
  canonical = IsCanonicalTable-cut range table table (HasGrown-same table table refl refl refl) through (λ i j q there. (known.placed i j q there).is_of) reads

  resolved : IsResolved m s k part
  resolved = record { free = free_modules_are_modules; commute = maps_commute; steenrod = modules table.resolved.plain table.resolved.is_module; bounded = width-below table.resolved.plain.generators table.resolved.by_degree; canonical = canonical }

  kernels : (i : ℕ) → suc i ≡ s → HasKernelAt m part i k
  kernels i e = (square_at m s k part resolved i k (omega arith) (omega arith)).kernel

  reduction : (r : Reduction) × IsReductionOf ((target_of m part s).width u) (differential m part s u) r
  reduction = has_reduction ((target_of m part s).width u) (differential m part s u) (HaveWidth-differential m s k part resolved s u (omega arith))

  covers : CoversAt m part s k reduction.0
  covers =
      let exact : IsExactAt m part s u = (minimal m s k part resolved.steenrod resolved.bounded canonical).exact s k (omega arith) (omega arith) in
      (decide_exactness m part s k reduction.0 reduction.1 kernels).1 exact

  same_kernel : reduction.0.kernel ≡ (content_at table.rows s k).kernel
  same_kernel =
      let n = (target_of m part s).width u in
      let rows = differential m part s u in
      let here = square_at m s k part resolved s k (omega arith) (omega arith) in
      let is = reduction.1 in
      let basis : IsKernelBasis n rows reduction.0.kernel = subst (IsKernelBasis n rows) (sym is.kernel) (kernel_is_kernel_basis n rows is.form is.widths is.is_form) in
      kernel_basis_unique n rows reduction.0.kernel (square_in (row_of part s) k).kernel basis here.kernel
      ∙ ap (λ (c : Content). c.kernel) (content-part table range s k (omega arith) (omega arith))

  covered : (i : ℕ) → i ≤ s → candidates_over m (below_of (plain_rows table.rows) i k) k ≡ covered_at table i k
  covered zero h = refl
  covered (suc i) h = ap (λ (c : Content). c.kernel) (get_or-take (suc k) (row_of (plain_rows table.rows) i) k no_content (omega arith))

  same_image : reduction.0.image ≡ covered_at table s k
  same_image = covers ∙ ap (λ (x : Option (List Content)). candidates_over m x k) (below-part table range s k (omega arith) (omega arith)) ∙ covered s (omega arith)

  is_quasi : IsQuasi m (below_of (plain_rows table.rows) s k) (take k (row_of (plain_rows table.rows) s)) (content_at table.rows s k) reduction.0
  is_quasi =
      let here = within-part table range s k (omega arith) (omega arith) l in
      let squares = take k (row_of part s) in
      let c = square_in (row_of part s) k in
      let len : length squares ≡ k = length-take-le k (row_of part s) (omega arith) in
      let width : target_width m (below_of part s k) squares ≡ (target_of m part s).width u = ap (λ (n : ℕ). (target_over m (below_of part s k)).width (m.bottom +ℤ pos n)) len ∙ (target_agrees m part s k).width in
      let matrix : square_matrix m (below_of part s k) squares c ≡ differential m part s u = matrix_through m part s k here in
      let one : IsReductionOf (target_width m (below_of part s k) squares) (differential m part s u) reduction.0 = subst (λ (n : ℕ). IsReductionOf n (differential m part s u) reduction.0) (sym width) reduction.1 in
      let two : IsQuasi m (below_of part s k) squares c reduction.0 = subst (λ (rows : List (List Bool)). IsReductionOf (target_width m (below_of part s k) squares) rows reduction.0) (sym matrix) one in
      let three : IsQuasi m (below_of part s k) squares (content_at table.rows s k) reduction.0 = subst (λ (x : Content). IsQuasi m (below_of part s k) squares x reduction.0) (content-part table range s k (omega arith) (omega arith)) two in
      let four = subst (λ (x : List Content). IsQuasi m (below_of part s k) x (content_at table.rows s k) reduction.0) (before-part table range s k (omega arith) (omega arith)) three in
      subst (λ (x : Option (List Content)). IsQuasi m x (take k (row_of (plain_rows table.rows) s)) (content_at table.rows s k) reduction.0) (below-part table range s k (omega arith) (omega arith)) four

  pub exact_at : (t : ℤ) → t ≡ bottom_of table.resolved +ℤ pos k → IsInexactAt table s t → ⊥
  exact_at t degree inexact = inexact reduction.0 k degree (record { above = k; degree = degree; quasi = is_quasi }) same_kernel same_image
