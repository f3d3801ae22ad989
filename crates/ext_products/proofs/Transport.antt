-- What is made over the tables that there are is what the canonical tables through the range have.
use Rattle.std.proofs.Common.{◌≡◌, ℕ, ◌+◌, ◌<◌, ◌≤◌, inl, inr, ℤ, pos, ◌+ℤ◌, Bool, nat_lt, if◌then◌else◌, List, [], length, take, min, Option, Some, None, refl, ap, sym, subst, ◌∙◌, arith}
use Rattle.std.specs.Prelude.{MatchOption, option_map, unwrap_or, IsOkAnd, Result, Ok, Err}
use Rattle.std.proofs.lemmas.Bool.{cases_lt}
use Rattle.std.proofs.lemmas.Int.{ints}
use Rattle.std.proofs.lemmas.List.{ext_get_or, get_or-take, length-take-le, take-take}
use Rattle.bidegree.specs.Above.{above_of}
use Rattle.bidegree.specs.declared.range.Range.{Range}
use Rattle.bidegree.specs.declared.shape.Shape.{Shape}
use Rattle.bidegree.specs.declared.class.Class.{Class}
use Rattle.bidegree.specs.declared.place.Place.{Place}
use Rattle.bidegree.proofs.Degrees.{above_of-is}
use Rattle.f2_matrix.proofs.Unique.{kernel_basis_unique}
use Rattle.finite_module.specs.Module.{Module as SteenrodModule}
use Rattle.finite_module.specs.Checked.{sphere_file}
use Rattle.finite_module.specs.DerivedAction.{derived_module}
use Rattle.finite_module.specs.Graded.{ModulesAreSteenrodModules}
use Rattle.finite_module.specs.ModuleLaws.{width-below}
use Rattle.resolution_laws.specs.Resolution.{Content, no_content, square_in, row_of, IsCanonicalTable}
use Rattle.resolution_laws.proofs.StartLaws.{content_is_unique}
use Rattle.resolution_laws.proofs.StartTables.{table_contents}
use Rattle.square.specs.Squares.{over, bottom_of, module_over}
use Rattle.square.specs.Tables.{Staircase, plain_rows, content_at, IsTable, IsThrough}
use Rattle.square.proofs.Places.{length-row_of}
use Rattle.square.proofs.Pushing.{through_last}
use Rattle.lift_laws.specs.Lifts.{Resolution, IsCanonical, IsSphere, dual_of, degree}
use Rattle.lift_laws.specs.Products.{Class as ClassAbove, count_of, number_of, degree_of_class, LiftsGiveOneProduct}
use Rattle.lift_laws.proofs.Counts.{count_of-less}
use Rattle.lift_laws.proofs.Cut.{IsLift-uncut}
use Rattle.chain_map.specs.Lifting.{resolution_of, IsCanonicalIn}
use Rattle.chain_map.specs.Classes.{through, missing_in}
use Rattle.chain_map.proofs.Classes.{rows_through, count_inside, count_outside}
use Rattle.chain_map.proofs.Resolved.{is_canonical}
use Rattle.yoneda.specs.Products.{class_above, IsPlaceOf, IsThere, IsYonedaProduct}
use Rattle.yoneda.proofs.Cut.{product_by-part}
use Rattle.yoneda.proofs.OneProduct.{canonical_less, place_there, given-lowered, product-of-lift}
use Rattle.yoneda.proofs.Through.{count_through}
use Rattle.ext_chart.proofs.Seen.{last_within}
use Rattle.ext_chart.specs.declared.class_products.ProductLine.{ProductLine}
use Rattle.ext_chart.specs.Classes.{product_lines_text}
use Rattle.ext_products.specs.declared.refusal.Refusal.{Refusal}
use Rattle.ext_products.specs.declared.refusal.Refusal.TheVariants.{NoClass}
use Rattle.ext_products.specs.declared.refusal.Named.TheVariants.{By}
use Rattle.ext_products.specs.Products.{OneEach, resolution, factors, IsProductLine, IsInSphere, AreProductLines, IsProductsText, IsAnswerOfOne, IsAnswerOver, IsAnswerIn}
use Rattle.ext_products.specs.Inside.{reach_of, IsLineOver}
use Rattle.ext_products.proofs.OneEach.{OneEach-all}
use Rattle.ext_products.proofs.Factors.{IsFactor, are_factors, factors-same}
use Rattle.ext_products.proofs.Answers.{none_past}

-- ---- the sphere's: a canonical table through the range has the squares that there are

module _ (sphere : Staircase) (far : Range) (are_q : IsCanonicalIn far sphere) (range : Range) (full : List (List Content)) (is_full : IsCanonicalTable (over sphere.resolved) range.s range.t full) where
  abbrev qf : Resolution
  qf = record { base = over sphere.resolved; table = full }

  same_square : (i k : ℕ) → i ≤ far.s → k ≤ far.t → i ≤ range.s → k ≤ range.t → content_at sphere.rows i k ≡ square_in (row_of full i) k
  same_square i k in_row in_degree l b = content_is_unique kernel_basis_unique (over sphere.resolved) [] i k (content_at sphere.rows i k) (square_in (row_of full i) k) (are_q i k in_row (omega arith)) (table_contents (over sphere.resolved) range.s range.t full is_full i l k b)

  -- its rows
  rows-same : far.s ≤ range.s → far.t ≤ range.t → IsThrough far sphere.rows → (i : ℕ) → i ≤ far.s → take (far.t + 1) (row_of (plain_rows sphere.rows) i) ≡ take (far.t + 1) (row_of full i)
  rows-same row degree near i l =
      let there = near i l in
      let n = far.t + 1 in
      let len = length-row_of sphere.rows i in
      let len_full = is_full.squares i (omega arith) in
      let a : length (take n (row_of (plain_rows sphere.rows) i)) ≡ n = length-take-le n (row_of (plain_rows sphere.rows) i) (omega arith) in
      let b : length (take n (row_of full i)) ≡ n = length-take-le n (row_of full i) (omega arith) in
      ext_get_or no_content (take n (row_of (plain_rows sphere.rows) i)) (take n (row_of full i)) (omega arith) (λ k c.
      get_or-take n (row_of (plain_rows sphere.rows) i) k no_content (omega arith)
      ∙ (same_square i k l (omega arith) (omega arith) (omega arith) ∙ sym (get_or-take n (row_of full i) k no_content (omega arith))))

  q_canonical : ModulesAreSteenrodModules → IsCanonical qf range.s range.t
  q_canonical modules = record { steenrod = modules sphere.resolved.plain sphere.resolved.is_module; bounded = width-below sphere.resolved.plain.generators sphere.resolved.by_degree; canonical = is_full }

-- ---- how many classes there are at the place of a class

-- the degrees of the range that are asked of the sphere
abbrev degrees_asked : Range → Option ℕ → ℕ
degrees_asked range o = unwrap_or (option_map (λ k. min k range.t) o) 0

module _ (sphere : Staircase) (range : Range) (by : Class) (are_q : IsCanonicalIn (reach_of range by) sphere) (full : List (List Content)) (is_full : IsCanonicalTable (over sphere.resolved) range.s range.t full) (bottom : bottom_of sphere.resolved ≡ pos 0) where
  abbrev reach : Range
  reach = reach_of range by

  abbrev q : Resolution
  q = record { base = over sphere.resolved; table = full }

  away : (k : ℕ) → reach.t ≡ min k range.t → (by.s ≤ range.s → k ≤ range.t → ⊥) → count_of (through reach sphere) by.s k ≡ count_of q by.s k
  away k reached out = count_outside sphere reach by.s k (λ l b. out (omega arith) (omega arith)) ∙ sym (none_past q range.s range.t is_full by.s k out)

  counted : (k : ℕ) → reach.t ≡ min k range.t → count_of (through reach sphere) by.s k ≡ count_of q by.s k
  counted k reached = elim (cases_lt range.s by.s) [
    | inl past ↦ away k reached (λ l b. omega (arith, l, past))
    | inr row ↦ elim (cases_lt range.t k) [
      | inl past ↦ away k reached (λ l b. omega (arith, b, past))
      | inr degree ↦ count_inside sphere reach by.s k (omega arith) (omega arith) ∙ ap (λ (c : Content). length c.images) (same_square sphere reach are_q range full is_full by.s k (omega arith) (omega arith) row degree)
    ]
  ]

  counted_at : (o : Option ℕ) → above_of (bottom_of sphere.resolved) by.t ≡ o → unwrap_or (option_map (count_of (through reach sphere) by.s) o) 0 ≡ unwrap_or (option_map (count_of q by.s) o) 0
  counted_at None e = refl
  counted_at (Some k) e = counted k (ap (degrees_asked range) (ap (λ (b : ℤ). above_of b by.t) (sym bottom) ∙ e))

  pub same_missing : missing_in (through reach sphere) by ≡ missing_in q by
  same_missing = ap (λ (count : ℕ). if nat_lt by.i count then None else Some count) (counted_at (above_of (bottom_of sphere.resolved) by.t) refl)

-- the degrees that are asked of the sphere are those of the range
pub within-reach : (range : Range) (by : Class) (b : ℤ) → b ≡ pos 0 → (k : ℕ) → by.t ≡ b +ℤ pos k → (reach_of range by).t ≡ min k range.t
within-reach range by b zero k e =
    ap (degrees_asked range) (above_of-is (pos 0) by.t k (omega (arith, ints)))

-- ---- a product

module _ (one : LiftsGiveOneProduct) (modules : ModulesAreSteenrodModules)
    (table sphere : Staircase) (h : IsTable table) (hq : IsTable sphere) (range : Range) (all : IsCanonicalIn range table) (whole : IsThrough range table.rows)
    (is_sphere : IsSphere (resolution_of sphere)) (full : List (List Content)) (is_full : IsCanonicalTable (over sphere.resolved) range.s range.t full)
    (a : Place) (are_q : IsCanonicalIn (record { s = a.s; t = a.above }) sphere) (a_there : IsThere sphere a) (row : a.s ≤ range.s) (within : a.above ≤ range.t) where
  abbrev r : Resolution
  r = resolution_of table

  abbrev cut_r : Resolution
  cut_r = through range table

  abbrev whole_q : Resolution
  whole_q = record { base = over sphere.resolved; table = full }

  abbrev near : Range
  near = record { s = a.s; t = a.above }

  near_through : IsThrough near sphere.rows
  near_through = through_last near sphere hq a_there.square

  abbrev cut_q : Resolution
  cut_q = through near sphere

  again_rows : (i : ℕ) → i ≤ range.s → row_of cut_r.table i ≡ take (range.t + 1) (row_of cut_r.table i)
  again_rows i l =
      let n = range.t + 1 in
      let rows = rows_through table range i l in
      rows ∙ (sym (take-take n n (row_of (plain_rows table.rows) i) (omega arith)) ∙ sym (ap (take n) rows))

  full_rows : (i : ℕ) → i ≤ a.s → row_of cut_q.table i ≡ take (a.above + 1) (row_of full i)
  full_rows i l = rows_through sphere near i l ∙ rows-same sphere near are_q range full is_full row within near_through i l

  a_count : a.i < count_of whole_q a.s a.above
  a_count =
      let few = count_through sphere near a.s a.above (omega arith) (omega arith) in
      let all_of = count_of-less (over sphere.resolved) full cut_q.table a.s a.above (full_rows a.s (omega arith)) a.above (omega arith) in
      omega (arith, a_there.generator)

  module _ (shape : Shape) (x : ClassAbove) (factor : IsFactor cut_r shape range (class_above a) x) where
    abbrev less : ℤ
    less = bottom_of table.resolved +ℤ pos (a.above + x.above)

    product-through : (v : List Bool) → IsYonedaProduct cut_r cut_q (class_above a) x v → IsYonedaProduct cut_r whole_q (class_above a) x v
    product-through v product =
        let some = product.some in
        let rows = factor.row in
        let degrees = factor.degree in
        let x_degree = degree_of_class cut_r x in
        product-of-lift one cut_r whole_q range range (is_canonical table h range (whole range.s (omega arith)) modules all) (q_canonical sphere near are_q range full is_full modules) (record { bottom = is_sphere.bottom; one = is_sphere.one; none = is_sphere.none }) (class_above a) x rows degrees row within a_count v
        (record {
          top = less;
          phi = some.phi;
          reaches = omega (arith, ints);
          is_lift = IsLift-uncut (over table.resolved) (over sphere.resolved) range.s (range.t + 1) a.s (a.above + 1) cut_r.table cut_r.table full cut_q.table again_rows full_rows x.s x_degree (dual_of cut_r whole_q x.s x_degree (number_of cut_r x)) a.s less some.phi rows (omega arith) (omega (arith, ints)) (omega (arith, ints)) (given-lowered cut_r cut_q (class_above a) x v some);
          gives = some.gives ∙ product_by-part (over table.resolved) (over sphere.resolved) cut_r.table cut_r.table full cut_q.table range.t a.above (x.s + a.s) (a.above + x.above) (class_above a) (again_rows (x.s + a.s) rows) (full_rows a.s (omega arith)) degrees (omega arith) some.phi;
        })

  pub line-through : (shape : Shape) (x : ClassAbove) (line : ProductLine) → IsFactor cut_r shape range (class_above a) x → IsLineOver table sphere a x line → IsProductLine cut_r whole_q (class_above a) x line
  line-through shape x line factor is = record {
    s = is.s;
    t = is.t;
    i = is.i;
    target_s = is.target_s;
    target_t = is.target_t;
    product = product-through shape x factor line.value (is.product range near whole near_through factor.row factor.degree (omega arith) (omega arith) all are_q);
  }

  pub lines-through : (shape : Shape) (lines : List ProductLine) → OneEach (IsLineOver table sphere a) (factors r shape range (class_above a)) lines → OneEach (IsProductLine cut_r whole_q (class_above a)) (factors cut_r shape range (class_above a)) lines
  lines-through shape lines are =
      let same = factors-same r cut_r shape range (class_above a) (λ s k l b. sym (count_through table range s k (omega arith) (let near = last_within range shape (s + a.s) in omega arith))) in
      OneEach-all (IsFactor cut_r shape range (class_above a)) (IsLineOver table sphere a) (IsProductLine cut_r whole_q (class_above a)) (line-through shape) (factors cut_r shape range (class_above a)) lines (are_factors cut_r shape range (class_above a))
      (subst (λ (xs : List ClassAbove). OneEach (IsLineOver table sphere a) xs lines) same are)

-- ---- what is told

module _ (table sphere : Staircase) (range : Range) (by : Class) (are_q : IsCanonicalIn (reach_of range by) sphere) (is_sphere : IsSphere (resolution_of sphere)) (is_sphere_module : sphere.resolved.plain ≡ derived_module sphere_file) where
  pub there-answer : missing_in (through (reach_of range by) sphere) by ≡ None → IsInSphere range by
  there-answer there =
      let P : SteenrodModule → Type 0 = λ m. (full : List (List Content)) → IsCanonicalTable (module_over m) range.s range.t full → missing_in (resolution m full) by ≡ None in
      subst P is_sphere_module (λ full is_full. sym (same_missing sphere range by are_q full is_full is_sphere.bottom) ∙ there)

  pub refused-answer : (shape : Shape) (count : ℕ) → missing_in (through (reach_of range by) sphere) by ≡ Some count → IsAnswerIn (IsAnswerOfOne shape range by) table range (Err (NoClass By by count))
  refused-answer shape count missed =
      let answer : Result (List ℕ) Refusal = Err (NoClass By by count) in
      let P : SteenrodModule → Type 0 = λ m. (full : List (List Content)) → IsCanonicalTable (module_over m) range.s range.t full → IsAnswerOfOne shape range by (through range table) (resolution m full) answer in
      subst P is_sphere_module (λ full is_full.
      let none = sym (same_missing sphere range by are_q full is_full is_sphere.bottom) ∙ missed in
      subst (λ (o : Option ℕ). MatchOption o (IsOkAnd answer (IsProductsText shape range by (through range table) (resolution sphere.resolved.plain full))) (λ n. answer ≡ Err (NoClass By by n))) (sym none) refl)

  module _ (one : LiftsGiveOneProduct) (modules : ModulesAreSteenrodModules) (h : IsTable table) (hq : IsTable sphere) (whole : IsThrough range table.rows) (near : IsThrough (reach_of range by) sphere.rows) where
    pub lines-answer : (shape : Shape) (a : Place) → IsPlaceOf sphere (reach_of range by) by a → (lines : List ProductLine) → OneEach (IsLineOver table sphere a) (factors (resolution_of table) shape range (class_above a)) lines → IsAnswerOver (AreProductLines shape range by) table range lines
    lines-answer shape a is lines are all =
        let P : SteenrodModule → Type 0 = λ m. (full : List (List Content)) → IsCanonicalTable (module_over m) range.s range.t full → AreProductLines shape range by (through range table) (resolution m full) lines in
        let row_within = is.inside.row_within in
        let near_range = within-reach range by (bottom_of sphere.resolved) is_sphere.bottom a.above is.degree in
        subst P is_sphere_module (λ full is_full. record {
          a = class_above a;
          at = record { row = is.row; degree = is.degree; number = is.number };
          are_lines = lines-through one modules table sphere h hq range all whole is_sphere full is_full a (canonical_less sphere (reach_of range by).s ((reach_of range by).t + 1) a.s (a.above + 1) are_q row_within (omega arith)) (place_there sphere (reach_of range by) by a near is) (omega arith) (omega arith) shape lines are;
        })
