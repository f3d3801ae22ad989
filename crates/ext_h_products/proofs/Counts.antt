-- How many classes the sphere has at a place of row 1.
use Rattle.std.proofs.Common.{◌≡◌, inl, inr, ℕ, ◌^◌, ◌≤◌, ℤ, pos, ◌-ℤ◌, Bool, false, Option, Some, None, refl, ap, sym, ◌∙◌, arith}
use Rattle.std.specs.Prelude.{option_map, unwrap_or, nat_lt, if◌then◌else◌}
use Rattle.std.specs.Int.{is_power_of_two}
use Rattle.std.proofs.lemmas.Bool.{cases_lt, le-ltb}
use Rattle.std.proofs.lemmas.Int.{ints}
use Rattle.bidegree.specs.Above.{above_of}
use Rattle.bidegree.specs.declared.range.Range.{Range}
use Rattle.bidegree.specs.declared.class.Class.{Class}
use Rattle.bidegree.proofs.Degrees.{above_of-is, natural-is}
use Rattle.lift_laws.specs.Lifts.{Resolution, IsCanonical, IsSphere}
use Rattle.lift_laws.specs.Products.{count_of}
use Rattle.chain_map.specs.Classes.{class_count, missing_in}
use Rattle.h_laws.specs.Products.{RowOneHasSquares, RowOneIsPowers}
use Rattle.ext_products.proofs.Answers.{none_past}
use Rattle.ext_h_products.specs.RowOne.{IsH, OfSpheres}

module _ (q : Resolution) (range : Range) (canonical : IsCanonical q range.s range.t) (sphere : IsSphere q) where
  counted : (t : ℤ) (k : ℕ) → t ≡ pos k → class_count q 1 t ≡ count_of q 1 k
  counted t k e =
      let b = sphere.bottom in
      ap (λ (o : Option ℕ). unwrap_or (option_map (count_of q 1) o) 0) (above_of-is q.base.bottom t k (omega (arith, ints)))

  -- one in degree 2^v
  pub count_one : RowOneHasSquares → (t : ℤ) (v : ℕ) → t ≡ pos (2 ^ v) → 1 ≤ range.s → 2 ^ v ≤ range.t → class_count q 1 t ≡ 1
  count_one squares t v e some reach = counted t (2 ^ v) e ∙ (squares q range.s range.t v canonical sphere some reach).one

  -- none elsewhere
  pub count_none : RowOneIsPowers → (t : ℤ) → (1 ≤ range.s → (n : ℕ) → t ≡ pos n → n ≤ range.t → is_power_of_two n ≡ false) → class_count q 1 t ≡ 0
  count_none powers t none = by (above_of q.base.bottom t) refl
    where
      at : (k : ℕ) → t ≡ pos k → count_of q 1 k ≡ 0
      at k e = elim (cases_lt range.t k) [
        | inl past ↦ none_past q range.s range.t canonical.canonical 1 k (λ l b. omega (arith, b, past))
        | inr degree ↦ elim (cases_lt 0 range.s) [
          | inl row ↦ powers q range.s range.t k canonical sphere row degree (none row k e degree)
          | inr no_row ↦ none_past q range.s range.t canonical.canonical 1 k (λ l b. omega (arith, l, no_row))
        ]
      ]

      by : (o : Option ℕ) → above_of q.base.bottom t ≡ o → class_count q 1 t ≡ 0
      by None e = ap (λ (o : Option ℕ). unwrap_or (option_map (count_of q 1) o) 0) e
      by (Some k) e =
          let b = sphere.bottom in
          let is = natural-is (t -ℤ q.base.bottom) k e in
          let degree : t ≡ pos k = omega (arith, ints) in
          counted t k degree ∙ at k degree

-- a class behind the last at its place is not there
pub missing : (q : Resolution) (by : Class) (count : ℕ) → by.s ≡ 1 → class_count q 1 by.t ≡ count → count ≤ by.i → missing_in q by ≡ Some count
missing q by count row is few =
    let here : class_count q by.s by.t ≡ count = ap (λ (s : ℕ). class_count q s by.t) row ∙ is in
    ap (λ (n : ℕ). if nat_lt by.i n then None else Some n) here ∙ ap (λ (b : Bool). if b then None else Some count) (le-ltb by.i count few)

-- h_v is there
pub h_there : RowOneHasSquares → (range : Range) (by : Class) → IsH range by → OfSpheres range (λ q. missing_in q by ≡ None)
h_there squares range by is q canonical sphere =
    let v = is.exponent in
    let one = count_one q range canonical sphere squares (pos (2 ^ v)) v refl is.row is.degree in
    ap (missing_in q) (sym is.is) ∙ ap (λ (n : ℕ). if nat_lt 0 n then None else Some n) one
