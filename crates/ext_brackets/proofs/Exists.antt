-- There is a bracket of classes whose products are zero.
use Rattle.std.proofs.Common.{◌≡◌, inl, inr, ℕ, suc, ◌+◌, ◌-◌, ◌<◌, ◌≤◌, ℤ, pos, ◌+ℤ◌, ◌-ℤ◌, ◌≤ℤ◌, Bool, List, [], ◌++◌, length, map, refl, sym, subst, ◌∙◌, arith}
use Rattle.std.specs.List.{range_with_len}
use Rattle.std.proofs.lemmas.Bool.{cases_lt}
use Rattle.std.proofs.lemmas.Int.{ints}
use Rattle.bidegree.specs.declared.range.Range.{Range}
use Rattle.f2_vec.specs.Vectors.{bit, zeros, IsZero}
use Rattle.f2_vec.specs.Spans.{HaveWidth}
use Rattle.f2_vec.proofs.Sums.{length-zeros}
use Rattle.f2_vec.proofs.Spans.{HaveWidth-append}
use Rattle.f2_vec.proofs.Combinations.{HaveWidth-map}
use Rattle.f2_matrix.specs.Existence.{RowBasisExists}
use Rattle.f2_matrix.specs.Preimages.{rest_of}
use Rattle.f2_matrix.proofs.Pivots.{rest_length, rest_apart, rest_coset}
use Rattle.lift_laws.specs.Lifts.{Resolution, IsCanonical, IsSphere, IsLift, EachClassLifts, dual_of}
use Rattle.lift_laws.specs.Products.{Class, first_of, count_of, number_of, degree_of_class, coefficients, coefficient_of, on_square, product_by}
use Rattle.lift_laws.proofs.ChainMaps.{IsLift-less}
use Rattle.bracket_laws.specs.Brackets.{HasRoom, HasZeroProduct, HasZeroLower, IsIndeterminacy, IsBracketMember, BracketHasMember, BracketIsCoset, UnitsHaveNoZeroProducts, top_of, bracket_by}
use Rattle.bracket_laws.proofs.Vectors.{length-on_square}
use Rattle.chain_map.proofs.Generators.{is_number}
use Rattle.massey.specs.Brackets.{IsBracketOf}
use Rattle.massey.proofs.Assembled.{no_coefficient, bracket_of}
use Rattle.yoneda.specs.Products.{IsYonedaProduct}
use Rattle.ext_brackets.proofs.Members.{length-member}

-- ---- lifts

-- the laws on which brackets rest
pub record AreLaws : Type 0 where
  pub lifts : EachClassLifts
  pub member : BracketHasMember
  pub coset : BracketIsCoset
  pub units : UnitsHaveNoZeroProducts
  pub bases : RowBasisExists

-- x, y and z are classes of q, q and r, and their products and their bracket are in the range
pub record AreInRange (range : Range) (r q : Resolution) (x y z : Class) : Type 0 where
  pub x_there : x.i < count_of q x.s x.above
  pub y_there : y.i < count_of q y.s y.above
  pub z_there : z.i < count_of r z.s z.above
  pub xy_row : x.s + y.s ≤ range.s
  pub xy_degree : x.above + y.above ≤ range.t
  pub yz_row : y.s + z.s ≤ range.s
  pub yz_degree : y.above + z.above ≤ range.t
  pub row : x.s + y.s + z.s ≤ range.s + 1
  pub degree : x.above + y.above + z.above ≤ range.t

-- a lift of class i of the square (s, k), through row s + upto
record HasClassLift (r q : Resolution) (s k i upto : ℕ) (u top : ℤ) : Type 0 where
  pub phi : ℕ → ℕ → List Bool
  pub is_lift : IsLift r q s u (dual_of r q s u (first_of r s k + i)) upto top phi

class_lift : EachClassLifts → (r q : Resolution) (range : Range) → IsCanonical r range.s range.t → IsCanonical q range.s range.t → IsSphere q → (s k i upto : ℕ) (u top : ℤ) → i < count_of r s k → s + upto ≤ range.s → k ≤ range.t → u ≡ r.base.bottom +ℤ pos k → (top -ℤ u) ≤ℤ (q.base.bottom +ℤ pos range.t) → HasClassLift r q s k i upto u top
class_lift lifts r q range canonical canonical_q sphere s k i upto u top there rows within degree_is low =
    let long = canonical.canonical.squares s (omega arith) in
    let number = is_number r s k i (omega arith) there in
    let lift = lifts r q range.s range.t range.s range.t s (first_of r s k + i) u upto top canonical canonical_q sphere rows (omega arith) low number.there (number.degree_is ∙ sym degree_is) in
    record { phi = lift.phi; is_lift = lift.is_lift }

-- ---- the bracket

pub record HasBracket (r q : Resolution) (x y z : Class) : Type 0 where
  pub value : List Bool
  pub rows : List (List Bool)
  pub is_bracket : IsBracketOf r q x y z value rows

module _ (laws : AreLaws) (r q : Resolution) (range : Range) (canonical : IsCanonical r range.s range.t) (canonical_q : IsCanonical q range.s range.t) (sphere : IsSphere q)
    (x y z : Class) (inside : AreInRange range r q x y z) (xy yz : List Bool) (xy_is : IsYonedaProduct q q x y xy) (yz_is : IsYonedaProduct r q y z yz) (xy_zero : IsZero xy) (yz_zero : IsZero yz) where
  -- neither x nor y is in row 0, since their products are zero
  x_positive : 0 < x.s
  x_positive =
      let some = xy_is.some in
      laws.units q q range.s range.t range.s range.t x y x.s some.top some.phi canonical_q canonical_q sphere (omega arith) inside.x_there (omega arith) (omega arith) inside.y_there (omega (arith, ints)) some.is_lift (subst IsZero some.gives xy_zero)

  y_positive : 0 < y.s
  y_positive =
      let some = yz_is.some in
      laws.units r q range.s range.t range.s range.t y z y.s some.top some.phi canonical canonical_q sphere (omega arith) inside.y_there (omega arith) (omega arith) inside.z_there (omega (arith, ints)) some.is_lift (subst IsZero some.gives yz_zero)

  module _ (last low : ℕ) (x_row : x.s ≡ suc last) (y_row : y.s ≡ suc low) where
    abbrev n : ℕ
    n = z.s + low

    abbrev l : ℕ
    l = y.s + last

    abbrev top : ℤ
    top = top_of r x y z

    abbrev size : ℕ
    size = count_of r (n + x.s) (x.above + y.above + z.above)

    room : HasRoom range.s range.t range.s range.t x y z n l
    room =
        record { last = last; low = low; a_row = x_row; b_row = y_row; n_row = omega arith; l_row = omega arith; rows_r = omega arith; rows_q = omega arith; degrees_r = inside.degree; degrees_q = inside.xy_degree }

    beta : HasClassLift q q y.s y.above y.i x.s (degree_of_class q y) (top -ℤ degree_of_class r z)
    beta =
        class_lift laws.lifts q q range canonical_q canonical_q sphere y.s y.above y.i x.s (degree_of_class q y) (top -ℤ degree_of_class r z) inside.y_there (omega arith) (omega arith) refl (omega (arith, ints))

    gamma : HasClassLift r q z.s z.above z.i l (degree_of_class r z) top
    gamma =
        class_lift laws.lifts r q range canonical canonical_q sphere z.s z.above z.i l (degree_of_class r z) top inside.z_there (omega arith) (omega arith) refl (omega (arith, ints))

    low_top : (top -ℤ degree_of_class r z) ≤ℤ (q.base.bottom +ℤ pos range.t)
    low_top =
        omega (arith, ints, sphere.bottom, inside.xy_degree)

    product_zero : HasZeroProduct r q x y z l top
    product_zero =
        let given = xy_is.each (product_by q q x beta.phi (y.s + x.s) (x.above + y.above)) (record { top = top -ℤ degree_of_class r z; phi = beta.phi; reaches = omega (arith, ints); is_lift = beta.is_lift; gives = refl }) in
        let same : y.s + x.s ≡ suc l = omega arith in
        record {
          beta = beta.phi;
          beta_lift = beta.is_lift;
          zero = no_coefficient q q x beta.phi (y.s + x.s) (suc l) (x.above + y.above) same (subst IsZero given xy_zero);
        }

    lower_zero : HasZeroLower r q x y z n l top gamma.phi
    lower_zero =
        let less = IsLift-less r q z.s (degree_of_class r z) (dual_of r q z.s (degree_of_class r z) (number_of r z)) l y.s top gamma.phi (omega arith) gamma.is_lift in
        let given = yz_is.each (product_by r q y gamma.phi (z.s + y.s) (y.above + z.above)) (record { top = top; phi = gamma.phi; reaches = omega (arith, ints); is_lift = less; gives = refl }) in
        let same : z.s + y.s ≡ suc n = omega arith in
        record {
          gamma_lift = gamma.is_lift;
          zero = no_coefficient r q y gamma.phi (z.s + y.s) (suc n) (y.above + z.above) same (subst IsZero given yz_zero);
        }

    abbrev e : List Bool
    e = zeros (count_of q l (x.above + y.above))

    -- a member
    record HasMember : Type 0 where
      pub value : List Bool
      pub is_member : IsBracketMember r q x y z n l top value

    first : HasMember
    first =
        let H = laws.member r q range.s range.t range.s range.t x y z n l top gamma.phi beta.phi canonical canonical_q sphere room (omega (arith, ints)) low_top inside.y_there lower_zero beta.is_lift in
        record {
          value = bracket_by r q x y z n l gamma.phi H.0 e;
          is_member = record { gamma = gamma.phi; beta = beta.phi; H = H.0; e = e; gamma_lift = gamma.is_lift; beta_lift = beta.is_lift; homotopy = H.1; one_each = length-zeros (count_of q l (x.above + y.above)); value = refl };
        }

    -- ---- its indeterminacy

    abbrev lower_degree : ℤ
    lower_degree = degree_of_class r z +ℤ degree_of_class q y

    abbrev IsLowerLift : ℕ → (ℕ → ℕ → List Bool) → Type 0
    IsLowerLift j phi = IsLift r q n lower_degree (dual_of r q n lower_degree (first_of r n (y.above + z.above) + j)) x.s top phi

    record HasLowerLift (j : ℕ) : Type 0 where
      pub phi : ℕ → ℕ → List Bool
      pub is_lift : j < count_of r n (y.above + z.above) → IsLowerLift j phi

    lower_lift : (j : ℕ) → HasLowerLift j
    lower_lift j = elim (cases_lt j (count_of r n (y.above + z.above))) [
      | inl there ↦
          let k = inside.yz_degree in
          let lift = class_lift laws.lifts r q range canonical canonical_q sphere n (y.above + z.above) j x.s lower_degree top there (omega arith) k (omega (arith, ints)) (omega (arith, ints)) in
          record { phi = lift.phi; is_lift = λ h. lift.is_lift }
      | inr past ↦ record { phi = λ k g. []; is_lift = λ h. absurd (omega arith) }
    ]

    abbrev lifts : ℕ → ℕ → ℕ → List Bool
    lifts j = (lower_lift j).phi

    abbrev first_rows : List (List Bool)
    first_rows = map (λ j. product_by r q x (lifts j) (n + x.s) (x.above + y.above + z.above)) (range_with_len 0 (count_of r n (y.above + z.above)))

    abbrev second_rows : List (List Bool)
    second_rows = map (λ i. on_square r (n + x.s) (x.above + y.above + z.above) (λ g. bit (coefficients q l (x.above + y.above) (gamma.phi l g)) i)) (range_with_len 0 (count_of q l (x.above + y.above)))

    indeterminacy : IsIndeterminacy r q x y z n l top (first_rows ++ second_rows)
    indeterminacy = record { lifts = lifts; gamma = gamma.phi; each = λ j h. (lower_lift j).is_lift h; gamma_lift = gamma.is_lift; are = refl }

    wide : HaveWidth size (first_rows ++ second_rows)
    wide =
        let m = x.above + y.above + z.above in
        HaveWidth-append size first_rows second_rows
        (HaveWidth-map size (λ j. product_by r q x (lifts j) (n + x.s) m) (range_with_len 0 (count_of r n (y.above + z.above))) (λ j. length-on_square r (n + x.s) m (λ g. coefficient_of q x (lifts j x.s g))))
        (HaveWidth-map size (λ i. on_square r (n + x.s) m (λ g. bit (coefficients q l (x.above + y.above) (gamma.phi l g)) i)) (range_with_len 0 (count_of q l (x.above + y.above))) (λ i. length-on_square r (n + x.s) m (λ g. bit (coefficients q l (x.above + y.above) (gamma.phi l g)) i)))

    -- ---- all values

    bracket_is : HasBracket r q x y z
    bracket_is =
        let rows = first_rows ++ second_rows in
        let found = laws.bases size rows wide in
        let basis = found.0 in
        let is_basis = found.1 in
        let start = first.value in
        let len = length-member r q x y z n l top start first.is_member in
        let value = rest_of size basis start in
        let len_value : length value ≡ size = rest_length size basis start is_basis.widths len in
        record {
          value = value;
          rows = basis;
          is_bracket = bracket_of laws.coset r q range range canonical canonical_q sphere x y z n l (omega arith) (omega arith) room inside.x_there product_zero start value rows basis first.is_member len_value indeterminacy is_basis
              (rest_coset size basis start is_basis.widths len) (λ i p f. rest_apart size basis start i p is_basis.widths is_basis.reduced is_basis.nonzero len f);
        }

  pub bracket_exists : HasBracket r q x y z
  bracket_exists =
      let x_row = x_positive in
      let y_row = y_positive in
      bracket_is (x.s - 1) (y.s - 1) (omega arith) (omega arith)
