-- The value that a null homotopy gives is one of the bracket.
use Rattle.std.proofs.Common.{◌≡◌, ℕ, suc, ◌+◌, ◌≤◌, ℤ, pos, ◌+ℤ◌, ◌-ℤ◌, ◌≤ℤ◌, Bool, List, ap, sym, subst, ◌∙◌, arith}
use Rattle.std.proofs.lemmas.Int.{ints}
use Rattle.bidegree.specs.declared.range.Range.{Range}
use Rattle.bidegree.specs.declared.place.Place.{Place}
use Rattle.f2_vec.specs.Vectors.{plus, zeros}
use Rattle.f2_vec.specs.Spans.{row}
use Rattle.f2_vec.proofs.Sums.{length-zeros, plus-false}
use Rattle.square.specs.Squares.{bottom_of}
use Rattle.square.specs.Tables.{Staircase, IsThrough}
use Rattle.lift_laws.specs.Lifts.{Resolution}
use Rattle.lift_laws.specs.Products.{Class, first_of, count_of, coefficients, coefficient_of, on_square, degree_of_class, IsLiftOfClass}
use Rattle.bracket_laws.specs.Brackets.{dot, top_of}
use Rattle.bracket_laws.proofs.Dots.{dot-zeros}
use Rattle.bracket_laws.proofs.Vectors.{on_square-same}
use Rattle.chain_map.specs.Lifting.{LiftValues, resolution_of, IsCanonicalIn, map_of, greatest, IsLiftOver}
use Rattle.yoneda.specs.Products.{class_above}
use Rattle.yoneda.proofs.OneProduct.{canonical_less}
use Rattle.massey.specs.declared.places.Places.{Places}
use Rattle.chain_map.specs.Classes.{through}
use Rattle.massey.specs.Inside.{above_of, above_ab, IsSettingIn, AreLifts, IsLastMap, IsMemberBy}
use Rattle.yoneda.proofs.Through.{on_square_through, coefficient_through, class_through}
use Rattle.massey.proofs.Values.{reaches_in}

module _ (table sphere : Staircase) (range far : Range) (p : Places) (s : IsSettingIn table sphere range far p) (all : IsCanonicalIn range table) (all_q : IsCanonicalIn far sphere) where
  abbrev r : Resolution
  r = resolution_of table

  abbrev q : Resolution
  q = resolution_of sphere

  abbrev rc : Resolution
  rc = through range table

  abbrev qc : Resolution
  qc = through far sphere

  abbrev a : Class
  a = class_above p.a

  abbrev b : Class
  b = class_above p.b

  abbrev c : Class
  c = class_above p.c

  abbrev top : ℤ
  top = top_of rc a b c

  -- a lift that was made, through a degree that the ranges have
  pub made_through : (first : Staircase) (near : Range) (x : Place) (upto : ℕ) (lift : LiftValues) (at : ℕ) (less : ℤ) → IsLiftOver first sphere x.s x.above x.i upto lift → IsCanonicalIn near first → IsThrough near first.rows → x.s + upto ≤ near.s → upto ≤ far.s → x.above ≤ near.t → at ≤ near.t → at ≤ x.above + far.t → less ≤ℤ (bottom_of first.resolved +ℤ pos at) → IsLiftOfClass (through near first) qc (class_above x) upto less (map_of lift)
  made_through first near x upto lift at less lifted canonical whole rows rows_q small degree degree_q low =
      let zero = s.is_sphere.bottom in
      let reached = reaches_in first sphere near far whole s.through_sphere x.s x.above upto at rows rows_q degree degree_q in
      let there = s.through_sphere upto rows_q in
      let is_lift = lifted.is_lift (at + 1) (far.t + 1) (record { within = omega arith; some = λ m. omega arith; there = omega arith; enough = omega arith })
      (canonical_less first near.s (near.t + 1) (x.s + upto) (at + 1) canonical rows (omega arith)) (canonical_less sphere far.s (far.t + 1) upto (far.t + 1) all_q rows_q (omega arith)) in
      class_through first sphere near far (class_above x) upto (greatest first (at + 1)) less (map_of lift) rows rows_q small (omega (arith, ints)) (omega (arith, ints)) (omega (arith, ints)) is_lift

  module _ (beta gamma : LiftValues) (lifts : AreLifts table sphere p beta gamma) (l : ℕ) (l_row : suc l ≡ p.b.s + p.a.s) where
    pub gamma_through : IsLiftOfClass rc qc c l top (map_of gamma)
    gamma_through =
        let same : p.b.s + lifts.last ≡ l = omega arith in
        subst (λ (k : ℕ). IsLiftOfClass rc qc c k top (map_of gamma)) same
        (made_through table range p.c (p.b.s + lifts.last) gamma (above_of p) top lifts.gamma_lift all s.through_table (omega arith) (omega arith) (omega arith) s.inside.degree (omega arith) (omega (arith, ints)))

    pub beta_through : IsLiftOfClass qc qc b p.a.s (top -ℤ degree_of_class rc c) (map_of beta)
    beta_through =
        let zero = s.is_sphere.bottom in
        made_through sphere far p.b p.a.s beta (above_ab p) (top -ℤ degree_of_class rc c) lifts.beta_lift all_q s.through_sphere (omega arith) (omega arith) (omega arith) s.inside.ab_degree (omega arith) (omega (arith, ints))

  pub member_of : (beta gamma : LiftValues) → AreLifts table sphere p beta gamma → (n : ℕ) → suc n ≡ p.c.s + p.b.s → (last : List (List Bool)) → IsLastMap table sphere p n beta gamma last range far → (v : List Bool)
      → v ≡ on_square r (n + p.a.s) (above_of p) (λ g. coefficient_of q a (row last g)) → IsMemberBy table sphere p n v range far
  member_of beta gamma lifts n n_row last m v gives l l_row =
      let i = s.inside in
      let e = zeros (count_of qc l (above_ab p)) in
      let value : (g : ℕ) → coefficient_of q a (row last g) ≡ plus (coefficient_of qc a (m.H p.a.s g)) (dot e (coefficients qc l (above_ab p) (map_of gamma l g))) = λ g.
      ap (coefficient_of q a) (m.values g)
      ∙ (sym (coefficient_through sphere far a (m.H p.a.s g) (omega arith) (omega arith))
      ∙ (sym (plus-false (coefficient_of qc a (m.H p.a.s g)))
      ∙ ap (plus (coefficient_of qc a (m.H p.a.s g))) (sym (dot-zeros (count_of qc l (above_ab p)) (coefficients qc l (above_ab p) (map_of gamma l g)))))) in
      record {
        gamma = map_of gamma;
        beta = map_of beta;
        H = m.H;
        e = e;
        gamma_lift = gamma_through beta gamma lifts l l_row;
        beta_lift = beta_through beta gamma lifts l l_row;
        homotopy = m.homotopy;
        one_each = length-zeros (count_of qc l (above_ab p));
        value = gives
            ∙ (sym (on_square_through table range (n + p.a.s) (above_of p) (λ g. coefficient_of q a (row last g)) (omega arith) i.degree)
            ∙ on_square-same rc (n + p.a.s) (above_of p) (λ g. coefficient_of q a (row last g)) (λ g. plus (coefficient_of qc a (m.H p.a.s g)) (dot e (coefficients qc l (above_ab p) (map_of gamma l g)))) (λ k h. value (first_of rc (n + p.a.s) (above_of p) + k)));
      }
