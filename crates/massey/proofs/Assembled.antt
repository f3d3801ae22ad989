-- A member, cleared at the pivots of the indeterminacy's basis, and that basis are the bracket.
use Rattle.std.proofs.Common.{◌≡◌, ℕ, suc, ◌+◌, ◌<◌, ℤ, Bool, false, List, length, ap, sym, subst, ◌∙◌, arith}
use Rattle.std.proofs.lemmas.Int.{ints}
use Rattle.bidegree.specs.declared.range.Range.{Range}
use Rattle.finite_module.specs.Graded.{ModulesAreSteenrodModules}
use Rattle.f2_vec.specs.Vectors.{bit, sum_of, IsZero}
use Rattle.f2_vec.specs.Spans.{IsInSpan}
use Rattle.f2_vec.proofs.Sums.{sum_of-comm}
use Rattle.f2_matrix.specs.Echelon.{IsRowBasis}
use Rattle.square.specs.Tables.{Staircase}
use Rattle.lift_laws.specs.Lifts.{Resolution, IsCanonical, IsSphere}
use Rattle.lift_laws.specs.Products.{Class, first_of, count_of, coefficient_of, product_by}
use Rattle.bracket_laws.specs.Brackets.{HasRoom, HasZeroProduct, top_of, IsBracketMember, IsIndeterminacy, BracketIsCoset}
use Rattle.bracket_laws.proofs.Vectors.{bit-on_square}
use Rattle.chain_map.specs.Lifting.{LiftValues, resolution_of, IsCanonicalIn, map_of}
use Rattle.yoneda.specs.Products.{class_above}
use Rattle.massey.specs.declared.places.Places.{Places}
use Rattle.massey.specs.Brackets.{IsBracketOf, IsZeroAtPivots}
use Rattle.chain_map.specs.Classes.{through}
use Rattle.massey.specs.Inside.{above_of, above_ab, IsSettingIn, AreLifts, IsMemberBy, AreSpanning, IsBracket}
use Rattle.chain_map.proofs.Resolved.{is_canonical}
use Rattle.yoneda.proofs.Through.{count_through, product_through}
use Rattle.massey.proofs.Values.{room_of}
use Rattle.massey.proofs.Members.{beta_through}

-- a product that is zero has no coefficient, in its row under each name
pub no_coefficient : (r q : Resolution) (a : Class) (phi : ℕ → ℕ → List Bool) (k row m : ℕ) → k ≡ row → IsZero (product_by r q a phi k m) → (i : ℕ) → i < count_of r row m → coefficient_of q a (phi a.s (first_of r row m + i)) ≡ false
no_coefficient r q a phi k row m same zero =
    subst (λ (k : ℕ). (i : ℕ) → i < count_of r k m → coefficient_of q a (phi a.s (first_of r k m + i)) ≡ false) same
    (λ i h. sym (bit-on_square r k m (λ g. coefficient_of q a (phi a.s g)) i h) ∙ zero i)

-- over canonical resolutions: any member, and any that is zero at the pivots and apart from it by the indeterminacy
module _ (coset : BracketIsCoset) (r q : Resolution) (range far : Range) (canonical : IsCanonical r range.s range.t) (canonical_q : IsCanonical q far.s far.t) (sphere : IsSphere q) (a b c : Class) (n l : ℕ) (n_row : suc n ≡ c.s + b.s) (l_row : suc l ≡ b.s + a.s)
    (room : HasRoom range.s range.t far.s far.t a b c n l) (a_there : a.i < count_of q a.s a.above) (zero : HasZeroProduct r q a b c l (top_of r a b c)) where
  abbrev whole : ℕ
  whole = count_of r (n + a.s) (a.above + b.above + c.above)

  pub bracket_of : (first value : List Bool) (rows basis : List (List Bool)) → IsBracketMember r q a b c n l (top_of r a b c) first → length value ≡ whole → IsIndeterminacy r q a b c n l (top_of r a b c) rows → IsRowBasis whole rows basis → IsInSpan whole basis (sum_of first value) → IsZeroAtPivots basis value → IsBracketOf r q a b c value basis
  bracket_of first value rows basis member len spans is_basis in_span clear =
      let law = λ (w : List Bool) (is : IsBracketMember r q a b c n l (top_of r a b c) w).
      coset r q range.s range.t far.s far.t a b c n l (top_of r a b c) rows w canonical canonical_q sphere room (omega (arith, ints)) (omega (arith, ints)) a_there zero spans is in
      let reached : IsInSpan whole rows (sum_of value first) = (is_basis.same_span (sum_of value first)).1 (subst (IsInSpan whole basis) (sum_of-comm first value) in_span) in
      let is : IsBracketMember r q a b c n l (top_of r a b c) value = (law first member value len).1 reached in
      record {
        n = n;
        l = l;
        n_row = n_row;
        l_row = l_row;
        member = is;
        spanning = rows;
        spans = spans;
        basis = is_basis;
        clear = clear;
        all = λ v e. (λ w. (is_basis.same_span (sum_of v value)).0 ((law value is v e).0 w), λ w. (law value is v e).1 ((is_basis.same_span (sum_of v value)).1 w));
      }

module _ (coset : BracketIsCoset) (modules : ModulesAreSteenrodModules)
    (table sphere : Staircase) (range far : Range) (p : Places) (s : IsSettingIn table sphere range far p) (all : IsCanonicalIn range table) (all_q : IsCanonicalIn far sphere)
    (beta gamma : LiftValues) (lifts : AreLifts table sphere p beta gamma) (n : ℕ) (n_row : suc n ≡ p.c.s + p.b.s) where
  abbrev q : Resolution
  q = resolution_of sphere

  abbrev rc : Resolution
  rc = through range table

  abbrev qc : Resolution
  qc = through far sphere

  abbrev a : Class
  a = class_above p.a

  abbrev b : Class
  b = class_above p.b

  abbrev c : Class
  c = class_above p.c

  abbrev top : ℤ
  top = top_of rc a b c

  abbrev size : ℕ
  size = count_of rc (n + p.a.s) (above_of p)

  l : ℕ
  l = p.b.s + lifts.last

  l_row : suc l ≡ p.b.s + p.a.s
  unfolding l
  l_row = let e = lifts.a_row in omega arith

  room : HasRoom range.s range.t far.s far.t a b c n l
  room = room_of table sphere range far p s.inside beta gamma lifts n n_row l l_row

  zero_product : HasZeroProduct rc qc a b c l top
  zero_product =
      let i = s.inside in
      let part = product_through sphere sphere far far a (p.b.s + p.a.s) (above_ab p) (map_of beta) (omega arith) i.ab_degree (omega arith) (omega arith) in
      record {
        beta = map_of beta;
        beta_lift = beta_through table sphere range far p s all all_q beta gamma lifts l l_row;
        zero = no_coefficient qc qc a (map_of beta) (p.b.s + p.a.s) (suc l) (above_ab p) (sym l_row) (λ k. ap (λ (v : List Bool). bit v k) part ∙ lifts.ab_zero k);
      }

  a_there : p.a.i < count_of qc p.a.s p.a.above
  a_there =
      let same = count_through sphere far p.a.s p.a.above (omega arith) (omega arith) in
      omega (arith, s.a_in.generator)

  -- the bracket, as the call made it
  pub assembled_in : (first value : List Bool) (rows given basis : List (List Bool)) (cols basis_cols : ℕ) → length first ≡ count_of (resolution_of table) (n + p.a.s) (above_of p) → length value ≡ length first → cols ≡ length first → basis_cols ≡ cols → given ≡ rows → IsMemberBy table sphere p n first range far → AreSpanning table sphere p n rows range far → IsRowBasis cols given basis → IsInSpan basis_cols basis (sum_of first value) → IsZeroAtPivots basis value → IsBracket table sphere p value basis range far
  assembled_in first value rows given basis cols basis_cols len_first len cols_are basis_cols_are given_are member spanning is_basis in_span clear =
      let i = s.inside in
      let through_is : size ≡ count_of (resolution_of table) (n + p.a.s) (above_of p) = count_through table range (n + p.a.s) (above_of p) (omega (arith, i.row)) i.degree in
      let first_size : length first ≡ size = len_first ∙ sym through_is in
      let cols_size : cols ≡ size = cols_are ∙ first_size in
      bracket_of coset rc qc range far (is_canonical table s.is_table range (s.through_table range.s (omega arith)) modules all) (is_canonical sphere s.is_sphere_table far (s.through_sphere far.s (omega arith)) modules all_q) (record { bottom = s.is_sphere.bottom; one = s.is_sphere.one; none = s.is_sphere.none })
      a b c n l n_row l_row room a_there zero_product first value rows basis (member l l_row) (len ∙ first_size) (spanning l l_row)
      (subst (λ (w : List (List Bool)). IsRowBasis size w basis) given_are (subst (λ (k : ℕ). IsRowBasis k given basis) cols_size is_basis)) (subst (λ (k : ℕ). IsInSpan k basis (sum_of first value)) (basis_cols_are ∙ cols_size) in_span) clear
