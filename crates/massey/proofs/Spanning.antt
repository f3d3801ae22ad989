-- The rows that span the indeterminacy.
use Rattle.std.proofs.Common.{◌≡◌, ◌⊎◌, inl, inr, ℕ, suc, ◌+◌, ◌<◌, ◌≤◌, ℤ, ◌+ℤ◌, Bool, false, List, [], ◌++◌, length, map, ap, sym, subst, ◌∙◌, arith}
use Rattle.std.specs.List.{range_with_len}
use Rattle.std.proofs.lemmas.Int.{ints}
use Rattle.std.proofs.lemmas.Bool.{cases_lt}
use Rattle.std.proofs.lemmas.List.{ext_get_or, get_or-drop}
use Rattle.std.proofs.lemmas.List.FromFn.{length-map-range_with_len, get_or-map-range_with_len}
use Rattle.bidegree.specs.declared.range.Range.{Range}
use Rattle.f2_vec.specs.Vectors.{bit}
use Rattle.f2_vec.specs.Spans.{row, HaveWidth}
use Rattle.f2_vec.proofs.Spans.{HaveWidth-append}
use Rattle.f2_vec.proofs.Combinations.{HaveWidth-map}
use Rattle.square.specs.Tables.{Staircase}
use Rattle.lift_laws.specs.Lifts.{Resolution, IsLift, dual_of}
use Rattle.lift_laws.specs.Products.{Class, first_of, count_of, old_width, coefficients, coefficient_of, on_square, number_of, degree_of_class, product_by}
use Rattle.lift_laws.proofs.Coefficients.{map_range}
use Rattle.lift_laws.proofs.ChainMaps.{IsLift-lower}
use Rattle.bracket_laws.specs.Brackets.{top_of}
use Rattle.bracket_laws.proofs.Vectors.{length-on_square, on_square-same}
use Rattle.chain_map.specs.Lifting.{LiftValues, resolution_of, IsCanonicalIn, map_of}
use Rattle.yoneda.specs.Products.{class_above, IsYonedaProduct, AreProducts}
use Rattle.massey.specs.declared.places.Places.{Places}
use Rattle.chain_map.specs.Classes.{through}
use Rattle.massey.specs.Inside.{above_of, above_ab, above_bc, IsSettingIn, AreLifts, lower_product, AreSpanning}
use Rattle.yoneda.proofs.Through.{count_through, on_square_through, coefficient_through}
use Rattle.massey.proofs.Members.{gamma_through}

module _ (table sphere : Staircase) (range far : Range) (p : Places) (s : IsSettingIn table sphere range far p) (all : IsCanonicalIn range table) (all_q : IsCanonicalIn far sphere) (n : ℕ) (n_row : suc n ≡ p.c.s + p.b.s)
    (rows : List (List Bool)) (count : length rows ≡ count_of (resolution_of table) n (above_bc p)) (are : AreProducts table sphere p.a n (above_bc p) rows) where
  abbrev r : Resolution
  r = resolution_of table

  abbrev q : Resolution
  q = resolution_of sphere

  abbrev rc : Resolution
  rc = through range table

  abbrev qc : Resolution
  qc = through far sphere

  abbrev a : Class
  a = class_above p.a

  abbrev x : ℤ
  x = degree_of_class rc (class_above p.c) +ℤ degree_of_class qc (class_above p.b)

  abbrev top : ℤ
  top = top_of rc (class_above p.a) (class_above p.b) (class_above p.c)

  abbrev z : ℕ → Class
  z j = record { s = n; above = above_bc p; i = j }

  products : (j : ℕ) → j < length rows → IsYonedaProduct rc qc a (z j) (row rows j)
  products j h =
      are j h range far s.through_table s.through_sphere (omega arith) (omega arith) (omega arith) (omega arith) all all_q

  -- a lift of number j of the square of bc one row lower
  chosen : (j : ℕ) → (j < length rows) ⊎ (length rows ≤ j) → ℕ → ℕ → List Bool
  chosen j (inl h) = (products j h).some.phi
  chosen j (inr h) = λ k g. []

  lifts : ℕ → ℕ → ℕ → List Bool
  lifts j = chosen j (cases_lt j (length rows))

  in_rows : n + p.a.s ≤ range.s
  in_rows = let i = s.inside.row in omega arith

  record IsChosen (j : ℕ) (phi : ℕ → ℕ → List Bool) : Type 0 where
    is_lift : IsLift rc qc n x (dual_of rc qc n x (first_of rc n (above_bc p) + j)) p.a.s top phi
    gives : row rows j ≡ product_by rc qc a phi (n + p.a.s) (above_of p)

  chosen-is : (j : ℕ) (d : (j < length rows) ⊎ (length rows ≤ j)) → j < length rows → IsChosen j (chosen j d)
  unfolding chosen
  chosen-is j (inl h) l =
      let made = (products j h).some in
      let in_row = in_rows in
      let same : degree_of_class rc (z j) ≡ x = omega (arith, ints) in
      let at : p.a.above + above_bc p ≡ above_of p = omega arith in
      let w = degree_of_class rc (z j) in
      let lift = IsLift-lower rc qc n w (dual_of rc qc n w (number_of rc (z j))) p.a.s made.top top made.phi (omega (arith, ints)) made.is_lift in
      record {
        is_lift = subst (λ (w : ℤ). IsLift rc qc n w (dual_of rc qc n w (first_of rc n (above_bc p) + j)) p.a.s top made.phi) same lift;
        gives = made.gives ∙ ap (product_by rc qc a made.phi (n + p.a.s)) at;
      }
  chosen-is j (inr h) l = absurd (omega arith)

  lifts-is : (j : ℕ) → j < length rows → IsChosen j (lifts j)
  unfolding lifts
  lifts-is j l = chosen-is j (cases_lt j (length rows)) l

  pub spanning : (beta gamma : LiftValues) → AreLifts table sphere p beta gamma → (whole : List (List Bool)) → ((l : ℕ) → suc l ≡ p.b.s + p.a.s → whole ≡ rows ++ map (lower_product table sphere p gamma l) (range_with_len 0 (count_of q l (above_ab p)))) → AreSpanning table sphere p n whole range far
  spanning beta gamma ls whole gives l l_row =
      let i = s.inside in
      let in_row = in_rows in
      let ab_degree = i.ab_degree in
      let count_rc : count_of rc n (above_bc p) ≡ count_of r n (above_bc p) = count_through table range n (above_bc p) (omega arith) i.bc_degree in
      let count_qc : count_of qc l (above_ab p) ≡ count_of q l (above_ab p) = count_through sphere far l (above_ab p) (omega arith) ab_degree in
      let F : ℕ → List Bool = λ j. product_by rc qc a (lifts j) (n + p.a.s) (above_of p) in
      let G : ℕ → List Bool = λ k. on_square rc (n + p.a.s) (above_of p) (λ g. bit (coefficients qc l (above_ab p) (map_of gamma l g)) k) in
      let len = length-map-range_with_len F 0 (count_of rc n (above_bc p)) in
      let first : rows ≡ map F (range_with_len 0 (count_of rc n (above_bc p))) = ext_get_or [] rows (map F (range_with_len 0 (count_of rc n (above_bc p)))) (omega arith)
      (λ j h. (lifts-is j h).gives ∙ sym (get_or-map-range_with_len F 0 (count_of rc n (above_bc p)) j j [] (omega arith) (omega arith))) in
      let same_row : p.c.s + l ≡ n + p.a.s = omega arith in
      let each : (k : ℕ) → lower_product table sphere p gamma l k ≡ G k = λ k.
      let y : Class = record { s = l; above = above_ab p; i = k } in
      ap (λ (w : ℕ). on_square r w (above_of p) (λ g. coefficient_of q y (map_of gamma l g))) same_row
      ∙ (sym (on_square_through table range (n + p.a.s) (above_of p) (λ g. coefficient_of q y (map_of gamma l g)) in_row i.degree)
      ∙ on_square-same rc (n + p.a.s) (above_of p) (λ g. coefficient_of q y (map_of gamma l g)) (λ g. bit (coefficients qc l (above_ab p) (map_of gamma l g)) k)
      (λ m h. sym (coefficient_through sphere far y (map_of gamma l (first_of rc (n + p.a.s) (above_of p) + m)) (omega arith) ab_degree)
      ∙ sym (get_or-drop (old_width qc l (above_ab p)) (map_of gamma l (first_of rc (n + p.a.s) (above_of p) + m)) k false))) in
      let second : map (lower_product table sphere p gamma l) (range_with_len 0 (count_of q l (above_ab p))) ≡ map G (range_with_len 0 (count_of qc l (above_ab p))) =
      map_range (lower_product table sphere p gamma l) G 0 (count_of q l (above_ab p)) (λ k h. each (0 + k)) ∙ ap (λ (c : ℕ). map G (range_with_len 0 c)) (sym count_qc) in
      record {
        lifts = lifts;
        gamma = map_of gamma;
        each = λ j h. (lifts-is j (omega arith)).is_lift;
        gamma_lift = gamma_through table sphere range far p s all all_q beta gamma ls l l_row;
        are = gives l l_row ∙ (ap (λ (w : List (List Bool)). w ++ map (lower_product table sphere p gamma l) (range_with_len 0 (count_of q l (above_ab p)))) first ∙ ap (λ (w : List (List Bool)). map F (range_with_len 0 (count_of rc n (above_bc p))) ++ w) second);
      }

-- the rows have one length
pub whole_widths : (table sphere : Staircase) (p : Places) (n l : ℕ) → suc n ≡ p.c.s + p.b.s → suc l ≡ p.b.s + p.a.s → (gamma : LiftValues) (rows whole : List (List Bool)) (m : ℕ) → m ≡ above_of p → HaveWidth (count_of (resolution_of table) (n + p.a.s) m) rows → whole ≡ rows ++ map (lower_product table sphere p gamma l) (range_with_len 0 (count_of (resolution_of sphere) l (above_ab p))) → HaveWidth (count_of (resolution_of table) (n + p.a.s) (above_of p)) whole
whole_widths table sphere p n l n_row l_row gamma rows whole m at wide are =
    let r = resolution_of table in
    let q = resolution_of sphere in
    let same : p.c.s + l ≡ n + p.a.s = omega arith in
    let size = count_of r (n + p.a.s) (above_of p) in
    let lower = map (lower_product table sphere p gamma l) (range_with_len 0 (count_of q l (above_ab p))) in
    let each : (k : ℕ) → length (lower_product table sphere p gamma l k) ≡ size = λ k.
    length-on_square r (p.c.s + l) (above_of p) (λ g. coefficient_of q (record { s = l; above = above_ab p; i = k }) (map_of gamma l g)) ∙ ap (λ (i : ℕ). count_of r i (above_of p)) same in
    subst (HaveWidth size) (sym are) (HaveWidth-append size rows lower (subst (λ (k : ℕ). HaveWidth (count_of r (n + p.a.s) k) rows) at wide) (HaveWidth-map size (lower_product table sphere p gamma l) (range_with_len 0 (count_of q l (above_ab p))) each))
