-- The table of the canonical resolution through a range, and images that are those of its squares.
use Rattle.std.proofs.Common.{◌≡◌, inl, inr, ℕ, suc, ◌+◌, ◌<◌, ◌≤◌, Bool, false, true, List, [], length, map, get_or, Some, nat_lt, if◌then◌else◌, refl, ap, sym, subst, ◌∙◌, arith}
use Rattle.std.specs.List.{slice_get}
use Rattle.std.proofs.lemmas.Bool.{cases_lt}
use Rattle.std.proofs.lemmas.Bool.Decides.{nat_tests}
use Rattle.std.proofs.lemmas.List.{get_or-map, get_or_past, length-map}
use Rattle.std.proofs.lemmas.List.FromFn.{length-map-range_with_len, get_or-map-range_with_len}
use Rattle.std.proofs.lemmas.Option.{get_or_from_slice_get, slice_get-get_or, slice_get_within}
use Rattle.bidegree.specs.declared.range.Range.{Range}
use Rattle.bidegree.specs.declared.range.TheConstants.{MAX_S, MAX_T}
use Rattle.finite_module.specs.Checked.{Checked}
use Rattle.resolution_laws.specs.Resolution.{Content, no_content, square_in, row_of, IsCanonicalTable}
use Rattle.resolution_laws.specs.Start.{IsOf}
use Rattle.square.specs.Squares.{Placed, over}
use Rattle.square.specs.Tables.{Staircase, row_in, plain_rows, content_at, IsIn, IsTable, IsThrough, cut}
use Rattle.square.proofs.Places.{content_at-is, length-row_of}
use Rattle.resolution_images.specs.BareRows.{BareTable, contents_of, squares_of}
use Rattle.resolution_images.proofs.Contents.{bare, row_bare}
use Rattle.chain_map.specs.Lifting.{IsCanonicalIn}
use Rattle.chain_map.specs.Sources.{canonical_square, canonical_place, length_through, canonical_row, canonical_rows, canonical_table, AreWhole}
use Rattle.chain_map.proofs.Classes.{square_inside}
use Rattle.chain_map.proofs.Resolved.{canonical-part}

-- ---- its rows

module _ (m : Checked) (range : Range) where
  abbrev rows : List (List Placed)
  rows = canonical_rows m range

  row-is : (s : ℕ) → s ≤ MAX_S → row_in rows s ≡ canonical_row m range s
  unfolding canonical_rows
  row-is s l = get_or-map-range_with_len (canonical_row m range) 0 (MAX_S + 1) s s [] (omega arith) (omega arith)

  length-rows : length rows ≡ MAX_S + 1
  unfolding canonical_rows
  length-rows = length-map-range_with_len (canonical_row m range) 0 (MAX_S + 1)

  length-row : (s : ℕ) → s ≤ MAX_S → length (row_in rows s) ≡ length_through range s
  length-row s l = ap length (row-is s l) ∙ length-map-range_with_len (canonical_place m s) 0 (length_through range s)

  pub length-inside : (s : ℕ) → s ≤ MAX_S → s ≤ range.s → length (row_in rows s) ≡ range.t + 1
  length-inside s l b =
      let test : nat_lt range.s s ≡ false = grind (arith, nat_tests) in
      length-row s l ∙ ap (λ (past : Bool). if past then 0 else range.t + 1) test

  pub length-outside : (s : ℕ) → range.s < s → length (row_in rows s) ≡ 0
  length-outside s past = elim (cases_lt MAX_S s) [
    | inl l ↦ ap length (get_or_past rows s [] (omega (arith, length-rows)))
    | inr l ↦
        let test : nat_lt range.s s ≡ true = grind (arith, nat_tests) in
        length-row s l ∙ ap (λ (past : Bool). if past then 0 else range.t + 1) test
  ]

  place-is : (s k : ℕ) → s ≤ MAX_S → s ≤ range.s → k ≤ range.t → (q : Placed) → get_or (row_in rows s) k q ≡ canonical_place m s k
  place-is s k l b c q =
      ap (λ (xs : List Placed). get_or xs k q) (row-is s l)
      ∙ get_or-map-range_with_len (canonical_place m s) 0 (length_through range s) k k q (omega (arith, length-row s l, length-inside s l b)) (omega arith)

  module _ (row : range.s ≤ MAX_S) (degree : range.t ≤ MAX_T) where
    is-in : (s k : ℕ) (q : Placed) → slice_get (row_in rows s) k ≡ Some q → IsIn (canonical_table m range) s k q
    is-in s k q e =
        let b : k < length (row_in rows s) = slice_get_within (row_in rows s) k q e in
        elim (cases_lt range.s s) [
          | inl past ↦ absurd (omega (arith, length-outside s past))
          | inr l ↦
              let small : s ≤ MAX_S = omega arith in
              let near : k ≤ range.t = omega (arith, length-inside s small l) in
              let is : canonical_place m s k ≡ q = sym (place-is s k small l near q) ∙ get_or_from_slice_get (row_in rows s) k q q e in
              subst (IsIn (canonical_table m range) s k) is (record {
                s_is = refl;
                above_is = refl;
                within = omega arith;
                resolved_is = refl;
                is_of = (canonical_square m s k).1;
                beneath = λ i j h c. refl;
                start_is = λ none. refl;
              })
        ]

    pub is_table : IsTable (canonical_table m range)
    is_table = record {
      rows = length-rows;
      never_rise = λ s. elim (cases_lt range.s (suc s)) [
        | inl past ↦ omega (arith, length-outside (suc s) past)
        | inr l ↦ omega (arith, length-inside (suc s) (omega arith) l, length-inside s (omega arith) (omega arith))
      ];
      placed = is-in;
      started = λ s k content e. cc;
    }

    pub is_through : IsThrough range rows
    is_through s l = omega (arith, length-inside s (omega arith) l)

    content-is : (s k : ℕ) → s ≤ range.s → k ≤ range.t → content_at rows s k ≡ (canonical_square m s k).0
    content-is s k l b =
        let q = canonical_place m s k in
        let at : slice_get (row_in rows s) k ≡ Some q = slice_get-get_or (row_in rows s) k q (omega (arith, length-inside s (omega arith) l)) ∙ ap (λ (p : Placed). Some p) (place-is s k (omega arith) l b q) in
        content_at-is rows s k q at

    pub are_canonical : IsCanonicalIn range (canonical_table m range)
    are_canonical i k l b = subst (IsOf (over m) [] i k) (sym (content-is i k l (omega arith))) (canonical_square m i k).1

-- ---- images of its squares

module _ (images : BareTable) (w : AreWhole images) where
  abbrev m : Checked
  m = images.resolved

  abbrev range : Range
  range = images.range

  abbrev table : Staircase
  table = canonical_table m range

  abbrev part : List (List Content)
  part = cut range (plain_rows table.rows)

  pub part-canonical : IsCanonicalTable (over m) range.s range.t part
  part-canonical = canonical-part table (is_table m range w.row w.degree) range (is_through m range w.row w.degree range.s (omega arith)) (are_canonical m range w.row w.degree)

  same-row : (i : ℕ) → i ≤ range.s → row_of (squares_of images.rows) i ≡ map bare (row_of part i)
  same-row i l = row_bare (over m) range.s range.t images.rows part part-canonical w.are i l

  length-part : (i : ℕ) → i ≤ range.s → length (row_of part i) ≡ range.t + 1
  length-part i l = part-canonical.squares i l

  pub front_is : (s : ℕ) → length (row_of (squares_of images.rows) s) ≡ length (row_in table.rows s)
  front_is s = elim (cases_lt range.s s) [
    | inl past ↦
        ap length (get_or_past (squares_of images.rows) s [] (omega (arith, w.are.rows, length-map images.rows contents_of))) ∙ sym (length-outside m range s past)
    | inr l ↦
        ap length (same-row s l) ∙ (length-map (row_of part s) bare ∙ (length-part s l ∙ sym (length-inside m range s (let b = w.row in omega arith) l)))
  ]

  pub images_are : (s k : ℕ) → k < length (row_in table.rows s) → (square_in (row_of (squares_of images.rows) s) k).images ≡ (content_at table.rows s k).images
  images_are s k b = elim (cases_lt range.s s) [
    | inl past ↦ absurd (omega (arith, length-outside m range s past))
    | inr l ↦
        let row = w.row in
        let near : k ≤ range.t = omega (arith, length-inside m range s (omega arith) l) in
        ap (λ (z : List Content). (square_in z k).images) (same-row s l)
        ∙ (ap (λ (c : Content). c.images) (get_or-map bare (row_of part s) k no_content no_content (omega (arith, length-part s l)))
        ∙ ap (λ (c : Content). c.images) (square_inside table range s k l near))
  ]

  pub no_images : (s k : ℕ) → length (row_in table.rows s) ≤ k → [] ≡ (content_at table.rows s k).images
  no_images s k past = sym (ap (λ (c : Content). c.images) (get_or_past (row_of (plain_rows table.rows) s) k no_content (omega (arith, length-row_of table.rows s))))

  pub place_small : (s k : ℕ) → k < length (row_in table.rows s) → (s ≤ MAX_S) × (k ≤ MAX_T)
  place_small s k b = elim (cases_lt range.s s) [
    | inl past ↦ absurd (omega (arith, length-outside m range s past))
    | inr l ↦ let row = w.row in let degree = w.degree in let len = length-inside m range s (omega arith) l in (omega arith, omega arith)
  ]
