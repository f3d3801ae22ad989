-- The lines that are read off the images of a canonical resolution are those of the products.
use Rattle.std.proofs.Common.{◌≡◌, ℕ, ◌+◌, ◌^◌, ◌<◌, ◌≤◌, ℤ, pos, ◌+ℤ◌, Bool, List, length, Option, Some, None, refl, ap, sym, subst, ◌∙◌, arith}
use Rattle.std.specs.Prelude.{option_map, unwrap_or, nat_lt, if◌then◌else◌}
use Rattle.std.proofs.lemmas.Int.{ints}
use Rattle.std.proofs.lemmas.Nat.{pow_pos}
use Rattle.bidegree.specs.Above.{above_of}
use Rattle.bidegree.specs.LastDegrees.{last_degree}
use Rattle.bidegree.specs.declared.range.Range.{Range}
use Rattle.bidegree.specs.declared.shape.Shape.{Shape}
use Rattle.bidegree.proofs.Degrees.{above_of-is}
use Rattle.resolution_laws.specs.Resolution.{Content, row_of}
use Rattle.stem_laws.specs.Stems.{RowsInStemsAreWhole, SquaresInStemsAreThoseOfTable}
use Rattle.lift_laws.specs.Lifts.{Resolution, IsCanonical, IsSphere, EachClassLifts}
use Rattle.lift_laws.specs.Products.{Class as ClassAbove, count_of, degree_of_class, number_of, on_square}
use Rattle.chain_map.specs.Classes.{class_count, missing_in, IsAt}
use Rattle.chain_map.proofs.Generators.{is_number}
use Rattle.yoneda.specs.Products.{IsYonedaProduct}
use Rattle.h_laws.specs.Products.{h, first_on, ClassesWithHAreReadOffImages, RowOneHasSquares}
use Rattle.resolution_images.specs.BareRows.{BareTable, squares_of}
use Rattle.h_products.specs.ReadOff.{resolution_in}
use Rattle.ext_chart.specs.declared.class_products.ProductLine.{ProductLine}
use Rattle.ext_chart.specs.Seen.{IsSeenThrough}
use Rattle.ext_products.specs.Products.{OneEach, resolution, factors, IsProductLine, AreProductLines}
use Rattle.ext_products.proofs.OneEach.{OneEach-all}
use Rattle.ext_products.proofs.Factors.{IsFactor, are_factors, factors-same}
use Rattle.ext_h_products.specs.RowOne.{h_named, in_row_one, IsLineReadOff, IsAnswerOverImages}
use Rattle.ext_h_products.proofs.Rows.{last-next, same_count, same_read_off, rows_first}

-- ---- two canonical resolutions

module _ (lifts : EachClassLifts) (squares : RowOneHasSquares) (read_off : ClassesWithHAreReadOffImages) (r q : Resolution) (range : Range) (canonical : IsCanonical r range.s range.t) (canonical_q : IsCanonical q range.s range.t) (sphere : IsSphere q)
    (v : ℕ) (some : 1 ≤ range.s) (reach : 2 ^ v ≤ range.t) where
  -- h_v is there
  one : count_of q 1 (2 ^ v) ≡ 1
  one = (squares q range.s range.t v canonical_q sphere some reach).one

  above : above_of q.base.bottom (pos (2 ^ v)) ≡ Some (2 ^ v)
  above =
      let b = sphere.bottom in
      above_of-is q.base.bottom (pos (2 ^ v)) (2 ^ v) (omega (arith, ints))

  pub there : missing_in q (h_named v) ≡ None
  there =
      let count : class_count q 1 (pos (2 ^ v)) ≡ 1 = ap (λ (o : Option ℕ). unwrap_or (option_map (count_of q 1) o) 0) above ∙ one in
      ap (λ (n : ℕ). if nat_lt 0 n then None else Some n) count

  pub at : IsAt q (h_named v) (h v)
  at = let b = sphere.bottom in record { row = refl; degree = omega (arith, ints); number = refl }

  -- its product with a class
  pub is_product : (shape : Shape) (x : ClassAbove) → IsFactor r shape range (h v) x → (w : List Bool) → w ≡ on_square r (x.s + 1) (2 ^ v + x.above) (first_on r x.s (number_of r x)) → IsYonedaProduct r q (h v) x w
  is_product shape x factor w is =
      let row = factor.row in
      let degree = factor.degree in
      let long = canonical.canonical.squares x.s (omega arith) in
      let number = is_number r x.s x.above x.i (omega arith) factor.number in
      let top : ℤ = r.base.bottom +ℤ pos (2 ^ v + x.above) in
      let b = sphere.bottom in
      let lift = lifts r q range.s range.t range.s range.t x.s (number_of r x) (degree_of_class r x) 1 top canonical canonical_q sphere row some (omega (arith, ints)) number.there number.degree_is in
      record {
        some = record {
          top = top;
          phi = lift.phi;
          reaches = omega (arith, ints);
          is_lift = lift.is_lift;
          gives = is ∙ sym (read_off r q range.s range.t range.s range.t v x top lift.phi canonical canonical_q sphere factor.number row degree some reach (omega (arith, ints)) lift.is_lift);
        };
        each = λ u other. is ∙ (sym (read_off r q range.s range.t range.s range.t v x other.top other.phi canonical canonical_q sphere factor.number row degree some reach other.reaches other.is_lift) ∙ sym other.gives);
      }

-- ---- what is told

module _ (lifts : EachClassLifts) (squares : RowOneHasSquares) (read_off : ClassesWithHAreReadOffImages) (whole : RowsInStemsAreWhole) (those : SquaresInStemsAreThoseOfTable) (images : BareTable) (range : Range) (shape : Shape) (through : IsSeenThrough range shape (squares_of images.rows))
    (v : ℕ) (some : 1 ≤ range.s) (reach : 2 ^ v ≤ range.t) (lines : List ProductLine) (each : OneEach (IsLineReadOff (resolution_in images) (2 ^ v)) (factors (resolution_in images) shape range (in_row_one (2 ^ v))) lines) where
  -- the squares of a class and of its product are there
  near : (s k : ℕ) → s + 1 ≤ range.s → 2 ^ v + k ≤ last_degree shape range (s + 1) → (k < length (row_of (squares_of images.rows) s)) × (2 ^ v + k < length (row_of (squares_of images.rows) (s + 1)))
  near s k l b =
      let one : 1 ≤ 2 ^ v = pow_pos v in
      let next = last-next range shape s in
      let here = through s (omega arith) in
      let up = through (s + 1) l in
      (omega arith, omega arith)

  pub answer : IsAnswerOverImages (AreProductLines shape range (h_named v)) images range lines
  answer are table q canonical canonical_q sphere =
      let r : Resolution = resolution images.resolved.plain table in
      let b : Resolution = resolution_in images in
      let first = rows_first whole those images range table (record { steenrod = canonical.steenrod; bounded = canonical.bounded; canonical = canonical.canonical }) are in
      let same_at : (s k : ℕ) → s + 1 ≤ range.s → 2 ^ v + k ≤ last_degree shape range (s + 1) → count_of b s k ≡ count_of r s k =
      λ s k l m. same_count b r refl range.s first s k (omega arith) (near s k l m).0 in
      let line : (x : ClassAbove) (l : ProductLine) → IsFactor r shape range (h v) x → IsLineReadOff b (2 ^ v) x l → IsProductLine r q (h v) x l =
      λ x l factor is.
      let there = near x.s x.above factor.row factor.near in
      record {
        s = is.s;
        t = is.t;
        i = is.i;
        target_s = is.target_s;
        target_t = is.target_t;
        product = is_product lifts squares read_off r q range canonical canonical_q sphere v some reach shape x factor l.value
            (is.product ∙ same_read_off b r refl range.s first x (2 ^ v + x.above) factor.row there.0 (omega (arith, factor.number, same_at x.s x.above factor.row factor.near)) there.1);
      } in
      let same = factors-same b r shape range (h v) same_at in
      let all : OneEach (IsProductLine r q (h v)) (factors r shape range (h v)) lines =
      OneEach-all (IsFactor r shape range (h v)) (IsLineReadOff b (2 ^ v)) (IsProductLine r q (h v)) line (factors r shape range (h v)) lines (are_factors r shape range (h v))
      (subst (λ (xs : List ClassAbove). OneEach (IsLineReadOff b (2 ^ v)) xs lines) same each) in
      record { a = h v; at = at lifts squares read_off r q range canonical canonical_q sphere v some reach; are_lines = all }
