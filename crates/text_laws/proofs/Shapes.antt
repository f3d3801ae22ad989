-- The lines of the products in the squares of a shape are those of the products through the whole range that are in these squares.
use Rattle.std.proofs.Common.{◌≡◌, ℕ, zero, suc, ◌+◌, ◌-◌, ◌<◌, ◌≤◌, ℤ, pos, ◌+ℤ◌, Bool, true, false, List, [], if◌then◌else◌, refl, ap, sym, subst, ◌∙◌, arith}
use Rattle.std.specs.Prelude.{nat_lt, int_lt, Ok}
use Rattle.std.specs.List.{filter, flat_map, range_with_len}
use Rattle.std.proofs.lemmas.Bool.Decides.{nat_tests}
use Rattle.std.proofs.lemmas.List.Elements.{filter-append}
use Rattle.bidegree.specs.LastDegrees.{last_degree}
use Rattle.bidegree.specs.declared.range.Range.{Range}
use Rattle.bidegree.specs.declared.shape.Shape.{Shape}
use Rattle.bidegree.specs.declared.shape.Shape.TheVariants.{Rectangle}
use Rattle.bidegree.specs.declared.class.Class.{Class}
use Rattle.lift_laws.specs.Lifts.{Resolution}
use Rattle.lift_laws.specs.Products.{Class as ClassAbove, count_of}
use Rattle.chain_map.proofs.Classes.{class_is_once}
use Rattle.ext_chart.specs.declared.class_products.ProductLine.{ProductLine}
use Rattle.ext_chart.specs.Classes.{product_lines_text}
use Rattle.ext_chart.proofs.Seen.{last_within}
use Rattle.ext_products.specs.Products.{OneEach, class_at, classes_of, classes_in_row, factors, IsProductLine, IsProductsText}
use Rattle.ext_products.proofs.OneEach.{OneEach-unique}
use Rattle.ext_products.proofs.Answers.{line-unique}
use Rattle.ext_products.proofs.Several.{answer-of-one, text-of}
use Rattle.text_laws.specs.Texts.{is_in_shape, HasLinesOf, ProductsInShapeAreOfRange}
use Rattle.text_laws.proofs.Filters.{filter-map_same, filter-first, OneEach-filter}
use Rattle.text_laws.proofs.Products.{int_lt-moved}

-- a test that leaves of each row what g says
filter-each : {X : Type 0} (p : X → Bool) (f g : ℕ → List X) (a n : ℕ) → ((k : ℕ) → filter p (f k) ≡ g k) → filter p (flat_map f (range_with_len a n)) ≡ flat_map g (range_with_len a n)
filter-each p f g a zero each = refl
filter-each p f g a (suc n) each =
    let rest : filter p (flat_map f (range_with_len (a + 1) n)) ≡ flat_map g (range_with_len (a + 1) n) = filter-each p f g (a + 1) n each in
    filter-append p (f a) (flat_map f (range_with_len (a + 1) n)) ∙ cc (each a, rest)

module _ (r : Resolution) (shape : Shape) (range : Range) (a : ClassAbove) where
  -- the product of x and a is in the squares of the shape, where its row is in the range
  abbrev keeps : ClassAbove → Bool
  keeps x = nat_lt (a.above + x.above) (last_degree shape range (x.s + a.s) + 1)

  -- how many squares of row s are left
  abbrev left : ℕ → ℕ
  left s = last_degree shape range (s + a.s) + 1 - a.above

  kept : (s k : ℕ) → k < left s → keeps (class_at s k 0) ≡ true
  kept s k l = let h : a.above + k < last_degree shape range (s + a.s) + 1 = omega arith in grind (arith, nat_tests, h)

  high : (s k : ℕ) → left s ≤ k → keeps (class_at s k 0) ≡ false
  high s k l = let h : last_degree shape range (s + a.s) + 1 ≤ a.above + k = omega arith in grind (arith, nat_tests, h)

  square_left : (b : Bool) (s k : ℕ) → keeps (class_at s k 0) ≡ b → filter keeps (classes_of r s k) ≡ (if b then classes_of r s k else [])
  square_left b s k e = filter-map_same keeps b (class_at s k) (λ i. e) (range_with_len 0 (count_of r s k))

  row_left : (s : ℕ) → filter keeps (classes_in_row r (range.t + 1 - a.above) s) ≡ classes_in_row r (left s) s
  row_left s =
      let within = last_within range shape (s + a.s) in
      filter-first keeps (classes_of r s) (classes_of r s) 0 (left s) (range.t + 1 - a.above - left s)
      (λ k b. square_left true s k (kept s k (omega arith))) (λ k b. square_left false s k (high s k (omega arith))) (range.t + 1 - a.above) (omega arith)

  factors_left : filter keeps (factors r Rectangle range a) ≡ factors r shape range a
  factors_left = filter-each keeps (λ s. classes_in_row r (range.t + 1 - a.above) s) (λ s. classes_in_row r (left s) s) 0 (range.s + 1 - a.s) row_left

  line-kept : (q : Resolution) (x : ClassAbove) (line : ProductLine) → IsProductLine r q a x line → keeps x ≡ is_in_shape shape range r.base.bottom line
  line-kept q x line is =
      let row = is.target_s in
      let degree = is.target_t in
      sym (ap (λ (s : ℕ). int_lt line.target_t (r.base.bottom +ℤ pos (last_degree shape range s + 1))) row
      ∙ (ap (λ (t : ℤ). int_lt t (r.base.bottom +ℤ pos (last_degree shape range (x.s + a.s) + 1))) degree
      ∙ int_lt-moved r.base.bottom (a.above + x.above) (last_degree shape range (x.s + a.s) + 1)))

lines_of : (shape : Shape) (range : Range) (by : Class) (r q : Resolution) (text all : List ℕ) → IsProductsText shape range by r q text → IsProductsText Rectangle range by r q all → HasLinesOf (is_in_shape shape range r.base.bottom) all text
lines_of shape range by r q text all p k =
    let a = p.a in
    let lines = k.lines in
    let R = IsProductLine r q a in
    let same_class = class_is_once q by k.a p.a k.at p.at in
    let are : OneEach R (factors r Rectangle range a) lines = subst (λ (c : ClassAbove). OneEach (IsProductLine r q c) (factors r Rectangle range c) lines) same_class k.are_lines in
    let in_shape = is_in_shape shape range r.base.bottom in
    let left = OneEach-filter R (keeps r shape range a) in_shape (line-kept r shape range a q) (factors r Rectangle range a) lines are in
    let left_here : OneEach R (factors r shape range a) (filter in_shape lines) = subst (λ (xs : List ClassAbove). OneEach R xs (filter in_shape lines)) (factors_left r shape range a) left in
    let same : p.lines ≡ filter in_shape lines = OneEach-unique R (line-unique r q a) (factors r shape range a) p.lines (filter in_shape lines) p.are_lines left_here in
    record { lines = lines; all_are = k.is; text_is = p.is ∙ ap product_lines_text same }

pub in_shape_of_range : ProductsInShapeAreOfRange
in_shape_of_range shape range by r q text all p k =
    lines_of shape range by r q text all
    (text-of shape range r q by text ((answer-of-one shape range by r q (Ok text)).0 p)).1
    (text-of Rectangle range r q by all ((answer-of-one Rectangle range by r q (Ok all)).0 k)).1
