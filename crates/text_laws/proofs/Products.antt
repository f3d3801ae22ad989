-- The lines of the products through a range are those of a larger one that are in it.
use Rattle.std.proofs.Common.{◌≡◌, inl, inr, ℕ, ◌+◌, ◌-◌, ◌<◌, ◌≤◌, ℤ, pos, ◌+ℤ◌, Bool, true, false, ◌&&◌, List, [], ◌∷◌, map, length, if◌then◌else◌, refl, ap, sym, subst, ◌∙◌, arith}
use Rattle.std.specs.Prelude.{Some, None, MatchOption, Result, Ok, Err, IsOkAnd, nat_lt, int_lt}
use Rattle.std.specs.List.{filter, range_with_len}
use Rattle.std.proofs.lemmas.Bool.{cases_lt, and_left, and_right}
use Rattle.std.proofs.lemmas.Bool.Decides.{nat_tests}
use Rattle.std.proofs.lemmas.Int.{ints, by_lt_z}
use Rattle.bidegree.specs.Above.{above_of}
use Rattle.bidegree.specs.declared.range.Range.{Range}
use Rattle.bidegree.specs.declared.shape.Shape.TheVariants.{Rectangle}
use Rattle.bidegree.specs.declared.class.Class.{Class}
use Rattle.f2_vec.specs.Spans.{unit_vector}
use Rattle.f2_vec.proofs.Split.{length-unit_vector}
use Rattle.resolution_laws.specs.Resolution.{Module, Content}
use Rattle.lift_laws.specs.Lifts.{Resolution}
use Rattle.lift_laws.specs.Products.{Class as ClassAbove, count_of}
use Rattle.chain_map.specs.Classes.{class_count}
use Rattle.chain_map.proofs.Classes.{class_is_once}
use Rattle.yoneda.specs.Products.{IsGivenBy}
use Rattle.yoneda_laws.specs.Elements.{Element, element, element_of, IsProduct, CanMultiply, ProductsOfClassesAreOfElements}
use Rattle.range_laws.specs.Ranges.{resolution_in, SquaresAreSameInEachRange, ProductsAreSameInEachRange}
use Rattle.ext_chart.specs.declared.class_products.ProductLine.{ProductLine}
use Rattle.ext_chart.specs.Classes.{product_lines_text}
use Rattle.ext_products.specs.declared.refusal.Refusal.{Refusal}
use Rattle.ext_products.specs.declared.refusal.Refusal.TheVariants.{NoClass}
use Rattle.ext_products.specs.declared.refusal.Named.TheVariants.{By}
use Rattle.ext_products.specs.Products.{OneEach, class_at, classes_of, classes_in_row, factors, IsProductLine, IsProductsText, IsProductsAnswer}
use Rattle.ext_products.proofs.Factors.{IsFactor, are_factors}
use Rattle.ext_products.proofs.Answers.{found, within-range}
use Rattle.ext_products.proofs.Several.{answer-of-one}
use Rattle.text_laws.specs.Texts.{AreResolved, is_in, HasLinesOf, ProductsOfSmallerRange}
use Rattle.text_laws.proofs.Filters.{filter-map_same, filter-first, OneEach-filter, OneEach-same}

-- ---- a text is told of a class that is there

-- the class of a text, and that it is there
record IsTextOf (range : Range) (by : Class) (r q : Resolution) (text : List ℕ) : Type 0 where
  told : IsProductsText Rectangle range by r q text
  there : told.a.i < count_of q told.a.s told.a.above

by_missing : (range : Range) (by : Class) (r q : Resolution) (text : List ℕ) (there : Bool) (count : ℕ) → nat_lt by.i (class_count q by.s by.t) ≡ there → MatchOption (if there then None else Some count) (IsOkAnd {E = Refusal} (Ok text) (IsProductsText Rectangle range by r q)) (λ n. ◌≡◌ {A = Result (List ℕ) Refusal} (Ok text) (Err (NoClass By by n))) → IsTextOf range by r q text
by_missing range by r q text true count e told =
    let f = found q by (above_of q.base.bottom by.t) refl (grind (arith, nat_tests, e)) in
    let same : told.a ≡ f.class = class_is_once q by told.a f.class told.at f.at in
    record { told = told; there = subst (λ (c : ClassAbove). c.i < count_of q c.s c.above) (sym same) f.there }
by_missing range by r q text false count e told = absurd cc

text_of : (range : Range) (by : Class) (r q : Resolution) (text : List ℕ) → IsProductsAnswer Rectangle range (by ∷ []) r q (Ok text) → IsTextOf range by r q text
text_of range by r q text answer = by_missing range by r q text (nat_lt by.i (class_count q by.s by.t)) (class_count q by.s by.t) refl ((answer-of-one Rectangle range by r q (Ok text)).0 answer)

-- ---- which classes are left

-- the product of x and a is in the range
abbrev keeps : Range → ClassAbove → ClassAbove → Bool
keeps range a x = nat_lt (x.s + a.s) (range.s + 1) && nat_lt (a.above + x.above) (range.t + 1)

pub int_lt-moved : (b : ℤ) (k n : ℕ) → int_lt (b +ℤ pos k) (b +ℤ pos n) ≡ nat_lt k n
int_lt-moved b k n = elim (cases_lt k n) [
  | inl l ↦
      let below : nat_lt k n ≡ true = grind (arith, nat_tests, l) in
      let t : int_lt (b +ℤ pos k) (b +ℤ pos n) ≡ true = by_lt_z (b +ℤ pos k) (b +ℤ pos n) (λ h. grind (arith, ints, h)) (λ h. absurd (omega (arith, ints))) in
      t ∙ sym below
  | inr l ↦
      let not_below : nat_lt k n ≡ false = grind (arith, nat_tests, l) in
      let t : int_lt (b +ℤ pos k) (b +ℤ pos n) ≡ false = by_lt_z (b +ℤ pos k) (b +ℤ pos n) (λ h. absurd (omega (arith, ints))) (λ h. grind (arith, ints, h)) in
      t ∙ sym not_below
]

line-kept : (range : Range) (r q : Resolution) (a x : ClassAbove) (line : ProductLine) → IsProductLine r q a x line → keeps range a x ≡ is_in range r.base.bottom line
line-kept range r q a x line is =
    let row = is.target_s in
    let degree = is.target_t in
    let moved = int_lt-moved r.base.bottom (a.above + x.above) (range.t + 1) in
    sym (ap (λ (s : ℕ). nat_lt s (range.s + 1) && int_lt line.target_t (r.base.bottom +ℤ pos (range.t + 1))) row
    ∙ (ap (λ (t : ℤ). nat_lt (x.s + a.s) (range.s + 1) && int_lt t (r.base.bottom +ℤ pos (range.t + 1))) degree
    ∙ ap (λ (b : Bool). nat_lt (x.s + a.s) (range.s + 1) && b) moved))

module _ (r less : Resolution) (range more : Range) (a : ClassAbove) (row : a.s ≤ range.s) (degree : a.above ≤ range.t) (rows : range.s ≤ more.s) (degrees : range.t ≤ more.t)
    (same : (s k : ℕ) → s ≤ range.s → k ≤ range.t → count_of r s k ≡ count_of less s k) where
  abbrev M : ℕ
  M = range.s + 1 - a.s

  abbrev N : ℕ
  N = range.t + 1 - a.above

  kept : (s k : ℕ) → s < M → k < N → keeps range a (class_at s k 0) ≡ true
  kept s k l b =
      let one : nat_lt (s + a.s) (range.s + 1) ≡ true = let h : s + a.s < range.s + 1 = omega arith in grind (arith, nat_tests, h) in
      let two : nat_lt (a.above + k) (range.t + 1) ≡ true = let h : a.above + k < range.t + 1 = omega arith in grind (arith, nat_tests, h) in
      cc (one, two)

  late : (s k : ℕ) → M ≤ s → keeps range a (class_at s k 0) ≡ false
  late s k l = and_left (nat_lt (s + a.s) (range.s + 1)) (nat_lt (a.above + k) (range.t + 1)) (let h : range.s + 1 ≤ s + a.s = omega arith in grind (arith, nat_tests, h))

  high : (s k : ℕ) → N ≤ k → keeps range a (class_at s k 0) ≡ false
  high s k l = and_right (nat_lt (s + a.s) (range.s + 1)) (nat_lt (a.above + k) (range.t + 1)) (let h : range.t + 1 ≤ a.above + k = omega arith in grind (arith, nat_tests, h))

  square_left : (b : Bool) (s k : ℕ) → keeps range a (class_at s k 0) ≡ b → filter (keeps range a) (classes_of r s k) ≡ (if b then classes_of r s k else [])
  square_left b s k e = filter-map_same (keeps range a) b (class_at s k) (λ i. e) (range_with_len 0 (count_of r s k))

  row_left : (s : ℕ) → s < 0 + M → filter (keeps range a) (classes_in_row r (more.t + 1 - a.above) s) ≡ classes_in_row less N s
  row_left s l =
      filter-first (keeps range a) (classes_of r s) (classes_of less s) 0 N (more.t - range.t)
      (λ k b. square_left true s k (kept s k (omega arith) (omega arith)) ∙ ap (λ (n : ℕ). map (class_at s k) (range_with_len 0 n)) (same s k (omega arith) (omega arith)))
      (λ k b. square_left false s k (high s k (omega arith))) (more.t + 1 - a.above) (omega arith)

  row_gone : (s : ℕ) → 0 + M ≤ s → filter (keeps range a) (classes_in_row r (more.t + 1 - a.above) s) ≡ []
  row_gone s l =
      filter-first (keeps range a) (classes_of r s) (classes_of less s) 0 0 (more.t + 1 - a.above) (λ k b. absurd (omega arith))
      (λ k b. square_left false s k (late s k (omega arith))) (more.t + 1 - a.above) (omega arith)

  factors_left : filter (keeps range a) (factors r Rectangle more a) ≡ factors less Rectangle range a
  factors_left =
      filter-first (keeps range a) (classes_in_row r (more.t + 1 - a.above)) (classes_in_row less N) 0 M (more.s - range.s) row_left row_gone (more.s + 1 - a.s) (omega arith)

-- ---- their products are the same

module _ (squares : SquaresAreSameInEachRange) (products : ProductsAreSameInEachRange) (of_classes : ProductsOfClassesAreOfElements)
    (range more : Range) (m w : Module) (table sphere other other_sphere : List (List Content)) (rows : range.s ≤ more.s) (degrees : range.t ≤ more.t)
    (here : AreResolved range (resolution_in m table) (resolution_in w sphere)) (there : AreResolved more (resolution_in m other) (resolution_in w other_sphere)) where
  abbrev r : Resolution
  r = resolution_in m table

  abbrev q : Resolution
  q = resolution_in w sphere

  abbrev r_more : Resolution
  r_more = resolution_in m other

  abbrev q_more : Resolution
  q_more = resolution_in w other_sphere

  counts : (s k : ℕ) → s ≤ range.s → k ≤ range.t → count_of r_more s k ≡ count_of r s k
  counts s k h l = ap (λ (c : Content). length c.images) (squares m more.s more.t range.s range.t other table there.canonical.canonical here.canonical.canonical s k (omega arith) (omega arith) h l)

  counts_q : (s k : ℕ) → s ≤ range.s → k ≤ range.t → count_of q_more s k ≡ count_of q s k
  counts_q s k h l = ap (λ (c : Content). length c.images) (squares w more.s more.t range.s range.t other_sphere sphere there.canonical_q.canonical here.canonical_q.canonical s k (omega arith) (omega arith) h l)

  module _ (a : ClassAbove) (a_row : a.s ≤ range.s) (a_degree : a.above ≤ range.t) (a_there : a.i < count_of q a.s a.above) (x : ClassAbove) (factor : IsFactor r Rectangle range a x) where
    x_row : x.s ≤ range.s
    x_row = let e = factor.row in omega arith

    x_degree : x.above ≤ range.t
    x_degree = let e = factor.degree in omega arith

    can : CanMultiply r q range.s range.t range.s range.t (element_of q a) (element_of r x)
    can = record {
      canonical = here.canonical;
      canonical_q = here.canonical_q;
      sphere = here.sphere;
      row = factor.row;
      degree = factor.degree;
      row_q = a_row;
      degree_q = a_degree;
      a_in = length-unit_vector (count_of q a.s a.above) a.i;
      x_in = length-unit_vector (count_of r x.s x.above) x.i;
    }

    can_more : CanMultiply r_more q_more more.s more.t more.s more.t (element_of q_more a) (element_of r_more x)
    can_more = record {
      canonical = there.canonical;
      canonical_q = there.canonical_q;
      sphere = there.sphere;
      row = let e = factor.row in omega arith;
      degree = let e = factor.degree in omega arith;
      row_q = omega arith;
      degree_q = omega arith;
      a_in = length-unit_vector (count_of q_more a.s a.above) a.i;
      x_in = length-unit_vector (count_of r_more x.s x.above) x.i;
    }

    same_a : element_of q_more a ≡ element_of q a
    same_a = ap (λ (n : ℕ). element a.s a.above (unit_vector n a.i)) (counts_q a.s a.above a_row a_degree)

    same_x : element_of r_more x ≡ element_of r x
    same_x = ap (λ (n : ℕ). element x.s x.above (unit_vector n x.i)) (counts x.s x.above x_row x_degree)

    product_here : (v : List Bool) → IsGivenBy r q a x v → IsProduct r q (element_of q a) (element_of r x) v
    product_here v p = subst (IsProduct r q (element_of q a) (element_of r x)) (sym p.gives) (of_classes r q range.s range.t range.s range.t a x p.top p.phi can a_there factor.number p.reaches p.is_lift)

    product_there : (v : List Bool) → IsGivenBy r_more q_more a x v → IsProduct r_more q_more (element_of q_more a) (element_of r_more x) v
    product_there v p =
        let a_more : a.i < count_of q_more a.s a.above = subst (λ (n : ℕ). a.i < n) (sym (counts_q a.s a.above a_row a_degree)) a_there in
        let x_more : x.i < count_of r_more x.s x.above = subst (λ (n : ℕ). x.i < n) (sym (counts x.s x.above x_row x_degree)) factor.number in
        subst (IsProduct r_more q_more (element_of q_more a) (element_of r_more x)) (sym p.gives) (of_classes r_more q_more more.s more.t more.s more.t a x p.top p.phi can_more a_more x_more p.reaches p.is_lift)

    abbrev CanMore : Element → Element → Type 0
    CanMore e f = CanMultiply r_more q_more more.s more.t more.s more.t e f

    value_same : (v z : List Bool) → IsGivenBy r q a x v → IsGivenBy r_more q_more a x z → v ≡ z
    value_same v z p k =
        let moved : CanMore (element_of q a) (element_of r x) = subst (CanMore (element_of q a)) same_x (subst (λ (e : Element). CanMore e (element_of r_more x)) same_a can_more) in
        let there_too : IsProduct r_more q_more (element_of q a) (element_of r x) z = subst (λ (f : Element). IsProduct r_more q_more (element_of q a) f z) same_x (subst (λ (e : Element). IsProduct r_more q_more e (element_of r_more x) z) same_a (product_there z k)) in
        products m w table other sphere other_sphere range.s range.t range.s range.t more.s more.t more.s more.t (element_of q a) (element_of r x) v z can moved (product_here v p) there_too

    abbrev line_of : ℕ → ℤ → ℕ → ℕ → ℤ → List Bool → ProductLine
    line_of s t i target_s target_t value = record { s = s; t = t; i = i; target_s = target_s; target_t = target_t; value = value }

    line_same : (y z : ProductLine) → IsProductLine r q a x y → IsProductLine r_more q_more a x z → y ≡ z
    line_same y z p k =
        let value : y.value ≡ z.value = value_same y.value z.value p.product.some k.product.some in
        let same : line_of y.s y.t y.i y.target_s y.target_t y.value ≡ line_of z.s z.t z.i z.target_s z.target_t z.value = cc in
        same

  module _ (by : Class) (text all : List ℕ) (p : IsTextOf range by r q text) (k : IsTextOf more by r_more q_more all) where
    a_same : k.told.a ≡ p.told.a
    a_same = class_is_once q by k.told.a p.told.a (record { row = k.told.at.row; degree = k.told.at.degree; number = k.told.at.number }) p.told.at

    lines_in : HasLinesOf (is_in range m.bottom) all text
    lines_in =
        let a = p.told.a in
        let within = within-range q range a here.canonical_q.canonical p.there in
        let lines = k.told.lines in
        let are : OneEach (IsProductLine r_more q_more a) (factors r_more Rectangle more a) lines = subst (λ (c : ClassAbove). OneEach (IsProductLine r_more q_more c) (factors r_more Rectangle more c) lines) a_same k.told.are_lines in
        let left = OneEach-filter (IsProductLine r_more q_more a) (keeps range a) (is_in range m.bottom) (line-kept range r_more q_more a) (factors r_more Rectangle more a) lines are in
        let left_here : OneEach (IsProductLine r_more q_more a) (factors r Rectangle range a) (filter (is_in range m.bottom) lines) =
        subst (λ (xs : List ClassAbove). OneEach (IsProductLine r_more q_more a) xs (filter (is_in range m.bottom) lines)) (factors_left r_more r range more a within.row within.degree rows degrees counts) left in
        let same = OneEach-same (IsFactor r Rectangle range a) (IsProductLine r q a) (IsProductLine r_more q_more a) (λ x y z f. line_same a within.row within.degree p.there x f y z) (factors r Rectangle range a) p.told.lines (filter (is_in range m.bottom) lines) (are_factors r Rectangle range a) p.told.are_lines left_here in
        record { lines = lines; all_are = k.told.is; text_is = p.told.is ∙ ap product_lines_text same }

pub smaller_range : SquaresAreSameInEachRange → ProductsAreSameInEachRange → ProductsOfClassesAreOfElements → ProductsOfSmallerRange
smaller_range squares products of_classes range more by m w table sphere other other_sphere text all rows degrees here there told more_told =
    lines_in squares products of_classes range more m w table sphere other other_sphere rows degrees here there by text all
    (text_of range by (resolution_in m table) (resolution_in w sphere) text told)
    (text_of more by (resolution_in m other) (resolution_in w other_sphere) all more_told)
