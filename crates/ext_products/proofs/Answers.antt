-- There is one answer to what is asked of the products with one class.
use Rattle.std.proofs.Common.{◌≡◌, ℕ, ◌+◌, ◌<◌, ◌≤◌, inl, inr, ℤ, pos, ◌+ℤ◌, ◌-ℤ◌, Bool, true, false, List, [], length, refl, ap, sym, subst, ◌∙◌, arith}
use Rattle.std.specs.Prelude.{Option, Some, None, MatchOption, Result, Ok, Err, IsOkAnd, option_map, unwrap_or, nat_lt, if◌then◌else◌}
use Rattle.std.proofs.lemmas.Bool.{cases_lt}
use Rattle.std.proofs.lemmas.Bool.Decides.{nat_tests}
use Rattle.std.proofs.lemmas.Int.{ints}
use Rattle.std.proofs.lemmas.List.{get_or_past}
use Rattle.bidegree.specs.Above.{above_of}
use Rattle.bidegree.specs.declared.range.Range.{Range}
use Rattle.bidegree.specs.declared.shape.Shape.{Shape}
use Rattle.bidegree.specs.declared.class.Class.{Class}
use Rattle.bidegree.proofs.Degrees.{natural-is}
use Rattle.resolution_laws.specs.Resolution.{Content, no_content, square_in, row_of, IsCanonicalTable}
use Rattle.lift_laws.specs.Lifts.{Resolution, IsCanonical, IsSphere, EachClassLifts}
use Rattle.lift_laws.specs.Products.{Class as ClassAbove, count_of, degree_of_class, number_of, product_by, LiftsGiveOneProduct}
use Rattle.chain_map.specs.Classes.{class_count, IsAt}
use Rattle.chain_map.proofs.Classes.{class_is_once}
use Rattle.chain_map.proofs.Generators.{is_number}
use Rattle.yoneda.specs.Products.{IsYonedaProduct}
use Rattle.yoneda.proofs.OneProduct.{product-of-lift}
use Rattle.ext_chart.specs.declared.class_products.ProductLine.{ProductLine}
use Rattle.ext_chart.specs.Classes.{product_lines_text}
use Rattle.ext_products.specs.declared.refusal.Refusal.{Refusal}
use Rattle.ext_products.specs.declared.refusal.Refusal.TheVariants.{NoClass}
use Rattle.ext_products.specs.declared.refusal.Named.TheVariants.{By}
use Rattle.ext_products.specs.Products.{OneEach, factors, IsProductLine, AreProductLines, IsProductsText, IsAnswerOfOne, HasAnswer}
use Rattle.ext_products.proofs.OneEach.{OneEach-unique, OneEach-made}
use Rattle.ext_products.proofs.Factors.{IsFactor, are_factors}

-- ---- at most one

abbrev line_of : ℕ → ℤ → ℕ → ℕ → ℤ → List Bool → ProductLine
line_of s t i target_s target_t value = record { s = s; t = t; i = i; target_s = target_s; target_t = target_t; value = value }

-- a line has what its class determines
pub line-unique : (r q : Resolution) (a x : ClassAbove) (y z : ProductLine) → IsProductLine r q a x y → IsProductLine r q a x z → y ≡ z
line-unique r q a x y z p k =
    let value : y.value ≡ z.value = p.product.each z.value k.product.some in
    let same : line_of y.s y.t y.i y.target_s y.target_t y.value ≡ line_of z.s z.t z.i z.target_s z.target_t z.value = cc in
    same

pub lines-unique : (shape : Shape) (range : Range) (by : Class) (r q : Resolution) (x y : List ProductLine) → AreProductLines shape range by r q x → AreProductLines shape range by r q y → x ≡ y
lines-unique shape range by r q x y p k =
    let a = class_is_once q by p.a k.a p.at k.at in
    let here : OneEach (IsProductLine r q k.a) (factors r shape range k.a) x = subst (λ (c : ClassAbove). OneEach (IsProductLine r q c) (factors r shape range c) x) a p.are_lines in
    OneEach-unique (IsProductLine r q k.a) (line-unique r q k.a) (factors r shape range k.a) x y here k.are_lines

pub lines-of : (shape : Shape) (range : Range) (by : Class) (r q : Resolution) (text : List ℕ) (told : IsProductsText shape range by r q text) → AreProductLines shape range by r q told.lines
lines-of shape range by r q text told = record { a = told.a; at = told.at; are_lines = told.are_lines }

pub text-unique : (shape : Shape) (range : Range) (by : Class) (r q : Resolution) (x y : List ℕ) → IsProductsText shape range by r q x → IsProductsText shape range by r q y → x ≡ y
text-unique shape range by r q x y p k =
    p.is ∙ (ap product_lines_text (lines-unique shape range by r q p.lines k.lines (lines-of shape range by r q x p) (lines-of shape range by r q y k)) ∙ sym k.is)

-- ---- one

-- a class that is in the range has its product
pub product-exists : EachClassLifts → LiftsGiveOneProduct → (r q : Resolution) (shape : Shape) (range : Range) (a x : ClassAbove) → IsCanonical r range.s range.t → IsCanonical q range.s range.t → IsSphere q → IsFactor r shape range a x → a.i < count_of q a.s a.above → (v : List Bool) × IsYonedaProduct r q a x v
product-exists lifts one r q shape range a x canonical canonical_q sphere factor there =
    let row = factor.row in
    let degree = factor.degree in
    let long = canonical.canonical.squares x.s (omega arith) in
    let number = is_number r x.s x.above x.i (omega arith) factor.number in
    let top : ℤ = r.base.bottom +ℤ pos (a.above + x.above) in
    let lift = lifts r q range.s range.t range.s range.t x.s (number_of r x) (degree_of_class r x) a.s top canonical canonical_q sphere row (omega arith) (omega (arith, ints)) number.there number.degree_is in
    let v = product_by r q a lift.phi (x.s + a.s) (a.above + x.above) in
    (v, product-of-lift one r q range range canonical canonical_q sphere a x row degree (omega arith) (omega arith) there v (record { top = top; phi = lift.phi; reaches = omega (arith, ints); is_lift = lift.is_lift; gives = refl }))

pub line-exists : EachClassLifts → LiftsGiveOneProduct → (r q : Resolution) (shape : Shape) (range : Range) (a : ClassAbove) → IsCanonical r range.s range.t → IsCanonical q range.s range.t → IsSphere q → a.i < count_of q a.s a.above → (x : ClassAbove) → IsFactor r shape range a x → (line : ProductLine) × IsProductLine r q a x line
line-exists lifts one r q shape range a canonical canonical_q sphere there x factor =
    let product = product-exists lifts one r q shape range a x canonical canonical_q sphere factor there in (
      record { s = x.s; t = r.base.bottom +ℤ pos x.above; i = x.i; target_s = x.s + a.s; target_t = r.base.bottom +ℤ pos (a.above + x.above); value = product.0 },
      record { s = refl; t = refl; i = refl; target_s = refl; target_t = refl; product = product.1 },
    )

-- ---- the class that is asked for

-- a square outside of the range has no class
pub none_past : (q : Resolution) (s t : ℕ) → IsCanonicalTable q.base s t q.table → (i k : ℕ) → (i ≤ s → k ≤ t → ⊥) → count_of q i k ≡ 0
none_past q s t canonical i k out = elim (cases_lt s i) [
  | inl past ↦
      let none : row_of q.table i ≡ [] = get_or_past q.table i [] (omega (arith, canonical.rows)) in
      ap (λ (squares : List Content). length (square_in squares k).images) none
  | inr within ↦ elim (cases_lt t k) [
    | inl past ↦
        ap (λ (c : Content). length c.images) (get_or_past (row_of q.table i) k no_content (omega (arith, canonical.squares i within)))
    | inr near ↦ absurd (out within near)
  ]
]

-- where a class is
pub record IsFound (q : Resolution) (c : Class) : Type 0 where
  pub class : ClassAbove
  pub at : IsAt q c class
  pub there : class.i < count_of q class.s class.above

pub found : (q : Resolution) (c : Class) (o : Option ℕ) → above_of q.base.bottom c.t ≡ o → c.i < unwrap_or (option_map (count_of q c.s) o) 0 → IsFound q c
found q c None e l = absurd (omega (arith, l))
found q c (Some k) e l =
    record {
      class = record { s = c.s; above = k; i = c.i };
      at = record { row = refl; degree = omega (arith, ints, natural-is (c.t -ℤ q.base.bottom) k e); number = refl };
      there = l;
    }

pub record IsWithin (range : Range) (a : ClassAbove) : Type 0 where
  pub row : a.s ≤ range.s
  pub degree : a.above ≤ range.t

pub within-range : (q : Resolution) (range : Range) (a : ClassAbove) → IsCanonicalTable q.base range.s range.t q.table → a.i < count_of q a.s a.above → IsWithin range a
within-range q range a canonical there = elim (cases_lt range.s a.s) [
  | inl past ↦ absurd (let none = none_past q range.s range.t canonical a.s a.above (λ h l. omega (arith, h, past)) in omega (arith, none, there))
  | inr row ↦ elim (cases_lt range.t a.above) [
    | inl past ↦ absurd (let none = none_past q range.s range.t canonical a.s a.above (λ h l. omega (arith, l, past)) in omega (arith, none, there))
    | inr degree ↦ record { row = row; degree = degree }
  ]
]

-- ---- the answer

text-exists : EachClassLifts → LiftsGiveOneProduct → (r q : Resolution) (shape : Shape) (range : Range) (by : Class) → IsCanonical r range.s range.t → IsCanonical q range.s range.t → IsSphere q → IsFound q by → (text : List ℕ) × IsProductsText shape range by r q text
text-exists lifts one r q shape range by canonical canonical_q sphere f =
    let a = f.class in
    let lines = OneEach-made (IsFactor r shape range a) (IsProductLine r q a) (line-exists lifts one r q shape range a canonical canonical_q sphere f.there) (factors r shape range a) (are_factors r shape range a) in
    (product_lines_text lines.0, record { a = a; at = f.at; lines = lines.0; are_lines = lines.1; is = refl })

-- whether the class is there decides
answer-by : (shape : Shape) (range : Range) (by : Class) (r q : Resolution) (count : ℕ) (there : Bool) → (there ≡ true → (text : List ℕ) × IsProductsText shape range by r q text) → (answer : Result (List ℕ) Refusal) × MatchOption (if there then None else Some count) (IsOkAnd answer (IsProductsText shape range by r q)) (λ n. answer ≡ Err (NoClass By by n))
answer-by shape range by r q count true text = let made = text refl in (Ok made.0, made.1)
answer-by shape range by r q count false text = (Err (NoClass By by count), refl)

pub one-exists : EachClassLifts → LiftsGiveOneProduct → (shape : Shape) (range : Range) (by : Class) → HasAnswer (IsAnswerOfOne shape range by) range
one-exists lifts one shape range by r q canonical canonical_q sphere =
    answer-by shape range by r q (class_count q by.s by.t) (nat_lt by.i (class_count q by.s by.t)) (λ e. text-exists lifts one r q shape range by canonical canonical_q sphere (found q by (above_of q.base.bottom by.t) refl (grind (arith, nat_tests, e))))
