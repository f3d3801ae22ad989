-- The line of one product stands among those of all products with its class of the sphere.
use Rattle.std.proofs.Common.{◌≡◌, ℕ, zero, suc, ◌+◌, ◌-◌, ◌<◌, pos, ◌+ℤ◌, List, [], ◌∷◌, ◌++◌, map, refl, ap, sym, subst, ◌∙◌, append-nil, append_assoc, arith}
use Rattle.std.specs.Prelude.{Option, Some, None, MatchOption, Result, Ok, Err, IsOkAnd}
use Rattle.std.specs.List.{flat_map, range_with_len}
use Rattle.std.specs.Option.{option_or}
use Rattle.std.proofs.lemmas.Grind.{flat_map-append}
use Rattle.std.proofs.lemmas.List.{map-append}
use Rattle.std.proofs.lemmas.List.Concat.{flat_map-cons}
use Rattle.std.proofs.lemmas.Int.{ints}
use Rattle.bidegree.specs.declared.range.Range.{Range}
use Rattle.bidegree.specs.declared.shape.Shape.TheVariants.{Rectangle}
use Rattle.bidegree.specs.declared.class.Class.{Class}
use Rattle.module_json.proofs.Basis.{option_or-none}
use Rattle.lift_laws.specs.Lifts.{Resolution, IsSphere}
use Rattle.lift_laws.specs.Products.{Class as ClassAbove, count_of}
use Rattle.chain_map.specs.Classes.{no_class, out_of_range}
use Rattle.chain_map.proofs.Classes.{class_is_once}
use Rattle.ext_chart.specs.declared.class_products.ProductLine.{ProductLine}
use Rattle.ext_chart.specs.Classes.{product_line, product_lines_text}
use Rattle.ext_products.specs.declared.refusal.Refusal.{Refusal}
use Rattle.ext_products.specs.declared.refusal.Refusal.TheVariants.{NoClass, OutOfRange}
use Rattle.ext_products.specs.declared.refusal.Named.TheVariants.{A, X}
use Rattle.ext_products.specs.declared.refusal.Target.TheVariants.{Ax}
use Rattle.ext_products.specs.Products.{OneEach, class_at, classes_of, classes_in_row, factors, IsProductLine, IsProductsText, one_product_refusal, IsOneProductText, StandsIn, OneProductIsLine}
use Rattle.ext_products.proofs.Answers.{line-unique}
use Rattle.ext_products.proofs.Factors.{IsFactor}
use Rattle.ext_products.proofs.Near.{class_there, square_near}
use Rattle.ext_products.proofs.Several.{answer-of-one, text-of}

-- ---- a list with an element in it

record HasIn {X : Type 0} (x : X) (list : List X) : Type 0 where
  front : List X
  back : List X
  is : list ≡ front ++ (x ∷ back)

range-has : (a n k : ℕ) → k < n → HasIn (a + k) (range_with_len a n)
range-has a zero k l = absurd (omega arith)
range-has a (suc n) zero l = record { front = []; back = range_with_len (a + 1) n; is = ap (λ (i : ℕ). i ∷ range_with_len (a + 1) n) (omega arith) }
range-has a (suc n) (suc k) l =
    let rest = range-has (a + 1) n k (omega arith) in
    let same : a + 1 + k ≡ a + suc k = omega arith in
    record { front = a ∷ rest.front; back = rest.back; is = ap (λ (list : List ℕ). a ∷ list) (rest.is ∙ ap (λ (i : ℕ). rest.front ++ (i ∷ rest.back)) same) }

map-has : {X Y : Type 0} (f : X → Y) (x : X) (list : List X) → HasIn x list → HasIn (f x) (map f list)
map-has f x list h = record { front = map f h.front; back = map f h.back; is = ap (map f) h.is ∙ map-append f h.front (x ∷ h.back) }

flat-has : {X Y : Type 0} (f : X → List Y) (x : X) (y : Y) (list : List X) → HasIn x list → HasIn y (f x) → HasIn y (flat_map f list)
flat-has {X} {Y} f x y list h k =
    let first = flat_map f h.front in
    let last = flat_map f h.back in
    record {
      front = first ++ k.front;
      back = k.back ++ last;
      is = ap (flat_map f) h.is
          ∙ (flat_map-append f h.front (x ∷ h.back)
          ∙ (ap (λ (l : List Y). first ++ l) (flat_map-cons f x h.back)
          ∙ (ap (λ (l : List Y). first ++ (l ++ last)) k.is
          ∙ (ap (λ (l : List Y). first ++ l) (append_assoc k.front (y ∷ k.back) last)
          ∙ sym (append_assoc first k.front (y ∷ (k.back ++ last)))))));
    }

first-has : (n k : ℕ) → k < n → HasIn k (range_with_len 0 n)
first-has n k l = let same : 0 + k ≡ k = omega arith in subst (λ (i : ℕ). HasIn i (range_with_len 0 n)) same (range-has 0 n k l)

-- a class whose product with a is in the range is among those
factor-in : (r : Resolution) (range : Range) (a x : ClassAbove) → IsFactor r Rectangle range a x → HasIn x (factors r Rectangle range a)
factor-in r range a x factor =
    let row = factor.row in
    let degree = factor.degree in
    let m = range.s + 1 - a.s in
    let n = range.t + 1 - a.above in
    flat-has (classes_in_row r n) x.s x (range_with_len 0 m) (first-has m x.s (omega arith))
    (flat-has (classes_of r x.s) x.above x (range_with_len 0 n) (first-has n x.above (omega arith))
    (map-has (class_at x.s x.above) x.i (range_with_len 0 (count_of r x.s x.above)) (first-has (count_of r x.s x.above) x.i factor.number)))

-- it has its line
record HasLine {X Y : Type 0} (R : X → Y → Type 0) (x : X) (lines : List Y) : Type 0 where
  line : Y
  is_of : R x line
  among : HasIn line lines

line-in : {X Y : Type 0} (R : X → Y → Type 0) (x : X) (front back : List X) (lines : List Y) → OneEach R (front ++ (x ∷ back)) lines → HasLine R x lines
line-in R x [] back [] each = absurd each
line-in R x [] back (l ∷ lines) each = record { line = l; is_of = each.0; among = record { front = []; back = lines; is = refl } }
line-in R x (y ∷ front) back [] each = absurd each
line-in {X} {Y} R x (y ∷ front) back (l ∷ lines) each =
    let rest = line-in R x front back lines each.1 in
    record { line = rest.line; is_of = rest.is_of; among = record { front = l ∷ rest.among.front; back = rest.among.back; is = ap (λ (list : List Y). l ∷ list) rest.among.is } }

line-alone : (line : ProductLine) → product_lines_text (line ∷ []) ≡ product_line line
line-alone line = flat_map-cons product_line line [] ∙ append-nil (product_line line)

text-in : (line : ProductLine) (lines : List ProductLine) → HasIn line lines → StandsIn (product_lines_text (line ∷ [])) (product_lines_text lines)
text-in line lines h =
    let first = flat_map product_line h.front in
    let last = flat_map product_line h.back in
    record {
      before = first;
      after = last;
      is = ap product_lines_text h.is
          ∙ (flat_map-append product_line h.front (line ∷ h.back)
          ∙ (ap (λ (t : List ℕ). first ++ t) (flat_map-cons product_line line h.back)
          ∙ ap (λ (t : List ℕ). first ++ (t ++ last)) (sym (line-alone line))));
    }

-- ---- a product that is told

module _ (range : Range) (a x : Class) (r q : Resolution) where
  told-by : (o : Option Refusal) (text : List ℕ) → MatchOption o (IsOkAnd {E = Refusal} (Ok text) (IsOneProductText a x r q)) (λ e. ◌≡◌ {A = Result (List ℕ) Refusal} (Ok text) (Err e)) → (o ≡ None) × IsOneProductText a x r q text
  told-by None text h = (refl, h)
  told-by (Some e) text h = absurd (cc)

  told-factor : IsSphere q → one_product_refusal range a x r q ≡ None → (text : List ℕ) → (told : IsOneProductText a x r q text) → IsFactor r Rectangle range told.y told.z
  told-factor sphere none text told =
      let first = option_or-none (no_class (NoClass A a) q a) (option_or (no_class (NoClass X x) r x) (out_of_range (OutOfRange Ax) range r (pos (a.s + x.s)) (a.t +ℤ x.t))) none in
      let second = option_or-none (no_class (NoClass X x) r x) (out_of_range (OutOfRange Ax) range r (pos (a.s + x.s)) (a.t +ℤ x.t)) first.1 in
      let x_is = class_there (NoClass X x) x r second.0 in
      let there = subst (λ (c : ClassAbove). c.i < count_of r c.s c.above) (class_is_once r x x_is.class told.z x_is.at told.x_at) x_is.there in
      let near = square_near (OutOfRange Ax) range r (pos (a.s + x.s)) (a.t +ℤ x.t) second.1 in
      let a_row = told.a_at.row in
      let a_degree = told.a_at.degree in
      let x_row = told.x_at.row in
      let x_degree = told.x_at.degree in
      let bottom = sphere.bottom in
      record { row = omega (arith, ints, near.row); degree = omega (arith, ints, near.degree); near = omega (arith, ints, near.degree); number = there }

  text-stands : IsSphere q → one_product_refusal range a x r q ≡ None → (text all : List ℕ) → IsOneProductText a x r q text → IsProductsText Rectangle range a r q all → StandsIn text all
  text-stands sphere none text all told every =
      let z = told.z in
      let same : told.y ≡ every.a = class_is_once q a told.y every.a told.a_at every.at in
      let factor = subst (λ (c : ClassAbove). IsFactor r Rectangle range c z) same (told-factor sphere none text told) in
      let among = factor-in r range every.a z factor in
      let found = line-in (IsProductLine r q every.a) z among.front among.back every.lines (subst (λ (xs : List ClassAbove). OneEach (IsProductLine r q every.a) xs every.lines) among.is every.are_lines) in
      let here : IsProductLine r q every.a z told.line = subst (λ (c : ClassAbove). IsProductLine r q c z told.line) same told.is_line in
      let line : found.line ≡ told.line = line-unique r q every.a z found.line told.line found.is_of here in
      let stands = text-in found.line every.lines found.among in
      let texts : product_lines_text (found.line ∷ []) ≡ text = ap (λ (l : ProductLine). product_lines_text (l ∷ [])) line ∙ sym told.is in
      subst (λ (t : List ℕ). StandsIn t all) texts (subst (StandsIn (product_lines_text (found.line ∷ []))) (sym every.is) stands)

pub one-line : OneProductIsLine
one-line range a x r q text all sphere told every =
    let first = told-by range a x r q (one_product_refusal range a x r q) text told in
    let second = text-of Rectangle range r q a all ((answer-of-one Rectangle range a r q (Ok all)).0 every) in
    text-stands range a x r q sphere first.0 text all first.1 second.1
