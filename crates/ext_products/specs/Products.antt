-- What is told of the products of a class of the sphere with the classes of a module, those products that are in the squares of a range
-- that are of a shape (Adams, On the structure and applications of the Steenrod algebra; Bruner, Calculation of large Ext modules).
use Rattle.std.specs.Prelude.{List, [], ◌∷◌, ◌++◌, ⊤, ◌≡◌, ℕ, ◌+◌, ◌-◌, ℤ, pos, ◌+ℤ◌, Bool, true, false, nat_lt, length, codes, decimal, map, Option, None, option_map, MatchOption, Result, Ok, Err, IsOkAnd, ◌↔◌}
use Rattle.std.specs.Fmt.{signed_decimal}
use Rattle.std.specs.List.{flat_map, range_with_len}
use Rattle.std.specs.Option.{option_or}
use Rattle.bidegree.specs.LastDegrees.{last_degree}
use Rattle.bidegree.specs.declared.range.Range.{Range}
use Rattle.bidegree.specs.declared.shape.Shape.{Shape}
use Rattle.bidegree.specs.declared.shape.Shape.TheVariants.{Rectangle}
use Rattle.bidegree.specs.declared.class.Class.{Class}
use Rattle.finite_module.specs.Module.{Module as SteenrodModule}
use Rattle.finite_module.specs.Checked.{sphere_file}
use Rattle.finite_module.specs.DerivedAction.{derived_module}
use Rattle.resolution_laws.specs.Resolution.{Content, IsCanonicalTable}
use Rattle.square.specs.Squares.{module_over}
use Rattle.square.specs.Tables.{Staircase}
use Rattle.lift_laws.specs.Lifts.{Resolution, IsCanonical, IsSphere}
use Rattle.lift_laws.specs.Products.{Class as ClassAbove, count_of}
use Rattle.chain_map.specs.Classes.{missing_in, IsAt, through, no_class, out_of_range}
use Rattle.chain_map.specs.Lifting.{IsCanonicalIn}
use Rattle.yoneda.specs.Products.{IsYonedaProduct}
use Rattle.ext_chart.specs.declared.class_products.ProductLine.{ProductLine}
use Rattle.ext_chart.specs.Classes.{product_lines_text}
use Rattle.ext_products.specs.declared.refusal.Refusal.{Refusal}
use Rattle.ext_products.specs.declared.refusal.Refusal.TheVariants.{NoClass, OutOfRange}
use Rattle.ext_products.specs.declared.refusal.Named.TheVariants.{By, A, X}
use Rattle.ext_products.specs.declared.refusal.Target.TheVariants.{Ax}

-- the second list has an element for each of the first, in their order, as R says
abbrev pub OneEach : {A B : Type 0} → (A → B → Type 0) → List A → List B → Type 0
OneEach R [] [] = ⊤
OneEach R (x ∷ xs) (y ∷ ys) = R x y × OneEach R xs ys
OneEach R [] (y ∷ ys) = ⊥
OneEach R (x ∷ xs) [] = ⊥

-- the resolution of a module whose squares a table has
abbrev pub resolution : SteenrodModule → List (List Content) → Resolution
resolution m table = record { base = module_over m; table = table }

-- ---- classes

-- class i of the square (s, k), all of them, and those of the first n squares of row s
abbrev pub class_at : ℕ → ℕ → ℕ → ClassAbove
class_at s k i = record { s = s; above = k; i = i }

abbrev pub classes_of : Resolution → ℕ → ℕ → List ClassAbove
classes_of r s k = map (class_at s k) (range_with_len 0 (count_of r s k))

abbrev pub classes_in_row : Resolution → ℕ → ℕ → List ClassAbove
classes_in_row r n s = flat_map (classes_of r s) (range_with_len 0 n)

-- the classes whose product with a is in the squares of this shape: by row, then by degree, then by number
abbrev pub factors : Resolution → Shape → Range → ClassAbove → List ClassAbove
factors r shape range a =
    flat_map (λ s. classes_in_row r (last_degree shape range (s + a.s) + 1 - a.above) s) (range_with_len 0 (range.s + 1 - a.s))

-- ---- products

-- the line has the places of x and of its product with a, and the product
pub record IsLine (bottom : ℤ) (IsProduct : List Bool → Type 0) (a x : ClassAbove) (line : ProductLine) : Type 0 where
  pub s : line.s ≡ x.s
  pub t : line.t ≡ bottom +ℤ pos x.above
  pub i : line.i ≡ x.i
  pub target_s : line.target_s ≡ x.s + a.s
  pub target_t : line.target_t ≡ bottom +ℤ pos (a.above + x.above)
  pub product : IsProduct line.value

abbrev pub IsProductLine : Resolution → Resolution → ClassAbove → ClassAbove → ProductLine → Type 0
IsProductLine r q a x = IsLine r.base.bottom (IsYonedaProduct r q a x) a x

-- ---- what is told

-- the sphere has the class through the range
abbrev pub IsInSphere : Range → Class → Type 0
IsInSphere range by = (sphere : List (List Content)) →
    IsCanonicalTable (module_over (derived_module sphere_file)) range.s range.t sphere →
    missing_in (resolution (derived_module sphere_file) sphere) by ≡ None

-- lines has one for each class whose product with the class `by` is in the squares of this shape
pub record AreProductLines (shape : Shape) (range : Range) (by : Class) (r q : Resolution) (lines : List ProductLine)
    : Type 0 where
  pub a : ClassAbove
  pub at : IsAt q by a
  pub are_lines : OneEach (IsProductLine r q a) (factors r shape range a) lines

-- text has a line for each of these classes
pub record IsProductsText (shape : Shape) (range : Range) (by : Class) (r q : Resolution) (text : List ℕ) : Type 0 where
  pub a : ClassAbove
  pub at : IsAt q by a
  pub lines : List ProductLine
  pub are_lines : OneEach (IsProductLine r q a) (factors r shape range a) lines
  pub is : text ≡ product_lines_text lines

-- What is told of the products with one class, where r and q are the resolutions of the module and of the sphere through the range, the
-- whole rectangle: the text, or that the sphere has no such class there.
abbrev pub IsAnswerOfOne : Shape → Range → Class → Resolution → Resolution → Result (List ℕ) Refusal → Type 0
IsAnswerOfOne shape range by r q answer = MatchOption (missing_in q by) (IsOkAnd answer (IsProductsText shape range by r q))
    (λ count. answer ≡ Err (NoClass By by count))

-- ---- of several classes

-- the line that names a class
abbrev pub name_line : Class → List ℕ
name_line by = codes "by (" ++ (decimal by.s ++ (codes "," ++ (signed_decimal by.t ++ (codes "," ++ (decimal by.i ++ codes ")\n")))))

-- the text of the products with a class, behind the line that names it where it is not alone
abbrev pub headed : Bool → Class → List ℕ → List ℕ
headed false by text = text
headed true by text = name_line by ++ text

-- the texts of the products with classes, one behind another
abbrev pub headed_texts : Bool → List Class → List (List ℕ) → List ℕ
headed_texts named (by ∷ others) (text ∷ texts) = headed named by text ++ headed_texts named others texts
headed_texts named others texts = []

-- text has the lines of the products with each of the classes, in their order
pub record AreProductsTexts (shape : Shape) (range : Range) (by : List Class) (r q : Resolution) (text : List ℕ) : Type 0 where
  pub texts : List (List ℕ)
  pub each : OneEach (λ class t. IsProductsText shape range class r q t) by texts
  pub is : text ≡ headed_texts (nat_lt 1 (length by)) by texts

-- the first of the classes that the resolution has not, with how many there are at its place
abbrev pub first_missing : Resolution → List Class → Option (Class × ℕ)
first_missing q [] = None
first_missing q (by ∷ others) = option_or (option_map (λ count. (by, count)) (missing_in q by)) (first_missing q others)

-- What is told of the products with the classes: the text, or that the sphere has not the first of them that is not there.
abbrev pub IsProductsAnswer : Shape → Range → List Class → Resolution → Resolution → Result (List ℕ) Refusal → Type 0
IsProductsAnswer shape range by r q answer =
    MatchOption (first_missing q by) (IsOkAnd answer (AreProductsTexts shape range by r q))
    (λ missing. answer ≡ Err (NoClass By missing.0 missing.1))

-- The law: of one class that is what is told of it alone.
abbrev pub ProductsAnswerOfOne : Type 0
ProductsAnswerOfOne = (shape : Shape) (range : Range) (by : Class) (r q : Resolution) (answer : Result (List ℕ) Refusal) →
    IsProductsAnswer shape range (by ∷ []) r q answer ↔ IsAnswerOfOne shape range by r q answer

-- The law: of classes that are told one by one, it is their texts, each behind the line that names its class where there are several.
abbrev pub ProductsAnswerOfEach : Type 0
ProductsAnswerOfEach = (shape : Shape) (range : Range) (by : List Class) (r q : Resolution) (texts : List (List ℕ)) →
    OneEach (λ class text. IsAnswerOfOne shape range class r q (Ok text)) by texts →
    IsProductsAnswer shape range by r q (Ok (headed_texts (nat_lt 1 (length by)) by texts))

-- ---- of one product

-- why a and x have no product in the range: the first of a is no class of the sphere's resolution q, or x of r; the square is past the
-- range
abbrev pub one_product_refusal : Range → Class → Class → Resolution → Resolution → Option Refusal
one_product_refusal range a x r q =
    option_or (no_class (NoClass A a) q a)
    (option_or (no_class (NoClass X x) r x) (out_of_range (OutOfRange Ax) range r (pos (a.s + x.s)) (a.t +ℤ x.t)))

-- text is the line of the product of a and x, as it stands among those of all products with a
pub record IsOneProductText (a x : Class) (r q : Resolution) (text : List ℕ) : Type 0 where
  pub y : ClassAbove
  pub z : ClassAbove
  pub a_at : IsAt q a y
  pub x_at : IsAt r x z
  pub line : ProductLine
  pub is_line : IsProductLine r q y z line
  pub is : text ≡ product_lines_text (line ∷ [])

-- What is told of the product of a and x, where r and q are the resolutions of the module and of the sphere through the range: why there
-- is none, or its line.
abbrev pub IsOneProductAnswer : Range → Class → Class → Resolution → Resolution → Result (List ℕ) Refusal → Type 0
IsOneProductAnswer range a x r q answer =
    MatchOption (one_product_refusal range a x r q) (IsOkAnd answer (IsOneProductText a x r q)) (λ refusal. answer ≡ Err refusal)

-- text stands in all
pub record StandsIn (text all : List ℕ) : Type 0 where
  pub before : List ℕ
  pub after : List ℕ
  pub is : all ≡ before ++ (text ++ after)

-- The law: what is told of one product is a line of what is told of all products with its class of the sphere.
abbrev pub OneProductIsLine : Type 0
OneProductIsLine = (range : Range) (a x : Class) (r q : Resolution) (text all : List ℕ) → IsSphere q →
    IsOneProductAnswer range a x r q (Ok text) → IsProductsAnswer Rectangle range (a ∷ []) r q (Ok all) → StandsIn text all

-- ---- what is told of the classes of two resolutions, of a module and of the sphere

abbrev pub Telling : Type 1
Telling = Resolution → Resolution → Result (List ℕ) Refusal → Type 0

-- what is told is right of the squares that the table has in the range
abbrev pub IsAnswerIn : {X : Type 0} → (Resolution → Resolution → X → Type 0) → Staircase → Range → X → Type 0
IsAnswerIn Tells table range answer =
    (sphere : List (List Content)) →
    IsCanonicalTable (module_over (derived_module sphere_file)) range.s range.t sphere →
    Tells (through range table) (resolution (derived_module sphere_file) sphere) answer

-- what is told is right, where the table is that of the canonical resolution in the range
abbrev pub IsAnswerOver : {X : Type 0} → (Resolution → Resolution → X → Type 0) → Staircase → Range → X → Type 0
IsAnswerOver Tells table range answer = IsCanonicalIn range table → IsAnswerIn Tells table range answer

-- There is something to tell of the canonical resolutions of a module and of the sphere through the range,
abbrev pub HasAnswer : Telling → Range → Type 0
HasAnswer Tells range = (r q : Resolution) → IsCanonical r range.s range.t → IsCanonical q range.s range.t →
    IsSphere q → (answer : Result (List ℕ) Refusal) × Tells r q answer

-- and at most one thing of any two resolutions.
abbrev pub HasOneAnswer : Telling → Type 0
HasOneAnswer Tells = (r q : Resolution) (x y : Result (List ℕ) Refusal) → Tells r q x → Tells r q y → x ≡ y
