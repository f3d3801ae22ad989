-- What is printed of products and of a bracket does not depend on the range: a smaller range has the lines that lie in it, and a
-- bracket is the same wherever there is one.
use Rattle.std.specs.Prelude.{◌≡◌, ℕ, ◌+◌, ◌≤◌, ℤ, pos, ◌+ℤ◌, Bool, ◌&&◌, nat_lt, int_lt, List, [], ◌∷◌, Ok}
use Rattle.std.specs.List.{filter}
use Rattle.bidegree.specs.LastDegrees.{last_degree}
use Rattle.bidegree.specs.declared.range.Range.{Range}
use Rattle.bidegree.specs.declared.shape.Shape.{Shape}
use Rattle.bidegree.specs.declared.shape.Shape.TheVariants.{Rectangle}
use Rattle.bidegree.specs.declared.class.Class.{Class}
use Rattle.resolution_laws.specs.Resolution.{Module, Content}
use Rattle.lift_laws.specs.Lifts.{Resolution, IsCanonical, IsSphere}
use Rattle.ext_chart.specs.declared.class_products.ProductLine.{ProductLine}
use Rattle.ext_chart.specs.Classes.{product_lines_text}
use Rattle.ext_products.specs.Products.{IsProductsAnswer}
use Rattle.ext_brackets.specs.Brackets.{IsBracketAnswer}
use Rattle.range_laws.specs.Ranges.{resolution_in}

-- the canonical resolutions of a module and of the sphere through a range
pub record AreResolved (range : Range) (r q : Resolution) : Type 0 where
  pub canonical : IsCanonical r range.s range.t
  pub canonical_q : IsCanonical q range.s range.t
  pub sphere : IsSphere q

-- the product that the line tells is in the range, whose degrees count from the bottom
abbrev pub is_in : Range → ℤ → ProductLine → Bool
is_in range bottom line = nat_lt line.target_s (range.s + 1) && int_lt line.target_t (bottom +ℤ pos (range.t + 1))

-- the product that the line tells is in the squares of the range that are of a shape
abbrev pub is_in_shape : Shape → Range → ℤ → ProductLine → Bool
is_in_shape shape range bottom line =
    int_lt line.target_t (bottom +ℤ pos (last_degree shape range line.target_s + 1))

-- text is that of those lines of all that are kept
pub record HasLinesOf (keeps : ProductLine → Bool) (all text : List ℕ) : Type 0 where
  pub lines : List ProductLine
  pub all_are : all ≡ product_lines_text lines
  pub text_is : text ≡ product_lines_text (filter keeps lines)

-- The products with a class through a range are just those lines of the products through a larger one that are in it. (Those with
-- several classes are the lines of each.)
abbrev pub ProductsOfSmallerRange : Type 0
ProductsOfSmallerRange =
    (range more : Range) (by : Class) (m w : Module) (table sphere other other_sphere : List (List Content)) →
    (text all : List ℕ) →
    range.s ≤ more.s → range.t ≤ more.t → AreResolved range (resolution_in m table) (resolution_in w sphere) →
    AreResolved more (resolution_in m other) (resolution_in w other_sphere) →
    IsProductsAnswer Rectangle range (by ∷ []) (resolution_in m table) (resolution_in w sphere) (Ok text) →
    IsProductsAnswer Rectangle more (by ∷ []) (resolution_in m other) (resolution_in w other_sphere) (Ok all) →
    HasLinesOf (is_in range m.bottom) all text

-- The products with a class in the stems of a range are just those lines of the products through all of it that are in them.
abbrev pub ProductsInShapeAreOfRange : Type 0
ProductsInShapeAreOfRange =
    (shape : Shape) (range : Range) (by : Class) (r q : Resolution) (text all : List ℕ) →
    IsProductsAnswer shape range (by ∷ []) r q (Ok text) → IsProductsAnswer Rectangle range (by ∷ []) r q (Ok all) →
    HasLinesOf (is_in_shape shape range r.base.bottom) all text

-- A bracket of three classes is one text through all ranges in which it is told.
abbrev pub BracketIsSameInEachRange : Type 0
BracketIsSameInEachRange =
    (range more : Range) (a b c : Class) (m w : Module) (table sphere other other_sphere : List (List Content)) →
    (text other_text : List ℕ) → AreResolved range (resolution_in m table) (resolution_in w sphere) →
    AreResolved more (resolution_in m other) (resolution_in w other_sphere) →
    IsBracketAnswer range a b c (resolution_in m table) (resolution_in w sphere) (Ok text) →
    IsBracketAnswer more a b c (resolution_in m other) (resolution_in w other_sphere) (Ok other_text) →
    text ≡ other_text
