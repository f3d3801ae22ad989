-- What a class, a product and a bracket are does not depend on the range in which they are looked at.
use Rattle.std.specs.Prelude.{◌≡◌, ℕ, ◌+◌, ◌≤◌, Bool, List, map, take}
use Rattle.resolution_laws.specs.Resolution.{Module, Content, square_in, row_of, IsCanonicalTable}
use Rattle.lift_laws.specs.Lifts.{Resolution, IsCanonical, IsSphere}
use Rattle.lift_laws.specs.Products.{Class}
use Rattle.bracket_laws.specs.Brackets.{HasRoom, top_of, IsBracketMember}
use Rattle.yoneda_laws.specs.Elements.{Element, IsProduct, CanMultiply}

-- the resolution of a module in a table
abbrev pub resolution_in : Module → List (List Content) → Resolution
resolution_in m table = record { base = m; table = table }

-- ---- squares

-- the part of a table in rows through s and degrees through bottom + t
abbrev pub part : ℕ → ℕ → List (List Content) → List (List Content)
part s t table = map (take (t + 1)) (take (s + 1) table)

-- The canonical table of a smaller range is the part of that of a larger one.
abbrev pub SmallerTableIsPart : Type 0
SmallerTableIsPart = (m : Module) (s t less_s less_t : ℕ) (table small : List (List Content)) →
    IsCanonicalTable m s t table → less_s ≤ s → less_t ≤ t → IsCanonicalTable m less_s less_t small →
    small ≡ part less_s less_t table

-- A square is the same in all canonical tables that have it: so are the classes in it, and their numbers.
abbrev pub SquaresAreSameInEachRange : Type 0
SquaresAreSameInEachRange = (m : Module) (s t more_s more_t : ℕ) (table other : List (List Content)) →
    IsCanonicalTable m s t table → IsCanonicalTable m more_s more_t other → (i k : ℕ) → i ≤ s → k ≤ t → i ≤ more_s →
    k ≤ more_t → square_in (row_of table i) k ≡ square_in (row_of other i) k

-- ---- products and brackets

-- So is the product of two elements in all ranges that have it, by lifts over the one or the other,
abbrev pub ProductsAreSameInEachRange : Type 0
ProductsAreSameInEachRange =
    (m w : Module) (table other sphere other_sphere : List (List Content)) →
    (rs rt qs qt more_rs more_rt more_qs more_qt : ℕ) →
    (a x : Element) (v z : List Bool) →
    CanMultiply (resolution_in m table) (resolution_in w sphere) rs rt qs qt a x →
    CanMultiply (resolution_in m other) (resolution_in w other_sphere) more_rs more_rt more_qs more_qt a x →
    IsProduct (resolution_in m table) (resolution_in w sphere) a x v →
    IsProduct (resolution_in m other) (resolution_in w other_sphere) a x z → v ≡ z

-- and so are the values of a bracket of three classes.
abbrev pub BracketsAreSameInEachRange : Type 0
BracketsAreSameInEachRange =
    (m w : Module) (table other sphere other_sphere : List (List Content)) →
    (rs rt qs qt more_rs more_rt more_qs more_qt : ℕ) →
    (a b c : Class) (n l : ℕ) (v : List Bool) → IsCanonical (resolution_in m table) rs rt →
    IsCanonical (resolution_in m other) more_rs more_rt → IsCanonical (resolution_in w sphere) qs qt →
    IsCanonical (resolution_in w other_sphere) more_qs more_qt → IsSphere (resolution_in w sphere) →
    HasRoom rs rt qs qt a b c n l → HasRoom more_rs more_rt more_qs more_qt a b c n l →
    IsBracketMember (resolution_in m table) (resolution_in w sphere) a b c n l
    (top_of (resolution_in m table) a b c) v →
    IsBracketMember (resolution_in m other) (resolution_in w other_sphere) a b c n l
    (top_of (resolution_in m other) a b c) v
