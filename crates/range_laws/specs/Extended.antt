-- The values of a bracket are those of lifts and homotopies that go on past its degree, as through the whole range.
use Rattle.std.specs.Prelude.{◌↔◌, ℕ, ◌<◌, ℤ, pos, ◌+ℤ◌, ◌-ℤ◌, ◌≤ℤ◌, Bool, List}
use Rattle.lift_laws.specs.Lifts.{Resolution, IsCanonical, IsSphere}
use Rattle.lift_laws.specs.Products.{Class, count_of, degree_of_class}
use Rattle.bracket_laws.specs.Brackets.{HasRoom, HasZeroProduct, HasZeroLower, top_of, IsBracketMember}

-- Where ab and bc are zero, each value by lifts and a homotopy through the degree of the bracket is one by such that go through a greater
-- degree, as far as the sphere's table goes, and no other value is.
abbrev pub BracketMembersExtend : Type 0
BracketMembersExtend =
    (r q : Resolution) (rs rt qs qt : ℕ) (a b c : Class) (n l : ℕ) (top : ℤ) (gamma : ℕ → ℕ → List Bool) →
    (v : List Bool) → IsCanonical r rs rt → IsCanonical q qs qt → IsSphere q → HasRoom rs rt qs qt a b c n l →
    a.i < count_of q a.s a.above → b.i < count_of q b.s b.above → c.i < count_of r c.s c.above →
    top_of r a b c ≤ℤ top → (top -ℤ degree_of_class r c) ≤ℤ (q.base.bottom +ℤ pos qt) →
    HasZeroProduct r q a b c l (top_of r a b c) → HasZeroLower r q a b c n l (top_of r a b c) gamma →
    IsBracketMember r q a b c n l (top_of r a b c) v ↔ IsBracketMember r q a b c n l top v
