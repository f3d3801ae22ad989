-- The number in front of a leading term: for R = (r1, r2, ..) the term of Sq(u) Sq(r2, r3, ..) that comes last in Milnor's basis is Sq(R)
-- where u is the front of R (Milnor 1958).
use Rattle.std.specs.Prelude.{ℕ, ◌+◌, ◌*◌, List, [], ◌∷◌}

-- r1 + 2 r2 + 4 r3 + ..
abbrev pub front : List ℕ → ℕ
front [] = 0
front (r ∷ rs) = r + 2 * front rs
