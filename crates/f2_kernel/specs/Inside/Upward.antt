-- Rows cleared from the last one up, each at the pivots of those behind it, and the vectors orthogonal to them, solved from the first row down.
use Rattle.std.specs.Prelude.{◌≡◌, ℕ, ◌-◌, ◌<◌, nat_eq, Bool, false, not, if◌then◌else◌, List, [], ◌∷◌, ◌++◌, length, map, reverse, take, drop}
use Rattle.std.specs.List.{range_with_len, filter, list_any}
use Rattle.f2_vec.specs.Vectors.{sum_of, zeros, bit}
use Rattle.f2_vec.specs.Spans.{row, unit_vector, HaveWidth}
use Rattle.f2_matrix.specs.Preimages.{pivot_of}
use Rattle.f2_matrix.specs.Reduction.{has_one}
use Rattle.f2_choice.specs.Inside.Dots.{dot}

-- ---- the form

-- v with a 0 at the pivot of r: r is added to it where it has a 1 there. A row of zeros has its pivot past the end
abbrev pub clear_one : List Bool → List Bool → List Bool
clear_one r v = if bit v (pivot_of r) then sum_of v r else v

-- v cleared at the pivot of each of these rows, the last one first
abbrev pub cleared_by : List (List Bool) → List Bool → List Bool
cleared_by [] v = v
cleared_by (r ∷ rows) v = clear_one r (cleared_by rows v)

-- each row cleared at the pivots of those behind it, which were cleared before it
abbrev pub upward : List (List Bool) → List (List Bool)
upward [] = []
upward (x ∷ xs) = cleared_by (upward xs) x ∷ upward xs

-- each row has a 0 at the pivots of those behind it
pub record AreCleared (n : ℕ) (form : List (List Bool)) : Type 0 where
  pub widths : HaveWidth n form
  pub cleared : (i j : ℕ) → i < j → j < length form → bit (row form i) (pivot_of (row form j)) ≡ false

-- the rows from place s up to place e are cleared, each at the pivots of those behind it there, and the rows before them at their pivots
abbrev pub IsBlockCleared : ℕ → ℕ → List (List Bool) → List (List Bool) → Type 0
IsBlockCleared s e xs ys =
    let block = upward (drop s (take e xs)) in
    ys ≡ map (cleared_by block) (take s (take e xs)) ++ (block ++ drop e xs)

-- which rows are zero
abbrev pub are_zero : List (List Bool) → List Bool
are_zero form = map (λ v. not (has_one v)) form

-- ---- the relations

-- y turned over at the pivot of r where it is not orthogonal to r
abbrev pub solved_one : List Bool → List Bool → List Bool
solved_one r y = if dot r y then sum_of y (unit_vector (length y) (pivot_of r)) else y

-- y made orthogonal to each of the rows, the first one first
abbrev pub solved : List (List Bool) → List Bool → List Bool
solved [] y = y
solved (r ∷ rows) y = solved rows (solved_one r y)

-- no row has its pivot at place p
abbrev pub has_no_pivot : List (List Bool) → ℕ → Bool
has_no_pivot form p = not (list_any (λ r. nat_eq (pivot_of r) p) form)

-- the elements at whose place no row has its pivot: of n elements the last one goes with place 0
abbrev pub vacant_elements : ℕ → List (List Bool) → List ℕ
vacant_elements n form = filter (λ e. has_no_pivot form (n - 1 - e)) (range_with_len 0 n)

-- The relation between n elements that is orthogonal to the rows, with a 1 at element e and a 0 at each other element at whose place
-- no row has its pivot. It is solved with the last element first. Behind these stand `new` elements, which it does not have
abbrev pub relation : ℕ → ℕ → List (List Bool) → ℕ → List Bool
relation n new form e = reverse (solved form (unit_vector n (n - 1 - e))) ++ zeros new

-- the relations of these elements, in order
abbrev pub relations : ℕ → ℕ → List (List Bool) → List (List Bool)
relations n new form = map (relation n new form) (vacant_elements n form)
