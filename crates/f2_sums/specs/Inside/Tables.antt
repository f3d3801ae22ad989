-- Tables of all sums of a few rows.
use Rattle.std.specs.Prelude.{◌≡◌, ℕ, ◌*◌, ◌^◌, ◌<◌, ◌≤◌, Bool, List, ◌++◌, length, map, take, drop}
use Rattle.std.specs.List.{range_with_len}
use Rattle.std.specs.Simd.Lanes.{mask_l}
use Rattle.f2_vec.specs.Vectors.{zeros, IsWithinWords}
use Rattle.f2_vec.specs.Spans.{row, combination, HaveWidth}
use Rattle.f2_sums.specs.Sums.{Block}

-- the table has each sum of the rows b, at the number whose bits are its coefficients
pub record HoldsSums (n : ℕ) (b table : List (List Bool)) : Type 0 where
  pub widths : HaveWidth n table
  pub sums : (c : List Bool) → length c ≡ length b → row table (mask_l c) ≡ combination n c b

-- room for the sums of m rows of length n: the first of the rows is zero
pub record IsRoomForSums (n m : ℕ) (table : List (List Bool)) : Type 0 where
  pub widths : HaveWidth n table
  pub size : length table ≡ 2 ^ m
  pub first : row table 0 ≡ zeros n

-- the rows of which a table has the sums: each is the sum of itself alone
abbrev pub rows_in : ℕ → List (List Bool) → List (List Bool)
rows_in k table = map (λ j. row table (2 ^ j)) (range_with_len 0 k)

-- a table with room for the sums of m rows of length n has those of k rows
pub record IsTable (n m k : ℕ) (table : List (List Bool)) : Type 0 where
  pub small : m ≤ 8
  pub few : k ≤ m
  pub room : IsRoomForSums n m table
  pub sums : HoldsSums n (rows_in k table) table

-- a list in four parts, of which the first three have m items, as long as there are so many
abbrev pub first_part : {A : Type 0} → ℕ → List A → List A
first_part m xs = take m xs

abbrev pub second_part : {A : Type 0} → ℕ → List A → List A
second_part m xs = take m (drop m xs)

abbrev pub third_part : {A : Type 0} → ℕ → List A → List A
third_part m xs = take m (drop m (drop m xs))

abbrev pub fourth_part : {A : Type 0} → ℕ → List A → List A
fourth_part m xs = drop m (drop m (drop m xs))

-- the rows of four tables
abbrev pub rows_of : (a b c d : Block) → List (List Bool)
rows_of a b c d = a.rows ++ (b.rows ++ (c.rows ++ d.rows))

-- four tables of rows of length n, with room for those of m rows in each, as one
abbrev pub block_of : ℕ → ℕ → (a b c d : Block) → Block
block_of n m a b c d = record { cols = n; most = 4 * m; rows = rows_of a b c d }

-- each of the rows is zero outside of words `from` up to `to`
abbrev pub AreWithinWords : ℕ → ℕ → List (List Bool) → Type 0
AreWithinWords from to rows = (i : ℕ) → i < length rows → IsWithinWords from to (row rows i)

-- a table has the sums of these rows, of length n, with room for those of m rows
pub record IsPart (n m : ℕ) (rows : List (List Bool)) (t : Block) : Type 0 where
  pub cols : t.cols ≡ n
  pub most : t.most ≡ m
  pub rows_are : t.rows ≡ rows
  pub few : length rows ≤ m

-- four tables have the sums of the four parts of the rows, q in each but the last
pub record AreParts (n m q : ℕ) (rows : List (List Bool)) (a b c d : Block) : Type 0 where
  pub first : IsPart n m (first_part q rows) a
  pub second : IsPart n m (second_part q rows) b
  pub third : IsPart n m (third_part q rows) c
  pub fourth : IsPart n m (fourth_part q rows) d

-- four tables of rows of length n in parts of q, up to m in each, which are zero outside of words `from` up to `to`
pub record AreTables (n m q from to : ℕ) (a b c d : Block) : Type 0 where
  pub small : m ≤ 8
  pub widths : HaveWidth n (rows_of a b c d)
  pub parts : AreParts n m q (rows_of a b c d) a b c d
  pub within : AreWithinWords from to (rows_of a b c d)
