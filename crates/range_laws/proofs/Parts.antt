-- The part of a canonical table is canonical, so it is the table of the smaller range.
use Rattle.std.proofs.Common.{◌≡◌, ℕ, ◌+◌, ◌<◌, ◌≤◌, List, [], length, take, ap, sym, subst, ◌∙◌, arith}
use Rattle.std.proofs.lemmas.List.{length-map, get_or-map, get_or-take, length-take-le}
use Rattle.f2_matrix.specs.Echelon.{KernelBasisIsUnique}
use Rattle.resolution_laws.specs.Resolution.{Module, Content, no_content, square_in, row_of, IsCanonicalTable}
use Rattle.resolution_laws.specs.Start.{IsOf}
use Rattle.resolution_laws.proofs.StartLaws.{content_is_unique, canonical_from_contents}
use Rattle.resolution_laws.proofs.StartTables.{table_contents}
use Rattle.resolution_laws.proofs.TableIsUnique.{table_is_unique}
use Rattle.range_laws.specs.Ranges.{part, SmallerTableIsPart, SquaresAreSameInEachRange}

-- the rows of the part
pub row-part : (s t : ℕ) (table : List (List Content)) (i : ℕ) → i ≤ s → s < length table → row_of (part s t table) i ≡ take (t + 1) (row_of table i)
row-part s t table i h l =
    let rows = take (s + 1) table in
    let len : length rows ≡ s + 1 = length-take-le (s + 1) table (omega arith) in
    get_or-map (take (t + 1)) rows i [] [] (omega arith) ∙ ap (take (t + 1)) (get_or-take (s + 1) table i [] (omega arith))

module _ (kernels : KernelBasisIsUnique) (m : Module) (s t : ℕ) (table : List (List Content)) (canonical : IsCanonicalTable m s t table) where
  pub part-canonical : (i k : ℕ) → i ≤ s → k ≤ t → IsCanonicalTable m i k (part i k table)
  part-canonical i k h l =
      let long = canonical.rows in
      let rows = take (i + 1) table in
      let at : (j : ℕ) → j ≤ i → row_of (part i k table) j ≡ take (k + 1) (row_of table j) = λ j b. row-part i k table j b (omega arith) in
      canonical_from_contents kernels m i k (part i k table) (length-map rows (take (k + 1)) ∙ length-take-le (i + 1) table (omega arith))
      (λ j b. ap length (at j b) ∙ length-take-le (k + 1) (row_of table j) (let row = canonical.squares j (omega arith) in omega arith))
      (λ j n b c.
      let same : square_in (row_of (part i k table) j) n ≡ square_in (row_of table j) n = ap (λ (squares : List Content). square_in squares n) (at j b) ∙ get_or-take (k + 1) (row_of table j) n no_content (omega arith) in
      subst (IsOf m [] j n) (sym same) (table_contents m s t table canonical j (omega arith) n (omega arith)))

pub smaller_is_part : KernelBasisIsUnique → SmallerTableIsPart
smaller_is_part kernels m s t less_s less_t table small canonical row degree is_small = table_is_unique kernels m less_s less_t small (part less_s less_t table) is_small (part-canonical kernels m s t table canonical less_s less_t row degree)

pub squares_same : KernelBasisIsUnique → SquaresAreSameInEachRange
squares_same kernels m s t more_s more_t table other one two i k row degree more_row more_degree =
    content_is_unique kernels m [] i k (square_in (row_of table i) k) (square_in (row_of other i) k) (table_contents m s t table one i row k degree) (table_contents m more_s more_t other two i more_row k more_degree)
