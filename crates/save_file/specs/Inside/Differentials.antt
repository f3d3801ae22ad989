-- The matrix that a map is seen as.
use Rattle.std.specs.Prelude.{[]}
use Rattle.f2_matrix.specs.Reduction.{Rows}
use Rattle.square.specs.Squares.{target_width, square_matrix, over}
use Rattle.free_module.specs.LinearMap.{map_rows}
use Rattle.square.specs.Below.{graded_of}
use Rattle.save_file.specs.declared.row_map.RowMap.{RowMap}
use Rattle.save_file.specs.declared.row_map.SquareMap.{SquareMap}
use Rattle.save_file.specs.declared.differential.Differential.{Differential}
use Rattle.save_file.specs.declared.differential.Differential.TheVariants.{Whole, ByRows, OfSquare}

-- that of d_s, where the next square is, with generators of these images
abbrev pub matrix_behind : RowMap → Rows
matrix_behind m = record {
  cols = target_width (over m.inputs.resolved) m.inputs.below m.inputs.squares;
  rows = square_matrix (over m.inputs.resolved) m.inputs.below m.inputs.squares
      (record { images = m.images.items; kernel = [] });
}

-- that of the map in the degree of a square that is there
abbrev pub matrix_of_map : SquareMap → Rows
matrix_of_map m = record {
  cols = (graded_of m.target).width m.t;
  rows = map_rows (graded_of m.target) m.gens m.images.items m.t;
}

abbrev pub matrix_of : Differential → Rows
matrix_of (Whole matrix) = matrix
matrix_of (ByRows map) = matrix_behind map
matrix_of (OfSquare map) = matrix_of_map map
