-- Images that a sheet, or products, are made from.
use Rattle.std.specs.Prelude.{◌≡◌, ◌==◌, true, false, List}
use Rattle.std.specs.List.{list_all}
use Rattle.bidegree.specs.declared.class.Class.{Class}
use Rattle.bidegree.specs.declared.range.Range.{Range}
use Rattle.bidegree.specs.declared.shape.Shape.{Shape}
use Rattle.bidegree.specs.LastDegrees.{last_degree}
use Rattle.finite_module.specs.Checked.{Checked}
use Rattle.resolution_laws.specs.Resolution.{Content, IsCanonicalTable}
use Rattle.square.specs.Squares.{over}
use Rattle.resolution_images.specs.BareRows.{BareTable, squares_of, AreOfRange}
use Rattle.chain_map.specs.Sources.{AreWhole}
use Rattle.ext_chart.specs.Seen.{IsSeenThrough}
use Rattle.ext_chart.specs.Alike.{AreToldAlike}

-- The images go through the squares of the shape, and are told there as those of the module's canonical resolution.
pub record AreOfResolution (shape : Shape) (range : Range) (m : Checked) (images : BareTable) : Type 0 where
  pub resolved : images.resolved ≡ m
  pub are : AreOfRange (over m) range.s range.t images.rows
  pub through : IsSeenThrough range shape (squares_of images.rows)
  pub alike : (table : List (List Content)) → IsCanonicalTable (over m) range.s range.t table →
      AreToldAlike m.plain.generators range.s (last_degree shape range) (squares_of images.rows) table

-- Products with these classes are made from the images: they are those of the squares of the shape where all classes are of row 1, and those
-- of the whole rectangle where classes are lifted.
pub record AreForProducts (shape : Shape) (range : Range) (by : List Class) (m : Checked) (images : BareTable)
    : Type 0 where
  pub resolved : images.resolved ≡ m
  pub read_off : list_all (λ class. class.s == 1) by ≡ true → AreOfResolution shape range m images
  pub through : list_all (λ class. class.s == 1) by ≡ false → images.range ≡ range
  pub whole : list_all (λ class. class.s == 1) by ≡ false → AreWhole images
