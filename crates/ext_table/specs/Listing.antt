-- Products as lines.
use Rattle.std.specs.Prelude.{List}
use Rattle.bidegree.specs.declared.class.Class.{Class}
use Rattle.ext_chart.specs.declared.class_products.ProductLine.{ProductLine}

-- a class of the sphere, and the lines of its products with classes of a module
pub record Listing : Type 0 where
  pub by : Class
  pub lines : List ProductLine
