-- Stocks of images as boards see them, and that images are unique.
use Rattle.std.specs.Prelude.{◌≡◌, ℕ, List, option_map, ⊤}
use Rattle.std.specs.Arc.{arc_value}
use Rattle.finite_module.specs.Checked.{Checked}
use Rattle.square.specs.Squares.{over, bottom_of}
use Rattle.square_board.specs.Stocks.{StockWords}
use Rattle.resolution_images.specs.BareRows.{BareRow, AreOfCanonical, AreOfStems}
use Rattle.image_worker.specs.declared.inputs.ImageSubject.{ImageSubject}
use Rattle.image_worker.specs.declared.inputs.MadeImages.{MadeImages}
use Rattle.image_worker.specs.Stocks.{ImageRows, ImagePlace, extent_of, fronts_of, IsMadeAt, IsGeneratorCount}

-- A stock of images holds its range, and takes images at all times. It is kept nowhere, so that nothing but memory can fail, and
-- nothing is told of what else events do to it.
abbrev pub image_words : StockWords ImageRows ImageSubject ImagePlace MadeImages
image_words = record {
  subject = λ stock. stock.subject;
  bottom = λ o. bottom_of o.resolved;
  shape = λ o. o.shape;
  reaches = λ o range. range ≡ o.range;
  fronts = fronts_of;
  takes = λ stock. ⊤;
  is_for = λ o s k inputs. inputs ≡ record { subject = o; s = s; above = k };
  is_made = λ inputs made. IsMadeAt (over inputs.subject.resolved) (extent_of inputs.subject) inputs.s inputs.above
      made.images.items (option_map arc_value made.kernel);
  is_count = IsGeneratorCount;
  gives = λ old s t new. ⊤;
  lacks = λ old s t new. ⊤;
  fails = λ old s t new. ⊥;
}

-- Images of a rectangle, and those in stems, are unique, whoever made them.
pub record ImagesAreUnique : Type 0 where
  pub rectangle : (m : Checked) (s t : ℕ) (a b : List BareRow) → AreOfCanonical (over m) s t a → AreOfCanonical (over m) s t b → a ≡ b
  pub stems : (m : Checked) (s n : ℕ) (a b : List BareRow) → AreOfStems (over m) s n a → AreOfStems (over m) s n b → a ≡ b
