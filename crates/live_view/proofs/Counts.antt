-- The numbers of a stock of images are those of the canonical resolution.
use Rattle.std.proofs.Common.{◌≡◌, ℕ, ◌+◌, ap, ◌∙◌, arith}
use Rattle.bidegree.specs.LastDegrees.{last_degree}
use Rattle.bidegree.specs.declared.range.Range.{Range}
use Rattle.bidegree.specs.declared.shape.Shape.{Shape}
use Rattle.finite_module.specs.Graded.{ModulesAreSteenrodModules}
use Rattle.finite_module.specs.ModuleLaws.{width-below}
use Rattle.resolution_laws.specs.Resolution.{square_in, row_of}
use Rattle.resolution_laws.specs.Start.{EmptyStartIsCanonical}
use Rattle.resolution_existence.specs.Existence.{CanonicalTableExists}
use Rattle.square.specs.Squares.{over}
use Rattle.stem_laws.specs.Stems.{SquaresInStemsAreThoseOfTable}
use Rattle.image_worker.specs.Stocks.{extent_of}
use Rattle.image_worker.specs.Words.{image_words}
use Rattle.live_view.specs.Counted.{canonical_of, AreCountsOf}

pub image_counts : CanonicalTableExists → ModulesAreSteenrodModules → EmptyStartIsCanonical → SquaresInStemsAreThoseOfTable → AreCountsOf image_words canonical_of
image_counts exists modules empty same o range s k n whole reached row degree counts =
    let m = over o.resolved in
    let e = extent_of o in
    let steenrod = modules o.resolved.plain o.resolved.is_module in
    let found = exists m e.last (e.n + e.last) steenrod.widths in
    let last = ap (λ (r : Range). r.s) reached in
    let through = ap (λ (r : Range). r.t) reached in
    let wide : e.n ≡ o.range.t = ap (λ (x : Shape). last_degree x o.range 0) whole in
    let square = same m e.last e.n found.0 (record { steenrod = steenrod; bounded = width-below o.resolved.plain.generators o.resolved.by_degree; canonical = found.1 }) s k (omega arith) (omega arith) in
    record {
      content = square_in (row_of found.0 s) k;
      is_of = ((empty m e.last (e.n + e.last) found.0).1 found.1).contents s k (omega arith) (omega arith);
      count = counts found.0 found.1 ∙ square.count;
    }
