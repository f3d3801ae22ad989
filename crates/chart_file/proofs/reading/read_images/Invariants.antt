use Rattle.chart_file.proofs.Squares.{AreReadTo}
use Rattle.chart_file.proofs.reading.read_images.Given as goal

abbrev pub invariant-loop : goal.invariant-loop
invariant-loop l = AreReadTo l.width l.count l.counter l.images.items l.rest l.bytes
