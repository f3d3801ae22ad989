use Rattle.std.proofs.lemmas.Option.{MatchOption-at_some}
use Rattle.std.proofs.lemmas.Result.{IfOk-weaker}
use Rattle.save_file.specs.Inside.Differentials.{matrix_of}
use Rattle.save_file.specs.Inside.Outline.{pair_of}
use Rattle.save_file.proofs.Reductions.{put_together}
use Rattle.save_file.proofs.reading.reduction.Goals as goal

pub returns : goal.returns
returns c =
    let image = MatchOption-at_some _ _ c.in-Some.image c.in-Some.is c.in_ok-image.ensures in
    let chosen = MatchOption-at_some _ _ c.in-Some-2.chosen c.in-Some-2.is c.in_ok-chosen.ensures in
    IfOk-weaker c.with_parts.result _ _ (put_together (pair_of c.args.packed.now) (matrix_of c.args.matrix.now) c.in-Some.image c.in-Some-2.chosen.items c.args.kernel image chosen) c.with_parts.ensures
