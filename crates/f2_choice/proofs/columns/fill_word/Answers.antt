use Rattle.std.proofs.Common.{◌∙◌, length, sym, arith}
use Rattle.f2_choice.proofs.AtPlaces.{read, AreFilledAt-start, AreFilledAt-join, AreFilledAt-end, HaveWidth-filled}
use Rattle.f2_choice.proofs.columns.fill_word.Goals as goal

pub loop-filled-init : goal.loop-filled-init
loop-filled-init c = record { within = omega arith; filled = AreFilledAt-start c.args.i 0 c.args.places.now (read c.args.rows.now) c.args.columns.now }

pub fill_run-filled-requires-clause-as_many : goal.fill_run-filled-requires-clause-as_many
fill_run-filled-requires-clause-as_many c = c.loop-filled.invariant.filled.as_many ∙ c.requires.as_many

pub fill_run-filled-requires-clause-lengths : goal.fill_run-filled-requires-clause-lengths
fill_run-filled-requires-clause-lengths c = HaveWidth-filled (length c.args.rows.now) c.args.i 0 c.loop-filled.filled c.args.places.now (read c.args.rows.now) c.args.columns.now c.loop-filled.columns c.requires.lengths c.loop-filled.invariant.filled

pub loop-filled-preserved : goal.loop-filled-preserved
loop-filled-preserved c = record {
  within = c.fill_run-filled.ensures.end;
  filled = AreFilledAt-join c.args.i 0 c.loop-filled.filled c.fill_run-filled.result c.args.places.now (read c.args.rows.now) c.args.columns.now c.loop-filled.columns c.fill_run-filled.new.columns (omega arith) c.loop-filled.invariant.filled c.fill_run-filled.ensures.filled;
}

pub returns : goal.returns
returns c = AreFilledAt-end c.args.i 0 c.loop-filled.filled (length c.args.columns.now) c.args.places.now (read c.args.rows.now) c.args.columns.now c.loop-filled.columns (λ k l m. omega arith) c.loop-filled.invariant.filled
