use Rattle.std.proofs.Common.{length, ◌∙◌, sym, arith}
use Rattle.f2_choice.proofs.AtPlaces.{read, length-read, AreFilledTo-start, AreFilledTo-more, AreFilledTo-end}
use Rattle.f2_choice.proofs.columns.fill.Goals as goal

pub loop-i-init : goal.loop-i-init
loop-i-init c = AreFilledTo-start c.args.places.now (read c.args.rows.now) c.args.columns.now c.requires.as_many (λ k l. c.requires.lengths k l ∙ sym (length-read c.args.rows.now))

pub fill_word-requires-clause-as_many : goal.fill_word-requires-clause-as_many
fill_word-requires-clause-as_many c = c.loop-i.invariant.as_many

pub fill_word-requires-clause-lengths : goal.fill_word-requires-clause-lengths
fill_word-requires-clause-lengths c = λ k l. c.loop-i.invariant.lengths k l ∙ length-read c.args.rows.now

pub loop-i-preserved : goal.loop-i-preserved
loop-i-preserved c = AreFilledTo-more c.loop-i.i c.args.places.now (read c.args.rows.now) c.loop-i.columns c.fill_word.new.columns c.loop-i.invariant c.fill_word.ensures

pub returns : goal.returns
returns c = AreFilledTo-end _ c.args.places.now (read c.args.rows.now) c.loop-i.columns c.loop-i.invariant (omega (arith, length-read c.args.rows.now))
