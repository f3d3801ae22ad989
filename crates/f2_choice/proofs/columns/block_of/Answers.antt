use Rattle.std.proofs.Common.{◌≡◌, ◌+◌, ◌*◌, ap, ◌∙◌, arith}
use Rattle.f2_vec.specs.Vectors.{bit}
use Rattle.f2_vec.specs.Spans.{row}
use Rattle.f2_choice.proofs.AtPlaces.{read, length-read, row-read, IsBlockUpTo-start, IsBlockUpTo-more, IsBlockUpTo-end}
use Rattle.f2_choice.proofs.columns.block_of.Goals as goal

pub loop-r-init : goal.loop-r-init
loop-r-init c = IsBlockUpTo-start c.args.i c.args.j (read c.args.rows.now)

pub loop-r-preserved : goal.loop-r-preserved
loop-r-preserved c =
    let rows = read c.args.rows.now in
    let n = 64 * c.args.i + c.loop-r.r in
    let v : c.index-rows-i.result.now ≡ row rows n = row-read c.args.rows.now n c.index-rows-i.result (omega arith) c.index-rows-i.is in
    IsBlockUpTo-more c.loop-r.r c.args.i c.args.j c.word.result rows c.loop-r.block (omega arith) (λ b l. c.word.ensures b l ∙ ap (λ u. bit u (64 * c.args.j + b)) v) c.loop-r.invariant

pub returns : goal.returns
returns c = IsBlockUpTo-end c.loop-r.r c.args.i c.args.j (read c.args.rows.now) c.loop-r.block (λ r l m. omega (arith, length-read c.args.rows.now)) c.loop-r.invariant
