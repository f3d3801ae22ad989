use Rattle.std.proofs.Common.{◌≡◌, ◌<◌, [], length, ap, sym, ◌∙◌, arith}
use Rattle.std.proofs.lemmas.List.{get_or_read, get_or_default}
use Rattle.f2_vec.specs.Vectors.{sum_of, bit}
use Rattle.f2_vec.specs.Spans.{row}
use Rattle.f2_matrix.proofs.AddedBeside.{IsAddedUpTo-more, IsAddedUpTo-skip}
use Rattle.f2_matrix.proofs.extend.add_beside.Goals.{then-get, else-get}
use Rattle.f2_matrix.proofs.extend.add_beside.Goals as goal

pub xor_with-requires : goal.xor_with-requires
xor_with-requires c =
    let l : c.loop-i.i < length c.loop-i.rows = omega (arith, c.loop-i.invariant.as_many, c.loop-i-test.true) in
    ap length (get_or_default c.loop-i.rows c.loop-i.i c.index-rows-i.result [] l) ∙ c.loop-i.invariant.widths c.loop-i.i l

pub loop-i-preserved : goal.loop-i-preserved
loop-i-preserved c =
    let i = c.loop-i.i in
    let rows = c.loop-i.rows in
    let beside = c.args.beside.now in
    let l : i < length rows = omega (arith, c.loop-i.invariant.as_many, c.loop-i-test.true) in
    let m : i < length beside = omega (arith, c.requires.as_many, c.loop-i.invariant.as_many, l) in
    let test : c.get.result ≡ bit (row beside i) c.args.col = c.get.ensures ∙ ap (λ v. bit v c.args.col) (get_or_read beside i c.index-beside-i.result m c.index-beside-i.is []) in
    elim c.if-get.branch [
      | then-get w ↦
          rw w.rows-is (IsAddedUpTo-more c.args.added.now c.args.col i beside c.args.rows.now rows w.xor_with.new.self l c.loop-i.invariant (sym test ∙ w.if-get.true)
          (w.xor_with.ensures ∙ ap (λ u. sum_of u c.args.added.now) (get_or_default rows i w.index-rows-i.result [] l)))
      | else-get w ↦ rw w.rows-is (IsAddedUpTo-skip c.args.added.now c.args.col i beside c.args.rows.now rows c.loop-i.invariant (sym test ∙ w.if-get.false))
    ]

pub returns : goal.returns
returns c = record { as_many = c.loop-i.invariant.as_many; rows = λ i l. c.loop-i.invariant.done i (omega (arith, c.loop-i-test.false)) }
