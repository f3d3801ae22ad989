use Rattle.std.proofs.Common.{[], map, sym, ◌∙◌, arith}
use Rattle.std.proofs.lemmas.List.{ext_get_or, length-map, get_or-map}
use Rattle.f2_matrix.specs.Preimages.{rest_of}
use Rattle.f2_kernel.proofs.blocks.clear_all.Goals as goal

pub returns : goal.returns
returns c =
    let old = c.args.vectors.now in
    let new = c.loop-vector.vectors in
    let f = rest_of c.args.n c.args.tables.now.rows in
    ext_get_or [] new (map f old) (c.loop-vector.invariant.as_many ∙ sym (length-map old f)) (λ j l. c.loop-vector.invariant.done j (omega arith) ∙ sym (get_or-map f old j [] [] (omega arith)))
