use Rattle.std.proofs.Common.{◌+◌, true, length, set, ap, ◌∙◌, arith}
use Rattle.f2_vec.specs.Vectors.{sum_of, zeros, placed}
use Rattle.f2_matrix.proofs.Split.{unit_beside, length-beside}
use Rattle.f2_matrix.proofs.matrix.with_unit.Goals as goal

pub set-requires : goal.set-requires
set-requires c =
    let x = c.xor_at.ensures ∙ ap (λ z. sum_of z (placed (length z) 0 c.args.row.now)) c.in_ok-wider.ensures in
    let l = ap length x ∙ length-beside c.args.row.now c.args.n c.in-Some.len (c.in-Some.ensures.1 ∙ ap (λ k. k + c.args.n) c.len.ensures) in
    omega (arith, l, c.in-Some.ensures.1, c.len.ensures, c.len-2.ensures)

pub returns : goal.returns
returns c =
    let x = c.xor_at.ensures ∙ ap (λ z. sum_of z (placed (length z) 0 c.args.row.now)) c.in_ok-wider.ensures in
    c.set.ensures
    ∙ ap (λ v. set v (c.len-2.result + c.args.i) true) x
    ∙ ap (λ k. set (sum_of (zeros c.in-Some.len) (placed (length (zeros c.in-Some.len)) 0 c.args.row.now)) (k + c.args.i) true) c.len-2.ensures
    ∙ unit_beside c.args.row.now c.args.n c.args.i c.in-Some.len (c.in-Some.ensures.1 ∙ ap (λ k. k + c.args.n) c.len.ensures) c.requires
