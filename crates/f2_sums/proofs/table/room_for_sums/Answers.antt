use Rattle.std.proofs.Common.{◌≡◌, ◌*◌, ◌%◌, ◌^◌, ℕ, [], length, replicate, ap, sym, ◌∙◌, arith, subst}
use Rattle.std.proofs.lemmas.List.{length-replicate, get_or-replicate}
use Rattle.std.proofs.lemmas.Nat.{one_shl, pow_pos}
use Rattle.f2_vec.specs.Vectors.{zeros}
use Rattle.f2_vec.proofs.Sums.{length-zeros}
use Rattle.f2_sums.specs.Inside.Tables.{IsRoomForSums}
use Rattle.f2_sums.proofs.table.room_for_sums.Goals as goal

room : (n bits m : ℕ) → m ≡ 2 ^ bits → IsRoomForSums n bits (replicate m (zeros n))
room n bits m e = record {
  widths = λ i l. ap length (get_or-replicate m i (zeros n) [] (omega (arith, length-replicate m (zeros n)))) ∙ length-zeros n;
  size = length-replicate m (zeros n) ∙ e;
  first = get_or-replicate m 0 (zeros n) [] (omega (arith, pow_pos bits));
}

pub returns : goal.returns
returns c =
    subst (IsRoomForSums c.args.cols c.args.bits) (sym c.loop.invariant) (room c.args.cols c.args.bits c.loop.counter
    (let e : 1 * 2 ^ c.args.bits % 2 ^ 64 ≡ 2 ^ c.args.bits = one_shl c.args.bits 64 (omega arith) in omega (arith, e, c.loop-test.false, c.loop.auto.counter-end)))
