use Rattle.std.proofs.Common.{◌≡◌, ◌+◌, ◌*◌, ◌^◌, ◌<◌, ◌≤◌, ℕ, [], refl, ap, sym, ◌∙◌, arith, subst}
use Rattle.std.proofs.lemmas.List.{get_or_read}
use Rattle.std.proofs.Math.Nat.{pow-suc, pow-le-pow_right}
use Rattle.f2_vec.specs.Vectors.{sum_of}
use Rattle.f2_vec.specs.Spans.{row}
use Rattle.f2_sums.proofs.Sums.{zero_sum, HoldsSums-none, HoldsSums-more}
use Rattle.f2_sums.proofs.table.fill_table.Goals as goal

pub loop-pivot-init : goal.loop-pivot-init
loop-pivot-init c = record {
  filled = refl;
  room = c.requires.room.size;
  sums = HoldsSums-none c.args.cols c.args.bits c.args.table.now c.requires.room;
}

doubled : (j m filled size : ℕ) → filled ≡ 2 ^ j → size ≡ 2 ^ m → j < m → filled + filled ≤ size
doubled j m filled size f s h =
    let z : 0 < 2 = omega arith in
    let q : j + 1 ≤ m = omega arith in
    let p : 2 ^ (j + 1) ≤ 2 ^ m = pow-le-pow_right z q in
    let d : 2 ^ (j + 1) ≡ 2 ^ j * 2 = ap (λ k. 2 ^ k) (omega arith) ∙ pow-suc 2 j in
    omega arith

pub add_sums-requires-clause-room : goal.add_sums-requires-clause-room
add_sums-requires-clause-room c =
    doubled c.loop-pivot.pivot-index c.args.bits c.loop-pivot.filled _ c.loop-pivot.invariant.filled c.loop-pivot.invariant.room (omega arith)

pub loop-pivot-preserved : goal.loop-pivot-preserved
loop-pivot-preserved c =
    let j = c.loop-pivot.pivot-index in
    let f = c.loop-pivot.invariant.filled in
    record {
      filled = ap (λ x. x * 2) f ∙ sym (pow-suc 2 j) ∙ ap (λ k. 2 ^ k) (omega arith);
      room = c.add_sums.ensures.room ∙ c.loop-pivot.invariant.room;
      sums = HoldsSums-more c.args.cols j c.args.block.now c.loop-pivot.table c.add_sums.new.table c.pivot-item.result c.requires.block (omega arith) (get_or_read c.args.block.now j c.pivot-item.result (omega arith) c.pivot-item.is []) c.loop-pivot.invariant.sums c.add_sums.ensures.widths
          (subst (λ m. (t : ℕ) → t < m → row c.add_sums.new.table t ≡ row c.loop-pivot.table t) f c.add_sums.ensures.kept)
          (subst (λ m. (t : ℕ) → t < m → row c.add_sums.new.table (m + t) ≡ sum_of (row c.loop-pivot.table t) c.pivot-item.result) f c.add_sums.ensures.sums);
    }

pub returns-clause-room : goal.returns-clause-room
returns-clause-room c = record {
  widths = c.loop-pivot.invariant.sums.widths;
  size = c.loop-pivot.invariant.room;
  first = zero_sum c.args.cols _ c.loop-pivot.table c.loop-pivot.invariant.sums;
}
