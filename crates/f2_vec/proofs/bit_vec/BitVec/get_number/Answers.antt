use Rattle.std.specs.Int.Bits.{bit_and}
use Rattle.std.specs.Prelude.{◌==◌}
use Rattle.std.proofs.Common.{◌≡◌, ◌<◌, ◌/◌, ◌%◌, ◌^◌, ℕ, suc, zero, Bool, cond, length, ap, sym, ◌∙◌, arith, subst}
use Rattle.std.proofs.lemmas.Nat.Bits.{shr_and_one, bit_at-lt}
use Rattle.f2_vec.specs.Vectors.{bit}
use Rattle.f2_vec.proofs.Packed.{length-unit_bits, bit-unit_bits, unit_bit-read}
use Rattle.f2_vec.proofs.bit_vec.BitVec.get_number.Goals as goal

-- a number below 2, and the test of it
of_test : (x : ℕ) (b : Bool) → x < 2 → (x == 1) ≡ b → x ≡ cond b 1 0
of_test zero b h e = ap (λ t. cond t 1 0) e
of_test (suc zero) b h e = ap (λ t. cond t 1 0) e
of_test (suc (suc x)) b h e = absurd (omega arith)

pub index-requires : goal.index-requires
index-requires c =
    let e = ap length c.self.view_is in
    omega (arith, c.self.invariant.enough, length-unit_bits 64 c.self.inside.len c.self.inside.words.items, c.self.inside.words.ok.0)

pub returns : goal.returns
returns c =
    let us = c.self.inside.words.items in
    let i = c.args.i in
    let w = c.index.result.now in
    let e = ap length c.self.view_is in
    let h : i / 64 < length us = omega (arith, c.self.invariant.enough, length-unit_bits 64 c.self.inside.len us) in
    let small : bit_and (w / 2 ^ (i % 64)) 1 < 2 = subst (λ x. x < 2) (sym (shr_and_one w (i % 64))) (bit_at-lt w (i % 64)) in
    of_test (bit_and (w / 2 ^ (i % 64)) 1) (bit c.args.self.now i) small
    (unit_bit-read us i w h c.index.ensures ∙ sym (bit-unit_bits 64 c.self.inside.len us i c.self.invariant) ∙ ap (λ v. bit v i) c.self.view_is)
