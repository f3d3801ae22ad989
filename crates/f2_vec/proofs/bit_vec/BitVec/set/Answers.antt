use Rattle.std.specs.Int.{w64}
use Rattle.std.specs.Int.Bits.{bit_and, bit_or}
use Rattle.std.specs.Int.{bit_not}
use Rattle.std.specs.Prelude.{◌==◌}
use Rattle.std.proofs.Common.{◌≡◌, ◌<◌, ◌*◌, ◌/◌, ◌%◌, ◌^◌, ℕ, List, Bool, true, false, length, get_or, set, ap, sym, ◌∙◌, arith}
use Rattle.std.proofs.lemmas.Nat.Bits.{bit_at_set_same, bit_at_set_other, bit_at_clear_same, bit_at_clear_other}
use Rattle.f2_vec.specs.Inside.Packed.{unit_bits}
use Rattle.f2_vec.proofs.Packed.{length-unit_bits, HasBitSet, HasBitSet-word, HasRoom-set, unit_bits-set, place_of_word}
use Rattle.f2_vec.proofs.bit_vec.BitVec.set.Goals as goal

-- the place is within the bits
place : (n i : ℕ) (us : List ℕ) (v : List Bool) → unit_bits 64 n us ≡ v → i < length v → i < n
place n i us v e h = let l = ap length e in omega (arith, length-unit_bits 64 n us)

one_set : (us : List ℕ) (i x : ℕ) → i / 64 < length us → x ≡ get_or us (i / 64) x → HasBitSet us (set us (i / 64) (bit_or x (1 * 2 ^ (i % 64) % 2 ^ 64))) i true
one_set us i x w r =
    HasBitSet-word us i x (bit_or x (1 * 2 ^ (i % 64) % 2 ^ 64)) true w r (ap (λ y. y == 1) (bit_at_set_same w64 x (i % 64) (omega arith))) (λ j _ d. bit_at_set_other w64 x (i % 64) (omega arith) j d)

one_cleared : (us : List ℕ) (i x : ℕ) → i / 64 < length us → x ≡ get_or us (i / 64) x → HasBitSet us (set us (i / 64) (bit_and x (bit_not w64 (1 * 2 ^ (i % 64) % 2 ^ 64)))) i false
one_cleared us i x w r =
    HasBitSet-word us i x (bit_and x (bit_not w64 (1 * 2 ^ (i % 64) % 2 ^ 64))) false w r (ap (λ y. y == 1) (bit_at_clear_same w64 x (i % 64) (omega arith))) (λ j l d. bit_at_clear_other w64 x (i % 64) (omega arith) j l d)

pub index_mut-requires : goal.index_mut-requires
index_mut-requires c =
    let h = place c.self.inside.len c.args.i c.self.inside.words.items c.args.self.now c.self.view_is c.requires in
    let w = place_of_word c.self.inside.len c.args.i c.self.inside.words.items c.self.invariant h in
    omega (arith, c.self.inside.words.ok.0, w)

pub index_mut-requires-else-b : goal.index_mut-requires-else-b
index_mut-requires-else-b c =
    let h = place c.self.inside.len c.args.i c.self.inside.words.items c.args.self.now c.self.view_is c.requires in
    let w = place_of_word c.self.inside.len c.args.i c.self.inside.words.items c.self.invariant h in
    omega (arith, c.self.inside.words.ok.0, w)

pub invariant_of-self : goal.invariant_of-self
invariant_of-self c =
    let n = c.self.inside.len in
    let us = c.self.inside.words.items in
    let h = place n c.args.i us c.args.self.now c.self.view_is c.requires in
    let w = place_of_word n c.args.i us c.self.invariant h in
    HasRoom-set n us _ c.args.i true c.self.invariant h (one_set us c.args.i c.index_mut.result.now w c.index_mut.ensures.value)

pub invariant_of-self-else-b : goal.invariant_of-self-else-b
invariant_of-self-else-b c =
    let n = c.self.inside.len in
    let us = c.self.inside.words.items in
    let h = place n c.args.i us c.args.self.now c.self.view_is c.requires in
    let w = place_of_word n c.args.i us c.self.invariant h in
    HasRoom-set n us _ c.args.i false c.self.invariant h (one_cleared us c.args.i c.index_mut-else-b.result.now w c.index_mut-else-b.ensures.value)

pub returns-then-b : goal.returns-then-b
returns-then-b c =
    let n = c.self.inside.len in
    let us = c.self.inside.words.items in
    let i = c.args.i in
    let h = place n c.args.i us c.args.self.now c.self.view_is c.requires in
    let w = place_of_word n c.args.i us c.self.invariant h in
    unit_bits-set n us _ i true h (one_set us i c.index_mut.result.now w c.index_mut.ensures.value) ∙ ap (λ v. set v i true) c.self.view_is ∙ ap (set c.args.self.now i) (sym c.if-b.true)

pub returns-else-b : goal.returns-else-b
returns-else-b c =
    let n = c.self.inside.len in
    let us = c.self.inside.words.items in
    let i = c.args.i in
    let h = place n c.args.i us c.args.self.now c.self.view_is c.requires in
    let w = place_of_word n c.args.i us c.self.invariant h in
    unit_bits-set n us _ i false h (one_cleared us i c.index_mut-else-b.result.now w c.index_mut-else-b.ensures.value) ∙ ap (λ v. set v i false) c.self.view_is ∙ ap (set c.args.self.now i) (sym c.if-b.false)
