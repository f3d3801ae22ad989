use Rattle.std.specs.Int.{div_ceil}
use Rattle.std.proofs.Common.{◌≡◌, ℕ, ◌+◌, List, ◌++◌, length, replicate, take, ap, sym, ◌∙◌, arith}
use Rattle.f2_vec.specs.Vectors.{zeros}
use Rattle.f2_vec.specs.Inside.Packed.{HasRoom, unit_bits}
use Rattle.f2_vec.proofs.Packed.{length-unit_bits, length_of_bits}
use Rattle.f2_vec.proofs.Appended.{HasZerosBehind-resized, HasRoom-behind, unit_bits-behind, sum_behind}
use Rattle.f2_vec.proofs.bit_vec.BitVec.append.Goals as goal

-- the words are longer, and hold n coordinates and m zeros
record IsMadeLonger (n m : ℕ) (us ws : List ℕ) : Type 0 where
  room : HasRoom 64 (n + m) ws
  bits : unit_bits 64 (n + m) ws ≡ unit_bits 64 n us ++ zeros m

resized : (n m k z longer : ℕ) (us ws : List ℕ) → HasRoom 64 n us → longer ≡ n + m → k ≡ div_ceil longer 64 → length ws ≡ k → ws ≡ take k us ++ replicate {A = ℕ} z 0 → IsMadeLonger n m us ws
resized n m k z longer us ws r l e w f =
    let behind = HasZerosBehind-resized us ws k z (omega (arith, r.tight)) f in
    record {
      room = HasRoom-behind n m us ws r (w ∙ e ∙ ap (λ j. div_ceil j 64) l) behind;
      bits = unit_bits-behind n m us ws r behind;
    }

pub invariant_of-self-2 : goal.invariant_of-self-2
invariant_of-self-2 c =
    let n = c.self.inside.len in
    let m = c.other.inside.len in
    let ws = c.resize.new.self.items in
    let g = resized n m c.div_ceil.result _ c.in-Some.longer c.self.inside.words.items ws c.self.invariant c.in-Some.ensures.1 c.div_ceil.ensures (sym c.resize.new.self.ok.0 ∙ c.in_ok-resize.ensures.len) c.in_ok-resize.ensures.items in
    rw c.in-Some.ensures.1 g.room

pub xor_at-requires : goal.xor_at-requires
xor_at-requires c =
    let lv = length_of_bits c.other.inside.len c.other.inside.words.items c.args.other.now c.other.view_is in
    omega (arith, lv, c.in-Some.ensures.1, length-unit_bits 64 c.in-Some.longer c.resize.new.self.items)

pub returns-clause-ok : goal.returns-clause-ok
returns-clause-ok c =
    let n = c.self.inside.len in
    let m = c.other.inside.len in
    let us = c.self.inside.words.items in
    let ws = c.resize.new.self.items in
    let g = resized n m c.div_ceil.result _ c.in-Some.longer us ws c.self.invariant c.in-Some.ensures.1 c.div_ceil.ensures (sym c.resize.new.self.ok.0 ∙ c.in_ok-resize.ensures.len) c.in_ok-resize.ensures.items in
    c.xor_at.ensures
    ∙ sum_behind c.args.self.now c.args.other.now (unit_bits 64 c.in-Some.longer ws) n m (length_of_bits n us c.args.self.now c.self.view_is) (length_of_bits m c.other.inside.words.items c.args.other.now c.other.view_is)
    (ap (λ k. unit_bits 64 k ws) c.in-Some.ensures.1 ∙ g.bits ∙ ap (λ x. x ++ zeros m) c.self.view_is)
