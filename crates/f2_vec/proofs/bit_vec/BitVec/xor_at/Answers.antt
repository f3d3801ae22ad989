use Rattle.std.proofs.Common.{◌≡◌, ◌+◌, ◌≤◌, ◌<◌, ◌*◌, ℕ, List, Bool, length, ap, sym, ◌∙◌, arith, subst}
use Rattle.std.proofs.lemmas.List.{with_items_is}
use Rattle.f2_vec.specs.Vectors.{plus, sum_of, placed}
use Rattle.f2_vec.specs.Inside.Packed.{unit_bit, unit_bits, moved_bit}
use Rattle.f2_vec.proofs.Packed.{length-unit_bits}
use Rattle.f2_vec.proofs.Moved.{HasRoom-moved, unit_bits-moved}
use Rattle.f2_vec.proofs.bit_vec.BitVec.xor_at.Goals as goal

ends : (n o m : ℕ) (us vs : List ℕ) (u v : List Bool) → unit_bits 64 n us ≡ u → unit_bits 64 m vs ≡ v → o + length v ≤ length u → o + m ≤ n
ends n o m us vs u v e f h = let le = ap length e in let lf = ap length f in omega (arith, length-unit_bits 64 n us, length-unit_bits 64 m vs)

sums : (o : ℕ) (us vs x y ws : List ℕ) → x ≡ us → y ≡ vs → ((k : ℕ) → k < 64 * length x → unit_bit 64 ws k ≡ plus (unit_bit 64 x k) (moved_bit o y k)) → (k : ℕ) → k < 64 * length us → unit_bit 64 ws k ≡ plus (unit_bit 64 us k) (moved_bit o vs k)
sums o us vs x y ws e f h = subst (λ z. (k : ℕ) → k < 64 * length us → unit_bit 64 ws k ≡ plus (unit_bit 64 us k) (moved_bit o z k)) f (subst (λ z. (k : ℕ) → k < 64 * length z → unit_bit 64 ws k ≡ plus (unit_bit 64 z k) (moved_bit o y k)) e h)

pub invariant_of-self : goal.invariant_of-self
invariant_of-self c =
    let n = c.self.inside.len in
    let m = c.other.inside.len in
    let us = c.self.inside.words.items in
    let vs = c.other.inside.words.items in
    let ws = c.xor_moved.new.words in
    let w = ends n c.args.at m us vs c.args.self.now c.args.other.now c.self.view_is c.other.view_is c.requires in
    let l : length ws ≡ length us = c.xor_moved.ensures.length ∙ ap length c.as_mut_slice.ensures.value in
    rw (with_items_is c.self.inside.words ws (l ∙ sym c.self.inside.words.ok.0))
    (HasRoom-moved n c.args.at m us vs ws c.self.invariant c.other.invariant w l
    (sums c.args.at us vs _ _ ws c.as_mut_slice.ensures.value c.as_slice.ensures.value c.xor_moved.ensures.bits))

pub returns : goal.returns
returns c =
    let n = c.self.inside.len in
    let m = c.other.inside.len in
    let o = c.args.at in
    let us = c.self.inside.words.items in
    let vs = c.other.inside.words.items in
    let ws = c.xor_moved.new.words in
    let w = ends n o m us vs c.args.self.now c.args.other.now c.self.view_is c.other.view_is c.requires in
    let l : length ws ≡ length us = c.xor_moved.ensures.length ∙ ap length c.as_mut_slice.ensures.value in
    ap (unit_bits 64 n) (with_items_is c.self.inside.words ws (l ∙ sym c.self.inside.words.ok.0))
    ∙ unit_bits-moved n o m us vs ws c.self.invariant c.other.invariant w (sums o us vs _ _ ws c.as_mut_slice.ensures.value c.as_slice.ensures.value c.xor_moved.ensures.bits)
    ∙ ap (λ j. sum_of (unit_bits 64 n us) (placed j o (unit_bits 64 m vs))) (sym (length-unit_bits 64 n us))
    ∙ ap (λ u. sum_of u (placed (length u) o (unit_bits 64 m vs))) c.self.view_is
    ∙ ap (λ v. sum_of c.args.self.now (placed (length c.args.self.now) o v)) c.other.view_is
