use Rattle.std.specs.Int.{trailing_zeros, w64}
use Rattle.std.proofs.Common.{◌≡◌, ◌<◌, ◌≤◌, ◌*◌, ◌+◌, ◌^◌, ℕ, Bool, List, false, length, refl, ap, sym, ◌∙◌, arith, subst}
use Rattle.std.proofs.lemmas.Bool.{false≢true}
use Rattle.f2_vec.specs.Vectors.{IsNextOne}
use Rattle.f2_vec.specs.Inside.Packed.{HasRoom, unit_bit, unit_bits}
use Rattle.f2_vec.proofs.Packed.{length-unit_bits}
use Rattle.f2_vec.proofs.Next.{IsWordWithout, IsNextBit, next_here, none_here, next_of, none_of}
use Rattle.f2_vec.proofs.bit_vec.BitVec.next_one.Goals as goal

-- the words as passed are those of the vector
room_of : (n : ℕ) (us ws : List ℕ) → ws ≡ us → HasRoom 64 n us → HasRoom 64 n ws
room_of n us ws e r = subst (λ x. HasRoom 64 n x) (sym e) r

view_of : (n : ℕ) (us ws : List ℕ) (v : List Bool) → ws ≡ us → unit_bits 64 n us ≡ v → unit_bits 64 n ws ≡ v
view_of n us ws v e f = ap (unit_bits 64 n) e ∙ f

pub loop-i-preserved : goal.loop-i-preserved
loop-i-preserved c =
    none_here c.as_slice-words.result.now c.loop-i.i c.args.from c.word_without-word.result (record { before = c.word_without-word.ensures.before; others = c.word_without-word.ensures.others }) c.if-word-ne0.false c.loop-i.invariant

pub returns-clause-none : goal.returns-clause-none
returns-clause-none c =
    let n = c.self.inside.len in
    let us = c.self.inside.words.items in
    let ws = c.as_slice-words.result.now in
    let e = c.as_slice-words.ensures.value in (
      λ _. none_of n c.loop-i.i ws c.args.self.now c.args.from (room_of n us ws e c.self.invariant) (view_of n us ws c.args.self.now e c.self.view_is) (omega arith) c.loop-i.invariant,
      λ _. refl,
    )

module _ (n : ℕ) (us ws : List ℕ) (v : List Bool) (i from x : ℕ) (e : ws ≡ us) (r : HasRoom 64 n us) (f : unit_bits 64 n us ≡ v) (w : IsWordWithout ws i from x) (d : x ≡ 0 → ⊥) (fits : x < 2 ^ 64) (before : (k : ℕ) → from ≤ k → k < 64 * i → unit_bit 64 ws k ≡ false) where
  next : IsNextBit n ws from (64 * i + trailing_zeros w64 x)
  next = next_here n ws i from x (room_of n us ws e r) w d fits before

  next_place : IsNextOne v from (64 * i + trailing_zeros w64 x)
  next_place = next_of n ws v from (64 * i + trailing_zeros w64 x) (room_of n us ws e r) (view_of n us ws v e f) next

pub overflow_mul-result : goal.overflow_mul-result
overflow_mul-result c =
    let g = next c.self.inside.len c.self.inside.words.items c.as_slice-words.result.now c.args.self.now c.loop-i.i c.args.from c.word_without-word.result c.as_slice-words.ensures.value c.self.invariant c.self.view_is (record { before = c.word_without-word.ensures.before; others = c.word_without-word.ensures.others }) c.if-word-ne0.true (omega arith) c.loop-i.invariant in
    let w = g.within in omega arith

pub overflow_add-result : goal.overflow_add-result
overflow_add-result c =
    let g = next c.self.inside.len c.self.inside.words.items c.as_slice-words.result.now c.args.self.now c.loop-i.i c.args.from c.word_without-word.result c.as_slice-words.ensures.value c.self.invariant c.self.view_is (record { before = c.word_without-word.ensures.before; others = c.word_without-word.ensures.others }) c.if-word-ne0.true (omega arith) c.loop-i.invariant in
    let w = g.within in omega arith

pub returns-then-word-ne0-clause-next : goal.returns-then-word-ne0-clause-next
returns-then-word-ne0-clause-next c =
    next_place c.self.inside.len c.self.inside.words.items c.as_slice-words.result.now c.args.self.now c.loop-i.i c.args.from c.word_without-word.result c.as_slice-words.ensures.value c.self.invariant c.self.view_is (record { before = c.word_without-word.ensures.before; others = c.word_without-word.ensures.others }) c.if-word-ne0.true (omega arith) c.loop-i.invariant

pub returns-then-word-ne0-clause-none : goal.returns-then-word-ne0-clause-none
returns-then-word-ne0-clause-none c =
    let f = next_place c.self.inside.len c.self.inside.words.items c.as_slice-words.result.now c.args.self.now c.loop-i.i c.args.from c.word_without-word.result c.as_slice-words.ensures.value c.self.invariant c.self.view_is (record { before = c.word_without-word.ensures.before; others = c.word_without-word.ensures.others }) c.if-word-ne0.true (omega arith) c.loop-i.invariant in
    (λ t. absurd (false≢true (sym t)), λ z. absurd (false≢true (sym (z _ (f.reached)) ∙ f.one)))

pub returns-then-word-ne0-clause-within : goal.returns-then-word-ne0-clause-within
returns-then-word-ne0-clause-within c =
    let g = next c.self.inside.len c.self.inside.words.items c.as_slice-words.result.now c.args.self.now c.loop-i.i c.args.from c.word_without-word.result c.as_slice-words.ensures.value c.self.invariant c.self.view_is (record { before = c.word_without-word.ensures.before; others = c.word_without-word.ensures.others }) c.if-word-ne0.true (omega arith) c.loop-i.invariant in
    let w = g.within in let l = ap length c.self.view_is in omega (arith, length-unit_bits 64 c.self.inside.len c.self.inside.words.items)
