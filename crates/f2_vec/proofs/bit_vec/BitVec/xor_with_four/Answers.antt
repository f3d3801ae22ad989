use Rattle.std.proofs.Common.{◌≡◌, ℕ, ◌<◌, ◌≤◌, List, Bool, length, get_or, min, ap, sym, ◌∙◌, arith, subst}
use Rattle.std.proofs.lemmas.List.{with_items_is}
use Rattle.f2_vec.specs.Vectors.{IsWithinWords}
use Rattle.f2_vec.specs.Inside.Packed.{HasRoom, unit_bits}
use Rattle.f2_vec.proofs.Packed.{same_lengths, as_many_words}
use Rattle.f2_vec.proofs.Four.{xor_four, IsZeroOutside, IsZeroOutside-from, AreSumsOfFive, AreSumsOfFive-words, HasRoom-five, unit_bits-five}
use Rattle.f2_vec.proofs.bit_vec.BitVec.xor_with_four.Goals as goal

-- a vector of as many coordinates, from what is kept
room : (n m : ℕ) (us vs : List ℕ) (u v : List Bool) → unit_bits 64 n us ≡ u → unit_bits 64 m vs ≡ v → length v ≡ length u → HasRoom 64 m vs → HasRoom 64 n vs
room n m us vs u v e f h r = subst (λ j. HasRoom 64 j vs) (same_lengths n m us vs u v e f h) r

view : (n m : ℕ) (us vs : List ℕ) (u v : List Bool) → unit_bits 64 n us ≡ u → unit_bits 64 m vs ≡ v → length v ≡ length u → unit_bits 64 n vs ≡ v
view n m us vs u v e f h = ap (λ j. unit_bits 64 j vs) (sym (same_lengths n m us vs u v e f h)) ∙ f

-- the slices of words are as long
as_long : (n m : ℕ) (us vs x y : List ℕ) (u v : List Bool) → unit_bits 64 n us ≡ u → unit_bits 64 m vs ≡ v → length v ≡ length u → HasRoom 64 n us → HasRoom 64 m vs → x ≡ us → y ≡ vs → length y ≡ length x
as_long n m us vs x y u v e f h r s p q = ap length q ∙ as_many_words n vs us (room n m us vs u v e f h s) r ∙ sym (ap length p)

pub xor_four_words-requires-clause-first : goal.xor_four_words-requires-clause-first
xor_four_words-requires-clause-first c =
    as_long c.self.inside.len c.a.inside.len c.self.inside.words.items c.a.inside.words.items _ _ c.args.self.now c.args.a.now c.self.view_is c.a.view_is c.requires.first c.self.invariant c.a.invariant c.as_mut_slice.ensures.value c.as_slice.ensures.value

pub xor_four_words-requires-clause-second : goal.xor_four_words-requires-clause-second
xor_four_words-requires-clause-second c =
    as_long c.self.inside.len c.b.inside.len c.self.inside.words.items c.b.inside.words.items _ _ c.args.self.now c.args.b.now c.self.view_is c.b.view_is c.requires.second c.self.invariant c.b.invariant c.as_mut_slice.ensures.value c.as_slice-2.ensures.value

pub xor_four_words-requires-clause-third : goal.xor_four_words-requires-clause-third
xor_four_words-requires-clause-third c =
    as_long c.self.inside.len c.c.inside.len c.self.inside.words.items c.c.inside.words.items _ _ c.args.self.now c.args.c.now c.self.view_is c.c.view_is c.requires.third c.self.invariant c.c.invariant c.as_mut_slice.ensures.value c.as_slice-3.ensures.value

pub xor_four_words-requires-clause-fourth : goal.xor_four_words-requires-clause-fourth
xor_four_words-requires-clause-fourth c =
    as_long c.self.inside.len c.d.inside.len c.self.inside.words.items c.d.inside.words.items _ _ c.args.self.now c.args.d.now c.self.view_is c.d.view_is c.requires.fourth c.self.invariant c.d.invariant c.as_mut_slice.ensures.value c.as_slice-4.ensures.value

-- a vector is zero outside of the words that are summed
outside : (n m from to start end : ℕ) (us vs : List ℕ) (u v : List Bool) → unit_bits 64 n us ≡ u → unit_bits 64 m vs ≡ v → length v ≡ length u → HasRoom 64 n us → HasRoom 64 m vs → IsWithinWords from to v → end ≡ min to (length us) → start ≡ min from end → IsZeroOutside start end vs
outside n m from to start end us vs u v e f h r s within ends starts =
    let many : length vs ≡ length us = as_many_words n vs us (room n m us vs u v e f h s) r in
    IsZeroOutside-from m from to start end vs v s f within (omega (arith, starts)) (λ q past before. omega (arith, ends, many))

-- the sums, of the words as they are kept
sums : (us xs ys zs ts ws u x y z t : List ℕ) (start end : ℕ) → u ≡ us → x ≡ xs → y ≡ ys → z ≡ zs → t ≡ ts → length ws ≡ length u
    → ((k : ℕ) → start ≤ k → k < end → get_or ws k 0 ≡ xor_four (get_or u k 0) (get_or x k 0) (get_or y k 0) (get_or z k 0) (get_or t k 0))
    → ((k : ℕ) → k < start → get_or ws k 0 ≡ get_or u k 0) → ((k : ℕ) → end ≤ k → get_or ws k 0 ≡ get_or u k 0)
    → IsZeroOutside start end xs → IsZeroOutside start end ys → IsZeroOutside start end zs → IsZeroOutside start end ts → AreSumsOfFive us xs ys zs ts ws
sums us xs ys zs ts ws u x y z t start end eu ex ey ez et l h before behind px py pz pt =
    AreSumsOfFive-words us xs ys zs ts ws start end (l ∙ ap length eu) (λ k a b. h k a b ∙ cc (eu, ex, ey, ez, et)) (λ k a. before k a ∙ ap (λ v. get_or v k 0) eu) (λ k a. behind k a ∙ ap (λ v. get_or v k 0) eu) px py pz pt

pub invariant_of-self : goal.invariant_of-self
invariant_of-self c =
    let n = c.self.inside.len in
    let us = c.self.inside.words.items in
    let u = c.args.self.now in
    let ws = c.xor_four_words.new.words in
    let from = c.args.from in
    let to = c.args.to in
    let start = c.min-start.result in
    let end = c.min-end.result in
    let ends : end ≡ min to (length us) = omega (arith, c.min-end.ensures, c.len.ensures, c.self.inside.words.ok.0) in
    let e = c.xor_four_words.ensures in
    let s = sums us c.a.inside.words.items c.b.inside.words.items c.c.inside.words.items c.d.inside.words.items c.xor_four_words.new.words _ _ _ _ _ start end c.as_mut_slice.ensures.value c.as_slice.ensures.value c.as_slice-2.ensures.value c.as_slice-3.ensures.value c.as_slice-4.ensures.value e.length e.sums e.before e.behind
    (outside n c.a.inside.len from to start end us c.a.inside.words.items u c.args.a.now c.self.view_is c.a.view_is c.requires.first c.self.invariant c.a.invariant c.requires.first_within ends c.min-start.ensures)
    (outside n c.b.inside.len from to start end us c.b.inside.words.items u c.args.b.now c.self.view_is c.b.view_is c.requires.second c.self.invariant c.b.invariant c.requires.second_within ends c.min-start.ensures)
    (outside n c.c.inside.len from to start end us c.c.inside.words.items u c.args.c.now c.self.view_is c.c.view_is c.requires.third c.self.invariant c.c.invariant c.requires.third_within ends c.min-start.ensures)
    (outside n c.d.inside.len from to start end us c.d.inside.words.items u c.args.d.now c.self.view_is c.d.view_is c.requires.fourth c.self.invariant c.d.invariant c.requires.fourth_within ends c.min-start.ensures) in
    rw (with_items_is c.self.inside.words ws (s.as_many ∙ sym c.self.inside.words.ok.0))
    (HasRoom-five n us _ _ _ _ ws c.self.invariant
    (room n c.a.inside.len us c.a.inside.words.items u c.args.a.now c.self.view_is c.a.view_is c.requires.first c.a.invariant)
    (room n c.b.inside.len us c.b.inside.words.items u c.args.b.now c.self.view_is c.b.view_is c.requires.second c.b.invariant)
    (room n c.c.inside.len us c.c.inside.words.items u c.args.c.now c.self.view_is c.c.view_is c.requires.third c.c.invariant)
    (room n c.d.inside.len us c.d.inside.words.items u c.args.d.now c.self.view_is c.d.view_is c.requires.fourth c.d.invariant)
    s)

pub returns : goal.returns
returns c =
    let n = c.self.inside.len in
    let us = c.self.inside.words.items in
    let u = c.args.self.now in
    let ws = c.xor_four_words.new.words in
    let from = c.args.from in
    let to = c.args.to in
    let start = c.min-start.result in
    let end = c.min-end.result in
    let ends : end ≡ min to (length us) = omega (arith, c.min-end.ensures, c.len.ensures, c.self.inside.words.ok.0) in
    let e = c.xor_four_words.ensures in
    let s = sums us c.a.inside.words.items c.b.inside.words.items c.c.inside.words.items c.d.inside.words.items c.xor_four_words.new.words _ _ _ _ _ start end c.as_mut_slice.ensures.value c.as_slice.ensures.value c.as_slice-2.ensures.value c.as_slice-3.ensures.value c.as_slice-4.ensures.value e.length e.sums e.before e.behind
    (outside n c.a.inside.len from to start end us c.a.inside.words.items u c.args.a.now c.self.view_is c.a.view_is c.requires.first c.self.invariant c.a.invariant c.requires.first_within ends c.min-start.ensures)
    (outside n c.b.inside.len from to start end us c.b.inside.words.items u c.args.b.now c.self.view_is c.b.view_is c.requires.second c.self.invariant c.b.invariant c.requires.second_within ends c.min-start.ensures)
    (outside n c.c.inside.len from to start end us c.c.inside.words.items u c.args.c.now c.self.view_is c.c.view_is c.requires.third c.self.invariant c.c.invariant c.requires.third_within ends c.min-start.ensures)
    (outside n c.d.inside.len from to start end us c.d.inside.words.items u c.args.d.now c.self.view_is c.d.view_is c.requires.fourth c.self.invariant c.d.invariant c.requires.fourth_within ends c.min-start.ensures) in
    ap (unit_bits 64 n) (with_items_is c.self.inside.words ws (s.as_many ∙ sym c.self.inside.words.ok.0))
    ∙ unit_bits-five n us _ _ _ _ ws s
    ∙ cc (
      c.self.view_is,
      view n c.a.inside.len us c.a.inside.words.items u c.args.a.now c.self.view_is c.a.view_is c.requires.first,
      view n c.b.inside.len us c.b.inside.words.items u c.args.b.now c.self.view_is c.b.view_is c.requires.second,
      view n c.c.inside.len us c.c.inside.words.items u c.args.c.now c.self.view_is c.c.view_is c.requires.third,
      view n c.d.inside.len us c.d.inside.words.items u c.args.d.now c.self.view_is c.d.view_is c.requires.fourth,
    )
