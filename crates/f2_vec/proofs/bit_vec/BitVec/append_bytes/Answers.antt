use Rattle.std.specs.Int.{div_ceil}
use Rattle.std.proofs.Common.{◌≡◌, ℕ, ◌+◌, ◌-◌, ◌<◌, ◌^◌, List, [], ◌++◌, length, take, drop, replicate, slice_index_or, ap, sym, ◌∙◌, arith, subst, inl, inr}
use Rattle.std.proofs.lemmas.List.{with_items_is, take_all, take-append-le, append-nil, length-append, length-drop, length-take-le, get_or_past, get_or-append-add}
use Rattle.std.proofs.lemmas.Bool.{cases_lt}
use Rattle.std.proofs.Math.ListN.{drop_of_length-le}
use Rattle.f2_vec.specs.Bytes.{packed}
use Rattle.f2_vec.proofs.Spare.{packed_words, bits_of_written}
use Rattle.f2_vec.proofs.bit_vec.BitVec.append_bytes.Goals as goal

-- the old items made longer: items
lengthened : (at k z : ℕ) (old items : List ℕ) → length old ≡ at → items ≡ take (at + k) old ++ replicate {A = ℕ} z 0 → items ≡ old ++ replicate {A = ℕ} z 0
lengthened at k z old items l e = e ∙ ap (λ x. x ++ replicate {A = ℕ} z 0) (take_all (at + k) old (omega arith))

-- ys written behind the old items
written_behind : (at z : ℕ) (old items ys rest : List ℕ) → length old ≡ at → items ≡ old ++ replicate {A = ℕ} z 0 → rest ≡ [] → take at items ++ (ys ++ rest) ≡ old ++ ys
written_behind at z old items ys rest l e r =
    ap (λ x. take at x ++ (ys ++ rest)) e
    ∙ ap (λ x. x ++ (ys ++ rest)) (take-append-le at old (replicate {A = ℕ} z 0) (omega arith) ∙ take_all at old (omega arith))
    ∙ ap (λ x. old ++ (ys ++ x)) r
    ∙ ap (λ x. old ++ x) (append-nil ys)

-- what was written is bytes, since all items are
bytes_behind : (old ys all : List ℕ) → all ≡ old ++ ys → ((i d : ℕ) → i < length all → slice_index_or all i d < 2 ^ 8) → (i : ℕ) → slice_index_or ys i 0 < 2 ^ 8
bytes_behind old ys all e h i = elim (cases_lt i (length ys)) [
  | inl l ↦
      let read : slice_index_or all (length old + i) 0 ≡ slice_index_or ys i 0 = ap (λ x. slice_index_or x (length old + i) 0) e ∙ get_or-append-add old ys i 0 in
      let long : length all ≡ length old + length ys = ap length e ∙ length-append old ys in
      subst (λ x. x < 2 ^ 8) read (h (length old + i) 0 (omega (arith, long)))
  | inr g ↦ omega (arith, get_or_past ys i 0 g)
]

pub returns-clause-ok : goal.returns-clause-ok
returns-clause-ok c =
    let n = c.self.inside.len in
    let us = c.self.inside.words.items in
    let old = c.args.bytes.now.items in
    let at = c.len-at.result in
    let count = c.div_ceil.result in
    let items = c.deref_mut.result.now in
    let ys = c.write_bytes.new.bytes in
    let post = drop (length items - at) (drop at items) in
    let l : length old ≡ at = sym c.args.bytes.now.ok.0 ∙ sym c.len-at.ensures in
    let end : c.in-Some.end ≡ at + count = c.in-Some.ensures.1 in
    let long : length items ≡ at + count = c.deref_mut.ensures.len ∙ c.in_ok-resize.ensures.len ∙ end in
    let made : c.resize.new.self.items ≡ take c.in-Some.end old ++ replicate {A = ℕ} (c.in-Some.end - c.args.bytes.now.len) 0 = c.in_ok-resize.ensures.items in
    let e = lengthened at count (c.in-Some.end - c.args.bytes.now.len) old items l (c.deref_mut.ensures.value ∙ made ∙ ap (λ k. take k old ++ replicate {A = ℕ} (c.in-Some.end - c.args.bytes.now.len) 0) end) in
    let none : post ≡ [] = drop_of_length-le (drop at items) (omega (arith, length-drop at items)) in
    let written : take at items ++ (ys ++ post) ≡ old ++ ys = written_behind at (c.in-Some.end - c.args.bytes.now.len) old items ys post l e none in
    let short : length ys ≡ count = c.write_bytes.ensures.length ∙ length-take-le (length items - at) (drop at items) (omega (arith, length-drop at items)) ∙ omega (arith, long) in
    let all = with_items_is c.resize.new.self (take at items ++ (ys ++ post)) (ap length written ∙ length-append old ys ∙ omega (arith, l, short, c.in_ok-resize.ensures.len, end)) ∙ written in
    let below = bytes_behind old ys _ all c.type_inv.bytes in
    let eight : length ys ≡ div_ceil n 8 = short ∙ c.div_ceil.ensures in
    let bits = bits_of_written n us c.as_slice.result.now ys c.as_slice.ensures.value c.self.invariant (omega (arith, eight)) (λ k h. c.write_bytes.ensures.bits k (omega (arith, h, c.write_bytes.ensures.length))) in
    all ∙ ap (λ x. old ++ x) (sym (packed_words n ys us eight below c.self.invariant bits) ∙ ap packed c.self.view_is)
