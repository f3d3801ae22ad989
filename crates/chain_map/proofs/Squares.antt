-- A list of values, cut into squares at the places where these begin, and squares that grow.
use Rattle.std.proofs.Common.{◌≡◌, inl, inr, ℕ, zero, suc, ◌+◌, ◌-◌, ◌<◌, ◌≤◌, Bool, List, [], ◌∷◌, ◌++◌, length, map, take, drop, get_or, refl, ap, sym, subst, ◌∙◌, arith}
use Rattle.std.proofs.lemmas.Bool.{cases_lt}
use Rattle.std.proofs.lemmas.List.{append-nil, append_assoc, drop-append-le, drop_all, get_or_past, length-append, length-drop, length-take-le, length_push, nil_from_length, take-append-drop, take-append-le, take_all}
use Rattle.std.proofs.lemmas.List.Concat.{get_or-flat_map}
use Rattle.std.proofs.lemmas.List.Folds.{length-flat_map-take}
use Rattle.f2_vec.specs.Spans.{row}
use Rattle.chain_map.specs.Lifting.{joined, square_values}
use Rattle.chain_map.specs.Inside.{with_value, by_square, AreInOrder}

-- ---- the list is the squares joined

joined-from : (at : ℕ) (firsts : List ℕ) (vectors : List (List Bool)) → joined (by_square (at ∷ firsts) vectors) ≡ vectors
joined-from at [] vectors = append-nil vectors
joined-from at (next ∷ firsts) vectors = ap (λ (z : List (List Bool)). take (next - at) vectors ++ z) (joined-from next firsts (drop (next - at) vectors)) ∙ take-append-drop (next - at) vectors

pub joined-by_square : (firsts : List ℕ) (vectors : List (List Bool)) → AreInOrder firsts (length vectors) → joined (by_square firsts vectors) ≡ vectors
joined-by_square [] vectors none = sym (nil_from_length vectors none)
joined-by_square (first ∷ firsts) vectors order = joined-from first firsts vectors

-- ---- a square more

end-from : (at : ℕ) (firsts : List ℕ) (n : ℕ) → AreInOrder (at ∷ firsts) n → at ≤ n
end-from at [] n h = h
end-from at (next ∷ firsts) n h = let rest = end-from next firsts n h.1 in let here = h.0 in omega arith

begun-from : (at : ℕ) (firsts : List ℕ) (n : ℕ) (vectors : List (List Bool)) → AreInOrder (at ∷ firsts) n → n ≡ at + length vectors → by_square (at ∷ (firsts ++ n ∷ [])) vectors ≡ by_square (at ∷ firsts) vectors ++ [] ∷ []
begun-from at [] n vectors h e =
    ap (λ (z : List (List Bool)). z ∷ drop (n - at) vectors ∷ []) (take_all (n - at) vectors (omega arith)) ∙ ap (λ (z : List (List Bool)). vectors ∷ z ∷ []) (drop_all (n - at) vectors (omega arith))
begun-from at (next ∷ firsts) n vectors h e =
    ap (λ (z : List (List (List Bool))). take (next - at) vectors ∷ z) (begun-from next firsts n (drop (next - at) vectors) h.1 (omega (arith, length-drop (next - at) vectors, end-from next firsts n h.1, h.0)))

pub by_square-begun : (firsts : List ℕ) (vectors : List (List Bool)) → get_or firsts 0 0 ≡ 0 → AreInOrder firsts (length vectors) → by_square (firsts ++ length vectors ∷ []) vectors ≡ by_square firsts vectors ++ [] ∷ []
by_square-begun [] vectors start none = ap (λ (z : List (List Bool)). z ∷ []) (nil_from_length vectors none)
by_square-begun (first ∷ firsts) vectors start order = begun-from first firsts (length vectors) vectors order (omega arith)

pub start-begun : (firsts : List ℕ) (n : ℕ) → get_or firsts 0 0 ≡ 0 → AreInOrder firsts n → get_or (firsts ++ n ∷ []) 0 0 ≡ 0
start-begun [] n start none = none
start-begun (first ∷ firsts) n start order = start

pub order-begun : (firsts : List ℕ) (n : ℕ) → AreInOrder firsts n → AreInOrder (firsts ++ n ∷ []) n
order-begun [] n none = omega arith
order-begun (first ∷ []) n order = (order, omega arith)
order-begun (first ∷ next ∷ firsts) n order = (order.0, order-begun (next ∷ firsts) n order.1)

-- ---- a value more

length-by_square : (firsts : List ℕ) (vectors : List (List Bool)) → length (by_square firsts vectors) ≡ length firsts
length-by_square [] vectors = refl
length-by_square (first ∷ []) vectors = refl
length-by_square (first ∷ next ∷ firsts) vectors = ap suc (length-by_square (next ∷ firsts) (drop (next - first) vectors))

with_value-more : (square : List (List Bool)) (squares : List (List (List Bool))) (value : List Bool) → 0 < length squares → with_value (square ∷ squares) value ≡ square ∷ with_value squares value
with_value-more square [] value some = absurd (omega arith)
with_value-more square (next ∷ squares) value some = refl

pushed-from : (at : ℕ) (firsts : List ℕ) (n : ℕ) (vectors : List (List Bool)) (value : List Bool) → AreInOrder (at ∷ firsts) n → n ≡ at + length vectors → by_square (at ∷ firsts) (vectors ++ value ∷ []) ≡ with_value (by_square (at ∷ firsts) vectors) value
pushed-from at [] n vectors value h e = refl
pushed-from at (next ∷ firsts) n vectors value h e =
    let end = end-from next firsts n h.1 in
    let rest = length-drop (next - at) vectors in
    let more = length-by_square (next ∷ firsts) (drop (next - at) vectors) in
    let before : take (next - at) (vectors ++ value ∷ []) ≡ take (next - at) vectors = take-append-le (next - at) vectors (value ∷ []) (omega arith) in
    let behind : drop (next - at) (vectors ++ value ∷ []) ≡ drop (next - at) vectors ++ value ∷ [] = drop-append-le (next - at) vectors (value ∷ []) (omega arith) in
    ap (λ (z : List (List Bool)). z ∷ by_square (next ∷ firsts) (drop (next - at) (vectors ++ value ∷ []))) before
    ∙ (ap (λ (z : List (List Bool)). take (next - at) vectors ∷ by_square (next ∷ firsts) z) behind
    ∙ (ap (λ (z : List (List (List Bool))). take (next - at) vectors ∷ z) (pushed-from next firsts n (drop (next - at) vectors) value h.1 (omega arith))
    ∙ sym (with_value-more (take (next - at) vectors) (by_square (next ∷ firsts) (drop (next - at) vectors)) value (omega arith))))

pub by_square-pushed : (firsts : List ℕ) (vectors : List (List Bool)) (value : List Bool) → get_or firsts 0 0 ≡ 0 → AreInOrder firsts (length vectors) → 0 < length (by_square firsts vectors) → by_square firsts (vectors ++ value ∷ []) ≡ with_value (by_square firsts vectors) value
by_square-pushed [] vectors value start none some = absurd (omega arith)
by_square-pushed (first ∷ firsts) vectors value start order some = pushed-from first firsts (length vectors) vectors value order (omega arith)

order-more : (firsts : List ℕ) (n : ℕ) → 0 < length firsts → AreInOrder firsts n → AreInOrder firsts (n + 1)
order-more [] n some none = absurd (omega arith)
order-more (first ∷ []) n some order = omega arith
order-more (first ∷ next ∷ firsts) n some order = (order.0, order-more (next ∷ firsts) n (omega arith) order.1)

pub order-pushed : (firsts : List ℕ) (vectors : List (List Bool)) (value : List Bool) → AreInOrder firsts (length vectors) → 0 < length (by_square firsts vectors) → AreInOrder firsts (length (vectors ++ value ∷ []))
order-pushed firsts vectors value order some =
    subst (AreInOrder firsts) (sym (length_push vectors value)) (order-more firsts (length vectors) (omega (arith, length-by_square firsts vectors)) order)

pub joined-pushed : (squares : List (List (List Bool))) (value : List Bool) → 0 < length squares → joined (with_value squares value) ≡ joined squares ++ value ∷ []
joined-pushed [] value some = absurd (omega arith)
joined-pushed (square ∷ []) value some = append-nil (square ++ value ∷ []) ∙ ap (λ (z : List (List Bool)). z ++ value ∷ []) (sym (append-nil square))
joined-pushed (square ∷ next ∷ squares) value some =
    ap (λ (z : List (List Bool)). square ++ z) (joined-pushed (next ∷ squares) value (omega arith)) ∙ sym (append_assoc square (joined (next ∷ squares)) (value ∷ []))

pub counts-pushed : (squares : List (List (List Bool))) (value : List Bool) (before : List ℕ) (h : ℕ) → map length squares ≡ before ++ h ∷ [] → map length (with_value squares value) ≡ before ++ (h + 1) ∷ []
counts-pushed [] value before h e = absurd (omega (arith, ap length e, length_push before h))
counts-pushed (square ∷ []) value [] h e =
    let one : length square ≡ h = ap (λ (z : List ℕ). get_or z 0 0) e in
    ap (λ (n : ℕ). n ∷ []) (length_push square value ∙ ap (λ (n : ℕ). n + 1) one)
counts-pushed (square ∷ []) value (b ∷ before) h e = absurd (omega (arith, ap length e, length_push before h))
counts-pushed (square ∷ next ∷ squares) value [] h e = absurd (omega (arith, ap length e))
counts-pushed (square ∷ next ∷ squares) value (b ∷ before) h e =
    let first : length square ≡ b = ap (λ (z : List ℕ). get_or z 0 0) e in
    let rest : map length (next ∷ squares) ≡ before ++ h ∷ [] = ap (λ (z : List ℕ). drop 1 z) e in
    ap (λ (n : ℕ). n ∷ map length (with_value (next ∷ squares) value)) first ∙ ap (λ (z : List ℕ). b ∷ z) (counts-pushed (next ∷ squares) value before h rest)

-- ---- number i of a square

first-from : (at : ℕ) (firsts : List ℕ) (n : ℕ) (vectors : List (List Bool)) (above : ℕ) → AreInOrder (at ∷ firsts) n → n ≡ at + length vectors → above ≤ length firsts → get_or (at ∷ firsts) above 0 ≡ at + length (joined (take above (by_square (at ∷ firsts) vectors)))
first-from at firsts n vectors zero h e l = omega arith
first-from at [] n vectors (suc above) h e l = absurd (omega arith)
first-from at (next ∷ firsts) n vectors (suc above) h e l =
    let end = end-from next firsts n h.1 in
    let rest = length-drop (next - at) vectors in
    let more = first-from next firsts n (drop (next - at) vectors) above h.1 (omega arith) (omega arith) in
    let len = length-take-le (next - at) vectors (omega arith) in
    omega (arith, length-append (take (next - at) vectors) (joined (take above (by_square (next ∷ firsts) (drop (next - at) vectors)))))

first-is : (firsts : List ℕ) (vectors : List (List Bool)) (above : ℕ) → get_or firsts 0 0 ≡ 0 → AreInOrder firsts (length vectors) → above < length firsts → get_or firsts above 0 ≡ length (joined (take above (by_square firsts vectors)))
first-is [] vectors above start order l = absurd (omega arith)
first-is (first ∷ firsts) vectors above start order l = omega (arith, first-from first firsts (length vectors) vectors above order (omega arith) (omega arith), start)

-- where it stands in the list
pub record IsStored (firsts : List ℕ) (vectors : List (List Bool)) (above i : ℕ) : Type 0 where
  pub square : above < length firsts
  pub there : get_or firsts above 0 + i < length vectors
  pub value : row vectors (get_or firsts above 0 + i) ≡ row (square_values (by_square firsts vectors) above) i

pub is_stored : (firsts : List ℕ) (vectors : List (List Bool)) (above i : ℕ) → get_or firsts 0 0 ≡ 0 → AreInOrder firsts (length vectors) → i < length (square_values (by_square firsts vectors) above) → IsStored firsts vectors above i
is_stored firsts vectors above i start order l =
    let squares = by_square firsts vectors in
    let count = length-by_square firsts vectors in
    elim (cases_lt above (length squares)) [
      | inl b ↦
          let first = first-is firsts vectors above start order (omega arith) in
          let whole = joined-by_square firsts vectors order in
          let most = length-flat_map-take (λ (z : List (List Bool)). z) squares above [] b in
          record {
            square = omega arith;
            there = omega (arith, ap length whole);
            value = ap (λ (z : List (List Bool)). row z (get_or firsts above 0 + i)) (sym whole) ∙ (ap (λ (n : ℕ). row (joined squares) (n + i)) first ∙ get_or-flat_map (λ (z : List (List Bool)). z) squares above i [] [] b l);
          }
      | inr b ↦ absurd (omega (arith, ap length (get_or_past squares above [] b)))
    ]
