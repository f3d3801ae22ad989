-- What a choice gives: each candidate is in the span of old and chosen, and no sum of chosen rows but the empty one is in the
-- span of old.
use Rattle.std.proofs.Common.{◌≡◌, ◌↔◌, inl, inr, ℕ, zero, suc, ◌+◌, ◌-◌, ◌<◌, Bool, true, false, List, [], ◌∷◌, ◌++◌, length, take, drop, refl, sym, ◌∙◌, ap, subst, arith}
use Rattle.std.specs.List.{items_where_true}
use Rattle.std.proofs.lemmas.List.{append-nil, append_assoc, get_or_append_left, get_or-append_right, get_or-append-add, length-append, length-take-le, length-drop, take-append-drop}
use Rattle.std.proofs.lemmas.Bool.{cases_lt, true≢false}
use Rattle.f2_vec.specs.Vectors.{bit, sum_of, zeros}
use Rattle.f2_vec.specs.Spans.{row, HaveWidth, combination, IsInSpan, IsInKernel}
use Rattle.f2_vec.proofs.Sums.{length-zeros, sum_of-cancel, sum_of-zeros_right}
use Rattle.f2_vec.proofs.Spans.{HaveWidth-append, HaveWidth-items_where_true, HaveWidth-head, HaveWidth-tail, length-combination, combination-zeros, combination-append, zeros-IsInSpan, sum-IsInSpan, row-IsInSpan, span_within}
use Rattle.resolution_laws.specs.Resolution.{IsChosen}
use Rattle.f2_matrix.proofs.Choice.{HaveWidth-push, IsInSpan-push, last-IsInSpan, each_row_push}
use Rattle.resolution_laws.proofs.NewGenerators.{HaveWidth-IsChosen}

-- the rows of two lists are in the span of both
pub left-IsInSpan : (n : ℕ) (xs ys : List (List Bool)) → HaveWidth n (xs ++ ys) → (i : ℕ) → i < length xs → IsInSpan n (xs ++ ys) (row xs i)
left-IsInSpan n xs ys w i l = subst (IsInSpan n (xs ++ ys)) (get_or_append_left xs ys [] i l) (row-IsInSpan n (xs ++ ys) i w (omega (arith, length-append xs ys)))

right-IsInSpan : (n : ℕ) (xs ys : List (List Bool)) → HaveWidth n (xs ++ ys) → (i : ℕ) → i < length ys → IsInSpan n (xs ++ ys) (row ys i)
right-IsInSpan n xs ys w i l = subst (IsInSpan n (xs ++ ys)) (get_or-append-add xs ys i []) (row-IsInSpan n (xs ++ ys) (length xs + i) w (omega (arith, length-append xs ys)))

-- what holds of each row of two lists holds of each row of both together
each_row-append : (P : List Bool → Type 0) (xs ys : List (List Bool)) → ((i : ℕ) → i < length xs → P (row xs i)) → ((i : ℕ) → i < length ys → P (row ys i)) → (i : ℕ) → i < length (xs ++ ys) → P (row (xs ++ ys) i)
each_row-append P xs ys h g i l =
    let whole = length-append xs ys in
    elim (cases_lt i (length xs)) [
      | inl b ↦ subst P (sym (get_or_append_left xs ys [] i b)) (h i b)
      | inr b ↦ subst P (sym (get_or-append_right xs ys (length xs) i [] refl b)) (g (i - length xs) (omega arith))
    ]

-- A candidate is not kept where it lies in the span of old and those before it. Then so it is for the candidates but the
-- first, over old with that first one.
abbrev AreDropped : ℕ → List (List Bool) → List Bool → List (List Bool) → Type 0
AreDropped n old kept candidates = (i : ℕ) → i < length candidates → (bit kept i ≡ false) ↔ IsInSpan n (old ++ take i candidates) (row candidates i)

AreDropped-tail : (n : ℕ) (old : List (List Bool)) (k : Bool) (kept : List Bool) (x : List Bool) (candidates : List (List Bool)) → AreDropped n old (k ∷ kept) (x ∷ candidates) → AreDropped n (old ++ x ∷ []) kept candidates
AreDropped-tail n old k kept x candidates d i l =
    let P : List (List Bool) → Type 0 = λ z. (bit kept i ≡ false) ↔ IsInSpan n z (row candidates i) in
    subst P (sym (append_assoc old (x ∷ []) (take i candidates))) (d (suc i) (omega arith))

AreDropped-head : (n : ℕ) (old : List (List Bool)) (k : Bool) (kept : List Bool) (x : List Bool) (candidates : List (List Bool)) → AreDropped n old (k ∷ kept) (x ∷ candidates) → (k ≡ false) ↔ IsInSpan n old x
AreDropped-head n old k kept x candidates d =
    let P : List (List Bool) → Type 0 = λ z. (k ≡ false) ↔ IsInSpan n z x in
    subst P (append-nil old) (d 0 (omega arith))

-- a row in the span of xs adds nothing to it, with any further rows
without_row : (n : ℕ) (xs ys : List (List Bool)) (x v : List Bool) → HaveWidth n xs → HaveWidth n ys → IsInSpan n xs x → IsInSpan n ((xs ++ x ∷ []) ++ ys) v → IsInSpan n (xs ++ ys) v
without_row n xs ys x v wx wy s h =
    let w : HaveWidth n (xs ++ ys) = HaveWidth-append n xs ys wx wy in
    let more : IsInSpan n (xs ++ ys) x = span_within n xs (xs ++ ys) w (left-IsInSpan n xs ys w) x s in
    span_within n ((xs ++ x ∷ []) ++ ys) (xs ++ ys) w (each_row-append (IsInSpan n (xs ++ ys)) (xs ++ x ∷ []) ys (each_row_push (IsInSpan n (xs ++ ys)) xs x (left-IsInSpan n xs ys w) more) (right-IsInSpan n xs ys w)) v h

covered : (n : ℕ) (old : List (List Bool)) (kept : List Bool) (candidates : List (List Bool)) → HaveWidth n old → HaveWidth n candidates → length kept ≡ length candidates → AreDropped n old kept candidates → (i : ℕ) → i < length candidates → IsInSpan n (old ++ items_where_true kept candidates) (row candidates i)
covered n old [] [] wo wc e d i l = absurd (omega arith)
covered n old [] (x ∷ candidates) wo wc e d i l = absurd (omega arith)
covered n old (k ∷ kept) [] wo wc e d i l = absurd (omega arith)
covered n old (true ∷ kept) (x ∷ candidates) wo wc e d zero l =
    let c = items_where_true kept candidates in
    let w : HaveWidth n (x ∷ c) = HaveWidth-items_where_true n (true ∷ kept) (x ∷ candidates) wc in
    right-IsInSpan n old (x ∷ c) (HaveWidth-append n old (x ∷ c) wo w) 0 (omega arith)
covered n old (true ∷ kept) (x ∷ candidates) wo wc e d (suc i) l =
    let wx = HaveWidth-push n old x wo (HaveWidth-head n x candidates wc) in
    let ih = covered n (old ++ x ∷ []) kept candidates wx (HaveWidth-tail n x candidates wc) (omega arith) (AreDropped-tail n old true kept x candidates d) i (omega arith) in
    subst (λ (z : List (List Bool)). IsInSpan n z (row candidates i)) (append_assoc old (x ∷ []) (items_where_true kept candidates)) ih
covered n old (false ∷ kept) (x ∷ candidates) wo wc e d zero l =
    let c = items_where_true kept candidates in
    let w : HaveWidth n (old ++ c) = HaveWidth-append n old c wo (HaveWidth-items_where_true n kept candidates (HaveWidth-tail n x candidates wc)) in
    span_within n old (old ++ c) w (left-IsInSpan n old c w) x ((AreDropped-head n old false kept x candidates d).0 refl)
covered n old (false ∷ kept) (x ∷ candidates) wo wc e d (suc i) l =
    let wx = HaveWidth-push n old x wo (HaveWidth-head n x candidates wc) in
    let rest = HaveWidth-tail n x candidates wc in
    let ih = covered n (old ++ x ∷ []) kept candidates wx rest (omega arith) (AreDropped-tail n old false kept x candidates d) i (omega arith) in
    without_row n old (items_where_true kept candidates) x (row candidates i) wo (HaveWidth-items_where_true n kept candidates rest) ((AreDropped-head n old false kept x candidates d).0 refl) ih

apart : (n : ℕ) (old : List (List Bool)) (kept : List Bool) (candidates : List (List Bool)) → HaveWidth n old → HaveWidth n candidates → length kept ≡ length candidates → AreDropped n old kept candidates → (c : List Bool) → length c ≡ length (items_where_true kept candidates) → IsInSpan n old (combination n c (items_where_true kept candidates)) → c ≡ zeros (length (items_where_true kept candidates))
apart n old [] [] wo wc e d [] f s = refl
apart n old [] [] wo wc e d (b ∷ c) f s = absurd (omega arith)
apart n old [] (x ∷ candidates) wo wc e d c f s = absurd (omega arith)
apart n old (k ∷ kept) [] wo wc e d c f s = absurd (omega arith)
apart n old (false ∷ kept) (x ∷ candidates) wo wc e d c f s =
    let h = HaveWidth-head n x candidates wc in
    apart n (old ++ x ∷ []) kept candidates (HaveWidth-push n old x wo h) (HaveWidth-tail n x candidates wc) (omega arith) (AreDropped-tail n old false kept x candidates d) c f (IsInSpan-push n old x _ wo h s)
apart n old (true ∷ kept) (x ∷ candidates) wo wc e d [] f s = absurd (omega arith)
apart n old (true ∷ kept) (x ∷ candidates) wo wc e d (false ∷ c) f s =
    let h = HaveWidth-head n x candidates wc in
    let ih = apart n (old ++ x ∷ []) kept candidates (HaveWidth-push n old x wo h) (HaveWidth-tail n x candidates wc) (omega arith) (AreDropped-tail n old true kept x candidates d) c (omega arith) (IsInSpan-push n old x _ wo h s) in
    ap (λ (z : List Bool). false ∷ z) ih
apart n old (true ∷ kept) (x ∷ candidates) wo wc e d (true ∷ c) f s =
    let h = HaveWidth-head n x candidates wc in
    let rest = HaveWidth-tail n x candidates wc in
    let wx = HaveWidth-push n old x wo h in
    let chosen = items_where_true kept candidates in
    let y = combination n c chosen in
    let back : sum_of x (sum_of x y) ≡ y = sum_of-cancel n x y h (length-combination n c chosen (HaveWidth-items_where_true n kept candidates rest)) in
    let within : IsInSpan n (old ++ x ∷ []) y = subst (IsInSpan n (old ++ x ∷ [])) back (sum-IsInSpan n (old ++ x ∷ []) x (sum_of x y) wx (last-IsInSpan n old x wo h) (IsInSpan-push n old x (sum_of x y) wo h s)) in
    let ih : c ≡ zeros (length chosen) = apart n (old ++ x ∷ []) kept candidates wx rest (omega arith) (AreDropped-tail n old true kept x candidates d) c (omega arith) within in
    let none : y ≡ zeros n = ap (λ (z : List Bool). combination n z chosen) ih ∙ combination-zeros n (length chosen) chosen in
    let alone : sum_of x y ≡ x = ap (sum_of x) none ∙ sum_of-zeros_right n x h in
    absurd (true≢false ((AreDropped-head n old true kept x candidates d).1 (subst (IsInSpan n old) alone s)))

pub candidate-IsInSpan : (n : ℕ) (old candidates chosen : List (List Bool)) → HaveWidth n old → HaveWidth n candidates → IsChosen n old candidates chosen → (i : ℕ) → i < length candidates → IsInSpan n (old ++ chosen) (row candidates i)
candidate-IsInSpan n old candidates chosen wo wc p i l =
    subst (λ (z : List (List Bool)). IsInSpan n (old ++ z) (row candidates i)) (sym p.chosen_are) (covered n old p.kept candidates wo wc p.one_each p.dropped i l)

-- a sum of chosen rows in the span of old has no term
pub chosen_apart : (n : ℕ) (old candidates chosen : List (List Bool)) → HaveWidth n old → HaveWidth n candidates → IsChosen n old candidates chosen → (c : List Bool) → length c ≡ length chosen → IsInSpan n old (combination n c chosen) → c ≡ zeros (length chosen)
chosen_apart n old candidates chosen wo wc p =
    let P : List (List Bool) → Type 0 = λ z. (c : List Bool) → length c ≡ length z → IsInSpan n old (combination n c z) → c ≡ zeros (length z) in
    subst P (sym p.chosen_are) (apart n old p.kept candidates wo wc p.one_each p.dropped)

-- a relation between old and chosen rows has no coefficient at a chosen row
pub relation_without_chosen : (n : ℕ) (old candidates chosen : List (List Bool)) → HaveWidth n old → HaveWidth n candidates → IsChosen n old candidates chosen → (c : List Bool) → IsInKernel n (old ++ chosen) c → drop (length old) c ≡ zeros (length chosen)
relation_without_chosen n old candidates chosen wo wc p c r =
    let wn : HaveWidth n chosen = HaveWidth-IsChosen n old candidates chosen wc p in
    let len : length c ≡ length old + length chosen = r.one_each ∙ length-append old chosen in
    let front = take (length old) c in
    let back = drop (length old) c in
    let lf : length front ≡ length old = length-take-le (length old) c (omega arith) in
    let lb : length back ≡ length chosen = omega (arith, length-drop (length old) c) in
    let a = combination n front old in
    let b = combination n back chosen in
    let two : combination n (front ++ back) (old ++ chosen) ≡ sum_of a b = combination-append n front back old chosen wo wn lf in
    let none : sum_of a b ≡ zeros n = sym two ∙ (ap (λ (z : List Bool). combination n z (old ++ chosen)) (take-append-drop (length old) c) ∙ r.vanishes) in
    let la : length a ≡ n = length-combination n front old wo in
    let same : a ≡ b = sym (sum_of-zeros_right n a la) ∙ (ap (sum_of a) (sym none) ∙ sum_of-cancel n a b la (length-combination n back chosen wn)) in
    chosen_apart n old candidates chosen wo wc p back lb (record { coefficients = front; one_each = lf; sum = same })

-- zero is not chosen
zero_not_chosen : (n : ℕ) (old candidates rest : List (List Bool)) (x : List Bool) → HaveWidth n old → HaveWidth n candidates → IsChosen n old candidates (x ∷ rest) → x ≡ zeros n → ⊥
zero_not_chosen n old candidates rest x wo wc p z =
    let none : combination n (true ∷ zeros (length rest)) (x ∷ rest) ≡ zeros n = ap (sum_of x) (combination-zeros n (length rest) rest) ∙ (ap (λ (y : List Bool). sum_of y (zeros n)) z ∙ sum_of-zeros_right n (zeros n) (length-zeros n)) in
    let within : IsInSpan n old (combination n (true ∷ zeros (length rest)) (x ∷ rest)) = subst (IsInSpan n old) (sym none) (zeros-IsInSpan n old wo) in
    let same : true ∷ zeros (length rest) ≡ false ∷ zeros (length rest) = chosen_apart n old candidates (x ∷ rest) wo wc p (true ∷ zeros (length rest)) (ap suc (length-zeros (length rest))) within in
    true≢false (ap (λ (y : List Bool). bit y 0) same)

-- where each chosen row is zero, none is
pub none_chosen : (n : ℕ) (old candidates chosen : List (List Bool)) → HaveWidth n old → HaveWidth n candidates → IsChosen n old candidates chosen → ((i : ℕ) → i < length chosen → row chosen i ≡ zeros n) → chosen ≡ []
none_chosen n old candidates [] wo wc p z = refl
none_chosen n old candidates (x ∷ rest) wo wc p z = absurd (zero_not_chosen n old candidates rest x wo wc p (z 0 (omega arith)))
