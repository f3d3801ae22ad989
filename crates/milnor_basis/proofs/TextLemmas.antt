-- The text of a basis element, one exponent more at a time.
use Rattle.std.proofs.Common.{◌≡◌, ℕ, ◌+◌, ◌<◌, List, [], ◌∷◌, ◌++◌, length, map, take, refl, ap, sym, ◌∙◌, arith, append_assoc}
use Rattle.std.specs.Prelude.{codes, decimal}
use Rattle.std.specs.List.{join_with_byte}
use Rattle.std.proofs.lemmas.List.{map_more, length-map, length-take-le}
use Rattle.milnor_basis.specs.Exponents.{entry}
use Rattle.milnor_basis.specs.Text.{comma}

-- what is written of R after its first i exponents
abbrev pub written : List ℕ → ℕ → List ℕ
written r i = codes "Sq(" ++ join_with_byte comma (map decimal (take i r))

-- one more text at the end of a joined list
pub join-one_more : (c : ℕ) (xs : List (List ℕ)) (x : List ℕ) → 0 < length xs → join_with_byte c (xs ++ x ∷ []) ≡ join_with_byte c xs ++ (c ∷ x)
join-one_more c [] x l = absurd (omega arith)
join-one_more c (y ∷ []) x l = refl
join-one_more c (y ∷ z ∷ xs) x l =
    ap (λ t. y ++ (c ∷ t)) (join-one_more c (z ∷ xs) x (omega arith)) ∙ sym (append_assoc y (c ∷ join_with_byte c (z ∷ xs)) (c ∷ x))

-- the first exponent, and each later one
pub written-first : (r : List ℕ) (i : ℕ) (before piece after : List ℕ) → i ≡ 0 → i < length r → before ≡ written r i → piece ≡ decimal (entry r i) → after ≡ before ++ piece → after ≡ written r (i + 1)
written-first r i before piece after none l b p a =
    let one : written r 0 ++ decimal (entry r 0) ≡ written r 1 = ap (λ t. codes "Sq(" ++ join_with_byte comma t) (sym (map_more decimal r 0 0 (omega arith))) in
    cc

pub written-later : (r : List ℕ) (i : ℕ) (before with_comma piece after : List ℕ) → 0 < i → i < length r → before ≡ written r i → with_comma ≡ before ++ comma ∷ [] → piece ≡ decimal (entry r i) → after ≡ with_comma ++ piece → after ≡ written r (i + 1)
written-later r i before with_comma piece after m l b w p a =
    let xs = map decimal (take i r) in
    let some : 0 < length xs = omega (arith, length-map (take i r) decimal, length-take-le i r (omega arith)) in
    let joined : join_with_byte comma (map decimal (take (i + 1) r)) ≡ join_with_byte comma xs ++ (comma ∷ decimal (entry r i)) = ap (join_with_byte comma) (map_more decimal r i 0 l) ∙ join-one_more comma xs (decimal (entry r i)) some in
    let more : (written r i ++ comma ∷ []) ++ decimal (entry r i) ≡ written r (i + 1) = append_assoc (written r i) (comma ∷ []) (decimal (entry r i)) ∙ append_assoc (codes "Sq(") (join_with_byte comma xs) (comma ∷ decimal (entry r i)) ∙ ap (λ t. codes "Sq(" ++ t) (sym joined) in
    a ∙ ap (λ t. t ++ piece) (w ∙ ap (λ t. t ++ comma ∷ []) b) ∙ ap (λ t. (written r i ++ comma ∷ []) ++ t) p ∙ more
