-- The parity of common ones, where one of the vectors is made of a list.
use Rattle.std.proofs.Common.{◌≡◌, ◌⊎◌, inl, inr, ℕ, suc, ◌+◌, ◌<◌, Bool, true, false, ◌&&◌, nat_eq, List, [], ◌∷◌, length, map, get_or, refl, ap, sym, ◌∙◌, arith}
use Rattle.std.specs.List.{range_with_len}
use Rattle.std.proofs.lemmas.List.{ext_get_or, length-map, get_or-map}
use Rattle.std.proofs.lemmas.List.FromFn.{length-map-range_with_len, get_or-map-range_with_len}
use Rattle.f2_vec.specs.Vectors.{bit}
use Rattle.bracket_laws.specs.Brackets.{dot}
use Rattle.bracket_laws.proofs.Vectors.{dot-one}

-- functions that agree wherever the vector has a 1 give one parity
pub dot-where : {X : Type 0} → (d : X) (f h : X → Bool) (xs : List X) (v : List Bool) → ((i : ℕ) → i < length xs → (bit v i ≡ false) ⊎ (f (get_or xs i d) ≡ h (get_or xs i d))) → dot (map f xs) v ≡ dot (map h xs) v
dot-where d f h [] v same = refl
dot-where d f h (x ∷ xs) [] same = refl
dot-where d f h (x ∷ xs) (b ∷ v) same =
    let rest : dot (map f xs) v ≡ dot (map h xs) v = dot-where d f h xs v (λ i l. same (suc i) (omega arith)) in
    let first : (f x && b) ≡ (h x && b) = here (f x) (h x) b (same 0 (omega arith)) in
    cc (first, rest)
  where
    here : (p q b : Bool) → (b ≡ false) ⊎ (p ≡ q) → (p && b) ≡ (q && b)
    here p q true (inl e) = cc (e)
    here true true false (inl e) = refl
    here true false false (inl e) = refl
    here false true false (inl e) = refl
    here false false false (inl e) = refl
    here p q b (inr e) = ap (λ z. z && b) e

pub dot-nothing : {X : Type 0} → (xs : List X) (v : List Bool) → dot (map (λ x. false) xs) v ≡ false
dot-nothing [] v = refl
dot-nothing (x ∷ xs) [] = refl
dot-nothing (x ∷ xs) (b ∷ v) = dot-nothing xs v

pub dot-and : {X : Type 0} → (c : Bool) (f : X → Bool) (xs : List X) (v : List Bool) → dot (map (λ x. c && f x) xs) v ≡ (c && dot (map f xs) v)
dot-and true f xs v = refl
dot-and false f xs v = dot-nothing xs v

-- a function that holds at one place of the list gives the coordinate there
pub dot-place : {X : Type 0} → (d : X) (f : X → Bool) (xs : List X) (v : List Bool) (p : ℕ) → length v ≡ length xs → p < length xs → ((i : ℕ) → i < length xs → f (get_or xs i d) ≡ nat_eq p i) → dot (map f xs) v ≡ bit v p
dot-place d f xs v p e l at =
    let n = length xs in
    let places = map (λ j. nat_eq (0 + p) j) (range_with_len 0 n) in
    let p0 : 0 + p ≡ p = omega arith in
    let same : map f xs ≡ places = ext_get_or false (map f xs) places (length-map xs f ∙ sym (length-map-range_with_len (λ j. nat_eq (0 + p) j) 0 n))
    (λ i b.
    let c : i < length xs = omega (arith, length-map xs f) in
    get_or-map f xs i d false c ∙ (at i c ∙ (ap (λ (z : ℕ). nat_eq z i) (sym p0) ∙ sym (get_or-map-range_with_len (λ j. nat_eq (0 + p) j) 0 n i i false c (omega arith))))) in
    ap (λ (z : List Bool). dot z v) same ∙ dot-one n p 0 v e l
