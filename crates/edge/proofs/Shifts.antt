-- Bytes shifted at marked places, one after the other.
use Rattle.std.proofs.Common.{◌≡◌, ℕ, zero, suc, ◌+◌, ◌%◌, ◌<◌, Bool, true, false, cond, List, [], ◌∷◌, ◌++◌, length, get_or, set, take, drop, refl, sym, ◌∙◌, ap, arith}
use Rattle.edge.specs.Inside.MemDisk.{shifted}

pub here_is : (p : ℕ) (xs : List ℕ) (ts : List Bool) (i : ℕ) → i < length xs → i < length ts → get_or (shifted p (take i xs) ts ++ drop i xs) i 0 ≡ get_or xs i 0
here_is p [] ts i a b = absurd (omega arith)
here_is p (x ∷ xs) [] i a b = absurd (omega arith)
here_is p (x ∷ xs) (t ∷ ts) zero a b = refl
here_is p (x ∷ xs) (t ∷ ts) (suc i) a b = here_is p xs ts i (omega arith) (omega arith)

more_at : (p : ℕ) (xs : List ℕ) (ts : List Bool) (i : ℕ) → i < length xs → i < length ts → get_or ts i false ≡ true → shifted p (take (suc i) xs) ts ++ drop (suc i) xs ≡ set (shifted p (take i xs) ts ++ drop i xs) i ((get_or xs i 0 + p) % 256)
more_at p [] ts i a b m = absurd (omega arith)
more_at p (x ∷ xs) [] i a b m = absurd (omega arith)
more_at p (x ∷ xs) (t ∷ ts) zero a b m = ap (λ (v : Bool). cond v ((x + p) % 256) x ∷ xs) m
more_at p (x ∷ xs) (t ∷ ts) (suc i) a b m = ap (λ (l : List ℕ). cond t ((x + p) % 256) x ∷ l) (more_at p xs ts i (omega arith) (omega arith) m)

same_at : (p : ℕ) (xs : List ℕ) (ts : List Bool) (i : ℕ) → i < length xs → i < length ts → get_or ts i false ≡ false → shifted p (take (suc i) xs) ts ++ drop (suc i) xs ≡ shifted p (take i xs) ts ++ drop i xs
same_at p [] ts i a b m = absurd (omega arith)
same_at p (x ∷ xs) [] i a b m = absurd (omega arith)
same_at p (x ∷ xs) (t ∷ ts) zero a b m = ap (λ (v : Bool). cond v ((x + p) % 256) x ∷ xs) m
same_at p (x ∷ xs) (t ∷ ts) (suc i) a b m = ap (λ (l : List ℕ). cond t ((x + p) % 256) x ∷ l) (same_at p xs ts i (omega arith) (omega arith) m)

pub more_shifted : (p : ℕ) (xs now : List ℕ) (ts : List Bool) (i : ℕ) → i < length xs → i < length ts → now ≡ shifted p (take i xs) ts ++ drop i xs → get_or ts i false ≡ true → set now i ((get_or now i 0 + p) % 256) ≡ shifted p (take (i + 1) xs) ts ++ drop (i + 1) xs
more_shifted p xs now ts i a b is m =
    let e : suc i ≡ i + 1 = omega arith in
    let g : get_or now i 0 ≡ get_or xs i 0 = ap (λ (l : List ℕ). get_or l i 0) is ∙ here_is p xs ts i a b in
    ap (λ (v : ℕ). set now i ((v + p) % 256)) g ∙ ap (λ (l : List ℕ). set l i ((get_or xs i 0 + p) % 256)) is ∙ sym (more_at p xs ts i a b m) ∙ ap (λ (k : ℕ). shifted p (take k xs) ts ++ drop k xs) e

pub same_shifted : (p : ℕ) (xs now : List ℕ) (ts : List Bool) (i : ℕ) → i < length xs → i < length ts → now ≡ shifted p (take i xs) ts ++ drop i xs → get_or ts i false ≡ false → now ≡ shifted p (take (i + 1) xs) ts ++ drop (i + 1) xs
same_shifted p xs now ts i a b is m =
    let e : suc i ≡ i + 1 = omega arith in
    is ∙ sym (same_at p xs ts i a b m) ∙ ap (λ (k : ℕ). shifted p (take k xs) ts ++ drop k xs) e
