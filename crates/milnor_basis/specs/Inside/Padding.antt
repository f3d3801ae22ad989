-- A list with zeros at its end, up to a length.
use Rattle.std.specs.Prelude.{◌≡◌, ℕ, zero, suc, List, [], ◌∷◌, length, refl}
use Rattle.std.proofs.Common.{ap, ◌∙◌, arith}
use Rattle.milnor_basis.specs.Exponents.{put_before, trimmed}

-- the first n numbers of a list, with zeros where it has fewer
abbrev pub padded : ℕ → List ℕ → List ℕ
padded zero xs = []
padded (suc n) [] = 0 ∷ padded n []
padded (suc n) (x ∷ xs) = x ∷ padded n xs

padded-put_before : (n r : ℕ) (t : List ℕ) → padded (suc n) (put_before r t) ≡ r ∷ padded n t
padded-put_before n zero [] = refl
padded-put_before n (suc r) [] = refl
padded-put_before n zero (x ∷ xs) = refl
padded-put_before n (suc r) (x ∷ xs) = refl

-- padding undoes the trimming of a list of that length
pub padded-trimmed : (n : ℕ) (rs : List ℕ) → length rs ≡ n → padded n (trimmed rs) ≡ rs
padded-trimmed zero [] h = refl
padded-trimmed (suc n) [] h = cc
padded-trimmed zero (r ∷ rs) h = cc
padded-trimmed (suc n) (r ∷ rs) h = padded-put_before n r (trimmed rs) ∙ ap (λ xs. r ∷ xs) (padded-trimmed n rs (omega arith))
