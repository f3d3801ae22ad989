-- Bytes that are put together part by part.
use Rattle.std.proofs.Common.{◌≡◌, ℕ, List, ◌++◌, ◌∙◌, ap, append_assoc}

regroup : (old h c flat : List ℕ) → ((old ++ h) ++ c) ++ flat ≡ old ++ ((h ++ c) ++ flat)
regroup old h c flat = ap (λ (x : List ℕ). x ++ flat) (append_assoc old h c) ∙ append_assoc old (h ++ c) flat

pub matrix_appended : (old a h one b c two flat new : List ℕ) → one ≡ old ++ a → a ≡ h → two ≡ one ++ b → b ≡ c → new ≡ two ++ flat → new ≡ old ++ ((h ++ c) ++ flat)
matrix_appended old a h one b c two flat new e1 e2 e3 e4 e5 =
    e5 ∙ ap (λ (x : List ℕ). x ++ flat) (e3 ∙ ap (λ (x : List ℕ). one ++ x) e4 ∙ ap (λ (x : List ℕ). x ++ c) (e1 ∙ ap (λ (x : List ℕ). old ++ x) e2)) ∙ regroup old h c flat
