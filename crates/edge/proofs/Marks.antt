-- Places marked in a list.
use Rattle.std.proofs.Common.{◌≡◌, ℕ, ◌+◌, ◌-◌, ◌<◌, ◌≤◌, Bool, true, List, [], ◌++◌, length, take, drop, sym, ◌∙◌, ap, arith, append_assoc, length-append}
use Rattle.std.specs.Prelude.{replicate}
use Rattle.std.proofs.lemmas.List.{append-nil, take_all, drop_all, length-replicate, replicate-append-replicate, length-take-le}
use lib.Seq.{paste}

pub grown : (d w : List Bool) (at n inside : ℕ) → at ≤ length d → inside ≡ length d - at → inside < n → w ≡ paste d at (replicate inside true) inside → take (at + n) w ++ replicate (at + n - length d) true ≡ take at d ++ replicate n true ++ drop (at + n) d
grown d w at n inside le is less here =
    let all : take inside (replicate inside true) ≡ replicate inside true = take_all inside (replicate inside true) (omega (arith, length-replicate inside true)) in
    let none : drop (at + inside) d ≡ [] = drop_all (at + inside) d (omega arith) in
    let plain : w ≡ take at d ++ replicate inside true =
    here ∙ ap (λ (l : List Bool). take at d ++ l ++ drop (at + inside) d) all ∙ ap (λ (l : List Bool). take at d ++ replicate inside true ++ l) none ∙ append-nil (take at d ++ replicate inside true) in
    let size : length w ≡ length d = omega (arith, ap length plain, length-append (take at d) (replicate inside true), length-take-le at d le, length-replicate inside true) in
    let rest : inside + (at + n - length d) ≡ n = omega arith in
    ap (λ (l : List Bool). l ++ replicate (at + n - length d) true) (take_all (at + n) w (omega arith) ∙ plain)
    ∙ append_assoc (take at d) (replicate inside true) (replicate (at + n - length d) true)
    ∙ ap (λ (l : List Bool). take at d ++ l) (replicate-append-replicate inside (at + n - length d) true ∙ ap (λ (k : ℕ). replicate k true) rest)
    ∙ sym (append-nil (take at d ++ replicate n true))
    ∙ ap (λ (l : List Bool). take at d ++ replicate n true ++ l) (sym (drop_all (at + n) d (omega arith)))
