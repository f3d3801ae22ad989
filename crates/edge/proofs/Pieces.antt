-- What was read from a source, piece by piece: d counts the bytes that came before, and n those of the next piece.
use Rattle.std.proofs.Common.{arith, ◌≡◌, ℕ, ◌+◌, ◌-◌, ◌<◌, ◌≤◌, List, [], ◌++◌, take, drop, ap, sym, refl, ◌∙◌, append-nil, subst, inl, inr}
use Rattle.std.proofs.lemmas.Bool.{cases_lt}
use Rattle.std.proofs.Math.Seq.{take-add, take-nil}
use Rattle.std.proofs.lemmas.List.{drop-drop}
use Rattle.std.specs.Prelude.{Option, Some, None, IfSome}
use Rattle.edge.specs.Source.{without_first, HasGivenUpTo}

pub without_first-without_first : (left : Option (List ℕ)) (d n : ℕ) → without_first (without_first left d) n ≡ without_first left (d + n)
without_first-without_first None d n = refl
without_first-without_first (Some l) d n = ap (λ (x : List ℕ). Some x) (drop-drop n d l)

pub rest-next : (old mid new : Option (List ℕ)) (d n : ℕ) → mid ≡ without_first old d → new ≡ without_first mid n → new ≡ without_first old (d + n)
rest-next old mid new d n e h = h ∙ (ap (λ (left : Option (List ℕ)). without_first left n) e ∙ without_first-without_first old d n)

pub given-next : (old mid : Option (List ℕ)) (done more : List ℕ) (d n : ℕ) → IfSome old (λ l. done ≡ take d l) → mid ≡ without_first old d → IfSome mid (λ l. more ≡ done ++ take n l) → IfSome old (λ l. more ≡ take (d + n) l)
given-next None mid done more d n so_far e next = tt
given-next (Some l) mid done more d n so_far e next =
    let rest : more ≡ done ++ take n (drop d l) = subst (λ (left : Option (List ℕ)). IfSome left (λ x. more ≡ done ++ take n x)) e next in
    rest ∙ (ap (λ (x : List ℕ). x ++ take n (drop d l)) so_far ∙ sym (take-add d n l))

-- a source that has given so many bytes, and then some more
pub stopped-next : (old mid new : Option (List ℕ)) (d limit : ℕ) → d ≤ limit → mid ≡ without_first old d → HasGivenUpTo (limit - d) mid new → HasGivenUpTo limit old new
stopped-next old mid new d limit bound e more = record {
  given = d + more.given;
  within = (let h = more.within in omega arith);
  rest = rest-next old mid new d more.given e more.rest;
}

-- all that the limit allows is read where no byte is left, or so many are read
pub given-whole : (old new : Option (List ℕ)) (bytes : List ℕ) (d limit : ℕ) → d ≤ limit → IfSome old (λ l. bytes ≡ take d l) → new ≡ without_first old d → (d < limit → IfSome new (λ l. l ≡ [])) → IfSome old (λ l. bytes ≡ take limit l)
given-whole None new bytes d limit bound so_far e end = tt
given-whole (Some l) new bytes d limit bound so_far e end =
    let all : take limit l ≡ take d l ++ take (limit - d) (drop d l) = (let whole : d + (limit - d) ≡ limit = omega arith in ap (λ (n : ℕ). take n l) (sym whole) ∙ take-add d (limit - d) l) in
    elim (cases_lt d limit) [
      | inl before ↦
          let none_left : drop d l ≡ [] = subst (λ (left : Option (List ℕ)). IfSome left (λ x. x ≡ [])) e (end before) in
          rw (all, none_left, take-nil) (so_far ∙ sym (append-nil (take d l)))
      | inr there ↦ so_far ∙ ap (λ (n : ℕ). take n l) (omega arith)
    ]
