-- Generators of one degree, put at the end of others.
use Rattle.std.proofs.Common.{◌≡◌, inl, inr, ℕ, ◌-◌, ◌<◌, ◌≤◌, ℤ, pos, ◌≤ℤ◌, List, ◌++◌, length, replicate, refl, sym, ◌∙◌, subst, arith, length-append}
use Rattle.std.proofs.lemmas.Int.{ints}
use Rattle.std.proofs.lemmas.Bool.{cases_lt}
use Rattle.std.proofs.lemmas.List.{get_or_append_left, get_or-append_right, get_or-replicate, length-replicate}
use Rattle.free_module.specs.FreeModule.{NeverFall, degree_at}

-- the degree of one of the new generators
degree_at-new : (degrees : List ℤ) (n : ℕ) (d : ℤ) (g : ℕ) → length degrees ≤ g → g < length (degrees ++ replicate n d) → degree_at (degrees ++ replicate n d) g ≡ d
degree_at-new degrees n d g h l =
    let whole = length-append degrees (replicate n d) in
    let len = length-replicate n d in
    get_or-append_right degrees (replicate n d) (length degrees) g (pos 0) refl h ∙ get_or-replicate n (g - length degrees) d (pos 0) (omega arith)

-- generators of degree d more keep each degree at most d
pub at_most-replicate : (degrees : List ℤ) (n : ℕ) (d : ℤ) → ((g : ℕ) → g < length degrees → degree_at degrees g ≤ℤ d) → (g : ℕ) → g < length (degrees ++ replicate n d) → degree_at (degrees ++ replicate n d) g ≤ℤ d
at_most-replicate degrees n d h g l =
    let P : ℤ → Type 0 = λ t. t ≤ℤ d in
    let same : d ≤ℤ d = omega (arith, ints) in
    elim (cases_lt g (length degrees)) [
      | inl b ↦ subst P (sym (get_or_append_left degrees (replicate n d) (pos 0) g b)) (h g b)
      | inr b ↦ subst P (sym (degree_at-new degrees n d g b l)) same
    ]

-- where none of the degrees is above d, they still do not fall
pub NeverFall-replicate : (degrees : List ℤ) (n : ℕ) (d : ℤ) → NeverFall degrees → ((g : ℕ) → g < length degrees → degree_at degrees g ≤ℤ d) → NeverFall (degrees ++ replicate n d)
NeverFall-replicate degrees n d never h i j l m =
    let new = replicate n d in
    elim (cases_lt j (length degrees)) [
      | inl b ↦
          let here : i < length degrees = omega arith in
          subst (λ (t : ℤ). degree_at (degrees ++ new) i ≤ℤ t) (sym (get_or_append_left degrees new (pos 0) j b))
          (subst (λ (t : ℤ). t ≤ℤ degree_at degrees j) (sym (get_or_append_left degrees new (pos 0) i here)) (never i j l b))
      | inr b ↦
          subst (λ (t : ℤ). degree_at (degrees ++ new) i ≤ℤ t) (sym (degree_at-new degrees n d j b m)) (at_most-replicate degrees n d h i (omega arith))
    ]
