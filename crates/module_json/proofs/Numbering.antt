-- The numbers of the generators with the names of a sum, name by name.
use Rattle.std.specs.Prelude.{◌≡◌, ◌+◌, ◌<◌, List, [], ◌∷◌, ◌++◌, length, map, drop, Option, Some, None, option_map, refl}
use Rattle.std.proofs.Common.{ℕ, Bor, get_or, ap, sym, ◌∙◌, append_assoc}
use Rattle.std.proofs.lemmas.List.{at_drop_more}
use Rattle.module_spec.specs.Spec.{Generator, number_of}
use Rattle.module_json.specs.ModuleFile.{numbers_of}

-- what stands before the numbers of the rest, if each of these has one
abbrev pub after : List ℕ → Option (List ℕ) → Option (List ℕ)
after done rest = option_map (λ js. done ++ js) rest

after-cons : (done : List ℕ) (j : ℕ) (rest : Option (List ℕ)) → after done (option_map (λ js. j ∷ js) rest) ≡ after (done ++ j ∷ []) rest
after-cons done j None = refl
after-cons done j (Some js) = ap Some (sym (append_assoc done (j ∷ []) js))

pub numbers_of-known : (gs : List Generator) (done : List ℕ) (name : List ℕ) (rest : List (List ℕ)) (j : ℕ) → number_of gs name ≡ Some j → after done (numbers_of gs (name ∷ rest)) ≡ after (done ++ j ∷ []) (numbers_of gs rest)
numbers_of-known gs done name rest j e = rw e (after-cons done j (numbers_of gs rest))

pub numbers_of-unknown : (gs : List Generator) (done : List ℕ) (name : List ℕ) (rest : List (List ℕ)) → number_of gs name ≡ None → after done (numbers_of gs (name ∷ rest)) ≡ None
numbers_of-unknown gs done name rest e = rw e

-- the loop's turn at a name that has a number, and at one that has none
pub numbers_turn : (gs : List Generator) (done : List ℕ) (names : List (Bor (List ℕ))) (i : ℕ) (d : Bor (List ℕ)) (j : ℕ) → i < length names → Some j ≡ number_of gs (get_or names i d).now → after done (numbers_of gs (map (λ w. w.now) (drop i names))) ≡ after (done ++ j ∷ []) (numbers_of gs (map (λ w. w.now) (drop (i + 1) names)))
numbers_turn gs done names i d j l e = at_drop_more (λ ws. after done (numbers_of gs (map (λ w. w.now) ws))) names i d l ∙ numbers_of-known gs done (get_or names i d).now (map (λ w. w.now) (drop (i + 1) names)) j (sym e)

pub numbers_end : (gs : List Generator) (done : List ℕ) (names : List (Bor (List ℕ))) (i : ℕ) (d : Bor (List ℕ)) → i < length names → None ≡ number_of gs (get_or names i d).now → after done (numbers_of gs (map (λ w. w.now) (drop i names))) ≡ None
numbers_end gs done names i d l e = at_drop_more (λ ws. after done (numbers_of gs (map (λ w. w.now) ws))) names i d l ∙ numbers_of-unknown gs done (get_or names i d).now (map (λ w. w.now) (drop (i + 1) names)) (sym e)
