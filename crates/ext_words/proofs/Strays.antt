-- Words of which one is stray give no command.
use Rattle.std.proofs.Common.{◌≡◌, ℕ, refl, List, [], ◌∷◌, Bool, true, false, Option, Some, None, inl, inr, ap, sym, subst, ◌∙◌}
use Rattle.std.specs.Prelude.{◌==◌, option_and_then}
use Rattle.std.proofs.lemmas.Bool.{and_parts, or_cases, eqb-true, true≢false}
use Rattle.clap.specs.Walk.{Text}
use Rattle.clap.proofs.SimpleLemmas.{is_false}
use Rattle.ext_words.specs.Words.{Part, Options, Given, Grammar, with_word, parts_of, given_to, read_by, grammar_of, given_of, command_of}
use Rattle.ext_words.specs.Inside.CommandLine.{is_stray, has_stray}
use Rattle.ext_words.proofs.ClapWords.{apart}

-- what a word gives, where it begins with a hyphen
behind-hyphen : (options : Options) (xs : Text) (parts : List Part) → is_stray (45 ∷ xs) ≡ true → with_word options (45 ∷ xs) parts ≡ None
behind-hyphen options [] parts stray = refl
behind-hyphen options (y ∷ []) parts stray = one (y == 45) refl
  where
    one : (b : Bool) → (y == 45) ≡ b → with_word options (45 ∷ y ∷ []) parts ≡ None
    one true e = rw (eqb-true y 45 e) refl
    one false e = rw (apart y e) refl
behind-hyphen options (y ∷ z ∷ zs) parts stray = rw (apart y (is_false (y == 45) stray)) refl

begun : (options : Options) (x : ℕ) (xs : Text) (parts : List Part) → (x == 45) ≡ true → is_stray (x ∷ xs) ≡ true → with_word options (x ∷ xs) parts ≡ None
begun options x xs parts e stray =
    let is = eqb-true x 45 e in
    subst (λ (y : ℕ). with_word options (y ∷ xs) parts ≡ None) (sym is) (behind-hyphen options xs parts (subst (λ (y : ℕ). is_stray (y ∷ xs) ≡ true) is stray))

stray-no-part : (options : Options) (word : Text) (parts : List Part) → is_stray word ≡ true → with_word options word parts ≡ None
stray-no-part options [] parts stray = absurd (true≢false (sym stray))
stray-no-part options (x ∷ []) parts stray = begun options x [] parts stray stray
stray-no-part options (x ∷ y ∷ []) parts stray = begun options x (y ∷ []) parts stray stray
stray-no-part options (x ∷ y ∷ z ∷ zs) parts stray = begun options x (y ∷ z ∷ zs) parts (and_parts _ _ stray).0 stray

no-parts : (options : Options) (word : Text) (parts : Option (List Part)) → is_stray word ≡ true → option_and_then (with_word options word) parts ≡ None
no-parts options word None stray = refl
no-parts options word (Some parts) stray = stray-no-part options word parts stray

strays-no-parts : (options : Options) (words : List Text) → has_stray words ≡ true → parts_of options words ≡ None
strays-no-parts options [] stray = absurd (true≢false (sym stray))
strays-no-parts options (word ∷ words) stray = elim (or_cases _ _ stray) [
  | inl here ↦ no-parts options word (parts_of options words) here
  | inr there ↦ ap (option_and_then (with_word options word)) (strays-no-parts options words there)
]

-- what they give to a command
given-none : (g : Grammar) (words : List Text) → has_stray words ≡ true → given_to g words ≡ None
given-none g words stray = ap (option_and_then _) (strays-no-parts g.options words stray)

-- what is made by the command that is found
found-none : {X : Type 0} (make : Grammar → Option (Given) → Option X) → ((g : Grammar) → make g None ≡ None) → (found : Option Grammar) (words : List Text) → has_stray words ≡ true →
    option_and_then (λ g. make g (given_to g words)) found ≡ None
found-none make none None words stray = refl
found-none make none (Some g) words stray = ap (make g) (given-none g words stray) ∙ none g

-- a stray word is no command's name
name-none : (name : Text) → is_stray name ≡ true → grammar_of name ≡ None
name-none [] stray = absurd (true≢false (sym stray))
name-none (x ∷ []) stray = subst (λ (y : ℕ). grammar_of (y ∷ []) ≡ None) (sym (eqb-true x 45 stray)) refl
name-none (x ∷ y ∷ []) stray = subst (λ (z : ℕ). grammar_of (z ∷ y ∷ []) ≡ None) (sym (eqb-true x 45 stray)) refl
name-none (x ∷ y ∷ z ∷ zs) stray = subst (λ (v : ℕ). grammar_of (v ∷ y ∷ z ∷ zs) ≡ None) (sym (eqb-true x 45 (and_parts _ _ stray).0)) refl

pub stray-none : (words : List Text) → has_stray words ≡ true → (given_of words ≡ None) × (command_of words ≡ None)
stray-none [] stray = (refl, refl)
stray-none (name ∷ words) stray = elim (or_cases _ _ stray) [
  | inl here ↦ (ap (option_and_then (λ g. given_to g words)) (name-none name here), ap (option_and_then (λ g. read_by g words)) (name-none name here))
  | inr there ↦
      (found-none (λ g given. given) (λ g. refl) (grammar_of name) words there, found-none (λ g given. option_and_then g.make given) (λ g. refl) (grammar_of name) words there)
]
