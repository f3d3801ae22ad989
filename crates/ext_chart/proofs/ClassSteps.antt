-- The steps of the loops that write sums of classes, products and brackets.
use Rattle.std.proofs.Common.{◌≡◌, ℕ, ◌<◌, ◌≤◌, ℤ, Bool, List, [], ◌∷◌, ◌++◌, length, map, take, refl, ap, sym, ◌∙◌, arith, append_assoc}
use Rattle.std.specs.Prelude.{codes}
use Rattle.std.specs.List.{flat_map, range_with_len, items_where_true}
use Rattle.std.proofs.lemmas.List.{length-map, take_all}
use Rattle.finite_module.specs.Text.{newline, joined_by_plus}
use Rattle.ext_chart.specs.Classes.{class_text, class_sum_text, indeterminacy_line, indeterminacy_lines}
use Rattle.ext_chart.proofs.ProductSteps.{some-terms, no-terms}

-- ---- a sum of classes

pub no-classes : (s t : ℤ) (v : List Bool) (ones : List ℕ) → ones ≡ items_where_true v (range_with_len 0 (length v)) → length ones ≡ 0 → codes "0" ≡ class_sum_text s t v
no-classes s t v ones o none =
    let places = items_where_true v (range_with_len 0 (length v)) in
    no-terms (map (class_text s t) places) (length-map places (class_text s t) ∙ (ap length (sym o) ∙ none))

pub joined-classes : (s t : ℤ) (v : List Bool) (ones : List ℕ) (k : ℕ) (text : List ℕ) → ones ≡ items_where_true v (range_with_len 0 (length v)) → 0 < length ones → length ones ≤ k → text ≡ joined_by_plus (map (class_text s t) (take k ones)) → text ≡ class_sum_text s t v
joined-classes s t v ones k text o some all e =
    let places = items_where_true v (range_with_len 0 (length v)) in
    let f = class_text s t in
    let any : 0 < length (map f places) = omega (arith, length-map places f, ap length o) in
    e ∙ ap (λ (xs : List ℕ). joined_by_plus (map f xs)) (take_all k ones all ∙ o) ∙ some-terms (map f places) any

-- ---- seven texts, one behind the other

pub seven-parts : (o a p b q c r : List ℕ) → (((((o ++ a) ++ p) ++ b) ++ q) ++ c) ++ r ≡ o ++ (a ++ (p ++ (b ++ (q ++ (c ++ r)))))
seven-parts o a p b q c r =
    append_assoc ((((o ++ a) ++ p) ++ b) ++ q) c r
    ∙ (append_assoc (((o ++ a) ++ p) ++ b) q (c ++ r)
    ∙ (append_assoc ((o ++ a) ++ p) b (q ++ (c ++ r))
    ∙ (append_assoc (o ++ a) p (b ++ (q ++ (c ++ r))) ∙ append_assoc o a (p ++ (b ++ (q ++ (c ++ r)))))))

-- ---- the line of a product

pub line-parts : (a b : List ℕ) → ((a ++ codes " -> ") ++ b) ++ newline ≡ a ++ (codes " -> " ++ (b ++ newline))
line-parts a b = append_assoc (a ++ codes " -> ") b newline ∙ append_assoc a (codes " -> ") (b ++ newline)

-- ---- the lines of an indeterminacy

pub some-lines : (s t : ℤ) (vectors : List (List Bool)) → 0 < length vectors → flat_map (indeterminacy_line s t) vectors ≡ indeterminacy_lines s t vectors
some-lines s t [] l = absurd (omega (arith, l))
some-lines s t (v ∷ vectors) l = refl
