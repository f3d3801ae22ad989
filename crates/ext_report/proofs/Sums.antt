-- A sum of classes, written term by term.
use Rattle.std.proofs.Common.{◌≡◌, ℕ, ◌+◌, ◌<◌, ◌≤◌, Bool, true, false, List, [], ◌∷◌, ◌++◌, length, map, drop, get_or, refl, ap, sym, ◌∙◌, append_assoc, append-nil}
use Rattle.std.specs.Prelude.{Option, codes}
use Rattle.std.specs.List.{range_with_len, items_where_true}
use Rattle.std.proofs.lemmas.List.{drop_more, drop_all}
use Rattle.finite_module.specs.Text.{joined_by_plus}
use Rattle.ext_chart.specs.Product.{terms_text}
use Rattle.edge.specs.Sink.{with_more, HasPrefixMore}
use Rattle.ext_report.specs.Parts.{plus}
use Rattle.edge.proofs.Written.{with_more-two, HasPrefixMore-within}

-- what ends a sum, by whether it has a term
abbrev pub end_of : Bool → List ℕ
end_of false = codes "0"
end_of true = []

-- the text from place i on, by whether there is a term before it
abbrev pub rest_of : (ℕ → List ℕ) → Bool → ℕ → List Bool → List ℕ
rest_of f some i [] = end_of some
rest_of f some i (false ∷ v) = rest_of f some (i + 1) v
rest_of f some i (true ∷ v) = (plus some ++ f i) ++ rest_of f true (i + 1) v

more_terms : (f : ℕ → List ℕ) (x : List ℕ) (i : ℕ) (v : List Bool) → joined_by_plus (x ∷ map f (items_where_true v (range_with_len i (length v)))) ≡ x ++ rest_of f true i v
more_terms f x i [] = sym (append-nil x)
more_terms f x i (false ∷ v) = more_terms f x (i + 1) v
more_terms f x i (true ∷ v) = ap (λ (t : List ℕ). x ++ (codes " + " ++ t)) (more_terms f (f i) (i + 1) v)

-- the whole sum
pub sum_is : (f : ℕ → List ℕ) (i : ℕ) (v : List Bool) → terms_text (map f (items_where_true v (range_with_len i (length v)))) ≡ rest_of f false i v
sum_is f i [] = refl
sum_is f i (false ∷ v) = sum_is f (i + 1) v
sum_is f i (true ∷ v) = more_terms f (f i) (i + 1) v

-- from old to new the terms before place i were written
pub record HasTerms (f : ℕ → List ℕ) (v : List Bool) (some : Bool) (i : ℕ) (old new : Option (List ℕ)) : Type 0 where
  pub front : List ℕ
  pub written : new ≡ with_more old front
  pub parts : rest_of f false 0 v ≡ front ++ rest_of f some i (drop i v)

module _ (f : ℕ → List ℕ) (v : List Bool) (some : Bool) (i : ℕ) (old new : Option (List ℕ)) (p : HasTerms f v some i old new) where
  -- the next place has no term
  pub term_skipped : i < length v → get_or v i false ≡ false → HasTerms f v some (i + 1) old new
  term_skipped within none = record {
    front = p.front;
    written = p.written;
    parts = p.parts ∙ ap (λ (t : List Bool). p.front ++ rest_of f some i t) (drop_more v i false within ∙ ap (λ (b : Bool). b ∷ drop (i + 1) v) none);
  }

  -- the next place has one
  term_parts : i < length v → get_or v i false ≡ true → rest_of f false 0 v ≡ (p.front ++ (plus some ++ f i)) ++ rest_of f true (i + 1) (drop (i + 1) v)
  term_parts within one =
      p.parts ∙ (ap (λ (t : List Bool). p.front ++ rest_of f some i t) (drop_more v i false within ∙ ap (λ (b : Bool). b ∷ drop (i + 1) v) one)
      ∙ sym (append_assoc p.front (plus some ++ f i) (rest_of f true (i + 1) (drop (i + 1) v))))

  pub term_written : (next : Option (List ℕ)) → i < length v → get_or v i false ≡ true → next ≡ with_more new (plus some ++ f i) → HasTerms f v true (i + 1) old next
  term_written next within one wrote = record {
    front = p.front ++ (plus some ++ f i);
    written = with_more-two old new next p.front (plus some ++ f i) p.written wrote;
    parts = term_parts within one;
  }

  -- it was written in part
  pub term_cut : (next : Option (List ℕ)) → i < length v → get_or v i false ≡ true → HasPrefixMore (plus some ++ f i) new next → HasPrefixMore (rest_of f false 0 v) old next
  term_cut next within one part = HasPrefixMore-within p.front (plus some ++ f i) (rest_of f true (i + 1) (drop (i + 1) v)) (rest_of f false 0 v) old new next p.written part (term_parts within one)

  -- all places are behind it
  all_parts : length v ≤ i → rest_of f false 0 v ≡ p.front ++ end_of some
  all_parts all = p.parts ∙ ap (λ (t : List Bool). p.front ++ rest_of f some i t) (drop_all i v all)

  pub sum_written : length v ≤ i → some ≡ true → new ≡ with_more old (rest_of f false 0 v)
  sum_written all is = p.written ∙ ap (with_more old) (sym (all_parts all ∙ (ap (λ (b : Bool). p.front ++ end_of b) is ∙ append-nil p.front)))

  pub zero_written : (next : Option (List ℕ)) → length v ≤ i → some ≡ false → next ≡ with_more new (codes "0") → next ≡ with_more old (rest_of f false 0 v)
  zero_written next all is wrote = with_more-two old new next p.front (codes "0") p.written wrote ∙ ap (with_more old) (sym (all_parts all ∙ ap (λ (b : Bool). p.front ++ end_of b) is))

  pub zero_cut : (next : Option (List ℕ)) → length v ≤ i → some ≡ false → HasPrefixMore (codes "0") new next → HasPrefixMore (rest_of f false 0 v) old next
  zero_cut next all is part = HasPrefixMore-within p.front (codes "0") [] (rest_of f false 0 v) old new next p.written part (all_parts all ∙ (ap (λ (b : Bool). p.front ++ end_of b) is ∙ sym (append-nil (p.front ++ codes "0"))))
