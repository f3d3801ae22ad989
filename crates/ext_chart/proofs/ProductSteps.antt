-- The steps of the loops that write a product.
use Rattle.std.proofs.Common.{◌≡◌, ℕ, zero, suc, ◌+◌, ◌<◌, ◌≤◌, Bool, List, [], ◌∷◌, ◌++◌, length, map, take, get_or, refl, ap, sym, ◌∙◌, arith, append_assoc}
use Rattle.std.specs.Prelude.{codes, decimal}
use Rattle.std.specs.List.{join_with_byte, range_with_len, items_where_true}
use Rattle.std.proofs.lemmas.List.{map_more, length-map, length-take-le, take_all}
use Rattle.std.proofs.lemmas.List.FromFn.{fill_by_all, length-range_with_len, get_or-range_with_len}
use Rattle.f2_vec.proofs.Combinations.{map-map}
use Rattle.milnor_basis.specs.Basis.{basis_of}
use Rattle.milnor_basis.specs.Text.{sq_text}
use Rattle.milnor_basis.proofs.TextLemmas.{join-one_more}
use Rattle.finite_module.specs.Text.{newline, joined_by_plus}
use Rattle.finite_module.proofs.TextSteps.{joined_by_plus-first, joined_by_plus-next}
use Rattle.ext_chart.specs.Product.{square_text, monomial_text, terms_text, milnor_text, admissible_text}
use Rattle.ext_chart.proofs.DumpSteps.{map-items_where_true}

-- ---- a monomial

abbrev pub numbers_through : List ℕ → ℕ → List ℕ
numbers_through m i = join_with_byte 32 (map square_text (take i m))

pub monomial-first : (m : List ℕ) (i : ℕ) (before : List ℕ) → i ≤ 0 → i < length m → before ≡ numbers_through m i → (before ++ codes "Sq") ++ decimal (get_or m i 0) ≡ numbers_through m (i + 1)
monomial-first [] i before none l e = absurd (omega arith)
monomial-first (x ∷ xs) zero before none l e = ap (λ t. (t ++ codes "Sq") ++ decimal x) e
monomial-first (x ∷ xs) (suc i) before none l e = absurd (omega arith)

pub monomial-later : (m : List ℕ) (i : ℕ) (before : List ℕ) → 0 < i → i < length m → before ≡ numbers_through m i → ((before ++ 32 ∷ []) ++ codes "Sq") ++ decimal (get_or m i 0) ≡ numbers_through m (i + 1)
monomial-later m i before some l e =
    let x = get_or m i 0 in
    let xs = map square_text (take i m) in
    let any : 0 < length xs = omega (arith, length-map (take i m) square_text, length-take-le i m (omega arith)) in
    let joined : numbers_through m (i + 1) ≡ numbers_through m i ++ (32 ∷ square_text x) = ap (join_with_byte 32) (map_more square_text m i 0 l) ∙ join-one_more 32 xs (square_text x) any in
    append_assoc (before ++ 32 ∷ []) (codes "Sq") (decimal x) ∙ (append_assoc before (32 ∷ []) (square_text x) ∙ (ap (λ t. t ++ (32 ∷ square_text x)) e ∙ sym joined))

-- ---- sums of terms

pub some-terms : (terms : List (List ℕ)) → 0 < length terms → joined_by_plus terms ≡ terms_text terms
some-terms [] l = absurd (omega arith)
some-terms (term ∷ terms) l = refl

pub no-terms : (terms : List (List ℕ)) → length terms ≡ 0 → codes "0" ≡ terms_text terms
no-terms [] e = refl
no-terms (term ∷ terms) e = absurd (omega arith)

-- the text of the basis element at place i
abbrev pub element_text : ℕ → ℕ → List ℕ
element_text n i = sq_text (get_or (basis_of n) i [])

elements-at : (n : ℕ) (v : List Bool) (ones : List ℕ) → length v ≡ length (basis_of n) → ones ≡ items_where_true v (range_with_len 0 (length v)) → map (element_text n) ones ≡ map sq_text (items_where_true v (basis_of n))
elements-at n v ones w o =
    let basis = basis_of n in
    let at : ℕ → List ℕ = λ i. get_or basis i [] in
    let all : basis ≡ map at (range_with_len 0 (length v)) = fill_by_all at basis (length v) [] (sym w) (λ i h. refl) in
    let items : map at ones ≡ items_where_true v basis = ap (map at) o ∙ map-items_where_true at v (range_with_len 0 (length v)) ∙ ap (items_where_true v) (sym all) in
    sym (map-map sq_text at ones) ∙ ap (map sq_text) items

pub no-elements : (n : ℕ) (v : List Bool) (ones : List ℕ) → length v ≡ length (basis_of n) → ones ≡ items_where_true v (range_with_len 0 (length v)) → length ones ≡ 0 → codes "0" ≡ milnor_text n v
no-elements n v ones w o none = no-terms (map sq_text (items_where_true v (basis_of n))) (ap length (sym (elements-at n v ones w o)) ∙ (length-map ones (element_text n) ∙ none))

pub joined-elements : (n : ℕ) (v : List Bool) (ones : List ℕ) (k : ℕ) (text : List ℕ) → length v ≡ length (basis_of n) → ones ≡ items_where_true v (range_with_len 0 (length v)) → 0 < length ones → length ones ≤ k → text ≡ joined_by_plus (map (element_text n) (take k ones)) → text ≡ milnor_text n v
joined-elements n v ones k text w o some l e =
    let terms = map sq_text (items_where_true v (basis_of n)) in
    let same = elements-at n v ones w o in
    let many : length ones ≡ length terms = sym (length-map ones (element_text n)) ∙ ap length same in
    let any : 0 < length terms = omega (arith, many) in
    e ∙ ap (λ (xs : List ℕ). joined_by_plus (map (element_text n) xs)) (take_all k ones l) ∙ ap joined_by_plus same ∙ some-terms terms any

-- the texts of the first k monomials, by their places
abbrev pub monomial_at : List (List ℕ) → ℕ → List ℕ
monomial_at monomials i = monomial_text (get_or monomials i [])

abbrev places : List (List ℕ) → List ℕ
places monomials = range_with_len 0 (length monomials)

abbrev pub monomials_through : List (List ℕ) → ℕ → List ℕ
monomials_through monomials k = joined_by_plus (map (monomial_at monomials) (take k (places monomials)))

place-is : (monomials : List (List ℕ)) (k : ℕ) → k < length monomials → get_or (places monomials) k 0 ≡ k
place-is monomials k l = let at = get_or-range_with_len 0 (length monomials) k 0 l in omega (arith, at)

pub monomials-first : (monomials : List (List ℕ)) (k : ℕ) (text : List ℕ) → k ≤ 0 → k < length monomials → text ≡ monomials_through monomials k → text ++ monomial_at monomials k ≡ monomials_through monomials (k + 1)
monomials-first monomials k text none l e =
    let within : k < length (places monomials) = omega (arith, length-range_with_len 0 (length monomials)) in
    ap (λ i. text ++ monomial_at monomials i) (sym (place-is monomials k l)) ∙ joined_by_plus-first (monomial_at monomials) (places monomials) k text none within e

pub monomials-next : (monomials : List (List ℕ)) (k : ℕ) (text : List ℕ) → 0 < k → k < length monomials → text ≡ monomials_through monomials k → (text ++ codes " + ") ++ monomial_at monomials k ≡ monomials_through monomials (k + 1)
monomials-next monomials k text some l e =
    let within : k < length (places monomials) = omega (arith, length-range_with_len 0 (length monomials)) in
    ap (λ i. (text ++ codes " + ") ++ monomial_at monomials i) (sym (place-is monomials k l)) ∙ joined_by_plus-next (monomial_at monomials) (places monomials) k text some within e

pub joined-monomials : (monomials : List (List ℕ)) (k : ℕ) (text : List ℕ) → 0 < length monomials → length monomials ≤ k → text ≡ monomials_through monomials k → text ≡ admissible_text monomials
joined-monomials monomials k text some l e =
    let at : ℕ → List ℕ = λ i. get_or monomials i [] in
    let all : monomials ≡ map at (places monomials) = fill_by_all at monomials (length monomials) [] refl (λ i h. refl) in
    let whole : length (places monomials) ≤ k = omega (arith, length-range_with_len 0 (length monomials)) in
    let same : map (monomial_at monomials) (places monomials) ≡ map monomial_text monomials = sym (map-map monomial_text at (places monomials)) ∙ ap (map monomial_text) (sym all) in
    let any : 0 < length (map monomial_text monomials) = omega (arith, length-map monomials monomial_text) in
    e ∙ ap (λ (xs : List ℕ). joined_by_plus (map (monomial_at monomials) xs)) (take_all k (places monomials) whole) ∙ ap joined_by_plus same ∙ some-terms (map monomial_text monomials) any

-- ---- the two lines

pub two-lines : (milnor admissible : List ℕ) → (((codes "milnor: " ++ milnor) ++ codes "\nadmissible: ") ++ admissible) ++ 10 ∷ [] ≡ codes "milnor: " ++ (milnor ++ (newline ++ (codes "admissible: " ++ (admissible ++ newline))))
two-lines milnor admissible =
    append_assoc ((codes "milnor: " ++ milnor) ++ codes "\nadmissible: ") admissible newline
    ∙ (append_assoc (codes "milnor: " ++ milnor) (codes "\nadmissible: ") (admissible ++ newline) ∙ append_assoc (codes "milnor: ") milnor (codes "\nadmissible: " ++ (admissible ++ newline)))
