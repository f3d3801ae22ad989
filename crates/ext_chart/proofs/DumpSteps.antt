-- The steps of the loops that write differentials.
use Rattle.std.proofs.Common.{◌≡◌, ℕ, suc, ◌+◌, ◌≤◌, Bool, true, false, List, [], ◌∷◌, ◌++◌, length, map, take, ℤ, refl, ap, sym, ◌∙◌, arith, append_assoc}
use Rattle.std.specs.List.{flat_map, range_with_len, items_where_true}
use Rattle.std.proofs.lemmas.List.{take_all}
use Rattle.std.proofs.lemmas.List.FromFn.{fill_by_all, map-range_with_len_more}
use Rattle.f2_vec.specs.Vectors.{bit, IsZeroFrom}
use Rattle.f2_vec.specs.Spans.{row}
use Rattle.f2_vec.proofs.Combinations.{map-map}
use Rattle.free_module.specs.FreeBasis.{element}
use Rattle.free_module.specs.FreeModule.{free_basis, free_width}
use Rattle.finite_module.specs.Text.{joined_by_plus}
use Rattle.finite_module.proofs.TextSteps.{flat_map_range}
use Rattle.ext_chart.specs.declared.place.Place.{Place}
use Rattle.ext_chart.specs.Dump.{square_places, term_text, free_sum_text, generator_line}

-- one place more
pub square_places-more : (s : ℕ) (t : ℤ) (i : ℕ) (before places : List Place) → places ≡ before ++ square_places s t i → places ++ record { s = s; t = t; i = i } ∷ [] ≡ before ++ square_places s t (i + 1)
square_places-more s t i before places e =
    let f : ℕ → Place = λ k. record { s = s; t = t; i = k } in
    ap (λ p. p ++ f i ∷ []) e ∙ append_assoc before (square_places s t i) (f i ∷ []) ∙ ap (λ p. before ++ p) (sym (map-range_with_len_more f 0 i i (omega arith)))

pub map-items_where_true : {A B : Type 0} (f : A → B) (bs : List Bool) (xs : List A) → map f (items_where_true bs xs) ≡ items_where_true bs (map f xs)
map-items_where_true f [] [] = refl
map-items_where_true f [] (x ∷ xs) = refl
map-items_where_true f (b ∷ bs) [] = refl
map-items_where_true f (true ∷ bs) (x ∷ xs) = ap (λ ys. f x ∷ ys) (map-items_where_true f bs xs)
map-items_where_true f (false ∷ bs) (x ∷ xs) = map-items_where_true f bs xs

-- with zeros from place n on, nothing behind the first n elements is told
none_where_true : {A : Type 0} (bs : List Bool) (xs : List A) → ((j : ℕ) → bit bs j ≡ false) → items_where_true bs xs ≡ []
none_where_true [] xs h = refl
none_where_true (b ∷ bs) [] h = refl
none_where_true (true ∷ bs) (x ∷ xs) h = let e : true ≡ false = h 0 in cc
none_where_true (false ∷ bs) (x ∷ xs) h = none_where_true bs xs (λ j. h (suc j))

pub items_where_true-zeros : {A : Type 0} (bs : List Bool) (xs ys : List A) → IsZeroFrom bs (length xs) → items_where_true bs (xs ++ ys) ≡ items_where_true bs xs
items_where_true-zeros [] xs ys h = refl
items_where_true-zeros (b ∷ bs) [] ys h = none_where_true (b ∷ bs) ys (λ j. h j (omega arith))
items_where_true-zeros (true ∷ bs) (x ∷ xs) ys h = ap (λ zs. x ∷ zs) (items_where_true-zeros bs xs ys (λ k l. h (suc k) (omega arith)))
items_where_true-zeros (false ∷ bs) (x ∷ xs) ys h = items_where_true-zeros bs xs ys (λ k l. h (suc k) (omega arith))

-- coordinates past the end of a vector are 0, and no others are told
pub items_where_true-bits : {A : Type 0} (bs cs : List Bool) (xs : List A) → ((j : ℕ) → bit bs j ≡ bit cs j) → items_where_true bs xs ≡ items_where_true cs xs
items_where_true-bits [] cs xs h = sym (none_where_true cs xs (λ j. sym (h j)))
items_where_true-bits (b ∷ bs) [] xs h = none_where_true (b ∷ bs) xs h
items_where_true-bits (b ∷ bs) (c ∷ cs) [] h = refl
items_where_true-bits (true ∷ bs) (true ∷ cs) (x ∷ xs) h = ap (λ ys. x ∷ ys) (items_where_true-bits bs cs xs (λ j. h (suc j)))
items_where_true-bits (true ∷ bs) (false ∷ cs) (x ∷ xs) h = let e : true ≡ false = h 0 in cc
items_where_true-bits (false ∷ bs) (true ∷ cs) (x ∷ xs) h = let e : false ≡ true = h 0 in cc
items_where_true-bits (false ∷ bs) (false ∷ cs) (x ∷ xs) h = items_where_true-bits bs cs xs (λ j. h (suc j))

-- the text of the basis element at place i
abbrev pub text_at : List Place → List ℤ → ℤ → ℕ → List ℕ
text_at places degrees t i = term_text places (element (free_basis degrees t) i)

-- the texts of the elements at the places of the ones
pub joined-ones : (places : List Place) (degrees : List ℤ) (t : ℤ) (v : List Bool) (ones : List ℕ) (k : ℕ) (text : List ℕ) → length v ≡ free_width degrees t → ones ≡ items_where_true v (range_with_len 0 (length v)) → length ones ≤ k → text ≡ joined_by_plus (map (text_at places degrees t) (take k ones)) → text ≡ free_sum_text places degrees t v
joined-ones places degrees t v ones k text w o l e =
    let basis = free_basis degrees t in
    let all : basis ≡ map (element basis) (range_with_len 0 (length v)) = fill_by_all (element basis) basis (length v) (0, []) (sym w) (λ i h. refl) in
    let at : map (text_at places degrees t) ones ≡ map (term_text places) (map (element basis) ones) = sym (map-map (term_text places) (element basis) ones) in
    let items : map (element basis) ones ≡ items_where_true v basis = ap (map (element basis)) o ∙ map-items_where_true (element basis) v (range_with_len 0 (length v)) ∙ ap (items_where_true v) (sym all) in
    e ∙ ap (λ (xs : List ℕ). joined_by_plus (map (text_at places degrees t) xs)) (take_all k ones l) ∙ ap joined_by_plus (at ∙ ap (map (term_text places)) items)

-- the lines of the first i generators of a square
abbrev pub lines_through : (List Bool → List ℕ) → ℕ → ℤ → List (List Bool) → ℕ → List ℕ
lines_through image_text s t images i = flat_map (λ k. generator_line (record { s = s; t = t; i = k }) (image_text (row images k))) (range_with_len 0 i)

pub lines-more : (image_text : List Bool → List ℕ) (s : ℕ) (t : ℤ) (images : List (List Bool)) (i : ℕ) (image : List Bool) (text sum line after : List ℕ) → text ≡ lines_through image_text s t images i → image ≡ row images i → sum ≡ image_text image → line ≡ generator_line (record { s = s; t = t; i = i }) sum → after ≡ text ++ line → after ≡ lines_through image_text s t images (i + 1)
lines-more image_text s t images i image text sum line after e im su li af =
    let f : ℕ → List ℕ = λ k. generator_line (record { s = s; t = t; i = k }) (image_text (row images k)) in
    let one : line ≡ f i = li ∙ ap (generator_line (record { s = s; t = t; i = i })) (su ∙ ap image_text im) in
    af ∙ flat_map_range f i text line e one

-- the texts of what stands below k put one behind the other, and one more
pub text-more : (f : ℕ → List ℕ) (k : ℕ) (text line slice after : List ℕ) → text ≡ flat_map f (range_with_len 0 k) → line ≡ f k → slice ≡ line → after ≡ text ++ slice → after ≡ flat_map f (range_with_len 0 (k + 1))
text-more f k text line slice after e li sl af = af ∙ flat_map_range f k text slice e (sl ∙ li)
