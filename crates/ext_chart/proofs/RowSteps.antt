-- The places of the generators of a row, a square at a time.
use Rattle.std.proofs.Common.{◌≡◌, ℕ, suc, ◌+◌, ◌<◌, ℤ, pos, ◌+ℤ◌, List, [], ◌∷◌, ◌++◌, length, take, replicate, refl, sym, ◌∙◌, ap, arith}
use Rattle.std.proofs.lemmas.Int.{ints}
use Rattle.std.proofs.lemmas.List.{append-nil, append_assoc, length-append, length-replicate, length-take-le, take_more}
use Rattle.std.proofs.lemmas.List.FromFn.{length-map-range_with_len}
use Rattle.resolution_laws.specs.Resolution.{Content, no_content, square_in, degrees_from}
use Rattle.ext_chart.specs.declared.place.Place.{Place}
use Rattle.ext_chart.specs.Dump.{square_places, places_from}

places_from-push : (s : ℕ) (b : ℤ) (squares : List Content) (c : Content) → places_from s b (squares ++ c ∷ []) ≡ places_from s b squares ++ square_places s (b +ℤ pos (length squares)) (length c.images)
places_from-push s b [] c =
    let e : b ≡ b +ℤ pos 0 = omega (arith, ints) in
    append-nil (square_places s b (length c.images)) ∙ ap (λ (t : ℤ). square_places s t (length c.images)) e
places_from-push s b (x ∷ squares) c =
    let e : (b +ℤ pos 1) +ℤ pos (length squares) ≡ b +ℤ pos (suc (length squares)) = omega (arith, ints) in
    let first = square_places s b (length x.images) in
    let before = places_from s (b +ℤ pos 1) squares in
    let rest : places_from s (b +ℤ pos 1) (squares ++ c ∷ []) ≡ before ++ square_places s (b +ℤ pos (suc (length squares))) (length c.images) =
    places_from-push s (b +ℤ pos 1) squares c ∙ ap (λ (t : ℤ). before ++ square_places s t (length c.images)) e in
    ap (λ (z : List Place). first ++ z) rest ∙ sym (append_assoc first before (square_places s (b +ℤ pos (suc (length squares))) (length c.images)))

-- a place for each generator
pub length-places_from : (s : ℕ) (b : ℤ) (squares : List Content) → length (places_from s b squares) ≡ length (degrees_from b squares)
length-places_from s b [] = refl
length-places_from s b (x ∷ squares) =
    let n = length x.images in
    let rest = length-places_from s (b +ℤ pos 1) squares in
    let here : length (square_places s b n) ≡ n = length-map-range_with_len (λ i. record { s = s; t = b; i = i }) 0 n in
    let same = length-replicate n b in
    length-append (square_places s b n) (places_from s (b +ℤ pos 1) squares) ∙ (omega arith ∙ sym (length-append (replicate n b) (degrees_from (b +ℤ pos 1) squares)))

-- the places with those of one square more
pub places-more : (s : ℕ) (b : ℤ) (row : List Content) (k : ℕ) (t : ℤ) (count : ℕ) (places more : List Place) → k < length row → t ≡ b +ℤ pos k → count ≡ length (square_in row k).images → places ≡ places_from s b (take k row) → more ≡ places ++ square_places s t count → more ≡ places_from s b (take (k + 1) row)
places-more s b row k t count places more l e n before m =
    let c = square_in row k in
    let next : take (k + 1) row ≡ take k row ++ c ∷ [] = take_more row k no_content l in
    let len : length (take k row) ≡ k = length-take-le k row (omega arith) in
    let degree : t ≡ b +ℤ pos (length (take k row)) = e ∙ ap (λ i. b +ℤ pos i) (sym len) in
    m ∙ (ap (λ (z : List Place). z ++ square_places s t count) before
    ∙ (ap (λ i. places_from s b (take k row) ++ square_places s t i) n
    ∙ (ap (λ (u : ℤ). places_from s b (take k row) ++ square_places s u (length c.images)) degree
    ∙ (sym (places_from-push s b (take k row) c) ∙ ap (places_from s b) (sym next)))))
