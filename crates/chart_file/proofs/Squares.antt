-- The bytes of images and of squares.
use Rattle.std.proofs.Common.{◌≡◌, ℕ, ◌+◌, ◌^◌, ◌<◌, ◌≤◌, Bool, List, [], ◌∷◌, ◌++◌, length, get_or, take, drop, refl, sym, ◌∙◌, ap, subst, append_assoc, arith}
use Rattle.std.specs.Int.{w64, to_be_bytes, from_be_bytes, div_ceil}
use Rattle.std.specs.List.{flat_map, AllByRecursion}
use Rattle.std.proofs.lemmas.List.{take-append-drop, drop-drop, take_at, length-append, length_push, take_all, take_more, flat_map_more}
use Rattle.std.proofs.lemmas.Nat.{from_be_bytes-to_be_bytes_8}
use Rattle.f2_vec.specs.Spans.{HaveWidth}
use Rattle.f2_vec.proofs.Spans.{HaveWidth-head, HaveWidth-tail, HaveWidth-nil, HaveWidth-cons, HaveWidth-append}
use Rattle.f2_vec.specs.Bytes.{packed}
use Rattle.f2_vec.proofs.Bytes.{length-packed, packed-injective}
use Rattle.chart_file.specs.Parts.{Bare, IsBare, bare_bytes}
use Rattle.chart_file.proofs.Words.{same_front, one_word_more, IsNextWord, next_word, same_words}

-- ---- images

pub images_apart : (n : ℕ) (u v : List Bool) (r q : List ℕ) → length u ≡ n → length v ≡ n → packed u ++ r ≡ packed v ++ q → (u ≡ v) × (r ≡ q)
images_apart n u v r q wide wide' e =
    let same = wide ∙ sym wide' in
    let h = same_front (packed u) (packed v) r q (length-packed u ∙ ap (λ k. div_ceil k 8) same ∙ sym (length-packed v)) e in
    (packed-injective u v same h.0, h.1)

pub each_wide : (n : ℕ) (rows : List (List Bool)) → HaveWidth n rows → AllByRecursion (λ (v : List Bool). length v ≡ n) rows
each_wide n [] wide = tt
each_wide n (r ∷ rows) wide = (HaveWidth-head n r rows wide, each_wide n rows (HaveWidth-tail n r rows wide))

-- where more images were packed, the next bytes are one
pub next_image : (n : ℕ) (images all : List (List Bool)) (r q bytes : List ℕ) → HaveWidth n images → HaveWidth n all → flat_map packed images ++ r ≡ bytes → flat_map packed all ++ q ≡ bytes → length images < length all → IsNextWord (λ (v : List Bool). length v ≡ n) packed r
next_image n images all r q bytes wide wide' e e' l =
    next_word (λ (v : List Bool). length v ≡ n) packed (images_apart n) images all r q (each_wide n images wide) (each_wide n all wide') (e ∙ sym e') l

-- it is as long as it should be
pub next_image_long : (n : ℕ) (r : List ℕ) → IsNextWord (λ (v : List Bool). length v ≡ n) packed r → div_ceil n 8 ≤ length r
next_image_long n r next =
    let len = length-packed next.word ∙ ap (λ k. div_ceil k 8) next.is in
    let all = sym (length-append (packed next.word) next.behind) ∙ ap length next.bytes in
    omega arith

pub next_image_is : (n : ℕ) (r : List ℕ) (next : IsNextWord (λ (v : List Bool). length v ≡ n) packed r) → packed next.word ≡ take (div_ceil n 8) r
next_image_is n r next =
    let len = length-packed next.word ∙ ap (λ k. div_ceil k 8) next.is in
    sym (take_at (packed next.word) next.behind (div_ceil n 8) len) ∙ ap (take (div_ceil n 8)) next.bytes

-- ---- squares

pub number_once : (m n : ℕ) → m < 2 ^ 64 → n < 2 ^ 64 → to_be_bytes w64 m ≡ to_be_bytes w64 n → m ≡ n
number_once m n fits fits' e = sym (from_be_bytes-to_be_bytes_8 m fits) ∙ ap (from_be_bytes w64) e ∙ from_be_bytes-to_be_bytes_8 n fits'

-- what stands at the places of a square
pub record IsSquareAt (q : Bare) (r bytes : List ℕ) : Type 0 where
  pub count : take 8 bytes ≡ to_be_bytes w64 (length q.images)
  pub width : take 8 (drop 8 bytes) ≡ to_be_bytes w64 q.width
  pub images : drop 16 bytes ≡ flat_map packed q.images ++ r
  pub long : 16 ≤ length bytes

pub square_at : (q : Bare) (r bytes : List ℕ) → bare_bytes q ++ r ≡ bytes → IsSquareAt q r bytes
square_at q r bytes e =
    let here : IsSquareAt q r (bare_bytes q ++ r) = record { count = refl; width = refl; images = refl; long = omega arith } in
    subst (λ (b : List ℕ). IsSquareAt q r b) e here

pub square_from : (q : Bare) (r bytes : List ℕ) → IsSquareAt q r bytes → bare_bytes q ++ r ≡ bytes
square_from q r bytes h =
    let rows = flat_map packed q.images in
    append_assoc (to_be_bytes w64 (length q.images) ++ to_be_bytes w64 q.width) rows r
    ∙ append_assoc (to_be_bytes w64 (length q.images)) (to_be_bytes w64 q.width) (rows ++ r)
    ∙ ap (λ (b : List ℕ). b ++ (to_be_bytes w64 q.width ++ (rows ++ r))) (sym h.count)
    ∙ ap (λ (b : List ℕ). take 8 bytes ++ (b ++ (rows ++ r))) (sym h.width)
    ∙ ap (λ (b : List ℕ). take 8 bytes ++ (take 8 (drop 8 bytes) ++ b)) (sym h.images ∙ sym (drop-drop 8 8 bytes))
    ∙ ap (λ (b : List ℕ). take 8 bytes ++ b) (take-append-drop 8 (drop 8 bytes))
    ∙ take-append-drop 8 bytes

pub square_takes_bytes : (q : Bare) → 0 < length (bare_bytes q)
square_takes_bytes q = omega arith

pub few_sayable : (q : Bare) → IsBare q → length q.images < 2 ^ 64
few_sayable q bare =
    let few = bare.few in
    let sayable = bare.sayable in
    omega arith

pub squares_apart : (x y : Bare) (r q : List ℕ) → IsBare x → IsBare y → bare_bytes x ++ r ≡ bare_bytes y ++ q → (x ≡ y) × (r ≡ q)
squares_apart x y r q bare bare' e =
    let h = square_at x r (bare_bytes y ++ q) e in
    let k = square_at y q (bare_bytes y ++ q) refl in
    let counts : length x.images ≡ length y.images = number_once (length x.images) (length y.images) (few_sayable x bare) (few_sayable y bare') (sym h.count ∙ k.count) in
    let widths : x.width ≡ y.width = number_once x.width y.width bare.sayable bare'.sayable (sym h.width ∙ k.width) in
    let wide : HaveWidth x.width y.images = subst (λ n. HaveWidth n y.images) (sym widths) bare'.widths in
    let images = same_words (λ (v : List Bool). length v ≡ x.width) packed (images_apart x.width) x.images y.images r q (each_wide x.width x.images bare.widths) (each_wide x.width y.images wide) (sym h.images ∙ k.images) counts in
    let made : ℕ → List (List Bool) → Bare = λ width images. record { width = width; images = images } in
    (ap (λ n. made n x.images) widths ∙ ap (made y.width) images.0, images.1)

pub square_is_longer : (q : Bare) (r bytes : List ℕ) → bare_bytes q ++ r ≡ bytes → length r < length bytes
square_is_longer q r bytes e =
    let some = square_takes_bytes q in
    let all = sym (length-append (bare_bytes q) r) ∙ ap length e in
    omega arith

-- bytes begin with two numbers
pub numbers_first : (count width : ℕ) (bytes : List ℕ) → to_be_bytes w64 count ≡ take 8 bytes → to_be_bytes w64 width ≡ take 8 (drop 8 bytes) → to_be_bytes w64 count ++ (to_be_bytes w64 width ++ drop 16 bytes) ≡ bytes
numbers_first count width bytes counted wide =
    ap (λ (b : List ℕ). b ++ (to_be_bytes w64 width ++ drop 16 bytes)) counted
    ∙ ap (λ (b : List ℕ). take 8 bytes ++ (b ++ drop 16 bytes)) wide
    ∙ ap (λ (b : List ℕ). take 8 bytes ++ (take 8 (drop 8 bytes) ++ b)) (sym (drop-drop 8 8 bytes))
    ∙ ap (λ (b : List ℕ). take 8 bytes ++ b) (take-append-drop 8 (drop 8 bytes))
    ∙ take-append-drop 8 bytes

-- what two numbers say that bytes begin with
module _ (count width : ℕ) (fits : count < 2 ^ 64) (fits' : width < 2 ^ 64) (bytes : List ℕ) (counted : to_be_bytes w64 count ≡ take 8 bytes) (wide : to_be_bytes w64 width ≡ take 8 (drop 8 bytes)) where
  pub numbers_are : (q : Bare) (r : List ℕ) → IsBare q → bare_bytes q ++ r ≡ bytes → (length q.images ≡ count) × (q.width ≡ width)
  numbers_are q r bare e =
      let h = square_at q r bytes e in (
        number_once (length q.images) count (few_sayable q bare) fits (sym h.count ∙ sym counted),
        number_once q.width width bare.sayable fits' (sym h.width ∙ sym wide),
      )

  pub too_many : width < count → (q : Bare) (r : List ℕ) → IsBare q → bare_bytes q ++ r ≡ bytes → ⊥
  too_many l q r bare e =
      let numbers = numbers_are q r bare e in
      let few = bare.few in
      let c = numbers.0 in
      let w = numbers.1 in
      omega arith

  pub no_square : ((images : List (List Bool)) (rest : List ℕ) → HaveWidth width images → length images ≡ count → flat_map packed images ++ rest ≡ drop 16 bytes → ⊥) → (q : Bare) (r : List ℕ) → IsBare q → bare_bytes q ++ r ≡ bytes → ⊥
  no_square none q r bare e =
      let numbers = numbers_are q r bare e in
      none q.images r (subst (λ n. HaveWidth n q.images) numbers.1 bare.widths) numbers.0 (sym (square_at q r bytes e).images)

  pub square_read : (images : List (List Bool)) (rest : List ℕ) → 16 ≤ length bytes → count ≤ width → HaveWidth width images → length images ≡ count → flat_map packed images ++ rest ≡ drop 16 bytes → IsBare (record { width = width; images = images }) × (bare_bytes (record { width = width; images = images }) ++ rest ≡ bytes)
  square_read images rest long few widths many e =
      let q : Bare = record { width = width; images = images } in (
        record { widths = widths; few = omega arith; sayable = fits' },
        square_from q rest bytes (record { count = sym counted ∙ ap (to_be_bytes w64) (sym many); width = sym wide; images = sym e; long = long }),
      )

-- ---- images as they are read

-- these images are the first i of so many, and the bytes of the others are left
pub record AreReadTo (n count i : ℕ) (images : List (List Bool)) (rest bytes : List ℕ) : Type 0 where
  pub many : length images ≡ i
  pub within : i ≤ count
  pub widths : HaveWidth n images
  pub parts : flat_map packed images ++ rest ≡ bytes

pub one_more_read : (n count i : ℕ) (images : List (List Bool)) (rest bytes : List ℕ) (v : List Bool) (k : ℕ) → AreReadTo n count i images rest bytes → i < count → length v ≡ n → packed v ≡ take k rest → AreReadTo n count (i + 1) (images ++ v ∷ []) (drop k rest) bytes
one_more_read n count i images rest bytes v k h l wide is =
    let many = h.many in
    record {
      many = let more = length_push images v in omega arith;
      within = omega arith;
      widths = HaveWidth-append n images (v ∷ []) h.widths (HaveWidth-cons n v [] wide (HaveWidth-nil n));
      parts = one_word_more packed images v rest (drop k rest) bytes h.parts (ap (λ (b : List ℕ). b ++ drop k rest) is ∙ take-append-drop k rest);
    }

-- ---- squares as they are written

pub square_written : (q : Bare) (count width : ℕ) (b0 b1 b2 b : List ℕ) (items : List (List Bool)) (i : ℕ) → count ≡ length q.images → width ≡ q.width → b1 ≡ b0 ++ to_be_bytes w64 count → b2 ≡ b1 ++ to_be_bytes w64 width → b ≡ b2 ++ flat_map packed (take i items) → items ≡ q.images → length items ≤ i → b ≡ b0 ++ bare_bytes q
square_written q count width b0 b1 b2 b items i counted wide e1 e2 e same all =
    let l = to_be_bytes w64 (length q.images) in
    let w = to_be_bytes w64 q.width in
    let rows = flat_map packed q.images in
    e
    ∙ ap (λ (xs : List (List Bool)). b2 ++ flat_map packed xs) (take_all i items all ∙ same)
    ∙ ap (λ (x : List ℕ). x ++ rows) (e2 ∙ ap (λ n. b1 ++ to_be_bytes w64 n) wide ∙ ap (λ (x : List ℕ). x ++ w) (e1 ∙ ap (λ n. b0 ++ to_be_bytes w64 n) counted) ∙ append_assoc b0 l w)
    ∙ append_assoc b0 (l ++ w) rows

pub square_appended : (start b more : List ℕ) (items : List Bare) (i : ℕ) (q : Bare) → i < length items → q ≡ get_or items i q → b ≡ start ++ flat_map bare_bytes (take i items) → more ≡ b ++ bare_bytes q → more ≡ start ++ flat_map bare_bytes (take (i + 1) items)
square_appended start b more items i q l is e e' =
    e'
    ∙ ap (λ (x : List ℕ). x ++ bare_bytes q) e
    ∙ flat_map_more bare_bytes start (take i items) q
    ∙ ap (λ (xs : List Bare). start ++ flat_map bare_bytes xs) (ap (λ (x : Bare). take i items ++ x ∷ []) is ∙ sym (take_more items i q l))
