-- What stands at the places of a body.
use Rattle.std.proofs.Common.{◌≡◌, ℕ, ◌+◌, ◌*◌, ◌^◌, ◌<◌, ◌≤◌, inl, inr, Bool, List, [], ◌∷◌, ◌++◌, length, map, take, drop, Option, Some, None, IfSome, true, false, nat_eq, if◌then◌else◌, refl, sym, ◌∙◌, ap, subst, append_assoc, arith}
use Rattle.std.specs.Prelude.{slice_index, slice_index_or}
use Rattle.std.specs.Option.{option_map}
use Rattle.std.specs.Int.{w16, w64, to_be_bytes, from_be_bytes}
use Rattle.std.specs.List.{flat_map, range_with_len}
use Rattle.std.proofs.lemmas.List.{append-nil, length-append, length-take, length-drop, take-append-drop, take_at, drop_at, drop-drop, ext_get_or, drop_all}
use Rattle.std.proofs.lemmas.Option.{same_Some}
use Rattle.std.proofs.lemmas.List.FromFn.{length-map-range_with_len, get_or-map-range_with_len}
use Rattle.std.proofs.lemmas.Nat.{be_bytes_2, be_bytes_8, from_be_bytes-to_be_bytes_2, from_be_bytes-to_be_bytes_8}
use Rattle.f2_vec.specs.Spans.{HaveWidth}
use Rattle.f2_matrix.specs.Reduction.{Rows}
use Rattle.save_file.specs.declared.outline.TheConstants.{SQUARE, REDUCED, QUASI}
use Rattle.f2_vec.specs.Bytes.{packed}
use Rattle.save_file.specs.Bodies.{Preimages, preimages_bytes, Body, kind_of, quasi_bytes, matrix_bytes, body_bytes, Addition, addition_bytes, kept_in, body_of, preimages_of, reduction_with}
use Rattle.save_file.specs.Reading.{number_at, unpacked, packed_len, rows_at, matrix_at, matrix_len, preimages_at, kernel_place, quasi_place, quasi_part, quasi_at, body_at, addition_at}
use Rattle.save_file.specs.Inside.Outline.{Packed, packed_at, end_of, PackedPair, pair_at, pair_end, quasi_part_at, HasQuasiPart, outline_at, IsWhole, addition_outline_at, IsWholeAddition, AreUnpacked}
use Rattle.save_journal.specs.Laws.{AreBytes}
use Rattle.save_journal.proofs.Bytes.{AreBytes-part}
use Rattle.save_file.proofs.Unpacking.{length-unpacked, length-rows, unpacked_row}
use Rattle.save_file.proofs.Outlines.{no_part, a_part, part_within}

-- ---- a matrix behind other bytes

-- what stands at a place
number_behind : (place n : ℕ) (front rest : List ℕ) → length front ≡ place → n < 2 ^ 64 → number_at w64 place (front ++ (to_be_bytes w64 n ++ rest)) ≡ n
number_behind place n front rest at fits = ap (λ (x : List ℕ). from_be_bytes w64 (take 8 x)) (drop_at front (to_be_bytes w64 n ++ rest) place at) ∙ from_be_bytes-to_be_bytes_8 n fits

height_behind : (place : ℕ) (front : List ℕ) (m : Rows) (rest : List ℕ) → length front ≡ place → length m.rows < 2 ^ 64 → number_at w64 place (front ++ (matrix_bytes m ++ rest)) ≡ length m.rows
height_behind place front m rest at fits = number_behind place (length m.rows) front (to_be_bytes w64 m.cols ++ (flat_map packed m.rows ++ rest)) at fits

cols_behind : (place : ℕ) (front : List ℕ) (m : Rows) (rest : List ℕ) → length front ≡ place → m.cols < 2 ^ 64 → number_at w64 (place + 8) (front ++ (matrix_bytes m ++ rest)) ≡ m.cols
cols_behind place front m rest at fits =
    let len = length-append front (to_be_bytes w64 (length m.rows)) in
    ap (number_at w64 (place + 8)) (sym (append_assoc front (to_be_bytes w64 (length m.rows)) (to_be_bytes w64 m.cols ++ (flat_map packed m.rows ++ rest))))
    ∙ number_behind (place + 8) m.cols (front ++ to_be_bytes w64 (length m.rows)) (flat_map packed m.rows ++ rest) (omega arith) fits

rows_behind : (place : ℕ) (front : List ℕ) (m : Rows) (rest : List ℕ) → length front ≡ place → drop (place + 16) (front ++ (matrix_bytes m ++ rest)) ≡ flat_map packed m.rows ++ rest
rows_behind place front m rest at =
    sym (drop-drop 16 place (front ++ (matrix_bytes m ++ rest))) ∙ ap (drop 16) (drop_at front (matrix_bytes m ++ rest) place at)

-- rows that stand behind other bytes are read again
pub rows_again : (place count n : ℕ) (front rest : List ℕ) (rows : List (List Bool)) → length front ≡ place → count ≡ length rows → HaveWidth n rows → rows_at count n place (front ++ (flat_map packed rows ++ rest)) ≡ rows
rows_again place count n front rest rows at many wide =
    let bytes = front ++ (flat_map packed rows ++ rest) in
    let piece = λ (i : ℕ). unpacked n (drop (place + i * packed_len n) bytes) in
    let size = length-map-range_with_len piece 0 count in
    ext_get_or [] (map piece (range_with_len 0 count)) rows (size ∙ many) (λ i l.
    let within : i < length rows = omega arith in
    get_or-map-range_with_len piece 0 count i i [] (omega arith) (omega arith)
    ∙ ap (unpacked n) (sym (drop-drop (i * packed_len n) place bytes) ∙ ap (drop (i * packed_len n)) (drop_at front (flat_map packed rows ++ rest) place at))
    ∙ unpacked_row n rows rest i wide within)

-- image rows and preimages behind other bytes
pub pair_again : (place q w v : ℕ) (front : List ℕ) (p : Preimages) → length front ≡ place → q ≡ length p.image → length p.chosen ≡ length p.image → HaveWidth w p.image → HaveWidth v p.chosen → preimages_at q w v place (front ++ preimages_bytes p) ≡ p
pair_again place q w v front p at many same wide wide' =
    let bytes = front ++ preimages_bytes p in
    let long = length-rows w p.image wide in
    let both = length-append front (flat_map packed p.image) in
    let next : length (front ++ flat_map packed p.image) ≡ place + q * packed_len w = let e = ap (λ n. n * packed_len w) many in omega arith in
    let made = λ (image chosen : List (List Bool)). let x : Preimages = record { image = image; chosen = chosen } in x in
    let image : rows_at q w place bytes ≡ p.image = rows_again place q w front (flat_map packed p.chosen) p.image at many wide in
    let moved : bytes ≡ (front ++ flat_map packed p.image) ++ (flat_map packed p.chosen ++ []) = sym (append_assoc front (flat_map packed p.image) (flat_map packed p.chosen)) ∙ ap (λ (x : List ℕ). (front ++ flat_map packed p.image) ++ x) (sym (append-nil (flat_map packed p.chosen))) in
    let chosen : rows_at q v (place + q * packed_len w) bytes ≡ p.chosen = ap (rows_at q v (place + q * packed_len w)) moved ∙ rows_again (place + q * packed_len w) q v (front ++ flat_map packed p.image) [] p.chosen next (many ∙ sym same) wide' in
    ap (λ (x : List (List Bool)). made x (rows_at q v (place + q * packed_len w) bytes)) image ∙ ap (made p.image) chosen

pub matrix_behind : (place : ℕ) (front : List ℕ) (m : Rows) (rest : List ℕ) → length front ≡ place → HaveWidth m.cols m.rows → length m.rows < 2 ^ 64 → m.cols < 2 ^ 64 → matrix_at place (front ++ (matrix_bytes m ++ rest)) ≡ m
matrix_behind place front m rest at wide few narrow =
    let bytes = front ++ (matrix_bytes m ++ rest) in
    let n = m.cols in
    let len = packed_len n in
    let made = λ (height cols : ℕ). let x : Rows = record { cols = cols; rows = map (λ i. unpacked cols (drop ((place + 16) + i * packed_len cols) bytes)) (range_with_len 0 height) } in x in
    let count = length-map-range_with_len (λ i. unpacked n (drop ((place + 16) + i * len) bytes)) 0 (length m.rows) in
    let same : map (λ i. unpacked n (drop ((place + 16) + i * len) bytes)) (range_with_len 0 (length m.rows)) ≡ m.rows =
    ext_get_or [] (map (λ i. unpacked n (drop ((place + 16) + i * len) bytes)) (range_with_len 0 (length m.rows))) m.rows count (λ i l.
    let within : i < length m.rows = omega arith in
    get_or-map-range_with_len (λ i. unpacked n (drop ((place + 16) + i * len) bytes)) 0 (length m.rows) i i [] within (omega arith)
    ∙ ap (unpacked n) (sym (drop-drop (i * len) (place + 16) bytes) ∙ ap (drop (i * len)) (rows_behind place front m rest at))
    ∙ unpacked_row n m.rows rest i wide within) in
    let R : List (List Bool) → Rows = λ rows. record { cols = n; rows = rows } in
    ap (λ h. made h (number_at w64 (place + 8) bytes)) (height_behind place front m rest at few) ∙ ap (made (length m.rows)) (cols_behind place front m rest at narrow) ∙ ap R same

-- ---- the body of a square

-- what fits its numbers
pub record PairOfFits (w v : ℕ) (p : Preimages) : Type 0 where
  pub few : length p.image < 2 ^ 64
  pub as_many : length p.chosen ≡ length p.image
  pub image_wide : HaveWidth w p.image
  pub chosen_wide : HaveWidth v p.chosen

abbrev pub PairFits : ℕ → ℕ → Option Preimages → Type 0
PairFits w v None = Unit {0}
PairFits w v (Some p) = PairOfFits w v p

pub record FitsBytes (b : Body) : Type 0 where
  pub s : b.s < 2 ^ 16
  pub above : b.above < 2 ^ 16
  pub images_few : length b.images.rows < 2 ^ 64
  pub images_narrow : b.images.cols < 2 ^ 64
  pub kernel_few : length b.kernel.rows < 2 ^ 64
  pub kernel_narrow : b.kernel.cols < 2 ^ 64
  pub images_wide : HaveWidth b.images.cols b.images.rows
  pub kernel_wide : HaveWidth b.kernel.cols b.kernel.rows
  pub quasi : PairFits b.images.cols b.kernel.cols b.quasi

head_of : Body → List ℕ
head_of b = kind_of b.quasi ∷ (to_be_bytes w16 b.s ++ to_be_bytes w16 b.above)

front_of : Body → List ℕ
front_of b = head_of b ++ matrix_bytes b.images

-- the bytes before what stands behind the kernel rows
before_quasi : Body → List ℕ
before_quasi b = front_of b ++ matrix_bytes b.kernel

body_first : (b : Body) → body_bytes b ≡ head_of b ++ (matrix_bytes b.images ++ (matrix_bytes b.kernel ++ quasi_bytes b.quasi))
unfolding head_of
body_first b =
    let places = to_be_bytes w16 b.s ++ to_be_bytes w16 b.above in
    ap (λ (x : List ℕ). kind_of b.quasi ∷ x)
    (append_assoc (places ++ matrix_bytes b.images) (matrix_bytes b.kernel) (quasi_bytes b.quasi) ∙ append_assoc places (matrix_bytes b.images) (matrix_bytes b.kernel ++ quasi_bytes b.quasi))

body_second : (b : Body) → body_bytes b ≡ front_of b ++ (matrix_bytes b.kernel ++ quasi_bytes b.quasi)
unfolding head_of front_of
body_second b = body_first b ∙ sym (append_assoc (head_of b) (matrix_bytes b.images) (matrix_bytes b.kernel ++ quasi_bytes b.quasi))

body_third : (b : Body) → body_bytes b ≡ before_quasi b ++ quasi_bytes b.quasi
unfolding before_quasi
body_third b = body_second b ∙ sym (append_assoc (front_of b) (matrix_bytes b.kernel) (quasi_bytes b.quasi))

length-head_of : (b : Body) → length (head_of b) ≡ 5
unfolding head_of
length-head_of b = refl

length-matrix : (m : Rows) → HaveWidth m.cols m.rows → length (matrix_bytes m) ≡ matrix_len m
length-matrix m wide = let rows = length-rows m.cols m.rows wide in omega arith

length-front_of : (b : Body) → HaveWidth b.images.cols b.images.rows → length (front_of b) ≡ 5 + matrix_len b.images
unfolding front_of
length-front_of b wide = let both = length-append (head_of b) (matrix_bytes b.images) in let head = length-head_of b in let images = length-matrix b.images wide in omega arith

length-before_quasi : (b : Body) → HaveWidth b.images.cols b.images.rows → HaveWidth b.kernel.cols b.kernel.rows → length (before_quasi b) ≡ (5 + matrix_len b.images) + matrix_len b.kernel
unfolding before_quasi
length-before_quasi b wide wide' =
    let both = length-append (front_of b) (matrix_bytes b.kernel) in
    let first = length-front_of b wide in
    let kernel = length-matrix b.kernel wide' in
    omega arith

-- image rows and preimages behind the kernel rows, if there are any
quasi_again : (b : Body) (place : ℕ) (o : Option Preimages) → b.quasi ≡ o → length (before_quasi b) ≡ place → PairFits b.images.cols b.kernel.cols o → quasi_part b.images.cols b.kernel.cols place (body_bytes b) ≡ o
quasi_again b place None e at fits =
    let kind : slice_index_or (body_bytes b) 0 0 ≡ SQUARE = ap kind_of e in
    ap (λ n. if nat_eq n REDUCED then Some (preimages_at (number_at w64 place (body_bytes b)) b.images.cols b.kernel.cols (place + 8) (body_bytes b)) else None) kind
quasi_again b place (Some p) e at fits =
    let kind : slice_index_or (body_bytes b) 0 0 ≡ REDUCED = ap kind_of e in
    let bytes = body_bytes b in
    let split : bytes ≡ before_quasi b ++ (to_be_bytes w64 (length p.image) ++ preimages_bytes p) = body_third b ∙ ap (λ (x : Option Preimages). before_quasi b ++ quasi_bytes x) e in
    let q : number_at w64 place bytes ≡ length p.image = ap (number_at w64 place) split ∙ number_behind place (length p.image) (before_quasi b) (preimages_bytes p) at fits.few in
    let front = before_quasi b ++ to_be_bytes w64 (length p.image) in
    let moved : bytes ≡ front ++ preimages_bytes p = split ∙ sym (append_assoc (before_quasi b) (to_be_bytes w64 (length p.image)) (preimages_bytes p)) in
    let len = length-append (before_quasi b) (to_be_bytes w64 (length p.image)) in
    let pair : preimages_at (number_at w64 place bytes) b.images.cols b.kernel.cols (place + 8) bytes ≡ p =
    ap (preimages_at (number_at w64 place bytes) b.images.cols b.kernel.cols (place + 8)) moved ∙ pair_again (place + 8) (number_at w64 place bytes) b.images.cols b.kernel.cols front p (omega arith) q fits.as_many fits.image_wide fits.chosen_wide in
    ap (λ n. if nat_eq n REDUCED then Some (preimages_at (number_at w64 place bytes) b.images.cols b.kernel.cols (place + 8) bytes) else None) kind ∙ ap (λ (x : Preimages). Some x) pair

-- it is what stands at the places of its bytes
pub body_again : (b : Body) → FitsBytes b → body_at (body_bytes b) ≡ b
unfolding head_of
body_again b fits =
    let bytes = body_bytes b in
    let s : number_at w16 1 bytes ≡ b.s = from_be_bytes-to_be_bytes_2 b.s fits.s in
    let above : number_at w16 3 bytes ≡ b.above = from_be_bytes-to_be_bytes_2 b.above fits.above in
    let rest = matrix_bytes b.kernel ++ quasi_bytes b.quasi in
    let images : matrix_at 5 bytes ≡ b.images = ap (matrix_at 5) (body_first b) ∙ matrix_behind 5 (head_of b) b.images rest (length-head_of b) fits.images_wide fits.images_few fits.images_narrow in
    let kernel : matrix_at (5 + matrix_len b.images) bytes ≡ b.kernel = ap (matrix_at (5 + matrix_len b.images)) (body_second b) ∙ matrix_behind (5 + matrix_len b.images) (front_of b) b.kernel (quasi_bytes b.quasi) (length-front_of b fits.images_wide) fits.kernel_wide fits.kernel_few fits.kernel_narrow in
    let kernel' : matrix_at (kernel_place bytes) bytes ≡ b.kernel = ap (λ (m : Rows). matrix_at (5 + matrix_len m) bytes) images ∙ kernel in
    let place : (5 + matrix_len b.images) + matrix_len b.kernel ≡ quasi_place bytes = sym (ap (λ (m : Rows). (5 + matrix_len m) + matrix_len (matrix_at (kernel_place bytes) bytes)) images ∙ ap (λ (m : Rows). (5 + matrix_len b.images) + matrix_len m) kernel') in
    let quasi : quasi_at bytes ≡ b.quasi =
    ap (λ (m : Rows). quasi_part m.cols (matrix_at (kernel_place bytes) bytes).cols (quasi_place bytes) bytes) images
    ∙ ap (λ (m : Rows). quasi_part b.images.cols m.cols (quasi_place bytes) bytes) kernel'
    ∙ quasi_again b (quasi_place bytes) b.quasi refl (length-before_quasi b fits.images_wide fits.kernel_wide ∙ place) fits.quasi in
    let made = λ (s above : ℕ) (images kernel : Rows) (quasi : Option Preimages). let x : Body = record { s = s; above = above; images = images; kernel = kernel; quasi = quasi } in x in
    ap (λ n. made n (number_at w16 3 bytes) (matrix_at 5 bytes) (matrix_at (kernel_place bytes) bytes) (quasi_at bytes)) s
    ∙ ap (λ n. made b.s n (matrix_at 5 bytes) (matrix_at (kernel_place bytes) bytes) (quasi_at bytes)) above
    ∙ ap (λ (m : Rows). made b.s b.above m (matrix_at (kernel_place bytes) bytes) (quasi_at bytes)) images
    ∙ ap (λ (m : Rows). made b.s b.above b.images m (quasi_at bytes)) kernel'
    ∙ ap (made b.s b.above b.images b.kernel) quasi

-- a body is that of what it keeps
preimages_again : (w v : ℕ) (kernel : List (List Bool)) (o : Option Preimages) → option_map preimages_of (option_map (λ p. reduction_with w v p kernel) o) ≡ o
preimages_again w v kernel None = refl
preimages_again w v kernel (Some p) = refl

pub body_of_kept : (b : Body) → body_of b.images.cols b.kernel.cols (kept_in b) ≡ b
body_of_kept b =
    let made = λ (quasi : Option Preimages). let x : Body = record { s = b.s; above = b.above; images = b.images; kernel = b.kernel; quasi = quasi } in x in
    ap made (preimages_again b.images.cols b.kernel.cols b.kernel.rows b.quasi)

-- ---- bytes as a body's parts tell

pub wide_at : (place : ℕ) (bytes : List ℕ) → HaveWidth (matrix_at place bytes).cols (matrix_at place bytes).rows
wide_at place bytes i l =
    let cols = number_at w64 (place + 8) bytes in
    let piece = λ (j : ℕ). unpacked cols (drop ((place + 16) + j * packed_len cols) bytes) in
    let count = length-map-range_with_len piece 0 (number_at w64 place bytes) in
    ap length (get_or-map-range_with_len piece 0 (number_at w64 place bytes) i i [] (omega arith) (omega arith)) ∙ length-unpacked cols (drop ((place + 16) + i * packed_len cols) bytes)

-- the widths of image rows and preimages
wide_rows : (count n place : ℕ) (bytes : List ℕ) → HaveWidth n (rows_at count n place bytes)
wide_rows count n place bytes i l =
    let piece = λ (j : ℕ). unpacked n (drop (place + j * packed_len n) bytes) in
    let size = length-map-range_with_len piece 0 count in
    ap length (get_or-map-range_with_len piece 0 count i i [] (omega arith) (omega arith)) ∙ length-unpacked n (drop (place + i * packed_len n) bytes)

pub wide_pair : (bytes : List ℕ) → IfSome (quasi_at bytes) (λ p. HaveWidth (body_at bytes).images.cols p.image × HaveWidth (body_at bytes).kernel.cols p.chosen)
wide_pair bytes = by_test (nat_eq (slice_index_or bytes 0 0) REDUCED)
  where
    by_test : (b : Bool) → IfSome (if b then Some (preimages_at (number_at w64 (quasi_place bytes) bytes) (body_at bytes).images.cols (body_at bytes).kernel.cols (quasi_place bytes + 8) bytes) else None) (λ p. HaveWidth (body_at bytes).images.cols p.image × HaveWidth (body_at bytes).kernel.cols p.chosen)
    by_test true = (wide_rows (number_at w64 (quasi_place bytes) bytes) (body_at bytes).images.cols (quasi_place bytes + 8) bytes, wide_rows (number_at w64 (quasi_place bytes) bytes) (body_at bytes).kernel.cols _ bytes)
    by_test false = tt

pub height_at : (place : ℕ) (bytes : List ℕ) → length (matrix_at place bytes).rows ≡ number_at w64 place bytes
height_at place bytes =
    let cols = number_at w64 (place + 8) bytes in
    length-map-range_with_len (λ j. unpacked cols (drop ((place + 16) + j * packed_len cols) bytes)) 0 (number_at w64 place bytes)

pub end_at : (place : ℕ) (bytes : List ℕ) → place + matrix_len (matrix_at place bytes) ≡ end_of place bytes
end_at place bytes =
    let height = height_at place bytes in
    let cols = number_at w64 (place + 8) bytes in
    let same = ap (λ h. h * packed_len cols) height in
    omega arith

-- packed rows, and rows that stand behind other bytes
abbrev pub packed_rows : ℕ → ℕ → ℕ → List ℕ → Packed
packed_rows count n place bytes = record { height = count; cols = n; bytes = take (count * packed_len n) (drop place bytes) }

rows_unpacked : (place count n : ℕ) (bytes front rest : List ℕ) (rows : List (List Bool)) → length front ≡ place → bytes ≡ front ++ (flat_map packed rows ++ rest) → HaveWidth n rows → length rows ≡ count → AreUnpacked (packed_rows count n place bytes) rows
rows_unpacked place count n bytes front rest rows at e wide many = record {
  as_many = many;
  widths = wide;
  bytes =
      let len : length (flat_map packed rows) ≡ count * packed_len n = length-rows n rows wide ∙ ap (λ k. k * packed_len n) many in
      sym (ap (λ (x : List ℕ). take (count * packed_len n) (drop place x)) e ∙ ap (take (count * packed_len n)) (drop_at front (flat_map packed rows ++ rest) place at) ∙ take_at (flat_map packed rows) rest (count * packed_len n) len);
}

-- the rows of a matrix
matrix_unpacked : (place : ℕ) (bytes front : List ℕ) (m : Rows) (rest : List ℕ) → length front ≡ place → bytes ≡ front ++ (matrix_bytes m ++ rest) → HaveWidth m.cols m.rows → length m.rows ≡ number_at w64 place bytes → m.cols ≡ number_at w64 (place + 8) bytes → AreUnpacked (packed_at place bytes) m.rows
matrix_unpacked place bytes front m rest at e wide height cols =
    let numbers = to_be_bytes w64 (length m.rows) ++ to_be_bytes w64 m.cols in
    let behind : bytes ≡ (front ++ numbers) ++ (flat_map packed m.rows ++ rest) = e ∙ sym (append_assoc front numbers (flat_map packed m.rows ++ rest)) in
    let len = length-append front numbers in
    rows_unpacked (place + 16) (number_at w64 place bytes) (number_at w64 (place + 8) bytes) bytes (front ++ numbers) rest m.rows (omega arith) behind (subst (λ n. HaveWidth n m.rows) cols wide) height

-- image rows and preimages that were packed so
pub record ArePairOf (p : PackedPair) (q : Preimages) : Type 0 where
  pub image : AreUnpacked p.image q.image
  pub chosen : AreUnpacked p.chosen q.chosen

abbrev pub ArePreimagesOf : Option PackedPair → Option Preimages → Type 0
ArePreimagesOf None None = Unit {0}
ArePreimagesOf None (Some q) = ⊥
ArePreimagesOf (Some p) None = ⊥
ArePreimagesOf (Some p) (Some q) = ArePairOf p q

pair_unpacked : (place q w v : ℕ) (bytes front : List ℕ) (p : Preimages) → length front ≡ place → bytes ≡ front ++ preimages_bytes p → HaveWidth w p.image → HaveWidth v p.chosen → length p.image ≡ q → length p.chosen ≡ q → ArePairOf (pair_at q w v place bytes) p
pair_unpacked place q w v bytes front p at e wide wide' many many' =
    let image = flat_map packed p.image in
    let chosen = flat_map packed p.chosen in
    let len : length image ≡ q * packed_len w = length-rows w p.image wide ∙ ap (λ n. n * packed_len w) many in
    let both = length-append front image in
    let moved : bytes ≡ (front ++ image) ++ (chosen ++ []) = e ∙ sym (append_assoc front image chosen) ∙ ap (λ (x : List ℕ). (front ++ image) ++ x) (sym (append-nil chosen)) in
    record {
      image = rows_unpacked place q w bytes front chosen p.image at e wide many;
      chosen = rows_unpacked (place + q * packed_len w) q v bytes (front ++ image) [] p.chosen (omega arith) moved wide' many';
    }

-- how many bytes image rows and preimages take
length-pair : (q w v : ℕ) (p : Preimages) → HaveWidth w p.image → HaveWidth v p.chosen → length p.image ≡ q → length p.chosen ≡ q → length (preimages_bytes p) ≡ q * packed_len w + q * packed_len v
length-pair q w v p wide wide' many many' =
    length-append (flat_map packed p.image) (flat_map packed p.chosen)
    ∙ ap (λ n. n + length (flat_map packed p.chosen)) (length-rows w p.image wide ∙ ap (λ n. n * packed_len w) many)
    ∙ ap (λ n. q * packed_len w + n) (length-rows v p.chosen wide' ∙ ap (λ n. n * packed_len v) many')

-- the numbers and widths of what stands at a place
length-rows_at : (count n place : ℕ) (bytes : List ℕ) → length (rows_at count n place bytes) ≡ count
length-rows_at count n place bytes = length-map-range_with_len (λ j. unpacked n (drop (place + j * packed_len n) bytes)) 0 count

-- bytes that are the body of what stands at their places are whole, and its rows are those that are packed there
pub record IsBodyOfItself (bytes : List ℕ) : Type 0 where
  pub whole : IsWhole bytes
  pub images : AreUnpacked (outline_at bytes).images (body_at bytes).images.rows
  pub kernel : AreUnpacked (outline_at bytes).kernel (body_at bytes).kernel.rows
  pub quasi : ArePreimagesOf (outline_at bytes).quasi (body_at bytes).quasi

-- what stands behind the kernel rows of a body that is read so
pub record IsTail (bytes : List ℕ) (end w v : ℕ) (o : Option Preimages) : Type 0 where
  pub part : HasQuasiPart bytes end w v
  pub pair : ArePreimagesOf (quasi_part_at bytes end w v) o

tail_found : (bytes front : List ℕ) (end w v : ℕ) (o : Option Preimages) → o ≡ quasi_part w v end bytes → slice_index bytes 0 ≡ kind_of o → length front ≡ end → bytes ≡ front ++ quasi_bytes o → IsTail bytes end w v o
tail_found bytes front end w v None is kind at e =
    let none = no_part bytes end w v kind in
    let len = length-append front (quasi_bytes None) in
    let all = ap length e in
    record { part = inl (kind, omega arith); pair = subst (λ x. ArePreimagesOf x None) (sym none) tt }
tail_found bytes front end w v (Some p) is kind at e =
    let q = number_at w64 end bytes in
    let there : p ≡ preimages_at q w v (end + 8) bytes = same_Some p _ (is ∙ ap (λ n. if nat_eq n REDUCED then Some (preimages_at q w v (end + 8) bytes) else None) kind) in
    let many : length p.image ≡ q = ap (λ (x : Preimages). length x.image) there ∙ length-rows_at q w (end + 8) bytes in
    let many' : length p.chosen ≡ q = ap (λ (x : Preimages). length x.chosen) there ∙ length-rows_at q v ((end + 8) + q * packed_len w) bytes in
    let wide : HaveWidth w p.image = subst (λ (x : Preimages). HaveWidth w x.image) (sym there) (wide_rows q w (end + 8) bytes) in
    let wide' : HaveWidth v p.chosen = subst (λ (x : Preimages). HaveWidth v x.chosen) (sym there) (wide_rows q v ((end + 8) + q * packed_len w) bytes) in
    let number = to_be_bytes w64 (length p.image) in
    let moved : bytes ≡ (front ++ number) ++ preimages_bytes p = e ∙ sym (append_assoc front number (preimages_bytes p)) in
    let ahead = length-append front number in
    let all = ap length moved ∙ length-append (front ++ number) (preimages_bytes p) in
    let len = length-pair q w v p wide wide' many many' in
    record {
      part = inr (kind, omega arith, omega arith);
      pair = subst (λ x. ArePreimagesOf x (Some p)) (sym (a_part bytes end w v kind)) (pair_unpacked (end + 8) q w v bytes (front ++ number) p (omega arith) moved wide wide' many many');
    }

pub of_itself : (bytes : List ℕ) → bytes ≡ body_bytes (body_at bytes) → IsBodyOfItself bytes
of_itself bytes e =
    let b = body_at bytes in
    let place = 5 + matrix_len b.images in
    let first = end_at 5 bytes in
    let wide = wide_at 5 bytes in
    let wide' = wide_at place bytes in
    let second = end_at place bytes in
    let end : end_of place bytes ≡ end_of (end_of 5 bytes) bytes = ap (λ p. end_of p bytes) first in
    let kernel = matrix_unpacked place bytes (front_of b) b.kernel (quasi_bytes b.quasi) (length-front_of b wide) (e ∙ body_second b) wide' (height_at place bytes) refl in
    let tail = tail_found bytes (before_quasi b) (quasi_place bytes) b.images.cols b.kernel.cols b.quasi refl (ap (λ (x : List ℕ). slice_index x 0) e) (length-before_quasi b wide wide') (e ∙ body_third b) in
    let v : b.kernel.cols ≡ (packed_at (end_of 5 bytes) bytes).cols = ap (λ p. number_at w64 (p + 8) bytes) first in
    let P : ℕ → ℕ → Type 0 = λ n c. IsTail bytes n b.images.cols c b.quasi in
    let there = subst (P (end_of (end_of 5 bytes) bytes)) v (subst (λ n. P n b.kernel.cols) (second ∙ end) tail) in
    record {
      whole = there.part;
      images = matrix_unpacked 5 bytes (head_of b) b.images (matrix_bytes b.kernel ++ quasi_bytes b.quasi) (length-head_of b) (e ∙ body_first b) wide (height_at 5 bytes) refl;
      kernel = subst (λ p. AreUnpacked (packed_at p bytes) b.kernel.rows) first kernel;
      quasi = there.pair;
    }

-- ---- whole bytes, with the rows that are packed in them, are a body

number_there : (place : ℕ) (bytes : List ℕ) → place + 8 ≤ length bytes → AreBytes bytes → drop place bytes ≡ to_be_bytes w64 (number_at w64 place bytes) ++ drop (place + 8) bytes
number_there place bytes long h =
    let len = length-drop place bytes in
    let part : length (take 8 (drop place bytes)) ≡ 8 = omega (arith, length-take 8 (drop place bytes)) in
    let number : to_be_bytes w64 (number_at w64 place bytes) ≡ take 8 (drop place bytes) = be_bytes_8 (take 8 (drop place bytes)) (number_at w64 place bytes) part (AreBytes-part place 8 bytes h) refl in
    sym (take-append-drop 8 (drop place bytes)) ∙ ap (λ (x : List ℕ). x ++ drop 8 (drop place bytes)) (sym number) ∙ ap (λ (x : List ℕ). to_be_bytes w64 (number_at w64 place bytes) ++ x) (drop-drop 8 place bytes)

-- rows that are packed from a place on, and what is behind them
rows_there : (place count n : ℕ) (bytes : List ℕ) (rows : List (List Bool)) → AreUnpacked (packed_rows count n place bytes) rows → drop place bytes ≡ flat_map packed rows ++ drop (place + count * packed_len n) bytes
rows_there place count n bytes rows are =
    let k = count * packed_len n in
    sym (take-append-drop k (drop place bytes)) ∙ ap (λ (x : List ℕ). x ++ drop k (drop place bytes)) (sym are.bytes) ∙ ap (λ (x : List ℕ). flat_map packed rows ++ x) (drop-drop k place bytes)

matrix_there : (place : ℕ) (bytes : List ℕ) (rows : List (List Bool)) → end_of place bytes ≤ length bytes → AreBytes bytes → AreUnpacked (packed_at place bytes) rows → drop place bytes ≡ matrix_bytes (record { cols = number_at w64 (place + 8) bytes; rows = rows }) ++ drop (end_of place bytes) bytes
matrix_there place bytes rows long h are =
    let height = number_at w64 place bytes in
    let cols = number_at w64 (place + 8) bytes in
    let next : (place + 8) + 8 ≡ place + 16 = omega arith in
    let first : drop place bytes ≡ to_be_bytes w64 height ++ drop (place + 8) bytes = number_there place bytes (omega arith) h in
    let second : drop (place + 8) bytes ≡ to_be_bytes w64 cols ++ drop (place + 16) bytes = number_there (place + 8) bytes (omega arith) h ∙ ap (λ p. to_be_bytes w64 cols ++ drop p bytes) next in
    let third = rows_there (place + 16) height cols bytes rows are in
    first
    ∙ ap (λ (x : List ℕ). to_be_bytes w64 height ++ x) second
    ∙ ap (λ (x : List ℕ). to_be_bytes w64 height ++ (to_be_bytes w64 cols ++ x)) third
    ∙ ap (λ k. to_be_bytes w64 k ++ (to_be_bytes w64 cols ++ (flat_map packed rows ++ drop (end_of place bytes) bytes))) (sym are.as_many)

-- image rows and preimages, which the bytes end with
pair_there : (place q w v : ℕ) (bytes : List ℕ) (p : Preimages) → length bytes ≡ pair_end q w v place → ArePairOf (pair_at q w v place bytes) p → drop place bytes ≡ preimages_bytes p
pair_there place q w v bytes p len are =
    let next = place + q * packed_len w in
    let image = flat_map packed p.image in
    let chosen = flat_map packed p.chosen in
    let last : drop next bytes ≡ chosen = rows_there next q v bytes p.chosen are.chosen ∙ ap (λ (x : List ℕ). chosen ++ x) (drop_all (next + q * packed_len v) bytes (omega arith)) ∙ append-nil chosen in
    rows_there place q w bytes p.image are.image ∙ ap (λ (x : List ℕ). image ++ x) last

head_there : (k : ℕ) (bytes : List ℕ) → 5 ≤ length bytes → AreBytes bytes → slice_index bytes 0 ≡ k → take 5 bytes ≡ k ∷ (to_be_bytes w16 (number_at w16 1 bytes) ++ to_be_bytes w16 (number_at w16 3 bytes))
head_there k [] long h kind = absurd (omega arith)
head_there k (a ∷ []) long h kind = absurd (omega arith)
head_there k (a ∷ b ∷ []) long h kind = absurd (omega arith)
head_there k (a ∷ b ∷ c ∷ []) long h kind = absurd (omega arith)
head_there k (a ∷ b ∷ c ∷ d ∷ []) long h kind = absurd (omega arith)
head_there k (a ∷ b ∷ c ∷ d ∷ e ∷ rest) long h kind =
    let bytes = a ∷ b ∷ c ∷ d ∷ e ∷ rest in
    let s : to_be_bytes w16 (number_at w16 1 bytes) ≡ b ∷ c ∷ [] = be_bytes_2 (b ∷ c ∷ []) (number_at w16 1 bytes) refl (AreBytes-part 1 2 bytes h) refl in
    let above : to_be_bytes w16 (number_at w16 3 bytes) ≡ d ∷ e ∷ [] = be_bytes_2 (d ∷ e ∷ []) (number_at w16 3 bytes) refl (AreBytes-part 3 2 bytes h) refl in
    sym (ap (λ (x : List ℕ). k ∷ (x ++ to_be_bytes w16 (number_at w16 3 bytes))) s ∙ ap (λ (x : List ℕ). k ∷ (b ∷ c ∷ x)) above ∙ ap (λ n. n ∷ (b ∷ c ∷ d ∷ e ∷ [])) (sym kind))

-- the kind and the third part of whole bytes
pub record TailIs (bytes : List ℕ) (end : ℕ) (o : Option Preimages) : Type 0 where
  pub kind : slice_index bytes 0 ≡ kind_of o
  pub rest : drop end bytes ≡ quasi_bytes o

tail_there : (bytes : List ℕ) (end w v : ℕ) (o : Option Preimages) → AreBytes bytes → HasQuasiPart bytes end w v → ArePreimagesOf (quasi_part_at bytes end w v) o → TailIs bytes end o
tail_there bytes end w v None h (inl p) are = record { kind = p.0; rest = let l = p.1 in drop_all end bytes (omega arith) }
tail_there bytes end w v (Some q) h (inl p) are = absurd (subst (λ x. ArePreimagesOf x (Some q)) (no_part bytes end w v p.0) are)
tail_there bytes end w v None h (inr p) are = absurd (subst (λ x. ArePreimagesOf x None) (a_part bytes end w v p.0) are)
tail_there bytes end w v (Some q) h (inr p) are =
    let n = number_at w64 end bytes in
    let pair = subst (λ x. ArePreimagesOf x (Some q)) (a_part bytes end w v p.0) are in
    record {
      kind = p.0;
      rest =
          number_there end bytes p.1 h
          ∙ ap (λ (x : List ℕ). to_be_bytes w64 n ++ x) (pair_there (end + 8) n w v bytes q p.2 pair)
          ∙ ap (λ k. to_be_bytes w64 k ++ preimages_bytes q) (sym pair.image.as_many);
    }

-- the body with these rows
abbrev pub body_with : List ℕ → List (List Bool) → List (List Bool) → Option Preimages → Body
body_with bytes images kernel quasi = record {
  s = (outline_at bytes).s;
  above = (outline_at bytes).above;
  images = record { cols = (outline_at bytes).images.cols; rows = images };
  kernel = record { cols = (outline_at bytes).kernel.cols; rows = kernel };
  quasi = quasi;
}

pub whole_body : (bytes : List ℕ) (images kernel : List (List Bool)) (quasi : Option Preimages) → IsWhole bytes → AreBytes bytes → AreUnpacked (outline_at bytes).images images → AreUnpacked (outline_at bytes).kernel kernel → ArePreimagesOf (outline_at bytes).quasi quasi → bytes ≡ body_bytes (body_with bytes images kernel quasi)
unfolding head_of
whole_body bytes images kernel quasi whole h xs ys zs =
    let b = body_with bytes images kernel quasi in
    let p = end_of 5 bytes in
    let q = end_of p bytes in
    let all = part_within bytes q (packed_at 5 bytes).cols (packed_at p bytes).cols whole in
    let tail = tail_there bytes q (packed_at 5 bytes).cols (packed_at p bytes).cols quasi h whole zs in
    let first : drop 5 bytes ≡ matrix_bytes b.images ++ drop p bytes = matrix_there 5 bytes images (omega arith) h xs in
    let second : drop p bytes ≡ matrix_bytes b.kernel ++ drop q bytes = matrix_there p bytes kernel all h ys in
    sym (take-append-drop 5 bytes)
    ∙ ap (λ (x : List ℕ). x ++ drop 5 bytes) (head_there (kind_of quasi) bytes (omega arith) h tail.kind)
    ∙ ap (λ (x : List ℕ). head_of b ++ x) (first ∙ ap (λ (x : List ℕ). matrix_bytes b.images ++ x) (second ∙ ap (λ (x : List ℕ). matrix_bytes b.kernel ++ x) tail.rest))
    ∙ sym (body_first b)

-- ---- the body of a quasi-inverse

-- what fits its numbers
pub record FitsAddition (a : Addition) : Type 0 where
  pub s : a.s < 2 ^ 16
  pub above : a.above < 2 ^ 16
  pub cols_narrow : a.cols < 2 ^ 64
  pub height_narrow : a.height < 2 ^ 64
  pub pair : PairOfFits a.cols a.height a.preimages

-- its kind and its numbers
addition_head : Addition → List ℕ
addition_head a = QUASI ∷ (to_be_bytes w16 a.s ++ to_be_bytes w16 a.above ++ to_be_bytes w64 (length a.preimages.image) ++ to_be_bytes w64 a.cols ++ to_be_bytes w64 a.height)

addition_first : (a : Addition) → addition_bytes a ≡ addition_head a ++ preimages_bytes a.preimages
unfolding addition_head
addition_first a = refl

length-addition_head : (a : Addition) → length (addition_head a) ≡ 29
unfolding addition_head
length-addition_head a = refl

-- it is what stands at the places of its bytes
pub addition_again : (a : Addition) → FitsAddition a → addition_at (addition_bytes a) ≡ a
addition_again a fits =
    let bytes = addition_bytes a in
    let q = length a.preimages.image in
    let s : number_at w16 1 bytes ≡ a.s = from_be_bytes-to_be_bytes_2 a.s fits.s in
    let above : number_at w16 3 bytes ≡ a.above = from_be_bytes-to_be_bytes_2 a.above fits.above in
    let count : number_at w64 5 bytes ≡ q = from_be_bytes-to_be_bytes_8 q fits.pair.few in
    let cols : number_at w64 13 bytes ≡ a.cols = from_be_bytes-to_be_bytes_8 a.cols fits.cols_narrow in
    let height : number_at w64 21 bytes ≡ a.height = from_be_bytes-to_be_bytes_8 a.height fits.height_narrow in
    let pair : preimages_at q a.cols a.height 29 bytes ≡ a.preimages = ap (preimages_at q a.cols a.height 29) (addition_first a) ∙ pair_again 29 q a.cols a.height (addition_head a) a.preimages (length-addition_head a) refl fits.pair.as_many fits.pair.image_wide fits.pair.chosen_wide in
    let made = λ (s above q cols height : ℕ). let x : Addition = record { s = s; above = above; cols = cols; height = height; preimages = preimages_at q cols height 29 bytes } in x in
    let with_pair = λ (p : Preimages). let x : Addition = record { s = a.s; above = a.above; cols = a.cols; height = a.height; preimages = p } in x in
    ap (λ n. made n (number_at w16 3 bytes) (number_at w64 5 bytes) (number_at w64 13 bytes) (number_at w64 21 bytes)) s
    ∙ ap (λ n. made a.s n (number_at w64 5 bytes) (number_at w64 13 bytes) (number_at w64 21 bytes)) above
    ∙ ap (λ n. made a.s a.above n (number_at w64 13 bytes) (number_at w64 21 bytes)) count
    ∙ ap (λ n. made a.s a.above q n (number_at w64 21 bytes)) cols
    ∙ ap (made a.s a.above q a.cols) height
    ∙ ap with_pair pair

-- bytes that are the body of what stands at their places are whole, and its rows are those that are packed there
pub record IsAdditionOfItself (bytes : List ℕ) : Type 0 where
  pub whole : IsWholeAddition bytes
  pub quasi : ArePairOf (addition_outline_at bytes).quasi (addition_at bytes).preimages

pub wide_addition : (bytes : List ℕ) → HaveWidth (addition_at bytes).cols (addition_at bytes).preimages.image × HaveWidth (addition_at bytes).height (addition_at bytes).preimages.chosen
wide_addition bytes = (
  wide_rows (number_at w64 5 bytes) (number_at w64 13 bytes) 29 bytes,
  wide_rows (number_at w64 5 bytes) (number_at w64 21 bytes) (29 + number_at w64 5 bytes * packed_len (number_at w64 13 bytes)) bytes,
)

pub addition_itself : (bytes : List ℕ) → bytes ≡ addition_bytes (addition_at bytes) → IsAdditionOfItself bytes
addition_itself bytes e =
    let a = addition_at bytes in
    let p = a.preimages in
    let q = number_at w64 5 bytes in
    let many : length p.image ≡ q = length-rows_at q a.cols 29 bytes in
    let many' : length p.chosen ≡ q = length-rows_at q a.height (29 + q * packed_len a.cols) bytes in
    let wide = wide_addition bytes in
    let split : bytes ≡ addition_head a ++ preimages_bytes p = e ∙ addition_first a in
    let head = length-addition_head a in
    let all = ap length split ∙ length-append (addition_head a) (preimages_bytes p) in
    let len = length-pair q a.cols a.height p wide.0 wide.1 many many' in
    record {
      whole = record { kind = ap (λ (x : List ℕ). slice_index x 0) e; length_is = omega arith };
      quasi = pair_unpacked 29 q a.cols a.height bytes (addition_head a) p head split wide.0 wide.1 many many';
    }

-- the body with these rows
abbrev pub addition_with : List ℕ → Preimages → Addition
addition_with bytes p = record {
  s = number_at w16 1 bytes;
  above = number_at w16 3 bytes;
  cols = number_at w64 13 bytes;
  height = number_at w64 21 bytes;
  preimages = p;
}

pub whole_addition : (bytes : List ℕ) (p : Preimages) → IsWholeAddition bytes → AreBytes bytes → ArePairOf (addition_outline_at bytes).quasi p → bytes ≡ addition_bytes (addition_with bytes p)
unfolding addition_head
whole_addition bytes p whole h are =
    let a = addition_with bytes p in
    let q = number_at w64 5 bytes in
    let w = number_at w64 13 bytes in
    let v = number_at w64 21 bytes in
    let all = whole.length_is in
    let first : drop 5 bytes ≡ to_be_bytes w64 q ++ drop 13 bytes = number_there 5 bytes (omega arith) h in
    let second : drop 13 bytes ≡ to_be_bytes w64 w ++ drop 21 bytes = number_there 13 bytes (omega arith) h in
    let third : drop 21 bytes ≡ to_be_bytes w64 v ++ drop 29 bytes = number_there 21 bytes (omega arith) h in
    let last : drop 29 bytes ≡ preimages_bytes p = pair_there 29 q w v bytes p all are in
    let behind : drop 5 bytes ≡ to_be_bytes w64 (length p.image) ++ (to_be_bytes w64 w ++ (to_be_bytes w64 v ++ preimages_bytes p)) =
    first
    ∙ ap (λ (x : List ℕ). to_be_bytes w64 q ++ x) (second ∙ ap (λ (x : List ℕ). to_be_bytes w64 w ++ x) (third ∙ ap (λ (x : List ℕ). to_be_bytes w64 v ++ x) last))
    ∙ ap (λ n. to_be_bytes w64 n ++ (to_be_bytes w64 w ++ (to_be_bytes w64 v ++ preimages_bytes p))) (sym are.image.as_many) in
    sym (take-append-drop 5 bytes)
    ∙ ap (λ (x : List ℕ). x ++ drop 5 bytes) (head_there QUASI bytes (omega arith) h whole.kind)
    ∙ ap (λ (x : List ℕ). (QUASI ∷ (to_be_bytes w16 a.s ++ to_be_bytes w16 a.above)) ++ x) behind
    ∙ sym (addition_first a)
