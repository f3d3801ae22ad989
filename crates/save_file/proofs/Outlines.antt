-- Where the parts of a body end.
use Rattle.std.proofs.Common.{◌≡◌, ℕ, ◌+◌, ◌*◌, ◌<◌, ◌≤◌, nat_eq, if◌then◌else◌, List, length, drop, Option, None, Some, inl, inr, refl, sym, ◌∙◌, ap, subst, arith}
use Rattle.std.specs.Prelude.{slice_index}
use Rattle.std.specs.Int.{w16, w64}
use Rattle.std.proofs.lemmas.Option.{same_Some, none-some}
use Rattle.std.proofs.lemmas.List.{length-take-le, length-drop}
use Rattle.save_file.specs.Reading.{number_at, packed_len}
use Rattle.save_file.specs.declared.outline.TheConstants.{SQUARE, REDUCED}
use Rattle.save_file.specs.Inside.Outline.{Packed, packed_at, end_of, PackedPair, pair_at, pair_end, quasi_part_at, HasQuasiPart, Outline, outline_at, IsWhole, AdditionOutline, addition_outline_at, IsWholeAddition}

-- packed rows take as many bytes as their numbers say
pub length_packed_at : (place : ℕ) (bytes : List ℕ) (p : Packed) → end_of place bytes ≤ length bytes → p ≡ packed_at place bytes → (place + 16) + length p.bytes ≡ end_of place bytes
length_packed_at place bytes p long e =
    let n = number_at w64 place bytes * packed_len (number_at w64 (place + 8) bytes) in
    let rest = length-drop (place + 16) bytes in
    let len = length-take-le n (drop (place + 16) bytes) (omega arith) in
    let same = ap (λ (x : Packed). length x.bytes) e in
    omega arith

-- which kind the bytes are of says whether there is a third part
pub no_part : (bytes : List ℕ) (end w v : ℕ) → slice_index bytes 0 ≡ SQUARE → quasi_part_at bytes end w v ≡ None
no_part bytes end w v kind = ap (λ n. if nat_eq n REDUCED then Some (pair_at (number_at w64 end bytes) w v (end + 8) bytes) else None) kind

pub a_part : (bytes : List ℕ) (end w v : ℕ) → slice_index bytes 0 ≡ REDUCED → quasi_part_at bytes end w v ≡ Some (pair_at (number_at w64 end bytes) w v (end + 8) bytes)
a_part bytes end w v kind = ap (λ n. if nat_eq n REDUCED then Some (pair_at (number_at w64 end bytes) w v (end + 8) bytes) else None) kind

-- the bytes reach to the end of the kernel rows
pub part_within : (bytes : List ℕ) (end w v : ℕ) → HasQuasiPart bytes end w v → end ≤ length bytes
part_within bytes end w v (inl p) = let e = p.1 in omega arith
part_within bytes end w v (inr p) = let l = p.1 in omega arith

-- the parts, put together
abbrev pub outline : ℕ → ℕ → Packed → Packed → Option PackedPair → Outline
outline s above images kernel quasi = record { s = s; above = above; images = images; kernel = kernel; quasi = quasi }

module _ (bytes : List ℕ) (images : Packed) (long : end_of 5 bytes ≤ length bytes) (is : images ≡ packed_at 5 bytes) where
  place_is : 21 + length images.bytes ≡ end_of 5 bytes
  place_is = let e = length_packed_at 5 bytes images long is in omega arith

  end_is : end_of (21 + length images.bytes) bytes ≡ end_of (end_of 5 bytes) bytes
  end_is = ap (λ p. end_of p bytes) place_is

  pub too_short : length bytes < end_of (21 + length images.bytes) bytes → IsWhole bytes → ⊥
  too_short l whole =
      let all = part_within bytes (end_of (end_of 5 bytes) bytes) (packed_at 5 bytes).cols (packed_at (end_of 5 bytes) bytes).cols whole in
      let end = end_is in
      omega arith

  module _ (kernel : Packed) (long' : end_of (21 + length images.bytes) bytes ≤ length bytes) (is' : kernel ≡ packed_at (21 + length images.bytes) bytes) (end : ℕ) (end_at : end ≡ ((21 + length images.bytes) + 16) + length kernel.bytes) where
    end_found : end ≡ end_of (end_of 5 bytes) bytes
    end_found = end_at ∙ length_packed_at (21 + length images.bytes) bytes kernel long' is' ∙ end_is

    kernel_found : kernel ≡ packed_at (end_of 5 bytes) bytes
    kernel_found = is' ∙ ap (λ p. packed_at p bytes) place_is

    w_found : images.cols ≡ (packed_at 5 bytes).cols
    w_found = ap (λ (x : Packed). x.cols) is

    v_found : kernel.cols ≡ (packed_at (end_of 5 bytes) bytes).cols
    v_found = ap (λ (x : Packed). x.cols) kernel_found

    pub whole_from : HasQuasiPart bytes end images.cols kernel.cols → IsWhole bytes
    whole_from h =
        subst (λ n. HasQuasiPart bytes (end_of (end_of 5 bytes) bytes) (packed_at 5 bytes).cols n) v_found
        (subst (λ n. HasQuasiPart bytes (end_of (end_of 5 bytes) bytes) n kernel.cols) w_found (subst (λ n. HasQuasiPart bytes n images.cols kernel.cols) end_found h))

    pub part_from : IsWhole bytes → HasQuasiPart bytes end images.cols kernel.cols
    part_from h =
        subst (λ n. HasQuasiPart bytes n images.cols kernel.cols) (sym end_found)
        (subst (λ n. HasQuasiPart bytes (end_of (end_of 5 bytes) bytes) n kernel.cols) (sym w_found) (subst (λ n. HasQuasiPart bytes (end_of (end_of 5 bytes) bytes) (packed_at 5 bytes).cols n) (sym v_found) h))

    pub outline_found : (s above : ℕ) (quasi : Option PackedPair) → s ≡ number_at w16 1 bytes → above ≡ number_at w16 3 bytes → quasi ≡ quasi_part_at bytes end images.cols kernel.cols → outline s above images kernel quasi ≡ outline_at bytes
    outline_found s above quasi e1 e2 e3 =
        let a = number_at w16 1 bytes in
        let b = number_at w16 3 bytes in
        let quasi_is : quasi ≡ quasi_part_at bytes (end_of (end_of 5 bytes) bytes) (packed_at 5 bytes).cols (packed_at (end_of 5 bytes) bytes).cols =
        e3 ∙ ap (λ n. quasi_part_at bytes n images.cols kernel.cols) end_found ∙ ap (λ n. quasi_part_at bytes (end_of (end_of 5 bytes) bytes) n kernel.cols) w_found ∙ ap (quasi_part_at bytes (end_of (end_of 5 bytes) bytes) (packed_at 5 bytes).cols) v_found in
        ap (λ n. outline n above images kernel quasi) e1
        ∙ ap (λ n. outline a n images kernel quasi) e2
        ∙ ap (λ (x : Packed). outline a b x kernel quasi) is
        ∙ ap (λ (x : Packed). outline a b (packed_at 5 bytes) x quasi) kernel_found
        ∙ ap (outline a b (packed_at 5 bytes) (packed_at (end_of 5 bytes) bytes)) quasi_is

-- ---- whole bytes

pub images_length : (bytes : List ℕ) (o : Outline) → IsWhole bytes → o ≡ outline_at bytes → length o.images.bytes ≡ o.images.height * packed_len o.images.cols
images_length bytes o whole e =
    let all = part_within bytes (end_of (end_of 5 bytes) bytes) (packed_at 5 bytes).cols (packed_at (end_of 5 bytes) bytes).cols whole in
    let P : Outline → Type 0 = λ x. length x.images.bytes ≡ x.images.height * packed_len x.images.cols in
    let len = length_packed_at 5 bytes (packed_at 5 bytes) (omega arith) refl in
    let here : P (outline_at bytes) = omega arith in
    subst P (sym e) here

pub kernel_length : (bytes : List ℕ) (o : Outline) → IsWhole bytes → o ≡ outline_at bytes → length o.kernel.bytes ≡ o.kernel.height * packed_len o.kernel.cols
kernel_length bytes o whole e =
    let all = part_within bytes (end_of (end_of 5 bytes) bytes) (packed_at 5 bytes).cols (packed_at (end_of 5 bytes) bytes).cols whole in
    let P : Outline → Type 0 = λ x. length x.kernel.bytes ≡ x.kernel.height * packed_len x.kernel.cols in
    let len = length_packed_at (end_of 5 bytes) bytes (packed_at (end_of 5 bytes) bytes) all refl in
    let here : P (outline_at bytes) = omega arith in
    subst P (sym e) here

-- the third part of whole bytes
pub record IsPairOf (o : Outline) (p : PackedPair) : Type 0 where
  pub image_length : length p.image.bytes ≡ p.image.height * packed_len p.image.cols
  pub chosen_length : length p.chosen.bytes ≡ p.chosen.height * packed_len p.chosen.cols
  pub image_cols : p.image.cols ≡ o.images.cols
  pub chosen_cols : p.chosen.cols ≡ o.kernel.cols
  pub as_many : p.chosen.height ≡ p.image.height

-- rows that the bytes end with take as many bytes as their numbers say
pub record AreLong (p : PackedPair) : Type 0 where
  pub image : length p.image.bytes ≡ p.image.height * packed_len p.image.cols
  pub chosen : length p.chosen.bytes ≡ p.chosen.height * packed_len p.chosen.cols

pub pair_long : (q w v place : ℕ) (bytes : List ℕ) → length bytes ≡ pair_end q w v place → AreLong (pair_at q w v place bytes)
pair_long q w v place bytes len =
    let first = length-drop place bytes in
    let second = length-drop (place + q * packed_len w) bytes in
    record {
      image = length-take-le (q * packed_len w) (drop place bytes) (omega arith);
      chosen = length-take-le (q * packed_len v) (drop (place + q * packed_len w) bytes) (omega arith);
    }

pair_of_part : (bytes : List ℕ) (end w v : ℕ) (p : PackedPair) → HasQuasiPart bytes end w v → quasi_part_at bytes end w v ≡ Some p → (length bytes ≡ pair_end (number_at w64 end bytes) w v (end + 8)) × (p ≡ pair_at (number_at w64 end bytes) w v (end + 8) bytes)
pair_of_part bytes end w v p (inl h) e = absurd (none-some p (sym (no_part bytes end w v h.0) ∙ e))
pair_of_part bytes end w v p (inr h) e = (h.2, same_Some p _ (sym e ∙ a_part bytes end w v h.0))

pub pair_of_whole : (bytes : List ℕ) (o : Outline) (p : PackedPair) → IsWhole bytes → o ≡ outline_at bytes → o.quasi ≡ Some p → IsPairOf o p
pair_of_whole bytes o p whole e some =
    let end = end_of (end_of 5 bytes) bytes in
    let w = (packed_at 5 bytes).cols in
    let v = (packed_at (end_of 5 bytes) bytes).cols in
    let found = pair_of_part bytes end w v p whole (sym (ap (λ (x : Outline). x.quasi) e) ∙ some) in
    let long = pair_long (number_at w64 end bytes) w v (end + 8) bytes found.0 in
    let here : IsPairOf (outline_at bytes) (pair_at (number_at w64 end bytes) w v (end + 8) bytes) = record { image_length = long.image; chosen_length = long.chosen; image_cols = refl; chosen_cols = refl; as_many = refl } in
    subst (λ (x : Outline). IsPairOf x p) (sym e) (subst (IsPairOf (outline_at bytes)) (sym found.1) here)

-- those of a whole quasi-inverse
pub addition_long : (bytes : List ℕ) (o : AdditionOutline) → IsWholeAddition bytes → o ≡ addition_outline_at bytes → AreLong o.quasi
addition_long bytes o whole e = subst (λ (x : AdditionOutline). AreLong x.quasi) (sym e) (pair_long (number_at w64 5 bytes) (number_at w64 13 bytes) (number_at w64 21 bytes) 29 bytes whole.length_is)
