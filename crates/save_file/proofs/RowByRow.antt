-- Packed rows taken one after the other.
use Rattle.std.proofs.Common.{◌≡◌, ℕ, zero, suc, ◌+◌, ◌-◌, ◌*◌, ◌<◌, ◌≤◌, Bool, List, [], ◌∷◌, ◌++◌, length, take, drop, sym, ◌∙◌, ap, append_assoc, arith}
use Rattle.std.specs.List.{flat_map}
use Rattle.std.proofs.lemmas.List.{append-nil, length-drop, take-append-drop, take_at, drop_at, drop-drop, length_push}
use Rattle.std.proofs.lemmas.List.Concat.{flat_map-append}
use Rattle.f2_vec.specs.Spans.{row, HaveWidth}
use Rattle.f2_vec.proofs.Spans.{HaveWidth-head, HaveWidth-tail, HaveWidth-append, HaveWidth-cons}
use Rattle.f2_vec.specs.Bytes.{packed, ArePacked}
use Rattle.save_file.specs.Reading.{packed_len}
use Rattle.save_file.specs.Inside.Outline.{Packed, AreUnpacked}
use Rattle.f2_vec.proofs.Bytes.{length-packed}
use Rattle.save_file.proofs.Unpacking.{length-rows}

-- these rows are the first i, and the bytes of the others are left
pub record AreUnpackedTo (p : Packed) (i : ℕ) (rows : List (List Bool)) (rest : List ℕ) : Type 0 where
  pub as_many : length rows ≡ i
  pub within : i ≤ p.height
  pub widths : HaveWidth p.cols rows
  pub parts : flat_map packed rows ++ rest ≡ p.bytes
  pub left : length rest ≡ (p.height - i) * packed_len p.cols

-- the next row is there
pub row_left : (p : Packed) (i : ℕ) (rows : List (List Bool)) (rest : List ℕ) → AreUnpackedTo p i rows rest → i < p.height → packed_len p.cols ≤ length rest
row_left p i rows rest h l =
    let left = h.left in
    let n = packed_len p.cols in
    let more : p.height - i ≡ suc (p.height - (i + 1)) = omega arith in
    let same = ap (λ k. k * n) more in
    let sum : suc (p.height - (i + 1)) * n ≡ n + (p.height - (i + 1)) * n = omega arith in
    omega arith

pub one_more_unpacked : (p : Packed) (i : ℕ) (rows : List (List Bool)) (rest : List ℕ) (v : List Bool) → AreUnpackedTo p i rows rest → i < p.height → length v ≡ p.cols → packed v ≡ take (packed_len p.cols) rest → AreUnpackedTo p (i + 1) (rows ++ v ∷ []) (drop (packed_len p.cols) rest)
one_more_unpacked p i rows rest v h l wide is =
    let n = packed_len p.cols in
    let left = h.left in
    let count = h.as_many in
    let long = row_left p i rows rest h l in
    record {
      as_many = let more = length_push rows v in omega arith;
      within = omega arith;
      widths = HaveWidth-append p.cols rows (v ∷ []) h.widths (HaveWidth-cons p.cols v [] wide (λ j m. absurd (omega arith)));
      parts =
          ap (λ (x : List ℕ). x ++ drop n rest) (flat_map-append packed rows (v ∷ []))
          ∙ append_assoc (flat_map packed rows) (packed v ++ []) (drop n rest)
          ∙ ap (λ (x : List ℕ). flat_map packed rows ++ (x ++ drop n rest)) (append-nil (packed v) ∙ is)
          ∙ ap (λ (x : List ℕ). flat_map packed rows ++ x) (take-append-drop n rest)
          ∙ h.parts;
      left =
          let more : p.height - i ≡ suc (p.height - (i + 1)) = omega arith in
          let same = ap (λ k. k * n) more in
          let sum : suc (p.height - (i + 1)) * n ≡ n + (p.height - (i + 1)) * n = omega arith in
          let len = length-drop n rest in
          omega arith;
    }

-- the bytes of a row among those of all
packed_row : (n : ℕ) (rows : List (List Bool)) (i : ℕ) → HaveWidth n rows → i < length rows → take (packed_len n) (drop (i * packed_len n) (flat_map packed rows)) ≡ packed (row rows i)
packed_row n [] i wide l = absurd (omega arith)
packed_row n (r ∷ rows) zero wide l =
    let none : 0 * packed_len n ≡ 0 = omega arith in
    let len : length (packed r) ≡ packed_len n = length-packed r ∙ ap packed_len (HaveWidth-head n r rows wide) in
    ap (λ d. take (packed_len n) (drop d (packed r ++ flat_map packed rows))) none ∙ take_at (packed r) (flat_map packed rows) (packed_len n) len
packed_row n (r ∷ rows) (suc i) wide l =
    let len = packed_len n in
    let first : length (packed r) ≡ len = length-packed r ∙ ap packed_len (HaveWidth-head n r rows wide) in
    let step : suc i * len ≡ len + i * len = omega arith in
    ap (λ d. take len (drop d (packed r ++ flat_map packed rows))) step
    ∙ ap (take len) (sym (drop-drop (i * len) len (packed r ++ flat_map packed rows)) ∙ ap (drop (i * len)) (drop_at (packed r) (flat_map packed rows) len first))
    ∙ packed_row n rows i (HaveWidth-tail n r rows wide) (omega arith)

-- where rows are packed so, the next bytes are those of one of them
pub next_packed : (p : Packed) (i : ℕ) (rows : List (List Bool)) (rest : List ℕ) (all : List (List Bool)) → AreUnpackedTo p i rows rest → i < p.height → AreUnpacked p all → ArePacked p.cols (take (packed_len p.cols) rest)
next_packed p i rows rest all h l are =
    let n = packed_len p.cols in
    let count = are.as_many in
    let front : length (flat_map packed rows) ≡ i * n = length-rows p.cols rows h.widths ∙ ap (λ k. k * n) h.as_many in
    let rest_is : drop (i * n) (flat_map packed all) ≡ rest = ap (drop (i * n)) (are.bytes ∙ sym h.parts) ∙ drop_at (flat_map packed rows) rest (i * n) front in
    record {
      vector = row all i;
      length_of = are.widths i (omega arith);
      bytes_of = sym (packed_row p.cols all i are.widths (omega arith)) ∙ ap (take n) rest_is;
    }
