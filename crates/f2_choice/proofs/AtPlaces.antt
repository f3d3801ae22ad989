-- Columns at some places, filled in blocks of 64 rows.
use Rattle.std.specs.Prelude.{◌==◌}
use Rattle.std.specs.Borrow.{Bor}
use Rattle.std.proofs.Common.{◌≡◌, ◌≢◌, ℕ, ◌+◌, ◌-◌, ◌*◌, ◌/◌, ◌%◌, ◌<◌, ◌≤◌, Bool, false, List, [], ◌++◌, length, map, get_or, take, drop, replicate, set, refl, ap, sym, ◌∙◌, arith, inl, inr}
use Rattle.std.specs.Int.{bit_at}
use Rattle.std.proofs.lemmas.Bool.{cases_lt, cases_eq}
use Rattle.std.proofs.lemmas.List.{get_or_read, ext_get_or, get_or-map, get_or_past, take-append-le, take_all, length-map, length-set, get_or-set_same, get_or-set_other, length-replicate, get_or-replicate}
use Rattle.std.proofs.lemmas.Nat.Bits.{bit_at-zero}
use Rattle.f2_vec.specs.Vectors.{bit}
use Rattle.f2_vec.specs.Spans.{row, HaveWidth}
use Rattle.f2_choice.specs.Inside.Columns.{column, IsBlockOf, columns_at, IsTurnedBlock, AreFilledAt, AreFilledTo}

-- ---- rows behind references

abbrev pub read : List (Bor (List Bool)) → List (List Bool)
read rows = map (λ v. v.now) rows

pub length-read : (rows : List (Bor (List Bool))) → length (read rows) ≡ length rows
length-read rows = length-map rows (λ v. v.now)

pub row-read : (rows : List (Bor (List Bool))) (n : ℕ) (v : Bor (List Bool)) → n < length rows → v ≡ get_or rows n v → v.now ≡ row (read rows) n
row-read rows n v l e = ap (λ b. b.now) e ∙ sym (get_or-map (λ b. b.now) rows n v [] l)

-- ---- a block

-- the first n words are those at place j of the rows from row 64 i on, and the others are 0
pub record IsBlockUpTo (n i j : ℕ) (rows : List (List Bool)) (words : List ℕ) : Type 0 where
  pub size : length words ≡ 64
  pub holds : (r b : ℕ) → r < 64 → b < 64 → r < n → (bit_at (get_or words r 0) b == 1) ≡ bit (row rows (64 * i + r)) (64 * j + b)
  pub rest : (r : ℕ) → n ≤ r → r < 64 → get_or words r 0 ≡ 0

pub IsBlockUpTo-start : (i j : ℕ) (rows : List (List Bool)) → IsBlockUpTo 0 i j rows (replicate {A = ℕ} 64 0)
IsBlockUpTo-start i j rows = record {
  size = length-replicate {A = ℕ} 64 0;
  holds = λ r b l k m. absurd (omega arith);
  rest = λ r l m. get_or-replicate {A = ℕ} 64 r 0 0 m;
}

pub IsBlockUpTo-more : (n i j x : ℕ) (rows : List (List Bool)) (words : List ℕ) → n < 64 → ((b : ℕ) → b < 64 → (bit_at x b == 1) ≡ bit (row rows (64 * i + n)) (64 * j + b)) → IsBlockUpTo n i j rows words → IsBlockUpTo (n + 1) i j rows (set words n x)
IsBlockUpTo-more n i j x rows words l here h = record {
  size = length-set words n x ∙ h.size;
  holds = λ r b m k q. elim (cases_eq r n) [
    | inl e ↦
        ap (λ z. bit_at (get_or (set words n x) z 0) b == 1) e
        ∙ ap (λ z. bit_at z b == 1) (get_or-set_same words n x 0 (omega (arith, h.size)))
        ∙ here b k
        ∙ ap (λ z. bit (row rows (64 * i + z)) (64 * j + b)) (sym e)
    | inr d ↦ ap (λ z. bit_at z b == 1) (get_or-set_other words n r x 0 d) ∙ h.holds r b m k (omega arith)
  ];
  rest = λ r m q. let d : r ≢ n = omega arith in get_or-set_other words n r x 0 d ∙ h.rest r (omega arith) q;
}

pub IsBlockUpTo-end : (n i j : ℕ) (rows : List (List Bool)) (words : List ℕ) → ((r : ℕ) → n ≤ r → r < 64 → length rows ≤ 64 * i + r) → IsBlockUpTo n i j rows words → IsBlockOf i j rows words
IsBlockUpTo-end n i j rows words past h = λ r b m k. elim (cases_lt r n) [
  | inl l ↦ h.holds r b m k l
  | inr g ↦
      ap (λ z. bit_at z b == 1) (h.rest r g m)
      ∙ ap (λ z. z == 1) (bit_at-zero b)
      ∙ sym (ap (λ v. bit v (64 * j + b)) (get_or_past rows (64 * i + r) [] (past r g m)) ∙ get_or_past [] (64 * j + b) false (omega arith))
]

-- the words with rows and columns exchanged
pub turned : (i j : ℕ) (rows : List (List Bool)) (block words : List ℕ) → IsBlockOf i j rows block → ((r c : ℕ) → r < 64 → c < 64 → bit_at (get_or words r 0) c ≡ bit_at (get_or block c 0) r) → IsTurnedBlock i j rows words
turned i j rows block words h e = λ c b l m. ap (λ z. z == 1) (e c b l m) ∙ h b c m l

-- which are zero where these are
pub turned_zeros : (i j : ℕ) (rows : List (List Bool)) (block : List ℕ) → IsBlockOf i j rows block → block ≡ replicate 64 0 → IsTurnedBlock i j rows block
turned_zeros i j rows block h e = turned i j rows block block h (λ r c l m. ap (λ z. bit_at z c) (zero r l) ∙ bit_at-zero c ∙ sym (ap (λ z. bit_at z r) (zero c m) ∙ bit_at-zero r)) where
  zero : (r : ℕ) → r < 64 → get_or block r 0 ≡ 0
  zero r l = ap (λ z. get_or z r 0) e ∙ get_or-replicate {A = ℕ} 64 r 0 0 l

-- ---- one word of each column

pub AreFilledAt-start : (i from : ℕ) (places : List ℕ) (rows columns : List (List Bool)) → AreFilledAt i from from places rows columns columns
AreFilledAt-start i from places rows columns = record {
  as_many = refl;
  lengths = λ k. refl;
  filled = λ k t a b. absurd (omega arith);
  others = λ k t d. refl;
  kept = λ k a. refl;
}

-- one column more: v has become x by a word y, the bits of the rows at its place p
pub AreFilledAt-more : (i from n p y : ℕ) (places : List ℕ) (rows old cur : List (List Bool)) (v x : List Bool) → from ≤ n → n < length cur → p ≡ get_or places n 0 → HaveWidth (length rows) old → AreFilledAt i from n places rows old cur → v ≡ get_or cur n v → length x ≡ length (get_or cur n v) → ((b : ℕ) → b < 64 → 64 * i + b < length (get_or cur n v) → bit x (64 * i + b) ≡ (bit_at y b == 1)) → ((t : ℕ) → t / 64 ≢ i → bit x t ≡ bit (get_or cur n v) t) → ((b : ℕ) → b < 64 → (bit_at y b == 1) ≡ bit (row rows (64 * i + b)) p) → AreFilledAt i from (n + 1) places rows old (set cur n x)
AreFilledAt-more i from n p y places rows old cur v x g l at w h r size inside elsewhere word = record {
  as_many = length-set cur n x ∙ h.as_many;
  lengths = λ k. elim (cases_eq k n) [
    | inl e ↦ ap (λ z. length (row (set cur n x) z)) e ∙ ap length here ∙ size ∙ ap length same ∙ h.lengths n ∙ ap (λ z. length (row old z)) (sym e)
    | inr d ↦ ap length (there k d) ∙ h.lengths k
  ];
  filled = λ k t a b c m q. elim (cases_eq k n) [
    | inl e ↦
        let place : 64 * i + t % 64 ≡ t = omega arith in
        let long : length (get_or cur n v) ≡ length rows = ap length same ∙ h.lengths n ∙ w n (omega (arith, h.as_many)) in
        ap (λ z. bit (row (set cur n x) z) t) e
        ∙ ap (λ u. bit u t) here
        ∙ ap (bit x) (sym place)
        ∙ inside (t % 64) (omega arith) (omega arith)
        ∙ word (t % 64) (omega arith)
        ∙ ap (λ z. bit (row rows z) p) place
        ∙ ap (bit (row rows t)) (at ∙ ap (λ z. get_or places z 0) (sym e))
    | inr d ↦ ap (λ u. bit u t) (there k d) ∙ h.filled k t a (omega arith) c m q
  ];
  others = λ k t d. elim (cases_eq k n) [
    | inl e ↦
        ap (λ z. bit (row (set cur n x) z) t) e ∙ ap (λ u. bit u t) here ∙ elsewhere t d ∙ ap (λ u. bit u t) same ∙ h.others n t d ∙ ap (λ z. bit (row old z) t) (sym e)
    | inr q ↦ ap (λ u. bit u t) (there k q) ∙ h.others k t d
  ];
  kept = λ k m. let d : k ≢ n = omega arith in there k d ∙ h.kept k m;
}
  where
    here : row (set cur n x) n ≡ x
    here = get_or-set_same cur n x [] l

    there : (k : ℕ) → k ≢ n → row (set cur n x) k ≡ row cur k
    there k d = get_or-set_other cur n k x [] d

    same : get_or cur n v ≡ row cur n
    same = sym r ∙ get_or_read cur n v l r []

pub AreFilledAt-join : (i from middle to : ℕ) (places : List ℕ) (rows old cur new : List (List Bool)) → from ≤ middle → AreFilledAt i from middle places rows old cur → AreFilledAt i middle to places rows cur new → AreFilledAt i from to places rows old new
AreFilledAt-join i from middle to places rows old cur new l h g = record {
  as_many = g.as_many ∙ h.as_many;
  lengths = λ k. g.lengths k ∙ h.lengths k;
  filled = λ k t a b c m q. elim (cases_lt k middle) [
    | inl e ↦ ap (λ v. bit v t) (g.kept k e) ∙ h.filled k t a e c m q
    | inr e ↦ g.filled k t e b (omega (arith, h.as_many)) m q
  ];
  others = λ k t d. g.others k t d ∙ h.others k t d;
  kept = λ k m. g.kept k (omega arith) ∙ h.kept k m;
}

-- up to another number with no column in between
pub AreFilledAt-end : (i from n to : ℕ) (places : List ℕ) (rows old new : List (List Bool)) → ((k : ℕ) → k < to → k < length old → k < n) → AreFilledAt i from n places rows old new → AreFilledAt i from to places rows old new
AreFilledAt-end i from n to places rows old new e h = record {
  as_many = h.as_many;
  lengths = h.lengths;
  filled = λ k t a b c. h.filled k t a (e k b c) c;
  others = h.others;
  kept = h.kept;
}

pub HaveWidth-filled : (n i from to : ℕ) (places : List ℕ) (rows old new : List (List Bool)) → HaveWidth n old → AreFilledAt i from to places rows old new → HaveWidth n new
HaveWidth-filled n i from to places rows old new w h = λ k l. h.lengths k ∙ w k (omega (arith, h.as_many))

-- ---- all words

pub AreFilledTo-start : (places : List ℕ) (rows columns : List (List Bool)) → length columns ≡ length places → HaveWidth (length rows) columns → AreFilledTo 0 places rows columns
AreFilledTo-start places rows columns e w = record { as_many = e; lengths = w; filled = λ k t l m n. absurd (omega arith) }

pub AreFilledTo-more : (i : ℕ) (places : List ℕ) (rows old new : List (List Bool)) → AreFilledTo (64 * i) places rows old → AreFilledAt i 0 (length old) places rows old new → AreFilledTo (64 * (i + 1)) places rows new
AreFilledTo-more i places rows old new h g = record {
  as_many = g.as_many ∙ h.as_many;
  lengths = HaveWidth-filled (length rows) i 0 (length old) places rows old new h.lengths g;
  filled = λ k t l m n. elim (cases_eq (t / 64) i) [
    | inl e ↦ g.filled k t (omega arith) (omega (arith, h.as_many)) (omega (arith, h.as_many)) m e
    | inr d ↦ g.others k t d ∙ h.filled k t l m (omega arith)
  ];
}

pub AreFilledTo-end : (n : ℕ) (places : List ℕ) (rows filled : List (List Bool)) → AreFilledTo n places rows filled → length rows ≤ n → filled ≡ columns_at places rows
AreFilledTo-end n places rows filled h l =
    ext_get_or [] filled (columns_at places rows) (h.as_many ∙ sym (length-map places (λ p. column p rows)))
    (λ k m.
    let b : k < length places = omega (arith, h.as_many) in
    let p = get_or places k 0 in
    ext_get_or false (row filled k) (column p rows) (h.lengths k m ∙ sym (length-map rows (λ v. bit v p)))
    (λ t q.
    let c : t < length rows = omega (arith, h.lengths k m) in
    h.filled k t b c (omega arith) ∙ sym (get_or-map (λ v. bit v p) rows t [] false c))
    ∙ sym (get_or-map (λ p. column p rows) places k 0 [] b))

-- ---- the items of a vector that were written

pub as_written : {A : Type 0} (n : ℕ) (xs ys : List A) → n ≡ length xs → take n (xs ++ drop (length xs) ys) ≡ xs
as_written n xs ys e = take-append-le n xs (drop (length xs) ys) (omega arith) ∙ take_all n xs (omega arith)
