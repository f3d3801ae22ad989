-- Elimination by blocks: the rows outside a block are cleared by it once, at its end.
use Rattle.std.proofs.Common.{◌≡◌, ◌≢◌, ◌⊎◌, ℕ, suc, ◌+◌, ◌<◌, ◌≤◌, Bool, true, false, if◌then◌else◌, List, [], ◌∷◌, ◌++◌, length, map, take, drop, refl, subst, ap, sym, ◌∙◌, arith, inl, inr}
use Rattle.std.specs.List.{swap}
use Rattle.std.proofs.lemmas.List.{ext_get_or, get_or_past, get_or-take, get_or-drop, get_or_append_left, get_or_push, length-map, length-take-le, length-drop, length_push, map_push}
use Rattle.std.proofs.lemmas.List.Edits.{length-swap}
use Rattle.std.proofs.lemmas.Bool.{cases_lt, cases_eq}
use Rattle.f2_vec.specs.Vectors.{plus, sum_of, zeros, bit}
use Rattle.f2_vec.specs.Spans.{row, HaveWidth, combination}
use Rattle.f2_vec.proofs.Sums.{bit-sum_of, length-sum_of, bit-zeros, sum_of-assoc, sum_of-comm, sum_of-zeros_right, sum_of-cancel_right}
use Rattle.f2_vec.proofs.Spans.{HaveWidth-head, HaveWidth-tail, HaveWidth-cons, HaveWidth-nil, length-combination, combination-append}
use Rattle.f2_vec.proofs.Combinations.{HaveWidth-take}
use Rattle.f2_vec.proofs.Spans.{HaveWidth-drop}
use Rattle.f2_matrix.specs.Inside.RowOperations.{cleared, IsClearedBy}
use Rattle.f2_sums.specs.Sums.{cleared_at}
use Rattle.f2_matrix.specs.Inside.Blocks.{block_rows, IsClearedByBlock, IsPivotTaken}
use Rattle.f2_matrix.proofs.RowOperations.{row-swap_left, row-swap_right, row-swap_other, IsClearedBy_parts, length-cleared, row-map_cleared, IsRearranged, IsRearranged-swap, HaveWidth-rearranged, HaveWidth-cleared}
use Rattle.f2_matrix.proofs.Elimination.{IsEliminated, IsEliminated-skip, IsEliminated-settle}

-- ---- sums of cleared rows

-- q is added to v if b holds
abbrev with_if : Bool → List Bool → List Bool → List Bool
with_if b q v = if b then sum_of v q else v

with_if-sum : (n : ℕ) (a b : Bool) (q u v : List Bool) → length q ≡ n → length u ≡ n → length v ≡ n → with_if (plus a b) q (sum_of u v) ≡ sum_of (with_if a q u) (with_if b q v)
with_if-sum n false false q u v e f g = refl
with_if-sum n false true q u v e f g = sum_of-assoc u v q
with_if-sum n true false q u v e f g = sum_of-assoc u v q ∙ ap (sum_of u) (sum_of-comm v q) ∙ sym (sum_of-assoc u q v)
with_if-sum n true true q u v e f g =
    ap (sum_of u) (sym (sum_of-cancel_right n v q g e))
    ∙ ap (sum_of u) (sum_of-comm (sum_of v q) q)
    ∙ sym (sum_of-assoc u q (sum_of v q))

cleared-sum : (n col : ℕ) (q u v : List Bool) → length q ≡ n → length u ≡ n → length v ≡ n → cleared q col (sum_of u v) ≡ sum_of (cleared q col u) (cleared q col v)
cleared-sum n col q u v e f g =
    ap (λ b. with_if b q (sum_of u v)) (bit-sum_of u v col (f ∙ sym g)) ∙ with_if-sum n (bit u col) (bit v col) q u v e f g

cleared-zeros : (n col : ℕ) (q : List Bool) → cleared q col (zeros n) ≡ zeros n
cleared-zeros n col q = ap (λ b. with_if b q (zeros n)) (bit-zeros n col)

-- clearing the rows clears each sum of them
pub combination-cleared : (n col : ℕ) (c : List Bool) (rows : List (List Bool)) (q : List Bool) → HaveWidth n rows → length q ≡ n → combination n c (map (cleared q col) rows) ≡ cleared q col (combination n c rows)
combination-cleared n col [] rows q w e = sym (cleared-zeros n col q)
combination-cleared n col (c ∷ cs) [] q w e = sym (cleared-zeros n col q)
combination-cleared n col (false ∷ cs) (r ∷ rows) q w e = combination-cleared n col cs rows q (HaveWidth-tail n r rows w) e
combination-cleared n col (true ∷ cs) (r ∷ rows) q w e =
    let t = HaveWidth-tail n r rows w in
    ap (sum_of (cleared q col r)) (combination-cleared n col cs rows q t e)
    ∙ sym (cleared-sum n col q r (combination n cs rows) e (HaveWidth-head n r rows w) (length-combination n cs rows t))

one_row_more : (n : ℕ) (x y : Bool) (q u v : List Bool) → length q ≡ n → length u ≡ n → length v ≡ n → sum_of v (sum_of (with_if y q u) (combination n (x ∷ []) (q ∷ []))) ≡ with_if (plus x y) q (sum_of v u)
one_row_more n false false q u v e f g = ap (sum_of v) (sum_of-zeros_right n u f)
one_row_more n false true q u v e f g = ap (sum_of v) (sum_of-zeros_right n (sum_of u q) (length-sum_of u q (f ∙ sym e) ∙ f)) ∙ sym (sum_of-assoc v u q)
one_row_more n true false q u v e f g = ap (λ z. sum_of v (sum_of u z)) (sum_of-zeros_right n q e) ∙ sym (sum_of-assoc v u q)
one_row_more n true true q u v e f g = ap (λ z. sum_of v (sum_of (sum_of u q) z)) (sum_of-zeros_right n q e) ∙ ap (sum_of v) (sum_of-cancel_right n u q f e)

-- to clear by a block of one row more, itself cleared by it, is to clear by the block and then by that row
pub cleared_at_more : (n col : ℕ) (ps : List ℕ) (b : List (List Bool)) (q v : List Bool) → HaveWidth n b → length b ≡ length ps → length q ≡ n → length v ≡ n → cleared_at n (ps ++ col ∷ []) (map (cleared q col) b ++ q ∷ []) v ≡ cleared q col (cleared_at n ps b v)
cleared_at_more n col ps b q v w e lq lv =
    let cs = map (bit v) ps in
    let x = bit v col in
    let u = combination n cs b in
    let lu : length u ≡ n = length-combination n cs b w in
    let wq : HaveWidth n (q ∷ []) = HaveWidth-cons n q [] lq (HaveWidth-nil n) in
    let lc : length cs ≡ length (map (cleared q col) b) = length-map ps (bit v) ∙ sym e ∙ sym (length-map b (cleared q col)) in
    ap (λ c. sum_of v (combination n c (map (cleared q col) b ++ q ∷ []))) (map_push (bit v) ps col)
    ∙ ap (sum_of v) (combination-append n cs (x ∷ []) (map (cleared q col) b) (q ∷ []) (HaveWidth-cleared n q col b lq w) wq lc)
    ∙ ap (λ z. sum_of v (sum_of z (combination n (x ∷ []) (q ∷ [])))) (combination-cleared n col cs b q w lq)
    ∙ one_row_more n x (bit u col) q u v lq lu lv
    ∙ ap (λ t. with_if t q (sum_of v u)) (sym (bit-sum_of v u col (lv ∙ sym lu)))

-- the same of a row past the end
cleared_at_more_or_past : (n col : ℕ) (ps : List ℕ) (b : List (List Bool)) (q v : List Bool) → HaveWidth n b → length b ≡ length ps → length q ≡ n → (length v ≡ n) ⊎ (v ≡ []) → cleared_at n (ps ++ col ∷ []) (map (cleared q col) b ++ q ∷ []) v ≡ cleared q col (cleared_at n ps b v)
cleared_at_more_or_past n col ps b q v w e lq side = elim side [
  | inl lv ↦ cleared_at_more n col ps b q v w e lq lv
  | inr z ↦ subst (λ x. cleared_at n (ps ++ col ∷ []) (map (cleared q col) b ++ q ∷ []) x ≡ cleared q col (cleared_at n ps b x)) (sym z) refl
]

pub length-cleared_at : (n : ℕ) (ps : List ℕ) (b : List (List Bool)) (v : List Bool) → HaveWidth n b → length v ≡ n → length (cleared_at n ps b v) ≡ n
length-cleared_at n ps b v w e =
    let cs = map (bit v) ps in
    length-sum_of v (combination n cs b) (e ∙ sym (length-combination n cs b w)) ∙ e

-- a row of a list of rows of length n, or past the end
pub row_or_past : (n : ℕ) (rows : List (List Bool)) (i : ℕ) → HaveWidth n rows → (length (row rows i) ≡ n) ⊎ (row rows i ≡ [])
row_or_past n rows i w = elim (cases_lt i (length rows)) [ inl l ↦ inl (w i l) | inr l ↦ inr (get_or_past rows i [] l) ]

-- ---- the rows of a block

pub HaveWidth-block : (n r : ℕ) (ps : List ℕ) (rows : List (List Bool)) → HaveWidth n rows → HaveWidth n (block_rows r ps rows)
HaveWidth-block n r ps rows w = HaveWidth-take n (length ps) (drop r rows) (HaveWidth-drop n r rows w)

pub length-block : (r : ℕ) (ps : List ℕ) (rows : List (List Bool)) → r + length ps ≤ length rows → length (block_rows r ps rows) ≡ length ps
length-block r ps rows h = length-take-le (length ps) (drop r rows) (omega (arith, length-drop r rows))

pub row-block : (r : ℕ) (ps : List ℕ) (rows : List (List Bool)) (j : ℕ) → j < length ps → row (block_rows r ps rows) j ≡ row rows (r + j)
row-block r ps rows j h = get_or-take (length ps) (drop r rows) j [] h ∙ get_or-drop r rows j []

-- ---- what is true of the rows so far

-- Once the rows outside the block are cleared by it, they are `seen`, which has its pivots left of the column col.
pub record IsBlock (n r col : ℕ) (ps : List ℕ) (xs rows : List (List Bool)) : Type 0 where
  pub seen : List (List Bool)
  pub widths : HaveWidth n rows
  pub carried : IsClearedByBlock n r ps rows seen
  pub eliminated : IsEliminated n (r + length ps) col xs seen

pub cleared_at_none : (n : ℕ) (b rows : List (List Bool)) (i : ℕ) → HaveWidth n rows → row rows i ≡ cleared_at n [] b (row rows i)
cleared_at_none n b rows i w = elim (row_or_past n rows i w) [
  | inl e ↦ sym (sum_of-zeros_right n (row rows i) e)
  | inr z ↦ subst (λ x. x ≡ cleared_at n [] b x) (sym z) refl
]

pub IsBlock-start : (n r col : ℕ) (xs rows : List (List Bool)) → IsEliminated n r col xs rows → IsBlock n r col [] xs rows
IsBlock-start n r col xs rows s = record {
  seen = rows;
  widths = s.widths;
  carried = record {
    as_many = refl;
    block = λ i l m. absurd (omega arith);
    above = λ i l. cleared_at_none n (block_rows r [] rows) rows i s.widths;
    below = λ i l. cleared_at_none n (block_rows r [] rows) rows i s.widths;
  };
  eliminated = (let e : r ≡ r + 0 = omega arith in subst (λ k. IsEliminated n k col xs rows) e s);
}

-- a column in which the other rows, cleared by the block, have no 1
pub IsBlock-skip : (n r col : ℕ) (ps : List ℕ) (xs rows : List (List Bool)) → IsBlock n r col ps xs rows → ((i : ℕ) → r + length ps ≤ i → bit (cleared_at n ps (block_rows r ps rows) (row rows i)) col ≡ false) → IsBlock n r (col + 1) ps xs rows
IsBlock-skip n r col ps xs rows s z = record {
  seen = s.seen;
  widths = s.widths;
  carried = s.carried;
  eliminated = IsEliminated-skip n (r + length ps) col xs s.seen s.eliminated (λ i l. ap (λ v. bit v col) (s.carried.below i l) ∙ z i l);
}

-- the rows are cleared by the block: it is carried out
pub IsClearedByBlock-same : (n r : ℕ) (ps : List ℕ) (rows seen new : List (List Bool)) → IsClearedByBlock n r ps rows seen → IsClearedByBlock n r ps rows new → seen ≡ new
IsClearedByBlock-same n r ps rows seen new s t =
    ext_get_or [] seen new (s.as_many ∙ sym t.as_many) (λ i _.
    elim (cases_lt i r) [
      | inl l ↦ s.above i l ∙ sym (t.above i l)
      | inr l ↦ elim (cases_lt i (r + length ps)) [
        | inl m ↦ s.block i l m ∙ sym (t.block i l m)
        | inr m ↦ s.below i m ∙ sym (t.below i m)
      ]
    ])

pub IsBlock-end : (n r col : ℕ) (ps : List ℕ) (xs rows new : List (List Bool)) → IsBlock n r col ps xs rows → IsClearedByBlock n r ps rows new → IsEliminated n (r + length ps) col xs new
IsBlock-end n r col ps xs rows new s t = subst (IsEliminated n (r + length ps) col xs) (IsClearedByBlock-same n r ps rows s.seen new s.carried t) s.eliminated

pub IsBlock-within : (n r col : ℕ) (ps : List ℕ) (xs rows : List (List Bool)) → IsBlock n r col ps xs rows → r + length ps ≤ length rows
IsBlock-within n r col ps xs rows s = omega (arith, s.eliminated.within, s.carried.as_many)

-- one pivot more
module _ (n r col a : ℕ) (ps : List ℕ) (rows seen new : List (List Bool)) (widths : HaveWidth n rows) (carried : IsClearedByBlock n r ps rows seen) (low : r + length ps ≤ a) (high : a < length rows) (t : IsPivotTaken n r ps col a rows new) where
  abbrev pub behind : ℕ
  behind = r + length ps

  abbrev pub block : List (List Bool)
  block = block_rows r ps rows

  abbrev pub pivot : List Bool
  pivot = cleared_at n ps block (row rows a)

  abbrev pub swapped : List (List Bool)
  swapped = swap seen behind a

  abbrev pub places : List ℕ
  places = ps ++ col ∷ []

  pub more_places : length places ≡ length ps + 1
  more_places = length_push ps col

  high_seen : a < length seen
  high_seen = omega (arith, carried.as_many)

  behind_seen : behind < length seen
  behind_seen = let l : r + length ps < length seen = omega (arith, carried.as_many) in l

  behind_rows : behind < length rows
  behind_rows = let l : r + length ps < length rows = omega arith in l

  pub length-pivot : length pivot ≡ n
  length-pivot = length-cleared_at n ps block (row rows a) (HaveWidth-block n r ps rows widths) (widths a high)

  pub swapped_pivot : row swapped behind ≡ pivot
  swapped_pivot = row-swap_left seen behind a behind_seen high_seen ∙ carried.below a low

  swapped_block : (i : ℕ) → r ≤ i → i < r + length ps → row swapped i ≡ row rows i
  swapped_block i l m = row-swap_other seen behind a i behind_seen high_seen (λ e. absurd (omega arith)) (λ e. absurd (omega arith)) ∙ carried.block i l m

  swapped_above : (i : ℕ) → i < r → row swapped i ≡ cleared_at n ps block (row new i)
  swapped_above i l =
      row-swap_other seen behind a i behind_seen high_seen (λ e. absurd (omega arith)) (λ e. absurd (omega arith))
      ∙ carried.above i l
      ∙ ap (cleared_at n ps block) (sym (t.above i l))

  swapped_below : (i : ℕ) → r + length ps < i → row swapped i ≡ cleared_at n ps block (row new i)
  swapped_below i l = elim (cases_eq i a) [
    | inl e ↦
        ap (row swapped) e
        ∙ row-swap_right seen behind a behind_seen high_seen
        ∙ carried.below behind (omega arith)
        ∙ ap (cleared_at n ps block) (sym (t.below i l ∙ ap (row (swap rows behind a)) e ∙ row-swap_right rows behind a behind_rows high))
    | inr d ↦
        row-swap_other seen behind a i behind_seen high_seen (λ e. absurd (omega arith)) d
        ∙ carried.below i (omega arith)
        ∙ ap (cleared_at n ps block) (sym (t.below i l ∙ row-swap_other rows behind a i behind_rows high (λ e. absurd (omega arith)) d))
  ]

  -- the rows of the block of one row more
  block_more : block_rows r places new ≡ map (cleared pivot col) block ++ pivot ∷ []
  block_more =
      let size : length block ≡ length ps = length-block r ps rows (omega arith) in
      let mapped : length (map (cleared pivot col) block) ≡ length ps = length-map block (cleared pivot col) ∙ size in
      let left : length (block_rows r places new) ≡ length ps + 1 = length-block r places new (omega (arith, more_places, t.as_many)) ∙ more_places in
      ext_get_or [] (block_rows r places new) (map (cleared pivot col) block ++ pivot ∷ []) (left ∙ sym (length_push (map (cleared pivot col) block) pivot ∙ omega arith)) (λ j l.
      let m : j < length places = omega (arith, more_places) in
      row-block r places new j m ∙ elim (cases_lt j (length ps)) [
        | inl h ↦
            t.block (r + j) (omega arith) (omega arith)
            ∙ ap (cleared pivot col) (sym (row-block r ps rows j h))
            ∙ sym (row-map_cleared pivot col block j)
            ∙ sym (get_or_append_left (map (cleared pivot col) block) (pivot ∷ []) [] j (omega arith))
        | inr h ↦
            let e : r + j ≡ r + length ps = omega (arith, more_places) in
            ap (row new) e ∙ t.pivot ∙ sym (get_or_push (map (cleared pivot col) block) pivot [] j (omega (arith, more_places)))
      ])

  -- the rows that are seen afterwards
  abbrev pub seen_more : List (List Bool)
  seen_more = map (cleared (row swapped behind) col) (take behind swapped) ++ row swapped behind ∷ map (cleared (row swapped behind) col) (drop (suc behind) swapped)

  pub cleared_more : IsClearedBy behind col swapped seen_more
  cleared_more = IsClearedBy_parts behind col swapped (omega (arith, length-swap seen behind a, behind_seen))

  pub widths_more : HaveWidth n new
  widths_more i l =
      let m : i < length rows = omega (arith, t.as_many) in
      elim (cases_lt i r) [
        | inl h ↦ ap length (t.above i h) ∙ widths i m
        | inr h ↦ elim (cases_lt i (r + length ps)) [
          | inl k ↦ ap length (t.block i h k) ∙ length-cleared n pivot (row rows i) col (widths i m) length-pivot
          | inr k ↦ elim (cases_eq i (r + length ps)) [
            | inl e ↦ ap (λ j. length (row new j)) e ∙ ap length t.pivot ∙ length-pivot
            | inr e ↦
                let u : IsRearranged behind rows (swap rows behind a) = IsRearranged-swap behind behind a rows (omega arith) low behind_rows high in
                ap length (t.below i (omega arith)) ∙ HaveWidth-rearranged n behind rows (swap rows behind a) u widths i (omega (arith, length-swap rows behind a))
          ]
        ]
      ]

  other_more : (i : ℕ) → i ≢ behind → row swapped i ≡ cleared_at n ps block (row new i) → row seen_more i ≡ cleared_at n places (block_rows r places new) (row new i)
  other_more i d e =
      cleared_more.others i d
      ∙ ap (λ q. cleared q col (row swapped i)) swapped_pivot
      ∙ ap (cleared pivot col) e
      ∙ sym (cleared_at_more_or_past n col ps block pivot (row new i) (HaveWidth-block n r ps rows widths) (length-block r ps rows (omega arith)) length-pivot (row_or_past n new i widths_more))
      ∙ ap (λ b. cleared_at n places b (row new i)) (sym block_more)

  block_kept : (i : ℕ) → r ≤ i → i < r + length places → row seen_more i ≡ row new i
  block_kept i l m = elim (cases_eq i behind) [
    | inl e ↦ ap (row seen_more) e ∙ cleared_more.pivot_kept ∙ swapped_pivot ∙ sym t.pivot ∙ ap (row new) (sym e)
    | inr d ↦
        let h : i < r + length ps = omega (arith, more_places) in
        cleared_more.others i d ∙ ap (λ q. cleared q col (row swapped i)) swapped_pivot ∙ ap (cleared pivot col) (swapped_block i l h) ∙ sym (t.block i l h)
  ]

  pub carried_more : IsClearedByBlock n r places new seen_more
  carried_more = record {
    as_many = cleared_more.as_many ∙ length-swap seen behind a ∙ carried.as_many ∙ sym t.as_many;
    block = block_kept;
    above = λ i l. other_more i (λ e. absurd (omega arith)) (swapped_above i l);
    below = λ i l. other_more i (λ e. absurd (omega (arith, more_places))) (swapped_below i (omega (arith, more_places)));
  }

pub IsBlock-more : (n r col a : ℕ) (ps : List ℕ) (xs rows new : List (List Bool)) → IsBlock n r col ps xs rows → r + length ps ≤ a → a < length rows → IsPivotTaken n r ps col a rows new → bit (cleared_at n ps (block_rows r ps rows) (row rows a)) col ≡ true → IsBlock n r (col + 1) (ps ++ col ∷ []) xs new
IsBlock-more n r col a ps xs rows new s low high t one =
    let seen = seen_more n r col a ps rows s.seen new s.widths s.carried low high t in
    let at_seen : bit (row s.seen a) col ≡ true = ap (λ v. bit v col) (s.carried.below a low) ∙ one in
    let high_seen : a < length s.seen = omega (arith, s.carried.as_many) in
    let settled : IsEliminated n (r + length ps + 1) (col + 1) xs seen = IsEliminated-settle n (r + length ps) col a xs s.seen (swap s.seen (r + length ps) a) seen s.eliminated low high_seen at_seen refl (cleared_more n r col a ps rows s.seen new s.widths s.carried low high t) in
    let size : r + length ps + 1 ≡ r + length (ps ++ col ∷ []) = omega (arith, length_push ps col) in
    record {
      seen = seen;
      widths = widths_more n r col a ps rows s.seen new s.widths s.carried low high t;
      carried = carried_more n r col a ps rows s.seen new s.widths s.carried low high t;
      eliminated = subst (λ k. IsEliminated n k (col + 1) xs seen) size settled;
    }
