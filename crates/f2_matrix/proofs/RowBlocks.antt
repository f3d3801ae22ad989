-- Rows that find their pivots in order, by blocks: what is true of the rows so far, and the steps.
use Rattle.std.proofs.Common.{◌≡◌, ◌≢◌, ℕ, ◌+◌, ◌-◌, ◌<◌, ◌≤◌, Bool, true, false, if◌then◌else◌, List, [], ◌∷◌, ◌++◌, length, map, refl, subst, ap, sym, ◌∙◌, arith, inl, inr}
use Rattle.std.specs.List.{swap}
use Rattle.std.proofs.lemmas.List.{ext_get_or, length_push}
use Rattle.std.proofs.lemmas.List.Edits.{length-swap}
use Rattle.std.proofs.lemmas.Bool.{cases_lt, cases_eq, cases_order, both_ways}
use Rattle.f2_vec.specs.Vectors.{sum_of, zeros, bit, IsZero, IsFirstOne}
use Rattle.f2_vec.specs.Spans.{row, HaveWidth, combination}
use Rattle.f2_vec.proofs.Sums.{bit-zeros, length-zeros, zeros_from_bits, sum_of-zeros_right}
use Rattle.f2_vec.proofs.Spans.{combination-zeros}
use Rattle.f2_matrix.specs.Inside.RowOperations.{cleared, IsClearedBy}
use Rattle.f2_sums.specs.Sums.{cleared_at}
use Rattle.f2_matrix.specs.Inside.Blocks.{block_rows, IsClearedByBlock, IsPivotTaken}
use Rattle.f2_matrix.specs.Inside.Rowwise.{IsNextCleared, HavePivots}
use Rattle.f2_matrix.proofs.Elimination.{IsFirstOne-unique}
use Rattle.f2_matrix.proofs.RowOperations.{row-swap_left, row-swap_right, row-swap_other, IsRearranged, IsRearranged-swap, HaveWidth-rearranged, HaveSameSpan-rearranged, HaveSameSpan-trans, HaveWidth-IsClearedBy, HaveSameSpan-IsClearedBy, length-row_with_one, bit-cleared_other, bit-cleared_same}
use Rattle.f2_matrix.proofs.BlockSteps.{row-block, length-block, HaveWidth-block, length-cleared_at, cleared_at_none, IsClearedByBlock-same, seen_more, cleared_more, widths_more, carried_more}

-- two equal places exchanged
pub swap_same : (xs : List (List Bool)) (a : ℕ) → a < length xs → swap xs a a ≡ xs
swap_same xs a l =
    ext_get_or [] (swap xs a a) xs (length-swap xs a a) (λ i _. elim (cases_eq i a) [
      | inl e ↦ ap (row (swap xs a a)) e ∙ row-swap_left xs a a l l ∙ ap (row xs) (sym e)
      | inr d ↦ row-swap_other xs a a i l l d d
    ])

-- a row without a 1 at the place stays
cleared_nothing : (q v : List Bool) (col : ℕ) → bit v col ≡ false → cleared q col v ≡ v
cleared_nothing q v col z = ap (λ b. if b then sum_of v q else v) z

-- the row at place r has its first 1 in the column col, and clears it
pub HavePivots-more : (n r e col : ℕ) (xs rows new : List (List Bool)) → HavePivots n r e xs rows → r < e → IsFirstOne (row rows r) col → IsClearedBy r col rows new → HavePivots n (r + 1) e xs new
HavePivots-more n r e col xs rows new s l f t =
    let v = row rows r in
    let within : r < length rows = omega (arith, s.end) in
    let lens : (i : ℕ) → bit (row rows i) col ≡ true → length (row rows i) ≡ length v = λ i o. length-row_with_one n rows i col s.widths o ∙ sym (s.widths r within) in
    let gone : (i : ℕ) → i ≢ r → bit (row new i) col ≡ false = λ i d. ap (λ u. bit u col) (t.others i d) ∙ bit-cleared_same v (row rows i) col (lens i) f.one in
    let forth : (i p : ℕ) → i < r → IsFirstOne (row rows i) p → IsFirstOne (row new i) p = λ i p m g.
    let d : i ≢ r = λ e. absurd (omega arith) in
    elim (cases_order p col) [
      | inl same ↦ absurd (both_ways (bit v p) (s.alone i r p d m g) (ap (bit v) same ∙ f.one))
      | inr o ↦ elim o [
        | inl before ↦
            let kept : (k : ℕ) → k < col → bit (row new i) k ≡ bit (row rows i) k = λ k h. ap (λ u. bit u k) (t.others i d) ∙ bit-cleared_other v (row rows i) col k (lens i) (f.zeros_before k h) in
            record {
              one = kept p before ∙ g.one;
              zeros_before = λ k h. kept k (omega arith) ∙ g.zeros_before k h;
            }
        | inr after ↦ subst (λ u. IsFirstOne u p) (sym (t.others i d ∙ cleared_nothing v (row rows i) col (g.zeros_before col after))) g
      ]
    ] in
    let back : (i p : ℕ) → i < r → IsFirstOne (row new i) p → IsFirstOne (row rows i) p = λ i p m g.
    let u : (q : ℕ) × IsFirstOne (row rows i) q = s.pivots i m in
    subst (IsFirstOne (row rows i)) (IsFirstOne-unique (row new i) u.0 p (forth i u.0 m u.1) g) u.1 in
    let last : IsFirstOne (row new r) col = subst (λ u. IsFirstOne u col) (sym t.pivot_kept) f in
    record {
      widths = HaveWidth-IsClearedBy n r col rows new t within s.widths;
      as_many = t.as_many ∙ s.as_many;
      same_span = HaveSameSpan-trans n xs rows new s.same_span (HaveSameSpan-IsClearedBy n r col rows new t within s.widths);
      within = omega arith;
      end = omega (arith, t.as_many, s.end);
      pivots = λ i m. elim (cases_eq i r) [
        | inl e ↦ (col, subst (λ j. IsFirstOne (row new j) col) (sym e) last)
        | inr d ↦ let u : (q : ℕ) × IsFirstOne (row rows i) q = s.pivots i (omega arith) in (u.0, forth i u.0 (omega arith) u.1)
      ];
      alone = λ i j p d m g. elim (cases_eq i r) [
        | inl e ↦
            let same : p ≡ col = IsFirstOne-unique (row new r) p col (subst (λ k. IsFirstOne (row new k) p) e g) last in
            ap (bit (row new j)) same ∙ gone j (λ k. d (e ∙ sym k))
        | inr o ↦
            let h : i < r = omega arith in
            let b = back i p h g in
            let z : bit v p ≡ false = s.alone i r p o h b in
            elim (cases_eq j r) [
              | inl k ↦ ap (λ a. bit (row new a) p) k ∙ ap (λ u. bit u p) t.pivot_kept ∙ z
              | inr k ↦ ap (λ u. bit u p) (t.others j k) ∙ bit-cleared_other v (row rows j) col p (lens j) z ∙ s.alone i j p d h b
            ]
      ];
      zero = λ i m k.
          ap (λ u. bit u k) (t.others i (λ a. absurd (omega arith)) ∙ cleared_nothing v (row rows i) col (s.zero i m col)) ∙ s.zero i m k;
    }

-- the row at place r is zero, and is exchanged with the last that is left
pub HavePivots-last : (n r e : ℕ) (xs rows : List (List Bool)) → HavePivots n r e xs rows → r < e → IsZero (row rows r) → HavePivots n r (e - 1) xs (swap rows r (e - 1))
HavePivots-last n r e xs rows s l z =
    let t = e - 1 in
    let lr : r < length rows = omega (arith, s.end) in
    let lt : t < length rows = omega (arith, s.end) in
    let new = swap rows r t in
    let u : IsRearranged r rows new = IsRearranged-swap r r t rows (omega arith) (omega arith) lr lt in
    let back : (i p : ℕ) → i < r → IsFirstOne (row new i) p → IsFirstOne (row rows i) p = λ i p m g. subst (λ w. IsFirstOne w p) (u.kept i m) g in
    record {
      widths = HaveWidth-rearranged n r rows new u s.widths;
      as_many = u.as_many ∙ s.as_many;
      same_span = HaveSameSpan-trans n xs rows new s.same_span (HaveSameSpan-rearranged n r rows new u s.widths);
      within = omega arith;
      end = omega (arith, u.as_many, s.end);
      pivots = λ i m. let f : (p : ℕ) × IsFirstOne (row rows i) p = s.pivots i m in (f.0, subst (λ w. IsFirstOne w f.0) (sym (u.kept i m)) f.1);
      alone = λ i j p d m g. elim (cases_lt j r) [
        | inl h ↦ ap (λ w. bit w p) (u.kept j h) ∙ s.alone i j p d m (back i p m g)
        | inr h ↦ let k : (a : ℕ) × (r ≤ a) × (row new j ≡ row rows a) = u.rest j h in
            let ra : r ≤ k.0 = k.1 in
            ap (λ w. bit w p) k.2 ∙ s.alone i k.0 p (λ q. absurd (omega arith)) m (back i p m g)
      ];
      zero = λ i m k. elim (cases_eq i t) [
        | inl q ↦ ap (λ a. bit (row new a) k) q ∙ ap (λ w. bit w k) (row-swap_right rows r t lr lt) ∙ z k
        | inr q ↦ ap (λ w. bit w k) (row-swap_other rows r t i lr lt (λ a. absurd (omega arith)) q) ∙ s.zero i (omega arith) k
      ];
    }

-- Once the rows outside the block are cleared by it, they are `seen`, in which its rows have their pivots too.
pub record IsRowBlock (n r e : ℕ) (ps : List ℕ) (xs rows : List (List Bool)) : Type 0 where
  pub seen : List (List Bool)
  pub widths : HaveWidth n rows
  pub carried : IsClearedByBlock n r ps rows seen
  pub found : HavePivots n (r + length ps) e xs seen

pub IsRowBlock-start : (n r e : ℕ) (xs rows : List (List Bool)) → HavePivots n r e xs rows → IsRowBlock n r e [] xs rows
IsRowBlock-start n r e xs rows s = record {
  seen = rows;
  widths = s.widths;
  carried = record {
    as_many = refl;
    block = λ i l m. absurd (omega arith);
    above = λ i l. cleared_at_none n (block_rows r [] rows) rows i s.widths;
    below = λ i l. cleared_at_none n (block_rows r [] rows) rows i s.widths;
  };
  found = (let k : r ≡ r + 0 = omega arith in subst (λ j. HavePivots n j e xs rows) k s);
}

pub IsRowBlock-end : (n r e : ℕ) (ps : List ℕ) (xs rows new : List (List Bool)) → IsRowBlock n r e ps xs rows → IsClearedByBlock n r ps rows new → HavePivots n (r + length ps) e xs new
IsRowBlock-end n r e ps xs rows new s t = subst (HavePivots n (r + length ps) e xs) (IsClearedByBlock-same n r ps rows s.seen new s.carried t) s.found

pub IsRowBlock-within : (n r e : ℕ) (ps : List ℕ) (xs rows : List (List Bool)) → IsRowBlock n r e ps xs rows → e ≤ length rows
IsRowBlock-within n r e ps xs rows s = omega (arith, s.found.end, s.carried.as_many)

-- one pivot more
pub IsRowBlock-more : (n r e col : ℕ) (ps : List ℕ) (xs rows new : List (List Bool)) → IsRowBlock n r e ps xs rows → r + length ps < e → IsPivotTaken n r ps col (r + length ps) rows new → IsFirstOne (row new (r + length ps)) col → IsRowBlock n r e (ps ++ col ∷ []) xs new
IsRowBlock-more n r e col ps xs rows new s l t f =
    let b = r + length ps in
    let high : b < length rows = omega (arith, IsRowBlock-within n r e ps xs rows s) in
    let high_seen : b < length s.seen = omega (arith, s.carried.as_many) in
    let low : b ≤ b = omega arith in
    let same : swap s.seen b b ≡ s.seen = swap_same s.seen b high_seen in
    let seen = seen_more n r col b ps rows s.seen new s.widths s.carried low high t in
    let cleared_by : IsClearedBy b col s.seen seen = subst (λ x. IsClearedBy b col x seen) same (cleared_more n r col b ps rows s.seen new s.widths s.carried low high t) in
    let first : IsFirstOne (row s.seen b) col = subst (λ u. IsFirstOne u col) (t.pivot ∙ sym (s.carried.below b low)) f in
    let size : b + 1 ≡ r + length (ps ++ col ∷ []) = omega (arith, length_push ps col) in
    record {
      seen = seen;
      widths = widths_more n r col b ps rows s.seen new s.widths s.carried low high t;
      carried = carried_more n r col b ps rows s.seen new s.widths s.carried low high t;
      found = subst (λ k. HavePivots n k e xs seen) size (HavePivots-more n b e col xs s.seen seen s.found l first cleared_by);
    }

-- a zero vector is not changed by the block
bits_of_zeros : (n : ℕ) (ps : List ℕ) → map (bit (zeros n)) ps ≡ zeros (length ps)
bits_of_zeros n [] = refl
bits_of_zeros n (p ∷ ps) = cc (bit-zeros n p, bits_of_zeros n ps)

cleared_at-zeros : (n : ℕ) (ps : List ℕ) (b : List (List Bool)) → cleared_at n ps b (zeros n) ≡ zeros n
cleared_at-zeros n ps b =
    ap (λ c. sum_of (zeros n) (combination n c b)) (bits_of_zeros n ps) ∙ ap (sum_of (zeros n)) (combination-zeros n (length ps) b) ∙ sum_of-zeros_right n (zeros n) (length-zeros n)

-- nothing is left of the row behind the block, and it is exchanged with the last row that is left
module _ (n r e : ℕ) (ps : List ℕ) (xs rows now : List (List Bool)) (s : IsRowBlock n r e ps xs rows) (l : r + length ps < e) (c : IsNextCleared n r ps rows now) where
  abbrev b : ℕ
  b = r + length ps

  abbrev t : ℕ
  t = e - 1

  abbrev new : List (List Bool)
  new = swap now b t

  abbrev block : List (List Bool)
  block = block_rows r ps rows

  in_rows : e ≤ length rows
  in_rows = IsRowBlock-within n r e ps xs rows s

  lb : b < length now
  lb = let h : r + length ps < length now = omega (arith, in_rows, c.as_many) in h

  lt : t < length now
  lt = omega (arith, in_rows, c.as_many)

  sb : b < length s.seen
  sb = let h : r + length ps < length s.seen = omega (arith, in_rows, s.carried.as_many) in h

  st : t < length s.seen
  st = omega (arith, in_rows, s.carried.as_many)

  widths_now : HaveWidth n now
  widths_now i m = elim (cases_eq i (r + length ps)) [
    | inl k ↦ ap (λ j. length (row now j)) k ∙ ap length c.next ∙ length-cleared_at n ps block (row rows (r + length ps)) (HaveWidth-block n r ps rows s.widths) (s.widths (r + length ps) (omega (arith, in_rows)))
    | inr d ↦ ap length (c.others i d) ∙ s.widths i (omega (arith, c.as_many))
  ]

  nothing : row now b ≡ zeros n
  nothing = zeros_from_bits n (row now b) (widths_now b lb) c.zero

  seen_now : row s.seen b ≡ row now b
  seen_now = s.carried.below b (omega arith) ∙ sym c.next

  block_same : block_rows r ps new ≡ block
  block_same =
      ext_get_or [] (block_rows r ps new) block (length-block r ps new (omega (arith, length-swap now b t, lb)) ∙ sym (length-block r ps rows (omega (arith, in_rows)))) (λ j m.
      let k : j < length ps = omega (arith, length-block r ps new (omega (arith, length-swap now b t, lb))) in
      row-block r ps new j k
      ∙ row-swap_other now b t (r + j) lb lt (λ a. absurd (omega arith)) (λ a. absurd (omega arith))
      ∙ c.others (r + j) (λ a. absurd (omega arith))
      ∙ sym (row-block r ps rows j k))

  kept : (i : ℕ) → i < r + length ps → (row (swap s.seen b t) i ≡ row s.seen i) × (row new i ≡ row rows i)
  kept i m = (
    row-swap_other s.seen b t i sb st (λ a. absurd (omega arith)) (λ a. absurd (omega arith)),
    row-swap_other now b t i lb lt (λ a. absurd (omega arith)) (λ a. absurd (omega arith)) ∙ c.others i (λ a. absurd (omega arith)),
  )

  below_new : (i : ℕ) → r + length ps ≤ i → row (swap s.seen b t) i ≡ cleared_at n ps block (row new i)
  below_new i m = elim (cases_eq i t) [
    | inl k ↦
        ap (row (swap s.seen b t)) k
        ∙ row-swap_right s.seen b t sb st
        ∙ seen_now ∙ nothing
        ∙ sym (cleared_at-zeros n ps block)
        ∙ ap (cleared_at n ps block) (sym (ap (row new) k ∙ row-swap_right now b t lb lt ∙ nothing))
    | inr d ↦ elim (cases_eq i (r + length ps)) [
      | inl k ↦
          ap (row (swap s.seen b t)) k
          ∙ row-swap_left s.seen b t sb st
          ∙ s.carried.below t (omega arith)
          ∙ ap (cleared_at n ps block) (sym (ap (row new) k ∙ row-swap_left now b t lb lt ∙ c.others t (λ a. d (k ∙ sym a))))
      | inr k ↦
          row-swap_other s.seen b t i sb st k d
          ∙ s.carried.below i m
          ∙ ap (cleared_at n ps block) (sym (row-swap_other now b t i lb lt k d ∙ c.others i k))
    ]
  ]

  pub IsRowBlock-last : IsRowBlock n r (e - 1) ps xs (swap now (r + length ps) (e - 1))
  IsRowBlock-last = record {
    seen = swap s.seen b t;
    widths = HaveWidth-rearranged n b now new (IsRearranged-swap b b t now (omega arith) (omega arith) lb lt) widths_now;
    carried = record {
      as_many = length-swap s.seen b t ∙ s.carried.as_many ∙ sym (length-swap now b t ∙ c.as_many);
      block = λ i h m. (kept i m).0 ∙ s.carried.block i h m ∙ sym (kept i m).1;
      above = λ i m.
          let k = kept i (omega arith) in
          k.0 ∙ s.carried.above i m ∙ ap (cleared_at n ps block) (sym k.1) ∙ ap (λ x. cleared_at n ps x (row new i)) (sym block_same);
      below = λ i m. below_new i m ∙ ap (λ x. cleared_at n ps x (row new i)) (sym block_same);
    };
    found = HavePivots-last n b e xs s.seen s.found l (λ k. ap (λ v. bit v k) seen_now ∙ c.zero k);
  }
