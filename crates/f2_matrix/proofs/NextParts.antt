-- The rows about a block, and the row behind it, cleared by it, from the parts of the rows.
use Rattle.std.proofs.Common.{◌≡◌, ℕ, ◌+◌, ◌-◌, ◌<◌, ◌≤◌, Bool, List, [], ◌++◌, length, map, take, drop, set, subst, ap, sym, ◌∙◌, arith, inl, inr}
use Rattle.std.proofs.lemmas.List.{length-append, get_or_past, get_or_append_left, get_or-append_right, take_at, drop_at, append_assoc, length-map, get_or-map}
use Rattle.std.proofs.lemmas.Bool.{cases_lt}
use Rattle.f2_vec.specs.Spans.{row, HaveWidth}
use Rattle.f2_vec.proofs.Spans.{HaveWidth-front, HaveWidth-back}
use Rattle.f2_matrix.specs.Inside.RowOperations.{cleared}
use Rattle.f2_sums.specs.Sums.{cleared_at}
use Rattle.f2_matrix.specs.Inside.Blocks.{block_rows, IsClearedByBlock, IsPivotTaken}
use Rattle.f2_matrix.proofs.BlockSteps.{length-cleared_at}
use Rattle.f2_matrix.proofs.BlockParts.{taken_from_parts, first_and_rest, set_first}
use Rattle.f2_matrix.proofs.RowBlocks.{swap_same}

-- the rows above a block, the block and the rows behind it
pub record AreParts (n r : ℕ) (ps : List ℕ) (xs above block back : List (List Bool)) : Type 0 where
  pub whole : xs ≡ (above ++ block) ++ back
  pub front : length above ≡ r
  pub middle : length block ≡ length ps
  pub widths : HaveWidth n xs

pub block_is : (n r : ℕ) (ps : List ℕ) (xs above block back : List (List Bool)) → AreParts n r ps xs above block back → block ≡ block_rows r ps xs
block_is n r ps xs above block back p =
    sym (ap (block_rows r ps) (p.whole ∙ append_assoc above block back) ∙ ap (take (length ps)) (drop_at above (block ++ back) r p.front) ∙ take_at block back (length ps) p.middle)

pub width_block : (n r : ℕ) (ps : List ℕ) (xs above block back : List (List Bool)) → AreParts n r ps xs above block back → HaveWidth n block
width_block n r ps xs above block back p = HaveWidth-back n above block (HaveWidth-front n (above ++ block) back (subst (HaveWidth n) p.whole p.widths))

pub width_back : (n r : ℕ) (ps : List ℕ) (xs above block back : List (List Bool)) → AreParts n r ps xs above block back → HaveWidth n back
width_back n r ps xs above block back p = HaveWidth-back n (above ++ block) back (subst (HaveWidth n) p.whole p.widths)

pub behind_front : (n r : ℕ) (ps : List ℕ) (xs above block back : List (List Bool)) → AreParts n r ps xs above block back → length xs ≡ r + length ps + length back
behind_front n r ps xs above block back p = ap length p.whole ∙ omega (arith, length-append (above ++ block) back, length-append above block, p.front, p.middle)

-- what is left of the row is as wide as the rows
pub pivot_width : (n r : ℕ) (ps : List ℕ) (xs above block back : List (List Bool)) (q : List Bool) → AreParts n r ps xs above block back → 0 < length back → q ≡ cleared_at n ps block (row back 0) → length q ≡ n
pivot_width n r ps xs above block back q p h e = ap length e ∙ length-cleared_at n ps block (row back 0) (width_block n r ps xs above block back p) (width_back n r ps xs above block back p 0 h)

pub taken_from_same : (n r col : ℕ) (ps : List ℕ) (xs above block new back : List (List Bool)) (q : List Bool) → AreParts n r ps xs above block back → 0 < length back → q ≡ cleared_at n ps block (row back 0) → new ≡ map (cleared q col) block → IsPivotTaken n r ps col (r + length ps) xs ((above ++ new) ++ set back 0 q)
taken_from_same n r col ps xs above block new back q p h e c =
    let high : r + length ps < length xs = omega (arith, behind_front n r ps xs above block back p) in
    rw (set_first back q h) (taken_from_parts n r col (r + length ps) ps xs xs above block new (drop 1 back) (row back 0) q (omega arith) high (sym (swap_same xs (r + length ps) high)) (p.whole ∙ ap (λ x. (above ++ block) ++ x) (first_and_rest back h)) p.front p.middle e c)

pub parts_of_halves : (n r : ℕ) (ps : List ℕ) (xs above rest block back : List (List Bool)) → HaveWidth n xs → xs ≡ above ++ rest → rest ≡ block ++ back → length above ≡ r → length block ≡ length ps → AreParts n r ps xs above block back
parts_of_halves n r ps xs above rest block back w e f l m = record {
  whole = e ∙ ap (λ x. above ++ x) f ∙ sym (append_assoc above block back);
  front = l;
  middle = m;
  widths = w;
}

-- the rows above and below a block, cleared by it
pub cleared_from_parts : (n r : ℕ) (ps : List ℕ) (f : List Bool → List Bool) (xs above block below above' below' : List (List Bool)) → AreParts n r ps xs above block below → above' ≡ map f above → below' ≡ map f below → ((v : List Bool) → f v ≡ cleared_at n ps block v) → IsClearedByBlock n r ps xs (above' ++ (block ++ below'))
cleared_from_parts n r ps f xs above block below above' below' p a b same =
    let k = length ps in
    let ys = (above' ++ block) ++ below' in
    let front : length above' ≡ r = ap length a ∙ length-map above f ∙ p.front in
    let back : length below' ≡ length below = ap length b ∙ length-map below f in
    let size = behind_front n r ps xs above block below p in
    let old : (i : ℕ) → row xs i ≡ row ((above ++ block) ++ below) i = λ i. ap (λ x. row x i) p.whole in
    let by : (v : List Bool) → f v ≡ cleared_at n ps (block_rows r ps xs) v = λ v. same v ∙ ap (λ x. cleared_at n ps x v) (block_is n r ps xs above block below p) in
    let joined : length (above ++ block) ≡ r + k = length-append above block ∙ omega (arith, p.front, p.middle) in
    let joined' : length (above' ++ block) ≡ r + k = length-append above' block ∙ omega (arith, front, p.middle) in
    let far : (i : ℕ) → r + k ≤ i → length below ≤ i - (r + k) → row ys i ≡ cleared_at n ps (block_rows r ps xs) (row xs i) = λ i m o.
    let gone : row xs i ≡ [] = get_or_past xs i [] (omega arith) in
    get_or_past ys i [] (omega (arith, length-append (above' ++ block) below')) ∙ ap (cleared_at n ps (block_rows r ps xs)) (sym gone) in
    subst (IsClearedByBlock n r ps xs) (append_assoc above' block below') (record {
      as_many = length-append (above' ++ block) below' ∙ omega arith;
      block = λ i l m.
          get_or_append_left (above' ++ block) below' [] i (omega arith)
          ∙ get_or-append_right above' block r i [] front l
          ∙ sym (old i ∙ get_or_append_left (above ++ block) below [] i (omega arith) ∙ get_or-append_right above block r i [] p.front l);
      above = λ i l.
          get_or_append_left (above' ++ block) below' [] i (omega arith)
          ∙ get_or_append_left above' block [] i (omega arith)
          ∙ ap (λ x. row x i) a
          ∙ get_or-map f above i [] [] (omega (arith, p.front))
          ∙ ap f (sym (old i ∙ get_or_append_left (above ++ block) below [] i (omega arith) ∙ get_or_append_left above block [] i (omega (arith, p.front))))
          ∙ by (row xs i);
      below = λ i m. elim (cases_lt (i - (r + k)) (length below)) [
        | inl l ↦
            get_or-append_right (above' ++ block) below' (r + k) i [] joined' m
            ∙ ap (λ x. row x (i - (r + k))) b
            ∙ get_or-map f below (i - (r + k)) [] [] l
            ∙ ap f (sym (old i ∙ get_or-append_right (above ++ block) below (r + k) i [] joined m))
            ∙ by (row xs i)
        | inr o ↦ far i m o
      ];
    })

-- the parts as two splits give them
pub parts_of_splits : (n r : ℕ) (ps : List ℕ) (xs top above block back : List (List Bool)) → HaveWidth n xs → xs ≡ top ++ back → top ≡ above ++ block → length top ≡ r + length ps → length above ≡ r → AreParts n r ps xs above block back
parts_of_splits n r ps xs top above block back w e f l m = record {
  whole = e ∙ ap (λ x. x ++ back) f;
  front = m;
  middle = omega (arith, ap length f, length-append above block);
  widths = w;
}
