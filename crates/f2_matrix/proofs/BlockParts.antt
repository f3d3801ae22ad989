-- What the calls of the elimination by blocks leave, from the parts that they write.
use Rattle.std.specs.List.{swap}
use Rattle.std.proofs.Common.{◌≡◌, ◌⊎◌, ℕ, suc, ◌+◌, ◌-◌, ◌<◌, ◌≤◌, Bool, List, [], ◌∷◌, ◌++◌, length, map, drop, set, refl, subst, ap, sym, ◌∙◌, arith, inl, inr}
use Rattle.std.proofs.lemmas.List.{ext_get_or, get_or_past, length-map, length-append, length-set, get_or_append_left, get_or-append_right, get_or_at, get_or-set_same, get_or-set_other}
use Rattle.std.proofs.lemmas.List.Edits.{length-swap}
use Rattle.std.proofs.lemmas.Bool.{cases_eq, cases_lt}
use Rattle.f2_vec.specs.Spans.{row, HaveWidth}
use Rattle.f2_vec.proofs.Spans.{HaveWidth-front, HaveWidth-back}
use Rattle.f2_matrix.specs.Inside.RowOperations.{cleared}
use Rattle.f2_sums.specs.Sums.{cleared_at}
use Rattle.f2_matrix.specs.Inside.Blocks.{block_rows, IsClearedByBlock, IsPivotTaken}
use Rattle.f2_matrix.proofs.RowOperations.{row-swap_left, row-swap_other, row-map_cleared, IsRearranged, IsRearranged-swap, HaveWidth-rearranged}
use Rattle.f2_matrix.proofs.BlockSteps.{row-block, length-block, HaveWidth-block, length-cleared_at}

-- ---- rows of a list of three parts

module _ (r k : ℕ) (xs ys zs : List (List Bool)) (q : List Bool) (front : length xs ≡ r) (middle : length ys ≡ k) where
  both : length (xs ++ ys) ≡ r + k
  both = length-append xs ys ∙ omega arith

  pub row_front : (i : ℕ) → i < r → row ((xs ++ ys) ++ q ∷ zs) i ≡ row xs i
  row_front i l = get_or_append_left (xs ++ ys) (q ∷ zs) [] i (omega (arith, both)) ∙ get_or_append_left xs ys [] i (omega arith)

  pub row_middle : (i : ℕ) → r ≤ i → i < r + k → row ((xs ++ ys) ++ q ∷ zs) i ≡ row ys (i - r)
  row_middle i l m = get_or_append_left (xs ++ ys) (q ∷ zs) [] i (omega (arith, both)) ∙ get_or-append_right xs ys r i [] front l

  pub row_at : row ((xs ++ ys) ++ q ∷ zs) (r + k) ≡ q
  row_at = get_or_at (xs ++ ys) q zs [] (r + k) both

  pub row_back : (i : ℕ) → r + k < i → row ((xs ++ ys) ++ q ∷ zs) i ≡ row zs (i - suc (r + k))
  row_back i l =
      let e : i - (r + k) ≡ suc (i - suc (r + k)) = omega arith in
      get_or-append_right (xs ++ ys) (q ∷ zs) (r + k) i [] both (omega arith) ∙ ap (row (q ∷ zs)) e

-- the block is cleared by the new pivot row, which stands behind it
pub taken_from_parts : (n r col a : ℕ) (ps : List ℕ) (xs sw above block new below : List (List Bool)) (p q : List Bool) → r + length ps ≤ a → a < length xs → sw ≡ swap xs (r + length ps) a → sw ≡ (above ++ block) ++ p ∷ below → length above ≡ r → length block ≡ length ps → q ≡ cleared_at n ps block p → new ≡ map (cleared q col) block → IsPivotTaken n r ps col a xs ((above ++ new) ++ q ∷ below)
taken_from_parts n r col a ps xs sw above block new below p q low high is parts front middle pivot cleared_by =
    let k = length ps in
    let new_middle : length new ≡ k = ap length cleared_by ∙ length-map block (cleared q col) ∙ middle in
    let behind : r + k < length xs = omega arith in
    let from : (i : ℕ) → row ((above ++ block) ++ p ∷ below) i ≡ row (swap xs (r + k) a) i = λ i. ap (λ t. row t i) (sym parts ∙ is) in
    let p_is : p ≡ row xs a = sym (row_at r k above block below p front middle) ∙ from (r + k) ∙ row-swap_left xs (r + k) a behind high in
    let kept : (i : ℕ) → i < r + k → row (swap xs (r + k) a) i ≡ row xs i = λ i l. row-swap_other xs (r + k) a i behind high (λ e. absurd (omega arith)) (λ e. absurd (omega arith)) in
    let block_is : block ≡ block_rows r ps xs = ext_get_or [] block (block_rows r ps xs) (middle ∙ sym (length-block r ps xs (omega arith))) (λ j l.
    let m : j < k = omega arith in
    let e : (r + j) - r ≡ j = omega arith in
    ap (row block) (sym e) ∙ sym (row_middle r k above block below p front middle (r + j) (omega arith) (omega arith)) ∙ from (r + j) ∙ kept (r + j) (omega arith) ∙ sym (row-block r ps xs j m)) in
    let q_is : q ≡ cleared_at n ps (block_rows r ps xs) (row xs a) = pivot ∙ ap (λ b. cleared_at n ps b p) block_is ∙ ap (cleared_at n ps (block_rows r ps xs)) p_is in
    record {
      as_many =
          length-append (above ++ new) (q ∷ below)
          ∙ omega (arith, length-append above new, length-append above block, length-append (above ++ block) (p ∷ below), ap length parts, ap length is, length-swap xs (r + k) a);
      pivot = row_at r k above new below q front new_middle ∙ q_is;
      block = λ i l m.
          row_middle r k above new below q front new_middle i l m
          ∙ ap (λ t. row t (i - r)) cleared_by
          ∙ row-map_cleared q col block (i - r)
          ∙ ap (λ t. cleared t col (row block (i - r))) q_is
          ∙ ap (cleared (cleared_at n ps (block_rows r ps xs) (row xs a)) col) (sym (row_middle r k above block below p front middle i l m) ∙ from i ∙ kept i m);
      above = λ i l. row_front r k above new below q front new_middle i l ∙ sym (row_front r k above block below p front middle i l) ∙ from i ∙ kept i (omega arith);
      below = λ i l. row_back r k above new below q front new_middle i l ∙ sym (row_back r k above block below p front middle i l) ∙ from i;
    }

-- a list that is not empty, and what a write of its first element leaves
pub first_and_rest : (xs : List (List Bool)) → 0 < length xs → xs ≡ row xs 0 ∷ drop 1 xs
first_and_rest [] h = absurd (omega arith)
first_and_rest (x ∷ xs) h = refl

pub set_first : (xs : List (List Bool)) (q : List Bool) → 0 < length xs → set xs 0 q ≡ q ∷ drop 1 xs
set_first [] q h = absurd (omega arith)
set_first (x ∷ xs) q h = refl

-- ---- the rows outside the block, cleared one by one

pub record IsClearedUpTo (n r i : ℕ) (ps : List ℕ) (xs cur : List (List Bool)) : Type 0 where
  pub widths : HaveWidth n cur
  pub as_many : length cur ≡ length xs
  pub block : (k : ℕ) → r ≤ k → k < r + length ps → row cur k ≡ row xs k
  pub above : (k : ℕ) → k < r → k < i → row cur k ≡ cleared_at n ps (block_rows r ps xs) (row xs k)
  pub below : (k : ℕ) → r + length ps ≤ k → k < i → row cur k ≡ cleared_at n ps (block_rows r ps xs) (row xs k)
  pub rest : (k : ℕ) → i ≤ k → row cur k ≡ row xs k

pub IsClearedUpTo-start : (n r : ℕ) (ps : List ℕ) (xs : List (List Bool)) → HaveWidth n xs → IsClearedUpTo n r 0 ps xs xs
IsClearedUpTo-start n r ps xs w = record {
  widths = w;
  as_many = refl;
  block = λ k l m. refl;
  above = λ k l m. absurd (omega arith);
  below = λ k l m. absurd (omega arith);
  rest = λ k l. refl;
}

pub IsClearedUpTo-skip : (n r i : ℕ) (ps : List ℕ) (xs cur : List (List Bool)) → IsClearedUpTo n r i ps xs cur → r ≤ i → i < r + length ps → IsClearedUpTo n r (i + 1) ps xs cur
IsClearedUpTo-skip n r i ps xs cur s l m = record {
  widths = s.widths;
  as_many = s.as_many;
  block = s.block;
  above = λ k a b. s.above k a (omega arith);
  below = λ k a b. s.below k a (omega arith);
  rest = λ k a. s.rest k (omega arith);
}

pub IsClearedUpTo-more : (n r i : ℕ) (ps : List ℕ) (xs cur : List (List Bool)) (v : List Bool) → IsClearedUpTo n r i ps xs cur → (i < r) ⊎ (r + length ps ≤ i) → i < length xs → HaveWidth n xs → v ≡ cleared_at n ps (block_rows r ps xs) (row xs i) → IsClearedUpTo n r (i + 1) ps xs (set cur i v)
IsClearedUpTo-more n r i ps xs cur v s side h w e =
    let len : length (set cur i v) ≡ length cur = length-set cur i v in
    let at_i : row (set cur i v) i ≡ v = get_or-set_same cur i v [] (omega (arith, s.as_many)) in
    let other : (k : ℕ) → (k ≡ i → ⊥) → row (set cur i v) k ≡ row cur k = λ k d. get_or-set_other cur i k v [] d in
    let lv : length v ≡ n = ap length e ∙ length-cleared_at n ps (block_rows r ps xs) (row xs i) (HaveWidth-block n r ps xs w) (w i h) in
    let here : (k : ℕ) → k ≡ i → row (set cur i v) k ≡ cleared_at n ps (block_rows r ps xs) (row xs k) = λ k d. ap (row (set cur i v)) d ∙ at_i ∙ e ∙ ap (λ j. cleared_at n ps (block_rows r ps xs) (row xs j)) (sym d) in
    record {
      widths = λ k l. elim (cases_eq k i) [ inl d ↦ ap (λ j. length (row (set cur i v) j)) d ∙ ap length at_i ∙ lv | inr d ↦ ap length (other k d) ∙ s.widths k (omega arith) ];
      as_many = len ∙ s.as_many;
      block = λ k a b. other k (λ d. elim side [ inl x ↦ absurd (omega arith) | inr x ↦ absurd (omega arith) ]) ∙ s.block k a b;
      above = λ k a b. elim (cases_eq k i) [ inl d ↦ here k d | inr d ↦ other k d ∙ s.above k a (omega arith) ];
      below = λ k a b. elim (cases_eq k i) [ inl d ↦ here k d | inr d ↦ other k d ∙ s.below k a (omega arith) ];
      rest = λ k a. other k (λ d. absurd (omega arith)) ∙ s.rest k (omega arith);
    }

pub IsClearedByBlock-from_all : (n r i : ℕ) (ps : List ℕ) (xs cur : List (List Bool)) → IsClearedUpTo n r i ps xs cur → length xs ≤ i → r + length ps ≤ length xs → IsClearedByBlock n r ps xs cur
IsClearedByBlock-from_all n r i ps xs cur s l m = record {
  as_many = s.as_many;
  block = s.block;
  above = λ k a. s.above k a (omega arith);
  below = λ k a. elim (cases_lt k i) [
    | inl b ↦ s.below k a b
    | inr b ↦
        let z : row xs k ≡ [] = get_or_past xs k [] (omega arith) in
        s.rest k b ∙ z ∙ ap (cleared_at n ps (block_rows r ps xs)) (sym z)
  ];
}

-- the parts of the rows, two of them exchanged, are as wide as the rows
pub swapped_widths : (n e a : ℕ) (xs sw above block back hi : List (List Bool)) → HaveWidth n xs → e ≤ a → a < length xs → sw ≡ swap xs e a → sw ≡ hi ++ back → hi ≡ above ++ block → HaveWidth n block × HaveWidth n back
swapped_widths n e a xs sw above block back hi w l m is parts split =
    let u : IsRearranged e xs (swap xs e a) = IsRearranged-swap e e a xs (omega arith) l (omega arith) m in
    let ws : HaveWidth n (hi ++ back) = subst (HaveWidth n) (sym is ∙ parts) (HaveWidth-rearranged n e xs (swap xs e a) u w) in
    let wh : HaveWidth n (above ++ block) = subst (HaveWidth n) split (HaveWidth-front n hi back ws) in
    (HaveWidth-back n above block wh, HaveWidth-back n hi back ws)
