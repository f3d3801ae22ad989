-- Row 1 with row 0: what a number there leaves, and where the walk has come once all is filled.
use Rattle.std.proofs.Common.{◌≡◌, ℕ, zero, suc, ◌+◌, ◌-◌, ◌*◌, ◌/◌, ◌<◌, ◌≤◌, ◌^◌, ◌≢◌, inl, inr, nat_lt, Some, List, [], ◌∷◌, ◌++◌, length, drop, refl, sym, ◌∙◌, ap, subst, arith, min, slice_index, slice_get, slice_set, bit_and, bit_or}
use Rattle.std.proofs.lemmas.Bool.{cases_eq, cases_lt, ltb-true, ltb-false, cases_Bool}
use Rattle.std.proofs.lemmas.Nat.{and_comm, and_or_apart, or_disjoint}
use Rattle.std.proofs.lemmas.List.{get_or-set_same, get_or-set_other, length-set, ext_get_or, get_or-drop, length-drop, drop_more}
use Rattle.milnor_basis.specs.Exponents.{trimmed}
use Rattle.milnor_basis.specs.Basis.{basis_of}
use Rattle.milnor_basis.specs.Inside.Walk.{taken, next_row, next_column}
use Rattle.milnor_basis.specs.Inside.FreeRows.{least_free, greatest_free, number_above, added, IsTurnedOver, are_elements, TurnsOverAll, ArePlaced, topped, IsInFirstRow}
use Rattle.milnor_basis.proofs.RowZero.{apart_both, or_apart}
use Rattle.milnor_basis.proofs.PlacesLeft.{placed_last_one}
use Rattle.milnor_basis.proofs.FreeTable.{one_turned}
use Rattle.milnor_basis.proofs.FreeFill.{TurnsOverAllBelow, free_start, free_end, free_none, free_shut, free_shuts, free_turn, free_at_end, top_turn}

-- The diagonals once row 0 is filled.
pub length-topped : (n : ℕ) (columns diagonals : List ℕ) → length (topped n columns diagonals) ≡ length diagonals
length-topped zero columns diagonals = refl
length-topped (suc c) columns diagonals =
    let x = bit_or (slice_index diagonals c) (slice_index columns c) in
    length-topped c columns (slice_set diagonals c x) ∙ length-set diagonals c x

pub topped-past : (n : ℕ) (columns diagonals : List ℕ) (i : ℕ) → n ≤ i → slice_index (topped n columns diagonals) i ≡ slice_index diagonals i
topped-past zero columns diagonals i l = refl
topped-past (suc c) columns diagonals i l =
    let x = bit_or (slice_index diagonals c) (slice_index columns c) in
    topped-past c columns (slice_set diagonals c x) i (omega arith) ∙ get_or-set_other diagonals c i x 0 (λ e. omega arith)

pub topped-here : (n : ℕ) (columns diagonals : List ℕ) (i : ℕ) → n ≤ length diagonals → i < n → slice_index (topped n columns diagonals) i ≡ bit_or (slice_index diagonals i) (slice_index columns i)
topped-here zero columns diagonals i w l = absurd (omega arith)
topped-here (suc c) columns diagonals i w l =
    let x = bit_or (slice_index diagonals c) (slice_index columns c) in
    elim (cases_eq i c) [
      | inl e ↦
          topped-past c columns (slice_set diagonals c x) i (omega arith)
          ∙ subst (λ j. slice_index (slice_set diagonals c x) j ≡ bit_or (slice_index diagonals j) (slice_index columns j)) (sym e) (get_or-set_same diagonals c x 0 (omega arith))
      | inr d ↦
          topped-here c columns (slice_set diagonals c x) i (omega (arith, length-set diagonals c x)) (omega arith)
          ∙ ap (λ y. bit_or y (slice_index columns i)) (get_or-set_other diagonals c i x 0 d)
    ]

topped-agree : (n : ℕ) (columns columns' diagonals : List ℕ) → ((i : ℕ) → i < n → slice_index columns i ≡ slice_index columns' i) → topped n columns diagonals ≡ topped n columns' diagonals
topped-agree zero columns columns' diagonals h = refl
topped-agree (suc c) columns columns' diagonals h =
    topped-agree c columns columns' (slice_set diagonals c (bit_or (slice_index diagonals c) (slice_index columns c))) (λ i l. h i (omega arith))
    ∙ ap (λ x. topped c columns' (slice_set diagonals c (bit_or (slice_index diagonals c) x))) (h c (omega arith))

-- Row 0, where each place takes all that is left of its column.
module _ (degree product w room : ℕ) (rows : List ℕ) (small : degree ≤ 255) (many : length rows ≡ 8) (before after : List (ℕ × ℕ)) where
  pub top_all : (c : ℕ) (columns diagonals : List ℕ) → c ≤ w → c ≤ 8 → length columns ≡ 8 → length diagonals ≡ 16 → ((i : ℕ) → i < c → bit_and (slice_index columns i) (slice_index diagonals i) ≡ 0)
      → IsTurnedOver degree product (are_elements degree product rows (topped c columns diagonals)) before after → TurnsOverAll degree product w 0 c room rows columns diagonals before after
  top_all zero columns diagonals right few wide long apart turns = free_at_end degree product w room rows columns diagonals before after small many turns
  top_all (suc c) columns diagonals right few wide long apart turns =
      let x = bit_or (slice_index diagonals c) (slice_index columns c) in
      top_turn degree product w c room rows columns diagonals small right many before after wide long (apart c (omega arith))
      (top_all c (slice_set columns c 0) (slice_set diagonals c x) (omega arith) (omega arith) (length-set columns c 0 ∙ wide) (length-set diagonals c x ∙ long)
      (λ i l. ap (λ y. bit_and y (slice_index (slice_set diagonals c x) i)) (get_or-set_other columns c i 0 0 (λ e. omega arith))
      ∙ ap (bit_and (slice_index columns i)) (get_or-set_other diagonals c i x 0 (λ e. omega arith)) ∙ apart i (omega arith))
      (subst (λ ts. IsTurnedOver degree product (are_elements degree product rows ts) before after)
      (topped-agree c columns (slice_set columns c 0) (slice_set diagonals c x) (λ i l. sym (get_or-set_other columns c i 0 0 (λ e. omega arith)))) turns))

-- Three numbers of which no two share a digit.
module _ (d a v : ℕ) (da : bit_and a d ≡ 0) (v_apart : bit_and v (bit_or d a) ≡ 0) where
  v_d : bit_and v d ≡ 0
  v_d = apart_both v d a v_apart

  pub or_three : bit_or (bit_or d a) v ≡ d + a + v
  or_three = or_disjoint (bit_or d a) v (and_comm (bit_or d a) v ∙ v_apart) ∙ ap (λ n. n + v) (or_disjoint d a (and_comm d a ∙ da))

  pub a_apart : bit_and a (bit_or d v) ≡ 0
  a_apart =
      let swapped : bit_or d a ≡ d + a = or_disjoint d a (and_comm d a ∙ da) in
      let a_v : bit_and a v ≡ 0 = or_apart d a v (and_comm (bit_or d a) v ∙ v_apart) in
      both_apart a d v da a_v
    where
      both_apart : (n x y : ℕ) → bit_and n x ≡ 0 → bit_and n y ≡ 0 → bit_and n (bit_or x y) ≡ 0
      both_apart n x y h k = and_comm n (bit_or x y) ∙ and_or_apart n x y (and_comm y n ∙ k) ∙ and_comm x n ∙ h

  pub or_other : bit_or (bit_or d v) a ≡ d + a + v
  or_other =
      let sum : bit_or d v ≡ d + v = or_disjoint d v (and_comm d v ∙ v_d) in
      let all = or_disjoint (bit_or d v) a (and_comm (bit_or d v) a ∙ a_apart) in
      omega arith

-- Lists.
added_twice : (rows : List ℕ) (a b n : ℕ) → b + a ≡ n → added 1 a (added 1 b rows) ≡ added 1 n rows
added_twice [] a b n e = refl
added_twice (x ∷ rows) a b n e = let sum : x + b + a ≡ x + n = omega arith in ap (λ y. y ∷ rows) sum

pub drop_agree : (n : ℕ) (xs ys : List ℕ) → length xs ≡ length ys → ((i : ℕ) → n ≤ i → slice_index xs i ≡ slice_index ys i) → drop n xs ≡ drop n ys
drop_agree n xs ys e h = ext_get_or 0 (drop n xs) (drop n ys) (length-drop n xs ∙ ap (λ m. m - n) e ∙ sym (length-drop n ys)) (λ i l.
    get_or-drop n xs i 0 ∙ h (n + i) (omega arith) ∙ sym (get_or-drop n ys i 0))

-- What row 0 has to put in the next column.
above_inside : (w column : ℕ) (columns : List ℕ) → column < w → number_above w 1 column columns ≡ slice_index columns column
above_inside w column columns l = elim (cases_Bool (nat_lt column w)) [
  | inl t ↦ rw t refl
  | inr f ↦ let no = ltb-false column w f in absurd (omega arith)
]

above_past : (w column : ℕ) (columns : List ℕ) → w ≤ column → number_above w 1 column columns ≡ 0
above_past w column columns l = elim (cases_Bool (nat_lt column w)) [
  | inl t ↦ let no = ltb-true column w t in absurd (omega arith)
  | inr f ↦ rw f refl
]

-- A number v at (1, column), with the sum d of the diagonal and `above` so far.
module _ (degree product w column room above below place left : ℕ) (cs ds rows columns diagonals : List ℕ) (fits : w ≤ 8) (right : column ≤ w)
    (is : IsInFirstRow degree product w column room above below place left cs ds rows columns diagonals) (v : ℕ)
    (room_above : bit_and above (slice_index ds column) ≡ 0) (apart : bit_and v (bit_or (slice_index ds column) above) ≡ 0) where
  abbrev d_at : ℕ
  d_at = slice_index ds column

  abbrev filled : List ℕ
  filled = slice_set diagonals column (bit_or (slice_index diagonals column) v)

  filled_here : slice_index filled column ≡ bit_or d_at v
  filled_here = get_or-set_same diagonals column (bit_or (slice_index diagonals column) v) 0 (omega (arith, is.long)) ∙ ap (λ x. bit_or x v) (is.diagonals_so_far column (omega arith))

  filled_other : (i : ℕ) → i ≢ column → slice_index filled i ≡ slice_index diagonals i
  filled_other i other = get_or-set_other diagonals column i (bit_or (slice_index diagonals column) v) 0 other

  column_above : column < w → slice_index columns column ≡ above
  column_above l = sym (above_inside w column columns l) ∙ is.above_left

  -- the diagonals once row 0 is filled, if the columns past this one are as they were
  module _ (columns' : List ℕ) (same : (i : ℕ) → column ≤ i → slice_index columns' i ≡ slice_index columns i) where
    term_here : slice_index (topped w columns' filled) column ≡ bit_or (bit_or d_at above) v
    term_here = elim (cases_lt column w) [
      | inl l ↦
          topped-here w columns' filled column (omega (arith, is.long, length-set diagonals column (bit_or (slice_index diagonals column) v))) l
          ∙ ap (λ x. bit_or x (slice_index columns' column)) filled_here
          ∙ ap (bit_or (bit_or d_at v)) (same column (omega arith) ∙ column_above l)
          ∙ or_other d_at above v room_above apart ∙ sym (or_three d_at above v room_above apart)
      | inr m ↦
          let none : above ≡ 0 = sym is.above_left ∙ above_past w column columns m in
          let sum : bit_or d_at v ≡ d_at + v = or_disjoint d_at v (and_comm d_at v ∙ v_d d_at above v room_above apart) in
          let three = or_three d_at above v room_above apart in
          topped-past w columns' filled column m ∙ filled_here ∙ omega arith
    ]

    term_past : (i : ℕ) → column < i → slice_index (topped w columns' filled) i ≡ slice_index (topped w columns diagonals) i
    term_past i past = elim (cases_lt i w) [
      | inl l ↦
          topped-here w columns' filled i (omega (arith, is.long, length-set diagonals column (bit_or (slice_index diagonals column) v))) l
          ∙ ap (λ x. bit_or x (slice_index columns' i)) (filled_other i (λ e. omega arith))
          ∙ ap (bit_or (slice_index diagonals i)) (same i (omega arith))
          ∙ sym (topped-here w columns diagonals i (omega (arith, is.long)) l)
      | inr m ↦ topped-past w columns' filled i m ∙ filled_other i (λ e. omega arith) ∙ sym (topped-past w columns diagonals i m)
    ]

    terms : drop column (topped w columns' filled) ≡ bit_or (bit_or d_at above) v ∷ drop (suc column) (topped w columns diagonals)
    terms =
        let more : column + 1 ≡ suc column = omega arith in
        let long : length (topped w columns' filled) ≡ 16 = length-topped w columns' filled ∙ length-set diagonals column (bit_or (slice_index diagonals column) v) ∙ is.long in
        drop_more (topped w columns' filled) column 0 (omega arith)
        ∙ ap (λ x. x ∷ drop (column + 1) (topped w columns' filled)) term_here
        ∙ ap (λ n. bit_or (bit_or d_at above) v ∷ drop n (topped w columns' filled)) more
        ∙ ap (λ xs. bit_or (bit_or d_at above) v ∷ xs) (drop_agree (suc column) (topped w columns' filled) (topped w columns diagonals) (long ∙ sym (length-topped w columns diagonals ∙ is.long)) (λ i l. term_past i (omega arith)))

  still_apart : (columns' : List ℕ) → ((i : ℕ) → column ≤ i → slice_index columns' i ≡ slice_index columns i) → (i : ℕ) → column ≤ i → i < w → bit_and (slice_index columns' i) (slice_index filled i) ≡ 0
  still_apart columns' same i from l = elim (cases_eq i column) [
    | inl e ↦
        subst (λ k. bit_and (slice_index columns' k) (slice_index filled k) ≡ 0) (sym e)
        (ap (λ x. bit_and x (slice_index filled column)) (same column (omega arith) ∙ column_above (omega arith)) ∙ ap (bit_and above) filled_here ∙ a_apart d_at above v room_above apart)
    | inr d ↦
        ap (λ x. bit_and x (slice_index filled i)) (same i from) ∙ ap (bit_and (slice_index columns i)) (filled_other i d) ∙ is.apart i (omega arith) l
  ]

  -- it is not the first place of the row
  module _ (j : ℕ) (later : column ≡ suc j) (below' place' : ℕ) where
    next_columns : (i : ℕ) → column ≤ i → slice_index (taken column v columns) i ≡ slice_index columns i
    next_columns i l = subst (λ c. slice_index (taken c v columns) i ≡ slice_index columns i) (sym later) (get_or-set_other columns j i (slice_index columns j - v) 0 (λ e. omega arith))

    pub first_put : v * 2 ^ column ≤ room
        → ((others : List ℕ) → ArePlaced product (suc column) below place others → ArePlaced product column below' place' (bit_or (bit_or d_at above) v ∷ others))
        → IsInFirstRow degree product w j (room - v * 2 ^ column) (slice_index cs j - v) below' place' left cs ds (added 1 (v * 2 ^ column) rows) (taken column v columns) filled
    first_put room_left next = record {
      high = length-set rows 0 (slice_index rows 0 + v * 2 ^ column) ∙ is.high;
      wide = ap (λ c. length (taken c v columns)) later ∙ length-set columns j (slice_index columns j - v) ∙ is.wide;
      long = length-set diagonals column (bit_or (slice_index diagonals column) v) ∙ is.long;
      left_placed = is.left_placed ∙ ap (λ rs. Some (trimmed rs)) (sym (added_twice rows (room - v * 2 ^ column) (v * 2 ^ column) room (omega arith)));
      columns_left = λ i l. ap (λ c. slice_index (taken c v columns) i) later ∙ get_or-set_other columns j i (slice_index columns j - v) 0 (λ e. omega arith) ∙ is.columns_left i (omega arith);
      above_left =
          above_inside w j (taken column v columns) (omega arith)
          ∙ ap (λ c. slice_index (taken c v columns) j) later
          ∙ get_or-set_same columns j (slice_index columns j - v) 0 (omega (arith, is.wide))
          ∙ ap (λ x. x - v) (is.columns_left j (omega arith));
      diagonals_so_far = λ i l. filled_other i (λ e. omega arith) ∙ is.diagonals_so_far i (omega arith);
      apart = λ i l m. still_apart (taken column v columns) next_columns i (omega arith) m;
      term_placed =
          subst (λ c. ArePlaced product c below' place' (drop c (topped w (taken column v columns) filled))) later
          (subst (ArePlaced product column below' place') (sym (terms (taken column v columns) next_columns)) (next (drop (suc column) (topped w columns diagonals)) is.term_placed));
    }

    -- its turn
    pub first_turn : (before middle after : List (ℕ × ℕ)) → degree ≤ 255 → v ≤ min (room / 2 ^ column) (slice_index cs j) → v * 2 ^ column ≤ room
        → ((others : List ℕ) → ArePlaced product (suc column) below place others → ArePlaced product column below' place' (bit_or (bit_or d_at above) v ∷ others))
        → TurnsOverAllBelow degree product w 1 column room rows columns diagonals v before middle
        → ((rows columns diagonals : List ℕ) → IsInFirstRow degree product w j (room - v * 2 ^ column) (slice_index cs j - v) below' place' left cs ds rows columns diagonals → TurnsOverAll degree product w 1 j (room - v * 2 ^ column) rows columns diagonals middle after)
        → TurnsOverAllBelow degree product w 1 column room rows columns diagonals (suc v) before after
    first_turn before middle after small high fits_in next inv turns =
        let at : column ≡ 1 + column - 1 = omega arith in
        let to_row : 1 ≡ next_row 1 column = ap (next_row 1) (sym later) in
        let to_column : j ≡ next_column w 1 column = ap (next_column w 1) (sym later) in
        let same_room : room - v * 2 ^ column ≡ room - v * 2 ^ column * (2 ^ 1 - 1) = omega arith in
        let one : room / (2 ^ 1 - 1) ≡ room = omega arith in
        let same_columns : slice_index columns j ≡ slice_index cs j = is.columns_left j (omega arith) in
        let low : least_free 1 column room columns ≤ v = subst (λ c. least_free 1 c room columns ≤ v) (sym later) (omega arith) in
        let fits_there : v ≤ greatest_free 1 column room columns =
        subst (λ c. v ≤ greatest_free 1 c room columns) (sym later)
        (subst (λ x. v ≤ min (room / (2 ^ 1 - 1) / 2 ^ suc j) x) (sym same_columns) (subst (λ x. v ≤ min (x / 2 ^ suc j) (slice_index cs j)) (sym one) (subst (λ c. v ≤ min (room / 2 ^ c) (slice_index cs j)) later high)))
        in
        let clear : bit_and v (slice_index diagonals column) ≡ 0 = ap (bit_and v) (is.diagonals_so_far column (omega arith)) ∙ v_d d_at above v room_above apart in
        free_turn degree product w 1 column room rows columns diagonals small (omega arith) (omega arith) right is.high before v 1 j (room - v * 2 ^ column) middle after (added 1 (v * 2 ^ column) rows) (taken column v columns) filled
        to_row to_column same_room refl refl (ap (λ k. slice_set diagonals k (bit_or (slice_index diagonals k) v)) at)
        is.wide is.long low fits_there (subst (λ k. bit_and v (slice_index diagonals k) ≡ 0) at clear) inv
        (turns (added 1 (v * 2 ^ column) rows) (taken column v columns) filled (first_put fits_in next))

-- Where row 1 begins, and where nothing goes on.
module _ (degree product w column room above below place left : ℕ) (cs ds rows columns diagonals : List ℕ) (small : degree ≤ 255) (fits : w ≤ 8) (right : column ≤ w)
    (is : IsInFirstRow degree product w column room above below place left cs ds rows columns diagonals) (before : List (ℕ × ℕ)) where
  own_digits : bit_or (slice_index diagonals (1 + column - 1)) (number_above w 1 column columns) ≡ bit_or (slice_index ds column) above
  own_digits =
      let at : 1 + column - 1 ≡ column = omega arith in
      ap (λ k. bit_or (slice_index diagonals k) (number_above w 1 column columns)) at ∙ ap (λ x. bit_or x (number_above w 1 column columns)) (is.diagonals_so_far column (omega arith)) ∙ ap (bit_or (slice_index ds column)) is.above_left

  pub first_none : bit_and above (slice_index ds column) ≢ 0 → TurnsOverAll degree product w 1 column room rows columns diagonals before before
  first_none shares =
      let at : 1 + column - 1 ≡ column = omega arith in
      free_none degree product w 1 column room rows columns diagonals small (omega arith) (omega arith) right is.high before
      (λ e. shares (ap (bit_and above) (sym (is.diagonals_so_far column (omega arith))) ∙ ap (λ k. bit_and above (slice_index diagonals k)) (sym at) ∙ ap (λ x. bit_and x (slice_index diagonals (1 + column - 1))) (sym is.above_left) ∙ e))

  pub first_shuts : (more number : ℕ) (after : List (ℕ × ℕ)) → ((v : ℕ) → number ≤ v → v < more + number → bit_and v (bit_or (slice_index ds column) above) ≢ 0)
      → TurnsOverAllBelow degree product w 1 column room rows columns diagonals number before after → TurnsOverAllBelow degree product w 1 column room rows columns diagonals (more + number) before after
  first_shuts more number after shut inv =
      free_shuts degree product w 1 column room rows columns diagonals small (omega arith) (omega arith) right is.high before more number after
      (λ v a b. inl (λ e. shut v a b (ap (bit_and v) (sym own_digits) ∙ e))) inv

  pub first_end : (j number : ℕ) (after : List (ℕ × ℕ)) → column ≡ suc j → min (room / 2 ^ column) (slice_index cs j) < number
      → TurnsOverAllBelow degree product w 1 column room rows columns diagonals number before after → TurnsOverAll degree product w 1 column room rows columns diagonals before after
  first_end j number after later past inv =
      let one : room / (2 ^ 1 - 1) ≡ room = omega arith in
      let same_columns : slice_index columns j ≡ slice_index cs j = is.columns_left j (omega arith) in
      let past_there : greatest_free 1 column room columns < number =
      subst (λ c. greatest_free 1 c room columns < number) (sym later)
      (subst (λ x. min (room / (2 ^ 1 - 1) / 2 ^ suc j) x < number) (sym same_columns) (subst (λ x. min (x / 2 ^ suc j) (slice_index cs j) < number) (sym one) (subst (λ c. min (room / 2 ^ c) (slice_index cs j) < number) later past)))
      in
      free_end degree product w 1 column room rows columns diagonals small (omega arith) (omega arith) right is.high before number after past_there inv

-- The first place of row 1, which takes all that is left of the row.
module _ (degree product w room above below place left : ℕ) (cs ds rows columns diagonals : List ℕ) (small : degree ≤ 255) (fits : w ≤ 8)
    (is : IsInFirstRow degree product w 0 room above below place left cs ds rows columns diagonals) (before : List (ℕ × ℕ)) where
  whole : room / (2 ^ 1 - 1) ≡ room
  whole = omega arith

  pub first_last_none : bit_and room (bit_or (slice_index ds 0) above) ≢ 0 → TurnsOverAll degree product w 1 0 room rows columns diagonals before before
  first_last_none shares =
      let digits = own_digits degree product w 0 room above below place left cs ds rows columns diagonals small fits (omega arith) is before in
      free_end degree product w 1 0 room rows columns diagonals small (omega arith) (omega arith) (omega arith) is.high before (suc room) before (omega (arith, whole))
      (free_shut degree product w 1 0 room rows columns diagonals small (omega arith) (omega arith) (omega arith) is.high before room before
      (inl (λ e. shares (ap (bit_and room) (sym digits) ∙ e)))
      (free_start degree product w 1 0 room rows columns diagonals small (omega arith) (omega arith) (omega arith) is.high before))

  pub first_last : bit_and above (slice_index ds 0) ≡ 0 → bit_and room (bit_or (slice_index ds 0) above) ≡ 0 → below ≡ slice_index ds 0 + above + room
      → TurnsOverAll degree product w 1 0 room rows columns diagonals before (before ++ (left, place) ∷ [])
  first_last room_above apart weight =
      let after = before ++ (left, place) ∷ [] in
      let d = slice_index ds 0 in
      let filled_diagonals = filled degree product w 0 room above below place left cs ds rows columns diagonals fits (omega arith) is room room_above apart in
      let own : (i : ℕ) → 0 ≤ i → slice_index columns i ≡ slice_index columns i = λ i l. refl in
      let all : topped w columns filled_diagonals ≡ below ∷ drop 1 (topped w columns diagonals) =
      terms degree product w 0 room above below place left cs ds rows columns diagonals fits (omega arith) is room room_above apart columns own
      ∙ ap (λ x. x ∷ drop 1 (topped w columns diagonals)) (or_three d above room room_above apart ∙ sym weight)
      in
      let t_placed : slice_get (basis_of product) place ≡ Some (trimmed (topped w columns filled_diagonals)) = placed_last_one product below place (drop 1 (topped w columns diagonals)) is.term_placed ∙ ap (λ ts. Some (trimmed ts)) (sym all) in
      let same : room ≡ room * 2 ^ 0 = omega arith in
      let r_placed : slice_get (basis_of degree) left ≡ Some (trimmed (added 1 (room * 2 ^ 0) rows)) = is.left_placed ∙ ap (λ n. Some (trimmed (added 1 n rows))) same in
      let turned : IsTurnedOver degree product (are_elements degree product (added 1 (room * 2 ^ 0) rows) (topped w columns filled_diagonals)) before after =
      one_turned degree product (added 1 (room * 2 ^ 0) rows) (topped w columns filled_diagonals) before left place r_placed t_placed
      in
      let rest : ℕ = room - room * 2 ^ 0 * (2 ^ 1 - 1) in
      let top : TurnsOverAll degree product w 0 w rest (added 1 (room * 2 ^ 0) rows) columns filled_diagonals before after =
      top_all degree product w rest (added 1 (room * 2 ^ 0) rows) small (length-set rows 0 (slice_index rows 0 + room * 2 ^ 0) ∙ is.high) before after w columns filled_diagonals (omega arith) fits is.wide
      (length-set diagonals 0 (bit_or (slice_index diagonals 0) room) ∙ is.long)
      (λ i l. still_apart degree product w 0 room above below place left cs ds rows columns diagonals fits (omega arith) is room room_above apart columns own i (omega arith) l) turned
      in
      let clear : bit_and room (slice_index diagonals 0) ≡ 0 = ap (bit_and room) (is.diagonals_so_far 0 (omega arith)) ∙ v_d d above room room_above apart in
      free_end degree product w 1 0 room rows columns diagonals small (omega arith) (omega arith) (omega arith) is.high before (suc room) after (omega (arith, whole))
      (free_turn degree product w 1 0 room rows columns diagonals small (omega arith) (omega arith) (omega arith) is.high before room 0 w rest before after (added 1 (room * 2 ^ 0) rows) columns filled_diagonals
      refl refl refl refl refl refl is.wide is.long (omega arith) (omega (arith, whole)) clear
      (free_start degree product w 1 0 room rows columns diagonals small (omega arith) (omega arith) (omega arith) is.high before) top)

-- Row 1 begins.
pub first_begin : (degree product w room below place left : ℕ) (rows columns diagonals : List ℕ) → length rows ≡ 8 → length columns ≡ 8 → length diagonals ≡ 16 → slice_get (basis_of degree) left ≡ Some (trimmed (added 1 room rows))
    → ArePlaced product (w + 1) below place (drop (w + 1) diagonals) → IsInFirstRow degree product w w room 0 below place left columns diagonals rows columns diagonals
first_begin degree product w room below place left rows columns diagonals high wide long at placed = record {
  high = high;
  wide = wide;
  long = long;
  left_placed = at;
  columns_left = λ i l. refl;
  above_left = above_past w w columns (omega arith);
  diagonals_so_far = λ i l. refl;
  apart = λ i l m. absurd (omega arith);
  term_placed =
      let next : w + 1 ≡ suc w = omega arith in
      subst (ArePlaced product (suc w) below place) (sym (drop_agree (suc w) (topped w columns diagonals) diagonals (length-topped w columns diagonals) (λ i l. topped-past w columns diagonals i (omega arith))))
      (subst (λ k. ArePlaced product k below place (drop k diagonals)) next placed);
}

-- Places past row 1.
pub least_none : (row column room : ℕ) (columns : List ℕ) → 1 < row → least_free row column room columns ≡ 0
least_none zero column room columns h = absurd (omega arith)
least_none (suc zero) column room columns h = absurd (omega arith)
least_none (suc (suc i)) zero room columns h = refl
least_none (suc (suc i)) (suc j) room columns h = refl

pub next_some : (row column : ℕ) → 1 < row → 0 < next_row row column
next_some row (suc c) h = omega arith
next_some zero zero h = absurd (omega arith)
next_some (suc i) zero h = omega arith

pub next_first : (w row column : ℕ) → 1 < row → next_row row column ≡ 1 → next_column w row column ≡ w
next_first w row zero h e = refl
next_first w row (suc c) h e = absurd (omega arith)
