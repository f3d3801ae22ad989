-- A table with one square more.
use Rattle.std.proofs.Common.{◌≡◌, ◌≢◌, ◌⊎◌, true, false, Option, ℕ, zero, suc, ◌+◌, ◌-◌, ◌<◌, ◌≤◌, List, [], ◌∷◌, ◌++◌, length, map, set, get_or, Some, None, IsSome, refl, sym, ◌∙◌, ap, subst, arith, inl, inr}
use Rattle.std.specs.List.{slice_get}
use Rattle.std.proofs.lemmas.List.{length_push, length-map}
use Rattle.std.proofs.lemmas.Option.{slice_get_within, slice_get_read}
use Rattle.std.proofs.lemmas.Bool.{cases_eq}
use Rattle.bidegree.specs.declared.range.Range.{Range}
use Rattle.finite_module.specs.Checked.{Checked}
use Rattle.resolution_laws.specs.Resolution.{Content}
use Rattle.resolution_laws.specs.Start.{Entry, entry_at, IsOf}
use Rattle.resolution_laws.proofs.StartLaws.{grown_content, entry_at-other}
use Rattle.square.specs.Squares.{Placed, entry_of, WasRead, IsSquare, over}
use Rattle.square.specs.Tables.{Shelf, Staircase, row_in, with_square, IsNext, IsContinued, IsIn, IsTable, IsThrough, HaveRoom}
use Rattle.square.proofs.Places.{next_length}

-- ---- rows

pub length-with_square : (rows : List (List Placed)) (s : ℕ) (q : Placed) → length (with_square rows s q) ≡ length rows
length-with_square [] s q = refl
length-with_square (row ∷ rows) zero q = refl
length-with_square (row ∷ rows) (suc s) q = let rest = length-with_square rows s q in omega arith

pub row_in-same : (rows : List (List Placed)) (s : ℕ) (q : Placed) → s < length rows → row_in (with_square rows s q) s ≡ row_in rows s ++ q ∷ []
row_in-same [] s q l = absurd (omega arith)
row_in-same (row ∷ rows) zero q l = refl
row_in-same (row ∷ rows) (suc s) q l = row_in-same rows s q (omega arith)

pub row_in-other : (rows : List (List Placed)) (s i : ℕ) (q : Placed) → i ≢ s → row_in (with_square rows s q) i ≡ row_in rows i
row_in-other [] s i q d = refl
row_in-other (row ∷ rows) zero zero q d = absurd (d refl)
row_in-other (row ∷ rows) zero (suc i) q d = refl
row_in-other (row ∷ rows) (suc s) zero q d = refl
row_in-other (row ∷ rows) (suc s) (suc i) q d = row_in-other rows s i q (λ e. d (omega arith))

slice_get-end : (row : List Placed) (k : ℕ) (q p : Placed) → slice_get (row ++ q ∷ []) k ≡ Some p → (slice_get row k ≡ Some p) ⊎ ((k ≡ length row) × (p ≡ q))
slice_get-end [] zero q p e = inr (refl, let same : q ≡ p = cc in sym same)
slice_get-end [] (suc k) q p e = cc
slice_get-end (x ∷ row) zero q p e = inl e
slice_get-end (x ∷ row) (suc k) q p e =
    elim (slice_get-end row k q p e) [
      | inl h ↦ inl h
      | inr h ↦ let at = h.0 in inr (omega arith, h.1)
    ]

-- a row with a square at its end, among the rows
pub map-with_square : (rows : List Shelf) (s : ℕ) (old new : Shelf) (q : Placed) → s < length rows → slice_get rows s ≡ Some old → new.squares ≡ old.squares ++ q ∷ [] → map (λ (r : Shelf). r.squares) (set rows s new) ≡ with_square (map (λ (r : Shelf). r.squares) rows) s q
map-with_square [] s old new q l e h = absurd (omega arith)
map-with_square (r ∷ rows) zero old new q l e h =
    let same : r ≡ old = cc in
    ap (λ (x : List Placed). x ∷ map (λ (r : Shelf). r.squares) rows) (h ∙ ap (λ (x : Shelf). x.squares ++ q ∷ []) (sym same))
map-with_square (r ∷ rows) (suc s) old new q l e h = ap (λ (x : List (List Placed)). r.squares ∷ x) (map-with_square rows s old new q (omega arith) e h)

-- ---- the table

-- rows do not rise
pub never_rises_by : (table : Staircase) → IsTable table → (s d : ℕ) → length (row_in table.rows (s + d)) ≤ length (row_in table.rows s)
never_rises_by table h s zero = let e : s + 0 ≡ s = omega arith in let same = ap (λ n. length (row_in table.rows n)) e in omega arith
never_rises_by table h s (suc d) =
    let e : s + suc d ≡ suc (s + d) = omega arith in
    let same = ap (λ n. length (row_in table.rows n)) e in
    let here = h.never_rise (s + d) in
    let rest = never_rises_by table h s d in
    omega arith

pub never_rises : (table : Staircase) → IsTable table → (s i : ℕ) → s ≤ i → length (row_in table.rows i) ≤ length (row_in table.rows s)
never_rises table h s i above =
    let e : s + (i - s) ≡ i = omega arith in
    let same = ap (λ n. length (row_in table.rows n)) e in
    let less = never_rises_by table h s (i - s) in
    omega arith

-- a table whose last row has all squares of a range has them in each row
pub through_last : (range : Range) (table : Staircase) → IsTable table → range.t < length (row_in table.rows range.s) → IsThrough range table.rows
through_last range table h last s within = let falls = never_rises table h s range.s within in omega arith

-- what is in a table does not stand over the next square of a row
off_next : (table : Staircase) → IsTable table → (s k i j : ℕ) → length (row_in table.rows s) ≡ k → j < length (row_in table.rows i) → s ≤ i → k ≤ j → ⊥
off_next table h s k i j end there p q = let less = never_rises table h s i p in omega arith

not_some : {X : Type 0} (o : Option X) → o ≡ None → IsSome o → ⊥
not_some None e some = let same : false ≡ true = some in cc
not_some (Some x) e some = cc

-- a square that was read is in a start that has the same at its place
not_absent : (q : Placed) (start : List Entry) (s k : ℕ) → WasRead q → q.s ≡ s → q.above ≡ k → entry_at q.start s k ≡ entry_at start s k → entry_at start s k ≡ None → ⊥
not_absent q start s k read at_s at_k same none =
    not_some (entry_at q.start q.s q.above) (ap (λ n. entry_at q.start n q.above) at_s ∙ ap (entry_at q.start s) at_k ∙ same ∙ none) read

module _ (table : Staircase) (q : Placed) (spare : ℕ) (h : IsTable table) (square : IsSquare q) (resolved : q.resolved ≡ table.resolved) (next : IsNext table.rows q.s q.above) where
  abbrev more : Staircase
  more = record { resolved = table.resolved; start = q.start; rows = with_square table.rows q.s q; spare = spare }

  row_there : q.s < length table.rows
  row_there = let a = square.row in let b = h.rows in omega arith

  row_end : length (row_in table.rows q.s) ≡ q.above
  row_end = next_length table.rows q.s q.above next

  grows : (i : ℕ) → length (row_in table.rows i) ≤ length (row_in more.rows i)
  grows i =
      elim (cases_eq i q.s) [
        | inl e ↦
            let same = ap (λ n. length (row_in table.rows n)) e in
            let new = ap (λ n. length (row_in more.rows n)) e ∙ ap length (row_in-same table.rows q.s q row_there) ∙ length_push (row_in table.rows q.s) q in
            omega arith
        | inr d ↦ let same = ap length (row_in-other table.rows q.s i q d) in omega arith
      ]

  falls : (i : ℕ) → length (row_in more.rows (suc i)) ≤ length (row_in more.rows i)
  falls i =
      let low = grows i in
      let old = h.never_rise i in
      elim (cases_eq (suc i) q.s) [
        | inl e ↦
            let new = ap (λ n. length (row_in more.rows n)) e ∙ ap length (row_in-same table.rows q.s q row_there) ∙ length_push (row_in table.rows q.s) q in
            let under = next.below i e in
            let end = row_end in
            omega arith
        | inr d ↦ let same = ap length (row_in-other table.rows q.s (suc i) q d) in omega arith
      ]

  -- what was there stays as it was
  abbrev Stands : ℕ → ℕ → Content → Type 0
  Stands i j c = IsOf (over table.resolved) q.start i j c × ((a b : ℕ) → a ≤ i → b ≤ j → entry_at q.start a b ≡ entry_at table.start a b)

  stands : IsContinued table q → (i j : ℕ) (c : Content) → j < length (row_in table.rows i) → IsOf (over table.resolved) table.start i j c → Stands i j c
  stands continued i j c there is =
      elim continued [
        | inl e ↦ (subst (λ st. IsOf (over table.resolved) st i j c) (sym e) is, λ a b p l. ap (λ (st : List Entry). entry_at st a b) e)
        | inr e ↦
            let off = off_next table h q.s q.above i j row_end there in
            let P : List Entry → Type 0 = λ st. IsOf (over table.resolved) st i j c in (
              subst P (sym e.1) (grown_content (over table.resolved) table.start (entry_of q) i j c off is),
              λ a b p l. ap (λ (st : List Entry). entry_at st a b) e.1 ∙ entry_at-other table.start (entry_of q) a b (λ x y. off (omega arith) (omega arith)),
            )
      ]

  still : IsContinued table q → (i j : ℕ) (p : Placed) → slice_get (row_in table.rows i) j ≡ Some p → entry_at q.start i j ≡ entry_at table.start i j → entry_at q.start i j ≡ None → p.start ≡ q.start
  still continued i j p e same none =
      let is = h.placed i j p e in
      let here = is.beneath i j (omega arith) (omega arith) in
      elim continued [
        | inl st ↦ is.start_is (sym same ∙ none) ∙ sym st
        | inr st ↦ absurd (not_absent p q.start i j (st.0 i j p e) is.s_is is.above_is (here ∙ sym same) none)
      ]

  old_in : IsContinued table q → (i j : ℕ) (p : Placed) → slice_get (row_in table.rows i) j ≡ Some p → IsIn more i j p
  old_in continued i j p e =
      let is = h.placed i j p e in
      let s = stands continued i j p.content (slice_get_within (row_in table.rows i) j p e) is.is_of in
      record {
        s_is = is.s_is;
        above_is = is.above_is;
        within = is.within;
        resolved_is = is.resolved_is;
        is_of = s.0;
        beneath = λ a b p l. is.beneath a b p l ∙ sym (s.1 a b p l);
        start_is = still continued i j p e (s.1 i j (omega arith) (omega arith));
      }

  new_in : IsIn more q.s q.above q
  new_in = record {
    s_is = refl;
    above_is = refl;
    within = square.degree;
    resolved_is = resolved;
    is_of = subst (λ (m : Checked). IsOf (over m) q.start q.s q.above q.content) resolved square.is_of;
    beneath = λ i j p l. refl;
    start_is = λ none. refl;
  }

  placed : IsContinued table q → (i j : ℕ) (p : Placed) → slice_get (row_in more.rows i) j ≡ Some p → IsIn more i j p
  placed continued i j p e =
      elim (cases_eq i q.s) [
        | inr d ↦ old_in continued i j p (ap (λ (row : List Placed). slice_get row j) (sym (row_in-other table.rows q.s i q d)) ∙ e)
        | inl same ↦
            let row : row_in more.rows i ≡ row_in table.rows q.s ++ q ∷ [] = ap (row_in more.rows) same ∙ row_in-same table.rows q.s q row_there in
            elim (slice_get-end (row_in table.rows q.s) j q p (ap (λ (row : List Placed). slice_get row j) (sym row) ∙ e)) [
              | inl old ↦ old_in continued i j p (ap (λ n. slice_get (row_in table.rows n) j) same ∙ old)
              | inr new ↦
                  let P : ℕ → Type 0 = λ n. IsIn more n j p in
                  let Q : ℕ → Type 0 = λ n. IsIn more q.s n p in
                  subst P (sym same) (subst Q (sym (new.0 ∙ row_end)) (subst (IsIn more q.s q.above) (sym new.1) new_in))
            ]
      ]

  started : IsContinued table q → (i j : ℕ) (c : Content) → entry_at q.start i j ≡ Some c → j < length (row_in more.rows i)
  started continued i j c e =
      let low = grows i in
      elim continued [
        | inl same ↦ let old = h.started i j c (ap (λ (st : List Entry). entry_at st i j) (sym same) ∙ e) in omega arith
        | inr same ↦
            let there : entry_at (table.start ++ entry_of q ∷ []) i j ≡ Some c = ap (λ (st : List Entry). entry_at st i j) (sym same.1) ∙ e in
            elim (cases_eq i q.s) [
              | inr d ↦ let old = h.started i j c (sym (entry_at-other table.start (entry_of q) i j (λ a b. d (sym a))) ∙ there) in omega arith
              | inl row ↦
                  elim (cases_eq j q.above) [
                    | inr d ↦ let old = h.started i j c (sym (entry_at-other table.start (entry_of q) i j (λ a b. d (sym b))) ∙ there) in omega arith
                    | inl at ↦
                        let new = ap (λ n. length (row_in more.rows n)) row ∙ ap length (row_in-same table.rows q.s q row_there) ∙ length_push (row_in table.rows q.s) q in
                        let end = row_end in
                        omega arith
                  ]
            ]
      ]

  pub IsTable-push : IsContinued table q → IsTable more
  IsTable-push continued = record {
    rows = length-with_square table.rows q.s q ∙ h.rows;
    never_rise = falls;
    placed = placed continued;
    started = started continued;
  }

-- ---- the rows as they are held

pub slice_get-set : {X : Type 0} (xs : List X) (s i : ℕ) (x y : X) → slice_get (set xs s x) i ≡ Some y → ((i ≡ s) × (y ≡ x)) ⊎ ((i ≢ s) × (slice_get xs i ≡ Some y))
slice_get-set [] s i x y e = cc
slice_get-set (z ∷ xs) zero zero x y e = inl (refl, let same : x ≡ y = cc in sym same)
slice_get-set (z ∷ xs) zero (suc i) x y e = inr (λ d. absurd (omega arith), e)
slice_get-set (z ∷ xs) (suc s) zero x y e = inr (λ d. absurd (omega arith), e)
slice_get-set (z ∷ xs) (suc s) (suc i) x y e =
    elim (slice_get-set xs s i x y e) [
      | inl h ↦ let at = h.0 in inl (omega arith, h.1)
      | inr h ↦ inr (λ d. h.0 (omega arith), h.1)
    ]

pub map-same_squares : (rows : List Shelf) (s : ℕ) (old new : Shelf) → slice_get rows s ≡ Some old → new.squares ≡ old.squares → map (λ (r : Shelf). r.squares) (set rows s new) ≡ map (λ (r : Shelf). r.squares) rows
map-same_squares [] s old new e h = refl
map-same_squares (r ∷ rows) zero old new e h =
    let same : r ≡ old = cc in
    ap (λ (x : List Placed). x ∷ map (λ (r : Shelf). r.squares) rows) (h ∙ ap (λ (x : Shelf). x.squares) (sym same))
map-same_squares (r ∷ rows) (suc s) old new e h = ap (λ (x : List (List Placed)). r.squares ∷ x) (map-same_squares rows s old new e h)

pub HaveRoom-set : (rows : List Shelf) (s : ℕ) (new : Shelf) (spare less : ℕ) → HaveRoom rows spare → less ≤ new.room → less ≤ spare → HaveRoom (set rows s new) less
HaveRoom-set rows s new spare less h room fewer i row e =
    elim (slice_get-set rows s i new row e) [
      | inl p ↦ subst (λ (r : Shelf). less ≤ r.room) (sym p.1) room
      | inr p ↦ let old = h i row p.1 in omega arith
    ]

pub map-pushed : (rows : List Shelf) (s : ℕ) (old new : Shelf) (q : Placed) → slice_get rows s ≡ Some old → new.squares ≡ old.squares ++ q ∷ [] → map (λ (r : Shelf). r.squares) (set rows s new) ≡ with_square (map (λ (r : Shelf). r.squares) rows) s q
map-pushed rows s old new q e h = map-with_square rows s old new q (slice_get_within rows s old e) e h

-- the table with one square more, as it is held
pub table_pushed : (resolved : Checked) (first start : List Entry) (rows : List Shelf) (s spare less : ℕ) (old new : Shelf) (q : Placed) (now : Staircase) → IsTable (record { resolved = resolved; start = first; rows = map (λ (r : Shelf). r.squares) rows; spare = spare }) → record { resolved = resolved; start = first; rows = map (λ (r : Shelf). r.squares) rows; spare = spare } ≡ now
    → IsSquare q → q.resolved ≡ now.resolved → IsNext now.rows q.s q.above → IsContinued now q → s ≡ q.s → start ≡ q.start → slice_get rows s ≡ Some old → new.squares ≡ old.squares ++ q ∷ [] → IsTable (record { resolved = resolved; start = start; rows = map (λ (r : Shelf). r.squares) (set rows s new); spare = less })
table_pushed resolved first start rows s spare less old new q now h seen square same next continued at starts there pushed =
    let table : Staircase = record { resolved = resolved; start = first; rows = map (λ (r : Shelf). r.squares) rows; spare = spare } in
    let back : now ≡ table = sym seen in
    let made = IsTable-push table q less h square (same ∙ ap (λ (t : Staircase). t.resolved) back) (subst (λ (t : Staircase). IsNext t.rows q.s q.above) back next) (subst (λ (t : Staircase). IsContinued t q) back continued) in
    let all : with_square (map (λ (r : Shelf). r.squares) rows) q.s q ≡ map (λ (r : Shelf). r.squares) (set rows s new) = ap (λ n. with_square (map (λ (r : Shelf). r.squares) rows) n q) (sym at) ∙ sym (map-pushed rows s old new q there pushed) in
    let P : List (List Placed) → Type 0 = λ x. IsTable (record { resolved = resolved; start = q.start; rows = x; spare = less }) in
    let Q : List Entry → Type 0 = λ x. IsTable (record { resolved = resolved; start = x; rows = map (λ (r : Shelf). r.squares) (set rows s new); spare = less }) in
    subst Q (sym starts) (subst P all made)

-- the row that a square is put into
pub row_held : (resolved : Checked) (start : List Entry) (rows : List Shelf) (s spare : ℕ) (old : Shelf) (q : Placed) → IsTable (record { resolved = resolved; start = start; rows = map (λ (r : Shelf). r.squares) rows; spare = spare }) → IsSquare q → s ≡ q.s → old ≡ get_or rows s old → slice_get rows s ≡ Some old
row_held resolved start rows s spare old q h square at e =
    let len = length-map rows (λ (r : Shelf). r.squares) in
    let all = h.rows in
    let low = square.row in
    slice_get_read rows (length rows) s old refl (omega arith) e

-- a table with the same squares, whatever its room
pub IsTable-room : (resolved : Checked) (start : List Entry) (rows rows' : List (List Placed)) (spare spare' : ℕ) → rows' ≡ rows → IsTable (record { resolved = resolved; start = start; rows = rows; spare = spare }) → IsTable (record { resolved = resolved; start = start; rows = rows'; spare = spare' })
IsTable-room resolved start rows rows' spare spare' e h =
    let P : List (List Placed) → Type 0 = λ x. IsTable (record { resolved = resolved; start = start; rows = x; spare = spare' }) in
    subst P (sym e) (record {
      rows = h.rows;
      never_rise = h.never_rise;
      placed = λ s k q there. let is = h.placed s k q there in record { s_is = is.s_is; above_is = is.above_is; within = is.within; resolved_is = is.resolved_is; is_of = is.is_of; beneath = is.beneath; start_is = is.start_is };
      started = h.started;
    })
