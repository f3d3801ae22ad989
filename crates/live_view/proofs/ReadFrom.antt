-- A view that is read from a board, row by row, from the last one down.
use Rattle.std.proofs.Common.{◌≡◌, ◌⊎◌, ℕ, zero, suc, ◌+◌, ◌-◌, ◌<◌, ◌≤◌, List, [], ◌∷◌, ◌++◌, length, slice_get, Some, cond, nat_eq, refl, sym, ◌∙◌, ap, subst, arith, inl, inr, ⊎_elim}
use Rattle.std.specs.List.{count_by}
use Rattle.std.proofs.lemmas.Bool.{cases_lt, cases_eq}
use Rattle.std.proofs.lemmas.List.{map-append}
use Rattle.std.proofs.lemmas.List.Sums.{sum_by-append}
use Rattle.bidegree.specs.declared.range.Range.{Range}
use mathlib.Core.List.{IsPrefix}
use Rattle.board_core.specs.declared.event.Entry.{Entry as Event}
use Rattle.board_core.specs.declared.event.Entry.TheVariants.{Take, Give, Back, Fail}
use Rattle.board_core.specs.Laws.{given, given_in}
use Rattle.square_board.specs.declared.opening.Opening.{Opening}
use Rattle.square_board.specs.Courses.{events_of}
use Rattle.square.specs.Tables.{Staircase}
use Rattle.square_board.specs.Openings.{front_after}
use Rattle.square_board.specs.Stocks.{StockWords}
use Rattle.square_worker.specs.Kept.{IsCount}
use Rattle.live_view.specs.Counted.{module_in, start_in}
use Rattle.live_view.specs.Views.{row_of, IsRight}
use Rattle.live_view.specs.Publishing.{AreDone}
use Rattle.live_view.specs.Inside.Reading.{HasReadRow, HasReadFrom, HasRead}
use Rattle.live_view.proofs.Prefixes.{prefix_has, prefix_length}
use Rattle.live_view.proofs.Within.{within_self, within_trans}

given-append : (xs ys : List Event) → given (xs ++ ys) ≡ given xs ++ given ys
given-append [] ys = refl
given-append (Take who s t snapshot ∷ xs) ys = given-append xs ys
given-append (Give who s t ∷ xs) ys = ap (λ l. (s, t) ∷ l) (given-append xs ys)
given-append (Back who s t ∷ xs) ys = given-append xs ys
given-append (Fail who s t ∷ xs) ys = given-append xs ys

module _ {T O I M : Type 0} (w : StockWords T O I M) (opening : Opening T) where
  -- no row has less squares done after more events
  pub front_grows : (xs ys : List (ℕ × Event)) (i : ℕ) → IsPrefix xs ys → front_after w opening (events_of xs) i ≤ front_after w opening (events_of ys) i
  front_grows xs ys i p =
      let split : events_of ys ≡ events_of xs ++ events_of p.0 = ap events_of (sym p.1) ∙ map-append (λ (x : ℕ × Event). x.1) xs p.0 in
      let count : given_in i (events_of ys) ≡ given_in i (events_of xs) + given_in i (events_of p.0) =
      ap (given_in i) split ∙ (ap (λ l. count_by (λ q. nat_eq q.0 i) l) (given-append (events_of xs) (events_of p.0)) ∙ sum_by-append (λ q. cond (nat_eq q.0 i) 1 0) (given (events_of xs)) (given (events_of p.0))) in
      omega arith

module _ {T O I M : Type 0} (w : StockWords T O I M) (table_of : O → Staircase) (opening : Opening T) where
  -- before the first row
  pub read_start : (events : List Event) (view : List (List ℕ)) → IsRight (module_in w table_of opening) (start_in w table_of opening) view → AreDone w opening events view → HasReadFrom w table_of opening events events view view (opening.range.s + 1)
  read_start events view right done = record {
    within = within_self view;
    counts = right.counts;
    done = done;
    has = λ r k low most. absurd (omega arith);
    stairs = λ r low. right.staircase r;
    unread = λ r low. refl;
    next = λ r is. inl (subst (λ (n : ℕ). length (row_of view n) ≤ length (row_of view r)) is (right.staircase r));
  }

  -- one row more
  pub read_down : (first before after : List (ℕ × Event)) (old mid new : List (List ℕ)) (s : ℕ) → IsRight (module_in w table_of opening) (start_in w table_of opening) old → s ≤ opening.range.s → IsPrefix first before → IsPrefix before after → HasReadFrom w table_of opening (events_of first) (events_of before) old mid (suc s) → HasReadRow w table_of opening (events_of before) (events_of after) mid new s opening.range.t → HasReadFrom w table_of opening (events_of first) (events_of after) old new s
  read_down first before after old mid new s right low early late from row = record {
    within = within_trans old mid new from.within row.within;
    counts = λ r k n at. ⊎_elim (counts_here r k n at) (counts_other r k n at) (cases_eq r s);
    done = λ r. ⊎_elim (done_here r) (done_other r) (cases_eq r s);
    has = λ r k least most high less. ⊎_elim (has_here r k most high less) (has_other r k least most high less) (cases_eq r s);
    stairs = λ r least. ⊎_elim (stairs_here r) (stairs_other r least) (cases_eq r s);
    unread = λ r less. row.others r (λ e. absurd (omega arith)) ∙ from.unread r (omega arith);
    next = λ r is. next_row r is;
  }
    where
      grows : (i : ℕ) → front_after w opening (events_of before) i ≤ front_after w opening (events_of after) i
      grows i = front_grows w opening before after i late

      counts_here : (r k n : ℕ) → slice_get (row_of new r) k ≡ Some n → r ≡ s → IsCount (module_in w table_of opening) (start_in w table_of opening) r k n
      counts_here r k n at is = elim (cases_lt k (length (row_of mid s))) [
        | inl less ↦ from.counts r k n (subst (λ (i : ℕ). slice_get (row_of mid i) k ≡ Some n) (sym is) (prefix_has (row_of mid s) (row_of new s) k n row.begins less (subst (λ (i : ℕ). slice_get (row_of new i) k ≡ Some n) is at)))
        | inr more ↦ subst (λ (i : ℕ). IsCount (module_in w table_of opening) (start_in w table_of opening) i k n) (sym is) (row.counts k n more (subst (λ (i : ℕ). slice_get (row_of new i) k ≡ Some n) is at))
      ]

      counts_other : (r k n : ℕ) → slice_get (row_of new r) k ≡ Some n → (r ≡ s → ⊥) → IsCount (module_in w table_of opening) (start_in w table_of opening) r k n
      counts_other r k n at apart = from.counts r k n (subst (λ (l : List ℕ). slice_get l k ≡ Some n) (row.others r apart) at)

      done_s : length (row_of new s) ≤ front_after w opening (events_of after) s
      done_s = elim row.grew [
        | inl same ↦ let a = from.done s in let b = grows s in omega arith
        | inr more ↦ more.done
      ]

      done_here : (r : ℕ) → r ≡ s → length (row_of new r) ≤ front_after w opening (events_of after) r
      done_here r is = subst (λ (i : ℕ). length (row_of new i) ≤ front_after w opening (events_of after) i) (sym is) done_s

      done_other : (r : ℕ) → (r ≡ s → ⊥) → length (row_of new r) ≤ front_after w opening (events_of after) r
      done_other r apart = let a = from.done r in let b = grows r in let c = ap length (row.others r apart) in omega arith

      has_here : (r k : ℕ) → r ≤ opening.range.s → k ≤ opening.range.t → k < front_after w opening (events_of first) r → r ≡ s → k < length (row_of new r)
      has_here r k most high less is =
          let a : k < front_after w opening (events_of first) s = subst (λ (i : ℕ). k < front_after w opening (events_of first) i) is less in
          let b = front_grows w opening first before s early in
          subst (λ (i : ℕ). k < length (row_of new i)) (sym is) (row.has k high (omega arith))

      has_other : (r k : ℕ) → s ≤ r → r ≤ opening.range.s → k ≤ opening.range.t → k < front_after w opening (events_of first) r → (r ≡ s → ⊥) → k < length (row_of new r)
      has_other r k least most high less apart =
          let beyond : suc s ≤ r = above r least apart in
          subst (λ (l : List ℕ). k < length l) (sym (row.others r apart)) (from.has r k beyond most high less)
        where
          above : (r : ℕ) → s ≤ r → (r ≡ s → ⊥) → suc s ≤ r
          above r least apart = elim (cases_lt s r) [
            | inl less ↦ omega arith
            | inr more ↦ absurd (apart (omega arith))
          ]

      longer : length (row_of mid s) ≤ length (row_of new s)
      longer = prefix_length (row_of mid s) (row_of new s) row.begins

      stairs_s : length (row_of mid (suc s)) ≤ length (row_of new s)
      stairs_s = elim (from.next s refl) [
        | inl old_row ↦ let a = ap length (from.unread s (omega arith)) in let b = longer in omega arith
        | inr more ↦ go (length (row_of mid (suc s))) refl more
      ]
        where
          go : (n : ℕ) → length (row_of mid (suc s)) ≡ n → (length (row_of mid (suc s)) ≤ opening.range.t + 1) × (length (row_of mid (suc s)) ≤ front_after w opening (events_of before) s) → length (row_of mid (suc s)) ≤ length (row_of new s)
          go zero is more = omega arith
          go (suc n) is more = let a = more.0 in let b = more.1 in let c = row.has n (omega arith) (omega arith) in omega arith

      stairs_here : (r : ℕ) → r ≡ s → length (row_of new (suc r)) ≤ length (row_of new r)
      stairs_here r is =
          let other = ap length (row.others (suc s) (λ e. absurd (omega arith))) in
          let here = stairs_s in
          subst (λ (i : ℕ). length (row_of new (suc i)) ≤ length (row_of new i)) (sym is) (omega arith)

      stairs_other : (r : ℕ) → s ≤ r → (r ≡ s → ⊥) → length (row_of new (suc r)) ≤ length (row_of new r)
      stairs_other r least apart = elim (cases_lt s r) [
        | inl less ↦
            let a = ap length (row.others r apart) in
            let b = ap length (row.others (suc r) (λ e. absurd (omega arith))) in
            let c = from.stairs r less in
            omega arith
        | inr more ↦ absurd (apart (omega arith))
      ]

      next_row : (r : ℕ) → suc r ≡ s → (length (row_of new s) ≤ length (row_of old r)) ⊎ ((length (row_of new s) ≤ opening.range.t + 1) × (length (row_of new s) ≤ front_after w opening (events_of after) r))
      next_row r is = elim row.grew [
        | inl same ↦
            let a = ap length (from.unread s (omega arith)) in
            let b : length (row_of old s) ≤ length (row_of old r) = subst (λ (i : ℕ). length (row_of old i) ≤ length (row_of old r)) is (right.staircase r) in
            inl (omega arith)
        | inr more ↦ inr (more.in_range, more.below r is)
      ]

  -- all rows
  pub read_all : (first after : List Event) (old new : List (List ℕ)) → HasReadFrom w table_of opening first after old new 0 → HasRead w table_of opening first after old new
  read_all first after old new from = record {
    within = from.within;
    between = record {
      right = record { staircase = λ r. from.stairs r (omega arith); counts = from.counts };
      done = from.done;
      has = λ r k most high less. from.has r k (omega arith) most high less;
    };
  }

  -- ---- the same, by the counter of a loop

  pub read_begin : (range : Range) (events : List Event) (view : List (List ℕ)) → opening.range ≡ range → IsRight (module_in w table_of opening) (start_in w table_of opening) view → AreDone w opening events view → HasReadFrom w table_of opening events events view view (range.s + 1 - 0)
  read_begin range events view is right done =
      let rows = ap (λ (r : Range). r.s) is in
      let at : opening.range.s + 1 ≡ range.s + 1 - 0 = omega arith in
      subst (HasReadFrom w table_of opening events events view view) at (read_start events view right done)

  pub read_next : (range : Range) (i : ℕ) (first before after : List (ℕ × Event)) (old mid new : List (List ℕ)) → opening.range ≡ range → i ≤ range.s → IsRight (module_in w table_of opening) (start_in w table_of opening) old → IsPrefix first before → IsPrefix before after → HasReadFrom w table_of opening (events_of first) (events_of before) old mid (range.s + 1 - i) → HasReadRow w table_of opening (events_of before) (events_of after) mid new (range.s - i) range.t → HasReadFrom w table_of opening (events_of first) (events_of after) old new (range.s + 1 - (i + 1))
  read_next range i first before after old mid new is low right early late from row =
      let rows = ap (λ (r : Range). r.s) is in
      let degrees = ap (λ (r : Range). r.t) is in
      let above : range.s + 1 - i ≡ suc (range.s - i) = omega arith in
      let here : range.s - i ≡ range.s + 1 - (i + 1) = omega arith in
      let from' = subst (HasReadFrom w table_of opening (events_of first) (events_of before) old mid) above from in
      let row' = subst (HasReadRow w table_of opening (events_of before) (events_of after) mid new (range.s - i)) (sym degrees) row in
      subst (HasReadFrom w table_of opening (events_of first) (events_of after) old new) here (read_down first before after old mid new (range.s - i) right (omega arith) early late from' row')

  pub read_last : (range : Range) (i : ℕ) (first after : List Event) (old new : List (List ℕ)) → i ≡ range.s → HasReadFrom w table_of opening first after old new (range.s + 1 - (i + 1)) → HasRead w table_of opening first after old new
  read_last range i first after old new last from =
      let none : range.s + 1 - (i + 1) ≡ 0 = omega arith in
      read_all first after old new (subst (HasReadFrom w table_of opening first after old new) none from)
