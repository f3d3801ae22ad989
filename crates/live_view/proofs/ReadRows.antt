-- A row of a view that is read from a board, square by square.
use Rattle.std.proofs.Common.{◌≡◌, ℕ, suc, ◌+◌, ◌<◌, ◌≤◌, List, [], ◌∷◌, ◌++◌, length, slice_get, Some, refl, sym, ◌∙◌, ap, subst, arith, inl, inr}
use Rattle.std.specs.Prelude.{min, max}
use Rattle.std.proofs.lemmas.Bool.{cases_lt}
use Rattle.std.proofs.lemmas.List.{length_push}
use Rattle.std.proofs.lemmas.Option.{slice_get_within}
use Rattle.board_core.specs.declared.event.Entry.{Entry as Event}
use Rattle.turn_lock.proofs.Histories.{prefix_self, prefix_trans}
use Rattle.square_board.specs.declared.opening.Opening.{Opening}
use Rattle.square.specs.Tables.{Staircase}
use Rattle.square_board.specs.Openings.{front_after}
use Rattle.square_board.specs.Stocks.{StockWords}
use Rattle.square_worker.specs.Kept.{IsCount}
use Rattle.live_view.specs.Counted.{module_in, start_in}
use Rattle.live_view.specs.Views.{row_of, IsWithin}
use Rattle.live_view.specs.Inside.Rows.{with_count}
use Rattle.live_view.specs.Inside.Reading.{AreFalling, HasReadTo, HasReadRow}
use Rattle.finite_module.proofs.Elements.{slice_get-append_right}
use Rattle.live_view.proofs.Prefixes.{prefix_has, prefix_length}
use Rattle.live_view.proofs.Within.{within_self, within_trans, within_length, count_same, count_other, within_count}

module _ {T O I M : Type 0} (w : StockWords T O I M) (table_of : O → Staircase) (opening : Opening T) where
  -- before the first square
  pub read_none : (events : List Event) (view : List (List ℕ)) (s front k : ℕ) → k ≡ length (row_of view s) → HasReadTo w table_of opening events view view s front k
  read_none events view s front k is = record {
    others = λ r apart. refl;
    begins = prefix_self (row_of view s);
    within = within_self view;
    counts = λ j n past at. absurd (let within = slice_get_within (row_of view s) j n at in omega arith);
    length_is = sym is;
    grew = inl is;
  }

  -- one square more
  pub read_more : (before events : List Event) (old new next : List (List ℕ)) (s front k n : ℕ) → s < length old → HasReadTo w table_of opening before old new s front k → next ≡ with_count new s n → front ≤ front_after w opening events s → AreFalling w opening events → IsCount (module_in w table_of opening) (start_in w table_of opening) s k n → HasReadTo w table_of opening events old next s front (k + 1)
  read_more before events old new next s front k n there read is reached falling count =
      let long = within_length old new read.within in
      let same : row_of next s ≡ row_of new s ++ n ∷ [] = ap (λ (v : List (List ℕ)). row_of v s) is ∙ count_same new s n (omega arith) in
      let grown : length (row_of next s) ≡ k + 1 = ap length same ∙ (length_push (row_of new s) n ∙ ap (λ (m : ℕ). m + 1) read.length_is) in
      record {
        others = λ r apart. ap (λ (v : List (List ℕ)). row_of v r) is ∙ (count_other new s r n apart ∙ read.others r apart);
        begins = prefix_trans (row_of old s) (row_of new s) (row_of next s) read.begins (n ∷ [], sym same);
        within = within_trans old new next read.within (subst (λ (v : List (List ℕ)). IsWithin new v) (sym is) (within_count new s n));
        counts = λ j m past at. by_place j m past (subst (λ (l : List ℕ). slice_get l j ≡ Some m) same at);
        length_is = grown;
        grew = inr (reached, falling);
      }
    where
      by_place : (j m : ℕ) → length (row_of old s) ≤ j → slice_get (row_of new s ++ n ∷ []) j ≡ Some m → IsCount (module_in w table_of opening) (start_in w table_of opening) s j m
      by_place j m past at = elim (cases_lt j (length (row_of new s))) [
        | inl less ↦ read.counts j m past (prefix_has (row_of new s) (row_of new s ++ n ∷ []) j m (n ∷ [], refl) less at)
        | inr more ↦
            let within = slice_get_within (row_of new s ++ n ∷ []) j m at in
            let whole = length_push (row_of new s) n in
            let l = read.length_is in
            let here : j ≡ length (row_of new s) = omega arith in
            let k_is : j ≡ k = omega arith in
            let is_n : Some m ≡ Some n = sym at ∙ slice_get-append_right (row_of new s) (n ∷ []) j 0 (omega arith) in
            let m_is : m ≡ n = cc in
            subst (λ (i : ℕ). IsCount (module_in w table_of opening) (start_in w table_of opening) s i m) (sym k_is) (subst (λ (i : ℕ). IsCount (module_in w table_of opening) (start_in w table_of opening) s k i) (sym m_is) count)
      ]

  -- at the end of the row
  pub row_read : (before events : List Event) (old new : List (List ℕ)) (s t front k past : ℕ) → HasReadTo w table_of opening events old new s front k → past ≡ min front (t + 1) → past ≤ k → k ≤ max (length (row_of old s)) past → front_after w opening before s ≤ front → HasReadRow w table_of opening before events old new s t
  row_read before events old new s t front k past read past_is over most reached =
      let long = read.length_is in
      record {
        others = read.others;
        begins = read.begins;
        within = read.within;
        counts = read.counts;
        grew = elim read.grew [
          | inl same ↦ inl (long ∙ same)
          | inr more ↦ elim (cases_lt (length (row_of old s)) k) [
            | inl less ↦ let upper : k ≤ past = omega arith in
                let a = more.0 in
                inr (record { in_range = omega arith; done = omega arith; below = λ r is. let b : front_after w opening events (suc r) ≤ front_after w opening events r = more.1 r in let c : front_after w opening events s ≤ front_after w opening events r = subst (λ (i : ℕ). front_after w opening events i ≤ front_after w opening events r) is b in omega arith })
            | inr none ↦ let begin = prefix_length (row_of old s) (row_of new s) read.begins in inl (omega arith)
          ]
        ];
        has = λ j low less. omega arith;
      }
