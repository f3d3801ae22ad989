-- What stays so with each event: what is done is of the table, and each copy gives what is.
use Rattle.std.proofs.Common.{◌≡◌, ℕ, Bool, true, false, not, ◌&&◌, nat_eq, if◌then◌else◌, List, [], ◌∷◌, ◌++◌, Option, Some, None, is_some, refl, sym, ◌∙◌, ap, subst, arith, inl, inr}
use Rattle.std.specs.List.{All}
use Rattle.std.proofs.lemmas.Bool.{cases_Bool}
use Rattle.std.proofs.lemmas.Bool.Decides.{nat_tests}
use Rattle.std.proofs.lemmas.List.Elements.{All-nil, All-push, All-filter, All-contains}
use Rattle.std.proofs.lemmas.Option.{same_Some}
use Rattle.board_core.specs.declared.event.Out.{Out}
use Rattle.board_core.specs.declared.event.Cause.{Cause}
use Rattle.board_core.specs.declared.event.Cause.TheVariants.{Failed, Memory}
use Rattle.board_core.specs.Machine.{all_squares, HasParents, IsStaircase, cause_or}
use Rattle.resolution_laws.specs.Resolution.{Module, Content}
use Rattle.resolution_laws.specs.Start.{Entry, entry_at, IsOf, AreOf}
use Rattle.resolution_laws.proofs.StartLaws.{entry_at-other, entry_at-new, listed_is_of}
use Rattle.board_laws.specs.Filled.{Contents, with_content, Copy, Filled, without_copy, filled_opening, after_take, after_give, after_back, after_fail, after_stop, after_open, file_and, IsCopyFor, IsMadeFromCopy, IsMadeAtStop}
use Rattle.board_laws.specs.Schedules.{GivesOf}
use Rattle.board_laws.proofs.Agreement.{held_squares}
use Rattle.board_laws.proofs.Copies.{copy_gives}

-- What is known of a board: its done squares and its file are of the table of `first`, each square that `first` lists is in the
-- file, the step over any of its copies is of that table, that of the square that failed too, and while the board runs the file
-- has at each place what is done there.
pub record IsKept (m : Module) (first : List Entry) (board : Filled) : Type 0 where
  pub stands : (s k : ℕ) (content : Content) → board.done s k ≡ Some content → IsOf m first s k content
  pub unread : (s k : ℕ) → entry_at board.file s k ≡ None → entry_at first s k ≡ None
  pub copies : All (GivesOf m first) board.out
  pub failed : (copy : Copy) → board.failed ≡ Some copy → GivesOf m first copy
  pub filed : AreOf m first board.file
  pub same : board.running ≡ true → (s k : ℕ) → entry_at board.file s k ≡ board.done s k

-- ---- the opening

pub opening_is_kept : (m : Module) (first : List Entry) (s t : ℕ) (start : List Entry) → AreOf m first start → ((i k : ℕ) → entry_at start i k ≡ None → entry_at first i k ≡ None) → IsKept m first (filled_opening m s t start)
opening_is_kept m first s t start are unread = record {
  stands = listed_is_of m first start are;
  unread = unread;
  copies = All-nil (GivesOf m first);
  failed = λ copy e. cc;
  filed = are;
  same = λ r i k. refl;
}

-- ---- events

none_held : (o : Option Content) → is_some o ≡ false → o ≡ None
none_held None e = refl
none_held (Some content) e = cc

pub take_keeps : (m : Module) (first : List Entry) (board : Filled) (who s k : ℕ) → IsKept m first board → IsStaircase all_squares (held_squares board.done) → HasParents all_squares (held_squares board.done) s k → is_some (board.done s k) ≡ false → board.running ≡ true → IsKept m first (after_take board who s k)
take_keeps m first board who s k kept stairs parents not_done runs = record {
  stands = kept.stands;
  unread = kept.unread;
  copies = All-push (GivesOf m first) board.out _ kept.copies (λ content step.
      copy_gives m first board.done s k content kept.stands stairs parents (kept.unread s k (kept.same runs s k ∙ none_held (board.done s k) not_done)) step);
  failed = kept.failed;
  filed = kept.filed;
  same = kept.same;
}

stop_keeps : (m : Module) (first : List Entry) (board : Filled) (s k : ℕ) (failed : Option Copy) (cause : Option Cause) → IsKept m first board → ((copy : Copy) → failed ≡ Some copy → GivesOf m first copy) → IsKept m first (record board { out = without_copy board.out s k; failed = failed; cause = cause })
stop_keeps m first board s k failed cause kept gives = record {
  stands = kept.stands;
  unread = kept.unread;
  copies = All-filter (λ (copy : Copy). not (nat_eq copy.out.s s && nat_eq copy.out.above k)) (GivesOf m first) board.out kept.copies;
  failed = gives;
  filed = kept.filed;
  same = kept.same;
}

pub back_keeps : (m : Module) (first : List Entry) (board : Filled) (s k : ℕ) → IsKept m first board → IsKept m first (after_back board s k)
back_keeps m first board s k kept = stop_keeps m first board s k board.failed (Some (cause_or board.cause Memory)) kept kept.failed

pub fail_keeps : (m : Module) (first : List Entry) (board : Filled) (who s k : ℕ) (copy : Copy) → IsKept m first board → IsCopyFor board.out who s k copy → IsKept m first (after_fail board copy s k)
fail_keeps m first board who s k copy kept is =
    let here = All-contains (GivesOf m first) board.out copy kept.copies is.held in
    stop_keeps m first board s k (Some copy) (Some Failed) kept (λ other e. subst (GivesOf m first) (same_Some _ _ e) here)

-- what is given is of the table
made_is_of : (m : Module) (first : List Entry) (board : Filled) (who s k : ℕ) (content : Content) → IsKept m first board → IsMadeFromCopy m board who s k content → IsOf m first s k content
made_is_of m first board who s k content kept made =
    subst (λ (o : Out). IsOf m first o.s o.above content) made.is_copy.square (All-contains (GivesOf m first) board.out made.copy kept.copies made.is_copy.held content made.step)

-- a place that a longer list leaves empty
none_before : (list more : List Entry) (s k : ℕ) → entry_at (list ++ more) s k ≡ None → entry_at list s k ≡ None
none_before [] more s k e = refl
none_before (x ∷ list) more s k e = elim (cases_Bool (nat_eq x.s s && nat_eq x.above k)) [
  | inl here ↦ let read : Some x.content ≡ None = sym (ap (λ b. if b then Some x.content else entry_at (list ++ more) s k) here) ∙ e in absurd (cc)
  | inr other ↦
      let rest : entry_at (list ++ more) s k ≡ None = sym (ap (λ b. if b then Some x.content else entry_at (list ++ more) s k) other) ∙ e in
      ap (λ b. if b then Some x.content else entry_at list s k) other ∙ none_before list more s k rest
]

more_stands : (m : Module) (first : List Entry) (done : Contents) (s k : ℕ) (content : Content) → ((i j : ℕ) (c : Content) → done i j ≡ Some c → IsOf m first i j c) → IsOf m first s k content → (i j : ℕ) (c : Content) → with_content done s k content i j ≡ Some c → IsOf m first i j c
more_stands m first done s k content stands new i j c e = elim (cases_Bool (nat_eq i s && nat_eq j k)) [
  | inl here ↦
      let row : s ≡ i = grind (arith, nat_tests) in
      let degree : k ≡ j = grind (arith, nat_tests) in
      let read : Some content ≡ Some c = sym (ap (λ b. if b then Some content else done i j) here) ∙ e in
      let one : IsOf m first i k content = subst (λ (n : ℕ). IsOf m first n k content) row new in
      let two : IsOf m first i j content = subst (λ (n : ℕ). IsOf m first i n content) degree one in
      subst (λ (x : Content). IsOf m first i j x) (same_Some _ _ read) two
  | inr other ↦ stands i j c (sym (ap (λ b. if b then Some content else done i j) other) ∙ e)
]

more_same : (file : List Entry) (done : Contents) (s k : ℕ) (content : Content) → ((i j : ℕ) → entry_at file i j ≡ done i j) → done s k ≡ None → (i j : ℕ) → entry_at (file ++ record { s = s; above = k; content = content } ∷ []) i j ≡ with_content done s k content i j
more_same file done s k content same absent i j =
    let e : Entry = record { s = s; above = k; content = content } in
    elim (cases_Bool (nat_eq i s && nat_eq j k)) [
      | inl here ↦
          let row : s ≡ i = grind (arith, nat_tests) in
          let degree : k ≡ j = grind (arith, nat_tests) in
          let new : entry_at (file ++ e ∷ []) s k ≡ Some content = entry_at-new file e (same s k ∙ absent) in
          let one : entry_at (file ++ e ∷ []) i k ≡ Some content = subst (λ (n : ℕ). entry_at (file ++ e ∷ []) n k ≡ Some content) row new in
          let two : entry_at (file ++ e ∷ []) i j ≡ Some content = subst (λ (n : ℕ). entry_at (file ++ e ∷ []) i n ≡ Some content) degree one in
          two ∙ sym (ap (λ b. if b then Some content else done i j) here)
      | inr other ↦
          let off : s ≡ i → k ≡ j → ⊥ = λ p q. grind (arith, nat_tests) in
          entry_at-other file e i j off ∙ same i j ∙ sym (ap (λ b. if b then Some content else done i j) other)
    ]

pub give_keeps : (m : Module) (first : List Entry) (board : Filled) (who s k : ℕ) (content : Content) → IsKept m first board → is_some (board.done s k) ≡ false → board.running ≡ true → IsMadeFromCopy m board who s k content → IsKept m first (after_give board s k content)
give_keeps m first board who s k content kept not_done runs made =
    let new = made_is_of m first board who s k content kept made in
    record {
      stands = more_stands m first board.done s k content kept.stands new;
      unread = λ i j e. kept.unread i j (none_before board.file _ i j e);
      copies = All-filter (λ (copy : Copy). not (nat_eq copy.out.s s && nat_eq copy.out.above k)) (GivesOf m first) board.out kept.copies;
      failed = kept.failed;
      filed = All-push (λ (e : Entry). IsOf m first e.s e.above e.content) board.file _ kept.filed new;
      same = λ r. more_same board.file board.done s k content (kept.same runs) (none_held (board.done s k) not_done);
    }

-- ---- when a run ends, and another begins

pub stopped_keeps : (m : Module) (first : List Entry) (board : Filled) (file : List Entry) → AreOf m first file → ((s k : ℕ) → entry_at file s k ≡ None → entry_at first s k ≡ None) → IsKept m first (after_stop board file)
stopped_keeps m first board file filed unread = record {
  stands = λ s k content e. cc;
  unread = unread;
  copies = All-nil (GivesOf m first);
  failed = λ copy e. cc;
  filed = filed;
  same = λ r. cc;
}

-- what the file has got is of the table
stop_is_of : (m : Module) (first : List Entry) (board : Filled) (s k : ℕ) (content : Content) → IsKept m first board → IsMadeAtStop m board s k content → IsOf m first s k content
stop_is_of m first board s k content kept made =
    let copy = made.copy in
    let is = made.is_copy in
    let gives : GivesOf m first copy = elim is.begun [
      | inl out ↦ All-contains (GivesOf m first) board.out copy kept.copies out
      | inr failed ↦ kept.failed copy failed
    ] in
    subst (λ (n : ℕ). IsOf m first s n content) is.column (subst (λ (n : ℕ). IsOf m first n copy.out.above content) is.row (gives content made.step))

pub stop_with_keeps : (m : Module) (first : List Entry) (board : Filled) (s k : ℕ) (content : Content) → IsKept m first board → IsMadeAtStop m board s k content → IsKept m first (after_stop board (file_and board s k content))
stop_with_keeps m first board s k content kept made =
    let new = stop_is_of m first board s k content kept made in
    stopped_keeps m first board (file_and board s k content) (All-push (λ (e : Entry). IsOf m first e.s e.above e.content) board.file _ kept.filed new) (λ i j e. kept.unread i j (none_before board.file _ i j e))

pub open_keeps : (m : Module) (first : List Entry) (board : Filled) → IsKept m first board → IsKept m first (after_open board)
open_keeps m first board kept = record {
  stands = listed_is_of m first board.file kept.filed;
  unread = kept.unread;
  copies = kept.copies;
  failed = kept.failed;
  filed = kept.filed;
  same = λ r i j. refl;
}
