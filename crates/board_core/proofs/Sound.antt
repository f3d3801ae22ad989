-- The board stays sound: done squares are a staircase, and those that are out stand there once, with their parents done.
use Rattle.std.proofs.Common.{◌≡◌, ℕ, ◌⊎◌, ℤ, Bool, true, false, not, cond, ◌&&◌, ◌||◌, nat_eq, List, [], ◌∷◌, ◌++◌, Option, Some, None, refl, sym, ◌∙◌, ap, subst, arith, inl, inr}
use Rattle.std.specs.List.{list_any, filter}
use Rattle.std.proofs.lemmas.Bool.{cases_Bool}
use Rattle.std.proofs.lemmas.Bool.Decides.{nat_tests}
use Rattle.std.proofs.lemmas.Map.Views.{any-filter_same}
use Rattle.std.proofs.lemmas.Option.{same_Some}
use Rattle.std.proofs.lemmas.List.Folds.{list_any-append}
use Rattle.board_core.specs.declared.event.Out.{Out}
use Rattle.board_core.specs.declared.event.Cause.{Cause}
use Rattle.board_core.specs.Board.{IsTaken, IsOnce, IsSound}
use Rattle.board_core.specs.Inside.{has_row}
use Rattle.board_core.specs.Machine.{Squares, HasParents, IsStaircase, insert_square, State, IsReady, is_out, has_entry, without}

-- ---- lists of those that are out

-- what passes one test and then another
pub any_weaker : {X : Type 0} (p q : X → Bool) → ((x : X) → p x ≡ true → q x ≡ true) → (xs : List X) → list_any p xs ≡ true → list_any q xs ≡ true
any_weaker p q h [] e = cc
any_weaker p q h (x ∷ xs) e = elim (cases_Bool (p x)) [
  | inl passes ↦ let here = h x passes in grind arith
  | inr fails ↦ let rest = any_weaker p q h xs in grind arith
]

any_filtered : {X : Type 0} (test p : X → Bool) (xs : List X) → list_any test (filter p xs) ≡ true → list_any test xs ≡ true
any_filtered test p [] e = e
any_filtered test p (x ∷ xs) e = elim (cases_Bool (p x)) [
  | inl passes ↦ let rest = any_filtered test p xs in grind arith
  | inr fails ↦ let rest = any_filtered test p xs in grind arith
]

pub held_is_out : (out : List Out) (who s k : ℕ) → has_entry out who s k ≡ true → is_out out s k ≡ true
held_is_out out who s k = any_weaker (λ e. nat_eq e.who who && (nat_eq e.s s && nat_eq e.above k)) (λ e. nat_eq e.s s && nat_eq e.above k) (λ e h. grind arith) out

pub out_in_row : (out : List Out) (s k : ℕ) → is_out out s k ≡ true → has_row out s ≡ true
out_in_row out s k = any_weaker (λ e. nat_eq e.s s && nat_eq e.above k) (λ e. nat_eq e.s s) (λ e h. grind arith) out

pub once_more : (out : List Out) (e : Out) → IsOnce out → is_out out e.s e.above ≡ false → IsOnce (out ++ e ∷ [])
once_more [] e once absent = (refl, tt)
once_more (x ∷ out) e once absent =
    let others : is_out out e.s e.above ≡ false = grind arith in
    let rest = once_more out e once.1 others in
    let split = list_any-append (λ (y : Out). nat_eq y.s x.s && nat_eq y.above x.above) out (e ∷ []) in
    let first = once.0 in
    let alone : is_out (out ++ e ∷ []) x.s x.above ≡ false = grind (arith, nat_tests) in
    (alone, rest)

once_filtered : (p : Out → Bool) (out : List Out) → IsOnce out → IsOnce (filter p out)
once_filtered p [] once = tt
once_filtered p (x ∷ out) once = elim (cases_Bool (p x)) [
  | inl passes ↦
      let rest = once_filtered p out once.1 in
      let no_more = any_filtered (λ (y : Out). nat_eq y.s x.s && nat_eq y.above x.above) p out in
      let first = once.0 in
      let alone : is_out (filter p out) x.s x.above ≡ false = grind arith in
      subst IsOnce (sym (ap (λ b. cond b (x ∷ filter p out) (filter p out)) passes)) (alone, rest)
  | inr fails ↦ subst IsOnce (sym (ap (λ b. cond b (x ∷ filter p out) (filter p out)) fails)) (once_filtered p out once.1)
]

-- a square that is out still, where another went
pub record IsOther (out : List Out) (s k i j : ℕ) : Type 0 where
  pub there : is_out out i j ≡ true
  pub other : (nat_eq i s && nat_eq j k) ≡ false

pub is_other : (out : List Out) (s k i j : ℕ) → is_out (without out s k) i j ≡ true → IsOther out s k i j
is_other out s k i j e =
    let gone = any-filter_same (λ (e : Out). nat_eq e.s s && nat_eq e.above k) (λ e. not (nat_eq e.s s && nat_eq e.above k)) false (λ e h. ap not h) out in
    let there = any_filtered (λ (e : Out). nat_eq e.s i && nat_eq e.above j) (λ e. not (nat_eq e.s s && nat_eq e.above k)) out e in
    record {
      there = there;
      other = elim (cases_Bool (nat_eq i s && nat_eq j k)) [
        | inl same ↦
            let row : i ≡ s = grind (arith, nat_tests) in
            let degree : j ≡ k = grind (arith, nat_tests) in
            let here : is_out (without out s k) s k ≡ true = subst (λ (n : ℕ). is_out (without out s k) s n ≡ true) degree (subst (λ (n : ℕ). is_out (without out s k) n j ≡ true) row e) in
            cc
        | inr fails ↦ fails
      ];
    }

-- ---- sets of squares

parents_more : {stands : Squares} (done : Squares) (s k i j : ℕ) → HasParents stands done i j → HasParents stands (insert_square done s k) i j
parents_more done s k i j h = record {
  before = λ n e. let b = h.before n e in ap (λ x. x || (nat_eq i s && nat_eq n k)) b;
  below = λ n e on. let b = h.below n e on in ap (λ x. x || (nat_eq n s && nat_eq j k)) b;
}

pub staircase_more : {stands : Squares} (done : Squares) (s k : ℕ) → IsStaircase stands done → HasParents stands done s k → IsStaircase stands (insert_square done s k)
staircase_more {stands} done s k stairs parents i j e = elim (cases_Bool (done i j)) [
  | inl passes ↦ parents_more done s k i j (stairs i j passes)
  | inr fails ↦
      let same : (nat_eq i s && nat_eq j k) ≡ true = ap (λ x. x || (nat_eq i s && nat_eq j k)) (sym fails) ∙ e in
      let row : i ≡ s = grind (arith, nat_tests) in
      let degree : j ≡ k = grind (arith, nat_tests) in
      parents_more done s k i j (subst (λ (n : ℕ). HasParents stands done i n) (sym degree) (subst (λ (n : ℕ). HasParents stands done n k) (sym row) parents))
]

-- ---- the state after an event

pub ready_is_taken : (state : State) (s k : ℕ) → IsReady state s k → IsTaken state s k
ready_is_taken state s k ready = record { in_range = ready.in_range; parents = ready.parents; not_done = ready.not_done }

-- what is known of a square does not hang on the lists of the state, nor on its cause
pub taken_still : (state : State) (out : List Out) (failed : Option Out) (file : List (ℕ × ℤ)) (cause : Option Cause) (s k : ℕ) → IsTaken state s k → IsTaken (record state { out = out; failed = failed; file = file; cause = cause }) s k
taken_still state out failed file cause s k t = record { in_range = record { row = t.in_range.row; degree = t.in_range.degree; meant = t.in_range.meant }; parents = t.parents; not_done = t.not_done }

pub sound_take : (state : State) (e : Out) (list : List Out) → IsSound state → IsReady state e.s e.above → list ≡ state.out ++ e ∷ [] → IsSound (record state { out = list })
sound_take state e list sound ready is = subst (λ (l : List Out). IsSound (record state { out = l })) (sym is) (record {
  staircase = sound.staircase;
  once = once_more state.out e sound.once ready.not_out;
  taken = λ s k out. taken s k (cases_Bool (is_out state.out s k)) out;
  failed_taken = λ f is. taken_still state (state.out ++ e ∷ []) state.failed state.file state.cause f.s f.above (sound.failed_taken f is);
  none_failed = sound.none_failed;
})
  where
    taken : (s k : ℕ) → (is_out state.out s k ≡ true) ⊎ (is_out state.out s k ≡ false) → is_out (state.out ++ e ∷ []) s k ≡ true → IsTaken (record state { out = state.out ++ e ∷ [] }) s k
    taken s k (inl passes) out = taken_still state (state.out ++ e ∷ []) state.failed state.file state.cause s k (sound.taken s k passes)
    taken s k (inr fails) out =
        let split = list_any-append (λ (y : Out). nat_eq y.s s && nat_eq y.above k) state.out (e ∷ []) in
        let same : (nat_eq e.s s && nat_eq e.above k) ≡ true = grind arith in
        let row : e.s ≡ s = grind (arith, nat_tests) in
        let degree : e.above ≡ k = grind (arith, nat_tests) in
        let P : ℕ → ℕ → Type 0 = λ i j. IsTaken (record state { out = state.out ++ e ∷ [] }) i j in
        subst (λ (n : ℕ). P s n) degree (subst (λ (n : ℕ). P n e.above) row (taken_still state (state.out ++ e ∷ []) state.failed state.file state.cause e.s e.above (ready_is_taken state e.s e.above ready)))

-- a square is out no more, and a cause stands; the one that failed had been taken
sound_stopped : (state : State) (s k : ℕ) (list : List Out) (failed : Option Out) (cause : Cause) → IsSound state → ((e : Out) → failed ≡ Some e → IsTaken state e.s e.above) → list ≡ without state.out s k → IsSound (record state { out = list; failed = failed; cause = Some cause })
sound_stopped state s k list failed cause sound fell is = subst (λ (l : List Out). IsSound (record state { out = l; failed = failed; cause = Some cause })) (sym is) (record {
  staircase = sound.staircase;
  once = once_filtered (λ e. not (nat_eq e.s s && nat_eq e.above k)) state.out sound.once;
  taken = λ i j out. taken_still state (without state.out s k) failed state.file (Some cause) i j (sound.taken i j (is_other state.out s k i j out).there);
  failed_taken = λ e is. taken_still state (without state.out s k) failed state.file (Some cause) e.s e.above (fell e is);
  none_failed = λ none. cc;
})

pub sound_back : (state : State) (s k : ℕ) (list : List Out) (cause : Cause) → IsSound state → list ≡ without state.out s k → IsSound (record state { out = list; cause = Some cause })
sound_back state s k list cause sound is = sound_stopped state s k list state.failed cause sound sound.failed_taken is

pub sound_fail : (state : State) (e : Out) (list : List Out) (cause : Cause) → IsSound state → IsTaken state e.s e.above → list ≡ without state.out e.s e.above → IsSound (record state { out = list; failed = Some e; cause = Some cause })
sound_fail state e list cause sound here is =
    sound_stopped state e.s e.above list (Some e) cause sound (λ f same. subst (λ (x : Out). IsTaken state x.s x.above) (same_Some e f same) here) is

pub sound_give : (state : State) (s k : ℕ) (done : Squares) (list : List Out) (file : List (ℕ × ℤ)) → IsSound state → state.cause ≡ None → IsTaken state s k → done ≡ insert_square state.done s k → list ≡ without state.out s k → IsSound (record state { done = done; out = list; file = file })
sound_give state s k done list file sound no_cause is e f =
    let base : IsSound (record state { done = insert_square state.done s k; out = without state.out s k; file = file }) = record {
      staircase = staircase_more state.done s k sound.staircase is.parents;
      once = once_filtered (λ e. not (nat_eq e.s s && nat_eq e.above k)) state.out sound.once;
      taken = λ i j out.
          let rest = is_other state.out s k i j out in
          let t = sound.taken i j rest.there in
          record { in_range = record { row = t.in_range.row; degree = t.in_range.degree; meant = t.in_range.meant }; parents = parents_more state.done s k i j t.parents; not_done = ap (λ x. x || (nat_eq i s && nat_eq j k)) t.not_done ∙ rest.other };
      failed_taken = λ e here. let none = sound.none_failed no_cause in cc;
      none_failed = sound.none_failed;
    } in
    let listed : IsSound (record state { done = insert_square state.done s k; out = list; file = file }) = subst (λ (l : List Out). IsSound (record state { done = insert_square state.done s k; out = l; file = file })) (sym f) base in
    subst (λ (d : Squares). IsSound (record state { done = d; out = list; file = file })) (sym e) listed
