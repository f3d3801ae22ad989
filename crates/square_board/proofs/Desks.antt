-- What is known of a desk, one event after the other.
use Rattle.std.proofs.Common.{◌≡◌, ◌≢◌, ℕ, suc, ◌+◌, ◌≤◌, ℤ, Bool, true, false, cond, ◌&&◌, ◌||◌, nat_lt, nat_eq, List, [], ◌∷◌, ◌++◌, None, refl, sym, ◌∙◌, ap, subst, arith, inl, inr}
use Rattle.std.specs.List.{count_by}
use Rattle.std.proofs.lemmas.Bool.Decides.{nat_tests, eqb_tells}
use Rattle.std.proofs.lemmas.List.Sums.{sum_by-append}
use Rattle.bidegree.specs.declared.range.TheConstants.{MAX_S, MAX_T}
use Rattle.bidegree.specs.declared.shape.Shape.TheVariants.{Stems}
use Rattle.board_core.specs.declared.event.Entry.{Entry as Event}
use Rattle.board_core.specs.declared.event.Entry.TheVariants.{Take, Give, Back, Fail}
use Rattle.board_core.specs.Board.{IsTaken}
use Rattle.board_core.specs.Laws.{given, given_in}
use Rattle.board_core.specs.Entries.{IsLegalEntry as IsLegal, after_entry as after}
use Rattle.board_core.specs.Machine.{State, Squares, IsAbove, IsLegalTake, IsHeld, IsHeldWithoutCause, height}
use Rattle.board_core.specs.Machine.IsHistory.{nothing}
use Rattle.board_core.proofs.Causes.{first_of_all}
use Rattle.board_core.proofs.Histories.{height_is, held_at_height, reached_is_sound}
use Rattle.square_board.specs.declared.opening.Opening.{Opening}
use Rattle.square_board.specs.Stocks.{StockWords, HasOneMore, IsNextPlace, Goes, IsGone, degree_of}
use Rattle.square_board.specs.Courses.{Course, state_of, with_event}
use Rattle.square_board.specs.Openings.{subject_of, bottom_of, shape_of, stands_of, course_of, ListsSquares}
use Rattle.square_board.specs.Desks.{has_fail, IsDesk}
use Rattle.square_board.proofs.Courses.{state_of-then, legal-then}
use Rattle.square_board.proofs.Failing.{none_fails}
use Rattle.square_board.proofs.Ranges.{desk_range, next_of}

-- ---- histories with one event more

pub given-then : (events : List Event) (event : Event) → given (events ++ event ∷ []) ≡ given events ++ given (event ∷ [])
given-then [] event = refl
given-then (Take who s t snapshot ∷ events) event = given-then events event
given-then (Give who s t ∷ events) event = ap (λ (l : List (ℕ × ℤ)). (s, t) ∷ l) (given-then events event)
given-then (Back who s t ∷ events) event = given-then events event
given-then (Fail who s t ∷ events) event = given-then events event

pub given_in-then : (i : ℕ) (events : List Event) (event : Event) → given_in i (events ++ event ∷ []) ≡ given_in i events + given_in i (event ∷ [])
given_in-then i events event = ap (λ (l : List (ℕ × ℤ)). count_by (λ q. nat_eq q.0 i) l) (given-then events event) ∙ sum_by-append (λ (q : ℕ × ℤ). cond (nat_eq q.0 i) 1 0) (given events) (given (event ∷ []))

pub fail-then : (events : List Event) (event : Event) → has_fail (events ++ event ∷ []) ≡ (has_fail events || has_fail (event ∷ []))
fail-then [] event = refl
fail-then (Take who s t snapshot ∷ events) event = fail-then events event
fail-then (Give who s t ∷ events) event = fail-then events event
fail-then (Back who s t ∷ events) event = fail-then events event
fail-then (Fail who s t ∷ events) event = refl

neither_fails : (a b : Bool) → (a || b) ≡ false → (a ≡ false) × (b ≡ false)
neither_fails true b none = cc
neither_fails false b none = (refl, none)

module _ {T O I M : Type 0} (w : StockWords T O I M) where
  pub gone_then : (first : T) (events : List Event) (last : T) (event : Event) (new : T) → IsGone w first events last → Goes w last event new → IsGone w first (events ++ event ∷ []) new
  gone_then first [] last event new gone goes = (new, (subst (λ (x : T). Goes w x event new) gone goes, refl))
  gone_then first (e ∷ events) last event new gone goes = (gone.0, (gone.1.0, gone_then gone.0 events last event new gone.1.1 goes))

  -- before the first event
  pub desk_opened : (opening : Opening T) (course : Course) (stock : T) → opening.first.value ≡ stock → course ≡ course_of w opening [] → opening.range.s ≤ MAX_S → opening.range.t ≤ MAX_T → w.reaches (w.subject stock) opening.range → (w.shape (w.subject stock) ≡ Stems → opening.range.s ≤ opening.range.t) → ListsSquares (stands_of w opening) (bottom_of w opening) opening.start (w.fronts stock) → w.takes stock → IsDesk w opening course stock
  desk_opened opening course stock first_is course_is row degree reached corner lists takes =
      let first = opening.first.value in
      let lists_first : ListsSquares (stands_of w opening) (bottom_of w opening) opening.start (w.fronts first) = subst (λ (x : T). ListsSquares (stands_of w opening) (bottom_of w opening) opening.start (w.fronts x)) (sym first_is) lists in
      let base : IsDesk w opening (course_of w opening []) first = record {
        course_is = refl;
        legal = record { listed = lists_first.once; history = nothing _ };
        row = row;
        degree = degree;
        reached = subst (λ (x : T). w.reaches (w.subject x) opening.range) (sym first_is) reached;
        corner = subst (λ (x : T). w.shape (w.subject x) ≡ Stems → opening.range.s ≤ opening.range.t) (sym first_is) corner;
        lists = lists_first;
        done = lists_first.squares;
        fronts = λ i. omega arith;
        same = refl;
        gone = refl;
        takes = λ none. subst w.takes (sym first_is) takes;
      } in
      subst (λ (c : Course). IsDesk w opening c stock) (sym course_is) (subst (λ (x : T). IsDesk w opening (course_of w opening []) x) first_is base)

-- no event but a Give changes what is done
done-other : (state : State) (event : Event) → given (event ∷ []) ≡ [] → (after state event).done ≡ state.done
done-other state (Take who s t snapshot) none = refl
done-other state (Give who s t) none = cc
done-other state (Back who s t) none = refl
done-other state (Fail who s t) none = refl

one_more : (old : Bool) (i j s k n m : ℕ) → old ≡ nat_lt j n → (i ≡ s → n ≡ k) → (i ≡ s → m ≡ suc n) → (i ≢ s → m ≡ n) → (old || (nat_eq i s && nat_eq j k)) ≡ nat_lt j m
one_more old i j s k n m is same longer other = elim (eqb_tells i s) [
  | inl p ↦ let a = same p.1 in let b = longer p.1 in let here = p.1 in grind (arith, nat_tests)
  | inr p ↦ let b = other p.1 in let tested = p.0 in grind (arith, nat_tests)
]

front_more : (i s n m more : ℕ) → more ≡ cond (nat_eq s i) 1 0 → (i ≡ s → m ≡ suc n) → (i ≢ s → m ≡ n) → m ≡ n + more
front_more i s n m more is longer other = elim (eqb_tells i s) [
  | inl p ↦ let b = longer p.1 in let here = p.1 in let e : nat_eq s i ≡ true = grind (arith, nat_tests) in let f : more ≡ 1 = is ∙ ap (λ (x : Bool). cond x 1 0) e in omega arith
  | inr p ↦ let b = other p.1 in let apart = p.1 in let e : nat_eq s i ≡ false = grind (arith, nat_tests) in let f : more ≡ 0 = is ∙ ap (λ (x : Bool). cond x 1 0) e in omega arith
]

given_in-one : (i who s : ℕ) (t : ℤ) → given_in i (Give who s t ∷ []) ≡ cond (nat_eq s i) 1 0
given_in-one i who s t = omega arith

module _ {T O I M : Type 0} (w : StockWords T O I M) (opening : Opening T) (course : Course) (stock : T) (desk : IsDesk w opening course stock) where
  -- while no cause stands there was no Fail
  pub none_failed : (state_of course).cause ≡ None → has_fail course.history ≡ false
  none_failed none = none_fails course.history (sym (first_of_all course.bottom course.shape course.rows course.degrees course.start course.history (state_of course) desk.legal) ∙ none)

  -- an event, and what becomes of the stock
  desk_more : (event : Event) (later : T) → IsLegal (state_of course) event → Goes w stock event later → w.subject later ≡ w.subject stock → ((s k : ℕ) → (after (state_of course) event).done s k ≡ nat_lt k (w.fronts later s)) → ((i : ℕ) → w.fronts later i ≡ w.fronts stock i + given_in i (event ∷ [])) → (has_fail course.history ≡ false → has_fail (event ∷ []) ≡ false → w.takes later) → IsDesk w opening (with_event course event) later
  desk_more event later legal goes same done fronts takes = record {
    course_is = ap (λ (c : Course). with_event c event) desk.course_is;
    legal = legal-then course event desk.legal legal;
    row = desk.row;
    degree = desk.degree;
    reached = desk.reached;
    corner = desk.corner;
    lists = desk.lists;
    done = λ s k. ap (λ (x : State). x.done s k) (state_of-then course event) ∙ done s k;
    fronts = λ i. let a = fronts i in let b = desk.fronts i in let c = given_in-then i course.history event in omega arith;
    same = same ∙ desk.same;
    gone = gone_then w opening.first.value course.history stock event later desk.gone goes;
    takes = λ none. let both = neither_fails _ _ (sym (fail-then course.history event) ∙ none) in takes both.0 both.1;
  }

  -- an event that gives nothing
  desk_other : (event : Event) (later : T) → IsLegal (state_of course) event → given (event ∷ []) ≡ [] → Goes w stock event later → w.subject later ≡ w.subject stock → ((i : ℕ) → w.fronts later i ≡ w.fronts stock i) → (has_fail course.history ≡ false → has_fail (event ∷ []) ≡ false → w.takes later) → IsDesk w opening (with_event course event) later
  desk_other event later legal none goes same fronts takes =
      desk_more event later legal goes same
      (λ s k. ap (λ (d : Squares). d s k) (done-other (state_of course) event none) ∙ (desk.done s k ∙ ap (λ (n : ℕ). nat_lt k n) (sym (fronts s))))
      (λ i. let a = fronts i in let b : given_in i (event ∷ []) ≡ 0 = ap (λ (l : List (ℕ × ℤ)). count_by (λ q. nat_eq q.0 i) l) none in omega arith)
      takes

  pub desk_taken : (who s : ℕ) (t : ℤ) (snapshot : ℕ × ℕ) → IsLegalTake (state_of course) s t snapshot → IsDesk w opening (with_event course (Take who s t snapshot)) stock
  desk_taken who s t snapshot legal = desk_other (Take who s t snapshot) stock legal refl refl refl (λ i. refl) (λ none _. desk.takes none)

  pub desk_back : (who s : ℕ) (t : ℤ) → IsHeld (state_of course) who s t → IsDesk w opening (with_event course (Back who s t)) stock
  desk_back who s t held = desk_other (Back who s t) stock held refl (inl refl) refl (λ i. refl) (λ none _. desk.takes none)

  -- there was no memory to put the square
  pub desk_lacked : (who s : ℕ) (t : ℤ) (later : T) → IsHeld (state_of course) who s t → w.lacks stock s t later → w.subject later ≡ w.subject stock → ((i : ℕ) → w.fronts later i ≡ w.fronts stock i) → w.takes later → IsDesk w opening (with_event course (Back who s t)) later
  desk_lacked who s t later held lacks same fronts takes = desk_other (Back who s t) later held refl (inr lacks) same fronts (λ _ _. takes)

  -- the square could not be kept
  pub desk_failed : (who s : ℕ) (t : ℤ) (later : T) → IsHeldWithoutCause (state_of course) who s t → w.fails stock s t later → w.subject later ≡ w.subject stock → ((i : ℕ) → w.fronts later i ≡ w.fronts stock i) → IsDesk w opening (with_event course (Fail who s t)) later
  desk_failed who s t later legal fails same fronts = desk_other (Fail who s t) later legal refl fails same fronts (λ _ failed. cc)

  -- the square that who has is in the range, is not done, and has what it stands on
  pub held_taken : (who s above : ℕ) (t : ℤ) → IsHeld (state_of course) who s t → t ≡ degree_of w (subject_of w opening) above → IsTaken (state_of course) s above
  held_taken who s above t held degree =
      let state = state_of course in
      let range = desk_range w opening course stock desk in
      let at : IsAbove state.bottom t above = subst (λ (b : ℤ). IsAbove b t above) (sym range.low_is) degree in
      let sound = reached_is_sound course.bottom course.shape course.rows course.degrees course.start course.history state desk.legal in
      subst (λ (k : ℕ). IsTaken state s k) (height_is state t above at) (sound.taken s (height state t) (held_at_height state who s t held))

  -- so it is the next of its row
  pub held_next : (who s above : ℕ) (t : ℤ) → IsHeld (state_of course) who s t → t ≡ degree_of w (subject_of w opening) above → IsNextPlace (shape_of w opening) opening.range (w.fronts stock) s above
  held_next who s above t held degree = next_of w opening course stock desk s above (held_taken who s above t held degree)

  -- the square is put
  pub desk_given : (who s above : ℕ) (t : ℤ) (later : T) → IsHeldWithoutCause (state_of course) who s t → t ≡ degree_of w (subject_of w opening) above → w.gives stock s t later → w.subject later ≡ w.subject stock → HasOneMore s (w.fronts stock) (w.fronts later) → w.takes later → IsDesk w opening (with_event course (Give who s t)) later
  desk_given who s above t later legal degree gives same more takes =
      let state = state_of course in
      let range = desk_range w opening course stock desk in
      let at : IsAbove state.bottom t above = subst (λ (b : ℤ). IsAbove b t above) (sym range.low_is) degree in
      let high : height state t ≡ above = height_is state t above at in
      let place = held_next who s above t legal.held degree in
      let longer : (i : ℕ) → i ≡ s → w.fronts later i ≡ suc (w.fronts stock i) = λ i e. subst (λ (n : ℕ). w.fronts later n ≡ suc (w.fronts stock n)) (sym e) more.here in
      desk_more (Give who s t) later legal gives same
      (λ i j.
      ap (λ (k : ℕ). state.done i j || (nat_eq i s && nat_eq j k)) high
      ∙ one_more (state.done i j) i j s above (w.fronts stock i) (w.fronts later i) (desk.done i j) (λ e. ap (λ (n : ℕ). w.fronts stock n) e ∙ place.next) (longer i) (more.others i))
      (λ i. front_more i s (w.fronts stock i) (w.fronts later i) (given_in i (Give who s t ∷ [])) (given_in-one i who s t) (longer i) (more.others i))
      (λ _ _. takes)
