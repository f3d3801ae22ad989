-- The file of a board, with each event, Stop and Open too.
use Rattle.std.proofs.Common.{◌≡◌, ℕ, zero, suc, ◌⊎◌, ◌<◌, ℤ, true, false, Bool, ◌&&◌, ◌||◌, nat_eq, List, [], ◌∷◌, ◌++◌, length, take, Option, Some, None, refl, sym, ◌∙◌, ap, subst, arith, inl, inr, append_assoc, append-nil}
use Rattle.std.specs.List.{slice_get}
use Rattle.std.proofs.Math.Path.{fun_ext}
use Rattle.std.proofs.lemmas.Bool.{cases_Bool}
use Rattle.std.proofs.lemmas.Bool.Decides.{nat_tests}
use Rattle.std.proofs.lemmas.List.Folds.{list_any-append}
use Rattle.bidegree.specs.Above.{above_of}
use Rattle.bidegree.proofs.Degrees.{above_of-is}
use Rattle.bidegree.specs.declared.shape.Shape.{Shape}
use Rattle.board_core.specs.declared.event.Cause.{Cause}
use Rattle.board_core.specs.declared.event.Out.{Out}
use Rattle.board_core.specs.declared.event.Entry.TheVariants.{Take as TakeEntry, Give as GiveEntry, Back as BackEntry, Fail as FailEntry}
use Rattle.board_core.specs.declared.event.Event.{Event}
use Rattle.board_core.specs.declared.event.Event.TheVariants.{Take, Give, Back, Fail, Stop, Open}
use Rattle.board_core.specs.Laws.{IsReached, AreFiledOnce, filed}
use Rattle.board_core.specs.Board.{IsSound, IsTaken, IsFiled, below_fronts}
use Rattle.board_core.specs.Inside.{IsAside, IsBounded, IsWellKept}
use Rattle.board_core.specs.Machine.{Squares, no_squares, HasParents, State, stands_in, stands, IsStart, IsNextSquare, IsBegun, IsLegal, IsHistory, IsAbove, is_number, height, has_failed, file_with, after, opening, squares_of, is_out, insert_square}
use Rattle.board_core.specs.Machine.IsHistory.{nothing, then}
use Rattle.board_core.proofs.Starts.{start_is_staircase}
use Rattle.board_core.proofs.Histories.{height_is, held_at_height, opening_is_sound, stays_sound}

-- ---- lists of squares with one more

or_false : (a b : Bool) → (a || (b || false)) ≡ (a || b)
or_false true b = refl
or_false false true = refl
or_false false false = refl

pub squares_with : (b : ℤ) (list : List (ℕ × ℤ)) (s k : ℕ) (t : ℤ) → IsAbove b t k → squares_of b (list ++ (s, t) ∷ []) ≡ insert_square (squares_of b list) s k
squares_with b list s k t at = fun_ext (λ i. fun_ext (λ j.
    list_any-append (λ (q : ℕ × ℤ). nat_eq i q.0 && is_number (above_of b q.1) j) list ((s, t) ∷ [])
    ∙ or_false (squares_of b list i j) (nat_eq i s && is_number (above_of b t) j)
    ∙ ap (λ (o : Option ℕ). squares_of b list i j || (nat_eq i s && is_number o j)) (above_of-is b t k at)))

-- a place of a list with one element more
record IsLast (list : List (ℕ × ℤ)) (q : ℕ × ℤ) (n : ℕ) (x : ℕ × ℤ) : Type 0 where
  same : x ≡ q
  rest : take n (list ++ q ∷ []) ≡ list

record IsBefore (list : List (ℕ × ℤ)) (q : ℕ × ℤ) (n : ℕ) (x : ℕ × ℤ) : Type 0 where
  here : slice_get list n ≡ Some x
  rest : take n (list ++ q ∷ []) ≡ take n list

place : (list : List (ℕ × ℤ)) (q : ℕ × ℤ) (n : ℕ) (x : ℕ × ℤ) → slice_get (list ++ q ∷ []) n ≡ Some x → IsBefore list q n x ⊎ IsLast list q n x
place [] q zero x e = inr (record { same = let f : q ≡ x = cc in sym f; rest = refl })
place [] q (suc n) x e = cc
place (y ∷ list) q zero x e = inl (record { here = e; rest = refl })
place (y ∷ list) q (suc n) x e = elim (place list q n x e) [
  | inl p ↦ inl (record { here = p.here; rest = ap (λ l. y ∷ l) p.rest })
  | inr p ↦ inr (record { same = p.same; rest = ap (λ l. y ∷ l) p.rest })
]

pub start_with : (places : Squares) (b : ℤ) (list : List (ℕ × ℤ)) (q : ℕ × ℤ) → IsStart places b list → IsNextSquare places b list q → IsStart places b (list ++ q ∷ [])
start_with places b list q start next n x e = elim (place list q n x e) [
  | inl p ↦ subst (λ (l : List (ℕ × ℤ)). IsNextSquare places b l x) (sym p.rest) (start n x p.here)
  | inr p ↦ subst (λ (l : List (ℕ × ℤ)). IsNextSquare places b l x) (sym p.rest) (subst (λ (y : ℕ × ℤ). IsNextSquare places b list y) (sym p.same) next)
]

-- a square that was taken, and is not done, may be the next of the file
pub taken_is_next : (state : State) (s k : ℕ) (t : ℤ) → IsFiled state → state.running ≡ true → IsAbove state.bottom t k → IsTaken state s k → IsNextSquare (stands state) state.bottom state.file (s, t)
taken_is_next state s k t filed runs at taken =
    let all = filed.done runs in
    record {
      above = k;
      degree = at;
      absent = subst (λ (d : Squares). d s k ≡ false) all taken.not_done;
      parents = subst (λ (d : Squares). HasParents (stands state) d s k) all taken.parents;
    }

-- ---- the file, with each event

pub opening_is_filed : (bottom : ℤ) (shape : Shape) (s t : ℕ) (start : List (ℕ × ℤ)) → IsStart (stands_in shape s t) bottom start → IsFiled (opening bottom shape s t start)
opening_is_filed bottom shape s t start listed = record { listed = listed; done = λ r. refl; none_done = λ r. cc; none_out = λ r. cc; none_failed = λ r. cc }

-- while the board runs the file does not hang on what is out or failed, nor on the cause
pub filed_still : (state : State) (out : List Out) (failed : Option Out) (cause : Option Cause) → IsFiled state → state.running ≡ true → IsFiled (record state { out = out; failed = failed; cause = cause })
filed_still state out failed cause filed runs = record { listed = filed.listed; done = filed.done; none_done = λ r. cc; none_out = λ r. cc; none_failed = λ r. cc }

pub filed_give : (state : State) (s k : ℕ) (t : ℤ) (done : Squares) (out : List Out) (file : List (ℕ × ℤ)) → IsFiled state → state.running ≡ true → IsAbove state.bottom t k → IsTaken state s k → done ≡ insert_square state.done s k → file ≡ state.file ++ (s, t) ∷ [] → IsFiled (record state { done = done; out = out; file = file })
filed_give state s k t done out file filed runs at taken done_is file_is =
    let b = state.bottom in
    let next = taken_is_next state s k t filed runs at taken in
    let same : done ≡ squares_of b (state.file ++ (s, t) ∷ []) = done_is ∙ (ap (λ (d : Squares). insert_square d s k) (filed.done runs) ∙ sym (squares_with b state.file s k t at)) in
    record {
      listed = subst (IsStart (stands state) b) (sym file_is) (start_with (stands state) b state.file (s, t) filed.listed next);
      done = λ r. same ∙ ap (squares_of b) (sym file_is);
      none_done = λ r. cc;
      none_out = λ r. cc;
      none_failed = λ r. cc;
    }

-- nor does what is kept aside
pub aside_still : (state : State) (aside : List ℕ) (done : Squares) (out : List Out) (failed : Option Out) (file : List (ℕ × ℤ)) (cause : Option Cause) → IsAside state aside → state.running ≡ true → IsAside (record state { done = done; out = out; failed = failed; file = file; cause = cause }) aside
aside_still state aside done out failed file cause kept runs = record { long = kept.long; none = kept.none; file = λ r. cc }

-- a board that does not run
pub filed_at_rest : (state : State) (done : Squares) (out : List Out) (file : List (ℕ × ℤ)) → done ≡ no_squares → out ≡ [] → IsStart (stands state) state.bottom file → IsFiled (record state { done = done; out = out; failed = None; file = file; running = false })
filed_at_rest state done out file none_done none_out listed = record { listed = listed; done = λ r. cc; none_done = λ r. none_done; none_out = λ r. none_out; none_failed = λ r. refl }

pub sound_at_rest : (state : State) (done : Squares) (out : List Out) (file : List (ℕ × ℤ)) → done ≡ no_squares → out ≡ [] → IsSound (record state { done = done; out = out; failed = None; file = file; running = false })
sound_at_rest state done out file none_done none_out =
    let base : IsSound (record state { done = no_squares; out = []; failed = None; file = file; running = false }) = record { staircase = λ s k e. cc; once = tt; taken = λ s k e. cc; failed_taken = λ e is. cc; none_failed = λ none. refl } in
    let empty : IsSound (record state { done = done; out = []; failed = None; file = file; running = false }) = subst (λ (d : Squares). IsSound (record state { done = d; out = []; failed = None; file = file; running = false })) (sym none_done) base in
    subst (λ (l : List Out). IsSound (record state { done = done; out = l; failed = None; file = file; running = false })) (sym none_out) empty

-- a board that runs again
pub filed_anew : (state : State) (done : Squares) (cause : Option Cause) → IsFiled state → done ≡ squares_of state.bottom state.file → IsFiled (record state { done = done; cause = cause; running = true })
filed_anew state done cause filed is = record { listed = filed.listed; done = λ r. is; none_done = λ r. cc; none_out = λ r. cc; none_failed = λ r. cc }

pub sound_anew : (state : State) (done : Squares) (cause : Option Cause) → IsFiled state → state.running ≡ false → done ≡ squares_of state.bottom state.file → IsSound (record state { done = done; cause = cause; running = true })
sound_anew state done cause filed rests is =
    let none_out = filed.none_out rests in
    let none_failed = filed.none_failed rests in
    let base : IsSound (record state { done = squares_of state.bottom state.file; out = []; failed = None; cause = cause; running = true }) = record { staircase = start_is_staircase (stands state) state.bottom state.file filed.listed; once = tt; taken = λ s k e. cc; failed_taken = λ e is. cc; none_failed = λ none. refl } in
    let filled : IsSound (record state { done = done; out = []; failed = None; cause = cause; running = true }) = subst (λ (d : Squares). IsSound (record state { done = d; out = []; failed = None; cause = cause; running = true })) (sym is) base in
    let listed : IsSound (record state { done = done; failed = None; cause = cause; running = true }) = subst (λ (l : List Out). IsSound (record state { done = done; out = l; failed = None; cause = cause; running = true })) (sym none_out) filled in
    subst (λ (o : Option Out). IsSound (record state { done = done; failed = o; cause = cause; running = true })) (sym none_failed) listed

-- ---- the square that a Stop finds in the file

failed_is_taken : (state : State) (failed : Option Out) (s k : ℕ) → ((e : Out) → failed ≡ Some e → IsTaken state e.s e.above) → has_failed failed s k ≡ true → IsTaken state s k
failed_is_taken state None s k taken is = cc
failed_is_taken state (Some e) s k taken is =
    let row : e.s ≡ s = grind (arith, nat_tests) in
    let degree : e.above ≡ k = grind (arith, nat_tests) in
    subst (λ (n : ℕ). IsTaken state s n) degree (subst (λ (n : ℕ). IsTaken state n e.above) row (taken e refl))

-- it has its parents done, and is not
pub begun_is_taken : (state : State) (s k : ℕ) → IsSound state → (is_out state.out s k || has_failed state.failed s k) ≡ true → IsTaken state s k
begun_is_taken state s k sound begun = elim (cases_Bool (is_out state.out s k)) [
  | inl out ↦ sound.taken s k out
  | inr none ↦ failed_is_taken state state.failed s k sound.failed_taken (ap (λ b. b || has_failed state.failed s k) (sym none) ∙ begun)
]

pub stopped_file : (state : State) (in_file : Option (ℕ × ℤ)) → IsSound state → IsFiled state → state.running ≡ true → ((q : ℕ × ℤ) → in_file ≡ Some q → IsBegun state q.0 q.1) → IsStart (stands state) state.bottom (file_with state.file in_file)
stopped_file state None sound filed runs begun = filed.listed
stopped_file state (Some q) sound filed runs begun =
    let one = begun q refl in
    let taken = begun_is_taken state q.0 one.above sound one.begun in
    start_with (stands state) state.bottom state.file q filed.listed (taken_is_next state q.0 one.above q.1 filed runs one.degree taken)

-- ---- where the board may rest

-- the fronts are those of the file's squares, nothing is kept aside, and there is room for the squares of the range
pub record MayRest (places : Squares) (rows degrees : ℕ) (bottom : ℤ) (file : List (ℕ × ℤ)) (fronts aside : List ℕ) (busy : List Bool) : Type 0 where
  pub listed : IsStart places bottom file
  pub squares : below_fronts fronts ≡ squares_of bottom file
  pub bounded : IsBounded rows degrees bottom (length fronts)
  pub long : rows < length aside
  pub none : below_fronts aside ≡ no_squares
  pub marks : rows < length busy

pub may_rest : (state : State) (fronts aside : List ℕ) (busy : List Bool) → state.done ≡ below_fronts fronts → state.running ≡ true → IsWellKept state (length fronts) busy aside → MayRest (stands state) state.rows state.degrees state.bottom state.file fronts aside busy
may_rest state fronts aside busy done runs kept = record {
  listed = kept.filed.listed;
  squares = sym done ∙ kept.filed.done runs;
  bounded = kept.bounded;
  long = kept.kept_aside.long;
  none = kept.kept_aside.none runs;
  marks = kept.marked.long;
}

-- with one square more, in the file and among the done ones
pub may_rest_with : (places : Squares) (rows degrees : ℕ) (bottom : ℤ) (file more : List (ℕ × ℤ)) (fronts longer aside : List ℕ) (busy : List Bool) (q : ℕ × ℤ) (k : ℕ) → MayRest places rows degrees bottom file fronts aside busy → IsNextSquare places bottom file q → IsAbove bottom q.1 k → below_fronts longer ≡ insert_square (below_fronts fronts) q.0 k → length longer ≡ length fronts → more ≡ file ++ q ∷ [] → MayRest places rows degrees bottom more longer aside busy
may_rest_with places rows degrees bottom file more fronts longer aside busy q k before next at squares long is = record {
  listed = subst (IsStart places bottom) (sym is) (start_with places bottom file q before.listed next);
  squares = squares ∙ (ap (λ (d : Squares). insert_square d q.0 k) before.squares ∙ (sym (squares_with bottom file q.0 k q.1 at) ∙ ap (squares_of bottom) (sym is)));
  bounded = subst (λ (n : ℕ). IsBounded rows degrees bottom n) (sym long) before.bounded;
  long = before.long;
  none = before.none;
  marks = before.marks;
}

-- ---- one event, and a history

pub record IsWhole (state : State) : Type 0 where
  pub sound : IsSound state
  pub filed : IsFiled state

-- the square that who has, at its height
at_height : (state : State) (t : ℤ) (k : ℕ) → IsAbove state.bottom t k → IsAbove state.bottom t (height state t)
at_height state t k at = subst (λ (n : ℕ). IsAbove state.bottom t n) (sym (height_is state t k at)) at

pub stays_whole : (state : State) (event : Event) → IsWhole state → IsLegal state event → IsWhole (after state event)
stays_whole state (Take who s t snapshot) whole legal = record {
  sound = stays_sound state (TakeEntry who s t snapshot) whole.sound legal;
  filed = filed_still state _ state.failed state.cause whole.filed legal.ready.running;
}
stays_whole state (Give who s t) whole legal =
    let held = legal.held in
    let taken = whole.sound.taken s (height state t) (held_at_height state who s t held) in
    record {
      sound = stays_sound state (GiveEntry who s t) whole.sound legal;
      filed = filed_give state s (height state t) t _ _ _ whole.filed held.running (at_height state t held.above held.degree) taken refl refl;
    }
stays_whole state (Back who s t) whole legal = record {
  sound = stays_sound state (BackEntry who s t) whole.sound legal;
  filed = filed_still state _ state.failed _ whole.filed legal.running;
}
stays_whole state (Fail who s t) whole legal = record {
  sound = stays_sound state (FailEntry who s t) whole.sound legal;
  filed = filed_still state _ _ _ whole.filed legal.held.running;
}
stays_whole state (Stop in_file) whole legal = record {
  sound = sound_at_rest state no_squares [] (file_with state.file in_file) refl refl;
  filed = filed_at_rest state no_squares [] (file_with state.file in_file) refl refl (stopped_file state in_file whole.sound whole.filed legal.running legal.begun);
}
stays_whole state Open whole legal = record {
  sound = sound_anew state (squares_of state.bottom state.file) None whole.filed legal refl;
  filed = filed_anew state (squares_of state.bottom state.file) None whole.filed refl;
}

whole_along : (first : State) (events : List Event) (last : State) → IsHistory first events last → IsWhole first → IsWhole last
whole_along first [] last (nothing state) whole = whole
whole_along first (event ∷ events) last (then state e es l legal rest) whole = whole_along (after first event) events last rest (stays_whole first event whole legal)

pub opening_is_whole : (bottom : ℤ) (shape : Shape) (s t : ℕ) (start : List (ℕ × ℤ)) → IsStart (stands_in shape s t) bottom start → IsWhole (opening bottom shape s t start)
opening_is_whole bottom shape s t start listed = record { sound = opening_is_sound bottom shape s t start listed; filed = opening_is_filed bottom shape s t start listed }

pub reached_is_whole : (bottom : ℤ) (shape : Shape) (s t : ℕ) (start : List (ℕ × ℤ)) (events : List Event) (state : State) → IsReached bottom shape s t start events state → IsWhole state
reached_is_whole bottom shape s t start events state reached = whole_along (opening bottom shape s t start) events state reached.history (opening_is_whole bottom shape s t start reached.listed)

-- ---- what the file has

file_more : (file : List (ℕ × ℤ)) (in_file : Option (ℕ × ℤ)) (rest : List (ℕ × ℤ)) → file_with file in_file ++ rest ≡ file ++ (file_with [] in_file ++ rest)
file_more file None rest = refl
file_more file (Some q) rest = append_assoc file (q ∷ []) rest

-- that it had, and then the squares that the events put there
pub file_is : (first : State) (events : List Event) (last : State) → IsHistory first events last → last.file ≡ first.file ++ filed events
file_is first [] last (nothing state) = sym (append-nil first.file)
file_is first (Take who s t snapshot ∷ events) last (then state e es l legal rest) = file_is (after first (Take who s t snapshot)) events last rest
file_is first (Give who s t ∷ events) last (then state e es l legal rest) = file_is (after first (Give who s t)) events last rest ∙ append_assoc first.file ((s, t) ∷ []) (filed events)
file_is first (Back who s t ∷ events) last (then state e es l legal rest) = file_is (after first (Back who s t)) events last rest
file_is first (Fail who s t ∷ events) last (then state e es l legal rest) = file_is (after first (Fail who s t)) events last rest
file_is first (Stop in_file ∷ events) last (then state e es l legal rest) = file_is (after first (Stop in_file)) events last rest ∙ file_more first.file in_file (filed events)
file_is first (Open ∷ events) last (then state e es l legal rest) = file_is (after first Open) events last rest

pub same_bottom : (state : State) (event : Event) → (after state event).bottom ≡ state.bottom
same_bottom state (Take who s t snapshot) = refl
same_bottom state (Give who s t) = refl
same_bottom state (Back who s t) = refl
same_bottom state (Fail who s t) = refl
same_bottom state (Stop in_file) = refl
same_bottom state Open = refl

pub bottom_along : (first : State) (events : List Event) (last : State) → IsHistory first events last → last.bottom ≡ first.bottom
bottom_along first [] last (nothing state) = refl
bottom_along first (event ∷ events) last (then state e es l legal rest) = bottom_along (after first event) events last rest ∙ same_bottom first event

pub filed_once : (bottom : ℤ) (shape : Shape) (s t : ℕ) (start : List (ℕ × ℤ)) (events : List Event) (state : State) → IsReached bottom shape s t start events state → AreFiledOnce bottom start events state
filed_once bottom shape s t start events state reached = record {
  same_bottom = bottom_along (opening bottom shape s t start) events state reached.history;
  file = file_is (opening bottom shape s t start) events state reached.history;
  is_filed = (reached_is_whole bottom shape s t start events state reached).filed;
}
