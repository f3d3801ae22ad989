-- Without contents the board does what the machine does.
use Rattle.std.proofs.Common.{◌≡◌, ℕ, ℤ, pos, ◌+ℤ◌, Bool, true, false, not, cond, ◌&&◌, ◌||◌, nat_eq, if◌then◌else◌, List, [], ◌∷◌, ◌++◌, map, Option, Some, None, is_some, refl, sym, ◌∙◌, ap, arith}
use Rattle.std.specs.List.{filter}
use Rattle.std.proofs.Math.Path.{fun_ext}
use Rattle.std.proofs.Math.Bool.{or_comm}
use Rattle.std.proofs.lemmas.Bool.Decides.{nat_tests}
use Rattle.std.proofs.lemmas.List.{map-append}
use Rattle.bidegree.specs.Above.{above_of}
use Rattle.bidegree.proofs.Degrees.{above_of-is}
use Rattle.bidegree.specs.declared.shape.Shape.TheVariants.{Rectangle}
use Rattle.board_core.specs.declared.event.Out.{Out}
use Rattle.board_core.specs.declared.event.Cause.TheVariants.{Failed, Memory}
use Rattle.board_core.specs.declared.event.Event.TheVariants.{Take, Give, Back, Fail, Stop, Open}
use Rattle.board_core.specs.Machine.{State, Squares, no_squares, IsAbove, after, opening, squares_of, insert_square, without, is_number, cause_or}
use Rattle.resolution_laws.specs.Resolution.{Module, Content}
use Rattle.resolution_laws.specs.Start.{Entry, entry_at}
use Rattle.board_laws.specs.Filled.{Contents, with_content, Copy, Filled, without_contents, filled_opening, filled_height, places, without_copy, IsCopyFor, after_take, after_give, after_back, after_fail, after_stop, after_open, file_and}

-- the squares that hold something
abbrev pub held_squares : Contents → Squares
held_squares done = λ s k. is_some (done s k)

some_first : (here : Bool) (content : Content) (rest : Option Content) → is_some (if here then Some content else rest) ≡ (here || is_some rest)
some_first true content rest = refl
some_first false content rest = refl

more_held : (done : Contents) (s k : ℕ) (content : Content) → held_squares (with_content done s k content) ≡ insert_square (held_squares done) s k
more_held done s k content = fun_ext (λ i. fun_ext (λ j. some_first (nat_eq i s && nat_eq j k) content (done i j) ∙ or_comm (nat_eq i s && nat_eq j k) (is_some (done i j))))

map-filter : {X Y : Type 0} (f : X → Y) (p : Y → Bool) (xs : List X) → map f (filter (λ x. p (f x)) xs) ≡ filter p (map f xs)
map-filter f p [] = refl
map-filter f p (x ∷ xs) = one (p (f x)) (map-filter f p xs)
  where
    one : (b : Bool) → map f (filter (λ y. p (f y)) xs) ≡ filter p (map f xs) → map f (cond b (x ∷ filter (λ y. p (f y)) xs) (filter (λ y. p (f y)) xs)) ≡ cond b (f x ∷ filter p (map f xs)) (filter p (map f xs))
    one true rest = ap (λ l. f x ∷ l) rest
    one false rest = rest

pub out_without : (out : List Copy) (s k : ℕ) → map (λ (copy : Copy). copy.out) (without_copy out s k) ≡ without (map (λ (copy : Copy). copy.out) out) s k
out_without out s k = map-filter (λ (copy : Copy). copy.out) (λ (e : Out). not (nat_eq e.s s && nat_eq e.above k)) out

-- ---- events

pub take_agrees : (board : Filled) (who s : ℕ) (t : ℤ) (snapshot : ℕ × ℕ) → without_contents (after_take board who s (filled_height board t)) ≡ after (without_contents board) (Take who s t snapshot)
take_agrees board who s t snapshot =
    let state = without_contents board in
    ap (λ (list : List Out). let new : State = record state { out = list } in new) (map-append (λ (copy : Copy). copy.out) board.out _)

-- the square that is given is the last of the file
file_with : (board : Filled) (s : ℕ) (t : ℤ) (content : Content) → IsAbove board.bottom t (filled_height board t) → places board.bottom (board.file ++ record { s = s; above = filled_height board t; content = content } ∷ []) ≡ places board.bottom board.file ++ (s, t) ∷ []
file_with board s t content at =
    map-append (λ (e : Entry). (e.s, board.bottom +ℤ pos e.above)) board.file (record { s = s; above = filled_height board t; content = content } ∷ [])
    ∙ ap (λ (d : ℤ). places board.bottom board.file ++ (s, d) ∷ []) (sym at)

pub give_agrees : (board : Filled) (who s : ℕ) (t : ℤ) (content : Content) → IsAbove board.bottom t (filled_height board t) → without_contents (after_give board s (filled_height board t) content) ≡ after (without_contents board) (Give who s t)
give_agrees board who s t content at =
    let state = without_contents board in
    let k = filled_height board t in
    let list = map (λ (copy : Copy). copy.out) (without_copy board.out s k) in
    let file = places board.bottom (board.file ++ record { s = s; above = k; content = content } ∷ []) in
    ap (λ (done : Squares). let new : State = record state { done = done; out = list; file = file } in new) (more_held board.done s k content)
    ∙ ap (λ (list : List Out). let new : State = record state { done = insert_square (held_squares board.done) s k; out = list; file = file } in new) (out_without board.out s k)
    ∙ ap (λ (file : List (ℕ × ℤ)). let new : State = record state { done = insert_square (held_squares board.done) s k; out = without state.out s k; file = file } in new) (file_with board s t content at)

pub back_agrees : (board : Filled) (who s : ℕ) (t : ℤ) → without_contents (after_back board s (filled_height board t)) ≡ after (without_contents board) (Back who s t)
back_agrees board who s t =
    let state = without_contents board in
    ap (λ (list : List Out). let new : State = record state { out = list; cause = Some (cause_or board.cause Memory) } in new) (out_without board.out s (filled_height board t))

pub fail_agrees : (board : Filled) (who s : ℕ) (t : ℤ) (copy : Copy) → IsCopyFor board.out who s (filled_height board t) copy → without_contents (after_fail board copy s (filled_height board t)) ≡ after (without_contents board) (Fail who s t)
fail_agrees board who s t copy is =
    let state = without_contents board in
    ap (λ (list : List Out). let new : State = record state { out = list; failed = Some copy.out; cause = Some Failed } in new) (out_without board.out s (filled_height board t))
    ∙ ap (λ (e : Out). let new : State = record state { out = without state.out s (filled_height board t); failed = Some e; cause = Some Failed } in new) is.square

-- ---- the opening

same_test : (bottom : ℤ) (e : Entry) (s k : ℕ) → (nat_eq e.s s && nat_eq e.above k) ≡ (nat_eq s e.s && is_number (above_of bottom (bottom +ℤ pos e.above)) k)
same_test bottom e s k =
    let turned : (nat_eq e.s s && nat_eq e.above k) ≡ (nat_eq s e.s && nat_eq k e.above) = grind (arith, nat_tests) in
    turned ∙ ap (λ (o : Option ℕ). nat_eq s e.s && is_number o k) (sym (above_of-is bottom (bottom +ℤ pos e.above) e.above refl))

start_held : (bottom : ℤ) (start : List Entry) (s k : ℕ) → is_some (entry_at start s k) ≡ squares_of bottom (places bottom start) s k
start_held bottom [] s k = refl
start_held bottom (e ∷ start) s k =
    some_first (nat_eq e.s s && nat_eq e.above k) e.content (entry_at start s k)
    ∙ ap (λ b. b || is_some (entry_at start s k)) (same_test bottom e s k)
    ∙ ap (λ b. (nat_eq s e.s && is_number (above_of bottom (bottom +ℤ pos e.above)) k) || b) (start_held bottom start s k)

pub opening_agrees : (m : Module) (s t : ℕ) (start : List Entry) → without_contents (filled_opening m s t start) ≡ opening m.bottom Rectangle s t (places m.bottom start)
opening_agrees m s t start =
    let first = opening m.bottom Rectangle s t (places m.bottom start) in
    ap (λ (done : Squares). let new : State = record first { done = done } in new) (fun_ext (λ i. fun_ext (λ k. start_held m.bottom start i k)))

-- ---- when a run ends, and another begins

pub stop_agrees : (board : Filled) → without_contents (after_stop board board.file) ≡ after (without_contents board) (Stop None)
stop_agrees board = refl

pub stop_with_agrees : (board : Filled) (q : ℕ × ℤ) (content : Content) → IsAbove board.bottom q.1 (filled_height board q.1) → without_contents (after_stop board (file_and board q.0 (filled_height board q.1) content)) ≡ after (without_contents board) (Stop (Some q))
stop_with_agrees board q content at =
    let state = without_contents board in
    ap (λ (file : List (ℕ × ℤ)). let new : State = record state { done = no_squares; out = []; failed = None; file = file; running = false } in new) (file_with board q.0 q.1 content at)

pub open_agrees : (board : Filled) → without_contents (after_open board) ≡ after (without_contents board) Open
open_agrees board =
    let state = without_contents board in
    ap (λ (done : Squares). let new : State = record state { done = done; cause = None; running = true } in new) (fun_ext (λ i. fun_ext (λ k. start_held board.bottom board.file i k)))
