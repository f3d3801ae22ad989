-- A table of squares that were all read, and the bodies that they were read from.
use Rattle.std.proofs.Common.{◌≡◌, ◌⊎◌, inl, inr, ℕ, zero, suc, ◌+◌, ◌<◌, ◌≤◌, ℤ, pos, ◌+ℤ◌, List, [], ◌∷◌, ◌++◌, length, take, drop, map, set, get_or, Option, None, Some, refl, sym, ◌∙◌, ap, subst, arith, length-append, take-append-drop}
use Rattle.std.specs.Prelude.{Result, Err, Vec}
use Rattle.std.specs.List.{AllByRecursion, slice_get}
use Rattle.std.specs.Option.{option_map, is_some}
use Rattle.std.proofs.lemmas.Bool.{cases_lt, false≢true}
use Rattle.std.proofs.lemmas.Option.{same_Some, slice_get_past}
use Rattle.std.proofs.lemmas.List.{length-map, drop_all, drop-map, drop-drop, drop-set-lt, map-append}
use Rattle.finite_module.specs.Checked.{Checked}
use Rattle.std.proofs.lemmas.List.Elements.{All-from_recursion}
use Rattle.resolution_laws.specs.Resolution.{Module, Content}
use Rattle.resolution_laws.specs.Start.{Entry, entry_at, IsOf, AreOf}
use Rattle.resolution_laws.proofs.StartLaws.{entry_at-other, entry_at-new, IsElsewhere}
use Rattle.f2_matrix.specs.Reduction.{Reduction}
use Rattle.square.specs.Squares.{Placed, bottom_of, over}
use Rattle.square.specs.Tables.{Staircase, row_in, with_quasi, AllRead, IsTable}
use Rattle.square.specs.Keeping.{HoldsTable}
use Rattle.square.proofs.Places.{slice_get-there, content_at-is}
use Rattle.square.proofs.ByDegree.{square_at-above}
use Rattle.std.specs.declared.alloc.Global.{Global}
use Rattle.bidegree.specs.declared.range.TheConstants.{MAX_S}
use Rattle.save_journal.specs.Journals.{contents}
use Rattle.save_journal.specs.Records.{encoded}
use Rattle.save_journal.proofs.Walk.{encoded-append, length-encoded}
use Rattle.save_file.specs.Bodies.{Kept, kept_of, entries, with_quasi_at, IsNextPlace}
use Rattle.save_file.specs.Reading.{square_in, addition_in, with_square_read, with_addition_read, after_body, and_then_kept, kept_from, kept_of_bodies}
use Rattle.save_file.specs.Saved.{kept_of_table, IsDecodedSquare, IsDecodedQuasi}
use Rattle.save_file.specs.Files.{place_of}
use Rattle.save_file.specs.Inside.Taking.{body_refusal, IsStrange}
use Rattle.save_file.specs.declared.fault.DecodeFault.{DecodeFault}
use Rattle.save_file.specs.declared.fault.DecodeFault.TheVariants.{Strange as StrangeBody, Memory as BodyMemory}
use Rattle.save_file.specs.declared.fault.ResumeFault.{ResumeFault}
use Rattle.save_file.specs.declared.fault.ResumeFault.TheVariants.{Strange, Memory as OutOfMemory}
use Rattle.save_file.proofs.Entries.{is_within, entry_there, entries_of_table, none_or_some}
use Rattle.save_file.proofs.Rules.{kept_ok, same_kept, not_kept_ok, read_at, one_more_or_quasi, read_as_addition}
use Rattle.save_file.proofs.Pushing.{kept_given, AllRead-given}

-- ---- the start of a table whose squares were all read

held_there : (table : Staircase) → IsTable table → AllRead table.rows → (s k : ℕ) → k < length (row_in table.rows s) → entry_at table.start s k ≡ option_map (λ (q : Placed). q.content) (slice_get (row_in table.rows s) k)
held_there table h read s k l =
    let there = slice_get-there (row_in table.rows s) k l in
    entry_there table h read s k l ∙ ap (λ (c : Content). Some c) (content_at-is table.rows s k there.0 there.1) ∙ sym (ap (option_map (λ (q : Placed). q.content)) there.1)

held_past : (table : Staircase) → IsTable table → (s k : ℕ) → length (row_in table.rows s) ≤ k → entry_at table.start s k ≡ option_map (λ (q : Placed). q.content) (slice_get (row_in table.rows s) k)
held_past table h s k l =
    none_or_some (entry_at table.start s k) (λ c e. let there = h.started s k c e in omega arith) ∙ sym (ap (option_map (λ (q : Placed). q.content)) (slice_get_past (row_in table.rows s) k l))

-- it has just the table's squares
pub holds_start : (table : Staircase) → IsTable table → AllRead table.rows → HoldsTable table.start table.rows
holds_start table h read s k = elim (cases_lt k (length (row_in table.rows s))) [
  | inl l ↦ held_there table h read s k l
  | inr l ↦ held_past table h s k l
]

-- each of them is the first at its place
abbrev pub IsFirst : List Entry → Entry → Type 0
IsFirst list e = entry_at list e.s e.above ≡ Some e.content

start_is_of : (table : Staircase) → IsTable table → AllRead table.rows → (e : Entry) → IsFirst table.start e → IsOf (over table.resolved) table.start e.s e.above e.content
start_is_of table h read e first =
    let l = h.started e.s e.above e.content first in
    let there = slice_get-there (row_in table.rows e.s) e.above l in
    let is = h.placed e.s e.above there.0 there.1 in
    let held : Some e.content ≡ Some there.0.content = sym first ∙ held_there table h read e.s e.above l ∙ ap (option_map (λ (q : Placed). q.content)) there.1 in
    subst (IsOf (over table.resolved) table.start e.s e.above) (sym (same_Some e.content there.0.content held)) is.is_of

are_of_list : (table : Staircase) → IsTable table → AllRead table.rows → (list : List Entry) → AllByRecursion (IsFirst table.start) list → AllByRecursion (λ (e : Entry). IsOf (over table.resolved) table.start e.s e.above e.content) list
are_of_list table h read [] first = tt
are_of_list table h read (e ∷ list) first = (start_is_of table h read e first.0, are_of_list table h read list first.1)

-- no place comes twice
abbrev pub ArePlain : List Entry → Type 0
ArePlain list = AllByRecursion (IsFirst list) list

-- so each stands there as it was read
pub start_are_of : (table : Staircase) → IsTable table → AllRead table.rows → ArePlain table.start → AreOf (over table.resolved) table.start table.start
start_are_of table h read plain = All-from_recursion (λ (e : Entry). IsOf (over table.resolved) table.start e.s e.above e.content) table.start (are_of_list table h read table.start plain)

-- ---- bodies, one after the other

-- what is still to be read of the bodies gives what all of them give
one_read : (m : Module) (all : Result (List Kept) ℕ) (before : List Kept) (number : ℕ) (body : List ℕ) (rest : List (List ℕ)) (after : List Kept) → kept_from m before number (body ∷ rest) ≡ all → after_body m before body ≡ Some after → kept_from m after (suc number) rest ≡ all
one_read m all before number body rest after h here = sym (ap (λ o. and_then_kept o number (λ x. kept_from m x (suc number) rest)) here) ∙ h

one_strange : (m : Module) (all : Result (List Kept) ℕ) (before : List Kept) (number : ℕ) (body : List ℕ) (rest : List (List ℕ)) → kept_from m before number (body ∷ rest) ≡ all → after_body m before body ≡ None → all ≡ Err number
one_strange m all before number body rest h none = sym h ∙ ap (λ o. and_then_kept o number (λ x. kept_from m x (suc number) rest)) none

-- ---- no place comes twice

first_still : (list : List Entry) (e x : Entry) → entry_at list e.s e.above ≡ None → IsFirst list x → IsFirst (list ++ e ∷ []) x
first_still list e x absent first =
    let off : IsElsewhere e x.s x.above = λ p q. let none : entry_at list x.s x.above ≡ None = ap (λ n. entry_at list n x.above) (sym p) ∙ ap (entry_at list e.s) (sym q) ∙ absent in false≢true (ap is_some (sym none ∙ first)) in
    entry_at-other list e x.s x.above off ∙ first

plain_still : (list : List Entry) (e : Entry) → entry_at list e.s e.above ≡ None → (part : List Entry) → AllByRecursion (IsFirst list) part → AllByRecursion (IsFirst (list ++ e ∷ [])) (part ++ e ∷ [])
plain_still list e absent [] first = (entry_at-new list e absent, tt)
plain_still list e absent (x ∷ part) first = (first_still list e x absent first.0, plain_still list e absent part first.1)

plain_after : (m : Module) (kept new : List Kept) (body : List ℕ) → ArePlain (entries kept) → after_body m kept body ≡ Some new → ArePlain (entries new)
plain_after m kept new body h e = elim (one_more_or_quasi m kept new body e) [
  | inr same ↦ subst ArePlain (sym same) h
  | inl more ↦
      let k = more.0 in
      let r = read_at m (entries kept) body k more.1 in
      let place : IsNextPlace (entries kept) k.entry.s k.entry.above = subst (λ (y : Kept). IsNextPlace (entries kept) y.entry.s y.entry.above) (sym r.square) r.rules.place in
      let is : entries new ≡ entries kept ++ k.entry ∷ [] = ap entries more.2 ∙ map-append (λ (x : Kept). x.entry) kept (k ∷ []) in
      subst ArePlain (sym is) (plain_still (entries kept) k.entry place.absent (entries kept) h)
]

plain_step : (m : Module) (kept : List Kept) (body : List ℕ) (number : ℕ) (all : List Kept) (rest : List Kept → Result (List Kept) ℕ) → ArePlain (entries kept) → ((new : List Kept) → ArePlain (entries new) → rest new ≡ kept_ok all → ArePlain (entries all))
    → (o : Option (List Kept)) → after_body m kept body ≡ o → and_then_kept o number rest ≡ kept_ok all → ArePlain (entries all)
plain_step m kept body number all rest h next None same q = absurd (not_kept_ok number all q)
plain_step m kept body number all rest h next (Some new) same q = next new (plain_after m kept new body h same) q

plain_from : (m : Module) (bodies : List (List ℕ)) (kept : List Kept) (number : ℕ) (all : List Kept) → ArePlain (entries kept) → kept_from m kept number bodies ≡ kept_ok all → ArePlain (entries all)
plain_from m [] kept number all h e = subst (λ (l : List Kept). ArePlain (entries l)) (same_kept kept all e) h
plain_from m (body ∷ bodies) kept number all h e =
    plain_step m kept body number all (λ more. kept_from m more (suc number) bodies) h (λ new g q. plain_from m bodies new (suc number) all g q) (after_body m kept body) refl e

-- the squares of bodies stand at places of their own
pub squares_plain : (m : Module) (bodies : List (List ℕ)) (kept : List Kept) → kept_of_bodies m bodies ≡ kept_ok kept → ArePlain (entries kept)
squares_plain m bodies kept e = plain_from m bodies [] 0 kept tt e

-- the bodies from the place of this one on
pub body_there : (bodies : List (Vec ℕ Global)) (i : ℕ) (v : Vec ℕ Global) → i < length bodies → v ≡ get_or bodies i v → drop i (contents bodies) ≡ v.items ∷ drop (suc i) (contents bodies)
body_there [] i v l e = absurd (omega arith)
body_there (x ∷ bodies) zero v l e = ap (λ (y : Vec ℕ Global). y.items ∷ contents bodies) (sym e)
body_there (x ∷ bodies) (suc i) v l e = body_there bodies i v (omega arith) e

-- ---- one body after the other

-- what is behind a body stays where the body is let go
behind_it : (bodies : List (Vec ℕ Global)) (i : ℕ) (w : Vec ℕ Global) → drop (i + 1) (contents (set bodies i w)) ≡ drop (i + 1) (contents bodies)
behind_it bodies i w =
    let items = λ (v : Vec ℕ Global). v.items in
    drop-map items (i + 1) (set bodies i w) ∙ ap (map items) (drop-set-lt (i + 1) bodies i w (omega arith)) ∙ sym (drop-map items (i + 1) bodies)

-- a body was read, and another stands in its place
pub goes_on : (m : Checked) (resolved : Checked) (all : Result (List Kept) ℕ) (before after : List Kept) (i : ℕ) (bodies : List (Vec ℕ Global)) (v w : Vec ℕ Global) (body : List ℕ) → resolved ≡ m → i < length bodies → v ≡ get_or bodies i v → body ≡ v.items
    → after_body (over resolved) before body ≡ Some after → kept_from (over m) before i (drop i (contents bodies)) ≡ all → kept_from (over m) after (i + 1) (drop (i + 1) (contents (set bodies i w))) ≡ all
goes_on m resolved all before after i bodies v w body same l at is read h =
    let here : after_body (over m) before v.items ≡ Some after = ap (after_body (over m) before) (sym is) ∙ ap (λ (x : Checked). after_body (over x) before body) (sym same) ∙ read in
    let next : suc i ≡ i + 1 = omega arith in
    ap (kept_from (over m) after (i + 1)) (behind_it bodies i w)
    ∙ subst (λ n. kept_from (over m) after n (drop n (contents bodies)) ≡ all) next
    (one_read (over m) all before i v.items (drop (suc i) (contents bodies)) after (sym (ap (kept_from (over m) before i) (body_there bodies i v l at)) ∙ h) here)

-- a body was none
pub stops_at : (m : Checked) (resolved : Checked) (all : Result (List Kept) ℕ) (before : List Kept) (i n : ℕ) (bodies : List (Vec ℕ Global)) (v : Vec ℕ Global) (body : List ℕ) → resolved ≡ m → i < length bodies → v ≡ get_or bodies i v → body ≡ v.items
    → (n ≡ i) × (after_body (over resolved) before body ≡ None) → kept_from (over m) before i (drop i (contents bodies)) ≡ all → all ≡ Err n
stops_at m resolved all before i n bodies v body same l at is read h =
    let here : after_body (over m) before v.items ≡ None = ap (after_body (over m) before) (sym is) ∙ ap (λ (x : Checked). after_body (over x) before body) (sym same) ∙ read.1 in
    one_strange (over m) all before i v.items (drop (suc i) (contents bodies)) (sym (ap (kept_from (over m) before i) (body_there bodies i v l at)) ∙ h) here ∙ ap (λ k. Err k) (sym read.0)

-- all were read
pub ends_with : (m : Checked) (all : Result (List Kept) ℕ) (before : List Kept) (i : ℕ) (bodies : List (Vec ℕ Global)) → length bodies ≤ i → kept_from (over m) before i (drop i (contents bodies)) ≡ all → all ≡ kept_ok before
ends_with m all before i bodies l h =
    let len = length-map bodies (λ (v : Vec ℕ Global). v.items) in
    sym h ∙ ap (kept_from (over m) before i) (drop_all i (contents bodies) (omega arith))

-- ---- the places of records

pub place_within : (n : ℕ) (bodies : List (List ℕ)) → place_of n bodies ≤ 40 + length (encoded bodies)
place_within n bodies =
    let parts : length (encoded bodies) ≡ length (encoded (take n bodies) ++ encoded (drop n bodies)) = ap (λ (l : List (List ℕ)). length (encoded l)) (sym (take-append-drop n bodies)) ∙ ap length (encoded-append (take n bodies) (drop n bodies)) in
    omega (arith, parts, length-append (encoded (take n bodies)) (encoded (drop n bodies)))

place_behind : (n : ℕ) (bodies : List (List ℕ)) (body : List ℕ) (rest : List (List ℕ)) → drop n bodies ≡ body ∷ rest → place_of (suc n) bodies ≡ place_of n bodies + (41 + length body)
place_behind zero [] body rest e = absurd (cc)
place_behind zero (first ∷ bodies) body rest e =
    let same : first ≡ body = cc in
    omega (arith, ap length same, length-encoded first [])
place_behind (suc n) [] body rest e = absurd (cc)
place_behind (suc n) (first ∷ bodies) body rest e =
    omega (arith, place_behind n bodies body rest e, length-encoded first (take (suc n) bodies), length-encoded first (take n bodies))

-- a record more was read: the place behind it
pub place_on : (all : List (List ℕ)) (i place len : ℕ) (bodies : List (Vec ℕ Global)) (v : Vec ℕ Global) → i < length bodies → v ≡ get_or bodies i v → len ≡ length v.items → drop i (contents bodies) ≡ drop i all → place ≡ place_of i all → place + (41 + len) ≡ place_of (i + 1) all
place_on all i place len bodies v l at is same here =
    let next : suc i ≡ i + 1 = omega arith in
    let step = place_behind i all v.items (drop (suc i) (contents bodies)) (sym same ∙ body_there bodies i v l at) in
    subst (λ n. place + (41 + len) ≡ place_of n all) next (omega (arith, step, here, is))

pub rest_on : (all : List (List ℕ)) (i : ℕ) (bodies : List (Vec ℕ Global)) (w : Vec ℕ Global) → drop i (contents bodies) ≡ drop i all → drop (i + 1) (contents (set bodies i w)) ≡ drop (i + 1) all
rest_on all i bodies w same =
    behind_it bodies i w ∙ sym (drop-drop 1 i (contents bodies)) ∙ ap (drop 1) same ∙ drop-drop 1 i all

-- why it was not
pub refused_at : (m : Module) (kept : List Kept) (bodies : List (List ℕ)) (place : ℕ) (fault : DecodeFault) (e : ResumeFault) → e ≡ body_refusal place fault → ((n : ℕ) → fault ≡ StrangeBody n → (kept_from m kept 0 bodies ≡ Err n) × (place ≡ place_of n bodies)) → (e ≡ OutOfMemory) ⊎ IsStrange m kept bodies e
refused_at m kept bodies place (StrangeBody n) e is told = let at = told n refl in inr (n, is ∙ ap (λ p. Strange n p) at.1, at.0)
refused_at m kept bodies place BodyMemory e is told = inl is

-- ---- what a body that was read makes of a table

-- a square stands behind those that were there
pub square_behind : (table new : Staircase) (bytes : List ℕ) (q : Placed) → IsDecodedSquare table bytes q → kept_of_table new ≡ kept_of_table table ++ kept_of q ∷ [] → after_body (over table.resolved) (kept_of_table table) bytes ≡ Some (kept_of_table new)
square_behind table new bytes q d more =
    let m = over table.resolved in
    let kept = kept_of_table table in
    let read : square_in m (entries kept) bytes ≡ Some (kept_of q) = ap (λ (l : List Entry). square_in m l bytes) (entries_of_table table) ∙ d.square in
    ap (λ o. with_square_read kept o (with_addition_read kept (addition_in m kept bytes))) read ∙ ap (λ (l : List Kept). Some l) (sym more)

-- a square has its quasi-inverse
pub quasi_behind : (table new : Staircase) (bytes : List ℕ) (s : ℕ) (t : ℤ) (r : Reduction) → IsDecodedQuasi table bytes s t r → ((k : ℕ) → t ≡ bottom_of table.resolved +ℤ pos k → new.rows ≡ with_quasi table.rows s k r) → new.start ≡ table.start → after_body (over table.resolved) (kept_of_table table) bytes ≡ Some (kept_of_table new)
quasi_behind table new bytes s t r d rows start =
    let m = over table.resolved in
    let kept = kept_of_table table in
    let a = d.addition in
    let q = d.lacks.square in
    let there : slice_get (row_in table.rows s) a.above ≡ Some q = sym (square_at-above table s a.above t d.degree) ∙ d.lacks.there in
    let given = kept_given table new s a.above r (is_within (row_in table.rows s) a.above q there) (rows a.above d.degree) start in
    read_as_addition m kept bytes a d.read
    ∙ ap (λ x. Some (with_quasi_at kept a.s a.above x)) (sym d.reduction)
    ∙ ap (λ i. Some (with_quasi_at kept i a.above r)) d.row
    ∙ ap (λ (l : List Kept). Some l) (sym given)

-- bytes that are neither
pub neither : (table : Staircase) (bytes : List ℕ) → square_in (over table.resolved) table.start bytes ≡ None → addition_in (over table.resolved) (kept_of_table table) bytes ≡ None → after_body (over table.resolved) (kept_of_table table) bytes ≡ None
neither table bytes no_square no_quasi =
    let m = over table.resolved in
    let kept = kept_of_table table in
    let none : square_in m (entries kept) bytes ≡ None = ap (λ (l : List Entry). square_in m l bytes) (entries_of_table table) ∙ no_square in
    ap (λ o. with_square_read kept o (with_addition_read kept (addition_in m kept bytes))) none ∙ ap (with_addition_read kept) no_quasi

-- a square that was read is within the limits of a range
pub row_read : (table : Staircase) (bytes : List ℕ) (q : Placed) → IsDecodedSquare table bytes q → q.s ≤ MAX_S
row_read table bytes q d =
    let r = read_at (over table.resolved) table.start bytes (kept_of q) d.square in
    subst (λ (k : Kept). k.entry.s ≤ MAX_S) (sym r.square) r.rules.row

-- a table where a square has its quasi-inverse has been read as before
pub all_read_still : (table : Staircase) (new : List (List Placed)) (bytes : List ℕ) (s : ℕ) (t : ℤ) (r : Reduction) → IsDecodedQuasi table bytes s t r → ((k : ℕ) → t ≡ bottom_of table.resolved +ℤ pos k → new ≡ with_quasi table.rows s k r) → AllRead table.rows → AllRead new
all_read_still table new bytes s t r d rows read = AllRead-given table.rows new s d.addition.above r (rows d.addition.above d.degree) read
