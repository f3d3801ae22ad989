-- A save file with one record more.
use Rattle.std.proofs.Common.{◌≡◌, ◌⊎◌, ◌↔◌, inl, inr, ⊎_elim, ℕ, suc, ◌+◌, ◌≤◌, ℤ, Bool, true, false, nat_eq, if◌then◌else◌, List, [], ◌∷◌, ◌++◌, Option, None, Some, refl, sym, ◌∙◌, ap, subst, arith, length, length-append}
use Rattle.std.specs.Prelude.{◌&&◌, IsSome, IfSome, Result, Ok}
use Rattle.std.specs.List.{All}
use Rattle.std.specs.Option.{option_map}
use Rattle.std.proofs.lemmas.List.{append-nil, append_assoc, append_cancel_left, take_at, take_all, map-append}
use Rattle.std.proofs.lemmas.Option.{none-some}
use Rattle.std.proofs.lemmas.List.Elements.{All-nil, All-cons, All-append, All-weaker, All-map}
use Rattle.finite_module.specs.Checked.{Checked}
use Rattle.f2_matrix.specs.Reduction.{Reduction}
use Rattle.resolution_laws.specs.Resolution.{Module}
use Rattle.resolution_laws.specs.Start.{Entry, entry_at, IsOf, AreOf}
use Rattle.square.specs.Squares.{Placed, IsSquare, KeptWhereMade, entry_of, over}
use Rattle.square.specs.Tables.{Staircase}
use Rattle.square.specs.Keeping.{IsNextIn, HoldsTable, HasFirst}
use Rattle.square.proofs.Retaining.{retained_entries}
use Rattle.edge.specs.Disk.{LeavesOnly, HavePast, WasImageSince, IsTold, AreTold}
use Rattle.save_journal.specs.Records.{Records, records_of, and_last}
use Rattle.save_journal.specs.Journals.{IsBeforeOrAfter, ComeFromEarlier}
use Rattle.save_journal.proofs.Retaining.{HasFirst as HasFirstRecords, more_first}
use Rattle.save_file.specs.Bodies.{Kept, kept_of, entries, is_at, kept_at, given_quasi, with_quasi_at}
use Rattle.save_file.specs.Reading.{square_in, addition_in, with_square_read, reduction_of_square, with_addition_read, after_body, and_then_kept, kept_from, kept_of_bodies, squares_alone, squares_of}
use Rattle.save_file.specs.Saved.{IsReadAs, IsReadAsQuasi}
use Rattle.save_file.specs.Files.{of_records, digest_of, squares_in, first_records, list_in, first_squares, kept_list, kept_by, kept_in_file, first_kept}
use Rattle.save_file.specs.Saving.{HasSquares, IsKeptBare}
use Rattle.save_file.specs.Inside.SavingLaws.{first_are_all, all_in}
use Rattle.save_file.proofs.Rules.{ok, kept_ok, same_kept, not_kept_ok, squares_closed, entries-with_quasi_at, read_as_addition}
use Rattle.save_file.proofs.Entries.{some_is}
use Rattle.save_file.proofs.Keeps.{list_is}

-- ---- one body more

last_step : (o : Option (List Kept)) (number : ℕ) (rest more : List Kept → Result (List Kept) ℕ) (kept new : List Kept) → ((x : List Kept) → rest x ≡ kept_ok kept → more x ≡ kept_ok new) → and_then_kept o number rest ≡ kept_ok kept → and_then_kept o number more ≡ kept_ok new
last_step None number rest more kept new next h = absurd (not_kept_ok number kept h)
last_step (Some x) number rest more kept new next h = next x h

last_from : (m : Module) (bodies : List (List ℕ)) (before : List Kept) (number : ℕ) (kept new : List Kept) (body : List ℕ) → kept_from m before number bodies ≡ kept_ok kept → after_body m kept body ≡ Some new → kept_from m before number (bodies ++ body ∷ []) ≡ kept_ok new
last_from m [] before number kept new body h here =
    let same = same_kept before kept h in
    let read : after_body m before body ≡ Some new = ap (λ k. after_body m k body) same ∙ here in
    ap (λ o. and_then_kept o number (λ x. kept_from m x (suc number) [])) read
last_from m (b ∷ bodies) before number kept new body h here =
    last_step (after_body m before b) number (λ x. kept_from m x (suc number) bodies) (λ x. kept_from m x (suc number) (bodies ++ body ∷ [])) kept new
    (λ x q. last_from m bodies x (suc number) kept new body q here) h

-- ---- what a file keeps

pub kept_first : (m : Checked) (start : List Entry) (n : ℕ) (file : List ℕ) (h : HasSquares m start n file) → first_kept m n file ≡ h.kept
kept_first m start n file h =
    let few = h.counted in
    ap (λ (r : Records). kept_by (over m) (first_records n r)) h.records ∙ ap (λ (l : List (List ℕ)). kept_by (over m) (Ok l)) (take_all n h.bodies (omega arith)) ∙ ap kept_list h.kept_are

pub kept_whole : (m : Checked) (start : List Entry) (n : ℕ) (file : List ℕ) (h : HasSquares m start n file) → kept_in_file m file ≡ h.kept
kept_whole m start n file h = ap (λ (r : Records). kept_by (over m) r) h.records ∙ ap kept_list h.kept_are

pub all_kept : (m : Checked) (start : List Entry) (n : ℕ) (file : List ℕ) → HasSquares m start n file → kept_in_file m file ≡ first_kept m n file
all_kept m start n file h = kept_whole m start n file h ∙ sym (kept_first m start n file h)

-- the squares that are counted begin with those of the start
begun : (m : Checked) (start : List Entry) (n : ℕ) (file : List ℕ) (h : HasSquares m start n file) → h.list ≡ start ++ entries h.made
begun m start n file h = list_is m start n file h ∙ ap entries h.parts ∙ map-append (λ (k : Kept). k.entry) h.read h.made ∙ ap (λ (l : List Entry). l ++ entries h.made) h.read_are

-- and those behind these are those that were made
pub made_are : (m : Checked) (start given : List Entry) (n : ℕ) (file : List ℕ) (h : HasSquares m start n file) → first_squares m n file ≡ start ++ given → entries h.made ≡ given
made_are m start given n file h is = append_cancel_left start (entries h.made) given (sym (first_are_all m start n file h ∙ begun m start n file h) ∙ is)

-- ---- what was made has its quasi-inverse

abbrev pub IsWhole : Kept → Type 0
IsWhole k = IsSome k.quasi

-- where a list has no square, its first ones have none
absent_first : (xs ys : List Entry) (s k : ℕ) → entry_at (xs ++ ys) s k ≡ None → entry_at xs s k ≡ None
absent_first [] ys s k none = refl
absent_first (e ∷ xs) ys s k none = by_test (nat_eq e.s s && nat_eq e.above k) (absent_first xs ys s k) none
  where
    by_test : (here : Bool) → (entry_at (xs ++ ys) s k ≡ None → entry_at xs s k ≡ None) → (if here then Some e.content else entry_at (xs ++ ys) s k) ≡ None → (if here then Some e.content else entry_at xs s k) ≡ None
    by_test true rest h = absurd (none-some e.content (sym h))
    by_test false rest h = rest h

-- a square that the start has not was made
made_whole : (q : Placed) (start more : List Entry) → q.start ≡ start → entry_at (start ++ more) q.s q.above ≡ None → KeptWhereMade q → IsWhole (kept_of q)
made_whole q start more same absent where_made =
    where_made (λ read.
    let there = some_is (entry_at q.start q.s q.above) read in
    let none : entry_at q.start q.s q.above ≡ None = ap (λ (l : List Entry). entry_at l q.s q.above) same ∙ absent_first start more q.s q.above absent in
    none-some there.0 (sym none ∙ there.1))

-- it has it still where one of them gets its own
whole_still : (s k : ℕ) (r : Reduction) (made : List Kept) → All IsWhole made → All IsWhole (with_quasi_at made s k r)
whole_still s k r made h = All-map IsWhole (given_quasi s k r) made (All-weaker IsWhole (λ x. IsWhole (given_quasi s k r x)) (λ x is. by_test x is (is_at x.entry s k)) made h)
  where
    by_test : (x : Kept) → IsWhole x → (b : Bool) → IsWhole (if b then record { entry = x.entry; quasi = Some r } else x)
    by_test x is true = refl
    by_test x is false = is

-- ---- a file with squares, and a body that is read behind them

-- With the body the file has one record more: a square, or a quasi-inverse for one of its squares. `more` are the squares that it
-- adds, one or none, and `next` says what is kept then.
pub record Adds (m : Checked) (start : List Entry) (n : ℕ) (file body : List ℕ) (more : List Entry) (next : List Kept → List Kept) : Type 0 where
  pub has : HasSquares m start n file
  pub read : after_body (over m) has.kept body ≡ Some (next has.kept)
  pub entries_are : entries (next has.kept) ≡ has.list ++ more
  pub are_of : AreOf (over m) start more
  pub next_read : List Kept
  pub next_made : List Kept
  pub parts : next has.kept ≡ next_read ++ next_made
  pub read_are : entries next_read ≡ start
  pub whole : All IsWhole next_made

abbrev pub and_square : Placed → List Kept → List Kept
and_square q kept = kept ++ kept_of q ∷ []

pub adds : (q : Placed) (m : Checked) (start : List Entry) (n : ℕ) (file body : List ℕ) → HasSquares m start n file → IsReadAs q body → IsSquare q → KeptWhereMade q → q.resolved ≡ m → q.start ≡ start → IsNextIn (first_squares m n file) q → Adds m start n file body (entry_of q ∷ []) (and_square q)
adds q m start n file body h reads square where_made resolved same next =
    let all = first_are_all m start n file h in
    let are : AreOf (over q.resolved) q.start h.list = subst (λ (x : Checked). AreOf (over x) q.start h.list) (sym resolved) (subst (λ (x : List Entry). AreOf (over m) x h.list) (sym same) h.are_of) in
    let closed = squares_closed (over m) h.bodies h.list h.squares in
    let there = reads h.list are closed (subst (λ (x : List Entry). IsNextIn x q) all next) in
    let read : square_in (over m) (entries h.kept) body ≡ Some (kept_of q) = subst (λ (x : List Entry). square_in (over m) x body ≡ Some (kept_of q)) (list_is m start n file h) (subst (λ (x : Checked). square_in (over x) h.list body ≡ Some (kept_of q)) resolved there) in
    let absent : entry_at (start ++ entries h.made) q.s q.above ≡ None = ap (λ (l : List Entry). entry_at l q.s q.above) (sym (all ∙ begun m start n file h)) ∙ next.absent in
    let here : IsOf (over m) start q.s q.above q.content = subst (λ (x : Checked). IsOf (over x) start q.s q.above q.content) resolved (subst (λ (x : List Entry). IsOf (over q.resolved) x q.s q.above q.content) same square.is_of) in
    record {
      has = h;
      read = ap (λ o. with_square_read h.kept o (with_addition_read h.kept (addition_in (over m) h.kept body))) read;
      entries_are = map-append (λ (k : Kept). k.entry) h.kept (kept_of q ∷ []) ∙ ap (λ (l : List Entry). l ++ entry_of q ∷ []) (sym (list_is m start n file h));
      are_of = All-cons (λ (x : Entry). IsOf (over m) start x.s x.above x.content) (entry_of q) [] here (All-nil (λ (x : Entry). IsOf (over m) start x.s x.above x.content));
      next_read = h.read;
      next_made = h.made ++ kept_of q ∷ [];
      parts = ap (λ (l : List Kept). l ++ kept_of q ∷ []) h.parts ∙ append_assoc h.read h.made (kept_of q ∷ []);
      read_are = h.read_are;
      whole = All-append IsWhole h.made (kept_of q ∷ []) h.whole (All-cons IsWhole (kept_of q) [] (made_whole q start (entries h.made) same absent where_made) (All-nil IsWhole));
    }

pub adds_quasi : (table : Staircase) (s : ℕ) (t : ℤ) (m : Checked) (start : List Entry) (n : ℕ) (file body : List ℕ) → HasSquares m start n file → (r : IsReadAsQuasi table s t body) → table.resolved ≡ m → HoldsTable (first_squares m n file) table.rows → IsKeptBare (first_kept m n file) s r.above → Adds m start n file body [] (λ kept. with_quasi_at kept s r.above r.quasi)
adds_quasi table s t m start n file body h r resolved holds bare =
    let list : first_squares m n file ≡ entries h.kept = first_are_all m start n file h ∙ list_is m start n file h in
    let kept = kept_first m start n file h in
    let there : kept_at h.kept s r.above ≡ Some bare.square = ap (λ (l : List Kept). kept_at l s r.above) (sym kept) ∙ bare.there in
    let found = r.read h.kept bare.square (subst (λ (l : List Entry). HoldsTable l table.rows) list holds) there bare.bare in
    let a = r.addition in
    let read : addition_in (over m) h.kept body ≡ Some a = ap (λ (x : Checked). addition_in (over x) h.kept body) (sym resolved) ∙ found.0 in
    let reduction : reduction_of_square a (kept_at h.kept a.s a.above) ≡ r.quasi = ap (λ i. reduction_of_square a (kept_at h.kept i a.above)) r.place.0 ∙ ap (λ k. reduction_of_square a (kept_at h.kept s k)) r.place.1 ∙ ap (reduction_of_square a) there ∙ found.1 in
    record {
      has = h;
      read =
          read_as_addition (over m) h.kept body a read
          ∙ ap (λ x. Some (with_quasi_at h.kept a.s a.above x)) reduction
          ∙ ap (λ i. Some (with_quasi_at h.kept i a.above r.quasi)) r.place.0
          ∙ ap (λ k. Some (with_quasi_at h.kept s k r.quasi)) r.place.1;
      entries_are = entries-with_quasi_at h.kept s r.above r.quasi ∙ sym (list_is m start n file h) ∙ sym (append-nil h.list);
      are_of = All-nil (λ (x : Entry). IsOf (over m) start x.s x.above x.content);
      next_read = with_quasi_at h.read s r.above r.quasi;
      next_made = with_quasi_at h.made s r.above r.quasi;
      parts = ap (λ (l : List Kept). with_quasi_at l s r.above r.quasi) h.parts ∙ map-append (given_quasi s r.above r.quasi) h.read h.made;
      read_are = entries-with_quasi_at h.read s r.above r.quasi ∙ h.read_are;
      whole = whole_still s r.above r.quasi h.made h.whole;
    }

module _ (m : Checked) (start : List Entry) (n : ℕ) (file body : List ℕ) (more : List Entry) (next : List Kept → List Kept) (a : Adds m start n file body more next) where
  -- the records after it
  more_records : (c : List ℕ) → records_of (digest_of m.plain) c ≡ and_last (records_of (digest_of m.plain) file) body → records_of (digest_of m.plain) c ≡ Ok (a.has.bodies ++ body ∷ [])
  more_records c is = is ∙ ap (λ (r : Records). and_last r body) a.has.records

  more_kept : kept_of_bodies (over m) (a.has.bodies ++ body ∷ []) ≡ kept_ok (next a.has.kept)
  more_kept = last_from (over m) a.has.bodies [] 0 a.has.kept (next a.has.kept) body a.has.kept_are a.read

  more_squares : squares_of (over m) (a.has.bodies ++ body ∷ []) ≡ ok (a.has.list ++ more)
  more_squares = ap squares_alone more_kept ∙ ap (λ (l : List Entry). ok l) a.entries_are

  has_more : (c : List ℕ) → records_of (digest_of m.plain) c ≡ and_last (records_of (digest_of m.plain) file) body → HasSquares m start (n + 1) c
  has_more c is = record {
    bodies = a.has.bodies ++ body ∷ [];
    list = a.has.list ++ more;
    records = more_records c is;
    counted = let few = a.has.counted in let len = length-append a.has.bodies (body ∷ []) in omega arith;
    squares = more_squares;
    kept = next a.has.kept;
    kept_are = more_kept;
    are_of = All-append (λ (x : Entry). IsOf (over m) start x.s x.above x.content) a.has.list more a.has.are_of a.are_of;
    read = a.next_read;
    made = a.next_made;
    parts = a.parts;
    read_are = a.read_are;
    whole = a.whole;
  }

  first_more : (c : List ℕ) → records_of (digest_of m.plain) c ≡ and_last (records_of (digest_of m.plain) file) body → first_squares m (n + 1) c ≡ first_squares m n file ++ more
  unfolding has_more
  first_more c is = first_are_all m start (n + 1) c (has_more c is) ∙ ap (λ (l : List Entry). l ++ more) (sym (first_are_all m start n file a.has))

  kept_more : (c : List ℕ) → records_of (digest_of m.plain) c ≡ and_last (records_of (digest_of m.plain) file) body → first_kept m (n + 1) c ≡ next (first_kept m n file)
  unfolding has_more
  kept_more c is = kept_first m start (n + 1) c (has_more c is) ∙ ap next (sym (kept_first m start n file a.has))

  has_same : (c : List ℕ) → records_of (digest_of m.plain) c ≡ records_of (digest_of m.plain) file → HasSquares m start n c
  has_same c is = record { bodies = a.has.bodies; list = a.has.list; records = is ∙ a.has.records; counted = a.has.counted; squares = a.has.squares; kept = a.has.kept; kept_are = a.has.kept_are; are_of = a.has.are_of; read = a.has.read; made = a.has.made; parts = a.has.parts; read_are = a.has.read_are; whole = a.has.whole }

  -- the first so many stay
  first_bodies : (c : List ℕ) → IsBeforeOrAfter (digest_of m.plain) (records_of (digest_of m.plain) file) body c → first_records n (records_of (digest_of m.plain) c) ≡ first_records n (records_of (digest_of m.plain) file)
  first_bodies c (inl is) = ap (first_records n) is
  first_bodies c (inr is) =
      let few = a.has.counted in
      ap (first_records n) (more_records c is)
      ∙ ap (λ (l : List (List ℕ)). Ok l) (take_at a.has.bodies (body ∷ []) n few ∙ sym (take_all n a.has.bodies (omega arith)))
      ∙ sym (ap (first_records n) a.has.records)

  first_stay : (c : List ℕ) → IsBeforeOrAfter (digest_of m.plain) (records_of (digest_of m.plain) file) body c → first_squares m n c ≡ first_squares m n file
  first_stay c ends = ap (λ (r : Records). list_in (of_records (over m) r)) (first_bodies c ends)

  kept_stay : (c : List ℕ) → IsBeforeOrAfter (digest_of m.plain) (records_of (digest_of m.plain) file) body c → first_kept m n c ≡ first_kept m n file
  kept_stay c ends = ap (λ (r : Records). kept_by (over m) r) (first_bodies c ends)

  -- the squares that an image stands for
  image_before : (c : List ℕ) → records_of (digest_of m.plain) c ≡ records_of (digest_of m.plain) file → squares_in m c ≡ Some (first_squares m n file)
  image_before c is = all_in m start n c (has_same c is) ∙ ap (λ (l : List Entry). Some l) (first_stay c (inl is))

  image_after : (c : List ℕ) → records_of (digest_of m.plain) c ≡ and_last (records_of (digest_of m.plain) file) body → squares_in m c ≡ Some (first_squares m n file ++ more)
  image_after c is = all_in m start (n + 1) c (has_more c is) ∙ ap (λ (l : List Entry). Some l) (first_more c is)

  image_between : (c : List ℕ) → IsBeforeOrAfter (digest_of m.plain) (records_of (digest_of m.plain) file) body c → (squares_in m c ≡ Some (first_squares m n file)) ⊎ (squares_in m c ≡ Some (first_squares m n file ++ more))
  image_between c (inl is) = inl (image_before c is)
  image_between c (inr is) = inr (image_after c is)

  -- what it keeps
  kept_before : (c : List ℕ) → records_of (digest_of m.plain) c ≡ records_of (digest_of m.plain) file → kept_in_file m c ≡ first_kept m n file
  unfolding has_same
  kept_before c is = kept_whole m start n c (has_same c is) ∙ sym (kept_first m start n file a.has)

  kept_after : (c : List ℕ) → records_of (digest_of m.plain) c ≡ and_last (records_of (digest_of m.plain) file) body → kept_in_file m c ≡ next (first_kept m n file)
  unfolding has_more
  kept_after c is = kept_whole m start (n + 1) c (has_more c is) ∙ ap next (sym (kept_first m start n file a.has))

  kept_between : (c : List ℕ) → IsBeforeOrAfter (digest_of m.plain) (records_of (digest_of m.plain) file) body c → (kept_in_file m c ≡ first_kept m n file) ⊎ (kept_in_file m c ≡ next (first_kept m n file))
  kept_between c (inl is) = inl (kept_before c is)
  kept_between c (inr is) = inr (kept_after c is)

-- ---- moments of a disk, seen as squares

-- what is left at a moment of a disk stands for the image
abbrev pub WasLeftThere : (m : Checked) → (List ℕ → Type 0) → Option (List Entry) → Type 0
WasLeftThere m images image = (c : List ℕ) × images c × (image ≡ squares_in m c)

-- from old to new no square is away again
abbrev pub RetainsSquares : {D : Type 0} (moment : D → ℕ) (at : D → ℕ → List ℕ → Type 0) (old new : D) (m : Checked) → Type 0
RetainsSquares moment at old new m = (first : List Entry) (u v : ℕ) → moment old ≤ u → u ≤ v → v ≤ moment new → ((image : Option (List Entry)) → WasLeftThere m (at new u) image → HasFirst first image) → (image : Option (List Entry)) → WasLeftThere m (at new v) image → HasFirst first image

pub past_images : {D : Type 0} (moment : D → ℕ) (at : D → ℕ → List ℕ → Type 0) (old new : D) (m : Checked) → HavePast moment at old new → (t : ℕ) (image : Option (List Entry)) → t ≤ moment old → WasLeftThere m (at new t) image ↔ WasLeftThere m (at old t) image
past_images moment at old new m past t image le = (
  λ left. (left.0, (past t left.0 le).0 left.1, left.2),
  λ left. (left.0, (past t left.0 le).1 left.1, left.2),
)

-- ---- where the disk tells

module _ (m : Checked) (start : List Entry) (n : ℕ) (digest body : List ℕ) (named : digest ≡ digest_of m.plain) (more : List Entry) (next : List Kept → List Kept) (Ready : List ℕ → Type 0) (added : (file : List ℕ) → HasSquares m start n file → Ready file → Adds m start n file body more next) where
  abbrev Ends : List ℕ → List ℕ → Type 0
  Ends file c = IsBeforeOrAfter digest (records_of digest file) body c

  ends : (file c : List ℕ) → Ends file c → IsBeforeOrAfter (digest_of m.plain) (records_of (digest_of m.plain) file) body c
  ends file c h = subst (λ d. IsBeforeOrAfter d (records_of d file) body c) named h

  abbrev IsLast : List ℕ → List ℕ → Type 0
  IsLast file c = records_of digest c ≡ and_last (records_of digest file) body

  lasts : (file c : List ℕ) → IsLast file c → records_of (digest_of m.plain) c ≡ and_last (records_of (digest_of m.plain) file) body
  lasts file c h = subst (λ d. records_of d c ≡ and_last (records_of d file) body) named h

  pub put : (o p : Option (List ℕ)) → IfSome o (HasSquares m start n) → IfSome o Ready → AreTold Ends o p → IfSome o (λ file. IsTold p (IsLast file)) → option_map (first_squares m (n + 1)) p ≡ option_map (λ (l : List Entry). l ++ more) (option_map (first_squares m n) o)
  put None None has ready told last = refl
  put None (Some c) has ready told last = absurd told
  put (Some file) None has ready told last = absurd told
  put (Some file) (Some c) has ready told last = ap (λ (l : List Entry). Some l) (first_more m start n file body more next (added file has ready) c (lasts file c last))

  pub put_kept : (o p : Option (List ℕ)) → IfSome o (HasSquares m start n) → IfSome o Ready → AreTold Ends o p → IfSome o (λ file. IsTold p (IsLast file)) → option_map (first_kept m (n + 1)) p ≡ option_map next (option_map (first_kept m n) o)
  put_kept None None has ready told last = refl
  put_kept None (Some c) has ready told last = absurd told
  put_kept (Some file) None has ready told last = absurd told
  put_kept (Some file) (Some c) has ready told last = ap (λ (l : List Kept). Some l) (kept_more m start n file body more next (added file has ready) c (lasts file c last))

  pub counted : (o p : Option (List ℕ)) → IfSome o (HasSquares m start n) → IfSome o Ready → AreTold Ends o p → IfSome o (λ file. IsTold p (IsLast file)) → IfSome p (HasSquares m start (n + 1))
  counted None None has ready told last = tt
  counted None (Some c) has ready told last = absurd told
  counted (Some file) None has ready told last = absurd told
  counted (Some file) (Some c) has ready told last = has_more m start n file body more next (added file has ready) c (lasts file c last)

  pub unput : (o p : Option (List ℕ)) → IfSome o (HasSquares m start n) → IfSome o Ready → AreTold Ends o p → option_map (first_squares m n) p ≡ option_map (first_squares m n) o
  unput None None has ready told = refl
  unput None (Some c) has ready told = absurd told
  unput (Some file) None has ready told = absurd told
  unput (Some file) (Some c) has ready told = ap (λ (l : List Entry). Some l) (first_stay m start n file body more next (added file has ready) c (ends file c told))

  pub unput_kept : (o p : Option (List ℕ)) → IfSome o (HasSquares m start n) → IfSome o Ready → AreTold Ends o p → option_map (first_kept m n) p ≡ option_map (first_kept m n) o
  unput_kept None None has ready told = refl
  unput_kept None (Some c) has ready told = absurd told
  unput_kept (Some file) None has ready told = absurd told
  unput_kept (Some file) (Some c) has ready told = ap (λ (l : List Kept). Some l) (kept_stay m start n file body more next (added file has ready) c (ends file c told))

  -- what was left since the call began
  pub between : {D : Type 0} (moment : D → ℕ) (since : D → ℕ → List ℕ → Type 0) (old new : D) (o : Option (List ℕ)) → IfSome o (HasSquares m start n) → IfSome o Ready → IfSome o (λ file. LeavesOnly moment since old new (Ends file))
      → IfSome (option_map (first_squares m n) o) (λ list. (image : Option (List Entry)) → ((c : List ℕ) × since new (moment old) c × (image ≡ squares_in m c)) → (image ≡ Some list) ⊎ (image ≡ Some (list ++ more)))
  between moment since old new None has ready leaves = tt
  between moment since old new (Some file) has ready leaves = λ image left.
      ⊎_elim (λ e. inl (left.2 ∙ e)) (λ e. inr (left.2 ∙ e)) (image_between m start n file body more next (added file has ready) left.0 (ends file left.0 (leaves.each left.0 left.1)))

  pub between_kept : {D : Type 0} (moment : D → ℕ) (since : D → ℕ → List ℕ → Type 0) (old new : D) (o : Option (List ℕ)) → IfSome o (HasSquares m start n) → IfSome o Ready → IfSome o (λ file. LeavesOnly moment since old new (Ends file))
      → IfSome (option_map (first_kept m n) o) (λ kept. (c : List ℕ) → since new (moment old) c → (kept_in_file m c ≡ kept) ⊎ (kept_in_file m c ≡ next kept))
  between_kept moment since old new None has ready leaves = tt
  between_kept moment since old new (Some file) has ready leaves = λ c left. kept_between m start n file body more next (added file has ready) c (ends file c (leaves.each c left))

  -- all records of the file, and those with the body behind them
  records_before : (file : List ℕ) (h : HasSquares m start n file) → records_of digest file ≡ Ok h.bodies
  records_before file h = subst (λ d. records_of d file ≡ Ok h.bodies) (sym named) h.records

  records_after : (file : List ℕ) (h : HasSquares m start n file) (c : List ℕ) → IsLast file c → HasFirstRecords digest (h.bodies ++ body ∷ []) c
  records_after file h c is = record {
    more = [];
    records = is ∙ ap (λ (r : Records). and_last r body) (records_before file h) ∙ ap (λ (l : List (List ℕ)). Ok l) (sym (append-nil (h.bodies ++ body ∷ [])));
  }

  -- whoever has the body behind all of them ends with it
  is_last : (file : List ℕ) (h : HasSquares m start n file) (c : List ℕ) → Ends file c → HasFirstRecords digest (h.bodies ++ body ∷ []) c → IsLast file c
  is_last file h c (inr is) first = is
  is_last file h c (inl is) first =
      let both : Ok h.bodies ≡ Ok ((h.bodies ++ body ∷ []) ++ first.more) = sym (records_before file h) ∙ sym is ∙ first.records in
      let same : h.bodies ≡ (h.bodies ++ body ∷ []) ++ first.more = cc in
      let len = ap length same in
      let behind = length-append (h.bodies ++ body ∷ []) first.more in
      let one = length-append h.bodies (body ∷ []) in
      absurd (omega arith)

  -- an image at a moment of the call
  ends_at : {D : Type 0} (moment : D → ℕ) (at since : D → ℕ → List ℕ → Type 0) (old new : D) (file : List ℕ) → ((t : ℕ) (c : List ℕ) → WasImageSince (moment new) (at new) t c → since new t c) → LeavesOnly moment since old new (Ends file) → (t : ℕ) (c : List ℕ) → moment old ≤ t → t ≤ moment new → at new t c → Ends file c
  ends_at moment at since old new file law leaves t c early late there = leaves.each c (law (moment old) c (record { moment = t; from = early; within = late; image = there }))

  -- what an image keeps that comes from one before it
  kept_comes : (file : List ℕ) (h : HasSquares m start n file) → Ready file → (d c : List ℕ) → Ends file d → Ends file c → IsBeforeOrAfter digest (records_of digest d) body c → (kept_in_file m c ≡ kept_in_file m d) ⊎ (kept_in_file m c ≡ next (kept_in_file m d))
  kept_comes file h ready d c before now (inl is) = inl (ap (kept_by (over m)) (subst (λ x. records_of x c ≡ records_of x d) named is))
  kept_comes file h ready d c (inl b) now (inr is) =
      let a = added file h ready in
      let last : IsLast file c = is ∙ ap (λ (r : Records). and_last r body) b in
      let old : kept_in_file m d ≡ first_kept m n file = kept_before m start n file body more next a d (subst (λ x. records_of x d ≡ records_of x file) named b) in
      inr (kept_after m start n file body more next a c (lasts file c last) ∙ ap next (sym old))
  kept_comes file h ready d c (inr l) now (inr is) =
      let last : IsLast file c = is_last file h c now (more_first digest (h.bodies ++ body ∷ []) body d c (records_after file h d l) (inr is)) in
      inl (ap (kept_by (over m)) (subst (λ x. records_of x c ≡ records_of x d) named (last ∙ sym l)))

  pub come_kept : {D : Type 0} (moment : D → ℕ) (at since : D → ℕ → List ℕ → Type 0) (old new : D) (o : Option (List ℕ)) → ((t : ℕ) (c : List ℕ) → WasImageSince (moment new) (at new) t c → since new t c) → IfSome o (HasSquares m start n) → IfSome o Ready → IfSome o (λ file. LeavesOnly moment since old new (Ends file))
      → IfSome o (λ _. ComeFromEarlier moment at old new Ends) → IfSome (option_map (first_kept m n) o) (λ _. ComeFromEarlier moment at old new (λ d c. (kept_in_file m c ≡ kept_in_file m d) ⊎ (kept_in_file m c ≡ next (kept_in_file m d))))
  come_kept moment at since old new None law has ready leaves come = tt
  come_kept moment at since old new (Some file) law has ready leaves come = λ u v from le within c image.
      let d = come u v from le within c image in
      (d.0, d.1, kept_comes file has ready d.0 c (ends_at moment at since old new file law leaves u d.0 from (omega arith) d.1) (ends_at moment at since old new file law leaves v c (omega arith) within image) d.2)

-- ---- what is retained

-- What each image has, each later one has. An image at a moment stands for what was kept, or that and the new square: where each
-- has more than was kept, each has the new record, and so has each later one.
pub retained : (m : Checked) (start : List Entry) (n : ℕ) (digest body : List ℕ) (named : digest ≡ digest_of m.plain) (e : Entry) (next : List Kept → List Kept) (Ready : List ℕ → Type 0) (added : (file : List ℕ) → HasSquares m start n file → Ready file → Adds m start n file body (e ∷ []) next)
    → {D : Type 0} (moment : D → ℕ) (at since : D → ℕ → List ℕ → Type 0) (old new : D) (o p : Option (List ℕ)) → ((t : ℕ) (c : List ℕ) → WasImageSince (moment new) (at new) t c → since new t c) → IfSome p (λ _. (t : ℕ) → t ≤ moment new → (c : List ℕ) × at new t c) → IfSome o (HasSquares m start n) → IfSome o Ready → AreTold (λ file c. IsBeforeOrAfter digest (records_of digest file) body c) o p
    → IfSome o (λ file. LeavesOnly moment since old new (λ c. IsBeforeOrAfter digest (records_of digest file) body c)) → IfSome o (λ _. ComeFromEarlier moment at old new (λ d c. IsBeforeOrAfter digest (records_of digest d) body c)) → IfSome (option_map (first_squares m n) o) (λ _. RetainsSquares moment at old new m)
retained m start n digest body named e next Ready added moment at since old new None p law some has ready told leaves records = tt
retained m start n digest body named e next Ready added moment at since old new (Some file) None law some has ready told leaves records = absurd told
retained m start n digest body named e next Ready added moment at since old new (Some file) (Some d) law some has ready told leaves records = λ first u v from le within all image left.
    let more = e ∷ [] in
    let a = added file has ready in
    let ends = ends_at m start n digest body named more next Ready added moment at since old new file law leaves in
    let IsEnd : List ℕ → Type 0 = λ c. records_of digest c ≡ and_last (records_of digest file) body in
    let lasting : ((c : List ℕ) → at new u c → IsEnd c) → (c : List ℕ) → at new v c → IsEnd c = λ each c there.
    let b = records u v from le within c there in
    is_last m start n digest body named more next Ready added file has c (ends v c (omega arith) within there) (more_first digest (has.bodies ++ body ∷ []) body b.0 c (records_after m start n digest body named more next Ready added file has b.0 (each b.0 b.1)) b.2) in
    subst (HasFirst first) (sym left.2)
    (retained_entries (at new u) (at new v) (λ c. records_of digest c ≡ records_of digest file) IsEnd (squares_in m) (first_squares m n file) e
    (λ c there. ends u c from (omega arith) there)
    (λ c there. ends v c (omega arith) within there)
    (λ c is. image_before m start n file body more next a c (subst (λ d. records_of d c ≡ records_of d file) named is))
    (λ c is. image_after m start n file body more next a c (lasts m start n digest body named more next Ready added file c is))
    (some u (omega arith))
    lasting first
    (λ c there. all (squares_in m c) (c, there, refl))
    left.0 left.1)

-- where no square is added, each image stands for what was kept
pub retained_alone : (m : Checked) (start : List Entry) (n : ℕ) (digest body : List ℕ) (named : digest ≡ digest_of m.plain) (next : List Kept → List Kept) (Ready : List ℕ → Type 0) (added : (file : List ℕ) → HasSquares m start n file → Ready file → Adds m start n file body [] next)
    → {D : Type 0} (moment : D → ℕ) (at since : D → ℕ → List ℕ → Type 0) (old new : D) (o p : Option (List ℕ)) → ((t : ℕ) (c : List ℕ) → WasImageSince (moment new) (at new) t c → since new t c) → IfSome p (λ _. (t : ℕ) → t ≤ moment new → (c : List ℕ) × at new t c) → IfSome o (HasSquares m start n) → IfSome o Ready → AreTold (λ file c. IsBeforeOrAfter digest (records_of digest file) body c) o p
    → IfSome o (λ file. LeavesOnly moment since old new (λ c. IsBeforeOrAfter digest (records_of digest file) body c)) → IfSome (option_map (first_squares m n) o) (λ _. RetainsSquares moment at old new m)
retained_alone m start n digest body named next Ready added moment at since old new None p law some has ready told leaves = tt
retained_alone m start n digest body named next Ready added moment at since old new (Some file) None law some has ready told leaves = absurd told
retained_alone m start n digest body named next Ready added moment at since old new (Some file) (Some d) law some has ready told leaves = λ first u v from le within all image left.
    let a = added file has ready in
    let list = first_squares m n file in
    let stands : (t : ℕ) (c : List ℕ) → moment old ≤ t → t ≤ moment new → at new t c → squares_in m c ≡ Some list = λ t c early late there.
    let end = ends m start n digest body named [] next Ready added file c (ends_at m start n digest body named [] next Ready added moment at since old new file law leaves t c early late there) in
    ⊎_elim (λ e. e) (λ e. e ∙ ap (λ (l : List Entry). Some l) (append-nil list)) (image_between m start n file body [] next a c end) in
    let x = some u (omega arith) in
    let here : HasFirst first (Some list) = subst (HasFirst first) (stands u x.0 from (omega arith) x.1) (all (squares_in m x.0) (x.0, x.1, refl)) in
    subst (HasFirst first) (sym (left.2 ∙ stands v left.0 (omega arith) within left.1)) here

-- ---- moments

earlier_images : {D : Type 0} (moment : D → ℕ) (since : D → ℕ → List ℕ → Type 0) (old new : D) (m : Checked) → ((t u : ℕ) (c : List ℕ) → t ≤ u → since new u c → since new t c) → LeavesOnly moment since old new (λ _. Unit {0}) → (t : ℕ) (image : Option (List Entry)) → t ≤ moment old
    → ((c : List ℕ) × since new t c × (image ≡ squares_in m c)) ↔ (((c : List ℕ) × since old t c × (image ≡ squares_in m c)) ⊎ ((c : List ℕ) × since new (moment old) c × (image ≡ squares_in m c)))
earlier_images moment since old new m law time t image le = (
  (λ s. ⊎_elim (λ past. inl (s.0, past, s.2)) (λ run. inr (s.0, run, s.2)) (time.earlier t s.0 le s.1)),
  (λ s. elim s [
    | inl past ↦ (past.0, time.keeps t past.0 le past.1, past.2)
    | inr run ↦ (run.0, law t (moment old) run.0 le run.1, run.2)
  ]),
)

-- where something is told
pub anyway : {X : Type 0} (o : Option X) (P : Type 0) → P → IfSome o (λ _. P)
anyway None P p = tt
anyway (Some x) P p = p

pub earlier : {D : Type 0} (moment : D → ℕ) (since : D → ℕ → List ℕ → Type 0) (old new : D) (m : Checked) (kept : Option (List Entry)) → ((t u : ℕ) (c : List ℕ) → t ≤ u → since new u c → since new t c) → LeavesOnly moment since old new (λ _. Unit {0})
    → IfSome kept (λ _. (t : ℕ) (image : Option (List Entry)) → t ≤ moment old → ((c : List ℕ) × since new t c × (image ≡ squares_in m c)) ↔ (((c : List ℕ) × since old t c × (image ≡ squares_in m c)) ⊎ ((c : List ℕ) × since new (moment old) c × (image ≡ squares_in m c))))
earlier moment since old new m kept law time = anyway kept _ (earlier_images moment since old new m law time)
