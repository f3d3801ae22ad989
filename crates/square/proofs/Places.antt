-- The squares of a table at their places, what is made from them, and what is read behind them.
use Rattle.std.proofs.Common.{◌≡◌, ℕ, zero, suc, ◌+◌, ◌<◌, ◌≤◌, ℤ, pos, ◌+ℤ◌, List, [], ◌∷◌, ◌++◌, length, take, replicate, Option, Some, None, MatchOption, IfSome, IsSome, refl, sym, ◌∙◌, ap, subst, arith, add-one}
use Rattle.std.specs.List.{slice_get}
use Rattle.std.proofs.lemmas.Int.{ints}
use Rattle.std.proofs.lemmas.List.{length-map, length-take-le, get_or-take, take-map}
use Rattle.finite_module.specs.Module.{width}
use Rattle.finite_module.specs.Checked.{Checked}
use Rattle.resolution_laws.specs.Resolution.{Content, square_in, row_of, below_of, degrees_from, IsStep}
use Rattle.resolution_laws.specs.Start.{Entry, entry_at, HasShape, squares_below, row_below, IsOf, is_of, AreBefore}
use Rattle.resolution_laws.proofs.StartLaws.{squares_below-take, grown_content, entry_at-new}
use Rattle.std.proofs.lemmas.Option.{IfSome_then}
use Rattle.bidegree.specs.declared.range.TheConstants.{MAX_S, MAX_T}
use Rattle.f2_matrix.specs.Reduction.{Reduction}
use Rattle.square.specs.Squares.{Placed, content_of, IsQuasi, IsMeasured, target_width, source_width, over, bottom_of}
use Rattle.square.specs.Tables.{Staircase, Footing, contents, row_in, plain_rows, content_at, row_width, next_width, under_row, AreOfRow, IsNext, IsTable, IsFooting, IsReadable, IsQuasiBehind}
use Rattle.square.proofs.RowWidths.{free_width-more, free_width-row}

-- ---- rows

pub row_of-plain : (rows : List (List Placed)) (s : ℕ) → row_of (plain_rows rows) s ≡ contents (row_in rows s)
row_of-plain [] s = refl
row_of-plain (row ∷ rows) zero = refl
row_of-plain (row ∷ rows) (suc s) = row_of-plain rows s

pub length-row_of : (rows : List (List Placed)) (s : ℕ) → length (row_of (plain_rows rows) s) ≡ length (row_in rows s)
length-row_of rows s = ap length (row_of-plain rows s) ∙ length-map (row_in rows s) content_of

pub slice_get-there : {X : Type 0} (xs : List X) (k : ℕ) → k < length xs → (x : X) × (slice_get xs k ≡ Some x)
slice_get-there [] k l = absurd (omega arith)
slice_get-there (x ∷ xs) zero l = (x, refl)
slice_get-there (x ∷ xs) (suc k) l = slice_get-there xs k (omega arith)

pub square_in-contents : (row : List Placed) (k : ℕ) (q : Placed) → slice_get row k ≡ Some q → square_in (contents row) k ≡ q.content
square_in-contents [] k q e = cc
square_in-contents (x ∷ row) zero q e = let same : x ≡ q = cc in ap content_of same
square_in-contents (x ∷ row) (suc k) q e = square_in-contents row k q e

pub content_at-is : (rows : List (List Placed)) (s k : ℕ) (q : Placed) → slice_get (row_in rows s) k ≡ Some q → content_at rows s k ≡ q.content
content_at-is rows s k q e = ap (λ (xs : List Content). square_in xs k) (row_of-plain rows s) ∙ square_in-contents (row_in rows s) k q e

-- ---- what a table has is of its start

pub table_content : (table : Staircase) → IsTable table → (s k : ℕ) → k < length (row_in table.rows s) → IsOf (over table.resolved) table.start s k (content_at table.rows s k)
table_content table h s k l =
    let there = slice_get-there (row_in table.rows s) k l in
    subst (IsOf (over table.resolved) table.start s k) (sym (content_at-is table.rows s k there.0 there.1)) (h.placed s k there.0 there.1).is_of

pub table_before : (rows : List (List Placed)) (s k : ℕ) → k ≤ length (row_in rows s) → squares_below (content_at rows) s k ≡ take k (row_of (plain_rows rows) s)
table_before rows s k l =
    let len = length-row_of rows s in
    squares_below-take (content_at rows) s k (row_of (plain_rows rows) s) (omega arith) (λ j b. refl)

pub table_below : (rows : List (List Placed)) (s k : ℕ) → ((i : ℕ) → suc i ≡ s → k < length (row_in rows i)) → row_below (content_at rows) s k ≡ below_of (plain_rows rows) s k
table_below rows zero k l = refl
table_below rows (suc i) k l =
    let len = length-row_of rows i in
    let more = l i refl in
    ap (λ (x : List Content). Some x) (squares_below-take (content_at rows) i (suc k) (row_of (plain_rows rows) i) (omega arith) (λ j b. refl))

pub table_under : (table : Staircase) → IsTable table → (s k : ℕ) → k ≤ length (row_in table.rows s) → ((i : ℕ) → suc i ≡ s → k < length (row_in table.rows i)) → AreBefore (over table.resolved) table.start s k (content_at table.rows)
table_under table h s k l below = record {
  before = λ j b. table_content table h s j (omega arith);
  below = λ i j e b. let more = below i e in table_content table h i j (omega arith);
}

-- ---- the next place of a row

pub next_length : (rows : List (List Placed)) (s k : ℕ) → IsNext rows s k → length (row_in rows s) ≡ k
next_length rows s zero h = let a = h.absent in omega arith
next_length rows s (suc k) h = let a = h.absent in let b = h.before k refl in omega arith

none_from : (found : Option Content) → ((c : Content) → found ≡ Some c → ⊥) → found ≡ None
none_from None h = refl
none_from (Some c) h = absurd (h c refl)

pub next_absent : (table : Staircase) → IsTable table → (s k : ℕ) → length (row_in table.rows s) ≤ k → entry_at table.start s k ≡ None
next_absent table h s k l = none_from (entry_at table.start s k) (λ c e. let there = h.started s k c e in absurd (omega arith))

-- ---- a footing

pub footing_in : (table : Staircase) → IsTable table → (s k : ℕ) → s ≤ MAX_S → k ≤ MAX_T → IsNext table.rows s k → IsFooting (record { resolved = table.resolved; start = table.start; s = s; above = k; squares = take k (row_of (plain_rows table.rows) s); below = below_of (plain_rows table.rows) s k })
footing_in table h s k row degree next =
    let m = over table.resolved in
    let rows = plain_rows table.rows in
    let len = length-row_of table.rows s in
    let at_end = next_length table.rows s k next in
    record {
      row = row;
      degree = degree;
      absent = next_absent table h s k (omega arith);
      length_is = length-take-le k (row_of rows s) (omega arith);
      has_below = λ i e.
          let lower = length-row_of table.rows i in
          let more = next.below i e in
          (take (suc k) (row_of rows i), ap (λ n. below_of rows n k) (sym e), length-take-le (suc k) (row_of rows i) (omega arith) ∙ sym (add-one k));
      has_none = λ e. ap (λ n. below_of rows n k) e;
      before_are = λ j l. subst (IsOf m table.start s j) (sym (get_or-take k (row_of rows s) j _ l)) (table_content table h s j (omega arith));
      below_are = λ i j e l.
          let more = next.below i e in
          let there = subst (IsOf m table.start i j) (sym (get_or-take (suc k) (row_of rows i) j _ (omega arith))) (table_content table h i j (omega arith)) in
          let P : Option (List Content) → Type 0 = λ x. IfSome x (λ below. IsOf m table.start i j (square_in below j)) in
          subst P (ap (λ n. below_of rows n k) e) there;
    }

-- ---- one square read more

read_square : (table : Staircase) (s k : ℕ) (c : Content) (quasi : Option Reduction) → IfSome quasi (λ r. IsQuasi (over table.resolved) (below_of (plain_rows table.rows) s k) (take k (row_of (plain_rows table.rows) s)) c r × (r.kernel ≡ c.kernel)) → IsTable table → s ≤ MAX_S → k ≤ MAX_T → IsNext table.rows s k → HasShape (over table.resolved) (below_of (plain_rows table.rows) s k) (take k (row_of (plain_rows table.rows) s)) c
    → (t : ℤ) → t ≡ bottom_of table.resolved +ℤ pos k
    → IsMeasured (record { resolved = table.resolved; start = table.start ++ record { s = s; above = k; content = c } ∷ []; s = s; above = k; content = c; quasi = quasi }) t (target_width (over table.resolved) (below_of (plain_rows table.rows) s k) (take k (row_of (plain_rows table.rows) s))) (source_width (over table.resolved) (take k (row_of (plain_rows table.rows) s)) c)
read_square table s k c quasi reduced h row degree next shape t at_t =
    let m = over table.resolved in
    let rows = plain_rows table.rows in
    let e : Entry = record { s = s; above = k; content = c } in
    let at = content_at table.rows in
    let end = next_length table.rows s k next in
    let before = table_before table.rows s k (omega arith) in
    let below = table_below table.rows s k next.below in
    let under = table_under table h s k (omega arith) next.below in
    let grown : AreBefore m (table.start ++ e ∷ []) s k at = record {
      before = λ j l. grown_content m table.start e s j (at s j) (λ p q. omega arith) (under.before j l);
      below = λ i j d l. grown_content m table.start e i j (at i j) (λ p q. omega arith) (under.below i j d l);
    } in
    let new : entry_at (table.start ++ e ∷ []) s k ≡ Some c = entry_at-new table.start e (next_absent table h s k (omega arith)) in
    let P : Option (List Content) → Type 0 = λ x. HasShape m x (take k (row_of rows s)) c in
    let Q : List Content → Type 0 = λ x. HasShape m (row_below at s k) x c in
    let fits : HasShape m (row_below at s k) (squares_below at s k) c = subst Q (sym before) (subst P (sym below) shape) in
    let R : Option Content → Type 0 = λ found. MatchOption found (IsStep m (row_below at s k) (squares_below at s k) c) (λ read. (c ≡ read) × HasShape m (row_below at s k) (squares_below at s k) c) in
    let w : target_width m (below_of rows s k) (take k (row_of rows s)) ≡ target_width m (row_below at s k) (squares_below at s k) =
    ap (λ x. target_width m x (take k (row_of rows s))) (sym below) ∙ ap (λ x. target_width m (row_below at s k) x) (sym before) in
    record {
      square = record {
        is_of = is_of s k at c grown.before grown.below (subst R (sym new) (refl, fits));
        row = row;
        degree = degree;
        kept = IfSome_then quasi reduced (λ r is. record {
          at = at;
          under = grown;
          quasi = subst (λ (x : List Content). IsQuasi m (row_below at s k) x c r) (sym before) (subst (λ (x : Option (List Content)). IsQuasi m x (take k (row_of rows s)) c r) (sym below) is.0);
          kernel = is.1;
        });
      };
      degree = at_t;
      widths = record { at = at; under = grown; target = w; source = ap (λ x. source_width m x c) (sym before) };
      where_made = λ unread. absurd (unread (subst IsSome (sym new) refl));
    }

-- the same for the parts of a square
pub IsMeasured-read : (table : Staircase) (s : ℕ) (t : ℤ) (c : Content) (quasi : Option Reduction) → IfSome quasi (IsQuasiBehind table s t c) → IsTable table → IsReadable table s t c → (resolved : Checked) (start more : List Entry) (above : ℕ) (t' : ℤ) (w v : ℕ) → t ≡ bottom_of table.resolved +ℤ pos above → t' ≡ t → resolved ≡ table.resolved → start ≡ table.start → more ≡ start ++ record { s = s; above = above; content = c } ∷ []
    → w ≡ target_width (over table.resolved) (below_of (plain_rows table.rows) s above) (take above (row_of (plain_rows table.rows) s)) → v ≡ source_width (over table.resolved) (take above (row_of (plain_rows table.rows) s)) c
    → IsMeasured (record { resolved = resolved; start = more; s = s; above = above; content = c; quasi = quasi }) t' w v
IsMeasured-read table s t c quasi reduced h readable resolved start more above t' w v at_t e1 e2 e3 e4 e5 e6 =
    let m = over table.resolved in
    let rows = plain_rows table.rows in
    let k = readable.place.above in
    let d = readable.place.degree in
    let same : k ≡ above = omega (arith, ints) in
    let within = readable.place.within in
    let P : ℕ → Type 0 = λ n. IsNext table.rows s n in
    let Q : ℕ → Type 0 = λ n. HasShape m (below_of rows s n) (take n (row_of rows s)) c in
    let here : IfSome quasi (λ r. IsQuasi m (below_of rows s above) (take above (row_of rows s)) c r × (r.kernel ≡ c.kernel)) =
    IfSome_then quasi reduced (λ r b.
    let at : b.above ≡ above = omega (arith, ints, b.degree, e1) in
    (subst (λ n. IsQuasi m (below_of rows s n) (take n (row_of rows s)) c r) at b.quasi, b.kernel)) in
    let made = read_square table s above c quasi here h readable.place.row (omega arith) (subst P same readable.place.next) (subst Q same readable.shape) t' (e1 ∙ at_t) in
    let q : Placed = record { resolved = table.resolved; start = table.start ++ record { s = s; above = above; content = c } ∷ []; s = s; above = above; content = c; quasi = quasi } in
    let p : Placed = record { resolved = resolved; start = more; s = s; above = above; content = c; quasi = quasi } in
    let e : q ≡ p = cc in
    let wide = target_width m (below_of rows s above) (take above (row_of rows s)) in
    let tall = source_width m (take above (row_of rows s)) c in
    let R : Placed → Type 0 = λ x. IsMeasured x t' wide tall in
    let W : ℕ → Type 0 = λ n. IsMeasured p t' n tall in
    let V : ℕ → Type 0 = λ n. IsMeasured p t' w n in
    subst V (sym e6) (subst W (sym e5) (subst R e made))

-- ---- parts of rows as they are held

slice_get-first : (xs : List Placed) (n k : ℕ) (x : Placed) → slice_get (take n xs) k ≡ Some x → slice_get xs k ≡ Some x
slice_get-first xs zero k x e = cc
slice_get-first [] (suc n) k x e = e
slice_get-first (y ∷ xs) (suc n) zero x e = e
slice_get-first (y ∷ xs) (suc n) (suc k) x e = slice_get-first xs n k x e

-- the first squares of a row of a table stand at their places
pub AreOfRow-first : (table : Staircase) → IsTable table → (resolved : Checked) (s n : ℕ) (squares : List Placed) → resolved ≡ table.resolved → squares ≡ take n (row_in table.rows s) → AreOfRow resolved s squares
AreOfRow-first table h resolved s n squares e same k q there =
    let is = h.placed s k q (slice_get-first (row_in table.rows s) n k q (ap (λ (x : List Placed). slice_get x k) (sym same) ∙ there)) in
    record { resolved_is = is.resolved_is ∙ sym e; s_is = is.s_is; above_is = is.above_is }

pub contents-take : (rows : List (List Placed)) (s n : ℕ) (squares : List Placed) → squares ≡ take n (row_in rows s) → contents squares ≡ take n (row_of (plain_rows rows) s)
contents-take rows s n squares e = ap contents e ∙ sym (take-map content_of n (row_in rows s)) ∙ ap (take n) (sym (row_of-plain rows s))

pub shared_below : (rows : List (List Placed)) (s i k : ℕ) (squares : List Placed) → suc i ≡ s → squares ≡ take (k + 1) (row_in rows i) → under_row s (contents squares) ≡ below_of (plain_rows rows) s k
shared_below rows s i k squares e same =
    let all : contents squares ≡ take (suc k) (row_of (plain_rows rows) i) = contents-take rows i (k + 1) squares same ∙ ap (λ n. take n (row_of (plain_rows rows) i)) (add-one k) in
    let P : ℕ → Type 0 = λ n. under_row n (contents squares) ≡ below_of (plain_rows rows) n k in
    subst P e (ap (λ (x : List Content). Some x) all)

-- the dimension of what d_s goes to, in the degree of the next square
pub target_width-first : (table : Staircase) (s k : ℕ) (t : ℤ) → s ≡ 0 → IsNext table.rows s k → t ≡ bottom_of table.resolved +ℤ pos k → width table.resolved.plain.generators t ≡ target_width (over table.resolved) (below_of (plain_rows table.rows) s k) (take k (row_of (plain_rows table.rows) s))
target_width-first table s k t e next at =
    let m = over table.resolved in
    let rows = plain_rows table.rows in
    let end = next_length table.rows s k next in
    let whole = length-row_of table.rows s in
    let len : length (take k (row_of rows s)) ≡ k = length-take-le k (row_of rows s) (omega arith) in
    let here : t ≡ m.bottom +ℤ pos (length (take k (row_of rows s))) = at ∙ ap (λ n. m.bottom +ℤ pos n) (sym len) in
    let P : ℕ → Type 0 = λ n. width table.resolved.plain.generators t ≡ target_width m (below_of rows n k) (take k (row_of rows s)) in
    subst P (sym e) (ap m.graded.width here)

pub target_width-above : (table : Staircase) (s i k : ℕ) → suc i ≡ s → IsNext table.rows s k → target_width (over table.resolved) (below_of (plain_rows table.rows) s k) (take k (row_of (plain_rows table.rows) s)) ≡ row_width (take (k + 1) (contents (row_in table.rows i))) k
target_width-above table s i k e next =
    let m = over table.resolved in
    let rows = plain_rows table.rows in
    let end = next_length table.rows s k next in
    let whole = length-row_of table.rows s in
    let len : length (take k (row_of rows s)) ≡ k = length-take-le k (row_of rows s) (omega arith) in
    let P : ℕ → Type 0 = λ n. target_width m (below_of rows n k) (take k (row_of rows s)) ≡ row_width (take (k + 1) (contents (row_in table.rows i))) k in
    let lower : take (suc k) (row_of rows i) ≡ take (k + 1) (contents (row_in table.rows i)) = ap (λ n. take n (row_of rows i)) (sym (add-one k)) ∙ ap (take (k + 1)) (row_of-plain table.rows i) in
    subst P e (free_width-row m.bottom (take (suc k) (row_of rows i)) (length (take k (row_of rows s))) ∙ ap (λ x. row_width x (length (take k (row_of rows s)))) lower ∙ ap (row_width (take (k + 1) (contents (row_in table.rows i)))) len)

pub target_width-read : (table : Staircase) (s k n : ℕ) (m : Checked) (t : ℤ) → n ≡ width m.plain.generators t → m ≡ table.resolved → t ≡ bottom_of table.resolved +ℤ pos k → s ≡ 0 → IsNext table.rows s k → n ≡ target_width (over table.resolved) (below_of (plain_rows table.rows) s k) (take k (row_of (plain_rows table.rows) s))
target_width-read table s k n m t e same at first next = e ∙ ap (λ (x : Checked). width x.plain.generators t) same ∙ target_width-first table s k t first next at

-- the dimension of F_s in the same degree
pub next_width-row : (table : Staircase) (s k count : ℕ) (row : List Placed) → row ≡ row_in table.rows s → IsNext table.rows s k → row_width (take k (contents row)) k + count ≡ next_width table s k count
next_width-row table s k count row same next =
    let m = over table.resolved in
    let end = next_length table.rows s k next in
    let whole = length-row_of table.rows s in
    let squares = take k (row_of (plain_rows table.rows) s) in
    let held : take k (contents row) ≡ squares = ap (λ (x : List Placed). take k (contents x)) same ∙ ap (take k) (sym (row_of-plain table.rows s)) in
    let len : length squares ≡ k = length-take-le k (row_of (plain_rows table.rows) s) (omega arith) in
    let old = free_width-row m.bottom squares (length squares) ∙ ap (row_width squares) len ∙ ap (λ x. row_width x k) (sym held) in
    let more = free_width-more (degrees_from m.bottom squares) count (m.bottom +ℤ pos (length squares)) in
    omega arith

-- a footing given by its parts
pub IsFooting-same : (resolved resolved' : Checked) (start start' : List Entry) (s above : ℕ) (squares squares' : List Content) (below below' : Option (List Content)) → resolved' ≡ resolved → start' ≡ start → squares' ≡ squares → below' ≡ below → IsFooting (record { resolved = resolved; start = start; s = s; above = above; squares = squares; below = below }) → IsFooting (record { resolved = resolved'; start = start'; s = s; above = above; squares = squares'; below = below' })
IsFooting-same resolved resolved' start start' s above squares squares' below below' e1 e2 e3 e4 h =
    let f : Footing = record { resolved = resolved; start = start; s = s; above = above; squares = squares; below = below } in
    let g : Footing = record { resolved = resolved'; start = start'; s = s; above = above; squares = squares'; below = below' } in
    let e : f ≡ g = cc in
    subst IsFooting e h

-- ---- the table of no square

pub row_in-none : (n s : ℕ) → row_in (replicate n []) s ≡ []
row_in-none zero s = refl
row_in-none (suc n) zero = refl
row_in-none (suc n) (suc s) = row_in-none n s

pub no_squares : (resolved : Checked) (start : List Entry) (rows : List (List Placed)) (spare : ℕ) → start ≡ [] → rows ≡ replicate (MAX_S + 1) [] → IsTable (record { resolved = resolved; start = start; rows = rows; spare = spare })
no_squares resolved start rows spare e f =
    let none : (s : ℕ) → row_in rows s ≡ [] = λ s. ap (λ (x : List (List Placed)). row_in x s) f ∙ row_in-none (MAX_S + 1) s in
    record {
      rows = ap length f;
      never_rise = λ s. let a = ap length (none s) in let b = ap length (none (suc s)) in omega arith;
      placed = λ s k q h. let there : slice_get [] k ≡ Some q = ap (λ (row : List Placed). slice_get row k) (sym (none s)) ∙ h in absurd (let same : None ≡ Some q = there in cc);
      started = λ s k content h. let there : entry_at [] s k ≡ Some content = ap (λ (st : List Entry). entry_at st s k) (sym e) ∙ h in absurd (let same : None ≡ Some content = there in cc);
    }
