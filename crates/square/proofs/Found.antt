-- A square that is found in a table, and the reduction that it kept.
use Rattle.std.proofs.Common.{◌≡◌, ℕ, zero, suc, ◌<◌, ◌≤◌, ℤ, pos, ◌+ℤ◌, ◌-ℤ◌, List, [], ◌∷◌, length, take, Option, Some, None, MatchOption, option_and_then, IfSome, refl, sym, ◌∙◌, ap, subst, arith}
use Rattle.std.specs.List.{slice_get}
use Rattle.std.proofs.lemmas.Int.{ints}
use Rattle.std.proofs.lemmas.Option.{slice_get_within, same_Some}
use Rattle.bidegree.specs.Above.{above_of}
use Rattle.bidegree.proofs.Degrees.{natural-is}
use Rattle.f2_matrix.specs.Reduction.{Reduction}
use Rattle.f2_matrix.proofs.Unique.{kernel_basis_unique}
use Rattle.finite_module.specs.Checked.{Checked}
use Rattle.resolution_laws.specs.Resolution.{Module, Content, row_of, below_of, IsStep}
use Rattle.resolution_laws.specs.Start.{Entry, entry_at, squares_below, row_below, HasShape, IsOf, is_of, AreBefore}
use Rattle.resolution_laws.proofs.StartLaws.{content_is_unique, squares_below-same, row_below-same}
use Rattle.square.specs.Squares.{Placed, IsQuasi, IsKeptOf, IsSquare, over, bottom_of}
use Rattle.square.specs.Tables.{Staircase, row_in, plain_rows, content_at, square_at, IsQuasiAt, LacksQuasi, IsTable}
use Rattle.square.proofs.Places.{content_at-is, table_before, table_below, table_under}

-- a square found at a degree, and its place
pub record IsFound (table : Staircase) (s : ℕ) (t : ℤ) (q : Placed) : Type 0 where
  pub above : ℕ
  pub degree : t ≡ bottom_of table.resolved +ℤ pos above
  pub there : slice_get (row_in table.rows s) above ≡ Some q

pub square_found : (table : Staircase) (s : ℕ) (t : ℤ) (q : Placed) → square_at table s t ≡ Some q → IsFound table s t q
square_found table s t q e = from (above_of (bottom_of table.resolved) t) refl e
  where
    from : (o : Option ℕ) → o ≡ above_of (bottom_of table.resolved) t → option_and_then (λ k. slice_get (row_in table.rows s) k) o ≡ Some q → IsFound table s t q
    from None same e = cc
    from (Some k) same e =
        let b = bottom_of table.resolved in
        let d : t -ℤ b ≡ pos k = natural-is (t -ℤ b) k (sym same) in
        record { above = k; degree = omega (arith, ints); there = e }

-- its degree tells the place that it names
pub found_above : (table : Staircase) → IsTable table → (s : ℕ) (t : ℤ) (q : Placed) (k : ℕ) → square_at table s t ≡ Some q → t ≡ bottom_of table.resolved +ℤ pos k → q.above ≡ k
found_above table h s t q k e degree =
    let f = square_found table s t q e in
    let same : f.above ≡ k = omega (arith, ints, f.degree) in
    (h.placed s f.above q f.there).above_is ∙ same

-- a row that has a square is a row of the table
pub row_within : (rows : List (List Placed)) (s k : ℕ) → k < length (row_in rows s) → s < length rows
row_within [] s k l = absurd (omega arith)
row_within (row ∷ rows) zero k l = omega arith
row_within (row ∷ rows) (suc s) k l = let rest = row_within rows s k l in omega arith

-- ---- what it kept

-- what a start's table has at a place is that of each start with the same squares there and beneath
is_of-beneath : (m : Module) (start start' : List Entry) (s k : ℕ) (c : Content) → ((i j : ℕ) → i ≤ s → j ≤ k → entry_at start i j ≡ entry_at start' i j) → IsOf m start s k c → IsOf m start' s k c
is_of-beneath m start start' s k c same (is_of _ _ at _ before below here) =
    let P : Option Content → Type 0 = λ found. MatchOption found (IsStep m (row_below at s k) (squares_below at s k) c) (λ read. (c ≡ read) × HasShape m (row_below at s k) (squares_below at s k) c) in
    is_of s k at c
    (λ j l. is_of-beneath m start start' s j (at s j) (λ a b p q. same a b p (omega arith)) (before j l))
    (λ i j e l. is_of-beneath m start start' i j (at i j) (λ a b p q. same a b (omega arith) (omega arith)) (below i j e l))
    (subst P (same s k (omega arith) (omega arith)) here)

module _ (table : Staircase) (h : IsTable table) (s k : ℕ) (q : Placed) (r : Reduction) (there : slice_get (row_in table.rows s) k ≡ Some q) where
  m : Module
  m = over table.resolved

  pub kept_here : IsSquare q → q.quasi ≡ Some r → IsQuasi (over table.resolved) (below_of (plain_rows table.rows) s k) (take k (row_of (plain_rows table.rows) s)) (content_at table.rows s k) r
  unfolding m
  kept_here square kept =
      let is = h.placed s k q there in
      let within = slice_get_within (row_in table.rows s) k q there in
      let P : Option Reduction → Type 0 = λ o. IfSome o (IsKeptOf q) in
      let made : IsKeptOf q r = subst P kept square.kept in
      let at = made.at in
      let under1 = subst (λ (x : Checked). AreBefore (over x) q.start q.s q.above at) is.resolved_is made.under in
      let under2 = subst (λ x. AreBefore m q.start x q.above at) is.s_is under1 in
      let under3 = subst (λ x. AreBefore m q.start s x at) is.above_is under2 in
      let under : AreBefore m table.start s k at = record {
        before = λ j l. is_of-beneath m q.start table.start s j (at s j) (λ a b p r. is.beneath a b p (omega arith)) (under3.before j l);
        below = λ i j e l. is_of-beneath m q.start table.start i j (at i j) (λ a b p r. is.beneath a b (omega arith) (omega arith)) (under3.below i j e l);
      } in
      let quasi1 = subst (λ (x : Checked). IsQuasi (over x) (row_below at q.s q.above) (squares_below at q.s q.above) q.content r) is.resolved_is made.quasi in
      let quasi2 = subst (λ x. IsQuasi m (row_below at x q.above) (squares_below at x q.above) q.content r) is.s_is quasi1 in
      let quasi3 = subst (λ x. IsQuasi m (row_below at s x) (squares_below at s x) q.content r) is.above_is quasi2 in
      let quasi4 = subst (λ (x : Content). IsQuasi m (row_below at s k) (squares_below at s k) x r) (sym (content_at-is table.rows s k q there)) quasi3 in
      let lower : (i : ℕ) → suc i ≡ s → k < length (row_in table.rows i) = λ i e. let fall = h.never_rise i in let same = ap (λ n. length (row_in table.rows n)) e in omega arith in
      let known = table_under table h s k (omega arith) lower in
      let before : squares_below at s k ≡ take k (row_of (plain_rows table.rows) s) =
      squares_below-same at (content_at table.rows) s k (λ j l. content_is_unique kernel_basis_unique m table.start s j _ _ (under.before j l) (known.before j l)) ∙ table_before table.rows s k (omega arith) in
      let below : row_below at s k ≡ below_of (plain_rows table.rows) s k =
      row_below-same at (content_at table.rows) s k (λ i j e l. content_is_unique kernel_basis_unique m table.start i j _ _ (under.below i j e l) (known.below i j e l)) ∙ table_below table.rows s k lower in
      let quasi5 = subst (λ (x : Option (List Content)). IsQuasi m x (squares_below at s k) (content_at table.rows s k) r) below quasi4 in
      subst (λ (x : List Content). IsQuasi m (below_of (plain_rows table.rows) s k) x (content_at table.rows s k) r) before quasi5

pub kept_found : (table : Staircase) → IsTable table → (s : ℕ) (t : ℤ) (q : Placed) (r : Reduction) → IsFound table s t q → IsSquare q → q.quasi ≡ Some r → IsQuasiAt table s t r
kept_found table h s t q r f square kept = record { above = f.above; degree = f.degree; quasi = kept_here table h s f.above q r f.there square kept }

-- ---- a reduction that is given to a square of the table

module _ (table : Staircase) (h : IsTable table) (s k : ℕ) (q : Placed) (r : Reduction) (there : slice_get (row_in table.rows s) k ≡ Some q) where
  pub kept_from : IsQuasi (over table.resolved) (below_of (plain_rows table.rows) s k) (take k (row_of (plain_rows table.rows) s)) (content_at table.rows s k) r → r.kernel ≡ q.content.kernel → IsKeptOf q r
  kept_from quasi kernel =
      let m = over table.resolved in
      let at = content_at table.rows in
      let is = h.placed s k q there in
      let within = slice_get_within (row_in table.rows s) k q there in
      let lower : (i : ℕ) → suc i ≡ s → k < length (row_in table.rows i) = λ i e. let fall = h.never_rise i in let same = ap (λ n. length (row_in table.rows n)) e in omega arith in
      let known = table_under table h s k (omega arith) lower in
      let under1 : AreBefore m q.start s k at = record {
        before = λ j l. is_of-beneath m table.start q.start s j (at s j) (λ a b p l2. sym (is.beneath a b p (omega arith))) (known.before j l);
        below = λ i j e l. is_of-beneath m table.start q.start i j (at i j) (λ a b p l2. sym (is.beneath a b (omega arith) (omega arith))) (known.below i j e l);
      } in
      let under2 = subst (λ x. AreBefore m q.start s x at) (sym is.above_is) under1 in
      let under3 = subst (λ x. AreBefore m q.start x q.above at) (sym is.s_is) under2 in
      let under = subst (λ (x : Checked). AreBefore (over x) q.start q.s q.above at) (sym is.resolved_is) under3 in
      let before : squares_below at s k ≡ take k (row_of (plain_rows table.rows) s) = table_before table.rows s k (omega arith) in
      let below : row_below at s k ≡ below_of (plain_rows table.rows) s k = table_below table.rows s k lower in
      let quasi1 = subst (λ (x : List Content). IsQuasi m (below_of (plain_rows table.rows) s k) x (content_at table.rows s k) r) (sym before) quasi in
      let quasi2 = subst (λ (x : Option (List Content)). IsQuasi m x (squares_below at s k) (content_at table.rows s k) r) (sym below) quasi1 in
      let quasi3 = subst (λ (x : Content). IsQuasi m (row_below at s k) (squares_below at s k) x r) (content_at-is table.rows s k q there) quasi2 in
      let quasi4 = subst (λ x. IsQuasi m (row_below at s x) (squares_below at s x) q.content r) (sym is.above_is) quasi3 in
      let quasi5 = subst (λ x. IsQuasi m (row_below at x q.above) (squares_below at x q.above) q.content r) (sym is.s_is) quasi4 in
      record {
        at = at;
        under = under;
        quasi = subst (λ (x : Checked). IsQuasi (over x) (row_below at q.s q.above) (squares_below at q.s q.above) q.content r) (sym is.resolved_is) quasi5;
        kernel = kernel;
      }

-- where a square of a degree lacks the reduction that it is given
pub lacking_kept : (table : Staircase) → IsTable table → (s : ℕ) (t : ℤ) (q : Placed) (r : Reduction) → square_at table s t ≡ Some q → LacksQuasi table s t r → IsQuasiAt table s t r → IsKeptOf q r
lacking_kept table h s t q r there lacks quasi =
    let f = square_found table s t q there in
    let same : lacks.square ≡ q = same_Some lacks.square q (sym lacks.there ∙ there) in
    let at : quasi.above ≡ f.above = omega (arith, ints, quasi.degree, f.degree) in
    let here = subst (λ (n : ℕ). IsQuasi (over table.resolved) (below_of (plain_rows table.rows) s n) (take n (row_of (plain_rows table.rows) s)) (content_at table.rows s n) r) at quasi.quasi in
    kept_from table h s f.above q r f.there here (lacks.kernel ∙ ap (λ (x : Placed). x.content.kernel) same)
