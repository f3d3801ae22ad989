-- Each number has its turn.
use Rattle.std.proofs.Common.{◌≡◌, ℕ, ◌<◌, ◌≤◌, ◌-◌, ◌+◌, ◌*◌, ◌/◌, ◌^◌, suc, inl, refl, sym, subst, ap, ◌∙◌, arith, add-one, rules, List, length, take, slice_index, slice_set, slice_get, Some, bit_or, zero}
use Rattle.std.specs.Int.Bits.{and_zero_l}
use Rattle.std.proofs.lemmas.Result.{on_ok_weaker}
use Rattle.milnor_basis.specs.Exponents.{degree_of, trimmed}
use Rattle.milnor_basis.specs.Basis.{lists_of, basis_of}
use Rattle.milnor_basis.specs.Product.{AreWithin}
use Rattle.milnor_basis.specs.Inside.Walk.{taken, next_row, next_column}
use Rattle.milnor_basis.specs.Inside.FreeRows.{greatest_free, greatest_of, number_above, added, TurnsOverAll}
use Rattle.milnor_basis.proofs.BasisLemmas.{lists_of_one}
use Rattle.milnor_basis.proofs.RowZero.{apart_both}
use Rattle.milnor_basis.proofs.Weights.{put_weight}
use Rattle.milnor_basis.proofs.FirstRow.{least_none, next_some, next_first}
use Rattle.milnor_basis.proofs.RowPlaces.{greatest_same, greatest_fits, greatest_column, sum_fits, nothing_taken, back_fits, taken_back, set_back, first_placed, next_is, row_turn, taken_none, with_none, pass_over}
use Rattle.milnor_basis.proofs.FreeFill.{TurnsOverAllBelow, free_start, free_end, free_shut}
use Rattle.milnor_basis.proofs.all_products.+fill_all.Goals as goal

-- the diagonals with a number at a place
abbrev with_number : ℕ → ℕ → List ℕ → ℕ → List ℕ
with_number row column diagonals v = slice_set diagonals (row + column - 1) (bit_or (slice_index diagonals (row + column - 1)) v)

-- the next place is nearer to the end
next_falls : (w row column : ℕ) → 1 < row → w ≤ 8 → next_row row column * 9 + next_column w row column < row * 9 + column
next_falls w zero column past few = absurd (omega arith)
next_falls w (suc i) zero past few = omega arith
next_falls w (suc i) (suc c) past few = omega arith

next_high : (row column next : ℕ) → next ≡ next_row row column → row ≤ 8 → next ≤ 8
next_high zero zero next e high = omega arith
next_high (suc i) zero next e high = omega arith
next_high row (suc c) next e high = omega arith

next_right : (w row column next : ℕ) → next ≡ next_column w row column → column ≤ w → next ≤ w
next_right w row zero next e right = omega arith
next_right w row (suc c) next e right = omega arith

-- nothing is put there
nothing_there : (room a b : ℕ) → room - 0 * a * b ≡ room
nothing_there room a b = omega arith

eight : (xs : List ℕ) → length xs ≡ 8 → 8 ≤ length xs
eight xs e = omega arith

-- row 1, before anything is in it
whole_room : (row sum below : ℕ) → sum ≡ 0 → below - sum * (2 ^ row - 1) ≡ below
whole_room row sum below none = ap (λ n. below - n * (2 ^ row - 1)) none ∙ nothing_taken below (2 ^ row - 1)

pub fill_last-requires-clause-left : goal.fill_last-requires-clause-left
fill_last-requires-clause-left t c =
    let one : length (lists_of c.args.row c.args.own.left.degree) ≡ 1 = ap (λ k. length (lists_of k c.args.own.left.degree)) c.if-row-eq1.true ∙ ap length (lists_of_one c.args.own.left.degree) in
    omega (arith, c.requires.place)

pub fill_last-requires-clause-weight : goal.fill_last-requires-clause-weight
fill_last-requires-clause-weight t c = omega (arith, c.requires.weight, whole_room c.args.row c.args.own.sum c.args.own.left.degree (c.requires.begun c.if-row-eq1.true))

pub returns-then-row-eq1 : goal.returns-then-row-eq1
returns-then-row-eq1 t c =
    let below : ℕ = c.args.own.left.degree in
    let left : ℕ = c.args.own.left.place in
    let room : ℕ = below - c.args.own.sum * (2 ^ c.args.row - 1) in
    let one = c.if-row-eq1.true in
    let none = c.requires.begun one in
    record {
      turned = on_ok_weaker c.fill_last.result
          (λ (turns : (rows : List ℕ) → length rows ≡ 8 → slice_get (basis_of c.args.degrees.0) left ≡ Some (trimmed (added 1 below rows))
          → TurnsOverAll c.args.degrees.0 c.args.degrees.1 c.args.width 1 c.args.width below rows c.args.open.now.columns c.args.open.now.diagonals c.args.pairs.now.items c.fill_last.new.pairs.items). λ rows is.
          let at_last = turns rows is.high (first_placed c.args.degrees.0 c.args.row c.args.own.sum below left rows one none is) in
          let with_room = subst (λ (n : ℕ). TurnsOverAll c.args.degrees.0 c.args.degrees.1 c.args.width 1 c.args.width n rows c.args.open.now.columns c.args.open.now.diagonals c.args.pairs.now.items c.fill_last.new.pairs.items) (sym (whole_room c.args.row c.args.own.sum below none)) at_last in
          subst (λ (n : ℕ). TurnsOverAll c.args.degrees.0 c.args.degrees.1 c.args.width n c.args.column room rows c.args.open.now.columns c.args.open.now.diagonals c.args.pairs.now.items c.fill_last.new.pairs.items) (sym one)
          (subst (λ (n : ℕ). TurnsOverAll c.args.degrees.0 c.args.degrees.1 c.args.width 1 n room rows c.args.open.now.columns c.args.open.now.diagonals c.args.pairs.now.items c.fill_last.new.pairs.items) (sym (c.requires.first one)) with_room)) c.fill_last.ensures.turned;
      columns = on_ok_weaker c.fill_last.result (λ (within : AreWithin c.args.degrees.0 c.args.degrees.1 c.fill_last.new.pairs.items). refl) c.fill_last.ensures.within;
      diagonals = on_ok_weaker c.fill_last.result (λ (within : AreWithin c.args.degrees.0 c.args.degrees.1 c.fill_last.new.pairs.items). refl) c.fill_last.ensures.within;
      within = c.fill_last.ensures.within;
    }

pub loop-number-init : goal.loop-number-init
loop-number-init t c =
    let past : 1 < c.args.row = omega (arith, c.requires.some, c.if-row-eq1.false) in
    let row : ℕ = c.args.row in
    let column : ℕ = c.next_open-at.result in
    let own = c.args.own in
    let new = c.after-blank.result in
    let i : ℕ = c.next_place-next_row.result.0 in
    let room : ℕ = own.left.degree - own.sum * (2 ^ row - 1) in
    let e = c.after-blank.ensures in
    let least : 0 ≤ greatest_free row column room c.args.open.now.columns = omega arith in
    let known = next_is row column 0 own.sum own.most own.left.degree own.left.place new.sum new.most new.left.degree new.left.place i past c.requires.row c.requires.fits c.requires.most (omega arith) c.next_place-next_row.ensures.row (λ l. ap (λ r. r.degree) (e.same l)) (λ l. ap (λ r. r.place) (e.same l)) e.grown e.less e.begun e.most e.degree e.place in
    record {
      turned = λ rows is.
          row_turn c.args.degrees.0 c.args.degrees.1 c.args.width row column 0 own.sum own.left.degree own.left.place new.sum new.most new.left.degree new.left.place i c.next_place-next_row.result.1 c.next_apart-number.result
          c.args.open.now.columns c.args.open.now.diagonals c.args.open.now.columns c.args.open.now.diagonals c.args.pairs.now.items c.args.pairs.now.items c.fill_all.new.pairs.items
          (omega (arith, c.requires.small, c.requires.smaller)) past c.requires.row (omega (arith, c.requires.column, c.next_open-at.ensures.low)) known c.next_place-next_row.ensures.row c.next_place-next_row.ensures.column
          (taken_none column c.args.open.now.columns) (with_none (row + column - 1) c.args.open.now.diagonals) (search rules) (search rules) least (and_zero_l (slice_index c.args.open.now.diagonals (row + column - 1)))
          c.next_apart-number.ensures.above c.next_apart-number.ensures.least c.in_ok-fill_all.ensures.turned rows is
          (subst (λ (n : ℕ). TurnsOverAllBelow c.args.degrees.0 c.args.degrees.1 c.args.width row column room rows c.args.open.now.columns c.args.open.now.diagonals n c.args.pairs.now.items c.args.pairs.now.items) (least_none row column room c.args.open.now.columns past)
          (free_start c.args.degrees.0 c.args.degrees.1 c.args.width row column room rows c.args.open.now.columns c.args.open.now.diagonals
          (omega (arith, c.requires.small, c.requires.smaller)) c.requires.row (omega arith) (omega (arith, c.requires.column, c.next_open-at.ensures.low)) is.high c.args.pairs.now.items));
      columns = c.in_ok-fill_all.ensures.columns;
      diagonals = c.in_ok-fill_all.ensures.diagonals;
      within = c.in_ok-fill_all.ensures.within;
    }

-- nothing at the place
pub after-blank-requires-clause-fits : goal.after-blank-requires-clause-fits
after-blank-requires-clause-fits t c = sum_fits c.args.row c.args.own.sum c.args.own.most c.args.own.left.degree c.requires.some c.requires.fits c.requires.most

pub fill_all-requires : goal.fill_all-requires
fill_all-requires t c =
    let past : 1 < c.args.row = omega (arith, c.requires.some, c.if-row-eq1.false) in
    let row : ℕ = c.args.row in
    let column : ℕ = c.next_open-at.result in
    let own = c.args.own in
    let new = c.after-blank.result in
    let i : ℕ = c.next_place-next_row.result.0 in
    let room : ℕ = own.left.degree - own.sum * (2 ^ row - 1) in
    let e = c.after-blank.ensures in
    let known = next_is row column 0 own.sum own.most own.left.degree own.left.place new.sum new.most new.left.degree new.left.place i past c.requires.row c.requires.fits c.requires.most (omega arith) c.next_place-next_row.ensures.row (λ l. ap (λ r. r.degree) (e.same l)) (λ l. ap (λ r. r.place) (e.same l)) e.grown e.less e.begun e.most e.degree e.place in
    let none : room - 0 * 2 ^ column * (2 ^ row - 1) ≡ room = nothing_there room (2 ^ column) (2 ^ row - 1) in
    let fits : new.sum * (2 ^ i - 1) ≤ new.left.degree = known.fits in
    let most : new.most ≡ (new.left.degree - new.sum * (2 ^ i - 1)) / (2 ^ i - 1) = known.most in
    let below : new.left.degree ≤ c.args.degrees.0 = omega (arith, known.less, c.requires.below) in
    let place : new.left.place + length (lists_of i new.left.degree) ≤ length (basis_of c.args.degrees.0) = omega (arith, known.place, c.requires.place) in
    let begun : i ≡ 1 → new.sum ≡ 0 = known.begun in
    let weight : degree_of c.args.open.now.diagonals + (degree_of (take c.args.width c.args.open.now.columns) + (new.left.degree - new.sum * (2 ^ i - 1))) ≡ c.args.degrees.1 = omega (arith, known.room, none, c.requires.weight) in
    let some : 0 < i = subst (λ n. 0 < n) (sym c.next_place-next_row.ensures.row) (next_some row column past) in
    let first : i ≡ 1 → c.next_place-next_row.result.1 ≡ c.args.width = λ one. c.next_place-next_row.ensures.column ∙ next_first c.args.width row column past (sym c.next_place-next_row.ensures.row ∙ one) in
    search rules

pub after-requires-clause-fits : goal.after-requires-clause-fits
after-requires-clause-fits t c = sum_fits c.args.row c.args.own.sum c.args.own.most c.args.own.left.degree c.requires.some c.requires.fits c.requires.most

pub after-requires-clause-greatest : goal.after-requires-clause-greatest
after-requires-clause-greatest t c = greatest_fits c.next_open-at.result c.args.own.most c.loop-number.number c.args.open.now.columns (omega (arith, c.loop-number-test.true, c.from.ensures, c.greatest-greatest.ensures))

pub put-requires-clause-fits : goal.put-requires-clause-fits
put-requires-clause-fits t c some =
    let at : ℕ = c.next_open-at.result in
    let v : ℕ = c.loop-number.number in
    subst (λ (xs : List ℕ). v ≤ slice_index xs (at - 1)) (sym c.loop-number.invariant.columns) (greatest_column at c.args.own.most v c.args.open.now.columns (omega (arith, c.loop-number-test.true, c.from.ensures, c.greatest-greatest.ensures)) some)

-- what is open once the number is put there
abbrev is_put : ℕ → ℕ → ℕ → List ℕ → List ℕ → List ℕ → List ℕ → Type 0
is_put row column v columns diagonals columns' diagonals' = (columns' ≡ taken column v columns) × (diagonals' ≡ with_number row column diagonals v)

put_there : (row column v : ℕ) (columns diagonals now_columns now_diagonals columns' diagonals' : List ℕ) → now_columns ≡ columns → now_diagonals ≡ diagonals
    → columns' ≡ taken column v now_columns → diagonals' ≡ with_number row column now_diagonals v → is_put row column v columns diagonals columns' diagonals'
put_there row column v columns diagonals now_columns now_diagonals columns' diagonals' same_columns same_diagonals of_columns of_diagonals =
    (of_columns ∙ ap (taken column v) same_columns, of_diagonals ∙ ap (λ xs. with_number row column xs v) same_diagonals)

pub fill_all-requires-then-put-sum-eq0 : goal.fill_all-requires-then-put-sum-eq0
fill_all-requires-then-put-sum-eq0 t c =
    let past : 1 < c.args.row = omega (arith, c.requires.some, c.if-row-eq1.false) in
    let row : ℕ = c.args.row in
    let column : ℕ = c.next_open-at.result in
    let v : ℕ = c.loop-number.number in
    let own = c.args.own in
    let new = c.after.result in
    let next : ℕ = c.next_place-next_row.result.0 in
    let room : ℕ = own.left.degree - own.sum * (2 ^ row - 1) in
    let to : c.loop-number.number ≤ greatest_of c.next_open-at.result c.args.own.most c.args.open.now.columns = omega (arith, c.loop-number-test.true, c.from.ensures, c.greatest-greatest.ensures) in
    let within : v * 2 ^ column ≤ own.most = greatest_fits column own.most v c.args.open.now.columns to in
    let least : v ≤ greatest_free row column room c.args.open.now.columns = subst (λ n. v ≤ n) (greatest_same row column room own.most c.args.open.now.columns c.requires.some c.requires.most) to in
    let e = c.after.ensures in
    let known = next_is row column v own.sum own.most own.left.degree own.left.place new.sum new.most new.left.degree new.left.place next past c.requires.row c.requires.fits c.requires.most within c.next_place-next_row.ensures.row (λ l. ap (λ r. r.degree) (e.same l)) (λ l. ap (λ r. r.place) (e.same l)) e.grown e.less e.begun e.most e.degree e.place in
    let there = put_there row column v c.args.open.now.columns c.args.open.now.diagonals c.loop-number.open.columns c.loop-number.open.diagonals c.put.new.self.columns c.put.new.self.diagonals c.loop-number.invariant.columns c.loop-number.invariant.diagonals c.put.ensures.columns c.put.ensures.diagonals in
    let fits : new.sum * (2 ^ next - 1) ≤ new.left.degree = known.fits in
    let most : new.most ≡ (new.left.degree - new.sum * (2 ^ next - 1)) / (2 ^ next - 1) = known.most in
    let below : new.left.degree ≤ c.args.degrees.0 = omega (arith, known.less, c.requires.below) in
    let place : new.left.place + length (lists_of next new.left.degree) ≤ length (basis_of c.args.degrees.0) = omega (arith, known.place, c.requires.place) in
    let begun : next ≡ 1 → new.sum ≡ 0 = known.begun in
    let weight : degree_of c.put.new.self.diagonals + (degree_of (take c.args.width c.put.new.self.columns) + (new.left.degree - new.sum * (2 ^ next - 1))) ≡ c.args.degrees.1 =
    ap (λ xs. degree_of xs + (degree_of (take c.args.width c.put.new.self.columns) + (new.left.degree - new.sum * (2 ^ next - 1)))) there.1
    ∙ ap (λ xs. degree_of (with_number row column c.args.open.now.diagonals v) + (degree_of (take c.args.width xs) + (new.left.degree - new.sum * (2 ^ next - 1)))) there.0
    ∙ ap (λ n. degree_of (with_number row column c.args.open.now.diagonals v) + (degree_of (take c.args.width (taken column v c.args.open.now.columns)) + n)) known.room
    ∙ put_weight c.args.degrees.1 room c.args.width c.args.open.now.columns c.args.open.now.diagonals row column v (omega arith) c.requires.row (omega (arith, c.requires.column, c.next_open-at.ensures.low)) c.requires.width (search rules) (search rules) least c.if-put-sum-eq0.true c.requires.weight
    in
    let some : 0 < next = subst (λ n. 0 < n) (sym c.next_place-next_row.ensures.row) (next_some row column past) in
    let first : next ≡ 1 → c.next_place-next_row.result.1 ≡ c.args.width = λ one. c.next_place-next_row.ensures.column ∙ next_first c.args.width row column past (sym c.next_place-next_row.ensures.row ∙ one) in
    let falls : next * 9 + c.next_place-next_row.result.1 < row * 9 + column =
    subst (λ n. n * 9 + c.next_place-next_row.result.1 < row * 9 + column) (sym c.next_place-next_row.ensures.row)
    (subst (λ n. next_row row column * 9 + n < row * 9 + column) (sym c.next_place-next_row.ensures.column) (next_falls c.args.width row column past c.requires.width))
    in
    let high : next ≤ 8 = next_high row column next c.next_place-next_row.ensures.row c.requires.row in
    let right : c.next_place-next_row.result.1 ≤ c.args.width = next_right c.args.width row column c.next_place-next_row.result.1 c.next_place-next_row.ensures.column (omega (arith, c.requires.column, c.next_open-at.ensures.low)) in
    (omega (arith, falls, c.decreases, c.next_open-at.ensures.low), search rules)

pub take_back-requires-clause-room : goal.take_back-requires-clause-room
take_back-requires-clause-room t c some =
    let row : ℕ = c.args.row in
    let column : ℕ = c.next_open-at.result in
    let v : ℕ = c.loop-number.number in
    let to : v ≤ greatest_of column c.args.own.most c.args.open.now.columns = omega (arith, c.loop-number-test.true, c.from.ensures, c.greatest-greatest.ensures) in
    let there = put_there row column v c.args.open.now.columns c.args.open.now.diagonals c.loop-number.open.columns c.loop-number.open.diagonals c.put.new.self.columns c.put.new.self.diagonals c.loop-number.invariant.columns c.loop-number.invariant.diagonals c.put.ensures.columns c.put.ensures.diagonals in
    let here : slice_index c.fill_all-then-put-sum-eq0.new.open.columns (column - 1) ≡ slice_index (taken column v c.args.open.now.columns) (column - 1) = ap (λ xs. slice_index xs (column - 1)) (c.in_ok-fill_all-2.ensures.columns ∙ there.0) in
    let whole = back_fits column v c.args.open.now.columns some (omega (arith, eight c.args.open.now.columns (search rules), c.requires.column, c.requires.width, c.next_open-at.ensures.low)) (greatest_column column c.args.own.most v c.args.open.now.columns to some) in
    let small : slice_index c.args.open.now.columns (column - 1) < 2 ^ 16 = search rules in
    omega (arith, here, whole, small)

pub loop-number-preserved-then-put-sum-eq0 : goal.loop-number-preserved-then-put-sum-eq0
loop-number-preserved-then-put-sum-eq0 t c =
    let past : 1 < c.args.row = omega (arith, c.requires.some, c.if-row-eq1.false) in
    let row : ℕ = c.args.row in
    let column : ℕ = c.next_open-at.result in
    let own = c.args.own in
    let new = c.after.result in
    let i : ℕ = c.next_place-next_row.result.0 in
    let room : ℕ = own.left.degree - own.sum * (2 ^ row - 1) in
    let n : ℕ = c.loop-number.number in
    let to : n ≤ greatest_of column own.most c.args.open.now.columns = omega (arith, c.loop-number-test.true, c.from.ensures, c.greatest-greatest.ensures) in
    let within : n * 2 ^ column ≤ own.most = greatest_fits column own.most n c.args.open.now.columns to in
    let most : n ≤ greatest_free row column room c.args.open.now.columns = subst (λ m. n ≤ m) (greatest_same row column room own.most c.args.open.now.columns c.requires.some c.requires.most) to in
    let e = c.after.ensures in
    let known = next_is row column n own.sum own.most own.left.degree own.left.place new.sum new.most new.left.degree new.left.place i past c.requires.row c.requires.fits c.requires.most within c.next_place-next_row.ensures.row (λ l. ap (λ r. r.degree) (e.same l)) (λ l. ap (λ r. r.place) (e.same l)) e.grown e.less e.begun e.most e.degree e.place in
    let there = put_there row column n c.args.open.now.columns c.args.open.now.diagonals c.loop-number.open.columns c.loop-number.open.diagonals c.put.new.self.columns c.put.new.self.diagonals c.loop-number.invariant.columns c.loop-number.invariant.diagonals c.put.ensures.columns c.put.ensures.diagonals in
    let at : ℕ = row + column - 1 in
    record {
      turned = λ rows is.
          row_turn c.args.degrees.0 c.args.degrees.1 c.args.width row column n own.sum own.left.degree own.left.place new.sum new.most new.left.degree new.left.place i c.next_place-next_row.result.1 c.next_apart-number-then-put-sum-eq0.result
          c.args.open.now.columns c.args.open.now.diagonals c.put.new.self.columns c.put.new.self.diagonals c.args.pairs.now.items c.loop-number.pairs.items c.fill_all-then-put-sum-eq0.new.pairs.items
          (omega (arith, c.requires.small, c.requires.smaller)) past c.requires.row (omega (arith, c.requires.column, c.next_open-at.ensures.low)) known c.next_place-next_row.ensures.row c.next_place-next_row.ensures.column
          there.0 there.1 (search rules) (search rules) most c.if-put-sum-eq0.true
          c.next_apart-number-then-put-sum-eq0.ensures.above c.next_apart-number-then-put-sum-eq0.ensures.least c.in_ok-fill_all-2.ensures.turned rows is (c.loop-number.invariant.turned rows is);
      columns =
          c.take_back.ensures.columns ∙ ap (added column n) (c.in_ok-fill_all-2.ensures.columns ∙ there.0)
          ∙ taken_back column n c.args.open.now.columns (omega (arith, eight c.args.open.now.columns (search rules), c.requires.column, c.requires.width, c.next_open-at.ensures.low)) (greatest_column column own.most n c.args.open.now.columns to);
      diagonals =
          c.take_back.ensures.diagonals ∙ ap (λ xs. slice_set xs at (slice_index c.args.open.now.diagonals at)) (c.in_ok-fill_all-2.ensures.diagonals ∙ there.1)
          ∙ set_back at (bit_or (slice_index c.args.open.now.diagonals at) n) c.args.open.now.diagonals;
      within = c.in_ok-fill_all-2.ensures.within;
    }

pub loop-number-preserved : goal.loop-number-preserved
loop-number-preserved t c =
    let room : ℕ = c.args.own.left.degree - c.args.own.sum * (2 ^ c.args.row - 1) in
    let sum : ℕ = slice_index c.args.open.now.diagonals (c.args.row + c.next_open-at.result - 1) in
    let above : ℕ = number_above c.args.width c.args.row c.next_open-at.result c.args.open.now.columns in
    record {
      turned = λ rows is.
          subst (λ (n : ℕ). TurnsOverAllBelow c.args.degrees.0 c.args.degrees.1 c.args.width c.args.row c.next_open-at.result room rows c.args.open.now.columns c.args.open.now.diagonals n c.args.pairs.now.items c.loop-number.pairs.items) (sym (add-one c.loop-number.number))
          (free_shut c.args.degrees.0 c.args.degrees.1 c.args.width c.args.row c.next_open-at.result room rows c.args.open.now.columns c.args.open.now.diagonals
          (omega (arith, c.requires.small, c.requires.smaller)) c.requires.row (omega (arith, c.requires.some)) (omega (arith, c.requires.column, c.next_open-at.ensures.low)) is.high c.args.pairs.now.items c.loop-number.number c.loop-number.pairs.items
          (inl (λ e. c.if-put-sum-eq0.false (apart_both c.loop-number.number sum above e))) (c.loop-number.invariant.turned rows is));
      columns = c.loop-number.invariant.columns;
      diagonals = c.loop-number.invariant.diagonals;
      within = c.loop-number.invariant.within;
    }

pub returns : goal.returns
returns t c =
    let row : ℕ = c.args.row in
    let at : ℕ = c.next_open-at.result in
    let columns : List ℕ = c.args.open.now.columns in
    let room : ℕ = c.args.own.left.degree - c.args.own.sum * (2 ^ row - 1) in
    let right : at ≤ c.args.width = omega (arith, c.requires.column, c.next_open-at.ensures.low) in
    let same = λ (j : ℕ). greatest_same row j room c.args.own.most columns c.requires.some c.requires.most in
    let whole : c.args.column - at + at ≡ c.args.column = omega (arith, c.next_open-at.ensures.low) in
    record {
      turned = λ rows is.
          let ended = free_end c.args.degrees.0 c.args.degrees.1 c.args.width row at room rows columns c.args.open.now.diagonals
          (omega (arith, c.requires.small, c.requires.smaller)) c.requires.row (omega (arith, c.requires.some)) right is.high c.args.pairs.now.items c.loop-number.number c.loop-number.pairs.items
          (omega (arith, same at, c.loop-number-test.false, c.from.ensures, c.greatest-greatest.ensures)) (c.loop-number.invariant.turned rows is)
          in
          subst (λ (n : ℕ). TurnsOverAll c.args.degrees.0 c.args.degrees.1 c.args.width row n room rows columns c.args.open.now.diagonals c.args.pairs.now.items c.loop-number.pairs.items) whole
          (pass_over c.args.degrees.0 c.args.degrees.1 c.args.width row room rows columns c.args.open.now.diagonals (omega (arith, c.requires.small, c.requires.smaller)) (omega (arith, c.requires.some, c.if-row-eq1.false)) c.requires.row is.high (search rules) (search rules)
          c.args.pairs.now.items c.loop-number.pairs.items (c.args.column - at) at (omega (arith, c.requires.column)) (λ j l m. sym (same j) ∙ c.next_open-at.ensures.shut j l (omega arith)) ended);
      columns = c.loop-number.invariant.columns;
      diagonals = c.loop-number.invariant.diagonals;
      within = c.loop-number.invariant.within;
    }
