-- Each number has its turn.
use Rattle.std.proofs.Common.{◌≡◌, ◌≢◌, ℕ, ◌<◌, ◌≤◌, ◌-◌, ◌+◌, ◌*◌, ◌/◌, ◌^◌, suc, refl, List, length, take, min, subst, arith, rules, slice_index, bit_and, bit_or}
use Rattle.milnor_basis.specs.Exponents.{degree_of}
use Rattle.milnor_basis.specs.Basis.{lists_of, basis_of}
use Rattle.milnor_basis.specs.Inside.FreeRows.{IsInFirstRow, TurnsOverAll}
use Rattle.milnor_basis.proofs.PlacesLeft.{place_within}
use Rattle.milnor_basis.proofs.Weights.{last_weight}
use Rattle.milnor_basis.proofs.FreeFill.{TurnsOverAllBelow}
use Rattle.milnor_basis.proofs.FirstRow.{first_shuts, first_end}
use Rattle.milnor_basis.proofs.FirstTurn.{takes, leaves_weight, leaves_place, next_none, goes_on}
use Rattle.milnor_basis.proofs.all_products.+fill_first.Goals as goal
use Rattle.milnor_basis.proofs.all_products.+fill_first.Goals.{then-next_above-first-eq0+then-column-eq1+in_ok-put_down, then-next_above-first-eq0+else-column-eq1+in_ok-fill_first, else-next_above-first-eq0}

pub counted-next_term-requires-clause-fits : goal.counted-next_term-requires-clause-fits
counted-next_term-requires-clause-fits t c =
    let to : c.loop-number.number ≤ min (c.args.room / 2 ^ c.args.column) (slice_index c.args.first.now.columns (c.args.column - 1)) = omega (arith, c.loop-number-test.true, c.from.ensures, c.min-greatest.ensures) in
    takes c.args.first.now.degrees.0 c.args.first.now.degrees.1 c.args.first.now.width c.args.column c.args.room c.args.above c.args.term.degree c.args.term.place c.args.first.now.left c.loop-number.number c.args.first.now.columns c.args.first.now.diagonals
    c.requires.degree c.requires.width c.requires.some c.requires.column (search rules) (search rules) c.requires.weight c.requires.apart c.if-put-digits-eq0.true to

pub put_down-requires-clause-weight : goal.put_down-requires-clause-weight
put_down-requires-clause-weight t c =
    let to : c.loop-number.number ≤ min (c.args.room / 2 ^ c.args.column) (slice_index c.args.first.now.columns (c.args.column - 1)) = omega (arith, c.loop-number-test.true, c.from.ensures, c.min-greatest.ensures) in
    last_weight (c.args.column - 1) c.counted-next_term.result.degree c.less-next_room.result (slice_index c.args.first.now.columns (c.args.column - 1) - c.loop-number.number) c.args.first.now.columns c.args.first.now.diagonals (omega (arith, c.if-column-eq1.true)) (search rules)
    (leaves_weight c.args.first.now.degrees.0 c.args.first.now.degrees.1 c.args.first.now.width c.args.column c.args.room c.args.above c.args.term.degree c.args.term.place c.args.first.now.left c.loop-number.number c.args.first.now.columns c.args.first.now.diagonals
    c.requires.degree c.requires.width c.requires.some c.requires.column (search rules) (search rules) c.requires.weight c.requires.apart c.if-put-digits-eq0.true to
    c.counted-next_term.result.degree c.counted-next_term.result.place c.less-next_room.result c.counted-next_term.ensures.degree c.counted-next_term.ensures.place c.less-next_room.ensures)

pub put_down-requires-clause-place : goal.put_down-requires-clause-place
put_down-requires-clause-place t c =
    let to : c.loop-number.number ≤ min (c.args.room / 2 ^ c.args.column) (slice_index c.args.first.now.columns (c.args.column - 1)) = omega (arith, c.loop-number-test.true, c.from.ensures, c.min-greatest.ensures) in
    place_within (c.args.column - 1) c.counted-next_term.result.degree c.counted-next_term.result.place (length (basis_of c.args.first.now.degrees.1)) (omega (arith, c.if-column-eq1.true))
    (leaves_place c.args.first.now.degrees.0 c.args.first.now.degrees.1 c.args.first.now.width c.args.column c.args.room c.args.above c.args.term.degree c.args.term.place c.args.first.now.left c.loop-number.number c.args.first.now.columns c.args.first.now.diagonals
    c.requires.degree c.requires.width c.requires.some c.requires.column (search rules) (search rules) c.requires.weight c.requires.apart c.if-put-digits-eq0.true to
    c.counted-next_term.result.degree c.counted-next_term.result.place c.less-next_room.result c.counted-next_term.ensures.degree c.counted-next_term.ensures.place c.less-next_room.ensures
    (length (basis_of c.args.first.now.degrees.1)) c.requires.place)

-- what a number that has its turn leaves
pub fill_first-requires : goal.fill_first-requires
fill_first-requires t c =
    let column = c.args.column in
    let cs = c.args.first.now.columns in
    let ds = c.args.first.now.diagonals in
    let to : c.loop-number.number ≤ min (c.args.room / 2 ^ column) (slice_index cs (column - 1)) = omega (arith, c.loop-number-test.true, c.from.ensures, c.min-greatest.ensures) in
    let weight : c.counted-next_term.result.degree ≡ degree_of (take (column - 1 + 1) ds) + ((slice_index cs (column - 1) - c.loop-number.number) * (2 ^ (column - 1 + 1) - 1) + (degree_of (take (column - 1) cs) + c.less-next_room.result)) =
    leaves_weight c.args.first.now.degrees.0 c.args.first.now.degrees.1 c.args.first.now.width column c.args.room c.args.above c.args.term.degree c.args.term.place c.args.first.now.left c.loop-number.number cs ds
    c.requires.degree c.requires.width c.requires.some c.requires.column (search rules) (search rules) c.requires.weight c.requires.apart c.if-put-digits-eq0.true to
    c.counted-next_term.result.degree c.counted-next_term.result.place c.less-next_room.result c.counted-next_term.ensures.degree c.counted-next_term.ensures.place c.less-next_room.ensures
    in
    let place : c.counted-next_term.result.place + length (lists_of (column - 1 + 1) c.counted-next_term.result.degree) ≤ length (basis_of c.args.first.now.degrees.1) =
    leaves_place c.args.first.now.degrees.0 c.args.first.now.degrees.1 c.args.first.now.width column c.args.room c.args.above c.args.term.degree c.args.term.place c.args.first.now.left c.loop-number.number cs ds
    c.requires.degree c.requires.width c.requires.some c.requires.column (search rules) (search rules) c.requires.weight c.requires.apart c.if-put-digits-eq0.true to
    c.counted-next_term.result.degree c.counted-next_term.result.place c.less-next_room.result c.counted-next_term.ensures.degree c.counted-next_term.ensures.place c.less-next_room.ensures
    (length (basis_of c.args.first.now.degrees.1)) c.requires.place
    in
    let some : 0 < column - 1 = omega (arith, c.requires.some, c.if-column-eq1.false) in
    let small : c.counted-next_term.result.degree ≤ 255 = omega (arith, c.requires.small, c.counted-next_term.ensures.degree) in
    let reach : c.counted-next_term.result.degree ≤ c.args.counts.now = omega (arith, c.requires.reach, c.counted-next_term.ensures.degree) in
    search rules

pub loop-number-preserved-then-put-digits-eq0 : goal.loop-number-preserved-then-put-digits-eq0
loop-number-preserved-then-put-digits-eq0 t c =
    let column = c.args.column in
    let room = c.args.room in
    let v = c.loop-number.number in
    let cs = c.args.first.now.columns in
    let ds = c.args.first.now.diagonals in
    let d : ℕ = slice_index ds column in
    let below : ℕ = c.args.term.degree - bit_or (bit_or d c.args.above) v * (2 ^ (column + 1) - 1) in
    let place : ℕ = c.args.term.place + (length (lists_of (column + 1) c.args.term.degree) - length (lists_of (column + 1) below)) in
    let to : v ≤ min (room / 2 ^ column) (slice_index cs (column - 1)) = omega (arith, c.loop-number-test.true, c.from.ensures, c.min-greatest.ensures) in
    let go = goes_on c.args.first.now.degrees.0 c.args.first.now.degrees.1 c.args.first.now.width column room c.args.above c.args.term.degree c.args.term.place c.args.first.now.left v cs ds
    c.requires.degree c.requires.width c.requires.some c.requires.column (search rules) (search rules) c.requires.weight c.requires.apart c.if-put-digits-eq0.true to
    in
    let none = next_none c.args.first.now.degrees.0 c.args.first.now.degrees.1 c.args.first.now.width column room c.args.above c.args.term.degree c.args.term.place c.args.first.now.left v cs ds
    c.requires.degree c.requires.width c.requires.some c.requires.column (search rules) (search rules) c.requires.weight c.requires.apart c.if-put-digits-eq0.true to below place (room - v * 2 ^ column) refl refl refl
    in
    let past = c.next_apart-number.result in
    let least = c.next_apart-number.ensures in
    record {
      turned = λ rows columns diagonals is. elim c.if-next_above-first-eq0.branch [
        | then-next_above-first-eq0+then-column-eq1+in_ok-put_down w ↦
            let zero : 0 ≡ column - 1 = omega (arith, w.if-column-eq1.true) in
            rw w.pairs-is (go w.counted-next_term.result.degree w.counted-next_term.result.place w.less-next_room.result w.counted-next_term.ensures.degree w.counted-next_term.ensures.place w.less-next_room.ensures
            past c.args.pairs.now.items c.loop-number.pairs.items w.put_down.new.pairs.items least.above least.least
            (subst (λ (k : ℕ). (rows columns diagonals : List ℕ) → IsInFirstRow c.args.first.now.degrees.0 c.args.first.now.degrees.1 c.args.first.now.width k w.less-next_room.result (slice_index cs (column - 1) - v) w.counted-next_term.result.degree w.counted-next_term.result.place c.args.first.now.left cs ds rows columns diagonals
            → TurnsOverAll c.args.first.now.degrees.0 c.args.first.now.degrees.1 c.args.first.now.width 1 k w.less-next_room.result rows columns diagonals c.loop-number.pairs.items w.put_down.new.pairs.items) zero w.in_ok-put_down.ensures.turned)
            rows columns diagonals is (c.loop-number.invariant.turned rows columns diagonals is))
        | then-next_above-first-eq0+else-column-eq1+in_ok-fill_first w ↦
            rw w.pairs-is (go w.counted-next_term.result.degree w.counted-next_term.result.place w.less-next_room.result w.counted-next_term.ensures.degree w.counted-next_term.ensures.place w.less-next_room.ensures
            past c.args.pairs.now.items c.loop-number.pairs.items w.fill_first.new.pairs.items least.above least.least w.in_ok-fill_first.ensures.turned
            rows columns diagonals is (c.loop-number.invariant.turned rows columns diagonals is))
        | else-next_above-first-eq0 w ↦
            rw w.pairs-is (go below place (room - v * 2 ^ column) refl refl refl
            past c.args.pairs.now.items c.loop-number.pairs.items c.loop-number.pairs.items least.above least.least (none w.if-next_above-first-eq0.false c.loop-number.pairs.items)
            rows columns diagonals is (c.loop-number.invariant.turned rows columns diagonals is))
      ];
      within = elim c.if-next_above-first-eq0.branch [
        | then-next_above-first-eq0+then-column-eq1+in_ok-put_down w ↦ rw w.pairs-is w.in_ok-put_down.ensures.within
        | then-next_above-first-eq0+else-column-eq1+in_ok-fill_first w ↦ rw w.pairs-is w.in_ok-fill_first.ensures.within
        | else-next_above-first-eq0 w ↦ rw w.pairs-is c.loop-number.invariant.within
      ];
    }

pub loop-number-preserved : goal.loop-number-preserved
loop-number-preserved t c =
    let v = c.loop-number.number in
    let one : 1 + v ≡ v + 1 = omega arith in
    record {
      turned = λ rows columns diagonals is.
          subst (λ (m : ℕ). TurnsOverAllBelow c.args.first.now.degrees.0 c.args.first.now.degrees.1 c.args.first.now.width 1 c.args.column c.args.room rows columns diagonals m c.args.pairs.now.items c.loop-number.pairs.items) one
          (first_shuts c.args.first.now.degrees.0 c.args.first.now.degrees.1 c.args.first.now.width c.args.column c.args.room c.args.above c.args.term.degree c.args.term.place c.args.first.now.left c.args.first.now.columns c.args.first.now.diagonals rows columns diagonals c.requires.degree c.requires.width c.requires.column is c.args.pairs.now.items 1 v c.loop-number.pairs.items
          (λ n l m. let same : v ≡ n = omega arith in subst (λ k. bit_and k (bit_or (slice_index c.args.first.now.diagonals c.args.column) c.args.above) ≢ 0) same c.if-put-digits-eq0.false)
          (c.loop-number.invariant.turned rows columns diagonals is));
      within = c.loop-number.invariant.within;
    }

pub returns-clause-turned : goal.returns-clause-turned
returns-clause-turned t c =
    let later : c.args.column ≡ suc (c.args.column - 1) = omega (arith, c.requires.some) in
    λ rows columns diagonals is.
    first_end c.args.first.now.degrees.0 c.args.first.now.degrees.1 c.args.first.now.width c.args.column c.args.room c.args.above c.args.term.degree c.args.term.place c.args.first.now.left c.args.first.now.columns c.args.first.now.diagonals rows columns diagonals c.requires.degree c.requires.width c.requires.column is c.args.pairs.now.items (c.args.column - 1) c.loop-number.number c.loop-number.pairs.items later
    (omega (arith, c.loop-number-test.false, c.from.ensures, c.min-greatest.ensures)) (c.loop-number.invariant.turned rows columns diagonals is)
