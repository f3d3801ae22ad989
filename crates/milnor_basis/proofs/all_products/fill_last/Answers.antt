use Rattle.std.proofs.Common.{◌≡◌, ℕ, ◌<◌, ◌≤◌, ◌-◌, ◌+◌, ◌*◌, ◌^◌, Some, List, length, take, drop, sym, subst, arith, rules, slice_index, slice_get}
use Rattle.std.proofs.lemmas.Result.{on_ok_weaker}
use Rattle.milnor_basis.specs.Exponents.{degree_of, trimmed}
use Rattle.milnor_basis.specs.Basis.{lists_of, basis_of}
use Rattle.milnor_basis.specs.Inside.FreeRows.{added, ArePlaced, IsInFirstRow, TurnsOverAll}
use Rattle.milnor_basis.proofs.PlacesLeft.{none_chosen, past_eighth, all_of_nine, degree_of_nine, last_left, chosen_placed, chosen_room, place_within}
use Rattle.milnor_basis.proofs.Weights.{last_weight}
use Rattle.milnor_basis.proofs.FirstRow.{first_begin}
use Rattle.milnor_basis.proofs.all_products.fill_last.Goals as goal

pub chosen-term-requires-clause-fits : goal.chosen-term-requires-clause-fits
chosen-term-requires-clause-fits c =
    let last = last_left c.args.open.now.diagonals c.loop-k.k (omega (arith, c.loop-k-test.true)) (omega (arith, c.loop-k.invariant.high, wide c.args.open.now.diagonals (search rules))) in
    omega (arith, c.loop-k.invariant.weight, last.0)
  where
    wide : (xs : List ℕ) → length xs ≡ 16 → 9 ≤ length xs
    wide xs e = omega arith

pub loop-k-preserved : goal.loop-k-preserved
loop-k-preserved c =
    let inv = c.loop-k.invariant in
    let k = c.loop-k.k in
    let ds = c.args.open.now.diagonals in
    let e : ℕ = slice_index ds (k - 1) in
    let m = c.loop-k.term.degree in
    let left = c.chosen-term.result.degree in
    let some : 0 < k = omega (arith, c.loop-k-test.true) in
    let long : length ds ≡ 16 = search rules in
    let last = last_left ds k some (omega (arith, inv.high)) in
    let is_left : left ≡ m - e * (2 ^ k - 1) = c.chosen-term.ensures.degree in
    let is : m ≡ left + e * (2 ^ k - 1) = omega (arith, inv.weight, last.0) in
    let room = chosen_room k m left e c.loop-k.term.place c.chosen-term.result.place some is c.chosen-term.ensures.place in
    record {
      low = omega (arith, c.loop-k-test.true);
      high = omega (arith, inv.high);
      small = omega (arith, inv.small);
      weight = omega (arith, inv.weight, last.0);
      room = omega (arith, inv.room);
      placed = subst (ArePlaced c.args.degrees.1 (k - 1) left c.chosen-term.result.place) last.1
          (chosen_placed k m left e c.loop-k.term.place c.chosen-term.result.place some is c.chosen-term.ensures.place c.args.degrees.1 (drop k ds) inv.placed);
    }

-- Row 1 begins once T past its diagonals is chosen.
begun : (degree product w k room below place left : ℕ) (rows columns diagonals : List ℕ) → k ≡ w + 1 → length rows ≡ 8 → length columns ≡ 8 → length diagonals ≡ 16 → slice_get (basis_of degree) left ≡ Some (trimmed (added 1 room rows))
    → ArePlaced product k below place (drop k diagonals) → IsInFirstRow degree product w w room 0 below place left columns diagonals rows columns diagonals
begun degree product w k room below place left rows columns diagonals all high wide long at placed =
    first_begin degree product w room below place left rows columns diagonals high wide long at (subst (λ n. ArePlaced product n below place (drop n diagonals)) all placed)

pub put_down-requires-clause-weight : goal.put_down-requires-clause-weight
put_down-requires-clause-weight c =
    let all : c.loop-k.k ≡ c.args.width + 1 = omega (arith, c.loop-k-test.false, c.loop-k.invariant.low) in
    let weight : c.loop-k.term.degree ≡ degree_of (take (c.args.width + 1) c.args.open.now.diagonals) + (degree_of (take c.args.width c.args.open.now.columns) + c.args.room) =
    subst (λ k. c.loop-k.term.degree ≡ degree_of (take k c.args.open.now.diagonals) + (degree_of (take c.args.width c.args.open.now.columns) + c.args.room)) all c.loop-k.invariant.weight
    in
    last_weight c.args.width c.loop-k.term.degree c.args.room 0 c.args.open.now.columns c.args.open.now.diagonals c.if-width-eq0.true (search rules) (omega (arith, weight))

pub put_down-requires-clause-place : goal.put_down-requires-clause-place
put_down-requires-clause-place c =
    let all : c.loop-k.k ≡ c.args.width + 1 = omega (arith, c.loop-k-test.false, c.loop-k.invariant.low) in
    place_within c.args.width c.loop-k.term.degree c.loop-k.term.place (length (basis_of c.args.degrees.1)) c.if-width-eq0.true
    (subst (λ k. c.loop-k.term.place + length (lists_of k c.loop-k.term.degree) ≤ length (basis_of c.args.degrees.1)) all c.loop-k.invariant.room)

pub returns-then-width-eq0-clause-turned : goal.returns-then-width-eq0-clause-turned
returns-then-width-eq0-clause-turned c =
    let all : c.loop-k.k ≡ c.args.width + 1 = omega (arith, c.loop-k-test.false, c.loop-k.invariant.low) in
    let zero : c.args.width ≡ 0 = c.if-width-eq0.true in
    on_ok_weaker c.put_down.result
    (λ (turns : (rows columns diagonals : List ℕ) → IsInFirstRow c.args.degrees.0 c.args.degrees.1 c.args.width 0 c.args.room 0 c.loop-k.term.degree c.loop-k.term.place c.args.left c.args.open.now.columns c.args.open.now.diagonals rows columns diagonals
    → TurnsOverAll c.args.degrees.0 c.args.degrees.1 c.args.width 1 0 c.args.room rows columns diagonals c.args.pairs.now.items c.put_down.new.pairs.items).
    λ rows high at.
    let there = begun c.args.degrees.0 c.args.degrees.1 c.args.width c.loop-k.k c.args.room c.loop-k.term.degree c.loop-k.term.place c.args.left rows c.args.open.now.columns c.args.open.now.diagonals all high (search rules) (search rules) at c.loop-k.invariant.placed in
    subst (λ (n : ℕ). TurnsOverAll c.args.degrees.0 c.args.degrees.1 c.args.width 1 n c.args.room rows c.args.open.now.columns c.args.open.now.diagonals c.args.pairs.now.items c.put_down.new.pairs.items) (sym zero)
    (turns rows c.args.open.now.columns c.args.open.now.diagonals (subst (λ (n : ℕ). IsInFirstRow c.args.degrees.0 c.args.degrees.1 c.args.width n c.args.room 0 c.loop-k.term.degree c.loop-k.term.place c.args.left c.args.open.now.columns c.args.open.now.diagonals rows c.args.open.now.columns c.args.open.now.diagonals) zero there)))
    c.put_down.ensures.turned

pub returns-clause-turned : goal.returns-clause-turned
returns-clause-turned c =
    let all : c.loop-k.k ≡ c.args.width + 1 = omega (arith, c.loop-k-test.false, c.loop-k.invariant.low) in
    on_ok_weaker c.fill_first.result
    (λ (turns : (rows columns diagonals : List ℕ) → IsInFirstRow c.args.degrees.0 c.args.degrees.1 c.args.width c.args.width c.args.room 0 c.loop-k.term.degree c.loop-k.term.place c.args.left c.args.open.now.columns c.args.open.now.diagonals rows columns diagonals
    → TurnsOverAll c.args.degrees.0 c.args.degrees.1 c.args.width 1 c.args.width c.args.room rows columns diagonals c.args.pairs.now.items c.fill_first.new.pairs.items).
    λ rows high at. turns rows c.args.open.now.columns c.args.open.now.diagonals (begun c.args.degrees.0 c.args.degrees.1 c.args.width c.loop-k.k c.args.room c.loop-k.term.degree c.loop-k.term.place c.args.left rows c.args.open.now.columns c.args.open.now.diagonals all high (search rules) (search rules) at c.loop-k.invariant.placed))
    c.fill_first.ensures.turned

pub loop-k-init : goal.loop-k-init
loop-k-init c =
    let small : degree_of c.args.open.now.diagonals ≤ 255 = omega (arith, c.requires.weight, c.requires.smaller) in
    record {
      low = omega (arith, c.requires.width);
      high = omega arith;
      small = omega arith;
      weight = omega (arith, c.requires.weight, degree_of_nine c.args.open.now.diagonals small);
      room = omega (arith, all_of_nine c.args.degrees.1 c.requires.smaller);
      placed = none_chosen c.args.degrees.1 9 (drop 9 c.args.open.now.diagonals) (past_eighth c.args.open.now.diagonals small);
    }
