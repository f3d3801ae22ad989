use Rattle.std.proofs.Common.{◌≡◌, ℕ, ◌+◌, ◌≤◌, ℤ, pos, List, length, take, get_or, false, Option, Some, SFits, to_z, of_z, w32, rules, sym, ◌∙◌, ap, subst, arith}
use Rattle.std.proofs.lemmas.Int.{to_z-of_z}
use Rattle.std.proofs.lemmas.Option.{slice_get-get_or}
use Rattle.bidegree.specs.Above.{above_of}
use Rattle.bidegree.proofs.Degrees.{above_of-is}
use Rattle.board_core.specs.Board.{below_fronts}
use Rattle.board_core.specs.Machine.{Squares, HasParents, IsNextSquare, squares_of, insert_square}
use Rattle.board_core.proofs.Starts.{next_square, same_above, one_more}
use Rattle.board_core.proofs.machine.fronts_of.Goals as goal
use Rattle.board_core.proofs.machine.fronts_of.Goals.{in-Some, in_default}

-- what was found at the degree of a square is its place
found : (b t u v : ℤ) (k : ℕ) (o : Option ℕ) → o ≡ above_of u v → u ≡ b → v ≡ t → o ≡ Some k → above_of b t ≡ Some k
found b t u v k o e f g is = ap (λ z. above_of z t) (sym f) ∙ ap (above_of u) (sym g) ∙ sym e ∙ is

here : (places : Squares) (b : ℤ) (list : List (ℕ × ℤ)) (i k : ℕ) (done before : Squares) (next : IsNextSquare places b (take i list) (get_or list i (0, pos 0))) → before ≡ squares_of b (take i list) → done ≡ before → above_of b (get_or list i (0, pos 0)).1 ≡ Some k → HasParents places done (get_or list i (0, pos 0)).0 k × (done (get_or list i (0, pos 0)).0 k ≡ false)
here places b list i k done before next e f at =
    let q = get_or list i (0, pos 0) in
    let same = same_above b q.1 k next.above at next.degree in
    let parents : HasParents places (squares_of b (take i list)) q.0 k = subst (λ (n : ℕ). HasParents places (squares_of b (take i list)) q.0 n) same next.parents in
    let absent : squares_of b (take i list) q.0 k ≡ false = subst (λ (n : ℕ). squares_of b (take i list) q.0 n ≡ false) same next.absent in
    let back : squares_of b (take i list) ≡ done = sym (f ∙ e) in
    (subst (λ (d : Squares). HasParents places d q.0 k) back parents, subst (λ (d : Squares). d q.0 k ≡ false) back absent)

pub add-requires-clause-row : goal.add-requires-clause-row
add-requires-clause-row c =
    let q = get_or c.args.start.now c.loop-s.s-index (0, pos 0) in
    let row : q.0 ≤ c.args.last = c.requires.rows c.loop-s.s-index q (slice_get-get_or c.args.start.now c.loop-s.s-index (0, pos 0) c.loop-s-test.true) in
    let rows = c.loop-s.invariant.rows in
    omega arith

pub add-requires-clause-before : goal.add-requires-clause-before
add-requires-clause-before c =
    let b = c.args.bottom in
    let list = c.args.start.now in
    let i = c.loop-s.s-index in
    let t = (get_or list i (0, pos 0)).1 in
    let low = to_z-of_z w32 b c.ranges.bottom in
    let fits : SFits w32 t = search rules in
    let at = found b t (to_z w32 (of_z w32 b)) (to_z w32 (of_z w32 t)) c.in-Some.above c.above_of.result c.above_of.ensures.above low (to_z-of_z w32 t fits) c.in-Some.is in
    let next = next_square c.requires.start.0 b list i (0, pos 0) c.requires.start.1 c.loop-s-test.true in
    (here c.requires.start.0 b list i c.in-Some.above (below_fronts c.loop-s.fronts) (squares_of (to_z w32 (of_z w32 b)) (take i list)) next (ap (λ z. squares_of z (take i list)) low) c.loop-s.invariant.squares at).0.before

pub add-requires-clause-absent : goal.add-requires-clause-absent
add-requires-clause-absent c =
    let b = c.args.bottom in
    let list = c.args.start.now in
    let i = c.loop-s.s-index in
    let t = (get_or list i (0, pos 0)).1 in
    let low = to_z-of_z w32 b c.ranges.bottom in
    let fits : SFits w32 t = search rules in
    let at = found b t (to_z w32 (of_z w32 b)) (to_z w32 (of_z w32 t)) c.in-Some.above c.above_of.result c.above_of.ensures.above low (to_z-of_z w32 t fits) c.in-Some.is in
    let next = next_square c.requires.start.0 b list i (0, pos 0) c.requires.start.1 c.loop-s-test.true in
    (here c.requires.start.0 b list i c.in-Some.above (below_fronts c.loop-s.fronts) (squares_of (to_z w32 (of_z w32 b)) (take i list)) next (ap (λ z. squares_of z (take i list)) low) c.loop-s.invariant.squares at).1

pub loop-s-preserved : goal.loop-s-preserved
loop-s-preserved c =
    let b = c.args.bottom in
    let list = c.args.start.now in
    let i = c.loop-s.s-index in
    let q = get_or list i (0, pos 0) in
    let low = to_z-of_z w32 b c.ranges.bottom in
    let fits : SFits w32 q.1 = search rules in
    let next = next_square c.requires.start.0 b list i (0, pos 0) c.requires.start.1 c.loop-s-test.true in
    let before : below_fronts c.loop-s.fronts ≡ squares_of b (take i list) = c.loop-s.invariant.squares ∙ ap (λ z. squares_of z (take i list)) low in
    let after : below_fronts c.match-above_of.fronts ≡ squares_of b (take (i + 1) list) = elim c.match-above_of.branch [
      | in-Some w ↦
          let at = found b q.1 (to_z w32 (of_z w32 b)) (to_z w32 (of_z w32 q.1)) w.in-Some.above c.above_of.result c.above_of.ensures.above low (to_z-of_z w32 q.1 fits) w.in-Some.is in
          ap below_fronts w.fronts-is ∙ w.add.ensures.squares ∙ ap (λ (d : Squares). insert_square d q.0 w.in-Some.above) before ∙ sym (one_more b list i (0, pos 0) w.in-Some.above c.loop-s-test.true at)
      | in_default w ↦
          let there = above_of-is b q.1 next.above next.degree in
          let here : c.above_of.result ≡ Some next.above = c.above_of.ensures.above ∙ ap (λ z. above_of z (to_z w32 (of_z w32 q.1))) low ∙ ap (above_of b) (to_z-of_z w32 q.1 fits) ∙ there in
          absurd (w.in_default.not-Some next.above here)
    ] in
    let rows : length c.match-above_of.fronts ≡ c.args.last + 1 = elim c.match-above_of.branch [
      | in-Some w ↦ ap length w.fronts-is ∙ w.add.ensures.rows ∙ c.loop-s.invariant.rows
      | in_default w ↦ let there = above_of-is b q.1 next.above next.degree in
          let here : c.above_of.result ≡ Some next.above = c.above_of.ensures.above ∙ ap (λ z. above_of z (to_z w32 (of_z w32 q.1))) low ∙ ap (above_of b) (to_z-of_z w32 q.1 fits) ∙ there in
          absurd (w.in_default.not-Some next.above here)
    ] in
    record { squares = after ∙ ap (λ z. squares_of z (take (i + 1) list)) (sym low); rows = rows }
