use Rattle.std.proofs.Common.{◌≡◌, ℕ, ◌+◌, ◌<◌, pos, ◌+ℤ◌, length, ap, sym, subst, ◌∙◌, w32, arith}
use Rattle.std.proofs.lemmas.Int.{ints, to_z-of_z}
use Rattle.std.proofs.lemmas.Result.{IfOk-weaker}
use Rattle.std.specs.Prelude.{slice_index_or, IfOk}
use Rattle.square.specs.Squares.{bottom_of}
use Rattle.lift_laws.specs.Products.{count_of}
use Rattle.chain_map.specs.Lifting.{resolution_of, IsLiftOver, no_lift}
use Rattle.chain_map.proofs.making.lifts.Goals as goal
use Rattle.chain_map.proofs.making.lifts.Goals.{After-above_at-above}

-- how far the square is above the bottom
above-is : (c : After-above_at-above) (above : ℕ) → c.args.t ≡ bottom_of c.args.table.now.resolved +ℤ pos above → c.above_at-above.result ≡ above
above-is c above e = let at = sym (to_z-of_z w32 c.args.t c.ranges.t) ∙ c.above_at-above.ensures.above in omega (arith, ints, e)

pub lifts_of-requires-clause-classes : goal.lifts_of-requires-clause-classes
lifts_of-requires-clause-classes c = omega (arith, ap length c.images_of-count.ensures.images)

pub returns-clause-one_each : goal.returns-clause-one_each
returns-clause-one_each c = λ above e.
    let same = above-is ((goal.at.returns-clause-one_each c).After-above_at-above) above e in
    let count = ap length c.images_of-count.ensures.images ∙ ap (count_of (resolution_of c.args.table.now) c.args.s) same in
    subst (λ (n : ℕ). IfOk c.lifts_of.result (λ lifts. length lifts.items ≡ n)) count c.lifts_of.ensures.one_each

pub returns-clause-lifts : goal.returns-clause-lifts
returns-clause-lifts c = λ above e.
    let table = c.args.table.now in
    let sphere = c.args.sphere.now in
    let first : (j : ℕ) → 0 + j ≡ j = λ j. omega arith in
    let same = above-is ((goal.at.returns-clause-lifts c).After-above_at-above) above e in
    let given = subst (λ (k : ℕ). IfOk c.lifts_of.result (λ lifts. (j : ℕ) → j < length lifts.items → IsLiftOver table sphere c.args.s k (0 + j) c.args.upto (slice_index_or lifts.items j no_lift))) same c.lifts_of.ensures.lifts in
    IfOk-weaker c.lifts_of.result
    (λ lifts. (j : ℕ) → j < length lifts.items → IsLiftOver table sphere c.args.s above (0 + j) c.args.upto (slice_index_or lifts.items j no_lift))
    (λ lifts. (j : ℕ) → j < length lifts.items → IsLiftOver table sphere c.args.s above j c.args.upto (slice_index_or lifts.items j no_lift))
    (λ lifts are j l. subst (λ (i : ℕ). IsLiftOver table sphere c.args.s above i c.args.upto (slice_index_or lifts.items j no_lift)) (first j) (are j l)) given
