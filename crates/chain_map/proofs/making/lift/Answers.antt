use Rattle.std.proofs.Common.{rules, ◌≡◌, ℕ, List, ◌+◌, ◌++◌, ◌∷◌, [], pos, ◌+ℤ◌, length, ap, sym, subst, ◌∙◌, w32, to_z, of_z, arith}
use Rattle.std.proofs.lemmas.Int.{ints}
use Rattle.std.proofs.lemmas.List.{get_or_push, length_push}
use Rattle.std.specs.Prelude.{slice_index_or}
use Rattle.square.specs.Squares.{bottom_of}
use Rattle.lift_laws.specs.Products.{count_of}
use Rattle.chain_map.specs.Lifting.{LiftValues, resolution_of, IsLiftOver, no_lift}
use Rattle.square.proofs.Pushing.{never_rises}
use Rattle.chain_map.proofs.making.lift.Goals as goal
use Rattle.chain_map.proofs.making.lift.Goals.{After-above_at-above}

pub prove-unreachable-requires : goal.prove-unreachable-requires
prove-unreachable-requires c =
    let is = c.front-longest.ensures.is_table in
    let more = never_rises c.args.table.now is 0 c.args.class.s (omega arith) in
    omega (arith, c.if-prove.true, c.requires.class.square)

-- how far the square is above the bottom
above-is : (c : After-above_at-above) (above : ℕ) → to_z w32 (of_z w32 c.args.class.t) ≡ c.args.class.t → c.args.class.t ≡ bottom_of c.args.table.now.resolved +ℤ pos above → c.above_at-above.result ≡ above
above-is c above t e = let at = sym t ∙ c.above_at-above.ensures.above in omega (arith, ints, e)

pub lifts_of-requires-clause-classes : goal.lifts_of-requires-clause-classes
lifts_of-requires-clause-classes c =
    let class = c.requires.class in
    let t : to_z w32 (of_z w32 c.args.class.t) ≡ c.args.class.t = search rules in
    let same = above-is ((goal.at.lifts_of-requires-clause-classes c).After-above_at-above) class.above t class.degree in
    omega (arith, class.generator, ap (count_of (resolution_of c.args.table.now) c.args.class.s) same)

pub returns : goal.returns
returns c = λ above e.
    let table = c.args.table.now in
    let class = c.args.class in
    let all = c.in_ok-lifts.lifts.items in
    let rest = c.pop.new.self.items in
    let lift = c.in-Some.lift in
    let parts : all ≡ rest ++ lift ∷ [] = c.in-Some.ensures.items in
    let len = ap length parts in
    let none : length rest ≡ 0 = omega (arith, c.in_ok-lifts.ensures.one_each, length_push rest lift) in
    let at : slice_index_or all 0 no_lift ≡ lift = ap (λ (z : List LiftValues). slice_index_or z 0 no_lift) parts ∙ get_or_push rest lift no_lift 0 none in
    let t : to_z w32 (of_z w32 c.args.class.t) ≡ c.args.class.t = search rules in
    let same = above-is ((goal.at.returns c).After-above_at-above) above t e in
    let first = subst (λ (k : ℕ). IsLiftOver table c.args.sphere.now class.s k (class.i + 0) c.args.upto (slice_index_or all 0 no_lift)) same (c.in_ok-lifts.ensures.lifts 0 (omega (arith, c.in_ok-lifts.ensures.one_each))) in
    let number : class.i + 0 ≡ class.i = omega arith in
    let P : LiftValues → Type 0 = λ z. IsLiftOver table c.args.sphere.now class.s above (class.i + 0) c.args.upto z in
    let Q : ℕ → Type 0 = λ i. IsLiftOver table c.args.sphere.now class.s above i c.args.upto lift in
    subst Q number (subst P at first)
