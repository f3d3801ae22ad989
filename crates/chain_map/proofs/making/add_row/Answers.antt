use Rattle.std.proofs.Common.{◌≡◌, ◌≢◌, inl, inr, ℕ, ◌+◌, ◌<◌, ◌∷◌, ◌++◌, [], length, pos, ◌+ℤ◌, refl, sym, subst, ◌∙◌, arith}
use Rattle.std.specs.Prelude.{slice_index_or, slice_set}
use Rattle.std.proofs.lemmas.Bool.{cases_eq}
use Rattle.std.proofs.lemmas.List.{get_or_default, get_or-set_same, get_or-set_other, length-set}
use Rattle.square.specs.Squares.{bottom_of}
use Rattle.chain_map.specs.Lifting.{LiftValues, no_lift}
use Rattle.chain_map.specs.Inside.{AreMade, goal_of, IsMade}
use Rattle.chain_map.proofs.Growing.{made_row}
use Rattle.chain_map.proofs.making.add_row.Goals as goal
use Rattle.chain_map.proofs.making.add_row.Goals.{After-index}

pub loop-j-init : goal.loop-j-init
loop-j-init c = record { one_each = refl; done = λ i l. absurd (omega arith); left = λ i b l. c.requires.made i l }

-- the lift, which has the rows below
lift-at : (c : After-index) → c.index.result.now ≡ slice_index_or c.loop-j.lifts.items c.loop-j.j no_lift
lift-at c =
    c.index.ensures ∙ get_or_default c.loop-j.lifts.items c.loop-j.j c.index.result.now no_lift (omega (arith, c.loop-j.invariant.one_each, c.len-j-end.ensures, c.loop-j-test.true))

made-at : (c : After-index) → IsMade c.args.course.now.table.now c.args.course.now.sphere.now c.args.course.now.s c.args.course.now.above c.args.course.now.reach c.args.course.now.far (c.args.from + c.loop-j.j) c.args.k (slice_index_or c.loop-j.lifts.items c.loop-j.j no_lift)
made-at c =
    c.loop-j.invariant.left c.loop-j.j (omega arith) (omega arith)

pub overflow_add-from : goal.overflow_add-from
overflow_add-from c =
    omega (arith, c.requires.small, c.loop-j.invariant.one_each, c.len-j-end.ensures, c.loop-j-test.true)

pub row-requires-clause-made : goal.row-requires-clause-made
row-requires-clause-made c =
    let course = c.args.course.now in
    let here = (goal.at.row-requires-clause-made c).After-index in
    subst (IsMade course.table.now course.sphere.now course.s course.above course.reach course.far (c.args.from + c.loop-j.j) c.args.k) (sym (lift-at here)) (made-at here)

pub loop-j-preserved : goal.loop-j-preserved
loop-j-preserved c =
    let course = c.args.course.now in
    let table = course.table.now in
    let sphere = course.sphere.now in
    let lifts = c.loop-j.lifts.items in
    let j = c.loop-j.j in
    let new = c.push.new.self in
    let old = slice_index_or lifts j no_lift in
    let here = (goal.at.loop-j-preserved c).After-index in
    let count = c.loop-j.invariant.one_each in
    let at = lift-at here in
    let inside : j < length lifts = omega arith in
    let at_mut : c.index_mut.result.now ≡ old = c.index_mut.ensures.value ∙ get_or_default lifts j c.index_mut.result.now no_lift inside in
    let P : LiftValues → Type 0 = λ z. AreMade table sphere (course.s + c.args.k) c.args.k (bottom_of table.resolved +ℤ pos course.above) (goal_of table sphere course.s course.above course.reach course.far (c.args.from + j) z c.args.k) course.reach c.in_ok-row.row in
    let Q : LiftValues → Type 0 = λ z. new ≡ record { bottom = z.bottom; rows = z.rows ++ c.in_ok-row.row ∷ [] } in
    let made = made_row table sphere course.s course.above course.reach course.far (c.args.from + j) c.args.k old new c.in_ok-row.row (subst Q at_mut c.in_ok-push.ensures) (made-at here) (subst P at c.in_ok-row.ensures) in
    let size = length-set lifts j new in
    let R : ℕ → LiftValues → Type 0 = λ i z. IsMade table sphere course.s course.above course.reach course.far (c.args.from + i) (c.args.k + 1) z in
    let S : ℕ → LiftValues → Type 0 = λ i z. IsMade table sphere course.s course.above course.reach course.far (c.args.from + i) c.args.k z in
    record {
      one_each = size ∙ count;
      done = λ i l. elim (cases_eq i j) [
        | inl e ↦
            let here_i : R j (slice_index_or (slice_set lifts j new) j no_lift) = subst (R j) (sym (get_or-set_same lifts j new no_lift inside)) made in
            let T : ℕ → Type 0 = λ i. R i (slice_index_or (slice_set lifts j new) i no_lift) in
            subst T (sym e) here_i
        | inr f ↦ subst (R i) (sym (get_or-set_other lifts j i new no_lift f)) (c.loop-j.invariant.done i (omega arith))
      ];
      left = λ i b l. let apart : i ≢ j = λ e. omega arith in subst (S i) (sym (get_or-set_other lifts j i new no_lift apart)) (c.loop-j.invariant.left i (omega arith) (omega arith));
    }

pub returns-clause-made : goal.returns-clause-made
returns-clause-made c = λ j l. let test = c.loop-j-test.false in let end = c.len-j-end.ensures in let same = c.loop-j.invariant.one_each in c.loop-j.invariant.done j (omega arith)
