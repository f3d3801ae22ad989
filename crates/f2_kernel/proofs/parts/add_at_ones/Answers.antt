use Rattle.std.proofs.Common.{length, refl, sym, subst, ◌∙◌, arith}
use Rattle.f2_vec.specs.Spans.{HaveWidth}
use Rattle.f2_kernel.proofs.Numbers.{none_added, next_added, all_added}
use Rattle.f2_kernel.proofs.parts.add_at_ones.Goals as goal

pub loop-place-init : goal.loop-place-init
loop-place-init c = record {
  reached = omega arith;
  as_long = refl;
  added = λ image h many. none_added (length c.args.sum.now) image c.args.rows.now c.args.sum.now refl;
}

pub add_at-requires-clause-rows : goal.add_at-requires-clause-rows
add_at-requires-clause-rows c = subst (λ n. HaveWidth n c.args.rows.now) (sym c.loop-place.invariant.as_long) c.requires.rows

pub loop-place-preserved : goal.loop-place-preserved
loop-place-preserved c =
    let p = c.in-Some.place in
    let h = c.loop-place.invariant in
    record {
      reached = omega (arith, c.in-Some.ensures.within);
      as_long = c.add_at.ensures.length ∙ h.as_long;
      added = λ image numbers many.
          next_added (length c.args.sum.now) c.loop-place.from p image c.args.rows.now c.args.numbers.now c.args.vector.now c.args.sum.now c.loop-place.sum c.add_at.new.sum c.requires.rows many numbers h.reached c.in-Some.ensures.within c.in-Some.ensures.next
          (h.added image numbers many) c.add_at.ensures.added c.add_at.ensures.none;
    }

pub returns-clause-length : goal.returns-clause-length
returns-clause-length c = c.loop-place.invariant.as_long

pub returns-clause-sum : goal.returns-clause-sum
returns-clause-sum c = λ image h many.
    all_added (length c.args.sum.now) c.loop-place.from image c.args.rows.now c.args.vector.now c.args.sum.now c.loop-place.sum c.loop-place.invariant.reached (c.in_default.ensures.none.0 refl) (c.loop-place.invariant.added image h many)
