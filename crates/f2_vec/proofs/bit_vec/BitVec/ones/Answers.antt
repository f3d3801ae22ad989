use Rattle.std.proofs.Common.{length, refl, ◌∙◌, arith}
use Rattle.f2_vec.proofs.Ones.{below_push}
use Rattle.f2_vec.proofs.Next.{ones_next, ones_end}
use Rattle.f2_vec.proofs.bit_vec.BitVec.ones.Goals as goal

pub loop-place-preserved : goal.loop-place-preserved
loop-place-preserved c =
    let v = c.args.self.now in
    let p = c.in-Some.place in
    let h = c.in-Some.ensures.within in
    record {
      reached = omega arith;
      places = c.in_ok-push.ensures.items ∙ ones_next v c.loop-place.from p c.loop-place.ones.items h c.in-Some.ensures.next c.loop-place.invariant.places;
      within = rw c.in_ok-push.ensures.items (below_push (length v) c.loop-place.ones.items p c.loop-place.invariant.within h);
    }

pub returns-clause-places : goal.returns-clause-places
returns-clause-places c =
    ones_end c.args.self.now c.loop-place.from (length c.args.self.now) c.loop-place.ones.items refl c.loop-place.invariant.reached (c.in_default.ensures.none.0 refl) c.loop-place.invariant.places
