use Rattle.std.proofs.Common.{refl, sym, ◌∙◌, arith}
use Rattle.free_module.proofs.TermSums.{picked_next, picked_end}
use Rattle.free_module.proofs.terms.with_block.Goals as goal

pub loop-i-preserved : goal.loop-i-preserved
loop-i-preserved c =
    let next = c.in-Some.ensures.next in
    let below = c.in-Some.ensures.within in
    let reached = next.reached in
    record {
      reached = omega arith;
      within = omega arith;
      rest = picked_next c.args.offset c.loop-i.terms.items c.push.new.self.items c.args.v.now c.args.elements.now c.args.start c.loop-i.from c.in-Some.i c.index-elements-i.result c.loop-i.invariant.reached next below c.requires c.index-elements-i.is c.in_ok-push.ensures.items ∙ c.loop-i.invariant.rest;
    }

pub returns : goal.returns
returns c =
    sym (picked_end c.args.offset c.loop-i.terms.items c.args.v.now c.args.elements.now c.args.start c.loop-i.from c.loop-i.invariant.reached c.loop-i.invariant.within c.requires (c.in_default.ensures.none refl)) ∙ c.loop-i.invariant.rest
