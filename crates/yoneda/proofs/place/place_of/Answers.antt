use Rattle.std.proofs.Common.{◌≡◌, rules, Some, length, ap, sym, ◌∙◌, to_z, of_z, w32, arith}
use Rattle.std.proofs.lemmas.Int.{to_z-of_z}
use Rattle.bidegree.specs.Above.{above_of}
use Rattle.square.specs.Squares.{bottom_of}
use Rattle.yoneda.proofs.Outside.{none_past, all_inside, none_missing, one_missing}
use Rattle.yoneda.proofs.place.place_of.Goals as goal
use Rattle.yoneda.proofs.place.place_of.Goals.{then-class-from-via-then-class-from, then-class-from-via-else-class-from+then-above-from}

pub returns-then-class-from-clause-missing : goal.returns-then-class-from-clause-missing
returns-then-class-from-clause-missing c =
    let at : above_of (bottom_of c.args.table.now.resolved) c.args.class.t ≡ Some c.in-Some.above = let t : to_z w32 (of_z w32 c.args.class.t) ≡ c.args.class.t = search rules in cc (to_z-of_z w32 c.bottom.result (record { sfits = c.bottom.type_inv }), ap bottom_of c.module.ensures, c.in-Some.is) in
    one_missing c.args.table.now c.args.range c.args.class 0 (none_past c.args.table.now c.args.range c.args.class c.in-Some.above at (λ row degree. elim c.then-class-from.branch [
      | then-class-from-via-then-class-from w ↦ absurd (omega (arith, row, w.if-class-from.true, c.from.ensures))
      | then-class-from-via-else-class-from+then-above-from w ↦ absurd (omega (arith, degree, w.if-above-from.true, w.from-else-class-from.ensures))
    ])) (omega arith)

pub returns-then-class-count-clause-there : goal.returns-then-class-count-clause-there
returns-then-class-count-clause-there c =
    let at : above_of (bottom_of c.args.table.now.resolved) c.args.class.t ≡ Some c.in-Some.above = let t : to_z w32 (of_z w32 c.args.class.t) ≡ c.args.class.t = search rules in cc (to_z-of_z w32 c.bottom.result (record { sfits = c.bottom.type_inv }), ap bottom_of c.module.ensures, c.in-Some.is) in
    let all = all_inside c.args.table.now c.args.range c.args.class c.in-Some.above at (omega (arith, c.if-class-from.false, c.from.ensures)) (omega (arith, c.if-above-from.false, c.from-else-class-from.ensures)) ∙ sym (ap length c.images_of-count.ensures.images) in
    none_missing c.args.table.now c.args.range c.args.class (length c.images_of-count.result.now) all c.if-class-count.true

pub returns-else-class-count-clause-missing : goal.returns-else-class-count-clause-missing
returns-else-class-count-clause-missing c =
    let at : above_of (bottom_of c.args.table.now.resolved) c.args.class.t ≡ Some c.in-Some.above = let t : to_z w32 (of_z w32 c.args.class.t) ≡ c.args.class.t = search rules in cc (to_z-of_z w32 c.bottom.result (record { sfits = c.bottom.type_inv }), ap bottom_of c.module.ensures, c.in-Some.is) in
    let all = all_inside c.args.table.now c.args.range c.args.class c.in-Some.above at (omega (arith, c.if-class-from.false, c.from.ensures)) (omega (arith, c.if-above-from.false, c.from-else-class-from.ensures)) ∙ sym (ap length c.images_of-count.ensures.images) in
    one_missing c.args.table.now c.args.range c.args.class (length c.images_of-count.result.now) all (omega (arith, c.if-class-count.false))
