use Rattle.std.proofs.Common.{◌≡◌, ◌-◌, ◌<◌, true, false, length, to_z, of_z, w64, ap, sym, ◌∙◌, arith, append-nil}
use Rattle.std.specs.List.{range_with_len}
use Rattle.std.proofs.lemmas.Int.{ints}
use Rattle.std.proofs.lemmas.List.FromFn.{length-range_with_len}
use Rattle.f2_vec.proofs.Ones.{below_push}
use Rattle.finite_module.specs.Module.{generators_in}
use Rattle.finite_module.proofs.TextSteps.{items_where_true-more, items_where_true-all}
use Rattle.finite_module.proofs.text.numbers_of.Goals as goal
use Rattle.finite_module.proofs.text.numbers_of.Goals.{then-get+in_ok-push, else-get}

pub get-requires : goal.get-requires
get-requires c =
    let w = c.within-within.result in
    let same : to_z w64 (of_z w64 c.args.t) ≡ c.args.t = omega (arith, ints) in
    let listed : generators_in c.args.generators.now c.args.t ≡ range_with_len w.start (w.end - w.start) = simp same at c.within-within.ensures.generators in
    let n : length c.args.v.now ≡ w.end - w.start = c.requires ∙ ap length listed ∙ length-range_with_len w.start (w.end - w.start) in
    omega arith

pub loop-i-preserved : goal.loop-i-preserved
loop-i-preserved c =
    let w = c.within-within.result in
    let v = c.args.v.now in
    let i = c.loop-i.i in
    let same : to_z w64 (of_z w64 c.args.t) ≡ c.args.t = omega (arith, ints) in
    let listed : generators_in c.args.generators.now c.args.t ≡ range_with_len w.start (w.end - w.start) = simp same at c.within-within.ensures.generators in
    let n : length v ≡ w.end - w.start = c.requires ∙ ap length listed ∙ length-range_with_len w.start (w.end - w.start) in
    let inside : i - w.start < length v = omega arith in
    let below : i < length c.args.generators.now = omega arith in
    elim c.if-get.branch [
      | then-get+in_ok-push u ↦
          let more = items_where_true-more v w.start i c.loop-i.numbers.items true c.loop-i.auto.i inside c.loop-i.invariant.numbers (sym u.if-get.true ∙ c.get.ensures) in
          record {
            numbers = cc (u.in_ok-push.ensures.items);
            within = rw u.numbers-is (rw u.in_ok-push.ensures.items (below_push (length c.args.generators.now) c.loop-i.numbers.items i c.loop-i.invariant.within below));
          }
      | else-get u ↦
          let more = items_where_true-more v w.start i c.loop-i.numbers.items false c.loop-i.auto.i inside c.loop-i.invariant.numbers (sym u.if-get.false ∙ c.get.ensures) in
          record {
            numbers = cc (append-nil c.loop-i.numbers.items);
            within = rw u.numbers-is c.loop-i.invariant.within;
          }
    ]

pub returns-clause-numbers : goal.returns-clause-numbers
returns-clause-numbers c =
    let w = c.within-within.result in
    let same : to_z w64 (of_z w64 c.args.t) ≡ c.args.t = omega (arith, ints) in
    let listed : generators_in c.args.generators.now c.args.t ≡ range_with_len w.start (w.end - w.start) = simp same at c.within-within.ensures.generators in
    items_where_true-all c.args.v.now w.start w.end c.loop-i.i c.loop-i.numbers.items _ c.within-within.ensures.start (omega arith) c.requires listed c.loop-i.invariant.numbers
