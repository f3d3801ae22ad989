use Rattle.std.proofs.Common.{◌≡◌, inl, inr, ◌+◌, ◌≤◌, ◌&&◌, All, ap, sym, subst, ◌∙◌, arith}
use Rattle.hopf_laws.specs.Diagonal.{splittings}
use Rattle.module_build.specs.Inside.Splittings.{sum_over, IsSplitting}
use Rattle.module_build.proofs.SplittingLists.{degrees_none, degree_more, degrees_all, no_splittings}
use Rattle.module_build.proofs.splittings.splittings_from.Goals as goal

pub returns-then-last-first-clause-sums : goal.returns-then-last-first-clause-sums
returns-then-last-first-clause-sums c = λ f.
    ap (sum_over f) c.new-splittings.ensures.items
    ∙ sym (degrees_none c.args.first c.args.r.now f)
    ∙ degrees_all c.args.first c.args.first c.min-last.result c.args.basis.now c.args.r.now f (omega arith) (omega (arith, c.min-last.ensures, c.from.ensures, c.max.ensures)) (inr (omega arith)) (λ l. omega (arith, c.min-last.ensures, c.from.ensures, c.max.ensures, c.degree.ensures.degree)) (λ l. omega (arith, c.min-last.ensures, c.from.ensures, c.max.ensures, c.degree.ensures.degree))

pub returns-then-last-first-clause-each : goal.returns-then-last-first-clause-each
returns-then-last-first-clause-each c = subst (All (IsSplitting c.args.r.now)) (sym c.new-splittings.ensures.items) (no_splittings (IsSplitting c.args.r.now))

pub loop-n-init : goal.loop-n-init
loop-n-init c = record {
  sums = λ f. ap (sum_over f) c.new-splittings.ensures.items ∙ sym (degrees_none c.args.first c.args.r.now f);
  each = subst (All (IsSplitting c.args.r.now)) (sym c.new-splittings.ensures.items) (no_splittings (IsSplitting c.args.r.now));
}

pub loop-n-preserved : goal.loop-n-preserved
loop-n-preserved c = record {
  sums = degree_more c.args.r.now c.args.first c.loop-n.n c.loop-n.splittings.items c.add_degree.new.splittings.items (omega arith) c.loop-n.invariant.sums c.in_ok-add_degree.ensures.sums;
  each = c.in_ok-add_degree.ensures.each c.loop-n.invariant.each;
}

pub returns-clause-sums : goal.returns-clause-sums
returns-clause-sums c = λ f.
    c.loop-n.invariant.sums f
    ∙ degrees_all c.loop-n.n c.args.first c.min-last.result c.args.basis.now c.args.r.now f (omega arith) (omega (arith, c.min-last.ensures, c.from.ensures, c.max.ensures)) (inl (omega arith)) (λ l. omega (arith, c.min-last.ensures, c.from.ensures, c.max.ensures, c.degree.ensures.degree)) (λ l. omega (arith, c.min-last.ensures, c.from.ensures, c.max.ensures, c.degree.ensures.degree))

pub returns-clause-each : goal.returns-clause-each
returns-clause-each c = c.loop-n.invariant.each
