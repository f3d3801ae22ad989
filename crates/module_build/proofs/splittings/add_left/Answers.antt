use Rattle.std.proofs.Common.{refl}
use Rattle.module_build.specs.Inside.Splittings.{IsSplitting}
use Rattle.module_build.proofs.SplittingLists.{adds_one, adds_none, each_pushed}
use Rattle.module_build.proofs.splittings.add_left.Goals as goal

pub returns-in-None-clause-sums : goal.returns-in-None-clause-sums
returns-in-None-clause-sums c = adds_none c.args.r.now c.args.left.now c.args.splittings.now.items c.args.splittings.now.items c.difference.ensures.whole c.difference.ensures.part c.in-None.ensures.none refl

pub returns-in_ok-push-in-Some-clause-sums : goal.returns-in_ok-push-in-Some-clause-sums
returns-in_ok-push-in-Some-clause-sums c =
    adds_one c.args.r.now c.args.left.now c.in-Some.right c.args.splittings.now.items c.push.new.self.items (record { left = c.args.left.now; right = c.in-Some.right }) c.difference.ensures.whole c.difference.ensures.part c.in-Some.ensures.trimmed c.in-Some.ensures.some refl c.in_ok-push-in-Some.ensures.items

pub returns-in_ok-push-in-Some-clause-each : goal.returns-in_ok-push-in-Some-clause-each
returns-in_ok-push-in-Some-clause-each c =
    each_pushed (IsSplitting c.args.r.now) c.args.splittings.now.items c.push.new.self.items (record { left = c.args.left.now; right = c.in-Some.right }) c.in_ok-push-in-Some.ensures.items (record { whole = c.in-Some.ensures.some; left = c.difference.ensures.part; right = c.in-Some.ensures.trimmed })
