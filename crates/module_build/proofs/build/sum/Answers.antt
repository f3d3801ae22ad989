use Rattle.std.proofs.Common.{◌≡◌, ◌≢◌, None, Some, IfOk, IfErr, OnOk, sym, subst}
use Rattle.finite_module.specs.Axioms.{IsModule}
use Rattle.built_laws.specs.Constructed.{sum_module}
use Rattle.built_laws.proofs.Making.{sum_makes_module}
use Rattle.module_build.specs.Names.{numbered_name}
use Rattle.module_build.specs.Limits.{limit_passed}
use Rattle.module_build.specs.declared.fault.BuildFault.TheVariants.{Memory as OutOfMemory}
use Rattle.module_build.proofs.Constructed.{sum_is}
use Rattle.module_build.proofs.build.sum.Goals as goal

pub make-requires : goal.make-requires
make-requires c = subst IsModule (sym (sum_is c.args.left c.args.right)) (sum_makes_module numbered_name c.args.left.now.plain c.args.right.now.plain c.args.left.now.is_module c.args.right.now.is_module)

pub returns-clause-module : goal.returns-clause-module
returns-clause-module c = subst (λ x. IfOk c.make.result (λ m. m.plain ≡ x)) (sum_is c.args.left c.args.right) c.make.ensures.module

pub returns-clause-within : goal.returns-clause-within
returns-clause-within c = subst (λ x. OnOk c.make.result (limit_passed x.generators ≡ None)) (sum_is c.args.left c.args.right) c.make.ensures.within

pub returns-clause-refused : goal.returns-clause-refused
returns-clause-refused c = subst (λ x. IfErr c.make.result (λ e. e ≢ OutOfMemory → limit_passed x.generators ≡ Some e)) (sum_is c.args.left c.args.right) c.make.ensures.refused
