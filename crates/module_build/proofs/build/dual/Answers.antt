use Rattle.std.proofs.Common.{◌≡◌, ◌≢◌, None, Some, IfOk, IfErr, OnOk, sym, subst}
use Rattle.finite_module.specs.Axioms.{IsModule}
use Rattle.built_laws.specs.Constructed.{dual_module}
use Rattle.built_laws.proofs.Making.{dual_makes_module}
use Rattle.module_build.specs.Names.{numbered_name}
use Rattle.module_build.specs.Limits.{limit_passed}
use Rattle.module_build.specs.declared.fault.BuildFault.TheVariants.{Memory as OutOfMemory}
use Rattle.module_build.proofs.Constructed.{dual_is}
use Rattle.module_build.proofs.build.dual.Goals as goal

pub make-requires : goal.make-requires
make-requires c = subst IsModule (sym (dual_is c.args.given)) (dual_makes_module numbered_name c.args.given.now.plain c.args.given.now.is_module)

pub returns-clause-module : goal.returns-clause-module
returns-clause-module c = subst (λ x. IfOk c.make.result (λ m. m.plain ≡ x)) (dual_is c.args.given) c.make.ensures.module

pub returns-clause-within : goal.returns-clause-within
returns-clause-within c = subst (λ x. OnOk c.make.result (limit_passed x.generators ≡ None)) (dual_is c.args.given) c.make.ensures.within

pub returns-clause-refused : goal.returns-clause-refused
returns-clause-refused c = subst (λ x. IfErr c.make.result (λ e. e ≢ OutOfMemory → limit_passed x.generators ≡ Some e)) (dual_is c.args.given) c.make.ensures.refused
