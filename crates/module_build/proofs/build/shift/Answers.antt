use Rattle.std.proofs.Common.{◌≡◌, ◌≢◌, None, Some, IfOk, IfErr, OnOk, to_z, of_z, w32, ap, sym, subst, ◌∙◌, arith}
use Rattle.std.proofs.lemmas.Int.{ints}
use Rattle.finite_module.specs.Axioms.{IsModule}
use Rattle.built_laws.specs.Constructed.{shift_module}
use Rattle.built_laws.proofs.Making.{shift_makes_module}
use Rattle.module_build.specs.Names.{numbered_name}
use Rattle.module_build.specs.Limits.{limit_passed}
use Rattle.module_build.specs.declared.construction.Construction.TheVariants.{Shift}
use Rattle.module_build.specs.declared.fault.BuildFault.TheVariants.{Memory as OutOfMemory}
use Rattle.module_build.specs.Inside.Construction.{made}
use Rattle.module_build.proofs.Constructed.{shift_is}
use Rattle.module_build.proofs.build.shift.Goals as goal

pub make-requires : goal.make-requires
make-requires c =
    let n = to_z w32 (of_z w32 c.args.n) in
    subst IsModule (sym (shift_is c.args.given n)) (shift_makes_module numbered_name n c.args.given.now.plain c.args.given.now.is_module)

pub returns-clause-module : goal.returns-clause-module
returns-clause-module c =
    let n = to_z w32 (of_z w32 c.args.n) in
    let same : n ≡ c.args.n = omega (arith, ints) in
    let is : made (Shift c.args.given n) ≡ shift_module numbered_name c.args.n c.args.given.now.plain = shift_is c.args.given n ∙ ap (λ k. shift_module numbered_name k c.args.given.now.plain) same in
    subst (λ x. IfOk c.make.result (λ m. m.plain ≡ x)) is c.make.ensures.module

pub returns-clause-within : goal.returns-clause-within
returns-clause-within c =
    let n = to_z w32 (of_z w32 c.args.n) in
    let same : n ≡ c.args.n = omega (arith, ints) in
    let is : made (Shift c.args.given n) ≡ shift_module numbered_name c.args.n c.args.given.now.plain = shift_is c.args.given n ∙ ap (λ k. shift_module numbered_name k c.args.given.now.plain) same in
    subst (λ x. OnOk c.make.result (limit_passed x.generators ≡ None)) is c.make.ensures.within

pub returns-clause-refused : goal.returns-clause-refused
returns-clause-refused c =
    let n = to_z w32 (of_z w32 c.args.n) in
    let same : n ≡ c.args.n = omega (arith, ints) in
    let is : made (Shift c.args.given n) ≡ shift_module numbered_name c.args.n c.args.given.now.plain = shift_is c.args.given n ∙ ap (λ k. shift_module numbered_name k c.args.given.now.plain) same in
    subst (λ x. IfErr c.make.result (λ e. e ≢ OutOfMemory → limit_passed x.generators ≡ Some e)) is c.make.ensures.refused
