use Rattle.std.proofs.Common.{refl}
use Rattle.square.specs.declared.keep.KeepFault.TheVariants.{Failed, Memory}
use Rattle.square.proofs.Puts.{fared_at, fared_err, fared_ok}
use Rattle.resolution_step.proofs.Canonical.{IsCanonicalTable-cut}
use Rattle.resolution_step.proofs.alone.resolve_alone.Goals as goal

pub returns-in-Ok-clause-resolved : goal.returns-in-Ok-clause-resolved
returns-in-Ok-clause-resolved g c =
    let added = c.add_rows.ensures.added in
    let made = c.in-Ok.ensures in
    let fared = fared_at _ _ _ c.add_rows.result _ _ _ c.in-Ok.is c.add_rows.ensures.keeper in
    record {
      through = made.through;
      only = added.places;
      grown = added.grown;
      are_of_start = made.are_of_start;
      canonical = IsCanonicalTable-cut c.args.range c.args.table c.add_rows.new.table added.grown made.through made.are_of_start;
      keeper = fared_ok Failed Memory (λ more. more) c.add_rows.new.table _ _ fared.live fared.no_fault fared.of_table;
      given = added.given;
    }

pub returns-in-Err-clause-resolved : goal.returns-in-Err-clause-resolved
returns-in-Err-clause-resolved g c = record {
  through = tt;
  only = tt;
  grown = tt;
  are_of_start = tt;
  canonical = λ _. tt;
  keeper = fared_err _ _ _ _ c.add_rows.result _ _ _ _ c.in-Err.is refl c.add_rows.ensures.keeper;
  given = c.add_rows.ensures.added.given;
}
