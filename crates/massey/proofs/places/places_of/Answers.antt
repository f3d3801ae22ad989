use Rattle.std.proofs.Common.{◌≡◌, Some, None, sym, subst, arith}
use Rattle.std.proofs.lemmas.Result.{err_from_is_err_and}
use Rattle.bidegree.specs.declared.range.Range.{Range}
use Rattle.square.specs.Tables.{IsThrough}
use Rattle.chain_map.specs.Classes.{through, class_refusal}
use Rattle.massey.specs.declared.fault.MasseyFault.TheVariants.{NoClass}
use Rattle.massey.specs.Brackets.{reach_of}
use Rattle.massey.specs.Inside.{AreFound}
use Rattle.massey.proofs.Nearby.{in_range, a_within, b_within, has_ab}
use Rattle.massey.proofs.Refusals.{refused_by_places, refused_by_class}
use Rattle.massey.proofs.places.places_of.Goals as goal

pub classes_of-requires-clause-sphere_table : goal.classes_of-requires-clause-sphere_table
classes_of-requires-clause-sphere_table c = subst (λ (r : Range). IsThrough r c.args.sphere.now.rows) (sym c.reach-far.ensures) c.requires.sphere_table

pub are_inside-requires-clause-a_in : goal.are_inside-requires-clause-a_in
are_inside-requires-clause-a_in c =
    let found = subst (λ (r : Range). AreFound c.args.table.now c.args.sphere.now c.args.range r c.args.a c.args.b c.args.c c.in_ok-places.places) c.reach-far.ensures c.in_ok-places.ensures.found in
    in_range c.args.sphere.now c.args.range c.args.a c.args.b c.in_ok-places.places.a found.a_is.inside

pub are_inside-requires-clause-b_in : goal.are_inside-requires-clause-b_in
are_inside-requires-clause-b_in c =
    let found = subst (λ (r : Range). AreFound c.args.table.now c.args.sphere.now c.args.range r c.args.a c.args.b c.args.c c.in_ok-places.places) c.reach-far.ensures c.in_ok-places.ensures.found in
    in_range c.args.sphere.now c.args.range c.args.a c.args.b c.in_ok-places.places.b found.b_is.inside

pub are_inside-requires-clause-c_in : goal.are_inside-requires-clause-c_in
are_inside-requires-clause-c_in c = c.in_ok-places.ensures.found.c_is.inside

pub returns-in_err-places-clause-refused : goal.returns-in_err-places-clause-refused
returns-in_err-places-clause-refused c =
    let p = err_from_is_err_and c.from_residual.result c.from_residual.ensures.1 in
    let refused = subst (λ (r : Range). class_refusal NoClass (through c.args.range c.args.table.now) (through r c.args.sphere.now) c.args.a c.args.b c.args.c ≡ Some c.in_err-places.field-0.0) c.reach-far.ensures c.in_err-places.ensures.refused in
    rw (p.1, p.2) (refused_by_class c.args.table.now c.args.sphere.now c.args.range c.requires.sphere c.args.a c.args.b c.args.c _ refused)

pub returns-in_err-are_inside-clause-refused : goal.returns-in_err-are_inside-clause-refused
returns-in_err-are_inside-clause-refused c =
    let p = err_from_is_err_and c.from_residual-in_err-are_inside.result c.from_residual-in_err-are_inside.ensures.1 in
    let found = subst (λ (r : Range). AreFound c.args.table.now c.args.sphere.now c.args.range r c.args.a c.args.b c.args.c c.in_ok-places.places) c.reach-far.ensures c.in_ok-places.ensures.found in
    let none = subst (λ (r : Range). class_refusal NoClass (through c.args.range c.args.table.now) (through r c.args.sphere.now) c.args.a c.args.b c.args.c ≡ None) c.reach-far.ensures c.in_ok-places.ensures.made in
    rw (p.1, p.2) (refused_by_places c.args.table.now c.args.sphere.now c.args.range c.requires.sphere c.args.a c.args.b c.args.c c.in_ok-places.places found (Some _) none c.in_err-are_inside.ensures.refused)

pub returns-clause-made : goal.returns-clause-made
returns-clause-made c =
    let found = subst (λ (r : Range). AreFound c.args.table.now c.args.sphere.now c.args.range r c.args.a c.args.b c.args.c c.in_ok-places.places) c.reach-far.ensures c.in_ok-places.ensures.found in
    let none = subst (λ (r : Range). class_refusal NoClass (through c.args.range c.args.table.now) (through r c.args.sphere.now) c.args.a c.args.b c.args.c ≡ None) c.reach-far.ensures c.in_ok-places.ensures.made in
    refused_by_places c.args.table.now c.args.sphere.now c.args.range c.requires.sphere c.args.a c.args.b c.args.c c.in_ok-places.places found None none c.in_ok-are_inside.ensures.made

pub returns-clause-found : goal.returns-clause-found
returns-clause-found c = subst (λ (r : Range). AreFound c.args.table.now c.args.sphere.now c.args.range r c.args.a c.args.b c.args.c c.in_ok-places.places) c.reach-far.ensures c.in_ok-places.ensures.found

pub returns-clause-setting : goal.returns-clause-setting
returns-clause-setting c =
    let p = c.in_ok-places.places in
    let found = subst (λ (r : Range). AreFound c.args.table.now c.args.sphere.now c.args.range r c.args.a c.args.b c.args.c p) c.reach-far.ensures c.in_ok-places.ensures.found in
    let inside = c.in_ok-are_inside.ensures.inside in
    record {
      is_table = c.in_ok-places.ensures.is_table;
      is_sphere_table = c.in_ok-places.ensures.is_sphere_table;
      through_table = c.requires.table;
      through_sphere = has_ab c.args.table.now c.args.sphere.now c.args.range c.args.a c.args.b c.args.c p c.requires.sphere.bottom found inside c.requires.sphere_table;
      is_sphere = c.requires.sphere;
      a_in = a_within c.args.sphere.now (reach_of c.args.range c.args.a c.args.b) p found.a_is.inside;
      b_in = b_within c.args.sphere.now (reach_of c.args.range c.args.a c.args.b) p found.b_is.inside;
      c_in = found.c_is.inside;
      inside = record { ab_row = omega arith; ab_degree = omega arith; bc_row = inside.bc_row; bc_degree = inside.bc_degree; row = inside.row; degree = inside.degree };
    }
