use Rattle.std.proofs.Common.{ap, subst, ◌∙◌}
use Rattle.std.specs.Prelude.{Ok, Err}
use Rattle.bidegree.specs.declared.range.Range.{Range}
use Rattle.square.specs.Squares.{module_over}
use Rattle.square.specs.Tables.{IsThrough}
use Rattle.chain_map.specs.Lifting.{IsCanonicalIn}
use Rattle.massey.specs.Brackets.{IsCause}
use Rattle.ext_brackets.proofs.Limits.{square_ab, square_bc}
use Rattle.ext_brackets.proofs.Transport.{text_answer, fault_answer, told_as, answer_in}
use Rattle.ext_brackets.proofs.text.bracket_text.Goals as goal

pub bracket-requires-clause-sphere_table : goal.bracket-requires-clause-sphere_table
bracket-requires-clause-sphere_table c = subst (λ (r : Range). IsThrough r c.in_ok-sphere.sphere.rows) c.reach-far.ensures c.in_ok-sphere.ensures.through

pub returns-in-Ok-clause-text : goal.returns-in-Ok-clause-text
returns-in-Ok-clause-text c = λ all.
    let table = c.args.table.now in
    let sphere = c.in_ok-sphere.sphere in
    let made = c.in_ok-sphere.ensures in
    let near = subst (λ (r : Range). IsThrough r sphere.rows) c.reach-far.ensures made.through in
    let all_q = subst (λ (r : Range). IsCanonicalIn r sphere) c.reach-far.ensures made.canonical in
    answer_in sphere (ap module_over made.module_is) table c.args.range c.args.a c.args.b c.args.c (Ok c.in_ok-lines-in-Ok.field-0.items) (λ full is_full.
    text_answer c.lifts_give_one_product.ensures c.units_have_no_zero_products.ensures c.brackets_are_same_in_each_range.ensures c.modules_are_graded_modules.ensures table sphere c.known.ensures.is_table c.known-2.ensures.is_table c.args.range c.args.a c.args.b c.args.c c.requires.through near all_q made.sphere full is_full
    c.in-Ok.found c.in-Ok.ensures.made c.in-Ok.ensures.bracket _ c.in_ok-lines-in-Ok.ensures all)

pub fault_of-requires-clause-ab : goal.fault_of-requires-clause-ab
fault_of-requires-clause-ab c = λ product e.
    square_ab c.args.table.now c.in_ok-sphere.sphere c.args.range c.args.a c.args.b c.args.c c.in_ok-sphere.ensures.sphere c.known.ensures.least c.known.ensures.most c.requires.rows c.requires.degrees product
    (subst (IsCause c.args.table.now c.in_ok-sphere.sphere c.args.range c.args.a c.args.b c.args.c) e c.in-Err.ensures.cause)

pub fault_of-requires-clause-bc : goal.fault_of-requires-clause-bc
fault_of-requires-clause-bc c = λ n product e.
    square_bc c.args.table.now c.in_ok-sphere.sphere c.args.range c.args.a c.args.b c.args.c c.in_ok-sphere.ensures.sphere c.known.ensures.least c.known.ensures.most c.requires.rows c.requires.degrees n product
    (subst (IsCause c.args.table.now c.in_ok-sphere.sphere c.args.range c.args.a c.args.b c.args.c) e c.in-Err.ensures.cause)

pub returns-clause-refused : goal.returns-clause-refused
returns-clause-refused c = λ other.
    let table = c.args.table.now in
    let sphere = c.in_ok-sphere.sphere in
    let made = c.in_ok-sphere.ensures in
    let near = subst (λ (r : Range). IsThrough r sphere.rows) c.reach-far.ensures made.through in
    let all_q = subst (λ (r : Range). IsCanonicalIn r sphere) c.reach-far.ensures made.canonical in
    let told = told_as c.args.a c.args.b c.args.c c.in-Err.fault (λ e. other (c.fault_of.ensures ∙ e)) in (
      told.0,
      c.fault_of.ensures ∙ told.1,
      λ all.
          answer_in sphere (ap module_over made.module_is) table c.args.range c.args.a c.args.b c.args.c (Err told.0) (λ full is_full.
          (fault_answer c.lifts_give_one_product.ensures c.units_have_no_zero_products.ensures c.brackets_are_same_in_each_range.ensures c.modules_are_graded_modules.ensures table sphere c.known.ensures.is_table c.known-2.ensures.is_table c.args.range c.args.a c.args.b c.args.c c.requires.through near all_q made.sphere full is_full
          c.in-Err.fault told.0 c.in-Err.ensures.cause told.1).answer all),
    )

pub returns-clause-sure : goal.returns-clause-sure
returns-clause-sure c = λ other.
    let table = c.args.table.now in
    let sphere = c.in_ok-sphere.sphere in
    let made = c.in_ok-sphere.ensures in
    let near = subst (λ (r : Range). IsThrough r sphere.rows) c.reach-far.ensures made.through in
    let all_q = subst (λ (r : Range). IsCanonicalIn r sphere) c.reach-far.ensures made.canonical in
    let told = told_as c.args.a c.args.b c.args.c c.in-Err.fault (λ e. other (c.fault_of.ensures ∙ e)) in (
      told.0,
      c.fault_of.ensures ∙ told.1,
      λ places.
          answer_in sphere (ap module_over made.module_is) table c.args.range c.args.a c.args.b c.args.c (Err told.0) (λ full is_full.
          (fault_answer c.lifts_give_one_product.ensures c.units_have_no_zero_products.ensures c.brackets_are_same_in_each_range.ensures c.modules_are_graded_modules.ensures table sphere c.known.ensures.is_table c.known-2.ensures.is_table c.args.range c.args.a c.args.b c.args.c c.requires.through near all_q made.sphere full is_full
          c.in-Err.fault told.0 c.in-Err.ensures.cause told.1).sure places),
    )
