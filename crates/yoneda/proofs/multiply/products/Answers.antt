use Rattle.std.proofs.Common.{◌∙◌, w32}
use Rattle.std.proofs.lemmas.Int.{to_z-of_z}
use Rattle.std.proofs.lemmas.Result.{IfOk-weaker}
use Rattle.yoneda.proofs.OneProduct.{lifted_in, row_made, widths_of, products_of}
use Rattle.yoneda.proofs.multiply.products.Goals as goal

pub products_by-requires-clause-rows : goal.products_by-requires-clause-rows
products_by-requires-clause-rows c = λ j l.
    let t = to_z-of_z w32 c.degree.result (record { sfits = c.degree.type_inv }) ∙ c.degree.ensures in
    let lifts = lifted_in c.args.table.now c.args.sphere.now c.args.s c.args.above c.args.a.s _ c.in_ok-lifts.lifts.items c.as_slice.result.now c.in_ok-lifts.ensures.lifts t c.as_slice.ensures.value in
    (row_made c.lifts_give_one_product.ensures c.modules_are_graded_modules.ensures c.args.table.now c.args.sphere.now c.known.ensures.is_table c.known-2.ensures.is_table c.args.range c.requires.table c.requires.sphere c.args.a c.requires.class c.args.s c.args.above c.requires.rows c.requires.degrees c.as_slice.result.now lifts j l).row

pub products_by-requires-clause-values : goal.products_by-requires-clause-values
products_by-requires-clause-values c = λ j l.
    let t = to_z-of_z w32 c.degree.result (record { sfits = c.degree.type_inv }) ∙ c.degree.ensures in
    let lifts = lifted_in c.args.table.now c.args.sphere.now c.args.s c.args.above c.args.a.s _ c.in_ok-lifts.lifts.items c.as_slice.result.now c.in_ok-lifts.ensures.lifts t c.as_slice.ensures.value in
    (row_made c.lifts_give_one_product.ensures c.modules_are_graded_modules.ensures c.args.table.now c.args.sphere.now c.known.ensures.is_table c.known-2.ensures.is_table c.args.range c.requires.table c.requires.sphere c.args.a c.requires.class c.args.s c.args.above c.requires.rows c.requires.degrees c.as_slice.result.now lifts j l).on_square

pub returns-clause-widths : goal.returns-clause-widths
returns-clause-widths c =
    let t = to_z-of_z w32 c.degree.result (record { sfits = c.degree.type_inv }) ∙ c.degree.ensures in
    let lifts = lifted_in c.args.table.now c.args.sphere.now c.args.s c.args.above c.args.a.s _ c.in_ok-lifts.lifts.items c.as_slice.result.now c.in_ok-lifts.ensures.lifts t c.as_slice.ensures.value in
    IfOk-weaker c.products_by.result _ _ (λ rows are. widths_of c.lifts_give_one_product.ensures c.modules_are_graded_modules.ensures c.args.table.now c.args.sphere.now c.known.ensures.is_table c.known-2.ensures.is_table c.args.range c.requires.table c.requires.sphere c.args.a c.requires.class c.args.s c.args.above c.requires.rows c.requires.degrees c.as_slice.result.now lifts rows.items are) c.products_by.ensures

pub returns-clause-products : goal.returns-clause-products
returns-clause-products c =
    let t = to_z-of_z w32 c.degree.result (record { sfits = c.degree.type_inv }) ∙ c.degree.ensures in
    let lifts = lifted_in c.args.table.now c.args.sphere.now c.args.s c.args.above c.args.a.s _ c.in_ok-lifts.lifts.items c.as_slice.result.now c.in_ok-lifts.ensures.lifts t c.as_slice.ensures.value in
    IfOk-weaker c.products_by.result _ _ (λ rows are. products_of c.lifts_give_one_product.ensures c.modules_are_graded_modules.ensures c.args.table.now c.args.sphere.now c.known.ensures.is_table c.known-2.ensures.is_table c.args.range c.requires.table c.requires.sphere c.args.a c.requires.class c.args.s c.args.above c.requires.rows c.requires.degrees c.as_slice.result.now lifts rows.items are) c.products_by.ensures
