use Rattle.std.proofs.Common.{◌≡◌, ℕ, suc, ◌+◌, ◌-◌, subst, ap, ◌∙◌, arith}
use Rattle.lift_laws.specs.Products.{count_of}
use Rattle.chain_map.specs.Lifting.{resolution_of}
use Rattle.yoneda.specs.Products.{AreProducts}
use Rattle.massey.specs.Inside.{above_of, far_of}
use Rattle.massey.proofs.Values.{a_is_there}
use Rattle.massey.proofs.Spanning.{spanning, whole_widths}
use Rattle.massey.proofs.making.indeterminacy_rows.Goals as goal

pub products-requires-clause-class : goal.products-requires-clause-class
products-requires-clause-class c = a_is_there c.args.setting.now.table.now c.args.setting.now.sphere.now c.args.setting.now.range (far_of c.args.setting.now.places) c.args.setting.now.places c.requires.setting

pub products-requires-clause-rows : goal.products-requires-clause-rows
products-requires-clause-rows c = let i = c.requires.setting.inside.row in let n = c.requires.n in omega arith

pub products-requires-clause-degrees : goal.products-requires-clause-degrees
products-requires-clause-degrees c = let i = c.requires.setting.inside.degree in let e = c.above_bc.ensures in omega arith

pub returns-clause-widths : goal.returns-clause-widths
returns-clause-widths c =
    let low = (c.args.setting.now.places.b.s + c.args.setting.now.places.a.s) - 1 in
    let l_row : suc low ≡ c.args.setting.now.places.b.s + c.args.setting.now.places.a.s = let a = c.requires.lifts.a_row in omega arith in
    let at : c.args.setting.now.places.a.above + c.above_bc.result ≡ above_of c.args.setting.now.places = let e = c.above_bc.ensures in omega arith in
    whole_widths c.args.setting.now.table.now c.args.setting.now.sphere.now c.args.setting.now.places c.args.n low c.requires.n l_row c.args.gamma.now c.in_ok-rows.rows.items c.add_lower_rows.new.rows.items (c.args.setting.now.places.a.above + c.above_bc.result) at c.in_ok-rows.ensures.widths (c.in_ok-add_lower_rows.ensures low l_row)

pub returns-clause-spanning : goal.returns-clause-spanning
returns-clause-spanning c = λ range far s all all_q.
    let rows = c.in_ok-rows.rows.items in
    spanning c.args.setting.now.table.now c.args.setting.now.sphere.now range far c.args.setting.now.places s all all_q c.args.n c.requires.n rows
    (c.in_ok-rows.ensures.one_each ∙ ap (count_of (resolution_of c.args.setting.now.table.now) c.args.n) c.above_bc.ensures)
    (subst (λ (m : ℕ). AreProducts c.args.setting.now.table.now c.args.setting.now.sphere.now c.args.setting.now.places.a c.args.n m rows) c.above_bc.ensures c.in_ok-rows.ensures.products)
    c.args.beta.now c.args.gamma.now c.requires.lifts c.add_lower_rows.new.rows.items c.in_ok-add_lower_rows.ensures
