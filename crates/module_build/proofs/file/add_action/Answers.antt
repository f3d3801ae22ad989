use Rattle.std.proofs.Common.{◌≡◌, ◌∷◌, [], pos, ◌+ℤ◌, length, to_z, of_z, w32, OnOk, refl, ap, sym, subst, ◌∙◌, arith}
use Rattle.std.proofs.lemmas.Int.{ints}
use Rattle.milnor_basis.specs.Exponents.{degree_of}
use Rattle.module_spec.specs.Spec.{degree_at}
use Rattle.finite_module.specs.Module.{width}
use Rattle.finite_module.specs.Text.{sum_text}
use Rattle.module_build.specs.FileText.{quoted, action_text, action_of_square}
use Rattle.module_build.specs.Inside.Written.{after_comma, written_after}
use Rattle.module_build.proofs.FileSteps.{action_none, action_some, action_text_is}
use Rattle.module_build.proofs.file.add_action.Goals as goal

pub returns-then-is_zero : goal.returns-then-is_zero
returns-then-is_zero c =
    let m = c.args.given.now.plain in
    sym (ap (written_after c.args.text.now.items) (action_none m c.args.i c.args.n c.sq.result c.in_ok-value.value c.sq.ensures c.in_ok-value.ensures (c.if-is_zero.ensures.0 refl)))

pub sum_text-requires : goal.sum_text-requires
sum_text-requires c =
    let m = c.args.given.now.plain in
    let t = to_z w32 (of_z w32 (to_z w32 (of_z w32 c.degree.result) +ℤ to_z w32 (of_z w32 c.from.result))) in
    let one : degree_of (c.args.n ∷ []) ≡ c.args.n = omega arith in
    let d : t ≡ degree_at m.generators c.args.i +ℤ pos c.args.n = omega (arith, ints, c.degree.ensures.degree, c.degree.ensures.lowest, c.degree.ensures.highest, c.from.ensures, c.requires.small) in
    ap length c.in_ok-value.ensures ∙ c.args.given.now.is_module.widths c.sq.result c.args.i ∙ ap (λ k. width m.generators (degree_at m.generators c.args.i +ℤ pos k)) (ap degree_of c.sq.ensures ∙ one) ∙ ap (width m.generators) (sym d)

pub returns : goal.returns
returns c =
    let m = c.args.given.now.plain in
    let t = to_z w32 (of_z w32 (to_z w32 (of_z w32 c.degree.result) +ℤ to_z w32 (of_z w32 c.from.result))) in
    let d : t ≡ degree_at m.generators c.args.i +ℤ pos c.args.n = omega (arith, ints, c.degree.ensures.degree, c.degree.ensures.lowest, c.degree.ensures.highest, c.from.ensures, c.requires.small) in
    let sum : c.as_slice.result.now ≡ sum_text m.generators (degree_at m.generators c.args.i +ℤ pos c.args.n) c.in_ok-value.value = c.as_slice.ensures.value ∙ c.in_ok-sum.ensures ∙ ap (λ z. sum_text m.generators z c.in_ok-value.value) d in
    let text : c.as_slice-2.result.now ≡ action_text m c.args.i c.args.n = c.as_slice-2.ensures.value ∙ c.in_ok-action.ensures ∙ action_text_is m c.args.i c.args.n c.sq.result c.in_ok-value.value c.name.result.now c.as_slice.result.now c.sq.ensures c.in_ok-value.ensures c.name.ensures sum in
    let item : c.as_slice-3.result.now ≡ quoted (action_text m c.args.i c.args.n) = c.as_slice-3.ensures.value ∙ c.in_ok-item.ensures ∙ ap quoted text in
    let items : written_after c.args.text.now.items (action_of_square m c.args.i c.args.n) ≡ after_comma c.args.text.now.items c.as_slice-3.result.now =
    ap (written_after c.args.text.now.items) (action_some m c.args.i c.args.n c.sq.result c.in_ok-value.value c.sq.ensures c.in_ok-value.ensures (λ z. let no = c.if-is_zero.ensures.1 z in cc)) ∙ ap (after_comma c.args.text.now.items) (sym item) in
    subst (λ x. OnOk c.write_item.result (c.write_item.new.text.items ≡ x)) (sym items) c.write_item.ensures
