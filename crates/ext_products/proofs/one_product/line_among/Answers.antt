use Rattle.std.proofs.Common.{◌≡◌, [], w32, refl, sym, subst, ◌∙◌}
use Rattle.std.proofs.lemmas.Int.{to_z-of_z}
use Rattle.std.proofs.lemmas.List.{get_or_default}
use Rattle.f2_vec.specs.Spans.{row}
use Rattle.yoneda.specs.Products.{class_above, IsProductThrough}
use Rattle.ext_products.proofs.one_product.line_among.Goals as goal

pub returns : goal.returns
returns c =
    let table = c.args.table.now in
    let sphere = c.args.sphere.now in
    let a = c.args.a in
    let x = c.args.x in
    let values = c.args.values.now in
    let value : c.in_ok-value.value ≡ row values x.i = c.in_ok-value.ensures ∙ (c.index-values-i.is ∙ get_or_default values x.i c.index-values-i.result [] c.requires.there) in
    record {
      s = refl;
      t = to_z-of_z w32 c.degree-t.result (record { sfits = c.degree-t.type_inv }) ∙ c.degree-t.ensures;
      i = refl;
      target_s = refl;
      target_t = to_z-of_z w32 c.degree-target_t.result (record { sfits = c.degree-target_t.type_inv }) ∙ c.degree-target_t.ensures;
      product = subst (IsProductThrough table sphere (class_above a) (class_above x)) (sym value) (c.requires.products x.i c.requires.there);
    }
