use Rattle.std.proofs.Common.{◌≡◌, ◌∙◌, ℕ, List, ap, sym, subst}
use Rattle.std.specs.Prelude.{Option, MatchOption, Result, Ok, Err, IsOkAnd}
use Rattle.std.proofs.lemmas.Result.{IfOk-weaker}
use Rattle.finite_module.specs.Checked.{sphere_file}
use Rattle.finite_module.specs.DerivedAction.{derived_module}
use Rattle.chain_map.specs.Classes.{through}
use Rattle.ext_chart.specs.Classes.{product_lines_text}
use Rattle.ext_products.specs.declared.refusal.Refusal.{Refusal}
use Rattle.ext_products.specs.declared.refusal.Refusal.TheVariants.{NoClass}
use Rattle.ext_products.specs.declared.refusal.Named.TheVariants.{By}
use Rattle.ext_products.specs.Products.{resolution, IsProductsText}
use Rattle.ext_products.proofs.products.text_of_one.Goals as goal

pub returns-clause-text : goal.returns-clause-text
returns-clause-text c = λ all sphere canonical.
    let text = c.in_ok-product_lines.field-0.items in
    let answer : Result (List ℕ) Refusal = Ok text in
    let q = resolution (derived_module sphere_file) sphere in
    let made = c.in_ok-lines.ensures.lines all sphere canonical in
    subst (λ (o : Option ℕ). MatchOption o (IsOkAnd answer (IsProductsText c.args.shape c.args.range c.args.by (through c.args.range c.args.table.now) q)) (λ n. answer ≡ Err (NoClass By c.args.by n))) (sym (c.in_ok-lines.ensures.there sphere canonical))
    (record {
      a = made.a;
      at = made.at;
      lines = c.in_ok-lines.lines.items;
      are_lines = made.are_lines;
      is = c.in_ok-product_lines.ensures ∙ ap product_lines_text c.as_slice.ensures.value;
    })
