use Rattle.std.proofs.Common.{◌≡◌, ◌∙◌, ℕ, List, ap, sym, subst}
use Rattle.std.specs.Prelude.{Option, MatchOption, Result, Ok, Err, IsOkAnd}
use Rattle.std.proofs.lemmas.Result.{IfOk-weaker}
use Rattle.ext_chart.specs.Classes.{product_lines_text}
use Rattle.ext_products.specs.declared.refusal.Refusal.{Refusal}
use Rattle.ext_products.specs.declared.refusal.Refusal.TheVariants.{NoClass}
use Rattle.ext_products.specs.declared.refusal.Named.TheVariants.{By}
use Rattle.ext_products.specs.Products.{resolution, IsProductsText}
use Rattle.ext_h_products.proofs.Counts.{h_there}
use Rattle.ext_h_products.proofs.products.text_of_one.Goals as goal

pub returns : goal.returns
returns c =
    IfOk-weaker c.product_lines.result _ _
    (λ text e are table q canonical canonical_q sphere.
    let answer : Result (List ℕ) Refusal = Ok text.items in
    let r = resolution c.args.images.now.resolved.plain table in
    let made = c.in_ok-lines.ensures are table q canonical canonical_q sphere in
    subst (λ (o : Option ℕ). MatchOption o (IsOkAnd answer (IsProductsText c.args.shape c.args.range c.args.by r q)) (λ n. answer ≡ Err (NoClass By c.args.by n)))
    (sym (h_there c.row_one_has_squares.ensures c.args.range c.args.by c.requires.there q canonical_q sphere))
    (record {
      a = made.a;
      at = made.at;
      lines = c.in_ok-lines.lines.items;
      are_lines = made.are_lines;
      is = e ∙ ap product_lines_text c.as_slice.ensures.value;
    }))
    c.product_lines.ensures
