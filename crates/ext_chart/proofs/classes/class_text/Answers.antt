use Rattle.std.proofs.Common.{◌≡◌, ◌++◌, ◌∷◌, [], List, ℕ, ℤ, to_z, of_z, w32, ap, ap₂, ◌∙◌, arith}
use Rattle.std.specs.Prelude.{codes, decimal}
use Rattle.std.specs.Fmt.{signed_decimal}
use Rattle.std.proofs.lemmas.Int.{ints}
use Rattle.ext_chart.specs.Classes.{class_text}
use Rattle.ext_chart.proofs.ClassSteps.{seven-parts}
use Rattle.ext_chart.proofs.classes.class_text.Goals as goal

pub returns : goal.returns
returns c =
    let join = λ (a b : List ℕ). a ++ b in
    let row = to_z w32 (of_z w32 c.args.s) in
    let degree = to_z w32 (of_z w32 c.args.t) in
    let row_is : row ≡ c.args.s = omega (arith, ints) in
    let degree_is : degree ≡ c.args.t = omega (arith, ints) in
    let s = c.as_bytes.ensures.value ∙ c.format.ensures.text in
    let t = c.as_bytes-2.ensures.value ∙ c.format-2.ensures.text in
    let i = c.as_bytes-3.ensures.value ∙ c.format-3.ensures.text in
    let first = c.in_ok-extend_from_slice.ensures.items ∙ ap₂ join c.in_ok-text.ensures.items s in
    let second = c.in_ok-push.ensures.items ∙ ap (λ (x : List ℕ). x ++ 44 ∷ []) first in
    let third = c.in_ok-extend_from_slice-2.ensures.items ∙ ap₂ join second t in
    let fourth = c.in_ok-push-2.ensures.items ∙ ap (λ (x : List ℕ). x ++ 44 ∷ []) third in
    let fifth = c.in_ok-extend_from_slice-3.ensures.items ∙ ap₂ join fourth i in
    let written = seven-parts (codes "(") (signed_decimal row) (codes ",") (signed_decimal degree) (codes ",") (decimal c.args.i) (codes ")") in
    c.in_ok-push-3.ensures.items ∙ (ap (λ (x : List ℕ). x ++ 41 ∷ []) fifth ∙ (written ∙ ap₂ (λ (a b : ℤ). class_text a b c.args.i) row_is degree_is))
