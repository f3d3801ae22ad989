use Rattle.std.proofs.Common.{◌≡◌, ℕ, ℤ, List, ◌++◌, w32, to_z, of_z, ap, ◌∙◌}
use Rattle.std.proofs.lemmas.Int.{to_z-of_z}
use Rattle.std.proofs.lemmas.List.{append_assoc}
use Rattle.std.specs.Prelude.{codes, decimal}
use Rattle.finite_module.specs.Text.{newline}
use Rattle.ext_chart.specs.Check.{degrees_text}
use Rattle.ext_chart.proofs.check_text.generators_line.Goals as goal

-- five texts, put one behind the other
put_in_line : (a b c d e second third fourth whole : List ℕ) → second ≡ a ++ b → third ≡ second ++ c → fourth ≡ third ++ d → whole ≡ fourth ++ e → whole ≡ a ++ (b ++ (c ++ (d ++ e)))
put_in_line a b c d e second third fourth whole p q r s =
    let all : whole ≡ (((a ++ b) ++ c) ++ d) ++ e = cc in
    all ∙ simp append_assoc

pub returns : goal.returns
returns c =
    let first = c.in_ok-line.line.items in
    let start : first ≡ codes "accepted " = c.in_ok-line.ensures.items in
    let count : c.as_bytes.result.now ≡ decimal c.args.count = c.as_bytes.ensures.value ∙ c.format.ensures.text in
    let from : to_z w32 (of_z w32 c.args.least) ≡ c.args.least = to_z-of_z w32 c.args.least c.ranges.least in
    let to : to_z w32 (of_z w32 c.args.greatest) ≡ c.args.greatest = to_z-of_z w32 c.args.greatest c.ranges.greatest in
    let degrees : c.as_slice.result.now ≡ degrees_text c.args.least c.args.greatest =
    c.as_slice.ensures.value ∙ (c.in_ok-degrees.ensures ∙ (ap (λ (z : ℤ). degrees_text z (to_z w32 (of_z w32 c.args.greatest))) from ∙ ap (degrees_text c.args.least) to)) in
    put_in_line (codes "accepted ") (decimal c.args.count) (codes " generators, degrees ") (degrees_text c.args.least c.args.greatest) newline _ _ _ _
    (c.in_ok-extend_from_slice.ensures.items ∙ (ap (λ (l : List ℕ). l ++ c.as_bytes.result.now) start ∙ ap (λ (l : List ℕ). codes "accepted " ++ l) count))
    c.in_ok-extend_from_slice-2.ensures.items
    (c.in_ok-extend_from_slice-3.ensures.items ∙ ap (λ (l : List ℕ). c.extend_from_slice-2.new.self.items ++ l) degrees)
    c.in_ok-push.ensures.items
