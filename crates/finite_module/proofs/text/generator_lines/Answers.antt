use Rattle.std.proofs.Common.{◌≡◌, ◌++◌, to_z, of_z, w32, ap, ◌∙◌, arith}
use Rattle.std.proofs.lemmas.Int.{ints}
use Rattle.std.proofs.lemmas.List.{take_all}
use Rattle.std.specs.List.{flat_map}
use Rattle.module_spec.specs.Spec.{no_generator}
use Rattle.finite_module.specs.Text.{name_at, generator_line}
use Rattle.finite_module.proofs.TextSteps.{flat_map_take}
use Rattle.finite_module.proofs.text.generator_lines.Goals as goal

pub loop-i-preserved : goal.loop-i-preserved
loop-i-preserved c =
    let gs = c.args.generators.now in
    let same : to_z w32 (of_z w32 c.degree.result) ≡ c.degree.result = omega (arith, ints) in
    c.in_ok-extend_from_slice.ensures.items ∙ ap (λ line. c.loop-i.text.items ++ line) c.as_slice.ensures.value
    ∙ flat_map_take generator_line gs c.loop-i.i no_generator c.loop-i.text.items c.in_ok-line.line.items (omega (arith, c.count-i-end.ensures.count)) c.loop-i.invariant
    (c.in_ok-line.ensures ∙ ap (λ z. generator_line (record { name = c.name.result.now; degree = z })) same ∙ ap (λ n. generator_line (record { name = n; degree = c.degree.result })) c.name.ensures ∙ ap (λ z. generator_line (record { name = name_at gs c.loop-i.i; degree = z })) c.degree.ensures.degree)

pub returns : goal.returns
returns c = c.loop-i.invariant ∙ ap (flat_map generator_line) (take_all c.loop-i.i c.args.generators.now (omega (arith, c.count-i-end.ensures.count)))
