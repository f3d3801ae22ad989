use Rattle.std.proofs.Common.{◌≡◌, [], map, to_z, of_z, w32, ap, ◌∙◌, arith}
use Rattle.std.proofs.lemmas.Int.{ints}
use Rattle.std.proofs.lemmas.List.{take_all}
use Rattle.module_build.specs.FileText.{member}
use Rattle.module_spec.specs.Spec.{degree_at}
use Rattle.finite_module.specs.Text.{name_at}
use Rattle.module_build.specs.Inside.Written.{written_after, after_comma}
use Rattle.module_build.proofs.FileSteps.{written_member}
use Rattle.module_build.proofs.file.members.Goals as goal

pub loop-i-preserved : goal.loop-i-preserved
loop-i-preserved c =
    let gs = c.args.given.now.plain.generators in
    let same : to_z w32 (of_z w32 c.degree.result) ≡ c.degree.result = omega (arith, ints) in
    written_member gs c.loop-i.i c.loop-i.text.items c.write_item.new.text.items c.as_slice.result.now (omega (arith, c.count-i-end.ensures.count)) c.loop-i.invariant
    (c.as_slice.ensures.value ∙ c.in_ok-member.ensures ∙ ap (λ z. member (record { name = c.name.result.now; degree = z })) same ∙ ap (λ n. member (record { name = n; degree = c.degree.result })) c.name.ensures ∙ ap (λ z. member (record { name = name_at gs c.loop-i.i; degree = z })) c.degree.ensures.degree)
    c.in_ok-write_item.ensures

pub returns : goal.returns
returns c = c.loop-i.invariant ∙ ap (λ gs. written_after [] (map member gs)) (take_all c.loop-i.i c.args.given.now.plain.generators (omega (arith, c.count-i-end.ensures.count)))
