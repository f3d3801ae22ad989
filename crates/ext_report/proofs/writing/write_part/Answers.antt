use Rattle.std.proofs.Common.{◌≡◌, ap, ap₂, sym, ◌∙◌, to_z, of_z, w32, w64, arith}
use Rattle.std.proofs.lemmas.Int.{ints}
use Rattle.std.proofs.lemmas.Result.{IfOk-weaker}
use Rattle.edge.specs.Sink.{with_more}
use Rattle.ext_chart.specs.Classes.{class_sum_text}
use Rattle.ext_report.specs.Parts.{part_text}
use Rattle.edge.proofs.Written.{HasPrefixMore-of}
use Rattle.ext_report.proofs.writing.write_part.Goals as goal

pub returns-in-Sum-clause-whole : goal.returns-in-Sum-clause-whole
returns-in-Sum-clause-whole g c =
    let s_is : to_z w64 (of_z w64 c.from-in-Sum.result) ≡ c.in-Sum.s = omega (arith, ints, c.from-in-Sum.ensures) in
    let t_is : to_z w32 (of_z w32 c.in-Sum.t) ≡ c.in-Sum.t = omega (arith, ints) in
    let text = ap₂ (λ s t. class_sum_text s t c.in-Sum.v.now) s_is t_is ∙ sym (ap part_text c.in-Sum.is) in
    IfOk-weaker c.write_sum.result _ _ (λ done last. last ∙ ap (with_more (g.S.Sink.written c.args.sink.now)) text) c.write_sum.ensures.whole

pub returns-in-Sum-clause-prefix : goal.returns-in-Sum-clause-prefix
returns-in-Sum-clause-prefix g c =
    let s_is : to_z w64 (of_z w64 c.from-in-Sum.result) ≡ c.in-Sum.s = omega (arith, ints, c.from-in-Sum.ensures) in
    let t_is : to_z w32 (of_z w32 c.in-Sum.t) ≡ c.in-Sum.t = omega (arith, ints) in
    HasPrefixMore-of _ _ _ _ (ap₂ (λ s t. class_sum_text s t c.in-Sum.v.now) s_is t_is ∙ sym (ap part_text c.in-Sum.is)) c.write_sum.ensures.prefix
