use Rattle.std.proofs.Common.{◌≡◌, ap, ap₂, ◌∙◌, to_z, of_z, w32, w64, arith}
use Rattle.std.proofs.lemmas.Int.{ints}
use Rattle.edge.specs.Sink.{with_more}
use Rattle.ext_chart.specs.Classes.{class_text}
use Rattle.ext_report.specs.Parts.{plus}
use Rattle.edge.proofs.Written.{HasPrefixMore-front, HasPrefixMore-behind, HasPrefixMore-of}
use Rattle.ext_report.proofs.writing.write_term.Goals as goal

pub returns-in_err-write_all-clause-prefix : goal.returns-in_err-write_all-clause-prefix
returns-in_err-write_all-clause-prefix g c =
    HasPrefixMore-front (plus c.args.some) (class_text c.args.s c.args.t c.args.i) _ _ (HasPrefixMore-of _ (plus c.args.some) _ _ c.plus.ensures c.write_all.ensures.prefix)

pub returns-clause-prefix : goal.returns-clause-prefix
returns-clause-prefix g c =
    let s_is : to_z w64 (of_z w64 c.args.s) ≡ c.args.s = omega (arith, ints) in
    let t_is : to_z w32 (of_z w32 c.args.t) ≡ c.args.t = omega (arith, ints) in
    HasPrefixMore-behind (plus c.args.some) (class_text c.args.s c.args.t c.args.i) _ _ _ (c.in_ok-write_all.ensures.whole ∙ ap (with_more (g.S.Sink.written c.args.sink.now)) c.plus.ensures)
    (HasPrefixMore-of _ (class_text c.args.s c.args.t c.args.i) _ _ (ap₂ (λ s t. class_text s t c.args.i) s_is t_is) c.write_class.ensures.prefix)
