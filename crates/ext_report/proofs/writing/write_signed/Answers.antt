use Rattle.std.proofs.Common.{List, ℕ, ◌≡◌, ◌∙◌, ap, subst, to_z, of_z, w64, arith}
use Rattle.std.proofs.lemmas.Int.{ints}
use Rattle.std.specs.Fmt.{signed_decimal}
use Rattle.edge.specs.Sink.{HasPrefixMore}
use Rattle.edge.proofs.Written.{HasPrefixMore-front, HasPrefixMore-behind}
use Rattle.ext_report.proofs.writing.write_signed.Goals as goal

pub returns-in_err-write_all-clause-prefix : goal.returns-in_err-write_all-clause-prefix
returns-in_err-write_all-clause-prefix g c = HasPrefixMore-front _ _ _ _ c.write_all.ensures.prefix

pub returns-clause-prefix : goal.returns-clause-prefix
returns-clause-prefix g c =
    let number_is : to_z w64 (of_z w64 c.args.number) ≡ c.args.number = omega (arith, ints) in
    let number : c.as_bytes.result.now ≡ signed_decimal c.args.number = c.as_bytes.ensures.value ∙ (c.format.ensures.text ∙ ap signed_decimal number_is) in
    let P : List ℕ → Type 0 = λ t. HasPrefixMore t (g.S.Sink.written c.write_all.new.sink) (g.S.Sink.written c.write_all-2.new.sink) in
    HasPrefixMore-behind _ _ _ _ _ c.in_ok-write_all.ensures.whole (subst P number c.write_all-2.ensures.prefix)
