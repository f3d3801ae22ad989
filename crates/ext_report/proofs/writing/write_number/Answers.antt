use Rattle.std.proofs.Common.{List, ℕ, ◌≡◌, ◌∙◌, subst}
use Rattle.std.specs.Prelude.{decimal}
use Rattle.edge.specs.Sink.{HasPrefixMore}
use Rattle.edge.proofs.Written.{HasPrefixMore-front, HasPrefixMore-behind}
use Rattle.ext_report.proofs.writing.write_number.Goals as goal

pub returns-in_err-write_all-clause-prefix : goal.returns-in_err-write_all-clause-prefix
returns-in_err-write_all-clause-prefix g c = HasPrefixMore-front _ _ _ _ c.write_all.ensures.prefix

pub returns-clause-prefix : goal.returns-clause-prefix
returns-clause-prefix g c =
    let number : c.as_bytes.result.now ≡ decimal c.args.number = c.as_bytes.ensures.value ∙ c.format.ensures.text in
    let P : List ℕ → Type 0 = λ t. HasPrefixMore t (g.S.Sink.written c.write_all.new.sink) (g.S.Sink.written c.write_all-2.new.sink) in
    HasPrefixMore-behind _ _ _ _ _ c.in_ok-write_all.ensures.whole (subst P number c.write_all-2.ensures.prefix)
