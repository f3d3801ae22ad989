use Rattle.std.proofs.Common.{List, ℕ, ◌+◌, ◌++◌, ◌<◌, length, ◌≡◌, ◌∙◌, ap, sym, arith}
use Rattle.std.specs.Prelude.{decimal}
use Rattle.edge.specs.Sink.{with_more}
use Rattle.milnor_basis.specs.Exponents.{entry}
use Rattle.ext_report.specs.Parts.{separator}
use Rattle.ext_report.proofs.Joined.{joined, joined-more, joined-upto, joined-all}
use Rattle.edge.proofs.Written.{with_more-two, HasPrefixMore-within, HasPrefixMore-whole}
use Rattle.ext_report.proofs.writing.write_exponents.Goals as goal

-- the exponents up to i, and the one that is written next
one_more : (r : List ℕ) (i n : ℕ) (before : List ℕ) → i < length r → before ≡ separator i → n ≡ entry r i → joined r i ++ (before ++ decimal n) ≡ joined r (i + 1)
one_more r i n before l e h =
    ap (λ (t : List ℕ). joined r i ++ (t ++ decimal n)) e ∙ (ap (λ k. joined r i ++ (separator i ++ decimal k)) h ∙ sym (joined-more r i l))

pub returns-in_err-write_number-clause-prefix : goal.returns-in_err-write_number-clause-prefix
returns-in_err-write_number-clause-prefix g c =
    let r = c.args.r.now in
    let i = c.loop-i.i in
    let inside : i < length r = omega (arith, c.len-i-end.ensures.length) in
    let next = one_more r i c.from.result c.separator.result.now inside c.separator.ensures (c.from.ensures ∙ c.exponent.ensures) in
    let p = joined-upto r (i + 1) (omega arith) in
    HasPrefixMore-within (joined r i) _ p.rest _ _ _ _ c.loop-i.invariant.written c.in_err-write_number.ensures.prefix (p.parts ∙ ap (λ (t : List ℕ). t ++ p.rest) (sym next))

pub loop-i-preserved : goal.loop-i-preserved
loop-i-preserved g c =
    let r = c.args.r.now in
    let i = c.loop-i.i in
    let inside : i < length r = omega (arith, c.len-i-end.ensures.length) in
    let next = one_more r i c.from.result c.separator.result.now inside c.separator.ensures (c.from.ensures ∙ c.exponent.ensures) in
    record {
      written = with_more-two _ _ _ (joined r i) _ c.loop-i.invariant.written c.in_ok-write_number.ensures.whole ∙ ap (with_more (g.S.Sink.written c.args.sink.now)) next;
      never_fall = omega (arith, c.loop-i.invariant.never_fall, c.in_ok-write_number.ensures.never_fall);
    }

pub returns-clause-prefix : goal.returns-clause-prefix
returns-clause-prefix g c =
    let all = joined-all c.args.r.now c.loop-i.i (omega (arith, c.len-i-end.ensures.length)) in
    HasPrefixMore-whole _ _ _ (c.loop-i.invariant.written ∙ ap (with_more (g.S.Sink.written c.args.sink.now)) all)
