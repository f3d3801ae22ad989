use Rattle.std.proofs.Common.{◌≡◌, ◌-◌, ◌<◌, List, [], Bool, length, sym, ap, subst, arith}
use Rattle.std.proofs.lemmas.Bool.{false≢true}
use Rattle.std.proofs.lemmas.List.{get_or_read}
use Rattle.f2_vec.specs.Vectors.{IsZeroFrom}
use Rattle.f2_vec.specs.Spans.{row}
use Rattle.cert_check.proofs.Vectors.{some_is_not_none}
use Rattle.cert_check.proofs.rows.end_in_zeros.Goals as goal

pub returns-then-is_some : goal.returns-then-is_some
returns-then-is_some c =
    let rows = c.args.rows.now in
    let i = c.loop-v.v-index in
    let v = c.v-item.result in
    let within : i < length rows = omega arith in
    let here = get_or_read rows i v within c.v-item.is [] in
    let len = ap length here in
    let from : c.saturating_sub.result ≡ length (row rows i) - c.args.count = omega (arith, c.saturating_sub.ensures, c.len.ensures) in (
      λ t. absurd (false≢true t),
      λ all. absurd (some_is_not_none c.next_one.result c.is_some.result c.is_some.ensures c.if-is_some.true (c.next_one.ensures.none.1 (subst (IsZeroFrom v) (sym from) (subst (λ (z : List Bool). IsZeroFrom z (length (row rows i) - c.args.count)) (sym here) (all i within))))),
    )
