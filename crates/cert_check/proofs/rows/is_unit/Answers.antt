use Rattle.std.proofs.Common.{◌≡◌, ◌+◌, Bool, List, length, refl, sym, subst, ◌∙◌}
use Rattle.std.proofs.lemmas.Bool.{false≢true}
use Rattle.f2_vec.specs.Vectors.{IsFirstOne, IsZeroFrom}
use Rattle.cert_check.proofs.Vectors.{none_told, is_unit_vector, unit_past, unit_not_zero}
use Rattle.cert_check.proofs.rows.is_unit.Goals as goal

pub returns-then-first-i : goal.returns-then-first-i
returns-then-first-i c =
    let v = c.args.v.now in
    let told = none_told c.next_one.result c.is_none.result c.is_none.ensures in
    let first : IsFirstOne v c.args.i = subst (IsFirstOne v) c.if-first-i.true c.in-Some.ensures.first in
    let len : length v ≡ c.args.n = sym c.len.ensures ∙ c.if-len-n.false in (
      λ t. is_unit_vector v c.args.n c.args.i c.requires len first (c.next_one.ensures.none.0 (told.0 t)),
      λ e. told.1 (c.next_one.ensures.none.1 (subst (λ (z : List Bool). IsZeroFrom z (c.args.i + 1)) (sym e) (unit_past c.args.n c.args.i c.requires))),
    )

pub returns-in-None : goal.returns-in-None
returns-in-None c = (λ t. absurd (false≢true t), λ e. absurd (unit_not_zero c.args.v.now c.args.n c.args.i c.requires e (c.in-None.ensures.none.0 refl)))
