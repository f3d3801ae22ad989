use Rattle.std.proofs.Common.{◌≡◌, Option, Some, None, false, refl, sym, ◌∙◌, ap, subst}
use Rattle.std.specs.Arc.{arc_value}
use Rattle.std.specs.Option.{option_map, is_some}
use Rattle.square.specs.Squares.{Placed, AreWidths}
use Rattle.save_file.specs.Inside.Outline.{addition_outline_of}
use Rattle.save_file.proofs.DecodingQuasi.{bare_there, not_bare}
use Rattle.save_file.proofs.reading.bare_square.Goals.{then-target-parts-via-then-target-parts, then-target-parts-via-else-target-parts+then-source-parts}
use Rattle.save_file.proofs.reading.bare_square.Goals as goal

none_of : {A B : Type 0} (o : Option A) (f : A → B) → is_some o ≡ false → option_map f o ≡ None
none_of None f e = refl
none_of (Some x) f e = absurd (cc)

pub returns-then-target-parts-clause-square : goal.returns-then-target-parts-clause-square
returns-then-target-parts-clause-square c =
    not_bare c.args.table.now c.square.ensures.is_table c.requires (addition_outline_of c.args.parts.now) (arc_value c.in_ok-square.square.now) c.widths-target.result.0 c.widths-target.result.1 (sym c.in_ok-square.ensures.square)
    (subst (λ (q : Placed). AreWidths q c.widths-target.result.0 c.widths-target.result.1) c.deref-2.ensures c.widths-target.ensures)
    (λ bare a b. elim c.then-target-parts.branch [ then-target-parts-via-then-target-parts w ↦ w.if-target-parts.true a | then-target-parts-via-else-target-parts+then-source-parts w ↦ w.if-source-parts.true b ])

pub returns-clause-square : goal.returns-clause-square
returns-clause-square c =
    bare_there c.args.table.now c.square.ensures.is_table c.requires (addition_outline_of c.args.parts.now) (arc_value c.in_ok-square.square.now) c.widths-target.result.0 c.widths-target.result.1 (sym c.in_ok-square.ensures.square)
    (subst (λ (q : Placed). AreWidths q c.widths-target.result.0 c.widths-target.result.1) c.deref-2.ensures c.widths-target.ensures)
    (ap (λ (q : Placed). q.quasi) (sym c.deref.ensures) ∙ sym c.kept_quasi.ensures.kept ∙ none_of c.kept_quasi.result _ (sym c.is_some.ensures ∙ c.if-is_some.false)) c.if-target-parts.false c.if-source-parts.false
