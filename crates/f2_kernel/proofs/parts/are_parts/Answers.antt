use Rattle.std.proofs.Common.{◌≡◌, ℕ, ◌+◌, Bool, true, Option, Some, None, length, ap, sym, ◌∙◌}
use Rattle.std.specs.Prelude.{nat_eq}
use Rattle.std.specs.Option.{SomeIff, option_eq}
use Rattle.std.proofs.lemmas.Bool.{false≢true, eqb-true}
use Rattle.std.proofs.lemmas.Result.{IfOk-weaker}
use Rattle.f2_kernel.proofs.Split.{parts_of_split, split_of_parts}
use Rattle.f2_kernel.proofs.parts.are_parts.Goals as goal

-- the checked sum is the number that it was compared with
counted : (r : Option ℕ) (P : Type 0) (sum wanted : ℕ) (is : Bool) → SomeIff r P sum → is ≡ option_eq nat_eq r (Some wanted) → is ≡ true → sum ≡ wanted
counted None P sum wanted is h e t = absurd (false≢true (sym e ∙ t))
counted (Some x) P sum wanted is h e t = sym h.1 ∙ eqb-true x wanted (sym e ∙ t)

pub returns : goal.returns
returns c =
    let n = c.args.matrix.now.cols in
    let rows = c.args.matrix.now.rows in
    let image = c.args.image.now in
    let chosen = c.args.chosen.now in
    let kernel = c.args.kernel.now in
    let basis = c.in_ok-is_basis.ensures.0 c.if-not-is_basis.false in
    let count : length image + length kernel ≡ length rows = counted c.checked_add.result _ _ (length c.rows-height.result.now) c.eq-fit.result c.checked_add.ensures c.eq-fit.ensures c.if-not-fit.false ∙ ap length c.rows-height.ensures.rows in
    let many : length chosen ≡ length image = search in
    IfOk-weaker c.are_split.result _ _
    (λ is e. (
      λ t.
          parts_of_split n rows image chosen kernel (record { wide = c.rows-height.ensures.widths; image_wide = c.requires.image; chosen_wide = c.requires.chosen; kernel_wide = c.requires.kernel; as_many = many; count = count }) basis.0 basis.1 c.requires.reduced c.requires.nonzero
          (c.in_ok-clear.ensures.0 c.if-not-clear.false) (e.0 t),
      λ h. e.1 (split_of_parts c.parts_are_reduction.ensures n rows image chosen kernel c.rows-height.ensures.widths h),
    ))
    c.are_split.ensures
