use Rattle.std.proofs.Common.{◌≡◌, ℕ, zero, suc, ℤ, pos, ◌+ℤ◌, List, refl, subst}
use Rattle.f2_vec.specs.Spans.{HaveWidth}
use Rattle.finite_module.specs.Checked.{Checked}
use Rattle.resolution_laws.specs.Resolution.{Content}
use Rattle.resolution_laws.specs.Exactness.{target_of}
use Rattle.square.specs.Squares.{over, bottom_of}
use Rattle.resolution_images.specs.BareRows.{squares_of}
use Rattle.ext_chart.specs.Dump.{image_width}
use Rattle.ext_chart.proofs.shown.ImagesShown.images.Goals as goal

-- the dimension of what d_s goes to
same_width : (m : Checked) (rows : List (List Content)) (s : ℕ) (t : ℤ) → (target_of (over m) rows s).width t ≡ image_width m.plain.generators rows s t
same_width m rows zero t = refl
same_width m rows (suc s) t = refl

pub returns-clause-widths : goal.returns-clause-widths
returns-clause-widths c =
    let im = c.args.self.now in
    subst (λ n. HaveWidth n c.square.result.now) (same_width im.resolved (squares_of im.rows) c.args.s (bottom_of im.resolved +ℤ pos c.args.k)) c.square.ensures.widths
