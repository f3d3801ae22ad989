use Rattle.std.proofs.Common.{◌/◌, ◌%◌, ◌^◌, not, slice_index_or, ap}
use Rattle.std.proofs.lemmas.Bool.{eqb-true, eq-eqb, not-false}
use Rattle.std.proofs.Math.Facts.{Fits-lt-pow}
use Rattle.f2_vec.proofs.Spare.{none_spare, spare_zero, zero_spare}
use Rattle.f2_vec.proofs.packing.has_spare_one.Goals as goal

pub returns-then-n-ne0 : goal.returns-then-n-ne0
returns-then-n-ne0 c =
    let n = c.args.n in
    let bs = c.args.bytes.now in
    let left = slice_index_or bs (n / 8) 0 / 2 ^ (n % 8) in (
      λ f. spare_zero n bs c.requires (eqb-true left 0 (not-false _ f)),
      λ h. ap not (eq-eqb left 0 (zero_spare n bs (λ i. Fits-lt-pow (c.type_inv.bytes i)) h)),
    )

pub returns-else-n-ne0 : goal.returns-else-n-ne0
returns-else-n-ne0 c = (λ _. none_spare c.args.n c.args.bytes.now c.requires c.if-n-ne0.false, λ _. ap not (eq-eqb (c.args.n % 8) 0 c.if-n-ne0.false))
