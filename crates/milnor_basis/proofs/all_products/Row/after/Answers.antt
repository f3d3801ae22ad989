use Rattle.std.proofs.Common.{◌-◌, ◌*◌, ◌^◌, ◌≤◌, sym, subst, arith}
use Rattle.milnor_basis.proofs.RowPlaces.{number_fits}
use Rattle.milnor_basis.proofs.all_products.Row.after.Goals as goal

pub more-sum-requires-clause-small : goal.more-sum-requires-clause-small
more-sum-requires-clause-small c =
    let fits = number_fits c.args.row (c.args.number * 2 ^ c.args.column) c.args.self.sum c.args.self.most c.args.self.left.degree (omega (arith, c.requires.past)) c.requires.greatest c.requires.fits in
    omega (arith, fits.0, c.requires.small)

pub chosen-requires-clause-fits : goal.chosen-requires-clause-fits
chosen-requires-clause-fits c =
    let fits = number_fits c.args.row (c.args.number * 2 ^ c.args.column) c.args.self.sum c.args.self.most c.args.self.left.degree (omega (arith, c.requires.past)) c.requires.greatest c.requires.fits in
    subst (λ n. n * (2 ^ c.args.row - 1) ≤ c.args.self.left.degree) (sym c.more-sum.ensures) fits.1
