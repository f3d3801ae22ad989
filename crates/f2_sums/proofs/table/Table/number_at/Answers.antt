use Rattle.std.specs.List.{All}
use Rattle.std.proofs.Common.{◌≤◌, ◌<◌, length, ap, sym, subst, arith}
use Rattle.f2_sums.specs.Sums.{Block}
use Rattle.f2_sums.proofs.Numbers.{few_sums}
use Rattle.f2_sums.proofs.Sums.{length-rows_in}
use Rattle.f2_sums.proofs.table.Table.number_at.Goals as goal

pub index_at-requires-clause-places : goal.index_at-requires-clause-places
index_at-requires-clause-places c = subst (λ k. All (λ p. p < k) c.args.places.now) (sym (ap (λ (b : Block). b.cols) c.self.view_is)) c.requires.places

pub index_at-requires-clause-few : goal.index_at-requires-clause-few
index_at-requires-clause-few c =
    let t = c.self.inside in
    omega (arith, c.requires.one_each, ap (λ (b : Block). length b.rows) c.self.view_is, length-rows_in t.count t.sums.items, c.self.invariant.few, c.self.invariant.small)

pub returns-clause-within : goal.returns-clause-within
returns-clause-within c =
    let q = few_sums (length c.args.self.now.rows) c.args.vector.now c.args.places.now (omega (arith, c.requires.one_each)) in
    omega (arith, q, c.index_at.ensures)

pub returns-clause-small : goal.returns-clause-small
returns-clause-small c =
    let t = c.self.inside in
    let size : length c.args.places.now ≤ 8 = omega (arith, c.requires.one_each, ap (λ (b : Block). length b.rows) c.self.view_is, length-rows_in t.count t.sums.items, c.self.invariant.few, c.self.invariant.small) in
    let q = few_sums 8 c.args.vector.now c.args.places.now size in
    omega (arith, q, c.index_at.ensures)
