use Rattle.std.proofs.Common.{[], length, ap, ◌∙◌, arith}
use Rattle.std.proofs.lemmas.List.{get_or_read}
use Rattle.f2_vec.specs.Spans.{combination}
use Rattle.f2_sums.specs.Sums.{Block}
use Rattle.f2_sums.proofs.Sums.{number_within, sum_there}
use Rattle.f2_sums.proofs.table.Table.sum.Goals as goal

pub index-requires : goal.index-requires
index-requires c =
    let t = c.self.inside in
    let l = number_within t.cols t.most t.count c.args.number t.sums.items c.args.self.now.rows c.self.invariant (ap (λ (b : Block). b.rows) c.self.view_is) c.requires in
    omega (arith, l, t.sums.ok.0)

pub returns-clause-width : goal.returns-clause-width
returns-clause-width c =
    let t = c.self.inside in
    let l = number_within t.cols t.most t.count c.args.number t.sums.items c.args.self.now.rows c.self.invariant (ap (λ (b : Block). b.rows) c.self.view_is) c.requires in
    ap length (get_or_read t.sums.items c.args.number c.index.result.now l c.index.ensures []) ∙ c.self.invariant.room.widths c.args.number l ∙ ap (λ (b : Block). b.cols) c.self.view_is

pub returns-clause-sum : goal.returns-clause-sum
returns-clause-sum c = λ cs k e.
    let t = c.self.inside in
    let same = ap (λ (b : Block). b.rows) c.self.view_is in
    let l = number_within t.cols t.most t.count c.args.number t.sums.items c.args.self.now.rows c.self.invariant same c.requires in
    get_or_read t.sums.items c.args.number c.index.result.now l c.index.ensures []
    ∙ sum_there t.cols t.most t.count c.args.number cs t.sums.items c.args.self.now.rows c.self.invariant same k e
    ∙ ap (λ n. combination n cs c.args.self.now.rows) (ap (λ (b : Block). b.cols) c.self.view_is)
