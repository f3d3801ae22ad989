use Rattle.std.proofs.Common.{ap, sym, subst, arith}
use Rattle.f2_vec.specs.Spans.{HaveWidth}
use Rattle.f2_sums.specs.Sums.{Block}
use Rattle.f2_sums.specs.Inside.Tables.{AreParts}
use Rattle.f2_sums.proofs.Sums.{four_given, parts_filled, tables_filled, parts_whole}
use Rattle.f2_sums.proofs.tables.Tables.fill.Goals as goal

pub fill-requires-clause-widths : goal.fill-requires-clause-widths
fill-requires-clause-widths c =
    let t = c.self.inside in
    let q = c.div_ceil-quarter.result in
    let rows = c.args.rows.now in
    let g = four_given t.cols t.bits q t.words.from t.words.to t.quarter rows c.quarters_of.result.0.now c.quarters_of.result.1.now c.quarters_of.result.2.now c.quarters_of.result.3.now t.first t.second t.third t.fourth c.args.self.now c.self.invariant c.self.view_is c.requires.widths c.requires.few (omega arith) (omega arith) c.quarters_of.ensures.first c.quarters_of.ensures.second c.quarters_of.ensures.third c.quarters_of.ensures.fourth in
    g.first.widths

pub fill-requires-clause-few : goal.fill-requires-clause-few
fill-requires-clause-few c =
    let t = c.self.inside in
    let q = c.div_ceil-quarter.result in
    let rows = c.args.rows.now in
    let g = four_given t.cols t.bits q t.words.from t.words.to t.quarter rows c.quarters_of.result.0.now c.quarters_of.result.1.now c.quarters_of.result.2.now c.quarters_of.result.3.now t.first t.second t.third t.fourth c.args.self.now c.self.invariant c.self.view_is c.requires.widths c.requires.few (omega arith) (omega arith) c.quarters_of.ensures.first c.quarters_of.ensures.second c.quarters_of.ensures.third c.quarters_of.ensures.fourth in
    g.first.few

pub fill-requires-2-clause-widths : goal.fill-requires-2-clause-widths
fill-requires-2-clause-widths c =
    let t = c.self.inside in
    let q = c.div_ceil-quarter.result in
    let rows = c.args.rows.now in
    let g = four_given t.cols t.bits q t.words.from t.words.to t.quarter rows c.quarters_of.result.0.now c.quarters_of.result.1.now c.quarters_of.result.2.now c.quarters_of.result.3.now t.first t.second t.third t.fourth c.args.self.now c.self.invariant c.self.view_is c.requires.widths c.requires.few (omega arith) (omega arith) c.quarters_of.ensures.first c.quarters_of.ensures.second c.quarters_of.ensures.third c.quarters_of.ensures.fourth in
    g.second.widths

pub fill-requires-2-clause-few : goal.fill-requires-2-clause-few
fill-requires-2-clause-few c =
    let t = c.self.inside in
    let q = c.div_ceil-quarter.result in
    let rows = c.args.rows.now in
    let g = four_given t.cols t.bits q t.words.from t.words.to t.quarter rows c.quarters_of.result.0.now c.quarters_of.result.1.now c.quarters_of.result.2.now c.quarters_of.result.3.now t.first t.second t.third t.fourth c.args.self.now c.self.invariant c.self.view_is c.requires.widths c.requires.few (omega arith) (omega arith) c.quarters_of.ensures.first c.quarters_of.ensures.second c.quarters_of.ensures.third c.quarters_of.ensures.fourth in
    g.second.few

pub fill-requires-3-clause-widths : goal.fill-requires-3-clause-widths
fill-requires-3-clause-widths c =
    let t = c.self.inside in
    let q = c.div_ceil-quarter.result in
    let rows = c.args.rows.now in
    let g = four_given t.cols t.bits q t.words.from t.words.to t.quarter rows c.quarters_of.result.0.now c.quarters_of.result.1.now c.quarters_of.result.2.now c.quarters_of.result.3.now t.first t.second t.third t.fourth c.args.self.now c.self.invariant c.self.view_is c.requires.widths c.requires.few (omega arith) (omega arith) c.quarters_of.ensures.first c.quarters_of.ensures.second c.quarters_of.ensures.third c.quarters_of.ensures.fourth in
    g.third.widths

pub fill-requires-3-clause-few : goal.fill-requires-3-clause-few
fill-requires-3-clause-few c =
    let t = c.self.inside in
    let q = c.div_ceil-quarter.result in
    let rows = c.args.rows.now in
    let g = four_given t.cols t.bits q t.words.from t.words.to t.quarter rows c.quarters_of.result.0.now c.quarters_of.result.1.now c.quarters_of.result.2.now c.quarters_of.result.3.now t.first t.second t.third t.fourth c.args.self.now c.self.invariant c.self.view_is c.requires.widths c.requires.few (omega arith) (omega arith) c.quarters_of.ensures.first c.quarters_of.ensures.second c.quarters_of.ensures.third c.quarters_of.ensures.fourth in
    g.third.few

pub fill-requires-4-clause-widths : goal.fill-requires-4-clause-widths
fill-requires-4-clause-widths c =
    let t = c.self.inside in
    let q = c.div_ceil-quarter.result in
    let rows = c.args.rows.now in
    let g = four_given t.cols t.bits q t.words.from t.words.to t.quarter rows c.quarters_of.result.0.now c.quarters_of.result.1.now c.quarters_of.result.2.now c.quarters_of.result.3.now t.first t.second t.third t.fourth c.args.self.now c.self.invariant c.self.view_is c.requires.widths c.requires.few (omega arith) (omega arith) c.quarters_of.ensures.first c.quarters_of.ensures.second c.quarters_of.ensures.third c.quarters_of.ensures.fourth in
    g.fourth.widths

pub fill-requires-4-clause-few : goal.fill-requires-4-clause-few
fill-requires-4-clause-few c =
    let t = c.self.inside in
    let q = c.div_ceil-quarter.result in
    let rows = c.args.rows.now in
    let g = four_given t.cols t.bits q t.words.from t.words.to t.quarter rows c.quarters_of.result.0.now c.quarters_of.result.1.now c.quarters_of.result.2.now c.quarters_of.result.3.now t.first t.second t.third t.fourth c.args.self.now c.self.invariant c.self.view_is c.requires.widths c.requires.few (omega arith) (omega arith) c.quarters_of.ensures.first c.quarters_of.ensures.second c.quarters_of.ensures.third c.quarters_of.ensures.fourth in
    g.fourth.few

pub invariant_of-self : goal.invariant_of-self
invariant_of-self c =
    let t = c.self.inside in
    let q = c.div_ceil-quarter.result in
    let rows = c.args.rows.now in
    let g = four_given t.cols t.bits q t.words.from t.words.to t.quarter rows c.quarters_of.result.0.now c.quarters_of.result.1.now c.quarters_of.result.2.now c.quarters_of.result.3.now t.first t.second t.third t.fourth c.args.self.now c.self.invariant c.self.view_is c.requires.widths c.requires.few (omega arith) (omega arith) c.quarters_of.ensures.first c.quarters_of.ensures.second c.quarters_of.ensures.third c.quarters_of.ensures.fourth in
    let parts : AreParts t.cols t.bits q rows c.fill.new.self c.fill-2.new.self c.fill-3.new.self c.fill-4.new.self = parts_filled t.cols t.bits q t.words.from t.words.to t.quarter rows c.quarters_of.result.0.now c.quarters_of.result.1.now c.quarters_of.result.2.now c.quarters_of.result.3.now t.first t.second t.third t.fourth c.fill.new.self c.fill-2.new.self c.fill-3.new.self c.fill-4.new.self c.self.invariant g c.fill.ensures.cols c.fill.ensures.most c.fill.ensures.rows c.fill-2.ensures.cols c.fill-2.ensures.most c.fill-2.ensures.rows c.fill-3.ensures.cols c.fill-3.ensures.most c.fill-3.ensures.rows c.fill-4.ensures.cols c.fill-4.ensures.most c.fill-4.ensures.rows in
    tables_filled t.cols t.bits q c.words_of-self-inside.result.from c.words_of-self-inside.result.to rows c.fill.new.self c.fill-2.new.self c.fill-3.new.self c.fill-4.new.self c.self.invariant.small (subst (λ n. HaveWidth n rows) (sym (ap (λ (b : Block). b.cols) c.self.view_is)) c.requires.widths) parts c.words_of-self-inside.ensures

pub returns-clause-rows : goal.returns-clause-rows
returns-clause-rows c =
    let t = c.self.inside in
    let q = c.div_ceil-quarter.result in
    let rows = c.args.rows.now in
    let g = four_given t.cols t.bits q t.words.from t.words.to t.quarter rows c.quarters_of.result.0.now c.quarters_of.result.1.now c.quarters_of.result.2.now c.quarters_of.result.3.now t.first t.second t.third t.fourth c.args.self.now c.self.invariant c.self.view_is c.requires.widths c.requires.few (omega arith) (omega arith) c.quarters_of.ensures.first c.quarters_of.ensures.second c.quarters_of.ensures.third c.quarters_of.ensures.fourth in
    let parts : AreParts t.cols t.bits q rows c.fill.new.self c.fill-2.new.self c.fill-3.new.self c.fill-4.new.self = parts_filled t.cols t.bits q t.words.from t.words.to t.quarter rows c.quarters_of.result.0.now c.quarters_of.result.1.now c.quarters_of.result.2.now c.quarters_of.result.3.now t.first t.second t.third t.fourth c.fill.new.self c.fill-2.new.self c.fill-3.new.self c.fill-4.new.self c.self.invariant g c.fill.ensures.cols c.fill.ensures.most c.fill.ensures.rows c.fill-2.ensures.cols c.fill-2.ensures.most c.fill-2.ensures.rows c.fill-3.ensures.cols c.fill-3.ensures.most c.fill-3.ensures.rows c.fill-4.ensures.cols c.fill-4.ensures.most c.fill-4.ensures.rows in
    parts_whole t.cols t.bits q rows c.fill.new.self c.fill-2.new.self c.fill-3.new.self c.fill-4.new.self parts
