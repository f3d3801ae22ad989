use Rattle.std.proofs.Common.{◌-◌, take, ap, ◌∙◌, arith}
use Rattle.std.specs.List.{filter}
use Rattle.f2_vec.specs.Spans.{HaveWidth}
use Rattle.f2_choice.specs.Inside.Form.{is_left, is_right}
use Rattle.f2_choice.proofs.Form.{ends_in_order, left_are, right_are}
use Rattle.f2_choice.proofs.parts.rows_of.Goals as goal

pub overflow_sub-end : goal.overflow_sub-end
overflow_sub-end c = ends_in_order c.args.n c.cols.result c.rows_before-bar.result c.rows_before-end.result c.rows-rows.result.now (omega (arith, c.requires.bar, c.cols.ensures)) c.rows_before-bar.ensures.before c.rows_before-end.ensures.others

pub returns-clause-image : goal.returns-clause-image
returns-clause-image c =
    c.split_at.ensures.front
    ∙ left_are c.args.n c.rows_before-bar.result c.rows-rows.result.now c.rows_before-bar.ensures.within c.rows_before-bar.ensures.before c.rows_before-bar.ensures.others
    ∙ ap (filter (is_left c.args.n)) c.rows-rows.ensures.rows

pub returns-clause-kernel : goal.returns-clause-kernel
returns-clause-kernel c =
    let rows = c.rows-rows.result.now in
    let wide : HaveWidth c.cols.result rows = rw (c.cols.ensures, c.rows-rows.ensures.rows) c.rows-rows.ensures.widths in
    let ordered = ends_in_order c.args.n c.cols.result c.rows_before-bar.result c.rows_before-end.result rows (omega (arith, c.requires.bar, c.cols.ensures)) c.rows_before-bar.ensures.before c.rows_before-end.ensures.others in
    c.split_at-2.ensures.front ∙ ap (take (c.rows_before-end.result - c.rows_before-bar.result)) c.split_at.ensures.back
    ∙ right_are c.args.n c.cols.result c.rows_before-bar.result c.rows_before-end.result rows wide ordered c.rows_before-end.ensures.within c.rows_before-bar.ensures.before c.rows_before-bar.ensures.others c.rows_before-end.ensures.before c.rows_before-end.ensures.others
    ∙ ap (filter (is_right c.args.n)) c.rows-rows.ensures.rows
