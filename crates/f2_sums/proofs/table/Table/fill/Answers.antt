use Rattle.std.proofs.Common.{◌≤◌, length, ap, sym, ◌∙◌, subst, arith}
use Rattle.std.proofs.lemmas.List.{with_items_is}
use Rattle.f2_vec.specs.Spans.{HaveWidth}
use Rattle.f2_sums.specs.Sums.{Block}
use Rattle.f2_sums.specs.Inside.Tables.{IsRoomForSums, rows_in}
use Rattle.f2_sums.proofs.Sums.{filled, rows_held}
use Rattle.f2_sums.proofs.table.Table.fill.Goals as goal

pub fill_table-requires-clause-room : goal.fill_table-requires-clause-room
fill_table-requires-clause-room c = subst (IsRoomForSums c.self.inside.cols c.self.inside.most) (sym c.as_mut_slice.ensures.value) c.self.invariant.room

pub fill_table-requires-clause-block : goal.fill_table-requires-clause-block
fill_table-requires-clause-block c = subst (λ n. HaveWidth n c.args.rows.now) (sym (ap (λ (b : Block). b.cols) c.self.view_is)) c.requires.widths

pub invariant_of-self : goal.invariant_of-self
invariant_of-self c =
    let t = c.self.inside in
    let ws = c.fill_table.new.table in
    let w : HaveWidth t.cols c.args.rows.now = subst (λ n. HaveWidth n c.args.rows.now) (sym (ap (λ (b : Block). b.cols) c.self.view_is)) c.requires.widths in
    let few : length c.args.rows.now ≤ t.most = omega (arith, c.requires.few, ap (λ (b : Block). b.most) c.self.view_is) in
    rw (with_items_is t.sums ws (c.fill_table.ensures.room.size ∙ sym c.self.invariant.room.size ∙ sym t.sums.ok.0))
    (filled t.cols t.most c.args.rows.now ws c.self.invariant.small few w c.fill_table.ensures.room c.fill_table.ensures.sums)

pub returns-clause-rows : goal.returns-clause-rows
returns-clause-rows c =
    let t = c.self.inside in
    let ws = c.fill_table.new.table in
    let w : HaveWidth t.cols c.args.rows.now = subst (λ n. HaveWidth n c.args.rows.now) (sym (ap (λ (b : Block). b.cols) c.self.view_is)) c.requires.widths in
    ap (rows_in (length c.args.rows.now)) (with_items_is t.sums ws (c.fill_table.ensures.room.size ∙ sym c.self.invariant.room.size ∙ sym t.sums.ok.0))
    ∙ rows_held t.cols c.args.rows.now ws w c.fill_table.ensures.sums
