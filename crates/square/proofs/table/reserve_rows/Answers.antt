use Rattle.std.proofs.Common.{length, refl, ap, ◌∙◌, arith, inl, inr}
use Rattle.std.proofs.lemmas.List.{length-map}
use Rattle.std.proofs.lemmas.Option.{slice_get_read, slice_get_within}
use Rattle.square.specs.Tables.{Shelf}
use Rattle.square.proofs.Pushing.{slice_get-set, map-same_squares, HaveRoom-set}
use Rattle.square.proofs.table.reserve_rows.Goals as goal

pub returns-in_err-reserve-clause-same : goal.returns-in_err-reserve-clause-same
returns-in_err-reserve-clause-same c =
    let rows = c.loop-s.rows.items in
    let len = ap length c.loop-s.invariant.same in
    let left = length-map rows (λ (r : Shelf). r.squares) in
    let right = length-map c.args.rows.now.items (λ (r : Shelf). r.squares) in
    let whole = c.args.rows.now.ok in
    let there = slice_get_read rows (length rows) c.loop-s.s c.index_mut.result.now refl (omega (arith, c.len-s-end.ensures, c.loop-s-test.true)) c.index_mut.ensures.value in
    map-same_squares rows c.loop-s.s c.index_mut.result.now c.reserve.new.self there c.in_err-reserve.ensures.squares ∙ c.loop-s.invariant.same

pub returns-in_err-reserve-clause-kept : goal.returns-in_err-reserve-clause-kept
returns-in_err-reserve-clause-kept c spare h =
    let rows = c.loop-s.rows.items in
    let len = ap length c.loop-s.invariant.same in
    let left = length-map rows (λ (r : Shelf). r.squares) in
    let right = length-map c.args.rows.now.items (λ (r : Shelf). r.squares) in
    let whole = c.args.rows.now.ok in
    let there = slice_get_read rows (length rows) c.loop-s.s c.index_mut.result.now refl (omega (arith, c.len-s-end.ensures, c.loop-s-test.true)) c.index_mut.ensures.value in
    let kept = c.loop-s.invariant.kept spare h in
    let old = kept c.loop-s.s c.index_mut.result.now there in
    HaveRoom-set rows c.loop-s.s c.reserve.new.self spare spare kept (omega (arith, c.in_err-reserve.ensures.room)) (omega arith)

pub loop-s-preserved : goal.loop-s-preserved
loop-s-preserved c =
    let rows = c.loop-s.rows.items in
    let len = ap length c.loop-s.invariant.same in
    let left = length-map rows (λ (r : Shelf). r.squares) in
    let right = length-map c.args.rows.now.items (λ (r : Shelf). r.squares) in
    let whole = c.args.rows.now.ok in
    let there = slice_get_read rows (length rows) c.loop-s.s c.index_mut.result.now refl (omega (arith, c.len-s-end.ensures, c.loop-s-test.true)) c.index_mut.ensures.value in
    record {
      same = map-same_squares rows c.loop-s.s c.index_mut.result.now c.reserve.new.self there c.in_ok-reserve.ensures.squares ∙ c.loop-s.invariant.same;
      kept = λ spare h.
          let kept = c.loop-s.invariant.kept spare h in
          let old = kept c.loop-s.s c.index_mut.result.now there in
          HaveRoom-set rows c.loop-s.s c.reserve.new.self spare spare kept (omega (arith, c.in_ok-reserve.ensures.room)) (omega arith);
      room = λ i row l e.
          elim (slice_get-set rows c.loop-s.s i c.reserve.new.self row e) [
            | inl p ↦ let same = ap (λ (r : Shelf). r.room) p.1 in omega (arith, c.in_ok-reserve.ensures.ok)
            | inr p ↦ let other = p.0 in c.loop-s.invariant.room i row (omega arith) p.1
          ];
    }

pub returns-clause-ok : goal.returns-clause-ok
returns-clause-ok c = λ i row e.
    let rows = c.loop-s.rows.items in
    let len = ap length c.loop-s.invariant.same in
    let left = length-map rows (λ (r : Shelf). r.squares) in
    let right = length-map c.args.rows.now.items (λ (r : Shelf). r.squares) in
    let whole = c.args.rows.now.ok in
    let within = slice_get_within rows i row e in
    c.loop-s.invariant.room i row (omega (arith, c.len-s-end.ensures, c.loop-s-test.false)) e
