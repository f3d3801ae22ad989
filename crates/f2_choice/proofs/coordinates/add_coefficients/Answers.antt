use Rattle.std.proofs.Common.{◌≡◌, ◌<◌, [], length, set, refl, ap, sym, subst, ◌∙◌, arith}
use Rattle.std.proofs.lemmas.Bool.{true≢false}
use Rattle.std.proofs.lemmas.List.{get_or_read}
use Rattle.f2_vec.specs.Vectors.{sum_of}
use Rattle.f2_vec.specs.Spans.{row, unit_vector}
use Rattle.f2_choice.specs.Inside.Columns.{column}
use Rattle.f2_vec.proofs.Sums.{length-zeros, sum_of-zeros_left}
use Rattle.f2_choice.specs.Inside.Tables.{entry_at}
use Rattle.f2_choice.proofs.Clearing.{IsCleared-start, IsCleared-more, length-cleared, cleared-zeros, cleared-IsInSpan, cleared-at_pivots, left-outside, none_from_not_some}
use Rattle.f2_choice.proofs.Filling.{ChangesOnlyColumn-start, ChangesOnlyColumn-more, column-more}
use Rattle.f2_choice.proofs.coordinates.add_coefficients.Goals as goal

pub loop-place-init : goal.loop-place-init
loop-place-init c =
    let v = c.args.vector.now in
    let is : c.xor_with.new.self ≡ v = c.xor_with.ensures ∙ ap (λ z. sum_of z v) c.requires.rest ∙ sum_of-zeros_left (length v) v refl in
    record {
      cleared = IsCleared-start c.args.candidates.now v c.xor_with.new.self (column c.args.at c.args.columns.now) is c.requires.blank;
      changes = ChangesOnlyColumn-start c.args.at c.args.columns.now;
    }

pub loop-place-smaller : goal.loop-place-smaller
loop-place-smaller c =
    let len = length-cleared c.loop-place.from c.args.candidates.now c.args.vector.now c.loop-place.rest (column c.args.at c.loop-place.columns) c.requires.widths c.loop-place.invariant.cleared in
    let n = c.in-Some.ensures.next.reached in
    omega (arith, c.in-Some.ensures.within)

pub bounds : goal.bounds
bounds c =
    let len = length-cleared c.loop-place.from c.args.candidates.now c.args.vector.now c.loop-place.rest (column c.args.at c.loop-place.columns) c.requires.widths c.loop-place.invariant.cleared in
    omega (arith, c.in-Some.ensures.within, c.requires.table.size)

pub offset_bounds-table-place : goal.offset_bounds-table-place
offset_bounds-table-place c =
    let len = length-cleared c.loop-place.from c.args.candidates.now c.args.vector.now c.loop-place.rest (column c.args.at c.loop-place.columns) c.requires.widths c.loop-place.invariant.cleared in
    let l : c.in-Some.place < length c.args.table.now = omega (arith, c.in-Some.ensures.within, c.requires.table.size) in
    omega arith

pub returns-in_default-table-clause-inside : goal.returns-in_default-table-clause-inside
returns-in_default-table-clause-inside c = (
  λ e. absurd (true≢false (sym e)),
  λ s. absurd (left-outside c.loop-place.from c.in-Some.place c.args.candidates.now c.args.table.now c.args.vector.now c.loop-place.rest (column c.args.at c.loop-place.columns) c.requires.widths c.requires.reduced c.requires.nonzero c.requires.table c.loop-place.invariant.cleared c.in-Some.ensures.next (none_from_not_some (entry_at c.args.table.now c.in-Some.place) c.in_default-table.not-Some) s),
)

pub bounds-candidates-i : goal.bounds-candidates-i
bounds-candidates-i c = (c.requires.table.found c.in-Some.place c.in-Some-table.i c.in-Some-table.is).0

pub offset_bounds-candidates-i : goal.offset_bounds-candidates-i
offset_bounds-candidates-i c = let l = (c.requires.table.found c.in-Some.place c.in-Some-table.i c.in-Some-table.is).0 in omega arith

pub xor_with-requires : goal.xor_with-requires
xor_with-requires c = ap length c.requires.rest ∙ length-zeros (length c.args.vector.now)

pub xor_with-requires-in-Some : goal.xor_with-requires-in-Some
xor_with-requires-in-Some c =
    let i = c.in-Some-table.i in
    let l = (c.requires.table.found c.in-Some.place i c.in-Some-table.is).0 in
    let x : c.index-candidates-i.result ≡ row c.args.candidates.now i = get_or_read c.args.candidates.now i c.index-candidates-i.result l c.index-candidates-i.is [] in
    length-cleared c.loop-place.from c.args.candidates.now c.args.vector.now c.loop-place.rest (column c.args.at c.loop-place.columns) c.requires.widths c.loop-place.invariant.cleared
    ∙ sym (ap length x ∙ c.requires.widths i l)

pub loop-place-preserved : goal.loop-place-preserved
loop-place-preserved c =
    let at = c.args.at in
    let i = c.in-Some-table.i in
    let columns = c.loop-place.columns in
    let h = c.loop-place.invariant in
    let l = (c.requires.table.found c.in-Some.place i c.in-Some-table.is).0 in
    let x : c.index-candidates-i.result ≡ row c.args.candidates.now i = get_or_read c.args.candidates.now i c.index-candidates-i.result l c.index-candidates-i.is [] in
    let m : i < length columns = omega (arith, l, h.changes.as_many, c.requires.as_many) in
    let v : c.index-columns-i.result ≡ row columns i = get_or_read columns i c.index-columns-i.result m c.index-columns-i.is [] in
    let within : at < length (row columns i) = subst (λ n. at < n) (sym (h.changes.lengths i)) (c.requires.within i (omega (arith, h.changes.as_many))) in
    let flipped : c.flip.new.self ≡ sum_of (row columns i) (unit_vector (length (row columns i)) at) = c.flip.ensures ∙ ap (λ z. sum_of z (unit_vector (length z) at)) (sym c.index-columns-i.is ∙ v) in
    record {
      cleared = IsCleared-more c.loop-place.from c.in-Some.place i c.args.candidates.now c.args.table.now c.args.vector.now c.loop-place.rest (column at columns) c.xor_with-in-Some.new.self (column at (set columns i c.flip.new.self)) c.requires.widths c.requires.nonzero c.requires.table h.cleared c.in-Some.ensures.next c.in-Some-table.is
          (c.xor_with-in-Some.ensures ∙ ap (λ z. sum_of c.loop-place.rest z) x) (column-more at i columns c.flip.new.self m within flipped);
      changes = ChangesOnlyColumn-more at i c.args.columns.now columns c.flip.new.self m within flipped h.changes;
    }

pub returns-clause-inside : goal.returns-clause-inside
returns-clause-inside c =
    (λ e. cleared-IsInSpan c.loop-place.from c.args.candidates.now c.args.vector.now c.loop-place.rest (column c.args.at c.loop-place.columns) c.requires.widths c.loop-place.invariant.cleared (c.in_default.ensures.none.0 refl), λ s. refl)

pub returns-clause-at_pivots : goal.returns-clause-at_pivots
returns-clause-at_pivots c = λ s. cleared-at_pivots c.loop-place.from c.args.candidates.now c.args.vector.now c.loop-place.rest (column c.args.at c.loop-place.columns) c.requires.widths c.requires.reduced c.requires.nonzero c.loop-place.invariant.cleared (c.in_default.ensures.none.0 refl)

pub returns-clause-rest : goal.returns-clause-rest
returns-clause-rest c = λ s. cleared-zeros c.loop-place.from c.args.candidates.now c.args.vector.now c.loop-place.rest (column c.args.at c.loop-place.columns) c.requires.widths c.loop-place.invariant.cleared (c.in_default.ensures.none.0 refl)
