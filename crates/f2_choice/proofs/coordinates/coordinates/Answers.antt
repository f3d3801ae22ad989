use Rattle.std.proofs.Common.{◌≡◌, ◌+◌, ◌-◌, ◌<◌, suc, Bool, List, [], ◌++◌, length, take, drop, reverse, refl, ap, sym, subst, ◌∙◌, arith, inl, inr}
use Rattle.std.proofs.lemmas.Bool.{cases_lt, true≢false}
use Rattle.std.proofs.lemmas.List.{get_or_read, get_or-reverse, take-append-le, take_all}
use Rattle.f2_vec.specs.Vectors.{zeros}
use Rattle.f2_vec.specs.Spans.{row, HaveWidth, IsInSpan}
use Rattle.f2_matrix.specs.Preimages.{at_pivots}
use Rattle.f2_matrix.specs.Reduction.{augmented}
use Rattle.f2_choice.specs.Inside.Columns.{column, ChangesOnlyColumn}
use Rattle.f2_choice.specs.Coordinates.{coordinates}
use Rattle.f2_choice.specs.Inside.Tables.{IsTableOfPivots}
use Rattle.f2_matrix.proofs.Pivots.{pivot_within}
use Rattle.f2_choice.proofs.Filling.{AreCoordinatesTo, AreCoordinatesTo-start, AreCoordinatesTo-more, AreCoordinatesTo-end}
use Rattle.f2_choice.proofs.coordinates.coordinates.Goals as goal

pub loop-i-init : goal.loop-i-init
loop-i-init c = record {
  columns = AreCoordinatesTo-start c.args.candidates.now c.rows-rows.result.now c.in_ok-columns.columns.items c.in_ok-columns.ensures;
  inside = λ e l m. absurd (omega arith);
  rest = c.in_ok-rest.ensures ∙ ap zeros c.cols-n.ensures;
}

pub table_of_pivots-requires-clause-within : goal.table_of_pivots-requires-clause-within
table_of_pivots-requires-clause-within c = λ i l. omega (arith, pivot_within c.args.matrix.now.cols c.args.candidates.now i c.requires.widths c.requires.nonzero l, c.cols-n.ensures)

pub add_coefficients-inside-requires-clause-widths : goal.add_coefficients-inside-requires-clause-widths
add_coefficients-inside-requires-clause-widths c =
    let rows = c.rows-rows.result.now in
    let k = length rows - 1 - c.loop-i.i in
    let l : k < length rows = omega (arith, c.loop-i-test.true) in
    let v : c.index-rows-rows.result ≡ row rows k = get_or_read rows k c.index-rows-rows.result l c.index-rows-rows.is [] in
    let wide : length c.index-rows-rows.result ≡ c.args.matrix.now.cols = ap length v ∙ ap (λ z. length (row z k)) c.rows-rows.ensures.rows ∙ c.rows-rows.ensures.widths k (omega (arith, ap length c.rows-rows.ensures.rows)) in
    subst (λ n. HaveWidth n c.args.candidates.now) (sym wide) c.requires.widths

pub add_coefficients-inside-requires-clause-table : goal.add_coefficients-inside-requires-clause-table
add_coefficients-inside-requires-clause-table c =
    let rows = c.rows-rows.result.now in
    let k = length rows - 1 - c.loop-i.i in
    let l : k < length rows = omega (arith, c.loop-i-test.true) in
    let v : c.index-rows-rows.result ≡ row rows k = get_or_read rows k c.index-rows-rows.result l c.index-rows-rows.is [] in
    let wide : length c.index-rows-rows.result ≡ c.args.matrix.now.cols = ap length v ∙ ap (λ z. length (row z k)) c.rows-rows.ensures.rows ∙ c.rows-rows.ensures.widths k (omega (arith, ap length c.rows-rows.ensures.rows)) in
    let table : IsTableOfPivots c.args.matrix.now.cols c.args.candidates.now c.as_slice.result.now = rw (c.as_slice.ensures.value, ← c.cols-n.ensures) c.in_ok-table.ensures in
    subst (λ n. IsTableOfPivots n c.args.candidates.now c.as_slice.result.now) (sym wide) table

pub add_coefficients-inside-requires-clause-rest : goal.add_coefficients-inside-requires-clause-rest
add_coefficients-inside-requires-clause-rest c =
    let rows = c.rows-rows.result.now in
    let k = length rows - 1 - c.loop-i.i in
    let l : k < length rows = omega (arith, c.loop-i-test.true) in
    let v : c.index-rows-rows.result ≡ row rows k = get_or_read rows k c.index-rows-rows.result l c.index-rows-rows.is [] in
    let wide : length c.index-rows-rows.result ≡ c.args.matrix.now.cols = ap length v ∙ ap (λ z. length (row z k)) c.rows-rows.ensures.rows ∙ c.rows-rows.ensures.widths k (omega (arith, ap length c.rows-rows.ensures.rows)) in
    c.loop-i.invariant.rest ∙ ap zeros (sym wide)

pub add_coefficients-inside-requires-clause-as_many : goal.add_coefficients-inside-requires-clause-as_many
add_coefficients-inside-requires-clause-as_many c = ap length c.as_mut_slice.ensures.value ∙ c.loop-i.invariant.columns.as_many

pub add_coefficients-inside-requires-clause-within : goal.add_coefficients-inside-requires-clause-within
add_coefficients-inside-requires-clause-within c = λ k l.
    let long : length (row c.as_mut_slice.result.now k) ≡ length c.rows-rows.result.now + length c.args.candidates.now =
    ap (λ z. length (row z k)) c.as_mut_slice.ensures.value ∙ c.loop-i.invariant.columns.lengths k (omega (arith, ap length c.as_mut_slice.ensures.value)) in
    omega (arith, c.loop-i-test.true)

pub add_coefficients-inside-requires-clause-blank : goal.add_coefficients-inside-requires-clause-blank
add_coefficients-inside-requires-clause-blank c = ap (column c.loop-i.i) c.as_mut_slice.ensures.value ∙ c.loop-i.invariant.columns.blank c.loop-i.i (omega arith) c.loop-i-test.true

pub returns-then-not-inside-clause-covered : goal.returns-then-not-inside-clause-covered
returns-then-not-inside-clause-covered c =
    let rows = c.rows-rows.result.now in
    let k = length rows - 1 - c.loop-i.i in
    let l : k < length rows = omega (arith, c.loop-i-test.true) in
    let v : c.index-rows-rows.result ≡ row rows k = get_or_read rows k c.index-rows-rows.result l c.index-rows-rows.is [] in
    let wide : length c.index-rows-rows.result ≡ c.args.matrix.now.cols = ap length v ∙ ap (λ z. length (row z k)) c.rows-rows.ensures.rows ∙ c.rows-rows.ensures.widths k (omega (arith, ap length c.rows-rows.ensures.rows)) in (
      λ e. absurd (true≢false (sym e)),
      λ all.
          let there : row c.args.matrix.now.rows k ≡ c.index-rows-rows.result = sym (v ∙ ap (λ z. row z k) c.rows-rows.ensures.rows) in
          let s : IsInSpan c.args.matrix.now.cols c.args.candidates.now c.index-rows-rows.result = subst (IsInSpan c.args.matrix.now.cols c.args.candidates.now) there (all k (omega (arith, ap length c.rows-rows.ensures.rows))) in
          sym c.if-not-inside.true ∙ c.add_coefficients-inside.ensures.inside.1 (subst (λ n. IsInSpan n c.args.candidates.now c.index-rows-rows.result) (sym wide) s),
    )

pub loop-i-preserved : goal.loop-i-preserved
loop-i-preserved c =
    let rows = c.rows-rows.result.now in
    let i = c.loop-i.i in
    let k = length rows - 1 - i in
    let l : k < length rows = omega (arith, c.loop-i-test.true) in
    let v : c.index-rows-rows.result ≡ row rows k = get_or_read rows k c.index-rows-rows.result l c.index-rows-rows.is [] in
    let wide : length c.index-rows-rows.result ≡ c.args.matrix.now.cols = ap length v ∙ ap (λ z. length (row z k)) c.rows-rows.ensures.rows ∙ c.rows-rows.ensures.widths k (omega (arith, ap length c.rows-rows.ensures.rows)) in
    let candidates = c.args.candidates.now in
    let told = c.if-not-inside.ensures in
    let s : IsInSpan (length c.index-rows-rows.result) candidates c.index-rows-rows.result = told.inside.0 refl in
    let here : IsInSpan c.args.matrix.now.cols candidates (row rows k) = subst (IsInSpan c.args.matrix.now.cols candidates) v (subst (λ n. IsInSpan n candidates c.index-rows-rows.result) wide s) in
    let at : row (reverse rows) i ≡ row rows k = get_or-reverse rows i [] c.loop-i-test.true in
    let columns = c.add_coefficients-inside.new.columns in
    let old = c.as_mut_slice.ensures.value in
    let many : c.loop-i.columns.len ≡ length columns = sym (told.others.as_many ∙ c.as_mut_slice.ensures.len) in
    let back : take c.loop-i.columns.len (columns ++ drop (length columns) c.loop-i.columns.items) ≡ columns =
    take-append-le c.loop-i.columns.len columns (drop (length columns) c.loop-i.columns.items) (omega arith) ∙ take_all c.loop-i.columns.len columns (omega arith) in
    let more : AreCoordinatesTo (i + 1) candidates rows columns =
    AreCoordinatesTo-more i (i + 1) candidates rows c.loop-i.columns.items columns refl c.loop-i-test.true (subst (λ z. ChangesOnlyColumn i z columns) old told.others) (told.at_pivots refl ∙ ap (at_pivots candidates) (v ∙ sym at)) c.loop-i.invariant.columns in
    record {
      columns = subst (AreCoordinatesTo (i + 1) candidates rows) (sym back) more;
      inside = λ e b h.
          elim (cases_lt (length rows) (suc (i + e))) [
            | inl f ↦ c.loop-i.invariant.inside e b (omega arith)
            | inr f ↦ let same : k ≡ e = omega arith in subst (λ j. IsInSpan c.args.matrix.now.cols candidates (row rows j)) same here
          ];
      rest = told.rest refl ∙ ap zeros wide;
    }

pub from_rows-requires : goal.from_rows-requires
from_rows-requires c =
    let width : length c.rows-rows.result.now + length c.args.candidates.now ≡ c.in-Some.width = omega (arith, c.in-Some.ensures.1) in
    subst (λ w. HaveWidth w c.loop-i.columns.items) width c.loop-i.invariant.columns.lengths

pub returns-clause-covered : goal.returns-clause-covered
returns-clause-covered c = (
  λ e i l. subst (λ (z : List (List Bool)). IsInSpan c.args.matrix.now.cols c.args.candidates.now (row z i)) c.rows-rows.ensures.rows (c.loop-i.invariant.inside i (omega (arith, ap length c.rows-rows.ensures.rows)) (omega (arith, c.loop-i-test.false))),
  λ h. refl,
)

pub returns-clause-cols : goal.returns-clause-cols
returns-clause-cols c = omega (arith, c.from_rows.ensures.cols, c.in-Some.ensures.1, ap length c.rows-rows.ensures.rows)

pub returns-clause-rows : goal.returns-clause-rows
returns-clause-rows c = c.from_rows.ensures.rows ∙ AreCoordinatesTo-end c.loop-i.i c.args.candidates.now c.rows-rows.result.now c.loop-i.columns.items (omega (arith, c.loop-i-test.false)) c.loop-i.invariant.columns ∙ ap (λ z. augmented (coordinates c.args.candidates.now z)) c.rows-rows.ensures.rows
