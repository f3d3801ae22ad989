use Rattle.std.proofs.Common.{◌≡◌, ◌+◌, ◌-◌, ◌<◌, Bool, List, ℕ, [], length, slice_index_or, refl, ap, sym, subst, ◌∙◌, arith}
use Rattle.std.proofs.lemmas.List.{get_or_read}
use Rattle.f2_vec.specs.Vectors.{sum_of}
use Rattle.f2_vec.specs.Spans.{row, unit_vector}
use Rattle.milnor_basis.specs.Basis.{basis_of}
use Rattle.milnor_basis.specs.Product.{ArePairs}
use Rattle.free_module.specs.Columns.{IsTableOfColumns}
use Rattle.free_module.proofs.Columns.{pairs_none, pairs_nowhere, pairs_somewhere, pairs_all}
use Rattle.free_module.proofs.terms.add_to_columns.Goals as goal
use Rattle.free_module.proofs.terms.add_to_columns.Goals.{in-Some, in_default}

pub loop-pair-init : goal.loop-pair-init
loop-pair-init c = pairs_none c.args.table.now c.args.end c.args.offset (length c.args.table.now) (length (basis_of c.args.multiples.now.degree)) c.pairs-pair-items.result.now c.args.columns.now

pub bounds-table-place : goal.bounds-table-place
bounds-table-place c =
    let m = c.args.multiples.now in
    let are : ArePairs m.degree m.right c.pairs-pair-items.result.now = c.pairs-pair-items.ensures in
    let inside = are.within c.loop-pair.pair-index (0, 0) c.loop-pair-test.true in
    omega (arith, c.requires.room, inside.1, c.from.ensures)

pub bounds-columns-column : goal.bounds-columns-column
bounds-columns-column c = omega (arith, c.requires.table.within _ c.in-Some.column c.in-Some.is, c.loop-pair.invariant.added.as_many)

pub overflow_sub-end-in-Some : goal.overflow_sub-end-in-Some
overflow_sub-end-in-Some c =
    let m = c.args.multiples.now in
    let are : ArePairs m.degree m.right c.pairs-pair-items.result.now = c.pairs-pair-items.ensures in
    let inside = are.within c.loop-pair.pair-index (0, 0) c.loop-pair-test.true in
    omega (arith, c.requires.few, inside.0, c.from-in-Some.ensures)

pub flip-requires : goal.flip-requires
flip-requires c =
    let m = c.args.multiples.now in
    let are : ArePairs m.degree m.right c.pairs-pair-items.result.now = c.pairs-pair-items.ensures in
    let inside = are.within c.loop-pair.pair-index (0, 0) c.loop-pair-test.true in
    let cur = c.loop-pair.columns in
    let j = c.in-Some.column in
    let h = c.loop-pair.invariant.added in
    let l : j < length cur = omega (arith, c.requires.table.within _ j c.in-Some.is, h.as_many) in
    let v : c.index-columns-column.result ≡ row cur j = get_or_read cur j c.index-columns-column.result l c.index-columns-column.is [] in
    omega (arith, c.requires.lengths j (omega (arith, l, h.as_many)), h.lengths j, ap length (sym c.index-columns-column.is ∙ v), c.requires.few, inside.0, c.from-in-Some.ensures)

pub loop-pair-preserved : goal.loop-pair-preserved
loop-pair-preserved c =
    let m = c.args.multiples.now in
    let pairs = c.pairs-pair-items.result.now in
    let i = c.loop-pair.pair-index in
    let table = c.args.table.now in
    let cur = c.loop-pair.columns in
    let old = c.args.columns.now in
    let h = c.loop-pair.invariant in
    let are : ArePairs m.degree m.right pairs = c.pairs-pair-items.ensures in
    let inside = are.within i (0, 0) c.loop-pair-test.true in
    let t : ℕ = c.from.result in
    let et : t ≡ (slice_index_or pairs i (0, 0)).1 = c.from.ensures in
    let second : c.args.offset + t < length table = omega (arith, c.requires.room, inside.1, et) in
    elim c.match-table-place.branch [
      | in-Some w ↦
          let r : ℕ = w.from-in-Some.result in
          let er : r ≡ (slice_index_or pairs i (0, 0)).0 = w.from-in-Some.ensures in
          let first : r < length (basis_of m.degree) = omega (arith, inside.0, er) in
          let j = w.in-Some.column in
          let known : IsTableOfColumns (length cur) table = subst (λ n. IsTableOfColumns n table) (sym h.added.as_many) c.requires.table in
          let l : j < length cur = known.within (c.args.offset + t) j w.in-Some.is in
          let v : w.index-columns-column.result ≡ row cur j = get_or_read cur j w.index-columns-column.result l w.index-columns-column.is [] in
          let fits : c.args.end - 1 - r < length (row cur j) = omega (arith, c.requires.lengths j (omega (arith, l, h.added.as_many)), h.added.lengths j, c.requires.few, first) in
          let flipped : w.flip.new.self ≡ sum_of (row cur j) (unit_vector (length (row cur j)) (c.args.end - 1 - r)) = w.flip.ensures ∙ ap (λ (z : List Bool). sum_of z (unit_vector (length z) (c.args.end - 1 - r))) (sym w.index-columns-column.is ∙ v) in
          rw w.columns-is (pairs_somewhere table c.args.end c.args.offset (length table) (length (basis_of m.degree)) pairs i old cur r t h c.loop-pair-test.true er et first second c.requires.few j w.flip.new.self known w.in-Some.is fits flipped)
      | in_default w ↦
          rw w.columns-is (pairs_nowhere table c.args.end c.args.offset (length table) (length (basis_of m.degree)) pairs i old cur (slice_index_or pairs i (0, 0)).0 t h c.loop-pair-test.true refl et inside.0 second c.requires.few w.in_default.not-Some)
    ]

pub returns : goal.returns
returns c =
    let m = c.args.multiples.now in
    let pairs = c.pairs-pair-items.result.now in
    let are : ArePairs m.degree m.right pairs = c.pairs-pair-items.ensures in
    pairs_all c.args.table.now c.args.end c.args.offset (length c.args.table.now) m.degree m.right pairs c.loop-pair.pair-index c.args.columns.now c.loop-pair.columns are (omega (arith, c.loop-pair-test.false)) c.requires.room c.loop-pair.invariant
