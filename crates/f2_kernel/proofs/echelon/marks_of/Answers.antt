use Rattle.std.proofs.Common.{◌≡◌, Bool, List, [], length, refl, sym, ap, subst, ◌∙◌, arith}
use Rattle.std.proofs.lemmas.List.{get_or_read}
use Rattle.f2_vec.specs.Vectors.{IsZero, IsFirstOne}
use Rattle.f2_vec.specs.Spans.{row}
use Rattle.f2_matrix.proofs.Pivots.{first_within}
use Rattle.f2_kernel.proofs.Marks.{AreMarked, none_marked, one_marked, zero_marked}
use Rattle.f2_kernel.proofs.echelon.marks_of.Goals as goal
use Rattle.f2_kernel.proofs.echelon.marks_of.Goals.{in-Some, in_default}

pub loop-row-init : goal.loop-row-init
loop-row-init c = subst (AreMarked c.args.n 0 c.args.rows.now) (sym c.in_ok-marks.ensures) (none_marked c.args.n c.args.rows.now)

pub set-requires : goal.set-requires
set-requires c =
    let r : c.row-item.result ≡ row c.args.rows.now c.loop-row.row-index = get_or_read c.args.rows.now c.loop-row.row-index c.row-item.result c.loop-row-test.true c.row-item.is [] in
    let width : length c.row-item.result ≡ c.args.n = ap length r ∙ c.requires c.loop-row.row-index c.loop-row-test.true in
    omega (arith, c.in-Some.ensures.within, c.loop-row.invariant.width, width)

pub loop-row-preserved : goal.loop-row-preserved
loop-row-preserved c =
    let n = c.args.n in
    let rows = c.args.rows.now in
    let i = c.loop-row.row-index in
    let h = c.loop-row.invariant in
    let r : c.row-item.result ≡ row rows i = get_or_read rows i c.row-item.result c.loop-row-test.true c.row-item.is [] in
    let width : length c.row-item.result ≡ n = ap length r ∙ c.requires i c.loop-row-test.true in
    elim c.match-first_one.branch [
      | in-Some w ↦
          let q = w.in-Some.pivot in
          rw (w.marks-is, w.set.ensures) (one_marked n i q rows c.loop-row.marks (omega (arith, w.in-Some.ensures.within, width)) (subst (λ (v : List Bool). IsFirstOne v q) r w.in-Some.ensures.first) h)
      | in_default w ↦ rw w.marks-is (zero_marked n i rows c.loop-row.marks (subst IsZero r (w.in_default.ensures.none.0 refl)) h)
    ]

pub returns-clause-length : goal.returns-clause-length
returns-clause-length c = c.loop-row.invariant.width

pub returns-clause-marked : goal.returns-clause-marked
returns-clause-marked c = λ p o. let found = c.loop-row.invariant.marked p o in (found.0, found.2)

pub returns-clause-marks_all : goal.returns-clause-marks_all
returns-clause-marks_all c = λ j p f.
    c.loop-row.invariant.all_marked j p (omega (arith, first_within c.args.rows.now j p f, c.loop-row-test.false)) f
