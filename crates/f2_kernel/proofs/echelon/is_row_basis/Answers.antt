use Rattle.std.proofs.Common.{◌≡◌, ℕ, suc, ◌-◌, ◌<◌, Bool, true, List, [], length, refl, sym, ap, subst, arith}
use Rattle.std.proofs.lemmas.Bool.{false≢true, iff_false}
use Rattle.std.proofs.lemmas.List.{get_or_read}
use Rattle.f2_vec.specs.Vectors.{bit, IsFirstOne}
use Rattle.f2_vec.specs.Spans.{row}
use Rattle.f2_kernel.proofs.Basis.{AreInForm, none_in_form, one_more_in_form, all_in_form, pivot_too_high, pivot_not_alone}
use Rattle.f2_kernel.proofs.echelon.is_row_basis.Goals as goal
use Rattle.f2_kernel.proofs.echelon.is_row_basis.Goals.{then-pivot-next-via-then-pivot-next, then-pivot-next-via-else-pivot-next+then-have_common_one}

pub loop-i-init : goal.loop-i-init
loop-i-init c =
    let rows = c.args.rows.now in
    subst (λ (v : List Bool). AreInForm c.args.n (length rows) c.args.n v rows) (sym c.in_ok-pivots.ensures) (none_in_form c.args.n rows)

pub returns-then-pivot-next : goal.returns-then-pivot-next
returns-then-pivot-next c =
    let rows = c.args.rows.now in
    let k = c.loop-i.i - 1 in
    let within : k < length rows = omega (arith, c.loop-i-test.true, c.loop-i.auto.i) in
    let back : suc k ≡ c.loop-i.i = omega (arith, c.loop-i-test.true) in
    let here = get_or_read rows k c.index-rows-i.result within c.index-rows-i.is [] in
    let first : IsFirstOne (row rows k) c.in-Some.pivot = subst (λ (r : List Bool). IsFirstOne r c.in-Some.pivot) here c.in-Some.ensures.first in
    let width : length (row rows k) ≡ c.args.n = c.requires k within in
    let same : length c.index-rows-i.result ≡ length (row rows k) = ap length here in
    let small : c.in-Some.pivot < c.args.n = omega (arith, c.in-Some.ensures.within) in
    let form = subst (λ (m : ℕ). AreInForm c.args.n m c.loop-i.next c.loop-i.pivots rows) (sym back) c.loop-i.invariant in (
      λ t. absurd (false≢true t),
      λ h. elim c.then-pivot-next.branch [
        | then-pivot-next-via-then-pivot-next w ↦ absurd (pivot_too_high c.args.n k c.loop-i.next c.in-Some.pivot c.loop-i.pivots rows form first small w.if-pivot-next.true h.0 h.1)
        | then-pivot-next-via-else-pivot-next+then-have_common_one w ↦
            let there = get_or_read rows k w.index-rows-i-else-pivot-next.result within w.index-rows-i-else-pivot-next.is [] in
            let found = w.have_common_one.ensures.0 w.if-have_common_one.true in
            absurd (pivot_not_alone c.args.n k c.loop-i.next c.loop-i.pivots rows form (found.0, subst (λ (r : List Bool). bit r found.0 ≡ true) there found.1, found.2) h.0)
      ],
    )

pub set-requires : goal.set-requires
set-requires c =
    let rows = c.args.rows.now in
    let k = c.loop-i.i - 1 in
    let within : k < length rows = omega (arith, c.loop-i-test.true, c.loop-i.auto.i) in
    let here = get_or_read rows k c.index-rows-i.result within c.index-rows-i.is [] in
    let width : length (row rows k) ≡ c.args.n = c.requires k within in
    let same : length c.index-rows-i.result ≡ length (row rows k) = ap length here in
    omega (arith, c.in-Some.ensures.within, c.loop-i.invariant.width)

pub loop-i-preserved : goal.loop-i-preserved
loop-i-preserved c =
    let rows = c.args.rows.now in
    let k = c.loop-i.i - 1 in
    let within : k < length rows = omega (arith, c.loop-i-test.true, c.loop-i.auto.i) in
    let back : suc k ≡ c.loop-i.i = omega (arith, c.loop-i-test.true) in
    let here = get_or_read rows k c.index-rows-i.result within c.index-rows-i.is [] in
    let there = get_or_read rows k c.index-rows-i-else-pivot-next.result within c.index-rows-i-else-pivot-next.is [] in
    let first : IsFirstOne (row rows k) c.in-Some.pivot = subst (λ (r : List Bool). IsFirstOne r c.in-Some.pivot) here c.in-Some.ensures.first in
    let width : length (row rows k) ≡ c.args.n = c.requires k within in
    let same : length c.index-rows-i.result ≡ length (row rows k) = ap length here in
    let small : c.in-Some.pivot < c.args.n = omega (arith, c.in-Some.ensures.within) in
    let form = subst (λ (m : ℕ). AreInForm c.args.n m c.loop-i.next c.loop-i.pivots rows) (sym back) c.loop-i.invariant in
    let apart = subst (λ (r : List Bool). (p : ℕ) × (bit r p ≡ true) × (bit c.loop-i.pivots p ≡ true) → ⊥) there (iff_false c.have_common_one.ensures c.if-have_common_one.false) in
    subst (λ (v : List Bool). AreInForm c.args.n k c.in-Some.pivot v rows) (sym c.set.ensures)
    (one_more_in_form c.args.n k c.loop-i.next c.in-Some.pivot c.loop-i.pivots rows form first small c.if-pivot-next.false apart)

pub returns : goal.returns
returns c =
    let rows = c.args.rows.now in
    let none : c.loop-i.i ≡ 0 = omega (arith, c.loop-i-test.false) in
    let form = subst (λ (m : ℕ). AreInForm c.args.n m c.loop-i.next c.loop-i.pivots rows) none c.loop-i.invariant in
    (λ _. all_in_form c.args.n c.loop-i.next c.loop-i.pivots rows form, λ _. refl)
