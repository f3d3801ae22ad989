use Rattle.std.proofs.Common.{◌≡◌, ◌+◌, [], set, ap, subst, sym, ◌∙◌, arith}
use Rattle.std.proofs.lemmas.List.{get_or_read}
use Rattle.f2_vec.specs.Spans.{row}
use Rattle.f2_matrix.specs.Preimages.{pivot_of}
use Rattle.f2_matrix.proofs.Pivots.{pivot_within}
use Rattle.f2_kernel.proofs.Numbers.{AreNumbersBelow, none_numbered, one_numbered, all_numbered}
use Rattle.f2_kernel.proofs.parts.numbers_of.Goals as goal

pub loop-i-init : goal.loop-i-init
loop-i-init c = none_numbered c.args.n c.args.rows.now _ (c.in_ok-numbers.ensures.items_if_clones_equal (λ y e. e))

pub index_mut-requires : goal.index_mut-requires
index_mut-requires c =
    let i = c.loop-i.i in
    let rows = c.args.rows.now in
    let v : c.index-rows-i.result ≡ row rows i = get_or_read rows i c.index-rows-i.result c.loop-i-test.true c.index-rows-i.is [] in
    let p : c.pivot.result ≡ pivot_of (row rows i) = c.pivot.ensures ∙ ap pivot_of v in
    omega (arith, p, pivot_within c.args.n rows i c.requires.widths c.requires.nonzero c.loop-i-test.true, c.loop-i.invariant.one_each, c.loop-i.numbers.ok)

pub loop-i-preserved : goal.loop-i-preserved
loop-i-preserved c =
    let n = c.args.n in
    let i = c.loop-i.i in
    let rows = c.args.rows.now in
    let v : c.index-rows-i.result ≡ row rows i = get_or_read rows i c.index-rows-i.result c.loop-i-test.true c.index-rows-i.is [] in
    let p : c.pivot.result ≡ pivot_of (row rows i) = c.pivot.ensures ∙ ap pivot_of v in
    subst (λ q. AreNumbersBelow n (i + 1) rows (set c.loop-i.numbers.items q i)) (sym p) (one_numbered n i rows c.loop-i.numbers.items c.requires.widths c.requires.reduced c.requires.nonzero c.loop-i-test.true c.loop-i.invariant)

pub returns : goal.returns
returns c = all_numbered c.args.n c.loop-i.i c.args.rows.now c.loop-i.numbers.items (omega (arith, c.loop-i-test.false)) c.loop-i.invariant
