use Rattle.std.proofs.Common.{◌≡◌, ◌∙◌, sym, ap}
use Rattle.module_json.proofs.Repeats.{no_listing, first_listing_differs, first_listing_agrees}
use Rattle.module_json.proofs.entry.other_sum.Goals as goal

pub returns-in_err-first : goal.returns-in_err-first
returns-in_err-first c = rw (c.from_residual.ensures, ← c.entry.view_is) (sym (no_listing _ c.args.before.now (sym c.in_err-first.ensures.index)))

pub returns-then-eq : goal.returns-then-eq
returns-then-eq c =
    let listed : c.as_slice.result.now ≡ c.index-before-first.result.sum = c.as_slice.ensures.value ∙ ap (λ v. v.sum) c.listed.view_is in
    rw (← c.entry.view_is) (sym (first_listing_agrees _ c.args.before.now c.in_ok-first.first c.index-before-first.result c.requires (sym c.in_ok-first.ensures.index) c.index-before-first.is (rw (← listed, ← c.as_slice-2.ensures.value) (sym c.eq.ensures ∙ c.if-eq.true))))

pub returns : goal.returns
returns c =
    let listed : c.as_slice.result.now ≡ c.index-before-first.result.sum = c.as_slice.ensures.value ∙ ap (λ v. v.sum) c.listed.view_is in
    rw (← c.entry.view_is) (sym (first_listing_differs _ c.args.before.now c.in_ok-first.first c.index-before-first.result (sym c.in_ok-first.ensures.index) c.index-before-first.is (rw (← listed, ← c.as_slice-2.ensures.value) (sym c.eq.ensures ∙ c.if-eq.false))))
