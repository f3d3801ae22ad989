use Rattle.std.proofs.Common.{◌≡◌, length, ap, sym, subst, ◌∙◌}
use Rattle.f2_vec.specs.Vectors.{sum_of, bit, IsZero}
use Rattle.f2_vec.specs.Spans.{HaveWidth, IsInSpan}
use Rattle.f2_matrix.specs.Echelon.{IsReduced, HasNoZeroRow}
use Rattle.f2_matrix.specs.Preimages.{rest_of}
use Rattle.f2_matrix.specs.Inside.Held.{rows_of}
use Rattle.f2_matrix.proofs.Pivots.{rest_is, zero_left, span_left, rest_apart, rest_length, rest_coset}
use Rattle.f2_matrix.proofs.reduced.Reduced.rest.Goals as goal

pub add_at_pivots-requires-clause-image : goal.add_at_pivots-requires-clause-image
add_at_pivots-requires-clause-image c =
    let width : length c.args.v.now ≡ c.self.inside.cols = c.requires ∙ ap (λ r. r.cols) (sym c.self.view_is) in
    subst (λ n. HaveWidth n (rows_of c.self.inside.image)) (sym width) c.self.invariant.image_widths

pub returns-clause-rest : goal.returns-clause-rest
returns-clause-rest c =
    let width : length c.args.v.now ≡ c.self.inside.cols = c.requires ∙ ap (λ r. r.cols) (sym c.self.view_is) in
    rest_is c.self.inside.cols (rows_of c.self.inside.image) c.as_slice.result.now c.args.v.now c.in_ok-rest.rest c.add_at_pivots.new.sum width c.in_ok-rest.ensures c.as_slice.ensures c.add_at_pivots.ensures
    ∙ ap (λ r. rest_of r.cols r.image c.args.v.now) c.self.view_is

pub returns-clause-zero : goal.returns-clause-zero
returns-clause-zero c =
    let self = c.args.self.now in
    let v = c.args.v.now in
    let widths = subst (λ r. HaveWidth r.cols r.image) c.self.view_is c.self.invariant.image_widths in
    let reduced = subst (λ r. IsReduced r.image) c.self.view_is c.self.invariant.reduced in
    let nonzero = subst (λ r. HasNoZeroRow r.image) c.self.view_is c.self.invariant.nonzero in
    let is : c.add_at_pivots.new.sum ≡ rest_of self.cols self.image v = returns-clause-rest c in (
      λ z. zero_left self.cols self.image v widths c.requires (subst IsZero is z),
      λ s. subst IsZero (sym is) (span_left self.cols self.image v widths reduced nonzero c.requires s),
    )

pub returns-clause-length : goal.returns-clause-length
returns-clause-length c =
    let self = c.args.self.now in
    let widths = subst (λ r. HaveWidth r.cols r.image) c.self.view_is c.self.invariant.image_widths in
    ap length (returns-clause-rest c) ∙ rest_length self.cols self.image c.args.v.now widths c.requires

pub returns-clause-apart : goal.returns-clause-apart
returns-clause-apart c = λ i p f.
    let self = c.args.self.now in
    let widths = subst (λ r. HaveWidth r.cols r.image) c.self.view_is c.self.invariant.image_widths in
    let reduced = subst (λ r. IsReduced r.image) c.self.view_is c.self.invariant.reduced in
    let nonzero = subst (λ r. HasNoZeroRow r.image) c.self.view_is c.self.invariant.nonzero in
    ap (λ u. bit u p) (returns-clause-rest c) ∙ rest_apart self.cols self.image c.args.v.now i p widths reduced nonzero c.requires f

pub returns-clause-coset : goal.returns-clause-coset
returns-clause-coset c =
    let self = c.args.self.now in
    let v = c.args.v.now in
    let widths = subst (λ r. HaveWidth r.cols r.image) c.self.view_is c.self.invariant.image_widths in
    subst (λ u. IsInSpan self.cols self.image (sum_of v u)) (sym (returns-clause-rest c)) (rest_coset self.cols self.image v widths c.requires)
