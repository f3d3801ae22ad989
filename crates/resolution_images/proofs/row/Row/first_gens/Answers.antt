use Rattle.std.proofs.Common.{◌≡◌, ◌≤◌, ◌<◌, ◌⊎◌, ℤ, length, take, get_or, w32, to_z, of_z, ap, sym, subst, ◌∙◌, arith, inl, inr}
use Rattle.std.proofs.lemmas.Bool.{cases_lt}
use Rattle.std.proofs.lemmas.Int.{ints, to_z-of_z}
use Rattle.std.proofs.lemmas.List.{get_or_read}
use Rattle.resolution_laws.specs.Resolution.{degrees_from}
use Rattle.resolution_images.specs.BareRows.{BareRow, IsBareRowOf}
use Rattle.resolution_images.proofs.Making.{gens_below, gens_more, gens_first}
use Rattle.resolution_images.proofs.row.Row.first_gens.Goals as goal

pub push_many-requires : goal.push_many-requires
push_many-requires c =
    let x = c.requires.row in
    let b = to_z w32 (of_z w32 c.args.bottom) in
    let same = to_z-of_z w32 c.args.bottom c.ranges.bottom in
    let is = subst (λ (z : ℤ). IsBareRowOf z x.0 c.args.self.now) (sym same) x.1 in
    let l = ap (λ (r : BareRow). length r.counts) c.self.view_is in
    record { not_below = gens_below b x.0 c.args.self.now c.loop-k.k c.loop-k.gens _ is (omega (arith, l)) (omega (arith, ints)) (c.loop-k.invariant x.0 is) }

pub loop-k-preserved : goal.loop-k-preserved
loop-k-preserved c = λ squares is.
    let b = to_z w32 (of_z w32 c.args.bottom) in
    let l = ap (λ (r : BareRow). length r.counts) c.self.view_is in
    let l2 : c.loop-k.k < length c.args.self.now.counts = omega (arith, l) in
    let count_is : c.index.result.now ≡ get_or c.args.self.now.counts c.loop-k.k 0 = get_or_read c.self.inside.counts.items c.loop-k.k c.index.result.now (omega arith) c.index.ensures 0 ∙ ap (λ (r : BareRow). get_or r.counts c.loop-k.k 0) c.self.view_is in
    gens_more b squares c.args.self.now c.loop-k.k _ c.loop-k.gens c.push_many.new.self _ is l2 (omega (arith, ints)) count_is (c.loop-k.invariant squares is) c.in_ok-push_many.ensures.ok

pub returns : goal.returns
returns c = λ squares is.
    let b = to_z w32 (of_z w32 c.args.bottom) in
    let same = to_z-of_z w32 c.args.bottom c.ranges.bottom in
    let here = subst (λ (z : ℤ). IsBareRowOf z squares c.args.self.now) (sym same) is in
    let l = ap (λ (r : BareRow). length r.counts) c.self.view_is in
    let end : c.loop-k.k ≡ c.args.n ⊎ ((c.loop-k.k ≡ length c.args.self.now.counts) × (c.loop-k.k ≤ c.args.n)) = elim (cases_lt (length c.args.self.now.counts) c.args.n) [
      | inl more ↦ inr (omega (arith, l), omega (arith, l))
      | inr few ↦ inl (omega (arith, l))
    ] in
    subst (λ (z : ℤ). c.loop-k.gens ≡ degrees_from z (take c.args.n squares)) same
    (gens_first b squares c.args.self.now c.args.n c.loop-k.k c.loop-k.gens here end (c.loop-k.invariant squares here))
