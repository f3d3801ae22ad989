use Rattle.std.proofs.Common.{◌≡◌, ◌+◌, ℤ, Bool, List, map, ap, ◌∙◌, arith}
use Rattle.std.proofs.lemmas.Result.{IfOk-weaker}
use Rattle.f2_vec.specs.Vectors.{zeros}
use Rattle.free_module.specs.FreeModule.{free_width}
use Rattle.chain_map.specs.Lifting.{target_of, lowered_row}
use Rattle.massey.specs.Inside.{above_of, above_bc, far_of}
use Rattle.massey.proofs.Composites.{sphere_row_there, zero_reach}
use Rattle.massey.proofs.homotopy.Composite.first_map.Goals as goal

pub generators-requires : goal.generators-requires
generators-requires c =
    let self = c.args.self.now in
    let there = sphere_row_there self.setting.table.now self.setting.sphere.now self.setting.range (far_of self.setting.places) self.setting.places self.n self.beta.now self.gamma.now c.requires 0 (omega arith) in
    omega arith

pub basis-requires : goal.basis-requires
basis-requires c =
    let setting = c.requires.setting in
    (0, omega (arith, c.above-2.ensures, setting.inside.degree, setting.through_table 0 (omega arith)))

pub zero_values-requires : goal.zero_values-requires
zero_values-requires c =
    let self = c.args.self.now in
    let table = self.setting.table.now in
    let p = self.setting.places in
    let source : c.in_ok-source.source ≡ lowered_row table self.n (above_of p + 1) (above_bc p) = c.in_ok-source.ensures ∙ (ap (λ m. lowered_row table self.n (m + 1) c.above_bc.result) c.above.ensures ∙ ap (lowered_row table self.n (above_of p + 1)) c.above_bc.ensures) in
    zero_reach table self.setting.sphere.now self.setting.range (far_of p) p self.n self.beta.now self.gamma.now c.requires c.in_ok-basis.basis.now c.in_ok-source.source c.in_ok-target.target (omega (arith, c.in_ok-basis.ensures, c.above-2.ensures)) source c.in_ok-target.ensures

pub returns : goal.returns
returns c =
    let self = c.args.self.now in
    let table = self.setting.table.now in
    let p = self.setting.places in
    let source : c.in_ok-source.source ≡ lowered_row table self.n (above_of p + 1) (above_bc p) = c.in_ok-source.ensures ∙ (ap (λ m. lowered_row table self.n (m + 1) c.above_bc.result) c.above.ensures ∙ ap (lowered_row table self.n (above_of p + 1)) c.above_bc.ensures) in
    let zero_of : List ℤ → ℤ → List Bool = λ target d. zeros (free_width target d) in
    IfOk-weaker c.zero_values.result _ _ (λ v is. is ∙ (ap (λ (t : List ℤ). map (zero_of t) c.in_ok-source.source) c.in_ok-target.ensures ∙ ap (map (zero_of (target_of self.setting.sphere.now 0 (p.a.above + 1)))) source)) c.zero_values.ensures
