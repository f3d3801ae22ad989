use Rattle.std.proofs.Common.{◌≡◌, ℕ, ◌+◌, Bool, List, sym, subst, arith}
use Rattle.free_module.specs.Graded.{free_graded}
use Rattle.free_module.specs.LinearMap.{AreImages}
use Rattle.chain_map.specs.Lifting.{target_of, lowered_row}
use Rattle.massey.specs.Inside.{above_of, above_bc, AreNext, far_of}
use Rattle.massey.proofs.Chosen.{AreMaps, maps_first, maps_more}
use Rattle.massey.proofs.MapValues.{maps_are_images, last_on_square}
use Rattle.massey.proofs.LastMap.{is_last_map}
use Rattle.massey.proofs.homotopy.last_map.Goals as goal

pub first_map-requires : goal.first_map-requires
first_map-requires c = record { setting = c.requires.setting; lifts = c.requires.lifts; n_row = c.requires.n }

pub next_map-requires-clause-composite : goal.next_map-requires-clause-composite
next_map-requires-clause-composite c = record { setting = c.requires.setting; lifts = c.requires.lifts; n_row = c.requires.n }

pub loop-k-init : goal.loop-k-init
loop-k-init c = maps_first c.args.setting.now.table.now c.args.setting.now.sphere.now c.args.setting.now.places c.args.n c.args.beta.now c.args.gamma.now c.in_ok-values.values.items c.in_ok-values.ensures

pub next_map-requires-clause-below : goal.next_map-requires-clause-below
next_map-requires-clause-below c =
    let setting = c.args.setting.now in
    let p = setting.places in
    let k = c.loop-k.k in
    subst (AreImages (free_graded (target_of setting.sphere.now k (p.a.above + 1))) (lowered_row setting.table.now (c.args.n + k) (above_of p + 1) (above_bc p))) (sym c.as_slice.ensures.value)
    (maps_are_images setting.table.now setting.sphere.now setting.range (far_of p) p c.args.n c.args.beta.now c.args.gamma.now (record { setting = c.requires.setting; lifts = c.requires.lifts; n_row = c.requires.n }) k (omega (arith, c.loop-k-test.true)) c.loop-k.values.items c.loop-k.invariant)

pub loop-k-preserved : goal.loop-k-preserved
loop-k-preserved c =
    let setting = c.args.setting.now in
    let k = c.loop-k.k in
    maps_more setting.table.now setting.sphere.now setting.places c.args.n c.args.beta.now c.args.gamma.now k c.loop-k.values.items c.in_ok-values-2.values.items c.loop-k.invariant
    (subst (λ (v : List (List Bool)). AreNext setting.table.now setting.sphere.now setting.places c.args.n c.args.beta.now c.args.gamma.now k v c.in_ok-values-2.values.items) c.as_slice.ensures.value c.in_ok-values-2.ensures)

pub returns-clause-values : goal.returns-clause-values
returns-clause-values c =
    let setting = c.args.setting.now in
    let p = setting.places in
    let all : c.loop-k.k ≡ p.a.s = omega (arith, c.loop-k.auto.k-end, c.loop-k-test.false) in
    last_on_square setting.table.now setting.sphere.now setting.range (far_of p) p c.args.n c.args.beta.now c.args.gamma.now (record { setting = c.requires.setting; lifts = c.requires.lifts; n_row = c.requires.n }) c.loop-k.values.items
    (subst (λ (k : ℕ). AreMaps setting.table.now setting.sphere.now p c.args.n c.args.beta.now c.args.gamma.now k c.loop-k.values.items) all c.loop-k.invariant)

pub returns-clause-map : goal.returns-clause-map
returns-clause-map c = λ range far s canonical canonical_q.
    let setting = c.args.setting.now in
    let p = setting.places in
    let all : c.loop-k.k ≡ p.a.s = omega (arith, c.loop-k.auto.k-end, c.loop-k-test.false) in
    is_last_map c.canonical_table_is_minimal_resolution.ensures c.modules_are_graded_modules.ensures setting.table.now setting.sphere.now range far p c.args.n c.args.beta.now c.args.gamma.now (record { setting = s; lifts = c.requires.lifts; n_row = c.requires.n }) canonical canonical_q c.loop-k.values.items
    (subst (λ (k : ℕ). AreMaps setting.table.now setting.sphere.now p c.args.n c.args.beta.now c.args.gamma.now k c.loop-k.values.items) all c.loop-k.invariant)
