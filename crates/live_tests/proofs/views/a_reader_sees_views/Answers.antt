use denote.Param.Send.{sendable}
use Rattle.std.proofs.Common.{◌≡◌, to_z, of_z, w32, refl, sym, ◌∙◌, ap, arith}
use Rattle.std.proofs.Crossing.{crosses}
use Rattle.std.proofs.lemmas.Int.{ints}
use Rattle.bidegree.specs.declared.range.Range.{Range}
use Rattle.finite_module.specs.Checked.{Checked}
use Rattle.finite_module.specs.Module.{bottom}
use Rattle.live_view.proofs.MayPublish.{may_first}
use Rattle.square.proofs.Crossing.{Inputs-send, Square-send}
use Rattle.square.specs.contracts.keep.NoKeepKeep.TheImpl as no_keep
use Rattle.square_worker.specs.Kept.{kept_words}
use Rattle.live_tests.proofs.views.a_reader_sees_views.Goals as goal

pub publish-requires : goal.publish-requires
publish-requires g c =
    let made = c.in_ok-board.ensures in
    let views = c.in_ok-writer.ensures in
    let low = c.bottom-bottom.ensures.lowest in
    let high = c.bottom-bottom.ensures.highest in
    let passed : to_z w32 (of_z w32 c.bottom-bottom.result) ≡ c.bottom-bottom.result = omega (arith, ints) in
    let least = views.bottom ∙ (passed ∙ (c.bottom-bottom.ensures.bottom ∙ ap (λ (m : Checked). bottom m.plain.generators) c.module.ensures)) in
    let rows = ap (λ (r : Range). r.s) made.range in
    let degrees = ap (λ (r : Range). r.t) made.range in (
      search (crosses, sendable, Inputs-send) depth 20,
      (
        search (crosses, sendable, Square-send) depth 20,
        may_first (kept_words no_keep.ghosts.telling) (λ table. table) c.in_ok-board.board c.in_ok-board.publisher c.in_ok-writer.writer made.publisher refl (omega arith, omega arith) (made.range ∙ sym views.range) (made.bottom ∙ sym least) views.empty,
      ),
    )

pub publish-requires-2-send-T-Inputs : goal.publish-requires-2-send-T-Inputs
publish-requires-2-send-T-Inputs g c = search (crosses, sendable, Inputs-send) depth 20

pub publish-requires-2-send-T-Made : goal.publish-requires-2-send-T-Made
publish-requires-2-send-T-Made g c = search (crosses, sendable, Square-send) depth 20
