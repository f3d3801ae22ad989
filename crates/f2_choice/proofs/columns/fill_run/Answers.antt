use Rattle.std.specs.Prelude.{◌==◌}
use Rattle.std.proofs.Common.{◌≡◌, ℕ, ◌+◌, ◌*◌, ◌/◌, ◌%◌, ◌<◌, length, get_or, ap, refl, sym, ◌∙◌, arith}
use Rattle.std.specs.Int.{bit_at}
use Rattle.f2_vec.specs.Vectors.{bit}
use Rattle.f2_vec.specs.Spans.{row}
use Rattle.f2_choice.proofs.AtPlaces.{read, length-read, AreFilledAt-more}
use Rattle.f2_choice.proofs.columns.fill_run.Goals as goal

pub loop-k-preserved : goal.loop-k-preserved
loop-k-preserved c =
    let i = c.args.i in
    let k = c.loop-k.k in
    let places = c.args.places.now in
    let p = get_or places k 0 in
    let rows = read c.args.rows.now in
    let cur = c.loop-k.columns in
    let inside : k < length cur = omega (arith, c.loop-k.invariant.filled.as_many, c.requires.as_many) in
    let s = c.set_word.ensures in
    let place : 64 * (get_or places c.args.from 0 / 64) + p % 64 ≡ p = omega arith in
    let word : (b : ℕ) → b < 64 → (bit_at (get_or c.turned_block-turned.result (p % 64) 0) b == 1) ≡ bit (row rows (64 * i + b)) p = λ b l. c.turned_block-turned.ensures (p % 64) b (omega arith) l ∙ ap (bit (row rows (64 * i + b))) place in
    record {
      from = omega arith;
      within = omega arith;
      filled = AreFilledAt-more i c.args.from k p _ places rows c.args.columns.now cur c.index-columns-k.result c.set_word.new.self c.loop-k.invariant.from inside refl (λ j l. c.requires.lengths j l ∙ sym (length-read c.args.rows.now)) c.loop-k.invariant.filled c.index-columns-k.is s.length s.inside s.others word;
    }
