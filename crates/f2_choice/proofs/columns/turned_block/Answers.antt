use Rattle.std.proofs.Common.{◌≡◌, ℕ, replicate}
use Rattle.std.proofs.lemmas.Bool.Decides.{Decides-eqb}
use Rattle.std.proofs.lemmas.Slice.Eq.{slice_eq-Decides}
use Rattle.f2_choice.proofs.AtPlaces.{read, turned, turned_zeros}
use Rattle.f2_choice.proofs.columns.turned_block.Goals as goal

pub returns-then-eq : goal.returns-then-eq
returns-then-eq c =
    let block = c.block_of-block.result in
    let zero : block ≡ replicate 64 0 = (slice_eq-Decides Decides-eqb block (replicate {A = ℕ} 64 0) c.eq.result c.eq.ensures).0 c.if-eq.true in
    turned_zeros c.args.i c.args.j (read c.args.rows.now) block c.block_of-block.ensures zero

pub returns : goal.returns
returns c = turned c.args.i c.args.j (read c.args.rows.now) c.block_of-block.result c.transposed_block.result c.block_of-block.ensures c.transposed_block.ensures
