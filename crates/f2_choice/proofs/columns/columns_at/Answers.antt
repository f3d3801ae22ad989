use Rattle.std.proofs.Common.{◌≡◌, length, ap, sym, ◌∙◌, arith}
use Rattle.std.proofs.lemmas.List.{length-map, length-replicate}
use Rattle.f2_vec.specs.Vectors.{zeros}
use Rattle.f2_choice.specs.Inside.Columns.{column}
use Rattle.f2_choice.proofs.AtPlaces.{read, as_written}
use Rattle.f2_choice.proofs.columns.columns_at.Goals as goal

pub returns : goal.returns
returns c =
    let places = c.args.places.now in
    let count : length c.in_ok-columns.columns.items ≡ length places = ap length c.in_ok-columns.ensures ∙ length-replicate (length places) (zeros (length c.args.rows.now)) in
    let many : length c.fill.new.columns ≡ length places = ap length c.fill.ensures ∙ length-map places (λ p. column p (read c.args.rows.now)) in
    as_written c.in_ok-columns.columns.len c.fill.new.columns c.in_ok-columns.columns.items (omega (arith, count, many)) ∙ c.fill.ensures
