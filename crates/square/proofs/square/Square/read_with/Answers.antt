use Rattle.std.proofs.Common.{◌≡◌, ℕ, Bool, List, [], ◌∷◌, ◌++◌, length, ap, sym, ◌∙◌, w32, arith}
use Rattle.std.proofs.lemmas.Int.{to_z-of_z}
use Rattle.resolution_laws.specs.Start.{Entry}
use Rattle.square.specs.Inside.Kernel.{rows_of, quasi_of}
use Rattle.square.specs.Tables.{next_width}
use Rattle.square.proofs.Places.{IsMeasured-read}
use Rattle.square.proofs.square.Square.read_with.Goals as goal

pub invariant_of-result : goal.invariant_of-result
invariant_of-result c =
    let t = to_z-of_z w32 c.args.t c.ranges.t in
    let count : c.len.result ≡ length c.args.gens.items = let ok = c.args.gens.ok in omega (arith, c.len.ensures) in
    let table = c.args.table.now in
    let held = rows_of c.args.kernel in
    let entry = λ (images kernel : List (List Bool)). let e : Entry = record { s = c.args.s; above = c.above-above.result; content = record { images = images; kernel = kernel } } in e in
    let put : c.then-start.result ≡ c.start.result.now ++ entry c.args.gens.items held ∷ [] =
    c.then-start.ensures ∙ ap (λ x. c.start.result.now ++ entry x c.rows.result.now ∷ []) c.as_slice.ensures.value ∙ ap (λ x. c.start.result.now ++ entry c.args.gens.items x ∷ []) c.rows.ensures in
    let widths = (c.in-Some.ensures c.above-above.result c.above-above.ensures).1 in
    IsMeasured-read table c.args.s c.args.t (record { images = c.args.gens.items; kernel = held }) (quasi_of c.args.kernel) c.requires.quasi c.start.ensures.is_table c.requires.content _ c.start.result.now _ c.above-above.result _ _ _ (sym t ∙ c.above-above.ensures) t (c.of.ensures ∙ c.module.ensures) c.start.ensures.start put
    (ap (λ (w : ℕ × ℕ). w.0) widths) (ap (λ (w : ℕ × ℕ). w.1) widths ∙ ap (next_width table c.args.s c.above-above.result) count)
