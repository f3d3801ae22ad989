use Rattle.std.proofs.Common.{ℤ, Bool, List, Option, w32, to_z, of_z, ap, sym, subst, ◌∙◌}
use Rattle.std.specs.Prelude.{IfSome}
use Rattle.std.proofs.lemmas.Int.{to_z-of_z}
use Rattle.f2_matrix.specs.Reduction.{Reduction}
use Rattle.resolution_laws.specs.Resolution.{Content}
use Rattle.square.specs.Inside.Kernel.{rows_of}
use Rattle.square.specs.Tables.{IsReadable, IsQuasiBehind}
use Rattle.square.proofs.square.Square.read.Goals as goal

pub read_with-requires-clause-content : goal.read_with-requires-clause-content
read_with-requires-clause-content c =
    let table = c.args.table.now in
    let with = λ (rows : List (List Bool)). let x : Content = record { images = c.args.gens.items; kernel = rows } in x in
    let t : ℤ = to_z w32 (of_z w32 c.args.t) in
    let here = subst (λ n. IsReadable table c.args.s n (with c.args.kernel.items)) (sym (to_z-of_z w32 c.args.t c.ranges.t)) c.requires.content in
    subst (λ rows. IsReadable table c.args.s t (with rows)) (sym c.of.ensures.rows) here

pub read_with-requires-clause-quasi : goal.read_with-requires-clause-quasi
read_with-requires-clause-quasi c =
    let table = c.args.table.now in
    let with = λ (rows : List (List Bool)). let x : Content = record { images = c.args.gens.items; kernel = rows } in x in
    let t : ℤ = to_z w32 (of_z w32 c.args.t) in
    let P : Option Reduction → ℤ → List (List Bool) → Type 0 = λ q n rows. IfSome q (IsQuasiBehind table c.args.s n (with rows)) in
    let here = subst (λ n. P c.args.quasi n c.args.kernel.items) (sym (to_z-of_z w32 c.args.t c.ranges.t)) c.requires.quasi in
    let held = subst (P c.args.quasi t) (sym c.of.ensures.rows) here in
    subst (λ q. P q t (rows_of c.of.result)) (sym c.of.ensures.quasi) held

pub returns-clause-content : goal.returns-clause-content
returns-clause-content c = c.read_with.ensures.content_is ∙ ap (λ (rows : List (List Bool)). let x : Content = record { images = c.args.gens.items; kernel = rows } in x) c.of.ensures.rows

pub returns-clause-quasi : goal.returns-clause-quasi
returns-clause-quasi c = c.read_with.ensures.quasi_is ∙ c.of.ensures.quasi
