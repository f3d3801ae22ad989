use Rattle.std.proofs.Common.{◌≡◌, pos, ◌+ℤ◌, length, ap, sym, ◌∙◌, w32, to_z, of_z, arith}
use Rattle.std.proofs.lemmas.Int.{ints}
use Rattle.std.proofs.lemmas.List.{length-map}
use Rattle.std.specs.Arc.{arc_value}
use Rattle.resolution_laws.specs.Resolution.{Content}
use Rattle.square.specs.Squares.{Placed, content_of}
use Rattle.square.specs.Tables.{Shelf, contents}
use Rattle.square.proofs.Rows.{square_at_place, generators_more, generators_below}
use Rattle.square.proofs.row.Row.generators.Goals as goal

pub push_many-requires : goal.push_many-requires
push_many-requires c =
    let len = length-map c.args.self.now.squares content_of in
    let b = to_z w32 (of_z w32 c.args.bottom) in
    let at : to_z w32 (of_z w32 (b +ℤ to_z w32 (of_z w32 c.from-in-loop-i.result))) ≡ b +ℤ pos c.loop-i.i = omega (arith, ints) in
    record { not_below = generators_below b _ (contents c.args.self.now.squares) c.loop-i.i c.loop-i.gens (omega (arith, c.requires.within, c.loop-i-test.true)) at c.loop-i.invariant }

pub loop-i-preserved : goal.loop-i-preserved
loop-i-preserved c =
    let len = length-map c.args.self.now.squares content_of in
    let b = to_z w32 (of_z w32 c.args.bottom) in
    let at : to_z w32 (of_z w32 (b +ℤ to_z w32 (of_z w32 c.from-in-loop-i.result))) ≡ b +ℤ pos c.loop-i.i = omega (arith, ints) in
    let there = square_at_place arc_value c.self.inside.squares.items c.args.self.now.squares c.loop-i.i c.from.result c.index.result.now (ap (λ (r : Shelf). r.squares) c.self.view_is) (omega (arith, c.requires.within, c.loop-i-test.true)) c.from.ensures c.index.ensures in
    let images = c.gens-count.ensures ∙ ap (λ (q : Placed). q.content.images) c.deref.ensures ∙ ap (λ (x : Content). x.images) (sym there) in
    generators_more b _ (contents c.args.self.now.squares) c.loop-i.i _ c.loop-i.gens c.push_many.new.self (omega (arith, c.requires.within, c.loop-i-test.true)) at (ap length images) c.loop-i.invariant c.in_ok-push_many.ensures.ok
