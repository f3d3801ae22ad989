use Rattle.std.proofs.Common.{◌≡◌, ◌++◌, ℕ, Bool, List, take, ap, sym, subst, ◌∙◌, arith}
use Rattle.std.proofs.lemmas.List.{length-map}
use Rattle.std.specs.Arc.{arc_value}
use Rattle.std.specs.List.{each_same}
use Rattle.resolution_laws.specs.Resolution.{Content, images_of}
use Rattle.square.specs.Squares.{Placed, content_of}
use Rattle.square.specs.Tables.{Shelf, contents}
use Rattle.square.proofs.Rows.{square_at_place, images_more}
use Rattle.square.proofs.row.Row.images.Goals as goal

pub loop-i-preserved : goal.loop-i-preserved
loop-i-preserved c =
    let len = length-map c.args.self.now.squares content_of in
    let there = square_at_place arc_value c.self.inside.squares.items c.args.self.now.squares c.loop-i.i c.from.result c.index.result.now (ap (λ (r : Shelf). r.squares) c.self.view_is) (omega (arith, c.requires, c.loop-i-test.true)) c.from.ensures c.index.ensures in
    let same = c.gens.ensures ∙ ap (λ (q : Placed). q.content.images) c.deref.ensures ∙ ap (λ (x : Content). x.images) (sym there) in
    let clones = c.in_ok-extend_with_clones.ensures.items in
    let put = clones.1 ∙ ap (λ (new : List (List Bool)). c.loop-i.images.items ++ new) (each_same c.gens.result.now clones.0 clones.2) in
    images_more (contents c.args.self.now.squares) c.loop-i.i c.loop-i.images.items c.extend_with_clones.new.self.items c.gens.result.now (omega (arith, c.requires, c.loop-i-test.true)) same c.loop-i.invariant put

pub returns : goal.returns
returns c =
    let e : c.loop-i.i ≡ c.args.n = omega (arith, c.loop-i-test.false, c.loop-i.auto.i-end) in
    let P : ℕ → Type 0 = λ n. c.loop-i.images.items ≡ images_of (take n (contents c.args.self.now.squares)) in
    subst P e c.loop-i.invariant
