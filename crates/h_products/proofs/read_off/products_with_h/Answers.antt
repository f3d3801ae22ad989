use Rattle.std.proofs.Common.{◌≡◌, ◌+◌, ◌<◌, ◌++◌, ◌∷◌, [], Bool, ℕ, ℤ, pos, ◌+ℤ◌, List, length, map, w32, to_z, of_z, ap, sym, subst, ◌∙◌, arith}
use Rattle.std.specs.List.{range_with_len}
use Rattle.std.proofs.lemmas.Int.{ints, to_z-of_z}
use Rattle.std.proofs.lemmas.List.FromFn.{map-range_with_len_more}
use Rattle.f2_vec.specs.Vectors.{bit}
use Rattle.free_module.specs.FreeModule.{free_width}
use Rattle.resolution_laws.specs.Resolution.{row_of, square_in}
use Rattle.lift_laws.specs.Lifts.{Resolution}
use Rattle.lift_laws.specs.Products.{count_of, first_of, on_square}
use Rattle.h_laws.specs.Products.{first_on}
use Rattle.h_products.specs.ReadOff.{first_degrees, resolution_in}
use Rattle.h_products.proofs.Generators.{AreWithin, one_more, within}
use Rattle.h_products.proofs.Values.{behind}
use Rattle.h_products.proofs.read_off.products_with_h.Goals as goal

pub behind-requires-clause-not_below : goal.behind-requires-clause-not_below
behind-requires-clause-not_below c =
    let r = resolution_in c.args.images.now in
    (subst (AreWithin r c.args.s c.args.above c.requires.square) (sym c.loop.invariant.gens) (within r c.args.s c.args.above c.requires.square c.loop.counter)).least

pub push-requires-in-loop : goal.push-requires-in-loop
push-requires-in-loop c =
    let r = resolution_in c.args.images.now in
    record {
      not_below = λ g l.
          let most = (subst (AreWithin r c.args.s c.args.above c.requires.square) (sym c.loop.invariant.gens) (within r c.args.s c.args.above c.requires.square c.loop.counter)).most g l in
          let same = to_z-of_z w32 c.degree-t.result (record { sfits = c.degree-t.type_inv }) in
          let is = c.degree-t.ensures in
          omega (arith, ints, most, same, is);
    }

pub loop-preserved : goal.loop-preserved
loop-preserved c =
    let r = resolution_in c.args.images.now in
    let n = c.args.n in
    let s = c.args.s in
    let above = c.args.above in
    let i = c.loop.counter in
    let t : ℤ = to_z w32 (of_z w32 c.degree-t.result) in
    let degree_is = to_z-of_z w32 c.degree-t.result (record { sfits = c.degree-t.type_inv }) ∙ c.degree-t.ensures in
    let f : ℕ → List Bool = λ j. on_square r (s + 1) (n + above) (first_on r s (first_of r s above + j)) in
    let inside : i < count_of r s above = omega (arith, c.loop-test.true, ap length c.square-end.ensures.images) in
    let images = (square_in (row_of r.table (s + 1)) (n + above)).images in
    let value : c.in_ok-behind.field-0 ≡ f i =
    c.in_ok-behind.ensures
    ∙ (ap (λ (gs : List ℤ). map (λ w. bit w (free_width gs (r.base.bottom +ℤ pos (n + above)))) images) c.loop.invariant.gens
    ∙ behind r n s above i c.requires.square c.requires.target inside) in
    record {
      gens = c.in_ok-push-2.ensures.ok ∙ (ap (λ (gs : List ℤ). gs ++ t ∷ []) c.loop.invariant.gens ∙ one_more r s above c.requires.square i t degree_is);
      rows = c.in_ok-push.ensures.items
          ∙ (ap (λ (xs : List (List Bool)). xs ++ c.in_ok-behind.field-0 ∷ []) c.loop.invariant.rows
          ∙ (ap (λ (v : List Bool). map f (range_with_len 0 i) ++ v ∷ []) value
          ∙ sym (map-range_with_len_more f 0 i i (omega arith))));
    }
