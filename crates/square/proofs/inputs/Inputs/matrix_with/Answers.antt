use Rattle.std.proofs.Common.{◌≡◌, ℕ, ◌≤◌, ◌++◌, Bool, List, ℤ, pos, ◌+ℤ◌, length, replicate, w32, to_z, of_z, FitsSigned, ap, sym, subst, ◌∙◌, rules}
use Rattle.std.proofs.lemmas.Int.{to_z-of_z}
use Rattle.std.proofs.lemmas.Result.{IfOk-weaker}
use Rattle.std.specs.List.{each_same}
use Rattle.resolution_laws.specs.Resolution.{degrees_from, images_of}
use Rattle.resolution_laws.proofs.Rows.{at_most-row}
use Rattle.square.specs.Below.{graded_of}
use Rattle.square.specs.Squares.{bottom_of}
use Rattle.square.proofs.Fitting.{AreGivenWith, AreImages-with, reach_with, matrix_with_is}
use Rattle.square.proofs.inputs.Inputs.matrix_with.Goals as goal

pub push_many-requires : goal.push_many-requires
push_many-requires c =
    let f = c.args.self.now in
    let t = to_z w32 (of_z w32 c.t-t.result) in
    let fits : FitsSigned w32 c.t-t.result = search rules in
    let at : t ≡ bottom_of f.resolved +ℤ pos f.above = to_z-of_z w32 c.t-t.result fits ∙ c.t-t.ensures.t in
    record { not_below = at_most-row (bottom_of f.resolved) f.squares f.above c.in_ok-gens.gens t at c.in_ok-gens.ensures c.t-t.ensures.is_footing.length_is }

pub new-requires : goal.new-requires
new-requires c =
    let f = c.args.self.now in
    let t = to_z w32 (of_z w32 c.t-t.result) in
    let fits : FitsSigned w32 c.t-t.result = search rules in
    let at : t ≡ bottom_of f.resolved +ℤ pos f.above = to_z-of_z w32 c.t-t.result fits ∙ c.t-t.ensures.t in
    let new = c.args.images.now in
    let clones = c.in_ok-extend_with_clones.ensures.items in
    let added : c.extend_with_clones.new.self.items ≡ c.in_ok-all.all.items ++ new = clones.1 ∙ ap (λ (x : List (List Bool)). c.in_ok-all.all.items ++ x) (each_same new clones.0 clones.2) in
    let degrees : c.push_many.new.self ≡ degrees_from (bottom_of f.resolved) f.squares ++ replicate (length new) t = c.in_ok-push_many.ensures.ok ∙ ap (λ (x : List ℤ). x ++ replicate (length new) t) c.in_ok-gens.ensures in
    let images : c.as_slice.result.now ≡ images_of f.squares ++ new = c.as_slice.ensures.value ∙ added ∙ ap (λ (x : List (List Bool)). x ++ new) c.in_ok-all.ensures in
    let given : AreGivenWith f new (graded_of c.in_ok-target.target) c.push_many.new.self c.as_slice.result.now t = record {
      is_footing = c.t-t.ensures.is_footing;
      target_is = c.in_ok-target.ensures.graded;
      degrees_are = degrees;
      images_are = images;
      degree = at;
    } in
    AreImages-with f new (graded_of c.in_ok-target.target) c.push_many.new.self c.as_slice.result.now t given c.requires

pub matrix-requires-clause-source : goal.matrix-requires-clause-source
matrix-requires-clause-source c =
    let f = c.args.self.now in
    let t = to_z w32 (of_z w32 c.t-t.result) in
    let fits : FitsSigned w32 c.t-t.result = search rules in
    let at : t ≡ bottom_of f.resolved +ℤ pos f.above = to_z-of_z w32 c.t-t.result fits ∙ c.t-t.ensures.t in
    let new = c.args.images.now in
    let clones = c.in_ok-extend_with_clones.ensures.items in
    let added : c.extend_with_clones.new.self.items ≡ c.in_ok-all.all.items ++ new = clones.1 ∙ ap (λ (x : List (List Bool)). c.in_ok-all.all.items ++ x) (each_same new clones.0 clones.2) in
    let degrees : c.push_many.new.self ≡ degrees_from (bottom_of f.resolved) f.squares ++ replicate (length new) t = c.in_ok-push_many.ensures.ok ∙ ap (λ (x : List ℤ). x ++ replicate (length new) t) c.in_ok-gens.ensures in
    let images : c.as_slice.result.now ≡ images_of f.squares ++ new = c.as_slice.ensures.value ∙ added ∙ ap (λ (x : List (List Bool)). x ++ new) c.in_ok-all.ensures in
    let given : AreGivenWith f new (graded_of c.new.result.target.now) c.new.result.source.now c.new.result.images.now t = record {
      is_footing = c.t-t.ensures.is_footing;
      target_is = ap graded_of c.new.ensures.target ∙ c.in_ok-target.ensures.graded;
      degrees_are = c.new.ensures.source ∙ degrees;
      images_are = c.new.ensures.images ∙ images;
      degree = at;
    } in
    reach_with f new (graded_of c.new.result.target.now) c.new.result.source.now c.new.result.images.now t given c.new.result.basis.now (subst (λ (n : ℕ). f.above ≤ n) (sym c.new.ensures.basis) c.basis.ensures.reaches)

pub returns-clause-rows : goal.returns-clause-rows
returns-clause-rows c =
    let f = c.args.self.now in
    let t = to_z w32 (of_z w32 c.t-t.result) in
    let fits : FitsSigned w32 c.t-t.result = search rules in
    let at : t ≡ bottom_of f.resolved +ℤ pos f.above = to_z-of_z w32 c.t-t.result fits ∙ c.t-t.ensures.t in
    let new = c.args.images.now in
    let clones = c.in_ok-extend_with_clones.ensures.items in
    let added : c.extend_with_clones.new.self.items ≡ c.in_ok-all.all.items ++ new = clones.1 ∙ ap (λ (x : List (List Bool)). c.in_ok-all.all.items ++ x) (each_same new clones.0 clones.2) in
    let degrees : c.push_many.new.self ≡ degrees_from (bottom_of f.resolved) f.squares ++ replicate (length new) t = c.in_ok-push_many.ensures.ok ∙ ap (λ (x : List ℤ). x ++ replicate (length new) t) c.in_ok-gens.ensures in
    let images : c.as_slice.result.now ≡ images_of f.squares ++ new = c.as_slice.ensures.value ∙ added ∙ ap (λ (x : List (List Bool)). x ++ new) c.in_ok-all.ensures in
    let given : AreGivenWith f new (graded_of c.new.result.target.now) c.new.result.source.now c.new.result.images.now t = record {
      is_footing = c.t-t.ensures.is_footing;
      target_is = ap graded_of c.new.ensures.target ∙ c.in_ok-target.ensures.graded;
      degrees_are = c.new.ensures.source ∙ degrees;
      images_are = c.new.ensures.images ∙ images;
      degree = at;
    } in
    IfOk-weaker c.matrix.result _ _ (λ m e. e ∙ (matrix_with_is f new (graded_of c.new.result.target.now) c.new.result.source.now c.new.result.images.now t given).1) c.matrix.ensures.rows

pub returns-clause-cols : goal.returns-clause-cols
returns-clause-cols c =
    let f = c.args.self.now in
    let t = to_z w32 (of_z w32 c.t-t.result) in
    let fits : FitsSigned w32 c.t-t.result = search rules in
    let at : t ≡ bottom_of f.resolved +ℤ pos f.above = to_z-of_z w32 c.t-t.result fits ∙ c.t-t.ensures.t in
    let new = c.args.images.now in
    let clones = c.in_ok-extend_with_clones.ensures.items in
    let added : c.extend_with_clones.new.self.items ≡ c.in_ok-all.all.items ++ new = clones.1 ∙ ap (λ (x : List (List Bool)). c.in_ok-all.all.items ++ x) (each_same new clones.0 clones.2) in
    let degrees : c.push_many.new.self ≡ degrees_from (bottom_of f.resolved) f.squares ++ replicate (length new) t = c.in_ok-push_many.ensures.ok ∙ ap (λ (x : List ℤ). x ++ replicate (length new) t) c.in_ok-gens.ensures in
    let images : c.as_slice.result.now ≡ images_of f.squares ++ new = c.as_slice.ensures.value ∙ added ∙ ap (λ (x : List (List Bool)). x ++ new) c.in_ok-all.ensures in
    let given : AreGivenWith f new (graded_of c.new.result.target.now) c.new.result.source.now c.new.result.images.now t = record {
      is_footing = c.t-t.ensures.is_footing;
      target_is = ap graded_of c.new.ensures.target ∙ c.in_ok-target.ensures.graded;
      degrees_are = c.new.ensures.source ∙ degrees;
      images_are = c.new.ensures.images ∙ images;
      degree = at;
    } in
    IfOk-weaker c.matrix.result _ _ (λ m e. e ∙ (matrix_with_is f new (graded_of c.new.result.target.now) c.new.result.source.now c.new.result.images.now t given).0) c.matrix.ensures.cols
