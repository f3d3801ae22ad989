use Rattle.std.proofs.Common.{◌≡◌, ℕ, ◌++◌, Bool, List, ℤ, pos, ◌+ℤ◌, length, replicate, w32, to_z, of_z, FitsSigned, ap, sym, subst, ◌∙◌, rules, arith}
use Rattle.std.specs.Prelude.{◌↔◌, ◌≤◌, IsTrue}
use Rattle.std.proofs.lemmas.Int.{to_z-of_z}
use Rattle.std.proofs.lemmas.List.{length-map}
use Rattle.std.proofs.lemmas.Result.{IfOk-weaker}
use Rattle.f2_vec.specs.Spans.{HaveWidth}
use Rattle.f2_matrix.specs.Parts.{AreReductionParts}
use Rattle.free_module.proofs.MapRows.{HaveWidth-map_rows}
use Rattle.square.specs.Below.{below_KeepsWidths}
use Rattle.std.specs.List.{each_same}
use Rattle.resolution_laws.specs.Resolution.{degrees_from, images_of}
use Rattle.resolution_laws.proofs.Rows.{at_most-row}
use Rattle.square.specs.Below.{graded_of}
use Rattle.square.specs.Squares.{bottom_of}
use Rattle.square.proofs.Fitting.{AreGivenWith, AreImages-with, reach_with, matrix_with_is}
use Rattle.save_file.specs.Inside.Differentials.{matrix_behind}
use Rattle.save_file.proofs.row_map.RowMap.has_parts.Goals as goal

pub push_many-requires : goal.push_many-requires
push_many-requires c =
    let f = c.args.self.now.inputs in
    let t = to_z w32 (of_z w32 c.t-t.result) in
    let fits : FitsSigned w32 c.t-t.result = search rules in
    let at : t ≡ bottom_of f.resolved +ℤ pos f.above = to_z-of_z w32 c.t-t.result fits ∙ c.t-t.ensures.t in
    record { not_below = at_most-row (bottom_of f.resolved) f.squares f.above c.in_ok-gens.gens t at c.in_ok-gens.ensures c.t-t.ensures.is_footing.length_is }

pub new-map-requires : goal.new-map-requires
new-map-requires c =
    let f = c.args.self.now.inputs in
    let t = to_z w32 (of_z w32 c.t-t.result) in
    let fits : FitsSigned w32 c.t-t.result = search rules in
    let at : t ≡ bottom_of f.resolved +ℤ pos f.above = to_z-of_z w32 c.t-t.result fits ∙ c.t-t.ensures.t in
    let new = c.args.self.now.images.items in
    let clones = c.in_ok-extend_with_clones.ensures.items in
    let added : c.extend_with_clones.new.self.items ≡ c.in_ok-all.all.items ++ c.as_slice.result.now = clones.1 ∙ ap (λ (x : List (List Bool)). c.in_ok-all.all.items ++ x) (each_same c.as_slice.result.now clones.0 clones.2) in
    let images : c.as_slice-2.result.now ≡ images_of f.squares ++ new = c.as_slice-2.ensures.value ∙ added ∙ ap (λ (x : List (List Bool)). x ++ c.as_slice.result.now) c.in_ok-all.ensures ∙ ap (λ (x : List (List Bool)). images_of f.squares ++ x) c.as_slice.ensures.value in
    let long : c.len.result ≡ length new = omega (arith, c.len.ensures, c.args.self.now.images.ok.0) in
    let degrees : c.push_many.new.self ≡ degrees_from (bottom_of f.resolved) f.squares ++ replicate (length new) t = c.in_ok-push_many.ensures.ok ∙ ap (λ (k : ℕ). c.in_ok-gens.gens ++ replicate k t) long ∙ ap (λ (x : List ℤ). x ++ replicate (length new) t) c.in_ok-gens.ensures in
    let given : AreGivenWith f new (graded_of c.in_ok-target.target) c.push_many.new.self c.as_slice-2.result.now t = record {
      is_footing = c.t-t.ensures.is_footing;
      target_is = c.in_ok-target.ensures.graded;
      degrees_are = degrees;
      images_are = images;
      degree = at;
    } in
    AreImages-with f new (graded_of c.in_ok-target.target) c.push_many.new.self c.as_slice-2.result.now t given c.args.self.now.widths

pub are_parts_of-requires-clause-source : goal.are_parts_of-requires-clause-source
are_parts_of-requires-clause-source c =
    let f = c.args.self.now.inputs in
    let t = to_z w32 (of_z w32 c.t-t.result) in
    let fits : FitsSigned w32 c.t-t.result = search rules in
    let at : t ≡ bottom_of f.resolved +ℤ pos f.above = to_z-of_z w32 c.t-t.result fits ∙ c.t-t.ensures.t in
    let new = c.args.self.now.images.items in
    let clones = c.in_ok-extend_with_clones.ensures.items in
    let added : c.extend_with_clones.new.self.items ≡ c.in_ok-all.all.items ++ c.as_slice.result.now = clones.1 ∙ ap (λ (x : List (List Bool)). c.in_ok-all.all.items ++ x) (each_same c.as_slice.result.now clones.0 clones.2) in
    let images : c.as_slice-2.result.now ≡ images_of f.squares ++ new = c.as_slice-2.ensures.value ∙ added ∙ ap (λ (x : List (List Bool)). x ++ c.as_slice.result.now) c.in_ok-all.ensures ∙ ap (λ (x : List (List Bool)). images_of f.squares ++ x) c.as_slice.ensures.value in
    let long : c.len.result ≡ length new = omega (arith, c.len.ensures, c.args.self.now.images.ok.0) in
    let degrees : c.push_many.new.self ≡ degrees_from (bottom_of f.resolved) f.squares ++ replicate (length new) t = c.in_ok-push_many.ensures.ok ∙ ap (λ (k : ℕ). c.in_ok-gens.gens ++ replicate k t) long ∙ ap (λ (x : List ℤ). x ++ replicate (length new) t) c.in_ok-gens.ensures in
    let m = c.new-map.result in
    let given : AreGivenWith f new (graded_of m.target.now) m.source.now m.images.now t = record {
      is_footing = c.t-t.ensures.is_footing;
      target_is = ap graded_of c.new-map.ensures.target ∙ c.in_ok-target.ensures.graded;
      degrees_are = c.new-map.ensures.source ∙ degrees;
      images_are = c.new-map.ensures.images ∙ images;
      degree = at;
    } in
    let is = matrix_with_is f new (graded_of m.target.now) m.source.now m.images.now t given in
    reach_with f new (graded_of m.target.now) m.source.now m.images.now t given m.basis.now (subst (λ (n : ℕ). f.above ≤ n) (sym c.new-map.ensures.basis) c.basis.ensures.reaches)

pub are_parts_of-requires-clause-cols : goal.are_parts_of-requires-clause-cols
are_parts_of-requires-clause-cols c =
    let f = c.args.self.now.inputs in
    let t = to_z w32 (of_z w32 c.t-t.result) in
    let fits : FitsSigned w32 c.t-t.result = search rules in
    let at : t ≡ bottom_of f.resolved +ℤ pos f.above = to_z-of_z w32 c.t-t.result fits ∙ c.t-t.ensures.t in
    let new = c.args.self.now.images.items in
    let clones = c.in_ok-extend_with_clones.ensures.items in
    let added : c.extend_with_clones.new.self.items ≡ c.in_ok-all.all.items ++ c.as_slice.result.now = clones.1 ∙ ap (λ (x : List (List Bool)). c.in_ok-all.all.items ++ x) (each_same c.as_slice.result.now clones.0 clones.2) in
    let images : c.as_slice-2.result.now ≡ images_of f.squares ++ new = c.as_slice-2.ensures.value ∙ added ∙ ap (λ (x : List (List Bool)). x ++ c.as_slice.result.now) c.in_ok-all.ensures ∙ ap (λ (x : List (List Bool)). images_of f.squares ++ x) c.as_slice.ensures.value in
    let long : c.len.result ≡ length new = omega (arith, c.len.ensures, c.args.self.now.images.ok.0) in
    let degrees : c.push_many.new.self ≡ degrees_from (bottom_of f.resolved) f.squares ++ replicate (length new) t = c.in_ok-push_many.ensures.ok ∙ ap (λ (k : ℕ). c.in_ok-gens.gens ++ replicate k t) long ∙ ap (λ (x : List ℤ). x ++ replicate (length new) t) c.in_ok-gens.ensures in
    let m = c.new-map.result in
    let given : AreGivenWith f new (graded_of m.target.now) m.source.now m.images.now t = record {
      is_footing = c.t-t.ensures.is_footing;
      target_is = ap graded_of c.new-map.ensures.target ∙ c.in_ok-target.ensures.graded;
      degrees_are = c.new-map.ensures.source ∙ degrees;
      images_are = c.new-map.ensures.images ∙ images;
      degree = at;
    } in
    let is = matrix_with_is f new (graded_of m.target.now) m.source.now m.images.now t given in
    c.requires.cols ∙ sym is.0

pub are_parts_of-requires-clause-chosen : goal.are_parts_of-requires-clause-chosen
are_parts_of-requires-clause-chosen c =
    let f = c.args.self.now.inputs in
    let t = to_z w32 (of_z w32 c.t-t.result) in
    let fits : FitsSigned w32 c.t-t.result = search rules in
    let at : t ≡ bottom_of f.resolved +ℤ pos f.above = to_z-of_z w32 c.t-t.result fits ∙ c.t-t.ensures.t in
    let new = c.args.self.now.images.items in
    let clones = c.in_ok-extend_with_clones.ensures.items in
    let added : c.extend_with_clones.new.self.items ≡ c.in_ok-all.all.items ++ c.as_slice.result.now = clones.1 ∙ ap (λ (x : List (List Bool)). c.in_ok-all.all.items ++ x) (each_same c.as_slice.result.now clones.0 clones.2) in
    let images : c.as_slice-2.result.now ≡ images_of f.squares ++ new = c.as_slice-2.ensures.value ∙ added ∙ ap (λ (x : List (List Bool)). x ++ c.as_slice.result.now) c.in_ok-all.ensures ∙ ap (λ (x : List (List Bool)). images_of f.squares ++ x) c.as_slice.ensures.value in
    let long : c.len.result ≡ length new = omega (arith, c.len.ensures, c.args.self.now.images.ok.0) in
    let degrees : c.push_many.new.self ≡ degrees_from (bottom_of f.resolved) f.squares ++ replicate (length new) t = c.in_ok-push_many.ensures.ok ∙ ap (λ (k : ℕ). c.in_ok-gens.gens ++ replicate k t) long ∙ ap (λ (x : List ℤ). x ++ replicate (length new) t) c.in_ok-gens.ensures in
    let m = c.new-map.result in
    let given : AreGivenWith f new (graded_of m.target.now) m.source.now m.images.now t = record {
      is_footing = c.t-t.ensures.is_footing;
      target_is = ap graded_of c.new-map.ensures.target ∙ c.in_ok-target.ensures.graded;
      degrees_are = c.new-map.ensures.source ∙ degrees;
      images_are = c.new-map.ensures.images ∙ images;
      degree = at;
    } in
    let is = matrix_with_is f new (graded_of m.target.now) m.source.now m.images.now t given in
    subst (λ n. HaveWidth n c.args.chosen.now) (sym (ap length is.1) ∙ length-map _ _) c.requires.chosen

pub are_parts_of-requires-clause-kernel : goal.are_parts_of-requires-clause-kernel
are_parts_of-requires-clause-kernel c =
    let f = c.args.self.now.inputs in
    let t = to_z w32 (of_z w32 c.t-t.result) in
    let fits : FitsSigned w32 c.t-t.result = search rules in
    let at : t ≡ bottom_of f.resolved +ℤ pos f.above = to_z-of_z w32 c.t-t.result fits ∙ c.t-t.ensures.t in
    let new = c.args.self.now.images.items in
    let clones = c.in_ok-extend_with_clones.ensures.items in
    let added : c.extend_with_clones.new.self.items ≡ c.in_ok-all.all.items ++ c.as_slice.result.now = clones.1 ∙ ap (λ (x : List (List Bool)). c.in_ok-all.all.items ++ x) (each_same c.as_slice.result.now clones.0 clones.2) in
    let images : c.as_slice-2.result.now ≡ images_of f.squares ++ new = c.as_slice-2.ensures.value ∙ added ∙ ap (λ (x : List (List Bool)). x ++ c.as_slice.result.now) c.in_ok-all.ensures ∙ ap (λ (x : List (List Bool)). images_of f.squares ++ x) c.as_slice.ensures.value in
    let long : c.len.result ≡ length new = omega (arith, c.len.ensures, c.args.self.now.images.ok.0) in
    let degrees : c.push_many.new.self ≡ degrees_from (bottom_of f.resolved) f.squares ++ replicate (length new) t = c.in_ok-push_many.ensures.ok ∙ ap (λ (k : ℕ). c.in_ok-gens.gens ++ replicate k t) long ∙ ap (λ (x : List ℤ). x ++ replicate (length new) t) c.in_ok-gens.ensures in
    let m = c.new-map.result in
    let given : AreGivenWith f new (graded_of m.target.now) m.source.now m.images.now t = record {
      is_footing = c.t-t.ensures.is_footing;
      target_is = ap graded_of c.new-map.ensures.target ∙ c.in_ok-target.ensures.graded;
      degrees_are = c.new-map.ensures.source ∙ degrees;
      images_are = c.new-map.ensures.images ∙ images;
      degree = at;
    } in
    let is = matrix_with_is f new (graded_of m.target.now) m.source.now m.images.now t given in
    subst (λ n. HaveWidth n c.args.kernel.now) (sym (ap length is.1) ∙ length-map _ _) c.requires.kernel

pub returns-clause-parts : goal.returns-clause-parts
returns-clause-parts c =
    let f = c.args.self.now.inputs in
    let t = to_z w32 (of_z w32 c.t-t.result) in
    let fits : FitsSigned w32 c.t-t.result = search rules in
    let at : t ≡ bottom_of f.resolved +ℤ pos f.above = to_z-of_z w32 c.t-t.result fits ∙ c.t-t.ensures.t in
    let new = c.args.self.now.images.items in
    let clones = c.in_ok-extend_with_clones.ensures.items in
    let added : c.extend_with_clones.new.self.items ≡ c.in_ok-all.all.items ++ c.as_slice.result.now = clones.1 ∙ ap (λ (x : List (List Bool)). c.in_ok-all.all.items ++ x) (each_same c.as_slice.result.now clones.0 clones.2) in
    let images : c.as_slice-2.result.now ≡ images_of f.squares ++ new = c.as_slice-2.ensures.value ∙ added ∙ ap (λ (x : List (List Bool)). x ++ c.as_slice.result.now) c.in_ok-all.ensures ∙ ap (λ (x : List (List Bool)). images_of f.squares ++ x) c.as_slice.ensures.value in
    let long : c.len.result ≡ length new = omega (arith, c.len.ensures, c.args.self.now.images.ok.0) in
    let degrees : c.push_many.new.self ≡ degrees_from (bottom_of f.resolved) f.squares ++ replicate (length new) t = c.in_ok-push_many.ensures.ok ∙ ap (λ (k : ℕ). c.in_ok-gens.gens ++ replicate k t) long ∙ ap (λ (x : List ℤ). x ++ replicate (length new) t) c.in_ok-gens.ensures in
    let m = c.new-map.result in
    let given : AreGivenWith f new (graded_of m.target.now) m.source.now m.images.now t = record {
      is_footing = c.t-t.ensures.is_footing;
      target_is = ap graded_of c.new-map.ensures.target ∙ c.in_ok-target.ensures.graded;
      degrees_are = c.new-map.ensures.source ∙ degrees;
      images_are = c.new-map.ensures.images ∙ images;
      degree = at;
    } in
    let is = matrix_with_is f new (graded_of m.target.now) m.source.now m.images.now t given in
    IfOk-weaker c.are_parts_of.result _ _
    (λ are e. subst (λ n. IsTrue are ↔ AreReductionParts n (matrix_behind c.args.self.now).rows c.args.image.now c.args.chosen.now c.args.kernel.now) c.requires.cols (subst (λ r. IsTrue are ↔ AreReductionParts c.args.cols r c.args.image.now c.args.chosen.now c.args.kernel.now) is.1 e))
    c.are_parts_of.ensures

pub returns-clause-widths : goal.returns-clause-widths
returns-clause-widths c =
    let f = c.args.self.now.inputs in
    let t = to_z w32 (of_z w32 c.t-t.result) in
    let fits : FitsSigned w32 c.t-t.result = search rules in
    let at : t ≡ bottom_of f.resolved +ℤ pos f.above = to_z-of_z w32 c.t-t.result fits ∙ c.t-t.ensures.t in
    let new = c.args.self.now.images.items in
    let clones = c.in_ok-extend_with_clones.ensures.items in
    let added : c.extend_with_clones.new.self.items ≡ c.in_ok-all.all.items ++ c.as_slice.result.now = clones.1 ∙ ap (λ (x : List (List Bool)). c.in_ok-all.all.items ++ x) (each_same c.as_slice.result.now clones.0 clones.2) in
    let images : c.as_slice-2.result.now ≡ images_of f.squares ++ new = c.as_slice-2.ensures.value ∙ added ∙ ap (λ (x : List (List Bool)). x ++ c.as_slice.result.now) c.in_ok-all.ensures ∙ ap (λ (x : List (List Bool)). images_of f.squares ++ x) c.as_slice.ensures.value in
    let long : c.len.result ≡ length new = omega (arith, c.len.ensures, c.args.self.now.images.ok.0) in
    let degrees : c.push_many.new.self ≡ degrees_from (bottom_of f.resolved) f.squares ++ replicate (length new) t = c.in_ok-push_many.ensures.ok ∙ ap (λ (k : ℕ). c.in_ok-gens.gens ++ replicate k t) long ∙ ap (λ (x : List ℤ). x ++ replicate (length new) t) c.in_ok-gens.ensures in
    let m = c.new-map.result in
    let given : AreGivenWith f new (graded_of m.target.now) m.source.now m.images.now t = record {
      is_footing = c.t-t.ensures.is_footing;
      target_is = ap graded_of c.new-map.ensures.target ∙ c.in_ok-target.ensures.graded;
      degrees_are = c.new-map.ensures.source ∙ degrees;
      images_are = c.new-map.ensures.images ∙ images;
      degree = at;
    } in
    let is = matrix_with_is f new (graded_of m.target.now) m.source.now m.images.now t given in
    let wide = HaveWidth-map_rows (graded_of m.target.now) m.source.now m.images.now t (below_KeepsWidths m.target.now) m.are_images in
    IfOk-weaker c.are_parts_of.result _ _ (λ are e. subst (λ n. HaveWidth n (matrix_behind c.args.self.now).rows) is.0 (subst (λ r. HaveWidth ((graded_of m.target.now).width t) r) is.1 wide)) c.are_parts_of.ensures
