use Rattle.std.proofs.Common.{◌≡◌, ◌+◌, ◌++◌, length, map, take, drop, ap, sym, subst, ◌∙◌, arith}
use Rattle.std.proofs.lemmas.List.{with_items_is, length-map}
use Rattle.f2_vec.specs.Spans.{HaveWidth}
use Rattle.f2_matrix.specs.Inside.RowOperations.{cleared}
use Rattle.f2_matrix.specs.Inside.Extend.{longer, with_pivot}
use Rattle.f2_matrix.proofs.RowOperations.{HaveWidth-cleared}
use Rattle.f2_matrix.proofs.Inserted.{HaveWidth-insert}
use Rattle.f2_matrix.proofs.Extended.{widths_longer}
use Rattle.f2_matrix.proofs.reduced.Reduced.with_kernel_row.Goals as goal

pub clear_by-requires-clause-widths : goal.clear_by-requires-clause-widths
clear_by-requires-clause-widths c =
    let self = c.args.self.now in
    let long = c.args.relation in
    let is : c.as_mut_slice.result.now ≡ map longer self.chosen = c.as_mut_slice.ensures.value ∙ c.in_ok-chosen.ensures ∙ ap (map longer) c.chosen.ensures.rows in
    subst (λ rows. HaveWidth (length long) rows) (sym is) (subst (λ m. HaveWidth m (map longer self.chosen)) (sym c.requires.length) (widths_longer self.height self.chosen c.chosen.ensures.widths))

pub put_pivot-requires-clause-widths : goal.put_pivot-requires-clause-widths
put_pivot-requires-clause-widths c =
    let self = c.args.self.now in
    let is : c.in_ok-relations.relations.items ≡ map longer self.kernel = c.in_ok-relations.ensures ∙ ap (map longer) c.kernel.ensures.rows in
    subst (λ rows. HaveWidth (length c.args.relation) rows) (sym is) (subst (λ m. HaveWidth m (map longer self.kernel)) (sym c.requires.length) (widths_longer self.height self.kernel c.kernel.ensures.widths))

pub from_shared_rows-requires-clause-chosen : goal.from_shared_rows-requires-clause-chosen
from_shared_rows-requires-clause-chosen c =
    let self = c.args.self.now in
    let m = self.height + 1 in
    let items = c.in_ok-chosen.chosen.items in
    let is : c.as_mut_slice.result.now ≡ map longer self.chosen = c.as_mut_slice.ensures.value ∙ c.in_ok-chosen.ensures ∙ ap (map longer) c.chosen.ensures.rows in
    let new : c.clear_by.new.rows ≡ map (cleared c.args.relation c.pivot-pivot.result) (map longer self.chosen) = c.clear_by.ensures ∙ ap (map (cleared c.args.relation c.pivot-pivot.result)) is in
    let wide : HaveWidth m c.clear_by.new.rows = subst (HaveWidth m) (sym new) (HaveWidth-cleared m c.args.relation c.pivot-pivot.result (map longer self.chosen) c.requires.length (widths_longer self.height self.chosen c.chosen.ensures.widths)) in
    let same : length c.clear_by.new.rows ≡ c.in_ok-chosen.chosen.len = omega (arith, ap length c.clear_by.ensures, length-map c.as_mut_slice.result.now (cleared c.args.relation c.pivot-pivot.result), ap length c.as_mut_slice.ensures.value, c.in_ok-chosen.chosen.ok.0) in
    subst (λ h. HaveWidth h (take c.in_ok-chosen.chosen.len (c.clear_by.new.rows ++ drop (length c.clear_by.new.rows) items))) (sym (c.len-height.ensures ∙ c.requires.length))
    (subst (HaveWidth m) (sym (with_items_is c.in_ok-chosen.chosen c.clear_by.new.rows same)) wide)

pub from_shared_rows-requires-clause-kernel : goal.from_shared_rows-requires-clause-kernel
from_shared_rows-requires-clause-kernel c =
    let self = c.args.self.now in
    let m = self.height + 1 in
    let is : c.in_ok-relations.relations.items ≡ map longer self.kernel = c.in_ok-relations.ensures ∙ ap (map longer) c.kernel.ensures.rows in
    let new : c.in_ok-kernel.kernel ≡ with_pivot c.args.relation c.pivot-pivot.result c.place_for-place.result (map longer self.kernel) = c.in_ok-kernel.ensures ∙ c.in_ok-put_pivot.ensures ∙ ap (with_pivot c.args.relation c.pivot-pivot.result c.place_for-place.result) is in
    let wide = HaveWidth-insert m c.place_for-place.result c.args.relation (map (cleared c.args.relation c.pivot-pivot.result) (map longer self.kernel)) c.requires.length (HaveWidth-cleared m c.args.relation c.pivot-pivot.result (map longer self.kernel) c.requires.length (widths_longer self.height self.kernel c.kernel.ensures.widths)) in
    subst (λ h. HaveWidth h c.in_ok-kernel.kernel) (sym (c.len-height.ensures ∙ c.requires.length)) (subst (HaveWidth m) (sym new) wide)
