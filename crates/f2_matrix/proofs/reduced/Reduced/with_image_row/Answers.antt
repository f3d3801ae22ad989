use Rattle.std.proofs.Common.{◌≡◌, ◌+◌, length, map, ap, sym, subst, ◌∙◌, arith}
use Rattle.f2_vec.specs.Spans.{HaveWidth}
use Rattle.std.specs.List.{insert}
use Rattle.std.proofs.lemmas.List.{with_items_is}
use Rattle.f2_matrix.specs.Reduction.{Reduction}
use Rattle.f2_matrix.specs.Echelon.{IsReduced, HasNoZeroRow}
use Rattle.f2_matrix.specs.Inside.Extend.{longer, with_pivot, IsPlaceFor, IsAddedBeside}
use Rattle.f2_matrix.proofs.Inserted.{MayJoin, HaveWidth-insert, joined_reduced, joined_nonzero, joined_widths}
use Rattle.f2_matrix.proofs.Extended.{widths_longer}
use Rattle.f2_matrix.proofs.AddedBeside.{HaveWidth-added}
use Rattle.f2_matrix.proofs.reduced.Reduced.with_image_row.Goals as goal

pub add_beside-requires-clause-widths : goal.add_beside-requires-clause-widths
add_beside-requires-clause-widths c =
    let self = c.args.self.now in
    let is : c.as_mut_slice.result.now ≡ map longer self.chosen = c.as_mut_slice.ensures.value ∙ c.in_ok-chosen.ensures ∙ ap (map longer) c.chosen.ensures.rows in
    subst (λ rows. HaveWidth (length c.args.preimage) rows) (sym is) (subst (λ m. HaveWidth m (map longer self.chosen)) (sym c.requires.length) (widths_longer self.height self.chosen c.chosen.ensures.widths))

-- the rows that are put together, in terms of those that were there
joins : (c : goal.After-cols) → MayJoin c.args.self.now.cols c.args.rest c.args.pivot c.place_for-place.result c.args.self.now.image
joins c = record {
  widths = c.image-old.ensures.widths;
  reduced = c.image-old.ensures.reduced;
  nonzero = c.image-old.ensures.nonzero;
  width = c.requires.width;
  first = c.requires.pivot;
  apart = c.requires.apart;
  place = subst (λ rows. IsPlaceFor c.args.pivot rows c.place_for-place.result) c.image-old.ensures.rows c.place_for-place.ensures;
}

image_is : (c : goal.After-cols) → c.in_ok-image.image ≡ with_pivot c.args.rest c.args.pivot c.place_for-place.result c.args.self.now.image
image_is c =
    c.in_ok-image.ensures ∙ c.in_ok-put_pivot.ensures
    ∙ ap (with_pivot c.args.rest c.args.pivot c.place_for-place.result) (c.in_ok-rows.ensures.items_if_clones_equal (λ x y e. e) ∙ c.image-old.ensures.rows)

longer_is : (c : goal.After-cols) → c.as_mut_slice.result.now ≡ map longer c.args.self.now.chosen
longer_is c = c.as_mut_slice.ensures.value ∙ c.in_ok-chosen.ensures ∙ ap (map longer) c.chosen.ensures.rows

chosen_is : (c : goal.After-cols) → c.insert.new.self.items ≡ insert c.add_beside.new.rows c.place_for-place.result c.args.preimage
chosen_is c =
    c.in_ok-insert.ensures.items
    ∙ ap (λ rows. insert rows c.place_for-place.result c.args.preimage) (with_items_is c.in_ok-chosen.chosen c.add_beside.new.rows (omega (arith, c.add_beside.ensures.as_many, ap length c.as_mut_slice.ensures.value, c.in_ok-chosen.chosen.ok.0)))

added_is : (c : goal.After-cols) → IsAddedBeside c.args.preimage c.args.pivot c.args.self.now.image (map longer c.args.self.now.chosen) c.add_beside.new.rows
added_is c =
    subst (λ beside. IsAddedBeside c.args.preimage c.args.pivot beside (map longer c.args.self.now.chosen) c.add_beside.new.rows) c.image-old.ensures.rows
    (subst (λ rows. IsAddedBeside c.args.preimage c.args.pivot c.image-old.result.now rows c.add_beside.new.rows) (longer_is c) c.add_beside.ensures)

kernel_is : (c : goal.After-cols) → c.in_ok-kernel.kernel ≡ map longer c.args.self.now.kernel
kernel_is c = c.in_ok-kernel.ensures ∙ c.in_ok-relations.ensures ∙ ap (map longer) c.kernel.ensures.rows

pub from_shared_rows-requires-clause-image : goal.from_shared_rows-requires-clause-image
from_shared_rows-requires-clause-image c =
    let self = c.args.self.now in
    subst (λ n. HaveWidth n c.in_ok-image.image) (sym c.cols.ensures)
    (subst (HaveWidth self.cols) (sym (image_is c)) (joined_widths self.cols c.args.rest c.args.pivot c.place_for-place.result self.image (joins c)))

pub from_shared_rows-requires-clause-reduced : goal.from_shared_rows-requires-clause-reduced
from_shared_rows-requires-clause-reduced c =
    let self = c.args.self.now in
    subst IsReduced (sym (image_is c)) (joined_reduced self.cols c.args.rest c.args.pivot c.place_for-place.result self.image (joins c))

pub from_shared_rows-requires-clause-nonzero : goal.from_shared_rows-requires-clause-nonzero
from_shared_rows-requires-clause-nonzero c =
    let self = c.args.self.now in
    subst HasNoZeroRow (sym (image_is c)) (joined_nonzero self.cols c.args.rest c.args.pivot c.place_for-place.result self.image (joins c))

pub from_shared_rows-requires-clause-chosen : goal.from_shared_rows-requires-clause-chosen
from_shared_rows-requires-clause-chosen c =
    let self = c.args.self.now in
    let m = self.height + 1 in
    let added = HaveWidth-added m c.args.preimage c.args.pivot self.image (map longer self.chosen) c.add_beside.new.rows c.requires.length (widths_longer self.height self.chosen c.chosen.ensures.widths) (added_is c) in
    subst (λ h. HaveWidth h c.insert.new.self.items) (sym (c.len-height.ensures ∙ c.requires.length))
    (subst (HaveWidth m) (sym (chosen_is c)) (HaveWidth-insert m c.place_for-place.result c.args.preimage c.add_beside.new.rows c.requires.length added))

pub from_shared_rows-requires-clause-kernel : goal.from_shared_rows-requires-clause-kernel
from_shared_rows-requires-clause-kernel c =
    let self = c.args.self.now in
    subst (λ m. HaveWidth m c.in_ok-kernel.kernel) (sym (c.len-height.ensures ∙ c.requires.length))
    (subst (HaveWidth (self.height + 1)) (sym (kernel_is c)) (widths_longer self.height self.kernel c.kernel.ensures.widths))

pub returns : goal.returns
returns c =
    let r = c.from_shared_rows.ensures in
    record {
      cols = ap (λ (x : Reduction). x.cols) r ∙ c.cols.ensures;
      height = ap (λ (x : Reduction). x.height) r ∙ c.len-height.ensures ∙ c.requires.length;
      place = c.place_for-place.result;
      is_place = subst (λ rows. IsPlaceFor c.args.pivot rows c.place_for-place.result) c.image-old.ensures.rows c.place_for-place.ensures;
      image = ap (λ (x : Reduction). x.image) r ∙ image_is c.before;
      added = c.add_beside.new.rows;
      is_added = added_is c.before;
      chosen = ap (λ (x : Reduction). x.chosen) r ∙ chosen_is c.before;
      kernel = ap (λ (x : Reduction). x.kernel) r ∙ kernel_is c.before;
    }
