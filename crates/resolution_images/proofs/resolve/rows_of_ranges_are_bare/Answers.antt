use Rattle.std.proofs.Common.{ℕ, inl, inr, subst}
use Rattle.square.specs.Squares.{over}
use Rattle.stem_laws.specs.Stems.{in_stems}
use Rattle.resolution_laws.specs.Resolution.{row_of}
use Rattle.resolution_images.specs.Inside.Bare.{AreBareOf}
use Rattle.resolution_images.proofs.Contents.{canonical_are_bare, stems_are_bare}
use Rattle.resolution_images.proofs.Resolved.{resolvable, a_table}
use Rattle.finite_module.specs.ModuleLaws.{module_KeepsWidths}
use Rattle.resolution_images.proofs.resolve.rows_of_ranges_are_bare.Goals as goal

pub returns : goal.returns
returns c = λ m s t lines h.
    let r = resolvable c.modules_are_graded_modules.ensures m in
    elim h [
      | inl rectangle ↦
          let x = c.canonical_table_exists.ensures (over m) s t (module_KeepsWidths m.plain m.is_module) in
          (row_of x.0, canonical_are_bare c.linear_maps.ensures.free c.linear_maps.ensures.commute (over m) s t lines x.0 r x.1 rectangle)
      | inr stems ↦
          let n = stems.0 in
          let x = a_table c.canonical_table_exists.ensures m (record { last = s; n = n }) in
          let bare = stems_are_bare c.rows_in_stems_are_whole.ensures c.squares_in_stems_fit.ensures (over m) s n lines x.0 r x.1 stems.2 in
          (in_stems (over m) n x.0, subst (λ (z : ℕ). AreBareOf (over m) s z lines (in_stems (over m) n x.0)) stems.1 bare)
    ]
