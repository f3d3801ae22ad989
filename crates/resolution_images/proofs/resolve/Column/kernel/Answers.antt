use Rattle.std.proofs.Common.{◌≡◌, suc, ◌-◌, w32, FitsSigned, take, refl, sym, subst, ◌∙◌, arith, rules}
use Rattle.std.proofs.lemmas.Int.{to_z-of_z}
use Rattle.resolution_laws.proofs.Rows.{IsWithinReach-row}
use Rattle.square.specs.Squares.{over}
use Rattle.stem_laws.specs.Stems.{in_stems, AreToCover}
use Rattle.resolution_images.specs.Made.{AreUnder}
use Rattle.resolution_images.proofs.Standing.{map_images, map_reach, map_0, map_above, map_covers, cover_kernel, if_ok_both}
use Rattle.resolution_images.proofs.Resolved.{resolvable, a_table}
use Rattle.resolution_images.proofs.resolve.Column.kernel.Goals as goal

-- ---- row 0

pub kernel_over-requires-clause-images : goal.kernel_over-requires-clause-images
kernel_over-requires-clause-images c =
    let checked = c.args.self.now.module.now in
    let m = over checked in
    let e = c.args.self.now.extent in
    let k = c.args.self.now.k in
    let fits : FitsSigned w32 c.degree-t.result = search rules in
    let at = to_z-of_z w32 c.degree-t.result fits ∙ c.degree-t.ensures in
    let none : c.args.s ≡ 0 = omega (arith, c.if-s-eq0.true) in
    let x = a_table c.canonical_table_exists.ensures checked e in
    map_images m e x.0 0 (suc k) k _ _ _ _ (map_0 m e x.0 c.args.s (suc k) k c.args.row.now _ x.1 none c.requires.here at) (resolvable c.modules_are_graded_modules.ensures checked) x.1 (omega arith) c.images_in_stems_fit.ensures (omega arith)

pub kernel_over-requires-clause-source_reach : goal.kernel_over-requires-clause-source_reach
kernel_over-requires-clause-source_reach c =
    let checked = c.args.self.now.module.now in
    let m = over checked in
    let e = c.args.self.now.extent in
    let k = c.args.self.now.k in
    let fits : FitsSigned w32 c.degree-t.result = search rules in
    let at = to_z-of_z w32 c.degree-t.result fits ∙ c.degree-t.ensures in
    let none : c.args.s ≡ 0 = omega (arith, c.if-s-eq0.true) in
    let x = a_table c.canonical_table_exists.ensures checked e in
    map_reach m e x.0 0 (suc k) k _ _ _ _ (map_0 m e x.0 c.args.s (suc k) k c.args.row.now _ x.1 none c.requires.here at) (resolvable c.modules_are_graded_modules.ensures checked) x.1 (omega arith) c.args.self.now.basis.now c.requires.basis

pub returns-then-s-eq0 : goal.returns-then-s-eq0
returns-then-s-eq0 c =
    let checked = c.args.self.now.module.now in
    let m = over checked in
    let e = c.args.self.now.extent in
    let k = c.args.self.now.k in
    let fits : FitsSigned w32 c.degree-t.result = search rules in
    let at = to_z-of_z w32 c.degree-t.result fits ∙ c.degree-t.ensures in
    let none : c.args.s ≡ 0 = omega (arith, c.if-s-eq0.true) in
    let r = resolvable c.modules_are_graded_modules.ensures checked in
    if_ok_both c.kernel_over.result _ _ _
    (λ below cols p.
    cover_kernel m e c.args.s k c.args.row.now below _ c.requires.here at cols
    (λ table canonical. subst (λ x. AreToCover m e.n table (suc x) k below.rows) (sym none)
    (map_covers m e table 0 (suc k) k _ _ _ _ (map_0 m e table c.args.s (suc k) k c.args.row.now _ canonical none c.requires.here at) r canonical (omega arith) refl below.rows p)))
    c.kernel_over.ensures.cols c.kernel_over.ensures.kernel

-- ---- a row above it

pub kernel_over_free-requires-clause-images : goal.kernel_over_free-requires-clause-images
kernel_over_free-requires-clause-images c =
    let checked = c.args.self.now.module.now in
    let m = over checked in
    let e = c.args.self.now.extent in
    let k = c.args.self.now.k in
    let fits : FitsSigned w32 c.degree-t.result = search rules in
    let at = to_z-of_z w32 c.degree-t.result fits ∙ c.degree-t.ensures in
    let some : c.args.s ≡ suc (c.args.s - 1) = omega (arith, c.if-s-eq0.false) in
    let x = a_table c.canonical_table_exists.ensures checked e in
    map_images m e x.0 _ (suc k) k _ _ _ _ (map_above m e x.0 c.args.s (c.args.s - 1) (suc k) k c.args.row.now c.args.under.now _ x.1 some c.requires.here c.requires.under at) (resolvable c.modules_are_graded_modules.ensures checked) x.1 (omega (arith, c.requires.row, some)) c.images_in_stems_fit.ensures (omega arith)

pub kernel_over_free-requires-clause-source_reach : goal.kernel_over_free-requires-clause-source_reach
kernel_over_free-requires-clause-source_reach c =
    let checked = c.args.self.now.module.now in
    let m = over checked in
    let e = c.args.self.now.extent in
    let k = c.args.self.now.k in
    let fits : FitsSigned w32 c.degree-t.result = search rules in
    let at = to_z-of_z w32 c.degree-t.result fits ∙ c.degree-t.ensures in
    let some : c.args.s ≡ suc (c.args.s - 1) = omega (arith, c.if-s-eq0.false) in
    let x = a_table c.canonical_table_exists.ensures checked e in
    map_reach m e x.0 _ (suc k) k _ _ _ _ (map_above m e x.0 c.args.s (c.args.s - 1) (suc k) k c.args.row.now c.args.under.now _ x.1 some c.requires.here c.requires.under at) (resolvable c.modules_are_graded_modules.ensures checked) x.1 (omega (arith, c.requires.row, some)) c.args.self.now.basis.now c.requires.basis

pub kernel_over_free-requires-clause-target_reach : goal.kernel_over_free-requires-clause-target_reach
kernel_over_free-requires-clause-target_reach c =
    let checked = c.args.self.now.module.now in
    let m = over checked in
    let e = c.args.self.now.extent in
    let k = c.args.self.now.k in
    let fits : FitsSigned w32 c.degree-t.result = search rules in
    let at = to_z-of_z w32 c.degree-t.result fits ∙ c.degree-t.ensures in
    let some : c.args.s ≡ suc (c.args.s - 1) = omega (arith, c.if-s-eq0.false) in
    let x = a_table c.canonical_table_exists.ensures checked e in
    let under = subst (λ s. AreUnder m e s k c.args.under.now) some c.requires.under in
    IsWithinReach-row m.bottom (take (suc k) (in_stems m e.n x.0 (c.args.s - 1))) k c.args.self.now.basis.now c.args.under.now _ at (under x.0 x.1) c.requires.basis

pub returns : goal.returns
returns c =
    let checked = c.args.self.now.module.now in
    let m = over checked in
    let e = c.args.self.now.extent in
    let k = c.args.self.now.k in
    let fits : FitsSigned w32 c.degree-t.result = search rules in
    let at = to_z-of_z w32 c.degree-t.result fits ∙ c.degree-t.ensures in
    let some : c.args.s ≡ suc (c.args.s - 1) = omega (arith, c.if-s-eq0.false) in
    let r = resolvable c.modules_are_graded_modules.ensures checked in
    if_ok_both c.kernel_over_free.result _ _ _
    (λ below cols p.
    cover_kernel m e c.args.s k c.args.row.now below _ c.requires.here at cols
    (λ table canonical. subst (λ x. AreToCover m e.n table (suc x) k below.rows) (sym some)
    (map_covers m e table _ (suc k) k _ _ _ _ (map_above m e table c.args.s (c.args.s - 1) (suc k) k c.args.row.now c.args.under.now _ canonical some c.requires.here c.requires.under at) r canonical (omega (arith, c.requires.row, some)) refl below.rows p)))
    c.kernel_over_free.ensures.cols c.kernel_over_free.ensures.kernel
