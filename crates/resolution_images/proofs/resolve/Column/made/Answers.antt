use Rattle.std.proofs.Common.{◌≡◌, suc, ◌-◌, w32, FitsSigned, take, refl, sym, subst, ◌∙◌, arith, rules}
use Rattle.std.proofs.lemmas.Int.{to_z-of_z}
use Rattle.std.proofs.lemmas.Result.{IfOk-weaker}
use Rattle.resolution_laws.specs.Resolution.{Content}
use Rattle.resolution_laws.proofs.Rows.{IsWithinReach-row}
use Rattle.square.specs.Squares.{over}
use Rattle.stem_laws.specs.Stems.{in_stems}
use Rattle.resolution_images.specs.Made.{AreUnder, IsSquareInStems}
use Rattle.resolution_images.proofs.Standing.{map_images, map_reach, map_0, map_above, cols_0, cols_above, covers_at, step_covered, step_square, if_ok_both}
use Rattle.resolution_images.proofs.Making.{cover_above}
use Rattle.resolution_images.proofs.Resolved.{resolvable, a_table}
use Rattle.resolution_images.proofs.resolve.Column.made.Goals as goal

-- ---- row 0

pub step_over-requires-clause-images : goal.step_over-requires-clause-images
step_over-requires-clause-images c =
    let checked = c.args.self.now.module.now in
    let m = over checked in
    let e = c.args.self.now.extent in
    let k = c.args.self.now.k in
    let fits : FitsSigned w32 c.degree-t.result = search rules in
    let at = to_z-of_z w32 c.degree-t.result fits ∙ c.degree-t.ensures in
    let none : c.args.s ≡ 0 = omega (arith, c.if-s-eq0.true) in
    let x = a_table c.canonical_table_exists.ensures checked e in
    map_images m e x.0 0 k k _ _ _ _ (map_0 m e x.0 c.args.s k k c.args.row.now _ x.1 none c.requires.here at) (resolvable c.modules_are_graded_modules.ensures checked) x.1 (omega arith) c.images_in_stems_fit.ensures (omega arith)

pub step_over-requires-clause-source_reach : goal.step_over-requires-clause-source_reach
step_over-requires-clause-source_reach c =
    let checked = c.args.self.now.module.now in
    let m = over checked in
    let e = c.args.self.now.extent in
    let k = c.args.self.now.k in
    let fits : FitsSigned w32 c.degree-t.result = search rules in
    let at = to_z-of_z w32 c.degree-t.result fits ∙ c.degree-t.ensures in
    let none : c.args.s ≡ 0 = omega (arith, c.if-s-eq0.true) in
    let x = a_table c.canonical_table_exists.ensures checked e in
    map_reach m e x.0 0 k k _ _ _ _ (map_0 m e x.0 c.args.s k k c.args.row.now _ x.1 none c.requires.here at) (resolvable c.modules_are_graded_modules.ensures checked) x.1 (omega arith) c.args.self.now.basis.now c.requires.basis

pub step_over-requires-clause-cols : goal.step_over-requires-clause-cols
step_over-requires-clause-cols c =
    let checked = c.args.self.now.module.now in
    let e = c.args.self.now.extent in
    let fits : FitsSigned w32 c.degree-t.result = search rules in
    let at = to_z-of_z w32 c.degree-t.result fits ∙ c.degree-t.ensures in
    let none : c.args.s ≡ 0 = omega (arith, c.if-s-eq0.true) in
    let x = a_table c.canonical_table_exists.ensures checked e in
    cols_0 (over checked) e x.0 c.args.s c.args.self.now.k c.args.below.now _ x.1 none c.requires.below at

pub step_over-requires-clause-covered : goal.step_over-requires-clause-covered
step_over-requires-clause-covered c =
    let checked = c.args.self.now.module.now in
    let m = over checked in
    let e = c.args.self.now.extent in
    let k = c.args.self.now.k in
    let fits : FitsSigned w32 c.degree-t.result = search rules in
    let at = to_z-of_z w32 c.degree-t.result fits ∙ c.degree-t.ensures in
    let none : c.args.s ≡ 0 = omega (arith, c.if-s-eq0.true) in
    let x = a_table c.canonical_table_exists.ensures checked e in
    step_covered m e x.0 0 k _ _ _ _ _ (map_0 m e x.0 c.args.s k k c.args.row.now _ x.1 none c.requires.here at) (resolvable c.modules_are_graded_modules.ensures checked) x.1 (omega arith) (omega (arith, c.requires.within, none))
    (covers_at m e x.0 c.args.s 0 k c.args.below.now x.1 none c.requires.below) c.rows_in_stems_are_covered.ensures

pub returns-then-s-eq0-clause-square : goal.returns-then-s-eq0-clause-square
returns-then-s-eq0-clause-square c =
    let checked = c.args.self.now.module.now in
    let m = over checked in
    let e = c.args.self.now.extent in
    let k = c.args.self.now.k in
    let fits : FitsSigned w32 c.degree-t.result = search rules in
    let at = to_z-of_z w32 c.degree-t.result fits ∙ c.degree-t.ensures in
    let none : c.args.s ≡ 0 = omega (arith, c.if-s-eq0.true) in
    IfOk-weaker c.step_over.result _ _
    (λ made p. subst (λ x. IsSquareInStems m e x k (record { images = made.images.items; kernel = made.kernel.rows })) (sym none)
    (λ table canonical.
    step_square m e table 0 k _ _ _ _ _ (map_0 m e table c.args.s k k c.args.row.now _ canonical none c.requires.here at) (resolvable c.modules_are_graded_modules.ensures checked) canonical (omega arith) (omega (arith, c.requires.within, none))
    (covers_at m e table c.args.s 0 k c.args.below.now canonical none c.requires.below) c.squares_in_stems_are_steps.ensures _ p))
    c.step_over.ensures.step

pub returns-then-s-eq0-clause-kernel : goal.returns-then-s-eq0-clause-kernel
returns-then-s-eq0-clause-kernel c =
    let checked = c.args.self.now.module.now in
    let m = over checked in
    let e = c.args.self.now.extent in
    let k = c.args.self.now.k in
    let fits : FitsSigned w32 c.degree-t.result = search rules in
    let at = to_z-of_z w32 c.degree-t.result fits ∙ c.degree-t.ensures in
    let none : c.args.s ≡ 0 = omega (arith, c.if-s-eq0.true) in
    let r = resolvable c.modules_are_graded_modules.ensures checked in
    if_ok_both c.step_over.result _ _ _
    (λ made p cols.
    let content : Content = record { images = made.images.items; kernel = made.kernel.rows } in
    let square : IsSquareInStems m e c.args.s k content =
    subst (λ x. IsSquareInStems m e x k content) (sym none)
    (λ table canonical.
    step_square m e table 0 k _ _ _ _ _ (map_0 m e table c.args.s k k c.args.row.now _ canonical none c.requires.here at) r canonical (omega arith) (omega (arith, c.requires.within, none))
    (covers_at m e table c.args.s 0 k c.args.below.now canonical none c.requires.below) c.squares_in_stems_are_steps.ensures _ p) in
    cover_above c.rows_in_stems_are_whole.ensures c.kernels_in_stems_are_to_cover.ensures m e c.args.s k c.args.row.now content _ made.kernel r c.requires.row c.requires.within c.requires.here square at refl cols)
    c.step_over.ensures.step c.step_over.ensures.cols

-- ---- a row above it

pub step_over_free-requires-clause-images : goal.step_over_free-requires-clause-images
step_over_free-requires-clause-images c =
    let checked = c.args.self.now.module.now in
    let m = over checked in
    let e = c.args.self.now.extent in
    let k = c.args.self.now.k in
    let fits : FitsSigned w32 c.degree-t.result = search rules in
    let at = to_z-of_z w32 c.degree-t.result fits ∙ c.degree-t.ensures in
    let some : c.args.s ≡ suc (c.args.s - 1) = omega (arith, c.if-s-eq0.false) in
    let x = a_table c.canonical_table_exists.ensures checked e in
    map_images m e x.0 _ k k _ _ _ _ (map_above m e x.0 c.args.s (c.args.s - 1) k k c.args.row.now c.args.under.now _ x.1 some c.requires.here c.requires.under at) (resolvable c.modules_are_graded_modules.ensures checked) x.1 (omega (arith, c.requires.row, some)) c.images_in_stems_fit.ensures (omega arith)

pub step_over_free-requires-clause-cols : goal.step_over_free-requires-clause-cols
step_over_free-requires-clause-cols c =
    let checked = c.args.self.now.module.now in
    let e = c.args.self.now.extent in
    let fits : FitsSigned w32 c.degree-t.result = search rules in
    let at = to_z-of_z w32 c.degree-t.result fits ∙ c.degree-t.ensures in
    let some : c.args.s ≡ suc (c.args.s - 1) = omega (arith, c.if-s-eq0.false) in
    let x = a_table c.canonical_table_exists.ensures checked e in
    cols_above (over checked) e x.0 c.args.s (c.args.s - 1) c.args.self.now.k c.args.below.now c.args.under.now _ x.1 some c.requires.below c.requires.under at

pub step_over_free-requires-clause-covered : goal.step_over_free-requires-clause-covered
step_over_free-requires-clause-covered c =
    let checked = c.args.self.now.module.now in
    let m = over checked in
    let e = c.args.self.now.extent in
    let k = c.args.self.now.k in
    let fits : FitsSigned w32 c.degree-t.result = search rules in
    let at = to_z-of_z w32 c.degree-t.result fits ∙ c.degree-t.ensures in
    let some : c.args.s ≡ suc (c.args.s - 1) = omega (arith, c.if-s-eq0.false) in
    let x = a_table c.canonical_table_exists.ensures checked e in
    step_covered m e x.0 _ k _ _ _ _ _ (map_above m e x.0 c.args.s (c.args.s - 1) k k c.args.row.now c.args.under.now _ x.1 some c.requires.here c.requires.under at) (resolvable c.modules_are_graded_modules.ensures checked) x.1 (omega (arith, c.requires.row, some)) (omega (arith, c.requires.within, some))
    (covers_at m e x.0 c.args.s (suc (c.args.s - 1)) k c.args.below.now x.1 some c.requires.below) c.rows_in_stems_are_covered.ensures

pub step_over_free-requires-clause-source_reach : goal.step_over_free-requires-clause-source_reach
step_over_free-requires-clause-source_reach c =
    let checked = c.args.self.now.module.now in
    let m = over checked in
    let e = c.args.self.now.extent in
    let k = c.args.self.now.k in
    let fits : FitsSigned w32 c.degree-t.result = search rules in
    let at = to_z-of_z w32 c.degree-t.result fits ∙ c.degree-t.ensures in
    let some : c.args.s ≡ suc (c.args.s - 1) = omega (arith, c.if-s-eq0.false) in
    let x = a_table c.canonical_table_exists.ensures checked e in
    map_reach m e x.0 _ k k _ _ _ _ (map_above m e x.0 c.args.s (c.args.s - 1) k k c.args.row.now c.args.under.now _ x.1 some c.requires.here c.requires.under at) (resolvable c.modules_are_graded_modules.ensures checked) x.1 (omega (arith, c.requires.row, some)) c.args.self.now.basis.now c.requires.basis

pub step_over_free-requires-clause-target_reach : goal.step_over_free-requires-clause-target_reach
step_over_free-requires-clause-target_reach c =
    let checked = c.args.self.now.module.now in
    let m = over checked in
    let e = c.args.self.now.extent in
    let k = c.args.self.now.k in
    let fits : FitsSigned w32 c.degree-t.result = search rules in
    let at = to_z-of_z w32 c.degree-t.result fits ∙ c.degree-t.ensures in
    let some : c.args.s ≡ suc (c.args.s - 1) = omega (arith, c.if-s-eq0.false) in
    let x = a_table c.canonical_table_exists.ensures checked e in
    let under = subst (λ s. AreUnder m e s k c.args.under.now) some c.requires.under in
    IsWithinReach-row m.bottom (take (suc k) (in_stems m e.n x.0 (c.args.s - 1))) k c.args.self.now.basis.now c.args.under.now _ at (under x.0 x.1) c.requires.basis

pub returns-clause-square : goal.returns-clause-square
returns-clause-square c =
    let checked = c.args.self.now.module.now in
    let m = over checked in
    let e = c.args.self.now.extent in
    let k = c.args.self.now.k in
    let fits : FitsSigned w32 c.degree-t.result = search rules in
    let at = to_z-of_z w32 c.degree-t.result fits ∙ c.degree-t.ensures in
    let some : c.args.s ≡ suc (c.args.s - 1) = omega (arith, c.if-s-eq0.false) in
    IfOk-weaker c.step_over_free.result _ _
    (λ made p. subst (λ x. IsSquareInStems m e x k (record { images = made.images.items; kernel = made.kernel.rows })) (sym some)
    (λ table canonical.
    step_square m e table _ k _ _ _ _ _ (map_above m e table c.args.s (c.args.s - 1) k k c.args.row.now c.args.under.now _ canonical some c.requires.here c.requires.under at) (resolvable c.modules_are_graded_modules.ensures checked) canonical (omega (arith, c.requires.row, some)) (omega (arith, c.requires.within, some))
    (covers_at m e table c.args.s (suc (c.args.s - 1)) k c.args.below.now canonical some c.requires.below) c.squares_in_stems_are_steps.ensures _ p))
    c.step_over_free.ensures.step

pub returns-clause-kernel : goal.returns-clause-kernel
returns-clause-kernel c =
    let checked = c.args.self.now.module.now in
    let m = over checked in
    let e = c.args.self.now.extent in
    let k = c.args.self.now.k in
    let fits : FitsSigned w32 c.degree-t.result = search rules in
    let at = to_z-of_z w32 c.degree-t.result fits ∙ c.degree-t.ensures in
    let some : c.args.s ≡ suc (c.args.s - 1) = omega (arith, c.if-s-eq0.false) in
    let r = resolvable c.modules_are_graded_modules.ensures checked in
    if_ok_both c.step_over_free.result _ _ _
    (λ made p cols.
    let content : Content = record { images = made.images.items; kernel = made.kernel.rows } in
    let square : IsSquareInStems m e c.args.s k content =
    subst (λ x. IsSquareInStems m e x k content) (sym some)
    (λ table canonical.
    step_square m e table _ k _ _ _ _ _ (map_above m e table c.args.s (c.args.s - 1) k k c.args.row.now c.args.under.now _ canonical some c.requires.here c.requires.under at) r canonical (omega (arith, c.requires.row, some)) (omega (arith, c.requires.within, some))
    (covers_at m e table c.args.s (suc (c.args.s - 1)) k c.args.below.now canonical some c.requires.below) c.squares_in_stems_are_steps.ensures _ p) in
    cover_above c.rows_in_stems_are_whole.ensures c.kernels_in_stems_are_to_cover.ensures m e c.args.s k c.args.row.now content _ made.kernel r c.requires.row c.requires.within c.requires.here square at refl cols)
    c.step_over_free.ensures.step c.step_over_free.ensures.cols
