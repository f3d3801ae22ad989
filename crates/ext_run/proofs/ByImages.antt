-- The sheets that are made from images of a canonical resolution are those of the resolution.
use Rattle.std.specs.Prelude.{IfOk, Result, Ok, Err}
use Rattle.std.proofs.Common.{◌≡◌, ℕ, ◌+◌, List, length, map, sym, subst, ap, ◌∙◌, arith, inl, inr}
use Rattle.std.proofs.lemmas.List.{length-map}
use Rattle.bidegree.specs.declared.range.Range.{Range}
use Rattle.bidegree.specs.declared.shape.Shape.{Shape}
use Rattle.bidegree.specs.declared.shape.Shape.TheVariants.{Stems}
use Rattle.bidegree.specs.LastDegrees.{last_degree}
use Rattle.finite_module.specs.Checked.{Checked}
use Rattle.finite_module.specs.Graded.{ModulesAreSteenrodModules}
use Rattle.finite_module.specs.ModuleLaws.{width-below}
use Rattle.resolution_laws.specs.Resolution.{Content, IsCanonicalTable, row_of}
use Rattle.resolution_laws.specs.Exactness.{CanonicalTableIsMinimalResolution}
use Rattle.resolution_existence.specs.Existence.{CanonicalTableExists}
use Rattle.stem_laws.specs.Stems.{in_stems, IsCanonicalResolution, RowsInStemsAreWhole}
use Rattle.resolution_images.specs.BareRows.{BareTable, bare_row_in, squares_of, AreOfCanonical, AreOfStems}
use Rattle.resolution_images.proofs.Contents.{bare, row_bare, row_of-squares, contents_bare}
use Rattle.square.specs.Squares.{over}
use Rattle.ext_chart.specs.Alike.{StemsAreToldAlike}
use Rattle.ext_chart.proofs.Bare.{images_alike, stem_images_alike}
use Rattle.ext_chart.proofs.Seen.{last_within}
use Rattle.ext_run.specs.declared.plan.Sheet.{Sheet}
use Rattle.ext_run.specs.Forms.{IsResolved, IsReadOff, sheet_of}
use Rattle.ext_run.specs.Inside.Images.{AreOfResolution}
use Rattle.ext_run.proofs.Resolved.{sheet_alike}

module _ (exists : CanonicalTableExists) (minimal : CanonicalTableIsMinimalResolution) (modules : ModulesAreSteenrodModules) (range : Range) (m : Checked) where
  resolution : (table : List (List Content)) → IsCanonicalTable (over m) range.s range.t table → IsCanonicalResolution (over m) range.s range.t table
  resolution table canonical = record { steenrod = modules m.plain m.is_module; bounded = width-below m.plain.generators m.by_degree; canonical = canonical }

  resolved : (table : List (List Content)) × IsResolved range m.plain table
  resolved =
      let steenrod = modules m.plain m.is_module in
      let table = exists (over m) range.s range.t steenrod.widths in
      (table.0, record { canonical = table.1; minimal = minimal (over m) range.s range.t table.0 steenrod (width-below m.plain.generators m.by_degree) table.1 })

  of_rectangle : (shape : Shape) (images : BareTable) → images.resolved ≡ m → AreOfCanonical (over m) range.s range.t images.rows → AreOfResolution shape range m images
  of_rectangle shape images same h = record {
    resolved = same;
    are = inl h;
    through = λ s l.
        let r = resolved in
        let row = ap length (row_bare (over m) range.s range.t images.rows r.0 r.1.canonical h s l) in
        omega (arith, row, length-map (row_of r.0 s) bare, r.1.canonical.squares s l, last_within range shape s);
    alike = λ table canonical. images_alike m.plain range images.rows table canonical h (last_degree shape range);
  }

  of_stems : RowsInStemsAreWhole → StemsAreToldAlike → (n : ℕ) (images : BareTable) → images.resolved ≡ m → n + range.s ≡ range.t → AreOfStems (over m) range.s n images.rows → AreOfResolution Stems range m images
  of_stems whole alike n images same e h =
      let lines = images.rows in
      let there : (table : List (List Content)) → IsCanonicalTable (over m) range.s range.t table → IsCanonicalTable (over m) range.s (n + range.s) table =
      λ table canonical. subst (λ (t : ℕ). IsCanonicalTable (over m) range.s t table) (sym e) canonical in
      record {
        resolved = same;
        are = inr (n, e, h);
        through = λ s l.
            let r = resolved in
            let c = there r.0 r.1.canonical in
            let squares = in_stems (over m) n r.0 s in
            let row : row_of (squares_of lines) s ≡ map bare squares = row_of-squares lines s ∙ contents_bare (over m).bottom squares (bare_row_in lines s) (h.each r.0 c s l) in
            omega (arith, e, ap length row, length-map squares bare, whole (over m) range.s n r.0 c s l);
        alike = λ table canonical. stem_images_alike alike m.plain range n lines table e (resolution table canonical) h.rows (h.each table (there table canonical));
      }

  pub rectangle : {E : Type 0} (shape : Shape) (made : Result BareTable E) → IfOk made (λ images. images.resolved ≡ m) → IfOk made (λ images. AreOfCanonical (over m) range.s range.t images.rows) → IfOk made (AreOfResolution shape range m)
  rectangle shape (Ok images) same h = of_rectangle shape images same h
  rectangle shape (Err e) same h = tt

  pub stems : RowsInStemsAreWhole → StemsAreToldAlike → {E : Type 0} (n : ℕ) (made : Result BareTable E) → n + range.s ≡ range.t → IfOk made (λ images. images.resolved ≡ m) → IfOk made (λ images. AreOfStems (over m) range.s n images.rows) → IfOk made (AreOfResolution Stems range m)
  stems whole alike n (Ok images) e same h = of_stems whole alike n images same e h
  stems whole alike n (Err fault) e same h = tt

  pub is_sheet_of : (sheet : Sheet) (shape : Shape) (images : BareTable) (text : List ℕ) → AreOfResolution shape range m images → text ≡ sheet_of sheet shape range images.resolved.plain (squares_of images.rows) → IsReadOff (sheet_of sheet shape range) range m.plain text
  is_sheet_of sheet shape images text h is =
      let r = resolved in
      let rows = squares_of images.rows in
      record {
        table = r.0;
        resolved = r.1;
        is = is ∙ (ap (λ (x : Checked). sheet_of sheet shape range x.plain rows) h.resolved ∙ sheet_alike sheet shape range m.plain rows r.0 (h.alike r.0 r.1.canonical));
      }
