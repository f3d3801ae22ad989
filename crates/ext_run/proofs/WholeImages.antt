-- Images of a whole rectangle stand for the module's canonical resolution through it.
use Rattle.std.proofs.Common.{◌≡◌, ◌≤◌, List, true, false, sym, subst}
use Rattle.std.specs.Prelude.{◌==◌, IfOk, Result, Ok, Err}
use Rattle.std.specs.List.{list_all}
use Rattle.bidegree.specs.declared.class.Class.{Class}
use Rattle.bidegree.specs.declared.range.Range.{Range}
use Rattle.bidegree.specs.declared.shape.Shape.{Shape}
use Rattle.bidegree.specs.declared.range.TheConstants.{MAX_S, MAX_T}
use Rattle.finite_module.specs.Checked.{Checked}
use Rattle.square.specs.Squares.{over}
use Rattle.square.specs.Tables.{plain_rows, cut}
use Rattle.resolution_images.specs.BareRows.{BareTable, AreOfCanonical}
use Rattle.chain_map.specs.Sources.{canonical_table, AreWhole}
use Rattle.chain_map.proofs.Canonical.{part-canonical}
use Rattle.ext_run.specs.Forms.{IsResolved}
use Rattle.ext_run.specs.Inside.Images.{AreOfResolution, AreForProducts}
use Rattle.ext_run.proofs.AnswerExists.{TableLaws, below_all}

pub resolved_whole : TableLaws → (images : BareTable) → AreWhole images → IsResolved images.range images.resolved.plain (cut images.range (plain_rows (canonical_table images.resolved images.range).rows))
resolved_whole laws images w =
    let m = images.resolved in
    let canonical = part-canonical images w in
    record {
      canonical = canonical;
      minimal = laws.minimal (over m) images.range.s images.range.t (cut images.range (plain_rows (canonical_table m images.range).rows)) (laws.modules m.plain m.is_module) (below_all m.plain.generators m.by_degree.ordered) canonical;
    }

-- images that were made through a range
pub whole_made : (images : BareTable) (m : Checked) (range : Range) → images.resolved ≡ m → images.range ≡ range → AreOfCanonical (over m) range.s range.t images.rows → range.s ≤ MAX_S → range.t ≤ MAX_T → AreWhole images
whole_made images m range same through are row degree =
    let P : Range → Type 0 = λ r. r.s ≤ MAX_S in
    let Q : Range → Type 0 = λ r. r.t ≤ MAX_T in
    let R : Range → Type 0 = λ r. AreOfCanonical (over images.resolved) r.s r.t images.rows in
    let here = subst (λ (m : Checked). AreOfCanonical (over m) range.s range.t images.rows) (sym same) are in
    record { row = subst P (sym through) row; degree = subst Q (sym through) degree; are = subst R (sym through) here }

-- ---- images that products are made from

module _ (shape : Shape) (range : Range) (by : List Class) (m : Checked) where
  -- those of the squares of the shape
  pub read_off : {E : Type 0} → list_all (λ class. class.s == 1) by ≡ true → (made : Result BareTable E) → IfOk made (AreOfResolution shape range m) → IfOk made (AreForProducts shape range by m)
  read_off all (Ok images) of = record { resolved = of.resolved; read_off = λ e. of; through = λ e. absurd (cc); whole = λ e. absurd (cc) }
  read_off all (Err fault) of = tt

  -- those of the whole rectangle
  pub lifted : {E : Type 0} → list_all (λ class. class.s == 1) by ≡ false → range.s ≤ MAX_S → range.t ≤ MAX_T → (made : Result BareTable E) → IfOk made (λ images. images.resolved ≡ m) → IfOk made (λ images. images.range ≡ range) →
      IfOk made (λ images. AreOfCanonical (over m) range.s range.t images.rows) → IfOk made (AreForProducts shape range by m)
  lifted some row degree (Ok images) same through are = record { resolved = same; read_off = λ e. absurd (cc); through = λ e. through; whole = λ e. whole_made images m range same through are row degree }
  lifted some row degree (Err fault) same through are = tt

  pub of_themselves : (images : BareTable) → AreForProducts shape range by m images → AreForProducts shape range by images.resolved images
  of_themselves images h = subst (λ (m : Checked). AreForProducts shape range by m images) (sym h.resolved) h
