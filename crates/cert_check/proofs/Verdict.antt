-- What the first fault, or that there is none, says of a table.
use Rattle.std.proofs.Common.{◌≡◌, ◌↔◌, ℕ, ◌+◌, ◌≤◌, ℤ, length, None, refl, sym, ap, subst, ◌∙◌, arith}
use Rattle.std.specs.Prelude.{Result, Ok, Err, IsOk, IfErr, OnOk}
use Rattle.std.specs.List.{slice_get}
use Rattle.std.proofs.lemmas.Bool.{false≢true}
use Rattle.std.proofs.lemmas.List.{length-take}
use Rattle.std.proofs.lemmas.Option.{none-some}
use Rattle.bidegree.specs.declared.range.Range.{Range}
use Rattle.finite_module.specs.Graded.{ModulesAreSteenrodModules}
use Rattle.finite_module.specs.ModuleLaws.{width-below}
use Rattle.free_module.specs.Graded.{IsSteenrodModule}
use Rattle.resolution_laws.specs.Resolution.{row_of}
use Rattle.resolution_laws.specs.Exactness.{IsBoundedBelow, IsMinimalResolution, CanonicalTableIsMinimalResolution}
use Rattle.resolution_existence.specs.Existence.{CanonicalTableExists}
use Rattle.certificate_laws.specs.Certificates.{MinimalTableIsMinimalResolution, MinimalTableHasCanonicalCounts}
use Rattle.square.specs.Squares.{over}
use Rattle.square.specs.Tables.{Staircase, row_in, plain_rows, IsTable}
use Rattle.square.proofs.Places.{slice_get-there, length-row_of}
use Rattle.cert_check.specs.Certified.{part_of, Certifies, IsFirstFault, HasCanonicalCounts, CanonicalTableLacksQuasisAlone}
use Rattle.cert_check.specs.declared.fault.CertFault.{CertFault}
use Rattle.cert_check.specs.declared.fault.CertFault.TheVariants.{Missing, NoQuasi, Inexact, NotMinimal}
use Rattle.cert_check.proofs.Part.{row_of-part}
use Rattle.cert_check.proofs.Faults.{one_first, none_first, certified_is_minimal_table}

module _ {A : Type 0} (table : Staircase) (range : Range) where
  same_error : (r : Result A CertFault) (f g : CertFault) → r ≡ Err f → r ≡ Err g → f ≡ g
  same_error r f g d e = cc

  no_error : (r : Result A CertFault) (x : A) (f : CertFault) → r ≡ Ok x → r ≡ Err f → ⊥
  no_error r x f d e = cc

  pub ok_decides : (r : Result A CertFault) → OnOk r (Certifies table range) → IfErr r (λ f. IsFirstFault table range f) → IsOk r ↔ Certifies table range
  ok_decides (Ok x) p q = (λ h. p, λ h. refl)
  ok_decides (Err f) p q = (λ h. absurd (false≢true h), λ h. absurd (none_first table range h f q))

  pub fault_decides : (r : Result A CertFault) → OnOk r (Certifies table range) → IfErr r (λ f. IsFirstFault table range f) → (f : CertFault) → (r ≡ Err f) ↔ IsFirstFault table range f
  fault_decides (Ok x) p q f = (λ h. absurd (no_error (Ok x) x f refl h), λ h. absurd (none_first table range p f h))
  fault_decides (Err g) p q f = (λ h. subst (IsFirstFault table range) (same_error (Err g) g f refl h) q, λ h. ap (λ (e : CertFault). Err e) (one_first table range g f q h))

  pub then : {P Q : Type 0} (r : Result A CertFault) → (P → Q) → OnOk r P → OnOk r Q
  then (Ok x) h p = h p
  then (Err f) h p = tt

-- ---- a certified range

module _ (table : Staircase) (range : Range) (modules : ModulesAreSteenrodModules) where
  steenrod : IsSteenrodModule (over table.resolved).graded
  steenrod = modules table.resolved.plain table.resolved.is_module

  bounded : IsBoundedBelow (over table.resolved)
  bounded t l = width-below table.resolved.plain.generators table.resolved.by_degree t l

module _ (table : Staircase) (range : Range) (modules : ModulesAreSteenrodModules) (known : IsTable table) where
  pub certified_is_resolution : MinimalTableIsMinimalResolution → Certifies table range → IsMinimalResolution (over table.resolved) range.s range.t (part_of table range)
  certified_is_resolution law all = law (over table.resolved) range.s range.t (part_of table range) (steenrod table range modules) (bounded table range modules) (certified_is_minimal_table table range known all)

  pub certified_has_counts : MinimalTableHasCanonicalCounts → CanonicalTableExists → Certifies table range → HasCanonicalCounts table range
  certified_has_counts law exists all =
      let canonical = exists (over table.resolved) range.s range.t (steenrod table range modules).widths in
      record {
        canonical = canonical.0;
        is_canonical = canonical.1;
        counts = law (over table.resolved) range.s range.t (part_of table range) canonical.0 (steenrod table range modules) (bounded table range modules) (certified_is_minimal_table table range known all) canonical.1;
      }

-- ---- a canonical table

-- a square of the range is there
there : (table : Staircase) (range : Range) (s k : ℕ) → s ≤ range.s → k ≤ range.t → length (row_of (part_of table range) s) ≡ range.t + 1 → slice_get (row_in table.rows s) k ≡ None → ⊥
there table range s k h l long none =
    let cut = ap length (row_of-part table range s h) ∙ length-take (range.t + 1) (row_of (plain_rows table.rows) s) in
    let whole = length-row_of table.rows s in
    let square = slice_get-there (row_in table.rows s) k (omega arith) in
    none-some square.0 (sym none ∙ square.1)

pub lacks_quasis_alone : ModulesAreSteenrodModules → CanonicalTableIsMinimalResolution → CanonicalTableLacksQuasisAlone
lacks_quasis_alone modules law table range fault canonical first = by_fault fault first
  where
    resolution : IsMinimalResolution (over table.resolved) range.s range.t (part_of table range)
    resolution = law (over table.resolved) range.s range.t (part_of table range) (steenrod table range modules) (bounded table range modules) canonical

    by_fault : (f : CertFault) → IsFirstFault table range f → (s : ℕ) × (t : ℤ) × (f ≡ NoQuasi s t)
    by_fault (Missing s t) h = absurd (there table range s h.above h.row h.within (resolution.is_table.squares s h.row) h.is_fault)
    by_fault (NoQuasi s t) h = (s, t, refl)
    by_fault (Inexact s t) h = absurd (h.is_fault.fails (resolution.exact s h.above h.row h.within))
    by_fault (NotMinimal s t) h = absurd (h.is_fault.fails (resolution.needed s h.above h.row h.within))
