-- Tables with the same squares certify the same ranges, or fail to at the same square.
use Rattle.std.proofs.Common.{◌≡◌, ℕ, pos, ◌+ℤ◌, List, Option, Some, None, refl, sym, ap, subst, ◌∙◌}
use Rattle.std.specs.Prelude.{slice_get}
use Rattle.std.specs.Option.{option_map}
use Rattle.bidegree.specs.declared.range.Range.{Range}
use Rattle.f2_matrix.specs.Reduction.{Reduction}
use Rattle.resolution_laws.specs.Resolution.{Module, Content}
use Rattle.resolution_laws.specs.Exactness.{IsExactAt, AreNeededAt}
use Rattle.certificate_laws.specs.Certificates.{IsReductionAt, CoversAt, HasNoGeneratorTerm}
use Rattle.finite_module.specs.Module.{Module as SteenrodModule, bottom}
use Rattle.square.specs.Squares.{Placed, module_over, over, bottom_of}
use Rattle.square.specs.Tables.{Staircase, row_in, plain_rows, cut}
use Rattle.cert_check.specs.Certified.{part_of, IsQuasiOf, IsCertified, Certifies, AreCertifiedBefore, IsFaultAt, IsFirstFault, row_of_fault}
use Rattle.cert_check.specs.declared.fault.CertFault.{CertFault}
use Rattle.cert_check.specs.declared.fault.CertFault.TheVariants.{Missing, NoQuasi, Inexact, NotMinimal}

-- of one module, with the same contents, and the same quasi-inverses at the same places
pub record AreAlike (a b : Staircase) : Type 0 where
  pub plain : a.resolved.plain ≡ b.resolved.plain
  pub contents : plain_rows a.rows ≡ plain_rows b.rows
  pub held : (s k : ℕ) → option_map (λ (q : Placed). q.content) (slice_get (row_in a.rows s) k) ≡ option_map (λ (q : Placed). q.content) (slice_get (row_in b.rows s) k)
  pub kept : (s k : ℕ) → option_map (λ (q : Placed). q.quasi) (slice_get (row_in a.rows s) k) ≡ option_map (λ (q : Placed). q.quasi) (slice_get (row_in b.rows s) k)

-- a square like this one
record IsLike (q x : Placed) : Type 0 where
  content : x.content ≡ q.content
  quasi : x.quasi ≡ q.quasi

found : (o p : Option Placed) (q : Placed) → o ≡ Some q → option_map (λ (q : Placed). q.content) o ≡ option_map (λ (q : Placed). q.content) p → option_map (λ (q : Placed). q.quasi) o ≡ option_map (λ (q : Placed). q.quasi) p → (x : Placed) × (p ≡ Some x) × IsLike q x
found None p q is e f = absurd (cc)
found (Some y) None q is e f = absurd (cc)
found (Some y) (Some x) q is e f =
    let same : y ≡ q = cc in
    let content : y.content ≡ x.content = cc in
    let quasi : y.quasi ≡ x.quasi = cc in
    (x, refl, record { content = sym content ∙ ap (λ (z : Placed). z.content) same; quasi = sym quasi ∙ ap (λ (z : Placed). z.quasi) same })

absent : (o p : Option Placed) → o ≡ None → option_map (λ (q : Placed). q.content) o ≡ option_map (λ (q : Placed). q.content) p → p ≡ None
absent o None is e = refl
absent None (Some x) is e = absurd (cc)
absent (Some y) (Some x) is e = absurd (cc)

module _ (a b : Staircase) (alike : AreAlike a b) (range : Range) where
  there : (s k : ℕ) (q : Placed) → slice_get (row_in a.rows s) k ≡ Some q → (x : Placed) × (slice_get (row_in b.rows s) k ≡ Some x) × IsLike q x
  there s k q is = found (slice_get (row_in a.rows s) k) (slice_get (row_in b.rows s) k) q is (alike.held s k) (alike.kept s k)

  moved : (P : Module → List (List Content) → Type 0) → P (over a.resolved) (part_of a range) → P (over b.resolved) (part_of b range)
  moved P p =
      let m : over a.resolved ≡ over b.resolved = ap module_over alike.plain in
      let part : part_of a range ≡ part_of b range = ap (cut range) alike.contents in
      subst (P (over b.resolved)) part (subst (λ (x : Module). P x (part_of a range)) m p)

  back : (P : Module → List (List Content) → Type 0) → P (over b.resolved) (part_of b range) → P (over a.resolved) (part_of a range)
  back P p =
      let m : over b.resolved ≡ over a.resolved = ap module_over (sym alike.plain) in
      let part : part_of b range ≡ part_of a range = ap (cut range) (sym alike.contents) in
      subst (P (over a.resolved)) part (subst (λ (x : Module). P x (part_of b range)) m p)

  same_bottom : (k : ℕ) → bottom_of a.resolved +ℤ pos k ≡ bottom_of b.resolved +ℤ pos k
  same_bottom k = ap (λ (p : SteenrodModule). bottom p.generators +ℤ pos k) alike.plain

  quasi_alike : (s k : ℕ) (r : Reduction) → IsQuasiOf a range s k r → IsQuasiOf b range s k r
  quasi_alike s k r q =
      let x = there s k q.square q.there in
      record {
        square = x.0;
        there = x.1;
        kept = x.2.quasi ∙ q.kept;
        is_reduction = moved (λ m part. IsReductionAt m part s k r) q.is_reduction;
        kernel = q.kernel ∙ sym (ap (λ (c : Content). c.kernel) x.2.content);
      }

  certified_alike : (s k : ℕ) → IsCertified a range s k → IsCertified b range s k
  certified_alike s k c = record {
    reduction = c.reduction;
    quasi = quasi_alike s k c.reduction c.quasi;
    covers = moved (λ m part. CoversAt m part s k c.reduction) c.covers;
    clear = moved (λ m part. HasNoGeneratorTerm m part s k) c.clear;
  }

  pub certifies_alike : Certifies a range → Certifies b range
  certifies_alike all s k h l = certified_alike s k (all s k h l)

  before_alike : (s k : ℕ) → AreCertifiedBefore a range s k → AreCertifiedBefore b range s k
  before_alike s k before = record { rows = λ i j h l. certified_alike i j (before.rows i j h l); row = λ j l. certified_alike s j (before.row j l) }

  exact_back : (s k : ℕ) → IsExactAt (over b.resolved) (part_of b range) s (bottom_of b.resolved +ℤ pos k) → IsExactAt (over a.resolved) (part_of a range) s (bottom_of a.resolved +ℤ pos k)
  exact_back s k e = back (λ m part. IsExactAt m part s (bottom_of a.resolved +ℤ pos k)) (subst (IsExactAt (over b.resolved) (part_of b range) s) (sym (same_bottom k)) e)

  exact_alike : (s k : ℕ) → IsExactAt (over a.resolved) (part_of a range) s (bottom_of a.resolved +ℤ pos k) → IsExactAt (over b.resolved) (part_of b range) s (bottom_of b.resolved +ℤ pos k)
  exact_alike s k e = subst (IsExactAt (over b.resolved) (part_of b range) s) (same_bottom k) (moved (λ m part. IsExactAt m part s (bottom_of a.resolved +ℤ pos k)) e)

  fault_alike : (k : ℕ) (f : CertFault) → IsFaultAt a range k f → IsFaultAt b range k f
  fault_alike k (Missing s t) p = absent (slice_get (row_in a.rows s) k) (slice_get (row_in b.rows s) k) p (alike.held s k)
  fault_alike k (NoQuasi s t) p = let x = there s k p.square p.there in record { square = x.0; there = x.1; none = x.2.quasi ∙ p.none }
  fault_alike k (Inexact s t) p = record { reduction = p.reduction; quasi = quasi_alike s k p.reduction p.quasi; fails = λ e. p.fails (exact_back s k e) }
  fault_alike k (NotMinimal s t) p = record {
    reduction = p.reduction;
    quasi = quasi_alike s k p.reduction p.quasi;
    exact = exact_alike s k p.exact;
    fails = λ n. p.fails (back (λ m part. AreNeededAt m part s k) n);
  }

  pub first_alike : (f : CertFault) → IsFirstFault a range f → IsFirstFault b range f
  first_alike f p = record {
    above = p.above;
    degree = p.degree ∙ same_bottom p.above;
    row = p.row;
    within = p.within;
    before = before_alike (row_of_fault f) p.above p.before;
    is_fault = fault_alike p.above f p.is_fault;
  }
