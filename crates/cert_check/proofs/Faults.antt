-- What a fault says, and that there is at most one that is the first.
use Rattle.std.proofs.Common.{◌≡◌, ◌↔◌, inl, inr, ℕ, zero, suc, ◌+◌, ◌-◌, ◌<◌, ◌≤◌, ℤ, pos, ◌+ℤ◌, false, List, length, Option, Some, None, IfSome, refl, sym, ap, subst, ◌∙◌, arith}
use Rattle.std.specs.List.{slice_get}
use Rattle.std.proofs.lemmas.Bool.{cases_lt}
use Rattle.std.proofs.lemmas.List.{get_or_past, get_or-take}
use Rattle.std.proofs.lemmas.Option.{slice_get_within}
use Rattle.bidegree.specs.declared.range.Range.{Range}
use Rattle.f2_vec.specs.Spans.{row}
use Rattle.f2_matrix.specs.Reduction.{Reduction}
use Rattle.free_module.specs.FreeModule.{free_basis}
use Rattle.resolution_laws.specs.Resolution.{Module, Content, no_content, square_in, row_of, below_of, candidates_over, generator_count}
use Rattle.resolution_laws.specs.Exactness.{degrees_in, IsExactAt, AreNeededAt}
use Rattle.resolution_laws.proofs.Complex.{length-differential}
use Rattle.resolution_counts.specs.Counts.{IsMinimalTable}
use Rattle.resolution_counts.proofs.Counts.{width_here}
use Rattle.certificate_laws.specs.Certificates.{HasKernelAt, CoversAt, HasNoGeneratorTerm, IsCertifiedAt}
use Rattle.certificate_laws.proofs.Decide.{decide_exactness, decide_need, reduction_has_kernel, certified_is_minimal}
use Rattle.certificate_laws.proofs.Square.{stand_last}
use Rattle.square.specs.Squares.{Placed, IsSquare, IsKeptOf, over}
use Rattle.square.specs.Tables.{Staircase, row_in, plain_rows, IsTable, IsThrough}
use Rattle.square.proofs.Places.{content_at-is}
use Rattle.cert_check.specs.Certified.{part_of, IsQuasiOf, IsCertified, Certifies, AreCertifiedBefore, IsInexactAt, IsSuperfluousAt, HasNoQuasiAt, IsFaultAt, IsFirstFault, row_of_fault, degree_of_fault}
use Rattle.cert_check.specs.declared.fault.CertFault.{CertFault}
use Rattle.cert_check.specs.declared.fault.CertFault.TheVariants.{Missing, NoQuasi, Inexact, NotMinimal}
use Rattle.cert_check.specs.Inside.Rows.{EndInZeros}
use Rattle.cert_check.proofs.Part.{below-part, within-part, square-part, reduction-part, has_squares-part}

module _ (table : Staircase) (range : Range) where
  abbrev m : Module
  m = over table.resolved

  abbrev part : List (List Content)
  part = part_of table range

  -- ---- what a quasi-inverse tells

  pub quasi_kernel : (s k : ℕ) (r : Reduction) → s ≤ range.s → k ≤ range.t → IsQuasiOf table range s k r → HasKernelAt m part s k
  quasi_kernel s k r h l q = reduction_has_kernel m part s k r q.is_reduction (q.kernel ∙ ap (λ (c : Content). c.kernel) (sym (square-part table range s k q.square h l q.there)))

  pub kernels_below : (s k : ℕ) → s ≤ range.s → k ≤ range.t → AreCertifiedBefore table range s k → (i : ℕ) → suc i ≡ s → HasKernelAt m part i k
  kernels_below s k h l before i e = let c = before.rows i k (omega arith) l in quasi_kernel i k c.reduction (omega arith) l c.quasi

  pub covers_is_exact : (s k : ℕ) (r : Reduction) → s ≤ range.s → k ≤ range.t → AreCertifiedBefore table range s k → IsQuasiOf table range s k r → CoversAt m part s k r ↔ IsExactAt m part s (m.bottom +ℤ pos k)
  covers_is_exact s k r h l before q = decide_exactness m part s k r q.is_reduction (kernels_below s k h l before)

  pub clear_is_needed : (s k : ℕ) (r : Reduction) → s ≤ range.s → k ≤ range.t → IsQuasiOf table range s k r → HasNoGeneratorTerm m part s k ↔ AreNeededAt m part s k
  clear_is_needed s k r h l q = decide_need m part s k (quasi_kernel s k r h l q)

  -- ---- the look at the last coordinates

  -- each vector of F_s in the square's degree has a coordinate for each of its generators
  few_generators : (s k : ℕ) (r : Reduction) → s ≤ range.s → k ≤ range.t → IsQuasiOf table range s k r → (i : ℕ) → i < length (square_in (row_of part s) k).kernel → generator_count part s k ≤ length (row (square_in (row_of part s) k).kernel i)
  few_generators s k r h l q i a =
      let here = within-part table range s k h l (slice_get_within (row_in table.rows s) k q.square q.there) in
      let width = width_here m.bottom (row_of part s) k here in
      let len = length-differential m part s (m.bottom +ℤ pos k) in
      let wide = (quasi_kernel s k r h l q).widths i a in
      omega arith

  -- none of them has a 1 where each ends in as many zeros
  end_decides : (s k : ℕ) (r : Reduction) → s ≤ range.s → k ≤ range.t → IsQuasiOf table range s k r → EndInZeros (generator_count part s k) (square_in (row_of part s) k).kernel ↔ HasNoGeneratorTerm m part s k
  end_decides s k r h l q =
      let here = within-part table range s k h l (slice_get_within (row_in table.rows s) k q.square q.there) in
      let basis = free_basis (degrees_in m part s) (m.bottom +ℤ pos k) in
      let kernel = (square_in (row_of part s) k).kernel in
      let kb = quasi_kernel s k r h l q in
      let len = length-differential m part s (m.bottom +ℤ pos k) in (
        λ clear i j a b bare. let last = (stand_last m part s k here j b).0 bare in let wide = kb.widths i a in clear i a j (omega arith),
        λ none i a j f. elim (cases_lt j (length basis)) [
          | inl b ↦ none i j a b ((stand_last m part s k here j b).1 (let wide = kb.widths i a in let few = few_generators s k r h l q i a in omega arith))
          | inr past ↦ get_or_past (row kernel i) j false (let wide = kb.widths i a in omega arith)
        ],
      )

  -- ---- a certified square has no fault

  none_some : (x : Option Placed) (q : Placed) → x ≡ None → x ≡ Some q → ⊥
  none_some x q e f = cc

  none_kept : (x : Option Reduction) (r : Reduction) → x ≡ None → x ≡ Some r → ⊥
  none_kept x r e f = cc

  same_square : (x : Option Placed) (p q : Placed) → x ≡ Some p → x ≡ Some q → p ≡ q
  same_square x p q e f = cc

  no_quasi : (s k : ℕ) (r : Reduction) → HasNoQuasiAt table s k → IsQuasiOf table range s k r → ⊥
  no_quasi s k r n q = none_kept n.square.quasi r n.none (ap (λ (x : Placed). x.quasi) (same_square (slice_get (row_in table.rows s) k) n.square q.square n.there q.there) ∙ q.kept)

  pub certified_is_sound : (fault : CertFault) (k : ℕ) → row_of_fault fault ≤ range.s → k ≤ range.t → AreCertifiedBefore table range (row_of_fault fault) k → IsCertified table range (row_of_fault fault) k → IsFaultAt table range k fault → ⊥
  certified_is_sound (Missing s t) k h l before c f = none_some (slice_get (row_in table.rows s) k) c.quasi.square f c.quasi.there
  certified_is_sound (NoQuasi s t) k h l before c f = no_quasi s k c.reduction f c.quasi
  certified_is_sound (Inexact s t) k h l before c f = f.fails ((covers_is_exact s k c.reduction h l before c.quasi).0 c.covers)
  certified_is_sound (NotMinimal s t) k h l before c f = f.fails ((clear_is_needed s k c.reduction h l c.quasi).0 c.clear)

  -- ---- at most one is the first

  abbrev Same : CertFault → CertFault → Type 0
  Same f g = row_of_fault f ≡ row_of_fault g → degree_of_fault f ≡ degree_of_fault g → f ≡ g

  abbrev HasFault : ℕ → ℕ → CertFault → Type 0
  HasFault s k f = (row_of_fault f ≡ s) × IsFaultAt table range k f

  missing_alone : (s k : ℕ) (q : Placed) → slice_get (row_in table.rows s) k ≡ Some q → (i : ℕ) → i ≡ s → slice_get (row_in table.rows i) k ≡ None → ⊥
  missing_alone s k q there i e none = none_some (slice_get (row_in table.rows s) k) q (subst (λ (x : ℕ). slice_get (row_in table.rows x) k ≡ None) e none) there

  unkept_alone : (s k : ℕ) (r : Reduction) → IsQuasiOf table range s k r → (i : ℕ) → i ≡ s → HasNoQuasiAt table i k → ⊥
  unkept_alone s k r q i e none = no_quasi s k r (subst (λ (x : ℕ). HasNoQuasiAt table x k) e none) q

  inexact_alone : (s k : ℕ) → IsSuperfluousAt table range s k → (i : ℕ) → i ≡ s → IsInexactAt table range i k → ⊥
  inexact_alone s k f i e g = (subst (λ (x : ℕ). IsInexactAt table range x k) e g).fails f.exact

  same_kind : (k : ℕ) (f g : CertFault) → IsFaultAt table range k f → IsFaultAt table range k g → Same f g
  same_kind k (Missing s t) (Missing i u) p q e d = ap (λ (x : ℕ). Missing x t) e ∙ ap (λ (x : ℤ). Missing i x) d
  same_kind k (NoQuasi s t) (NoQuasi i u) p q e d = ap (λ (x : ℕ). NoQuasi x t) e ∙ ap (λ (x : ℤ). NoQuasi i x) d
  same_kind k (Inexact s t) (Inexact i u) p q e d = ap (λ (x : ℕ). Inexact x t) e ∙ ap (λ (x : ℤ). Inexact i x) d
  same_kind k (NotMinimal s t) (NotMinimal i u) p q e d = ap (λ (x : ℕ). NotMinimal x t) e ∙ ap (λ (x : ℤ). NotMinimal i x) d
  same_kind k (Missing s t) (NoQuasi i u) p q e d = absurd (missing_alone i k q.square q.there s e p)
  same_kind k (Missing s t) (Inexact i u) p q e d = absurd (missing_alone i k q.quasi.square q.quasi.there s e p)
  same_kind k (Missing s t) (NotMinimal i u) p q e d = absurd (missing_alone i k q.quasi.square q.quasi.there s e p)
  same_kind k (NoQuasi s t) (Missing i u) p q e d = absurd (missing_alone s k p.square p.there i (sym e) q)
  same_kind k (Inexact s t) (Missing i u) p q e d = absurd (missing_alone s k p.quasi.square p.quasi.there i (sym e) q)
  same_kind k (NotMinimal s t) (Missing i u) p q e d = absurd (missing_alone s k p.quasi.square p.quasi.there i (sym e) q)
  same_kind k (NoQuasi s t) (Inexact i u) p q e d = absurd (unkept_alone i k q.reduction q.quasi s e p)
  same_kind k (NoQuasi s t) (NotMinimal i u) p q e d = absurd (unkept_alone i k q.reduction q.quasi s e p)
  same_kind k (Inexact s t) (NoQuasi i u) p q e d = absurd (unkept_alone s k p.reduction p.quasi i (sym e) q)
  same_kind k (NotMinimal s t) (NoQuasi i u) p q e d = absurd (unkept_alone s k p.reduction p.quasi i (sym e) q)
  same_kind k (Inexact s t) (NotMinimal i u) p q e d = absurd (inexact_alone i k q s e p)
  same_kind k (NotMinimal s t) (Inexact i u) p q e d = absurd (inexact_alone s k p i (sym e) q)

  first_certified : (f : CertFault) → (p : IsFirstFault table range f) → IsCertified table range (row_of_fault f) p.above → ⊥
  first_certified f p c = certified_is_sound f p.above p.row p.within p.before c p.is_fault

  not_later : (f g : CertFault) (p : IsFirstFault table range f) (q : IsFirstFault table range g) → row_of_fault f ≤ row_of_fault g
  not_later f g p q = elim (cases_lt (row_of_fault g) (row_of_fault f)) [ inl b ↦ absurd (first_certified g q (p.before.rows (row_of_fault g) q.above b q.within)) | inr b ↦ b ]

  no_further : (f g : CertFault) (p : IsFirstFault table range f) (q : IsFirstFault table range g) → row_of_fault f ≡ row_of_fault g → p.above ≤ q.above
  no_further f g p q e = elim (cases_lt q.above p.above) [
    | inl b ↦ absurd (first_certified g q (subst (λ (x : ℕ). IsCertified table range x q.above) e (p.before.row q.above b)))
    | inr b ↦ b
  ]

  pub one_first : (f g : CertFault) → IsFirstFault table range f → IsFirstFault table range g → f ≡ g
  one_first f g p q =
      let one = not_later f g p q in
      let two = not_later g f q p in
      let e : row_of_fault f ≡ row_of_fault g = omega arith in
      let three = no_further f g p q e in
      let four = no_further g f q p (sym e) in
      let at : p.above ≡ q.above = omega arith in
      let d : degree_of_fault f ≡ degree_of_fault g = p.degree ∙ (ap (λ (n : ℕ). m.bottom +ℤ pos n) at ∙ sym q.degree) in
      same_kind q.above f g (subst (λ (n : ℕ). IsFaultAt table range n f) at p.is_fault) q.is_fault e d

  -- and none where the range is certified
  pub none_first : Certifies table range → (f : CertFault) → IsFirstFault table range f → ⊥
  none_first all f p = first_certified f p (all (row_of_fault f) p.above p.row p.within)

  -- ---- what a certificate says

  certified_at : Certifies table range → (s k : ℕ) → s ≤ range.s → k ≤ range.t → IsCertifiedAt m part s k
  certified_at all s k h l =
      let c = all s k h l in
      record {
        reduction = c.reduction;
        is_reduction = c.quasi.is_reduction;
        kernel = c.quasi.kernel ∙ ap (λ (x : Content). x.kernel) (sym (square-part table range s k c.quasi.square h l c.quasi.there));
        covers = c.covers;
        clear = c.clear;
      }

  pub certified_is_minimal_table : IsTable table → Certifies table range → IsMinimalTable m range.s range.t part
  certified_is_minimal_table known all =
      let through : IsThrough range table.rows = λ s h. let c = all s range.t h (omega arith) in slice_get_within (row_in table.rows s) range.t c.quasi.square c.quasi.there in
      certified_is_minimal m range.s range.t part (has_squares-part table range known through) (certified_at all)

  -- ---- square by square

  pub none_before : AreCertifiedBefore table range 0 0
  none_before = record { rows = λ i j a b. absurd (omega arith); row = λ j a. absurd (omega arith) }

  pub one_more : (s k : ℕ) → AreCertifiedBefore table range s k → IsCertified table range s k → AreCertifiedBefore table range s (k + 1)
  one_more s k before here = record {
    rows = before.rows;
    row = λ j a. elim (cases_lt j k) [
      | inl b ↦ before.row j b
      | inr b ↦ let same : k ≡ j = omega arith in subst (IsCertified table range s) same here
    ];
  }

  pub row_done : (s n : ℕ) → range.t < n → AreCertifiedBefore table range s n → AreCertifiedBefore table range (s + 1) 0
  row_done s n past before = record {
    rows = λ i j a b. elim (cases_lt i s) [
      | inl c ↦ before.rows i j c b
      | inr c ↦ let same : s ≡ i = omega arith in subst (λ (x : ℕ). IsCertified table range x j) same (before.row j (omega arith))
    ];
    row = λ j a. absurd (omega arith);
  }

  pub all_done : (n : ℕ) → range.s < n → AreCertifiedBefore table range n 0 → Certifies table range
  all_done n past before s k h l = before.rows s k (omega arith) l

  -- ---- what a square that is there has kept

  pub is_quasi : IsTable table → (s k : ℕ) (q : Placed) (r : Reduction) → s ≤ range.s → k ≤ range.t → slice_get (row_in table.rows s) k ≡ Some q → IsSquare q → q.quasi ≡ Some r → IsQuasiOf table range s k r
  is_quasi known s k q r h l there square kept =
      let P : Option Reduction → Type 0 = λ o. IfSome o (IsKeptOf q) in
      let made : IsKeptOf q r = subst P kept square.kept in
      record { square = q; there = there; kept = kept; is_reduction = reduction-part table range known s k q r h l there square kept; kernel = made.kernel }

  -- the candidates over the part are those over the table
  pub candidates-part : (s k : ℕ) → s ≤ range.s → k ≤ range.t → candidates_over m (below_of part s k) k ≡ candidates_over m (below_of (plain_rows table.rows) s k) k
  candidates-part s k h l = ap (λ (x : Option (List Content)). candidates_over m x k) (below-part table range s k h l)

  -- so the look at the square's rows decides, as it shows them
  pub clear_here : (s k : ℕ) (q d : Placed) (r : Reduction) → s ≤ range.s → k ≤ range.t → slice_get (row_in table.rows s) k ≡ Some q → d ≡ q → IsQuasiOf table range s k r → EndInZeros (length d.content.images) d.content.kernel ↔ HasNoGeneratorTerm m part s k
  clear_here s k q d r h l there e x =
      let P : Content → Type 0 = λ c. EndInZeros (length c.images) c.kernel ↔ HasNoGeneratorTerm m part s k in
      let same : square_in (row_of part s) k ≡ d.content = square-part table range s k q h l there ∙ ap (λ (y : Placed). y.content) (sym e) in
      subst P same (end_decides s k r h l x)

  -- as a square shows what it has kept
  pub kept_here : IsTable table → (s k : ℕ) (q d : Placed) (r : Reduction) → s ≤ range.s → k ≤ range.t → slice_get (row_in table.rows s) k ≡ Some q → d ≡ q → IsSquare d → Some r ≡ d.quasi → IsQuasiOf table range s k r
  kept_here known s k q d r h l there e square kept = is_quasi known s k q r h l there (subst IsSquare e square) (ap (λ (x : Placed). x.quasi) (sym e) ∙ sym kept)

-- what d_s has to cover in a row above row 0 are the kernel rows of the square below
pub kernel_below : (table : Staircase) (s k : ℕ) (q : Placed) → (s ≡ 0 → ⊥) → slice_get (row_in table.rows (s - 1)) k ≡ Some q → candidates_over (over table.resolved) (below_of (plain_rows table.rows) s k) k ≡ q.content.kernel
kernel_below table zero k q some there = absurd (some refl)
kernel_below table (suc i) k q some there =
    let e : suc i - 1 ≡ i = omega arith in
    let here : slice_get (row_in table.rows i) k ≡ Some q = subst (λ (x : ℕ). slice_get (row_in table.rows x) k ≡ Some q) e there in
    ap (λ (c : Content). c.kernel) (get_or-take (suc k) (row_of (plain_rows table.rows) i) k no_content (omega arith) ∙ content_at-is table.rows i k q here)
