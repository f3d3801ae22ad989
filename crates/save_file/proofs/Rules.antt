-- The rules of a body's shape, as facts and as tests, and the reading of bodies.
use Rattle.std.proofs.Common.{◌≡◌, ◌⊎◌, ℕ, zero, suc, ◌+◌, ◌-◌, ◌^◌, ◌<◌, true, false, Bool, ◌&&◌, if◌then◌else◌, List, [], ◌∷◌, ◌++◌, length, Option, Some, None, IfSome, IsSome, Result, Ok, Err, refl, sym, ◌∙◌, ap, subst, arith, inl, inr}
use Rattle.std.specs.Prelude.{nat_eq, nat_le, is_some, is_none, unwrap_or, slice_index}
use Rattle.std.specs.Str.{bytes_eq}
use Rattle.std.proofs.lemmas.Bool.{cases_eq, cond-true, and_parts, and_from, leb-true, le-leb, eqb-true, eq-eqb, false≢true}
use Rattle.std.proofs.lemmas.Option.{cond_some, same_Some, none-some}
use Rattle.std.proofs.lemmas.List.{length-map, map-append}
use Rattle.square.specs.Squares.{width_with}
use Rattle.std.proofs.lemmas.Slice.Eq.{bytes_eq-Decides}
use Rattle.bidegree.specs.declared.range.TheConstants.{MAX_S, MAX_T}
use Rattle.f2_vec.specs.Spans.{HaveWidth}
use Rattle.resolution_laws.specs.Resolution.{Module, Content, no_content}
use Rattle.resolution_laws.specs.Start.{Entry, entry_at}
use Rattle.resolution_laws.proofs.StartLaws.{IsElsewhere, entry_at-other, entry_at-new, squares_below-same}
use Rattle.f2_matrix.specs.Parts.{AreReductionParts}
use Rattle.f2_matrix.specs.Echelon.{IsReduced, HasNoZeroRow}
use Rattle.f2_matrix.specs.Reduction.{Reduction}
use Rattle.f2_kernel.specs.Tests.{is_row_basis, are_parts}
use Rattle.f2_kernel.proofs.Tested.{parts_tested}
use Rattle.save_file.specs.declared.outline.TheConstants.{QUASI}
use Rattle.save_file.specs.Bodies.{Preimages, Body, kind_of, body_bytes, body_of, Kept, entries, kept_in, is_at, kept_at, given_quasi, with_quasi_at, Addition, addition_bytes, IsNextPlace, HasRules, HasAdditionRules, target_dim, source_dim, matrix_with}
use Rattle.save_file.specs.Reading.{body_at, matrix_at, matrix_len, has_before, has_below, is_next_place, has_parts, has_rules, addition_at, fits_square, has_addition_rules, square_in, addition_in, with_square_read, with_addition_read, after_body, and_then_kept, kept_from, kept_of_bodies, squares_alone, squares_of}
use Rattle.save_file.specs.Saved.{IsClosed}
use Rattle.save_file.specs.Laws.{FitNumbers, AdditionFits, IsReading, IsReadingQuasi}
use Rattle.f2_kernel.proofs.Basis.{basis_tested, basis_passes}
use Rattle.save_file.specs.Bodies.{content_in}
use Rattle.save_file.proofs.Bodies.{PairFits, FitsBytes, body_again, wide_at, wide_pair, body_of_kept, FitsAddition, addition_again, wide_addition}

-- ---- the next place

none_tested : {A : Type 0} (o : Option A) → is_none o ≡ true → o ≡ None
none_tested None e = refl
none_tested (Some x) e = absurd (false≢true e)

before_tested : (list : List Entry) (s k : ℕ) → has_before list s k ≡ true → (j : ℕ) → suc j ≡ k → IsSome (entry_at list s j)
before_tested list s zero e j n = absurd (omega arith)
before_tested list s (suc k) e j n = let same : j ≡ k = omega arith in subst (λ x. IsSome (entry_at list s x)) (sym same) e

below_tested : (list : List Entry) (s k : ℕ) → has_below list s k ≡ true → (i : ℕ) → suc i ≡ s → IsSome (entry_at list i k)
below_tested list zero k e i n = absurd (omega arith)
below_tested list (suc s) k e i n = let same : i ≡ s = omega arith in subst (λ x. IsSome (entry_at list x k)) (sym same) e

before_passes : (list : List Entry) (s k : ℕ) → ((j : ℕ) → suc j ≡ k → IsSome (entry_at list s j)) → has_before list s k ≡ true
before_passes list s zero h = refl
before_passes list s (suc k) h = h k refl

below_passes : (list : List Entry) (s k : ℕ) → ((i : ℕ) → suc i ≡ s → IsSome (entry_at list i k)) → has_below list s k ≡ true
below_passes list zero k h = refl
below_passes list (suc s) k h = h s refl

place_tested : (list : List Entry) (s k : ℕ) → is_next_place list s k ≡ true → IsNextPlace list s k
place_tested list s k e =
    let a = and_parts (is_none (entry_at list s k) && has_before list s k) (has_below list s k) e in
    let b = and_parts (is_none (entry_at list s k)) (has_before list s k) a.0 in
    record { absent = none_tested (entry_at list s k) b.0; before = before_tested list s k b.1; below = below_tested list s k a.1 }

place_passes : (list : List Entry) (s k : ℕ) → IsNextPlace list s k → is_next_place list s k ≡ true
place_passes list s k h =
    and_from (is_none (entry_at list s k) && has_before list s k) (has_below list s k)
    (and_from (is_none (entry_at list s k)) (has_before list s k) (ap is_none h.absent) (before_passes list s k h.before)) (below_passes list s k h.below)

-- ---- the parts of a reduction

-- the widths of image rows and preimages
abbrev pub AreWide : Body → Type 0
AreWide b = IfSome b.quasi (λ p. HaveWidth b.images.cols p.image × HaveWidth b.kernel.cols p.chosen)

abbrev pub HasPartsRule : Module → List Entry → Body → Option Preimages → Type 0
HasPartsRule m list b o = IfSome o (λ p. AreReductionParts b.images.cols (matrix_with m list b.s b.above b.images.rows) p.image p.chosen b.kernel.rows)

module _ (m : Module) (list : List Entry) (b : Body) (tall : length (matrix_with m list b.s b.above b.images.rows) ≡ b.kernel.cols) (kernel_wide : HaveWidth b.kernel.cols b.kernel.rows) (reduced : IsReduced b.kernel.rows) (nonzero : HasNoZeroRow b.kernel.rows) where
  parts_rule : (o : Option Preimages) → IfSome o (λ p. HaveWidth b.images.cols p.image × HaveWidth b.kernel.cols p.chosen) → has_parts m list b o ≡ true → HasPartsRule m list b o
  parts_rule None wide e = tt
  parts_rule (Some p) wide e = (parts_tested b.images.cols (matrix_with m list b.s b.above b.images.rows) p.image p.chosen b.kernel.rows wide.0 (subst (λ n. HaveWidth n p.chosen) (sym tall) wide.1) (subst (λ n. HaveWidth n b.kernel.rows) (sym tall) kernel_wide) reduced nonzero).0 e

  parts_pass : (o : Option Preimages) → HasPartsRule m list b o → has_parts m list b o ≡ true
  parts_pass None h = refl
  parts_pass (Some p) h = (parts_tested b.images.cols (matrix_with m list b.s b.above b.images.rows) p.image p.chosen b.kernel.rows h.image_widths h.preimages.widths h.kernel_widths reduced nonzero).1 h

-- the matrix of d_s has a row for each coordinate of F_s
pub length-matrix_with : (m : Module) (list : List Entry) (s k : ℕ) (images : List (List Bool)) → length (matrix_with m list s k images) ≡ source_dim m list s k (length images)
length-matrix_with m list s k images = length-map _ _

-- ---- all rules

pub rules_tested : (m : Module) (list : List Entry) (b : Body) → HaveWidth b.images.cols b.images.rows → HaveWidth b.kernel.cols b.kernel.rows → AreWide b → has_rules m list b ≡ true → HasRules m list b
rules_tested m list b wide wide' pair e =
    let w = target_dim m list b.s b.above in
    let v = source_dim m list b.s b.above (length b.images.rows) in
    let limits = nat_le b.s MAX_S && nat_le b.above MAX_T in
    let images = nat_eq b.images.cols w && nat_le (length b.images.rows) b.images.cols in
    let kernel = nat_eq b.kernel.cols v && nat_le (length b.kernel.rows) b.kernel.cols in
    let place = is_next_place list b.s b.above in
    let p0 = and_parts (((limits && place) && (images && kernel)) && is_row_basis b.kernel.rows) (has_parts m list b b.quasi) e in
    let p1 = and_parts ((limits && place) && (images && kernel)) (is_row_basis b.kernel.rows) p0.0 in
    let p2 = and_parts (limits && place) (images && kernel) p1.0 in
    let p3 = and_parts limits place p2.0 in
    let p4 = and_parts (nat_le b.s MAX_S) (nat_le b.above MAX_T) p3.0 in
    let p5 = and_parts images kernel p2.1 in
    let p6 = and_parts (nat_eq b.images.cols w) (nat_le (length b.images.rows) b.images.cols) p5.0 in
    let p7 = and_parts (nat_eq b.kernel.cols v) (nat_le (length b.kernel.rows) b.kernel.cols) p5.1 in
    let form = basis_tested b.kernel.rows p1.1 in
    let source : b.kernel.cols ≡ v = eqb-true b.kernel.cols v p7.0 in
    record {
      parts = parts_rule m list b (length-matrix_with m list b.s b.above b.images.rows ∙ sym source) wide' form.0 form.1 b.quasi pair p0.1;
      row = leb-true b.s MAX_S p4.0;
      degree = leb-true b.above MAX_T p4.1;
      place = place_tested list b.s b.above p3.1;
      target = eqb-true b.images.cols w p6.0;
      images_few = leb-true (length b.images.rows) b.images.cols p6.1;
      source = source;
      kernel_few = leb-true (length b.kernel.rows) b.kernel.cols p7.1;
      image_widths = wide;
      kernel_widths = wide';
      reduced = form.0;
      nonzero = form.1;
    }

pub rules_pass : (m : Module) (list : List Entry) (b : Body) → HasRules m list b → has_rules m list b ≡ true
rules_pass m list b h =
    let w = target_dim m list b.s b.above in
    let v = source_dim m list b.s b.above (length b.images.rows) in
    let limits = nat_le b.s MAX_S && nat_le b.above MAX_T in
    let images = nat_eq b.images.cols w && nat_le (length b.images.rows) b.images.cols in
    let kernel = nat_eq b.kernel.cols v && nat_le (length b.kernel.rows) b.kernel.cols in
    let place = is_next_place list b.s b.above in
    let p4 = and_from (nat_le b.s MAX_S) (nat_le b.above MAX_T) (le-leb b.s MAX_S h.row) (le-leb b.above MAX_T h.degree) in
    let p6 = and_from (nat_eq b.images.cols w) (nat_le (length b.images.rows) b.images.cols) (eq-eqb b.images.cols w h.target) (le-leb (length b.images.rows) b.images.cols h.images_few) in
    let p7 = and_from (nat_eq b.kernel.cols v) (nat_le (length b.kernel.rows) b.kernel.cols) (eq-eqb b.kernel.cols v h.source) (le-leb (length b.kernel.rows) b.kernel.cols h.kernel_few) in
    and_from (((limits && place) && (images && kernel)) && is_row_basis b.kernel.rows) (has_parts m list b b.quasi)
    (and_from ((limits && place) && (images && kernel)) (is_row_basis b.kernel.rows)
    (and_from (limits && place) (images && kernel) (and_from limits place p4 (place_passes list b.s b.above h.place)) (and_from images kernel p6 p7))
    (basis_passes b.kernel.rows h.reduced h.nonzero))
    (parts_pass m list b (length-matrix_with m list b.s b.above b.images.rows ∙ sym h.source) h.kernel_widths h.reduced h.nonzero b.quasi h.parts)

-- ---- reading

pair_fits : (w v : ℕ) (rows kernel : List (List Bool)) (tall : length rows ≡ v) (o : Option Preimages) → IfSome o (λ p. AreReductionParts w rows p.image p.chosen kernel) → IfSome o (λ p. length p.image < 2 ^ 64) → PairFits w v o
pair_fits w v rows kernel tall None h few = tt
pair_fits w v rows kernel tall (Some p) h few = record { few = few; as_many = h.preimages.as_many; image_wide = h.image_widths; chosen_wide = subst (λ n. HaveWidth n p.chosen) tall h.preimages.widths }

pub fits_bytes : (m : Module) (list : List Entry) (b : Body) → HasRules m list b → FitNumbers b → FitsBytes b
fits_bytes m list b h fits =
    let row = h.row in
    let degree = h.degree in
    let images = h.images_few in
    let kernel = h.kernel_few in
    record {
      s = omega arith;
      above = omega arith;
      images_few = omega arith;
      images_narrow = fits.target;
      kernel_few = omega arith;
      kernel_narrow = fits.source;
      images_wide = h.image_widths;
      kernel_wide = h.kernel_widths;
      quasi = pair_fits b.images.cols b.kernel.cols (matrix_with m list b.s b.above b.images.rows) b.kernel.rows (length-matrix_with m list b.s b.above b.images.rows ∙ sym h.source) b.quasi h.parts fits.image;
    }

-- what is read: the body of what stands at the places of the bytes
pub record IsReadAt (m : Module) (list : List Entry) (bytes : List ℕ) (e : Kept) : Type 0 where
  pub is_body : bytes ≡ body_bytes (body_at bytes)
  pub rules : HasRules m list (body_at bytes)
  pub square : e ≡ kept_in (body_at bytes)

pub read_at : (m : Module) (list : List Entry) (bytes : List ℕ) (e : Kept) → square_in m list bytes ≡ Some e → IsReadAt m list bytes e
unfolding square_in
read_at m list bytes e found =
    let b = body_at bytes in
    let tests = cond_some (bytes_eq bytes (body_bytes b) && has_rules m list b) (kept_in b) e found in
    let both = and_parts (bytes_eq bytes (body_bytes b)) (has_rules m list b) tests.0 in
    record {
      is_body = (bytes_eq-Decides bytes (body_bytes b)).0 both.0;
      rules = rules_tested m list b (wide_at 5 bytes) (wide_at (5 + matrix_len (matrix_at 5 bytes)) bytes) (wide_pair bytes) both.1;
      square = sym tests.1;
    }

pub what_is_read : (m : Module) (list : List Entry) (bytes : List ℕ) (e : Kept) → square_in m list bytes ≡ Some e → IsReading m list bytes e
what_is_read m list bytes e found =
    let r = read_at m list bytes e found in
    record { body = body_at bytes; bytes_are = r.is_body; rules = r.rules; square = r.square }

-- nothing is read where these cannot be
pub nothing_read : (m : Module) (list : List Entry) (bytes : List ℕ) → (bytes ≡ body_bytes (body_at bytes) → HasRules m list (body_at bytes) → ⊥) → square_in m list bytes ≡ None
nothing_read m list bytes h = from (square_in m list bytes) refl
  where
    from : (o : Option Kept) → square_in m list bytes ≡ o → o ≡ None
    from None e = refl
    from (Some x) e = let r = read_at m list bytes x e in absurd (h r.is_body r.rules)

pub each_is_read : (m : Module) (list : List Entry) (b : Body) → HasRules m list b → FitNumbers b → square_in m list (body_bytes b) ≡ Some (kept_in b)
unfolding square_in
each_is_read m list b h fits =
    let again = body_again b (fits_bytes m list b h fits) in
    let bytes = body_bytes b in
    let same : bytes_eq bytes (body_bytes (body_at bytes)) ≡ true = (bytes_eq-Decides bytes (body_bytes (body_at bytes))).1 (ap body_bytes (sym again)) in
    let rules : has_rules m list (body_at bytes) ≡ true = ap (has_rules m list) again ∙ rules_pass m list b h in
    let both = and_from (bytes_eq bytes (body_bytes (body_at bytes))) (has_rules m list (body_at bytes)) same rules in
    cond-true (bytes_eq bytes (body_bytes (body_at bytes)) && has_rules m list (body_at bytes)) (Some (kept_in (body_at bytes))) None both ∙ ap (λ (x : Body). Some (kept_in x)) again

-- ---- a square has one body

pub one_body : (m : Module) (list : List Entry) (xs ys : List ℕ) (e : Kept) → square_in m list xs ≡ Some e → square_in m list ys ≡ Some e → xs ≡ ys
one_body m list xs ys e p q =
    let r = read_at m list xs e p in
    let t = read_at m list ys e q in
    let a = body_at xs in
    let b = body_at ys in
    let same : kept_in a ≡ kept_in b = sym r.square ∙ t.square in
    let w : a.images.cols ≡ b.images.cols = r.rules.target ∙ ap (λ (x : Kept). target_dim m list x.entry.s x.entry.above) same ∙ sym t.rules.target in
    let v : a.kernel.cols ≡ b.kernel.cols = r.rules.source ∙ ap (λ (x : Kept). source_dim m list x.entry.s x.entry.above (length x.entry.content.images)) same ∙ sym t.rules.source in
    let bodies : body_of a.images.cols a.kernel.cols (kept_in a) ≡ body_of b.images.cols b.kernel.cols (kept_in b) =
    ap (body_of a.images.cols a.kernel.cols) same ∙ ap (λ n. body_of n a.kernel.cols (kept_in b)) w ∙ ap (λ n. body_of b.images.cols n (kept_in b)) v in
    r.is_body ∙ ap body_bytes (sym (body_of_kept a) ∙ bodies ∙ body_of_kept b) ∙ sym t.is_body

abbrev pub kept_ok : List Kept → Result (List Kept) ℕ
kept_ok kept = Ok kept

abbrev kept_err : ℕ → Result (List Kept) ℕ
kept_err number = Err number

pub same_kept : (xs ys : List Kept) → kept_ok xs ≡ kept_ok ys → xs ≡ ys
same_kept xs ys e = cc

pub not_kept_ok : (number : ℕ) (kept : List Kept) → kept_err number ≡ kept_ok kept → ⊥
not_kept_ok number kept e = cc

abbrev pub ok : List Entry → Result (List Entry) ℕ
ok list = Ok list

abbrev err : ℕ → Result (List Entry) ℕ
err number = Err number

pub same_Ok : (xs ys : List Entry) → ok xs ≡ ok ys → xs ≡ ys
same_Ok xs ys e = cc

pub not_Ok : (number : ℕ) (list : List Entry) → err number ≡ ok list → ⊥
not_Ok number list e = cc

-- ---- lists of squares that stand behind those that they stand on

-- an entry more
kept_there : (list : List Entry) (e : Entry) (s k : ℕ) → entry_at list e.s e.above ≡ None → IsSome (entry_at list s k) → IsSome (entry_at (list ++ e ∷ []) s k)
kept_there list e s k absent there =
    let off : IsElsewhere e s k = λ p q. let none : entry_at list s k ≡ None = ap (λ n. entry_at list n k) (sym p) ∙ ap (entry_at list e.s) (sym q) ∙ absent in false≢true (ap is_some (sym none) ∙ there) in
    subst IsSome (sym (entry_at-other list e s k off)) there

-- an entry stands at a place or elsewhere
at_or_elsewhere : (e : Entry) (s k : ℕ) → ((e.s ≡ s) × (e.above ≡ k)) ⊎ IsElsewhere e s k
at_or_elsewhere e s k = elim (cases_eq e.s s) [
  | inr d ↦ inr (λ p q. d p)
  | inl p ↦ elim (cases_eq e.above k) [
    | inr d ↦ inr (λ _ q. d q)
    | inl q ↦ inl (p, q)
  ]
]

closed_more : (list : List Entry) (e : Entry) → IsNextPlace list e.s e.above → IsClosed list → IsClosed (list ++ e ∷ [])
closed_more list e next h = record {
  before = λ s k there. elim (at_or_elsewhere e s (suc k)) [
    | inl p ↦ kept_there list e s k next.absent (subst (λ n. IsSome (entry_at list n k)) p.0 (next.before k (sym p.1)))
    | inr off ↦ kept_there list e s k next.absent (h.before s k (subst IsSome (entry_at-other list e s (suc k) off) there))
  ];
  below = λ s k there. elim (at_or_elsewhere e (suc s) k) [
    | inl p ↦ kept_there list e s k next.absent (subst (λ n. IsSome (entry_at list s n)) p.1 (next.below s (sym p.0)))
    | inr off ↦ kept_there list e s k next.absent (h.below s k (subst IsSome (entry_at-other list e (suc s) k off) there))
  ];
}

-- with a square the list has those of its row before it
pub down_to : (list : List Entry) → IsClosed list → (s j d : ℕ) → IsSome (entry_at list s (d + j)) → IsSome (entry_at list s j)
down_to list closed s j zero there = let e : 0 + j ≡ j = omega arith in subst (λ n. IsSome (entry_at list s n)) e there
down_to list closed s j (suc d) there =
    let e : suc d + j ≡ suc (d + j) = omega arith in
    down_to list closed s j d (closed.before s (d + j) (subst (λ n. IsSome (entry_at list s n)) e there))

-- ---- the kernel rows of the squares of a list

-- Kernel rows at (s, k) are as long as F_s has dimensions there, and in reduced echelon form without a zero row.
pub record HasBasis (m : Module) (list : List Entry) (s k : ℕ) (c : Content) : Type 0 where
  pub widths : HaveWidth (source_dim m list s k (length c.images)) c.kernel
  pub reduced : IsReduced c.kernel
  pub nonzero : HasNoZeroRow c.kernel

abbrev pub HaveBases : Module → List Entry → Type 0
HaveBases m list = (s k : ℕ) (c : Content) → entry_at list s k ≡ Some c → HasBasis m list s k c

-- a square behind those of a list changes no dimensions at the places of these, nor at its own
dim_stays : (m : Module) (list : List Entry) (e : Entry) (s k n : ℕ) → entry_at list e.s e.above ≡ None → ((j : ℕ) → j < k → IsSome (entry_at list s j)) → source_dim m list s k n ≡ source_dim m (list ++ e ∷ []) s k n
dim_stays m list e s k n absent there =
    let off : (j : ℕ) → j < k → IsElsewhere e s j = λ j l p q.
    let none : entry_at list s j ≡ None = ap (λ i. entry_at list i j) (sym p) ∙ ap (entry_at list e.s) (sym q) ∙ absent in
    false≢true (ap is_some (sym none) ∙ there j l) in
    ap (λ squares. width_with m squares n) (squares_below-same (content_in list) (content_in (list ++ e ∷ [])) s k (λ j l. ap (λ o. unwrap_or o no_content) (sym (entry_at-other list e s j (off j l)))))

basis_stays : (m : Module) (list : List Entry) (e : Entry) (s k : ℕ) (c : Content) → entry_at list e.s e.above ≡ None → ((j : ℕ) → j < k → IsSome (entry_at list s j)) → HasBasis m list s k c → HasBasis m (list ++ e ∷ []) s k c
basis_stays m list e s k c absent there h = record { widths = subst (λ n. HaveWidth n c.kernel) (dim_stays m list e s k (length c.images) absent there) h.widths; reduced = h.reduced; nonzero = h.nonzero }

before_of : (list : List Entry) (s k : ℕ) → IsClosed list → IsSome (entry_at list s k) → (j : ℕ) → j < k → IsSome (entry_at list s j)
before_of list s k closed there j l =
    let d = k - j in
    let top : k ≡ d + j = omega arith in
    down_to list closed s j d (subst (λ n. IsSome (entry_at list s n)) top there)

before_next : (list : List Entry) (s k : ℕ) → IsClosed list → IsNextPlace list s k → (j : ℕ) → j < k → IsSome (entry_at list s j)
before_next list s k closed next j l =
    let d = k - suc j in
    let top : suc (d + j) ≡ k = omega arith in
    down_to list closed s j d (next.before (d + j) top)

bases_more : (m : Module) (list : List Entry) (e : Entry) → IsClosed list → IsNextPlace list e.s e.above → HaveBases m list → HasBasis m list e.s e.above e.content → HaveBases m (list ++ e ∷ [])
bases_more m list e closed next old new s k c there = elim (at_or_elsewhere e s k) [
  | inr off ↦
      let here : entry_at list s k ≡ Some c = sym (entry_at-other list e s k off) ∙ there in
      basis_stays m list e s k c next.absent (before_of list s k closed (subst IsSome (sym here) refl)) (old s k c here)
  | inl p ↦
      let at : entry_at (list ++ e ∷ []) e.s e.above ≡ Some c = ap (λ i. entry_at (list ++ e ∷ []) i e.above) p.0 ∙ ap (entry_at (list ++ e ∷ []) s) p.1 ∙ there in
      let same : e.content ≡ c = same_Some e.content c (sym (entry_at-new list e next.absent) ∙ at) in
      let here : HasBasis m (list ++ e ∷ []) e.s e.above e.content = basis_stays m list e e.s e.above e.content next.absent (before_next list e.s e.above closed next) new in
      let P : ℕ → ℕ → Content → Type 0 = HasBasis m (list ++ e ∷ []) in
      subst (P s k) same (subst (λ i. P s i e.content) p.1 (subst (λ i. P i e.above e.content) p.0 here))
]

-- what holds of the squares of bodies that were read
pub record AreBuilt (m : Module) (list : List Entry) : Type 0 where
  pub closed : IsClosed list
  pub bases : HaveBases m list

-- a quasi-inverse adds no square
pub entry_given : (s k : ℕ) (r : Reduction) (x : Kept) → (given_quasi s k r x).entry ≡ x.entry
entry_given s k r x = by_test (is_at x.entry s k)
  where
    by_test : (b : Bool) → (if b then record { entry = x.entry; quasi = Some r } else x).entry ≡ x.entry
    by_test true = refl
    by_test false = refl

pub entries-with_quasi_at : (kept : List Kept) (s k : ℕ) (r : Reduction) → entries (with_quasi_at kept s k r) ≡ entries kept
entries-with_quasi_at [] s k r = refl
entries-with_quasi_at (x ∷ xs) s k r = ap (λ e. e ∷ entries (with_quasi_at xs s k r)) (entry_given s k r x) ∙ ap (λ l. x.entry ∷ l) (entries-with_quasi_at xs s k r)

-- what is kept after a body has one square more, or one of its squares has a quasi-inverse
pub one_more_or_quasi : (m : Module) (kept new : List Kept) (bytes : List ℕ) → after_body m kept bytes ≡ Some new → ((k : Kept) × (square_in m (entries kept) bytes ≡ Some k) × (new ≡ kept ++ k ∷ [])) ⊎ (entries new ≡ entries kept)
one_more_or_quasi m kept new bytes e = from (square_in m (entries kept) bytes) (addition_in m kept bytes) refl e
  where
    from : (o : Option Kept) (p : Option Addition) → square_in m (entries kept) bytes ≡ o → with_square_read kept o (with_addition_read kept p) ≡ Some new → ((k : Kept) × (square_in m (entries kept) bytes ≡ Some k) × (new ≡ kept ++ k ∷ [])) ⊎ (entries new ≡ entries kept)
    from (Some k) p same h = inl (k, same, sym (same_Some (kept ++ k ∷ []) new h))
    from None None same h = absurd (none-some new h)
    from None (Some a) same h =
        let is = same_Some _ new h in
        inr (ap entries (sym is) ∙ entries-with_quasi_at kept a.s a.above _)

built_after : (m : Module) (kept new : List Kept) (bytes : List ℕ) → AreBuilt m (entries kept) → after_body m kept bytes ≡ Some new → AreBuilt m (entries new)
built_after m kept new bytes h e = elim (one_more_or_quasi m kept new bytes e) [
  | inr same ↦ subst (AreBuilt m) (sym same) h
  | inl more ↦
      let k = more.0 in
      let r = read_at m (entries kept) bytes k more.1 in
      let b = body_at bytes in
      let next : IsNextPlace (entries kept) k.entry.s k.entry.above = subst (λ (y : Kept). IsNextPlace (entries kept) y.entry.s y.entry.above) (sym r.square) r.rules.place in
      let basis : HasBasis m (entries kept) b.s b.above (kept_in b).entry.content = record { widths = subst (λ n. HaveWidth n b.kernel.rows) r.rules.source r.rules.kernel_widths; reduced = r.rules.reduced; nonzero = r.rules.nonzero } in
      let here : HasBasis m (entries kept) k.entry.s k.entry.above k.entry.content = subst (λ (y : Kept). HasBasis m (entries kept) y.entry.s y.entry.above y.entry.content) (sym r.square) basis in
      let is : entries new ≡ entries kept ++ k.entry ∷ [] = ap entries more.2 ∙ map-append (λ (x : Kept). x.entry) kept (k ∷ []) in
      subst (AreBuilt m) (sym is) (record { closed = closed_more (entries kept) k.entry next h.closed; bases = bases_more m (entries kept) k.entry h.closed next h.bases here })
]

built_step : (m : Module) (kept : List Kept) (body : List ℕ) (number : ℕ) (all : List Kept) (rest : List Kept → Result (List Kept) ℕ) → AreBuilt m (entries kept) → ((new : List Kept) → AreBuilt m (entries new) → rest new ≡ kept_ok all → AreBuilt m (entries all))
    → (o : Option (List Kept)) → after_body m kept body ≡ o → and_then_kept o number rest ≡ kept_ok all → AreBuilt m (entries all)
built_step m kept body number all rest h next None same q = absurd (not_kept_ok number all q)
built_step m kept body number all rest h next (Some new) same q = next new (built_after m kept new body h same) q

built_from : (m : Module) (bodies : List (List ℕ)) (kept : List Kept) (number : ℕ) (all : List Kept) → AreBuilt m (entries kept) → kept_from m kept number bodies ≡ kept_ok all → AreBuilt m (entries all)
built_from m [] kept number all h e = subst (λ (l : List Kept). AreBuilt m (entries l)) (same_kept kept all e) h
built_from m (body ∷ bodies) kept number all h e =
    built_step m kept body number all (λ more. kept_from m more (suc number) bodies) h (λ new g q. built_from m bodies new (suc number) all g q) (after_body m kept body) refl e

none_built : (m : Module) → AreBuilt m []
none_built m = record {
  closed = record { before = λ s k there. absurd (false≢true there); below = λ s k there. absurd (false≢true there) };
  bases = λ s k c there. absurd (none-some c there);
}

pub squares_built : (m : Module) (bodies : List (List ℕ)) (kept : List Kept) → kept_of_bodies m bodies ≡ Ok kept → AreBuilt m (entries kept)
squares_built m bodies kept e = built_from m bodies [] 0 kept (none_built m) e

-- the squares of bodies that were read
kept_alone : (r : Result (List Kept) ℕ) (list : List Entry) → squares_alone r ≡ ok list → (kept : List Kept) × (r ≡ kept_ok kept) × (list ≡ entries kept)
kept_alone (Ok kept) list e = (kept, refl, sym (same_Ok (entries kept) list e))
kept_alone (Err number) list e = absurd (not_Ok number list e)

pub squares_closed : (m : Module) (bodies : List (List ℕ)) (list : List Entry) → squares_of m bodies ≡ Ok list → IsClosed list
squares_closed m bodies list e =
    let found = kept_alone (kept_of_bodies m bodies) list e in
    subst IsClosed (sym found.2) (squares_built m bodies found.0 found.1).closed

-- ---- quasi-inverses

-- a square that is kept at a place
pub kept_entry : (kept : List Kept) (s k : ℕ) (x : Kept) → kept_at kept s k ≡ Some x → entry_at (entries kept) s k ≡ Some x.entry.content
kept_entry [] s k x e = absurd (none-some x e)
kept_entry (y ∷ ys) s k x e = by_test (λ h. kept_entry ys s k x h) (is_at y.entry s k) e
  where
    by_test : (kept_at ys s k ≡ Some x → entry_at (entries ys) s k ≡ Some x.entry.content) → (b : Bool) → (if b then Some y else kept_at ys s k) ≡ Some x → (if b then Some y.entry.content else entry_at (entries ys) s k) ≡ Some x.entry.content
    by_test rest true h = ap (λ (z : Kept). Some z.entry.content) (same_Some y x h)
    by_test rest false h = rest h

module _ (m : Module) (kept : List Kept) (a : Addition) (x : Kept) where
  abbrev w_of : ℕ
  w_of = target_dim m (entries kept) a.s a.above

  abbrev v_of : ℕ
  v_of = source_dim m (entries kept) a.s a.above (length x.entry.content.images)

  abbrev matrix_of : List (List Bool)
  matrix_of = matrix_with m (entries kept) a.s a.above x.entry.content.images

  tall_of : length matrix_of ≡ v_of
  tall_of = length-matrix_with m (entries kept) a.s a.above x.entry.content.images

  -- the test of the parts, where the dimensions are those of the modules
  addition_parts : HasBasis m (entries kept) a.s a.above x.entry.content → a.height ≡ v_of → HaveWidth a.cols a.preimages.image → HaveWidth a.height a.preimages.chosen → are_parts a.cols matrix_of a.preimages.image a.preimages.chosen x.entry.content.kernel ≡ true → AreReductionParts a.cols matrix_of a.preimages.image a.preimages.chosen x.entry.content.kernel
  addition_parts basis source wide wide' e =
      (parts_tested a.cols matrix_of a.preimages.image a.preimages.chosen x.entry.content.kernel wide (subst (λ n. HaveWidth n a.preimages.chosen) (source ∙ sym tall_of) wide') (subst (λ n. HaveWidth n x.entry.content.kernel) (sym tall_of) basis.widths) basis.reduced basis.nonzero).0 e

  parts_of_addition : AreReductionParts a.cols matrix_of a.preimages.image a.preimages.chosen x.entry.content.kernel → are_parts a.cols matrix_of a.preimages.image a.preimages.chosen x.entry.content.kernel ≡ true
  parts_of_addition h = (parts_tested a.cols matrix_of a.preimages.image a.preimages.chosen x.entry.content.kernel h.image_widths h.preimages.widths h.kernel_widths h.kernel_reduced h.kernel_nonzero).1 h

pub addition_tested : (m : Module) (kept : List Kept) (a : Addition) → HaveBases m (entries kept) → HaveWidth a.cols a.preimages.image → HaveWidth a.height a.preimages.chosen → has_addition_rules m kept a ≡ true → HasAdditionRules m kept a
addition_tested m kept a bases wide wide' e =
    let p = and_parts (nat_le a.s MAX_S && nat_le a.above MAX_T) (fits_square m (entries kept) a (kept_at kept a.s a.above)) e in
    let limits = and_parts (nat_le a.s MAX_S) (nat_le a.above MAX_T) p.0 in
    from limits.0 limits.1 (kept_at kept a.s a.above) refl p.1
  where
    from : nat_le a.s MAX_S ≡ true → nat_le a.above MAX_T ≡ true → (o : Option Kept) → kept_at kept a.s a.above ≡ o → fits_square m (entries kept) a o ≡ true → HasAdditionRules m kept a
    from row degree None there fits = absurd (false≢true fits)
    from row degree (Some x) there fits =
        let w = target_dim m (entries kept) a.s a.above in
        let v = source_dim m (entries kept) a.s a.above (length x.entry.content.images) in
        let rows = matrix_with m (entries kept) a.s a.above x.entry.content.images in
        let p = and_parts (is_none x.quasi && (nat_eq a.cols w && nat_eq a.height v)) (are_parts a.cols rows a.preimages.image a.preimages.chosen x.entry.content.kernel) fits in
        let q = and_parts (is_none x.quasi) (nat_eq a.cols w && nat_eq a.height v) p.0 in
        let d = and_parts (nat_eq a.cols w) (nat_eq a.height v) q.1 in
        let source : a.height ≡ v = eqb-true a.height v d.1 in
        record {
          row = leb-true a.s MAX_S row;
          degree = leb-true a.above MAX_T degree;
          square = x;
          there = there;
          bare = none_tested x.quasi q.0;
          target = eqb-true a.cols w d.0;
          source = source;
          parts = addition_parts m kept a x (bases a.s a.above x.entry.content (kept_entry kept a.s a.above x there)) source wide wide' p.1;
        }

addition_passes : (m : Module) (kept : List Kept) (a : Addition) → HasAdditionRules m kept a → has_addition_rules m kept a ≡ true
addition_passes m kept a h =
    let x = h.square in
    let w = target_dim m (entries kept) a.s a.above in
    let v = source_dim m (entries kept) a.s a.above (length x.entry.content.images) in
    let rows = matrix_with m (entries kept) a.s a.above x.entry.content.images in
    let limits = and_from (nat_le a.s MAX_S) (nat_le a.above MAX_T) (le-leb a.s MAX_S h.row) (le-leb a.above MAX_T h.degree) in
    let dimensions = and_from (nat_eq a.cols w) (nat_eq a.height v) (eq-eqb a.cols w h.target) (eq-eqb a.height v h.source) in
    let bare = and_from (is_none x.quasi) (nat_eq a.cols w && nat_eq a.height v) (ap is_none h.bare) dimensions in
    let fits : fits_square m (entries kept) a (Some x) ≡ true = and_from (is_none x.quasi && (nat_eq a.cols w && nat_eq a.height v)) (are_parts a.cols rows a.preimages.image a.preimages.chosen x.entry.content.kernel) bare (parts_of_addition m kept a x h.parts) in
    and_from (nat_le a.s MAX_S && nat_le a.above MAX_T) (fits_square m (entries kept) a (kept_at kept a.s a.above)) limits (ap (fits_square m (entries kept) a) h.there ∙ fits)

-- what is read of a quasi-inverse's bytes
pub record IsAddedAt (m : Module) (kept : List Kept) (bytes : List ℕ) (a : Addition) : Type 0 where
  pub is_body : bytes ≡ addition_bytes (addition_at bytes)
  pub rules : has_addition_rules m kept (addition_at bytes) ≡ true
  pub addition : addition_at bytes ≡ a

pub added_at : (m : Module) (kept : List Kept) (bytes : List ℕ) (a : Addition) → addition_in m kept bytes ≡ Some a → IsAddedAt m kept bytes a
unfolding addition_in
added_at m kept bytes a found =
    let b = addition_at bytes in
    let tests = cond_some (bytes_eq bytes (addition_bytes b) && has_addition_rules m kept b) b a found in
    let both = and_parts (bytes_eq bytes (addition_bytes b)) (has_addition_rules m kept b) tests.0 in
    record { is_body = (bytes_eq-Decides bytes (addition_bytes b)).0 both.0; rules = both.1; addition = tests.1 }

pub what_is_added : (m : Module) (kept : List Kept) (bytes : List ℕ) (a : Addition) → HaveBases m (entries kept) → addition_in m kept bytes ≡ Some a → IsReadingQuasi m kept bytes a
what_is_added m kept bytes a bases found =
    let r = added_at m kept bytes a found in
    let wide = wide_addition bytes in
    subst (IsReadingQuasi m kept bytes) r.addition (record { bytes_are = r.is_body; rules = addition_tested m kept (addition_at bytes) bases wide.0 wide.1 r.rules })

-- nothing is read where these cannot be
pub nothing_added : (m : Module) (kept : List Kept) (bytes : List ℕ) → (bytes ≡ addition_bytes (addition_at bytes) → has_addition_rules m kept (addition_at bytes) ≡ true → ⊥) → addition_in m kept bytes ≡ None
nothing_added m kept bytes h = from (addition_in m kept bytes) refl
  where
    from : (o : Option Addition) → addition_in m kept bytes ≡ o → o ≡ None
    from None e = refl
    from (Some x) e = let r = added_at m kept bytes x e in absurd (h r.is_body r.rules)

fits_addition : (m : Module) (kept : List Kept) (a : Addition) → HasAdditionRules m kept a → AdditionFits a → FitsAddition a
fits_addition m kept a h fits =
    let row = h.row in
    let degree = h.degree in
    record {
      s = omega arith;
      above = omega arith;
      cols_narrow = fits.target;
      height_narrow = fits.source;
      pair = record {
        few = fits.image;
        as_many = h.parts.preimages.as_many;
        image_wide = h.parts.image_widths;
        chosen_wide = subst (λ n. HaveWidth n a.preimages.chosen) (tall_of m kept a h.square ∙ sym h.source) h.parts.preimages.widths;
      };
    }

pub each_is_added : (m : Module) (kept : List Kept) (a : Addition) → HasAdditionRules m kept a → AdditionFits a → addition_in m kept (addition_bytes a) ≡ Some a
unfolding addition_in
each_is_added m kept a h fits =
    let again = addition_again a (fits_addition m kept a h fits) in
    let bytes = addition_bytes a in
    let same : bytes_eq bytes (addition_bytes (addition_at bytes)) ≡ true = (bytes_eq-Decides bytes (addition_bytes (addition_at bytes))).1 (ap addition_bytes (sym again)) in
    let rules : has_addition_rules m kept (addition_at bytes) ≡ true = ap (has_addition_rules m kept) again ∙ addition_passes m kept a h in
    let both = and_from (bytes_eq bytes (addition_bytes (addition_at bytes))) (has_addition_rules m kept (addition_at bytes)) same rules in
    cond-true (bytes_eq bytes (addition_bytes (addition_at bytes)) && has_addition_rules m kept (addition_at bytes)) (Some (addition_at bytes)) None both ∙ ap (λ (x : Addition). Some x) again

-- a quasi-inverse has one body
pub one_addition : (m : Module) (kept : List Kept) (xs ys : List ℕ) (a : Addition) → addition_in m kept xs ≡ Some a → addition_in m kept ys ≡ Some a → xs ≡ ys
one_addition m kept xs ys a p q =
    let r = added_at m kept xs a p in
    let t = added_at m kept ys a q in
    r.is_body ∙ ap addition_bytes (r.addition ∙ sym t.addition) ∙ sym t.is_body

-- no kind of a square is that of a quasi-inverse
kinds_differ : (o : Option Preimages) → kind_of o ≡ QUASI → ⊥
kinds_differ None e = absurd (omega arith)
kinds_differ (Some p) e = absurd (omega arith)

pub kinds_apart : (m : Module) (list : List Entry) (kept : List Kept) (bytes : List ℕ) (k : Kept) → square_in m list bytes ≡ Some k → addition_in m kept bytes ≡ None
kinds_apart m list kept bytes k e =
    let r = read_at m list bytes k e in
    nothing_added m kept bytes (λ is_body rules. kinds_differ (body_at bytes).quasi (sym (ap (λ (x : List ℕ). slice_index x 0) r.is_body) ∙ ap (λ (x : List ℕ). slice_index x 0) is_body))

-- bytes that are read as a quasi-inverse are no square
pub read_as_addition : (m : Module) (kept : List Kept) (body : List ℕ) (a : Addition) → addition_in m kept body ≡ Some a → after_body m kept body ≡ with_addition_read kept (Some a)
read_as_addition m kept body a e = from (square_in m (entries kept) body) refl ∙ ap (with_addition_read kept) e
  where
    from : (o : Option Kept) → square_in m (entries kept) body ≡ o → with_square_read kept (square_in m (entries kept) body) (with_addition_read kept (addition_in m kept body)) ≡ with_addition_read kept (addition_in m kept body)
    from None same = ap (λ o. with_square_read kept o (with_addition_read kept (addition_in m kept body))) same
    from (Some k) same = absurd (none-some a (sym (kinds_apart m (entries kept) kept body k same) ∙ e))
