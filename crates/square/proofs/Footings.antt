-- What is made from a footing is a square.
use Rattle.std.proofs.Common.{◌≡◌, ◌↔◌, true, false, ℕ, zero, suc, ◌≤◌, ℤ, pos, ◌+ℤ◌, nat_eq, if◌then◌else◌, List, [], length, Option, Some, None, MatchOption, IfSome, IsSome, refl, sym, ◌∙◌, ap, subst, arith, inl, inr}
use Rattle.std.proofs.lemmas.Bool.Decides.{eqb_tells}
use Rattle.std.proofs.lemmas.List.{take_all, length-map}
use Rattle.f2_matrix.specs.Echelon.{IsKernelBasis}
use Rattle.f2_matrix.specs.Reduction.{Reduction}
use Rattle.f2_matrix.proofs.Parts.{kernel_is_kernel_basis}
use Rattle.f2_matrix.proofs.Unique.{kernel_basis_unique}
use Rattle.free_module.specs.FreeModule.{free_basis}
use Rattle.finite_module.specs.Checked.{Checked}
use Rattle.resolution_laws.specs.Resolution.{Module, Content, square_in, IsStep}
use Rattle.resolution_laws.specs.Start.{Entry, entry_at, HasShape, squares_below, row_below, IsOf, is_of, AreBefore}
use Rattle.resolution_laws.proofs.StartLaws.{squares_below-take}
use Rattle.square.specs.Squares.{Placed, degrees_with, target_width, square_matrix, IsQuasi, IsMeasured, over, bottom_of}
use Rattle.square.specs.Tables.{Footing, IsFooting}

below_list : Option (List Content) → List Content
below_list None = []
below_list (Some below) = below

-- the contents of a footing at their places
abbrev given : Footing → ℕ → ℕ → Content
given f i j = if nat_eq i f.s then square_in f.squares j else square_in (below_list f.below) j

given_before : (f : Footing) (j : ℕ) → given f f.s j ≡ square_in f.squares j
given_before f j =
    elim (eqb_tells f.s f.s) [
      | inl p ↦ ap (λ b. if b then square_in f.squares j else square_in (below_list f.below) j) p.0
      | inr p ↦ absurd (p.1 refl)
    ]

given_below : (f : Footing) (i j : ℕ) → suc i ≡ f.s → given f i j ≡ square_in (below_list f.below) j
given_below f i j e =
    elim (eqb_tells i f.s) [
      | inl p ↦ absurd (let q = p.1 in omega arith)
      | inr p ↦ ap (λ b. if b then square_in f.squares j else square_in (below_list f.below) j) p.0
    ]

-- a footing as a function of places
pub record IsFounded (f : Footing) : Type 0 where
  pub at : ℕ → ℕ → Content
  pub under : AreBefore (over f.resolved) f.start f.s f.above at
  pub before : squares_below at f.s f.above ≡ f.squares
  pub below : row_below at f.s f.above ≡ f.below

pub footing_founded : (f : Footing) → IsFooting f → IsFounded f
unfolding below_list
footing_founded f h = record {
  at = given f;
  under = record { before = λ j l. subst (IsOf (over f.resolved) f.start f.s j) (sym (given_before f j)) (h.before_are j l); below = below_of };
  before = squares_below-take (given f) f.s f.above f.squares (let e = h.length_is in omega arith) (λ j l. given_before f j) ∙ take_all f.above f.squares (let e = h.length_is in omega arith);
  below = rows f.s refl;
}
  where
    below_of : (i j : ℕ) → suc i ≡ f.s → j ≤ f.above → IsOf (over f.resolved) f.start i j (given f i j)
    below_of i j e l =
        let m = over f.resolved in
        let b = h.has_below i e in
        let P : Option (List Content) → Type 0 = λ x. IfSome x (λ below. IsOf m f.start i j (square_in below j)) in
        let there = subst P b.1 (h.below_are i j e l) in
        subst (IsOf m f.start i j) (sym (given_below f i j e ∙ ap (λ x. square_in (below_list x) j) b.1)) there

    rows : (s : ℕ) → s ≡ f.s → row_below (given f) s f.above ≡ f.below
    rows zero e = sym (h.has_none (sym e))
    rows (suc i) e =
        let b = h.has_below i e in
        let len = b.2 in
        let all : squares_below (given f) i (suc f.above) ≡ b.0 =
        squares_below-take (given f) i (suc f.above) b.0 (omega arith) (λ j l. given_below f i j e ∙ ap (λ x. square_in (below_list x) j) b.1) ∙ take_all (suc f.above) b.0 (omega arith) in
        ap (λ (x : List Content). Some x) all ∙ sym b.1

-- the kernel of a step is that of the reduction of its matrix
pub kernel_of_reduction : (m : Module) (below : Option (List Content)) (squares : List Content) (c : Content) (r : Reduction) → IsStep m below squares c → IsQuasi m below squares c r → r.kernel ≡ c.kernel
kernel_of_reduction m below squares c r step quasi =
    let n = target_width m below squares in
    let xs = square_matrix m below squares c in
    let basis : IsKernelBasis n xs r.kernel = subst (IsKernelBasis n xs) (sym quasi.kernel) (kernel_is_kernel_basis n xs quasi.form quasi.widths quasi.is_form) in
    kernel_basis_unique n xs r.kernel c.kernel basis step.kernel

made_square : (f : Footing) (c : Content) (r : Reduction) → IsFooting f → IsStep (over f.resolved) f.below f.squares c → IsQuasi (over f.resolved) f.below f.squares c r → (t : ℤ) → t ≡ bottom_of f.resolved +ℤ pos f.above → IsMeasured (record { resolved = f.resolved; start = f.start; s = f.s; above = f.above; content = c; quasi = Some r }) t r.cols r.height
made_square f c r h step quasi t degree =
    let m = over f.resolved in
    let o = footing_founded f h in
    let P : Option (List Content) → Type 0 = λ x. IsStep m x f.squares c in
    let Q : List Content → Type 0 = λ x. IsStep m (row_below o.at f.s f.above) x c in
    let is_step : IsStep m (row_below o.at f.s f.above) (squares_below o.at f.s f.above) c = subst Q (sym o.before) (subst P (sym o.below) step) in
    let R : Option (List Content) → Type 0 = λ x. IsQuasi m x f.squares c r in
    let S : List Content → Type 0 = λ x. IsQuasi m (row_below o.at f.s f.above) x c r in
    let is_quasi : IsQuasi m (row_below o.at f.s f.above) (squares_below o.at f.s f.above) c r = subst S (sym o.before) (subst R (sym o.below) quasi) in
    let T : Option Content → Type 0 = λ found. MatchOption found (IsStep m (row_below o.at f.s f.above) (squares_below o.at f.s f.above) c) (λ read. (c ≡ read) × HasShape m (row_below o.at f.s f.above) (squares_below o.at f.s f.above) c) in
    record {
      square = record {
        is_of = is_of f.s f.above o.at c o.under.before o.under.below (subst T (sym h.absent) is_step);
        row = h.row;
        degree = h.degree;
        kept = record { at = o.at; under = o.under; quasi = is_quasi; kernel = kernel_of_reduction m f.below f.squares c r step quasi };
      };
      degree = degree;
      widths = record {
        at = o.at;
        under = o.under;
        target = is_quasi.cols;
        source = is_quasi.height ∙ length-map (free_basis (degrees_with m (squares_below o.at f.s f.above) c) (m.bottom +ℤ pos (length (squares_below o.at f.s f.above)))) _;
      };
      where_made = λ unread. refl;
    }

-- the same for the parts of a square
pub IsMeasured-made : (f : Footing) (c : Content) (r : Reduction) (resolved : Checked) (start : List Entry) (s above : ℕ) (t : ℤ) (w v : ℕ) → IsFooting f → IsStep (over f.resolved) f.below f.squares c → IsQuasi (over f.resolved) f.below f.squares c r
    → resolved ≡ f.resolved → start ≡ f.start → s ≡ f.s → above ≡ f.above → t ≡ bottom_of f.resolved +ℤ pos f.above → w ≡ r.cols → v ≡ r.height → IsMeasured (record { resolved = resolved; start = start; s = s; above = above; content = c; quasi = Some r }) t w v
IsMeasured-made f c r resolved start s above t w v h step quasi e1 e2 e3 e4 degree e5 e6 =
    let q : Placed = record { resolved = f.resolved; start = f.start; s = f.s; above = f.above; content = c; quasi = Some r } in
    let p : Placed = record { resolved = resolved; start = start; s = s; above = above; content = c; quasi = Some r } in
    let e : q ≡ p = cc in
    let P : Placed → Type 0 = λ x. IsMeasured x t r.cols r.height in
    let W : ℕ → Type 0 = λ n. IsMeasured p t n r.height in
    let V : ℕ → Type 0 = λ n. IsMeasured p t w n in
    subst V (sym e6) (subst W (sym e5) (subst P e (made_square f c r h step quasi t degree)))
