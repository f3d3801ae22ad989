-- What is found at a place of a footing.
use Rattle.std.proofs.Common.{◌≡◌, ℕ, suc, ℤ, pos, ◌-ℤ◌, false, nat_eq, if◌then◌else◌, List, Option, Some, None, IfSome, option_and_then, option_map, refl, sym, ◌∙◌, ap, arith, inl, inr}
use Rattle.std.specs.List.{slice_get}
use Rattle.std.proofs.lemmas.Int.{ints}
use Rattle.std.proofs.lemmas.Bool.{eq-eqb}
use Rattle.std.proofs.lemmas.Bool.Decides.{eqb_tells}
use Rattle.std.proofs.lemmas.Option.{slice_get-map}
use Rattle.bidegree.specs.Above.{above_of}
use Rattle.bidegree.proofs.Degrees.{natural-is}
use Rattle.finite_module.specs.Checked.{Checked}
use Rattle.resolution_laws.specs.Resolution.{Content}
use Rattle.square.specs.Squares.{Placed, content_of, bottom_of}
use Rattle.square.specs.Tables.{Footing, contents, IsPlacedAt, AreOfRow, content_in, footing_at, under_row}

-- what a row has at the place of a degree stands there
pub placed_there : {X : Type 0} (o : Option X) (f : X → Placed) (resolved resolved' : Checked) (i i' k : ℕ) (t b u : ℤ) (at : Option ℕ) (row : List Placed) → option_map f o ≡ slice_get row k → AreOfRow resolved' i' row → resolved' ≡ resolved → i' ≡ i → at ≡ above_of b u → at ≡ Some k → b ≡ bottom_of resolved → u ≡ t → IfSome o (λ x. IsPlacedAt resolved i t (f x))
placed_there None f resolved resolved' i i' k t b u at row seen are e1 e2 e3 e4 e5 e6 = tt
placed_there (Some x) f resolved resolved' i i' k t b u at row seen are e1 e2 e3 e4 e5 e6 =
    let d : u -ℤ b ≡ pos k = natural-is (u -ℤ b) k (sym e3 ∙ e4) in
    let is = are k (f x) (sym seen) in
    let above = is.above_is in
    record { resolved_is = is.resolved_is ∙ e1; s_is = is.s_is ∙ e2; degree = omega (arith, ints) }

pub twice : {X : Type 0} (o : Option X) (f : X → Placed) → option_map (λ a. content_of (f a)) o ≡ option_map content_of (option_map f o)
twice None f = refl
twice (Some x) f = refl

-- the content of what a row has at a place
pub seen_content : {X : Type 0} (o : Option X) (f : X → Placed) (row : List Placed) (k : ℕ) → option_map f o ≡ slice_get row k → option_map (λ a. content_of (f a)) o ≡ slice_get (contents row) k
seen_content o f row k e = twice o f ∙ ap (option_map content_of) e ∙ sym (slice_get-map content_of row k)

at_place : (f : Footing) (i k : ℕ) (t b u : ℤ) (o : Option ℕ) → o ≡ above_of b u → o ≡ Some k → b ≡ bottom_of f.resolved → u ≡ t → footing_at f i t ≡ content_in f i k
at_place f i k t b u o e1 e2 e3 e4 =
    let found : above_of (bottom_of f.resolved) t ≡ Some k = sym (e1 ∙ ap (λ x. above_of x u) e3 ∙ ap (above_of (bottom_of f.resolved)) e4) ∙ e2 in
    ap (λ (x : Option ℕ). option_and_then (λ k. content_in f i k) x) found

pub at_row : (f : Footing) (i k : ℕ) (t b u : ℤ) (o : Option ℕ) (row : List Placed) → o ≡ above_of b u → o ≡ Some k → b ≡ bottom_of f.resolved → u ≡ t → i ≡ f.s → contents row ≡ f.squares → footing_at f i t ≡ slice_get (contents row) k
at_row f i k t b u o row e1 e2 e3 e4 same squares =
    at_place f i k t b u o e1 e2 e3 e4
    ∙ ap (λ x. if x then slice_get f.squares k else (if nat_eq (suc i) f.s then option_and_then (λ below. slice_get below k) f.below else None)) (eq-eqb i f.s same)
    ∙ ap (λ (x : List Content). slice_get x k) (sym squares)

pub at_below : (f : Footing) (i k : ℕ) (t b u : ℤ) (o : Option ℕ) (row : List Placed) → o ≡ above_of b u → o ≡ Some k → b ≡ bottom_of f.resolved → u ≡ t → suc i ≡ f.s → under_row f.s (contents row) ≡ f.below → footing_at f i t ≡ slice_get (contents row) k
at_below f i k t b u o row e1 e2 e3 e4 same below =
    let other : nat_eq i f.s ≡ false = elim (eqb_tells i f.s) [ inl p ↦ absurd (let q = p.1 in omega arith) | inr p ↦ p.0 ] in
    let there : f.below ≡ Some (contents row) = sym below ∙ ap (λ n. under_row n (contents row)) (sym same) in
    at_place f i k t b u o e1 e2 e3 e4
    ∙ ap (λ x. if x then slice_get f.squares k else (if nat_eq (suc i) f.s then option_and_then (λ below. slice_get below k) f.below else None)) other
    ∙ ap (λ x. if x then option_and_then (λ (below : List Content). slice_get below k) f.below else None) (eq-eqb (suc i) f.s same)
    ∙ ap (λ (x : Option (List Content)). option_and_then (λ below. slice_get below k) x) there
