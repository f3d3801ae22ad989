-- The rows that a table and a square's inputs lend, and the target of d_s over them.
use Rattle.std.proofs.Common.{◌≡◌, ℕ, zero, suc, ◌+◌, ◌<◌, ◌≤◌, ℤ, Bool, List, [], ◌∷◌, length, take, Option, Some, None, option_map, refl, sym, ◌∙◌, ap, arith, inl, inr}
use Rattle.std.specs.List.{slice_get}
use Rattle.std.proofs.lemmas.Bool.{cases_lt}
use Rattle.std.proofs.lemmas.List.{take_all, length-map}
use Rattle.bidegree.specs.declared.range.TheConstants.{MAX_S, MAX_T}
use Rattle.free_module.specs.Graded.{free_graded}
use Rattle.finite_module.specs.Graded.{module_graded}
use Rattle.finite_module.specs.Checked.{Checked}
use Rattle.resolution_laws.specs.Resolution.{Content, square_in, row_of, degrees_from, images_of, target_over}
use Rattle.square.specs.Squares.{Placed, content_of, over, bottom_of}
use Rattle.square.specs.Tables.{Staircase, Footing, contents, row_in, plain_rows, under_row, IsTable, IsFooting}
use Rattle.square.proofs.Places.{length-row_of, slice_get-there, square_in-contents}
use Rattle.square.proofs.Found.{row_within}

-- ---- rows of a table

-- a row has squares through the greatest degree at most
pub row_short : (table : Staircase) → IsTable table → (s : ℕ) → length (row_in table.rows s) ≤ MAX_T + 1
row_short table h s =
    elim (cases_lt (MAX_T + 1) (length (row_in table.rows s))) [
      | inl l ↦
          let there = slice_get-there (row_in table.rows s) (MAX_T + 1) l in
          let within = (h.placed s (MAX_T + 1) there.0 there.1).within in
          absurd (omega arith)
      | inr l ↦ l
    ]

take_none : (n : ℕ) (squares : List Content) → length squares ≡ 0 → take n squares ≡ []
take_none zero squares e = refl
take_none (suc n) [] e = refl
take_none (suc n) (c ∷ squares) e = absurd (omega arith)

-- the limits of a table
pub record IsSmall (s k : ℕ) : Type 0 where
  pub row : s ≤ MAX_S
  pub degree : k ≤ MAX_T

pub square_small : (table : Staircase) → IsTable table → (s k : ℕ) → k < length (row_in table.rows s) → IsSmall s k
square_small table h s k l =
    let within = row_within table.rows s k l in
    let short = row_short table h s in
    let rows = h.rows in
    record { row = omega arith; degree = omega arith }

-- and there is no row above the greatest
pub no_row : (table : Staircase) → IsTable table → (s n : ℕ) → MAX_S < s → take n (row_of (plain_rows table.rows) s) ≡ []
no_row table h s n above =
    let len = length-row_of table.rows s in
    let all = h.rows in
    elim (cases_lt 0 (length (row_in table.rows s))) [
      | inl l ↦ let within = row_within table.rows s 0 l in absurd (omega arith)
      | inr l ↦ take_none n (row_of (plain_rows table.rows) s) (omega arith)
    ]

-- ---- rows of inputs

pub gens_given : (f now : Footing) → IsFooting f → f ≡ now → (b : ℤ) (n : ℕ) (gens : List ℤ) → b ≡ bottom_of f.resolved → n ≡ f.above → gens ≡ degrees_from b (take n f.squares) → gens ≡ degrees_from (bottom_of now.resolved) now.squares
gens_given f now h same b n gens low count e =
    let len = h.length_is in
    e ∙ ap (λ x. degrees_from x (take n f.squares)) low ∙ ap (degrees_from (bottom_of f.resolved)) (take_all n f.squares (omega arith)) ∙ ap (λ (x : Footing). degrees_from (bottom_of x.resolved) x.squares) same

pub images_given : (f now : Footing) → IsFooting f → f ≡ now → (n : ℕ) (images : List (List Bool)) → n ≡ f.above → images ≡ images_of (take n f.squares) → images ≡ images_of now.squares
images_given f now h same n images count e =
    let len = h.length_is in
    e ∙ ap images_of (take_all n f.squares (omega arith)) ∙ ap (λ (x : Footing). images_of x.squares) same

-- the row below, as it is held
pub record HasRow (f : Footing) (squares : List Placed) : Type 0 where
  pub below : f.below ≡ Some (contents squares)
  pub count : length squares ≡ f.above + 1

pub row_held_below : (f : Footing) → IsFooting f → (squares : List Placed) → under_row f.s (contents squares) ≡ f.below → 0 < f.s → HasRow f squares
row_held_below f h squares e l = in_row f.s refl
  where
    in_row : (s : ℕ) → s ≡ f.s → HasRow f squares
    in_row zero z = absurd (omega arith)
    in_row (suc i) z =
        let p = h.has_below i z in
        let here : f.below ≡ Some (contents squares) = sym e ∙ ap (λ n. under_row n (contents squares)) (sym z) in
        let both : Some p.0 ≡ Some (contents squares) = sym p.1 ∙ here in
        let same : p.0 ≡ contents squares = cc in
        record { below = here; count = sym (length-map squares content_of) ∙ ap length (sym same) ∙ p.2 }

-- the target over it, and over the module
pub row_target : (f now : Footing) → IsFooting f → f ≡ now → (squares : List Placed) (b : ℤ) (n : ℕ) (gens : List ℤ) → under_row f.s (contents squares) ≡ f.below → 0 < f.s → b ≡ bottom_of f.resolved → n ≡ f.above + 1 → gens ≡ degrees_from b (take n (contents squares)) → free_graded gens ≡ target_over (over now.resolved) now.below
row_target f now h same squares b n gens under l low count e =
    let r = row_held_below f h squares under l in
    let m = over f.resolved in
    let len = length-map squares content_of in
    let all = r.count in
    let are : gens ≡ degrees_from m.bottom (contents squares) = e ∙ ap (λ x. degrees_from x (take n (contents squares))) low ∙ ap (degrees_from m.bottom) (take_all n (contents squares) (omega arith)) in
    ap free_graded are ∙ ap (λ (x : Option (List Content)). target_over m x) (sym r.below) ∙ ap (λ (x : Footing). target_over (over x.resolved) x.below) same

pub module_target : (f now : Footing) → IsFooting f → f ≡ now → f.s ≡ 0 → (m : Checked) → m ≡ f.resolved → module_graded m.plain ≡ target_over (over now.resolved) now.below
module_target f now h same e m is =
    ap (λ (x : Checked). module_graded x.plain) is ∙ ap (λ (x : Option (List Content)). target_over (over f.resolved) x) (sym (h.has_none e)) ∙ ap (λ (x : Footing). target_over (over x.resolved) x.below) same

-- the square below, and its kernel
abbrev pub content_below : Footing → Option Content
content_below f = option_map (λ below. square_in below f.above) f.below

abbrev pub below_kernel : Footing → Option (List (List Bool))
below_kernel f = option_map (λ below. (square_in below f.above).kernel) f.below

content_there : (f : Footing) → IsFooting f → (squares : List Placed) (o : Option Placed) → under_row f.s (contents squares) ≡ f.below → 0 < f.s → o ≡ slice_get squares f.above → option_map content_of o ≡ content_below f
content_there f h squares o under l e =
    let r = row_held_below f h squares under l in
    let len = r.count in
    let there = slice_get-there squares f.above (omega arith) in
    let is : content_of there.0 ≡ square_in (contents squares) f.above = sym (square_in-contents squares f.above there.0 there.1) in
    ap (option_map content_of) (e ∙ there.1) ∙ ap (λ (c : Content). Some c) is ∙ ap (option_map (λ below. square_in below f.above)) (sym r.below)

pub square_there : (f now : Footing) → IsFooting f → f ≡ now → (squares : List Placed) (o : Option Placed) → under_row f.s (contents squares) ≡ f.below → 0 < f.s → o ≡ slice_get squares f.above → option_map content_of o ≡ content_below now
square_there f now h same squares o under l e = content_there f h squares o under l e ∙ ap content_below same

pub no_square_below : (f now : Footing) → IsFooting f → f ≡ now → f.s ≡ 0 → None ≡ content_below now
no_square_below f now h same e = ap (option_map (λ below. square_in below f.above)) (sym (h.has_none e)) ∙ ap content_below same
