-- What contracts of private functions cite: where the classes of a bracket stand, lifts of b and c, and how a null homotopy of their
-- composite is made, by quasi-inverses, map by map and square by square.
use Rattle.std.specs.Prelude.{◌≡◌, ℕ, suc, ◌+◌, ◌≤◌, pos, ◌+ℤ◌, Bool, List, Option, ℤ, ◌-ℤ◌, map, take}
use Rattle.bidegree.specs.declared.range.Range.{Range}
use Rattle.bidegree.specs.declared.class.Class.{Class}
use Rattle.f2_vec.specs.Vectors.{IsZero, sum_of, zeros}
use Rattle.f2_vec.specs.Spans.{row}
use Rattle.free_module.specs.FreeModule.{free_width}
use Rattle.free_module.specs.Graded.{free_graded}
use Rattle.free_module.specs.LinearMap.{mapped}
use Rattle.square.specs.Squares.{bottom_of}
use Rattle.square.specs.Tables.{Staircase, IsTable, IsThrough}
use Rattle.lift_laws.specs.Lifts.{IsSphere, degree}
use Rattle.lift_laws.specs.Products.{degree_of_class, coefficient_of, on_square, product_by, first_of}
use Rattle.bracket_laws.specs.Brackets.{IsNullHomotopy, composed, top_of, IsBracketMember, IsIndeterminacy}
use Rattle.chain_map.specs.Lifting.{LiftValues, resolution_of, IsCanonicalIn, map_of, IsLiftOver, row_values, joined, AreChosen, target_of, next_goal, lowered_row}
use Rattle.chain_map.specs.Classes.{through, range_refusal}
use Rattle.yoneda.specs.Products.{class_above, IsPlaceIn, IsPlaceOf}
use Rattle.massey.specs.declared.fault.MasseyFault.{MasseyFault}
use Rattle.massey.specs.declared.fault.MasseyFault.TheVariants.{OutOfRange}
use Rattle.massey.specs.declared.places.Places.{Places}
use Rattle.massey.specs.Brackets.{HaveSquares, IsBracketOf}

-- how many degrees the bracket is above the bottom, and ab, and bc
abbrev pub above_of : Places → ℕ
above_of p = p.a.above + p.b.above + p.c.above

abbrev pub above_ab : Places → ℕ
above_ab p = p.a.above + p.b.above

abbrev pub above_bc : Places → ℕ
above_bc p = p.b.above + p.c.above

-- ---- places

-- the ranges of the two tables have the squares of the products and of the bracket
abbrev pub AreInside : Range → Range → Places → Type 0
AreInside range far p = HaveSquares range far (class_above p.a) (class_above p.b) (class_above p.c)

-- where the classes stand: those of the sphere within one range, and that of the module within another
pub record AreFound (table sphere : Staircase) (range far : Range) (a b c : Class) (places : Places) : Type 0 where
  pub a_is : IsPlaceOf sphere far a places.a
  pub b_is : IsPlaceOf sphere far b places.b
  pub c_is : IsPlaceOf table range c places.c

-- the least range that has ab
abbrev pub far_of : Places → Range
far_of p = record { s = p.a.s + p.b.s; t = p.a.above + p.b.above }

-- what the fault names of places
abbrev pub place_refusal : Staircase → Staircase → Range → Places → Option MasseyFault
place_refusal table sphere range p =
    range_refusal OutOfRange range (through range table) (through range sphere) p.a.s p.b.s p.c.s
    (bottom_of sphere.resolved +ℤ pos (above_ab p)) (bottom_of table.resolved +ℤ pos (above_bc p))
    (bottom_of table.resolved +ℤ pos (above_of p))

-- the bracket of the classes at these places of two tables, each through a range
abbrev pub IsBracket : Staircase → Staircase → Places → List Bool → List (List Bool) → Range → Range → Type 0
IsBracket table sphere p value rows range far = IsBracketOf (through range table) (through far sphere) (class_above p.a)
    (class_above p.b) (class_above p.c) value rows

-- ---- lifts and maps

-- each table has its range, the second is of the sphere, and the classes at these places have products and a bracket in these ranges
pub record IsSettingIn (table sphere : Staircase) (range far : Range) (p : Places) : Type 0 where
  pub is_table : IsTable table
  pub is_sphere_table : IsTable sphere
  pub through_table : IsThrough range table.rows
  pub through_sphere : IsThrough far sphere.rows
  pub is_sphere : IsSphere (resolution_of sphere)
  pub a_in : IsPlaceIn sphere far p.a
  pub b_in : IsPlaceIn sphere far p.b
  pub c_in : IsPlaceIn table range p.c
  pub inside : AreInside range far p

-- the sphere's table has ab, and perhaps no more
abbrev pub IsSetting : Staircase → Staircase → Range → Places → Type 0
IsSetting table sphere range p = IsSettingIn table sphere range (far_of p) p

-- P is so of any ranges that have the classes and their squares, where the squares of these ranges are those of the canonical
-- resolutions
abbrev pub IsSoIn : (Range → Range → Type 0) → Staircase → Staircase → Places → Type 0
IsSoIn P table sphere p = (range far : Range) → IsSettingIn table sphere range far p → IsCanonicalIn range table →
    IsCanonicalIn far sphere → P range far

-- Lifts of b and of c, as far as a bracket needs them, where b.s and a.s are not 0: to row l, which is one below that of ab, for c.
-- The products ab and bc, which they give, are zero.
pub record AreLifts (table sphere : Staircase) (p : Places) (beta gamma : LiftValues) : Type 0 where
  pub low : ℕ
  pub last : ℕ
  pub b_row : p.b.s ≡ suc low
  pub a_row : p.a.s ≡ suc last
  pub beta_lift : IsLiftOver sphere sphere p.b.s p.b.above p.b.i p.a.s beta
  pub gamma_lift : IsLiftOver table sphere p.c.s p.c.above p.c.i (p.b.s + last) gamma
  pub ab_zero : IsZero (product_by (resolution_of sphere) (resolution_of sphere) (class_above p.a) (map_of beta)
      (p.b.s + p.a.s) (above_ab p))
  pub bc_zero : IsZero (product_by (resolution_of table) (resolution_of sphere) (class_above p.b) (map_of gamma)
      (p.c.s + p.b.s) (above_bc p))

-- maps H, and the values of the last of them
pub record IsLastMap (table sphere : Staircase) (p : Places) (n : ℕ) (beta gamma : LiftValues)
    (last : List (List Bool)) (range far : Range) : Type 0 where
  pub H : ℕ → ℕ → List Bool
  pub homotopy : IsNullHomotopy (through range table) (through far sphere) n
      (degree_of_class (through range table) (class_above p.c)
      +ℤ degree_of_class (through far sphere) (class_above p.b))
      (composed (through far sphere) p.b.s (degree_of_class (through far sphere) (class_above p.b))
      (degree_of_class (through range table) (class_above p.c)) (map_of beta) (map_of gamma))
      p.a.s (top_of (through range table) (class_above p.a) (class_above p.b) (class_above p.c)) H
  pub values : (g : ℕ) → row last g ≡ H p.a.s g

-- v is a value of the bracket, by lifts and a null homotopy
abbrev pub IsMemberBy : Staircase → Staircase → Places → ℕ → List Bool → Range → Range → Type 0
IsMemberBy table sphere p n v range far = (l : ℕ) → suc l ≡ p.b.s + p.a.s →
    IsBracketMember (through range table) (through far sphere) (class_above p.a) (class_above p.b) (class_above p.c) n
    l (top_of (through range table) (class_above p.a) (class_above p.b) (class_above p.c)) v

-- the product of number i of the square of ab one row lower, in row l of the sphere, with the class that the maps lift
abbrev pub lower_product : Staircase → Staircase → Places → LiftValues → ℕ → ℕ → List Bool
lower_product table sphere p gamma l i = on_square (resolution_of table) (p.c.s + l) (above_of p)
    (λ g. coefficient_of (resolution_of sphere) (record { s = l; above = above_ab p; i = i }) (map_of gamma l g))

-- the rows span the indeterminacy
abbrev pub AreSpanning : Staircase → Staircase → Places → ℕ → List (List Bool) → Range → Range → Type 0
AreSpanning table sphere p n rows range far = (l : ℕ) → suc l ≡ p.b.s + p.a.s →
    IsIndeterminacy (through range table) (through far sphere) (class_above p.a) (class_above p.b) (class_above p.c) n
    l (top_of (through range table) (class_above p.a) (class_above p.b) (class_above p.c)) rows

-- the lifts of b and c can be composed, and row n is one below that of bc
pub record IsCompositeIn (table sphere : Staircase) (range far : Range) (p : Places) (n : ℕ) (beta gamma : LiftValues)
    : Type 0 where
  pub setting : IsSettingIn table sphere range far p
  pub lifts : AreLifts table sphere p beta gamma
  pub n_row : suc n ≡ p.c.s + p.b.s

abbrev pub IsComposite : Staircase → Staircase → Range → Places → ℕ → LiftValues → LiftValues → Type 0
IsComposite table sphere range p n beta gamma = IsCompositeIn table sphere range (far_of p) p n beta gamma

-- beta_k and H_k as they are computed: from the generators of their rows through the degrees of ab and of the bracket, which are
-- lowered, to those of row k of the sphere through the degree of a
pub record AreMapsOf (table sphere : Staircase) (p : Places) (n k : ℕ) (beta_basis map_basis : ℕ)
    (beta_source beta_target map_source map_target : List ℤ) : Type 0 where
  pub beta_basis_reaches : above_of p ≤ beta_basis
  pub map_basis_reaches : above_of p ≤ map_basis
  pub beta_source_is : beta_source ≡ lowered_row sphere (p.b.s + k) (above_ab p + 1) p.b.above
  pub beta_target_is : beta_target ≡ target_of sphere k (p.a.above + 1)
  pub map_source_is : map_source ≡ lowered_row table (n + k) (above_of p + 1) (above_bc p)
  pub map_target_is : map_target ≡ target_of sphere k (p.a.above + 1)

-- the values of beta_k on the generators of its row through the degree of ab
abbrev pub beta_values : Staircase → Places → LiftValues → ℕ → List (List Bool)
beta_values sphere p beta k =
    take (first_of (resolution_of sphere) (p.b.s + k) (above_ab p + 1)) (joined (row_values beta k))

-- What d has to take the value of H_(k+1) on generator g of row n + k + 1 to, where beta_k and H_k have these values: beta_k on the
-- value of gamma, and H_k on d of the generator.
abbrev pub homotopy_goal : Staircase → Staircase → Places → ℕ → ℕ → List (List Bool) → LiftValues → List (List Bool) →
    ℕ → List Bool
homotopy_goal table sphere p n k beta gamma below g =
    sum_of
    (mapped (free_graded (target_of sphere k (p.a.above + 1)))
    (lowered_row sphere (p.b.s + k) (above_ab p + 1) p.b.above) beta
    (degree (resolution_of table) (suc (n + k)) g -ℤ (bottom_of table.resolved +ℤ pos (above_bc p)))
    (map_of gamma (p.b.s + k) g))
    (next_goal table sphere (n + k) k (above_bc p) (above_of p + 1) (p.a.above + 1) below g)

-- the values of H_(k+1), from those of H_k
abbrev pub AreNext : Staircase → Staircase → Places → ℕ → LiftValues → LiftValues → ℕ → List (List Bool) →
    List (List Bool) → Type 0
AreNext table sphere p n beta gamma k below vectors =
    AreChosen table sphere (suc (n + k)) (suc k) (bottom_of table.resolved +ℤ pos (above_bc p))
    (homotopy_goal table sphere p n k (beta_values sphere p beta k) gamma below)
    (first_of (resolution_of table) (suc (n + k)) (above_of p + 1)) vectors

-- the values of H_0, which are zero
abbrev pub zero_map : Staircase → Staircase → Places → ℕ → List (List Bool)
zero_map table sphere p n = map (λ d. zeros (free_width (target_of sphere 0 (p.a.above + 1)) d))
    (lowered_row table n (above_of p + 1) (above_bc p))
