-- What d has to take a value to, by the place of its generator in a square.
use Rattle.std.proofs.Common.{◌≡◌, ℕ, suc, ◌+◌, ◌<◌, Bool, ℤ, pos, ◌+ℤ◌, ◌-ℤ◌, List, length, ◌∙◌, arith}
use Rattle.std.proofs.lemmas.Int.{ints}
use Rattle.f2_vec.specs.Vectors.{sum_of}
use Rattle.f2_vec.specs.Spans.{row}
use Rattle.free_module.specs.Graded.{free_graded}
use Rattle.free_module.specs.LinearMap.{mapped}
use Rattle.resolution_laws.specs.Resolution.{row_of}
use Rattle.square.specs.Squares.{bottom_of}
use Rattle.square.specs.Tables.{Staircase, plain_rows, content_at}
use Rattle.lift_laws.specs.Lifts.{degree}
use Rattle.lift_laws.specs.Products.{first_of, count_of}
use Rattle.chain_map.specs.Lifting.{LiftValues, resolution_of, map_of}
use Rattle.chain_map.proofs.Generators.{is_number}
use Rattle.chain_map.proofs.Places.{next_goal_is}
use Rattle.massey.specs.declared.places.Places.{Places}
use Rattle.massey.specs.Inside.{above_of, above_bc, AreMapsOf, homotopy_goal}

module _ (table sphere : Staircase) (p : Places) (n k j h : ℕ) (there : j < length (row_of (plain_rows table.rows) (suc (n + k)))) (inside : h < count_of (resolution_of table) (suc (n + k)) j) where
  abbrev g : ℕ
  g = first_of (resolution_of table) (suc (n + k)) j + h

  -- the degree of the value
  pub degree_is : pos j -ℤ pos (above_bc p) ≡ degree (resolution_of table) (suc (n + k)) g -ℤ (bottom_of table.resolved +ℤ pos (above_bc p))
  degree_is = let d = (is_number (resolution_of table) (suc (n + k)) j h there inside).degree_is in omega (arith, ints)

  pub goal_is : (beta_basis map_basis : ℕ) (beta_source beta_target map_source map_target : List ℤ) → AreMapsOf table sphere p n k beta_basis map_basis beta_source beta_target map_source map_target → (beta below : List (List Bool)) (gamma : LiftValues) (inner image : List Bool) (u : ℤ) → u ≡ pos j -ℤ pos (above_bc p)
      → inner ≡ map_of gamma (p.b.s + k) g → image ≡ row (content_at table.rows (suc (n + k)) j).images h → sum_of (mapped (free_graded beta_target) beta_source beta u inner) (mapped (free_graded map_target) map_source below u image) ≡ homotopy_goal table sphere p n k beta gamma below g
  goal_is beta_basis map_basis beta_source beta_target map_source map_target m beta below gamma inner image u at inner_is image_is =
      let low = at ∙ degree_is in
      let below_is = next_goal_is table sphere (n + k) k (above_bc p) (above_of p + 1) (p.a.above + 1) j h map_source map_target below image there inside m.map_source_is m.map_target_is image_is in
      cc
