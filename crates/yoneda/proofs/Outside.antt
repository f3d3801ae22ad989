-- Which classes are missing of a table through a range.
use Rattle.std.proofs.Common.{◌≡◌, ℕ, ◌<◌, ◌≤◌, Bool, true, false, length, Some, None, Option, nat_lt, if◌then◌else◌, ap, ◌∙◌, arith}
use Rattle.std.specs.Prelude.{option_map, unwrap_or}
use Rattle.std.proofs.lemmas.Bool.Decides.{nat_tests}
use Rattle.bidegree.specs.Above.{above_of}
use Rattle.bidegree.specs.declared.range.Range.{Range}
use Rattle.bidegree.specs.declared.class.Class.{Class}
use Rattle.square.specs.Squares.{bottom_of}
use Rattle.square.specs.Tables.{Staircase, content_at}
use Rattle.lift_laws.specs.Products.{count_of}
use Rattle.chain_map.specs.Classes.{through, class_count, missing_in}
use Rattle.chain_map.proofs.Classes.{count_inside, count_outside}

module _ (table : Staircase) (range : Range) (class : Class) where
  -- how many classes there are at its place
  abbrev counted : Option ℕ → ℕ
  counted above = unwrap_or (option_map (count_of (through range table) class.s) above) 0

  pub none_past : (k : ℕ) → above_of (bottom_of table.resolved) class.t ≡ Some k → (class.s ≤ range.s → k ≤ range.t → ⊥) → class_count (through range table) class.s class.t ≡ 0
  none_past k e out = ap counted e ∙ count_outside table range class.s k out

  pub all_inside : (k : ℕ) → above_of (bottom_of table.resolved) class.t ≡ Some k → class.s ≤ range.s → k ≤ range.t → class_count (through range table) class.s class.t ≡ length (content_at table.rows class.s k).images
  all_inside k e row degree = ap counted e ∙ count_inside table range class.s k row degree

  -- what is said of it where there are so many
  pub none_missing : (count : ℕ) → class_count (through range table) class.s class.t ≡ count → class.i < count → missing_in (through range table) class ≡ None
  none_missing count e l =
      let test : nat_lt class.i count ≡ true = grind (arith, nat_tests) in
      ap (λ (n : ℕ). if nat_lt class.i n then None else Some n) e ∙ ap (λ (b : Bool). if b then None else Some count) test

  pub one_missing : (count : ℕ) → class_count (through range table) class.s class.t ≡ count → count ≤ class.i → missing_in (through range table) class ≡ Some count
  one_missing count e l =
      let test : nat_lt class.i count ≡ false = grind (arith, nat_tests) in
      ap (λ (n : ℕ). if nat_lt class.i n then None else Some n) e ∙ ap (λ (b : Bool). if b then None else Some count) test
