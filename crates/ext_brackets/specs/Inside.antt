-- What contracts of private functions cite: why there is no bracket, told of the classes that were asked for.
use Rattle.std.specs.Prelude.{zero, suc, ◌+◌, ◌+ℤ◌, ◌<◌, ◌^◌, ◌≤ℤ◌, ◌<ℤ◌, pos, neg_ℤ}
use Rattle.bidegree.specs.declared.class.Class.{Class}
use Rattle.massey.specs.declared.fault.MasseyFault.{MasseyFault}
use Rattle.massey.specs.declared.fault.MasseyFault.TheVariants.{NoClass as Absent, OutOfRange as Past, Nonzero as NotZero, Memory as NoMemory}
use Rattle.ext_products.specs.declared.refusal.Pair.TheVariants.{Ab, Bc}
use Rattle.ext_products.specs.declared.refusal.ClassesFault.{ClassesFault}
use Rattle.ext_products.specs.declared.refusal.ClassesFault.TheVariants.{Refused, Memory}
use Rattle.ext_brackets.specs.Brackets.{absent, past, not_zero}

-- what a fault of the bracket <a, b, c> says of the classes
abbrev pub fault_of : Class → Class → Class → MasseyFault → ClassesFault
fault_of a b c (Absent which count) = Refused (absent a b c which count)
fault_of a b c (Past which s t) = Refused (past which s t)
fault_of a b c (NotZero zero product) = Refused (not_zero Ab a b product)
fault_of a b c (NotZero (suc n) product) = Refused (not_zero Bc b c product)
fault_of a b c NoMemory = Memory

-- the row and the degree of the product of two classes are an i32 each
pub record HasSquare (a x : Class) : Type 0 where
  pub row : a.s + x.s < 2 ^ 31
  pub least : neg_ℤ (pos (2 ^ 31)) ≤ℤ (a.t +ℤ x.t)
  pub most : (a.t +ℤ x.t) <ℤ pos (2 ^ 31)
