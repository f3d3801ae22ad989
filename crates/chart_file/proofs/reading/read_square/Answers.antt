use Rattle.std.proofs.Common.{◌≢◌, ◌++◌, ℕ, List, drop, inl, inr, refl, ap, sym, ◌∙◌, arith}
use Rattle.std.specs.Int.{w64, to_be_bytes}
use Rattle.std.proofs.lemmas.List.{take_rest}
use Rattle.std.proofs.lemmas.Result.{err_from_is_err_and}
use Rattle.chart_file.specs.Parts.{Bare, IsBare, bare_bytes}
use Rattle.chart_file.specs.Faults.{IsWrongSquare}
use Rattle.chart_file.specs.declared.fault.DecodeFault.TheVariants.{Memory as WantOfMemory}
use Rattle.chart_file.proofs.Squares.{numbers_first, too_many, no_square}
use Rattle.chart_file.proofs.reading.read_square.Goals as goal

pub returns-then-count-width-clause-none : goal.returns-then-count-width-clause-none
returns-then-count-width-clause-none c =
    let t = c.number-count.type_inv in
    let u = c.number-width.type_inv in
    λ other. too_many c.number-count.result c.number-width.result (omega arith) (omega arith) c.args.bytes.now c.number-count.ensures c.number-width.ensures c.if-count-width.true

pub returns-then-count-width-clause-wrong : goal.returns-then-count-width-clause-wrong
returns-then-count-width-clause-wrong c = inr (
  c.number-count.result,
  c.number-width.result,
  drop 16 c.args.bytes.now,
  numbers_first c.number-count.result c.number-width.result c.args.bytes.now c.number-count.ensures c.number-width.ensures,
  inl (refl, c.if-count-width.true),
)

pub returns-in_err-images-clause-none : goal.returns-in_err-images-clause-none
returns-in_err-images-clause-none c =
    let t = c.number-count.type_inv in
    let u = c.number-width.type_inv in
    let p = err_from_is_err_and c.from_residual.result c.from_residual.ensures.1 in
    let none : c.in_err-images.field-0.0 ≢ WantOfMemory → (q : Bare) (r : List ℕ) → IsBare q → bare_bytes q ++ r ≢ c.args.bytes.now =
    λ other. no_square c.number-count.result c.number-width.result (omega arith) (omega arith) c.args.bytes.now c.number-count.ensures c.number-width.ensures (λ images rest wide many e. c.in_err-images.ensures.none other images rest wide many (e ∙ sym (take_rest c.args.bytes.now 16))) in
    rw (p.1, p.2) none

pub returns-in_err-images-clause-wrong : goal.returns-in_err-images-clause-wrong
returns-in_err-images-clause-wrong c =
    let p = err_from_is_err_and c.from_residual.result c.from_residual.ensures.1 in
    let same = ap (λ (b : List ℕ). to_be_bytes w64 c.number-count.result ++ (to_be_bytes w64 c.number-width.result ++ b)) (take_rest c.args.bytes.now 16) in
    let wrong : IsWrongSquare c.args.bytes.now c.in_err-images.field-0.0 = inr (
      c.number-count.result,
      c.number-width.result,
      _,
      same ∙ numbers_first c.number-count.result c.number-width.result c.args.bytes.now c.number-count.ensures c.number-width.ensures,
      inr c.in_err-images.ensures.wrong,
    ) in
    rw (p.1, p.2) wrong
