use Rattle.std.proofs.Common.{◌≡◌, ◌<◌, ◌≢◌, ℕ, List, Some, IfSome, IsNone, length, slice_get, slice_index, sym, ap, subst, ◌∙◌}
use Rattle.milnor_basis.specs.Exponents.{trimmed}
use Rattle.milnor_basis.specs.Basis.{basis_of}
use Rattle.milnor_basis.specs.Inside.FreeRows.{element}
use Rattle.milnor_basis.proofs.FreeTable.{too_long, front_tells}
use Rattle.milnor_basis.proofs.product.place_of_diagonals.Goals as goal

pub returns-then-not-is_zero-clause-none : goal.returns-then-not-is_zero-clause-none
returns-then-not-is_zero-clause-none c _ =
    too_long c.args.n c.args.diagonals.now c.requires.small
    (λ zeros. let yes = c.is_zero.ensures.1 (subst (λ (xs : List ℕ). (i : ℕ) → i < length xs → slice_index xs i ≡ 0) (sym c.split_at.ensures.back) zeros) in let no = c.if-not-is_zero.true in cc (yes, no))

told : (r diagonals exponents front : List ℕ) → r ≡ trimmed exponents → exponents ≡ front → trimmed front ≡ trimmed diagonals → r ≡ trimmed diagonals
told r diagonals exponents front e f g = e ∙ ap trimmed f ∙ g

pub returns-clause-found : goal.returns-clause-found
returns-clause-found c =
    let zeros = c.is_zero.ensures.0 c.if-not-is_zero.false in
    let tells = front_tells c.args.diagonals.now (subst (λ (xs : List ℕ). (i : ℕ) → i < length xs → slice_index xs i ≡ 0) c.split_at.ensures.back zeros) in
    let is : c.of.result ≡ trimmed c.args.diagonals.now = c.of.ensures ∙ ap trimmed (c.copy_from_slice.ensures.after ∙ c.split_at.ensures.front) ∙ tells in
    subst (λ r. IfSome c.place_in.result (λ i. slice_get (basis_of c.args.n) i ≡ Some r)) is c.place_in.ensures.found

pub returns-clause-none : goal.returns-clause-none
returns-clause-none c =
    let zeros = c.is_zero.ensures.0 c.if-not-is_zero.false in
    let tells = front_tells c.args.diagonals.now (subst (λ (xs : List ℕ). (i : ℕ) → i < length xs → slice_index xs i ≡ 0) c.split_at.ensures.back zeros) in
    let is : c.of.result ≡ trimmed c.args.diagonals.now = c.of.ensures ∙ ap trimmed (c.copy_from_slice.ensures.after ∙ c.split_at.ensures.front) ∙ tells in
    subst (λ r. IsNone c.place_in.result → (k : ℕ) → k < length (basis_of c.args.n) → r ≢ element c.args.n k) is c.place_in.ensures.none
