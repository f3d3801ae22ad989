-- A stock of numbers with one square more.
use Rattle.std.proofs.Common.{◌≡◌, ℕ, suc, ◌+◌, ◌<◌, ◌≤◌, true, nat_lt, List, length, set, sym, subst, arith, inl, inr}
use Rattle.std.proofs.lemmas.Bool.Decides.{nat_tests, eqb_tells}
use Rattle.std.proofs.lemmas.List.{get_or-set_other, get_or-set_same, length-set}
use Rattle.bidegree.specs.declared.range.Range.{Range}
use Rattle.bidegree.specs.declared.shape.Shape.{Shape}
use Rattle.board_core.specs.Machine.{Squares, IsStaircase, stands_in}
use Rattle.square_board.specs.Openings.{below_fronts}
use Rattle.square_board.specs.Stocks.{IsNextPlace, HasOneMore}
use Rattle.board_tests.specs.Numbers.{AreNumbers, front_in}

stairs_more : (stands : Squares) (old new : ℕ → ℕ) (s : ℕ) → HasOneMore s old new → IsStaircase stands (below_fronts old) → ((i : ℕ) → suc i ≡ s → stands s (old s) ≡ true → old s < old i) → IsStaircase stands (below_fronts new)
stairs_more stands old new s more stairs under i j is = record {
  before = λ m e. grind (arith, nat_tests);
  below = λ r e on. elim (eqb_tells i s) [
    | inl p ↦
        let here = subst (λ (n : ℕ). nat_lt j (new n) ≡ true) p.1 is in
        let one = more.here in
        let same = more.others r (λ q. let f = p.1 in omega arith) in
        own r (subst (λ (n : ℕ). suc r ≡ n) p.1 e) (subst (λ (n : ℕ). stands n j ≡ true) p.1 on) same here
    | inr p ↦
        let one = more.others i p.1 in
        let old_is : nat_lt j (old i) ≡ true = grind (arith, nat_tests) in
        let there = (stairs i j old_is).below r e on in
        grows r j there
  ];
}
  where
    grows : (r j : ℕ) → nat_lt j (old r) ≡ true → nat_lt j (new r) ≡ true
    grows r j there = elim (eqb_tells r s) [
      | inl p ↦
          let one = more.here in
          let at = subst (λ (n : ℕ). nat_lt j (old n) ≡ true) p.1 there in
          let all : nat_lt j (new s) ≡ true = grind (arith, nat_tests) in
          subst (λ (n : ℕ). nat_lt j (new n) ≡ true) (sym p.1) all
      | inr p ↦
          let same = more.others r p.1 in
          grind (arith, nat_tests)
    ]

    own : (r : ℕ) → suc r ≡ s → stands s j ≡ true → new r ≡ old r → nat_lt j (new s) ≡ true → nat_lt j (new r) ≡ true
    own r e on same here = elim (eqb_tells j (old s)) [
      | inl p ↦
          let low = under r e (subst (λ (n : ℕ). stands s n ≡ true) p.1 on) in
          let at = p.1 in
          grind (arith, nat_tests)
      | inr p ↦
          let one = more.here in
          let other = p.1 in
          let before : nat_lt j (old s) ≡ true = grind (arith, nat_tests) in
          let there = (stairs s j before).below r e on in
          grind (arith, nat_tests)
    ]

-- a row is one longer
one_more : (fronts : List ℕ) (s : ℕ) → s < length fronts → HasOneMore s (front_in fronts) (front_in (set fronts s (front_in fronts s + 1)))
one_more fronts s within = record {
  here = let same = get_or-set_same fronts s (front_in fronts s + 1) 0 within in omega arith;
  others = λ i other. get_or-set_other fronts s i (front_in fronts s + 1) 0 other;
}

pub numbers_more : (subject : Shape × Range) (fronts : List ℕ) (s k : ℕ) → AreNumbers subject fronts → IsNextPlace subject.0 subject.1 (front_in fronts) s k → AreNumbers subject (set fronts s (k + 1))
numbers_more subject fronts s k are place =
    let next = place.next in
    let row = place.row in
    let rows = are.rows in
    let degree = place.degree in
    let more : HasOneMore s (front_in fronts) (front_in (set fronts s (k + 1))) = subst (λ (n : ℕ). HasOneMore s (front_in fronts) (front_in (set fronts s (n + 1)))) next (one_more fronts s (omega arith)) in
    record {
      few = are.few;
      short = are.short;
      corner = are.corner;
      rows = let long = length-set fronts s (k + 1) in omega arith;
      within = λ i. elim (eqb_tells i s) [
        | inl p ↦ let here = more.here in let bound : front_in (set fronts s (k + 1)) s ≤ subject.1.t + 1 = omega arith in subst (λ (n : ℕ). front_in (set fronts s (k + 1)) n ≤ subject.1.t + 1) (sym p.1) bound
        | inr p ↦ let same = more.others i p.1 in let before = are.within i in omega arith
      ];
      stairs =
          let stands = stands_in subject.0 subject.1.s subject.1.t in
          stairs_more stands (front_in fronts) (front_in (set fronts s (k + 1))) s more are.stairs
          (λ i e on. let there = place.below i e (subst (λ (n : ℕ). stands s n ≡ true) next on) in omega arith);
    }
