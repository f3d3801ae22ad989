-- Exponents in decimal with a comma between each two, and the parts of a line, one more at a time.
use Rattle.std.proofs.Common.{◌≡◌, ℕ, zero, suc, ◌+◌, ◌-◌, ◌<◌, ◌≤◌, List, [], ◌++◌, length, map, take, drop, get_or, ap, sym, ◌∙◌, arith, append_assoc}
use Rattle.std.specs.Prelude.{decimal}
use Rattle.std.specs.List.{join_with_byte, flat_map}
use Rattle.std.proofs.lemmas.List.{map_more, flat_map_more, take_more, take-append-drop, length-map, length-take-le, take_all, append-nil}
use Rattle.std.proofs.lemmas.Grind.{flat_map-append}
use Rattle.milnor_basis.specs.Exponents.{entry}
use Rattle.milnor_basis.specs.Text.{comma}
use Rattle.milnor_basis.proofs.TextLemmas.{join-one_more}
use Rattle.ext_report.specs.Parts.{separator}

-- the first i exponents
abbrev pub joined : List ℕ → ℕ → List ℕ
joined r i = join_with_byte comma (map decimal (take i r))

-- one exponent more
pub joined-more : (r : List ℕ) (i : ℕ) → i < length r → joined r (i + 1) ≡ joined r i ++ (separator i ++ decimal (entry r i))
joined-more r zero l = ap (join_with_byte comma) (map_more decimal r 0 0 l)
joined-more r (suc i) l =
    let xs = map decimal (take (suc i) r) in
    let some : 0 < length xs = omega (arith, length-map (take (suc i) r) decimal, length-take-le (suc i) r (omega arith)) in
    ap (join_with_byte comma) (map_more decimal r (suc i) 0 l) ∙ join-one_more comma xs (decimal (entry r (suc i))) some

pub joined-all : (r : List ℕ) (i : ℕ) → length r ≤ i → joined r i ≡ join_with_byte comma (map decimal r)
joined-all r i l = ap (λ (t : List ℕ). join_with_byte comma (map decimal t)) (take_all i r l)

-- a whole text is a first part of it and a rest
pub record HasFront (front whole : List ℕ) : Type 0 where
  pub rest : List ℕ
  pub parts : whole ≡ front ++ rest

-- n exponents more
joined-front : (r : List ℕ) (i n : ℕ) → i + n ≤ length r → HasFront (joined r i) (joined r (i + n))
joined-front r i zero h =
    let e : i + 0 ≡ i = omega arith in
    record { rest = []; parts = ap (joined r) e ∙ sym (append-nil (joined r i)) }
joined-front r i (suc n) h =
    let p = joined-front r i n (omega arith) in
    let e : i + suc n ≡ i + n + 1 = omega arith in
    let more = separator (i + n) ++ decimal (entry r (i + n)) in
    record {
      rest = p.rest ++ more;
      parts = ap (joined r) e ∙ (joined-more r (i + n) (omega arith) ∙ (ap (λ (t : List ℕ). t ++ more) p.parts ∙ append_assoc (joined r i) p.rest more));
    }

-- the exponents up to i, and those behind them
pub joined-upto : (r : List ℕ) (i : ℕ) → i ≤ length r → HasFront (joined r i) (join_with_byte comma (map decimal r))
joined-upto r i h =
    let e : i + (length r - i) ≡ length r = omega arith in
    let p = joined-front r i (length r - i) (omega arith) in
    record { rest = p.rest; parts = sym (joined-all r (i + (length r - i)) (omega arith)) ∙ p.parts }

-- the texts of the first i items, and those of one item more
pub flat_map-more : {X : Type 0} (f : X → List ℕ) (xs : List X) (i : ℕ) (d : X) → i < length xs → flat_map f (take i xs) ++ f (get_or xs i d) ≡ flat_map f (take (i + 1) xs)
flat_map-more f xs i d l = flat_map_more f [] (take i xs) (get_or xs i d) ∙ ap (flat_map f) (sym (take_more xs i d l))

pub flat_map-upto : {X : Type 0} (f : X → List ℕ) (xs : List X) (i : ℕ) → HasFront (flat_map f (take i xs)) (flat_map f xs)
flat_map-upto f xs i = record {
  rest = flat_map f (drop i xs);
  parts = ap (flat_map f) (sym (take-append-drop i xs)) ∙ flat_map-append f (take i xs) (drop i xs);
}
