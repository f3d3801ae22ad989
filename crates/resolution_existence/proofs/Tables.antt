-- The table of a start, square by square, and canonical tables.
use Rattle.std.proofs.Common.{◌≡◌, inl, inr, ℕ, zero, suc, ◌+◌, ◌<◌, ◌≤◌, nat_eq, if◌then◌else◌, List, [], length, map, Option, Some, None, MatchOption, refl, sym, ◌∙◌, ap, subst, arith}
use Rattle.std.specs.List.{range_with_len}
use Rattle.std.proofs.lemmas.Bool.Decides.{eqb_tells}
use Rattle.std.proofs.lemmas.List.FromFn.{length-map-range_with_len, get_or-map-range_with_len}
use Rattle.f2_matrix.proofs.Unique.{kernel_basis_unique}
use Rattle.free_module.specs.Graded.{KeepsWidths}
use Rattle.resolution_laws.specs.Resolution.{Module, Content, no_content, square_in, IsStep, row_of}
use Rattle.resolution_laws.specs.Start.{Entry, entry_at, HasShape, squares_below, row_below, IsOf, is_of, AreBefore}
use Rattle.resolution_laws.proofs.StartLaws.{canonical_from_contents, length-squares_below, square_in-squares_below}
use Rattle.resolution_existence.specs.Existence.{IsOwnStart, CanonicalTableExists, TableOfStartExists}
use Rattle.resolution_existence.proofs.Steps.{step_over}

-- the square (s, k) of the table, where those that it stands on are there
here_or_read : (m : Module) (start : List Entry) (s k : ℕ) (at : ℕ → ℕ → Content) → KeepsWidths m.graded → AreBefore m start s k at → (found : Option Content) → entry_at start s k ≡ found → ((read : Content) → found ≡ Some read → IsOf m start s k read) → (content : Content) × IsOf m start s k content
here_or_read m start s k at keeps p None none reads =
    let step = step_over m start s k at keeps p in
    let P : Option Content → Type 0 = λ found. MatchOption found (IsStep m (row_below at s k) (squares_below at s k) step.0) (λ read. (step.0 ≡ read) × HasShape m (row_below at s k) (squares_below at s k) step.0) in
    (step.0, is_of s k at step.0 p.before p.below (subst P (sym none) step.1))
here_or_read m start s k at keeps p (Some read) there reads = (read, reads read refl)

-- the squares of a row, below a degree
record IsRow (m : Module) (start : List Entry) (s k : ℕ) : Type 0 where
  at : ℕ → Content
  are : (j : ℕ) → j < k → IsOf m start s j (at j)

-- the row below, all of it
abbrev IsRowBelow : Module → List Entry → ℕ → (ℕ → Content) → Type 0
IsRowBelow m start s under = (i j : ℕ) → suc i ≡ s → IsOf m start i j (under j)

-- two rows as one function of places
abbrev two_rows : ℕ → (ℕ → Content) → (ℕ → Content) → ℕ → ℕ → Content
two_rows s own under i j = if nat_eq i s then own j else under j

own_there : (s j : ℕ) (own under : ℕ → Content) → own j ≡ two_rows s own under s j
own_there s j own under = elim (eqb_tells s s) [ inl p ↦ sym (ap (λ b. if b then own j else under j) p.0) | inr p ↦ absurd (p.1 refl) ]

under_there : (s i j : ℕ) (own under : ℕ → Content) → suc i ≡ s → under j ≡ two_rows s own under i j
under_there s i j own under e = elim (eqb_tells i s) [ inl p ↦ absurd (let q = p.1 in omega arith) | inr p ↦ sym (ap (λ b. if b then own j else under j) p.0) ]

-- with one square more
with_last : (ℕ → Content) → ℕ → Content → ℕ → Content
with_last own k c = λ j. if nat_eq j k then c else own j

last_is : (m : Module) (start : List Entry) (s k : ℕ) (own : ℕ → Content) (c : Content) → ((j : ℕ) → j < k → IsOf m start s j (own j)) → IsOf m start s k c → (j : ℕ) → j < suc k → IsOf m start s j (with_last own k c j)
unfolding with_last
last_is m start s k own c are new j l =
    elim (eqb_tells j k) [
      | inl p ↦
          let value : c ≡ (if nat_eq j k then c else own j) = sym (ap (λ b. if b then c else own j) p.0) in
          let here : IsOf m start s j c = subst (λ (n : ℕ). IsOf m start s n c) (sym p.1) new in
          subst (λ (x : Content). IsOf m start s j x) value here
      | inr p ↦
          let other = p.1 in
          let value : own j ≡ (if nat_eq j k then c else own j) = sym (ap (λ b. if b then c else own j) p.0) in
          subst (λ (x : Content). IsOf m start s j x) value (are j (omega arith))
    ]

row_through : (m : Module) (start : List Entry) (s : ℕ) (under : ℕ → Content) → KeepsWidths m.graded → IsOwnStart m start → IsRowBelow m start s under → (k : ℕ) → IsRow m start s k
row_through m start s under keeps reads below zero = record { at = λ j. no_content; are = λ j l. absurd (omega arith) }
row_through m start s under keeps reads below (suc k) =
    let p = row_through m start s under keeps reads below k in
    let at = two_rows s p.at under in
    let new = here_or_read m start s k at keeps (record {
      before = λ j l. subst (λ (x : Content). IsOf m start s j x) (own_there s j p.at under) (p.are j l);
      below = λ i j e l. subst (λ (x : Content). IsOf m start i j x) (under_there s i j p.at under e) (below i j e);
    }) (entry_at start s k) refl (reads s k) in
    record { at = with_last p.at k new.0; are = last_is m start s k p.at new.0 p.are new.1 }

-- all of a row
record IsWholeRow (m : Module) (start : List Entry) (s : ℕ) : Type 0 where
  at : ℕ → Content
  are : (j : ℕ) → IsOf m start s j (at j)

whole_row : (m : Module) (start : List Entry) (s : ℕ) (under : ℕ → Content) → KeepsWidths m.graded → IsOwnStart m start → IsRowBelow m start s under → IsWholeRow m start s
whole_row m start s under keeps reads below = record {
  at = λ j. (row_through m start s under keeps reads below (suc j)).at j;
  are = λ j. (row_through m start s under keeps reads below (suc j)).are j (omega arith);
}

all_rows : (m : Module) (start : List Entry) → KeepsWidths m.graded → IsOwnStart m start → (s : ℕ) → IsWholeRow m start s
all_rows m start keeps reads zero = whole_row m start zero (λ j. no_content) keeps reads (λ i j e. absurd (omega arith))
all_rows m start keeps reads (suc s) =
    let p = all_rows m start keeps reads s in
    whole_row m start (suc s) p.at keeps reads (λ i j e. let same : s ≡ i = omega arith in subst (λ (n : ℕ). IsOf m start n j (p.at j)) same (p.are j))

pub has_content : TableOfStartExists
has_content m start s k keeps reads = let p = all_rows m start keeps reads s in (p.at k, p.are k)

-- ---- canonical tables

pub none_read : (m : Module) → IsOwnStart m []
none_read m s k read e = cc

pub has_canonical_table : CanonicalTableExists
has_canonical_table m s t keeps =
    let at : ℕ → ℕ → Content = λ i k. (has_content m [] i k keeps (none_read m)).0 in
    let table = map (λ i. squares_below at i (t + 1)) (range_with_len 0 (s + 1)) in
    let row_is : (i : ℕ) → i ≤ s → row_of table i ≡ squares_below at i (t + 1) = λ i l. get_or-map-range_with_len (λ i. squares_below at i (t + 1)) 0 (s + 1) i i [] (omega arith) (omega arith) in
    let square_is : (i k : ℕ) → i ≤ s → k ≤ t → at i k ≡ square_in (row_of table i) k = λ i k l h. sym (ap (λ (z : List Content). square_in z k) (row_is i l) ∙ square_in-squares_below at i (t + 1) k (omega arith)) in (
      table,
      canonical_from_contents kernel_basis_unique m s t table
          (length-map-range_with_len (λ i. squares_below at i (t + 1)) 0 (s + 1))
          (λ i l. ap length (row_is i l) ∙ length-squares_below at i (t + 1))
          (λ i k l h. subst (λ (x : Content). IsOf m [] i k x) (square_is i k l h) (has_content m [] i k keeps (none_read m)).1),
    )
