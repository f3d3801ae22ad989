-- The table of a start: it has at most one content at a place, it is canonical where what was read is, and one square read
-- more changes nothing that stands.
use Rattle.std.proofs.Common.{◌≡◌, inl, inr, ℕ, zero, suc, ◌+◌, ◌<◌, ◌≤◌, Bool, true, false, ◌&&◌, nat_eq, if◌then◌else◌, List, [], ◌∷◌, ◌++◌, length, take, Option, Some, None, MatchOption, refl, sym, ◌∙◌, ap, subst, arith}
use Rattle.std.proofs.lemmas.Bool.{and_parts, eqb-true}
use Rattle.std.proofs.lemmas.Bool.Decides.{eqb_tells}
use Rattle.std.proofs.lemmas.List.{ext_get_or, get_or-take, length-take-le}
use Rattle.std.proofs.lemmas.List.Elements.{All-head, All-tail}
use Rattle.std.proofs.lemmas.List.FromFn.{length-map-range_with_len, get_or-map-range_with_len}
use Rattle.f2_matrix.specs.Echelon.{KernelBasisIsUnique}
use Rattle.resolution_laws.specs.Resolution.{Module, Content, no_content, square_in, IsStep, row_of, below_of, IsCanonicalTable}
use Rattle.resolution_laws.specs.Start.{Entry, entry_at, HasShape, squares_below, row_below, IsReadOrStep, IsOf, is_of, AreOf, IsCanonicalStart}
use Rattle.resolution_laws.proofs.TableIsUnique.{step_is_unique}

-- ---- squares given by a function of their places

pub length-squares_below : (at : ℕ → ℕ → Content) (s k : ℕ) → length (squares_below at s k) ≡ k
length-squares_below at s k = length-map-range_with_len (at s) 0 k

pub square_in-squares_below : (at : ℕ → ℕ → Content) (s k j : ℕ) → j < k → square_in (squares_below at s k) j ≡ at s j
square_in-squares_below at s k j l = get_or-map-range_with_len (at s) 0 k j j no_content l (omega arith)

-- they are the first squares of a list that has the same at their places
pub squares_below-take : (at : ℕ → ℕ → Content) (s k : ℕ) (squares : List Content) → k ≤ length squares → ((j : ℕ) → j < k → at s j ≡ square_in squares j) → squares_below at s k ≡ take k squares
squares_below-take at s k squares l same =
    let left = length-squares_below at s k in
    let right = length-take-le k squares l in
    ext_get_or no_content (squares_below at s k) (take k squares) (left ∙ sym right) (λ j h.
    let below : j < k = omega arith in
    square_in-squares_below at s k j below ∙ (same j below ∙ sym (get_or-take k squares j no_content below)))

pub squares_below-same : (a b : ℕ → ℕ → Content) (s k : ℕ) → ((j : ℕ) → j < k → a s j ≡ b s j) → squares_below a s k ≡ squares_below b s k
squares_below-same a b s k same =
    let left = length-squares_below a s k in
    let right = length-squares_below b s k in
    ext_get_or no_content (squares_below a s k) (squares_below b s k) (left ∙ sym right) (λ j h.
    let below : j < k = omega arith in
    square_in-squares_below a s k j below ∙ (same j below ∙ sym (square_in-squares_below b s k j below)))

pub row_below-same : (a b : ℕ → ℕ → Content) (s k : ℕ) → ((i j : ℕ) → suc i ≡ s → j ≤ k → a i j ≡ b i j) → row_below a s k ≡ row_below b s k
row_below-same a b zero k same = refl
row_below-same a b (suc i) k same = ap (λ (x : List Content). Some x) (squares_below-same a b i (suc k) (λ j l. same i j refl (omega arith)))

-- ---- one content at most

same_here : KernelBasisIsUnique → (m : Module) (below below' : Option (List Content)) (squares squares' : List Content) (found : Option Content) (c d : Content) → below ≡ below' → squares ≡ squares'
    → MatchOption found (IsStep m below squares c) (λ read. (c ≡ read) × HasShape m below squares c) → MatchOption found (IsStep m below' squares' d) (λ read. (d ≡ read) × HasShape m below' squares' d) → c ≡ d
same_here kernels m below below' squares squares' None c d e f p q =
    let P : Option (List Content) → Type 0 = λ x. IsStep m x squares c in
    let Q : List Content → Type 0 = λ x. IsStep m below' x c in
    step_is_unique kernels _ _ _ _ _ c d (subst Q f (subst P e p)) q
same_here kernels m below below' squares squares' (Some read) c d e f p q = p.0 ∙ sym q.0

-- what is known of a content of the table
pub record IsOver (m : Module) (start : List Entry) (s k : ℕ) (content : Content) : Type 0 where
  pub at : ℕ → ℕ → Content
  pub before : (j : ℕ) → j < k → IsOf m start s j (at s j)
  pub below : (i j : ℕ) → suc i ≡ s → j ≤ k → IsOf m start i j (at i j)
  pub here : IsReadOrStep m start s k at content

pub IsOf-over : (m : Module) (start : List Entry) (s k : ℕ) (content : Content) → IsOf m start s k content → IsOver m start s k content
IsOf-over m start s k content (is_of _ _ at _ before below here) = record { at = at; before = before; below = below; here = here }

pub content_is_unique : KernelBasisIsUnique → (m : Module) (start : List Entry) (s k : ℕ) (c d : Content) → IsOf m start s k c → IsOf m start s k d → c ≡ d
content_is_unique kernels m start s k c d (is_of _ _ at _ before below here) q =
    let o = IsOf-over m start s k d q in
    let left : squares_below at s k ≡ squares_below o.at s k = squares_below-same at o.at s k (λ j l. content_is_unique kernels m start s j (at s j) (o.at s j) (before j l) (o.before j l)) in
    let under : row_below at s k ≡ row_below o.at s k = row_below-same at o.at s k (λ i j e l. content_is_unique kernels m start i j (at i j) (o.at i j) (below i j e l) (o.below i j e l)) in
    same_here kernels m (row_below at s k) (row_below o.at s k) (squares_below at s k) (squares_below o.at s k) (entry_at start s k) c d under left here o.here

-- ---- canonical

-- a table is canonical whose squares are those of the empty start's table
pub canonical_from_contents : KernelBasisIsUnique → (m : Module) (s t : ℕ) (table : List (List Content)) → length table ≡ s + 1 → ((i : ℕ) → i ≤ s → length (row_of table i) ≡ t + 1) → ((i k : ℕ) → i ≤ s → k ≤ t → IsOf m [] i k (square_in (row_of table i) k)) → IsCanonicalTable m s t table
canonical_from_contents kernels m s t table rows squares contents = record { rows = rows; squares = squares; steps = steps }
  where
    under : (i k : ℕ) (at : ℕ → ℕ → Content) → i ≤ s → k ≤ t → ((h j : ℕ) → suc h ≡ i → j ≤ k → IsOf m [] h j (at h j)) → row_below at i k ≡ below_of table i k
    under zero k at h l p = refl
    under (suc i) k at h l p =
        let n = squares i (omega arith) in
        ap (λ (x : List Content). Some x) (squares_below-take at i (suc k) (row_of table i) (omega arith) (λ j b.
        content_is_unique kernels m [] i j _ _ (p i j refl (omega arith)) (contents i j (omega arith) (omega arith))))

    steps : (i k : ℕ) → i ≤ s → k ≤ t → IsStep m (below_of table i k) (take k (row_of table i)) (square_in (row_of table i) k)
    steps i k h l =
        let o = IsOf-over m [] i k (square_in (row_of table i) k) (contents i k h l) in
        let n = squares i h in
        let left : squares_below o.at i k ≡ take k (row_of table i) = squares_below-take o.at i k (row_of table i) (omega arith) (λ j b.
        content_is_unique kernels m [] i j _ _ (o.before j b) (contents i j h (omega arith))) in
        let P : List Content → Type 0 = λ x. IsStep m (row_below o.at i k) x (square_in (row_of table i) k) in
        let Q : Option (List Content) → Type 0 = λ x. IsStep m x (take k (row_of table i)) (square_in (row_of table i) k) in
        subst Q (under i k o.at h l o.below) (subst P left o.here)

canonical_here : (m : Module) (s k : ℕ) (at : ℕ → ℕ → Content) (found : Option Content) (c : Content) → ((read : Content) → found ≡ Some read → IsOf m [] s k read) → ((j : ℕ) → j < k → IsOf m [] s j (at s j)) → ((i j : ℕ) → suc i ≡ s → j ≤ k → IsOf m [] i j (at i j))
    → MatchOption found (IsStep m (row_below at s k) (squares_below at s k) c) (λ read. (c ≡ read) × HasShape m (row_below at s k) (squares_below at s k) c) → IsOf m [] s k c
canonical_here m s k at None c reads before below here = is_of s k at c before below here
canonical_here m s k at (Some read) c reads before below here = subst (IsOf m [] s k) (sym here.0) (reads read refl)

pub canonical_content : (m : Module) (start : List Entry) → IsCanonicalStart m start → (s k : ℕ) (c : Content) → IsOf m start s k c → IsOf m [] s k c
canonical_content m start reads s k c (is_of _ _ at _ before below here) =
    canonical_here m s k at (entry_at start s k) c (reads s k) (λ j l. canonical_content m start reads s j (at s j) (before j l)) (λ i j e l. canonical_content m start reads i j (at i j) (below i j e l)) here

-- ---- one square read more

-- the entry is not at this place
abbrev pub IsElsewhere : Entry → ℕ → ℕ → Type 0
IsElsewhere e s k = e.s ≡ s → e.above ≡ k → ⊥

other_test : (e : Entry) (s k : ℕ) → IsElsewhere e s k → (nat_eq e.s s && nat_eq e.above k) ≡ false
other_test e s k off =
    elim (eqb_tells e.s s) [
      | inr p ↦ ap (λ b. b && nat_eq e.above k) p.0
      | inl p ↦ elim (eqb_tells e.above k) [
        | inr q ↦ ap (λ b. b && nat_eq e.above k) p.0 ∙ q.0
        | inl q ↦ absurd (off p.1 q.1)
      ]
    ]

same_test : (e : Entry) → (nat_eq e.s e.s && nat_eq e.above e.above) ≡ true
same_test e =
    elim (eqb_tells e.s e.s) [
      | inr p ↦ absurd (p.1 refl)
      | inl p ↦ elim (eqb_tells e.above e.above) [
        | inr q ↦ absurd (q.1 refl)
        | inl q ↦ ap (λ b. b && nat_eq e.above e.above) p.0 ∙ q.0
      ]
    ]

pub entry_at-other : (start : List Entry) (e : Entry) (s k : ℕ) → IsElsewhere e s k → entry_at (start ++ e ∷ []) s k ≡ entry_at start s k
entry_at-other [] e s k off = rw (other_test e s k off) refl
entry_at-other (x ∷ start) e s k off =
    ap (λ (rest : Option Content). if nat_eq x.s s && nat_eq x.above k then Some x.content else rest) (entry_at-other start e s k off)

past_first : (here : Bool) (first : Content) (rest more wanted : Option Content) → (if here then Some first else rest) ≡ None → (rest ≡ None → more ≡ wanted) → (if here then Some first else more) ≡ wanted
past_first true first rest more wanted none next = cc
past_first false first rest more wanted none next = next none

pub entry_at-new : (start : List Entry) (e : Entry) → entry_at start e.s e.above ≡ None → entry_at (start ++ e ∷ []) e.s e.above ≡ Some e.content
entry_at-new [] e none = rw (same_test e) refl
entry_at-new (x ∷ start) e none = past_first (nat_eq x.s e.s && nat_eq x.above e.above) x.content (entry_at start e.s e.above) _ _ none (entry_at-new start e)

-- what stands neither in the entry's row nor above it, or else before its degree, stays as it was
pub grown_content : (m : Module) (start : List Entry) (e : Entry) (s k : ℕ) (c : Content) → (e.s ≤ s → e.above ≤ k → ⊥) → IsOf m start s k c → IsOf m (start ++ e ∷ []) s k c
grown_content m start e s k c off (is_of _ _ at _ before below here) =
    let P : Option Content → Type 0 = λ found. MatchOption found (IsStep m (row_below at s k) (squares_below at s k) c) (λ read. (c ≡ read) × HasShape m (row_below at s k) (squares_below at s k) c) in
    is_of s k at c
    (λ j l. grown_content m start e s j (at s j) (λ p q. off p (omega arith)) (before j l))
    (λ i j h l. grown_content m start e i j (at i j) (λ p q. off (omega arith) (omega arith)) (below i j h l))
    (subst P (sym (entry_at-other start e s k (λ p q. off (omega arith) (omega arith)))) here)

-- ---- a list of squares of a start's table has no others

first_is_of : (m : Module) (start : List Entry) (here : Bool) (x : Entry) (s k : ℕ) (rest : Option Content) (c : Content) → (nat_eq x.s s && nat_eq x.above k) ≡ here → IsOf m start x.s x.above x.content → (rest ≡ Some c → IsOf m start s k c) → (if here then Some x.content else rest) ≡ Some c → IsOf m start s k c
first_is_of m start true x s k rest c e is others found =
    let both = and_parts (nat_eq x.s s) (nat_eq x.above k) e in
    let same : x.content ≡ c = cc in
    let row = subst (λ n. IsOf m start n x.above x.content) (eqb-true x.s s both.0) is in
    subst (IsOf m start s k) same (subst (λ n. IsOf m start s n x.content) (eqb-true x.above k both.1) row)
first_is_of m start false x s k rest c e is others found = others found

pub listed_is_of : (m : Module) (start list : List Entry) → AreOf m start list → (s k : ℕ) (c : Content) → entry_at list s k ≡ Some c → IsOf m start s k c
listed_is_of m start [] are s k c e = absurd cc
listed_is_of m start (x ∷ list) are s k c e =
    let P : Entry → Type 0 = λ y. IsOf m start y.s y.above y.content in
    first_is_of m start (nat_eq x.s s && nat_eq x.above k) x s k (entry_at list s k) c refl (All-head P x list are) (λ f. listed_is_of m start list (All-tail P x list are) s k c f) e
