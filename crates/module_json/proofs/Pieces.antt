-- The pieces of a text by the place of its first cut.
use Rattle.std.specs.Prelude.{◌≡◌, ℕ, suc, ◌+◌, ◌<◌, ◌≤◌, ◌==◌, cond, not, nat_lt, if◌then◌else◌, Bool, true, false, List, [], ◌∷◌, length, take, drop, Option, Some, None, MatchOption, position, refl}
use Rattle.std.specs.List.{prefix_len}
use Rattle.std.proofs.Common.{arith, ap}
use Rattle.std.proofs.lemmas.Bool.Decides.{nat_tests}
use Rattle.module_json.specs.Actions.{pieces, onto_first, sides}

whole_step : (x : Bool) (b : ℕ) (bs : List ℕ) (n : ℕ) (ps : List (List ℕ)) → length (b ∷ bs) ≤ cond (not x) (1 + n) 0 → (length bs ≤ n → ps ≡ bs ∷ []) → (if x then [] ∷ ps else onto_first b ps) ≡ (b ∷ bs) ∷ []
whole_step true b bs n ps h rest = absurd (omega (arith, h))
whole_step false b bs n ps h rest = ap (onto_first b) (rest (omega (arith, h)))

-- a text that has no cut is its one piece
pub pieces-whole : (c : ℕ) (text : List ℕ) → length text ≤ prefix_len (λ b. not (b == c)) text → pieces c text ≡ text ∷ []
pieces-whole c [] h = refl
pieces-whole c (b ∷ bs) h = whole_step (b == c) b bs (prefix_len (λ b. not (b == c)) bs) (pieces c bs) h (pieces-whole c bs)

cut_step : (c : ℕ) (x : Bool) (b : ℕ) (bs : List ℕ) (n : ℕ) → cond (not x) (1 + n) 0 < length (b ∷ bs) → (n < length bs → pieces c bs ≡ take n bs ∷ pieces c (drop (suc n) bs)) → (if x then [] ∷ pieces c bs else onto_first b (pieces c bs)) ≡ take (cond (not x) (1 + n) 0) (b ∷ bs) ∷ pieces c (drop (suc (cond (not x) (1 + n) 0)) (b ∷ bs))
cut_step c true b bs n h rest = refl
cut_step c false b bs n h rest = let e : 1 + n ≡ suc n = omega arith in rw e (ap (onto_first b) (rest (omega (arith, h))))

-- a text is cut at the first place of c
pub pieces-cut : (c : ℕ) (text : List ℕ) → prefix_len (λ b. not (b == c)) text < length text → pieces c text ≡ take (prefix_len (λ b. not (b == c)) text) text ∷ pieces c (drop (suc (prefix_len (λ b. not (b == c)) text)) text)
pieces-cut c [] h = absurd (omega (arith, h))
pieces-cut c (b ∷ bs) h = cut_step c (b == c) b bs (prefix_len (λ b. not (b == c)) bs) h (pieces-cut c bs)

taken : (c : ℕ) (text : List ℕ) (k : ℕ) → k ≡ prefix_len (λ b. not (b == c)) text → (l : Bool) → nat_lt k (length text) ≡ l → MatchOption (cond l (Some k) None) (pieces c text ≡ text ∷ []) (λ i. pieces c text ≡ take i text ∷ pieces c (drop (suc i) text))
taken c text k is true h = let e : prefix_len (λ b. not (b == c)) text < length text = grind (arith, nat_tests) in rw is (pieces-cut c text e)
taken c text k is false h = let e : length text ≤ prefix_len (λ b. not (b == c)) text = grind (arith, nat_tests) in pieces-whole c text e

-- the pieces of a text by the first place of c
pub pieces_by_position : (c : ℕ) (text : List ℕ) (o : Option ℕ) → o ≡ position (λ b. b == c) text → MatchOption o (pieces c text ≡ text ∷ []) (λ i. pieces c text ≡ take i text ∷ pieces c (drop (suc i) text))
pieces_by_position c text o is = rw is (taken c text (prefix_len (λ b. not (b == c)) text) refl (nat_lt (prefix_len (λ b. not (b == c)) text) (length text)) refl)

sides_onto : (l r : List ℕ) (b : ℕ) (ps : List (List ℕ)) → sides (l ∷ r ∷ onto_first b ps) ≡ None
sides_onto l r b [] = refl
sides_onto l r b (p ∷ ps) = refl

sides_step : (x : Bool) (l r : List ℕ) (b : ℕ) (ps : List (List ℕ)) → sides (l ∷ r ∷ (if x then [] ∷ ps else onto_first b ps)) ≡ None
sides_step true l r b ps = refl
sides_step false l r b ps = sides_onto l r b ps

-- a text with a second cut has no two sides
pub sides_more : (c : ℕ) (l r text : List ℕ) → sides (l ∷ r ∷ pieces c text) ≡ None
sides_more c l r [] = refl
sides_more c l r (b ∷ bs) = sides_step (b == c) l r b (pieces c bs)
