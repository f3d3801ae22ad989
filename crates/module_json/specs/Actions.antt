-- The text of one action, as `Sq2 x0 = x1 + x2`.
use Rattle.std.specs.Prelude.{ℕ, ◌+◌, ◌*◌, ◌-◌, ◌&&◌, ◌||◌, ◌==◌, Bool, false, not, nat_le, if◌then◌else◌, List, [], ◌∷◌, length, Option, Some, None, option_map, option_and_then}
use Rattle.std.specs.List.{list_all}
use Rattle.module_spec.specs.Names.{is_name}

abbrev pub is_digit : ℕ → Bool
is_digit b = nat_le 48 b && nat_le b 57

-- the number that decimal digits write after those of n
abbrev pub number_after : ℕ → List ℕ → ℕ
number_after n [] = n
number_after n (b ∷ bs) = number_after (10 * n + (b - 48)) bs

-- one to three decimal digits, as a number
abbrev pub number_of : List ℕ → Option ℕ
number_of digits =
    if nat_le 1 (length digits) && nat_le (length digits) 3 && list_all is_digit digits
    then Some (number_after 0 digits)
    else None

-- `Sq` and a number
abbrev pub square_of : List ℕ → Option ℕ
square_of (s ∷ q ∷ digits) = if s == 83 && q == 113 then number_of digits else None
square_of (s ∷ []) = None
square_of [] = None

-- b before the first of the words
abbrev pub onto_first : ℕ → List (List ℕ) → List (List ℕ)
onto_first b [] = (b ∷ []) ∷ []
onto_first b (w ∷ ws) = (b ∷ w) ∷ ws

-- the pieces of a text between the bytes c: one more than there are of these
abbrev pub pieces : ℕ → List ℕ → List (List ℕ)
pieces c [] = [] ∷ []
pieces c (b ∷ bs) = if b == c then [] ∷ pieces c bs else onto_first b (pieces c bs)

abbrev pub some_word : List ℕ → List (List ℕ) → List (List ℕ)
some_word [] ws = ws
some_word (b ∷ bs) ws = (b ∷ bs) ∷ ws

abbrev pub without_empty : List (List ℕ) → List (List ℕ)
without_empty [] = []
without_empty (w ∷ ws) = some_word w (without_empty ws)

-- the words of a text, which spaces part
abbrev pub words : List ℕ → List (List ℕ)
words text = without_empty (pieces 32 text)

abbrev pub named : List ℕ → Option (List ℕ)
named word = if is_name word then Some word else None

-- the one element of a list
abbrev pub only : {A : Type 0} → List A → Option A
only [] = None
only (a ∷ []) = Some a
only (a ∷ b ∷ rest) = None

-- a name with spaces round it
abbrev pub one_name : List (List ℕ) → Option (List ℕ)
one_name ws = option_and_then named (only ws)

abbrev pub with_names : List (List ℕ) → Option (List (List ℕ))
with_names [] = Some []
with_names (p ∷ ps) = option_and_then (λ name. option_map (λ names. name ∷ names) (with_names ps)) (one_name (words p))

abbrev pub is_zero_word : Option (List ℕ) → Bool
is_zero_word None = false
is_zero_word (Some []) = false
is_zero_word (Some (b ∷ [])) = b == 48
is_zero_word (Some (b ∷ c ∷ bs)) = false

-- A sum is `0`, or names joined by `+`, with spaces round each.
abbrev pub sum_names : List ℕ → Option (List (List ℕ))
sum_names text = if is_zero_word (only (words text)) then Some [] else with_names (pieces 43 text)

-- A square and the one name that it acts on.
abbrev pub acting : List (List ℕ) → Option (ℕ × List ℕ)
acting [] = None
acting (w ∷ ws) = option_and_then (λ name. option_map (λ n. (n, name)) (square_of w)) (one_name ws)

-- An action as it is written: a square, the name that it acts on, and the names of the sum.
pub record Written : Type 0 where
  pub n : ℕ
  pub name : List ℕ
  pub sum : List (List ℕ)

-- what stands left and right of the one `=`
abbrev pub sides : List (List ℕ) → Option Written
sides (left ∷ right ∷ []) = option_and_then
    (λ a. option_map (λ s. record { n = a.0; name = a.1; sum = s }) (sum_names right)) (acting (words left))
sides [] = None
sides (left ∷ []) = None
sides (left ∷ right ∷ more ∷ ws) = None

-- The action that a text writes, none where it writes none.
abbrev pub action_of : List ℕ → Option Written
action_of text = sides (pieces 61 text)
