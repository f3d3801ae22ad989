-- The text of an action is read as the square, the generator and the sum that it writes.
use Rattle.std.specs.Prelude.{nat_le, nat_lt}
use Rattle.std.specs.Fmt.{digits}
use Rattle.std.specs.List.{list_all}
use Rattle.std.proofs.Common.{◌≡◌, ℕ, Bool, true, false, not, ◌&&◌, ◌==◌, if◌then◌else◌, List, [], ◌∷◌, ◌++◌, length, codes, decimal, Some, None, option_map, option_and_then, refl, sym, ap, ◌∙◌, append_assoc}
use Rattle.std.proofs.lemmas.Bool.{and_parts, eq-eqb, false≢true, not-true}
use Rattle.std.proofs.lemmas.List.Folds.{list_all-append}
use Rattle.serde_json.specs.Data.{string}
use Rattle.module_spec.specs.Names.{is_name}
use Rattle.module_json.specs.Actions.{square_of, pieces, onto_first, some_word, without_empty, words, only, one_name, with_names, is_zero_word, sum_names, acting, sides, action_of}
use Rattle.module_json.specs.ModuleFile.{written}
use Rattle.finite_module.specs.Text.{joined_by_plus}

-- visible characters and spaces
abbrev pub is_visible : List ℕ → Bool
is_visible = list_all (λ x. nat_le 32 x && nat_lt x 128)

-- ---- pieces

-- a byte does not stand in a text
abbrev pub is_without : ℕ → List ℕ → Bool
is_without c = list_all (λ b. not (b == c))

pieces_whole : (c : ℕ) (xs : List ℕ) → is_without c xs ≡ true → pieces c xs ≡ xs ∷ []
pieces_whole c [] h = refl
pieces_whole c (x ∷ xs) h = let both = and_parts (not (x == c)) (is_without c xs) h in at (x == c) both.0 (pieces_whole c xs both.1)
  where
    at : (b : Bool) → not b ≡ true → pieces c xs ≡ xs ∷ [] → (if b then [] ∷ pieces c xs else onto_first x (pieces c xs)) ≡ (x ∷ xs) ∷ []
    at true n e = absurd (false≢true n)
    at false n e = ap (onto_first x) e

same_byte : (c : ℕ) (ys : List ℕ) → pieces c (c ∷ ys) ≡ [] ∷ pieces c ys
same_byte c ys = ap (λ b. if b then [] ∷ pieces c ys else onto_first c (pieces c ys)) (eq-eqb c c refl)

pieces_at : (c : ℕ) (xs ys : List ℕ) → is_without c xs ≡ true → pieces c (xs ++ c ∷ ys) ≡ xs ∷ pieces c ys
pieces_at c [] ys h = same_byte c ys
pieces_at c (x ∷ xs) ys h = let both = and_parts (not (x == c)) (is_without c xs) h in at (x == c) both.0 (pieces_at c xs ys both.1)
  where
    at : (b : Bool) → not b ≡ true → pieces c (xs ++ c ∷ ys) ≡ xs ∷ pieces c ys → (if b then [] ∷ pieces c (xs ++ c ∷ ys) else onto_first x (pieces c (xs ++ c ∷ ys))) ≡ (x ∷ xs) ∷ pieces c ys
    at true n e = absurd (false≢true n)
    at false n e = ap (onto_first x) e

-- ---- names

-- what is asked of a name: it is one, and holds no space
pub record IsWord (w : List ℕ) : Type 0 where
  pub name : is_name w ≡ true
  pub spaces : is_without 32 w ≡ true
  pub pluses : is_without 43 w ≡ true
  pub equals : is_without 61 w ≡ true
  pub long : is_zero_word (Some w) ≡ false

one_word : (w : List ℕ) (ws : List (List ℕ)) → is_name w ≡ true → some_word w ws ≡ w ∷ ws
one_word [] ws h = absurd (false≢true h)
one_word (b ∷ bs) ws h = refl

words_one : (w : List ℕ) → IsWord w → words (32 ∷ w) ≡ w ∷ []
words_one w h = ap without_empty (same_byte 32 w ∙ ap (λ ps. [] ∷ ps) (pieces_whole 32 w h.spaces)) ∙ one_word w [] h.name

words_between : (w : List ℕ) → IsWord w → words (32 ∷ w ++ 32 ∷ []) ≡ w ∷ []
words_between w h = ap without_empty (same_byte 32 (w ++ 32 ∷ []) ∙ ap (λ ps. [] ∷ ps) (pieces_at 32 w [] h.spaces)) ∙ one_word w [] h.name

is_named : (w : List ℕ) → is_name w ≡ true → one_name (w ∷ []) ≡ Some w
is_named w h = ap (λ b. if b then Some w else None) h

-- ---- sums

abbrev pub AreWords : List (List ℕ) → Type 0
AreWords [] = Unit {0}
AreWords (w ∷ ws) = IsWord w × AreWords ws

one_more : (w : List ℕ) (text : List ℕ) (ps : List (List ℕ)) (names : List (List ℕ)) → words text ≡ w ∷ [] → is_name w ≡ true → with_names ps ≡ Some names → with_names (text ∷ ps) ≡ Some (w ∷ names)
one_more w text ps names e h rest =
    ap (λ o. option_and_then (λ name. option_map (λ names. name ∷ names) (with_names ps)) o) (ap one_name e ∙ is_named w h)
    ∙ ap (option_map (λ names. w ∷ names)) rest

without_plus : (w : List ℕ) → IsWord w → is_without 43 (32 ∷ w ++ 32 ∷ []) ≡ true
without_plus w h = list_all-append (λ b. not (b == 43)) w (32 ∷ []) ∙ ap (λ b. b && true) h.pluses

names_read : (w : List ℕ) (ws : List (List ℕ)) → IsWord w → AreWords ws → with_names (pieces 43 (32 ∷ joined_by_plus (w ∷ ws))) ≡ Some (w ∷ ws)
names_read w [] h k = ap with_names (pieces_whole 43 (32 ∷ w) h.pluses) ∙ one_more w (32 ∷ w) [] [] (words_one w h) h.name refl
names_read w (x ∷ xs) h k =
    ap (λ t. with_names (pieces 43 (32 ∷ t))) (sym (append_assoc w (32 ∷ []) (43 ∷ 32 ∷ joined_by_plus (x ∷ xs))))
    ∙ ap with_names (pieces_at 43 (32 ∷ w ++ 32 ∷ []) (32 ∷ joined_by_plus (x ∷ xs)) (without_plus w h))
    ∙ one_more w (32 ∷ w ++ 32 ∷ []) (pieces 43 (32 ∷ joined_by_plus (x ∷ xs))) (x ∷ xs) (words_between w h) h.name (names_read x xs k.0 k.1)

first_word : (w : List ℕ) (ws : List (List ℕ)) → IsWord w → (rest : List (List ℕ)) × (words (32 ∷ joined_by_plus (w ∷ ws)) ≡ w ∷ rest)
first_word w [] h = ([], words_one w h)
first_word w (x ∷ xs) h =
    let after : List ℕ = 43 ∷ 32 ∷ joined_by_plus (x ∷ xs) in (
      without_empty (pieces 32 after),
      ap without_empty (same_byte 32 (w ++ 32 ∷ after) ∙ ap (λ ps. [] ∷ ps) (pieces_at 32 w after h.spaces)) ∙ one_word w (without_empty (pieces 32 after)) h.name,
    )

not_zero : (w : List ℕ) (rest : List (List ℕ)) → IsWord w → is_zero_word (only (w ∷ rest)) ≡ false
not_zero w [] h = h.long
not_zero w (x ∷ xs) h = refl

sum_read : (w : List ℕ) (ws : List (List ℕ)) → IsWord w → AreWords ws → sum_names (32 ∷ joined_by_plus (w ∷ ws)) ≡ Some (w ∷ ws)
sum_read w ws h k =
    let first = first_word w ws h in
    ap (λ b. if b then Some [] else with_names (pieces 43 (32 ∷ joined_by_plus (w ∷ ws)))) (ap (λ us. is_zero_word (only us)) first.1 ∙ not_zero w first.0 h)
    ∙ names_read w ws h k

-- ---- the whole

abbrev pub line : ℕ → List ℕ → List (List ℕ) → List ℕ
line n name names = codes "Sq" ++ (decimal n ++ (codes " " ++ (name ++ (codes " = " ++ joined_by_plus names))))

-- a square as it is written
pub record IsSquare (n : ℕ) : Type 0 where
  pub read : square_of (codes "Sq" ++ decimal n) ≡ Some n
  pub spaces : is_without 32 (codes "Sq" ++ decimal n) ≡ true
  pub equals : is_without 61 (codes "Sq" ++ decimal n) ≡ true
  pub visible : is_visible (codes "Sq" ++ decimal n) ≡ true
  pub short : nat_le (length (codes "Sq" ++ decimal n)) 4 ≡ true

left_read : (n : ℕ) (w : List ℕ) → IsSquare n → IsWord w → acting (words ((codes "Sq" ++ decimal n) ++ 32 ∷ (w ++ 32 ∷ []))) ≡ Some (n, w)
left_read n w s h =
    let square : List ℕ = codes "Sq" ++ decimal n in
    ap (λ ps. acting (without_empty ps)) (pieces_at 32 square (w ++ 32 ∷ []) s.spaces ∙ ap (λ ps. square ∷ ps) (pieces_at 32 w [] h.spaces))
    ∙ ap (λ ws. acting (square ∷ ws)) (one_word w [] h.name)
    ∙ ap (λ o. option_and_then (λ name. option_map (λ n. (n, name)) (square_of square)) o) (is_named w h.name)
    ∙ ap (λ o. option_map (λ n. (n, w)) o) s.read

left_without : (n : ℕ) (w : List ℕ) → IsSquare n → IsWord w → is_without 61 ((codes "Sq" ++ decimal n) ++ 32 ∷ (w ++ 32 ∷ [])) ≡ true
left_without n w s h =
    list_all-append (λ b. not (b == 61)) (codes "Sq" ++ decimal n) (32 ∷ (w ++ 32 ∷ []))
    ∙ ap (λ b. b && is_without 61 (w ++ 32 ∷ [])) s.equals
    ∙ list_all-append (λ b. not (b == 61)) w (32 ∷ [])
    ∙ ap (λ b. b && true) h.equals

right_without : (w : List ℕ) (ws : List (List ℕ)) → IsWord w → AreWords ws → is_without 61 (joined_by_plus (w ∷ ws)) ≡ true
right_without w [] h k = h.equals
right_without w (x ∷ xs) h k =
    list_all-append (λ b. not (b == 61)) w (32 ∷ 43 ∷ 32 ∷ joined_by_plus (x ∷ xs))
    ∙ ap (λ b. b && is_without 61 (joined_by_plus (x ∷ xs))) h.equals
    ∙ right_without x xs k.0 k.1

pub line_read : (n : ℕ) (name w : List ℕ) (ws : List (List ℕ)) → IsSquare n → IsWord name → IsWord w → AreWords ws → written (string (line n name (w ∷ ws))) ≡ Some (record { n = n; name = name; sum = w ∷ ws })
line_read n name w ws s g h k =
    let left : List ℕ = (codes "Sq" ++ decimal n) ++ 32 ∷ (name ++ 32 ∷ []) in
    let right : List ℕ = 32 ∷ joined_by_plus (w ∷ ws) in
    ap action_of (regroup (codes "Sq") (decimal n) name (joined_by_plus (w ∷ ws)))
    ∙ ap sides (pieces_at 61 left right (left_without n name s g) ∙ ap (λ ps. left ∷ ps) (pieces_whole 61 right (right_without w ws h k)))
    ∙ ap (λ o. option_and_then (λ (a : ℕ × List ℕ). option_map (λ s. record { n = a.0; name = a.1; sum = s }) (sum_names right)) o) (left_read n name s g)
    ∙ ap (option_map (λ s. record { n = n; name = name; sum = s })) (sum_read w ws h k)
  where
    regroup : (sq d name sum : List ℕ) → sq ++ (d ++ (32 ∷ (name ++ (32 ∷ 61 ∷ 32 ∷ sum)))) ≡ ((sq ++ d) ++ 32 ∷ (name ++ 32 ∷ [])) ++ 61 ∷ 32 ∷ sum
    regroup sq d name sum = simp append_assoc

-- ---- the names and the squares of a file

abbrev pub is_word : List ℕ → Bool
is_word w = is_name w && (is_without 32 w && (is_without 43 w && (is_without 61 w && not (is_zero_word (Some w)))))

pub word_is : (w : List ℕ) → is_word w ≡ true → IsWord w
word_is w h =
    let a = and_parts (is_name w) (is_without 32 w && (is_without 43 w && (is_without 61 w && not (is_zero_word (Some w))))) h in
    let b = and_parts (is_without 32 w) (is_without 43 w && (is_without 61 w && not (is_zero_word (Some w)))) a.1 in
    let c = and_parts (is_without 43 w) (is_without 61 w && not (is_zero_word (Some w))) b.1 in
    let d = and_parts (is_without 61 w) (not (is_zero_word (Some w))) c.1 in
    record { name = a.0; spaces = b.0; pluses = c.0; equals = d.0; long = not-true (is_zero_word (Some w)) d.1 }

pub squares_read : IsSquare 1 × (IsSquare 2 × (IsSquare 4 × (IsSquare 8 × (IsSquare 16 × (IsSquare 32 × IsSquare 64)))))
unfolding digits
squares_read = (record { read = refl; spaces = refl; equals = refl; visible = refl; short = refl }, (record { read = refl; spaces = refl; equals = refl; visible = refl; short = refl }, (record { read = refl; spaces = refl; equals = refl; visible = refl; short = refl }, (record { read = refl; spaces = refl; equals = refl; visible = refl; short = refl }, (record { read = refl; spaces = refl; equals = refl; visible = refl; short = refl }, (record { read = refl; spaces = refl; equals = refl; visible = refl; short = refl }, record { read = refl; spaces = refl; equals = refl; visible = refl; short = refl }))))))
