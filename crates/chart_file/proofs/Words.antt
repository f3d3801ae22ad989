-- Words of which none begins another: bytes are a list of words in one way.
use Rattle.std.proofs.Common.{◌≡◌, ℕ, ◌<◌, ◌≤◌, List, [], ◌∷◌, ◌++◌, length, take, drop, refl, sym, ◌∙◌, ap, append_assoc, arith}
use Rattle.std.specs.List.{flat_map, AllByRecursion}
use Rattle.std.proofs.lemmas.List.{append-nil, length-append, take_at, drop_at}
use Rattle.std.proofs.lemmas.List.Concat.{flat_map-append}

-- lists that are one begin alike
pub same_front : (xs ys r q : List ℕ) → length xs ≡ length ys → xs ++ r ≡ ys ++ q → (xs ≡ ys) × (r ≡ q)
same_front xs ys r q len e = (
  sym (take_at xs r (length xs) refl) ∙ ap (take (length xs)) e ∙ take_at ys q (length xs) (sym len),
  sym (drop_at xs r (length xs) refl) ∙ ap (drop (length xs)) e ∙ drop_at ys q (length xs) (sym len),
)

-- one more word behind the others
pub one_word_more : {A : Type 0} (code : A → List ℕ) (xs : List A) (x : A) (r q bytes : List ℕ) → flat_map code xs ++ r ≡ bytes → code x ++ q ≡ r → flat_map code (xs ++ x ∷ []) ++ q ≡ bytes
one_word_more code xs x r q bytes e next =
    ap (λ (b : List ℕ). b ++ q) (flat_map-append code xs (x ∷ []))
    ∙ append_assoc (flat_map code xs) (code x ++ []) q
    ∙ ap (λ (b : List ℕ). flat_map code xs ++ (b ++ q)) (append-nil (code x))
    ∙ ap (λ (b : List ℕ). flat_map code xs ++ b) next
    ∙ e

-- the bytes begin with a word
pub record IsNextWord {A : Type 0} (P : A → Type 0) (code : A → List ℕ) (r : List ℕ) : Type 0 where
  pub word : A
  pub is : P word
  pub behind : List ℕ
  pub bytes : code word ++ behind ≡ r

-- the words ys are the words xs and others, of which the bytes r are, with q behind them
pub record AreBehind {A : Type 0} (P : A → Type 0) (code : A → List ℕ) (xs ys : List A) (r q : List ℕ) : Type 0 where
  pub rest : List A
  pub split : ys ≡ xs ++ rest
  pub are : AllByRecursion P rest
  pub bytes : r ≡ flat_map code rest ++ q

module _ {A : Type 0} (P : A → Type 0) (code : A → List ℕ) (apart : (x y : A) (r q : List ℕ) → P x → P y → code x ++ r ≡ code y ++ q → (x ≡ y) × (r ≡ q)) where
  pub words_behind : (xs ys : List A) (r q : List ℕ) → AllByRecursion P xs → AllByRecursion P ys → flat_map code xs ++ r ≡ flat_map code ys ++ q → length xs ≤ length ys → AreBehind P code xs ys r q
  words_behind [] ys r q px py e le = record { rest = ys; split = refl; are = py; bytes = e }
  words_behind (x ∷ xs) [] r q px py e le = absurd (omega arith)
  words_behind (x ∷ xs) (y ∷ ys) r q px py e le =
      let moved : code x ++ (flat_map code xs ++ r) ≡ code y ++ (flat_map code ys ++ q) = sym (append_assoc (code x) (flat_map code xs) r) ∙ e ∙ append_assoc (code y) (flat_map code ys) q in
      let first = apart x y (flat_map code xs ++ r) (flat_map code ys ++ q) px.0 py.0 moved in
      let h = words_behind xs ys r q px.1 py.1 first.1 (omega arith) in
      record {
        rest = h.rest;
        split = ap (λ (z : A). z ∷ ys) (sym first.0) ∙ ap (λ (zs : List A). x ∷ zs) h.split;
        are = h.are;
        bytes = h.bytes;
      }

  first_word : (xs : List A) (r q : List ℕ) → AllByRecursion P xs → r ≡ flat_map code xs ++ q → 0 < length xs → IsNextWord P code r
  first_word [] r q px e l = absurd (omega arith)
  first_word (x ∷ xs) r q px e l = record {
    word = x;
    is = px.0;
    behind = flat_map code xs ++ q;
    bytes = sym (append_assoc (code x) (flat_map code xs) q) ∙ sym e;
  }

  -- where there are more words, the next bytes are one
  pub next_word : (xs ys : List A) (r q : List ℕ) → AllByRecursion P xs → AllByRecursion P ys → flat_map code xs ++ r ≡ flat_map code ys ++ q → length xs < length ys → IsNextWord P code r
  next_word xs ys r q px py e l =
      let h = words_behind xs ys r q px py e (omega arith) in
      let all = ap length h.split ∙ length-append xs h.rest in
      first_word h.rest r q h.are h.bytes (omega arith)

  none_behind : (xs ys rest : List A) (r q : List ℕ) → length rest ≡ 0 → ys ≡ xs ++ rest → r ≡ flat_map code rest ++ q → (xs ≡ ys) × (r ≡ q)
  none_behind xs ys [] r q none split e = (sym (split ∙ append-nil xs), e)
  none_behind xs ys (x ∷ rest) r q none split e = absurd (omega arith)

  -- where there are as many, they are the same
  pub same_words : (xs ys : List A) (r q : List ℕ) → AllByRecursion P xs → AllByRecursion P ys → flat_map code xs ++ r ≡ flat_map code ys ++ q → length xs ≡ length ys → (xs ≡ ys) × (r ≡ q)
  same_words xs ys r q px py e len =
      let h = words_behind xs ys r q px py e (omega arith) in
      let all = ap length h.split ∙ length-append xs h.rest in
      none_behind xs ys h.rest r q (omega arith) h.split h.bytes

  -- where there are no more, nothing is left
  pub nothing_left : (xs ys : List A) (r : List ℕ) → AllByRecursion P xs → AllByRecursion P ys → flat_map code xs ++ r ≡ flat_map code ys → length ys ≤ length xs → length r ≡ 0
  nothing_left xs ys r px py e le =
      let h = words_behind ys xs [] r py px (append-nil (flat_map code ys) ∙ sym e) le in
      let all = ap length h.bytes ∙ length-append (flat_map code h.rest) r in
      omega arith

  -- words that take bytes are the same if their bytes are
  pub one_list : ((x : A) → 0 < length (code x)) → (xs ys : List A) → AllByRecursion P xs → AllByRecursion P ys → flat_map code xs ≡ flat_map code ys → xs ≡ ys
  one_list some [] [] px py e = refl
  one_list some [] (y ∷ ys) px py e =
      let first = some y in
      let all = ap length e ∙ length-append (code y) (flat_map code ys) in
      absurd (omega arith)
  one_list some (x ∷ xs) [] px py e =
      let first = some x in
      let all = sym (length-append (code x) (flat_map code xs)) ∙ ap length e in
      absurd (omega arith)
  one_list some (x ∷ xs) (y ∷ ys) px py e =
      let first = apart x y (flat_map code xs) (flat_map code ys) px.0 py.0 e in
      ap (λ (z : A). z ∷ xs) first.0 ∙ ap (λ (zs : List A). y ∷ zs) (one_list some xs ys px.1 py.1 first.1)
