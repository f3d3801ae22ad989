-- A text that `json` prints, with a newline at its end, has the same tokens.
use Rattle.std.proofs.Common.{◌≡◌, ℕ, Bool, true, false, cond, ◌&&◌, List, [], ◌∷◌, ◌++◌, refl, sym, ap, ap₂, ◌∙◌, append_assoc, append-nil}
use Rattle.std.specs.Prelude.{⊤}
use Rattle.json.specs.Token.{Token, begin_object, end_object, begin_array, end_array, key, string, number, boolean, null, bad}
use Rattle.json.specs.Word.{ends_word}
use Rattle.json.specs.Lex.{token, comma, colon, string_token, lex, between, fresh, punctuate, tokens}
use Rattle.json.specs.Print.{escape, quoted, token_text, begins, ends, separator, print_from, print, IsNumber, ArePrintable}
use Rattle.json.proofs.Printed.Strings.{content-escape, lex-escape}
use Rattle.json.proofs.Printed.Numbers.{lex-number}
use Rattle.json.proofs.Printed.Tokens.{tokens-print}

-- brackets, keys, strings and numbers
abbrev pub IsUsed : Token → Type 0
IsUsed begin_object = ⊤
IsUsed end_object = ⊤
IsUsed begin_array = ⊤
IsUsed end_array = ⊤
IsUsed (key s) = ⊤
IsUsed (string s) = ⊤
IsUsed (number s) = IsNumber s
IsUsed (boolean b) = ⊥
IsUsed null = ⊥
IsUsed bad = ⊥

abbrev pub AreUsed : List Token → Type 0
AreUsed [] = ⊤
AreUsed (t ∷ ts) = IsUsed t × AreUsed ts

in_quotes : (s r : List ℕ) → lex between (quoted s ++ r) ≡ token (string s) ∷ lex between r
unfolding lex
in_quotes s r = ap (λ l. lex between (34 ∷ l)) (append_assoc (escape s) (34 ∷ []) r) ∙ ap₂ (λ o l. token (string_token o) ∷ l) (content-escape s r) (lex-escape s r)

-- What two rests have in common, they have behind a token too.
behind_token : (t : Token) (q r : List ℕ) → IsUsed t → (ends t ≡ true → (ends_word q ≡ true) × (ends_word r ≡ true)) → lex between q ≡ lex between r → lex between (token_text t ++ q) ≡ lex between (token_text t ++ r)
unfolding lex
behind_token begin_object q r h ended e = ap (λ l. token begin_object ∷ l) e
behind_token end_object q r h ended e = ap (λ l. token end_object ∷ l) e
behind_token begin_array q r h ended e = ap (λ l. token begin_array ∷ l) e
behind_token end_array q r h ended e = ap (λ l. token end_array ∷ l) e
behind_token (key s) q r h ended e =
    ap (lex between) (append_assoc (quoted s) (58 ∷ []) q) ∙ in_quotes s (58 ∷ q) ∙ ap (λ l. token (string s) ∷ colon ∷ l) e
    ∙ sym (ap (lex between) (append_assoc (quoted s) (58 ∷ []) r) ∙ in_quotes s (58 ∷ r))
behind_token (string s) q r h ended e = in_quotes s q ∙ ap (λ l. token (string s) ∷ l) e ∙ sym (in_quotes s r)
behind_token (number s) q r h ended e = lex-number s q h (ended refl).0 ∙ ap (λ l. token (number s) ∷ l) e ∙ sym (lex-number s r h (ended refl).1)
behind_token (boolean b) q r h ended e = absurd h
behind_token null q r h ended e = absurd h
behind_token bad q r h ended e = absurd h

behind_comma : (b : Bool) (q r : List ℕ) → lex between q ≡ lex between r → lex between (cond b (44 ∷ []) [] ++ q) ≡ lex between (cond b (44 ∷ []) [] ++ r)
unfolding lex
behind_comma true q r e = ap (λ l. comma ∷ l) e
behind_comma false q r e = e

-- behind a value stands a comma, a closing bracket or what follows the whole
value_ends : (ts : List Token) (q : List ℕ) → ends_word q ≡ true → ends_word (print_from true ts ++ q) ≡ true
unfolding print_from
value_ends [] q e = e
value_ends (begin_object ∷ ts) q e = refl
value_ends (end_object ∷ ts) q e = refl
value_ends (begin_array ∷ ts) q e = refl
value_ends (end_array ∷ ts) q e = refl
value_ends (key s ∷ ts) q e = refl
value_ends (string s ∷ ts) q e = refl
value_ends (number s ∷ ts) q e = refl
value_ends (boolean b ∷ ts) q e = refl
value_ends (null ∷ ts) q e = refl
value_ends (bad ∷ ts) q e = refl

with_newline : (c : Bool) (ts : List Token) → AreUsed ts → lex between (print_from c ts ++ 10 ∷ []) ≡ lex between (print_from c ts ++ [])
unfolding lex print_from
with_newline c [] h = refl
with_newline c (t ∷ ts) h =
    let rest = print_from (ends t) ts in
    ap (lex between) (regroup (separator c t) (token_text t) rest (10 ∷ []))
    ∙ behind_comma (c && begins t) (token_text t ++ (rest ++ 10 ∷ [])) (token_text t ++ (rest ++ []))
    (behind_token t (rest ++ 10 ∷ []) (rest ++ []) h.0 (λ e. (ap (λ b. ends_word (print_from b ts ++ 10 ∷ [])) e ∙ value_ends ts (10 ∷ []) refl, ap (λ b. ends_word (print_from b ts ++ [])) e ∙ value_ends ts [] refl)) (with_newline (ends t) ts h.1))
    ∙ sym (ap (lex between) (regroup (separator c t) (token_text t) rest []))
  where
    regroup : (a b c d : List ℕ) → (a ++ (b ++ c)) ++ d ≡ a ++ (b ++ (c ++ d))
    regroup a b c d = append_assoc a (b ++ c) d ∙ ap (λ x. a ++ x) (append_assoc b c d)

printable : (ts : List Token) → AreUsed ts → ArePrintable ts
unfolding ArePrintable
printable [] h = tt
printable (begin_object ∷ ts) h = (tt, printable ts h.1)
printable (end_object ∷ ts) h = (tt, printable ts h.1)
printable (begin_array ∷ ts) h = (tt, printable ts h.1)
printable (end_array ∷ ts) h = (tt, printable ts h.1)
printable (key s ∷ ts) h = (tt, printable ts h.1)
printable (string s ∷ ts) h = (tt, printable ts h.1)
printable (number s ∷ ts) h = (h.0, printable ts h.1)
printable (boolean b ∷ ts) h = absurd h.0
printable (null ∷ ts) h = absurd h.0
printable (bad ∷ ts) h = absurd h.0

pub tokens_with_newline : (ts : List Token) → AreUsed ts → tokens (print ts ++ 10 ∷ []) ≡ ts
tokens_with_newline ts h = ap (punctuate fresh) (with_newline false ts h ∙ ap (lex between) (append-nil (print ts))) ∙ tokens-print ts (printable ts h)
