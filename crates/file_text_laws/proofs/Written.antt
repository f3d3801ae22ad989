-- The text of a module's file is that of a JSON value, with a newline at its end.
use Rattle.std.specs.Prelude.{nat_le}
use Rattle.std.specs.Fmt.{signed_decimal, digits}
use Rattle.std.specs.List.{flat_map, list_all}
use Rattle.std.proofs.Common.{◌≡◌, ℕ, ◌≤◌, ℤ, pos, negsuc, inl, inr, Bool, true, false, ◌||◌, ◌==◌, if◌then◌else◌, List, [], ◌∷◌, ◌++◌, map, codes, refl, sym, ap, ◌∙◌, append_assoc}
use Rattle.std.proofs.lemmas.Bool.{cases_eq, and_parts, ne_eqb, leb-true}
use Rattle.json.specs.Print as json
use Rattle.json.specs.Print.{escape_byte}
use Rattle.json.proofs.Printed.Strings.{escape_byte_plain}
use Rattle.serde_json.specs.Data.{Num, unsigned, negative, Data, number, string, array, object, Items, no_items, item, Members, no_members, member as with_member}
use Rattle.serde_json.specs.Written.{number_text, compact_text, items_text, members_text}
use Rattle.module_spec.specs.Spec.{Generator}
use Rattle.module_build.specs.FileText.{escaped, quoted, joined_by_comma, member}

-- ---- texts

-- no control character
abbrev pub is_plain : List ℕ → Bool
is_plain = list_all (nat_le 32)

escaped_same : (x : ℕ) → 32 ≤ x → escape_byte x ≡ escaped x
unfolding escape_byte
escaped_same x l = elim (cases_eq x 34) [
  | inl e ↦ ap escape_byte e ∙ sym (ap escaped e)
  | inr q ↦ elim (cases_eq x 92) [
    | inl e ↦ ap escape_byte e ∙ sym (ap escaped e)
    | inr b ↦ escape_byte_plain x q b l ∙ sym (ap (λ c. if c || x == 92 then 92 ∷ x ∷ [] else x ∷ []) (ne_eqb x 34 q) ∙ ap (λ c. if c then 92 ∷ x ∷ [] else x ∷ []) (ne_eqb x 92 b))
  ]
]

all_escaped : (s : List ℕ) → is_plain s ≡ true → json.escape s ≡ flat_map escaped s
all_escaped [] h = refl
all_escaped (x ∷ xs) h = let both = and_parts (nat_le 32 x) (is_plain xs) h in ap (λ l. l ++ json.escape xs) (escaped_same x (leb-true 32 x both.0)) ∙ ap (λ l. escaped x ++ l) (all_escaped xs both.1)

pub quoted_same : (s : List ℕ) → is_plain s ≡ true → json.quoted s ≡ quoted s
quoted_same s h = ap (λ l. 34 ∷ (l ++ 34 ∷ [])) (all_escaped s h)

-- ---- generators

abbrev pub number_from : ℤ → Num
number_from (pos n) = unsigned n
number_from (negsuc n) = negative (negsuc n)

pub degree_text : (z : ℤ) → number_text (number_from z) ≡ signed_decimal z
degree_text (pos n) = refl
degree_text (negsuc n) = refl

abbrev pub members_of : List Generator → Members
members_of [] = no_members
members_of (g ∷ gs) = with_member g.name (number (number_from g.degree)) (members_of gs)

abbrev pub have_plain_names : List Generator → Bool
have_plain_names = list_all (λ g. is_plain g.name)

member_same : (g : Generator) (rest : List ℕ) → is_plain g.name ≡ true → json.quoted g.name ++ 58 ∷ (compact_text (number (number_from g.degree)) ++ rest) ≡ member g ++ rest
member_same g rest h =
    ap (λ q. q ++ 58 ∷ (compact_text (number (number_from g.degree)) ++ rest)) (quoted_same g.name h)
    ∙ ap (λ t. quoted g.name ++ 58 ∷ (t ++ rest)) (degree_text g.degree)
    ∙ sym (append_assoc (quoted g.name) (58 ∷ signed_decimal g.degree) rest)

more_written : (g : Generator) (gs : List Generator) → have_plain_names gs ≡ true → member g ++ members_text true (members_of gs) ≡ joined_by_comma (map member (g ∷ gs)) ++ 125 ∷ []
more_written g [] h = refl
more_written g (x ∷ xs) h =
    let both = and_parts (is_plain x.name) (have_plain_names xs) h in
    ap (λ t. member g ++ 44 ∷ t) (member_same x (members_text true (members_of xs)) both.0 ∙ more_written x xs both.1)
    ∙ sym (append_assoc (member g) (44 ∷ joined_by_comma (map member (x ∷ xs))) (125 ∷ []))

pub members_written : (gs : List Generator) → have_plain_names gs ≡ true → members_text false (members_of gs) ≡ joined_by_comma (map member gs) ++ 125 ∷ []
members_written [] h = refl
members_written (g ∷ gs) h =
    let both = and_parts (is_plain g.name) (have_plain_names gs) h in
    member_same g (members_text true (members_of gs)) both.0 ∙ more_written g gs both.1

-- ---- actions

abbrev pub items_of : List (List ℕ) → Items
items_of [] = no_items
items_of (t ∷ ts) = item (string t) (items_of ts)

abbrev pub are_plain : List (List ℕ) → Bool
are_plain = list_all is_plain

more_items : (t : List ℕ) (ts : List (List ℕ)) → are_plain ts ≡ true → quoted t ++ items_text true (items_of ts) ≡ joined_by_comma (map quoted (t ∷ ts)) ++ 93 ∷ []
more_items t [] h = refl
more_items t (x ∷ xs) h =
    let both = and_parts (is_plain x) (are_plain xs) h in
    ap (λ u. quoted t ++ 44 ∷ u) (ap (λ q. q ++ items_text true (items_of xs)) (quoted_same x both.0) ∙ more_items x xs both.1)
    ∙ sym (append_assoc (quoted t) (44 ∷ joined_by_comma (map quoted (x ∷ xs))) (93 ∷ []))

pub items_written : (ts : List (List ℕ)) → are_plain ts ≡ true → items_text false (items_of ts) ≡ joined_by_comma (map quoted ts) ++ 93 ∷ []
items_written [] h = refl
items_written (t ∷ ts) h =
    let both = and_parts (is_plain t) (are_plain ts) h in
    ap (λ q. q ++ items_text true (items_of ts)) (quoted_same t both.0) ∙ more_items t ts both.1

-- ---- the whole

abbrev pub data_of : List Generator → List (List ℕ) → Data
data_of gs ts = object (with_member (codes "type") (string (codes "finite dimensional module")) (with_member (codes "p") (number (unsigned 2)) (with_member (codes "gens") (object (members_of gs)) (with_member (codes "actions") (array (items_of ts)) no_members))))

abbrev pub text_of : List Generator → List (List ℕ) → List ℕ
text_of gs ts = codes "{\"type\":\"finite dimensional module\",\"p\":2,\"gens\":{" ++ (joined_by_comma (map member gs) ++ (codes "},\"actions\":[" ++ (joined_by_comma (map quoted ts) ++ (codes "]}" ++ 10 ∷ []))))

pub text_written : (gs : List Generator) (ts : List (List ℕ)) → have_plain_names gs ≡ true → are_plain ts ≡ true → compact_text (data_of gs ts) ++ 10 ∷ [] ≡ text_of gs ts
unfolding escape_byte digits
text_written gs ts h k =
    let before : List ℕ = codes "{\"type\":\"finite dimensional module\",\"p\":2,\"gens\":{" in
    let middle : List ℕ = codes ",\"actions\":[" in
    let ms : List ℕ = joined_by_comma (map member gs) in
    let acts : List ℕ = joined_by_comma (map quoted ts) in
    ap (λ m. before ++ (m ++ (middle ++ (items_text false (items_of ts) ++ 125 ∷ []))) ++ 10 ∷ []) (members_written gs h)
    ∙ ap (λ a. before ++ ((ms ++ 125 ∷ []) ++ (middle ++ (a ++ 125 ∷ []))) ++ 10 ∷ []) (items_written ts k)
    ∙ ap (λ x. before ++ x) (regroup ms acts middle)
  where
    regroup : (ms acts middle : List ℕ) → ((ms ++ 125 ∷ []) ++ (middle ++ ((acts ++ 93 ∷ []) ++ 125 ∷ []))) ++ 10 ∷ [] ≡ ms ++ (125 ∷ middle ++ (acts ++ 93 ∷ 125 ∷ 10 ∷ []))
    regroup ms acts middle = simp append_assoc
