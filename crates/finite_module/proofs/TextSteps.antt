-- The steps of the loops that write a module's text.
use Rattle.std.proofs.Common.{◌≡◌, ℕ, zero, suc, ◌+◌, ◌-◌, ◌<◌, ◌≤◌, Bool, true, false, cond, List, [], ◌∷◌, ◌++◌, length, map, take, get_or, codes, decimal, ℤ, pos, ◌+ℤ◌, refl, ap, sym, ◌∙◌, arith, append_assoc}
use Rattle.std.specs.List.{flat_map, range_with_len, items_where_true, list_any}
use Rattle.std.proofs.lemmas.Grind.{flat_map-append}
use Rattle.std.proofs.lemmas.List.{take_more, map-append, append-nil, length-take-le, take_all}
use Rattle.std.proofs.lemmas.List.FromFn.{length-range_with_len}
use Rattle.f2_vec.specs.Vectors.{IsZero}
use Rattle.f2_vec.proofs.Ones.{range_more, items_where_true-push}
use Rattle.f2_vec.proofs.Sums.{IsZero-cons}
use Rattle.milnor_basis.specs.Exponents.{degree_of, trimmed}
use Rattle.module_spec.specs.Spec.{degree_at}
use Rattle.finite_module.specs.Module.{Module, width, value}
use Rattle.finite_module.specs.Operators.{HaveWidths}
use Rattle.finite_module.specs.Text.{newline, name_at, joined_by_plus, sum_text, square_line}

-- the text of one element more
pub flat_map_push : {A : Type 0} (f : A → List ℕ) (xs : List A) (x : A) (text line : List ℕ) → text ≡ flat_map f xs → line ≡ f x → text ++ line ≡ flat_map f (xs ++ x ∷ [])
flat_map_push f xs x text line e l =
    ap (λ t. t ++ line) e ∙ ap (λ t. flat_map f xs ++ t) (l ∙ sym (append-nil (f x))) ∙ sym (flat_map-append f xs (x ∷ []))

pub flat_map_take : {A : Type 0} (f : A → List ℕ) (xs : List A) (i : ℕ) (d : A) (text line : List ℕ) → i < length xs → text ≡ flat_map f (take i xs) → line ≡ f (get_or xs i d) → text ++ line ≡ flat_map f (take (i + 1) xs)
flat_map_take f xs i d text line h e l =
    flat_map_push f (take i xs) (get_or xs i d) text line e l ∙ ap (flat_map f) (sym (take_more xs i d h))

pub flat_map_range : (f : ℕ → List ℕ) (i : ℕ) (text line : List ℕ) → text ≡ flat_map f (range_with_len 0 i) → line ≡ f i → text ++ line ≡ flat_map f (range_with_len 0 (i + 1))
flat_map_range f i text line e l =
    flat_map_push f (range_with_len 0 i) i text line e l ∙ ap (flat_map f) (sym (range_more 0 i i (omega arith)))

-- a text more behind others
joined_by_plus-push : (x : List ℕ) (xs : List (List ℕ)) (y : List ℕ) → joined_by_plus ((x ∷ xs) ++ y ∷ []) ≡ joined_by_plus (x ∷ xs) ++ (codes " + " ++ y)
joined_by_plus-push x [] y = refl
joined_by_plus-push x (z ∷ zs) y =
    ap (λ t. x ++ (codes " + " ++ t)) (joined_by_plus-push z zs y) ∙ sym (append_assoc x (codes " + " ++ joined_by_plus (z ∷ zs)) (codes " + " ++ y))

pub joined_by_plus-first : (f : ℕ → List ℕ) (numbers : List ℕ) (k : ℕ) (text : List ℕ) → k ≤ 0 → k < length numbers → text ≡ joined_by_plus (map f (take k numbers)) → text ++ f (get_or numbers k 0) ≡ joined_by_plus (map f (take (k + 1) numbers))
joined_by_plus-first f [] k text z h e = absurd (omega arith)
joined_by_plus-first f (x ∷ xs) zero text z h e = ap (λ t. t ++ f x) e
joined_by_plus-first f (x ∷ xs) (suc k) text z h e = absurd (omega arith)

pub joined_by_plus-next : (f : ℕ → List ℕ) (numbers : List ℕ) (k : ℕ) (text : List ℕ) → 0 < k → k < length numbers → text ≡ joined_by_plus (map f (take k numbers)) → (text ++ codes " + ") ++ f (get_or numbers k 0) ≡ joined_by_plus (map f (take (k + 1) numbers))
joined_by_plus-next f [] k text z h e = absurd (omega arith)
joined_by_plus-next f (x ∷ xs) zero text z h e = absurd (omega arith)
joined_by_plus-next f (x ∷ xs) (suc k) text z h e =
    let y = get_or (x ∷ xs) (suc k) 0 in
    let more : take (suc k + 1) (x ∷ xs) ≡ take (suc k) (x ∷ xs) ++ y ∷ [] = take_more (x ∷ xs) (suc k) 0 h in
    let joined : joined_by_plus (map f (take (suc k) (x ∷ xs)) ++ f y ∷ []) ≡ joined_by_plus (map f (take (suc k) (x ∷ xs))) ++ (codes " + " ++ f y) = joined_by_plus-push (f x) (map f (take k xs)) (f y) in
    append_assoc text (codes " + ") (f y) ∙ ap (λ t. t ++ (codes " + " ++ f y)) e ∙ sym joined ∙ ap joined_by_plus (sym (map-append f (take (suc k) (x ∷ xs)) (y ∷ []))) ∙ ap (λ t. joined_by_plus (map f t)) (sym more)

-- one place more
pub items_where_true-more : (v : List Bool) (start i : ℕ) (numbers : List ℕ) (b : Bool) → start ≤ i → i - start < length v → numbers ≡ items_where_true (take (i - start) v) (range_with_len start (i - start)) → b ≡ get_or v (i - start) false → numbers ++ cond b (i ∷ []) [] ≡ items_where_true (take (i + 1 - start) v) (range_with_len start (i + 1 - start))
items_where_true-more v start i numbers b l h e f =
    let k = i - start in
    let z : i + 1 - start ≡ k + 1 = omega arith in
    let more : take (k + 1) v ≡ take k v ++ get_or v k false ∷ [] = take_more v k false h in
    let range : range_with_len start (k + 1) ≡ range_with_len start k ++ i ∷ [] = range_more start k i (omega arith) in
    let len : length (take k v) ≡ length (range_with_len start k) = length-take-le k v (omega arith) ∙ sym (length-range_with_len start k) in
    let push = items_where_true-push (take k v) (get_or v k false) (range_with_len start k) i len in
    rw (z, more, range) (ap (λ t. t ++ cond b (i ∷ []) []) e ∙ ap (λ c. items_where_true (take k v) (range_with_len start k) ++ cond c (i ∷ []) []) f ∙ sym push)

-- all places
pub items_where_true-all : (v : List Bool) (start end i : ℕ) (numbers generators : List ℕ) → start ≤ end → i ≡ end → length v ≡ length generators → generators ≡ range_with_len start (end - start) → numbers ≡ items_where_true (take (i - start) v) (range_with_len start (i - start)) → numbers ≡ items_where_true v generators
items_where_true-all v start end i numbers generators h z w g e =
    let n : length v ≡ end - start = w ∙ ap length g ∙ length-range_with_len start (end - start) in
    let all : take (end - start) v ≡ v = take_all (end - start) v (omega arith) in
    e ∙ ap (λ j. items_where_true (take (j - start) v) (range_with_len start (j - start))) z ∙ ap (λ u. items_where_true u (range_with_len start (end - start))) all ∙ ap (items_where_true v) (sym g)

pub any_none : (v : List Bool) → IsZero v → list_any (λ b. b) v ≡ false
any_none [] z = refl
any_none (true ∷ v) z = z 0
any_none (false ∷ v) z = any_none v (λ k. z (suc k))

pub any_some : (v : List Bool) → ¬ IsZero v → list_any (λ b. b) v ≡ true
any_some [] h = absurd (h (λ k. refl))
any_some (true ∷ v) h = refl
any_some (false ∷ v) h = any_some v (λ z. h (IsZero-cons v z))

-- what square_line makes of a value
abbrev written : Module → ℕ → ℕ → Bool → List Bool → List ℕ
written m i n b v = cond b (codes "Sq" ++ (decimal n ++ (codes " " ++ (name_at m.generators i ++ (codes " = " ++ (sum_text m.generators (degree_at m.generators i +ℤ pos n) v ++ newline)))))) []

-- no line where the value is zero, and else this one
pub square_line-none : (m : Module) (i n : ℕ) (r : List ℕ) (v : List Bool) → r ≡ n ∷ [] → v ≡ value m.generators m.operators r i → IsZero v → [] ≡ square_line m i n
square_line-none m i n r v f e z =
    let w : v ≡ value m.generators m.operators (n ∷ []) i = e ∙ ap (λ s. value m.generators m.operators s i) f in
    ap (λ b. written m i n b v) (sym (any_none v z)) ∙ ap (λ u. written m i n (list_any (λ b. b) u) u) w

pub square_line-some : (m : Module) (i n : ℕ) (r : List ℕ) (v : List Bool) (t : ℤ) (name sum : List ℕ) → r ≡ n ∷ [] → v ≡ value m.generators m.operators r i → ¬ IsZero v → name ≡ name_at m.generators i → t ≡ degree_at m.generators i +ℤ pos n → sum ≡ sum_text m.generators t v → codes "Sq" ++ (decimal n ++ (codes " " ++ (name ++ (codes " = " ++ (sum ++ newline))))) ≡ square_line m i n
square_line-some m i n r v t name sum f e z a d s =
    let w : v ≡ value m.generators m.operators (n ∷ []) i = e ∙ ap (λ q. value m.generators m.operators q i) f in
    ap (λ x. codes "Sq" ++ (decimal n ++ (codes " " ++ (x ++ (codes " = " ++ (sum ++ newline)))))) a ∙ ap (λ x. codes "Sq" ++ (decimal n ++ (codes " " ++ (name_at m.generators i ++ (codes " = " ++ (x ++ newline)))))) (s ∙ ap (λ x. sum_text m.generators x v) d) ∙ ap (λ b. written m i n b v) (sym (any_some v z)) ∙ ap (λ u. written m i n (list_any (λ b. b) u) u) w

-- the value of Sq^n on generator i is of n degrees above it
pub square-width : (m : Module) (i n : ℕ) (r : List ℕ) (v : List Bool) (t : ℤ) → HaveWidths m.generators m.operators → r ≡ n ∷ [] → v ≡ value m.generators m.operators r i → t ≡ degree_at m.generators i +ℤ pos n → length v ≡ width m.generators t
square-width m i n r v t h f e d =
    let k : degree_of (n ∷ []) ≡ n = omega arith in
    ap length e ∙ h r i ∙ ap (λ s. width m.generators (degree_at m.generators i +ℤ pos (degree_of s))) f ∙ ap (λ j. width m.generators (degree_at m.generators i +ℤ pos j)) k ∙ ap (width m.generators) (sym d)

-- the exponent of a square
pub trimmed_square : (n : ℕ) → 0 < n → trimmed (n ∷ 0 ∷ 0 ∷ 0 ∷ 0 ∷ 0 ∷ 0 ∷ 0 ∷ []) ≡ n ∷ []
trimmed_square zero h = absurd (omega arith)
trimmed_square (suc n) h = refl
