-- The file of a module as it is written, item by item.
use Rattle.std.specs.List.{All, flat_map, range_with_len, list_any}
use Rattle.std.proofs.Common.{◌≡◌, ℕ, zero, suc, ◌+◌, ◌<◌, ◌≤◌, pos, ◌+ℤ◌, Bool, true, false, if◌then◌else◌, List, [], ◌∷◌, ◌++◌, length, map, take, get_or, codes, decimal, append_assoc, append-nil, refl, ap, sym, ◌∙◌, arith}
use Rattle.std.proofs.lemmas.Grind.{flat_map-append}
use Rattle.std.proofs.lemmas.List.{take_more, map-append}
use Rattle.std.proofs.lemmas.List.Elements.{All-cons, All-nil, All-from_get_or}
use Rattle.f2_vec.specs.Vectors.{IsZero}
use Rattle.f2_vec.proofs.Ones.{range_more}
use Rattle.hopf_laws.proofs.Splittings.{All-flat_map}
use Rattle.module_spec.specs.Spec.{Generator, degree_at, no_generator, powers}
use Rattle.finite_module.specs.Module.{Module}
use Rattle.finite_module.specs.Axioms.{value_of}
use Rattle.finite_module.specs.Text.{name_at, sum_text}
use Rattle.module_build.specs.FileText.{quoted, joined_by_comma, member, action_text, action_of_square, actions}
use Rattle.module_build.specs.Inside.Written.{after_comma, written_after}
use Rattle.finite_module.proofs.TextSteps.{any_none, any_some}

-- ---- items

pub written-append : (text : List ℕ) (xs ys : List (List ℕ)) → written_after text (xs ++ ys) ≡ written_after (written_after text xs) ys
written-append text [] ys = refl
written-append text (x ∷ xs) ys = written-append (after_comma text x) xs ys

-- a square that is written is one from 1 to 64
pub power_small : (i : ℕ) → i < 7 → (0 < get_or powers i 0) × (get_or powers i 0 ≤ 64)
power_small zero l = (omega arith, omega arith)
power_small (suc zero) l = (omega arith, omega arith)
power_small (suc (suc zero)) l = (omega arith, omega arith)
power_small (suc (suc (suc zero))) l = (omega arith, omega arith)
power_small (suc (suc (suc (suc zero)))) l = (omega arith, omega arith)
power_small (suc (suc (suc (suc (suc zero))))) l = (omega arith, omega arith)
power_small (suc (suc (suc (suc (suc (suc zero)))))) l = (omega arith, omega arith)
power_small (suc (suc (suc (suc (suc (suc (suc i))))))) l = absurd (omega arith)

-- one place of a list more
pub written_take : {X : Type 0} (f : X → List (List ℕ)) (xs : List X) (k : ℕ) (d : X) (first text more : List ℕ) → k < length xs → text ≡ written_after first (flat_map f (take k xs)) → more ≡ written_after text (f (get_or xs k d)) → more ≡ written_after first (flat_map f (take (k + 1) xs))
written_take f xs k d first text more l before e =
    e ∙ ap (λ t. written_after t (f (get_or xs k d))) before
    ∙ sym (written-append first (flat_map f (take k xs)) (f (get_or xs k d)))
    ∙ ap (written_after first) (ap (λ ys. flat_map f (take k xs) ++ ys) (sym (append-nil (f (get_or xs k d)))) ∙ sym (flat_map-append f (take k xs) (get_or xs k d ∷ [])) ∙ ap (flat_map f) (sym (take_more xs k d l)))

-- and of the numbers below k
pub written_range : (f : ℕ → List (List ℕ)) (k : ℕ) (first text more : List ℕ) → text ≡ written_after first (flat_map f (range_with_len 0 k)) → more ≡ written_after text (f k) → more ≡ written_after first (flat_map f (range_with_len 0 (k + 1)))
written_range f k first text more before e =
    e ∙ ap (λ t. written_after t (f k)) before
    ∙ sym (written-append first (flat_map f (range_with_len 0 k)) (f k))
    ∙ ap (written_after first) (ap (λ ys. flat_map f (range_with_len 0 k) ++ ys) (sym (append-nil (f k))) ∙ sym (flat_map-append f (range_with_len 0 k) (k ∷ [])) ∙ ap (flat_map f) (sym (range_more 0 k k (omega arith))))

-- one generator more
pub written_member : (gs : List Generator) (k : ℕ) (text more item : List ℕ) → k < length gs → text ≡ written_after [] (map member (take k gs)) → item ≡ member (get_or gs k no_generator) → more ≡ after_comma text item → more ≡ written_after [] (map member (take (k + 1) gs))
written_member gs k text more item l before is e =
    e ∙ ap (after_comma text) is ∙ ap (λ t. after_comma t (member (get_or gs k no_generator))) before
    ∙ sym (written-append [] (map member (take k gs)) (member (get_or gs k no_generator) ∷ []))
    ∙ ap (written_after []) (sym (map-append member (take k gs) (get_or gs k no_generator ∷ [])) ∙ ap (map member) (sym (take_more gs k no_generator l)))

joined-onto : (t x : List ℕ) (xs : List (List ℕ)) → joined_by_comma ((t ++ (codes "," ++ x)) ∷ xs) ≡ t ++ (codes "," ++ joined_by_comma (x ∷ xs))
joined-onto t x [] = refl
joined-onto t x (y ∷ ys) = append_assoc t (codes "," ++ x) (codes "," ++ joined_by_comma (y ∷ ys)) ∙ ap (λ z. t ++ z) (append_assoc (codes ",") x (codes "," ++ joined_by_comma (y ∷ ys)))

written-joined : (b : ℕ) (bs : List ℕ) (xs : List (List ℕ)) → written_after (b ∷ bs) xs ≡ joined_by_comma ((b ∷ bs) ∷ xs)
written-joined b bs [] = refl
written-joined b bs (x ∷ xs) = written-joined b (bs ++ (codes "," ++ x)) xs ∙ joined-onto (b ∷ bs) x xs

abbrev IsSome : List ℕ → Type 0
IsSome t = 0 < length t

-- items that are no empty texts
pub joined : (xs : List (List ℕ)) → All IsSome xs → written_after [] xs ≡ joined_by_comma xs
joined [] h = refl
joined ([] ∷ xs) h = absurd (omega (arith, h 0 [] (omega arith)))
joined ((b ∷ bs) ∷ xs) h = written-joined b bs xs

pub joined_members : (gs : List Generator) → written_after [] (map member gs) ≡ joined_by_comma (map member gs)
joined_members gs = joined (map member gs) (each gs)
  where
    each : (hs : List Generator) → All IsSome (map member hs)
    each [] = All-nil IsSome
    each (h ∷ hs) = All-cons IsSome (member h) (map member hs) (omega arith) (each hs)

pub joined_actions : (m : Module) → written_after [] (actions m) ≡ joined_by_comma (actions m)
joined_actions m =
    joined (actions m)
    (All-flat_map IsSome (λ i. flat_map (action_of_square m i) powers) (λ i. 0 < suc i) (range_with_len 0 (length m.generators)) (All-from_get_or (λ i. 0 < suc i) (range_with_len 0 (length m.generators)) 0 (λ p l. omega arith))
    (λ i l. All-flat_map IsSome (action_of_square m i) (λ n. 0 < suc n) powers (All-from_get_or (λ n. 0 < suc n) powers 0 (λ p k. omega arith))
    (λ n k. at i n (list_any (λ b. b) (value_of m (n ∷ []) i)))))
  where
    at : (i n : ℕ) (b : Bool) → All IsSome (if b then quoted (action_text m i n) ∷ [] else [])
    at i n true = All-cons IsSome (quoted (action_text m i n)) [] (omega arith) (All-nil IsSome)
    at i n false = All-nil IsSome

-- ---- one square

pub action_none : (m : Module) (i n : ℕ) (r : List ℕ) (v : List Bool) → r ≡ n ∷ [] → v ≡ value_of m r i → IsZero v → action_of_square m i n ≡ []
action_none m i n r v f e z =
    ap (λ u. if list_any (λ b. b) u then quoted (action_text m i n) ∷ [] else []) (sym (e ∙ ap (λ s. value_of m s i) f)) ∙ ap (λ b. if b then quoted (action_text m i n) ∷ [] else []) (any_none v z)

pub action_some : (m : Module) (i n : ℕ) (r : List ℕ) (v : List Bool) → r ≡ n ∷ [] → v ≡ value_of m r i → ¬ IsZero v → action_of_square m i n ≡ quoted (action_text m i n) ∷ []
action_some m i n r v f e z =
    ap (λ u. if list_any (λ b. b) u then quoted (action_text m i n) ∷ [] else []) (sym (e ∙ ap (λ s. value_of m s i) f)) ∙ ap (λ b. if b then quoted (action_text m i n) ∷ [] else []) (any_some v z)

pub action_text_is : (m : Module) (i n : ℕ) (r : List ℕ) (v : List Bool) (name sum : List ℕ) → r ≡ n ∷ [] → v ≡ value_of m r i → name ≡ name_at m.generators i → sum ≡ sum_text m.generators (degree_at m.generators i +ℤ pos n) v
    → codes "Sq" ++ (decimal n ++ (codes " " ++ (name ++ (codes " = " ++ sum)))) ≡ action_text m i n
action_text_is m i n r v name sum f e a s =
    ap (λ x. codes "Sq" ++ (decimal n ++ (codes " " ++ (x ++ (codes " = " ++ sum))))) a
    ∙ ap (λ x. codes "Sq" ++ (decimal n ++ (codes " " ++ (name_at m.generators i ++ (codes " = " ++ x))))) (s ∙ ap (sum_text m.generators (degree_at m.generators i +ℤ pos n)) (e ∙ ap (λ q. value_of m q i) f))

-- ---- the whole

regroup : (a m b n e : List ℕ) → (((a ++ m) ++ b) ++ n) ++ e ≡ a ++ (m ++ (b ++ (n ++ e)))
regroup a m b n e = simp append_assoc

pub whole_text : (a m b n e t1 t2 t3 t4 t5 : List ℕ) → t1 ≡ a → t2 ≡ t1 ++ m → t3 ≡ t2 ++ b → t4 ≡ t3 ++ n → t5 ≡ t4 ++ e → t5 ≡ a ++ (m ++ (b ++ (n ++ e)))
whole_text a m b n e t1 t2 t3 t4 t5 h i j k l = l ∙ ap (λ t. t ++ e) (k ∙ ap (λ t. t ++ n) (j ∙ ap (λ t. t ++ b) (i ∙ ap (λ t. t ++ m) h))) ∙ regroup a m b n e
