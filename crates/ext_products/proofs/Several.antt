-- What is told of the products with several classes, one after another.
use Rattle.std.proofs.Common.{◌≡◌, ℕ, ◌+◌, ◌<◌, ◌≤◌, ◌⊎◌, inl, inr, Bool, false, List, [], ◌∷◌, ◌++◌, length, take, drop, get_or, refl, ap, ap₂, sym, subst, ◌∙◌, append-nil, append_assoc}
use Rattle.std.specs.Prelude.{Option, Some, None, option_map, MatchOption, Result, Ok, Err, IsOkAnd, nat_lt}
use Rattle.std.specs.Option.{option_or}
use Rattle.std.proofs.lemmas.List.{at_drop_more, take_all, take_more}
use Rattle.bidegree.specs.declared.range.Range.{Range}
use Rattle.bidegree.specs.declared.shape.Shape.{Shape}
use Rattle.bidegree.specs.declared.class.Class.{Class}
use Rattle.lift_laws.specs.Lifts.{Resolution, EachClassLifts}
use Rattle.lift_laws.specs.Products.{LiftsGiveOneProduct}
use Rattle.chain_map.specs.Classes.{missing_in}
use Rattle.ext_products.specs.declared.refusal.Refusal.{Refusal}
use Rattle.ext_products.specs.declared.refusal.Refusal.TheVariants.{NoClass}
use Rattle.ext_products.specs.declared.refusal.Named.TheVariants.{By}
use Rattle.ext_products.specs.Products.{OneEach, IsProductsText, IsAnswerOfOne, headed, headed_texts, AreProductsTexts, first_missing, IsProductsAnswer, ProductsAnswerOfOne, ProductsAnswerOfEach, HasAnswer, HasOneAnswer}
use Rattle.ext_products.proofs.Answers.{one-exists, text-unique}
use Rattle.ext_products.proofs.OneEach.{OneEach-append, OneEach-map, OneEach-unique}

-- ---- texts, one behind another

headed-append : (R : Class → List ℕ → Type 0) (named : Bool) (by : List Class) (texts : List (List ℕ)) (c : Class) (t : List ℕ) → OneEach R by texts →
    headed_texts named (by ++ c ∷ []) (texts ++ t ∷ []) ≡ headed_texts named by texts ++ headed named c t
headed-append R named [] [] c t h = append-nil (headed named c t)
headed-append R named [] (x ∷ texts) c t h = absurd h
headed-append R named (b ∷ by) [] c t h = absurd h
headed-append R named (b ∷ by) (x ∷ texts) c t h =
    ap (λ (rest : List ℕ). headed named b x ++ rest) (headed-append R named by texts c t h.1)
    ∙ sym (append_assoc (headed named b x) (headed_texts named by texts) (headed named c t))

-- text is that of these classes, of which each has a text of which this is told
pub record AreHeaded (IsTold : Class → List ℕ → Type 0) (named : Bool) (by : List Class) (text : List ℕ) : Type 0 where
  pub texts : List (List ℕ)
  pub each : OneEach IsTold by texts
  pub is : text ≡ headed_texts named by texts

module _ (IsTold : Class → List ℕ → Type 0) (named : Bool) where
  pub headed-none : (by : List Class) → AreHeaded IsTold named (take 0 by) []
  headed-none by = record { texts = []; each = tt; is = refl }

  pub headed-more : (by : List Class) (i : ℕ) (d : Class) (text t lines new : List ℕ) → i < length by → AreHeaded IsTold named (take i by) text → IsTold (get_or by i d) t → lines ≡ t → new ≡ text ++ headed named (get_or by i d) lines → AreHeaded IsTold named (take (i + 1) by) new
  headed-more by i d text t lines new within so_far told same grown =
      let c = get_or by i d in
      let more : take i by ++ c ∷ [] ≡ take (i + 1) by = sym (take_more by i d within) in
      record {
        texts = so_far.texts ++ t ∷ [];
        each = subst (λ (cs : List Class). OneEach IsTold cs (so_far.texts ++ t ∷ [])) more (OneEach-append IsTold (take i by) (c ∷ []) so_far.texts (t ∷ []) so_far.each (told, tt));
        is = grown ∙ (ap₂ (λ (x l : List ℕ). x ++ headed named c l) so_far.is same ∙ (sym (headed-append IsTold named (take i by) so_far.texts c t so_far.each) ∙ ap (λ (cs : List Class). headed_texts named cs (so_far.texts ++ t ∷ [])) more));
      }

  pub headed-all : (by : List Class) (i : ℕ) (text : List ℕ) → length by ≤ i → AreHeaded IsTold named (take i by) text → AreHeaded IsTold named by text
  headed-all by i text past so_far = subst (λ (cs : List Class). AreHeaded IsTold named cs text) (take_all i by past) so_far

-- what is told of each says something else
pub headed-map : (P S : Class → List ℕ → Type 0) (named : Bool) → ((c : Class) (t : List ℕ) → P c t → S c t) → (by : List Class) (text : List ℕ) → AreHeaded P named by text → AreHeaded S named by text
headed-map P S named to by text h = record { texts = h.texts; each = OneEach-map P S to by h.texts h.each; is = h.is }

-- ---- over two resolutions

module _ (shape : Shape) (range : Range) (r q : Resolution) where
  text-by : (c : Class) (t : List ℕ) (o : Option ℕ) → MatchOption o (IsOkAnd {E = Refusal} (Ok t) (IsProductsText shape range c r q)) (λ n. ◌≡◌ {A = Result (List ℕ) Refusal} (Ok t) (Err (NoClass By c n))) → (o ≡ None) × IsProductsText shape range c r q t
  text-by c t None h = (refl, h)
  text-by c t (Some n) h = absurd (cc)

  -- a class of which a text is told is there
  pub text-of : (c : Class) (t : List ℕ) → IsAnswerOfOne shape range c r q (Ok t) → (missing_in q c ≡ None) × IsProductsText shape range c r q t
  text-of c t h = text-by c t (missing_in q c) h

  pub later-missing : (c : Class) (others : List Class) → missing_in q c ≡ None → first_missing q (c ∷ others) ≡ first_missing q others
  later-missing c others there = ap (λ (o : Option ℕ). option_or (option_map (λ n. (c, n)) o) (first_missing q others)) there

  pub now-missing : (c : Class) (others : List Class) (n : ℕ) → missing_in q c ≡ Some n → first_missing q (c ∷ others) ≡ Some (c, n)
  now-missing c others n missing = ap (λ (o : Option ℕ). option_or (option_map (λ n. (c, n)) o) (first_missing q others)) missing

  texts-of : (by : List Class) (texts : List (List ℕ)) → OneEach (λ c t. IsAnswerOfOne shape range c r q (Ok t)) by texts → (first_missing q by ≡ None) × OneEach (λ c t. IsProductsText shape range c r q t) by texts
  texts-of [] [] h = (refl, tt)
  texts-of [] (t ∷ texts) h = absurd h
  texts-of (c ∷ by) [] h = absurd h
  texts-of (c ∷ by) (t ∷ texts) h =
      let one = text-of c t h.0 in
      let rest = texts-of by texts h.1 in
      (later-missing c by one.0 ∙ rest.0, (one.1, rest.1))

  pub each-told : (by : List Class) (text : List ℕ) → AreHeaded (λ c t. IsAnswerOfOne shape range c r q (Ok t)) (nat_lt 1 (length by)) by text → IsProductsAnswer shape range by r q (Ok text)
  each-told by text headed =
      let all = texts-of by headed.texts headed.each in
      subst (λ (o : Option (Class × ℕ)). MatchOption o (IsOkAnd {E = Refusal} (Ok text) (AreProductsTexts shape range by r q)) (λ p. ◌≡◌ {A = Result (List ℕ) Refusal} (Ok text) (Err (NoClass By p.0 p.1)))) (sym all.0)
      (record { texts = headed.texts; each = all.1; is = headed.is })

  -- a class that is missing, with how many are there
  err-by : (c : Class) (e : Refusal) (o : Option ℕ) → MatchOption o (IsOkAnd (Err e) (IsProductsText shape range c r q)) (λ n. ◌≡◌ {A = Result (List ℕ) Refusal} (Err e) (Err (NoClass By c n))) → (n : ℕ) × (o ≡ Some n) × (◌≡◌ {A = Result (List ℕ) Refusal} (Err e) (Err (NoClass By c n)))
  err-by c e None h = absurd h
  err-by c e (Some n) h = (n, refl, h)

  pub missing-told : (by : List Class) (c : Class) (n : ℕ) → first_missing q by ≡ Some (c, n) → IsProductsAnswer shape range by r q (Err (NoClass By c n))
  missing-told by c n missing =
      let answer : Result (List ℕ) Refusal = Err (NoClass By c n) in
      subst (λ (o : Option (Class × ℕ)). MatchOption o (IsOkAnd answer (AreProductsTexts shape range by r q)) (λ p. answer ≡ Err (NoClass By p.0 p.1))) (sym missing) refl

  -- what is refused of a class behind those that are there is refused of all
  pub refused-told : (by : List Class) (i : ℕ) (d : Class) (e : Refusal) → i < length by → first_missing q by ≡ first_missing q (drop i by) → IsAnswerOfOne shape range (get_or by i d) r q (Err e) → IsProductsAnswer shape range by r q (Err e)
  refused-told by i d e within before one =
      let c = get_or by i d in
      let found = err-by c e (missing_in q c) one in
      let missing = before ∙ (at_drop_more (first_missing q) by i d within ∙ now-missing c (drop (i + 1) by) found.0 found.1) in
      subst (IsProductsAnswer shape range by r q) (sym found.2) (missing-told by c found.0 missing)

  pub missing-more : (by : List Class) (i : ℕ) (d : Class) → i < length by → missing_in q (get_or by i d) ≡ None → first_missing q by ≡ first_missing q (drop i by) → first_missing q by ≡ first_missing q (drop (i + 1) by)
  missing-more by i d within there before = before ∙ (at_drop_more (first_missing q) by i d within ∙ later-missing (get_or by i d) (drop (i + 1) by) there)

  -- ---- at most one answer

  texts-unique : (by : List Class) (x y : List ℕ) → AreProductsTexts shape range by r q x → AreProductsTexts shape range by r q y → x ≡ y
  texts-unique by x y p k =
      let same = OneEach-unique (λ c t. IsProductsText shape range c r q t) (λ c. text-unique shape range c r q) by p.texts k.texts p.each k.each in
      p.is ∙ (ap (headed_texts (nat_lt 1 (length by)) by) same ∙ sym k.is)

  answer-unique : (by : List Class) (o : Option (Class × ℕ)) (x y : Result (List ℕ) Refusal) → MatchOption o (IsOkAnd x (AreProductsTexts shape range by r q)) (λ p. x ≡ Err (NoClass By p.0 p.1)) → MatchOption o (IsOkAnd y (AreProductsTexts shape range by r q)) (λ p. y ≡ Err (NoClass By p.0 p.1)) → x ≡ y
  answer-unique by (Some m) x y p k = p ∙ sym k
  answer-unique by None (Ok x) (Ok y) p k = ap (λ (t : List ℕ). Ok t) (texts-unique by x y p k)
  answer-unique by None (Ok x) (Err e) p k = absurd k
  answer-unique by None (Err e) y p k = absurd p

  -- ---- one class

  alone-by : (c : Class) (o : Option ℕ) (answer : Result (List ℕ) Refusal) →
      MatchOption {T = Class × ℕ} (option_or (option_map (λ n. (c, n)) o) None) (IsOkAnd answer (AreProductsTexts shape range (c ∷ []) r q)) (λ p. answer ≡ Err (NoClass By p.0 p.1)) →
      MatchOption o (IsOkAnd answer (IsProductsText shape range c r q)) (λ n. answer ≡ Err (NoClass By c n))
  alone-by c (Some n) answer h = h
  alone-by c None (Err e) h = absurd h
  alone-by c None (Ok t) h = only h.texts h.each h.is
    where
      only : (texts : List (List ℕ)) → OneEach (λ c t. IsProductsText shape range c r q t) (c ∷ []) texts → t ≡ headed_texts false (c ∷ []) texts → IsProductsText shape range c r q t
      only [] each is = absurd each
      only (x ∷ []) each is = subst (IsProductsText shape range c r q) (sym (is ∙ append-nil x)) each.0
      only (x ∷ y ∷ texts) each is = absurd each.1

  one-by : (c : Class) (o : Option ℕ) (answer : Result (List ℕ) Refusal) →
      MatchOption o (IsOkAnd answer (IsProductsText shape range c r q)) (λ n. answer ≡ Err (NoClass By c n)) →
      MatchOption {T = Class × ℕ} (option_or (option_map (λ n. (c, n)) o) None) (IsOkAnd answer (AreProductsTexts shape range (c ∷ []) r q)) (λ p. answer ≡ Err (NoClass By p.0 p.1))
  one-by c (Some n) answer h = h
  one-by c None (Err e) h = absurd h
  one-by c None (Ok t) h = record { texts = t ∷ []; each = (h, tt); is = sym (append-nil t) }

pub answers-unique : (shape : Shape) (range : Range) (by : List Class) → HasOneAnswer (IsProductsAnswer shape range by)
answers-unique shape range by r q a b p k = answer-unique shape range r q by (first_missing q by) a b p k

pub answer-of-one : ProductsAnswerOfOne
answer-of-one shape range by r q answer = (alone-by shape range r q by (missing_in q by) answer, one-by shape range r q by (missing_in q by) answer)

pub answer-of-each : ProductsAnswerOfEach
answer-of-each shape range by r q texts each = each-told shape range r q by (headed_texts (nat_lt 1 (length by)) by texts) (record { texts = texts; each = each; is = refl })

-- ---- there is an answer

-- each of the classes has a text, or one is missing
abbrev AreTold : Shape → Range → Resolution → Resolution → List Class → Type 0
AreTold shape range r q by = ((texts : List (List ℕ)) × OneEach (λ c t. IsAnswerOfOne shape range c r q (Ok t)) by texts) ⊎ ((c : Class) × (n : ℕ) × (first_missing q by ≡ Some (c, n)))

one-more : (shape : Shape) (range : Range) (r q : Resolution) (c : Class) (by : List Class) (answer : Result (List ℕ) Refusal) → IsAnswerOfOne shape range c r q answer → AreTold shape range r q by → AreTold shape range r q (c ∷ by)
one-more shape range r q c by (Ok t) h (inl all) = inl (t ∷ all.0, (h, all.1))
one-more shape range r q c by (Ok t) h (inr missing) = inr (missing.0, missing.1, later-missing shape range r q c by (text-of shape range r q c t h).0 ∙ missing.2)
one-more shape range r q c by (Err e) h all = let found = err-by shape range r q c e (missing_in q c) h in inr (c, found.0, now-missing shape range r q c by found.0 found.1)

pub answers-exist : EachClassLifts → LiftsGiveOneProduct → (shape : Shape) (range : Range) (by : List Class) → HasAnswer (IsProductsAnswer shape range by) range
answers-exist lifts one shape range by r q canonical canonical_q sphere = told (each by)
  where
    each : (cs : List Class) → AreTold shape range r q cs
    each [] = inl ([], tt)
    each (c ∷ cs) = let answer = one-exists lifts one shape range c r q canonical canonical_q sphere in one-more shape range r q c cs answer.0 answer.1 (each cs)

    told : AreTold shape range r q by → (answer : Result (List ℕ) Refusal) × IsProductsAnswer shape range by r q answer
    told (inl all) = (Ok (headed_texts (nat_lt 1 (length by)) by all.0), answer-of-each shape range by r q all.0 all.1)
    told (inr missing) = (Err (NoClass By missing.0 missing.1), missing-told shape range r q by missing.0 missing.1 missing.2)
