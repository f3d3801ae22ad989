-- The table of two resolutions: when it is told, that there is one, and that there is no other.
use Rattle.std.proofs.Common.{◌≡◌, ℕ, List, [], ◌∷◌, refl, ap, ap₂, sym, subst, ◌∙◌}
use Rattle.std.specs.Prelude.{Option, Some, None, MatchOption, Result, Ok, Err, IsOkAnd}
use Rattle.bidegree.specs.LastDegrees.{last_degree}
use Rattle.bidegree.specs.declared.range.Range.{Range}
use Rattle.bidegree.specs.declared.shape.Shape.{Shape}
use Rattle.bidegree.specs.declared.class.Class.{Class}
use Rattle.lift_laws.specs.Lifts.{Resolution, EachClassLifts}
use Rattle.lift_laws.specs.Products.{count_of, LiftsGiveOneProduct}
use Rattle.ext_chart.specs.declared.class_products.ProductLine.{ProductLine}
use Rattle.ext_products.specs.declared.refusal.Refusal.{Refusal}
use Rattle.ext_products.specs.declared.refusal.Refusal.TheVariants.{NoClass}
use Rattle.ext_products.specs.declared.refusal.Named.TheVariants.{By}
use Rattle.ext_products.specs.Products.{OneEach, IsProductsText, AreProductsTexts, IsProductsAnswer, first_missing, HasAnswer, HasOneAnswer}
use Rattle.ext_products.proofs.Answers.{lines-of, lines-unique}
use Rattle.ext_products.proofs.OneEach.{OneEach-unique}
use Rattle.ext_products.proofs.Several.{answers-exist}
use Rattle.ext_table.specs.Listing.{Listing}
use Rattle.ext_table.specs.Table.{table_text}
use Rattle.ext_table.specs.Answers.{IsListing, IsTableText, IsTableAnswer}

module _ (shape : Shape) (range : Range) (by : List Class) (r q : Resolution) where
  -- what is told of a table, and what is told of products, where this class is missing
  abbrev Tabled : Option (Class × ℕ) → Result (List ℕ) Refusal → Type 0
  Tabled o answer = MatchOption o (IsOkAnd answer (IsTableText shape range by r q)) (λ p. answer ≡ Err (NoClass By p.0 p.1))

  abbrev Multiplied : Option (Class × ℕ) → Result (List ℕ) Refusal → Type 0
  Multiplied o answer = MatchOption o (IsOkAnd answer (AreProductsTexts shape range by r q)) (λ p. answer ≡ Err (NoClass By p.0 p.1))

  -- the text of lists, where no class is missing
  pub told : (lists : List Listing) (text : List ℕ) → first_missing q by ≡ None → OneEach (λ class listing. IsListing shape range class r q listing) by lists → text ≡ table_text r.base.bottom range.s (last_degree shape range) (count_of r) lists → IsTableAnswer shape range by r q (Ok text)
  told lists text there each is =
      subst (λ (o : Option (Class × ℕ)). Tabled o (Ok text)) (sym there) (record { lists = lists; each = each; is = is })

  -- the products are refused for the same class
  refused-by : (o : Option (Class × ℕ)) (e : Refusal) → Multiplied o (Err e) → Tabled o (Err e)
  refused-by None e h = absurd h
  refused-by (Some p) e h = h

  pub refused : (e : Refusal) → IsProductsAnswer shape range by r q (Err e) → IsTableAnswer shape range by r q (Err e)
  refused e h = refused-by (first_missing q by) e h

  -- ---- at most one

  abbrev listing_of : Class → List ProductLine → Listing
  listing_of class lines = record { by = class; lines = lines }

  listing-unique : (class : Class) (x y : Listing) → IsListing shape range class r q x → IsListing shape range class r q y → x ≡ y
  listing-unique class x y p k =
      let lines = lines-unique shape range class r q x.lines y.lines p.are k.are in
      let same : listing_of x.by x.lines ≡ listing_of y.by y.lines = ap₂ listing_of (p.is ∙ sym k.is) lines in
      same

  text-unique : (x y : List ℕ) → IsTableText shape range by r q x → IsTableText shape range by r q y → x ≡ y
  text-unique x y p k =
      let same = OneEach-unique (λ class listing. IsListing shape range class r q listing) listing-unique by p.lists k.lists p.each k.each in
      p.is ∙ (ap (table_text r.base.bottom range.s (last_degree shape range) (count_of r)) same ∙ sym k.is)

  pub answer-unique : (o : Option (Class × ℕ)) (x y : Result (List ℕ) Refusal) → Tabled o x → Tabled o y → x ≡ y
  answer-unique (Some m) x y p k = p ∙ sym k
  answer-unique None (Ok x) (Ok y) p k = ap (λ (t : List ℕ). Ok t) (text-unique x y p k)
  answer-unique None (Ok x) (Err e) p k = absurd k
  answer-unique None (Err e) y p k = absurd p

  -- ---- one

  lists-of : (classes : List Class) (texts : List (List ℕ)) → OneEach (λ class t. IsProductsText shape range class r q t) classes texts → (lists : List Listing) × OneEach (λ class listing. IsListing shape range class r q listing) classes lists
  lists-of [] [] h = ([], tt)
  lists-of [] (t ∷ texts) h = absurd h
  lists-of (c ∷ classes) [] h = absurd h
  lists-of (c ∷ classes) (t ∷ texts) h =
      let rest = lists-of classes texts h.1 in
      let first : IsProductsText shape range c r q t = h.0 in
      (listing_of c first.lines ∷ rest.0, (record { is = refl; are = lines-of shape range c r q t first }, rest.1))

  pub answer-by : (o : Option (Class × ℕ)) (answer : Result (List ℕ) Refusal) → Multiplied o answer → (tabled : Result (List ℕ) Refusal) × Tabled o tabled
  answer-by (Some p) answer h = (Err (NoClass By p.0 p.1), refl)
  answer-by None (Err e) h = absurd h
  answer-by None (Ok text) h =
      let lists = lists-of by h.texts h.each in
      (Ok (table_text r.base.bottom range.s (last_degree shape range) (count_of r) lists.0), record { lists = lists.0; each = lists.1; is = refl })

pub tables-unique : (shape : Shape) (range : Range) (by : List Class) → HasOneAnswer (IsTableAnswer shape range by)
tables-unique shape range by r q x y p k = answer-unique shape range by r q (first_missing q by) x y p k

pub tables-exist : EachClassLifts → LiftsGiveOneProduct → (shape : Shape) (range : Range) (by : List Class) → HasAnswer (IsTableAnswer shape range by) range
tables-exist lifts one shape range by r q canonical canonical_q sphere =
    let products = answers-exist lifts one shape range by r q canonical canonical_q sphere in
    answer-by shape range by r q (first_missing q by) products.0 products.1
