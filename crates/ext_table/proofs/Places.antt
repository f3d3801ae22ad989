-- The line on a class, by its place among others.
use Rattle.std.proofs.Common.{◌≡◌, ℕ, pos, Bool, true, false, List, [], length, take, drop, get_or, refl, ap, ◌∙◌, append-nil, sym}
use Rattle.std.specs.Prelude.{Option, Some, None, cond, nat_lt, find, position, slice_get, option_map, unwrap_or}
use Rattle.std.specs.List.{position_or_len}
use Rattle.std.proofs.lemmas.Bool.{ltb-false}
use Rattle.std.proofs.lemmas.List.{drop_more}
use Rattle.std.proofs.lemmas.List.Folds.{find_at}
use Rattle.std.proofs.lemmas.List.Quantifiers.{position-Some}
use Rattle.std.proofs.lemmas.Option.{slice_get-get_or, slice_get_past}
use Rattle.ext_chart.specs.declared.class_products.ProductLine.{ProductLine}
use Rattle.ext_chart.specs.Classes.{product_line, product_lines_text}

same_place : (b : Bool) (n k : ℕ) → cond b (Some n) None ≡ Some k → n ≡ k
same_place true n k e = cc
same_place false n k e = absurd (cc)

no_place : (b : Bool) (n : ℕ) → cond b (Some n) None ≡ None → b ≡ false
no_place true n e = absurd (cc)
no_place false n e = refl

module _ (p : ProductLine → Bool) (lines : List ProductLine) (other : List ℕ) where
  pub found : (k : ℕ) (piece : List ProductLine) → position p lines ≡ Some k → piece ≡ take 1 (drop k lines) → product_lines_text piece ≡ unwrap_or (option_map product_line (find p lines)) other
  found k piece is one =
      let d : ProductLine = record { s = 0; t = pos 0; i = 0; target_s = 0; target_t = pos 0; value = [] } in
      let place = same_place (nat_lt (position_or_len p lines) (length lines)) (position_or_len p lines) k is in
      let within = (position-Some p lines k d is).0 in
      let there : find p lines ≡ Some (get_or lines k d) = find_at p lines ∙ (ap (λ n. slice_get lines n) place ∙ slice_get-get_or lines k d within) in
      ap product_lines_text (one ∙ ap (take 1) (drop_more lines k d within)) ∙ (append-nil (product_line (get_or lines k d)) ∙ sym (ap (λ (o : Option ProductLine). unwrap_or (option_map product_line o) other) there))

  pub missing : position p lines ≡ None → other ≡ unwrap_or (option_map product_line (find p lines)) other
  missing is =
      let past = no_place (nat_lt (position_or_len p lines) (length lines)) (position_or_len p lines) is in
      let none : find p lines ≡ None = find_at p lines ∙ slice_get_past lines (position_or_len p lines) (ltb-false (position_or_len p lines) (length lines) past) in
      sym (ap (λ (o : Option ProductLine). unwrap_or (option_map product_line o) other) none)
