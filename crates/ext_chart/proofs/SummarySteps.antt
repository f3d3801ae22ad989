-- The steps of the loops that write a summary.
use Rattle.std.proofs.Common.{◌≡◌, ℕ, ◌+◌, map, sym, ◌∙◌, ap, arith}
use Rattle.std.specs.List.{sum, range_with_len}
use Rattle.std.proofs.lemmas.List.FromFn.{sum_by-map-range_with_len_more}

-- one square more
pub total-more : (f : ℕ → ℕ) (k total n after : ℕ) → total ≡ sum (map f (range_with_len 0 k)) → n ≡ f k → after ≡ total + n → after ≡ sum (map f (range_with_len 0 (k + 1)))
total-more f k total n after e h a =
    a ∙ ap (λ x. x + n) e ∙ ap (λ x. sum (map f (range_with_len 0 k)) + x) h ∙ sym (sum_by-map-range_with_len_more (λ x. x) f 0 k k (omega arith))
