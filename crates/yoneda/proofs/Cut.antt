-- Products over tables, and over the part of them within a range.
use Rattle.std.proofs.Common.{◌≡◌, ℕ, ◌+◌, ◌≤◌, Bool, List, take}
use Rattle.resolution_laws.specs.Resolution.{Module, Content, row_of}
use Rattle.lift_laws.specs.Products.{Class, coefficient_of, product_by}
use Rattle.lift_laws.proofs.Counts.{old_width-less, on_square-less}

pub product_by-part : (m w : Module) (r_rows r_part q_rows q_part : List (List Content)) (t u k n : ℕ) (a : Class) → row_of r_part k ≡ take (t + 1) (row_of r_rows k) → row_of q_part a.s ≡ take (u + 1) (row_of q_rows a.s) → n ≤ t → a.above ≤ u → (phi : ℕ → ℕ → List Bool) →
    product_by (record { base = m; table = r_part }) (record { base = w; table = q_part }) a phi k n ≡ product_by (record { base = m; table = r_rows }) (record { base = w; table = q_rows }) a phi k n
product_by-part m w r_rows r_part q_rows q_part t u k n a r_same q_same h l phi =
    rw (old_width-less w q_rows q_part a.s u q_same a.above l) (on_square-less m r_rows r_part k t r_same n (λ g. coefficient_of (record { base = w; table = q_rows }) a (phi a.s g)) h)
