use Rattle.std.proofs.Common.{◌≡◌, ℕ, ◌<◌, ◌↔◌, List, [], ◌∷◌, length, drop, arith, refl, length-drop}
use Rattle.std.specs.Prelude.{min}
use Rattle.edge.proofs.source.MemSource.read_count.Goals as goal

-- a call that is asked for bytes gives none only where none are left
none-at-end : (left : List ℕ) (n piece : ℕ) → 0 < n → 0 < piece → (min (min n piece) (length left) ≡ 0) ↔ (left ≡ [])
none-at-end [] n piece some more = (λ _. refl, λ _. omega arith)
none-at-end (x ∷ xs) n piece some more = (λ e. absurd (omega arith), λ e. absurd (cc))

pub returns-clause-some : goal.returns-clause-some
returns-clause-some c some =
    let at_end = none-at-end (drop c.self.inside.at c.self.inside.bytes.items) c.args.len c.self.inside.piece some c.self.invariant.0 in
    let count : c.min-2.result ≡ min (min c.args.len c.self.inside.piece) (length (drop c.self.inside.at c.self.inside.bytes.items)) = omega (arith, length-drop c.self.inside.at c.self.inside.bytes.items, c.self.inside.bytes.ok) in
    rw (← c.self.view_is, count) at_end
