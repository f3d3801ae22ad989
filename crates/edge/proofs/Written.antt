-- What a sink got, call by call.
use Rattle.std.proofs.Common.{arith, inl, inr, ◌≡◌, ℕ, ◌+◌, ◌-◌, ◌≤◌, List, [], ◌++◌, length, take, drop, ap, sym, subst, refl, ◌∙◌, append_assoc}
use Rattle.std.proofs.Math.Seq.{take-add, take-length, take-append_seam, take-append-add}
use Rattle.std.proofs.lemmas.Bool.{cases_lt}
use Rattle.std.proofs.lemmas.List.{append-nil, take_rest, take_all, take-append-le, length-drop}
use Rattle.std.specs.Prelude.{Option, Some, None}
use Rattle.edge.specs.Sink.{with_more, HasPrefixMore}

pub with_more-nil : (w : Option (List ℕ)) → w ≡ with_more w []
with_more-nil None = refl
with_more-nil (Some text) = ap (λ (l : List ℕ). Some l) (sym (append-nil text))

pub with_more-with_more : (w : Option (List ℕ)) (a b : List ℕ) → with_more (with_more w a) b ≡ with_more w (a ++ b)
with_more-with_more None a b = refl
with_more-with_more (Some x) a b = ap (λ (l : List ℕ). Some l) (append_assoc x a b)

-- what a sink got after a further call, which took n bytes behind the first d
pub with_more-next : (old mid new : Option (List ℕ)) (bytes : List ℕ) (d n : ℕ) → mid ≡ with_more old (take d bytes) → new ≡ with_more mid (take n (take (length bytes - d) (drop d bytes))) → new ≡ with_more old (take (d + n) bytes)
with_more-next old mid new bytes d n e h =
    let rest : take d bytes ++ take n (take (length bytes - d) (drop d bytes)) ≡ take (d + n) bytes = rw (take_rest bytes d) (sym (take-add d n bytes)) in
    h ∙ (ap (λ (w : Option (List ℕ)). with_more w (take n (take (length bytes - d) (drop d bytes)))) e ∙ (with_more-with_more old (take d bytes) (take n (take (length bytes - d) (drop d bytes))) ∙ ap (λ (l : List ℕ). with_more old l) rest))

-- a call takes no more than is left
pub within-next : (bytes : List ℕ) (d n : ℕ) → d ≤ length bytes → n ≤ length (take (length bytes - d) (drop d bytes)) → d + n ≤ length bytes
within-next bytes d n h m =
    let k : n ≤ length (drop d bytes) = rw (take_rest bytes d) at m in
    omega (arith, length-drop d bytes)

-- a text behind another
pub with_more-two : (old mid new : Option (List ℕ)) (a b : List ℕ) → mid ≡ with_more old a → new ≡ with_more mid b → new ≡ with_more old (a ++ b)
with_more-two old mid new a b e h = h ∙ (ap (λ (w : Option (List ℕ)). with_more w b) e ∙ with_more-with_more old a b)

-- what was written whole is a first part of it
pub HasPrefixMore-whole : (a : List ℕ) (old new : Option (List ℕ)) → new ≡ with_more old a → HasPrefixMore a old new
HasPrefixMore-whole a old new e = record { taken = length a; gained = e ∙ ap (with_more old) (sym (take-length a)) }

-- some first bytes of a text are some of a longer one
pub HasPrefixMore-front : (a b : List ℕ) (old new : Option (List ℕ)) → HasPrefixMore a old new → HasPrefixMore (a ++ b) old new
HasPrefixMore-front a b old new p =
    elim (cases_lt p.taken (length a)) [
      | inl l ↦ record { taken = p.taken; gained = p.gained ∙ ap (with_more old) (sym (take-append-le p.taken a b (omega arith))) }
      | inr l ↦ record { taken = length a; gained = p.gained ∙ ap (with_more old) (take_all p.taken a l ∙ sym (take-append_seam a b)) }
    ]

-- some first bytes of a text, behind another text that was written whole
pub HasPrefixMore-behind : (a b : List ℕ) (old mid new : Option (List ℕ)) → mid ≡ with_more old a → HasPrefixMore b mid new → HasPrefixMore (a ++ b) old new
HasPrefixMore-behind a b old mid new e p = record {
  taken = length a + p.taken;
  gained = with_more-two old mid new a (take p.taken b) e p.gained ∙ ap (with_more old) (sym (take-append-add a b p.taken));
}

pub HasPrefixMore-of : (a b : List ℕ) (old new : Option (List ℕ)) → a ≡ b → HasPrefixMore a old new → HasPrefixMore b old new
HasPrefixMore-of a b old new e p = subst (λ (t : List ℕ). HasPrefixMore t old new) e p

pub HasPrefixMore-within : (a b rest whole : List ℕ) (old mid new : Option (List ℕ)) → mid ≡ with_more old a → HasPrefixMore b mid new → whole ≡ (a ++ b) ++ rest → HasPrefixMore whole old new
HasPrefixMore-within a b rest whole old mid new e p is =
    let P : List ℕ → Type 0 = λ t. HasPrefixMore t old new in
    subst P (sym is) (HasPrefixMore-front (a ++ b) rest old new (HasPrefixMore-behind a b old mid new e p))
