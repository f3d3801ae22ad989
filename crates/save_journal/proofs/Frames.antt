-- A body as it stands behind its gate.
use Rattle.std.proofs.Common.{◌≡◌, ℕ, ◌+◌, ◌-◌, ◌^◌, ◌<◌, List, [], ◌∷◌, ◌++◌, length, take, drop, refl, sym, ◌∙◌, ap, subst, arith, length-append, append_assoc}
use Rattle.std.specs.Int.{w64, to_be_bytes}
use Rattle.std.proofs.lemmas.List.{take_at, drop_at}
use Rattle.sha2.specs.Sha256.{sha256}
use Rattle.sha2.proofs.Facts256.{length-sha256}
use Rattle.save_journal.specs.Records.{framed}
use Rattle.save_journal.specs.Journals.{IsSayable}

pub length-be : (n : ℕ) → length (to_be_bytes w64 n) ≡ 8
length-be n = refl

pub length-framed : (body : List ℕ) → length (framed body) ≡ 41 + length body
length-framed body = omega (arith, length-append (to_be_bytes w64 (length body) ++ body ++ sha256 body) (0 ∷ []), length-append (to_be_bytes w64 (length body) ++ body) (sha256 body), length-append (to_be_bytes w64 (length body)) body, length-be (length body), length-sha256 body)

-- the length, and then the rest
pub framed_split : (body rest : List ℕ) → framed body ++ rest ≡ to_be_bytes w64 (length body) ++ (body ++ (sha256 body ++ (0 ∷ rest)))
framed_split body rest = simp append_assoc

pub body_in : (bytes body : List ℕ) → bytes ≡ framed body → take (length bytes - 41) (drop 8 bytes) ≡ body
body_in bytes body is =
    let len = to_be_bytes w64 (length body) in
    let tail = sha256 body ++ 0 ∷ [] in
    let split : framed body ≡ len ++ (body ++ tail) = append_assoc (len ++ body) (sha256 body) (0 ∷ []) ∙ append_assoc len body tail in
    let count : length body ≡ length bytes - 41 = omega (arith, ap length is, length-framed body) in
    let dropped : drop 8 bytes ≡ body ++ tail = ap (λ (l : List ℕ). drop 8 l) (is ∙ split) ∙ drop_at len (body ++ tail) 8 (length-be (length body)) in
    ap (λ (l : List ℕ). take (length bytes - 41) l) dropped ∙ take_at body tail (length bytes - 41) count

pub framed_again : (bytes body : List ℕ) → bytes ≡ framed body → bytes ≡ framed (take (length bytes - 41) (drop 8 bytes))
framed_again bytes body is = is ∙ ap framed (sym (body_in bytes body is))

pub sayable_again : (bytes body : List ℕ) → bytes ≡ framed body → length body < 2 ^ 64 → IsSayable (take (length bytes - 41) (drop 8 bytes))
sayable_again bytes body is short = subst (λ (b : List ℕ). IsSayable b) (sym (body_in bytes body is)) short
