use Rattle.std.specs.Int.{div_ceil}
use Rattle.std.specs.Prelude.{is_ok, IsErrAnd}
use Rattle.std.proofs.Common.{◌≡◌, ℕ, ◌<◌, ◌≤◌, ◌^◌, Bool, true, false, List, length, slice_index_or, refl, ap, sym, ◌∙◌, arith, subst}
use Rattle.std.proofs.lemmas.List.{with_items_is}
use Rattle.std.proofs.lemmas.Bool.{false≢true}
use Rattle.std.proofs.Math.Facts.{Fits-lt-pow}
use Rattle.f2_vec.specs.Vectors.{zeros}
use Rattle.f2_vec.specs.Bytes.{packed, ArePacked}
use Rattle.f2_vec.specs.declared.fault.BitsFault.{BitsFault}
use Rattle.f2_vec.specs.declared.fault.BitsFault.TheVariants.{Length, SpareBits, Memory as OutOfMemory}
use Rattle.f2_vec.specs.Inside.Packed.{HasRoom, unit_bit, unit_bits}
use Rattle.f2_vec.proofs.Sums.{length-zeros}
use Rattle.f2_vec.proofs.Packed.{length-unit_bits, length_of_bits}
use Rattle.f2_vec.proofs.Bytes.{length-packed, packed-injective}
use Rattle.f2_vec.proofs.Spare.{packed_spare, are_packed, packed_words, HasRoom-read}
use Rattle.f2_vec.proofs.bit_vec.BitVec.from_bytes.Goals as goal

-- a vector of zeros of length n, whose words us have become ws, with the bits of the bytes
record IsRead (n m : ℕ) (bs us ws : List ℕ) : Type 0 where
  length_of : m ≡ n
  as_many : length ws ≡ length us
  bits : (k : ℕ) → unit_bit 64 ws k ≡ unit_bit 8 bs k
  room : HasRoom 64 m ws

is_read : (n m : ℕ) (bs us ws : List ℕ) (v : List Bool) → v ≡ zeros n → unit_bits 64 m us ≡ v → HasRoom 64 m us → length ws ≡ length us → ((k : ℕ) → n ≤ k → unit_bit 8 bs k ≡ false) → ((k : ℕ) → unit_bit 64 ws k ≡ unit_bit 8 bs k) → IsRead n m bs us ws
is_read n m bs us ws v z e r l spare h =
    let same : m ≡ n = sym (length_of_bits m us v e) ∙ ap length z ∙ length-zeros n in
    record {
      length_of = same;
      as_many = l;
      bits = h;
      room = HasRoom-read m bs us ws r l (λ k g. spare k (omega (arith, same))) h;
    }

vector_bytes : (n m : ℕ) (bs us ws : List ℕ) → length bs ≡ div_ceil n 8 → ((i : ℕ) → slice_index_or bs i 0 < 2 ^ 8) → IsRead n m bs us ws → packed (unit_bits 64 m ws) ≡ bs
vector_bytes n m bs us ws l below r = packed_words m bs ws (l ∙ ap (λ j. div_ceil j 8) (sym r.length_of)) below r.room r.bits

is_memory : BitsFault → Bool
is_memory (Length want given) = false
is_memory SpareBits = false
is_memory OutOfMemory = true

no_memory : SpareBits ≡ OutOfMemory → ⊥
unfolding is_memory
no_memory e = false≢true (ap is_memory e)

pub returns-then-bytes-want-clause-back : goal.returns-then-bytes-want-clause-back
returns-then-bytes-want-clause-back c = λ v l e. absurd (c.if-bytes-want.true (sym (ap length e) ∙ length-packed v ∙ ap (λ m. div_ceil m 8) l ∙ sym c.div_ceil-want.ensures))

pub returns-then-has_spare_one-clause-back : goal.returns-then-has_spare_one-clause-back
returns-then-has_spare_one-clause-back c = λ v l e.
    let p : ArePacked c.args.n c.args.bytes.now = record { vector = v; length_of = l; bytes_of = e } in
    absurd (false≢true (sym (c.has_spare_one.ensures.1 (packed_spare c.args.n c.args.bytes.now p)) ∙ c.if-has_spare_one.true))

pub returns-then-has_spare_one-clause-spare_bits : goal.returns-then-has_spare_one-clause-spare_bits
returns-then-has_spare_one-clause-spare_bits c = (
  λ _. (c.if-bytes-want.false ∙ c.div_ceil-want.ensures, λ p. false≢true (sym (c.has_spare_one.ensures.1 (packed_spare c.args.n c.args.bytes.now p)) ∙ c.if-has_spare_one.true)),
  λ _. refl,
)

pub returns-in_err-vector-clause-spare_bits : goal.returns-in_err-vector-clause-spare_bits
returns-in_err-vector-clause-spare_bits c =
    let n = c.args.n in
    let bs = c.args.bytes.now in
    let p : ArePacked n bs = are_packed n bs (c.if-bytes-want.false ∙ c.div_ceil-want.ensures) (λ i. Fits-lt-pow (c.type_inv.bytes i)) (c.has_spare_one.ensures.0 c.if-has_spare_one.false) in
    (λ e. absurd (no_memory (subst (λ r. IsErrAnd r (λ f. f ≡ OutOfMemory)) e c.from_residual.ensures.1)), λ q. absurd (q.1 p))

pub read_bytes-requires : goal.read_bytes-requires
read_bytes-requires c =
    let m = c.vector.inside.len in
    let us = c.vector.inside.words.items in
    let same : m ≡ c.args.n = sym (length_of_bits m us c.in_ok-vector.vector c.vector.view_is) ∙ ap length c.in_ok-vector.ensures ∙ length-zeros c.args.n in
    ap length c.as_mut_slice.ensures.value ∙ omega (arith, same, c.vector.invariant.enough, c.vector.invariant.tight, c.if-bytes-want.false, c.div_ceil-want.ensures)

pub invariant_of-vector : goal.invariant_of-vector
invariant_of-vector c =
    let us = c.vector.inside.words.items in
    let ws = c.read_bytes.new.words in
    let r = is_read c.args.n c.vector.inside.len c.args.bytes.now us ws c.in_ok-vector.vector c.in_ok-vector.ensures c.vector.view_is c.vector.invariant (c.read_bytes.ensures.length ∙ ap length c.as_mut_slice.ensures.value) (c.has_spare_one.ensures.0 c.if-has_spare_one.false) c.read_bytes.ensures.bits in
    rw (with_items_is c.vector.inside.words ws (r.as_many ∙ sym c.vector.inside.words.ok.0)) r.room

pub returns-clause-len : goal.returns-clause-len
returns-clause-len c =
    let m = c.vector.inside.len in
    let us = c.vector.inside.words.items in
    length-unit_bits 64 m _ ∙ sym (length_of_bits m us c.in_ok-vector.vector c.vector.view_is) ∙ ap length c.in_ok-vector.ensures ∙ length-zeros c.args.n

pub returns-clause-bytes : goal.returns-clause-bytes
returns-clause-bytes c =
    let m = c.vector.inside.len in
    let us = c.vector.inside.words.items in
    let ws = c.read_bytes.new.words in
    let bs = c.args.bytes.now in
    let r = is_read c.args.n m bs us ws c.in_ok-vector.vector c.in_ok-vector.ensures c.vector.view_is c.vector.invariant (c.read_bytes.ensures.length ∙ ap length c.as_mut_slice.ensures.value) (c.has_spare_one.ensures.0 c.if-has_spare_one.false) c.read_bytes.ensures.bits in
    ap (λ z. packed (unit_bits 64 m z)) (with_items_is c.vector.inside.words ws (r.as_many ∙ sym c.vector.inside.words.ok.0))
    ∙ vector_bytes c.args.n m bs us ws (c.if-bytes-want.false ∙ c.div_ceil-want.ensures) (λ i. Fits-lt-pow (c.type_inv.bytes i)) r

pub returns-clause-back : goal.returns-clause-back
returns-clause-back c = λ v l e. packed-injective _ v (returns-clause-len c ∙ sym l) (returns-clause-bytes c ∙ sym e)

pub returns-clause-spare_bits : goal.returns-clause-spare_bits
returns-clause-spare_bits c = (λ e. absurd (false≢true (sym (ap is_ok e))), λ q. absurd (q.1 (record { vector = _; length_of = returns-clause-len c; bytes_of = returns-clause-bytes c })))
