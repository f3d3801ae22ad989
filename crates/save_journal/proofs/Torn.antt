-- What a crash leaves in each of the two steps of an append.
use Rattle.std.proofs.Common.{◌≡◌, ◌≢◌, inl, inr, ℕ, ◌+◌, ◌<◌, List, [], ◌∷◌, ◌++◌, length, get_or, take, drop, refl, sym, ◌∙◌, ap, subst, arith, length-append, append_assoc, take-append-drop}
use Rattle.std.specs.Prelude.{All, Ok}
use Rattle.std.proofs.lemmas.List.{take_at, drop_at, drop_more}
use Rattle.std.proofs.lemmas.List.Elements.{All-nil, All-cons, All-append}
use Rattle.std.proofs.lemmas.Bool.{cases_eq}
use Rattle.edge.specs.Disk.{written, Torn}
use Rattle.save_journal.specs.Records.{records_of, framed, encoded, header}
use Rattle.save_journal.specs.Journals.{IsSayable, IsAtRest, IsBeforeOrAfter}
use Rattle.save_journal.proofs.Frames.{length-framed, framed_split}
use Rattle.save_journal.proofs.Walk.{record_of, encoded_cons, encoded-append, length-encoded, at_rest_records}

-- ---- lists

-- the same front, and then what is there
front_of : (p rest c : List ℕ) (n : ℕ) → length p ≡ n → take n c ≡ take n (p ++ rest) → c ≡ p ++ drop n c
front_of p rest c n is same = sym (take-append-drop n c) ∙ ap (λ (l : List ℕ). l ++ drop n c) (same ∙ take_at p rest n is)

-- all the same but for one byte
one_byte : (p rest c : List ℕ) (g n : ℕ) → length p ≡ n → take n c ≡ take n (p ++ g ∷ rest) → drop (n + 1) c ≡ drop (n + 1) (p ++ g ∷ rest) → n < length c → c ≡ p ++ get_or c n 0 ∷ rest
one_byte p rest c g n is before after long =
    let tail : drop (n + 1) (p ++ g ∷ rest) ≡ rest =
    ap (λ (l : List ℕ). drop (n + 1) l) (sym (append_assoc p (g ∷ []) rest)) ∙ drop_at (p ++ g ∷ []) rest (n + 1) (omega (arith, length-append p (g ∷ []))) in
    front_of p (g ∷ rest) c n is before ∙ ap (λ (l : List ℕ). p ++ l) (drop_more c n 0 long ∙ ap (λ (l : List ℕ). get_or c n 0 ∷ l) (after ∙ tail))

-- ---- a file at rest

module _ (digest : List ℕ) (end : ℕ) (list : List (List ℕ)) (file : List ℕ) (r : IsAtRest digest end list file) where
  abbrev front : List ℕ
  front = header digest ++ encoded list

  length-front : length front ≡ end
  length-front = omega (arith, length-append (header digest) (encoded list), length-append (0x45 ∷ 0x58 ∷ 0x54 ∷ 0x53 ∷ 0x41 ∷ 0x56 ∷ 0x45 ∷ 0x31 ∷ []) digest, r.width, r.place)

  pub length-at_rest : length file ≡ end + 1 + length r.behind
  length-at_rest = omega (arith, ap length r.split, length-append front (r.gate ∷ r.behind), length-front)

  -- the closed gate stands in each outcome of a write behind it
  pub torn_behind : (n : ℕ) (c : List ℕ) → Torn (end + 1) n file c → IsAtRest digest end list c
  torn_behind n c torn =
      let whole : file ≡ (front ++ r.gate ∷ []) ++ r.behind = r.split ∙ sym (append_assoc front (r.gate ∷ []) r.behind) in
      let long : length (front ++ r.gate ∷ []) ≡ end + 1 = omega (arith, length-append front (r.gate ∷ []), length-front) in
      record {
        gate = r.gate;
        behind = drop (end + 1) c;
        closed = r.closed;
        split = front_of (front ++ r.gate ∷ []) r.behind c (end + 1) long (torn.before ∙ ap (λ (l : List ℕ). take (end + 1) l) whole) ∙ append_assoc front (r.gate ∷ []) (drop (end + 1) c);
        place = r.place;
        width = r.width;
        sayable = r.sayable;
      }

  -- a body was written behind the gate
  pub staged : (bytes : List ℕ) → written (end + 1) bytes file ≡ front ++ r.gate ∷ (bytes ++ drop (end + 1 + length bytes) file)
  staged bytes =
      let whole : file ≡ (front ++ r.gate ∷ []) ++ r.behind = r.split ∙ sym (append_assoc front (r.gate ∷ []) r.behind) in
      let long : length (front ++ r.gate ∷ []) ≡ end + 1 = omega (arith, length-append front (r.gate ∷ []), length-front) in
      let before : take (end + 1) file ≡ front ++ r.gate ∷ [] = ap (λ (l : List ℕ). take (end + 1) l) whole ∙ take_at (front ++ r.gate ∷ []) r.behind (end + 1) long in
      let tail = drop (end + 1 + length bytes) file in
      ap (λ (l : List ℕ). l ++ bytes ++ tail) before ∙ append_assoc (front ++ r.gate ∷ []) bytes tail ∙ append_assoc front (r.gate ∷ []) (bytes ++ tail)

  pub staged_at_rest : (bytes : List ℕ) → IsAtRest digest end list (written (end + 1) bytes file)
  staged_at_rest bytes = record {
    gate = r.gate;
    behind = bytes ++ drop (end + 1 + length bytes) file;
    closed = r.closed;
    split = staged bytes;
    place = r.place;
    width = r.width;
    sayable = r.sayable;
  }

-- the file with this byte at the gate and a framed body behind
abbrev pub with_gate : List ℕ → List (List ℕ) → List ℕ → List ℕ → ℕ → List ℕ
with_gate digest list body rest gate = header digest ++ encoded list ++ gate ∷ (framed body ++ rest)

module _ (digest : List ℕ) (end : ℕ) (list : List (List ℕ)) (body rest : List ℕ) (place : end ≡ 40 + length (encoded list)) (width : length digest ≡ 32) (sayable : All IsSayable list) (says : IsSayable body) where
  abbrev head : List ℕ
  head = header digest ++ encoded list

  length-head : length head ≡ end
  length-head = omega (arith, length-append (header digest) (encoded list), length-append (0x45 ∷ 0x58 ∷ 0x54 ∷ 0x53 ∷ 0x41 ∷ 0x56 ∷ 0x45 ∷ 0x31 ∷ []) digest, width, place)

  pub length-with_gate : (gate : ℕ) → length (with_gate digest list body rest gate) ≡ end + 42 + length body + length rest
  length-with_gate gate = omega (arith, length-append head (gate ∷ (framed body ++ rest)), length-append (framed body) rest, length-framed body, length-head)

  shut_gate : (gate : ℕ) → gate ≢ 0xA5 → IsAtRest digest end list (with_gate digest list body rest gate)
  shut_gate gate shut = record { gate = gate; behind = framed body ++ rest; closed = shut; split = refl; place = place; width = width; sayable = sayable }

  opened : with_gate digest list body rest 0xA5 ≡ header digest ++ encoded (list ++ body ∷ []) ++ 0 ∷ rest
  opened =
      let last : encoded (body ∷ []) ++ (0 ∷ rest) ≡ 0xA5 ∷ record_of body (0 ∷ rest) = encoded_cons body [] (0 ∷ rest) in
      let this : 0xA5 ∷ (framed body ++ rest) ≡ 0xA5 ∷ record_of body (0 ∷ rest) = ap (λ (l : List ℕ). 0xA5 ∷ l) (framed_split body rest) in
      ap (λ (l : List ℕ). header digest ++ encoded list ++ l) (this ∙ sym last)
      ∙ append_assoc (header digest) (encoded list) (encoded (body ∷ []) ++ 0 ∷ rest)
      ∙ ap (λ (l : List ℕ). header digest ++ l) (sym (append_assoc (encoded list) (encoded (body ∷ [])) (0 ∷ rest)) ∙ ap (λ (l : List ℕ). l ++ 0 ∷ rest) (sym (encoded-append list (body ∷ []))))
      ∙ sym (append_assoc (header digest) (encoded (list ++ body ∷ [])) (0 ∷ rest))

  pub open_gate : IsAtRest digest (end + 41 + length body) (list ++ body ∷ []) (with_gate digest list body rest 0xA5)
  open_gate = record {
    gate = 0;
    behind = rest;
    closed = omega arith;
    split = opened;
    place = omega (arith, place, ap length (encoded-append list (body ∷ [])), length-append (encoded list) (encoded (body ∷ [])), length-encoded body []);
    width = width;
    sayable = All-append IsSayable list (body ∷ []) sayable (All-cons IsSayable body [] says (All-nil IsSayable));
  }

  any_gate : (gate : ℕ) → IsBeforeOrAfter digest (Ok list) body (with_gate digest list body rest gate)
  any_gate gate = elim (cases_eq gate 0xA5) [
    | inl is_open ↦ inr (ap (λ (g : ℕ). records_of digest (with_gate digest list body rest g)) is_open ∙ at_rest_records _ _ _ _ open_gate)
    | inr shut ↦ inl (at_rest_records _ _ _ _ (shut_gate gate shut))
  ]

  pub torn_gate : (gate : ℕ) (c : List ℕ) → Torn end 1 (with_gate digest list body rest gate) c → IsBeforeOrAfter digest (Ok list) body c
  torn_gate gate c torn =
      let is : c ≡ with_gate digest list body rest (get_or c end 0) = one_byte head (framed body ++ rest) c gate end length-head torn.before torn.after (omega (arith, torn.no_shorter, length-with_gate gate)) in
      subst (IsBeforeOrAfter digest (Ok list) body) (sym is) (any_gate (get_or c end 0))

  pub written_gate : (gate : ℕ) → written end (0xA5 ∷ []) (with_gate digest list body rest gate) ≡ with_gate digest list body rest 0xA5
  written_gate gate =
      let before : take end (with_gate digest list body rest gate) ≡ head = take_at head (gate ∷ (framed body ++ rest)) end length-head in
      let after : drop (end + 1) (with_gate digest list body rest gate) ≡ framed body ++ rest =
      ap (λ (l : List ℕ). drop (end + 1) l) (sym (append_assoc head (gate ∷ []) (framed body ++ rest))) ∙ drop_at (head ++ gate ∷ []) (framed body ++ rest) (end + 1) (omega (arith, length-append head (gate ∷ []), length-head)) in
      ap (λ (l : List ℕ). l ++ (0xA5 ∷ []) ++ drop (end + 1) (with_gate digest list body rest gate)) before
      ∙ ap (λ (l : List ℕ). head ++ (0xA5 ∷ []) ++ l) after
      ∙ append_assoc head (0xA5 ∷ []) (framed body ++ rest)
