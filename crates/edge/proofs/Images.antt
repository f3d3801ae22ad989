-- What a crash may leave after each call, and that the bytes that a number picks are an image.
use Rattle.std.proofs.Common.{◌≡◌, ◌↔◌, inl, inr, ℕ, zero, suc, ◌+◌, ◌-◌, ◌%◌, ◌<◌, ◌≤◌, Bool, true, false, cond, List, [], ◌∷◌, ◌++◌, length, take, drop, Option, None, Some, refl, sym, ◌∙◌, ap, subst, arith, append_assoc, length-append, length-drop}
use Rattle.std.proofs.lemmas.List.{take_at, drop_at, length-take-le, length-replicate}
use Rattle.std.specs.Prelude.{replicate}
use Rattle.edge.specs.Disk.{written, Torn, Passes}
use Rattle.edge.specs.Inside.MemDisk.{History, Write, wrote, synced, content, last_synced, marked, shifted, image_of, IsSound, IsImage, ImageAt, age, is_now_in, was_now_in, content_is_image}

-- a part of a list that is put over another leaves what is in front of it
front_stays : {A : Type 0} (at n : ℕ) (part whole : List A) → at ≤ length whole → take at (take at whole ++ part ++ drop (at + n) whole) ≡ take at whole
front_stays at n part whole le =
    let front = take at whole in
    let tail = drop (at + n) whole in
    ap (λ l. take at l) (append_assoc front part tail) ∙ take_at front (part ++ tail) at (length-take-le at whole le)

-- and what is behind it
back_stays : {A : Type 0} (at n : ℕ) (part whole : List A) → length part ≡ n → at ≤ length whole → drop (at + n) (take at whole ++ part ++ drop (at + n) whole) ≡ drop (at + n) whole
back_stays at n part whole len le =
    let front = take at whole in
    drop_at (front ++ part) (drop (at + n) whole) (at + n) (omega (arith, length-append front part, length-take-le at whole le))

length_over : {A : Type 0} (at n : ℕ) (part whole : List A) → length part ≡ n → at ≤ length whole → length (take at whole ++ part ++ drop (at + n) whole) ≡ at + n + (length whole - (at + n))
length_over at n part whole len le =
    let front = take at whole in
    omega (arith, length-append (front ++ part) (drop (at + n) whole), length-append front part, length-take-le at whole le, length-drop (at + n) whole)

-- a write that was done is one that was cut short
pub torn_written : (at : ℕ) (bytes file : List ℕ) → at ≤ length file → Torn at (length bytes) file (written at bytes file)
torn_written at bytes file le = record {
  before = front_stays at (length bytes) bytes file le;
  after = back_stays at (length bytes) bytes file refl le;
  no_shorter = omega (arith, length_over at (length bytes) bytes file refl le);
  no_longer = omega (arith, length_over at (length bytes) bytes file refl le);
}

-- so is one that never began
torn_same : (at n : ℕ) (file : List ℕ) → Torn at n file file
torn_same at n file = record { before = refl; after = refl; no_shorter = omega arith; no_longer = omega arith }

pub synced_images : (old new : History) → new ≡ synced old → (c : List ℕ) → IsImage new.first new.steps c → IsImage old.first old.steps c
synced_images old new is c image =
    let here : c ≡ content old.first old.steps = subst (λ (h : History). IsImage h.first h.steps c) is image in
    subst (IsImage old.first old.steps) (sym here) (content_is_image old.first old.steps)

step_of : (f : List ℕ) (steps : List (Option Write)) (at : ℕ) (bytes : List ℕ) → at ≤ length (content f steps) → (c : List ℕ) → IsImage f (Some (record { at = at; bytes = bytes }) ∷ steps) c → (d : List ℕ) × IsImage f steps d × Torn at (length bytes) d c
step_of f steps at bytes le c (inl whole) = (content f steps, content_is_image f steps, subst (Torn at (length bytes) (content f steps)) (sym whole) (torn_written at bytes (content f steps) le))
step_of f steps at bytes le c (inr torn) = torn

pub wrote_images : (old new : History) (at : ℕ) (bytes : List ℕ) → new ≡ wrote at bytes old → at ≤ length (content old.first old.steps) → (c : List ℕ) → IsImage new.first new.steps c → (d : List ℕ) × IsImage old.first old.steps d × Torn at (length bytes) d c
wrote_images old new at bytes is le c image = step_of old.first old.steps at bytes le c (subst (λ (h : History). IsImage h.first h.steps c) is image)

shifted-take : (p k : ℕ) (xs : List ℕ) (marks : List Bool) → take k (shifted p xs marks) ≡ shifted p (take k xs) (take k marks)
shifted-take p zero [] marks = refl
shifted-take p zero (x ∷ xs) marks = refl
shifted-take p (suc k) [] marks = refl
shifted-take p (suc k) (x ∷ xs) [] = refl
shifted-take p (suc k) (x ∷ xs) (m ∷ marks) = ap (λ (l : List ℕ). cond m ((x + p) % 256) x ∷ l) (shifted-take p k xs marks)

shifted-drop : (p k : ℕ) (xs : List ℕ) (marks : List Bool) → drop k (shifted p xs marks) ≡ shifted p (drop k xs) (drop k marks)
shifted-drop p zero xs marks = refl
shifted-drop p (suc k) [] marks = refl
shifted-drop p (suc k) (x ∷ xs) [] = shifted_unmarked p (drop k xs)
  where
    shifted_unmarked : (p : ℕ) (xs : List ℕ) → xs ≡ shifted p xs []
    shifted_unmarked p [] = refl
    shifted_unmarked p (x ∷ xs) = refl
shifted-drop p (suc k) (x ∷ xs) (m ∷ marks) = shifted-drop p k xs marks

length-shifted : (p : ℕ) (xs : List ℕ) (marks : List Bool) → length (shifted p xs marks) ≡ length xs
length-shifted p [] marks = refl
length-shifted p (x ∷ xs) [] = refl
length-shifted p (x ∷ xs) (m ∷ marks) = ap suc (length-shifted p xs marks)

-- no place is marked
shifted-none : (p n : ℕ) (xs : List ℕ) → shifted p xs (replicate n false) ≡ xs
shifted-none p n [] = refl
shifted-none p zero (x ∷ xs) = refl
shifted-none p (suc n) (x ∷ xs) = ap (λ (l : List ℕ). x ∷ l) (shifted-none p n xs)

length-marked : (f : List ℕ) (steps : List (Option Write)) → IsSound f steps → length (marked f steps) ≡ length (content f steps)
length-marked f [] sound = length-replicate (length f) false
length-marked f (Some w ∷ steps) sound =
    let before : length (marked f steps) ≡ length (content f steps) = length-marked f steps sound.1 in
    let n = length w.bytes in
    let within : w.at ≤ length (content f steps) = sound.0 in
    omega (arith, before, length_over w.at n (replicate n true) (marked f steps) (length-replicate n true) (omega (arith, before, within)), length_over w.at n w.bytes (content f steps) refl within)
length-marked f (None ∷ steps) sound = length-replicate (length (content f steps)) false

-- a write that puts shifted bytes is one that was cut short
shifted_torn : (p at : ℕ) (bytes file : List ℕ) (marks : List Bool) → at ≤ length file → length marks ≡ length file
    → Torn at (length bytes) (shifted p file marks) (shifted p (written at bytes file) (take at marks ++ replicate (length bytes) true ++ drop (at + length bytes) marks))
shifted_torn p at bytes file marks le same =
    let n = length bytes in
    let whole = written at bytes file in
    let all = take at marks ++ replicate n true ++ drop (at + n) marks in
    let le_marks : at ≤ length marks = omega (arith, le, same) in
    let len : length (shifted p whole all) ≡ at + n + (length file - (at + n)) = length-shifted p whole all ∙ length_over at n bytes file refl le in
    let len_old : length (shifted p file marks) ≡ length file = length-shifted p file marks in
    record {
      before = shifted-take p at whole all ∙ ap (λ (l : List ℕ). shifted p l (take at all)) (front_stays at n bytes file le)
          ∙ ap (λ (l : List Bool). shifted p (take at file) l) (front_stays at n (replicate n true) marks le_marks) ∙ sym (shifted-take p at file marks);
      after = shifted-drop p (at + n) whole all ∙ ap (λ (l : List ℕ). shifted p l (drop (at + n) all)) (back_stays at n bytes file refl le)
          ∙ ap (λ (l : List Bool). shifted p (drop (at + n) file) l) (back_stays at n (replicate n true) marks (length-replicate n true) le_marks) ∙ sym (shifted-drop p (at + n) file marks);
      no_shorter = omega (arith, len, len_old);
      no_longer = omega (arith, len, len_old);
    }

shifted_image : (p : ℕ) (f : List ℕ) (steps : List (Option Write)) → IsSound f steps → IsImage f steps (shifted p (content f steps) (marked f steps))
shifted_image p f [] sound = shifted-none p (length f) f
shifted_image p f (Some w ∷ steps) sound = inr (shifted p (content f steps) (marked f steps), shifted_image p f steps sound.1, shifted_torn p w.at w.bytes (content f steps) (marked f steps) sound.0 (length-marked f steps sound.1))
shifted_image p f (None ∷ steps) sound = shifted-none p (length (content f steps)) (content f steps)

synced_image : (f : List ℕ) (steps : List (Option Write)) → IsImage f steps (last_synced f steps)
synced_image f [] = refl
synced_image f (Some w ∷ steps) = inr (last_synced f steps, synced_image f steps, torn_same w.at (length w.bytes) (last_synced f steps))
synced_image f (None ∷ steps) = refl

-- what a number picks is an image
pub picked_image : (pick : ℕ) (h : History) → IsSound h.first h.steps → IsImage h.first h.steps (image_of pick h)
picked_image zero h sound = synced_image h.first h.steps
picked_image (suc zero) h sound = content_is_image h.first h.steps
picked_image (suc (suc pick)) h sound = shifted_image (suc (suc pick) % 256) h.first h.steps sound

-- ---- moments

past_stays : (f : List ℕ) (step : Option Write) (h : List (Option Write)) (t : ℕ) (c : List ℕ) → t ≤ age f h → ImageAt f (step ∷ h) t c ↔ ImageAt f h t c
past_stays f (Some w) h t c le = (λ s. elim s [ inl now ↦ let e = now.0 in absurd (omega arith) | inr past ↦ past ], λ past. inr past)
past_stays f None h t c le = (λ s. elim s [ inl now ↦ let e = now.0 in absurd (omega arith) | inr past ↦ past ], λ past. inr past)

present_is : (f : List ℕ) (step : Option Write) (h : List (Option Write)) (t : ℕ) (c : List ℕ) → age f h < t → t ≤ age f (step ∷ h) → ImageAt f (step ∷ h) t c ↔ IsImage f (step ∷ h) c
present_is f (Some w) h t c above within = let e : t ≡ suc (age f h) = omega arith in (is_now_in f (Some w ∷ h) t c e, was_now_in f (Some w ∷ h) t c e)
present_is f None h t c above within = let e : t ≡ suc (age f h) = omega arith in (is_now_in f (None ∷ h) t c e, was_now_in f (None ∷ h) t c e)

-- a history with one step more
abbrev PassesTo : History → History → Type 0
PassesTo old new = Passes (age old.first old.steps) (age new.first new.steps) (ImageAt old.first old.steps) (ImageAt new.first new.steps) (IsImage new.first new.steps)

pub one_step : (old new : History) (step : Option Write) → new ≡ record { first = old.first; steps = step ∷ old.steps } → PassesTo old new
one_step old new step is = subst (PassesTo old) (sym is) (record { past = past_stays old.first step old.steps; present = present_is old.first step old.steps })

-- and one without
pub no_step : (old new : History) → new ≡ old → PassesTo old new
no_step old new is = subst (PassesTo old) (sym is) (record { past = λ t c le. (λ x. x, λ x. x); present = λ t c above within. absurd (omega arith) })
