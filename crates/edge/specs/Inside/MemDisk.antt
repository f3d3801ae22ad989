-- The disk of tests: what was done to it, what a crash may leave of it, and when its calls fail.
use Rattle.std.specs.Prelude.{◌≡◌, ◌⊎◌, ◌↔◌, ℕ, zero, suc, ◌+◌, ◌%◌, ◌≤◌, Bool, true, false, cond, List, [], ◌∷◌, ◌++◌, length, take, drop, replicate, Option, None, Some, refl}
use Rattle.std.proofs.Common.{inl, inr, arith}
use Rattle.std.proofs.lemmas.Bool.{cases_lt}
use Rattle.std.specs.Prelude.{◌||◌, nat_lt}
use Rattle.edge.specs.Disk.{written, Torn, WasImageSince}
use Rattle.edge.specs.Faults.{one_up, is_listed}

-- a write of these bytes from this place on
pub record Write : Type 0 where
  pub at : ℕ
  pub bytes : List ℕ

-- the bytes that a disk was opened with, and what was done since then, the last first: a write, or none for a sync
pub record History : Type 0 where
  pub first : List ℕ
  pub steps : List (Option Write)

abbrev pub opened : List ℕ → History
opened bytes = record { first = bytes; steps = [] }

abbrev pub wrote : ℕ → List ℕ → History → History
wrote at bytes h = record { first = h.first; steps = Some (record { at = at; bytes = bytes }) ∷ h.steps }

abbrev pub synced : History → History
synced h = record { first = h.first; steps = None ∷ h.steps }

-- what a read gives
abbrev pub content : List ℕ → List (Option Write) → List ℕ
content f [] = f
content f (Some w ∷ h) = written w.at w.bytes (content f h)
content f (None ∷ h) = content f h

-- the bytes of the last sync
abbrev pub last_synced : List ℕ → List (Option Write) → List ℕ
last_synced f [] = f
last_synced f (Some w ∷ h) = last_synced f h
last_synced f (None ∷ h) = content f h

-- which places were written since then
abbrev pub marked : List ℕ → List (Option Write) → List Bool
marked f [] = replicate (length f) false
marked f (Some w ∷ h) =
    take w.at (marked f h) ++ replicate (length w.bytes) true ++ drop (w.at + length w.bytes) (marked f h)
marked f (None ∷ h) = replicate (length (content f h)) false

-- each write began within the file
abbrev pub IsSound : List ℕ → List (Option Write) → Type 0
IsSound f [] = Unit {0}
IsSound f (Some w ∷ h) = (w.at ≤ length (content f h)) × IsSound f h
IsSound f (None ∷ h) = IsSound f h

-- What a crash may leave: after a sync what was written, and behind each write since then that, cut short or whole.
abbrev pub IsImage : List ℕ → List (Option Write) → List ℕ → Type 0
IsImage f [] c = c ≡ f
IsImage f (Some w ∷ h) c =
    (c ≡ written w.at w.bytes (content f h)) ⊎ ((d : List ℕ) × IsImage f h d × Torn w.at (length w.bytes) d c)
IsImage f (None ∷ h) c = c ≡ content f h

-- how many writes and syncs there were
abbrev pub age : List ℕ → List (Option Write) → ℕ
age f [] = 0
age f (Some w ∷ h) = suc (age f h)
age f (None ∷ h) = suc (age f h)

-- what a crash at that age might have left
abbrev pub ImageAt : List ℕ → List (Option Write) → ℕ → List ℕ → Type 0
ImageAt f [] t c = (t ≡ 0) × (c ≡ f)
ImageAt f (Some w ∷ h) t c = ((t ≡ suc (age f h)) × IsImage f (Some w ∷ h) c) ⊎ ImageAt f h t c
ImageAt f (None ∷ h) t c = ((t ≡ suc (age f h)) × (c ≡ content f h)) ⊎ ImageAt f h t c

-- what a crash since that age might have left
abbrev pub Since : List ℕ → List (Option Write) → ℕ → List ℕ → Type 0
Since f [] t c = (t ≤ 0) × (c ≡ f)
Since f (Some w ∷ h) t c = ((t ≤ suc (age f h)) × IsImage f (Some w ∷ h) c) ⊎ Since f h t c
Since f (None ∷ h) t c = ((t ≤ suc (age f h)) × (c ≡ content f h)) ⊎ Since f h t c

pub content_is_image : (f : List ℕ) (h : List (Option Write)) → IsImage f h (content f h)
content_is_image f [] = refl
content_is_image f (Some w ∷ h) = inl refl
content_is_image f (None ∷ h) = refl

pub within_age : (f : List ℕ) (h : List (Option Write)) (t : ℕ) (c : List ℕ) → Since f h t c → t ≤ age f h
within_age f [] t c s = s.0
within_age f (Some w ∷ h) t c (inl now) = now.0
within_age f (Some w ∷ h) t c (inr past) = let before = within_age f h t c past in omega arith
within_age f (None ∷ h) t c (inl now) = now.0
within_age f (None ∷ h) t c (inr past) = let before = within_age f h t c past in omega arith

pub counts_now_in : (f : List ℕ) (h : List (Option Write)) (c : List ℕ) → IsImage f h c → Since f h (age f h) c
counts_now_in f [] c image = (omega arith, image)
counts_now_in f (Some w ∷ h) c image = inl (omega arith, image)
counts_now_in f (None ∷ h) c image = inl (omega arith, image)

pub only_now_in : (f : List ℕ) (h : List (Option Write)) (c : List ℕ) → Since f h (age f h) c → IsImage f h c
only_now_in f [] c s = s.1
only_now_in f (Some w ∷ h) c (inl now) = now.1
only_now_in f (Some w ∷ h) c (inr past) = let before = within_age f h (suc (age f h)) c past in absurd (omega arith)
only_now_in f (None ∷ h) c (inl now) = now.1
only_now_in f (None ∷ h) c (inr past) = let before = within_age f h (suc (age f h)) c past in absurd (omega arith)

pub since_earlier_in : (f : List ℕ) (h : List (Option Write)) (t u : ℕ) (c : List ℕ) → t ≤ u → Since f h u c →
    Since f h t c
since_earlier_in f [] t u c le s = let l = s.0 in (omega arith, s.1)
since_earlier_in f (Some w ∷ h) t u c le (inl now) = let l = now.0 in inl (omega arith, now.1)
since_earlier_in f (Some w ∷ h) t u c le (inr past) = inr (since_earlier_in f h t u c le past)
since_earlier_in f (None ∷ h) t u c le (inl now) = let l = now.0 in inl (omega arith, now.1)
since_earlier_in f (None ∷ h) t u c le (inr past) = inr (since_earlier_in f h t u c le past)

up_to_age : (f : List ℕ) (h : List (Option Write)) (t : ℕ) (c : List ℕ) → ImageAt f h t c → t ≤ age f h
up_to_age f [] t c s = let e = s.0 in omega arith
up_to_age f (Some w ∷ h) t c (inl now) = let e = now.0 in omega arith
up_to_age f (Some w ∷ h) t c (inr past) = let before = up_to_age f h t c past in omega arith
up_to_age f (None ∷ h) t c (inl now) = let e = now.0 in omega arith
up_to_age f (None ∷ h) t c (inr past) = let before = up_to_age f h t c past in omega arith

pub is_now_in : (f : List ℕ) (h : List (Option Write)) (t : ℕ) (c : List ℕ) → t ≡ age f h → ImageAt f h t c → IsImage f h c
is_now_in f [] t c e s = s.1
is_now_in f (Some w ∷ h) t c e (inl now) = now.1
is_now_in f (Some w ∷ h) t c e (inr past) = let before = up_to_age f h t c past in absurd (omega arith)
is_now_in f (None ∷ h) t c e (inl now) = now.1
is_now_in f (None ∷ h) t c e (inr past) = let before = up_to_age f h t c past in absurd (omega arith)

pub was_now_in : (f : List ℕ) (h : List (Option Write)) (t : ℕ) (c : List ℕ) → t ≡ age f h → IsImage f h c → ImageAt f h t c
was_now_in f [] t c e image = (e, image)
was_now_in f (Some w ∷ h) t c e image = inl (e, image)
was_now_in f (None ∷ h) t c e image = inl (e, image)

pub at_now_in : (f : List ℕ) (h : List (Option Write)) (c : List ℕ) → ImageAt f h (age f h) c ↔ IsImage f h c
at_now_in f h c = (is_now_in f h (age f h) c refl, was_now_in f h (age f h) c refl)

-- at each moment there is one
pub some_image_in : (f : List ℕ) (h : List (Option Write)) (t : ℕ) → t ≤ age f h → (c : List ℕ) × ImageAt f h t c
some_image_in f [] t le = (f, (omega arith, refl))
some_image_in f (Some w ∷ h) t le = elim (cases_lt (age f h) t) [
  | inl above ↦ (written w.at w.bytes (content f h), inl (omega arith, inl refl))
  | inr upto ↦ let before = some_image_in f h t upto in (before.0, inr before.1)
]
some_image_in f (None ∷ h) t le = elim (cases_lt (age f h) t) [
  | inl above ↦ (content f h, inl (omega arith, refl))
  | inr upto ↦ let before = some_image_in f h t upto in (before.0, inr before.1)
]

-- an image at a moment is one since each earlier one, and the other way round
since_of : (f : List ℕ) (h : List (Option Write)) (t u : ℕ) (c : List ℕ) → t ≤ u → ImageAt f h u c → Since f h t c
since_of f [] t u c le s = let e = s.0 in (omega arith, s.1)
since_of f (Some w ∷ h) t u c le (inl now) = let e = now.0 in inl (omega arith, now.1)
since_of f (Some w ∷ h) t u c le (inr past) = inr (since_of f h t u c le past)
since_of f (None ∷ h) t u c le (inl now) = let e = now.0 in inl (omega arith, now.1)
since_of f (None ∷ h) t u c le (inr past) = inr (since_of f h t u c le past)

was_since : (f : List ℕ) (h : List (Option Write)) (t : ℕ) (c : List ℕ) → Since f h t c → WasImageSince (age f h) (ImageAt f h) t c
was_since f [] t c s = record { moment = 0; from = s.0; within = omega arith; image = (refl, s.1) }
was_since f (Some w ∷ h) t c (inl now) = record { moment = suc (age f h); from = now.0; within = omega arith; image = inl (refl, now.1) }
was_since f (Some w ∷ h) t c (inr past) =
    let before = was_since f h t c past in
    record { moment = before.moment; from = before.from; within = let l = before.within in omega arith; image = inr before.image }
was_since f (None ∷ h) t c (inl now) = record { moment = suc (age f h); from = now.0; within = omega arith; image = inl (refl, now.1) }
was_since f (None ∷ h) t c (inr past) =
    let before = was_since f h t c past in
    record { moment = before.moment; from = before.from; within = let l = before.within in omega arith; image = inr before.image }

pub since_is_in : (f : List ℕ) (h : List (Option Write)) (t : ℕ) (c : List ℕ) → Since f h t c ↔ WasImageSince (age f h) (ImageAt f h) t c
since_is_in f h t c = (was_since f h t c, λ w. since_of f h t w.moment c w.from w.image)

-- the bytes with a number added, mod 256, at the marked places
abbrev pub shifted : ℕ → List ℕ → List Bool → List ℕ
shifted p [] places = []
shifted p (x ∷ xs) [] = x ∷ xs
shifted p (x ∷ xs) (place ∷ places) = cond place ((x + p) % 256) x ∷ shifted p xs places

-- the image that a number picks: 0 the bytes of the last sync, 1 all as written, another one those with it added at each
-- place that was written since that sync
abbrev pub image_of : ℕ → History → List ℕ
image_of zero h = last_synced h.first h.steps
image_of (suc zero) h = content h.first h.steps
image_of (suc (suc pick)) h = shifted (suc (suc pick) % 256) (content h.first h.steps) (marked h.first h.steps)

-- What a disk of tests has. Its calls, counted from 1, fail where they are listed in failing, come after stop_after, or where
-- the bytes that it was opened with, those written since and the calls would pass the room.
pub record Stored : Type 0 where
  pub history : History
  pub room : ℕ
  pub used : ℕ
  pub failing : List ℕ
  pub stop_after : ℕ
  pub calls : ℕ
  pub faults : ℕ

-- one call more, of n bytes to write, would pass the room
abbrev pub passes_room : Stored → ℕ → Bool
passes_room disk n = nat_lt disk.room (disk.used + one_up disk.calls + n)

-- the next call fails, where it has n bytes to write
abbrev pub call_fails : Stored → ℕ → Bool
call_fails disk n =
    is_listed disk.failing (one_up disk.calls) || nat_lt disk.stop_after (one_up disk.calls) || passes_room disk n

abbrev pub after_failed_call : Stored → Stored
after_failed_call disk = record disk { calls = one_up disk.calls; faults = one_up disk.faults }

abbrev pub after_look : Stored → Stored
after_look disk = record disk { calls = one_up disk.calls }

abbrev pub after_write : Stored → ℕ → List ℕ → Stored
after_write disk at bytes = record disk {
  history = wrote at bytes disk.history;
  used = disk.used + length bytes;
  calls = one_up disk.calls;
}

abbrev pub after_sync : Stored → Stored
after_sync disk = record disk { history = synced disk.history; calls = one_up disk.calls }
