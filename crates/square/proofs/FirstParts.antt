-- First parts of a list, and of the list with one entry more.
use Rattle.std.proofs.Common.{◌≡◌, ◌⊎◌, ◌↔◌, ℕ, ◌≤◌, Bool, List, [], ◌∷◌, ◌++◌, length, take, drop, Option, Some, refl, sym, ◌∙◌, ap, subst, arith, inl, inr, append_assoc}
use Rattle.std.proofs.lemmas.Option.{same_Some}
use Rattle.std.proofs.lemmas.Bool.{cases_lt}
use Rattle.std.proofs.lemmas.List.{take-append-le, length_push, take-append-drop, take-take}
use Rattle.resolution_laws.specs.Start.{Entry}
use Rattle.square.specs.Squares.{Placed, entry_of}
use Rattle.square.specs.Keeping.{HasFirst}
use Rattle.square.specs.Inside.MemKeep.{IsFirstPart, IsPartOf}

-- a list with the entry of a square, given by its parts
pub kept_more : (list list' : List Entry) (q : Placed) (s above : ℕ) (images kernel : List (List Bool)) (more : List Entry) → list' ≡ list → s ≡ q.s → above ≡ q.above → images ≡ q.content.images → kernel ≡ q.content.kernel → more ≡ list' ++ record { s = s; above = above; content = record { images = images; kernel = kernel } } ∷ [] → more ≡ list ++ entry_of q ∷ []
kept_more list list' q s above images kernel more e1 e2 e3 e4 e5 e =
    let entry = λ (s above : ℕ) (images kernel : List (List Bool)). let x : Entry = record { s = s; above = above; content = record { images = images; kernel = kernel } } in x in
    let here : entry s above images kernel ≡ entry_of q =
    ap (λ n. entry n above images kernel) e2 ∙ ap (λ n. entry q.s n images kernel) e3 ∙ ap (λ x. entry q.s q.above x kernel) e4 ∙ ap (entry q.s q.above q.content.images) e5 in
    e ∙ ap (λ (x : List Entry). x ++ entry s above images kernel ∷ []) e1 ∙ ap (λ (x : Entry). list ++ x ∷ []) here

pub first_parts : (list more : List Entry) (e : Entry) → more ≡ list ++ e ∷ [] → (m : ℕ) (image : Option (List Entry)) → m ≤ length list → IsFirstPart more m image ↔ (IsFirstPart list m image ⊎ IsFirstPart more (length list) image)
first_parts list more e same m image l = (shorter, longer)
  where
    shorter : IsFirstPart more m image → IsFirstPart list m image ⊎ IsFirstPart more (length list) image
    shorter p =
        elim (cases_lt (length list) p.len) [
          | inl b ↦ inr (record { len = p.len; at_least = omega arith; at_most = p.at_most; part = p.part })
          | inr b ↦ inl (record { len = p.len; at_least = p.at_least; at_most = b; part = p.part ∙ ap (λ (x : List Entry). Some x) (ap (take p.len) same ∙ take-append-le p.len list (e ∷ []) b) })
        ]

    longer : IsFirstPart list m image ⊎ IsFirstPart more (length list) image → IsFirstPart more m image
    longer (inl p) =
        let len = ap length same ∙ length_push list e in
        let most = p.at_most in
        record { len = p.len; at_least = p.at_least; at_most = omega arith; part = p.part ∙ ap (λ (x : List Entry). Some x) (sym (ap (take p.len) same ∙ take-append-le p.len list (e ∷ []) most)) }
    longer (inr p) = let least = p.at_least in record { len = p.len; at_least = omega arith; at_most = p.at_most; part = p.part }

-- ---- moments

pub parts_past : (list more : List Entry) (e : Entry) → more ≡ list ++ e ∷ [] → (t : ℕ) (image : Option (List Entry)) → t ≤ length list → IsPartOf more t image ↔ IsPartOf list t image
parts_past list more e same t image l =
    let cut : take t more ≡ take t list = ap (take t) same ∙ take-append-le t list (e ∷ []) l in
    let len = ap length same ∙ length_push list e in (
      λ p. record { within = l; part = p.part ∙ ap (λ (x : List Entry). Some x) cut },
      λ p. record { within = omega arith; part = p.part ∙ ap (λ (x : List Entry). Some x) (sym cut) },
    )

-- a longer first part has what a shorter one has
longer_first : (list first : List Entry) (u v : ℕ) → u ≤ v → HasFirst first (Some (take u list)) → HasFirst first (Some (take v list))
longer_first list first u v le h =
    let shorter : take u (take v list) ≡ take u list = take-take u v list le in
    let parts : take v list ≡ take u list ++ drop u (take v list) = sym (take-append-drop u (take v list)) ∙ ap (λ (x : List Entry). x ++ drop u (take v list)) shorter in
    let front : take u list ≡ first ++ h.more = same_Some (take u list) (first ++ h.more) h.is in
    record { more = h.more ++ drop u (take v list); is = ap (λ (x : List Entry). Some x) (parts ∙ ap (λ (x : List Entry). x ++ drop u (take v list)) front ∙ append_assoc first h.more (drop u (take v list))) }

pub parts_retained : (list first : List Entry) (u v : ℕ) → u ≤ v → v ≤ length list → ((image : Option (List Entry)) → IsPartOf list u image → HasFirst first image) → (image : Option (List Entry)) → IsPartOf list v image → HasFirst first image
parts_retained list first u v le within all image p =
    let here = all (Some (take u list)) (record { within = omega arith; part = refl }) in
    subst (HasFirst first) (sym p.part) (longer_first list first u v le here)
