-- The members of an object whose keys rise stand as they are read.
use Rattle.std.specs.Cmp.Lexicographic.{slice_cmp}
use Rattle.std.specs.List.{AllByRecursion}
use Rattle.std.specs.Ordering.{nat_cmp, match_ordering}
use Rattle.std.proofs.Common.{◌≡◌, ℕ, ◌<◌, ◌^◌, ℤ, pos, negsuc, Greater, List, [], ◌∷◌, ◌++◌, Some, option_map, option_and_then, refl, sym, ap, ◌∙◌, arith, append_assoc, append-nil}
use lib.Signed.{mag}
use Rattle.serde_json.specs.Data.{Data, number, string, item, Members, no_members, member, put}
use Rattle.serde_json.specs.Read.{number_of, of_items, of_members}
use Rattle.serde_json.specs.Written.{number_text, items_outline, members_outline}
use Rattle.serde_json.proofs.Numbers.{number_of-decimal, number_of-negative}
use Rattle.module_spec.specs.Spec.{Generator}
use Rattle.file_text_laws.proofs.Written.{number_from, members_of, items_of}

-- the first name is behind the second
abbrev pub Behind : List ℕ → List ℕ → Type 0
Behind k l = slice_cmp nat_cmp k l ≡ Greater

-- a name is behind those of all these generators
abbrev pub BehindAll : List ℕ → List Generator → Type 0
BehindAll k gs = AllByRecursion (λ g. Behind k g.name) gs

put_last : (k : List ℕ) (d : Data) (g : Generator) (gs : List Generator) → BehindAll g.name gs → d ≡ number (number_from g.degree) → k ≡ g.name → put k d (members_of gs) ≡ members_of (gs ++ g ∷ [])
put_last k d g [] h e f = ap (λ x. member k x no_members) e ∙ ap (λ l. member l (number (number_from g.degree)) no_members) f
put_last k d g (x ∷ xs) h e f =
    let rest : Members = members_of xs in
    let first : Data = number (number_from x.degree) in
    ap (λ o. match_ordering o (member k d (member x.name first rest)) (member x.name d rest) (member x.name first (put k d rest))) (ap (λ l. slice_cmp nat_cmp l x.name) f ∙ h.0)
    ∙ ap (member x.name first) (put_last k d g xs h.1 e f)

pub number_read : (z : ℤ) → mag z < 2 ^ 63 → number_of (number_text (number_from z)) ≡ Some (number_from z)
number_read (pos n) h = number_of-decimal n (omega arith)
number_read (negsuc n) h = number_of-negative n (omega arith)

-- the names of the generators rise, and their degrees are small
abbrev pub Rise : List Generator → List Generator → Type 0
Rise before [] = Unit {0}
Rise before (g ∷ gs) = BehindAll g.name before × (mag g.degree < 2 ^ 63) × Rise (before ++ g ∷ []) gs

pub members_read : (before gs : List Generator) → Rise before gs → of_members (members_outline (members_of gs)) (members_of before) ≡ Some (members_of (before ++ gs))
members_read before [] h = ap (λ gs. Some (members_of gs)) (sym (append-nil before))
members_read before (g ∷ gs) h =
    let d : Data = number (number_from g.degree) in
    ap (λ o. option_and_then (λ d. of_members (members_outline (members_of gs)) (put g.name d (members_of before))) (option_map number o)) (number_read g.degree h.1)
    ∙ ap (of_members (members_outline (members_of gs))) (put_last g.name d g before h.0 refl refl)
    ∙ members_read (before ++ g ∷ []) gs h.2
    ∙ ap (λ gs. Some (members_of gs)) (append_assoc before (g ∷ []) gs)

pub items_read : (ts : List (List ℕ)) → of_items (items_outline (items_of ts)) ≡ Some (items_of ts)
items_read [] = refl
items_read (t ∷ ts) = ap (λ o. option_map (item (string t)) o) (items_read ts)
