-- Entries in pairs: they leave no square taken.
use Rattle.std.proofs.Common.{◌≡◌, ℕ, ℤ, true, false, ◌&&◌, ◌||◌, nat_eq, List, [], ◌∷◌, ◌++◌, ◌⊎◌, inl, inr, refl, sym, ap, subst, ◌∙◌, arith}
use Rattle.std.specs.Prelude.{All}
use Rattle.std.specs.List.{list_any}
use Rattle.std.specs.Ordering.{int_eq}
use Rattle.std.proofs.lemmas.Bool.Decides.{nat_tests, Decides-int_eq}
use Rattle.std.proofs.lemmas.List.Elements.{All-nil, All-cons, All-head, All-tail, All-append}
use Rattle.std.proofs.lemmas.List.Folds.{list_any-append}
use Rattle.board_core.specs.declared.event.Entry.{Entry}
use Rattle.board_core.specs.declared.event.Entry.TheVariants.{Take}
use Rattle.board_core.specs.Entries.{ends_square, HasOpenTake, HasNoneOut, IsPair, in_pairs, ArePairs}

abbrev IsOne : Entry × Entry → Type 0
IsOne p = IsPair p.0 p.1

-- ---- pairs behind pairs

pub pairs_none : ArePairs []
pairs_none = record { pairs = []; each = All-nil IsOne; are = refl }

pub one_pair : (first second : Entry) → IsPair first second → ArePairs (first ∷ (second ∷ []))
one_pair first second is = record { pairs = (first, second) ∷ []; each = All-cons IsOne (first, second) [] is (All-nil IsOne); are = refl }

in_pairs-append : (first second : List (Entry × Entry)) → in_pairs (first ++ second) ≡ in_pairs first ++ in_pairs second
in_pairs-append [] second = refl
in_pairs-append (p ∷ first) second = ap (λ (l : List Entry). p.0 ∷ (p.1 ∷ l)) (in_pairs-append first second)

pub pairs_then : (first second : List Entry) → ArePairs first → ArePairs second → ArePairs (first ++ second)
pairs_then first second a b = record {
  pairs = a.pairs ++ b.pairs;
  each = All-append IsOne a.pairs b.pairs a.each b.each;
  are = ap (λ (l : List Entry). l ++ second) a.are ∙ (ap (λ (l : List Entry). in_pairs a.pairs ++ l) b.are ∙ sym (in_pairs-append a.pairs b.pairs));
}

-- ---- squares that are left taken

not_empty : (before behind : List Entry) (e : Entry) → [] ≡ before ++ e ∷ behind → ⊥
not_empty [] behind e h = cc
not_empty (x ∷ before) behind e h = cc

same_square : (s : ℕ) (t : ℤ) → (nat_eq s s && int_eq t t) ≡ true
same_square s t =
    let row : nat_eq s s ≡ true = grind (arith, nat_tests) in
    let degree : int_eq t t ≡ true = (Decides-int_eq t t).1 refl in
    grind arith

-- the second of a pair ends the square of the first
ends : (first second : Entry) (pair : IsPair first second) → ends_square pair.s pair.t second ≡ true
ends first second pair = elim pair.end [
  | inl give ↦ subst (λ (e : Entry). ends_square pair.s pair.t e ≡ true) (sym give) (same_square pair.s pair.t)
  | inr other ↦ elim other [
    | inl back ↦ subst (λ (e : Entry). ends_square pair.s pair.t e ≡ true) (sym back) (same_square pair.s pair.t)
    | inr fail ↦ subst (λ (e : Entry). ends_square pair.s pair.t e ≡ true) (sym fail) (same_square pair.s pair.t)
  ]
]

-- and is no Take
no_take : (first second : Entry) (pair : IsPair first second) (who s : ℕ) (t : ℤ) (snapshot : ℕ × ℕ) → second ≡ Take who s t snapshot → ⊥
no_take first second pair who s t snapshot is = elim pair.end [
  | inl give ↦ absurd (cc)
  | inr other ↦ elim other [ inl back ↦ absurd (cc) | inr fail ↦ absurd (cc) ]
]

none_taken : (pairs : List (Entry × Entry)) → All IsOne pairs → (before : List Entry) (who s : ℕ) (t : ℤ) (snapshot : ℕ × ℕ) (behind : List Entry) → in_pairs pairs ≡ before ++ Take who s t snapshot ∷ behind → list_any (ends_square s t) behind ≡ false → ⊥
none_taken [] each before who s t snapshot behind is open_still = not_empty before behind (Take who s t snapshot) is
none_taken (p ∷ pairs) each [] who s t snapshot behind is open_still =
    let pair : IsPair p.0 p.1 = All-head IsOne p pairs each in
    let at : (p.0 ∷ (p.1 ∷ in_pairs pairs)) ≡ Take who s t snapshot ∷ behind = is in
    let first : p.0 ≡ Take who s t snapshot = cc in
    let taken : Take who s t snapshot ≡ Take pair.who pair.s pair.t pair.snapshot = sym first ∙ pair.take in
    let row : pair.s ≡ s = cc in
    let degree : pair.t ≡ t = cc in
    let tail : (p.1 ∷ in_pairs pairs) ≡ behind = cc in
    let ended : ends_square s t p.1 ≡ true = subst (λ (u : ℤ). ends_square s u p.1 ≡ true) degree (subst (λ (i : ℕ). ends_square i pair.t p.1 ≡ true) row (ends p.0 p.1 pair)) in
    let still : list_any (ends_square s t) (p.1 ∷ in_pairs pairs) ≡ false = subst (λ (l : List Entry). list_any (ends_square s t) l ≡ false) (sym tail) open_still in
    let any : list_any (ends_square s t) (p.1 ∷ in_pairs pairs) ≡ true = ap (λ b. b || list_any (ends_square s t) (in_pairs pairs)) ended in
    cc
none_taken (p ∷ pairs) each (x ∷ []) who s t snapshot behind is open_still =
    let at : (p.0 ∷ (p.1 ∷ in_pairs pairs)) ≡ x ∷ (Take who s t snapshot ∷ behind) = is in
    let second : p.1 ≡ Take who s t snapshot = cc in
    no_take p.0 p.1 (All-head IsOne p pairs each) who s t snapshot second
none_taken (p ∷ pairs) each (x ∷ y ∷ before) who s t snapshot behind is open_still =
    let at : (p.0 ∷ (p.1 ∷ in_pairs pairs)) ≡ x ∷ (y ∷ (before ++ Take who s t snapshot ∷ behind)) = is in
    let tail : in_pairs pairs ≡ before ++ Take who s t snapshot ∷ behind = cc in
    none_taken pairs (All-tail IsOne p pairs each) before who s t snapshot behind tail open_still

pub pairs_leave_none : (events : List Entry) → ArePairs events → HasNoneOut events
pairs_leave_none events are s t taken = none_taken are.pairs are.each taken.before taken.who s t taken.snapshot taken.behind (sym are.are ∙ taken.is) taken.open_still

-- where neither leaves a square taken, both together leave none
open_in : (first second before : List Entry) (who s : ℕ) (t : ℤ) (snapshot : ℕ × ℕ) (behind : List Entry) → first ++ second ≡ before ++ Take who s t snapshot ∷ behind → list_any (ends_square s t) behind ≡ false → HasOpenTake first s t ⊎ HasOpenTake second s t
open_in [] second before who s t snapshot behind is open_still = inr (record { before = before; who = who; snapshot = snapshot; behind = behind; is = is; open_still = open_still })
open_in (x ∷ first) second [] who s t snapshot behind is open_still =
    let at : (x ∷ (first ++ second)) ≡ Take who s t snapshot ∷ behind = is in
    let head : x ≡ Take who s t snapshot = cc in
    let tail : first ++ second ≡ behind = cc in
    let still : list_any (ends_square s t) (first ++ second) ≡ false = subst (λ (l : List Entry). list_any (ends_square s t) l ≡ false) (sym tail) open_still in
    let either : (list_any (ends_square s t) first || list_any (ends_square s t) second) ≡ false = sym (list_any-append (ends_square s t) first second) ∙ still in
    let left : list_any (ends_square s t) first ≡ false = grind arith in
    inl (record { before = []; who = who; snapshot = snapshot; behind = first; is = ap (λ (e : Entry). e ∷ first) head; open_still = left })
open_in (x ∷ first) second (y ∷ before) who s t snapshot behind is open_still =
    let at : (x ∷ (first ++ second)) ≡ y ∷ (before ++ Take who s t snapshot ∷ behind) = is in
    let tail : first ++ second ≡ before ++ Take who s t snapshot ∷ behind = cc in
    elim (open_in first second before who s t snapshot behind tail open_still) [
      | inl a ↦ inl (record { before = x ∷ a.before; who = a.who; snapshot = a.snapshot; behind = a.behind; is = ap (λ (l : List Entry). x ∷ l) a.is; open_still = a.open_still })
      | inr b ↦ inr b
    ]

pub none_out_then : (first second : List Entry) → HasNoneOut first → HasNoneOut second → HasNoneOut (first ++ second)
none_out_then first second a b s t taken = elim (open_in first second taken.before taken.who s t taken.snapshot taken.behind taken.is taken.open_still) [
  | inl in_first ↦ a s t in_first
  | inr in_second ↦ b s t in_second
]
