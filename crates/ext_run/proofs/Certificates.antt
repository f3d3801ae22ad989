-- A file is taken up as tables that have the same squares, so that it decides whether it is a certificate.
use Rattle.std.proofs.Common.{◌≡◌, ℕ, suc, List, [], ◌∷◌, length, map, Bool, true, false, Option, Some, None, refl, sym, ap, ap₂, ◌∙◌, arith}
use Rattle.std.specs.Prelude.{◌&&◌, if◌then◌else◌, nat_eq, slice_get, option_and_then, Ok}
use Rattle.std.specs.Option.{option_map}
use Rattle.std.proofs.lemmas.Bool.{and_parts, eqb-true}
use Rattle.f2_matrix.specs.Reduction.{Reduction}
use Rattle.finite_module.specs.Module.{Module as SteenrodModule}
use Rattle.resolution_laws.specs.Resolution.{Content}
use Rattle.resolution_laws.specs.Start.{Entry, entry_at}
use Rattle.square.specs.Squares.{Placed}
use Rattle.square.specs.Tables.{Staircase, contents, row_in, plain_rows}
use Rattle.cert_check.proofs.Alike.{AreAlike, certifies_alike, first_alike}
use Rattle.cert_check.proofs.Faults.{one_first, none_first}
use Rattle.save_file.specs.Bodies.{Kept}
use Rattle.save_file.specs.Saved.{quasi_kept, kept_of_table}
use Rattle.save_file.proofs.TakingUp.{holds_start}
use Rattle.ext_run.specs.Certificates.{IsTakenUpAs, CertificateIsDecided}

-- ---- lists

abbrev content_in : Option Placed → Option Content
content_in o = option_map (λ (q : Placed). q.content) o

-- two rows with the same contents at each place
same_row : (p q : List Placed) → ((k : ℕ) → content_in (slice_get p k) ≡ content_in (slice_get q k)) → contents p ≡ contents q
same_row [] [] same = refl
same_row [] (y ∷ q) same = absurd (let e = same 0 in cc)
same_row (x ∷ p) [] same = absurd (let e = same 0 in cc)
same_row (x ∷ p) (y ∷ q) same =
    let first = same 0 in
    let head : x.content ≡ y.content = cc in
    ap₂ (λ (c : Content) (l : List Content). c ∷ l) head (same_row p q (λ k. same (suc k)))

same_rows : (p q : List (List Placed)) → length p ≡ length q → ((s k : ℕ) → content_in (slice_get (row_in p s) k) ≡ content_in (slice_get (row_in q s) k)) → plain_rows p ≡ plain_rows q
same_rows [] [] few same = refl
same_rows [] (y ∷ q) few same = absurd (omega arith)
same_rows (x ∷ p) [] few same = absurd (omega arith)
same_rows (x ∷ p) (y ∷ q) few same =
    ap₂ (λ (r : List Content) (l : List (List Content)). r ∷ l) (same_row x y (λ k. same 0 k)) (same_rows p q (omega arith) (λ s k. same (suc s) k))

-- a square with the quasi-inverse at its place
abbrev kept_with : (ℕ → ℕ → Option Reduction) → Entry → Kept
kept_with f e = record { entry = e; quasi = f e.s e.above }

-- the quasi-inverses of two lists of what is kept, at the place of one of its squares
same_kept : (f g : ℕ → ℕ → Option Reduction) (start : List Entry) (s k : ℕ) (c : Content) → map (kept_with f) start ≡ map (kept_with g) start →
    entry_at start s k ≡ Some c → f s k ≡ g s k
same_kept f g [] s k c both is = absurd (cc)
same_kept f g (e ∷ es) s k c both is = by_place (nat_eq e.s s && nat_eq e.above k) refl (same_kept f g es s k c tails) is
  where
    first : kept_with f e ≡ kept_with g e
    first = cc

    heads : f e.s e.above ≡ g e.s e.above
    heads = ap (λ (k : Kept). k.quasi) first

    tails : map (kept_with f) es ≡ map (kept_with g) es
    tails = cc

    by_place : (here : Bool) → (nat_eq e.s s && nat_eq e.above k) ≡ here → (entry_at es s k ≡ Some c → f s k ≡ g s k) → (if here then Some e.content else entry_at es s k) ≡ Some c → f s k ≡ g s k
    by_place true at rest there =
        let parts = and_parts (nat_eq e.s s) (nat_eq e.above k) at in
        let row = eqb-true e.s s parts.0 in
        let place = eqb-true e.above k parts.1 in
        ap₂ f (sym row) (sym place) ∙ (heads ∙ ap₂ g row place)
    by_place false at rest there = rest there

-- a square and its quasi-inverse, from the content and the quasi-inverse of a place
both_quasis : (o p : Option Placed) → content_in o ≡ content_in p → ((c : Content) → content_in o ≡ Some c → option_and_then (λ (q : Placed). q.quasi) o ≡ option_and_then (λ (q : Placed). q.quasi) p) → option_map (λ (q : Placed). q.quasi) o ≡ option_map (λ (q : Placed). q.quasi) p
both_quasis None None e f = refl
both_quasis None (Some y) e f = absurd (cc)
both_quasis (Some x) None e f = absurd (cc)
both_quasis (Some x) (Some y) e f = ap (λ (r : Option Reduction). Some r) (f x.content refl)

-- ---- one file

module _ (m : SteenrodModule) (file : List ℕ) (a b : Staircase) (p : IsTakenUpAs m file a) (q : IsTakenUpAs m file b) where
  same_start : a.start ≡ b.start
  same_start = let both : Ok a.start ≡ Ok b.start = sym p.stands ∙ q.stands in cc

  same_content : (s k : ℕ) → content_in (slice_get (row_in a.rows s) k) ≡ content_in (slice_get (row_in b.rows s) k)
  same_content s k = sym (holds_start a p.is_table p.all_read s k) ∙ (ap (λ (l : List Entry). entry_at l s k) same_start ∙ holds_start b q.is_table q.all_read s k)

  same_quasi : (s k : ℕ) (c : Content) → content_in (slice_get (row_in a.rows s) k) ≡ Some c → quasi_kept a.rows s k ≡ quasi_kept b.rows s k
  same_quasi s k c there =
      let lists : kept_of_table a ≡ kept_of_table b = sym p.keeps ∙ q.keeps in
      let here : map (kept_with (quasi_kept a.rows)) a.start ≡ map (kept_with (quasi_kept b.rows)) a.start =
      lists ∙ ap (map (kept_with (quasi_kept b.rows))) (sym same_start) in
      same_kept (quasi_kept a.rows) (quasi_kept b.rows) a.start s k c here (holds_start a p.is_table p.all_read s k ∙ there)

  alike : AreAlike a b
  alike = record {
    plain = p.of_module ∙ sym q.of_module;
    contents = same_rows a.rows b.rows (p.is_table.rows ∙ sym q.is_table.rows) same_content;
    held = same_content;
    kept = λ s k. both_quasis (slice_get (row_in a.rows s) k) (slice_get (row_in b.rows s) k) (same_content s k) (same_quasi s k);
  }

pub certificate_decided : CertificateIsDecided
certificate_decided = record {
  apart = λ range m file fault c n. none_first n.0 range (certifies_alike c.0 n.0 (alike m file c.0 n.0 c.1 n.1) range c.2) fault n.2;
  one_fault = λ range m file e f c n. one_first n.0 range e f (first_alike c.0 n.0 (alike m file c.0 n.0 c.1 n.1) range e c.2) n.2;
}
