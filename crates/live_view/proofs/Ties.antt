-- The rule that all have the book of the value: which steps keep it.
use Rattle.std.proofs.Common.{◌≡◌, ◌≢◌, ℕ, List, Option, None, Some, set, refl, sym, ◌∙◌, ap, subst, ⊎_elim}
use mathlib.Core.Option.{some}
use lib.ListN.{get_elem?}
use Rattle.left_right.specs.Register.{Admits, TurnsAt, Forks, Merges}
use Rattle.atomic_table.proofs.Lists.{at_set, at_snoc}
use Rattle.logbook.specs.Pages.{Book}
use Rattle.live_view.specs.Published.{KnownViews}
use Rattle.live_view.specs.Inside.Ties.{numbers_of, tie_of, AllTied, HasSeen}

abbrev Tie : Type 0
Tie = Option (ℕ × ℕ × ℕ)

pub same_book : (a b : Book) → numbers_of a ≡ numbers_of b → a ≡ b
same_book a b e = λ i. record { number = (e i).0; log_name = (e i).1; cells_name = (e i).2 }

set_tied : (book : Book) (views : List Tie) (seat : ℕ) (v : Tie) → AllTied book views → ((t : ℕ × ℕ × ℕ) → v ≡ Some t → t ≡ numbers_of book) → AllTied book (set views seat v)
set_tied book views seat v all is j t at =
    ⊎_elim
    (λ (p : (j ≡ seat) × (v ≡ Some t)). is t p.1)
    (λ (p : (j ≢ seat) × (get_elem? views j ≡ some (Some t))). all j t p.1)
    (at_set views seat j v (Some t) at)

pub admits : Admits (λ (k : KnownViews). AllTied k.book) None
admits x views all seat t at = ⊎_elim (all seat t) (λ (e : None ≡ Some t). absurd cc) (at_snoc views None (Some t) seat at)

-- a step that leaves the book as it is
pub sees : (seat : ℕ) (v : Tie) (x y : KnownViews) → y.book ≡ x.book → TurnsAt (λ (k : KnownViews). AllTied k.book) seat v x y (λ v x y w. HasSeen v x.book y.book w)
sees seat v x y same views all at = (
  tie_of y.book,
  set_tied y.book views seat (tie_of y.book) (subst (λ (b : Book). AllTied b views) (sym same) all) (λ t e. cc),
  record { has = refl; had = λ t e. all seat t (at ∙ ap some e) },
)

pub forks : (seat : ℕ) (v : Tie) → Forks (λ (k : KnownViews). AllTied k.book) seat v v v
forks seat v x views all at j t e =
    ⊎_elim
    (set_tied x.book views seat v all (λ u is. all seat u (at ∙ ap some is)) j t)
    (λ (same : v ≡ Some t). all seat t (at ∙ ap some same))
    (at_snoc (set views seat v) v (Some t) j e)

pub merges : (seat : ℕ) (v : Tie) (other : ℕ) (w : Tie) → Merges (λ (k : KnownViews). AllTied k.book) seat v other w w None
merges seat v other w x views all at apart there =
    let mine : (t : ℕ × ℕ × ℕ) → w ≡ Some t → t ≡ numbers_of x.book = λ t e.
    ⊎_elim
    (λ (p : (other ≡ seat) × (w ≡ w)). absurd (apart p.0))
    (λ (p : (other ≢ seat) × (get_elem? views other ≡ some w)). all other t (p.1 ∙ ap some e))
    (at_set views seat other w w there) in
    set_tied x.book (set views seat w) other None (set_tied x.book views seat w all mine) (λ t e. absurd cc)
