-- The modules that values describe, one after another.
use Rattle.std.specs.Prelude.{◌≡◌, ℕ, ◌+◌, ◌<◌, ◌≤◌, List, [], ◌∷◌, ◌++◌, length, drop, Result, Ok, Err}
use Rattle.std.proofs.Common.{get_or, refl, sym, ap, ◌∙◌, append_assoc}
use Rattle.std.proofs.lemmas.List.{at_drop_more, at_drop_all, append-nil}
use Rattle.serde_json.specs.View.{view, items_view}
use Rattle.serde_json.specs.declared.value.Value.{Value}
use Rattle.module_spec.specs.Spec.{File}
use Rattle.module_json.specs.ModuleFile.{file_of}
use Rattle.module_json.specs.Parts.{with_file, files_of}
use Rattle.module_json.specs.declared.malformed.Malformed.{Malformed}

-- modules, and those of an answer behind them
abbrev pub before : List File → Result (List File) Malformed → Result (List File) Malformed
before fs (Ok gs) = Ok (fs ++ gs)
before fs (Err e) = Err e

pub before-none : (r : Result (List File) Malformed) → r ≡ before [] r
before-none (Ok fs) = refl
before-none (Err e) = refl

before-more : (fs : List File) (f : File) (r : Result (List File) Malformed) → before fs (with_file (Ok f) r) ≡ before (fs ++ f ∷ []) r
before-more fs f (Ok gs) = ap Ok (sym (append_assoc fs (f ∷ []) gs))
before-more fs f (Err e) = refl

-- what is known of the modules fs of the values before value i of the list
pub record AreMade (values : List Value) (i : ℕ) (fs : List File) : Type 0 where
  pub left : files_of (items_view values) ≡ before fs (files_of (items_view (drop i values)))

turn : (values : List Value) (i : ℕ) (v : Value) → i < length values → v ≡ get_or values i v → files_of (items_view (drop i values)) ≡ with_file (file_of (view v)) (files_of (items_view (drop (i + 1) values)))
turn values i v l is = at_drop_more (λ vs. files_of (items_view vs)) values i v l ∙ ap (λ w. files_of (items_view (w ∷ drop (i + 1) values))) (sym is)

pub AreMade-none : (values : List Value) → AreMade values 0 []
AreMade-none values = record { left = before-none (files_of (items_view values)) }

pub AreMade-next : (values : List Value) (i : ℕ) (fs : List File) (v : Value) (f : File) → AreMade values i fs → i < length values → v ≡ get_or values i v → file_of (view v) ≡ Ok f → AreMade values (i + 1) (fs ++ f ∷ [])
AreMade-next values i fs v f made l is h =
    let rest = files_of (items_view (drop (i + 1) values)) in
    record { left = made.left ∙ ap (before fs) (turn values i v l is ∙ ap (λ r. with_file r rest) h) ∙ before-more fs f rest }

pub made_refused : (values : List Value) (i : ℕ) (fs : List File) (v : Value) (e : Malformed) → AreMade values i fs → i < length values → v ≡ get_or values i v → file_of (view v) ≡ Err e → files_of (items_view values) ≡ Err e
made_refused values i fs v e made l is h =
    made.left ∙ ap (before fs) (turn values i v l is ∙ ap (λ r. with_file r (files_of (items_view (drop (i + 1) values)))) h)

pub made_all : (values : List Value) (i : ℕ) (fs : List File) → AreMade values i fs → length values ≤ i → files_of (items_view values) ≡ Ok fs
made_all values i fs made l =
    made.left ∙ ap (before fs) (at_drop_all (λ vs. files_of (items_view vs)) values i l) ∙ ap Ok (append-nil fs)
