use Rattle.std.proofs.Common.{◌≡◌, ◌∙◌, ℕ, Some, List, [], ◌∷◌, get_or, ap, sym}
use Rattle.std.specs.Prelude.{string_bytes, slice_get, codes}
use Rattle.std.proofs.lemmas.Slice.Eq.{bytes_eq-Decides}
use Rattle.ext_program.proofs.Texts.{texts-first}
use Rattle.ext_program.proofs.only_reads.Goals as goal

pub returns-in-Some : goal.returns-in-Some
returns-in-Some c =
    let word : slice_get c.args.arguments.now 0 ≡ Some c.in-Some.word.now = sym c.in-Some.ensures.value in
    let text = texts-first string_bytes c.args.arguments.now c.in-Some.word.now word ∙ ap (λ (t : List ℕ). t ∷ []) (sym c.as_str.ensures.value) in
    let decides = bytes_eq-Decides c.as_str.result.now (codes "verify") in
    (λ same. text ∙ ap (λ (t : List ℕ). t ∷ []) (decides.0 (sym c.eq.ensures ∙ same)), λ e. c.eq.ensures ∙ decides.1 (ap (λ (l : List (List ℕ)). get_or l 0 []) (sym text ∙ e)))
