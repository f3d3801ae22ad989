use Rattle.std.proofs.Common.{◌≡◌, ◌∙◌, List, ℕ, false, ap, sym, refl}
use Rattle.std.specs.Prelude.{codes, is_some}
use Rattle.ext_words.specs.Remark.{is_right}
use Rattle.ext_words.proofs.CommandNames.{other-text}
use Rattle.ext_words.proofs.remarks.is_right.Goals as goal

pub returns-in_default-matches : goal.returns-in_default-matches
returns-in_default-matches c =
    let none : false ≡ is_right (codes "OP") c.args.text.now =
    rw (other-text _ _ c.in_default-matches.not-sum, other-text _ _ c.in_default-matches.not-tensor, other-text _ _ c.in_default-matches.not-dual, other-text _ _ c.in_default-matches.not-shift) refl in
    none ∙ sym (ap (λ (name : List ℕ). is_right name c.args.text.now) c.in-OP.is)

pub returns-in_ok-class_of-in_default : goal.returns-in_ok-class_of-in_default
returns-in_ok-class_of-in_default c =
    rw (other-text _ _ c.in_default.not-N, other-text _ _ c.in_default.not-S, other-text _ _ c.in_default.not-T, other-text _ _ c.in_default.not-W, other-text _ _ c.in_default.not-OP, other-text _ _ c.in_default.not-workers, other-text _ _ c.in_default.not-degrees)
    (c.is_some-in_default.ensures ∙ ap (λ o. is_some o) c.in_ok-class_of-in_default.ensures.class)
