use Rattle.std.proofs.Common.{refl}
use Rattle.ext_words.proofs.CommandNames.{other-text}
use Rattle.ext_words.proofs.remarks.form_of.Goals as goal

pub returns-in_default : goal.returns-in_default
returns-in_default c = rw (other-text _ _ c.in_default.not-sphere, other-text _ _ c.in_default.not-resolve, other-text _ _ c.in_default.not-dump, other-text _ _ c.in_default.not-products, other-text _ _ c.in_default.not-massey, other-text _ _ c.in_default.not-product, other-text _ _ c.in_default.not-bracket, other-text _ _ c.in_default.not-check, other-text _ _ c.in_default.not-build, other-text _ _ c.in_default.not-sample, other-text _ _ c.in_default.not-sq, other-text _ _ c.in_default.not-migrate, other-text _ _ c.in_default.not-verify, other-text _ _ c.in_default.not-table) refl
