use Rattle.std.proofs.Common.{◌≡◌, ◌≤◌, ◌∙◌, ℕ, List, [], ◌∷◌, length, get_or, refl, arith}
use Rattle.std.specs.Borrow.{Bor}
use Rattle.std.proofs.lemmas.Result.{IfOk-weaker}
use Rattle.ext_words.specs.Words.{texts_of, given_of}
use Rattle.ext_words.specs.Remark.{wrong_under, wrong_of}
use Rattle.ext_words.proofs.remarks.wrong_of.Goals as goal

by-first : (words : List (Bor (List ℕ))) (d : Bor (List ℕ)) → 1 ≤ length words → wrong_under (get_or words 0 d).now (given_of (texts_of words)) ≡ wrong_of (texts_of words)
by-first [] d some = absurd (omega (arith, some))
by-first (word ∷ words) d some = refl

pub returns-in-len1-up : goal.returns-in-len1-up
returns-in-len1-up c = IfOk-weaker c.wrong_under.result _ _ (λ line is. is ∙ by-first c.args.words.now _ c.in-len1-up.len_at_least) c.wrong_under.ensures
