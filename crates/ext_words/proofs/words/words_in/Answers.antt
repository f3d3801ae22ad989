use Rattle.std.proofs.Common.{◌≡◌, ◌∙◌, [], List, Option, Some, None, refl, ap}
use Rattle.std.specs.Prelude.{option_map, unwrap_or}
use Rattle.std.specs.Borrow.{Bor}
use Rattle.clap.specs.Walk.{Text}
use Rattle.clap.specs.Words.{found_of}
use Rattle.ext_words.specs.Words.{texts_of}
use Rattle.ext_words.proofs.ClapUses.{matched-values}
use Rattle.ext_words.proofs.words.words_in.Goals as goal

unwrapped : (found : Option (Bor (List (Bor Text)))) (none : Bor (List (Bor Text))) → none.now ≡ [] → texts_of (unwrap_or found none).now ≡ unwrap_or (option_map (λ words. texts_of words.now) found) []
unwrapped None none is = ap texts_of is
unwrapped (Some words) none is = refl

pub returns : goal.returns
returns c =
    ap (λ (words : Bor (List (Bor Text))). texts_of words.now) c.unwrap_or.ensures
    ∙ (unwrapped c.get_strs.result _ refl ∙ ap (λ (o : Option (List Text)). unwrap_or o []) (c.get_strs.ensures ∙ matched-values (found_of c.args.matches.now) c.args.id.now))
