-- The text of a value of texts, integers, arrays and objects, with a newline at its end, is read as that value, with its members by key.
use Rattle.std.proofs.Common.{◌≡◌, ◌≤◌, List, [], ◌∷◌, ◌++◌, option_and_then, sym, ap, ◌∙◌, append-nil}
use Rattle.std.specs.Prelude.{⊤}
use Rattle.json.specs.Token.{Token}
use Rattle.json.specs.Lex.{tokens}
use Rattle.json.specs.Json as json
use Rattle.json.specs.Print.{IsNumber}
use Rattle.json.specs.Tree.{json_tokens, items_tokens, members_tokens, depth}
use Rattle.json.proofs.Printed.Trees.{value-json_tokens}
use Rattle.serde_json.specs.Data.{Data, null, boolean, number, string, array, object, Items, no_items, item, Members, no_members, member}
use Rattle.serde_json.specs.Read.{of_json, read, max_depth}
use Rattle.serde_json.specs.Written.{number_text, outline, items_outline, members_outline, compact_text}
use Rattle.serde_json.proofs.Texts.{print-outline}
use Rattle.file_text_laws.proofs.Newline.{AreUsed, tokens_with_newline}

-- texts, integers, arrays and objects
abbrev mutual
  pub IsWritten : Data → Type 0
  IsWritten null = ⊥
  IsWritten (boolean b) = ⊥
  IsWritten (number n) = IsNumber (number_text n)
  IsWritten (string s) = ⊤
  IsWritten (array ds) = AreWritten ds
  IsWritten (object ms) = HasWritten ms

  pub AreWritten : Items → Type 0
  AreWritten no_items = ⊤
  AreWritten (item d ds) = IsWritten d × AreWritten ds

  pub HasWritten : Members → Type 0
  HasWritten no_members = ⊤
  HasWritten (member k d ms) = IsWritten d × HasWritten ms

AreUsed-append : (ts us : List Token) → AreUsed ts → AreUsed us → AreUsed (ts ++ us)
AreUsed-append [] us h k = k
AreUsed-append (t ∷ ts) us h k = (h.0, AreUsed-append ts us h.1 k)

mutual
  used : (d : Data) → IsWritten d → AreUsed (json_tokens (outline d))
  used null h = absurd h
  used (boolean b) h = absurd h
  used (number n) h = (h, tt)
  used (string s) h = (tt, tt)
  used (array ds) h = (tt, used_items ds h)
  used (object ms) h = (tt, used_members ms h)

  used_items : (ds : Items) → AreWritten ds → AreUsed (items_tokens (items_outline ds))
  used_items no_items h = (tt, tt)
  used_items (item d ds) h = AreUsed-append (json_tokens (outline d)) (items_tokens (items_outline ds)) (used d h.0) (used_items ds h.1)

  used_members : (ms : Members) → HasWritten ms → AreUsed (members_tokens (members_outline ms))
  used_members no_members h = (tt, tt)
  used_members (member k d ms) h = (tt, AreUsed-append (json_tokens (outline d)) (members_tokens (members_outline ms)) (used d h.0) (used_members ms h.1))

pub read_text : (d : Data) → IsWritten d → depth (outline d) ≤ max_depth → read (compact_text d ++ 10 ∷ []) ≡ of_json (outline d)
read_text d h shallow =
    let ts : List Token = json_tokens (outline d) in
    ap (λ text. option_and_then of_json (option_and_then (λ p. json.if_last p.0 p.1) (json.value max_depth (tokens (text ++ 10 ∷ []))))) (sym (print-outline d))
    ∙ ap (λ us. option_and_then of_json (option_and_then (λ p. json.if_last p.0 p.1) (json.value max_depth us))) (tokens_with_newline ts (used d h) ∙ sym (append-nil ts))
    ∙ ap (λ o. option_and_then of_json (option_and_then (λ p. json.if_last p.0 p.1) o)) (value-json_tokens (outline d) max_depth [] shallow)
