-- What `clap` makes of the words behind a command's name: it uses the parts that the grammar finds in them, one after another.
use Rattle.std.proofs.Common.{◌≡◌, ℕ, refl, inl, inr, ◌⊎◌, List, [], ◌∷◌, Bool, true, false, Option, Some, None, ap, ap₂, sym, subst, ◌∙◌}
use Rattle.std.specs.Prelude.{◌&&◌, option_and_then, option_to_list, is_some, MatchOption, if◌then◌else◌}
use Rattle.std.specs.List.{fold}
use Rattle.std.specs.Option.{option_map_or}
use Rattle.std.specs.Str.{bytes_eq}
use Rattle.std.proofs.lemmas.Bool.{or_parts, and_right, true≢false}
use Rattle.std.proofs.lemmas.Slice.Eq.{bytes_eq-Decides}
use Rattle.clap.specs.Walk.{Row, Rule, Text, Held, Waiting, idle, option as waits_for, Step, next, value, Walk, arg_by_id, arg_by_index, walked, to_positional, reacted, settled, finished, used_by_id, is_pending, next_position, long_or_other, option_word, after_step, subcommand_met, word_met}
use Rattle.clap.specs.Lexer.{long_of}
use Rattle.clap.specs.Simple.{Shape}
use Rattle.clap.specs.Kinds.{Kinds, or_else}
use Rattle.clap.specs.Faults.{flag_word_fault, positional_fault, step_fault, turn_fault, use_fault, walk_fault, word_fault, settle_fault, defaults_fault, check_fault}
use Rattle.clap.specs.declared.error.kind.ErrorKind.TheVariants.{UnknownArgument, MissingRequiredArgument, InvalidValue}
use Rattle.ext_words.specs.Words.{Part, plain, option, is_in, with_next, with_word, parts_of, fits, plain_words}
use Rattle.ext_words.specs.Inside.CommandLine.{is_stray, has_stray}
use Rattle.ext_words.proofs.ClapWords.{Fails, fails-first, fails-as, Arguments, IsOption, Passes, Uses, Meets, meets_plain, meets_none, meets_alone, meets_used, meets, no-dashes, Kind, flag, single, several, takes_value, option_rule}
use Rattle.ext_words.proofs.ClapParts.{leaf, word_rule, Stand, IsCommand, no-defaults, use_row, added, is_spent, IsUse, word-use, option-use, uses, once, appended, after_parts}

-- ---- the errors and the end of a level, from where its walk stands

-- the errors of a level after its words
abbrev pub end_fault : Shape → Held → Kinds
end_fault s h = or_else (settle_fault s.rules s.args_override_self h) (or_else (defaults_fault (settled s.rules h).rows s.rules) (check_fault s (finished s.rules h) false))

abbrev pub rest_fault : Shape → Walk → List Text → Kinds
rest_fault s w words = or_else (walk_fault s [] w words) (end_fault s (fold (walked s.rules []) w words).held)

-- `clap` refuses the words, where there are no rows, or its matches are these rows
abbrev pub Ends : Shape → Walk → List Text → Option (List Row) → Type 0
Ends s w words rows = MatchOption rows (Fails (rest_fault s w words)) (λ r. (rest_fault s w words ≡ []) × (finished s.rules (fold (walked s.rules []) w words).held ≡ r))

ends-none : (s : Shape) (w : Walk) (words : List Text) (rows : Option (List Row)) → rows ≡ None → Fails (rest_fault s w words) → Ends s w words rows
ends-none s w words rows none fails = subst (Ends s w words) (sym none) fails

-- a word that is refused
turn-fails : (s : Shape) (w : Walk) (word : Text) (words : List Text) → Fails (turn_fault s [] w word) → Fails (rest_fault s w (word ∷ words))
unfolding walk_fault
turn-fails s w word words fails = fails-first _ _ (fails-first _ _ fails)

-- a word behind which the walk goes on
turn-passes : (s : Shape) (w after : Walk) (word : Text) (words : List Text) (rows : Option (List Row)) → turn_fault s [] w word ≡ [] → walked s.rules [] w word ≡ after → Ends s after words rows → Ends s w (word ∷ words) rows
unfolding walk_fault
turn-passes s w after word words rows passes goes ends = go rows ends
  where
    fault : rest_fault s w (word ∷ words) ≡ rest_fault s after words
    fault = ap₂ (λ (turn : Kinds) (v : Walk). or_else (or_else turn (walk_fault s [] v words)) (end_fault s (fold (walked s.rules []) v words).held)) passes goes

    go : (o : Option (List Row)) → Ends s after words o → Ends s w (word ∷ words) o
    go None fails = fails-as _ _ fault fails
    go (Some r) ends = (fault ∙ ends.0, ap (λ (v : Walk). finished s.rules (fold (walked s.rules []) v words).held) goes ∙ ends.1)

-- where a walk stands between two words
abbrev pub stand : Waiting → Held → ℕ → Walk
stand waiting h position = record { held = h; waiting = waiting; position = position; is_trailing = false; stopped = None }

-- an argument with these values is to be used
abbrev pub holding : Text → List Text → Held → Held
holding id values h = record h { pending = Some (id, values) }

-- ---- what the parts give

alike : {X Y : Type 0} (f g : X → Option Y) → ((x : X) → f x ≡ g x) → (o : Option X) → option_and_then f o ≡ option_and_then g o
alike f g same None = refl
alike f g same (Some x) = same x

nothing : {X Y : Type 0} (f : X → Option Y) → ((x : X) → f x ≡ None) → (o : Option X) → option_and_then f o ≡ None
nothing f none None = refl
nothing f none (Some x) = none x

one-use : (has fit : Bool) (before : List Row) (rows : List Row → Option (List Row)) →
    option_and_then (λ (r : List Row). if fit then rows r else None) (if has then None else Some before) ≡ (if fit then (if has then None else rows before) else None)
one-use true true before rows = refl
one-use true false before rows = refl
one-use false fit before rows = refl

-- the parts, with what a word makes of them
module _ (make : Option (List Part) → Option (List Part)) (none : make None ≡ None) where
  no-rows : (rows : List Part → Option (List Row)) → ((parts : List Part) → option_and_then rows (make (Some parts)) ≡ None) → (taken : Option (List Part)) → option_and_then rows (make taken) ≡ None
  no-rows rows gone None = ap (option_and_then rows) none
  no-rows rows gone (Some parts) = gone parts

  -- one more part, which is used first
  part-used : (repeated : List Text) (u : Row) (part : Part) (ids others : List Text) (r : List Row) → ((parts : List Part) → make (Some parts) ≡ Some (part ∷ parts)) →
      ((parts : List Part) → after_parts repeated ids r (part ∷ parts) ≡ (if fits (plain_words parts) others then appended repeated r (u ∷ uses parts others) else None)) → (taken : Option (List Part)) →
      option_and_then (λ more. option_and_then (after_parts repeated others more) taken) (once repeated u r) ≡ option_and_then (after_parts repeated ids r) (make taken)
  part-used repeated u part ids others r given same None = nothing (λ more. option_and_then (after_parts repeated others more) None) (λ more. refl) (once repeated u r) ∙ sym (ap (option_and_then (after_parts repeated ids r)) none)
  part-used repeated u part ids others r given same (Some parts) =
      one-use (is_spent repeated u r) (fits (plain_words parts) others) (added u r) (λ more. appended repeated more (uses parts others))
      ∙ sym (ap (option_and_then (after_parts repeated ids r)) (given parts) ∙ same parts)

next-of-next : (n other : Text) (parts : List Part) → option_and_then (with_next n) (with_next other parts) ≡ None
next-of-next n other [] = refl
next-of-next n other (plain word ∷ parts) = refl
next-of-next n other (option third text ∷ parts) = refl

-- `clap` uses the parts that the grammar finds, where the words with these names are still to come
pub record Follows (name : Text) (c : Arguments) (words : List Text) : Type 0 where
  pub goes : (h : Held) (ids : List Text) (position : ℕ) → Stand c position ids → settle_fault c.rules false h ≡ [] →
      Ends (leaf name c.rules) (stand idle h position) words (option_and_then (after_parts c.options.repeated ids (settled c.rules h).rows) (parts_of c.options words))
  pub waits_on : (n : Text) (kind : Kind) → takes_value kind ≡ true → IsOption c kind n → (h : Held) (ids : List Text) (position : ℕ) → Stand c position ids →
      Ends (leaf name c.rules) (stand (waits_for n) (holding n [] h) position) words (option_and_then (after_parts c.options.repeated ids h.rows) (option_and_then (with_next n) (parts_of c.options words)))

-- ---- a command with these arguments

module _ (name : Text) (c : Arguments) (command : IsCommand c) where
  abbrev level : Shape
  level = leaf name c.rules

  -- the errors of a word as a flag
  abbrev flagged : Text → Held → Kinds
  flagged word h = flag_word_fault c.rules false (long_of word) word h

  -- ---- the turn of a word

  turn : (waiting : Waiting) (h : Held) (position : ℕ) (word : Text) → subcommand_met [] waiting word ≡ None → is_stray word ≡ false → (m : Held × Step) → long_or_other c.rules waiting word (long_of word) h ≡ m →
      (turn_fault level [] (stand waiting h position) word ≡ or_else (flagged word h) (step_fault level position m.0 m.1))
      × (walked c.rules [] (stand waiting h position) word ≡ after_step c.rules word (stand waiting h position) m.0 m.1)
  unfolding walked
  turn waiting h position word unnamed kept m is =
      let dashes = no-dashes word kept in
      let met : word_met c.rules [] false waiting position word h ≡ m = rw (unnamed, dashes) is in
      let fault : word_fault level [] false waiting word h ≡ flagged word h = rw (unnamed, dashes) refl in
      (ap₂ (λ (k : Kinds) (n : Held × Step). or_else k (step_fault level position n.0 n.1)) fault met, ap (λ (n : Held × Step). after_step c.rules word (stand waiting h position) n.0 n.1) met)

  flag-fails : (waiting : Waiting) (h : Held) (position : ℕ) (word : Text) (words : List Text) → subcommand_met [] waiting word ≡ None → is_stray word ≡ false → Fails (flagged word h) → Fails (rest_fault level (stand waiting h position) (word ∷ words))
  flag-fails waiting h position word words unnamed kept fails = turn-fails level _ word words (fails-as _ _ (turn waiting h position word unnamed kept _ refl).0 (fails-first _ _ fails))

  -- a word that is no value, behind which the walk goes on
  steps : (waiting : Waiting) (h : Held) (position : ℕ) (word : Text) (words : List Text) → subcommand_met [] waiting word ≡ None → is_stray word ≡ false → (after : Held) (waits : Waiting) → long_or_other c.rules waiting word (long_of word) h ≡ (after, next waits) → flagged word h ≡ [] →
      (rows : Option (List Row)) → Ends level (stand waits after position) words rows → Ends level (stand waiting h position) (word ∷ words) rows
  steps waiting h position word words unnamed kept after waits met fault rows ends =
      let t = turn waiting h position word unnamed kept (after, next waits) met in
      turn-passes level _ (stand waits after position) word words rows (t.0 ∙ ap (λ (k : Kinds). or_else k []) fault) t.1 ends

  -- a word that is no flag, by what stands at its position
  plain-turn : (h : Held) (position : ℕ) (word : Text) → is_stray word ≡ false → Passes c.rules word → (found : Option Rule) → arg_by_index c.rules position ≡ found →
      (turn_fault level [] (stand idle h position) word ≡ option_map_or (λ a. positional_fault c.rules false a h) found (UnknownArgument ∷ []))
      × (walked c.rules [] (stand idle h position) word ≡ to_positional c.rules found word (stand idle h position) h)
  plain-turn h position word kept passes found is =
      let t = turn idle h position word refl kept (h, value) (passes.met idle h) in (
        t.0 ∙ ap₂ (λ (k : Kinds) (o : Option Rule). or_else k (option_map_or (λ a. positional_fault c.rules false a h) o (UnknownArgument ∷ []))) (passes.fault h) is,
        t.1 ∙ ap (λ (o : Option Rule). to_positional c.rules o word (stand idle h position) h) is,
      )

  no-word-fails : (h : Held) (position : ℕ) (word : Text) (words : List Text) → is_stray word ≡ false → Passes c.rules word → arg_by_index c.rules position ≡ None → Fails (rest_fault level (stand idle h position) (word ∷ words))
  no-word-fails h position word words kept passes none = turn-fails level _ word words (record { first = UnknownArgument; others = []; is = (plain-turn h position word kept passes None none).0 })

  word-turn : (h : Held) (position : ℕ) (id word : Text) → is_stray word ≡ false → Passes c.rules word → arg_by_index c.rules position ≡ Some (word_rule position id) →
      (turn_fault level [] (stand idle h position) word ≡ settle_fault c.rules false h)
      × (walked c.rules [] (stand idle h position) word ≡ stand idle (holding id (word ∷ []) (settled c.rules h)) (next_position (word_rule position id) position))
  word-turn h position id word kept passes found =
      let t = plain-turn h position word kept passes _ found in
      let single : (is_pending (word_rule position id) h.pending && false) ≡ false = and_right _ false refl in
      (t.0 ∙ ap (λ (b : Bool). if b then [] else settle_fault c.rules false h) single, t.1 ∙ rw single refl)

  -- ---- a use that waits, and fails, fails with the next word

  -- a word that is a flag fails then, and no option takes it as its value
  record Dooms (word : Text) : Type 0 where
    fails : (h : Held) → Fails (settle_fault c.rules false h) → Fails (flagged word h)
    no_value : (n : Text) (parts : List Part) → option_and_then (with_next n) (with_word c.options word parts) ≡ None

  sorted : (word : Text) → Meets c word → (Passes c.rules word × ((parts : List Part) → with_word c.options word parts ≡ Some (plain word ∷ parts))) ⊎ Dooms word
  sorted word (meets_plain passes given) = inl (passes, given)
  sorted word (meets_none refuses given) = inr (record { fails = λ h _. refuses h; no_value = λ n parts. ap (option_and_then (with_next n)) (given parts) })
  sorted word (meets_alone other kind takes is starts given) =
      inr (record { fails = λ h fails. fails-as _ _ (starts.fault h) fails; no_value = λ n parts. ap (option_and_then (with_next n)) (given parts) ∙ next-of-next n other parts })
  sorted word (meets_used other text kind takes is used given) =
      inr (record { fails = λ h fails. fails-as _ _ (used.fault h) (fails-first _ _ fails); no_value = λ n parts. ap (option_and_then (with_next n)) (given parts) })

  plain-doomed : (h : Held) (ids : List Text) (position : ℕ) (word : Text) (words : List Text) → is_stray word ≡ false → Passes c.rules word → Stand c position ids → Fails (settle_fault c.rules false h) → Fails (rest_fault level (stand idle h position) (word ∷ words))
  plain-doomed h [] position word words kept passes none fails = no-word-fails h position word words kept passes none
  plain-doomed h (id ∷ ids) position word words kept passes stands fails = turn-fails level _ word words (fails-as _ _ (word-turn h position id word kept passes stands.0).0 fails)

  doomed : (h : Held) (ids : List Text) (position : ℕ) (words : List Text) → has_stray words ≡ false → Stand c position ids → Fails (settle_fault c.rules false h) → Fails (rest_fault level (stand idle h position) words)
  unfolding walk_fault
  doomed h ids position [] all_kept stands fails = fails-first _ _ fails
  doomed h ids position (word ∷ words) all_kept stands fails =
      let kept = (or_parts (is_stray word) (has_stray words) all_kept).0 in
      elim (sorted word (meets c command.named word kept)) [
        | inl taken ↦ plain-doomed h ids position word words kept taken.0 stands fails
        | inr dooms ↦ flag-fails idle h position word words refl kept (dooms.fails h fails)
      ]

  -- an option without its value
  unsettled : (n : Text) (kind : Kind) → takes_value kind ≡ true → IsOption c kind n → (h : Held) → Fails (settle_fault c.rules false (holding n [] h))
  unsettled n flag takes is h = absurd (true≢false (sym takes))
  unsettled n single takes is h = record { first = InvalidValue; others = []; is = ap (λ (found : Option Rule). option_map_or (λ b. use_fault false b [] h.rows) found []) is.by_id }
  unsettled n several takes is h = record { first = InvalidValue; others = []; is = ap (λ (found : Option Rule). option_map_or (λ b. use_fault false b [] h.rows) found []) is.by_id }

  -- how an option may be used
  may-use : (n : Text) (text : Option Text) (kind : Kind) → takes_value kind ≡ is_some text → IsOption c kind n → IsUse (is_in c.options.repeated n) n (option_rule kind n) (option_to_list text)
  may-use n text kind takes is = subst (λ (b : Bool). IsUse b n (option_rule kind n) (option_to_list text)) (sym is.again) (option-use n text kind takes)

  -- a word that is the value of an option
  valued : (n word : Text) (h : Held) (kind : Kind) → takes_value kind ≡ true → ◌≡◌ {A = Held × Step} ((option_word (Some (option_rule kind n)) n word (holding n [] h)).0, next (option_word (Some (option_rule kind n)) n word (holding n [] h)).1) (holding n (word ∷ []) h, next idle)
  valued n word h flag takes = absurd (true≢false (sym takes))
  valued n word h single takes = let same : bytes_eq n n ≡ true = (bytes_eq-Decides n n).1 refl in rw same refl
  valued n word h several takes = let same : bytes_eq n n ≡ true = (bytes_eq-Decides n n).1 refl in rw same refl

  -- an argument that has its values is used with the next word
  after-use : (id : Text) (a : Rule) (values : List Text) → IsUse (is_in c.options.repeated id) id a values → arg_by_id c.rules id ≡ Some a → (h : Held) (ids : List Text) (position : ℕ) (words : List Text) → has_stray words ≡ false → Stand c position ids → Follows name c words →
      (has : Bool) → is_spent c.options.repeated (use_row id values) h.rows ≡ has → Ends level (stand idle (holding id values h) position) words (option_and_then (λ more. option_and_then (after_parts c.options.repeated ids more) (parts_of c.options words)) (if has then None else Some (added (use_row id values) h.rows)))
  after-use id a values may own h ids position words all_kept stands rest true has =
      doomed (holding id values h) ids position words all_kept stands (fails-as _ _ (ap (λ (found : Option Rule). option_map_or (λ b. use_fault false b values h.rows) found []) own) (may.taken h.rows has))
  after-use id a values may own h ids position words all_kept stands rest false has =
      let settles : settle_fault c.rules false (holding id values h) ≡ [] = ap (λ (found : Option Rule). option_map_or (λ b. use_fault false b values h.rows) found []) own ∙ may.free h.rows has in
      let rows_are : (settled c.rules (holding id values h)).rows ≡ added (use_row id values) h.rows = ap (λ (found : Option Rule). used_by_id found values h.rows) own ∙ may.new h.rows has in
      subst (λ (r : List Row). Ends level (stand idle (holding id values h) position) words (option_and_then (after_parts c.options.repeated ids r) (parts_of c.options words))) rows_are (rest.goes (holding id values h) ids position stands settles)

  -- ---- the words, one after another

  none-left : Follows name c []
  unfolding walk_fault
  none-left = record {
    goes = λ h ids position stands settles.
        let defaults = no-defaults c.rules (settled c.rules h).rows command.no_defaults in
        let ended : or_else (defaults_fault (settled c.rules h).rows c.rules) (check_fault level (finished c.rules h) false) ≡ [] =
        ap₂ (λ (k : Kinds) (b : Bool). or_else k (if b then MissingRequiredArgument ∷ [] else [])) defaults.0 (command.none_lacking (finished c.rules h)) in
        (ap (λ (k : Kinds). or_else k (or_else (defaults_fault (settled c.rules h).rows c.rules) (check_fault level (finished c.rules h) false))) settles ∙ ended, defaults.1);
    waits_on = λ n kind takes is h ids position stands. fails-first _ _ (unsettled n kind takes is h);
  }

  module _ (word : Text) (words : List Text) (kept : is_stray word ≡ false) (all_kept : has_stray words ≡ false) (rest : Follows name c words) where
    -- the parts behind the word, and those with it
    abbrev taken : Option (List Part)
    taken = parts_of c.options words

    abbrev made : Option (List Part) → Option (List Part)
    made = option_and_then (with_word c.options word)

    go-plain : Passes c.rules word → ((parts : List Part) → with_word c.options word parts ≡ Some (plain word ∷ parts)) → (h : Held) (ids : List Text) (position : ℕ) → Stand c position ids → settle_fault c.rules false h ≡ [] →
        Ends level (stand idle h position) (word ∷ words) (option_and_then (after_parts c.options.repeated ids (settled c.rules h).rows) (made taken))
    go-plain passes given h [] position none settles =
        ends-none level (stand idle h position) (word ∷ words) _ (no-rows made refl (after_parts c.options.repeated [] (settled c.rules h).rows) (λ parts. ap (option_and_then (after_parts c.options.repeated [] (settled c.rules h).rows)) (given parts)) taken) (no-word-fails h position word words kept passes none)
    go-plain passes given h (id ∷ ids) position stands settles =
        let t = word-turn h position id word kept passes stands.0 in
        let s = settled c.rules h in
        let next_place = next_position (word_rule position id) position in
        turn-passes level (stand idle h position) (stand idle (holding id (word ∷ []) s) next_place) word words _ (t.0 ∙ settles) t.1
        (subst (Ends level (stand idle (holding id (word ∷ []) s) next_place) words) (part-used made refl c.options.repeated (use_row id (word ∷ [])) (plain word) (id ∷ ids) ids s.rows given (λ parts. refl) taken)
        (after-use id (word_rule position id) (word ∷ []) (subst (λ (b : Bool). IsUse b id (word_rule position id) (word ∷ [])) (sym stands.2) (word-use position id word)) stands.1 s ids next_place words all_kept stands.3 rest (is_spent c.options.repeated (use_row id (word ∷ [])) s.rows) refl))

    go-used : (n : Text) (text : Option Text) (kind : Kind) → takes_value kind ≡ is_some text → IsOption c kind n → Uses c.rules (option_rule kind n) (option_to_list text) word → (h : Held) (ids : List Text) (position : ℕ) → Stand c position ids → settle_fault c.rules false h ≡ [] →
        (has : Bool) → is_spent c.options.repeated (use_row n (option_to_list text)) (settled c.rules h).rows ≡ has → Ends level (stand idle h position) (word ∷ words) (option_and_then (λ more. option_and_then (after_parts c.options.repeated ids more) taken) (if has then None else Some (added (use_row n (option_to_list text)) (settled c.rules h).rows)))
    go-used n text kind takes is used_is h ids position stands settles true has =
        let may = may-use n text kind takes is in
        let fault = used_is.fault h ∙ ap (λ (k : Kinds). or_else k (use_fault false (option_rule kind n) (option_to_list text) (settled c.rules h).rows)) settles in
        flag-fails idle h position word words refl kept (fails-as _ _ fault (may.taken (settled c.rules h).rows has))
    go-used n text kind takes is used_is h ids position stands settles false has =
        let may = may-use n text kind takes is in
        let fault = used_is.fault h ∙ (ap (λ (k : Kinds). or_else k (use_fault false (option_rule kind n) (option_to_list text) (settled c.rules h).rows)) settles ∙ may.free (settled c.rules h).rows has) in
        let after = reacted c.rules (option_rule kind n) (option_to_list text) h in
        steps idle h position word words refl kept after idle (used_is.met h) fault _
        (subst (λ (r : List Row). Ends level (stand idle after position) words (option_and_then (after_parts c.options.repeated ids r) taken)) (may.new (settled c.rules h).rows has) (rest.goes after ids position stands refl))

    wait-plain : Passes c.rules word → ((parts : List Part) → with_word c.options word parts ≡ Some (plain word ∷ parts)) → (n : Text) (kind : Kind) → takes_value kind ≡ true → IsOption c kind n → (h : Held) (ids : List Text) (position : ℕ) → Stand c position ids →
        Ends level (stand (waits_for n) (holding n [] h) position) (word ∷ words) (option_and_then (after_parts c.options.repeated ids h.rows) (option_and_then (with_next n) (made taken)))
    wait-plain passes given n kind takes is h ids position stands =
        let before = holding n [] h in
        let whole = valued n word h kind takes in
        let met : long_or_other c.rules (waits_for n) word (long_of word) before ≡ (holding n (word ∷ []) h, next idle) =
        passes.met (waits_for n) before ∙ (ap (λ (found : Option Rule). ((option_word found n word before).0, next (option_word found n word before).1)) is.by_id ∙ whole) in
        steps (waits_for n) before position word words refl kept (holding n (word ∷ []) h) idle met (passes.fault before) _
        (subst (Ends level (stand idle (holding n (word ∷ []) h) position) words) (part-used (λ t. option_and_then (with_next n) (made t)) refl c.options.repeated (use_row n (word ∷ [])) (option n (Some word)) ids ids h.rows (λ parts. ap (option_and_then (with_next n)) (given parts)) (λ parts. refl) taken)
        (after-use n (option_rule kind n) (word ∷ []) (may-use n (Some word) kind takes is) is.by_id h ids position words all_kept stands rest (is_spent c.options.repeated (use_row n (word ∷ [])) h.rows) refl))

    go : Meets c word → (h : Held) (ids : List Text) (position : ℕ) → Stand c position ids → settle_fault c.rules false h ≡ [] →
        Ends level (stand idle h position) (word ∷ words) (option_and_then (after_parts c.options.repeated ids (settled c.rules h).rows) (made taken))
    go (meets_plain passes given) h ids position stands settles = go-plain passes given h ids position stands settles
    go (meets_none refuses given) h ids position stands settles =
        let rows = after_parts c.options.repeated ids (settled c.rules h).rows in
        ends-none level (stand idle h position) (word ∷ words) _ (no-rows made refl rows (λ parts. ap (option_and_then rows) (given parts)) taken) (flag-fails idle h position word words refl kept (refuses h))
    go (meets_alone n kind takes is starts given) h ids position stands settles =
        subst (λ (o : Option (List Part)). Ends level (stand idle h position) (word ∷ words) (option_and_then (after_parts c.options.repeated ids (settled c.rules h).rows) o)) (alike (with_next n) (with_word c.options word) (λ parts. sym (given parts)) taken)
        (steps idle h position word words refl kept (holding n [] (settled c.rules h)) (waits_for n) (starts.met h) (starts.fault h ∙ settles) _ (rest.waits_on n kind takes is (settled c.rules h) ids position stands))
    go (meets_used n text kind takes is used_is given) h ids position stands settles =
        let r = (settled c.rules h).rows in
        subst (Ends level (stand idle h position) (word ∷ words)) (part-used made refl c.options.repeated (use_row n (option_to_list text)) (option n text) ids ids r given (λ parts. refl) taken)
        (go-used n text kind takes is used_is h ids position stands settles (is_spent c.options.repeated (use_row n (option_to_list text)) r) refl)

    one-more : Follows name c (word ∷ words)
    one-more = record {
      goes = go (meets c command.named word kept);
      waits_on = λ n kind takes is h ids position stands. elim (sorted word (meets c command.named word kept)) [
        | inl free ↦ wait-plain free.0 free.1 n kind takes is h ids position stands
        | inr dooms ↦ ends-none level (stand (waits_for n) (holding n [] h) position) (word ∷ words) _
            (no-rows (λ t. option_and_then (with_next n) (made t)) refl (after_parts c.options.repeated ids h.rows) (λ parts. ap (option_and_then (after_parts c.options.repeated ids h.rows)) (dooms.no_value n parts)) taken)
            (flag-fails (waits_for n) (holding n [] h) position word words refl kept (dooms.fails (holding n [] h) (unsettled n kind takes is h)))
      ];
    }

  pub follows : (words : List Text) → has_stray words ≡ false → Follows name c words
  follows [] all_kept = none-left
  follows (word ∷ words) all_kept =
      let parts = or_parts (is_stray word) (has_stray words) all_kept in
      one-more word words parts.0 parts.1 (follows words parts.1)
