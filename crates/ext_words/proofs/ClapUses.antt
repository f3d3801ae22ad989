-- The rows of a command's matches: one for each name of its parts, where no option is used too often and there are not too many words.
-- And what the rows give to the command.
use Rattle.std.proofs.Common.{◌≡◌, refl, List, [], ◌∷◌, ◌++◌, Bool, true, false, Option, Some, None, ap, ap₂, sym, subst, ◌∙◌, append-nil, append_assoc}
use Rattle.std.proofs.Math.Path.{fun_ext}
use Rattle.std.specs.Prelude.{◌&&◌, ◌||◌, not, cond, find, is_some, slice_get, unwrap_or, option_map, option_and_then, option_to_list, IfSome, if◌then◌else◌}
use Rattle.std.specs.List.{fold, list_all}
use Rattle.std.specs.Str.{bytes_eq}
use Rattle.std.proofs.lemmas.Bool.{and_parts, or_parts, false_from_ne_true, true≢false}
use Rattle.std.proofs.lemmas.Bool.Decides.{same_from_decides, Decides-like}
use Rattle.std.proofs.lemmas.Slice.Eq.{bytes_eq-Decides}
use Rattle.clap.specs.Facts.{Entry}
use Rattle.clap.specs.Matches.{matched_of, raw_values}
use Rattle.clap.specs.Walk.{Row, Text, first_of, has_row, more_values, row_of, rows_of, stronger}
use Rattle.clap.specs.declared.parser.matches.ValueSource.TheVariants.{CommandLine}
use Rattle.clap.specs.declared.parser.matches.Found.{Found}
use Rattle.clap.proofs.SimpleLemmas.{is_false}
use Rattle.clap.proofs.WalkLemmas.{find_row}
use Rattle.ext_words.specs.Words.{Part, plain, option, is_in, with_next, with_word, parts_of, fits, plain_words, with_part, given_from, text_given, is_given, is_among, each_once}
use Rattle.ext_words.specs.Inside.CommandLine.{is_stray, has_stray, given_by}
use Rattle.ext_words.proofs.ClapWords.{Arguments, Meets, meets_plain, meets_none, meets_alone, meets_used, meets}
use Rattle.ext_words.proofs.ClapParts.{IsCommand, use_row, uses, added, spent, is_spent, appended, after_parts}

-- ---- the parts of words

-- no option among the parts has one of these names
abbrev pub AreApart : List Text → List Part → Type 0
AreApart ids [] = Unit {0}
AreApart ids (plain word ∷ parts) = AreApart ids parts
AreApart ids (option name value ∷ parts) = (is_in ids name ≡ false) × AreApart ids parts

apart-more : (c : Arguments) (word : Text) → Meets c word → (parts : List Part) → AreApart c.words parts → IfSome (with_word c.options word parts) (AreApart c.words)
apart-more c word met parts known = elim met [
  | meets_plain passes given ↦ subst (λ (o : Option (List Part)). IfSome o (AreApart c.words)) (sym (given parts)) known
  | meets_none refuses given ↦ subst (λ (o : Option (List Part)). IfSome o (AreApart c.words)) (sym (given parts)) tt
  | meets_alone name kind takes is starts given ↦ subst (λ (o : Option (List Part)). IfSome o (AreApart c.words)) (sym (given parts)) (next name is.no_word parts known)
  | meets_used name value kind takes is used given ↦ subst (λ (o : Option (List Part)). IfSome o (AreApart c.words)) (sym (given parts)) (is.no_word, known)
]
  where
    next : (name : Text) → is_in c.words name ≡ false → (more : List Part) → AreApart c.words more → IfSome (with_next name more) (AreApart c.words)
    next name none [] h = tt
    next name none (plain value ∷ more) h = (none, h)
    next name none (option other value ∷ more) h = tt

pub known-parts : (c : Arguments) → IsCommand c → (words : List Text) → has_stray words ≡ false → IfSome (parts_of c.options words) (AreApart c.words)
known-parts c command [] kept = tt
known-parts c command (word ∷ words) kept = behind (parts_of c.options words) (known-parts c command words (or_parts (is_stray word) (has_stray words) kept).1)
  where
    behind : (taken : Option (List Part)) → IfSome taken (AreApart c.words) → IfSome (option_and_then (with_word c.options word) taken) (AreApart c.words)
    behind None known = tt
    behind (Some parts) known = apart-more c word (meets c command.named word (or_parts (is_stray word) (has_stray words) kept).0) parts known

-- ---- uses, one after another

or-assoc : (a b d : Bool) → ((a || b) || d) ≡ (a || (b || d))
or-assoc true b d = refl
or-assoc false b d = refl

or-same : (a b d : Bool) → d ≡ a → (a || b) ≡ ((a || b) || (d || false))
or-same true b d same = refl
or-same false true d same = refl
or-same false false d same = sym same ∙ or-nothing d
  where
    or-nothing : (d : Bool) → d ≡ (d || false)
    or-nothing true = refl
    or-nothing false = refl

-- the names of the rows with one use more
has-added : (name : Text) (u : Row) (rows : List Row) → has_row name (added u rows) ≡ (has_row name rows || has_row name (u ∷ []))
has-added name u [] = refl
has-added name u (r ∷ rows) = by (has-added name u rows) (bytes_eq r.id u.id) refl
  where
    by : has_row name (added u rows) ≡ (has_row name rows || has_row name (u ∷ [])) → (here : Bool) → bytes_eq r.id u.id ≡ here → has_row name (if bytes_eq r.id u.id then more_values CommandLine u.values r ++ rows else r ∷ added u rows) ≡ ((bytes_eq r.id name || has_row name rows) || has_row name (u ∷ []))
    by more true e = rw e (or-same (bytes_eq r.id name) (has_row name rows) (bytes_eq u.id name) (ap (λ (t : Text). bytes_eq t name) (sym ((bytes_eq-Decides r.id u.id).0 e))))
    by more false e = rw e (ap (λ (b : Bool). bytes_eq r.id name || b) more ∙ sym (or-assoc (bytes_eq r.id name) (has_row name rows) (has_row name (u ∷ []))))

module _ (repeated : List Text) where
  -- none of the uses is one too many behind these rows
  abbrev may_follow : List Row → List Row → Bool
  may_follow rows others = list_all (λ u. not (is_spent repeated u rows)) others

  -- nor behind those before it
  abbrev may_follow_each : List Row → Bool
  may_follow_each [] = true
  may_follow_each (u ∷ others) = may_follow (u ∷ []) others && may_follow_each others

  five : (e a b c d : Bool) → (not (e && (a || b)) && (c && d)) ≡ ((not (e && a) && c) && (not (e && b) && d))
  five false a b c d = four c d
    where
      four : (c d : Bool) → (c && d) ≡ (c && d)
      four c d = refl
  five true true b c d = refl
  five true false true true d = refl
  five true false true false d = refl
  five true false false c d = refl

  follow-more : (rows : List Row) (u : Row) (others : List Row) → may_follow (added u rows) others ≡ (may_follow rows others && may_follow (u ∷ []) others)
  follow-more rows u [] = refl
  follow-more rows u (r ∷ others) =
      ap₂ (λ (has rest : Bool). not (not (is_in repeated r.id) && has) && rest) (has-added r.id u rows) (follow-more rows u others)
      ∙ five (not (is_in repeated r.id)) (has_row r.id rows) (has_row r.id (u ∷ [])) (may_follow rows others) (may_follow (u ∷ []) others)

  and-assoc : (a b d : Bool) → ((a && b) && d) ≡ (a && (b && d))
  and-assoc true b d = refl
  and-assoc false b d = refl

  appended-is : (others rows : List Row) → appended repeated rows others ≡ (if may_follow rows others && may_follow_each others then Some (fold (λ r u. added u r) rows others) else None)
  appended-is [] rows = refl
  appended-is (u ∷ others) rows = by (is_spent repeated u rows) (appended-is others (added u rows))
    where
      by : (over : Bool) → appended repeated (added u rows) others ≡ (if may_follow (added u rows) others && may_follow_each others then Some (fold (λ r u. added u r) (added u rows) others) else None) →
          (if over then None else appended repeated (added u rows) others) ≡ (if (not over && may_follow rows others) && (may_follow (u ∷ []) others && may_follow_each others) then Some (fold (λ r u. added u r) (added u rows) others) else None)
      by true rest = refl
      by false rest = rest
          ∙ ap (λ (b : Bool). if b then Some (fold (λ r u. added u r) (added u rows) others) else None)
          (ap (λ (b : Bool). b && may_follow_each others) (follow-more rows u others) ∙ and-assoc (may_follow rows others) (may_follow (u ∷ []) others) (may_follow_each others))

  none-spent : (again : Bool) → not (spent again false) ≡ true
  none-spent true = refl
  none-spent false = refl

  all-may-follow : (others : List Row) → may_follow [] others ≡ true
  all-may-follow [] = refl
  all-may-follow (u ∷ others) = ap₂ (λ (a b : Bool). a && b) (none-spent (is_in repeated u.id)) (all-may-follow others)

-- ---- the rows of parts

same-turned : (a b : Text) → bytes_eq a b ≡ bytes_eq b a
same-turned a b = same_from_decides _ _ (bytes_eq-Decides a b) (Decides-like (bytes_eq b a) (λ e. sym e) (λ e. sym e) (bytes_eq-Decides b a))

-- what may stand behind a use whose name is none of the words': an option of its name, if it may be given more than once
follow-among : (repeated : List Text) (parts : List Part) (ids : List Text) (name : Text) (values : List Text) → is_in ids name ≡ false → may_follow repeated (use_row name values ∷ []) (uses parts ids) ≡ not (not (is_in repeated name) && is_among name parts)
follow-among repeated [] ids name values none = nothing (is_in repeated name)
  where
    nothing : (again : Bool) → true ≡ not (not again && false)
    nothing true = refl
    nothing false = refl
follow-among repeated (plain word ∷ parts) [] name values none = follow-among repeated parts [] name values none
follow-among repeated (plain word ∷ parts) (id ∷ ids) name values none =
    let apart = or_parts (bytes_eq id name) (is_in ids name) none in
    ap₂ (λ (has rest : Bool). not (not (is_in repeated id) && (has || false)) && rest) (same-turned name id ∙ apart.0) (follow-among repeated parts ids name values apart.1)
    ∙ free (is_in repeated id) (not (not (is_in repeated name) && is_among name parts))
  where
    free : (again rest : Bool) → (not (not again && false) && rest) ≡ rest
    free true rest = refl
    free false rest = refl
follow-among repeated (option other value ∷ parts) ids name values none = by (follow-among repeated parts ids name values none) (bytes_eq other name) refl
  where
    both : (again among : Bool) → (not (not again && (true || false)) && not (not again && among)) ≡ not (not again && (true || among))
    both true among = refl
    both false among = refl

    other-name : (again own among : Bool) → (not (not again && (false || false)) && not (not own && among)) ≡ not (not own && (false || among))
    other-name true own among = refl
    other-name false own among = refl

    by : may_follow repeated (use_row name values ∷ []) (uses parts ids) ≡ not (not (is_in repeated name) && is_among name parts) → (same : Bool) → bytes_eq other name ≡ same → may_follow repeated (use_row name values ∷ []) (uses (option other value ∷ parts) ids) ≡ not (not (is_in repeated name) && is_among name (option other value ∷ parts))
    by rest true e =
        ap₂ (λ (has more : Bool). not (not (is_in repeated other) && (has || false)) && more) (same-turned name other ∙ e) rest
        ∙ (ap (λ (t : Text). not (not (is_in repeated t) && (true || false)) && not (not (is_in repeated name) && is_among name parts)) ((bytes_eq-Decides other name).0 e)
        ∙ (both (is_in repeated name) (is_among name parts) ∙ sym (ap (λ (b : Bool). not (not (is_in repeated name) && (b || is_among name parts))) e)))
    by rest false e =
        ap₂ (λ (has more : Bool). not (not (is_in repeated other) && (has || false)) && more) (same-turned name other ∙ e) rest
        ∙ (other-name (is_in repeated other) (is_in repeated name) (is_among name parts) ∙ sym (ap (λ (b : Bool). not (not (is_in repeated name) && (b || is_among name parts))) e))

-- the name of a word is none of an option's
less : (id : Text) (ids : List Text) (parts : List Part) → AreApart (id ∷ ids) parts → (is_among id parts ≡ false) × AreApart ids parts
less id ids [] known = (refl, tt)
less id ids (plain word ∷ parts) known = less id ids parts known
less id ids (option name value ∷ parts) known =
    let here = or_parts (bytes_eq id name) (is_in ids name) known.0 in
    let rest = less id ids parts known.1 in
    (ap₂ (λ (a b : Bool). a || b) (same-turned name id ∙ here.0) rest.0, (here.1, rest.1))

-- none of the names stands twice
abbrev pub are_apart : List Text → Bool
are_apart [] = true
are_apart (id ∷ ids) = not (is_in ids id) && are_apart ids

each-may-follow : (repeated : List Text) (parts : List Part) (ids : List Text) → are_apart ids ≡ true → AreApart ids parts → may_follow_each repeated (uses parts ids) ≡ each_once repeated parts
each-may-follow repeated [] ids apart known = refl
each-may-follow repeated (plain word ∷ parts) [] apart known = each-may-follow repeated parts [] apart known
each-may-follow repeated (plain word ∷ parts) (id ∷ ids) apart known =
    let here = and_parts _ _ apart in
    let rest = less id ids parts known in
    ap₂ (λ (a b : Bool). a && b) (follow-among repeated parts ids id (word ∷ []) (is_false _ here.0) ∙ (ap (λ (b : Bool). not (not (is_in repeated id) && b)) rest.0 ∙ nothing (is_in repeated id))) (each-may-follow repeated parts ids here.1 rest.1)
  where
    nothing : (again : Bool) → not (not again && false) ≡ true
    nothing true = refl
    nothing false = refl
each-may-follow repeated (option name value ∷ parts) ids apart known = ap₂ (λ (a b : Bool). a && b) (follow-among repeated parts ids name (option_to_list value) known.0) (each-may-follow repeated parts ids apart known.1)

-- the rows of all uses
abbrev pub rows_with : List Row → List Row → List Row
rows_with rows others = fold (λ r u. added u r) rows others

-- all parts, from the first word on
pub after-first : (repeated : List Text) (parts : List Part) (ids : List Text) → are_apart ids ≡ true → AreApart ids parts → after_parts repeated ids [] parts ≡ (if each_once repeated parts && fits (plain_words parts) ids then Some (rows_with [] (uses parts ids)) else None)
after-first repeated parts ids apart known =
    ap (λ (o : Option (List Row)). if fits (plain_words parts) ids then o else None)
    (appended-is repeated (uses parts ids) [] ∙ ap₂ (λ (a b : Bool). if a && b then Some (rows_with [] (uses parts ids)) else None) (all-may-follow repeated (uses parts ids)) (each-may-follow repeated parts ids apart known))
    ∙ both (each_once repeated parts) (fits (plain_words parts) ids)
  where
    both : (a b : Bool) → (if b then (if a then Some (rows_with [] (uses parts ids)) else None) else None) ≡ (if a && b then Some (rows_with [] (uses parts ids)) else None)
    both true b = refl
    both false true = refl
    both false false = refl

-- ---- what the rows give

-- the texts of rows with one use more
abbrev with_use : Bool → List Text → Option (List Text) → Option (List Text)
with_use true values texts = Some (unwrap_or texts [] ++ values)
with_use false values texts = texts

given-added : (name : Text) (u : Row) (rows : List Row) → given_by (added u rows) name ≡ with_use (bytes_eq u.id name) u.values (given_by rows name)
given-added name u [] = by (bytes_eq u.id name)
  where
    by : (here : Bool) → option_map (λ (r : Row). r.values) (cond here (Some u) None) ≡ with_use here u.values None
    by true = refl
    by false = refl
given-added name u (r ∷ rows) = by (given-added name u rows) (bytes_eq r.id u.id) refl
  where
    first : (b : Bool) → option_map (λ (q : Row). q.values) (cond b (Some (record r { values = r.values ++ u.values; source = Some (stronger r.source CommandLine) })) (find (λ (q : Row). bytes_eq q.id name) rows)) ≡ with_use b u.values (option_map (λ (q : Row). q.values) (cond b (Some r) (find (λ (q : Row). bytes_eq q.id name) rows)))
    first true = refl
    first false = refl

    later : given_by (added u rows) name ≡ with_use (bytes_eq u.id name) u.values (given_by rows name) → (b : Bool) → (b ≡ true → bytes_eq u.id name ≡ false) → option_map (λ (q : Row). q.values) (cond b (Some r) (find (λ (q : Row). bytes_eq q.id name) (added u rows))) ≡ with_use (bytes_eq u.id name) u.values (option_map (λ (q : Row). q.values) (cond b (Some r) (find (λ (q : Row). bytes_eq q.id name) rows)))
    later more true other = rw (other refl) refl
    later more false other = more

    by : given_by (added u rows) name ≡ with_use (bytes_eq u.id name) u.values (given_by rows name) → (here : Bool) → bytes_eq r.id u.id ≡ here → given_by (if bytes_eq r.id u.id then more_values CommandLine u.values r ++ rows else r ∷ added u rows) name ≡ with_use (bytes_eq u.id name) u.values (given_by (r ∷ rows) name)
    by more true e =
        let same : bytes_eq u.id name ≡ bytes_eq r.id name = ap (λ (t : Text). bytes_eq t name) (sym ((bytes_eq-Decides r.id u.id).0 e)) in
        rw (e, same) (first (bytes_eq r.id name))
    by more false e = rw e (later more (bytes_eq r.id name) (λ own. apart own))
      where
        apart : bytes_eq r.id name ≡ true → bytes_eq u.id name ≡ false
        apart own = false_from_ne_true (bytes_eq u.id name) (λ also. true≢false (sym ((bytes_eq-Decides r.id u.id).1 ((bytes_eq-Decides r.id name).0 own ∙ sym ((bytes_eq-Decides u.id name).0 also))) ∙ e))

-- the texts of rows, and those of what is used behind them
abbrev joined : Option (List Text) → Option (List Text) → Option (List Text)
joined None more = more
joined (Some texts) None = Some texts
joined (Some texts) (Some more) = Some (texts ++ more)

joined-use : (here : Bool) (value : Option Text) (texts more : Option (List Text)) → joined (with_use here (option_to_list value) texts) more ≡ joined texts (with_part here value more)
joined-use false value texts more = refl
joined-use true value None None = ap Some (sym (append-nil (option_to_list value)))
joined-use true value None (Some more) = refl
joined-use true value (Some texts) None = ap (λ (xs : List Text). Some (texts ++ xs)) (sym (append-nil (option_to_list value)))
joined-use true value (Some texts) (Some more) = ap Some (append_assoc texts (option_to_list value) more)

given-used : (name : Text) (parts : List Part) (names : List Text) (rows : List Row) → given_by (rows_with rows (uses parts names)) name ≡ joined (given_by rows name) (given_from parts names name)
given-used name [] names rows = by (given_by rows name)
  where
    by : (texts : Option (List Text)) → texts ≡ joined texts None
    by None = refl
    by (Some texts) = refl
given-used name (plain word ∷ parts) [] rows = given-used name parts [] rows
given-used name (plain word ∷ parts) (id ∷ names) rows =
    let u = use_row id (word ∷ []) in
    given-used name parts names (added u rows)
    ∙ (ap (λ (texts : Option (List Text)). joined texts (given_from parts names name)) (given-added name u rows)
    ∙ joined-use (bytes_eq id name) (Some word) (given_by rows name) (given_from parts names name))
given-used name (option other value ∷ parts) names rows =
    let u = use_row other (option_to_list value) in
    given-used name parts names (added u rows)
    ∙ (ap (λ (texts : Option (List Text)). joined texts (given_from parts names name)) (given-added name u rows)
    ∙ joined-use (bytes_eq other name) value (given_by rows name) (given_from parts names name))

-- the rows of the parts give what the parts do
pub same-given : (parts : List Part) (names : List Text) → given_by (rows_with [] (uses parts names)) ≡ given_from parts names
same-given parts names = fun_ext (λ name. given-used name parts names [])

first-text : (row : Option Row) → option_and_then (λ r. slice_get r.values 0) row ≡ option_and_then (λ texts. slice_get texts 0) (option_map (λ r. r.values) row)
first-text None = refl
first-text (Some r) = refl

pub text-given : (name : Text) (rows : List Row) → first_of name rows ≡ text_given name (given_by rows)
text-given name rows = first-text (find (λ r. bytes_eq r.id name) rows)

-- ---- the matches themselves

some-mapped : {X Y : Type 0} (f : X → Y) (o : Option X) → is_some (option_map f o) ≡ is_some o
some-mapped f None = refl
some-mapped f (Some x) = refl

-- the matches have an entry for an argument where the rows have
pub matched-has : (f : Found) (id : Text) → is_some (matched_of f id) ≡ is_given id (given_by (rows_of f))
matched-has f id =
    let entry = find (λ (e : Entry). bytes_eq e.0.now id) f.entries.items in
    some-mapped (λ (e : Entry). e.1) entry ∙ sym (some-mapped row_of entry) ∙ ap (λ (o : Option Row). is_some o) (sym (find_row f.entries.items id)) ∙ sym (some-mapped (λ (r : Row). r.values) (find (λ r. bytes_eq r.id id) (rows_of f)))

-- and with its values
pub matched-values : (f : Found) (id : Text) → option_map raw_values (matched_of f id) ≡ given_by (rows_of f) id
matched-values f id = by (find (λ (e : Entry). bytes_eq e.0.now id) f.entries.items) ∙ ap (option_map (λ (r : Row). r.values)) (sym (find_row f.entries.items id))
  where
    by : (entry : Option Entry) → option_map raw_values (option_map (λ (e : Entry). e.1) entry) ≡ option_map (λ (r : Row). r.values) (option_map row_of entry)
    by None = refl
    by (Some e) = refl
