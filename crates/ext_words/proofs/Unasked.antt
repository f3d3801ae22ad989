-- Words without `--live` ask for no reports.
use Rattle.std.proofs.Common.{◌≡◌, ◌≢◌, ◌∙◌, ℕ, refl, List, [], ◌∷◌, ◌++◌, ◌+◌, length, take, drop, arith, Bool, true, false, Option, Some, None, ap, ap₂, sym, take-append-drop}
use Rattle.std.specs.Prelude.{◌==◌, ◌&&◌, cond, find, codes, option_map, option_and_then, unwrap_or, IfSome, ⊤, if◌then◌else◌}
use Rattle.std.specs.List.{position_or_len}
use Rattle.std.specs.Borrow.{Bor}
use Rattle.std.specs.Str.{bytes_eq}
use Rattle.std.proofs.lemmas.Bool.{or_parts, true≢false, false_from_ne_true}
use Rattle.std.proofs.lemmas.List.{take_all}
use Rattle.std.proofs.lemmas.Slice.Eq.{bytes_eq-Decides}
use Rattle.bidegree.specs.declared.class.Class.{Class}
use Rattle.bidegree.specs.declared.range.Range.{Range}
use Rattle.bidegree.specs.declared.shape.Shape.{Shape}
use Rattle.bidegree.specs.declared.shape.Shape.TheVariants.{Rectangle}
use Rattle.clap.proofs.WalkLemmas.{list_any-map}
use Rattle.ext_words.specs.declared.command.Build.{Build}
use Rattle.ext_words.specs.declared.command.Command.{Command}
use Rattle.ext_words.specs.declared.command.Command.TheVariants.{Sphere, Resolve, Dump, Products, Massey, Product, Bracket, Build as Built, Sample, Sq, Verify, Table}
use Rattle.ext_words.specs.declared.command.Common.{Common}
use Rattle.ext_words.specs.Words.{Part, plain, option, Options, Given, Grammar, texts_of, has_live, is_in, is_among, begins_with, has_equals, before_equals, with_next, with_option, with_text, with_word, parts_of, plain_words, each_once, fits, given_from, is_given, text_given, class_given, classes_given, workers_of, seed_of, shape_of, range_of, is_refused_stems, common_of, products_of, massey_of, one_product_of, bracket_of, build_of, sample_of, product_given, read_each, class_of, table_of, commands, given_to, read_by, grammar_of, command_of}

abbrev Text : Type 0
Text = List ℕ

-- ---- what an option may give

module _ {X Y : Type 0} (P : X → Type 0) (Q : Y → Type 0) where
  with_then : (f : X → Option Y) → ((x : X) → P x → IfSome (f x) Q) → (o : Option X) → IfSome o P → IfSome (option_and_then f o) Q
  with_then f goes None is = tt
  with_then f goes (Some x) is = goes x is

  with_map : (f : X → Y) → ((x : X) → P x → Q (f x)) → (o : Option X) → IfSome o P → IfSome (option_map f o) Q
  with_map f goes None is = tt
  with_map f goes (Some x) is = goes x is

-- ---- parts without the name

differs : (a b : Text) → a ≢ b → bytes_eq a b ≡ false
differs a b apart = false_from_ne_true _ (λ e. apart ((bytes_eq-Decides a b).0 e))

-- a name that is listed, and one that is not
apart-from : (names : List Text) (name other : Text) → is_in names other ≡ true → is_in names name ≡ false → other ≢ name
apart-from names name other has none same = true≢false (sym has ∙ (ap (is_in names) same ∙ none))

none-at : (xs : Text) → has_equals xs ≡ false → position_or_len (λ c. c == 61) xs ≡ length xs
none-at [] e = refl
none-at (x ∷ xs) e =
    let parts = or_parts (x == 61) (has_equals xs) e in
    let rest = none-at xs parts.1 in
    let more : 1 + position_or_len (λ c. c == 61) xs ≡ length (x ∷ xs) = omega arith in
    rw (parts.0) more

none-before : (xs : Text) → has_equals xs ≡ false → before_equals xs ≡ xs
none-before xs e = ap (λ (n : ℕ). take n xs) (none-at xs e) ∙ take_all (length xs) xs (omega arith)

module _ (options : Options) (name : Text) (no_value : is_in options.valued name ≡ false) where
  abbrev Lacks : List Part → Type 0
  Lacks parts = is_among name parts ≡ false

  next-lacks : (other : Text) → other ≢ name → (parts : List Part) → Lacks parts → IfSome (with_next other parts) Lacks
  next-lacks other apart [] lacks = tt
  next-lacks other apart (plain value ∷ parts) lacks = rw (differs other name apart) lacks
  next-lacks other apart (option n given ∷ parts) lacks = tt

  option-lacks : (other : Text) (parts : List Part) → Lacks parts → (value : Option Text) → (value ≡ None → other ≢ name) → IfSome (with_option options other value parts) Lacks
  option-lacks other parts lacks (Some value) alone = by (is_in options.valued other) refl
    where
      by : (b : Bool) → is_in options.valued other ≡ b → IfSome (with_option options other (Some value) parts) Lacks
      by true e = rw (e, differs other name (apart-from options.valued name other e no_value)) lacks
      by false e = rw e tt
  option-lacks other parts lacks None alone = by (is_in options.valued other) (is_in options.flags other) refl refl
    where
      by : (b c : Bool) → is_in options.valued other ≡ b → is_in options.flags other ≡ c → IfSome (with_option options other None parts) Lacks
      by true c e f = rw e (next-lacks other (apart-from options.valued name other e no_value) parts lacks)
      by false true e f = rw (e, f, differs other name (alone refl)) lacks
      by false false e f = rw (e, f) tt

  text-lacks : (text : Text) → text ≢ name → (parts : List Part) → Lacks parts → IfSome (with_text options text parts) Lacks
  text-lacks [] apart parts lacks = tt
  text-lacks (c ∷ rest) apart parts lacks = by (has_equals (c ∷ rest)) refl
    where
      by : (b : Bool) → has_equals (c ∷ rest) ≡ b → IfSome (with_text options (c ∷ rest) parts) Lacks
      by true e = rw e (option-lacks (before_equals (c ∷ rest)) parts lacks (Some _) (λ none. absurd (cc)))
      by false e = rw e (option-lacks (before_equals (c ∷ rest)) parts lacks None (λ none same. apart (sym (none-before (c ∷ rest) e) ∙ same)))

  -- a word that is not the name behind two hyphens
  word-lacks : (word : Text) → bytes_eq word (45 ∷ 45 ∷ name) ≡ false → (parts : List Part) → Lacks parts → IfSome (with_word options word parts) Lacks
  word-lacks word other parts lacks = by (begins_with (codes "--") word) (begins_with (codes "-") word) refl refl
    where
      behind : begins_with (codes "--") word ≡ true → drop 2 word ≢ name
      behind e same =
          let front : codes "--" ≡ take 2 word = (bytes_eq-Decides (codes "--") (take 2 word)).0 e in
          let whole : word ≡ 45 ∷ 45 ∷ name = sym (take-append-drop 2 word) ∙ ap₂ (λ (a b : Text). a ++ b) (sym front) same in
          true≢false (sym ((bytes_eq-Decides word (45 ∷ 45 ∷ name)).1 whole) ∙ other)

      by : (b c : Bool) → begins_with (codes "--") word ≡ b → begins_with (codes "-") word ≡ c → IfSome (with_word options word parts) Lacks
      by true c e f = rw e (text-lacks (drop 2 word) (behind e) parts lacks)
      by false true e f = rw (e, f) tt
      by false false e f = rw (e, f) lacks

  words-lack : (words : List Text) → is_in words (45 ∷ 45 ∷ name) ≡ false → IfSome (parts_of options words) Lacks
  words-lack [] none = refl
  words-lack (word ∷ words) none =
      let parts = or_parts _ _ none in
      with_then Lacks Lacks (with_word options word) (word-lacks word parts.0) (parts_of options words) (words-lack words parts.1)

-- nothing is given under the name
none-given : (name : Text) (parts : List Part) (names : List Text) → is_among name parts ≡ false → is_in names name ≡ false → is_given name (given_from parts names) ≡ false
none-given name [] names lacks other = refl
none-given name (plain word ∷ parts) [] lacks other = none-given name parts [] lacks other
none-given name (plain word ∷ parts) (n ∷ names) lacks other =
    let apart = or_parts (bytes_eq n name) (is_in names name) other in
    rw (apart.0) (none-given name parts names lacks apart.1)
none-given name (option n value ∷ parts) names lacks other =
    let apart = or_parts (bytes_eq n name) (is_among name parts) lacks in
    rw (apart.0) (none-given name parts names apart.1 other)

-- ---- commands

abbrev live : Text
live = codes "live"

abbrev pub IsSilent : Common → Type 0
IsSilent common = common.live ≡ false

-- the command asks for no reports
abbrev pub AsksNone : Command → Type 0
AsksNone (Sphere common) = IsSilent common
AsksNone (Resolve common) = IsSilent common
AsksNone (Dump common) = IsSilent common
AsksNone (Products common by) = IsSilent common
AsksNone (Massey common a b c) = IsSilent common
AsksNone (Sample n common) = IsSilent common
AsksNone (Table common by) = IsSilent common
AsksNone command = ⊤

-- what is made of options that all have to be there
abbrev common_with : Shape → Bool → Bool → Range → ℕ → Common
common_with shape save live range n =
    record { range = range; shape = shape; workers = n; save = save; live = live }

common-by : (refused : Bool) (shape : Shape) (save live : Bool) → live ≡ false → (range : Option Range) (n : Option ℕ) →
    IfSome (if refused then None else option_and_then (λ range. option_map (common_with shape save live range) n) range) IsSilent
common-by true shape save told none range n = tt
common-by false shape save told none None n = tt
common-by false shape save told none (Some range) None = tt
common-by false shape save told none (Some range) (Some n) = none

products-by : (common : Option Common) → IfSome common IsSilent → (by : Option (List Class)) → IfSome (option_and_then (λ common. option_map (λ by. Products common by) by) common) AsksNone
products-by None is by = tt
products-by (Some common) is None = tt
products-by (Some common) is (Some by) = is

table-by : (common : Option Common) → IfSome common IsSilent → (by : Option (List Class)) → IfSome (option_and_then (λ common. option_map (λ by. Table common by) by) common) AsksNone
table-by None is by = tt
table-by (Some common) is None = tt
table-by (Some common) is (Some by) = is

massey-by : (common : Option Common) → IfSome common IsSilent → (a b c : Option Class) → IfSome (option_and_then (λ common. option_and_then (λ a. option_and_then (λ b. option_map (λ c. Massey common a b c) c) b) a) common) AsksNone
massey-by None is a b c = tt
massey-by (Some common) is None b c = tt
massey-by (Some common) is (Some a) None c = tt
massey-by (Some common) is (Some a) (Some b) None = tt
massey-by (Some common) is (Some a) (Some b) (Some c) = is

one_product-by : (n : Option ℕ) (a x : Option Class) → IfSome (option_and_then (λ n. option_and_then (λ a. option_map (λ x. Product n a x) x) a) n) AsksNone
one_product-by None a x = tt
one_product-by (Some n) None x = tt
one_product-by (Some n) (Some a) None = tt
one_product-by (Some n) (Some a) (Some x) = tt

bracket-by : (n : Option ℕ) (a b c : Option Class) → IfSome (option_and_then (λ n. option_and_then (λ a. option_and_then (λ b. option_map (λ c. Bracket n a b c) c) b) a) n) AsksNone
bracket-by None a b c = tt
bracket-by (Some n) None b c = tt
bracket-by (Some n) (Some a) None c = tt
bracket-by (Some n) (Some a) (Some b) None = tt
bracket-by (Some n) (Some a) (Some b) (Some c) = tt

sample-by : (common : Option Common) → IfSome common IsSilent → (n : Option ℕ) → IfSome (option_and_then (λ n. option_map (λ common. Sample n common) common) n) AsksNone
sample-by common is None = tt
sample-by None is (Some n) = tt
sample-by (Some common) is (Some n) = is

built-by : (made : Option Build) → IfSome (option_map Built made) AsksNone
built-by None = tt
built-by (Some made) = tt

product-by : (numbers : Option (List ℕ)) → IfSome (option_map Sq numbers) AsksNone
product-by None = tt
product-by (Some numbers) = tt

verify-by : (range : Option Range) → IfSome (option_map Verify range) AsksNone
verify-by None = tt
verify-by (Some range) = tt

module _ (given : Given) (none : is_given live given ≡ false) where
  common-silent : IfSome (common_of given) IsSilent
  common-silent =
      common-by (is_refused_stems given) (shape_of given) (is_given (codes "save") given) (is_given live given) none
      (range_of (shape_of given) given) (workers_of (text_given (codes "workers") given))

  sphere-silent : IfSome (option_map Sphere (common_of given)) AsksNone
  sphere-silent = with_map IsSilent AsksNone Sphere (λ common is. is) (common_of given) common-silent

  resolve-silent : IfSome (option_map Resolve (common_of given)) AsksNone
  resolve-silent = with_map IsSilent AsksNone Resolve (λ common is. is) (common_of given) common-silent

  dump-silent : IfSome (option_map Dump (common_of given)) AsksNone
  dump-silent = with_map IsSilent AsksNone Dump (λ common is. is) (common_of given) common-silent

  products-silent : IfSome (products_of given) AsksNone
  products-silent = products-by (common_of given) common-silent (classes_given (codes "by") given)

  massey-silent : IfSome (massey_of given) AsksNone
  massey-silent = massey-by (common_of given) common-silent (class_given (codes "a") given) (class_given (codes "b") given) (class_given (codes "c") given)

  one_product-silent : IfSome (one_product_of given) AsksNone
  one_product-silent = one_product-by (workers_of (text_given (codes "workers") given)) (class_given (codes "a") given) (class_given (codes "x") given)

  bracket-silent : IfSome (bracket_of given) AsksNone
  bracket-silent = bracket-by (workers_of (text_given (codes "workers") given)) (class_given (codes "a") given) (class_given (codes "b") given) (class_given (codes "c") given)

  sample-silent : IfSome (sample_of given) AsksNone
  sample-silent = sample-by (common_of given) common-silent (option_and_then seed_of (text_given (codes "N") given))

  build-silent : IfSome (option_map Built (build_of given)) AsksNone
  build-silent = built-by (build_of given)

  product-silent : IfSome (option_map Sq (product_given given)) AsksNone
  product-silent = product-by (product_given given)

  table-silent : IfSome (table_of given) AsksNone
  table-silent = table-by (common_of given) common-silent (read_each class_of (unwrap_or (given (codes "by")) []))

  verify-silent : IfSome (option_map Verify (range_of Rectangle given)) AsksNone
  verify-silent = verify-by (range_of Rectangle given)

-- no word and no option with a value has the name, and what is made of what is given asks for nothing else
record IsPlain (g : Grammar) : Type 0 where
  valued : is_in g.options.valued live ≡ false
  words : is_in g.words live ≡ false
  makes : (given : Given) → is_given live given ≡ false → IfSome (g.make given) AsksNone

abbrev ArePlain : List Grammar → Type 0
ArePlain [] = ⊤
ArePlain (g ∷ list) = IsPlain g × ArePlain list

all-plain : ArePlain commands
all-plain =
    let table : ArePlain (drop 13 commands) = (record { valued = refl; words = refl; makes = table-silent }, tt) in
    let verify : ArePlain (drop 12 commands) = (record { valued = refl; words = refl; makes = verify-silent }, table) in
    let migrate : ArePlain (drop 11 commands) = (record { valued = refl; words = refl; makes = λ given none. tt }, verify) in
    let sq : ArePlain (drop 10 commands) = (record { valued = refl; words = refl; makes = product-silent }, migrate) in
    let sample : ArePlain (drop 9 commands) = (record { valued = refl; words = refl; makes = sample-silent }, sq) in
    let build : ArePlain (drop 8 commands) = (record { valued = refl; words = refl; makes = build-silent }, sample) in
    let check : ArePlain (drop 7 commands) = (record { valued = refl; words = refl; makes = λ given none. tt }, build) in
    let bracket : ArePlain (drop 6 commands) = (record { valued = refl; words = refl; makes = bracket-silent }, check) in
    let product : ArePlain (drop 5 commands) = (record { valued = refl; words = refl; makes = one_product-silent }, bracket) in
    let massey : ArePlain (drop 4 commands) = (record { valued = refl; words = refl; makes = massey-silent }, product) in
    let products : ArePlain (drop 3 commands) = (record { valued = refl; words = refl; makes = products-silent }, massey) in
    let dump : ArePlain (drop 2 commands) = (record { valued = refl; words = refl; makes = dump-silent }, products) in
    let resolve : ArePlain (drop 1 commands) = (record { valued = refl; words = refl; makes = resolve-silent }, dump) in
    (record { valued = refl; words = refl; makes = sphere-silent }, resolve)

found-plain : (test : Grammar → Bool) (list : List Grammar) → ArePlain list → IfSome (find test list) IsPlain
found-plain test [] all = tt
found-plain test (g ∷ list) all = by (test g) (found-plain test list all.1)
  where
    by : (b : Bool) → IfSome (find test list) IsPlain → IfSome (cond b (Some g) (find test list)) IsPlain
    by true rest = all.0
    by false rest = rest

module _ (g : Grammar) (is : IsPlain g) where
  abbrev LacksLive : Given → Type 0
  LacksLive given = is_given live given ≡ false

  abbrev all_given : List Part → Option Given
  all_given parts = if each_once g.options.repeated parts && fits (plain_words parts) g.words then Some (given_from parts g.words) else None

  from-lacks : (parts : List Part) → is_among live parts ≡ false → IfSome (all_given parts) LacksLive
  from-lacks parts lacks = by (each_once g.options.repeated parts && fits (plain_words parts) g.words)
    where
      by : (b : Bool) → IfSome (if b then Some (given_from parts g.words) else None) LacksLive
      by true = none-given live parts g.words lacks is.words
      by false = tt

  given-lacks : (words : List Text) → is_in words (codes "--live") ≡ false → IfSome (given_to g words) LacksLive
  given-lacks words none = with_then (λ parts. is_among live parts ≡ false) LacksLive all_given from-lacks (parts_of g.options words) (words-lack g.options live is.valued words none)

  read-silent : (words : List Text) → is_in words (codes "--live") ≡ false → IfSome (read_by g words) AsksNone
  read-silent words none = with_then LacksLive AsksNone g.make is.makes (given_to g words) (given-lacks words none)

asks-none : (words : List Text) → is_in words (codes "--live") ≡ false → IfSome (command_of words) AsksNone
asks-none [] none = tt
asks-none (name ∷ words) none =
    let parts = or_parts _ _ none in
    with_then IsPlain AsksNone (λ g. read_by g words) (λ g is. read-silent g is words parts.1) (grammar_of name) (found-plain (λ g. bytes_eq g.name name) commands all-plain)

pub asks_none : (words : List (Bor Text)) → has_live words ≡ false → IfSome (command_of (texts_of words)) AsksNone
asks_none words none = asks-none (texts_of words) (sym (list_any-map (λ (text : Text). bytes_eq text (codes "--live")) (λ word. word.now) words) ∙ none)
