-- The command that the words of a command line give, none where they are outside the grammar.
use Rattle.std.specs.Prelude.{◌≡◌, ℕ, ◌≤◌, ◌+◌, ◌-◌, ◌*◌, ◌==◌, ℤ, pos, neg_ℤ, ◌≤ℤ◌, int_le, Bool, true, false, not, ◌&&◌, ◌||◌, nat_lt, nat_le, if◌then◌else◌, List, [], ◌∷◌, ◌++◌, length, take, drop, Option, Some, None, option_map, option_and_then, option_to_list, is_some, unwrap_or, slice_get, map, find, codes, ⊤}
use Rattle.std.specs.Borrow.{Bor}
use Rattle.std.specs.List.{All, fold, list_all, list_any, before_first, after_first, slice_split, sum}
use Rattle.std.specs.Str.{bytes_eq}
use Rattle.std.specs.Char.{is_ascii_digit}
use Rattle.bidegree.specs.declared.class.Class.{Class}
use Rattle.bidegree.specs.declared.range.Range.{Range}
use Rattle.bidegree.specs.declared.range.TheConstants.{MAX_S, MAX_T}
use Rattle.bidegree.specs.declared.shape.Shape.{Shape}
use Rattle.bidegree.specs.declared.shape.Shape.TheVariants.{Rectangle, Stems}
use Rattle.ext_words.specs.declared.command.TheConstants.{MAX_WORKERS, MAX_SQUARES, MAX_SQUARES_DEGREE, MAX_SHIFT}
use Rattle.ext_words.specs.declared.command.Build.{Build}
use Rattle.ext_words.specs.declared.command.Build.TheVariants as build
use Rattle.ext_words.specs.declared.command.Command.{Command}
use Rattle.ext_words.specs.declared.command.Command.TheVariants.{Sphere, Resolve, Dump, Products, Massey, Product, Bracket, Check, Build as Built, Sample, Sq, Migrate, Verify, Table}
use Rattle.ext_words.specs.declared.command.Common.{Common}

-- the bytes of the words
abbrev pub texts_of : List (Bor (List ℕ)) → List (List ℕ)
texts_of words = map (λ w. w.now) words

-- whether `--live` is among them
abbrev pub has_live : List (Bor (List ℕ)) → Bool
has_live words = list_any (λ word. bytes_eq word.now (codes "--live")) words

-- ---- the words behind a command's name, and its options among them

-- a word that is no option, or an option with its value; one that has none is a flag
pub data Part : Type 0 where
  plain : List ℕ → Part
  option : List ℕ → Option (List ℕ) → Part

-- the options that a command has, those among them that may be given more than once, and its flags, by their names
pub record Options : Type 0 where
  pub valued : List (List ℕ)
  pub repeated : List (List ℕ)
  pub flags : List (List ℕ)

abbrev pub is_in : List (List ℕ) → List ℕ → Bool
is_in names name = list_any (λ other. bytes_eq other name) names

abbrev pub begins_with : List ℕ → List ℕ → Bool
begins_with start word = bytes_eq start (take (length start) word)

abbrev pub has_equals : List ℕ → Bool
has_equals text = list_any (λ c. c == 61) text

abbrev pub before_equals : List ℕ → List ℕ
before_equals text = before_first (λ c. c == 61) text

abbrev pub after_equals : List ℕ → List ℕ
after_equals text = after_first (λ c. c == 61) text

-- an option takes the plain word behind it as its value
abbrev pub with_next : List ℕ → List Part → Option (List Part)
with_next name (plain value ∷ parts) = Some (option name (Some value) ∷ parts)
with_next name _ = None

-- the parts with an option in front, whose value follows in the same word or in the next; or with a flag, which takes none
abbrev pub with_option : Options → List ℕ → Option (List ℕ) → List Part → Option (List Part)
with_option options name (Some value) parts =
    if is_in options.valued name then Some (option name (Some value) ∷ parts) else None
with_option options name None parts =
    if is_in options.valued name then with_next name parts
    else if is_in options.flags name then Some (option name None ∷ parts)
    else None

-- `name=value` or `name`; no option is without a name
abbrev pub with_text : Options → List ℕ → List Part → Option (List Part)
with_text options [] parts = None
with_text options (c ∷ rest) parts = with_option options (before_equals (c ∷ rest))
    (if has_equals (c ∷ rest) then Some (after_equals (c ∷ rest)) else None) parts

-- the parts with one more word in front: behind two hyphens an option, and no other word begins with a hyphen
abbrev pub with_word : Options → List ℕ → List Part → Option (List Part)
with_word options word parts =
    if begins_with (codes "--") word then with_text options (drop 2 word) parts
    else if begins_with (codes "-") word then None else Some (plain word ∷ parts)

-- the parts that words have, none where the command has not such an option or its value is missing
abbrev pub parts_of : Options → List (List ℕ) → Option (List Part)
parts_of options [] = Some []
parts_of options (word ∷ words) = option_and_then (with_word options word) (parts_of options words)

-- the words that are no options, in their order
abbrev pub plain_words : List Part → List (List ℕ)
plain_words [] = []
plain_words (plain word ∷ parts) = word ∷ plain_words parts
plain_words (option name value ∷ parts) = plain_words parts

-- whether an option of this name is among them
abbrev pub is_among : List ℕ → List Part → Bool
is_among name [] = false
is_among name (plain word ∷ parts) = is_among name parts
is_among name (option other value ∷ parts) = bytes_eq other name || is_among name parts

-- no option is among them twice, but for those that may be
abbrev pub each_once : List (List ℕ) → List Part → Bool
each_once repeated [] = true
each_once repeated (plain word ∷ parts) = each_once repeated parts
each_once repeated (option name value ∷ parts) =
    not (not (is_in repeated name) && is_among name parts) && each_once repeated parts

-- ---- numbers

-- decimal digits, from one to this many
abbrev pub are_digits : ℕ → List ℕ → Bool
are_digits most word = nat_lt 0 (length word) && (nat_le (length word) most && list_all is_ascii_digit word)

abbrev pub decimal_value : List ℕ → ℕ
decimal_value word = fold (λ n c. 10 * n + (c - 48)) 0 word

-- the number of a word of at most this many digits
abbrev pub number_of : ℕ → List ℕ → Option ℕ
number_of most word = if are_digits most word then Some (decimal_value word) else None

-- such a number, which is below 0 where a hyphen stands in front
abbrev pub signed_number_of : ℕ → List ℕ → Option ℤ
signed_number_of most [] = None
signed_number_of most (c ∷ word) =
    if c == 45 then option_map (λ n. neg_ℤ (pos n)) (number_of most word)
    else option_map pos (number_of most (c ∷ word))

-- the number of a word of at most three digits, where it is no greater than the limit
abbrev pub number_up_to : ℕ → List ℕ → Option ℕ
number_up_to limit word = option_and_then (λ n. if nat_le n limit then Some n else None) (number_of 3 word)

-- the number of a word, where it is from 1 to the limit
abbrev pub positive_up_to : ℕ → List ℕ → Option ℕ
positive_up_to limit word = option_and_then (λ n. if n == 0 then None else Some n) (number_up_to limit word)

-- the number that a sample is drawn from, of 32 bits
abbrev pub seed_of : List ℕ → Option ℕ
seed_of word = option_and_then (λ n. if nat_le n 4294967295 then Some n else None) (number_of 10 word)

-- the number of degrees of a shift
abbrev pub shift_of : List ℕ → Option ℤ
shift_of word = option_and_then
    (λ n. if int_le (neg_ℤ (pos MAX_SHIFT)) n && int_le n (pos MAX_SHIFT) then Some n else None)
    (signed_number_of 3 word)

-- the texts between the commas of a word
abbrev pub between_commas : List ℕ → List (List ℕ)
between_commas word = slice_split (λ c. c == 44) word

-- what is read of words, one after another; none where one of them is not read
abbrev pub read_each : {X : Type 0} → (List ℕ → Option X) → List (List ℕ) → Option (List X)
read_each read [] = Some []
read_each read (word ∷ words) = option_and_then (λ x. option_map (λ xs. x ∷ xs) (read_each read words)) (read word)

-- the numbers of words, each from 1 to the limit
abbrev pub positive_numbers : ℕ → List (List ℕ) → Option (List ℕ)
positive_numbers limit words = read_each (positive_up_to limit) words

-- the numbers of a product of squares, where there are not too many, and their sum, which is its degree, is not too great
abbrev pub within_degree : List ℕ → Option (List ℕ)
within_degree numbers =
    if nat_le (length numbers) MAX_SQUARES && nat_le (sum numbers) MAX_SQUARES_DEGREE then Some numbers else None

-- the numbers of a product of squares, which a word has between commas
abbrev pub product_of : List ℕ → Option (List ℕ)
product_of word = option_and_then within_degree (positive_numbers MAX_SQUARES_DEGREE (between_commas word))

-- a class, by the texts of its row, its degree and its number: each has one to five digits, and the degree alone may have a hyphen in
-- front of them
abbrev pub class_from : List (List ℕ) → Option Class
class_from (s ∷ t ∷ i ∷ []) = option_and_then
    (λ row. option_and_then
    (λ degree. option_map (λ number. record { s = row; t = degree; i = number }) (number_of 5 i))
    (signed_number_of 5 t))
    (number_of 5 s)
class_from _ = None

-- the class whose row, degree and number a word has between commas
abbrev pub class_of : List ℕ → Option Class
class_of word = class_from (between_commas word)

-- ---- what is given to a command

-- the texts that stand under a name, which is that of a word, of an option or of a flag, in their order: none of them under the name
-- of a flag. Where nothing is given under the name there is no list.
abbrev pub Given : Type 0
Given = List ℕ → Option (List (List ℕ))

-- there are no more words than names
abbrev pub fits : List (List ℕ) → List (List ℕ) → Bool
fits [] names = true
fits (word ∷ words) [] = false
fits (word ∷ words) (name ∷ names) = fits words names

-- the texts with that of one part more, where it is given under their name
abbrev pub with_part : Bool → Option (List ℕ) → Option (List (List ℕ)) → Option (List (List ℕ))
with_part true text texts = Some (option_to_list text ++ unwrap_or texts [])
with_part false text texts = texts

-- what the parts give, where the words that are no options have these names, in their order
abbrev pub given_from : List Part → List (List ℕ) → Given
given_from [] names name = None
given_from (plain word ∷ parts) [] name = given_from parts [] name
given_from (plain word ∷ parts) (other ∷ names) name =
    with_part (bytes_eq other name) (Some word) (given_from parts names name)
given_from (option other value ∷ parts) names name = with_part (bytes_eq other name) value (given_from parts names name)

-- the first text that is given under a name
abbrev pub text_given : List ℕ → Given → Option (List ℕ)
text_given name given = option_and_then (λ texts. slice_get texts 0) (given name)

-- whether something is given under a name
abbrev pub is_given : List ℕ → Given → Bool
is_given name given = is_some (given name)

-- the number that is given, at most the limit
abbrev pub number_given : List ℕ → ℕ → Given → Option ℕ
number_given name limit given = option_and_then (number_up_to limit) (text_given name given)

-- the class that is given
abbrev pub class_given : List ℕ → Given → Option Class
class_given name given = option_and_then class_of (text_given name given)

-- the classes that are given
abbrev pub classes_given : List ℕ → Given → Option (List Class)
classes_given name given = option_and_then (read_each class_of) (given name)

-- how many workers there are by the value of `--workers`: one where it has none
abbrev pub workers_of : Option (List ℕ) → Option ℕ
workers_of None = Some 1
workers_of (Some value) = positive_up_to MAX_WORKERS value

-- which squares of a range are meant: with `--stems` those of its stems
abbrev pub shape_of : Given → Shape
shape_of given = if is_given (codes "stems") given then Stems else Rectangle

-- the range through row S whose second number is the last degree T, or the last stem N: row S then ends in degree S + N, which is the
-- greatest of the range
abbrev pub range_through : Shape → ℕ → ℕ → Option Range
range_through Rectangle s t = Some (record { s = s; t = t })
range_through Stems s n = if nat_le (s + n) MAX_T then Some (record { s = s; t = s + n }) else None

-- the words S and T, within the greatest row and the greatest degree of a range
abbrev pub range_of : Shape → Given → Option Range
range_of shape given =
    option_and_then (λ s. option_and_then (λ t. range_through shape s t) (number_given (codes "T") MAX_T given))
    (number_given (codes "S") MAX_S given)

-- a range through a stem is neither kept in a save file nor told of while it is made
abbrev pub is_refused_stems : Given → Bool
is_refused_stems given = is_given (codes "stems") given && (is_given (codes "save") given || is_given (codes "live") given)

-- a range, and the options of all commands that resolve a module
abbrev pub common_of : Given → Option Common
common_of given =
    if is_refused_stems given then None
    else option_and_then (λ range.
    option_map
    (λ n. record {
      range = range;
      shape = shape_of given;
      workers = n;
      save = is_given (codes "save") given;
      live = is_given (codes "live") given;
    })
    (workers_of (text_given (codes "workers") given)))
    (range_of (shape_of given) given)

-- ---- what is made of it

-- the classes that `--by` is given, which has to be there
abbrev pub products_of : Given → Option Command
products_of given =
    option_and_then (λ common. option_map (λ by. Products common by) (classes_given (codes "by") given)) (common_of given)

-- the classes that `--a`, `--b` and `--c` are given, which all have to be there
abbrev pub massey_of : Given → Option Command
massey_of given =
    option_and_then (λ common.
    option_and_then (λ a.
    option_and_then (λ b.
    option_map (λ c. Massey common a b c) (class_given (codes "c") given))
    (class_given (codes "b") given))
    (class_given (codes "a") given))
    (common_of given)

-- the classes that `--a` and `--x` are given, which both have to be there
abbrev pub one_product_of : Given → Option Command
one_product_of given =
    option_and_then (λ workers.
    option_and_then (λ a.
    option_map (λ x. Product workers a x) (class_given (codes "x") given))
    (class_given (codes "a") given))
    (workers_of (text_given (codes "workers") given))

-- the classes of a bracket, without a range
abbrev pub bracket_of : Given → Option Command
bracket_of given =
    option_and_then (λ workers.
    option_and_then (λ a.
    option_and_then (λ b.
    option_map (λ c. Bracket workers a b c) (class_given (codes "c") given))
    (class_given (codes "b") given))
    (class_given (codes "a") given))
    (workers_of (text_given (codes "workers") given))

-- what is built by the word OP, and by what `--degrees` is given: it stands with `shift`, and there alone
abbrev pub built_by : List ℕ → Option (List ℕ) → Option Build
built_by word None =
    if bytes_eq (codes "sum") word then Some build.Sum
    else if bytes_eq (codes "tensor") word then Some build.Tensor
    else if bytes_eq (codes "dual") word then Some build.Dual
    else None
built_by word (Some degrees) = if bytes_eq (codes "shift") word then option_map build.Shift (shift_of degrees) else None

abbrev pub build_of : Given → Option Build
build_of given =
    option_and_then (λ word. built_by word (text_given (codes "degrees") given)) (text_given (codes "OP") given)

-- the number N, with what all commands have that resolve a module
abbrev pub sample_of : Given → Option Command
sample_of given = option_and_then (λ n. option_map (λ common. Sample n common) (common_of given))
    (option_and_then seed_of (text_given (codes "N") given))

-- the product W
abbrev pub product_given : Given → Option (List ℕ)
product_given given = option_and_then product_of (text_given (codes "W") given)

-- a table, with the classes that `--by` is given, of which there may be none
abbrev pub table_of : Given → Option Command
table_of given =
    option_and_then (λ common. option_map (λ by. Table common by) (read_each class_of (unwrap_or (given (codes "by")) [])))
    (common_of given)

-- ---- commands

-- a command: its name, the names of its words in their order, its options, and what is made of what is given to it
pub record Grammar : Type 0 where
  pub name : List ℕ
  pub words : List (List ℕ)
  pub options : Options
  pub make : Given → Option Command

abbrev pub grammar :
    List ℕ → List (List ℕ) → List (List ℕ) → List (List ℕ) → (Given → Option Command) → Grammar
grammar name words valued flags make =
    record { name = name; words = words; options = record { valued = valued; repeated = []; flags = flags }; make = make }

-- a command that resolves a module: the words S and T stand behind its own, and the options that all such commands have
-- beside its own
abbrev pub resolving :
    List ℕ → List (List ℕ) → List (List ℕ) → List (List ℕ) → (Given → Option Command) → Grammar
resolving name words valued flags make =
    grammar name (words ++ codes "S" ∷ codes "T" ∷ []) (codes "workers" ∷ valued) (codes "save" ∷ flags) make

-- a command of which an option may be given more than once
abbrev pub repeating : List ℕ → Grammar → Grammar
repeating name g = record g { options = record g.options { repeated = name ∷ [] } }

-- the commands
abbrev pub commands : List Grammar
commands =
    resolving (codes "sphere") [] [] (codes "live" ∷ codes "stems" ∷ []) (λ given. option_map Sphere (common_of given))
    ∷ resolving (codes "resolve") [] [] (codes "live" ∷ codes "stems" ∷ []) (λ given. option_map Resolve (common_of given))
    ∷ resolving (codes "dump") [] [] (codes "stems" ∷ []) (λ given. option_map Dump (common_of given))
    ∷ repeating (codes "by") (resolving (codes "products") [] (codes "by" ∷ []) (codes "stems" ∷ []) products_of)
    ∷ resolving (codes "massey") [] (codes "a" ∷ codes "b" ∷ codes "c" ∷ []) [] massey_of
    ∷ grammar (codes "product") [] (codes "workers" ∷ codes "a" ∷ codes "x" ∷ []) [] one_product_of
    ∷ grammar (codes "bracket") [] (codes "workers" ∷ codes "a" ∷ codes "b" ∷ codes "c" ∷ []) [] bracket_of
    ∷ grammar (codes "check") [] [] [] (λ given. Some Check)
    ∷ grammar (codes "build") (codes "OP" ∷ []) (codes "degrees" ∷ []) [] (λ given. option_map Built (build_of given))
    ∷ resolving (codes "sample") (codes "N" ∷ []) [] (codes "stems" ∷ []) sample_of
    ∷ grammar (codes "sq") (codes "W" ∷ []) [] [] (λ given. option_map Sq (product_given given))
    ∷ grammar (codes "migrate") [] [] [] (λ given. Some Migrate)
    ∷ grammar (codes "verify") (codes "S" ∷ codes "T" ∷ []) [] [] (λ given. option_map Verify (range_of Rectangle given))
    ∷ repeating (codes "by")
    (grammar (codes "table") (codes "S" ∷ codes "T" ∷ []) (codes "workers" ∷ codes "by" ∷ []) (codes "stems" ∷ []) table_of)
    ∷ []

-- what words give to a command: each of its options is among them at most once, but for those that may be given more than once, and
-- there are no more other words than it has names for
abbrev pub given_to : Grammar → List (List ℕ) → Option Given
given_to g words = option_and_then
    (λ parts. if each_once g.options.repeated parts && fits (plain_words parts) g.words then Some (given_from parts g.words)
    else None)
    (parts_of g.options words)

-- what the command makes of that
abbrev pub read_by : Grammar → List (List ℕ) → Option Command
read_by g words = option_and_then g.make (given_to g words)

-- the command of this name
abbrev pub grammar_of : List ℕ → Option Grammar
grammar_of name = find (λ g. bytes_eq g.name name) commands

-- what words give to the command that the first of them names
abbrev pub given_of : List (List ℕ) → Option Given
given_of [] = None
given_of (name ∷ words) = option_and_then (λ g. given_to g words) (grammar_of name)

-- the command's name, and what is behind it
abbrev pub command_of : List (List ℕ) → Option Command
command_of [] = None
command_of (name ∷ words) = option_and_then (λ g. read_by g words) (grammar_of name)

-- ---- limits

abbrev pub IsRangeWithin : Range → Type 0
IsRangeWithin range = (range.s ≤ MAX_S) × (range.t ≤ MAX_T)

-- the last stem of a range through a stem is not below 0
abbrev pub IsRangeOf : Shape → Range → Type 0
IsRangeOf Rectangle range = ⊤
IsRangeOf Stems range = range.s ≤ range.t

-- a range through a stem is neither kept in a save file nor told of while it is made
abbrev pub IsAlone : Shape → Common → Type 0
IsAlone Rectangle common = ⊤
IsAlone Stems common = (common.save ≡ false) × (common.live ≡ false)

abbrev pub AreWorkers : ℕ → Type 0
AreWorkers n = (1 ≤ n) × (n ≤ MAX_WORKERS)

abbrev pub IsWithin : Common → Type 0
IsWithin common =
    IsRangeWithin common.range × (1 ≤ common.workers) × (common.workers ≤ MAX_WORKERS)
    × IsRangeOf common.shape common.range × IsAlone common.shape common

-- numbers of at most five digits
abbrev pub IsShort : Class → Type 0
IsShort class = (class.s ≤ 99999) × (neg_ℤ (pos 99999) ≤ℤ class.t) × (class.t ≤ℤ pos 99999) × (class.i ≤ 99999)

abbrev pub IsWithinShift : Build → Type 0
IsWithinShift (build.Shift n) = (neg_ℤ (pos MAX_SHIFT) ≤ℤ n) × (n ≤ℤ pos MAX_SHIFT)
IsWithinShift _ = ⊤

-- a product of not too many squares, none of them Sq^0, whose degree is not too great
abbrev pub IsWithinDegree : List ℕ → Type 0
IsWithinDegree numbers =
    All (λ n. 1 ≤ n) numbers × (length numbers ≤ MAX_SQUARES) × (sum numbers ≤ MAX_SQUARES_DEGREE)

-- the command asks for no more than the grammar allows
abbrev pub IsWithinLimits : Command → Type 0
IsWithinLimits (Sphere common) = IsWithin common
IsWithinLimits (Resolve common) = IsWithin common
IsWithinLimits (Dump common) = IsWithin common
IsWithinLimits (Products common by) = IsWithin common × All IsShort by
IsWithinLimits (Massey common a b c) = IsWithin common × IsShort a × IsShort b × IsShort c
IsWithinLimits (Product workers a x) = AreWorkers workers × IsShort a × IsShort x
IsWithinLimits (Bracket workers a b c) = AreWorkers workers × IsShort a × IsShort b × IsShort c
IsWithinLimits Check = ⊤
IsWithinLimits (Built made) = IsWithinShift made
IsWithinLimits (Sample n common) = IsWithin common
IsWithinLimits (Sq numbers) = IsWithinDegree numbers
IsWithinLimits Migrate = ⊤
IsWithinLimits (Verify range) = IsRangeWithin range
IsWithinLimits (Table common by) = IsWithin common × All IsShort by
