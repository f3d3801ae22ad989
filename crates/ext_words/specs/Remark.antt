-- What is wrong with words that give no command, and which class lies past the range, each as a line of text.
use Rattle.std.specs.Prelude.{ℕ, pos, int_le, nat_lt, nat_le, ◌&&◌, ◌||◌, not, Bool, if◌then◌else◌, List, [], ◌∷◌, ◌++◌, length, Option, Some, None, option_map, option_and_then, is_some, codes, decimal}
use Rattle.std.specs.Fmt.{signed_decimal}
use Rattle.std.specs.List.{list_all}
use Rattle.std.specs.Option.{option_or, unwrap_or}
use Rattle.std.specs.Str.{bytes_eq}
use Rattle.bidegree.specs.declared.class.Class.{Class}
use Rattle.bidegree.specs.declared.range.Range.{Range}
use Rattle.bidegree.specs.declared.range.TheConstants.{MAX_S, MAX_T}
use Rattle.ext_words.specs.declared.command.TheConstants.{MAX_WORKERS, MAX_SQUARES, MAX_SQUARES_DEGREE, MAX_SHIFT}
use Rattle.ext_words.specs.declared.command.Command.{Command}
use Rattle.ext_words.specs.declared.command.Command.TheVariants.{Products, Massey, Table}
use Rattle.ext_words.specs.Words.{Given, is_in, number_up_to, positive_up_to, shift_of, seed_of, product_of, class_of, given_of, command_of}

-- ---- words in a line

-- the printable characters of ASCII
abbrev pub is_printable : ℕ → Bool
is_printable c = nat_le 32 c && nat_le c 126

-- words come from outside, and a line shows those of them alone that are short and printable
abbrev pub is_shown : List ℕ → Bool
is_shown word = nat_lt 0 (length word) && (nat_le (length word) 40 && list_all is_printable word)

abbrev pub shown : List ℕ → List ℕ
shown word = if is_shown word then word else codes "a word that is not shown"

-- ---- what words and options may be

-- the names of words and of options, in the order in which they are looked at
abbrev pub value_names : List (List ℕ)
value_names =
    codes "N" ∷ codes "S" ∷ codes "T" ∷ codes "W" ∷ codes "OP" ∷ codes "workers" ∷ codes "degrees" ∷ codes "by"
    ∷ codes "a" ∷ codes "b" ∷ codes "c" ∷ codes "x" ∷ []

-- whether a word or an option of this name may be this text
abbrev pub is_right : List ℕ → List ℕ → Bool
is_right name text =
    if bytes_eq (codes "N") name then is_some (seed_of text)
    else if bytes_eq (codes "S") name then is_some (number_up_to MAX_S text)
    else if bytes_eq (codes "T") name then is_some (number_up_to MAX_T text)
    else if bytes_eq (codes "W") name then is_some (product_of text)
    else if bytes_eq (codes "OP") name then
    is_in (codes "sum" ∷ codes "tensor" ∷ codes "dual" ∷ codes "shift" ∷ []) text
    else if bytes_eq (codes "workers") name then is_some (positive_up_to MAX_WORKERS text)
    else if bytes_eq (codes "degrees") name then is_some (shift_of text)
    else is_some (class_of text)

-- what it has to be
abbrev pub wanted : List ℕ → List ℕ
wanted name =
    if bytes_eq (codes "N") name then codes "a number from 0 to 4294967295"
    else if bytes_eq (codes "S") name then codes "a number from 0 to " ++ decimal MAX_S
    else if bytes_eq (codes "T") name then codes "a number from 0 to " ++ decimal MAX_T
    else if bytes_eq (codes "W") name then
    codes "at most " ++ (decimal MAX_SQUARES ++ (codes " numbers above 0, as 2,1, of sum at most " ++ decimal MAX_SQUARES_DEGREE))
    else if bytes_eq (codes "OP") name then codes "sum, tensor, dual or shift"
    else if bytes_eq (codes "workers") name then codes "a number from 1 to " ++ decimal MAX_WORKERS
    else if bytes_eq (codes "degrees") name then
    codes "a number from -" ++ (decimal MAX_SHIFT ++ (codes " to " ++ decimal MAX_SHIFT))
    else codes "a class s,t,i, as 1,2,0"

-- what stands in front of an option's name
abbrev pub mark : List ℕ → List ℕ
mark name =
    if is_in (codes "N" ∷ codes "S" ∷ codes "T" ∷ codes "W" ∷ codes "OP" ∷ []) name then [] else codes "--"

-- a word or an option that has to be something else
abbrev pub value_line : List ℕ → List ℕ → List ℕ
value_line name text =
    codes "ext: " ++ (mark name ++ (name ++ (codes " is " ++ (shown text ++ (codes ", and has to be " ++ (wanted name ++ codes "\n"))))))

-- the first of the texts that has to be something else
abbrev pub wrong_value : List ℕ → List (List ℕ) → Option (List ℕ)
wrong_value name [] = None
wrong_value name (text ∷ texts) = if is_right name text then wrong_value name texts else Some (value_line name text)

-- the first that has to be something else
abbrev pub first_wrong : List (List ℕ) → Given → Option (List ℕ)
first_wrong [] given = None
first_wrong (name ∷ names) given = option_or (wrong_value name (unwrap_or (given name) [])) (first_wrong names given)

-- ---- the forms of commands

-- which words a command of this name has; options that it may be without stand in brackets
abbrev pub form_of : List ℕ → Option (List ℕ)
form_of name =
    if bytes_eq (codes "sphere") name then
    Some (codes "sphere S T [--workers=W] [--save] [--live], or sphere S STEM --stems [--workers=W] with S + STEM at most 255")
    else if bytes_eq (codes "resolve") name then
    Some (codes "resolve S T [--workers=W] [--save] [--live], or resolve S STEM --stems [--workers=W] with S + STEM at most 255")
    else if bytes_eq (codes "dump") name then
    Some (codes "dump S T [--workers=W] [--save], or dump S STEM --stems [--workers=W] with S + STEM at most 255")
    else if bytes_eq (codes "products") name then
    Some (codes "products S T --by=s,t,i [--by=s,t,i ..] [--workers=W] [--save], or products S STEM --by=s,t,i [--by=s,t,i ..] --stems [--workers=W] with S + STEM at most 255")
    else if bytes_eq (codes "massey") name then Some (codes "massey S T --a=s,t,i --b=s,t,i --c=s,t,i [--workers=W] [--save]")
    else if bytes_eq (codes "product") name then Some (codes "product --a=s,t,i --x=s,t,i [--workers=W]")
    else if bytes_eq (codes "bracket") name then Some (codes "bracket --a=s,t,i --b=s,t,i --c=s,t,i [--workers=W]")
    else if bytes_eq (codes "check") name then Some (codes "check")
    else if bytes_eq (codes "build") name then Some (codes "build sum, build tensor, build dual or build shift --degrees=N")
    else if bytes_eq (codes "sample") name then
    Some (codes "sample N S T [--workers=W] [--save], or sample N S STEM --stems [--workers=W] with S + STEM at most 255")
    else if bytes_eq (codes "sq") name then Some (codes "sq W")
    else if bytes_eq (codes "migrate") name then Some (codes "migrate")
    else if bytes_eq (codes "verify") name then Some (codes "verify S T")
    else if bytes_eq (codes "table") name then
    Some (codes "table S T [--by=s,t,i ..] [--workers=W], or table S STEM --stems [--by=s,t,i ..] [--workers=W] with S + STEM at most 255")
    else None

-- words that have not the command's form
abbrev pub form_line : List ℕ → List ℕ
form_line form = codes "ext: the form is " ++ (form ++ codes "\n")

abbrev pub commands_text : List ℕ
commands_text = codes "sphere, resolve, dump, products, massey, product, bracket, check, build, sample, sq, migrate, verify and table"

abbrev pub no_command_line : List ℕ
no_command_line = codes "ext: no command; the commands are " ++ (commands_text ++ codes "\n")

abbrev pub unknown_line : List ℕ → List ℕ
unknown_line name = codes "ext: " ++ (shown name ++ (codes " is no command; the commands are " ++ (commands_text ++ codes "\n")))

-- ---- the line on words

-- what is wrong with a command's words: they have not its form, or, where they are read as that, the first that has to be something else
abbrev pub wrong_with : List ℕ → Option Given → List ℕ
wrong_with form given = unwrap_or (option_and_then (first_wrong value_names) given) (form_line form)

-- what is wrong with words of which the first is this one
abbrev pub wrong_under : List ℕ → Option Given → List ℕ
wrong_under name given = unwrap_or (option_map (λ form. wrong_with form given) (form_of name)) (unknown_line name)

abbrev pub wrong_of : List (List ℕ) → List ℕ
wrong_of [] = no_command_line
wrong_of (name ∷ words) = wrong_under name (given_of (name ∷ words))

-- what is wrong with words that are outside the grammar; nothing is with those that give a command
abbrev pub remark_of : List (List ℕ) → Option (List ℕ)
remark_of words = if is_some (command_of words) then None else Some (wrong_of words)

-- ---- the line on classes

-- a class as a line shows it
abbrev pub class_text : Class → List ℕ
class_text class =
    codes "(" ++ (decimal class.s ++ (codes "," ++ (signed_decimal class.t ++ (codes "," ++ (decimal class.i ++ codes ")")))))

-- that a class, which has this text, lies past the range
abbrev pub past_with : List ℕ → List ℕ → Range → List ℕ
past_with name class range =
    codes "ext: " ++ (name ++ (codes " " ++ (class ++ (codes " is past the range, which ends in row " ++ (decimal range.s
    ++ (codes " and in degree " ++ (decimal range.t ++ codes " above the bottom\n")))))))

abbrev pub past_line : Bool → List ℕ → Range → Class → Option (List ℕ)
past_line is_past name range class = if is_past then Some (past_with name (class_text class) range) else None

-- a class of the sphere, whose degrees are counted from 0
abbrev pub sphere_line : List ℕ → Range → Class → Option (List ℕ)
sphere_line name range class = past_line (nat_lt range.s class.s || not (int_le class.t (pos range.t))) name range class

-- a class of a module, of which words say nothing but that its row is past the last
abbrev pub module_line : List ℕ → Range → Class → Option (List ℕ)
module_line name range class = past_line (nat_lt range.s class.s) name range class

-- the first of the classes of the sphere that lies past the range
abbrev pub products_line : Range → List Class → Option (List ℕ)
products_line range [] = None
products_line range (by ∷ others) = option_or (sphere_line (codes "by") range by) (products_line range others)

-- the first class of a bracket that lies past the range
abbrev pub bracket_line : Range → Class → Class → Class → Option (List ℕ)
bracket_line range a b c = option_or (sphere_line (codes "a") range a)
    (option_or (sphere_line (codes "b") range b) (module_line (codes "c") range c))

-- the first class of a command that lies past the range
abbrev pub class_line : Command → Option (List ℕ)
class_line (Products common by) = products_line common.range by
class_line (Massey common a b c) = bracket_line common.range a b c
class_line (Table common by) = products_line common.range by
class_line _ = None

abbrev pub remark_on_classes : List (List ℕ) → Option (List ℕ)
remark_on_classes words = option_and_then class_line (command_of words)
