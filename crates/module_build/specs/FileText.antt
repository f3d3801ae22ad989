-- The module file of a module: its generators, and the squares Sq^n, n a power of two, that are not zero.
use Rattle.std.specs.Prelude.{ℕ, pos, ◌+ℤ◌, Bool, ◌||◌, ◌==◌, if◌then◌else◌, List, [], ◌∷◌, ◌++◌, length, map, codes, decimal}
use Rattle.std.specs.Fmt.{signed_decimal}
use Rattle.std.specs.List.{flat_map, range_with_len, list_any}
use Rattle.module_spec.specs.Spec.{Generator, degree_at, powers}
use Rattle.finite_module.specs.Module.{Module}
use Rattle.finite_module.specs.Axioms.{value_of}
use Rattle.finite_module.specs.Text.{newline, name_at, sum_text}

-- a character in a text of JSON: a quotation mark and a backslash have one before them
abbrev pub escaped : ℕ → List ℕ
escaped c = if c == 34 || c == 92 then 92 ∷ c ∷ [] else c ∷ []

-- a text of visible characters and spaces, as JSON writes it
abbrev pub quoted : List ℕ → List ℕ
quoted text = codes "\"" ++ (flat_map escaped text ++ codes "\"")

-- texts with a comma between each two
abbrev pub joined_by_comma : List (List ℕ) → List ℕ
joined_by_comma [] = []
joined_by_comma (x ∷ []) = x
joined_by_comma (x ∷ y ∷ rest) = x ++ (codes "," ++ joined_by_comma (y ∷ rest))

-- `"x0":0`
abbrev pub member : Generator → List ℕ
member g = quoted g.name ++ (codes ":" ++ signed_decimal g.degree)

-- `Sq2 x0 = x2`
abbrev pub action_text : Module → ℕ → ℕ → List ℕ
action_text m i n = codes "Sq"
    ++ (decimal n
    ++ (codes " "
    ++ (name_at m.generators i
    ++ (codes " = " ++ sum_text m.generators (degree_at m.generators i +ℤ pos n) (value_of m (n ∷ []) i)))))

-- the action of Sq^n on generator i, where it is not zero
abbrev pub action_of_square : Module → ℕ → ℕ → List (List ℕ)
action_of_square m i n = if list_any (λ b. b) (value_of m (n ∷ []) i) then quoted (action_text m i n) ∷ [] else []

-- the actions, by generator and then by n
abbrev pub actions : Module → List (List ℕ)
actions m = flat_map (λ i. flat_map (action_of_square m i) powers) (range_with_len 0 (length m.generators))

abbrev pub file_text : Module → List ℕ
file_text m = codes "{\"type\":\"finite dimensional module\",\"p\":2,\"gens\":{"
    ++ (joined_by_comma (map member m.generators)
    ++ (codes "},\"actions\":[" ++ (joined_by_comma (actions m) ++ (codes "]}" ++ newline))))
