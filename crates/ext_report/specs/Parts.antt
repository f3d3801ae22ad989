-- The parts of a line, which are written one behind the other.
use Rattle.std.specs.Prelude.{ℕ, zero, suc, ℤ, pos, Bool, true, false, List, [], ◌∷◌, ◌++◌, codes, decimal}
use Rattle.std.specs.Fmt.{signed_decimal}
use Rattle.std.specs.List.{flat_map}
use Rattle.hex.specs.Hex.{encode_lower}
use Rattle.milnor_basis.specs.Text.{comma, sq_text}
use Rattle.ext_chart.specs.Classes.{class_text, class_sum_text}
use Rattle.ext_report.specs.declared.writing.Part.{Part}
use Rattle.ext_report.specs.declared.writing.Part.TheVariants.{Text, Number, Square, Digest, Class, Place, Sum, Nothing}

-- the place of a square as `(s,t)`
abbrev pub square_place : ℤ → ℤ → List ℕ
square_place s t = codes "(" ++ (signed_decimal s ++ (codes "," ++ (signed_decimal t ++ codes ")")))

abbrev pub part_text : Part → List ℕ
part_text (Text bytes) = bytes.now
part_text (Number n) = decimal n
part_text (Square r) = sq_text r.now
part_text (Digest digest) = encode_lower digest.now
part_text (Class c) = class_text (pos c.s) c.t c.i
part_text (Place s t) = square_place s t
part_text (Sum s t v) = class_sum_text s t v.now
part_text Nothing = []

abbrev pub parts_text : List Part → List ℕ
parts_text parts = flat_map part_text parts

-- what stands before exponent i of Sq(R)
abbrev pub separator : ℕ → List ℕ
separator zero = []
separator (suc i) = comma ∷ []

-- what stands before a term of a sum, where there is one before it
abbrev pub plus : Bool → List ℕ
plus false = []
plus true = codes " + "
