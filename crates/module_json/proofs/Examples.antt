-- The definition on small examples.
use Rattle.std.specs.Prelude.{◌≡◌, [], ◌∷◌, pos, Ok, Err, Some, None, codes, refl}
use Rattle.serde_json.specs.Data.{Data, null, string, number, unsigned, array, object, no_items, item, no_members, member}
use Rattle.module_json.specs.Actions.{action_of}
use Rattle.module_json.specs.ModuleFile.{file_of}
use Rattle.module_json.specs.declared.malformed.Malformed.TheVariants.{Action, Shape}
use Rattle.module_json.specs.declared.malformed.Place.TheVariants.{Profile}
use Rattle.module_json.specs.declared.malformed.Why.TheVariants.{WrongDegree, SquareZero, Unknown}

-- two cells, one degree apart, and one action
abbrev cells : Data → Data
cells action = object (member (codes "actions") (array (item action no_items)) (member (codes "gens") (object (member (codes "x0") (number (unsigned 0)) (member (codes "x1") (number (unsigned 1)) no_members))) (member (codes "type") (string (codes "finite dimensional module")) no_members)))

pub spaced_action : action_of (codes "  Sq1  x0=x1 ") ≡ Some (record { n = 1; name = codes "x0"; sum = codes "x1" ∷ [] })
spaced_action = refl

pub no_sum : action_of (codes "Sq1 x0 = ") ≡ None
no_sum = refl

pub one_action : file_of (cells (string (codes "Sq1 x0 = x1"))) ≡ Ok (record { generators = record { name = codes "x0"; degree = pos 0 } ∷ record { name = codes "x1"; degree = pos 1 } ∷ []; entries = record { n = 1; generator = 0; sum = 1 ∷ [] } ∷ [] })
one_action = refl

pub cancelled : file_of (cells (string (codes "Sq1 x0 = x1 + x1"))) ≡ Ok (record { generators = record { name = codes "x0"; degree = pos 0 } ∷ record { name = codes "x1"; degree = pos 1 } ∷ []; entries = record { n = 1; generator = 0; sum = [] } ∷ [] })
cancelled = refl

pub wrong_degree : file_of (cells (string (codes "Sq2 x0 = x1"))) ≡ Err (Action 0 WrongDegree)
wrong_degree = refl

pub unknown : file_of (cells (string (codes "Sq1 x0 = z"))) ≡ Err (Action 0 Unknown)
unknown = refl

pub square_zero : file_of (cells (string (codes "Sq0 x0 = x0"))) ≡ Err (Action 0 SquareZero)
square_zero = refl

pub over_a_subalgebra : file_of (object (member (codes "gens") (object no_members) (member (codes "milnor_actions") null (member (codes "profile") null (member (codes "type") (string (codes "finite dimensional module")) no_members))))) ≡ Err (Shape Profile)
over_a_subalgebra = refl
