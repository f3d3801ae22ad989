-- The checks of a module file before its generators and actions: what each one refuses.
use Rattle.std.specs.Prelude.{ℕ, ◌==◌, ◌||◌, ◌≡◌, ◌≢◌, Bool, true, false, nat_le, ◌+◌, List, [], ◌∷◌, length, Option, Some, None, option_and_then, codes, bytes_eq, IsUtf8, Result, Ok, Err}
use Rattle.std.specs.Option.{option_or}
use Rattle.serde_json.specs.Data.{Data, Items, no_items, item, Members, no_members, member}
use Rattle.serde_json.specs.Find.{as_number, as_str, as_array, as_object, as_u64, get}
use Rattle.serde_json.specs.Read.{read}
use Rattle.module_spec.specs.declared.limits.TheConstants.{MAX_FILE_BYTES, MAX_GENERATORS, MAX_ACTIONS}
use Rattle.module_json.specs.declared.malformed.Malformed.{Malformed}
use Rattle.module_json.specs.declared.malformed.Malformed.TheVariants.{Limit, Json, Shape, Kind as OtherKind, Prime as OtherPrime, Memory}
use Rattle.module_json.specs.declared.malformed.Place.{Place}
use Rattle.module_json.specs.declared.malformed.What.TheVariants.{Bytes, Gens as ManyGens, Actions as ManyActions}
use Rattle.module_json.specs.declared.malformed.Place.TheVariants.{Whole, Kind, Cofiber, Shift, Profile, AdemActions, MilnorActions, Prime, Gens, Actions}

-- The bytes are a JSON text, with this value.
pub record IsJson (bytes : List ℕ) (d : Data) : Type 0 where
  pub is_text : IsUtf8 bytes
  pub reads : read bytes ≡ Some d

-- What a call answers that refuses so; it may also run out of memory.
abbrev pub RefusesBy : {A : Type 0} → Result A Malformed → Option Malformed → Type 0
RefusesBy (Ok a) r = r ≡ None
RefusesBy (Err e) r = e ≢ Memory → r ≡ Some e

-- What a call answers whose answer this is; it may also run out of memory.
abbrev pub Answers : {A : Type 0} → Result A Malformed → Result A Malformed → Type 0
Answers (Ok a) r = r ≡ Ok a
Answers (Err e) r = e ≢ Memory → r ≡ Err e

-- nothing is refused where a value is there
abbrev pub unless_there : {A : Type 0} → Malformed → Option A → Option Malformed
unless_there e None = Some e
unless_there e (Some a) = None

abbrev pub unless_absent : {A : Type 0} → Malformed → Option A → Option Malformed
unless_absent e None = None
unless_absent e (Some a) = Some e

abbrev pub unless : Bool → Malformed → Option Malformed
unless true e = None
unless false e = Some e

-- the first refusal of a list
abbrev pub first_of : List (Option Malformed) → Option Malformed
first_of [] = None
first_of (r ∷ rs) = option_or r (first_of rs)

abbrev pub size_refusal : List ℕ → Option Malformed
size_refusal bytes = unless (nat_le (length bytes) MAX_FILE_BYTES) (Limit Bytes)

-- What bytes are: too many, no JSON text, or a value.
pub data IsValueOf (bytes : List ℕ) : Result Data Malformed → Type 0 where
  too_long : (e : Malformed) → size_refusal bytes ≡ Some e → IsValueOf bytes (Err e)
  no_json : size_refusal bytes ≡ None → ((d : Data) → IsJson bytes d → ⊥) → IsValueOf bytes (Err Json)
  value : size_refusal bytes ≡ None → (d : Data) → IsJson bytes d → IsValueOf bytes (Ok d)

abbrev pub whole_refusal : Data → Option Malformed
whole_refusal d = unless_there (Shape Whole) (as_object d)

-- the text under a key
abbrev pub text_at : List ℕ → Data → Option (List ℕ)
text_at key d = option_and_then as_str (get key d)

-- a file that lists generators and actions
abbrev pub is_listed_type : List ℕ → Bool
is_listed_type text = bytes_eq text (codes "finite dimensional module")

abbrev pub is_space_type : List ℕ → Bool
is_space_type text = bytes_eq text (codes "real projective space")

-- There are two types of module file.
abbrev pub kind_of_text : Option (List ℕ) → Option Malformed
kind_of_text None = Some (Shape Kind)
kind_of_text (Some text) = unless (is_listed_type text || is_space_type text) OtherKind

abbrev pub kind_refusal : Data → Option Malformed
kind_refusal d = kind_of_text (text_at (codes "type") d)

-- nothing may stand under a key
abbrev pub absent_refusal : List ℕ → Place → Data → Option Malformed
absent_refusal key at d = unless_absent (Shape at) (get key d)

-- Keys of other programs' files, which describe another module than the generators and actions alone: the cofibre of a class, other
-- degrees, a module over a subalgebra, actions in two bases. A file with one of them is refused, whatever stands under it.
abbrev pub keys_refusal : Data → Option Malformed
keys_refusal d = first_of (absent_refusal (codes "cofiber") Cofiber d ∷ absent_refusal (codes "shift") Shift d
    ∷ absent_refusal (codes "profile") Profile d ∷ absent_refusal (codes "adem_actions") AdemActions d
    ∷ absent_refusal (codes "milnor_actions") MilnorActions d ∷ [])

abbrev pub prime_of_number : Option ℕ → Option Malformed
prime_of_number None = Some (Shape Prime)
prime_of_number (Some p) = unless (p == 2) (OtherPrime p)

abbrev pub prime_of_value : Option Data → Option Malformed
prime_of_value None = None
prime_of_value (Some d) = prime_of_number (option_and_then as_u64 (as_number d))

-- Whether the type is that of a real projective space.
abbrev pub is_space : Data → Bool
is_space d = is_type (text_at (codes "type") d)
  where
    is_type : Option (List ℕ) → Bool
    is_type None = false
    is_type (Some text) = is_space_type text

-- The prime may be left out.
abbrev pub prime_refusal : Data → Option Malformed
prime_refusal d = prime_of_value (get (codes "p") d)

-- The header of a module file, whatever its type: a JSON object, its type, the refused keys, and the prime, in this order.
abbrev pub header_refusal : Data → Option Malformed
header_refusal d =
    first_of (whole_refusal d ∷ kind_refusal d ∷ keys_refusal d ∷ prime_refusal d ∷ [])

abbrev pub members_count : Members → ℕ
members_count no_members = 0
members_count (member k d ms) = 1 + members_count ms

abbrev pub items_count : Items → ℕ
items_count no_items = 0
items_count (item d ds) = 1 + items_count ds

abbrev pub gens_of_value : Option Members → Option Malformed
gens_of_value None = Some (Shape Gens)
gens_of_value (Some ms) = unless (nat_le (members_count ms) MAX_GENERATORS) (Limit ManyGens)

abbrev pub gens_refusal : Data → Option Malformed
gens_refusal d = gens_of_value (option_and_then as_object (get (codes "gens") d))

abbrev pub actions_of_array : Option Items → Option Malformed
actions_of_array None = Some (Shape Actions)
actions_of_array (Some ds) = unless (nat_le (items_count ds) MAX_ACTIONS) (Limit ManyActions)

abbrev pub actions_of_value : Option Data → Option Malformed
actions_of_value None = None
actions_of_value (Some d) = actions_of_array (as_array d)

-- The actions may be left out.
abbrev pub actions_refusal : Data → Option Malformed
actions_refusal d = actions_of_value (get (codes "actions") d)
