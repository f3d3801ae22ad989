-- What holds of the reading of bodies.
use Rattle.std.specs.Prelude.{◌≡◌, ℕ, ◌<◌, ◌^◌, List, None, Some, IfSome, Ok, length}
use Rattle.resolution_laws.specs.Resolution.{Module}
use Rattle.resolution_laws.specs.Start.{Entry}
use Rattle.save_file.specs.Bodies.{Body, body_bytes, Kept, kept_in, HasRules, Addition, addition_bytes, HasAdditionRules}
use Rattle.save_file.specs.Reading.{square_in, addition_in, kept_of_bodies, squares_of}
use Rattle.save_file.specs.Saved.{IsClosed}

-- the dimensions of a body, and the number of its image rows, fit the eight bytes of their numbers
pub record FitNumbers (b : Body) : Type 0 where
  pub target : b.images.cols < 2 ^ 64
  pub source : b.kernel.cols < 2 ^ 64
  pub image : IfSome b.quasi (λ p. length p.image < 2 ^ 64)

pub record AdditionFits (a : Addition) : Type 0 where
  pub target : a.cols < 2 ^ 64
  pub source : a.height < 2 ^ 64
  pub image : length a.preimages.image < 2 ^ 64

-- bytes are read as the square of a body with the rules
pub record IsReading (m : Module) (list : List Entry) (bytes : List ℕ) (k : Kept) : Type 0 where
  pub body : Body
  pub bytes_are : bytes ≡ body_bytes body
  pub rules : HasRules m list body
  pub square : k ≡ kept_in body

abbrev pub WhatIsReadHasTheRules : Type 0
WhatIsReadHasTheRules = (m : Module) (list : List Entry) (bytes : List ℕ) (k : Kept) →
    square_in m list bytes ≡ Some k → IsReading m list bytes k

-- each body with the rules is read as its square
abbrev pub EachBodyIsRead : Type 0
EachBodyIsRead = (m : Module) (list : List Entry) (b : Body) → HasRules m list b → FitNumbers b →
    square_in m list (body_bytes b) ≡ Some (kept_in b)

-- bytes are read, behind what is kept, as the quasi-inverse of a body with the rules
pub record IsReadingQuasi (m : Module) (kept : List Kept) (bytes : List ℕ) (a : Addition) : Type 0 where
  pub bytes_are : bytes ≡ addition_bytes a
  pub rules : HasAdditionRules m kept a

abbrev pub WhatIsAddedHasTheRules : Type 0
WhatIsAddedHasTheRules = (m : Module) (bodies : List (List ℕ)) (kept : List Kept) (bytes : List ℕ) (a : Addition) →
    kept_of_bodies m bodies ≡ Ok kept → addition_in m kept bytes ≡ Some a → IsReadingQuasi m kept bytes a

-- each body of a quasi-inverse with the rules is read as it
abbrev pub EachAdditionIsRead : Type 0
EachAdditionIsRead = (m : Module) (kept : List Kept) (a : Addition) → HasAdditionRules m kept a → AdditionFits a →
    addition_in m kept (addition_bytes a) ≡ Some a

-- a square with its quasi-inverse has one body, and so has one without, and a quasi-inverse
abbrev pub BodyIsUnique : Type 0
BodyIsUnique = (m : Module) (list : List Entry) (xs ys : List ℕ) (k : Kept) → square_in m list xs ≡ Some k →
    square_in m list ys ≡ Some k → xs ≡ ys

abbrev pub AdditionIsUnique : Type 0
AdditionIsUnique = (m : Module) (kept : List Kept) (xs ys : List ℕ) (a : Addition) → addition_in m kept xs ≡ Some a →
    addition_in m kept ys ≡ Some a → xs ≡ ys

-- no bytes are a square and a quasi-inverse
abbrev pub KindsAreApart : Type 0
KindsAreApart = (m : Module) (list : List Entry) (kept : List Kept) (bytes : List ℕ) (k : Kept) →
    square_in m list bytes ≡ Some k → addition_in m kept bytes ≡ None

-- the squares of a list of bodies stand behind those that they stand on
abbrev pub SquaresAreClosed : Type 0
SquaresAreClosed = (m : Module) (bodies : List (List ℕ)) (list : List Entry) → squares_of m bodies ≡ Ok list →
    IsClosed list
