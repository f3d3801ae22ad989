-- Lists with one element for each of another.
use Rattle.std.proofs.Common.{◌≡◌, List, [], ◌∷◌, ◌++◌, refl}
use Rattle.std.specs.List.{All}
use Rattle.std.proofs.lemmas.List.Elements.{All-head, All-tail}
use Rattle.ext_products.specs.Products.{OneEach}

pub OneEach-append : {A B : Type 0} (R : A → B → Type 0) (xs ys : List A) (us vs : List B) → OneEach R xs us → OneEach R ys vs → OneEach R (xs ++ ys) (us ++ vs)
OneEach-append R [] ys [] vs h k = k
OneEach-append R [] ys (u ∷ us) vs h k = absurd h
OneEach-append R (x ∷ xs) ys [] vs h k = absurd h
OneEach-append R (x ∷ xs) ys (u ∷ us) vs h k = (h.0, OneEach-append R xs ys us vs h.1 k)

-- another relation, where the first list's elements have P
pub OneEach-all : {A B : Type 0} (P : A → Type 0) (R S : A → B → Type 0) → ((x : A) (y : B) → P x → R x y → S x y) → (xs : List A) (ys : List B) → All P xs → OneEach R xs ys → OneEach S xs ys
OneEach-all P R S f [] [] all h = tt
OneEach-all P R S f [] (y ∷ ys) all h = absurd h
OneEach-all P R S f (x ∷ xs) [] all h = absurd h
OneEach-all P R S f (x ∷ xs) (y ∷ ys) all h = (f x y (All-head P x xs all) h.0, OneEach-all P R S f xs ys (All-tail P x xs all) h.1)

pub OneEach-map : {A B : Type 0} (R S : A → B → Type 0) → ((x : A) (y : B) → R x y → S x y) → (xs : List A) (ys : List B) → OneEach R xs ys → OneEach S xs ys
OneEach-map R S f [] [] h = tt
OneEach-map R S f [] (y ∷ ys) h = absurd h
OneEach-map R S f (x ∷ xs) [] h = absurd h
OneEach-map R S f (x ∷ xs) (y ∷ ys) h = (f x y h.0, OneEach-map R S f xs ys h.1)

pub OneEach-unique : {A B : Type 0} (R : A → B → Type 0) → ((x : A) (y z : B) → R x y → R x z → y ≡ z) → (xs : List A) (ys zs : List B) → OneEach R xs ys → OneEach R xs zs → ys ≡ zs
OneEach-unique R one [] [] [] h k = refl
OneEach-unique R one [] [] (z ∷ zs) h k = absurd k
OneEach-unique R one [] (y ∷ ys) zs h k = absurd h
OneEach-unique R one (x ∷ xs) [] zs h k = absurd h
OneEach-unique R one (x ∷ xs) (y ∷ ys) [] h k = absurd k
OneEach-unique R one (x ∷ xs) (y ∷ ys) (z ∷ zs) h k =
    let first : y ≡ z = one x y z h.0 k.0 in
    let rest : ys ≡ zs = OneEach-unique R one xs ys zs h.1 k.1 in
    cc

pub OneEach-made : {A B : Type 0} (P : A → Type 0) (R : A → B → Type 0) → ((x : A) → P x → (y : B) × R x y) → (xs : List A) → All P xs → (ys : List B) × OneEach R xs ys
OneEach-made P R make [] all = ([], tt)
OneEach-made P R make (x ∷ xs) all =
    let first = make x (All-head P x xs all) in
    let rest = OneEach-made P R make xs (All-tail P x xs all) in
    (first.0 ∷ rest.0, (first.1, rest.1))
