-- Texts of basis elements, by the definition.
use Rattle.std.proofs.Common.{◌≡◌, [], ◌∷◌, codes, refl}
use Rattle.std.specs.Fmt.{digits}
use Rattle.milnor_basis.specs.Text.{sq_text}

unit : sq_text [] ≡ codes "Sq()"
unit = refl

third : sq_text (0 ∷ 0 ∷ 1 ∷ []) ≡ codes "Sq(0,0,1)"
unfolding digits
third = refl

greatest : sq_text (1 ∷ 2 ∷ 3 ∷ 4 ∷ 5 ∷ 6 ∷ 7 ∷ 65535 ∷ []) ≡ codes "Sq(1,2,3,4,5,6,7,65535)"
unfolding digits
greatest = refl
