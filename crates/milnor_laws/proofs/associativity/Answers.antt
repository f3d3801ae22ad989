use Rattle.milnor_laws.proofs.Associative.{product_is_associative}
use Rattle.milnor_laws.proofs.Vectors.{product_acts, product_is_associative_in_vectors}
use Rattle.milnor_laws.proofs.associativity.Goals as goal

pub returns : goal.returns
returns c = record { terms = product_is_associative; vectors = product_is_associative_in_vectors; action = product_acts }
