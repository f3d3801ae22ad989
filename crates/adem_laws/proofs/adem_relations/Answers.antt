use Rattle.adem_laws.proofs.Binomials.{adem_binomials}
use Rattle.adem_laws.proofs.Products.{adem_relations}
use Rattle.adem_laws.proofs.adem_relations.Goals as goal

pub returns : goal.returns
returns c = record { relations = adem_relations; binomials = adem_binomials }
