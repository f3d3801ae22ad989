-- A module may go to any thread, and any thread may share it.
use denote.Param.Send.{IsSend, IsSync, sendable}
use Rattle.std.proofs.Crossing.{crosses}
use Rattle.f2_vec.proofs.Crossing.{BitVec-send, BitVec-sync}
use Rattle.milnor_basis.proofs.Crossing.{Basis-send, Basis-sync}
use Rattle.finite_module.specs.contracts.generators.Generator as Generator
use Rattle.finite_module.specs.contracts.generators.Generators as Generators
use Rattle.finite_module.specs.contracts.operators.Operator as Operator
use Rattle.finite_module.specs.contracts.operators.Operators as Operators
use Rattle.finite_module.specs.contracts.finite_module.Module as Module

Generator-send : IsSend Generator.the_row
Generator-send = search (crosses, sendable) depth 20

Generator-sync : IsSync Generator.the_row
Generator-sync = search (crosses, sendable) depth 20

Generators-send : IsSend Generators.the_row
Generators-send = search (crosses, sendable, Generator-send) depth 20

Generators-sync : IsSync Generators.the_row
Generators-sync = search (crosses, sendable, Generator-sync) depth 20

Operator-send : IsSend Operator.the_row
Operator-send = search (crosses, sendable, BitVec-send) depth 20

Operator-sync : IsSync Operator.the_row
Operator-sync = search (crosses, sendable, BitVec-sync) depth 20

Operators-send : IsSend Operators.the_row
Operators-send = search (crosses, sendable, Generators-send, Basis-send, Operator-send) depth 20

Operators-sync : IsSync Operators.the_row
Operators-sync = search (crosses, sendable, Generators-sync, Basis-sync, Operator-sync) depth 20

pub Module-send : IsSend Module.the_row
Module-send = search (crosses, sendable, Operators-send) depth 20

pub Module-sync : IsSync Module.the_row
Module-sync = search (crosses, sendable, Operators-sync) depth 20
