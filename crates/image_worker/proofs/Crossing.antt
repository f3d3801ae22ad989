-- Stocks of images may go to any thread, and any thread may share what squares are made from.
use denote.Param.Send.{IsSend, IsSync, sendable}
use Rattle.std.proofs.Crossing.{crosses}
use Rattle.f2_vec.proofs.Crossing.{BitVec-send, BitVec-sync}
use Rattle.milnor_basis.proofs.Crossing.{Basis-send, Basis-sync}
use Rattle.finite_module.proofs.Crossing.{Module-send, Module-sync}
use Rattle.f2_kernel.specs.contracts.kernel.Kernel as Kernel
use Rattle.free_module.specs.contracts.gens.Gens as Gens
use Rattle.resolution_images.specs.contracts.row.Row as Row
use Rattle.image_worker.specs.contracts.inputs.ImageInputs as ImageInputs
use Rattle.image_worker.specs.contracts.inputs.MadeImages as MadeImages
use Rattle.image_worker.specs.contracts.stock.ImageStock as ImageStock

Kernel-send : IsSend Kernel.the_row
Kernel-send = search (crosses, sendable, BitVec-send) depth 20

Kernel-sync : IsSync Kernel.the_row
Kernel-sync = search (crosses, sendable, BitVec-sync) depth 20

Gens-send : IsSend Gens.the_row
Gens-send = search (crosses, sendable) depth 20

Gens-sync : IsSync Gens.the_row
Gens-sync = search (crosses, sendable) depth 20

Row-send : IsSend Row.the_row
Row-send = search (crosses, sendable, Gens-send, BitVec-send) depth 20

Row-sync : IsSync Row.the_row
Row-sync = search (crosses, sendable, Gens-sync, BitVec-sync) depth 20

pub ImageInputs-send : IsSend ImageInputs.the_row
ImageInputs-send = search (crosses, sendable, Row-send, Gens-send, Kernel-send, Kernel-sync, Module-send, Module-sync, Basis-send, Basis-sync) depth 20

pub MadeImages-send : IsSend MadeImages.the_row
MadeImages-send = search (crosses, sendable, BitVec-send, Kernel-send, Kernel-sync) depth 20

pub ImageStock-send : IsSend ImageStock.the_row
ImageStock-send = search (crosses, sendable, Row-send, Kernel-send, Kernel-sync, Module-send, Module-sync, Basis-send, Basis-sync) depth 20
