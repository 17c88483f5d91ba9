-- `assembly::Supernode::of` meets its contract. Assumes nothing.
use Rattle.views.specs.Shown.{shape_of}
use Rattle.assembly.proofs.Gather as gather
use Rattle.assembly.proofs.Supernode.of.Goals as goal

pub returns : goal.returns
returns c = gather.read (shape_of c.args.structure.now) c.args.k c.args.offsets.now c.requires
