use Rattle.sphere.proofs.Sized.{sphere_sized}
use Rattle.sphere.proofs.whole.sphere_sizes.Goals as goal

pub returns : goal.returns
returns c = sphere_sized c.args.o.n c.args.o.k c.args.o.two_stacks
