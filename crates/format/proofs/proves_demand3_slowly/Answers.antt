use Rattle.format.proofs.Demand3.{demand3_slowly}
use Rattle.format.proofs.proves_demand3_slowly.Goals as goal

pub returns : goal.returns
returns c = demand3_slowly
