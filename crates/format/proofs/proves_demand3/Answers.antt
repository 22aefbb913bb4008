use Rattle.format.proofs.Demand3.{demand3}
use Rattle.format.proofs.proves_demand3.Goals as goal

pub returns : goal.returns
returns c = demand3
