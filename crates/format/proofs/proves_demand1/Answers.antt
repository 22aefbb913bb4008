use Rattle.format.proofs.Demand1.{demand1}
use Rattle.format.proofs.proves_demand1.Goals as goal

pub returns : goal.returns
returns c = demand1
