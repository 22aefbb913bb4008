use Rattle.format.proofs.Demand2.{demand2}
use Rattle.format.proofs.proves_demand2.Goals as goal

pub returns : goal.returns
returns c = demand2
