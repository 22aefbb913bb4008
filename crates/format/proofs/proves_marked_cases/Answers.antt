use Rattle.format.proofs.MarkedCases.{marked}
use Rattle.format.proofs.proves_marked_cases.Goals as goal

pub returns : goal.returns
returns c = marked
