use Rattle.format.proofs.SlowReading.{slow_reading}
use Rattle.format.proofs.proves_slow_reading.Goals as goal

pub returns : goal.returns
returns c = slow_reading
