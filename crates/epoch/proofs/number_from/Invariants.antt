-- The number of the digits from here on, behind what was read, is that of all of them.
use Rattle.std.proofs.Common.{◌≡◌, ◌*◌, ◌^◌, ◌<◌, drop}
use Rattle.format.specs.Epochs.{number_from}
use Rattle.epoch.proofs.number_from.Given as goal

abbrev pub invariant-loop-b : goal.invariant-loop-b
invariant-loop-b l = (number_from l.v l.digits ≡ number_from l.n (drop l.b-index l.digits)) × (l.n < 10000 * 10 ^ l.b-index)
