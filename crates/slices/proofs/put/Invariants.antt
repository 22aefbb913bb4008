-- What is stored so far is the first i bytes of s; each turn stores one byte more behind them.
use Rattle.std.proofs.Common.{◌≡◌, take}
use Rattle.format.specs.Bytes.{stored}
use Rattle.slices.proofs.put.Given as goal

abbrev pub invariant-loop-i : goal.invariant-loop-i
invariant-loop-i l = l.d ≡ stored l.initial.d l.place (take l.i l.s)
