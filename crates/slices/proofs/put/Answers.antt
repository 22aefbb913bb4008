use Rattle.std.proofs.Common.{sym}
use Rattle.format.proofs.Laws.Bytes.{stored_none}
use Rattle.slices.specs.Slices.{put_at}
use Rattle.slices.proofs.put.Goals as goal

pub loop-i-init : goal.loop-i-init
loop-i-init c = sym (stored_none _ _)

pub loop-i-preserved : goal.loop-i-preserved
loop-i-preserved c = rw c.loop-i.invariant (put_at c.args.d.now c.args.s.now c.args.place c.loop-i.i c.requires c.loop-i-test.true)
