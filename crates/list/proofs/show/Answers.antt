use mathlib.Core.Path.{ap}
use native.Mathlib.Omega.{arith}
use Rattle.std.proofs.Common.{ℕ, length-take}
use Rattle.std.proofs.lemmas.Result.{err_from_is_err_and}
use Rattle.format.specs.Reading.{Reading}
use Rattle.list.specs.HandingLaws.{stands_start, filled_inside_buffer, filled_next, filled_handed, handed_failed, handed_last, handed_on, handed_passes}
use Rattle.list.proofs.show.Goals as goal

pub loop-init : goal.loop-init
loop-init g c = let n = c.nothing-handed.ensures in
    let r = c.fresh-reading.ensures in (
      rw (n, r) (stands_start c.args.file.now),
      omega (arith, n),
      omega arith,
      omega (arith, ap (λ (x : Reading). x.position) r),
    )

pub slice_bounds-out-end : goal.slice_bounds-out-end
slice_bounds-out-end g c = let f = c.fill-lines in
    omega (arith, filled_inside_buffer c.loop.invariant.0 c.loop.out c.loop-test.array_long f.auto.out f.ensures)

pub slice_bounds-hand_over-end : goal.slice_bounds-hand_over-end
slice_bounds-hand_over-end g c = let f = c.fill-lines in
    omega (arith, length-take {A = ℕ}, filled_inside_buffer c.loop.invariant.0 c.loop.out c.loop-test.array_long f.auto.out f.ensures)

pub hand_over-requires : goal.hand_over-requires
hand_over-requires g c = let f = c.fill-lines in
    filled_next c.loop.invariant.0 c.loop.out c.loop-test.array_long f.auto.out f.ensures f.result.len (omega arith)

pub returns-in_err-handed : goal.returns-in_err-handed
returns-in_err-handed g c = let i = c.loop.invariant.0 in
    let f = c.fill-lines in
    let p = err_from_is_err_and c.from_residual.result c.from_residual.ensures.1 in
    rw (p.1, p.2) (handed_failed i c.in_err-handed.ensures (filled_next i c.loop.out c.loop-test.array_long f.auto.out f.ensures f.result.len (omega arith)))

pub loop-preserved : goal.loop-preserved
loop-preserved g c = let i = c.loop.invariant in
    let f = c.fill-lines in
    let h = filled_handed i.0 c.loop.out c.loop-test.array_long f.auto.out f.ensures c.in_ok-handed.ensures in
    let p = handed_passes i.0 h c.if-lines.false in (
      handed_on i.0 h c.if-lines.false (omega (arith, h.count, h.fits, i.1)),
      omega (arith, h.count, h.fits, i.1),
      omega (arith, p.0, i.2),
      p.1,
    )

pub returns-after-loop : goal.returns-after-loop
returns-after-loop g c = absurd (omega arith)

pub returns-then-lines : goal.returns-then-lines
returns-then-lines g c = let i = c.loop.invariant.0 in
    let f = c.fill-lines in
    let h = filled_handed i c.loop.out c.loop-test.array_long f.auto.out f.ensures c.in_ok-handed.ensures in
    handed_last i h c.if-lines.true
