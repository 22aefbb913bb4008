-- The eight bytes' number is std's.
use Rattle.std.proofs.Common.{ap, ◌∙◌, arith, w64, to_z}
use Rattle.std.specs.Int.{from_be_bytes}
use Rattle.epoch.proofs.Bounds.{field_back}
use Rattle.epoch.proofs.Loops.{signed_bytes}
use Rattle.epoch.proofs.read_signed.Goals as goal

pub returns : goal.returns
returns c = let same = (rw c.unwrap.ensures at c.try_into.ensures.1) in
    field_back _ c.from_be_bytes.type_inv ∙ c.from_be_bytes.ensures ∙ ap (λ t. to_z w64 (from_be_bytes w64 t)) same.same
    ∙ signed_bytes c.args.bytes.now c.requires (λ i. omega (arith, c.type_inv.bytes i))
