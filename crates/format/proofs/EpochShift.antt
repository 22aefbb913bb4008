-- An epoch shift does what it promises.
use Rattle.std.specs.Prelude.{refl, ◌≤◌, ℤ, nat_abs}
use Rattle.std.proofs.Common.{subst}
use Rattle.format.specs.Figures.{coordinate_limit, difference_limit, motion_limit}
use Rattle.format.specs.Epochs.{position_of, difference_of, moved_of, yearly_of, Inside}
use Rattle.format.proofs.Laws.Epochs.{epoch_uri}
use Rattle.format.proofs.Laws.Shifts.{Done, shot_done, inside, moved_along, position_size_lem, product_size_lem, point_size_lem, motion_size_lem, shot_laid}
use Rattle.format.specs.EpochShift.{Moves, Shifts, ShiftsHold}

moves : (p m d : ℤ) → nat_abs p ≤ coordinate_limit → nat_abs m ≤ motion_limit → nat_abs d ≤ difference_limit → Moves p m d (moved_of p m d) (yearly_of m)
moves p m d hp hm hd =
    record {
      yearly = refl;
      along = moved_along p m d;
      position_size = position_size_lem p m d hp hm hd;
      product_size = product_size_lem p m d hp hm hd;
      point_size = point_size_lem p m d hp hm hd;
      motion_size = motion_size_lem p m d hp hm hd;
    }

-- any URI, data, asked epoch and motion
pub shifts : ShiftsHold
shifts u d asked m s e =
    let w : Done u d asked m s = shot_done u d asked m s e in
    let i : Inside (position_of d) (difference_of asked w.epoch) m = inside (position_of d) (difference_of asked w.epoch) m w.is_inside in
    subst (Shifts u d asked m) w.is_shot
    (record {
      epoch_named = epoch_uri u w.epoch w.is_named;
      bytes_laid = shot_laid d w.is_long;
      moves_x = moves (position_of d).x m.x (difference_of asked w.epoch) i.coordinates.size_x i.motions.size_x i.apart;
      moves_y = moves (position_of d).y m.y (difference_of asked w.epoch) i.coordinates.size_y i.motions.size_y i.apart;
      moves_z = moves (position_of d).z m.z (difference_of asked w.epoch) i.coordinates.size_z i.motions.size_z i.apart;
    })
