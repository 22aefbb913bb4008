-- Number and place are the refusal's, all else the defaults: the doubles of 0 have the literal's bits.
use Rattle.std.proofs.Common.{◌∙◌, sym, ap}
use Rattle.epoch.proofs.DoubleLaws.{zero_double}
use Rattle.logbook_c.specs.Shifts.{refused_shift, shifted_from}
use Rattle.logbook_c.proofs.LogbookShiftedFromResultShiftedRefusal.from.Goals as goal

pub returns-in-Err : goal.returns-in-Err
returns-in-Err c = let h = c.default-in-Err.ensures in
    let t = c.from-t.result in
    (λ i. record {
      refusal = t.number;
      place = t.place.0;
      epoch = 0;
      position = record { x = h.1.1.1.0.0 i; y = h.1.1.1.0.1.0 i; z = h.1.1.1.0.1.1 i };
      point = record { x = (h.1.1.1.1.0.0 ∙ zero_double) i; y = (h.1.1.1.1.0.1.0 ∙ zero_double) i; z = (h.1.1.1.1.0.1.1 ∙ zero_double) i };
      motion = record { x = (h.1.1.1.1.1.0 ∙ zero_double) i; y = (h.1.1.1.1.1.1.0 ∙ zero_double) i; z = (h.1.1.1.1.1.1.1 ∙ zero_double) i };
    })
    ∙ ap refused_shift c.from-t.ensures ∙ ap shifted_from (sym c.in-Err.is)
