-- Demand 2 is proved, of any buffer and used length; Laws/Lists is behind it.
use Rattle.format.proofs.Laws.Header.{digits_lower}
use Rattle.format.proofs.Laws.Lists.Shapes.{names_written}
use Rattle.format.proofs.Laws.Lists.Walking.{one_list_lem}
use Rattle.format.proofs.Laws.Lists.Steps.{reading_sound, reading_complete, entries_read}
use Rattle.format.proofs.Laws.Lists.Outcomes.{outcome}
use Rattle.format.proofs.Laws.Lists.Numbers.{numbers}
use Rattle.format.proofs.Laws.Lists.Places.{places_rise, erase_answers}
use Rattle.format.proofs.Laws.Lists.Shown.{step_shows, step_ends, step_row}
use Rattle.format.proofs.Laws.Lists.Declaring.{declares, reads_declare, one_declared_lem}
use Rattle.format.proofs.Laws.Lists.Erasing.{erase_exact, wipe_exact}
use Rattle.format.proofs.Laws.Lists.Adding.{append_exact, assign_exact}
use Rattle.format.proofs.Laws.Lists.Answering.{append_answers, assign_answers, wipe_answers}
use Rattle.format.proofs.Laws.Lists.Starting.{start_exact}
use Rattle.format.specs.Demand2.{Demand2Holds}

pub demand2 : Demand2Holds
demand2 b =
    record {
      names = names_written;
      sound_list = reading_sound b;
      whole_list = reading_complete b;
      one_list = λ es fs g h x y. one_list_lem x y;
      the_list = entries_read b;
      any_list = outcome b;
      places = places_rise b;
      numbers_up = λ n. numbers n b;
      shows = step_shows b;
      ends = step_ends b;
      rows = step_row b;
      declares = reads_declare b;
      declares_any = declares b;
      one_declared = one_declared_lem;
      starts = λ uuid free n. start_exact uuid free b.buffer n;
      digits = digits_lower;
      appends = λ u d q n b1. append_exact u d q n b b1;
      assigns = λ k u q n b1. assign_exact k u q n b b1;
      append_says = append_answers b;
      assign_says = assign_answers b;
      erases = λ q t b1. erase_exact q t b b1;
      erase_says = erase_answers b;
      wipes = λ q m n b1. wipe_exact q m n b b1;
      wipe_says = wipe_answers b;
    }
