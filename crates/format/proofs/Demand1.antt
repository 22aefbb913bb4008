-- Demand 1 is proved, of any buffer, used length and reading; Laws/Denials is behind it.
use Rattle.std.specs.Prelude.{refl}
use Rattle.format.specs.Records.{logbook}
use Rattle.format.proofs.Laws.Epochs.{epochs_mean}
use Rattle.format.proofs.Laws.Denials.Shifts.{shift_refusal, shift_numbered}
use Rattle.format.proofs.Laws.Denials.Integers.{leads_mean}
use Rattle.format.proofs.Laws.Denials.Before.{element_before, element_split}
use Rattle.format.proofs.Laws.Denials.Items.{first_means, none_means, item_refusal}
use Rattle.format.proofs.Laws.Denials.Requests.{requests_mean}
use Rattle.format.proofs.Laws.Denials.Fits.{fits_mean}
use Rattle.format.proofs.Laws.Denials.Walks.{walks_mean, register_means, found_means}
use Rattle.format.proofs.Laws.Denials.Answers.{call_refusal, call_own, call_keeps_lem, call_numbered, step_refusal, step_keeps_lem, step_numbered, start_refusal, start_keeps_lem, start_numbered}
use Rattle.format.proofs.Laws.Denials.Moves.{move_refusal, move_keeps_lem, move_numbered, slow_fits_mean}
use Rattle.format.specs.Demand1.{Demand1Holds}

pub demand1 : Demand1Holds
demand1 b r =
    record {
      calls = λ c. call_refusal logbook c b;
      steps = step_refusal logbook b r;
      moves = move_refusal logbook b;
      starts = λ uuid free. start_refusal uuid free b.buffer;
      shifts = shift_refusal;
      firsts = first_means;
      nones = none_means;
      items = item_refusal logbook;
      leads = leads_mean;
      split = element_split;
      before = element_before;
      requests = requests_mean;
      fitting = fits_mean r;
      slow_fitting = slow_fits_mean logbook r;
      epochs = epochs_mean;
      walks = walks_mean logbook;
      registers = register_means logbook;
      finds = found_means logbook;
      count = refl;
      answers = λ c. call_own logbook c b;
      call_numbers = λ c. call_numbered logbook c b;
      step_numbers = step_numbered logbook b r;
      move_numbers = move_numbered logbook b;
      start_numbers = λ uuid free. start_numbered uuid free b.buffer;
      shift_numbers = shift_numbered;
      call_keeps = λ c. call_keeps_lem logbook c b;
      step_keeps = step_keeps_lem logbook b r;
      move_keeps = move_keeps_lem logbook b;
      start_keeps = λ uuid free. start_keeps_lem uuid free b.buffer;
    }
