-- By computing what the values give.
use Rattle.std.proofs.Common.{refl}
use Rattle.tw_machine_file.proofs.examples.components.Goals as goal

pub returns : goal.returns
returns c = record {
  gives = refl;
  list_for_number = refl;
  number_for_list = refl;
  empty_list = refl;
  missing_parameter = refl;
  more_than_parameters = refl;
}
