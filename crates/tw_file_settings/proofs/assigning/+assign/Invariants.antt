use Rattle.std.proofs.Common.{length}
use Rattle.tw_file_settings.proofs.assigning.+assign.Given as goal

abbrev pub decreases-assign : goal.decreases-assign
decreases-assign l = length l.target.now
