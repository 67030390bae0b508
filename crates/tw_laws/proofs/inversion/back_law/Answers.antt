use Rattle.tw_laws.proofs.Parting.{cuts_part}
use Rattle.tw_laws.proofs.Rewinding.{back_restores}
use Rattle.tw_laws.proofs.Rewound.{back_cuts}
use Rattle.tw_laws.proofs.inversion.back_law.Goals as goal

pub returns-clause-restores : goal.returns-clause-restores
returns-clause-restores g c = back_restores

pub returns-clause-takes_back : goal.returns-clause-takes_back
returns-clause-takes_back g c = back_cuts

pub returns-clause-parts : goal.returns-clause-parts
returns-clause-parts g c = cuts_part
