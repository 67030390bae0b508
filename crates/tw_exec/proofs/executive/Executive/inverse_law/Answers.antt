use Rattle.std.proofs.Common.{sym, ◌∙◌}
use Rattle.tw_laws.proofs.Committing.{rewind_answers}
use Rattle.tw_laws.proofs.Parting.{cuts_part}
use Rattle.tw_laws.proofs.Rewinding.{back_restores, inverse_law}
use Rattle.tw_laws.proofs.Rewound.{back_cuts, rewinding_law}
use Rattle.tw_network.specs.Contents.{network_of}
use Rattle.tw_exec.proofs.executive.Executive.inverse_law.Goals as goal

pub returns-clause-takes_back : goal.returns-clause-takes_back
returns-clause-takes_back g c e h =
    let net = network_of g.M.Atomic.meaning e.network in
    record {
      by_rewind = λ cs. inverse_law net e.until e.world cs h.network h.bound h.sound;
      by_back = λ cs k p at. back_restores net e.until e.world cs k p h.network h.bound h.sound at;
      answers = λ ss. rewind_answers e.world ss (h.sound.columns ∙ sym h.sound.processes);
      to_marks = rewinding_law e.world;
      to_stamp = back_cuts net e.until e.world;
    }

pub returns-clause-parts : goal.returns-clause-parts
returns-clause-parts g c e k s p h at = cuts_part (network_of g.M.Atomic.meaning e.network) e.until e.world k s p h.network h.sound at
