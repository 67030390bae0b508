use Rattle.std.proofs.Common.{ap}
use Rattle.tw_laws.proofs.Least.{gvt_law}
use Rattle.tw_laws.proofs.Lines.{sound_lines}
use Rattle.tw_network.specs.Contents.{network_of}
use Rattle.tw_exec.proofs.executive.Executive.committed_law.Goals as goal

pub returns-clause-committed : goal.returns-clause-committed
returns-clause-committed g c e h = record { processes = h.sound.processes; columns = h.sound.columns; each = λ k p at. (h.sound.each k p at).column_is }

pub returns-clause-before_fault : goal.returns-clause-before_fault
returns-clause-before_fault g c e h = sound_lines (network_of g.M.Atomic.meaning e.network) e.until e.world h.network h.bound h.sound

pub returns-clause-rises : goal.returns-clause-rises
returns-clause-rises g c e action h = gvt_law.rises (network_of g.M.Atomic.meaning e.network) e.until e.world h.sound action

pub returns-clause-rewound : goal.returns-clause-rewound
returns-clause-rewound g c e ss = gvt_law.rewind_gvt e.world ss

pub returns-clause-raised : goal.returns-clause-raised
returns-clause-raised g c e = ap (λ r. r.1.gvt) (gvt_law.raise (network_of g.M.Atomic.meaning e.network) e.until e.world)
