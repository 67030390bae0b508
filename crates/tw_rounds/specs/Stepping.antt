-- What an advance of a run does.
--     IsRound takes valid meaning contents old new o o' t t'      one round: the two receivers got its outputs and its transitions
--     IsLast takes valid meaning contents old o o' fault      the run has ended, after the outputs of a last round or none
--     IsAdvanced takes valid meaning contents old new o o' t t' step      either, as it is told
use Rattle.std.specs.Prelude.{List, ◌++◌, Option}
use Rattle.tw_atomic.specs.Atomic.{Meaning}
use Rattle.tw_msgs.specs.declared.record.Record.{Record}
use Rattle.tw_network.specs.Contents.{Contents}
use Rattle.tw_rounds.specs.Parts.{IsEnd, IsSimulating, Stage}
use Rattle.tw_rounds.specs.Receiving.{Receives}
use Rattle.tw_rounds.specs.declared.simulation.Advanced.{Advanced}
use Rattle.tw_rounds.specs.declared.simulation.Advanced.TheVariants.{Round, End}
use Rattle.tw_theory.specs.Simulator.{Fault}

-- whatever records were handed over before, with those of this round the run stands at the new stage
pub record IsRound {M S R : Type 0} (takes : R → Record → R → Type 0) (valid : M → S → Type 0) (meaning : M → Meaning S) (contents : Contents M) (old new : Stage S) (o o' t t' : R) : Type 0 where
  pub outs : List Record
  pub turns : List Record
  pub outputs : Receives takes o outs o'
  pub transitions : Receives takes t turns t'
  pub on : (done : List Record) → IsSimulating valid meaning contents done old → IsSimulating valid meaning contents (done ++ (outs ++ turns)) new

-- whatever records were handed over before, with those of the last outputs they are all
pub record IsLast {M S R : Type 0} (takes : R → Record → R → Type 0) (valid : M → S → Type 0) (meaning : M → Meaning S) (contents : Contents M) (old : Stage S) (o o' : R) (fault : Option Fault) : Type 0 where
  pub outs : List Record
  pub outputs : Receives takes o outs o'
  pub all : (done : List Record) → IsSimulating valid meaning contents done old → IsEnd meaning contents old.until (done ++ outs) fault

abbrev pub IsAdvanced : {M S R : Type 0} → (R → Record → R → Type 0) → (M → S → Type 0) → (M → Meaning S) → Contents M → Stage S → Stage S → R → R → R → R → Advanced → Type 0
IsAdvanced takes valid meaning contents old new o o' t t' Round = IsRound takes valid meaning contents old new o o' t t'
IsAdvanced takes valid meaning contents old new o o' t t' (End fault) = IsLast takes valid meaning contents old o o' fault
