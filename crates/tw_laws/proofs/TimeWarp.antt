-- The theorem of the whole.
use Rattle.std.proofs.Common.{ℕ, ◌≤◌, List, [], ◌∷◌, sym, ◌∙◌}
use Rattle.std.specs.List.{AllByRecursion as Each}
use Rattle.tw_vtime.specs.Stamps.{max_tick}
use Rattle.tw_theory.specs.Contents.{Cancel}
use Rattle.tw_theory.specs.Executive.{World}
use Rattle.tw_theory.specs.Network.{Network, IsNetwork}
use Rattle.tw_theory.specs.Soundness.{Cancels, IsSound, new_world}
use Rattle.tw_laws.specs.Headline.{Command, Act, Rewind, after_command, after_commands, IsTimeWarp, TimeWarpLaw}
use Rattle.tw_laws.proofs.Cancelling.{cancel_stays}
use Rattle.tw_laws.proofs.Committing.{rewind_answers}
use Rattle.tw_laws.proofs.Harvesting.{acts_soundly}
use Rattle.tw_laws.proofs.Rewinding.{rewind_keeps, inverse_law, back_restores}
use Rattle.tw_laws.proofs.Rewound.{rewinding_law, back_cuts}
use Rattle.tw_laws.proofs.Starting.{start_sound}

module _ {S : Type 0} (net : Network S) (cancel : Cancel) (until : ℕ) (ok : IsNetwork net) (bound : until ≤ max_tick) where
  done_sound : (w : World S) (command : Command) → IsSound net until w → IsSound net until (after_command net until w command)
  done_sound w (Act action) h = acts_soundly net until w ok bound h action
  done_sound w (Rewind ss) h = rewind_keeps net until ok bound w ss h

  done_cancels : (w : World S) (command : Command) → Each (Cancels cancel) w.processes → Each (Cancels cancel) (after_command net until w command).processes
  done_cancels w (Act action) h = cancel_stays.act net until cancel w action h
  done_cancels w (Rewind ss) h = cancel_stays.rewind cancel w ss h

  is_time_warp : (w : World S) → IsSound net until w → Each (Cancels cancel) w.processes → IsTimeWarp net cancel until w
  is_time_warp w h k = record {
    cancels = k;
    takes_back = record {
      by_rewind = λ cs. inverse_law net until w cs ok bound h;
      by_back = λ cs c p at. back_restores net until w cs c p ok bound h at;
      answers = λ ss. rewind_answers w ss (h.columns ∙ sym h.processes);
      to_marks = rewinding_law w;
      to_stamp = back_cuts net until w;
    };
    committed = record { processes = h.processes; columns = h.columns; each = λ c p at. (h.each c p at).column_is };
  }

  after_all : (w : World S) (commands : List Command) → IsSound net until w → Each (Cancels cancel) w.processes → IsTimeWarp net cancel until (after_commands net until w commands)
  after_all w [] h k = is_time_warp w h k
  after_all w (command ∷ commands) h k = after_all (after_command net until w command) commands (done_sound w command h) (done_cancels w command k)

pub time_warp_law : {S : Type 0} → TimeWarpLaw S
time_warp_law net cancel until commands ok bound =
    after_all net cancel until ok bound (new_world net cancel) commands (start_sound net cancel until ok) (cancel_stays.start net cancel)
