-- The simulator's fault stands before the end of the run, and no line passes it; gvt never falls.
use Rattle.std.proofs.Common.{◌≡◌, ℕ, ◌<◌, ◌≤◌, List, [], ◌∷◌, Option, Some, None, Result, Ok, Err, subst, arith, slice_get}
use Rattle.std.specs.Prelude.{◌≢◌, nat_lt}
use Rattle.std.proofs.lemmas.Bool.{cond_both}
use Rattle.tw_msgs.specs.declared.message.Item.{Item}
use Rattle.tw_vtime.specs.Stamps.{stamp, max_tick, phase_of}
use Rattle.tw_theory.specs.Contents.{Process, next}
use Rattle.tw_theory.specs.Executive.{World, Action, Post, Deliver, Back, Raise, Harvest, Answer, act, replay, act_step, act_post, act_deliver, act_back, act_harvest, if_made, mail_of}
use Rattle.tw_theory.specs.LocalRun.{Made, NoStep}
use Rattle.tw_theory.specs.Network.{Network, IsNetwork}
use Rattle.tw_theory.specs.Simulator.{Fault, sequential}
use Rattle.tw_theory.specs.Soundness.{new_world, IsSound}
use Rattle.tw_laws.specs.Committed.{LinesLaw, SoundLines}
use Rattle.tw_laws.proofs.Harvesting.{acts_soundly, replay_sound}
use Rattle.tw_laws.proofs.History.Clock.{NoLimit}
use Rattle.tw_laws.proofs.History.Committed.{extent}
use Rattle.tw_laws.proofs.History.RoundBags.{even_quiet}
use Rattle.tw_laws.proofs.AtGvt.{all_phase_one}
use Rattle.tw_laws.proofs.Starting.{start_sound}

module _ {S : Type 0} (net : Network S) where
  fault_within : (until : ℕ) → IsNetwork net → until ≤ max_tick → (met : Fault) → (sequential net until).fault ≡ Some met
      → met.stamp < stamp until 0 0
  unfolding NoLimit
  fault_within until ok bound met q =
      let x = extent net until (all_phase_one net net.inputs ok.inputs) bound in
      let f = x.1.fault met q in
      let calm : phase_of x.0 ≢ 0 = λ even. subst NoLimit f.2 (even_quiet net met.component x.0 _ _ even) in
      let within = x.1.within in
      let same = f.0 in
      let not_end : x.0 ≢ stamp until 0 0 = λ e. calm (omega arith) in
      omega arith

pub sound_lines : {S : Type 0} → SoundLines S
sound_lines net until w ok bound h met q c p at =
    let within = fault_within net until ok bound met q in
    let l = (h.each c p at).line_le_fault met q in
    omega arith

pub lines_law : {S : Type 0} → LinesLaw S
lines_law {S} net cancel until actions ok bound c p at met q =
    let h = (replay_sound net until (new_world net cancel) actions ok bound (start_sound net cancel until ok)).each c p at in
    let within = fault_within net until ok bound met q in
    let l = h.line_le_fault met q in
    (within, omega arith)

module _ {S : Type 0} (net : Network S) (until : ℕ) (w : World S) where
  made_gvt : (c : ℕ) (p : Process S) (r : Result (Made S) NoStep) → w.gvt ≤ (if_made w c p r).1.gvt
  made_gvt c p (Ok made) = omega arith
  made_gvt c p (Err why) = omega arith

  step_gvt : (c : ℕ) (o : Option (Process S)) → w.gvt ≤ (act_step net until w c o).1.gvt
  step_gvt c None = omega arith
  step_gvt c (Some p) = cond_both (nat_lt (next p) (stamp until 0 0)) _ _ (λ (r : Answer × World S). w.gvt ≤ r.1.gvt) (λ e. made_gvt c p _) (λ e. omega arith)

  post_gvt : (c : ℕ) (o : Option (Process S)) → w.gvt ≤ (act_post w c o).1.gvt
  post_gvt c None = omega arith
  post_gvt c (Some p) = omega arith

  deliver_gvt : (c i : ℕ) (o : Option (Process S)) (x : Option Item) → w.gvt ≤ (act_deliver w c i o x).1.gvt
  deliver_gvt c i None x = omega arith
  deliver_gvt c i (Some p) None = omega arith
  deliver_gvt c i (Some p) (Some x) = omega arith

  back_gvt : (c s : ℕ) (o : Option (Process S)) → w.gvt ≤ (act_back w c s o).1.gvt
  back_gvt c s None = omega arith
  back_gvt c s (Some p) = cond_both (nat_lt s w.gvt) _ _ (λ (r : Answer × World S). w.gvt ≤ r.1.gvt) (λ e. omega arith) (λ e. omega arith)

  harvest_gvt : (c : ℕ) (o : Option (Process S)) → w.gvt ≤ (act_harvest w c o).1.gvt
  harvest_gvt c None = omega arith
  harvest_gvt c (Some p) = omega arith

pub gvt_rises : {S : Type 0} (net : Network S) (until : ℕ) (w : World S) → IsSound net until w → (action : Action)
    → w.gvt ≤ (act net until w action).1.gvt
unfolding act
gvt_rises net until w h (Action.Step c) = step_gvt net until w c (slice_get w.processes c)
gvt_rises net until w h (Post c) = post_gvt net until w c (slice_get w.processes c)
gvt_rises net until w h (Deliver c i) = deliver_gvt net until w c i (slice_get w.processes c) (slice_get (mail_of w.mail c) i)
gvt_rises net until w h (Back c s) = back_gvt net until w c s (slice_get w.processes c)
gvt_rises net until w h Raise = h.gvt_le
gvt_rises net until w h (Harvest c) = harvest_gvt net until w c (slice_get w.processes c)

pub gvt_rises_by : {S : Type 0} (net : Network S) (until : ℕ) (w : World S) → IsNetwork net → until ≤ max_tick → IsSound net until w → (actions : List Action)
    → w.gvt ≤ (replay net until w actions).gvt
gvt_rises_by net until w ok bound h [] = omega arith
gvt_rises_by net until w ok bound h (a ∷ actions) =
    let one = gvt_rises net until w h a in
    let rest = gvt_rises_by net until (act net until w a).1 ok bound (acts_soundly net until w ok bound h a) actions in
    omega arith
