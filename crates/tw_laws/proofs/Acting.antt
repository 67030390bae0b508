-- Every action but a harvest keeps an executive sound.
use Rattle.std.proofs.Common.{ℕ, ◌≤◌, List, refl, arith}
use Rattle.std.specs.Prelude.{slice_get}
use Rattle.tw_msgs.specs.declared.message.Item.{Item}
use Rattle.tw_msgs.specs.declared.record.Record.{Record}
use Rattle.tw_theory.specs.Contents.{Process}
use Rattle.tw_theory.specs.Executive.{World, Step, Post, Deliver, Back, Raise, Harvest, act, mail_of, least_of}
use Rattle.tw_theory.specs.Network.{Network}
use Rattle.tw_theory.specs.Soundness.{IsSoundProcess, IsSound}
use Rattle.tw_laws.specs.Keeping.{StartLaw}
use Rattle.tw_laws.proofs.ActionsKeep.{ActLaw}
use Rattle.tw_laws.proofs.Delivering.{deliver_sound, back_sound}
use Rattle.tw_laws.proofs.Starting.{start_sound}
use Rattle.tw_laws.proofs.Stepping.{step_sound, post_sound}

raised_process : {S : Type 0} (net : Network S) (until g g' c : ℕ) (column : List Record) (mail : List Item) (p : Process S) → g ≤ g'
    → IsSoundProcess net until g c column mail p → IsSoundProcess net until g' c column mail p
raised_process net until g g' c column mail p l h = record {
  column_is = h.column_is;
  from = h.from;
  from_is = h.from_is;
  stands = h.stands;
  sorted = h.sorted;
  within = h.within;
  apart = h.apart;
  for_inputs = h.for_inputs;
  for_waiting = h.for_waiting;
  for_mail = h.for_mail;
  fit_outgoing = h.fit_outgoing;
  fit_owed = h.fit_owed;
  line_le = let k = h.line_le in omega arith;
  line_le_fault = h.line_le_fault;
}

raise_sound : {S : Type 0} (net : Network S) (until : ℕ) (w : World S) → IsSound net until w
    → IsSound net until (record { processes = w.processes; mail = w.mail; columns = w.columns; gvt = least_of w })
raise_sound net until w h = record {
  processes = h.processes;
  mail = h.mail;
  columns = h.columns;
  each = λ c p at. raised_process net until w.gvt (least_of w) c _ _ p h.gvt_le (h.each c p at);
  cancel = h.cancel;
  cancels = h.cancels;
  balance = h.balance;
  gvt_le = omega arith;
}

pub start_law : {S : Type 0} → StartLaw S
start_law {S} net cancel until ok = start_sound net cancel until ok

pub act_law : {S : Type 0} → ActLaw S
unfolding act
act_law {S} net until w ok bound h (Step c) n = step_sound net until ok bound w c (slice_get w.processes c) h refl
act_law {S} net until w ok bound h (Post c) n = post_sound net until w c (slice_get w.processes c) h refl
act_law {S} net until w ok bound h (Deliver q i) n = deliver_sound net until ok bound w q i (slice_get w.processes q) (slice_get (mail_of w.mail q) i) h refl refl
act_law {S} net until w ok bound h (Back c s) n = back_sound net until ok bound w c s (slice_get w.processes c) h refl
act_law {S} net until w ok bound h Raise n = raise_sound net until w h
act_law {S} net until w ok bound h (Harvest c) n = absurd n
