-- What each action keeps, one by one.
use Rattle.tw_theory.specs.Executive.{Step, Post, Deliver, Back, Raise, Harvest}
use Rattle.tw_laws.specs.Keeping.{KeepingLaw}
use Rattle.tw_laws.proofs.Harvesting.{acts_soundly, replay_sound}
use Rattle.tw_laws.proofs.Rewinding.{rewind_keeps}

pub keeping_law : {S : Type 0} → KeepingLaw S
keeping_law = record {
  step = λ p net until w ok bound h. acts_soundly net until w ok bound h (Step p);
  post = λ p net until w ok bound h. acts_soundly net until w ok bound h (Post p);
  deliver = λ q i net until w ok bound h. acts_soundly net until w ok bound h (Deliver q i);
  back = λ p s net until w ok bound h. acts_soundly net until w ok bound h (Back p s);
  raise = λ net until w ok bound h. acts_soundly net until w ok bound h Raise;
  harvest = λ p net until w ok bound h. acts_soundly net until w ok bound h (Harvest p);
  rewind = λ ss net until w ok bound h. rewind_keeps net until ok bound w ss h;
  replay = λ actions net until w ok bound h. replay_sound net until w actions ok bound h;
}
