-- Posting and delivering ends.
use Rattle.std.proofs.Common.{◌≡◌, ℕ, ◌<◌, [], ◌∷◌, length, Option, Some, None, refl, arith}
use Rattle.std.specs.Prelude.{slice_get, Ok}
use Rattle.tw_msgs.specs.declared.message.Item.{Item}
use Rattle.tw_theory.specs.Contents.{Process, Received, settle}
use Rattle.tw_theory.specs.Exchange.{work}
use Rattle.tw_theory.specs.Executive.{World, Action, Step, Post, Deliver, Back, Raise, Harvest, Posted, Received as Came, mail_of, act, act_post, act_deliver}
use Rattle.tw_theory.specs.Network.{Network}
use Rattle.tw_theory.specs.Soundness.{IsSound}
use Rattle.tw_laws.specs.Sweeping.{IsProgress, SweepEnds}
use Rattle.tw_laws.proofs.Harvesting.{acts_soundly}
use Rattle.tw_laws.proofs.Sweeping.{work_falls}

module _ {S : Type 0} (net : Network S) (until : ℕ) (w : World S) (h : IsSound net until w) where
  post_falls : (c n : ℕ) (o : Option (Process S)) → slice_get w.processes c ≡ o → 0 < n → (act_post w c o).0 ≡ Ok (Posted n)
      → work (act net until w (Post c)).1 < work w
  post_falls c n None at some e = absurd (cc e)
  post_falls c n (Some p) at some e =
      let same : length (settle p).outgoing ≡ n = cc e in
      omega (arith, work_falls.post net until w h c p at, same)

  deliver_falls : (q i : ℕ) (r : Received) (o : Option (Process S)) (x : Option Item) → slice_get w.processes q ≡ o
      → slice_get (mail_of w.mail q) i ≡ x → (act_deliver w q i o x).0 ≡ Ok (Came r)
      → work (act net until w (Deliver q i)).1 < work w
  deliver_falls q i r None x at is e = absurd (cc e)
  deliver_falls q i r (Some p) None at is e = absurd (cc e)
  deliver_falls q i r (Some p) (Some item) at is e = work_falls.deliver net until w h q i p item at is

  progress_falls : (action : Action) → IsProgress net until w action → work (act net until w action).1 < work w
  unfolding act
  progress_falls (Step c) never = absurd never
  progress_falls (Post c) made = post_falls c made.0 (slice_get w.processes c) refl made.1 made.2
  progress_falls (Deliver q i) made = deliver_falls q i made.0 (slice_get w.processes q) (slice_get (mail_of w.mail q) i) refl refl made.1
  progress_falls (Back c s) never = absurd never
  progress_falls Raise never = absurd never
  progress_falls (Harvest c) never = absurd never

pub sweep_ends : {S : Type 0} → SweepEnds S
sweep_ends net until w ok bound h [] all = omega arith
sweep_ends net until w ok bound h (action ∷ actions) all =
    let falls = progress_falls net until w h action all.0 in
    let rest = sweep_ends net until (act net until w action).1 ok bound (acts_soundly net until w ok bound h action) actions all.1 in
    omega arith
