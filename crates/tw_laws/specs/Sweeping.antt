-- What is left to post and deliver.
use Rattle.std.specs.Prelude.{ℕ, ◌+◌, ◌<◌, ◌≤◌, ◌≡◌, List, [], ◌∷◌, length, Some, slice_get, Ok}
use Rattle.tw_msgs.specs.declared.message.Item.{Item}
use Rattle.tw_vtime.specs.Stamps.{max_tick}
use Rattle.tw_theory.specs.Contents.{Process, Received, settle}
use Rattle.tw_theory.specs.Exchange.{work}
use Rattle.tw_theory.specs.Executive.{World, Action, Step, Post, Deliver, Back, Raise, Harvest, Posted, Received as Came, act, mail_of}
use Rattle.tw_theory.specs.Network.{Network, IsNetwork}
use Rattle.tw_theory.specs.Soundness.{IsSound}

-- each item posted, and each delivery with all that it undoes, lets the work fall
pub record WorkFalls (S : Type 0) : Type 0 where
  pub post : (net : Network S) (until : ℕ) (w : World S) → IsSound net until w → (c : ℕ) (p : Process S) → slice_get w.processes c ≡ Some p → work (act net until w (Post c)).1 + length (settle p).outgoing ≡ work w
  pub deliver : (net : Network S) (until : ℕ) (w : World S) → IsSound net until w → (c i : ℕ) (p : Process S) (x : Item) → slice_get w.processes c ≡ Some p → slice_get (mail_of w.mail c) i ≡ Some x → work (act net until w (Deliver c i)).1 < work w

-- a post of something, or a delivery that is not refused
abbrev pub IsProgress : {S : Type 0} → Network S → ℕ → World S → Action → Type 0
IsProgress net until w (Step c) = ⊥
IsProgress net until w (Post c) = (n : ℕ) × (0 < n) × ((act net until w (Post c)).0 ≡ Ok (Posted n))
IsProgress net until w (Deliver q i) = (r : Received) × ((act net until w (Deliver q i)).0 ≡ Ok (Came r))
IsProgress net until w (Back c s) = ⊥
IsProgress net until w Raise = ⊥
IsProgress net until w (Harvest c) = ⊥

-- each of these actions, in turn, is one
abbrev pub AllProgress : {S : Type 0} → Network S → ℕ → World S → List Action → Type 0
AllProgress net until w [] = Unit {0}
AllProgress net until w (action ∷ actions) = IsProgress net until w action × AllProgress net until (act net until w action).1 actions

-- posting and delivering ends: there are no more such actions in a row than there is work
abbrev pub SweepEnds : Type 0 → Type 0
SweepEnds S =
    (net : Network S) (until : ℕ) (w : World S) → IsNetwork net → until ≤ max_tick → IsSound net until w
    → (actions : List Action) → AllProgress net until w actions → length actions ≤ work w
