-- The start is sound, and every action keeps an executive sound.
use Rattle.std.specs.Prelude.{ℕ, ◌≤◌, ◌≡◌, List, Err}
use Rattle.tw_vtime.specs.Stamps.{max_tick}
use Rattle.tw_theory.specs.Contents.{Cancel}
use Rattle.tw_theory.specs.Executive.{World, Action, Step, Post, Deliver, Back, Raise, Harvest, Refusal, act, replay}
use Rattle.tw_theory.specs.Marks.{rewind}
use Rattle.tw_theory.specs.Network.{Network, IsNetwork}
use Rattle.tw_theory.specs.Soundness.{IsSound, new_world}

abbrev pub StartLaw : Type 0 → Type 0
StartLaw S = (net : Network S) (cancel : Cancel) (until : ℕ) → IsNetwork net → IsSound net until (new_world net cancel)

-- What is kept from a sound executive on, refused actions included
abbrev pub Keeps : {S : Type 0} → (Network S → ℕ → World S → World S) → Type 0
Keeps {S} change = (net : Network S) (until : ℕ) (w : World S) → IsNetwork net → until ≤ max_tick → IsSound net until w → IsSound net until (change net until w)

pub record KeepingLaw (S : Type 0) : Type 0 where
  pub step : (p : ℕ) → Keeps {S = S} (λ net until w. (act net until w (Step p)).1)
  pub post : (p : ℕ) → Keeps {S = S} (λ net until w. (act net until w (Post p)).1)
  pub deliver : (q i : ℕ) → Keeps {S = S} (λ net until w. (act net until w (Deliver q i)).1)
  pub back : (p s : ℕ) → Keeps {S = S} (λ net until w. (act net until w (Back p s)).1)
  pub raise : Keeps {S = S} (λ net until w. (act net until w Raise).1)
  pub harvest : (p : ℕ) → Keeps {S = S} (λ net until w. (act net until w (Harvest p)).1)
  pub rewind : (ss : List ℕ) → Keeps {S = S} (λ net until w. (rewind w ss).1)
  pub replay : (actions : List Action) → Keeps {S = S} (λ net until w. replay net until w actions)

-- An action, or a rewind, that is refused changes nothing
pub record RefusedLaw (S : Type 0) : Type 0 where
  pub act : (net : Network S) (until : ℕ) (w : World S) (action : Action) (why : Refusal) → (act net until w action).0 ≡ Err why → (act net until w action).1 ≡ w
  pub rewind : (w : World S) (ss : List ℕ) (why : Refusal) → (rewind w ss).0 ≡ Err why → (rewind w ss).1 ≡ w
