-- What is kept by one action, and by every action but a harvest.
use Rattle.std.specs.Prelude.{ℕ, ◌≤◌, ⊤}
use Rattle.tw_vtime.specs.Stamps.{max_tick}
use Rattle.tw_theory.specs.Executive.{World, Action, Step, Post, Deliver, Back, Raise, Harvest, act}
use Rattle.tw_theory.specs.Network.{Network, IsNetwork}
use Rattle.tw_theory.specs.Soundness.{IsSound}

abbrev pub IsNoHarvest : Action → Type 0
IsNoHarvest (Step c) = ⊤
IsNoHarvest (Post c) = ⊤
IsNoHarvest (Deliver q i) = ⊤
IsNoHarvest (Back c s) = ⊤
IsNoHarvest Raise = ⊤
IsNoHarvest (Harvest c) = ⊥

abbrev pub ActLaw : Type 0 → Type 0
ActLaw S =
    (net : Network S) (until : ℕ) (w : World S) → IsNetwork net → until ≤ max_tick → IsSound net until w
    → (action : Action) → IsNoHarvest action → IsSound net until (act net until w action).1

abbrev pub ActsSoundly : Type 0 → Type 0
ActsSoundly S =
    (net : Network S) (until : ℕ) (w : World S) → IsNetwork net → until ≤ max_tick → IsSound net until w
    → (action : Action) → IsSound net until (act net until w action).1
