-- What actions do to the nodes that a process holds; and lists of actions of which some may be left undone.
use Rattle.std.specs.Prelude.{ℕ, ◌+◌, ◌≤◌, ◌≡◌, List, [], ◌∷◌, ◌++◌, Ok, Some, slice_get}
use Rattle.tw_msgs.specs.declared.message.Item.{Item}
use Rattle.tw_vtime.specs.Stamps.{max_tick}
use Rattle.tw_theory.specs.Contents.{Process, Cancel, with_step, cut, settle, receive, harvested}
use Rattle.tw_theory.specs.Executive.{World, Action, act}
use Rattle.tw_theory.specs.LocalRun.{Made, local_step}
use Rattle.tw_theory.specs.Memory.{max_nodes, live, need_of_step, need_of_received, need, component_of, WantsNodes, TakesMemory, one_if_taken, IsReplayed}
use Rattle.tw_theory.specs.Network.{Network, IsNetwork}
use Rattle.tw_theory.specs.Soundness.{IsSound, new_world}
use Rattle.tw_laws.specs.Committed.{HasCommitted, Grow}

pub record MemoryLaw (S : Type 0) : Type 0 where
  -- a step takes just the nodes that it needs, a receipt at most; steps taken back, and messages owed that become anti-messages, take none; a harvest gives nodes back
  pub step : (net : Network S) (c : ℕ) (p : Process S) (made : Made S) → local_step net c p.now p.pending ≡ Ok made → live (with_step p made) ≡ live p + need_of_step p made
  pub receive : (p : Process S) (item : Item) → live (receive p item).1 ≤ live p + need_of_received (receive p item).0
  pub cut : (s : ℕ) (p : Process S) → live (cut s p) ≡ live p
  pub settle : (p : Process S) → live (settle p) ≡ live p
  pub harvest : (g : ℕ) (p : Process S) → live (harvested g p) ≤ live p
  -- so each action takes at most what it needs
  pub takes : (net : Network S) (until : ℕ) (w : World S) (action : Action) (c : ℕ) (p q : Process S) → component_of action ≡ Some c → slice_get w.processes c ≡ Some p
      → slice_get (act net until w action).1.processes c ≡ Some q → live q ≤ live p + need net w p action
  -- and where none is wanting, its process stays within the greatest number
  pub within : (net : Network S) (until : ℕ) (w : World S) (action : Action) (c : ℕ) (p q : Process S) → component_of action ≡ Some c → slice_get w.processes c ≡ Some p
      → slice_get (act net until w action).1.processes c ≡ Some q → (WantsNodes net w action → ⊥) → live q ≤ max_nodes

-- ---- lists of actions of which some are left undone

pub record ReplayLaw (S : Type 0) : Type 0 where
  -- one action more is taken, or left undone if it takes memory
  pub none : (net : Network S) (until : ℕ) (w : World S) → IsReplayed net until w [] 0 w
  pub taken : (net : Network S) (until : ℕ) (w : World S) (actions : List Action) (n : ℕ) (w' : World S) (action : Action) → IsReplayed net until w actions n w'
      → IsReplayed net until w (actions ++ action ∷ []) (n + one_if_taken (act net until w' action).0) (act net until w' action).1
  pub left_out : (net : Network S) (until : ℕ) (w : World S) (actions : List Action) (n : ℕ) (w' : World S) (action : Action) → IsReplayed net until w actions n w' → TakesMemory action
      → IsReplayed net until w (actions ++ action ∷ []) n w'
  -- whatever is left out, the executive stays sound, gvt does not fall, and what is committed stays
  pub sound : (net : Network S) (until : ℕ) (w : World S) (actions : List Action) (n : ℕ) (w' : World S) → IsNetwork net → until ≤ max_tick → IsSound net until w → IsReplayed net until w actions n w'
      → IsSound net until w' × (w.gvt ≤ w'.gvt) × Grow w.columns w'.columns
  -- and from the start, what is committed is what the sequential simulator does
  pub committed : (net : Network S) (cancel : Cancel) (until : ℕ) (actions : List Action) (n : ℕ) (w' : World S) → IsNetwork net → until ≤ max_tick → IsReplayed net until (new_world net cancel) actions n w'
      → HasCommitted net until w'
