-- The actions that a seed gives.
--     seeded seed      the generator of a seed
--     drawn g, after g      the three numbers that are drawn for an action, and the generator after them
--     action_drawn e words      the action that they say to an executive
use Rattle.std.specs.Prelude.{ℕ, ◌+◌, ◌%◌, ◌==◌, min, max, length, if◌then◌else◌, Option, Some, None}
use Rattle.rand_core.specs.Pcg32Seed.{pcg32_seed}
use Rattle.rand_pcg.specs.Lcg.{Lcg}
use Rattle.rand_pcg.specs.Pcg.{pcg32, pcg32_of_seed}
use Rattle.tw_exec.specs.Running.{Running}
use Rattle.tw_actions.specs.declared.action.Action.{Action}
use Rattle.tw_actions.specs.declared.action.Action.TheVariants.{Step, Post, Deliver, Back, Raise, Harvest}
use Rattle.tw_theory.specs.Executive.{mail_of}
use Rattle.tw_vtime.specs.Stamps.{max_tick, never, stamp, tick_of}

abbrev pub seeded : ℕ → Lcg
seeded seed = pcg32_of_seed (pcg32_seed 16 seed)

pub record Words : Type 0 where
  -- says which action
  pub choice : ℕ
  -- says which component
  pub component : ℕ
  -- says which item, or which stamp
  pub detail : ℕ

abbrev pub drawn : Lcg → Words
drawn g = record { choice = (pcg32 g).0; component = (pcg32 (pcg32 g).1).0; detail = (pcg32 (pcg32 (pcg32 g).1).1).0 }

abbrev pub after : Lcg → Lcg
after g = (pcg32 (pcg32 (pcg32 g).1).1).1

-- a place of a mailbox of so many items; the first, where it is empty
abbrev pub place_drawn : ℕ → ℕ → ℕ
place_drawn count detail = if count == 0 then 0 else detail % count

-- the start of global virtual time's own tick or one of the three after it, no later than the greatest tick; never before global virtual time
abbrev pub stamp_drawn : ℕ → ℕ → ℕ
stamp_drawn gvt detail = if gvt == never then gvt else max (stamp (min (tick_of gvt + detail % 4) max_tick) 0 0) gvt

-- the actions are equally likely
abbrev pub chosen : ℕ → ℕ → ℕ → ℕ → Action
chosen n c i s =
    if n == 0 then Step c
    else if n == 1 then Post c
    else if n == 2 then Deliver c i
    else if n == 3 then Back c s
    else if n == 4 then Raise
    else Harvest c

-- none where there are no components
abbrev pub action_drawn : {M S : Type 0} → Running M S → Words → Option Action
action_drawn e words =
    if length e.network.models == 0 then None
    else (let c = words.component % length e.network.models in
    Some (chosen (words.choice % 6) c (place_drawn (length (mail_of e.world.mail c)) words.detail) (stamp_drawn e.world.gvt words.detail)))
