-- When a component has its next own step after a transition (Chow and Zeigler 1994; superdense time with a greatest microstep).
--     advanced at ta micro_limit      after the transition at this stamp, with this time advance
use Rattle.std.specs.Prelude.{◌==◌, ◌+◌, ℕ, nat_le, Option, None, Some, Result, Ok, Err, if◌then◌else◌}
use Rattle.tw_vtime.specs.declared.limits.Limit.{Limit}
use Rattle.tw_vtime.specs.declared.limits.Limit.TheVariants.{Microstep, Tick}
use Rattle.tw_vtime.specs.Stamps.{max_tick, stamp, tick_of, micro_of}

-- the output of the next microstep of a tick
abbrev pub next_microstep : ℕ → ℕ → ℕ → Result (Option ℕ) Limit
next_microstep tick micro micro_limit = if nat_le (micro + 1) micro_limit then Ok (Some (stamp tick (micro + 1) 0)) else Err Microstep

-- the output of a tick's first microstep
abbrev pub later_tick : ℕ → Result (Option ℕ) Limit
later_tick tick = if nat_le tick max_tick then Ok (Some (stamp tick 0 0)) else Err Tick

-- a passive component has no next step; an advance of zero stays in the tick
abbrev pub advanced : ℕ → Option ℕ → ℕ → Result (Option ℕ) Limit
advanced at None micro_limit = Ok None
advanced at (Some ta) micro_limit = if ta == 0 then next_microstep (tick_of at) (micro_of at) micro_limit else later_tick (tick_of at + ta)
