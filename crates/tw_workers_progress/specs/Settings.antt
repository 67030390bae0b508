-- How a run by workers may be set.
--     IsSet setting      each of its numbers is in its range
use Rattle.std.specs.Prelude.{◌≤◌}
use Rattle.tw_vtime.specs.Stamps.{max_tick}
use Rattle.tw_workers.specs.declared.setting.Setting.{Setting}

-- what workers are set to is in its range
abbrev pub IsSet : Setting → Type 0
IsSet setting =
    ((1 ≤ setting.workers) × (setting.workers ≤ 64)) × ((1 ≤ setting.burst) × (setting.burst ≤ 256)) × (setting.window ≤ max_tick)
