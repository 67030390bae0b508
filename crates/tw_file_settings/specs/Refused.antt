-- For what a setting is refused, in the table of refusals of the workspace.
use Rattle.tw_vtime.specs.declared.refusal.Refusal.{Refusal}
use Rattle.tw_vtime.specs.declared.refusal.Refusal.TheVariants as refusal
use Rattle.tw_file_settings.specs.declared.refused.SettingRefused.{SettingRefused}
use Rattle.tw_file_settings.specs.declared.refused.SettingRefused.TheVariants.{OutOfMemory, NoParameter}

abbrev pub setting_refusal : SettingRefused → Refusal
setting_refusal OutOfMemory = refusal.OutOfMemory
setting_refusal NoParameter = refusal.BadLine
