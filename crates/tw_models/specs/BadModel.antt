-- What the makers of models refuse, in the table of refusals of the workspace.
use Rattle.tw_vtime.specs.declared.refusal.Refusal.{Refusal}
use Rattle.tw_vtime.specs.declared.refusal.Refusal.TheVariants as refusal
use Rattle.tw_models.specs.declared.bad_model.BadModel.{BadModel}
use Rattle.tw_models.specs.declared.bad_model.BadModel.TheVariants.{BadPort, BadTick}

abbrev pub bad_model_refusal : BadModel → Refusal
bad_model_refusal BadPort = refusal.BadPort
bad_model_refusal BadTick = refusal.BadTick
