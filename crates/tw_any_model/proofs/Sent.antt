-- The five models and machines together may go to another thread, and be seen from several at once.
use denote.Param.Send.{IsSend, IsSync}
use denote.Param.SendFields.{variants_send, variants_sync}
use Rattle.tw_any_model.specs.contracts.any_model.AnyModel as any_model
use Rattle.tw_machine.proofs.Sent.{machine_send, machine_sync}
use Rattle.tw_models.proofs.model.Model.TheSendSync as model_sent

pub any_model_send : IsSend any_model.the_row
any_model_send = variants_send any_model.enum ((model_sent.the_send, tt), ((machine_send, tt), tt))

pub any_model_sync : IsSync any_model.the_row
any_model_sync = variants_sync any_model.enum ((model_sent.the_sync, tt), ((machine_sync, tt), tt))
