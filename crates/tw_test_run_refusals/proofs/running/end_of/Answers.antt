-- Any model may go to other threads.
use denote.Param.Send.{sendable}
use Rattle.tw_any_model.proofs.Sent.{any_model_send, any_model_sync}
use Rattle.tw_test_run_refusals.proofs.running.end_of.Goals as goal

pub run-first-requires-send-M : goal.run-first-requires-send-M
run-first-requires-send-M c = λ given κs lives. let model = any_model_send in search sendable

pub run-first-requires-sync-M : goal.run-first-requires-sync-M
run-first-requires-sync-M c = λ given κs lives. let model = any_model_sync in search sendable

pub run-second-requires-send-M : goal.run-second-requires-send-M
run-second-requires-send-M c = λ given κs lives. let model = any_model_send in search sendable

pub run-second-requires-sync-M : goal.run-second-requires-sync-M
run-second-requires-sync-M c = λ given κs lives. let model = any_model_sync in search sendable
