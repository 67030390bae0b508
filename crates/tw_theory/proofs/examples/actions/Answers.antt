-- Each list of actions, by computing what they do.
use Rattle.std.proofs.Common.{refl}
use Rattle.tw_theory.specs.Contents.{back_to_first}
use Rattle.tw_theory.specs.Executive.{act}
use Rattle.tw_theory.specs.LocalRun.{step_at, local_step}
use Rattle.tw_theory.specs.Marks.{rewind}
use Rattle.tw_theory.specs.Outcomes.{state}
use Rattle.tw_theory.specs.Transitions.{output, moved, transition}
use Rattle.tw_theory.proofs.examples.actions.Goals as goal

pub returns-clause-straggler_of_three : goal.returns-clause-straggler_of_three
unfolding act local_step step_at output moved transition back_to_first
returns-clause-straggler_of_three c = record { answered = refl; held = refl }

pub returns-clause-anti_first : goal.returns-clause-anti_first
unfolding act local_step step_at output moved transition back_to_first
returns-clause-anti_first c = record { answered = refl; held = refl }

pub returns-clause-three_delivery_orders : goal.returns-clause-three_delivery_orders
unfolding act local_step step_at output moved transition back_to_first
returns-clause-three_delivery_orders c = record { one = (refl, refl, refl); two = (refl, refl, refl); three_of_three = (refl, refl, refl) }

pub returns-clause-nothing_there : goal.returns-clause-nothing_there
unfolding act local_step step_at output moved transition back_to_first
returns-clause-nothing_there c = refl

pub returns-clause-gvt_sees_outgoing : goal.returns-clause-gvt_sees_outgoing
unfolding act local_step step_at output moved transition back_to_first
returns-clause-gvt_sees_outgoing c = refl

pub returns-clause-commit_and_cut : goal.returns-clause-commit_and_cut
unfolding act local_step step_at output moved transition back_to_first
returns-clause-commit_and_cut c = record { answered = refl; columns = refl; held = refl }

pub returns-clause-mark_and_rewind : goal.returns-clause-mark_and_rewind
unfolding act local_step step_at output moved transition back_to_first rewind
returns-clause-mark_and_rewind c = record { undone = refl; held = refl; refused = refl }

pub returns-clause-lazy_match : goal.returns-clause-lazy_match
unfolding act local_step step_at output moved transition back_to_first
returns-clause-lazy_match c = record { held = refl; answered = refl }

pub returns-clause-lazy_anti : goal.returns-clause-lazy_anti
unfolding act local_step step_at output moved transition back_to_first
returns-clause-lazy_anti c = refl

pub returns-clause-fault_at_gvt : goal.returns-clause-fault_at_gvt
unfolding act local_step step_at output moved transition back_to_first state
returns-clause-fault_at_gvt c = record { answered = refl; going = refl; shown = refl }
