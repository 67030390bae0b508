-- One input after another.
use Rattle.std.proofs.Common.{◌≡◌, ◌∙◌, ◌∷◌, [], ◌++◌, refl, ap, sym, subst, arith, slice_index_or, pos, rules, w64, SFits, map, length}
use Rattle.std.specs.List.{All, AllByRecursion as Each}
use Rattle.std.proofs.lemmas.Int.{to_z-of_z}
use Rattle.tw_msgs.specs.declared.message.Message.{Message}
use Rattle.tw_network.specs.Contents.{message_of, IsInput}
use Rattle.tw_rounds.specs.Dealing.{Carried}
use Rattle.tw_vtime.specs.Stamps.{stamp}
use Rattle.tw_msgs.specs.Messages.{sorted_messages}
use Rattle.tw_msgs.proofs.Messages.{sorted_messages-only, Sorted-from_IsSorted}
use Rattle.tw_theory.proofs.Elements.{each-append, each-sorted}
use Rattle.tw_rounds.proofs.Starts.{mapped_more, mapped_all, the_ok}
use Rattle.tw_rounds.proofs.rounds.start_inputs.Goals as goal
use Rattle.tw_rounds.proofs.rounds.start_inputs.Goals.{After-loop-tick}

pub loop-tick-preserved : goal.loop-tick-preserved
loop-tick-preserved g c =
    let items = c.inputs-tick-items.result.now in
    let i = c.loop-tick.tick-index in
    let made = c.loop-tick.inputs.items in
    let item = slice_index_or items i (0, 0, 0, pos 0) in
    let fits : SFits w64 item.3 = search rules in
    let value = to_z-of_z w64 item.3 fits in
    let at : c.unwrap.result ≡ stamp item.0 0 1 = the_ok c.new.result c.unwrap.result (stamp item.0 0 1) c.unwrap.ensures c.new.ensures.is_stamp in
    let fit = subst (All (IsInput (length c.args.network.now.models))) (sym c.inputs-tick-items.ensures) c.facts.ensures.inputs i (0, 0, 0, pos 0) c.loop-tick-test.true in
    let port = fit.port in
    let m : Message = message_of item in
    let carried : Carried m = (omega (arith, port), fits) in
    let pushed = c.in_ok-push.ensures.items ∙ (λ k. made ++ record { stamp = at k; port = item.2; value = value k; to = item.1 } ∷ []) in
    record {
      inputs = pushed ∙ mapped_more message_of items i (0, 0, 0, pos 0) made m c.loop-tick.invariant.inputs c.loop-tick-test.true refl;
      carried = subst (Each Carried) (sym pushed) (each-append Carried made (m ∷ []) c.loop-tick.invariant.carried (carried, tt));
    }

-- the inputs as they were given
given : (g : _) (c : After-loop-tick g) → c.loop-tick.inputs.items ≡ map message_of c.args.network.now.inputs
given g c = mapped_all message_of c.inputs-tick-items.result.now c.loop-tick.tick-index c.loop-tick.inputs.items c.loop-tick.invariant.inputs c.loop-tick-test.false ∙ ap (map message_of) c.inputs-tick-items.ensures

pub returns-clause-inputs : goal.returns-clause-inputs
returns-clause-inputs g c =
    sorted_messages-only c.loop-tick.inputs.items c.sort_unstable.new.self.items c.sort_unstable.ensures.permutation (Sorted-from_IsSorted c.sort_unstable.new.self.items c.sort_unstable.ensures.sorted)
    ∙ ap sorted_messages (given g (goal.at.returns-clause-inputs g c).After-loop-tick)

pub returns-clause-carried : goal.returns-clause-carried
returns-clause-carried g c =
    subst (Each Carried) (sym (sorted_messages-only c.loop-tick.inputs.items c.sort_unstable.new.self.items c.sort_unstable.ensures.permutation (Sorted-from_IsSorted c.sort_unstable.new.self.items c.sort_unstable.ensures.sorted)))
    (each-sorted Carried c.loop-tick.inputs.items c.loop-tick.invariant.carried)
