use Rattle.std.proofs.Common.{◌≡◌, ◌∙◌, ◌++◌, List, ap, subst, length, map, take, drop, filter, arith}
use Rattle.std.specs.List.Sorted.{IsPermutation}
use Rattle.std.proofs.lemmas.Grind.{common_steps}
use Rattle.tw_msgs.specs.declared.message.Message.{Message}
use Rattle.tw_heap.specs.Entries.{message_of}
use Rattle.tw_heap.proofs.Fronts.{early, front_is}
use Rattle.tw_heap.proofs.heap.EventHeap.messages_before.Goals as goal

pub returns : goal.returns
returns c =
    let es = c.self.inside.entries.items in
    let sorted = c.sort.new.messages in
    let held = c.as_mut_slice.ensures.value ∙ c.in_ok-messages.ensures ∙ ap (λ l. filter (early c.args.stamp) (map message_of l)) c.as_slice.ensures.value in
    let same : IsPermutation (filter (early c.args.stamp) (map message_of es)) sorted = subst (λ (ms : List Message). IsPermutation ms sorted) held c.sort.ensures.permutation in
    let filled : take c.in_ok-messages.messages.len (sorted ++ drop (length sorted) c.in_ok-messages.messages.items) ≡ sorted = grind (arith, common_steps) in
    filled ∙ rw (← c.self.view_is) (front_is c.args.stamp es sorted same c.sort.ensures.sorted)
