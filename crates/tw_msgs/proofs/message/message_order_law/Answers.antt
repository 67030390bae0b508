-- The laws of the order, and the one sorted list.
use Rattle.tw_msgs.proofs.Messages.{messages_rank, sorted_messages-IsPermutation, sorted_messages-Sorted, sorted_messages-only}
use Rattle.tw_msgs.proofs.message.message_order_law.Goals as goal

pub returns-clause-total : goal.returns-clause-total
returns-clause-total c = messages_rank.total

pub returns-clause-sorted : goal.returns-clause-sorted
returns-clause-sorted c = λ ms. (sorted_messages-IsPermutation ms, sorted_messages-Sorted ms)

pub returns-clause-only_sorted : goal.returns-clause-only_sorted
returns-clause-only_sorted c = sorted_messages-only
