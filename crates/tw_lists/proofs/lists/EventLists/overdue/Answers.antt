use Rattle.tw_lists.proofs.lists.EventLists.overdue.Goals as goal

pub first_overdue-from-requires : goal.first_overdue-from-requires
first_overdue-from-requires c = c.self.invariant.2 c.if-self.true
