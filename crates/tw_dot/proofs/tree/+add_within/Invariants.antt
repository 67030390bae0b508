use Rattle.tw_dot.proofs.tree.+add_within.Given as goal

-- a coupled model has less room for levels than the one that it is in
abbrev pub decreases-add_within : goal.decreases-add_within
decreases-add_within l = l.room
