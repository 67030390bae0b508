use Rattle.tw_file_faults.proofs.outline.+add_level.Given as goal

-- a coupled model has less room for levels than the one that it is in
abbrev pub decreases-add_level : goal.decreases-add_level
decreases-add_level l = l.room
