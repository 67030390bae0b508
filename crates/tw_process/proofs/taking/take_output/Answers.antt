use Rattle.std.proofs.Common.{rules}
use Rattle.tw_process.proofs.taking.take_output.Goals as goal

pub push_reserved-requires : goal.push_reserved-requires
push_reserved-requires g c = c.has_room.ensures.counts_room c.if-not-has_room.false

pub returns-clause-room : goal.returns-clause-room
returns-clause-room g c = record { same = search rules; room = c.has_room.ensures.room c.if-not-has_room.false; kept = search rules }
