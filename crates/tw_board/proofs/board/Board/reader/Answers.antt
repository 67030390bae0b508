use Rattle.std.proofs.Common.{rules}
use Rattle.tw_board.proofs.Keeping.{enters}
use Rattle.tw_board.proofs.board.Board.reader.Goals as goal

pub load_new_seat-seat-requires : goal.load_new_seat-seat-requires
load_new_seat-seat-requires c = (search rules, enters _)
