use Rattle.tw_laws.proofs.Replayed.{board_law}
use Rattle.tw_laws.proofs.board.board_law.Goals as goal

pub returns : goal.returns
returns g c = board_law
