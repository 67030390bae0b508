use Rattle.std.proofs.Common.{ap, ◌∙◌}
use Rattle.tw_board.specs.Known.{Known}
use Rattle.tw_laws.proofs.Replayed.{board_law}
use Rattle.tw_theory.specs.Board.{Numbers, posted_after}
use Rattle.tw_exchange.proofs.posting.post.Goals as goal

pub returns : goal.returns
returns g c =
    let before = c.args.publisher.now in
    let posting : Numbers → Known = λ n. record { board = before.board; numbers = n } in
    c.post.ensures ∙ (λ i. posting (posted_after before.numbers (c.gvt.ensures i, c.committed_len.ensures i))) ∙ ap posting (board_law.posts c.args.executive.now.world before.numbers c.requires)
