-- What is posted stays behind what the executive has, whatever it does; and once posted its numbers are the greatest.
use Rattle.std.proofs.Common.{◌≡◌, List, arith, subst, sym}
use Rattle.tw_atomic.specs.Atomic.{Meaning}
use Rattle.tw_board.specs.Known.{Known}
use Rattle.tw_exec.specs.Running.{IsSoundly, Running}
use Rattle.tw_laws.proofs.Replayed.{board_law}
use Rattle.tw_network.specs.Contents.{network_of}
use Rattle.tw_theory.specs.Executive.{Action}
use Rattle.tw_exchange.specs.Exchanged.{IsNotAhead}
use Rattle.tw_exchange.specs.Sweeping.{replayed}

pub still_behind : {M S : Type 0} (meaning : M → Meaning S) (actions : List Action) (e e' : Running M S) (publisher : Known) → IsSoundly meaning e → e' ≡ replayed meaning actions e
    → IsNotAhead publisher e → IsNotAhead publisher e'
still_behind meaning actions e e' publisher s is behind =
    let rises = board_law.rises (network_of meaning e.network) e.until e.world actions s.network s.bound s.sound in
    subst (λ x. IsNotAhead publisher x) (sym is) (omega (arith, behind.0, rises.0), omega (arith, behind.1, rises.1))
