-- What contracts see of an end of a board.
--     Known      which board, and the two greatest numbers that were posted or seen at this end, the stamp as its packed number
use Rattle.std.specs.Prelude.{ℕ, refl}
use Rattle.std.specs.Coded.{Coded, code_by, coded×, coded_ℕ}
use Rattle.atomic_table.specs.Seated.{TableId, table_id_coded}
use Rattle.tw_theory.specs.Board.{Numbers}

pub record Known : Type 0 where
  pub board : TableId
  pub numbers : Numbers

abbrev pub known_coded : Coded Known
known_coded =
    code_by (TableId × (ℕ × ℕ)) (coded× table_id_coded (coded× coded_ℕ coded_ℕ)) (λ k. (k.board, k.numbers)) (λ p. record { board = p.0; numbers = p.1 }) (λ _. refl)
