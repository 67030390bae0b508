-- What came of an item.
use Rattle.std.specs.Prelude.{◌≡◌, ℕ}
use Rattle.tw_msgs.specs.declared.message.Item.{Item}
use Rattle.tw_theory.specs.Contents.{Process, Received, receive}
use Rattle.tw_theory.specs.Memory.{need_of_received}
use Rattle.tw_process.specs.Process.{Held}

-- this answer, and this process
pub record IsCame {M S : Type 0} (old new : Held M S) (r : Received × Process S) (came : Received) : Type 0 where
  pub process : new ≡ record old { process = r.1; spare = new.spare }
  pub answer : came ≡ r.0

-- how many nodes more it takes: none where the item is annihilated, else one
abbrev pub need : {S : Type 0} → Process S → Item → ℕ
need p item = need_of_received (receive p item).0
