-- Messages dealt out to the components' bags.
--     dealt c bags ms      the bags of the components from c on, each with what these messages bring it at its end
--     Carried m      what a message carries fits: its port is a number of 8 bits, its value one of 64 bits with sign
use Rattle.std.specs.Prelude.{ℕ, suc, List, [], ◌∷◌, ◌++◌}
use Rattle.tw_atomic.specs.Atomic.{FitsItem}
use Rattle.tw_msgs.specs.Bags.{Bag}
use Rattle.tw_msgs.specs.declared.message.Message.{Message}
use Rattle.tw_theory.specs.Bundles.{items_of, addressed}

abbrev pub dealt : ℕ → List Bag → List Message → List Bag
dealt c [] ms = []
dealt c (bag ∷ bags) ms = (bag ++ items_of (addressed c ms)) ∷ dealt (suc c) bags ms

abbrev pub Carried : Message → Type 0
Carried m = FitsItem (m.port, m.value)
