-- Sums over lists, and the signed count of a message: the one definition that every balance uses.
--     total weight xs      the sum of the weights; with weight 1 at one thing and 0 at the others it counts that thing
--     signed_count m items      how often m is among the items, less how often its anti-message is
use Rattle.std.specs.Prelude.{ℕ, ◌+◌, List, [], ◌∷◌, ℤ, pos, ◌-ℤ◌, if◌then◌else◌}
use Rattle.tw_msgs.specs.declared.message.Message.{Message}
use Rattle.tw_msgs.specs.declared.message.Item.{Item}
use Rattle.tw_msgs.specs.declared.message.Sign.TheVariants.{Positive, Anti}
use Rattle.tw_msgs.specs.Messages.{same_message}

abbrev pub total : {X : Type 0} → (X → ℕ) → List X → ℕ
total weight [] = 0
total weight (x ∷ xs) = weight x + total weight xs

-- a weight of messages, taken of the positive items alone, or of the anti-messages alone
abbrev pub when_positive : (Message → ℕ) → Item → ℕ
when_positive weight i = elim i.sign [ Positive ↦ weight i.message | Anti ↦ 0 ]

abbrev pub when_anti : (Message → ℕ) → Item → ℕ
when_anti weight i = elim i.sign [ Positive ↦ 0 | Anti ↦ weight i.message ]

-- the weight that counts one message
abbrev pub one_at : Message → Message → ℕ
one_at m n = if same_message m n then 1 else 0

abbrev pub signed_count : Message → List Item → ℤ
signed_count m items = pos (total (when_positive (one_at m)) items) -ℤ pos (total (when_anti (one_at m)) items)
