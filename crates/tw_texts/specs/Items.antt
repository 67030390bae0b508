-- The texts of messages and items in transit.
--     message_text m      what a message brings and when, as 0=5 at 2.0.1
--     sign_text sign      + for a message, - for an anti-message
use Rattle.std.specs.Prelude.{◌++◌, ℕ, List, codes}
use Rattle.tw_vtime.specs.Stamps.{stamp_text}
use Rattle.tw_msgs.specs.declared.message.Message.{Message}
use Rattle.tw_msgs.specs.declared.message.Sign.{Sign}
use Rattle.tw_msgs.specs.declared.message.Sign.TheVariants.{Positive, Anti}
use Rattle.tw_texts.specs.Texts.{item_text}

-- port, value and stamp
abbrev pub message_text : Message → List ℕ
message_text m = item_text (m.port, m.value) ++ codes " at " ++ stamp_text m.stamp

abbrev pub sign_text : Sign → List ℕ
sign_text Positive = codes "+"
sign_text Anti = codes "-"
