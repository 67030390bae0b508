-- What is replied to the lines of a script.
--     done_text done, answer_text answer      what is said of an action that was made, and of the theory's answer to one
--     reply_text reply      the whole line of a reply
use Rattle.std.specs.Prelude.{ℕ, ◌++◌, List, codes, Result, Ok, Err}
use Rattle.std.specs.Fmt.{decimal}
use Rattle.tw_exec.specs.Refusals.{refusal_of}
use Rattle.tw_actions.specs.declared.action.Done.{Done}
use Rattle.tw_actions.specs.declared.action.Done.TheVariants.{Stepped, Posted, Received as Came, Undone, Raised, Harvested}
use Rattle.tw_exec.specs.declared.refused.Refused as refused
use Rattle.tw_inspect.specs.declared.replies.Reply.{Reply}
use Rattle.tw_inspect.specs.declared.replies.Reply.TheVariants as reply
use Rattle.tw_texts.specs.Texts.{kind_text}
use Rattle.tw_theory.specs.Contents.{Received, Placed, Straggler, Annihilated, Waiting}
use Rattle.tw_theory.specs.Executive.{Answer, Refusal as Reason, NothingDue, OverLimit, NoSuch, BeforeGvt, Committed}
use Rattle.tw_vtime.specs.Refusals.{limit_refusal, refusal_text}
use Rattle.tw_vtime.specs.Stamps.{stamp_text}
use Rattle.tw_vtime.specs.declared.refusal.Refusal.{Refusal}
use Rattle.tw_vtime.specs.declared.refusal.Refusal.TheVariants as table

-- what came of an item: of a late message, and where an item and its opposite are gone, with the number of steps taken back
abbrev pub received_text : Received → List ℕ
received_text Placed = codes "placed"
received_text (Straggler undone) = codes "straggler " ++ decimal undone
received_text (Annihilated undone) = codes "annihilated " ++ decimal undone
received_text Waiting = codes "waiting"

-- the theory's reasons in the table of all refusals
abbrev pub in_table : Reason → Refusal
in_table NothingDue = table.NothingDue
in_table (OverLimit limit) = limit_refusal limit
in_table NoSuch = table.NoSuch
in_table BeforeGvt = table.BeforeGvt
in_table Committed = table.Committed

-- the number and the name of a refusal
abbrev pub refused_text : Refusal → List ℕ
refused_text why = codes "refused " ++ refusal_text why

-- what came of an action or of a rewinding, or why it is refused
abbrev pub done_text : Done → List ℕ
done_text (Stepped s kind) = codes "stepped " ++ stamp_text s ++ codes " " ++ kind_text kind
done_text (Posted n) = codes "posted " ++ decimal n
done_text (Came came) = received_text came
done_text (Undone n) = codes "undone " ++ decimal n
done_text (Raised gvt) = codes "raised " ++ stamp_text gvt
done_text (Harvested n) = codes "harvested " ++ decimal n

abbrev pub answer_text : Answer → List ℕ
answer_text (Ok done) = done_text done
answer_text (Err why) = refused_text (in_table why)

abbrev pub reply_text : Reply → List ℕ
reply_text (reply.Done done) = done_text done ++ codes "\n"
reply_text reply.Marked = codes "marked\n"
reply_text (reply.Refused why) = refused_text (refusal_of why) ++ codes "\n"

-- what the executive answers to an action, as a reply
abbrev pub replied : Result Done refused.Refused → Reply
replied (Ok done) = reply.Done done
replied (Err why) = reply.Refused why
