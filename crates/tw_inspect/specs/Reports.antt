-- The report and the descriptions of an executive, as functions of its contents.
--     shown_at meaning e c      what is read of component c, if there is one
--     component_line shown      its line: commit line, next steps, last transition, lengths of its lists, words
--     report_text meaning e      global virtual time, and the line of each component
--     describe_text meaning e c      the line of component c, and all its messages
use Rattle.std.specs.Prelude.{ℕ, ℤ, ◌++◌, List, [], codes, flat_map, length, Option, None, Some, slice_get, slice_index_or}
use Rattle.std.specs.Fmt.{decimal}
use Rattle.std.specs.List.{range_with_len}
use Rattle.std.specs.Option.{option_map_or}
use Rattle.tw_atomic.specs.Atomic.{Meaning}
use Rattle.tw_exec.specs.Running.{Running}
use Rattle.tw_msgs.specs.Counting.{total}
use Rattle.tw_msgs.specs.Messages.{sorted_messages}
use Rattle.tw_msgs.specs.declared.message.Item.{Item}
use Rattle.tw_msgs.specs.declared.message.Message.{Message}
use Rattle.tw_texts.specs.Items.{message_text, sign_text}
use Rattle.tw_texts.specs.Texts.{time_text, words_text}
use Rattle.tw_theory.specs.Contents.{Cancel, Aggressive, Lazy, Process, next}
use Rattle.tw_theory.specs.Executive.{World, mail_of}
use Rattle.tw_vtime.specs.Stamps.{stamp_text}

-- ---- what is read of a component

-- its name, its process, its mailbox, and the words of its present state
pub record Shown (S : Type 0) : Type 0 where
  pub name : List ℕ
  pub process : Process S
  pub mail : List Item
  pub words : List ℤ

abbrev pub seen : {M S : Type 0} → (M → Meaning S) → List ℕ → M → Process S → List Item → Shown S
seen meaning name model p mail = record { name = name; process = p; mail = mail; words = (meaning model).words p.now.state }

abbrev pub seen_if_there : {M S : Type 0} → (M → Meaning S) → Option (List ℕ) → Option M → Option (Process S) → List Item → Option (Shown S)
seen_if_there meaning (Some name) (Some model) (Some p) mail = Some (seen meaning name model p mail)
seen_if_there meaning (Some name) (Some model) None mail = None
seen_if_there meaning (Some name) None p mail = None
seen_if_there meaning None model p mail = None

-- component c, if there is one
abbrev pub shown_at : {M S : Type 0} → (M → Meaning S) → Running M S → ℕ → Option (Shown S)
shown_at meaning e c =
    seen_if_there meaning (slice_get e.network.names c) (slice_get e.network.models c) (slice_get e.world.processes c) (mail_of e.world.mail c)

-- the text of what is there
abbrev pub text_if : {S : Type 0} → (Shown S → List ℕ) → Option (Shown S) → List ℕ
text_if text shown = option_map_or text shown []

-- ---- its line

-- the commit line, the next step, the next own step, the last transition
abbrev pub stamps_part : {S : Type 0} → Process S → List ℕ
stamps_part p =
    codes " line " ++ stamp_text p.line ++ codes " next " ++ stamp_text (next p) ++ codes " due " ++ stamp_text p.now.due ++ codes " last " ++ time_text p.now.last

-- how many messages are owed: said only where steps are cancelled lazily
abbrev pub owed_part : Cancel → ℕ → List ℕ
owed_part Aggressive count = []
owed_part Lazy count = codes " owed " ++ decimal count

-- how many steps are not committed, and how many messages stand in each list
abbrev pub counts_part : {S : Type 0} → Process S → List ℕ
counts_part p =
    codes " steps " ++ decimal (length p.history) ++ codes " pending " ++ decimal (length p.pending) ++ codes " waiting " ++ decimal (length p.waiting)
    ++ codes " outgoing " ++ decimal (length p.outgoing) ++ owed_part p.cancel (length p.owed)

-- how many items its mailbox has, and the words of its state
abbrev pub words_part : ℕ → List ℤ → List ℕ
words_part mail words = codes " mail " ++ decimal mail ++ codes " | " ++ words_text words ++ codes "\n"

abbrev pub component_line : {S : Type 0} → Shown S → List ℕ
component_line shown = shown.name ++ stamps_part shown.process ++ counts_part shown.process ++ words_part (length shown.mail) shown.words

-- ---- the report

-- global virtual time, and how many records are committed
abbrev pub gvt_line : {S : Type 0} → World S → List ℕ
gvt_line w = codes "gvt " ++ stamp_text w.gvt ++ codes " committed " ++ decimal (total length w.columns) ++ codes "\n"

-- the lines of components 0 to n - 1
abbrev pub lines_below : {M S : Type 0} → (M → Meaning S) → Running M S → ℕ → List ℕ
lines_below meaning e n = flat_map (λ c. text_if component_line (shown_at meaning e c)) (range_with_len 0 n)

abbrev pub report_text : {M S : Type 0} → (M → Meaning S) → Running M S → List ℕ
report_text meaning e = gvt_line e.world ++ lines_below meaning e (length e.network.models)

-- ---- the description

-- the name of a component; of a number that no component has, nothing
abbrev pub name_at : List (List ℕ) → ℕ → List ℕ
name_at names c = slice_index_or names c []

abbrev pub pending_line : Message → List ℕ
pending_line m = codes "pending " ++ message_text m ++ codes "\n"

abbrev pub waiting_line : Message → List ℕ
waiting_line m = codes "waiting " ++ message_text m ++ codes "\n"

-- with the sign, and the receiver's name
abbrev pub outgoing_line : List (List ℕ) → Item → List ℕ
outgoing_line names i = codes "outgoing " ++ sign_text i.sign ++ codes " " ++ name_at names i.message.to ++ codes " " ++ message_text i.message ++ codes "\n"

abbrev pub owed_line : List (List ℕ) → Message → List ℕ
owed_line names m = codes "owed " ++ name_at names m.to ++ codes " " ++ message_text m ++ codes "\n"

abbrev pub mail_line : Item → List ℕ
mail_line i = codes "mail " ++ sign_text i.sign ++ codes " " ++ message_text i.message ++ codes "\n"

-- what is owed: told only where steps are cancelled lazily
abbrev pub owed_lines : List (List ℕ) → Cancel → List Message → List ℕ
owed_lines names Aggressive owed = []
owed_lines names Lazy owed = flat_map (owed_line names) owed

-- its pending messages by stamp, port and value; those whose anti-messages wait in order of arrival; all others as they stand in their lists
abbrev pub messages_part : {S : Type 0} → List (List ℕ) → Process S → List Item → List ℕ
messages_part names p mail =
    flat_map pending_line (sorted_messages p.pending) ++ flat_map waiting_line p.waiting ++ flat_map (outgoing_line names) p.outgoing
    ++ owed_lines names p.cancel p.owed ++ flat_map mail_line mail

abbrev pub description : {S : Type 0} → List (List ℕ) → Shown S → List ℕ
description names shown = component_line shown ++ messages_part names shown.process shown.mail

abbrev pub describe_text : {M S : Type 0} → (M → Meaning S) → Running M S → ℕ → List ℕ
describe_text meaning e c = text_if (description e.network.names) (shown_at meaning e c)
