-- The texts of times, bags, words, records and faults.
--     time_text s      the time of a stamp, or `end`
--     bag_text bag, words_text words, kind_text kind      parts of a line
--     step_line name at kind bag words, record_line name r, fault_line name at limit      whole lines, each with its newline
--     Gathered      the text of lines that are not written yet
--     trace_text name_of rs      the lines of records, one after another
use Rattle.std.specs.Prelude.{◌==◌, ◌++◌, ◌∷◌, [], ℕ, ℤ, List, codes, flat_map, if◌then◌else◌}
use Rattle.std.specs.List.{join_by}
use Rattle.std.specs.Fmt.{decimal, signed_decimal}
use Rattle.tw_vtime.specs.Stamps.{never, tick_of, micro_of}
use Rattle.tw_vtime.specs.declared.limits.Limit.{Limit}
use Rattle.tw_vtime.specs.declared.limits.Limit.TheVariants.{Microstep, Tick}
use Rattle.tw_msgs.specs.declared.record.Record.{Record}
use Rattle.tw_msgs.specs.declared.record_kind.RecordKind.{RecordKind}
use Rattle.tw_msgs.specs.declared.record_kind.RecordKind.TheVariants.{Out, Int, Ext, Con}

-- tick and microstep, as 3.0; of the end of time, end
abbrev pub time_text : ℕ → List ℕ
time_text s = if s == never then codes "end" else (decimal (tick_of s) ++ codes "." ++ decimal (micro_of s))

-- port and value, as 0=5
abbrev pub item_text : ℕ × ℤ → List ℕ
item_text x = decimal x.0 ++ codes "=" ++ signed_decimal x.1

-- the items with a space between each two; of the empty bag, -
abbrev pub bag_text : List (ℕ × ℤ) → List ℕ
bag_text [] = codes "-"
bag_text (x ∷ xs) = join_by item_text (codes " ") (x ∷ xs)

-- the numbers with a space between each two
abbrev pub words_text : List ℤ → List ℕ
words_text words = join_by signed_decimal (codes " ") words

-- the kinds of steps
abbrev pub kind_text : RecordKind → List ℕ
kind_text Out = codes "out"
kind_text Int = codes "int"
kind_text Ext = codes "ext"
kind_text Con = codes "con"

-- what a component did: its bag, the words of its new state
abbrev pub step_text : RecordKind → List (ℕ × ℤ) → List ℤ → List ℕ
step_text Out bag words = codes "out " ++ bag_text bag
step_text Int bag words = codes "int | " ++ words_text words
step_text Ext bag words = codes "ext " ++ bag_text bag ++ codes " | " ++ words_text words
step_text Con bag words = codes "con " ++ bag_text bag ++ codes " | " ++ words_text words

-- the line of a step at a stamp, of the component with a name
abbrev pub step_line : List ℕ → ℕ → RecordKind → List (ℕ × ℤ) → List ℤ → List ℕ
step_line name at kind bag words = time_text at ++ codes " " ++ name ++ codes " " ++ step_text kind bag words ++ codes "\n"

abbrev pub record_line : List ℕ → Record → List ℕ
record_line name r = step_line name r.stamp r.kind r.bag r.words

abbrev pub limit_text : Limit → List ℕ
limit_text Microstep = codes "microstep"
limit_text Tick = codes "tick"

abbrev pub fault_line : List ℕ → ℕ → Limit → List ℕ
fault_line name at limit = codes "fault: " ++ limit_text limit ++ codes " limit: " ++ name ++ codes " at " ++ time_text at ++ codes "\n"

-- what is gathered of lines
pub record Gathered : Type 0 where
  pub text : List ℕ

-- the lines of records, with the names of their components
abbrev pub trace_text : (ℕ → List ℕ) → List Record → List ℕ
trace_text name_of records = flat_map (λ r. record_line (name_of r.component) r) records
