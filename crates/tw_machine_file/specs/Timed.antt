-- What the timers of a machine do and send, and what the machine does and sends with them.
use Rattle.std.specs.Prelude.{◌++◌, ◌∷◌, [], ℕ, List, Bool, true, false, ◌||◌, Option, Some, None, is_some, Result, Ok, Err, codes, length, map}
use Rattle.std.specs.List.{list_any}
use Rattle.std.specs.Option.{option_map_or}
use Rattle.serde_json.specs.Data.{Data, Items, no_items, item}
use Rattle.serde_json.specs.Find.{as_array, get}
use Rattle.tw_machine_text.specs.Kinds.{kinds_of}
use Rattle.tw_machine_text.specs.declared.kinds.Meaning.{Meaning}
use Rattle.tw_machine_text.specs.Tree.{Block}
use Rattle.tw_machine_declaration.specs.Seen.{Output, Value}
use Rattle.tw_machine_declaration.specs.Timed.{Names, TimerOutput, before_name, ended, internal, outputs, ports_name, pushes, timing}
use Rattle.tw_machine_file.specs.Fault.{Fault, wrong, once, made}
use Rattle.tw_machine_file.specs.Outputs.{outputs_in}
use Rattle.tw_machine_file.specs.Procedures.{procedures_said}
use Rattle.tw_machine_file.specs.Seen.{Texts}
use Rattle.tw_machine_file.specs.Texts.{Language, program_in}
use Rattle.tw_machine_file.specs.Words.{words_in}
use Rattle.tw_machine_file.specs.declared.fault.Part.{Part}
use Rattle.tw_machine_file.specs.declared.fault.Part.TheVariants as part
use Rattle.tw_machine_file.specs.declared.fault.Sender.TheVariants as sender
use Rattle.tw_machine_file.specs.declared.fault.Why.TheVariants as why

-- a member that no machine with timers has
abbrev pub absent : Part → Option Data → Result (Unit {0}) Fault
absent at None = Ok tt
absent at (Some d) = Err (wrong at why.Unknown)

-- the language of a machine with timers, whose texts may name these: that of texts of no timer with a count
unfoldable pub language_with : List (List ℕ × Meaning) → Names → Language
language_with declared n = record { names = map (λ d. d.0) declared; timing = Some (timing n None); kinds = kinds_of declared }

-- the name of how many timers are before the one at place k, where this has a count
abbrev pub own_name : Names → ℕ → (counted : Bool) → Option ℕ
own_name n k true = Some (before_name n k)
own_name n k false = None

-- the language of the texts of the timer at place k: of one with a count `which` is its number
abbrev pub language_at : Names → ℕ → (counted : Bool) → Language → Language
language_at n k counted l = record { names = l.names; timing = Some (timing n (own_name n k counted)); kinds = l.kinds }

-- what a timer does and sends
pub record TimerText : Type 0 where
  pub program : Block
  pub outputs : List Output

-- what all timers do and send, in order
pub record TimerTexts : Type 0 where
  pub programs : List Block
  pub outputs : List TimerOutput

abbrev pub no_texts : TimerTexts
no_texts = record { programs = []; outputs = [] }

abbrev pub text_made : Block → List Output → TimerText
text_made program outputs = record { program = program; outputs = outputs }

abbrev pub is_counted : Data → Bool
is_counted d = is_some (get (codes "count") d)

-- what a timer does and sends in its language, in which procedures are read anew
abbrev pub text_in : Language → Option Data → ℕ → Data → Result TimerText Fault
text_in l said k d =
    once (procedures_said l said) (λ procedures.
    once (program_in l procedures (part.TimerProgram k) (get (codes "do") d)) (λ program.
    made (text_made program) (outputs_in l (sender.Timer k) (get (codes "output") d))))

abbrev pub text_of : Language → Names → Option Data → ℕ → Data → Result TimerText Fault
text_of l n said k d = text_in (language_at n k (is_counted d) l) said k d

abbrev pub outputs_by : ℕ → (counted : Bool) → List Output → List TimerOutput
outputs_by k counted os = map (λ o. record { timer = k; counted = counted; output = o }) os

abbrev pub with_text : TimerTexts → ℕ → (counted : Bool) → TimerText → TimerTexts
with_text ts k counted t = record { programs = ts.programs ++ t.program ∷ []; outputs = ts.outputs ++ outputs_by k counted t.outputs }

-- one timer more, behind those before
abbrev pub text_behind : Language → Names → Option Data → TimerTexts → Data → Result TimerTexts Fault
text_behind l n said ts d = made (with_text ts (length ts.programs) (is_counted d)) (text_of l n said (length ts.programs) d)

abbrev pub texts_behind : Language → Names → Option Data → TimerTexts → Items → Result TimerTexts Fault
texts_behind l n said ts no_items = Ok ts
texts_behind l n said ts (item d ds) = once (text_behind l n said ts d) (λ next. texts_behind l n said next ds)

-- the entries of `timers`
abbrev pub entries_in : Option Items → Items
entries_in (Some items) = items
entries_in None = no_items

abbrev pub timers_said : Data → Items
timers_said d = option_map_or (λ timers. entries_in (as_array timers)) (get (codes "timers") d) no_items

-- in the core of the language; something is sent at any time where `send` stands in a program
abbrev pub sends : Names → Block → List Block → Bool
sends n external programs = pushes (ports_name n) external || list_any (pushes (ports_name n)) programs

abbrev pub core_by : (sends : Bool) → Names → Block → TimerTexts → List Value → Texts
core_by sends n external ts words =
    record {
      sends = sends;
      internal = internal n sends ts.programs;
      external = ended n sends external;
      outputs = outputs n sends ts.outputs;
      words = words;
    }

abbrev pub in_core : Names → Block → TimerTexts → List Value → Texts
in_core n external ts words = core_by (sends n external ts.programs) n external ts words

-- what a machine with timers says, by its members in order
abbrev pub timed_texts : Language → Names → Data → Result Texts Fault
timed_texts l n d =
    once (procedures_said l (get (codes "procedures") d)) (λ procedures.
    once (absent part.Internal (get (codes "internal") d)) (λ none.
    once (program_in l procedures part.External (get (codes "external") d)) (λ external.
    once (texts_behind l n (get (codes "procedures") d) no_texts (timers_said d)) (λ ts.
    once (absent (part.Output sender.Machine) (get (codes "output") d)) (λ none.
    made (in_core n external ts) (words_in l (get (codes "words") d)))))))
