-- The machine that one object of `models` declares, or the first thing that is wrong with it.
use Rattle.std.specs.Prelude.{◌++◌, ◌∷◌, [], ℕ, List, map, Bool, true, false, Option, Some, None, Result, Ok, Err, codes, pos, if◌then◌else◌}
use Rattle.serde_json.specs.Data.{Data}
use Rattle.serde_json.specs.Find.{as_object, as_str, get}
use Rattle.tw_vtime.specs.Stamps.{max_tick}
use Rattle.tw_machine_text.specs.Kinds.{kinds_of}
use Rattle.tw_machine_text.specs.Tree.{Block}
use Rattle.tw_machine_text.specs.declared.kinds.Meaning.{Meaning}
use Rattle.tw_machine_declaration.specs.Seen.{Declaration, Name, Output, Timers, Value}
use Rattle.tw_machine_declaration.specs.Timed.{hidden}
use Rattle.tw_machine_declaration.specs.declared.declaration.Timer.{Timer}
use Rattle.tw_machine_declaration.specs.declared.declaration.Constant.{Constant}
use Rattle.tw_machine_declaration.specs.declared.declaration.Constant.TheVariants as c
use Rattle.tw_machine_file.specs.Constants.{Numbers, constant, count}
use Rattle.tw_machine_file.specs.Declares.{procedures_in, scope_of, texts}
use Rattle.tw_machine_file.specs.Fault.{Fault, wrong, once, made, expected, provided}
use Rattle.tw_machine_file.specs.Names.{is_among, is_machine_name}
use Rattle.tw_machine_file.specs.Outputs.{outputs_in}
use Rattle.tw_machine_file.specs.Procedures.{procedures_said}
use Rattle.tw_machine_file.specs.Seen.{Machine, Scope, Starts, Texts, kind_of}
use Rattle.tw_machine_file.specs.Shared.{FieldSaid, SharedNames, field_named}
use Rattle.tw_machine_file.specs.Texts.{Language, program_in}
use Rattle.tw_machine_file.specs.Timed.{language_with, timed_texts}
use Rattle.tw_machine_file.specs.Timers.{least_in, names_of, timers_in}
use Rattle.tw_machine_file.specs.Values.{are_among}
use Rattle.tw_machine_file.specs.Words.{words_in}
use Rattle.tw_machine_file.specs.declared.fault.Part.TheVariants as part
use Rattle.tw_machine_file.specs.declared.fault.Sender.TheVariants as sender
use Rattle.tw_machine_file.specs.declared.fault.Why.TheVariants as why

-- ---- the name

-- a text that may be the name of a machine, and is not that of one before
abbrev pub new_name : List (List ℕ) → List ℕ → Result (List ℕ) Fault
new_name before name =
    if is_machine_name name then (if is_among before name then Err (wrong part.Name why.Twice) else Ok name) else Err (wrong part.Name why.Name)

abbrev pub name_of : List (List ℕ) → Option Data → Result (List ℕ) Fault
name_of before d = once (expected part.Name why.Missing d) (λ d. once (expected part.Name why.Shape (as_str d)) (new_name before))

abbrev pub machine_members : List (List ℕ)
machine_members =
    codes "name" ∷ codes "parameters" ∷ codes "registers" ∷ codes "queues" ∷ codes "tables" ∷ codes "observations" ∷ codes "random" ∷ codes "procedures" ∷ codes "first" ∷ codes "longest" ∷ codes "timers" ∷ codes "least"
    ∷ codes "internal" ∷ codes "external" ∷ codes "output" ∷ codes "words" ∷ []

-- an object with a name, and with no member that no machine has
abbrev pub head_of : List (List ℕ) → Data → Result (List ℕ) Fault
head_of before d =
    once (expected part.Whole why.Shape (as_object d)) (λ ms. once (name_of before (get (codes "name") d)) (λ name. provided (are_among machine_members ms) (wrong part.Whole why.Unknown) name))

-- ---- constants

-- the draw at the start is from 0 where nothing is said
abbrev pub random_in : Numbers → Option Data → Result Constant Fault
random_in numbers None = Ok (c.Number (pos 0))
random_in numbers (Some d) = constant part.Random numbers d

-- a machine with timers says neither a first wait nor a greatest one
abbrev pub first_in : (timed : Bool) → Numbers → Option Data → Result (Option Constant) Fault
first_in timed numbers None = Ok None
first_in true numbers (Some d) = Err (wrong part.First why.Unknown)
first_in false numbers (Some d) = made Some (constant part.First numbers d)

-- from 1 to the last tick
abbrev pub longest_in : (timed : Bool) → Numbers → Option Data → Result (Option Constant) Fault
longest_in timed numbers None = Ok None
longest_in true numbers (Some d) = Err (wrong part.Longest why.Unknown)
longest_in false numbers (Some d) = made Some (count part.Longest max_tick numbers d)

abbrev pub starts_made : Constant → Option Constant → Option Constant → Starts
starts_made random first longest = record { random = random; first = first; longest = longest }

-- behind `random` come the names of procedures
abbrev pub starts_of : Data → (timed : Bool) → Numbers → Constant → Result Starts Fault
starts_of d timed numbers random =
    once (first_in timed numbers (get (codes "first") d)) (λ first.
    made (starts_made random first) (longest_in timed numbers (get (codes "longest") d)))

-- ---- texts

-- the names in a machine's texts, each with what it is
abbrev pub declared : List FieldSaid → List Name → List (List ℕ × Meaning)
declared fields names = map (λ n. (n.0, record { kind = kind_of n.1; field = field_named fields n.0 })) names

-- of a machine without timers
unfoldable pub language : List FieldSaid → List Name → Language
language fields names = record { names = texts names; timing = None; kinds = kinds_of (declared fields names) }

abbrev pub texts_made : Block → Block → List Output → List Value → Texts
texts_made internal external outputs words = record { sends = false; internal = internal; external = external; outputs = outputs; words = words }

-- what is said in the machine's language, by its members in order
abbrev pub texts_of : Data → Language → Result Texts Fault
texts_of d l =
    once (procedures_said l (get (codes "procedures") d)) (λ procedures.
    once (program_in l procedures part.Internal (get (codes "internal") d)) (λ internal.
    once (program_in l procedures part.External (get (codes "external") d)) (λ external.
    once (outputs_in l sender.Machine (get (codes "output") d)) (λ outputs.
    made (texts_made internal external outputs) (words_in l (get (codes "words") d))))))

-- what a machine of these names says
abbrev pub texts_by : (timed : Bool) → List FieldSaid → Scope → Data → Result Texts Fault
texts_by true fields s d = timed_texts (language_with (declared fields s.names) (names_of s)) (names_of s) d
texts_by false fields s d = texts_of d (language fields s.names)

abbrev pub texts_in : List FieldSaid → Scope → Data → Result Texts Fault
texts_in fields s d = texts_by s.timed fields s d

-- ---- the machine, by its members in order

abbrev pub timers_of : (timed : Bool) → List Timer → Option Constant → Option Timers
timers_of true each least = Some (record { each = each; least = least })
timers_of false each least = None

-- all names: those that it declares, and those that its timers have behind them
abbrev pub all_names : List Name → Option Timers → (sends : Bool) → List Name
all_names names (Some ts) sends = names ++ hidden ts sends
all_names names None sends = names

-- what is declared by its names, its constants and its texts
abbrev pub declaration_made : Scope → Starts → Option Constant → Texts → Declaration
declaration_made s starts least texts =
    let timers = timers_of s.timed s.timers least in
    record {
      names = all_names s.names timers texts.sends;
      random = starts.random;
      first = starts.first;
      longest = starts.longest;
      timers = timers;
      internal = texts.internal;
      external = texts.external;
      outputs = texts.outputs;
      words = texts.words;
    }

abbrev pub machine_made : List ℕ → Scope → Starts → Option Constant → Texts → Machine
machine_made name s starts least texts = record { name = name; declaration = declaration_made s starts least texts; numbers = s.numbers.parameters; lists = s.lists }

-- in a file that says this, behind machines of these names
abbrev pub machine_of : SharedNames → List (List ℕ) → Data → Result Machine Fault
machine_of shared before d =
    once (head_of before d) (λ name.
    once (scope_of shared d) (λ s.
    once (random_in s.numbers (get (codes "random") d)) (λ random.
    once (procedures_in s (get (codes "procedures") d)) (λ s.
    once (starts_of d s.timed s.numbers random) (λ starts.
    once (timers_in s (get (codes "timers") d)) (λ s.
    once (least_in s (get (codes "least") d)) (λ least.
    made (machine_made name s starts least) (texts_in shared.fields s d))))))))
