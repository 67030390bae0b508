-- The member `output`: what is sent.
use Rattle.std.specs.Prelude.{◌∷◌, [], ℕ, ◌+◌, List, Option, Some, None, Result, Ok, codes, nat_le}
use Rattle.serde_json.specs.Data.{Data, Items, no_items, item, Members}
use Rattle.serde_json.specs.Events.{items_len}
use Rattle.serde_json.specs.Find.{as_array, as_object, get}
use Rattle.tw_machine.specs.Limits.{max_outputs}
use Rattle.tw_machine_text.specs.declared.kinds.Member.TheVariants as member
use Rattle.tw_machine_text.specs.Tree.{Tree}
use Rattle.tw_machine_declaration.specs.Seen.{Value, Output}
use Rattle.tw_machine_file.specs.Fault.{Fault, wrong, once, made, with_rest, expected, provided}
use Rattle.tw_machine_file.specs.Texts.{Language, tree_in, value_in}
use Rattle.tw_machine_file.specs.Values.{are_among}
use Rattle.tw_machine_file.specs.declared.fault.Part.{Part}
use Rattle.tw_machine_file.specs.declared.fault.Part.TheVariants as part
use Rattle.tw_machine_file.specs.declared.fault.Sender.{Sender}
use Rattle.tw_machine_file.specs.declared.fault.Why.TheVariants as why

abbrev pub output_members : List (List ℕ)
output_members = codes "port" ∷ codes "value" ∷ codes "when" ∷ codes "each" ∷ []

-- an object of these members alone
abbrev pub entry_of : Part → Data → Result Members Fault
entry_of at d =
    once (expected at why.Shape (as_object d)) (λ ms. provided (are_among output_members ms) (wrong at why.Unknown) ms)

-- a member that must be there
abbrev pub sent_value : Language → Part → Option Data → Result Value Fault
sent_value l at d = once (expected at why.Missing d) (value_in l at member.Value)

abbrev pub when_of : Language → Part → Option Data → Result (Option Value) Fault
when_of l at None = Ok None
when_of l at (Some d) = made Some (value_in l at member.Value d)

abbrev pub each_of : Language → Part → Option Data → Result (Option Tree) Fault
each_of l at None = Ok None
each_of l at (Some d) = made Some (tree_in l at member.Each d)

abbrev pub output_made : Value → Value → Option Value → Option Tree → Output
output_made port sent when each = record { port = port; sent = sent; when = when; each = each }

-- its members in order
abbrev pub output_of : Language → Sender → ℕ → Data → Result Output Fault
output_of l by i d =
    once (entry_of (part.Entry by i) d) (λ ms.
    once (sent_value l (part.Port by i) (get (codes "port") d)) (λ port.
    once (sent_value l (part.Value by i) (get (codes "value") d)) (λ sent.
    once (when_of l (part.When by i) (get (codes "when") d)) (λ when.
    made (output_made port sent when) (each_of l (part.Each by i) (get (codes "each") d))))))

-- the entries from place i on
abbrev pub outputs_of : Language → Sender → ℕ → Items → Result (List Output) Fault
outputs_of l by i no_items = Ok []
outputs_of l by i (item d ds) = with_rest (output_of l by i d) (outputs_of l by (i + 1) ds)

-- an array of at most 64
abbrev pub few_outputs : Sender → Data → Result Items Fault
few_outputs by d =
    once (expected (part.Output by) why.Shape (as_array d)) (λ items. provided (nat_le (items_len items) max_outputs) (wrong (part.Output by) why.Count) items)

-- the member, of the machine or of a timer, if there is one
abbrev pub outputs_in : Language → Sender → Option Data → Result (List Output) Fault
outputs_in l by None = Ok []
outputs_in l by (Some d) = once (few_outputs by d) (outputs_of l by 0)
