use Rattle.std.proofs.Common.{◌≡◌, ◌∙◌, Bool, List, ℕ, Option, Ok, ap, map, sym}
use Rattle.std.specs.Prelude.{option_map}
use Rattle.serde_json.specs.Data.{Data}
use Rattle.serde_json.specs.View.{view}
use Rattle.tw_machine_declaration.specs.Seen.{Name, name}
use Rattle.tw_machine_file.specs.Declares.{is_list, new_name, parameter_named, with_parameter}
use Rattle.tw_machine_file.specs.Fault.{made}
use Rattle.tw_machine_file.specs.Names.{is_own_name}
use Rattle.tw_machine_file.specs.Seen.{Scope, scope}
use Rattle.tw_machine_file.specs.declared.fault.Part.TheVariants.{Parameters}
use Rattle.tw_machine_file.proofs.declarations.parameter_named.Goals as goal

one_more : (tables : Option Data) (s next : Scope) (text : List ℕ) (listed may : Bool) (names : List Name) → may ≡ is_own_name s.timed text → names ≡ s.names → new_name Parameters may names text ≡ Ok text
    → listed ≡ is_list tables text → with_parameter listed s text ≡ next → parameter_named tables s text ≡ Ok next
one_more tables s next text listed may names allowed before new is with =
    ap (made (with_parameter (is_list tables text) s)) (ap (λ b. new_name Parameters b s.names text) (sym allowed) ∙ ap (λ ns. new_name Parameters may ns text) (sym before) ∙ new)
    ∙ ap (λ s. Ok s) (ap (λ b. with_parameter b s text) (sym is) ∙ with)

pub returns-clause-ok : goal.returns-clause-ok
returns-clause-ok c =
    one_more (option_map (λ v. view v.now) c.args.tables) (scope c.args.so_far) (scope c.in_ok-with_parameter.field-0) c.args.text.now c.is_list-is_list.result c.is_own_name-may.result (map name c.as_slice.result.now)
    (c.is_own_name-may.ensures ∙ ap (is_own_name c.args.so_far.timed) c.as_bytes.ensures.value)
    (ap (map name) c.as_slice.ensures.value)
    c.in_ok-new_name.ensures.ok
    (c.is_list-is_list.ensures ∙ ap (is_list (option_map (λ v. view v.now) c.args.tables)) c.as_bytes-2.ensures.value)
    c.in_ok-with_parameter.ensures
