-- The places of components and couplings, as faults name them, and what is read of them.
use Rattle.std.specs.Prelude.{◌+◌, ◌++◌, [], ℕ, List, Option, codes, option_and_then, unwrap_or, if◌then◌else◌}
use Rattle.std.specs.Fmt.{decimal}
use Rattle.std.specs.Str.{bytes_eq}
use Rattle.serde_json.specs.Data.{Data, Items, no_items, item}
use Rattle.serde_json.specs.Find.{as_str, at}
use Rattle.tw_file_members.specs.Members.{count_of, text_in}
use Rattle.std.specs.Prelude.{Some, None}

-- component i of a model: the places and the names on its way stand before its own
abbrev pub component_place : List ℕ → List ℕ → ℕ → Data → List ℕ
component_place path prefix i c = path ++ (codes "components[" ++ (decimal i ++ (codes "] \"" ++ (prefix ++ (text_in (codes "name") c ++ codes "\"")))))

abbrev pub coupling_place : List ℕ → ℕ → List ℕ
coupling_place path i = path ++ (codes "couplings[" ++ (decimal i ++ codes "]"))

-- what stands before the places in it, and before the names in it
abbrev pub path_in : List ℕ → ℕ → List ℕ
path_in path i = path ++ (codes "components[" ++ (decimal i ++ codes "]."))

abbrev pub prefix_in : List ℕ → Data → List ℕ
prefix_in prefix c = prefix ++ (text_in (codes "name") c ++ codes ".")

-- what each item gives, of which the first has place i
abbrev pub of_each : {A : Type 0} → (ℕ → Data → List A) → ℕ → Items → List A
of_each f i no_items = []
of_each f i (item d ds) = f i d ++ of_each f (i + 1) ds

-- an item of an array, of its type
abbrev pub text_item : ℕ → Data → List ℕ
text_item i d = unwrap_or (option_and_then as_str (at i d)) []

abbrev pub count_item : ℕ → Data → Option ℕ
count_item i d = option_and_then count_of (at i d)

-- the first component of a name
abbrev pub component_named : Items → List ℕ → Option Data
component_named no_items name = None
component_named (item d ds) name = if bytes_eq (text_in (codes "name") d) name then Some d else component_named ds name
