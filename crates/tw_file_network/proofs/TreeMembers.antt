-- What a file of format tw-2 or tw-3 says, by the members that were read one after another.
use Rattle.std.proofs.Common.{◌≡◌, ◌∙◌, ℕ, List, [], true, false, ap, sym, cond}
use Rattle.std.specs.Prelude.{codes, Option, None, Some, option_and_then, option_map}
use Rattle.serde_json.specs.Data.{Data, Items}
use Rattle.serde_json.specs.Find.{get, as_array}
use Rattle.tw_machine_file.specs.Seen.{Machine}
use Rattle.tw_file_members.specs.Members.{count_at, has_members, is_file, text_at}
use Rattle.tw_file_members.specs.Tables.{has_few_numbers}
use Rattle.tw_file_network.specs.Shape.{FileInput, all_read, array_at, input_of, of_three}
use Rattle.tw_file_network.specs.TreeShape.{FileTree, TreeFile, is_tree_format, machines_file_with, tree_file_made, tree_file_of, tree_read}
use Rattle.tw_file_network.proofs.FlatMembers.{both, not_both}

-- what the members say, whatever the head of the file
abbrev pub members_say : List Machine → Data → Option TreeFile
members_say ms d = of_three tree_file_made (count_at (codes "micro_limit") d) (tree_read ms 64 d) (array_at input_of (codes "inputs") d)

module _ (d : Data) where
  pub a_tree : true ≡ is_file 5 (codes "tw-2") d → tree_file_of d ≡ members_say [] d
  a_tree is = both (has_members 5 d) (is_tree_format (text_at (codes "format") d)) (members_say [] d) (sym is)

  pub not_a_tree : false ≡ is_file 5 (codes "tw-2") d → tree_file_of d ≡ None
  not_a_tree is = not_both (has_members 5 d) (is_tree_format (text_at (codes "format") d)) (members_say [] d) (sym is)

  pub few : (ms : List Machine) → true ≡ has_few_numbers ms d → machines_file_with d ms ≡ members_say ms d
  few ms is = ap (λ b. cond b (members_say ms d) None) (sym is)

  pub not_few : (ms : List Machine) → false ≡ has_few_numbers ms d → machines_file_with d ms ≡ None
  not_few ms is = ap (λ b. cond b (members_say ms d) None) (sym is)

  pub no_limit : (ms : List Machine) → None ≡ count_at (codes "micro_limit") d → members_say ms d ≡ None
  no_limit ms none = ap (λ (o : Option ℕ). of_three tree_file_made o (tree_read ms 64 d) (array_at input_of (codes "inputs") d)) (sym none)

module _ (ms : List Machine) (d : Data) (limit : ℕ) (there : Some limit ≡ count_at (codes "micro_limit") d) where
  with_limit : (o : Option FileTree) → tree_read ms 64 d ≡ o → members_say ms d ≡ of_three tree_file_made (Some limit) o (array_at input_of (codes "inputs") d)
  with_limit o is = λ i. of_three tree_file_made (sym there i) (is i) (array_at input_of (codes "inputs") d)

  pub no_root : tree_read ms 64 d ≡ None → members_say ms d ≡ None
  no_root is = with_limit None is

  module _ (root : FileTree) (is : tree_read ms 64 d ≡ Some root) where
    with_root : (o : Option Items) → o ≡ option_and_then as_array (get (codes "inputs") d) → members_say ms d ≡ option_map (tree_file_made limit root) (option_and_then (all_read input_of) o)
    with_root o at = with_limit (Some root) is ∙ ap (λ (x : Option Items). option_map (tree_file_made limit root) (option_and_then (all_read input_of) x)) (sym at)

    pub no_inputs : None ≡ option_and_then as_array (get (codes "inputs") d) → members_say ms d ≡ None
    no_inputs none = with_root None none

    pub an_input_bad : (ds : Items) → Some ds ≡ option_and_then as_array (get (codes "inputs") d) → all_read input_of ds ≡ None → members_say ms d ≡ None
    an_input_bad ds at none = with_root (Some ds) at ∙ ap (option_map (tree_file_made limit root)) none

    pub all_say : (ds : Items) → Some ds ≡ option_and_then as_array (get (codes "inputs") d) → (inputs : List FileInput) → all_read input_of ds ≡ Some inputs → members_say ms d ≡ Some (tree_file_made limit root inputs)
    all_say ds at inputs read = with_root (Some ds) at ∙ ap (option_map (tree_file_made limit root)) read
