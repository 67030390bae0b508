-- Worked examples of nested networks: the value of a file, and what it says, written down by hand.
use Rattle.std.specs.Prelude.{ℕ, ◌≡◌, List, [], ◌∷◌, ◌++◌, codes, pos, Some}
use Rattle.serde_json.specs.Data.{Data, unsigned, Items, number, string, array, object, no_items, item, no_members, member}
use Rattle.tw_any_model.specs.declared.any_model.AnyModel.{AnyModel}
use Rattle.tw_any_model.specs.declared.any_model.AnyModel.TheVariants as any
use Rattle.tw_models.specs.declared.model.Model.TheVariants as model
use Rattle.tw_nested.specs.declared.tree.End.TheVariants.{Here, Part}
use Rattle.tw_nested.specs.Tree.{Parts, Link, no_parts, atom, coupled, flat_names}
use Rattle.tw_file_network.specs.TreeShape.{TreeFile, tree_file_of, tree_made}
use Rattle.tw_file_network.specs.declared.draft.AnyDraft.{AnyDraft}
use Rattle.tw_file_network.specs.declared.draft.AnyDraft.TheVariants.{BuiltIn}
use Rattle.tw_file_network.specs.declared.draft.ModelDraft.TheVariants.{Gen, Tally, Relay}
use Rattle.std.specs.Prelude.{Ok}

-- ---- the value of the file

abbrev pub count : ℕ → Data
count n = number (unsigned n)

-- a coupling: names and ports
abbrev pub between : List ℕ → ℕ → List ℕ → ℕ → Items → Items
between source from destination to rest = item (array (item (string source) (item (count from) (item (string destination) (item (count to) no_items))))) rest

abbrev pub g : Data
g = object (member (codes "model") (string (codes "gen")) (member (codes "name") (string (codes "g")) (member (codes "period") (count 2) (member (codes "value") (count 5) no_members))))

abbrev pub tally_named : List ℕ → Data
tally_named name = object (member (codes "model") (string (codes "tally")) (member (codes "name") (string name) no_members))

abbrev pub r : Data
r = object (member (codes "delay") (count 0) (member (codes "model") (string (codes "relay")) (member (codes "name") (string (codes "r")) no_members)))

-- X of r and t, with these further couplings
abbrev pub x_with : Items → Data
x_with more = object
    (member (codes "components") (array (item r (item (tally_named (codes "t")) no_items)))
    (member (codes "couplings") (array (between [] 3 (codes "r") 0 (between (codes "r") 0 (codes "t") 0 (between (codes "r") 0 [] 1 more))))
    (member (codes "name") (string (codes "X")) no_members)))

-- g, X and u, with these further couplings in X and in the root
abbrev pub nested_with : Items → Items → Data
nested_with in_x in_root = object
    (member (codes "components") (array (item g (item (x_with in_x) (item (tally_named (codes "u")) no_items))))
    (member (codes "couplings") (array (between (codes "g") 0 (codes "X") 3 (between (codes "X") 1 (codes "u") 0 in_root)))
    (member (codes "format") (string (codes "tw-2"))
    (member (codes "inputs") (array no_items)
    (member (codes "micro_limit") (count 100) no_members)))))

-- ---- what it says

abbrev pub links_in_x : List Link
links_in_x = (Here, 3, Part 0, 0) ∷ (Part 0, 0, Part 1, 0) ∷ (Part 0, 0, Here, 1) ∷ []

abbrev pub links_in_root : List Link
links_in_root = (Part 0, 0, Part 1, 3) ∷ (Part 1, 1, Part 2, 0) ∷ []

-- the same parts, of models a, b, c and d, where X has these couplings
abbrev pub parts_with : {M : Type 0} → M → M → M → M → List Link → Parts M
parts_with a b c d links = atom (codes "g") a (coupled (codes "X") (atom (codes "r") b (atom (codes "t") c no_parts)) links (atom (codes "u") d no_parts))

abbrev pub drafts_with : List Link → Parts AnyDraft
drafts_with links = parts_with (BuiltIn (Gen 2 (pos 5))) (BuiltIn (Relay 0)) (BuiltIn Tally) (BuiltIn Tally) links

abbrev pub models_with : List Link → Parts AnyModel
models_with links = parts_with (any.BuiltIn (model.Gen (record { period = 2; value = pos 5 }))) (any.BuiltIn (model.Relay (record { delay = 0 }))) (any.BuiltIn model.Tally) (any.BuiltIn model.Tally) links

abbrev pub file_with : List Link → List Link → TreeFile
file_with in_x in_root = record { micro_limit = 100; parts = drafts_with in_x; links = in_root; inputs = [] }

pub record NestedFile : Type 0 where
  pub says : tree_file_of (nested_with no_items no_items) ≡ Some (file_with links_in_x links_in_root)
  pub models : tree_made (drafts_with links_in_x) ≡ Ok (models_with links_in_x)
  pub names : flat_names [] (models_with links_in_x) ≡ codes "g" ∷ codes "X.r" ∷ codes "X.t" ∷ codes "u" ∷ []

-- two ways out of X to u
pub record NestedTwoPaths : Type 0 where
  pub says : tree_file_of (nested_with (between (codes "r") 0 [] 2 no_items) (between (codes "X") 2 (codes "u") 0 no_items))
      ≡ Some (file_with (links_in_x ++ (Part 0, 0, Here, 2) ∷ []) (links_in_root ++ (Part 1, 2, Part 2, 0) ∷ []))

-- of a name that no part has, the place is past the parts; an atom's flat name is no part's name
pub record NoSuchPart : Type 0 where
  pub says : tree_file_of (nested_with no_items (between (codes "g") 0 (codes "X.r") 0 no_items)) ≡ Some (file_with links_in_x (links_in_root ++ (Part 0, 0, Part 3, 0) ∷ []))
