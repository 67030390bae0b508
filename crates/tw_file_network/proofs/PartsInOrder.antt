-- Parts one by one: those that are read or made so far, and those still to come.
use Rattle.std.proofs.Common.{◌≡◌, ◌≢◌, ◌∙◌, ◌+◌, ◌<◌, ◌++◌, ◌∷◌, [], ℕ, suc, List, refl, sym, ap, subst, length, drop, get_or, add-one, drop-cons, arith, String, string_bytes, append_assoc}
use Rattle.std.proofs.Math.ListN.{drop_of_length-le}
use Rattle.std.specs.Prelude.{◌≤◌, true, if◌then◌else◌, codes, Option, Some, None, option_and_then, option_map, Result, Ok, Err}
use Rattle.std.specs.Option.{option_or}
use Rattle.std.specs.Result.{IfErr, IsErrAnd}
use Rattle.std.specs.declared.alloc.Global.{Global}
use Rattle.serde_json.specs.Data.{Data, Items}
use Rattle.serde_json.specs.Find.{get, as_array}
use Rattle.serde_json.specs.View.{view, items_view}
use Rattle.serde_json.specs.declared.value.Value.{Value}
use Rattle.tw_any_model.specs.declared.any_model.AnyModel.{AnyModel}
use Rattle.tw_machine_file.specs.Seen.{Machine}
use Rattle.tw_file_members.specs.Members.{has_members, text_at}
use Rattle.tw_nested.specs.declared.tree.Nested.{Nested}
use Rattle.tw_nested.specs.declared.tree.Part.{Part, Atom, Coupled, roll-Part, out-Part, fold-roll-Part, roll-out-Part}
use Rattle.tw_nested.specs.declared.tree.Part.TheOpen.{Part-F}
use Rattle.tw_nested.proofs.TreeViews.{part_view-atom, part_view-coupled}
use Rattle.tw_nested.specs.Tree.{Parts, Link, no_parts, atom, coupled, part_view, parts_of, part_step, nested_step}
use Rattle.tw_file_network.specs.Components.{after, any_model_of}
use Rattle.tw_file_network.specs.Shape.{FileComponent, FileCoupling, all_read, array_at, component_of, coupling_of, of_two}
use Rattle.tw_file_network.specs.TreeShape.{FileTree, coupled_read, links_named, part_names, part_read, parts_read, tree_made, tree_read}
use Rattle.tw_file_network.specs.declared.draft.AnyDraft.{AnyDraft}
use Rattle.tw_file_network.specs.declared.refused.FileRefused.{FileRefused}
use Rattle.tw_file_network.specs.declared.refused.FileRefused.TheVariants.{OutOfMemory}

-- these parts, and then the rest
abbrev pub parts_then : {M : Type 0} → List (String Global × Part M) → Parts M → Parts M
parts_then [] rest = rest
parts_then {M} (p ∷ ps) rest = part_view {M = M} p.1 (string_bytes p.0) (parts_then {M = M} ps rest)

pub all_parts : {M : Type 0} (ps : List (String Global × Part M)) → parts_then {M = M} ps no_parts ≡ parts_of {M = M} ps
all_parts [] = refl
all_parts {M} (p ∷ ps) = ap (part_view {M = M} p.1 (string_bytes p.0)) (all_parts {M = M} ps)

pub one_part_more : {M : Type 0} (ps : List (String Global × Part M)) (p : String Global × Part M) (rest : Parts M) → parts_then {M = M} ps (part_view {M = M} p.1 (string_bytes p.0) rest) ≡ parts_then {M = M} (ps ++ p ∷ []) rest
one_part_more [] p rest = refl
one_part_more {M} (q ∷ ps) p rest = ap (part_view {M = M} q.1 (string_bytes q.0)) (one_part_more {M = M} ps p rest)

-- the list from a place on, by what stands there
pub at_place : {A : Type 0} (ps qs : List A) (i : ℕ) (q : A) → qs ≡ ps → i < length qs → q ≡ get_or qs i q → drop i ps ≡ q ∷ drop (i + 1) ps
at_place {A} ps qs i q same lt is =
    let inside : i < length ps = subst (λ (xs : List A). i < length xs) same lt in
    let here : get_or ps i q ≡ q = sym (is ∙ ap (λ (xs : List A). get_or xs i q) same) in
    let next : suc i ≡ i + 1 = omega arith in
    drop-cons ps i q inside ∙ (λ j. here j ∷ drop (next j) ps)

-- past the end nothing is left
pub none_left : {A : Type 0} (ps qs : List A) (i : ℕ) → qs ≡ ps → length qs ≤ i → drop i ps ≡ []
none_left {A} ps qs i same past = drop_of_length-le ps (subst (λ (xs : List A). length xs ≤ i) same past)

-- ---- an error that is passed on

pub passed_on : {A : Type 0} (r : Result A FileRefused) (f : FileRefused) (P : FileRefused → Type 0) → IsErrAnd r (λ e. e ≡ f) → (f ≢ OutOfMemory → P f) → IfErr r (λ e. e ≢ OutOfMemory → P e)
passed_on (Ok x) f P is at = tt
passed_on (Err e) f P is at = λ other. subst P (sym is) (at (λ same. other (is ∙ same)))

-- ---- reading

-- what the values from i on read, after the parts that were read before
abbrev pub parts_left : List Machine → (Data → Option FileTree) → List Value → List (String Global × Part AnyDraft) → ℕ → Option (Parts AnyDraft)
parts_left ms tree vs done i = option_map (parts_then {M = AnyDraft} done) (parts_read ms tree (items_view (drop i vs)))

regroup : (done : List (String Global × Part AnyDraft)) (p : String Global × Part AnyDraft) (o : Option (Parts AnyDraft))
    → option_map (parts_then {M = AnyDraft} done) (option_map (part_view {M = AnyDraft} p.1 (string_bytes p.0)) o) ≡ option_map (parts_then {M = AnyDraft} (done ++ p ∷ [])) o
regroup done p None = refl
regroup done p (Some rest) = ap (λ (x : Parts AnyDraft). Some x) (one_part_more {M = AnyDraft} done p rest)

pub part_more : (ms : List Machine) (tree : Data → Option FileTree) (vs : List Value) (done : List (String Global × Part AnyDraft)) (i : ℕ) (v : Value) (p : String Global × Part AnyDraft)
    → i < length vs → part_read ms tree (view (get_or vs i v)) ≡ Some (part_view {M = AnyDraft} p.1 (string_bytes p.0)) → parts_left ms tree vs done i ≡ parts_left ms tree vs (done ++ p ∷ []) (i + 1)
part_more ms tree vs done i v p h is = rw (add-one, drop-cons vs i v h, is) (regroup done p (parts_read ms tree (items_view (drop (suc i) vs))))

pub no_part : (ms : List Machine) (tree : Data → Option FileTree) (vs : List Value) (done : List (String Global × Part AnyDraft)) (i : ℕ) (v : Value)
    → i < length vs → part_read ms tree (view (get_or vs i v)) ≡ None → parts_left ms tree vs done i ≡ None
no_part ms tree vs done i v h is = rw (drop-cons vs i v h, is) refl

pub all_read_parts : (ms : List Machine) (tree : Data → Option FileTree) (vs : List Value) (done : List (String Global × Part AnyDraft)) (i : ℕ) → length vs ≤ i → parts_left ms tree vs done i ≡ Some (parts_of {M = AnyDraft} done)
all_read_parts ms tree vs done i past =
    ap (λ (xs : List Value). option_map (parts_then {M = AnyDraft} done) (parts_read ms tree (items_view xs))) (none_left vs vs i refl past)
    ∙ ap (λ (x : Parts AnyDraft). Some x) (all_parts {M = AnyDraft} done)

-- a model is read as its parts and couplings are
module _ (ms : List Machine) (room r : ℕ) (above : room ≡ suc r) (d : Data) (ds : Items) (components : Some ds ≡ option_and_then as_array (get (codes "components") d)) where
  of_parts : (o : Option (Parts AnyDraft)) → parts_read ms (tree_read ms r) ds ≡ o → tree_read ms room d ≡ of_two (λ parts couplings. (parts, links_named parts couplings)) o (array_at coupling_of (codes "couplings") d)
  of_parts o is =
      ap (λ n. tree_read ms n d) above
      ∙ ap (λ (x : Option Items). of_two (λ parts couplings. (parts, links_named parts couplings)) (option_and_then (parts_read ms (tree_read ms r)) x) (array_at coupling_of (codes "couplings") d)) (sym components)
      ∙ ap (λ (x : Option (Parts AnyDraft)). of_two (λ parts couplings. (parts, links_named parts couplings)) x (array_at coupling_of (codes "couplings") d)) is

  pub no_tree : parts_read ms (tree_read ms r) ds ≡ None → tree_read ms room d ≡ None
  no_tree is = of_parts None is

  pub whole_tree : (parts : Parts AnyDraft) (ks : Items) (couplings : List FileCoupling) → parts_read ms (tree_read ms r) ds ≡ Some parts
      → Some ks ≡ option_and_then as_array (get (codes "couplings") d) → all_read coupling_of ks ≡ Some couplings → tree_read ms room d ≡ Some (parts, links_named parts couplings)
  whole_tree parts ks couplings is there read =
      of_parts (Some parts) is
      ∙ ap (λ (x : Option Items). of_two (λ parts couplings. (parts, links_named parts couplings)) (Some parts) (option_and_then (all_read coupling_of) x)) (sym there)
      ∙ ap (λ (x : Option (List FileCoupling)). of_two (λ parts couplings. (parts, links_named parts couplings)) (Some parts) x) read

  pub no_links : (parts : Parts AnyDraft) (ks : Items) → parts_read ms (tree_read ms r) ds ≡ Some parts
      → Some ks ≡ option_and_then as_array (get (codes "couplings") d) → all_read coupling_of ks ≡ None → tree_read ms room d ≡ None
  no_links parts ks is there none =
      of_parts (Some parts) is
      ∙ ap (λ (x : Option Items). of_two (λ parts couplings. (parts, links_named parts couplings)) (Some parts) (option_and_then (all_read coupling_of) x)) (sym there)
      ∙ ap (λ (x : Option (List FileCoupling)). of_two (λ parts couplings. (parts, links_named parts couplings)) (Some parts) x) none

-- a part is read as the atom, or else as the coupled model, that it is
module _ (ms : List Machine) (tree : Data → Option FileTree) (d : Data) (name n : List ℕ) (same : name ≡ n) where
  pub an_atom : (m : AnyDraft) → component_of ms d ≡ Some (n, m) → part_read ms tree d ≡ Some (part_view {M = AnyDraft} (Atom m) name)
  an_atom m is =
      ap (λ (o : Option FileComponent). option_or (option_map (λ c. atom c.0 c.1) o) (coupled_read tree d)) is
      ∙ ap (λ (k : List ℕ). Some (atom k m)) (sym same)
      ∙ ap (λ (v : List ℕ → Parts AnyDraft → Parts AnyDraft). Some (v name)) (sym (part_view-atom {M = AnyDraft} m))

  pub a_model : (inner : Nested AnyDraft) → component_of ms d ≡ None → has_members 3 d ≡ true → text_at (codes "name") d ≡ Some n
      → tree d ≡ Some (parts_of {M = AnyDraft} inner.parts.items, inner.couplings.items) → part_read ms tree d ≡ Some (part_view {M = AnyDraft} (Coupled inner) name)
  a_model inner none has text read =
      ap (λ (o : Option FileComponent). option_or (option_map (λ c. atom c.0 c.1) o) (coupled_read tree d)) none
      ∙ (λ i. if has i then of_two (λ k t. coupled k t.0 t.1) (text i) (read i) else None)
      ∙ ap (λ (k : List ℕ). Some (coupled k (parts_of {M = AnyDraft} inner.parts.items) inner.couplings.items)) (sym same)
      ∙ ap (λ (v : List ℕ → Parts AnyDraft → Parts AnyDraft). Some (v name)) (sym (part_view-coupled {M = AnyDraft} inner))

-- ---- names

name_open : {M : Type 0} (d : Part-F M (Part M) (Nested M)) (name : List ℕ) (rest : Parts M) → part_names (part_view {M = M} (roll-Part M d) name rest) ≡ name ∷ part_names rest
name_open {M} (Part-F.Atom m) name rest = ap (λ (f : List ℕ → Parts M → Parts M). part_names (f name rest)) (fold-roll-Part M (List ℕ → Parts M → Parts M) (Parts M × List Link) part_step nested_step (Part-F.Atom m))
name_open {M} (Part-F.Coupled n) name rest = ap (λ (f : List ℕ → Parts M → Parts M). part_names (f name rest)) (fold-roll-Part M (List ℕ → Parts M → Parts M) (Parts M × List Link) part_step nested_step (Part-F.Coupled n))

first_name : {M : Type 0} (q : Part M) (name : List ℕ) (rest : Parts M) → part_names (part_view {M = M} q name rest) ≡ name ∷ part_names rest
first_name {M} q name rest = subst (λ (p : Part M). part_names (part_view {M = M} p name rest) ≡ name ∷ part_names rest) (roll-out-Part M q) (name_open {M = M} (out-Part M q) name rest)

pub name_more : {M : Type 0} (ps : List (String Global × Part M)) (done : List (List ℕ)) (i : ℕ) (p : String Global × Part M) (name : List ℕ)
    → i < length ps → name ≡ string_bytes (get_or ps i p).0 → done ++ part_names (parts_of {M = M} (drop i ps)) ≡ (done ++ name ∷ []) ++ part_names (parts_of {M = M} (drop (i + 1) ps))
name_more {M} ps done i p name h is =
    let next : suc i ≡ i + 1 = omega arith in
    ap (λ (xs : List (String Global × Part M)). done ++ part_names (parts_of {M = M} xs)) (drop-cons ps i p h)
    ∙ ap (λ (xs : List (List ℕ)). done ++ xs) (first_name {M = M} (get_or ps i p).1 (string_bytes (get_or ps i p).0) (parts_of {M = M} (drop (suc i) ps)))
    ∙ (λ j. done ++ sym is j ∷ part_names (parts_of {M = M} (drop (next j) ps)))
    ∙ sym (append_assoc done (name ∷ []) (part_names (parts_of {M = M} (drop (i + 1) ps))))

-- ---- models

-- what the parts from i on make, after those that were made before
abbrev pub models_left : List (String Global × Part AnyDraft) → List (String Global × Part AnyModel) → ℕ → Result (Parts AnyModel) FileRefused
models_left ps done i = after (λ more. Ok (parts_then {M = AnyModel} done more)) (tree_made (parts_of {M = AnyDraft} (drop i ps)))

remade : (done : List (String Global × Part AnyModel)) (p : String Global × Part AnyModel) (r : Result (Parts AnyModel) FileRefused)
    → after (λ more. Ok (parts_then {M = AnyModel} done more)) (after (λ more. Ok (part_view {M = AnyModel} p.1 (string_bytes p.0) more)) r) ≡ after (λ more. Ok (parts_then {M = AnyModel} (done ++ p ∷ []) more)) r
remade done p (Err e) = refl
remade done p (Ok more) = ap (λ (x : Parts AnyModel). Ok x) (one_part_more {M = AnyModel} done p more)

-- one part is made as its model, or as the models in it, are
module _ (part : Part AnyDraft) (name : List ℕ) (rest : Parts AnyDraft) where
  as_atom : (d : AnyDraft) → part ≡ Atom d → tree_made (part_view {M = AnyDraft} part name rest) ≡ tree_made (atom name d rest)
  as_atom d is =
      ap (λ (q : Part AnyDraft). tree_made (part_view {M = AnyDraft} q name rest)) is
      ∙ ap (λ (v : List ℕ → Parts AnyDraft → Parts AnyDraft). tree_made (v name rest)) (part_view-atom {M = AnyDraft} d)

  as_coupled : (n : Nested AnyDraft) → part ≡ Coupled n → tree_made (part_view {M = AnyDraft} part name rest) ≡ tree_made (coupled name (parts_of {M = AnyDraft} n.parts.items) n.couplings.items rest)
  as_coupled n is =
      ap (λ (q : Part AnyDraft). tree_made (part_view {M = AnyDraft} q name rest)) is
      ∙ ap (λ (v : List ℕ → Parts AnyDraft → Parts AnyDraft). tree_made (v name rest)) (part_view-coupled {M = AnyDraft} n)

  pub atom_made : (d : AnyDraft) (m : AnyModel) → part ≡ Atom d → any_model_of d ≡ Ok m
      → tree_made (part_view {M = AnyDraft} part name rest) ≡ after (λ more. Ok (part_view {M = AnyModel} (Atom m) name more)) (tree_made rest)
  atom_made d m is made =
      as_atom d is
      ∙ ap (λ (r : Result AnyModel FileRefused). after (λ x. after (λ more. Ok (atom name x more)) (tree_made rest)) r) made
      ∙ ap (λ (v : List ℕ → Parts AnyModel → Parts AnyModel). after (λ more. Ok (v name more)) (tree_made rest)) (sym (part_view-atom {M = AnyModel} m))

  pub atom_fails : (d : AnyDraft) (e : FileRefused) → part ≡ Atom d → any_model_of d ≡ Err e → tree_made (part_view {M = AnyDraft} part name rest) ≡ Err e
  atom_fails d e is fails = as_atom d is ∙ ap (λ (r : Result AnyModel FileRefused). after (λ x. after (λ more. Ok (atom name x more)) (tree_made rest)) r) fails

  pub coupled_made : (n : Nested AnyDraft) (made : Nested AnyModel) → part ≡ Coupled n → tree_made (parts_of {M = AnyDraft} n.parts.items) ≡ Ok (parts_of {M = AnyModel} made.parts.items) → made.couplings.items ≡ n.couplings.items
      → tree_made (part_view {M = AnyDraft} part name rest) ≡ after (λ more. Ok (part_view {M = AnyModel} (Coupled made) name more)) (tree_made rest)
  coupled_made n made is within links =
      as_coupled n is
      ∙ ap (λ (r : Result (Parts AnyModel) FileRefused). after (λ x. after (λ more. Ok (coupled name x n.couplings.items more)) (tree_made rest)) r) within
      ∙ ap (λ (l : List Link). after (λ more. Ok (coupled name (parts_of {M = AnyModel} made.parts.items) l more)) (tree_made rest)) (sym links)
      ∙ ap (λ (v : List ℕ → Parts AnyModel → Parts AnyModel). after (λ more. Ok (v name more)) (tree_made rest)) (sym (part_view-coupled {M = AnyModel} made))

  pub coupled_fails : (n : Nested AnyDraft) (e : FileRefused) → part ≡ Coupled n → tree_made (parts_of {M = AnyDraft} n.parts.items) ≡ Err e → tree_made (part_view {M = AnyDraft} part name rest) ≡ Err e
  coupled_fails n e is fails = as_coupled n is ∙ ap (λ (r : Result (Parts AnyModel) FileRefused). after (λ x. after (λ more. Ok (coupled name x n.couplings.items more)) (tree_made rest)) r) fails

module _ (ps qs : List (String Global × Part AnyDraft)) (done : List (String Global × Part AnyModel)) (i : ℕ) (q : String Global × Part AnyDraft) (same : qs ≡ ps) (lt : i < length qs) (is : q ≡ get_or qs i q) where
  at_part : models_left ps done i ≡ after (λ more. Ok (parts_then {M = AnyModel} done more)) (tree_made (part_view {M = AnyDraft} q.1 (string_bytes q.0) (parts_of {M = AnyDraft} (drop (i + 1) ps))))
  at_part = ap (λ (xs : List (String Global × Part AnyDraft)). after (λ more. Ok (parts_then {M = AnyModel} done more)) (tree_made (parts_of {M = AnyDraft} xs))) (at_place ps qs i q same lt is)

  pub model_more : (p : String Global × Part AnyModel) → string_bytes p.0 ≡ string_bytes q.0
      → ((name : List ℕ) (rest : Parts AnyDraft) → tree_made (part_view {M = AnyDraft} q.1 name rest) ≡ after (λ more. Ok (part_view {M = AnyModel} p.1 name more)) (tree_made rest))
      → models_left ps done i ≡ models_left ps (done ++ p ∷ []) (i + 1)
  model_more p named makes =
      at_part
      ∙ ap (λ (r : Result (Parts AnyModel) FileRefused). after (λ more. Ok (parts_then {M = AnyModel} done more)) r) (makes (string_bytes q.0) (parts_of {M = AnyDraft} (drop (i + 1) ps)))
      ∙ (λ j. after (λ more. Ok (parts_then {M = AnyModel} done more)) (after (λ more. Ok (part_view {M = AnyModel} p.1 (sym named j) more)) (tree_made (parts_of {M = AnyDraft} (drop (i + 1) ps)))))
      ∙ remade done p (tree_made (parts_of {M = AnyDraft} (drop (i + 1) ps)))

  pub no_model : (e : FileRefused) → ((name : List ℕ) (rest : Parts AnyDraft) → tree_made (part_view {M = AnyDraft} q.1 name rest) ≡ Err e) → models_left ps done i ≡ Err e
  no_model e fails = at_part ∙ ap (λ (r : Result (Parts AnyModel) FileRefused). after (λ more. Ok (parts_then {M = AnyModel} done more)) r) (fails (string_bytes q.0) (parts_of {M = AnyDraft} (drop (i + 1) ps)))

pub all_models : (ps qs : List (String Global × Part AnyDraft)) (done : List (String Global × Part AnyModel)) (i : ℕ) → qs ≡ ps → length qs ≤ i → models_left ps done i ≡ Ok (parts_of {M = AnyModel} done)
all_models ps qs done i same past =
    ap (λ (xs : List (String Global × Part AnyDraft)). after (λ more. Ok (parts_then {M = AnyModel} done more)) (tree_made (parts_of {M = AnyDraft} xs))) (none_left ps qs i same past)
    ∙ ap (λ (x : Parts AnyModel). Ok x) (all_parts {M = AnyModel} done)
