-- What a file of format tw-1 says, by its members.
use Rattle.std.proofs.Common.{◌≡◌, ◌∙◌, ℕ, List, [], Bool, true, false, ap, sym, refl, cond, subst, Vec}
use denote.Bor.{Bor}
use Rattle.std.specs.Option.{ok_or}
use Rattle.std.specs.Prelude.{◌&&◌, codes, MatchOption, Option, None, Some, option_and_then, option_map, Err}
use Rattle.std.specs.declared.alloc.Global.{Global}
use Rattle.serde_json.specs.Data.{Data}
use Rattle.serde_json.specs.Find.{get, as_array}
use Rattle.serde_json.specs.View.{view, items_view}
use Rattle.serde_json.specs.declared.value.Value.{Value}
use Rattle.tw_file_members.specs.Members.{count_at, has_members, is_file, text_at}
use Rattle.tw_file_network.specs.Meaning.{shape_of}
use Rattle.tw_file_network.specs.Shape.{FileComponent, FileCoupling, FileInput, all_read, array_at, component_of, coupling_of, file_made, input_of, is_format, of_four}
use Rattle.tw_file_network.specs.declared.refused.FileRefused.{FileRefused}
use Rattle.tw_file_network.specs.declared.refused.FileRefused.TheVariants.{BadShape}

-- a member's items, if there is the member and if it is an array
found : (v : Option (Bor Value)) (w : Option (Bor (Vec Value Global))) (o : Option Data) → option_map (λ x. view x.now) v ≡ o
    → MatchOption v (w ≡ None) (λ x. option_map (λ y. items_view y.now.items) w ≡ as_array (view x.now)) → option_map (λ y. items_view y.now.items) w ≡ option_and_then as_array o
found None w o is same = ap (λ (x : Option (Bor (Vec Value Global))). option_map (λ y. items_view y.now.items) x) same ∙ ap (option_and_then as_array) is
found (Some x) w o is same = same ∙ ap (option_and_then as_array) is

module _ {A : Type 0} (read : Data → Option A) (name : List ℕ) (d : Data) (v : Option (Bor Value)) (is : option_map (λ x. view x.now) v ≡ get name d) where
  pub an_array : (w : Bor (Vec Value Global)) → MatchOption v (Some w ≡ None) (λ x. Some (items_view w.now.items) ≡ as_array (view x.now))
      → (vs : List Value) → vs ≡ w.now.items → array_at read name d ≡ all_read read (items_view vs)
  an_array w there vs same = ap (option_and_then (all_read read)) (sym (found v (Some w) (get name d) is there)) ∙ ap (λ (xs : List Value). all_read read (items_view xs)) (sym same)

  pub no_array : (w : Option (Bor (Vec Value Global))) → w ≡ None → MatchOption v (w ≡ None) (λ x. option_map (λ y. items_view y.now.items) w ≡ as_array (view x.now)) → array_at read name d ≡ None
  no_array w none there =
      ap (option_and_then (all_read read)) (sym (found v w (get name d) is there))
      ∙ ap (λ (x : Option (Bor (Vec Value Global))). option_and_then (all_read read) (option_map (λ y. items_view y.now.items) x)) none

-- a member that is read only where both tests hold
pub both : {A : Type 0} (a b : Bool) (o : Option A) → (a && b) ≡ true → cond a (cond b o None) None ≡ o
both true b o is = ap (λ s. cond s o None) is
both false b o is = absurd cc

pub not_both : {A : Type 0} (a b : Bool) (o : Option A) → (a && b) ≡ false → cond a (cond b o None) None ≡ None
not_both true b o is = ap (λ s. cond s o None) is
not_both false b o is = refl

module _ (d : Data) where
  pub no_file : false ≡ is_file 5 (codes "tw-1") d → shape_of d ≡ Err BadShape
  no_file is = ap (λ o. ok_or o BadShape) (not_both (has_members 5 d) (is_format (text_at (codes "format") d)) _ (sym is))

  pub refused : shape_of d ≡ Err BadShape → (e : FileRefused) → e ≡ BadShape → shape_of d ≡ Err e
  refused bad e is = subst (λ (x : FileRefused). shape_of d ≡ Err x) (sym is) bad

  module _ (head : true ≡ is_file 5 (codes "tw-1") d) (limit : Option ℕ) (there : limit ≡ count_at (codes "micro_limit") d) where
    -- members that were not looked up are as they are
    pub says : (components : Option (List FileComponent)) → array_at (component_of []) (codes "components") d ≡ components
        → (couplings : Option (List FileCoupling)) → array_at coupling_of (codes "couplings") d ≡ couplings
        → (inputs : Option (List FileInput)) → array_at input_of (codes "inputs") d ≡ inputs
        → shape_of d ≡ ok_or (of_four file_made limit components couplings inputs) BadShape
    says components are couplings lead inputs come =
        ap (λ o. ok_or o BadShape) (both (has_members 5 d) (is_format (text_at (codes "format") d)) _ (sym head))
        ∙ (λ i. ok_or (of_four file_made (sym there i) (are i) (lead i) (come i)) BadShape)
