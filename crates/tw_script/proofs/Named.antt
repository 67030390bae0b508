-- No name of a network has a space in it.
use Rattle.std.proofs.Common.{[], ◌≡◌, ◌<◌, ◌∷◌, ◌∙◌, ℕ, List, length, get_or, sym, ap, arith, true, true≢false}
use Rattle.std.specs.List.{All}
use Rattle.std.proofs.lemmas.Bool.{and_parts}
use Rattle.std.proofs.lemmas.List.Sums.{AllPass-from_list_all}
use Rattle.tw_network.specs.Contents.{IsFlatName, alone, within, is_name, is_name_byte}
use Rattle.tw_script.proofs.Cuts.{free_append, free_cons}
use Rattle.tw_script.specs.Words.{IsFree}

name_free : (name : List ℕ) → is_name name ≡ true → IsFree 32 name
name_free name h i l e =
    let bytes = AllPass-from_list_all is_name_byte name (and_parts _ _ h).1 in
    true≢false (sym (bytes i 0 l) ∙ ap is_name_byte e)

pub flat_name_free : (name : List ℕ) → IsFlatName name → IsFree 32 name
flat_name_free name (alone _ h) = name_free name h
flat_name_free name (within first rest h others) = free_append 32 first (46 ∷ rest) (name_free first h) (free_cons 32 46 rest (λ e. omega (arith, e)) (flat_name_free rest others))

pub names_free : (names : List (List ℕ)) → All IsFlatName names → (p : ℕ) → p < length names → IsFree 32 (get_or names p [])
names_free names h p l = flat_name_free (get_or names p []) (h p [] l)
