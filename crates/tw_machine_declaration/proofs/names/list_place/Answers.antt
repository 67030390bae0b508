use Rattle.std.proofs.Common.{◌∙◌, ℕ, ℤ, List, ap, map, sym, take, Vec}
use Rattle.std.proofs.lemmas.List.{take-map, take_min}
use Rattle.std.specs.Global.{Global}
use Rattle.tw_machine_declaration.specs.Names.{together}
use Rattle.tw_machine_declaration.proofs.names.list_place.Goals as goal

abbrev items_of : Vec ℤ Global → List ℤ
items_of list = list.items

-- the first lists, as they are given
pub returns : goal.returns
returns c =
    let all = c.as_slice-lists.result.now in
    c.together.ensures
    ∙ ap (λ (n : ℕ). together (map items_of (take n all))) c.min.ensures
    ∙ ap (λ (lists : List (Vec ℤ Global)). together (map items_of lists)) (take_min c.args.place all)
    ∙ ap (λ (lists : List (Vec ℤ Global)). together (map items_of (take c.args.place lists))) c.as_slice-lists.ensures.value
    ∙ ap together (sym (take-map items_of c.args.place c.args.given.now.lists.items))
