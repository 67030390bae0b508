-- What is followed of a network's components, one after another.
use Rattle.std.proofs.Common.{◌≡◌, ◌∙◌, ℕ, ◌<◌, ◌+◌, ◌++◌, ◌∷◌, [], List, take, length, get_or, ap, sym, arith}
use Rattle.std.proofs.lemmas.List.{get_or-map, length-map, take_more}
use Rattle.tw_figures.specs.Gathered.{followed_in, followed_in_all}
use Rattle.tw_figures.specs.declared.labels.Labels.{Labels}

pub followed_more : (labels : List Labels) (c : ℕ) (label : Labels) → c < length labels → label ≡ get_or labels c label
    → take c (followed_in_all labels) ++ followed_in label ∷ [] ≡ take (c + 1) (followed_in_all labels)
followed_more labels c label within here =
    let one = followed_in label in
    let size = length-map labels followed_in in
    let is : get_or (followed_in_all labels) c one ≡ one = get_or-map followed_in labels c label one within ∙ ap followed_in (sym here) in
    ap (λ w. take c (followed_in_all labels) ++ w ∷ []) (sym is) ∙ sym (take_more (followed_in_all labels) c one (omega (arith, size, within)))
