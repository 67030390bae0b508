-- The start states of a network's components, one after another.
use Rattle.std.proofs.Common.{◌≡◌, ◌∙◌, ℕ, ◌+◌, ◌++◌, ◌∷◌, [], take, length, map, get_or, ap, sym, arith}
use Rattle.std.specs.Prelude.{Some, slice_get}
use Rattle.std.proofs.lemmas.List.{get_or-map, length-map, take_more}
use Rattle.std.proofs.lemmas.Option.{get_or_from_slice_get, slice_get_within}
use Rattle.tw_atomic.specs.Atomic.{Meaning}
use Rattle.tw_network.specs.Contents.{Contents, network_of}
use Rattle.tw_figures.specs.Gathered.{start_words}

pub starts_more : {M S : Type 0} (meaning : M → Meaning S) (contents : Contents M) (c : ℕ) (model : M) → slice_get contents.models c ≡ Some model
    → take c (start_words (network_of meaning contents)) ++ (meaning model).words (meaning model).start ∷ [] ≡ take (c + 1) (start_words (network_of meaning contents))
starts_more {S = S} meaning contents c model at =
    let words = λ (m : Meaning S). m.words m.start in
    let within = slice_get_within contents.models c model at in
    let here = get_or_from_slice_get contents.models c model model at in
    let all = map words (map meaning contents.models) in
    let size : length all ≡ length contents.models = length-map (map meaning contents.models) words ∙ length-map contents.models meaning in
    let one = words (meaning model) in
    let is : get_or all c one ≡ one =
    get_or-map words (map meaning contents.models) c (meaning model) one (let l = length-map contents.models meaning in omega (arith, within, l))
    ∙ ap words (get_or-map meaning contents.models c model (meaning model) within ∙ ap meaning here) in
    ap (λ w. take c all ++ w ∷ []) (sym is) ∙ sym (take_more all c one (omega (arith, size, within)))
