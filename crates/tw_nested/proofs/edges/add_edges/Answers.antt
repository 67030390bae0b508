use Rattle.std.proofs.Common.{◌≡◌, ℕ, ◌+◌, ◌<◌, List, [], ◌∷◌, ◌++◌, map, length, drop, drop-cons, append_assoc, sym, suc, ◌∙◌, arith, slice_index_or}
use Rattle.tw_nested.specs.Paths.{edge_of}
use Rattle.tw_nested.specs.Taken.{model_of}
use Rattle.tw_nested.proofs.edges.add_edges.Goals as goal

-- one item more, as what it is turned into
one_more : {A B : Type 0} (f : A → B) (before es : List B) (xs ys : List A) (i : ℕ) (d : A) (e : B) → ys ≡ xs → i < length ys → e ≡ f (slice_index_or ys i d)
    → before ++ map f xs ≡ es ++ map f (drop i xs) → before ++ map f xs ≡ (es ++ e ∷ []) ++ map f (drop (i + 1) xs)
one_more f before es xs ys i d e same below is so_far =
    let first = drop-cons xs i d (rw same at below) in
    let turned = rw same at is in
    let next : suc i ≡ i + 1 = omega arith in
    so_far ∙ (λ j. es ++ map f (first j)) ∙ sym (append_assoc es (f (slice_index_or xs i d) ∷ []) (map f (drop (suc i) xs)))
    ∙ (λ j. (es ++ sym turned j ∷ []) ++ map f (drop (next j) xs))

pub edge-requires-clause-link : goal.edge-requires-clause-link
edge-requires-clause-link c =
    rw c.deref-link-items.ensures.value
    (c.requires.model.links c.loop-link.link-index _ (rw c.deref-link-items.ensures.value at c.loop-link-test.true))

pub loop-link-preserved : goal.loop-link-preserved
loop-link-preserved c =
    rw c.in_ok-push.ensures.items
    (one_more (edge_of c.args.count (model_of c.args.model.now)) c.args.edges.now.items c.loop-link.edges.items c.args.model.now.links.items c.deref-link-items.result.now c.loop-link.link-index _ c.edge.result
    c.deref-link-items.ensures.value c.loop-link-test.true c.edge.ensures c.loop-link.invariant)
