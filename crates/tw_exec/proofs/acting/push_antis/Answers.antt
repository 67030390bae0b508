use Rattle.std.proofs.Common.{◌≡◌, ◌+◌, ◌++◌, ◌∷◌, [], take, ap, sym, ◌∙◌, append_assoc}
use Rattle.std.proofs.lemmas.List.{map-append, take_more}
use Rattle.tw_theory.specs.Bundles.{anti, antis}
use Rattle.tw_exec.proofs.acting.push_antis.Goals as goal

pub loop-message-preserved : goal.loop-message-preserved
loop-message-preserved c =
    let i = c.loop-message.message-index in
    let ms = c.args.messages.now in
    let m = c.message-item.result in
    let more : antis (take (i + 1) ms) ≡ antis (take i ms) ++ anti m ∷ [] =
    ap antis (take_more ms i m c.loop-message-test.true ∙ ap (λ x. take i ms ++ x ∷ []) (sym c.message-item.is)) ∙ map-append anti (take i ms) (m ∷ []) in
    c.in_ok-push.ensures.items ∙ ap (λ l. l ++ anti m ∷ []) c.loop-message.invariant ∙ append_assoc c.args.items.now.items (antis (take i ms)) (anti m ∷ [])
    ∙ ap (λ l. c.args.items.now.items ++ l) (sym more)
