use Rattle.std.proofs.Common.{◌≡◌, ◌≤◌, ◌<◌, ◌+◌, length, set, take, drop, sym, ap, subst, ◌∙◌, arith}
use Rattle.std.proofs.lemmas.List.{places}
use Rattle.tw_tournament.specs.Times.{Times}
use Rattle.tw_tournament.specs.Winners.{IsPlayed}
use Rattle.tw_tournament.proofs.Times.{whole, played_on, times_set}
use Rattle.tw_tournament.proofs.tournament.Tournament.set.Goals as goal

pub invariant_of-self : goal.invariant_of-self
invariant_of-self c =
    let ws = c.self.inside.winners.items in
    let row = c.self.inside.row in
    let count = c.self.inside.count in
    let value = c.as_mut_slice.ensures.value in
    let same : length c.play.new.winners ≡ length ws = c.play.auto.winners ∙ ap length value in
    let len : c.self.inside.winners.len ≡ length ws = sym c.as_mut_slice.ensures.len ∙ ap length value in
    let near : c.args.number < length (take count (drop row ws)) = subst (λ (v : Times). c.args.number < length v.times) (sym c.self.view_is) c.requires in
    let long : length (take count (drop row ws)) ≤ count = grind (arith, places) in
    let dropped = c.play.ensures.row ∙ ap (λ l. drop row (set l (row + c.args.number) c.args.time)) value in
    subst (λ l. IsPlayed l row count) (sym (whole ws c.play.new.winners c.self.inside.winners.len len same))
    (played_on ws c.play.new.winners row count c.args.number c.args.time c.self.invariant (omega arith) same c.play.ensures.won dropped)

pub returns : goal.returns
returns c =
    let ws = c.self.inside.winners.items in
    let row = c.self.inside.row in
    let count = c.self.inside.count in
    let value = c.as_mut_slice.ensures.value in
    let same : length c.play.new.winners ≡ length ws = c.play.auto.winners ∙ ap length value in
    let len : c.self.inside.winners.len ≡ length ws = sym c.as_mut_slice.ensures.len ∙ ap length value in
    let near : c.args.number < length (take count (drop row ws)) = subst (λ (v : Times). c.args.number < length v.times) (sym c.self.view_is) c.requires in
    let long : length (take count (drop row ws)) ≤ count = grind (arith, places) in
    let size = c.self.invariant.size in
    let enough = c.self.invariant.enough in
    let dropped = c.play.ensures.row ∙ ap (λ l. drop row (set l (row + c.args.number) c.args.time)) value in
    ap (λ l. take count (drop row l)) (whole ws c.play.new.winners c.self.inside.winners.len len same)
    ∙ times_set ws c.play.new.winners row count c.args.number c.args.time (omega arith) dropped
    ∙ ap (λ (v : Times). set v.times c.args.number c.args.time) c.self.view_is
