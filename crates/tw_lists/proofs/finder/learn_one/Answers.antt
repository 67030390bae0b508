use Rattle.std.proofs.Common.{◌≡◌, Some, cond, ap, sym, subst, ◌∙◌}
use Rattle.std.specs.HashMap.{get}
use Rattle.tw_msgs.specs.declared.message.Message.{Message}
use Rattle.tw_lists.specs.declared.finder.Key.{Key}
use Rattle.tw_lists.specs.Finders.{key_of, same_key}
use Rattle.tw_lists.proofs.Learning.{knows_more, one_more}
use Rattle.tw_lists.proofs.finder.learn_one.Goals.{in-None, in-Some+in-Some-checked_add}
use Rattle.tw_lists.proofs.finder.learn_one.Goals as goal

pub returns-in-Ok-clause-yes : goal.returns-in-Ok-clause-yes
returns-in-Ok-clause-yes c = λ yes nodes item same knows.
    let known = c.args.known.now in
    let x = c.args.message.now in
    let value : c.match-look_up.equals ≡ one_more c.args.index (get same_key known (key_of x)) =
    elim c.match-look_up.branch [
      | in-None w ↦ w.equals-is ∙ ap (one_more c.args.index) (sym w.in-None.is ∙ c.look_up.ensures)
      | in-Some+in-Some-checked_add w ↦ w.equals-is ∙ ap (λ n. record { first = w.in-Some.before.first; count = n }) w.in-Some-checked_add.ensures.1 ∙ ap (one_more c.args.index) (sym w.in-Some.is ∙ c.look_up.ensures)
    ] in
    let updates : (q : Key) → get same_key c.insert.new.self q ≡ cond (same_key (key_of x) q) (Some (one_more c.args.index (get same_key known (key_of x)))) (get same_key known q) =
    λ q. c.in-Ok.ensures.updates.0 q
    ∙ ap (λ k. cond (same_key k q) (Some c.match-look_up.equals) (get same_key known q)) c.key_of.ensures
    ∙ ap (λ v. cond (same_key (key_of x) q) (Some v) (get same_key known q)) value in
    knows_more known c.insert.new.self nodes c.args.index item knows
    (subst (λ (m : Message). (q : Key) → get same_key c.insert.new.self q ≡ cond (same_key (key_of m) q) (Some (one_more c.args.index (get same_key known (key_of m)))) (get same_key known q)) (sym same) updates)
