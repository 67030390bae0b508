use Rattle.std.proofs.Common.{rules, ◌%◌, ◌≡◌, ap, ◌∙◌, length, refl}
use Rattle.rand_pcg.specs.Pcg.{pcg32}
use Rattle.std.specs.Prelude.{Some}
use Rattle.tw_seeded.proofs.Drawing.{drawn_by, words_are}
use Rattle.tw_seeded.specs.Schedules.{action_drawn}
use Rattle.tw_seeded.proofs.schedule.Schedule.next_action.Goals as goal

pub returns-clause-action : goal.returns-clause-action
returns-clause-action g c =
    let e = c.args.executive.now in
    let count : c.len-count.result ≡ length e.network.models = search rules in
    let words = words_are c.args.self.now _ _ _ c.next_word-choice.result c.next_word-number.result c.next_word-detail.result
    (c.next_word-choice.ensures ∙ ap pcg32 c.self.view_is) c.next_word-number.ensures c.next_word-detail.ensures in
    ap Some c.chosen.ensures
    ∙ drawn_by e (record { choice = c.next_word-choice.result; component = c.next_word-number.result; detail = c.next_word-detail.result })
    c.len-count.result (c.next_word-number.result % c.len-count.result) c.place_drawn-place.result c.stamp_drawn-at.result
    count (search rules) refl (search rules) (search rules)
    ∙ ap (action_drawn e) words
