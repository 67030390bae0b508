-- The lesser of the two times.
use Rattle.std.proofs.Common.{rules, ◌≡◌, ◌∙◌, sym, ap, arith, drop}
use Rattle.tw_theory.specs.Simulator.{least_due, least_input}
use Rattle.tw_rounds.proofs.Dues.{the_least}
use Rattle.std.proofs.lemmas.Map.Keys.{ge_from_not_lt}
use Rattle.tw_vtime.proofs.Comparing.{lt_from_is_lt}
use Rattle.tw_rounds.proofs.rounds.Running.next_time.Goals as goal
use Rattle.tw_rounds.proofs.rounds.Running.next_time.Goals.{then-lt, else-lt}

pub returns-then-lt-2-clause-time : goal.returns-then-lt-2-clause-time
returns-then-lt-2-clause-time g c =
    let due : c.least-due.result ≡ least_due c.args.self.now.at.moments = the_least c.args.self.now.at.moments c.args.agenda.now.times c.least-due.result c.requires.agenda (search rules) c.least-due.ensures.first c.least-due.ensures.there in
    let input : c.next_input-input.result ≡ least_input c.args.self.now.at.inputs = c.next_input-input.ensures ∙ ap (λ xs. least_input (drop c.self.inside.given xs)) c.deref.ensures.value ∙ ap (λ r. least_input r.at.inputs) c.self.view_is in
    elim c.if-lt.branch [
      | then-lt w ↦ let l = lt_from_is_lt c.next_input-input.result c.least-due.result (sym w.if-lt.ensures) in let is = w.time-is in omega (arith, l, is, due, input)
      | else-lt w ↦ let l = ge_from_not_lt c.next_input-input.result c.least-due.result (sym w.if-lt.ensures) in let is = w.time-is in omega (arith, l, is, due, input)
    ]

pub returns-else-lt-2-clause-none : goal.returns-else-lt-2-clause-none
returns-else-lt-2-clause-none g c =
    let due : c.least-due.result ≡ least_due c.args.self.now.at.moments = the_least c.args.self.now.at.moments c.args.agenda.now.times c.least-due.result c.requires.agenda (search rules) c.least-due.ensures.first c.least-due.ensures.there in
    let input : c.next_input-input.result ≡ least_input c.args.self.now.at.inputs = c.next_input-input.ensures ∙ ap (λ xs. least_input (drop c.self.inside.given xs)) c.deref.ensures.value ∙ ap (λ r. least_input r.at.inputs) c.self.view_is in
    let over = ge_from_not_lt c.if-lt.time c.args.end (sym c.if-lt-2.ensures) in
    elim c.if-lt.branch [
      | then-lt w ↦ let l = lt_from_is_lt c.next_input-input.result c.least-due.result (sym w.if-lt.ensures) in let is = w.time-is in omega (arith, l, is, due, input, over)
      | else-lt w ↦ let l = ge_from_not_lt c.next_input-input.result c.least-due.result (sym w.if-lt.ensures) in let is = w.time-is in omega (arith, l, is, due, input, over)
    ]
