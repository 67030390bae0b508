use Rattle.std.proofs.Common.{◌≡◌, ◌-◌, not, length, ap, sym, ◌∙◌, inl, inr, arith}
use Rattle.std.proofs.lemmas.Bool.{and_from, and_right, cases_lt, le-ltb, lt-ltb}
use Rattle.tw_vtime.specs.Stamps.{is_overdue}
use Rattle.tw_theory.specs.Bundles.{least_owed, overdue}
use Rattle.tw_theory.specs.Contents.{next}
use Rattle.tw_theory.specs.Exchange.{is_empty}
use Rattle.tw_exchange.proofs.IdleLemmas.{empty_is, none_overdue, some_overdue}
use Rattle.tw_exchange.proofs.idle.is_idle.Goals as goal

pub returns : goal.returns
returns g c =
    let p = c.args.process.now.process in
    let lists = c.lists-lists.ensures in
    let outgoing = empty_is p.outgoing (omega (arith, c.if-outgoing_len-gt0.false, c.outgoing_len.ensures, ap length lists.outgoing)) in
    let least : c.least_owed.result ≡ least_owed p.owed = c.least_owed.ensures ∙ ap least_owed lists.owed in
    let answer : c.is_overdue.result ≡ is_overdue (least_owed p.owed) (next p) = c.is_overdue.ensures ∙ ap (λ s. is_overdue s c.next.result) least ∙ ap (is_overdue (least_owed p.owed)) c.next.ensures in
    ap not answer
    ∙ elim (cases_lt (least_owed p.owed - 1) (next p)) [
      | inl early ↦ ap not (lt-ltb (least_owed p.owed - 1) (next p) early)
          ∙ sym (and_right (is_empty p.outgoing) (is_empty (overdue (next p) p.owed)) (some_overdue (next p) p.owed (omega (arith, c.if-owed_len-eq0.false, c.owed_len.ensures, ap length lists.owed)) c.requires early))
      | inr late ↦ ap not (le-ltb (least_owed p.owed - 1) (next p) late)
          ∙ sym (and_from (is_empty p.outgoing) (is_empty (overdue (next p) p.owed)) outgoing (none_overdue (next p) p.owed late))
    ]
