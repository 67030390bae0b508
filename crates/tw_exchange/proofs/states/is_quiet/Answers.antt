use Rattle.std.proofs.Common.{length, not, ap, sym, ◌∙◌, arith}
use Rattle.std.specs.Prelude.{◌&&◌, ◌==◌}
use Rattle.tw_theory.specs.Bundles.{least_owed}
use Rattle.tw_theory.specs.Outcomes.{none_at}
use Rattle.tw_exchange.proofs.IdleLemmas.{empty_is}
use Rattle.tw_exchange.proofs.Standing.{none_owed_at}
use Rattle.tw_exchange.proofs.states.is_quiet.Goals as goal

pub returns : goal.returns
returns g c =
    let p = c.args.process.now.process in
    let lists = c.lists-lists.ensures in
    let outgoing = empty_is p.outgoing (omega (arith, c.if-outgoing_len-gt0.false, c.outgoing_len.ensures, ap length lists.outgoing)) in
    c.ne.ensures ∙ ap (λ s. not (s == c.args.gvt)) (c.least_owed.ensures ∙ ap least_owed lists.owed) ∙ sym (none_owed_at c.args.gvt p.owed c.requires.before c.requires.from) ∙ ap (λ b. b && none_at c.args.gvt p.owed) (sym outgoing)
