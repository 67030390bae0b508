use Rattle.std.proofs.Common.{OnOk, ◌≡◌, ◌++◌, ap, ◌∙◌, sym, subst}
use Rattle.tw_machine.specs.Machine.{machine_words}
use Rattle.tw_machine.specs.SeenLaws.{words-seen}
use Rattle.tw_machine.proofs.machine.MachineAtomic.words.Goals as goal

pub returns-clause-ok : goal.returns-clause-ok
returns-clause-ok c =
    let s = c.args.state.now in
    subst (λ ws. OnOk c.show.result (c.show.new.words.items ≡ c.args.words.now.items ++ ws))
    (sym (words-seen c.text.result.now s) ∙ ap (λ p. machine_words p s) c.text.ensures) c.show.ensures.ok
