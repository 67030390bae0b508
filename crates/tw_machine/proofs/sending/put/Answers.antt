use Rattle.std.proofs.Common.{rules, ◌≡◌, ◌++◌, ◌∷◌, [], ◌∙◌, sym, arith, length-append}
use Rattle.std.proofs.lemmas.List.{take_all}
use Rattle.tw_machine.proofs.Takes.{take_full}
use Rattle.tw_machine.proofs.sending.put.Goals as goal

pub returns-then-len-lt64 : goal.returns-then-len-lt64
returns-then-len-lt64 c =
    let old = c.args.outbox.now.items in
    let len = length-append old ((c.args.port, c.args.value) ∷ []) in
    let is : c.push.new.self.items ≡ old ++ (c.args.port, c.args.value) ∷ [] = search rules in
    is ∙ sym (take_all 64 (old ++ (c.args.port, c.args.value) ∷ []) (omega (arith, len)))

pub returns-else-len-lt64 : goal.returns-else-len-lt64
returns-else-len-lt64 c = sym (take_full 64 c.args.outbox.now.items ((c.args.port, c.args.value) ∷ []) (omega arith))
