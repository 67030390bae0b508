use Rattle.std.proofs.Common.{◌≡◌, ap, map, sym, ◌∙◌}
use Rattle.tw_machine_declaration.specs.Seen as plain
use Rattle.tw_machine_file.specs.Fault.{made}
use Rattle.tw_machine_file.specs.Machines.{nothing_given, program_given}
use Rattle.tw_machine_file.proofs.machines.within_limits.Goals as goal

pub returns-in-Ok-clause-ok : goal.returns-in-Ok-clause-ok
returns-in-Ok-clause-ok c =
    let d = plain.declaration c.args.declaration.now in
    let nothing : ◌≡◌ {A = plain.Given} nothing_given (record { numbers = c.new.result.items; lists = map (λ list. list.items) c.new-2.result.items }) =
    λ i. record { numbers = sym c.new.ensures.items i; lists = map (λ list. list.items) (sym c.new-2.ensures.items i) } in
    ap (λ given. made (λ p. tt) (program_given d given)) nothing ∙ ap (made (λ p. tt)) c.in-Ok.ensures.ok

pub returns-clause-err : goal.returns-clause-err
returns-clause-err c = λ other.
    let d = plain.declaration c.args.declaration.now in
    let nothing : ◌≡◌ {A = plain.Given} nothing_given (record { numbers = c.new.result.items; lists = map (λ list. list.items) c.new-2.result.items }) =
    λ i. record { numbers = sym c.new.ensures.items i; lists = map (λ list. list.items) (sym c.new-2.ensures.items i) } in
    ap (λ given. made (λ p. tt) (program_given d given)) nothing ∙ ap (made (λ p. tt)) (c.in-Err.ensures.err other)
