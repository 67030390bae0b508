-- What is not offered leaves the box as it is.
use Rattle.std.proofs.Common.{rules, ◌≡◌, ℤ, [], refl, Bool, true, false, ◌∙◌, sym}
use Rattle.std.specs.Prelude.{if◌then◌else◌}
use Rattle.tw_atomic.specs.Atomic.{Bag}
use Rattle.tw_machine.specs.Values.{value_of}
use Rattle.tw_machine.specs.Machine.{is_port, on_port, passes}
use Rattle.tw_machine.proofs.Takes.{nothing_more}
use Rattle.tw_machine.proofs.sending.offer.Goals as goal

not-passed : (b : Bool) (xs : Bag) → b ≡ false → (if b then xs else []) ≡ []
not-passed true xs e = cc
not-passed false xs e = refl

no-port : (b : Bool) (port value : ℤ) → is_port port ≡ false → (if b then on_port port value else []) ≡ []
no-port true port value e = not-passed (is_port port) _ e
no-port false port value e = refl

pub returns-else-is_port : goal.returns-else-is_port
returns-else-is_port c =
    let o = c.args.output.now in
    let n = c.args.numbers.now in
    let i = c.args.input.now in
    let m = c.args.memory.now in
    nothing_more c.args.outbox.now.items _ c.few.ensures
    (no-port (passes o.when n i m) (value_of o.port n i m) (value_of o.value n i m) (search rules))

pub returns-else-passes : goal.returns-else-passes
returns-else-passes c =
    let o = c.args.output.now in
    let n = c.args.numbers.now in
    let i = c.args.input.now in
    let m = c.args.memory.now in
    nothing_more c.args.outbox.now.items _ c.few.ensures
    (not-passed (passes o.when n i m) (on_port (value_of o.port n i m) (value_of o.value n i m)) (sym c.passes.ensures ∙ c.if-passes.false))
