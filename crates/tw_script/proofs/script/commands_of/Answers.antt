use Rattle.std.proofs.Common.{arith, ◌+◌, [], take, take_all, subst, sym}
use Rattle.tw_script.specs.Scripts.{AreSaid, SaysNothing, nothing}
use Rattle.tw_script.proofs.Reading.{first_wrong, length-shown, said_at, shown, shown_at, skipped_at}
use Rattle.tw_script.proofs.script.commands_of.Goals as goal

pub loop-i-init : goal.loop-i-init
loop-i-init g c = subst (AreSaid c.args.network.now.names []) (sym c.new-commands.ensures.items) nothing

pub loop-i-preserved-then-is_skipped : goal.loop-i-preserved-then-is_skipped
loop-i-preserved-then-is_skipped g c =
    skipped_at c.args.network.now.names (shown c.args.lines.now) c.loop-i.i _ c.loop-i.commands.items c.loop-i.invariant (shown_at c.args.lines.now c.loop-i.i _ c.loop-i-test.true) (sym c.if-is_skipped.ensures)

pub loop-i-preserved : goal.loop-i-preserved
loop-i-preserved g c =
    subst (AreSaid c.args.network.now.names (take (c.loop-i.i + 1) (shown c.args.lines.now))) (sym c.in_ok-push.ensures.items)
    (said_at c.args.network.now.names (shown c.args.lines.now) c.loop-i.i _ c.loop-i.commands.items c.in-Some.command c.loop-i.invariant (shown_at c.args.lines.now c.loop-i.i _ c.loop-i-test.true)
    (sym c.if-is_skipped.ensures) c.in-Some.ensures.said)

pub returns-in_default-clause-refused : goal.returns-in_default-clause-refused
returns-in_default-clause-refused g c = subst (SaysNothing c.args.network.now.names (shown c.args.lines.now)) (sym c.bad_line.ensures)
    (first_wrong c.args.network.now.names (shown c.args.lines.now) c.loop-i.i _ c.loop-i.commands.items c.loop-i.invariant (shown_at c.args.lines.now c.loop-i.i _ c.loop-i-test.true)
    (record { counts = sym c.if-is_skipped.ensures; says_nothing = c.in_default.ensures.none }))

pub returns-clause-said : goal.returns-clause-said
returns-clause-said g c =
    subst (λ lines. AreSaid c.args.network.now.names lines c.loop-i.commands.items) (take_all c.loop-i.i (shown c.args.lines.now) (omega (arith, length-shown c.args.lines.now, c.loop-i-test.false))) c.loop-i.invariant
