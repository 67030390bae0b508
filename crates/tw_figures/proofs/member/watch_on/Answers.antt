use Rattle.std.proofs.Common.{refl, arith}
use Rattle.tw_figures.proofs.Watching.{taken_all, taking_on}
use Rattle.tw_figures.proofs.member.watch_on.Goals as goal

pub loop-watch-init : goal.loop-watch-init
loop-watch-init c = record { size = refl; places = refl; taken = λ k d l. absurd (omega arith); rest = λ k d l. refl }

pub loop-watch-preserved : goal.loop-watch-preserved
loop-watch-preserved c =
    taking_on c.args.from c.args.tick c.args.words.now c.args.watches.now c.loop-watch.watches c.loop-watch.watch-index c.loop-watch.invariant c.take.new.self _
    c.loop-watch-test.true c.take.ensures.place (record { taken = λ start moves r at said next h. c.take.ensures.watch start moves r at said next h })

pub returns-clause-watches : goal.returns-clause-watches
returns-clause-watches c start moves r at said next all =
    taken_all c.args.from c.args.tick c.args.words.now c.args.watches.now c.loop-watch.watches c.loop-watch.watch-index c.loop-watch.invariant c.loop-watch-test.false start moves r at said next all
