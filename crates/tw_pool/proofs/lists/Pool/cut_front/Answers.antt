use Rattle.std.proofs.Common.{arith, rules, sym, ◌∙◌}
use Rattle.tw_pool.proofs.ListsByIndex.{without_first_is}
use Rattle.tw_pool.proofs.LinksRead.{shorter}
use Rattle.tw_pool.proofs.lists.Pool.cut_front.Goals.{in-Some, in_default}
use Rattle.tw_pool.proofs.lists.Pool.cut_front.Goals as goal

pub take-requires : goal.take-requires
take-requires g c = (search rules, c.in-Some.ensures.live)

pub loop-preserved : goal.loop-preserved
loop-preserved g c =
    let now = shorter _ _ c.args.list c.loop.counter (omega (arith, c.requires.list, c.lists_law.ensures.count)) (omega arith) c.loop.invariant.lists in
    elim c.match-first.branch [
      | in-Some w ↦
          let gone = without_first_is _ c.args.list w.in-Some.index (omega (arith, c.requires.list, c.lists_law.ensures.count)) c.lists_law.ensures.distinct (sym w.in-Some.ensures.value) in
          record {
            lists = rw w.self-is (w.take.ensures.lists ∙ gone ∙ now.more);
            room = rw w.self-is (omega (arith, w.take.ensures.room, c.loop.invariant.room));
            top = rw w.self-is (w.take.ensures.top ∙ c.loop.invariant.top);
          }
      | in_default w ↦ absurd (now.some (sym w.in_default.ensures.value))
    ]
