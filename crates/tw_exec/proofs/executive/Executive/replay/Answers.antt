use Rattle.std.proofs.Common.{◌≡◌, ◌+◌, ◌++◌, ◌∷◌, [], take, ap, sym, subst₂, ◌∙◌, arith}
use Rattle.std.proofs.lemmas.List.{take_more}
use Rattle.tw_exec.proofs.Replays.{counted, counted_err, counted_le, counted_ok, replayed, same_but_world, still_but_world}
use Rattle.tw_network.specs.Contents.{network_of}
use Rattle.tw_theory.specs.Memory.{IsReplayed}
use Rattle.tw_exec.proofs.executive.Executive.replay.Goals.{then-is_ok, else-is_ok}
use Rattle.tw_exec.proofs.executive.Executive.replay.Goals as goal

pub loop-action-preserved : goal.loop-action-preserved
loop-action-preserved g c =
    let m = g.M.Atomic.meaning in
    let i = c.loop-action.action-index in
    let k = c.loop-action.taken in
    let all = c.args.actions.now in
    let w = c.args.self.now.world in
    let now = c.loop-action.self in
    let new = c.act.new.self in
    let action = c.action-item.result in
    let others = c.loop-action.invariant.others in
    let done = c.act.ensures.acted in
    let so_far = subst₂ (λ n u. IsReplayed (network_of m n) u w (take i all) k now.world) (sym (ap (λ e. e.network) others)) (sym (ap (λ e. e.until) others)) c.loop-action.invariant.replayed in
    let more = replayed m w (take i all) k now new action so_far c.act.result done.done done.answer done.refused c.act.ensures.memory done.stays in
    let back = subst₂ (λ n u. IsReplayed (network_of m n) u w (take i all ++ action ∷ []) (k + counted c.act.result) new.world) (ap (λ e. e.network) others) (ap (λ e. e.until) others) more in
    let listed = sym (take_more all i action c.loop-action-test.true ∙ ap (λ a. take i all ++ a ∷ []) (sym c.action-item.is)) in
    let count : k + counted c.act.result ≡ c.if-is_ok.taken = elim c.if-is_ok.branch [
      | then-is_ok b ↦ let is = counted_ok c.act.result (sym c.is_ok.ensures.value ∙ b.if-is_ok.true) in omega (arith, is, b.taken-is)
      | else-is_ok b ↦ let is = counted_err c.act.result (sym c.is_ok.ensures.value ∙ b.if-is_ok.false) in omega (arith, is, b.taken-is)
    ] in
    record {
      replayed = subst₂ (λ l t. IsReplayed (network_of m c.args.self.now.network) c.args.self.now.until w l t new.world) listed count back;
      others = still_but_world c.args.self.now now new others (same_but_world m now new action c.act.result done.done done.stays);
      few = omega (arith, count, counted_le c.act.result, c.loop-action.invariant.few);
    }
