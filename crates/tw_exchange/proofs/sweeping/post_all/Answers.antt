use Rattle.std.proofs.Common.{◌≡◌, ◌<◌, ◌-◌, ℕ, false, true, not, suc, length, map, refl, ap, subst, sym, ◌∙◌, ◌∷◌, Some, arith}
use Rattle.std.specs.Prelude.{slice_get}
use Rattle.std.proofs.lemmas.Option.{slice_get_within}
use Rattle.std.proofs.lemmas.Result.{err_from_is_err_and}
use Rattle.tw_network.specs.Contents.{network_of}
use Rattle.tw_theory.proofs.Elements.{each-get}
use Rattle.tw_theory.specs.Contents.{Process}
use Rattle.tw_theory.specs.Exchange.{posts}
use Rattle.tw_theory.specs.Executive.{Post}
use Rattle.tw_theory.specs.Soundness.{Cancels}
use Rattle.tw_exchange.proofs.Following.{acts_on_one}
use Rattle.tw_exchange.proofs.Marking.{done_all, done_before, fewer, least_there, standing}
use Rattle.tw_exchange.proofs.PassByPass.{process_count}
use Rattle.tw_exchange.proofs.Skipping.{all_posted, next_sender, none_posted, one_posted, sender_after}
use Rattle.tw_exchange.proofs.UnderWay.{cut, same_network}
use Rattle.tw_exchange.specs.Agenda.{AllLate, IsLeast, mark}
use Rattle.tw_exchange.specs.Queues.{IsSameBut, post_mark}
use Rattle.tw_exchange.specs.Sweeping.{IsUnderWay, is_idle}
use Rattle.tw_exchange.proofs.sweeping.post_all.Given.{Over}
use Rattle.tw_exchange.proofs.sweeping.post_all.Goals.{In-Some}
use Rattle.tw_exchange.proofs.sweeping.post_all.Goals as goal

pub loop-sender-init : goal.loop-sender-init
loop-sender-init g c = record {
  sound = c.facts.ensures;
  kept = c.requires;
  posted = none_posted g.M.Atomic.meaning c.args.executive.now;
  busy = refl;
}

-- the sender that comes next
module _ (g : Over) (c : In-Some g) where
  next_one : IsLeast (map post_mark c.loop-sender.executive.world.processes) c.in-Some.field-0-0 c.in-Some.sender
  next_one = subst (λ l. IsLeast l c.in-Some.field-0-0 c.in-Some.sender) c.loop-sender.invariant.kept.marks.posting c.in-Some.ensures.least

  sender : (p : Process _) × (slice_get c.loop-sender.executive.world.processes c.in-Some.sender ≡ Some p) × (c.in-Some.field-0-0 ≡ 0) × (is_idle p ≡ false)
  sender = least_there is_idle c.loop-sender.executive.world.processes c.in-Some.field-0-0 c.in-Some.sender next_one

  idle_before : (d : ℕ) (q : Process _) → d < c.in-Some.sender → slice_get c.loop-sender.executive.world.processes d ≡ Some q → is_idle q ≡ true
  idle_before = done_before is_idle c.loop-sender.executive.world.processes c.in-Some.field-0-0 c.in-Some.sender next_one

  near : c.in-Some.sender < length c.args.executive.now.world.processes
  near = omega (
    arith,
    slice_get_within c.loop-sender.executive.world.processes c.in-Some.sender sender.0 sender.1,
    process_count g.M.Atomic.meaning c.loop-sender.executive c.loop-sender.invariant.sound,
    process_count g.M.Atomic.meaning c.args.executive.now c.facts.ensures,
    ap (λ n. length n.models) (same_network g.M.Atomic.meaning c.loop-sender.invariant.posted.under),
  )

  left : IsUnderWay g.M.Atomic.meaning (posts 0 (length c.args.executive.now.world.processes)) (Post c.in-Some.sender ∷ posts (suc c.in-Some.sender) (length c.args.executive.now.world.processes - suc c.in-Some.sender)) c.args.executive.now c.loop-sender.executive
  left = next_sender g.M.Atomic.meaning c.args.executive.now c.loop-sender.executive c.loop-sender.invariant.posted c.in-Some.sender sender.0 near sender.1 sender.3 idle_before

  cancels : Cancels c.loop-sender.invariant.sound.sound.cancel sender.0
  cancels = each-get (Cancels c.loop-sender.invariant.sound.sound.cancel) c.loop-sender.executive.world.processes c.in-Some.sender sender.0 sender.1 c.loop-sender.invariant.sound.sound.cancels

pub post_one-requires-clause-near : goal.post_one-requires-clause-near
post_one-requires-clause-near g c =
    let here = (goal.at.post_one-requires-clause-near g c).In-Some in
    let p = sender g here in
    subst (λ n. c.in-Some.sender < n) (process_count g.M.Atomic.meaning c.loop-sender.executive c.loop-sender.invariant.sound) (slice_get_within c.loop-sender.executive.world.processes c.in-Some.sender p.0 p.1)

pub returns-in_err-post_one-clause-cut_short : goal.returns-in_err-post_one-clause-cut_short
returns-in_err-post_one-clause-cut_short g c =
    let here = (goal.at.returns-in_err-post_one-clause-cut_short g c).In-Some in
    let k = c.in-Some.sender in
    let n = length c.args.executive.now.world.processes in
    let p = err_from_is_err_and c.from_residual.result c.from_residual.ensures.1 in
    rw (p.1, p.2) (cut g.M.Atomic.meaning (Post k) (posts (suc k) (n - suc k)) c.in_err-post_one.field-0.0 tt (left g here) c.in_err-post_one.ensures.stays c.in_err-post_one.ensures.wanting)

pub loop-sender-smaller : goal.loop-sender-smaller
loop-sender-smaller g c =
    let here = (goal.at.loop-sender-smaller g c).In-Some in
    let m = g.M.Atomic.meaning in
    let k = c.in-Some.sender in
    let now = c.loop-sender.executive in
    let new = c.post_one.new.executive in
    let p = sender g here in
    let done = c.in_ok-post_one.ensures.done in
    let same = subst (IsSameBut k now.world.processes) (sym (ap (λ x. x.world.processes) done)) (acts_on_one (network_of m now.network) now.until now.world (Post k) k refl) in
    let q = sender_after m now new k p.0 c.loop-sender.invariant.sound.sound.cancel p.1 (cancels g here) done in
    let less = fewer post_mark now.world.processes new.world.processes k c.in-Some.field-0-0 q.0 same (next_one g here).at q.1 (ap (λ b. mark (not b)) q.2) in
    omega (arith, less, ap standing c.post_one.ensures.kept.marks.posting, ap standing c.loop-sender.invariant.kept.marks.posting)

pub loop-sender-preserved : goal.loop-sender-preserved
loop-sender-preserved g c =
    let here = (goal.at.loop-sender-preserved g c).In-Some in
    let p = sender g here in
    record {
      sound = c.facts-in-Some.ensures;
      kept = c.post_one.ensures.kept;
      posted = one_posted g.M.Atomic.meaning c.args.executive.now c.loop-sender.executive c.post_one.new.executive c.in-Some.sender p.0 c.loop-sender.invariant.sound.sound.cancel (near g here) p.1 (cancels g here) (idle_before g here) (left g here) c.in_ok-post_one.ensures.done;
      busy = c.post_one.ensures.busy ∙ c.loop-sender.invariant.busy;
    }

pub returns-clause-done : goal.returns-clause-done
returns-clause-done g c =
    let now = c.loop-sender.executive in
    let late = subst AllLate c.loop-sender.invariant.kept.marks.posting (c.first.ensures.none c.in_default.is) in
    all_posted g.M.Atomic.meaning c.args.executive.now now c.loop-sender.invariant.posted (done_all is_idle now.world.processes late)
