use Rattle.std.proofs.Common.{◌≡◌, ◌<◌, length, sym, ap, subst, refl, ◌∙◌, arith}
use Rattle.std.specs.List.{AllByRecursion as Each}
use Rattle.tw_msgs.specs.declared.message.Item.{Item}
use Rattle.tw_network.specs.Contents.{network_of}
use Rattle.tw_theory.proofs.Elements.{each_weaker}
use Rattle.tw_laws.proofs.Sweeping.{settle_fits}
use Rattle.tw_theory.specs.Contents.{settle}
use Rattle.tw_theory.specs.Executive.{Post, posted}
use Rattle.tw_theory.specs.Network.{Fits}
use Rattle.tw_exchange.proofs.Following.{acts_on_one, exact_but}
use Rattle.tw_exchange.proofs.Marking.{marks_count, posted_but}
use Rattle.tw_exchange.proofs.Skipping.{post_makes}
use Rattle.tw_exchange.specs.Exchanged.{IsExactBut}
use Rattle.tw_exchange.specs.Queues.{IsSameBut}
use Rattle.tw_exchange.proofs.sweeping.post_one.Goals as goal

pub note_posted-requires : goal.note_posted-requires
note_posted-requires g c =
    let e = c.args.executive.now in
    let p = c.contents.result.now.process in
    let net = network_of g.M.Atomic.meaning e.network in
    let sound = c.facts.ensures.sound in
    let fit = sound.each c.args.sender p c.contents.ensures.process in
    let count = (marks_count c.args.queues.now e.world c.requires.kept.marks).1 in
    subst (Each (λ (i : Item). i.message.to < length c.args.queues.now.delivering)) (sym (c.as_slice.ensures.value ∙ c.in-Ok.ensures))
    (each_weaker (λ (i : Item). Fits net i.message) (λ (i : Item). i.message.to < length c.args.queues.now.delivering) (λ i f. omega (arith, f.to, sound.mail, count)) (settle p).outgoing (settle_fits (Fits net) p.cancel p fit.fit_outgoing fit.fit_owed))

pub note-requires-clause-but : goal.note-requires-clause-but
note-requires-clause-but g c =
    let e = c.args.executive.now in
    let b = c.args.sender in
    let p = c.contents.result.now.process in
    let net = network_of g.M.Atomic.meaning e.network in
    let new = c.take.new.executive.world in
    let same = subst (IsSameBut b e.world.processes) (sym (ap (λ x. x.world.processes) c.in_ok-take.ensures.done)) (acts_on_one net e.until e.world (Post b) b refl) in
    let out : (settle p).outgoing ≡ c.as_slice.result.now = sym (c.as_slice.ensures.value ∙ c.in-Ok.ensures) in
    let mail : new.mail ≡ posted e.world.mail c.as_slice.result.now = ap (λ x. x.world.mail) c.in_ok-take.ensures.done ∙ ap (λ w. w.mail) (post_makes net e.until e.world b p c.contents.ensures.process) ∙ ap (posted e.world.mail) out in
    record {
      free = subst (λ l. IsExactBut b l new.processes) (sym c.note_posted.ensures.free) (exact_but c.args.queues.now.free e.world.processes new.processes b c.requires.kept.free same);
      marks = posted_but c.args.queues.now c.note_posted.new.self e.world new b c.as_slice.result.now c.requires.kept.marks same mail c.note_posted.ensures.posting c.note_posted.ensures.delivering c.note_posted.ensures.standing;
    }
