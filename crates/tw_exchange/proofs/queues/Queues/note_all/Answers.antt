use Rattle.std.proofs.Common.{◌≡◌, ◌<◌, ap, refl, subst, sym, ◌∙◌, length, arith}
use Rattle.std.specs.Prelude.{slice_get, slice_set}
use Rattle.tw_theory.proofs.Elements.{present}
use Rattle.tw_theory.specs.Executive.{mail_of}
use Rattle.tw_exchange.proofs.Drawing.{if_there}
use Rattle.tw_exchange.proofs.Marking.{marked_all, marked_next, none_marked}
use Rattle.tw_exchange.proofs.PassByPass.{mail_count, process_count}
use Rattle.tw_exchange.specs.Queues.{box_mark, next_mark, post_mark}
use Rattle.tw_exchange.proofs.queues.Queues.note_all.Goals as goal

pub loop-component-init : goal.loop-component-init
loop-component-init g c =
    let e = c.args.executive.now in
    let m = g.M.Atomic.meaning in
    record {
      marks = none_marked c.args.self.now e.world (c.requires.posting ∙ sym (process_count m e c.facts.ensures)) (c.requires.delivering ∙ sym (mail_count m e c.facts.ensures)) (c.requires.standing ∙ sym (process_count m e c.facts.ensures));
      free = refl;
    }

pub note_post-requires-clause-near : goal.note_post-requires-clause-near
note_post-requires-clause-near g c =
    subst (λ n. c.loop-component.component < n) (c.len-component-end.ensures ∙ ap (λ x. length x.models) (c.deref.ensures ∙ c.network.ensures)) c.loop-component-test.true

pub note_post-requires-clause-within : goal.note_post-requires-clause-within
note_post-requires-clause-within g c =
    let end = ap (λ x. length x.models) (c.deref.ensures ∙ c.network.ensures) in
    let count = c.loop-component.invariant.marks.posting_count ∙ process_count g.M.Atomic.meaning c.args.executive.now c.facts.ensures in
    subst (λ n. c.loop-component.component < n) (c.len-component-end.ensures ∙ end ∙ sym count) c.loop-component-test.true

pub note_box-requires-clause-near : goal.note_box-requires-clause-near
note_box-requires-clause-near g c =
    subst (λ n. c.loop-component.component < n) (c.len-component-end.ensures ∙ ap (λ x. length x.models) (c.deref.ensures ∙ c.network.ensures)) c.loop-component-test.true

pub note_box-requires-clause-within : goal.note_box-requires-clause-within
note_box-requires-clause-within g c =
    let end = ap (λ x. length x.models) (c.deref.ensures ∙ c.network.ensures) in
    let count = ap length c.note_post.ensures.delivering ∙ c.loop-component.invariant.marks.delivering_count ∙ mail_count g.M.Atomic.meaning c.args.executive.now c.facts.ensures in
    subst (λ n. c.loop-component.component < n) (c.len-component-end.ensures ∙ end ∙ sym count) c.loop-component-test.true

pub note_standing-requires-clause-near : goal.note_standing-requires-clause-near
note_standing-requires-clause-near g c =
    subst (λ n. c.loop-component.component < n) (c.len-component-end.ensures ∙ ap (λ x. length x.models) (c.deref.ensures ∙ c.network.ensures)) c.loop-component-test.true

pub note_standing-requires-clause-within : goal.note_standing-requires-clause-within
note_standing-requires-clause-within g c =
    let end = ap (λ x. length x.models) (c.deref.ensures ∙ c.network.ensures) in
    let kept = ap length c.note_box.ensures.standing ∙ ap length c.note_post.ensures.standing in
    let count = kept ∙ c.loop-component.invariant.marks.standing_count ∙ process_count g.M.Atomic.meaning c.args.executive.now c.facts.ensures in
    subst (λ n. c.loop-component.component < n) (c.len-component-end.ensures ∙ end ∙ sym count) c.loop-component-test.true

pub loop-component-preserved : goal.loop-component-preserved
loop-component-preserved g c =
    let e = c.args.executive.now in
    let w = e.world in
    let k = c.loop-component.component in
    let end = ap (λ x. length x.models) (c.deref.ensures ∙ c.network.ensures) in
    let few : k < length w.processes = omega (arith, c.loop-component-test.true, c.len-component-end.ensures, end, process_count g.M.Atomic.meaning e c.facts.ensures) in
    let near : k < length w.mail = omega (arith, c.loop-component-test.true, c.len-component-end.ensures, end, mail_count g.M.Atomic.meaning e c.facts.ensures) in
    let p = present w.processes k few in
    let posting = if_there (λ q. c.note_post.new.self.posting ≡ slice_set c.loop-component.self.posting k (post_mark q)) (slice_get w.processes k) p.0 p.1 c.note_post.ensures.posting in
    let standing = if_there (λ q. c.note_standing.new.self.standing ≡ slice_set c.note_box.new.self.standing k (next_mark q)) (slice_get w.processes k) p.0 p.1 c.note_standing.ensures.standing in
    record {
      marks = marked_next w k c.loop-component.self c.note_standing.new.self p.0 c.loop-component.invariant.marks p.1 near (c.note_standing.ensures.posting ∙ c.note_box.ensures.posting ∙ posting)
          (c.note_standing.ensures.delivering ∙ c.note_box.ensures.delivering ∙ ap (λ l. slice_set l k (box_mark (mail_of w.mail k))) c.note_post.ensures.delivering)
          (standing ∙ ap (λ l. slice_set l k (next_mark p.0)) (c.note_box.ensures.standing ∙ c.note_post.ensures.standing));
      free = c.note_standing.ensures.free ∙ c.note_box.ensures.free ∙ c.note_post.ensures.free ∙ c.loop-component.invariant.free;
    }

pub returns-clause-marked : goal.returns-clause-marked
returns-clause-marked g c =
    let e = c.args.executive.now in
    let w = e.world in
    let k = c.loop-component.component in
    let end = ap (λ x. length x.models) (c.deref.ensures ∙ c.network.ensures) in
    marked_all k c.loop-component.self w c.loop-component.invariant.marks
    (omega (arith, c.loop-component-test.false, c.len-component-end.ensures, end, process_count g.M.Atomic.meaning e c.facts.ensures))
    (omega (arith, c.loop-component-test.false, c.len-component-end.ensures, end, mail_count g.M.Atomic.meaning e c.facts.ensures))
