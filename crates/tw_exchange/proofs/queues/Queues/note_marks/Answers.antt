use Rattle.std.proofs.Common.{◌≡◌, ◌<◌, map, ap, ◌∙◌, length, arith}
use Rattle.std.specs.Option.{option_map}
use Rattle.std.specs.Prelude.{slice_get, slice_set}
use Rattle.std.proofs.lemmas.List.{length-map}
use Rattle.std.proofs.lemmas.Option.{slice_get-get_or, slice_get-map}
use Rattle.tw_theory.specs.Executive.{mail_of}
use Rattle.tw_exchange.proofs.Drawing.{if_there}
use Rattle.tw_theory.proofs.Elements.{present}
use Rattle.tw_exchange.proofs.PassByPass.{mail_count, process_count}
use Rattle.tw_exchange.proofs.SameBut.{set_same}
use Rattle.tw_exchange.specs.Queues.{box_mark, next_mark, post_mark}
use Rattle.tw_exchange.proofs.queues.Queues.note_marks.Goals as goal

pub note_post-requires-clause-within : goal.note_post-requires-clause-within
note_post-requires-clause-within g c = omega (
  arith,
  c.requires.near,
  c.requires.but.posting.count,
  length-map c.args.executive.now.world.processes post_mark,
  process_count g.M.Atomic.meaning c.args.executive.now c.facts.ensures,
)

pub note_box-requires-clause-within : goal.note_box-requires-clause-within
note_box-requires-clause-within g c = omega (
  arith,
  c.requires.near,
  c.requires.but.delivering.count,
  length-map c.args.executive.now.world.mail box_mark,
  ap length c.note_post.ensures.delivering,
  mail_count g.M.Atomic.meaning c.args.executive.now c.facts.ensures,
)

pub note_standing-requires-clause-within : goal.note_standing-requires-clause-within
note_standing-requires-clause-within g c = omega (
  arith,
  c.requires.near,
  c.requires.but.standing.count,
  length-map c.args.executive.now.world.processes next_mark,
  ap length c.note_post.ensures.standing,
  ap length c.note_box.ensures.standing,
  process_count g.M.Atomic.meaning c.args.executive.now c.facts.ensures,
)

pub returns-clause-marked : goal.returns-clause-marked
returns-clause-marked g c =
    let w = c.args.executive.now.world in
    let k = c.args.component in
    let p = present w.processes k (omega (arith, c.requires.near, process_count g.M.Atomic.meaning c.args.executive.now c.facts.ensures)) in
    let near : k < length w.mail = omega (arith, c.requires.near, mail_count g.M.Atomic.meaning c.args.executive.now c.facts.ensures) in
    let standing = if_there (λ q. c.note_standing.new.self.standing ≡ slice_set c.note_box.new.self.standing k (next_mark q)) (slice_get w.processes k) p.0 p.1 c.note_standing.ensures.standing in
    let posting = if_there (λ q. c.note_post.new.self.posting ≡ slice_set c.args.self.now.posting k (post_mark q)) (slice_get w.processes k) p.0 p.1 c.note_post.ensures.posting in
    record {
      posting = c.note_standing.ensures.posting ∙ c.note_box.ensures.posting ∙ posting ∙ set_same k (map post_mark w.processes) c.args.self.now.posting (post_mark p.0) c.requires.but.posting (slice_get-map post_mark w.processes k ∙ ap (option_map post_mark) p.1);
      delivering = c.note_standing.ensures.delivering ∙ c.note_box.ensures.delivering ∙ ap (λ l. slice_set l k (box_mark (mail_of w.mail k))) c.note_post.ensures.delivering
          ∙ set_same k (map box_mark w.mail) c.args.self.now.delivering (box_mark (mail_of w.mail k)) c.requires.but.delivering (slice_get-map box_mark w.mail k ∙ ap (option_map box_mark) (slice_get-get_or w.mail k _ near));
      standing = standing ∙ ap (λ l. slice_set l k (next_mark p.0)) (c.note_box.ensures.standing ∙ c.note_post.ensures.standing)
          ∙ set_same k (map next_mark w.processes) c.args.self.now.standing (next_mark p.0) c.requires.but.standing (slice_get-map next_mark w.processes k ∙ ap (option_map next_mark) p.1);
    }
