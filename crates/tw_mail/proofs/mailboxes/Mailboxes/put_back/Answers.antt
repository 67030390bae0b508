use Rattle.std.proofs.Common.{◌<◌, length, List, rules}
use Rattle.std.specs.Prelude.{None, insert}
use Rattle.tw_msgs.specs.declared.message.Item.{Item}
use Rattle.tw_mail.proofs.Boxes.{changed}
use Rattle.tw_mail.proofs.mailboxes.Mailboxes.put_back.Goals as goal

pub returns : goal.returns
returns c =
    let near : c.args.to < length c.self.inside.boxes.items = search rules in
    changed (λ (l : List Item). insert l c.args.place c.args.item) c.self.inside.boxes.items c.self.inside.taken None c.args.self.now c.args.to c.index_mut.result.now c.put_back.new.self c.self.view_is near c.index_mut.ensures.value c.put_back.ensures
