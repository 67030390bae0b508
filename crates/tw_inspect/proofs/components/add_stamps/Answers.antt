use Rattle.std.proofs.Common.{string_bytes}
use Rattle.std.proofs.lemmas.Result.{on_ok_weaker}
use Rattle.tw_inspect.proofs.Parts.{stamps_of}
use Rattle.tw_inspect.proofs.components.add_stamps.Goals as goal

pub returns : goal.returns
returns g c =
    on_ok_weaker c.push_time.result
    (stamps_of c.args.process.now.process (string_bytes c.args.text.now) (string_bytes c.write.new.self) (string_bytes c.push_time.new.text) c.line-line.result c.next-next.result c.due-due.result c.last.result
    c.in_ok-write.ensures.bytes c.line-line.ensures c.next-next.ensures c.due-due.ensures c.last.ensures) c.push_time.ensures.ok
