use Rattle.std.proofs.Common.{arith}
use Rattle.std.proofs.lemmas.Fmt.{length-decimal-le}
use Rattle.tw_texts.proofs.tails.put_item.Goals as goal

pub write_digits-requires : goal.write_digits-requires
write_digits-requires c =
    let long = length-decimal-le 3 c.args.item.0 (omega arith) (omega arith) (omega arith) in
    (omega arith, omega arith)

pub returns-clause-start : goal.returns-clause-start
returns-clause-start c =
    let long = length-decimal-le 3 c.args.item.0 (omega arith) (omega arith) (omega arith) in
    (omega arith, omega arith)
