use Rattle.std.proofs.Common.{inl, pos, rules}
use Rattle.tw_file_settings.proofs.wholes.whole_in.Goals as goal

pub returns-in-Some-clause-some : goal.returns-in-Some-clause-some
returns-in-Some-clause-some c = (pos c.in-Some.number, search rules, inl (search rules, search rules), search rules)
