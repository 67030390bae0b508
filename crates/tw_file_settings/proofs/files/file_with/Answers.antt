use Rattle.std.proofs.Common.{rules}
use Rattle.serde_json.specs.View.{view}
use Rattle.tw_file_settings.proofs.Rewritten.{written}
use Rattle.tw_file_settings.proofs.files.file_with.Goals as goal

pub returns-clause-ok : goal.returns-clause-ok
returns-clause-ok c =
    written c.args.settings.now c.args.bytes.now c.in_ok-file.file.items (view c.in-Some.value) (view c.put_into.new.file)
    (search rules) (search rules) (search rules) c.in_ok-file.ensures.utf8 c.in_ok-file.ensures.reads_back
