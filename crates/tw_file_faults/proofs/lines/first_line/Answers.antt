use Rattle.std.proofs.Common.{◌<◌, ℕ, List, arith, get_or, length}
use Rattle.std.specs.Prelude.{◌≢◌, None, Some}
use Rattle.std.proofs.lemmas.List.Elements.{All-from_get_or}
use Rattle.std.proofs.lemmas.Str.Pattern.{split_parts}
use Rattle.tw_file_faults.specs.Lines.{HasNoLineEnd}
use Rattle.tw_file_faults.proofs.lines.first_line.Goals as goal

has_none : (words : List ℕ) → ((i : ℕ) → i < length words → get_or words i 0 ≢ 10) → HasNoLineEnd words
has_none words = All-from_get_or (λ byte. byte ≢ 10) words 0

pub returns-in-Some : goal.returns-in-Some
returns-in-Some c =
    has_none c.in-Some.line.now (split_parts 10 c.args.text.now (Some (c.in-Some.line, c.in-Some.field-0-1)) c.in-Some.ensures.cases (omega arith)).1

pub returns-in-None : goal.returns-in-None
returns-in-None c = has_none c.args.text.now (split_parts 10 c.args.text.now None c.in-None.ensures.cases (omega arith))
