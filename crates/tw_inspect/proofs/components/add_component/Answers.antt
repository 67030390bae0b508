use Rattle.std.proofs.Common.{◌∙◌, ap, length}
use Rattle.std.proofs.lemmas.Result.{on_ok_weaker}
use Rattle.tw_inspect.specs.Reports.{words_part}
use Rattle.tw_inspect.proofs.Parts.{one_more, part_of}
use Rattle.tw_inspect.proofs.components.add_component.Goals as goal

pub returns : goal.returns
returns g c =
    on_ok_weaker c.add_words.result
    (λ added. one_more _ _ _ _ _ (one_more _ _ _ _ _ (one_more _ _ _ _ _ c.in_ok-push_str.ensures.bytes c.in_ok-add_stamps.ensures) c.in_ok-add_counts.ensures)
    (part_of (words_part (length c.args.mail.now)) _ _ _ _ added
    (c.as_slice.ensures.value ∙ c.in_ok-words.ensures ∙ ap (g.M.Atomic.meaning c.args.model.now).words c.state.ensures))) c.add_words.ensures
