use Rattle.std.proofs.Common.{◌∙◌, List, ℕ, ap, map, rules, subst}
use Rattle.std.proofs.lemmas.List.{nil_from_length}
use Rattle.std.specs.Io.KnownBytes.{Appends}
use Rattle.tw_engine.specs.Checks.{count_text}
use Rattle.tw_machine_warnings.specs.Warning.{lines_of, warning}
use Rattle.tw_texts.proofs.Portions.{appends_both}
use Rattle.tw_engine.proofs.job_check.write_checked.Goals.{else-strict-via-then-strict+else-not-is_empty, else-strict-via-else-strict}
use Rattle.tw_engine.proofs.job_check.write_checked.Goals as goal

pub returns : goal.returns
returns g c =
    let old = g.W.Write.contents c.args.out.now in
    let mid = g.W.Write.contents c.write_counts.new.out in
    let new = g.W.Write.contents c.write_all.new.self in (
      λ is. elim c.else-strict.branch [ else-strict-via-then-strict+else-not-is_empty w ↦ ap (map warning) (nil_from_length c.args.warnings.now (search rules)) | else-strict-via-else-strict w ↦ search rules ],
      appends_both old mid new (count_text c.args.network.now) (lines_of (map warning c.args.warnings.now)) c.in_ok-write_counts.ensures.ok
          (subst (λ (l : List ℕ). Appends mid new l) (c.as_bytes.ensures.value ∙ c.in_ok-lines.ensures) c.in-Ok.ensures.bytes),
    )
