-- Why a line has no job.
use Rattle.std.proofs.Common.{◌≡◌, ◌∙◌, inl, ⊎_elim, List, sym, subst}
use Rattle.clap.specs.Words.{HasKind, IsAmong, Text, fault_of, kind_of}
use Rattle.clap.specs.declared.error.Error.{Error}
use Rattle.clap.specs.declared.error.kind.ErrorKind.TheVariants as kind
use Rattle.tw_cli.specs.Lines.{IsMadeOf, IsReason, twarp_app}
use Rattle.tw_cli.specs.declared.jobs.NoJob.{NoJob}
use Rattle.tw_cli.specs.declared.jobs.NoJob.TheVariants.{Help, Version, BadLine, OutOfMemory}

-- an error of the parse is the reason that is made of it
pub reason_made : (words : List Text) (e : Error) (r : NoJob) → HasKind (fault_of twarp_app words) e → IsMadeOf (kind_of e) r → IsReason words r
reason_made words e (Help error) has made = (
  made.1 ∙ made.0,
  ⊎_elim (λ memory. let bad : kind.OutOfMemory ≡ kind.DisplayHelp = sym memory ∙ made.0 in absurd cc) (λ among. subst (λ k. IsAmong k (fault_of twarp_app words)) made.0 among) has,
)
reason_made words e (Version error) has made = (
  made.1 ∙ made.0,
  ⊎_elim (λ memory. let bad : kind.OutOfMemory ≡ kind.DisplayVersion = sym memory ∙ made.0 in absurd cc) (λ among. subst (λ k. IsAmong k (fault_of twarp_app words)) made.0 among) has,
)
reason_made words e BadLine has made =
    inl (kind_of e, ⊎_elim (λ memory. absurd (made.2 memory)) (λ among. among) has, made.0, made.1)
reason_made words e OutOfMemory has made = tt
