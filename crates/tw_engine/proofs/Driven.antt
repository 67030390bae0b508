-- From what is played and then traced to what is said of the files' bytes.
use Rattle.std.proofs.Common.{◌≡◌, ℕ, List, inl, inr, refl, sym, subst}
use Rattle.std.specs.Prelude.{Option, Some, None, Ok, Err}
use Rattle.std.specs.Io.KnownBytes.{Keeps}
use Rattle.tw_engine.specs.Plays.{first, IsScripted, IsSeeded, IsTraced}
use Rattle.tw_engine.specs.Ends.{PlainEnd, failed_of}
use Rattle.tw_engine.specs.Runs.{HasNoRun}
use Rattle.tw_engine.specs.Scripting.{HasNoCommands}
use Rattle.tw_engine.specs.declared.failed.Failed.{Failed}
use Rattle.tw_engine.specs.declared.failed.Failed.TheVariants.{Bad, Want, NoWrite}
use Rattle.tw_exec.specs.Running.{Running}
use Rattle.tw_any_model.specs.AnyModel.{any_meaning}
use Rattle.tw_any_model.specs.declared.any_model.AnyModel.{AnyModel}
use Rattle.tw_any_model.specs.declared.any_model.AnyState.{AnyState}
use Rattle.tw_file_network.specs.TreeMeaning.{IsMeaning}
use Rattle.tw_network.specs.Contents.{Contents}
use Rattle.tw_play.specs.Playing.{Played}
use Rattle.tw_play.specs.Telling.{IsCutShort, IsDrawnShort, IsPlayed, IsWhollyDrawn}
use Rattle.tw_seeded.specs.Schedules.{seeded}
use Rattle.tw_script.specs.Scripts.{IsScript}
use Rattle.tw_script.specs.declared.command.Command.{Command}
use Rattle.tw_texts.specs.Refusals.{not_written_refusal}
use Rattle.tw_texts.specs.declared.traces.NotWritten.{NotWritten}
use Rattle.tw_texts.specs.declared.traces.NotWritten.TheVariants.{OutOfMemory, WriteFailed}
use Rattle.tw_theory.specs.Contents.{Cancel}

module _ (bytes : List ℕ) (n : Contents AnyModel) (means : IsMeaning bytes n) (until : ℕ) (way : Cancel) (begun p : Played AnyModel AnyState) (is : begun ≡ first n way until) (e : Running AnyModel AnyState) (at : e ≡ p.executive)
    (old mid new : Option (List ℕ)) where
  pub scripted : (script : List ℕ) (commands : List Command) → IsScript n.names script commands → IsPlayed any_meaning commands begun p old mid → (end : PlainEnd) → IsTraced e end mid new → IsScripted bytes script until way end old new
  scripted script commands says whole end traced =
      go end (subst (λ b. IsPlayed any_meaning commands b p old mid) is whole) (subst (λ r. IsTraced r end mid new) at traced)
    where
      go : (end : PlainEnd) → IsPlayed any_meaning commands (first n way until) p old mid → IsTraced p.executive end mid new → IsScripted bytes script until way end old new
      go (Ok done) w t = (n, means, (commands, says, (p, mid, w, t)))
      go (Err (Bad why line)) w t = absurd t
      go (Err (Want why)) w t = inr (n, means, (commands, says, inr (p, mid, w, t)))
      go (Err NoWrite) w t = t

  -- what ends for want of memory, or for a failed writer
  pub script_short : (script : List ℕ) (commands : List Command) → IsScript n.names script commands → (why : NotWritten) → (why ≡ OutOfMemory → IsCutShort any_meaning commands begun old new)
      → IsScripted bytes script until way (Err (failed_of (not_written_refusal why))) old new
  script_short script commands says OutOfMemory h = inr (n, means, (commands, says, inl (refl, subst (λ b. IsCutShort any_meaning commands b old new) is (h refl))))
  script_short script commands says WriteFailed h = tt

  pub seed_drawn : (seed steps : ℕ) → IsWhollyDrawn any_meaning (seeded seed) steps begun p old mid → (end : PlainEnd) → IsTraced e end mid new → IsSeeded bytes seed steps until way end old new
  seed_drawn seed steps whole end traced =
      go end (subst (λ b. IsWhollyDrawn any_meaning (seeded seed) steps b p old mid) is whole) (subst (λ r. IsTraced r end mid new) at traced)
    where
      go : (end : PlainEnd) → IsWhollyDrawn any_meaning (seeded seed) steps (first n way until) p old mid → IsTraced p.executive end mid new → IsSeeded bytes seed steps until way end old new
      go (Ok done) w t = (n, means, (p, mid, w, t))
      go (Err (Bad why line)) w t = absurd t
      go (Err (Want why)) w t = inr (n, means, inr (p, mid, w, t))
      go (Err NoWrite) w t = t

  pub seed_short : (seed steps : ℕ) (why : NotWritten) → (why ≡ OutOfMemory → IsDrawnShort any_meaning (seeded seed) steps begun old new)
      → IsSeeded bytes seed steps until way (Err (failed_of (not_written_refusal why))) old new
  seed_short seed steps OutOfMemory h = inr (n, means, inl (refl, subst (λ b. IsDrawnShort any_meaning (seeded seed) steps b old new) is (h refl)))
  seed_short seed steps WriteFailed h = tt

-- ---- what is refused before anything is written

pub keeps_all : (o : Option (List ℕ)) → Keeps o o
keeps_all None = tt
keeps_all (Some xs) = refl

-- a script
pub script_refused : (bytes : List ℕ) (n : Contents AnyModel) → IsMeaning bytes n → (until : ℕ) (way : Cancel) (script : List ℕ) (why : Failed) (old : Option (List ℕ))
    → HasNoCommands n.names script why → IsScripted bytes script until way (Err why) old old
script_refused bytes n means until way script why old (inl want) = subst (λ w. IsScripted bytes script until way (Err w) old old) (sym want) (inl (refl, keeps_all old))
script_refused bytes n means until way script why old (inr (inl many)) = subst (λ w. IsScripted bytes script until way (Err w) old old) (sym many.0) (keeps_all old, inr (n, means, (refl, many.1)))
script_refused bytes n means until way script why old (inr (inr bad)) = subst (λ w. IsScripted bytes script until way (Err w) old old) (sym bad.1) (keeps_all old, refl, (n, means, bad.2))

-- a run
pub script_unbegun : (bytes script : List ℕ) (until : ℕ) (way : Cancel) (why : Failed) (old : Option (List ℕ)) → HasNoRun until why → IsScripted bytes script until way (Err why) old old
script_unbegun bytes script until way why old (inl want) = subst (λ w. IsScripted bytes script until way (Err w) old old) (sym want) (inl (refl, keeps_all old))
script_unbegun bytes script until way why old (inr late) = subst (λ w. IsScripted bytes script until way (Err w) old old) (sym late.0) (keeps_all old, inl (inl (refl, late.1)))
