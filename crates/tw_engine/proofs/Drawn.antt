-- From what is drawn to what is said of a picture's end.
use Rattle.std.proofs.Common.{◌≡◌, ◌∙◌, ◌<◌, ℕ, List, inl, inr, refl, subst, sym}
use Rattle.std.specs.Global.{Global}
use Rattle.std.specs.Prelude.{◌≢◌, ◌⊎◌, Option, None, Some, Ok, Err, String}
use Rattle.std.specs.Io.KnownBytes.{Keeps}
use Rattle.tw_any_model.specs.declared.any_model.AnyModel.{AnyModel}
use Rattle.tw_engine.proofs.Driven.{keeps_all}
use Rattle.tw_engine.specs.Drawings.{IsGraphedOf, IsScriptDrawn, IsViewDrawnOf}
use Rattle.tw_engine.specs.Ends.{Fault, failed_of}
use Rattle.tw_engine.specs.Runs.{HasNoRun, run_fault}
use Rattle.tw_engine.specs.Scripting.{HasNoCommands}
use Rattle.tw_engine.specs.Views.{IsLineOf}
use Rattle.tw_engine.specs.declared.failed.Failed.{Failed}
use Rattle.tw_file_network.specs.TreeMeaning.{IsMeaning}
use Rattle.tw_network.specs.Contents.{Contents}
use Rattle.tw_run_picture.specs.Refusals.{draw_refusal}
use Rattle.tw_run_picture.specs.declared.refused.DrawRefused.{DrawRefused}
use Rattle.tw_run_picture.specs.declared.refused.DrawRefused.TheVariants as drawing
use Rattle.tw_texts.specs.Refusals.{not_written_refusal}
use Rattle.tw_texts.specs.declared.traces.NotWritten.{NotWritten}
use Rattle.tw_texts.specs.declared.traces.NotWritten.TheVariants.{OutOfMemory, WriteFailed}
use Rattle.tw_vtime.specs.Stamps.{max_tick}

-- ---- of a network

pub not_graphed : (why : NotWritten) (old new : Option (List ℕ)) → (why ≡ OutOfMemory → new ≡ old) → IsGraphedOf (Err (failed_of (not_written_refusal why))) old new
not_graphed OutOfMemory old new idle = (refl, subst (Keeps old) (sym (idle refl)) (keeps_all old))
not_graphed WriteFailed old new idle = tt

-- ---- of a sequential run

-- a picture ends before the fault, or with it
pub view_drawn : (n : Contents AnyModel) (until : ℕ) (fault : Option Fault) (line : Option (String Global)) (old new : Option (List ℕ))
    → (fault ≡ None) ⊎ (fault ≡ run_fault n until) → IsLineOf n fault line → IsViewDrawnOf n until (Ok line) old new
view_drawn n until fault None old new is of = tt
view_drawn n until fault (Some line) old new (inl none) of = absurd (no_fault (of.0.0) (sym none ∙ of.0.1))
  where
    no_fault : (met : Fault) → ◌≡◌ {A = Option Fault} None (Some met) → ⊥
    no_fault met e = cc e
view_drawn n until fault (Some line) old new (inr is) of = subst (λ (f : Option Fault). IsLineOf n f (Some line)) is of

pub view_refused : (n : Contents AnyModel) (until : ℕ) (why : DrawRefused) (old new : Option (List ℕ))
    → (why ≡ drawing.BadTick → max_tick < until) → (why ≢ drawing.WriteFailed → Keeps old new) → IsViewDrawnOf n until (Err (failed_of (draw_refusal why))) old new
view_refused n until drawing.OutOfMemory old new late keeps = refl
view_refused n until drawing.BadTick old new late keeps = (inl (refl, late refl), keeps (λ e. cc))
view_refused n until drawing.NoSuch old new late keeps = (inr refl, keeps (λ e. cc))
view_refused n until drawing.WriteFailed old new late keeps = tt

-- ---- of a run of Time Warp

-- one by a script that is not written to its end
pub script_undone : (bytes script : List ℕ) (until : ℕ) (why : NotWritten) (old new : Option (List ℕ)) → (why ≡ OutOfMemory → Keeps old new)
    → IsScriptDrawn bytes script until (Err (failed_of (not_written_refusal why))) old new
script_undone bytes script until OutOfMemory old new keeps = (refl, keeps refl)
script_undone bytes script until WriteFailed old new keeps = tt

-- where memory was wanting nothing is written
pub kept_whole : {O : Type 0} (contents : O → Option (List ℕ)) (why : NotWritten) (old new : O)
    → (why ≡ OutOfMemory → new ≡ old) → why ≡ OutOfMemory → Keeps (contents old) (contents new)
kept_whole contents why old new h is = subst (λ o. Keeps (contents old) (contents o)) (sym (h is)) (keeps_all (contents old))

-- a script that is refused
pub script_undrawn : (bytes : List ℕ) (n : Contents AnyModel) → IsMeaning bytes n → (until : ℕ) (script : List ℕ) (why : Failed) (old : Option (List ℕ))
    → HasNoCommands n.names script why → IsScriptDrawn bytes script until (Err why) old old
script_undrawn bytes n means until script why old (inl want) = subst (λ w. IsScriptDrawn bytes script until (Err w) old old) (sym want) (refl, keeps_all old)
script_undrawn bytes n means until script why old (inr (inl many)) = subst (λ w. IsScriptDrawn bytes script until (Err w) old old) (sym many.0) (keeps_all old, inr (n, means, (refl, many.1)))
script_undrawn bytes n means until script why old (inr (inr bad)) = subst (λ w. IsScriptDrawn bytes script until (Err w) old old) (sym bad.1) (keeps_all old, refl, (n, means, bad.2))

-- a run that is
pub script_unbegun : (bytes script : List ℕ) (until : ℕ) (why : Failed) (old : Option (List ℕ)) → HasNoRun until why → IsScriptDrawn bytes script until (Err why) old old
script_unbegun bytes script until why old (inl want) = subst (λ w. IsScriptDrawn bytes script until (Err w) old old) (sym want) (refl, keeps_all old)
script_unbegun bytes script until why old (inr late) = subst (λ w. IsScriptDrawn bytes script until (Err w) old old) (sym late.0) (keeps_all old, inl (inl (refl, late.1)))
