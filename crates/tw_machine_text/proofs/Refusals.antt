-- What is read by the words is read of the text.
use Rattle.std.proofs.Common.{◌≡◌, ℕ, List, Option, Some, Err, refl, sym, subst}
use Rattle.tw_machine_text.specs.declared.kinds.Meaning.{Meaning}
use Rattle.tw_machine_text.specs.declared.kinds.Member.{Member}
use Rattle.tw_machine_text.specs.declared.kinds.Timing.{Timing}
use Rattle.tw_machine_text.specs.declared.place.Place.{Place}
use Rattle.tw_machine_text.specs.declared.refused.Refused.{Refused}
use Rattle.tw_machine_text.specs.declared.refused.Refused.TheVariants as r
use Rattle.tw_machine_text.specs.declared.refusal.TextRefused.{TextRefused}
use Rattle.tw_machine_text.specs.declared.refusal.TextRefused.TheVariants as e
use Rattle.tw_machine_text.specs.Text.{Reads, ReadsTree}
use Rattle.tw_machine_text.specs.Tree.{Tree, Block}
use Rattle.tw_machine_text.specs.Views.{Tells, IsReadAs}
use Rattle.tw_machine_text.proofs.Readings.{none_some_words}

pub moved : (n : ℕ) (names : List (List ℕ)) (timing : Option Timing) (k l : List Meaning) (ps : List Block) (s t : List ℕ) (p : Block) → k ≡ l → s ≡ t → Reads 64 n names timing l ps t p → Reads 64 n names timing k ps s p
moved n names timing k l ps s t p e f h = subst (λ (x : List Meaning). Reads 64 n names timing x ps s p) (sym e) (subst (λ (y : List ℕ). Reads 64 n names timing l ps y p) (sym f) h)

pub moved_tree : (n : ℕ) (m : Member) (names : List (List ℕ)) (timing : Option Timing) (k l : List Meaning) (s t : List ℕ) (p : Tree) → k ≡ l → s ≡ t → ReadsTree 64 n m names timing l t p → ReadsTree 64 n m names timing k s p
moved_tree n m names timing k l s t p e f h = subst (λ (x : List Meaning). ReadsTree 64 n m names timing x s p) (sym e) (subst (λ (y : List ℕ). ReadsTree 64 n m names timing l y p) (sym f) h)

no_memory : (p : Place) → e.Wrong p ≡ e.OutOfMemory → ⊥
no_memory p h = cc

-- a refusal for memory stays one, and any other means that the text says nothing
pub refused_as : {X Y Z : Type 0} (f : X → Y) (g : Z → Y) (a : Refused) (b : TextRefused) (y : Y) → (a ≡ r.OutOfMemory → b ≡ e.OutOfMemory) → Tells f (Err a) (Some y) → IsReadAs g (Err b) y
refused_as f g a e.OutOfMemory y m h = tt
refused_as f g r.OutOfMemory (e.Wrong p) y m h = absurd (no_memory p (m refl))
refused_as f g (r.Wrong i) (e.Wrong p) y m h = absurd (none_some_words h refl)
