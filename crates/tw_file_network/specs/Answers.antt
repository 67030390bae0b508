-- How the reader of files fails: want of memory may come at any point, and any other fault is the one that a definition gives.
--     FailsBy result said      it is the fault that is said
--     HasNoShape result said      it is 21 (BadShape), where the definition reads nothing
--     FailsAs result IsFault      it is a fault of this kind
use Rattle.std.specs.Prelude.{◌≡◌, ◌≢◌, Option, None, Result, Err, IfErr}
use Rattle.tw_file_network.specs.declared.refused.FileRefused.{FileRefused}
use Rattle.tw_file_network.specs.declared.refused.FileRefused.TheVariants.{OutOfMemory, BadShape}

abbrev pub FailsAs : {A : Type 0} → Result A FileRefused → (FileRefused → Type 0) → Type 0
FailsAs result IsFault = IfErr result (λ e. e ≢ OutOfMemory → IsFault e)

abbrev pub FailsBy : {A B : Type 0} → Result A FileRefused → Result B FileRefused → Type 0
FailsBy result said = FailsAs result (λ e. said ≡ Err e)

abbrev pub HasNoShape : {A B : Type 0} → Result A FileRefused → Option B → Type 0
HasNoShape result said = FailsAs result (λ e. (e ≡ BadShape) × (said ≡ None))
