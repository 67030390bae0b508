-- From the fault of a file to why it gave no network.
use Rattle.std.proofs.Common.{◌≢◌, ℕ, List, inl, inr, refl}
use Rattle.tw_engine.specs.Ends.{failed_of}
use Rattle.tw_engine.specs.Runs.{HasNoNetwork}
use Rattle.tw_file_network.specs.Refused.{file_refusal}
use Rattle.tw_file_network.specs.TreeMeaning.{IsFault}
use Rattle.tw_file_network.specs.declared.refused.FileRefused.{FileRefused}
use Rattle.tw_file_network.specs.declared.refused.FileRefused.TheVariants.{OutOfMemory, NotJson, BadShape, Parameter, Network}
use Rattle.tw_models.specs.declared.bad_model.BadModel.TheVariants as model
use Rattle.tw_network.specs.declared.refused.NetworkRefused.TheVariants as network

pub no_network : (bytes : List ℕ) (fault : FileRefused) → (fault ≢ OutOfMemory → IsFault bytes fault) → HasNoNetwork bytes (failed_of (file_refusal fault))
no_network bytes OutOfMemory first = inl refl
no_network bytes NotJson first = inr (NotJson, first (λ e. cc), refl)
no_network bytes BadShape first = inr (BadShape, first (λ e. cc), refl)
no_network bytes (Parameter model.BadPort) first = inr (Parameter model.BadPort, first (λ e. cc), refl)
no_network bytes (Parameter model.BadTick) first = inr (Parameter model.BadTick, first (λ e. cc), refl)
no_network bytes (Network network.OutOfMemory) first = inl refl
no_network bytes (Network network.UnknownComponent) first = inr (Network network.UnknownComponent, first (λ e. cc), refl)
no_network bytes (Network network.BadPort) first = inr (Network network.BadPort, first (λ e. cc), refl)
no_network bytes (Network network.SelfCoupling) first = inr (Network network.SelfCoupling, first (λ e. cc), refl)
no_network bytes (Network network.DuplicateRoute) first = inr (Network network.DuplicateRoute, first (λ e. cc), refl)
no_network bytes (Network network.TooMany) first = inr (Network network.TooMany, first (λ e. cc), refl)
no_network bytes (Network network.BadTick) first = inr (Network network.BadTick, first (λ e. cc), refl)
no_network bytes (Network network.BadLimit) first = inr (Network network.BadLimit, first (λ e. cc), refl)
no_network bytes (Network network.BadName) first = inr (Network network.BadName, first (λ e. cc), refl)
no_network bytes (Network network.DuplicateName) first = inr (Network network.DuplicateName, first (λ e. cc), refl)
