-- A component is there where its name, its model and its process are.
use Rattle.std.proofs.Common.{◌≡◌, ◌∙◌, ◌<◌, ℕ, List, length, refl, sym, ap, inl, inr, arith}
use Rattle.std.specs.Prelude.{Option, Some, None, IsSome, is_some, slice_get}
use Rattle.std.proofs.lemmas.Bool.{false≢true}
use Rattle.std.proofs.lemmas.List.{length-map}
use Rattle.std.proofs.lemmas.Option.{slice_get_cases}
use Rattle.tw_atomic.specs.Atomic.{Meaning}
use Rattle.tw_exec.specs.Running.{Running}
use Rattle.tw_inspect.specs.Reports.{seen_if_there, shown_at}
use Rattle.tw_msgs.specs.declared.message.Item.{Item}
use Rattle.tw_network.specs.Contents.{Contents, network_of}
use Rattle.tw_theory.specs.Contents.{Process}
use Rattle.tw_theory.specs.Executive.{mail_of}
use Rattle.tw_theory.specs.Network.{count_of}

within_is_there : {X : Type 0} (xs : List X) (n c : ℕ) → length xs ≡ n → c < n → IsSome (slice_get xs c)
within_is_there xs n c count below =
    elim (slice_get_cases xs c).1 [ inl w ↦ ap is_some w.2 | inr w ↦ absurd (omega (arith, count, below, w.0)) ]

all_are_there : {M S : Type 0} (meaning : M → Meaning S) (a : Option (List ℕ)) (b : Option M) (c : Option (Process S)) (mail : List Item)
    → IsSome a → IsSome b → IsSome c → IsSome (seen_if_there meaning a b c mail)
all_are_there meaning (Some name) (Some model) (Some p) mail has_name has_model has_process = refl
all_are_there meaning (Some name) (Some model) None mail has_name has_model has_process = absurd (false≢true has_process)
all_are_there meaning (Some name) None c mail has_name has_model has_process = absurd (false≢true has_model)
all_are_there meaning None b c mail has_name has_model has_process = absurd (false≢true has_name)

-- there are as many names and as many processes as models
pub each_is_there : {M S : Type 0} (meaning : M → Meaning S) (e : Running M S) (network : Contents M)
    → network ≡ e.network → length network.names ≡ length network.models → length e.world.processes ≡ count_of (network_of meaning e.network)
    → (c : ℕ) → c < length e.network.models → IsSome (shown_at meaning e c)
each_is_there meaning e network network_is named held c below =
    all_are_there meaning (slice_get e.network.names c) (slice_get e.network.models c) (slice_get e.world.processes c) (mail_of e.world.mail c)
    (within_is_there e.network.names (length e.network.models) c (sym (ap (λ n. length n.names) network_is) ∙ named ∙ ap (λ n. length n.models) network_is) below)
    (within_is_there e.network.models (length e.network.models) c refl below)
    (within_is_there e.world.processes (length e.network.models) c (held ∙ length-map e.network.models meaning) below)
