use Rattle.std.proofs.Common.{◌≡◌, ◌<◌, ℕ, length, slice_index}
use Rattle.tw_network.specs.RouteIndex.{IsStart}
use Rattle.tw_network.proofs.routes.starts_of.Given as goal

abbrev pub invariant-loop-part : goal.invariant-loop-part
invariant-loop-part l = (length l.starts.items ≡ l.part) × ((k : ℕ) → k < l.part → IsStart l.sorted k (slice_index l.starts.items k))
