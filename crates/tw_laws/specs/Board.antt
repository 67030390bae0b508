-- What the board shows is so: no more than was committed, and it never falls.
use Rattle.std.specs.Prelude.{ℕ, ◌≤◌, ◌≡◌, List}
use Rattle.tw_vtime.specs.Stamps.{max_tick}
use Rattle.tw_theory.specs.Board.{Numbers, numbers_of, AtMost, posted_after, nothing_posted, IsBoard, IsSeen, IsMet}
use Rattle.tw_theory.specs.Executive.{World, Action, replay}
use Rattle.tw_theory.specs.Network.{Network, IsNetwork}
use Rattle.tw_theory.specs.Soundness.{IsSound}

pub record BoardLaw (S : Type 0) : Type 0 where
  -- what an executive's numbers are is no less after any actions
  pub rises : (net : Network S) (until : ℕ) (w : World S) (actions : List Action) → IsNetwork net → until ≤ max_tick → IsSound net until w → AtMost (numbers_of w) (numbers_of (replay net until w actions))
  pub nothing : (w : World S) → AtMost nothing_posted (numbers_of w)
  -- where no more is posted than they are, posting them makes the posted numbers just these
  pub posts : (w : World S) (posted : Numbers) → AtMost posted (numbers_of w) → posted_after posted (numbers_of w) ≡ numbers_of w
  -- what is posted never falls, so the rule of the board stays
  pub keeps : (posted numbers : Numbers) (seen : List Numbers) → IsBoard posted seen → AtMost posted (posted_after posted numbers) × IsBoard (posted_after posted numbers) seen
  -- so what a Reader sees is no more than the executive has, and what it meets is just what was posted last
  pub sees : (w : World S) (posted before now : Numbers) → AtMost posted (numbers_of w) → IsSeen posted before now → AtMost now (numbers_of w)
  pub meets : (w : World S) (posted before now : Numbers) → AtMost posted (numbers_of w) → IsMet (posted_after posted (numbers_of w)) before now → now ≡ numbers_of w
