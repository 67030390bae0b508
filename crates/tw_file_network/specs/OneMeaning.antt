-- The bytes of a network file mean at most one network, and have at most one first fault; never both.
--     MeansOne bytes      so it is of these bytes
use Rattle.std.specs.Prelude.{ℕ, ◌≡◌, List}
use Rattle.tw_any_model.specs.AnyModel.{any_meaning}
use Rattle.tw_any_model.specs.declared.any_model.AnyModel.{AnyModel}
use Rattle.tw_network.specs.Contents.{Contents, IsWhole}
use Rattle.tw_network.specs.FlatTrees.{IsSameNetwork}
use Rattle.tw_file_network.specs.TreeMeaning.{IsFault, IsMeaning}
use Rattle.tw_file_network.specs.declared.refused.FileRefused.{FileRefused}

pub record MeansOne (bytes : List ℕ) : Type 0 where
  -- two networks that they mean differ in the order of their couplings alone
  pub network : (n m : Contents AnyModel) → IsMeaning bytes n → IsMeaning bytes m → IsSameNetwork n m
  -- what is true of every network is true of it
  pub whole : (n : Contents AnyModel) → IsMeaning bytes n → IsWhole any_meaning n
  -- at most one fault is the first
  pub fault : (e f : FileRefused) → IsFault bytes e → IsFault bytes f → e ≡ f
  -- and none where there is a network
  pub apart : (n : Contents AnyModel) (e : FileRefused) → IsMeaning bytes n → ¬ (IsFault bytes e)
