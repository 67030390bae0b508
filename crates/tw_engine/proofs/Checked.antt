-- From what is told of a network or a fault to what a check says of the bytes of the file.
use Rattle.std.proofs.Common.{◌≡◌, ℕ, List, [], ap, inl, inr, refl, subst, sym}
use Rattle.std.specs.Option.{option_map_or}
use Rattle.std.specs.Prelude.{◌≢◌, Bool, Option, Result, Ok, Err}
use Rattle.std.specs.Result.{result_ok}
use Rattle.serde_json.specs.Data.{Data}
use Rattle.tw_any_model.specs.declared.any_model.AnyModel.{AnyModel}
use Rattle.tw_network.specs.Contents.{Contents}
use Rattle.tw_file_network.specs.Meaning.{json_of}
use Rattle.tw_file_network.specs.TreeMeaning.{IsFault, IsMeaning}
use Rattle.tw_file_network.specs.declared.refused.FileRefused.{FileRefused}
use Rattle.tw_file_network.specs.declared.refused.FileRefused.TheVariants.{OutOfMemory}
use Rattle.tw_engine.specs.Checks.{IsCheck, IsTold, IsWarned, warnings_in}
use Rattle.tw_engine.specs.Ends.{PlainEnd}
use Rattle.tw_engine.specs.declared.failed.Failed.{Failed}
use Rattle.tw_engine.specs.declared.failed.Failed.TheVariants.{Bad, Want, NoWrite}
use Rattle.tw_file_warnings.specs.Warnings.{warnings_of}

-- what is odd about the file that was read is odd about that of its bytes
pub warned_of_bytes : (bytes : List ℕ) (file : Data) → json_of bytes ≡ Ok file → warnings_of file ≡ warnings_in bytes
unfolding warnings_in
warned_of_bytes bytes file is = sym (ap (λ (r : Result Data FileRefused). option_map_or warnings_of (result_ok r) []) is)

pub checked_network : (bytes : List ℕ) (n : Contents AnyModel) (strict : Bool) (end : PlainEnd) (old new : Option (List ℕ))
    → IsMeaning bytes n → IsWarned n (warnings_in bytes) strict end old new → IsCheck bytes strict end old new
checked_network bytes n strict (Ok done) old new means written = (n, means, written)
checked_network bytes n strict (Err (Bad why line)) old new means written = inr (n, means, written)
checked_network bytes n strict (Err (Want why)) old new means written = written
checked_network bytes n strict (Err NoWrite) old new means written = tt

pub checked_fault : (bytes : List ℕ) (strict : Bool) (fault : FileRefused) (why : Failed) (old new : Option (List ℕ))
    → (fault ≢ OutOfMemory → IsFault bytes fault) → IsTold fault why old new → IsCheck bytes strict (Err why) old new
checked_fault bytes strict fault why old new first (inl failed) = subst (λ w. IsCheck bytes strict (Err w) old new) (sym failed) tt
checked_fault bytes strict fault why old new first (inr (inl (want, keeps))) = subst (λ w. IsCheck bytes strict (Err w) old new) (sym want) (refl, keeps)
checked_fault bytes strict fault why old new first (inr (inr (other, bad, line))) = subst (λ w. IsCheck bytes strict (Err w) old new) (sym bad) (inl ((fault, first other, refl), refl, line))
