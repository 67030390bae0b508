-- What bytes mean is what the JSON value that they write means.
use Rattle.std.proofs.Common.{◌≡◌, ◌≢◌, ℕ, List, refl, subst, sym}
use Rattle.std.specs.Prelude.{Result, Ok, Err}
use Rattle.std.specs.Result.{IfErr, IfOk}
use Rattle.serde_json.specs.Data.{Data}
use Rattle.tw_any_model.specs.declared.any_model.AnyModel.{AnyModel}
use Rattle.tw_network.specs.Contents.{Contents}
use Rattle.tw_file_network.specs.Meaning.{json_of}
use Rattle.tw_file_network.specs.TreeMeaning.{IsFault, IsFaultOfJson, IsFaultOfValue, IsMeaning, IsMeaningOfJson, IsMeaningOfValue}
use Rattle.tw_file_network.specs.declared.refused.FileRefused.{FileRefused}
use Rattle.tw_file_network.specs.declared.refused.FileRefused.TheVariants.{OutOfMemory}

-- they write no value
pub no_value : (bytes : List ℕ) (e : FileRefused) → json_of bytes ≡ Err e → IsFault bytes e
no_value bytes e none = subst (λ r. IsFaultOfJson r e) (sym none) refl

module _ (bytes : List ℕ) (d : Data) (json : json_of bytes ≡ Ok d) where
  pub value_means : (n : Contents AnyModel) → IsMeaningOfValue d n → IsMeaning bytes n
  value_means n is = subst (λ r. IsMeaningOfJson r n) (sym json) is

  pub value_fails : (e : FileRefused) → IsFaultOfValue d e → IsFault bytes e
  value_fails e is = subst (λ r. IsFaultOfJson r e) (sym json) is

  pub bytes_mean : (r : Result (Contents AnyModel) FileRefused) → IfOk r (IsMeaningOfValue d) → IfOk r (IsMeaning bytes)
  bytes_mean (Ok n) is = value_means n is
  bytes_mean (Err e) at = tt

  pub bytes_fail : (r : Result (Contents AnyModel) FileRefused) → IfErr r (λ e. e ≢ OutOfMemory → IsFaultOfValue d e) → IfErr r (λ e. e ≢ OutOfMemory → IsFault bytes e)
  bytes_fail (Ok n) at = tt
  bytes_fail (Err e) at = λ other. value_fails e (at other)
