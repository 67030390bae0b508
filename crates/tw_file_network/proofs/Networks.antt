-- What a file means, by the parts that are made of it.
use Rattle.std.proofs.Common.{◌≡◌, ℕ, List, map, sym, refl}
use Rattle.std.specs.Prelude.{Ok}
use Rattle.tw_any_model.specs.declared.any_model.AnyModel.{AnyModel}
use Rattle.tw_network.specs.Contents.{Input}
use Rattle.tw_theory.specs.Network.{Coupling}
use Rattle.tw_file_network.specs.Components.{components_made}
use Rattle.tw_file_network.specs.Meaning.{network_made, network_of}
use Rattle.tw_file_network.specs.Numbers.{names_of, number_of, numbered_coupling, numbered_input}
use Rattle.tw_file_network.specs.Shape.{File, FileComponent, FileCoupling, FileInput}

-- where the models are made, and couplings and inputs have numbers
pub network_known : (file : File) (cs : List FileComponent) (ks : List FileCoupling) (is : List FileInput) (number : List ℕ → ℕ)
    (components : List (List ℕ × AnyModel)) (couplings : List Coupling) (inputs : List Input)
    → cs ≡ file.components → ks ≡ file.couplings → is ≡ file.inputs
    → components_made cs ≡ Ok components → number ≡ number_of (names_of cs)
    → couplings ≡ map (numbered_coupling number) ks → inputs ≡ map (numbered_input number) is
    → network_of file ≡ network_made components couplings inputs file.micro_limit
network_known file cs ks is number components couplings inputs same_cs same_ks same_is models numbers of_ks of_is =
    rw (sym same_cs, models, sym numbers, sym same_ks, sym same_is, sym of_ks, sym of_is) refl
