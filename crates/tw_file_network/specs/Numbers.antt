-- Names and ports of a file as the numbers of a network.
--     number_of names name      the component that has the name, where it first stands; as many as there are where none has it
--     numbered_coupling number k, numbered_input number i      a coupling and an input with numbers in place of names
use Rattle.std.specs.Prelude.{ℕ, List, map, nat_lt, if◌then◌else◌}
use Rattle.std.specs.List.{position_or_len}
use Rattle.std.specs.Str.{bytes_eq}
use Rattle.tw_network.specs.Contents.{Input}
use Rattle.tw_theory.specs.Network.{Coupling}
use Rattle.tw_file_network.specs.Shape.{FileComponent, FileCoupling, FileInput}

abbrev pub names_of : List FileComponent → List (List ℕ)
names_of components = map (λ c. c.0) components

-- an unknown name gets a number that no component has
abbrev pub number_of : List (List ℕ) → List ℕ → ℕ
number_of names name = position_or_len (bytes_eq name) names

-- a port above 255 is 255: a network takes neither
abbrev pub port_of : ℕ → ℕ
port_of port = if nat_lt port 256 then port else 255

abbrev pub numbered_coupling : (List ℕ → ℕ) → FileCoupling → Coupling
numbered_coupling number k = (number k.0, port_of k.1, number k.2, port_of k.3)

abbrev pub numbered_input : (List ℕ → ℕ) → FileInput → Input
numbered_input number i = (i.0, number i.1, port_of i.2, i.3)
