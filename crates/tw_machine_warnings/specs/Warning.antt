-- A warning: where, and what is odd there.
--     line_of w      its line, as `check` writes it
use Rattle.std.specs.Prelude.{◌++◌, ◌∷◌, [], ℕ, List, Bool, true, false, codes, flat_map, string_bytes}
use Rattle.tw_machine_warnings.specs.declared.warning.Kind.{Kind}
use Rattle.tw_machine_warnings.specs.declared.warning.Kind.TheVariants as k
use Rattle.tw_machine_warnings.specs.declared.warning.Warning as rust

pub record Warning : Type 0 where
  pub at : List ℕ
  pub kind : Kind

abbrev pub warning : rust.Warning → Warning
warning w = record { at = string_bytes w.place; kind = w.kind }

abbrev pub words : Kind → List ℕ
words k.NeverDraws = codes "a random number is read, and none is drawn: it is the same each time"
words k.SameStart = codes "its random numbers start as those of a component before it"
words k.NotRead = codes "it is nowhere read"
words k.NotSet = codes "it is nowhere set"
words k.RandomIndex = codes "its index is a random number below another number than it has places"
words k.IndexPast = codes "an index is outside it: it is its first or its last place"
words k.PortPast = codes "no item is sent on this port: ports are 0 to 15"
words k.AlwaysZero = codes "\"value\" or \"left\" is always 0 here"
words k.NeverSteps = codes "it never steps by itself: it has no first wait, and no \"wait\" in external"
words k.StepsOnce = codes "it steps by itself once alone: it has no \"wait\" in internal and external"
words k.NeverRuns = codes "it never runs: it has no \"first\", and nothing starts it"
words k.TwoWaits = codes "one \"wait\" stands behind another, and the last counts"
words k.NegativeWait = codes "a \"wait\" by a negative number is one by 0"
words k.SilentPort = codes "on this port nothing is ever sent"
words k.NoExternal = codes "its receiver has no external: what comes does nothing"
words k.NotCoupled = codes "it sends on a port that is coupled to nothing"

abbrev pub line_of : Warning → List ℕ
line_of w = codes "warning: " ++ (w.at ++ (codes ": " ++ (words w.kind ++ codes "\n")))

abbrev pub lines_of : List Warning → List ℕ
lines_of ws = flat_map line_of ws

-- a warning where something is so
abbrev pub where_so : Bool → List ℕ → Kind → List Warning
where_so true place kind = record { at = place; kind = kind } ∷ []
where_so false place kind = []
