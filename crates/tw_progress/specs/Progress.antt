-- What is told of a run.
--     tick_told gvt until      the tick committed at a global virtual time, of a run that ends at a tick
--     progress_text tick until records      the text of it
use Rattle.std.specs.Prelude.{◌==◌, ◌++◌, ℕ, List, min, if◌then◌else◌, codes}
use Rattle.std.specs.Fmt.{decimal}
use Rattle.tw_vtime.specs.Stamps.{never, tick_of}

-- the tick of global virtual time, and no tick past the end
abbrev pub tick_told : ℕ → ℕ → ℕ
tick_told gvt until = if gvt == never then until else min (tick_of gvt) until

abbrev pub progress_text : ℕ → ℕ → ℕ → List ℕ
progress_text tick until records =
    codes "tick " ++ decimal tick ++ codes " of " ++ decimal until ++ codes ", " ++ decimal records ++ codes " records"
