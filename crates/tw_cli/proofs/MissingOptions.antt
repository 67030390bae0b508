-- Where options say nothing: a part of it is missing.
use Rattle.std.proofs.Common.{◌≡◌, ◌∙◌, ℕ, List, ap, bytes_eq, codes, inl, inr, sym}
use Rattle.std.specs.Prelude.{Option, Some, None, find, is_some, option_and_then, option_map, slice_get, true}
use Rattle.clap.specs.Values.{read_as}
use Rattle.clap.specs.Walk.{row_text}
use Rattle.clap.specs.Words.{Row, Text, first_of}
use Rattle.tw_cli.specs.Options.{HasNumber, IsBurstIn, IsByIn, IsDriverIn, IsFromIn, IsPictureIn, IsInOrder, IsReplicationIn, IsRowsIn, IsStartIn, IsTabledIn, IsTeamIn, IsUndriven, IsViewIn, IsWidthIn, IsWindowIn, IsWorkersIn}
use Rattle.tw_cli.specs.declared.driving.Driver.{Driver}
use Rattle.tw_cli.specs.declared.driving.Driver.TheVariants.{Script, Seed}
use Rattle.tw_cli.specs.declared.seeing.Picture.{Picture}
use Rattle.tw_cli.specs.declared.seeing.Picture.TheVariants as of
use Rattle.tw_figures.specs.declared.seeing.Rows.{Rows}
use Rattle.tw_figures.specs.declared.seeing.Rows.TheVariants.{Records}
use Rattle.tw_figures.specs.declared.seeing.Tabled.{Tabled}
use Rattle.tw_figures.specs.declared.seeing.Tabled.TheVariants.{OfRun, OfFigures}
use Rattle.tw_figures.specs.declared.seeing.View.{View}
use Rattle.tw_cli.specs.declared.setting.ByWorkers.{ByWorkers}
use Rattle.tw_cli.specs.declared.setting.Workers.{Workers}
use Rattle.tw_cli.specs.declared.setting.Workers.TheVariants.{Auto, Count}

-- with no script there are both a seed and a number of steps
pub no_seeded : (rows : List Row) → first_of (codes "script") rows ≡ None
    → ((seed steps : ℕ) → HasNumber (codes "seed") 0 18446744073709551615 rows seed → HasNumber (codes "steps") 0 1000000 rows steps → ⊥)
    → (d : Driver) → ¬ (IsDriverIn rows d)
no_seeded rows left_out missing (Script path) is = let bad : None ≡ Some path.now = sym left_out ∙ is.0 in cc
no_seeded rows left_out missing (Seed seed steps) is = missing seed steps is.1 is.2

-- an option that is left out has no text
left_out_text : (o : Option Row) (text : Text) → option_and_then row_text o ≡ Some text → option_and_then (λ r. slice_get r.values 0) o ≡ None → ⊥
left_out_text None text one none = cc one
left_out_text (Some r) text one none = let bad : None ≡ Some text = sym (ap (option_map (read_as r.reading)) none) ∙ one in cc

left_out_number : (rows : List Row) (id : Text) (least most n : ℕ) → first_of id rows ≡ None → HasNumber id least most rows n → ⊥
left_out_number rows id least most n none has = left_out_text (find (λ r. bytes_eq r.id id) rows) has.0 has.1 none

-- with no driver there is none
no_driver : (rows : List Row) → IsUndriven rows → (d : Driver) → ¬ (IsDriverIn rows d)
no_driver rows undriven (Script path) is = let bad : None ≡ Some path.now = sym undriven.0 ∙ is.0 in cc
no_driver rows undriven (Seed seed steps) is = left_out_number rows (codes "seed") 0 18446744073709551615 seed undriven.1 is.1

-- where it is neither left to the program nor a number in its range, there is no number of workers
pub no_workers : (rows : List Row) → ¬ (first_of (codes "workers") rows ≡ Some (codes "auto"))
    → ((n : ℕ) → ¬ (HasNumber (codes "workers") 1 64 rows n)) → (w : Workers) → ¬ (IsWorkersIn rows w)
no_workers rows counted missing (Count n) is = missing n is
no_workers rows counted missing Auto is = counted is

-- where the option stands, its number says from when on
pub no_start : (rows : List Row) → is_some (first_of (codes "from") rows) ≡ true
    → ((n : ℕ) → ¬ (HasNumber (codes "from") 0 1099511627774 rows n)) → (o : Option ℕ) → ¬ (IsStartIn rows o)
no_start rows stands missing None is = let bad : is_some {T = Text} None ≡ true = sym (ap is_some is) ∙ stands in cc
no_start rows stands missing (Some n) has = missing n has

pub no_from : (rows : List Row) → is_some (first_of (codes "from") rows) ≡ true
    → ((n : ℕ) → ¬ (HasNumber (codes "from") 0 1099511627774 rows n)) → (n : ℕ) → ¬ (IsFromIn rows n)
no_from rows stands missing n (inl left_out) = let bad : is_some {T = Text} None ≡ true = sym (ap is_some left_out.0) ∙ stands in cc
no_from rows stands missing n (inr has) = missing n has

pub no_replication : (rows : List Row) → is_some (first_of (codes "seed-all") rows) ≡ true
    → ((n : ℕ) → ¬ (HasNumber (codes "seed-all") 0 18446744073709551615 rows n)) → (n : ℕ) → ¬ (IsReplicationIn rows n)
no_replication rows stands missing n (inl left_out) = let bad : is_some {T = Text} None ≡ true = sym (ap is_some left_out.0) ∙ stands in cc
no_replication rows stands missing n (inr has) = missing n has

pub no_width : (rows : List Row) → is_some (first_of (codes "width") rows) ≡ true
    → ((n : ℕ) → ¬ (HasNumber (codes "width") 600 4000 rows n)) → (n : ℕ) → ¬ (IsWidthIn rows n)
no_width rows stands missing n (inl left_out) = let bad : is_some {T = Text} None ≡ true = sym (ap is_some left_out.0) ∙ stands in cc
no_width rows stands missing n (inr has) = missing n has

-- with no driver a picture is of what is seen of a run
pub no_seen : (rows : List Row) → IsUndriven rows → ((v : View) → ¬ (IsViewIn rows v)) → (p : Picture) → ¬ (IsPictureIn rows p)
no_seen rows undriven missing (of.Run view) is = missing view is.1
no_seen rows undriven missing (of.Warp cancel driver) is = no_driver rows undriven driver is.2

pub no_burst : (rows : List Row) → is_some (first_of (codes "burst") rows) ≡ true
    → ((n : ℕ) → ¬ (HasNumber (codes "burst") 1 256 rows n)) → (n : ℕ) → ¬ (IsBurstIn rows n)
no_burst rows stands missing n (inl left_out) = let bad : is_some {T = Text} None ≡ true = sym (ap is_some left_out.0) ∙ stands in cc
no_burst rows stands missing n (inr has) = missing n has

pub no_window : (rows : List Row) → is_some (first_of (codes "window") rows) ≡ true
    → ((n : ℕ) → ¬ (HasNumber (codes "window") 0 1099511627774 rows n)) → (n : ℕ) → ¬ (IsWindowIn rows n)
no_window rows stands missing n (inl left_out) = let bad : is_some {T = Text} None ≡ true = sym (ap is_some left_out.0) ∙ stands in cc
no_window rows stands missing n (inr has) = missing n has

-- where the number of workers is left out, there are none
without_number : (rows : List Row) → first_of (codes "workers") rows ≡ None → (w : Workers) → ¬ (IsWorkersIn rows w)
without_number rows none (Count n) is = left_out_number rows (codes "workers") 1 64 n none is
without_number rows none Auto is = let bad : None ≡ Some (codes "auto") = sym none ∙ is in cc

-- where an option speaks of workers but their number is left out, nobody makes the run
pub no_number : (rows : List Row) → ¬ (IsInOrder rows) → first_of (codes "workers") rows ≡ None → (o : Option ByWorkers) → ¬ (IsByIn rows o)
no_number rows manned none None is = manned is
no_number rows manned none (Some by) is = without_number rows none by.setting.workers is.1

-- nor where what they are set to does not stand there
pub no_team : (rows : List Row) → ¬ (IsInOrder rows) → ((by : ByWorkers) → ¬ (IsTeamIn rows by)) → (o : Option ByWorkers) → ¬ (IsByIn rows o)
no_team rows manned missing None is = manned is
no_team rows manned missing (Some by) is = missing by is

-- where no kind of line stands, there is no table
pub no_tabled : (rows : List Row) → ((r : Rows) → ¬ (IsRowsIn rows r)) → (t : Tabled) → ¬ (IsTabledIn rows t)
no_tabled rows missing (OfRun r) is = missing r is.1
no_tabled rows missing OfFigures is = missing Records is.1
