use Rattle.std.proofs.Common.{ℕ, List, codes, decimal, string_bytes}
use Rattle.tw_stats.specs.Strings.{behind_comma, member}
use Rattle.tw_stats.proofs.Joining.{Adds, adds_both, adds_nothing}
use Rattle.tw_stats.proofs.json.add_counts.Goals as goal

pub returns : goal.returns
returns c =
    let said = λ (name : List ℕ) (count : ℕ). behind_comma (member name (decimal count)) in
    let first : Adds (string_bytes c.args.text.now) (string_bytes c.add_count.new.text) (said (codes "outputs") c.args.counts.outputs) = record { is = c.in_ok-add_count.ensures } in
    let second : Adds (string_bytes c.add_count.new.text) (string_bytes c.add_count-2.new.text) (said (codes "sent") c.args.counts.sent) = record { is = c.in_ok-add_count-2.ensures } in
    let third : Adds (string_bytes c.add_count-2.new.text) (string_bytes c.add_count-3.new.text) (said (codes "received") c.args.counts.received) = record { is = c.in_ok-add_count-3.ensures } in
    let fourth : Adds (string_bytes c.add_count-3.new.text) (string_bytes c.add_count-4.new.text) (said (codes "int") c.args.counts.int) = record { is = c.in_ok-add_count-4.ensures } in
    let fifth : Adds (string_bytes c.add_count-4.new.text) (string_bytes c.add_count-5.new.text) (said (codes "ext") c.args.counts.ext) = record { is = c.in_ok-add_count-5.ensures } in
    let sixth : Adds (string_bytes c.add_count-5.new.text) (string_bytes c.add_count-6.new.text) (said (codes "con") c.args.counts.con) = record { is = c.in_ok-add_count-6.ensures } in
    (adds_both first (adds_both second (adds_both third (adds_both fourth (adds_both fifth (adds_both sixth (adds_nothing _))))))).is
