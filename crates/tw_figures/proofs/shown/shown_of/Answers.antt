use Rattle.std.proofs.Common.{◌≡◌, ◌∙◌, Bor, ℕ, List, ap, map, option_map, sym}
use Rattle.std.specs.Prelude.{Option}
use Rattle.std.proofs.lemmas.Result.{IfOk-weaker}
use Rattle.tw_figures.specs.Shown.{parted, shown_among, shown_of}
use Rattle.tw_figures.proofs.shown.shown_of.Goals as goal

pub returns-in-Some : goal.returns-in-Some
returns-in-Some g c =
    let names = c.args.network.now.names in
    let only = option_map (λ (o : Bor (List ℕ)). o.now) c.args.only in
    let is : shown_among (map (λ n. n.now) c.deref.result.now) (parted c.as_bytes.result.now) ≡ shown_of names only =
    (λ i. shown_among ((ap (map (λ n. n.now)) c.deref.ensures.value ∙ c.in_ok-names.ensures) i) (parted (c.as_bytes.ensures.value i)))
    ∙ ap (λ (o : Option (Bor (List ℕ))). shown_of names (option_map (λ o. o.now) o)) (sym c.in-Some.is) in
    IfOk-weaker c.shown_in.result (λ shown. option_map (λ s. s.items) shown ≡ shown_among (map (λ n. n.now) c.deref.result.now) (parted c.as_bytes.result.now)) (λ shown. option_map (λ s. s.items) shown ≡ shown_of names only)
    (λ shown h. h ∙ is) c.shown_in.ensures
