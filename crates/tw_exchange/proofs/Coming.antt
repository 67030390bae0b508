-- Whatever is done of an executive, it has come further; and further than that is further.
use Rattle.std.proofs.Common.{◌≡◌, ℕ, List, [], ◌∷◌, length, map, Result, Ok, Err, refl, sym, ap, ap₂, subst, ◌∙◌, arith}
use Rattle.std.specs.Prelude.{IfErr, IsErrAnd, replicate}
use Rattle.std.specs.List.{AllByRecursion as Each}
use Rattle.tw_atomic.specs.Atomic.{Meaning}
use Rattle.tw_exec.specs.Running.{IsSoundly, Running}
use Rattle.tw_laws.proofs.Cancelling.{cancel_stays}
use Rattle.tw_laws.proofs.Growing.{grow_both, grow_none}
use Rattle.tw_laws.proofs.Least.{gvt_law}
use Rattle.tw_network.specs.Contents.{network_of}
use Rattle.tw_theory.specs.Contents.{Cancel, Process}
use Rattle.tw_theory.specs.Executive.{Action, World, act, replay}
use Rattle.tw_theory.specs.Network.{Network}
use Rattle.tw_theory.specs.Soundness.{Cancels, IsSound}
use Rattle.tw_laws.proofs.Harvesting.{replay_sound}
use Rattle.tw_exchange.specs.Further.{IsFurther, IsSince, Reached, reached}
use Rattle.tw_exchange.specs.Sweeping.{replayed}

pub no_further : {S : Type 0} (w : World S) → IsFurther (reached w) (reached w)
no_further w = record { cancels = refl; columns = grow_none w.columns; gvt = omega arith }

further_both : (a b c : Reached) → IsFurther a b → IsFurther b c → IsFurther a c
further_both a b c h k = record { cancels = k.cancels ∙ h.cancels; columns = grow_both a.columns b.columns c.columns h.columns k.columns; gvt = omega (arith, h.gvt, k.gvt) }

pub since_further : {S : Type 0} (begun : Reached → Type 0) (w w' : World S) → IsSince begun w → IsFurther (reached w) (reached w') → IsSince begun w'
since_further begun w w' h k = record { from = h.from; is = h.is; further = further_both h.from (reached w) (reached w') h.further k }

-- where it was just begun so
pub since_here : {S : Type 0} (begun : Reached → Type 0) (w : World S) → begun (reached w) → IsSince begun w
since_here begun w is = record { from = reached w; is = is; further = no_further w }

-- an executive that comes back
pub back_further : {M S X F : Type 0} (r : Result X F) (of : F → Running M S) (e now : Running M S) → IsFurther (reached e.world) (reached now.world) → IsErrAnd r (λ f. of f ≡ now)
    → IfErr r (λ f. IsFurther (reached e.world) (reached (of f).world))
back_further (Ok x) of e now h is = tt
back_further (Err f) of e now h is = subst (λ x. IsFurther (reached e.world) (reached x.world)) (sym is) h

-- ## What actions do

-- all cancel alike
alike : {S : Type 0} (cancel : Cancel) (ps : List (Process S)) → Each (Cancels cancel) ps → map (λ (p : Process S). p.cancel) ps ≡ replicate (length ps) cancel
alike cancel [] h = refl
alike cancel (p ∷ ps) h = ap₂ (λ c cs. c ∷ cs) h.0.is (alike cancel ps h.1)

replay_cancels : {S : Type 0} (net : Network S) (until : ℕ) (cancel : Cancel) (w : World S) (actions : List Action) → Each (Cancels cancel) w.processes → Each (Cancels cancel) (replay net until w actions).processes
replay_cancels net until cancel w [] h = h
replay_cancels net until cancel w (a ∷ actions) h = replay_cancels net until cancel (act net until w a).1 actions (cancel_stays.act net until cancel w a h)

same_cancels : {S : Type 0} (net : Network S) (until : ℕ) (w : World S) (actions : List Action) → IsSound net until w → IsSound net until (replay net until w actions)
    → map (λ (p : Process S). p.cancel) (replay net until w actions).processes ≡ map (λ (p : Process S). p.cancel) w.processes
same_cancels net until w actions h h' =
    alike h.cancel (replay net until w actions).processes (replay_cancels net until h.cancel w actions h.cancels)
    ∙ ap (λ n. replicate n h.cancel) (h'.processes ∙ sym h.processes)
    ∙ sym (alike h.cancel w.processes h.cancels)

pub replayed_further : {M S : Type 0} (meaning : M → Meaning S) (actions : List Action) (e e' : Running M S) → IsSoundly meaning e → e' ≡ replayed meaning actions e → IsFurther (reached e.world) (reached e'.world)
replayed_further meaning actions e e' s is =
    let net = network_of meaning e.network in
    let sound = replay_sound net e.until e.world actions s.network s.bound s.sound in
    subst (λ x. IsFurther (reached e.world) (reached x.world)) (sym is) (record {
      cancels = same_cancels net e.until e.world actions s.sound sound;
      columns = gvt_law.grows_by net e.until e.world actions;
      gvt = gvt_law.rises_by net e.until e.world s.network s.bound s.sound actions;
    })
