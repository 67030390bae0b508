-- What is left of a sweep after a delivery, and after a pass.
use Rattle.std.proofs.Common.{◌≡◌, ℕ, ◌<◌, ◌≤◌, ◌++◌, ◌∷◌, [], suc, false, length, true, arith}
use Rattle.std.proofs.lemmas.List.{length-map}
use Rattle.tw_atomic.specs.Atomic.{Meaning}
use Rattle.tw_exec.specs.Running.{IsSoundly, Running, after}
use Rattle.tw_theory.proofs.Elements.{present}
use Rattle.tw_laws.proofs.Sweeping.{work_falls}
use Rattle.tw_laws.proofs.Swept.{sweep_law, sweep_steps}
use Rattle.tw_network.specs.Contents.{network_of}
use Rattle.tw_theory.specs.Exchange.{is_swept, work}
use Rattle.tw_theory.specs.Executive.{Deliver, mail_of}
use Rattle.tw_exchange.proofs.UnderWay.{first_there, none_there}
use Rattle.tw_exchange.specs.Sweeping.{deliveries_from, pass_of, passes_left, replayed}

module _ {M S : Type 0} (meaning : M → Meaning S) (now : Running M S) (s : IsSoundly meaning now) where
  pub process_count : length now.world.processes ≡ length now.network.models
  process_count = omega (arith, s.sound.processes, length-map now.network.models meaning)

  pub mail_count : length now.world.mail ≡ length now.network.models
  mail_count = omega (arith, s.sound.mail, length-map now.network.models meaning)

  -- ## A delivery

  pub record IsDelivery (q : ℕ) : Type 0 where
    pub is : deliveries_from q now ≡ Deliver q 0 ∷ deliveries_from q (after meaning (Deliver q 0) now)
    pub falls : work (after meaning (Deliver q 0) now).world < work now.world

  pub delivery : (q : ℕ) → q < length now.network.models → 0 < length (mail_of now.world.mail q) → IsDelivery q
  delivery q near some =
      let p = present now.world.processes q (omega (arith, near, process_count)) in
      let x = first_there (mail_of now.world.mail q) some in
      record {
        is = sweep_steps.deliver (network_of meaning now.network) now.until now.world q p.0 x.0 p.1 x.1 (omega (arith, near, mail_count));
        falls = work_falls.deliver (network_of meaning now.network) now.until now.world s.sound q 0 p.0 x.0 p.1 x.1;
      }

  pub no_delivery : (q : ℕ) → q < length now.network.models → length (mail_of now.world.mail q) ≡ 0 → deliveries_from q now ≡ deliveries_from (suc q) now
  no_delivery q near none = sweep_steps.skip now.world q (omega (arith, near, mail_count)) (none_there (mail_of now.world.mail q) none)

  -- ## A pass

  pub record IsPass (n : ℕ) : Type 0 where
    pub is : passes_left meaning n now ≡ pass_of meaning now ++ passes_left meaning n (replayed meaning (pass_of meaning now) now)
    pub work_le : work (replayed meaning (pass_of meaning now) now).world ≤ n
    pub falls : work (replayed meaning (pass_of meaning now) now).world < work now.world

  pub another_pass : (n : ℕ) → work now.world ≤ n → is_swept now.world ≡ false → IsPass n
  another_pass n few unswept =
      let net = network_of meaning now.network in
      let again = sweep_steps.again net now.until now.world s.network s.bound s.sound n few unswept in
      record {
        is = again.0;
        work_le = again.1;
        falls = (sweep_law.passed net now.until now.world s.network s.bound s.sound).work_falls unswept;
      }

  pub no_pass : (n : ℕ) → is_swept now.world ≡ true → passes_left meaning n now ≡ []
  no_pass n swept = sweep_steps.stop (network_of meaning now.network) now.until now.world n swept
