-- What the limits of any program refuse does not hang on where its boxes lie.
use Rattle.std.proofs.Common.{◌≡◌, refl}
use Rattle.tw_machine.specs.declared.language.Statement.{Statement}
use Rattle.tw_machine.specs.declared.language.Statement.TheVariants.{Skip, Then', Block', Set, Alter, Put, Take, Clear, Draw, If', Repeat', Wait, Passivate}
use Rattle.tw_machine.specs.Undoing.{needs}
use Rattle.tw_machine.specs.Program.{ProgramText}
use Rattle.tw_machine.specs.Limits.{fault_of}
use Rattle.tw_machine.specs.Seen.{seen_statement, seen_program}

pub needs_seen : (s : Statement) → needs (seen_statement s) ≡ needs s
needs_seen Skip = refl
needs_seen (Then' p a q b) = rw (needs_seen a, needs_seen b) refl
needs_seen (Block' p a) = needs_seen a
needs_seen (Set t e) = refl
needs_seen (Alter change t e) = refl
needs_seen (Put t w e) = refl
needs_seen (Take t w) = refl
needs_seen (Clear t n) = refl
needs_seen Draw = refl
needs_seen (If' test p a q b) = rw (needs_seen a, needs_seen b) refl
needs_seen (Repeat' n p a) = rw (needs_seen a) refl
needs_seen (Wait e) = refl
needs_seen Passivate = refl

pub limits_seen : (p : ProgramText) → fault_of (seen_program p) ≡ fault_of p
limits_seen p = rw (needs_seen p.internal, needs_seen p.external) refl
