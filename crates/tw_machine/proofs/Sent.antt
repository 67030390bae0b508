-- Machines may go to another thread, and be seen from several at once: their programs, which call themselves by boxes, what they remember and what they keep.
use denote.Param.Send.{IsSend, IsSync, sendable}
use denote.Param.SendFields.{declared_send, declared_sync, variants_send, variants_sync, VariantsHave}
use denote.Hole.FixSend.{fix_send, fix_sync, Sends, Syncs}
use Rattle.std.proofs.Crossing.{Arc-send, Arc-sync, Box-send, Box-sync, Vec-send, Vec-sync, crosses}
use Rattle.tw_machine.proofs.language.Binary.TheSendSync as binary_sent
use Rattle.tw_machine.specs.contracts.language.Expr as expr
use Rattle.tw_machine.specs.contracts.language.Output as output
use Rattle.tw_machine.specs.contracts.language.Position as position
use Rattle.tw_machine.specs.contracts.language.Statement as statement
use Rattle.tw_machine.specs.contracts.language.Target as target
use Rattle.tw_machine.specs.contracts.language.Which as which
use Rattle.tw_machine.specs.contracts.language.Word as word
use Rattle.tw_machine.specs.contracts.machine.Machine as machine
use Rattle.tw_machine.specs.contracts.machine.Shared as shared
use Rattle.tw_machine.specs.contracts.machine.Shared.TheInside as shared_inside
use Rattle.tw_machine.specs.contracts.program.Parts as parts
use Rattle.tw_machine.specs.contracts.program.Program as program
use Rattle.tw_machine.specs.contracts.program.Program.TheInside as program_inside
use Rattle.tw_machine.specs.declared.language.Expr.TheBlock as e
use Rattle.tw_machine.specs.declared.language.Statement.TheBlock as s

-- ---- expressions

expr_step : (i : e.the_members) → Sends expr.the_ring i
expr_step e.member-Expr = record {
  send = λ h all.
      let r = h e.member-Expr in
      let box = Box-send r (all e.member-Expr) in
      let parts : VariantsHave IsSend (expr.TheKnot.type-Expr r r r r r r).parts =
      ((search sendable depth 20, tt), ((search sendable depth 20, (box, tt)), ((binary_sent.the_send, (box, (box, tt))), ((box, (box, (box, tt))), tt)))) in
      variants_send (expr.TheKnot.type-Expr r r r r r r) parts;
}

expr_step_sync : (i : e.the_members) → Syncs expr.the_ring i
expr_step_sync e.member-Expr = record {
  sync = λ h all.
      let r = h e.member-Expr in
      let box = Box-sync r (all e.member-Expr) in
      let parts : VariantsHave IsSync (expr.TheKnot.type-Expr r r r r r r).parts =
      ((search sendable depth 20, tt), ((search sendable depth 20, (box, tt)), ((binary_sent.the_sync, (box, (box, tt))), ((box, (box, (box, tt))), tt)))) in
      variants_sync (expr.TheKnot.type-Expr r r r r r r) parts;
}

expr_send : IsSend expr.the_row
expr_send =
    let box = Box-send expr.the_hole (fix_send expr.the_ring expr_step e.member-Expr) in
    variants_send expr.enum ((search sendable depth 20, tt), ((search sendable depth 20, (box, tt)), ((binary_sent.the_send, (box, (box, tt))), ((box, (box, (box, tt))), tt))))

expr_sync : IsSync expr.the_row
expr_sync =
    let box = Box-sync expr.the_hole (fix_sync expr.the_ring expr_step_sync e.member-Expr) in
    variants_sync expr.enum ((search sendable depth 20, tt), ((search sendable depth 20, (box, tt)), ((binary_sent.the_sync, (box, (box, tt))), ((box, (box, (box, tt))), tt))))

-- ---- statements

target_send : IsSend target.the_row
target_send = variants_send target.enum ((search sendable depth 20, tt), ((search sendable depth 20, (expr_send, tt)), tt))

target_sync : IsSync target.the_row
target_sync = variants_sync target.enum ((search sendable depth 20, tt), ((search sendable depth 20, (expr_sync, tt)), tt))

position_send : IsSend position.the_row
position_send = variants_send position.enum (tt, (tt, ((expr_send, tt), tt)))

position_sync : IsSync position.the_row
position_sync = variants_sync position.enum (tt, (tt, ((expr_sync, tt), tt)))

which_send : IsSend which.the_row
which_send = variants_send which.enum (tt, ((expr_send, tt), tt))

which_sync : IsSync which.the_row
which_sync = variants_sync which.enum (tt, ((expr_sync, tt), tt))

statement_step : (i : s.the_members) → Sends statement.the_ring i
statement_step s.member-Statement = record {
  send = λ h all.
      let r = h s.member-Statement in
      let box = Box-send r (all s.member-Statement) in
      let e = expr_send in
      let t = target_send in
      let parts : VariantsHave IsSend (statement.TheKnot.type-Statement r r r r r r).parts = (
        tt,
        (
          (box, (box, tt)),
          (
            (box, tt),
            (
              (t, (e, tt)),
              (
                (search sendable depth 20, (t, (e, tt))),
                (
                  (t, (position_send, (e, tt))),
                  (
                    (t, (which_send, tt)),
                    ((t, (search sendable depth 20, tt)), (tt, ((e, (box, (box, tt))), ((search sendable depth 20, (box, tt)), ((e, tt), (tt, tt)))))),
                  ),
                ),
              ),
            ),
          ),
        ),
      ) in
      variants_send (statement.TheKnot.type-Statement r r r r r r) parts;
}

statement_step_sync : (i : s.the_members) → Syncs statement.the_ring i
statement_step_sync s.member-Statement = record {
  sync = λ h all.
      let r = h s.member-Statement in
      let box = Box-sync r (all s.member-Statement) in
      let e = expr_sync in
      let t = target_sync in
      let parts : VariantsHave IsSync (statement.TheKnot.type-Statement r r r r r r).parts = (
        tt,
        (
          (box, (box, tt)),
          (
            (box, tt),
            (
              (t, (e, tt)),
              (
                (search sendable depth 20, (t, (e, tt))),
                (
                  (t, (position_sync, (e, tt))),
                  (
                    (t, (which_sync, tt)),
                    ((t, (search sendable depth 20, tt)), (tt, ((e, (box, (box, tt))), ((search sendable depth 20, (box, tt)), ((e, tt), (tt, tt)))))),
                  ),
                ),
              ),
            ),
          ),
        ),
      ) in
      variants_sync (statement.TheKnot.type-Statement r r r r r r) parts;
}

statement_send : IsSend statement.the_row
statement_send =
    let box = Box-send statement.the_hole (fix_send statement.the_ring statement_step s.member-Statement) in
    let e = expr_send in
    let t = target_send in
    variants_send statement.enum (
      tt,
      (
        (box, (box, tt)),
        (
          (box, tt),
          (
            (t, (e, tt)),
            (
              (search sendable depth 20, (t, (e, tt))),
              (
                (t, (position_send, (e, tt))),
                (
                  (t, (which_send, tt)),
                  ((t, (search sendable depth 20, tt)), (tt, ((e, (box, (box, tt))), ((search sendable depth 20, (box, tt)), ((e, tt), (tt, tt)))))),
                ),
              ),
            ),
          ),
        ),
      ),
    )

statement_sync : IsSync statement.the_row
statement_sync =
    let box = Box-sync statement.the_hole (fix_sync statement.the_ring statement_step_sync s.member-Statement) in
    let e = expr_sync in
    let t = target_sync in
    variants_sync statement.enum (
      tt,
      (
        (box, (box, tt)),
        (
          (box, tt),
          (
            (t, (e, tt)),
            (
              (search sendable depth 20, (t, (e, tt))),
              (
                (t, (position_sync, (e, tt))),
                (
                  (t, (which_sync, tt)),
                  ((t, (search sendable depth 20, tt)), (tt, ((e, (box, (box, tt))), ((search sendable depth 20, (box, tt)), ((e, tt), (tt, tt)))))),
                ),
              ),
            ),
          ),
        ),
      ),
    )

-- ---- programs

output_send : IsSend output.the_row
output_send =
    let e = expr_send in
    let t = target_send in
    declared_send output.the_type (search sendable depth 20, (search sendable depth 20, (e, (e, tt))))

output_sync : IsSync output.the_row
output_sync =
    let e = expr_sync in
    let t = target_sync in
    declared_sync output.the_type (search sendable depth 20, (search sendable depth 20, (e, (e, tt))))

word_send : IsSend word.the_row
word_send = variants_send word.enum ((expr_send, tt), ((search sendable depth 20, tt), ((search sendable depth 20, tt), tt)))

word_sync : IsSync word.the_row
word_sync = variants_sync word.enum ((expr_sync, tt), ((search sendable depth 20, tt), ((search sendable depth 20, tt), tt)))

parts_send : IsSend parts.the_row
parts_send =
    let outputs = Vec-send output.the_row output_send in
    let words = Vec-send word.the_row word_send in
    declared_send parts.the_type (
      search (sendable, crosses) depth 20,
      (
        search (sendable, crosses) depth 20,
        (
          search sendable,
          (
            search sendable depth 20,
            (
              search sendable depth 20,
              (
                search (sendable, crosses) depth 20,
                (statement_send, (statement_send, (outputs, (words, tt)))),
              ),
            ),
          ),
        ),
      ),
    )

parts_sync : IsSync parts.the_row
parts_sync =
    let outputs = Vec-sync output.the_row output_sync in
    let words = Vec-sync word.the_row word_sync in
    declared_sync parts.the_type (
      search (sendable, crosses) depth 20,
      (
        search (sendable, crosses) depth 20,
        (
          search sendable,
          (
            search sendable depth 20,
            (
              search sendable depth 20,
              (
                search (sendable, crosses) depth 20,
                (statement_sync, (statement_sync, (outputs, (words, tt)))),
              ),
            ),
          ),
        ),
      ),
    )

program_send : IsSend program.the_row
program_send =
    let inside : IsSend program_inside.the_row = declared_send program_inside.the_type (parts_send, (search sendable, (search sendable, tt))) in
    search sendable

program_sync : IsSync program.the_row
program_sync =
    let inside : IsSync program_inside.the_row = declared_sync program_inside.the_type (parts_sync, (search sendable, (search sendable, tt))) in
    search sendable

-- ---- machines

shared_send : IsSend shared.the_row
shared_send =
    let program = Arc-send program.the_row program_send program_sync in
    let inside : IsSend shared_inside.the_row = declared_send shared_inside.the_type (program, tt) in
    search sendable

shared_sync : IsSync shared.the_row
shared_sync =
    let program = Arc-sync program.the_row program_send program_sync in
    let inside : IsSync shared_inside.the_row = declared_sync shared_inside.the_type (program, tt) in
    search sendable

pub machine_send : IsSend machine.the_row
machine_send = declared_send machine.the_type (shared_send, tt)

pub machine_sync : IsSync machine.the_row
machine_sync = declared_sync machine.the_type (shared_sync, tt)
