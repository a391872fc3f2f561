use Rattle.std.proofs.Common.{◌++◌, [], ◌∷◌, ap, sym, ◌∙◌, false}
use Rattle.std.specs.Prelude.{replicate}
use Rattle.c_checked.specs.Program as programs
use Rattle.source_meaning.specs.Expressions.{no_exception}
use Rattle.source_meaning.specs.Tasks.{part_of}
use Rattle.source_machine.specs.Frames as frames
use Rattle.source_machine.specs.Machine as model
use Rattle.source_steps.specs.Activations.{frames_of}
use Rattle.source_steps.specs.Machines.{machine_of, state_of}
use Rattle.source_steps.specs.DataStack.{unless_over, after_begin}
use Rattle.source_steps.proofs.machine.Interpreter.activate.Goals as goal

pub returns-in-Some : goal.returns-in-Some
returns-in-Some c = λ program ends x es.
    let m = c.args.self.now in
    let f = programs.function c.args.function.now in
    let vs = c.args.values.items in
    let part = part_of f.data_frame in
    let plan = after_begin f c.args.surplus part c.len-activation.result in
    let zeros = c.len.ensures ∙ c.args.function.now.locals.ok.0 in
    let locals_is = c.in_ok-locals.ensures ∙ ap (λ n. vs ++ replicate n 0) zeros in
    let frames_is = c.in_ok-push.ensures ∙ ap (λ l. frames_of m.activations ++ l ∷ []) locals_is in
    let m' = machine_of c.open_frame.new.self x es in
    (λ i. model.opened program f.data_frame (sym c.len-activation.ensures i)
    (after_begin f c.args.surplus part (sym c.len-activation.ensures i))
    (record (machine_of m x es) {
      state = record (state_of m es) {
        frames = sym frames_is i;
        functions = sym c.in_ok-push-2.ensures i;
      };
    }))
    ∙ c.open_frame.ensures program ends plan x es
    ∙ ap (λ how. unless_over how (λ m. model.follow m plan) m') c.in-Some.is

pub returns : goal.returns
returns c = λ program ends x es.
    let m = c.args.self.now in
    let f = programs.function c.args.function.now in
    let vs = c.args.values.items in
    let part = part_of f.data_frame in
    let n = c.len-activation.result in
    let plan = after_begin f c.args.surplus part n in
    let zeros = c.len.ensures ∙ c.args.function.now.locals.ok.0 in
    let locals_is = c.in_ok-locals.ensures ∙ ap (λ n. vs ++ replicate n 0) zeros in
    let frames_is = c.in_ok-push.ensures ∙ ap (λ l. frames_of m.activations ++ l ∷ []) locals_is in
    let m' = machine_of c.open_frame.new.self x es in
    (λ i. model.opened program f.data_frame (sym c.len-activation.ensures i)
    (after_begin f c.args.surplus part (sym c.len-activation.ensures i))
    (record (machine_of m x es) {
      state = record (state_of m es) {
        frames = sym frames_is i;
        functions = sym c.in_ok-push-2.ensures i;
      };
    }))
    ∙ c.open_frame.ensures program ends plan x es
    ∙ ap (λ how. unless_over how (λ m. model.follow m plan) m') c.in_default.is
    ∙ ap (λ part. model.follow m' (after_begin f c.args.surplus part n))
    (sym c.data_part-data_part.ensures)
    ∙ c.in_ok-push-3.ensures (frames.Proceed f.body (record {
      activation = n;
      data_part = c.data_part-data_part.result;
      exception = no_exception;
      abnormal = false;
    })) x es
