use Rattle.std.proofs.Common.{ap, sym, ◌∙◌}
use Rattle.source_meaning.specs.Tasks as tasks
use Rattle.std.specs.Prelude.{not, nat_eq}
use Rattle.seh_num.specs.Widths.{low}
use Rattle.seh_num.specs.declared.width.Width.TheVariants.{W32}
use Rattle.vectored_list.specs.Lists.{can_be_added, added}
use Rattle.source_meaning.specs.Expressions.{raised, of_test}
use Rattle.source_meaning.specs.State.{Value, set_vectored}
use Rattle.source_machine.specs.Frames as frames
use Rattle.source_machine.specs.Machine as model
use Rattle.source_plans.specs.Views as views
use Rattle.source_steps.specs.Machines.{machine_of}
use Rattle.source_steps.proofs.machine.Interpreter.call_built_in.Goals as goal

pub returns-in_ok-push-in-RaiseException : goal.returns-in_ok-push-in-RaiseException
returns-in_ok-push-in-RaiseException c = λ x es.
    let p = views.place_of c.args.place in
    let exc_is = c.raised.ensures ∙ (λ i. raised (c.value_at-first.ensures i)
    (c.value_at-second.ensures i)) in
    let next_is = c.silent-in-RaiseException.ensures.next ∙ c.start.ensures
    ∙ ap (λ e. frames.Start (tasks.Raise e) p) exc_is in
    ap (λ k. model.built_in (machine_of c.args.self.now x es) k c.args.values.now p)
    c.in-RaiseException.is
    ∙ c.in_ok-push-in-RaiseException.ensures _ x es
    ∙ (λ i. machine_of c.push.new.self (sym next_is i)
    (sym (c.silent-in-RaiseException.ensures.shown c.push.new.self es) i))

pub returns-in-AddVectored : goal.returns-in-AddVectored
returns-in-AddVectored c = λ x es.
    let p = views.place_of c.args.place in
    let m = machine_of c.args.self.now x es in
    ap (λ k. model.built_in m k c.args.values.now p) c.in-AddVectored.is
    ∙ ap (λ v. model.with_next (model.at_state m (set_vectored m.state
    (added (not (nat_eq (low W32 v) 0)) c.in-AddVectored.handler m.state.vectored)))
    (frames.Give (Value (of_test (can_be_added c.in-AddVectored.handler m.state.vectored)))))
    (sym c.value_at-first.ensures)
    ∙ c.add_vectored.ensures x es
    ∙ (λ i. machine_of c.add_vectored.new.self (sym c.silent-in-AddVectored.ensures.next i)
    (sym (c.silent-in-AddVectored.ensures.shown c.add_vectored.new.self es) i))

pub returns-in-RemoveVectored : goal.returns-in-RemoveVectored
returns-in-RemoveVectored c = λ x es.
    let p = views.place_of c.args.place in
    let m = machine_of c.args.self.now x es in
    ap (λ k. model.built_in m k c.args.values.now p) c.in-RemoveVectored.is
    ∙ c.remove_vectored.ensures x es
    ∙ (λ i. machine_of c.remove_vectored.new.self (sym c.silent-in-RemoveVectored.ensures.next i)
    (sym (c.silent-in-RemoveVectored.ensures.shown c.remove_vectored.new.self es) i))
