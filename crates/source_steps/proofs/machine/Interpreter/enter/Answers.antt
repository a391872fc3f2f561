use Rattle.std.proofs.Common.{◌≡◌, ◌+◌, ◌-◌, ◌≤◌, length, refl, ap, sym, ◌∙◌, arith, true}
use Rattle.std.proofs.lemmas.Result.{IfOk-weaker}
use Rattle.std.proofs.lemmas.Bool.{ltb-false, lt-ltb, le-ltb}
use Rattle.std.specs.Prelude.{nat_lt}
use Rattle.c_checked.specs.Program as programs
use Rattle.c_checked.specs.Program.{surplus}
use Rattle.source_machine.specs.Machine as model
use Rattle.source_steps.specs.Activations.{frames_of}
use Rattle.source_steps.specs.Machines.{machine_of, state_of}
use Rattle.source_steps.specs.DataStack.{activated}
use Rattle.source_steps.proofs.Deep.{too_deep_is, goes_deeper, too_few_is, has_enough}
use Rattle.source_steps.proofs.machine.Interpreter.enter.Goals as goal

pub returns-then-is_deep : goal.returns-then-is_deep
returns-then-is_deep c = λ program ends x es.
    let m = c.args.self.now in
    let more_is : surplus (programs.function c.args.function.now)
    ≡ c.frame_surplus.result + c.data_surplus.result =
    λ i. sym c.frame_surplus.ensures.value i + sym c.data_surplus.ensures.value i in
    too_deep_is _ (machine_of m x es) _ _
    (ap (λ s. model.is_deep (state_of m es) (1 + s)) more_is
    ∙ sym (c.is_deep.ensures es) ∙ c.if-is_deep.true)
    (λ i. machine_of m (c.too_deep.ensures i) es)

pub returns-then-self-surplus : goal.returns-then-self-surplus
returns-then-self-surplus c = λ program ends x es.
    let m = c.args.self.now in
    let more = c.frame_surplus.result + c.data_surplus.result in
    let more_is : surplus (programs.function c.args.function.now) ≡ more =
    λ i. sym c.frame_surplus.ensures.value i + sym c.data_surplus.ensures.value i in
    let few : nat_lt m.steps_left (surplus (programs.function c.args.function.now)) ≡ true =
    ap (nat_lt m.steps_left) more_is
    ∙ lt-ltb m.steps_left more c.if-self-surplus.true in
    goes_deeper _ (machine_of m x es) _
    (ap (λ s. model.is_deep (state_of m es) (1 + s)) more_is
    ∙ sym (c.is_deep.ensures es) ∙ c.if-is_deep.false)
    ∙ too_few_is _ (machine_of m x es) _ _ few refl

pub returns : goal.returns
returns c = λ program ends.
    let m = c.args.self.now in
    let f = programs.function c.args.function.now in
    let more = c.frame_surplus.result + c.data_surplus.result in
    let more_is : surplus f ≡ more =
    λ i. sym c.frame_surplus.ensures.value i + sym c.data_surplus.ensures.value i in
    IfOk-weaker c.activate.result _ _
    (λ next h x es.
    let deep_is = sym (c.is_deep.ensures es) ∙ c.if-is_deep.false in
    let shallow : length (frames_of m.activations) + m.held + (1 + more) ≤ 1000 =
    ltb-false 1000 (length (frames_of m.activations) + m.held + (1 + more)) deep_is in
    let held_is : c.saturating_add-self.result ≡ m.held + more =
    omega (arith, c.saturating_add-self.ensures) in
    let held_all = ap (λ s. m.held + s) more_is ∙ sym held_is in
    goes_deeper _ (machine_of m x es) _
    (ap (λ s. model.is_deep (state_of m es) (1 + s)) more_is ∙ deep_is)
    ∙ has_enough _ (machine_of m x es) _
    (ap (nat_lt m.steps_left) more_is ∙ le-ltb m.steps_left more c.if-self-surplus.false)
    ∙ (λ i. activated program (record (machine_of m x es) {
      state = record (state_of m es) {
        steps_left = m.steps_left - more_is i;
        held = held_all i;
      };
    }) c.args.number.value f c.args.values.items (more_is i))
    ∙ h x es)
    (c.activate.ensures program ends)
