-- Steps on the data stack, by the operations that the code performs.
use Rattle.std.proofs.Common.{◌≡◌, ℕ, zero, suc, ◌+◌, ◌-◌, ◌*◌, ◌<◌, List, ◌∷◌, length, drop, get_or}
use Rattle.std.proofs.Common.{Option, refl, sym, ap, ◌∙◌, arith, add-one, drop-cons}
use Rattle.std.proofs.lemmas.Bool.{le-ltb}
use Rattle.seh_num.specs.declared.width.Width.TheVariants.{W64}
use Rattle.seh_num.specs.Widths.{bytes_of, low}
use Rattle.c_operations.specs.declared.operation.Operation.TheVariants as operations
use Rattle.c_operations.specs.Performed.{performed, placed, before_last}
use Rattle.c_checked.specs.declared.function.StackedParameter.{StackedParameter}
use Rattle.c_checked.specs.declared.statement.StackedVariable.{StackedVariable}
use Rattle.c_checked.specs.Program.{Program}
use Rattle.source_meaning.specs.Source.{data_end as model_data_end}
use Rattle.source_meaning.specs.State.{local_of, count_steps}
use Rattle.source_machine.specs.Frames.{Place, Plan, ClearElements}
use Rattle.source_machine.specs.Machine.{Machine, at_state, with_next, follow, stored, brought}
use Rattle.source_machine.specs.Machine.{put_stacked, cleared}
use Rattle.source_operations.specs.Reserved.{reserved_below}
use Rattle.source_plans.specs.declared.frame.Finish.{Finish}
use Rattle.source_steps.specs.DataStack.{unless_over}
use Rattle.source_steps.proofs.Deep.{has_enough}
use Rattle.source_steps.proofs.StackedPlaces.{before_same}

module _ (program : Program) (data_end : ℕ) (ends : data_end ≡ model_data_end program.globals)
    (m' : Machine) (how : Option Finish) where
  -- one parameter is brought to where it stands
  pub brought_step : (base k i b v : ℕ) (ps qs : List StackedParameter) (d : StackedParameter)
      (plan : Plan) (m : Machine) → i < length ps → qs ≡ ps → b ≡ local_of m.state k base
      → v ≡ local_of m.state k (get_or qs i d).parameter
      → ((go : Machine → Machine) → stored m (performed (reserved_below data_end)
      (operations.Place (get_or qs i d).width (get_or qs i d).offset) b v m.state.memory) go
      ≡ unless_over how go m')
      → brought program base (drop i ps) k plan m
      ≡ unless_over how (brought program base (drop (i + 1) ps) k plan) m'
  brought_step base k i b v ps qs d plan m lt same b_is v_is h =
      let rest : drop i ps ≡ get_or ps i d ∷ drop (i + 1) ps = rw (add-one, drop-cons ps i d) refl
      in
      let go = brought program base (drop (i + 1) ps) k plan in
      let value_is = ap (λ l. local_of m.state k (get_or l i d).parameter) (sym same) ∙ sym v_is in
      ap (λ l. brought program base l k plan m) rest
      ∙ (λ t. stored m (performed (reserved_below (sym ends t))
      (operations.Place (get_or (sym same t) i d).width (get_or (sym same t) i d).offset)
      (sym b_is t) (value_is t) m.state.memory) go)
      ∙ h go

  -- a variable takes a number
  pub put_step : (v : StackedVariable) (x b : ℕ) (p : Place) (plan : Plan) (m : Machine)
      → b ≡ local_of m.state p.activation v.base
      → ((go : Machine → Machine) → stored m (performed (reserved_below data_end)
      (operations.Place v.width v.offset) b x m.state.memory) go ≡ unless_over how go m')
      → put_stacked program v x p plan m ≡ unless_over how (λ m. follow m plan) m'
  put_step v x b p plan m b_is h =
      (λ t. stored m (performed (reserved_below (sym ends t)) (operations.Place v.width v.offset)
      (sym b_is t) x m.state.memory) (λ m. follow m plan))
      ∙ h (λ m. follow m plan)

  -- an element becomes 0
  pub cleared_step : (v : StackedVariable) (count b size : ℕ) (p : Place) (m : Machine)
      → 0 < count → 0 < m.state.steps_left → size ≡ bytes_of v.width
      → b ≡ local_of m.state p.activation v.base
      → ((go : Machine → Machine) → stored (at_state m (count_steps 1 m.state))
      (performed (reserved_below data_end) (operations.Clear v.width v.offset) b
      (low W64 (size * count)) m.state.memory) go ≡ unless_over how go m')
      → cleared program v count p m
      ≡ unless_over how (λ m. with_next m (ClearElements v (count - 1) p)) m'
  cleared_step v zero b size p m some left size_is b_is h = absurd (omega arith)
  cleared_step v (suc n) b size p m some left size_is b_is h =
      let less : n ≡ suc n - 1 = omega arith in
      let go = λ (m : Machine). with_next m (ClearElements v n p) in
      let before = sym (before_same v.width (bytes_of v.width * suc n))
      ∙ ap (λ s. before_last v.width (low W64 (s * suc n))) (sym size_is) in
      has_enough _ m _ (le-ltb m.state.steps_left 1 (omega arith))
      ∙ (λ t. stored (at_state m (count_steps 1 m.state))
      (placed (reserved_below (sym ends t)) v.width (low W64 (sym b_is t + v.offset + before t)) 0
      (before t) m.state.memory) go)
      ∙ h go
      ∙ ap (λ k. unless_over how (λ m. with_next m (ClearElements v k p)) m') less
