-- Every operation does what it means.
use Rattle.std.proofs.Common.{◌≡◌, ℕ, ◌^◌, ◌<◌, Bool, true, refl}
use Rattle.x64_templates.specs.Words.{W64, has_first, has_second, Memory, Pure, Operation, performed, MachineView, Agrees, work, IsReady, Implements}
use Rattle.c_operations.specs.declared.operation.Operation.TheVariants as operations
use Rattle.c_operations.specs.declared.operation.Pure.TheVariants as pures
use Rattle.c_operations.specs.Numbers.{result_of}
use Rattle.x64_templates.proofs.Lemmas.{result_small, low_below}
use Rattle.x64_templates.proofs.Pures.{pure_gives}
use Rattle.x64_templates.proofs.Divisions.{quotient_implemented, remainder_implemented}
use Rattle.x64_templates.proofs.Accesses.{load_implemented, store_implemented}
use Rattle.x64_templates.proofs.DataStack.{allocate_implemented, set_pointer_implemented, place_implemented, clear_implemented}

-- ---- operations

pure_works : (reserved : ℕ → Bool) (p : Pure) (v : MachineView) (source : Memory)
    → result_of p v.rax v.rcx < 2 ^ 64
    → Agrees reserved v.memory source → Implements reserved (work (operations.Pure p)) v
    (performed reserved (operations.Pure p) v.rax v.rcx source)
pure_works reserved p v source lt agrees = record {
  after = v.memory;
  yields = pure_gives p v;
  small = lt;
  agrees = agrees;
  protection = refl;
  own = λ a o. refl;
  bytes = λ x. x;
}

pub works : (reserved : ℕ → Bool) (o : Operation) (v : MachineView) (source : Memory)
    → (has_first o ≡ true → v.rax < 2 ^ 64) → (has_second o ≡ true → v.rcx < 2 ^ 64) → IsReady o v
    → Agrees reserved v.memory source
    → Implements reserved (work o) v (performed reserved o v.rax v.rcx source)
works reserved (operations.Pure (pures.Constant n)) v source la lb ready agrees =
    pure_works reserved (pures.Constant n) v source (low_below W64 n) agrees
works reserved (operations.Pure (pures.MultiplyBy n)) v source la lb ready agrees =
    pure_works reserved (pures.MultiplyBy n) v source (low_below W64 _) agrees
works reserved (operations.Pure p) v source la lb ready agrees =
    pure_works reserved p v source (result_small p v.rax v.rcx (la refl)) agrees
works reserved (operations.Divide s z) v source la lb ready agrees = quotient_implemented reserved s
    z v source ready agrees
works reserved (operations.Remainder s z) v source la lb ready agrees = remainder_implemented
    reserved s z v source ready agrees
works reserved (operations.Load w) v source la lb ready agrees = load_implemented reserved w v
    source (la refl) agrees
works reserved (operations.Store w) v source la lb ready agrees = store_implemented reserved w v
    source (la refl) (lb refl) agrees
works reserved (operations.Allocate n) v source la lb ready agrees = allocate_implemented reserved
    n v source agrees
works reserved (operations.SetPointer n) v source la lb ready agrees = set_pointer_implemented
    reserved n v source (la refl) agrees
works reserved (operations.Place w offset) v source la lb ready agrees = place_implemented reserved
    w offset v source (la refl) (lb refl) agrees
works reserved (operations.Clear w offset) v source la lb ready agrees = clear_implemented reserved
    w offset v source (la refl) (lb refl) agrees
