-- What an operation doesn't read doesn't matter to it.
use Rattle.std.proofs.Common.{◌≡◌, ℕ, Bool, true, refl, ap, ◌∙◌}
use Rattle.flat_memory.specs.Memory.{Memory}
use Rattle.c_operations.specs.declared.operation.Operation.{Operation}
use Rattle.c_operations.specs.declared.operation.Operation.TheVariants as operations
use Rattle.c_operations.specs.declared.operation.Pure.{Pure}
use Rattle.c_operations.specs.declared.operation.Pure.TheVariants as pures
use Rattle.c_operations.specs.Numbers.{result_of}
use Rattle.c_operations.specs.Performed.{Gives, performed}
use Rattle.template_code.specs.Operands.{pure_has_second, has_first, has_second}

module _ (reserved : ℕ → Bool) (m : Memory) where
  -- a first operand that is read is the same
  first_same : (o : Operation) (a b c : ℕ) → (has_first o ≡ true → a ≡ b)
      → performed reserved o a c m ≡ performed reserved o b c m
  first_same (operations.Pure (pures.Constant v)) a b c e = refl
  first_same (operations.Allocate n) a b c e = refl
  first_same o a b c e = ap (λ x. performed reserved o x c m) (e refl)

  pure_second_same : (p : Pure) (a b c : ℕ) → (pure_has_second p ≡ true → b ≡ c)
      → result_of p a b ≡ result_of p a c
  pure_second_same (pures.Constant v) a b c e = refl
  pure_second_same pures.First a b c e = refl
  pure_second_same (pures.Extend s from z) a b c e = refl
  pure_second_same (pures.Not z) a b c e = refl
  pure_second_same (pures.Negate z) a b c e = refl
  pure_second_same (pures.MultiplyBy n) a b c e = refl
  pure_second_same p a b c e = ap (result_of p a) (e refl)

  second_same : (o : Operation) (a b c : ℕ) → (has_second o ≡ true → b ≡ c)
      → performed reserved o a b m ≡ performed reserved o a c m
  second_same (operations.Pure p) a b c e =
      ap (λ x. Gives x m) (pure_second_same p a b c e)
  second_same (operations.Load w) a b c e = refl
  second_same (operations.Allocate n) a b c e = refl
  second_same (operations.SetPointer n) a b c e = refl
  second_same o a b c e = ap (λ x. performed reserved o a x m) (e refl)

  -- an operation comes to the same on operands of which those that it reads are the same
  pub performed_same : (o : Operation) (a b x y : ℕ) → (has_first o ≡ true → a ≡ x)
      → (has_second o ≡ true → b ≡ y)
      → performed reserved o a b m ≡ performed reserved o x y m
  performed_same o a b x y e f = first_same o a x b e ∙ second_same o x b y f
