-- Comparisons by the flags.
use Rattle.std.proofs.Common.{◌≡◌, ℕ, ◌+◌, ◌-◌, ◌%◌, ◌^◌, ◌<◌, Bool, true, false, cond, List, [], ◌∷◌, Ok, ℤ, refl, ap, ◌∙◌, arith}
use Rattle.std.specs.Prelude.{not, int_lt}
use Rattle.x64_templates.specs.Words.{Width, W8, W32, low, signed, Rax, Rcx, Instr, Flags, subtracted, holds, Size, Signedness, Unsigned, Signed, Relation, width, effects, MachineView, machine, Yields, size, sizes, compare, is_less, are_equal, are_related, compared, less, not_less}
use Rattle.x64_instr.specs.declared.instruction.Condition.{Condition}
use Rattle.x64_instr.specs.declared.instruction.Condition.TheVariants as conditions
use Rattle.x64_templates.proofs.Lemmas.{low_below, signed_twice}
use Rattle.x64_machine.proofs.Differences.{difference_zero, signed_less}
use Rattle.c_operations.specs.declared.operation.Relation.TheVariants as relations

-- ---- what conditions say after a comparison

abbrev pub flags_after : Width → ℕ → ℕ → Flags
flags_after w x y = (subtracted w (low w x) (low w y)).1

equal_holds : (w : Width) (x y : ℕ) → holds (flags_after w x y) conditions.Equal ≡ are_equal w x y
unfolding subtracted
equal_holds w x y = difference_zero w (low w x) (low w y) (low_below w x) (low_below w y)

less_holds : (s : Signedness) (w : Width) (x y : ℕ)
    → holds (flags_after w x y) (less s) ≡ is_less s w x y
unfolding subtracted
less_holds Unsigned w x y = refl
less_holds Signed w x y =
    signed_less w (low w x) (low w y) (low_below w x) (low_below w y)
    ∙ ap (λ (z : ℤ). int_lt z (signed w (low w y))) (signed_twice w x)
    ∙ ap (λ (z : ℤ). int_lt (signed w x) z) (signed_twice w y)

pub not_less_holds : (s : Signedness) (w : Width) (x y : ℕ)
    → holds (flags_after w x y) (not_less s) ≡ not (is_less s w x y)
unfolding subtracted
not_less_holds Unsigned w x y = refl
not_less_holds Signed w x y = ap not (less_holds Signed w x y)

-- ---- the instructions

set_byte : (a c : ℕ) → c < 2 ^ 8 → low W32 (low W8 (low W8 (a - a % 2 ^ 8 + c % 2 ^ 8))) ≡ c
set_byte a c lt = omega arith

one_or_zero : (a : ℕ) (b r : Bool) → b ≡ r → low W32
    (low W8 (low W8 (a - a % 2 ^ 8 + cond b 1 0 % 2 ^ 8))) ≡ cond r 1 0
one_or_zero a b true e = ap (λ (t : Bool). low W32
    (low W8 (low W8 (a - a % 2 ^ 8 + cond t 1 0 % 2 ^ 8)))) e ∙ set_byte a 1 (omega arith)
one_or_zero a b false e = ap (λ (t : Bool). low W32
    (low W8 (low W8 (a - a % 2 ^ 8 + cond t 1 0 % 2 ^ 8)))) e ∙ set_byte a 0 (omega arith)

-- RIP after instructions
abbrev following : List Instr → ℕ → ℕ
following [] rip = rip
following (i ∷ is) rip = following is (rip + size i)

following_is : (is : List Instr) (rip : ℕ) → following is rip ≡ rip + sizes is
following_is [] rip = omega arith
following_is (i ∷ is) rip = following_is is (rip + size i)
    ∙ (let z : rip + size i + sizes is ≡ rip + (size i + sizes is) = omega arith in z)

abbrev after : MachineView → ℕ → MachineView
after v x = record v { rax = x }

forth : (w : Width) (c : Condition) (r : Bool) (v : MachineView)
    → holds (flags_after w v.rax v.rcx) c ≡ r
    → Yields (compared w Rax Rcx c) v (cond r 1 0) v.memory
unfolding effects
forth w c r v e = record {
  rcx = v.rcx;
  rdx = v.rdx;
  does = λ rip f. (
    flags_after w v.rax v.rcx,
    ap (λ (x : ℕ). Ok (machine (after v x) (following (compared w Rax Rcx c) rip)
        (flags_after w v.rax v.rcx))) (one_or_zero v.rax (holds (flags_after w v.rax v.rcx) c) r e)
        ∙ ap (λ (a : ℕ). Ok (machine (after v (cond r 1 0)) a (flags_after w v.rax v.rcx)))
        (following_is (compared w Rax Rcx c) rip),
  );
}

back : (w : Width) (c : Condition) (r : Bool) (v : MachineView)
    → holds (flags_after w v.rcx v.rax) c ≡ r
    → Yields (compared w Rcx Rax c) v (cond r 1 0) v.memory
unfolding effects
back w c r v e = record {
  rcx = v.rcx;
  rdx = v.rdx;
  does = λ rip f. (
    flags_after w v.rcx v.rax,
    ap (λ (x : ℕ). Ok (machine (after v x) (following (compared w Rcx Rax c) rip)
        (flags_after w v.rcx v.rax))) (one_or_zero v.rax (holds (flags_after w v.rcx v.rax) c) r e)
        ∙ ap (λ (a : ℕ). Ok (machine (after v (cond r 1 0)) a (flags_after w v.rcx v.rax)))
        (following_is (compared w Rcx Rax c) rip),
  );
}

pub compares : (r : Relation) (s : Signedness) (z : Size) (v : MachineView)
    → Yields (compare r s (width z)) v (cond (are_related r s (width z) v.rax v.rcx) 1 0) v.memory
compares relations.Equal s z v = forth (width z) conditions.Equal (are_equal (width z) v.rax v.rcx)
    v (equal_holds (width z) v.rax v.rcx)
compares relations.NotEqual s z v = forth (width z) conditions.NotEqual
    (not (are_equal (width z) v.rax v.rcx)) v (ap not (equal_holds (width z) v.rax v.rcx))
compares relations.Less s z v = forth (width z) (less s) (is_less s (width z) v.rax v.rcx) v
    (less_holds s (width z) v.rax v.rcx)
compares relations.LessOrEqual s z v = back (width z) (not_less s)
    (not (is_less s (width z) v.rcx v.rax)) v (not_less_holds s (width z) v.rcx v.rax)
compares relations.Greater s z v = back (width z) (less s) (is_less s (width z) v.rcx v.rax) v
    (less_holds s (width z) v.rcx v.rax)
compares relations.GreaterOrEqual s z v = forth (width z) (not_less s)
    (not (is_less s (width z) v.rax v.rcx)) v (not_less_holds s (width z) v.rax v.rcx)
