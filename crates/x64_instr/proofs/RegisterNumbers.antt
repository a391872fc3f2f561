-- Registers and their numbers.
use Rattle.std.proofs.Common.{◌≡◌, ℕ, zero, suc, ◌<◌, refl, sym, ap, ◌∙◌, arith}
use Rattle.x64_instr.specs.declared.register.Reg.{Reg}
use Rattle.x64_instr.specs.declared.register.Reg.TheVariants.{Rax, Rcx, Rdx, Rbx, Rsp, Rbp, Rsi, Rdi, R8, R9, R10, R11, R12, R13, R14, R15}
use Rattle.x64_instr.specs.Registers.{register, number}

-- a register's number is its
pub register_number : (r : Reg) → register (number r) ≡ r
register_number r = elim r as (λ k. register (number k) ≡ k) [
  | Rax ↦ refl
  | Rcx ↦ refl
  | Rdx ↦ refl
  | Rbx ↦ refl
  | Rsp ↦ refl
  | Rbp ↦ refl
  | Rsi ↦ refl
  | Rdi ↦ refl
  | R8 ↦ refl
  | R9 ↦ refl
  | R10 ↦ refl
  | R11 ↦ refl
  | R12 ↦ refl
  | R13 ↦ refl
  | R14 ↦ refl
  | R15 ↦ refl
]

-- there are sixteen
pub number_small : (r : Reg) → number r < 16
number_small r = elim r as (λ k. number k < 16) [
  | Rax ↦ omega arith
  | Rcx ↦ omega arith
  | Rdx ↦ omega arith
  | Rbx ↦ omega arith
  | Rsp ↦ omega
      arith
  | Rbp ↦ omega arith
  | Rsi ↦ omega arith
  | Rdi ↦ omega arith
  | R8 ↦ omega arith
  | R9 ↦ omega arith
  | R10 ↦ omega arith
  | R11 ↦ omega arith
  | R12 ↦ omega arith
  | R13 ↦ omega
      arith
  | R14 ↦ omega arith
  | R15 ↦ omega arith
]

-- no two registers have one number
pub number_once : (r q : Reg) → number r ≡ number q → r ≡ q
number_once r q e = sym (register_number r) ∙ ap register e ∙ register_number q

-- each number below sixteen is that of its register
pub number_register : (r : ℕ) → r < 16 → number (register r) ≡ r
number_register zero lt = refl
number_register (suc zero) lt = refl
number_register (suc (suc zero)) lt = refl
number_register (suc (suc (suc zero))) lt = refl
number_register (suc (suc (suc (suc zero)))) lt = refl
number_register (suc (suc (suc (suc (suc zero))))) lt = refl
number_register (suc (suc (suc (suc (suc (suc zero)))))) lt = refl
number_register (suc (suc (suc (suc (suc (suc (suc zero))))))) lt = refl
number_register (suc (suc (suc (suc (suc (suc (suc (suc zero)))))))) lt = refl
number_register (suc (suc (suc (suc (suc (suc (suc (suc (suc zero))))))))) lt = refl
number_register (suc (suc (suc (suc (suc (suc (suc (suc (suc (suc zero)))))))))) lt = refl
number_register (suc (suc (suc (suc (suc (suc (suc (suc (suc (suc (suc zero))))))))))) lt = refl
number_register (suc (suc (suc (suc (suc (suc (suc (suc (suc (suc (suc (suc zero)))))))))))) lt =
    refl
number_register (suc (suc (suc (suc (suc (suc (suc (suc (suc (suc (suc (suc (suc zero)))))))))))))
    lt =
    refl
number_register (suc (suc (suc (suc (suc (suc
    (suc (suc (suc (suc (suc (suc (suc (suc zero)))))))))))))) lt = refl
number_register (suc (suc (suc (suc (suc (suc
    (suc (suc (suc (suc (suc (suc (suc (suc (suc zero))))))))))))))) lt = refl
number_register (suc (suc (suc (suc (suc (suc
    (suc (suc (suc (suc (suc (suc (suc (suc (suc (suc r)))))))))))))))) lt = absurd (omega arith)
