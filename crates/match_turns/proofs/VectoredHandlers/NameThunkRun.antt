-- A name thunk is run: the exception's code and flags come to ECX and EDX, and then its function
-- begins.
use Rattle.std.proofs.Common.{◌≡◌, ℕ, ◌+◌, ◌%◌, ◌^◌, ◌<◌, false, true, [], ◌∷◌, Ok, refl, ap, subst, ◌∙◌, arith, None}
use Rattle.seh_num.specs.Answers.{◌>>=◌}
use Rattle.match_turns.specs.Words.{W32, W64, low, Memory, may_read, first_refused, Rax, Rcx, Rdx, Instr, Flags, Answer, load, effect, size, sizes, fetched, IsNear, MachineView, machine, HasCode}
use Rattle.seh_num.specs.declared.width.Width.{Width}
use Rattle.seh_num.specs.Widths.{bytes_of}
use Rattle.x64_encode.specs.Chosen.{is_encodable}
unfoldable use Rattle.x64_encode.specs.Chosen.{modrm}
use Rattle.x64_instr.specs.declared.instruction.Instr.TheVariants as instrs
use Rattle.x64_instr.specs.declared.instruction.Target.TheVariants.{Relative}
use Rattle.template_code.specs.Handlers.{name_thunk, loaded}
use Rattle.template_code.specs.Jumps.{jump, distance}
use Rattle.x64_templates.specs.Exceptions.{MayRead}
use Rattle.x64_templates.specs.Straight.{takes_frame}
use Rattle.x64_templates.specs.Runs.{Reaches}
use Rattle.x64_templates.proofs.Information.{load_any}
use Rattle.x64_templates.proofs.Jumps.{one_reaches}
use Rattle.match_turns.proofs.Lemmas.{all_may, code_split, short}
use Rattle.template_code.proofs.Sizes.{arrives}

may_all : (m : Memory) (n at x : ℕ) → MayRead m n at x → first_refused (may_read m) n at ≡ None
may_all m n at x r = let h = r.high in all_may (may_read m) n at (omega arith)
    (λ a p q. r.readable a p q)

-- an instruction that loads a number to a register
loads : (w : Width) (i : Instr) (v : MachineView) (into : ℕ → MachineView) (rip next from at x : ℕ)
    (f : Flags) → is_encodable i ≡ true → takes_frame i ≡ false → HasCode v.memory rip (i ∷ [])
    → rip + size i ≡ next
    → ((r : ℕ) → effect (machine v r f) i
    ≡ (load v.memory from w >>= λ y. Ok (machine (into (low w y)) r f)))
    → from ≡ at → MayRead v.memory (bytes_of w) at x → low w x ≡ x
    → Reaches 1 (machine v rip f) (machine (into x) next f)
loads w i v into rip next from at x f enc silent code ends does same may fits =
    one_reaches i v (into x) rip next f f enc silent code
    (does (rip + size i)
    ∙ ap (λ (a : ℕ). load v.memory a w >>= λ y. Ok (machine (into (low w y)) (rip + size i) f)) same
    ∙ ap (λ (o : Answer ℕ). o >>= λ y. Ok (machine (into (low w y)) (rip + size i) f))
    (load_any v.memory at w (may_all v.memory (bytes_of w) at x may))
    ∙ ap (λ (y : ℕ). Ok (machine (into (low w y)) (rip + size i) f)) may.number
    ∙ ap (λ (y : ℕ). Ok (machine (into y) (rip + size i) f)) fits
    ∙ ap (λ (a : ℕ). Ok (machine (into x) a f)) ends)

-- four bytes to fetch the record's address, three each for its code and its flags
first_size : size (fetched Rax Rcx 0) ≡ 4
unfolding size modrm
first_size = refl

second_size : size (loaded Rcx 0) ≡ 3
unfolding size modrm
second_size = refl

third_size : size (loaded Rdx 4) ≡ 3
unfolding size modrm
third_size = refl

jump_size : (d : ℕ) → size (instrs.Jump (Relative d)) ≡ 5
unfolding size
jump_size d = refl

-- RCX leads to the exception's record, which has a code and flags of 32 bits
module _ (v : MachineView) (at function record_at code flags : ℕ) (f : Flags)
    (high : v.rcx < 2 ^ 63) (leads : MayRead v.memory 8 v.rcx record_at)
    (has_code : MayRead v.memory 4 record_at code) (code_small : code < 2 ^ 32)
    (has_flags : MayRead v.memory 4 (record_at + 4) flags) (flags_small : flags < 2 ^ 32)
    (there : HasCode v.memory at (name_thunk at function)) (near : IsNear (at + 15) function) where
  abbrev one : MachineView
  one = record v { rax = record_at }

  abbrev two : MachineView
  two = record one { rcx = code }

  -- with the function's arguments
  abbrev pub given : MachineView
  given = record two { rdx = flags }

  pub code_at : HasCode v.memory at (fetched Rax Rcx 0 ∷ [])
      × HasCode v.memory (at + 4) (loaded Rcx 0 ∷ [])
      × HasCode v.memory (at + 7) (loaded Rdx 4 ∷ [])
      × HasCode v.memory (at + 10) (jump (at + 15) function ∷ [])
  code_at =
      let i = fetched Rax Rcx 0 in
      let j = loaded Rcx 0 in
      let k = loaded Rdx 4 in
      let l = jump (at + 15) function in
      let a = code_split v.memory at (i ∷ []) (j ∷ k ∷ l ∷ []) there in
      let s1 : at + sizes (i ∷ []) ≡ at + 4 = (let z = first_size in omega arith) in
      let b = code_split v.memory (at + 4) (j ∷ []) (k ∷ l ∷ [])
      (subst (λ x. HasCode v.memory x (j ∷ k ∷ l ∷ [])) s1 a.1) in
      let s2 : at + 4 + sizes (j ∷ []) ≡ at + 7 = (let z = second_size in omega arith) in
      let c = code_split v.memory (at + 7) (k ∷ []) (l ∷ [])
      (subst (λ x. HasCode v.memory x (k ∷ l ∷ [])) s2 b.1) in
      let s3 : at + 7 + sizes (k ∷ []) ≡ at + 10 = (let z = third_size in omega arith) in
      (a.0, b.0, c.0, subst (λ x. HasCode v.memory x (l ∷ [])) s3 c.1)

  pub first : Reaches 1 (machine v at f) (machine one (at + 4) f)
  first =
      let h = leads.high in
      let r = has_code.high in
      loads W64 (fetched Rax Rcx 0) v (λ y. record v { rax = y }) at (at + 4)
      ((v.rcx + 0 + 0) % 2 ^ 64) v.rcx record_at f refl refl code_at.0
      (let z = first_size in omega arith) (λ r. refl) (omega arith) leads
      (let z : low W64 record_at ≡ record_at = omega arith in z)

  pub second : Reaches 1 (machine one (at + 4) f) (machine two (at + 7) f)
  second =
      let r = has_code.high in
      loads W32 (loaded Rcx 0) one (λ y. record one { rcx = y }) (at + 4) (at + 7)
      ((record_at + 0 + 0) % 2 ^ 64) record_at code f refl refl code_at.1
      (let z = second_size in omega arith) (λ r. refl) (omega arith) has_code
      (let z : low W32 code ≡ code = omega arith in z)

  pub third : Reaches 1 (machine two (at + 7) f) (machine given (at + 10) f)
  third =
      let r = has_flags.high in
      loads W32 (loaded Rdx 4) two (λ y. record two { rdx = y }) (at + 7) (at + 10)
      ((record_at + 0 + 4) % 2 ^ 64) (record_at + 4) flags f refl refl code_at.2
      (let z = third_size in omega arith) (λ r. refl) (omega arith) has_flags
      (let z : low W32 flags ≡ flags = omega arith in z)

  pub fourth : Reaches 1 (machine given (at + 10) f) (machine given function f)
  fourth =
      let e : (at + 10 + size (jump (at + 15) function) + distance (at + 15) function) % 2 ^ 64
      ≡ function = ap (λ (n : ℕ). (at + 10 + n + distance (at + 15) function) % 2 ^ 64)
      (jump_size (distance (at + 15) function))
      ∙ (let z : at + 10 + 5 ≡ at + 15 = omega arith in
      ap (λ (n : ℕ). (n + distance (at + 15) function) % 2 ^ 64) z)
      ∙ arrives (at + 15) function near in
      one_reaches (jump (at + 15) function) given given (at + 10) function f f
      (short (at + 15) function near) refl code_at.3 (ap (λ (a : ℕ). Ok (machine given a f)) e)
