-- A return address is put below the stack pointer.
use Rattle.std.proofs.Common.{◌≡◌, ℕ, ◌+◌, ◌-◌, ◌%◌, ◌^◌, ◌<◌, ◌≤◌, true, false, Option, Ok, refl, ap, ◌∙◌, arith, inl, inr}
use Rattle.std.specs.Prelude.{◌⊎◌}
use Rattle.std.proofs.lemmas.Bool.{cases_lt}
use Rattle.match_turns.specs.Words.{W64, STACK_START, STACK_END, may_read, may_write, number_at, with_number, access, loaded, Rsp, Cpu, Flags, State, register, back, KeepsAbove, IsData, IsUntouched, MachineView, machine, pushed, HasBelow, HasBack}
use Rattle.match_turns.proofs.Lemmas.{all_may, beside, pushed_back, pushed_bytes}

module _ (v : MachineView) (sp ret : ℕ) (low : STACK_START + 8 ≤ sp) (high : sp ≤ STACK_END)
    (data_alone : IsData v.memory) (may : (a : ℕ) → STACK_START ≤ a → a < STACK_END
    → may_write v.memory a ≡ true) where
  pub below : HasBelow v.memory sp 8
  below = record {
    enough = omega arith;
    high = omega arith;
    writable = λ a from to. may a (omega arith) (omega arith);
  }

  abbrev pub bytes : ℕ → ℕ
  bytes = with_number v.memory.byte 8 (sp - 8) ret

  elsewhere : (x : ℕ) → (x + 8 < sp) ⊎ (sp ≤ x) → bytes x ≡ v.memory.byte x
  elsewhere x out = beside v.memory sp ret x (omega arith) (omega arith) out

  code_same : (x : ℕ) → (v.memory.protection x).execute ≡ true → bytes x ≡ v.memory.byte x
  code_same x e = by (cases_lt (x + 8) sp) (cases_lt x sp)
    where
      by : (x + 8 < sp) ⊎ (sp ≤ x + 8) → (x < sp) ⊎ (sp ≤ x) → bytes x ≡ v.memory.byte x
      by (inl l) o = elsewhere x (inl l)
      by (inr g) (inr h) = elsewhere x (inr h)
      by (inr g) (inl l) = let w : (v.memory.protection x).execute
          ≡ false = data_alone.no_code x (may x (omega arith) (omega arith)) in absurd cc

  pub keeps_above : KeepsAbove v.memory bytes sp
  keeps_above = record { above = λ x le. elsewhere x (inr le); code = code_same }

  pub pushed_untouched : IsUntouched v.memory (pushed v sp ret).memory
  pushed_untouched = record { protection = refl; code = code_same; outside = λ x o. by x o }
    where
      by : (x : ℕ) → (x < STACK_START) ⊎ (STACK_END ≤ x) → bytes x ≡ v.memory.byte x
      by x (inl l) = elsewhere x (inl (omega arith))
      by x (inr g) = elsewhere x (inr (omega arith))

  pub pushed_data : IsData (pushed v sp ret).memory
  pushed_data = record {
    bytes = pushed_bytes v sp ret data_alone.bytes;
    no_code = data_alone.no_code;
  }

  -- ---- the service returns there

  module _ (rip : ℕ) (flags : Flags) (small : ret < 2 ^ 64) where
    abbrev pub there : State
    there = machine (pushed v sp ret) rip flags

    pub sp_there : register there.cpu Rsp ≡ sp - 8
    sp_there = refl

    pub returns_there : loaded there.memory (register there.cpu Rsp) W64 ≡ Ok ret
    returns_there =
        let b : HasBack (pushed v sp ret).memory (sp - 8) ret = pushed_back v sp ret below small in
        let can = all_may (may_read there.memory) 8 (sp - 8) (omega arith)
        (λ a p q. b.readable a p q) in
        ap (λ a. loaded there.memory a W64) sp_there
        ∙ ap (λ (o : Option ℕ). access false o (number_at there.memory.byte 8 (sp - 8))) can
        ∙ ap (λ x. Ok x) b.number

    abbrev pub saved : Cpu
    saved = (back there ret).cpu

    pub sp_saved : register saved Rsp ≡ sp
    sp_saved =
        let e : (sp - 8 + 8) % 2 ^ 64 % 2 ^ 64 ≡ sp = omega arith in e
