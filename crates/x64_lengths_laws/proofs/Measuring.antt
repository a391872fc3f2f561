-- The registers that a measured instruction leaves.
use Rattle.std.proofs.Common.{◌≡◌, ◌≢◌, ℕ, ◌+◌, ◌-◌, ◌%◌, ◌^◌, Bool, true, false, eqb, List, [], ◌∷◌, Ok, Err, refl, sym, ap, subst, ◌∙◌}
use Rattle.std.specs.Prelude.{◌||◌}
use Rattle.std.proofs.lemmas.Bool.{eqb-true}
use Rattle.seh_num.specs.declared.width.Width.TheVariants.{W64}
use Rattle.seh_num.specs.Answers.{◌>>=◌}
use Rattle.flat_memory.specs.Memory.{stored, after_store}
use Rattle.x64_instr.specs.declared.register.Reg.TheVariants.{Rsp}
use Rattle.x64_instr.specs.declared.instruction.Instr.TheVariants as instrs
use Rattle.x64_instr.specs.declared.instruction.Target.{Target}
use Rattle.x64_instr.specs.Reading.{bit}
use Rattle.x64_instr.specs.Written.{written}
use Rattle.x64_machine.specs.Effect.{State, Answer, granted, register, with_register, with_rip, push, target_of}
use Rattle.frame_rules.specs.States.{registers}
use Rattle.frame_rules.specs.Body.{has}
use Rattle.frame_rules.proofs.Steps.{ok_same, set_other}
use Rattle.frame_rules.proofs.Writing.{writes_no_other}
use Rattle.x64_lengths.specs.Agreement.{AreIn}
use Rattle.x64_lengths.proofs.MeasuredLaw.{lengths_agree}
use Rattle.x64_lengths_laws.specs.Laws.{Keeps, InstructionsAreMeasured}

-- a register that isn't in the set is none of those in it
not_written : (rs : List ℕ) (set r : ℕ) → AreIn rs set → bit r set ≡ 0 → has r rs ≡ false
not_written [] set r all none = refl
not_written (q ∷ qs) set r all none = go (eqb q r) refl (not_written qs set r all.1 none)
  where
    go : (same : Bool) → eqb q r ≡ same → has r qs ≡ false → has r (q ∷ qs) ≡ false
    go true t none_after =
        let one : bit r set ≡ 1 = subst (λ k. bit k set ≡ 1) (eqb-true q r t) all.0 in
        let clash : ◌≡◌ {A = ℕ} 0 1 = sym none ∙ one in
        absurd cc
    go false t none_after = ap (λ b. b || has r qs) t ∙ none_after

-- ---- CALL, which pushes its return address

abbrev below : State → ℕ
below s = (register s.cpu Rsp + (2 ^ 64 - 8)) % 2 ^ 64

after_push : (s t : State) (v r : ℕ) → r ≢ 4 → push s v ≡ Ok t → registers t r ≡ registers s r
after_push s t v r n e = go (granted (stored s.memory (below s) W64)) e
  where
    go : (a : Answer (Unit {0})) → (a >>= λ _. Ok (record s {
      cpu = with_register W64 s.cpu Rsp (below s);
      memory = after_store s.memory (below s) W64 v;
    })) ≡ Ok t → registers t r ≡ registers s r
    go (Ok x) h = subst (λ (u : State). registers u r ≡ registers s r) (ok_same h)
        (set_other s.cpu.registers 4 r _ n)
    go (Err x) h = absurd cc

call_keeps : (to : Target) (r : ℕ) → r ≢ 4 → Keeps (instrs.Call to) r
call_keeps to r n s t e = go (target_of s to) e
  where
    jumped : (a : ℕ) (p : Answer State) → push s s.cpu.rip ≡ p
        → (p >>= λ u. Ok (with_rip u a)) ≡ Ok t → registers t r ≡ registers s r
    jumped a (Ok u) q h =
        subst (λ (x : State). registers x r ≡ registers s r) (ok_same h)
        (after_push s u s.cpu.rip r n q)
    jumped a (Err x) q h = absurd cc

    go : (target : Answer ℕ) → (target >>= λ a. push s s.cpu.rip >>= λ u. Ok (with_rip u a)) ≡ Ok t
        → registers t r ≡ registers s r
    go (Ok a) h = jumped a (push s s.cpu.rip) refl h
    go (Err x) h = absurd cc

-- ---- all of it

pub measured_keeps : InstructionsAreMeasured
measured_keeps bytes i n h =
    let m = lengths_agree bytes i n h in
    record {
      effects = m.effects;
      is_measured = m.measured_is;
      keeps = λ r c z s t e. writes_no_other s t i r c e
          (not_written (written i) m.effects.general r m.all z);
      call_keeps = λ to r same away. subst (λ j. Keeps j r) (sym same) (call_keeps to r away);
    }
