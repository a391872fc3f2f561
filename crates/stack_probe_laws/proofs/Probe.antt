-- A call of `__chkstk` comes back with what its caller counts on.
use Rattle.std.proofs.Common.{◌≡◌, ◌≢◌, ◌⊎◌, ℕ, ◌+◌, ◌-◌, ◌^◌, ◌<◌, ◌≤◌, true, false, [], ◌∷◌, set, refl, sym, ap, subst, ◌∙◌, arith, inl, inr}
use Rattle.std.proofs.lemmas.Bool.{false≢true}
use Rattle.x64_machine.specs.declared.cpu.Flags.{Flags}
use Rattle.x64_machine.specs.Effect.{State}
use Rattle.virtual_unwind.specs.Contexts.{is_nonvolatile}
use Rattle.frame_rules.specs.States.{registers, Called}
use Rattle.frame_rules.proofs.Steps.{set_other}
use Rattle.template_code.specs.Jumps.{call, IsNear}
use Rattle.template_code.specs.Probing.{check_stack}
use Rattle.x64_templates.specs.CallStates.{sp_of, pushed, moved, HasBelow}
use Rattle.x64_templates.specs.Runs.{HasCode}
use Rattle.x64_templates.specs.Straight.{MachineView, machine}
use Rattle.x64_templates.proofs.Calls.{call_reaches}
use Rattle.x64_templates.proofs.Entries.{beside, pushed_back, writable_readable}
use Rattle.x64_templates.proofs.LargeEntries.{pushed_keeps_code}
use Rattle.x64_templates.proofs.Probing.{with_probes, check_run}
use Rattle.x64_templates.proofs.PrologueParts.{seen}
use Rattle.stack_probe_laws.specs.Laws.{IsAtProbe, ComesBack, probe_turns, ProbesComeBack}

-- a nonvolatile register is no volatile one
nonvolatile : (i j : ℕ) → is_nonvolatile i ≡ false → is_nonvolatile j ≡ true → j ≢ i
nonvolatile i j vol nv z = false≢true (sym vol ∙ ap is_nonvolatile (sym z) ∙ nv)

module _ (v : MachineView) (sp back tenth eleventh rip next : ℕ) (f g : Flags)
    (at : sp_of v ≡ sp) (below : HasBelow v.memory sp 8) where
  abbrev before : State
  before = machine v rip f

  abbrev after : State
  after = machine (moved (with_probes (pushed v sp back) tenth eleventh) sp) next g

  kept_nonvolatile : (r : ℕ) → is_nonvolatile r ≡ true → registers after r ≡ registers before r
  kept_nonvolatile r nv =
      let level : after.cpu.registers ≡ set (set before.cpu.registers 10 tenth) 11 eleventh =
      ap (λ (s : ℕ). (machine (moved (with_probes v tenth eleventh) s) next g).cpu.registers)
      (sym at) in
      ap (λ rs. registers (record before {
        cpu = record { registers = rs; rip = rip; flags = f };
      }) r) level
      ∙ set_other (set before.cpu.registers 10 tenth) 11 r eleventh (nonvolatile 11 r refl nv)
      ∙ set_other before.cpu.registers 10 r tenth (nonvolatile 10 r refl nv)

  kept : (r : ℕ) → (is_nonvolatile r ≡ true) ⊎ (r ≡ 0) → registers after r ≡ registers before r
  kept r (inl nv) = kept_nonvolatile r nv
  kept r (inr e) = subst (λ k. registers after k ≡ registers before k) (sym e) refl

  called : Called before after
  called =
      let enough = below.enough in
      let high = below.high in
      record {
        length = refl;
        kept = kept;
        protection = refl;
        byte = λ a le. beside v.memory sp back a (omega arith) (omega arith)
            (inr (subst (λ s. s ≤ a) at le));
      }

by_view : (v : MachineView) (n check rip : ℕ) (f : Flags) → IsAtProbe n (machine v rip f)
    → HasCode v.memory rip (call (rip + 5) check ∷ []) → IsNear (rip + 5) check
    → HasCode v.memory check check_stack → ComesBack check (probe_turns n) (machine v rip f)
by_view v n check rip f here code near leaf =
    let sp = sp_of v in
    let page = here.page in
    let low = here.low in
    let high = here.high in
    let placed = code.placed.high in
    let below : HasBelow v.memory sp 8 = record {
      enough = omega arith;
      high = omega arith;
      writable = λ a lo hi. here.writable a (omega arith) hi;
    } in
    let back = rip + 5 in
    let in_check = pushed v sp back in
    let r = check_run in_check sp n back check f here.size refl
    (record {
      enough = low;
      more = page;
      high = high;
      readable = λ a lo hi. writable_readable v.memory a (here.writable a lo hi);
    })
    (pushed_back v sp back below (omega arith))
    (pushed_keeps_code v sp back check check_stack below leaf) in
    record {
      entered = machine in_check check f;
      enters = call_reaches v sp rip check f refl below near code;
      first = refl;
      to = machine (moved (with_probes in_check r.tenth (sp - n)) sp) back r.flags;
      comes = r.comes;
      rip = refl;
      called = called v sp back r.tenth (sp - n) rip back f r.flags refl below;
    }

pub probes_come_back : ProbesComeBack
probes_come_back n check s here code near leaf =
    let w = seen s here.length in
    subst (ComesBack check (probe_turns n)) (sym w.is)
    (by_view w.view n check s.cpu.rip s.cpu.flags (subst (IsAtProbe n) w.is here)
    (subst (λ (u : State). HasCode u.memory s.cpu.rip (call (s.cpu.rip + 5) check ∷ [])) w.is code)
    near (subst (λ (u : State). HasCode u.memory check check_stack) w.is leaf))
