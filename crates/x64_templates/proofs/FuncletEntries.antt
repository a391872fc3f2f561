-- A filter or a `__finally` block begins.
use Rattle.std.proofs.Common.{◌≡◌, ℕ, ◌+◌, ◌%◌, ◌^◌, ◌<◌, true, [], ◌∷◌, ◌++◌, length, Ok, refl, ap, arith}
use Rattle.x64_templates.specs.Words.{W32, low, may_write, Rax, Rcx, Flags, Slot, BodyState, with_slot, MachineView, machine, sizes, move, keep, keep_register, sp_of, HasCode, FramePlace, Roomy, FrameHolds, IsKept, IsThere, ReachesBody}
use Rattle.x64_templates.proofs.PlacedCode.{all_may}
use Rattle.x64_templates.proofs.Straight.{executes_one}
use Rattle.x64_templates.proofs.Cells.{put}
use Rattle.x64_templates.proofs.Encoded.{near}
use Rattle.x64_templates.proofs.Computes.{Reached, runs_view, leads_kept}
use Rattle.x64_templates.proofs.Parameters.{kept_at, keeps_register}
use Rattle.x64_templates.proofs.Funclets.{HasCell}

-- a filter keeps RCX, the address of its EXCEPTION_POINTERS
pub pointers_kept : (v : MachineView) (sp d x rip : ℕ) (f : Flags) → sp_of v ≡ sp → v.rcx ≡ x
    → x < 2 ^ 64 → d < 2 ^ 31 → HasCell v.memory (sp + d)
    → HasCode v.memory rip (keep_register Rcx d ∷ [])
    → Reached 1 v (kept_at v (sp + d) x) rip (rip + sizes (keep_register Rcx d ∷ [])) f
pointers_kept v sp d x rip f at is small near_d cell code =
    let h = cell.high in
    let may = all_may (may_write v.memory) 8 (sp + d) (omega arith)
    (λ a p q. cell.writable a p q) in
    let r = runs_view (keep_register Rcx d ∷ []) v (kept_at v (sp + d) x) rip f
    (near d near_d, refl, refl, tt) code (keeps_register Rcx v d (sp + d) x is
    (let e : (sp_of v + 0 + d) % 2 ^ 64 ≡ sp + d = omega arith in e) may small) in
    r

-- a `__finally` block keeps ECX, its flag, in a local of the activation
pub flag_run : (p : FramePlace) (flag : Slot) (v : MachineView) (rip : ℕ) (f : Flags)
    (b : BodyState) → Roomy p → IsThere p flag → IsKept p.layout flag → sp_of v ≡ p.sp
    → FrameHolds p v.locals v.memory b
    → HasCode v.memory rip ((move W32 Rax Rcx ∷ []) ++ keep p.layout flag)
    → ReachesBody p (length ((move W32 Rax Rcx ∷ []) ++ keep p.layout flag)) (machine v rip f)
    (rip + sizes ((move W32 Rax Rcx ∷ []) ++ keep p.layout flag)) v.rest v.locals
    (record { slots = with_slot b.slots flag (low W32 v.rcx); memory = b.memory })
flag_run p flag v rip f b room is kept at h code =
    let i = move W32 Rax Rcx in
    let q : low W32 (low W32 v.rcx) ≡ low W32 v.rcx = omega arith in
    leads_kept p (i ∷ []) flag v rip f b (low W32 v.rcx) b.memory (refl, refl, refl, tt) room is
    kept
    at h code
    (record {
      after = v.memory;
      yields = record {
        rcx = v.rcx;
        rdx = v.rdx;
        does = executes_one i v (put true v (low W32 v.rcx))
            (λ r g. (g, ap (λ (x : ℕ). Ok (machine (put true v x) r g)) q));
      };
      small = (let s : low W32 v.rcx < 2 ^ 64 = omega arith in s);
      agrees = h.source;
      protection = refl;
      own = λ a o. refl;
      bytes = λ z. z;
    })
