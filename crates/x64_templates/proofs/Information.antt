-- A filter reads of its exception.
use Rattle.std.proofs.Common.{◌≡◌, ℕ, ◌+◌, ◌*◌, ◌%◌, ◌^◌, ◌<◌, ◌≤◌, true, false, [], ◌∷◌, length, Option, None, Ok, refl, ap, subst, ◌∙◌, arith}
use Rattle.x64_templates.specs.Words.{Width, W32, W64, bytes_of, low, Memory, may_read, number_at, access, first_refused, Rax, Rsp, Instr, Flags, ◌>>=◌, Answer, granted, load, effect, Slot, Field, ExceptionCode, ExceptionFlags, NumberParameters, ExceptionInformation, BodyState, with_slot, MachineView, machine, Executes, sizes, fetched, field_load, information_code, sp_of, IsField, HasCode, FramePlace, Roomy, FrameHolds, IsKept, IsThere, ReachesBody, field_at, field_width, MayRead, HasException}
use Rattle.x64_templates.proofs.PlacedCode.{all_may}
use Rattle.x64_templates.proofs.Straight.{executes_one, executes_then}
use Rattle.x64_templates.proofs.Cells.{put}
use Rattle.x64_templates.proofs.Encoded.{Fine, near}
use Rattle.x64_templates.proofs.Computes.{leads_kept}

reads_may : (m : Memory) (n at x : ℕ) → MayRead m n at x → n ≤ 8
    → first_refused (may_read m) n at ≡ None
reads_may m n at x r le = let h = r.high in all_may (may_read m) n at (omega arith)
    (λ a p q. r.readable a p q)

pub load_any : (m : Memory) (at : ℕ) (w : Width) → first_refused (may_read m) (bytes_of w) at ≡ None
    → load m at w ≡ Ok (number_at m.byte (bytes_of w) at)
load_any m at w h = ap (λ (o : Option ℕ). granted
    (access false o (number_at m.byte (bytes_of w) at))) h

loads_long : (from : ℕ) (v : MachineView) (at x : ℕ) (i : Instr)
    → ((rip : ℕ) (f : Flags) → effect (machine v rip f) i
    ≡ (load v.memory from W64 >>= λ y. Ok (machine (put true v (low W64 y)) rip f))) → from ≡ at
    → MayRead v.memory 8 at x → x < 2 ^ 64 → Executes (i ∷ []) v (put true v x)
loads_long from v at x i h e r lt = executes_one i v (put true v x) (λ rip f. (
  f,
  h rip f
      ∙ ap (λ (a : ℕ). load v.memory a W64 >>= λ y. Ok (machine (put true v (low W64 y)) rip f)) e
      ∙ ap (λ (o : Answer ℕ). o >>= λ y. Ok (machine (put true v (low W64 y)) rip f))
      (load_any v.memory at W64 (reads_may v.memory 8 at x r (omega arith)))
      ∙ ap (λ (y : ℕ). Ok (machine (put true v (low W64 y)) rip f)) r.number
      ∙ ap (λ (y : ℕ). Ok (machine (put true v y) rip f))
      (let q : low W64 x ≡ x = omega arith in q),
))

loads_int : (from : ℕ) (v : MachineView) (at x : ℕ) (i : Instr)
    → ((rip : ℕ) (f : Flags) → effect (machine v rip f) i
    ≡ (load v.memory from W32 >>= λ y. Ok (machine (put true v (low W32 y)) rip f))) → from ≡ at
    → MayRead v.memory 4 at x → Executes (i ∷ []) v (put true v (low W32 x))
loads_int from v at x i h e r = executes_one i v (put true v (low W32 x)) (λ rip f. (
  f,
  h rip f
      ∙ ap (λ (a : ℕ). load v.memory a W32 >>= λ y. Ok (machine (put true v (low W32 y)) rip f)) e
      ∙ ap (λ (o : Answer ℕ). o >>= λ y. Ok (machine (put true v (low W32 y)) rip f))
      (load_any v.memory at W32 (reads_may v.memory 4 at x r (omega arith)))
      ∙ ap (λ (y : ℕ). Ok (machine (put true v (low W32 y)) rip f)) r.number,
))

-- a field of 32 bits is extended by zeros
abbrev pub field_number : Field → ℕ → ℕ
field_number f x = low (field_width f) x

field_does : (field : Field) (v : MachineView) (exception x : ℕ) → v.rax ≡ exception → x < 2 ^ 64
    → MayRead v.memory (bytes_of (field_width field)) (exception + field_at field) x
    → Executes (field_load field ∷ []) v (put true v (field_number field x))
field_does ExceptionCode v e x is lt r = let h = r.high in
    loads_int ((v.rax + 0 + 0) % 2 ^ 64) v (e + 0) x (field_load ExceptionCode) (λ rip f. refl)
    (omega arith) r
field_does ExceptionFlags v e x is lt r = let h = r.high in
    loads_int ((v.rax + 0 + 4) % 2 ^ 64) v (e + 4) x (field_load ExceptionFlags) (λ rip f. refl)
    (omega arith) r
field_does NumberParameters v e x is lt r = let h = r.high in
    loads_int ((v.rax + 0 + 24) % 2 ^ 64) v (e + 24) x (field_load NumberParameters) (λ rip f. refl)
    (omega arith) r
field_does (ExceptionInformation k) v e x is lt r =
    let h = r.high in
    let q : x ≡ low W64 x = omega arith in
    subst (λ y. Executes (field_load (ExceptionInformation k) ∷ []) v (put true v y)) q
    (loads_long ((v.rax + 0 + (32 + 8 * k)) % 2 ^ 64) v (e + (32 + 8 * k)) x
    (field_load (ExceptionInformation k)) (λ rip f. refl) (omega arith) r lt)

pub field_fine : (field : Field) → IsField field → Fine (field_load field ∷ [])
field_fine ExceptionCode is = (refl, refl, refl, tt)
field_fine ExceptionFlags is = (refl, refl, refl, tt)
field_fine NumberParameters is = (refl, refl, refl, tt)
field_fine (ExceptionInformation k) is = (near (32 + 8 * k) (omega arith), refl, refl, tt)

small_field : (field : Field) (x : ℕ) → field_number field x < 2 ^ 64
small_field ExceptionCode x = omega arith
small_field ExceptionFlags x = omega arith
small_field NumberParameters x = omega arith
small_field (ExceptionInformation k) x = omega arith

pub information_run : (p : FramePlace) (to : Slot) (field : Field) (v : MachineView) (at : ℕ)
    (f : Flags) (b : BodyState) (x : ℕ) → Roomy p → IsThere p to → IsKept p.layout to
    → IsField field
    → p.layout.pointers < 2 ^ 31 → sp_of v ≡ p.sp → FrameHolds p v.locals v.memory b → x < 2 ^ 64
    → HasException v.memory (p.sp + p.layout.pointers) field x
    → HasCode v.memory at (information_code p.layout to field)
    → ReachesBody p (length (information_code p.layout to field)) (machine v at f)
    (at + sizes (information_code p.layout to field)) v.rest v.locals
    (record { slots = with_slot b.slots to (field_number field x); memory = b.memory })
information_run p to field v at f b x room is kept isf near_p sp h lt e code =
    let y = p.layout in
    let i0 = fetched Rax Rsp y.pointers in
    let i1 = fetched Rax Rax 0 in
    let i2 = field_load field in
    let v1 = put true v e.pointers in
    let v2 = put true v e.exception in
    let v3 = put true v (field_number field x) in
    let h0 = e.keeps.high in
    let h1 = e.leads.high in
    let h2 = e.holds.high in
    let s0 : (sp_of v + 0 + y.pointers) % 2 ^ 64 ≡ p.sp + y.pointers = omega arith in
    let s1 : (e.pointers + 0 + 0) % 2 ^ 64 ≡ e.pointers = omega arith in
    let d0 : Executes (i0 ∷ []) v v1 = loads_long ((sp_of v + 0 + y.pointers) % 2 ^ 64) v
    (p.sp + y.pointers) e.pointers i0 (λ rip g. refl) s0 e.keeps (omega arith) in
    let d1 : Executes (i1 ∷ []) v1 v2 = loads_long ((e.pointers + 0 + 0) % 2 ^ 64) v1 e.pointers
    e.exception i1 (λ rip g. refl) s1 e.leads (omega arith) in
    let d2 : Executes (i2 ∷ []) v2 v3 = field_does field v2 e.exception x refl lt e.holds in
    let d = executes_then (i0 ∷ []) (i1 ∷ i2 ∷ []) v v1 v3 d0
    (executes_then (i1 ∷ []) (i2 ∷ []) v1 v2 v3 d1 d2) in
    let fine : Fine (i0 ∷ i1 ∷ i2 ∷ []) = (
      near y.pointers near_p,
      refl,
      refl,
      (refl, refl, refl, field_fine field isf),
    ) in
    leads_kept p (i0 ∷ i1 ∷ i2 ∷ []) to v at f b (field_number field x) b.memory fine room is kept
    sp
    h code
    (record {
      after = v.memory;
      yields = record { rcx = v.rcx; rdx = v.rdx; does = d };
      small = small_field field x;
      agrees = h.source;
      protection = refl;
      own = λ a o. refl;
      bytes = λ z. z;
    })
