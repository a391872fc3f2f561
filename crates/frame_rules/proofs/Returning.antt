-- What a return leaves.
use Rattle.std.proofs.Common.{◌≡◌, ℕ, ◌+◌, ◌%◌, ◌^◌, ◌<◌, true, ◌&&◌, eqb, List, [], ◌∷◌, set, Some, Ok, refl, sym, ap, subst, ◌∙◌, arith, length-set}
use Rattle.std.proofs.lemmas.Bool.{and_parts, eqb-true}
use Rattle.frame_rules.specs.Words.{W64, ◌>>=◌, State, Answer, with_rip, load, effect, UnwindOperation, Restores, Ends, FetchedInstr, role_of, ending, allocation, pushes, is_pop, Mode, Body, Leaving, are_restored, leaving, from_body, following, is_body, registers, return_address, ops, ReturnedToCaller, EpiloguesReturn, LeavesReturn}
use Rattle.x64_instr.specs.declared.instruction.Instr.TheVariants as instrs
use Rattle.frame_rules.specs.Body.{next}
use Rattle.frame_rules.proofs.Steps.{ok_same, set_same, set_other}
use Rattle.frame_rules.proofs.Bodies.{only, next_mode, pop_role, body_holds}
use Rattle.frame_rules.proofs.Frames.{first_running}
use Rattle.frame_rules.proofs.Leaving.{InPops, Known, load_at}
use Rattle.frame_rules.proofs.EpilogueRuns.{Has, opened}
use Rattle.frame_rules.proofs.EveryFrame.{known, leaving_has, leaving_modes}

pub return_effect : (s : State) (a v : ℕ) → load s.memory (registers s 4) W64 ≡ Ok v
    → effect (with_rip s a) instrs.Return ≡ Ok
    (record s {
      cpu = record {
        registers = set s.cpu.registers 4
            ((registers s 4 + 8) % 2 ^ 64 % 2 ^ 64);
        rip = v;
        flags = s.cpu.flags;
      };
    })
return_effect s a v got =
    let lower : State = record s {
      cpu = record {
        registers = set s.cpu.registers 4
            ((registers s 4 + 8) % 2 ^ 64 % 2 ^ 64);
        rip = a;
        flags = s.cpu.flags;
      };
    } in
    let G : Answer ℕ → Answer State = λ r. ◌>>=◌ {A = ℕ × State} (r >>= λ v. Ok (v, lower))
    (λ x. Ok (with_rip x.1 x.0)) in
    ap G got

-- with nothing left to be popped
returned : (f : ℕ) (e s t : State) (a : ℕ) → registers e 4 < 2 ^ 47
    → InPops f (registers e) (return_address e) [] s → effect (with_rip s a) instrs.Return ≡ Ok t
    → ReturnedToCaller e s t
returned f e s t a high h ef =
    let back = return_address e in
    let top = h.stack.0 in
    let w = (registers s 4 + 8) % 2 ^ 64 % 2 ^ 64 in
    let u : State = record s {
      cpu = record {
        registers = set s.cpu.registers 4 w;
        rip = back;
        flags = s.cpu.flags;
      };
    } in
    let same : u ≡ t = ok_same (sym (return_effect s a back
    (load_at s.memory (registers s 4) back h.stack.1)) ∙ ef) in
    let up : w ≡ registers e 4 + 8 = omega arith in
    subst (λ (x : State). ReturnedToCaller e s x) same (record {
      rip = refl;
      stack = set_same s.cpu.registers 4 w h.length (omega arith) ∙ up;
      kept = λ r nv ne. set_other s.cpu.registers 4 r w ne ∙ h.others r nv ne refl;
      memory = refl;
      length = length-set s.cpu.registers 4 w ∙ h.length;
    })

-- at an end nothing is left to be popped
none_left : (f offset : ℕ) (old : ℕ → ℕ) (back : ℕ) (xs : List UnwindOperation) (s : State)
    (m to : Mode) (x : FetchedInstr) → Known f offset old xs → role_of f x.plain x.instr ≡ Ends
    → next f offset xs x m ≡ Some to → Has f offset old back xs s m → InPops f old back [] s
none_left f offset old back xs s (Leaving []) to x known e n h = h
none_left f offset old back xs s (Leaving (r ∷ rs)) to x known e n h =
    let o = only (Some (Leaving rs)) (is_pop r x.instr) to n in
    absurd (ends_restores (sym e ∙ pop_role f r x.plain x.instr o.0))
  where
    ends_restores : Ends ≡ Restores → ⊥
    ends_restores e = cc
none_left f offset old back xs s (Body rs) to x known e n h =
    let o = only (leaving f (pushes xs) x) (are_restored rs xs && eqb (allocation xs) 0) to
    (sym (ap (from_body f offset xs rs x) e) ∙ n) in
    let p = and_parts (are_restored rs xs) (eqb (allocation xs) 0) o.0 in
    let z = eqb-true (allocation xs) 0 p.1 in
    let first = opened f offset back old xs rs s s known h p.0 h.length refl
    (let w : registers s 4 ≡ registers s 4 + allocation xs = omega arith in w) (λ q ne. refl) in
    go (pushes xs) o.1 first
  where
    go : (ps : List ℕ) → leaving f ps x ≡ Some to → InPops f old back ps s → InPops f old back [] s
    go [] l h = h
    go (r ∷ rs) l h =
        let o = only (Some (Leaving rs)) (is_pop r x.instr) to l in
        let same : Ends ≡ Restores = sym e ∙ pop_role f r x.plain x.instr o.0 in
        absurd cc

pub epilogues_return : EpiloguesReturn
epilogues_return f e s t d a x xs right entry h left instr plain ef =
    let fr = f.info.frame_register in
    let off = f.info.frame_offset in
    let b = subst (λ (ys : List FetchedInstr). is_body (following fr off (ops f) ys h.to) ≡ true)
    left (leaving_modes f e right entry s d h) in
    let n = next_mode fr off (ops f) x xs h.to b in
    let role : role_of fr x.plain x.instr ≡ Ends = ap (role_of fr x.plain) instr
    ∙ ap ending plain in
    returned fr e s t a entry.high (none_left fr off (registers e) (return_address e) (ops f) s h.to
    n.to x (known f e right entry) role n.is (leaving_has f e right entry s d h)) ef

pub leaves_return : LeavesReturn
leaves_return rest e s t a body entry b ef =
    let holds = body_holds 0 0 (return_address e) e e s [] rest refl (λ ne. absurd (ne refl)) body
    (first_running 0 0 0 e entry) b in
    let pops : InPops 0 (registers e) (return_address e) []
    s = record {
      length = b.length;
      base = registers s 4;
      stack = holds.stack;
      others = holds.others;
      allowed = refl;
    } in
    returned 0 e s t a entry.high pops ef
