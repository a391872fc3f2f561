-- Standing goes on from boundary to boundary.
use Rattle.std.proofs.Common.{◌≡◌, ℕ, zero, suc, ◌+◌, ◌-◌, ◌%◌, ◌^◌, Bool, true, false, List, [], ◌∷◌, set, Ok, refl, sym, ap, subst, ◌∙◌, inl, inr, arith, length-set, get_or-set_same, get_or-set_other}
use Rattle.std.proofs.lemmas.Bool.{false≢true}
use Rattle.frame_rules.specs.Words.{W64, Instr, State, with_rip, load, registers, return_address, left_to, context_of, ReturnedToCaller}
use Rattle.virtual_unwind.specs.CallerOf.{distance}
use Rattle.abi_unwind.specs.Caller.{tail_of, abi_caller}
use Rattle.x64_instr.specs.declared.instruction.Instr.TheVariants as instrs
use Rattle.frame_known.specs.Known.{abi_known, EndsRight}
use Rattle.frame_known.specs.Knowledge.{at_entry, Entry, Place, Knowledge, HasRegisters, Fits, SaysLess}
use Rattle.frame_known.specs.Laws.{seen, IsCaller}
use Rattle.frame_known.specs.Measured.{Step, Machine, Other, OneOf, calls, is_call, after_called, after_step, flow_ways, step_ways, step_leaves}
use Rattle.x64_lengths.specs.declared.effects.Flow.{Flow}
use Rattle.x64_lengths.specs.declared.effects.Flow.TheVariants as flows
use Rattle.frame_known.specs.Standing.{Assigned, AnyOf, Stands, AllWays, GoesOn, AllGoOn, StepsTo, StandingGoesOn, AllOf, StandingIsFound, ReturnsRight, Code, GoesOnThrough, Walks, EntryStands, WalksAreFound}
use Rattle.frame_known.proofs.Stepping.{after_fits, others_fit, calls_fit, less_fits, entry_fits}
use Rattle.frame_known.proofs.Ways.{way}
use Rattle.frame_known.proofs.Answers.{ok_same}
use Rattle.frame_known.proofs.Fitting.{is_same, has_stack}
use Rattle.frame_known.proofs.Unwinding.{callers_found, return_word}
use Rattle.frame_rules.proofs.Leaving.{load_at}
use Rattle.frame_rules.proofs.Returning.{return_effect}

record Picked (at : Assigned) (e s : State) (x : Step) (next : ℕ) : Type 0 where
  known : Knowledge
  fits : Fits e s known
  goes_on : GoesOn at x next known

pick : (at : Assigned) (e s : State) (x : Step) (next : ℕ) (ks : List Knowledge)
    → AnyOf (Fits e s) ks → AllGoOn at x next ks → Picked at e s x next
pick at e s x next [] f g = absurd f
pick at e s x next (k ∷ ks) (inl f) g = record { known = k; fits = f; goes_on = g.0 }
pick at e s x next (k ∷ ks) (inr f) g = pick at e s x next ks f g.1

at_way : (P : ℕ → Type 0) (a : ℕ) (bs : List ℕ) → OneOf a bs → AllWays P bs → P a
at_way P a [] o w = absurd o
at_way P a (b ∷ bs) (inl same) w = subst P (sym same) w.0
at_way P a (b ∷ bs) (inr o) w = at_way P a bs o w.1

any_fits : (e t : State) (known : Knowledge) (ks : List Knowledge) → Fits e t known
    → AnyOf (SaysLess known) ks → AnyOf (Fits e t) ks
any_fits e t known [] f a = a
any_fits e t known (k ∷ ks) f (inl less) = inl (less_fits e t known k f less)
any_fits e t known (k ∷ ks) f (inr later) = inr (any_fits e t known ks f later)

call_way : (x : Step) (a next : ℕ) → is_call x ≡ true → a ≡ next → OneOf a (step_ways x next)
call_way (Machine (instrs.Call to)) a next c h = inl h
call_way (Machine x) a next c h = absurd (false≢true c)
call_way (Other x) a next c h = go x.flow c
  where
    go : (f : Flow) → calls f ≡ true → OneOf a (flow_ways f next)
    go (flows.Call d) c = inl h
    go flows.CallIndirect c = inl h
    go f c = absurd (false≢true c)

record Went (e t : State) (x : Step) (next : ℕ) (b : Bool) (known : Knowledge) : Type 0 where
  fits : Fits e t (after_called b x known)
  way : OneOf t.cpu.rip (step_ways x next)

went : (e s t : State) (x : Step) (next : ℕ) (known : Knowledge) (b : Bool) → is_call x ≡ b
    → HasRegisters e → step_leaves x ≡ false → Fits e s known → StepsTo b e s x next t known
    → Went e t x next b known
went e s t x next known true c he l f h = record {
  fits = calls_fit e s t known false f h.0 h.1;
  way = call_way x t.cpu.rip next c h.2;
}
went e s t (Machine x) next known false c he l f h = record {
  fits = after_fits e s t known next x he c f h.0 h.1;
  way = way (with_rip s next) t x c l h.0;
}
went e s t (Other x) next known false c he l f h = record {
  fits = others_fit e s t known next x f h.0 h.1;
  way = h.0.way;
}

pub standing_goes_on : StandingGoesOn
standing_goes_on at e s t x next he l go stands steps =
    let p = pick at e s x next (at s.cpu.rip) stands go in
    let w = went e s t x next p.known (is_call x) refl he l p.fits (steps p.known p.fits) in
    let less = after_step x p.known in
    any_fits e t less (at t.cpu.rip) w.fits
    (at_way (λ a. AnyOf (SaysLess less) (at a)) t.cpu.rip (step_ways x next) w.way p.goes_on)

-- ---- what it gives

pub standing_is_found : StandingIsFound
standing_is_found t reach entry at e s vectors entered found right stands =
    go (at s.cpu.rip) right stands
  where
    go : (ks : List Knowledge) → AllOf (λ known. EndsRight
        (abi_known reach known (distance t.base s.cpu.rip) entry
        (tail_of t s.memory entry s.cpu.rip))) ks
        → AnyOf (Fits e s) ks → IsCaller e (abi_caller t s.memory (seen s vectors))
    go [] r f = absurd f
    go (k ∷ ks) r (inl f) = callers_found t reach e s vectors k entry entered f found r.0
    go (k ∷ ks) r (inr f) = go ks r.1 f

pub returns_right : ReturnsRight
returns_right reach e s t known a entered fits right ef =
    let stack = has_stack reach e s known entered fits in
    let word = return_word reach e s known entered fits stack in
    let high = entered.high in
    let home = entered.back in
    let z : registers e 4 + 0 ≡ registers e 4 = omega arith in
    let first = is_same e (registers s 4) (registers s 4) (known.registers 4) (Place 0) refl
    (sym right.stack) (fits.is 4) in
    let top : registers s 4 ≡ registers e 4 = omega arith in
    let back = return_address e in
    let w = (registers s 4 + 8) % 2 ^ 64 % 2 ^ 64 in
    let u : State = record s {
      cpu = record {
        registers = set s.cpu.registers 4 w;
        rip = back;
        flags = s.cpu.flags;
      };
    } in
    let load_is : load s.memory (registers s 4) W64 ≡ Ok back = ap (λ x. load s.memory x W64) top
    ∙ load_at s.memory (registers e 4) back word in
    let same : u ≡ t = ok_same (sym (return_effect s a back load_is) ∙ ef) in
    let up : w ≡ registers e 4 + 8 = omega arith in
    let n = fits.numbers.length in
    subst (λ (x : State). ReturnedToCaller e s x) same (record {
      rip = refl;
      stack = get_or-set_same s.cpu.registers 4 w 0 (omega arith) ∙ up;
      kept = λ r nv ne. get_or-set_other s.cpu.registers 4 r w 0 ne
          ∙ is_same e (registers s r) (registers s r) (known.registers r) (Entry r) refl
          (sym (right.others r nv ne)) (fits.is r);
      memory = refl;
      length = length-set s.cpu.registers 4 w ∙ n;
    })

-- ---- whole walks

walks_stand : (code : Code) (at : Assigned) (e s t : State) (n : ℕ) → HasRegisters e
    → GoesOnThrough code at → Stands at e s → Walks code e n s t → Stands at e t
walks_stand code at e s t zero he g stands w = subst (λ (u : State). Stands at e u) w stands
walks_stand code at e s t (suc n) he g stands w = walks_stand code at e w.2 t n he g
    (standing_goes_on at e s w.2 w.0 w.1 he w.4 (g s.cpu.rip w.1 w.0 w.3) stands w.5) w.6

pub entry_stands : EntryStands
entry_stands at e he first = any_fits e e at_entry (at e.cpu.rip) (entry_fits e he) first

pub walks_are_found : WalksAreFound
walks_are_found t reach entry code at e b s n vectors entered g stands walk found right =
    standing_is_found t reach entry at e s vectors entered found right
    (walks_stand code at e b s n entered.numbers g stands walk)
