-- What the host leaves in the registers of a body that continues.
use Rattle.std.proofs.Common.{◌≡◌, ℕ, List, [], ◌∷◌, length, refl, sym, ap, subst, arith}
use Rattle.std.specs.Prelude.{slice_index}
use Rattle.match_stack.specs.Words.{Memory, Context, context_of, get, State, Functions, DispatchRecord, Funclet, at_landing, LinearProgram, Item, Waits, Searches, Unwinds, StackItem, Searching, Unwinding, context_below, ImagePlan, Activation, HasActivation, On}
use Rattle.match_stack.specs.RegisterLaws.{going_to, LandingHasRegisters, RestoredHasRegisters, RecordsRestOnStack, LandedBodyHoldsLocals}

-- nine numbers are what is at their places
pub nine_numbers : (os : List ℕ) → length os ≡ 9
    → slice_index os 0 ∷ slice_index os 1 ∷ slice_index os 2 ∷ slice_index os 3 ∷ slice_index os 4
    ∷ slice_index os 5 ∷ slice_index os 6 ∷ slice_index os 7 ∷ slice_index os 8 ∷ [] ≡ os
nine_numbers [] n = absurd (omega arith)
nine_numbers (a ∷ []) n = absurd (omega arith)
nine_numbers (a ∷ b ∷ []) n = absurd (omega arith)
nine_numbers (a ∷ b ∷ c ∷ []) n = absurd (omega arith)
nine_numbers (a ∷ b ∷ c ∷ d ∷ []) n = absurd (omega arith)
nine_numbers (a ∷ b ∷ c ∷ d ∷ e ∷ []) n = absurd (omega arith)
nine_numbers (a ∷ b ∷ c ∷ d ∷ e ∷ f ∷ []) n = absurd (omega arith)
nine_numbers (a ∷ b ∷ c ∷ d ∷ e ∷ f ∷ g ∷ []) n = absurd (omega arith)
nine_numbers (a ∷ b ∷ c ∷ d ∷ e ∷ f ∷ g ∷ h ∷ []) n = absurd (omega arith)
nine_numbers (a ∷ b ∷ c ∷ d ∷ e ∷ f ∷ g ∷ h ∷ i ∷ []) n = refl
nine_numbers (a ∷ b ∷ c ∷ d ∷ e ∷ f ∷ g ∷ h ∷ i ∷ j ∷ os) n = absurd (omega arith)

-- a landing has the registers of its context
landed_is : (s : State) (c : Context) (rax target rip : ℕ) → length c.kept ≡ 9
    → going_to (context_of (at_landing s c rax target).cpu) rip ≡ going_to c rip
landed_is s c rax target rip n = ap (λ (os : List ℕ).
    let x : Context = record { rip = rip; kept = os } in x) (nine_numbers c.kept n)

pub landing_has_registers : LandingHasRegisters
landing_has_registers t fs program p s c rax target is items acts n on =
    subst (λ (x : Context). On t fs program p s.memory x is items acts)
    (sym (landed_is s c rax target c.rip n)) on

pub landed_body_holds_locals : LandedBodyHoldsLocals
landed_body_holds_locals t fs program p s c rax target f is b below acts n on =
    subst (λ (x : Context). HasActivation s.memory (get x) (p.register b.body) (p.layout b.body)
    (get x 4) f.slots b.activation acts b.body) (sym (landed_is s c rax target target n))
    (holds c.rip c.kept on.is_there.linked.0.waits.activation)
  where
    -- a register of a context doesn't rest on its RIP
    holds : (rip : ℕ) (kept : List ℕ)
        → HasActivation s.memory (get (record { rip = rip; kept = kept })) (p.register b.body)
        (p.layout b.body) (slice_index kept 0) f.slots b.activation acts b.body
        → HasActivation s.memory (get (record { rip = target; kept = kept })) (p.register b.body)
        (p.layout b.body) (slice_index kept 0) f.slots b.activation acts b.body
    holds rip kept h = h

pub restored_has_registers : RestoredHasRegisters
restored_has_registers s r = refl

search_rests : (t : Functions) (fs : List Funclet) (program : LinearProgram) (p : ImagePlan)
    (m : Memory) (rip sp : ℕ) (others others' : List ℕ) (r : DispatchRecord) (is : List StackItem)
    (items : List Item) (acts : List Activation)
    → On t fs program p m (context_below rip sp others) (Searching r ∷ is) items acts
    → On t fs program p m (context_below rip sp others') (Searching r ∷ is) items acts
search_rests t fs program p m rip sp others others' r is
    (Searches exception resumption asked ∷ below) acts on =
    let s = on.is_there.stack in
    let w = on.is_there.linked.0 in
    record {
      is_there = record {
        stack = (
          record {
            at_host = s.0.at_host;
            fetches = s.0.fetches;
            pointers = s.0.pointers;
            kind = s.0.kind;
            above = s.0.above;
            small = s.0.small;
          },
          s.1,
        );
        linked = (
          record {
            own = w.own;
            carries = w.carries;
            resumes = w.resumes;
            asks = w.asks;
            near = w.near;
          },
          on.is_there.linked.1,
        );
      };
      data_alone = on.data_alone;
    }
search_rests t fs program p m rip sp others others' r is [] acts on = absurd on.is_there.linked
search_rests t fs program p m rip sp others others' r is (Waits b ∷ below) acts on =
    absurd on.is_there.linked
search_rests t fs program p m rip sp others others' r is (Unwinds rest target ∷ below) acts on =
    absurd on.is_there.linked

unwinding_rests : (t : Functions) (fs : List Funclet) (program : LinearProgram) (p : ImagePlan)
    (m : Memory) (rip sp : ℕ) (others others' : List ℕ) (r : DispatchRecord) (is : List StackItem)
    (items : List Item) (acts : List Activation)
    → On t fs program p m (context_below rip sp others) (Unwinding r ∷ is) items acts
    → On t fs program p m (context_below rip sp others') (Unwinding r ∷ is) items acts
unwinding_rests t fs program p m rip sp others others' r is (Unwinds rest target ∷ below) acts on =
    let s = on.is_there.stack in
    let w = on.is_there.linked.0 in
    record {
      is_there = record {
        stack = (
          record {
            at_host = s.0.at_host;
            fetches = s.0.fetches;
            pointers = s.0.pointers;
            kind = s.0.kind;
            above = s.0.above;
            small = s.0.small;
          },
          s.1,
        );
        linked = (
          record {
            own = w.own;
            purpose = w.purpose;
            row = w.row;
            aimed = w.aimed;
            space = w.space;
          },
          on.is_there.linked.1,
        );
      };
      data_alone = on.data_alone;
    }
unwinding_rests t fs program p m rip sp others others' r is [] acts on = absurd on.is_there.linked
unwinding_rests t fs program p m rip sp others others' r is (Waits b ∷ below) acts on =
    absurd on.is_there.linked
unwinding_rests t fs program p m rip sp others others' r is
    (Searches exception resumption asked ∷ below) acts on = absurd on.is_there.linked

pub records_rest_on_stack : RecordsRestOnStack
records_rest_on_stack t fs program p m rip sp others others' r is items acts = (
  search_rests t fs program p m rip sp others others' r is items acts,
  unwinding_rests t fs program p m rip sp others others' r is items acts,
)
