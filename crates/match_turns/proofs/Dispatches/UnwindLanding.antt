-- An unwinding lands in a body, which continues at the label.
use Rattle.std.proofs.Common.{◌≡◌, true, ℕ, ◌≤◌, List, [], ◌∷◌, ◌++◌, Option, Some, None, refl, sym, ap, subst, ◌∙◌, arith, inl}
use Rattle.std.proofs.lemmas.List.{append-nil}
use Rattle.match_turns.specs.Words.{Event, Context, State, DispatchRecord, Turn, at_landing, Frame, Target, Item, Waits, Configuration, Next, arrive, StackItem, Framed, StackFrame, InCode, Activation, On, store_of, on_top, IsWellFormed, IsUnwinding, Unwound, LandsThere, landing_value, landing_events, LeadsTo, live_from, turns_left, entry_turns, Setting, IsMachineMemory, RepresentsAt, Represents, ContinuesAs, now_of, RegistersHold, leaf_values, Store, host_list}
use Rattle.linear_machine.specs.Unwinding as linear
use Rattle.match_turns.proofs.Lemmas.{nine_numbers, waits_in_body, no_front, all_front, first_in_code}
use Rattle.match_turns.proofs.Dispatches.DispatchWalks.{landing_walk}
use Rattle.match_bodies.proofs.Places.LeafRegisters.{framed_hold}

same_code : (a b : ℕ) → Some a ≡ Some b → a ≡ b
same_code a b e = cc

-- where linear code continues
abbrev pub landed : Frame → ℕ → Option ℕ → Frame
landed body label None = record body { next = label }
landed body label (Some code) = record body { next = label; temporaries = []; landed = Some code }

abbrev pub arrival : Frame → List Item → ℕ → Option ℕ → Store → List Activation → List Event
    → Configuration
arrival body below label code source outer shown = on_top (landed body label code) below source
    outer (shown ++ landing_events code)

pub arrives_there : (body : Frame) (below : List Item) (target : Target) (code : Option ℕ)
    (source : Store) (outer : List Activation) (shown : List Event) (next : Next)
    → arrive target code next (on_top body below source outer shown)
    ≡ next (arrival body below target.label code source outer shown)
arrives_there body below target None source outer shown next = ap
    (λ (es : List Event). next (on_top (landed body target.label None) below source outer es))
    (sym (append-nil shown))
arrives_there body below target (Some code) source outer shown next = refl

module _ (setting : Setting) where
  open setting use {functions as t, funclets as fs, program, plan as p, sites as q, image}

  -- the state of the machine represents it
  lands_in_body : (s : State) (to : Context) (framed : StackFrame) (is : List StackItem)
      (body : Frame) (below : List Item) (outer : List Activation) (rax address label : ℕ)
      (code : Option ℕ) (source : Store) (shown : List Event)
      → On t fs program p s.memory to (Framed framed ∷ is) (Waits body ∷ below) outer
      → address ≡ p.address body.body label → p.lands body.body label ≡ true
      → IsWellFormed (host_list p source) (at_landing s to rax address)
      → IsMachineMemory setting s.memory source.memory → rax ≡ landing_value code
      → (code ≡ None → body.landed ≡ None)
      → RepresentsAt setting (at_landing s to rax address)
      (arrival body below label code source outer shown)
  lands_in_body s to framed is body below outer rax address label code source shown on at lands
      well_formed
      memory is_code unlanded =
      let w = on.is_there.linked.0.waits in
      let inside = subst (InCode p body.body label) (sym at)
      (first_in_code t fs program p q image body.body w.code label w.body
      (image.landings body.body w.code label w.body lands)) in
      by_code code inside is_code unlanded
    where
      hold : RegistersHold (now_of true (at_landing s to rax address).cpu) (p.register body.body) 0
          (leaf_values (p.leaf body.body) body.body outer)
      hold = framed_hold (now_of true (at_landing s to rax address).cpu) (p.register body.body)
          (p.leaf body.body) outer body.body on.is_there.linked.0.framed

      by_code : (code : Option ℕ) → InCode p body.body label address → rax ≡ landing_value code
          → (code ≡ None → body.landed ≡ None) → RepresentsAt setting (at_landing s to rax address)
          (arrival body below label code source outer shown)
      by_code None inside is_code unlanded = record {
        rip = at;
        well_formed = well_formed;
        memory = memory;
        body = waits_in_body t fs program p q image (at_landing s to rax address) to
            (Framed framed ∷ is) body below outer label body.temporaries body.landed source
            (shown ++ []) on (nine_numbers to.kept on.is_there.stack.0.kept) inside well_formed
            (all_front s.memory body.temporaries) hold;
        landed = λ x e. let z = sym (unlanded refl) ∙ e in absurd cc;
      }
      by_code (Some code) inside is_code unlanded = record {
        rip = at;
        well_formed = well_formed;
        memory = memory;
        body = waits_in_body t fs program p q image (at_landing s to rax address) to
            (Framed framed ∷ is) body below outer label [] (Some code) source
            (shown ++ landing_events (Some code)) on (nine_numbers to.kept on.is_there.stack.0.kept)
            inside well_formed
            (no_front s.memory body.temporaries) hold;
        landed = λ x e. let z : code ≡ x = same_code code x e in is_code ∙ z;
      }

  pub lands_as : (s : State) (at : ℕ) (r : DispatchRecord) (is : List StackItem) (turn : Turn)
      (w : Unwound) (left : ℕ) → IsUnwinding t fs program p s at r is w
      → (l : LandsThere t fs program p s r turn w)
      → IsMachineMemory setting s.memory w.source.memory
      → turns_left (arrival l.body l.below w.target.label w.target.code w.source l.outer w.shown)
      ≤ left → (w.target.code ≡ None → l.body.landed ≡ None)
      → ContinuesAs setting turn (λ next. linear.unwind program next w.target w.items w.left w.shown
      (store_of w.source w.acts)) w.shown left (live_from r.walk is)
  lands_as s at r is turn w left u l memory few unlanded = record {
    state = at_landing s l.to (landing_value w.target.code) r.target;
    events = landing_events w.target.code;
    turns = l.turns;
    configuration = arrival l.body l.below w.target.label w.target.code w.source l.outer w.shown;
    few = few;
    acts = λ next. l.goes next ∙ arrives_there l.body l.below (record w.target { held = l.held })
        w.target.code w.source l.outer w.shown next;
    shown = refl;
    silent = l.silent (at_landing s l.to (landing_value w.target.code) r.target).cpu;
    walk = landing_walk setting s at r is turn w u l (landing_value w.target.code) memory;
    leads = λ known. at_once (lands_in_body s l.to l.framed l.is l.body l.below l.outer
        (landing_value w.target.code) r.target w.target.label w.target.code w.source w.shown l.on
        l.at_address l.lands l.well_formed memory refl unlanded);
  }
    where
      at_once : {u : State} {d : Configuration} → RepresentsAt setting u d
          → LeadsTo t fs entry_turns (Represents setting) u d
      at_once {u} {d} h = record {
        turns = 0;
        few = omega arith;
        state = u;
        comes = (refl, refl);
        is_there = inl h;
      }
