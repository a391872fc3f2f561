-- A function begins: its frame is below its return address, and on top of what waits.
use Rattle.std.proofs.Common.{◌≡◌, ℕ, suc, ◌+◌, ◌<◌, ◌≤◌, Bool, true, false, Some, None, List, [], ◌∷◌, length, refl, arith}
use Rattle.std.specs.Prelude.{slice_get}
use Rattle.std.specs.List.{AllByRecursion}
use Rattle.match_turns.specs.Words.{weight_of, Event, STACK_END, Memory, Rsp, context_of, State, register, Functions, Funclet, no_exception, Region, LinearProgram, LinearBody, FunctionBody, body_of, Item, Waits, Searches, Unwinds, holds, regions_of, Layout, StackItem, context_below, ImagePlan, Activation, locals_of, HasSpace, below_end, HoldsPlaces, home_end, BodyWaits, HasPointers, ReturnsTo, FunctionIsAbove, On, IsWellFormed, Sites, IsLayoutIf, IsProgramImage, slots_end, last_temporary, begun, now_of, Store, VectoredAt, FilterOf, host_list}
use Rattle.seh_records.specs.Laws.{AllSmall}
use Rattle.match_bodies.specs.ProgramImages.{frame_of, IsMachineMemory}
use Rattle.match_bodies.specs.Bodies.{HasFrame, RepresentsAt}
use Rattle.match_turns.proofs.Lemmas.{locals_count}
use Rattle.match_turns.proofs.Calls.CallResult.{nothing}

pub same_itself : (rs : List Region) (label : ℕ)
    → AllByRecursion (λ (r : Region). holds label r ≡ holds label r) rs
same_itself [] label = tt
same_itself (r ∷ rs) label = (refl, same_itself rs label)

count_of_locals : (acts : List Activation) → length (locals_of acts) ≡ length acts
count_of_locals acts = locals_count acts

module _ (t : Functions) (fs : List Funclet) (program : LinearProgram) (p : ImagePlan) (q : Sites)
    (image : IsProgramImage t fs program p q) where
  no_pointers : (m : Memory) (y : Layout) (sp size : ℕ) (items : List Item)
      → FunctionIsAbove t fs program p items → HasPointers t fs program p m y sp size items
  no_pointers m y sp size [] h = tt
  no_pointers m y sp size (Waits w ∷ below) h = tt
  no_pointers m y sp size (Searches exception resumption (VectoredAt place) ∷ below) h = tt
  no_pointers m y sp size (Searches exception resumption (FilterOf asked rest) ∷ below) h = absurd h
  no_pointers m y sp size (Unwinds rest target ∷ below) h = absurd h

  module _ (z : State) (source : Store) (f : ℕ) (o : LinearBody)
      (there : body_of program (FunctionBody f) ≡ Some o) (items : List Item)
      (acts : List Activation) (held : ℕ) (es : List Event) (values : List ℕ)
      (well_formed : IsWellFormed (host_list p source) z)
      (memory : IsMachineMemory t fs program p q z.memory source.memory)
      (rip : z.cpu.rip ≡ p.address (FunctionBody f) 0) (some : 0 < length o.code)
      (space : HasSpace (register z.cpu Rsp) below_end (suc (length acts) + held))
      (function : FunctionIsAbove t fs program p items)
      (home : p.leaf (FunctionBody f) ≡ true → register z.cpu Rsp + home_end ≤ STACK_END)
      (back : ℕ) (returns_to : ReturnsTo t fs program p items back) (others : List ℕ)
      (eight : length others ≡ 8) (small : AllSmall others)
      (frame : HasFrame z (p.leaf (FunctionBody f)) (frame_of p (FunctionBody f) back others))
      (numbers : HoldsPlaces z.memory (now_of (p.leaf (FunctionBody f)) z.cpu)
      (p.register (FunctionBody f)) 0
      (register z.cpu Rsp + (p.layout (FunctionBody f)).locals)
      (register z.cpu Rsp + slots_end (p.layout (FunctionBody f)) (p.leaf (FunctionBody f)))
      values)
      (is : List StackItem)
      (below : On t fs program p z.memory (context_below back
      (register z.cpu Rsp + (p.layout (FunctionBody f)).frame + 8) others) is items acts) where
    abbrev y : Layout
    y = p.layout (FunctionBody f)

    abbrev sp : ℕ
    sp = register z.cpu Rsp

    abbrev own : Activation
    own = record {
      base = sp;
      distance = y.locals;
      register = p.register (FunctionBody f);
      values = values;
    }

    abbrev HasPlan : Bool → Type 0
    HasPlan leaf = IsLayoutIf program p (weight_of (slice_get program.functions f)) y o leaf

    no_base : (leaf : Bool) → HasPlan leaf → y.base ≡ None
    no_base true l = l.none
    no_base false l = l.none

    room : (leaf : Bool) → HasPlan leaf → y.temporaries ≤ last_temporary y (FunctionBody f) leaf
    room true l = let a = l.temporaries in let b = l.few in omega arith
    room false l = let a = l.temporaries in omega arith

    slots : BodyWaits t fs program p z.memory (context_of z.cpu)
        (now_of (p.leaf (FunctionBody f)) z.cpu)
        (slots_end y (p.leaf (FunctionBody f)))
        (last_temporary y (FunctionBody f) (p.leaf (FunctionBody f)))
        (record {
          body = FunctionBody f;
          next = 0;
          activation = length (locals_of acts);
          exception = no_exception;
          held = held;
          temporaries = [];
          landed = None;
        }) (own ∷ acts)
    slots =
        let planned = image.laid_out (FunctionBody f) o there in
        let rises = (image.addresses (FunctionBody f) o there).rises 0 some in
        record {
          code = o;
          body = there;
          label = 0;
          instruction = record { low = omega (arith, rip); high = omega (arith, rip, rises) };
          same = same_itself (regions_of (body_of program (FunctionBody f))) 0;
          small = well_formed.rip_small;
          activation = record {
            none = no_base (p.leaf (FunctionBody f)) planned;
            activation = record {
              number = count_of_locals acts;
              base = refl;
              distance = refl;
              registers = refl;
            };
            values = numbers;
          };
          temporaries = (let r = room (p.leaf (FunctionBody f)) planned in omega arith);
          space = space;
        }

    pub function_begins : RepresentsAt t fs program p q z
        (begun f values held items source (locals_of acts) es)
    function_begins = record {
      rip = rip;
      well_formed = well_formed;
      memory = memory;
      body = record {
        acts = own ∷ acts;
        store = refl;
        slots = slots;
        pointers = no_pointers z.memory y sp y.frame items function;
        above = function;
        home = home;
        back = back;
        returns_to = returns_to;
        others = others;
        eight = eight;
        small = small;
        frame = frame;
        is = is;
        below = below;
      };
      landed = λ code e. absurd (nothing None code refl e);
    }
