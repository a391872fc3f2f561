-- The next instruction of a body begins, in the memory that a template leaves.
use Rattle.std.proofs.Common.{◌≡◌, ℕ, ◌+◌, ◌*◌, ◌<◌, ◌≤◌, true, Option, Some, Ok, List, [], ◌∷◌, length, refl, sym, ap, subst, ◌∙◌, arith, inl, inr}
use Rattle.std.specs.Prelude.{slice_get}
use Rattle.match_bodies.specs.Words.{weight_of, STACK_START, STACK_END, Event, Memory, Rax, Rsp, State, register, BodyState, LinearBody, BodyName, FunctionBody, FuncletBody, body_of, Configuration, Context, Layout, context_of, regions_of, InCode, context_below, Activation, locals_of, activations_below, HoldsWords, IsActivation, HasActivation, HasPointers, BodyWaits, HasSpace, below_end, home_end, IsLinkedStack, IsData, On, IsWellFormed, IsFunctionLayout, IsLayoutIf, slots_end, counts_of, with_values, KeepsStackBut, OwnerHasFrame, last_temporary, Setting, RepresentsAt, now_of, host_list}
use Rattle.virtual_unwind.specs.Undone.{Answer}
use Rattle.match_bodies.proofs.Lemmas.{kept_by_other_memories}
use Rattle.match_bodies.proofs.Steps.BodyResumption.{above_same}
use Rattle.match_bodies.proofs.Keeping.ProgramKeeping.{program_stays}
use Rattle.match_bodies.proofs.Places.HomeSpace.{CallerHasFrame, home_is_free}
use Rattle.match_bodies.proofs.Places.SlotPlaces.{SlotsPlaced}
use Rattle.match_bodies.proofs.Steps.BodyViews.{IsCounted, placed, count, sp_low, AsFunction, AsLeaf, AsFunclet, kind}
use Rattle.match_bodies.proofs.Keeping.ActivationKeeping.{first_changes, with_count}
use Rattle.match_bodies.proofs.Places.LocalStores.{activations_are_stored}
use Rattle.match_bodies.proofs.Templates.TemplateChanges.{no_more_code, stays_data, stack_kept, stack_kept_but, stack_written, image_kept}
use Rattle.match_bodies.proofs.Templates.TemplateSlots.{same_regions}
use Rattle.match_bodies.proofs.Places.NextSlots.{Ran, stack_there, new_words, new_temporaries, function_base, funclet_base, frame_after, activation, pointers_in, Stay}

module _ (setting : Setting) where
  open setting use {functions as t, funclets as fs, program, plan as p, sites as q, image}

  -- linear code, further on in the body
  abbrev pub further : Configuration → List Activation
      → (label : ℕ) (values ts : List ℕ) (landed : Option ℕ) → Memory → List Event → Configuration
  further c acts label values ts landed source events = record {
    frame = record c.frame { next = label; temporaries = ts; landed = landed };
    below = c.below;
    store = record c.store {
      memory = source;
      activations =
          locals_of (with_values acts c.frame.activation values);
    };
    events = events;
  }

  module _ (s : State) (c : Configuration) (b : RepresentsAt setting s c)
      (counted : IsCounted setting c) where
    abbrev code : LinearBody
    code = b.body.slots.code

    abbrev sp : ℕ
    sp = register s.cpu Rsp

    abbrev y : Layout
    y = p.layout c.frame.body

    abbrev registers : ℕ → Option ℕ
    registers = p.register c.frame.body

    abbrev then : ℕ → ℕ
    then = now_of (p.leaf c.frame.body) s.cpu

    abbrev here : SlotsPlaced s.memory y code.temporaries sp c.frame.activation b.body.acts
    here = placed setting s c b counted

    cnt : length here.values ≡ code.locals
    cnt = count setting s c b counted

    low : STACK_START + 196568 ≤ sp
    low = sp_low setting s c b counted

    same_word : (x z : ℕ) → ◌≡◌ {A = Answer ℕ} (Ok x) (Ok z) → x ≡ z
    same_word x z e = cc

    module _ (u : State) (d : BodyState) (values ts : List ℕ)
        (r : Ran setting s c b counted u d values ts) where
      abbrev now : ℕ → ℕ
      now = now_of (p.leaf c.frame.body) u.cpu

      rsp_is : register u.cpu Rsp ≡ sp
      rsp_is = stack_there setting s c b counted u d values ts r

      -- ---- the list below

      pub data_stays : IsData u.memory
      data_stays = stays_data program.globals s u y
          (counts_of code) sp c.frame.activation b.body.acts here cnt r.changed b.memory.data_alone
          b.memory.stack

      function_below : (number : ℕ) (acts : List Activation) (size : ℕ)
          → HasActivation s.memory then registers y sp size c.frame.activation acts
          (FunctionBody number)
          → activations_below (FunctionBody number) acts
          ≡ activations_below (FunctionBody number) (with_values acts c.frame.activation values)
      function_below number [] size h = absurd h
      function_below number (a ∷ outer) size h =
          ap (activations_below (FunctionBody number))
          (sym (first_changes a outer c.frame.activation values h.activation.number))

      module _ (caller : p.leaf c.frame.body ≡ true → CallerHasFrame p c.below)
          (owner : (k : ℕ) → c.frame.body ≡ FuncletBody k
          → OwnerHasFrame t fs program p c.frame.activation c.below b.body.acts) where
        abbrev above : Context
        above = context_below b.body.back (sp + y.frame + 8) b.body.others

        abbrev old : IsLinkedStack t fs program p s.memory above b.body.is c.below
            (activations_below c.frame.body b.body.acts)
        old = b.body.below.is_there

        abbrev New : BodyName → Type 0
        New name = IsLinkedStack t fs program p u.memory above b.body.is c.below
            (activations_below name (with_values b.body.acts c.frame.activation values))

        new_function : AsFunction setting s c b counted → New c.frame.body
        new_function f =
            let l = low in let x = f.layout.temporaries in let w = f.layout.within in
            let z = f.layout.locals in
            let base = function_base setting s c b counted u d values ts r f.layout.none in
            subst New (sym f.name)
            (subst (λ acts. IsLinkedStack t fs program p u.memory above b.body.is c.below acts)
            (function_below f.number b.body.acts y.slots f.activation)
            (kept_by_other_memories t fs program p s.memory u.memory above b.body.is c.below
            (activations_below (FunctionBody f.number) b.body.acts)
            (stack_kept program.globals s u y (counts_of code) sp c.frame.activation b.body.acts
            here cnt r.changed b.memory.data_alone b.memory.stack (sp + y.frame + 8) (omega arith)
            (omega arith) (omega arith))
            (omega arith)
            (subst (λ n. IsLinkedStack t fs program p s.memory above b.body.is c.below
            (activations_below n b.body.acts)) f.name old)))

        new_leaf : (f : AsLeaf setting s c b counted) → New c.frame.body
        new_leaf f =
            let l = low in let x = f.layout.temporaries in
            let z = f.layout.locals in
            let w = f.layout.few in
            let n = f.layout.frame in
            let base = function_base setting s c b counted u d values ts r f.layout.none in
            let home = b.body.home f.leaf in
            let keep = stack_kept program.globals s u y (counts_of code) sp c.frame.activation
            b.body.acts here cnt r.changed b.memory.data_alone b.memory.stack (sp + 40)
            (omega arith) (omega arith) (omega arith) in
            subst New (sym f.name)
            (subst (λ acts. IsLinkedStack t fs program p u.memory above b.body.is c.below acts)
            (function_below f.number b.body.acts y.temporaries f.activation)
            (home_is_free s.memory u.memory t fs program p image.laid_out above
            (record {
              bytes = λ a from to out. elim out
                  [ inl o ↦ absurd (omega arith) | inr o ↦ keep.bytes a (omega arith) to ];
              protection = keep.protection;
              code = keep.code;
              no_more_code = keep.no_more_code;
            })
            (omega arith) b.body.is c.below (activations_below (FunctionBody f.number) b.body.acts)
            (caller f.leaf)
            (subst (λ n. IsLinkedStack t fs program p s.memory above b.body.is c.below
            (activations_below n b.body.acts)) f.name old)))

        new_funclet : (f : AsFunclet setting s c b counted) → New c.frame.body
        new_funclet f =
            let l = low in
            let x = f.layout.temporaries in
            let w = f.layout.within in
            let kept = funclet_base setting s c b counted u d values ts r f.number y.slots
            f.activation in
            let base : f.activation.base ≡ here.base =
            same_word f.activation.base here.base (sym f.activation.kept ∙ kept.word_is) in
            let weight = weight_of (slice_get program.functions f.plan.funclet.function) in
            let function_layout : IsFunctionLayout weight
            (p.layout (FunctionBody f.plan.funclet.function)) f.plan.function =
            subst (λ l. IsLayoutIf program p weight
            (p.layout (FunctionBody f.plan.funclet.function))
            f.plan.function l) f.plan.function_framed
            (image.laid_out (FunctionBody f.plan.funclet.function) f.plan.function
            f.plan.function_there) in
            let g = function_layout.passed in
            let h = function_layout.temporaries in
            let e = f.layout.locals in
            let n = cnt in
            let keep = stack_kept_but program.globals s u y (counts_of code) sp c.frame.activation
            b.body.acts here cnt r.changed b.memory.data_alone b.memory.stack (sp + y.frame + 8)
            (omega arith) (omega arith) in
            let m : code.locals ≡ length values = sym r.leaves.count in
            subst New (sym f.name)
            (activations_are_stored t fs program p s.memory u.memory above b.body.is c.below
            b.body.acts c.frame.activation here.base y.locals registers here.values values
            (subst (λ n. IsLinkedStack t fs program p s.memory above b.body.is c.below
            (activations_below n b.body.acts)) f.name old)
            (omega arith)
            (subst (λ x. IsActivation b.body.acts c.frame.activation x y.locals registers) base
            f.activation.activation)
            (omega arith) (owner f.number f.name) here.number
            (r.leaves.others f.number f.name)
            (subst (λ n. KeepsStackBut s.memory u.memory (sp + y.frame + 8) (here.base + y.locals)
            (here.base + y.locals + 8 * n)) m keep)
            (new_words setting s c b counted u d values ts r f.number f.name))

        pub new_list : New c.frame.body
        new_list = elim (kind setting s c b counted) [
          | inl f ↦ new_function f
          | inr (inl f) ↦
              new_leaf f
          | inr (inr f) ↦ new_funclet f
        ]

        pub new_on : On t fs program p u.memory above b.body.is c.below
            (activations_below c.frame.body (with_values b.body.acts c.frame.activation values))
        new_on = record { is_there = new_list; data_alone = data_stays }

      -- ---- the next instruction

      module _ (label : ℕ) (landed : Option ℕ) (events : List Event)
          (rip : u.cpu.rip ≡ p.address c.frame.body label) (inside : label < length code.code)
          (well_formed : IsWellFormed (host_list p c.store) u) (result : (value : ℕ) → landed ≡ Some
          value
          → register u.cpu Rax ≡ value)
          (caller : p.leaf c.frame.body ≡ true → CallerHasFrame p c.below)
          (owner : (k : ℕ) → c.frame.body ≡ FuncletBody k
          → OwnerHasFrame t fs program p c.frame.activation c.below b.body.acts)
          (stay : Stay setting s c b counted u d values ts r) where
        abbrev next : Configuration
        next = further c b.body.acts label values ts landed d.memory events

        same_depth : length (with_values b.body.acts c.frame.activation values) ≡ length b.body.acts
        same_depth = with_count b.body.acts c.frame.activation values

        in_code : InCode p c.frame.body label u.cpu.rip
        in_code =
            let a = image.addresses c.frame.body code b.body.slots.body in
            let g = a.rises label inside in
            record { low = omega (arith, rip); high = omega (arith, rip) }

        slots : BodyWaits t fs program p u.memory (context_of u.cpu) now
            (slots_end y (p.leaf c.frame.body))
            (last_temporary y c.frame.body (p.leaf c.frame.body))
            next.frame (with_values b.body.acts c.frame.activation values)
        slots = record {
          code = code;
          body = b.body.slots.body;
          label = label;
          instruction = in_code;
          same = same_regions (regions_of (body_of program c.frame.body)) label;
          small = well_formed.rip_small;
          activation = subst (λ x. HasActivation u.memory now registers y x
              (slots_end y (p.leaf c.frame.body)) c.frame.activation
              (with_values b.body.acts c.frame.activation values) c.frame.body)
              (sym rsp_is) (activation setting s c b counted u d values ts r stay);
          temporaries = subst (λ x. HoldsWords u.memory (x + y.temporaries)
              (x + last_temporary y c.frame.body (p.leaf c.frame.body)) ts)
              (sym rsp_is) (new_temporaries setting s c b counted u d values ts r);
          space = subst (λ x. HasSpace x below_end
              (length (with_values b.body.acts c.frame.activation values) + c.frame.held))
              (sym rsp_is) (subst (λ n. HasSpace sp below_end (n + c.frame.held))
              (sym same_depth)
              b.body.slots.space);
        }

        pub represents_next : RepresentsAt setting u next
        represents_next = record {
          landed = result;
          rip = rip;
          well_formed = well_formed;
          memory = record {
            data_alone = data_stays;
            agrees = r.holds.source;
            stack = stack_written program.globals s u y
                (counts_of code) sp c.frame.activation b.body.acts here cnt r.changed
                b.memory.data_alone b.memory.stack;
            arena = λ a e. no_more_code program.globals s u y (counts_of code) sp c.frame.activation
                b.body.acts here cnt r.changed b.memory.data_alone b.memory.stack a
                (b.memory.arena a e);
            code = program_stays t fs program p q image s.memory u.memory
                (image_kept program.globals s u y (counts_of code) sp c.frame.activation b.body.acts
                here cnt r.changed b.memory.data_alone b.memory.stack) b.memory.code;
          };
          body = record {
            acts = with_values b.body.acts c.frame.activation values;
            store = refl;
            slots = slots;
            pointers = subst (λ x. HasPointers t fs program p u.memory y x y.frame c.below)
                (sym rsp_is) (pointers_in setting s c b counted u d values ts r c.below
                b.body.above b.body.pointers);
            above = above_same t fs program p q c.frame next.frame c.frame.body c.below refl
                b.body.above;
            home = λ e. subst (λ x. x + home_end ≤ STACK_END) (sym rsp_is) (b.body.home e);
            back = b.body.back;
            returns_to = b.body.returns_to;
            others = b.body.others;
            eight = b.body.eight;
            small = b.body.small;
            frame = frame_after setting s c b counted u d values ts r;
            is = b.body.is;
            below = subst (λ x. On t fs program p u.memory
                (context_below b.body.back (x + y.frame + 8) b.body.others) b.body.is c.below
                (activations_below c.frame.body
                (with_values b.body.acts c.frame.activation values))) (sym rsp_is)
                (new_on caller owner);
          };
        }
