-- Within an instruction the walk gives the frames that it gave where the instruction
-- began.
use Rattle.std.proofs.Common.{◌≡◌, ℕ, ◌+◌, ◌^◌, ◌<◌, ◌≤◌, false, Some, List, [], ◌∷◌, length, refl, sym, ap, subst, arith}
use Rattle.std.specs.List.{AllByRecursion}
use Rattle.virtual_unwind.specs.Contexts.{get}
use Rattle.image_runs.specs.Words.{STACK_START, Memory, Context, context_of, State, rsp, Functions, Funclet, LinearProgram, LinearBody, Frame, body_of, Item, Waits, Configuration, StackItem, Framed, Leaf, FrameIsAt, IsStack, StackFrame, ImagePlan, InCode, Activation, BodyWaits, Linked, temporaries_end, activations_below, after_frame, HasSpace, below_end, Sites, HasProgram, IsResumed, IsProgramImage, IsWithinInstruction, WalkGives, WalksGiveTheFramesWithin, frame_of, frame_at_label}
use Rattle.linear_code.specs.declared.program.Region.{Region}
use Rattle.linear_machine.specs.Regions.{holds, regions_of}
use Rattle.match_stack.specs.ItemMatches.{HasPointers}
use Rattle.match_stack.specs.ListLaws as linked
use Rattle.match_stack.proofs.ListKeeping.{kept_by_other_memories}
use Rattle.image_runs.proofs.Lemmas.{frame_size, frame_told, told_with}
use Rattle.image_runs.proofs.LiveFrames.{as_many, are_frames}
use Rattle.image_runs.proofs.WalkFrames.{frames, gives}
use Rattle.image_runs.proofs.StateWalks.{IsTop, tops}

same_regions : (rs : List Region) (label : ℕ)
    → AllByRecursion (λ (r : Region). holds label r ≡ holds label r) rs
same_regions [] label = tt
same_regions (r ∷ rs) label = (refl, same_regions rs label)

module _ (t : Functions) (fs : List Funclet) (program : LinearProgram) (p : ImagePlan) (q : Sites)
    (image : IsProgramImage t fs program p q) where
  -- a frame's depth is bounded, so it is in the stack
  in_range : (sp depth : ℕ) → HasSpace sp below_end depth → STACK_START ≤ sp
  in_range sp depth h = let a = h.space in let b = h.shallow in omega arith

  from_start : (m : Memory) (c : Context) (is : List StackItem) (b : Frame) (below : List Item)
      (acts : List Activation) → Linked t fs program p m c is (Waits b ∷ below) acts
      → STACK_START ≤ rsp c
  from_start m c (Framed f ∷ is) b below acts l = in_range (rsp c) (length acts + b.held)
      l.0.waits.space
  from_start m c (Leaf back ∷ is) b below acts l = in_range (rsp c) (length acts + b.held)
      l.0.waits.space
  from_start m c is b below acts l = absurd l

  module _ (m : Memory) (c : Context) (rip : ℕ) (b : Frame) (below : List Item)
      (acts : List Activation) (code : LinearBody)
      (there : body_of program b.body ≡ Some code)
      (resumed : IsResumed t fs program p q b.body code b.next rip)
      (inside : InCode p b.body b.next rip) (small : rip < 2 ^ 64)
      (has : HasProgram t fs program p q m) where
    abbrev to : Context
    to = record { rip = rip; kept = c.kept }

    abbrev waits_there : (now : ℕ → ℕ) (size end : ℕ)
        → BodyWaits t fs program p m c now size end b acts
        → BodyWaits t fs program p m to now size end b acts
    waits_there now size end w = record {
      code = w.code;
      body = w.body;
      label = b.next;
      instruction = inside;
      same = same_regions (regions_of (body_of program b.body)) b.next;
      small = small;
      activation = w.activation;
      temporaries = w.temporaries;
      space = w.space;
    }

    -- the body's frame, with the entry of the instruction
    abbrev framed_now : StackFrame → StackFrame
    framed_now f = frame_at_label p b.body b.next f.return_address f.others

    frame_there : (f : StackFrame) (label : ℕ) → p.leaf b.body ≡ false
        → f.entry ≡ p.entry b.body label
        → f.slots ≡ (p.layout b.body).slots → FrameIsAt t m c f → FrameIsAt t m to (framed_now f)
    frame_there f label framed entry slots s =
        let size = frame_size t fs program p q image m c f b.body code label there framed entry s in
        let own = frame_of p b.body f.return_address f.others in
        image.frames m b.body code b.next to f.return_address f.others there framed has resumed
        (record {
          kept = s.kept;
          eight = s.eight;
          room = subst (λ n. rsp c + n + 8 < 2 ^ 64) size s.room;
          is_told = told_with m c to own refl
              (frame_told t fs program p q image m c f b.body code label there framed entry slots
              s);
        })

    -- a list from another address of the instruction, and of as many items
    record IsThere : Type 0 where
      pub is : List StackItem
      pub list : linked.IsLinkedStack t fs program p m to is (Waits b ∷ below) acts

    there_too : (is : List StackItem) → IsStack t m c is
        → Linked t fs program p m c is (Waits b ∷ below) acts → IsThere
    there_too (Framed f ∷ is) s l =
        let y = p.layout b.body in
        let w = l.0.waits in
        let size = frame_size t fs program p q image m c f b.body code w.label there l.0.framed
        l.0.entry s.0 in
        let next : after_frame c f ≡ after_frame to (framed_now f) =
        ap (λ (n : ℕ). after_frame c (record f { size = n })) size in
        record {
          is = Framed (framed_now f) ∷ is;
          list = record {
            stack = (
              frame_there f w.label l.0.framed l.0.entry l.0.slots s.0,
              subst (λ (x : Context). IsStack t m x is) next s.1,
            );
            linked = (
              record {
                framed = l.0.framed;
                slots = refl;
                small = l.0.small;
                waits = waits_there (get c) y.slots (temporaries_end y b.body y.slots)
                    (subst (λ n. BodyWaits t fs program p m c (get c) n (temporaries_end y b.body n)
                    b acts) l.0.slots w);
                entry = refl;
                pointers = subst (λ n. HasPointers t fs program p m y (rsp c) n below) size
                    l.0.pointers;
                returns = l.0.returns;
              },
              l.1,
              subst (λ (x : Context). Linked t fs program p m x is below
                  (activations_below b.body acts)) next l.2,
            );
          };
        }
    there_too (Leaf back ∷ is) s l = record {
      is = Leaf back ∷ is;
      list = record {
        stack = (
          image.leaves m b.body code b.next to back there l.0.leaf resumed s.0.kept s.0.room
              s.0.returns,
          s.1,
        );
        linked = (
          record {
            leaf = l.0.leaf;
            home = l.0.home;
            none = l.0.none;
            now = l.0.now;
            waits = waits_there l.0.now _ _ l.0.waits;
            returns = l.0.returns;
          },
          l.1,
          l.2,
        );
      };
    }
    there_too is s l = absurd l

  within : (s u : State) (c : Configuration) → IsTop t fs program p q image s c
      → IsWithinInstruction t fs program p q s u c → WalkGives t fs program p u c
  within s u c h w =
      let from = context_of s.cpu in
      let items = Waits c.frame ∷ c.below in
      let top = h.top in
      let was = top.on.is_there in
      let low = from_start s.memory from top.is c.frame c.below h.acts was.linked in
      let now = kept_by_other_memories t fs program p s.memory u.memory from top.is items h.acts
      w.stack low was in
      let moved = there_too u.memory from u.cpu.rip c.frame c.below h.acts w.code w.body w.resumed
      w.inside w.small w.program_there top.is now.stack now.linked in
      let is = moved.is in
      let same : context_of u.cpu ≡ record { rip = u.cpu.rip; kept = from.kept } = ap
      (λ (ks : List ℕ). let x : Context = record { rip = u.cpu.rip; kept = ks } in x) w.kept in
      let here : linked.IsLinkedStack t fs program p u.memory (context_of u.cpu) is items
      h.acts = subst (λ (x : Context). linked.IsLinkedStack t fs program p u.memory x is items
      h.acts) (sym same) moved.list in
      let n = as_many t fs program p u.memory (context_of u.cpu) is items h.acts here.linked in
      record {
        acts = h.acts;
        store = h.store;
        frames = frames (context_of u.cpu) is;
        live = are_frames t fs program p q image u.memory (context_of u.cpu) is items h.acts
            here.stack here.linked;
        walks = λ k le. gives t u.memory (context_of u.cpu) 0 is k here.stack (omega arith);
      }

pub walks_give_the_frames_within : WalksGiveTheFramesWithin
walks_give_the_frames_within t fs program p q image still s u c is_there known w = within t fs
    program p q image s u c (tops t fs program p q image still s c is_there known) w
