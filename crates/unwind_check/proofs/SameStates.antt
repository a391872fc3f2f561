-- The states of a function are those of another one with the same info and instructions; and its
-- code in another memory.
use Rattle.std.proofs.Common.{◌≡◌, ℕ, ◌+◌, ◌<◌, ◌≤◌, true, List, [], ◌∷◌, Some, sym, ap, subst, ◌∙◌, arith, inl, inr}
use Rattle.flat_memory.specs.Memory.{Memory, executable}
use Rattle.seh_num.specs.declared.size.TheConstants.{LONGEST_INSTRUCTION}
use Rattle.x64_instr.specs.Spelling.{leading}
use Rattle.x64_machine.specs.Effect.{State}
use Rattle.eh_tables.specs.Infos.{Info}
use Rattle.virtual_unwind.specs.Undone.{operations}
use Rattle.virtual_unwind.specs.declared.tail.Role.TheVariants.{Other}
use Rattle.virtual_unwind.specs.Tail.{FetchedInstr, item_of, fetched_at, role_of}
use Rattle.frame_rules.specs.Prologue.{bytes, items}
use Rattle.frame_rules.specs.Body.{Body, following}
use Rattle.frame_rules.specs.States.{RunsThrough, InBody, all_leave, HasItems}
use Rattle.frame_rules.specs.Rules.{FramedFunction, ops, InPrologue}
use Rattle.frame_rules.proofs.Tails.{items_rise}
use Rattle.unwind_check.specs.Fragments.{joined, IsPartBody, IsPartLeaving, IsInPart}

-- ---- the same states

module _ (f g : FramedFunction) (info : f.info ≡ g.info) (its : items f.steps ≡ items g.steps)
    (e s : State) (d : ℕ) where
  pub same_prologue : InPrologue f e s d → InPrologue g e s d
  same_prologue h = record {
    done = h.done;
    left = h.left;
    parts = sym its ∙ h.parts;
    before = subst (λ (i : Info). bytes h.done < i.prologue_size) info h.before;
    here = h.here;
    runs = h.runs;
  }

  through : (p : State) → RunsThrough e (items f.steps) p → RunsThrough e (items g.steps) p
  through p h = subst (λ (xs : List FetchedInstr). RunsThrough e xs p) its h

  module _ (parts : List (List FetchedInstr)) (xs : List FetchedInstr) where
    in_same : (p q : State) → InBody f.info.frame_register (ops f) (joined parts) e p q
        → InBody g.info.frame_register (ops g) (joined parts) e p q
    in_same p q h = subst (λ (i : Info). InBody i.frame_register (operations i.codes)
        (joined parts) e p q) info h

    in_body : IsPartBody f parts xs e s d → IsPartBody g parts xs e s d
    in_body h = record {
      following = h.following;
      runs = through h.following h.runs;
      done = h.done;
      item = h.item;
      left = h.left;
      loaded = h.loaded;
      split = h.split;
      mode = subst (λ (i : Info). following i.frame_register i.frame_offset
          (operations i.codes) h.done (Body []) ≡ Some (Body h.loaded)) info h.mode;
      other = subst (λ (i : Info). role_of i.frame_register h.item.plain h.item.instr ≡ Other) info
          h.other;
      here = h.here;
      in_body = in_same h.following s h.in_body;
    }

    leaving : IsPartLeaving f parts xs e s d → IsPartLeaving g parts xs e s d
    leaving h = record {
      following = h.following;
      runs = through h.following h.runs;
      from = h.from;
      done = h.done;
      run = h.run;
      left = h.left;
      to = h.to;
      split = h.split;
      mode = subst (λ (i : Info). following i.frame_register i.frame_offset
          (operations i.codes) h.done (Body []) ≡ Some (Body [])) info h.mode;
      mode_here = subst (λ (i : Info). following i.frame_register i.frame_offset
          (operations i.codes) h.run (Body []) ≡ Some h.to) info h.mode_here;
      leave = subst (λ (i : Info). all_leave i.frame_register i.frame_offset
          (operations i.codes) h.run ≡ true) info h.leave;
      here = h.here;
      in_body = in_same h.following h.from h.in_body;
      runs_on = h.runs_on;
      continues = h.continues;
    }

    pub same_part : IsInPart f parts xs e s d → IsInPart g parts xs e s d
    same_part (inl h) = inl (in_body h)
    same_part (inr h) = inr (leaving h)

-- ---- the code in another memory

same_fetch : (m n : Memory) (at there : ℕ)
    → executable n LONGEST_INSTRUCTION there ≡ executable m LONGEST_INSTRUCTION at
    → fetched_at m at ≡ fetched_at n there
unfolding fetched_at
same_fetch m n at there h = ap (λ (bs : List ℕ). item_of bs (leading bs)) (sym h)

pub same_items : (m n : Memory) (base end : ℕ) → ((at : ℕ) → at < end
    → executable n LONGEST_INSTRUCTION (base + at) ≡ executable m LONGEST_INSTRUCTION at)
    → (at : ℕ) (xs : List FetchedInstr) (to : ℕ) → to ≤ end → HasItems m at xs to
    → HasItems n (base + at) xs (base + to)
same_items m n base end code at [] to le h = ap (λ k. base + k) h
same_items m n base end code at (x ∷ xs) to le h =
    let rise = items_rise m (at + x.size) xs to h.2 in
    let pos = h.1 in
    let lt : at < end = omega (arith, rise, pos, le) in
    let there : base + (at + x.size) ≡ base + at + x.size = omega arith in (
      sym (same_fetch m n at (base + at) (code at lt)) ∙ h.0,
      h.1,
      subst (λ k. HasItems n k xs (base + to)) there
          (same_items m n base end code (at + x.size) xs to le h.2),
    )
