-- Whether a trailing part is an epilogue, where entries are read when they are asked.
use Rattle.std.proofs.Common.{◌≡◌, ℕ, Bool, true, false, List, Option, Some, None, Ok, Err, refl, sym, ap, ◌∙◌}
use Rattle.flat_memory.specs.Memory.{Memory}
use Rattle.x64_machine.specs.declared.context.Context.{Context}
use Rattle.seh_num.specs.Answers.{◌>>=◌}
use Rattle.eh_tables.specs.Tables.{Entry, Tables}
use Rattle.virtual_unwind.specs.Undone.{Answer}
use Rattle.virtual_unwind.specs.CallerOf.{distance}
use Rattle.abi_unwind.specs.declared.context.AbiContext.{AbiContext}
use Rattle.abi_unwind.specs.declared.each.EntryErr.{EntryErr}
use Rattle.abi_unwind.specs.declared.tail.Part.{Part}
use Rattle.abi_unwind.specs.declared.tail.End.{End}
use Rattle.abi_unwind.specs.Tail.{Tail, parts_if, tail_at}
use Rattle.abi_unwind.specs.Undone.{popped_abi}
use Rattle.abi_unwind.specs.Caller.{AbiFrame, found, establisher, ran, abi_at}
use Rattle.abi_unwind.specs.Ran.{ran_tail}
use Rattle.abi_unwind.specs.Views.{shown, shown_each}
use Rattle.abi_unwind.specs.Each.{Each, of_unwind, is_end, kept, tail_if, tail_in, of_entry}

-- a trailing part, where an epilogue may stand
pub nothing_there : (m : Memory) (c : Context) (o : Option Tail) (b : Bool) → b ≡ false
    → None ≡ ran_tail m (Ok c) (tail_if o b)
nothing_there m c o true e = absurd cc
nothing_there m c o false e = refl

pub all_there : (m : Memory) (c : Context) (o : Option Tail) (b : Bool) → b ≡ true
    → ran_tail m (Ok c) o ≡ ran_tail m (Ok c) (tail_if o b)
all_there m c o true e = refl
all_there m c o false e = absurd cc

pub ruleset tails = (nothing_there, all_there)

one_pair : {x y : Answer Context × End} → Some x ≡ Some y → x ≡ y
one_pair e = cc

-- an end is asked of a trailing part that has been run
asked : (t : Tables) (base : ℕ) (m : Memory) (e : Entry) (a b : Answer Context) (end : End)
    (o : Option Tail) → Some (b, end) ≡ ran_tail m a o
    → (tail : Tail) × ((o ≡ Some tail) × ((tail.end ≡ end) × (b ≡ (a >>= ran m tail.parts))))
asked t base m e a b end None h = absurd cc
asked t base m e a b end (Some tail) h = (
  tail,
  (
    refl,
    (
      sym (ap (λ (x : Answer Context × End). x.1) (one_pair h)),
      ap (λ (x : Answer Context × End). x.0) (one_pair h),
    ),
  ),
)

kept_by : (t : Tables) (base : ℕ) (e : Entry) (o : Option Tail) (tail : Tail) (end : End)
    (r : Each Bool) → o ≡ Some tail → tail.end ≡ end → r ≡ is_end t base e end
    → kept t base e o ≡ (r >>= λ b. Ok (parts_if tail b))
kept_by t base e o tail end r is same h =
    ap (kept t base e) is
    ∙ ap (λ x. is_end t base e x >>= λ b. Ok (parts_if tail b)) same
    ∙ ap (λ x. x >>= λ b. Ok (parts_if tail b)) (sym h)

abbrev frame_at : ℕ → Memory → AbiContext → Entry → Option (List Part) → Each AbiFrame
frame_at base m c e parts = of_unwind (abi_at m c (distance base c.general.rip) e parts)

none_kept : (t : Tables) (base : ℕ) (m : Memory) (e : Entry) (a : Answer Context)
    (o : Option Tail) → None ≡ ran_tail m a o → kept t base e o ≡ Ok None
none_kept t base m e a None h = refl
none_kept t base m e a (Some x) h = absurd cc

module _ (t : Tables) (base : ℕ) (m : Memory) (c : AbiContext) (e : Entry) where
  pub no_tail : None ≡ ran_tail m (Ok c.general) (tail_in base m c e)
      → of_entry t base m c (Some e) ≡ of_unwind (abi_at m c (distance base c.general.rip) e None)
  no_tail h = ap (λ r. r >>= frame_at base m c e)
      (none_kept t base m e (Ok c.general) (tail_in base m c e) h)

  pub by_end : (a : Answer Context) (end : End) (r : Each Bool)
      → Some (a, end) ≡ ran_tail m (Ok c.general) (tail_in base m c e)
      → r ≡ is_end t base e end
      → (tail : Tail) × ((a ≡ ran m tail.parts c.general)
      × (of_entry t base m c (Some e)
      ≡ ((r >>= λ b. Ok (parts_if tail b)) >>= frame_at base m c e)))
  by_end a end r h k =
      let w = asked t base m e (Ok c.general) a end
      (tail_in base m c e) h in (
        w.0,
        (
          w.1.1.1,
          ap (λ x. x >>= frame_at base m c e)
              (kept_by t base e (tail_in base m c e) w.0 end r w.1.0
              w.1.1.0 k),
        ),
      )

  pub no_end : (a : Answer Context) (end : End)
      → Some (a, end) ≡ ran_tail m (Ok c.general) (tail_in base m c e)
      → Ok false ≡ is_end t base e end
      → of_entry t base m c (Some e) ≡ of_unwind (abi_at m c (distance base c.general.rip) e None)
  no_end a end h k = (by_end a end (Ok false) h k).1.1

  pub refused_end : (a : Answer Context) (end : End) (x : EntryErr)
      → Some (a, end) ≡ ran_tail m (Ok c.general) (tail_in base m c e)
      → Err x ≡ is_end t base e end → of_entry t base m c (Some e) ≡ Err x
  refused_end a end x h k = (by_end a end (Err x) h k).1.1

  pub at_end : (a : Answer Context) (end : End)
      → Some (a, end) ≡ ran_tail m (Ok c.general) (tail_in base m c e)
      → Ok true ≡ is_end t base e end
      → of_entry t base m c (Some e)
      ≡ of_unwind (found (establisher e.info c.general
      (distance e.range.begin (distance base c.general.rip))) None
      (a >>= λ g. popped_abi m (record c { general = g })))
  at_end a end h k =
      let w = by_end a end (Ok true) h k in
      w.1.1 ∙ ap (λ x. of_unwind (found (establisher e.info c.general
      (distance e.range.begin (distance base c.general.rip))) None
      (x >>= λ g. popped_abi m (record c { general = g })))) (sym w.1.0)

-- what is shown of an unwinding
pub shown_unwinding : (r : Answer AbiFrame) → of_unwind (shown r) ≡ shown_each (of_unwind r)
shown_unwinding (Ok f) = refl
shown_unwinding (Err e) = refl

pub ruleset ends = (no_tail, no_end, refused_end, at_end, shown_unwinding)
