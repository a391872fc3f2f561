-- The first states of entries in their bodies.
use Rattle.std.proofs.Common.{◌≡◌, ℕ, ◌+◌, List, [], ◌∷◌, ◌++◌, Option, Some, None, refl, sym, ap, subst, ◌∙◌, arith, inl, inr}
use Rattle.x64_machine.specs.Effect.{State}
use Rattle.eh_tables.specs.declared.range.RuntimeFunction.{RuntimeFunction}
use Rattle.eh_tables.specs.Infos.{Info}
use Rattle.flat_memory.specs.Memory.{Memory}
use Rattle.eh_tables.specs.Tables.{Entry}
use Rattle.virtual_unwind.specs.declared.tail.Role.TheVariants.{Other}
use Rattle.virtual_unwind.specs.Undone.{operations}
use Rattle.virtual_unwind.specs.Tail.{FetchedInstr, role_of}
use Rattle.frame_rules.specs.Codes.{depth}
use Rattle.frame_rules.specs.Prologue.{items}
use Rattle.frame_rules.specs.States.{RunsThrough, IsEntry}
use Rattle.frame_rules.specs.Rules.{FramedFunction, ops, IsRight}
use Rattle.unwind_check.specs.Fragments.{IsInPart}
use Rattle.unwind_check.specs.Laws.{IsFunctionOf, rest_of, parts_of, IsPast, Stands}
use Rattle.entry_states.specs.Laws.{EntriesBegin, FragmentsBegin}
use Rattle.entry_states.proofs.Parts.{parts_begin}

-- the state after a prologue, at the first instruction of a part
begun : (f : FramedFunction) (parts : List (List FetchedInstr)) (xs : List FetchedInstr)
    (e p : State) (item : FetchedInstr) (left : List FetchedInstr) → IsRight f
    → IsEntry (depth (ops f)) e → RunsThrough e (items f.steps) p → xs ≡ item ∷ left
    → role_of f.info.frame_register item.plain item.instr ≡ Other → IsInPart f parts xs e p 0
begun f parts xs e p item left right entry runs is other =
    inl (record {
      following = p;
      runs = runs;
      done = [];
      item = item;
      left = left;
      loaded = [];
      split = is;
      mode = refl;
      other = other;
      here = refl;
      in_body = parts_begin f parts e p right entry runs;
    })

past : (m : Memory) (es : List Entry) (entry owner : Entry) (f : FramedFunction) (e p : State)
    (item : FetchedInstr) (left : List FetchedInstr) → f.info ≡ owner.info → IsRight f
    → IsEntry (depth (operations owner.info.codes)) e → RunsThrough e (items f.steps) p
    → rest_of m entry ≡ item ∷ left → role_of f.info.frame_register item.plain item.instr ≡ Other
    → IsPast m es entry owner f e p (entry.info.prologue_size + 0)
past m es entry owner f e p item left same right entered runs is other =
    record {
      past = 0;
      distance = refl;
      state = begun f (parts_of m es owner) (rest_of m entry) e p item left right
          (subst (λ (i : Info). IsEntry (depth (operations i.codes)) e) (sym same) entered) runs is
          other;
    }

pub entries_begin : EntriesBegin
entries_begin m es entry f e p item left is none right entered runs rest other =
    record {
      owner = entry;
      function = f;
      is = is;
      entered = entered;
      stands = subst (Stands m es entry entry f e p (entry.info.prologue_size + 0)) (sym none)
          (refl, inr (past m es entry entry f e p item left is.info right entered runs rest other));
    }

pub fragments_begin : FragmentsBegin
fragments_begin m es entry owner f e p item left is chained there right entered runs rest other =
    record {
      owner = owner;
      function = f;
      is = is;
      entered = entered;
      stands = subst (Stands m es entry owner f e p (entry.info.prologue_size + 0)) (sym chained) (
        refl,
        there,
        past m es entry owner f e p item left is.info right entered runs rest other,
      );
    }
