-- A body goes on past its first instruction, by what the code knows there.
use Rattle.std.proofs.Common.{◌≡◌, ℕ, ◌+◌, ◌-◌, ◌<◌, Bool, true, false, List, [], ◌∷◌, Option, Some, None, Result, Ok, Err, refl, sym, ap, ◌∙◌}
use Rattle.flat_memory.specs.Memory.{Memory}
use Rattle.x64_instr.specs.declared.instruction.Instr.{Instr}
use Rattle.eh_tables.specs.Infos.{Info}
use Rattle.virtual_unwind.specs.Undone.{operations}
use Rattle.virtual_unwind.specs.Tail.{FetchedInstr, tail_at}
use Rattle.frame_rules.specs.Body.{written, restored_by, with_restored}
use Rattle.unwind_check.specs.declared.rule.Fault.{Fault}
use Rattle.unwind_check.specs.declared.rule.Rule.TheVariants.{Decode, StackWrite, Unsaved}
use Rattle.unwind_check.specs.Boundaries.{fault}
use Rattle.unwind_tails.specs.Instructions.{Decoded, between}
use Rattle.unwind_check.specs.Bodies.{keeps_stack, keeps_saved, body_from}
use Rattle.unwind_check.specs.Steps.{Known, HaveSame, shown, ShowsStep, body_between, known_or, load_or, plain_load, past_plain, past_rest, step_of}
use Rattle.unwind_tails.specs.Instructions.{HasFirst, HasNone}
use Rattle.unwind_tails.proofs.Decoding.{none_more, at_end}
use Rattle.unwind_check.proofs.SameLoads.{same_none}
use Rattle.unwind_check.proofs.Passing.{failing, going, starting, skipping}

-- from an address on there is the fault that there is in all, with these registers loaded
pub record IsAhead (m : Memory) (i : Info) (qs : List ℕ) (at to left : ℕ)
    (o : Option Fault) : Type 0 where
  pub loaded : List ℕ
  pub same : HaveSame qs loaded
  pub is : body_between m i at to loaded left ≡ o

abbrev of : Memory → Info → ℕ → List ℕ → ℕ → Decoded → Option Fault
of m i at loaded left d = body_from m i d.is_whole d.items at loaded left

module _ (m : Memory) (i : Info) (qs : List ℕ) (at to left : ℕ) (o : Option Fault)
    (a : IsAhead m i qs at to left o) where
  pub missing : HasNone m at to → (at < to) → fault at Decode ≡ o
  missing h lt = sym (ap (of m i at a.loaded left) (none_more m to at lt h)) ∙ a.is

  pub at_end_none : at ≡ to → None ≡ o
  at_end_none e = sym (ap (of m i at a.loaded left) (at_end m to at e)) ∙ a.is

  module _ (x : FetchedInstr) (h : HasFirst m at to x) where
    abbrev xs : List FetchedInstr
    xs = (between m (at + x.size) to).items

    abbrev whole : Bool
    whole = (between m (at + x.size) to).is_whole

    here : body_from m i whole (x ∷ xs) at a.loaded left ≡ o
    here = sym (ap (of m i at a.loaded left) h.others) ∙ a.is

    pub fails : (rs : List ℕ) (r : Result ℕ Fault) (f : Fault)
        → ShowsStep rs r (step_of m i at a.loaded x xs left) → r ≡ Err f → Some f ≡ o
    fails rs r f s e =
        sym (failing m i whole x xs at a.loaded left f (sym s.is ∙ ap (shown s.loaded) e)) ∙ here

    pub goes : (rs : List ℕ) (r : Result ℕ Fault) (k : ℕ)
        → ShowsStep rs r (step_of m i at a.loaded x xs left) → r ≡ Ok k
        → IsAhead m i rs (at + x.size) to k o
    goes rs r k s e = record {
      loaded = s.loaded;
      same = s.same;
      is = sym (going m i whole x xs at a.loaded left s.loaded k
          (sym s.is ∙ ap (shown s.loaded) e)) ∙ here;
    }

-- ---- an instruction outside epilogues

abbrev pub noted : List ℕ → Result (Option ℕ) Fault → Result Known Fault
noted rs (Ok o) = Ok (with_restored rs o, 0)
noted rs (Err f) = Err f

pub plain_noted : (i : Info) (at : ℕ) (rs : List ℕ) (x : FetchedInstr)
    → noted rs (plain_load i at x) ≡ past_plain i at rs x
plain_noted i at rs x = go
    (restored_by i.frame_register i.frame_offset (operations i.codes) x.instr)
    (keeps_saved (operations i.codes) (written x.instr))
    (keeps_stack i.frame_register (written x.instr))
  where
    go : (o : Option ℕ) (a b : Bool)
        → noted rs (load_or (load_or (Ok o) at Unsaved a) at StackWrite b)
        ≡ known_or (known_or (Ok (with_restored rs o, 0)) at Unsaved a) at StackWrite b
    go o true true = refl
    go o false true = refl
    go o true false = refl
    go o false false = refl

pub plain_failed : (i : Info) (at : ℕ) (rs : List ℕ) (x : FetchedInstr) (f : Fault)
    → (let r : Result (Option ℕ) Fault = Err f in r ≡ plain_load i at x)
    → (let s : Result Known Fault = Err f in s ≡ past_plain i at rs x)
plain_failed i at rs x f e = ap (noted rs) e ∙ plain_noted i at rs x

pub plain_passed : (i : Info) (at : ℕ) (qs rs : List ℕ) (x : FetchedInstr) (o : Option ℕ)
    → (let r : Result (Option ℕ) Fault = Ok o in r ≡ plain_load i at x)
    → HaveSame qs (with_restored rs o) → ShowsStep qs (Ok 0) (past_plain i at rs x)
plain_passed i at qs rs x o e h = record {
  loaded = with_restored rs o;
  same = h;
  is = ap (noted rs) e ∙ plain_noted i at rs x;
}

-- ---- what is known past an instruction

module _ (m : Memory) (i : Info) (at : ℕ) (x : FetchedInstr) (xs : List FetchedInstr) where
  -- inside an epilogue
  pub skipped : (qs rs : List ℕ) (left : ℕ) → 0 < left → qs ≡ []
      → ShowsStep qs (Ok (left - 1)) (step_of m i at rs x xs left)
  skipped qs rs left lt e = record {
    loaded = [];
    same = same_none qs e;
    is = sym (skipping m i at rs x xs left lt);
  }

  -- outside one
  pub rest_shown : (qs rs : List ℕ) (r : Result ℕ Fault) (left : ℕ) → left ≡ 0
      → ShowsStep qs r (past_rest i at rs x xs (tail_at i.frame_register m at))
      → ShowsStep qs r (step_of m i at rs x xs left)
  rest_shown qs rs r left e s = record {
    loaded = s.loaded;
    same = s.same;
    is = s.is ∙ sym (starting m i at rs x xs left e);
  }

  -- where no trailing part begins
  pub plain_shown : (qs rs : List ℕ) (r : Result ℕ Fault) (o : Option (List Instr)) → o ≡ None
      → ShowsStep qs r (past_plain i at rs x) → ShowsStep qs r (past_rest i at rs x xs o)
  plain_shown qs rs r o e s = record {
    loaded = s.loaded;
    same = s.same;
    is = s.is ∙ sym (ap (past_rest i at rs x xs) e);
  }

pub error_shown : (qs : List ℕ) (f : Fault) (s : Result Known Fault)
    → (let r : Result Known Fault = Err f in r ≡ s) → ShowsStep qs (Err f) s
error_shown qs f s e = record { loaded = qs; same = λ r. refl; is = e }

pub cleared_shown : (qs : List ℕ) (k j : ℕ) (s : Result Known Fault) → qs ≡ [] → k ≡ j
    → (let r : Result Known Fault = Ok ([], j) in r ≡ s) → ShowsStep qs (Ok k) s
cleared_shown qs k j s e n h = record {
  loaded = [];
  same = same_none qs e;
  is = ap (λ q. let r : Result Known Fault = Ok ([], q) in r) n ∙ h;
}
