-- In each state of a function that is right its caller is found.
use Rattle.std.proofs.Common.{◌≡◌, ◌≢◌, ℕ, ◌+◌, ◌^◌, ◌<◌, ◌≤◌, Bool, true, false, leb, List, [], ◌∷◌, ◌++◌, Option, Ok, refl, sym, ap, subst, ◌∙◌, arith, inl, inr}
use Rattle.std.specs.Prelude.{◌⊎◌}
use Rattle.frame_rules.specs.Words.{Memory, may_read, Context, context_of, State, UnwindOperation, UnwindCode, Info, get, operations, Role, Opens, Restores, Ends, Other, FetchedInstr, found, base_if, sets_frame, run_or, run_by, unwound, are_allowed, Framed, Others, HoldsFrame, left_to, bytes, PrologueStep, items, codes_onto, ArePrologueSteps, registers, IsEntry, return_address, HasItems, FindsContext}
use Rattle.virtual_unwind.specs.Undone.{Answer}
use Rattle.frame_rules.proofs.Lemmas.{get-context}
use Rattle.frame_rules.proofs.Undoing.{undoing, framed_saved, saved_register, stack_depth}
use Rattle.frame_rules.proofs.Order.{Ordered, framed_above}
use Rattle.frame_rules.proofs.Words.{all_may}
use Rattle.frame_rules.proofs.Steps.{Running}
use Rattle.frame_rules.proofs.Prologues.{Good, good_rest, AtMost}

-- ---- registers of a context

pub others_context : (old : ℕ → ℕ) (s : State) (xs : List UnwindOperation)
    → Others old (registers s) xs → Others old (get (context_of s.cpu)) xs
others_context old s xs o r nv ne z = get-context s.cpu r nv ∙ o r nv ne z

pub framed_context : (f offset at : ℕ) (s : State) (xs : List UnwindOperation)
    → are_allowed f xs ≡ true → Framed f offset (registers s) at xs
    → Framed f offset (get (context_of s.cpu)) at xs
framed_context f offset at s xs a h = framed_saved f offset (registers s) (get (context_of s.cpu))
    at xs a (λ y. sym (get-context s.cpu f (saved_register f f xs a y).0)) h

-- ---- codes undone

-- the base is the RSP in hand
base_is : (i : Info) (old : ℕ → ℕ) (back : ℕ) (s : State) (xs : List UnwindOperation) (b : Bool)
    → i.frame_offset < 2 ^ 16 → old 4 < 2 ^ 47 → Ordered xs → are_allowed i.frame_register xs ≡ true
    → (b ≡ true → sets_frame xs ≡ true) → HoldsFrame i.frame_register i.frame_offset s.memory old
    back (registers s) xs xs → base_if i (context_of s.cpu) b ≡ registers s 4
base_is i old back s xs false small high o a set h = refl
base_is i old back s xs true small high o a set h =
    let framed = framed_above i.frame_register i.frame_offset (get (context_of s.cpu))
    (registers s 4) xs o (set refl) (framed_context i.frame_register i.frame_offset
    (registers s 4) s xs a h.framed) in
    let d = stack_depth s.memory old back (registers s 4) (registers s 4) xs h.stack in
    omega arith

unwound_is : (i : Info) (old : ℕ → ℕ) (back : ℕ) (s : State) (xs : List UnwindOperation)
    → i.frame_offset < 2 ^ 16 → old 4 < 2 ^ 47 → are_allowed i.frame_register xs ≡ true
    → HoldsFrame i.frame_register i.frame_offset s.memory old back (registers s) xs xs
    → unwound s.memory (registers s 4) i [] xs (context_of s.cpu) ≡ Ok (left_to old back)
unwound_is i old back s xs small high a h = undoing i s.memory (context_of s.cpu) (registers s 4)
    old back xs refl (omega arith) (omega arith) a h.stack
    (framed_context i.frame_register i.frame_offset (registers s 4) s xs a h.framed)
    (others_context old s xs h.others)

-- an answer found
pub finds : (frame : ℕ) (asked : Option Info) (a : Answer Context) (old : ℕ → ℕ) (back stack : ℕ)
    → a ≡ Ok (left_to old back) → stack ≤ old 4
    → FindsContext (found frame asked a) (left_to old back) stack
finds frame asked a old back stack e le = record {
  found = record { frame = frame; context = left_to old back; asked = asked };
  is = ap (found frame asked) e;
  context = refl;
  rises = omega arith;
}

pub based : (i : Info) (old : ℕ → ℕ) (back : ℕ) (s : State) (xs : List UnwindOperation) (b : Bool)
    (asked : Option Info) → i.frame_offset < 2 ^ 16 → old 4 < 2 ^ 47 → Ordered xs
    → are_allowed i.frame_register xs ≡ true → (b ≡ true → sets_frame xs ≡ true)
    → HoldsFrame i.frame_register i.frame_offset s.memory old back (registers s) xs xs
    → FindsContext (let base = base_if i (context_of s.cpu) b in
    found base asked (unwound s.memory base i [] xs (context_of s.cpu))) (left_to old back)
    (registers s 4)
based i old back s xs b asked small high o a set h =
    let d = stack_depth s.memory old back (registers s 4) (registers s 4) xs h.stack in
    subst (λ base. FindsContext (found base asked
    (unwound s.memory base i [] xs (context_of s.cpu))) (left_to old back) (registers s 4))
    (sym (base_is i old back s xs b small high o a set h))
    (finds (registers s 4) asked (unwound s.memory (registers s 4) i [] xs (context_of s.cpu)) old
    back (registers s 4) (unwound_is i old back s xs small high a h) (omega arith))

-- ---- the first state

pub first_running : (f offset : ℕ) (n : ℕ) (e : State) → IsEntry n e
    → Running f offset e (return_address e) [] e
first_running f offset n e h =
    let high = h.high in
    record {
      length = h.length;
      protection = refl;
      holds = record {
        stack = (
          refl,
          record {
            readable = all_may (may_read e.memory) 8 (registers e 4)
                (omega arith) h.readable;
            value = refl;
            high = omega arith;
          },
        );
        framed = tt;
        others = λ r nv ne z. refl;
      };
    }

-- ---- codes run

pub good_run : (f n d : ℕ) (codes : List UnwindCode) → Good f n (operations codes)
    → Good f n (operations (run_by d codes))
good_run f n d [] g = g
good_run f n d (c ∷ cs) g = go (leb c.offset d)
    (good_run f n d cs (good_rest f n c.operation (operations cs) g))
  where
    go : (b : Bool) → Good f n (operations (run_by d cs))
        → Good f n (operations (run_or (c ∷ cs) (run_by d cs) b))
    go true r = g
    go false r = r

pub bytes-append : (xs ys : List FetchedInstr) → bytes (xs ++ ys) ≡ bytes xs + bytes ys
bytes-append [] ys = omega arith
bytes-append (x ∷ xs) ys = let e = bytes-append xs ys in omega arith

pub at_end : (f offset at : ℕ) (done : List UnwindCode) (ss : List PrologueStep)
    → ArePrologueSteps f offset at ss → AtMost at done
    → AtMost (at + bytes (items ss)) (codes_onto done ss)
at_end f offset at done [] h m = subst (λ k. AtMost k done) (let e : at ≡ at + 0 = omega arith in e)
    m
at_end f offset at done (s ∷ ss) h m =
    let e = bytes-append s.items (items ss) in
    subst (λ k. AtMost k (codes_onto (s.code ∷ done) ss))
    (let z : at + bytes s.items + bytes (items ss)
    ≡ at + bytes (s.items ++ items ss) = omega arith in z)
    (at_end f offset (at + bytes s.items) (s.code ∷ done) ss h.1
    (let end = h.0.ends in omega arith))

pub items_split : (m : Memory) (at : ℕ) (xs ys : List FetchedInstr) (to : ℕ)
    → HasItems m at (xs ++ ys) to → HasItems m (at + bytes xs) ys to
items_split m at [] ys to h = subst (λ a. HasItems m a ys to)
    (let e : at ≡ at + 0 = omega arith in e) h
items_split m at (x ∷ xs) ys to h = subst (λ a. HasItems m a ys to)
    (let e : at + x.size + bytes xs ≡ at + (x.size + bytes xs) = omega arith in e)
    (items_split m (at + x.size) xs ys to h.2)

pub other_or_not : (r : Role) → (r ≡ Other) ⊎ (r ≢ Other)
other_or_not Other = inl refl
other_or_not Opens = inr (λ e. cc)
other_or_not Restores = inr (λ e. cc)
other_or_not Ends = inr (λ e. cc)
