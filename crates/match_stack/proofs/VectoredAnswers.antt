-- The answer of a vectored handler leads to the same on both sides.
use Rattle.std.proofs.Common.{◌≡◌, ◌⊎◌, inl, inr, ℕ, ◌+◌, ◌%◌, ◌^◌, Bool, true, false, List, ◌∷◌, refl, ap, ◌∙◌, arith}
use Rattle.std.specs.Prelude.{nat_lt, nat_le, not}
use Rattle.std.proofs.lemmas.Bool.{leb-true, leb-false, le-ltb, lt-ltb}
use Rattle.match_stack.specs.Words.{W32, low, context_of, State, register, rsp, Functions, DispatchRecord, RecordFits, is_vectored, Rax, Funclet, Exception, LinearProgram, Resumption, Waits, Configuration, Next, pick, noncontinuable, StackItem, ImagePlan, Activation, On, RecordHasRoom, eax, vectored_returned, if_vectored, by_vectored_answer, continued, ask_from, raise, resumed, vectored_turn, at_next, linear_vectored, HandlerHasAnswered, AsksOn, ContinuesSaved, AsksAnew, HandlerReturned, VectoredReturns}
use Rattle.match_stack.proofs.DispatchSteps.{fits_again}

module _ (t : Functions) (fs : List Funclet) (program : LinearProgram) (p : ImagePlan) (s : State)
    (r : DispatchRecord) (is : List StackItem) (acts : List Activation) (exception : Exception)
    (resumption : Resumption) (place : ℕ) (c : Configuration)
    (h : HandlerHasAnswered t fs program p s r is acts exception resumption place c) where
  abbrev at : ℕ
  at = rsp (context_of s.cpu)

  abbrev v : ℕ
  v = eax s

  -- the record is there
  there : vectored_turn t s ≡ by_vectored_answer t s at r (nat_le (2 ^ 31) v)
  there = ap (vectored_returned t s at) h.on.is_there.stack.0.fetches
      ∙ ap (λ k. if_vectored t s at r (is_vectored k)) h.on.is_there.linked.0.asks.kind

  -- EAX has 32 bits
  low_answer : low W32 v ≡ v
  low_answer = let x = register s.cpu Rax in let e : x % 2 ^ 32 % 2 ^ 32
      ≡ x % 2 ^ 32 = omega arith in e

  linear : (b d : Bool) → nat_lt v (2 ^ 31) ≡ b → exception.flag ≡ d → (next : Next)
      → linear_vectored program s exception resumption place c next
      ≡ pick b (ask_from program next (place + 1) exception resumption c)
      (pick d (raise program next noncontinuable resumption c) (next (resumed resumption c)))
  linear b d f g next =
      ap (λ x. pick x (ask_from program next (place + 1) exception resumption c)
      (pick exception.flag (raise program next noncontinuable resumption c)
      (next (resumed resumption c)))) (ap (λ n. nat_lt n (2 ^ 31)) low_answer ∙ f)
      ∙ ap (λ x. pick b (ask_from program next (place + 1) exception resumption c)
      (pick x (raise program next noncontinuable resumption c) (next (resumed resumption c)))) g

  outer : On t fs program p s.memory (context_of r.saved) is (Waits c.frame ∷ c.below) acts
  outer = record {
    is_there = record {
      stack = h.on.is_there.stack.1;
      linked = h.on.is_there.linked.1;
    };
    data_alone = h.on.data_alone;
  }

  room_with : (new : DispatchRecord) → RecordFits new → RecordHasRoom s.memory at new
      (rsp (context_of r.saved))
  room_with new fits = record {
    fits = fits;
    below = h.on.is_there.stack.0.above;
    small = h.on.is_there.stack.0.small;
    room = h.on.is_there.linked.0.own.room;
  }

  fits_next : RecordFits (at_next r)
  fits_next =
      let f = h.on.is_there.linked.0.own.fits in
      let row : r.row ≡ place = h.on.is_there.linked.0.asks.row in
      let few = h.small in
      record {
        frame = f.frame;
        row = omega arith;
        target_frame = f.target_frame;
        target = f.target;
        code = f.code;
        flags = f.flags;
        count = f.count;
        rip = f.rip;
        walk_rip = f.walk_rip;
        parameters = f.parameters;
        registers = f.registers;
        kept = f.kept;
        parameters_small = f.parameters_small;
        registers_small = f.registers_small;
        kept_small = f.kept_small;
      }

  asks_on_after : nat_le (2 ^ 31) v ≡ false
      → AsksOn t fs program p s r is acts exception resumption place c
  unfolding pick
  asks_on_after f =
      let w = h.on.is_there.linked.0 in
      record {
        turns = there ∙ ap (by_vectored_answer t s at r) f;
        goes = λ next. linear true exception.flag (lt-ltb v (2 ^ 31) (leb-false (2 ^ 31) v f)) refl
            next;
        asking = record {
          gives = h.gives;
          well_formed = h.well_formed;
          handlers = h.handlers;
          on = outer;
          kind = w.asks.kind;
          room = room_with (at_next r) fits_next;
          carries = record {
            code = w.carries.code;
            flag = w.carries.flag;
            one_flag = w.carries.one_flag;
            count = w.carries.count;
            parameters = w.carries.parameters;
          };
          row = ap (λ k. k + 1) w.asks.row;
          walk = w.asks.walk;
          near = w.near;
        };
      }

  below_zero : nat_le (2 ^ 31) v ≡ true → (d : Bool) → exception.flag ≡ d
      → vectored_turn t s ≡ continued t s at r (not d)
  below_zero f d g = there ∙ ap (by_vectored_answer t s at r) f
      ∙ ap (continued t s at r) (h.on.is_there.linked.0.carries.flag ∙ ap not g)

  is_continued : nat_le (2 ^ 31) v ≡ true → exception.flag ≡ false
      → ContinuesSaved t fs program p s r is acts exception resumption place c
  unfolding pick
  is_continued f g = record {
    turns = below_zero f false g;
    goes = λ next. linear false false (le-ltb v (2 ^ 31) (leb-true (2 ^ 31) v f)) g next;
    on = outer;
    well_formed = record {
      rip_small = h.on.is_there.linked.0.own.fits.rip;
      count = h.on.is_there.linked.0.own.fits.registers;
      small = h.on.is_there.linked.0.own.fits.registers_small;
      listed = h.well_formed.listed;
    };
  }

  is_raised_anew : nat_le (2 ^ 31) v ≡ true → exception.flag ≡ true
      → AsksAnew t fs program p s r is acts exception resumption place c
  unfolding pick
  is_raised_anew f g = record {
    turns = below_zero f true g;
    goes = λ next. linear false true (le-ltb v (2 ^ 31) (leb-true (2 ^ 31) v f)) g next;
    asking = record {
      gives = h.gives;
      well_formed = h.well_formed;
      handlers = h.handlers;
      on = outer;
      kind = refl;
      room = room_with _ (fits_again r h.on.is_there.linked.0.own.fits);
      carries = record {
        code = refl;
        flag = refl;
        one_flag = omega arith;
        count = refl;
        parameters = refl;
      };
      row = refl;
      walk = refl;
      near = h.on.is_there.linked.0.near;
    };
  }

  pub handler_returned : HandlerReturned t fs program p s r is acts exception resumption place c
  handler_returned = record {
    resumes = h.on.is_there.linked.0.resumes;
    by_answer = by_half (nat_le (2 ^ 31) v) refl;
  }
    where
      by_flag : nat_le (2 ^ 31) v ≡ true → (d : Bool) → exception.flag ≡ d
          → ContinuesSaved t fs program p s r is acts exception resumption place c
          ⊎ AsksAnew t fs program p s r is acts exception resumption place c
      by_flag f false g = inl (is_continued f g)
      by_flag f true g = inr (is_raised_anew f g)

      by_half : (b : Bool) → nat_le (2 ^ 31) v ≡ b
          → AsksOn t fs program p s r is acts exception resumption place c
          ⊎ (ContinuesSaved t fs program p s r is acts exception resumption place c
          ⊎ AsksAnew t fs program p s r is acts exception resumption place c)
      by_half false f = inl (asks_on_after f)
      by_half true f = inr (by_flag f exception.flag refl)

pub vectored_returns : VectoredReturns
vectored_returns t fs program p s r is acts exception resumption place c h =
    handler_returned t fs program p s r is acts exception resumption place c h
