-- The answer of a filter leads to the same on both sides.
use Rattle.std.proofs.Common.{◌≡◌, ◌⊎◌, inl, inr, ℕ, ◌%◌, ◌^◌, Bool, true, false, List, refl, ap, ◌∙◌, arith}
use Rattle.std.specs.Prelude.{nat_eq, nat_lt, nat_le, not, ◌==◌, ℤ, pos, ◌-ℤ◌, if◌then◌else◌}
use Rattle.std.proofs.lemmas.Bool.{leb-true, leb-false, le-ltb, lt-ltb}
use Rattle.match_stack.specs.Words.{W32, low, context_of, State, register, rsp, Functions, DispatchRecord, Funclet, with_event, Exception, LinearProgram, Handler, Resumption, Configuration, Next, pick, noncontinuable, StackItem, ImagePlan, Activation, half, limit, signed, Rax, is_search, eax, filter_returned, if_searching, by_answer, by_sign, continued, accept, raise, resumed, SearchIsAnswered, AnswersAs}
use Rattle.seh_num.specs.declared.event.Event.TheVariants as events
use Rattle.linear_machine.specs.Searching.{search}
use Rattle.match_stack.specs.FilterReturns.{filter_turn, with_answer, answered, linear_answer, AsksTheNext, AskedTakesOver, ContinuesException, IsRaisedAnew, FilterReturns}
use Rattle.match_stack.proofs.DispatchSteps.{answers_continue}

-- an answer is that of its low bits
signed_low : (x : ℕ) → signed W32 x ≡ signed W32 (low W32 x)
signed_low x = ap (λ n. if nat_lt n (half W32) then pos n else pos n -ℤ pos (limit W32))
    (let e : x % 2 ^ 32 ≡ x % 2 ^ 32 % 2 ^ 32 = omega arith in e)

module _ (t : Functions) (fs : List Funclet) (program : LinearProgram) (p : ImagePlan) (s : State)
    (r : DispatchRecord) (is : List StackItem) (acts : List Activation) (exception : Exception)
    (resumption : Resumption) (asked : Handler) (rest : List Handler) (c : Configuration)
    (h : SearchIsAnswered t fs program p s r is acts exception resumption asked rest c) where
  abbrev at : ℕ
  at = rsp (context_of s.cpu)

  abbrev v : ℕ
  v = eax s

  as_before : AnswersAs t fs program p s r is acts exception asked rest c
  as_before = answers_continue t fs program p s r is acts exception resumption asked rest c h

  -- the record is there, and the answer is shown
  shown : filter_turn t s ≡ with_answer s (by_answer t s at r v (v == 0))
  shown =
      ap (filter_returned t s at) h.on.is_there.stack.0.fetches
      ∙ ap (if_searching t s at r) (ap is_search h.on.is_there.linked.0.asks.kind)
      ∙ ap (λ (x : ℤ). with_event (events.Answer x) (by_answer t s at r v (v == 0)))
      (signed_low (register s.cpu Rax))

  -- EAX has 32 bits
  low_answer : low W32 v ≡ v
  low_answer = let x = register s.cpu Rax in let e : x % 2 ^ 32 % 2 ^ 32
      ≡ x % 2 ^ 32 = omega arith in e

  linear : (a b d : Bool) → nat_eq v 0 ≡ a → nat_lt v (2 ^ 31) ≡ b → exception.flag ≡ d
      → (next : Next)
      → linear_answer program s exception resumption asked rest c next
      ≡ pick a (search program next rest exception resumption (answered s c))
      (pick b (accept program asked exception next (answered s c))
      (pick d (raise program next noncontinuable resumption (answered s c))
      (next (resumed resumption (answered s c)))))
  linear a b d e f g next =
      ap (λ x. pick x (search program next rest exception resumption (answered s c))
      (pick (nat_lt (low W32 v) (2 ^ 31)) (accept program asked exception next (answered s c))
      (pick exception.flag (raise program next noncontinuable resumption (answered s c))
      (next (resumed resumption (answered s c)))))) (ap (λ n. nat_eq n 0) low_answer ∙ e)
      ∙ ap (λ x. pick a (search program next rest exception resumption (answered s c))
      (pick x (accept program asked exception next (answered s c))
      (pick exception.flag (raise program next noncontinuable resumption (answered s c))
      (next (resumed resumption (answered s c)))))) (ap (λ n. nat_lt n (2 ^ 31)) low_answer ∙ f)
      ∙ ap (λ x. pick a (search program next rest exception resumption (answered s c))
      (pick b (accept program asked exception next (answered s c))
      (pick x (raise program next noncontinuable resumption (answered s c))
      (next (resumed resumption (answered s c)))))) g

  asks_the_next : nat_eq v 0 ≡ true → AsksTheNext t program s r exception resumption asked rest c
  unfolding pick
  asks_the_next e = record {
    turns = shown ∙ ap (λ x. with_answer s (by_answer t s at r v x)) e;
    goes = λ next. linear true (nat_lt v (2 ^ 31)) exception.flag e refl refl next;
  }

  takes_over : nat_eq v 0 ≡ false → nat_le (2 ^ 31) v ≡ false
      → AskedTakesOver t fs program p s r is exception resumption asked rest c
  unfolding pick
  takes_over e f =
      let b = as_before in
      record {
        address = b.address;
        turns =
            shown
            ∙ ap (λ x. with_answer s (by_answer t s at r v x)) e
            ∙ ap (λ x. with_answer s (by_sign t s at r x)) f
            ∙ ap (with_answer s) b.takes_over;
        goes = λ next. linear false true exception.flag e
            (lt-ltb v (2 ^ 31) (leb-false (2 ^ 31) v f)) refl next;
        frame_small = b.frame_small;
        address_small = b.address_small;
        aimed = b.aimed;
      }

  below_zero : nat_eq v 0 ≡ false → nat_le (2 ^ 31) v ≡ true → (d : Bool) → exception.flag ≡ d
      → filter_turn t s ≡ with_answer s (continued t s at r (not d))
  below_zero e f d g =
      shown
      ∙ ap (λ x. with_answer s (by_answer t s at r v x)) e
      ∙ ap (λ x. with_answer s (by_sign t s at r x)) f
      ∙ ap (λ x. with_answer s (continued t s at r x))
      (h.on.is_there.linked.0.carries.flag ∙ ap not g)

  is_continued : nat_eq v 0 ≡ false → nat_le (2 ^ 31) v ≡ true → exception.flag ≡ false
      → ContinuesException t fs program p s r is acts exception resumption asked rest c
  unfolding pick
  is_continued e f g = record {
    turns = below_zero e f false g;
    goes = λ next. linear false false false e (le-ltb v (2 ^ 31) (leb-true (2 ^ 31) v f)) g next;
    on = record {
      is_there = record {
        stack = h.on.is_there.stack.1;
        linked = h.on.is_there.linked.1;
      };
      data_alone = h.on.data_alone;
    };
    well_formed = record {
      rip_small = h.on.is_there.linked.0.own.fits.rip;
      count = h.on.is_there.linked.0.own.fits.registers;
      small = h.on.is_there.linked.0.own.fits.registers_small;
      listed = h.well_formed.listed;
    };
    resumes = h.on.is_there.linked.0.resumes;
  }

  is_raised_anew : nat_eq v 0 ≡ false → nat_le (2 ^ 31) v ≡ true → exception.flag ≡ true
      → IsRaisedAnew t program s r exception resumption asked rest c
  unfolding pick
  is_raised_anew e f g = record {
    turns = below_zero e f true g;
    goes = λ next. linear false false true e (le-ltb v (2 ^ 31) (leb-true (2 ^ 31) v f)) g next;
  }

  abbrev Outcome : Type 0
  Outcome =
      AsksTheNext t program s r exception resumption asked rest c
      ⊎ (AskedTakesOver t fs program p s r is exception resumption asked rest c
      ⊎ (ContinuesException t fs program p s r is acts exception resumption asked rest c
      ⊎ IsRaisedAnew t program s r exception resumption asked rest c))

  by_flag : nat_eq v 0 ≡ false → nat_le (2 ^ 31) v ≡ true → (d : Bool) → exception.flag ≡ d
      → Outcome
  by_flag e f false g = inr (inr (inl (is_continued e f g)))
  by_flag e f true g = inr (inr (inr (is_raised_anew e f g)))

  by_half : nat_eq v 0 ≡ false → (b : Bool) → nat_le (2 ^ 31) v ≡ b → Outcome
  by_half e false f = inr (inl (takes_over e f))
  by_half e true f = by_flag e f exception.flag refl

  by_zero : (a : Bool) → nat_eq v 0 ≡ a → Outcome
  by_zero true e = inl (asks_the_next e)
  by_zero false e = by_half e (nat_le (2 ^ 31) v) refl

  pub returned : Outcome
  returned = by_zero (nat_eq v 0) refl

pub filter_returns : FilterReturns
filter_returns t fs program p s r is acts exception resumption asked rest c h = returned t fs
    program p s r is acts exception resumption asked rest c h
