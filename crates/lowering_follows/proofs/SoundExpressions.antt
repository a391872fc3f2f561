-- What is sound has numbers that mean something in linear code.
use Rattle.std.proofs.Common.{◌≡◌, ◌<◌, ℕ, zero, suc, ◌^◌, List, [], ◌∷◌, length, refl, sym, ap, subst, ◌∙◌, arith}
use Rattle.std.proofs.lemmas.Bool.{ltb-true}
use Rattle.std.specs.Prelude.{Bool, true, false, ◌&&◌, slice_get, Option, Some, None}
use Rattle.lowering_follows.specs.Words.{BuiltIn, Put, Protect, RaiseException, Walk, AddVectored, RemoveVectored, Operation, Pure, Size, Int, Long, Conversion, Expression, On, Node, Lvalue, Global, Stacked, Indirection, Element, Arguments, Done, Program, Function, are_sizes, TypingContext, is_number, size_after, unary_takes, takes, built_in_takes, constant_fits, amount_fits, change_fits, call_fits, is_pair_of_ints, can_handle, handler_fits, lvalue_size, argument_sizes, expression_sound, node_sound, lvalue_sound, arguments_sound, place_sound, is_constant, count_of, argument_count, ExpressionFits, LvalueFits, ArgumentsFit, NodeFits, IsCalled, IsVectoredHandler, BuiltInFits, IsStackedPlace, Local, Next}
use Rattle.c_operations.specs.declared.operation.Operation.TheVariants as operations
use Rattle.c_operations.specs.declared.operation.Pure.TheVariants as pures
use Rattle.c_checked.specs.Expression as nodes
use Rattle.c_checked.specs.Sound.{expression_size, is_size}

-- ---- tests of several parts

pub both_left : (a b : Bool) → (a && b) ≡ true → a ≡ true
both_left true b h = refl
both_left false b h = h

pub both_right : (a b : Bool) → (a && b) ≡ true → b ≡ true
both_right true b h = h
both_right false b h = absurd (cc)

-- ---- numbers and operations

small : (z : Size) (n : ℕ) → constant_fits z n ≡ true → n < 2 ^ 64
small Int n h = let l = ltb-true n (2 ^ 32) h in omega arith
small Long n h = ltb-true n (2 ^ 64) h

small_amount : (z : Option Size) (n : ℕ) → amount_fits z n ≡ true → n < 2 ^ 64
small_amount None n h = absurd (cc)
small_amount (Some z) n h = small z n h

pure_reads : (p : Pure) (a b : Option Size) → is_number (takes (operations.Pure p) a b) ≡ true
    → is_constant (operations.Pure p) ≡ false
pure_reads (pures.Constant n) a b h = absurd (cc)
pure_reads p a b h = refl

reads : (o : Operation) (a b : Option Size) → is_number (takes o a b) ≡ true → is_constant o ≡ false
reads (operations.Pure p) a b h = pure_reads p a b h
reads (operations.Allocate n) a b h = absurd (cc)
reads o a b h = refl

unary_reads : (p : Pure) (a : Option Size) → is_number (unary_takes p a) ≡ true
    → is_constant (operations.Pure p) ≡ false
unary_reads (pures.Constant n) a h = absurd (cc)
unary_reads p a h = refl

change_reads : (place : Option Size) (before : Conversion) (o : Operation) (amount : Option Size)
    (after : Conversion) → change_fits place before o amount after ≡ true → is_constant o ≡ false
change_reads place before o amount after h = reads o (size_after before place) amount
    (both_right _ _ (both_left _ _ (both_left _ _ h)))

-- ---- calls

counted : (s : TypingContext) (zs : List Size) (es : Arguments)
    → are_sizes zs (argument_sizes s es) ≡ true → argument_count es ≡ length zs
counted s [] Done h = refl
counted s [] (Next e es) h = absurd (cc)
counted s (z ∷ zs) Done h = absurd (cc)
counted s (z ∷ zs) (Next e es) h = ap suc (counted s zs es (both_right _ _ h))

built_in_count : (k : BuiltIn) → length (built_in_takes k) ≡ count_of k
built_in_count Put = refl
built_in_count Protect = refl
built_in_count RaiseException = refl
built_in_count Walk = refl
built_in_count (AddVectored f) = refl
built_in_count (RemoveVectored f) = refl

called : (program : Program) (s : TypingContext) (f : ℕ) (es : Arguments) (o : Option Function)
    → slice_get program.functions f ≡ o → call_fits o (argument_sizes s es) ≡ true
    → IsCalled program f (argument_count es)
called program s f es None e h = absurd (cc)
called program s f es (Some function) e h = record {
  function = function;
  there = e;
  takes = counted s function.parameters es h;
}

-- ---- vectored handlers

two_parameters : (zs : List Size) → is_pair_of_ints zs ≡ true → 2 ≡ length zs
two_parameters [] h = absurd (cc)
two_parameters (Long ∷ zs) h = absurd (cc)
two_parameters (Int ∷ []) h = absurd (cc)
two_parameters (Int ∷ Long ∷ zs) h = absurd (cc)
two_parameters (Int ∷ Int ∷ []) h = refl
two_parameters (Int ∷ Int ∷ z ∷ zs) h = absurd (cc)

vectored_handler : (program : Program) (f : ℕ) (o : Option Function)
    → slice_get program.functions f ≡ o → can_handle o ≡ true → IsVectoredHandler program f
vectored_handler program f None e h = absurd (cc)
vectored_handler program f (Some function) e h = record {
  called = record {
    function = function;
    there = e;
    takes = two_parameters function.parameters (both_left _ _ h);
  };
  handles = h;
}

built_in_fits : (program : Program) (k : BuiltIn) → handler_fits program.functions k ≡ true
    → BuiltInFits program k
built_in_fits program Put h = tt
built_in_fits program Protect h = tt
built_in_fits program RaiseException h = tt
built_in_fits program Walk h = tt
built_in_fits program (AddVectored f) h =
    vectored_handler program f (slice_get program.functions f) refl h
built_in_fits program (RemoveVectored f) h =
    vectored_handler program f (slice_get program.functions f) refl h

-- ---- places on the data stack

pub place_fits : (s : TypingContext) (own base offset : ℕ) → length s.sizes ≡ own
    → place_sound s base offset ≡ true → IsStackedPlace own base offset
place_fits s own base offset sizes h =
    let small = ltb-true offset (2 ^ 32) (both_right _ _ h) in
    record {
      is_local = subst (λ m. base < m) sizes (within s.sizes base (both_left _ _ h));
      small = omega arith;
    }
  where
    within : (zs : List Size) (x : ℕ) → is_size Long (slice_get zs x) ≡ true → x < length zs
    within [] x h = absurd (cc)
    within (z ∷ zs) zero h = omega arith
    within (z ∷ zs) (suc x) h = let l = within zs x h in omega arith

-- ---- expressions, where so many locals are, and where an exception's fields may be read or may
-- not

module _ (program : Program) (own : ℕ) (info : Bool) where
  pub record Knows (s : TypingContext) : Type 0 where
    pub functions : s.functions ≡ program.functions
    pub sizes : length s.sizes ≡ own
    pub information : s.information ≡ info

  module _ (s : TypingContext) (k : Knows s) where
    mutual
      pub expression_fits : (e : Expression) → expression_sound s e ≡ true
          → ExpressionFits program own info e
      expression_fits (On n c) h = node_fits n (both_left _ _ h)

      pub lvalue_fits : (p : Lvalue) → lvalue_sound s p ≡ true → LvalueFits program own info p
      lvalue_fits (Local x) h = subst (λ n. x < n) k.sizes (ltb-true x (length s.sizes) h)
      lvalue_fits (Global access a) h = ltb-true a (2 ^ 64) h
      lvalue_fits (Stacked access base offset) h = place_fits s own base offset k.sizes h
      lvalue_fits (Indirection access e) h = expression_fits e (both_left _ _ h)
      lvalue_fits (Element access e i) h = (
        expression_fits e
            (both_left _ _ (both_left _ _ (both_left _ _ h))),
        expression_fits i (both_right _ _ (both_left _ _ (both_left _ _ h))),
      )

      pub arguments_fit : (es : Arguments) → arguments_sound s es ≡ true
          → ArgumentsFit program own info es
      arguments_fit Done h = tt
      arguments_fit (Next e es) h = (
        expression_fits e (both_left _ _ h),
        arguments_fit es (both_right _ _ h),
      )

      node_fits : (n : Node) → node_sound s n ≡ true → NodeFits program own info n
      node_fits (nodes.Constant z n) h = small z n h
      node_fits (nodes.StackedArray base offset) h = place_fits s own base offset k.sizes h
      node_fits (nodes.Read p) h = lvalue_fits p h
      node_fits (nodes.AddressOf p) h = (lvalue_fits p (both_left _ _ h), both_right _ _ h)
      node_fits (nodes.Assign p e) h = (
        lvalue_fits p (both_left _ _ (both_left _ _ h)),
        expression_fits e (both_right _ _ (both_left _ _ h)),
      )
      node_fits (nodes.CompoundAssign p before o e after) h = (
        lvalue_fits p (both_left _ _ (both_left _ _ h)),
        expression_fits e (both_right _ _ (both_left _ _ h)),
        change_reads (lvalue_size s p) before o (expression_size s e) after (both_right _ _ h),
      )
      node_fits (nodes.Increment m p before o n after) h =
          let operand = size_after before (lvalue_size s p) in (
            lvalue_fits p (both_left _ _ (both_left _ _ h)),
            small_amount operand n (both_right _ _ h),
            change_reads (lvalue_size s p) before o operand after
                (both_right _ _ (both_left _ _ h)),
          )
      node_fits (nodes.Unary o e) h = (
        expression_fits e (both_left _ _ h),
        unary_reads o (expression_size s e) (both_right _ _ h),
      )
      node_fits (nodes.Binary o e f) h = (
        expression_fits e (both_left _ _ (both_left _ _ h)),
        expression_fits f (both_right _ _ (both_left _ _ h)),
        reads o (expression_size s e) (expression_size s f) (both_right _ _ h),
      )
      node_fits (nodes.PointerDifference n e f) h =
          let front = both_left _ _ (both_left _ _ (both_left _ _ h)) in
          let divisor = both_right _ _ h in (
            expression_fits e (both_left _ _ front),
            expression_fits f (both_right _ _ front),
            record {
              positive = ltb-true 0 n (both_left _ _ divisor);
              small = ltb-true n (2 ^ 63) (both_right _ _ divisor);
            },
          )
      node_fits (nodes.Not e) h = expression_fits e (both_left _ _ h)
      node_fits (nodes.And e f) h = (
        expression_fits e (both_left _ _ (both_left _ _ h)),
        expression_fits f (both_right _ _ (both_left _ _ h)),
      )
      node_fits (nodes.Or e f) h = (
        expression_fits e (both_left _ _ (both_left _ _ h)),
        expression_fits f (both_right _ _ (both_left _ _ h)),
      )
      node_fits (nodes.Conditional c e f) h =
          let front = both_left _ _ (both_left _ _ h) in (
            expression_fits c (both_left _ _ (both_left _ _ front)),
            expression_fits e (both_right _ _ (both_left _ _ front)),
            expression_fits f (both_right _ _ front),
          )
      node_fits (nodes.Comma e f) h = (
        expression_fits e (both_left _ _ h),
        expression_fits f (both_right _ _ h),
      )
      node_fits (nodes.Call f es) h =
          let fits = sym (ap (λ fs. call_fits (slice_get fs f) (argument_sizes s es)) k.functions)
          ∙ both_right _ _ h in (
            arguments_fit es (both_left _ _ h),
            called program s f es (slice_get program.functions f) refl fits,
          )
      node_fits (nodes.CallBuiltIn f es) h = (
        arguments_fit es (both_left _ _ (both_left _ _ h)),
        counted s (built_in_takes f) es (both_right _ _ (both_left _ _ h)) ∙ built_in_count f,
        built_in_fits program f
            (sym (ap (λ fs. handler_fits fs f) k.functions) ∙ both_right _ _ h),
      )
      node_fits nodes.ExceptionCode h = tt
      node_fits (nodes.Information f) h = sym k.information ∙ h
      node_fits nodes.AbnormalTermination h = tt
