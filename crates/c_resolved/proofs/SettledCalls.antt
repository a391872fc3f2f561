-- What a call is resolved to is good, or the call holds a fault.
use Rattle.std.proofs.Common.{◌≡◌, ℕ, refl, ap, sym, ◌∙◌, arith, ◌+◌, ◌≤◌}
use Rattle.std.proofs.lemmas.Bool.{eqb-true, and_parts}
use Rattle.std.specs.Prelude.{Bool, true, false, ◌&&◌, nat_eq, if◌then◌else◌, List, [], ◌∷◌, ◌++◌, length, map, slice_get, Option, Some, None}
use Rattle.c_resolved.specs.Words.{Size, Arguments, are_sizes, call_fits, CType, Fault, TypeClash, ArgCount, CodeOutsideFilter, AbnormalOutsideFinally, size_of, TypedNode, typed, int, Entity, UserFunction, BuiltInFunction, CodeFunction, AbnormalFunction, AddingFunction, RemovingFunction, NamedHandler, is_handler_type, handler_if, handler_named, no_handler, resolve_handler, handler_after, call_naming, call_with_handler, same_type, is_size, result_size, ResolvedExpression, Identifier, Names, FaultAt, fault_at, unsigned, Wanted, OfType, ZeroLiteral, built_in_wants, built_in_result, fits, passed, Argument, Passed, before, spoiled, pass, pass_all, faults_of, called, call_with, only_where, call, result_size}
use Rattle.c_resolved.proofs.Settings.{argument_sizes, arguments_sound, Setting}
use Rattle.c_operations.specs.declared.operation.Size.TheVariants as sizes
use Rattle.c_operations.specs.declared.built_in.BuiltIn.{BuiltIn}
use Rattle.c_operations.specs.declared.built_in.BuiltIn.TheVariants.{Put, Protect, RaiseException, Walk, AddVectored, RemoveVectored}
use Rattle.c_checked.specs.Expression as nodes
use Rattle.c_checked.specs.Program.{Function}
use Rattle.c_checked.specs.Sound as sound
use Rattle.c_checked.specs.Sound.{is_pair_of_ints, can_handle, handler_fits}
use Rattle.c_resolved.proofs.Conversions.{same_type_is}
use Rattle.c_resolved.proofs.SettledRules.{HasFault, fault_before, fault_after, FoundOr, IsSettled, given_that_settled, FunctionFits, MeaningFits, NamesFit}
use Rattle.c_resolved.proofs.TypeFacts.{can_become_scalar}
use Rattle.c_resolved.proofs.Operands.{IsGood, HasSize, and_true, typed_good, as_type_has, has_size}

-- ---- calls

abbrev wanted_size : Wanted → Size
wanted_size (OfType t) = size_of t
wanted_size ZeroLiteral = sizes.Int

passed_has : (S : Setting) (w : Wanted) (a : TypedNode) → IsGood S a → fits w a ≡ true
    → HasSize S (passed w a) (wanted_size w)
passed_has S (OfType t) a g h = as_type_has S a t g (can_become_scalar t a g.zero h).0
passed_has S ZeroLiteral a g h = as_type_has S a int g (g.zero h)

-- arguments of these sizes are passed, or there is a fault
abbrev PassedOr : Setting → List Size → Option Arguments → List FaultAt → Type 0
PassedOr S zs None fs = HasFault fs
PassedOr S zs (Some es) fs = (arguments_sound S es ≡ true)
    × (are_sizes zs (argument_sizes S es) ≡ true)

abbrev rest_of : Option Arguments → List FaultAt → Passed
rest_of o fs = record { found = o; faults = fs }

before_settled : (S : Setting) (e : nodes.Expression) (z : Size) (zs : List Size)
    (fs : List FaultAt) (o : Option Arguments) (gs : List FaultAt) → HasSize S e z
    → PassedOr S zs o gs
    → PassedOr S (z ∷ zs) (before fs e (rest_of o gs)).found (fs ++ gs)
before_settled S e z zs fs None gs h p = fault_after fs gs p
before_settled S e z zs fs (Some es) gs h p =
    (and_true h.sound p.0, and_true (has_size S e z h) p.1)

pass_settled : (S : Setting) (w : Wanted) (at : ℕ) (fs : List FaultAt) (o : Option TypedNode)
    (rest : Passed) (zs : List Size) → FoundOr S o fs → PassedOr S zs rest.found rest.faults
    → PassedOr S (wanted_size w ∷ zs) (pass w at fs o rest).found (pass w at fs o rest).faults
pass_settled S w at fs None rest zs g p = fault_before fs rest.faults g
pass_settled S w at fs (Some a) rest zs g p = by_fit (fits w a) refl
  where
    by_fit : (x : Bool) → fits w a ≡ x → PassedOr S (wanted_size w ∷ zs)
        (if x then before fs (passed w a) rest
        else spoiled (fs ++ fault_at at TypeClash) rest).found
        (if x then before fs (passed w a) rest
        else spoiled (fs ++ fault_at at TypeClash) rest).faults
    by_fit true e = before_settled S (passed w a) (wanted_size w) zs fs rest.found rest.faults
        (passed_has S w a g e) p
    by_fit false e = fault_before (fs ++ fault_at at TypeClash) rest.faults
        (fault_after fs (fault_at at TypeClash) tt)

-- a function that can be a vectored handler is found, or there is a fault
abbrev pub HandlerOr : Setting → Option ℕ → List FaultAt → Type 0
HandlerOr S None fs = HasFault fs
HandlerOr S (Some f) fs = can_handle (slice_get S.around.functions f) ≡ true

abbrev pub AllSettled : Setting → List Argument → Type 0
AllSettled S [] = Unit {0}
AllSettled S (a ∷ more) = IsSettled S a.resolved × HandlerOr S a.handler.found a.handler.faults
    × AllSettled S more

pass_all_settled : (S : Setting) (ws : List Wanted) (args : List Argument)
    → length ws ≤ length args → AllSettled S args
    → PassedOr S (map wanted_size ws) (pass_all ws args).found (pass_all ws args).faults
pass_all_settled S [] [] e g = (refl, refl)
pass_all_settled S [] (a ∷ more) e g = (refl, refl)
pass_all_settled S (w ∷ ws) [] e g = absurd (omega arith)
pass_all_settled S (w ∷ ws) (a ∷ more) e g =
    let enough : length ws ≤ length more = omega arith in
    pass_settled S w a.at a.resolved.faults a.resolved.found (pass_all ws more) (map wanted_size ws)
    g.0 (pass_all_settled S ws more enough g.2)

called_settled : (S : Setting) (t : CType) (make : Arguments → nodes.Node) (zs : List Size)
    (o : Option Arguments) (fs : List FaultAt) → PassedOr S zs o fs
    → ((es : Arguments) → arguments_sound S es ≡ true → are_sizes zs (argument_sizes S es) ≡ true
    → IsGood S (typed t (make es))) → IsSettled S (called t make (rest_of o fs))
called_settled S t make zs None fs p h = p
called_settled S t make zs (Some es) fs p h = h es p.0 p.1

call_with_settled : (S : Setting) (at : ℕ) (ws : List Wanted) (t : CType)
    (make : Arguments → nodes.Node) (args : List Argument) → AllSettled S args
    → ((es : Arguments) → arguments_sound S es ≡ true
    → are_sizes (map wanted_size ws) (argument_sizes S es) ≡ true → IsGood S (typed t (make es)))
    → IsSettled S (call_with at ws t make args)
call_with_settled S at ws t make args g h =
    given_that_settled S (nat_eq (length ws) (length args)) at ArgCount (faults_of args)
    (called t make (pass_all ws args)) λ e.
    let passed_all = pass_all ws args in
    let same : length ws ≡ length args = eqb-true (length ws) (length args) e in
    let enough : length ws ≤ length args = omega arith in
    called_settled S t make (map wanted_size ws) passed_all.found passed_all.faults
    (pass_all_settled S ws args enough g) h

wanted_types : (ps : List CType) → map wanted_size (map OfType ps) ≡ map size_of ps
wanted_types [] = refl
wanted_types (p ∷ ps) = ap (λ zs. size_of p ∷ zs) (wanted_types ps)

user_good : (S : Setting) (f : ℕ) (t : CType) (ps : List CType) (es : Arguments)
    → FunctionFits S.around.functions f t ps → arguments_sound S es ≡ true
    → are_sizes (map wanted_size (map OfType ps)) (argument_sizes S es) ≡ true
    → IsGood S (typed t (nodes.Call f es))
user_good S f t ps es fit p q =
    record {
      sound =
          and_true p
          (ap (λ o. call_fits o (argument_sizes S es)) fit.there
          ∙ ap (λ zs. are_sizes zs (argument_sizes S es)) (fit.takes ∙ sym (wanted_types ps))
          ∙ q);
      sized = ap sound.result_size fit.there ∙ fit.gives;
      zero = λ z. absurd (cc);
    }

built_in_good : (S : Setting) (k : BuiltIn) (es : Arguments)
    → handler_fits S.around.functions k ≡ true → arguments_sound S es ≡ true
    → are_sizes (map wanted_size (built_in_wants k)) (argument_sizes S es) ≡ true
    → IsGood S (typed (built_in_result k) (nodes.CallBuiltIn k es))
built_in_good S Put es fit p q = record {
  sound = and_true (and_true p q) fit;
  sized = refl;
  zero = λ z. absurd (cc);
}
built_in_good S Protect es fit p q = record {
  sound = and_true (and_true p q) fit;
  sized = refl;
  zero = λ z. absurd (cc);
}
built_in_good S RaiseException es fit p q = record {
  sound = and_true (and_true p q) fit;
  sized = refl;
  zero = λ z. absurd (cc);
}
built_in_good S Walk es fit p q = record {
  sound = and_true (and_true p q) fit;
  sized = refl;
  zero = λ z. absurd (cc);
}
built_in_good S (AddVectored f) es fit p q = record {
  sound = and_true (and_true p q) fit;
  sized = refl;
  zero = λ z. absurd (cc);
}
built_in_good S (RemoveVectored f) es fit p q = record {
  sound = and_true (and_true p q) fit;
  sized = refl;
  zero = λ z. absurd (cc);
}

-- a call that has a meaning in some places alone, whose node has no arguments
only_where_settled : (S : Setting) (b : Bool) (at : ℕ) (f : Fault) (ws : List Wanted)
    (t : CType) (n : nodes.Node) (args : List Argument) → AllSettled S args
    → (b ≡ true → IsGood S (typed t n))
    → IsSettled S (only_where b at f (call_with at ws t (λ es. n) args))
only_where_settled S b at f ws t n args g h =
    let r = call_with at ws t (λ es. n) args in
    given_that_settled S b at f r.faults r λ e. call_with_settled S at ws t (λ es. n) args g
    (λ es p q. h e)

-- ---- vectored handlers

-- the sizes of a function that can be a vectored handler
handler_sizes : (t : CType) (ps : List CType) → is_handler_type t ps ≡ true
    → (is_pair_of_ints (map size_of ps) ≡ true) × (is_size sizes.Int (result_size t) ≡ true)
handler_sizes t [] h = absurd (cc)
handler_sizes t (a ∷ []) h = absurd (cc)
handler_sizes t (a ∷ b ∷ []) h =
    let both = and_parts (same_type t int && same_type a unsigned) (same_type b unsigned) h in
    let first = and_parts (same_type t int) (same_type a unsigned) both.0 in (
      ap (λ u. is_pair_of_ints (size_of u ∷ size_of b ∷ [])) (same_type_is a unsigned first.1)
          ∙ ap (λ u. is_pair_of_ints (sizes.Int ∷ size_of u ∷ []))
          (same_type_is b unsigned both.1),
      ap (λ u. is_size sizes.Int (result_size u)) (same_type_is t int first.0),
    )
handler_sizes t (a ∷ b ∷ c ∷ more) h = absurd (cc)

function_handles : (fs : List Function) (f : ℕ) (t : CType) (ps : List CType)
    → FunctionFits fs f t ps → is_handler_type t ps ≡ true → can_handle (slice_get fs f) ≡ true
function_handles fs f t ps fit h =
    let sized = handler_sizes t ps h in
    ap can_handle fit.there
    ∙ and_true (ap is_pair_of_ints fit.takes ∙ sized.0) (ap (is_size sizes.Int) fit.gives ∙ sized.1)

handler_if_settled : (S : Setting) (at f : ℕ) (b : Bool)
    → (b ≡ true → can_handle (slice_get S.around.functions f) ≡ true)
    → HandlerOr S (handler_if at f b).found (handler_if at f b).faults
handler_if_settled S at f true h = h refl
handler_if_settled S at f false h = tt

named_settled : (S : Setting) (at name_at : ℕ) (e : Option Entity)
    → MeaningFits S.around.functions S.around.sizes S.layout e
    → HandlerOr S (handler_named at name_at e).found (handler_named at name_at e).faults
named_settled S at name_at (Some (UserFunction f t ps)) h = handler_if_settled S at f
    (is_handler_type t ps) (λ e. function_handles S.around.functions f t ps h e)
named_settled S at name_at other h = tt

no_name_settled : (S : Setting) (at : ℕ) (o : Option TypedNode) (fs : List FaultAt)
    → FoundOr S o fs
    → HasFault (no_handler at (record { found = o; faults = fs })).faults
no_name_settled S at None fs h = h
no_name_settled S at (Some t) fs h = fault_after fs (fault_at at TypeClash) tt

-- what an argument names as a vectored handler is one, or it holds a fault
pub handler_settled : (S : Setting) (s : Names) → NamesFit S s → (at : ℕ)
    (n : Option Identifier) (r : ResolvedExpression) → IsSettled S r
    → HandlerOr S (resolve_handler s at n r).found (resolve_handler s at n r).faults
handler_settled S s fit at (Some n) r h = named_settled S at n.start (s.entity n) (fit.entities n)
handler_settled S s fit at None r h = no_name_settled S at r.found r.faults h

handler_after_settled : (S : Setting) (ws : List Wanted) (args : List Argument)
    → length ws + 1 ≡ length args → AllSettled S args
    → HandlerOr S (handler_after ws args).found (handler_after ws args).faults
handler_after_settled S [] [] e g = absurd (omega arith)
handler_after_settled S (w ∷ ws) [] e g = absurd (omega arith)
handler_after_settled S [] (a ∷ more) e g = g.1
handler_after_settled S (w ∷ ws) (a ∷ more) e g =
    let same : length ws + 1 ≡ length more = omega arith in
    handler_after_settled S ws more same g.2

abbrev handler_of : Option ℕ → List FaultAt → NamedHandler
handler_of o fs = record { found = o; faults = fs }

naming_settled : (S : Setting) (make : ℕ → Arguments → nodes.Node) (zs : List Size)
    (o : Option Arguments) (fs : List FaultAt) (h : Option ℕ) (gs : List FaultAt)
    → PassedOr S zs o fs → HandlerOr S h gs
    → ((f : ℕ) (es : Arguments) → can_handle (slice_get S.around.functions f) ≡ true
    → arguments_sound S es ≡ true → are_sizes zs (argument_sizes S es) ≡ true
    → IsGood S (typed int (make f es)))
    → IsSettled S (call_naming make (rest_of o fs) (handler_of h gs))
naming_settled S make zs None fs h gs p k go = fault_before fs gs p
naming_settled S make zs (Some es) fs None gs p k go = fault_after fs gs k
naming_settled S make zs (Some es) fs (Some f) gs p k go = go f es k p.0 p.1

with_handler_settled : (S : Setting) (at : ℕ) (ws : List Wanted) (of : ℕ → BuiltIn)
    (args : List Argument) → AllSettled S args
    → ((f : ℕ) (es : Arguments) → can_handle (slice_get S.around.functions f) ≡ true
    → arguments_sound S es ≡ true
    → are_sizes (map wanted_size ws) (argument_sizes S es) ≡ true
    → IsGood S (typed int (nodes.CallBuiltIn (of f) es)))
    → IsSettled S (call_with_handler at ws of args)
with_handler_settled S at ws of args g go =
    let make : ℕ → Arguments → nodes.Node = λ f. nodes.CallBuiltIn (of f) in
    given_that_settled S (nat_eq (length ws + 1) (length args)) at ArgCount (faults_of args)
    (call_naming make (pass_all ws args) (handler_after ws args)) λ e.
    let same : length ws + 1 ≡ length args = eqb-true (length ws + 1) (length args) e in
    let enough : length ws ≤ length args = omega arith in
    let p = pass_all ws args in
    let h = handler_after ws args in
    naming_settled S make (map wanted_size ws) p.found p.faults h.found h.faults
    (pass_all_settled S ws args enough g) (handler_after_settled S ws args same g) go

pub call_settled : (S : Setting) (s : Names) → NamesFit S s
    → (at : ℕ) (e : Option Entity) (args : List Argument) → MeaningFits S.around.functions
    S.around.sizes S.layout e
    → AllSettled S args → IsSettled S (call s at e args)
call_settled S s fit at (Some (UserFunction f t ps)) args h g = call_with_settled S at
    (map OfType ps) t (nodes.Call f) args g (λ es p q. user_good S f t ps es h p q)
call_settled S s fit at (Some (BuiltInFunction k)) args h g = call_with_settled S at
    (built_in_wants k) (built_in_result k) (nodes.CallBuiltIn k) args g
    (λ es p q. built_in_good S k es h p q)
call_settled S s fit at (Some CodeFunction) args h g =
    only_where_settled S s.code at CodeOutsideFilter [] unsigned nodes.ExceptionCode args
    g λ e. typed_good S unsigned nodes.ExceptionCode refl (fit.code e) refl
call_settled S s fit at (Some AbnormalFunction) args h g =
    only_where_settled S s.abnormal at AbnormalOutsideFinally [] int nodes.AbnormalTermination args
    g λ e. typed_good S int nodes.AbnormalTermination refl (fit.abnormal e) refl
call_settled S s fit at (Some AddingFunction) args h g = with_handler_settled S at
    (OfType unsigned ∷ []) (λ f. AddVectored f) args g
    (λ f es can p q. built_in_good S (AddVectored f) es can p q)
call_settled S s fit at (Some RemovingFunction) args h g = with_handler_settled S at []
    (λ f. RemoveVectored f) args g (λ f es can p q. built_in_good S (RemoveVectored f) es can p q)
call_settled S s fit at other args h g = tt
