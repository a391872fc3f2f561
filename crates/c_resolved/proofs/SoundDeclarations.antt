-- What declarations without faults are resolved to is sound.
use Rattle.std.proofs.Common.{◌≡◌, ℕ, refl, ◌+◌, ◌*◌, ◌^◌, ◌<◌, arith, ap, sym, subst, ◌∙◌}
use Rattle.std.proofs.lemmas.Bool.{and_parts, lt-ltb}
use Rattle.std.proofs.lemmas.Option.{slice_get_within}
use Rattle.std.specs.Prelude.{Bool, true, false, not, List, [], ◌∷◌, ◌++◌, length, slice_get, Option, Some, None, zero, suc, if◌then◌else◌}
use Rattle.c_resolved.specs.Words.{Size, Base, CType, Expression, start, Local, ForInitialiser, Declaring, Evaluating, Fault, Duplicate, TypeClash, is_integer, is_scalar, size_of, TypedNode, int, as_is, can_become, Entity, Names, FaultAt, ResolvedExpression, resolve_expression, result_size, Scope, same_bytes, spelled, meaning_in, built_ins, Reach, Nowhere, Beyond, Near, Environment, Numbering, ResolvedStatements, names_at, filter_names, unless_holds, any, condition, to_type, to_answer, optional, is_taken, with_name, declare, declare_all, follow, only, names_only, ResolvedForInitialiser, resolve_for_initialiser, Layout, Variable, Place, place_of, place_optional, stacked_at, stored_bytes, elements_of, variable_of, local_entity, local_value, without_initialiser, length_faults, Length, Width, W8, bytes_of, bytes_in, width_of}
use Rattle.c_resolved.proofs.Settings.{Inside, expression_size, expression_sound, optional_sound, condition_sound, test_sound, value_fits, declared_sound, all_declared_sound, statement_sound, statements_sound, Setting, scope_in}
use Rattle.c_operations.specs.declared.operation.Size.TheVariants as sizes
use Rattle.c_checked.specs.Program.{Function}
use Rattle.c_checked.specs.Statement as checked
use Rattle.c_checked.specs.Sound as sound
use Rattle.c_resolved.proofs.TypeFacts.{integer_scalar, can_become_scalar}
use Rattle.c_resolved.proofs.Operands.{HasSize, and_true, as_is_has, as_type_has, as_is_sound, has_number, alike_sizes}
use Rattle.c_resolved.proofs.SettledRules.{no_fault, FoundOr, EntityFits, MeaningFits, NamesFit, PlaceFits}
use Rattle.c_resolved.proofs.ResolvedExpressions.{settled}
use Rattle.c_resolved.proofs.Numbers.{IsFront, front_through, front_get, if_both, declare_all_counted, Grows, front_has, front_itself}

-- ---- no faults

pub none_in_both : (xs ys : List FaultAt) → xs ++ ys ≡ [] → (xs ≡ []) × (ys ≡ [])
none_in_both [] ys h = (refl, h)
none_in_both (x ∷ xs) ys h = absurd (cc)

pub holds : (b : Bool) (at : ℕ) (f : Fault) → unless_holds b at f ≡ [] → b ≡ true
holds true at f h = refl
holds false at f h = absurd (cc)

-- ---- where variables stand

-- a part of a function's numbering: its sizes are the first, and the layout has its variables
abbrev pub Reaches : Numbering → List Size → Layout → Type 0
Reaches n zs layout = IsFront n.sizes zs × (length n.sizes ≡ length n.variables)
    × ((x : ℕ) (v : Variable) → slice_get n.variables x ≡ Some v
    → PlaceFits zs layout.base v.of v.elements (place_of layout x))

pub reaches_through : (n p : Numbering) (zs : List Size) (layout : Layout) → Grows n p
    → Reaches p zs layout → Reaches n zs layout
reaches_through n p zs layout g r = (
  front_through n.sizes p.sizes zs g.0 r.0,
  omega (arith, g.2, r.1),
  λ x v h. r.2 x v (front_has n.variables p.variables x v g.1 h),
)

-- ---- names

-- each name means what fits
abbrev pub ScopeFits : List Function → List Size → Layout → Scope → Type 0
ScopeFits fs zs layout [] = Unit {0}
ScopeFits fs zs layout (x ∷ rest) = EntityFits fs zs layout x.1 × ScopeFits fs zs layout rest

pub fits_append : (fs : List Function) (zs : List Size) (layout : Layout) (a b : Scope) → ScopeFits
    fs zs layout a
    → ScopeFits fs zs layout b → ScopeFits fs zs layout (a ++ b)
fits_append fs zs layout [] b h k = k
fits_append fs zs layout (x ∷ a) b h k = (h.0, fits_append fs zs layout a b h.1 k)

built_ins_fit : (fs : List Function) (zs : List Size) (layout : Layout) → ScopeFits fs zs layout
    built_ins
built_ins_fit fs zs layout =
    (refl, (refl, (refl, (refl, (tt, (tt, (tt, (tt, (tt, (tt, (tt, tt)))))))))))

pub meaning_fits : (fs : List Function) (zs : List Size) (layout : Layout) (scope : Scope)
    → ScopeFits fs zs layout scope
    → (name : List ℕ) → MeaningFits fs zs layout (meaning_in scope name)
meaning_fits fs zs layout [] h name = tt
meaning_fits fs zs layout (x ∷ rest) h name = if_both (MeaningFits fs zs layout)
    (same_bytes x.0 name) (Some x.1)
    (meaning_in rest name) (λ e. h.0) (λ e. meaning_fits fs zs layout rest h.1 name)

pub with_name_fits : (fs : List Function) (zs : List Size) (layout : Layout) (block : Scope)
    (name : List ℕ)
    (e : Entity) → ScopeFits fs zs layout block → EntityFits fs zs layout e
    → ScopeFits fs zs layout (with_name block name e)
with_name_fits fs zs layout block name e h k = if_both (ScopeFits fs zs layout)
    (is_taken block name) block
    ((name, e) ∷ block) (λ t. h) (λ t. (k, h))

-- ---- where a statement is

abbrev pub is_near : Reach → Bool
is_near Nowhere = false
is_near Beyond = false
is_near Near = true

abbrev pub around_of : List Function → List Size → Environment → sound.TypingContext
around_of fs zs a = record {
  functions = fs;
  sizes = zs;
  code = a.code;
  information = false;
  abnormal = a.abnormal;
}

abbrev pub scope_of : List Function → List Size → Layout → Environment → Setting
scope_of fs zs layout a = record { around = around_of fs zs a; layout = layout }

-- what is around a statement of the checked program
abbrev pub inside_of : List Function → List Size → Layout → Environment → Inside
inside_of fs zs layout a = record {
  inside = record {
    scope = around_of fs zs a;
    returns = result_size a.returns;
    loop = is_near a.loop;
    body = is_near a.body;
    function = is_near a.function;
  };
  layout = layout;
}

abbrev pub filter_scope : List Function → List Size → Layout → Environment → Setting
filter_scope fs zs layout a = record {
  around = record (around_of fs zs a) { code = true; information = true };
  layout = layout;
}

pub names_fit : (fs : List Function) (zs : List Size) (layout : Layout) (a : Environment)
    (block : Scope)
    → ScopeFits fs zs layout block → ScopeFits fs zs layout a.outer
    → NamesFit (scope_of fs zs layout a) (names_at a block)
names_fit fs zs layout a block h k =
    record {
      entities = λ n. meaning_fits fs zs layout (built_ins ++ block ++ a.outer)
          (fits_append fs zs layout (built_ins ++ block) a.outer
          (fits_append fs zs layout built_ins block (built_ins_fit fs zs layout) h) k)
          (spelled a.text n);
      code = λ c. c;
      information = λ c. c;
      abnormal = λ c. c;
    }

pub filter_names_fit : (fs : List Function) (zs : List Size) (layout : Layout) (a : Environment)
    (block : Scope)
    → ScopeFits fs zs layout block → ScopeFits fs zs layout a.outer
    → NamesFit (filter_scope fs zs layout a) (filter_names a block)
filter_names_fit fs zs layout a block h k = record {
  entities = (names_fit fs zs layout a block h k).entities;
  code = λ c. refl;
  information = λ c. refl;
  abnormal = λ c. c;
}

-- ---- values

abbrev pub expression_of : Option TypedNode → List FaultAt → ResolvedExpression
expression_of o fs = record { found = o; faults = fs }

any_sound : (S : Setting) (o : Option TypedNode) (fs : List FaultAt) → FoundOr S o fs
    → (any (expression_of o fs)).faults ≡ [] → expression_sound S (any (expression_of o fs)).value
    ≡ true
any_sound S None fs g e = absurd (no_fault fs e g)
any_sound S (Some t) fs g e = as_is_sound S t g

pub condition_holds : (S : Setting) (at : ℕ) (o : Option TypedNode) (fs : List FaultAt)
    → FoundOr S o fs → (condition at (expression_of o fs)).faults ≡ []
    → condition_sound S (condition at (expression_of o fs)).value ≡ true
condition_holds S at None fs g e = absurd (no_fault fs e g)
condition_holds S at (Some t) fs g e =
    let p = as_is_has S t g (holds (is_scalar t.type) at TypeClash (none_in_both fs _ e).1) in
    and_true p.sound (has_number S (as_is t) (size_of t.type) p)

-- a value of a type, which has values
pub to_type_has : (S : Setting) (type : CType) (at : ℕ) (o : Option TypedNode)
    (fs : List FaultAt) → FoundOr S o fs → (to_type type at (expression_of o fs)).faults ≡ []
    → HasSize S (to_type type at (expression_of o fs)).value (size_of type)
    × (is_scalar type ≡ true)
to_type_has S type at None fs g e = absurd (no_fault fs e g)
to_type_has S type at (Some t) fs g e =
    let s = can_become_scalar type t g.zero (holds (can_become type t) at TypeClash
    (none_in_both fs _ e).1) in
    (as_type_has S t type g s.0, s.1)

pub to_answer_has : (S : Setting) (at : ℕ) (o : Option TypedNode) (fs : List FaultAt)
    → FoundOr S o fs → (to_answer at (expression_of o fs)).faults ≡ []
    → HasSize S (to_answer at (expression_of o fs)).value sizes.Int
to_answer_has S at None fs g e = absurd (no_fault fs e g)
to_answer_has S at (Some t) fs g e = as_type_has S t int g
    (integer_scalar t.type (holds (is_integer t.type) at TypeClash (none_in_both fs _ e).1))

pub optional_any : (S : Setting) (s : Names) → NamesFit S s → (o : Option Expression)
    → (optional (λ e. any (resolve_expression s e)) o).faults ≡ []
    → optional_sound S (optional (λ e. any (resolve_expression s e)) o).value ≡ true
optional_any S s fit None h = refl
optional_any S s fit (Some e) h = let j = resolve_expression s e in
    any_sound S j.found j.faults (settled S s fit e) h

pub optional_condition : (S : Setting) (s : Names) → NamesFit S s
    → (at : ℕ) (o : Option Expression) → (optional (λ e. condition at (resolve_expression s e))
    o).faults ≡ []
    → test_sound S (optional (λ e. condition at (resolve_expression s e)) o).value ≡ true
optional_condition S s fit at None h = refl
optional_condition S s fit at (Some e) h = let j = resolve_expression s e in
    condition_holds S at j.found j.faults (settled S s fit e) h

optional_value : (S : Setting) (s : Names) → NamesFit S s
    → (type : CType) (size : Option Size) → size ≡ Some (size_of type) → (o : Option Expression)
    → (optional (λ e. to_type type (start e) (resolve_expression s e)) o).faults ≡ []
    → value_fits S size (optional (λ e. to_type type (start e) (resolve_expression s e)) o).value
    ≡ true
optional_value S s fit type size same None h = refl
optional_value S s fit type size same (Some e) h =
    let j = resolve_expression s e in
    let v = (to_type_has S type (start e) j.found j.faults (settled S s fit e) h).0 in
    and_true v.sound (alike_sizes (expression_size S (to_type type (start e) j).value) size
    (size_of type) v.size same)

-- ---- what is done of statements

-- it is sound, and the names of the block after it fit
pub record Resolves (fs : List Function) (zs : List Size) (layout : Layout) (a : Environment)
    (m : ResolvedStatements) : Type 0 where
  pub sound : statements_sound (inside_of fs zs layout a) (checked.statements m.done) ≡ true
  pub block : ScopeFits fs zs layout m.block

sound_append : (i : Inside) (xs ys : List checked.Statement)
    → statements_sound i (checked.statements xs) ≡ true
    → statements_sound i (checked.statements ys) ≡ true
    → statements_sound i (checked.statements (xs ++ ys)) ≡ true
sound_append i [] ys h k = k
sound_append i (x ∷ xs) ys h k =
    let p = and_parts (statement_sound i x) (statements_sound i (checked.statements xs)) h in
    and_true p.0 (sound_append i xs ys p.1 k)

pub follow_resolves : (fs : List Function) (zs : List Size) (layout : Layout) (a : Environment)
    (m next : ResolvedStatements) → Resolves fs zs layout a m → Resolves fs zs layout a next
    → Resolves fs zs layout a (follow m next)
follow_resolves fs zs layout a m next p q = record {
  sound = sound_append (inside_of fs zs layout a) m.done
      next.done p.sound q.sound;
  block = q.block;
}

pub only_sound : (i : Inside) (ss : List checked.Statement)
    → statements_sound i (checked.statements ss) ≡ true → statement_sound i (only ss) ≡ true
only_sound i [] h = refl
only_sound i (s ∷ ss) h = (and_parts (statement_sound i s)
    (statements_sound i (checked.statements ss)) h).0

-- ---- declarations

-- what a name of a local means fits
local_fits : (fs : List Function) (zs : List Size) (layout : Layout) (x : ℕ) (t : CType)
    (length : Option Length) → slice_get zs x ≡ Some (size_of t) → is_scalar t ≡ true
    → PlaceFits zs layout.base t (elements_of length) (place_of layout x)
    → EntityFits fs zs layout (local_entity x t length)
local_fits fs zs layout x t None size scalar place = (size, place, scalar)
local_fits fs zs layout x t (Some n) size scalar place = (n.value, place)

-- its value fits, and an array has none
local_value_fits : (S : Setting) (s : Names) → NamesFit S s
    → (t : CType) (size : Option Size) → size ≡ Some (size_of t)
    → (length : Option Length) (e : Option Expression) → (local_value s t length e).faults ≡ []
    → value_fits S size (local_value s t length e).value ≡ true
local_value_fits S s fit t size same None e h = optional_value S s fit t size same e h
local_value_fits S s fit t size same (Some n) None h = refl
local_value_fits S s fit t size same (Some n) (Some e) h = refl

array_fits : (S : Setting) (s : Names) (t : CType) (n : Length) (e : Option Expression)
    → n.value < 2 ^ 32 → (without_initialiser s e).faults ≡ []
    → sound.is_array_sound (Some n.value)
    (place_optional S.layout (without_initialiser s e).value) ≡ true
array_fits S s t n None small h = lt-ltb n.value (2 ^ 32) small
array_fits S s t n (Some e) small h = lt-ltb n.value (2 ^ 32) small

stored_some : (t : CType) → is_scalar t ≡ true → 0 < stored_bytes t
stored_some t h = subst (λ k. 0 < k) (sym (ap (λ c. if c then bytes_in t else 0) h))
    (bytes_some (width_of t))
  where
    bytes_some : (w : Width) → 0 < bytes_of w
    bytes_some W8 = omega arith
    bytes_some w = omega arith

few_elements : (s n o m : ℕ) → 0 < s → o + s * n < m → n < m
few_elements zero n o m h k = absurd (omega (arith, h))
few_elements (suc s) n o m h k = omega (arith, k)

stacked_fits : (S : Setting) (s : Names) (t : CType) (length : Option Length)
    (e : Option Expression) → is_scalar t ≡ true → (local_value s t length e).faults ≡ []
    → (p : Option Place) → PlaceFits S.around.sizes S.layout.base t (elements_of length) p
    → sound.stacked_sound S.around (stacked_at S.layout.base p)
    (place_optional S.layout (local_value s t length e).value) ≡ true
stacked_fits S s t length e scalar none None g = refl
stacked_fits S s t None e scalar none (Some p) g =
    and_true (and_true g.0 (lt-ltb p.offset (2 ^ 32) (omega (arith, g.3))))
    (ap (λ k. sound.is_array_sound k (place_optional S.layout (local_value s t None e).value)) g.2)
stacked_fits S s t (Some n) e scalar none (Some p) g =
    and_true (and_true g.0 (lt-ltb p.offset (2 ^ 32) (omega (arith, g.3))))
    (ap (λ k. sound.is_array_sound k (place_optional S.layout (without_initialiser s e).value)) g.2
    ∙ array_fits S s t n e
    (few_elements (stored_bytes t) n.value p.offset (2 ^ 32) (stored_some t scalar) g.3) none)

declare_resolves : (fs : List Function) (zs : List Size) (layout : Layout) (a : Environment)
    (base : Base) (l : Local) (block : Scope) (n : Numbering) → ScopeFits fs zs layout block
    → ScopeFits fs zs layout a.outer
    → Reaches (declare a base l block n).counts zs layout
    → (declare a base l block n).faults ≡ []
    → Resolves fs zs layout a (declare a base l block n)
declare_resolves fs zs layout a base l block n h k front none =
    let type : CType = record { base = base; pointers = l.pointers } in
    let name = spelled a.text l.name in
    let number = length n.sizes in
    let variable = variable_of type (elements_of l.length) in
    let size = front_get n.sizes (size_of type) zs front.0 in
    let counted = declare_all_counted a base (l ∷ []) block n in
    let before = reaches_through n (declare a base l block n).counts zs layout counted.grows front
    in
    let own : slice_get (n.variables ++ variable ∷ []) number ≡ Some variable =
    ap (slice_get (n.variables ++ variable ∷ [])) before.1
    ∙ front_get n.variables variable (n.variables ++ variable ∷ [])
    (front_itself (n.variables ++ variable ∷ [])) in
    let place = front.2 number variable own in
    let duplicate = unless_holds (not (is_taken block name)) l.name.start Duplicate in
    let void = unless_holds (is_scalar type) l.name.start TypeClash in
    let apart = none_in_both (duplicate ++ void ++ length_faults l.length) _ none in
    let two = none_in_both (duplicate ++ void) (length_faults l.length) apart.0 in
    let scalar = holds (is_scalar type) l.name.start TypeClash (none_in_both duplicate void two.0).1
    in
    let meaning = local_entity number type l.length in
    let after = with_name block name meaning in
    let fit = with_name_fits fs zs layout block name meaning h
    (local_fits fs zs layout number type l.length size scalar place) in
    let S = scope_of fs zs layout a in
    let value = local_value_fits S (names_at a after)
    (names_fit fs zs layout a after fit k) type (slice_get zs number) size l.length l.initialiser
    apart.1 in
    record {
      sound = and_true (and_true (and_true (lt-ltb number (length zs)
          (slice_get_within zs number (size_of type) size)) value)
          (stacked_fits S (names_at a after) type l.length l.initialiser scalar apart.1
          (place_of layout number) place)) refl;
      block = fit;
    }

pub declare_all_resolves : (fs : List Function) (zs : List Size) (layout : Layout) (a : Environment)
    (base : Base)
    (ls : List Local) (block : Scope) (n : Numbering) → ScopeFits fs zs layout block
    → ScopeFits fs zs layout a.outer
    → Reaches (declare_all a base ls block n).counts zs layout
    → (declare_all a base ls block n).faults ≡ [] → Resolves fs zs layout a
    (declare_all a base ls block n)
declare_all_resolves fs zs layout a base [] block n h k front none = record {
  sound = refl;
  block =
      h;
}
declare_all_resolves fs zs layout a base (l ∷ ls) block n h k front none =
    let m = declare a base l block n in
    let rest = declare_all a base ls m.block m.counts in
    let apart = none_in_both m.faults rest.faults none in
    let grown = (declare_all_counted a base ls m.block m.counts).grows in
    let first = declare_resolves fs zs layout a base l block n h k
    (reaches_through m.counts rest.counts zs layout grown front) apart.0 in
    follow_resolves fs zs layout a m rest first (declare_all_resolves fs zs layout a base ls m.block
    m.counts
    first.block k front apart.1)

-- ---- what a `for` does first

names_only_sound : (i : Inside) (ss : List checked.Statement)
    → statements_sound i (checked.statements ss) ≡ true
    → all_declared_sound (scope_in i) (names_only ss) ≡ true
names_only_sound i [] h = refl
names_only_sound i (checked.Declare d ∷ ss) h =
    let p = and_parts (declared_sound (scope_in i) d) (statements_sound i (checked.statements ss)) h
    in
    and_true p.0 (names_only_sound i ss p.1)
names_only_sound i (s ∷ ss) h = names_only_sound i ss
    (and_parts (statement_sound i s) (statements_sound i (checked.statements ss)) h).1

pub record ForInitialiserResolves (fs : List Function) (zs : List Size) (layout : Layout)
    (a : Environment)
    (b : ResolvedForInitialiser) : Type 0 where
  pub declared : all_declared_sound (scope_of fs zs layout a) b.declared ≡ true
  pub first : optional_sound (scope_of fs zs layout a) b.first.value ≡ true
  pub block : ScopeFits fs zs layout b.resolved.block

pub for_initialiser_resolves : (fs : List Function) (zs : List Size) (layout : Layout)
    (a : Environment)
    (f : ForInitialiser) (n : Numbering) → ScopeFits fs zs layout a.outer
    → Reaches (resolve_for_initialiser a f n).resolved.counts zs layout
    → (resolve_for_initialiser a f n).resolved.faults ≡ []
    → (resolve_for_initialiser a f n).first.faults ≡ []
    → ForInitialiserResolves fs zs layout a (resolve_for_initialiser a f n)
for_initialiser_resolves fs zs layout a (Declaring base ls) n k front none first =
    let r = declare_all_resolves fs zs layout a base ls [] n tt k front none in
    record {
      declared = names_only_sound (inside_of fs zs layout a) (declare_all a base ls [] n).done
          r.sound;
      first = refl;
      block = r.block;
    }
for_initialiser_resolves fs zs layout a (Evaluating e) n k front none first =
    record {
      declared = refl;
      first = optional_any (scope_of fs zs layout a) (names_at a [])
          (names_fit fs zs layout a [] tt k) e first;
      block = tt;
    }
