-- Values, and declarations, that name locals that are seen alone.
use Rattle.std.proofs.Common.{◌≡◌, ℕ, refl, sym, subst}
use Rattle.std.specs.Prelude.{Bool, true, false, if◌then◌else◌, List, [], ◌∷◌, ◌++◌, length, Option, Some, None}
use Rattle.c_checked.specs.Statement as checked
use Rattle.c_resolved.specs.Words.{Length, local_entity, local_value, without_initialiser, Base, CType, Expression, start, Local, ForInitialiser, Declaring, Evaluating, is_void, TypedNode, Names, FaultAt, resolve_expression, Scope, spelled, Environment, Numbering, ResolvedStatements, names_at, filter_names, any, condition, to_type, to_answer, Value, Optional, optional, with_name, declare, declare_all, follow, only, returned, always, ResolvedFilter, resolve_filter, names_only, ResolvedForInitialiser, resolve_for_initialiser, SeenNames, with_local, IsPart, expression_within, optional_within, after_declared, after_all_declared, declared_within, all_declared_within, after_statement, filter_within, statement_within, statements_within}
use Rattle.c_resolved.proofs.Operands.{and_true}
use Rattle.c_checked.proofs.ScopeTests.{both_left, both_right, sees_own, sees_before, after_before, itself, within}
use Rattle.c_resolved.proofs.OperatorScopes.{WithinIf}
use Rattle.c_resolved.proofs.NameScopes.{EntitySeen, ScopeSeen, NamesSeen, scope_wider, with_name_seen, names_seen, filter_names_seen}
use Rattle.c_resolved.proofs.ExpressionScopes.{resolved_within}

-- ---- values: what is at fault is a constant

any_found : (seen : SeenNames) (o : Option TypedNode) (fs : List FaultAt) → WithinIf seen o
    → expression_within seen (any (record { found = o; faults = fs })).value ≡ true
any_found seen None fs h = refl
any_found seen (Some t) fs h = h

condition_found : (seen : SeenNames) (at : ℕ) (o : Option TypedNode) (fs : List FaultAt)
    → WithinIf seen o → expression_within seen
    (condition at (record { found = o; faults = fs })).value ≡ true
condition_found seen at None fs h = refl
condition_found seen at (Some t) fs h = h

typed_found : (seen : SeenNames) (type : CType) (at : ℕ) (o : Option TypedNode) (fs : List FaultAt)
    → WithinIf seen o → expression_within seen
    (to_type type at (record { found = o; faults = fs })).value ≡ true
typed_found seen type at None fs h = refl
typed_found seen type at (Some t) fs h = h

answer_found : (seen : SeenNames) (at : ℕ) (o : Option TypedNode) (fs : List FaultAt)
    → WithinIf seen o → expression_within seen
    (to_answer at (record { found = o; faults = fs })).value ≡ true
answer_found seen at None fs h = refl
answer_found seen at (Some t) fs h = h

pub any_within : (seen : SeenNames) (s : Names) → NamesSeen seen s → (e : Expression)
    → expression_within seen (any (resolve_expression s e)).value ≡ true
any_within seen s known e = any_found seen (resolve_expression s e).found
    (resolve_expression s e).faults (resolved_within seen s known e)

pub condition_within : (seen : SeenNames) (s : Names) → NamesSeen seen s → (at : ℕ) (e : Expression)
    → expression_within seen (condition at (resolve_expression s e)).value ≡ true
condition_within seen s known at e = condition_found seen at (resolve_expression s e).found
    (resolve_expression s e).faults (resolved_within seen s known e)

typed_within : (seen : SeenNames) (s : Names) → NamesSeen seen s
    → (type : CType) (at : ℕ) (e : Expression)
    → expression_within seen (to_type type at (resolve_expression s e)).value ≡ true
typed_within seen s known type at e = typed_found seen type at (resolve_expression s e).found
    (resolve_expression s e).faults (resolved_within seen s known e)

answer_within : (seen : SeenNames) (s : Names) → NamesSeen seen s → (at : ℕ) (e : Expression)
    → expression_within seen (to_answer at (resolve_expression s e)).value ≡ true
answer_within seen s known at e = answer_found seen at (resolve_expression s e).found
    (resolve_expression s e).faults (resolved_within seen s known e)

-- a value that may be missing
pub value_within : (seen : SeenNames) (f : Expression → Value)
    → ((e : Expression) → expression_within seen (f e).value ≡ true) → (o : Option Expression)
    → optional_within seen (optional f o).value ≡ true
value_within seen f h None = refl
value_within seen f h (Some e) = h e

chosen_value : (seen : SeenNames) (b : Bool) (x y : Optional) → optional_within seen x.value ≡ true
    → optional_within seen y.value ≡ true → optional_within seen (if b then x else y).value ≡ true
chosen_value seen true x y h k = h
chosen_value seen false x y h k = k

pub returned_within : (seen : SeenNames) (a : Environment) (block : Scope)
    → NamesSeen seen (names_at a block) → (at : ℕ) (e : Option Expression)
    → optional_within seen (returned a block at e).value ≡ true
returned_within seen a block known at None = refl
returned_within seen a block known at (Some e) = chosen_value seen (is_void a.returns) _ _ refl
    (typed_within seen (names_at a block) known a.returns (start e) e)

chosen_filter : (seen : SeenNames) (b : Bool) (x y : ResolvedFilter)
    → filter_within seen x.filter ≡ true → filter_within seen y.filter ≡ true
    → filter_within seen (if b then x else y).filter ≡ true
chosen_filter seen true x y h k = h
chosen_filter seen false x y h k = k

pub resolved_filter_within : (seen : SeenNames) (a : Environment) (block : Scope)
    → ScopeSeen seen block → ScopeSeen seen a.outer → (e : Expression) (number : ℕ)
    → filter_within seen (resolve_filter a block e number).filter ≡ true
resolved_filter_within seen a block h k e number = chosen_filter seen (always a block e) _ _ refl
    (answer_within seen (filter_names a block) (filter_names_seen seen a block h k) (start e) e)

-- ---- what is seen after statements

abbrev pub after_all : SeenNames → List checked.Statement → SeenNames
after_all seen [] = seen
after_all seen (s ∷ ss) = after_all (after_statement seen s) ss

pub statement_grows : (seen : SeenNames) (s : checked.Statement)
    → IsPart seen (after_statement seen s)
statement_grows seen (checked.Declare d) = after_before seen d
statement_grows seen other = itself seen

pub all_grow : (seen : SeenNames) (ss : List checked.Statement) → IsPart seen (after_all seen ss)
all_grow seen [] = itself seen
all_grow seen (s ∷ ss) = within seen (after_statement seen s)
    (after_all (after_statement seen s) ss) (statement_grows seen s)
    (all_grow (after_statement seen s) ss)

after_append : (seen : SeenNames) (xs ys : List checked.Statement)
    → after_all seen (xs ++ ys) ≡ after_all (after_all seen xs) ys
after_append seen [] ys = refl
after_append seen (x ∷ xs) ys = after_append (after_statement seen x) xs ys

within_append : (seen : SeenNames) (xs ys : List checked.Statement)
    → statements_within seen (checked.statements xs) ≡ true
    → statements_within (after_all seen xs) (checked.statements ys) ≡ true
    → statements_within seen (checked.statements (xs ++ ys)) ≡ true
within_append seen [] ys h k = k
within_append seen (x ∷ xs) ys h k =
    let first = both_left (statement_within seen x)
    (statements_within (after_statement seen x) (checked.statements xs)) h in
    let rest = both_right (statement_within seen x)
    (statements_within (after_statement seen x) (checked.statements xs)) h in
    and_true first (within_append (after_statement seen x) xs ys rest k)

-- each part names what is seen there, and the names of the block after it mean what is seen then
pub record ResolvesWithin (seen : SeenNames) (m : ResolvedStatements) : Type 0 where
  pub within : statements_within seen (checked.statements m.done) ≡ true
  pub block : ScopeSeen (after_all seen m.done) m.block

pub follow_within : (seen : SeenNames) (m next : ResolvedStatements) → ResolvesWithin seen m
    → ResolvesWithin (after_all seen m.done) next → ResolvesWithin seen (follow m next)
follow_within seen m next p q = record {
  within = within_append seen m.done next.done p.within
      q.within;
  block = subst (λ v. ScopeSeen v next.block) (sym (after_append seen m.done next.done))
      q.block;
}

-- a part that is one statement, of which a list is made
pub only_within : (seen : SeenNames) (ss : List checked.Statement)
    → statements_within seen (checked.statements ss) ≡ true → statement_within seen (only ss) ≡ true
only_within seen [] h = refl
only_within seen (s ∷ ss) h = both_left (statement_within seen s)
    (statements_within (after_statement seen s) (checked.statements ss)) h

-- ---- declarations

local_seen : (seen : SeenNames) (n : ℕ) (t : CType) (l : Option Length) → seen n ≡ true
    → EntitySeen seen (local_entity n t l)
local_seen seen n t None h = h
local_seen seen n t (Some l) h = h

refused_within : (seen : SeenNames) (s : Names) (e : Option Expression)
    → optional_within seen (without_initialiser s e).value ≡ true
refused_within seen s None = refl
refused_within seen s (Some e) = refl

local_value_within : (seen : SeenNames) (s : Names) → NamesSeen seen s
    → (t : CType) (l : Option Length) (e : Option Expression)
    → optional_within seen (local_value s t l e).value ≡ true
local_value_within seen s known t None e = value_within seen
    (λ x. to_type t (start x) (resolve_expression s x))
    (λ x. typed_within seen s known t (start x) x) e
local_value_within seen s known t (Some l) e = refused_within seen s e

declare_within : (seen : SeenNames) (a : Environment) (base : Base) (l : Local) (block : Scope)
    (n : Numbering) → ScopeSeen seen block → ScopeSeen seen a.outer
    → ResolvesWithin seen (declare a base l block n)
declare_within seen a base l block n h k =
    let type : CType = record { base = base; pointers = l.pointers } in
    let name = spelled a.text l.name in
    let number = length n.sizes in
    let inner = with_local number seen in
    let part = sees_before seen number in
    let meaning = local_entity number type l.length in
    let after = with_name block name meaning in
    let here : ScopeSeen inner after = with_name_seen inner block name meaning
    (scope_wider seen inner part block h)
    (local_seen inner number type l.length (sees_own seen number)) in
    let known = names_seen inner a after here (scope_wider seen inner part a.outer k) in
    let value = local_value_within inner (names_at a after) known type l.length l.initialiser in
    record { within = and_true value refl; block = here }

pub declare_all_within : (seen : SeenNames) (a : Environment) (base : Base) (ls : List Local)
    (block : Scope) (n : Numbering) → ScopeSeen seen block → ScopeSeen seen a.outer
    → ResolvesWithin seen (declare_all a base ls block n)
declare_all_within seen a base [] block n h k = record { within = refl; block = h }
declare_all_within seen a base (l ∷ ls) block n h k =
    let m = declare a base l block n in
    let first = declare_within seen a base l block n h k in
    let inner = after_all seen m.done in
    follow_within seen m (declare_all a base ls m.block m.counts) first
    (declare_all_within inner a base ls m.block m.counts first.block
    (scope_wider seen inner (all_grow seen m.done) a.outer k))

-- ---- what a `for` does first

names_only_within : (seen : SeenNames) (ss : List checked.Statement)
    → statements_within seen (checked.statements ss) ≡ true
    → all_declared_within seen (names_only ss) ≡ true
names_only_within seen [] h = refl
names_only_within seen (checked.Declare d ∷ ss) h =
    let rest = statements_within (after_declared seen d) (checked.statements ss) in
    and_true (both_left (declared_within seen d) rest h)
    (names_only_within (after_declared seen d) ss (both_right (declared_within seen d) rest h))
names_only_within seen (s ∷ ss) h = names_only_within seen ss
    (both_right (statement_within seen s) (statements_within seen (checked.statements ss)) h)

names_only_after : (seen : SeenNames) (ss : List checked.Statement)
    → after_all_declared seen (names_only ss) ≡ after_all seen ss
names_only_after seen [] = refl
names_only_after seen (checked.Declare d ∷ ss) = names_only_after (after_declared seen d) ss
names_only_after seen (s ∷ ss) = names_only_after seen ss

pub declared_grow : (seen : SeenNames) (ds : List checked.Declared)
    → IsPart seen (after_all_declared seen ds)
declared_grow seen [] = itself seen
declared_grow seen (d ∷ ds) = within seen (after_declared seen d)
    (after_all_declared (after_declared seen d) ds) (after_before seen d)
    (declared_grow (after_declared seen d) ds)

-- what a `for` declares is seen by what it evaluates first, and by its other parts
pub record BeginsWithin (seen : SeenNames) (b : ResolvedForInitialiser) : Type 0 where
  pub declared : all_declared_within seen b.declared ≡ true
  pub first : optional_within (after_all_declared seen b.declared) b.first.value ≡ true
  pub block : ScopeSeen (after_all_declared seen b.declared) b.resolved.block

pub begins_within : (seen : SeenNames) (a : Environment) (f : ForInitialiser) (n : Numbering)
    → ScopeSeen seen a.outer → BeginsWithin seen (resolve_for_initialiser a f n)
begins_within seen a (Declaring base ls) n k =
    let m = declare_all a base ls [] n in
    let r = declare_all_within seen a base ls [] n tt k in
    record {
      declared = names_only_within seen m.done r.within;
      first = refl;
      block = subst (λ v. ScopeSeen v m.block) (sym (names_only_after seen m.done)) r.block;
    }
begins_within seen a (Evaluating e) n k =
    record {
      declared = refl;
      first = value_within seen
          (λ e. any (resolve_expression (names_at a []) e))
          (λ e. any_within seen (names_at a []) (names_seen seen a [] tt k) e) e;
      block = tt;
    }
