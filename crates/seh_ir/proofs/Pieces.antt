-- What is asked of the pieces of which the code of statements is made.
use Rattle.std.proofs.Common.{◌≡◌, ℕ, ◌+◌, ◌≤◌, List, [], ◌∷◌, ◌++◌, length, Option, None, Some}
use Rattle.seh_ir.specs.Words.{Pure, Constant, StackedVariable, Expression, Declared, Filter, Statement, Statements, Local, Instruction, Compute, Jump, LocalUnwind, Separator, Region, Names, DataPart, Way, Nowhere, Jumps, Unwinds, LoweringContext, except_names, unwound, constant, expression_code, return_code, discarded_code, returned_code, condition_code, initialiser_code, put_code, put_initialiser_code, clearing, declared_code, all_declared_code, landed, repeated, finally_called, statement_code, statements_code, except_kind, region}
use Rattle.linear_code.specs.declared.program.RegionKind.TheVariants as kinds
use Rattle.seh_ir.proofs.StatementParts.{OptionalHas}

-- ---- ways out

-- what is known of the label of a way
abbrev pub WayHas : (ℕ → Type 0) → Way → Type 0
WayHas L Nowhere = Unit {0}
WayHas L (Jumps label) = L label
WayHas L (Unwinds label) = L label

abbrev pub PlaceHas : (ℕ → Type 0) → Option ℕ → Type 0
PlaceHas L None = Unit {0}
PlaceHas L (Some label) = L label

-- of the labels that statements leave to, and of that of the exit, where a value is held
pub record WaysHave (L X : ℕ → Type 0) (scope : LoweringContext) : Type 0 where
  pub exit : WayHas X scope.exit
  pub loop_end : WayHas L scope.loop_end
  pub loop_next : WayHas L scope.loop_next
  pub leave : PlaceHas L scope.leave

-- a way out of a guarded body has the same label
pub unwound_has : (L : ℕ → Type 0) (w : Way) → WayHas L w → WayHas L (unwound w)
unwound_has L Nowhere h = h
unwound_has L (Jumps label) h = h
unwound_has L (Unwinds label) h = h

any_way : (w : Way) → WayHas (λ label. Unit {0}) w
any_way Nowhere = tt
any_way (Jumps label) = tt
any_way (Unwinds label) = tt

any_label : (w : Option ℕ) → PlaceHas (λ label. Unit {0}) w
any_label None = tt
any_label (Some label) = tt

-- where nothing is asked of labels
pub any_ways : (scope : LoweringContext) → WaysHave (λ label. Unit {0}) (λ label. Unit {0}) scope
any_ways scope = record {
  exit = any_way scope.exit;
  loop_end = any_way scope.loop_end;
  loop_next = any_way scope.loop_next;
  leave = any_label scope.leave;
}

-- ---- what is asked

-- all parts have it that hold as much at their ends as where they begin
pub record IsNeutral (M : List Instruction → Type 0) : Type 0 where
  pub separator : M (Separator ∷ [])
  pub jump : (label : ℕ) → M (Jump label ∷ [])
  pub landing : (part : Option DataPart) (end x : ℕ) → M (landed part end x)
  pub zeroed : (x : ℕ) → M (Compute (Local x) (Pure (Constant 0)) (Local x) (Local x) ∷ [])
  pub counted : (x n : ℕ) → M (Compute (Local x) (Pure (Constant n)) (Local x) (Local x) ∷ [])
  pub clearing : (x : ℕ) (v : StackedVariable) (end begin : ℕ) → M (clearing x v end begin)
  pub put_zero : (v : StackedVariable) → M (constant 0 0 ∷ put_code v)
  pub discarded : (names : Names) (e : Option Expression) (at : ℕ) → M (discarded_code names e at)
  pub condition : (names : Names) (e : Option Expression) (label at : ℕ)
      → M (condition_code names e label at)
  pub declared : (names : Names) (d : Declared) (at : ℕ) → M (declared_code names d at)
  pub all_declared : (names : Names) (ds : List Declared) (at : ℕ)
      → M (all_declared_code names ds at)
  pub statement : (scope : LoweringContext) (s : Statement) (at : ℕ) → M (statement_code scope s at)
  pub statements : (scope : LoweringContext) (ss : Statements) (at : ℕ)
      → M (statements_code scope ss at)

-- what is known of code in its place is known of its parts, and tells of the labels where a part
-- begins or ends
pub record IsPlaced (C : ℕ → List Instruction → Type 0) (M : List Instruction → Type 0)
    (L : ℕ → Type 0) : Type 0 where
  pub front : (at : ℕ) (xs ys : List Instruction) → C at (xs ++ ys) → C at xs
  pub back : (at to : ℕ) (xs ys : List Instruction) → at + length xs ≡ to → M xs → C at (xs ++ ys)
      → C to ys
  pub begins : (at : ℕ) (xs : List Instruction) → C at xs → L at
  pub ends : (at to : ℕ) (xs : List Instruction) → at + length xs ≡ to → M xs → C at xs → L to

-- where nothing is asked of what is held, and nothing of places
pub any_neutral : IsNeutral (λ xs. Unit {0})
any_neutral = record {
  separator = tt;
  jump = λ label. tt;
  landing = λ part end x. tt;
  zeroed = λ x. tt;
  counted = λ x n. tt;
  clearing = λ x v end begin. tt;
  put_zero = λ v. tt;
  discarded = λ names e at. tt;
  condition = λ names e label at. tt;
  declared = λ names d at. tt;
  all_declared = λ names ds at. tt;
  statement = λ scope s at. tt;
  statements = λ scope ss at. tt;
}

pub any_place : IsPlaced (λ at xs. Unit {0}) (λ xs. Unit {0}) (λ label. Unit {0})
any_place = record {
  front = λ at xs ys c. tt;
  back = λ at to xs ys e m c. tt;
  begins = λ at xs c. tt;
  ends = λ at to xs e m c. tt;
}

-- names with room for so many notes have them in an `__except` block with one note less
abbrev pub InExcept : (Names → ℕ → Type 0) → Type 0
InExcept N = (names : Names) (m k : ℕ) → 1 + k ≤ m → N names m → N (except_names names) k

-- it holds of each piece at its place, with its regions, of what pieces follow one another, and of
-- nothing
pub record HoldsOfPieces (P : ℕ → List Instruction → List Region → Type 0)
    (C : ℕ → List Instruction → Type 0) (L X : ℕ → Type 0) (N : Names → ℕ → Type 0)
    (E : Expression → Type 0) (D : ℕ → Type 0) : Type 0 where
  pub none : (at : ℕ) → P at [] []
  pub both : (at to : ℕ) (xs ys : List Instruction) (rs qs : List Region) → at + length xs ≡ to
      → P at xs rs → P to ys qs → P at (xs ++ ys) (rs ++ qs)
  pub of_separator : (at : ℕ) → P at (Separator ∷ []) []
  pub of_jump : (at label : ℕ) → L label → P at (Jump label ∷ []) []
  pub of_unwind : (at label : ℕ) → L label → P at (LocalUnwind label ∷ Separator ∷ []) []
  pub of_landing : (names : Names) (m begin end at : ℕ) (f : Filter) → 1 ≤ m → N names m
      → begin ≤ at
      → L begin → L (at + 1) → L end
      → P at (landed names.part end names.free)
      (region begin (at + 1) (except_kind f (at + 1)) ∷ [])
  pub of_finally : (k begin at : ℕ) → begin ≤ at → L begin → L (at + 1)
      → P at (finally_called k) (region begin (at + 1) (kinds.Finally k) ∷ [])
  pub of_zeroed : (x at : ℕ) → D x
      → P at (Compute (Local x) (Pure (Constant 0)) (Local x) (Local x) ∷ []) []
  pub of_discarded : (names : Names) (m : ℕ) (e : Expression) (at : ℕ) → N names m → E e
      → C at (discarded_code names (Some e) at) → P at (discarded_code names (Some e) at) []
  pub of_condition : (names : Names) (m : ℕ) (e : Expression) (label at : ℕ) → N names m → E e
      → L label → C at (condition_code names (Some e) label at)
      → P at (condition_code names (Some e) label at) []
  pub of_initialiser : (names : Names) (m x : ℕ) (e : Expression) (at : ℕ) → N names m → D x → E e
      → C at (initialiser_code names x (Some e) at) → P at (initialiser_code names x (Some e) at) []
  pub of_put_zero : (v : StackedVariable) (at : ℕ) → D v.base → P at (constant 0 0 ∷ put_code v) []
  pub of_put_initialiser : (names : Names) (m : ℕ) (v : StackedVariable) (e : Expression) (at : ℕ)
      → N names m → D v.base → E e → C at (put_initialiser_code names v (Some e) at)
      → P at (put_initialiser_code names v (Some e) at) []
  pub of_counted : (names : Names) (m n at : ℕ) → 1 ≤ m → N names m
      → P at (Compute (Local names.free) (Pure (Constant n)) (Local names.free) (Local names.free)
      ∷ []) []
  pub of_clearing : (names : Names) (m : ℕ) (v : StackedVariable) (end begin at : ℕ) → 1 ≤ m
      → N names m → D v.base → L end → L begin → P at (clearing names.free v end begin) []
  pub of_repeated : (names : Names) (m : ℕ) (e : Expression) (end begin at : ℕ) → N names m → E e
      → L end → L begin → C at (expression_code names e 0 at ++ repeated end begin)
      → P at (expression_code names e 0 at ++ repeated end begin) []
  pub of_return : (names : Names) (m : ℕ) (e : Option Expression) (exit : Way) (at : ℕ)
      → N names m → OptionalHas E e → WayHas X exit
      → C at (returned_code names e at ++ return_code exit)
      → P at (returned_code names e at ++ return_code exit) []
