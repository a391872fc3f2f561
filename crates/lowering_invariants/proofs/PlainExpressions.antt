-- The code of an expression uses a bounded number of temporaries, and locals that are there.
use Rattle.std.proofs.Common.{◌≡◌, ℕ, suc, ◌+◌, ◌*◌, ◌<◌, ◌≤◌, List, [], ◌∷◌, ◌++◌, length, arith}
use Rattle.std.specs.List.{AllByRecursion}
use Rattle.std.specs.Prelude.{Bool, slice_get, Option, Some, None}
use Rattle.c_checked.specs.declared.function.DataPart.{DataPart}
use Rattle.lowering_expressions.specs.Expressions.{stacked_code}
use Rattle.lowering_follows.specs.Fits.{IsStackedPlace}
use Rattle.lowering_invariants.specs.Words.{BuiltIn, Field, Operation, Pure, Signed, Long, Access, Conversion, Kept, Extend, Scale, Expression, On, Node, Lvalue, Global, Stacked, Indirection, Element, Arguments, Done, Program, Function, Local, Temporary, Instruction, count_of, ExceptionSource, NoException, OfFilter, KeptIn, Names, address_count, locate_size, read_size, conversion_size, expression_size, instruction_temporaries, instruction_passes, constant, copy, change, combine, conversion_code, unary_code, choice_code, code_code, abnormal_code, load_code, read_code, write_code, address_code, chosen_of, expression_code, locate_code, arguments_code, node_code, size_of, argument_count, ExpressionFits, LvalueFits, ArgumentsFit, NodeFits, expression_nesting, expression_reads, parameters_for, lvalue_nesting, arguments_nesting, node_nesting, lvalue_reads, arguments_read, node_reads, IsPlain, IsField}
use Rattle.c_operations.specs.declared.field.Field.TheVariants as fields
use Rattle.c_operations.specs.declared.operation.Operation.TheVariants as operations
use Rattle.c_operations.specs.declared.operation.Pure.TheVariants as pures
use Rattle.c_checked.specs.declared.expression.Fixity.{Fixity}
use Rattle.c_checked.specs.declared.expression.Fixity.TheVariants.{Postfix, Prefix}
use Rattle.c_checked.specs.Expression as nodes
use Rattle.c_checked.specs.Expression.{Next}
use Rattle.lowering_invariants.proofs.Lemmas.{all_append}

near_field : (f : Field) → parameters_for f ≤ 15 → IsField f
near_field (fields.ExceptionInformation k) h = omega arith
near_field f h = tt

built_in_few : (k : BuiltIn) → count_of k ≤ 4
built_in_few k = grind arith

-- the locals that keep a code and a flag are among so many
abbrev pub SourceAmong : ℕ → ExceptionSource → Type 0
SourceAmong n NoException = Unit {0}
SourceAmong n OfFilter = Unit {0}
SourceAmong n (KeptIn x) = x < n

abbrev pub FlagAmong : ℕ → Option ℕ → Type 0
FlagAmong n None = Unit {0}
FlagAmong n (Some x) = x < n

abbrev pub PartAmong : ℕ → Option DataPart → Type 0
PartAmong n None = Unit {0}
PartAmong n (Some p) = p.base < n

pub record NamesAmong (n : ℕ) (names : Names) : Type 0 where
  pub source : SourceAmong n names.exception
  pub flag : FlagAmong n names.abnormal
  pub part : PartAmong n names.part

-- with so many temporaries and so many locals
module _ (most n : ℕ) where
  abbrev pub Good : Instruction → Type 0
  Good i = (instruction_temporaries i ≤ most) × (instruction_passes i ≤ 4) × IsPlain n i

  abbrev pub AllGood : List Instruction → Type 0
  AllGood code = AllByRecursion Good code

  pub append : (xs ys : List Instruction) → AllGood xs → AllGood ys → AllGood (xs ++ ys)
  append xs ys h k = all_append Good xs ys h k

  pub constant_good : (d v : ℕ) → suc d ≤ most → Good (constant d v)
  constant_good d v le = (omega arith, omega arith, (tt, tt, tt))

  pub change_good : (d : ℕ) (o : Operation) → suc d ≤ most → Good (change d o)
  change_good d o le = (omega arith, omega arith, (tt, tt, tt))

  pub combine_good : (d : ℕ) (o : Operation) → suc (d + 1) ≤ most → Good (combine d o)
  combine_good d o le = (omega arith, omega arith, (tt, tt, tt))

  pub moved_good : (d e : ℕ) → suc d ≤ most → suc e ≤ most → Good (copy (Temporary d) (Temporary e))
  moved_good d e le le' = (omega arith, omega arith, (tt, tt, tt))

  pub fetched_good : (d x : ℕ) → suc d ≤ most → x < n → Good (copy (Temporary d) (Local x))
  fetched_good d x le lt = (omega arith, omega arith, (tt, lt, lt))

  pub kept_good : (x d : ℕ) → suc d ≤ most → x < n → Good (copy (Local x) (Temporary d))
  kept_good x d le lt = (omega arith, omega arith, (lt, tt, tt))

  conversion_good : (c : Conversion) (d : ℕ) → d + 2 ≤ most → AllGood (conversion_code c d)
  conversion_good Kept d le = tt
  conversion_good (Extend s from size) d le =
      (change_good d (operations.Pure (pures.Extend s from size)) (omega arith), tt)
  conversion_good (Scale s from by) d le = (
    change_good d
        (operations.Pure (pures.Extend s from Long)) (omega arith),
    (change_good d (operations.Pure (pures.MultiplyBy by)) (omega arith), tt),
  )

  unary_good : (o : Pure) (d : ℕ) → d + 2 ≤ most → AllGood (unary_code o d)
  unary_good pures.First d le = tt
  unary_good o d le = (
    constant_good (d + 1) 0 (omega arith),
    (combine_good d (operations.Pure o) (omega arith), tt),
  )

  choice_good : (d at instead other : ℕ) → suc d ≤ most → AllGood (choice_code d at instead other)
  choice_good d at instead other le = (
    (omega arith, omega arith, tt),
    (
      constant_good d other le,
      (
        (omega arith, omega arith, tt),
        (constant_good d instead le, tt),
      ),
    ),
  )

  load_good : (access : Access) (address to : ℕ) → suc address ≤ most → suc to ≤ most
      → AllGood (load_code access address to)
  load_good access address to le le' = (
    (omega arith, omega arith, (tt, tt, tt)),
    (
      change_good to (operations.Pure (pures.Extend access.signedness access.width
          (size_of access.width))) le',
      tt,
    ),
  )

  -- in a function with at most so many locals, where functions have at most eight parameters
  module _ (program : Program) (own : ℕ) (info : Bool) (wide : own ≤ n)
      (few : (f : ℕ) (fn : Function) → slice_get program.functions f ≡ Some fn
      → length fn.parameters ≤ 8) (names : Names) (among : NamesAmong n names) where
    read_good : (p : Lvalue) (address to : ℕ) → LvalueFits program own info p → suc address ≤ most
        → suc to ≤ most → AllGood (read_code p address to)
    read_good (nodes.Local x) address to f le le' = (fetched_good to x le' (omega arith), tt)
    read_good (Global access a) address to f le le' = load_good access address to le le'
    read_good (Stacked access base offset) address to f le le' = load_good access address to le le'
    read_good (Indirection access e) address to f le le' = load_good access address to le le'
    read_good (Element access e i) address to f le le' = load_good access address to le le'

    write_good : (p : Lvalue) (address from to : ℕ) → LvalueFits program own info p
        → suc address ≤ most → suc from ≤ most → suc to ≤ most → Good (write_code p address from to)
    write_good (nodes.Local x) address from to f le le' le'' = kept_good x from le' (omega arith)
    write_good (Global access a) address from to f le le'
        le'' = (omega arith, omega arith, (tt, tt, tt))
    write_good (Stacked access base offset) address from to f le le'
        le'' = (omega arith, omega arith, (tt, tt, tt))
    write_good (Indirection access e) address from to f le le' le'' =
        (omega arith, omega arith, (tt, tt, tt))
    write_good (Element access e i) address from to f le le'
        le'' = (omega arith, omega arith, (tt, tt, tt))

    address_good : (p : Lvalue) (d : ℕ) (located : List Instruction) → suc d ≤ most
        → AllGood located → AllGood (address_code p d located)
    address_good (nodes.Local x) d located le h = (constant_good d 0 le, tt)
    address_good (Global access a) d located le h = h
    address_good (Stacked access base offset) d located le h = h
    address_good (Indirection access e) d located le h = h
    address_good (Element access e i) d located le h = h

    code_good : (s : ExceptionSource) (d : ℕ) → SourceAmong n s → suc d ≤ most
        → Good (code_code s d)
    code_good NoException d h le = constant_good d 0 le
    code_good OfFilter d h le = (omega arith, omega arith, (tt, tt))
    code_good (KeptIn x) d h le = fetched_good d x le h

    flag_good : (s : Option ℕ) (d : ℕ) → FlagAmong n s → suc d ≤ most → Good (abnormal_code s d)
    flag_good None d h le = constant_good d 0 le
    flag_good (Some x) d h le = fetched_good d x le h

    stacked_good : (d base offset : ℕ) → IsStackedPlace own base offset → suc d ≤ most
        → AllGood (stacked_code base offset d)
    stacked_good d base offset f le =
        let low = f.is_local in
        let lt : base < n = omega arith in (
          constant_good d offset le,
          ((omega arith, omega arith, (tt, lt, tt)), tt),
        )

    count_small : (p : Lvalue) → address_count p ≤ 1
    count_small (nodes.Local x) = omega arith
    count_small p = omega arith

    chosen_small : (m : Fixity) (old : ℕ) → chosen_of m old ≤ old + 1
    chosen_small Postfix old = omega arith
    chosen_small Prefix old = omega arith

    -- the operands of an operator, the second in the next temporary, and what comes after them
    operands_good : (e f : Expression) (d at : ℕ) (rest : List Instruction)
        → AllGood (expression_code names e d at)
        → AllGood (expression_code names f (d + 1) (at + expression_size e)) → AllGood rest
        → AllGood (expression_code names e d at
        ++ (expression_code names f (d + 1) (at + expression_size e) ++ rest))
    operands_good e f d at rest p q h =
        let code = expression_code names f (d + 1) (at + expression_size e) in
        append (expression_code names e d at) (code ++ rest) p (append code rest q h)

    mutual
      pub expression_good : (e : Expression) (d at : ℕ) → ExpressionFits program own info e
          → d + 7 * expression_nesting e + 8 ≤ most → expression_reads e ≤ 15
          → AllGood (expression_code names e d at)
      expression_good (On node c) d at f le r = append (node_code names node d at)
          (conversion_code c d) (node_good node d at f le r) (conversion_good c d (omega arith))

      locate_good : (p : Lvalue) (d at : ℕ) → LvalueFits program own info p
          → d + 7 * lvalue_nesting p + 8 ≤ most → lvalue_reads p ≤ 15
          → AllGood (locate_code names p d at)
      locate_good (nodes.Local x) d at f le r = tt
      locate_good (Global access a) d at f le r = (constant_good d a (omega arith), tt)
      locate_good (Stacked access base offset) d at f le r = stacked_good d base offset f
          (omega arith)
      locate_good (Indirection access e) d at f le r = expression_good e d at f (omega arith) r
      locate_good (Element access e i) d at f le r =
          let code = expression_code names i (d + 1) (at + expression_size e) in
          append (expression_code names e d at) (code ++ _ ∷ [])
          (expression_good e d at f.0 (omega arith) (omega arith))
          (append code (_ ∷ []) (expression_good i (d + 1) (at + expression_size e) f.1
          (omega arith) (omega arith)) (
            combine_good d (operations.Pure (pures.Add Long))
                (omega arith),
            tt,
          ))

      -- each argument in the temporary after that of the one before
      arguments_good : (es : Arguments) (d at : ℕ) → ArgumentsFit program own info es
          → d + argument_count es + 7 * arguments_nesting es ≤ most → arguments_read es ≤ 15
          → AllGood (arguments_code names es d at)
      arguments_good Done d at f le r = tt
      arguments_good (Next e es) d at f le r =
          append (expression_code names e d at)
          (arguments_code names es (d + 1) (at + expression_size e))
          (expression_good e d at f.0 (omega arith) (omega arith))
          (arguments_good es (d + 1) (at + expression_size e) f.1 (omega arith) (omega arith))

      node_good : (node : Node) (d at : ℕ) → NodeFits program own info node
          → d + 7 * node_nesting node + 8 ≤ most → node_reads node ≤ 15
          → AllGood (node_code names node d at)
      node_good (nodes.Constant z v) d at f le r = (constant_good d v (omega arith), tt)
      node_good (nodes.StackedArray base offset) d at f le r =
          stacked_good d base offset f (omega arith)
      node_good (nodes.Read p) d at f le r = append (locate_code names p d at) (read_code p d d)
          (locate_good p d at f (omega arith) r) (read_good p d d f (omega arith) (omega arith))
      node_good (nodes.AddressOf p) d at f le r = address_good p d (locate_code names p d at)
          (omega arith) (locate_good p d at f.0 (omega arith) r)
      node_good (nodes.Assign p e) d at f le r =
          let c = count_small p in
          let from = d + address_count p in
          let code = expression_code names e from (at + locate_size p) in
          append (locate_code names p d at) (code ++ _ ∷ [])
          (locate_good p d at f.0 (omega arith) (omega arith))
          (append code (_ ∷ []) (expression_good e from (at + locate_size p) f.1 (omega arith)
          (omega arith)) (
            write_good p d from d f.0 (omega arith) (omega arith) (omega arith),
            tt,
          ))
      node_good (nodes.CompoundAssign p before o e after) d at f le r =
          let c = count_small p in
          let old = d + address_count p in
          let place = at + (locate_size p + (read_size p + conversion_size before)) in
          let code = expression_code names e (old + 1) place in
          let last = conversion_code after old ++ write_code p d old d ∷ [] in
          append (locate_code names p d at) _ (locate_good p d at f.0 (omega arith) (omega arith))
          (append (read_code p d old) _ (read_good p d old f.0 (omega arith) (omega arith))
          (append (conversion_code before old) _ (conversion_good before old (omega arith))
          (append code (combine old o ∷ last)
          (expression_good e (old + 1) place f.1 (omega arith) (omega arith)) (
            combine_good old o (omega arith),
            append (conversion_code after old) (_ ∷ [])
                (conversion_good after old (omega arith))
                (write_good p d old d f.0 (omega arith) (omega arith) (omega arith), tt),
          ))))
      node_good (nodes.Increment m p before o v after) d at f le r =
          let c = count_small p in
          let old = d + address_count p in
          let s = chosen_small m old in
          let last = write_code p d (old + 1) (old + 1)
          ∷ copy (Temporary d) (Temporary (chosen_of m old)) ∷ [] in
          append (locate_code names p d at) _ (locate_good p d at f.0 (omega arith) (omega arith))
          (append (read_code p d old) _ (read_good p d old f.0 (omega arith) (omega arith)) (
            moved_good (old + 1) old (omega arith) (omega arith),
            append (conversion_code before (old + 1)) _
                (conversion_good before (old + 1) (omega arith)) (
                  constant_good (old + 2) v (omega arith),
                  (
                    combine_good (old + 1) o (omega arith),
                    append (conversion_code after (old + 1)) last
                        (conversion_good after (old + 1) (omega arith)) (
                          write_good p d (old + 1) (old + 1) f.0 (omega arith) (omega arith)
                              (omega arith),
                          (
                            moved_good d (chosen_of m old) (omega arith) (omega arith),
                            tt,
                          ),
                        ),
                  ),
                ),
          ))
      node_good (nodes.Unary o e) d at f le r = append (expression_code names e d at)
          (unary_code o d) (expression_good e d at f.0 (omega arith) r)
          (unary_good o d (omega arith))
      node_good (nodes.Binary o e g) d at f le r = operands_good e g d at (combine d o ∷ [])
          (expression_good e d at f.0 (omega arith) (omega arith))
          (expression_good g (d + 1) (at + expression_size e) f.1 (omega arith) (omega arith))
          (combine_good d o (omega arith), tt)
      node_good (nodes.PointerDifference v e g) d at f le r =
          operands_good e g d at (combine d (operations.Pure (pures.Subtract Long))
          ∷ constant (d + 1) v ∷ combine d (operations.Divide Signed Long) ∷ [])
          (expression_good e d at f.0 (omega arith) (omega arith))
          (expression_good g (d + 1) (at + expression_size e) f.1 (omega arith) (omega arith)) (
            combine_good d (operations.Pure (pures.Subtract Long)) (omega arith),
            (
              constant_good (d + 1) v (omega arith),
              (combine_good d (operations.Divide Signed Long) (omega arith), tt),
            ),
          )
      node_good (nodes.Not e) d at f le r = append (expression_code names e d at)
          (choice_code d (at + expression_size e) 1 0) (expression_good e d at f (omega arith) r)
          (choice_good d (at + expression_size e) 1 0 (omega arith))
      node_good (nodes.And e g) d at f le r =
          let second = at + expression_size e + 1 in
          let code = expression_code names g d second in
          append (expression_code names e d at)
          (_ ∷ (code ++ choice_code d (second + expression_size g) 0 1))
          (expression_good e d at f.0 (omega arith) (omega arith)) (
            (omega arith, omega arith, tt),
            append code
                (choice_code d (second + expression_size g) 0 1)
                (expression_good g d second f.1 (omega arith) (omega arith))
                (choice_good d (second + expression_size g) 0 1 (omega arith)),
          )
      node_good (nodes.Or e g) d at f le r =
          let second = at + expression_size e + 3 in
          let code = expression_code names g d second in
          append (expression_code names e d at)
          (_ ∷ constant d 1 ∷ _ ∷ (code ++ choice_code d (second + expression_size g) 0 1))
          (expression_good e d at f.0 (omega arith) (omega arith)) (
            (omega arith, omega arith, tt),
            (
              constant_good d 1 (omega arith),
              (
                (omega arith, omega arith, tt),
                append code
                    (choice_code d (second + expression_size g) 0 1)
                    (expression_good g d second f.1 (omega arith) (omega arith))
                    (choice_good d (second + expression_size g) 0 1 (omega arith)),
              ),
            ),
          )
      node_good (nodes.Conditional t e g) d at f le r =
          let yes = at + expression_size t + 1 in
          let no = yes + expression_size e + 1 in
          append (expression_code names t d at)
          (_ ∷ (expression_code names e d yes ++ _ ∷ expression_code names g d no))
          (expression_good t d at f.0 (omega arith) (omega arith)) (
            (omega arith, omega arith, tt),
            append (expression_code names e d yes) (_ ∷ expression_code names g d no)
                (expression_good e d yes f.1 (omega arith) (omega arith)) (
                  (omega arith, omega arith, tt),
                  expression_good g d no f.2 (omega arith) (omega arith),
                ),
          )
      node_good (nodes.Comma e g) d at f le r = operands_good e g d at
          (copy (Temporary d) (Temporary (d + 1)) ∷ [])
          (expression_good e d at f.0 (omega arith) (omega arith))
          (expression_good g (d + 1) (at + expression_size e) f.1 (omega arith) (omega arith))
          (moved_good d (d + 1) (omega arith) (omega arith), tt)
      node_good (nodes.Call g es) d at f le r =
          let function = f.1.function in
          let small = few g function f.1.there in
          let same = f.1.takes in
          append (arguments_code names es d at) (_ ∷ [])
          (arguments_good es d at f.0 (omega arith) r)
          ((omega arith, omega arith, omega arith), tt)
      node_good (nodes.CallBuiltIn k es) d at f le r =
          let small = built_in_few k in
          let same = f.1 in
          append (arguments_code names es d at) (_ ∷ [])
          (arguments_good es d at f.0 (omega arith) r) ((omega arith, omega arith, tt), tt)
      node_good nodes.ExceptionCode d at f le
          r = (code_good names.exception d among.source (omega arith), tt)
      node_good (nodes.Information field) d at f le
          r = ((omega arith, omega arith, (tt, near_field field r)), tt)
      node_good nodes.AbnormalTermination d at f le
          r = (flag_good names.abnormal d among.flag (omega arith), tt)
