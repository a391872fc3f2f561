-- Worked expressions: what they are resolved to, and where their faults are.
use Rattle.std.specs.Prelude.{◌≡◌, ℕ, false, List, [], ◌∷◌, Some, None}
use Rattle.seh_num.specs.declared.width.Width.TheVariants.{W8, W32}
use Rattle.c_lex.specs.declared.token.IntegerType.TheVariants as integers
use Rattle.c_operations.specs.declared.built_in.BuiltIn.TheVariants.{AddVectored}
use Rattle.c_operations.specs.declared.operation.Operation.TheVariants as operations
use Rattle.c_operations.specs.declared.operation.Pure.TheVariants as pures
use Rattle.c_operations.specs.declared.operation.Relation.TheVariants as relations
use Rattle.c_operations.specs.declared.operation.Size.TheVariants as sizes
use Rattle.c_operations.specs.declared.operation.Signedness.TheVariants as sorts
use Rattle.c_checked.specs.declared.expression.Conversion.TheVariants.{Kept, Extend, Scale}
use Rattle.c_checked.specs.declared.expression.Fixity.TheVariants.{Postfix}
use Rattle.c_checked.specs.Expression as nodes
use Rattle.c_checked.specs.Expression.{On, Done, Next}
use Rattle.c_syntax.specs.declared.expression.Base.TheVariants.{Char, Int, Unsigned}
use Rattle.c_syntax.specs.declared.expression.CType.{CType}
use Rattle.c_syntax.specs.declared.expression.Literal.TheVariants as literals
use Rattle.c_syntax.specs.declared.expression.Identifier.{Identifier}
use Rattle.c_syntax.specs.declared.operator.Arithmetic.TheVariants as arithmetic
use Rattle.c_syntax.specs.declared.operator.Comparison.TheVariants as comparisons
use Rattle.c_syntax.specs.declared.operator.BinaryOperator.TheVariants as binary
use Rattle.c_syntax.specs.declared.operator.Increment.TheVariants as increments
use Rattle.c_syntax.specs.declared.operator.UnaryOperator.TheVariants as unary
use Rattle.c_syntax.specs.Expression as trees
use Rattle.c_syntax.specs.Expression.{Expression}
use Rattle.c_resolved.specs.declared.fault.Fault.TheVariants.{UnknownName, NotLvalue, TypeClash, ArgCount}
use Rattle.c_resolved.specs.Types.{plain, pointer_to}
use Rattle.c_resolved.specs.Expressions.{Names, LocalVariable, GlobalVariable, UserFunction, AddingFunction, ResolvedExpression, resolve_expression}
use Rattle.c_resolved.specs.Scopes.{Scope, names_in}

-- the text `c p i f q v a`, in which the names are: a char, an int *, a char, a function int f(char
-- *), nothing, a function int v(unsigned, unsigned), and AddVectoredExceptionHandler
abbrev pub text : List ℕ
text = 99 ∷ 32 ∷ 112 ∷ 32 ∷ 105 ∷ 32 ∷ 102 ∷ 32 ∷ 113 ∷ 32 ∷ 118 ∷ 32 ∷ 97 ∷ []

abbrev pub char : CType
char = plain Char

abbrev pub int_pointer : CType
int_pointer = pointer_to (plain Int)

abbrev pub scope : Scope
scope =
    ((99 ∷ []), LocalVariable 0 char) ∷ ((112 ∷ []), LocalVariable 1 int_pointer)
    ∷ ((105 ∷ []), GlobalVariable 0x140001000 char)
    ∷ ((102 ∷ []), UserFunction 3 (plain Int) (pointer_to char ∷ []))
    ∷ ((118 ∷ []), UserFunction 4 (plain Int) (plain Unsigned ∷ plain Unsigned ∷ []))
    ∷ ((97 ∷ []), AddingFunction) ∷ []

abbrev pub names : Names
names = names_in text scope

abbrev pub at : ℕ → ℕ → Identifier
at start end = record { start = start; end = end }

abbrev pub c : Expression
c = trees.Variable (at 0 1)

abbrev pub p : Expression
p = trees.Variable (at 2 3)

abbrev pub i : Expression
i = trees.Variable (at 4 5)

abbrev pub f : Expression
f = trees.Variable (at 6 7)

abbrev pub q : Expression
q = trees.Variable (at 8 9)

abbrev pub v : Expression
v = trees.Variable (at 10 11)

abbrev pub number : ℕ → Expression
number n = trees.Constant 50 (literals.Integer n integers.Int)

abbrev pub add : Expression → Expression → Expression
add a b = trees.Binary a 20 (binary.Arithmetic arithmetic.Add) b

abbrev pub is_equal : Expression → Expression → Expression
is_equal a b = trees.Binary a 20 (binary.Comparison comparisons.Equal) b

abbrev pub found : CType → nodes.Node → ResolvedExpression
found t n = record { found = Some (record { type = t; node = n; zero = false }); faults = [] }

abbrev pub read_c : nodes.Node
read_c = nodes.Read (nodes.Local 0)

abbrev pub read_p : nodes.Node
read_p = nodes.Read (nodes.Local 1)

-- `c + 1` is an int, and a char needs no conversion to be one
abbrev pub CharAndInt : Type 0
CharAndInt =
    resolve_expression names (add c (number 1))
    ≡ found (plain Int) (nodes.Binary (operations.Pure (pures.Add sizes.Int)) (On read_c Kept)
    (On (nodes.Constant sizes.Int 1) Kept))

-- `p + i` scales a char, and `i + p` is the same in the other order
abbrev pub PointerAndIndex : Type 0
PointerAndIndex =
    (resolve_expression names (add p c)
    ≡ found int_pointer (nodes.Binary (operations.Pure (pures.Add sizes.Long)) (On read_p Kept)
    (On read_c (Scale sorts.Signed W32 4))))
    × (resolve_expression names (add c p)
    ≡ found int_pointer (nodes.Binary (operations.Pure (pures.Add sizes.Long))
    (On read_c (Scale sorts.Signed W32 4)) (On read_p Kept)))

-- `p == 0` has the literal as an address; `p == 1` breaks a rule at its operator
abbrev pub PointerAndZero : Type 0
PointerAndZero =
    (resolve_expression names (is_equal p (number 0))
    ≡ found (plain Int) (nodes.Binary (operations.Pure (pures.Compare relations.Equal sorts.Unsigned
    sizes.Long)) (On read_p Kept) (On (nodes.Constant sizes.Int 0)
    (Extend sorts.Signed W32 sizes.Long))))
    × (resolve_expression names (is_equal p (number 1))
    ≡ record { found = None; faults = record { at = 20; fault = TypeClash } ∷ [] })

-- `i += 300` works on ints and is cut to a char; `p++` adds 4 bytes
abbrev pub Changes : Type 0
Changes =
    (resolve_expression names (trees.Assign i 20 (Some arithmetic.Add) (number 300))
    ≡ found char
    (nodes.CompoundAssign (nodes.Global (record { width = W8; signedness = sorts.Signed })
    0x140001000) Kept (operations.Pure (pures.Add sizes.Int))
    (On (nodes.Constant sizes.Int 300) Kept) (Extend sorts.Signed W8 sizes.Int)))
    × (resolve_expression names (trees.Postfix p increments.Increment 20)
    ≡ found int_pointer (nodes.Increment Postfix (nodes.Local 1) Kept
    (operations.Pure (pures.Add sizes.Long)) 4 Kept))

-- `f(0)`, `f(p)` and `f()`: a literal 0 is passed as an address, another pointer isn't, and each
-- argument has to be there
abbrev pub Calls : Type 0
Calls =
    (resolve_expression names (trees.Call (at 6 7) (trees.Next (number 0) trees.Done))
    ≡ found (plain Int) (nodes.Call 3 (Next (On (nodes.Constant sizes.Int 0)
    (Extend sorts.Signed W32 sizes.Long)) Done)))
    × (resolve_expression names (trees.Call (at 6 7) (trees.Next p trees.Done))
    ≡ record { found = None; faults = record { at = 2; fault = TypeClash } ∷ [] })
    × (resolve_expression names (trees.Call (at 6 7) trees.Done)
    ≡ record { found = None; faults = record { at = 6; fault = ArgCount } ∷ [] })

-- `a(1, h)`
abbrev pub adding : Expression → Expression
adding h = trees.Call (at 12 13) (trees.Next (number 1) (trees.Next h trees.Done))

-- `a(1, v)` and `a(1, (v))` name the function; `f` is of another type, `q` is no function, and
-- `(c)` is no function's name
abbrev pub Handlers : Type 0
Handlers =
    let named = nodes.CallBuiltIn (AddVectored 4) (Next (On (nodes.Constant sizes.Int 1) Kept) Done)
    in
    (resolve_expression names (adding v) ≡ found (plain Int) named)
    × (resolve_expression names (adding (trees.Parentheses 9 v)) ≡ found (plain Int) named)
    × (resolve_expression names (adding f)
    ≡ record { found = None; faults = record { at = 6; fault = TypeClash } ∷ [] })
    × (resolve_expression names (adding q)
    ≡ record { found = None; faults = record { at = 8; fault = UnknownName } ∷ [] })
    × (resolve_expression names (adding (trees.Parentheses 9 c))
    ≡ record { found = None; faults = record { at = 0; fault = UnknownName } ∷ [] })
    × (resolve_expression names (adding (add c (number 1)))
    ≡ record { found = None; faults = record { at = 0; fault = TypeClash } ∷ [] })

-- `&c` is a char *, and `&(c)` too
abbrev pub AddressOfLocal : Type 0
AddressOfLocal =
    (resolve_expression names (trees.Unary 21 unary.AddressOf c)
    ≡ found (pointer_to char) (nodes.AddressOf (nodes.Local 0)))
    × (resolve_expression names (trees.Unary 21 unary.AddressOf (trees.Parentheses 22 c))
    ≡ found (pointer_to char) (nodes.AddressOf (nodes.Local 0)))

-- `q + &(c + 1)`: an unknown name, and what is no place; `(c + 1) = q`
abbrev pub Faults : Type 0
Faults =
    (resolve_expression names (add q (trees.Unary 21 unary.AddressOf
    (trees.Parentheses 22 (add c (number 1)))))
    ≡ record {
      found = None;
      faults = record { at = 8; fault = UnknownName }
          ∷ record { at = 22; fault = NotLvalue } ∷ [];
    })
    × (resolve_expression names (trees.Assign (trees.Parentheses 0 (add c (number 1))) 30 None q)
    ≡ record {
      found = None;
      faults = record { at = 8; fault = UnknownName }
          ∷ record { at = 0; fault = NotLvalue } ∷ [];
    })
