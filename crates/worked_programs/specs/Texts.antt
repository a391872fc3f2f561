-- Texts with their trees.
use Rattle.std.specs.Prelude.{ℕ, false, List, [], ◌∷◌, ◌++◌, Some, None, codes}
use Rattle.c_lex.specs.declared.token.IntegerType.TheVariants as integers
use Rattle.c_syntax.specs.declared.expression.Base.TheVariants as bases
use Rattle.c_syntax.specs.declared.expression.Field.TheVariants as record_fields
use Rattle.c_syntax.specs.declared.expression.Literal.TheVariants as literals
use Rattle.c_syntax.specs.declared.operator.Arithmetic.TheVariants as arithmetic
use Rattle.c_syntax.specs.declared.operator.BinaryOperator.TheVariants as binary
use Rattle.c_syntax.specs.declared.operator.Comparison.TheVariants as comparisons
use Rattle.c_syntax.specs.declared.operator.Increment.TheVariants as increments
use Rattle.c_syntax.specs.declared.operator.UnaryOperator.TheVariants as unary
use Rattle.c_syntax.specs.Expression as trees
use Rattle.c_syntax.specs.Statement as stmts
use Rattle.c_syntax.specs.Program.{ExternalDeclaration, Globals, Function, Single}
use Rattle.worked_programs.specs.Prints.{at}

abbrev pub sum_and_return_text : List ℕ
sum_and_return_text = codes "int main(void){ put(2+3*4); return 7; }"

abbrev pub sum_and_return : List ExternalDeclaration
sum_and_return = Function (record { base = bases.Int; pointers = 0 }) (at 4 8) ([]) (stmts.Then (stmts.Evaluate (Some (trees.Call (at 16 19) (trees.Next (trees.Binary (trees.Constant 20 (literals.Integer 2 integers.Int)) 21 (binary.Arithmetic arithmetic.Add) (trees.Binary (trees.Constant 22 (literals.Integer 3 integers.Int)) 23 (binary.Arithmetic arithmetic.Multiply) (trees.Constant 24 (literals.Integer 4 integers.Int)))) trees.Done)))) (stmts.Then (stmts.Return 28 (Some (trees.Constant 35 (literals.Integer 7 integers.Int)))) stmts.Empty)) ∷ []

-- (nothing)
abbrev pub empty_text_text : List ℕ
empty_text_text = []

abbrev pub empty_text : List ExternalDeclaration
empty_text = []

abbrev pub null_store_caught_traced_text : List ℕ
null_store_caught_traced_text =
    codes "int main(void){ __try{ *(int*)0 = 1; } __except(1){ "
    ++ codes "put(GetExceptionCode()==0xC0000005); } return 0; }"

abbrev pub null_store_caught_traced : List ExternalDeclaration
null_store_caught_traced = Function (record { base = bases.Int; pointers = 0 }) (at 4 8) ([]) (stmts.Then (stmts.TryExcept (stmts.Then (stmts.Evaluate (Some (trees.Assign (trees.Unary 23 unary.Indirection (trees.Cast 24 (record { base = bases.Int; pointers = 1 }) (trees.Constant 30 (literals.Integer 0 integers.Int)))) 32 None (trees.Constant 34 (literals.Integer 1 integers.Int))))) stmts.Empty) 39 (trees.Constant 48 (literals.Integer 1 integers.Int)) (stmts.Then (stmts.Evaluate (Some (trees.Call (at 52 55) (trees.Next (trees.Binary (trees.Call (at 56 72) trees.Done) 74 (binary.Comparison comparisons.Equal) (trees.Constant 76 (literals.Integer 3221225477 integers.Unsigned))) trees.Done)))) stmts.Empty)) (stmts.Then (stmts.Return 91 (Some (trees.Constant 98 (literals.Integer 0 integers.Int)))) stmts.Empty)) ∷ []

abbrev pub null_store_caught_text : List ℕ
null_store_caught_text =
    codes "int main(void){ __try{ *(int*)0 = 1; } __except(1){ "
    ++ codes "put(GetExceptionCode()==0xC0000005); } return 0; }"

abbrev pub null_store_caught : List ExternalDeclaration
null_store_caught = Function (record { base = bases.Int; pointers = 0 }) (at 4 8) ([]) (stmts.Then (stmts.TryExcept (stmts.Then (stmts.Evaluate (Some (trees.Assign (trees.Unary 23 unary.Indirection (trees.Cast 24 (record { base = bases.Int; pointers = 1 }) (trees.Constant 30 (literals.Integer 0 integers.Int)))) 32 None (trees.Constant 34 (literals.Integer 1 integers.Int))))) stmts.Empty) 39 (trees.Constant 48 (literals.Integer 1 integers.Int)) (stmts.Then (stmts.Evaluate (Some (trees.Call (at 52 55) (trees.Next (trees.Binary (trees.Call (at 56 72) trees.Done) 74 (binary.Comparison comparisons.Equal) (trees.Constant 76 (literals.Integer 3221225477 integers.Unsigned))) trees.Done)))) stmts.Empty)) (stmts.Then (stmts.Return 91 (Some (trees.Constant 98 (literals.Integer 0 integers.Int)))) stmts.Empty)) ∷ []

abbrev pub filter_then_finally_text : List ℕ
filter_then_finally_text =
    codes "int main(void){ __try{ __try{ RaiseException(0xE0000001,0,0,0); } "
    ++ codes "__finally{ put(AbnormalTermination()); } } __except(2){ put(3); } return 0; }"

abbrev pub filter_then_finally : List ExternalDeclaration
filter_then_finally = Function (record { base = bases.Int; pointers = 0 }) (at 4 8) ([]) (stmts.Then (stmts.TryExcept (stmts.Then (stmts.TryFinally (stmts.Then (stmts.Evaluate (Some (trees.Call (at 30 44) (trees.Next (trees.Constant 45 (literals.Integer 3758096385 integers.Unsigned)) (trees.Next (trees.Constant 56 (literals.Integer 0 integers.Int)) (trees.Next (trees.Constant 58 (literals.Integer 0 integers.Int)) (trees.Next (trees.Constant 60 (literals.Integer 0 integers.Int)) trees.Done))))))) stmts.Empty) 66 (stmts.Then (stmts.Evaluate (Some (trees.Call (at 77 80) (trees.Next (trees.Call (at 81 100) trees.Done) trees.Done)))) stmts.Empty)) stmts.Empty) 109 (trees.Constant 118 (literals.Integer 2 integers.Int)) (stmts.Then (stmts.Evaluate (Some (trees.Call (at 122 125) (trees.Next (trees.Constant 126 (literals.Integer 3 integers.Int)) trees.Done)))) stmts.Empty)) (stmts.Then (stmts.Return 132 (Some (trees.Constant 139 (literals.Integer 0 integers.Int)))) stmts.Empty)) ∷ []

abbrev pub continue_same_operand_text : List ℕ
continue_same_operand_text =
    codes "int *p = 0x20000000; int f(void){ p = 0; protect((void*)0x20000000,2); return -1; } "
    ++ codes "int main(void){ __try{ put(*p); } __except(f()){ put(9); } return 0; }"

abbrev pub continue_same_operand : List ExternalDeclaration
continue_same_operand = Globals bases.Int (record { pointers = 1; name = (at 5 6); length = None; initialiser = (Some (Single (record { at = 9; negative = false; literal = (literals.Integer 536870912 integers.Int) }))) } ∷ []) ∷ Function (record { base = bases.Int; pointers = 0 }) (at 25 26) ([]) (stmts.Then (stmts.Evaluate (Some (trees.Assign (trees.Variable (at 34 35)) 36 None (trees.Constant 38 (literals.Integer 0 integers.Int))))) (stmts.Then (stmts.Evaluate (Some (trees.Call (at 41 48) (trees.Next (trees.Cast 49 (record { base = bases.Void; pointers = 1 }) (trees.Constant 56 (literals.Integer 536870912 integers.Int))) (trees.Next (trees.Constant 67 (literals.Integer 2 integers.Int)) trees.Done))))) (stmts.Then (stmts.Return 71 (Some (trees.Unary 78 unary.Minus (trees.Constant 79 (literals.Integer 1 integers.Int))))) stmts.Empty))) ∷ Function (record { base = bases.Int; pointers = 0 }) (at 88 92) ([]) (stmts.Then (stmts.TryExcept (stmts.Then (stmts.Evaluate (Some (trees.Call (at 107 110) (trees.Next (trees.Unary 111 unary.Indirection (trees.Variable (at 112 113))) trees.Done)))) stmts.Empty) 118 (trees.Call (at 127 128) trees.Done) (stmts.Then (stmts.Evaluate (Some (trees.Call (at 133 136) (trees.Next (trees.Constant 137 (literals.Integer 9 integers.Int)) trees.Done)))) stmts.Empty)) (stmts.Then (stmts.Return 143 (Some (trees.Constant 150 (literals.Integer 0 integers.Int)))) stmts.Empty)) ∷ []

abbrev pub return_and_leave_flags_return_text : List ℕ
return_and_leave_flags_return_text =
    codes "int main(void){ __try{ return 5; } __finally{ put(AbnormalTermination()); } "
    ++ codes "return 6; }"

abbrev pub return_and_leave_flags_return : List ExternalDeclaration
return_and_leave_flags_return = Function (record { base = bases.Int; pointers = 0 }) (at 4 8) ([]) (stmts.Then (stmts.TryFinally (stmts.Then (stmts.Return 23 (Some (trees.Constant 30 (literals.Integer 5 integers.Int)))) stmts.Empty) 35 (stmts.Then (stmts.Evaluate (Some (trees.Call (at 46 49) (trees.Next (trees.Call (at 50 69) trees.Done) trees.Done)))) stmts.Empty)) (stmts.Then (stmts.Return 76 (Some (trees.Constant 83 (literals.Integer 6 integers.Int)))) stmts.Empty)) ∷ []

abbrev pub return_and_leave_flags_leave_text : List ℕ
return_and_leave_flags_leave_text =
    codes "int main(void){ __try{ __leave; } __finally{ put(AbnormalTermination()); } "
    ++ codes "return 6; }"

abbrev pub return_and_leave_flags_leave : List ExternalDeclaration
return_and_leave_flags_leave = Function (record { base = bases.Int; pointers = 0 }) (at 4 8) ([]) (stmts.Then (stmts.TryFinally (stmts.Then (stmts.Leave 23) stmts.Empty) 34 (stmts.Then (stmts.Evaluate (Some (trees.Call (at 45 48) (trees.Next (trees.Call (at 49 68) trees.Done) trees.Done)))) stmts.Empty)) (stmts.Then (stmts.Return 75 (Some (trees.Constant 82 (literals.Integer 6 integers.Int)))) stmts.Empty)) ∷ []

abbrev pub division_faults_unhandled_overflow_text : List ℕ
division_faults_unhandled_overflow_text =
    codes "int m; int main(void){ m = -2147483647 - 1; __try{ __try{ put(m / -1); } "
    ++ codes "__finally{ put(8); } } __except(0){ put(9); } return 0; }"

abbrev pub division_faults_unhandled_overflow : List ExternalDeclaration
division_faults_unhandled_overflow = Globals bases.Int (record { pointers = 0; name = (at 4 5); length = None; initialiser = None } ∷ []) ∷ Function (record { base = bases.Int; pointers = 0 }) (at 11 15) ([]) (stmts.Then (stmts.Evaluate (Some (trees.Assign (trees.Variable (at 23 24)) 25 None (trees.Binary (trees.Unary 27 unary.Minus (trees.Constant 28 (literals.Integer 2147483647 integers.Int))) 39 (binary.Arithmetic arithmetic.Subtract) (trees.Constant 41 (literals.Integer 1 integers.Int)))))) (stmts.Then (stmts.TryExcept (stmts.Then (stmts.TryFinally (stmts.Then (stmts.Evaluate (Some (trees.Call (at 58 61) (trees.Next (trees.Binary (trees.Variable (at 62 63)) 64 (binary.Arithmetic arithmetic.Divide) (trees.Unary 66 unary.Minus (trees.Constant 67 (literals.Integer 1 integers.Int)))) trees.Done)))) stmts.Empty) 73 (stmts.Then (stmts.Evaluate (Some (trees.Call (at 84 87) (trees.Next (trees.Constant 88 (literals.Integer 8 integers.Int)) trees.Done)))) stmts.Empty)) stmts.Empty) 96 (trees.Constant 105 (literals.Integer 0 integers.Int)) (stmts.Then (stmts.Evaluate (Some (trees.Call (at 109 112) (trees.Next (trees.Constant 113 (literals.Integer 9 integers.Int)) trees.Done)))) stmts.Empty)) (stmts.Then (stmts.Return 119 (Some (trees.Constant 126 (literals.Integer 0 integers.Int)))) stmts.Empty))) ∷ []

abbrev pub division_faults_unhandled_zero_text : List ℕ
division_faults_unhandled_zero_text =
    codes "int m; int main(void){ m = -2147483647 - 1; __try{ __try{ put(m / 0); } "
    ++ codes "__finally{ put(8); } } __except(0){ put(9); } return 0; }"

abbrev pub division_faults_unhandled_zero : List ExternalDeclaration
division_faults_unhandled_zero = Globals bases.Int (record { pointers = 0; name = (at 4 5); length = None; initialiser = None } ∷ []) ∷ Function (record { base = bases.Int; pointers = 0 }) (at 11 15) ([]) (stmts.Then (stmts.Evaluate (Some (trees.Assign (trees.Variable (at 23 24)) 25 None (trees.Binary (trees.Unary 27 unary.Minus (trees.Constant 28 (literals.Integer 2147483647 integers.Int))) 39 (binary.Arithmetic arithmetic.Subtract) (trees.Constant 41 (literals.Integer 1 integers.Int)))))) (stmts.Then (stmts.TryExcept (stmts.Then (stmts.TryFinally (stmts.Then (stmts.Evaluate (Some (trees.Call (at 58 61) (trees.Next (trees.Binary (trees.Variable (at 62 63)) 64 (binary.Arithmetic arithmetic.Divide) (trees.Constant 66 (literals.Integer 0 integers.Int))) trees.Done)))) stmts.Empty) 72 (stmts.Then (stmts.Evaluate (Some (trees.Call (at 83 86) (trees.Next (trees.Constant 87 (literals.Integer 8 integers.Int)) trees.Done)))) stmts.Empty)) stmts.Empty) 95 (trees.Constant 104 (literals.Integer 0 integers.Int)) (stmts.Then (stmts.Evaluate (Some (trees.Call (at 108 111) (trees.Next (trees.Constant 112 (literals.Integer 9 integers.Int)) trees.Done)))) stmts.Empty)) (stmts.Then (stmts.Return 118 (Some (trees.Constant 125 (literals.Integer 0 integers.Int)))) stmts.Empty))) ∷ []

abbrev pub call_last_in_try_text : List ℕ
call_last_in_try_text =
    codes "void g(void){ RaiseException(0xE0000001,0,0,0); } int main(void){ __try{ g(); } "
    ++ codes "__except(1){ put(1); } return 0; }"

abbrev pub call_last_in_try : List ExternalDeclaration
call_last_in_try = Function (record { base = bases.Void; pointers = 0 }) (at 5 6) ([]) (stmts.Then (stmts.Evaluate (Some (trees.Call (at 14 28) (trees.Next (trees.Constant 29 (literals.Integer 3758096385 integers.Unsigned)) (trees.Next (trees.Constant 40 (literals.Integer 0 integers.Int)) (trees.Next (trees.Constant 42 (literals.Integer 0 integers.Int)) (trees.Next (trees.Constant 44 (literals.Integer 0 integers.Int)) trees.Done))))))) stmts.Empty) ∷ Function (record { base = bases.Int; pointers = 0 }) (at 54 58) ([]) (stmts.Then (stmts.TryExcept (stmts.Then (stmts.Evaluate (Some (trees.Call (at 73 74) trees.Done))) stmts.Empty) 80 (trees.Constant 89 (literals.Integer 1 integers.Int)) (stmts.Then (stmts.Evaluate (Some (trees.Call (at 93 96) (trees.Next (trees.Constant 97 (literals.Integer 1 integers.Int)) trees.Done)))) stmts.Empty)) (stmts.Then (stmts.Return 103 (Some (trees.Constant 110 (literals.Integer 0 integers.Int)))) stmts.Empty)) ∷ []

abbrev pub try_last_in_function_text : List ℕ
try_last_in_function_text =
    codes "void g(void){ RaiseException(0xE0000001,0,0,0); } void h(void){ __try{ g(); } "
    ++ codes "__except(1){ put(1); } } int main(void){ h(); put(2); return 0; }"

abbrev pub try_last_in_function : List ExternalDeclaration
try_last_in_function = Function (record { base = bases.Void; pointers = 0 }) (at 5 6) ([]) (stmts.Then (stmts.Evaluate (Some (trees.Call (at 14 28) (trees.Next (trees.Constant 29 (literals.Integer 3758096385 integers.Unsigned)) (trees.Next (trees.Constant 40 (literals.Integer 0 integers.Int)) (trees.Next (trees.Constant 42 (literals.Integer 0 integers.Int)) (trees.Next (trees.Constant 44 (literals.Integer 0 integers.Int)) trees.Done))))))) stmts.Empty) ∷ Function (record { base = bases.Void; pointers = 0 }) (at 55 56) ([]) (stmts.Then (stmts.TryExcept (stmts.Then (stmts.Evaluate (Some (trees.Call (at 71 72) trees.Done))) stmts.Empty) 78 (trees.Constant 87 (literals.Integer 1 integers.Int)) (stmts.Then (stmts.Evaluate (Some (trees.Call (at 91 94) (trees.Next (trees.Constant 95 (literals.Integer 1 integers.Int)) trees.Done)))) stmts.Empty)) stmts.Empty) ∷ Function (record { base = bases.Int; pointers = 0 }) (at 107 111) ([]) (stmts.Then (stmts.Evaluate (Some (trees.Call (at 119 120) trees.Done))) (stmts.Then (stmts.Evaluate (Some (trees.Call (at 124 127) (trees.Next (trees.Constant 128 (literals.Integer 2 integers.Int)) trees.Done)))) (stmts.Then (stmts.Return 132 (Some (trees.Constant 139 (literals.Integer 0 integers.Int)))) stmts.Empty))) ∷ []

abbrev pub leaf_fault_caught_text : List ℕ
leaf_fault_caught_text =
    codes "int f(int *p){ return *p; } int main(void){ __try{ put(f((int*)8)); } "
    ++ codes "__except(1){ put(GetExceptionCode()==0xC0000005); } return 0; }"

abbrev pub leaf_fault_caught : List ExternalDeclaration
leaf_fault_caught = Function (record { base = bases.Int; pointers = 0 }) (at 4 5) (record { of = (record { base = bases.Int; pointers = 1 }); name = (at 11 12) } ∷ []) (stmts.Then (stmts.Return 15 (Some (trees.Unary 22 unary.Indirection (trees.Variable (at 23 24))))) stmts.Empty) ∷ Function (record { base = bases.Int; pointers = 0 }) (at 32 36) ([]) (stmts.Then (stmts.TryExcept (stmts.Then (stmts.Evaluate (Some (trees.Call (at 51 54) (trees.Next (trees.Call (at 55 56) (trees.Next (trees.Cast 57 (record { base = bases.Int; pointers = 1 }) (trees.Constant 63 (literals.Integer 8 integers.Int))) trees.Done)) trees.Done)))) stmts.Empty) 70 (trees.Constant 79 (literals.Integer 1 integers.Int)) (stmts.Then (stmts.Evaluate (Some (trees.Call (at 83 86) (trees.Next (trees.Binary (trees.Call (at 87 103) trees.Done) 105 (binary.Comparison comparisons.Equal) (trees.Constant 107 (literals.Integer 3221225477 integers.Unsigned))) trees.Done)))) stmts.Empty)) (stmts.Then (stmts.Return 122 (Some (trees.Constant 129 (literals.Integer 0 integers.Int)))) stmts.Empty)) ∷ []

abbrev pub raise_in_filter_text : List ℕ
raise_in_filter_text =
    codes "int c; int bad(void){ c = c + 1; if (c == 1) RaiseException(0xE0000002,0,0,0); "
    ++ codes "return 0; } int main(void){ __try{ __try{ RaiseException(0xE0000001,0,0,0); } "
    ++ codes "__except(bad()){ put(8); } } __except(GetExceptionCode()==0xE0000002){ put(c); } "
    ++ codes "return 0; }"

abbrev pub raise_in_filter : List ExternalDeclaration
raise_in_filter = Globals bases.Int (record { pointers = 0; name = (at 4 5); length = None; initialiser = None } ∷ []) ∷ Function (record { base = bases.Int; pointers = 0 }) (at 11 14) ([]) (stmts.Then (stmts.Evaluate (Some (trees.Assign (trees.Variable (at 22 23)) 24 None (trees.Binary (trees.Variable (at 26 27)) 28 (binary.Arithmetic arithmetic.Add) (trees.Constant 30 (literals.Integer 1 integers.Int)))))) (stmts.Then (stmts.If 33 (trees.Binary (trees.Variable (at 37 38)) 39 (binary.Comparison comparisons.Equal) (trees.Constant 42 (literals.Integer 1 integers.Int))) (stmts.Evaluate (Some (trees.Call (at 45 59) (trees.Next (trees.Constant 60 (literals.Integer 3758096386 integers.Unsigned)) (trees.Next (trees.Constant 71 (literals.Integer 0 integers.Int)) (trees.Next (trees.Constant 73 (literals.Integer 0 integers.Int)) (trees.Next (trees.Constant 75 (literals.Integer 0 integers.Int)) trees.Done)))))))) (stmts.Then (stmts.Return 79 (Some (trees.Constant 86 (literals.Integer 0 integers.Int)))) stmts.Empty))) ∷ Function (record { base = bases.Int; pointers = 0 }) (at 95 99) ([]) (stmts.Then (stmts.TryExcept (stmts.Then (stmts.TryExcept (stmts.Then (stmts.Evaluate (Some (trees.Call (at 121 135) (trees.Next (trees.Constant 136 (literals.Integer 3758096385 integers.Unsigned)) (trees.Next (trees.Constant 147 (literals.Integer 0 integers.Int)) (trees.Next (trees.Constant 149 (literals.Integer 0 integers.Int)) (trees.Next (trees.Constant 151 (literals.Integer 0 integers.Int)) trees.Done))))))) stmts.Empty) 157 (trees.Call (at 166 169) trees.Done) (stmts.Then (stmts.Evaluate (Some (trees.Call (at 174 177) (trees.Next (trees.Constant 178 (literals.Integer 8 integers.Int)) trees.Done)))) stmts.Empty)) stmts.Empty) 186 (trees.Binary (trees.Call (at 195 211) trees.Done) 213 (binary.Comparison comparisons.Equal) (trees.Constant 215 (literals.Integer 3758096386 integers.Unsigned))) (stmts.Then (stmts.Evaluate (Some (trees.Call (at 228 231) (trees.Next (trees.Variable (at 232 233)) trees.Done)))) stmts.Empty)) (stmts.Then (stmts.Return 238 (Some (trees.Constant 245 (literals.Integer 0 integers.Int)))) stmts.Empty)) ∷ []

abbrev pub raise_in_finally_text : List ℕ
raise_in_finally_text =
    codes "int main(void){ __try{ __try{ __try{ RaiseException(0xE0000001,0,0,0); } "
    ++ codes "__finally{ RaiseException(0xE0000002,0,0,0); } } "
    ++ codes "__except(GetExceptionCode()==0xE0000002){ put(2); } } __except(1){ put(1); } "
    ++ codes "return 0; }"

abbrev pub raise_in_finally : List ExternalDeclaration
raise_in_finally = Function (record { base = bases.Int; pointers = 0 }) (at 4 8) ([]) (stmts.Then (stmts.TryExcept (stmts.Then (stmts.TryExcept (stmts.Then (stmts.TryFinally (stmts.Then (stmts.Evaluate (Some (trees.Call (at 37 51) (trees.Next (trees.Constant 52 (literals.Integer 3758096385 integers.Unsigned)) (trees.Next (trees.Constant 63 (literals.Integer 0 integers.Int)) (trees.Next (trees.Constant 65 (literals.Integer 0 integers.Int)) (trees.Next (trees.Constant 67 (literals.Integer 0 integers.Int)) trees.Done))))))) stmts.Empty) 73 (stmts.Then (stmts.Evaluate (Some (trees.Call (at 84 98) (trees.Next (trees.Constant 99 (literals.Integer 3758096386 integers.Unsigned)) (trees.Next (trees.Constant 110 (literals.Integer 0 integers.Int)) (trees.Next (trees.Constant 112 (literals.Integer 0 integers.Int)) (trees.Next (trees.Constant 114 (literals.Integer 0 integers.Int)) trees.Done))))))) stmts.Empty)) stmts.Empty) 122 (trees.Binary (trees.Call (at 131 147) trees.Done) 149 (binary.Comparison comparisons.Equal) (trees.Constant 151 (literals.Integer 3758096386 integers.Unsigned))) (stmts.Then (stmts.Evaluate (Some (trees.Call (at 164 167) (trees.Next (trees.Constant 168 (literals.Integer 2 integers.Int)) trees.Done)))) stmts.Empty)) stmts.Empty) 176 (trees.Constant 185 (literals.Integer 1 integers.Int)) (stmts.Then (stmts.Evaluate (Some (trees.Call (at 189 192) (trees.Next (trees.Constant 193 (literals.Integer 1 integers.Int)) trees.Done)))) stmts.Empty)) (stmts.Then (stmts.Return 199 (Some (trees.Constant 206 (literals.Integer 0 integers.Int)))) stmts.Empty)) ∷ []

abbrev pub continue_noncontinuable_text : List ℕ
continue_noncontinuable_text =
    codes "int f(unsigned c){ if (c == 0xC0000025) return 1; return -1; } "
    ++ codes "int main(void){ __try{ RaiseException(0xE0000003,1,0,0); } "
    ++ codes "__except(f(GetExceptionCode())){ put(3); } return 0; }"

abbrev pub continue_noncontinuable : List ExternalDeclaration
continue_noncontinuable = Function (record { base = bases.Int; pointers = 0 }) (at 4 5) (record { of = (record { base = bases.Unsigned; pointers = 0 }); name = (at 15 16) } ∷ []) (stmts.Then (stmts.If 19 (trees.Binary (trees.Variable (at 23 24)) 25 (binary.Comparison comparisons.Equal) (trees.Constant 28 (literals.Integer 3221225509 integers.Unsigned))) (stmts.Return 40 (Some (trees.Constant 47 (literals.Integer 1 integers.Int))))) (stmts.Then (stmts.Return 50 (Some (trees.Unary 57 unary.Minus (trees.Constant 58 (literals.Integer 1 integers.Int))))) stmts.Empty)) ∷ Function (record { base = bases.Int; pointers = 0 }) (at 67 71) ([]) (stmts.Then (stmts.TryExcept (stmts.Then (stmts.Evaluate (Some (trees.Call (at 86 100) (trees.Next (trees.Constant 101 (literals.Integer 3758096387 integers.Unsigned)) (trees.Next (trees.Constant 112 (literals.Integer 1 integers.Int)) (trees.Next (trees.Constant 114 (literals.Integer 0 integers.Int)) (trees.Next (trees.Constant 116 (literals.Integer 0 integers.Int)) trees.Done))))))) stmts.Empty) 122 (trees.Call (at 131 132) (trees.Next (trees.Call (at 133 149) trees.Done) trees.Done)) (stmts.Then (stmts.Evaluate (Some (trees.Call (at 155 158) (trees.Next (trees.Constant 159 (literals.Integer 3 integers.Int)) trees.Done)))) stmts.Empty)) (stmts.Then (stmts.Return 165 (Some (trees.Constant 172 (literals.Integer 0 integers.Int)))) stmts.Empty)) ∷ []

abbrev pub registers_restored_at_landing_text : List ℕ
registers_restored_at_landing_text =
    codes "int g(int a){ a = a * 3; RaiseException(0xE0000001,0,0,0); return a; } "
    ++ codes "int main(void){ int x = 5; __try{ put(g(x)); } __except(1){ put(x); } return 0; }"

abbrev pub registers_restored_at_landing : List ExternalDeclaration
registers_restored_at_landing = Function (record { base = bases.Int; pointers = 0 }) (at 4 5) (record { of = (record { base = bases.Int; pointers = 0 }); name = (at 10 11) } ∷ []) (stmts.Then (stmts.Evaluate (Some (trees.Assign (trees.Variable (at 14 15)) 16 None (trees.Binary (trees.Variable (at 18 19)) 20 (binary.Arithmetic arithmetic.Multiply) (trees.Constant 22 (literals.Integer 3 integers.Int)))))) (stmts.Then (stmts.Evaluate (Some (trees.Call (at 25 39) (trees.Next (trees.Constant 40 (literals.Integer 3758096385 integers.Unsigned)) (trees.Next (trees.Constant 51 (literals.Integer 0 integers.Int)) (trees.Next (trees.Constant 53 (literals.Integer 0 integers.Int)) (trees.Next (trees.Constant 55 (literals.Integer 0 integers.Int)) trees.Done))))))) (stmts.Then (stmts.Return 59 (Some (trees.Variable (at 66 67)))) stmts.Empty))) ∷ Function (record { base = bases.Int; pointers = 0 }) (at 75 79) ([]) (stmts.Then (stmts.Declare bases.Int (record { pointers = 0; name = (at 91 92); length = None; initialiser = (Some (trees.Constant 95 (literals.Integer 5 integers.Int))) } ∷ [])) (stmts.Then (stmts.TryExcept (stmts.Then (stmts.Evaluate (Some (trees.Call (at 105 108) (trees.Next (trees.Call (at 109 110) (trees.Next (trees.Variable (at 111 112)) trees.Done)) trees.Done)))) stmts.Empty) 118 (trees.Constant 127 (literals.Integer 1 integers.Int)) (stmts.Then (stmts.Evaluate (Some (trees.Call (at 131 134) (trees.Next (trees.Variable (at 135 136)) trees.Done)))) stmts.Empty)) (stmts.Then (stmts.Return 141 (Some (trees.Constant 148 (literals.Integer 0 integers.Int)))) stmts.Empty))) ∷ []

abbrev pub deep_recursion_deep_text : List ℕ
deep_recursion_deep_text =
    codes "int r(int n){ return r(n + 1) + 1; } int main(void){ put(r(900)); return 0; }"

abbrev pub deep_recursion_deep : List ExternalDeclaration
deep_recursion_deep = Function (record { base = bases.Int; pointers = 0 }) (at 4 5) (record { of = (record { base = bases.Int; pointers = 0 }); name = (at 10 11) } ∷ []) (stmts.Then (stmts.Return 14 (Some (trees.Binary (trees.Call (at 21 22) (trees.Next (trees.Binary (trees.Variable (at 23 24)) 25 (binary.Arithmetic arithmetic.Add) (trees.Constant 27 (literals.Integer 1 integers.Int))) trees.Done)) 30 (binary.Arithmetic arithmetic.Add) (trees.Constant 32 (literals.Integer 1 integers.Int))))) stmts.Empty) ∷ Function (record { base = bases.Int; pointers = 0 }) (at 41 45) ([]) (stmts.Then (stmts.Evaluate (Some (trees.Call (at 53 56) (trees.Next (trees.Call (at 57 58) (trees.Next (trees.Constant 59 (literals.Integer 900 integers.Int)) trees.Done)) trees.Done)))) (stmts.Then (stmts.Return 66 (Some (trees.Constant 73 (literals.Integer 0 integers.Int)))) stmts.Empty)) ∷ []

abbrev pub deep_recursion_text : List ℕ
deep_recursion_text =
    codes "int r(int n){ if (n == 0) return 0; return r(n - 1) + 1; } "
    ++ codes "int main(void){ put(r(900)); return 0; }"

abbrev pub deep_recursion : List ExternalDeclaration
deep_recursion = Function (record { base = bases.Int; pointers = 0 }) (at 4 5) (record { of = (record { base = bases.Int; pointers = 0 }); name = (at 10 11) } ∷ []) (stmts.Then (stmts.If 14 (trees.Binary (trees.Variable (at 18 19)) 20 (binary.Comparison comparisons.Equal) (trees.Constant 23 (literals.Integer 0 integers.Int))) (stmts.Return 26 (Some (trees.Constant 33 (literals.Integer 0 integers.Int))))) (stmts.Then (stmts.Return 36 (Some (trees.Binary (trees.Call (at 43 44) (trees.Next (trees.Binary (trees.Variable (at 45 46)) 47 (binary.Arithmetic arithmetic.Subtract) (trees.Constant 49 (literals.Integer 1 integers.Int))) trees.Done)) 52 (binary.Arithmetic arithmetic.Add) (trees.Constant 54 (literals.Integer 1 integers.Int))))) stmts.Empty)) ∷ Function (record { base = bases.Int; pointers = 0 }) (at 63 67) ([]) (stmts.Then (stmts.Evaluate (Some (trees.Call (at 75 78) (trees.Next (trees.Call (at 79 80) (trees.Next (trees.Constant 81 (literals.Integer 900 integers.Int)) trees.Done)) trees.Done)))) (stmts.Then (stmts.Return 88 (Some (trees.Constant 95 (literals.Integer 0 integers.Int)))) stmts.Empty)) ∷ []

abbrev pub store_across_pages_text : List ℕ
store_across_pages_text =
    codes "int main(void){ protect((void*)0x20000000,2); __try{ *(int*)0x20000FFE = 0x01010101; "
    ++ codes "} __except(1){ put(*(short*)0x20000FFE); } return 0; }"

abbrev pub store_across_pages : List ExternalDeclaration
store_across_pages = Function (record { base = bases.Int; pointers = 0 }) (at 4 8) ([]) (stmts.Then (stmts.Evaluate (Some (trees.Call (at 16 23) (trees.Next (trees.Cast 24 (record { base = bases.Void; pointers = 1 }) (trees.Constant 31 (literals.Integer 536870912 integers.Int))) (trees.Next (trees.Constant 42 (literals.Integer 2 integers.Int)) trees.Done))))) (stmts.Then (stmts.TryExcept (stmts.Then (stmts.Evaluate (Some (trees.Assign (trees.Unary 53 unary.Indirection (trees.Cast 54 (record { base = bases.Int; pointers = 1 }) (trees.Constant 60 (literals.Integer 536875006 integers.Int)))) 71 None (trees.Constant 73 (literals.Integer 16843009 integers.Int))))) stmts.Empty) 87 (trees.Constant 96 (literals.Integer 1 integers.Int)) (stmts.Then (stmts.Evaluate (Some (trees.Call (at 100 103) (trees.Next (trees.Unary 104 unary.Indirection (trees.Cast 105 (record { base = bases.Short; pointers = 1 }) (trees.Constant 113 (literals.Integer 536875006 integers.Int)))) trees.Done)))) stmts.Empty)) (stmts.Then (stmts.Return 128 (Some (trees.Constant 135 (literals.Integer 0 integers.Int)))) stmts.Empty))) ∷ []

abbrev pub fault_address_in_filter_text : List ℕ
fault_address_in_filter_text =
    codes "int main(void){ __try{ put(*(char*)0x20000003); } "
    ++ codes "__except(put(GetExceptionInformation()->ExceptionRecord->ExceptionInformation[1]), "
    ++ codes "1){ put(4); } return 0; }"

abbrev pub fault_address_in_filter : List ExternalDeclaration
fault_address_in_filter = Function (record { base = bases.Int; pointers = 0 }) (at 4 8) ([]) (stmts.Then (stmts.TryExcept (stmts.Then (stmts.Evaluate (Some (trees.Call (at 23 26) (trees.Next (trees.Unary 27 unary.Indirection (trees.Cast 28 (record { base = bases.Char; pointers = 1 }) (trees.Constant 35 (literals.Integer 536870915 integers.Int)))) trees.Done)))) stmts.Empty) 50 (trees.Comma (trees.Call (at 59 62) (trees.Next (trees.Information 63 (record_fields.Information 1 128)) trees.Done)) 131 (trees.Constant 133 (literals.Integer 1 integers.Int))) (stmts.Then (stmts.Evaluate (Some (trees.Call (at 137 140) (trees.Next (trees.Constant 141 (literals.Integer 4 integers.Int)) trees.Done)))) stmts.Empty)) (stmts.Then (stmts.Return 147 (Some (trees.Constant 154 (literals.Integer 0 integers.Int)))) stmts.Empty)) ∷ []

abbrev pub sum_to_argument_0_text : List ℕ
sum_to_argument_0_text =
    codes "int main(long long n){ long long s = 0; while (n > 0){ s = s + n; n = n - 1; } "
    ++ codes "put(s); return 0; }"

abbrev pub sum_to_argument_0 : List ExternalDeclaration
sum_to_argument_0 = Function (record { base = bases.Int; pointers = 0 }) (at 4 8) (record { of = (record { base = bases.LongLong; pointers = 0 }); name = (at 19 20) } ∷ []) (stmts.Then (stmts.Declare bases.LongLong (record { pointers = 0; name = (at 33 34); length = None; initialiser = (Some (trees.Constant 37 (literals.Integer 0 integers.Int))) } ∷ [])) (stmts.Then (stmts.While 40 (trees.Binary (trees.Variable (at 47 48)) 49 (binary.Comparison comparisons.Greater) (trees.Constant 51 (literals.Integer 0 integers.Int))) (stmts.Block (stmts.Then (stmts.Evaluate (Some (trees.Assign (trees.Variable (at 55 56)) 57 None (trees.Binary (trees.Variable (at 59 60)) 61 (binary.Arithmetic arithmetic.Add) (trees.Variable (at 63 64)))))) (stmts.Then (stmts.Evaluate (Some (trees.Assign (trees.Variable (at 66 67)) 68 None (trees.Binary (trees.Variable (at 70 71)) 72 (binary.Arithmetic arithmetic.Subtract) (trees.Constant 74 (literals.Integer 1 integers.Int)))))) stmts.Empty)))) (stmts.Then (stmts.Evaluate (Some (trees.Call (at 79 82) (trees.Next (trees.Variable (at 83 84)) trees.Done)))) (stmts.Then (stmts.Return 87 (Some (trees.Constant 94 (literals.Integer 0 integers.Int)))) stmts.Empty)))) ∷ []

abbrev pub sum_to_argument_9_text : List ℕ
sum_to_argument_9_text =
    codes "int main(long long n){ long long s = 0; while (n > 0){ s = s + n; n = n - 1; } "
    ++ codes "put(s); return 0; }"

abbrev pub sum_to_argument_9 : List ExternalDeclaration
sum_to_argument_9 = Function (record { base = bases.Int; pointers = 0 }) (at 4 8) (record { of = (record { base = bases.LongLong; pointers = 0 }); name = (at 19 20) } ∷ []) (stmts.Then (stmts.Declare bases.LongLong (record { pointers = 0; name = (at 33 34); length = None; initialiser = (Some (trees.Constant 37 (literals.Integer 0 integers.Int))) } ∷ [])) (stmts.Then (stmts.While 40 (trees.Binary (trees.Variable (at 47 48)) 49 (binary.Comparison comparisons.Greater) (trees.Constant 51 (literals.Integer 0 integers.Int))) (stmts.Block (stmts.Then (stmts.Evaluate (Some (trees.Assign (trees.Variable (at 55 56)) 57 None (trees.Binary (trees.Variable (at 59 60)) 61 (binary.Arithmetic arithmetic.Add) (trees.Variable (at 63 64)))))) (stmts.Then (stmts.Evaluate (Some (trees.Assign (trees.Variable (at 66 67)) 68 None (trees.Binary (trees.Variable (at 70 71)) 72 (binary.Arithmetic arithmetic.Subtract) (trees.Constant 74 (literals.Integer 1 integers.Int)))))) stmts.Empty)))) (stmts.Then (stmts.Evaluate (Some (trees.Call (at 79 82) (trees.Next (trees.Variable (at 83 84)) trees.Done)))) (stmts.Then (stmts.Return 87 (Some (trees.Constant 94 (literals.Integer 0 integers.Int)))) stmts.Empty)))) ∷ []

abbrev pub misplaced_jumps_leave_text : List ℕ
misplaced_jumps_leave_text = codes "int main(void){ __leave; }"

abbrev pub misplaced_jumps_leave : List ExternalDeclaration
misplaced_jumps_leave = Function (record { base = bases.Int; pointers = 0 }) (at 4 8) ([]) (stmts.Then (stmts.Leave 16) stmts.Empty) ∷ []

abbrev pub misplaced_jumps_return_text : List ℕ
misplaced_jumps_return_text = codes "int main(void){ __try{ } __finally{ return 1; } }"

abbrev pub misplaced_jumps_return : List ExternalDeclaration
misplaced_jumps_return = Function (record { base = bases.Int; pointers = 0 }) (at 4 8) ([]) (stmts.Then (stmts.TryFinally stmts.Empty 25 (stmts.Then (stmts.Return 36 (Some (trees.Constant 43 (literals.Integer 1 integers.Int)))) stmts.Empty)) stmts.Empty) ∷ []

abbrev pub undefined_reserved_access_text : List ℕ
undefined_reserved_access_text = codes "int main(void){ put(1); return *(int*)0x70000000; }"

abbrev pub undefined_reserved_access : List ExternalDeclaration
undefined_reserved_access = Function (record { base = bases.Int; pointers = 0 }) (at 4 8) ([]) (stmts.Then (stmts.Evaluate (Some (trees.Call (at 16 19) (trees.Next (trees.Constant 20 (literals.Integer 1 integers.Int)) trees.Done)))) (stmts.Then (stmts.Return 24 (Some (trees.Unary 31 unary.Indirection (trees.Cast 32 (record { base = bases.Int; pointers = 1 }) (trees.Constant 38 (literals.Integer 1879048192 integers.Int)))))) stmts.Empty)) ∷ []

abbrev pub conversions_and_shifts_text : List ℕ
conversions_and_shifts_text =
    codes "int main(void){ put((char)200); put(1u - 2); put(-7 / 2); put(-7 % 2); "
    ++ codes "put(1 << 33); return 0; }"

abbrev pub conversions_and_shifts : List ExternalDeclaration
conversions_and_shifts = Function (record { base = bases.Int; pointers = 0 }) (at 4 8) ([]) (stmts.Then (stmts.Evaluate (Some (trees.Call (at 16 19) (trees.Next (trees.Cast 20 (record { base = bases.Char; pointers = 0 }) (trees.Constant 26 (literals.Integer 200 integers.Int))) trees.Done)))) (stmts.Then (stmts.Evaluate (Some (trees.Call (at 32 35) (trees.Next (trees.Binary (trees.Constant 36 (literals.Integer 1 integers.Unsigned)) 39 (binary.Arithmetic arithmetic.Subtract) (trees.Constant 41 (literals.Integer 2 integers.Int))) trees.Done)))) (stmts.Then (stmts.Evaluate (Some (trees.Call (at 45 48) (trees.Next (trees.Binary (trees.Unary 49 unary.Minus (trees.Constant 50 (literals.Integer 7 integers.Int))) 52 (binary.Arithmetic arithmetic.Divide) (trees.Constant 54 (literals.Integer 2 integers.Int))) trees.Done)))) (stmts.Then (stmts.Evaluate (Some (trees.Call (at 58 61) (trees.Next (trees.Binary (trees.Unary 62 unary.Minus (trees.Constant 63 (literals.Integer 7 integers.Int))) 65 (binary.Arithmetic arithmetic.Remainder) (trees.Constant 67 (literals.Integer 2 integers.Int))) trees.Done)))) (stmts.Then (stmts.Evaluate (Some (trees.Call (at 71 74) (trees.Next (trees.Binary (trees.Constant 75 (literals.Integer 1 integers.Int)) 77 (binary.Arithmetic arithmetic.ShiftLeft) (trees.Constant 80 (literals.Integer 33 integers.Int))) trees.Done)))) (stmts.Then (stmts.Return 85 (Some (trees.Constant 92 (literals.Integer 0 integers.Int)))) stmts.Empty)))))) ∷ []

abbrev pub division_by_zero_traced_text : List ℕ
division_by_zero_traced_text = codes "int main(void){ put(1/0); return 0; }"

abbrev pub division_by_zero_traced : List ExternalDeclaration
division_by_zero_traced = Function (record { base = bases.Int; pointers = 0 }) (at 4 8) ([]) (stmts.Then (stmts.Evaluate (Some (trees.Call (at 16 19) (trees.Next (trees.Binary (trees.Constant 20 (literals.Integer 1 integers.Int)) 21 (binary.Arithmetic arithmetic.Divide) (trees.Constant 22 (literals.Integer 0 integers.Int))) trees.Done)))) (stmts.Then (stmts.Return 26 (Some (trees.Constant 33 (literals.Integer 0 integers.Int)))) stmts.Empty)) ∷ []

abbrev pub address_of_local_text : List ℕ
address_of_local_text = codes "int main(void){ int x; return &x == 0; }"

abbrev pub address_of_local : List ExternalDeclaration
address_of_local = Function (record { base = bases.Int; pointers = 0 }) (at 4 8) ([]) (stmts.Then (stmts.Declare bases.Int (record { pointers = 0; name = (at 20 21); length = None; initialiser = None } ∷ [])) (stmts.Then (stmts.Return 23 (Some (trees.Binary (trees.Unary 30 unary.AddressOf (trees.Variable (at 31 32))) 33 (binary.Comparison comparisons.Equal) (trees.Constant 36 (literals.Integer 0 integers.Int))))) stmts.Empty)) ∷ []

abbrev pub local_array_sum_text : List ℕ
local_array_sum_text =
    codes "int s(int *p, int n){ int t = 0; int i; for (i = 0; i < n; i++) t = t + p[i]; "
    ++ codes "return t; } int main(void){ int a[4]; a[1] = 5; a[3] = 7; put(s(a, 4)); "
    ++ codes "put((long long)a); return 0; }"

abbrev pub local_array_sum : List ExternalDeclaration
local_array_sum = Function (record { base = bases.Int; pointers = 0 }) (at 4 5) (record { of = (record { base = bases.Int; pointers = 1 }); name = (at 11 12) } ∷ record { of = (record { base = bases.Int; pointers = 0 }); name = (at 18 19) } ∷ []) (stmts.Then (stmts.Declare bases.Int (record { pointers = 0; name = (at 26 27); length = None; initialiser = (Some (trees.Constant 30 (literals.Integer 0 integers.Int))) } ∷ [])) (stmts.Then (stmts.Declare bases.Int (record { pointers = 0; name = (at 37 38); length = None; initialiser = None } ∷ [])) (stmts.Then (stmts.For 40 (stmts.Evaluating (Some (trees.Assign (trees.Variable (at 45 46)) 47 None (trees.Constant 49 (literals.Integer 0 integers.Int))))) (Some (trees.Binary (trees.Variable (at 52 53)) 54 (binary.Comparison comparisons.Less) (trees.Variable (at 56 57)))) (Some (trees.Postfix (trees.Variable (at 59 60)) increments.Increment 60)) (stmts.Evaluate (Some (trees.Assign (trees.Variable (at 64 65)) 66 None (trees.Binary (trees.Variable (at 68 69)) 70 (binary.Arithmetic arithmetic.Add) (trees.Index (trees.Variable (at 72 73)) 73 (trees.Variable (at 74 75)))))))) (stmts.Then (stmts.Return 78 (Some (trees.Variable (at 85 86)))) stmts.Empty)))) ∷ Function (record { base = bases.Int; pointers = 0 }) (at 94 98) ([]) (stmts.Then (stmts.Declare bases.Int (record { pointers = 0; name = (at 110 111); length = (Some (record { at = 112; value = 4 })); initialiser = None } ∷ [])) (stmts.Then (stmts.Evaluate (Some (trees.Assign (trees.Index (trees.Variable (at 116 117)) 117 (trees.Constant 118 (literals.Integer 1 integers.Int))) 121 None (trees.Constant 123 (literals.Integer 5 integers.Int))))) (stmts.Then (stmts.Evaluate (Some (trees.Assign (trees.Index (trees.Variable (at 126 127)) 127 (trees.Constant 128 (literals.Integer 3 integers.Int))) 131 None (trees.Constant 133 (literals.Integer 7 integers.Int))))) (stmts.Then (stmts.Evaluate (Some (trees.Call (at 136 139) (trees.Next (trees.Call (at 140 141) (trees.Next (trees.Variable (at 142 143)) (trees.Next (trees.Constant 145 (literals.Integer 4 integers.Int)) trees.Done))) trees.Done)))) (stmts.Then (stmts.Evaluate (Some (trees.Call (at 150 153) (trees.Next (trees.Cast 154 (record { base = bases.LongLong; pointers = 0 }) (trees.Variable (at 165 166))) trees.Done)))) (stmts.Then (stmts.Return 169 (Some (trees.Constant 176 (literals.Integer 0 integers.Int)))) stmts.Empty)))))) ∷ []

abbrev pub data_stack_pointer_in_handlers_text : List ℕ
data_stack_pointer_in_handlers_text =
    codes "int g(void){ int b[4]; *(int*)0 = 1; return 0; } int h(void){ int c = 3; int *q "
    ++ codes "= &c; return (int)(long long)q; } int main(void){ int x; int *p = &x; __try{ "
    ++ codes "g(); } __except(put(h() - (int)(long long)p), 1){ put(h() - (int)(long long)p); "
    ++ codes "} return 0; }"

abbrev pub data_stack_pointer_in_handlers : List ExternalDeclaration
data_stack_pointer_in_handlers = Function (record { base = bases.Int; pointers = 0 }) (at 4 5) ([]) (stmts.Then (stmts.Declare bases.Int (record { pointers = 0; name = (at 17 18); length = (Some (record { at = 19; value = 4 })); initialiser = None } ∷ [])) (stmts.Then (stmts.Evaluate (Some (trees.Assign (trees.Unary 23 unary.Indirection (trees.Cast 24 (record { base = bases.Int; pointers = 1 }) (trees.Constant 30 (literals.Integer 0 integers.Int)))) 32 None (trees.Constant 34 (literals.Integer 1 integers.Int))))) (stmts.Then (stmts.Return 37 (Some (trees.Constant 44 (literals.Integer 0 integers.Int)))) stmts.Empty))) ∷ Function (record { base = bases.Int; pointers = 0 }) (at 53 54) ([]) (stmts.Then (stmts.Declare bases.Int (record { pointers = 0; name = (at 66 67); length = None; initialiser = (Some (trees.Constant 70 (literals.Integer 3 integers.Int))) } ∷ [])) (stmts.Then (stmts.Declare bases.Int (record { pointers = 1; name = (at 78 79); length = None; initialiser = (Some (trees.Unary 82 unary.AddressOf (trees.Variable (at 83 84)))) } ∷ [])) (stmts.Then (stmts.Return 86 (Some (trees.Cast 93 (record { base = bases.Int; pointers = 0 }) (trees.Cast 98 (record { base = bases.LongLong; pointers = 0 }) (trees.Variable (at 109 110)))))) stmts.Empty))) ∷ Function (record { base = bases.Int; pointers = 0 }) (at 118 122) ([]) (stmts.Then (stmts.Declare bases.Int (record { pointers = 0; name = (at 134 135); length = None; initialiser = None } ∷ [])) (stmts.Then (stmts.Declare bases.Int (record { pointers = 1; name = (at 142 143); length = None; initialiser = (Some (trees.Unary 146 unary.AddressOf (trees.Variable (at 147 148)))) } ∷ [])) (stmts.Then (stmts.TryExcept (stmts.Then (stmts.Evaluate (Some (trees.Call (at 157 158) trees.Done))) stmts.Empty) 164 (trees.Comma (trees.Call (at 173 176) (trees.Next (trees.Binary (trees.Call (at 177 178) trees.Done) 181 (binary.Arithmetic arithmetic.Subtract) (trees.Cast 183 (record { base = bases.Int; pointers = 0 }) (trees.Cast 188 (record { base = bases.LongLong; pointers = 0 }) (trees.Variable (at 199 200))))) trees.Done)) 201 (trees.Constant 203 (literals.Integer 1 integers.Int))) (stmts.Then (stmts.Evaluate (Some (trees.Call (at 207 210) (trees.Next (trees.Binary (trees.Call (at 211 212) trees.Done) 215 (binary.Arithmetic arithmetic.Subtract) (trees.Cast 217 (record { base = bases.Int; pointers = 0 }) (trees.Cast 222 (record { base = bases.LongLong; pointers = 0 }) (trees.Variable (at 233 234))))) trees.Done)))) stmts.Empty)) (stmts.Then (stmts.Return 239 (Some (trees.Constant 246 (literals.Integer 0 integers.Int)))) stmts.Empty)))) ∷ []

abbrev pub six_arguments_text : List ℕ
six_arguments_text =
    codes "int f(int a,int b,int c,int d,int e,int g){ return a-b+c-d+e-g; } "
    ++ codes "int main(void){ put(f(1,2,3,4,5,6)); return 0; }"

abbrev pub six_arguments : List ExternalDeclaration
six_arguments = Function (record { base = bases.Int; pointers = 0 }) (at 4 5) (record { of = (record { base = bases.Int; pointers = 0 }); name = (at 10 11) } ∷ record { of = (record { base = bases.Int; pointers = 0 }); name = (at 16 17) } ∷ record { of = (record { base = bases.Int; pointers = 0 }); name = (at 22 23) } ∷ record { of = (record { base = bases.Int; pointers = 0 }); name = (at 28 29) } ∷ record { of = (record { base = bases.Int; pointers = 0 }); name = (at 34 35) } ∷ record { of = (record { base = bases.Int; pointers = 0 }); name = (at 40 41) } ∷ []) (stmts.Then (stmts.Return 44 (Some (trees.Binary (trees.Binary (trees.Binary (trees.Binary (trees.Binary (trees.Variable (at 51 52)) 52 (binary.Arithmetic arithmetic.Subtract) (trees.Variable (at 53 54))) 54 (binary.Arithmetic arithmetic.Add) (trees.Variable (at 55 56))) 56 (binary.Arithmetic arithmetic.Subtract) (trees.Variable (at 57 58))) 58 (binary.Arithmetic arithmetic.Add) (trees.Variable (at 59 60))) 60 (binary.Arithmetic arithmetic.Subtract) (trees.Variable (at 61 62))))) stmts.Empty) ∷ Function (record { base = bases.Int; pointers = 0 }) (at 70 74) ([]) (stmts.Then (stmts.Evaluate (Some (trees.Call (at 82 85) (trees.Next (trees.Call (at 86 87) (trees.Next (trees.Constant 88 (literals.Integer 1 integers.Int)) (trees.Next (trees.Constant 90 (literals.Integer 2 integers.Int)) (trees.Next (trees.Constant 92 (literals.Integer 3 integers.Int)) (trees.Next (trees.Constant 94 (literals.Integer 4 integers.Int)) (trees.Next (trees.Constant 96 (literals.Integer 5 integers.Int)) (trees.Next (trees.Constant 98 (literals.Integer 6 integers.Int)) trees.Done))))))) trees.Done)))) (stmts.Then (stmts.Return 103 (Some (trees.Constant 110 (literals.Integer 0 integers.Int)))) stmts.Empty)) ∷ []

abbrev pub two_filters_of_one_fault_text : List ℕ
two_filters_of_one_fault_text =
    codes "int main(void){ __try{ __try{ *(char*)8 = 1; } __except(0){ put(1); } } "
    ++ codes "__except(GetExceptionInformation()->ExceptionRecord->NumberParameters){ put(2); } "
    ++ codes "return 0; }"

abbrev pub two_filters_of_one_fault : List ExternalDeclaration
two_filters_of_one_fault = Function (record { base = bases.Int; pointers = 0 }) (at 4 8) ([]) (stmts.Then (stmts.TryExcept (stmts.Then (stmts.TryExcept (stmts.Then (stmts.Evaluate (Some (trees.Assign (trees.Unary 30 unary.Indirection (trees.Cast 31 (record { base = bases.Char; pointers = 1 }) (trees.Constant 38 (literals.Integer 8 integers.Int)))) 40 None (trees.Constant 42 (literals.Integer 1 integers.Int))))) stmts.Empty) 47 (trees.Constant 56 (literals.Integer 0 integers.Int)) (stmts.Then (stmts.Evaluate (Some (trees.Call (at 60 63) (trees.Next (trees.Constant 64 (literals.Integer 1 integers.Int)) trees.Done)))) stmts.Empty)) stmts.Empty) 72 (trees.Information 81 record_fields.Count) (stmts.Then (stmts.Evaluate (Some (trees.Call (at 144 147) (trees.Next (trees.Constant 148 (literals.Integer 2 integers.Int)) trees.Done)))) stmts.Empty)) (stmts.Then (stmts.Return 154 (Some (trees.Constant 161 (literals.Integer 0 integers.Int)))) stmts.Empty)) ∷ []

abbrev pub break_through_finally_text : List ℕ
break_through_finally_text =
    codes "int main(void){ int i; for (i = 0; i < 3; i++){ __try{ if (i == 1) break; } "
    ++ codes "__finally{ put(AbnormalTermination()); } } return i; }"

abbrev pub break_through_finally : List ExternalDeclaration
break_through_finally = Function (record { base = bases.Int; pointers = 0 }) (at 4 8) ([]) (stmts.Then (stmts.Declare bases.Int (record { pointers = 0; name = (at 20 21); length = None; initialiser = None } ∷ [])) (stmts.Then (stmts.For 23 (stmts.Evaluating (Some (trees.Assign (trees.Variable (at 28 29)) 30 None (trees.Constant 32 (literals.Integer 0 integers.Int))))) (Some (trees.Binary (trees.Variable (at 35 36)) 37 (binary.Comparison comparisons.Less) (trees.Constant 39 (literals.Integer 3 integers.Int)))) (Some (trees.Postfix (trees.Variable (at 42 43)) increments.Increment 43)) (stmts.Block (stmts.Then (stmts.TryFinally (stmts.Then (stmts.If 55 (trees.Binary (trees.Variable (at 59 60)) 61 (binary.Comparison comparisons.Equal) (trees.Constant 64 (literals.Integer 1 integers.Int))) (stmts.Break 67)) stmts.Empty) 76 (stmts.Then (stmts.Evaluate (Some (trees.Call (at 87 90) (trees.Next (trees.Call (at 91 110) trees.Done) trees.Done)))) stmts.Empty)) stmts.Empty))) (stmts.Then (stmts.Return 119 (Some (trees.Variable (at 126 127)))) stmts.Empty))) ∷ []

abbrev pub return_through_two_finallys_text : List ℕ
return_through_two_finallys_text =
    codes "int main(void){ __try{ __try{ return 4; } __finally{ put(1); } } __finally{ put(2); "
    ++ codes "} return 0; }"

abbrev pub return_through_two_finallys : List ExternalDeclaration
return_through_two_finallys = Function (record { base = bases.Int; pointers = 0 }) (at 4 8) ([]) (stmts.Then (stmts.TryFinally (stmts.Then (stmts.TryFinally (stmts.Then (stmts.Return 30 (Some (trees.Constant 37 (literals.Integer 4 integers.Int)))) stmts.Empty) 42 (stmts.Then (stmts.Evaluate (Some (trees.Call (at 53 56) (trees.Next (trees.Constant 57 (literals.Integer 1 integers.Int)) trees.Done)))) stmts.Empty)) stmts.Empty) 65 (stmts.Then (stmts.Evaluate (Some (trees.Call (at 76 79) (trees.Next (trees.Constant 80 (literals.Integer 2 integers.Int)) trees.Done)))) stmts.Empty)) (stmts.Then (stmts.Return 86 (Some (trees.Constant 93 (literals.Integer 0 integers.Int)))) stmts.Empty)) ∷ []

abbrev pub target_in_outer_activation_text : List ℕ
target_in_outer_activation_text =
    codes "int f(int n){ __try{ __try{ if (n) f(n - 1); else RaiseException(0xE0000001,0,0,0); "
    ++ codes "} __except(n == 1){ put(n); } } __finally{ put(10 + n); } return 0; } "
    ++ codes "int main(void){ f(1); return 0; }"

abbrev pub target_in_outer_activation : List ExternalDeclaration
target_in_outer_activation = Function (record { base = bases.Int; pointers = 0 }) (at 4 5) (record { of = (record { base = bases.Int; pointers = 0 }); name = (at 10 11) } ∷ []) (stmts.Then (stmts.TryFinally (stmts.Then (stmts.TryExcept (stmts.Then (stmts.IfElse 28 (trees.Variable (at 32 33)) (stmts.Evaluate (Some (trees.Call (at 35 36) (trees.Next (trees.Binary (trees.Variable (at 37 38)) 39 (binary.Arithmetic arithmetic.Subtract) (trees.Constant 41 (literals.Integer 1 integers.Int))) trees.Done)))) (stmts.Evaluate (Some (trees.Call (at 50 64) (trees.Next (trees.Constant 65 (literals.Integer 3758096385 integers.Unsigned)) (trees.Next (trees.Constant 76 (literals.Integer 0 integers.Int)) (trees.Next (trees.Constant 78 (literals.Integer 0 integers.Int)) (trees.Next (trees.Constant 80 (literals.Integer 0 integers.Int)) trees.Done)))))))) stmts.Empty) 86 (trees.Binary (trees.Variable (at 95 96)) 97 (binary.Comparison comparisons.Equal) (trees.Constant 100 (literals.Integer 1 integers.Int))) (stmts.Then (stmts.Evaluate (Some (trees.Call (at 104 107) (trees.Next (trees.Variable (at 108 109)) trees.Done)))) stmts.Empty)) stmts.Empty) 116 (stmts.Then (stmts.Evaluate (Some (trees.Call (at 127 130) (trees.Next (trees.Binary (trees.Constant 131 (literals.Integer 10 integers.Int)) 134 (binary.Arithmetic arithmetic.Add) (trees.Variable (at 136 137))) trees.Done)))) stmts.Empty)) (stmts.Then (stmts.Return 142 (Some (trees.Constant 149 (literals.Integer 0 integers.Int)))) stmts.Empty)) ∷ Function (record { base = bases.Int; pointers = 0 }) (at 158 162) ([]) (stmts.Then (stmts.Evaluate (Some (trees.Call (at 170 171) (trees.Next (trees.Constant 172 (literals.Integer 1 integers.Int)) trees.Done)))) (stmts.Then (stmts.Return 176 (Some (trees.Constant 183 (literals.Integer 0 integers.Int)))) stmts.Empty)) ∷ []

abbrev pub filter_asked_once_under_collision_text : List ℕ
filter_asked_once_under_collision_text =
    codes "void g(void){ __try{ RaiseException(0xE0000001,0,0,0); } __except(0){ put(7); } } "
    ++ codes "int main(void){ __try{ __try{ g(); } __finally{ RaiseException(0xE0000002,0,0,0); } "
    ++ codes "} __except(1){ put(GetExceptionCode() == 0xE0000002); } return 0; }"

abbrev pub filter_asked_once_under_collision : List ExternalDeclaration
filter_asked_once_under_collision = Function (record { base = bases.Void; pointers = 0 }) (at 5 6) ([]) (stmts.Then (stmts.TryExcept (stmts.Then (stmts.Evaluate (Some (trees.Call (at 21 35) (trees.Next (trees.Constant 36 (literals.Integer 3758096385 integers.Unsigned)) (trees.Next (trees.Constant 47 (literals.Integer 0 integers.Int)) (trees.Next (trees.Constant 49 (literals.Integer 0 integers.Int)) (trees.Next (trees.Constant 51 (literals.Integer 0 integers.Int)) trees.Done))))))) stmts.Empty) 57 (trees.Constant 66 (literals.Integer 0 integers.Int)) (stmts.Then (stmts.Evaluate (Some (trees.Call (at 70 73) (trees.Next (trees.Constant 74 (literals.Integer 7 integers.Int)) trees.Done)))) stmts.Empty)) stmts.Empty) ∷ Function (record { base = bases.Int; pointers = 0 }) (at 86 90) ([]) (stmts.Then (stmts.TryExcept (stmts.Then (stmts.TryFinally (stmts.Then (stmts.Evaluate (Some (trees.Call (at 112 113) trees.Done))) stmts.Empty) 119 (stmts.Then (stmts.Evaluate (Some (trees.Call (at 130 144) (trees.Next (trees.Constant 145 (literals.Integer 3758096386 integers.Unsigned)) (trees.Next (trees.Constant 156 (literals.Integer 0 integers.Int)) (trees.Next (trees.Constant 158 (literals.Integer 0 integers.Int)) (trees.Next (trees.Constant 160 (literals.Integer 0 integers.Int)) trees.Done))))))) stmts.Empty)) stmts.Empty) 168 (trees.Constant 177 (literals.Integer 1 integers.Int)) (stmts.Then (stmts.Evaluate (Some (trees.Call (at 181 184) (trees.Next (trees.Binary (trees.Call (at 185 201) trees.Done) 204 (binary.Comparison comparisons.Equal) (trees.Constant 207 (literals.Integer 3758096386 integers.Unsigned))) trees.Done)))) stmts.Empty)) (stmts.Then (stmts.Return 222 (Some (trees.Constant 229 (literals.Integer 0 integers.Int)))) stmts.Empty)) ∷ []

abbrev pub collided_twice_text : List ℕ
collided_twice_text =
    codes "int main(void){ __try{ __try{ __try{ __try{ RaiseException(0xE0000001,0,0,0); } "
    ++ codes "__finally{ RaiseException(0xE0000002,0,0,0); } } "
    ++ codes "__finally{ RaiseException(0xE0000003,0,0,0); } } "
    ++ codes "__except(GetExceptionCode()==0xE0000003){ put(3); } } __except(1){ put(1); } "
    ++ codes "return 0; }"

abbrev pub collided_twice : List ExternalDeclaration
collided_twice = Function (record { base = bases.Int; pointers = 0 }) (at 4 8) ([]) (stmts.Then (stmts.TryExcept (stmts.Then (stmts.TryExcept (stmts.Then (stmts.TryFinally (stmts.Then (stmts.TryFinally (stmts.Then (stmts.Evaluate (Some (trees.Call (at 44 58) (trees.Next (trees.Constant 59 (literals.Integer 3758096385 integers.Unsigned)) (trees.Next (trees.Constant 70 (literals.Integer 0 integers.Int)) (trees.Next (trees.Constant 72 (literals.Integer 0 integers.Int)) (trees.Next (trees.Constant 74 (literals.Integer 0 integers.Int)) trees.Done))))))) stmts.Empty) 80 (stmts.Then (stmts.Evaluate (Some (trees.Call (at 91 105) (trees.Next (trees.Constant 106 (literals.Integer 3758096386 integers.Unsigned)) (trees.Next (trees.Constant 117 (literals.Integer 0 integers.Int)) (trees.Next (trees.Constant 119 (literals.Integer 0 integers.Int)) (trees.Next (trees.Constant 121 (literals.Integer 0 integers.Int)) trees.Done))))))) stmts.Empty)) stmts.Empty) 129 (stmts.Then (stmts.Evaluate (Some (trees.Call (at 140 154) (trees.Next (trees.Constant 155 (literals.Integer 3758096387 integers.Unsigned)) (trees.Next (trees.Constant 166 (literals.Integer 0 integers.Int)) (trees.Next (trees.Constant 168 (literals.Integer 0 integers.Int)) (trees.Next (trees.Constant 170 (literals.Integer 0 integers.Int)) trees.Done))))))) stmts.Empty)) stmts.Empty) 178 (trees.Binary (trees.Call (at 187 203) trees.Done) 205 (binary.Comparison comparisons.Equal) (trees.Constant 207 (literals.Integer 3758096387 integers.Unsigned))) (stmts.Then (stmts.Evaluate (Some (trees.Call (at 220 223) (trees.Next (trees.Constant 224 (literals.Integer 3 integers.Int)) trees.Done)))) stmts.Empty)) stmts.Empty) 232 (trees.Constant 241 (literals.Integer 1 integers.Int)) (stmts.Then (stmts.Evaluate (Some (trees.Call (at 245 248) (trees.Next (trees.Constant 249 (literals.Integer 1 integers.Int)) trees.Done)))) stmts.Empty)) (stmts.Then (stmts.Return 255 (Some (trees.Constant 262 (literals.Integer 0 integers.Int)))) stmts.Empty)) ∷ []

abbrev pub vectored_handler_asked_first_text : List ℕ
vectored_handler_asked_first_text =
    codes "int v(unsigned c, unsigned f){ put(c == 0xE0000001); return 0; } int "
    ++ codes "main(void){ AddVectoredExceptionHandler(1, v); __try{ "
    ++ codes "RaiseException(0xE0000001,0,0,0); } __except(2){ put(3); } return 0; }"

abbrev pub vectored_handler_asked_first : List ExternalDeclaration
vectored_handler_asked_first = Function (record { base = bases.Int; pointers = 0 }) (at 4 5) (record { of = (record { base = bases.Unsigned; pointers = 0 }); name = (at 15 16) } ∷ record { of = (record { base = bases.Unsigned; pointers = 0 }); name = (at 27 28) } ∷ []) (stmts.Then (stmts.Evaluate (Some (trees.Call (at 31 34) (trees.Next (trees.Binary (trees.Variable (at 35 36)) 37 (binary.Comparison comparisons.Equal) (trees.Constant 40 (literals.Integer 3758096385 integers.Unsigned))) trees.Done)))) (stmts.Then (stmts.Return 53 (Some (trees.Constant 60 (literals.Integer 0 integers.Int)))) stmts.Empty)) ∷ Function (record { base = bases.Int; pointers = 0 }) (at 69 73) ([]) (stmts.Then (stmts.Evaluate (Some (trees.Call (at 81 108) (trees.Next (trees.Constant 109 (literals.Integer 1 integers.Int)) (trees.Next (trees.Variable (at 112 113)) trees.Done))))) (stmts.Then (stmts.TryExcept (stmts.Then (stmts.Evaluate (Some (trees.Call (at 123 137) (trees.Next (trees.Constant 138 (literals.Integer 3758096385 integers.Unsigned)) (trees.Next (trees.Constant 149 (literals.Integer 0 integers.Int)) (trees.Next (trees.Constant 151 (literals.Integer 0 integers.Int)) (trees.Next (trees.Constant 153 (literals.Integer 0 integers.Int)) trees.Done))))))) stmts.Empty) 159 (trees.Constant 168 (literals.Integer 2 integers.Int)) (stmts.Then (stmts.Evaluate (Some (trees.Call (at 172 175) (trees.Next (trees.Constant 176 (literals.Integer 3 integers.Int)) trees.Done)))) stmts.Empty)) (stmts.Then (stmts.Return 182 (Some (trees.Constant 189 (literals.Integer 0 integers.Int)))) stmts.Empty))) ∷ []

abbrev pub vectored_handler_continues_text : List ℕ
vectored_handler_continues_text =
    codes "int v(unsigned c, unsigned f){ protect((void*)0x20000000,2); return -1; } "
    ++ codes "int main(void){ AddVectoredExceptionHandler(1, v); put(*(int*)0x20000000); "
    ++ codes "return 0; }"

abbrev pub vectored_handler_continues : List ExternalDeclaration
vectored_handler_continues = Function (record { base = bases.Int; pointers = 0 }) (at 4 5) (record { of = (record { base = bases.Unsigned; pointers = 0 }); name = (at 15 16) } ∷ record { of = (record { base = bases.Unsigned; pointers = 0 }); name = (at 27 28) } ∷ []) (stmts.Then (stmts.Evaluate (Some (trees.Call (at 31 38) (trees.Next (trees.Cast 39 (record { base = bases.Void; pointers = 1 }) (trees.Constant 46 (literals.Integer 536870912 integers.Int))) (trees.Next (trees.Constant 57 (literals.Integer 2 integers.Int)) trees.Done))))) (stmts.Then (stmts.Return 61 (Some (trees.Unary 68 unary.Minus (trees.Constant 69 (literals.Integer 1 integers.Int))))) stmts.Empty)) ∷ Function (record { base = bases.Int; pointers = 0 }) (at 78 82) ([]) (stmts.Then (stmts.Evaluate (Some (trees.Call (at 90 117) (trees.Next (trees.Constant 118 (literals.Integer 1 integers.Int)) (trees.Next (trees.Variable (at 121 122)) trees.Done))))) (stmts.Then (stmts.Evaluate (Some (trees.Call (at 125 128) (trees.Next (trees.Unary 129 unary.Indirection (trees.Cast 130 (record { base = bases.Int; pointers = 1 }) (trees.Constant 136 (literals.Integer 536870912 integers.Int)))) trees.Done)))) (stmts.Then (stmts.Return 149 (Some (trees.Constant 156 (literals.Integer 0 integers.Int)))) stmts.Empty))) ∷ []
