-- The text of the generated program of a number.
--
-- The main definition: `generated`.
use Rattle.std.specs.Prelude.{ℕ, zero, suc, ◌+◌, ◌%◌, List, [], ◌++◌, codes}
use Rattle.std.specs.Fmt.{decimal}
use Rattle.generated_program.specs.declared.generating.TheConstants.{FUNCTIONS}
use Rattle.generated_program.specs.declared.body.Body.{Body}
use Rattle.generated_program.specs.declared.body.Body.TheVariants.{Sum, Division, Return, Collision}

-- ---- a function: its name, and its body with a constant in it

abbrev pub before_constant : Body → List ℕ
before_constant Sum = codes "(int a){ return a + "
before_constant Division =
    codes "(int a){ int r = 0; __try{ r = a / (a - a); } __except(1){ r = a + "
before_constant Return = codes "(int a){ __try{ return a + "
before_constant Collision =
    codes "(int a){ int r = 0; __try{ __try{ RaiseException(0xE0000001,0,0,0); } "
    ++ codes "__finally{ RaiseException(0xE0000002,0,0,0); } } "
    ++ codes "__except(GetExceptionCode() == 0xE0000002){ r = a + "

-- and a space
abbrev pub after_constant : Body → List ℕ
after_constant Sum = codes "; } "
after_constant Division = codes "; } return r; } "
after_constant Return = codes "; } __finally{ g = g + AbnormalTermination(); } return 0; } "
after_constant Collision = codes "; } return r; } "

abbrev pub function_of : Body → ℕ → ℕ → List ℕ
function_of body k c =
    codes "int f" ++ decimal k ++ before_constant body ++ decimal c ++ after_constant body

-- a function's body, by the sum of its number and the program's modulo 4
abbrev pub body_numbered : ℕ → Body
body_numbered zero = Sum
body_numbered (suc zero) = Division
body_numbered (suc (suc zero)) = Return
body_numbered k = Collision

-- the function of number k in the program of number n
abbrev pub function : ℕ → ℕ → List ℕ
function n k = function_of (body_numbered ((n + k) % 4)) k ((n + k) % 97)

abbrev pub call : ℕ → List ℕ
call k = codes "s = f" ++ decimal k ++ codes "(s); "

-- ---- the program

-- the texts of the first k numbers, one after another
unfoldable pub for_each : (ℕ → List ℕ) → ℕ → List ℕ
for_each text zero = []
for_each text (suc k) = for_each text k ++ text k

-- the text of the program of a number, in one line: a global, 256 functions, and `main`, which
-- calls one after another. Function k has the body of (n + k) modulo 4 (`body_numbered`) with the
-- constant (n + k) modulo 97.
abbrev pub generated : ℕ → List ℕ
generated n =
    codes "int g; " ++ for_each (function n) FUNCTIONS
    ++ codes "int main(void){ int s = 0; __try{ " ++ for_each call FUNCTIONS
    ++ codes "} __except(1){ return 1; } put(s); put(g); return 0; }"
