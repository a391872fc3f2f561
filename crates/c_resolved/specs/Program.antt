-- Programs: what each is resolved to, and all rules that it breaks (C11, 6.9). Every function and
-- global is visible in the whole text.
--
-- The main definition: `resolve`.
use Rattle.std.specs.Prelude.{ℕ, zero, suc, ◌+◌, ◌-◌, ◌*◌, ◌/◌, ◌%◌, ◌^◌, Bool, true, false, not, ◌&&◌, if◌then◌else◌, List, [], ◌∷◌, ◌++◌, length, map, take, drop, replicate, Option, Some, None}
use Rattle.seh_num.specs.declared.width.Width.TheVariants.{W32, W64}
use Rattle.seh_num.specs.Widths.{low, wrapped}
use Rattle.host_layout.specs.declared.range.TheConstants.{FIRST_DATA}
use Rattle.c_lex.specs.declared.token.IntegerType.TheVariants as integers
use Rattle.c_operations.specs.declared.operation.Size.{Size}
use Rattle.c_checked.specs.Statement as checked
use Rattle.c_checked.specs.Program as checked_program
use Rattle.c_syntax.specs.declared.declaration.Constant.{Constant}
use Rattle.c_syntax.specs.declared.declaration.Length.{Length}
use Rattle.c_syntax.specs.declared.declaration.Parameter.{Parameter}
use Rattle.c_syntax.specs.declared.expression.Base.{Base}
use Rattle.c_syntax.specs.declared.expression.Base.TheVariants.{LongLong}
use Rattle.c_syntax.specs.declared.expression.CType.{CType}
use Rattle.c_syntax.specs.declared.expression.Literal.{Literal}
use Rattle.c_syntax.specs.declared.expression.Literal.TheVariants as literals
use Rattle.c_syntax.specs.declared.expression.Identifier.{Identifier}
use Rattle.c_syntax.specs.Program.{Initialiser, Single, Several, Global, ExternalDeclaration, Globals, Function}
use Rattle.c_syntax.specs.Statement.{Statements}
use Rattle.c_resolved.specs.declared.fault.Fault.TheVariants.{NoMain, Duplicate, TypeClash, BadInitialiser}
use Rattle.c_resolved.specs.Types.{plain, is_void, is_scalar, same_type, size_of, bytes_in}
use Rattle.c_resolved.specs.Operators.{int}
use Rattle.c_resolved.specs.Expressions.{Entity, LocalVariable, GlobalVariable, GlobalArray, UserFunction, FaultAt, fault_at}
use Rattle.c_resolved.specs.Scopes.{Scope, spelled, meaning_in}
use Rattle.c_resolved.specs.declared.variable.Variable.{Variable}
use Rattle.c_resolved.specs.Layout.{stored_bytes, layout_of, data_frame_of, base_local}
use Rattle.c_resolved.specs.Placed.{place_statements}
use Rattle.c_resolved.specs.Statements.{Nowhere, Near, Environment, unless_holds, length_faults, variable_of, is_taken, with_name, resolve_statements}

-- ---- globals

-- the address of the first byte of the globals
abbrev pub first_data : ℕ
first_data = FIRST_DATA

abbrev pub literal_value : Literal → ℕ
literal_value (literals.Integer n of) = n
literal_value (literals.CharacterConstant c) = wrapped W64 c

-- minus a number, modulo 2^64
abbrev pub minus : ℕ → ℕ
minus v = (2 ^ 64 - v) % 2 ^ 64

-- a literal is negated in its type: one of type `unsigned int` modulo 2^32 (C11, 6.2.5 and 6.5.3.3)
abbrev pub negated : Literal → ℕ
negated (literals.Integer n integers.Unsigned) = low W32 (minus n)
negated (literals.Integer n integers.Int) = minus n
negated (literals.Integer n integers.LongLong) = minus n
negated (literals.Integer n integers.UnsignedLongLong) = minus n
negated (literals.CharacterConstant c) = minus (wrapped W64 c)

-- modulo 2^64
abbrev pub constant_value : Constant → ℕ
constant_value c = if c.negative then negated c.literal else literal_value c.literal

-- the n lowest bytes of a number, the lowest first
abbrev pub bytes_of_number : ℕ → ℕ → List ℕ
bytes_of_number zero v = []
bytes_of_number (suc n) v = v % 256 ∷ bytes_of_number n (v / 256)

abbrev pub bytes_of_all : ℕ → List Constant → List ℕ
bytes_of_all n [] = []
bytes_of_all n (c ∷ cs) = bytes_of_number n (constant_value c) ++ bytes_of_all n cs

-- so many bytes, of which these are the first
abbrev pub filled : ℕ → List ℕ → List ℕ
filled n bytes = take n (bytes ++ replicate (n - length bytes) 0)

-- the bytes of a global at the start, and the faults of its initialiser (C11, 6.7.9)
pub record InitialValue : Type 0 where
  pub bytes : List ℕ
  pub faults : List FaultAt

-- the first constant too many
abbrev pub too_many : List Constant → List FaultAt
too_many [] = []
too_many (c ∷ cs) = fault_at c.at BadInitialiser

abbrev pub initial_value : CType → Option Length → Option Initialiser → InitialValue
initial_value t None None = record { bytes = replicate (stored_bytes t) 0; faults = [] }
initial_value t None (Some (Single c)) =
    record { bytes = bytes_of_number (stored_bytes t) (constant_value c); faults = [] }
initial_value t None (Some (Several at cs)) =
    record { bytes = replicate (stored_bytes t) 0; faults = fault_at at BadInitialiser }
initial_value t (Some l) None =
    record { bytes = replicate (l.value * stored_bytes t) 0; faults = [] }
initial_value t (Some l) (Some (Single c)) =
    record {
      bytes = replicate (l.value * stored_bytes t) 0;
      faults = fault_at c.at BadInitialiser;
    }
initial_value t (Some l) (Some (Several at cs)) =
    record {
      bytes = filled (l.value * stored_bytes t) (bytes_of_all (stored_bytes t) cs);
      faults = too_many (drop l.value cs);
    }

abbrev pub global_entity : CType → ℕ → Option Length → Entity
global_entity t a None = GlobalVariable a t
global_entity t a (Some l) = GlobalArray a t

-- ---- the names of the file

-- the names so far, the bytes of the globals so far, how many functions there are, and the faults
pub record File : Type 0 where
  pub scope : Scope
  pub bytes : List ℕ
  pub functions : ℕ
  pub faults : List FaultAt

-- a name of the file: its first declaration counts
abbrev pub named : List ℕ → Identifier → Entity → List ℕ → ℕ → List FaultAt → File → File
named text n e bytes functions faults file =
    let name = spelled text n in
    record {
      scope = with_name file.scope name e;
      bytes = bytes;
      functions = functions;
      faults =
          file.faults ++ unless_holds (not (is_taken file.scope name)) n.start Duplicate ++ faults;
    }

-- at natural alignment
abbrev pub padded : ℕ → List ℕ → List ℕ
padded n bytes = bytes ++ replicate ((n - length bytes % n) % n) 0

abbrev pub with_global : List ℕ → Base → Global → File → File
with_global text base g file =
    let t : CType = record { base = base; pointers = g.pointers } in
    let before = padded (bytes_in t) file.bytes in
    let b = initial_value t g.length g.initialiser in
    named text g.name (global_entity t (first_data + length before) g.length)
    (before ++ b.bytes) file.functions
    (unless_holds (is_scalar t) g.name.start TypeClash ++ length_faults g.length ++ b.faults) file

abbrev pub with_globals : List ℕ → Base → List Global → File → File
with_globals text base [] file = file
with_globals text base (g ∷ gs) file = with_globals text base gs (with_global text base g file)

abbrev pub parameter_types : List Parameter → List CType
parameter_types ps = map (λ p. p.of) ps

abbrev pub with_external_declaration : List ℕ → ExternalDeclaration → File → File
with_external_declaration text (Globals base gs) file = with_globals text base gs file
with_external_declaration text (Function t n ps body) file =
    named text n (UserFunction file.functions t (parameter_types ps)) file.bytes
    (file.functions + 1) [] file

abbrev pub file_of : List ℕ → List ExternalDeclaration → File → File
file_of text [] file = file
file_of text (x ∷ xs) file = file_of text xs (with_external_declaration text x file)

abbrev pub empty_file : File
empty_file = record { scope = []; bytes = []; functions = 0; faults = [] }

-- ---- functions

-- parameters are in the outermost block of the body
abbrev pub with_parameters : List ℕ → List Parameter → Scope → ℕ → Scope
with_parameters text [] block n = block
with_parameters text (p ∷ ps) block n =
    with_parameters text ps (with_name block (spelled text p.name) (LocalVariable n p.of)) (n + 1)

abbrev pub parameter_faults : List ℕ → List Parameter → Scope → List FaultAt
parameter_faults text [] block = []
parameter_faults text (p ∷ ps) block =
    unless_holds (not (is_taken block (spelled text p.name))) p.name.start Duplicate
    ++ unless_holds (is_scalar p.of) p.name.start TypeClash
    ++ parameter_faults text ps (with_name block (spelled text p.name) (LocalVariable 0 p.of))

abbrev pub result_size : CType → Option Size
result_size t = if is_void t then None else Some (size_of t)

pub record DeclaredFunctions : Type 0 where
  pub done : List checked_program.Function
  pub number : ℕ
  pub faults : List FaultAt

abbrev pub parameter_variable : Parameter → Variable
parameter_variable p = variable_of p.of None

abbrev pub around : List ℕ → Scope → CType → Environment
around text file t =
    record {
      text = text;
      outer = file;
      returns = t;
      loop = Nowhere;
      body = Nowhere;
      function = Near;
      code = false;
      abnormal = false;
    }

abbrev pub function_of : List ℕ → Scope → CType → Identifier → List Parameter → Statements → ℕ
    → DeclaredFunctions
function_of text file t n ps body number =
    let sizes = map (λ p. size_of p.of) ps in
    let m =
    resolve_statements body (around text file t) (with_parameters text ps [] 0)
    (record { sizes = sizes; variables = map parameter_variable ps; number = number }) in
    let draft = checked.statements m.done in
    let layout = layout_of m.counts.variables draft in
    record {
      done = record {
        name = spelled text n;
        parameters = sizes;
        locals = drop (length ps) m.counts.sizes ++ base_local layout;
        data_frame = data_frame_of (length ps) layout;
        returns = result_size t;
        body = place_statements layout draft;
      } ∷ [];
      number = m.counts.number;
      faults = parameter_faults text ps [] ++ m.faults;
    }

abbrev pub functions_of : List ℕ → Scope → List ExternalDeclaration → ℕ → DeclaredFunctions
functions_of text file [] number = record { done = []; number = number; faults = [] }
functions_of text file (Globals base gs ∷ xs) number = functions_of text file xs number
functions_of text file (Function t n ps body ∷ xs) number =
    let f = function_of text file t n ps body number in
    let rest = functions_of text file xs f.number in
    record { done = f.done ++ rest.done; number = rest.number; faults = f.faults ++ rest.faults }

-- ---- main

abbrev pub main_name : List ℕ
main_name = 109 ∷ 97 ∷ 105 ∷ 110 ∷ []

-- `int main(void)`, or with one long long
abbrev pub are_main_parameters : List CType → Bool
are_main_parameters [] = true
are_main_parameters (t ∷ []) = same_type t (plain LongLong)
are_main_parameters ts = false

-- the place of the name of the function of this number
abbrev pub place_of_function : List ExternalDeclaration → ℕ → ℕ
place_of_function [] k = 0
place_of_function (Globals base gs ∷ xs) k = place_of_function xs k
place_of_function (Function t n ps body ∷ xs) zero = n.start
place_of_function (Function t n ps body ∷ xs) (suc k) = place_of_function xs k

pub record Main : Type 0 where
  pub number : ℕ
  pub faults : List FaultAt

abbrev pub main_of : List ExternalDeclaration → Option Entity → Main
main_of xs (Some (UserFunction k t ps)) =
    record {
      number = k;
      faults = unless_holds (same_type t int && are_main_parameters ps)
          (place_of_function xs k) TypeClash;
    }
main_of xs other = record { number = 0; faults = fault_at 0 NoMain }

-- ---- programs

pub record Resolved : Type 0 where
  pub program : checked_program.Program
  pub faults : List FaultAt

-- the checked program that a program is, and all rules that it breaks, each with its place. The
-- rules are those of C11, 6.2.1 for scopes, 6.3 for conversions, and 6.5 to 6.9, and of the
-- Microsoft C reference, "try-except statement" and "try-finally statement". Every function and
-- global is visible in the whole text (own). An expression that holds a fault has no type, and no
-- rule on types fails for it; a name that is declared twice means its first declaration.
abbrev pub resolve : List ℕ → List ExternalDeclaration → Resolved
resolve text xs =
    let file = file_of text xs empty_file in
    let functions = functions_of text file.scope xs 1 in
    let main = main_of xs (meaning_in file.scope main_name) in
    record {
      program = record { functions = functions.done; main = main.number; globals = file.bytes };
      faults = main.faults ++ file.faults ++ functions.faults;
    }

abbrev pub only_sound : List FaultAt → checked_program.Program → Option checked_program.Program
only_sound [] p = Some p
only_sound faults p = None

-- the checked program that an accepted program is
abbrev pub resolved : List ℕ → List ExternalDeclaration → Option checked_program.Program
resolved text xs = let r = resolve text xs in only_sound r.faults r.program
