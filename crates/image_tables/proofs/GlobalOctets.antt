-- The bytes of the globals of a program are octets.
use Rattle.std.proofs.Common.{ℕ, zero, suc, ◌-◌, ◌*◌, ◌/◌, ◌%◌, List, [], ◌∷◌, ◌++◌, length, replicate, Option, Some, None, arith}
use Rattle.c_syntax.specs.declared.declaration.Constant.{Constant}
use Rattle.c_syntax.specs.declared.declaration.Length.{Length}
use Rattle.c_syntax.specs.declared.expression.Base.{Base}
use Rattle.c_syntax.specs.declared.expression.CType.{CType}
use Rattle.c_syntax.specs.Program.{Initialiser, Single, Several, Global, ExternalDeclaration, Globals, Function}
use Rattle.c_resolved.specs.Layout.{stored_bytes}
use Rattle.c_resolved.specs.Program.{constant_value, bytes_of_number, bytes_of_all, filled, initial_value, padded, File, with_global, with_globals, with_external_declaration, file_of, empty_file}
use Rattle.c_resolved.specs.Types.{bytes_in}
use Rattle.image_tables.specs.OctetLaws.{AreOctets, ResolvedAreOctets}
use Rattle.image_tables.proofs.Octets.{joined, taken, repeated}

number_octets : (n v : ℕ) → AreOctets (bytes_of_number n v)
number_octets zero v = tt
number_octets (suc n) v = (omega arith, number_octets n (v / 256))

all_octets : (n : ℕ) (cs : List Constant) → AreOctets (bytes_of_all n cs)
all_octets n [] = tt
all_octets n (c ∷ cs) = joined (bytes_of_number n (constant_value c)) (bytes_of_all n cs)
    (number_octets n (constant_value c)) (all_octets n cs)

filled_octets : (n : ℕ) (bytes : List ℕ) → AreOctets bytes → AreOctets (filled n bytes)
filled_octets n bytes all = taken n (bytes ++ replicate (n - length bytes) 0)
    (joined bytes (replicate (n - length bytes) 0) all (repeated (n - length bytes)))

initial_octets : (t : CType) (l : Option Length) (i : Option Initialiser)
    → AreOctets (initial_value t l i).bytes
initial_octets t None None = repeated (stored_bytes t)
initial_octets t None (Some (Single c)) = number_octets (stored_bytes t) (constant_value c)
initial_octets t None (Some (Several at cs)) = repeated (stored_bytes t)
initial_octets t (Some l) None = repeated (l.value * stored_bytes t)
initial_octets t (Some l) (Some (Single c)) = repeated (l.value * stored_bytes t)
initial_octets t (Some l) (Some (Several at cs)) =
    filled_octets (l.value * stored_bytes t) (bytes_of_all (stored_bytes t) cs)
    (all_octets (stored_bytes t) cs)

padded_octets : (n : ℕ) (bytes : List ℕ) → AreOctets bytes → AreOctets (padded n bytes)
padded_octets n bytes all = joined bytes (replicate ((n - length bytes % n) % n) 0) all
    (repeated ((n - length bytes % n) % n))

global_octets : (text : List ℕ) (base : Base) (g : Global) (file : File) → AreOctets file.bytes
    → AreOctets (with_global text base g file).bytes
global_octets text base g file all =
    let t : CType = record { base = base; pointers = g.pointers } in
    joined (padded (bytes_in t) file.bytes) (initial_value t g.length g.initialiser).bytes
    (padded_octets (bytes_in t) file.bytes all) (initial_octets t g.length g.initialiser)

globals_octets : (text : List ℕ) (base : Base) (gs : List Global) (file : File)
    → AreOctets file.bytes → AreOctets (with_globals text base gs file).bytes
globals_octets text base [] file all = all
globals_octets text base (g ∷ gs) file all =
    globals_octets text base gs (with_global text base g file) (global_octets text base g file all)

external_octets : (text : List ℕ) (x : ExternalDeclaration) (file : File) → AreOctets file.bytes
    → AreOctets (with_external_declaration text x file).bytes
external_octets text (Globals base gs) file all = globals_octets text base gs file all
external_octets text (Function t n ps body) file all = all

file_octets : (text : List ℕ) (xs : List ExternalDeclaration) (file : File) → AreOctets file.bytes
    → AreOctets (file_of text xs file).bytes
file_octets text [] file all = all
file_octets text (x ∷ xs) file all = file_octets text xs (with_external_declaration text x file)
    (external_octets text x file all)

pub resolved_octets : ResolvedAreOctets
resolved_octets text xs = file_octets text xs empty_file tt
