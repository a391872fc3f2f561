-- The bytes of the globals are as many as the limits count, and the names of the file mean what
-- fits.
use Rattle.std.proofs.Common.{◌≡◌, ◌≤◌, ℕ, ◌+◌, ◌-◌, ◌*◌, ◌/◌, ◌%◌, ◌^◌, ◌⊎◌, inl, inr, refl, ap, sym, subst, ◌∙◌, arith}
use Rattle.std.proofs.lemmas.Bool.{lt-ltb}
use Rattle.std.proofs.lemmas.List.{length-append, length-replicate, length-take-le}
use Rattle.std.specs.Prelude.{zero, suc, true, not, nat_lt, if◌then◌else◌, List, [], ◌∷◌, ◌++◌, length, replicate, Option, Some, None}
use Rattle.c_resolved.specs.Words.{W64, bytes_of, Size, Length, Base, Void, Char, UnsignedChar, Short, UnsignedShort, Int, Unsigned, LongLong, UnsignedLongLong, CType, size_of_base, size, elements, aligned, end_of_globals, bytes_from, Initialiser, Single, Several, Global, ExternalDeclaration, Globals, Function, Duplicate, TypeClash, is_scalar, base_width, bytes_in, stored_bytes, UserFunction, spelled, unless_holds, is_taken, first_data, constant_value, bytes_of_number, bytes_of_all, filled, initial_value, length_faults, global_entity, File, padded, with_global, with_globals, parameter_types, with_external_declaration, file_of, Layout}
use Rattle.c_checked.specs.Program as checked_program
use Rattle.c_resolved.proofs.SettledRules.{EntityFits, FunctionFits}
use Rattle.c_resolved.proofs.SoundDeclarations.{none_in_both, holds, ScopeFits, with_name_fits}

-- ---- lengths

number_length : (n v : ℕ) → length (bytes_of_number n v) ≡ n
number_length zero v = refl
number_length (suc n) v = ap suc (number_length n (v / 256))

filled_length : (n : ℕ) (bytes : List ℕ) → length (filled n bytes) ≡ n
filled_length n bytes =
    let zeros : List ℕ = replicate (n - length bytes) 0 in
    let all : length (bytes ++ zeros) ≡ length bytes + length zeros = length-append bytes zeros in
    let rest : length zeros ≡ n - length bytes = length-replicate (n - length bytes) 0 in
    length-take-le n (bytes ++ zeros) (omega (arith, all, rest))

initial_length : (t : CType) (l : Option Length) (i : Option Initialiser)
    → length (initial_value t l i).bytes ≡ stored_bytes t * elements l
initial_length t None None = length-replicate (stored_bytes t) 0 ∙ omega arith
initial_length t None (Some (Single c)) = number_length (stored_bytes t) (constant_value c)
    ∙ omega arith
initial_length t None (Some (Several at cs)) = length-replicate (stored_bytes t) 0 ∙ omega arith
initial_length t (Some l) None = length-replicate (l.value * stored_bytes t) 0 ∙ omega arith
initial_length t (Some l) (Some (Single c)) = length-replicate (l.value * stored_bytes t) 0
    ∙ omega arith
initial_length t (Some l) (Some (Several at cs)) = filled_length (l.value * stored_bytes t)
    (bytes_of_all (stored_bytes t) cs) ∙ omega arith

-- ---- sizes

-- one, two, four or eight bytes
abbrev IsBytes : ℕ → Type 0
IsBytes n = (n ≡ 1) ⊎ ((n ≡ 2) ⊎ ((n ≡ 4) ⊎ (n ≡ 8)))

base_bytes : (b : Base) → is_scalar (record { base = b; pointers = 0 }) ≡ true
    → bytes_in (record { base = b; pointers = 0 }) ≡ size_of_base b
base_bytes Void h = absurd (cc)
base_bytes Char h = refl
base_bytes b h = refl

positive : (p : ℕ) → nat_lt 0 (suc p) ≡ true
positive p = lt-ltb 0 (suc p) (omega arith)

same_size : (b : Base) (p : ℕ) → is_scalar (record { base = b; pointers = p }) ≡ true
    → bytes_in (record { base = b; pointers = p }) ≡ size b p
same_size b zero h = base_bytes b h
same_size b (suc p) h = ap (λ c. bytes_of (if c then W64 else base_width b)) (positive p)

-- what a variable takes
pub stored : (b : Base) (p : ℕ) → is_scalar (record { base = b; pointers = p }) ≡ true
    → stored_bytes (record { base = b; pointers = p }) ≡ size b p
stored b p h = ap (λ k. if k then bytes_in (record { base = b; pointers = p }) else 0) h
    ∙ same_size b p h

base_is_bytes : (b : Base) → is_scalar (record { base = b; pointers = 0 }) ≡ true
    → IsBytes (size_of_base b)
base_is_bytes Void h = absurd (cc)
base_is_bytes Char h = inl refl
base_is_bytes UnsignedChar h = inl refl
base_is_bytes Short h = inr (inl refl)
base_is_bytes UnsignedShort h = inr (inl refl)
base_is_bytes Int h = inr (inr (inl refl))
base_is_bytes Unsigned h = inr (inr (inl refl))
base_is_bytes LongLong h = inr (inr (inr refl))
base_is_bytes UnsignedLongLong h = inr (inr (inr refl))

is_bytes : (b : Base) (p : ℕ) → is_scalar (record { base = b; pointers = p }) ≡ true
    → IsBytes (size b p)
is_bytes b zero h = base_is_bytes b h
is_bytes b (suc p) h = inr (inr (inr refl))

-- ---- alignment

aligned_1 : (n : ℕ) → n + (1 - n % 1) % 1 ≡ aligned n 1
aligned_1 n = omega arith

aligned_2 : (n : ℕ) → n + (2 - n % 2) % 2 ≡ aligned n 2
aligned_2 n = omega arith

aligned_4 : (n : ℕ) → n + (4 - n % 4) % 4 ≡ aligned n 4
aligned_4 n = omega arith

aligned_8 : (n : ℕ) → n + (8 - n % 8) % 8 ≡ aligned n 8
aligned_8 n = omega arith

pad_length : (n : ℕ) (bytes : List ℕ) → length (padded n bytes)
    ≡ length bytes + (n - length bytes % n) % n
pad_length n bytes = length-append bytes (replicate ((n - length bytes % n) % n) 0)
    ∙ ap (λ k. length bytes + k) (length-replicate ((n - length bytes % n) % n) 0)

padded_aligned : (n : ℕ) → IsBytes n → (bytes : List ℕ)
    → length (padded n bytes) ≡ aligned (length bytes) n
padded_aligned n (inl e) bytes = subst (λ k. length (padded k bytes) ≡ aligned (length bytes) k)
    (sym e) (pad_length 1 bytes ∙ aligned_1 (length bytes))
padded_aligned n (inr (inl e)) bytes = subst (λ k. length (padded k bytes)
    ≡ aligned (length bytes) k) (sym e) (pad_length 2 bytes ∙ aligned_2 (length bytes))
padded_aligned n (inr (inr (inl e))) bytes = subst
    (λ k. length (padded k bytes) ≡ aligned (length bytes) k) (sym e)
    (pad_length 4 bytes ∙ aligned_4 (length bytes))
padded_aligned n (inr (inr (inr e))) bytes = subst
    (λ k. length (padded k bytes) ≡ aligned (length bytes) k) (sym e)
    (pad_length 8 bytes ∙ aligned_8 (length bytes))

-- ---- one global

abbrev type_of_global : Base → Global → CType
type_of_global base g = record { base = base; pointers = g.pointers }

-- no fault, so none before it, and its type has values
record GlobalHolds (base : Base) (g : Global) (file : File) : Type 0 where
  before : file.faults ≡ []
  scalar : is_scalar (type_of_global base g) ≡ true

global_holds : (text : List ℕ) (base : Base) (g : Global) (file : File)
    → (with_global text base g file).faults ≡ [] → GlobalHolds base g file
global_holds text base g file none =
    let t = type_of_global base g in
    let b = initial_value t g.length g.initialiser in
    let duplicate = unless_holds (not (is_taken file.scope (spelled text g.name))) g.name.start
    Duplicate in
    let own = unless_holds (is_scalar t) g.name.start TypeClash ++ length_faults g.length
    ++ b.faults in
    let apart = none_in_both (file.faults ++ duplicate) own none in
    let inner = none_in_both (unless_holds (is_scalar t) g.name.start TypeClash
    ++ length_faults g.length) b.faults apart.1 in
    record {
      before = (none_in_both file.faults duplicate apart.0).0;
      scalar = holds (is_scalar t) g.name.start TypeClash
          (none_in_both (unless_holds (is_scalar t) g.name.start TypeClash) (length_faults g.length)
          inner.0).0;
    }

global_length : (text : List ℕ) (base : Base) (g : Global) (file : File)
    → is_scalar (type_of_global base g) ≡ true
    → length (with_global text base g file).bytes
    ≡ aligned (length file.bytes) (size base g.pointers) + size base g.pointers * elements g.length
global_length text base g file h =
    let t = type_of_global base g in
    let same = same_size base g.pointers h in
    let before = padded (bytes_in t) file.bytes in
    let aligned_before : length before ≡ aligned (length file.bytes) (size base g.pointers) = ap
    (λ n. length (padded n file.bytes)) same
    ∙ padded_aligned (size base g.pointers) (is_bytes base g.pointers h) file.bytes in
    length-append before (initial_value t g.length g.initialiser).bytes
    ∙ ap (λ n. n + length (initial_value t g.length g.initialiser).bytes) aligned_before
    ∙ ap (λ n. aligned (length file.bytes) (size base g.pointers) + n)
    (initial_length t g.length g.initialiser
    ∙ ap (λ n. n * elements g.length) (stored base g.pointers h))

global_grows : (text : List ℕ) (base : Base) (g : Global) (file : File)
    → length file.bytes ≤ length (padded (bytes_in (type_of_global base g)) file.bytes)
global_grows text base g file = let e = pad_length (bytes_in (type_of_global base g)) file.bytes in
    omega arith

global_fits_after : (text : List ℕ) (base : Base) (g : Global) (file : File)
    → length (padded (bytes_in (type_of_global base g)) file.bytes)
    ≤ length (with_global text base g file).bytes
global_fits_after text base g file =
    let t = type_of_global base g in
    let e = length-append (padded (bytes_in t) file.bytes)
    (initial_value t g.length g.initialiser).bytes in
    omega arith

below_top : (n : ℕ) → n ≤ 1048576 → nat_lt (first_data + n) (2 ^ 64) ≡ true
below_top n h = lt-ltb (first_data + n) (2 ^ 64) (omega arith)

global_entity_fits : (fs : List checked_program.Function) (zs : List Size) (layout : Layout)
    (t : CType) (n : ℕ)
    (l : Option Length) → n ≤ 1048576 → is_scalar t ≡ true
    → EntityFits fs zs layout (global_entity t (first_data + n) l)
global_entity_fits fs zs layout t n None h s = (below_top n h, s)
global_entity_fits fs zs layout t n (Some l) h s = tt

global_fits : (fs : List checked_program.Function) (zs : List Size) (layout : Layout)
    (text : List ℕ) (base : Base)
    (g : Global) (file : File) → is_scalar (type_of_global base g) ≡ true
    → length (with_global text base g file).bytes ≤ 1048576
    → ScopeFits fs zs layout file.scope → ScopeFits fs zs layout (with_global text base g
    file).scope
global_fits fs zs layout text base g file s h fit =
    let t = type_of_global base g in
    let n = length (padded (bytes_in t) file.bytes) in
    let e = global_fits_after text base g file in
    with_name_fits fs zs layout file.scope (spelled text g.name)
    (global_entity t (first_data + n) g.length) fit
    (global_entity_fits fs zs layout t n g.length (omega arith) s)

-- ---- globals of one declaration

globals_before : (text : List ℕ) (base : Base) (gs : List Global) (file : File)
    → (with_globals text base gs file).faults ≡ [] → file.faults ≡ []
globals_before text base [] file none = none
globals_before text base (g ∷ gs) file none =
    (global_holds text base g file (globals_before text base gs (with_global text base g file)
    none)).before

globals_length : (text : List ℕ) (base : Base) (gs : List Global) (file : File)
    → (with_globals text base gs file).faults ≡ []
    → length (with_globals text base gs file).bytes ≡ end_of_globals base gs (length file.bytes)
globals_length text base [] file none = refl
globals_length text base (g ∷ gs) file none =
    let next = with_global text base g file in
    let h = global_holds text base g file (globals_before text base gs next none) in
    globals_length text base gs next none ∙ ap (end_of_globals base gs)
    (global_length text base g file h.scalar)

globals_grow : (text : List ℕ) (base : Base) (gs : List Global) (file : File)
    → length file.bytes ≤ length (with_globals text base gs file).bytes
globals_grow text base [] file = omega arith
globals_grow text base (g ∷ gs) file =
    let a = global_grows text base g file in
    let b = global_fits_after text base g file in
    let c = globals_grow text base gs (with_global text base g file) in
    omega arith

globals_fit : (fs : List checked_program.Function) (zs : List Size) (layout : Layout)
    (text : List ℕ) (base : Base)
    (gs : List Global) (file : File) → (with_globals text base gs file).faults ≡ []
    → length (with_globals text base gs file).bytes ≤ 1048576
    → ScopeFits fs zs layout file.scope → ScopeFits fs zs layout (with_globals text base gs
    file).scope
globals_fit fs zs layout text base [] file none h fit = fit
globals_fit fs zs layout text base (g ∷ gs) file none h fit =
    let next = with_global text base g file in
    let holds = global_holds text base g file (globals_before text base gs next none) in
    let grown = globals_grow text base gs next in
    globals_fit fs zs layout text base gs next none h
    (global_fits fs zs layout text base g file holds.scalar (omega arith) fit)

-- ---- the file

external_before : (text : List ℕ) (x : ExternalDeclaration) (file : File)
    → (with_external_declaration text x file).faults ≡ [] → file.faults ≡ []
external_before text (Globals base gs) file none = globals_before text base gs file none
external_before text (Function t n ps body) file none =
    let duplicate = unless_holds (not (is_taken file.scope (spelled text n))) n.start Duplicate in
    (none_in_both file.faults duplicate (none_in_both (file.faults ++ duplicate) [] none).0).0

pub file_before : (text : List ℕ) (xs : List ExternalDeclaration) (file : File)
    → (file_of text xs file).faults ≡ [] → file.faults ≡ []
file_before text [] file none = none
file_before text (x ∷ xs) file none = external_before text x file
    (file_before text xs (with_external_declaration text x file) none)

pub file_length : (text : List ℕ) (xs : List ExternalDeclaration) (file : File)
    → (file_of text xs file).faults ≡ [] → length (file_of text xs file).bytes
    ≡ bytes_from xs (length file.bytes)
file_length text [] file none = refl
file_length text (Globals base gs ∷ xs) file none =
    let next = with_globals text base gs file in
    file_length text xs next none ∙ ap (bytes_from xs)
    (globals_length text base gs file (file_before text xs next none))
file_length text (Function t n ps body ∷ xs) file none = file_length text xs
    (with_external_declaration text (Function t n ps body) file) none

file_grows : (text : List ℕ) (xs : List ExternalDeclaration) (file : File)
    → length file.bytes ≤ length (file_of text xs file).bytes
file_grows text [] file = omega arith
file_grows text (Globals base gs ∷ xs) file =
    let a = globals_grow text base gs file in
    let b = file_grows text xs (with_globals text base gs file) in
    omega arith
file_grows text (Function t n ps body ∷ xs) file = file_grows text xs
    (with_external_declaration text (Function t n ps body) file)

same_functions : (text : List ℕ) (base : Base) (gs : List Global) (file : File)
    → (with_globals text base gs file).functions ≡ file.functions
same_functions text base [] file = refl
same_functions text base (g ∷ gs) file = same_functions text base gs (with_global text base g file)

-- the functions of the file are there, from a number on
abbrev pub FunctionsFrom : List checked_program.Function → ℕ → List ExternalDeclaration → Type 0
FunctionsFrom fs k [] = Unit {0}
FunctionsFrom fs k (Globals base gs ∷ xs) = FunctionsFrom fs k xs
FunctionsFrom fs k (Function t n ps body ∷ xs) = FunctionFits fs k t (parameter_types ps)
    × FunctionsFrom fs (k + 1) xs

pub file_fits : (fs : List checked_program.Function) (zs : List Size) (layout : Layout)
    (text : List ℕ)
    (xs : List ExternalDeclaration) (file : File) → (file_of text xs file).faults ≡ []
    → length (file_of text xs file).bytes ≤ 1048576
    → FunctionsFrom fs file.functions xs → ScopeFits fs zs layout file.scope
    → ScopeFits fs zs layout (file_of text xs file).scope
file_fits fs zs layout text [] file none h from fit = fit
file_fits fs zs layout text (Globals base gs ∷ xs) file none h from fit =
    let next = with_globals text base gs file in
    let grown = file_grows text xs next in
    file_fits fs zs layout text xs next none h (subst (λ k. FunctionsFrom fs k xs)
    (sym (same_functions text base gs file)) from)
    (globals_fit fs zs layout text base gs file (file_before text xs next none) (omega arith) fit)
file_fits fs zs layout text (Function t n ps body ∷ xs) file none h from fit =
    file_fits fs zs layout text xs (with_external_declaration text (Function t n ps body) file) none
    h
    from.1
    (with_name_fits fs zs layout file.scope (spelled text n)
    (UserFunction file.functions t (parameter_types ps)) fit from.0)
