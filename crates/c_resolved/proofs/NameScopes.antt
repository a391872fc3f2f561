-- Names that mean no locals but those that are seen.
use Rattle.std.proofs.Common.{◌≡◌, ℕ, ◌+◌, ◌≤◌, arith}
use Rattle.std.proofs.lemmas.Bool.{lt-ltb, or_left}
use Rattle.std.specs.Prelude.{Bool, true, false, nat_lt, if◌then◌else◌, List, [], ◌∷◌, ◌++◌, length, Option, Some, None}
use Rattle.c_resolved.specs.Words.{Length, Parameter, Base, CType, Identifier, Global, ExternalDeclaration, Globals, Function, Entity, LocalVariable, LocalArray, Names, global_entity, File, with_global, with_globals, with_external_declaration, file_of, empty_file, with_parameters, Scope, same_bytes, spelled, meaning_in, built_ins, Environment, is_taken, with_name, names_at, filter_names, SeenNames, IsPart, first_seen}

-- ---- what names mean

-- a local that is seen, or no local
abbrev pub EntitySeen : SeenNames → Entity → Type 0
EntitySeen seen (LocalVariable x t) = seen x ≡ true
EntitySeen seen (LocalArray x t) = seen x ≡ true
EntitySeen seen other = Unit {0}

abbrev pub MeaningSeen : SeenNames → Option Entity → Type 0
MeaningSeen seen None = Unit {0}
MeaningSeen seen (Some e) = EntitySeen seen e

abbrev pub ScopeSeen : SeenNames → Scope → Type 0
ScopeSeen seen [] = Unit {0}
ScopeSeen seen (x ∷ rest) = EntitySeen seen x.1 × ScopeSeen seen rest

abbrev pub NamesSeen : SeenNames → Names → Type 0
NamesSeen seen s = (n : Identifier) → MeaningSeen seen (s.entity n)

entity_wider : (a b : SeenNames) → IsPart a b → (e : Entity) → EntitySeen a e → EntitySeen b e
entity_wider a b part (LocalVariable x t) h = part x h
entity_wider a b part (LocalArray x t) h = part x h
entity_wider a b part other h = tt

-- where more is seen, names that meant what is seen do so
pub scope_wider : (a b : SeenNames) → IsPart a b → (s : Scope) → ScopeSeen a s → ScopeSeen b s
scope_wider a b part [] h = tt
scope_wider a b part (x ∷ rest) h = (entity_wider a b part x.1 h.0, scope_wider a b part rest h.1)

pub seen_append : (seen : SeenNames) (a b : Scope) → ScopeSeen seen a → ScopeSeen seen b
    → ScopeSeen seen (a ++ b)
seen_append seen [] b h k = k
seen_append seen (x ∷ a) b h k = (h.0, seen_append seen a b h.1 k)

built_ins_seen : (seen : SeenNames) → ScopeSeen seen built_ins
built_ins_seen seen =
    (tt, (tt, (tt, (tt, (tt, (tt, (tt, (tt, (tt, (tt, (tt, tt)))))))))))

found_seen : (seen : SeenNames) (b : Bool) (x y : Option Entity) → MeaningSeen seen x
    → MeaningSeen seen y → MeaningSeen seen (if b then x else y)
found_seen seen true x y h k = h
found_seen seen false x y h k = k

meaning_seen : (seen : SeenNames) (scope : Scope) → ScopeSeen seen scope → (name : List ℕ)
    → MeaningSeen seen (meaning_in scope name)
meaning_seen seen [] h name = tt
meaning_seen seen (x ∷ rest) h name = found_seen seen (same_bytes x.0 name) (Some x.1)
    (meaning_in rest name) h.0 (meaning_seen seen rest h.1 name)

-- a name that the block has already keeps its meaning
pub with_name_seen : (seen : SeenNames) (block : Scope) (name : List ℕ) (e : Entity)
    → ScopeSeen seen block → EntitySeen seen e → ScopeSeen seen (with_name block name e)
with_name_seen seen block name e h k = of (is_taken block name)
  where
    of : (b : Bool) → ScopeSeen seen (if b then block else ((name, e) ∷ block))
    of true = h
    of false = (k, h)

pub names_seen : (seen : SeenNames) (a : Environment) (block : Scope) → ScopeSeen seen block
    → ScopeSeen seen a.outer → NamesSeen seen (names_at a block)
names_seen seen a block h k n = meaning_seen seen (built_ins ++ block ++ a.outer)
    (seen_append seen (built_ins ++ block) a.outer
    (seen_append seen built_ins block (built_ins_seen seen) h) k) (spelled a.text n)

pub filter_names_seen : (seen : SeenNames) (a : Environment) (block : Scope) → ScopeSeen seen block
    → ScopeSeen seen a.outer → NamesSeen seen (filter_names a block)
filter_names_seen seen a block h k n = names_seen seen a block h k n

-- ---- the names of the file mean no locals

global_seen : (seen : SeenNames) (t : CType) (n : ℕ) (l : Option Length)
    → EntitySeen seen (global_entity t n l)
global_seen seen t n None = tt
global_seen seen t n (Some l) = tt

with_globals_seen : (seen : SeenNames) (text : List ℕ) (base : Base) (gs : List Global)
    (file : File) → ScopeSeen seen file.scope
    → ScopeSeen seen (with_globals text base gs file).scope
with_globals_seen seen text base [] file h = h
with_globals_seen seen text base (g ∷ gs) file h =
    with_globals_seen seen text base gs (with_global text base g file)
    (with_name_seen seen file.scope (spelled text g.name) _ h (global_seen seen _ _ g.length))

declared_seen : (seen : SeenNames) (text : List ℕ) (x : ExternalDeclaration) (file : File)
    → ScopeSeen seen file.scope → ScopeSeen seen (with_external_declaration text x file).scope
declared_seen seen text (Globals base gs) file h = with_globals_seen seen text base gs file h
declared_seen seen text (Function t n ps body) file h = with_name_seen seen file.scope
    (spelled text n) _ h tt

file_seen_from : (seen : SeenNames) (text : List ℕ) (xs : List ExternalDeclaration) (file : File)
    → ScopeSeen seen file.scope → ScopeSeen seen (file_of text xs file).scope
file_seen_from seen text [] file h = h
file_seen_from seen text (x ∷ xs) file h = file_seen_from seen text xs
    (with_external_declaration text x file) (declared_seen seen text x file h)

pub file_seen : (seen : SeenNames) (text : List ℕ) (xs : List ExternalDeclaration)
    → ScopeSeen seen (file_of text xs empty_file).scope
file_seen seen text xs = file_seen_from seen text xs empty_file tt

-- ---- parameters are the first locals

pub parameters_seen : (text : List ℕ) (total : ℕ) (ps : List Parameter) (block : Scope) (n : ℕ)
    → n + length ps ≤ total → ScopeSeen (first_seen total None) block
    → ScopeSeen (first_seen total None) (with_parameters text ps block n)
parameters_seen text total [] block n few h = h
parameters_seen text total (p ∷ ps) block n few h =
    parameters_seen text total ps (with_name block (spelled text p.name) (LocalVariable n p.of))
    (n + 1) (omega arith)
    (with_name_seen (first_seen total None) block (spelled text p.name) (LocalVariable n p.of) h
    (or_left (nat_lt n total) false (lt-ltb n total (omega arith))))
