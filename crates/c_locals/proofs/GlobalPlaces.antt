-- A global in the file.
use Rattle.std.proofs.Common.{◌≡◌, ℕ, ◌+◌, ◌<◌, ◌≤◌, List, ◌++◌, map, length, drop, get_or, Option, Result, Ok, Err, sym, ap, ◌∙◌, subst}
use Rattle.std.proofs.lemmas.List.{drop_all}
use Rattle.std.specs.Prelude.{OnOk, None, not, option_map}
use Rattle.c_locals.proofs.Lemmas.{next_of, kept_more}
use Rattle.c_locals.specs.Words.{Duplicate, TypeClash, spelled, with_name, is_taken, unless_holds, bytes_in, is_scalar, CType, least_of, kept, SymbolTable, with_block, FaultAt, File, with_global, with_globals, global_entity, padded, initial_value, length_faults, first_data, Base}
use Rattle.c_locals.specs.declared.globals.File.{File as File'}
use Rattle.c_locals.specs.Files.{IsFile}
use Rattle.c_syntax.specs.declared.declaration.Global.{Global as Global'}
use Rattle.c_syntax.specs.Program as trees

pub on_both : {T E : Type 0} (A B : Type 0) (r : Result T E) → OnOk r A → OnOk r B → OnOk r (A × B)
on_both A B (Ok x) a b = (a, b)
on_both A B (Err e) a b = tt

-- the file as the code has it, with these faults
abbrev pub seen : File' → List FaultAt → File
seen f fs = record {
  scope = f.names.block;
  bytes = f.bytes.items;
  functions = f.functions;
  faults = fs;
}

-- what holds of the file as the code has it holds of the one that it is
pub at_file : (P : File → Type 0) (f : File') (d : File) → IsFile f d → P (seen f d.faults) → P d
at_file P f d h p = subst P (λ i. record {
  scope = h.scope i;
  bytes = h.bytes i;
  functions = h.functions i;
  faults = d.faults;
}) p

-- five parts of the faults of a global
pub five_kept : (first w0 w1 w2 w3 w4 : Option FaultAt) (fs dup void len own : List FaultAt)
    → w0 ≡ kept first fs → w1 ≡ kept w0 dup → w2 ≡ kept w1 void → w3 ≡ kept w2 len
    → w4 ≡ kept w3 own → w4 ≡ kept first (fs ++ dup ++ (void ++ len ++ own))
five_kept first w0 w1 w2 w3 w4 fs dup void len own k0 k1 k2 k3 k4 =
    kept_more first w1 w4 (fs ++ dup) (void ++ len ++ own) (kept_more first w0 w1 fs dup k0 k1)
    (kept_more w1 w3 w4 (void ++ len) own (kept_more w1 w2 w3 void len k2 k3) k4)

-- the file after a global
pub placed : (text : List ℕ) (base : Base) (g : Global') (f f' : File') (d : File)
    (w1 w2 w3 : Option FaultAt)
    → (let of : CType = record { base = base; pointers = g.pointers } in
    let n = spelled text g.name in
    let block = f.names.block in
    let own = initial_value of g.length (option_map trees.initialiser g.initialiser) in
    f'.names ≡ with_block f.names (with_name block n
    (global_entity of (first_data + length (padded (bytes_in of) f.bytes.items)) g.length))
    → f'.bytes.items ≡ padded (bytes_in of) f.bytes.items ++ own.bytes
    → f'.functions ≡ f.functions
    → w1 ≡ kept (least_of f.faults) (unless_holds (not (is_taken block n)) g.name.start Duplicate)
    → w2 ≡ kept w1 (unless_holds (is_scalar of) g.name.start TypeClash)
    → w3 ≡ kept w2 (length_faults g.length)
    → least_of f'.faults ≡ kept w3 own.faults
    → IsFile f d → IsFile f' (with_global text base (trees.global g) d))
placed text base g f f' d w1 w2 w3 names bytes functions k1 k2 k3 k4 h =
    at_file (λ k. IsFile f' (with_global text base (trees.global g) k)) f d h
    (record {
      scope = ap (λ (k : SymbolTable). k.block) names;
      around = ap (λ (k : SymbolTable). k.around) names ∙ h.around;
      bytes = bytes;
      functions = functions;
      faults = five_kept None (least_of f.faults) w1 w2 w3 (least_of f'.faults) d.faults
          (unless_holds (not (is_taken f.names.block (spelled text g.name)))
          g.name.start
          Duplicate)
          (unless_holds (is_scalar (record { base = base; pointers = g.pointers })) g.name.start
          TypeClash) (length_faults g.length)
          (initial_value (record { base = base; pointers = g.pointers }) g.length
          (option_map trees.initialiser g.initialiser)).faults h.faults k1 k2 k3 k4;
    })

-- ---- globals, one after another

-- the file so far, and what it is with the other globals
abbrev pub StillGlobals : List ℕ → Base → List Global' → ℕ → File' → File' → Type 0
StillGlobals text base list i f f' = (d : File) → IsFile f d
    → (k : File) × IsFile f' k × (with_globals text base (map trees.global list) d
    ≡ with_globals text base (map trees.global (drop i list)) k)

pub globals_on : (text : List ℕ) (base : Base) (list : List Global') (i : ℕ) (x : Global')
    (f f' f'' : File') → i < length list → x ≡ get_or list i x
    → ((d : File) → IsFile f' d → IsFile f'' (with_global text base (trees.global x) d))
    → StillGlobals text base list i f f' → StillGlobals text base list (i + 1) f f''
globals_on text base list i x f f' f'' lt is one h d hd =
    let r = h d hd in (
      with_global text base (trees.global x) r.0,
      one r.0 r.1,
      r.2
          ∙ ap (λ l. with_globals text base (map trees.global l) r.0) (next_of list i x lt is),
    )

pub globals_end : (text : List ℕ) (base : Base) (list : List Global') (i : ℕ) (f f' : File')
    → length list ≤ i → StillGlobals text base list i f f'
    → (d : File) → IsFile f d → IsFile f' (with_globals text base (map trees.global list) d)
globals_end text base list i f f' p h d hd =
    let r = h d hd in
    subst (IsFile f') (sym (r.2 ∙ ap (λ l. with_globals text base (map trees.global l) r.0)
    (drop_all i list p))) r.1
