-- The sets of a whole program tell what has been set.
use Rattle.std.proofs.Common.{◌≡◌, ℕ, zero, suc, ◌+◌, ◌<◌, List, [], ◌∷◌, ◌++◌, length, map, refl, sym, ap, subst, ◌∙◌, arith, length-append}
use Rattle.std.proofs.lemmas.List.{length-map, length-replicate}
use Rattle.std.proofs.lemmas.Option.{slice_get_within}
use Rattle.std.specs.Prelude.{true, false, slice_get, replicate, get_or, Option, Some, None}
use Rattle.lowering_locals.specs.Words.{funclets, IsSound, function_sound, functions_sound, LinearProgram, LinearBody, LinearFunction, LinearFunclet, BodyName, FunctionBody, FuncletBody, funclet_body, body_of, function_body, flag_of, statements_size, Owner, statements_code, SeenNames, IsPart, first_seen, function_within, functions_within, IsScoped, function_locals, locals_at, IsSetBody, IsSetMap, statements_sets, statements_funclet_sets, parameters_seen, function_seen, open_sets, end_size, function_sets, all_funclet_sets, list_of, sets_of}
use Rattle.c_checked.specs.Program.{Program, Function}
use Rattle.c_checked.specs.Sound as sound
use Rattle.lowering_locals.proofs.Lemmas.{length_first, open_length, first_every, function_end, Range, part_of, both_parts, no_part, one_part, statements_length, statements_count, IsSegmentAt, front, back, whole_is_at, same_it, both_left, both_right, itself}
use Rattle.seh_ir.specs.Lowered.{own_locals, all_locals, first_separators, first_count, open_code, body_start, scope_of, lowered_function, lowered_funclets, all_funclets, lowered}
use Rattle.lowering_invariants.proofs.Lowered.{lowered_is_whole}
use Rattle.lowering_locals.proofs.RunSets.{set_map_reads_no_unset}
use Rattle.lowering_locals.specs.ScopedLaws.{ScopedHasSetMap, ScopedReadsNoUnset}
use Rattle.lowering_locals.proofs.StraightCode.{is_same, past_end, even_list, Fine as FineIn, straight, both_lead}
use Rattle.lowering_locals.proofs.SetLists.{statements_long, statements_many, statements_first, begins}
use Rattle.lowering_locals.proofs.SetPlaces.{WithSets, IsFine, IsPlace, HasFunclets, has_front, has_back, whole_body}
use Rattle.lowering_locals.proofs.SetParts.{statements_are_set}
use Rattle.lowering_locals.proofs.FunctionSets.{first_below, base_seen, are_brought, open_sets_long, opens_lead, end_long, two_at_least, end_fine}
use Rattle.lowering_follows.proofs.SoundStatements.{inside_function}

get_is : {X : Type 0} (xs : List X) (k : ℕ) (x other : X) → slice_get xs k ≡ Some x
    → get_or xs k other ≡ x
get_is [] k x other e = absurd (cc)
get_is (y ∷ xs) zero x other e = same_it y x e
get_is (y ∷ xs) (suc k) x other e = get_is xs k x other e

module _ (program : Program) where
  abbrev linear : LinearProgram
  linear = lowered program

  abbrev lists : BodyName → List SeenNames
  lists = list_of program

  abbrev funclet_lists : List (List SeenNames)
  funclet_lists = all_funclet_sets program.functions

  abbrev sets : BodyName → ℕ → SeenNames
  sets = sets_of program

  listed : (k : ℕ) (list : List SeenNames) → slice_get funclet_lists k ≡ Some list
      → lists (FuncletBody k) ≡ list
  listed k list e = get_is funclet_lists k list [] e

  abbrev with_sets : WithSets
  with_sets = record {
    linear = linear;
    lists = lists;
    funclet_lists = funclet_lists;
    listed = listed;
  }

  -- the function of a number, and the funclet of one
  record IsGood (k : ℕ) : Type 0 where
    body : (b : LinearBody) → body_of linear (FunctionBody k) ≡ Some b
        → IsSetBody linear sets (FunctionBody k) b
    begun : (f : LinearFunction) → slice_get linear.functions k ≡ Some f
        → IsPart (sets (FunctionBody k) 0) (first_seen f.parameters None)

  abbrev Fine : ℕ → Type 0
  Fine k = IsFine with_sets k

  abbrev Has : (j : ℕ) → List LinearFunclet → List (List SeenNames) → List ℕ → Type 0
  Has j fs ls ns = HasFunclets with_sets j fs ls ns

  abbrev owner : ℕ → Function → Owner
  owner number fn = record { function = number; locals = all_locals fn; parent = None }

  function_is_at : (fn : Function) (number j : ℕ) → function_sound program.functions fn ≡ true
      → function_within fn ≡ true → slice_get linear.functions number ≡ Some (lowered_function fn)
      → lists (FunctionBody number) ≡ function_sets fn
      → Has j (lowered_funclets number fn) (statements_funclet_sets (own_locals fn)
      (function_seen fn) fn.body) (funclets fn.body)
      → IsGood number × Range Fine j (j + length (funclets fn.body))
  function_is_at fn number j ok w there recorded f =
      let name = FunctionBody number in
      let own = own_locals fn in
      let parameters = length fn.parameters in
      let d = fn.data_frame in
      let before = parameters_seen fn in
      let seen = function_seen fn in
      let scope = scope_of fn in
      let body = (lowered_function fn).body in
      let at = first_count fn in
      let begin = body_start fn in
      let end = begin + statements_size fn.body in
      let first = replicate at before in
      let opens = open_sets parameters d in
      let ll = statements_sets own seen fn.body in
      let ends = replicate (end_size d) seen in
      let list = function_sets fn in
      let code = statements_code scope fn.body begin in
      let long = statements_long fn.body own seen in
      let many = length-replicate at before in
      let opens_many = open_sets_long parameters d in
      let ends_many = length-replicate (end_size d) seen in
      let lf = length_first fn in
      let lo = open_length d in
      let lc = statements_length scope fn.body begin in
      let le = end_long d in
      let ls = length-append fn.parameters fn.locals in
      let two = two_at_least d in
      let whole : IsSegmentAt (lists name) 0 list = subst
      (λ (l : List SeenNames). IsSegmentAt l 0 list) (sym recorded) (whole_is_at list) in
      let from_open = back (lists name) 0 at first (opens ++ (ll ++ ends)) (omega arith) whole in
      let from_body = back (lists name) at begin opens (ll ++ ends) (omega arith) from_open in
      let from_end = back (lists name) begin end ll ends (omega arith) from_body in
      let sum = length-append first (opens ++ (ll ++ ends)) in
      let sum_open = length-append opens (ll ++ ends) in
      let sum_body = length-append ll ends in
      let length_is = ap (λ (l : List SeenNames). length l) recorded in
      let none = past_end (lists name) (end + end_size d) (omega arith) in
      let ended : IsPart (sets name (end + end_size d)) seen =
      λ x h. absurd (differ (sym (ap (λ (s : SeenNames). s x) none) ∙ h)) in
      let even_end = even_list (lists name) seen (end_size d) end (end + end_size d) refl from_end
      ended in
      let recorded_end = is_same (sets name end) seen (even_end.inside end (omega arith)
      (omega arith)) in
      let is_there = front (lists name) begin ll ends from_body in
      let start = begins (lists name) begin end ll seen seen is_there
      (statements_first fn.body own seen seen (itself seen)) (omega arith) recorded_end in
      let data_ok = both_right _ _ ok in
      let below : (x : ℕ) → seen x ≡ true → x < all_locals fn =
      λ x h. (let lt = first_below parameters fn.locals d data_ok x h in omega arith) in
      let base = base_seen parameters d in
      let room : locals_at linear name ≡ all_locals fn = ap function_locals there in
      let place : IsPlace with_sets name (owner number fn) scope seen
      seen = record {
        owned = refl;
        room = ap function_locals there;
        around = record {
          part = itself seen;
          below = below;
          code = tt;
          flag = tt;
          base = base;
        };
        exit = is_same (sets name (end + 1)) seen
            (even_end.inside (end + 1) (omega arith) (omega arith));
        loop_end = tt;
        loop_next = tt;
        leave = tt;
      } in
      let x = statements_are_set with_sets fn.body name (owner number fn)
      (inside_function program fn) scope seen seen begin j place (omega arith) (omega arith)
      (both_left _ _ (both_left _ _ (both_left _ _ ok))) w is_there recorded_end f in
      let opened = opens_lead linear lists name (all_locals fn) room parameters d at below
      (are_brought parameters fn.locals d data_ok)
      (front (lists name) at opens (ll ++ ends) from_open) start in
      let even = even_list (lists name) before at 0 at (omega arith)
      (front (lists name) 0 first (opens ++ (ll ++ ends)) whole) opened.1 in
      let begun = straight linear sets name (all_locals fn) room before 0 at
      even 0 (first_separators fn) (omega arith) (omega arith)
      (first_every (FineIn (all_locals fn) 0 at before) tt fn) in
      let closed = straight linear sets name (all_locals fn) room seen end (end + end_size d)
      even_end end (function_end fn) (omega arith) (omega arith)
      (end_fine (all_locals fn) end (end + end_size d) d seen base below) in
      let leads = both_lead linear sets name 0 at (first_separators fn)
      (open_code d ++ (code ++ function_end fn)) (omega arith) begun
      (both_lead linear sets name at begin (open_code d) (code ++ function_end fn) (omega arith)
      opened.0 (both_lead linear sets name begin end code (function_end fn) (omega arith) x.leads
      closed)) in
      let set : IsSetBody linear sets name body = whole_body with_sets name
      body leads x.regions in (
        record {
          body = λ b e. subst (IsSetBody linear sets name)
              (same_it body b (sym (ap function_body there) ∙ e)) set;
          begun = λ g e. subst (λ (h : LinearFunction). IsPart (sets name 0)
              (first_seen h.parameters None)) (same_it (lowered_function fn) g (sym there ∙ e))
              (is_same (sets name 0) before (even.inside 0 (omega arith) (omega arith)));
        },
        x.funclets,
      )
    where
      differ : false ≡ true → ⊥
      differ e = cc

  functions_are_at : (fs : List Function) (number j : ℕ)
      → functions_sound program.functions fs ≡ true → functions_within fs ≡ true
      → IsSegmentAt linear.functions number (map lowered_function fs)
      → IsSegmentAt (map function_sets program.functions) number (map function_sets fs)
      → Has j (all_funclets number fs) (all_funclet_sets fs) (sound.all_funclets fs)
      → Range IsGood number (number + length fs) × Range Fine j (j + length (sound.all_funclets fs))
  functions_are_at [] number j ok w g l f = (
    no_part IsGood number (number + 0) (omega arith),
    no_part Fine j (j + 0) (omega arith),
  )
  functions_are_at (fn ∷ fs) number j ok w g l f =
      let own = lowered_funclets number fn in
      let own_sets = statements_funclet_sets (own_locals fn) (function_seen fn) fn.body in
      let numbers = funclets fn.body in
      let rest = all_funclets (number + 1) fs in
      let mid = j + length numbers in
      let count = statements_count (owner number fn) (scope_of fn).names fn.body in
      let many = statements_many fn.body (own_locals fn) (function_seen fn) in
      let first : Has j own own_sets numbers = has_front with_sets j own
      rest own_sets (all_funclet_sets fs) numbers (sound.all_funclets fs) f in
      let after : Has mid rest (all_funclet_sets fs) (sound.all_funclets fs) =
      has_back with_sets j mid own rest own_sets (all_funclet_sets fs) numbers
      (sound.all_funclets fs) refl count many f in
      let x = function_is_at fn number j (both_left _ _ ok) (both_left _ _ w) g.0
      (get_is (map function_sets program.functions) number (function_sets fn) [] l.0) first in
      let y = functions_are_at fs (number + 1) mid (both_right _ _ ok) (both_right _ _ w) g.1 l.1
      after in
      (good_parts number (length fs) x.0 y.0, fine_parts j numbers (sound.all_funclets fs) x.1 y.1)
    where
      good_parts : (number n : ℕ) → IsGood number → Range IsGood (number + 1) (number + 1 + n)
          → Range IsGood number (number + suc n)
      good_parts number n x y = part_of IsGood number (number + 1 + n) number (number + suc n)
          (omega arith) (omega arith) (both_parts IsGood number (number + 1) (number + 1 + n)
          (one_part IsGood number x) y)

      fine_parts : (j : ℕ) (ns os : List ℕ) → Range Fine j (j + length ns)
          → Range Fine (j + length ns) (j + length ns + length os)
          → Range Fine j (j + length (ns ++ os))
      fine_parts j ns os x y = let l = length-append ns os in
          part_of Fine j (j + length ns + length os) j (j + length (ns ++ os)) (omega arith)
          (omega arith) (both_parts Fine j (j + length ns) (j + length ns + length os) x y)

  -- ---- all bodies

  as_many : (number : ℕ) (fs : List Function)
      → length (all_funclets number fs) ≡ length (sound.all_funclets fs)
  as_many number [] = refl
  as_many number (fn ∷ fs) =
      let a = length-append (lowered_funclets number fn) (all_funclets (number + 1) fs) in
      let b = length-append (funclets fn.body) (sound.all_funclets fs) in
      let c = statements_count (owner number fn) (scope_of fn).names fn.body in
      let d = as_many (number + 1) fs in
      omega arith

  function_there : (k : ℕ) (o : Option LinearFunction) (b : LinearBody)
      → slice_get linear.functions k ≡ o → function_body o ≡ Some b → k < length linear.functions
  function_there k None b e h = absurd (cc)
  function_there k (Some f) b e h = slice_get_within linear.functions k f e

  funclet_there : (k : ℕ) (o : Option LinearFunclet) (b : LinearBody)
      → slice_get linear.funclets k ≡ o → funclet_body o ≡ Some b → k < length linear.funclets
  funclet_there k None b e h = absurd (cc)
  funclet_there k (Some f) b e h = slice_get_within linear.funclets k f e

  flag_there : (k : ℕ) (o : Option LinearFunclet) (x : ℕ) → slice_get linear.funclets k ≡ o
      → flag_of o ≡ Some x → k < length linear.funclets
  flag_there k None x e h = absurd (cc)
  flag_there k (Some f) x e h = slice_get_within linear.funclets k f e

  module _ (ok : IsSound program) (w : IsScoped program) where
    functions_all : 0 + length program.functions ≡ length linear.functions
    functions_all = let l = length-map program.functions lowered_function in omega arith

    funclets_all : 0 + length (sound.all_funclets program.functions) ≡ length linear.funclets
    funclets_all = let m = as_many 0 program.functions in omega arith

    all_are_at : Range IsGood 0 (length linear.functions) × Range Fine 0 (length linear.funclets)
    all_are_at =
        let counts = both_left _ _ (both_left _ _ (both_left _ _ ok)) in
        let starts = both_left _ _ counts in
        let x = functions_are_at program.functions 0 0 (both_left _ _ starts) w
        (whole_is_at linear.functions) (whole_is_at (map function_sets program.functions))
        (record {
          funclets = whole_is_at linear.funclets;
          recorded = whole_is_at funclet_lists;
          numbers = both_right _ _ counts;
        }) in (
          subst (λ n. Range IsGood 0 n) functions_all x.0,
          subst (λ n. Range Fine 0 n) funclets_all x.1,
        )

    bodies_recorded : (name : BodyName) (b : LinearBody) → body_of linear name ≡ Some b
        → IsSetBody linear sets name b
    bodies_recorded (FunctionBody k) b e = (all_are_at.0 k (omega arith)
        (function_there k (slice_get linear.functions k) b refl e)).body b e
    bodies_recorded (FuncletBody k) b e = (all_are_at.1 k (omega arith)
        (funclet_there k (slice_get linear.funclets k) b refl e)).body b e

    pub has_set_map : IsSetMap linear sets
    has_set_map = record {
      begins = λ k f e. (all_are_at.0 k (omega arith)
          (slice_get_within linear.functions k f e)).begun f e;
      bodies = bodies_recorded;
      flags = λ k x e. (all_are_at.1 k (omega arith)
          (flag_there k (slice_get linear.funclets k) x refl e)).flag x e;
    }

pub scoped_has_set_map : ScopedHasSetMap
scoped_has_set_map program ok w = has_set_map program ok w

pub scoped_reads_no_unset : ScopedReadsNoUnset
scoped_reads_no_unset program ok w = set_map_reads_no_unset (lowered program)
    (lowered_is_whole program ok) (sets_of program) (has_set_map program ok w)
