-- What is known at a place past a prologue.
use Rattle.std.proofs.Common.{◌≡◌, ◌⊎◌, ℕ, zero, suc, ◌+◌, ◌^◌, ◌<◌, ◌≤◌, Bool, true, false, ◌&&◌, eqb, leb, List, [], ◌∷◌, ◌++◌, length, Option, Some, None, refl, sym, ap, subst, ◌∙◌, arith, inl, inr}
use Rattle.std.proofs.lemmas.Bool.{false≢true, and_parts, and_from, eqb-true, eqb-false, le-leb, leb-true}
use Rattle.flat_memory.specs.Memory.{Memory}
use Rattle.x64_instr.specs.declared.instruction.Instr.{Instr}
use Rattle.eh_tables.specs.declared.code.UnwindOperation.{UnwindOperation}
use Rattle.eh_tables.specs.Infos.{Info}
use Rattle.virtual_unwind.specs.Tail.{FetchedInstr, fetched_at}
use Rattle.frame_rules.specs.Epilogue.{is_epilogue}
use Rattle.frame_rules.specs.Body.{restored_by, with_restored, are_restored}
use Rattle.frame_rules.specs.States.{HasItems}
use Rattle.frame_rules.proofs.Tails.{items_rise}
use Rattle.unwind_check.specs.declared.rule.Rule.{Rule}
use Rattle.unwind_check.specs.declared.rule.Rule.TheVariants.{Chain, Codes, Prologue}
use Rattle.unwind_check.specs.declared.rule.Fault.{Fault}
use Rattle.unwind_check.specs.Boundaries.{fault}
use Rattle.unwind_check.specs.Bodies.{is_own}
use Rattle.unwind_check.specs.FailingRules.{CodeEntry, body_begin, primary_of, operations_of, tail_there, loaded_by, IsOwnEpilogue, IsInOwnEpilogue, Fails, place_of, IsFirstOf}
use Rattle.unwind_check.proofs.Reached.{StandsAt, one_there, one_more, not_inside, same_end, same_way, at_most}
use Rattle.unwind_check.proofs.TailSteps.{TailStep, tail_step, no_load}

-- ---- numbers and faults

pub at_or_below : (a b : ℕ) → a ≤ b → (a ≡ b) ⊎ (a < b)
at_or_below a b le = go (eqb a b) refl
  where
    go : (t : Bool) → eqb a b ≡ t → (a ≡ b) ⊎ (a < b)
    go true e = inl (eqb-true a b e)
    go false e = inr (let n = eqb-false a b e in omega (arith, n, le))

pub up_to_or_above : (a b : ℕ) → (a ≤ b) ⊎ (b < a)
up_to_or_above zero b = inl (omega arith)
up_to_or_above (suc a) zero = inr (omega arith)
up_to_or_above (suc a) (suc b) = elim (up_to_or_above a b) [
  | inl h ↦ inl (omega (arith, h))
  | inr h ↦ inr (omega (arith, h))
]

-- a fault, or none, is before a rule that fails at a boundary, or is it
abbrev pub IsBefore : Option Fault → ℕ → Rule → Type 0
IsBefore None b r = ⊥
IsBefore (Some f) b r = IsFirstOf f b r

-- where no earlier rule fails at the same boundary
pub is_first : (e : CodeEntry) (at : ℕ) (rule : Rule) (b : ℕ) (r : Rule) → at ≤ b
    → ((r : Rule) → place_of r < place_of rule → Fails e at r → ⊥) → Fails e b r
    → IsFirstOf (record { at = at; rule = rule }) b r
is_first e at rule b r le none fails = elim (at_or_below at b le) [
  | inr lt ↦ inl lt
  | inl same ↦ elim (up_to_or_above (place_of rule) (place_of r)) [
    | inl h ↦ inr (same, h)
    | inr h ↦ absurd (none r h (subst (λ k. Fails e k r) (sym same) fails))
  ]
]

same_fault : (x y : Fault) → Some x ≡ Some y → x ≡ y
same_fault x y e = cc

pub fault_fails : (e : CodeEntry) (at : ℕ) (rule : Rule) (f : Fault) → fault at rule ≡ Some f
    → Fails e at rule → Fails e f.at f.rule
fault_fails e at rule f is fails = subst (λ (y : Fault). Fails e y.at y.rule)
    (same_fault (record { at = at; rule = rule }) f is) fails

pub both : (o : Option (List Instr)) (is : List Instr) → o ≡ None → o ≡ Some is → ⊥
both o is a b = absurd cc

same_rest : (is js : List Instr) → Some is ≡ Some js → is ≡ js
same_rest is js e = cc

-- ---- what is known of an entry in whose prologue no rule fails, and of where decoding stops

pub record HasGoodPrologue (e : CodeEntry) (stop : ℕ) (whole : Bool) : Type 0 where
  pub low : e.to < 2 ^ 63
  pub inside : body_begin e ≤ e.to
  pub chain : (at : ℕ) → Fails e at Chain → ⊥
  pub codes : (at : ℕ) → Fails e at Codes → ⊥
  pub prologue : (at : ℕ) → Fails e at Prologue → ⊥
  pub most : stop ≤ e.to
  pub none : StandsAt e.memory stop e.to → ⊥
  pub full : whole ≡ true → stop ≡ e.to

-- ---- what is known at a place of the body: the instructions before it, which registers they have
-- loaded, and the instructions of an epilogue that are left

pub record OwnHere (e : CodeEntry) (at end left : ℕ) : Type 0 where
  pub opening : ℕ
  pub is : IsOwnEpilogue e opening end
  pub from : opening ≤ at
  pub rest : List Instr
  pub there : tail_there e at ≡ Some rest
  pub size : length rest ≡ left

pub record Passed (e : CodeEntry) (at : ℕ) (loaded : List ℕ) (left : ℕ) : Type 0 where
  pub done : List FetchedInstr
  pub reached : HasItems e.memory (body_begin e) done at
  pub loads : loaded ≡ loaded_by e [] done
  pub ahead : List FetchedInstr
  pub end : ℕ
  pub going : HasItems e.memory at ahead end
  pub count : length ahead ≡ left
  pub older : (o : ℕ) (before : List FetchedInstr) (rest : List Instr) (all : List FetchedInstr)
      (fin : ℕ) → HasItems e.memory (body_begin e) before o → o < at → tail_there e o ≡ Some rest
      → HasItems e.memory o all fin → length all ≡ length rest → fin ≤ end
  pub own : 0 < left → OwnHere e at end left

loaded_more : (e : CodeEntry) (rs : List ℕ) (xs : List FetchedInstr) (x : FetchedInstr)
    → loaded_by e rs (xs ++ (x ∷ [])) ≡ with_restored (loaded_by e rs xs)
    (restored_by (primary_of e).frame_register (primary_of e).frame_offset (operations_of e)
    x.instr)
loaded_more e rs [] x = refl
loaded_more e rs (w ∷ xs) x = loaded_more e (with_restored rs
    (restored_by (primary_of e).frame_register (primary_of e).frame_offset (operations_of e)
    w.instr)) xs x

no_items : (m : Memory) (at : ℕ) (ys : List FetchedInstr) (end : ℕ) → HasItems m at ys end
    → length ys ≡ 0 → at ≡ end
no_items m at [] end h n = h
no_items m at (y ∷ ys) end h n = absurd (omega (arith, n))

pub some_items : (m : Memory) (at : ℕ) (ys : List FetchedInstr) (end : ℕ) → HasItems m at ys end
    → 0 < length ys → at < end
some_items m at [] end h n = absurd (omega (arith, n))
some_items m at (y ∷ ys) end h n =
    let rise = items_rise m (at + y.size) ys end h.2 in
    let pos = h.1 in
    omega (arith, rise, pos)

-- the first so many
record FirstItems (m : Memory) (at n stop : ℕ) : Type 0 where
  all : List FetchedInstr
  end : ℕ
  ends : HasItems m at all end
  count : length all ≡ n
  most : end ≤ stop

first_items : (m : Memory) (at : ℕ) (xs : List FetchedInstr) (stop n : ℕ) → HasItems m at xs stop
    → n ≤ length xs → FirstItems m at n stop
first_items m at xs stop zero h le = record {
  all = [];
  end = at;
  ends = refl;
  count = refl;
  most = items_rise m at xs stop h;
}
first_items m at [] stop (suc n) h le = absurd (omega (arith, le))
first_items m at (x ∷ xs) stop (suc n) h le =
    let r = first_items m (at + x.size) xs stop n h.2 (omega (arith, le)) in
    record {
      all = x ∷ r.all;
      end = r.end;
      ends = (h.0, h.1, r.ends);
      count = ap (λ k. suc k) r.count;
      most = r.most;
    }

module _ (e : CodeEntry) (stop : ℕ) (whole : Bool) (good : HasGoodPrologue e stop whole) where
  abbrev m : Memory
  m = e.memory

  abbrev i : Info
  i = primary_of e

  abbrev ops : List UnwindOperation
  ops = operations_of e

  abbrev mid : ℕ
  mid = body_begin e

  -- ---- one instruction on

  -- inside an epilogue of the function
  pub in_epilogue : (at : ℕ) (loaded : List ℕ) (left n : ℕ) (x : FetchedInstr) → left ≡ n + 1
      → fetched_at m at ≡ Some x → 0 < x.size → at + x.size ≤ e.to → Passed e at loaded left
      → Passed e (at + x.size) [] n
  in_epilogue at loaded left n x c there pos le p = go p.ahead p.going p.count
    where
      low : at + x.size < 2 ^ 64
      low = let l = good.low in omega (arith, l, le)

      own : OwnHere e at p.end left
      own = p.own (omega (arith, c))

      step : TailStep i.frame_register m at x own.rest
      step = tail_step i.frame_register m at x own.rest low there own.there

      rest_size : length step.rest ≡ n
      rest_size = let a = ap length step.all in let b = own.size in omega (arith, a, b, c)

      go : (ys : List FetchedInstr) → HasItems m at ys p.end → length ys ≡ left
          → Passed e (at + x.size) [] n
      go [] g l = absurd (omega (arith, l, c))
      go (y ∷ ys) g l =
          let same : y ≡ x = one_there m at y x g.0 there in
          record {
            done = p.done ++ (x ∷ []);
            reached = one_more m mid p.done at x p.reached there pos;
            loads = sym (loaded_more e [] p.done x ∙ ap (with_restored (loaded_by e [] p.done))
                (no_load i.frame_register i.frame_offset ops x.plain x.instr step.role));
            ahead = ys;
            end = p.end;
            going = subst (λ (z : FetchedInstr). HasItems m (at + z.size) ys p.end) same g.2;
            count = omega (arith, l, c);
            older = λ o before r all fin h lt t a s.
                elim (not_inside m mid p.done at x before o p.reached there h) [
                  | inr far ↦ absurd (omega (arith, far, lt))
                  | inl near ↦ elim (at_or_below o at near) [
                    | inr below ↦ p.older o before r all fin h below t a s
                    | inl eq ↦
                        let t' : tail_there e at ≡ Some r = subst (λ k. tail_there e k
                        ≡ Some r) eq t in
                        let a' : HasItems m at all fin = subst (λ k. HasItems m k all fin) eq a in
                        let n' = ap length (same_rest own.rest r (sym own.there ∙ t')) in
                        let z = own.size in
                        let f = same_end m at (y ∷ ys) p.end all fin g a' (omega
                        (arith, l, s, n', z)) in
                        omega (arith, f)
                  ]
                ];
            own = λ z. record {
              opening = own.opening;
              is = own.is;
              from = let f = own.from in omega (arith, f);
              rest = step.rest;
              there = step.next (λ em. let q = ap length em in
                  absurd (omega (arith, q, z, rest_size)));
              size = rest_size;
            };
          }

  -- where no epilogue's trailing part is
  pub outside : (at : ℕ) (loaded : List ℕ) (x : FetchedInstr) → fetched_at m at ≡ Some x
      → 0 < x.size
      → tail_there e at ≡ None → Passed e at loaded 0 → Passed e (at + x.size)
      (with_restored loaded (restored_by i.frame_register i.frame_offset ops x.instr)) 0
  outside at loaded x there pos none p =
      let here = no_items m at p.ahead p.end p.going p.count in
      record {
        done = p.done ++ (x ∷ []);
        reached = one_more m mid p.done at x p.reached there pos;
        loads = ap (λ (rs : List ℕ). with_restored rs
            (restored_by i.frame_register i.frame_offset ops x.instr)) p.loads
            ∙ sym (loaded_more e [] p.done x);
        ahead = [];
        end = at + x.size;
        going = refl;
        count = refl;
        older = λ o before r all fin h lt t a s.
            elim (not_inside m mid p.done at x before o p.reached there h) [
              | inr far ↦ absurd (omega (arith, far, lt))
              | inl near ↦ elim (at_or_below o at near) [
                | inr below ↦
                    let f = p.older o before r all fin h below t a s in
                    omega (arith, f, here)
                | inl eq ↦ absurd (both (tail_there e at) r none
                    (subst (λ k. tail_there e k ≡ Some r) eq t))
              ]
            ];
        own = λ z. absurd (omega (arith, z));
      }

  -- at the opening of an epilogue of the function
  pub opened : (at : ℕ) (loaded : List ℕ) (x : FetchedInstr) (xs : List FetchedInstr)
      (is : List Instr)
      → tail_there e at ≡ Some is
      → is_own i.frame_register i.frame_offset ops loaded (x ∷ xs) is ≡ true
      → HasItems m at (x ∷ xs) stop → Passed e at loaded 0 → Passed e at loaded (length is)
  opened at loaded x xs is there own h p =
      let a = and_parts (are_restored loaded ops)
      (is_epilogue i.frame_register i.frame_offset ops is && leb (length is) (length
      (x ∷ xs))) own in
      let b = and_parts (is_epilogue i.frame_register i.frame_offset ops is)
      (leb (length is) (length (x ∷ xs))) a.1 in
      let t = first_items m at (x ∷ xs) stop (length is) h
      (leb-true (length is) (length (x ∷ xs)) b.1) in
      let here = no_items m at p.ahead p.end p.going p.count in
      let rise = items_rise m at t.all t.end t.ends in
      record {
        done = p.done;
        reached = p.reached;
        loads = p.loads;
        ahead = t.all;
        end = t.end;
        going = t.ends;
        count = t.count;
        older = λ o before r all fin g lt q k s.
            let f = p.older o before r all fin g lt q k s in
            omega (arith, f, here, rise);
        own = λ z. record {
          opening = at;
          is = record {
            done = p.done;
            reached = p.reached;
            rest = is;
            there = there;
            restored = subst (λ (rs : List ℕ). are_restored rs ops ≡ true) p.loads a.0;
            whole = b.0;
            all = t.all;
            ends = t.ends;
            count = t.count;
            inside = let u = t.most in let v = good.most in omega (arith, u, v);
          };
          from = omega arith;
          rest = is;
          there = there;
          size = refl;
        };
      }

  -- where it isn't one of the function
  pub not_own : (at : ℕ) (loaded : List ℕ) (x : FetchedInstr) (xs : List FetchedInstr)
      (is : List Instr) → tail_there e at ≡ Some is
      → is_own i.frame_register i.frame_offset ops loaded (x ∷ xs) is ≡ false
      → HasItems m at (x ∷ xs) stop → Passed e at loaded 0 → IsInOwnEpilogue e at → ⊥
  not_own at loaded x xs is there own h p q =
      let here = no_items m at p.ahead p.end p.going p.count in
      let w = q.is in
      elim (at_or_below q.opening at q.from) [
        | inr below ↦
            let f = p.older q.opening w.done w.rest w.all q.end w.reached below w.there w.ends
            w.count in
            let before = q.before in
            absurd (omega (arith, f, before, here))
        | inl eq ↦
            let r : HasItems m mid w.done at = subst (λ k. HasItems m mid w.done k) eq w.reached in
            let same : w.done ≡ p.done = same_way m mid w.done p.done at r p.reached in
            let t : tail_there e at ≡ Some w.rest = subst (λ k. tail_there e k
            ≡ Some w.rest) eq w.there in
            let rest : w.rest ≡ is = same_rest w.rest is (sym t ∙ there) in
            let ends : HasItems m at w.all q.end = subst
            (λ k. HasItems m k w.all q.end) eq w.ends in
            let n = at_most m at (x ∷ xs) stop w.all q.end e.to h ends w.inside good.none in
            let c = w.count in
            let d = ap length rest in
            let restored = subst (λ (rs : List ℕ). are_restored rs ops ≡ true)
            (ap (loaded_by e []) same ∙ sym p.loads) w.restored in
            let whole = subst (λ (js : List Instr).
            is_epilogue i.frame_register i.frame_offset ops js ≡ true) rest w.whole in
            false≢true (sym own ∙ and_from (are_restored loaded ops)
            (is_epilogue i.frame_register i.frame_offset ops is && leb (length is) (length
            (x ∷ xs)))
            restored (and_from (is_epilogue i.frame_register i.frame_offset ops is)
            (leb (length is) (length (x ∷ xs))) whole
            (le-leb (length is) (length (x ∷ xs)) (omega (arith, n, c, d)))))
      ]
