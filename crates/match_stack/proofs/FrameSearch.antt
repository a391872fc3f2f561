-- In one frame a search asks the record of the first handler.
use Rattle.std.proofs.Common.{◌≡◌, ◌⊎◌, inl, inr, ℕ, suc, ◌+◌, Bool, true, false, cond, Option, Some, None, List, [], ◌∷◌, drop, refl, ap, ◌∙◌, arith}
use Rattle.std.specs.Prelude.{filter, ◌==◌, ◌++◌}
use Rattle.std.specs.List.{AllByRecursion}
use Rattle.match_stack.specs.Words.{ScopeRecord, Functions, distance, holding, first_with_jump_target, Funclet, row_before, Region, RegionKind, LinearProgram, BodyName, holds, handlers_in, ImagePlan, InCode, IsHandlerRow, IsOfKind, AreRegions, HasRows, NoHandler, FirstHandler, handlers_of, SearchFindsTheHandlers}
use Rattle.seh_walk.specs.Asked as rows
use Rattle.linear_code.specs.declared.program.RegionKind.TheVariants as kinds
use Rattle.match_stack.proofs.ScopeRows.{row_before_dropped, regions_dropped, dropped_again, all_dropped, none_asked, none_held_from}

module _ (t : Functions) (fs : List Funclet) (program : LinearProgram) (p : ImagePlan)
    (name : BodyName) (next label rip : ℕ) (inside : InCode p name label rip) where
  abbrev rva : ℕ
  rva = distance t.base rip

  -- the first handler of a rear part, by its place there
  pub record First (n : ℕ) (xs : List ScopeRecord) (rs : List Region) : Type 0 where
    pub off : ℕ
    pub row : ScopeRecord
    pub filters : Option ℕ
    pub target : ℕ
    pub first : first_with_jump_target (holding rva n xs) ≡ Some (n + off, row)
    pub is : IsHandlerRow t fs program p name row filters target
    pub handlers :
        (activation depth : ℕ) → handlers_in (filter (holds next) rs) activation depth
        ≡ record { filter = filters; activation = activation; depth = depth; target = target }
        ∷ handlers_in (filter (holds next) (drop (suc off) rs)) activation depth
    pub before : row_before xs (suc off) ≡ Some row

  abbrev pub Found : ℕ → List ScopeRecord → List Region → Type 0
  Found n xs rs = NoHandler t fs program p (holding rva n xs) (filter (holds next) rs)
      ⊎ First n xs rs

  -- a first handler of the rest is one of the whole
  deeper : (n : ℕ) (x : ScopeRecord) (xs : List ScopeRecord) (r : Region) (rs : List Region)
      → first_with_jump_target (holding rva n (x ∷ xs))
      ≡ first_with_jump_target (holding rva (n + 1) xs)
      → ((a d : ℕ) → handlers_in (filter (holds next) (r ∷ rs)) a d
      ≡ handlers_in (filter (holds next) rs) a d) → Found (n + 1) xs rs → Found n (x ∷ xs) (r ∷ rs)
  deeper n x xs r rs e h (inl none) = inl (record
      { first = e ∙ none.first; handlers = λ a d. h a d ∙ none.handlers a d })
  deeper n x xs r rs e h (inr f) =
      inr (record {
        off = suc f.off;
        row = f.row;
        filters = f.filters;
        target = f.target;
        first = e ∙ f.first ∙ ap (λ k. Some (k, f.row))
            (let a : n + 1 + f.off ≡ n + suc f.off = omega arith in a);
        is = f.is;
        handlers = λ a d. h a d ∙ f.handlers a d;
        before = f.before;
      })

  -- a row that isn't asked
  skipped : (n : ℕ) (x : ScopeRecord) (xs : List ScopeRecord) (r : Region) (rs : List Region)
      → rows.holds x rva ≡ false → holds next r ≡ false → Found (n + 1) xs rs
      → Found n (x ∷ xs) (r ∷ rs)
  skipped n x xs r rs e h more =
      deeper n x xs r rs
      (ap (λ b. first_with_jump_target (cond b ((n, x) ∷ holding rva (n + 1) xs)
      (holding rva (n + 1) xs))) e)
      (λ a d. ap (λ b. handlers_in (cond b (r ∷ filter (holds next) rs) (filter (holds next) rs)) a
      d) h) more

  module _ (n : ℕ) (x : ScopeRecord) (xs : List ScopeRecord) (r : Region) (rs : List Region)
      (e : rows.holds x rva ≡ true) (h : holds next r ≡ true) where
    -- the record and the region are first
    rows_first : first_with_jump_target (holding rva n (x ∷ xs))
        ≡ first_with_jump_target ((n, x) ∷ holding rva (n + 1) xs)
    rows_first = ap (λ b. first_with_jump_target
        (cond b ((n, x) ∷ holding rva (n + 1) xs) (holding rva (n + 1) xs))) e

    regions_first : (k : RegionKind) → r.kind ≡ k → (a d : ℕ)
        → handlers_in (filter (holds next) (r ∷ rs)) a d
        ≡ handlers_of k a d ++ handlers_in (filter (holds next) rs) a d
    regions_first k q a d =
        ap (λ b. handlers_in (cond b (r ∷ filter (holds next) rs) (filter (holds next) rs)) a d) h
        ∙ ap (λ (k : RegionKind). handlers_of k a d ++ handlers_in (filter (holds next) rs) a d) q

    jumps : (b : Bool) → (x.jump_target == 0) ≡ b
        → first_with_jump_target ((n, x) ∷ holding rva (n + 1) xs)
        ≡ cond b (first_with_jump_target (holding rva (n + 1) xs)) (Some (n, x))
    jumps b q = ap (λ b. cond b (first_with_jump_target (holding rva (n + 1) xs)) (Some (n, x))) q

    here : (filters : Option ℕ) (target : ℕ) → IsHandlerRow t fs program p name x filters target
        → (x.jump_target == 0) ≡ false
        → ((a d : ℕ) → handlers_in (filter (holds next) (r ∷ rs)) a d
        ≡ record { filter = filters; activation = a; depth = d; target = target }
        ∷ handlers_in (filter (holds next) rs) a d) → First n (x ∷ xs) (r ∷ rs)
    here filters target is q more =
        record {
          off = 0;
          row = x;
          filters = filters;
          target = target;
          first = rows_first ∙ jumps false q ∙ ap (λ k. Some (k, x))
              (let a : n ≡ n + 0 = omega arith in a);
          is = is;
          handlers = more;
          before = refl;
        }

    asked : (k : RegionKind) → r.kind ≡ k → IsOfKind t fs program p name x k → Found (n + 1) xs rs
        → Found n (x ∷ xs) (r ∷ rs)
    asked (kinds.Finally k) q is more = deeper n x xs r rs (rows_first ∙ jumps true is.none)
        (regions_first (kinds.Finally k) q) more
    asked (kinds.Filter k target) q is more = inr
        (here (Some k) target is is.to.jumps (regions_first (kinds.Filter k target) q))
    asked (kinds.Always target) q is more = inr
        (here None target is is.to.jumps (regions_first (kinds.Always target) q))

  -- the regions that hold the one instruction hold the other
  abbrev pub Same : List Region → Type 0
  Same rs = AllByRecursion (λ (r : Region). holds label r ≡ holds next r) rs

  pub first_handler : (n : ℕ) (xs : List ScopeRecord) (rs : List Region)
      → AreRegions t fs program p name xs rs → Same rs → Found n xs rs
  first_handler n [] [] s same = inl (record { first = refl; handlers = λ a d. refl })
  first_handler n (x ∷ xs) (r ∷ rs) s same = by (first_handler (n + 1) xs rs s.1 same.1)
      (holds next r) refl
    where
      by : Found (n + 1) xs rs → (b : Bool) → holds next r ≡ b → Found n (x ∷ xs) (r ∷ rs)
      by more true h = asked n x xs r rs (s.0.holds label rip inside ∙ same.0 ∙ h) h r.kind refl
          s.0.kind more
      by more false h = skipped n x xs r rs (s.0.holds label rip inside ∙ same.0 ∙ h) h more
  first_handler n [] (r ∷ rs) s same = absurd s
  first_handler n (x ∷ xs) [] s same = absurd s

pub search_finds_the_handlers : SearchFindsTheHandlers
search_finds_the_handlers t fs program p name next rip row scopes rs s = by s.rows
  where
    of : Found t fs program p name next s.label rip s.inside row (drop row scopes) (drop row rs)
        → NoHandler t fs program p (holding (distance t.base rip) row (drop row scopes))
        (filter (holds next) (drop row rs))
        ⊎ FirstHandler t fs program p name scopes
        (holding (distance t.base rip) row (drop row scopes)) (filter (holds next) (drop row rs))
        (λ row. filter (holds next) (drop row rs))
    of (inl none) = inl none
    of (inr f) =
        inr (record {
          index = row + f.off;
          row = f.row;
          filter = f.filters;
          target = f.target;
          first = f.first;
          is = f.is;
          handlers = λ a d. f.handlers a d ∙ ap
              (λ (rs : List Region). record {
                filter = f.filters;
                activation = a;
                depth = d;
                target = f.target;
              } ∷ handlers_in (filter (holds next) rs) a d)
              (dropped_again row f.off (row + f.off) rs refl);
          before = ap (row_before scopes) (let a : row + f.off + 1
              ≡ suc (row + f.off) = omega arith in a)
              ∙ row_before_dropped row f.off scopes f.row f.before;
        })

    by : HasRows t fs program p name s.label scopes rs
        → NoHandler t fs program p (holding (distance t.base rip) row (drop row scopes))
        (filter (holds next) (drop row rs))
        ⊎ FirstHandler t fs program p name scopes
        (holding (distance t.base rip) row (drop row scopes)) (filter (holds next) (drop row rs))
        (λ row. filter (holds next) (drop row rs))
    by (inl rows) = of (first_handler t fs program p name next s.label rip s.inside row
        (drop row scopes) (drop row rs) (regions_dropped t fs program p name row scopes rs rows)
        (all_dropped (λ (r : Region). holds s.label r ≡ holds next r) row rs s.same))
    by (inr bare) = inl (record {
      first = ap first_with_jump_target (none_asked (distance t.base rip) row scopes bare.none);
      handlers = λ a d. ap (λ (rs : List Region). handlers_in rs a d)
          (none_held_from s.label next row rs bare.unheld s.same);
    })
