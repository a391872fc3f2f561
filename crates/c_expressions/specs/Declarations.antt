-- The declarations of open blocks, and the innermost one of each name.
use Rattle.std.specs.Prelude.{◌≡◌, ℕ, nat_eq, if◌then◌else◌, List, [], ◌∷◌, ◌++◌, map, length, Option, Some, None}
use Rattle.std.specs.Borrow.{Bor}
use Rattle.std.specs.Cmp.Lexicographic.{pointwise}
use Rattle.std.specs.Global.{Vec}
use Rattle.std.specs.Map.{lookup}
use Rattle.indexmap.specs.IndexMap.{insert_entry}
use Rattle.c_expressions.specs.Entities.{entity}
use Rattle.c_expressions.specs.declared.symbol_table.Declaration.{Declaration}
use Rattle.c_expressions.specs.declared.symbol_table.Innermost.{Innermost}
use Rattle.c_resolved.specs.Scopes.{Scope, same_bytes}

-- the declarations of a block, the latest first
abbrev pub latest : List Declaration → List Declaration
latest [] = []
latest (d ∷ ds) = latest ds ++ d ∷ []

-- those of blocks, the innermost and latest first
abbrev pub latest_blocks : List (Vec Declaration) → List (List Declaration)
latest_blocks [] = []
latest_blocks (b ∷ bs) = latest_blocks bs ++ latest b.items ∷ []

abbrev pub scope : List Declaration → Scope
scope ds = map (λ d. (d.name.now, entity d.meaning)) ds

-- the innermost declaration of a name, in a block with so many blocks around, where it has none
-- that it declares and the name is declared so outside
abbrev pub found_from : ℕ → List Declaration → Option Innermost → List ℕ → Option Innermost
found_from depth [] outside n = outside
found_from depth (d ∷ ds) outside n =
    if same_bytes d.name.now n then Some (record { depth = depth; meaning = d.meaning })
    else found_from depth ds outside n

abbrev pub found : List (List Declaration) → List ℕ → Option Innermost
found [] n = None
found (b ∷ bs) n = found_from (length bs) b (found bs n) n

-- each has what it hides
abbrev pub Hide : ℕ → List Declaration → (List ℕ → Option Innermost) → Type 0
Hide depth [] outside = Unit {0}
Hide depth (d ∷ ds) outside =
    (d.hidden ≡ found_from depth ds (outside d.name.now) d.name.now) × Hide depth ds outside

abbrev pub AllHide : List (List Declaration) → Type 0
AllHide [] = Unit {0}
AllHide (b ∷ bs) = Hide (length bs) b (found bs) × AllHide bs

-- ---- the innermost declarations by name

abbrev pub kept_as : Option (Option Innermost) → Option Innermost
kept_as None = None
kept_as (Some i) = i

abbrev pub innermost_of : List (Bor (List ℕ) × Option Innermost) → List ℕ → Option Innermost
innermost_of es n = kept_as (lookup (λ k. pointwise nat_eq n k.now) es)

pub record AreInnermost (es : List (Bor (List ℕ) × Option Innermost))
    (blocks : List (List Declaration)) : Type 0 where
  pub each : (n : List ℕ) → innermost_of es n ≡ found blocks n
  pub hidden : AllHide blocks

-- ---- a change of the index

-- with the innermost declaration of a name
abbrev pub with_innermost : List (Bor (List ℕ) × Option Innermost) → Bor (List ℕ)
    → Option Innermost → List (Bor (List ℕ) × Option Innermost)
with_innermost es name i = insert_entry (λ a b. pointwise nat_eq a.now b.now) es name i

-- Where the innermost declarations are those of a block with these declarations, they are
-- afterwards those of the block with the others left alone.
abbrev pub Uncovers : List (Bor (List ℕ) × Option Innermost)
    → List (Bor (List ℕ) × Option Innermost) → List Declaration → List Declaration → Type 0
Uncovers before after ds left =
    (depth : ℕ) (outside : List ℕ → Option Innermost) → Hide depth (latest ds) outside
    → ((n : List ℕ) → innermost_of before n ≡ found_from depth (latest ds) (outside n) n)
    → Hide depth (latest left) outside
    × ((n : List ℕ) → innermost_of after n ≡ found_from depth (latest left) (outside n) n)
